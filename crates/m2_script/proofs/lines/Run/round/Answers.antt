-- The flows, and then the turns.
use Rattle.std.specs.Prelude.{flat_map}
use Rattle.std.proofs.lemmas.Result.{err_from_is_err_and}
use Rattle.m2_dispatch.specs.Heard.{heard_by}
use Rattle.m2_script.specs.Script.{both_flow, turns_from}
use Rattle.m2_script.proofs.Deeds.{can_behind, can_first, stops_in, then_all}
use Rattle.m2_script.proofs.lines.Run.round.Goals as goal

pub flow_all-requires : goal.flow_all-requires
flow_all-requires g c =
    can_first g.row.P-End.Denot heard_by (flat_map both_flow c.args.links.now) (turns_from 0 c.args.nodes) c.args.self.now c.requires

pub turn_all-requires : goal.turn_all-requires
turn_all-requires g c =
    can_behind g.row.P-End.Denot heard_by (flat_map both_flow c.args.links.now) (turns_from 0 c.args.nodes) c.args.self.now c.flow_all.new.self c.in_ok-flow_all.ensures c.requires

pub returns-in_err-flow_all : goal.returns-in_err-flow_all
returns-in_err-flow_all g c =
    let p = err_from_is_err_and c.from_residual.result c.from_residual.ensures.1 in
    rw p.1 (stops_in g.row.P-End.Denot heard_by p.0 (flat_map both_flow c.args.links.now) (turns_from 0 c.args.nodes) c.args.self.now c.flow_all.new.self c.in_err-flow_all.ensures)

pub returns : goal.returns
returns g c =
    then_all g.row.P-End.Denot heard_by c.turn_all.result (flat_map both_flow c.args.links.now) (turns_from 0 c.args.nodes) c.args.self.now c.flow_all.new.self c.turn_all.new.self
    c.in_ok-flow_all.ensures c.turn_all.ensures
