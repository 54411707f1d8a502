-- One link's flows more.
use Rattle.std.proofs.Common.{◌+◌, ◌<◌, length, drop, get_or, ap, arith}
use Rattle.std.specs.Prelude.{flat_map}
use Rattle.std.proofs.lemmas.Result.{err_from_is_err_and}
use Rattle.m2_dispatch.specs.Heard.{heard_by}
use Rattle.m2_script.specs.Script.{both_flow}
use Rattle.m2_script.proofs.Deeds.{amid_first, amid_last, amid_next, amid_stops, can_next}
use Rattle.m2_script.proofs.Splits.{next_flows, no_link, none_past}
use Rattle.m2_script.proofs.lines.Run.flow_all.Goals as goal

pub loop-link-init : goal.loop-link-init
loop-link-init g c = amid_first g.row.P-End.Denot heard_by (flat_map both_flow c.args.links.now) c.args.self.now c.requires

pub flow_both-requires : goal.flow_both-requires
flow_both-requires g c =
    let l = c.loop-link in
    let x = get_or c.args.links.now l.link-index no_link in
    let below : l.link-index < length c.args.links.now = omega arith in
    can_next g.row.P-End.Denot heard_by (flat_map both_flow (drop l.link-index c.args.links.now)) (both_flow x) (flat_map both_flow (drop (l.link-index + 1) c.args.links.now))
    (flat_map both_flow c.args.links.now) (next_flows c.args.links.now l.link-index below) c.args.self.now l.self l.self l.invariant

pub loop-link-preserved : goal.loop-link-preserved
loop-link-preserved g c =
    let l = c.loop-link in
    let x = get_or c.args.links.now l.link-index no_link in
    let below : l.link-index < length c.args.links.now = omega arith in
    amid_next g.row.P-End.Denot heard_by (flat_map both_flow (drop l.link-index c.args.links.now)) (both_flow x) (flat_map both_flow (drop (l.link-index + 1) c.args.links.now))
    (flat_map both_flow c.args.links.now) (next_flows c.args.links.now l.link-index below) c.args.self.now l.self c.flow_both.new.self l.invariant c.in_ok-flow_both.ensures

pub returns-in_err-flow_both : goal.returns-in_err-flow_both
returns-in_err-flow_both g c =
    let l = c.loop-link in
    let x = get_or c.args.links.now l.link-index no_link in
    let below : l.link-index < length c.args.links.now = omega arith in
    let p = err_from_is_err_and c.from_residual.result c.from_residual.ensures.1 in
    rw p.1 (amid_stops g.row.P-End.Denot heard_by (flat_map both_flow (drop l.link-index c.args.links.now)) (both_flow x) (flat_map both_flow (drop (l.link-index + 1) c.args.links.now))
    (flat_map both_flow c.args.links.now) (next_flows c.args.links.now l.link-index below) c.args.self.now l.self c.flow_both.new.self l.invariant p.0 c.in_err-flow_both.ensures)

pub returns : goal.returns
returns g c =
    let l = c.loop-link in
    amid_last g.row.P-End.Denot heard_by (flat_map both_flow (drop l.link-index c.args.links.now)) (flat_map both_flow c.args.links.now) c.args.self.now l.self
    (ap (flat_map both_flow) (none_past c.args.links.now l.link-index c.loop-link-test.false)) l.invariant
