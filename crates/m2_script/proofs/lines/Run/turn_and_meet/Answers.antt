-- The turn, and then the meeting.
use Rattle.std.proofs.Common.{[], ◌∷◌}
use Rattle.m2_dispatch.specs.Heard.{heard_by}
use Rattle.m2_script.specs.Script.{meet, turn}
use Rattle.m2_script.proofs.Deeds.{one_ends, then_one}
use Rattle.m2_script.proofs.lines.Run.turn_and_meet.Goals as goal

pub returns : goal.returns
returns g c =
    then_one g.row.P-End.Denot heard_by c.meet.result (turn c.args.node) (meet c.args.node ∷ []) c.args.self.now c.turn.new.self c.meet.new.self c.in_ok-turn.ensures
    (one_ends g.row.P-End.Denot heard_by c.meet.result (meet c.args.node) c.turn.new.self c.meet.new.self c.meet.ensures)
