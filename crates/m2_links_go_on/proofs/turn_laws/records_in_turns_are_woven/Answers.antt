-- By what records keep and tell.
use Rattle.m2_links_go_on.proofs.turn_laws.records_in_turns_are_woven.Goals as goal

pub returns : goal.returns
returns c = λ old new turn order.
    let moved = c.told_is_moved.ensures old turn.told in
    c.sides_in_turns_are_woven.ensures old new (record {
      go_on = c.records_go_on.ensures old new turn.go_on;
      got = moved.got;
      written = moved.written;
      flowed = turn.flowed;
      kept = turn.kept;
    }) order
