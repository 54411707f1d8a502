-- The records that were lent come back as many as they were.
use Rattle.std.proofs.Common.{sym, ◌∙◌}
use Rattle.std.specs.List.{AllByRecursion}
use Rattle.m2_turn.specs.Beside.{AllKeepCallers, StayConsistent, served}
use Rattle.m2_turn.specs.Handing.{SaysMore, handed_in}
use Rattle.m2_turn.specs.RecordTurn.{means_of}
use Rattle.m2_turn.specs.RecordsTurn.{TurnsEach, all_amid, around}
use Rattle.m2_turn.specs.Sessions.{IsSupplied, supply_of}
use Rattle.m2_center.proofs.Lent.{came_back, of_both}
use Rattle.m2_center.proofs.turning.step_all.Goals as goal

pub returns-clause-turns : goal.returns-clause-turns
returns-clause-turns g c =
    of_both
    (λ was is. TurnsEach g.D.Dispatcher.heard (means_of c.args.now c.args.work.now) c.turn_each.result (all_amid was (around (g.P.Port.seen c.args.port.now) c.args.out.now c.args.work.now))
    (all_amid is (around (g.P.Port.seen c.turn_each.new.port) c.turn_each.new.out c.turn_each.new.work)))
    _ _ _ _ c.as_mut_slice.ensures.value
    (sym (came_back c.args.records.now.items c.turn_each.new.records c.args.records.now.len (c.turn_each.auto.records ∙ c.as_mut_slice.ensures.len)))
    c.turn_each.ensures.turns

pub returns-clause-supplied : goal.returns-clause-supplied
returns-clause-supplied g c =
    of_both (λ was is. AllByRecursion (IsSupplied (supply_of c.turn_each.new.work) (g.P.Port.seen c.turn_each.new.port).made) is) _ _ _ _ c.as_mut_slice.ensures.value
    (sym (came_back c.args.records.now.items c.turn_each.new.records c.args.records.now.len (c.turn_each.auto.records ∙ c.as_mut_slice.ensures.len)))
    c.turn_each.ensures.supplied

pub returns-clause-consistent : goal.returns-clause-consistent
returns-clause-consistent g c =
    of_both (λ was is. StayConsistent (served c.args.work.now (g.P.Port.seen c.args.port.now).made was) (served c.turn_each.new.work (g.P.Port.seen c.turn_each.new.port).made is)) _ _ _ _ c.as_mut_slice.ensures.value
    (sym (came_back c.args.records.now.items c.turn_each.new.records c.args.records.now.len (c.turn_each.auto.records ∙ c.as_mut_slice.ensures.len)))
    c.turn_each.ensures.consistent

pub returns-clause-keeps : goal.returns-clause-keeps
returns-clause-keeps g c =
    of_both (λ was is. AllKeepCallers (g.P.Port.seen c.args.port.now).made was is) _ _ _ _ c.as_mut_slice.ensures.value
    (sym (came_back c.args.records.now.items c.turn_each.new.records c.args.records.now.len (c.turn_each.auto.records ∙ c.as_mut_slice.ensures.len)))
    c.turn_each.ensures.keeps

pub returns-clause-handed : goal.returns-clause-handed
returns-clause-handed g c =
    of_both (λ was is. SaysMore c.args.handed.now c.turn_each.new.handed (handed_in was) (handed_in is)) _ _ _ _ c.as_mut_slice.ensures.value
    (sym (came_back c.args.records.now.items c.turn_each.new.records c.args.records.now.len (c.turn_each.auto.records ∙ c.as_mut_slice.ensures.len)))
    c.turn_each.ensures.handed
