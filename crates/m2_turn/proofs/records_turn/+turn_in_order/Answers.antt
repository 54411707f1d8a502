use Rattle.m2_shared.specs.Gates.{places}
use Rattle.std.proofs.Common.{◌≡◌, ◌<◌, ◌∷◌, length, ap, arith, subst, sym, ◌∙◌}
use Rattle.std.specs.List.{AllByRecursion}
use Rattle.std.proofs.lemmas.List.{nil_from_length}
use Rattle.m2_shared.specs.Numbers.{SeenNumbers}
use Rattle.m2_turn.specs.declared.records_turn.RecordsTurn.TheVariants as turn
use Rattle.m2_turn.specs.Beside.{AllKeepCallers, TopFits}
use Rattle.m2_turn.specs.Handing.{SaysMore, handed_in}
use Rattle.m2_turn.specs.Outbox.{OwnsAll}
use Rattle.m2_turn.specs.RecordTurn.{means_of}
use Rattle.m2_turn.specs.RecordsTurn.{TurnsInOrder, all_amid, around}
use Rattle.m2_turn.specs.Sessions.{IsSupplied, supply_of}
use Rattle.m2_turn.proofs.InOrder.{none_left, one_more, stops_here}
use Rattle.m2_turn.proofs.Led.{same_means}
use Rattle.m2_turn.proofs.MoreHanded.{says_beside, says_none}
use Rattle.m2_turn.proofs.Told.{all_earlier, all_supplied_on, all_the_same, made_on, supplied_on}
use Rattle.m2_turn.proofs.records_turn.+turn_in_order.Goals as goal

pub turn_in_order-requires : goal.turn_in_order-requires
turn_in_order-requires g t c κs within =
    let split = c.in-Some.ensures.cases.0 in
    let shorter : length c.in-Some.rest.now < length c.args.records.now = omega (arith, c.in-Some.ensures.cases.1) in
    let fit : AllByRecursion TopFits c.in-Some.rest.now = (subst (AllByRecursion TopFits) split c.requires.fit).1 in
    let supplied : AllByRecursion (IsSupplied (supply_of c.turn_one.new.work) (g.P.Port.seen c.turn_one.new.port).made) c.in-Some.rest.now =
    all_supplied_on c.args.work.now c.turn_one.new.work (g.P.Port.seen c.args.port.now).made (g.P.Port.seen c.turn_one.new.port).made c.in-Some.rest.now
    c.turn_one.ensures.same c.turn_one.ensures.reached c.turn_one.ensures.made fit
    (subst (AllByRecursion (IsSupplied (supply_of c.args.work.now) (g.P.Port.seen c.args.port.now).made)) split c.requires.supplied).1 in
    let out : OwnsAll (places c.turn_one.new.work.throttles.now) c.turn_one.new.out =
    subst (λ t. OwnsAll (places t) c.turn_one.new.out) (sym c.turn_one.ensures.same.throttles) c.turn_one.ensures.out in
    let numbers : c.turn_one.new.work.number_pass.now.place ≡ c.turn_one.new.work.numbers.now.place =
    c.turn_one.ensures.number_place ∙ c.requires.numbers ∙ sym (ap (λ (v : SeenNumbers). v.place) c.turn_one.ensures.same.numbers) in
    (subst (λ n. length c.in-Some.rest.now < n) c.decreases shorter, (within.0, (within.1.0, (within.1.1, (numbers, (c.turn_one.ensures.takes, (supplied, (fit, out))))))))

pub returns-in-None-clause-turns : goal.returns-in-None-clause-turns
returns-in-None-clause-turns g t c =
    subst (λ rs. TurnsInOrder g.D.Dispatcher.heard (means_of c.args.now c.args.work.now) turn.Done
    (all_amid rs (around (g.P.Port.seen c.args.port.now) c.args.out.now c.args.work.now)) (all_amid rs (around (g.P.Port.seen c.args.port.now) c.args.out.now c.args.work.now)))
    (sym (nil_from_length c.args.records.now c.in-None.ensures.cases))
    (none_left g.D.Dispatcher.heard (means_of c.args.now c.args.work.now) (around (g.P.Port.seen c.args.port.now) c.args.out.now c.args.work.now))

pub returns-in-None-clause-keeps : goal.returns-in-None-clause-keeps
returns-in-None-clause-keeps g t c = all_the_same (g.P.Port.seen c.args.port.now).made c.args.records.now

pub returns-in-Done-clause-turns : goal.returns-in-Done-clause-turns
returns-in-Done-clause-turns g t c =
    let m = means_of c.args.now c.args.work.now in
    let old = around (g.P.Port.seen c.args.port.now) c.args.out.now c.args.work.now in
    let mid = around (g.P.Port.seen c.turn_one.new.port) c.turn_one.new.out c.turn_one.new.work in
    let new = around (g.P.Port.seen c.turn_in_order.new.port) c.turn_in_order.new.out c.turn_in_order.new.work in
    subst (λ rs. TurnsInOrder g.D.Dispatcher.heard m c.turn_in_order.result (all_amid rs old) (all_amid (c.turn_one.new.side ∷ c.turn_in_order.new.records) new)) (sym c.in-Some.ensures.cases.0)
    (one_more g.D.Dispatcher.heard m c.turn_in_order.result c.in-Some.first.now c.turn_one.new.side c.in-Some.rest.now c.turn_in_order.new.records old mid new c.in-Done.ensures.turns
    (subst (λ n. TurnsInOrder g.D.Dispatcher.heard n c.turn_in_order.result (all_amid c.in-Some.rest.now mid) (all_amid c.turn_in_order.new.records new))
    (same_means c.args.now c.args.work.now c.turn_one.new.work c.turn_one.ensures.same) c.turn_in_order.ensures.turns))

pub returns-in-Done-clause-supplied : goal.returns-in-Done-clause-supplied
returns-in-Done-clause-supplied g t c = (
  supplied_on c.turn_one.new.work c.turn_in_order.new.work (g.P.Port.seen c.turn_one.new.port).made (g.P.Port.seen c.turn_in_order.new.port).made c.turn_one.new.side
      c.turn_in_order.ensures.same c.turn_in_order.ensures.reached c.turn_in_order.ensures.made c.turn_one.ensures.fit c.turn_one.ensures.supplied,
  c.turn_in_order.ensures.supplied,
)

pub returns-in-Done-clause-keeps : goal.returns-in-Done-clause-keeps
returns-in-Done-clause-keeps g t c =
    subst (λ rs. AllKeepCallers (g.P.Port.seen c.args.port.now).made rs (c.turn_one.new.side ∷ c.turn_in_order.new.records)) (sym c.in-Some.ensures.cases.0) (
      c.turn_one.ensures.keeps,
      all_earlier (g.P.Port.seen c.args.port.now).made (g.P.Port.seen c.turn_one.new.port).made c.in-Some.rest.now c.turn_in_order.new.records c.turn_one.ensures.made c.turn_in_order.ensures.keeps,
    )

pub returns-in-Done-clause-made : goal.returns-in-Done-clause-made
returns-in-Done-clause-made g t c =
    made_on (g.P.Port.seen c.args.port.now).made (g.P.Port.seen c.turn_one.new.port).made (g.P.Port.seen c.turn_in_order.new.port).made c.turn_one.ensures.made c.turn_in_order.ensures.made

pub returns-in-Done-clause-reached : goal.returns-in-Done-clause-reached
returns-in-Done-clause-reached g t c n fits h = c.turn_in_order.ensures.reached n fits (c.turn_one.ensures.reached n fits h)

pub returns-in-Done-clause-out : goal.returns-in-Done-clause-out
returns-in-Done-clause-out g t c = subst (λ t. OwnsAll (places t) c.turn_in_order.new.out) c.turn_one.ensures.same.throttles c.turn_in_order.ensures.out

pub returns-in-NoMemory-clause-turns : goal.returns-in-NoMemory-clause-turns
returns-in-NoMemory-clause-turns g t c =
    let m = means_of c.args.now c.args.work.now in
    let old = around (g.P.Port.seen c.args.port.now) c.args.out.now c.args.work.now in
    let new = around (g.P.Port.seen c.turn_one.new.port) c.turn_one.new.out c.turn_one.new.work in
    subst (λ rs. TurnsInOrder g.D.Dispatcher.heard m turn.NoMemory (all_amid rs old) (all_amid (c.turn_one.new.side ∷ c.in-Some.rest.now) new)) (sym c.in-Some.ensures.cases.0)
    (stops_here g.D.Dispatcher.heard m c.in-Some.first.now c.turn_one.new.side c.in-Some.rest.now old new c.in-NoMemory.ensures.turns)

pub returns-in-NoMemory-clause-supplied : goal.returns-in-NoMemory-clause-supplied
returns-in-NoMemory-clause-supplied g t c = (
  c.turn_one.ensures.supplied,
  all_supplied_on c.args.work.now c.turn_one.new.work (g.P.Port.seen c.args.port.now).made (g.P.Port.seen c.turn_one.new.port).made c.in-Some.rest.now
      c.turn_one.ensures.same c.turn_one.ensures.reached c.turn_one.ensures.made (subst (AllByRecursion TopFits) c.in-Some.ensures.cases.0 c.requires.fit).1
      (subst (AllByRecursion (IsSupplied (supply_of c.args.work.now) (g.P.Port.seen c.args.port.now).made)) c.in-Some.ensures.cases.0 c.requires.supplied).1,
)

pub returns-in-NoMemory-clause-keeps : goal.returns-in-NoMemory-clause-keeps
returns-in-NoMemory-clause-keeps g t c =
    subst (λ rs. AllKeepCallers (g.P.Port.seen c.args.port.now).made rs (c.turn_one.new.side ∷ c.in-Some.rest.now)) (sym c.in-Some.ensures.cases.0)
    (c.turn_one.ensures.keeps, all_the_same (g.P.Port.seen c.args.port.now).made c.in-Some.rest.now)

pub returns-in-None-clause-handed : goal.returns-in-None-clause-handed
returns-in-None-clause-handed g t c = says_none c.args.handed.now (handed_in c.args.records.now)

pub returns-in-Done-clause-handed : goal.returns-in-Done-clause-handed
returns-in-Done-clause-handed g t c =
    subst (λ rs. SaysMore c.args.handed.now c.turn_in_order.new.handed (handed_in rs) (handed_in (c.turn_one.new.side ∷ c.turn_in_order.new.records))) (sym c.in-Some.ensures.cases.0)
    (says_beside _ _ _ _ _ _ _ c.turn_one.ensures.handed c.turn_in_order.ensures.handed)

pub returns-in-NoMemory-clause-handed : goal.returns-in-NoMemory-clause-handed
returns-in-NoMemory-clause-handed g t c =
    subst (λ rs. SaysMore c.args.handed.now c.turn_one.new.handed (handed_in rs) (handed_in (c.turn_one.new.side ∷ c.in-Some.rest.now))) (sym c.in-Some.ensures.cases.0)
    (says_beside _ _ _ _ _ _ _ c.turn_one.ensures.handed (says_none c.turn_one.new.handed (handed_in c.in-Some.rest.now)))
