-- Where records take their turns, each socket that the port made has its end, and those that wait do so as they did.
use Rattle.std.proofs.Common.{◌≡◌, ◌⊎◌, inl, inr, ℕ, Bool, true, false, List, [], ◌∷◌, ◌++◌, Option, Some, None, Ok, Err, Result, IfSome, IsSome, refl, sym, ap, subst, ◌∙◌, append-nil, append_assoc}
use Rattle.std.specs.Option.{is_some}
use Rattle.m2_fabric.specs.m2_bytes.declared.memory.NoMemory as memory
use Rattle.m2_turn.specs.m2_core.Calls.{IsOpening}
use Rattle.m2_dispatch.specs.Heard.{Heard}
use Rattle.m2_fabric.specs.declared.port.Connect.{Connect}
use Rattle.m2_fabric.specs.declared.port.Connect.TheVariants as connect
use Rattle.m2_fabric.specs.declared.socket.SocketId.{SocketId}
use Rattle.m2_fabric.specs.End.{SeenEnd}
use Rattle.m2_fabric.specs.Port as port
use Rattle.m2_fabric.specs.Port.{SeenPort}
use Rattle.m2_fabric.specs.Sockets.{is_among}
use Rattle.m2_bytes_fit.specs.m2_feed.FeedNow.{FeedNow}
use Rattle.m2_turn.specs.m2_record.declared.due.Due.{Due}
use Rattle.m2_turn.specs.m2_record.declared.due.Due.TheVariants as due
use Rattle.m2_turn.specs.m2_record.Calls.{with_opened}
use Rattle.m2_turn.specs.m2_record.Due.{due_step}
use Rattle.m2_turn.specs.m2_record.RecordNow.{RecordNow, ends_of, feed_end}
use Rattle.m2_turn.specs.m2_record.Sources.{end_at}
use Rattle.m2_turn.specs.declared.records_turn.RecordsTurn.{RecordsTurn}
use Rattle.m2_turn.specs.declared.records_turn.RecordsTurn.TheVariants as turn
use Rattle.m2_turn.specs.Connecting.{AtPort, DialsFor, Takes}
use Rattle.m2_turn.specs.Halves.{AllHalves}
use Rattle.m2_turn.specs.Outbox.{is_free}
use Rattle.m2_turn.specs.RecordTurn.{Means}
use Rattle.m2_turn.specs.RecordsTurn.{AllAmid, Amid, Around, DialsAndSteps, EachTurns, TurnsEach, TurnsIf, TurnsInOrder, TurnsOne, all_amid, amid, at_port, sides_of, turning_amid}
use Rattle.m2_turn.proofs.m2_record.Ends.{end-first}
use Rattle.m2_growth.specs.Holding.{AreOwn, Holding, all_ends, waiting_at}
use Rattle.m2_growth.specs.GrowthLaws.{at_records}
use Rattle.m2_growth.specs.Records.{ends_of_all}
use Rattle.m2_growth.proofs.Among.{among_one}
use Rattle.m2_growth.proofs.Dials.{dials}
use Rattle.m2_growth.proofs.OneRecord.{all_around, ends_behind, holding, one_advances}
use Rattle.m2_growth.proofs.RecordTurns.{advances_on, turns, turns_one}
use Rattle.m2_growth.specs.Ports.{PortStands}
use Rattle.m2_growth.proofs.InStepStanding.{Stands, both_by, both_then, some_back, some_front, stands_alike, stands_same, stands_then}
use Rattle.m2_fabric.proofs.m2_lemmas.Booleans.{false_isnt_true}
use Rattle.m2_fabric.proofs.Sockets.{among_part}

-- ---- a dial

-- the end that was opened is the record's
opened_there : (e : SeenEnd) (r s : RecordNow) (o : Option FeedNow) → s.core.live.feed ≡ o → IfSome o (λ v. IsOpening r.core.facts e v × (s ≡ record (with_opened v e.id r) { room = s.room })) → IsSome o →
    IsSome (end_at (ends_of s) e.id)
opened_there e r s None is opening some = absurd (false_isnt_true some)
opened_there e r s (Some v) is (opening, _) some =
    let first : ends_of s ≡ e ∷ s.spent = ap (λ x. feed_end x ++ s.spent) is ∙ ap (λ (x : SeenEnd). x ∷ s.spent) (ap (λ (x : FeedNow). x.end) opening) in
    ap (λ es. is_some (end_at es e.id)) first ∙ ap is_some (end-first e s.spent)

-- an end of the record is one of all
among_all : (q : SeenPort) (before rest : List RecordNow) (s : RecordNow) (halves : AllHalves) (k : SocketId) → IsSome (end_at (ends_of s) k) → IsSome (end_at (all_ends (holding q (before ++ s ∷ rest) halves)) k)
among_all q before rest s halves k is =
    ap (λ es. is_some (end_at es k)) (all_around q before rest s halves)
    ∙ some_back (ends_of_all before) (ends_of s ++ (ends_behind rest halves ++ waiting_at q)) k (some_front (ends_of s) (ends_behind rest halves ++ waiting_at q) k is)

takes_stand : (made : Connect SeenEnd) (now : ℕ) (p q : SeenPort) (before rest : List RecordNow) (r s : RecordNow) (halves : AllHalves) →
    port.Connects made r.core.facts.peer p q → Takes made now r s → PortStands (holding p (before ++ r ∷ rest) halves) (holding q (before ++ s ∷ rest) halves)
takes_stand (connect.Made e) now p q before rest r s halves (new, told, h) (mid, room, opened) = record {
  made = λ k is. by_part k (among_part k p.made (e.id ∷ []) (ap (λ (x : SeenPort). is_among k x.made) (sym h) ∙ is));
  gone = [];
  waiting = ap waiting_at (sym h);
}
  where
    mine : IsSome (end_at (ends_of s) e.id)
    mine = opened_there e mid s s.core.live.feed refl opened.0 opened.1

    by_part : (k : SocketId) → (is_among k p.made ≡ true) ⊎ (is_among k (e.id ∷ []) ≡ true) → (is_among k p.made ≡ true) ⊎ IsSome (end_at (all_ends (holding q (before ++ s ∷ rest) halves)) k)
    by_part k (inl was) = inl was
    by_part k (inr is) = inr (among_all q before rest s halves k (subst (λ j. IsSome (end_at (ends_of s) j)) (sym (among_one k e.id is)) mine))
takes_stand connect.Failed now p q before rest r s halves (_, e) t =
    stands_alike (holding p (before ++ r ∷ rest) halves) (holding q (before ++ s ∷ rest) halves) (ap (λ x. x.made) e) (ap (λ x. x.waiting) e)
takes_stand connect.NoMemory now p q before rest r s halves e t =
    stands_same (holding p (before ++ r ∷ rest) halves) (holding q (before ++ s ∷ rest) halves) e

rests : (old new : AtPort) (before rest : List RecordNow) (halves : AllHalves) → new ≡ old → PortStands (holding old.port (before ++ old.side ∷ rest) halves) (holding new.port (before ++ new.side ∷ rest) halves)
rests old new before rest halves e = stands_same (holding old.port (before ++ old.side ∷ rest) halves) (holding new.port (before ++ new.side ∷ rest) halves) (ap (λ (a : AtPort). a.port) e)

dials_for : (d : Due) (result : Result (Unit {0}) memory.NoMemory) (now : ℕ) (old new : AtPort) (before rest : List RecordNow) (halves : AllHalves) → DialsFor d result now old new →
    PortStands (holding old.port (before ++ old.side ∷ rest) halves) (holding new.port (before ++ new.side ∷ rest) halves)
dials_for (due.Connect at) result now old new before rest halves d = takes_stand d.made now old.port new.port before rest old.side new.side halves d.port d.takes
dials_for due.Nothing result now old new before rest halves (_, e) = rests old new before rest halves e
dials_for due.Plan result now old new before rest halves (_, e) = rests old new before rest halves e
dials_for due.Hand result now old new before rest halves (_, e) = rests old new before rest halves e
dials_for due.Write result now old new before rest halves (_, e) = rests old new before rest halves e
dials_for due.Frame result now old new before rest halves (_, e) = rests old new before rest halves e
dials_for due.Read result now old new before rest halves (_, e) = rests old new before rest halves e
dials_for due.Compose result now old new before rest halves (_, e) = rests old new before rest halves e

-- ---- the turn of a record

module _ {D : Type 0} (heard : D → List Heard) (m : Means) where
  -- what a center has, with this record between those
  abbrev with_one : List RecordNow → List RecordNow → AllHalves → Amid D → Holding
  with_one before rest halves a = holding a.around.port (before ++ a.side ∷ rest) halves

  dials_and_steps : (result : RecordsTurn) (old new : Amid D) (before rest : List RecordNow) (halves : AllHalves) → DialsAndSteps heard m result old new →
      AreOwn (with_one before rest halves old) → PortStands (with_one before rest halves old) (with_one before rest halves new)
  dials_and_steps result old new before rest halves d own =
      let first = dials (Ok tt) m.now (at_port old) d.mid before rest halves d.dials own in
      let stepped = turns heard m d.ended (turning_amid d.mid.side old.around) (turning_amid new.side new.around) d.turns in
      stands_then (with_one before rest halves old) (holding d.mid.port (before ++ d.mid.side ∷ rest) halves) (with_one before rest halves new)
      (dials_for (due_step m.now old.side) (Ok tt) m.now (at_port old) d.mid before rest halves d.dials)
      (stands_same (holding d.mid.port (before ++ d.mid.side ∷ rest) halves) (with_one before rest halves new) d.port)
      (one_advances d.mid.port new.around.port before rest d.mid.side new.side halves (record { at = ap (λ x. x.at) d.port; made = ap (λ x. x.made) d.port; waiting = ap (λ x. x.waiting) d.port })
      (advances_on d.mid.side new.side stepped) stepped.moves.stands.ends first.own)

  turns_if : (free : Bool) (result : RecordsTurn) (old new : Amid D) (before rest : List RecordNow) (halves : AllHalves) → TurnsIf free heard m result old new →
      AreOwn (with_one before rest halves old) → PortStands (with_one before rest halves old) (with_one before rest halves new)
  turns_if true turn.Done old new before rest halves d own = dials_and_steps turn.Done old new before rest halves d own
  turns_if true turn.NoMemory old new before rest halves (inl d) own = dials_for (due_step m.now old.side) (Err (record {})) m.now (at_port old) (at_port new) before rest halves d.dials
  turns_if true turn.NoMemory old new before rest halves (inr d) own = dials_and_steps turn.NoMemory old new before rest halves d own
  turns_if false turn.Done old new before rest halves e own = stands_same (with_one before rest halves old) (with_one before rest halves new) (ap (λ (a : Amid D). a.around.port) e)
  turns_if false turn.NoMemory old new before rest halves e own = absurd e

  one_stands : (result : RecordsTurn) (old new : Amid D) (before rest : List RecordNow) (halves : AllHalves) → TurnsOne heard m result old new →
      AreOwn (with_one before rest halves old) → Stands (with_one before rest halves old) (with_one before rest halves new)
  one_stands result old new before rest halves t own =
      record { grows = turns_one heard m result old new before rest halves t own; port = turns_if (is_free old.around.out) result old new before rest halves t own }

  -- ---- one after another

  each_stands : (done rs rest : List RecordNow) (stood : List (Amid D)) (old new : Around D) (halves : AllHalves) → EachTurns heard m rs stood old new →
      AreOwn (holding old.port (done ++ (rs ++ rest)) halves) → Stands (holding old.port (done ++ (rs ++ rest)) halves) (holding new.port (done ++ (sides_of stood ++ rest)) halves)
  each_stands done [] rest [] old new halves e own =
      both_by (holding old.port (done ++ rest) halves) (holding new.port (done ++ rest) halves) (ap (λ (a : Around D). holding a.port (done ++ rest) halves) e) own
  each_stands done (r ∷ rs) rest (a ∷ more) old new halves (first, others) own =
      let one = one_stands turn.Done (amid r old) a done (rs ++ rest) halves first own in
      let moved : (done ++ a.side ∷ []) ++ (rs ++ rest) ≡ done ++ a.side ∷ (rs ++ rest) = append_assoc done (a.side ∷ []) (rs ++ rest) in
      let moved_too : (done ++ a.side ∷ []) ++ (sides_of more ++ rest) ≡ done ++ a.side ∷ (sides_of more ++ rest) = append_assoc done (a.side ∷ []) (sides_of more ++ rest) in
      let then_on = each_stands (done ++ a.side ∷ []) rs rest more a.around new halves others (subst (λ l. AreOwn (holding a.around.port l halves)) (sym moved) one.grows.own) in
      both_then (holding old.port (done ++ r ∷ (rs ++ rest)) halves) (holding a.around.port (done ++ a.side ∷ (rs ++ rest)) halves) (holding new.port (done ++ a.side ∷ (sides_of more ++ rest)) halves) one
      (subst (λ l. Stands (holding a.around.port l halves) (holding new.port (done ++ a.side ∷ (sides_of more ++ rest)) halves)) moved
      (subst (λ l. Stands (holding a.around.port ((done ++ a.side ∷ []) ++ (rs ++ rest)) halves) (holding new.port l halves)) moved_too then_on))
  each_stands done [] rest (a ∷ more) old new halves e own = absurd e
  each_stands done (r ∷ rs) rest [] old new halves e own = absurd e

  in_order : (result : RecordsTurn) (old new : AllAmid D) (halves : AllHalves) → TurnsInOrder heard m result old new →
      AreOwn (at_records halves old) → Stands (at_records halves old) (at_records halves new)
  in_order turn.Done old new halves t own =
      let whole = each_stands [] old.records [] t.stood old.around new.around halves t.turns (subst (λ l. AreOwn (holding old.around.port l halves)) (sym (append-nil old.records)) own) in
      subst (λ l. Stands (at_records halves old) (holding new.around.port l halves)) (append-nil (sides_of t.stood) ∙ sym t.records)
      (subst (λ l. Stands (holding old.around.port l halves) (holding new.around.port (sides_of t.stood ++ []) halves)) (append-nil old.records) whole)
  in_order turn.NoMemory old new halves t own =
      let before = each_stands [] t.before (t.at ∷ t.rest) t.stood old.around t.mid halves t.turns (subst (λ l. AreOwn (holding old.around.port l halves)) t.split own) in
      let stopped = one_stands turn.NoMemory (amid t.at t.mid) (amid t.left new.around) (sides_of t.stood) t.rest halves t.stops before.grows.own in
      let both = both_then (holding old.around.port (t.before ++ t.at ∷ t.rest) halves) (holding t.mid.port (sides_of t.stood ++ t.at ∷ t.rest) halves) (holding new.around.port (sides_of t.stood ++ t.left ∷ t.rest) halves) before stopped in
      subst (λ l. Stands (at_records halves old) (holding new.around.port l halves)) (sym t.records)
      (subst (λ l. Stands (holding old.around.port l halves) (holding new.around.port (sides_of t.stood ++ t.left ∷ t.rest) halves)) (sym t.split) both)

-- the letter that is held is tried again first, which the port and the records don't feel
pub records_stand : {D : Type 0} (heard : D → List Heard) (m : Means) (result : RecordsTurn) (halves : AllHalves) (old new : AllAmid D) → TurnsEach heard m result old new →
    AreOwn (at_records halves old) → PortStands (at_records halves old) (at_records halves new)
records_stand {D} heard m result halves old new t own =
    let same : holding t.retried.port old.records halves ≡ at_records halves old = ap (λ (a : Around D). holding a.port old.records halves) t.only in
    (subst (λ h. Stands h (at_records halves new)) same
    (in_order heard m result (all_amid old.records t.retried) new halves t.turns (subst AreOwn (sym same) own))).port
