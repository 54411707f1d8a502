-- What is held by a center's records and where their parcels go, behind the turn of all.
use Rattle.std.proofs.Common.{◌≡◌, ◌&&◌, ◌||◌, ℕ, ◌+◌, ◌-◌, ◌++◌, List, [], ◌∷◌, Bool, true, false, Option, None, Some, Result, Ok, Err, inl, inr, refl, sym, subst, ◌∙◌, ap, arith}
use Rattle.std.specs.Prelude.{IfSome, IsSome, nat_le}
use Rattle.std.specs.List.{AllByRecursion}
use Rattle.m2_dispatch.specs.Heard.{Heard}
use Rattle.m2_dispatch.specs.declared.letter.Letter.{Letter}
use Rattle.m2_dispatch.specs.m2_shared.Gates.{Gate, Return, places, words}
use Rattle.m2_fabric.proofs.m2_lemmas.Lists.{all_back, all_front}
use Rattle.m2_fabric.specs.End.{SeenEnd}
use Rattle.m2_fabric.specs.declared.port.Connect.{Connect}
use Rattle.m2_fabric.specs.declared.port.Connect.TheVariants as connect
use Rattle.m2_fabric.specs.m2_bytes.declared.memory.NoMemory as memory
use Rattle.m2_script.proofs.m2_center.m2_turn.m2_record.DueSteps.{due-holds}
use Rattle.m2_script.specs.m2_center.m2_core.CoreNow.{may_dial}
use Rattle.m2_script.specs.m2_center.m2_core.LiveNow.{HoldsNothing, is_ready}
use Rattle.m2_script.specs.m2_center.m2_feed.FeedNow.{FeedNow}
use Rattle.m2_script.specs.m2_center.m2_feed.m2_session.Dials.{at_rest}
use Rattle.m2_script.specs.m2_center.m2_feed.m2_session.Phases as phases
use Rattle.m2_script.specs.m2_center.m2_feed.m2_session.declared.event.Event.TheVariants as event
use Rattle.m2_script.specs.m2_center.m2_feed.m2_session.declared.session.Phase.{Phase}
use Rattle.m2_script.specs.m2_center.m2_feed.m2_session.declared.session.Phase.TheVariants as phase
use Rattle.m2_script.specs.m2_center.m2_record.Calls.{Connects, with_opened}
use Rattle.m2_script.specs.m2_center.m2_core.Calls.{IsOpening}
use Rattle.m2_script.specs.m2_center.m2_record.Due.{due_step}
use Rattle.m2_script.specs.m2_center.m2_record.RecordNow.{RecordNow}
use Rattle.m2_script.specs.m2_center.m2_record.declared.due.Due.{Due}
use Rattle.m2_script.specs.m2_center.m2_record.declared.due.Due.TheVariants as due
use Rattle.m2_script.specs.m2_center.m2_turn.Connecting.{AtPort, DialsFor, DialsIfDue, Takes}
use Rattle.m2_script.specs.m2_center.m2_turn.Outbox as out
use Rattle.m2_script.specs.m2_center.m2_turn.Outbox.{OutboxNow, RetriesFor, held_in, is_free, returned_again}
use Rattle.m2_script.specs.m2_center.m2_turn.RecordTurn.{Means, TurnsAs}
use Rattle.m2_script.specs.m2_center.m2_turn.RecordsTurn.{AllAmid, Amid, Around, DialsAndSteps, EachTurns, TurnsEach, TurnsIf, amid, at_port, come_to, sides_of, turning_amid}
use Rattle.m2_script.specs.m2_center.m2_turn.declared.record_turn.RecordTurn.{RecordTurn}
use Rattle.m2_script.specs.m2_center.m2_turn.declared.record_turn.RecordTurn.TheVariants as one
use Rattle.m2_script.specs.m2_center.m2_turn.declared.records_turn.RecordsTurn.TheVariants as turn
use Rattle.m2_exact.proofs.HeldCores as cores
use Rattle.m2_exact.proofs.HeldSteps as steps
use Rattle.m2_exact.proofs.HeldSteps.{Less, nothing}
use Rattle.m2_exact.proofs.HeldSums as sums
use Rattle.m2_exact.proofs.HeldSums.{Follows}
use Rattle.m2_exact.proofs.HeldTurns as turns
use Rattle.m2_exact.proofs.RecordsTurns.{done_memory}
use Rattle.m2_exact.specs.Holding.{AreAlone, HoldsRightly, held_in_record, held_in_records}

-- ---- a connect

-- it is due outside Ready
dials_idle : (now : ℕ) (r : RecordNow) (to : ℕ) → due_step now r ≡ due.Connect to → is_ready r.core.live ≡ false
dials_idle now r to h =
    rests r.core.live.session.phase _ _
    (first (may_dial r.core) (nat_le r.waits.next_dial now)
    (due-holds now r (due.Connect to) h))
  where
    first : (a b : Bool) → (a && b) ≡ true → a ≡ true
    first true b h = refl
    first false b h = absurd (cc h)

    rests : (p : Phase) (a b : Bool) → (a && ((phases.is_among p at_rest && b) || phases.is p phase.Wait)) ≡ true → phases.is p phase.Ready ≡ false
    rests phase.Ready true b h = absurd (cc h)
    rests phase.Ready false b h = absurd (cc h)
    rests phase.Absent a b h = refl
    rests phase.Connecting a b h = refl
    rests phase.IdentSent a b h = refl
    rests phase.ReconnectSent a b h = refl
    rests phase.Standby a b h = refl
    rests phase.Wait a b h = refl

connects : (e : SeenEnd) (mid new : RecordNow) → HoldsRightly mid → is_ready mid.core.live ≡ false → Connects e mid new → Less nothing mid new
connects e mid new r idle (each, some) = by_feed new.core.live.feed each some
  where
    none : HoldsNothing mid.core.live.granted
    none = cores.idle mid.core.facts mid.core.live r idle

    by_feed : (x : Option FeedNow) → IfSome x (λ v. IsOpening mid.core.facts e v × (new ≡ record (with_opened v e.id mid) { room = new.room })) → IsSome x → Less nothing mid new
    by_feed (Some v) (is, only) some =
        let granted : new.core.live.granted ≡ mid.core.live.granted = ap (λ (z : RecordNow). z.core.live.granted) only ∙ cores.none_still event.Dialled mid.core.live none in
        record {
          amount = steps.no_less mid new granted (steps.grant_alike mid new (ap (λ (z : RecordNow). z.parcels) only));
          right = cores.none_right new.core.facts new.core.live (subst HoldsNothing (sym granted) none);
        }
    by_feed None each some = absurd (cc some)

takes : (made : Connect SeenEnd) (now : ℕ) (old new : RecordNow) → HoldsRightly old → is_ready old.core.live ≡ false → Takes made now old new → Less nothing old new
takes (connect.Made e) now old new r idle (mid, room, h) =
    let first = steps.same_but_room old mid r room in
    steps.then_less nothing old mid new first (connects e mid new first.right (ap (λ (z : RecordNow). is_ready z.core.live) room ∙ idle) h)
takes connect.Failed now old new r idle (mid, room, is) =
    let first = steps.same_but_room old mid r room in
    steps.then_less nothing old mid new first (steps.by (Less nothing mid) new _ is (record { amount = λ gate. omega arith; right = first.right }))
takes connect.NoMemory now old new r idle room = steps.same_but_room old new r room

dials_for : (d : Due) (result : Result (Unit {0}) memory.NoMemory) (now : ℕ) (old new : AtPort) → due_step now old.side ≡ d → HoldsRightly old.side → DialsFor d result now old new → Less nothing old.side new.side
dials_for (due.Connect at) result now old new is r h = takes h.made now old.side new.side r (dials_idle now old.side at is) h.takes
dials_for due.Nothing result now old new is r h = steps.same old.side new.side r (ap (λ (x : AtPort). x.side) h.1)
dials_for due.Plan result now old new is r h = steps.same old.side new.side r (ap (λ (x : AtPort). x.side) h.1)
dials_for due.Hand result now old new is r h = steps.same old.side new.side r (ap (λ (x : AtPort). x.side) h.1)
dials_for due.Write result now old new is r h = steps.same old.side new.side r (ap (λ (x : AtPort). x.side) h.1)
dials_for due.Frame result now old new is r h = steps.same old.side new.side r (ap (λ (x : AtPort). x.side) h.1)
dials_for due.Read result now old new is r h = steps.same old.side new.side r (ap (λ (x : AtPort). x.side) h.1)
dials_for due.Compose result now old new is r h = steps.same old.side new.side r (ap (λ (x : AtPort). x.side) h.1)

dials : (result : Result (Unit {0}) memory.NoMemory) (now : ℕ) (old new : AtPort) → HoldsRightly old.side → DialsIfDue result now old new → Less nothing old.side new.side
dials result now old new r h = dials_for (due_step now old.side) result now old new refl r h

-- ---- words

lacks_memory : (r : RecordTurn) → turn.NoMemory ≡ come_to r → r ≡ one.NoMemory
lacks_memory one.NoMemory e = refl
lacks_memory one.Busy e = absurd (cc e)
lacks_memory one.Stuck e = absurd (cc e)
lacks_memory one.Dry e = absurd (cc e)
lacks_memory (one.Full stage n) e = absurd (cc e)
lacks_memory (one.Again stage n k) e = absurd (cc e)
lacks_memory one.Spent e = absurd (cc e)
lacks_memory (one.Faulted f) e = absurd (cc e)

-- by all records, and where parcels go
abbrev pub held_amid : {D : Type 0} → Gate → List RecordNow → Around D → ℕ
held_amid gate rs a = held_in_records gate rs + out.granted_in a.out gate

-- each word goes along with what is held at its gate by these records and by all that is around them, and each holds rightly
pub record Goes {D : Type 0} (was : List RecordNow) (old : Around D) (is : List RecordNow) (new : Around D) : Type 0 where
  pub word : (gate : Gate) → Follows (words old.bytes gate) (words new.bytes gate) (held_amid gate was old) (held_amid gate is new)
  pub right : AllByRecursion HoldsRightly is

module _ {D : Type 0} (heard : D → List Heard) (m : Means) (alone : AreAlone (places m.throttles)) where
  -- ---- one record

  -- by one, and where parcels go
  abbrev held_one : Gate → Amid D → ℕ
  held_one gate x = held_in_record gate x.side + out.granted_in x.around.out gate

  -- the same of one
  record GoesOne (old new : Amid D) : Type 0 where
    pub word : (gate : Gate) → Follows (words old.around.bytes gate) (words new.around.bytes gate) (held_one gate old) (held_one gate new)
    pub right : HoldsRightly new.side

  dials_and_steps : (old new : Amid D) → HoldsRightly old.side → DialsAndSteps heard m turn.Done old new → GoesOne old new
  dials_and_steps old new r h =
      let first = dials (Ok tt) m.now (at_port old) h.mid r h.dials in
      let second = turns.turns heard m alone h.ended (turning_amid h.mid.side old.around) (turning_amid new.side new.around) first.right (done_memory h.ended h.comes) h.turns in
      record { word = λ gate rest e. (let amount = first.amount gate in second.word gate rest (omega (arith, amount, e))); right = second.right }

  turns_if : (free : Bool) (old new : Amid D) → HoldsRightly old.side → TurnsIf free heard m turn.Done old new → GoesOne old new
  turns_if true old new r h = dials_and_steps old new r h
  turns_if false old new r h = subst (GoesOne old) (sym h) (record { word = λ gate rest e. e; right = r })

  stops_in_step : (old new : Amid D) → HoldsRightly old.side → DialsAndSteps heard m turn.NoMemory old new →
      (gate : Gate) → Follows (words old.around.bytes gate) (words new.around.bytes gate) (held_one gate old) (held_one gate new)
  stops_in_step old new r h gate rest e =
      let first = dials (Ok tt) m.now (at_port old) h.mid r h.dials in
      let second = turns.stops heard m alone (turning_amid h.mid.side old.around) (turning_amid new.side new.around) first.right
      (subst (λ (x : RecordTurn). TurnsAs heard m x (turning_amid h.mid.side old.around) (turning_amid new.side new.around)) (lacks_memory h.ended h.comes) h.turns) in
      let amount = first.amount gate in
      second gate rest (omega (arith, amount, e))

  stops_if : (free : Bool) (old new : Amid D) → HoldsRightly old.side → TurnsIf free heard m turn.NoMemory old new →
      (gate : Gate) → Follows (words old.around.bytes gate) (words new.around.bytes gate) (held_one gate old) (held_one gate new)
  stops_if true old new r (inl h) gate =
      let side = (dials (Err (record {})) m.now (at_port old) (at_port new) r h.dials).amount gate in
      let word = ap (λ (x : Around D). words x.bytes gate) h.only in
      let all = ap (λ (x : Around D). out.granted_in x.out gate) h.only in
      λ rest e. omega (arith, side, word, all, e)
  stops_if true old new r (inr h) gate = stops_in_step old new r h gate
  stops_if false old new r h gate = absurd h

  -- ---- all of them

  itself : (a new : Around D) → new ≡ a → Goes [] a [] new
  itself a new e = subst (Goes [] a []) (sym e) (record { word = λ gate rest h. h; right = tt })

  each : (rs : List RecordNow) (stood : List (Amid D)) (a new : Around D) → AllByRecursion HoldsRightly rs → EachTurns heard m rs stood a new → Goes rs a (sides_of stood) new
  each [] [] a new r h = itself a new h
  each [] (x ∷ xs) a new r h = absurd h
  each (s ∷ rs) [] a new r h = absurd h
  each (s ∷ rs) (x ∷ xs) a new r (h, rest) =
      let here = turns_if (is_free a.out) (amid s a) x r.0 h in
      let others = each rs xs x.around new r.1 rest in
      record {
        word = λ gate k e.
            (let was = sums.sum_first (held_in_record gate) s rs in
            let is = sums.sum_first (held_in_record gate) x.side (sides_of xs) in
            let first = here.word gate (held_in_records gate rs + k) (omega (arith, was, e)) in
            let second = others.word gate (held_in_record gate x.side + k) (omega (arith, first)) in
            omega (arith, is, second));
        right = (here.right, others.right);
      }

  -- ---- the letter that was held

  retries : (gate : Gate) (h : Option Letter) (o new : OutboxNow D) → o.held ≡ h → RetriesFor heard h o new → out.granted_in new gate + returned_again h new.held gate ≡ out.granted_in o gate
  retries gate (Some l) o new is h =
      let was = ap (λ (x : Option Letter). held_in x gate) is in
      let all = turns.dispatched heard gate l o new new.held refl h in
      omega (arith, was, all)
  retries gate None o new is h = let all = ap (λ (x : OutboxNow D). out.granted_in x gate) h in omega (arith, all)

  module _ (old : AllAmid D) (retried : Around D) (again : RetriesFor heard old.around.out.held old.around.out retried.out)
      (gives : Return (returned_again old.around.out.held retried.out.held) m.throttles old.around.bytes retried.bytes) where
    retried_word : (gate : Gate) → Follows (words old.around.bytes gate) (words retried.bytes gate) (held_amid gate old.records old.around) (held_amid gate old.records retried)
    retried_word gate =
        let all = retries gate old.around.out.held old.around.out retried.out refl again in
        sums.given (returned_again old.around.out.held retried.out.held gate) (words old.around.bytes gate) (words retried.bytes gate) (held_amid gate old.records old.around) (held_amid gate old.records retried)
        (gives gate (alone gate)) (omega (arith, all))

  pub all_turn : (old new : AllAmid D) → AllByRecursion HoldsRightly old.records → TurnsEach heard m turn.Done old new → Goes old.records old.around new.records new.around
  all_turn old new r h =
      let first = retried_word old h.retried h.retries h.gives in
      let second = each old.records h.turns.stood h.retried new.around r h.turns.turns in
      subst (λ (rs : List RecordNow). Goes old.records old.around rs new.around) (sym h.turns.records) (record {
        word = λ gate. sums.along (words old.around.bytes gate) (words h.retried.bytes gate) (words new.around.bytes gate) (held_amid gate old.records old.around) (held_amid gate old.records h.retried)
            (held_amid gate (sides_of h.turns.stood) new.around) (first gate) (second.word gate);
        right = second.right;
      })

  -- ---- a turn of all in which memory ran out

  pub all_stop : (old new : AllAmid D) → AllByRecursion HoldsRightly old.records → TurnsEach heard m turn.NoMemory old new →
      (gate : Gate) → Follows (words old.around.bytes gate) (words new.around.bytes gate) (held_amid gate old.records old.around) (held_amid gate new.records new.around)
  all_stop old new r h gate =
      joined (stops_if (is_free h.turns.mid.out) (amid h.turns.at h.turns.mid) (amid h.turns.left new.around) (all_back HoldsRightly h.turns.before (h.turns.at ∷ h.turns.rest) split).0 h.turns.stops gate)
    where
      split : AllByRecursion HoldsRightly (h.turns.before ++ h.turns.at ∷ h.turns.rest)
      split = subst (AllByRecursion HoldsRightly) h.turns.split r

      first : Follows (words old.around.bytes gate) (words h.retried.bytes gate) (held_amid gate old.records old.around) (held_amid gate old.records h.retried)
      first = retried_word old h.retried h.retries h.gives gate

      those : Goes h.turns.before h.retried (sides_of h.turns.stood) h.turns.mid
      those = each h.turns.before h.turns.stood h.retried h.turns.mid (all_front HoldsRightly h.turns.before (h.turns.at ∷ h.turns.rest) split) h.turns.turns

      -- up to the record at which it stops, and that one
      joined : Follows (words h.turns.mid.bytes gate) (words new.around.bytes gate) (held_in_record gate h.turns.at + out.granted_in h.turns.mid.out gate)
          (held_in_record gate h.turns.left + out.granted_in new.around.out gate) →
          Follows (words old.around.bytes gate) (words new.around.bytes gate) (held_amid gate old.records old.around) (held_amid gate new.records new.around)
      joined last rest e =
          let was = ap (held_in_records gate) h.turns.split ∙ sums.sum_behind (held_in_record gate) h.turns.before (h.turns.at ∷ h.turns.rest) in
          let at = sums.sum_first (held_in_record gate) h.turns.at h.turns.rest in
          let is = ap (held_in_records gate) h.turns.records ∙ sums.sum_behind (held_in_record gate) (sides_of h.turns.stood) (h.turns.left ∷ h.turns.rest) in
          let left = sums.sum_first (held_in_record gate) h.turns.left h.turns.rest in
          let one = first rest e in
          let two = those.word gate (held_in_record gate h.turns.at + held_in_records gate h.turns.rest + rest) (omega (arith, was, at, one)) in
          let three = last (held_in_records gate (sides_of h.turns.stood) + held_in_records gate h.turns.rest + rest) (omega (arith, two)) in
          omega (arith, is, left, three)
