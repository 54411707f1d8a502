-- What is held by a record and where its parcels go, behind its turn.
use Rattle.std.proofs.Common.{◌≡◌, ℕ, ◌+◌, List, [], ◌∷◌, Option, None, Some, refl, subst, ◌∙◌, ap, arith}
use Rattle.std.specs.Prelude.{◌≢◌}
use Rattle.m2_dispatch.specs.Heard.{Heard}
use Rattle.m2_dispatch.specs.declared.letter.Letter.{Letter}
use Rattle.m2_dispatch.specs.declared.parcel.Parcel.{Parcel}
use Rattle.m2_dispatch.specs.declared.parcel.Parcel.TheVariants as parcel
use Rattle.m2_dispatch.specs.m2_policy.declared.path.Path.{Path}
use Rattle.m2_dispatch.specs.m2_policy.declared.path.Path.TheVariants.{Fast, Queued}
use Rattle.m2_dispatch.specs.m2_shared.Gates.{Gate, held, places, words}
use Rattle.m2_dispatch.specs.m2_shared.declared.throttles.TakePasses.{TakePasses}
use Rattle.m2_dispatch.specs.m2_shared.declared.throttles.Throttles.{Throttles}
use Rattle.m2_script.specs.m2_center.m2_record.Calls.{all_granted, granted_in}
use Rattle.m2_script.specs.m2_center.m2_record.declared.stepped.Stepped.{Stepped}
use Rattle.m2_script.specs.m2_center.m2_record.declared.stepped.Stepped.TheVariants as stepped
use Rattle.m2_script.specs.m2_center.m2_turn.Outbox as out
use Rattle.m2_script.specs.m2_center.m2_turn.Outbox.{DispatchesOr, OutboxNow, Puts, PutsLetter, held_in, returned, returned_for, returned_on}
use Rattle.m2_script.specs.m2_center.m2_turn.RecordTurn.{EndsBy, EndsWith, GivesHanded, LeadsOn, LedOn, Means, PutsHanded, Steps, TakesStep, Turning, TurnsAs, worked_by}
use Rattle.m2_script.specs.m2_center.m2_turn.declared.record_turn.RecordTurn.{RecordTurn}
use Rattle.m2_script.specs.m2_center.m2_turn.declared.record_turn.RecordTurn.TheVariants as turn
use Rattle.m2_exact.proofs.HeldSteps as steps
use Rattle.m2_exact.proofs.HeldSteps.{handed_by}
use Rattle.m2_exact.proofs.HeldSums as sums
use Rattle.m2_exact.proofs.HeldSums.{Follows}
use Rattle.m2_exact.proofs.RecordTurns.{free_holds_none}
use Rattle.m2_exact.specs.Holding.{AreAlone, HoldsRightly, held_in_record}

-- ---- words

-- by a record, and where its parcels go
abbrev pub held_turning : {D : Type 0} → Gate → Turning D → ℕ
held_turning gate t = held_in_record gate t.side + out.granted_in t.out gate

-- each word goes along with what is held at its gate, and the record holds rightly
pub record Turns {D : Type 0} (old new : Turning D) : Type 0 where
  pub word : (gate : Gate) → Follows (words old.bytes gate) (words new.bytes gate) (held_turning gate old) (held_turning gate new)
  pub right : HoldsRightly new.side

module _ {D : Type 0} (heard : D → List Heard) where
  -- ---- what is put

  -- a letter of a fast kind that is dispatched, or held
  pub dispatched : (gate : Gate) (l : Letter) (o new : OutboxNow D) (h : Option Letter) → new.held ≡ h → DispatchesOr heard l o new h →
      out.granted_in new gate + returned_for l new.held gate ≡ all_granted o.mail gate + held l.grants gate
  dispatched gate l o new None is (said, mail) =
      let none = ap (λ (x : Option Letter). held_in x gate) is in
      let back = ap (λ (x : Option Letter). returned_for l x gate) is in
      let all = ap (λ (xs : List Parcel). all_granted xs gate) mail in
      omega (arith, none, back, all)
  dispatched gate l o new (Some kept) is (whose, said, mail) =
      let held = ap (λ (x : Option Letter). held_in x gate) is ∙ ap (λ (x : Letter). held x.grants gate) whose in
      let back = ap (λ (x : Option Letter). returned_for l x gate) is in
      let all = ap (λ (xs : List Parcel). all_granted xs gate) mail in
      omega (arith, held, back, all)

  put_letter : (gate : Gate) (l : Letter) (p : Path) (o new : OutboxNow D) → o.held ≡ None → PutsLetter heard l p o new →
      out.granted_in new gate + returned_on l p new.held gate ≡ out.granted_in o gate + held l.grants gate
  put_letter gate l Fast o new none h =
      let was = ap (λ (x : Option Letter). held_in x gate) none in
      let is = dispatched gate l o new new.held refl h in
      omega (arith, was, is)
  put_letter gate l Queued o new none h =
      let all = ap (λ (x : OutboxNow D). out.granted_in x gate) h in
      let more = sums.granted_behind gate o.mail (parcel.Letter l ∷ []) in
      omega (arith, all, more)

  puts : (gate : Gate) (x : Parcel) (o new : OutboxNow D) → o.held ≡ None → Puts heard x o new → out.granted_in new gate + returned x new.held gate ≡ out.granted_in o gate + granted_in x gate
  puts gate (parcel.Letter l) o new none h = put_letter gate l l.key.path o new none h
  puts gate (parcel.Discard peer) o new none h =
      let all = ap (λ (x : OutboxNow D). out.granted_in x gate) h in
      let more = sums.granted_behind gate o.mail (parcel.Discard peer ∷ []) in
      omega (arith, all, more)
  puts gate (parcel.RemoteReset peer) o new none h =
      let all = ap (λ (x : OutboxNow D). out.granted_in x gate) h in
      let more = sums.granted_behind gate o.mail (parcel.RemoteReset peer ∷ []) in
      omega (arith, all, more)

  kept_out : (gate : Gate) (o new : OutboxNow D) (before behind : TakePasses) → new ≡ o → behind ≡ before →
      Follows (words before gate) (words behind gate) (out.granted_in o gate + 0) (out.granted_in new gate)
  kept_out gate o new before behind h g =
      let all = ap (λ (x : OutboxNow D). out.granted_in x gate) h in
      sums.stays (words before gate) (words behind gate) (out.granted_in o gate + 0) (out.granted_in new gate) (steps.same_words before behind gate g) (omega (arith, all))

  -- what a step hands out goes where parcels go, or is given back
  handed : (t : Throttles) (a : Stepped) (o new : OutboxNow D) (before behind : TakePasses) → AreAlone (places t) → o.held ≡ None → PutsHanded heard a o new → GivesHanded t a new before behind →
      (gate : Gate) → Follows (words before gate) (words behind gate) (out.granted_in o gate + handed_by a gate) (out.granted_in new gate)
  handed t (stepped.Hand x) o new before behind alone none h g gate =
      sums.given (returned x new.held gate) (words before gate) (words behind gate) (out.granted_in o gate + granted_in x gate) (out.granted_in new gate) (g gate (alone gate)) (puts gate x o new none h)
  handed t stepped.Moved o new before behind alone none h g gate = kept_out gate o new before behind h g
  handed t stepped.Dry o new before behind alone none h g gate = kept_out gate o new before behind h g
  handed t (stepped.Full stage out) o new before behind alone none h g gate = kept_out gate o new before behind h g
  handed t (stepped.Again stage seen now) o new before behind alone none h g gate = kept_out gate o new before behind h g
  handed t stepped.Spent o new before behind alone none h g gate = kept_out gate o new before behind h g
  handed t (stepped.Faulted cause) o new before behind alone none h g gate = kept_out gate o new before behind h g
  handed t stepped.NoMemory o new before behind alone none h g gate = kept_out gate o new before behind h g

  module _ (m : Means) (alone : AreAlone (places m.throttles)) where
    -- ---- one step

    stepped_on : (a : Stepped) (old new : Turning D) → HoldsRightly old.side → a ≢ stepped.NoMemory → TakesStep heard m a old new → Turns old new
    stepped_on a old new r k h =
        let one = steps.steps_on (worked_by m a h.behind old new) old.side new.side alone h.before r k h.steps in
        let other = handed m.throttles a old.out new.out h.behind new.bytes alone (free_holds_none heard old.out h.free) h.puts h.gives in
        record {
          word = λ gate rest e.
              (let first = one.word gate (out.granted_in old.out gate + rest) (omega (arith, e)) in
              let second = other gate (held_in_record gate new.side + rest) (omega (arith, first)) in
              omega (arith, second));
          right = one.right;
        }

    -- ---- a turn

    leads_on : (a : Stepped) → LeadsOn a → a ≢ stepped.NoMemory
    leads_on stepped.NoMemory h e = absurd h
    leads_on stepped.Moved h e = cc e
    leads_on (stepped.Hand x) h e = cc e
    leads_on a h e = absurd h

    led : (old new : Turning D) → HoldsRightly old.side → LedOn heard m old new → Turns old new
    led old new r h = stepped_on h.answer old new r (leads_on h.answer h.leads) h.takes

    then_turns : (old mid new : Turning D) → Turns old mid → Turns mid new → Turns old new
    then_turns old mid new h g = record {
      word = λ gate. sums.along (words old.bytes gate) (words mid.bytes gate) (words new.bytes gate) (held_turning gate old) (held_turning gate mid) (held_turning gate new) (h.word gate) (g.word gate);
      right = g.right;
    }

    stays_so : (old new : Turning D) → HoldsRightly old.side → old ≡ new → Turns old new
    stays_so old new r e = subst (Turns old) e (record { word = λ gate rest h. h; right = r })

    all_steps : (ts : List (Turning D)) (old new : Turning D) → HoldsRightly old.side → Steps heard m ts old new → Turns old new
    all_steps [] old new r e = stays_so old new r e
    all_steps (t ∷ ts) old new r (h, rest) = let one = led old t r h in then_turns old t new one (all_steps ts t new one.right rest)

    ends_memory : (result : RecordTurn) (a : Stepped) → EndsWith result a → result ≢ turn.NoMemory → a ≢ stepped.NoMemory
    ends_memory turn.Dry a h k e = subst (EndsWith turn.Dry) e h
    ends_memory (turn.Full stage held) a h k e = subst (EndsWith (turn.Full stage held)) e h
    ends_memory (turn.Again stage seen at) a h k e = subst (EndsWith (turn.Again stage seen at)) e h
    ends_memory turn.Spent a h k e = subst (EndsWith turn.Spent) e h
    ends_memory (turn.Faulted cause) a h k e = subst (EndsWith (turn.Faulted cause)) e h
    ends_memory turn.Busy a h k e = subst (EndsWith turn.Busy) e h
    ends_memory turn.Stuck a h k e = subst (EndsWith turn.Stuck) e h
    ends_memory turn.NoMemory a h k e = k refl

    ends : (result : RecordTurn) (old new : Turning D) → HoldsRightly old.side → result ≢ turn.NoMemory → EndsBy heard m result old new → Turns old new
    ends result old new r k h =
        let one = all_steps h.led.stood old h.mid r h.led.steps in
        then_turns old h.mid new one (stepped_on h.answer h.mid new one.right (ends_memory result h.answer h.ends k) h.takes)

    pub turns : (result : RecordTurn) (old new : Turning D) → HoldsRightly old.side → result ≢ turn.NoMemory → TurnsAs heard m result old new → Turns old new
    turns turn.Busy old new r k h = all_steps h.stood old new r h.steps
    turns turn.Stuck old new r k h = all_steps h.led.stood old new r h.led.steps
    turns turn.Dry old new r k h = ends turn.Dry old new r k h
    turns (turn.Full stage n) old new r k h = ends (turn.Full stage n) old new r k h
    turns (turn.Again stage n l) old new r k h = ends (turn.Again stage n l) old new r k h
    turns turn.Spent old new r k h = ends turn.Spent old new r k h
    turns (turn.Faulted f) old new r k h = ends (turn.Faulted f) old new r k h
    turns turn.NoMemory old new r k h = absurd (k refl)

    -- ---- a turn in which memory ran out

    stopped : (mid new : Turning D) → TakesStep heard m stepped.NoMemory mid new → (gate : Gate) → Follows (words mid.bytes gate) (words new.bytes gate) (held_turning gate mid) (held_turning gate new)
    stopped mid new h gate rest e =
        let side = steps.lacks (worked_by m stepped.NoMemory h.behind mid new) mid.side new.side alone h.steps gate (out.granted_in mid.out gate + rest) (omega (arith, e)) in
        let word = steps.same_words h.behind new.bytes gate h.gives in
        let all = ap (λ (x : OutboxNow D). out.granted_in x gate) h.puts in
        omega (arith, side, word, all)

    without : (a : Stepped) → EndsWith turn.NoMemory a → a ≡ stepped.NoMemory
    without stepped.NoMemory h = refl
    without stepped.Moved h = absurd h
    without (stepped.Hand x) h = absurd h
    without stepped.Dry h = absurd h
    without (stepped.Full stage out) h = absurd h
    without (stepped.Again stage seen now) h = absurd h
    without stepped.Spent h = absurd h
    without (stepped.Faulted cause) h = absurd h

    pub stops : (old new : Turning D) → HoldsRightly old.side → TurnsAs heard m turn.NoMemory old new →
        (gate : Gate) → Follows (words old.bytes gate) (words new.bytes gate) (held_turning gate old) (held_turning gate new)
    stops old new r h gate =
        let one = all_steps h.led.stood old h.mid r h.led.steps in
        let takes = subst (λ (a : Stepped). TakesStep heard m a h.mid new) (without h.answer h.ends) h.takes in
        sums.along (words old.bytes gate) (words h.mid.bytes gate) (words new.bytes gate) (held_turning gate old) (held_turning gate h.mid) (held_turning gate new) (one.word gate) (stopped h.mid new takes gate)
