-- The halves of two centers that are alike take their turns alike, one after another, but for want of memory.
use Rattle.std.proofs.Common.{◌≡◌, ◌++◌, List, [], ◌∷◌, map, false, refl, sym, subst, ◌∙◌, ap}
use Rattle.std.specs.List.{AllByRecursion}
use Rattle.std.proofs.lemmas.List.{map-append}
use Rattle.m2_fabric.proofs.m2_lemmas.Lists.{all_append, cons_same}
use Rattle.m2_trail.specs.Arrivals.{LooseNow}
use Rattle.m2_script.specs.m2_center.m2_turn.HalvesTurn.{Callers, HadMemory, HalfTurns, HalvesTurning, OldestTurns, TurnLeadsOn, TurnsHalves, all_wait, callers_in, over_by, stays_by}
use Rattle.m2_script.specs.m2_center.m2_turn.Hearing.{IsHalfInMemory}
use Rattle.m2_script.specs.m2_center.m2_turn.RecordTurn.{Means}
use Rattle.m2_script.specs.m2_center.m2_turn.Sessions.{PendingNow}
use Rattle.m2_script.specs.m2_center.m2_turn.declared.half_turn.HalfTurned.{HalfTurned}
use Rattle.m2_script.specs.m2_center.m2_turn.declared.half_turn.HalfTurned.TheVariants as turned
use Rattle.m2_script.specs.m2_center.m2_turn.declared.halves_turn.HalvesTurn.TheVariants as turn
use Rattle.m2_exact.proofs.HalfTurns as one
use Rattle.m2_exact.specs.Accepts.{plain_pending}
use Rattle.m2_exact.specs.HalfTurns.{PlainHomes, bare_turned, lacks, plain_homes}
use Rattle.m2_exact.specs.HalvesTurns.{AreFitCallers, LikeAllHalvesTurnAlike, PlainCallers, plain_callers}
use Rattle.m2_exact.specs.RecordTurns.{HasAlone, IsFit}

-- ---- in the midst of it

record PlainTurning : Type 0 where
  pub stayed : List PendingNow
  pub waiting : List PendingNow
  pub loose : List LooseNow
  pub homes : PlainHomes

abbrev plain_turning : HalvesTurning → PlainTurning
plain_turning t = record { stayed = map plain_pending t.stayed; waiting = map plain_pending t.waiting; loose = t.loose; homes = plain_homes t.homes }

record AreFit (t : HalvesTurning) : Type 0 where
  pub stayed : AllByRecursion IsHalfInMemory t.stayed
  pub waiting : AllByRecursion IsHalfInMemory t.waiting
  pub records : AllByRecursion IsFit t.homes.records

-- ---- one turn

found : {E : Type 0} (result : HalfTurned E) → HadMemory result → lacks result ≡ false
found (turned.Open p) h = refl
found turned.Taken h = refl
found (turned.Over l) h = refl
found (turned.NoMemory p) h = absurd h

stays_bare : {E : Type 0} (result : HalfTurned E) → map plain_pending (stays_by result) ≡ stays_by (bare_turned result)
stays_bare (turned.Open p) = refl
stays_bare turned.Taken = refl
stays_bare (turned.Over l) = refl
stays_bare (turned.NoMemory p) = refl

over_bare : {E : Type 0} (result : HalfTurned E) → over_by result ≡ over_by (bare_turned result)
over_bare (turned.Open p) = refl
over_bare turned.Taken = refl
over_bare (turned.Over l) = refl
over_bare (turned.NoMemory p) = refl

-- what a turn leaves that came to this
abbrev turned_so : {E : Type 0} → HalfTurned E → (waiting : List PendingNow) → PlainHomes → PlainTurning → PlainTurning
turned_so result waiting homes t = record { stayed = t.stayed ++ stays_by result; waiting = waiting; loose = t.loose ++ over_by result; homes = homes }

module _ (E : Type 0) (m : Means) where
  leaves : (result : HalfTurned E) (old new : HalvesTurning) → OldestTurns result m old new →
      plain_turning new ≡ turned_so (bare_turned result) (map plain_pending new.waiting) (plain_homes new.homes) (plain_turning old)
  leaves result old new h =
      ap (λ (ps : List PendingNow). record (plain_turning new) { stayed = ps })
      (ap (map plain_pending) h.stayed ∙ map-append plain_pending old.stayed (stays_by result) ∙ ap (λ (ps : List PendingNow). map plain_pending old.stayed ++ ps) (stays_bare result))
      ∙ ap (λ (ls : List LooseNow). record (plain_turning new) { stayed = map plain_pending old.stayed ++ stays_by (bare_turned result); loose = ls })
      (h.loose ∙ ap (λ (ls : List LooseNow). old.loose ++ ls) (over_bare result))

  turns_one : (old last new behind : HalvesTurning) → HasAlone m → AreFit old → plain_turning old ≡ plain_turning last → TurnLeadsOn E m old new → TurnLeadsOn E m last behind →
      plain_turning new ≡ plain_turning behind
  turns_one old last new behind alone f like h g =
      let firsts = cons_same (plain_pending h.turns.oldest) (plain_pending g.turns.oldest) (map plain_pending new.waiting) (map plain_pending behind.waiting)
      (sym (ap (map plain_pending) h.turns.waited) ∙ ap (λ (t : PlainTurning). t.waiting) like ∙ ap (map plain_pending) g.turns.waited) in
      let there = subst (AllByRecursion IsHalfInMemory) h.turns.waited f.waiting in
      let both = one.alike.turns m h.result g.result h.turns.oldest g.turns.oldest old.homes last.homes new.homes behind.homes alone there.0 f.records firsts.0 (ap (λ (t : PlainTurning). t.homes) like)
      (found h.result h.memory) (found g.result g.memory) h.turns.turns g.turns.turns in
      leaves h.result old new h.turns
      ∙ ap (λ (r : HalfTurned E). turned_so r (map plain_pending new.waiting) (plain_homes new.homes) (plain_turning old)) both.0
      ∙ ap (λ (ps : List PendingNow). turned_so (bare_turned g.result) ps (plain_homes new.homes) (plain_turning old)) firsts.1
      ∙ ap (λ (x : PlainHomes). turned_so (bare_turned g.result) (map plain_pending behind.waiting) x (plain_turning old)) both.1
      ∙ ap (turned_so (bare_turned g.result) (map plain_pending behind.waiting) (plain_homes behind.homes)) like
      ∙ sym (leaves g.result last behind g.turns)

  one_stays : (old new : HalvesTurning) → AreFit old → TurnLeadsOn E m old new → AreFit new
  one_stays old new f h =
      let there = subst (AllByRecursion IsHalfInMemory) h.turns.waited f.waiting in
      let both = one.alike.stays m h.result h.turns.oldest old.homes new.homes there.0 f.records (found h.result h.memory) h.turns.turns in
      record {
        stayed = subst (AllByRecursion IsHalfInMemory) (sym h.turns.stayed) (all_append IsHalfInMemory old.stayed (stays_by h.result) f.stayed both.1);
        waiting = there.1;
        records = both.0;
      }

  -- ---- all of them

  -- none takes its turn where none waits
  none_waits : (old last behind : HalvesTurning) → old.waiting ≡ [] → plain_turning old ≡ plain_turning last → TurnLeadsOn E m last behind → ⊥
  none_waits old last behind none like g =
      let empty : map plain_pending old.waiting ≡ [] = ap (map plain_pending) none in
      let more : map plain_pending last.waiting ≡ plain_pending g.turns.oldest ∷ map plain_pending behind.waiting = ap (map plain_pending) g.turns.waited in
      absurd (cc (empty, ap (λ (t : PlainTurning). t.waiting) like, more))

  all_one : (ts us : List HalvesTurning) (old last new behind : HalvesTurning) → HasAlone m → AreFit old → plain_turning old ≡ plain_turning last → HalfTurns E m ts old new →
      HalfTurns E m us last behind → new.waiting ≡ [] → behind.waiting ≡ [] → plain_turning new ≡ plain_turning behind
  all_one [] [] old last new behind alone f like h g none nobody = sym (ap plain_turning h) ∙ like ∙ ap plain_turning g
  all_one [] (u ∷ us) old last new behind alone f like h (first, rest) none nobody = absurd (none_waits old last u (ap (λ (t : HalvesTurning). t.waiting) h ∙ none) like first)
  all_one (t ∷ ts) [] old last new behind alone f like (first, rest) g none nobody = absurd (none_waits last old t (ap (λ (t : HalvesTurning). t.waiting) g ∙ nobody) (sym like) first)
  all_one (t ∷ ts) (u ∷ us) old last new behind alone f like (first, rest) (second, others) none nobody =
      all_one ts us t u new behind alone (one_stays old t f first) (turns_one old last t u alone f like first second) rest others none nobody

  all_stay : (ts : List HalvesTurning) (old new : HalvesTurning) → AreFit old → HalfTurns E m ts old new → AreFit new
  all_stay [] old new f h = subst AreFit h f
  all_stay (t ∷ ts) old new f (first, rest) = all_stay ts t new (one_stays old t f first) rest

  abbrev called : PlainTurning → PlainCallers
  called t = record { halves = t.stayed ++ t.waiting; loose = t.loose; homes = t.homes }

  called_plain : (c : Callers) (t : HalvesTurning) → c ≡ callers_in t → plain_callers c ≡ called (plain_turning t)
  called_plain c t left = ap plain_callers left ∙ ap (λ (ps : List PendingNow). record { halves = ps; loose = t.loose; homes = plain_homes t.homes }) (map-append plain_pending t.stayed t.waiting)

  begins : (c : Callers) → AreFitCallers c → AreFit (all_wait c)
  begins c f = record { stayed = tt; waiting = f.halves; records = f.records }

  turns : (old last new behind : Callers) → HasAlone m → AreFitCallers old → plain_callers old ≡ plain_callers last → TurnsHalves E turn.Done m old new → TurnsHalves E turn.Done m last behind →
      plain_callers new ≡ plain_callers behind
  turns old last new behind alone f like h g =
      let waits : plain_turning (all_wait old) ≡ plain_turning (all_wait last) = ap (λ (c : PlainCallers). record { stayed = []; waiting = c.halves; loose = c.loose; homes = c.homes }) like in
      called_plain new h.behind h.left
      ∙ ap called (all_one h.turns.stood g.turns.stood (all_wait old) (all_wait last) h.behind g.behind alone (begins old f) waits h.turns.turns g.turns.turns h.turns.none g.turns.none)
      ∙ sym (called_plain behind g.behind g.left)

  stays : (old new : Callers) → AreFitCallers old → TurnsHalves E turn.Done m old new → AreFitCallers new
  stays old new f h =
      let all = all_stay h.turns.stood (all_wait old) h.behind (begins old f) h.turns.turns in
      subst AreFitCallers (sym h.left) (record { halves = all_append IsHalfInMemory h.behind.stayed h.behind.waiting all.stayed all.waiting; records = all.records })

pub alike : {E : Type 0} → LikeAllHalvesTurnAlike E
alike {E} = record { turns = turns E; stays = stays E }
