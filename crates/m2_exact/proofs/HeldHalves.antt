-- What is held by a center's records, behind the turns of its halves.
use Rattle.std.proofs.Common.{◌≡◌, ℕ, ◌+◌, List, [], ◌∷◌, map, Option, None, Some, inl, inr, sym, subst, ap, arith}
use Rattle.std.specs.List.{AllByRecursion}
use Rattle.m2_dispatch.specs.m2_shared.Gates.{Gate, places, words}
use Rattle.m2_fabric.proofs.m2_lemmas.Lists.{all_at}
use Rattle.m2_fabric.specs.m2_addr.declared.addr.Addr.{Addr}
use Rattle.m2_trail.specs.Incoming.{IncomingNow}
use Rattle.m2_trail.specs.declared.turn.HalfTurn.{HalfTurn}
use Rattle.m2_trail.specs.declared.turn.HalfTurn.TheVariants as turn
use Rattle.m2_script.specs.m2_center.m2_turn.HalfTurn.{AnswersAt, AnswersFrom, ComesTo, HalfTurning, Homes, Replies, TurnsHalf, TurnsOnce, home_of_ask, judging_in, moved_by}
use Rattle.m2_script.specs.m2_center.m2_turn.HalvesTurn.{Callers, HalfTurns, HalvesTurning, TurnHalves, TurnLeadsOn, TurnsHalves, all_wait}
use Rattle.m2_script.specs.m2_center.m2_turn.RecordTurn.{Means}
use Rattle.m2_script.specs.m2_center.m2_turn.Sessions.{PendingNow, peer_of}
use Rattle.m2_script.specs.m2_center.m2_turn.declared.answering.HalfAnswered.{HalfAnswered}
use Rattle.m2_script.specs.m2_center.m2_turn.declared.half_turn.HalfTurned.{HalfTurned}
use Rattle.m2_script.specs.m2_center.m2_turn.declared.halves_turn.HalvesTurn.{HalvesTurn}
use Rattle.m2_script.specs.m2_center.m2_turn.declared.halves_turn.HalvesTurn.TheVariants as halves
use Rattle.m2_exact.proofs.HeldJudged as judging
use Rattle.m2_exact.proofs.HeldSums as sums
use Rattle.m2_exact.proofs.HeldSums.{Follows}
use Rattle.m2_exact.proofs.Lists.{all_set}
use Rattle.m2_exact.specs.Holding.{AreAlone, HoldsRightly, held_in_record, held_in_records}

-- each word goes along with what the records hold at its gate, each rightly
pub record Goes (old new : Homes) : Type 0 where
  pub word : (gate : Gate) → Follows (words old.bytes gate) (words new.bytes gate) (held_in_records gate old.records) (held_in_records gate new.records)
  pub right : AllByRecursion HoldsRightly new.records

abbrev Holds : Homes → Type 0
Holds h = AllByRecursion HoldsRightly h.records

stays : (old new : Homes) → Holds old → new ≡ old → Goes old new
stays old new r e = subst (Goes old) (sym e) (record { word = λ gate rest h. h; right = r })

along : (old mid new : Homes) → Goes old mid → Goes mid new → Goes old new
along old mid new h g = record {
  word = λ gate. sums.along (words old.bytes gate) (words mid.bytes gate) (words new.bytes gate) (held_in_records gate old.records) (held_in_records gate mid.records) (held_in_records gate new.records)
      (h.word gate) (g.word gate);
  right = g.right;
}

-- whether it goes on, or what its turn ends with
abbrev outcome_of : {A B C : Type 0} → (A → B → C) → Type 0
outcome_of {A} {B} {C} f = C

abbrev Moved : Type 0 → Type 0
Moved E = outcome_of (moved_by {E = E})

module _ (E : Type 0) (m : Means) (alone : AreAlone (places m.throttles)) where
  -- ---- an ask

  answers_at : (n : ℕ) (answer : HalfAnswered E) (a : IncomingNow) (old new : Homes) → judging.HasAsk a → Holds old → AnswersAt n answer a m old new → Goes old new
  answers_at n answer a old new has r h =
      let one = judging.answered m alone answer a (judging_in h.before old) (judging_in h.behind new) has (all_at HoldsRightly old.records n h.before h.side r) h.answers in
      record {
        word = λ gate rest e.
            (let set = sums.sum_set (held_in_record gate) old.records n h.before h.behind h.side in
            let is = ap (held_in_records gate) h.records in
            let was = sums.sum_has (held_in_record gate) old.records n h.before h.side in
            let word = one.word gate (was.0 + rest) (let amount = was.1 in omega (arith, amount, e)) in
            let amount = was.1 in
            omega (arith, set, is, word, amount));
        right = subst (AllByRecursion HoldsRightly) (sym h.records) (all_set HoldsRightly old.records n h.behind r one.right);
      }

  answers_from : (o : Option ℕ) (x : Moved E) (a : IncomingNow) (peer : Addr) (old new : Homes) → judging.HasAsk a → Holds old → AnswersFrom o x a peer m old new → Goes old new
  answers_from (Some n) x a peer old new has r (answer, h, is) = answers_at n answer a old new has r h
  answers_from None x a peer old new has r (is, same) = stays old new r same

  -- ---- a move on

  comes : (t : HalfTurn) (x : Moved E) (p : PendingNow) (old new : Homes) → Holds old → ComesTo t x p m old new → Goes old new
  comes turn.Asked x p old new r h = answers_from (home_of_ask p.asker h.peer (map peer_of old.records)) x p.half h.peer old new (judging.has_ask p.half h.arrival) r h.answers
  comes turn.Over x p old new r (is, same) = stays old new r same
  comes turn.NoMemory x p old new r (is, same) = stays old new r same
  comes turn.Waits x p old new r (is, same) = stays old new r same
  comes turn.Busy x p old new r (is, same) = stays old new r same

  once : (x : Moved E) (p : PendingNow) (old new : Homes) → Holds old → TurnsOnce x p m old new → Goes old new
  once x p old new r h = comes h.to x (record p { half = h.on }) old new r h.comes

  -- ---- a turn

  replies : (ts : List HalfTurning) (old new : HalfTurning) → Holds old.homes → Replies E m ts old new → Goes old.homes new.homes
  replies [] old new r e = stays old.homes new.homes r (ap (λ (t : HalfTurning). t.homes) (sym e))
  replies (t ∷ ts) old new r (h, rest) = let one = once _ old.pending old.homes t.homes r h in along old.homes t.homes new.homes one (replies ts t new one.right rest)

  pub turns : (result : HalfTurned E) (p : PendingNow) (old new : Homes) → Holds old → TurnsHalf result p m old new → Goes old new
  turns result p old new r (inl h) =
      let one = replies h.stood (record { pending = p; homes = old }) h.mid r h.replies in
      along old h.mid.homes new one (once _ h.mid.pending h.mid.homes new one.right h.last)
  turns result p old new r (inr h) = replies h.stood (record { pending = p; homes = old }) (record { pending = h.pending; homes = new }) r h.replies

  -- ---- all of them

  leads_on : (old new : HalvesTurning) → Holds old.homes → TurnLeadsOn E m old new → Goes old.homes new.homes
  leads_on old new r h = turns h.result h.turns.oldest old.homes new.homes r h.turns.turns

  half_turns : (ts : List HalvesTurning) (old new : HalvesTurning) → Holds old.homes → HalfTurns E m ts old new → Goes old.homes new.homes
  half_turns [] old new r e = stays old.homes new.homes r (ap (λ (t : HalvesTurning). t.homes) (sym e))
  half_turns (t ∷ ts) old new r (h, rest) = let one = leads_on old t r h in along old.homes t.homes new.homes one (half_turns ts t new one.right rest)

  turn_halves : (result : HalvesTurn) (old new : HalvesTurning) → Holds old.homes → TurnHalves E result m old new → Goes old.homes new.homes
  turn_halves halves.Done old new r h = half_turns h.stood old new r h.turns
  turn_halves halves.NoMemory old new r h =
      let one = half_turns h.stood old h.mid r h.turns in
      along old.homes h.mid.homes new.homes one (turns _ h.last.oldest h.mid.homes new.homes one.right h.last.turns)

  pub all_turn : (result : HalvesTurn) (old new : Callers) → Holds old.homes → TurnsHalves E result m old new → Goes old.homes new.homes
  all_turn result old new r h = subst (λ (c : Callers). Goes old.homes c.homes) (sym h.left) (turn_halves result (all_wait old) h.behind r h.turns)
