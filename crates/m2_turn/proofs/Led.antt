-- Steps of a turn, one after another.
use Rattle.std.proofs.Common.{◌≡◌, ℕ, suc, List, [], ◌∷◌, ◌++◌, length, Some, refl, sym, ap, subst}
use Rattle.m2_dispatch.specs.Heard.{Heard}
use Rattle.m2_record.specs.declared.work.Work.{Work}
use Rattle.m2_record.specs.Stepping.{IsSameWork}
use Rattle.m2_shared.specs.Place.{Place}
use Rattle.m2_shared.specs.declared.throttles.Throttles.{Throttles}
use Rattle.m2_turn.specs.declared.record_turn.RecordTurn.{RecordTurn}
use Rattle.m2_turn.specs.declared.record_turn.RecordTurn.TheVariants as turn
use Rattle.m2_turn.specs.declared.record_turn.TheConstants.{MOST_STEPS}
use Rattle.m2_turn.specs.RecordTurn.{LedOn, LedWithin, Means, Steps, StepsOnce, Turning, TurnsAs, means_of}

-- one step more
pub and_one : {D : Type 0} (heard : D → List Heard) (m : Means) (ts : List (Turning D)) (a b c : Turning D) → Steps heard m ts a b → LedOn heard m b c → Steps heard m (ts ++ c ∷ []) a c
and_one heard m [] a b c same led = (subst (λ t. LedOn heard m t c) (sym same) led, refl)
and_one heard m (t ∷ ts) a b c (first, rest) led = (first, and_one heard m ts t b c rest led)

pub one_more : {D : Type 0} (ts : List (Turning D)) (t : Turning D) → length (ts ++ t ∷ []) ≡ suc (length ts)
one_more [] t = refl
one_more (x ∷ xs) t = ap suc (one_more xs t)

-- the means stay the same
abbrev means : ℕ → Throttles → Place → Means
means now t p = record { now = now; throttles = t; counter = p }

these : (now : ℕ) (t u : Throttles) (p q : Place) → t ≡ u → p ≡ q → means now t p ≡ means now u q
these now t u p q e f = rw (e, f) refl

pub same_means : (now : ℕ) (a b : Work) → IsSameWork a b → means_of now b ≡ means_of now a
same_means now a b s = these now b.throttles.now a.throttles.now b.numbers.now.place a.numbers.now.place s.throttles (ap (λ n. n.place) s.numbers)

-- a step that ends the turn
pub ends_turn : {D : Type 0} (heard : D → List Heard) (m : Means) (result : RecordTurn) (old mid new : Turning D) → LedWithin heard m MOST_STEPS old mid → StepsOnce heard m (Some result) mid new → TurnsAs heard m result old new
ends_turn heard m turn.Dry old mid new led (answer, takes, ends) = record { mid = mid; led = led; answer = answer; takes = takes; ends = ends }
ends_turn heard m (turn.Full stage held) old mid new led (answer, takes, ends) = record { mid = mid; led = led; answer = answer; takes = takes; ends = ends }
ends_turn heard m (turn.Again stage seen now) old mid new led (answer, takes, ends) = record { mid = mid; led = led; answer = answer; takes = takes; ends = ends }
ends_turn heard m turn.Spent old mid new led (answer, takes, ends) = record { mid = mid; led = led; answer = answer; takes = takes; ends = ends }
ends_turn heard m (turn.Faulted cause) old mid new led (answer, takes, ends) = record { mid = mid; led = led; answer = answer; takes = takes; ends = ends }
ends_turn heard m turn.NoMemory old mid new led (answer, takes, ends) = record { mid = mid; led = led; answer = answer; takes = takes; ends = ends }
ends_turn heard m turn.Busy old mid new led (answer, takes, ends) = absurd ends
ends_turn heard m turn.Stuck old mid new led (answer, takes, ends) = absurd ends
