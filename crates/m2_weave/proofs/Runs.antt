-- Strands to which everything has happened in turns have an order.
use Rattle.std.proofs.Common.{◌≡◌, ℕ, List, [], ◌∷◌, length, map, refl, sym, ap, ◌∙◌}
use Rattle.std.specs.List.{AllByRecursion}
use Rattle.m2_weave.specs.Order.{nothing}
use Rattle.m2_weave.specs.Rule.{Woven}
use Rattle.m2_weave.specs.Strands.{StrandNow}
use Rattle.m2_weave.specs.Later.{AreTurns, behind}
use Rattle.m2_weave.specs.TurnLaws.{HasOrder, IsAtStart, RunsAreWoven, TurnsAreWoven}

same-first : (x : ℕ) (xs ys : List ℕ) → x ≡ 0 → xs ≡ ys → (0 ∷ xs) ≡ (x ∷ ys)
same-first x xs ys e f = ap (λ l. 0 ∷ l) f ∙ ap (λ n. n ∷ ys) (sym e)

none-yet : (ss : List StrandNow) → AllByRecursion (λ (s : StrandNow). s.items ≡ []) ss → nothing (map (λ (s : StrandNow). length s.items) ss) ≡ map (λ (s : StrandNow). length s.items) ss
none-yet [] h = refl
none-yet (s ∷ ss) h = same-first (length s.items) _ _ (ap length h.0) (none-yet ss h.1)

pub start_has_order : (w : Woven) → IsAtStart w → HasOrder w
start_has_order w start = ([], record { lawful = tt; whole = none-yet w.strands start })

pub run_has_order : TurnsAreWoven → (w : Woven) (turns : List Woven) → HasOrder w → AreTurns w turns → HasOrder (behind w turns)
run_has_order law w [] order are = order
run_has_order law w (x ∷ xs) order are = run_has_order law x xs (law w x are.0 order) are.1

pub runs_are_woven : TurnsAreWoven → RunsAreWoven
runs_are_woven law w turns start are = run_has_order law w turns (start_has_order w start) are
