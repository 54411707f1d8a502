-- Moves one after another.
use Rattle.std.proofs.Common.{◌≡◌, suc, ap, List, [], ◌∷◌, ◌++◌, length, None, sym, subst, refl}
use Rattle.m2_trail.specs.Incoming.{IncomingNow}
use Rattle.m2_trail.specs.declared.turn_moves.Outcome.TheVariants.{GoesOn}
use Rattle.m2_trail.specs.Turn.{Moves}
use Rattle.m2_trail.specs.TurnMoves.{MakesMove}

-- one move more
pub then : (vs : List IncomingNow) (a b c : IncomingNow) → Moves vs a b → b.ask ≡ None → MakesMove GoesOn b c → Moves (vs ++ c ∷ []) a c
then [] a b c same unasked move =
    (subst (λ (v : IncomingNow). v.ask ≡ None) (sym same) unasked, subst (λ (v : IncomingNow). MakesMove GoesOn v c) (sym same) move, refl)
then (v ∷ vs) a b c (unasked_a, first, rest) unasked move = (unasked_a, first, then vs v b c rest unasked move)

pub one_more : (vs : List IncomingNow) (v : IncomingNow) → length (vs ++ v ∷ []) ≡ suc (length vs)
one_more [] v = refl
one_more (w ∷ vs) v = ap suc (one_more vs v)
