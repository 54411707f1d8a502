-- Moves without a word, one after the other.
use Rattle.std.proofs.Common.{◌≡◌, List, [], ◌∷◌, ◌++◌, refl, sym, subst}
use Rattle.m2_handshake.specs.Moves.{Move, quiet, Quietly}
use Rattle.m2_handshake.specs.Standing.{Standing}

pub then_quietly : (move : Standing → Move) (ms : List Standing) (a b c : Standing) → Quietly move ms a b → move b ≡ quiet c → Quietly move (ms ++ c ∷ []) a c
then_quietly move [] a b c same step = (subst (λ x. move x ≡ quiet c) (sym same) step, refl)
then_quietly move (m ∷ ms) a b c path step = (path.0, then_quietly move ms m b c path.1 step)
