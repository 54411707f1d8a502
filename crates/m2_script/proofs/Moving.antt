-- One item more is moved of those that are to move.
use Rattle.std.proofs.Common.{◌≡◌, ℕ, suc, List, [], ◌∷◌, ◌++◌, take, drop, append_assoc}

pub moved_more : {X : Type 0} (into new from rest : List X) (x : X) (n m : ℕ) → from ≡ x ∷ rest → n ≡ suc m → new ≡ into ++ x ∷ [] →
    new ++ take m rest ≡ into ++ take n from
moved_more into new from rest x n m e f g = rw (g, f, e) (append_assoc into (x ∷ []) (take m rest))

pub left_fewer : {X : Type 0} (from rest : List X) (x : X) (n m : ℕ) → from ≡ x ∷ rest → n ≡ suc m → drop m rest ≡ drop n from
left_fewer from rest x n m e f = rw (f, e)
