-- Which sockets and pairs a call has nothing to pass on between. This project's own.
use Rattle.std.specs.Prelude.{◌≡◌, ℕ, ◌==◌, ◌&&◌, ◌||◌, Bool, true, List, [], ◌∷◌, suc, zero}
use Rattle.m2_fabric.specs.News.{is_any_or}
use Rattle.m2_fabric.specs.declared.kept.Kept.{Kept}
use Rattle.m2_fabric.specs.declared.passing.Passing.{Passing}

-- a socket is over both ways
abbrev pub is_over : Kept → Bool
is_over k = k.there.over && k.back.over

-- the first so many sockets are over both ways
abbrev pub AreOver : ℕ → List Kept → Type 0
AreOver zero ks = Unit {0}
AreOver (suc n) [] = ⊥
AreOver (suc n) (k ∷ ks) = (is_over k ≡ true) × AreOver n ks

-- a call is about what leads from one node to another
abbrev pub leads : Passing → ℕ → ℕ → Bool
leads what from to = (what.from == from) && is_any_or what.to to

-- a call is about what leads between two nodes, one way or the other
abbrev pub is_between : Passing → ℕ → ℕ → Bool
is_between what first second = leads what first second || leads what second first
