-- Lists of lists, and two lists item by item. This project's own.
use Rattle.std.specs.Prelude.{List, [], ◌∷◌}
use Rattle.std.specs.List.{flat_map}

-- all of them, one behind the other
abbrev pub joined : {X : Type 0} → List (List X) → List X
joined xss = flat_map (λ xs. xs) xss

-- each of the one with its own of the other, in order
abbrev pub SideBySide : {X Y : Type 0} → (X → Y → Type 0) → List X → List Y → Type 0
SideBySide how [] [] = Unit {0}
SideBySide how (x ∷ xs) (y ∷ ys) = how x y × SideBySide how xs ys
SideBySide how xs ys = ⊥
