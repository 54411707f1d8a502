-- Tables of rows, each with a name, a condition and an answer. The first row whose condition holds decides.
use Rattle.std.specs.Prelude.{◌≡◌, Bool, true, false, if◌then◌else◌, List, [], ◌∷◌, ◌++◌}
use Rattle.std.specs.List.{AllByRecursion}

pub record Row (N A : Type 0) : Type 0 where
  pub name : N
  pub holds : Bool
  pub answer : A

abbrev pub row : {N A : Type 0} → N → Bool → A → Row N A
row name holds answer = record { name = name; holds = holds; answer = answer }

-- the answer of the first row whose condition holds, or of the row 'otherwise'
abbrev pub first_that_holds : {N A : Type 0} → List (Row N A) → A → A
first_that_holds [] otherwise = otherwise
first_that_holds (r ∷ rows) otherwise = if r.holds then r.answer else first_that_holds rows otherwise

abbrev pub NoneHolds : {N A : Type 0} → List (Row N A) → Type 0
NoneHolds rows = AllByRecursion (λ r. r.holds ≡ false) rows

-- A row gives its answer where its condition holds and no earlier row's does, and the row 'otherwise' where
-- no row's does.
pub record IsReadInOrder (N A : Type 0) : Type 0 where
  pub gives : (before : List (Row N A)) (r : Row N A) (after : List (Row N A)) (otherwise : A) →
      NoneHolds before → r.holds ≡ true → first_that_holds (before ++ r ∷ after) otherwise ≡ r.answer
  pub otherwise : (rows : List (Row N A)) (otherwise : A) → NoneHolds rows → first_that_holds rows otherwise ≡ otherwise
