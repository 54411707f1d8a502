-- A step of reading gives a value, or the kind of the bad line: the first test that fails decides, so
-- the tests of a line stand in the order in which its kinds go before one another.
use Rattle.std.specs.Prelude.{Bool, true, false, Option, Some, None, Result, Ok, Err}
use Rattle.m2_scenario.specs.declared.kind.Kind.{Kind}

infixl 10 ◌>>=◌
abbrev pub ◌>>=◌ : {A B : Type 0} → Result A Kind → (A → Result B Kind) → Result B Kind
Ok a >>= f = f a
Err k >>= f = Err k

-- this kind, unless the test passes
abbrev pub check : Kind → Bool → Result (Unit {0}) Kind
check kind true = Ok tt
check kind false = Err kind

-- what is there, or else this kind
abbrev pub or_kind : {A : Type 0} → Kind → Option A → Result A Kind
or_kind kind (Some a) = Ok a
or_kind kind None = Err kind
