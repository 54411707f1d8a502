-- What the library lacks of options.
use Rattle.std.proofs.Common.{◌≡◌, Some, None, Option, is_some, refl, ap, false, subst}
use Rattle.std.specs.Prelude.{IfSome}
use Rattle.std.specs.Option.{option_map}

pub none_isnt_some : {X : Type 0} (x : X) → None ≡ Some x → ⊥
none_isnt_some x e = cc

pub some_isnt_none : {X : Type 0} (x : X) → Some x ≡ None → ⊥
some_isnt_none x e = cc

pub mapped_is_some : {T U : Type 0} (f : T → U) (o : Option T) → is_some (option_map f o) ≡ is_some o
mapped_is_some f (Some x) = refl
mapped_is_some f None = refl

pub some_same : {X : Type 0} (x y : X) → Some x ≡ Some y → x ≡ y
some_same {X} x y e = ap (λ (o : Option X). elim o as (λ _. X) [ None ↦ x | Some z ↦ z ]) e

pub none_of_isnt_some : {X : Type 0} (o : Option X) → is_some o ≡ false → o ≡ None
none_of_isnt_some None h = refl
none_of_isnt_some (Some x) h = absurd (cc)

pub of_some : {X : Type 0} (P : X → Type 0) (o : Option X) (x : X) → o ≡ Some x → IfSome o P → P x
of_some P o x is h = subst (λ o. IfSome o P) is h
