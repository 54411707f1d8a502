-- The byte that is named is the first one that is wrong.
use Rattle.std.proofs.Common.{◌≡◌, ℕ, zero, suc, ◌+◌, ◌<◌, Bool, true, false, List, [], ◌∷◌, refl, ap, ◌∙◌, subst, arith, Option, Some, None}
use Rattle.std.specs.Prelude.{◌==◌, if◌then◌else◌, slice_get}
use Rattle.std.proofs.lemmas.Bool.Decides.{nat_tests}
use Rattle.m2_weave.specs.declared.unfit.Unfit.{Unfit}
use Rattle.m2_weave.specs.declared.unfit.Why.{Why}
use Rattle.m2_weave.specs.declared.unfit.Why.TheVariants.{Beyond, Differs}
use Rattle.m2_weave.specs.Strands.{EndOf}
use Rattle.m2_weave.specs.Rule.{unfit, unfit_byte, first_unfit}
use Rattle.m2_weave.specs.WeaveLaws.{IsWrong, IsFirstUnfit, UnfitIsTheFirst}

-- the byte at the first place is wrong
wrong-here : (e : EndOf) (there : ℕ → Option ℕ) (from x : ℕ) (xs : List ℕ) (why : Why) → IsWrong why (Some x) (there from) →
    IsFirstUnfit e there from (x ∷ xs) (unfit e from why)
wrong-here e there from x xs why wrong = record {
  socket = refl;
  opener = refl;
  before = 0;
  place = omega arith;
  within = omega arith;
  fit = λ i h. absurd (omega (arith, h));
  wrong = wrong;
}

-- the byte at the first place is right, and one behind it is wrong
fit-behind : (there : ℕ → Option ℕ) (from x : ℕ) (xs : List ℕ) (b : ℕ) → there from ≡ Some x →
    ((i : ℕ) → i < b → there (from + 1 + i) ≡ slice_get xs i) → (i : ℕ) → i < suc b → there (from + i) ≡ slice_get (x ∷ xs) i
fit-behind there from x xs b first rest zero h = let same : from + 0 ≡ from = omega arith in ap there same ∙ first
fit-behind there from x xs b first rest (suc i) h =
    let same : from + suc i ≡ from + 1 + i = omega arith in ap there same ∙ rest i (omega (arith, h))

wrong-behind : (e : EndOf) (there : ℕ → Option ℕ) (from x : ℕ) (xs : List ℕ) (u : Unfit) → there from ≡ Some x →
    IsFirstUnfit e there (from + 1) xs u → IsFirstUnfit e there from (x ∷ xs) u
wrong-behind e there from x xs u first r = record {
  socket = r.socket;
  opener = r.opener;
  before = suc r.before;
  place = omega (arith, r.place);
  within = omega (arith, r.within);
  fit = fit-behind there from x xs r.before first r.fit;
  wrong = r.wrong;
}

tested : (e : EndOf) (there : ℕ → Option ℕ) (from x y : ℕ) (xs : List ℕ) (u : Unfit) (b : Bool) → there from ≡ Some y → (x == y) ≡ b →
    (first_unfit e there (from + 1) xs ≡ Some u → IsFirstUnfit e there (from + 1) xs u) →
    (if b then first_unfit e there (from + 1) xs else Some (unfit e from (Differs x y))) ≡ Some u → IsFirstUnfit e there from (x ∷ xs) u
tested e there from x y xs u true is same behind g =
    let equal : y ≡ x = grind (arith, nat_tests) in
    wrong-behind e there from x xs u (is ∙ ap Some equal) (behind g)
tested e there from x y xs u false is differ behind g =
    let named : unfit e from (Differs x y) ≡ u = cc in
    let apart : x ≡ y → ⊥ = λ q. grind (arith, nat_tests, q) in
    subst (λ v. IsFirstUnfit e there from (x ∷ xs) v) named (wrong-here e there from x xs (Differs x y) (refl, is, apart))

found : (e : EndOf) (there : ℕ → Option ℕ) (from x : ℕ) (xs : List ℕ) (u : Unfit) (o : Option ℕ) → there from ≡ o →
    (first_unfit e there (from + 1) xs ≡ Some u → IsFirstUnfit e there (from + 1) xs u) →
    unfit_byte e from x o (first_unfit e there (from + 1) xs) ≡ Some u → IsFirstUnfit e there from (x ∷ xs) u
found e there from x xs u None is behind g =
    let named : unfit e from (Beyond x) ≡ u = cc in
    subst (λ v. IsFirstUnfit e there from (x ∷ xs) v) named (wrong-here e there from x xs (Beyond x) (refl, is))
found e there from x xs u (Some y) is behind g = tested e there from x y xs u (x == y) is refl behind g

pub is_the_first : UnfitIsTheFirst
is_the_first e there from [] u h = absurd (cc)
is_the_first e there from (x ∷ xs) u h = found e there from x xs u (there from) refl (is_the_first e there (from + 1) xs u) h
