-- What an end that is cut right is over the end inside.
use Rattle.std.proofs.Common.{◌≡◌, ◌⊎◌, inl, inr, ℕ, ◌-◌, ◌≤◌, Bool, true, false, Option, Some, None, refl, sym, ap, subst, ◌∙◌, arith}
use Rattle.std.specs.Prelude.{IfSome}
use Rattle.std.proofs.lemmas.Bool.{eqb-true, false≢true}
use Rattle.m2_fabric.specs.CutEnd.{Bounded, IsCutRight, moved, shown}
use Rattle.m2_fabric.specs.Cuts.{is_cut, passed}
use Rattle.m2_run.specs.Cuts.{IsEndOver}

-- nothing is left of the bound
used_up : (n : ℕ) (bound : Option ℕ) → IfSome bound (λ b. n ≤ b) → is_cut (passed n bound) ≡ true → bound ≡ Some n
used_up n None within cut = absurd (false≢true cut)
used_up n (Some b) within cut = ap Some (let none = eqb-true (b - n) 0 cut in omega (arith, none, within))

cause_by : (b : Bounded) → IsCutRight b → (c : Bool) → is_cut b.left ≡ c → (b.faults ≡ b.inner.faults) ⊎ (b.bound ≡ Some (moved b.inner.log))
cause_by b r false is = inl (r.uncut is)
cause_by b r true is = inr (used_up (moved b.inner.log) b.bound r.within (ap is_cut (sym r.left) ∙ is))

pub over_inside : (b : Bounded) (bound : Option ℕ) → IsCutRight b → b.bound ≡ bound → IsEndOver bound (shown b) b.inner
over_inside b bound r e = record {
  id = refl;
  log = refl;
  within = subst (λ (o : Option ℕ). IfSome o (λ n. moved b.inner.log ≤ n)) e r.within;
  counted = r.faults;
  cause = subst (λ (o : Option ℕ). (b.faults ≡ b.inner.faults) ⊎ (o ≡ Some (moved b.inner.log))) e (cause_by b r (is_cut b.left) refl);
}
