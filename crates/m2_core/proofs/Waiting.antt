-- Each wait is twice the one before, up to the longest.
use Rattle.std.proofs.Common.{◌≡◌, ℕ, ◌+◌, ◌≤◌, min, suc, refl, sym, ap, ◌∙◌, arith}
use Rattle.m2_core.specs.Laws.{WaitsDouble}
use Rattle.m2_core.specs.Waits.{doubled}

twice : (x m : ℕ) → min (min x m + min x m) m ≡ min (x + x) m
twice x m = omega arith

one-more : (x n : ℕ) → doubled x (suc n) ≡ doubled x n + doubled x n
one-more x n = refl

at-first : (x m : ℕ) → x ≤ m → x ≡ min x m
at-first x m h = omega (arith, h)

pub double : WaitsDouble
double = record {
  first = λ node w h. at-first node.first_wait node.most_wait h;
  next = λ node n now w e. ap (λ x. min (x + x) node.most_wait) e ∙ twice (doubled node.first_wait n) node.most_wait ∙ ap (λ x. min x node.most_wait) (sym (one-more node.first_wait n));
}
