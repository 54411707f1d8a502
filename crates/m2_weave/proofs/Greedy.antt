-- By every rule there is a greedy order: one takes whatever may come until nothing may.
use Rattle.std.proofs.Common.{◌≡◌, ℕ, zero, suc, ◌+◌, ◌<◌, ◌≤◌, ◌⊎◌, inl, inr, Bool, true, false, List, [], ◌∷◌, length, refl, subst, arith}
use Rattle.std.specs.Prelude.{slice_index}
use Rattle.m2_weave.specs.Merging.{even}
use Rattle.m2_weave.specs.Order.{Cut, Rule, AtMost, AreNext, IsGreedy, IsStuck, MayCome, come, come_all, nothing}
use Rattle.m2_weave.proofs.Furthest.{begins, step-within}
use Rattle.m2_bytes.proofs.m2_lemmas.Numbers.{below_or_not}
use Rattle.m2_bytes.proofs.m2_lemmas.Lists.{index_in_range}

-- ---- whether a strand may go on

true-or : (b : Bool) → (b ≡ true) ⊎ (b ≡ true → ⊥)
true-or true = inl refl
true-or false = inr (λ e. cc)

may-or : (rule : Rule) (all at : Cut) (k : ℕ) → MayCome rule all at k ⊎ (MayCome rule all at k → ⊥)
may-or rule all at k = elim (below_or_not (slice_index at k) (slice_index all k)) [
  | inl more ↦ elim (true-or (rule at k)) [
    | inl met ↦ inl (record { more = more; met = met })
    | inr un ↦ inr (λ may. un may.met)
  ]
  | inr all_come ↦ inr (λ may. absurd (omega (arith, all_come, may.more)))
]

-- ---- one that may

record SomeMay (rule : Rule) (all at : Cut) : Type 0 where
  strand : ℕ
  may : MayCome rule all at strand

NoneBelow : Rule → (all at : Cut) → ℕ → Type 0
NoneBelow rule all at n = (k : ℕ) → k < n → MayCome rule all at k → ⊥

none-more : (rule : Rule) (all at : Cut) (n : ℕ) → NoneBelow rule all at n → (MayCome rule all at n → ⊥) → NoneBelow rule all at (suc n)
unfolding NoneBelow
none-more rule all at n below here k h may = elim (below_or_not k n) [
  | inl less ↦ below k less may
  | inr more ↦ let same : k ≡ n = omega (arith, h, more) in here (subst (λ x. MayCome rule all at x) same may)
]

some-or : (rule : Rule) (all at : Cut) (n : ℕ) → SomeMay rule all at ⊎ NoneBelow rule all at n
unfolding NoneBelow
some-or rule all at zero = inr (λ k h may. absurd (omega (arith, h)))
some-or rule all at (suc n) = elim (some-or rule all at n) [
  | inl some ↦ inl some
  | inr none ↦ elim (may-or rule all at n) [
    | inl may ↦ inl (record { strand = n; may = may })
    | inr not_here ↦ inr (none-more rule all at n none not_here)
  ]
]

some-or-stuck : (rule : Rule) (all at : Cut) → SomeMay rule all at ⊎ IsStuck rule all at
unfolding NoneBelow
some-or-stuck rule all at = elim (some-or rule all at (length all)) [
  | inl some ↦ inl some
  | inr none ↦ inr (λ k may. none k (index_in_range all k (slice_index at k) may.more) may)
]

-- ---- each step brings the end nearer

sum-of : Cut → ℕ
sum-of [] = 0
sum-of (n ∷ at) = n + sum-of at

sum-come : (at : Cut) (k : ℕ) → k < length at → sum-of (come k at) ≡ suc (sum-of at)
unfolding sum-of
sum-come [] k h = absurd (omega (arith, h))
sum-come (n ∷ at) zero h = omega arith
sum-come (n ∷ at) (suc k) h = let r : sum-of (come k at) ≡ suc (sum-of at) = sum-come at k (omega (arith, h)) in omega (arith, r)

sum-most : (a b : Cut) → AtMost a b → sum-of a ≤ sum-of b
unfolding sum-of
sum-most [] b most = omega arith
sum-most (m ∷ a) [] most = absurd (omega (arith, most.count))
sum-most (m ∷ a) (n ∷ b) most =
    let rest : sum-of a ≤ sum-of b = sum-most a b (record { count = omega (arith, most.count); each = λ k. most.each (suc k) }) in
    omega (arith, rest, most.each 0)

-- ---- the order

record GreedyFrom (rule : Rule) (all at : Cut) : Type 0 where
  order : List ℕ
  each : AreNext even rule all at order
  stuck : IsStuck rule all (come_all order at)

one-first : (rule : Rule) (all at : Cut) (some : SomeMay rule all at) → GreedyFrom rule all (come some.strand at) → GreedyFrom rule all at
one-first rule all at some rest = record {
  order = some.strand ∷ rest.order;
  each = (record { may = some.may; first = λ j h may. absurd (omega (arith, h)) }, rest.each);
  stuck = rest.stuck;
}

step-count : (rule : Rule) (all at : Cut) → AtMost at all → (some : SomeMay rule all at) → sum-of (come some.strand at) ≡ suc (sum-of at)
step-count rule all at most some =
    sum-come at some.strand (omega (arith, most.count, index_in_range all some.strand (slice_index at some.strand) some.may.more))

greedy-from : (left : ℕ) (rule : Rule) (all at : Cut) → AtMost at all → sum-of at + left ≡ sum-of all → GreedyFrom rule all at
greedy-from zero rule all at most e = elim (some-or-stuck rule all at) [
  | inr stuck ↦ record { order = []; each = tt; stuck = stuck }
  | inl some ↦ absurd (omega (arith, e, step-count rule all at most some, sum-most (come some.strand at) all (step-within at all some.strand most some.may.more)))
]
greedy-from (suc left) rule all at most e = elim (some-or-stuck rule all at) [
  | inr stuck ↦ record { order = []; each = tt; stuck = stuck }
  | inl some ↦ one-first rule all at some
      (greedy-from left rule all (come some.strand at) (step-within at all some.strand most some.may.more) (omega (arith, e, step-count rule all at most some)))
]

less-of : (a b : ℕ) → a ≤ b → (d : ℕ) × (a + d ≡ b)
less-of zero b h = (b, omega arith)
less-of (suc a) zero h = absurd (omega (arith, h))
less-of (suc a) (suc b) h = let r = less-of a b (omega (arith, h)) in (r.0, omega (arith, r.1))

pub greedy_of : (rule : Rule) (all : Cut) → (order : List ℕ) × IsGreedy even rule all order
greedy_of rule all =
    let most : AtMost (nothing all) all = begins all all refl in
    let left = less-of (sum-of (nothing all)) (sum-of all) (sum-most (nothing all) all most) in
    let g = greedy-from left.0 rule all (nothing all) most left.1 in
    (g.order, record { each = g.each; stuck = g.stuck })
