-- A merge that goes on.
use Rattle.std.proofs.Common.{◌≡◌, ℕ, zero, suc, ◌+◌, ◌*◌, ◌<◌, ◌≤◌, ◌⊎◌, inl, inr, Bool, true, false, true≢false, List, [], ◌∷◌, ◌++◌, length, length-append, take, refl, sym, ap, ◌∙◌, subst, arith, add-one, Option, Some, None, MatchBool}
use Rattle.std.specs.Prelude.{slice_get, slice_index, slice_index_or, slice_set, replicate}
use Rattle.std.proofs.lemmas.List.{length-set, length-map, length-replicate, get_or-replicate, get_or-set_same, get_or-set_other}
use Rattle.std.proofs.lemmas.Option.{slice_get_within, get_or_from_slice_get}
use Rattle.std.proofs.lemmas.Bool.{cases_eq}
use Rattle.std.proofs.lemmas.Bool.Decides.{nat_tests}
use Rattle.std.proofs.Math.Nat.{suc-mul}
use Rattle.m2_weave.specs.declared.counted.CountedEntry.{CountedEntry}
use Rattle.m2_weave.specs.declared.counted.Need.{Need}
use Rattle.m2_weave.specs.declared.counted.Need.TheVariants.{Nothing, AtLeast, Never}
use Rattle.m2_weave.specs.declared.users.Users.{Users}
use Rattle.m2_weave.specs.declared.merging.Progress.{Progress}
use Rattle.m2_weave.specs.Order.{Cut, Rule, MayCome, IsStuck, IsNext, AreNext, IsGreedy, nothing, come, come_all, reached}
use Rattle.m2_weave.specs.Counted.{Strands, adds, sum_added, value_at, is_met, may_come, next_of, by_counters, lengths}
use Rattle.m2_weave.specs.Users.{IsIn, IsNeedWithin, IsWithin, AreWithin, users_at, listed, IsListed, AreListed}
use Rattle.m2_weave.specs.Merging.{even, Comes, GoesOn, IsNew, Stands, still_left}
use Rattle.m2_weave.proofs.Furthest.{come-other, reached-count}
use Rattle.m2_weave.proofs.Listing.{in-left, in-right, in-last, listed-most}
use Rattle.m2_bytes.proofs.m2_lemmas.Lists.{index_in_range}

-- ---- the next entry

pub next-place : (ss : Strands) (at : Cut) (k : ℕ) (e : CountedEntry) → next_of ss at k ≡ Some e → slice_index at k < length (slice_index_or ss k [])
next-place ss at k e h = slice_get_within (slice_index_or ss k []) (slice_index at k) e h

strand-in : (ss : Strands) (k n : ℕ) → n < length (slice_index_or ss k []) → k < length ss
strand-in [] k n h = absurd (omega (arith, h))
strand-in (s ∷ ss) zero n h = omega arith
strand-in (s ∷ ss) (suc k) n h = let r : k < length ss = strand-in ss k n h in omega arith

pub next-strand : (ss : Strands) (at : Cut) (k : ℕ) (e : CountedEntry) → next_of ss at k ≡ Some e → k < length ss
next-strand ss at k e h = strand-in ss k (slice_index at k) (next-place ss at k e h)

length-at : (ss : Strands) (k : ℕ) → slice_index (lengths ss) k ≡ length (slice_index_or ss k [])
length-at [] k = refl
length-at (s ∷ ss) zero = refl
length-at (s ∷ ss) (suc k) = length-at ss k

pub next-within : (counters : ℕ) (ss : Strands) (at : Cut) (k : ℕ) (e : CountedEntry) → AreWithin counters ss → next_of ss at k ≡ Some e → IsWithin counters e
next-within counters ss at k e w h =
    let there : IsWithin counters (slice_index_or (slice_index_or ss k []) (slice_index at k) e) =
    w k [] (next-strand ss at k e h) (slice_index at k) e (next-place ss at k e h) in
    subst (λ x. IsWithin counters x) (get_or_from_slice_get (slice_index_or ss k []) (slice_index at k) e e h) there

-- ---- counters as one more comes

sum-suc : (c n : ℕ) (s : List CountedEntry) (e : CountedEntry) → slice_get s n ≡ Some e → sum_added c (take (suc n) s) ≡ sum_added c (take n s) + adds c e
sum-suc c n [] e h = absurd (cc)
sum-suc c zero (x ∷ s) e h = let is : x ≡ e = cc in subst (λ y. adds c x + 0 ≡ 0 + adds c y) is (omega arith)
sum-suc c (suc n) (x ∷ s) e h =
    let r : sum_added c (take (suc n) s) ≡ sum_added c (take n s) + adds c e = sum-suc c n s e h in
    omega (arith, r)

sum-more : (c n : ℕ) (s : List CountedEntry) (e : CountedEntry) → slice_get s n ≡ Some e → sum_added c (take (n + 1) s) ≡ sum_added c (take n s) + adds c e
sum-more c n s e h = subst (λ i. sum_added c (take i s) ≡ sum_added c (take n s) + adds c e) (sym (add-one n)) (sum-suc c n s e h)

pub value-come : (c : ℕ) (ss : Strands) (at : Cut) (k : ℕ) (e : CountedEntry) → length at ≡ length ss → next_of ss at k ≡ Some e →
    value_at ss (come k at) c ≡ value_at ss at c + adds c e
value-come c [] at k e n h = absurd (cc)
value-come c (s ∷ ss) [] k e n h = absurd (omega (arith, n))
value-come c (s ∷ ss) (m ∷ at) zero e n h =
    let r : sum_added c (take (m + 1) s) ≡ sum_added c (take m s) + adds c e = sum-more c m s e h in omega (arith, r)
value-come c (s ∷ ss) (m ∷ at) (suc k) e n h =
    let r : value_at ss (come k at) c ≡ value_at ss at c + adds c e = value-come c ss at k e (omega (arith, n)) h in omega (arith, r)

pub left-come : (ss : Strands) (at : Cut) (k : ℕ) (e : CountedEntry) → length at ≡ length ss → next_of ss at k ≡ Some e →
    still_left ss (come k at) + 1 ≡ still_left ss at
left-come [] at k e n h = absurd (cc)
left-come (s ∷ ss) [] k e n h = absurd (omega (arith, n))
left-come (s ∷ ss) (m ∷ at) zero e n h = let l : m < length s = slice_get_within s m e h in omega arith
left-come (s ∷ ss) (m ∷ at) (suc k) e n h =
    let r : still_left ss (come k at) + 1 ≡ still_left ss at = left-come ss at k e (omega (arith, n)) h in omega (arith, r)

adds-own : (e : CountedEntry) → adds e.counter e ≡ e.amount
adds-own e = grind (arith, nat_tests)

adds-other : (c : ℕ) (e : CountedEntry) → (c ≡ e.counter → ⊥) → adds c e ≡ 0
adds-other c e n = grind (arith, nat_tests)

-- ---- what is met by the counters' values

met-same : (counters : ℕ) (need : Need) (v u : ℕ → ℕ) → IsNeedWithin counters need → ((c : ℕ) → c < counters → v c ≡ u c) → is_met need v ≡ is_met need u
met-same counters Nothing v u w same = refl
met-same counters (AtLeast c least) v u w same = ap (λ n. is_met (AtLeast c least) (λ x. n)) (same c w)
met-same counters Never v u w same = refl

-- ---- orders that go on

come-all-more : (xs : List ℕ) (k : ℕ) (at : Cut) → come_all (xs ++ k ∷ []) at ≡ come k (come_all xs at)
come-all-more [] k at = refl
come-all-more (x ∷ xs) k at = come-all-more xs k (come x at)

next-more : (rank : ℕ → ℕ) (rule : Rule) (all at : Cut) (xs : List ℕ) (k : ℕ) → AreNext rank rule all at xs → IsNext rank rule all (come_all xs at) k →
    AreNext rank rule all at (xs ++ k ∷ [])
next-more rank rule all at [] k a n = (n, tt)
next-more rank rule all at (x ∷ xs) k (first, rest) n = (first, next-more rank rule all (come x at) xs k rest n)

-- ---- the strands that wait

-- all strands are listed with the counters for which they wait
abbrev pub AreUsers : Strands → List Users → Type 0
AreUsers ss users = (j : ℕ) → j < length ss → AreListed users j (slice_index_or ss j [])

next-listed : (ss : Strands) (users : List Users) (at : Cut) (j : ℕ) (f : CountedEntry) → AreUsers ss users → next_of ss at j ≡ Some f → IsListed users j f.need
next-listed ss users at j f us is =
    let there : IsListed users j (slice_index_or (slice_index_or ss j []) (slice_index at j) f).need =
    us j (next-strand ss at j f is) (slice_index at j) f (next-place ss at j f is) in
    subst (λ (x : CountedEntry). IsListed users j x.need) (get_or_from_slice_get (slice_index_or ss j []) (slice_index at j) f f is) there

need-waits : (users : List Users) (risen j : ℕ) (need : Need) (v u : ℕ → ℕ) → IsListed users j need → is_met need v ≡ false →
    ((c : ℕ) → (c ≡ risen → ⊥) → u c ≡ v c) → IsIn j (users_at users risen) ⊎ (is_met need u ≡ false)
need-waits users risen j Nothing v u listed unmet same = inr unmet
need-waits users risen j (AtLeast c least) v u listed unmet same = elim (cases_eq c risen) [
  | inl e ↦ inl (subst (λ x. IsIn j (users_at users x)) e listed)
  | inr n ↦ inr (ap (λ m. is_met (AtLeast c least) (λ x. m)) (same c n) ∙ unmet)
]
need-waits users risen j Never v u listed unmet same = inr refl

entry-waits : (users : List Users) (risen j : ℕ) (x : Option CountedEntry) (v u : ℕ → ℕ) → ((f : CountedEntry) → x ≡ Some f → IsListed users j f.need) →
    may_come x v ≡ false → ((c : ℕ) → (c ≡ risen → ⊥) → u c ≡ v c) → IsIn j (users_at users risen) ⊎ (may_come x u ≡ false)
entry-waits users risen j (Some f) v u listed unmet same = need-waits users risen j f.need v u (listed f refl) unmet same
entry-waits users risen j None v u listed unmet same = inr refl

-- another strand that couldn't go on is listed with the counter that has risen, or still can't
other-waits : (ss : Strands) (users : List Users) (at : Cut) (k j : ℕ) (e : CountedEntry) → AreUsers ss users → length at ≡ length ss →
    next_of ss at k ≡ Some e → (j ≡ k → ⊥) → by_counters ss at j ≡ false → IsIn j (users_at users e.counter) ⊎ (by_counters ss (come k at) j ≡ false)
other-waits ss users at k j e us n is other unmet =
    let same : (c : ℕ) → (c ≡ e.counter → ⊥) → value_at ss (come k at) c ≡ value_at ss at c =
    λ c d. omega (arith, value-come c ss at k e n is, adds-other c e d) in
    let place : by_counters ss (come k at) j ≡ may_come (next_of ss at j) (value_at ss (come k at)) =
    ap (λ m. may_come (slice_get (slice_index_or ss j []) m) (value_at ss (come k at))) (come-other at k j other) in
    elim (entry-waits users e.counter j (next_of ss at j) (value_at ss at) (value_at ss (come k at)) (λ f h. next-listed ss users at j f us h) unmet same) [
      | inl i ↦ inl i
      | inr f ↦ inr (place ∙ f)
    ]

-- ---- a strand is looked at

-- a merge in which this strand is looked at
pub record Looks (ss : Strands) (counters k : ℕ) (q : Progress) : Type 0 where
  pub reached : q.at.items ≡ reached (lengths ss) q.order.items
  pub next : AreNext even (by_counters ss) (lengths ss) (nothing (lengths ss)) q.order.items
  pub count : length q.values.items ≡ counters
  pub values : (c : ℕ) → c < counters → slice_index q.values.items c ≡ value_at ss q.at.items c
  pub waits : (j : ℕ) → j < length ss → (IsIn j q.todo.items ⊎ (k ≡ j)) ⊎ (by_counters ss q.at.items j ≡ false)

pub looks : (ss : Strands) (counters k : ℕ) (p q : Progress) → Stands ss counters p → q.at.items ≡ p.at.items → q.values.items ≡ p.values.items →
    q.order.items ≡ p.order.items → p.todo.items ≡ q.todo.items ++ k ∷ [] → Looks ss counters k q
looks ss counters k p q s a v o t = record {
  reached = a ∙ s.reached ∙ ap (λ xs. reached (lengths ss) xs) (sym o);
  next = subst (λ xs. AreNext even (by_counters ss) (lengths ss) (nothing (lengths ss)) xs) (sym o) s.next;
  count = ap length v ∙ s.count;
  values = λ c h. ap (λ xs. slice_index xs c) v ∙ s.values c h ∙ ap (λ xs. value_at ss xs c) (sym a);
  waits = λ j h. elim (s.waits j h) [
    | inl i ↦ inl (in-last j k q.todo.items (subst (λ xs. IsIn j xs) t i))
    | inr f ↦ inr (ap (λ xs. by_counters ss xs j) a ∙ f)
  ];
}

looks-count : (ss : Strands) (counters k : ℕ) (q : Progress) → Looks ss counters k q → length q.at.items ≡ length ss
looks-count ss counters k q l = ap length l.reached ∙ reached-count (lengths ss) q.order.items ∙ length-map ss length

stuck-waits : (ss : Strands) (k j : ℕ) (q : Progress) → by_counters ss q.at.items k ≡ false → IsIn j q.todo.items ⊎ (k ≡ j) →
    IsIn j q.todo.items ⊎ (by_counters ss q.at.items j ≡ false)
stuck-waits ss k j q f (inl i) = inl i
stuck-waits ss k j q f (inr same) = inr (subst (λ x. by_counters ss q.at.items x ≡ false) same f)

-- it can't go on
rests : (ss : Strands) (counters k : ℕ) (q : Progress) → Looks ss counters k q → by_counters ss q.at.items k ≡ false → Stands ss counters q
rests ss counters k q l f = record {
  reached = l.reached;
  next = l.next;
  count = l.count;
  values = l.values;
  waits = λ j h. elim (l.waits j h) [ inl i ↦ stuck-waits ss k j q f i | inr g ↦ inr g ];
}

set-values : (ss : Strands) (at : Cut) (vs : List ℕ) (k : ℕ) (e : CountedEntry) → length at ≡ length ss → next_of ss at k ≡ Some e → e.counter < length vs →
    ((c : ℕ) → c < length vs → slice_index vs c ≡ value_at ss at c) → (c : ℕ) → c < length vs → (c ≡ e.counter) ⊎ (c ≡ e.counter → ⊥) →
    slice_index (slice_set vs e.counter (slice_index vs e.counter + e.amount)) c ≡ value_at ss (come k at) c
set-values ss at vs k e n is w values c h (inl same) =
    let own : slice_index (slice_set vs e.counter (slice_index vs e.counter + e.amount)) e.counter ≡ slice_index vs e.counter + e.amount =
    get_or-set_same vs e.counter (slice_index vs e.counter + e.amount) 0 w in
    let at_own : slice_index (slice_set vs e.counter (slice_index vs e.counter + e.amount)) e.counter ≡ value_at ss (come k at) e.counter =
    omega (arith, own, values e.counter w, value-come e.counter ss at k e n is, adds-own e) in
    subst (λ x. slice_index (slice_set vs e.counter (slice_index vs e.counter + e.amount)) x ≡ value_at ss (come k at) x) (sym same) at_own
set-values ss at vs k e n is w values c h (inr other) =
    get_or-set_other vs e.counter c (slice_index vs e.counter + e.amount) 0 other
    ∙ omega (arith, values c h, value-come c ss at k e n is, adds-other c e other)

came-waits : (ss : Strands) (users : List Users) (k j : ℕ) (e : CountedEntry) (q r : Progress) → AreUsers ss users → length q.at.items ≡ length ss →
    next_of ss q.at.items k ≡ Some e → Comes k e (users_at users e.counter) q r → (IsIn j q.todo.items ⊎ (k ≡ j)) ⊎ (by_counters ss q.at.items j ≡ false) →
    (j ≡ k) ⊎ (j ≡ k → ⊥) → IsIn j r.todo.items ⊎ (by_counters ss r.at.items j ≡ false)
came-waits ss users k j e q r us n is g (inl (inl i)) d =
    inl (subst (λ xs. IsIn j xs) (sym g.todo) (in-left j q.todo.items (k ∷ users_at users e.counter) i))
came-waits ss users k j e q r us n is g (inl (inr same)) d =
    inl (subst (λ xs. IsIn j xs) (sym g.todo) (in-right j q.todo.items (k ∷ users_at users e.counter) (inl same)))
came-waits ss users k j e q r us n is g (inr f) (inl same) =
    inl (subst (λ xs. IsIn j xs) (sym g.todo) (in-right j q.todo.items (k ∷ users_at users e.counter) (inl (sym same))))
came-waits ss users k j e q r us n is g (inr f) (inr other) = elim (other-waits ss users q.at.items k j e us n is other f) [
  | inl i ↦ inl (subst (λ xs. IsIn j xs) (sym g.todo) (in-right j q.todo.items (k ∷ users_at users e.counter) (inr i)))
  | inr unmet ↦ inr (ap (λ xs. by_counters ss xs j) g.at ∙ unmet)
]

may-more : (ss : Strands) (at : Cut) (k : ℕ) (e : CountedEntry) → next_of ss at k ≡ Some e → is_met e.need (value_at ss at) ≡ true →
    IsNext even (by_counters ss) (lengths ss) at k
may-more ss at k e is met = record {
  may = record {
    more = subst (λ n. slice_index at k < n) (sym (length-at ss k)) (next-place ss at k e is);
    met = ap (λ x. may_come x (value_at ss at)) is ∙ met;
  };
  first = λ j h m. absurd (omega (arith, h));
}

-- its next entry comes
came : (ss : Strands) (counters : ℕ) (users : List Users) (k : ℕ) (e : CountedEntry) (q r : Progress) → AreUsers ss users → IsWithin counters e →
    Looks ss counters k q → next_of ss q.at.items k ≡ Some e → is_met e.need (value_at ss q.at.items) ≡ true →
    Comes k e (users_at users e.counter) q r → Stands ss counters r
came ss counters users k e q r us w l is met g =
    let n : length q.at.items ≡ length ss = looks-count ss counters k q l in
    let within : e.counter < length q.values.items = subst (λ c. e.counter < c) (sym l.count) w.counter in
    let values : (c : ℕ) → c < length q.values.items → slice_index q.values.items c ≡ value_at ss q.at.items c =
    λ c h. l.values c (subst (λ m. c < m) l.count h) in
    record {
      reached = g.at ∙ ap (λ xs. come k xs) l.reached ∙ sym (come-all-more q.order.items k (nothing (lengths ss)))
          ∙ ap (λ xs. reached (lengths ss) xs) (sym g.order);
      next = subst (λ xs. AreNext even (by_counters ss) (lengths ss) (nothing (lengths ss)) xs) (sym g.order)
          (next-more even (by_counters ss) (lengths ss) (nothing (lengths ss)) q.order.items k l.next
          (subst (λ at. IsNext even (by_counters ss) (lengths ss) at k) l.reached (may-more ss q.at.items k e is met)));
      count = ap length g.values ∙ length-set q.values.items e.counter (slice_index q.values.items e.counter + e.amount) ∙ l.count;
      values = λ c h.
          ap (λ xs. slice_index xs c) g.values
          ∙ set-values ss q.at.items q.values.items k e n is within values c (subst (λ m. c < m) (sym l.count) h) (cases_eq c e.counter)
          ∙ ap (λ xs. value_at ss xs c) (sym g.at);
      waits = λ j h. came-waits ss users k j e q r us n is g (l.waits j h) (cases_eq j k);
    }

met-now : (ss : Strands) (counters k : ℕ) (e : CountedEntry) (q : Progress) → IsWithin counters e → Looks ss counters k q →
    is_met e.need (slice_index q.values.items) ≡ is_met e.need (value_at ss q.at.items)
met-now ss counters k e q w l = met-same counters e.need (slice_index q.values.items) (value_at ss q.at.items) w.need l.values

goes-met : (ss : Strands) (counters : ℕ) (users : List Users) (k : ℕ) (e : CountedEntry) (q r : Progress) (b : Bool) → AreUsers ss users → IsWithin counters e →
    Looks ss counters k q → next_of ss q.at.items k ≡ Some e → is_met e.need (slice_index q.values.items) ≡ b →
    MatchBool b (Comes k e (users_at users e.counter) q r) (r ≡ q) → Stands ss counters r
goes-met ss counters users k e q r true us w l is met g =
    came ss counters users k e q r us w l is (sym (met-now ss counters k e q w l) ∙ met) g
goes-met ss counters users k e q r false us w l is met g =
    subst (λ x. Stands ss counters x) (sym g)
    (rests ss counters k q l (ap (λ x. may_come x (value_at ss q.at.items)) is ∙ sym (met-now ss counters k e q w l) ∙ met))

goes-at : (ss : Strands) (counters : ℕ) (users : List Users) (k : ℕ) (q r : Progress) (x : Option CountedEntry) → AreUsers ss users → AreWithin counters ss →
    Looks ss counters k q → next_of ss q.at.items k ≡ x → GoesOn x k users q r → Stands ss counters r
goes-at ss counters users k q r (Some e) us w l is g =
    goes-met ss counters users k e q r (is_met e.need (slice_index q.values.items)) us (next-within counters ss q.at.items k e w is) l is refl g
goes-at ss counters users k q r None us w l is g =
    subst (λ x. Stands ss counters x) (sym g) (rests ss counters k q l (ap (λ x. may_come x (value_at ss q.at.items)) is))

pub goes-on : (ss : Strands) (counters : ℕ) (users : List Users) (k : ℕ) (p q r : Progress) → AreUsers ss users → AreWithin counters ss → Stands ss counters p →
    q.at.items ≡ p.at.items → q.values.items ≡ p.values.items → q.order.items ≡ p.order.items → p.todo.items ≡ q.todo.items ++ k ∷ [] →
    GoesOn (next_of ss q.at.items k) k users q r → Stands ss counters r
goes-on ss counters users k p q r us w s a v o t g =
    goes-at ss counters users k q r (next_of ss q.at.items k) us w (looks ss counters k p q s a v o t) refl g

pub stands-count : (ss : Strands) (counters : ℕ) (p : Progress) → Stands ss counters p → length p.at.items ≡ length ss
stands-count ss counters p s = ap length s.reached ∙ reached-count (lengths ss) p.order.items ∙ length-map ss length

-- ---- the start

zeros : (ss : Strands) → replicate (length ss) 0 ≡ nothing (lengths ss)
zeros [] = refl
zeros (s ∷ ss) = ap (λ xs. 0 ∷ xs) (zeros ss)

value-zero : (c : ℕ) (ss : Strands) → value_at ss (nothing (lengths ss)) c ≡ 0
value-zero c [] = refl
value-zero c (s ∷ ss) = let r : value_at ss (nothing (lengths ss)) c ≡ 0 = value-zero c ss in omega (arith, r)

pub starts : (ss : Strands) (m counters : ℕ) (p : Progress) → m ≡ length ss → IsNew m counters p → Stands ss counters p
starts ss m counters p e n =
    let at : p.at.items ≡ nothing (lengths ss) = n.at ∙ ap (λ x. replicate x 0) e ∙ zeros ss in
    record {
      reached = subst (λ xs. p.at.items ≡ reached (lengths ss) xs) (sym n.order) at;
      next = subst (λ xs. AreNext even (by_counters ss) (lengths ss) (nothing (lengths ss)) xs) (sym n.order) tt;
      count = ap length n.values ∙ length-replicate counters 0;
      values = λ c h. ap (λ xs. slice_index xs c) n.values ∙ get_or-replicate counters c 0 0 h ∙ sym (value-zero c ss) ∙ ap (λ xs. value_at ss xs c) (sym at);
      waits = λ k h. inl (n.todo k (subst (λ x. k < x) (sym e) h));
    }

-- ---- the end

nothing-waits : (ss : Strands) (counters k : ℕ) (p : Progress) → p.todo.items ≡ [] → MayCome (by_counters ss) (lengths ss) p.at.items k →
    IsIn k p.todo.items ⊎ (by_counters ss p.at.items k ≡ false) → ⊥
nothing-waits ss counters k p empty may (inl i) = subst (λ xs. IsIn k xs) empty i
nothing-waits ss counters k p empty may (inr f) = let m : by_counters ss p.at.items k ≡ true = may.met in true≢false (sym m ∙ f)

pub ends : (ss : Strands) (counters : ℕ) (p : Progress) → Stands ss counters p → p.todo.items ≡ [] →
    IsGreedy even (by_counters ss) (lengths ss) p.order.items
ends ss counters p s empty = record {
  each = s.next;
  stuck = subst (λ at. IsStuck (by_counters ss) (lengths ss) at) s.reached
      (λ k may. nothing-waits ss counters k p empty may
      (s.waits k (subst (λ n. k < n) (length-map ss length) (index_in_range (lengths ss) k (slice_index p.at.items k) may.more))));
}

-- ---- each look brings the end nearer

abbrev pub still_to_do : Strands → List Users → Progress → ℕ
still_to_do ss users p = still_left ss p.at.items * (listed users + 2) + length p.todo.items

less : (x a m b : ℕ) → a < m + b → x + a < x + m + b
less x a m b h = omega arith

falls : (x y m a b : ℕ) → x + 1 ≡ y → a < m + b → x * m + a < y * m + b
falls x y m a b e h =
    subst (λ z. x * m + a < z * m + b) (sym (add-one x) ∙ e)
    (subst (λ z. x * m + a < z + b) (sym (suc-mul x m)) (less (x * m) a m b h))

fewer : (x a b : ℕ) → a < b → x + a < x + b
fewer x a b h = omega arith

one-fewer : (ss : Strands) (users : List Users) (k : ℕ) (p q : Progress) → q.at.items ≡ p.at.items → p.todo.items ≡ q.todo.items ++ k ∷ [] →
    still_to_do ss users q < still_to_do ss users p
one-fewer ss users k p q a t =
    subst (λ xs. still_to_do ss users q < still_left ss xs * (listed users + 2) + length p.todo.items) a
    (fewer (still_left ss q.at.items * (listed users + 2)) (length q.todo.items) (length p.todo.items)
    (omega (arith, ap length t, length-append q.todo.items (k ∷ []))))

one-comes : (ss : Strands) (users : List Users) (k : ℕ) (e : CountedEntry) (p q r : Progress) → length q.at.items ≡ length ss → next_of ss q.at.items k ≡ Some e →
    q.at.items ≡ p.at.items → p.todo.items ≡ q.todo.items ++ k ∷ [] → Comes k e (users_at users e.counter) q r → still_to_do ss users r < still_to_do ss users p
one-comes ss users k e p q r n is a t g =
    let left : still_left ss r.at.items + 1 ≡ still_left ss p.at.items =
    ap (λ xs. still_left ss xs + 1) g.at ∙ left-come ss q.at.items k e n is ∙ ap (λ xs. still_left ss xs) a in
    let most : length (users_at users e.counter) ≤ listed users = listed-most users e.counter in
    let todo : length r.todo.items ≡ length q.todo.items + length (k ∷ users_at users e.counter) =
    ap length g.todo ∙ length-append q.todo.items (k ∷ users_at users e.counter) in
    let before : length p.todo.items ≡ length q.todo.items + length (k ∷ []) = ap length t ∙ length-append q.todo.items (k ∷ []) in
    falls (still_left ss r.at.items) (still_left ss p.at.items) (listed users + 2) (length r.todo.items) (length p.todo.items) left
    (omega (arith, most, todo, before))

nearer-met : (ss : Strands) (users : List Users) (k : ℕ) (e : CountedEntry) (p q r : Progress) (b : Bool) → length q.at.items ≡ length ss →
    next_of ss q.at.items k ≡ Some e → q.at.items ≡ p.at.items → p.todo.items ≡ q.todo.items ++ k ∷ [] →
    MatchBool b (Comes k e (users_at users e.counter) q r) (r ≡ q) → still_to_do ss users r < still_to_do ss users p
nearer-met ss users k e p q r true n is a t g = one-comes ss users k e p q r n is a t g
nearer-met ss users k e p q r false n is a t g = subst (λ x. still_to_do ss users x < still_to_do ss users p) (sym g) (one-fewer ss users k p q a t)

nearer-at : (ss : Strands) (users : List Users) (k : ℕ) (p q r : Progress) (x : Option CountedEntry) → length q.at.items ≡ length ss →
    next_of ss q.at.items k ≡ x → q.at.items ≡ p.at.items → p.todo.items ≡ q.todo.items ++ k ∷ [] → GoesOn x k users q r →
    still_to_do ss users r < still_to_do ss users p
nearer-at ss users k p q r (Some e) n is a t g = nearer-met ss users k e p q r (is_met e.need (slice_index q.values.items)) n is a t g
nearer-at ss users k p q r None n is a t g = subst (λ x. still_to_do ss users x < still_to_do ss users p) (sym g) (one-fewer ss users k p q a t)

pub nearer : (ss : Strands) (users : List Users) (k : ℕ) (p q r : Progress) → length q.at.items ≡ length ss → q.at.items ≡ p.at.items →
    p.todo.items ≡ q.todo.items ++ k ∷ [] → GoesOn (next_of ss q.at.items k) k users q r → still_to_do ss users r < still_to_do ss users p
nearer ss users k p q r n a t g = nearer-at ss users k p q r (next_of ss q.at.items k) n refl a t g
