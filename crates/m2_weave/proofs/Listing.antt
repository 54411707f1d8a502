-- Lists of the strands that wait for counters.
use Rattle.std.proofs.Common.{◌≡◌, ℕ, zero, suc, ◌+◌, ◌-◌, ◌<◌, ◌≤◌, ◌⊎◌, inl, inr, List, [], ◌∷◌, ◌++◌, length, refl, sym, ap, ◌∙◌, subst, arith, true, nat_eq}
use Rattle.std.specs.Prelude.{slice_index, slice_index_or, slice_set, All}
use Rattle.std.proofs.lemmas.Bool.Decides.{nat_tests}
use Rattle.std.proofs.lemmas.List.{length-set, get_or_default}
use Rattle.std.proofs.lemmas.Bool.{cases_eq}
use Rattle.m2_weave.specs.declared.counted.CountedEntry.{CountedEntry}
use Rattle.m2_weave.specs.declared.counted.CountedStrand.{CountedStrand}
use Rattle.m2_weave.specs.declared.counted.Need.{Need}
use Rattle.m2_weave.specs.declared.counted.Need.TheVariants.{Nothing, AtLeast, Never}
use Rattle.m2_weave.specs.declared.users.Users.{Users}
use Rattle.m2_weave.specs.Counted.{entries_of}
use Rattle.m2_weave.specs.Users.{IsIn, IsWithin, users_at, listed, IsListed, AreListed, ListsMore}

-- ---- numbers in a list

pub in-left : (k : ℕ) (xs ys : List ℕ) → IsIn k xs → IsIn k (xs ++ ys)
in-left k (x ∷ xs) ys (inl e) = inl e
in-left k (x ∷ xs) ys (inr h) = inr (in-left k xs ys h)
in-left k [] ys h = absurd h

pub in-right : (k : ℕ) (xs ys : List ℕ) → IsIn k ys → IsIn k (xs ++ ys)
in-right k [] ys h = h
in-right k (x ∷ xs) ys h = inr (in-right k xs ys h)

pub in-last : (k x : ℕ) (xs : List ℕ) → IsIn k (xs ++ x ∷ []) → IsIn k xs ⊎ (x ≡ k)
in-last k x [] (inl e) = inr e
in-last k x [] (inr h) = absurd h
in-last k x (y ∷ xs) (inl e) = inl (inl e)
in-last k x (y ∷ xs) (inr h) = elim (in-last k x xs h) [ inl i ↦ inl (inr i) | inr e ↦ inr e ]

pub in_at : (k : ℕ) (xs : List ℕ) (i : ℕ) → i < length xs → nat_eq (slice_index xs i) k ≡ true → IsIn k xs
in_at k [] i h e = absurd (omega (arith, h))
in_at k (x ∷ xs) zero h e = let is : x ≡ k = grind (arith, nat_tests) in inl is
in_at k (x ∷ xs) (suc i) h e = inr (in_at k xs i (omega (arith, h)) e)

-- ---- one counter's list is replaced

pub users-is : (us : List Users) (c : ℕ) (d : Users) → c < length us → users_at us c ≡ (slice_index_or us c d).strands.items
users-is [] c d h = absurd (omega (arith, h))
users-is (v ∷ us) zero d h = refl
users-is (v ∷ us) (suc c) d h = users-is us c d (omega (arith, h))

pub users-same : (us : List Users) (c : ℕ) (u : Users) → c < length us → users_at (slice_set us c u) c ≡ u.strands.items
users-same [] c u h = absurd (omega (arith, h))
users-same (v ∷ us) zero u h = refl
users-same (v ∷ us) (suc c) u h = users-same us c u (omega (arith, h))

pub users-other : (us : List Users) (c d : ℕ) (u : Users) → (d ≡ c → ⊥) → users_at (slice_set us c u) d ≡ users_at us d
users-other [] c d u n = refl
users-other (v ∷ us) zero zero u n = absurd (n refl)
users-other (v ∷ us) zero (suc d) u n = refl
users-other (v ∷ us) (suc c) zero u n = refl
users-other (v ∷ us) (suc c) (suc d) u n = users-other us c d u (λ e. n (ap suc e))

still-at : (us : List Users) (c : ℕ) (u d : Users) (k : ℕ) → c < length us →
    u.strands.items ≡ (slice_index_or us c d).strands.items ++ k ∷ [] → (x j : ℕ) → (x ≡ c) ⊎ (x ≡ c → ⊥) →
    IsIn j (users_at us x) → IsIn j (users_at (slice_set us c u) x)
still-at us c u d k h e x j (inl same) i =
    let i_c : IsIn j (users_at us c) = subst (λ y. IsIn j (users_at us y)) same i in
    let i_v : IsIn j (slice_index_or us c d).strands.items = subst (λ xs. IsIn j xs) (users-is us c d h) i_c in
    let i_u : IsIn j u.strands.items = subst (λ xs. IsIn j xs) (sym e) (in-left j (slice_index_or us c d).strands.items (k ∷ []) i_v) in
    let i_new : IsIn j (users_at (slice_set us c u) c) = subst (λ xs. IsIn j xs) (sym (users-same us c u h)) i_u in
    subst (λ y. IsIn j (users_at (slice_set us c u) y)) (sym same) i_new
still-at us c u d k h e x j (inr other) i = subst (λ xs. IsIn j xs) (sym (users-other us c x u other)) i

-- the list of a counter has grown by one strand
pub lists-one : (us : List Users) (c : ℕ) (u d : Users) (k : ℕ) → c < length us →
    u.strands.items ≡ (slice_index_or us c d).strands.items ++ k ∷ [] → ListsMore us (slice_set us c u)
lists-one us c u d k h e = record {
  count = length-set us c u;
  still = λ x j i. still-at us c u d k h e x j (cases_eq x c) i;
}

pub listed-one : (us : List Users) (c : ℕ) (u d : Users) (k : ℕ) → c < length us →
    u.strands.items ≡ (slice_index_or us c d).strands.items ++ k ∷ [] → IsIn k (users_at (slice_set us c u) c)
listed-one us c u d k h e =
    subst (λ xs. IsIn k xs) (sym (users-same us c u h ∙ e)) (in-right k (slice_index_or us c d).strands.items (k ∷ []) (inl refl))

-- ---- lists that grow

pub lists-same : (us : List Users) → ListsMore us us
lists-same us = record { count = refl; still = λ c k i. i }

pub lists-on : (us vs ws : List Users) → ListsMore us vs → ListsMore vs ws → ListsMore us ws
lists-on us vs ws f g = record { count = g.count ∙ f.count; still = λ c k i. g.still c k (f.still c k i) }

pub listed-still : (us vs : List Users) (k : ℕ) (need : Need) → ListsMore us vs → IsListed us k need → IsListed vs k need
listed-still us vs k Nothing more h = tt
listed-still us vs k (AtLeast c least) more h = more.still c k h
listed-still us vs k Never more h = tt

-- one more of a strand's entries is listed
pub listed-more : (us vs : List Users) (k : ℕ) (es : List CountedEntry) (n : ℕ) (e : CountedEntry) → n < length es → ListsMore us vs →
    ((i : ℕ) (d : CountedEntry) → i < n → IsListed us k (slice_index_or es i d).need) → IsListed vs k (slice_index_or es n e).need →
    (i : ℕ) (d : CountedEntry) → i < n + 1 → IsListed vs k (slice_index_or es i d).need
listed-more us vs k es n e within more before here i d h = elim (cases_eq i n) [
  | inl same ↦
      let at_n : IsListed vs k (slice_index_or es n d).need =
      subst (λ (x : CountedEntry). IsListed vs k x.need) (get_or_default es n e d within) here in
      subst (λ x. IsListed vs k (slice_index_or es x d).need) (sym same) at_n
  | inr other ↦ listed-still us vs k (slice_index_or es i d).need more (before i d (grind (arith, other)))
]

-- ---- strands

pub entries-count : (strands : List CountedStrand) → length (entries_of strands) ≡ length strands
entries-count [] = refl
entries-count (s ∷ strands) = ap suc (entries-count strands)

pub entries-at : (strands : List CountedStrand) (k : ℕ) (s : CountedStrand) → k < length strands → s ≡ slice_index_or strands k s →
    slice_index_or (entries_of strands) k [] ≡ s.entries.items
entries-at [] k s h e = absurd (omega (arith, h))
entries-at (x ∷ strands) zero s h e = ap (λ (w : CountedStrand). w.entries.items) (sym e)
entries-at (x ∷ strands) (suc k) s h e = entries-at strands k s (omega (arith, h)) e

pub within-at : (m n : ℕ) (xs ys : List CountedEntry) → m ≡ n → xs ≡ ys → All (IsWithin m) xs → All (IsWithin n) ys
within-at m n xs ys same is w = subst (λ c. All (IsWithin c) ys) same (subst (λ es. All (IsWithin m) es) is w)

listed-all : (us vs : List Users) (k : ℕ) (es : List CountedEntry) → ListsMore us vs → AreListed us k es → AreListed vs k es
listed-all us vs k es more h = λ i d l. listed-still us vs k (slice_index_or es i d).need more (h i d l)

-- one more strand is listed
pub strands-more : (strands : List CountedStrand) (us vs ws : List Users) (k : ℕ) (s : CountedStrand) (es : List CountedEntry) → ws ≡ vs →
    k < length strands → s ≡ slice_index_or strands k s → es ≡ s.entries.items → ListsMore us vs →
    ((j : ℕ) → j < k → AreListed us j (slice_index_or (entries_of strands) j [])) → AreListed vs k es →
    (j : ℕ) → j < k + 1 → AreListed ws j (slice_index_or (entries_of strands) j [])
strands-more strands us vs ws k s es same within is entries more before here j h = elim (cases_eq j k) [
  | inl at_k ↦
      let e : es ≡ slice_index_or (entries_of strands) k [] = entries ∙ sym (entries-at strands k s within is) in
      let here_k : AreListed ws k (slice_index_or (entries_of strands) k []) =
      subst (λ us. AreListed us k (slice_index_or (entries_of strands) k [])) (sym same) (subst (λ xs. AreListed vs k xs) e here) in
      subst (λ x. AreListed ws x (slice_index_or (entries_of strands) x [])) (sym at_k) here_k
  | inr other ↦
      subst (λ us. AreListed us j (slice_index_or (entries_of strands) j [])) (sym same)
      (listed-all us vs j (slice_index_or (entries_of strands) j []) more (before j (grind (arith, other))))
]

-- numbers below n, the greatest first
pub below-more : (n i : ℕ) (xs : List ℕ) → i < n → ((k : ℕ) → k < n → n ≤ k + i → IsIn k xs) →
    (k : ℕ) → k < n → n ≤ k + (i + 1) → IsIn k (xs ++ (n - 1 - i) ∷ [])
below-more n i xs h before k below reach = elim (cases_eq k (n - 1 - i)) [
  | inl same ↦ in-right k xs ((n - 1 - i) ∷ []) (inl (sym same))
  | inr other ↦ in-left k xs ((n - 1 - i) ∷ []) (before k below (grind (arith, other)))
]

-- a counter's list isn't longer than all together
pub listed-most : (us : List Users) (c : ℕ) → length (users_at us c) ≤ listed us
listed-most [] c = omega arith
listed-most (u ∷ us) zero = omega arith
listed-most (u ∷ us) (suc c) = let r : length (users_at us c) ≤ listed us = listed-most us c in omega arith
