-- What stays along a lawful order.
use Rattle.std.proofs.Common.{◌≡◌, ℕ, ◌+◌, ◌<◌, ◌≤◌, ◌⊎◌, inl, inr, Bool, true, false, List, [], ◌∷◌, length, take, refl, sym, ◌∙◌, subst, arith, Option, Some, None}
use Rattle.std.specs.Prelude.{nat_le, nat_lt, if◌then◌else◌, slice_get, slice_index}
use Rattle.std.proofs.lemmas.List.{length-set, length-map, get_or-set_same, get_or-set_other}
use Rattle.std.proofs.lemmas.Bool.{cases_eq}
use Rattle.std.proofs.lemmas.Bool.Decides.{nat_tests}
use Rattle.m2_fabric.specs.declared.socket.SocketId.{SocketId}
use Rattle.m2_fabric.specs.Sockets.{same_socket}
use Rattle.m2_journal.specs.declared.entry.Entry.TheVariants as entry
use Rattle.m2_weave.specs.Order.{Cut, AtMost, AreLawful, come, come_all, nothing}
use Rattle.m2_weave.specs.declared.strand.StrandItem.{StrandItem}
use Rattle.m2_weave.specs.declared.strand.StrandItem.TheVariants.{Noted, Handed}
use Rattle.m2_weave.specs.Strands.{StrandNow, handed_at, handed_by, judged_at, judged_by, total}
use Rattle.m2_weave.specs.Rule.{Woven, by_bytes, comes, strand_at}
use Rattle.m2_weave.specs.Stops.{sizes}
use Rattle.m2_weave.specs.WeaveLaws.{IsAsked, AsksComeFirst}
use Rattle.m2_weave.proofs.Staying.{total-at-rises}
use Rattle.m2_weave.proofs.Written.{total-more, come-most}
use Rattle.m2_fabric.proofs.Sockets.{same_equal}
use Rattle.m2_bytes.proofs.m2_lemmas.Lists.{index_in_range}
use Rattle.m2_weave.proofs.Furthest.{zero-at}

-- ---- a strand's own item

judged-if : (j v : ℕ) (k x : SocketId) (b : Bool) → same_socket k x ≡ b → (k ≡ x → j < v) → j ≤ v → j + (if b then 1 else 0) ≤ v
judged-if j v k x true is below least = let l : j < v = below (same_equal k x is) in omega arith
judged-if j v k x false is below least = omega (arith, least)

judged-item : (w : Woven) (at : Cut) (s : StrandNow) (n : ℕ) (k : SocketId) (i : StrandItem) → comes w at s n (Some i) ≡ true →
    total (judged_by k) (take n s.items) ≤ handed_at w.strands at k → total (judged_by k) (take n s.items) + judged_by k i ≤ handed_at w.strands at k
judged-item w at s n k (Noted (entry.Judged x ask number answer)) met least =
    judged-if (total (judged_by k) (take n s.items)) (handed_at w.strands at k) k x (same_socket k x) refl
    (λ e. below (subst (λ y. nat_lt (total (judged_by y) (take n s.items)) (handed_at w.strands at y) ≡ true) (sym e) met)) least
  where
    below : nat_lt (total (judged_by k) (take n s.items)) (handed_at w.strands at k) ≡ true → total (judged_by k) (take n s.items) < handed_at w.strands at k
    below h = grind (arith, nat_tests)
judged-item w at s n k (Noted _) met least = omega (arith, least)
judged-item w at s n k (Handed x) met least = omega (arith, least)

answered-item : (w : Woven) (at : Cut) (s : StrandNow) (n : ℕ) (k : SocketId) (count : ℕ) (i : StrandItem) → i ≡ Noted (entry.Wrote k count) →
    comes w at s n (Some i) ≡ true → total (handed_by k) (take n s.items) ≤ judged_at w.strands at k
answered-item w at s n k count i is met =
    most (total (handed_by k) (take n s.items)) (judged_at w.strands at k) (subst (λ x. comes w at s n (Some x) ≡ true) is met)
  where
    most : (a b : ℕ) → nat_le a b ≡ true → a ≤ b
    most a b h = grind (arith, nat_tests)

answered-one : (w : Woven) (at : Cut) (s : StrandNow) (n : ℕ) (i : StrandItem) → slice_get s.items n ≡ Some i → comes w at s n (Some i) ≡ true → IsAsked w at s n →
    (k : SocketId) (m count : ℕ) → (m ≡ n) ⊎ (m ≡ n → ⊥) → m < n + 1 → slice_get s.items m ≡ Some (Noted (entry.Wrote k count)) →
    total (handed_by k) (take m s.items) ≤ judged_at w.strands at k
answered-one w at s n i is met before k m count (inl e) h wrote =
    let here : slice_get s.items n ≡ Some (Noted (entry.Wrote k count)) = subst (λ x. slice_get s.items x ≡ Some (Noted (entry.Wrote k count))) e wrote in
    let same : i ≡ Noted (entry.Wrote k count) = cc in
    subst (λ x. total (handed_by k) (take x s.items) ≤ judged_at w.strands at k) (sym e) (answered-item w at s n k count i same met)
answered-one w at s n i is met before k m count (inr other) h wrote = before.answered k m count (grind (arith, other)) wrote

own-asked : (w : Woven) (at : Cut) (s : StrandNow) (n : ℕ) (i : Option StrandItem) → slice_get s.items n ≡ i → comes w at s n i ≡ true → IsAsked w at s n → IsAsked w at s (n + 1)
own-asked w at s n None is met before = absurd (cc)
own-asked w at s n (Some i) is met before = record {
  judged = λ k.
      let more : total (judged_by k) (take (n + 1) s.items) ≡ total (judged_by k) (take n s.items) + judged_by k i = total-more (judged_by k) n s.items i is in
      omega (arith, more, judged-item w at s n k i met (before.judged k));
  answered = λ k m count h wrote. answered-one w at s n i is met before k m count (cases_eq m n) h wrote;
}

asked-stays : (w : Woven) (at to : Cut) (s : StrandNow) (n : ℕ) → AtMost at to → IsAsked w at s n → IsAsked w to s n
asked-stays w at to s n most a = record {
  judged = λ k. omega (arith, a.judged k, total-at-rises (λ s i. handed_by k i) w.strands at to most);
  answered = λ k m count h wrote. omega (arith, a.answered k m count h wrote, total-at-rises (λ s i. judged_by k i) w.strands at to most);
}

-- ---- along an order

one-more : (w : Woven) (at : Cut) (k j : ℕ) → k < length at → by_bytes w at k ≡ true → ((x : ℕ) → IsAsked w at (strand_at w x) (slice_index at x)) →
    (j ≡ k) ⊎ (j ≡ k → ⊥) → IsAsked w (come k at) (strand_at w j) (slice_index (come k at) j)
one-more w at k j within met r (inl e) =
    let P : ℕ → Type 0 = λ x. IsAsked w (come k at) (strand_at w x) (slice_index (come k at) x) in
    let Q : ℕ → Type 0 = λ n. IsAsked w (come k at) (strand_at w k) n in
    let own : IsAsked w at (strand_at w k) (slice_index at k + 1) =
    own-asked w at (strand_at w k) (slice_index at k) (slice_get (strand_at w k).items (slice_index at k)) refl met (r k) in
    subst P (sym e) (subst Q (sym (get_or-set_same at k (slice_index at k + 1) 0 within))
    (asked-stays w at (come k at) (strand_at w k) (slice_index at k + 1) (come-most at k within) own))
one-more w at k j within met r (inr other) =
    subst (λ n. IsAsked w (come k at) (strand_at w j) n) (sym (get_or-set_other at k j (slice_index at k + 1) 0 other))
    (asked-stays w at (come k at) (strand_at w j) (slice_index at j) (come-most at k within) (r j))

all-asked : (w : Woven) (at : Cut) (order : List ℕ) → length at ≡ length (sizes w) → AreLawful (by_bytes w) (sizes w) at order →
    ((x : ℕ) → IsAsked w at (strand_at w x) (slice_index at x)) → (j : ℕ) → IsAsked w (come_all order at) (strand_at w j) (slice_index (come_all order at) j)
all-asked w at [] n l r j = r j
all-asked w at (k ∷ ks) n (may, l) r j =
    let within : k < length at = omega (arith, n, index_in_range (sizes w) k (slice_index at k) may.more) in
    all-asked w (come k at) ks (length-set at k (slice_index at k + 1) ∙ n) l (λ x. one-more w at k x within may.met r (cases_eq x k)) j

none-asked : (w : Woven) (j : ℕ) → IsAsked w (nothing (sizes w)) (strand_at w j) (slice_index (nothing (sizes w)) j)
none-asked w j = subst (λ n. IsAsked w (nothing (sizes w)) (strand_at w j) n) (sym (zero-at (sizes w) j)) (record {
  judged = λ k. omega arith;
  answered = λ k m count h wrote. absurd (omega (arith, h));
})

pub come_first : AsksComeFirst
come_first w order l = all-asked w (nothing (sizes w)) order (length-map (sizes w) (λ n. 0)) l (none-asked w)
