-- Nodes place by place, and what each lacks.
use Rattle.std.proofs.Common.{◌≡◌, ◌==◌, ◌||◌, not, ℕ, zero, suc, ◌+◌, ◌<◌, Bool, true, false, if◌then◌else◌, None, List, [], ◌∷◌, ◌++◌, length, refl, sym, ap, subst, ◌∙◌, arith}
use Rattle.std.specs.Prelude.{◌≢◌, get_or, slice_get, sum_by, Some}
use Rattle.std.specs.Bool.{OnTrue}
use Rattle.std.specs.List.{AllByRecursion, range_with_len}
use Rattle.std.proofs.lemmas.Bool.{eq-eqb, eqb-false, eqb-true}
use Rattle.std.proofs.lemmas.List.Sums.{sum_by_push}
use Rattle.std.proofs.lemmas.Option.{get_or_from_slice_get, same_Some, slice_get_within}
use Rattle.m2_dispatch.specs.declared.logged.Logged.{Logged}
use Rattle.m2_scenario.specs.declared.node.Node.{Node}
use Rattle.m2_node.specs.m2_script.m2_center.Center.{CenterNow}
use Rattle.m2_node.specs.m2_script.m2_center.Idle.{is_idle}
use Rattle.m2_node.specs.Nodes.{RunNodeNow}
use Rattle.m2_run.specs.Still.{AllBelow, AreStill, IsFoundAt, IsIdleAt, IsMetAt, IsMetFrom, is_on, missing_at, missing_between, missing_from, missing_in, refused_by}

-- ---- places

pub none_below : (P : ℕ → Type 0) → AllBelow P 0
none_below P k lt = absurd (omega (arith, lt))

lower : (k i : ℕ) → k < i + 1 → (k ≡ i → ⊥) → k < i
lower k i lt other = omega (arith, lt, other)

pub one_more_below : (P : ℕ → Type 0) (i : ℕ) → AllBelow P i → P i → AllBelow P (i + 1)
one_more_below P i all its k lt = by (k == i) refl
  where
    by : (c : Bool) → (k == i) ≡ c → P k
    by true e = subst P (sym (eqb-true k i e)) its
    by false e = all k (lower k i lt (eqb-false k i e))

-- ---- all places

module _ (nodes : List Node) (kept : List (RunNodeNow)) where
  pub all_idle : (now : ℕ) → AllBelow (IsIdleAt now nodes kept) (length kept) → (k : ℕ) → IsIdleAt now nodes kept k
  all_idle now all k n there = all k (slice_get_within kept k n there) n there

  pub all_met : AllBelow (λ k. AllBelow (λ j. k ≢ j → IsMetAt nodes kept k j) (length kept)) (length kept) → (k j : ℕ) → k ≢ j → IsMetAt nodes kept k j
  all_met all k j other y n m near far = all k (slice_get_within kept k n near) j (slice_get_within kept j m far) other y n m near far

  pub all_found : AllBelow (IsFoundAt nodes kept) (length kept) → (j : ℕ) → IsFoundAt nodes kept j
  all_found all j m there = all j (slice_get_within kept j m there) m there

-- it is told of the centers of the node at a place
pub idle_there : (now : ℕ) (nodes : List Node) (kept : List RunNodeNow) (k : ℕ) (n : RunNodeNow) (centers : List (CenterNow (List Logged))) (told : Bool) → n ≡ get_or kept k n →
    centers ≡ n.centers → OnTrue told (AllByRecursion (λ (c : CenterNow (List Logged)). is_idle now c ≡ true) centers) → OnTrue told (IsIdleAt now nodes kept k)
idle_there now nodes kept k n centers false is same all = tt
idle_there now nodes kept k n centers true is same all = λ m there on.
    subst (λ (x : RunNodeNow). AllByRecursion (λ (c : CenterNow (List Logged)). is_idle now c ≡ true) x.centers) (is ∙ get_or_from_slice_get kept k m n there)
    (subst (AllByRecursion (λ (c : CenterNow (List Logged)). is_idle now c ≡ true)) same all)

-- ---- two places

-- each socket that the node at one place opened to that at the other is met, where those that stand there say so
pub met_there : (nodes : List Node) (kept : List (RunNodeNow)) (k j : ℕ) (y : Node) (n m : RunNodeNow) → slice_get nodes j ≡ Some y → slice_get kept k ≡ Some n →
    slice_get kept j ≡ Some m → (b : Bool) → OnTrue b (IsMetFrom y.at n m) → OnTrue b (k ≢ j → IsMetAt nodes kept k j)
met_there nodes kept k j y n m y_there n_there m_there false h = tt
met_there nodes kept k j y n m y_there n_there m_there true h = λ other z p q p_there q_there z_there k_on j_on.
    subst (λ (x : Node). IsMetFrom x.at p q) (same_Some y z (sym y_there ∙ z_there))
    (subst (λ (x : RunNodeNow). IsMetFrom y.at x q) (same_Some n p (sym n_there ∙ p_there))
    (subst (λ (x : RunNodeNow). IsMetFrom y.at n x) (same_Some m q (sym m_there ∙ q_there)) h))

-- what the node at place j lacks of that at place k
module _ (nodes : List Node) (kept : List (RunNodeNow)) (j k : ℕ) where
  abbrev between : ℕ
  between = missing_between (slice_get nodes j) (slice_get kept k) (slice_get kept j)

  pub missing_self : k ≡ j → 0 ≡ missing_from nodes kept j k
  missing_self same = sym (ap (λ b. if b || not (is_on nodes k) then 0 else between) (eq-eqb k j same))

  pub missing_off : is_on nodes k ≡ false → 0 ≡ missing_from nodes kept j k
  missing_off off = sym (ap (λ b. if (k == j) || not b then 0 else between) off ∙ by (k == j))
    where
      by : (b : Bool) → (if b || true then 0 else between) ≡ 0
      by true = refl
      by false = refl

  pub missing_none : slice_get nodes j ≡ None → 0 ≡ missing_from nodes kept j k
  missing_none none = sym (ap (λ o. if (k == j) || not (is_on nodes k) then 0 else missing_between o (slice_get kept k) (slice_get kept j)) none ∙ by ((k == j) || not (is_on nodes k)))
    where
      by : (b : Bool) → (if b then 0 else missing_between None (slice_get kept k) (slice_get kept j)) ≡ 0
      by true = refl
      by false = refl

  pub missing_there : (k ≡ j → ⊥) → is_on nodes k ≡ true → (y : Node) (n m : RunNodeNow) → slice_get nodes j ≡ Some y → slice_get kept k ≡ Some n → slice_get kept j ≡ Some m →
      (found : ℕ) → found ≡ missing_in y.at n m → found ≡ missing_from nodes kept j k
  missing_there other on y n m y_there n_there m_there found is =
      is ∙ sym (ap (λ o. missing_between o (Some n) (Some m)) y_there) ∙ sym (ap (λ o. missing_between (slice_get nodes j) o (Some m)) n_there)
      ∙ sym (ap (λ o. missing_between (slice_get nodes j) (slice_get kept k) o) m_there)
      ∙ sym (ap (λ b. if (k == j) || not b then 0 else between) on ∙ by (k == j) refl)
    where
      by : (b : Bool) → (k == j) ≡ b → (if b || false then 0 else between) ≡ between
      by true e = absurd (other (eqb-true k j e))
      by false e = refl

-- ---- all of it

-- they are still, where each of these says so
pub all_still : (now : ℕ) (nodes : List Node) (kept : List (RunNodeNow)) → AllBelow (IsIdleAt now nodes kept) (length kept) →
    AllBelow (λ k. AllBelow (λ j. k ≢ j → IsMetAt nodes kept k j) (length kept)) (length kept) → (b : Bool) → OnTrue b (AllBelow (IsFoundAt nodes kept) (length kept)) → OnTrue b (AreStill now nodes kept)
all_still now nodes kept idle met false h = tt
all_still now nodes kept idle met true h = record { idle = all_idle nodes kept now idle; met = all_met nodes kept met; found = all_found nodes kept h }

-- ---- sums over places

range_more : (a n : ℕ) → range_with_len a (suc n) ≡ range_with_len a n ++ (a + n) ∷ []
range_more a zero = ap (λ m. m ∷ []) (omega arith)
range_more a (suc n) = ap (λ ms. a ∷ ms) (range_more (a + 1) n ∙ ap (λ m. range_with_len (a + 1) n ++ m ∷ []) (omega arith))

pub sum_more : (f : ℕ → ℕ) (k : ℕ) → sum_by f (range_with_len 0 (k + 1)) ≡ sum_by f (range_with_len 0 k) + f k
sum_more f k =
    let on : k + 1 ≡ suc k = omega arith in
    ap (λ n. sum_by f (range_with_len 0 n)) on ∙ ap (sum_by f) (range_more 0 k) ∙ sum_by_push f (range_with_len 0 k) (0 + k) ∙ ap (λ n. sum_by f (range_with_len 0 k) + f n) (omega arith)

-- ---- what a node may lack

-- what the node at place j lacks of sockets that nodes before place k opened to it, and how much more it may, are what it has refused
abbrev pub Spares : List Node → List (RunNodeNow) → (j k rest : ℕ) → Type 0
Spares nodes kept j k rest = (m : RunNodeNow) → slice_get kept j ≡ Some m → sum_by (missing_from nodes kept j) (range_with_len 0 k) + rest ≡ refused_by m.centers

module _ (nodes : List Node) (kept : List (RunNodeNow)) (j : ℕ) where
  pub spares_first : (x : RunNodeNow) (rest : ℕ) → slice_get kept j ≡ Some x → rest ≡ refused_by x.centers → Spares nodes kept j 0 rest
  spares_first x rest there is m e =
      let so : rest ≡ refused_by m.centers = is ∙ ap (λ (n : RunNodeNow). refused_by n.centers) (same_Some x m (sym there ∙ e)) in omega (arith, so)

  pub spares_more : (k rest less : ℕ) → Spares nodes kept j k rest → missing_from nodes kept j k + less ≡ rest → Spares nodes kept j (k + 1) less
  spares_more k rest less all e m there = let so = all m there in let more = sum_more (missing_from nodes kept j) k in omega (arith, so, more, e)

  pub found_all : (k rest : ℕ) → k ≡ length kept → Spares nodes kept j k rest → IsFoundAt nodes kept j
  found_all k rest last all m there on =
      let so = all m there in
      let whole : missing_at nodes kept j ≡ sum_by (missing_from nodes kept j) (range_with_len 0 k) = ap (λ (n : ℕ). sum_by (missing_from nodes kept j) (range_with_len 0 n)) (sym last) in
      omega (arith, so, whole)
