-- The two records of a link that is up: neither marked down, and each the only one of its node towards the other.
use Rattle.std.proofs.Common.{◌≡◌, ℕ, zero, suc, inl, inr, Bool, true, false, ◌&&◌, ◌||◌, ◌==◌, if◌then◌else◌, List, [], ◌∷◌, map, sum_by, count_by, refl, sym, ap, subst, ◌∙◌, arith}
use Rattle.std.specs.Prelude.{Some, slice_get}
use Rattle.std.specs.List.{AllByRecursion, IsDistinct, list_any}
use Rattle.std.proofs.lemmas.Bool.{eq-eqb, or_parts}
use Rattle.std.proofs.lemmas.List.Sums.{sum_by-cons}
use Rattle.std.proofs.lemmas.Option.{none-some, same_Some}
use Rattle.m2_promise.specs.Delivered.{MarksNoneDown}
use Rattle.m2_links_go_on.specs.m2_growth.Halves.{IsOneOf}
use Rattle.m2_links_go_on.proofs.m2_growth.Among.{mapped_one, of_each}
use Rattle.m2_links_go_on.specs.m2_weave.m2_journal.declared.entry.Entry.{Entry}
use Rattle.m2_links_go_on.specs.m2_weave.m2_journal.declared.entry.Entry.TheVariants as entry
use Rattle.m2_links_go_on.specs.Logged.{AreOfTheirPeers}
use Rattle.m2_script.specs.m2_record.RecordNow.{RecordNow}
use Rattle.m2_script.specs.Outcome.{is_down, is_down_entry, is_post_step}
use Rattle.m2_fabric.proofs.m2_lemmas.Booleans.{or_false, from_false_true}
use Rattle.m2_fabric.proofs.m2_lemmas.Numbers.{unlike_turned}

-- ---- lists

pub all_at : {X : Type 0} (P : X → Type 0) (xs : List X) (k : ℕ) (x : X) → AllByRecursion P xs → slice_get xs k ≡ Some x → P x
all_at P [] k x all e = absurd (none-some x e)
all_at P (y ∷ xs) zero x all e = subst P (same_Some y x e) all.0
all_at P (y ∷ xs) (suc k) x all e = all_at P xs k x all.1 e

none_so : {X : Type 0} (test : X → Bool) (x : X) (xs : List X) → list_any test xs ≡ false → IsOneOf x xs → test x ≡ false
none_so test x [] none one = absurd one
none_so test x (y ∷ xs) none (inl e) = ap test e ∙ (or_parts (test y) (list_any test xs) none).0
none_so test x (y ∷ xs) none (inr one) = none_so test x xs (or_parts (test y) (list_any test xs) none).1 one

-- ---- marked down

no_mark : (e : Entry) → is_down_entry e ≡ false → MarksNoneDown e
no_mark (entry.Post place) h = tt
no_mark entry.Dial h = tt
no_mark (entry.Opened socket) h = tt
no_mark (entry.Read socket count) h = tt
no_mark (entry.Wrote socket count) h = tt
no_mark (entry.Closed socket) h = tt
no_mark (entry.Judged socket ask number answer) h = tt
no_mark (entry.Asked ident number) h = tt
no_mark (entry.Numbered number) h = tt
no_mark (entry.Accepted number key) h = tt
no_mark (entry.Acked number) h = tt
no_mark (entry.Obeyed full) h = tt
no_mark (entry.Down planned) h = from_false_true (sym h)

no_marks : (es : List Entry) → list_any is_down_entry es ≡ false → AllByRecursion MarksNoneDown es
no_marks [] h = tt
no_marks (e ∷ es) h = let parts = or_parts (is_down_entry e) (list_any is_down_entry es) h in (no_mark e parts.0, no_marks es parts.1)

and_false : (b c : Bool) → b ≡ true → (b && c) ≡ false → c ≡ false
and_false true c e h = h
and_false false c e h = from_false_true e

-- no record towards y was marked down
pub never_marked : (y : ℕ) (rs : List RecordNow) (r : RecordNow) → list_any (λ (s : RecordNow). (s.place == y) && is_down s) rs ≡ false → IsOneOf r rs → r.place ≡ y → AllByRecursion MarksNoneDown r.journal
never_marked y rs r none one e =
    no_marks r.journal (and_false (r.place == y) (is_down r) (eq-eqb r.place y e) (none_so (λ (s : RecordNow). (s.place == y) && is_down s) r rs none one))

-- ---- the only record

abbrev place_in : RecordNow → ℕ
place_in r = r.place

abbrev posts_if : ℕ → RecordNow → ℕ
posts_if y r = if r.place == y then count_by is_post_step r.plan else 0

if_not : (b : Bool) (n : ℕ) → b ≡ false → (if b then n else 0) ≡ 0
if_not true n e = from_false_true (sym e)
if_not false n e = refl

if_so : (b : Bool) (n : ℕ) → b ≡ true → (if b then n else 0) ≡ n
if_so true n e = refl
if_so false n e = from_false_true e

none_towards : (y : ℕ) (rs : List RecordNow) → AllByRecursion (λ (q : ℕ). (y == q) ≡ false) (map place_in rs) → sum_by (posts_if y) rs ≡ 0
none_towards y [] all = refl
none_towards y (r ∷ rs) all =
    let here = if_not (r.place == y) (count_by is_post_step r.plan) (unlike_turned y r.place all.0) in
    sum_by-cons (posts_if y) r rs ∙ omega (arith, here, none_towards y rs all.1)

pub only_towards : (y : ℕ) (rs : List RecordNow) (r : RecordNow) → AreOfTheirPeers rs → IsOneOf r rs → r.place ≡ y → sum_by (posts_if y) rs ≡ count_by is_post_step r.plan
unfolding IsDistinct
only_towards y [] r apart one e = absurd one
only_towards y (s ∷ rs) r apart (inl same) e =
    let place : s.place ≡ y = ap place_in (sym same) ∙ e in
    let here = if_so (s.place == y) (count_by is_post_step s.plan) (eq-eqb s.place y place) in
    let rest = none_towards y rs (subst (λ (n : ℕ). AllByRecursion (λ (q : ℕ). (n == q) ≡ false) (map place_in rs)) place apart.0) in
    let plan : count_by is_post_step s.plan ≡ count_by is_post_step r.plan = ap (λ (q : RecordNow). count_by is_post_step q.plan) (sym same) in
    sum_by-cons (posts_if y) s rs ∙ omega (arith, here, rest, plan)
only_towards y (s ∷ rs) r apart (inr one) e =
    let other : (s.place == y) ≡ false = ap (λ n. s.place == n) (sym e) ∙ of_each (λ (q : ℕ). (s.place == q) ≡ false) r.place (map place_in rs) apart.0 (mapped_one place_in r rs one) in
    let here = if_not (s.place == y) (count_by is_post_step s.plan) other in
    sum_by-cons (posts_if y) s rs ∙ omega (arith, here, only_towards y rs r apart.1 one e)

-- what is asked of any record towards y is asked of that one
none_any : (test : RecordNow → Bool) (y : ℕ) (rs : List RecordNow) → AllByRecursion (λ (q : ℕ). (y == q) ≡ false) (map place_in rs) → list_any (λ (q : RecordNow). (q.place == y) && test q) rs ≡ false
none_any test y [] all = refl
none_any test y (r ∷ rs) all = ap (λ c. (c && test r) || list_any (λ (q : RecordNow). (q.place == y) && test q) rs) (unlike_turned y r.place all.0) ∙ none_any test y rs all.1

pub only_any : (test : RecordNow → Bool) (y : ℕ) (rs : List RecordNow) (r : RecordNow) → AreOfTheirPeers rs → IsOneOf r rs → r.place ≡ y → list_any (λ (q : RecordNow). (q.place == y) && test q) rs ≡ test r
unfolding IsDistinct
only_any test y [] r apart one e = absurd one
only_any test y (s ∷ rs) r apart (inl same) e =
    let place : s.place ≡ y = ap place_in (sym same) ∙ e in
    ap (λ c. (c && test s) || list_any (λ (q : RecordNow). (q.place == y) && test q) rs) (eq-eqb s.place y place)
    ∙ ap (λ c. test s || c) (none_any test y rs (subst (λ (n : ℕ). AllByRecursion (λ (q : ℕ). (n == q) ≡ false) (map place_in rs)) place apart.0))
    ∙ or_false (test s) ∙ ap test (sym same)
only_any test y (s ∷ rs) r apart (inr one) e =
    let other : (s.place == y) ≡ false = ap (λ n. s.place == n) (sym e) ∙ of_each (λ (q : ℕ). (s.place == q) ≡ false) r.place (map place_in rs) apart.0 (mapped_one place_in r rs one) in
    ap (λ c. (c && test s) || list_any (λ (q : RecordNow). (q.place == y) && test q) rs) other ∙ only_any test y rs r apart.1 one e
