-- The steps of a banner are the graph of a function.
use Rattle.std.proofs.Common.{◌≡◌, ◌≢◌, ℕ, zero, suc, ◌+◌, ◌<◌, ◌≤◌, ◌⊎◌, ◌==◌, ◌||◌, Bool, true, false, ltb, if◌then◌else◌, List, [], ◌∷◌, length, take, refl, sym, subst, ◌∙◌, arith, inl, inr}
use Rattle.std.specs.Prelude.{slice_index}
use Rattle.std.proofs.lemmas.Bool.{cases_lt, eqb-true, eq-eqb, le-ltb, lt-ltb}
use Rattle.std.proofs.lemmas.List.{get_or-take, length-take}
use Rattle.m2_control.specs.declared.banner.Banner.{Banner}
use Rattle.m2_control.specs.declared.banner.BannerStep.{BannerStep}
use Rattle.m2_control.specs.declared.banner.BannerStep.TheVariants.{Got, NotYet, BadBanner}
use Rattle.m2_control.specs.declared.banner.TheConstants.{LEAST_BANNER, MOST_BANNER}
use Rattle.m2_control.specs.Banner.{magic, Agrees, Differs, payload_length, IsAllowed, IsStep, begins, features_in, sized_banner_in, banner_in}
use Rattle.m2_control.specs.Laws.{BannerIsAFunction}
use Rattle.m2_bytes.proofs.m2_lemmas.Booleans.{or_true}

-- ---- the first 8 bytes

-- a list agrees with another as far as it goes
abbrev AgreesWith : List ℕ → List ℕ → Type 0
AgreesWith xs ys = (i : ℕ) → i < length xs → slice_index xs i ≡ slice_index ys i

abbrev DiffersFrom : List ℕ → List ℕ → Type 0
DiffersFrom xs ys = (i : ℕ) × (i < length xs) × (slice_index xs i ≢ slice_index ys i)

tail_agrees : (x y : ℕ) (xs ys : List ℕ) → x ≡ y → AgreesWith xs ys → AgreesWith (x ∷ xs) (y ∷ ys)
tail_agrees x y xs ys same agree zero lt = same
tail_agrees x y xs ys same agree (suc i) lt = agree i (omega arith)

abbrev Decided : List ℕ → List ℕ → Type 0
Decided xs ys = ((begins xs ys ≡ true) × AgreesWith xs ys) ⊎ ((begins xs ys ≡ false) × DiffersFrom xs ys)

one_more : (x y : ℕ) (xs ys : List ℕ) (same : Bool) → (x == y) ≡ same → Decided xs ys → Decided (x ∷ xs) (y ∷ ys)
one_more x y xs ys true e (inl (begin, agree)) = inl (rw (e, begin) refl, tail_agrees x y xs ys (eqb-true x y e) agree)
one_more x y xs ys true e (inr (no_begin, (i, lt, differs))) = inr (rw (e, no_begin) refl, (suc i, omega arith, differs))
one_more x y xs ys false e rest = inr (rw e refl, (0, omega arith, λ is. absurd (let t : (x == y) ≡ true = eq-eqb x y is in cc)))

decided : (xs ys : List ℕ) → length xs ≤ length ys → Decided xs ys
decided [] ys le = inl (refl, λ i lt. absurd (omega arith))
decided (x ∷ xs) [] le = absurd (omega arith)
decided (x ∷ xs) (y ∷ ys) le = one_more x y xs ys (x == y) refl (decided xs ys (omega arith))

start_agrees : (bytes : List ℕ) → AgreesWith (take 8 bytes) magic → Agrees bytes
start_agrees bytes agree i lt there =
    let same : slice_index (take 8 bytes) i ≡ slice_index bytes i = get_or-take 8 bytes i 0 lt in
    sym same ∙ agree i (omega (arith, length-take 8 bytes))

start_differs : (bytes : List ℕ) → DiffersFrom (take 8 bytes) magic → Differs bytes
start_differs bytes (i, lt, differs) =
    let few : i < 8 = omega (arith, length-take 8 bytes) in
    let same : slice_index (take 8 bytes) i ≡ slice_index bytes i = get_or-take 8 bytes i 0 few in
    (i, few, omega (arith, length-take 8 bytes), λ e. differs (same ∙ e))

start_of : (bytes : List ℕ) → ((begins (take 8 bytes) magic ≡ true) × Agrees bytes) ⊎ ((begins (take 8 bytes) magic ≡ false) × Differs bytes)
start_of bytes =
    elim (decided (take 8 bytes) magic (omega (arith, length-take 8 bytes))) [
      | inl (yes_begins, agree) ↦ inl (yes_begins, start_agrees bytes agree)
      | inr (no_begins, differs) ↦ inr (no_begins, start_differs bytes differs)
    ]

agrees_begins : (bytes : List ℕ) → Agrees bytes → begins (take 8 bytes) magic ≡ true
agrees_begins bytes agree =
    elim (start_of bytes) [
      | inl (is, also) ↦ is
      | inr (isnt, (i, lt, there, differs)) ↦ absurd (differs (agree i lt there))
    ]

differs_begins : (bytes : List ℕ) → Differs bytes → begins (take 8 bytes) magic ≡ false
differs_begins bytes (i, lt, there, differs) =
    elim (start_of bytes) [
      | inl (is, agree) ↦ absurd (differs (agree i lt there))
      | inr (isnt, also) ↦ isnt
    ]

-- ---- the length, and the whole

abbrev sized : (have need : ℕ) → Banner → BannerStep
sized have need features =
    if ltb have 10 then NotYet
    else if ltb need LEAST_BANNER || ltb MOST_BANNER need then BadBanner
    else if ltb have (need + 10) then NotYet
    else Got features (need + 10)

got : (have need : ℕ) (features : Banner) → IsAllowed need → need + 10 ≤ have → sized have need features ≡ Got features (need + 10)
got have need features allowed long =
    let head : ltb have 10 ≡ false = le-ltb _ _ (omega arith) in
    let least : ltb need LEAST_BANNER ≡ false = le-ltb _ _ allowed.0 in
    let most : ltb MOST_BANNER need ≡ false = le-ltb _ _ allowed.1 in
    let whole : ltb have (need + 10) ≡ false = le-ltb _ _ long in
    rw (head, least, most, whole) refl

no_head : (have need : ℕ) (features : Banner) → have < 10 → sized have need features ≡ NotYet
no_head have need features short = let head : ltb have 10 ≡ true = lt-ltb _ _ short in rw head refl

no_rest : (have need : ℕ) (features : Banner) → IsAllowed need → have < need + 10 → sized have need features ≡ NotYet
no_rest have need features allowed short =
    elim (cases_lt have 10) [
      | inl few ↦ no_head have need features few
      | inr many ↦
          let head : ltb have 10 ≡ false = le-ltb _ _ many in
          let least : ltb need LEAST_BANNER ≡ false = le-ltb _ _ allowed.0 in
          let most : ltb MOST_BANNER need ≡ false = le-ltb _ _ allowed.1 in
          let whole : ltb have (need + 10) ≡ true = lt-ltb _ _ short in
          rw (head, least, most, whole) refl
    ]

too_short : (have need : ℕ) (features : Banner) → 10 ≤ have → need < LEAST_BANNER → sized have need features ≡ BadBanner
too_short have need features long few =
    let head : ltb have 10 ≡ false = le-ltb _ _ long in
    let least : ltb need LEAST_BANNER ≡ true = lt-ltb _ _ few in
    rw (head, least) refl

too_long : (have need : ℕ) (features : Banner) → 10 ≤ have → MOST_BANNER < need → sized have need features ≡ BadBanner
too_long have need features long many =
    let head : ltb have 10 ≡ false = le-ltb _ _ long in
    let most : ltb MOST_BANNER need ≡ true = lt-ltb _ _ many in
    rw (head, most, or_true (ltb need LEAST_BANNER)) refl

same_got : (b c : Banner) (m n : ℕ) → b.supported ≡ c.supported → b.required ≡ c.required → m ≡ n → Got b m ≡ Got c n
same_got b c m n s r u = rw (s, r, u) refl

begun : (bytes : List ℕ) (step : BannerStep) → Agrees bytes → step ≡ sized_banner_in bytes → step ≡ banner_in bytes
begun bytes step agree is = rw (agrees_begins bytes agree) is

bad : (bytes : List ℕ) → sized_banner_in bytes ≡ BadBanner → BadBanner ≡ banner_in bytes
bad bytes is =
    elim (start_of bytes) [
      | inl (yes_begins, agree) ↦ rw yes_begins (sym is)
      | inr (no_begins, differs) ↦ rw no_begins refl
    ]

-- ---- the graph

pub is_in : (step : BannerStep) (bytes : List ℕ) → IsStep step bytes → step ≡ banner_in bytes
is_in (Got banner used) bytes (agree, allowed, is, long, supported, required) =
    begun bytes (Got banner used) agree
    (same_got banner (features_in bytes) used (payload_length bytes + 10) supported required is
    ∙ sym (got (length bytes) (payload_length bytes) (features_in bytes) allowed (omega (arith, is, long))))
is_in NotYet bytes (agree, inl short) = begun bytes NotYet agree (sym (no_head (length bytes) (payload_length bytes) (features_in bytes) short))
is_in NotYet bytes (agree, inr (allowed, short)) = begun bytes NotYet agree (sym (no_rest (length bytes) (payload_length bytes) (features_in bytes) allowed short))
is_in BadBanner bytes (inl differs) = rw (differs_begins bytes differs) refl
is_in BadBanner bytes (inr (long, inl few)) = bad bytes (too_short (length bytes) (payload_length bytes) (features_in bytes) long few)
is_in BadBanner bytes (inr (long, inr many)) = bad bytes (too_long (length bytes) (payload_length bytes) (features_in bytes) long many)

sized_step : (bytes : List ℕ) → Agrees bytes → 10 ≤ length bytes → (step : BannerStep) × IsStep step bytes
sized_step bytes agree long =
    let need : ℕ = payload_length bytes in
    elim (cases_lt need LEAST_BANNER) [
      | inl few ↦ (BadBanner, inr (long, inl few))
      | inr least ↦
          elim (cases_lt MOST_BANNER need) [
            | inl many ↦ (BadBanner, inr (long, inr many))
            | inr most ↦
                elim (cases_lt (length bytes) (need + 10)) [
                  | inl short ↦ (NotYet, (agree, inr ((least, most), short)))
                  | inr whole ↦ (Got (features_in bytes) (need + 10), (agree, (least, most), refl, whole, refl, refl))
                ]
          ]
    ]

some_step : (bytes : List ℕ) → (step : BannerStep) × IsStep step bytes
some_step bytes =
    elim (start_of bytes) [
      | inl (yes_begins, agree) ↦
          elim (cases_lt (length bytes) 10) [
            | inl short ↦ (NotYet, (agree, inl short))
            | inr long ↦ sized_step bytes agree long
          ]
      | inr (no_begins, differs) ↦ (BadBanner, inl differs)
    ]

in_is : (step : BannerStep) (bytes : List ℕ) → step ≡ banner_in bytes → IsStep step bytes
in_is step bytes is =
    let s = some_step bytes in
    let same : s.0 ≡ step = is_in s.0 bytes s.1 ∙ sym is in
    subst (λ (x : BannerStep). IsStep x bytes) same s.1

pub is_a_function : BannerIsAFunction
is_a_function step bytes = (is_in step bytes, in_is step bytes)
