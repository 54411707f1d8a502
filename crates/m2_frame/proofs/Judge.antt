-- The judgement of a rest, by what is known of its parts.
use Rattle.std.proofs.Common.{◌≡◌, ℕ, ◌<◌, ◌≤◌, Bool, true, false, cond, ltb, List, length, take, drop, ◌++◌, Result, Ok, Err, None, refl, sym, ap, ◌∙◌, arith, length-drop, ◌⊎◌, inl, inr}
use Rattle.std.proofs.lemmas.Bool.{cases_lt, lt-ltb, le-ltb, cond-true, cond-false}
use Rattle.std.proofs.lemmas.List.{take-append-le, drop-append-le, length-append}
use Rattle.m2_frame.specs.declared.epilogue.Late.{Late}
use Rattle.m2_frame.specs.declared.fault.FrameFault.{FrameFault}
use Rattle.m2_frame.specs.declared.fault.FrameFault.TheVariants.{BadSegmentCrc}
use Rattle.m2_frame.specs.declared.preamble.Preamble.{Preamble}
use Rattle.m2_frame.specs.Preamble.{read_preamble}
use Rattle.m2_frame.specs.Reading.{Front, start, bad, first_len, later_len, text_len, first_is_right, judge_rest, front_of, judge_later, judge_first, judge_body, judge, size_in, size_asked, size_of}
use Rattle.m2_frame.specs.Judging.{first_part, later_part, BeginsWith, IsSealed}

pub judge-short : (rest : List ℕ) → length rest < 32 → judge rest ≡ start
unfolding judge
judge-short rest h = cond-true (ltb (length rest) 32) start (judge_body (read_preamble (take 32 rest)) (drop 32 rest)) (lt-ltb (length rest) 32 h)

pub size_of-short : (rest : List ℕ) → length rest < 32 → size_of rest ≡ None
unfolding size_of
size_of-short rest h = cond-true (ltb (length rest) 32) None (size_asked (read_preamble (take 32 rest))) (lt-ltb (length rest) 32 h)

pub judge-whole : (rest : List ℕ) → 32 ≤ length rest → judge rest ≡ judge_body (read_preamble (take 32 rest)) (drop 32 rest)
unfolding judge
judge-whole rest h = cond-false (ltb (length rest) 32) start (judge_body (read_preamble (take 32 rest)) (drop 32 rest)) (le-ltb (length rest) 32 h)

size_of-whole : (rest : List ℕ) → 32 ≤ length rest → size_of rest ≡ size_asked (read_preamble (take 32 rest))
unfolding size_of
size_of-whole rest h = cond-false (ltb (length rest) 32) None (size_asked (read_preamble (take 32 rest))) (le-ltb (length rest) 32 h)

pub judge-refused : (rest : List ℕ) (f : FrameFault) → 32 ≤ length rest → read_preamble (take 32 rest) ≡ Err f → judge rest ≡ bad f
judge-refused rest f h e = judge-whole rest h ∙ ap (λ r. judge_body r (drop 32 rest)) e

pub size_of-refused : (rest : List ℕ) (f : FrameFault) → 32 ≤ length rest → read_preamble (take 32 rest) ≡ Err f → size_of rest ≡ None
size_of-refused rest f h e = size_of-whole rest h ∙ ap size_asked e

pub judge-begins : (rest : List ℕ) (p : Preamble) → BeginsWith rest p → judge rest ≡ judge_first p (drop 32 rest)
judge-begins rest p b = judge-whole rest b.there ∙ ap (λ r. judge_body r (drop 32 rest)) b.read

pub size_of-begins : (rest : List ℕ) (p : Preamble) → BeginsWith rest p → size_of rest ≡ size_in p
size_of-begins rest p b = size_of-whole rest b.there ∙ ap size_asked b.read

-- ---- the first segment

unfoldable pub after_first : Preamble → List ℕ → Front
after_first p body = cond (first_is_right p (take (first_len p) body)) (judge_later p (take (first_len p) body) (drop (first_len p) body)) (bad (BadSegmentCrc 0))

pub judge_first-short : (p : Preamble) (body : List ℕ) → length body < first_len p → judge_first p body ≡ start
unfolding judge_first after_first
judge_first-short p body h = cond-true (ltb (length body) (first_len p)) start (after_first p body) (lt-ltb (length body) (first_len p) h)

pub judge_first-whole : (p : Preamble) (body : List ℕ) → first_len p ≤ length body → judge_first p body ≡ after_first p body
unfolding judge_first after_first
judge_first-whole p body h = cond-false (ltb (length body) (first_len p)) start (after_first p body) (le-ltb (length body) (first_len p) h)

pub opens_short : (rest : List ℕ) (p : Preamble) → BeginsWith rest p → length (drop 32 rest) < first_len p → judge rest ≡ start
opens_short rest p b h = judge-begins rest p b ∙ judge_first-short p (drop 32 rest) h

pub opens_wrong : (rest : List ℕ) (p : Preamble) → BeginsWith rest p → first_len p ≤ length (drop 32 rest) → first_is_right p (first_part p rest) ≡ false → judge rest ≡ bad (BadSegmentCrc 0)
unfolding after_first
opens_wrong rest p b h e = judge-begins rest p b ∙ judge_first-whole p (drop 32 rest) h ∙ ap (λ t. cond t (judge_later p (first_part p rest) (drop (first_len p) (drop 32 rest))) (bad (BadSegmentCrc 0))) e

pub opens_right : (rest : List ℕ) (p : Preamble) → BeginsWith rest p → first_len p ≤ length (drop 32 rest) → first_is_right p (first_part p rest) ≡ true → IsSealed rest p
opens_right rest p b h e = record { there = omega (arith, length-drop 32 rest, b.there); read = b.read; right = e }

pub begins_sealed : (rest : List ℕ) (p : Preamble) → IsSealed rest p → BeginsWith rest p
begins_sealed rest p s = record { there = omega (arith, s.there); read = s.read }

-- ---- what follows it

judge-sealed : (rest : List ℕ) (p : Preamble) → IsSealed rest p → judge rest ≡ judge_later p (first_part p rest) (drop (first_len p) (drop 32 rest))
unfolding after_first
judge-sealed rest p s =
    judge-begins rest p (begins_sealed rest p s)
    ∙ judge_first-whole p (drop 32 rest) (omega (arith, length-drop 32 rest, s.there))
    ∙ ap (λ t. cond t (judge_later p (first_part p rest) (drop (first_len p) (drop 32 rest))) (bad (BadSegmentCrc 0))) s.right

pub judge_later-short : (p : Preamble) (first after : List ℕ) → length after < later_len p → judge_later p first after ≡ start
unfolding judge_later
judge_later-short p first after h =
    cond-true (ltb (length after) (later_len p)) start (front_of p first (take (later_len p) after) (judge_rest p (take (later_len p) after))) (lt-ltb (length after) (later_len p) h)

pub judge_later-whole : (p : Preamble) (first after : List ℕ) → later_len p ≤ length after → judge_later p first after ≡ front_of p first (take (later_len p) after) (judge_rest p (take (later_len p) after))
unfolding judge_later
judge_later-whole p first after h =
    cond-false (ltb (length after) (later_len p)) start (front_of p first (take (later_len p) after) (judge_rest p (take (later_len p) after))) (le-ltb (length after) (later_len p) h)

pub ends_short : (rest : List ℕ) (p : Preamble) → IsSealed rest p → length (drop (first_len p) (drop 32 rest)) < later_len p → judge rest ≡ start
ends_short rest p s h = judge-sealed rest p s ∙ judge_later-short p (first_part p rest) (drop (first_len p) (drop 32 rest)) h

pub ends_whole : (rest : List ℕ) (p : Preamble) (end : Result Late FrameFault) → IsSealed rest p → later_len p ≤ length (drop (first_len p) (drop 32 rest)) → end ≡ judge_rest p (later_part p rest)
    → (text_len p ≤ length rest) × (judge rest ≡ front_of p (first_part p rest) (later_part p rest) end)
ends_whole rest p end s h e = (
  omega (arith, length-drop (first_len p) (drop 32 rest), length-drop 32 rest, s.there, h),
  judge-sealed rest p s ∙ judge_later-whole p (first_part p rest) (drop (first_len p) (drop 32 rest)) h ∙ ap (front_of p (first_part p rest) (later_part p rest)) (sym e),
)

-- ---- more comes

IsSettled : Front → Front → Type 0
IsSettled before after = (before ≡ start) ⊎ (after ≡ before)

later_settled : (p : Preamble) (first after piece : List ℕ) → IsSettled (judge_later p first after) (judge_later p first (after ++ piece))
unfolding IsSettled
later_settled p first after piece =
    elim (cases_lt (length after) (later_len p)) [
      | inl lt ↦ inl (judge_later-short p first after lt)
      | inr le ↦
          let longer : later_len p ≤ length (after ++ piece) = omega (arith, length-append after piece, le) in
          inr (judge_later-whole p first (after ++ piece) longer
          ∙ ap (λ t. front_of p first t (judge_rest p t)) (take-append-le (later_len p) after piece le)
          ∙ sym (judge_later-whole p first after le))
    ]

settled_along : (a a' b b' : Front) → a ≡ a' → b ≡ b' → IsSettled a' b' → IsSettled a b
unfolding IsSettled
settled_along a a' b b' ea eb (inl e) = inl (ea ∙ e)
settled_along a a' b b' ea eb (inr e) = inr (eb ∙ e ∙ sym ea)

cond_settled : (b : Bool) (x x' y : Front) → IsSettled x x' → IsSettled (cond b x y) (cond b x' y)
unfolding IsSettled
cond_settled true x x' y s = s
cond_settled false x x' y s = inr refl

first_settled : (p : Preamble) (body piece : List ℕ) → IsSettled (judge_first p body) (judge_first p (body ++ piece))
unfolding IsSettled after_first
first_settled p body piece =
    let n = first_len p in
    let wrong = bad (BadSegmentCrc 0) in
    elim (cases_lt (length body) n) [
      | inl lt ↦ inl (judge_first-short p body lt)
      | inr le ↦
          let longer : n ≤ length (body ++ piece) = omega (arith, length-append body piece, le) in
          let more : judge_first p (body ++ piece) ≡ cond (first_is_right p (take n body)) (judge_later p (take n body) (drop n body ++ piece)) wrong =
          judge_first-whole p (body ++ piece) longer
          ∙ ap (λ t. cond (first_is_right p t) (judge_later p t (drop n (body ++ piece))) wrong) (take-append-le n body piece le)
          ∙ ap (λ d. cond (first_is_right p (take n body)) (judge_later p (take n body) d) wrong) (drop-append-le n body piece le) in
          settled_along (judge_first p body) (cond (first_is_right p (take n body)) (judge_later p (take n body) (drop n body)) wrong)
          (judge_first p (body ++ piece)) (cond (first_is_right p (take n body)) (judge_later p (take n body) (drop n body ++ piece)) wrong)
          (judge_first-whole p body le) more
          (cond_settled (first_is_right p (take n body)) (judge_later p (take n body) (drop n body)) (judge_later p (take n body) (drop n body ++ piece)) wrong
          (later_settled p (take n body) (drop n body) piece))
    ]

body_settled : (r : Result Preamble FrameFault) (body piece : List ℕ) → IsSettled (judge_body r body) (judge_body r (body ++ piece))
unfolding IsSettled
body_settled (Ok p) body piece = first_settled p body piece
body_settled (Err f) body piece = inr refl

whole_settled : (rest piece : List ℕ) → 32 ≤ length rest → IsSettled (judge rest) (judge (rest ++ piece))
whole_settled rest piece le =
    let longer : 32 ≤ length (rest ++ piece) = omega (arith, length-append rest piece, le) in
    let r = read_preamble (take 32 rest) in
    let more : judge (rest ++ piece) ≡ judge_body r (drop 32 rest ++ piece) =
    judge-whole (rest ++ piece) longer
    ∙ ap (λ t. judge_body (read_preamble t) (drop 32 (rest ++ piece))) (take-append-le 32 rest piece le)
    ∙ ap (judge_body r) (drop-append-le 32 rest piece le) in
    settled_along (judge rest) (judge_body r (drop 32 rest)) (judge (rest ++ piece)) (judge_body r (drop 32 rest ++ piece)) (judge-whole rest le) more (body_settled r (drop 32 rest) piece)

-- a front that isn't the start of a text stays what it is, whatever follows
pub judge-settled : (rest piece : List ℕ) → (judge rest ≡ start) ⊎ ((32 ≤ length rest) × (judge (rest ++ piece) ≡ judge rest))
unfolding IsSettled
judge-settled rest piece =
    elim (cases_lt (length rest) 32) [
      | inl lt ↦ inl (judge-short rest lt)
      | inr le ↦ elim (whole_settled rest piece le) [
        | inl e ↦ inl e
        | inr e ↦ inr (le, e)
      ]
    ]

pub size_of-settled : (rest piece : List ℕ) → 32 ≤ length rest → size_of (rest ++ piece) ≡ size_of rest
size_of-settled rest piece le =
    let longer : 32 ≤ length (rest ++ piece) = omega (arith, length-append rest piece, le) in
    size_of-whole (rest ++ piece) longer ∙ ap (λ t. size_asked (read_preamble t)) (take-append-le 32 rest piece le) ∙ sym (size_of-whole rest le)
