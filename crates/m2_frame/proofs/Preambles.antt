-- The preambles that are read are those of the frames that fit, and they are read as the format's table
-- says.
use Rattle.std.proofs.Common.{◌≡◌, ℕ, ◌<◌, ◌≤◌, ◌%◌, Bool, true, false, cond, ltb, eqb, List, length, take, Result, Ok, Err, refl, sym, ap, ◌∙◌, subst, arith, inl, inr}
use Rattle.std.specs.Prelude.{◌==◌, ◌||◌, ◌&&◌, nat_lt, slice_index}
use Rattle.std.proofs.lemmas.Bool.{cases_lt, cases_eq, lt-ltb, le-ltb, ltb-false, eqb-true, eqb-false, eq-eqb, ne_eqb, cond-true, cond-false, or_from, or_parts, and_cases, and_left, and_right}
use Rattle.m2_frame.specs.declared.tag.TheConstants.{FIRST_TAG, LAST_TAG}
use Rattle.m2_crc.specs.Crc.{crc_of}
use Rattle.m2_frame.specs.declared.fault.FrameFault.{FrameFault}
use Rattle.m2_frame.specs.declared.fault.FrameFault.TheVariants.{BadPreambleCrc, BadCount, LastEmpty, Compressed, BadTag, BadSegments, TooLong}
use Rattle.m2_frame.specs.declared.frame.TheConstants.{MOST_SEGMENTS}
use Rattle.m2_frame.specs.declared.preamble.Preamble.{Preamble}
use Rattle.m2_frame.specs.Frame.{Parts, count_by_lengths, most_segments, segment_limit, Fits}
use Rattle.m2_frame.specs.Preamble.{number_at, counted_length, preamble_in, last_length, is_too_long, judge_fields, read_preamble, preamble_of}
use Rattle.m2_frame.specs.Grammar.{IsPreambleText}

-- ---- the count by the lengths

count_four : (b c d : ℕ) → 0 < d → count_by_lengths b c d ≡ 4
count_four b c d h = cond-true (ltb 0 d) 4 (cond (ltb 0 c) 3 (cond (ltb 0 b) 2 1)) (lt-ltb 0 d h)

count_three : (b c d : ℕ) → d ≤ 0 → 0 < c → count_by_lengths b c d ≡ 3
count_three b c d none h =
    cond-false (ltb 0 d) 4 (cond (ltb 0 c) 3 (cond (ltb 0 b) 2 1)) (le-ltb 0 d none) ∙ cond-true (ltb 0 c) 3 (cond (ltb 0 b) 2 1) (lt-ltb 0 c h)

count_two : (b c d : ℕ) → d ≤ 0 → c ≤ 0 → 0 < b → count_by_lengths b c d ≡ 2
count_two b c d no_d no_c h =
    cond-false (ltb 0 d) 4 (cond (ltb 0 c) 3 (cond (ltb 0 b) 2 1)) (le-ltb 0 d no_d)
    ∙ cond-false (ltb 0 c) 3 (cond (ltb 0 b) 2 1) (le-ltb 0 c no_c) ∙ cond-true (ltb 0 b) 2 1 (lt-ltb 0 b h)

count_one : (b c d : ℕ) → d ≤ 0 → c ≤ 0 → b ≤ 0 → count_by_lengths b c d ≡ 1
count_one b c d no_d no_c no_b =
    cond-false (ltb 0 d) 4 (cond (ltb 0 c) 3 (cond (ltb 0 b) 2 1)) (le-ltb 0 d no_d)
    ∙ cond-false (ltb 0 c) 3 (cond (ltb 0 b) 2 1) (le-ltb 0 c no_c) ∙ cond-false (ltb 0 b) 2 1 (le-ltb 0 b no_b)

-- the count of a preamble is that of its lengths: the last counted segment isn't empty, and past it all are
pub record IsCounted (p : Preamble) : Type 0 where
  pub from : 1 ≤ p.count
  pub to : p.count ≤ 4
  pub last : 1 < p.count → 0 < last_length p
  pub second : p.count ≤ 1 → p.second ≡ 0
  pub third : p.count ≤ 2 → p.third ≡ 0
  pub fourth : p.count ≤ 3 → p.fourth ≡ 0

last_one : (p : Preamble) → p.count ≡ 1 → last_length p ≡ p.first
last_one p e = rw e refl

last_two : (p : Preamble) → p.count ≡ 2 → last_length p ≡ p.second
last_two p e = rw e refl

last_three : (p : Preamble) → p.count ≡ 3 → last_length p ≡ p.third
last_three p e = rw e refl

last_four : (p : Preamble) → p.count ≡ 4 → last_length p ≡ p.fourth
last_four p e = rw e refl

pub counted_by_lengths : (p : Preamble) → p.count ≡ count_by_lengths p.second p.third p.fourth → IsCounted p
counted_by_lengths p e =
    elim (cases_lt 0 p.fourth) [
      | inl d ↦
          let four : p.count ≡ 4 = e ∙ count_four p.second p.third p.fourth d in
          record {
            from = omega (arith, four);
            to = omega (arith, four);
            last = λ _. omega (arith, last_four p four, d);
            second = λ h. absurd (omega (arith, four, h));
            third = λ h. absurd (omega (arith, four, h));
            fourth = λ h. absurd (omega (arith, four, h));
          }
      | inr no_d ↦ elim (cases_lt 0 p.third) [
        | inl c ↦
            let three : p.count ≡ 3 = e ∙ count_three p.second p.third p.fourth no_d c in
            record {
              from = omega (arith, three);
              to = omega (arith, three);
              last = λ _. omega (arith, last_three p three, c);
              second = λ h. absurd (omega (arith, three, h));
              third = λ h. absurd (omega (arith, three, h));
              fourth = λ _. omega (arith, no_d);
            }
        | inr no_c ↦ elim (cases_lt 0 p.second) [
          | inl b ↦
              let two : p.count ≡ 2 = e ∙ count_two p.second p.third p.fourth no_d no_c b in
              record {
                from = omega (arith, two);
                to = omega (arith, two);
                last = λ _. omega (arith, last_two p two, b);
                second = λ h. absurd (omega (arith, two, h));
                third = λ _. omega (arith, no_c);
                fourth = λ _. omega (arith, no_d);
              }
          | inr no_b ↦
              let one : p.count ≡ 1 = e ∙ count_one p.second p.third p.fourth no_d no_c no_b in
              record {
                from = omega (arith, one);
                to = omega (arith, one);
                last = λ h. absurd (omega (arith, one, h));
                second = λ _. omega (arith, no_b);
                third = λ _. omega (arith, no_c);
                fourth = λ _. omega (arith, no_d);
              }
        ]
      ]
    ]

pub count-counted : (p : Preamble) → IsCounted p → count_by_lengths p.second p.third p.fourth ≡ p.count
count-counted p k =
    elim (cases_lt p.count 2) [
      | inl lt ↦
          let one : p.count ≡ 1 = omega (arith, lt, k.from) in
          count_one p.second p.third p.fourth (omega (arith, k.fourth (omega (arith, one)))) (omega (arith, k.third (omega (arith, one)))) (omega (arith, k.second (omega (arith, one)))) ∙ sym one
      | inr two_up ↦ elim (cases_lt p.count 3) [
        | inl lt ↦
            let two : p.count ≡ 2 = omega (arith, lt, two_up) in
            count_two p.second p.third p.fourth (omega (arith, k.fourth (omega (arith, two)))) (omega (arith, k.third (omega (arith, two)))) (omega (arith, last_two p two, k.last (omega (arith, two)))) ∙ sym two
        | inr three_up ↦ elim (cases_lt p.count 4) [
          | inl lt ↦
              let three : p.count ≡ 3 = omega (arith, lt, three_up) in
              count_three p.second p.third p.fourth (omega (arith, k.fourth (omega (arith, three)))) (omega (arith, last_three p three, k.last (omega (arith, three)))) ∙ sym three
          | inr four_up ↦
              let four : p.count ≡ 4 = omega (arith, k.to, four_up) in
              count_four p.second p.third p.fourth (omega (arith, last_four p four, k.last (omega (arith, four)))) ∙ sym four
        ]
      ]
    ]

-- ---- the refusals

-- no refusal holds
pub record IsAllowed (p : Preamble) : Type 0 where
  pub counted : IsCounted p
  pub tag_from : FIRST_TAG ≤ p.tag
  pub tag_to : p.tag ≤ LAST_TAG
  pub segments : p.count ≤ most_segments p.tag
  pub first : p.first ≤ segment_limit p.tag
  pub second : p.second ≤ segment_limit p.tag
  pub third : p.third ≤ segment_limit p.tag
  pub fourth : p.fourth ≤ segment_limit p.tag

pub allowed-fits : (f : Parts) → Fits f → IsAllowed (preamble_of f)
allowed-fits f fits = record {
  counted = counted_by_lengths (preamble_of f) refl;
  tag_from = fits.tag_from;
  tag_to = fits.tag_to;
  segments = fits.count;
  first = fits.first;
  second = fits.second;
  third = fits.third;
  fourth = fits.fourth;
}

abbrev if_short : Preamble → Result Preamble FrameFault
if_short p = cond (is_too_long p) (Err TooLong) (Ok p)

abbrev if_few : Preamble → Result Preamble FrameFault
if_few p = cond (nat_lt (most_segments p.tag) p.count) (Err BadSegments) (if_short p)

abbrev if_known : Preamble → Result Preamble FrameFault
if_known p = cond (nat_lt p.tag FIRST_TAG || nat_lt LAST_TAG p.tag) (Err BadTag) (if_few p)

abbrev if_plain : ℕ → Preamble → Result Preamble FrameFault
if_plain flags p = cond (flags % 2 == 1) (Err Compressed) (if_known p)

abbrev if_last : ℕ → Preamble → Result Preamble FrameFault
if_last flags p = cond (nat_lt 1 p.count && (last_length p == 0)) (Err LastEmpty) (if_plain flags p)

last_is_some : (p : Preamble) → IsCounted p → (nat_lt 1 p.count && (last_length p == 0)) ≡ false
last_is_some p k =
    elim (cases_lt 1 p.count) [
      | inl lt ↦ and_right (ltb 1 p.count) (eqb (last_length p) 0) (ne_eqb (last_length p) 0 (λ e. omega (arith, e, k.last lt)))
      | inr le ↦ and_left (ltb 1 p.count) (eqb (last_length p) 0) (le-ltb 1 p.count le)
    ]

isnt_too_long : (p : Preamble) → IsAllowed p → is_too_long p ≡ false
isnt_too_long p a =
    let most = segment_limit p.tag in
    or_from (ltb most p.first || ltb most p.second || ltb most p.third) (ltb most p.fourth)
    (or_from (ltb most p.first || ltb most p.second) (ltb most p.third)
    (or_from (ltb most p.first) (ltb most p.second) (le-ltb most p.first a.first) (le-ltb most p.second a.second))
    (le-ltb most p.third a.third))
    (le-ltb most p.fourth a.fourth)

judge_fields-allowed : (flags : ℕ) (p : Preamble) → flags % 2 ≡ 0 → IsAllowed p → judge_fields flags p ≡ Ok p
judge_fields-allowed flags p plain a =
    let k = a.counted in
    cond-false ((p.count == 0) || nat_lt MOST_SEGMENTS p.count) (Err BadCount) (if_last flags p)
    (or_from (eqb p.count 0) (ltb MOST_SEGMENTS p.count) (ne_eqb p.count 0 (λ e. omega (arith, e, k.from))) (le-ltb MOST_SEGMENTS p.count k.to))
    ∙ cond-false (nat_lt 1 p.count && (last_length p == 0)) (Err LastEmpty) (if_plain flags p) (last_is_some p k)
    ∙ cond-false (flags % 2 == 1) (Err Compressed) (if_known p) (ne_eqb (flags % 2) 1 (λ e. omega (arith, e, plain)))
    ∙ cond-false (nat_lt p.tag FIRST_TAG || nat_lt LAST_TAG p.tag) (Err BadTag) (if_few p)
    (or_from (ltb p.tag FIRST_TAG) (ltb LAST_TAG p.tag) (le-ltb p.tag FIRST_TAG a.tag_from) (le-ltb LAST_TAG p.tag a.tag_to))
    ∙ cond-false (nat_lt (most_segments p.tag) p.count) (Err BadSegments) (if_short p) (le-ltb (most_segments p.tag) p.count a.segments)
    ∙ cond-false (is_too_long p) (Err TooLong) (Ok p) (isnt_too_long p a)

fault_isnt_preamble : (f : FrameFault) (q : Preamble) → Err f ≡ Ok q → ⊥
fault_isnt_preamble f q e = cc

same_preamble : (r : Result Preamble FrameFault) (p q : Preamble) → r ≡ Ok p → r ≡ Ok q → p ≡ q
same_preamble r p q e e' = cc

not_refused : (b : Bool) (f : FrameFault) (x : Result Preamble FrameFault) (q : Preamble) → cond b (Err f) x ≡ Ok q → (b ≡ false) × (x ≡ Ok q)
not_refused true f x q e = absurd (fault_isnt_preamble f q e)
not_refused false f x q e = (refl, e)

-- the lengths past the count say nothing
pub record IsQuiet (p : Preamble) : Type 0 where
  pub second : p.count ≤ 1 → p.second ≡ 0
  pub third : p.count ≤ 2 → p.third ≡ 0
  pub fourth : p.count ≤ 3 → p.fourth ≡ 0

last_from : (p : Preamble) → (nat_lt 1 p.count && (last_length p == 0)) ≡ false → 1 < p.count → 0 < last_length p
last_from p e some =
    elim (and_cases (ltb 1 p.count) (eqb (last_length p) 0) e) [
      | inl no_more ↦ absurd (omega (arith, some, ltb-false 1 p.count no_more))
      | inr not_none ↦ elim (cases_eq (last_length p) 0) [
        | inl none ↦ absurd (eqb-false (last_length p) 0 not_none none)
        | inr h ↦ omega (arith, h)
      ]
    ]

fields_allowed : (flags : ℕ) (p q : Preamble) → IsQuiet p → judge_fields flags p ≡ Ok q → (p ≡ q) × (flags % 2 ≡ 0) × IsAllowed p
fields_allowed flags p q quiet e =
    let most = segment_limit p.tag in
    let count = not_refused ((p.count == 0) || nat_lt MOST_SEGMENTS p.count) BadCount (if_last flags p) q e in
    let last = not_refused (nat_lt 1 p.count && (last_length p == 0)) LastEmpty (if_plain flags p) q count.1 in
    let plain = not_refused (flags % 2 == 1) Compressed (if_known p) q last.1 in
    let tag = not_refused (nat_lt p.tag FIRST_TAG || nat_lt LAST_TAG p.tag) BadTag (if_few p) q plain.1 in
    let few = not_refused (nat_lt (most_segments p.tag) p.count) BadSegments (if_short p) q tag.1 in
    let short = not_refused (is_too_long p) TooLong (Ok p) q few.1 in
    let counts = or_parts (eqb p.count 0) (ltb MOST_SEGMENTS p.count) count.0 in
    let tags = or_parts (ltb p.tag FIRST_TAG) (ltb LAST_TAG p.tag) tag.0 in
    let upto_fourth = or_parts (ltb most p.first || ltb most p.second || ltb most p.third) (ltb most p.fourth) short.0 in
    let upto_third = or_parts (ltb most p.first || ltb most p.second) (ltb most p.third) upto_fourth.0 in
    let upto_second = or_parts (ltb most p.first) (ltb most p.second) upto_third.0 in
    let some_count : p.count ≡ 0 → ⊥ = eqb-false p.count 0 counts.0 in
    let isnt_one : flags % 2 ≡ 1 → ⊥ = eqb-false (flags % 2) 1 plain.0 in
    let counted : IsCounted p = record {
      from = omega (arith, some_count);
      to = ltb-false MOST_SEGMENTS p.count counts.1;
      last = last_from p last.0;
      second = quiet.second;
      third = quiet.third;
      fourth = quiet.fourth;
    } in
    let allowed : IsAllowed p = record {
      counted = counted;
      tag_from = ltb-false p.tag FIRST_TAG tags.0;
      tag_to = ltb-false LAST_TAG p.tag tags.1;
      segments = ltb-false (most_segments p.tag) p.count few.0;
      first = ltb-false most p.first upto_second.0;
      second = ltb-false most p.second upto_second.1;
      third = ltb-false most p.third upto_third.1;
      fourth = ltb-false most p.fourth upto_fourth.1;
    } in
    (same_preamble (Ok p) p q refl short.1, omega (arith, isnt_one), allowed)

-- ---- the bytes

counted_there : (segment count at n : ℕ) (text : List ℕ) → (segment < count → number_at at text ≡ n) → (count ≤ segment → n ≡ 0) → counted_length segment count at text ≡ n
counted_there segment count at n text there past =
    elim (cases_lt segment count) [
      | inl lt ↦ cond-true (ltb segment count) (number_at at text) 0 (lt-ltb segment count lt) ∙ there lt
      | inr le ↦ cond-false (ltb segment count) (number_at at text) 0 (le-ltb segment count le) ∙ sym (past le)
    ]

abbrev made : ℕ → ℕ → ℕ → ℕ → ℕ → ℕ → Preamble
made t n a b c d = record { tag = t; count = n; first = a; second = b; third = c; fourth = d }

pub same_fields : (t n a b c d : ℕ) (p : Preamble) → t ≡ p.tag → n ≡ p.count → a ≡ p.first → b ≡ p.second → c ≡ p.third → d ≡ p.fourth → made t n a b c d ≡ p
same_fields t n a b c d p et en ea eb ec ed =
    ap (λ (x : ℕ). made x n a b c d) et
    ∙ ap (λ (x : ℕ). made p.tag x a b c d) en
    ∙ ap (λ (x : ℕ). made p.tag p.count x b c d) ea
    ∙ ap (λ (x : ℕ). made p.tag p.count p.first x c d) eb
    ∙ ap (λ (x : ℕ). made p.tag p.count p.first p.second x d) ec
    ∙ ap (λ (x : ℕ). made p.tag p.count p.first p.second p.third x) ed

pub preamble_in-text : (p : Preamble) (text : List ℕ) → IsPreambleText p text → IsCounted p → preamble_in text ≡ p
preamble_in-text p text t k =
    let n = slice_index text 1 in
    let second : counted_length 1 n 8 text ≡ p.second = ap (λ (c : ℕ). counted_length 1 c 8 text) t.count ∙ counted_there 1 p.count 8 p.second text t.second k.second in
    let third : counted_length 2 n 14 text ≡ p.third = ap (λ (c : ℕ). counted_length 2 c 14 text) t.count ∙ counted_there 2 p.count 14 p.third text t.third k.third in
    let fourth : counted_length 3 n 20 text ≡ p.fourth = ap (λ (c : ℕ). counted_length 3 c 20 text) t.count ∙ counted_there 3 p.count 20 p.fourth text t.fourth k.fourth in
    same_fields (slice_index text 0) n (number_at 2 text) (counted_length 1 n 8 text) (counted_length 2 n 14 text) (counted_length 3 n 20 text) p
    t.tag t.count t.first second third fourth

-- what the table says is read
pub read_preamble-text : (p : Preamble) (text : List ℕ) → IsPreambleText p text → IsAllowed p → read_preamble text ≡ Ok p
unfolding read_preamble
read_preamble-text p text t a =
    let flags = slice_index text 26 in
    cond-true (crc_of 0 (take 28 text) == number_at 28 text) (judge_fields flags (preamble_in text)) (Err BadPreambleCrc) (eq-eqb (crc_of 0 (take 28 text)) (number_at 28 text) (sym t.crc))
    ∙ ap (judge_fields flags) (preamble_in-text p text t a.counted)
    ∙ judge_fields-allowed flags p t.uncompressed a

past_is_none : (segment count at : ℕ) (text : List ℕ) → count ≤ segment → counted_length segment count at text ≡ 0
past_is_none segment count at text h = cond-false (ltb segment count) (number_at at text) 0 (le-ltb segment count h)

within_is_there : (segment count at : ℕ) (text : List ℕ) → segment < count → number_at at text ≡ counted_length segment count at text
within_is_there segment count at text h = sym (cond-true (ltb segment count) (number_at at text) 0 (lt-ltb segment count h))

right_crc : (b : Bool) (x : Result Preamble FrameFault) (q : Preamble) → cond b x (Err BadPreambleCrc) ≡ Ok q → (b ≡ true) × (x ≡ Ok q)
right_crc true x q e = (refl, e)
right_crc false x q e = absurd (fault_isnt_preamble BadPreambleCrc q e)

text_of_fields : (text : List ℕ) → length text ≡ 32 → slice_index text 26 % 2 ≡ 0 → crc_of 0 (take 28 text) ≡ number_at 28 text → IsPreambleText (preamble_in text) text
text_of_fields text long plain crc =
    let n = slice_index text 1 in
    record {
      long = long;
      tag = refl;
      count = refl;
      first = refl;
      second = within_is_there 1 n 8 text;
      third = within_is_there 2 n 14 text;
      fourth = within_is_there 3 n 20 text;
      uncompressed = plain;
      crc = sym crc;
    }

-- what is read is as the table says
pub preamble_text-read : (p : Preamble) (text : List ℕ) → length text ≡ 32 → read_preamble text ≡ Ok p → IsPreambleText p text × IsAllowed p
unfolding read_preamble
preamble_text-read p text long e =
    let flags = slice_index text 26 in
    let n = slice_index text 1 in
    let q = preamble_in text in
    let right = right_crc (crc_of 0 (take 28 text) == number_at 28 text) (judge_fields flags q) p e in
    let quiet : IsQuiet q = record { second = past_is_none 1 n 8 text; third = past_is_none 2 n 14 text; fourth = past_is_none 3 n 20 text } in
    let fields = fields_allowed flags q p quiet right.1 in
    let said : IsPreambleText q text = text_of_fields text long fields.1 (eqb-true (crc_of 0 (take 28 text)) (number_at 28 text) right.0) in
    (subst (λ (x : Preamble). IsPreambleText x text) fields.0 said, subst (λ (x : Preamble). IsAllowed x) fields.0 fields.2)
