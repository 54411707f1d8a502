-- What is judged a text is one by the format's tables, to its last byte.
use Rattle.std.proofs.Common.{◌≡◌, ℕ, ◌+◌, ◌*◌, ◌-◌, ◌%◌, ◌<◌, ◌≤◌, Bool, true, false, cond, ltb, eqb, List, [], ◌∷◌, ◌++◌, length, take, drop, Result, Ok, Err, refl, sym, ap, ◌∙◌, subst, arith, inl, inr, length-drop}
use Rattle.std.specs.Prelude.{◌==◌, slice_index, not}
use Rattle.std.proofs.lemmas.Bool.{cases_lt, lt-ltb, le-ltb, eqb-true, eq-eqb, ne_eqb, cond-true, cond-false, and_cases, ltb-false, not-false, or_cases}
use Rattle.std.proofs.lemmas.List.{take-append-drop, take-take, drop-take, drop-drop, length-take-le, nil_from_length}
use Rattle.m2_frame.specs.declared.epilogue.Late.{Late}
use Rattle.m2_frame.specs.declared.epilogue.Late.TheVariants.{Complete, Aborted}
use Rattle.m2_frame.specs.declared.fault.FrameFault.{FrameFault}
use Rattle.m2_frame.specs.declared.fault.FrameFault.TheVariants.{BadSegmentCrc, BadLate}
use Rattle.m2_frame.specs.declared.preamble.Preamble.{Preamble}
use Rattle.m2_frame.specs.Frame.{Parts, count_by_lengths, count_of, Fits}
use Rattle.m2_frame.specs.Preamble.{number_at, read_preamble, preamble_of}
use Rattle.m2_frame.specs.Reading.{Item, whole, dropped, Front, bad, text, first_len, later_len, text_len, first_is_right, second_in, third_in, fourth_in, epilogue_in, is_wrong, judge_late, judge_epilogue, judge_rest, frame_in, front_of, judge_later, judge_first, judge_body, judge}
use Rattle.m2_frame.specs.Text.{segment_crc}
use Rattle.m2_frame.specs.Judging.{first_part, later_part, IsSealed}
use Rattle.m2_frame.specs.Grammar.{IsPreambleText, IsChecksumText, IsFirstText, IsEpilogueText, IsLaterText, IsText, IsFrameText, IsAbortText, IsItemText}
use Rattle.m2_frame.proofs.Judge.{judge-short, judge-whole, after_first, judge_first-short, judge_first-whole, judge_later-short, judge_later-whole}
use Rattle.m2_frame.proofs.Cutting.{start_isnt_text, bad_isnt_text, same_text}
use Rattle.m2_frame.proofs.Preambles.{IsCounted, IsAllowed, count-counted, same_fields, preamble_text-read}

-- ---- the parts that were judged

record IsJudged (rest : List ℕ) (p : Preamble) (item : Item) (n : ℕ) : Type 0 where
  sealed : IsSealed rest p
  there : later_len p ≤ length (drop (first_len p) (drop 32 rest))
  front : front_of p (first_part p rest) (later_part p rest) (judge_rest p (later_part p rest)) ≡ text item n

right_and_text : (b : Bool) (x : Front) (f : FrameFault) (item : Item) (n : ℕ) → cond b x (bad f) ≡ text item n → (b ≡ true) × (x ≡ text item n)
right_and_text true x f item n e = (refl, e)
right_and_text false x f item n e = absurd (bad_isnt_text f item n e)

first_parsed : (rest : List ℕ) (p : Preamble) (item : Item) (n : ℕ) → 32 ≤ length rest → read_preamble (take 32 rest) ≡ Ok p → judge_first p (drop 32 rest) ≡ text item n → IsJudged rest p item n
unfolding after_first
first_parsed rest p item n long read e =
    let body = drop 32 rest in
    let m = first_len p in
    let first = take m body in
    let after = drop m body in
    elim (cases_lt (length body) m) [
      | inl lt ↦ absurd (start_isnt_text item n (sym (judge_first-short p body lt) ∙ e))
      | inr le ↦
          let right = right_and_text (first_is_right p first) (judge_later p first after) (BadSegmentCrc 0) item n (sym (judge_first-whole p body le) ∙ e) in
          elim (cases_lt (length after) (later_len p)) [
            | inl lt ↦ absurd (start_isnt_text item n (sym (judge_later-short p first after lt) ∙ right.1))
            | inr le' ↦ record {
              sealed = record { there = omega (arith, le, long, length-drop 32 rest); read = read; right = right.0 };
              there = le';
              front = sym (judge_later-whole p first after le') ∙ right.1;
            }
          ]
    ]

body_parsed : (r : Result Preamble FrameFault) (rest : List ℕ) (item : Item) (n : ℕ) → 32 ≤ length rest → read_preamble (take 32 rest) ≡ r → judge_body r (drop 32 rest) ≡ text item n → (p : Preamble) × IsJudged rest p item n
body_parsed (Ok p) rest item n long read e = (p, first_parsed rest p item n long read e)
body_parsed (Err f) rest item n long read e = absurd (bad_isnt_text f item n e)

parsed : (rest : List ℕ) (item : Item) (n : ℕ) → judge rest ≡ text item n → (p : Preamble) × IsJudged rest p item n
parsed rest item n e =
    elim (cases_lt (length rest) 32) [
      | inl lt ↦ absurd (start_isnt_text item n (sym (judge-short rest lt) ∙ e))
      | inr le ↦ body_parsed (read_preamble (take 32 rest)) rest item n le refl (sym (judge-whole rest le) ∙ e)
    ]

-- ---- the epilogue

fault_isnt_late : (f : FrameFault) (x : Late) → Err f ≡ Ok x → ⊥
fault_isnt_late f x e = cc

right_and_late : (b : Bool) (f : FrameFault) (r : Result Late FrameFault) (x : Late) → cond b (Err f) r ≡ Ok x → (b ≡ false) × (r ≡ Ok x)
right_and_late true f r x e = absurd (fault_isnt_late f x e)
right_and_late false f r x e = (refl, e)

abbrev low_bits : Late → ℕ
low_bits Complete = 0xE
low_bits Aborted = 0x1

abbrev late_by : Bool → Bool → Result Late FrameFault
late_by b c = cond b (Ok Complete) (cond c (Ok Aborted) (Err BadLate))

late_by-complete : (b c : Bool) → late_by b c ≡ Ok Complete → b ≡ true
late_by-complete true c e = refl
late_by-complete false true e = absurd cc
late_by-complete false false e = absurd cc

late_by-aborted : (b c : Bool) → late_by b c ≡ Ok Aborted → c ≡ true
late_by-aborted true c e = absurd cc
late_by-aborted false true e = refl
late_by-aborted false false e = absurd cc

late-low : (x : Late) (low : ℕ) → judge_late low ≡ Ok x → low ≡ low_bits x
late-low Complete low e = eqb-true low 0xE (late_by-complete (low == 0xE) (low == 0x1) e)
late-low Aborted low e = eqb-true low 0x1 (late_by-aborted (low == 0xE) (low == 0x1) e)

pub place_right : (place count : ℕ) (epilogue segment : List ℕ) → is_wrong place count epilogue segment ≡ false → place < count → number_at (4 * place - 3) epilogue ≡ segment_crc segment
place_right place count epilogue segment e h =
    let n = number_at (4 * place - 3) epilogue in
    let crc = segment_crc segment in
    elim (and_cases (ltb place count) (not (n == crc)) e) [
      | inl none ↦ absurd (omega (arith, h, ltb-false place count none))
      | inr same ↦ eqb-true n crc (not-false (n == crc) same)
    ]

record IsRightEpilogue (x : Late) (p : Preamble) (later : List ℕ) : Type 0 where
  late : slice_index (epilogue_in p later) 0 % 16 ≡ low_bits x
  second : 1 < p.count → number_at 1 (epilogue_in p later) ≡ segment_crc (second_in p later)
  third : 2 < p.count → number_at 5 (epilogue_in p later) ≡ segment_crc (third_in p later)
  fourth : 3 < p.count → number_at 9 (epilogue_in p later) ≡ segment_crc (fourth_in p later)

epilogue_parsed : (x : Late) (p : Preamble) (later : List ℕ) → judge_epilogue p later ≡ Ok x → IsRightEpilogue x p later
unfolding judge_epilogue
epilogue_parsed x p later h =
    let e = epilogue_in p later in
    let end = judge_late (slice_index e 0 % 16) in
    let from_fourth : Result Late FrameFault = cond (is_wrong 3 p.count e (fourth_in p later)) (Err (BadSegmentCrc 3)) end in
    let from_third : Result Late FrameFault = cond (is_wrong 2 p.count e (third_in p later)) (Err (BadSegmentCrc 2)) from_fourth in
    let second = right_and_late (is_wrong 1 p.count e (second_in p later)) (BadSegmentCrc 1) from_third x h in
    let third = right_and_late (is_wrong 2 p.count e (third_in p later)) (BadSegmentCrc 2) from_fourth x second.1 in
    let fourth = right_and_late (is_wrong 3 p.count e (fourth_in p later)) (BadSegmentCrc 3) end x third.1 in
    record {
      late = late-low x (slice_index e 0 % 16) fourth.1;
      second = place_right 1 p.count e (second_in p later) second.0;
      third = place_right 2 p.count e (third_in p later) third.0;
      fourth = place_right 3 p.count e (fourth_in p later) fourth.0;
    }

rest_parsed : (x : Late) (p : Preamble) (later : List ℕ) → judge_rest p later ≡ Ok x → 1 < p.count → IsRightEpilogue x p later
rest_parsed x p later e h = epilogue_parsed x p later (sym (cond-true (ltb 1 p.count) (judge_epilogue p later) (Ok Complete) (lt-ltb 1 p.count h)) ∙ e)

complete_isnt_aborted : (r : Result Late FrameFault) → r ≡ Ok Complete → r ≡ Ok Aborted → ⊥
complete_isnt_aborted r e e' = cc

-- ---- the lengths

take_sum : (n m : ℕ) (xs : List ℕ) → take (n + m) xs ≡ take n xs ++ take m (drop n xs)
take_sum n m xs =
    sym (take-append-drop n (take (n + m) xs))
    ∙ ap (λ (x : List ℕ). x ++ drop n (take (n + m) xs)) (take-take n (n + m) xs (omega arith))
    ∙ ap (λ (x : List ℕ). take n xs ++ x) (drop-take n m xs)

cut_in_four : (a b c : ℕ) (xs : List ℕ) → xs ≡ take a xs ++ take b (drop a xs) ++ take c (drop (a + b) xs) ++ drop (a + b + c) xs
cut_in_four a b c xs =
    sym (take-append-drop (a + b + c) xs)
    ∙ ap (λ (x : List ℕ). x ++ drop (a + b + c) xs) (take_sum (a + b) c xs ∙ ap (λ (x : List ℕ). x ++ take c (drop (a + b) xs)) (take_sum a b xs))

first-has : (p : Preamble) → (p.first ≡ 0 → first_len p ≡ 0) × (0 < p.first → first_len p ≡ p.first + 4)
first-has p = (
  λ e. cond-true (eqb p.first 0) 0 (p.first + 4) (eq-eqb p.first 0 e),
  λ h. cond-false (eqb p.first 0) 0 (p.first + 4) (ne_eqb p.first 0 (λ e. omega (arith, h, e))),
)

first-within : (p : Preamble) → p.first ≤ first_len p
first-within p =
    elim (cases_lt 0 p.first) [
      | inl some ↦ omega (arith, (first-has p).1 some)
      | inr none ↦ omega (arith, none)
    ]

later-several : (p : Preamble) → 1 < p.count → later_len p ≡ p.second + p.third + p.fourth + 13
later-several p h = cond-true (ltb 1 p.count) (p.second + p.third + p.fourth + 13) 0 (lt-ltb 1 p.count h)

later-alone : (p : Preamble) → p.count ≤ 1 → later_len p ≡ 0
later-alone p h = cond-false (ltb 1 p.count) (p.second + p.third + p.fourth + 13) 0 (le-ltb 1 p.count h)

later-within : (p : Preamble) → IsCounted p → p.second + p.third + p.fourth ≤ later_len p
later-within p k =
    elim (cases_lt 1 p.count) [
      | inl some ↦ omega (arith, later-several p some)
      | inr none ↦ omega (arith, k.second none, k.third (omega (arith, none)), k.fourth (omega (arith, none)))
    ]

-- the segments are as long as the preamble says
record IsMeasured (p : Preamble) (f : Parts) : Type 0 where
  tag : f.tag ≡ p.tag
  first : length f.first ≡ p.first
  second : length f.second ≡ p.second
  third : length f.third ≡ p.third
  fourth : length f.fourth ≡ p.fourth

measured : (p : Preamble) (first later : List ℕ) → IsCounted p → length first ≡ first_len p → length later ≡ later_len p → IsMeasured p (frame_in p first later)
measured p first later k first_long later_long =
    let within = later-within p k in
    record {
      tag = refl;
      first = length-take-le p.first first (omega (arith, first_long, first-within p));
      second = length-take-le p.second later (omega (arith, later_long, within));
      third = length-take-le p.third (drop p.second later) (omega (arith, later_long, within, length-drop p.second later));
      fourth = length-take-le p.fourth (drop (p.second + p.third) later) (omega (arith, later_long, within, length-drop (p.second + p.third) later));
    }

count-measured : (p : Preamble) (f : Parts) → IsCounted p → IsMeasured p f → count_of f ≡ p.count
count-measured p f k m =
    ap (λ (n : ℕ). count_by_lengths n (length f.third) (length f.fourth)) m.second
    ∙ ap (λ (n : ℕ). count_by_lengths p.second n (length f.fourth)) m.third
    ∙ ap (λ (n : ℕ). count_by_lengths p.second p.third n) m.fourth
    ∙ count-counted p k

preamble-measured : (p : Preamble) (f : Parts) → IsCounted p → IsMeasured p f → preamble_of f ≡ p
preamble-measured p f k m =
    same_fields f.tag (count_of f) (length f.first) (length f.second) (length f.third) (length f.fourth) p m.tag (count-measured p f k m) m.first m.second m.third m.fourth

fits-measured : (p : Preamble) (f : Parts) → IsAllowed p → IsMeasured p f → Fits f
fits-measured p f a m =
    let same = preamble-measured p f a.counted m in
    let b : IsAllowed (preamble_of f) = subst (λ (q : Preamble). IsAllowed q) (sym same) a in
    record {
      tag_from = b.tag_from;
      tag_to = b.tag_to;
      count = b.segments;
      first = b.first;
      second = b.second;
      third = b.third;
      fourth = b.fourth;
    }

-- ---- the segments

first_by_length : (segment first : List ℕ) → (length segment ≡ 0 → first ≡ []) → (0 < length segment → (crc : List ℕ) × (first ≡ segment ++ crc) × IsChecksumText segment crc) → IsFirstText segment first
first_by_length [] first none some = none refl
first_by_length (b ∷ bs) first none some = some (omega arith)

first_right : (p : Preamble) (first : List ℕ) → 0 < p.first → first_is_right p first ≡ true → number_at p.first first ≡ segment_crc (take p.first first)
first_right p first h right =
    elim (or_cases (p.first == 0) (number_at p.first first == segment_crc (take p.first first)) right) [
      | inl none ↦ absurd (omega (arith, h, eqb-true p.first 0 none))
      | inr same ↦ eqb-true (number_at p.first first) (segment_crc (take p.first first)) same
    ]

first-text : (p : Preamble) (first : List ℕ) → length first ≡ first_len p → first_is_right p first ≡ true → IsFirstText (take p.first first) first
first-text p first long right =
    let n = p.first in
    let segment_long : length (take n first) ≡ n = length-take-le n first (omega (arith, long, first-within p)) in
    first_by_length (take n first) first
    (λ e. nil_from_length first (omega (arith, long, (first-has p).0 (omega (arith, e, segment_long)))))
    (λ h.
    let some : 0 < n = omega (arith, h, segment_long) in (
      drop n first,
      sym (take-append-drop n first),
      record {
        long = omega (arith, length-drop n first, long, (first-has p).1 some);
        crc = first_right p first some right;
      },
    ))

later-text : (low : ℕ) (p : Preamble) (first later : List ℕ) → IsAllowed p → IsMeasured p (frame_in p first later) → length later ≡ later_len p → (1 < p.count → IsEpilogueText low (frame_in p first later) (epilogue_in p later)) → IsLaterText low (frame_in p first later) later
later-text low p first later a m long epilogue =
    let count = count-measured p (frame_in p first later) a.counted m in
    record {
      alone = λ e. nil_from_length later (omega (arith, long, later-alone p (omega (arith, e, count))));
      several = λ h. (epilogue_in p later, cut_in_four p.second p.third p.fourth later, epilogue (omega (arith, h, count)));
    }

epilogue-text : (x : Late) (p : Preamble) (first later : List ℕ) → IsAllowed p → IsMeasured p (frame_in p first later) → length later ≡ later_len p → 1 < p.count → IsRightEpilogue x p later → IsEpilogueText (low_bits x) (frame_in p first later) (epilogue_in p later)
epilogue-text x p first later a m long some e =
    let count = count-measured p (frame_in p first later) a.counted m in
    record {
      long = omega (arith, length-drop (p.second + p.third + p.fourth) later, long, later-several p some);
      late = e.late;
      second = λ h. e.second (omega (arith, h, count));
      third = λ h. e.third (omega (arith, h, count));
      fourth = λ h. e.fourth (omega (arith, h, count));
    }

-- ---- the whole text

text-cut : (p : Preamble) (rest : List ℕ) → take (text_len p) rest ≡ take 32 rest ++ first_part p rest ++ later_part p rest
text-cut p rest =
    let n = first_len p in
    let m = later_len p in
    take_sum (32 + n) m rest
    ∙ ap (λ (x : List ℕ). x ++ take m (drop (32 + n) rest)) (take_sum 32 n rest)
    ∙ ap (λ (x : List ℕ). take 32 rest ++ first_part p rest ++ take m x) (sym (drop-drop n 32 rest))

text-parsed : (x : Late) (rest : List ℕ) (p : Preamble) → IsSealed rest p → later_len p ≤ length (drop (first_len p) (drop 32 rest)) → judge_rest p (later_part p rest) ≡ Ok x
    → IsText (low_bits x) (frame_in p (first_part p rest) (later_part p rest)) (take (text_len p) rest) × IsMeasured p (frame_in p (first_part p rest) (later_part p rest)) × IsAllowed p
text-parsed x rest p s there end =
    let first = first_part p rest in
    let later = later_part p rest in
    let f = frame_in p first later in
    let preamble_long : length (take 32 rest) ≡ 32 = length-take-le 32 rest (omega (arith, s.there)) in
    let first_long : length first ≡ first_len p = length-take-le (first_len p) (drop 32 rest) (omega (arith, s.there, length-drop 32 rest)) in
    let later_long : length later ≡ later_len p = length-take-le (later_len p) (drop (first_len p) (drop 32 rest)) there in
    let read = preamble_text-read p (take 32 rest) preamble_long s.read in
    let a = read.1 in
    let m = measured p first later a.counted first_long later_long in
    let t : IsText (low_bits x) f (take (text_len p) rest) = record {
      fits = fits-measured p f a m;
      preamble = take 32 rest;
      first = first;
      later = later;
      cut = text-cut p rest;
      is_preamble = subst (λ (q : Preamble). IsPreambleText q (take 32 rest)) (sym (preamble-measured p f a.counted m)) read.0;
      is_first = first-text p first first_long s.right;
      is_later = later-text (low_bits x) p first later a m later_long (λ some. epilogue-text x p first later a m later_long some (rest_parsed x p later end some));
    } in
    (t, m, a)

aborted-several : (p : Preamble) (later : List ℕ) → judge_rest p later ≡ Ok Aborted → 1 < p.count
aborted-several p later e =
    elim (cases_lt 1 p.count) [
      | inl some ↦ some
      | inr none ↦ absurd (complete_isnt_aborted (judge_rest p later) (cond-false (ltb 1 p.count) (judge_epilogue p later) (Ok Complete) (le-ltb 1 p.count none)) e)
    ]

item-parsed : (r : Result Late FrameFault) (rest : List ℕ) (p : Preamble) (item : Item) (n : ℕ) → IsSealed rest p → later_len p ≤ length (drop (first_len p) (drop 32 rest)) → judge_rest p (later_part p rest) ≡ r → front_of p (first_part p rest) (later_part p rest) r ≡ text item n → IsItemText item (take n rest)
item-parsed (Ok Complete) rest p item n s there end e =
    let f = frame_in p (first_part p rest) (later_part p rest) in
    let same = same_text (whole f) item (text_len p) n e in
    let parsed = text-parsed Complete rest p s there end in
    subst (λ (i : Item). IsItemText i (take n rest)) same.0 (subst (λ (k : ℕ). IsFrameText f (take k rest)) same.1 parsed.0)
item-parsed (Ok Aborted) rest p item n s there end e =
    let f = frame_in p (first_part p rest) (later_part p rest) in
    let same = same_text (dropped p.tag) item (text_len p) n e in
    let parsed = text-parsed Aborted rest p s there end in
    let several : 1 < count_of f = omega (arith, count-measured p f parsed.2.counted parsed.1, aborted-several p (later_part p rest) end) in
    let aborted : IsAbortText p.tag (take (text_len p) rest) = (f, refl, several, parsed.0) in
    subst (λ (i : Item). IsItemText i (take n rest)) same.0 (subst (λ (k : ℕ). IsAbortText p.tag (take k rest)) same.1 aborted)
item-parsed (Err f) rest p item n s there end e = absurd (bad_isnt_text f item n e)

pub judged-item_text : (rest : List ℕ) (item : Item) (n : ℕ) → judge rest ≡ text item n → IsItemText item (take n rest)
judged-item_text rest item n e =
    let j = parsed rest item n e in
    item-parsed (judge_rest j.0 (later_part j.0 rest)) rest j.0 item n j.1.sealed j.1.there refl j.1.front
