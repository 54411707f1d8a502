-- What is a text by the format's tables is judged so, whatever follows it.
use Rattle.std.proofs.Common.{◌≡◌, ℕ, ◌+◌, ◌*◌, ◌-◌, ◌%◌, ◌<◌, ◌≤◌, Bool, true, false, cond, ltb, eqb, List, [], ◌∷◌, ◌++◌, length, take, drop, Result, Ok, Err, refl, sym, ap, ◌∙◌, arith, append_assoc, inl, inr}
use Rattle.std.specs.Prelude.{◌==◌, ◌||◌, not, slice_index}
use Rattle.std.specs.Int.{w32, from_le_bytes}
use Rattle.std.proofs.lemmas.Bool.{cases_lt, lt-ltb, le-ltb, eq-eqb, ne_eqb, cond-true, cond-false, and_left, and_right, or_right, not_from_true}
use Rattle.std.proofs.lemmas.List.{length-append, take_at, drop_at, nil_from_length}
use Rattle.m2_frame.specs.declared.epilogue.Late.{Late}
use Rattle.m2_frame.specs.declared.epilogue.Late.TheVariants.{Complete, Aborted}
use Rattle.m2_frame.specs.declared.fault.FrameFault.{FrameFault}
use Rattle.m2_frame.specs.declared.fault.FrameFault.TheVariants.{BadSegmentCrc}
use Rattle.m2_frame.specs.declared.preamble.Preamble.{Preamble}
use Rattle.m2_frame.specs.Frame.{Parts, count_of}
use Rattle.m2_frame.specs.Preamble.{number_at, read_preamble, preamble_of}
use Rattle.m2_frame.specs.Reading.{Item, whole, dropped, bad, text, first_len, later_len, text_len, first_is_right, second_in, third_in, fourth_in, epilogue_in, is_wrong, judge_late, judge_epilogue, judge_rest, frame_in, front_of, judge_later, judge_first, judge_body, judge}
use Rattle.m2_frame.specs.Text.{segment_crc}
use Rattle.m2_frame.specs.Grammar.{IsFirstText, IsEpilogueText, IsLaterText, IsText, IsItemText}
use Rattle.m2_frame.proofs.Judge.{judge-whole, after_first, judge_first-whole, judge_later-whole}
use Rattle.m2_frame.proofs.Preambles.{IsAllowed, allowed-fits, read_preamble-text}

-- ---- the first segment

abbrev long_as_first : ℕ → ℕ
long_as_first n = cond (n == 0) 0 (n + 4)

first-long : (segment first : List ℕ) → IsFirstText segment first → length first ≡ long_as_first (length segment)
first-long [] first e = ap length e
first-long (b ∷ bs) first s =
    let n = length (b ∷ bs) in
    let some : long_as_first n ≡ n + 4 = cond-false (eqb n 0) 0 (n + 4) (ne_eqb n 0 (λ e. omega (arith, e))) in
    omega (arith, some, ap length s.1, length-append (b ∷ bs) s.0, s.2.long)

first-kept : (segment first : List ℕ) → IsFirstText segment first → take (length segment) first ≡ segment
first-kept [] first e = refl
first-kept (b ∷ bs) first s = ap (take (length (b ∷ bs))) s.1 ∙ take_at (b ∷ bs) s.0 (length (b ∷ bs)) refl

abbrev right_first : ℕ → List ℕ → Bool
right_first n first = (n == 0) || (number_at n first == segment_crc (take n first))

first-right : (segment first : List ℕ) → IsFirstText segment first → right_first (length segment) first ≡ true
first-right [] first e = refl
first-right (b ∷ bs) first s =
    let n = length (b ∷ bs) in
    let after : drop n first ≡ s.0 = ap (drop n) s.1 ∙ drop_at (b ∷ bs) s.0 n refl in
    let said : number_at n first ≡ segment_crc (b ∷ bs) = ap (λ (x : List ℕ). from_le_bytes w32 (take 4 x)) after ∙ s.2.crc in
    or_right (eqb n 0) (eqb (number_at n first) (segment_crc (take n first)))
    (eq-eqb (number_at n first) (segment_crc (take n first)) (said ∙ sym (ap segment_crc (first-kept (b ∷ bs) first s))))

-- ---- what follows it, taken apart

shifted : (a b c e : List ℕ) → a ++ b ++ c ++ e ≡ a ++ (b ++ (c ++ e))
shifted a b c e = append_assoc (a ++ b) c e ∙ append_assoc a b (c ++ e)

second_of : (a b c e : List ℕ) → take (length a) (a ++ b ++ c ++ e) ≡ a
second_of a b c e = ap (take (length a)) (shifted a b c e) ∙ take_at a (b ++ (c ++ e)) (length a) refl

third_of : (a b c e : List ℕ) → take (length b) (drop (length a) (a ++ b ++ c ++ e)) ≡ b
third_of a b c e =
    ap (λ (x : List ℕ). take (length b) (drop (length a) x)) (shifted a b c e)
    ∙ ap (take (length b)) (drop_at a (b ++ (c ++ e)) (length a) refl) ∙ take_at b (c ++ e) (length b) refl

fourth_of : (a b c e : List ℕ) → take (length c) (drop (length a + length b) (a ++ b ++ c ++ e)) ≡ c
fourth_of a b c e =
    ap (λ (x : List ℕ). take (length c) (drop (length a + length b) x)) (append_assoc (a ++ b) c e)
    ∙ ap (take (length c)) (drop_at (a ++ b) (c ++ e) (length a + length b) (length-append a b)) ∙ take_at c e (length c) refl

rest_long : (a b c : List ℕ) → length (a ++ b ++ c) ≡ length a + length b + length c
rest_long a b c = omega (arith, length-append (a ++ b) c, length-append a b)

epilogue_of : (a b c e : List ℕ) → drop (length a + length b + length c) (a ++ b ++ c ++ e) ≡ e
epilogue_of a b c e = drop_at (a ++ b ++ c) e (length a + length b + length c) (rest_long a b c)

-- what follows the first segment holds the others, and is as long as the preamble says
record IsApart (f : Parts) (later : List ℕ) : Type 0 where
  second : second_in (preamble_of f) later ≡ f.second
  third : third_in (preamble_of f) later ≡ f.third
  fourth : fourth_in (preamble_of f) later ≡ f.fourth
  long : length later ≡ later_len (preamble_of f)

nothing_apart : (f : Parts) (later : List ℕ) → IsAllowed (preamble_of f) → count_of f ≤ 1 → later ≡ [] → IsApart f later
nothing_apart f later a h e =
    let p = preamble_of f in
    let k = a.counted in
    let second : f.second ≡ [] = nil_from_length f.second (k.second h) in
    let third : f.third ≡ [] = nil_from_length f.third (k.third (omega (arith, h))) in
    let fourth : f.fourth ≡ [] = nil_from_length f.fourth (k.fourth (omega (arith, h))) in
    record {
      second = ap (λ (n : ℕ). take n later) (k.second h) ∙ sym second;
      third = ap (λ (n : ℕ). take n (drop p.second later)) (k.third (omega (arith, h))) ∙ sym third;
      fourth = ap (λ (n : ℕ). take n (drop (p.second + p.third) later)) (k.fourth (omega (arith, h))) ∙ sym fourth;
      long = ap length e ∙ sym (cond-false (ltb 1 p.count) (p.second + p.third + p.fourth + 13) 0 (le-ltb 1 p.count h));
    }

several_apart : (f : Parts) (later epilogue : List ℕ) → 1 < count_of f → later ≡ f.second ++ f.third ++ f.fourth ++ epilogue → length epilogue ≡ 13 → IsApart f later
several_apart f later epilogue h e long =
    let p = preamble_of f in
    let some : later_len p ≡ p.second + p.third + p.fourth + 13 = cond-true (ltb 1 p.count) (p.second + p.third + p.fourth + 13) 0 (lt-ltb 1 p.count h) in
    record {
      second = ap (take p.second) e ∙ second_of f.second f.third f.fourth epilogue;
      third = ap (λ (x : List ℕ). take p.third (drop p.second x)) e ∙ third_of f.second f.third f.fourth epilogue;
      fourth = ap (λ (x : List ℕ). take p.fourth (drop (p.second + p.third) x)) e ∙ fourth_of f.second f.third f.fourth epilogue;
      long = omega (arith, some, ap length e, length-append (f.second ++ f.third ++ f.fourth) epilogue, rest_long f.second f.third f.fourth, long);
    }

later-apart : (low : ℕ) (f : Parts) (later : List ℕ) → IsAllowed (preamble_of f) → IsLaterText low f later → IsApart f later
later-apart low f later a l =
    elim (cases_lt 1 (count_of f)) [
      | inl some ↦ let s = l.several some in several_apart f later s.0 some s.1 s.2.long
      | inr none ↦ nothing_apart f later a none (l.alone (omega (arith, none, a.counted.from)))
    ]

-- ---- the epilogue

abbrev not_eqb : ℕ → ℕ → Bool
not_eqb n m = not (n == m)

right_place : (place count : ℕ) (epilogue segment : List ℕ) → (place < count → number_at (4 * place - 3) epilogue ≡ segment_crc segment) → is_wrong place count epilogue segment ≡ false
right_place place count epilogue segment right =
    let n = number_at (4 * place - 3) epilogue in
    let crc = segment_crc segment in
    elim (cases_lt place count) [
      | inl lt ↦ and_right (ltb place count) (not_eqb n crc) (not_from_true (eqb n crc) (eq-eqb n crc (right lt)))
      | inr le ↦ and_left (ltb place count) (not_eqb n crc) (le-ltb place count le)
    ]

epilogue-right : (p : Preamble) (later : List ℕ) (low : ℕ)
    → is_wrong 1 p.count (epilogue_in p later) (second_in p later) ≡ false
    → is_wrong 2 p.count (epilogue_in p later) (third_in p later) ≡ false
    → is_wrong 3 p.count (epilogue_in p later) (fourth_in p later) ≡ false
    → slice_index (epilogue_in p later) 0 % 16 ≡ low → judge_epilogue p later ≡ judge_late low
unfolding judge_epilogue
epilogue-right p later low second third fourth late =
    let e = epilogue_in p later in
    let end = judge_late (slice_index e 0 % 16) in
    let from_fourth : Result Late FrameFault = cond (is_wrong 3 p.count e (fourth_in p later)) (Err (BadSegmentCrc 3)) end in
    let from_third : Result Late FrameFault = cond (is_wrong 2 p.count e (third_in p later)) (Err (BadSegmentCrc 2)) from_fourth in
    cond-false (is_wrong 1 p.count e (second_in p later)) (Err (BadSegmentCrc 1)) from_third second
    ∙ cond-false (is_wrong 2 p.count e (third_in p later)) (Err (BadSegmentCrc 2)) from_fourth third
    ∙ cond-false (is_wrong 3 p.count e (fourth_in p later)) (Err (BadSegmentCrc 3)) end fourth
    ∙ ap judge_late late

several-judged : (low : ℕ) (f : Parts) (later epilogue : List ℕ) → later ≡ f.second ++ f.third ++ f.fourth ++ epilogue → IsApart f later → IsEpilogueText low f epilogue → judge_epilogue (preamble_of f) later ≡ judge_late low
several-judged low f later epilogue e a t =
    let p = preamble_of f in
    let there : epilogue_in p later ≡ epilogue = ap (drop (p.second + p.third + p.fourth)) e ∙ epilogue_of f.second f.third f.fourth epilogue in
    epilogue-right p later low
    (right_place 1 p.count (epilogue_in p later) (second_in p later) (λ h. ap (number_at 1) there ∙ t.second h ∙ sym (ap segment_crc a.second)))
    (right_place 2 p.count (epilogue_in p later) (third_in p later) (λ h. ap (number_at 5) there ∙ t.third h ∙ sym (ap segment_crc a.third)))
    (right_place 3 p.count (epilogue_in p later) (fourth_in p later) (λ h. ap (number_at 9) there ∙ t.fourth h ∙ sym (ap segment_crc a.fourth)))
    (ap (λ (x : List ℕ). slice_index x 0 % 16) there ∙ t.late)

rest-judged : (low : ℕ) (x : Late) (f : Parts) (later : List ℕ) → judge_late low ≡ Ok x → (count_of f ≤ 1 → Complete ≡ x) → IsApart f later → IsLaterText low f later → judge_rest (preamble_of f) later ≡ Ok x
rest-judged low x f later late single a l =
    let n = count_of f in
    let end = judge_epilogue (preamble_of f) later in
    elim (cases_lt 1 n) [
      | inl some ↦
          let s = l.several some in
          cond-true (ltb 1 n) end (Ok Complete) (lt-ltb 1 n some) ∙ several-judged low f later s.0 s.1 a s.2 ∙ late
      | inr none ↦ cond-false (ltb 1 n) end (Ok Complete) (le-ltb 1 n none) ∙ ap (λ (y : Late). Ok y) (single none)
    ]

-- ---- the whole text

abbrev said : Late → Parts → Item
said Complete f = whole f
said Aborted f = dropped f.tag

abbrev framed : ℕ → List ℕ → List ℕ → List ℕ → List ℕ → Parts
framed tag a b c d = record { tag = tag; first = a; second = b; third = c; fourth = d }

frame-in : (f : Parts) (first later : List ℕ) → IsFirstText f.first first → IsApart f later → frame_in (preamble_of f) first later ≡ f
frame-in f first later s a =
    let p = preamble_of f in
    ap (λ (x : List ℕ). framed f.tag x (second_in p later) (third_in p later) (fourth_in p later)) (first-kept f.first first s)
    ∙ ap (λ (x : List ℕ). framed f.tag f.first x (third_in p later) (fourth_in p later)) a.second
    ∙ ap (λ (x : List ℕ). framed f.tag f.first f.second x (fourth_in p later)) a.third
    ∙ ap (λ (x : List ℕ). framed f.tag f.first f.second f.third x) a.fourth

front-said : (x : Late) (f : Parts) (first later : List ℕ) → frame_in (preamble_of f) first later ≡ f → front_of (preamble_of f) first later (Ok x) ≡ text (said x f) (text_len (preamble_of f))
front-said Complete f first later e = ap (λ (g : Parts). text (whole g) (text_len (preamble_of f))) e
front-said Aborted f first later e = refl

later-judged : (p : Preamble) (first later more : List ℕ) → length later ≡ later_len p → judge_later p first (later ++ more) ≡ front_of p first later (judge_rest p later)
later-judged p first later more long =
    judge_later-whole p first (later ++ more) (omega (arith, long, length-append later more))
    ∙ ap (λ (t : List ℕ). front_of p first t (judge_rest p t)) (take_at later more (later_len p) long)

first-judged : (p : Preamble) (first after : List ℕ) → length first ≡ first_len p → first_is_right p first ≡ true → judge_first p (first ++ after) ≡ judge_later p first after
unfolding after_first
first-judged p first after long right =
    let n = first_len p in
    let wrong = bad (BadSegmentCrc 0) in
    judge_first-whole p (first ++ after) (omega (arith, long, length-append first after))
    ∙ ap (λ (t : List ℕ). cond (first_is_right p t) (judge_later p t (drop n (first ++ after))) wrong) (take_at first after n long)
    ∙ ap (λ (d : List ℕ). cond (first_is_right p first) (judge_later p first d) wrong) (drop_at first after n long)
    ∙ cond-true (first_is_right p first) (judge_later p first after) wrong right

preamble-judged : (p : Preamble) (preamble body : List ℕ) → length preamble ≡ 32 → read_preamble preamble ≡ Ok p → judge (preamble ++ body) ≡ judge_first p body
preamble-judged p preamble body long read =
    judge-whole (preamble ++ body) (omega (arith, long, length-append preamble body))
    ∙ ap (λ (t : List ℕ). judge_body (read_preamble t) (drop 32 (preamble ++ body))) (take_at preamble body 32 long)
    ∙ ap (judge_body (read_preamble preamble)) (drop_at preamble body 32 long)
    ∙ ap (λ r. judge_body r body) read

text-said : (low : ℕ) (x : Late) (f : Parts) (t more : List ℕ) → judge_late low ≡ Ok x → (count_of f ≤ 1 → Complete ≡ x) → IsText low f t → judge (t ++ more) ≡ text (said x f) (length t)
text-said low x f t more late single i =
    let p = preamble_of f in
    let allowed = allowed-fits f i.fits in
    let apart = later-apart low f i.later allowed i.is_later in
    let first_long : length i.first ≡ first_len p = first-long f.first i.first i.is_first in
    let cut : t ++ more ≡ i.preamble ++ (i.first ++ (i.later ++ more)) =
    ap (λ (s : List ℕ). s ++ more) i.cut ∙ append_assoc (i.preamble ++ i.first) i.later more ∙ append_assoc i.preamble i.first (i.later ++ more) in
    let long : text_len p ≡ length t =
    omega (arith, ap length i.cut, length-append (i.preamble ++ i.first) i.later, length-append i.preamble i.first, i.is_preamble.long, first_long, apart.long) in
    ap judge cut
    ∙ preamble-judged p i.preamble (i.first ++ (i.later ++ more)) i.is_preamble.long (read_preamble-text p i.preamble i.is_preamble allowed)
    ∙ first-judged p i.first (i.later ++ more) first_long (first-right f.first i.first i.is_first)
    ∙ later-judged p i.first i.later more apart.long
    ∙ ap (front_of p i.first i.later) (rest-judged low x f i.later late single apart i.is_later)
    ∙ front-said x f i.first i.later (frame-in f i.first i.later i.is_first apart)
    ∙ ap (λ (n : ℕ). text (said x f) n) long

pub item_text-judged : (item : Item) (t more : List ℕ) → IsItemText item t → judge (t ++ more) ≡ text item (length t)
item_text-judged (whole f) t more i = text-said 0xE Complete f t more refl (λ _. refl) i
item_text-judged (dropped tag) t more i =
    let several = i.2 in
    text-said 0x1 Aborted i.0 t more refl (λ h. absurd (omega (arith, h, several))) i.3 ∙ ap (λ (g : ℕ). text (dropped g) (length t)) i.1
