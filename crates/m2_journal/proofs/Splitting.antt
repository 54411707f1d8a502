-- How a stream is split into texts: it is one reading of it, in any pieces; and what is split of the front of what was
-- written is the front of the frames that were written.
use Rattle.std.proofs.Common.{◌≡◌, ℕ, zero, suc, ◌-◌, ◌<◌, ◌≤◌, List, [], ◌∷◌, ◌++◌, length, take, drop, map, refl, sym, ap, ◌∙◌, subst, arith, length-drop, ◌⊎◌, inl, inr}
use Rattle.m2_message.specs.m2_frame.Frame.{Parts, Fits}
use Rattle.m2_message.specs.m2_frame.Grammar.{AreBytes}
use Rattle.m2_message.specs.m2_frame.Reading.{Item, whole, Front, start, bad, text, judge}
use Rattle.m2_message.specs.m2_frame.Stream.{Splits, IsOpen}
use Rattle.m2_message.specs.m2_frame.Text as frame
use Rattle.m2_message.proofs.m2_frame.Cutting.{start_isnt_text, bad_isnt_text, text_long, text_within, text_stays, Splits-feed, Splits-once, same_text}
use Rattle.std.specs.List.{flat_map, AllByRecursion}
use Rattle.std.proofs.lemmas.List.{take-append-drop, append-nil, take-append-le, length-take-le}
use Rattle.std.proofs.lemmas.Bool.{cases_lt}
use Rattle.std.proofs.Math.Seq.{take-append-add, drop-append_seam}
use Rattle.m2_message.proofs.m2_frame.Spelled.{item_text-judged}
use Rattle.m2_message.proofs.m2_frame.Written.{text_of-written}
use Rattle.m2_journal.specs.Laws.{SplitIsTheReading, ReadsInPieces, IsWritable, PrefixesAreFrames, split_on}
use Rattle.m2_journal.specs.Said.{Split, split, split_by, behind}

IsCut : List ℕ → Split → Type 0
IsCut bytes c = Splits bytes c.items c.rest × IsOpen c.rest

split_by-is : (n : ℕ) (bytes : List ℕ) (front : Front) → front ≡ judge bytes → length bytes ≤ n → Splits bytes (split_by n bytes front).items (split_by n bytes front).rest × IsOpen (split_by n bytes front).rest
split_by-is zero bytes start e h = (refl, λ i n t. start_isnt_text i n (e ∙ t))
split_by-is zero bytes (bad f) e h = (refl, λ i n t. bad_isnt_text f i n (e ∙ t))
split_by-is zero bytes (text item len) e h = absurd (let long = text_long bytes item len (sym e) in let within = text_within bytes item len (sym e) in omega (arith, h, long, within))
split_by-is (suc n) bytes start e h = (refl, λ i n t. start_isnt_text i n (e ∙ t))
split_by-is (suc n) bytes (bad f) e h = (refl, λ i n t. bad_isnt_text f i n (e ∙ t))
split_by-is (suc n) bytes (text item len) e h =
    let long = text_long bytes item len (sym e) in
    let within = text_within bytes item len (sym e) in
    let left = length-drop len bytes in
    let more = split_by-is n (drop len bytes) (judge (drop len bytes)) refl (omega (arith, h, long, within, left)) in
    ((len, sym e, more.0), more.1)

pub split-is : (bytes : List ℕ) → Splits bytes (split bytes).items (split bytes).rest × IsOpen (split bytes).rest
split-is bytes = split_by-is (length bytes) bytes (judge bytes) refl (omega arith)

same_split : (c d : Split) → c.items ≡ d.items → c.rest ≡ d.rest → c ≡ d
same_split c d e f = rw (e, f) refl

-- any reading is the cut
pub split-only : (bytes : List ℕ) (c : Split) → Splits bytes c.items c.rest → IsOpen c.rest → split bytes ≡ c
split-only bytes c s o =
    let is = split-is bytes in
    let one = Splits-once (split bytes).items c.items bytes (split bytes).rest c.rest is.0 is.1 s o in
    same_split (split bytes) c one.0 one.1

Splits-append : (is js : List Item) (bytes rest end : List ℕ) → Splits bytes is rest → Splits rest js end → Splits bytes (is ++ js) end
Splits-append [] js bytes rest end s t = rw s t
Splits-append (i ∷ is) js bytes rest end s t = (s.0, s.1, Splits-append is js (drop s.0 bytes) rest end s.2 t)

-- ---- in pieces

pub split-feed : (bytes more : List ℕ) → split (bytes ++ more) ≡ split_on (split bytes) more
split-feed bytes more =
    let is = split-is bytes in
    let then = split-is ((split bytes).rest ++ more) in
    split-only (bytes ++ more) (split_on (split bytes) more)
    (Splits-append (split bytes).items (split ((split bytes).rest ++ more)).items (bytes ++ more) ((split bytes).rest ++ more) (split ((split bytes).rest ++ more)).rest
    (Splits-feed (split bytes).items bytes (split bytes).rest more is.0) then.0)
    then.1

-- the next text is the first item
pub split-next : (bytes : List ℕ) (i : Item) (n : ℕ) → judge bytes ≡ text i n → split bytes ≡ behind i (split (drop n bytes))
split-next bytes i n e =
    let then = split-is (drop n bytes) in
    split-only bytes (behind i (split (drop n bytes))) (n, e, then.0) then.1

pub split-open : (bytes : List ℕ) → IsOpen bytes → split bytes ≡ record { items = []; rest = bytes }
split-open bytes o = split-only bytes (record { items = []; rest = bytes }) refl o

-- ---- what was written

is_judged : (f : Parts) → IsWritable f → (more : List ℕ) → judge (frame.text_of f ++ more) ≡ text (whole f) (length (frame.text_of f))
is_judged f w more = item_text-judged (whole f) (frame.text_of f) more (text_of-written f w.fits w.bytes)

-- the front of one text is none
front_is_open : (f : Parts) → IsWritable f → (k : ℕ) → k < length (frame.text_of f) → IsOpen (take k (frame.text_of f))
front_is_open f w k h i n e =
    let t : List ℕ = frame.text_of f in
    let whole_text : judge t ≡ text i n = subst (λ l. judge l ≡ text i n) (take-append-drop k t) (text_stays (take k t) (drop k t) i n e) in
    let as_written : judge t ≡ text (whole f) (length t) = subst (λ l. judge l ≡ text (whole f) (length t)) (append-nil t) (is_judged f w []) in
    let same = same_text i (whole f) n (length t) (sym whole_text ∙ as_written) in
    let within = text_within (take k t) i n e in
    let few = length-take-le k t (omega (arith, h)) in
    omega (arith, same.1, within, few, h)

-- of a front of what was written, the texts are those of a front of the frames
pub front-frames : (fs : List Parts) → AllByRecursion IsWritable fs → (k : ℕ) →
    (j : ℕ) × (j ≤ length fs) × ((split (take k (flat_map frame.text_of fs))).items ≡ map whole (take j fs))
front-frames [] w k = (zero, omega arith, nothing k)
  where
    open_nil : IsOpen []
    open_nil i n e = let long = text_long [] i n e in let within = text_within [] i n e in omega (arith, long, within)

    nothing : (k : ℕ) → (split (take k [])).items ≡ []
    nothing zero = ap (λ c. c.items) (split-open [] open_nil)
    nothing (suc k) = ap (λ c. c.items) (split-open [] open_nil)
front-frames (f ∷ fs) w k = by_length (total (length (frame.text_of f)) k) (front-frames fs w.1 (k - length (frame.text_of f)))
  where
    rest : List ℕ
    rest = flat_map frame.text_of fs

    total : (a b : ℕ) → (a ≤ b) ⊎ (b < a)
    total a b = other_way (cases_lt b a)
      where
        other_way : (b < a) ⊎ (a ≤ b) → (a ≤ b) ⊎ (b < a)
        other_way (inl h) = inr h
        other_way (inr h) = inl h

    by_length : (length (frame.text_of f) ≤ k) ⊎ (k < length (frame.text_of f)) → (j : ℕ) × (j ≤ length fs) × ((split (take (k - length (frame.text_of f)) rest)).items ≡ map whole (take j fs)) →
        (j : ℕ) × (j ≤ length (f ∷ fs)) × ((split (take k (frame.text_of f ++ rest))).items ≡ map whole (take j (f ∷ fs)))
    by_length (inr h) more =
        let short : take k (frame.text_of f ++ rest) ≡ take k (frame.text_of f) = take-append-le k (frame.text_of f) rest (omega (arith, h)) in
        (zero, omega arith, ap (λ l. (split l).items) short ∙ ap (λ c. c.items) (split-open (take k (frame.text_of f)) (front_is_open f w.0 k h)))
    by_length (inl h) more =
        let t : List ℕ = frame.text_of f in
        let long : take k (t ++ rest) ≡ t ++ take (k - length t) rest = ap (λ n. take n (t ++ rest)) (omega (arith, h)) ∙ take-append-add t rest (k - length t) in
        let first = split-next (t ++ take (k - length t) rest) (whole f) (length t) (is_judged f w.0 (take (k - length t) rest)) in
        let behind_it : drop (length t) (t ++ take (k - length t) rest) ≡ take (k - length t) rest = drop-append_seam t (take (k - length t) rest) in (
          suc more.0,
          (let few = more.1 in omega (arith, few)),
          ap (λ l. (split l).items) long ∙ ap (λ c. c.items) first ∙ ap (λ l. whole f ∷ (split l).items) behind_it ∙ ap (λ l. whole f ∷ l) more.2,
        )

-- ---- the laws

pub is_the_reading : SplitIsTheReading
is_the_reading = record { splits = λ bytes. (split-is bytes).0; is_open = λ bytes. (split-is bytes).1; only = split-only }

pub in_pieces : ReadsInPieces
in_pieces = record { more = split-feed; next = split-next; none = split-open }

pub prefixes_are_frames : PrefixesAreFrames
prefixes_are_frames fs k w = front-frames fs w k
