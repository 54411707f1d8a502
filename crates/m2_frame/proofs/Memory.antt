-- What is found at the front stays so when more comes, and when a size is granted.
use Rattle.std.proofs.Common.{◌≡◌, ℕ, ◌≤◌, Bool, true, false, cond, List, [], length, take, drop, ◌++◌, Option, None, Ok, lit<, refl, sym, ap, ◌∙◌, arith, length-drop, inl, inr}
use Rattle.std.proofs.lemmas.List.{take-append-le, drop-append-le, length-append}
use Rattle.m2_frame.specs.declared.epilogue.Late.{Late}
use Rattle.m2_frame.specs.declared.epilogue.Late.TheVariants.{Complete, Aborted}
use Rattle.m2_frame.specs.declared.fault.FrameFault.{FrameFault}
use Rattle.m2_frame.specs.declared.preamble.Preamble.{Preamble}
use Rattle.m2_frame.specs.declared.finding.Finding.{Finding}
use Rattle.m2_frame.specs.declared.finding.Finding.TheVariants as found
use Rattle.m2_frame.specs.Preamble.{read_preamble}
use Rattle.m2_frame.specs.Reading.{Front, start, bad, whole, text, frame_in, first_len, later_len, text_len, first_is_right, front_of, judge, size_of, owed_by, owed_at}
use Rattle.m2_frame.specs.Judging.{first_part, later_part, BeginsWith, IsSealed, IsWholeText, Finds, Stays}
use Rattle.m2_frame.specs.Decoder.{owed, IsAtFront}
use Rattle.m2_frame.specs.Frame.{Parts}
use Rattle.m2_frame.specs.Holds.{Holds}
use Rattle.m2_frame.specs.Position.{Position}
use Rattle.m2_frame.proofs.Judge.{judge-short, judge-settled, size_of-short, size_of-settled, size_of-begins}

pub owed-begins : (rest : List ℕ) (granted : Bool) (p : Preamble) → BeginsWith rest p → owed_at rest granted ≡ owed_by p granted
owed-begins rest granted p b = ap (λ n. cond granted None n) (size_of-begins rest p b)

begins_fed : (rest piece : List ℕ) (p : Preamble) → BeginsWith rest p → BeginsWith (rest ++ piece) p
begins_fed rest piece p b = record {
  there = omega (arith, length-append rest piece, b.there);
  read = ap read_preamble (take-append-le 32 rest piece b.there) ∙ b.read;
}

sealed_fed : (rest piece : List ℕ) (p : Preamble) → IsSealed rest p → IsSealed (rest ++ piece) p
sealed_fed rest piece p s =
    let whole : 32 ≤ length rest = omega (arith, s.there) in
    let after : first_len p ≤ length (drop 32 rest) = omega (arith, s.there, length-drop 32 rest) in
    let same : first_part p (rest ++ piece) ≡ first_part p rest =
    ap (take (first_len p)) (drop-append-le 32 rest piece whole) ∙ take-append-le (first_len p) (drop 32 rest) piece after in
    record {
      there = omega (arith, length-append rest piece, s.there);
      read = ap read_preamble (take-append-le 32 rest piece whole) ∙ s.read;
      right = ap (first_is_right p) same ∙ s.right;
    }

-- what is owed stays so
owed-fed : (rest piece : List ℕ) (granted : Bool) → 32 ≤ length rest → owed_at (rest ++ piece) granted ≡ owed_at rest granted
owed-fed rest piece granted h = ap (λ n. cond granted None n) (size_of-settled rest piece h)

bad_isnt_start : (f : FrameFault) → bad f ≡ start → ⊥
bad_isnt_start f e = cc

whole_isnt_start : (p : Preamble) (first later : List ℕ) (end : Late) → front_of p first later (Ok end) ≡ start → ⊥
whole_isnt_start p first later Complete e = cc
whole_isnt_start p first later Aborted e = cc

-- the parts of a whole text stay when more comes
first_part-fed : (p : Preamble) (rest piece : List ℕ) → text_len p ≤ length rest → first_part p (rest ++ piece) ≡ first_part p rest
first_part-fed p rest piece h =
    let whole : 32 ≤ length rest = omega (arith, h) in
    let after : first_len p ≤ length (drop 32 rest) = omega (arith, h, length-drop 32 rest) in
    ap (take (first_len p)) (drop-append-le 32 rest piece whole) ∙ take-append-le (first_len p) (drop 32 rest) piece after

later_part-fed : (p : Preamble) (rest piece : List ℕ) → text_len p ≤ length rest → later_part p (rest ++ piece) ≡ later_part p rest
later_part-fed p rest piece h =
    let whole : 32 ≤ length rest = omega (arith, h) in
    let after : first_len p ≤ length (drop 32 rest) = omega (arith, h, length-drop 32 rest) in
    let end : later_len p ≤ length (drop (first_len p) (drop 32 rest)) = omega (arith, h, length-drop 32 rest, length-drop (first_len p) (drop 32 rest)) in
    ap (λ l. take (later_len p) (drop (first_len p) l)) (drop-append-le 32 rest piece whole)
    ∙ ap (take (later_len p)) (drop-append-le (first_len p) (drop 32 rest) piece after)
    ∙ take-append-le (later_len p) (drop (first_len p) (drop 32 rest)) piece end

-- what is judged and isn't the start of a text stays so
judged-fed : (rest piece : List ℕ) (before : Front) → judge rest ≡ before → (before ≡ start → ⊥) → (32 ≤ length rest) × (judge (rest ++ piece) ≡ before)
judged-fed rest piece before e settled =
    elim (judge-settled rest piece) [
      | inl s ↦ absurd (settled (sym e ∙ s))
      | inr w ↦ (w.0, w.1 ∙ e)
    ]

whole-fed : (p : Preamble) (end : Late) (rest piece : List ℕ) → IsWholeText p end rest → IsWholeText p end (rest ++ piece)
whole-fed p end rest piece w = record {
  long = omega (arith, length-append rest piece, w.long);
  judged = (judged-fed rest piece (front_of p (first_part p rest) (later_part p rest) (Ok end)) w.judged (whole_isnt_start p (first_part p rest) (later_part p rest) end)).1
      ∙ ap (λ l. front_of p l (later_part p rest) (Ok end)) (sym (first_part-fed p rest piece w.long))
      ∙ ap (λ l. front_of p (first_part p (rest ++ piece)) l (Ok end)) (sym (later_part-fed p rest piece w.long));
}

pub Stays-fed : (f : Finding) (rest piece : List ℕ) (granted : Bool) → Finds f rest granted → Stays f (rest ++ piece) granted
Stays-fed found.Nothing rest piece granted h = tt
Stays-fed (found.Asking p) rest piece granted h = begins_fed rest piece p h.0
Stays-fed (found.Sized p) rest piece granted h = begins_fed rest piece p h.0
Stays-fed (found.Sealed p) rest piece granted h = (sealed_fed rest piece p h.0, owed-fed rest piece granted (omega (arith, h.0.there)) ∙ h.1)
Stays-fed (found.Whole p) rest piece granted h = (whole-fed p Complete rest piece h.0, owed-fed rest piece granted (omega (arith, h.0.long)) ∙ h.1)
Stays-fed (found.Aborted p) rest piece granted h = (whole-fed p Aborted rest piece h.0, owed-fed rest piece granted (omega (arith, h.0.long)) ∙ h.1)
Stays-fed (found.Faulty f) rest piece granted h =
    let more = judged-fed rest piece (bad f) h.0 (bad_isnt_start f) in
    (more.1, owed-fed rest piece granted more.0 ∙ h.1)

pub Stays-granted : (f : Finding) (rest : List ℕ) (granted : Bool) → Finds f rest granted → Stays f rest true
Stays-granted found.Nothing rest granted h = tt
Stays-granted (found.Asking p) rest granted h = h.0
Stays-granted (found.Sized p) rest granted h = h.0
Stays-granted (found.Sealed p) rest granted h = (h.0, refl)
Stays-granted (found.Whole p) rest granted h = (h.0, refl)
Stays-granted (found.Aborted p) rest granted h = (h.0, refl)
Stays-granted (found.Faulty f) rest granted h = (h.0, refl)

cond_none : (b : Bool) (n : Option ℕ) → n ≡ None → cond b None n ≡ None
cond_none true n e = refl
cond_none false n e = e

-- where nothing is asked for, nothing is owed
pub owed-none : (rest : List ℕ) (granted : Bool) → size_of rest ≡ None → owed_at rest granted ≡ None
owed-none rest granted e = cond_none granted (size_of rest) e

-- a decoder begins with nothing
pub Holds-begins : (room : ℕ) → Holds found.Nothing (record { place = 0; rest = []; granted = false; room = room })
Holds-begins room = record {
  found = (owed-none [] false (size_of-short [] (lit< tt)), judge-short [] (lit< tt));
  counted = lit< tt;
}

-- the text of a frame that is whole and right is that of the frame in it
pub IsAtFront-whole : (s : Position) (p : Preamble) (f : Parts) → owed s ≡ None → IsWholeText p Complete s.rest → f ≡ frame_in p (first_part p s.rest) (later_part p s.rest) → IsAtFront s f
IsAtFront-whole s p f settled w e = record {
  settled = settled;
  len = text_len p;
  there = w.judged ∙ ap (λ x. text (whole x) (text_len p)) (sym e);
}
