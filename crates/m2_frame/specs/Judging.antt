-- What is known of a rest once a part of the text at its front is judged.
use Rattle.std.specs.Prelude.{◌≡◌, ℕ, ◌+◌, ◌≤◌, Bool, true, List, length, take, drop, Result, Ok, Option, Some, None}
use Rattle.m2_frame.specs.declared.epilogue.Late.{Late}
use Rattle.m2_frame.specs.declared.epilogue.Late.TheVariants.{Complete, Aborted}
use Rattle.m2_frame.specs.declared.fault.FrameFault.{FrameFault}
use Rattle.m2_frame.specs.declared.fault.FrameFault.TheVariants.{BadSegmentCrc}
use Rattle.m2_frame.specs.declared.finding.Finding.{Finding}
use Rattle.m2_frame.specs.declared.finding.Finding.TheVariants as found
use Rattle.m2_frame.specs.declared.judging.Opening.{Opening}
use Rattle.m2_frame.specs.declared.judging.Opening.TheVariants.{Short, Wrong, Right}
use Rattle.m2_frame.specs.declared.preamble.Preamble.{Preamble}
use Rattle.m2_frame.specs.declared.preamble.TheConstants.{PREAMBLE_BYTES}
use Rattle.m2_frame.specs.Preamble.{read_preamble}
use Rattle.m2_frame.specs.Reading.{start, bad, first_len, later_len, text_len, first_is_right, front_of, judge, asked_by, owed_at}

-- the first segment with its checksum, and what follows it in the text
abbrev pub first_part : Preamble → List ℕ → List ℕ
first_part p rest = take (first_len p) (drop PREAMBLE_BYTES rest)

abbrev pub later_part : Preamble → List ℕ → List ℕ
later_part p rest = take (later_len p) (drop (first_len p) (drop PREAMBLE_BYTES rest))

-- the rest begins with this preamble
pub record BeginsWith (rest : List ℕ) (p : Preamble) : Type 0 where
  pub there : PREAMBLE_BYTES ≤ length rest
  pub read : read_preamble (take PREAMBLE_BYTES rest) ≡ Ok p

-- the rest begins with this preamble and a right first segment
pub record IsSealed (rest : List ℕ) (p : Preamble) : Type 0 where
  pub there : PREAMBLE_BYTES + first_len p ≤ length rest
  pub read : read_preamble (take PREAMBLE_BYTES rest) ≡ Ok p
  pub right : first_is_right p (first_part p rest) ≡ true

-- what the first segment says of the rest
abbrev pub OpensAs : Preamble → List ℕ → Opening → Type 0
OpensAs p rest Short = judge rest ≡ start
OpensAs p rest Wrong = judge rest ≡ bad (BadSegmentCrc 0)
OpensAs p rest Right = IsSealed rest p

-- what follows the first segment says of the rest
abbrev pub EndsAs : Preamble → List ℕ → Option (Result Late FrameFault) → Type 0
EndsAs p rest None = judge rest ≡ start
EndsAs p rest (Some end) = (text_len p ≤ length rest) × (judge rest ≡ front_of p (first_part p rest) (later_part p rest) end)

-- ---- what is found at the front

-- the text is whole and right, but that its sender may have given it up
pub record IsWholeText (p : Preamble) (end : Late) (rest : List ℕ) : Type 0 where
  pub long : text_len p ≤ length rest
  pub judged : judge rest ≡ front_of p (first_part p rest) (later_part p rest) (Ok end)

-- a finding says what the rest is, and whether a size is owed
abbrev pub Finds : Finding → List ℕ → Bool → Type 0
Finds found.Nothing rest granted = (owed_at rest granted ≡ None) × (judge rest ≡ start)
Finds (found.Asking p) rest granted = BeginsWith rest p × (owed_at rest granted ≡ Some (asked_by p))
Finds (found.Sized p) rest granted = BeginsWith rest p × (owed_at rest granted ≡ None) × (judge rest ≡ start)
Finds (found.Sealed p) rest granted = IsSealed rest p × (owed_at rest granted ≡ None) × (judge rest ≡ start)
Finds (found.Whole p) rest granted = IsWholeText p Complete rest × (owed_at rest granted ≡ None)
Finds (found.Aborted p) rest granted = IsWholeText p Aborted rest × (owed_at rest granted ≡ None)
Finds (found.Faulty f) rest granted = (judge rest ≡ bad f) × (owed_at rest granted ≡ None)

-- what stays of a finding when more comes, or when the size is granted
abbrev pub Stays : Finding → List ℕ → Bool → Type 0
Stays found.Nothing rest granted = Unit {0}
Stays (found.Asking p) rest granted = BeginsWith rest p
Stays (found.Sized p) rest granted = BeginsWith rest p
Stays (found.Sealed p) rest granted = IsSealed rest p × (owed_at rest granted ≡ None)
Stays (found.Whole p) rest granted = IsWholeText p Complete rest × (owed_at rest granted ≡ None)
Stays (found.Aborted p) rest granted = IsWholeText p Aborted rest × (owed_at rest granted ≡ None)
Stays (found.Faulty f) rest granted = (judge rest ≡ bad f) × (owed_at rest granted ≡ None)
