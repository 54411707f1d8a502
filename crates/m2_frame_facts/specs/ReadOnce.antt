-- What holds of the lines of frames: each is read in one way, of words and as an object.
use Rattle.std.specs.Prelude.{◌≡◌, ℕ, ◌<◌, ◌^◌, List, ◌++◌, slice_index, FitsSigned}
use Rattle.std.specs.Int.{w64}
use Rattle.std.specs.List.{AllByRecursion}
use Rattle.m2_addr.specs.declared.addr.Addr.{Addr}
use Rattle.m2_frame.specs.declared.tag.Tag.{Tag}
use Rattle.m2_frame.specs.declared.tag.Tag.TheVariants as tag
use Rattle.m2_frame.specs.Tags.{tag_number}
use Rattle.m2_control.specs.Control.{tag_of}
use Rattle.m2_frame_facts.specs.declared.facts.Facts.{Facts}
use Rattle.m2_frame_facts.specs.declared.facts.Facts.TheVariants as facts
use Rattle.m2_frame_facts.specs.declared.style.Style.{Style}
use Rattle.m2_frame_facts.specs.Fields.{fields_of}
use Rattle.m2_frame_facts.specs.Line.{told_line}
use Rattle.m2_frame_facts.specs.Value.{Place, ipv4, other, Said, number, signed, flag, bits, bytes, numbers, place, places, word, Told}

-- ---- the ranges of the types

abbrev pub AreBytes : List ℕ → Type 0
AreBytes text = (i : ℕ) → slice_index text i < 256

pub record IsSmallAddr (a : Addr) : Type 0 where
  pub kind : a.kind < 2 ^ 32
  pub nonce : a.nonce < 2 ^ 32
  pub ip : a.ip < 2 ^ 32
  pub port : a.port < 2 ^ 16

abbrev pub IsSmallPlace : Place → Type 0
IsSmallPlace (ipv4 a) = IsSmallAddr a
IsSmallPlace (other text) = AreBytes text

abbrev pub IsSmall : Said → Type 0
IsSmall (number n) = n < 2 ^ 64
IsSmall (signed z) = FitsSigned w64 z
IsSmall (flag b) = Unit {0}
IsSmall (bits n) = n < 2 ^ 64
IsSmall (bytes bs) = AreBytes bs
IsSmall (numbers ns) = AllByRecursion (λ n. n < 2 ^ 64) ns
IsSmall (place p) = IsSmallPlace p
IsSmall (places ps) = AllByRecursion IsSmallPlace ps
IsSmall (word w) = Unit {0}

-- ---- the lines

-- A frame as it is told: where its first byte stands, its tag, and what it says.
pub record Shown : Type 0 where
  pub place : ℕ
  pub tag : Tag
  pub says : Facts

abbrev pub shown_line : Style → Shown → List ℕ
shown_line form s = told_line form s.place (tag_number s.tag) s.says

-- what a frame with this tag may say: a message and a payload are of their own tag
abbrev pub IsOf : Tag → Facts → Type 0
IsOf t (facts.Message m) = t ≡ tag.Message
IsOf t (facts.Control c) = t ≡ tag_of c
IsOf t _ = Unit {0}

-- it may be told of a frame, and its place and all that it says keep the ranges of their types
pub record IsShown (s : Shown) : Type 0 where
  pub place : s.place < 2 ^ 64
  pub of_tag : IsOf s.tag s.says
  pub small : AllByRecursion (λ (f : Told). IsSmall f.said) (fields_of s.says)

-- the same place and tag, and the same fields with the same values
pub record AreSame (one other : Shown) : Type 0 where
  pub place : one.place ≡ other.place
  pub tag : one.tag ≡ other.tag
  pub fields : fields_of one.says ≡ fields_of other.says

-- A line is read in one way, whatever stands behind it: two lines with the same text tell the same of a frame at the same place.
abbrev pub LinesAreReadInOneWay : Type 0
LinesAreReadInOneWay = (form : Style) (one other : Shown) (r s : List ℕ) → IsShown one → IsShown other →
    shown_line form one ++ r ≡ shown_line form other ++ s → AreSame one other × (r ≡ s)
