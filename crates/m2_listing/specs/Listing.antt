-- What a listing of frames says: which bytes were read, which items they are, which lines were written, and where and
-- why the bytes stop being frames. Its lines are those of any function of an item and its place.
use Rattle.std.specs.Prelude.{◌≡◌, ◌≢◌, ℕ, ◌+◌, ◌<◌, ◌≤◌, IsTrue, List, [], ◌++◌, length, take}
use Rattle.std.specs.List.{flat_map}
use Rattle.m2_edge.specs.Faults.{HasRisen}
use Rattle.m2_edge.specs.Sink.{SeenSink, TakesBytes, TakesPrefix}
use Rattle.m2_edge.specs.Source.{SeenSource, IsPrefixOf}
use Rattle.m2_frame.specs.Reading.{Item, start, bad, judge}
use Rattle.m2_listing.specs.Stream.{Placed, SplitsAt}
use Rattle.m2_listing.specs.declared.listing.Listing.{Listing}
use Rattle.m2_listing.specs.declared.listing.Listing.TheVariants as listing

-- what is listed: the bytes behind these, at most so many, and this line of each item at its place
pub record Terms : Type 0 where
  pub front : List ℕ
  pub most : ℕ
  pub line : ℕ → Item → List ℕ

abbrev pub terms : List ℕ → (most : ℕ) → (ℕ → Item → List ℕ) → Terms
terms front most line = record { front = front; most = most; line = line }

abbrev pub line_of : (ℕ → Item → List ℕ) → Placed → List ℕ
line_of line p = line p.place p.item

-- the lines of items, one after the other
abbrev pub lines_of : (ℕ → Item → List ℕ) → List Placed → List ℕ
lines_of line items = flat_map (line_of line) items

-- ---- what was read

-- behind the front these bytes are all that the reads gave, and the end of the file was found
pub record IsAll (front bytes : List ℕ) (src : SeenSource) : Type 0 where
  pub given : src.given ≡ front ++ bytes
  pub ended : IsTrue src.ended

-- behind the front these bytes are the first ones that the reads gave, as many as may be listed, and they gave more
pub record IsCutAtMost (most : ℕ) (front bytes : List ℕ) (src : SeenSource) : Type 0 where
  pub all : List ℕ
  pub given : src.given ≡ front ++ all
  pub beyond : most < length all
  pub cut : bytes ≡ take most all

-- ---- what was written

-- the bytes are the items' texts and a rest, and the items' lines were written
pub record Listed (line : ℕ → Item → List ℕ) (bytes rest : List ℕ) (place : ℕ) (before after : SeenSink) : Type 0 where
  pub items : List Placed
  pub splits : SplitsAt 0 bytes items rest
  pub counted : place + length rest ≡ length bytes
  pub written : TakesBytes (lines_of line items) before after

-- the bytes are the items' texts and a rest, and a prefix of the items' lines was written
pub record Broken (line : ℕ → Item → List ℕ) (bytes : List ℕ) (before after : SeenSink) : Type 0 where
  pub items : List Placed
  pub rest : List ℕ
  pub splits : SplitsAt 0 bytes items rest
  pub written : TakesPrefix (lines_of line items) before after

-- the items of a prefix of what the reads gave, and of their lines a prefix was written
abbrev pub ListsPrefix : Terms → SeenSource → SeenSink → SeenSink → Type 0
ListsPrefix t src before after = (bytes : List ℕ) × IsPrefixOf (t.front ++ bytes) src.given × Broken t.line bytes before after

-- The answer, by what the reads gave, and what the sink took.
-- Whole: no more bytes came than may be listed, and they are the texts of the listed items, and nothing else.
-- Bad: at this place the text is bad with this fault; the items before it are listed. It lies within what may be listed.
-- Cut: no more came, and they end inside the text that begins at this place.
-- TooLong: more came; up to there no text is bad, and this is the end of the last whole one.
-- The others: a prefix of the lines was written.
abbrev pub Lists : Listing → Terms → SeenSource → SeenSink → SeenSink → Type 0
Lists listing.Whole t src before after = (bytes : List ℕ) × (place : ℕ) × IsAll t.front bytes src × (length bytes ≤ t.most) × Listed t.line bytes [] place before after
Lists (listing.Bad place f) t src before after =
    (bytes : List ℕ) × (rest : List ℕ) × IsPrefixOf (t.front ++ bytes) src.given × (length bytes ≤ t.most) × (judge rest ≡ bad f) × Listed t.line bytes rest place before after
Lists (listing.Cut place) t src before after =
    (bytes : List ℕ) × (rest : List ℕ) × IsAll t.front bytes src × (length bytes ≤ t.most) × (judge rest ≡ start) × (rest ≢ []) × Listed t.line bytes rest place before after
Lists (listing.TooLong place) t src before after =
    (bytes : List ℕ) × (rest : List ℕ) × IsCutAtMost t.most t.front bytes src × (judge rest ≡ start) × Listed t.line bytes rest place before after
Lists listing.ReadFault t src before after = ListsPrefix t src before after
Lists listing.WriteFault t src before after = ListsPrefix t src before after
Lists listing.NoMemory t src before after = ListsPrefix t src before after

-- a fault of the source or the sink is answered only where its count rose
abbrev pub IsFaultCause : Listing → ℕ → ℕ → ℕ → ℕ → Type 0
IsFaultCause listing.ReadFault src src' out out' = HasRisen src src'
IsFaultCause listing.WriteFault src src' out out' = HasRisen out out'
IsFaultCause _ src src' out out' = Unit {0}
