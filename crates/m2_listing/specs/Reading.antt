-- What reading a piece gives, and why it may fail.
use Rattle.std.specs.Prelude.{◌≡◌, ℕ, ◌<◌, ◌≤◌, IsTrue, List, ◌++◌, length, take, Result, Ok, Err}
use Rattle.m2_edge.specs.Faults.{HasRisen}
use Rattle.m2_edge.specs.Source.{SeenSource}
use Rattle.m2_frame.specs.Decoder.{IsSameButRoom, fed}
use Rattle.m2_frame.specs.Position.{Position}
use Rattle.m2_listing.specs.declared.listing.Listing.{Listing}
use Rattle.m2_listing.specs.declared.listing.Listing.TheVariants as listing
use Rattle.m2_listing.specs.declared.reading.Piece.{Piece}
use Rattle.m2_listing.specs.declared.reading.Piece.TheVariants as piece

-- one more read gave these bytes
abbrev pub GivesMore : List ℕ → SeenSource → SeenSource → Type 0
GivesMore bytes src src' = src'.given ≡ src.given ++ bytes

-- the reads gave more bytes, or none
abbrev pub Grows : SeenSource → SeenSource → Type 0
Grows old new = (more : List ℕ) × GivesMore more old new

-- A piece of at most `most` bytes came and was fed; or the end was found; or more than `most` came, of which the
-- first were fed. ReadFault: nothing came. NoMemory: what came wasn't fed.
abbrev pub Fetches : Result Piece Listing → ℕ → Position → Position → SeenSource → SeenSource → Type 0
Fetches (Ok (piece.Came n)) most old new src src' =
    (bytes : List ℕ) × (length bytes ≡ n) × (0 < n) × (n ≤ most) × IsSameButRoom (fed old bytes) new × GivesMore bytes src src'
Fetches (Ok piece.End) most old new src src' = (new ≡ old) × (src'.given ≡ src.given) × IsTrue src'.ended
Fetches (Ok piece.TooLong) most old new src src' =
    (bytes : List ℕ) × (length bytes ≡ most) × IsSameButRoom (fed old bytes) new
    × ((got : List ℕ) × (length bytes < length got) × (bytes ≡ take (length bytes) got) × GivesMore got src src')
Fetches (Err listing.ReadFault) most old new src src' = (new ≡ old) × (src'.given ≡ src.given)
Fetches (Err listing.NoMemory) most old new src src' = IsSameButRoom old new × ((got : List ℕ) × GivesMore got src src')
Fetches (Err _) most old new src src' = ⊥

-- a fault of the source is answered only where its count rose
abbrev pub IsPieceCause : Result Piece Listing → ℕ → ℕ → Type 0
IsPieceCause (Err listing.ReadFault) old new = HasRisen old new
IsPieceCause _ old new = Unit {0}
