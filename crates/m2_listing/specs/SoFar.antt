-- A listing in the middle of its file: what was read, listed and written so far.
use Rattle.std.specs.Prelude.{◌≡◌, ◌≢◌, ℕ, ◌+◌, List, ◌++◌, length, Result, Ok, Err}
use Rattle.m2_edge.specs.Faults.{HasRisen}
use Rattle.m2_edge.specs.Sink.{SeenSink}
use Rattle.m2_edge.specs.Source.{SeenSource}
use Rattle.m2_frame.specs.Position.{Position}
use Rattle.m2_frame.specs.Reading.{Item, start, bad, judge}
use Rattle.m2_listing.specs.Listing.{Terms, Listed, Broken, Lists, IsFaultCause}
use Rattle.m2_listing.specs.declared.listing.Listing.{Listing}
use Rattle.m2_listing.specs.declared.listing.Listing.TheVariants as listing

-- `room` more bytes may come, the rest is a start, and the lines of all that the reads gave before it were written
pub record SoFar (t : Terms) (src : SeenSource) (room : ℕ) (s : Position) (before after : SeenSink) : Type 0 where
  pub bytes : List ℕ
  pub given : src.given ≡ t.front ++ bytes
  pub counted : length bytes + room ≡ t.most
  pub open_end : judge s.rest ≡ start
  pub listed : Listed t.line bytes s.rest s.place before after

-- a piece was listed, and so much room is left; or the listing ended
abbrev pub GoesOn : Result ℕ Listing → Terms → SeenSource → Position → SeenSink → SeenSink → Type 0
GoesOn (Ok room) t src s before after = SoFar t src room s before after
GoesOn (Err end) t src s before after = Lists end t src before after

abbrev pub IsEndCause : Result ℕ Listing → ℕ → ℕ → ℕ → ℕ → Type 0
IsEndCause (Ok _) src src' out out' = Unit {0}
IsEndCause (Err end) src src' out out' = IsFaultCause end src src' out out'

-- the end of the file: place is where the last whole frame ends
abbrev pub EndsHere : Listing → (most : ℕ) → Position → ℕ → Type 0
EndsHere listing.Whole most s room = s.place + room ≡ most
EndsHere (listing.Cut place) most s room = (place ≡ s.place) × (s.place + room ≢ most)
EndsHere _ most s room = ⊥

abbrev pub IsFedCause : Result (Unit {0}) Listing → ℕ → ℕ → Type 0
IsFedCause (Err listing.WriteFault) old new = HasRisen old new
IsFedCause (Err listing.ReadFault) old new = ⊥
IsFedCause _ old new = Unit {0}

-- what was fed is listed and its lines are written, and a start is left; or the listing ends
abbrev pub FedTo : Result (Unit {0}) Listing → (ℕ → Item → List ℕ) → List ℕ → Position → SeenSink → SeenSink → Type 0
FedTo (Ok _) line bytes s before after = (judge s.rest ≡ start) × Listed line bytes s.rest s.place before after
FedTo (Err (listing.Bad place f)) line bytes s before after = (place ≡ s.place) × (judge s.rest ≡ bad f) × Listed line bytes s.rest s.place before after
FedTo (Err listing.WriteFault) line bytes s before after = Broken line bytes before after
FedTo (Err listing.NoMemory) line bytes s before after = Broken line bytes before after
FedTo (Err _) line bytes s before after = ⊥

-- behind the front the source gave so many bytes, and the decoder has them, from the first one on
pub record HasFed (front : List ℕ) (fed : ℕ) (s : Position) (src : SeenSource) : Type 0 where
  pub given : src.given ≡ front ++ s.rest
  pub counted : length s.rest ≡ fed
  pub first : s.place ≡ 0
