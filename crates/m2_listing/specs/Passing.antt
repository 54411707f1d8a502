-- What each step of a listing leaves, and why it may fail.
use Rattle.std.specs.Prelude.{◌≡◌, ℕ, ◌+◌, ◌*◌, ◌<◌, Bool, true, false, List, ◌++◌, length, Result, Ok, Err, if◌then◌else◌}
use Rattle.m2_edge.specs.Faults.{HasRisen}
use Rattle.m2_edge.specs.Sink.{SeenSink, TakesBytes, TakesPrefix}
use Rattle.m2_frame.specs.Position.{Position}
use Rattle.m2_frame.specs.Reading.{Item, start, bad, judge}
use Rattle.m2_listing.specs.Listing.{Listed, Broken}
use Rattle.m2_listing.specs.declared.listing.Listing.{Listing}
use Rattle.m2_listing.specs.declared.listing.Listing.TheVariants as listing

-- the sink as it is once it has taken these lines too, which wait
abbrev pub with_taken : SeenSink → List ℕ → SeenSink
with_taken s lines = record s { taken = s.taken ++ lines }

-- how much is left to be taken up: each byte counts two, and a size that isn't granted one
abbrev pub work_left : Position → ℕ
work_left s = 2 * length s.rest + (if s.granted then 0 else 1)

-- where there may be another answer, less is left
abbrev pub StepsDown : Result Bool Listing → Position → Position → Type 0
StepsDown (Ok true) old new = work_left new < work_left old
StepsDown _ old new = Unit {0}

-- why no more frames are passed: the rest is bad, or memory ran out
abbrev pub StopsAt : Listing → (ℕ → Item → List ℕ) → List ℕ → Position → SeenSink → SeenSink → Type 0
StopsAt (listing.Bad place f) line bytes s before after = (place ≡ s.place) × (judge s.rest ≡ bad f) × Listed line bytes s.rest s.place before after
StopsAt listing.NoMemory line bytes s before after = Broken line bytes before after
StopsAt _ line bytes s before after = ⊥

-- passing frames ends early for these causes alone
abbrev pub EndsPassing : {X : Type 0} → Result X Listing → Type 0
EndsPassing (Ok _) = Unit {0}
EndsPassing (Err (listing.Bad _ _)) = Unit {0}
EndsPassing (Err listing.NoMemory) = Unit {0}
EndsPassing (Err _) = ⊥

-- one answer of the decoder taken up, after which there may be another, or the rest is a start
abbrev pub StepsTo : Result Bool Listing → (ℕ → Item → List ℕ) → List ℕ → Position → SeenSink → SeenSink → Type 0
StepsTo (Ok true) line bytes s before after = Listed line bytes s.rest s.place before after
StepsTo (Ok false) line bytes s before after = (judge s.rest ≡ start) × Listed line bytes s.rest s.place before after
StepsTo (Err end) line bytes s before after = StopsAt end line bytes s before after

-- all that is there passed
abbrev pub PassesTo : Result (Unit {0}) Listing → (ℕ → Item → List ℕ) → List ℕ → Position → SeenSink → SeenSink → Type 0
PassesTo (Ok _) line bytes s before after = (judge s.rest ≡ start) × Listed line bytes s.rest s.place before after
PassesTo (Err end) line bytes s before after = StopsAt end line bytes s before after

-- the lines that waited are taken whole, or a prefix of them
abbrev pub PutsOut : Result (Unit {0}) Listing → List ℕ → SeenSink → SeenSink → Type 0
PutsOut (Ok _) lines old new = TakesBytes lines old new
PutsOut (Err listing.WriteFault) lines old new = TakesPrefix lines old new
PutsOut (Err _) lines old new = ⊥

-- a fault of the sink is answered only where its count rose
abbrev pub IsPutCause : Result (Unit {0}) Listing → ℕ → ℕ → Type 0
IsPutCause (Err listing.WriteFault) old new = HasRisen old new
IsPutCause _ old new = Unit {0}
