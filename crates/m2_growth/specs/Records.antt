-- What becomes of records. This project's own.
use Rattle.std.specs.Prelude.{◌≡◌, List, [], ◌∷◌}
use Rattle.std.specs.List.{flat_map}
use Rattle.std.specs.Option.{is_some}
use Rattle.m2_fabric.specs.End.{SeenEnd}
use Rattle.m2_turn.specs.m2_record.RecordNow.{RecordNow, ends_of}
use Rattle.m2_turn.specs.m2_session.Phases as phase
use Rattle.m2_weave.specs.Later.{GoesOn}

-- The same record, later: of what it planned, did and took nothing is undone.
pub record RecordGrows (old new : RecordNow) : Type 0 where
  pub place : new.place ≡ old.place
  pub facts : new.core.facts ≡ old.core.facts
  pub plan : GoesOn old.plan new.plan
  pub journal : GoesOn old.journal new.journal
  pub trails : GoesOn old.trails new.trails

-- each of them, in the same order
abbrev pub RecordsGrow : (old new : List RecordNow) → Type 0
RecordsGrow [] [] = Unit {0}
RecordsGrow (r ∷ rs) (s ∷ ss) = RecordGrows r s × RecordsGrow rs ss
RecordsGrow rs ss = ⊥

-- the ends of all of them
abbrev pub ends_of_all : List RecordNow → List SeenEnd
ends_of_all records = flat_map ends_of records

-- it has a feed exactly in the phases that have one
abbrev pub IsFed : RecordNow → Type 0
IsFed r = is_some r.core.live.feed ≡ phase.is_among r.core.live.session.phase phase.with_feed
