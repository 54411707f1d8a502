-- Who acts in each strand that is woven of two sides: the record of a side, or a half on a socket that a side has accepted.
-- This project's own.
use Rattle.std.specs.Prelude.{◌&&◌, ◌||◌, not, Bool, true, false, if◌then◌else◌, List, [], ◌∷◌, ◌++◌, map}
use Rattle.m2_fabric.specs.declared.socket.SocketId.{SocketId}
use Rattle.m2_fabric.specs.End.{SeenEnd}
use Rattle.m2_fabric.specs.Log.{Log}
use Rattle.m2_history.specs.HalfStrands.{strand_of}
use Rattle.m2_history.specs.Parts.{PartsNow}
use Rattle.m2_history.specs.Woven.{BothNow, is_of_link, knows}
use Rattle.m2_journal.specs.declared.entry.Entry.{Entry}
use Rattle.m2_record.specs.Sources.{log_at}
use Rattle.m2_trail.specs.Arrivals.{LooseNow}
use Rattle.m2_trail.specs.Trails.{TrailNow}
use Rattle.m2_weave.specs.Strands.{StrandNow, has_opened, journal_of}

-- ---- two sides

-- the near side, or the far one
abbrev pub part_of : BothNow → (near : Bool) → PartsNow
part_of x true = x.a
part_of x false = x.b

abbrev pub journal_by : BothNow → (near : Bool) → List Entry
journal_by x near = (part_of x near).journal

-- ---- who acts

-- a side's record, or a half of that side with its trail and the log of its end
pub data Actor : Type 0 where
  of_record : (near : Bool) → Actor
  of_half : (near : Bool) → TrailNow → Log → Actor

-- a half that a side took
abbrev pub taken_half : (near : Bool) → List SeenEnd → TrailNow → Actor
taken_half near ends t = of_half near t (log_at ends t.socket)

abbrev pub actors_of_side : (near : Bool) → PartsNow → List Actor
actors_of_side near p = of_record near ∷ map (taken_half near p.ends) p.trails

-- A half that neither took is of the side that didn't open its socket; where neither did, of the one that has judged an ask
-- there.
abbrev pub is_near : (a b : List Entry) → SocketId → Bool
is_near a b k = not (has_opened (journal_of a) k) && (has_opened (journal_of b) k || knows a k)

abbrev pub loose_actor : (a b : List Entry) → LooseNow → List Actor
loose_actor a b l = if is_of_link a b l then of_half (is_near a b l.trail.socket) l.trail l.end.log ∷ [] else []

abbrev pub loose_actors : (a b : List Entry) → List LooseNow → List Actor
loose_actors a b [] = []
loose_actors a b (l ∷ ls) = loose_actor a b l ++ loose_actors a b ls

-- in the order of the strands
abbrev pub actors_of : BothNow → List Actor
actors_of x = (actors_of_side true x.a ++ actors_of_side false x.b) ++ loose_actors x.a.journal x.b.journal x.loose

-- ---- what they did

abbrev pub strand_by : (journals : Bool → List Entry) → Actor → StrandNow
strand_by journals (of_record near) = journal_of (journals near)
strand_by journals (of_half near t log) = strand_of t

-- the trails of all halves
abbrev pub trail_by : Actor → List TrailNow
trail_by (of_record near) = []
trail_by (of_half near t log) = t ∷ []
