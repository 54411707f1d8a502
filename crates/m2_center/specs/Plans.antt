-- What a center's records are to do, and what it lends of one of them. This project's own.
use Rattle.std.specs.Prelude.{◌≡◌, ℕ, ◌==◌, Bool, List, slice_get, slice_set, Option, Some, None, OnOk}
use Rattle.std.specs.List.{find, position}
use Rattle.m2_journal.specs.declared.entry.Entry.{Entry}
use Rattle.m2_journal.specs.declared.facts.NodeFacts.{NodeFacts}
use Rattle.m2_journal.specs.declared.facts.PlanStep.{PlanStep}
use Rattle.m2_fabric.specs.End.{SeenEnd}
use Rattle.m2_record.specs.Calls.{returned_by}
use Rattle.m2_record.specs.Due.{next_step, on_feed}
use Rattle.m2_record.specs.RecordNow.{RecordNow, composed_on, feed_end}
use Rattle.m2_turn.specs.m2_session.declared.session.Session.{Session}
use Rattle.m2_shared.specs.Gates.{Return, pass_places}
use Rattle.m2_shared.specs.declared.throttles.Throttles.{Throttles}
use Rattle.m2_trail.specs.Trails.{TrailNow}
use Rattle.m2_center.specs.Center.{CenterNow}
use Rattle.m2_center.specs.CenterTurn.{Answer}
use Rattle.m2_turn.specs.Planning.{PlansNow}

-- its peer has this place among the nodes
abbrev pub is_towards : (peer : ℕ) → RecordNow → Bool
is_towards peer r = r.place == peer

-- the first of them towards that peer, and its place among them
abbrev pub side_towards : (peer : ℕ) → List RecordNow → Option RecordNow
side_towards peer records = find (is_towards peer) records

abbrev pub place_towards : (peer : ℕ) → List RecordNow → Option ℕ
place_towards peer records = position (is_towards peer) records

-- ---- a step that is planned

-- there is one towards that peer, and each step of its plan was taken
pub record IsReadyFor (peer : ℕ) (records : List RecordNow) : Type 0 where
  pub side : RecordNow
  pub first : side_towards peer records ≡ Some side
  pub taken : next_step side ≡ None

-- The first record towards the peer plans the step and takes it. Of all else what was granted for it may be given back.
pub record PlansIn {D : Type 0} (result : Answer) (peer : ℕ) (step : PlanStep) (now : ℕ) (throttles : Throttles) (old new : CenterNow D) : Type 0 where
  pub place : ℕ
  pub before : RecordNow
  pub behind : RecordNow
  pub first : place_towards peer old.records ≡ Some place
  pub side : slice_get old.records place ≡ Some before
  pub plans : PlansNow result step now before behind
  pub gives : OnOk result (Return (returned_by (Some step) before) throttles old.bytes new.bytes)
  pub bytes : pass_places new.bytes ≡ pass_places old.bytes
  pub only : new ≡ record old { records = slice_set old.records place behind; bytes = new.bytes }

-- ---- what is lent of a record

-- what contracts see of it; of the feed's end and the ends that were the feed, what can be seen of them
pub record PartsNow : Type 0 where
  pub facts : NodeFacts
  pub place : ℕ
  pub session : Session
  pub plan : List PlanStep
  pub journal : List Entry
  pub trails : List TrailNow
  pub feed : List SeenEnd
  pub spent : List SeenEnd
  pub composed : List ℕ
  pub dry : Bool
  pub blocked : Bool
  pub held : Bool
  pub next_dial : ℕ
  pub missed : ℕ
  pub last : ℕ

-- each part is as it is in the record
abbrev pub parts_of : RecordNow → PartsNow
parts_of r = record {
  facts = r.core.facts.node;
  place = r.place;
  session = r.core.live.session;
  plan = r.plan;
  journal = r.journal;
  trails = r.trails;
  feed = feed_end r.core.live.feed;
  spent = r.spent;
  composed = composed_on r.core.live.feed;
  dry = on_feed (λ v. v.end.log.dry) r.core.live.feed;
  blocked = on_feed (λ v. v.end.log.blocked) r.core.live.feed;
  held = r.held;
  next_dial = r.waits.next_dial;
  missed = r.missed;
  last = r.last;
}
