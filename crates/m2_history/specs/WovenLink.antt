-- Two sides of a link that are woven, as records and halves keep them. This project's own.
use Rattle.std.specs.Prelude.{◌≡◌, ℕ, ◌<◌, ◌^◌, Bool, true, false, if◌then◌else◌, List, map}
use Rattle.std.specs.List.{AllByRecursion, IsDistinct, flat_map}
use Rattle.m2_trail.specs.m2_control.Laws.{HasAddrRanges}
use Rattle.m2_fabric.specs.declared.socket.SocketId.{SocketId}
use Rattle.m2_fabric.specs.Sockets.{goes_to, is_among}
use Rattle.m2_bytes_fit.specs.Halves.{KeepsRanges}
use Rattle.m2_bytes_fit.specs.Orders.{OrderEntry}
use Rattle.m2_bytes_fit.specs.Texts.{CanBePosted}
use Rattle.m2_history.specs.Parts.{PartsNow}
use Rattle.m2_history.specs.Woven.{BothNow, EndNow, ends_of, is_end, is_of_link, row_now, rows_of, strands_of}
use Rattle.m2_journal.specs.declared.entry.Entry.{Entry}
use Rattle.m2_journal.specs.Items.{JournalItem, Sources, items_of}
use Rattle.m2_journal.specs.Lawful.{judged_on}
use Rattle.m2_journal.specs.declared.facts.PlanStep.{PlanStep}
use Rattle.m2_journal.specs.Plan.{planned}
use Rattle.m2_journal.specs.Replay.{AreLawful}
use Rattle.m2_journal.specs.SideFacts.{SideFacts}
use Rattle.m2_journal.specs.State.{start}
use Rattle.m2_channel.specs.m2_never_reset.PairLaws.{IsNoDown}
use Rattle.m2_record.specs.IsRecord.{feeds_in}
use Rattle.m2_record.specs.RecordNow.{ids_of}
use Rattle.m2_record.specs.Sources.{sources_of}
use Rattle.m2_record.specs.TakenTrails.{HaveTrails, judgements_in}
use Rattle.m2_trail.specs.Arrivals.{LooseNow}
use Rattle.m2_trail.specs.Trails.{TrailNow, IsWholeTrail, opener_of}
use Rattle.m2_weave.specs.declared.table.SocketBytes.{SocketBytes}
use Rattle.m2_weave.specs.Stops.{IsWoven}
use Rattle.m2_weave.specs.Table.{bytes_of}
use Rattle.m2_history.specs.Actors.{Actor, actors_of, is_near, part_of, trail_by}
use Rattle.m2_history.specs.Order.{entries_from}

-- what is woven, and of either side its facts and its plan
pub record LinkNow : Type 0 where
  pub facts : (near : Bool) → SideFacts
  pub plans : (near : Bool) → List PlanStep
  pub both : BothNow

-- ---- a side

abbrev pub sources_in : List PlanStep → PartsNow → Sources
sources_in plan p = sources_of (record { plan = map planned plan; ends = p.ends; trails = p.trails })

abbrev pub items_in : List PlanStep → PartsNow → List JournalItem
items_in plan p = items_of (sources_in plan p) p.journal

-- A side as its record keeps it: its entries are lawful one after the other, each socket that became the feed has its end, and
-- each half that was taken its trail.
pub record IsSideOf (f : SideFacts) (plan : List PlanStep) (p : PartsNow) : Type 0 where
  pub lawful : AreLawful f (items_in plan p) (start f)
  pub ends : AllByRecursion (λ k. is_among k (ids_of p.ends) ≡ true) (feeds_in p.journal)
  pub trails : HaveTrails f.node.entity p.ends p.journal p.trails

-- ---- halves that neither took

-- it is whole, names a kind of node, and was told what the side has judged whose half it is
pub record IsLooseBeside (a b : List Entry) (l : LooseNow) : Type 0 where
  pub whole : IsWholeTrail l.trail l.end
  pub entity : l.trail.entity < 2 ^ 8
  pub judged : l.trail.judged ≡ judged_on l.trail.socket (judgements_in (if is_near a b l.trail.socket then a else b))

-- ---- both sides

abbrev pub trails_of : BothNow → List TrailNow
trails_of x = flat_map trail_by (actors_of x)

abbrev pub same_end : EndNow → EndNow → Bool
same_end e other = is_end e.socket e.opener other

-- What is asked of two sides and of the halves that neither took, beside what records keep: they dial different places, what
-- nodes and sockets are named by keeps the ranges of its types, and what the plans post the bounds of its frames.
pub record AreJoined (l : LinkNow) : Type 0 where
  pub posts : (near : Bool) → AllByRecursion CanBePosted (items_in (l.plans near) (part_of l.both near))
  pub loose : AllByRecursion (λ (h : LooseNow). is_of_link l.both.a.journal l.both.b.journal h ≡ true → IsLooseBeside l.both.a.journal l.both.b.journal h) l.both.loose
  -- of each socket there is one end of either kind
  pub apart : IsDistinct same_end (ends_of l.both)
  pub named : (near : Bool) → KeepsRanges (l.facts near)
  pub seen : AllByRecursion (λ (t : TrailNow). HasAddrRanges (opener_of t.socket)) (trails_of l.both)
  pub peers : (k : SocketId) → goes_to (l.facts true).peer k ≡ true → goes_to (l.facts false).peer k ≡ false

-- no node marks its side down at any time
abbrev pub AreUp : LinkNow → Type 0
AreUp l = (near : Bool) → AllByRecursion IsNoDown (items_in (l.plans near) (part_of l.both near))

pub record IsLink (l : LinkNow) : Type 0 where
  pub sides : (near : Bool) → IsSideOf (l.facts near) (l.plans near) (part_of l.both near)
  pub joined : AreJoined l

-- ---- an order of them

abbrev pub items_by : LinkNow → (near : Bool) → List JournalItem
items_by l near = items_in (l.plans near) (part_of l.both near)

-- the entries of both journals and of the halves in an order of their strands
abbrev pub order_of : LinkNow → List ℕ → List OrderEntry
order_of l order = entries_from (items_by l) (actors_of l.both) (map (λ (a : Actor). 0) (actors_of l.both)) order

-- it is one by the rule of weaving, with the bytes of all ends
pub record IsOrderOf (l : LinkNow) (order : List ℕ) : Type 0 where
  pub sockets : List SocketBytes
  pub rows : map row_now sockets ≡ rows_of (ends_of l.both)
  pub woven : IsWoven (record { strands = strands_of l.both; bytes = bytes_of sockets }) order
