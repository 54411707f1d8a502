-- A record is marked down.
use Rattle.std.proofs.Common.{◌≡◌, ℕ, ◌+◌, ◌<◌, ◌^◌, if◌then◌else◌, Bool, true, false, List, [], ◌∷◌, ◌++◌, map, Option, Some, None, refl, sym, ap, subst, ◌∙◌, arith}
use Rattle.std.specs.Option.{option_to_list}
use Rattle.std.proofs.lemmas.Option.{slice_get_within}
use Rattle.m2_core.specs.Effects.{IsAftermath, closed_if}
use Rattle.m2_core.specs.Agrees.{Agrees, LeadsOn, MayCome}
use Rattle.m2_core.specs.Calls.{after_down, is_exhausted}
use Rattle.m2_core.specs.CoreNow.{CoreNow}
use Rattle.m2_dispatch.specs.declared.parcel.Parcel.{Parcel}
use Rattle.m2_fabric.specs.declared.socket.SocketId.{SocketId}
use Rattle.m2_fabric.specs.End.{SeenEnd}
use Rattle.m2_feed.specs.FeedNow.{FeedNow}
use Rattle.m2_journal.specs.declared.entry.Entry.{Entry}
use Rattle.m2_journal.specs.declared.entry.Entry.TheVariants as entry
use Rattle.m2_journal.specs.declared.facts.PlanStep.{PlanStep}
use Rattle.m2_journal.specs.declared.facts.PlanStep.TheVariants as step
use Rattle.m2_journal.specs.Items as item
use Rattle.m2_journal.specs.Items.{item_of, passed, reach_of}
use Rattle.m2_journal.specs.Lawful.{IsDown, Lawful}
use Rattle.m2_journal.specs.Plan.{Planned, planned}
use Rattle.m2_journal.specs.Replay.{IsReplay}
use Rattle.m2_journal.specs.State.{State}
use Rattle.m2_journal.specs.Steps.{after, goes_down, tells}
use Rattle.m2_session.specs.declared.event.Effects.{Effects}
use Rattle.m2_session.specs.declared.event.Event.TheVariants as event
use Rattle.m2_session.specs.declared.session.Session.{Session}
use Rattle.m2_session.specs.Steps.{step_of}
use Rattle.m2_record.specs.Calls.{IsDownNext, KeepsEnds, MayGoDown, after_going_down, closed_entries, told_parcels}
use Rattle.m2_record.specs.Due.{next_step}
use Rattle.m2_record.specs.Entered.{MovesNothing, StepIsThere}
use Rattle.m2_record.specs.IsRecord.{FeedHasRoom, FeedIsOpen, FeedIsWhole, IsRecord, IsReplayedTo, IsWellKept, feeds_in}
use Rattle.m2_record.specs.RecordNow.{RecordNow, Rooms, ends_of, feed_end, grounds_of, ids_of, speaks_of}
use Rattle.m2_record.specs.Sources.{sources_of}
use Rattle.m2_record.specs.TakenTrails.{HaveTrails}
use Rattle.m2_record.proofs.Entering.{reach-more}
use Rattle.m2_record.proofs.Keeping.{as-planned, ground, one-more, replay-stays}
use Rattle.m2_record.proofs.FeedLeft.{KeepsRoom, SpentIs, closed-left, closes-entries, ends-left, open-left, parcels-left, room-left, spent-is}
use Rattle.m2_record.proofs.Kept.{feeds-more, ids-left, tells-fits, told-from, whole-left}
use Rattle.m2_record.proofs.Opens.{closed-more, still-open}
use Rattle.m2_record.proofs.Taking.{planned-next}
use Rattle.m2_record.proofs.Telling.{Beside, beside, feed_left, spent_if, tells-beside, tells-feed, told_by}
use Rattle.m2_record.proofs.Trailing.{closed-behind, ends-go-on, trails-more}
use Rattle.m2_bytes.proofs.m2_lemmas.Booleans.{false_isnt_true}

-- a Down may come: it is the plan's next step, or a number that is needed is above the greatest
abbrev pub MayGo : (planned : Bool) → RecordNow → CoreNow → Type 0
MayGo true r c = next_step r ≡ Some step.Down
MayGo false r c = MayCome (item.down false None) r.core

abbrev pub LeadsDown : Bool → CoreNow → CoreNow → Type 0
LeadsDown planned old new = (p : Option Planned) → LeadsOn (item.down planned p) old new

module _ (r : RecordNow) (s : State) (h : IsReplayedTo s r) where
  lawful : (p : Bool) → MayGo p r r.core → Lawful r.core.facts (item_of (speaks_of r) (reach_of r.journal) (entry.Down p)) s
  lawful true next = subst IsDown (sym (planned-next r s h step.Down next)) tt
  lawful false may = may s h.core

  there : (p : Bool) → MayGo p r r.core → StepIsThere (speaks_of r) r.journal (entry.Down p)
  there true next = slice_get_within (map planned r.plan) (reach_of r.journal).steps (planned step.Down) (planned-next r s h step.Down next)
  there false may = tt

  leads-to : (p : Bool) → after r.core.facts (item_of (speaks_of r) (reach_of r.journal) (entry.Down p)) s ≡ goes_down p (tells event.MarkedDown s)
  leads-to true = refl
  leads-to false = refl

  agrees : (p : Bool) (c : CoreNow) → LeadsDown p r.core c → Agrees c (goes_down p (tells event.MarkedDown s))
  agrees p c leads = leads None s h.core

  counted-steps : (p : Bool) (n : ℕ) → r.steps ≡ n → (if p then r.steps + 1 else r.steps) ≡ (if p then n + 1 else n)
  counted-steps true n e = ap (λ m. m + 1) e
  counted-steps false n e = e

  counted-reach : (p : Bool) (n : ℕ) → (reach_of r.journal).steps ≡ n → (passed (entry.Down p) (reach_of r.journal)).steps ≡ (if p then n + 1 else n)
  counted-reach true n e = ap (λ m. m + 1) e
  counted-reach false n e = e

  abbrev left : Effects
  left = (step_of r.core.live.session event.MarkedDown).effects

  abbrev left_there : Effects
  left_there = (step_of s.session event.MarkedDown).effects

  same-left : left_there ≡ left
  same-left = ap (λ (x : Session). (step_of x event.MarkedDown).effects) (sym h.core.session)

  told : beside (tells event.MarkedDown s) ≡ record (beside s) { spent = spent_if left.close s.feed s.spent; deliveries = s.deliveries ++ told_by left }
  told = subst (λ (e : Effects). beside (tells event.MarkedDown s) ≡ record (beside s) { spent = spent_if e.close s.feed s.spent; deliveries = s.deliveries ++ told_by e }) same-left (tells-beside event.MarkedDown s)

  feed-gone : (after_down r.core).live.feed ≡ feed_left left.close r.core.live.feed
  feed-gone = tells-feed event.MarkedDown r.core.live

  replay-on : (p : Bool) → MayGo p r r.core → IsReplay r.core.facts (speaks_of r) (r.journal ++ entry.Down p ∷ []) (goes_down p (tells event.MarkedDown s))
  replay-on p may = subst (IsReplay r.core.facts (speaks_of r) (r.journal ++ entry.Down p ∷ [])) (leads-to p)
      (one-more r.core.facts (grounds_of r) r.journal (entry.Down p) s h.replay (moves-nothing p) (there p may) (lawful p may))
    where
      moves-nothing : (p : Bool) → MovesNothing (entry.Down p)
      moves-nothing p = tt

  replay-there : (p : Bool) → MayGo p r r.core →
      IsReplay r.core.facts (sources_of (ground (map planned r.plan) (feed_end (after_down r.core).live.feed ++ (r.spent ++ option_to_list (closed_if left.close r.core.live.feed))) r.trails)) (r.journal ++ entry.Down p ∷ []) (goes_down p (tells event.MarkedDown s))
  replay-there p may =
      subst (λ (v : Option FeedNow). IsReplay r.core.facts (sources_of (ground (map planned r.plan) (feed_end v ++ (r.spent ++ option_to_list (closed_if left.close r.core.live.feed))) r.trails)) (r.journal ++ entry.Down p ∷ []) (goes_down p (tells event.MarkedDown s))) (sym feed-gone)
      (replay-stays (r.journal ++ entry.Down p ∷ []) (map planned r.plan) (map planned r.plan) (ends_of r)
      (feed_end (feed_left left.close r.core.live.feed) ++ (r.spent ++ option_to_list (closed_if left.close r.core.live.feed))) r.trails (as-planned (map planned r.plan))
      (ends-left left.close r.core.live.feed r.spent (r.journal ++ entry.Down p ∷ []) (still-open r.spent r.journal (entry.Down p) r.core.live.feed refl h.feed))
      r.core.facts (goes_down p (tells event.MarkedDown s)) (replay-on p may))

  abbrev between : Bool → Rooms → RecordNow
  between p room = record r {
    core = after_down r.core;
    journal = r.journal ++ entry.Down p ∷ [];
    steps = (if p then r.steps + 1 else r.steps);
    spent = r.spent ++ option_to_list (closed_if left.close r.core.live.feed);
    parcels = r.parcels ++ told_parcels r.place left.discard left.remote_reset;
    held = false;
    room = room;
  }

  kept-between : (p : Bool) (room : Rooms) → IsWellKept r → IsWellKept (between p room)
  kept-between p room k = record {
    ends = subst (λ (v : Option FeedNow). ids_of ((r.spent ++ option_to_list (closed_if left.close r.core.live.feed)) ++ feed_end v) ≡ feeds_in (r.journal ++ entry.Down p ∷ [])) (sym feed-gone)
        (ids-left left.close r.core.live.feed r.spent ∙ k.ends ∙ sym (feeds-more r.journal (entry.Down p) refl));
    whole = subst FeedIsWhole (sym feed-gone) (whole-left left.close r.core.live.feed k.whole);
    parcels = told-from r.place r.parcels left.discard left.remote_reset k.parcels;
    plan = k.plan;
    queue = tells-fits event.MarkedDown r.core.live k.queue;
    waits = k.waits;
    held = λ e. absurd (false_isnt_true e);
  }

  between-is : (p : Bool) (room : Rooms) → MayGo p r r.core → LeadsDown p r.core (after_down r.core) → KeepsRoom left.close r.room.ends room.ends → IsReplayedTo (goes_down p (tells event.MarkedDown s)) (between p room)
  between-is p room may leads keeps = record {
    replay = replay-there p may;
    core = agrees p (after_down r.core) leads;
    steps = counted-steps p (tells event.MarkedDown s).steps (h.steps ∙ sym (ap (λ (b : Beside). b.steps) told));
    reach = ap (λ q. q.steps) (reach-more r.journal (entry.Down p)) ∙ counted-reach p (tells event.MarkedDown s).steps (h.reach ∙ sym (ap (λ (b : Beside). b.steps) told));
    parcels = parcels-left r.handed r.parcels s.deliveries (tells event.MarkedDown s).deliveries r.place left h.parcels (ap (λ (b : Beside). b.deliveries) told);
    spent = closed-left left.close r.core.live.feed r.spent h.spent;
    feed = subst (λ (v : Option FeedNow). FeedIsOpen (r.spent ++ option_to_list (closed_if left.close r.core.live.feed)) (r.journal ++ entry.Down p ∷ []) v) (sym feed-gone)
        (open-left left.close r.core.live.feed r.spent (r.journal ++ entry.Down p ∷ []) (still-open r.spent r.journal (entry.Down p) r.core.live.feed refl h.feed));
    room = subst (λ (v : Option FeedNow). FeedHasRoom room.ends v) (sym feed-gone) (room-left left.close r.core.live.feed r.room.ends room.ends keeps h.room);
    few = h.few;
  }

  trails-between : (p : Bool) → HaveTrails r.core.facts.node.entity (ends_of r) r.journal r.trails →
      HaveTrails r.core.facts.node.entity (feed_end (after_down r.core).live.feed ++ (r.spent ++ option_to_list (closed_if left.close r.core.live.feed))) (r.journal ++ entry.Down p ∷ []) r.trails
  trails-between p t =
      subst (λ (v : Option FeedNow). HaveTrails r.core.facts.node.entity (feed_end v ++ (r.spent ++ option_to_list (closed_if left.close r.core.live.feed))) (r.journal ++ entry.Down p ∷ []) r.trails) (sym feed-gone)
      (trails-more r.core.facts.node.entity (ends_of r) (feed_end (feed_left left.close r.core.live.feed) ++ (r.spent ++ option_to_list (closed_if left.close r.core.live.feed))) r.journal (entry.Down p) r.trails
      (ends-go-on r.journal (ends_of r) (feed_end (feed_left left.close r.core.live.feed) ++ (r.spent ++ option_to_list (closed_if left.close r.core.live.feed))) (ends-left left.close r.core.live.feed r.spent r.journal h.feed)) refl t)

  down-spent : (p : Bool) → s.spent ≡ [] → SpentIs (closed_if left.close r.core.live.feed) (after_down r.core).live.feed (goes_down p (tells event.MarkedDown s)).spent
  down-spent p none = subst (λ (v : Option FeedNow). SpentIs (closed_if left.close r.core.live.feed) v (tells event.MarkedDown s).spent) (sym feed-gone)
      (subst (λ (l : List SocketId). SpentIs (closed_if left.close r.core.live.feed) (feed_left left.close r.core.live.feed) l) (sym (ap (λ (b : Beside). b.spent) told))
      (spent-is left.close r.core.facts s r.core.live.feed s.feed s.spent none h.core.feed))

pub went-down : (p : Bool) (r : RecordNow) (c : CoreNow) (room : Rooms) → IsRecord r → MayGo p r r.core → KeepsRoom (step_of r.core.live.session event.MarkedDown).effects.close r.room.ends room.ends →
    c ≡ after_down r.core → LeadsDown p r.core c → IsRecord (record (after_going_down p r) { core = c; room = room })
went-down p r c room h may keeps e leads =
    subst (λ (d : CoreNow). LeadsDown p r.core d → IsRecord (record (after_going_down p r) { core = d; room = room })) (sym e)
    (λ more. closes-entries (between r h.state h.at_state p room) (goes_down p (tells event.MarkedDown h.state)) (closed_if (step_of r.core.live.session event.MarkedDown).effects.close r.core.live.feed)
    (between-is r h.state h.at_state p room may more keeps) (kept-between r h.state h.at_state p room h.kept) (down-spent r h.state h.at_state p h.settled)
    (closed-behind (r.journal ++ entry.Down p ∷ []) r.spent (closed_if (step_of r.core.live.session event.MarkedDown).effects.close r.core.live.feed) (closed-more r.journal (entry.Down p) refl ∙ h.closed))
    (trails-between r h.state h.at_state p h.trails)) leads

-- ---- as the code comes to it

down-next : (o : Option PlanStep) → IsDownNext o → o ≡ Some step.Down
down-next (Some step.Down) h = refl
down-next (Some (step.Post m)) h = absurd h
down-next (Some step.Dial) h = absurd h
down-next None h = absurd h

may-go : (p : Bool) (r : RecordNow) → MayGoDown p r → (is_exhausted r.core ≡ true → (o : Option Planned) → MayCome (item.down false o) r.core) → MayGo p r r.core
may-go true r h may = down-next (next_step r) h
may-go false r h may = may h None

pub keeps-room : (close : Bool) (feed : Option FeedNow) (closed : Option SeenEnd) (old new : ℕ) → closed ≡ closed_if close feed → KeepsEnds closed old new → KeepsRoom close old new
keeps-room true feed closed old new e k = tt
keeps-room false feed closed old new e k = subst (λ (o : Option SeenEnd). KeepsEnds o old new) e k

pub one-more-step : (p : Bool) (r : RecordNow) → IsRecord r → MayGoDown p r → p ≡ true → r.steps + 1 < 2 ^ 32
one-more-step true r h may e =
    let within = slice_get_within r.plan r.steps step.Down (down-next (next_step r) may) in
    let few = h.at_state.few in
    omega (arith, within, few)
one-more-step false r h may e = absurd (false_isnt_true e)

pub down-after : (p : Bool) (r : RecordNow) (c : CoreNow) (journal : List Entry) (steps : ℕ) (spent : List SeenEnd) (parcels : List Parcel) (room : Rooms) (closed : Option SeenEnd) (discarded remote_reset : Bool) →
    IsRecord r → MayGoDown p r → (is_exhausted r.core ≡ true → (o : Option Planned) → MayCome (item.down false o) r.core) → c ≡ after_down r.core → LeadsDown p r.core c →
    IsAftermath (step_of r.core.live.session event.MarkedDown).effects r.core.live.feed closed discarded remote_reset →
    journal ≡ (r.journal ++ entry.Down p ∷ []) ++ closed_entries closed → steps ≡ (if p then r.steps + 1 else r.steps) → spent ≡ r.spent ++ option_to_list closed →
    parcels ≡ r.parcels ++ told_parcels r.place discarded remote_reset → KeepsEnds closed r.room.ends room.ends →
    IsRecord (record r { core = c; journal = journal; steps = steps; spent = spent; parcels = parcels; held = false; room = room })
down-after p r c journal steps spent parcels room closed discarded remote_reset h may exhausted value leads after_it j st sp pa ends =
    rw (j, st, sp, pa, after_it.end, after_it.thrown_away, after_it.reset)
    (went-down p r c room h (may-go p r may exhausted)
    (keeps-room (step_of r.core.live.session event.MarkedDown).effects.close r.core.live.feed closed r.room.ends room.ends after_it.end ends) value leads)
