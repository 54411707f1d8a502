-- What calls leave of a record is told by the record without room.
use Rattle.std.proofs.Common.{◌≡◌, ℕ, Bool, false, ◌++◌, Option, Some, sym, ◌∙◌, ap}
use Rattle.std.specs.Option.{option_map, option_to_list}
use Rattle.m2_script.specs.m2_center.m2_core.Calls.{after_down}
use Rattle.m2_script.specs.m2_center.m2_core.LiveCalls.{after_fault}
use Rattle.m2_script.specs.m2_center.m2_core.LiveNow.{LiveNow, is_waiting}
use Rattle.m2_script.specs.m2_center.m2_core.Waits.{stepped}
use Rattle.m2_fabric.specs.End.{SeenEnd}
use Rattle.m2_script.specs.m2_center.m2_feed.FeedNow.{Room}
use Rattle.m2_script.specs.m2_center.m2_feed.m2_session.Steps.{step_of}
use Rattle.m2_script.specs.m2_center.m2_feed.m2_session.declared.event.Effects.{Effects}
use Rattle.m2_script.specs.m2_center.m2_feed.m2_session.declared.event.Event.TheVariants as event
use Rattle.m2_script.specs.m2_center.m2_record.Calls.{Breaks, GoesDown, after_breaking, after_going_down, closed_entries, left_by, told_parcels, with_down}
use Rattle.m2_script.specs.m2_center.m2_record.RecordNow.{RecordNow}
use Rattle.m2_exact.proofs.Cores as cores
use Rattle.m2_exact.specs.Cores.{roomless, roomless_feed}
use Rattle.m2_exact.specs.Records.{plain}

-- no room
abbrev pub none : Room → Room
none r = record { payload = 0; text = 0 }

abbrev pub plain_live : LiveNow → LiveNow
plain_live l = record l { feed = option_map roomless_feed l.feed }

-- ---- a step of the session

pub left : (e : Effects) (r : RecordNow) → plain (left_by e r) ≡ left_by e (plain r)
left e r =
    ap (λ (x : Option SeenEnd). record (plain r) {
      journal = r.journal ++ closed_entries x;
      spent = r.spent ++ option_to_list x;
      parcels = r.parcels ++ told_parcels r.place e.discard e.remote_reset;
    }) (cores.closed_seen none e.close r.core.live.feed)

going_down : (planned : Bool) (r : RecordNow) → plain (after_going_down planned r) ≡ after_going_down planned (plain r)
going_down planned r =
    let e = (step_of r.core.live.session event.MarkedDown).effects in
    ap (λ (x : RecordNow). record x { core = roomless (after_down r.core); held = false }) (left e (with_down planned r))
    ∙ ap (λ (l : LiveNow). record (left_by e (with_down planned (plain r))) { core = record r.core { live = l; dials = false }; held = false })
    (cores.tells_seen none (Some event.MarkedDown) r.core.live)

pub goes_down : (planned : Bool) (r s new behind : RecordNow) → plain r ≡ plain s → GoesDown planned r new → GoesDown planned s behind → plain new ≡ plain behind
goes_down planned r s new behind like h k =
    ap plain h ∙ going_down planned r ∙ ap (after_going_down planned) like ∙ sym (going_down planned s) ∙ sym (ap plain k)

pub breaking : (now : ℕ) (r : RecordNow) → plain (after_breaking now r) ≡ after_breaking now (plain r)
breaking now r =
    let e = (step_of r.core.live.session (event.Faulted (is_waiting r.core.live))).effects in
    ap (λ (x : RecordNow). record x {
      core = roomless (record r.core { live = after_fault r.core.live });
      waits = stepped r.core.facts.node now r.core.live.session.phase (after_fault r.core.live).session.phase r.waits;
      held = false;
    }) (left e r)
    ∙ ap (λ (l : LiveNow). record (left_by e (plain r)) {
      core = record r.core { live = l };
      waits = stepped r.core.facts.node now r.core.live.session.phase l.session.phase r.waits;
      held = false;
    }) (cores.tells_seen none (Some (event.Faulted (is_waiting r.core.live))) r.core.live)

pub breaks : (now : ℕ) (r s new behind : RecordNow) → plain r ≡ plain s → Breaks now r new → Breaks now s behind → plain new ≡ plain behind
breaks now r s new behind like h k =
    ap plain h ∙ breaking now r ∙ ap (after_breaking now) like ∙ sym (breaking now s) ∙ sym (ap plain k)
