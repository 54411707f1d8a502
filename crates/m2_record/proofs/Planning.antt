-- A record's plan goes on.
use Rattle.std.proofs.Common.{◌≡◌, ℕ, ◌+◌, ◌<◌, ◌^◌, true, false, List, [], ◌∷◌, ◌++◌, length, map, Result, Ok, Err, refl, sym, ap, subst, ◌∙◌, arith, length-append, append_assoc, Option, Some, None}
use Rattle.std.specs.List.{AllByRecursion}
use Rattle.std.specs.Option.{is_some, option_to_list}
use Rattle.std.proofs.lemmas.List.{map-append}
use Rattle.m2_bytes.specs.Items.{Holding, Pushes}
use Rattle.m2_journal.specs.declared.facts.PlanStep.{PlanStep}
use Rattle.m2_journal.specs.Plan.{Planned, planned}
use Rattle.m2_journal.specs.Replay.{IsReplay}
use Rattle.m2_dispatch.specs.declared.parcel.Parcel.{Parcel}
use Rattle.m2_record.specs.Calls.{planned_too}
use Rattle.m2_record.specs.IsRecord.{CanBePlanned, IsFrom, IsRecord}
use Rattle.m2_record.specs.RecordNow.{RecordNow, delivery_of, ends_of}
use Rattle.m2_record.specs.Sources.{sources_of}
use Rattle.m2_record.proofs.Ends.{ends-same}
use Rattle.m2_record.proofs.Keeping.{ground, replay-stays}
use Rattle.m2_record.proofs.Opens.{in_room}
use Rattle.m2_bytes.proofs.m2_lemmas.Lists.{all_append}
use Rattle.m2_bytes.proofs.m2_lemmas.Booleans.{false_isnt_true}

pub more-planned : (r : RecordNow) (x : PlanStep) → IsRecord r → CanBePlanned x → length r.plan + 1 < 2 ^ 32 → IsRecord (planned_too x r)
more-planned r x h can few = record {
  state = h.state;
  at_state = record {
    replay = subst (λ (p : List Planned). IsReplay r.core.facts (sources_of (ground p (ends_of r) r.trails)) r.journal h.state) (sym (map-append planned r.plan (x ∷ [])))
        (replay-stays r.journal (map planned r.plan) (map planned r.plan ++ planned x ∷ []) (ends_of r) (ends_of r) r.trails (planned x ∷ [], refl) (ends-same r.journal (ends_of r)) r.core.facts h.state h.at_state.replay);
    core = h.at_state.core;
    steps = h.at_state.steps;
    reach = h.at_state.reach;
    parcels = h.at_state.parcels;
    spent = h.at_state.spent;
    feed = h.at_state.feed;
    room = h.at_state.room;
    few = (let l = length-append r.plan (x ∷ []) in omega (arith, l, few));
  };
  settled = h.settled;
  closed = h.closed;
  trails = h.trails;
  kept = record {
    ends = h.kept.ends;
    whole = h.kept.whole;
    parcels = h.kept.parcels;
    plan = all_append CanBePlanned r.plan (x ∷ []) h.kept.plan (can, tt);
    queue = h.kept.queue;
    waits = h.kept.waits;
    held = h.kept.held;
  };
}

-- as the code comes to it
pub plan-after : (answer : Result (Unit {0}) PlanStep) (r : RecordNow) (x : PlanStep) (old new : Holding PlanStep) → IsRecord r → CanBePlanned x → length r.plan + 1 < 2 ^ 32 → old.items ≡ r.plan →
    Pushes answer old new x → IsRecord (record r { plan = new.items })
plan-after (Ok _) r x old new h can few e p = rw (p.0, e) (more-planned r x h can few)
plan-after (Err _) r x old new h can few e p = rw (p.1, e) h

-- ---- parcels go, in order

handed-first : (r : RecordNow) (x : Parcel) (rest : List Parcel) (n : ℕ) → IsRecord r → r.parcels ≡ x ∷ rest →
    IsRecord (record r { parcels = rest; handed = r.handed + 1; room = record r.room { parcels = n } })
handed-first r x rest n h e = record {
  state = h.state;
  at_state = record {
    replay = h.at_state.replay;
    core = h.at_state.core;
    steps = h.at_state.steps;
    reach = h.at_state.reach;
    parcels = (
      h.at_state.parcels.0 ++ delivery_of x ∷ [],
      length-append h.at_state.parcels.0 (delivery_of x ∷ []) ∙ ap (λ m. m + 1) h.at_state.parcels.1,
      h.at_state.parcels.2 ∙ ap (λ (l : List Parcel). h.at_state.parcels.0 ++ map delivery_of l) e ∙ sym (append_assoc h.at_state.parcels.0 (delivery_of x ∷ []) (map delivery_of rest)),
    );
    spent = h.at_state.spent;
    feed = h.at_state.feed;
    room = h.at_state.room;
    few = h.at_state.few;
  };
  settled = h.settled;
  closed = h.closed;
  trails = h.trails;
  kept = record {
    ends = h.kept.ends;
    whole = h.kept.whole;
    parcels = (subst (AllByRecursion (IsFrom r.place)) e h.kept.parcels).1;
    plan = h.kept.plan;
    queue = h.kept.queue;
    waits = h.kept.waits;
    held = h.kept.held;
  };
}

-- a mark more
one-mark : (before after piece : List ℕ) → after ≡ before ++ piece → length piece ≡ 1 → length after ≡ length before + 1
one-mark before after piece e one = ap length e ∙ length-append before piece ∙ ap (λ n. length before + n) one

pub handed-one : (r : RecordNow) (o : Option Parcel) (rest : List Parcel) (before after piece : List ℕ) (n : ℕ) → IsRecord r → r.parcels ≡ option_to_list o ++ rest → is_some o ≡ true →
    r.handed ≡ length before → after ≡ before ++ piece → length piece ≡ 1 →
    IsRecord (record r { parcels = rest; handed = length after; room = record r.room { parcels = n } })
handed-one r (Some x) rest before after piece n h e some was marks one = rw (one-mark before after piece marks one, sym was) (handed-first r x rest n h e)
handed-one r None rest before after piece n h e some was marks one = absurd (false_isnt_true some)

pub handed-none : (r : RecordNow) (o : Option Parcel) (rest : List Parcel) (n : ℕ) → IsRecord r → r.parcels ≡ option_to_list o ++ rest → is_some o ≡ false →
    IsRecord (record r { parcels = rest; room = record r.room { parcels = n } })
handed-none r None rest n h e none = rw (sym e) (in_room r (record r.room { parcels = n }) refl h)
handed-none r (Some x) rest n h e none = absurd (false_isnt_true (sym none))
