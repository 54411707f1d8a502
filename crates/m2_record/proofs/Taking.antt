-- Steps of the plan that make one entry: a dial and a post.
use Rattle.std.proofs.Common.{◌≡◌, ℕ, ◌+◌, ◌<◌, [], ◌∷◌, ◌++◌, length, map, Option, Some, None, refl, sym, ap, subst, ◌∙◌}
use Rattle.std.specs.Prelude.{slice_get}
use Rattle.std.specs.Option.{option_map}
use Rattle.std.proofs.lemmas.Option.{slice_get-map, slice_get_within}
use Rattle.m2_core.specs.LiveCalls.{after_posted}
use Rattle.m2_core.specs.Agrees.{LeadsOn}
use Rattle.m2_core.specs.Calls.{after_dial}
use Rattle.m2_core.specs.CoreNow.{CoreNow}
use Rattle.m2_journal.specs.declared.entry.Entry.{Entry}
use Rattle.m2_journal.specs.declared.entry.Entry.TheVariants as entry
use Rattle.m2_journal.specs.declared.facts.PlanStep.{PlanStep}
use Rattle.m2_journal.specs.declared.facts.PlanStep.TheVariants as step
use Rattle.m2_journal.specs.Items as item
use Rattle.m2_journal.specs.Items.{passed, reach_of}
use Rattle.m2_journal.specs.Lawful.{IsDial, IsPost}
use Rattle.m2_journal.specs.Plan.{Planned, planned, to_post}
use Rattle.m2_journal.specs.Replay.{IsReplay}
use Rattle.m2_journal.specs.State.{State}
use Rattle.m2_journal.specs.Steps.{after, wants_dial}
use Rattle.m2_dispatch.specs.m2_message.declared.message.Message.{Message}
use Rattle.m2_dispatch.specs.m2_message.Message.{content_of}
use Rattle.m2_bytes.specs.Items.{Holding}
use Rattle.m2_record.specs.Calls.{IsDialNext}
use Rattle.m2_record.specs.Due.{next_step}
use Rattle.m2_record.specs.IsRecord.{CanBePlanned, IsRecord, IsReplayedTo, IsWellKept}
use Rattle.m2_record.specs.RecordNow.{RecordNow, Rooms, ends_of, grounds_of, speaks_of}
use Rattle.m2_record.proofs.Entering.{reach-more}
use Rattle.m2_record.proofs.Keeping.{one-more}
use Rattle.m2_record.proofs.Kept.{all-get, feeds-more, posted-fits}
use Rattle.m2_record.proofs.Opens.{closed-more, in_room, still-open}
use Rattle.m2_record.proofs.Trailing.{trails-behind}

module _ (r : RecordNow) (s : State) (h : IsReplayedTo s r) (x : PlanStep) (next : next_step r ≡ Some x) where
  pub planned-next : slice_get (map planned r.plan) (reach_of r.journal).steps ≡ Some (planned x)
  planned-next = ap (slice_get (map planned r.plan)) (h.reach ∙ sym h.steps) ∙ slice_get-map planned r.plan r.steps ∙ ap (option_map planned) next

  pub step-there : (reach_of r.journal).steps < length (map planned r.plan)
  step-there = slice_get_within (map planned r.plan) (reach_of r.journal).steps (planned x) planned-next

  pub counted : (e : Entry) → (passed e (reach_of r.journal)).steps ≡ (reach_of r.journal).steps + 1 → (reach_of (r.journal ++ e ∷ [])).steps ≡ s.steps + 1
  counted e h2 = ap (λ p. p.steps) (reach-more r.journal e) ∙ h2 ∙ ap (λ n. n + 1) h.reach

-- ---- a dial

dialled : (r : RecordNow) (s : State) → IsReplayedTo s r → next_step r ≡ Some step.Dial → ((p : Option Planned) → LeadsOn (item.dial p) r.core (after_dial r.core)) →
    IsReplayedTo (wants_dial s) (record r { core = after_dial r.core; journal = r.journal ++ entry.Dial ∷ []; steps = r.steps + 1 })
dialled r s h next leads = record {
  replay = one-more r.core.facts (grounds_of r) r.journal entry.Dial s h.replay tt (step-there r s h step.Dial next) (subst IsDial (sym (planned-next r s h step.Dial next)) tt);
  core = leads (slice_get (map planned r.plan) (reach_of r.journal).steps) s h.core;
  steps = ap (λ n. n + 1) h.steps;
  reach = counted r s h step.Dial next entry.Dial refl;
  parcels = h.parcels;
  spent = h.spent;
  feed = still-open r.spent r.journal entry.Dial r.core.live.feed refl h.feed;
  room = h.room;
  few = h.few;
}

kept-dialled : (r : RecordNow) → IsWellKept r → IsWellKept (record r { core = after_dial r.core; journal = r.journal ++ entry.Dial ∷ []; steps = r.steps + 1 })
kept-dialled r k = record { ends = k.ends ∙ sym (feeds-more r.journal entry.Dial refl); whole = k.whole; parcels = k.parcels; plan = k.plan; queue = k.queue; waits = k.waits; held = k.held }

pub took-dial : (r : RecordNow) (c : CoreNow) (room : Rooms) → IsRecord r → room.ends ≡ r.room.ends → next_step r ≡ Some step.Dial → c ≡ after_dial r.core → ((p : Option Planned) → LeadsOn (item.dial p) r.core c) →
    IsRecord (record r { core = c; journal = r.journal ++ entry.Dial ∷ []; steps = r.steps + 1; room = room })
took-dial r c room h ends next e leads =
    subst (λ (d : CoreNow). ((p : Option Planned) → LeadsOn (item.dial p) r.core d) → IsRecord (record r { core = d; journal = r.journal ++ entry.Dial ∷ []; steps = r.steps + 1; room = room })) (sym e)
    (λ more. in_room (record r { core = after_dial r.core; journal = r.journal ++ entry.Dial ∷ []; steps = r.steps + 1 }) room ends
    (record {
      state = wants_dial h.state;
      at_state = dialled r h.state h.at_state next more;
      settled = h.settled;
      closed = closed-more r.journal entry.Dial refl ∙ h.closed;
      trails = trails-behind r.core.facts.node.entity (ends_of r) r.journal entry.Dial r.trails refl h.trails;
      kept = kept-dialled r h.kept;
    })) leads

-- ---- a post

abbrev post_core : Message → CoreNow → CoreNow
post_core m c = record c { live = after_posted (content_of m) c.live }

abbrev posted : Message → RecordNow → CoreNow → ℕ → RecordNow
posted m r c now = record r { core = c; journal = r.journal ++ entry.Post r.steps ∷ []; steps = r.steps + 1; last = now }

posts : (r : RecordNow) (s : State) (m : Message) (now : ℕ) → IsReplayedTo s r → next_step r ≡ Some (step.Post m) →
    ((place : ℕ) → LeadsOn (item.post place (Some (to_post (content_of m)))) r.core (post_core m r.core)) →
    IsReplayedTo (after r.core.facts (item.post r.steps (Some (to_post (content_of m)))) s) (posted m r (post_core m r.core) now)
posts r s m now h next leads = record {
  replay = subst (λ (p : Option Planned). IsReplay r.core.facts (speaks_of r) (r.journal ++ entry.Post r.steps ∷ []) (after r.core.facts (item.post r.steps p) s)) there
      (one-more r.core.facts (grounds_of r) r.journal (entry.Post r.steps) s h.replay tt (step-there r s h (step.Post m) next) (h.steps, subst IsPost (sym there) tt));
  core = leads r.steps s h.core;
  steps = ap (λ n. n + 1) h.steps;
  reach = counted r s h (step.Post m) next (entry.Post r.steps) refl;
  parcels = h.parcels;
  spent = h.spent;
  feed = still-open r.spent r.journal (entry.Post r.steps) r.core.live.feed refl h.feed;
  room = h.room;
  few = h.few;
}
  where
    there : slice_get (map planned r.plan) (reach_of r.journal).steps ≡ Some (to_post (content_of m))
    there = planned-next r s h (step.Post m) next

kept-posted : (r : RecordNow) (m : Message) (now : ℕ) → next_step r ≡ Some (step.Post m) → IsWellKept r → IsWellKept (posted m r (post_core m r.core) now)
kept-posted r m now next k =
    let can : CanBePlanned (step.Post m) = all-get CanBePlanned r.steps r.plan (step.Post m) k.plan next in
    record {
      ends = k.ends ∙ sym (feeds-more r.journal (entry.Post r.steps) refl);
      whole = k.whole;
      parcels = k.parcels;
      plan = k.plan;
      queue = posted-fits r.core.live.out.queue (content_of m) (record { front = can.front; middle = can.middle; tail = can.tail }) k.queue;
      waits = k.waits;
      held = k.held;
    }

pub took-post : (r : RecordNow) (c : CoreNow) (m : Message) (now : ℕ) (room : Rooms) → IsRecord r → room.ends ≡ r.room.ends → next_step r ≡ Some (step.Post m) →
    c ≡ record r.core { live = after_posted (content_of m) r.core.live } → ((place : ℕ) → LeadsOn (item.post place (Some (to_post (content_of m)))) r.core c) →
    IsRecord (record r { core = c; journal = r.journal ++ entry.Post r.steps ∷ []; steps = r.steps + 1; last = now; room = room })
took-post r c m now room h ends next e leads =
    subst (λ (d : CoreNow). ((place : ℕ) → LeadsOn (item.post place (Some (to_post (content_of m)))) r.core d) → IsRecord (record (posted m r d now) { room = room })) (sym e)
    (λ more. in_room (posted m r (post_core m r.core) now) room ends
    (record {
      state = after r.core.facts (item.post r.steps (Some (to_post (content_of m)))) h.state;
      at_state = posts r h.state m now h.at_state next more;
      settled = h.settled;
      closed = closed-more r.journal (entry.Post r.steps) refl ∙ h.closed;
      trails = trails-behind r.core.facts.node.entity (ends_of r) r.journal (entry.Post r.steps) r.trails refl h.trails;
      kept = kept-posted r m now next h.kept;
    })) leads

-- ---- as the code comes to them

dial-next : (o : Option PlanStep) → IsDialNext o → o ≡ Some step.Dial
dial-next (Some step.Dial) h = refl
dial-next (Some (step.Post m)) h = absurd h
dial-next (Some step.Down) h = absurd h
dial-next None h = absurd h

pub dial-after : (r : RecordNow) (c : CoreNow) (journal : Holding Entry) (n : ℕ) → IsRecord r → IsDialNext (next_step r) → c ≡ after_dial r.core → ((p : Option Planned) → LeadsOn (item.dial p) r.core c) →
    journal ≡ record { items = r.journal ++ entry.Dial ∷ []; room = n } →
    IsRecord (record r { core = c; journal = journal.items; steps = r.steps + 1; room = record r.room { entries = journal.room } })
dial-after r c journal n h next e leads j =
    rw j (took-dial r c (record r.room { entries = n }) h refl (dial-next (next_step r) next) e leads)

pub post-after : (r : RecordNow) (c : CoreNow) (m : Message) (now : ℕ) (journal : Holding Entry) (n : ℕ) → IsRecord r → next_step r ≡ Some (step.Post m) →
    c ≡ record r.core { live = after_posted (content_of m) r.core.live } → ((place : ℕ) → LeadsOn (item.post place (Some (to_post (content_of m)))) r.core c) →
    journal ≡ record { items = r.journal ++ entry.Post r.steps ∷ []; room = n } →
    IsRecord (record r { core = c; journal = journal.items; steps = r.steps + 1; last = now; room = record r.room { entries = journal.room } })
post-after r c m now journal n h next e leads j =
    rw j (took-post r c m now (record r.room { entries = n }) h refl next e leads)
