-- What an event of the session leaves of a state: all that was sent, opened and judged, and of the feed nothing, or what of it
-- concerns bytes.
use Rattle.std.proofs.Common.{◌≡◌, ℕ, Bool, true, false, Option, Some, None, refl, ◌∙◌}
use Rattle.m2_feed.specs.m2_session.declared.event.Effects.{Effects}
use Rattle.m2_feed.specs.m2_session.declared.event.Event.{Event}
use Rattle.m2_feed.specs.m2_session.declared.event.Event.TheVariants as event
use Rattle.m2_feed.specs.m2_session.Steps.{step_of}
use Rattle.m2_never_reset.specs.m2_queues.QueueLaws.{Requeue}
use Rattle.m2_feed.specs.m2_journal.Items as item
use Rattle.m2_feed.specs.m2_journal.Plan.{Planned}
use Rattle.m2_feed.specs.m2_journal.SideFacts.{SideFacts}
use Rattle.m2_feed.specs.m2_journal.State.{Feed, State}
use Rattle.m2_feed.specs.m2_journal.Steps.{after, where_true, closes, sets_back, discards, tells_of_reset, queues, tells, tells_if}

-- it is the same feed to all that is read and written there
pub record SameBytes (d e : Feed) : Type 0 where
  pub socket : e.socket ≡ d.socket
  pub opened : e.opened ≡ d.opened
  pub hand : e.hand ≡ d.hand
  pub got : e.got ≡ d.got
  pub rest : e.rest ≡ d.rest
  pub texts : e.texts ≡ d.texts

abbrev pub FeedLess : Option Feed → Option Feed → Type 0
FeedLess o None = Unit {0}
FeedLess None (Some e) = ⊥
FeedLess (Some d) (Some e) = SameBytes d e

pub record Less (s t : State) : Type 0 where
  pub sent : t.sent ≡ s.sent
  pub opened : t.opened ≡ s.opened
  pub judgements : t.judgements ≡ s.judgements
  pub feed : FeedLess s.feed t.feed

pub same_bytes : (d : Feed) → SameBytes d d
same_bytes d = record { socket = refl; opened = refl; hand = refl; got = refl; rest = refl; texts = refl }

pub same_feed : (o : Option Feed) → FeedLess o o
same_feed None = tt
same_feed (Some d) = same_bytes d

pub same_state : (s : State) → Less s s
same_state s = record { sent = refl; opened = refl; judgements = refl; feed = same_feed s.feed }

bytes_trans : (c d e : Feed) → SameBytes c d → SameBytes d e → SameBytes c e
bytes_trans c d e h k = record {
  socket = k.socket ∙ h.socket;
  opened = k.opened ∙ h.opened;
  hand = k.hand ∙ h.hand;
  got = k.got ∙ h.got;
  rest = k.rest ∙ h.rest;
  texts = k.texts ∙ h.texts;
}

pub feed_trans : (o p q : Option Feed) → FeedLess o p → FeedLess p q → FeedLess o q
feed_trans o p None h k = tt
feed_trans o None (Some e) h k = absurd k
feed_trans None (Some d) (Some e) h k = absurd h
feed_trans (Some c) (Some d) (Some e) h k = bytes_trans c d e h k

pub less_trans : (s t u : State) → Less s t → Less t u → Less s u
less_trans s t u h k = record {
  sent = k.sent ∙ h.sent;
  opened = k.opened ∙ h.opened;
  judgements = k.judgements ∙ h.judgements;
  feed = feed_trans s.feed t.feed u.feed h.feed k.feed;
}

where_true_less : (b : Bool) (change : State → State) (s t : State) → ((u : State) → Less u (change u)) → Less s t → Less s (where_true b change t)
where_true_less true change s t each h = less_trans s t (change t) h (each t)
where_true_less false change s t each h = h

pub closes_less : (s : State) → Less s (closes s)
closes_less s = at s.feed
  where
    at : (o : Option Feed) → Less (record s { feed = o }) (closes (record s { feed = o }))
    at (Some d) = record { sent = refl; opened = refl; judgements = refl; feed = tt }
    at None = record { sent = refl; opened = refl; judgements = refl; feed = tt }

sets_back_less : (s : State) → Less s (sets_back s)
sets_back_less s = at s.feed
  where
    at : (o : Option Feed) → Less (record s { feed = o }) (sets_back (record s { feed = o }))
    at (Some d) = record { sent = refl; opened = refl; judgements = refl; feed = record { socket = refl; opened = refl; hand = refl; got = refl; rest = refl; texts = refl } }
    at None = record { sent = refl; opened = refl; judgements = refl; feed = tt }

-- nothing that concerns bytes
pub untouched : (s t : State) → t.sent ≡ s.sent → t.opened ≡ s.opened → t.judgements ≡ s.judgements → t.feed ≡ s.feed → Less s t
untouched s t sent opened judgements feed = record { sent = sent; opened = opened; judgements = judgements; feed = rw feed (same_feed s.feed) }

effects_from : (s t : State) (o : Effects) → Less s t → Less s (where_true o.remote_reset tells_of_reset (where_true o.discard discards (where_true o.set_back sets_back (where_true o.requeue (queues Requeue) t))))
effects_from s t o h =
    where_true_less o.remote_reset tells_of_reset s _ (λ u. untouched u (tells_of_reset u) refl refl refl refl)
    (where_true_less o.discard discards s _ (λ u. untouched u (discards u) refl refl refl refl)
    (where_true_less o.set_back sets_back s _ sets_back_less
    (where_true_less o.requeue (queues Requeue) s t (λ u. untouched u (queues Requeue u) refl refl refl refl) h)))

-- the effects behind that of closing
pub has_effects_less : (o : Effects) (s : State) → Less s (where_true o.remote_reset tells_of_reset (where_true o.discard discards (where_true o.set_back sets_back (where_true o.requeue (queues Requeue) s))))
has_effects_less o s = effects_from s s o (same_state s)

pub tells_less : (e : Event) (s : State) → Less s (tells e s)
tells_less e s =
    let o = (step_of s.session e).effects in
    let t = record s { session = (step_of s.session e).session } in
    effects_from s (where_true o.close closes t) o (where_true_less o.close closes s t closes_less (untouched s t refl refl refl refl))

pub tells_if_less : (o : Option Event) (s : State) → Less s (tells_if o s)
tells_if_less (Some e) s = tells_less e s
tells_if_less None s = same_state s

-- behind a greater number
pub less_top : (e : Event) (s : State) (n : ℕ) → Less s (tells e (record s { top = n }))
less_top e s n = less_trans s (record s { top = n }) _ (untouched s _ refl refl refl refl) (tells_less e (record s { top = n }))

-- where it is marked down
pub down_less : (f : SideFacts) (planned : Bool) (step : Option Planned) (s : State) → Less s (after f (item.down planned step) s)
down_less f planned step s =
    let t = tells event.MarkedDown s in
    less_trans s t (after f (item.down planned step) s) (tells_less event.MarkedDown s) (untouched t (after f (item.down planned step) s) refl refl refl refl)
