-- What a session's step leaves of a state beside what a core has, and what it leaves of a core's feed.
use Rattle.std.proofs.Common.{◌≡◌, ℕ, Bool, true, false, List, [], ◌∷◌, ◌++◌, Option, Some, None, refl, sym, ap, ◌∙◌, append_assoc}
use Rattle.std.proofs.lemmas.List.{append-nil}
use Rattle.m2_core.specs.LiveNow.{LiveNow}
use Rattle.m2_core.specs.Effects as live
use Rattle.m2_fabric.specs.declared.socket.SocketId.{SocketId}
use Rattle.m2_feed.specs.FeedNow.{FeedNow}
use Rattle.m2_journal.specs.State.{Delivery, Feed, Judgement, State, discarded, remote_reset}
use Rattle.m2_journal.specs.Steps as journal
use Rattle.m2_dispatch.specs.m2_queues.QueueLaws.{Requeue, Renumber}
use Rattle.m2_session.specs.declared.event.Effects.{Effects}
use Rattle.m2_session.specs.declared.event.Event.{Event}
use Rattle.m2_session.specs.Steps.{step_of}

-- ---- a state beside what a core has

pub record Beside : Type 0 where
  pub steps : ℕ
  pub spent : List SocketId
  pub deliveries : List Delivery
  pub opened : List SocketId
  pub judgements : List Judgement

abbrev pub beside : State → Beside
beside s = record { steps = s.steps; spent = s.spent; deliveries = s.deliveries; opened = s.opened; judgements = s.judgements }

-- ---- effects, one by one

abbrev pub one_if : Bool → Delivery → List Delivery
one_if true d = d ∷ []
one_if false d = []

-- what a step hands out: a discard, and behind it a remote reset
abbrev pub told_by : Effects → List Delivery
told_by e = one_if e.discard discarded ++ one_if e.remote_reset remote_reset

abbrev pub spent_if : Bool → Option Feed → List SocketId → List SocketId
spent_if true (Some d) sockets = sockets ++ d.socket ∷ []
spent_if true None sockets = sockets
spent_if false feed sockets = sockets

closing-at : (o : Option Feed) (s : State) → beside (journal.on_feed_at o journal.spends s) ≡ record (beside s) { spent = spent_if true o s.spent }
closing-at (Some d) s = refl
closing-at None s = refl

closing : (b : Bool) (s : State) → beside (journal.where_true b journal.closes s) ≡ record (beside s) { spent = spent_if b s.feed s.spent }
closing true s = closing-at s.feed s
closing false s = refl

requeueing : (b : Bool) (s : State) → beside (journal.where_true b (journal.queues Requeue) s) ≡ beside s
requeueing true s = refl
requeueing false s = refl

lowering-at : (o : Option Feed) (s : State) → beside (journal.queues Renumber (journal.on_feed_at o journal.lowers s)) ≡ beside s
lowering-at (Some d) s = refl
lowering-at None s = refl

setting-back : (b : Bool) (s : State) → beside (journal.where_true b journal.sets_back s) ≡ beside s
setting-back true s = lowering-at s.feed (record s { last = 0; life = s.session.server_cookie })
setting-back false s = refl

discarding : (b : Bool) (s : State) → beside (journal.where_true b journal.discards s) ≡ record (beside s) { deliveries = s.deliveries ++ one_if b discarded }
discarding true s = refl
discarding false s = ap (λ (l : List Delivery). record (beside s) { deliveries = l }) (sym (append-nil s.deliveries))

telling-reset : (b : Bool) (s : State) → beside (journal.where_true b journal.tells_of_reset s) ≡ record (beside s) { deliveries = s.deliveries ++ one_if b remote_reset }
telling-reset true s = refl
telling-reset false s = ap (λ (l : List Delivery). record (beside s) { deliveries = l }) (sym (append-nil s.deliveries))

-- ---- all of them

pub effects-beside : (e : Effects) (s : State) → beside (journal.has_effects e s) ≡ record (beside s) { spent = spent_if e.close s.feed s.spent; deliveries = s.deliveries ++ told_by e }
effects-beside e s =
    let s1 = journal.where_true e.close journal.closes s in
    let s2 = journal.where_true e.requeue (journal.queues Requeue) s1 in
    let s3 = journal.where_true e.set_back journal.sets_back s2 in
    let s4 = journal.where_true e.discard journal.discards s3 in
    let upto : beside s3 ≡ record (beside s) { spent = spent_if e.close s.feed s.spent } = setting-back e.set_back s2 ∙ requeueing e.requeue s1 ∙ closing e.close s in
    let four : beside s4 ≡ record (beside s) { spent = spent_if e.close s.feed s.spent; deliveries = s.deliveries ++ one_if e.discard discarded } =
    discarding e.discard s3 ∙ ap (λ (b : Beside). record b { deliveries = b.deliveries ++ one_if e.discard discarded }) upto in
    telling-reset e.remote_reset s4
    ∙ ap (λ (b : Beside). record b { deliveries = b.deliveries ++ one_if e.remote_reset remote_reset }) four
    ∙ ap (λ (l : List Delivery). record (beside s) { spent = spent_if e.close s.feed s.spent; deliveries = l }) (append_assoc s.deliveries (one_if e.discard discarded) (one_if e.remote_reset remote_reset))

pub tells-beside : (v : Event) (s : State) →
    beside (journal.tells v s) ≡ record (beside s) { spent = spent_if (step_of s.session v).effects.close s.feed s.spent; deliveries = s.deliveries ++ told_by (step_of s.session v).effects }
tells-beside v s = effects-beside (step_of s.session v).effects (record s { session = (step_of s.session v).session })

-- ---- a core's feed

abbrev pub feed_left : Bool → Option FeedNow → Option FeedNow
feed_left true feed = None
feed_left false feed = feed

closes-feed : (b : Bool) (l : LiveNow) → (live.where_true b live.closes l).feed ≡ feed_left b l.feed
closes-feed true l = refl
closes-feed false l = refl

requeues-feed : (b : Bool) (l : LiveNow) → (live.where_true b live.requeues l).feed ≡ l.feed
requeues-feed true l = refl
requeues-feed false l = refl

sets-feed : (b : Bool) (l : LiveNow) → (live.where_true b live.sets_back l).feed ≡ l.feed
sets-feed true l = refl
sets-feed false l = refl

discards-feed : (b : Bool) (l : LiveNow) → (live.where_true b live.discards l).feed ≡ l.feed
discards-feed true l = refl
discards-feed false l = refl

pub tells-feed : (v : Event) (l : LiveNow) → (live.tells v l).feed ≡ feed_left (step_of l.session v).effects.close l.feed
tells-feed v l =
    let e = (step_of l.session v).effects in
    let l0 = record l { session = (step_of l.session v).session } in
    let l1 = live.where_true e.close live.closes l0 in
    let l2 = live.where_true e.requeue live.requeues l1 in
    let l3 = live.where_true e.set_back live.sets_back l2 in
    discards-feed e.discard l3 ∙ sets-feed e.set_back l2 ∙ requeues-feed e.requeue l1 ∙ closes-feed e.close l0
