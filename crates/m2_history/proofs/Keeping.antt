-- Which entries take a step of the plan, and which hand a message on: a post, a dial and a planned mark-down take one, and an
-- acceptance hands one on.
use Rattle.std.proofs.Common.{◌≡◌, ℕ, ◌+◌, Bool, true, false, if◌then◌else◌, List, [], ◌∷◌, ◌++◌, Option, Some, None, refl, sym, ap, ◌∙◌, arith, append-nil}
use Rattle.m2_journal.specs.m2_session.declared.ask.AskFacts.{AskFacts}
use Rattle.m2_channel.specs.Channel.{keyed}
use Rattle.m2_channel.specs.Observed.{handed}
use Rattle.m2_fabric.specs.declared.socket.SocketId.{SocketId}
use Rattle.m2_journal.specs.Feeds.{hears, next_said, taken_feed}
use Rattle.m2_journal.specs.Items as item
use Rattle.m2_journal.specs.Items.{JournalItem}
use Rattle.m2_journal.specs.OutFrames.{OutFrame, is_unnamed, message, replies_of}
use Rattle.m2_journal.specs.Plan.{Planned, to_post, to_dial, to_go_down}
use Rattle.m2_journal.specs.Said.{Said, says, brings, aborts, garbles}
use Rattle.m2_journal.specs.SideFacts.{SideFacts, cookie_of}
use Rattle.m2_message.specs.Message.{Content}
use Rattle.m2_policy.specs.declared.path.Key.{Key}
use Rattle.m2_journal.specs.State as state
use Rattle.m2_journal.specs.State.{Delivery, Feed, PartText, State}
use Rattle.m2_journal.specs.Steps.{acceptance, acknowledged_by, after, on_feed_at, where_true, has_effects, tells, tells_if, tells_of_reset, discards, sets_back, closes, queues, lowers, spends, reads, event_heard, takes_answer, takes_answer_if, with_feed, puts, puts_on, sends, breaks, forgets, is_on, is_waiting, judges, takes_socket, notes, event_of, composes, composes_on, asks_peer, numbers, writes_message, accepts, posts}
use Rattle.m2_dispatch.specs.m2_queues.QueueLaws.{Requeue, Next}
use Rattle.m2_dispatch.specs.m2_queues.OutQueues.{message_at}
use Rattle.m2_journal.specs.m2_session.declared.answer.Answer.{Answer}
use Rattle.m2_journal.specs.m2_session.declared.event.Effects.{Effects}
use Rattle.m2_journal.specs.m2_session.declared.event.Event.{Event}
use Rattle.m2_journal.specs.m2_session.declared.event.Event.TheVariants as event
use Rattle.m2_journal.specs.m2_session.SessionLaws.{takes}
use Rattle.m2_journal.specs.m2_session.Steps.{step_of}
use Rattle.m2_channel.proofs.Quiet.{accepted-leads, handed_by}

-- no step of the plan is taken, and no message handed on
pub record Stays (s t : State) : Type 0 where
  pub steps : t.steps ≡ s.steps
  pub handed : handed t.deliveries ≡ handed s.deliveries

pub stays : (s : State) → Stays s s
stays s = record { steps = refl; handed = refl }

both : (s t u : State) → Stays s t → Stays t u → Stays s u
both s t u p q = record { steps = q.steps ∙ p.steps; handed = q.handed ∙ p.handed }

abbrev Changes : (State → State) → Type 0
Changes change = (s : State) → Stays s (change s)

-- ---- effects of a session's step

handed-more : (ds : List Delivery) (d : Delivery) → handed (d ∷ []) ≡ [] → handed (ds ++ d ∷ []) ≡ handed ds
handed-more [] d e = e
handed-more (state.letter n life k m ∷ ds) d e = ap (λ l. keyed k m ∷ l) (handed-more ds d e)
handed-more (state.discarded ∷ ds) d e = handed-more ds d e
handed-more (state.remote_reset ∷ ds) d e = handed-more ds d e

where-stays : (b : Bool) (change : State → State) (s : State) → Changes change → Stays s (where_true b change s)
where-stays true change s h = h s
where-stays false change s h = stays s

feed-stays : (o : Option Feed) (change : Feed → State → State) (s : State) → ((d : Feed) → Changes (change d)) → Stays s (on_feed_at o change s)
feed-stays (Some d) change s h = h d s
feed-stays None change s h = stays s

reset-stays : Changes tells_of_reset
reset-stays s = record { steps = refl; handed = handed-more s.deliveries state.remote_reset refl }

discards-stays : Changes discards
discards-stays s = record { steps = refl; handed = handed-more s.deliveries state.discarded refl }

sets_back-stays : Changes sets_back
sets_back-stays s = let it = feed-stays s.feed lowers (record s { last = 0; life = s.session.server_cookie }) (λ d t. record { steps = refl; handed = refl }) in record { steps = it.steps; handed = it.handed }

requeue-stays : Changes (queues Requeue)
requeue-stays s = record { steps = refl; handed = refl }

closes-stays : Changes closes
closes-stays s = feed-stays s.feed spends s (λ d t. record { steps = refl; handed = refl })

effects-stay : (e : Effects) → Changes (has_effects e)
effects-stay e s =
    let a = where_true e.close closes s in
    let b = where_true e.requeue (queues Requeue) a in
    let c = where_true e.set_back sets_back b in
    let d = where_true e.discard discards c in
    both s a (has_effects e s) (where-stays e.close closes s closes-stays)
    (both a b (has_effects e s) (where-stays e.requeue (queues Requeue) a requeue-stays)
    (both b c (has_effects e s) (where-stays e.set_back sets_back b sets_back-stays)
    (both c d (has_effects e s) (where-stays e.discard discards c discards-stays)
    (where-stays e.remote_reset tells_of_reset d reset-stays))))

tells-stays : (e : Event) → Changes (tells e)
tells-stays e s = let it = effects-stay (step_of s.session e).effects (record s { session = (step_of s.session e).session }) in record { steps = it.steps; handed = it.handed }

tells_if-stays : (o : Option Event) → Changes (tells_if o)
tells_if-stays (Some e) s = tells-stays e s
tells_if-stays None s = stays s

-- ---- the parts of entries

reads-stays : (f : SideFacts) (d : Feed) → Changes (reads f d)
reads-stays f d s =
    let e = event_heard f s.session.phase d in
    let it = tells_if-stays e (with_feed (takes_answer_if e d) s) in
    record { steps = it.steps; handed = it.handed }

late-stays : (k : SocketId) (w : OutFrame) (b : Bool) (s : State) → Stays s (if b then sends k (w ∷ []) s else s)
late-stays k w true s = record { steps = refl; handed = refl }
late-stays k w false s = stays s

puts_on-stays : (o : Option PartText) (texts : List PartText) (d : Feed) → Changes (puts_on o texts d)
puts_on-stays None texts d s = record { steps = refl; handed = refl }
puts_on-stays (Some t) texts d s = let it = late-stays d.socket t.frame (is_unnamed t.frame) _ in record { steps = it.steps; handed = it.handed }

closes_socket-stays : (k : SocketId) (b : Bool) (s : State) → Stays s (if b then breaks s else forgets k s)
closes_socket-stays k true s = let it = tells-stays (event.Faulted (is_waiting s)) s in record { steps = it.steps; handed = it.handed }
closes_socket-stays k false s = record { steps = refl; handed = refl }

composes-stays : (f : SideFacts) (w : OutFrame) → Changes (composes f w)
composes-stays f w s = feed-stays s.feed (composes_on f w) s (λ d t. record { steps = refl; handed = refl })

answers-stay : (f : SideFacts) (k : SocketId) (a : AskFacts) (number : ℕ) (answer : Answer) (unread : List ℕ) (b : Bool) (s : State) →
    Stays s (if b then takes_socket f k a number unread s else sends k (replies_of answer) s)
answers-stay f k a number answer unread true s =
    let it = composes-stays f (acceptance a number s) (with_feed (taken_feed k unread (acknowledged_by a) s.last s.owes) (record s { dials = false })) in
    record { steps = it.steps; handed = it.handed }
answers-stay f k a number answer unread false s = record { steps = refl; handed = refl }

judges-stays : (f : SideFacts) (k : SocketId) (a : AskFacts) (number : ℕ) (answer : Answer) (unread : List ℕ) → Changes (judges f k a number answer unread)
judges-stays f k a number answer unread s =
    let noted = notes k a number answer s in
    let told = tells_if (event_of f a number answer) noted in
    let first = tells_if-stays (event_of f a number answer) noted in
    both s told (judges f k a number answer unread s) (record { steps = first.steps; handed = first.handed }) (answers-stay f k a number answer unread (takes answer) told)

asks-stays : (f : SideFacts) (by_ident : Bool) (number : ℕ) → Changes (asks_peer f by_ident number)
asks-stays f true number s =
    let e = event.AskedIdent (cookie_of f number) in
    let told = tells e (record s { top = number }) in
    let first = tells-stays e (record s { top = number }) in
    both s told (asks_peer f true number s) (record { steps = first.steps; handed = first.handed }) (composes-stays f _ told)
asks-stays f false number s =
    let told = tells event.AskedReconnect (record s { top = number }) in
    let first = tells-stays event.AskedReconnect (record s { top = number }) in
    both s told (asks_peer f false number s) (record { steps = first.steps; handed = first.handed }) (composes-stays f _ told)

writes-stays : (f : SideFacts) (number : ℕ) (o : Option Content) → Changes (writes_message f number o)
writes-stays f number (Some m) s = let it = composes-stays f (message number s.last m) s in record { steps = it.steps; handed = it.handed }
writes-stays f number None s = stays s

numbers-stays : (f : SideFacts) (number : ℕ) → Changes (numbers f number)
numbers-stays f number s = let it = writes-stays f number (message_at (queues Next s).out.queue number) (queues Next s) in record { steps = it.steps; handed = it.handed }

-- ---- each entry

abbrev pub steps_by : JournalItem → ℕ
steps_by (item.post place planned) = 1
steps_by (item.dial planned) = 1
steps_by (item.down true planned) = 1
steps_by _ = 0

pub record Leads (i : JournalItem) (s t : State) : Type 0 where
  pub steps : t.steps ≡ s.steps + steps_by i
  pub handed : handed t.deliveries ≡ handed s.deliveries ++ handed_by i s

quietly : (i : JournalItem) (s t : State) → steps_by i ≡ 0 → handed_by i s ≡ [] → Stays s t → Leads i s t
quietly i s t n none h = record {
  steps = omega (arith, n, h.steps);
  handed = h.handed ∙ (sym (append-nil (handed s.deliveries)) ∙ ap (λ l. handed s.deliveries ++ l) (sym none));
}

posts-leads : (o : Option Planned) (s : State) → let t = posts o (record s { steps = s.steps + 1 }) in (t.steps ≡ s.steps + 1) × (t.deliveries ≡ s.deliveries)
posts-leads (Some (to_post m)) s = (refl, refl)
posts-leads (Some to_dial) s = (refl, refl)
posts-leads (Some to_go_down) s = (refl, refl)
posts-leads None s = (refl, refl)

accepts-steps : (number : ℕ) (key : Key) (x : Option Said) (d : Feed) (s : State) → (accepts number key x d s).steps ≡ s.steps
accepts-steps number key (Some (brings m)) d s = refl
accepts-steps number key (Some (says c)) d s = refl
accepts-steps number key (Some aborts) d s = refl
accepts-steps number key (Some garbles) d s = refl
accepts-steps number key None d s = refl

accepted-steps : (number : ℕ) (key : Key) (s : State) (o : Option Feed) → (on_feed_at o (λ d. accepts number key (next_said s.last d) d) s).steps ≡ s.steps
accepted-steps number key s (Some d) = accepts-steps number key (next_said s.last d) d s
accepted-steps number key s None = refl

down-leads : (f : SideFacts) (by_plan : Bool) (o : Option Planned) (s : State) → Leads (item.down by_plan o) s (after f (item.down by_plan o) s)
down-leads f true o s = let it = tells-stays event.MarkedDown s in record { steps = omega (arith, it.steps); handed = it.handed ∙ sym (append-nil (handed s.deliveries)) }
down-leads f false o s = let it = tells-stays event.MarkedDown s in record { steps = omega (arith, it.steps); handed = it.handed ∙ sym (append-nil (handed s.deliveries)) }

pub leads : (f : SideFacts) (i : JournalItem) (s : State) → Leads i s (after f i s)
leads f (item.post place o) s =
    let it = posts-leads o s in
    record { steps = it.0; handed = ap handed it.1 ∙ sym (append-nil (handed s.deliveries)) }
leads f (item.dial o) s = record { steps = refl; handed = sym (append-nil (handed s.deliveries)) }
leads f (item.opened k) s =
    let it = tells-stays event.Dialled s in
    quietly (item.opened k) s (after f (item.opened k) s) refl refl (record { steps = it.steps; handed = it.handed })
leads f (item.read k bytes) s =
    quietly (item.read k bytes) s (after f (item.read k bytes) s) refl refl (feed-stays s.feed (λ d. reads f (hears bytes d)) s (λ d. reads-stays f (hears bytes d)))
leads f (item.wrote k bytes) s =
    quietly (item.wrote k bytes) s (after f (item.wrote k bytes) s) refl refl (feed-stays s.feed (puts f bytes) s (λ d t. puts_on-stays _ _ d t))
leads f (item.closed k broken) s =
    quietly (item.closed k broken) s (after f (item.closed k broken) s) refl refl (closes_socket-stays k (is_on k s.feed) s)
leads f (item.judged k ask n answer unread trail) s =
    quietly (item.judged k ask n answer unread trail) s (after f (item.judged k ask n answer unread trail) s) refl refl (judges-stays f k ask n answer unread s)
leads f (item.asked by_ident n) s = quietly (item.asked by_ident n) s (after f (item.asked by_ident n) s) refl refl (asks-stays f by_ident n s)
leads f (item.numbered n) s = quietly (item.numbered n) s (after f (item.numbered n) s) refl refl (numbers-stays f n s)
leads f (item.accepted n key) s = record { steps = omega (arith, accepted-steps n key s s.feed); handed = (accepted-leads f n key s).handed }
leads f (item.acked n) s = quietly (item.acked n) s (after f (item.acked n) s) refl refl (record { steps = refl; handed = refl })
leads f (item.obeyed full) s =
    quietly (item.obeyed full) s (after f (item.obeyed full) s) refl refl
    (feed-stays s.feed (λ d t. tells (event.GotReset full) (with_feed (takes_answer d) t)) s
    (λ d t. let it = tells-stays (event.GotReset full) (with_feed (takes_answer d) t) in record { steps = it.steps; handed = it.handed }))
leads f (item.down by_plan o) s = down-leads f by_plan o s
