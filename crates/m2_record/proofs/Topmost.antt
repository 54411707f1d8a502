-- No global number that a record has used is above the greatest.
use Rattle.std.proofs.Common.{◌≡◌, ℕ, ◌+◌, ◌≤◌, Bool, true, false, if◌then◌else◌, List, [], ◌∷◌, Option, Some, None, refl, ap, ◌∙◌, arith}
use Rattle.m2_session.specs.declared.ask.AskFacts.{AskFacts}
use Rattle.m2_handshake.specs.m2_control.declared.fields.TheConstants.{GREATEST_NUMBER}
use Rattle.m2_fabric.specs.declared.socket.SocketId.{SocketId}
use Rattle.m2_journal.specs.Feeds.{hears, next_said}
use Rattle.m2_journal.specs.Items as item
use Rattle.m2_journal.specs.Items.{JournalItem, items_of}
use Rattle.m2_journal.specs.Lawful.{Lawful}
use Rattle.m2_journal.specs.OutFrames.{OutFrame, is_unnamed, replies_of}
use Rattle.m2_journal.specs.Plan.{Planned, to_post, to_dial, to_go_down}
use Rattle.m2_journal.specs.Replay.{AreLawful, after_items}
use Rattle.m2_journal.specs.Said.{Said, says, brings, aborts, garbles}
use Rattle.m2_journal.specs.SideFacts.{SideFacts, cookie_of}
use Rattle.m2_journal.specs.State.{Feed, PartText, State, start}
use Rattle.m2_journal.specs.Steps as journal
use Rattle.m2_journal.specs.Steps.{after}
use Rattle.m2_journal.proofs.Eventful.{on_feed}
use Rattle.m2_dispatch.specs.m2_message.Message.{Content}
use Rattle.m2_policy.specs.declared.path.Key.{Key}
use Rattle.m2_dispatch.specs.m2_queues.QueueLaws.{Requeue}
use Rattle.m2_session.specs.declared.answer.Answer.{Answer}
use Rattle.m2_session.specs.declared.event.Event.{Event}
use Rattle.m2_session.specs.declared.event.Event.TheVariants as event
use Rattle.m2_session.specs.SessionLaws.{takes}
use Rattle.m2_session.specs.Steps.{step_of}
use Rattle.m2_record.specs.IsRecord.{IsRecord}
use Rattle.m2_record.specs.RecordNow.{RecordNow, speaks_of}

-- ---- what leaves it alone

where-top : (b : Bool) (change : State → State) (s : State) → (change s).top ≡ s.top → (journal.where_true b change s).top ≡ s.top
where-top true change s e = e
where-top false change s e = refl

fed-top : (o : Option Feed) (change : Feed → State → State) (s : State) → ((d : Feed) → (change d s).top ≡ s.top) → (journal.on_feed_at o change s).top ≡ s.top
fed-top (Some d) change s e = e d
fed-top None change s e = refl

told-top : (e : Event) (s : State) → (journal.tells e s).top ≡ s.top
told-top e s =
    let o = (step_of s.session e).effects in
    let t = record s { session = (step_of s.session e).session } in
    let closed = journal.where_true o.close journal.closes t in
    let queued = journal.where_true o.requeue (journal.queues Requeue) closed in
    let low = journal.where_true o.set_back journal.sets_back queued in
    let thrown = journal.where_true o.discard journal.discards low in
    where-top o.remote_reset journal.tells_of_reset thrown refl
    ∙ where-top o.discard journal.discards low refl
    ∙ where-top o.set_back journal.sets_back queued (fed-top queued.feed journal.lowers (record queued { last = 0; life = queued.session.server_cookie }) (λ d. refl))
    ∙ where-top o.requeue (journal.queues Requeue) closed refl
    ∙ where-top o.close journal.closes t (fed-top t.feed journal.spends t (λ d. refl))

told-if-top : (o : Option Event) (s : State) → (journal.tells_if o s).top ≡ s.top
told-if-top (Some e) s = told-top e s
told-if-top None s = refl

posted-top : (o : Option Planned) (s : State) → (journal.posts o s).top ≡ s.top
posted-top (Some (to_post m)) s = refl
posted-top (Some to_dial) s = refl
posted-top (Some to_go_down) s = refl
posted-top None s = refl

sent-top : (b : Bool) (k : SocketId) (w : OutFrame) (s : State) → (if b then journal.sends k (w ∷ []) s else s).top ≡ s.top
sent-top true k w s = refl
sent-top false k w s = refl

put-top : (o : Option PartText) (texts : List PartText) (d : Feed) (s : State) → (journal.puts_on o texts d s).top ≡ s.top
put-top (Some t) texts d s = sent-top (is_unnamed t.frame) d.socket t.frame _
put-top None texts d s = refl

written-top : (f : SideFacts) (n : ℕ) (o : Option Content) (s : State) → (journal.writes_message f n o s).top ≡ s.top
written-top f n (Some m) s = fed-top s.feed _ s (λ d. refl)
written-top f n None s = refl

accepted-top : (n : ℕ) (key : Key) (o : Option Said) (d : Feed) (s : State) → (journal.accepts n key o d s).top ≡ s.top
accepted-top n key (Some (brings m)) d s = refl
accepted-top n key (Some (says c)) d s = refl
accepted-top n key (Some aborts) d s = refl
accepted-top n key (Some garbles) d s = refl
accepted-top n key None d s = refl

broken-top : (b : Bool) (k : SocketId) (s : State) → (if b then journal.breaks s else journal.forgets k s).top ≡ s.top
broken-top true k s = told-top (event.Faulted (journal.is_waiting s)) s
broken-top false k s = refl

-- ---- what raises it

answered-top : (b : Bool) (f : SideFacts) (k : SocketId) (a : AskFacts) (n : ℕ) (given : Answer) (unread : List ℕ) (s : State) →
    (if b then journal.takes_socket f k a n unread s else journal.sends k (replies_of given) s).top ≡ s.top
answered-top true f k a n given unread s = refl
answered-top false f k a n given unread s = refl

asked-top : (f : SideFacts) (w : OutFrame) (s : State) → (journal.composes f w s).top ≡ s.top
asked-top f w s = fed-top s.feed _ s (λ d. refl)

at-most : (a b most : ℕ) → a ≡ b → b ≤ most → a ≤ most
at-most a b most e h = omega (arith, e, h)

-- ---- each entry

entry-top : (f : SideFacts) (i : JournalItem) (s : State) → Lawful f i s → s.top ≤ GREATEST_NUMBER → (after f i s).top ≤ GREATEST_NUMBER
entry-top f (item.post place planned) s law h = at-most _ _ _ (posted-top planned (record s { steps = s.steps + 1 })) h
entry-top f (item.dial planned) s law h = h
entry-top f (item.opened k) s law h = at-most _ _ _ (told-top event.Dialled s) h
entry-top f (item.read k bytes) s law h = at-most _ _ _ (fed-top s.feed (λ d. journal.reads f (hears bytes d)) s (λ d. told-if-top (journal.event_heard f s.session.phase (hears bytes d)) (journal.with_feed (journal.takes_answer_if (journal.event_heard f s.session.phase (hears bytes d)) (hears bytes d)) s))) h
entry-top f (item.wrote k bytes) s law h = at-most _ _ _ (fed-top s.feed (journal.puts f bytes) s (λ d. put-top _ _ d s)) h
entry-top f (item.closed k broken) s law h = at-most _ _ _ (broken-top (journal.is_on k s.feed) k s) h
entry-top f (item.judged k a n given unread trail) s law h =
    let t = journal.tells_if (journal.event_of f a n given) (journal.notes k a n given s) in
    at-most _ _ _ (answered-top (takes given) f k a n given unread t ∙ told-if-top (journal.event_of f a n given) (journal.notes k a n given s)) law.unused.to
entry-top f (item.asked true n) s law h = at-most _ _ _ (asked-top f _ _ ∙ told-top (event.AskedIdent (cookie_of f n)) (record s { top = n })) (on_feed s.feed law).1.unused.to
entry-top f (item.asked false n) s law h = at-most _ _ _ (asked-top f _ _ ∙ told-top event.AskedReconnect (record s { top = n })) (on_feed s.feed law).1.unused.to
entry-top f (item.numbered n) s law h = at-most _ _ _ (written-top f n _ _) h
entry-top f (item.accepted n key) s law h = at-most _ _ _ (fed-top s.feed _ s (λ d. accepted-top n key (next_said s.last d) d s)) h
entry-top f (item.acked n) s law h = h
entry-top f (item.obeyed full) s law h = at-most _ _ _ (fed-top s.feed (λ d t. journal.tells (event.GotReset full) (journal.with_feed (journal.takes_answer d) t)) s (λ d. told-top (event.GotReset full) (journal.with_feed (journal.takes_answer d) s))) h
entry-top f (item.down planned step) s law h = at-most _ _ _ (told-top event.MarkedDown s) h

all-top : (f : SideFacts) (is : List JournalItem) (s : State) → AreLawful f is s → s.top ≤ GREATEST_NUMBER → (after_items f is s).top ≤ GREATEST_NUMBER
all-top f [] s law h = h
all-top f (i ∷ is) s law h = all-top f is (after f i s) law.1 (entry-top f i s law.0 h)

pub top-fits : (r : RecordNow) → IsRecord r → r.core.top ≤ GREATEST_NUMBER
top-fits r h = at-most r.core.top h.state.top GREATEST_NUMBER h.at_state.core.top
    (at-most h.state.top _ GREATEST_NUMBER (ap (λ (s : State). s.top) h.at_state.replay.state)
    (all-top r.core.facts (items_of (speaks_of r) r.journal) (start r.core.facts) h.at_state.replay.lawful (omega arith)))
