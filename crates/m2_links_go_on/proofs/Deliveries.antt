-- What a journal delivers goes on where the journal does, and what it speaks of.
use Rattle.std.proofs.Common.{◌≡◌, ℕ, ◌+◌, Bool, true, false, if◌then◌else◌, List, [], ◌∷◌, ◌++◌, Option, Some, None, refl, sym, ap, subst, ◌∙◌}
use Rattle.std.specs.List.{AllByRecursion}
use Rattle.m2_weave.specs.m2_journal.declared.entry.Entry.{Entry}
use Rattle.m2_weave.specs.m2_journal.declared.entry.Entry.TheVariants as entry
use Rattle.m2_weave.specs.m2_journal.Feeds.{finished, hears, narrowed, next_said, texts_at}
use Rattle.m2_weave.specs.m2_journal.Growth.{AreThere, Grow, IsSettled}
use Rattle.m2_weave.specs.m2_journal.Items as item
use Rattle.m2_weave.specs.m2_journal.Items.{JournalItem, Places, Sources, at_start, item_of, items_from, items_of, passed, passed_by, reach_of}
use Rattle.m2_weave.specs.m2_journal.OutFrames as out
use Rattle.m2_weave.specs.m2_journal.OutFrames.{OutFrame, is_unnamed}
use Rattle.m2_weave.specs.m2_journal.Plan.{Planned, to_dial, to_go_down, to_post}
use Rattle.m2_weave.specs.m2_journal.Replay.{after_items, replay}
use Rattle.m2_weave.specs.m2_journal.Said.{Said, aborts, brings, garbles, says}
use Rattle.m2_weave.specs.m2_journal.SideFacts.{SideFacts, cookie_of}
use Rattle.m2_weave.specs.m2_journal.State.{Feed, PartText, State, letter, start}
use Rattle.m2_weave.specs.m2_journal.Steps.{accepts, after, breaks, composes, event_heard, event_of, forgets, heeds, is_on, is_waiting, notes, posts, puts_on, queues, sends, takes_answer, takes_socket, tells, tells_if, with_feed, writes_message}
use Rattle.m2_weave.proofs.m2_journal.Growing.{after-append, items-append, items-grow}
use Rattle.m2_dispatch.specs.m2_message.Message.{Content}
use Rattle.m2_dispatch.specs.m2_queues.QueueLaws.{Next}
use Rattle.m2_dispatch.specs.m2_queues.OutQueues.{message_at}
use Rattle.m2_history.proofs.m2_record.Telling.{Beside, tells-beside, told_by}
use Rattle.m2_weave.specs.m2_session.declared.event.Event.{Event}
use Rattle.m2_weave.specs.m2_session.declared.event.Event.TheVariants as event
use Rattle.m2_weave.specs.m2_session.SessionLaws.{takes}
use Rattle.m2_weave.specs.m2_session.Steps.{step_of}
use Rattle.m2_weave.specs.Later.{GoesOn}
use Rattle.m2_growth.proofs.Ends.{on_by, on_chain, on_same}

-- ---- by one entry

-- what was delivered goes on
abbrev pub DeliversOn : State → State → Type 0
DeliversOn s t = GoesOn s.deliveries t.deliveries

tells_on : (v : Event) (s : State) → DeliversOn s (tells v s)
tells_on v s = (told_by (step_of s.session v).effects, ap (λ (b : Beside). b.deliveries) (tells-beside v s))

tells_if_on : (o : Option Event) (s : State) → DeliversOn s (tells_if o s)
tells_if_on (Some v) s = tells_on v s
tells_if_on None s = on_same s.deliveries

posts_same : (o : Option Planned) (s : State) → (posts o s).deliveries ≡ s.deliveries
posts_same (Some (to_post m)) s = refl
posts_same (Some to_dial) s = refl
posts_same (Some to_go_down) s = refl
posts_same None s = refl

composes_same : (f : SideFacts) (w : OutFrame) (s : State) → (composes f w s).deliveries ≡ s.deliveries
composes_same f w s = at s.feed
  where
    at : (o : Option Feed) → (composes f w (record s { feed = o })).deliveries ≡ s.deliveries
    at None = refl
    at (Some d) = refl

puts_same : (o : Option PartText) (texts : List PartText) (d : Feed) (s : State) → (puts_on o texts d s).deliveries ≡ s.deliveries
puts_same None texts d s = refl
puts_same (Some t) texts d s = at (is_unnamed t.frame) refl
  where
    at : (b : Bool) → is_unnamed t.frame ≡ b → (puts_on (Some t) texts d s).deliveries ≡ s.deliveries
    at true q = rw q refl
    at false q = rw q refl

writes_same : (f : SideFacts) (n : ℕ) (o : Option Content) (s : State) → (writes_message f n o s).deliveries ≡ s.deliveries
writes_same f n None s = refl
writes_same f n (Some m) s = composes_same f (out.message n s.last m) s

accepts_on : (number : ℕ) (key : _) (o : Option Said) (d : Feed) (s : State) → DeliversOn s (accepts number key o d s)
accepts_on number key (Some (brings m)) d s = (letter number s.life key m ∷ [], refl)
accepts_on number key (Some (says c)) d s = on_same s.deliveries
accepts_on number key (Some aborts) d s = on_same s.deliveries
accepts_on number key (Some garbles) d s = on_same s.deliveries
accepts_on number key None d s = on_same s.deliveries

pub entry_delivers : (f : SideFacts) (i : JournalItem) (s : State) → DeliversOn s (after f i s)
entry_delivers f (item.post place planned) s = on_by s.deliveries _ (posts_same planned (record s { steps = s.steps + 1 }))
entry_delivers f (item.dial planned) s = on_same s.deliveries
entry_delivers f (item.opened socket) s = tells_on event.Dialled s
entry_delivers f (item.read socket bytes) s = at s.feed
  where
    at : (o : Option Feed) → DeliversOn s (after f (item.read socket bytes) (record s { feed = o }))
    at None = on_same s.deliveries
    at (Some d) = at_event (event_heard f s.session.phase (hears bytes d))
      where
        at_event : (v : Option Event) → DeliversOn s (heeds v (hears bytes d) (record s { feed = Some d }))
        at_event (Some v) = tells_on v (with_feed (takes_answer (hears bytes d)) (record s { feed = Some d }))
        at_event None = on_same s.deliveries
entry_delivers f (item.wrote socket bytes) s = at s.feed
  where
    at : (o : Option Feed) → DeliversOn s (after f (item.wrote socket bytes) (record s { feed = o }))
    at None = on_same s.deliveries
    at (Some d) =
        let t = record s { feed = Some d } in
        on_by s.deliveries _ (puts_same (finished (narrowed bytes (texts_at f t d))) (narrowed bytes (texts_at f t d)) d t)
entry_delivers f (item.closed socket broken) s = at (is_on socket s.feed)
  where
    at : (b : Bool) → DeliversOn s (if b then breaks s else forgets socket s)
    at true = tells_on (event.Faulted (is_waiting s)) s
    at false = on_same s.deliveries
entry_delivers f (item.judged socket ask number given unread trail) s = at (takes given)
  where
    t : State
    t = tells_if (event_of f ask number given) (notes socket ask number given s)

    told : DeliversOn s t
    told = tells_if_on (event_of f ask number given) (notes socket ask number given s)

    at : (b : Bool) → DeliversOn s (if b then takes_socket f socket ask number unread t else sends socket (out.replies_of given) t)
    at true = told
    at false = told
entry_delivers f (item.asked true number) s =
    let t = tells (event.AskedIdent (cookie_of f number)) (record s { top = number }) in
    on_chain s.deliveries t.deliveries _ (tells_on (event.AskedIdent (cookie_of f number)) (record s { top = number }))
    (on_by t.deliveries _ (composes_same f (out.ident t.session.client_cookie number) t))
entry_delivers f (item.asked false number) s =
    let t = tells event.AskedReconnect (record s { top = number }) in
    on_chain s.deliveries t.deliveries _ (tells_on event.AskedReconnect (record s { top = number }))
    (on_by t.deliveries _ (composes_same f (out.reconnect t.session.client_cookie t.session.server_cookie number t.session.connect t.last) t))
entry_delivers f (item.numbered number) s = on_by s.deliveries _ (writes_same f number (message_at (queues Next s).out.queue number) (queues Next s))
entry_delivers f (item.accepted number key) s = at s.feed
  where
    at : (o : Option Feed) → DeliversOn s (after f (item.accepted number key) (record s { feed = o }))
    at None = on_same s.deliveries
    at (Some d) = accepts_on number key (next_said s.last d) d (record s { feed = Some d })
entry_delivers f (item.acked number) s = on_same s.deliveries
entry_delivers f (item.obeyed full) s = at s.feed
  where
    at : (o : Option Feed) → DeliversOn s (after f (item.obeyed full) (record s { feed = o }))
    at None = on_same s.deliveries
    at (Some d) = tells_on (event.GotReset full) (with_feed (takes_answer d) (record s { feed = Some d }))
entry_delivers f (item.down planned step) s = tells_on event.MarkedDown s

entries_deliver : (f : SideFacts) (is : List JournalItem) (s : State) → DeliversOn s (after_items f is s)
entries_deliver f [] s = on_same s.deliveries
entries_deliver f (i ∷ is) s = on_chain s.deliveries (after f i s).deliveries (after_items f is (after f i s)).deliveries (entry_delivers f i s) (entries_deliver f is (after f i s))

-- ---- whether ends have failed

-- where no end has failed
abbrev pub unfailed : Sources → Sources
unfailed s = record s { broken = λ _. false }

-- an entry leads to the same whether the end of a socket that it closes has failed or not
one_unfailed : (f : SideFacts) (s : Sources) (p : Places) (e : Entry) (st : State) → after f (item_of (unfailed s) p e) st ≡ after f (item_of s p e) st
one_unfailed f s p (entry.Post place) st = refl
one_unfailed f s p entry.Dial st = refl
one_unfailed f s p (entry.Opened k) st = refl
one_unfailed f s p (entry.Read k n) st = refl
one_unfailed f s p (entry.Wrote k n) st = refl
one_unfailed f s p (entry.Closed k) st = refl
one_unfailed f s p (entry.Judged k ask number answer) st = refl
one_unfailed f s p (entry.Asked ident number) st = refl
one_unfailed f s p (entry.Numbered number) st = refl
one_unfailed f s p (entry.Accepted number key) st = refl
one_unfailed f s p (entry.Acked number) st = refl
one_unfailed f s p (entry.Obeyed full) st = refl
one_unfailed f s p (entry.Down true) st = refl
one_unfailed f s p (entry.Down false) st = refl

all_unfailed : (f : SideFacts) (s : Sources) (p : Places) (es : List Entry) (st : State) → after_items f (items_from (unfailed s) p es) st ≡ after_items f (items_from s p es) st
all_unfailed f s p [] st = refl
all_unfailed f s p (e ∷ es) st =
    ap (λ t. after_items f (items_from (unfailed s) (passed e p) es) t) (one_unfailed f s p e st) ∙ all_unfailed f s (passed e p) es (after f (item_of s p e) st)

-- ---- a journal that goes on

pub replay_delivers : (f : SideFacts) (old new : Sources) (journal more : List Entry) → Grow (unfailed old) (unfailed new) → AreThere (unfailed old) (reach_of journal) →
    AllByRecursion (IsSettled (unfailed old) (unfailed new)) journal → DeliversOn (replay f old journal) (replay f new (journal ++ more))
replay_delivers f old new journal more grow there settled =
    subst (λ (t : State). DeliversOn t (replay f new (journal ++ more))) same
    (subst (λ (t : State). DeliversOn (after_items f (items_of new journal) (start f)) t) (sym behind) (entries_deliver f rest (after_items f (items_of new journal) (start f))))
  where
    rest : List JournalItem
    rest = items_from new (passed_by journal at_start) more

    behind : replay f new (journal ++ more) ≡ after_items f rest (after_items f (items_of new journal) (start f))
    behind = ap (λ is. after_items f is (start f)) (items-append new at_start journal more) ∙ after-append f (items_of new journal) rest (start f)

    same : after_items f (items_of new journal) (start f) ≡ replay f old journal
    same = sym (all_unfailed f new at_start journal (start f)) ∙ ap (λ is. after_items f is (start f)) (items-grow (unfailed old) (unfailed new) journal at_start grow there settled)
        ∙ all_unfailed f old at_start journal (start f)
