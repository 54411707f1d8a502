-- The sockets that a replayed record has opened, and the asks that it has judged, stand in its journal.
use Rattle.std.proofs.Common.{◌≡◌, ℕ, ◌+◌, Bool, true, false, if◌then◌else◌, List, [], ◌∷◌, ◌++◌, map, Option, Some, None, refl, sym, ap, subst, ◌∙◌, append_assoc}
use Rattle.std.specs.List.{filter_map}
use Rattle.std.specs.Option.{option_map, option_to_list}
use Rattle.std.proofs.lemmas.List.{append-nil}
use Rattle.m2_session.specs.declared.ask.AskFacts.{AskFacts}
use Rattle.m2_fabric.specs.declared.socket.SocketId.{SocketId}
use Rattle.m2_fabric.specs.Sockets.{IsNewTo, is_among, same_socket}
use Rattle.m2_dispatch.specs.m2_message.Message.{Content}
use Rattle.m2_policy.specs.declared.path.Key.{Key}
use Rattle.m2_dispatch.specs.m2_queues.QueueLaws.{Next}
use Rattle.m2_session.specs.declared.answer.Answer.{Answer}
use Rattle.m2_session.specs.declared.event.Event.{Event}
use Rattle.m2_session.specs.declared.event.Event.TheVariants as event
use Rattle.m2_session.specs.SessionLaws.{takes}
use Rattle.m2_journal.specs.declared.entry.Entry.{Entry}
use Rattle.m2_journal.specs.declared.entry.Entry.TheVariants as entry
use Rattle.m2_journal.specs.Feeds.{finished, hears, narrowed, next_said, texts_at}
use Rattle.m2_journal.specs.Items as item
use Rattle.m2_journal.specs.Items.{JournalItem, Places, Sources, at_start, item_of, items_from, passed}
use Rattle.m2_journal.specs.Lawful.{judged_sockets}
use Rattle.m2_journal.specs.OutFrames.{OutFrame, is_unnamed, replies_of}
use Rattle.m2_journal.specs.Plan.{Planned, to_dial, to_go_down, to_post}
use Rattle.m2_journal.specs.Replay.{IsReplay, after_items}
use Rattle.m2_journal.specs.Said.{Said, brings, says, aborts, garbles}
use Rattle.m2_journal.specs.SideFacts.{SideFacts, cookie_of}
use Rattle.m2_journal.specs.State.{Feed, Judgement, PartText, State, start}
use Rattle.m2_journal.specs.Steps as journal
use Rattle.m2_journal.specs.Steps.{after}
use Rattle.m2_journal.proofs.Sockets.{Names, judgement, names_of}
use Rattle.m2_record.specs.IsRecord.{became_feed, closed_by, closed_in, feeds_in, named_in, socket_of}
use Rattle.m2_record.specs.TakenTrails.{judgement_of, judgements_in, taken_by, taken_in}
use Rattle.m2_record.proofs.Telling.{Beside, tells-beside}
use Rattle.m2_bytes.proofs.m2_lemmas.Booleans.{neither_of_or}

-- ---- what an entry names

abbrev names_at : Beside → Names
names_at b = record { opened = b.opened; judgements = b.judgements }

abbrev pub named_by : JournalItem → Names → Names
named_by (item.opened k) n = record n { opened = n.opened ++ k ∷ [] }
named_by (item.judged k ask number answer unread trail) n = record n { judgements = n.judgements ++ judgement k (record { ask = ask; answer = answer }) ∷ [] }
named_by _ n = n

-- ---- each kind

telling : (e : Event) (s : State) → names_of (journal.tells e s) ≡ names_of s
telling e s = ap names_at (tells-beside e s)

telling-if : (e : Option Event) (s : State) → names_of (journal.tells_if e s) ≡ names_of s
telling-if (Some e) s = telling e s
telling-if None s = refl

posting : (p : Option Planned) (s : State) → names_of (journal.posts p s) ≡ names_of s
posting (Some (to_post m)) s = refl
posting (Some to_dial) s = refl
posting (Some to_go_down) s = refl
posting None s = refl

hearing : (f : SideFacts) (bytes : List ℕ) (o : Option Feed) (s : State) → names_of (journal.on_feed_at o (λ d. journal.reads f (hears bytes d)) s) ≡ names_of s
hearing f bytes (Some d) s =
    let e = journal.event_heard f s.session.phase (hears bytes d) in
    telling-if e (journal.with_feed (journal.takes_answer_if e (hears bytes d)) s)
hearing f bytes None s = refl

sending-late : (b : Bool) (k : SocketId) (w : OutFrame) (s : State) → names_of (if b then journal.sends k (w ∷ []) s else s) ≡ names_of s
sending-late true k w s = refl
sending-late false k w s = refl

putting-on : (o : Option PartText) (texts : List PartText) (d : Feed) (s : State) → names_of (journal.puts_on o texts d s) ≡ names_of s
putting-on (Some t) texts d s = sending-late (is_unnamed t.frame) d.socket t.frame _
putting-on None texts d s = refl

putting : (f : SideFacts) (bytes : List ℕ) (o : Option Feed) (s : State) → names_of (journal.on_feed_at o (journal.puts f bytes) s) ≡ names_of s
putting f bytes (Some d) s = putting-on (finished (narrowed bytes (texts_at f s d))) (narrowed bytes (texts_at f s d)) d s
putting f bytes None s = refl

closing : (b : Bool) (k : SocketId) (s : State) → names_of (if b then journal.breaks s else journal.forgets k s) ≡ names_of s
closing true k s = telling (event.Faulted (journal.is_waiting s)) s
closing false k s = refl

composing : (f : SideFacts) (w : OutFrame) (o : Option Feed) (s : State) → names_of (journal.on_feed_at o (journal.composes_on f w) s) ≡ names_of s
composing f w (Some d) s = refl
composing f w None s = refl

answering : (b : Bool) (f : SideFacts) (k : SocketId) (a : AskFacts) (number : ℕ) (answer : Answer) (unread : List ℕ) (s : State) →
    names_of (if b then journal.takes_socket f k a number unread s else journal.sends k (replies_of answer) s) ≡ names_of s
answering true f k a number answer unread s = refl
answering false f k a number answer unread s = refl

judging : (f : SideFacts) (k : SocketId) (a : AskFacts) (number : ℕ) (answer : Answer) (unread : List ℕ) (s : State) →
    names_of (journal.judges f k a number answer unread s) ≡ named_by (item.judged k a number answer unread []) (names_of s)
judging f k a number answer unread s = answering (takes answer) f k a number answer unread _ ∙ telling-if (journal.event_of f a number answer) (journal.notes k a number answer s)

asking : (f : SideFacts) (ident : Bool) (number : ℕ) (s : State) → names_of (journal.asks_peer f ident number s) ≡ names_of s
asking f true number s = composing f _ _ (journal.tells (event.AskedIdent (cookie_of f number)) (record s { top = number })) ∙ telling (event.AskedIdent (cookie_of f number)) (record s { top = number })
asking f false number s = composing f _ _ (journal.tells event.AskedReconnect (record s { top = number })) ∙ telling event.AskedReconnect (record s { top = number })

writing : (f : SideFacts) (number : ℕ) (m : Option Content) (s : State) → names_of (journal.writes_message f number m s) ≡ names_of s
writing f number (Some m) s = composing f _ s.feed s
writing f number None s = refl

accepting : (number : ℕ) (key : Key) (o : Option Said) (d : Feed) (s : State) → names_of (journal.accepts number key o d s) ≡ names_of s
accepting number key (Some (brings m)) d s = refl
accepting number key (Some (says c)) d s = refl
accepting number key (Some aborts) d s = refl
accepting number key (Some garbles) d s = refl
accepting number key None d s = refl

accepting-on : (number : ℕ) (key : Key) (last : ℕ) (o : Option Feed) (s : State) → names_of (journal.on_feed_at o (λ d. journal.accepts number key (next_said last d) d) s) ≡ names_of s
accepting-on number key last (Some d) s = accepting number key (next_said last d) d s
accepting-on number key last None s = refl

obeying : (full : Bool) (o : Option Feed) (s : State) → names_of (journal.on_feed_at o (λ d t. journal.tells (event.GotReset full) (journal.with_feed (journal.takes_answer d) t)) s) ≡ names_of s
obeying full (Some d) s = telling (event.GotReset full) (journal.with_feed (journal.takes_answer d) s)
obeying full None s = refl

pub after-names : (f : SideFacts) (i : JournalItem) (s : State) → names_of (after f i s) ≡ named_by i (names_of s)
after-names f (item.post place p) s = posting p (record s { steps = s.steps + 1 })
after-names f (item.dial p) s = refl
after-names f (item.opened k) s = ap (λ (n : Names). record n { opened = n.opened ++ k ∷ [] }) (telling event.Dialled s)
after-names f (item.read k bytes) s = hearing f bytes s.feed s
after-names f (item.wrote k bytes) s = putting f bytes s.feed s
after-names f (item.closed k broken) s = closing (journal.is_on k s.feed) k s
after-names f (item.judged k a number answer unread trail) s = judging f k a number answer unread s
after-names f (item.asked ident number) s = asking f ident number s
after-names f (item.numbered number) s = writing f number _ (journal.queues Next s)
after-names f (item.accepted number key) s = accepting-on number key s.last s.feed s
after-names f (item.acked number) s = refl
after-names f (item.obeyed full) s = obeying full s.feed s
after-names f (item.down p step) s = telling event.MarkedDown s

-- ---- what a journal names

abbrev opened_by : Entry → Option SocketId
opened_by (entry.Opened k) = Some k
opened_by _ = None

abbrev pub opened_in : List Entry → List SocketId
opened_in journal = filter_map opened_by journal

abbrev pub named_too : Names → List Entry → Names
named_too n es = record { opened = n.opened ++ opened_in es; judgements = n.judgements ++ judgements_in es }

pub one-named : (s : Sources) (p : Places) (e : Entry) (es : List Entry) (n : Names) → named_too (named_by (item_of s p e) n) es ≡ named_too n (e ∷ es)
one-named s p (entry.Opened k) es n = ap (λ (l : List SocketId). record { opened = l; judgements = n.judgements ++ judgements_in es }) (append_assoc n.opened (k ∷ []) (opened_in es))
one-named s p (entry.Judged k a number answer) es n = ap (λ (l : List Judgement). record { opened = n.opened ++ opened_in es; judgements = l })
    (append_assoc n.judgements (judgement k (record { ask = a; answer = answer }) ∷ []) (judgements_in es))
one-named s p (entry.Post place) es n = refl
one-named s p entry.Dial es n = refl
one-named s p (entry.Read k count) es n = refl
one-named s p (entry.Wrote k count) es n = refl
one-named s p (entry.Closed k) es n = refl
one-named s p (entry.Asked ident number) es n = refl
one-named s p (entry.Numbered number) es n = refl
one-named s p (entry.Accepted number key) es n = refl
one-named s p (entry.Acked number) es n = refl
one-named s p (entry.Obeyed full) es n = refl
one-named s p (entry.Down true) es n = refl
one-named s p (entry.Down false) es n = refl

all-named : (f : SideFacts) (src : Sources) (p : Places) (es : List Entry) (s : State) → names_of (after_items f (items_from src p es) s) ≡ named_too (names_of s) es
all-named f src p [] s = rw (append-nil s.opened, append-nil s.judgements) refl
all-named f src p (e ∷ es) s =
    all-named f src (passed e p) es (after f (item_of src p e) s)
    ∙ ap (λ (n : Names). named_too n es) (after-names f (item_of src p e) s) ∙ one-named src p e es (names_of s)

pub replayed-names : (f : SideFacts) (src : Sources) (journal : List Entry) (s : State) → IsReplay f src journal s → names_of s ≡ record { opened = opened_in journal; judgements = judgements_in journal }
replayed-names f src journal s r = ap names_of r.state ∙ all-named f src at_start journal (start f)

-- ---- a socket that others name

-- what the one gives, the other does
abbrev IsWithin : Option SocketId → Option SocketId → Type 0
IsWithin (Some j) (Some k) = j ≡ k
IsWithin (Some j) None = ⊥
IsWithin None other = Unit {0}

pub with-head : (p : Entry → Option SocketId) (e : Entry) (es : List Entry) → filter_map p (e ∷ es) ≡ option_to_list (p e) ++ filter_map p es
with-head p e es = at (p e) refl
  where
    at : (o : Option SocketId) → p e ≡ o → filter_map p (e ∷ es) ≡ option_to_list o ++ filter_map p es
    at (Some k) h = rw h refl
    at None h = rw h refl

none-within : (p q : Entry → Option SocketId) → ((e : Entry) → IsWithin (p e) (q e)) → (k : SocketId) (es : List Entry) → IsNewTo (filter_map q es) k → IsNewTo (filter_map p es) k
none-within p q within k [] new = refl
none-within p q within k (e ∷ es) new =
    subst (λ (l : List SocketId). IsNewTo l k) (sym (with-head p e es))
    (at (p e) (q e) (within e) (subst (λ (l : List SocketId). IsNewTo l k) (with-head q e es) new) (none-within p q within k es))
  where
    at : (o x : Option SocketId) → IsWithin o x → IsNewTo (option_to_list x ++ filter_map q es) k → (IsNewTo (filter_map q es) k → IsNewTo (filter_map p es) k) → IsNewTo (option_to_list o ++ filter_map p es) k
    at (Some j) (Some i) w new rest = let two = neither_of_or (same_socket k i) (is_among k (filter_map q es)) new in rw (w, two.0) (rest two.1)
    at (Some j) None w new rest = absurd w
    at None (Some i) w new rest = rest (neither_of_or (same_socket k i) (is_among k (filter_map q es)) new).1
    at None None w new rest = rest new

opened-named : (e : Entry) → IsWithin (opened_by e) (socket_of e)
opened-named (entry.Opened k) = refl
opened-named _ = tt

opened-feed : (e : Entry) → IsWithin (opened_by e) (became_feed e)
opened-feed (entry.Opened k) = refl
opened-feed _ = tt

taken-feed : (e : Entry) → IsWithin (taken_by e) (became_feed e)
taken-feed (entry.Judged k a number answer) = at (takes answer)
  where
    at : (b : Bool) → IsWithin (if b then Some k else None) (if b then Some k else None)
    at true = refl
    at false = tt
taken-feed _ = tt

closed-named : (e : Entry) → IsWithin (closed_by e) (socket_of e)
closed-named (entry.Closed k) = refl
closed-named _ = tt

abbrev judged_socket : Entry → Option SocketId
judged_socket e = option_map (λ j. j.socket) (judgement_of e)

judged-named : (e : Entry) → IsWithin (judged_socket e) (socket_of e)
judged-named (entry.Judged k a number answer) = refl
judged-named _ = tt

judged-sockets : (es : List Entry) → map (λ (j : Judgement). j.socket) (judgements_in es) ≡ filter_map judged_socket es
judged-sockets [] = refl
judged-sockets (entry.Judged k a number answer ∷ es) = ap (λ (l : List SocketId). k ∷ l) (judged-sockets es)
judged-sockets (entry.Post place ∷ es) = judged-sockets es
judged-sockets (entry.Dial ∷ es) = judged-sockets es
judged-sockets (entry.Opened j ∷ es) = judged-sockets es
judged-sockets (entry.Read j count ∷ es) = judged-sockets es
judged-sockets (entry.Wrote j count ∷ es) = judged-sockets es
judged-sockets (entry.Closed j ∷ es) = judged-sockets es
judged-sockets (entry.Asked ident number ∷ es) = judged-sockets es
judged-sockets (entry.Numbered number ∷ es) = judged-sockets es
judged-sockets (entry.Accepted number key ∷ es) = judged-sockets es
judged-sockets (entry.Acked number ∷ es) = judged-sockets es
judged-sockets (entry.Obeyed full ∷ es) = judged-sockets es
judged-sockets (entry.Down p ∷ es) = judged-sockets es

-- a socket that no entry names wasn't opened, and nothing of it was judged
pub is-unnamed : (f : SideFacts) (src : Sources) (journal : List Entry) (s : State) (k : SocketId) → IsReplay f src journal s → IsNewTo (named_in journal) k →
    (is_among k s.opened ≡ false) × (is_among k (judged_sockets s) ≡ false)
is-unnamed f src journal s k r new =
    let names = replayed-names f src journal s r in (
      subst (λ (n : Names). is_among k n.opened ≡ false) (sym names) (none-within opened_by socket_of opened-named k journal new),
      subst (λ (n : Names). is_among k (map (λ (j : Judgement). j.socket) n.judgements) ≡ false) (sym names)
          (subst (λ (l : List SocketId). IsNewTo l k) (sym (judged-sockets journal)) (none-within judged_socket socket_of judged-named k journal new)),
    )

-- and no entry has closed it
pub is-unclosed : (journal : List Entry) (k : SocketId) → IsNewTo (named_in journal) k → IsNewTo (closed_in journal) k
is-unclosed journal k new = none-within closed_by socket_of closed-named k journal new

-- a socket that never became the feed wasn't taken
pub is-untaken : (journal : List Entry) (k : SocketId) → IsNewTo (feeds_in journal) k → IsNewTo (taken_in journal) k
is-untaken journal k new = none-within taken_by became_feed taken-feed k journal new

-- nor opened
pub is-unopened : (f : SideFacts) (src : Sources) (journal : List Entry) (s : State) (k : SocketId) → IsReplay f src journal s → IsNewTo (feeds_in journal) k → is_among k s.opened ≡ false
is-unopened f src journal s k r new = subst (λ (n : Names). is_among k n.opened ≡ false) (sym (replayed-names f src journal s r)) (none-within opened_by became_feed opened-feed k journal new)
