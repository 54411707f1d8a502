-- What makes a connect due stays behind asks that are judged and not taken.
use Rattle.std.proofs.Common.{◌≡◌, ℕ, Bool, true, false, ◌&&◌, ◌||◌, not, if◌then◌else◌, List, [], ◌∷◌, ◌++◌, Option, Some, None, refl, sym, subst, ap, ◌∙◌}
use Rattle.std.specs.Option.{is_some}
use Rattle.std.specs.Prelude.{IsTrue}
use Rattle.m2_fabric.specs.declared.socket.SocketId.{SocketId}
use Rattle.m2_journal.specs.declared.entry.Entry.{Entry}
use Rattle.m2_journal.specs.declared.entry.Entry.TheVariants as entry
use Rattle.m2_journal.specs.Items.{JournalItem, Places, Sources, at_start, item_of, items_from, items_of, passed, passed_by, where_taken}
use Rattle.m2_journal.specs.Lawful.{Lawful}
use Rattle.m2_journal.specs.OutFrames.{OutFrame, replies_of}
use Rattle.m2_journal.specs.Replay.{AreLawful, after_items}
use Rattle.m2_journal.specs.SideFacts.{SideFacts, cookie_of}
use Rattle.m2_journal.specs.State.{Feed, State, start}
use Rattle.m2_journal.specs.Steps.{after, event_of, judges, kept_of, notes, on_feed_at, queues, sends, spends, takes_socket, tells, tells_if}
use Rattle.m2_journal.proofs.Eventful.{EventIsFine, each_is_fine}
use Rattle.m2_journal.proofs.Growing.{after-append, items-append, lawful-append}
use Rattle.m2_journal.proofs.JudgedOn.{lawful_front}
use Rattle.m2_journal.proofs.Fed.{Stands, stands}
use Rattle.m2_journal.specs.m2_queues.QueueLaws.{Requeue}
use Rattle.m2_session.specs.declared.answer.Answer.{Answer}
use Rattle.m2_session.specs.declared.answer.Answer.TheVariants as answer
use Rattle.m2_session.specs.declared.ask.AskFacts.{AskFacts}
use Rattle.m2_session.specs.declared.event.Event.TheVariants as event
use Rattle.m2_session.specs.declared.session.Phase.{Phase}
use Rattle.m2_session.specs.declared.session.Phase.TheVariants as phase
use Rattle.m2_session.specs.Asks.{reconnect_of}
use Rattle.m2_session.specs.Dials.{at_rest}
use Rattle.m2_session.specs.Phases as phases
use Rattle.m2_session.specs.Reconnect.{Reconnect}
use Rattle.m2_session.specs.SessionLaws.{ident_event, reconnect_event, takes}
use Rattle.m2_bytes.proofs.m2_lemmas.Booleans.{false_isnt_true, from_true_false}
use Rattle.m2_trace.specs.declared.dials.DialCause.{DialCause}
use Rattle.m2_trace.specs.Dials.{cause_after, cause_behind, cause_in, cause_in_phase}
use Rattle.m2_trace.specs.Laws.{CausesAreOfDials, ConnectsAreTold}
use Rattle.m2_trace.proofs.Named.{one_more, state_at}

-- ---- a cause is there where a connect is due

in_phase : (p : Phase) (server waits wanted : Bool) →
    is_some (if server then None else cause_in_phase p waits wanted) ≡ not server && ((phases.is_among p at_rest && (waits || wanted)) || phases.is p phase.Wait)
in_phase p true waits wanted = refl
in_phase phase.Absent false true wanted = refl
in_phase phase.Absent false false true = refl
in_phase phase.Absent false false false = refl
in_phase phase.Standby false true wanted = refl
in_phase phase.Standby false false true = refl
in_phase phase.Standby false false false = refl
in_phase phase.Wait false waits wanted = refl
in_phase phase.Connecting false waits wanted = refl
in_phase phase.IdentSent false waits wanted = refl
in_phase phase.ReconnectSent false waits wanted = refl
in_phase phase.Ready false waits wanted = refl

pub are_of_dials : CausesAreOfDials
are_of_dials s waits wanted = in_phase s.phase s.policy.server waits wanted

-- ---- an ask that is judged and not taken

none_is : {P : Type 0} (c : DialCause) → None ≡ Some c → P
none_is c h = absurd (false_isnt_true (ap is_some h))

-- a side that dials keeps its phase when it is told that the peer's session is pending
pending_phase : (p : Phase) (server waits wanted : Bool) (c : DialCause) → IsTrue (phases.is_among p phases.all_but_absent_and_ready) →
    (if server then None else cause_in_phase p waits wanted) ≡ Some c →
    (if server then None else cause_in_phase (if phases.is p phase.Standby then phase.Standby else phase.Wait) waits wanted) ≡ Some c
pending_phase p true waits wanted c may h = none_is c h
pending_phase phase.Absent false waits wanted c may h = absurd (false_isnt_true may)
pending_phase phase.Standby false waits wanted c may h = h
pending_phase phase.Wait false waits wanted c may h = h
pending_phase phase.Connecting false waits wanted c may h = none_is c h
pending_phase phase.IdentSent false waits wanted c may h = none_is c h
pending_phase phase.ReconnectSent false waits wanted c may h = none_is c h
pending_phase phase.Ready false waits wanted c may h = absurd (false_isnt_true may)

-- what is left and written again is nothing that a cause goes by
left : (o : Option Feed) (s : State) → cause_in (queues Requeue (on_feed_at o spends s)) ≡ cause_in s
left (Some d) s = refl
left None s = refl

pending : (f : SideFacts) (s : State) (c : DialCause) → EventIsFine f s.session (Some event.Pending) → cause_in s ≡ Some c → cause_in (tells event.Pending s) ≡ Some c
pending f s c fine h =
    left s.feed (record s { session = (record s.session { phase = (if phases.is s.session.phase phase.Standby then phase.Standby else phase.Wait) }) })
    ∙ pending_phase s.session.phase s.session.policy.server _ s.dials c fine.lawful h

ident_judged : (s : State) (given : Answer) (client server global : ℕ) (c : DialCause) → takes given ≡ false → cause_in s ≡ Some c →
    cause_in (tells_if (ident_event given client server global) s) ≡ Some c
ident_judged s answer.Accept client server global c e h = from_true_false e
ident_judged s answer.AcceptOver client server global c e h = from_true_false e
ident_judged s (answer.AcceptReset full) client server global c e h = from_true_false e
ident_judged s answer.AcceptAgain client server global c e h = from_true_false e
ident_judged s answer.AcceptReplace client server global c e h = from_true_false e
ident_judged s answer.AcceptRace client server global c e h = from_true_false e
ident_judged s answer.Resume client server global c e h = from_true_false e
ident_judged s _ client server global c e h = h

reconnect_judged : (f : SideFacts) (s : State) (given : Answer) (ask : Reconnect) (c : DialCause) → takes given ≡ false →
    EventIsFine f s.session (reconnect_event given ask) → cause_in s ≡ Some c → cause_in (tells_if (reconnect_event given ask) s) ≡ Some c
reconnect_judged f s answer.Resume ask c e fine h = from_true_false e
reconnect_judged f s answer.ResetPending ask c e fine h = pending f s c fine h
reconnect_judged f s _ ask c e fine h = h

judged_by : (f : SideFacts) (s : State) (by_ident : Bool) (given : Answer) (client server global : ℕ) (ask : Reconnect) (c : DialCause) → takes given ≡ false →
    EventIsFine f s.session (if by_ident then ident_event given client server global else reconnect_event given ask) → cause_in s ≡ Some c →
    cause_in (tells_if (if by_ident then ident_event given client server global else reconnect_event given ask) s) ≡ Some c
judged_by f s true given client server global ask c e fine h = ident_judged s given client server global c e h
judged_by f s false given client server global ask c e fine h = reconnect_judged f s given ask c e fine h

-- what is written to its socket is nothing that a cause goes by
replied : (b : Bool) (k : SocketId) (frames : List OutFrame) (taken s : State) → b ≡ false → cause_in (if b then taken else sends k frames s) ≡ cause_in s
replied true k frames taken s e = from_true_false e
replied false k frames taken s e = refl

judged : (f : SideFacts) (k : SocketId) (a : AskFacts) (number : ℕ) (given : Answer) (unread : List ℕ) (s : State) (c : DialCause) → takes given ≡ false →
    EventIsFine f s.session (event_of f a number given) → cause_in s ≡ Some c → cause_in (judges f k a number given unread s) ≡ Some c
judged f k a number given unread s c e fine h =
    let told = tells_if (event_of f a number given) (notes k a number given s) in
    replied (takes given) k (replies_of given) (takes_socket f k a number unread told) told e
    ∙ judged_by f (notes k a number given s) a.ident given (kept_of f a).client (cookie_of f number) a.global (reconnect_of (kept_of f a)) c e fine h

-- ---- entries

not_taken : (b : Bool) (o : Option DialCause) (c : DialCause) → (if b then None else o) ≡ Some c → (b ≡ false) × (o ≡ Some c)
not_taken true o c h = none_is c h
not_taken false o c h = (refl, h)

stays : (f : SideFacts) (sources : Sources) (p : Places) (e : Entry) (s : State) (c : DialCause) → Stands f s → Lawful f (item_of sources p e) s →
    cause_after e (cause_in s) ≡ Some c → cause_in (after f (item_of sources p e) s) ≡ Some c
stays f sources p (entry.Judged k a number given) s c known law h =
    let so = not_taken (takes given) (cause_in s) c h in
    judged f k a number given (where_taken given (sources.unread k)) s c so.0
    (each_is_fine f (item_of sources p (entry.Judged k a number given)) s law known.keeps known.fed) so.1
stays f sources p (entry.Post place) s c known law h = none_is c h
stays f sources p entry.Dial s c known law h = none_is c h
stays f sources p (entry.Opened k) s c known law h = none_is c h
stays f sources p (entry.Read k count) s c known law h = none_is c h
stays f sources p (entry.Wrote k count) s c known law h = none_is c h
stays f sources p (entry.Closed k) s c known law h = none_is c h
stays f sources p (entry.Asked by_ident number) s c known law h = none_is c h
stays f sources p (entry.Numbered number) s c known law h = none_is c h
stays f sources p (entry.Accepted number key) s c known law h = none_is c h
stays f sources p (entry.Acked number) s c known law h = none_is c h
stays f sources p (entry.Obeyed full) s c known law h = none_is c h
stays f sources p (entry.Down planned) s c known law h = none_is c h

-- what isn't known isn't known later

either_none : (b : Bool) → (if b then None else None) ≡ (let none : Option DialCause = None in none)
either_none true = refl
either_none false = refl

none_after : (e : Entry) → cause_after e None ≡ None
none_after (entry.Judged k a number given) = either_none (takes given)
none_after (entry.Post place) = refl
none_after entry.Dial = refl
none_after (entry.Opened k) = refl
none_after (entry.Read k count) = refl
none_after (entry.Wrote k count) = refl
none_after (entry.Closed k) = refl
none_after (entry.Asked by_ident number) = refl
none_after (entry.Numbered number) = refl
none_after (entry.Accepted number key) = refl
none_after (entry.Acked number) = refl
none_after (entry.Obeyed full) = refl
none_after (entry.Down planned) = refl

none_behind : (es : List Entry) → cause_behind None es ≡ None
none_behind [] = refl
none_behind (e ∷ es) = ap (λ (o : Option DialCause). cause_behind o es) (none_after e) ∙ none_behind es

known_before : (es : List Entry) (o : Option DialCause) (c : DialCause) → cause_behind o es ≡ Some c → (d : DialCause) × (o ≡ Some d)
known_before es (Some d) c h = (d, refl)
known_before es None c h = none_is c (sym (none_behind es) ∙ h)

-- behind the entries that were, and those that come
all_stay : (f : SideFacts) (sources : Sources) (es : List Entry) (p : Places) (is : List JournalItem) (c : DialCause) → AreLawful f is (start f) →
    AreLawful f (items_from sources p es) (state_at f is) → cause_behind (cause_in (state_at f is)) es ≡ Some c →
    cause_in (after_items f (items_from sources p es) (state_at f is)) ≡ Some c
all_stay f sources [] p is c before law h = h
all_stay f sources (e ∷ es) p is c before law h =
    let i = item_of sources p e in
    let s = state_at f is in
    let known = known_before es (cause_after e (cause_in s)) c h in
    let next : cause_in (after f i s) ≡ cause_after e (cause_in s) = stays f sources p e s known.0 (stands f is before) law.0 known.1 ∙ sym known.1 in
    let whole = lawful-append f is (i ∷ []) (start f) before (law.0, tt) in
    let moved = one_more f is i in
    let rest = all_stay f sources es (passed e p) (is ++ i ∷ []) c whole (subst (λ (t : State). AreLawful f (items_from sources (passed e p) es) t) (sym moved) law.1)
    (ap (λ (t : State). cause_behind (cause_in t) es) moved ∙ (ap (λ (o : Option DialCause). cause_behind o es) next ∙ h)) in
    subst (λ (t : State). cause_in (after_items f (items_from sources (passed e p) es) t) ≡ Some c) moved rest

pub are_told : ConnectsAreTold
are_told f sources before since c law h =
    let first = items_of sources before in
    let others = items_from sources (passed_by before at_start) since in
    let whole : items_of sources (before ++ since) ≡ first ++ others = items-append sources at_start before since in
    let parts = lawful_front f first others (start f) (subst (λ (l : List JournalItem). AreLawful f l (start f)) whole law) in
    ap (λ (l : List JournalItem). cause_in (after_items f l (start f))) whole
    ∙ (ap cause_in (after-append f first others (start f)) ∙ all_stay f sources since (passed_by before at_start) first c parts.0 parts.1 h)
