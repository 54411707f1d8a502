-- The word of a judgement is the name of the first row that holds, by what the entries before it have left.
use Rattle.std.proofs.Common.{◌≡◌, ℕ, Bool, true, false, ◌&&◌, ◌||◌, if◌then◌else◌, ◌⊎◌, inl, inr, List, [], ◌∷◌, ◌++◌, Option, Some, None, refl, sym, subst, ap, ◌∙◌}
use Rattle.std.specs.Prelude.{IsTrue}
use Rattle.m2_journal.specs.m2_control.declared.control.Control.TheVariants as control
use Rattle.m2_journal.specs.m2_control.declared.server_ident.ServerIdent.{ServerIdent}
use Rattle.m2_journal.specs.declared.entry.Entry.{Entry}
use Rattle.m2_journal.specs.declared.entry.Entry.TheVariants as entry
use Rattle.m2_journal.specs.Feeds.{answer_said, hears}
use Rattle.m2_journal.specs.Items.{JournalItem, Places, Sources, at_start, item_of, items_from, items_of, passed, passed_by}
use Rattle.m2_journal.specs.Lawful.{Lawful, MayObey, OnFeedAt}
use Rattle.m2_journal.specs.Replay.{AreLawful, after_items}
use Rattle.m2_journal.specs.Said.{Said, says}
use Rattle.m2_journal.specs.SideFacts.{SideFacts, cookie_of}
use Rattle.m2_journal.specs.State.{Feed, State, start}
use Rattle.m2_journal.specs.Steps.{after, answer_event, event_at, event_heard, event_on, is_agreed, is_on, is_waiting, kept_of}
use Rattle.m2_journal.proofs.Eventful.{EventIsFine, each_is_fine}
use Rattle.m2_journal.proofs.Growing.{after-append, items-append, lawful-append}
use Rattle.m2_journal.proofs.Fed.{Stands, stands}
use Rattle.m2_journal.proofs.JudgedOn.{lawful_front}
use Rattle.m2_journal.proofs.Sessions.{goes}
use Rattle.m2_session.specs.declared.answer.Answer.{Answer}
use Rattle.m2_session.specs.declared.answer.Answer.TheVariants as answer
use Rattle.m2_session.specs.declared.ask.AskFacts.{AskFacts}
use Rattle.m2_session.specs.declared.event.Effects.{Effects}
use Rattle.m2_session.specs.declared.event.Event.TheVariants as event
use Rattle.m2_session.specs.declared.session.Phase.{Phase}
use Rattle.m2_session.specs.declared.session.Phase.TheVariants as phase
use Rattle.m2_session.specs.declared.session.Session.{Session}
use Rattle.m2_policy.specs.declared.policy.Policy.{Policy}
use Rattle.m2_session.specs.Asks.{reconnect_of}
use Rattle.m2_session.specs.Ident.{ident_answer, ident_rows}
use Rattle.m2_session.specs.Phases as phases
use Rattle.m2_session.specs.Reconnect.{Reconnect, reconnect_answer, reconnect_rows}
use Rattle.m2_session.specs.SessionLaws.{ident_event, reconnect_event, takes, told}
use Rattle.m2_session.specs.Steps.{closes, fault_rows}
use Rattle.m2_session.specs.Table.{Row, first_that_holds}
use Rattle.m2_session.proofs.Rows.{each_in_order}
use Rattle.m2_bytes.proofs.m2_lemmas.Booleans.{false_isnt_true}
use Rattle.m2_trace.specs.declared.rows.Held.{Held}
use Rattle.m2_trace.specs.Laws.{RowsAreTold}
use Rattle.m2_trace.specs.Rows.{first_row, held_after, held_behind, held_from, held_obeying, held_of, ident_row_word, reconnect_row_word, row_of_ident, row_of_reconnect}
use Rattle.m2_trace.specs.Words.{Text}

-- ---- tables

-- what an answer's word is to its row's name, of each row where those before it don't hold
abbrev EachNamed : {N A : Type 0} → (A → Text) → (Option N → Text) → List (Row N A) → A → Type 0
EachNamed word name [] otherwise = word otherwise ≡ name None
EachNamed word name (r ∷ rows) otherwise = (r.holds ≡ true → word r.answer ≡ name (Some r.name)) × (r.holds ≡ false → EachNamed word name rows otherwise)

by_row : {N A : Type 0} (word : A → Text) (name : Option N → Text) (b : Bool) (r : Row N A) (rows : List (Row N A)) (otherwise : A) →
    (b ≡ true → word r.answer ≡ name (Some r.name)) → (b ≡ false → word (first_that_holds rows otherwise) ≡ name (first_row rows)) →
    word (if b then r.answer else first_that_holds rows otherwise) ≡ name (if b then Some r.name else first_row rows)
by_row word name true r rows otherwise this rest = this refl
by_row word name false r rows otherwise this rest = rest refl

each_named : {N A : Type 0} (word : A → Text) (name : Option N → Text) (rows : List (Row N A)) (otherwise : A) → EachNamed word name rows otherwise →
    word (first_that_holds rows otherwise) ≡ name (first_row rows)
each_named word name [] otherwise all = all
each_named word name (r ∷ rows) otherwise all =
    by_row word name r.holds r rows otherwise all.0 (λ h. each_named word name rows otherwise (all.1 h))

ident_named : (s : Session) (cookie global : ℕ) → row_of_ident (ident_answer s cookie global) ≡ ident_row_word (first_row (ident_rows s cookie global))
ident_named s cookie global =
    each_named row_of_ident ident_row_word (ident_rows s cookie global) answer.Wait
    (λ h. refl, λ h. (λ h. refl, λ h. (λ h. refl, λ h. (λ h. refl, λ h. (λ h. refl, λ h. (λ h. refl, λ h. (λ h. refl, λ h. refl)))))))

reconnect_named : (s : Session) (a : AskFacts) (written : ℕ) →
    row_of_reconnect (held_of s) a (reconnect_answer s (reconnect_of a) written) ≡ reconnect_row_word (first_row (reconnect_rows s (reconnect_of a) written))
reconnect_named s a written =
    each_named (row_of_reconnect (held_of s) a) reconnect_row_word (reconnect_rows s (reconnect_of a) written) answer.Resume (
      λ none. rw none refl,
      λ some. (
        λ differs. rw some (rw differs refl),
        λ same. (
          λ h. refl,
          λ h. (
            λ other. rw some (rw same refl),
            λ h. (λ h. refl, λ h. (λ h. refl, λ h. (λ h. refl, λ h. (λ h. refl, λ h. refl)))),
          ),
        ),
      ),
    )

-- ---- what an event leaves of what is held

-- a phase that is one of these, where Absent isn't, isn't Absent
not_absent : (p : Phase) (ps : List Phase) → phases.is_among phase.Absent ps ≡ false → IsTrue (phases.is_among p ps) → phases.is p phase.Absent ≡ false
not_absent phase.Absent ps none h = absurd (false_isnt_true (sym none ∙ h))
not_absent phase.Connecting ps none h = refl
not_absent phase.IdentSent ps none h = refl
not_absent phase.ReconnectSent ps none h = refl
not_absent phase.Ready ps none h = refl
not_absent phase.Standby ps none h = refl
not_absent phase.Wait ps none h = refl

-- in no phase but Absent the same is held as long as the client cookie stays
same_held : (s : Session) → phases.is s.phase phase.Absent ≡ false → held_of s ≡ record { absent = false; client = s.client_cookie }
same_held s h = ap (λ (b : Bool). let held : Held = record { absent = b; client = s.client_cookie } in held) h

ident_answered : (f : SideFacts) (s : Session) (i : ServerIdent) (b : Bool) → phases.is s.phase phase.Absent ≡ false →
    held_of (told s (if b then Some (event.GotServerIdent i.cookie i.global) else None)) ≡ held_of s
ident_answered f s i true h = sym (same_held s h)
ident_answered f s i false h = refl

in_ident_sent : (f : SideFacts) (s : Session) (o : Option Said) → phases.is s.phase phase.Absent ≡ false → held_of (told s (answer_event f phase.IdentSent o)) ≡ held_of s
in_ident_sent f s (Some (says (control.ServerIdent i))) h = ident_answered f s i (is_agreed f i) h
in_ident_sent f s (Some (says (control.Wait p))) h = sym (same_held s h)
in_ident_sent f s _ h = refl

in_reconnect_sent : (f : SideFacts) (s : Session) (o : Option Said) → phases.is s.phase phase.Absent ≡ false → held_of (told s (answer_event f phase.ReconnectSent o)) ≡ held_of s
in_reconnect_sent f s (Some (says (control.SessionReconnectOk p))) h = sym (same_held s h)
in_reconnect_sent f s (Some (says (control.SessionRetry p))) h = sym (same_held s h)
in_reconnect_sent f s (Some (says (control.SessionRetryGlobal p))) h = sym (same_held s h)
in_reconnect_sent f s (Some (says (control.Wait p))) h = sym (same_held s h)
in_reconnect_sent f s _ h = refl

in_phase : (f : SideFacts) (s : Session) (p : Phase) (o : Option Said) → s.phase ≡ p → held_of (told s (answer_event f p o)) ≡ held_of s
in_phase f s phase.IdentSent o e = in_ident_sent f s o (rw e refl)
in_phase f s phase.ReconnectSent o e = in_reconnect_sent f s o (rw e refl)
in_phase f s phase.Absent o e = refl
in_phase f s phase.Connecting o e = refl
in_phase f s phase.Ready o e = refl
in_phase f s phase.Standby o e = refl
in_phase f s phase.Wait o e = refl

heard_held : (f : SideFacts) (s : Session) (o : Option Feed) (bytes : List ℕ) → held_of (told s (event_on o (λ d. event_heard f s.phase (hears bytes d)))) ≡ held_of s
heard_held f s (Some d) bytes = in_phase f s s.phase (answer_said (hears bytes d)) refl
heard_held f s None bytes = refl

faulted : (s : Session) (waits lost : Bool) → s.policy.lossy ≡ false → phases.is s.phase phase.Absent ≡ false →
    held_of (record (first_that_holds (fault_rows s waits) (record s { phase = phase.Wait }, closes)).0 { lost_ready = lost }) ≡ held_of s
faulted s waits lost lossless h =
    each_in_order (λ (o : Session × Effects). held_of (record o.0 { lost_ready = lost }) ≡ held_of s) (fault_rows s waits) (record s { phase = phase.Wait }, closes) (
      λ lossy. absurd (false_isnt_true (sym lossless ∙ lossy)),
      λ l. (λ server. sym (same_held s h), λ other. (λ stays. sym (same_held s h), λ goes. sym (same_held s h))),
    )

-- a socket that isn't the feed is closed, or the feed is
closed_held : (f : SideFacts) (s : Session) (waits b : Bool) → s.policy.lossy ≡ false →
    EventIsFine f s (if b then Some (event.Faulted waits) else None) → held_of (told s (if b then Some (event.Faulted waits) else None)) ≡ held_of s
closed_held f s waits true lossless fine = faulted s waits (phases.is s.phase phase.Ready || s.lost_ready) lossless (not_absent s.phase phases.with_feed refl fine.lawful)
closed_held f s waits false lossless fine = refl

ident_judged : (s : Session) (given : Answer) (client server global : ℕ) →
    held_of (told s (ident_event given client server global)) ≡ (if takes given then record { absent = false; client = client } else held_of s)
ident_judged s answer.Accept client server global = refl
ident_judged s answer.AcceptOver client server global = refl
ident_judged s (answer.AcceptReset full) client server global = refl
ident_judged s answer.AcceptAgain client server global = refl
ident_judged s answer.AcceptReplace client server global = refl
ident_judged s answer.AcceptRace client server global = refl
ident_judged s answer.Close client server global = refl
ident_judged s answer.Wait client server global = refl
ident_judged s (answer.Reset full) client server global = refl
ident_judged s answer.ResetPending client server global = refl
ident_judged s (answer.RetryGlobal number) client server global = refl
ident_judged s (answer.Retry number) client server global = refl
ident_judged s answer.Resume client server global = refl

by_standby : (s : Session) (b : Bool) → phases.is s.phase phase.Absent ≡ false → held_of (record s { phase = (if b then phase.Standby else phase.Wait) }) ≡ held_of s
by_standby s true h = sym (same_held s h)
by_standby s false h = sym (same_held s h)

reconnect_judged : (f : SideFacts) (s : Session) (given : Answer) (ask : Reconnect) → EventIsFine f s (reconnect_event given ask) → held_of (told s (reconnect_event given ask)) ≡ held_of s
reconnect_judged f s answer.Resume ask fine = sym (same_held s (not_absent s.phase phases.all_but_absent refl fine.lawful))
reconnect_judged f s answer.ResetPending ask fine =
    by_standby s (phases.is s.phase phase.Standby) (not_absent s.phase phases.all_but_absent_and_ready refl fine.lawful)
reconnect_judged f s _ ask fine = refl

judged_held : (f : SideFacts) (s : Session) (a : AskFacts) (b : Bool) (given : Answer) (server : ℕ) → f.policy.lossy ≡ false →
    EventIsFine f s (if b then ident_event given (kept_of f a).client server a.global else reconnect_event given (reconnect_of (kept_of f a))) →
    held_of (told s (if b then ident_event given (kept_of f a).client server a.global else reconnect_event given (reconnect_of (kept_of f a))))
    ≡ (if b && takes given then record { absent = false; client = a.client } else held_of s)
judged_held f s a true given server lossless fine =
    ident_judged s given (kept_of f a).client server a.global
    ∙ ap (λ (lossy : Bool). let held : Held = record { absent = false; client = (if lossy then 0 else a.client) } in if takes given then held else held_of s) lossless
judged_held f s a false given server lossless fine = reconnect_judged f s given (reconnect_of (kept_of f a)) fine

asked_held : (f : SideFacts) (s : Session) → EventIsFine f s (Some event.AskedReconnect) → held_of (told s (Some event.AskedReconnect)) ≡ held_of s
asked_held f s fine = sym (same_held s (not_absent s.phase (phase.Connecting ∷ []) refl fine.lawful))

obeyed_held : (f : SideFacts) (s : Session) (o : Option Feed) (st : State) (full : Bool) → OnFeedAt o (MayObey st full) →
    EventIsFine f s (event_on o (λ d. Some (event.GotReset full))) →
    held_of (told s (event_on o (λ d. Some (event.GotReset full)))) ≡ held_obeying full (held_of s)
obeyed_held f s (Some d) st true may fine =
    ap (λ (b : Bool). let held : Held = record { absent = b; client = 0 } in held) (sym (not_absent s.phase (phase.ReconnectSent ∷ []) refl fine.lawful))
obeyed_held f s (Some d) st false may fine = sym (same_held s (not_absent s.phase (phase.ReconnectSent ∷ []) refl fine.lawful))
obeyed_held f s None st full may fine = absurd may

-- ---- what an entry leaves

-- by the event of an entry
event_held : (f : SideFacts) (sources : Sources) (p : Places) (e : Entry) (s : State) → f.policy.lossy ≡ false → Stands f s →
    Lawful f (item_of sources p e) s → held_of (told s.session (event_at f (item_of sources p e) s)) ≡ held_after f e (held_of s.session)
event_held f sources p (entry.Opened k) s lossless known law = refl
event_held f sources p (entry.Read k count) s lossless known law = heard_held f s.session s.feed _
event_held f sources p (entry.Closed k) s lossless known law =
    closed_held f s.session (is_waiting s) (is_on k s.feed) (ap (λ (o : Policy). o.lossy) known.keeps.policy ∙ lossless)
    (each_is_fine f (item_of sources p (entry.Closed k)) s law known.keeps known.fed)
event_held f sources p (entry.Judged k a number given) s lossless known law =
    judged_held f s.session a a.ident given (cookie_of f number) lossless
    (each_is_fine f (item_of sources p (entry.Judged k a number given)) s law known.keeps known.fed)
event_held f sources p (entry.Asked true number) s lossless known law = refl
event_held f sources p (entry.Asked false number) s lossless known law =
    asked_held f s.session (each_is_fine f (item_of sources p (entry.Asked false number)) s law known.keeps known.fed)
event_held f sources p (entry.Obeyed full) s lossless known law =
    obeyed_held f s.session s.feed s full law (each_is_fine f (item_of sources p (entry.Obeyed full)) s law known.keeps known.fed)
event_held f sources p (entry.Down true) s lossless known law = refl
event_held f sources p (entry.Down false) s lossless known law = refl
event_held f sources p (entry.Post place) s lossless known law = refl
event_held f sources p entry.Dial s lossless known law = refl
event_held f sources p (entry.Wrote k count) s lossless known law = refl
event_held f sources p (entry.Numbered number) s lossless known law = refl
event_held f sources p (entry.Accepted number key) s lossless known law = refl
event_held f sources p (entry.Acked number) s lossless known law = refl

-- ---- what all entries leave

abbrev pub state_at : SideFacts → List JournalItem → State
state_at f is = after_items f is (start f)

pub one_more : (f : SideFacts) (is : List JournalItem) (i : JournalItem) → state_at f (is ++ i ∷ []) ≡ after f i (state_at f is)
one_more f is i = after-append f is (i ∷ []) (start f)

-- behind the entries that were, and those that come
all_held : (f : SideFacts) (sources : Sources) (es : List Entry) (p : Places) (is : List JournalItem) → f.policy.lossy ≡ false → AreLawful f is (start f) →
    AreLawful f (items_from sources p es) (state_at f is) →
    held_of (after_items f (items_from sources p es) (state_at f is)).session ≡ held_from f (held_of (state_at f is).session) es
all_held f sources [] p is lossless before law = refl
all_held f sources (e ∷ es) p is lossless before law =
    let i = item_of sources p e in
    let s = state_at f is in
    let next : held_of (after f i s).session ≡ held_after f e (held_of s.session) = ap held_of (goes f i s) ∙ event_held f sources p e s lossless (stands f is before) law.0 in
    let whole = lawful-append f is (i ∷ []) (start f) before (law.0, tt) in
    let moved = one_more f is i in
    let rest = all_held f sources es (passed e p) (is ++ i ∷ []) lossless whole (subst (λ (t : State). AreLawful f (items_from sources (passed e p) es) t) (sym moved) law.1) in
    subst (λ (t : State). held_of (after_items f (items_from sources (passed e p) es) t).session ≡ held_from f (held_of t.session) es) moved rest
    ∙ ap (λ (h : Held). held_from f h es) next

-- what was lawful was so as far as its first entries
-- ---- the word

lossless_of : (by_ident lossy : Bool) → (by_ident ≡ true) ⊎ (lossy ≡ false) → by_ident ≡ false → lossy ≡ false
lossless_of by_ident lossy (inl t) n = absurd (false_isnt_true (sym n ∙ t))
lossless_of by_ident lossy (inr h) n = h

told_so : (s : Session) (a : AskFacts) (b : Bool) (h : Held) (given : Answer) (written : ℕ) →
    given ≡ (if b then ident_answer s a.client a.global else reconnect_answer s (reconnect_of a) written) → (b ≡ false → held_of s ≡ h) →
    (if b then row_of_ident given else row_of_reconnect h a given)
    ≡ (if b then ident_row_word (first_row (ident_rows s a.client a.global)) else reconnect_row_word (first_row (reconnect_rows s (reconnect_of a) written)))
told_so s a true h given written e same = ap row_of_ident e ∙ ident_named s a.client a.global
told_so s a false h given written e same =
    ap (λ (g : Answer). row_of_reconnect h a g) e
    ∙ (ap (λ (x : Held). row_of_reconnect x a (reconnect_answer s (reconnect_of a) written)) (sym (same refl)) ∙ reconnect_named s a written)

pub are_told : RowsAreTold
are_told f sources before k a number given law kind =
    let i = item_of sources (passed_by before at_start) (entry.Judged k a number given) in
    let whole : items_of sources (before ++ entry.Judged k a number given ∷ []) ≡ items_of sources before ++ i ∷ [] = items-append sources at_start before (entry.Judged k a number given ∷ []) in
    let parts = lawful_front f (items_of sources before) (i ∷ []) (start f) (subst (λ (l : List JournalItem). AreLawful f l (start f)) whole law) in
    let s = state_at f (items_of sources before) in
    told_so s.session a a.ident (held_behind f before) given s.out.queue.written parts.1.0.by_the_tables
    (λ h. all_held f sources before at_start [] (lossless_of a.ident f.policy.lossy kind h) tt parts.0)
