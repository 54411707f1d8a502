-- An ask that is answered: the core and the replay go on alike.
use Rattle.std.proofs.Common.{◌≡◌, ◌≢◌, ℕ, ◌-◌, ◌<◌, ◌≤◌, Bool, true, false, ◌||◌, List, ◌∷◌, length, Option, Some, None, refl, sym, ap, subst, ◌∙◌, inl, inr, arith, ne_eqb}
use Rattle.std.specs.Prelude.{◌==◌, if◌then◌else◌, IsTrue, IfSome}
use Rattle.std.specs.List.{list_any}
use Rattle.std.proofs.lemmas.Bool.{eq-eqb}
use Rattle.m2_session.specs.declared.ask.AskFacts.{AskFacts}
use Rattle.m2_session.specs.declared.frame.Carried.{Carried}
use Rattle.m2_session.specs.Asks.{reconnect_of, told_of_ident, told_of_reconnect}
use Rattle.m2_session.specs.Frames.{accepts, frame_of}
use Rattle.m2_control.specs.declared.control.Control.{Control}
use Rattle.m2_control.specs.declared.control.Control.TheVariants as control
use Rattle.m2_control.specs.Control.{IsWritable, text_of}
use Rattle.m2_control.specs.declared.fields.TheConstants.{GREATEST_NUMBER}
use Rattle.m2_fabric.specs.End.{SeenEnd}
use Rattle.m2_fabric.specs.declared.socket.SocketId.{SocketId}
use Rattle.m2_feed.specs.Calls.{at_acceptance}
use Rattle.m2_feed.specs.FeedNow.{FeedNow, framing}
use Rattle.m2_feed.specs.FeedLaws.{ChangesBeside, IsAcceptance, TakesOverBeside}
use Rattle.m2_frame.specs.declared.frame.TheConstants.{CONTROL_LIMIT}
use Rattle.m2_handshake.specs.Texts.{frame_text}
use Rattle.m2_journal.specs.Feeds.{told}
use Rattle.m2_journal.specs.Laws.{SessionIsSound}
use Rattle.m2_journal.specs.OutFrames as out
use Rattle.m2_journal.specs.OutFrames.{OutFrame, replies_of}
use Rattle.m2_journal.specs.SideFacts.{SideFacts, cookie_of, speaker_of}
use Rattle.m2_journal.specs.State.{Feed, State}
use Rattle.m2_journal.specs.Steps as replay
use Rattle.m2_journal.specs.Steps.{after, kept_of}
use Rattle.m2_session.specs.declared.answer.Answer.{Answer}
use Rattle.m2_session.specs.declared.answer.Answer.TheVariants as answer
use Rattle.m2_session.specs.declared.event.Event.{Event}
use Rattle.m2_session.specs.declared.event.Event.TheVariants as event
use Rattle.m2_session.specs.declared.session.Phase.{Phase}
use Rattle.m2_session.specs.declared.session.Phase.TheVariants as phase
use Rattle.m2_session.specs.declared.session.Session.{Session}
use Rattle.m2_session.specs.Conditions.{differs, is_kept}
use Rattle.m2_session.specs.Ident.{ident_answer, ident_rows}
use Rattle.m2_session.specs.SessionLaws as sessions
use Rattle.m2_session.specs.SessionLaws.{ident_event, reconnect_event, takes}
use Rattle.m2_session.specs.Phases as phases
use Rattle.m2_session.specs.Reconnect.{Reconnect, reconnect_answer, reconnect_rows}
use Rattle.m2_session.specs.Steps.{HasFollower, is_lawful}
use Rattle.m2_session.proofs.Answers.{answers_are_lawful_lem}
use Rattle.m2_session.proofs.Rows.{each_answer}
use Rattle.m2_shared.specs.declared.peer_grants.PeerGrants.{PeerGrants}
use Rattle.m2_core.specs.LiveNow.{HoldsNothing, LiveNow, asked_in}
use Rattle.m2_shared.specs.Gates.{Return, Stay, held, words}
use Rattle.m2_shared.specs.declared.throttles.TakePasses.{TakePasses}
use Rattle.m2_shared.specs.declared.throttles.Throttles.{Throttles}
use Rattle.m2_core.proofs.Holding.{none_at, nothing_for}
use Rattle.m2_core.specs.Effects.{closed_if, closed_of, effects_of}
use Rattle.m2_core.specs.LiveCalls.{resumed_by_ask, tells_if, with_taken}
use Rattle.m2_core.proofs.Agreeing.{IsResumed, agreed, core_of, feeds_as, leads_by}
use Rattle.m2_core.proofs.Numbered.{has_text}
use Rattle.m2_core.specs.declared.verdict.Verdict.{Verdict}
use Rattle.m2_core.specs.Agrees.{Agrees, FeedsAgree}
use Rattle.m2_core.specs.CoreNow.{CoreNow, Holds, IsSound}
use Rattle.m2_core.specs.Judging.{CanJudge, IsAnswerFrame, IsVerdict, MayBeJudged, acceptance_text, carried_by, entry_of, told_of, verdict_on}
use Rattle.m2_core.specs.TakingOver.{MakesJudgement, IsTakenFeed, after_answering, after_taking}
use Rattle.m2_feed.proofs.Heeding.{is_ready}

-- ---- the entry may come

pub is_verdict : (c : CoreNow) (ask : AskFacts) (number : ℕ) → CanJudge ask number c → IsVerdict (verdict_on ask number c.live) c
is_verdict c ask number can = record { can = can; answer = refl }

pub may_judge : (c : CoreNow) (ask : AskFacts) (number : ℕ) → CanJudge ask number c → MayBeJudged (verdict_on ask number c.live) c
may_judge c ask number can socket unread trail s a asking = record {
  unused = record { from = subst (λ n. n < number) a.top can.from; to = can.to };
  readable = can.readable;
  by_the_tables = rw (← a.session, ← a.queue) refl;
  not_opened = asking.not_opened;
  asks_again = asking.asks_again;
  of_trail = asking.of_trail;
}

-- ---- what the session is told

-- an event that has a row in the table
record HasRow (s : Session) (e : Event) : Type 0 where
  lawful : IsTrue (is_lawful s e)
  follower : HasFollower e

-- what it is told where the socket is taken
abbrev took : Bool → (full : Bool) → AskFacts → (server : ℕ) → Event
took true full a server = event.TookIdent full a.client server a.global
took false full a server = event.TookReconnect a.global a.connect

-- and where it isn't
abbrev pub IsQuiet : Option Event → Type 0
IsQuiet None = Unit {0}
IsQuiet (Some event.Pending) = Unit {0}
IsQuiet (Some _) = ⊥

ident_takes : (a : Answer) (client server global : ℕ) → takes a ≡ true → (full : Bool) × (ident_event a client server global ≡ Some (event.TookIdent full client server global))
ident_takes answer.Accept client server global e = (false, refl)
ident_takes answer.AcceptOver client server global e = (false, refl)
ident_takes (answer.AcceptReset full) client server global e = (full, refl)
ident_takes answer.AcceptAgain client server global e = (false, refl)
ident_takes answer.AcceptReplace client server global e = (false, refl)
ident_takes answer.AcceptRace client server global e = (false, refl)
ident_takes answer.Close client server global e = cc
ident_takes answer.Wait client server global e = cc
ident_takes (answer.Reset full) client server global e = cc
ident_takes answer.ResetPending client server global e = cc
ident_takes (answer.RetryGlobal number) client server global e = cc
ident_takes (answer.Retry number) client server global e = cc
ident_takes answer.Resume client server global e = (false, refl)

ident_refuses : (a : Answer) (client server global : ℕ) → takes a ≡ false → ident_event a client server global ≡ None
ident_refuses answer.Accept client server global e = cc
ident_refuses answer.AcceptOver client server global e = cc
ident_refuses (answer.AcceptReset full) client server global e = cc
ident_refuses answer.AcceptAgain client server global e = cc
ident_refuses answer.AcceptReplace client server global e = cc
ident_refuses answer.AcceptRace client server global e = cc
ident_refuses answer.Close client server global e = refl
ident_refuses answer.Wait client server global e = refl
ident_refuses (answer.Reset full) client server global e = refl
ident_refuses answer.ResetPending client server global e = refl
ident_refuses (answer.RetryGlobal number) client server global e = refl
ident_refuses (answer.Retry number) client server global e = refl
ident_refuses answer.Resume client server global e = cc

reconnect_refuses : (a : Answer) (ask : Reconnect) → takes a ≡ false → IsQuiet (reconnect_event a ask)
reconnect_refuses answer.Accept ask e = tt
reconnect_refuses answer.AcceptOver ask e = tt
reconnect_refuses (answer.AcceptReset full) ask e = tt
reconnect_refuses answer.AcceptAgain ask e = tt
reconnect_refuses answer.AcceptReplace ask e = tt
reconnect_refuses answer.AcceptRace ask e = tt
reconnect_refuses answer.Close ask e = tt
reconnect_refuses answer.Wait ask e = tt
reconnect_refuses (answer.Reset full) ask e = tt
reconnect_refuses answer.ResetPending ask e = tt
reconnect_refuses (answer.RetryGlobal number) ask e = tt
reconnect_refuses (answer.Retry number) ask e = tt
reconnect_refuses answer.Resume ask e = cc

pub reconnect_takes : (s : Session) (ask : Reconnect) (written : ℕ) → takes (reconnect_answer s ask written) ≡ true → reconnect_answer s ask written ≡ answer.Resume
reconnect_takes s ask written =
    each_answer (λ a. takes a ≡ true → a ≡ answer.Resume) (reconnect_rows s ask written) answer.Resume
    (λ h. cc, (λ h. cc, (λ h. cc, (λ h. cc, (λ h. cc, (λ h. cc, (λ h. cc, (λ h. cc, tt))))))))
    (λ h. refl)

ident_accepts : (s : Session) (client global : ℕ) → takes (ident_answer s client global) ≡ true → accepts (ident_answer s client global) ≡ true
ident_accepts s client global =
    each_answer (λ a. takes a ≡ true → accepts a ≡ true) (ident_rows s client global) answer.Wait
    (λ h. refl, (λ h. cc, (λ h. refl, (λ h. refl, (λ h. refl, (λ h. refl, (λ h. refl, tt)))))))
    (λ h. cc)

-- the answer by the tables to an ask of this kind
abbrev pub answered_by : Bool → Session → AskFacts → (written : ℕ) → Answer
answered_by b s a written = if b then ident_answer s a.client a.global else reconnect_answer s (reconnect_of a) written

abbrev pub told_by : Bool → AskFacts → Answer → (server : ℕ) → Option Event
told_by b a given server = if b then told_of_ident a given server else told_of_reconnect a given

resumes : (s : Session) (a : AskFacts) (given : Answer) (written : ℕ) → given ≡ answered_by false s a written → takes given ≡ true → given ≡ answer.Resume
resumes s a given written e t = e ∙ reconnect_takes s (reconnect_of a) written (subst (λ (z : Answer). takes z ≡ true) e t)

takes_by : (b : Bool) (s : Session) (a k : AskFacts) (given : Answer) (written server : ℕ) → given ≡ answered_by b s a written → takes given ≡ true →
    (full : Bool) × (told_by b k given server ≡ Some (took b full k server))
takes_by true s a k given written server e t = ident_takes given k.client server k.global t
takes_by false s a k given written server e t = (false, rw (resumes s a given written e t) refl)

pub refuses_by : (b : Bool) (k : AskFacts) (given : Answer) (server : ℕ) → takes given ≡ false → IsQuiet (told_by b k given server)
refuses_by true k given server t = rw (ident_refuses given k.client server k.global t) tt
refuses_by false k given server t = reconnect_refuses given (reconnect_of k) t

told_taking : (c : CoreNow) (v : Verdict) → IsVerdict v c → takes v.answer ≡ true →
    (full : Bool) × (told_of c.facts v ≡ Some (took v.ask.ident full (kept_of c.facts v.ask) (cookie_of c.facts v.number)))
told_taking c v is t = takes_by v.ask.ident c.live.session v.ask (kept_of c.facts v.ask) v.answer c.live.out.queue.written (cookie_of c.facts v.number) is.answer t

told_refusing : (c : CoreNow) (v : Verdict) → takes v.answer ≡ false → IsQuiet (told_of c.facts v)
told_refusing c v t = refuses_by v.ask.ident (kept_of c.facts v.ask) v.answer (cookie_of c.facts v.number) t

-- ---- a row for what it is told

every_phase : (p : Phase) → IsTrue (phases.is_among p phases.all_phases)
every_phase phase.Absent = refl
every_phase phase.Connecting = refl
every_phase phase.IdentSent = refl
every_phase phase.ReconnectSent = refl
every_phase phase.Ready = refl
every_phase phase.Standby = refl
every_phase phase.Wait = refl

either : (b c : Bool) → c ≡ true → b || c ≡ true
either true c e = refl
either false c e = e

-- of a session that keeps the cookies of its policy, and an ask that can be read
kept_or_differs : (ready lossy : Bool) (server client asked : ℕ) → (lossy ≡ true → client ≡ 0) → (lossy ≡ false → ready ≡ true → server ≢ 0) → asked ≢ 0 →
    ready ≡ true → is_kept server || differs client asked ≡ true
kept_or_differs ready true server client asked none some other is = rw (none refl) (either (is_kept server) (differs 0 asked) (rw (ne_eqb 0 asked (λ e. other (sym e))) refl))
kept_or_differs ready false server client asked none some other is = rw (ne_eqb server 0 (some refl is)) refl

sound_ask : (f : SideFacts) (s : Session) (ask : Reconnect) → SessionIsSound f s → ask.client ≢ 0 → sessions.IsSound s ask
sound_ask f s ask h other =
    kept_or_differs (phases.is s.phase phase.Ready) f.policy.lossy s.server_cookie s.client_cookie ask.client h.client
    (λ e ready. h.server e (is_ready s.phase ready)) other

-- what is told of a reconnect doesn't hang on its cookies
reconnect_row : (s : Session) (given : Answer) (ask told : Reconnect) → told.global ≡ ask.global → told.connect ≡ ask.connect →
    IfSome (reconnect_event given ask) (λ e. IsTrue (is_lawful s e)) → IfSome (reconnect_event given told) (HasRow s)
reconnect_row s answer.Accept ask told g n h = tt
reconnect_row s answer.AcceptOver ask told g n h = tt
reconnect_row s (answer.AcceptReset full) ask told g n h = tt
reconnect_row s answer.AcceptAgain ask told g n h = tt
reconnect_row s answer.AcceptReplace ask told g n h = tt
reconnect_row s answer.AcceptRace ask told g n h = tt
reconnect_row s answer.Close ask told g n h = tt
reconnect_row s answer.Wait ask told g n h = tt
reconnect_row s (answer.Reset full) ask told g n h = tt
reconnect_row s answer.ResetPending ask told g n h = record { lawful = h; follower = tt }
reconnect_row s (answer.RetryGlobal number) ask told g n h = tt
reconnect_row s (answer.Retry number) ask told g n h = tt
reconnect_row s answer.Resume ask told g n h = record { lawful = h; follower = tt }

row_by : (b : Bool) (s : Session) (a k : AskFacts) (given : Answer) (written server : ℕ) → k.global ≡ a.global → k.connect ≡ a.connect →
    (b ≡ false → sessions.IsSound s (reconnect_of a)) → given ≡ answered_by b s a written → IfSome (told_by b k given server) (HasRow s)
row_by true s a k given written server g n sound e =
    let all : (full : Bool) → HasRow s (event.TookIdent full k.client server k.global) = λ full. record { lawful = every_phase s.phase; follower = tt } in
    subst (λ (z : Answer). IfSome (told_of_ident k z server) (HasRow s)) (sym e)
    (each_answer (λ z. IfSome (ident_event z k.client server k.global) (HasRow s)) (ident_rows s a.client a.global) answer.Wait
    (all false, (tt, (all false, (all s.policy.resetcheck, (all false, (all false, (all false, tt))))))) tt)
row_by false s a k given written server g n sound e =
    subst (λ (z : Answer). IfSome (told_of_reconnect k z) (HasRow s)) (sym e)
    (reconnect_row s (reconnect_answer s (reconnect_of a) written) (reconnect_of a) (reconnect_of k) g n
    (answers_are_lawful_lem.reconnect s (reconnect_of a) written (sound refl)))

told_row : (c : CoreNow) (v : Verdict) → IsVerdict v c → IfSome (told_of c.facts v) (HasRow c.live.session)
told_row c v is =
    row_by v.ask.ident c.live.session v.ask (kept_of c.facts v.ask) v.answer c.live.out.queue.written (cookie_of c.facts v.number) refl refl
    (λ e. sound_ask c.facts c.live.session (reconnect_of v.ask) is.can.session (is.can.readable.reconnect e).0) is.answer

lawful_of : (s : Session) (o : Option Event) → IfSome o (HasRow s) → IfSome o (λ e. IsTrue (is_lawful s e))
lawful_of s (Some e) h = h.lawful
lawful_of s None h = tt

follows_of : (s : Session) (o : Option Event) → IfSome o (HasRow s) → IfSome o HasFollower
follows_of s (Some e) h = h.follower
follows_of s None h = tt

pub lawful : (c : CoreNow) (v : Verdict) (o : Option Event) → IsVerdict v c → o ≡ told_of c.facts v → IfSome o (λ e. IsTrue (is_lawful c.live.session e))
lawful c v o is e = rw e (lawful_of c.live.session (told_of c.facts v) (told_row c v is))

pub follows : (c : CoreNow) (v : Verdict) (o : Option Event) → IsVerdict v c → o ≡ told_of c.facts v → IfSome o HasFollower
follows c v o is e = rw e (follows_of c.live.session (told_of c.facts v) (told_row c v is))

-- ---- the frame of an acceptance

abbrev carried : SideFacts → (number last : ℕ) → Carried
carried f number last = record { cookie = cookie_of f number; global = number; last = last }

abbrev acceptance_by : Bool → SideFacts → (number last : ℕ) → OutFrame
acceptance_by b f number last = if b then out.server_ident (cookie_of f number) number else out.reconnect_ok last

ident_frame : (f : SideFacts) (number last : ℕ) (a : Answer) → accepts a ≡ true →
    frame_of (speaker_of f) (carried f number last) a ≡ Some (out.server_ident_of f (cookie_of f number) number)
ident_frame f number last answer.Accept e = refl
ident_frame f number last answer.AcceptOver e = refl
ident_frame f number last (answer.AcceptReset full) e = refl
ident_frame f number last answer.AcceptAgain e = refl
ident_frame f number last answer.AcceptReplace e = refl
ident_frame f number last answer.AcceptRace e = refl
ident_frame f number last answer.Close e = cc
ident_frame f number last answer.Wait e = cc
ident_frame f number last (answer.Reset full) e = cc
ident_frame f number last answer.ResetPending e = cc
ident_frame f number last (answer.RetryGlobal n) e = cc
ident_frame f number last (answer.Retry n) e = cc
ident_frame f number last answer.Resume e = cc

-- the payload, for a kind of ask
abbrev payload_by : Bool → SideFacts → (number last : ℕ) → Control
payload_by b f number last = if b then out.server_ident_of f (cookie_of f number) number else control.SessionReconnectOk (record { seen = last })

frame_by : (b : Bool) (f : SideFacts) (s : Session) (a : AskFacts) (given : Answer) (written number last : ℕ) → given ≡ answered_by b s a written → takes given ≡ true →
    frame_of (speaker_of f) (carried f number last) given ≡ Some (payload_by b f number last)
frame_by true f s a given written number last e t =
    ident_frame f number last given (subst (λ (z : Answer). accepts z ≡ true) (sym e) (ident_accepts s a.client a.global (subst (λ (z : Answer). takes z ≡ true) e t)))
frame_by false f s a given written number last e t = rw (resumes s a given written e t) refl

payload_writable : (b : Bool) (f : SideFacts) (number last : ℕ) → IsWritable (payload_by b f number last)
payload_writable true f number last = tt
payload_writable false f number last = tt

payload_short : (b : Bool) (f : SideFacts) (number last : ℕ) → length (text_of (payload_by b f number last)) ≤ CONTROL_LIMIT
payload_short true f number last = let n : length (text_of (payload_by true f number last)) ≡ 88 = refl in omega (arith, n)
payload_short false f number last = let n : length (text_of (payload_by false f number last)) ≡ 8 = refl in omega (arith, n)

payload_text : (b : Bool) (f : SideFacts) (number last : ℕ) → frame_text (payload_by b f number last) ≡ out.text_of f (acceptance_by b f number last)
payload_text true f number last = refl
payload_text false f number last = refl

frame_of_verdict : (c : CoreNow) (v : Verdict) → IsVerdict v c → takes v.answer ≡ true →
    frame_of (speaker_of c.facts) (carried_by c.facts v c.live.last) v.answer ≡ Some (payload_by v.ask.ident c.facts v.number c.live.last)
frame_of_verdict c v is t = frame_by v.ask.ident c.facts c.live.session v.ask v.answer c.live.out.queue.written v.number c.live.last is.answer t

some_same : (a b : Control) → Some a ≡ Some b → a ≡ b
some_same a b h = ap (λ (z : Option Control). elim z as (λ _. Control) [ Some x ↦ x | None ↦ a ]) h

payload_is : (c : CoreNow) (v : Verdict) (x : Control) → IsVerdict v c → takes v.answer ≡ true → IsAnswerFrame c.facts v c.live.last x →
    payload_by v.ask.ident c.facts v.number c.live.last ≡ x
payload_is c v x is t e = some_same _ x (sym (frame_of_verdict c v is t) ∙ e)

pub acceptance_writable : (c : CoreNow) (v : Verdict) (x : Control) → IsVerdict v c → takes v.answer ≡ true → IsAnswerFrame c.facts v c.live.last x → IsWritable x
acceptance_writable c v x is t e = subst IsWritable (payload_is c v x is t e) (payload_writable v.ask.ident c.facts v.number c.live.last)

pub acceptance_short : (c : CoreNow) (v : Verdict) (x : Control) → IsVerdict v c → takes v.answer ≡ true → IsAnswerFrame c.facts v c.live.last x → length (text_of x) ≤ CONTROL_LIMIT
acceptance_short c v x is t e = subst (λ z. length (text_of z) ≤ CONTROL_LIMIT) (payload_is c v x is t e) (payload_short v.ask.ident c.facts v.number c.live.last)

pub acceptance_text_is : (c : CoreNow) (v : Verdict) (x : Control) → IsVerdict v c → takes v.answer ≡ true → IsAnswerFrame c.facts v c.live.last x → frame_text x ≡ acceptance_text c.facts v c.live.last
acceptance_text_is c v x is t e = sym (ap frame_text (payload_is c v x is t e)) ∙ payload_text v.ask.ident c.facts v.number c.live.last

pub some_frame : (c : CoreNow) (v : Verdict) → IsVerdict v c → takes v.answer ≡ true →
    None ≡ frame_of (speaker_of c.facts) (carried_by c.facts v c.live.last) v.answer → ⊥
some_frame c v is t e = none_some (e ∙ frame_of_verdict c v is t)
  where
    none_some : {x : Control} → None ≡ Some x → ⊥
    none_some h = absurd cc

-- ---- an answer that takes no socket

abbrev answering : (number : ℕ) → Option Event → CoreNow → CoreNow
answering number o c = record c { live = tells_if o c.live; top = number }

answered_at : ChangesBeside → (o : Option Event) → IsQuiet o → (f : SideFacts) (s : State) (n r number : ℕ) (x : Option FeedNow) (g : PeerGrants) (y : Option Feed)
    (k : SocketId) (a : AskFacts) (given : Answer) → FeedsAgree f (record s { feed = y }) x y → IsResumed r y →
    Agrees (answering number o (core_of f (record s { feed = y }) n r x g))
    (replay.sends k (replies_of given) (replay.tells_if o (replay.notes k a number given (record s { feed = y }))))
answered_at changes None q f s n r number x g y k a given st told = record {
  session = refl;
  queue = refl;
  last = refl;
  life = refl;
  owes = refl;
  dials = refl;
  top = refl;
  feed = feeds_as changes f (record s { feed = y }) _ x y refl refl refl st;
  resumed = told;
}
answered_at changes (Some event.Pending) q f s n r number x g (Some d) k a given st told =
    record { session = refl; queue = refl; last = refl; life = refl; owes = refl; dials = refl; top = refl; feed = tt; resumed = inl refl }
answered_at changes (Some event.Pending) q f s n r number x g None k a given st told =
    record { session = refl; queue = refl; last = refl; life = refl; owes = refl; dials = refl; top = refl; feed = tt; resumed = inl refl }
answered_at changes (Some event.Dialled) q f s n r number x g y k a given st told = absurd q
answered_at changes (Some (event.AskedIdent cookie)) q f s n r number x g y k a given st told = absurd q
answered_at changes (Some event.AskedReconnect) q f s n r number x g y k a given st told = absurd q
answered_at changes (Some (event.GotServerIdent cookie global)) q f s n r number x g y k a given st told = absurd q
answered_at changes (Some event.GotReconnectOk) q f s n r number x g y k a given st told = absurd q
answered_at changes (Some (event.GotReset full)) q f s n r number x g y k a given st told = absurd q
answered_at changes (Some (event.GotRetry m)) q f s n r number x g y k a given st told = absurd q
answered_at changes (Some (event.GotRetryGlobal m)) q f s n r number x g y k a given st told = absurd q
answered_at changes (Some event.GotWait) q f s n r number x g y k a given st told = absurd q
answered_at changes (Some (event.TookIdent full client server global)) q f s n r number x g y k a given st told = absurd q
answered_at changes (Some (event.TookReconnect global connect)) q f s n r number x g y k a given st told = absurd q
answered_at changes (Some (event.Faulted waits)) q f s n r number x g y k a given st told = absurd q
answered_at changes (Some event.MarkedDown) q f s n r number x g y k a given st told = absurd q

-- where the answer takes no socket, the replay only sends its reply
refused_at : (b : Bool) → b ≡ false → (u : CoreNow) (taken sent : State) → Agrees u sent → Agrees u (if b then taken else sent)
refused_at b e u taken sent h = rw e h

judged_refusing : ChangesBeside → (c : CoreNow) (v : Verdict) → takes v.answer ≡ false → (k : SocketId) (unread : List ℕ) → MakesJudgement v k unread c (after_answering v c)
judged_refusing changes c v t k unread trail =
    leads_by (λ u. after_answering v u) (entry_of v k unread trail) c
    (λ s st r. refused_at (takes v.answer) t _ _ _
    (answered_at changes (told_of c.facts v) (told_refusing c v t) c.facts s c.live.out.spare c.live.resumed v.number c.live.feed c.live.granted s.feed k v.ask v.answer st r))

-- as the code comes to it
pub answers : ChangesBeside → (c : CoreNow) (v : Verdict) (o : Option Event) (l : LiveNow) → takes v.answer ≡ false → o ≡ told_of c.facts v → l ≡ tells_if o c.live →
    (k : SocketId) (unread : List ℕ) → MakesJudgement v k unread c (record c { live = l; top = v.number })
answers changes c v o l t e h k unread = rw (h, e) (judged_refusing changes c v t k unread)

-- ---- an answer that takes the socket

told_self : (n : ℕ) (rest : List ℕ) → list_any (λ m. m == n) (n ∷ rest) ≡ true
told_self n rest = rw (eq-eqb n n refl) refl

-- the text of each acceptance is that of a frame that an entry names
named : (f : SideFacts) (b : Bool) (number last : ℕ) → IsAcceptance f (acceptance_by b f number last)
named f true number last = record { named = refl; silent = refl; some = has_text _ }
named f false number last = record { named = refl; silent = refl; some = has_text _ }

abbrev taking : (number resumed : ℕ) → Option Event → FeedNow → CoreNow → CoreNow
taking number resumed o d c = record c { live = with_taken o d resumed c.live; dials = false; top = number }

-- an ask by its numbers
abbrev ask_by : (ident : Bool) → (client server global connect seen : ℕ) → AskFacts
ask_by ident client server global connect seen = record { ident = ident; client = client; server = server; global = global; connect = connect; seen = seen }

module _ (law : TakesOverBeside) (end : SeenEnd) (unread : List ℕ) (d : FeedNow) where
  taken_at : (b full : Bool) (client server global connect seen kept : ℕ) (given : Answer) (f : SideFacts) (s : State) (n r number : ℕ) (x : Option FeedNow) (g : PeerGrants) (y : Option Feed) →
      d ≡ at_acceptance end unread false (out.text_of f (acceptance_by b f number s.last)) d →
      Agrees (taking number (resumed_by_ask (ask_by b client server global connect seen)) (Some (took b full (ask_by b kept server global connect seen) (cookie_of f number))) d (core_of f (record s { feed = y }) n r x g))
      (replay.takes_socket f end.id (ask_by b client server global connect seen) number unread
      (replay.tells_if (Some (took b full (ask_by b kept server global connect seen) (cookie_of f number)))
      (replay.notes end.id (ask_by b client server global connect seen) number given (record s { feed = y }))))
  taken_at true true client server global connect seen kept given f s n r number x g (Some o) e =
      record { session = refl; queue = refl; last = refl; life = refl; owes = refl; dials = refl; top = refl; feed = law f _ end unread _ _ _ _ d (named f true number s.last) e; resumed = inl refl }
  taken_at true true client server global connect seen kept given f s n r number x g None e =
      record { session = refl; queue = refl; last = refl; life = refl; owes = refl; dials = refl; top = refl; feed = law f _ end unread _ _ _ _ d (named f true number s.last) e; resumed = inl refl }
  taken_at true false client server global connect seen kept given f s n r number x g (Some o) e =
      record { session = refl; queue = refl; last = refl; life = refl; owes = refl; dials = refl; top = refl; feed = law f _ end unread _ _ _ _ d (named f true number s.last) e; resumed = inl refl }
  taken_at true false client server global connect seen kept given f s n r number x g None e =
      record { session = refl; queue = refl; last = refl; life = refl; owes = refl; dials = refl; top = refl; feed = law f _ end unread _ _ _ _ d (named f true number s.last) e; resumed = inl refl }
  taken_at false full client server global connect seen kept given f s n r number x g (Some o) e =
      record { session = refl; queue = refl; last = refl; life = refl; owes = refl; dials = refl; top = refl; feed = law f _ end unread _ _ _ _ d (named f false number s.last) e; resumed = inr (told_self seen _) }
  taken_at false full client server global connect seen kept given f s n r number x g None e =
      record { session = refl; queue = refl; last = refl; life = refl; owes = refl; dials = refl; top = refl; feed = law f _ end unread _ _ _ _ d (named f false number s.last) e; resumed = inr (told_self seen _) }

-- what the session is told, and that the socket is taken, as they are known
taken_as : (F : Option Event → CoreNow) (G H : Option Event → State) (o : Option Event) (e : Event) (b : Bool) → o ≡ Some e → b ≡ true → Agrees (F (Some e)) (G (Some e)) →
    Agrees (F o) (if b then G o else H o)
taken_as F G H o e b i t h = rw (i, t) h

judged_taking : TakesOverBeside → (c : CoreNow) (v : Verdict) (end : SeenEnd) (unread : List ℕ) (d : FeedNow) → IsVerdict v c → takes v.answer ≡ true → IsTakenFeed v end unread c d →
    MakesJudgement v end.id unread c (after_taking v d c)
judged_taking law c v end unread d is t e trail s a =
    let told = told_taking c v is t in
    let f = c.facts in
    let known = core_of f s c.live.out.spare c.live.resumed c.live.feed c.live.granted in
    subst (λ (u : CoreNow). Agrees (after_taking v d u) (after f (entry_of v end.id unread trail) s)) (agreed c s a)
    (taken_as (λ o. taking v.number (resumed_by_ask v.ask) o d known)
    (λ o. replay.takes_socket f end.id v.ask v.number unread (replay.tells_if o (replay.notes end.id v.ask v.number v.answer s)))
    (λ o. replay.sends end.id (replies_of v.answer) (replay.tells_if o (replay.notes end.id v.ask v.number v.answer s)))
    (told_of f v) _ (takes v.answer) told.1 t
    (taken_at law end unread d v.ask.ident told.0 v.ask.client v.ask.server v.ask.global v.ask.connect v.ask.seen (kept_of f v.ask).client v.answer f s
    c.live.out.spare c.live.resumed v.number c.live.feed c.live.granted s.feed
    (subst (λ n. d ≡ at_acceptance end unread false (acceptance_text f v n) d) a.last e)))

-- ---- what holds of each core

quiet_sound : (o : Option Event) → IsQuiet o → (l : LiveNow) → IsSound l → IsSound (tells_if o l)
quiet_sound None q l h = h
quiet_sound (Some event.Pending) q l h = record {
  fed = standing (phases.is l.session.phase phase.Standby);
  asked = tt;
  connect = h.connect;
  numbers = h.numbers;
  grant = refl;
  told = refl;
  ungranted = λ _. refl;
}
  where
    standing : (b : Bool) → false ≡ phases.is_among (if b then phase.Standby else phase.Wait) phases.with_feed
    standing true = refl
    standing false = refl
quiet_sound (Some event.Dialled) q l h = absurd q
quiet_sound (Some (event.AskedIdent cookie)) q l h = absurd q
quiet_sound (Some event.AskedReconnect) q l h = absurd q
quiet_sound (Some (event.GotServerIdent cookie global)) q l h = absurd q
quiet_sound (Some event.GotReconnectOk) q l h = absurd q
quiet_sound (Some (event.GotReset full)) q l h = absurd q
quiet_sound (Some (event.GotRetry m)) q l h = absurd q
quiet_sound (Some (event.GotRetryGlobal m)) q l h = absurd q
quiet_sound (Some event.GotWait) q l h = absurd q
quiet_sound (Some (event.TookIdent full client server global)) q l h = absurd q
quiet_sound (Some (event.TookReconnect global connect)) q l h = absurd q
quiet_sound (Some (event.Faulted waits)) q l h = absurd q
quiet_sound (Some event.MarkedDown) q l h = absurd q

pub keeps_answering : (c : CoreNow) (v : Verdict) (o : Option Event) (l : LiveNow) → Holds c → takes v.answer ≡ false → o ≡ told_of c.facts v → l ≡ tells_if o c.live →
    Holds (record c { live = l; top = v.number })
keeps_answering c v o l h t e g = record { place = h.place; sound = rw (g, e) (quiet_sound (told_of c.facts v) (told_refusing c v t) c.live h.sound) }

taken_sound : (b full : Bool) (a : AskFacts) (server resumed : ℕ) (d : FeedNow) (rest : List ℕ) (l : LiveNow) → a.connect ≤ GREATEST_NUMBER → d.reading ≡ framing rest false → IsSound l →
    IsSound (with_taken (Some (took b full a server)) d resumed l)
taken_sound true true a server resumed d rest l n r h = record { fed = refl; asked = rw r (λ e. cc); connect = omega arith; numbers = omega arith; grant = nothing_for (asked_in d.reading) l.granted.peer; told = rw r refl; ungranted = λ _. refl }
taken_sound true false a server resumed d rest l n r h = let m = h.numbers in record { fed = refl; asked = rw r (λ e. cc); connect = omega arith; numbers = omega (arith, m); grant = nothing_for (asked_in d.reading) l.granted.peer; told = rw r refl; ungranted = λ _. refl }
taken_sound false full a server resumed d rest l n r h = record { fed = refl; asked = rw r (λ e. cc); connect = omega (arith, n); numbers = h.numbers; grant = nothing_for (asked_in d.reading) l.granted.peer; told = rw r refl; ungranted = λ _. refl }

holds_by : (o : Option Event) (e : Event) (d : FeedNow) (resumed : ℕ) (l : LiveNow) → o ≡ Some e → IsSound (with_taken (Some e) d resumed l) → IsSound (with_taken o d resumed l)
holds_by o e d resumed l i h = rw i h

pub keeps_taking : (c : CoreNow) (v : Verdict) (o : Option Event) (end : SeenEnd) (unread : List ℕ) (d : FeedNow) (l : LiveNow) → Holds c → IsVerdict v c → takes v.answer ≡ true →
    o ≡ told_of c.facts v → IsTakenFeed v end unread c d → l ≡ with_taken o d (resumed_by_ask v.ask) c.live → Holds (record c { live = l; dials = false; top = v.number })
keeps_taking c v o end unread d l h is t e b g =
    let told = told_taking c v is t in
    record {
      place = h.place;
      sound = rw g (holds_by o _ d (resumed_by_ask v.ask) c.live (e ∙ told.1)
          (taken_sound v.ask.ident told.0 (kept_of c.facts v.ask) (cookie_of c.facts v.number) (resumed_by_ask v.ask) d unread c.live is.can.readable.connect (ap (λ z. z.reading) b) h.sound));
    }

-- as the code comes to its feed
pub as_taken : (end : SeenEnd) (unread : List ℕ) (granted : Bool) (bytes text : List ℕ) (d : FeedNow) → granted ≡ false → bytes ≡ text →
    d ≡ at_acceptance end unread granted bytes d → d ≡ at_acceptance end unread false text d
as_taken end unread granted bytes text d g t e =
    subst (λ (z : List ℕ). d ≡ at_acceptance end unread false z d) t (subst (λ (z : Bool). d ≡ at_acceptance end unread z bytes d) g e)

pub takes_value : (c : CoreNow) (v : Verdict) (o : Option Event) (end : SeenEnd) (unread : List ℕ) (d : FeedNow) (l : LiveNow) → Holds c →
    o ≡ told_of c.facts v → IsTakenFeed v end unread c d → l ≡ with_taken o d (resumed_by_ask v.ask) c.live →
    IfSome l.feed (λ z. IsTakenFeed v end unread c z × (record c { live = l; dials = false; top = v.number } ≡ after_taking v z c))
takes_value c v o end unread d l h e b g = rw (g, e) (b, refl)

-- as the code comes to it
pub takes_over : TakesOverBeside → (c : CoreNow) (v : Verdict) (o : Option Event) (end : SeenEnd) (unread : List ℕ) (d : FeedNow) (l : LiveNow) → IsVerdict v c → takes v.answer ≡ true →
    o ≡ told_of c.facts v → IsTakenFeed v end unread c d → l ≡ with_taken o d (resumed_by_ask v.ask) c.live →
    MakesJudgement v end.id unread c (record c { live = l; dials = false; top = v.number })
takes_over law c v o end unread d l is t e b g = rw (g, e) (judged_taking law c v end unread d is t b)

-- ---- what is given back

closes_by : (o : Option Event) (s : Session) (b full : Bool) (a : AskFacts) (server : ℕ) → o ≡ Some (took b full a server) → (effects_of o s).close ≡ true
closes_by o s true full a server e = rw e refl
closes_by o s false full a server e = rw e refl

-- an answer that takes the socket leaves the old feed
pub closes_all : (c : CoreNow) (v : Verdict) (o : Option Event) → IsVerdict v c → takes v.answer ≡ true → o ≡ told_of c.facts v → (effects_of o c.live.session).close ≡ true
closes_all c v o is t e = let told = told_taking c v is t in closes_by o c.live.session v.ask.ident told.0 _ _ (e ∙ told.1)

pub closes_old : (c : CoreNow) (v : Verdict) (o : Option Event) (x : Option SeenEnd) → IsVerdict v c → takes v.answer ≡ true → o ≡ told_of c.facts v →
    x ≡ closed_if (effects_of o c.live.session).close c.live.feed → x ≡ closed_of c.live.feed
closes_old c v o x is t e b = b ∙ ap (λ (z : Bool). closed_if z c.live.feed) (closes_all c v o is t e)

pending_idle : (p : Phase) → IsTrue (phases.is_among p phases.all_but_absent_and_ready) → phases.is p phase.Ready ≡ false
pending_idle phase.Absent e = refl
pending_idle phase.Connecting e = refl
pending_idle phase.IdentSent e = refl
pending_idle phase.ReconnectSent e = refl
pending_idle phase.Ready e = cc
pending_idle phase.Standby e = refl
pending_idle phase.Wait e = refl

nothing_by : (o : Option Event) → IsQuiet o → (l : LiveNow) → IsSound l → IfSome o (λ e. IsTrue (is_lawful l.session e)) → (effects_of o l.session).close ≡ true → HoldsNothing l.granted
nothing_by None q l h row e = cc
nothing_by (Some event.Pending) q l h row e = h.ungranted (pending_idle l.session.phase row)
nothing_by (Some event.Dialled) q l h row e = absurd q
nothing_by (Some (event.AskedIdent cookie)) q l h row e = absurd q
nothing_by (Some event.AskedReconnect) q l h row e = absurd q
nothing_by (Some (event.GotServerIdent cookie global)) q l h row e = absurd q
nothing_by (Some event.GotReconnectOk) q l h row e = absurd q
nothing_by (Some (event.GotReset full)) q l h row e = absurd q
nothing_by (Some (event.GotRetry m)) q l h row e = absurd q
nothing_by (Some (event.GotRetryGlobal m)) q l h row e = absurd q
nothing_by (Some event.GotWait) q l h row e = absurd q
nothing_by (Some (event.TookIdent full client server global)) q l h row e = absurd q
nothing_by (Some (event.TookReconnect global connect)) q l h row e = absurd q
nothing_by (Some (event.Faulted waits)) q l h row e = absurd q
nothing_by (Some event.MarkedDown) q l h row e = absurd q

-- where a pending socket is closed nothing was granted
pub holds_nothing : (c : CoreNow) (v : Verdict) (o : Option Event) → Holds c → IsVerdict v c → takes v.answer ≡ false → o ≡ told_of c.facts v →
    (effects_of o c.live.session).close ≡ true → HoldsNothing c.live.granted
holds_nothing c v o h is t e = nothing_by o (rw e (told_refusing c v t)) c.live h.sound (lawful c v o is e)

by_closing : (close : Bool) (old new n : ℕ) → (close ≡ true → n ≡ 0) → (close ≡ true → new ≡ old - n) → (close ≡ false → new ≡ old) → new ≡ old
by_closing true old new n none lowers same = let z = none refl in let w = lowers refl in omega (arith, z, w)
by_closing false old new n none lowers same = same refl

-- the words of the throttles stay
pub word_stays : (c : CoreNow) (v : Verdict) (o : Option Event) (t : Throttles) (old new : TakePasses) → Holds c → IsVerdict v c → takes v.answer ≡ false → o ≡ told_of c.facts v →
    ((effects_of o c.live.session).close ≡ true → Return (held c.live.granted) t old new) → ((effects_of o c.live.session).close ≡ false → new ≡ old) → Stay t old new
word_stays c v o t old new h is refuses e lowers same gate alone =
    by_closing (effects_of o c.live.session).close (words old gate) (words new gate) (held c.live.granted gate)
    (λ b. none_at c.live.granted (holds_nothing c v o h is refuses e b) gate) (λ b. lowers b gate alone) (λ b. ap (λ (p : TakePasses). words p gate) (same b))
