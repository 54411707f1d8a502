-- What a session is told of an answer: where it takes the socket the old feed is closed and the session has one, and else it is
-- told nothing, or that it is to wait.
use Rattle.std.proofs.Common.{◌≡◌, ℕ, Bool, true, false, if◌then◌else◌, List, [], ◌++◌, Option, Some, None, refl, sym, ap, subst, ◌∙◌, append-nil}
use Rattle.std.specs.Option.{option_to_list}
use Rattle.m2_turn.specs.m2_session.declared.ask.AskFacts.{AskFacts}
use Rattle.m2_turn.specs.m2_session.Asks.{reconnect_of}
use Rattle.m2_turn.specs.m2_core.Judging.{told_of, verdict_on}
use Rattle.m2_fabric.specs.End.{SeenEnd}
use Rattle.m2_weave.specs.m2_journal.SideFacts.{SideFacts, cookie_of}
use Rattle.m2_weave.specs.m2_journal.Steps.{kept_of}
use Rattle.m2_turn.specs.m2_core.LiveCalls.{tells_if}
use Rattle.m2_turn.specs.m2_core.Effects.{closed_if, effects_of}
use Rattle.m2_turn.specs.m2_core.LiveNow.{LiveNow}
use Rattle.m2_turn.specs.m2_session.declared.answer.Answer.{Answer}
use Rattle.m2_turn.specs.m2_session.declared.answer.Answer.TheVariants as answer
use Rattle.m2_turn.specs.m2_session.declared.event.Event.{Event}
use Rattle.m2_turn.specs.m2_session.declared.event.Event.TheVariants as event
use Rattle.m2_turn.specs.m2_session.declared.session.Phase.TheVariants as phase
use Rattle.m2_turn.specs.m2_session.declared.session.Session.{Session}
use Rattle.m2_turn.specs.m2_session.SessionLaws.{ident_event, reconnect_event, takes}
use Rattle.m2_turn.specs.m2_session.Phases.{is, is_among, with_feed}
use Rattle.m2_growth.proofs.Standing.{StandsOn, stands_by, stands_left}
use Rattle.m2_turn.proofs.m2_core.Judged.{IsQuiet, answered_by, reconnect_takes, refuses_by, told_by}
use Rattle.m2_fabric.proofs.m2_lemmas.Booleans.{false_isnt_true}

-- ---- by the answer

-- the socket is taken
abbrev pub IsTaking : Option Event → Type 0
IsTaking (Some (event.TookIdent full client server global)) = Unit {0}
IsTaking (Some (event.TookReconnect global connect)) = Unit {0}
IsTaking _ = ⊥

ident_taking : (a : Answer) (client server global : ℕ) → takes a ≡ true → IsTaking (ident_event a client server global)
ident_taking answer.Accept client server global e = tt
ident_taking answer.AcceptOver client server global e = tt
ident_taking (answer.AcceptReset full) client server global e = tt
ident_taking answer.AcceptAgain client server global e = tt
ident_taking answer.AcceptReplace client server global e = tt
ident_taking answer.AcceptRace client server global e = tt
ident_taking answer.Resume client server global e = tt
ident_taking _ client server global e = absurd (false_isnt_true e)

taking_by : (b : Bool) (s : Session) (a k : AskFacts) (given : Answer) (written server : ℕ) → given ≡ answered_by b s a written → takes given ≡ true → IsTaking (told_by b k given server)
taking_by true s a k given written server e t = ident_taking given k.client server k.global t
taking_by false s a k given written server e t =
    let resumes : given ≡ answer.Resume = e ∙ reconnect_takes s (reconnect_of a) written (ap takes (sym e) ∙ t) in
    subst (λ (x : Answer). IsTaking (reconnect_event x (reconnect_of k))) (sym resumes) tt

pub told_taking : (f : SideFacts) (ask : AskFacts) (number : ℕ) (l : LiveNow) → takes (verdict_on ask number l).answer ≡ true → IsTaking (told_of f (verdict_on ask number l))
told_taking f ask number l t = taking_by ask.ident l.session ask (kept_of f ask) (verdict_on ask number l).answer l.out.queue.written (cookie_of f number) refl t

pub told_quiet : (f : SideFacts) (ask : AskFacts) (number : ℕ) (l : LiveNow) → takes (verdict_on ask number l).answer ≡ false → IsQuiet (told_of f (verdict_on ask number l))
told_quiet f ask number l t = refuses_by ask.ident (kept_of f ask) (verdict_on ask number l).answer (cookie_of f number) t

-- ---- what is left by it

-- the feed is left where it is to wait, and else nothing changes
waits_unfed : (b : Bool) → is_among (if b then phase.Standby else phase.Wait) with_feed ≡ false
waits_unfed true = refl
waits_unfed false = refl

pub quiet_stands : (o : Option Event) (l : LiveNow) (spent : List SeenEnd) → IsQuiet o →
    StandsOn (record { phase = l.session.phase; feed = l.feed; spent = spent })
    (record { phase = (tells_if o l).session.phase; feed = (tells_if o l).feed; spent = spent ++ option_to_list (closed_if (effects_of o l.session).close l.feed) })
quiet_stands None l spent quiet =
    stands_by (record { phase = l.session.phase; feed = l.feed; spent = spent }) (record { phase = l.session.phase; feed = l.feed; spent = spent ++ [] })
    (ap (λ es. record { phase = l.session.phase; feed = l.feed; spent = es }) (append-nil spent))
quiet_stands (Some event.Pending) l spent quiet =
    stands_left (record { phase = l.session.phase; feed = l.feed; spent = spent })
    (record { phase = (if is l.session.phase phase.Standby then phase.Standby else phase.Wait); feed = None; spent = spent ++ option_to_list (closed_if true l.feed) })
    refl (waits_unfed (is l.session.phase phase.Standby)) refl
quiet_stands (Some _) l spent quiet = absurd quiet

-- where the socket is taken the old feed is closed, and the phase is one that has a feed
pub taking_closes : (o : Option Event) (s : Session) → IsTaking o → (effects_of o s).close ≡ true
taking_closes (Some (event.TookIdent full client server global)) s t = refl
taking_closes (Some (event.TookReconnect global connect)) s t = refl
taking_closes (Some _) s t = absurd t
taking_closes None s t = absurd t

ident_feeds : (full : Bool) (client server global : ℕ) (l : LiveNow) → is_among (tells_if (Some (event.TookIdent full client server global)) l).session.phase with_feed ≡ true
ident_feeds true client server global l = refl
ident_feeds false client server global l = refl

pub taking_feeds : (o : Option Event) (l : LiveNow) → IsTaking o → is_among (tells_if o l).session.phase with_feed ≡ true
taking_feeds (Some (event.TookIdent full client server global)) l t = ident_feeds full client server global l
taking_feeds (Some (event.TookReconnect global connect)) l t = refl
taking_feeds (Some _) l t = absurd t
taking_feeds None l t = absurd t
