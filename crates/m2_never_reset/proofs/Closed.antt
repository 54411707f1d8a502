-- A feed that is closed for a fault is a step of the link; a spent socket that is closed is none.
--
-- Closed, of the feed: `leaves`; of a spent socket: no step.
use Rattle.std.proofs.Common.{◌≡◌, ℕ, ◌+◌, ◌⊎◌, inl, inr, Bool, true, false, not, ◌&&◌, ◌||◌, if◌then◌else◌, length, Option, Some, None, refl, sym, ap, ◌∙◌, subst}
use Rattle.m2_session.specs.declared.event.Effects.{Effects}
use Rattle.m2_session.specs.declared.event.Event.TheVariants as event
use Rattle.m2_session.specs.declared.session.Phase.TheVariants as phase
use Rattle.m2_session.specs.declared.session.Session.{Session}
use Rattle.m2_session.specs.Phases as phases
use Rattle.m2_session.specs.Steps.{closes, fault}
use Rattle.m2_journal.specs.Lawful.{judged_sockets}
use Rattle.m2_journal.specs.Laws.{IfFed}
use Rattle.m2_journal.specs.State.{Feed, State}
use Rattle.m2_journal.specs.Steps.{is_on, is_waiting, breaks, forgets, has_effects}
use Rattle.m2_never_reset.specs.Link.{standby, waiting}
use Rattle.m2_never_reset.specs.Roles.{Role}
use Rattle.m2_never_reset.specs.Steps.{Run, leaves}
use Rattle.m2_never_reset.specs.LinkOf.{role_of, asks_left, letters, joined_by, node_of, stand_of, link_of}
use Rattle.m2_never_reset.specs.PairLaws.{ClosedIsSteps}
use Rattle.m2_never_reset.specs.Paired.{beside, FeedIsPaired}
use Rattle.m2_never_reset.specs.Trouble.{trouble_by, trouble_told}
use Rattle.m2_never_reset.proofs.Leaving.{WaitsUnjudged, leaves_at}
use Rattle.m2_never_reset.proofs.Links.{plus_none, stays, one_step}
use Rattle.m2_queues.proofs.m2_lemmas.Booleans.{from_false_true}

-- a lossless session waits, in one way or the other
pub faulted : (s : Session) (waits : Bool) → s.policy.lossy ≡ false →
    (fault s waits ≡ (record s { phase = phase.Standby }, closes)) ⊎
    (fault s waits ≡ (record s { phase = phase.Wait }, closes))
faulted s waits lossless = at s.policy.server refl (s.policy.standby && not waits) refl
  where
    at : (x : Bool) → s.policy.server ≡ x → (y : Bool) → (s.policy.standby && not waits) ≡ y →
        (fault s waits ≡ (record s { phase = phase.Standby }, closes)) ⊎
        (fault s waits ≡ (record s { phase = phase.Wait }, closes))
    at true e y h = inl (rw (lossless, e) refl)
    at false e true h = inl (rw (lossless, e, h) refl)
    at false e false h = inr (rw (lossless, e, h) refl)

module _ (p q : Role) (n : ℕ) (a₀ b : State) (d : Feed) where
  abbrev a : State
  a = record a₀ { feed = Some d }

  -- where the fault leads, by what it is to the session
  abbrev broken_to : Session × Effects → State
  broken_to o =
      record (has_effects o.1 (record a { session = record o.0 { lost_ready = phases.is a.session.phase phase.Ready || a.session.lost_ready } })) { spent = a.spent }

  abbrev accepted : ℕ
  accepted = length (letters a.deliveries) + length (letters b.deliveries)

  abbrev IsRun : Session × Effects → Type 0
  IsRun o = Run p q (link_of n a b) (link_of (n + trouble_by o.1 accepted) (broken_to o) b)

  left : WaitsUnjudged (Some d) a.session.phase a.sent b.sent (judged_sockets b) → (o : Session × Effects) →
      (o ≡ (record a.session { phase = phase.Standby }, closes)) ⊎
      (o ≡ (record a.session { phase = phase.Wait }, closes)) → IsRun o
  left w o (inl e) = subst IsRun (sym e)
      (one_step p q _ _ _ _ refl
      (leaves (node_of a (judged_sockets b)) (node_of b (judged_sockets a)) (stand_of a b) (stand_of b a) standby (joined_by (Some d) b.feed) n
      (asks_left None a.sent (judged_sockets b)) tt
      (leaves_at (Some d) a.session.phase a.sent b.sent (judged_sockets b) w))
      (ap (λ k. link_of k (broken_to (record a.session { phase = phase.Standby }, closes)) b) (plus_none n)))
  left w o (inr e) = subst IsRun (sym e)
      (one_step p q _ _ _ _ refl
      (leaves (node_of a (judged_sockets b)) (node_of b (judged_sockets a)) (stand_of a b) (stand_of b a) waiting (joined_by (Some d) b.feed) n
      (asks_left None a.sent (judged_sockets b)) tt
      (leaves_at (Some d) a.session.phase a.sent b.sent (judged_sockets b) w))
      (ap (λ k. link_of k (broken_to (record a.session { phase = phase.Wait }, closes)) b) (plus_none n)))

pub closed_is : ClosedIsSteps
closed_is f g socket broken n a b may = by_on (is_on socket a.feed) refl
  where
    accepted : ℕ
    accepted = length (letters a.deliveries) + length (letters b.deliveries)

    fed : (o : Option Feed) → a.feed ≡ o → is_on socket o ≡ true →
        Run (role_of f) (role_of g) (link_of n a b)
        (link_of (n + trouble_told (Some (event.Faulted (is_waiting a))) a.session accepted) (breaks a) b)
    fed None e h = from_false_true h
    fed (Some d) e h =
        let it : record a { feed = Some d } ≡ a = ap (λ o. record a { feed = o }) (sym e) in
        let paired = subst (λ o. IfFed o (FeedIsPaired (beside a b))) e may.paired.near.feed in
        subst (λ z. Run (role_of f) (role_of g) (link_of n z b) (link_of (n + trouble_told (Some (event.Faulted (is_waiting z))) z.session accepted) (breaks z) b)) it
        (left (role_of f) (role_of g) n a b d paired.unjudged (fault a.session (is_waiting a))
        (faulted a.session (is_waiting a) (ap (λ p. p.lossy) may.near_replayed.sound.session.policy ∙ may.near_keeps)))

    by_on : (t : Bool) → is_on socket a.feed ≡ t →
        Run (role_of f) (role_of g) (link_of n a b)
        (link_of (n + trouble_told (if t then Some (event.Faulted (is_waiting a)) else None) a.session accepted) (if t then breaks a else forgets socket a) b)
    by_on true e = fed a.feed refl e
    by_on false e = stays (role_of f) (role_of g) n (λ k. link_of k a b)
