-- A socket that is opened is a step of the link: its side had none, and it is no feed of the other side.
--
-- Opened: `dials`.
use Rattle.std.proofs.Common.{◌≡◌, ℕ, ◌+◌, Bool, true, false, not, ◌&&◌, ◌||◌, if◌then◌else◌, Option, Some, None, refl, sym, ap, ◌∙◌, subst, zero-le}
use Rattle.std.proofs.lemmas.Bool.{and_parts, not-true}
use Rattle.m2_session.specs.Dials.{at_rest}
use Rattle.m2_journal.specs.m2_fabric.declared.socket.SocketId.{SocketId}
use Rattle.m2_journal.specs.m2_fabric.Sockets.{is_among, same_socket}
use Rattle.m2_session.specs.declared.session.Phase.{Phase}
use Rattle.m2_session.specs.declared.session.Phase.TheVariants as phase
use Rattle.m2_session.specs.Phases as phases
use Rattle.m2_journal.specs.Feeds.{opened_feed, silent_feed}
use Rattle.m2_journal.specs.Items as item
use Rattle.m2_journal.specs.Lawful.{judged_sockets}
use Rattle.m2_journal.specs.Laws.{IfFed, taken_among}
use Rattle.m2_journal.specs.SideFacts.{SideFacts}
use Rattle.m2_journal.specs.State.{Feed, State}
use Rattle.m2_never_reset.specs.Link.{connecting, apart, by_near, by_far, Link, link}
use Rattle.m2_never_reset.specs.Steps.{IsAtRest, Run, dials}
use Rattle.m2_never_reset.specs.Fits.{AreItsAsks}
use Rattle.m2_never_reset.specs.LinkOf.{role_of, asks_left, heard_on, joined_by, node_of, stand_off, stand_by, stand_of, link_of}
use Rattle.m2_never_reset.specs.PairLaws.{MayCome, OpenedIsSteps}
use Rattle.m2_never_reset.proofs.Sockets.{at_among, taken_is_judged}
use Rattle.m2_never_reset.proofs.Leaving.{fewer_left}
use Rattle.m2_never_reset.proofs.Links.{plus_none, links, one_step}
use Rattle.m2_never_reset.proofs.Feeds.{HasHeard, opened_hears, heard_same}
use Rattle.m2_queues.proofs.m2_lemmas.Booleans.{from_false_true}
use Rattle.m2_journal.proofs.m2_fabric.Sockets.{same_equal, among_last}
use Rattle.m2_queues.proofs.m2_lemmas.Options.{none_of_isnt_some}

-- ---- the side is at rest

abbrev pub IsResting : Phase → Type 0
IsResting p = (phases.is_among p phases.with_feed ≡ false) × IsAtRest (stand_off p)

pub rests : (p : Phase) (x : Bool) → ((phases.is_among p at_rest && x) || phases.is p phase.Wait) ≡ true → IsResting p
rests phase.Absent x h = (refl, tt)
rests phase.Standby x h = (refl, tt)
rests phase.Wait x h = (refl, tt)
rests phase.Connecting x h = from_false_true h
rests phase.IdentSent x h = from_false_true h
rests phase.ReconnectSent x h = from_false_true h
rests phase.Ready x h = from_false_true h

-- ---- it is no feed of the other side

apart_from : (socket : SocketId) (d : Feed) (o : Option Feed) → d.socket ≡ socket →
    IfFed o (λ e. e.socket ≡ socket → ⊥) → joined_by (Some d) o ≡ apart
apart_from socket d None e new = refl
apart_from socket d (Some c) e new = at (same_socket c.socket d.socket) refl
  where
    at : (t : Bool) → same_socket c.socket d.socket ≡ t →
        (if t then (if d.opened then by_near else by_far) else apart) ≡ apart
    at true h = absurd (new (same_equal c.socket d.socket h ∙ e))
    at false h = refl

module _ (f g : SideFacts) (socket : SocketId) (n : ℕ) (a b : State) (may : MayCome f g (item.opened socket) a b) where
  pub is_new : (o : Option Feed) →
      IfFed o (λ d. is_among d.socket (if d.opened then b.opened else taken_among b.judgements) ≡ true) →
      IfFed o (λ e. e.socket ≡ socket → ⊥)
  is_new None h = tt
  is_new (Some d) h = λ e. at d.opened e h
    where
      at : (t : Bool) → d.socket ≡ socket →
          is_among d.socket (if t then b.opened else taken_among b.judgements) ≡ true → ⊥
      at true e k =
          from_false_true (sym (may.fits_after.opened_apart socket (among_last socket a.opened)) ∙ subst (λ s. is_among s b.opened ≡ true) e k)
      at false e k =
          let judged = taken_is_judged b.judgements d.socket k in
          let its = at_among (AreItsAsks a.opened a.sent b.judgements)
          (judged_sockets b) d.socket may.fits.far_judges judged in
          from_false_true (sym may.lawful.not_opened ∙ subst (λ s. is_among s a.opened ≡ true) e its.opened)

  -- the side without a feed, and with one that is just opened
  abbrev before : Link
  before =
      link (node_of (record a { feed = None }) (judged_sockets b)) (stand_off a.session.phase)
      (node_of b (judged_sockets a)) (stand_of b a) apart n

  abbrev behind : Feed → Link
  behind d =
      link (record (node_of a (judged_sockets b)) { heard = 0; asks = asks_left (Some d) a.sent (judged_sockets b) }) connecting (node_of b (judged_sockets a)) (stand_of b a) apart n

  -- the link after it, whatever the new feed is
  abbrev end : Feed → Link
  end d =
      link (record (node_of a (judged_sockets b)) { heard = heard_on (Some d); asks = asks_left (Some d) a.sent (judged_sockets b) }) connecting
      (node_of b (judged_sockets a)) (stand_of b a) (joined_by (Some d) b.feed) (n + 0)

  rested : IsResting a.session.phase
  rested = rests a.session.phase _ (and_parts (not a.session.policy.server) _ may.lawful.due).1

  no_server : f.policy.server ≡ false
  no_server =
      ap (λ p. p.server) (sym may.near_replayed.sound.session.policy)
      ∙ not-true _ (and_parts (not a.session.policy.server) _ may.lawful.due).0

  pub fed_none : a.feed ≡ None
  fed_none = none_of_isnt_some a.feed (may.near_replayed.fed ∙ rested.0)

  begins : link_of n a b ≡ before
  begins =
      ap (λ o. link (node_of (record a { feed = o }) (judged_sockets b)) (stand_by o a.session.phase a.sent b.sent) (node_of b (judged_sockets a)) (stand_of b a) (joined_by o b.feed) n) fed_none

  ends : (d : Feed) → HasHeard (silent_feed socket true a.last a.owes) d → behind d ≡ end d
  ends d h =
      links _ _ _ _ _ _ _ _ _ _ _ _
      (ap (λ k. record (node_of a (judged_sockets b)) { heard = k; asks = asks_left (Some d) a.sent (judged_sockets b) })
      (sym (heard_same (silent_feed socket true a.last a.owes) d h zero-le)))
      refl refl refl
      (sym (apart_from socket d b.feed h.socket (is_new b.feed may.far_replayed.sound.feed)))
      (plus_none n)

  is_step : Run (role_of f) (role_of g) (link_of n a b) (end (opened_feed f socket a.last a.owes))
  is_step =
      let d = opened_feed f socket a.last a.owes in
      one_step (role_of f) (role_of g) (link_of n a b) before (behind d) (end d) begins
      (dials (node_of (record a { feed = None }) (judged_sockets b)) (node_of b (judged_sockets a)) (stand_off a.session.phase) (stand_of b a) apart n
      (asks_left (Some d) a.sent (judged_sockets b)) no_server rested.1 (fewer_left d a.sent (judged_sockets b)))
      (ends d (opened_hears f socket a.last a.owes))

pub opened_is : OpenedIsSteps
opened_is f g socket n a b may = is_step f g socket n a b may
