-- What the two sides have in common stays at a post, at a dial, where an acknowledgement is counted, and where a feed is
-- closed.
use Rattle.std.proofs.Common.{◌≡◌, ℕ, ◌⊎◌, inl, inr, Bool, true, false, if◌then◌else◌, ◌||◌, Option, Some, None, refl, sym, ap, ◌∙◌, subst}
use Rattle.m2_journal.specs.m2_fabric.declared.socket.SocketId.{SocketId}
use Rattle.m2_session.specs.declared.event.Effects.{Effects}
use Rattle.m2_session.specs.declared.session.Phase.TheVariants as phase
use Rattle.m2_session.specs.declared.session.Session.{Session}
use Rattle.m2_session.specs.Phases as phases
use Rattle.m2_session.specs.Steps.{closes, fault}
use Rattle.m2_journal.specs.Items as item
use Rattle.m2_journal.specs.Plan.{Planned, to_post, to_dial, to_go_down}
use Rattle.m2_journal.specs.SideFacts.{SideFacts}
use Rattle.m2_journal.specs.State.{Feed, State}
use Rattle.m2_journal.specs.Steps.{after, is_on, is_waiting, breaks, forgets, has_effects}
use Rattle.m2_never_reset.specs.PairLaws.{Stays}
use Rattle.m2_never_reset.specs.Paired.{beside, FeedIsPaired, Paired}
use Rattle.m2_never_reset.proofs.Closed.{faulted}
use Rattle.m2_never_reset.proofs.Keeping.{lists, paired, if_fed, without_other}
use Rattle.m2_queues.proofs.m2_lemmas.Booleans.{from_false_true}

pub posts_stay : (f g : SideFacts) (place : ℕ) (planned : Option Planned) → Stays f g (item.post place planned)
posts_stay f g place (Some (to_post m)) a b may =
    paired (after f (item.post place (Some (to_post m))) a) b may.paired.near.feed
    (lists a b may.paired.near) may.paired.far.feed (lists b a may.paired.far)
posts_stay f g place (Some to_dial) a b may =
    paired (after f (item.post place (Some to_dial)) a) b may.paired.near.feed
    (lists a b may.paired.near) may.paired.far.feed (lists b a may.paired.far)
posts_stay f g place (Some to_go_down) a b may =
    paired (after f (item.post place (Some to_go_down)) a) b may.paired.near.feed
    (lists a b may.paired.near) may.paired.far.feed (lists b a may.paired.far)
posts_stay f g place None a b may =
    paired (after f (item.post place None) a) b may.paired.near.feed (lists a b may.paired.near) may.paired.far.feed
    (lists b a may.paired.far)

pub dials_stay : (f g : SideFacts) (planned : Option Planned) → Stays f g (item.dial planned)
dials_stay f g planned a b may =
    paired (after f (item.dial planned) a) b may.paired.near.feed (lists a b may.paired.near) may.paired.far.feed
    (lists b a may.paired.far)

pub acked_stays : (f g : SideFacts) (number : ℕ) → Stays f g (item.acked number)
acked_stays f g number a b may =
    paired (after f (item.acked number) a) b may.paired.near.feed (lists a b may.paired.near) may.paired.far.feed
    (lists b a may.paired.far)

-- ---- a feed that is closed

module _ (a₀ b : State) (d : Feed) where
  abbrev a : State
  a = record a₀ { feed = Some d }

  abbrev broken_to : Session × Effects → State
  broken_to o =
      record (has_effects o.1 (record a { session = record o.0 { lost_ready = phases.is a.session.phase phase.Ready || a.session.lost_ready } })) { spent = a.spent }

  left : Paired a b → (o : Session × Effects) →
      (o ≡ (record a.session { phase = phase.Standby }, closes)) ⊎
      (o ≡ (record a.session { phase = phase.Wait }, closes)) → Paired (broken_to o) b
  left h o (inl e) = subst (λ o. Paired (broken_to o) b) (sym e)
      (paired (broken_to (record a.session { phase = phase.Standby }, closes)) b tt (lists a b h.near)
      (if_fed b.feed (FeedIsPaired (beside b a)) (FeedIsPaired (record (beside b a) { other = None })) (without_other (beside b a)) h.far.feed) (lists b a h.far))
  left h o (inr e) = subst (λ o. Paired (broken_to o) b) (sym e)
      (paired (broken_to (record a.session { phase = phase.Wait }, closes)) b tt (lists a b h.near)
      (if_fed b.feed (FeedIsPaired (beside b a)) (FeedIsPaired (record (beside b a) { other = None })) (without_other (beside b a)) h.far.feed) (lists b a h.far))

pub closed_stays : (f g : SideFacts) (socket : SocketId) (broken : Bool) → Stays f g (item.closed socket broken)
closed_stays f g socket broken a b may = by_on (is_on socket a.feed) refl
  where
    fed : (o : Option Feed) → a.feed ≡ o → is_on socket o ≡ true → Paired (breaks a) b
    fed None e h = from_false_true h
    fed (Some d) e h =
        let it : record a { feed = Some d } ≡ a = ap (λ o. record a { feed = o }) (sym e) in
        subst (λ z. Paired (breaks z) b) it
        (left a b d (subst (λ z. Paired z b) (sym it) may.paired) (fault a.session (is_waiting a))
        (faulted a.session (is_waiting a) (ap (λ p. p.lossy) may.near_replayed.sound.session.policy ∙ may.near_keeps)))

    by_on : (t : Bool) → is_on socket a.feed ≡ t → Paired (if t then breaks a else forgets socket a) b
    by_on true e = fed a.feed refl e
    by_on false e =
        paired (forgets socket a) b may.paired.near.feed (lists a b may.paired.near) may.paired.far.feed
        (lists b a may.paired.far)
