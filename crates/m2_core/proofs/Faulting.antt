-- A feed that is closed for a fault: the core and the replay go on alike.
use Rattle.std.proofs.Common.{◌≡◌, ℕ, Bool, true, false, ◌&&◌, ◌||◌, not, Option, Some, None, refl, subst, inl}
use Rattle.std.specs.Option.{is_some}
use Rattle.m2_fabric.specs.Sockets.{same_socket}
use Rattle.m2_feed.specs.FeedNow.{FeedNow}
use Rattle.m2_feed.specs.Stands.{Stands}
use Rattle.m2_journal.specs.Items as item
use Rattle.m2_journal.specs.SideFacts.{SideFacts}
use Rattle.m2_journal.specs.State.{Feed, State}
use Rattle.m2_journal.specs.Steps as replay
use Rattle.m2_queues.specs.OutQueues.{waits}
use Rattle.m2_session.specs.declared.event.Event.TheVariants as event
use Rattle.m2_session.specs.declared.session.Phase.TheVariants.{Ready}
use Rattle.m2_session.specs.Phases as phase
use Rattle.m2_shared.specs.declared.peer_grants.PeerGrants.{PeerGrants}
use Rattle.m2_core.specs.LiveNow.{LiveNow, OnFeedNow, is_waiting}
use Rattle.m2_core.specs.Effects.{has_effects, tells}
use Rattle.m2_core.specs.LiveCalls.{after_fault}
use Rattle.m2_core.proofs.Agreeing.{core_of, leads_by}
use Rattle.m2_core.proofs.Sound.{fault_by}
use Rattle.m2_core.specs.Agrees.{Agrees, FeedsAgree, LeadsOn}
use Rattle.m2_core.specs.CoreNow.{CoreNow}
use Rattle.m2_fabric.proofs.Sockets.{same_refl}

abbrev faulty_live : (lossy server idle lost : Bool) → LiveNow → LiveNow
faulty_live lossy server idle lost l =
    has_effects (fault_by lossy server idle l.session).1 (record l { session = record (fault_by lossy server idle l.session).0 { lost_ready = lost } })

abbrev faulty : (lossy server idle lost : Bool) → State → State
faulty lossy server idle lost s = record (replay.has_effects (fault_by lossy server idle s.session).1
    (record s { session = record (fault_by lossy server idle s.session).0 { lost_ready = lost } })) { spent = s.spent }

faulted_at : (lossy server idle lost : Bool) (f : SideFacts) (s : State) (n r : ℕ) (v : FeedNow) (g : PeerGrants) (d : Feed) →
    Agrees (record (core_of f s n r (Some v) g) { live = faulty_live lossy server idle lost (core_of f s n r (Some v) g).live })
    (faulty lossy server idle lost (record s { feed = Some d }))
faulted_at true server idle lost f s n r v g d = record { session = refl; queue = refl; last = refl; life = refl; owes = refl; dials = refl; top = refl; feed = tt; resumed = inl refl }
faulted_at false true idle lost f s n r v g d = record { session = refl; queue = refl; last = refl; life = refl; owes = refl; dials = refl; top = refl; feed = tt; resumed = inl refl }
faulted_at false false true lost f s n r v g d = record { session = refl; queue = refl; last = refl; life = refl; owes = refl; dials = refl; top = refl; feed = tt; resumed = inl refl }
faulted_at false false false lost f s n r v g d = record { session = refl; queue = refl; last = refl; life = refl; owes = refl; dials = refl; top = refl; feed = tt; resumed = inl refl }

pub is_on_feed : (f : SideFacts) (s : State) (v : FeedNow) (d : Feed) → Stands f s v d → same_socket v.end.id d.socket ≡ true
is_on_feed f s v d st = subst (λ k. same_socket v.end.id k ≡ true) st.socket (same_refl v.end.id)

closing : (f : SideFacts) (s : State) (n r : ℕ) (v : FeedNow) (g : PeerGrants) (y : Option Feed) → FeedsAgree f (record s { feed = y }) (Some v) y →
    Agrees (record (core_of f s n r (Some v) g) { live = after_fault (core_of f s n r (Some v) g).live })
    (replay.closes_socket v.end.id (record s { feed = y }))
closing f s n r v g (Some d) st = rw (is_on_feed f (record s { feed = Some d }) v d st)
    (faulted_at s.session.policy.lossy s.session.policy.server (s.session.policy.standby && not (waits s.out.queue))
    (phase.is s.session.phase Ready || s.session.lost_ready) f s n r v g d)
closing f s n r v g None st = absurd st

-- for a feed that there is
faulted_on : (c : CoreNow) (x : Option FeedNow) → is_some x ≡ true →
    OnFeedNow x (λ v. (broken : Bool) → LeadsOn (item.closed v.end.id broken) (record c { live = record c.live { feed = x } }) (record c { live = after_fault (record c.live { feed = x }) }))
faulted_on c (Some v) e = λ broken. leads_by (λ w. record w { live = after_fault w.live }) (item.closed v.end.id broken) (record c { live = record c.live { feed = Some v } })
    (λ s st r. closing c.facts s c.live.out.spare c.live.resumed v c.live.granted s.feed st)
faulted_on c None e = cc

pub faulted : (c : CoreNow) → is_some c.live.feed ≡ true →
    OnFeedNow c.live.feed (λ v. (broken : Bool) → LeadsOn (item.closed v.end.id broken) c (record c { live = after_fault c.live }))
faulted c e = faulted_on c c.live.feed e

-- the same, as the code comes to it
pub faulted_to : (c : CoreNow) (l : LiveNow) (w : Bool) → is_some c.live.feed ≡ true → w ≡ is_waiting c.live → l ≡ tells (event.Faulted w) c.live →
    OnFeedNow c.live.feed (λ v. (broken : Bool) → LeadsOn (item.closed v.end.id broken) c (record c { live = l }))
faulted_to c l w some e t = rw (t, e) (faulted c some)
