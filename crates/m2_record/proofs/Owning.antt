-- What a record holds was granted by one node's throttles, and stays so.
use Rattle.std.proofs.Common.{◌≡◌, ℕ, Bool, true, false, List, [], ◌∷◌, ◌++◌, Option, Some, None, sym, ap, subst}
use Rattle.std.specs.Prelude.{IfSome, IsSome}
use Rattle.std.specs.List.{AllByRecursion}
use Rattle.m2_core.specs.LiveNow as live
use Rattle.m2_core.proofs.Holding.{nothing_owned}
use Rattle.m2_core.specs.LiveNow.{LiveNow}
use Rattle.m2_core.specs.Effects as effects
use Rattle.m2_core.specs.LiveCalls.{after_fault, tells_if}
use Rattle.m2_core.specs.Calls.{after_down}
use Rattle.m2_core.specs.CoreNow.{CoreNow}
use Rattle.m2_core.specs.Judging.{told_of}
use Rattle.m2_core.specs.TakingOver.{IsTakenFeed, after_answering, after_taking}
use Rattle.m2_core.specs.declared.verdict.Verdict.{Verdict}
use Rattle.m2_dispatch.specs.declared.parcel.Parcel.{Parcel}
use Rattle.m2_dispatch.specs.declared.parcel.Parcel.TheVariants as parcel
use Rattle.m2_dispatch.specs.Parcel.{IsOwned}
use Rattle.m2_fabric.specs.End.{SeenEnd}
use Rattle.m2_feed.specs.FeedNow.{FeedNow}
use Rattle.m2_session.specs.declared.event.Event.{Event}
use Rattle.m2_session.specs.declared.event.Event.TheVariants as event
use Rattle.m2_session.specs.Steps.{step_of}
use Rattle.m2_shared.specs.Gates.{AreHeld, Places}
use Rattle.m2_record.specs.Calls.{Owns, one_if, told_parcels}
use Rattle.m2_record.specs.RecordNow.{RecordNow}
use Rattle.m2_bytes.proofs.m2_lemmas.Booleans.{false_isnt_true}

closing : (b : Bool) (places : Places) (l : LiveNow) → AreHeld places l.granted → AreHeld places (effects.where_true b effects.closes l).granted
closing true places l h = nothing_owned places l.granted.peer
closing false places l h = h

requeueing : (b : Bool) (places : Places) (l : LiveNow) → AreHeld places l.granted → AreHeld places (effects.where_true b effects.requeues l).granted
requeueing true places l h = h
requeueing false places l h = h

setting : (b : Bool) (places : Places) (l : LiveNow) → AreHeld places l.granted → AreHeld places (effects.where_true b effects.sets_back l).granted
setting true places l h = h
setting false places l h = h

discarding : (b : Bool) (places : Places) (l : LiveNow) → AreHeld places l.granted → AreHeld places (effects.where_true b effects.discards l).granted
discarding true places l h = h
discarding false places l h = h

pub tells-owned : (v : Event) (places : Places) (l : LiveNow) → AreHeld places l.granted → AreHeld places (effects.tells v l).granted
tells-owned v places l h =
    let e = (step_of l.session v).effects in
    discarding e.discard places _ (setting e.set_back places _ (requeueing e.requeue places _ (closing e.close places (record l { session = (step_of l.session v).session }) h)))

all-more : (P : Parcel → Type 0) (xs ys : List Parcel) → AllByRecursion P xs → AllByRecursion P ys → AllByRecursion P (xs ++ ys)
all-more P [] ys h g = g
all-more P (x ∷ xs) ys h g = (h.0, all-more P xs ys h.1 g)

one-owned : (places : Places) (b : Bool) (x : Parcel) → IsOwned places x → AllByRecursion (IsOwned places) (one_if b x)
one-owned places true x h = (h, tt)
one-owned places false x h = tt

pub told-all : (places : Places) (peer : ℕ) (discarded reset : Bool) → AllByRecursion (IsOwned places) (told_parcels peer discarded reset)
told-all places peer discarded reset = all-more (IsOwned places) (one_if discarded (parcel.Discard peer)) (one_if reset (parcel.RemoteReset peer))
    (one-owned places discarded (parcel.Discard peer) tt) (one-owned places reset (parcel.RemoteReset peer) tt)

pub tells_if-owned : (o : Option Event) (places : Places) (l : LiveNow) → AreHeld places l.granted → AreHeld places (tells_if o l).granted
tells_if-owned (Some e) places l h = tells-owned e places l h
tells_if-owned None places l h = h

pub owned-as : (places : Places) (r new : RecordNow) (discarded reset : Bool) → Owns places r → AreHeld places new.core.live.granted → new.parcels ≡ r.parcels ++ told_parcels r.place discarded reset → Owns places new
owned-as places r new discarded reset h granted p = record {
  feed = granted;
  parcels = subst (AllByRecursion (IsOwned places)) (sym p) (all-more (IsOwned places) r.parcels (told_parcels r.place discarded reset) h.parcels (told-all places r.place discarded reset));
}

owned-told : (places : Places) (v : Event) (r new : RecordNow) (discarded reset : Bool) → Owns places r → new.core.live ≡ effects.tells v r.core.live → new.parcels ≡ r.parcels ++ told_parcels r.place discarded reset → Owns places new
owned-told places v r new discarded reset h c p = owned-as places r new discarded reset h (subst (λ (x : LiveNow). AreHeld places x.granted) (sym c) (tells-owned v places r.core.live h.feed)) p

pub owned-broken : (places : Places) (r new : RecordNow) (discarded reset : Bool) → Owns places r → new.core ≡ record r.core { live = after_fault r.core.live } → new.parcels ≡ r.parcels ++ told_parcels r.place discarded reset → Owns places new
owned-broken places r new discarded reset h c p = owned-told places (event.Faulted (live.is_waiting r.core.live)) r new discarded reset h (ap (λ (x : CoreNow). x.live) c) p

pub owned-down : (places : Places) (r new : RecordNow) (discarded reset : Bool) → Owns places r → new.core ≡ after_down r.core → new.parcels ≡ r.parcels ++ told_parcels r.place discarded reset → Owns places new
owned-down places r new discarded reset h c p = owned-told places event.MarkedDown r new discarded reset h (ap (λ (x : CoreNow). x.live) c) p

pub owned-answered : (places : Places) (v : Verdict) (r new : RecordNow) (discarded reset : Bool) → Owns places r → new.core ≡ after_answering v r.core → new.parcels ≡ r.parcels ++ told_parcels r.place discarded reset → Owns places new
owned-answered places v r new discarded reset h c p =
    owned-as places r new discarded reset h (subst (λ (x : CoreNow). AreHeld places x.live.granted) (sym c) (tells_if-owned (told_of r.core.facts v) places r.core.live h.feed)) p

pub owned-taken : (places : Places) (v : Verdict) (end : SeenEnd) (unread : List ℕ) (r new : RecordNow) (discarded reset : Bool) → Owns places r → IfSome new.core.live.feed (λ d. IsTakenFeed v end unread r.core d × (new.core ≡ after_taking v d r.core)) → IsSome new.core.live.feed →
    new.parcels ≡ r.parcels ++ told_parcels r.place discarded reset → Owns places new
owned-taken places v end unread r new discarded reset h value some p = owned-as places r new discarded reset h (at new.core.live.feed value some) p
  where
    at : (o : Option FeedNow) → IfSome o (λ d. IsTakenFeed v end unread r.core d × (new.core ≡ after_taking v d r.core)) → IsSome o → AreHeld places new.core.live.granted
    at (Some d) e f = subst (λ (x : CoreNow). AreHeld places x.live.granted) (sym e.1) (tells_if-owned (told_of r.core.facts v) places r.core.live h.feed)
    at None e f = absurd (false_isnt_true f)
