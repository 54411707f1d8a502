-- What is granted for a MESSAGE of a size, and that nothing is.
use Rattle.std.proofs.Common.{◌≡◌, ℕ, false, Option, Some, None, refl, sym, ap, subst, ◌∙◌}
use Rattle.m2_bytes.proofs.m2_lemmas.Numbers.{zero_if}
use Rattle.m2_shared.specs.Gates.{AreHeld, Gate, Places, held, is_type, is_whole, messages, bytes, dispatch, gate_of, nothing_held}
use Rattle.m2_shared.specs.Stages.{amount, grant_at, nothing_granted}
use Rattle.m2_shared.specs.Taking.{IsOwned}
use Rattle.m2_shared.specs.declared.peer_grants.PeerGrants.{PeerGrants}
use Rattle.m2_shared.specs.declared.peer_type.PeerType.{PeerType}
use Rattle.m2_shared.specs.declared.stage.Stage.{Stage}
use Rattle.m2_shared.specs.declared.stage.Stage.TheVariants.{Messages, Bytes, Dispatch}
use Rattle.m2_core.specs.LiveNow.{AreFor, HoldsNothing, IsAmount, LiveNow}

pub nothing_for : (o : Option ℕ) (p : PeerType) → AreFor o (nothing_held p)
nothing_for (Some n) p = at
  where
    at : (stage : Stage) → IsAmount (amount stage n) (grant_at nothing_granted stage)
    at Messages = tt
    at Bytes = tt
    at Dispatch = tt
nothing_for None p = refl

pub none_for : (o : Option ℕ) (g : PeerGrants) → HoldsNothing g → AreFor o g
none_for o g e = subst (AreFor o) (sym e) (nothing_for o g.peer)

pub none_whole : (g : PeerGrants) → HoldsNothing g → is_whole g ≡ false
none_whole g e = ap is_whole e

pub nothing_owned : (at : Places) (p : PeerType) → AreHeld at (nothing_held p)
nothing_owned at p = by
  where
    by : (stage : Stage) → IsOwned (at (gate_of p stage)) (grant_at nothing_granted stage)
    by Messages = tt
    by Bytes = tt
    by Dispatch = tt

pub nothing_at : (p : PeerType) (gate : Gate) → held (nothing_held p) gate ≡ 0
nothing_at p (messages t) = zero_if (is_type p t)
nothing_at p (bytes t) = zero_if (is_type p t)
nothing_at p dispatch = refl

pub none_at : (g : PeerGrants) → HoldsNothing g → (gate : Gate) → held g gate ≡ 0
none_at g e gate = ap (λ (x : PeerGrants). held x gate) e ∙ nothing_at g.peer gate

-- what is taken out was made from the throttles that what was held was
pub taken_out : (at : Places) (l was : LiveNow) (g : PeerGrants) → l ≡ was → g ≡ l.granted → AreHeld at was.granted → AreHeld at g
taken_out at l was g same e own = subst (AreHeld at) (sym e) (subst (λ (k : LiveNow). AreHeld at k.granted) (sym same) own)
