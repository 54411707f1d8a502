-- Rights to give back are split off one after another.
use Rattle.std.proofs.Common.{◌≡◌, ℕ, zero, suc, List, [], ◌∷◌, ◌++◌, Some, take, refl, ap, sym, ◌∙◌}
use Rattle.std.proofs.lemmas.Option.{none-some, same_Some}
use Rattle.std.specs.Prelude.{slice_get}
use Rattle.m2_dispatch.specs.m2_shared.Gates.{ArePassesOf, Gate, bytes, dispatch, messages, pass_in, places, unused_by}
use Rattle.m2_dispatch.specs.m2_shared.declared.peer_type.PeerType.TheVariants.{Client, Mds, Mgr, Mon, Osd}
use Rattle.m2_dispatch.specs.m2_shared.declared.throttles.TakePasses.{TakePasses}
use Rattle.m2_dispatch.specs.m2_shared.declared.throttles.Throttles.{Throttles}
use Rattle.m2_shared.proofs.Asking.{all_places}
use Rattle.m2_scenario.specs.declared.node.Node.{Node}
use Rattle.m2_node.specs.Sharing.{AreFirstOf, AreRights, AreSharesOf, FirstPassesNow, ShareNow}
use Rattle.m2_node.proofs.Beside.{side_get}

-- passes by which nothing was taken were made from their throttles
pub unused_passes : (t : Throttles) → ArePassesOf t (unused_by t)
unused_passes t = all_places t (unused_by t) at
  where
    at : (gate : Gate) → (pass_in (unused_by t) gate).place ≡ places t gate
    at (messages Mon) = refl
    at (messages Mds) = refl
    at (messages Osd) = refl
    at (messages Client) = refl
    at (messages Mgr) = refl
    at (bytes Mon) = refl
    at (bytes Mds) = refl
    at (bytes Osd) = refl
    at (bytes Client) = refl
    at (bytes Mgr) = refl
    at dispatch = refl

-- of each node the first passes are to what its threads share
pub first_there : (nodes : List Node) (shares : List ShareNow) (passes : List FirstPassesNow) (k : ℕ) (s : ShareNow) (p : FirstPassesNow) → AreSharesOf nodes shares passes → slice_get shares k ≡ Some s →
    slice_get passes k ≡ Some p → AreFirstOf s p
first_there nodes shares passes k s p are here there = side_get AreFirstOf shares passes are.first k s p here there

-- one more goes last
pub one_right : (shares : List ShareNow) (rights : List TakePasses) (k : ℕ) (s : ShareNow) (r : TakePasses) → slice_get shares k ≡ Some s → ArePassesOf s.throttles r → AreRights (take k shares) rights →
    AreRights (take (suc k) shares) (rights ++ r ∷ [])
one_right [] rights k s r here at are = absurd (none-some s here)
one_right (t ∷ shares) [] zero s r here at are = (at ∙ ap (λ (x : ShareNow). places x.throttles) (sym (same_Some t s here)), tt)
one_right (t ∷ shares) (q ∷ rights) zero s r here at are = absurd are
one_right (t ∷ shares) [] (suc k) s r here at are = absurd are
one_right (t ∷ shares) (q ∷ rights) (suc k) s r here at are = (are.0, one_right shares rights k s r here at are.1)
