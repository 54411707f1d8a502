-- Dispatchers of nodes, one after another.
use Rattle.std.proofs.Common.{◌≡◌, ℕ, ◌+◌, List, [], ◌∷◌, drop, map, take, Some, refl, sym, ap, subst, ◌∙◌}
use Rattle.std.specs.Prelude.{slice_get}
use Rattle.m2_dispatch.specs.Heard.{Heard, heard_by}
use Rattle.m2_dispatch.specs.declared.logged.Logged.{Logged}
use Rattle.m2_dispatch.specs.m2_shared.declared.throttles.Throttles.{Throttles}
use Rattle.m2_links_go_on.specs.ClusterTold.{OneByOne}
use Rattle.m2_mailbox.specs.Merge.{IsMerge}
use Rattle.m2_scenario.specs.declared.node.Node.{Node}
use Rattle.m2_script.specs.m2_center.Center.{CenterNow}
use Rattle.m2_node.specs.Dispatching.{DispatcherNow}
use Rattle.m2_node.specs.Handing.{IsDispatched, handed_by}
use Rattle.m2_node.specs.Posts.{AreDispatched}
use Rattle.m2_node.specs.Sharing.{ShareNow}
use Rattle.m2_node.specs.Way.{PollsSo}
use Rattle.m2_node.specs.Working.{WorkerNow, center_of}
use Rattle.m2_node.proofs.Places.{drop_here}

-- that of the node at a place, and those behind it
pub first_dispatched : (nodes : List Node) (shares : List ShareNow) (ws : List WorkerNow) (ds rest : List DispatcherNow) (k : ℕ) (x : Node) (s : ShareNow) (d : DispatcherNow) → slice_get nodes k ≡ Some x →
    slice_get shares k ≡ Some s → ds ≡ d ∷ rest → AreDispatched (drop k nodes) (drop k shares) ws ds →
    IsDispatched s.throttles (map center_of (take x.centers ws)) d × AreDispatched (drop (k + 1) nodes) (drop (k + 1) shares) (drop x.centers ws) rest
first_dispatched nodes shares ws ds rest k x s d here there first all =
    subst (λ (es : List DispatcherNow). AreDispatched (x ∷ drop (k + 1) nodes) (s ∷ drop (k + 1) shares) ws es) first
    (subst (λ (ss : List ShareNow). AreDispatched (x ∷ drop (k + 1) nodes) ss ws ds) (drop_here shares k s there)
    (subst (λ (xs : List Node). AreDispatched xs (drop k shares) ws ds) (drop_here nodes k x here) all))

-- ---- a node that waits

-- its centers have handed on what they had
handed_still : (cs ds : List (CenterNow (List Logged))) → OneByOne PollsSo cs ds → map handed_by ds ≡ map handed_by cs
handed_still [] [] all = refl
handed_still [] (d ∷ ds) all = absurd all
handed_still (c ∷ cs) [] all = absurd all
handed_still (c ∷ cs) (d ∷ ds) all =
    ap (λ (hs : List (List Heard)). handed_by d ∷ hs) (handed_still cs ds all.1)
    ∙ ap (λ (h : List Heard). h ∷ map handed_by cs) (ap (λ (x : CenterNow (List Logged)). handed_by x) all.0)

pub dispatched_still : (t : Throttles) (cs ds : List (CenterNow (List Logged))) (d : DispatcherNow) → OneByOne PollsSo cs ds → IsDispatched t cs d → IsDispatched t ds d
dispatched_still t cs ds d polls is = record {
  at = is.at;
  shared = is.shared;
  handed = λ lasted. subst (λ (hs : List (List Heard)). IsMerge Heard hs (heard_by d.log)) (sym (handed_still cs ds polls)) (is.handed lasted);
}
