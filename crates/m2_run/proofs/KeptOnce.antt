-- Where each socket of what is left of nodes is one of its own, so it is of the nodes as they are kept.
use Rattle.std.proofs.Common.{◌≡◌, ◌<◌, ◌+◌, ℕ, List, [], ◌∷◌, ◌++◌, length, map, take, Some, refl, sym, ap, subst, ◌∙◌, append_assoc}
use Rattle.std.specs.Prelude.{get_or, slice_get}
use Rattle.std.specs.List.{AllByRecursion, IsDistinct}
use Rattle.std.proofs.lemmas.List.{append-nil, map-append, take_more}
use Rattle.std.proofs.lemmas.Option.{same_Some, slice_get_within}
use Rattle.m2_addr.specs.declared.addr.Addr.{Addr}
use Rattle.m2_bytes.proofs.m2_lemmas.Lists.{all_append}
use Rattle.m2_dispatch.specs.declared.logged.Logged.{Logged}
use Rattle.m2_fabric.specs.Sockets.{same_socket}
use Rattle.m2_fabric.specs.declared.port.Cut.{Cut}
use Rattle.m2_fabric.specs.declared.socket.SocketId.{SocketId}
use Rattle.m2_scenario.specs.declared.node.Node.{Node}
use Rattle.m2_node.specs.m2_script.m2_center.Center.{CenterNow}
use Rattle.m2_trail.specs.Arrivals.{LooseNow}
use Rattle.m2_node.specs.Nodes.{KeptNow, RunNodeNow, made_by}
use Rattle.m2_run.specs.Once.{HasEachOnce, IsUnjudgedAt, sockets_of}
use Rattle.m2_run.specs.Opened.{AreOpenedNodes, HaveEachOnce, OpenedNow, all_kept, made_in, untold}
use Rattle.m2_run.specs.Rests.{EndedCenterNow, IsEndOfCenter}
use Rattle.m2_node.proofs.Beside.{side_flat}
use Rattle.m2_run.proofs.Finished.{kept_at}

-- ---- as they are kept

untold_sockets : (ls : List LooseNow) → sockets_of (map untold ls) ≡ sockets_of ls
untold_sockets [] = refl
untold_sockets (l ∷ ls) = ap (λ ks. l.end.id ∷ ks) (untold_sockets ls)

untold_unjudged : (at : Addr) (ls : List LooseNow) → AllByRecursion (IsUnjudgedAt at) ls → AllByRecursion (IsUnjudgedAt at) (map untold ls)
untold_unjudged at [] all = tt
untold_unjudged at (l ∷ ls) all = (record { here = all.0.here; unjudged = all.0.unjudged }, untold_unjudged at ls all.1)

pub kept_once : (cuts : ℕ → List Cut) (nodes : List Node) (ran : List RunNodeNow) (all : List OpenedNow) → AreOpenedNodes cuts ran all → HaveEachOnce nodes all → (k : ℕ) (x : Node) (n : KeptNow) →
    slice_get nodes k ≡ Some x → slice_get (all_kept ran all) k ≡ Some n → HasEachOnce x.at (made_by n.node) (n.at_door ++ n.on_way)
kept_once cuts nodes ran all opened once k x n there e =
    let its = kept_at ran all k n e in
    let o = its.left in
    let has = once k (slice_get_within all k o its.left_there) x o there its.left_there in
    let made : made_in o.centers ≡ made_by its.node =
    side_flat IsEndOfCenter (λ (c : CenterNow (List Logged)). c.port.made) (λ (e : EndedCenterNow). e.made) its.node.centers o.centers (λ c e end. end.made)
    (opened.each k its.node o its.node_there its.left_there).ends in
    let halves : map untold (o.left.at_door ++ o.left.on_way) ≡ map untold o.left.at_door ++ map untold o.left.on_way = map-append untold o.left.at_door o.left.on_way in
    subst (λ (m : KeptNow). HasEachOnce x.at (made_by m.node) (m.at_door ++ m.on_way)) its.same
    (subst (HasEachOnce x.at (made_by its.node)) halves (record {
      once = subst (IsDistinct same_socket) (ap (λ ks. ks ++ sockets_of (o.left.at_door ++ o.left.on_way)) made ∙ ap (λ ks. made_by its.node ++ ks) (sym (untold_sockets (o.left.at_door ++ o.left.on_way)))) has.once;
      unjudged = untold_unjudged x.at (o.left.at_door ++ o.left.on_way) has.unjudged;
    }))

-- so it is of sockets that were put into one list
pub once_in : (at : Addr) (made all : List SocketId) (door way : List LooseNow) → all ≡ (made ++ sockets_of door) ++ sockets_of way → IsDistinct same_socket all
    → AllByRecursion (IsUnjudgedAt at) door → AllByRecursion (IsUnjudgedAt at) way → HasEachOnce at made (door ++ way)
once_in at made all door way is once doors ways = record {
  once = subst (IsDistinct same_socket) (is ∙ (append_assoc made (sockets_of door) (sockets_of way) ∙ ap (λ ks. made ++ ks) (sym (map-append (λ (l : LooseNow). l.end.id) door way)))) once;
  unjudged = all_append (IsUnjudgedAt at) door way doors ways;
}

-- ---- one more

pub made_more : (old into new : List SocketId) (cs : List EndedCenterNow) (i : ℕ) (c : EndedCenterNow) → i < length cs → c ≡ get_or cs i c → into ≡ old ++ made_in (take i cs) → new ≡ into ++ c.made →
    new ≡ old ++ made_in (take (i + 1) cs)
made_more old into new cs i c less is so more =
    more ∙ ap (λ ks. ks ++ c.made) so ∙ append_assoc old (made_in (take i cs)) c.made
    ∙ ap (λ ks. old ++ ks) (sym (ap made_in (take_more cs i c less ∙ ap (λ d. take i cs ++ d ∷ []) (sym is)) ∙ joined_one (take i cs)))
  where
    joined_one : (ds : List EndedCenterNow) → made_in (ds ++ c ∷ []) ≡ made_in ds ++ c.made
    joined_one [] = append-nil c.made
    joined_one (d ∷ ds) = ap (λ ks. d.made ++ ks) (joined_one ds) ∙ sym (append_assoc d.made (made_in ds) c.made)

pub sockets_more : (old into new : List SocketId) (ls : List LooseNow) (i : ℕ) (l : LooseNow) → i < length ls → l ≡ get_or ls i l → into ≡ old ++ sockets_of (take i ls) →
    new ≡ into ++ l.end.id ∷ [] → new ≡ old ++ sockets_of (take (i + 1) ls)
sockets_more old into new ls i l less is so more =
    more ∙ ap (λ ks. ks ++ l.end.id ∷ []) so ∙ append_assoc old (sockets_of (take i ls)) (l.end.id ∷ [])
    ∙ ap (λ ks. old ++ ks) (sym (ap sockets_of (take_more ls i l less ∙ ap (λ m. take i ls ++ m ∷ []) (sym is)) ∙ map-append (λ (m : LooseNow). m.end.id) (take i ls) (l ∷ [])))

-- at this place, and at this address
pub once_there : (nodes : List Node) (all : List OpenedNow) (k : ℕ) (x : Node) (o : OpenedNow) → slice_get nodes k ≡ Some x → slice_get all k ≡ Some o →
    HasEachOnce x.at (made_in o.centers) (o.left.at_door ++ o.left.on_way) → (y : Node) (p : OpenedNow) → slice_get nodes k ≡ Some y → slice_get all k ≡ Some p →
    HasEachOnce y.at (made_in p.centers) (p.left.at_door ++ p.left.on_way)
once_there nodes all k x o e f has y p g h =
    subst (λ (z : Node). HasEachOnce z.at (made_in p.centers) (p.left.at_door ++ p.left.on_way)) (same_Some x y (sym e ∙ g))
    (subst (λ (q : OpenedNow). HasEachOnce x.at (made_in q.centers) (q.left.at_door ++ q.left.on_way)) (same_Some o p (sym f ∙ h)) has)
