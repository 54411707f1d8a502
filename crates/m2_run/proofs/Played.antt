-- All nodes go on: their workers to the latest moment, and behind that whoever started them; so they have played.
use Rattle.std.proofs.Common.{◌≡◌, ◌⊎◌, ℕ, ◌≤◌, List, subst, ◌∙◌, arith}
use Rattle.m2_scenario.specs.declared.link.Link.{Link}
use Rattle.m2_scenario.specs.declared.node.Node.{Node}
use Rattle.m2_node.specs.Nodes.{RunNodeNow}
use Rattle.m2_node.specs.Sharing.{ShareNow}
use Rattle.m2_node.specs.Way.{AllGoOn}
use Rattle.m2_node.specs.Working.{AllWork, AreWorkersOf, WorkerNow, latest, nodes_of_workers}
use Rattle.m2_node.proofs.Goings.{all_go_on, start_below}
use Rattle.m2_node.proofs.Places.{get_too}
use Rattle.m2_run.specs.Kept.{left_of}
use Rattle.m2_run.specs.Ran.{HasStalled}
use Rattle.m2_run.specs.Settling.{HasPlayed}
use Rattle.m2_run.proofs.Rounds.{node_goes_then}

pub all_go_after : (may_give : ℕ → Type 0) (a b c : ℕ) (nodes : List Node) (xs ys zs : List RunNodeNow) → AllGoOn may_give a b nodes xs ys → AllGoOn may_give b c nodes ys zs →
    AllGoOn may_give a c nodes xs zs
all_go_after may_give a b c nodes xs ys zs g h = record {
  count = h.count ∙ g.count;
  each = λ k x n m there p q. (let mid = get_too xs ys k n g.count p in
      node_goes_then may_give a b c x.started n mid.item m (g.each k x n mid.item there p mid.there) (h.each k x mid.item m there mid.there q));
}

-- nodes whose threads have worked, and with which whoever started them went on, have played
pub have_played : (may_give : ℕ → Type 0) (limit : ℕ) (nodes : List Node) (links : List Link) (shares : List ShareNow) (start now stop left : ℕ) (old new : List WorkerNow) (mid end : List RunNodeNow) →
    may_give start → AreWorkersOf nodes shares start old → AllWork may_give old new → mid ≡ nodes_of_workers nodes shares new → now ≡ latest start new → left ≡ left_of links end →
    (left ≡ 0) ⊎ HasStalled limit nodes end start stop → now ≤ stop → may_give stop → AllGoOn may_give now stop nodes mid end →
    HasPlayed may_give limit nodes links start stop (nodes_of_workers nodes shares old) end left
have_played may_give limit nodes links shares start now stop left old new mid end given are all joined latest_is left_is over later stop_given goes = record {
  left_is = left_is;
  over = over;
  later = let first = start_below start new in omega (arith, first, later, latest_is);
  given = stop_given;
  goes_on = all_go_after may_give start (latest start new) stop nodes (nodes_of_workers nodes shares old) (nodes_of_workers nodes shares new) end (all_go_on may_give nodes shares start old new given are all)
      (subst (λ (m : ℕ). AllGoOn may_give m stop nodes (nodes_of_workers nodes shares new) end) latest_is (subst (λ (ns : List RunNodeNow). AllGoOn may_give now stop nodes ns end) joined goes));
}
