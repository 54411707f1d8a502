-- What the threads of nodes share, one node after another.
use Rattle.std.proofs.Common.{◌≡◌, ℕ, ◌+◌, List, [], ◌∷◌, ◌++◌, length, refl, sym, ap, subst, ◌∙◌, length-append}
use Rattle.std.specs.List.{AllByRecursion}
use Rattle.m2_bytes.proofs.m2_lemmas.Lists.{all_last}
use Rattle.m2_scenario.specs.declared.node.Node.{Node}
use Rattle.m2_node.specs.Lists.{SideBySide}
use Rattle.m2_node.specs.Sharing.{AddsShare, AreBounded, AreFirstOf, AreSharesOf, FirstPassesNow, HasBound, IsShare, ShareNow}
use Rattle.m2_node.proofs.Beside.{side_last}

pub none_shared : (shares : List ShareNow) (passes : List FirstPassesNow) → shares ≡ [] → passes ≡ [] → AreSharesOf [] shares passes
none_shared shares passes no_shares no_passes =
    subst (λ (ss : List ShareNow). AreSharesOf [] ss passes) (sym no_shares)
    (subst (λ (ps : List FirstPassesNow). AreSharesOf [] [] ps) (sym no_passes) (record { count = refl; bounds = tt; shared = tt; first = tt }))

pub one_share_more : (nodes : List Node) (x : Node) (shares new_shares : List ShareNow) (passes new_passes : List FirstPassesNow) → AreSharesOf nodes shares passes →
    AddsShare x.throttle shares passes new_shares new_passes → AreSharesOf (nodes ++ x ∷ []) new_shares new_passes
one_share_more nodes x shares new_shares passes new_passes far adds = record {
  count = ap length adds.shares_are ∙ length-append shares (adds.share ∷ []) ∙ ap (λ (n : ℕ). n + 1) far.count ∙ sym (length-append nodes (x ∷ []));
  bounds = subst (AreBounded (nodes ++ x ∷ [])) (sym adds.shares_are) (side_last (λ (y : Node). HasBound y.throttle) nodes shares x adds.share far.bounds adds.bound);
  shared = subst (AllByRecursion IsShare) (sym adds.shares_are) (all_last IsShare shares adds.share far.shared adds.shared);
  first = subst (λ (ss : List ShareNow). SideBySide AreFirstOf ss new_passes) (sym adds.shares_are)
      (subst (SideBySide AreFirstOf (shares ++ adds.share ∷ [])) (sym adds.passes_are) (side_last AreFirstOf shares passes adds.share adds.pass far.first adds.first));
}
