-- All workers at once, and their nodes.
use Rattle.std.proofs.Common.{◌≡◌, ℕ, zero, suc, ◌+◌, ◌-◌, ◌<◌, ◌≤◌, List, [], ◌∷◌, ◌++◌, length, map, max, Bool, get_or, take, drop, refl, sym, ap, subst, ◌∙◌, arith, append_assoc, append-nil, drop_of_length-le, take_all}
use denote.Exit.{if_kept, unseen}
use denote.Param.Send.{Quiet, Quiet-if}
use Rattle.std.specs.Prelude.{slice_get, Some}
use Rattle.std.specs.List.{AllByRecursion}
use Rattle.std.proofs.lemmas.List.Sums.{fold_more}
use Rattle.std.proofs.lemmas.Option.{none-some, same_Some}
use Rattle.m2_bytes.proofs.m2_lemmas.Lists.{all_last}
use Rattle.m2_script.specs.m2_center.Center.{CenterNow}
use Rattle.m2_dispatch.specs.declared.logged.Logged.{Logged}
use Rattle.m2_dispatch.specs.m2_shared.Numbers.{SeenNumbers}
use Rattle.m2_dispatch.specs.m2_shared.declared.throttles.Throttles.{Throttles}
use Rattle.m2_links_go_on.specs.ClusterTold.{OneByOne}
use Rattle.m2_scenario.specs.declared.node.Node.{Node}
use Rattle.m2_node.specs.Nodes.{IsServedBy, RunNodeNow}
use Rattle.m2_node.specs.Sharing.{ShareNow}
use Rattle.m2_node.specs.Working.{AreGrouped, IsGroup, WorkerNow, center_of, latest, node_of, nodes_of_workers}
use Rattle.m2_node.proofs.Places.{drop_here}

-- two lists that are as long, where each place of the one has its own of the other
pub one_by_one : {X : Type 0} (how : X → X → Type 0) (xs ys : List X) → length ys ≡ length xs → ((i : ℕ) (d : X) → i < length xs → how (get_or xs i d) (get_or ys i d)) → OneByOne how xs ys
one_by_one how [] [] e each = tt
one_by_one how [] (y ∷ ys) e each = absurd (omega (arith, e))
one_by_one how (x ∷ xs) [] e each = absurd (omega (arith, e))
one_by_one how (x ∷ xs) (y ∷ ys) e each = (each 0 x (omega arith), one_by_one how xs ys (omega (arith, e)) (λ i d less. each (suc i) d (omega (arith, less))))

pub one_length : {X : Type 0} (how : X → X → Type 0) (xs ys : List X) → OneByOne how xs ys → length ys ≡ length xs
one_length how [] [] all = refl
one_length how [] (y ∷ ys) all = absurd all
one_length how (x ∷ xs) [] all = absurd all
one_length how (x ∷ xs) (y ∷ ys) all = ap suc (one_length how xs ys all.1)

pub one_at : {X : Type 0} (how : X → X → Type 0) (xs ys : List X) → OneByOne how xs ys → (k : ℕ) (x y : X) → slice_get xs k ≡ Some x → slice_get ys k ≡ Some y → how x y
one_at how [] ys all k x y p q = absurd (none-some x p)
one_at how (z ∷ xs) [] all k x y p q = absurd (none-some y q)
one_at how (z ∷ xs) (w ∷ ys) all zero x y p q = subst (λ v. how v y) (same_Some z x p) (subst (how z) (same_Some w y q) all.0)
one_at how (z ∷ xs) (w ∷ ys) all (suc k) x y p q = one_at how xs ys all.1 k x y p q

-- none
pub none_by_one : {X : Type 0} (how : X → X → Type 0) (xs : List X) → length xs ≡ 0 → OneByOne how xs xs
none_by_one how [] e = tt
none_by_one how (x ∷ xs) e = absurd (omega (arith, e))

-- ---- nodes of the workers that are left, the last of which is the next one

-- there is as much that nodes share as there are nodes
none_shared : (nodes : List Node) (ws : List WorkerNow) (k : ℕ) → k < length nodes → AreGrouped (drop k nodes) [] ws → ⊥
none_shared [] ws k less groups = omega (arith, less)
none_shared (x ∷ nodes) ws zero less groups = groups
none_shared (x ∷ nodes) ws (suc k) less groups = none_shared nodes ws k (omega (arith, less)) groups

pub share_there : (nodes : List Node) (shares : List ShareNow) (ws : List WorkerNow) (k : ℕ) → k < length nodes → AreGrouped (drop k nodes) (drop k shares) ws → k < length shares
share_there nodes [] ws zero less groups = absurd (none_shared nodes ws zero less groups)
share_there nodes [] ws (suc k) less groups = absurd (none_shared nodes ws (suc k) less groups)
share_there [] (s ∷ shares) ws k less groups = absurd (omega (arith, less))
share_there (x ∷ nodes) (s ∷ shares) ws zero less groups = omega arith
share_there (x ∷ nodes) (s ∷ shares) ws (suc k) less groups = let rest = share_there nodes shares ws k (omega (arith, less)) groups in omega (arith, rest)

module _ (nodes : List Node) (shares : List ShareNow) (ws : List WorkerNow) (k : ℕ) (x : Node) (s : ShareNow) (here : slice_get nodes k ≡ Some x) (there : slice_get shares k ≡ Some s) where
  -- the first are those of the node at the place, and the others those of the nodes behind it
  pub first_group : AreGrouped (drop k nodes) (drop k shares) ws → IsGroup x s (take x.centers ws) × AreGrouped (drop (k + 1) nodes) (drop (k + 1) shares) (drop x.centers ws)
  first_group groups =
      subst (λ (ss : List ShareNow). AreGrouped (x ∷ drop (k + 1) nodes) ss ws) (drop_here shares k s there)
      (subst (λ (ns : List Node). AreGrouped ns (drop k shares) ws) (drop_here nodes k x here) groups)

  first_node : nodes_of_workers (drop k nodes) (drop k shares) ws ≡ node_of s (take x.centers ws) ∷ nodes_of_workers (drop (k + 1) nodes) (drop (k + 1) shares) (drop x.centers ws)
  first_node =
      ap (λ (ns : List Node). nodes_of_workers ns (drop k shares) ws) (drop_here nodes k x here)
      ∙ ap (λ (ss : List ShareNow). nodes_of_workers (x ∷ drop (k + 1) nodes) ss ws) (drop_here shares k s there)

  -- where that node is made of them, the nodes that are made and those of the others are all
  pub one_joined : (all new whole : List RunNodeNow) (n : RunNodeNow) (rest : List WorkerNow) → all ++ nodes_of_workers (drop k nodes) (drop k shares) ws ≡ whole →
      new ≡ all ++ n ∷ [] → n ≡ node_of s (take x.centers ws) → rest ≡ drop x.centers ws → new ++ nodes_of_workers (drop (k + 1) nodes) (drop (k + 1) shares) rest ≡ whole
  one_joined all new whole n rest so_far pushed made left =
      ap (λ (ns : List RunNodeNow). ns ++ nodes_of_workers (drop (k + 1) nodes) (drop (k + 1) shares) rest) pushed
      ∙ append_assoc all (n ∷ []) (nodes_of_workers (drop (k + 1) nodes) (drop (k + 1) shares) rest)
      ∙ ap (λ (ws : List WorkerNow). all ++ n ∷ nodes_of_workers (drop (k + 1) nodes) (drop (k + 1) shares) ws) left
      ∙ ap (λ (m : RunNodeNow). all ++ m ∷ nodes_of_workers (drop (k + 1) nodes) (drop (k + 1) shares) (drop x.centers ws)) made
      ∙ ap (λ (ns : List RunNodeNow). all ++ ns) (sym first_node)
      ∙ so_far

-- all nodes are made
pub all_joined : (nodes : List Node) (shares : List ShareNow) (ws : List WorkerNow) (k : ℕ) (all whole : List RunNodeNow) → length nodes ≤ k →
    all ++ nodes_of_workers (drop k nodes) (drop k shares) ws ≡ whole → all ≡ whole
all_joined nodes shares ws k all whole behind so_far =
    sym (append-nil all) ∙ ap (λ (ns : List Node). all ++ nodes_of_workers ns (drop k shares) ws) (sym (drop_of_length-le nodes behind)) ∙ so_far

-- ---- the workers of a node

-- what is made of a node's workers, where so many are left: its centers so far and theirs are all, behind them come those of other nodes,
-- and each is a worker of the node
pub record AreJoined (s : ShareNow) (left : ℕ) (centers : List (CenterNow (List Logged))) (ws all others : List WorkerNow) : Type 0 where
  pub so_far : centers ++ map center_of (take left ws) ≡ map center_of all
  pub behind : drop left ws ≡ others
  pub served : AllByRecursion (IsServedBy s.numbers s.throttles) centers
  pub numbers : AllByRecursion (λ (w : WorkerNow). w.numbers ≡ s.numbers) (take left ws)
  pub throttles : AllByRecursion (λ (w : WorkerNow). w.throttles ≡ s.throttles) (take left ws)

pub none_joined : (x : Node) (s : ShareNow) (centers : List (CenterNow (List Logged))) (ws : List WorkerNow) → IsGroup x s (take x.centers ws) → centers ≡ [] →
    AreJoined s x.centers centers ws (take x.centers ws) (drop x.centers ws)
none_joined x s centers ws g none = record {
  so_far = ap (λ (cs : List (CenterNow (List Logged))). cs ++ map center_of (take x.centers ws)) none;
  behind = refl;
  served = subst (AllByRecursion (IsServedBy s.numbers s.throttles)) (sym none) tt;
  numbers = g.numbers;
  throttles = g.throttles;
}

-- one center more, of the next worker
pub one_more_joined : (s : ShareNow) (left : ℕ) (centers new : List (CenterNow (List Logged))) (c : CenterNow (List Logged)) (ws rest all others : List WorkerNow) (w : WorkerNow) →
    AreJoined s (suc left) centers ws all others → ws ≡ w ∷ rest → new ≡ centers ++ c ∷ [] → c ≡ w.center → IsServedBy w.numbers w.throttles w.center → AreJoined s left new rest all others
one_more_joined s left centers new c ws rest all others w j first pushed same served =
    let i : AreJoined s (suc left) centers (w ∷ rest) all others = subst (λ (vs : List WorkerNow). AreJoined s (suc left) centers vs all others) first j in
    let its : IsServedBy s.numbers s.throttles c =
    subst (IsServedBy s.numbers s.throttles) (sym same)
    (subst (λ (t : Throttles). IsServedBy s.numbers t w.center) i.throttles.0 (subst (λ (n : SeenNumbers). IsServedBy n w.throttles w.center) i.numbers.0 served)) in
    record {
      so_far =
          ap (λ (cs : List (CenterNow (List Logged))). cs ++ map center_of (take left rest)) pushed
          ∙ append_assoc centers (c ∷ []) (map center_of (take left rest))
          ∙ ap (λ (d : CenterNow (List Logged)). centers ++ d ∷ map center_of (take left rest)) same
          ∙ i.so_far;
      behind = i.behind;
      served = subst (AllByRecursion (IsServedBy s.numbers s.throttles)) (sym pushed) (all_last (IsServedBy s.numbers s.throttles) centers c i.served its);
      numbers = i.numbers.1;
      throttles = i.throttles.1;
    }

-- the same, by how many of the node's workers came before it
pub next_joined : (s : ShareNow) (most n : ℕ) (centers new : List (CenterNow (List Logged))) (c : CenterNow (List Logged)) (ws rest all others : List WorkerNow) (w : WorkerNow) → n < most →
    AreJoined s (most - n) centers ws all others → ws ≡ w ∷ rest → new ≡ centers ++ c ∷ [] → c ≡ w.center → IsServedBy w.numbers w.throttles w.center →
    AreJoined s (most - (n + 1)) new rest all others
next_joined s most n centers new c ws rest all others w less j first pushed same served =
    let next : most - n ≡ suc (most - (n + 1)) = omega (arith, less) in
    one_more_joined s (most - (n + 1)) centers new c ws rest all others w (subst (λ (k : ℕ). AreJoined s k centers ws all others) next j) first pushed same served

-- the node of these centers
abbrev joined_by : ShareNow → List (CenterNow (List Logged)) → RunNodeNow
joined_by s centers = record { centers = centers; numbers = s.numbers; throttles = s.throttles }

-- all of them
pub centers_joined : (s : ShareNow) (most n : ℕ) (centers : List (CenterNow (List Logged))) (ws all others : List WorkerNow) → most ≤ n → AreJoined s (most - n) centers ws all others →
    centers ≡ map center_of all
centers_joined s most n centers ws all others behind j =
    let none : most - n ≡ zero = omega (arith, behind) in
    let i : AreJoined s zero centers ws all others = subst (λ (k : ℕ). AreJoined s k centers ws all others) none j in
    sym (append-nil centers) ∙ i.so_far

-- over what they share
pub node_joined : (s t : ShareNow) (centers : List (CenterNow (List Logged))) (all : List WorkerNow) → t ≡ s → centers ≡ map center_of all → joined_by t centers ≡ node_of s all
node_joined s t centers all same are = ap (λ (u : ShareNow). joined_by u centers) same ∙ ap (joined_by s) are

-- behind them are those of the other nodes
pub others_left : (s : ShareNow) (most n : ℕ) (centers : List (CenterNow (List Logged))) (ws all others : List WorkerNow) → most ≤ n → AreJoined s (most - n) centers ws all others → ws ≡ others
others_left s most n centers ws all others behind j =
    let none : most - n ≡ zero = omega (arith, behind) in
    let i : AreJoined s zero centers ws all others = subst (λ (k : ℕ). AreJoined s k centers ws all others) none j in
    i.behind

-- all of a list that was lent is given back
pub lent_back : {X : Type 0} (xs ys : List X) (n : ℕ) → n ≡ length xs → length ys ≡ length xs → take n (ys ++ drop (length ys) xs) ≡ ys
lent_back {X} xs ys n count same =
    ap (λ (zs : List X). take n (ys ++ zs)) (drop_of_length-le xs (omega (arith, same)))
    ∙ ap (take n) (append-nil ys)
    ∙ take_all n ys (omega (arith, count, same))

-- the moment of one worker more
pub one_later : (start : ℕ) (workers : List WorkerNow) (k now next : ℕ) (w : WorkerNow) (moment : ℕ) → k < length workers → w ≡ get_or workers k w → moment ≡ w.moment →
    now ≡ latest start (take k workers) → next ≡ max now moment → next ≡ latest start (take (k + 1) workers)
one_later start workers k now next w moment less read is was e =
    e
    ∙ ap (λ (n : ℕ). max n moment) was
    ∙ ap (max (latest start (take k workers))) (is ∙ ap (λ (x : WorkerNow). x.moment) read)
    ∙ sym (fold_more (λ (m : ℕ) (x : WorkerNow). max m x.moment) start workers k w less)

-- Where a value ends that nothing sees any more, nothing of it is left to a thread.
pub none_left : {X : Type 0} (b : Bool) → Quiet (if_kept b (unseen {D = X}) (unseen {D = X}))
none_left b = Quiet-if b unseen unseen (λ x w. tt) (λ x w. tt)
