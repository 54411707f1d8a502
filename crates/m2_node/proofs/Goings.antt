-- All nodes go on: their workers to the latest moment.
use Rattle.std.proofs.Common.{◌≡◌, inl, inr, ℕ, zero, suc, ◌≤◌, max, Bool, List, [], ◌∷◌, drop, length, map, take, refl, sym, ap, subst, ◌∙◌, arith}
use Rattle.std.specs.Prelude.{slice_get, Some}
use Rattle.std.specs.List.{AllByRecursion}
use Rattle.std.proofs.lemmas.Option.{none-some, same_Some}
use Rattle.m2_bytes.proofs.m2_lemmas.Lists.{all_drop, all_so, all_take}
use Rattle.m2_script.specs.m2_center.Center.{CenterNow}
use Rattle.m2_links_go_on.specs.ClusterTold.{OneByOne}
use Rattle.m2_links_go_on.specs.Course.{DialsInTime}
use Rattle.m2_links_go_on.specs.Made.{NodeMade}
use Rattle.m2_dispatch.specs.declared.logged.Logged.{Logged}
use Rattle.m2_script.specs.m2_record.RecordNow.{RecordNow}
use Rattle.m2_node.proofs.Way.{either, first_below, goes_then}
use Rattle.m2_scenario.specs.declared.node.Node.{Node}
use Rattle.m2_node.specs.Nodes.{RunNodeNow}
use Rattle.m2_node.specs.Sharing.{ShareNow}
use Rattle.m2_node.specs.Way.{AllGoOn, GoesOn, IsUnderWay, NodeGoesOn}
use Rattle.m2_node.specs.Working.{AllWork, AreGrouped, AreWorkersOf, IsGroup, WorkerNow, Works, center_of, latest, node_of, nodes_of_workers}
use Rattle.m2_node.proofs.Workers.{one_length}

-- ---- where time passes

in_time : (from now : ℕ) → from ≤ now → (r : RecordNow) → DialsInTime from r → DialsInTime now r
in_time from now later r d = omega (arith, later, d)

-- a center waits
pub waits_until : (may_give : ℕ → Type 0) (from now : ℕ) (started : Bool) (c : CenterNow (List Logged)) → may_give now → from ≤ now → GoesOn may_give from now started c c
waits_until may_give from now started c given later = record {
  way = λ (made : NodeMade) (w : IsUnderWay may_give from made c). record {
    course = record {
      given = given;
      made = w.course.made;
      own = w.course.own;
      held = w.course.held;
      once = w.course.once;
      halves = w.course.halves;
      missed = w.course.missed;
      last = w.course.last;
      dials = all_so (DialsInTime from) (DialsInTime now) (in_time from now later) c.records w.course.dials;
    };
    came = w.came;
    logged = w.logged;
    peers = w.peers;
  };
  off = λ off. refl;
}

-- ---- the latest moment

second_below : (a b : ℕ) → b ≤ max a b
second_below a b = grind arith

pub start_below : (start : ℕ) (ws : List WorkerNow) → start ≤ latest start ws
start_below start [] = omega arith
start_below start (w ∷ ws) = let here = first_below start w.moment in let more = start_below (max start w.moment) ws in omega (arith, here, more)

all_moments_below : (start : ℕ) (ws : List WorkerNow) → AllByRecursion (λ (w : WorkerNow). w.moment ≤ latest start ws) ws
all_moments_below start [] = tt
all_moments_below start (w ∷ ws) =
    let here = second_below start w.moment in
    let more = start_below (max start w.moment) ws in
    (omega (arith, here, more), all_moments_below (max start w.moment) ws)

pub latest_given : (may_give : ℕ → Type 0) (start : ℕ) (ws : List WorkerNow) → may_give start → AllByRecursion (λ (w : WorkerNow). may_give w.moment) ws → may_give (latest start ws)
latest_given may_give start [] given all = given
latest_given may_give start (w ∷ ws) given all = latest_given may_give (max start w.moment) ws (elim (either start w.moment) [
  | inl same ↦ subst may_give (sym same) given
  | inr same ↦ subst may_give (sym same) all.0
]) all.1

-- ---- workers

pub all_given : (may_give : ℕ → Type 0) (start : ℕ) (old new : List WorkerNow) → may_give start → AllByRecursion (λ (w : WorkerNow). w.moment ≡ start) old → AllWork may_give old new →
    AllByRecursion (λ (w : WorkerNow). may_give w.moment) new
all_given may_give start [] [] given moments all = tt
all_given may_give start [] (v ∷ vs) given moments all = elim all [ ]
all_given may_give start (w ∷ ws) [] given moments all = elim all [ ]
all_given may_give start (w ∷ ws) (v ∷ vs) given moments all = (all.0.given (subst may_give (sym moments.0) given), all_given may_give start ws vs given moments.1 all.1)

-- each goes on to its own moment, and waits until the latest
one_goes : (may_give : ℕ → Type 0) (start now : ℕ) (started : Bool) (w v : WorkerNow) → Works may_give w v → may_give start → w.moment ≡ start → w.started ≡ started → may_give now →
    v.moment ≤ now → GoesOn may_give start now started w.center v.center
one_goes may_give start now started w v works given at on later below =
    goes_then may_give start v.moment now started w.center v.center v.center
    (subst (λ (b : Bool). GoesOn may_give start v.moment b w.center v.center) on
    (subst (λ (m : ℕ). GoesOn may_give m v.moment w.started w.center v.center) at (works.goes (subst may_give (sym at) given))))
    (waits_until may_give v.moment now started v.center later below)

-- so do those of one node
group_goes : (may_give : ℕ → Type 0) (start now : ℕ) (started : Bool) (ws vs : List WorkerNow) → AllWork may_give ws vs → may_give start → AllByRecursion (λ (w : WorkerNow). w.moment ≡ start) ws →
    AllByRecursion (λ (w : WorkerNow). w.started ≡ started) ws → may_give now → AllByRecursion (λ (w : WorkerNow). w.moment ≤ now) vs →
    OneByOne (GoesOn may_give start now started) (map center_of ws) (map center_of vs)
group_goes may_give start now started [] [] all given moments on later below = tt
group_goes may_give start now started [] (v ∷ vs) all given moments on later below = absurd all
group_goes may_give start now started (w ∷ ws) [] all given moments on later below = absurd all
group_goes may_give start now started (w ∷ ws) (v ∷ vs) all given moments on later below =
    (one_goes may_give start now started w v all.0 given moments.0 on.0 later below.0, group_goes may_give start now started ws vs all.1 given moments.1 on.1 later below.1)

-- ---- the first ones of lists, and those behind

taken_one : {X : Type 0} (how : X → X → Type 0) (n : ℕ) (xs ys : List X) → OneByOne how xs ys → OneByOne how (take n xs) (take n ys)
taken_one how zero xs ys all = tt
taken_one how (suc n) [] [] all = tt
taken_one how (suc n) [] (y ∷ ys) all = absurd all
taken_one how (suc n) (x ∷ xs) [] all = absurd all
taken_one how (suc n) (x ∷ xs) (y ∷ ys) all = (all.0, taken_one how n xs ys all.1)

dropped_one : {X : Type 0} (how : X → X → Type 0) (n : ℕ) (xs ys : List X) → OneByOne how xs ys → OneByOne how (drop n xs) (drop n ys)
dropped_one how zero xs ys all = all
dropped_one how (suc n) [] [] all = tt
dropped_one how (suc n) [] (y ∷ ys) all = absurd all
dropped_one how (suc n) (x ∷ xs) [] all = absurd all
dropped_one how (suc n) (x ∷ xs) (y ∷ ys) all = dropped_one how n xs ys all.1

-- ---- the workers of each node

-- what each worker keeps
each_keeps : (may_give : ℕ → Type 0) (P : WorkerNow → Type 0) → ((w v : WorkerNow) → Works may_give w v → P w → P v) → (ws vs : List WorkerNow) → AllWork may_give ws vs →
    AllByRecursion P ws → AllByRecursion P vs
each_keeps may_give P keeps [] [] all its = tt
each_keeps may_give P keeps [] (v ∷ vs) all its = absurd all
each_keeps may_give P keeps (w ∷ ws) [] all its = absurd all
each_keeps may_give P keeps (w ∷ ws) (v ∷ vs) all its = (keeps w v all.0 its.0, each_keeps may_give P keeps ws vs all.1 its.1)

-- those of a node stay its workers
group_stays : (may_give : ℕ → Type 0) (x : Node) (s : ShareNow) (ws vs : List WorkerNow) → AllWork may_give ws vs → IsGroup x s ws → IsGroup x s vs
group_stays may_give x s ws vs all g = record {
  count = one_length (Works may_give) ws vs all ∙ g.count;
  started = each_keeps may_give (λ (w : WorkerNow). w.started ≡ x.started) (λ w v works is. works.started ∙ is) ws vs all g.started;
  numbers = each_keeps may_give (λ (w : WorkerNow). w.numbers ≡ s.numbers) (λ w v works is. works.numbers ∙ is) ws vs all g.numbers;
  throttles = each_keeps may_give (λ (w : WorkerNow). w.throttles ≡ s.throttles) (λ w v works is. works.throttles ∙ is) ws vs all g.throttles;
}

none_stay : (may_give : ℕ → Type 0) (ws vs : List WorkerNow) → AllWork may_give ws vs → ws ≡ [] → vs ≡ []
none_stay may_give [] [] all none = refl
none_stay may_give [] (v ∷ vs) all none = absurd all
none_stay may_give (w ∷ ws) vs all none = absurd (omega (arith, ap length none))

-- so do all
pub stay_grouped : (may_give : ℕ → Type 0) (nodes : List Node) (shares : List ShareNow) (old new : List WorkerNow) → AllWork may_give old new → AreGrouped nodes shares old →
    AreGrouped nodes shares new
stay_grouped may_give [] [] old new all groups = none_stay may_give old new all groups
stay_grouped may_give [] (s ∷ shares) old new all groups = absurd groups
stay_grouped may_give (x ∷ nodes) [] old new all groups = absurd groups
stay_grouped may_give (x ∷ nodes) (s ∷ shares) old new all groups = (
  group_stays may_give x s (take x.centers old) (take x.centers new) (taken_one (Works may_give) x.centers old new all) groups.0,
  stay_grouped may_give nodes shares (drop x.centers old) (drop x.centers new) (dropped_one (Works may_give) x.centers old new all) groups.1,
)

-- they make as many nodes
pub as_many_nodes : (nodes : List Node) (shares : List ShareNow) (ws : List WorkerNow) → AreGrouped nodes shares ws → length (nodes_of_workers nodes shares ws) ≡ length nodes
as_many_nodes [] shares ws groups = refl
as_many_nodes (x ∷ nodes) [] ws groups = absurd groups
as_many_nodes (x ∷ nodes) (s ∷ shares) ws groups = ap suc (as_many_nodes nodes shares (drop x.centers ws) groups.1)

-- ---- all nodes

module _ (may_give : ℕ → Type 0) (start now : ℕ) (given : may_give start) (later : may_give now) where
  -- the nodes of workers that were grouped go on by what each worker does
  nodes_go : (nodes : List Node) (shares : List ShareNow) (old new : List WorkerNow) → AreGrouped nodes shares old → AllByRecursion (λ (w : WorkerNow). w.moment ≡ start) old → AllWork may_give old new →
      AllByRecursion (λ (w : WorkerNow). w.moment ≤ now) new → AllGoOn may_give start now nodes (nodes_of_workers nodes shares old) (nodes_of_workers nodes shares new)
  nodes_go [] shares old new groups moments all below = record { count = refl; each = λ k x n m there p q. absurd (none-some x there) }
  nodes_go (x ∷ nodes) [] old new groups moments all below = absurd groups
  nodes_go (x ∷ nodes) (s ∷ shares) old new groups moments all below =
      let rest = nodes_go nodes shares (drop x.centers old) (drop x.centers new) groups.1 (all_drop (λ (w : WorkerNow). w.moment ≡ start) x.centers old moments)
      (dropped_one (Works may_give) x.centers old new all) (all_drop (λ (w : WorkerNow). w.moment ≤ now) x.centers new below) in
      record {
        count = ap suc rest.count;
        each = first_node x nodes s shares old new (record {
          each = group_goes may_give start now x.started (take x.centers old) (take x.centers new) (taken_one (Works may_give) x.centers old new all) given
              (all_take (λ (w : WorkerNow). w.moment ≡ start) x.centers old moments) groups.0.started later (all_take (λ (w : WorkerNow). w.moment ≤ now) x.centers new below);
          shared = refl;
        }) rest.each;
      }
    where
      first_node : (x : Node) (nodes : List Node) (s : ShareNow) (shares : List ShareNow) (old new : List WorkerNow) →
          NodeGoesOn may_give start now x.started (node_of s (take x.centers old)) (node_of s (take x.centers new)) →
          ((k : ℕ) (y : Node) (n m : RunNodeNow) → slice_get nodes k ≡ Some y → slice_get (nodes_of_workers nodes shares (drop x.centers old)) k ≡ Some n →
          slice_get (nodes_of_workers nodes shares (drop x.centers new)) k ≡ Some m → NodeGoesOn may_give start now y.started n m) →
          (k : ℕ) (y : Node) (n m : RunNodeNow) → slice_get (x ∷ nodes) k ≡ Some y → slice_get (nodes_of_workers (x ∷ nodes) (s ∷ shares) old) k ≡ Some n →
          slice_get (nodes_of_workers (x ∷ nodes) (s ∷ shares) new) k ≡ Some m → NodeGoesOn may_give start now y.started n m
      first_node x nodes s shares old new goes rest zero y n m there p q =
          subst (λ (z : Node). NodeGoesOn may_give start now z.started n m) (same_Some x y there)
          (subst (λ (z : RunNodeNow). NodeGoesOn may_give start now x.started z m) (same_Some (node_of s (take x.centers old)) n p)
          (subst (NodeGoesOn may_give start now x.started (node_of s (take x.centers old))) (same_Some (node_of s (take x.centers new)) m q) goes))
      first_node x nodes s shares old new goes rest (suc k) y n m there p q = rest k y n m there p q

module _ (may_give : ℕ → Type 0) (nodes : List Node) (shares : List ShareNow) (start : ℕ) (old new : List WorkerNow) (given : may_give start) (are : AreWorkersOf nodes shares start old)
    (all : AllWork may_give old new) where
  pub now_given : may_give (latest start new)
  now_given = latest_given may_give start new given (all_given may_give start old new given are.moments all)

  pub all_go_on : AllGoOn may_give start (latest start new) nodes (nodes_of_workers nodes shares old) (nodes_of_workers nodes shares new)
  all_go_on = nodes_go may_give start (latest start new) given now_given nodes shares old new are.groups are.moments all (all_moments_below start new)
