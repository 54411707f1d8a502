-- What the event threads of nodes share. This project's own.
use Rattle.std.specs.Prelude.{◌≡◌, ℕ, List, [], ◌∷◌, ◌++◌, length}
use Rattle.std.specs.List.{AllByRecursion}
use Rattle.m2_dispatch.specs.m2_shared.Numbers.{SeenNumberPass, SeenNumbers}
use Rattle.m2_dispatch.specs.m2_shared.Gates.{ArePassesOf, AreShared, Gate, bound_at, dispatch_alone, throttle_in, unused_by}
use Rattle.m2_dispatch.specs.m2_shared.Place.{IsShared}
use Rattle.m2_dispatch.specs.m2_shared.declared.throttles.TakePasses.{TakePasses}
use Rattle.m2_dispatch.specs.m2_shared.declared.throttles.Throttles.{Throttles}
use Rattle.m2_scenario.specs.declared.node.Node.{Node}
use Rattle.m2_node.specs.Lists.{SideBySide}

-- the counter of global numbers, and the throttles
pub record ShareNow : Type 0 where
  pub numbers : SeenNumbers
  pub throttles : Throttles

-- the passes to them that each thread's are split off
pub record FirstPassesNow : Type 0 where
  pub numbers : SeenNumberPass
  pub throttles : TakePasses

-- all lie where threads share them
pub record IsShare (s : ShareNow) : Type 0 where
  pub numbers : IsShared s.numbers.place
  pub throttles : AreShared s.throttles

-- they are to these, and nothing was drawn or granted by them
pub record AreFirstOf (s : ShareNow) (p : FirstPassesNow) : Type 0 where
  pub numbers : p.numbers ≡ record { place = s.numbers.place; least = 0; drawn = [] }
  pub throttles : p.throttles ≡ unused_by s.throttles

-- the throttle of the dispatch has this bound, and no other has one
abbrev pub HasBound : ℕ → ShareNow → Type 0
HasBound most s = (gate : Gate) → (throttle_in s.throttles gate).most ≡ bound_at (dispatch_alone most) gate

-- each node's has its own
abbrev pub AreBounded : List Node → List ShareNow → Type 0
AreBounded = SideBySide (λ (x : Node). HasBound x.throttle)

-- of each of these nodes the threads share these, and these are the first passes to them
pub record AreSharesOf (nodes : List Node) (shares : List ShareNow) (passes : List FirstPassesNow) : Type 0 where
  pub count : length shares ≡ length nodes
  pub bounds : AreBounded nodes shares
  pub shared : AllByRecursion IsShare shares
  pub first : SideBySide AreFirstOf shares passes

-- there are nodes of which they are
abbrev pub AreShares : List ShareNow → List FirstPassesNow → Type 0
AreShares shares passes = (nodes : List Node) × AreSharesOf nodes shares passes

-- those of one more go last, whose dispatch has this bound
pub record AddsShare (most : ℕ) (shares : List ShareNow) (passes : List FirstPassesNow) (shares_new : List ShareNow) (passes_new : List FirstPassesNow) : Type 0 where
  pub share : ShareNow
  pub pass : FirstPassesNow
  pub bound : HasBound most share
  pub shared : IsShare share
  pub first : AreFirstOf share pass
  pub shares_are : shares_new ≡ shares ++ share ∷ []
  pub passes_are : passes_new ≡ passes ++ pass ∷ []

-- of each node a right to give back, of the thread of its dispatcher
abbrev pub AreRights : List ShareNow → List TakePasses → Type 0
AreRights shares rights = SideBySide (λ (s : ShareNow) (r : TakePasses). ArePassesOf s.throttles r) shares rights
