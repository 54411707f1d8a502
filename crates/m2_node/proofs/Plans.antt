-- Records whose plans are filled, step by step.
use Rattle.std.proofs.Common.{◌≡◌, ◌==◌, ◌⊎◌, inl, inr, ◌<◌, ◌≤◌, ◌+◌, ◌++◌, ◌∙◌, ℕ, zero, suc, true, false, List, [], ◌∷◌, get_or, length, map, Some, refl, sym, ap, subst, append_assoc, arith}
use Rattle.std.specs.Prelude.{slice_get, slice_set}
use Rattle.std.specs.List.{AllByRecursion, IsDistinct}
use Rattle.std.proofs.lemmas.Bool.{cases_eq, eq-eqb, ne_eqb}
use Rattle.std.proofs.lemmas.List.{append-nil}
use Rattle.std.proofs.lemmas.List.Elements.{filter_map-append}
use Rattle.std.proofs.lemmas.Option.{get_or_from_slice_get, none-some, same_Some, slice_get_within}
use Rattle.m2_fabric.proofs.m2_lemmas.Lists.{all_at, all_by_places, all_of_map, all_so_of}
use Rattle.m2_fabric.proofs.m2_lemmas.Numbers.{unlike_turned}
use Rattle.m2_links_go_on.proofs.m2_history.m2_record.m2_core.Holding.{nothing_owned}
use Rattle.m2_links_go_on.specs.Made.{IsBegun}
use Rattle.m2_journal.specs.declared.facts.PlanStep.{PlanStep}
use Rattle.m2_links_go_on.specs.ClusterTold.{OneByOne}
use Rattle.m2_links_go_on.specs.Logged.{AreOfTheirPeers}
use Rattle.m2_script.specs.m2_record.Calls.{Owns, planned_too}
use Rattle.m2_script.specs.m2_record.RecordNow.{RecordNow, Rooms}
use Rattle.m2_shared.specs.Gates.{Places}
use Rattle.m2_node.specs.Planned.{IsPlaceTowards, IsPlannedBy, NoneTowards, plan_of, towards_in}
use Rattle.m2_node.specs.declared.planning.StepTowards.{StepTowards}

-- ---- one step

module _ (s : StepTowards) where
  plan_yes : (j : ℕ) → (s.peer == j) ≡ true → plan_of (s ∷ []) j ≡ s.step ∷ []
  plan_yes j e = rw e refl

  plan_no : (j : ℕ) → (s.peer == j) ≡ false → plan_of (s ∷ []) j ≡ []
  plan_no j e = rw e refl

  -- one towards its peer takes it, and another stays
  takes : (r : RecordNow) → (s.peer == r.place) ≡ true → IsPlannedBy (s ∷ []) r (planned_too s.step r)
  takes r e = ap (λ (p : List PlanStep). record r { plan = r.plan ++ p }) (sym (plan_yes r.place e))

  stays : (r : RecordNow) → (s.peer == r.place) ≡ false → IsPlannedBy (s ∷ []) r r
  stays r e = ap (λ (p : List PlanStep). record r { plan = p }) (sym (append-nil r.plan) ∙ ap (λ (p : List PlanStep). r.plan ++ p) (sym (plan_no r.place e)))

  all_stay : (rs : List RecordNow) → AllByRecursion (λ (r : RecordNow). (s.peer == r.place) ≡ false) rs → OneByOne (IsPlannedBy (s ∷ [])) rs rs
  all_stay [] all = tt
  all_stay (r ∷ rs) all = (stays r all.0, all_stay rs all.1)

  -- where none is towards its peer
  pub none_takes : (rs : List RecordNow) → NoneTowards s.peer rs → OneByOne (IsPlannedBy (s ∷ [])) rs rs
  none_takes rs none = all_stay rs (all_so_of (λ (r : RecordNow). (r.place == s.peer) ≡ false) (λ (r : RecordNow). (s.peer == r.place) ≡ false) rs (λ r e. unlike_turned r.place s.peer e) none)

  -- where the one at a place is, and no two are of one peer
  pub one_takes : (rs : List RecordNow) (place : ℕ) (side : RecordNow) → AreOfTheirPeers rs → slice_get rs place ≡ Some side → side.place ≡ s.peer →
      OneByOne (IsPlannedBy (s ∷ [])) rs (slice_set rs place (planned_too s.step side))
  unfolding IsDistinct
  one_takes [] place side peers there towards = absurd (none-some side there)
  one_takes (r ∷ rs) zero side peers there towards =
      let is : r ≡ side = same_Some r side there in
      let here : r.place ≡ s.peer = ap (λ (x : RecordNow). x.place) is ∙ towards in
      let others : AllByRecursion (λ (x : RecordNow). (r.place == x.place) ≡ false) rs = all_of_map (λ (p : ℕ). (r.place == p) ≡ false) (λ (x : RecordNow). x.place) rs peers.0 in (
        subst (λ (x : RecordNow). IsPlannedBy (s ∷ []) r (planned_too s.step x)) is (takes r (eq-eqb s.peer r.place (sym here))),
        all_stay rs (subst (λ (p : ℕ). AllByRecursion (λ (x : RecordNow). (p == x.place) ≡ false) rs) here others),
      )
  one_takes (r ∷ rs) (suc n) side peers there towards =
      let others : AllByRecursion (λ (x : RecordNow). (r.place == x.place) ≡ false) rs = all_of_map (λ (p : ℕ). (r.place == p) ≡ false) (λ (x : RecordNow). x.place) rs peers.0 in
      let apart : (r.place == side.place) ≡ false = all_at (λ (x : RecordNow). (r.place == x.place) ≡ false) rs n side there others in
      (stays r (ap (λ (p : ℕ). p == r.place) (sym towards) ∙ unlike_turned r.place side.place apart), one_takes rs n side peers.1 there towards)

  -- as it is found
  pub one_planned : (read rs : List RecordNow) (place : ℕ) (found now : RecordNow) → read ≡ rs → AreOfTheirPeers rs → IsPlaceTowards s.peer read place → found ≡ get_or rs place found → now ≡ planned_too s.step found →
      OneByOne (IsPlannedBy (s ∷ [])) rs (slice_set rs place now)
  one_planned read rs place found now reads peers is here e =
      let there : slice_get rs place ≡ Some is.side = ap (λ (xs : List RecordNow). slice_get xs place) (sym reads) ∙ is.there in
      let same : is.side ≡ found = sym (get_or_from_slice_get rs place is.side found there) ∙ sym here in
      subst (λ (r : RecordNow). OneByOne (IsPlannedBy (s ∷ [])) rs (slice_set rs place r)) (ap (planned_too s.step) same ∙ sym e) (one_takes rs place is.side peers there is.towards)

-- ---- one after another

-- what is planned, and then what is left for it, is all
pub record PlannedSoFar (rest all : List StepTowards) (old new : RecordNow) : Type 0 where
  pub only : new ≡ record old { plan = new.plan; room = new.room }
  pub plan : new.plan ++ plan_of rest old.place ≡ old.plan ++ plan_of all old.place

pub none_yet : (rest all : List StepTowards) → rest ≡ all → (rs : List RecordNow) → OneByOne (PlannedSoFar rest all) rs rs
none_yet rest all same [] = tt
none_yet rest all same (r ∷ rs) = (record { only = refl; plan = ap (λ (ss : List StepTowards). r.plan ++ plan_of ss r.place) same }, none_yet rest all same rs)

pub then_one : {X : Type 0} (P Q R : X → X → Type 0) → ((x y z : X) → P x y → Q y z → R x z) → (xs ys zs : List X) → OneByOne P xs ys → OneByOne Q ys zs → OneByOne R xs zs
then_one P Q R so [] [] [] a b = tt
then_one P Q R so [] [] (z ∷ zs) a b = absurd b
then_one P Q R so [] (y ∷ ys) zs a b = absurd a
then_one P Q R so (x ∷ xs) [] zs a b = absurd a
then_one P Q R so (x ∷ xs) (y ∷ ys) [] a b = absurd b
then_one P Q R so (x ∷ xs) (y ∷ ys) (z ∷ zs) a b = (so x y z a.0 b.0, then_one P Q R so xs ys zs a.1 b.1)

pub all_so_by : {X : Type 0} (P Q : X → X → Type 0) → ((x y : X) → P x y → Q x y) → (xs ys : List X) → OneByOne P xs ys → OneByOne Q xs ys
all_so_by P Q so [] [] a = tt
all_so_by P Q so [] (y ∷ ys) a = absurd a
all_so_by P Q so (x ∷ xs) [] a = absurd a
all_so_by P Q so (x ∷ xs) (y ∷ ys) a = (so x y a.0, all_so_by P Q so xs ys a.1)

pub each_by : {X : Type 0} (how : X → X → Type 0) (P : X → Type 0) → ((x y : X) → how x y → P x → P y) → (xs ys : List X) → OneByOne how xs ys → AllByRecursion P xs → AllByRecursion P ys
each_by how P so [] [] a all = tt
each_by how P so [] (y ∷ ys) a all = absurd a
each_by how P so (x ∷ xs) [] a all = absurd a
each_by how P so (x ∷ xs) (y ∷ ys) a all = (so x y a.0 all.0, each_by how P so xs ys a.1 all.1)

pub map_by : {X Y : Type 0} (how : X → X → Type 0) (f g : X → Y) → ((x y : X) → how x y → g y ≡ f x) → (xs ys : List X) → OneByOne how xs ys → map g ys ≡ map f xs
map_by how f g so [] [] a = refl
map_by how f g so [] (y ∷ ys) a = absurd a
map_by how f g so (x ∷ xs) [] a = absurd a
map_by how f g so (x ∷ xs) (y ∷ ys) a = ap (λ z. z ∷ map g ys) (so x y a.0) ∙ ap (λ zs. f x ∷ zs) (map_by how f g so xs ys a.1)

one_more : (s : StepTowards) (left rest all : List StepTowards) → left ≡ s ∷ rest → (old mid new : RecordNow) → PlannedSoFar left all old mid → IsPlannedBy (s ∷ []) mid new → PlannedSoFar rest all old new
one_more s left rest all is old mid new far by =
    let at : mid.place ≡ old.place = ap (λ (r : RecordNow). r.place) far.only in
    let plan : new.plan ≡ mid.plan ++ plan_of (s ∷ []) old.place = ap (λ (r : RecordNow). r.plan) by ∙ ap (λ (j : ℕ). mid.plan ++ plan_of (s ∷ []) j) at in
    record {
      only = by ∙ ap (λ (r : RecordNow). record r { plan = mid.plan ++ plan_of (s ∷ []) mid.place; room = new.room }) far.only
          ∙ ap (λ (p : List PlanStep). record old { plan = p; room = new.room }) (sym (ap (λ (r : RecordNow). r.plan) by));
      plan = ap (λ (p : List PlanStep). p ++ plan_of rest old.place) plan
          ∙ append_assoc mid.plan (plan_of (s ∷ []) old.place) (plan_of rest old.place)
          ∙ ap (λ (p : List PlanStep). mid.plan ++ p) (sym (filter_map-append (towards_in old.place) (s ∷ []) rest))
          ∙ ap (λ (ss : List StepTowards). mid.plan ++ plan_of ss old.place) (sym is)
          ∙ far.plan;
    }

pub one_step_more : (s : StepTowards) (left rest all : List StepTowards) → left ≡ s ∷ rest → (old mid new : List RecordNow) → OneByOne (PlannedSoFar left all) old mid → OneByOne (IsPlannedBy (s ∷ [])) mid new →
    OneByOne (PlannedSoFar rest all) old new
one_step_more s left rest all is old mid new far by = then_one (PlannedSoFar left all) (IsPlannedBy (s ∷ [])) (PlannedSoFar rest all) (one_more s left rest all is) old mid new far by

last_one : (rest all : List StepTowards) → rest ≡ [] → (old new : RecordNow) → PlannedSoFar rest all old new → IsPlannedBy all old new
last_one rest all none old new far =
    far.only ∙ ap (λ (p : List PlanStep). record old { plan = p; room = new.room })
    (sym (append-nil new.plan) ∙ ap (λ (ss : List StepTowards). new.plan ++ plan_of ss old.place) (sym none) ∙ far.plan)

pub all_planned : (rest all : List StepTowards) → rest ≡ [] → (old new : List RecordNow) → OneByOne (PlannedSoFar rest all) old new → OneByOne (IsPlannedBy all) old new
all_planned rest all none old new far = all_so_by (PlannedSoFar rest all) (IsPlannedBy all) (last_one rest all none) old new far

-- ---- what stays

-- none has a new peer
pub peers_stay : (steps : List StepTowards) (old new : List RecordNow) → OneByOne (IsPlannedBy steps) old new → AreOfTheirPeers old → AreOfTheirPeers new
peers_stay steps old new by peers =
    let place : RecordNow → ℕ = λ (r : RecordNow). r.place in
    subst (IsDistinct (λ (a b : ℕ). a == b)) (sym (map_by (IsPlannedBy steps) place place (λ x y e. ap place e) old new by)) peers

-- one with another plan and room is begun
begun_with : (r : RecordNow) (plan : List PlanStep) (room : Rooms) → IsBegun r → IsBegun (record r { plan = plan; room = room })
begun_with r plan room e = ap (λ (x : RecordNow). record x { plan = plan; room = room }) e

pub begun_stays : (steps : List StepTowards) (old new : List RecordNow) → OneByOne (IsPlannedBy steps) old new → AllByRecursion IsBegun old → AllByRecursion IsBegun new
begun_stays steps old new by all =
    each_by (IsPlannedBy steps) IsBegun (λ x y e b. subst IsBegun (sym e) (begun_with x (x.plan ++ plan_of steps x.place) y.room b)) old new by all

-- nothing was granted to one that is begun
pub begun_owns : (places : Places) (r : RecordNow) → IsBegun r → Owns places r
begun_owns places r is = subst (Owns places) (sym is) (record { feed = nothing_owned places _; parcels = tt })

-- the last of all, and those before it
pub before_last : (P : RecordNow → Type 0) (rs : List RecordNow) (r : RecordNow) → AllByRecursion P (rs ++ r ∷ []) → AllByRecursion P rs × P r
before_last P [] r all = (tt, all.0)
before_last P (x ∷ xs) r all = let b = before_last P xs r all.1 in ((all.0, b.0), b.1)

-- ---- where one is looked for

pub none_there : (j : ℕ) (rs : List RecordNow) (n : ℕ) → length rs ≤ n → ((k : ℕ) (r : RecordNow) → k < n → slice_get rs k ≡ Some r → (r.place == j) ≡ false) → NoneTowards j rs
none_there j rs n all none = all_by_places (λ (r : RecordNow). (r.place == j) ≡ false) rs (λ k r e. let w = slice_get_within rs k r e in none k r (omega (arith, w, all)) e)

pub none_more : (j : ℕ) (rs : List RecordNow) (n : ℕ) (x : RecordNow) → slice_get rs n ≡ Some x → (x.place ≡ j → ⊥) → ((k : ℕ) (r : RecordNow) → k < n → slice_get rs k ≡ Some r → (r.place == j) ≡ false) →
    (k : ℕ) (r : RecordNow) → k < n + 1 → slice_get rs k ≡ Some r → (r.place == j) ≡ false
none_more j rs n x here differs none k r before e = go (cases_eq k n)
  where
    go : (k ≡ n) ⊎ (k ≡ n → ⊥) → (r.place == j) ≡ false
    go (inl same) = let is : x ≡ r = same_Some x r (sym here ∙ ap (slice_get rs) (sym same) ∙ e) in ne_eqb r.place j (λ h. differs (ap (λ (y : RecordNow). y.place) is ∙ h))
    go (inr apart) = none k r (omega (arith, before, apart)) e
