-- Each node that is on does something, one after another; and so all of them go on.
use Rattle.std.proofs.Common.{◌≡◌, inl, inr, ℕ, zero, suc, ◌+◌, ◌<◌, ◌≤◌, Bool, true, false, List, [], ◌∷◌, length, Some, refl, sym, ap, subst, ◌∙◌, arith, le_refl, le_trans, eq-or-lt_of_le}
use Rattle.std.specs.Prelude.{slice_get, slice_set}
use Rattle.std.proofs.lemmas.Option.{same_Some, slice_get_within}
use Rattle.m2_node.specs.m2_script.m2_center.Center.{CenterNow}
use Rattle.m2_dispatch.specs.declared.logged.Logged.{Logged}
use Rattle.m2_fabric.proofs.m2_lemmas.Booleans.{false_isnt_true}
use Rattle.m2_fabric.proofs.m2_lemmas.Lists.{set_keeps_length}
use Rattle.m2_scenario.specs.declared.node.Node.{Node}
use Rattle.m2_run.specs.Settling.{HaveGoneOn, OneNodeDoes}
use Rattle.m2_node.specs.m2_links_go_on.ClusterTold.{OneByOne}
use Rattle.m2_node.specs.Nodes.{RunNodeNow}
use Rattle.m2_node.specs.Way.{AllPoll, AllTurn, GoesOn, NodeGoesOn, NodePollsSo, NodeTurnsSo, PollsSo, TurnsSo}
use Rattle.m2_node.specs.WayLaws.{PollsGoOn, TurnsGoOn, WaitingGoesOn}
use Rattle.m2_node.proofs.Way.{goes_not, goes_then}
use Rattle.m2_node.proofs.m2_script.Lists.{get_other, get_set}

-- ---- places of lists

-- what stands at a place of one list has something beside it in another that is as long
beside : {X Y : Type 0} (xs : List X) (ys : List Y) (k : ℕ) (x : X) → slice_get xs k ≡ Some x → length ys ≡ length xs → (y : Y) × (slice_get ys k ≡ Some y)
beside [] ys k x h e = absurd cc
beside (z ∷ xs) [] k x h e = absurd (omega (arith, e))
beside (z ∷ xs) (y ∷ ys) zero x h e = (y, refl)
beside (z ∷ xs) (y ∷ ys) (suc k) x h e = beside xs ys k x h (omega (arith, e))

-- one list has one thing at a place
same_at : {X : Type 0} (xs : List X) (k : ℕ) (x y : X) → slice_get xs k ≡ Some x → slice_get xs k ≡ Some y → x ≡ y
same_at xs k x y h g = same_Some x y (sym h ∙ g)

-- ---- one after another

-- Of the nodes before place k each that is on did so, and the others are as they were.
pub record HaveDone (how : RunNodeNow → RunNodeNow → Type 0) (k : ℕ) (nodes : List Node) (old new : List (RunNodeNow)) : Type 0 where
  pub count : length new ≡ length old
  pub done : (j : ℕ) (x : Node) (n m : RunNodeNow) → j < k → slice_get nodes j ≡ Some x → slice_get old j ≡ Some n → slice_get new j ≡ Some m → x.started ≡ true → how n m
  pub off : (j : ℕ) (x : Node) (n m : RunNodeNow) → slice_get nodes j ≡ Some x → slice_get old j ≡ Some n → slice_get new j ≡ Some m → x.started ≡ false → m ≡ n
  pub rest : (j : ℕ) (n m : RunNodeNow) → k ≤ j → slice_get old j ≡ Some n → slice_get new j ≡ Some m → m ≡ n

module _ (how : RunNodeNow → RunNodeNow → Type 0) (nodes : List Node) (old : List (RunNodeNow)) where
  pub none_did : HaveDone how 0 nodes old old
  none_did = record {
    count = refl;
    done = λ j x n m less there was is on. absurd (omega (arith, less));
    off = λ j x n m there was is off. same_at old j m n is was;
    rest = λ j n m le was is. same_at old j m n is was;
  }

  -- the node at the place is off
  pub one_is_off : (k : ℕ) (new : List (RunNodeNow)) (y : Node) → slice_get nodes k ≡ Some y → y.started ≡ false → HaveDone how k nodes old new → HaveDone how (k + 1) nodes old new
  one_is_off k new y here off h = record {
    count = h.count;
    done = done;
    off = h.off;
    rest = λ j n m le was is. h.rest j n m (omega (arith, le)) was is;
  }
    where
      done : (j : ℕ) (x : Node) (n m : RunNodeNow) → j < k + 1 → slice_get nodes j ≡ Some x → slice_get old j ≡ Some n → slice_get new j ≡ Some m → x.started ≡ true → how n m
      done j x n m less there was is on =
          let le : j ≤ k = omega (arith, less) in
          elim (eq-or-lt_of_le le) [
            | inl same ↦ absurd (false_isnt_true (sym off ∙ ap (λ (z : Node). z.started) (same_at nodes k y x here (subst (λ (i : ℕ). slice_get nodes i ≡ Some x) same there)) ∙ on))
            | inr before ↦ h.done j x n m before there was is on
          ]

  -- the node at the place is on, and does so
  pub one_did : (k : ℕ) (mid new : List RunNodeNow) (y : Node) → slice_get nodes k ≡ Some y → y.started ≡ true → HaveDone how k nodes old mid → OneNodeDoes k how mid new →
      HaveDone how (k + 1) nodes old new
  one_did k mid new y here is_on h one = record {
    count = ap length new_is ∙ set_keeps_length mid k one.before one.behind one.was ∙ h.count;
    done = done;
    off = off;
    rest = λ j n m le was is. h.rest j n m (omega (arith, le)) was (sym (other j (λ same. omega (arith, le, same))) ∙ is);
  }
    where
      new_is : new ≡ slice_set mid k one.behind
      new_is = one.only

      other : (j : ℕ) → (j ≡ k → ⊥) → slice_get new j ≡ slice_get mid j
      other j apart = ap (λ (ns : List (RunNodeNow)). slice_get ns j) new_is ∙ get_other mid k j one.behind apart

      at_place : (x : Node) (n m : RunNodeNow) → slice_get old k ≡ Some n → slice_get new k ≡ Some m → how n m
      at_place x n m was is =
          let before : one.before ≡ n = h.rest k n one.before (le_refl k) was one.was in
          let there = ap (λ (ns : List (RunNodeNow)). slice_get ns k) new_is ∙ get_set mid k one.before one.behind one.was in
          subst (λ (z : RunNodeNow). how n z) (same_at new k one.behind m there is) (subst (λ (z : RunNodeNow). how z one.behind) before one.does)

      done : (j : ℕ) (x : Node) (n m : RunNodeNow) → j < k + 1 → slice_get nodes j ≡ Some x → slice_get old j ≡ Some n → slice_get new j ≡ Some m → x.started ≡ true → how n m
      done j x n m less there was is on =
          let le : j ≤ k = omega (arith, less) in
          elim (eq-or-lt_of_le le) [
            | inl same ↦ at_place x n m (subst (λ (i : ℕ). slice_get old i ≡ Some n) same was) (subst (λ (i : ℕ). slice_get new i ≡ Some m) same is)
            | inr before ↦ h.done j x n m before there was (sym (other j (λ same. omega (arith, before, same))) ∙ is) on
          ]

      off : (j : ℕ) (x : Node) (n m : RunNodeNow) → slice_get nodes j ≡ Some x → slice_get old j ≡ Some n → slice_get new j ≡ Some m → x.started ≡ false → m ≡ n
      off j x n m there was is is_off = h.off j x n m there was (sym (other j apart) ∙ is) is_off
        where
          apart : j ≡ k → ⊥
          apart same = false_isnt_true (sym is_off ∙ ap (λ (z : Node). z.started) (same_at nodes k x y (subst (λ (i : ℕ). slice_get nodes i ≡ Some x) same there) here) ∙ is_on)

-- all of them did
pub all_turned : (E : Type 0) (now k : ℕ) (nodes : List Node) (old new : List (RunNodeNow)) → length nodes ≤ k → HaveDone (NodeTurnsSo E now) k nodes old new → AllTurn E now nodes old new
all_turned E now k nodes old new all h = record {
  count = h.count;
  on = λ j x n m there was is on. let within = slice_get_within nodes j x there in h.done j x n m (omega (arith, within, all)) there was is on;
  off = h.off;
}

pub all_polled : (k : ℕ) (nodes : List Node) (old new : List (RunNodeNow)) → length nodes ≤ k → HaveDone NodePollsSo k nodes old new → AllPoll nodes old new
all_polled k nodes old new all h = record {
  count = h.count;
  on = λ j x n m there was is on. let within = slice_get_within nodes j x there in h.done j x n m (omega (arith, within, all)) there was is on;
  off = h.off;
}

-- ---- a node goes on

-- two steps of the centers of a node make one
steps_then : {R S T : CenterNow (List Logged) → CenterNow (List Logged) → Type 0} → ((a b c : CenterNow (List Logged)) → R a b → S b c → T a c) →
    (xs ys zs : List (CenterNow (List Logged))) → OneByOne R xs ys → OneByOne S ys zs → OneByOne T xs zs
steps_then both [] [] [] r s = tt
steps_then both [] [] (z ∷ zs) r s = absurd s
steps_then both [] (y ∷ ys) zs r s = absurd r
steps_then both (x ∷ xs) [] zs r s = absurd r
steps_then both (x ∷ xs) (y ∷ ys) [] r s = absurd s
steps_then both (x ∷ xs) (y ∷ ys) (z ∷ zs) r s = (both x y z r.0 s.0, steps_then both xs ys zs r.1 s.1)

step_not : (R : CenterNow (List Logged) → CenterNow (List Logged) → Type 0) → ((a : CenterNow (List Logged)) → R a a) → (xs : List (CenterNow (List Logged))) → OneByOne R xs xs
step_not R same [] = tt
step_not R same (x ∷ xs) = (same x, step_not R same xs)

abbrev IsSame : CenterNow (List Logged) → CenterNow (List Logged) → Type 0
IsSame a b = a ≡ b

node_goes_not : (may_give : ℕ → Type 0) (moment : ℕ) (started : Bool) (n : RunNodeNow) → NodeGoesOn may_give moment moment started n n
node_goes_not may_give moment started n = record { each = step_not (GoesOn may_give moment moment started) (goes_not may_give moment started) n.centers; shared = refl }

pub node_goes_then : (may_give : ℕ → Type 0) (a b c : ℕ) (started : Bool) (x y z : RunNodeNow) → NodeGoesOn may_give a b started x y → NodeGoesOn may_give b c started y z → NodeGoesOn may_give a c started x z
node_goes_then may_give a b c started x y z f g = record {
  each = steps_then (goes_then may_give a b c started) x.centers y.centers z.centers f.each g.each;
  shared = g.shared ∙ ap (λ (n : RunNodeNow). record n { centers = z.centers }) f.shared;
}

-- ---- all go on

pub gone_not : (may_give : ℕ → Type 0) (from : ℕ) (nodes : List Node) (all : List RunNodeNow) → may_give from → HaveGoneOn may_give from from nodes all all
gone_not may_give from nodes all given = record {
  later = le_refl from;
  given = given;
  all = record {
    count = refl;
    each = λ k x n m there was is. subst (λ (z : RunNodeNow). NodeGoesOn may_give from from x.started n z) (same_at all k n m was is) (node_goes_not may_give from x.started n);
  };
}

pub gone_then : (may_give : ℕ → Type 0) (a b c : ℕ) (nodes : List Node) (old mid new : List RunNodeNow) → HaveGoneOn may_give a b nodes old mid →
    HaveGoneOn may_give b c nodes mid new → HaveGoneOn may_give a c nodes old new
gone_then may_give a b c nodes old mid new f g = record {
  later = le_trans f.later g.later;
  given = g.given;
  all = record {
    count = g.all.count ∙ f.all.count;
    each = λ k x n m there was is.
        let between = beside old mid k n was f.all.count in
        node_goes_then may_give a b c x.started n between.0 m (f.all.each k x n between.0 there was between.1) (g.all.each k x between.0 m there between.1 is);
  };
}

-- in a round, each node that is on takes a turn, and then waits
pub gone_round : (E C : Type 0) (may_give : C → ℕ → Type 0) → TurnsGoOn E C may_give → PollsGoOn C may_give → WaitingGoesOn C may_give → (clock : C) (from now : ℕ) (nodes : List Node)
    (old mid new : List RunNodeNow) → from ≤ now → may_give clock now → AllTurn E now nodes old mid → AllPoll nodes mid new → HaveGoneOn (may_give clock) from now nodes old new
gone_round E C may_give turns polls waiting clock from now nodes old mid new later given turned polled = record {
  later = later;
  given = given;
  all = record { count = polled.count ∙ turned.count; each = each };
}
  where
    turn : (n m : RunNodeNow) → NodeTurnsSo E now n m → NodeGoesOn (may_give clock) from now true n m
    turn n m t = record {
      each = steps_then {R = TurnsSo E now n.numbers n.throttles} {S = IsSame}
          (λ a b c r same. subst (λ (z : CenterNow (List Logged)). GoesOn (may_give clock) from now true a z) same (turns clock from now n.numbers n.throttles a b r given later))
          n.centers m.centers m.centers t.each (step_not IsSame (λ a. refl) m.centers);
      shared = t.shared;
    }

    poll : (n m : RunNodeNow) → NodePollsSo n m → NodeGoesOn (may_give clock) now now true n m
    poll n m p = record {
      each = steps_then {R = PollsSo} {S = IsSame}
          (λ a b c r same. subst (λ (z : CenterNow (List Logged)). GoesOn (may_give clock) now now true a z) same (polls clock now a b r))
          n.centers m.centers m.centers p.each (step_not IsSame (λ a. refl) m.centers);
      shared = p.shared;
    }

    each : (k : ℕ) (x : Node) (n m : RunNodeNow) → slice_get nodes k ≡ Some x → slice_get old k ≡ Some n → slice_get new k ≡ Some m → NodeGoesOn (may_give clock) from now x.started n m
    each k x n m there was is = at x.started refl
      where
        between : (y : RunNodeNow) × (slice_get mid k ≡ Some y)
        between = beside old mid k n was turned.count

        at : (b : Bool) → x.started ≡ b → NodeGoesOn (may_give clock) from now b n m
        at true on =
            node_goes_then (may_give clock) from now now true n between.0 m (turn n between.0 (turned.on k x n between.0 there was between.1 on))
            (poll between.0 m (polled.on k x between.0 m there between.1 is on))
        at false off =
            subst (λ (z : RunNodeNow). NodeGoesOn (may_give clock) from now false n z) (sym (polled.off k x between.0 m there between.1 is off ∙ turned.off k x n between.0 there was between.1 off))
            (record { each = step_not (GoesOn (may_give clock) from now false) (λ (c : CenterNow (List Logged)). waiting clock from now false c given later) n.centers; shared = refl })
