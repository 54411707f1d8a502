-- A cluster of which one node grows.
use Rattle.std.proofs.Common.{◌≡◌, ℕ, zero, suc, List, [], ◌∷◌, ◌++◌, slice_get, slice_set, Option, Some, None, is_some, refl, sym, ap, subst, ◌∙◌}
use Rattle.std.specs.Prelude.{IfSome, IsSome, unwrap_or}
use Rattle.std.specs.List.{AllByRecursion}
use Rattle.m2_fabric.specs.declared.socket.SocketId.{SocketId}
use Rattle.m2_fabric.specs.End.{Inflow, SeenEnd}
use Rattle.m2_history.specs.m2_record.Sources.{end_at}
use Rattle.m2_cluster.specs.m2_center.Center.{CenterNow}
use Rattle.m2_cluster.specs.m2_center.Reaching.{ends_in, ends_or_none}
use Rattle.m2_cluster.specs.Cluster.{ClusterNow, OneDoes, end_of, held_by}
use Rattle.m2_cluster.specs.Node.{NodeNow, end_in}
use Rattle.m2_growth.specs.Ends.{EndGrowsTo, come_to}
use Rattle.m2_growth.specs.Holding.{AreOwn, Grows, HaveTheirHalves, all_ends}
use Rattle.m2_growth.proofs.Ends.{to_same}
use Rattle.m2_links_go_on.specs.Center.{holding_of}
use Rattle.m2_links_go_on.specs.Cluster.{GrowsInMemory}
use Rattle.m2_fabric.proofs.m2_lemmas.Options.{none_isnt_some, mapped_is_some, some_same}
use Rattle.m2_fabric.proofs.m2_lemmas.Lists.{set_keeps_length}

-- ---- one of a list is set

-- what holds of what was there and what is there now, of the one and of all others
of_set : {T : Type 0} (P : Option T → Option T → Type 0) (xs : List T) (n : ℕ) (x y : T) → slice_get xs n ≡ Some x → P (Some x) (Some y) → ((o : Option T) → P o o) →
    (k : ℕ) → P (slice_get xs k) (slice_get (slice_set xs n y) k)
of_set P [] n x y was this others k = absurd (none_isnt_some x was)
of_set P (z ∷ zs) zero x y was this others zero = subst (λ o. P o (Some y)) (sym was) this
of_set P (z ∷ zs) zero x y was this others (suc k) = others (slice_get zs k)
of_set P (z ∷ zs) (suc n) x y was this others zero = others (Some z)
of_set P (z ∷ zs) (suc n) x y was this others (suc k) = of_set P zs n x y was this others k

-- what holds of all
all_set : {T : Type 0} (P : T → Type 0) (xs : List T) (n : ℕ) (x y : T) → slice_get xs n ≡ Some x → (P x → P y) → AllByRecursion P xs → AllByRecursion P (slice_set xs n y)
all_set P [] n x y was this all = absurd (none_isnt_some x was)
all_set P (z ∷ zs) zero x y was this all = (this (subst P (some_same z x was) all.0), all.1)
all_set P (z ∷ zs) (suc n) x y was this all = (all.0, all_set P zs n x y was this all.1)

-- ---- one end

comes_in_memory : (e : SeenEnd) → is_some (come_to e) ≡ is_some e.inflow
comes_in_memory e = mapped_is_some (λ (i : Inflow). e.log.got ++ i.readable) e.inflow

memory_stays : (o p : Option SeenEnd) → EndGrowsTo o p → (o ≡ None → IfSome p (λ e. IsSome e.inflow)) → IfSome o (λ e. IsSome e.inflow) → IfSome p (λ e. IsSome e.inflow)
memory_stays o None grows brought was = tt
memory_stays None (Some f) grows brought was = brought refl
memory_stays (Some e) (Some f) grows brought was = sym (comes_in_memory f) ∙ ap is_some grows.come ∙ comes_in_memory e ∙ was

-- ---- the ends of a center, and those that it holds

pub same_waiting : (o : Option (List SeenEnd)) → unwrap_or o [] ≡ ends_or_none o
same_waiting (Some es) = refl
same_waiting None = refl

same_ends : {D : Type 0} (c : CenterNow D) (k : SocketId) → end_at (all_ends (holding_of c)) k ≡ end_in c k
same_ends c k = ap (λ w. end_at (ends_in c ++ w) k) (same_waiting c.port.waiting)

-- ---- one node grows

module _ {D : Type 0} (node : ℕ) (before behind : NodeNow D) (nodes : List (NodeNow D)) (was : slice_get nodes node ≡ Some before)
    (grows : Grows (holding_of before.center) (holding_of behind.center)) where
  abbrev now : List (NodeNow D)
  now = slice_set nodes node behind

  here : (k : SocketId) → EndGrowsTo (end_in before.center k) (end_in behind.center k)
  here k =
      subst (λ o. EndGrowsTo o (end_in behind.center k)) (same_ends before.center k)
      (subst (λ o. EndGrowsTo (end_at (all_ends (holding_of before.center)) k) o) (same_ends behind.center k) (grows.grows.ends k))

  grow_all : (at : ℕ) (k : SocketId) → EndGrowsTo ((held_by nodes).ends at k) ((held_by now).ends at k)
  grow_all at k = of_set (λ o p. EndGrowsTo (end_of o k) (end_of p k)) nodes node before behind was (here k) (λ o. to_same (end_of o k)) at

  pub one_grows : (room : ℕ) → GrowsInMemory (record { nodes = nodes; room = room }) (record { nodes = now; room = room })
  one_grows room memory brought = record {
    ends = record {
      nodes = set_keeps_length nodes node before behind was;
      ends = grow_all;
      memory = (λ at k. memory_stays ((held_by nodes).ends at k) ((held_by now).ends at k) (grow_all at k) (brought at k) (memory at k));
    };
    own = all_set (λ (n : NodeNow D). AreOwn (holding_of n.center)) nodes node before behind was (λ own. grows.own);
    judged = all_set (λ (n : NodeNow D). HaveTheirHalves (holding_of n.center)) nodes node before behind was grows.judged;
  }

-- one node acts, and grows thereby
pub acts_so : {D : Type 0} (node : ℕ) (how : NodeNow D → NodeNow D → Type 0) (old new : ClusterNow D) (does : OneDoes node how old new) →
    Grows (holding_of does.before.center) (holding_of does.behind.center) → GrowsInMemory old new
acts_so node how old new does grows =
    subst (GrowsInMemory old) (sym does.only) (one_grows node does.before does.behind old.nodes does.was grows old.room)
