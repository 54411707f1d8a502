-- At each node of a run in memory each word is what the node holds: before the first deed, and behind each.
use Rattle.std.proofs.Common.{◌≡◌, ℕ, ◌+◌, List, [], ◌∷◌, length, map, slice_get, slice_set, Option, None, Some, Ok, refl, sym, subst, ◌∙◌, ap, arith}
use Rattle.std.specs.List.{AllByRecursion}
use Rattle.std.specs.Option.{option_to_list}
use Rattle.m2_dispatch.specs.Heard.{Heard, heard_by}
use Rattle.m2_dispatch.specs.declared.logged.Logged.{Logged}
use Rattle.m2_dispatch.specs.declared.parcel.Parcel.{Parcel}
use Rattle.m2_dispatch.specs.m2_shared.Gates.{Gate, places, words}
use Rattle.m2_dispatch.specs.m2_shared.declared.throttles.Throttles.{Throttles}
use Rattle.m2_fabric.proofs.m2_lemmas.Lists.{all_append, all_at, all_by_places, all_of_map, cons_same}
use Rattle.m2_fabric.specs.InStep.{Network}
use Rattle.m2_fabric.specs.SimFabric.{Faults, Flows, Meets}
use Rattle.m2_scenario.specs.declared.line.Line.{Line}
use Rattle.m2_scenario.specs.declared.link.Link.{Link}
use Rattle.m2_scenario.specs.declared.node.Node.{Node}
use Rattle.m2_script.proofs.m2_center.m2_turn.m2_core.Holding.{none_at}
use Rattle.m2_script.specs.Made.{new_towards, other_of, over, records_of, roomless}
use Rattle.m2_script.specs.Nodes.{IsNewNode}
use Rattle.m2_script.specs.Script as script
use Rattle.m2_script.specs.Script.{Deed, Ends, Happens, IsPassed, RunNow, script_of}
use Rattle.m2_script.specs.Started.{IsFirst}
use Rattle.m2_script.specs.declared.made.Towards.{Towards}
use Rattle.m2_script.specs.m2_center.Center.{CenterNow}
use Rattle.m2_script.specs.m2_center.m2_core.LiveNow.{HoldsNothing}
use Rattle.m2_script.specs.m2_center.m2_record.Calls.{all_granted}
use Rattle.m2_script.specs.m2_center.m2_record.RecordNow.{RecordNow}
use Rattle.m2_script.specs.m2_cluster.Cluster.{ClusterNow}
use Rattle.m2_script.specs.m2_cluster.Node.{NodeNow, rest_of_node}
use Rattle.m2_exact.proofs.Alone.{alone_places, unused_words}
use Rattle.m2_exact.proofs.HeldCenters as nodes
use Rattle.m2_exact.proofs.HeldCores as cores
use Rattle.m2_exact.proofs.HeldSums as sums
use Rattle.m2_exact.proofs.Lists.{all_set, there_too}
use Rattle.m2_exact.specs.Holding.{HoldsRightly, NodeHoldsItsWord, NodesHoldTheirWords, RunsHoldTheirWords, WordsStayHeld, held_in_record, held_in_records, held_in_center}

-- ---- the beginning

-- nothing is held
abbrev IsIdle : RecordNow → Type 0
IsIdle r = HoldsNothing r.core.live.granted × (r.parcels ≡ [])

new_idle : (number word : ℕ) (mine peer : Option Node) (t : Towards) → AllByRecursion IsIdle (option_to_list (new_towards mine peer number word t))
new_idle number word (Some mine) (Some peer) t = ((refl, refl), tt)
new_idle number word (Some mine) None t = tt
new_idle number word None peer t = tt

over_idle : (nodes : List Node) (number word : ℕ) (o : Option Towards) → AllByRecursion IsIdle (option_to_list (over nodes number word o))
over_idle nodes number word None = tt
over_idle nodes number word (Some t) = new_idle number word (slice_get nodes number) (slice_get nodes t.place) t

made_idle : (nodes : List Node) (number word : ℕ) (links : List Link) → AllByRecursion IsIdle (records_of nodes links number word)
made_idle nodes number word [] = tt
made_idle nodes number word (l ∷ ls) =
    all_append IsIdle (option_to_list (over nodes number word (other_of number l))) (records_of nodes ls number word) (over_idle nodes number word (other_of number l)) (made_idle nodes number word ls)

none_held : (gate : Gate) (rs : List RecordNow) → AllByRecursion IsIdle rs → held_in_records gate rs ≡ 0
none_held gate [] h = refl
none_held gate (r ∷ rs) (h, more) =
    let first = sums.sum_first (held_in_record gate) r rs in
    let granted = none_at r.core.live.granted h.0 gate in
    let parcels = ap (λ (xs : List Parcel). all_granted xs gate) h.1 in
    let rest = none_held gate rs more in
    omega (arith, first, granted, parcels, rest)

all_rightly : (rs : List RecordNow) → AllByRecursion IsIdle rs → AllByRecursion HoldsRightly rs
all_rightly [] h = tt
all_rightly (r ∷ rs) (h, more) = (cores.none_right r.core.facts r.core.live h.0, all_rightly rs more)

first_hold : (nodes : List Node) (links : List Link) (lines : List Line) (s : RunNow (List Logged)) → IsFirst nodes links lines s → NodesHoldTheirWords s
first_hold nodes links lines s h = all_by_places NodeHoldsItsWord s.cluster.nodes at
  where
    new_holds : (k : ℕ) (x : Node) (n : NodeNow (List Logged)) → IsNewNode nodes links lines k x n → NodeHoldsItsWord n
    new_holds k x n new =
        let idle = all_of_map IsIdle roomless new.records (subst (AllByRecursion IsIdle) (sym new.over) (made_idle nodes k (k + 1) links)) in
        record {
          alone = alone_places (places n.throttles) x.throttle (λ gate. ap (λ (t : Throttles). places t gate) new.throttles);
          center = record {
            word = λ gate. (
                let word = ap (λ (c : CenterNow (List Logged)). words c.bytes gate) new.center ∙ unused_words gate in
                let held = ap (held_in_center gate) new.center in
                let none = none_held gate new.records idle in
                omega (arith, word, held, none)
                );
            records = subst (AllByRecursion HoldsRightly) (sym (ap (λ (c : CenterNow (List Logged)). c.records) new.center)) (all_rightly new.records idle);
          };
        }

    at : (k : ℕ) (n : NodeNow (List Logged)) → slice_get s.cluster.nodes k ≡ Some n → NodeHoldsItsWord n
    at k n is = let (x, there) = there_too nodes s.cluster.nodes k n (sym h.new.count) is in new_holds k x n (h.new.each k x n there is)

-- ---- a deed

module _ {D : Type 0} (E : Type 0) (heard : D → List Heard) where
  acts : (a : ℕ) (s new : RunNow D) (before behind : NodeNow D) → NodesHoldTheirWords s → slice_get s.cluster.nodes a ≡ Some before → new.cluster ≡ record s.cluster { nodes = slice_set s.cluster.nodes a behind } →
      (NodeHoldsItsWord before → NodeHoldsItsWord behind) → NodesHoldTheirWords new
  acts a s new before behind h was only so =
      subst (λ (c : ClusterNow D). AllByRecursion NodeHoldsItsWord c.nodes) (sym only)
      (all_set NodeHoldsItsWord s.cluster.nodes a behind h (so (all_at NodeHoldsItsWord s.cluster.nodes a before was h)))

  all_told : (olds news : List (NodeNow D)) → AllByRecursion NodeHoldsItsWord olds → map rest_of_node news ≡ map rest_of_node olds → AllByRecursion NodeHoldsItsWord news
  all_told [] [] h same = tt
  all_told [] (n ∷ ns) h same = absurd (cc same)
  all_told (o ∷ os) [] h same = absurd (cc same)
  all_told (o ∷ os) (n ∷ ns) (h, more) same =
      let both = cons_same (rest_of_node n) (rest_of_node o) (map rest_of_node ns) (map rest_of_node os) same in
      (nodes.told o n both.0 h, all_told os ns more both.1)

  passed : (how : Network → Network → Type 0) (s new : RunNow D) → NodesHoldTheirWords s → IsPassed (Ok tt) how s new → NodesHoldTheirWords new
  passed how s new h p = all_told s.cluster.nodes new.cluster.nodes h (ap (λ (c : ClusterNow D). c.nodes) p.rest)

  deeds : (d : Deed) (old new : RunNow D) → NodesHoldTheirWords old → Happens E heard (Ok tt) d old new → NodesHoldTheirWords new
  deeds (script.plan a b x) old new h g =
      let acted = g.0.acts in acts a old new acted.before acted.behind h acted.was acted.only (λ holds. nodes.node_plans b x old.now acted.before acted.behind holds acted.does)
  deeds (script.turn a) old new h g =
      let acted = g.0.acts in acts a old new acted.before acted.behind h acted.was acted.only (λ holds. nodes.node_turns E heard old.now acted.before acted.behind holds acted.does)
  deeds (script.meet a) old new h g = passed (Meets a) old new h g.0
  deeds (script.flow a b socket most) old new h g = passed (Flows a b socket most) old new h g.0
  deeds (script.fault a b socket) old new h g = passed (Faults a b socket) old new h g.0

  -- ---- deeds, one after another

  stay : (ds : List Deed) (s : RunNow D) → NodesHoldTheirWords s → WordsStayHeld E heard ds s
  stay [] s h = tt
  stay (d ∷ ds) s h = λ behind happens. let here = deeds d s behind h happens in (here, stay ds behind here)

  ends : (ds : List Deed) (old new : RunNow D) → NodesHoldTheirWords old → Ends E heard (Ok tt) ds old new → NodesHoldTheirWords new
  ends [] old new h e = subst NodesHoldTheirWords (sym e) h
  ends (d ∷ ds) old new h e = ends ds e.between new (deeds d old e.between h e.first) e.behind

pub runs : {D : Type 0} (E : Type 0) (heard : D → List Heard) → RunsHoldTheirWords E D heard
runs E heard = record {
  deeds = deeds E heard;
  first = first_hold;
  along = λ nodes links lines s h. stay E heard_by (script_of links (length nodes) lines) s (first_hold nodes links lines s h);
  runs = λ nodes links lines first last h. ends E heard_by (script_of links (length nodes) lines) first last (first_hold nodes links lines first h.begins) h.ends;
}
