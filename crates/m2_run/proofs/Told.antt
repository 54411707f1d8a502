-- The calls that are told of a run are of nodes.
use Rattle.std.proofs.Common.{◌≡◌, ℕ, ◌<◌, ◌==◌, suc, Bool, ◌||◌, true, false, filter, List, [], ◌∷◌, ◌++◌, Option, Some, None, drop, get_or, length, ltb, map, slice_get, refl, sym, ap, ◌∙◌, subst}
use Rattle.std.specs.List.{AllByRecursion, flat_map, list_any}
use Rattle.std.specs.Option.{option_to_list}
use Rattle.std.proofs.Math.ListN.{length-map}
use Rattle.std.proofs.lemmas.Bool.{eqb-true, false≢true, lt-ltb, ltb-true}
use Rattle.std.proofs.lemmas.List.{map-append}
use Rattle.std.proofs.lemmas.List.Elements.{All-from_recursion}
use Rattle.std.proofs.lemmas.Option.{slice_get_within}
use Rattle.m2_bytes.proofs.m2_lemmas.Lists.{all_append, all_back, all_filter, all_front}
use Rattle.m2_node.proofs.Merging.{all_of_merge}
use Rattle.m2_bytes.specs.Items.{Holding}
use Rattle.m2_node.specs.m2_script.m2_center.Center.{CenterNow}
use Rattle.m2_node.specs.m2_links_go_on.Made.{SideMade, side_made}
use Rattle.m2_dispatch.specs.Heard.{Heard, heard_by, heard_of, peer_of}
use Rattle.m2_dispatch.specs.declared.logged.Logged.{Logged}
use Rattle.m2_node.specs.m2_links_go_on.OfPeers.{IsPeerOf}
use Rattle.m2_node.specs.m2_script.m2_record.RecordNow.{RecordNow}
use Rattle.m2_scenario.specs.Report.{AreLogsOf, IsLogOf, IsOfNodes, heard_in}
use Rattle.m2_scenario.specs.declared.line.Line.{Line}
use Rattle.m2_scenario.specs.declared.link.Link.{Link}
use Rattle.m2_scenario.specs.declared.node.Node.{Node}
use Rattle.m2_node.specs.m2_script.Made.{new_towards, other_of, over, records_of}
use Rattle.m2_node.specs.m2_script.declared.made.Towards.{Towards}
use Rattle.m2_node.specs.Homes.{is_at_home}
use Rattle.m2_node.specs.Nodes.{RunNodeNow, fast_in, queued_in}
use Rattle.m2_node.specs.Planned.{side_in, sides_in}
use Rattle.m2_node.specs.Handing.{AreBoth, AreHeardAtEnd, IsLogOf as IsDispatcherLogOf, handed_by, heard_at_once, heard_in_order}
use Rattle.m2_node.specs.Lists.{SideBySide}
use Rattle.m2_node.proofs.Beside.{side_length}
use Rattle.m2_node.specs.Way.{IsNodeOf, IsUnderWay, made_in}

-- a record is towards a node that there is
abbrev IsTowardsOne : ℕ → RecordNow → Type 0
IsTowardsOne n r = r.place < n

abbrev IsSideOfOne : ℕ → SideMade → Type 0
IsSideOfOne n s = s.place < n

abbrev IsOfOne : ℕ → Heard → Type 0
IsOfOne n h = peer_of h < n

module _ (nodes : List Node) (k word : ℕ) where
  by_peer : (mine peer : Option Node) (t : Towards) → slice_get nodes t.place ≡ peer → AllByRecursion (IsTowardsOne (length nodes)) (option_to_list (new_towards mine peer k word t))
  by_peer None None t e = tt
  by_peer None (Some y) t e = tt
  by_peer (Some x) None t e = tt
  by_peer (Some x) (Some y) t e = (slice_get_within nodes t.place y e, tt)

  over_one : (t : Option Towards) → AllByRecursion (IsTowardsOne (length nodes)) (option_to_list (over nodes k word t))
  over_one None = tt
  over_one (Some t) = by_peer (slice_get nodes k) (slice_get nodes t.place) t refl

  records_towards : (links : List Link) → AllByRecursion (IsTowardsOne (length nodes)) (records_of nodes links k word)
  records_towards [] = tt
  records_towards (l ∷ ls) =
      all_append (IsTowardsOne (length nodes)) (option_to_list (over nodes k word (other_of k l))) (records_of nodes ls k word) (over_one (other_of k l)) (records_towards ls)

sides_towards : (n k : ℕ) (lines : List Line) (rs : List RecordNow) → AllByRecursion (IsTowardsOne n) rs → AllByRecursion (IsSideOfOne n) (map (side_in lines k) rs)
sides_towards n k lines [] all = tt
sides_towards n k lines (r ∷ rs) all = (all.0, sides_towards n k lines rs all.1)

made_towards : (n : ℕ) (rs : List RecordNow) → AllByRecursion (IsSideOfOne n) (map side_made rs) → AllByRecursion (IsTowardsOne n) rs
made_towards n [] all = tt
made_towards n (r ∷ rs) all = (all.0, made_towards n rs all.1)

peer_within : (n p : ℕ) (rs : List RecordNow) → AllByRecursion (IsTowardsOne n) rs → IsPeerOf rs p → p < n
peer_within n p [] all is = absurd (false≢true is)
peer_within n p (r ∷ rs) all is = by (r.place == p) refl (peer_within n p rs all.1) is
  where
    by : (c : Bool) → (r.place == p) ≡ c → (IsPeerOf rs p → p < n) → (c || list_any (λ (q : RecordNow). q.place == p) rs) ≡ true → p < n
    by true e rest h = subst (λ (m : ℕ). m < n) (eqb-true r.place p e) all.0
    by false e rest h = rest h

calls_within : (n : ℕ) (rs : List RecordNow) (hs : List Heard) → AllByRecursion (IsTowardsOne n) rs → AllByRecursion (λ (h : Heard). IsPeerOf rs (peer_of h)) hs →
    AllByRecursion (IsOfOne n) hs
calls_within n rs [] all its = tt
calls_within n rs (h ∷ hs) all its = (peer_within n (peer_of h) rs all its.0, calls_within n rs hs all its.1)

-- the records of a node's threads are towards nodes
thread_towards : (may_give : ℕ → Type 0) (moment : ℕ) (nodes : List Node) (links : List Link) (lines : List Line) (k j word : ℕ) (x : Node) (c : CenterNow (List Logged)) →
    IsUnderWay may_give moment (made_in nodes links lines k j word x) c → AllByRecursion (IsTowardsOne (length nodes)) c.records
thread_towards may_give moment nodes links lines k j word x c way =
    let sides : map side_made c.records ≡ filter (λ (s : SideMade). is_at_home nodes x.centers j s.place) (sides_in nodes links lines k word) = ap (λ made. made.sides) way.course.made in
    made_towards (length nodes) c.records
    (subst (AllByRecursion (IsSideOfOne (length nodes))) (sym sides)
    (all_filter (IsSideOfOne (length nodes)) (λ (s : SideMade). is_at_home nodes x.centers j s.place) (sides_in nodes links lines k word)
    (sides_towards (length nodes) k lines (records_of nodes links k word) (records_towards nodes k word links))))

threads_within : (n : ℕ) (calls : CenterNow (List Logged) → List Logged) (cs : List (CenterNow (List Logged))) →
    ((j : ℕ) (c : CenterNow (List Logged)) → slice_get cs j ≡ Some c → AllByRecursion (IsOfOne n) (heard_by (calls c))) → AllByRecursion (IsOfOne n) (heard_by (flat_map calls cs))
threads_within n calls [] all = tt
threads_within n calls (c ∷ cs) all =
    subst (AllByRecursion (IsOfOne n)) (sym (map-append heard_of (calls c) (flat_map calls cs)))
    (all_append (IsOfOne n) (heard_by (calls c)) (heard_by (flat_map calls cs)) (all 0 c refl) (threads_within n calls cs (λ j. all (suc j))))

-- all calls that a node's dispatchers had are of nodes
pub node_within : (may_give : ℕ → Type 0) (moment : ℕ) (nodes : List Node) (links : List Link) (lines : List Line) (k : ℕ) (x : Node) (n : RunNodeNow) →
    IsNodeOf may_give moment nodes links lines k x n → AllByRecursion (IsOfOne (length nodes)) (heard_in_order n)
node_within may_give moment nodes links lines k x n is =
    all_append (IsOfOne (length nodes)) (heard_by (fast_in n)) (heard_by (queued_in n))
    (threads_within (length nodes) (λ (c : CenterNow (List Logged)). c.out.fast) n.centers (λ j c there.
    let way = (is.each j c there).way in
    calls_within (length nodes) c.records (heard_by c.out.fast) (thread_towards may_give moment nodes links lines k j is.word x c way) way.peers.fast))
    (threads_within (length nodes) (λ (c : CenterNow (List Logged)). c.queued.inner) n.centers (λ j c there.
    let way = (is.each j c there).way in
    calls_within (length nodes) c.records (heard_by c.queued.inner) (thread_towards may_give moment nodes links lines k j is.word x c way) way.peers.queued))

-- ---- logs

log_within : (n : ℕ) (log : List Logged) → AllByRecursion (IsOfOne n) (heard_by log) → AllByRecursion (IsOfNodes n) log
log_within n [] all = tt
log_within n (l ∷ ls) all = (all.0, log_within n ls all.1)

logs_within : (n : ℕ) (logs : List (Holding Logged)) (heard : List (List Heard)) → map heard_in logs ≡ heard → AllByRecursion (AllByRecursion (IsOfOne n)) heard →
    AllByRecursion (IsLogOf n) logs
logs_within n [] heard e all = tt
logs_within n (log ∷ logs) heard e all =
    let its : AllByRecursion (AllByRecursion (IsOfOne n)) (map heard_in (log ∷ logs)) = subst (AllByRecursion (AllByRecursion (IsOfOne n))) (sym e) all in
    (All-from_recursion (IsOfNodes n) log.items (log_within n log.items its.0), logs_within n logs (map heard_in logs) refl its.1)

-- what a node's centers have handed on, center by center
handed_apart : (n : ℕ) (cs : List (CenterNow (List Logged))) → AllByRecursion (IsOfOne n) (heard_by (flat_map (λ (c : CenterNow (List Logged)). c.queued.inner) cs)) →
    AllByRecursion (AllByRecursion (IsOfOne n)) (map handed_by cs)
handed_apart n [] all = tt
handed_apart n (c ∷ cs) all =
    let both = subst (AllByRecursion (IsOfOne n)) (map-append heard_of c.queued.inner (flat_map (λ (d : CenterNow (List Logged)). d.queued.inner) cs)) all in (
      all_front (IsOfOne n) (handed_by c) (heard_by (flat_map (λ (d : CenterNow (List Logged)). d.queued.inner) cs)) both,
      handed_apart n cs (all_back (IsOfOne n) (handed_by c) (heard_by (flat_map (λ (d : CenterNow (List Logged)). d.queued.inner) cs)) both),
    )

-- so it is of what its dispatchers were called with
ended_within : (n : ℕ) (m : RunNodeNow) (heard : List Heard) → AllByRecursion (IsOfOne n) (heard_in_order m) → AreHeardAtEnd m heard → AllByRecursion (IsOfOne n) heard
ended_within n m heard all is =
    let once = all_front (IsOfOne n) (heard_at_once m) (heard_by (queued_in m)) all in
    let handed = handed_apart n m.centers (all_back (IsOfOne n) (heard_at_once m) (heard_by (queued_in m)) all) in
    let queued = all_of_merge (IsOfOne n) (λ (h : Heard). ltb (peer_of h) n) (λ h less. lt-ltb (peer_of h) n less) (λ h e. ltb-true (peer_of h) n e) (map handed_by m.centers) is.queued handed is.handed in
    subst (AllByRecursion (IsOfOne n)) (sym is.both) (all_append (IsOfOne n) (heard_at_once m) is.queued once queued)

all_within : (n : ℕ) (kept : List RunNodeNow) (heard : List (List Heard)) → ((k : ℕ) (m : RunNodeNow) → slice_get kept k ≡ Some m → AllByRecursion (IsOfOne n) (heard_in_order m)) →
    SideBySide AreHeardAtEnd kept heard → AllByRecursion (AllByRecursion (IsOfOne n)) heard
all_within n [] [] all are = tt
all_within n [] (h ∷ hs) all are = absurd are
all_within n (m ∷ ms) [] all are = absurd are
all_within n (m ∷ ms) (h ∷ hs) all are = (ended_within n m h (all 0 m refl) are.0, all_within n ms hs (λ k. all (suc k)) are.1)

-- where the logs are those of nodes of whom this is so
pub logs_of_nodes : (nodes : List Node) (kept : List RunNodeNow) (logs : List (Holding Logged)) → SideBySide AreHeardAtEnd kept (map heard_in logs) →
    length kept ≡ length nodes → ((k : ℕ) (m : RunNodeNow) → slice_get kept k ≡ Some m → AllByRecursion (IsOfOne (length nodes)) (heard_in_order m)) →
    AreLogsOf nodes logs
logs_of_nodes nodes kept logs are count all = record {
  each = sym (length-map logs heard_in) ∙ side_length AreHeardAtEnd kept (map heard_in logs) are ∙ count;
  peers = All-from_recursion (IsLogOf (length nodes)) logs (logs_within (length nodes) logs (map heard_in logs) refl (all_within (length nodes) kept (map heard_in logs) all are));
}

-- ---- the logs of both dispatchers

-- those of fast kinds, and those behind the mails, are those of the nodes
pub both_heard : (ns : List RunNodeNow) (fast queued logs : List (Holding Logged)) → map heard_in fast ≡ map heard_at_once ns → SideBySide IsDispatcherLogOf ns queued → AreBoth fast queued logs →
    SideBySide AreHeardAtEnd ns (map heard_in logs)
both_heard [] [] [] [] e are both = tt
both_heard (n ∷ ns) (f ∷ fs) (q ∷ qs) (l ∷ ls) e are both =
    let first : heard_in f ≡ heard_at_once n = ap (λ (hs : List (List Heard)). get_or hs 0 []) e in
    let rest : map heard_in fs ≡ map heard_at_once ns = ap (λ (hs : List (List Heard)). drop 1 hs) e in (
      record { queued = heard_in q; both = ap heard_by both.0 ∙ map-append heard_of f.items q.items ∙ ap (λ hs. hs ++ heard_in q) first; handed = are.0 },
      both_heard ns fs qs ls rest are.1 both.1,
    )
both_heard [] fast (q ∷ qs) logs e are both = absurd are
both_heard (n ∷ ns) fast [] logs e are both = absurd are
both_heard [] (f ∷ fs) [] logs e are both = absurd both
both_heard [] [] [] (l ∷ ls) e are both = absurd both
both_heard (n ∷ ns) [] (q ∷ qs) logs e are both = absurd both
both_heard (n ∷ ns) (f ∷ fs) (q ∷ qs) [] e are both = absurd both
