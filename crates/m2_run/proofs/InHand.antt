-- Nodes that are gathered, from the last one on.
use Rattle.std.proofs.Common.{◌≡◌, ◌≢◌, ◌⊎◌, inl, inr, ℕ, suc, ◌+◌, ◌<◌, ◌≤◌, Bool, true, false, List, [], ◌∷◌, ◌++◌, length, map, reverse, take, drop, refl, sym, ap, subst, ◌∙◌, append_assoc, arith, length-append}
use Rattle.std.specs.Prelude.{slice_get, slice_index_or, Option, Some, None, IfSome}
use Rattle.std.specs.List.{flat_map}
use Rattle.std.specs.Option.{option_to_list}
use Rattle.std.proofs.lemmas.List.{append-nil, drop_at, take_at}
use Rattle.std.proofs.lemmas.Simd.{map-map}
use Rattle.std.proofs.lemmas.Option.{same_Some, slice_get-get_or, slice_get_within}
use Rattle.m2_bytes.specs.Items.{Holding}
use Rattle.m2_node.specs.m2_script.m2_center.Center.{CenterNow}
use Rattle.m2_dispatch.specs.Heard.{Heard, heard_by}
use Rattle.m2_dispatch.specs.declared.logged.Logged.{Logged}
use Rattle.m2_edge.specs.Faults.{next_count}
use Rattle.m2_fabric.specs.End.{SeenEnd}
use Rattle.m2_fabric.specs.Fabric.{Gathered, SeenFabric}
use Rattle.m2_fabric.specs.Port.{SeenPort}
use Rattle.m2_fabric.specs.declared.port.Cut.{Cut}
use Rattle.m2_node.specs.m2_script.m2_record.RecordNow.{RecordNow}
use Rattle.m2_scenario.specs.Report.{heard_in}
use Rattle.m2_scenario.specs.declared.node.Node.{Node}
use Rattle.m2_trail.specs.Arrivals.{LooseNow}
use Rattle.m2_run.specs.Cuts.{AreEndsOver, cuts_at}
use Rattle.m2_run.specs.Gathering.{ArePortsTold, GathersIf, GivesBack}
use Rattle.m2_run.specs.Kept.{AllGathered, IsGathered, IsUntouched, ends_of_record, ends_of_records}
use Rattle.m2_node.specs.Lists.{SideBySide}
use Rattle.m2_node.specs.Nodes.{KeptNow, loose_at, nodes_of}
use Rattle.m2_node.specs.Ports.{IsPortOver}
use Rattle.m2_node.specs.Handing.{heard_at_once}
use Rattle.m2_run.specs.Rests.{AreEndsOf, EndedCenterNow, EndedNow, IsEndOf, IsEndOfCenter, IsInside, loose_of}
use Rattle.m2_node.specs.Way.{ArePortsOut}
use Rattle.m2_node.proofs.Beside.{side_flat, side_of_each, side_over}
use Rattle.m2_node.proofs.Places.{Last, get_behind, joined_last, last_of, reverse_last, same_maps}

-- ---- what the fabric tells

-- it was not asked, twice
untouched_on : (k : ℕ) (old mid new : SeenFabric) → IsUntouched k old mid → IsUntouched k mid new → IsUntouched k old new
untouched_on k old mid new a b = record { listens = b.listens ∙ a.listens; gathered = b.gathered ∙ a.gathered; gathers = b.gathers ∙ a.gathers }

-- what it told of a node it tells still
told_on : (cuts : List Cut) (k : ℕ) (n : KeptNow) (old mid new : SeenFabric) → IsGathered cuts k n old mid → IsUntouched k mid new → IsGathered cuts k n old new
told_on cuts k n old mid new g u = record { what = g.what; told = u.gathered ∙ g.told; now = u.gathers ∙ g.now; ports = g.ports; ends_are = g.ends_are }

-- of nodes at other places
pub record StaysAt (k : ℕ) (old new : SeenFabric) : Type 0 where
  pub out : new.out k ≡ old.out k
  pub untouched : IsUntouched k old new

stays_same : (k : ℕ) (old new : SeenFabric) → new ≡ old → StaysAt k old new
stays_same k old new e = record {
  out = ap (λ (f : SeenFabric). f.out k) e;
  untouched = record {
    listens = ap (λ (f : SeenFabric). f.listens k) e;
    gathered = ap (λ (f : SeenFabric). f.gathered k) e;
    gathers = ap (λ (f : SeenFabric). f.gathers k) e;
  };
}

others_stay : (started : Bool) (m : ℕ) (what : Gathered) (old new : SeenFabric) → GathersIf started m what old new → (k : ℕ) → k ≢ m → StaysAt k old new
others_stay true m what old new g k other = record {
  out = g.others_out k other;
  untouched = record { listens = g.listens k; gathered = g.others_told k other; gathers = g.others_gathers k other };
}
others_stay false m what old new g k other = stays_same k old new g

off_stays : (started : Bool) (m : ℕ) (what : Gathered) (old new : SeenFabric) → GathersIf started m what old new → started ≡ false → IsUntouched m old new
off_stays started m what old new g off = (stays_same m old new (subst (λ b. GathersIf b m what old new) off g)).untouched

-- ---- what it tells of a node

abbrev ports_in : List EndedCenterNow → List SeenPort
ports_in centers = flat_map (λ (c : EndedCenterNow). option_to_list c.port) centers

-- so many at most, and where it is as many, each has one
ports_few : (ds : List EndedCenterNow) → length (ports_in ds) ≤ length ds
ports_few [] = omega arith
ports_few (d ∷ ds) = by d.port (ports_few ds)
  where
    by : (p : Option SeenPort) → length (ports_in ds) ≤ length ds → length (option_to_list p ++ ports_in ds) ≤ length (d ∷ ds)
    by (Some p) few = omega (arith, few)
    by None few = omega (arith, few)

abbrev port_of : CenterNow (List Logged) → SeenPort
port_of c = c.port

ports_over : (cs : List (CenterNow (List Logged))) (ds : List EndedCenterNow) → SideBySide IsEndOfCenter cs ds → length (ports_in ds) ≡ length ds → SideBySide IsPortOver (map port_of cs) (ports_in ds)
ports_over [] [] are all = tt
ports_over [] (d ∷ ds) are all = elim are [ ]
ports_over (c ∷ cs) [] are all = elim are [ ]
ports_over (c ∷ cs) (d ∷ ds) are all = by d.port are.0.inside all (ports_few ds) (λ few. ports_over cs ds are.1 few)
  where
    by : (p : Option SeenPort) → IsInside c.port p → length (option_to_list p ++ ports_in ds) ≡ length (d ∷ ds) → length (ports_in ds) ≤ length ds →
        (length (ports_in ds) ≡ length ds → SideBySide IsPortOver (map port_of cs) (ports_in ds)) → SideBySide IsPortOver (map port_of (c ∷ cs)) (option_to_list p ++ ports_in ds)
    by (Some p) is count few rest = (is, rest (omega (arith, count)))
    by None is count few rest = absurd (omega (arith, count, few))

-- its ends, by what is left of each of its threads
ends_over : (cuts : List Cut) (c : CenterNow (List Logged)) (d : EndedCenterNow) (es : List SeenEnd) → IsEndOfCenter c d → AreEndsOver cuts d.made (flat_map ends_of_record d.records) es →
    AreEndsOver cuts c.port.made (ends_of_records c) es
ends_over cuts c d es is over =
    subst (λ made. AreEndsOver cuts made (ends_of_records c) es) is.made (subst (λ (rs : List RecordNow). AreEndsOver cuts d.made (flat_map ends_of_record rs) es) is.records over)

-- what is left of its threads, in order
ends_beside : (n : KeptNow) (e : EndedNow) → IsEndOf n e → SideBySide IsEndOfCenter n.node.centers e.centers
ends_beside n e is = side_of_each IsEndOfCenter n.node.centers e.centers is.count is.each

-- what is told of the node itself
is_gathered : (cuts : List Cut) (m : ℕ) (n : KeptNow) (e : EndedNow) (left : List LooseNow) (old mid new : SeenFabric) → IsEndOf n e → take e.halves left ≡ loose_at n → IsUntouched m old mid →
    GivesBack cuts true m e (take e.halves left) mid new → IsGathered cuts m n old new
is_gathered cuts m n e left old mid new is its before gives =
    let beside = ends_beside n e is in
    record {
      what = _;
      told = gives.gathers.node_told;
      now = gives.gathers.node_gathers ∙ ap next_count before.gathers;
      ports = ports_over n.node.centers e.centers beside (gives.whole refl);
      ends_are = record {
        of_each = gives.of_each;
        of_halves = gives.of_halves;
        split = refl;
        each = side_over IsEndOfCenter (λ (d : EndedCenterNow) es. AreEndsOver cuts d.made (flat_map ends_of_record d.records) es)
            (λ (c : CenterNow (List Logged)) es. AreEndsOver cuts c.port.made (ends_of_records c) es) n.node.centers e.centers gives.of_each (ends_over cuts) beside gives.over;
        halves = ap (map (λ (l : LooseNow). l.end)) (sym its) ∙ gives.halves_are;
      };
    }

-- ---- those that are in hand

-- Of these nodes so many aren't gathered yet, and their halves are these; of the others the fabric tells what they left.
pub record AreGathered (cuts : List (Holding Cut)) (nodes : List Node) (many : ℕ) (left : List LooseNow) (old now : SeenFabric) (kept : List KeptNow) : Type 0 where
  pub front : List KeptNow
  pub behind : List KeptNow
  pub split : kept ≡ front ++ behind
  pub count : length front ≡ many
  pub halves : left ≡ loose_of front
  pub told : (k : ℕ) (x : Node) (n : KeptNow) → many ≤ k → slice_get nodes k ≡ Some x → slice_get kept k ≡ Some n → x.started ≡ true →
      IsGathered (cuts_at cuts k) k n old now

-- what the dispatchers of fast kinds of its threads were called with
abbrev pub calls_of : EndedNow → List Logged
calls_of e = flat_map (λ (c : EndedCenterNow). c.fast) e.centers

abbrev pub heard_of_all : EndedNow → List Heard
heard_of_all e = heard_by (calls_of e)

-- the ports that are told are those inside its threads' ports
abbrev HasPortsOf : EndedNow → Gathered → Type 0
HasPortsOf e what = what.ports ≡ ports_in e.centers

pub record AreInHand (cuts : List (Holding Cut)) (nodes : List Node) (all ends : List EndedNow) (halves left : List LooseNow) (logs : List (Holding Logged)) (old now : SeenFabric) : Type 0 where
  pub gone : List EndedNow
  pub split : all ≡ ends ++ gone
  pub out : (k : ℕ) (x : Node) → k < length ends → slice_get nodes k ≡ Some x → x.started ≡ true → now.out k ≡ Some x.centers
  pub before : (k : ℕ) → k < length ends → IsUntouched k old now
  pub off : (k : ℕ) (x : Node) → slice_get nodes k ≡ Some x → x.started ≡ false → IsUntouched k old now
  pub told : (kept : List KeptNow) → AreEndsOf kept all → halves ≡ loose_of kept → AreGathered cuts nodes (length ends) left old now kept
  pub ports : (k : ℕ) (x : Node) (e : EndedNow) → length ends ≤ k → slice_get nodes k ≡ Some x → slice_get all k ≡ Some e → x.started ≡ true → IfSome (now.gathered k) (HasPortsOf e)
  pub heard : map heard_in (reverse logs) ≡ map heard_of_all gone

same_untouched : (k : ℕ) (f : SeenFabric) → IsUntouched k f f
same_untouched k f = record { listens = refl; gathered = refl; gathers = refl }

none_behind : {X P : Type 0} (xs : List X) (k : ℕ) (x : X) → length xs ≤ k → slice_get xs k ≡ Some x → P
none_behind xs k x most there = absurd (let within = slice_get_within xs k x there in omega (arith, most, within))

-- all are, at first
pub all_in_hand : (cuts : List (Holding Cut)) (nodes : List Node) (ends : List EndedNow) (halves left : List LooseNow) (logs : List (Holding Logged)) (f : SeenFabric) → ArePortsOut nodes f → left ≡ halves → logs ≡ [] →
    AreInHand cuts nodes ends ends halves left logs f f
all_in_hand cuts nodes ends halves left logs f out moved none = record {
  gone = [];
  split = sym (append-nil ends);
  out = λ k x few there on. out k x there on;
  before = λ k few. same_untouched k f;
  off = λ k x there off. same_untouched k f;
  told = λ kept are same. record {
    front = kept;
    behind = [];
    split = sym (append-nil kept);
    count = sym are.count;
    halves = moved ∙ same;
    told = λ k x n most there here on. none_behind kept k n (subst (λ j. j ≤ k) are.count most) here;
  };
  ports = λ k x e most there here on. none_behind ends k e most here;
  heard = ap (λ ls. map heard_in (reverse ls)) none;
}

-- ---- one node more

three_ways : (k m : ℕ) → (k < m) ⊎ ((m < k) ⊎ (k ≡ m))
three_ways k m = grind arith

below_apart : (k m : ℕ) → k < m → k ≢ m
below_apart k m less e = omega (arith, less, e)

above_apart : (k m : ℕ) → m < k → k ≢ m
above_apart k m less e = omega (arith, less, e)

module _ (cuts : List (Holding Cut)) (nodes : List Node) (all ends rest : List EndedNow) (e : EndedNow) (halves left : List LooseNow) (old mid new : SeenFabric) (x : Node)
    (split : ends ≡ rest ++ e ∷ []) (there : slice_get nodes (length rest) ≡ Some x)
    (gives : GivesBack (cuts_at cuts (length rest)) x.started (length rest) e (take e.halves left) mid new)
    (before : (k : ℕ) → k < length ends → IsUntouched k old mid) where
  abbrev m : ℕ
  m = length rest

  many : length ends ≡ suc m
  many = ap length split ∙ length-append rest (e ∷ []) ∙ (let one : m + 1 ≡ suc m = omega arith in one)

  others : (k : ℕ) → k ≢ m → StaysAt k mid new
  others = others_stay x.started m _ mid new gives.gathers

  untouched : (k : ℕ) → k < m → IsUntouched k old new
  untouched k less = untouched_on k old mid new (before k (let n = many in omega (arith, n, less))) (others k (below_apart k m less)).untouched

  off_here : (y : Node) → slice_get nodes m ≡ Some y → y.started ≡ false → IsUntouched m mid new
  off_here y its off = off_stays x.started m _ mid new gives.gathers
      (ap (λ (z : Node). z.started) (same_Some x y (sym there ∙ its)) ∙ off)

  stays_off : (k : ℕ) (y : Node) → slice_get nodes k ≡ Some y → y.started ≡ false → IsUntouched k mid new
  stays_off k y its off = elim (three_ways k m) [
    | inl less ↦ (others k (below_apart k m less)).untouched
    | inr (inl more) ↦ (others k (above_apart k m more)).untouched
    | inr (inr same) ↦ subst (λ j. IsUntouched j mid new) (sym same) (off_here y (subst (λ j. slice_get nodes j ≡ Some y) same its) off)
  ]

  -- the ports that are told
  ports_here : (y : Node) → slice_get nodes m ≡ Some y → y.started ≡ true → IfSome (new.gathered m) (HasPortsOf e)
  ports_here y its on =
      let g = subst (λ b. GivesBack (cuts_at cuts m) b m e (take e.halves left) mid new) (ap (λ (z : Node). z.started) (same_Some x y (sym there ∙ its)) ∙ on) gives in
      subst (λ told. IfSome told (HasPortsOf e)) (sym g.gathers.node_told) refl

  ports_at : ((k : ℕ) (y : Node) (d : EndedNow) → length ends ≤ k → slice_get nodes k ≡ Some y → slice_get all k ≡ Some d → y.started ≡ true → IfSome (mid.gathered k) (HasPortsOf d)) →
      slice_get all m ≡ Some e → (k : ℕ) (y : Node) (d : EndedNow) → m ≤ k → slice_get nodes k ≡ Some y → slice_get all k ≡ Some d → y.started ≡ true → IfSome (new.gathered k) (HasPortsOf d)
  ports_at were here k y d most its is on = elim (three_ways k m) [
    | inl less ↦ absurd (omega (arith, less, most))
    | inr (inl more) ↦ subst (λ told. IfSome told (HasPortsOf d)) (sym (others k (above_apart k m more)).untouched.gathered) (were k y d (let n = many in omega (arith, n, more)) its is on)
    | inr (inr same) ↦ subst (λ (j : ℕ). IfSome (new.gathered j) (HasPortsOf d)) (sym same)
        (subst (λ (f : EndedNow). IfSome (new.gathered m) (HasPortsOf f)) (same_Some e d (sym here ∙ subst (λ (j : ℕ). slice_get all j ≡ Some d) same is))
        (ports_here y (subst (λ (j : ℕ). slice_get nodes j ≡ Some y) same its) on))
  ]

  -- of the nodes whose ends these are
  module _ (kept : List KeptNow) (are : AreEndsOf kept all) (here : slice_get all m ≡ Some e) (g : AreGathered cuts nodes (length ends) left old mid kept) where
    last : Last g.front m
    last = last_of g.front m (g.count ∙ many)

    its_split : kept ≡ last.front ++ last.last ∷ g.behind
    its_split = g.split ∙ ap (λ ns. ns ++ g.behind) last.split ∙ append_assoc last.front (last.last ∷ []) g.behind

    at_place : slice_get kept m ≡ Some last.last
    at_place = ap (λ ns. slice_get ns m) its_split ∙ get_behind last.front last.last g.behind m last.count

    is_end : IsEndOf last.last e
    is_end = are.each m last.last e at_place here

    its_halves : left ≡ loose_at last.last ++ loose_of last.front
    its_halves = g.halves ∙ ap loose_of last.split ∙ joined_last loose_at last.front last.last

    taken : take e.halves left ≡ loose_at last.last
    taken = ap (take e.halves) its_halves ∙ take_at (loose_at last.last) (loose_of last.front) e.halves (sym is_end.halves)

    dropped : drop e.halves left ≡ loose_of last.front
    dropped = ap (drop e.halves) its_halves ∙ drop_at (loose_at last.last) (loose_of last.front) e.halves (sym is_end.halves)

    told_here : (y : Node) (n : KeptNow) → slice_get nodes m ≡ Some y → slice_get kept m ≡ Some n → y.started ≡ true →
        IsGathered (cuts_at cuts m) m n old new
    told_here y n its is on =
        subst (λ (z : KeptNow). IsGathered (cuts_at cuts m) m z old new) (same_Some last.last n (sym at_place ∙ is))
        (is_gathered (cuts_at cuts m) m last.last e left old mid new is_end taken (before m (let n = many in omega (arith, n)))
        (subst (λ b. GivesBack (cuts_at cuts m) b m e (take e.halves left) mid new) (ap (λ (z : Node). z.started) (same_Some x y (sym there ∙ its)) ∙ on) gives))

    told_at : (k : ℕ) (y : Node) (n : KeptNow) → m ≤ k → slice_get nodes k ≡ Some y → slice_get kept k ≡ Some n → y.started ≡ true →
        IsGathered (cuts_at cuts k) k n old new
    told_at k y n most its is on = elim (three_ways k m) [
      | inl less ↦ absurd (omega (arith, less, most))
      | inr (inl more) ↦
          told_on (cuts_at cuts k) k n old mid new (g.told k y n (let n = many in omega (arith, n, more)) its is on) (others k (above_apart k m more)).untouched
      | inr (inr same) ↦ subst (λ j. IsGathered (cuts_at cuts j) j n old new) (sym same)
          (told_here y n (subst (λ j. slice_get nodes j ≡ Some y) same its) (subst (λ j. slice_get kept j ≡ Some n) same is) on)
    ]

    one_gathered : (after : List LooseNow) → after ≡ drop e.halves left → AreGathered cuts nodes m after old new kept
    one_gathered after e = record {
      front = last.front;
      behind = last.last ∷ g.behind;
      split = its_split;
      count = last.count;
      halves = e ∙ dropped;
      told = told_at;
    }

-- its log
one_heard : (e : EndedNow) (log : Holding Logged) → log.items ≡ calls_of e → heard_in log ≡ heard_of_all e
one_heard e log its = ap heard_by its

more_heard : (logs after : List (Holding Logged)) (log : Holding Logged) (gone : List EndedNow) (e : EndedNow) → after ≡ logs ++ log ∷ [] → log.items ≡ calls_of e →
    map heard_in (reverse logs) ≡ map heard_of_all gone → map heard_in (reverse after) ≡ map heard_of_all (e ∷ gone)
more_heard logs after log gone e pushed its was =
    ap (map heard_in) (ap reverse pushed ∙ reverse_last logs log) ∙ ap (λ h. h ∷ map heard_in (reverse logs)) (one_heard e log its) ∙ ap (λ hs. heard_of_all e ∷ hs) was

one_gone : (cuts : List (Holding Cut)) (nodes : List Node) (all ends rest : List EndedNow) (e : EndedNow) (halves left after : List LooseNow) (logs longer : List (Holding Logged)) (log : Holding Logged)
    (old mid new : SeenFabric) (x : Node) → AreInHand cuts nodes all ends halves left logs old mid → ends ≡ rest ++ e ∷ [] → slice_get nodes (length rest) ≡ Some x →
    GivesBack (cuts_at cuts (length rest)) x.started (length rest) e (take e.halves left) mid new → after ≡ drop e.halves left →
    longer ≡ logs ++ log ∷ [] → log.items ≡ calls_of e → AreInHand cuts nodes all rest halves after longer old new
one_gone cuts nodes all ends rest e halves left after logs longer log old mid new x a split there gives moved pushed its =
    let m = length rest in
    let same : all ≡ rest ++ e ∷ a.gone = a.split ∙ ap (λ es. es ++ a.gone) split ∙ append_assoc rest (e ∷ []) a.gone in
    record {
      gone = e ∷ a.gone;
      split = same;
      out = λ k y few its on. (others cuts nodes all ends rest e halves left old mid new x split there gives a.before k (below_apart k m few)).out
          ∙ a.out k y (let n = many cuts nodes all ends rest e halves left old mid new x split there gives a.before in omega (arith, n, few)) its on;
      before = untouched cuts nodes all ends rest e halves left old mid new x split there gives a.before;
      off = λ k y its off. untouched_on k old mid new (a.off k y its off) (stays_off cuts nodes all ends rest e halves left old mid new x split there gives a.before k y its off);
      told = λ kept are its. one_gathered cuts nodes all ends rest e halves left old mid new x split there gives a.before kept are
          (ap (λ es. slice_get es m) same ∙ get_behind rest e a.gone m refl) (a.told kept are its) after moved;
      ports = ports_at cuts nodes all ends rest e halves left old mid new x split there gives a.before a.ports (ap (λ es. slice_get es m) same ∙ get_behind rest e a.gone m refl);
      heard = more_heard logs longer log a.gone e pushed its a.heard;
    }

within : (nodes : List Node) (ends rest : List EndedNow) (e : EndedNow) → ends ≡ rest ++ e ∷ [] → length ends ≤ length nodes → length rest < length nodes
within nodes ends rest e split few = omega (arith, few, ap length split, length-append rest (e ∷ []))

-- the ports of the next one are out, where it is on
pub is_out : (cuts : List (Holding Cut)) (nodes : List Node) (all ends rest : List EndedNow) (e : EndedNow) (halves left : List LooseNow) (logs : List (Holding Logged)) (old now : SeenFabric) (k : ℕ) (d : Node) →
    AreInHand cuts nodes all ends halves left logs old now → ends ≡ rest ++ e ∷ [] → k ≡ length rest → length ends ≤ length nodes →
    (slice_index_or nodes k d).started ≡ true → now.out k ≡ Some (slice_index_or nodes k d).centers
is_out cuts nodes all ends rest e halves left logs old now k d a split here few on =
    a.out k (slice_index_or nodes k d) (omega (arith, here, ap length split, length-append rest (e ∷ [])))
    (slice_get-get_or nodes k d (let less = within nodes ends rest e split few in omega (arith, here, less))) on

-- it is gathered
pub one_more : (cuts : List (Holding Cut)) (nodes : List Node) (all ends rest : List EndedNow) (e : EndedNow) (halves left after : List LooseNow) (logs longer : List (Holding Logged))
    (log : Holding Logged) (old mid new : SeenFabric) (k : ℕ) (d : Node) (own : List Cut) → AreInHand cuts nodes all ends halves left logs old mid → ends ≡ rest ++ e ∷ [] →
    k ≡ length rest → length ends ≤ length nodes → own ≡ cuts_at cuts k → GivesBack own (slice_index_or nodes k d).started k e (take e.halves left) mid new → after ≡ drop e.halves left →
    longer ≡ logs ++ log ∷ [] → log.items ≡ calls_of e → AreInHand cuts nodes all rest halves after longer old new
one_more cuts nodes all ends rest e halves left after logs longer log old mid new k d own a split here few mine gives moved pushed its =
    let m = length rest in
    one_gone cuts nodes all ends rest e halves left after logs longer log old mid new (slice_index_or nodes m d) a split (slice_get-get_or nodes m d (within nodes ends rest e split few))
    (subst (λ j. GivesBack (cuts_at cuts j) (slice_index_or nodes j d).started j e (take e.halves left) mid new) here
    (subst (λ c. GivesBack c (slice_index_or nodes k d).started k e (take e.halves left) mid new) mine gives)) moved pushed its

-- ---- at the end

pub all_gathered : (cuts : List (Holding Cut)) (nodes : List Node) (all ends : List EndedNow) (halves left : List LooseNow) (logs : List (Holding Logged)) (old new : SeenFabric) →
    AreInHand cuts nodes all ends halves left logs old new → ends ≡ [] → (kept : List KeptNow) → AreEndsOf kept all → halves ≡ loose_of kept → AllGathered cuts nodes kept old new
all_gathered cuts nodes all ends halves left logs old new a none kept are its = record {
  on = λ k x n there is on. (a.told kept are its).told k x n (let e = ap length none in omega (arith, e)) there is on;
  off = a.off;
}

pub all_told : (cuts : List (Holding Cut)) (nodes : List Node) (all ends : List EndedNow) (halves left : List LooseNow) (logs : List (Holding Logged)) (old new : SeenFabric) →
    AreInHand cuts nodes all ends halves left logs old new → ends ≡ [] → ArePortsTold nodes all new
all_told cuts nodes all ends halves left logs old new a none k x e there here on = a.ports k x e (let z = ap length none in omega (arith, z)) there here on

same_heard : (n : KeptNow) (e : EndedNow) → IsEndOf n e → heard_of_all e ≡ heard_at_once n.node
same_heard n e is =
    ap heard_by
    (side_flat IsEndOfCenter (λ (c : CenterNow (List Logged)). c.out.fast) (λ (d : EndedCenterNow). d.fast) n.node.centers e.centers (λ c d end. end.fast) (ends_beside n e is))

pub all_heard : (cuts : List (Holding Cut)) (nodes : List Node) (all ends : List EndedNow) (halves left : List LooseNow) (logs : List (Holding Logged)) (old new : SeenFabric) →
    AreInHand cuts nodes all ends halves left logs old new → ends ≡ [] → (kept : List KeptNow) → AreEndsOf kept all → map heard_in (reverse logs) ≡ map heard_at_once (nodes_of kept)
all_heard cuts nodes all ends halves left logs old new a none kept are =
    a.heard ∙ ap (map heard_of_all) (sym (a.split ∙ ap (λ es. es ++ a.gone) none))
    ∙ same_maps (λ (n : KeptNow). heard_at_once n.node) heard_of_all kept all are.count (λ k n e p q. same_heard n e (are.each k n e p q))
    ∙ sym (map-map heard_at_once (λ (n : KeptNow). n.node) kept)
