-- Centers, and a cluster, where ends are told of the other side.
use Rattle.std.proofs.Common.{◌≡◌, Bool, true, false, if◌then◌else◌, List, [], ◌∷◌, refl, sym, ap, subst, Some, None, is_some, ◌∙◌}
use Rattle.std.specs.List.{AllByRecursion, list_any}
use Rattle.m2_fabric.specs.End.{SeenEnd}
use Rattle.m2_fabric.specs.Port.{with_incoming, with_news}
use Rattle.m2_cluster.specs.m2_center.Center.{CenterNow}
use Rattle.m2_cluster.specs.m2_center.Reaching.{after_hearing, has_half, rest_in}
use Rattle.m2_cluster.specs.m2_center.RecordEnds.{has_end, records_hear}
use Rattle.m2_cluster.proofs.m2_center.RecordsHear.{center_rest}
use Rattle.m2_cluster.specs.m2_center.m2_turn.Hearing as halves
use Rattle.m2_cluster.specs.Cluster.{ClusterNow, rest_of}
use Rattle.m2_cluster.specs.Node.{NodeNow, all_to_come, rest_of_node}
use Rattle.m2_growth.specs.Holding.{HaveTheirHalves}
use Rattle.m2_links_go_on.specs.Center.{holding_of}
use Rattle.m2_links_go_on.specs.ClusterTold.{KeepsSockets, OneByOne, SameNode, StayToCome}
use Rattle.m2_links_go_on.specs.ToldLaws.{HearingStaysOwn, IncomingStaysOwn, ToldCenterIsSame, ToldClusterIsSame, ToldClusterStaysJudged, ToldClusterStaysOwn, ToldStaysJudged, ToldStaysOwn}
use Rattle.m2_links_go_on.proofs.ToCome.{are_to_come, are_to_come_so, incoming_to_come, news_to_come}
use Rattle.m2_links_go_on.proofs.Untold.{OwnsHeld, bare_judged, bare_owns, judged_bare, own_both, own_held, own_to_come, owns_bare, same_halves, same_records, zipped}

module _ {D : Type 0} where
  -- ---- a center

  pub same_center : ToldCenterIsSame D
  same_center old new e = record {
    entity = ap (λ (c : CenterNow D). c.entity) e;
    at = ap (λ (c : CenterNow D). c.port.at) e;
    made = ap (λ (c : CenterNow D). c.port.made) e;
    records = same_records old.records new.records (ap (λ (c : CenterNow D). c.records) e);
    halves = same_halves old.halves new.halves (ap (λ (c : CenterNow D). c.halves) e);
    out = ap (λ (c : CenterNow D). c.out) e;
    queued = ap (λ (c : CenterNow D). c.queued) e;
    bytes = ap (λ (c : CenterNow D). c.bytes) e;
    numbers = ap (λ (c : CenterNow D). c.numbers) e;
  }

  pub stays_own : ToldStaysOwn D
  stays_own old new e come own =
      own_both (holding_of new)
      (owns_bare (holding_of new) (subst (λ (c : CenterNow D). OwnsHeld (holding_of c)) (sym e) (bare_owns (holding_of old) (own_held (holding_of old) own))))
      (come (own_to_come (holding_of old) own))

  pub stays_judged : ToldStaysJudged D
  stays_judged old new e judged =
      judged_bare (holding_of new) (subst (λ (c : CenterNow D). HaveTheirHalves (holding_of c)) (sym e) (bare_judged (holding_of old) judged))

  -- ---- what comes to it, and what it is told

  pub incoming_own : IncomingStaysOwn D
  incoming_own id c own = stays_own c (record c { port = with_incoming id c.port }) refl (incoming_to_come id c.port) own

  pub hearing_own : HearingStaysOwn D
  hearing_own id news bytes c own = stays_own c (after_hearing id news bytes c) (center_rest id news bytes c) come own
    where
      come : StayToCome c.port (after_hearing id news bytes c).port
      come = at (list_any (has_end id) c.records) (has_half id c.halves)
        where
          at : (b h : Bool) → StayToCome c.port
              (if b then record c { records = records_hear id news bytes c.records } else (if h then record c { halves = halves.after_hearing id news bytes c.halves } else record c { port = with_news id news bytes c.port })).port
          at true h = λ a. a
          at false true = λ a. a
          at false false = news_to_come id news bytes c.port

  -- ---- a cluster

  abbrev RestIsSame : NodeNow D → NodeNow D → Type 0
  RestIsSame m n = rest_of_node n ≡ rest_of_node m

  -- so is that of their centers
  same_rest : (m n : NodeNow D) → RestIsSame m n → rest_in n.center ≡ rest_in m.center
  same_rest m n e = ap (λ (x : NodeNow D). record x.center { port = record x.center.port { waiting = None } }) e

  -- and whether all that wait are to come
  same_waiting : (m n : NodeNow D) → RestIsSame m n → all_to_come n.center.port n.center.port.waiting ≡ all_to_come m.center.port m.center.port.waiting
  same_waiting m n e =
      sym (some_or_none (all_to_come n.center.port n.center.port.waiting)) ∙ ap (λ (x : NodeNow D). is_some x.center.port.waiting) e
      ∙ some_or_none (all_to_come m.center.port m.center.port.waiting)
    where
      some_or_none : (b : Bool) → is_some {T = List SeenEnd} (if b then Some [] else None) ≡ b
      some_or_none true = refl
      some_or_none false = refl

  same_node : (m n : NodeNow D) → RestIsSame m n → SameNode m n
  same_node m n e = record {
    center = same_center m.center n.center (same_rest m n e);
    shared = record { numbers = ap (λ (x : NodeNow D). x.numbers) e; throttles = ap (λ (x : NodeNow D). x.throttles) e };
  }

  keeps_sockets : (m n : NodeNow D) → RestIsSame m n → KeepsSockets m → KeepsSockets n
  keeps_sockets m n e keeps =
      let come = are_to_come n.center.port (same_waiting m n e ∙ are_to_come_so m.center.port keeps.in_memory (own_to_come (holding_of m.center) keeps.own) keeps.unused) in
      record { in_memory = come.2; own = stays_own m.center n.center (same_rest m n e) (λ was. come.0) keeps.own; unused = come.1 }

  rests : (old new : ClusterNow D) → rest_of new ≡ rest_of old → OneByOne RestIsSame old.nodes new.nodes
  rests old new e = zipped rest_of_node RestIsSame (λ m n e. e) old.nodes new.nodes (ap (λ (c : ClusterNow D). c.nodes) e)

  -- what each keeps all keep
  each_by : (P : NodeNow D → Type 0) → ((m n : NodeNow D) → RestIsSame m n → P m → P n) → (ms ns : List (NodeNow D)) → OneByOne RestIsSame ms ns → AllByRecursion P ms → AllByRecursion P ns
  each_by P so [] [] same all = tt
  each_by P so [] (n ∷ ns) same all = absurd same
  each_by P so (m ∷ ms) [] same all = absurd same
  each_by P so (m ∷ ms) (n ∷ ns) same all = (so m n same.0 all.0, each_by P so ms ns same.1 all.1)

  pub same_nodes : ToldClusterIsSame D
  same_nodes old new e = zipped rest_of_node SameNode same_node old.nodes new.nodes (ap (λ (c : ClusterNow D). c.nodes) e)

  pub all_stay_own : ToldClusterStaysOwn D
  all_stay_own old new e keep = each_by KeepsSockets keeps_sockets old.nodes new.nodes (rests old new e) keep

  pub all_stay_judged : ToldClusterStaysJudged D
  all_stay_judged old new e judged =
      each_by (λ (n : NodeNow D). HaveTheirHalves (holding_of n.center)) (λ m n same was. stays_judged m.center n.center (same_rest m n same) was)
      old.nodes new.nodes (rests old new e) judged
