-- Nodes that hold the same, but for what their ends were told.
use Rattle.std.proofs.Common.{ℕ, List, [], ◌∷◌, Some, sym, ap, subst, ◌∙◌}
use Rattle.std.specs.Prelude.{◌==◌, slice_get}
use Rattle.std.specs.List.{AllByRecursion}
use Rattle.m2_fabric.specs.m2_addr.declared.addr.Addr.{Addr}
use Rattle.m2_script.specs.m2_cluster.Node.{NodeNow}
use Rattle.m2_links_go_on.specs.ClusterTold.{OneByOne, SameNode, SameRecord}
use Rattle.m2_links_go_on.specs.ToldLaws.{ToldClusterIsSame}
use Rattle.m2_lives.specs.m2_bytes_fit.Halves.{KeepsRanges}
use Rattle.m2_links_go_on.specs.m2_weave.m2_journal.SideFacts.{SideFacts}
use Rattle.m2_script.specs.m2_record.RecordNow.{RecordNow}
use Rattle.m2_promise.specs.Running.{IsOfPort, IsRecordAt}
use Rattle.m2_promise.specs.PassingLaws.{HearingStaysAt, ToldNodesHear}
use Rattle.m2_promise.specs.Acting.{holdings_of}
use Rattle.m2_promise.specs.Passed.{SameHolding}

-- ---- a cluster

all_hear : {D : Type 0} (ms ns : List (NodeNow D)) → OneByOne SameNode ms ns → OneByOne SameHolding (holdings_of ms) (holdings_of ns)
all_hear [] [] same = tt
all_hear [] (n ∷ ns) same = absurd same
all_hear (m ∷ ms) [] same = absurd same
all_hear (m ∷ ms) (n ∷ ns) same =
    let c = same.0.center in
    (record { at = c.at; made = c.made; records = c.records; halves = c.halves }, all_hear ms ns same.1)

pub told_hear : (D : Type 0) → ToldClusterIsSame D → ToldNodesHear D
told_hear D is_same old new rest = all_hear old.nodes new.nodes (is_same old new rest)

-- ---- a node at its place

record_stays : (addrs : List Addr) (i : ℕ) (r s : RecordNow) → SameRecord r s → IsRecordAt addrs i r → IsRecordAt addrs i s
record_stays addrs i r s same at = record {
  mine = at.mine ∙ ap (λ (f : SideFacts). Some f.mine) (sym same.facts);
  peer = ap (slice_get addrs) same.place ∙ at.peer ∙ ap (λ (f : SideFacts). Some f.peer) (sym same.facts);
  other = ap (λ n. n == i) same.place ∙ at.other;
  ranges = subst KeepsRanges (sym same.facts) at.ranges;
}

records_stay : (addrs : List Addr) (i : ℕ) (rs ss : List RecordNow) → OneByOne SameRecord rs ss → AllByRecursion (IsRecordAt addrs i) rs → AllByRecursion (IsRecordAt addrs i) ss
records_stay addrs i [] [] same all = tt
records_stay addrs i [] (s ∷ ss) same all = absurd same
records_stay addrs i (r ∷ rs) [] same all = absurd same
records_stay addrs i (r ∷ rs) (s ∷ ss) same all = (record_stays addrs i r s same.0 all.0, records_stay addrs i rs ss same.1 all.1)

pub stays_at : HearingStaysAt
stays_at addrs i old new same node memory unused at = record {
  node = node;
  at = at.at ∙ ap Some (sym same.at);
  records = records_stay addrs i old.records new.records same.records at.records;
  in_memory = memory;
  made = subst (λ a. AllByRecursion (IsOfPort a) new.port.made) (sym same.at) (subst (λ ks. AllByRecursion (IsOfPort old.port.at) ks) (sym same.made) at.made);
  waiting = unused;
}
