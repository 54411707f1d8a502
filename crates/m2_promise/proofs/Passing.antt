-- Behind a meeting, a flow and a fault what holds always holds still.
use Rattle.std.proofs.Common.{◌≡◌, ℕ, ◌&&◌, Bool, true, false, if◌then◌else◌, List, [], ◌∷◌, map, Some, None, is_some, refl, sym, ap, subst, ◌∙◌, ◌⊎◌, inl, inr}
use Rattle.std.specs.Prelude.{IsSome, slice_get}
use Rattle.std.specs.List.{AllByRecursion}
use Rattle.m2_fabric.specs.m2_addr.declared.addr.Addr.{Addr}
use Rattle.m2_links_go_on.specs.ClusterTold.{OneByOne, SameRecord}
use Rattle.m2_fabric.specs.declared.socket.SocketId.{SocketId}
use Rattle.m2_fabric.specs.End.{fresh_end}
use Rattle.m2_fabric.specs.Holder.{EndName, SeenHolder, may_come}
use Rattle.m2_fabric.specs.Sockets.{goes_to, is_among}
use Rattle.m2_links_go_on.specs.m2_growth.Holding.{Holding, all_ends}
use Rattle.m2_links_go_on.specs.m2_growth.InStepLaws.{AreMet, FaultsStayMet, FlowsStayMet, MeetingsStayMet}
use Rattle.m2_links_go_on.proofs.m2_growth.Entering.{AllSo}
use Rattle.m2_links_go_on.specs.m2_weave.m2_journal.State.{Judgement}
use Rattle.m2_links_go_on.specs.m2_weave.m2_journal.SideFacts.{SideFacts}
use Rattle.m2_script.specs.m2_record.RecordNow.{RecordNow}
use Rattle.m2_script.specs.m2_record.Sources.{end_at}
use Rattle.m2_script.specs.m2_record.TakenTrails.{judgements_in}
use Rattle.m2_fabric.specs.InStep.{Network, SeenFabric, end_of}
use Rattle.m2_fabric.specs.Kept.{SeenPair, between, chosen, directions, is_kept}
use Rattle.m2_fabric.specs.Meeting.{Arrive, arrivals, comes_from, is_one_of}
use Rattle.m2_fabric.specs.News.{AreTold, Told, hears, logs_of, told_to}
use Rattle.m2_fabric.specs.SimFabric.{AreApart, Enters, IsPassedOn, IsTold, Passes, closings_of, fault_at, flow_of, new_made}
use Rattle.m2_promise.specs.Running.{HasAskedPeer, IsRunning, RunNow}
use Rattle.m2_promise.specs.PassingLaws.{FaultKeepsRunning, FlowKeepsRunning, MeetingKeepsRunning}
use Rattle.m2_promise.specs.Passed.{NodesHear, SameHolding, network_of}
use Rattle.m2_promise.proofs.Hearing.{before}
use Rattle.m2_promise.proofs.Pairs.{Between, all_kept, arriving_keeps, entered_between, kept_passed, passed_so}
use Rattle.m2_fabric.proofs.m2_lemmas.Options.{mapped_is_some}

-- ---- networks

-- The nodes stay where they are, and kept sockets stay kept. Each is between two nodes, if each was; and an end that came is of a
-- kept one.
record PairsGrow (old new : Network) : Type 0 where
  nodes : new.fabric.nodes ≡ old.fabric.nodes
  so : AllSo (Between old.fabric.nodes) old.fabric.pairs → AllSo (Between old.fabric.nodes) new.fabric.pairs
  kept : (k : SocketId) → is_kept k old.fabric.pairs ≡ true → is_kept k new.fabric.pairs ≡ true
  come : (e : EndName) → IsSome (end_of new.holder e) → (is_kept e.id new.fabric.pairs ≡ true) ⊎ IsSome (end_of old.holder e)

grow_then : (a b c : Network) → PairsGrow a b → PairsGrow b c → PairsGrow a c
grow_then a b c p q = record {
  nodes = q.nodes ∙ p.nodes;
  so = λ all. subst (λ nodes. AllSo (Between nodes) c.fabric.pairs) p.nodes (q.so (subst (λ nodes. AllSo (Between nodes) b.fabric.pairs) (sym p.nodes) (p.so all)));
  kept = λ k is. q.kept k (p.kept k is);
  come = λ e some. by e (q.come e some);
}
  where
    by : (e : EndName) → (is_kept e.id c.fabric.pairs ≡ true) ⊎ IsSome (end_of b.holder e) → (is_kept e.id c.fabric.pairs ≡ true) ⊎ IsSome (end_of a.holder e)
    by e (inl is) = inl is
    by e (inr some) = at (p.come e some)
      where
        at : (is_kept e.id b.fabric.pairs ≡ true) ⊎ IsSome (end_of a.holder e) → (is_kept e.id c.fabric.pairs ≡ true) ⊎ IsSome (end_of a.holder e)
        at (inl is) = inl (q.kept e.id is)
        at (inr was) = inr was

-- an end that was told something was there
told_was : (f : EndName → List Told) (a b : SeenHolder) → AreTold f a b → (e : EndName) → IsSome (end_of b e) → IsSome (end_of a e)
told_was f a b t e some = sym (ap is_some (t.ends e) ∙ mapped_is_some (hears (f e)) (end_of a e)) ∙ some

told_grow : (f : EndName → List Told) (old new : Network) → IsTold f old new → PairsGrow old new
told_grow f old new t = record {
  nodes = ap (λ (x : SeenFabric). x.nodes) t.fabric;
  so = λ all. subst (λ (x : SeenFabric). AllSo (Between old.fabric.nodes) x.pairs) (sym t.fabric) all;
  kept = λ k is. ap (λ (x : SeenFabric). is_kept k x.pairs) t.fabric ∙ is;
  come = λ e some. inr (told_was f old.holder new.holder t.told e some);
}

passed_grow : (what : _) (old new : Network) → IsPassedOn what old new → PairsGrow old new
passed_grow what old new p =
    let l = logs_of old.holder in
    let f = told_to what l (directions old.fabric.pairs) in record {
      nodes = p.nodes;
      so = λ all. subst (λ ps. AllSo (Between old.fabric.nodes) ps) (sym p.pairs) (passed_so (Between old.fabric.nodes) what l old.fabric.pairs all);
      kept = λ k is. ap (is_kept k) p.pairs ∙ kept_passed what l k old.fabric.pairs ∙ is;
      come = λ e some. inr (told_was f old.holder new.holder p.told e some);
    }

passes_grow : (what : _) (old new : Network) → Passes what old new → PairsGrow old new
passes_grow None old new p = told_grow (λ e. []) old new p
passes_grow (Some what) old new p = passed_grow what old new p

-- an end is one of those that came, or it was there
arrived_was : (es : List EndName) (a b : SeenHolder) (e : EndName) → Arrive es a b → IsSome (end_of b e) → (is_one_of es e ≡ true) ⊎ IsSome (end_of a e)
arrived_was es a b e p some = by (is_one_of es e) refl
  where
    by : (c : Bool) → is_one_of es e ≡ c → (is_one_of es e ≡ true) ⊎ IsSome (end_of a e)
    by true is = inl is
    by false is = inr (sym (ap is_some (p.ends e ∙ ap (λ (c : Bool). if c && may_come e a then Some (fresh_end e.id) else end_of a e) is)) ∙ some)

enters_grow : (node : ℕ) (old new : Network) → Enters node old new → PairsGrow old new
enters_grow node old new p = record {
  nodes = p.nodes;
  so = λ all. subst (λ qs. AllSo (Between nodes) qs) (sym p.pairs) (entered_between nodes node ids ps all);
  kept = λ k is. ap (is_kept k) p.pairs ∙ all_kept nodes node ids ps k is;
  come = λ e some. by e (arrived_was (arrivals nodes node ids ps) old.holder new.holder e p.arrive some);
}
  where
    nodes : List Addr
    nodes = old.fabric.nodes

    ids : List SocketId
    ids = new_made node old

    ps : List SeenPair
    ps = old.fabric.pairs

    by : (e : EndName) → (is_one_of (arrivals nodes node ids ps) e ≡ true) ⊎ IsSome (end_of old.holder e) → (is_kept e.id new.fabric.pairs ≡ true) ⊎ IsSome (end_of old.holder e)
    by e (inl one) = inl (ap (is_kept e.id) p.pairs ∙ arriving_keeps nodes node ids ps e one)
    by e (inr was) = inr was

-- ---- runs

same_asked : (r s : RecordNow) → SameRecord r s → HasAskedPeer r → HasAskedPeer s
same_asked r s same asked k among =
    ap (λ (f : SideFacts). comes_from k (Some f.peer)) same.facts
    ∙ asked k (ap (λ j. is_among k (map (λ (x : Judgement). x.socket) (judgements_in j))) (sym same.journal) ∙ among)

all_asked : (rs ss : List RecordNow) → OneByOne SameRecord rs ss → AllByRecursion HasAskedPeer rs → AllByRecursion HasAskedPeer ss
all_asked [] [] same all = tt
all_asked [] (s ∷ ss) same all = absurd same
all_asked (r ∷ rs) [] same all = absurd same
all_asked (r ∷ rs) (s ∷ ss) same all = (same_asked r s same.0 all.0, all_asked rs ss same.1 all.1)

keeps_running : (old new : RunNow) → PairsGrow (network_of old) (network_of new) → NodesHear old new → AreMet (network_of new) → IsRunning old → IsRunning new
keeps_running old new grow hear met run = record {
  apart = subst AreApart (sym grow.nodes) run.apart;
  in_step = hear.in_step;
  met = met;
  holds = hear.holds;
  between = record {
    kept = subst (λ nodes. AllSo (Between nodes) new.fabric.pairs) (sym grow.nodes) (grow.so run.between.kept);
    arrived = arrived;
  };
  nodes = hear.nodes;
  asked = λ i h there.
      let was = before SameHolding old.holdings new.holdings hear.same i h there in
      all_asked was.item.records h.records was.same.records (run.asked i was.item was.there);
}
  where
    arrived : (i : ℕ) (h : Holding) → slice_get new.holdings i ≡ Some h → (k : SocketId) → goes_to h.port.at k ≡ true → IsSome (end_at (all_ends h) k) → is_kept k new.fabric.pairs ≡ true
    arrived i h there k goes some = by (grow.come (record { node = i; id = k }) (ap is_some (hear.holds.ends i h there k) ∙ some))
      where
        by : (is_kept k new.fabric.pairs ≡ true) ⊎ IsSome (old.holder.ends i k) → is_kept k new.fabric.pairs ≡ true
        by (inl is) = is
        by (inr was) =
            let g = before SameHolding old.holdings new.holdings hear.same i h there in
            grow.kept k (run.between.arrived i g.item g.there k (ap (λ a. goes_to a k) (sym g.same.at) ∙ goes) (sym (ap is_some (run.holds.ends i g.item g.there k)) ∙ was))

-- ---- what passes

pub meets_running : MeetingsStayMet → MeetingKeepsRunning
meets_running met node old new meets hear has run =
    keeps_running old new
    (grow_then (network_of old) meets.between (network_of new) (enters_grow node (network_of old) meets.between meets.enters) (passed_grow (closings_of node) meets.between (network_of new) meets.passed))
    hear (met node (network_of old) (network_of new) meets run.in_step hear.in_step has run.met) run

pub flows_running : FlowsStayMet → FlowKeepsRunning
flows_running met a b socket most old new flows hear opens run =
    keeps_running old new (passes_grow (flow_of a b socket most old.fabric.pairs) (network_of old) (network_of new) flows) hear
    (met a b socket most (network_of old) (network_of new) flows hear.in_step opens run.met) run

pub faults_running : FaultsStayMet → FaultKeepsRunning
faults_running met a b socket old new faults hear run =
    keeps_running old new (told_grow (fault_at a (logs_of old.holder) (chosen socket (between a b old.fabric.pairs))) (network_of old) (network_of new) faults) hear
    (met a b socket (network_of old) (network_of new) faults run.met) run
