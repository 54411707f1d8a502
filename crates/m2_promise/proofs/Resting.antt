-- A run stays at rest behind each of its deeds.
use Rattle.std.proofs.Common.{ℕ, sym, subst}
use Rattle.m2_links_go_on.specs.m2_growth.InStepLaws.{CallsKeepEnds, TurnsKeepEnds}
use Rattle.m2_links_go_on.specs.m2_growth.Passed.{AllPortsStand, HasItsEnds}
use Rattle.m2_promise.specs.RunLaws.{ActingKeepsOrders, ActingKeepsRunning}
use Rattle.m2_promise.specs.Running.{IsRunning, NodeActs, RunNow}
use Rattle.m2_fabric.specs.InStep.{SeenFabric}
use Rattle.m2_promise.specs.PassingLaws.{FaultKeepsRunning, FlowKeepsRunning, HearingKeepsOrders, MeetingKeepsRunning, RestStays}
use Rattle.m2_promise.specs.Passed.{IsAtRest, NodesHear, network_of}

pub acts_at_rest : ActingKeepsRunning → ActingKeepsOrders → TurnsKeepEnds → (i : ℕ) (old new : RunNow) → NodeActs i old new → AllPortsStand old.holder new.holder → IsAtRest old → IsAtRest new
acts_at_rest running orders ends i old new acts stand rest = record {
  running = running i old new rest.running acts;
  ends = subst (λ (f : SeenFabric). HasItsEnds (record { fabric = f; holder = new.holder })) (sym acts.fabric) (ends old.fabric old.holder new.holder acts.ends stand rest.ends);
  orders = orders i old new rest.running acts rest.orders;
}

-- where it runs on, and each socket has its end
hears_at_rest : HearingKeepsOrders → (old new : RunNow) → NodesHear old new → IsRunning new → HasItsEnds (network_of new) → IsAtRest old → IsAtRest new
hears_at_rest orders old new hear running ends rest = record { running = running; ends = ends; orders = orders old new hear.same rest.orders }

pub rest_stays : ActingKeepsRunning → ActingKeepsOrders → TurnsKeepEnds → MeetingKeepsRunning → FlowKeepsRunning → FaultKeepsRunning → HearingKeepsOrders → CallsKeepEnds → RestStays
rest_stays acting ordered turns meeting flow fault hearing calls = record {
  turns = acts_at_rest acting ordered turns;
  meetings = λ node old new meets hear rest.
      hears_at_rest hearing old new hear (meeting node old new meets hear rest.ends rest.running) (calls.meetings node (network_of old) (network_of new) meets rest.ends) rest;
  flows = λ a b socket most old new flows hear rest.
      hears_at_rest hearing old new hear (flow a b socket most old new flows hear rest.ends.waiting rest.running) (calls.flows a b socket most (network_of old) (network_of new) flows rest.ends) rest;
  faults = λ a b socket old new faults hear rest.
      hears_at_rest hearing old new hear (fault a b socket old new faults hear rest.running) (calls.faults a b socket (network_of old) (network_of new) faults rest.ends) rest;
}
