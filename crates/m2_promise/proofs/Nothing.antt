-- Where nothing is told all is the same.
use Rattle.std.proofs.Common.{◌≡◌, ℕ, List, [], ◌∷◌, None, refl, sym, subst}
use Rattle.m2_links_go_on.specs.ClusterTold.{OneByOne, SameHalf, SameRecord}
use Rattle.m2_links_go_on.specs.m2_growth.Halves.{all_left}
use Rattle.m2_links_go_on.specs.m2_growth.Holding.{Holding}
use Rattle.m2_script.specs.m2_record.RecordNow.{RecordNow}
use Rattle.m2_promise.specs.Running.{IsRunning, RunNow}
use Rattle.m2_fabric.specs.SimFabric.{Flows, Passes, flow_of}
use Rattle.m2_fabric.proofs.Told.{told_nothing}
use Rattle.m2_lives.specs.m2_bytes_fit.m2_trail.Arrivals.{LooseNow}
use Rattle.m2_promise.specs.Passed.{NodesHear, SameHolding, network_of}

each_same : {X : Type 0} (how : X → X → Type 0) → ((x : X) → how x x) → (xs : List X) → OneByOne how xs xs
each_same how so [] = tt
each_same how so (x ∷ xs) = (so x, each_same how so xs)

same_record : (r : RecordNow) → SameRecord r r
same_record r = record { place = refl; facts = refl; plan = refl; journal = refl; trails = refl; ends = refl; all = refl }

same_half : (l : LooseNow) → SameHalf l l
same_half l = record { trail = refl; end = refl }

same_holding : (h : Holding) → SameHolding h h
same_holding h = record {
  at = refl;
  made = refl;
  records = each_same SameRecord same_record h.records;
  halves = record { pending = refl; loose = refl; left = each_same SameHalf same_half (all_left h.halves) };
}

pub hears_nothing : (x : RunNow) → IsRunning x → NodesHear x x
hears_nothing x run = record { same = each_same SameHolding same_holding x.holdings; nodes = run.nodes; holds = run.holds; in_step = run.in_step }

pub flows_nothing : (a b socket most : ℕ) (x : RunNow) → flow_of a b socket most x.fabric.pairs ≡ None → Flows a b socket most (network_of x) (network_of x)
flows_nothing a b socket most x none = subst (λ o. Passes o (network_of x) (network_of x)) (sym none) (record { told = told_nothing x.holder; fabric = refl })
