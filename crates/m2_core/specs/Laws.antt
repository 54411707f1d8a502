-- What holds of the waits before a side dials.
use Rattle.std.specs.Prelude.{◌≡◌, ℕ, suc}
use Rattle.m2_journal.specs.declared.facts.NodeFacts.{NodeFacts}
use Rattle.m2_core.specs.Waits.{AreWaits, begun, nth_wait, over}
use Rattle.m2_core.specs.declared.waits.Waits.{Waits}

-- The next wait is the first one from Ready on, and behind the n-th comes the one after it.
pub record WaitsDouble : Type 0 where
  pub first : (node : NodeFacts) (w : Waits) → AreWaits node → (over node w).wait ≡ nth_wait node 0
  pub next : (node : NodeFacts) (n now : ℕ) (w : Waits) → w.wait ≡ nth_wait node n → (begun node now w).wait ≡ nth_wait node (suc n)
