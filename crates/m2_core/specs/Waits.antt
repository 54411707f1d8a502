-- How long a side waits before it dials again. The first wait after a break is the node's first, each that follows is
-- twice as long up to the node's longest, and in Ready the next one is the first again. This project's profile.
use Rattle.std.specs.Prelude.{ℕ, zero, suc, ◌+◌, ◌-◌, ◌^◌, ◌≤◌, ◌&&◌, not, min, if◌then◌else◌}
use Rattle.m2_journal.specs.declared.facts.NodeFacts.{NodeFacts}
use Rattle.m2_session.specs.declared.session.Phase.{Phase}
use Rattle.m2_session.specs.declared.session.Phase.TheVariants.{Ready, Wait}
use Rattle.m2_session.specs.Phases as phase
use Rattle.m2_core.specs.declared.waits.Waits.{Waits}

-- the greatest number that a moment or a count has
abbrev pub not_above : ℕ → ℕ
not_above n = min n (2 ^ 64 - 1)

-- none before the first wait
abbrev pub at_first : NodeFacts → Waits
at_first node = record { next_dial = 0; wait = node.first_wait }

-- a wait begins: no connect is due before its end, and the next one is twice as long, up to the longest
abbrev pub begun : NodeFacts → (now : ℕ) → Waits → Waits
begun node now w = record { next_dial = not_above (now + w.wait); wait = min (w.wait + w.wait) node.most_wait }

-- the next wait is the first again
abbrev pub over : NodeFacts → Waits → Waits
over node w = record w { wait = node.first_wait }

-- beside a step of the session: a wait begins where the phase becomes Wait, and in Ready it is over
abbrev pub stepped : NodeFacts → (now : ℕ) → (old new : Phase) → Waits → Waits
stepped node now old new w =
    if phase.is new Wait && not (phase.is old Wait) then begun node now w
    else (if phase.is new Ready then over node w else w)

-- ---- of a record's next wait

-- a number, so often doubled
abbrev pub doubled : (x n : ℕ) → ℕ
doubled x zero = x
doubled x (suc n) = doubled x n + doubled x n

-- the n-th wait since the last Ready, from 0
abbrev pub nth_wait : NodeFacts → ℕ → ℕ
nth_wait node n = min (doubled node.first_wait n) node.most_wait

-- the first wait isn't above the longest
abbrev pub AreWaits : NodeFacts → Type 0
AreWaits node = node.first_wait ≤ node.most_wait

-- no wait is shorter than the first one or longer than the longest
pub record IsWithin (node : NodeFacts) (w : Waits) : Type 0 where
  pub from : node.first_wait ≤ w.wait
  pub to : w.wait ≤ node.most_wait
