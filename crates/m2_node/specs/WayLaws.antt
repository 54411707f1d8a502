-- What is promised of centers that are on their way. This project's own.
use Rattle.std.specs.Prelude.{ℕ, ◌≤◌, Bool, true, List}
use Rattle.m2_script.specs.m2_center.Center.{CenterNow}
use Rattle.m2_dispatch.specs.declared.logged.Logged.{Logged}
use Rattle.m2_dispatch.specs.m2_shared.Numbers.{SeenNumbers}
use Rattle.m2_dispatch.specs.m2_shared.declared.throttles.Throttles.{Throttles}
use Rattle.m2_node.specs.Way.{GoesOn, PollsSo, StepsSo, TurnsSo}

-- In a turn at a moment that the clock may give, and that isn't before the last one, a center goes on.
abbrev pub TurnsGoOn : (E C : Type 0) → (may_give : C → ℕ → Type 0) → Type 0
TurnsGoOn E C may_give = (clock : C) (from now : ℕ) (numbers : SeenNumbers) (throttles : Throttles) (old new : CenterNow (List Logged)) → TurnsSo E now numbers throttles old new →
    may_give clock now → from ≤ now → GoesOn (may_give clock) from now true old new

-- It does where its thread waits at its port.
abbrev pub PollsGoOn : (C : Type 0) → (may_give : C → ℕ → Type 0) → Type 0
PollsGoOn C may_give = (clock : C) (moment : ℕ) (old new : CenterNow (List Logged)) → PollsSo old new → GoesOn (may_give clock) moment moment true old new

-- And so it does where time passes, whether it is on or off.
abbrev pub WaitingGoesOn : (C : Type 0) → (may_give : C → ℕ → Type 0) → Type 0
WaitingGoesOn C may_give = (clock : C) (from now : ℕ) (started : Bool) (c : CenterNow (List Logged)) → may_give clock now → from ≤ now → GoesOn (may_give clock) from now started c c

-- So it goes on in a turn behind which its thread may wait at the port.
abbrev pub StepsGoOn : (E C : Type 0) → (may_give : C → ℕ → Type 0) → Type 0
StepsGoOn E C may_give = (clock : C) (from now : ℕ) (numbers : SeenNumbers) (throttles : Throttles) (old new : CenterNow (List Logged)) → StepsSo E now numbers throttles old new →
    may_give clock now → from ≤ now → GoesOn (may_give clock) from now true old new
