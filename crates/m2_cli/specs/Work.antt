-- What a command of a known form leaves: what its work came to, how that was said, and what is answered.
use Rattle.std.specs.Prelude.{◌≡◌, List}
use Rattle.m2_scenario.specs.Text.{Word}
use Rattle.m2_cli.specs.declared.status.Status.{Status}
use Rattle.m2_cli.specs.Edge.{Edge, HasCauses}
use Rattle.m2_cli.specs.Print.{SaysStatus}

-- Its work came to a status, and left the source and standard output as `Leaves` says; the line of that status was
-- said on standard error, in the words of these nodes' names. What is answered is that status, or a write fault where standard error refused the line.
pub record Works (names : List Word) (Leaves : Status → Edge → Edge → Type 0) (answered : Status) (before after : Edge) : Type 0 where
  pub causes : HasCauses answered before after
  pub inputs : after.source.inputs ≡ before.source.inputs
  pub work : Status
  pub said : SaysStatus names work answered before.err after.err
  pub left : Leaves work before after
