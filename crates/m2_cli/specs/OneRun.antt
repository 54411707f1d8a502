-- That a scenario has one run, but for want of memory; so a file comes to one status and one report, and a load to one status and three
-- lines. This project's own.
use Rattle.std.specs.Prelude.{◌≡◌, ℕ, List}
use Rattle.m2_exact.specs.Runs.{IsToldTheSame}
use Rattle.m2_scenario.specs.Draft.{Draft}
use Rattle.m2_scenario.specs.m2_dispatch.declared.logged.Logged.{Logged}
use Rattle.m2_exact.specs.m2_script.Script.{RunNow}
use Rattle.m2_cli.specs.declared.status.Status.{Status}
use Rattle.m2_cli.specs.Load.{LoadComesTo}
use Rattle.m2_cli.specs.Verdict.{ComesTo, IsRunOf}

-- of two runs of one scenario the same is told
abbrev pub ScenariosHaveOneRun : Type 0
ScenariosHaveOneRun = (d : Draft) (last other : RunNow (List Logged)) → IsRunOf d last → IsRunOf d other → IsToldTheSame d.links last other

-- the same bytes come to the same status and the same text
abbrev pub FilesComeToOne : Type 0
FilesComeToOne = (bytes text printed : List ℕ) (status answered : Status) → ComesTo bytes status text → ComesTo bytes answered printed → (status ≡ answered) × (text ≡ printed)

-- and so does a load of as many posts by the same seed
abbrev pub LoadsComeToOne : Type 0
LoadsComeToOne = (posts seed : ℕ) (text printed : List ℕ) (status answered : Status) → LoadComesTo posts seed status text → LoadComesTo posts seed answered printed →
    (status ≡ answered) × (text ≡ printed)
