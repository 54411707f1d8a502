-- The logs of a run fit the report.
use Rattle.std.proofs.Common.{ℕ, List, length, map, get_or, All, ◌∙◌}
use Rattle.std.proofs.lemmas.List.{length-map}
use Rattle.std.proofs.lemmas.List.Elements.{All-map}
use Rattle.m2_bytes.specs.Items.{Holding}
use Rattle.m2_dispatch.specs.Heard.{heard_of}
use Rattle.m2_dispatch.specs.declared.logged.Logged.{Logged}
use Rattle.m2_scenario.specs.declared.node.Node.{Node}
use Rattle.m2_scenario.specs.Report.{AreLogsOf, IsLogOf, heard_in}
use Rattle.m2_scenario.specs.Printed.{AreReportable, IsReportable, LogFits}

log_fits : (nodes : ℕ) (log : Holding Logged) → IsLogOf nodes log → LogFits log → All (IsReportable nodes) (heard_in log)
log_fits nodes log peers fit = All-map (IsReportable nodes) heard_of log.items (λ k d h. record { peer = peers k d h; fits = fit k d h })

pub logs_fit : (nodes : List Node) (logs : List (Holding Logged)) → AreLogsOf nodes logs → All LogFits logs → AreReportable nodes (map heard_in logs)
logs_fit nodes logs are fit = record {
  each = length-map logs heard_in ∙ are.each;
  calls = All-map (All (IsReportable (length nodes))) heard_in logs (λ k d h. log_fits (length nodes) (get_or logs k d) (are.peers k d h) (fit k d h));
}
