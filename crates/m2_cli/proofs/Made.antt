-- A run of a scenario that a draft makes is a run of the draft.
use Rattle.std.proofs.Common.{◌≡◌, List, map, subst}
use Rattle.m2_exact.specs.m2_script.declared.outcome.Outcome.{Outcome}
use Rattle.m2_scenario.specs.declared.line.Line.{Line}
use Rattle.m2_scenario.specs.declared.link.Link.{Link}
use Rattle.m2_scenario.specs.declared.node.Node.{Node}
use Rattle.m2_scenario.specs.Draft.{Draft, DraftLine, draft_line}
use Rattle.m2_scenario.specs.Valid.{IsSound}
use Rattle.m2_cli.specs.Run.{IsOutcome, IsScriptRun, KeepsPromise}
use Rattle.m2_cli.specs.Verdict.{IsRunOf}

pub run_of_made : (d : Draft) (nodes : List Node) (links : List Link) (lines : List Line) (o : Outcome) → nodes ≡ d.nodes → links ≡ d.links
    → map draft_line lines ≡ d.lines → IsSound nodes links (map draft_line lines) → (is : IsOutcome nodes links lines o) → IsRunOf d is.last
run_of_made d nodes links lines o n l m sound is = record {
  sound =
      subst (λ (ns : List Node). IsSound ns d.links d.lines) n
      (subst (λ (ls : List Link). IsSound nodes ls d.lines) l (subst (λ (ds : List DraftLine). IsSound nodes links ds) m sound));
  lines = lines;
  made = m;
  first = is.first;
  script =
      subst (λ (ns : List Node). IsScriptRun ns d.links lines is.first is.last) n
      (subst (λ (ls : List Link). IsScriptRun nodes ls lines is.first is.last) l is.script);
  promise =
      subst (λ (ns : List Node). KeepsPromise ns d.links lines is.last) n
      (subst (λ (ls : List Link). KeepsPromise nodes ls lines is.last) l is.promise);
}
