-- What is printed of a run of a scenario.
use Rattle.std.proofs.Common.{◌≡◌, ℕ, false, List, [], ◌++◌, ap, map, ◌∙◌}
use Rattle.std.proofs.lemmas.Result.{IfOk-weaker}
use Rattle.m2_scenario.specs.m2_dispatch.Heard.{heard_by}
use Rattle.m2_scenario.specs.declared.link.Link.{Link}
use Rattle.m2_scenario.specs.declared.node.Node.{Node}
use Rattle.m2_scenario.specs.Draft.{Draft, IsMade}
use Rattle.m2_scenario.specs.Report.{heard_in, report_of}
use Rattle.m2_exact.specs.m2_script.Outcome.{all_heard, left_in}
use Rattle.m2_cli.specs.declared.printout.Printout.{Printout}
use Rattle.m2_cli.specs.Printout.{IsPrintout, IsPrintoutBy}
use Rattle.m2_cli.specs.Verdict.{RunComesTo, status_by_count}
use Rattle.m2_cli.proofs.Made.{run_of_made}
use Rattle.m2_cli.proofs.printout.prepare_scenario.Goals as goal

pub returns : goal.returns
returns c =
    let s = c.args.scenario in
    let is = c.in_ok-logs.ensures in
    let logs = c.in_ok-logs.field-0.logs.items in
    let text = c.report.new.out.bytes in
    IfOk-weaker c.with_line.result
    (λ (p : Printout). IsPrintout [] p c.status_by_count.result text)
    (λ (p : Printout). (d : Draft) → IsMade s d → IsPrintoutBy [] (RunComesTo d) p)
    (λ (p : Printout) (h : IsPrintout [] p c.status_by_count.result text) (d : Draft) (made : IsMade s d).
    let its_run = run_of_made d _ _ _ _ made.nodes made.links made.lines c.requires is in
    let count : p.status ≡ status_by_count (left_in heard_by d.links is.last) =
    h.status ∙ c.status_by_count.ensures ∙ ap status_by_count (is.left ∙ ap (λ (ls : List Link). left_in heard_by ls is.last) made.links) in
    let told : p.report.bytes ≡ report_of false d.nodes (all_heard heard_by is.last) =
    h.report ∙ c.in_ok-report.ensures.ok ∙ ap (λ (t : List ℕ). t ++ report_of false s.nodes.items (map heard_in logs)) c.empty-text.ensures
    ∙ ap (λ (ns : List Node). report_of false ns (map heard_in logs)) made.nodes
    ∙ ap (report_of false d.nodes) is.logs in
    record {
      comes = record {
        last = is.last;
        run = its_run;
        counted = count;
        report = told;
        only = λ other is_other.
            let same = c.scenarios_have_one_run.ensures d is.last other its_run is_other in
            (count ∙ ap status_by_count same.left, told ∙ ap (report_of false d.nodes) same.heard);
      };
      line = h.line;
    })
    c.with_line.ensures
