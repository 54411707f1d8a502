-- What is printed of a load.
use Rattle.std.proofs.Common.{◌≡◌, ℕ, List, [], length, sum_by, ap, ◌∙◌}
use Rattle.std.proofs.lemmas.Result.{IfOk-weaker}
use Rattle.m2_cli.specs.declared.printout.Printout.{Printout}
use Rattle.m2_scenario.specs.Generated.{generated}
use Rattle.m2_scenario.specs.m2_dispatch.Heard.{Heard}
use Rattle.m2_cli.specs.Load.{LoadComesTo, dispatched_in, load_left, load_lines}
use Rattle.m2_cli.specs.Printout.{IsPrintout, IsPrintoutBy}
use Rattle.m2_cli.specs.Verdict.{status_by_count}
use Rattle.m2_cli.proofs.load.prepare_load.Goals as goal

pub returns : goal.returns
returns c =
    let is = c.in_ok-counts.ensures in
    let counts = c.in_ok-counts.counts in
    let posts = c.args.posts in
    IfOk-weaker c.with_line.result
    (λ (p : Printout). IsPrintout [] p c.status_by_count.result c.in_ok-text.text.bytes)
    (λ (p : Printout). IsPrintoutBy [] (LoadComesTo posts c.args.seed) p)
    (λ (p : Printout) (h : IsPrintout [] p c.status_by_count.result c.in_ok-text.text.bytes).
    let count : p.status ≡ status_by_count (load_left posts c.args.seed is.last) = h.status ∙ c.status_by_count.ensures ∙ ap status_by_count is.left in
    let told : p.report.bytes ≡ load_lines posts (dispatched_in is.last) (load_left posts c.args.seed is.last) =
    h.report ∙ c.in_ok-text.ensures ∙ ap (λ (n : ℕ). load_lines n counts.dispatched counts.left) c.from.ensures
    ∙ ap (λ (n : ℕ). load_lines posts n counts.left) is.dispatched ∙ ap (λ (n : ℕ). load_lines posts (dispatched_in is.last) n) is.left in
    record {
      comes = record {
        last = is.last;
        run = is.run;
        counted = count;
        lines = told;
        only = λ other is_other.
            let same = c.scenarios_have_one_run.ensures (generated posts c.args.seed) is.last other is.run is_other in (
              count ∙ ap status_by_count same.left,
              told ∙ ap (λ (hs : List (List Heard)). load_lines posts (sum_by length hs) (load_left posts c.args.seed is.last)) same.heard
                  ∙ ap (λ (n : ℕ). load_lines posts (dispatched_in other) n) same.left,
            );
      };
      line = h.line;
    })
    c.with_line.ensures
