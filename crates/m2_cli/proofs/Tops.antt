-- What a run leaves, by what its work came to.
use Rattle.std.proofs.Common.{ℕ, ◌==◌, Bool, true, false, cond, List, Result, Ok, Err, sym, subst, inl, inr}
use Rattle.m2_scenario.specs.m2_dispatch.Heard.{heard_by}
use Rattle.m2_cli.specs.declared.printout.Printout.{Printout}
use Rattle.m2_cli.specs.declared.status.Status.{Status}
use Rattle.m2_cli.specs.declared.status.Status.TheVariants as status
use Rattle.m2_cli.specs.Edge.{Edge, IsCause, IsReadWhole}
use Rattle.m2_cli.specs.Print.{Delivers, PrintsReport}
use Rattle.m2_cli.specs.Printout.{IsPrintoutOf}
use Rattle.m2_cli.specs.Top.{RunsFile}
use Rattle.m2_cli.specs.Verdict.{BadAt, ComesTo, ReadingComesTo, scenario_in}
use Rattle.m2_scenario.specs.Draft.{Draft}
use Rattle.m2_exact.specs.m2_script.Outcome.{left_in}

-- all of a text was written, to which the bytes come
pub record IsWritten (file text : List ℕ) (before after : Edge) : Type 0 where
  pub read : IsReadWhole file before.source after.source
  pub printed : Delivers text before.out after.out

-- by the count of what is left
left_runs : (b : Bool) (n : ℕ) (file text : List ℕ) (before after : Edge) → IsWritten file text before after
    → ComesTo after.source.given (cond b status.Done (status.Left n)) text → RunsFile file (cond b status.Done (status.Left n)) before after
left_runs true n file text before after w c = record { read = w.read; text = text; comes = c; printed = w.printed }
left_runs false n file text before after w c = record { read = w.read; text = text; comes = c; printed = w.printed }

-- by what was read
read_runs : (read : Result Draft BadAt) (work : Status) (file text : List ℕ) (before after : Edge) → IsWritten file text before after
    → ReadingComesTo read work text → ComesTo after.source.given work text → RunsFile file work before after
read_runs (Ok d) work file text before after w c all =
    let n = left_in heard_by d.links c.last in
    let P : Status → Type 0 = λ x. RunsFile file x before after in
    let Q : Status → Type 0 = λ x. ComesTo after.source.given x text in
    subst P (sym c.counted) (left_runs (n == 0) n file text before after w (subst Q c.counted all))
read_runs (Err bad) work file text before after w c all =
    let P : Status → Type 0 = λ x. RunsFile file x before after in
    let Q : Status → Type 0 = λ x. ComesTo after.source.given x text in
    subst P (sym c.line) (record { read = w.read; text = text; comes = subst Q c.line all; printed = w.printed })

-- what runs, however printing went
pub runs_printed : (p : Printout) (work : Status) (file : List ℕ) (before after : Edge) → IsPrintoutOf p file before.source after.source
    → PrintsReport p work before.out after.out → RunsFile file work before after
runs_printed p work file before after o (inl (same, d)) =
    let P : Status → Type 0 = λ x. RunsFile file x before after in
    let text = p.report.bytes in
    subst P (sym same)
    (read_runs (scenario_in after.source.given) p.status file text before after (record { read = o.read; printed = d }) o.printout.comes o.printout.comes)
runs_printed p work file before after o (inr (same, failed, some)) =
    let P : Status → Type 0 = λ x. RunsFile file x before after in
    subst P (sym same)
    (record { read = o.read; failed = failed; status = p.status; text = p.report.bytes; comes = o.printout.comes; printed = some })

-- its cause
pub run_caused : (work : Status) (file : List ℕ) (before after : Edge) → RunsFile file work before after → IsCause work before after
run_caused status.Done file before after h = tt
run_caused status.Usage file before after h = tt
run_caused (status.BadScenario line kind) file before after h = tt
run_caused status.ReadFault file before after h = h.0
run_caused status.WriteFault file before after h = inl h.failed
run_caused (status.Left count) file before after h = tt
run_caused status.NoMemory file before after h = tt
run_caused (status.BadFrames place fault) file before after h = tt
run_caused (status.BindFault node) file before after h = tt
run_caused (status.Unfit socket opener place why) file before after h = tt
run_caused (status.Stalled left) file before after h = tt
