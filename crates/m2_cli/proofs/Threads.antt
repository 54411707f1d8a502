-- What `run FILE` leaves, by what its work came to.
use Rattle.std.proofs.Common.{ℕ, ◌==◌, Bool, true, false, cond, List, Result, Ok, Err, sym, subst, inl, inr}
use Rattle.m2_fabric.specs.Fabric.{SeenFabric}
use Rattle.m2_scenario.specs.Draft.{Draft}
use Rattle.m2_cli.specs.declared.printout.Printout.{Printout}
use Rattle.m2_cli.specs.declared.status.Status.{Status}
use Rattle.m2_cli.specs.declared.status.Status.TheVariants as status
use Rattle.m2_cli.specs.Edge.{Edge, IsCause, IsReadWhole}
use Rattle.m2_cli.specs.Print.{Delivers, PrintsReport}
use Rattle.m2_cli.specs.Threads.{IsPlayedToEnd, IsThreadsPrintout, PlayComesTo, RunsThreads, ThreadsComeTo, ThreadsReadTo, threads_in}
use Rattle.m2_cli.specs.Verdict.{BadAt}

module _ (may_give : ℕ → Type 0) (old new : SeenFabric) (file : List ℕ) (before after : Edge) where
  -- all of a text was written, to which the bytes come
  record IsWritten (text : List ℕ) : Type 0 where
    pub read : IsReadWhole file before.source after.source
    pub printed : Delivers text before.out after.out

  abbrev Comes : Status → List ℕ → Type 0
  Comes work text = ThreadsComeTo may_give old new after.source.given work text

  abbrev Runs : Status → Type 0
  Runs work = RunsThreads may_give old new file work before after

  to_end : (work : Status) (text : List ℕ) → IsWritten text → Comes work text → IsPlayedToEnd may_give old new file work before after
  to_end work text w c = record { read = w.read; text = text; comes = c; printed = w.printed }

  by_left : (b : Bool) (left : ℕ) (text : List ℕ) → IsWritten text → Comes (cond b status.Done (status.Stalled left)) text → Runs (cond b status.Done (status.Stalled left))
  by_left true left text w c = to_end status.Done text w c
  by_left false left text w c = to_end (status.Stalled left) text w c

  played : (d : Draft) (work : Status) (text : List ℕ) → IsWritten text → PlayComesTo may_give old new d work text → Comes work text → Runs work
  played d work text w (inl ran) all =
      let n = ran.outcome.left in
      subst Runs (sym ran.counted) (by_left (n == 0) n text w (subst (λ x. Comes x text) ran.counted all))
  played d work text w (inr (inl it)) all = subst Runs (sym it.told) (to_end (status.BindFault it.node) text w (subst (λ x. Comes x text) it.told all))
  played d work text w (inr (inr it)) all =
      let u = it.byte in
      subst Runs (sym it.told) (to_end (status.Unfit u.socket u.opener u.place u.why) text w (subst (λ x. Comes x text) it.told all))

  read_to : (read : Result Draft BadAt) (work : Status) (text : List ℕ) → IsWritten text → ThreadsReadTo may_give old new read work text → Comes work text → Runs work
  read_to (Ok d) work text w c all = played d work text w c all
  read_to (Err bad) work text w c all =
      subst Runs (sym c.0.line) (to_end (status.BadScenario bad.line bad.kind) text w (subst (λ x. Comes x text) c.0.line all))

  -- what runs, however printing went
  pub threads_printed : (p : Printout) (work : Status) → IsThreadsPrintout p may_give old new file before.source after.source → PrintsReport p work before.out after.out → Runs work
  threads_printed p work o (inl (same, d)) =
      let text = p.report.bytes in
      subst Runs (sym same) (read_to (threads_in after.source.given) p.status text (record { read = o.read; printed = d }) o.printout.comes o.printout.comes)
  threads_printed p work o (inr (same, failed, some)) =
      subst Runs (sym same) (record { read = o.read; failed = failed; work = p.status; text = p.report.bytes; comes = o.printout.comes; printed = some })

  -- its cause
  pub threads_caused : (work : Status) → Runs work → IsCause work before after
  threads_caused status.Done h = tt
  threads_caused status.Usage h = tt
  threads_caused (status.BadScenario line kind) h = tt
  threads_caused status.ReadFault h = h.0
  threads_caused status.WriteFault h = inl h.failed
  threads_caused (status.BindFault node) h = tt
  threads_caused (status.Unfit socket opener place why) h = tt
  threads_caused (status.Stalled left) h = tt
  threads_caused (status.Left count) h = tt
  threads_caused status.NoMemory h = tt
  threads_caused (status.BadFrames place fault) h = tt
