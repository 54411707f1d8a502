-- One entry more.
use Rattle.std.proofs.Common.{slice_get, sym, ◌∙◌}
use Rattle.m2_run_trace.specs.Entries.{entry_lines}
use Rattle.m2_run_trace.proofs.Lines.{next_calls, next_entry, one_done}
use Rattle.m2_run_trace.proofs.entries.put_entries.Goals as goal

pub entries-preserved : goal.entries-preserved
entries-preserved c =
    let l = c.entries in
    let t = c.args.teller.now in
    let m = c.args.marked.now in
    let js = m.kept.journal in
    record {
      text = rw c.in_ok-put_entry.ensures.calls
          (one_done c.put_entry.new.out.bytes l.out.bytes (entry_lines t m l.at l.calls (slice_get js l.at)) _ _ _ c.in_ok-put_entry.ensures.text
          (next_entry t m l.at c.args.to l.calls c.entries-test.true) l.invariant.text);
      calls = rw c.in_ok-put_entry.ensures.calls (sym (next_calls js l.at c.args.to l.calls c.entries-test.true) ∙ l.invariant.calls);
    }
