-- What is left to tell is what comes next, and what is left behind it.
use Rattle.std.proofs.Common.{◌≡◌, ℕ, ◌+◌, ◌-◌, ◌<◌, suc, false, List, ◌++◌, Some, None, drop, refl, sym, ap, ◌∙◌, append_assoc, arith}
use Rattle.std.specs.List.{slice_get}
use Rattle.std.specs.Option.{is_some}
use Rattle.std.specs.Prelude.{Option}
use Rattle.m2_dispatch.specs.declared.logged.Logged.{Logged}
use Rattle.m2_fabric.specs.declared.socket.SocketId.{SocketId}
use Rattle.m2_fabric.specs.Log.{Log}
use Rattle.m2_journal.specs.declared.entry.Entry.{Entry}
use Rattle.m2_promise.specs.m2_script.m2_record.RecordNow.{RecordNow}
use Rattle.m2_trace.specs.Words.{Text}
use Rattle.m2_run_trace.specs.declared.news.Judgement.{Judgement}
use Rattle.m2_run_trace.specs.Dials.{MarkedNow}
use Rattle.m2_run_trace.specs.Ends.{run_line, run_lines}
use Rattle.m2_run_trace.specs.Entries.{calls_behind, calls_left, entry_lines, lines_of}
use Rattle.m2_run_trace.specs.News.{ToldNow, and_then, journal_length, journal_up_to, journals_said, judgement_at, judgement_from, or_else}
use Rattle.m2_run_trace.specs.declared.standing.SessionMark.{SessionMark}
use Rattle.m2_run_trace.specs.Standing.{changed_line, changed_lines}
use Rattle.m2_run_trace.specs.Telling.{Telling}

-- where one part more is told, the rest completes the whole as before
pub one_done : (new here first left rest total : Text) → new ≡ here ++ first → left ≡ first ++ rest → here ++ left ≡ total → new ++ rest ≡ total
one_done new here first left rest total said splits all =
    ap (λ (t : Text). t ++ rest) said ∙ append_assoc here first rest ∙ ap (λ (t : Text). here ++ t) (sym splits) ∙ all

one_less : (at to : ℕ) → at < to → to - at ≡ suc (to - (at + 1))
one_less at to h = omega arith

pub next_run : (t : Telling) (s : SocketId) (log : Log) (at to : ℕ) → at < to →
    run_lines t s log at (to - at) ≡ run_line t s log.put (drop at log.runs) ++ run_lines t s log (at + 1) (to - (at + 1))
next_run t s log at to h = ap (run_lines t s log at) (one_less at to h)

pub next_entry : (t : Telling) (m : MarkedNow) (at to : ℕ) (calls : List Logged) → at < to →
    lines_of t m at (to - at) calls ≡ entry_lines t m at calls (slice_get m.kept.journal at) ++ lines_of t m (at + 1) (to - (at + 1)) (calls_behind calls (slice_get m.kept.journal at))
next_entry t m at to calls h = ap (λ (n : ℕ). lines_of t m at n calls) (one_less at to h)

pub next_calls : (js : List Entry) (at to : ℕ) (calls : List Logged) → at < to →
    calls_left js at (to - at) calls ≡ calls_left js (at + 1) (to - (at + 1)) (calls_behind calls (slice_get js at))
next_calls js at to calls h = ap (λ (n : ℕ). calls_left js at n calls) (one_less at to h)

none_is : (found : Option Judgement) → is_some found ≡ false → found ≡ None
none_is None h = refl
none_is (Some j) h = cc

-- where the record at a place hasn't judged, those behind it decide
pub judged_later : (s : SocketId) (ns : List ℕ) (rs : List RecordNow) (at to : ℕ) (here total : Option Judgement) → at < to →
    here ≡ judgement_at s at (slice_get ns at) (slice_get rs at) → is_some here ≡ false →
    judgement_from s ns rs at (to - at) ≡ total → judgement_from s ns rs (at + 1) (to - (at + 1)) ≡ total
judged_later s ns rs at to here total h is none all =
    let later = judgement_from s ns rs (at + 1) (to - (at + 1)) in
    sym (ap (λ (j : Option Judgement). or_else j later) (sym is ∙ none_is here none)) ∙ sym (ap (judgement_from s ns rs at) (one_less at to h)) ∙ all

pub next_journal : (t : Telling) (at to : ℕ) (told : ToldNow) → at < to →
    journals_said t at (to - at) told
    ≡ and_then (journal_up_to t at (journal_length (slice_get t.center.records at)) told) (journals_said t (at + 1) (to - (at + 1)))
next_journal t at to told h = ap (λ (n : ℕ). journals_said t at n told) (one_less at to h)

pub next_standing : (t : Telling) (olds : List SessionMark) (at to : ℕ) → at < to →
    changed_lines t olds at (to - at) ≡ changed_line t (slice_get olds at) (slice_get t.center.records at) ++ changed_lines t olds (at + 1) (to - (at + 1))
next_standing t olds at to h = ap (changed_lines t olds at) (one_less at to h)
