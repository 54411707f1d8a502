-- None of the records so far has judged.
use Rattle.std.proofs.Common.{◌≡◌, ◌-◌, length}
use Rattle.m2_run_trace.specs.News.{judgement_from}
use Rattle.m2_run_trace.proofs.news.judgement_on.Given as goal

abbrev pub invariant-records : goal.invariant-records
invariant-records l =
    let rs = l.teller.center.records in judgement_from l.socket l.journals rs l.place (length rs - l.place) ≡ judgement_from l.socket l.journals rs 0 (length rs)
