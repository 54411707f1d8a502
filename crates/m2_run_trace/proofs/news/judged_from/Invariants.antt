-- With the entries that are left it is the last of all.
use Rattle.std.proofs.Common.{◌≡◌, None, drop}
use Rattle.m2_run_trace.specs.News.{judged_by}
use Rattle.m2_run_trace.proofs.news.judged_from.Given as goal

abbrev pub invariant-entries : goal.invariant-entries
invariant-entries l = judged_by l.socket (drop l.place l.journal.items) l.place l.found ≡ judged_by l.socket (drop l.from l.journal.items) l.from None
