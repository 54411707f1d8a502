-- With what is said of the records that are left it is all that is said.
use Rattle.std.proofs.Common.{◌≡◌, ◌++◌, ◌-◌, length}
use Rattle.m2_run_trace.specs.News.{journals_said}
use Rattle.m2_run_trace.proofs.news.put_journals.Given as goal

abbrev pub invariant-records : goal.invariant-records
invariant-records l =
    let count = length l.teller.center.records in
    record {
      text : l.out.bytes ++ (journals_said l.teller l.place (count - l.place) l.told).text ≡ l.fn.out.bytes ++ (journals_said l.teller 0 count l.fn.told).text;
      told : (journals_said l.teller l.place (count - l.place) l.told).told ≡ (journals_said l.teller 0 count l.fn.told).told;
    }
