use Rattle.std.proofs.Common.{◌≡◌, ℕ, ◌≤◌, List, length, ap, arith, subst, ◌∙◌}
use Rattle.std.specs.Prelude.{take}
use Rattle.std.specs.List.{All, AllByRecursion}
use Rattle.std.proofs.Math.Seq.{take-length}
use Rattle.std.proofs.lemmas.List.Elements.{All-more, recursion_from_All}
use Rattle.m2_record.specs.IsRecord.{IsRecord}
use Rattle.m2_record.specs.RecordNow.{RecordNow}
use Rattle.m2_turn.proofs.half_turn.are_records.Goals as goal

all_of_them : (rs : List RecordNow) (n : ℕ) → length rs ≤ n → n ≤ length rs → All IsRecord (take n rs) → AllByRecursion IsRecord rs
all_of_them rs n least most all = recursion_from_All IsRecord rs (subst (All IsRecord) (ap (λ i. take i rs) same ∙ take-length rs) all)
  where
    same : n ≡ length rs
    same = omega (arith, least, most)

pub records-preserved : goal.records-preserved
records-preserved g c = All-more IsRecord c.args.records.now c.records.side-index c.side-item.result c.records-test.true c.records.invariant (subst IsRecord c.side-item.is c.is_record.ensures)

pub returns : goal.returns
returns g c = all_of_them c.args.records.now c.records.side-index c.records-test.false c.records.auto.side-index-end c.records.invariant
