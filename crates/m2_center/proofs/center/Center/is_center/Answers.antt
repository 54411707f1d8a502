-- What a center keeps.
use Rattle.std.proofs.Common.{subst}
use Rattle.std.specs.List.{AllByRecursion}
use Rattle.m2_center.specs.Center.{IsCenter}
use Rattle.m2_record.specs.IsRecord.{IsRecord}
use Rattle.m2_turn.specs.Halves.{AreWhole, halves_of}
use Rattle.m2_center.proofs.center.Center.is_center.Goals as goal

pub returns : goal.returns
returns g c = record {
  center = subst IsCenter c.self.view_is c.self.invariant.0;
  records = subst (λ v. AllByRecursion IsRecord v.records) c.self.view_is (subst (AllByRecursion IsRecord) c.as_slice.ensures.value c.are_records.ensures);
  halves = subst (λ v. AreWhole v.halves) c.self.view_is (subst (λ l. AreWhole (halves_of c.self.inside.halves l)) c.as_slice-2.ensures.value c.are_whole.ensures);
}
