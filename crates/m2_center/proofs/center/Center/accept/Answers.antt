-- What a center keeps behind its accepts.
use Rattle.std.proofs.Common.{ap, subst}
use Rattle.std.specs.List.{AllByRecursion}
use Rattle.m2_record.specs.IsRecord.{IsRecord}
use Rattle.m2_center.proofs.Stages.{accepts}
use Rattle.m2_center.proofs.center.Center.accept.Goals as goal

pub invariant_of-self : goal.invariant_of-self
invariant_of-self g c =
    let was = c.self.invariant in (
      record {
        consistent = c.accept_all.ensures.consistent _ c.self.inside.records.items (subst (AllByRecursion IsRecord) c.as_slice.ensures.value c.are_records.ensures) was.0.consistent;
        out = was.0.out;
        queued = was.0.queued;
      },
      was.1,
      c.accept_all.ensures.room,
      was.3,
    )

pub returns : goal.returns
returns g c = record {
  accepts = (c.accept_all.result, c.accepted_so.ensures, accepts _ _ c.self.view_is c.accept_all.result _ _ c.accept_all.ensures.accepts);
  queued = ap (λ v. v.queued) c.self.view_is;
}
