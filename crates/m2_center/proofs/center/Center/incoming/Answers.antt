-- What a center keeps where a socket comes to its port.
use Rattle.std.proofs.Common.{subst}
use Rattle.std.specs.List.{AllByRecursion}
use Rattle.m2_record.specs.IsRecord.{IsRecord}
use Rattle.m2_center.proofs.Reached.{came_center, came_err, came_ok, came_rest, known_made}
use Rattle.m2_center.proofs.center.Center.incoming.Goals as goal

pub invariant_of-self : goal.invariant_of-self
invariant_of-self g c =
    let was = c.self.invariant in (
      came_center _ _ c.self.view_is c.incoming.result c.args.id _ c.incoming.ensures.ok c.incoming.ensures.err was.0,
      was.1,
      was.2,
      was.3,
    )

pub returns : goal.returns
returns g c = record {
  ok = came_ok _ _ c.self.view_is c.incoming.result c.args.id _ c.incoming.ensures.ok c.incoming.ensures.err;
  err = came_err _ _ c.self.view_is c.incoming.result c.args.id _ c.incoming.ensures.ok c.incoming.ensures.err;
  rest = came_rest _ _ c.self.view_is c.incoming.result c.args.id _ c.incoming.ensures.ok c.incoming.ensures.err;
  made = known_made _ _ c.self.view_is c.args.id (subst (AllByRecursion IsRecord) c.as_slice.ensures.value c.are_records.ensures) c.self.invariant.0;
}
