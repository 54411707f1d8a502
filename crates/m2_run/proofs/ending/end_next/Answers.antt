-- It is the last one, and the next number is behind the threads of all that it has.
use Rattle.std.proofs.Common.{◌≡◌, ◌∙◌, ◌+◌, ap, arith, length}
use Rattle.m2_run.specs.Opened.{OpenedNow}
use Rattle.m2_run.proofs.ending.end_next.Goals as goal

pub returns-clause-ends : goal.returns-clause-ends
returns-clause-ends g c =
    let told = c.in_ok-ended.ensures in
    let next : c.in-Some.behind ≡ c.args.number + length c.ended.inside.rights.gets.items = omega (arith, c.in-Some.ensures, c.len.ensures) in
    record {
      ended = c.in_ok-ended.ended;
      last = c.push_reserved.ensures.items;
      next = next ∙ ap (λ (o : OpenedNow). c.args.number + length o.gets) c.ended.view_is;
      is = told.end;
      weighs = told.weighs;
      rights = told.rights;
    }
