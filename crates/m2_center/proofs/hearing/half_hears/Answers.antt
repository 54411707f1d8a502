use Rattle.std.proofs.Common.{rules}
use Rattle.m2_turn.specs.Halves.{halves_of}
use Rattle.m2_center.proofs.EndsHear.{heard_ends, heard_stays}
use Rattle.m2_center.proofs.hearing.half_hears.Goals as goal

pub returns-then-has-clause-ok : goal.returns-then-has-clause-ok
returns-then-has-clause-ok g c = search rules

pub returns-then-has-clause-err : goal.returns-then-has-clause-err
returns-then-has-clause-err g c = search rules

pub returns-then-has-clause-consistent : goal.returns-then-has-clause-consistent
returns-then-has-clause-consistent g c supply entity made records was =
    heard_stays c.hear.result c.args.id.now c.args.news c.args.bytes.now (halves_of c.args.halves.now c.args.loose.now) (halves_of c.hear.new.self c.args.loose.now)
    (returns-then-has-clause-ok g c) (returns-then-has-clause-err g c) supply entity made records was

pub returns-else-has-clause-ok : goal.returns-else-has-clause-ok
returns-else-has-clause-ok g c = search rules

pub returns-else-has-clause-err : goal.returns-else-has-clause-err
returns-else-has-clause-err g c = search rules

pub returns-else-has-clause-consistent : goal.returns-else-has-clause-consistent
returns-else-has-clause-consistent g c supply entity made records was =
    heard_stays c.loose_hears.result c.args.id.now c.args.news c.args.bytes.now (halves_of c.args.halves.now c.args.loose.now) (halves_of c.args.halves.now c.loose_hears.new.loose)
    (returns-else-has-clause-ok g c) (returns-else-has-clause-err g c) supply entity made records was

pub returns-then-has-clause-ends : goal.returns-then-has-clause-ends
returns-then-has-clause-ends g c =
    heard_ends c.hear.result c.args.id.now c.args.news c.args.bytes.now (halves_of c.args.halves.now c.args.loose.now) (halves_of c.hear.new.self c.args.loose.now) (returns-then-has-clause-ok g c)

pub returns-else-has-clause-ends : goal.returns-else-has-clause-ends
returns-else-has-clause-ends g c =
    heard_ends c.loose_hears.result c.args.id.now c.args.news c.args.bytes.now (halves_of c.args.halves.now c.args.loose.now) (halves_of c.args.halves.now c.loose_hears.new.loose) (returns-else-has-clause-ok g c)
