use Rattle.m2_shared.specs.Gates.{places}
use Rattle.m2_record.proofs.record.Record.take_and_count.Goals as goal

pub returns-clause-owned : goal.returns-clause-owned
returns-clause-owned g c = c.count_resumption.ensures.owned (places c.args.throttles.now) c.take_over.ensures.owned
