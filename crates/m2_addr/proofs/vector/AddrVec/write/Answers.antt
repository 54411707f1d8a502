use Rattle.m2_addr.proofs.Addresses.{vector_spelled}
use Rattle.m2_addr.proofs.vector.AddrVec.write.Goals as goal

pub returns-in_err-reserve-clause-spelled : goal.returns-in_err-reserve-clause-spelled
returns-in_err-reserve-clause-spelled c = vector_spelled c.args.self.now c.size.ensures.kept

pub returns-clause-spelled : goal.returns-clause-spelled
returns-clause-spelled c = vector_spelled c.args.self.now c.size.ensures.kept
