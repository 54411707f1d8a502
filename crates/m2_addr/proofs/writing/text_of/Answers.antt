use Rattle.std.proofs.Common.{arith}
use Rattle.m2_addr.proofs.Addresses.{ipv4_spelled}
use Rattle.m2_addr.proofs.writing.text_of.Goals as goal

pub returns-clause-spelled : goal.returns-clause-spelled
returns-clause-spelled c = ipv4_spelled c.args.a (omega arith) (omega arith) (omega arith) (omega arith)
