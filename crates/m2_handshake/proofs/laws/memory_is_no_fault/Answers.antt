use Rattle.m2_handshake.proofs.Memory.{memory_apart}
use Rattle.m2_handshake.proofs.laws.memory_is_no_fault.Goals as goal

pub returns : goal.returns
returns c = memory_apart
