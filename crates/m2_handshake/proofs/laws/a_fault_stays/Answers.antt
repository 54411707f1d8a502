use Rattle.m2_handshake.proofs.Faults.{fault_stays}
use Rattle.m2_handshake.proofs.laws.a_fault_stays.Goals as goal

pub returns : goal.returns
returns c = fault_stays
