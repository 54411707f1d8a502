use Rattle.m2_frame.proofs.Memory.{Holds-begins}
use Rattle.m2_frame.proofs.decoder.Decoder.new.Goals as goal

pub invariant_of-result : goal.invariant_of-result
invariant_of-result c = rw c.new.ensures.items (Holds-begins c.new.result.spare)
