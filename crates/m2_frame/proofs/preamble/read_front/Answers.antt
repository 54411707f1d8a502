use Rattle.std.proofs.Common.{arith, length-take}
use Rattle.m2_frame.proofs.preamble.read_front.Goals as goal

pub slice_bounds-crc32c-end : goal.slice_bounds-crc32c-end
slice_bounds-crc32c-end c = omega (arith, length-take 28 c.args.text.now)
