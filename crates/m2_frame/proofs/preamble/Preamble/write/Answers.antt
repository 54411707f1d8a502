use Rattle.m2_frame.specs.Preamble.{preamble_text}
use Rattle.m2_frame.proofs.preamble.Preamble.write.Goals as goal

pub returns : goal.returns
unfolding preamble_text
returns c = rw (c.copy_from_slice-2.ensures.after, c.copy_from_slice.ensures.after, c.to_le_bytes.ensures, c.crc32c.ensures, c.body_of-body.ensures)
