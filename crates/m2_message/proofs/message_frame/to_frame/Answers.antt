use Rattle.std.proofs.Common.{length, ◌≡◌, ap, ◌∙◌, arith}
use Rattle.m2_message.proofs.Headers.{length-header_text}
use Rattle.m2_message.proofs.Carried.{MESSAGE-fits}
use Rattle.m2_message.proofs.message_frame.to_frame.Goals as goal

pub returns-clause-fits : goal.returns-clause-fits
returns-clause-fits c =
    let header : length c.in_ok-write_header.field-0.bytes ≡ 41 = ap length c.in_ok-write_header.ensures ∙ length-header_text c.numbered-header.result in
    rw c.number.ensures (MESSAGE-fits _ _ _ _
    (omega (arith, header))
    (omega (arith, ap length (c.in_ok-of.ensures ∙ c.as_slice.ensures), c.requires.front))
    (omega (arith, ap length (c.in_ok-of-2.ensures ∙ c.as_slice-2.ensures), c.requires.middle))
    (omega (arith, ap length (c.in_ok-of-3.ensures ∙ c.as_slice-3.ensures), c.requires.tail)))
