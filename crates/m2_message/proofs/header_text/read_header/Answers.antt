use Rattle.std.proofs.Common.{◌≡◌, ◌+◌, length, sym, ap, ◌∙◌, arith, length-append}
use Rattle.m2_message.specs.HeaderText.{header_text}
use Rattle.m2_message.proofs.Headers.{length-header_text}
use Rattle.m2_message.proofs.header_text.read_header.Goals as goal

pub returns-then-left-gt0 : goal.returns-then-left-gt0
returns-then-left-gt0 c whole =
    let text = header_text c.in_ok-header.header in
    let rest = c.read_fields.new.r in
    let split : length c.args.bytes.now ≡ length text + length rest = ap length (sym c.new-r.ensures ∙ c.in_ok-header.ensures.1) ∙ length-append text rest in
    omega (arith, split, whole, length-header_text c.in_ok-header.header, c.left.ensures, c.if-left-gt0.true)
