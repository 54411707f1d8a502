use Rattle.std.proofs.Common.{arith}
use Rattle.m2_message.specs.HeaderText.{header_text}
use Rattle.m2_message.proofs.Headers.{byte_is}
use Rattle.m2_message.proofs.header_text.read_fields.Goals as goal

pub returns : goal.returns
unfolding header_text
returns c = (
  record {
    seq = omega arith;
    tid = omega arith;
    kind = omega arith;
    priority = omega arith;
    version = omega arith;
    pre_padding = omega arith;
    data_off = omega arith;
    ack_seq = omega arith;
    flags = omega arith;
    compat = omega arith;
    reserved = omega arith;
  },
  rw (
    c.in_ok-seq.ensures.written,
    c.in_ok-tid.ensures.written,
    c.in_ok-kind.ensures.written,
    c.in_ok-priority.ensures.written,
    c.in_ok-version.ensures.written,
    c.in_ok-pre_padding.ensures.written,
    c.in_ok-data_off.ensures.written,
    c.in_ok-ack_seq.ensures.written,
    c.in_ok-flags.ensures.written,
    byte_is c.in_ok-flags.flags (omega arith),
    c.in_ok-compat.ensures.written,
    c.in_ok-reserved.ensures.written,
  ),
)
