use Rattle.m2_message.specs.HeaderText.{header_text}
use Rattle.m2_message.proofs.header_text.write_header.Goals as goal

-- each append adds its field to what the ones before it left
pub returns : goal.returns
unfolding header_text
returns c = rw (
  c.in_ok-put_u16-6.ensures.0,
  c.in_ok-put_u16-5.ensures.0,
  c.in_ok-put_u8.ensures.0,
  c.in_ok-put_u64-3.ensures.0,
  c.in_ok-put_u16-4.ensures.0,
  c.in_ok-put_u32.ensures.0,
  c.in_ok-put_u16-3.ensures.0,
  c.in_ok-put_u16-2.ensures.0,
  c.in_ok-put_u16.ensures.0,
  c.in_ok-put_u64-2.ensures.0,
  c.in_ok-put_u64.ensures.0,
  c.in_ok-reserve.ensures.bytes,
  c.empty-text.ensures,
)
