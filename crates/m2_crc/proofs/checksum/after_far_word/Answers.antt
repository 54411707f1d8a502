use Rattle.std.proofs.Common.{arith, ap, ◌∙◌, ◌<◌, ◌^◌}
use Rattle.std.proofs.lemmas.Nat.{xor_lt}
use Rattle.m2_crc.specs.Crc.{shifted_by}
use Rattle.m2_crc.proofs.EightBytes.{by_far_tables, eight_bytes}
use Rattle.m2_crc.proofs.checksum.after_far_word.Goals as goal

pub returns : goal.returns
returns c =
    let state : c.args.state < 2 ^ 64 = omega (arith, c.ranges.state.fits) in
    by_far_tables _ _ _ _ _ _ _ _ _ _ _ _ _ _ _ _ _ (xor_lt 64 _ _ c.from_le_bytes.type_inv state)
    c.lowest_byte-5.ensures.value c.lowest_byte-6.ensures.value c.lowest_byte-7.ensures.value c.lowest_byte-8.ensures.value c.lowest_byte.ensures.value c.lowest_byte-2.ensures.value c.lowest_byte-3.ensures.value c.lowest_byte-4.ensures.value
    c.moved_out-5.ensures c.moved_out-6.ensures c.moved_out-7.ensures c.moved_out-8.ensures c.moved_out.ensures c.moved_out-2.ensures c.moved_out-3.ensures c.moved_out-4.ensures
    ∙ ap (shifted_by 64) (eight_bytes c.args.bytes.now c.args.state c.from_le_bytes.result c.told-bytes c.fits-bytes c.from_le_bytes.ensures)
