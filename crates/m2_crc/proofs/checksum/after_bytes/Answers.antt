use Rattle.std.proofs.Common.{◌∙◌, ap, sym, get_or, arith}
use Rattle.std.proofs.lemmas.List.Sums.{fold_more}
use Rattle.std.specs.Prelude.{bit_xor, ◌/◌}
use Rattle.m2_crc.specs.Crc.{after_byte}
use Rattle.m2_crc.proofs.WholeBytes.{after_byte-split}
use Rattle.m2_crc.proofs.checksum.after_bytes.Goals as goal

pub loop-byte-preserved : goal.loop-byte-preserved
loop-byte-preserved c =
    let b = get_or c.args.bytes.now c.loop-byte.byte-index 0 in
    ap (λ x. bit_xor x (c.loop-byte.state / 256)) c.moved_out.ensures
    ∙ sym (after_byte-split c.loop-byte.state b (omega (arith, c.type_inv.bytes c.loop-byte.byte-index)))
    ∙ ap (λ s. after_byte s b) c.loop-byte.invariant
    ∙ sym (fold_more after_byte c.args.seed c.args.bytes.now c.loop-byte.byte-index 0 c.loop-byte-test.true)
