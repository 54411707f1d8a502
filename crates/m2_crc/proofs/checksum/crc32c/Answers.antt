use Rattle.std.proofs.Common.{◌∙◌, ap, sym, length, ◌/◌, ◌++◌}
use Rattle.std.specs.List.{concat}
use Rattle.std.specs.Simd.{first_chunks}
use Rattle.std.proofs.lemmas.List.Sums.{fold-append}
use Rattle.m2_crc.specs.Crc.{crc_of, after_byte}
use Rattle.m2_crc.proofs.EightBytes.{parted}
use Rattle.m2_crc.proofs.checksum.crc32c.Goals as goal

pub returns : goal.returns
returns c =
    let bytes = c.args.bytes.now in
    let words = c.as_chunks.result.0.now in
    let rest = c.as_chunks.result.1.now in
    let count = length bytes / 8 in
    c.after_bytes.ensures
    ∙ ap (λ s. crc_of s rest) c.after_words.ensures
    ∙ sym (fold-append after_byte c.args.seed (concat words) rest)
    ∙ ap (crc_of c.args.seed) (ap (λ ws. concat ws ++ rest) c.as_chunks.ensures.front ∙ ap (λ r. concat (first_chunks 8 count bytes) ++ r) c.as_chunks.ensures.back ∙ parted count bytes)
