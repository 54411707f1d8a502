-- How long the texts are.
use Rattle.std.proofs.Common.{◌≡◌, ◌+◌, ◌++◌, length, refl, arith}
use Rattle.std.proofs.lemmas.List.{length-append}
use Rattle.m2_frame.specs.declared.preamble.Preamble.{Preamble}
use Rattle.m2_frame.specs.Frame.{Parts}
use Rattle.m2_frame.specs.Preamble.{preamble_of, preamble_text}
use Rattle.m2_frame.specs.Text.{text_of, first_text, later_text}

pub length-preamble_text : (p : Preamble) → length (preamble_text p) ≡ 32
unfolding preamble_text
length-preamble_text p = refl

pub length-text_of : (f : Parts) → length (text_of f) ≡ 32 + length (first_text f.first) + length (later_text f)
unfolding text_of
length-text_of f =
    omega (arith, length-append (preamble_text (preamble_of f) ++ first_text f.first) (later_text f), length-append (preamble_text (preamble_of f)) (first_text f.first), length-preamble_text (preamble_of f))
