-- How long the texts of frames are, and what is left of a text of which some is put.
use Rattle.std.proofs.Common.{◌≡◌, ℕ, suc, ◌+◌, ◌-◌, ◌≤◌, ◌<◌, ◌==◌, ◌^◌, Bool, true, false, List, [], ◌∷◌, ◌++◌, length, drop, refl, sym, ap, ◌∙◌, arith, length-drop, Result, Ok, Err}
use Rattle.std.proofs.lemmas.Bool.{true≢false}
use Rattle.std.proofs.lemmas.List.{length-append}
use Rattle.m2_bytes.specs.declared.memory.NoMemory.{NoMemory}
use Rattle.m2_bytes.specs.Blob.{Contents, Appends}
use Rattle.m2_control.specs.declared.control.Control.{Control}
use Rattle.m2_control.specs.Control as payload
use Rattle.m2_frame.specs.declared.encoding.TheConstants.{CRC_BYTES}
use Rattle.m2_frame.specs.declared.preamble.TheConstants.{PREAMBLE_BYTES}
use Rattle.m2_frame.specs.Text.{first_text, crc_field}
use Rattle.m2_frame.proofs.Lengths.{length-text_of}
use Rattle.m2_handshake.specs.Texts.{control_parts, frame_text}
use Rattle.m2_feed.specs.Calls.{is_empty}

pub fits_left : (n put : ℕ) (xs : List ℕ) → put ≤ length xs → n ≤ length (drop put xs) → put + n ≤ length xs
fits_left n put xs h k = omega (arith, h, k, length-drop put xs)

first_fits : (bytes : List ℕ) → length (first_text bytes) ≤ length bytes + CRC_BYTES
first_fits [] = omega arith
first_fits (b ∷ bs) = omega (arith, length-append (b ∷ bs) (crc_field (b ∷ bs)), crc_four (b ∷ bs))
  where
    crc_four : (bytes : List ℕ) → length (crc_field bytes) ≡ 4
    crc_four bytes = refl

-- the text of a control frame has a preamble, the payload and its checksum
pub frame_fits : (c : Control) → length (frame_text c) ≤ PREAMBLE_BYTES + length (payload.text_of c) + CRC_BYTES
frame_fits c = omega (arith, length-text_of (control_parts c), first_fits (payload.text_of c))

pub no_bytes : (xs : List ℕ) → is_empty xs ≡ true → xs ≡ []
no_bytes [] h = refl
no_bytes (x ∷ xs) h = absurd (true≢false (sym h))

pub some_bytes : (xs : List ℕ) → is_empty xs ≡ false → 0 < length xs
some_bytes [] h = absurd (true≢false h)
some_bytes (x ∷ xs) h = omega arith

-- behind nothing a text stands alone
pub only_text : (old new words : List ℕ) → is_empty old ≡ true → new ≡ old ++ words → new ≡ words
only_text old new words h e = e ∙ ap (λ (l : List ℕ). l ++ words) (no_bytes old h)
