-- What texts ask for: by the format's tables a text begins with the preamble of its frame.
use Rattle.std.proofs.Common.{◌≡◌, ℕ, ◌*◌, ◌≤◌, ◌==◌, Bool, true, false, List, length, take, drop, Some, None, Result, Ok, Err, refl, sym, ap, ◌∙◌, arith}
use Rattle.std.specs.Prelude.{nat_lt, if◌then◌else◌}
use Rattle.std.proofs.lemmas.Bool.{eqb-true, ltb-false}
use Rattle.std.proofs.lemmas.List.{take-append-drop, length-take-le}
use Rattle.m2_frame.specs.declared.encoding.TheConstants.{COMPLETE}
use Rattle.m2_frame.specs.declared.fault.FrameFault.{FrameFault}
use Rattle.m2_frame.specs.declared.frame.TheConstants.{MESSAGE_LIMIT}
use Rattle.m2_frame.specs.declared.preamble.Preamble.{Preamble}
use Rattle.m2_frame.specs.declared.preamble.TheConstants.{PREAMBLE_BYTES}
use Rattle.m2_frame.specs.Frame.{Parts, message_tag, segment_limit}
use Rattle.m2_frame.specs.Grammar.{IsText}
use Rattle.m2_frame.specs.Preamble.{preamble_of, read_preamble}
use Rattle.m2_frame.specs.Reading.{whole, asked_by, size_asked, size_in, size_of}
use Rattle.m2_frame.proofs.Parsed.{judged-item_text}
use Rattle.m2_frame.proofs.Preambles.{IsAllowed, preamble_text-read}
use Rattle.m2_handshake.proofs.Sizes.{dropped_asks, message_asks, text_asks}
use Rattle.m2_feed.specs.FrameLaws.{AsksForItsSize}
use Rattle.m2_bytes.proofs.m2_lemmas.Options.{none_isnt_some}

-- a text asks for what its frame's preamble does
sized : (low : ℕ) (rest : List ℕ) (f : Parts) (len : ℕ) → IsText low f (take len rest) → size_of rest ≡ size_in (preamble_of f)
sized low rest f len t = ap size_of (sym (take-append-drop len rest)) ∙ text_asks low f (take len rest) (drop len rest) t

-- ---- the bound

bounded : (p : Preamble) (n : ℕ) → IsAllowed p → size_in p ≡ Some n → n ≤ 3 * MESSAGE_LIMIT
bounded p n a = at (p.tag == message_tag) refl a.second a.third a.fourth
  where
    same : (k : ℕ) → Some k ≡ Some n → k ≡ n
    same k e = cc

    at : (b : Bool) → (p.tag == message_tag) ≡ b → p.second ≤ segment_limit p.tag → p.third ≤ segment_limit p.tag → p.fourth ≤ segment_limit p.tag →
        (if b then Some (asked_by p) else None) ≡ Some n → n ≤ 3 * MESSAGE_LIMIT
    at true q second third fourth e =
        let most : segment_limit p.tag ≡ MESSAGE_LIMIT = ap segment_limit (eqb-true p.tag message_tag q) in
        let s = same (asked_by p) e in
        omega (arith, most, s, second, third, fourth)
    at false q second third fourth e = absurd (none_isnt_some n e)

size_bounded : (rest : List ℕ) (n : ℕ) → size_of rest ≡ Some n → n ≤ 3 * MESSAGE_LIMIT
unfolding size_of
size_bounded rest n = at (nat_lt (length rest) PREAMBLE_BYTES) refl
  where
    read : PREAMBLE_BYTES ≤ length rest → (r : Result Preamble FrameFault) → read_preamble (take PREAMBLE_BYTES rest) ≡ r → size_asked r ≡ Some n → n ≤ 3 * MESSAGE_LIMIT
    read long (Ok p) q e = bounded p n (preamble_text-read p (take PREAMBLE_BYTES rest) (length-take-le PREAMBLE_BYTES rest long) q).1 e
    read long (Err f) q e = absurd (none_isnt_some n e)

    at : (b : Bool) → nat_lt (length rest) PREAMBLE_BYTES ≡ b → (if b then None else size_asked (read_preamble (take PREAMBLE_BYTES rest))) ≡ Some n → n ≤ 3 * MESSAGE_LIMIT
    at true q e = absurd (none_isnt_some n e)
    at false q e = read (ltb-false (length rest) PREAMBLE_BYTES q) (read_preamble (take PREAMBLE_BYTES rest)) refl e

pub asks : AsksForItsSize
asks = record {
  message = λ rest f len j tag. sized COMPLETE rest f len (judged-item_text rest (whole f) len j) ∙ message_asks (preamble_of f) tag;
  aborted = dropped_asks;
  bound = size_bounded;
}
