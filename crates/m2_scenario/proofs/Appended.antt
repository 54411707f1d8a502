-- Texts that are appended one after another.
use Rattle.std.proofs.Common.{◌≡◌, ℕ, List, ◌++◌, codes, refl, sym, ap, ◌∙◌, append_assoc}
use Rattle.m2_bytes.specs.Hexadecimal.{hex_text}

-- behind what was appended, one text more
pub and_then : (old so_far more mid new : List ℕ) → mid ≡ old ++ so_far → new ≡ mid ++ more → new ≡ old ++ (so_far ++ more)
and_then old so_far more mid new before e = e ∙ ap (λ text. text ++ more) before ∙ append_assoc old so_far more

-- and a part, behind a space
pub and_part : (old so_far part given mid new : List ℕ) → mid ≡ old ++ so_far → given ≡ part → new ≡ mid ++ codes " " ++ hex_text given → new ≡ old ++ (so_far ++ codes " " ++ hex_text part)
and_part old so_far part given mid new before same e =
    and_then old (so_far ++ codes " ") (hex_text part) (mid ++ codes " ") new (and_then old so_far (codes " ") mid (mid ++ codes " ") before refl)
    (e ∙ ap (λ p. mid ++ codes " " ++ hex_text p) same)

-- a text that was appended is no more to come
pub one_done : (text new whole lines left rest : List ℕ) → new ≡ text ++ lines → left ≡ lines ++ rest → text ++ left ≡ whole → new ++ rest ≡ whole
one_done text new whole lines left rest e f g = ap (λ t. t ++ rest) e ∙ append_assoc text lines rest ∙ ap (λ t. text ++ t) (sym f) ∙ g
