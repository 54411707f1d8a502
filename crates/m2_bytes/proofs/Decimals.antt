-- Canonical decimal text: it is UTF-8, and what `parse` makes of it.
use Rattle.std.proofs.Common.{◌≡◌, ℕ, ◌<◌, ◌^◌, List, Result, Ok, true, false, sym, ◌∙◌, ap}
use Rattle.std.specs.Str.{IsUtf8, bytes_eq}
use Rattle.std.specs.Fmt.{decimal}
use Rattle.std.specs.Str.Parse.{ParsesUnsigned}
use Rattle.std.proofs.lemmas.Str.{IsUtf8-from_ascii}
use Rattle.std.proofs.lemmas.Fmt.{IsAscii-decimal, parse-decimal}
use Rattle.std.proofs.lemmas.Slice.Eq.{bytes_eq-Decides}

pub IsUtf8-decimal : (n : ℕ) (bs : List ℕ) → n < 2 ^ 64 → bs ≡ decimal n → IsUtf8 bs
IsUtf8-decimal n bs small e = rw e (IsUtf8-from_ascii _ (IsAscii-decimal n small))

-- a number that `parse` gave for a canonical text and whose text is another can't be
pub other_text : {E : Type 0} (n m : ℕ) (word text : List ℕ) (r : Result ℕ E)
    → n < 2 ^ 64 → word ≡ decimal n → ParsesUnsigned 64 10 word r → r ≡ Ok m → text ≡ decimal m → bytes_eq text word ≡ false → ⊥
other_text n m word text r small e parses is shown differs =
    let parsed : r ≡ Ok n = parse-decimal 64 n word r small small e parses in
    let same : m ≡ n = cc in
    let equal : text ≡ word = shown ∙ ap decimal same ∙ sym e in
    let found : bytes_eq text word ≡ true = (bytes_eq-Decides text word).1 equal in
    cc
