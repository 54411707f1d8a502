-- Cookies of different draws differ.
use Rattle.std.proofs.Common.{◌≡◌, ℕ, ◌+◌, ◌*◌, ◌%◌, ◌<◌, ◌≤◌, ◌^◌, false, refl, arith}
use Rattle.m2_session.specs.declared.cookie.CookieParts.{CookieParts}
use Rattle.m2_session.specs.Cookies.{cookie_of}
use Rattle.m2_session.specs.AnswerLaws.{IsDrawn, CookiesTellDrawsApart}

same_parts : (p q s t r u : ℕ) → s < 2 ^ 16 → t < 2 ^ 16 → r < 2 ^ 40 → u < 2 ^ 40 → (p + 1) * 2 ^ 56 + s * 2 ^ 40 + r ≡ (q + 1) * 2 ^ 56 + t * 2 ^ 40 + u → (p ≡ q) × (s ≡ t) × (r ≡ u)
same_parts p q s t r u hs ht hr hu e = (omega arith, omega arith, omega arith)

same_number : (m n : ℕ) → 1 ≤ m → m ≤ 2 ^ 40 → 1 ≤ n → n ≤ 2 ^ 40 → m % 2 ^ 40 ≡ n % 2 ^ 40 → m ≡ n
same_number m n a b c d e = omega arith

below : (n : ℕ) → n % 2 ^ 40 < 2 ^ 40
below n = omega arith

made_of : ℕ → ℕ → ℕ → CookieParts
made_of place salt number = record { place = place; salt = salt; number = number }

of_equal : (p q s t m n : ℕ) → p ≡ q → s ≡ t → m ≡ n → made_of p s m ≡ made_of q t n
of_equal p q s t m n a b c = rw (a, b, c) refl

injective : (a b : CookieParts) → IsDrawn a → IsDrawn b → cookie_of false a ≡ cookie_of false b → a ≡ b
unfolding made_of
injective a b da db e =
    let parts = same_parts a.place b.place a.salt b.salt (a.number % 2 ^ 40) (b.number % 2 ^ 40) da.salt db.salt (below a.number) (below b.number) e in
    of_equal a.place b.place a.salt b.salt a.number b.number parts.0 parts.1 (same_number a.number b.number da.from da.to db.from db.to parts.2)

pub tell_apart : CookiesTellDrawsApart
tell_apart = record {
  injective = injective;
  some = λ d e. omega arith;
}
