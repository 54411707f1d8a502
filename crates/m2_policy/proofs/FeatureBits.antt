-- One bit of the features that are missing.
use Rattle.std.proofs.Common.{◌≡◌, ℕ, ◌<◌, ◌^◌, ◌-◌, ◌↔◌, min, arith, rules}
use Rattle.std.specs.Int.{w64, bit_at, bit_not}
use Rattle.std.proofs.lemmas.Nat.Bits.{bit_at_and, bit_at_not, bit_at-lt}
use Rattle.m2_policy.specs.Features.{missing_bits, IsMissing}

bit_of_missing : (required supported feature : ℕ) → supported < 2 ^ 64 → feature < 64 → bit_at (missing_bits required supported) feature ≡ min (bit_at required feature) (1 - bit_at supported feature)
bit_of_missing required supported feature fits below =
    rw (bit_at_and required (bit_not w64 supported) feature)
    (rw (bit_at_not w64 supported feature fits below) (search rules))

exactly_where : (m r s : ℕ) → r < 2 → s < 2 → m ≡ min r (1 - s) → (m ≡ 1) ↔ ((r ≡ 1) × ¬ (s ≡ 1))
exactly_where m r s r_bit s_bit is = ((λ set. (omega arith, λ has. omega arith)), λ both. omega arith)

pub missing_bit : (required supported : ℕ) → supported < 2 ^ 64 → IsMissing required supported (missing_bits required supported)
missing_bit required supported fits feature below =
    exactly_where _ _ _ (bit_at-lt required feature) (bit_at-lt supported feature) (bit_of_missing required supported feature fits below)
