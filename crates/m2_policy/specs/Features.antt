-- Feature words: 64 bits, each a feature (Ceph's msgr2 documentation).
use Rattle.std.specs.Prelude.{◌≡◌, ℕ, ◌<◌, ◌↔◌, bit_and}
use Rattle.std.specs.Int.{w64, bit_at, bit_not}

-- the feature's bit is set
abbrev pub Has : ℕ → ℕ → Type 0
Has word feature = bit_at word feature ≡ 1

-- each feature is missing exactly where it is required and not supported
abbrev pub IsMissing : ℕ → ℕ → ℕ → Type 0
IsMissing required supported missing = (feature : ℕ) → feature < 64 → Has missing feature ↔ (Has required feature × ¬ Has supported feature)

-- the one word that says so
abbrev pub missing_bits : ℕ → ℕ → ℕ
missing_bits required supported = bit_and required (bit_not w64 supported)
