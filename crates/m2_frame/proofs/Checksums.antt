-- The checksum of bytes fits 32 bits.
use Rattle.std.proofs.Common.{ℕ, zero, suc, ◌/◌, ◌%◌, ◌^◌, ◌<◌, List, [], ◌∷◌, arith}
use Rattle.std.specs.Prelude.{bit_xor, ◌==◌}
use Rattle.std.specs.List.{All}
use Rattle.std.proofs.lemmas.Nat.{xor_lt}
use Rattle.std.proofs.lemmas.Bool.{cond_both}
use Rattle.std.proofs.lemmas.List.Elements.{All-head, All-tail}
use Rattle.m2_crc.specs.Crc.{polynomial, shifted, shifted_by, after_byte, crc_of}
use Rattle.m2_frame.specs.Text.{segment_crc}

shifted-below : (state : ℕ) → state < 2 ^ 32 → shifted state < 2 ^ 32
unfolding shifted
shifted-below state h =
    cond_both (state % 2 == 1) (bit_xor (state / 2) polynomial) (state / 2) (λ (x : ℕ). x < 2 ^ 32)
    (λ _. xor_lt 32 (state / 2) polynomial (omega (arith, h)) (omega arith))
    (λ _. omega (arith, h))

shifted_by-below : (n state : ℕ) → state < 2 ^ 32 → shifted_by n state < 2 ^ 32
unfolding shifted_by
shifted_by-below zero state h = h
shifted_by-below (suc n) state h = shifted_by-below n (shifted state) (shifted-below state h)

after_byte-below : (state byte : ℕ) → state < 2 ^ 32 → byte < 256 → after_byte state byte < 2 ^ 32
unfolding after_byte
after_byte-below state byte h b = shifted_by-below 8 (bit_xor state byte) (xor_lt 32 state byte h (omega (arith, b)))

pub crc_of-below : (bytes : List ℕ) (seed : ℕ) → seed < 2 ^ 32 → All (λ b. b < 256) bytes → crc_of seed bytes < 2 ^ 32
crc_of-below [] seed h all = h
crc_of-below (b ∷ bs) seed h all =
    crc_of-below bs (after_byte seed b) (after_byte-below seed b h (All-head (λ b. b < 256) b bs all)) (All-tail (λ b. b < 256) b bs all)

pub segment_crc-below : (bytes : List ℕ) → All (λ b. b < 256) bytes → segment_crc bytes < 2 ^ 32
unfolding segment_crc
segment_crc-below bytes all = crc_of-below bytes 0xFFFFFFFF (omega arith) all
