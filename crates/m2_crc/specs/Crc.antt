-- CRC-32C bit by bit, in reflected form, as Ceph's `ceph_crc32c` computes it: the state starts as the
-- seed, and there is no inversion at the end.
use Rattle.std.specs.Prelude.{ℕ, zero, suc, ◌==◌, ◌/◌, ◌%◌, List, fold, bit_xor, if◌then◌else◌}

-- the Castagnoli polynomial, the lowest power in the highest bit
abbrev pub polynomial : ℕ
polynomial = 0x82F63B78

-- the state moves down by one bit; where a 1 falls out, the polynomial is put in
unfoldable pub shifted : ℕ → ℕ
shifted state = if state % 2 == 1 then bit_xor (state / 2) polynomial else state / 2

-- so many shifts
unfoldable pub shifted_by : ℕ → ℕ → ℕ
shifted_by zero state = state
shifted_by (suc n) state = shifted_by n (shifted state)

-- a byte is put into the lowest bits, and eight shifts move it out
unfoldable pub after_byte : ℕ → ℕ → ℕ
after_byte state byte = shifted_by 8 (bit_xor state byte)

-- the state after all bytes, begun at the seed
abbrev pub crc_of : ℕ → List ℕ → ℕ
crc_of seed bytes = fold after_byte seed bytes
