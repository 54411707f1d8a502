-- A product and a sum that both wrap.
use Rattle.std.proofs.Common.{◌≡◌, ◌+◌, ◌*◌, ◌%◌, ◌^◌, ℕ}
use Rattle.std.proofs.Math.Nat.{mod-add-mod}

pub wrapped : (x a c : ℕ) → ((x * a) % 2 ^ 64 + c) % 2 ^ 64 ≡ (x * a + c) % 2 ^ 64
wrapped x a c = mod-add-mod (x * a) (2 ^ 64) c
