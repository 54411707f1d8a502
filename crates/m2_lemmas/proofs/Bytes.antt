-- Numbers as bytes: each is below 256.
use Rattle.std.proofs.Common.{ℕ, ◌<◌, arith, [], ◌∷◌, List}
use Rattle.std.proofs.lemmas.List.Elements.{All-from_recursion, All-append}
use Rattle.std.specs.Int.{w32, to_le_bytes, w16, to_be_bytes}
use Rattle.std.specs.List.{All}

abbrev pub IsByte : ℕ → Type 0
IsByte b = b < 256

pub four_bytes : (n : ℕ) → All (λ b. b < 256) (to_le_bytes w32 n)
four_bytes n = All-from_recursion IsByte (to_le_bytes w32 n) (omega arith, (omega arith, (omega arith, (omega arith, tt))))

pub two_bytes : (n : ℕ) → All (λ b. b < 256) (to_le_bytes w16 n)
two_bytes n = All-from_recursion IsByte (to_le_bytes w16 n) (omega arith, (omega arith, tt))

pub four_bytes_turned : (n : ℕ) → All (λ b. b < 256) (to_be_bytes w32 n)
four_bytes_turned n = All-from_recursion IsByte (to_be_bytes w32 n) (omega arith, (omega arith, (omega arith, (omega arith, tt))))

pub two_bytes_turned : (n : ℕ) → All (λ b. b < 256) (to_be_bytes w16 n)
two_bytes_turned n = All-from_recursion IsByte (to_be_bytes w16 n) (omega arith, (omega arith, tt))

pub eight_zeros : All (λ b. b < 256) (0 ∷ 0 ∷ 0 ∷ 0 ∷ 0 ∷ 0 ∷ 0 ∷ 0 ∷ [])
eight_zeros = All-from_recursion IsByte (0 ∷ 0 ∷ 0 ∷ 0 ∷ 0 ∷ 0 ∷ 0 ∷ 0 ∷ []) (omega arith, (omega arith, (omega arith, (omega arith, (omega arith, (omega arith, (omega arith, (omega arith, tt))))))))

pub eight_zeros_before : (more : List ℕ) → All (λ b. b < 256) more → All (λ b. b < 256) (0 ∷ 0 ∷ 0 ∷ 0 ∷ 0 ∷ 0 ∷ 0 ∷ 0 ∷ more)
eight_zeros_before more h = All-append IsByte (0 ∷ 0 ∷ 0 ∷ 0 ∷ 0 ∷ 0 ∷ 0 ∷ 0 ∷ []) more eight_zeros h
