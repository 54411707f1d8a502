-- A state is the seed of the draws that are still to come.
use Rattle.std.proofs.Common.{◌≡◌, ◌+◌, ◌*◌, ℕ, zero, suc, refl, ap, ◌∙◌, arith, ◌++◌}
use Rattle.m2_scenario.specs.Draws.{next_state, upper_bits, state_after, draw}
use Rattle.m2_scenario.specs.Generated.{lines_by, first_lines, draws_of}

pub later : (seed a b : ℕ) → state_after (state_after seed a) b ≡ state_after seed (a + b)
later seed a zero = let same : a ≡ a + zero = omega arith in ap (state_after seed) same
later seed a (suc b) = let same : suc (a + b) ≡ a + suc b = omega arith in ap next_state (later seed a b) ∙ ap (state_after seed) same

-- so its draws are those of the seed, from there
pub drawn : (seed a k : ℕ) → draw (state_after seed a) k ≡ draw seed (a + k)
drawn seed a k = ap (λ s. upper_bits (next_state s)) (later seed a k)

same_lines : (i : ℕ) (u v : ℕ → ℕ) → u 0 ≡ v 0 → u 1 ≡ v 1 → u 2 ≡ v 2 → u 3 ≡ v 3 → u 4 ≡ v 4 → lines_by i u ≡ lines_by i v
same_lines i u v a b c d e = rw (a, b, c, d, e) refl

-- the lines of the i-th post by the draws that are left are those by the draws of the seed
pub next_lines : (seed i : ℕ) → lines_by i (draw (state_after seed (5 * i))) ≡ lines_by i (draws_of seed i)
next_lines seed i =
    let at : (k : ℕ) → draw (state_after seed (5 * i)) k ≡ draws_of seed i k = λ k. drawn seed (5 * i) k in
    same_lines i (draw (state_after seed (5 * i))) (draws_of seed i) (at 0) (at 1) (at 2) (at 3) (at 4)

pub more_lines : (seed i : ℕ) → first_lines seed i ++ lines_by i (draw (state_after seed (5 * i))) ≡ first_lines seed (i + 1)
more_lines seed i =
    let one : suc i ≡ i + 1 = omega arith in ap (λ ls. first_lines seed i ++ ls) (next_lines seed i) ∙ ap (first_lines seed) one

pub more_draws : (seed i : ℕ) → state_after (state_after seed (5 * i)) 5 ≡ state_after seed (5 * (i + 1))
more_draws seed i = let same : 5 * i + 5 ≡ 5 * (i + 1) = omega arith in later seed (5 * i) 5 ∙ ap (state_after seed) same
