-- How a number that came in is judged against the last one that was taken: each number is taken once,
-- and in order. The rule is ProtocolV2's for in_seq.
use Rattle.std.specs.Prelude.{ℕ, ◌≡◌, ◌+◌, ◌<◌, ◌≤◌}
use Rattle.m2_queues.specs.declared.in_numbers.Judge.{Judge}
use Rattle.m2_queues.specs.declared.in_numbers.Judge.TheVariants.{New, Old, Gap}

-- the answer on a number, where `last` was the last one taken
abbrev pub IsJudged : ℕ → ℕ → Judge → Type 0
IsJudged last number New = number ≡ last + 1
IsJudged last number Old = number ≤ last
IsJudged last number Gap = last + 1 < number
