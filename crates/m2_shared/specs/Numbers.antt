-- A counter of numbers and its passes as contracts see them. This project's own.
use Rattle.std.specs.Prelude.{ℕ, List}
use Rattle.m2_shared.specs.Place.{Place}

-- where the word lies
pub record SeenNumbers : Type 0 where
  pub place : Place

-- where the counter's word lies; what the word is at least, and where that is nowhere else the word itself; and all
-- numbers that were drawn by the pass, in order
pub record SeenNumberPass : Type 0 where
  pub place : Place
  pub least : ℕ
  pub drawn : List ℕ
