-- A dispatch as contracts see it. This project's own.
use Rattle.std.specs.Prelude.{List}
use Rattle.m2_dispatch.specs.declared.letter.Letter.{Letter}

-- the letters that wait, in the order in which they will be dispatched, and the dispatcher
pub record Queued (D : Type 0) : Type 0 where
  pub waiting : List Letter
  pub inner : D
