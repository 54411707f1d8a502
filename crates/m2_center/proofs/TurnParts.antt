-- One part of a turn and then another.
use Rattle.std.proofs.Common.{List, inl, inr, Ok, Err}
use Rattle.m2_bytes.specs.declared.memory.NoMemory as memory
use Rattle.m2_center.specs.Center.{CenterNow}
use Rattle.m2_center.specs.CenterTurn.{AndThen, Answer, Part, TakesTurn, TakesTurnOn}
use Rattle.m2_dispatch.specs.Heard.{Heard}
use Rattle.m2_dispatch.specs.declared.parcel.Parcel.{Parcel}
use Rattle.m2_turn.specs.RecordTurn.{Means}

module _ {D : Type 0} (first second : Part D) (old : CenterNow D) where
  -- memory ran out in the first
  pub ends_there : (new : CenterNow D) (e : memory.NoMemory) → first (Err e) old new → AndThen first second (Err e) old new
  ends_there new e h = inl h

  -- it lasted, and the second ends so
  pub goes_on : (mid new : CenterNow D) (answer : Answer) → first (Ok tt) old mid → second answer mid new → AndThen first second answer old new
  goes_on mid new (Ok done) h k = (mid, h, k)
  goes_on mid new (Err e) h k = inr (mid, h, k)

-- a turn that hands on is a turn
pub is_turn : {D : Type 0} (E : Type 0) (heard : D → List Heard) (m : Means) (into behind : List Parcel) (answer : Answer) (old new : CenterNow D) → TakesTurnOn E heard m into behind answer old new →
    TakesTurn E heard m answer old new
is_turn E heard m into behind (Ok done) old new (one, a, (two, b, (three, c, d))) = (one, a, (two, b, (three, c, d.0)))
is_turn E heard m into behind (Err e) old new (inl a) = inl a
is_turn E heard m into behind (Err e) old new (inr (one, a, inl b)) = inr (one, a, inl b)
is_turn E heard m into behind (Err e) old new (inr (one, a, inr (two, b, inl c))) = inr (one, a, inr (two, b, inl c))
is_turn E heard m into behind (Err e) old new (inr (one, a, inr (two, b, inr (three, c, d)))) = inr (one, a, inr (two, b, inr (three, c, d.0)))
