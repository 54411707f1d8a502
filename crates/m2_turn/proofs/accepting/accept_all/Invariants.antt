use Rattle.std.proofs.Common.{◌≡◌, ◌-◌, ◌≤◌, List, length, vec_capacity, vec_len}
use Rattle.m2_turn.specs.Accepting.{Accepting, TakesAll, accepting}
use Rattle.m2_turn.proofs.accepting.accept_all.Given as goal

abbrev pub invariant-accepts : goal.invariant-accepts
invariant-accepts g l = record {
  stood : List Accepting;
  takes : TakesAll l.fn.entity stood
      (accepting (g.P.Port.seen l.fn.port) l.fn.halves l.fn.loose.items)
      (accepting (g.P.Port.seen l.port) l.halves l.loose.items);
  count : length stood ≡ l.counter;
  room : length l.halves ≤ vec_capacity l.loose - vec_len l.loose;
}
