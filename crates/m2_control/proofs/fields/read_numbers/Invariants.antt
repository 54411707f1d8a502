use Rattle.std.proofs.Common.{◌≡◌, ◌-◌}
use Rattle.m2_control.specs.Fields.{numbers_at}
use Rattle.m2_control.proofs.Lists.{with_prefix}
use Rattle.m2_control.proofs.fields.read_numbers.Given as goal

abbrev pub invariant-numbers : goal.invariant-numbers
invariant-numbers l = with_prefix l.numbers.items (numbers_at (l.count - l.counter) l.r) ≡ numbers_at l.count l.fn.r
