use Rattle.std.proofs.Common.{◌≡◌, ◌≤◌, ◌+◌, ◌++◌, length, take}
use Rattle.std.specs.List.{flat_map}
use Rattle.std.specs.Int.{w32, to_le_bytes}
use Rattle.m2_control.proofs.fields.put_numbers.Given as goal

abbrev pub invariant-numbers : goal.invariant-numbers
invariant-numbers l = record {
  bytes : l.out.bytes ≡ l.fn.out.bytes ++ (to_le_bytes w32 (length l.numbers) ++ flat_map (to_le_bytes w32) (take l.number-index l.numbers));
  room : l.fn.out.room ≤ l.out.room + (4 + length (flat_map (to_le_bytes w32) (take l.number-index l.numbers)));
}
