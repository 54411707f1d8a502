use Rattle.std.proofs.Common.{◌≡◌, length, map, take}
use Rattle.m2_weave.specs.Strands.{read_by_halves, strand_now}
use Rattle.m2_weave.specs.Table.{KeepsNumbers, names_of}
use Rattle.m2_weave.proofs.tally.read_by_halves.Given as goal

-- of the strands so far
abbrev pub invariant-loop-s : goal.invariant-loop-s
invariant-loop-s l = record {
  count : length l.numbers.items ≡ length l.sockets;
  numbers : KeepsNumbers (names_of l.sockets) (read_by_halves (map strand_now (take l.s-index l.strands))) l.numbers.items;
}
