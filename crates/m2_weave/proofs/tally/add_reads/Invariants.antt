use Rattle.std.proofs.Common.{◌≡◌, ◌+◌, drop, length, take}
use Rattle.std.specs.Prelude.{slice_index}
use Rattle.m2_weave.specs.Counting.{place_in}
use Rattle.m2_weave.specs.Strands.{read_by, strand_now, total}
use Rattle.m2_weave.specs.Table.{KeepsNumbers, names_of}
use Rattle.m2_weave.proofs.tally.add_reads.Given as goal

-- what the items so far have read is added
abbrev pub invariant-loop-n : goal.invariant-loop-n
invariant-loop-n l = record {
  left : l.left ≡ drop l.n (strand_now l.s).items;
  count : length l.numbers.items ≡ length l.sockets;
  added : KeepsNumbers (names_of l.sockets)
      (λ k. slice_index l.initial.numbers.items (place_in (names_of l.sockets) k) + total (read_by k) (take l.n (strand_now l.s).items)) l.numbers.items;
}
