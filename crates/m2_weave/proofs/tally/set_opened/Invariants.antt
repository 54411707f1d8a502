use Rattle.std.proofs.Common.{◌≡◌, drop, length, take}
use Rattle.std.specs.List.{list_any}
use Rattle.m2_weave.specs.Strands.{opens, strand_now}
use Rattle.m2_weave.specs.Table.{KeepsOpened, names_of}
use Rattle.m2_weave.proofs.tally.set_opened.Given as goal

-- what the items so far have opened
abbrev pub invariant-loop-n : goal.invariant-loop-n
invariant-loop-n l = record {
  left : l.left ≡ drop l.n (strand_now l.s).items;
  count : length l.flags.items ≡ length l.sockets;
  flags : KeepsOpened (names_of l.sockets) (λ k. list_any (opens k) (take l.n (strand_now l.s).items)) l.flags.items;
}
