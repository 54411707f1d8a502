use Rattle.std.proofs.Common.{◌≡◌, ◌++◌, take}
use Rattle.std.specs.Fmt.{decimal}
use Rattle.m2_frame_facts.specs.Value.{more_texts}
use Rattle.m2_frame_facts.proofs.value.put_more_numbers.Given as goal

abbrev pub invariant-numbers : goal.invariant-numbers
invariant-numbers l = l.out.bytes ≡ l.fn.out.bytes ++ more_texts decimal (take l.number-index l.numbers)
