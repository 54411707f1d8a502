use Rattle.std.proofs.Common.{◌≡◌, ◌≤◌, ◌+◌, ◌++◌, length, take}
use Rattle.std.specs.List.{flat_map}
use Rattle.std.specs.Int.{w64, to_le_bytes}
use Rattle.m2_control.proofs.fields.put_words.Given as goal

abbrev pub invariant-words : goal.invariant-words
invariant-words l = record {
  bytes : l.out.bytes ≡ l.fn.out.bytes ++ flat_map (to_le_bytes w64) (take l.word-index l.words);
  room : l.fn.out.room ≤ l.out.room + length (flat_map (to_le_bytes w64) (take l.word-index l.words));
}
