use Rattle.std.proofs.Common.{◌≡◌, ◌++◌, map, take}
use Rattle.m2_frame_facts.specs.Value.{fields_text, told_by}
use Rattle.m2_frame_facts.proofs.value.put_fields.Given as goal

abbrev pub invariant-fields : goal.invariant-fields
invariant-fields l = l.out.bytes ≡ l.fn.out.bytes ++ fields_text l.style (map told_by (take l.field-index l.fields))
