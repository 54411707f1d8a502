use Rattle.std.proofs.Common.{sym, subst}
use Rattle.std.specs.List.{AllByRecursion, flat_map}
use Rattle.m2_fabric.specs.Kinds.{IsInMemory}
use Rattle.m2_record.specs.RecordNow.{ends_of}
use Rattle.m2_center.proofs.memory.+records_are_in_memory.Goals as goal
use Rattle.m2_bytes.proofs.m2_lemmas.Lists.{all_append}

pub returns-in-Some : goal.returns-in-Some
returns-in-Some g t c =
    subst (λ rs. AllByRecursion IsInMemory (flat_map ends_of rs)) (sym c.in-Some.ensures.cases.0)
    (all_append IsInMemory (ends_of c.in-Some.first.now) (flat_map ends_of c.in-Some.rest.now) c.record_is_in_memory.ensures c.records_are_in_memory.ensures)
