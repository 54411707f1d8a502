-- All ends of a center are in memory.
use Rattle.std.proofs.Common.{List, Option, Some, None, IfSome, IsSome, subst}
use Rattle.std.specs.List.{AllByRecursion, flat_map}
use Rattle.m2_center.specs.Reaching.{all_ends_in, ends_or_none}
use Rattle.m2_fabric.specs.End.{SeenEnd}
use Rattle.m2_fabric.specs.Kinds.{IsInMemory}
use Rattle.m2_record.specs.RecordNow.{ends_of}
use Rattle.m2_turn.specs.Halves.{halves_of}
use Rattle.m2_turn.specs.Hearing.{ends_in}
use Rattle.m2_center.proofs.center.Center.is_in_memory.Goals as goal
use Rattle.m2_bytes.proofs.m2_lemmas.Lists.{all_append}

all_waiting : (waiting : Option (List SeenEnd)) → IfSome waiting (AllByRecursion IsInMemory) → AllByRecursion IsInMemory (ends_or_none waiting)
all_waiting (Some es) all = all
all_waiting None all = tt

pub returns-clause-port : goal.returns-clause-port
returns-clause-port g c = subst (λ v. IsSome v.port.waiting) c.self.view_is c.waits_in_memory.ensures.0

pub returns-clause-ends : goal.returns-clause-ends
returns-clause-ends g c =
    let i = c.self.inside in
    subst (λ v. AllByRecursion IsInMemory (all_ends_in v)) c.self.view_is
    (all_append IsInMemory _ _
    (all_append IsInMemory (flat_map ends_of i.records.items) (ends_in (halves_of i.halves i.loose.items))
    (subst (λ rs. AllByRecursion IsInMemory (flat_map ends_of rs)) c.as_slice.ensures.value c.records_are_in_memory.ensures)
    (subst (λ ls. AllByRecursion IsInMemory (ends_in (halves_of i.halves ls))) c.as_slice-2.ensures.value c.halves_are_in_memory.ensures))
    (all_waiting _ c.waits_in_memory.ensures.1))
