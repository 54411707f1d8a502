use Rattle.std.proofs.Common.{subst}
use Rattle.std.specs.List.{AllByRecursion}
use Rattle.m2_fabric.specs.Kinds.{IsInMemory}
use Rattle.m2_record.specs.RecordNow.{feed_end}
use Rattle.m2_center.proofs.memory.record_is_in_memory.Goals as goal
use Rattle.m2_bytes.proofs.m2_lemmas.Lists.{all_append}

pub returns : goal.returns
returns g c =
    all_append IsInMemory (feed_end c.args.side.now.core.live.feed) c.args.side.now.spent c.feed_is_in_memory.ensures
    (subst (AllByRecursion IsInMemory) c.spent.ensures c.are_in_memory.ensures)
