use Rattle.std.proofs.Common.{◌≡◌}
use Rattle.std.specs.List.{list_any}
use Rattle.m2_node.specs.m2_links_go_on.Course.{is_productive}
use Rattle.m2_run.proofs.settling.is_any_productive.Given as goal

-- none of those so far
abbrev pub invariant-loop-entry : goal.invariant-loop-entry
invariant-loop-entry l = list_any is_productive l.entry-iterator ≡ list_any is_productive l.journal.items
