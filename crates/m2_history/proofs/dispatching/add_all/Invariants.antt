use Rattle.std.proofs.Common.{◌≡◌, ◌++◌, map, drop}
use Rattle.m2_dispatch.specs.Heard as heard
use Rattle.m2_dispatch.specs.Heard.{heard_by}
use Rattle.m2_message.specs.Message.{content_of}
use Rattle.m2_history.proofs.dispatching.add_all.Given as goal

-- those so far, and those of what is left
abbrev pub invariant-loop-call : goal.invariant-loop-call
invariant-loop-call l =
    map content_of l.all.items ++ heard.of_key l.peer l.key (heard_by (drop l.call-index l.log)) ≡ map content_of l.initial.all.items ++ heard.of_key l.peer l.key (heard_by l.log)
