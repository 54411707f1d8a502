-- With the messages that are left they are all.
use Rattle.std.proofs.Common.{◌≡◌, ◌+◌, ◌≤◌, drop, count_by}
use Rattle.m2_dispatch.specs.Heard.{heard_by, is_message_from}
use Rattle.m2_script.proofs.left.messages_of.Given as goal

abbrev pub invariant-loop-call : goal.invariant-loop-call
invariant-loop-call l = record {
  count : l.count + count_by (is_message_from l.node) (heard_by (drop l.call-index l.log)) ≡ count_by (is_message_from l.node) (heard_by l.log);
  few : l.count ≤ l.call-index;
}
