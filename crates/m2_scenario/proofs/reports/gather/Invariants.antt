-- with the messages and the resets that are left they are all
use Rattle.std.proofs.Common.{◌≡◌, ◌++◌, drop, filter}
use Rattle.m2_dispatch.specs.Heard.{heard_by, is_message_from}
use Rattle.m2_scenario.specs.Report.{is_reset_by, told_by}
use Rattle.m2_scenario.proofs.reports.gather.Given as goal

abbrev pub invariant-loop-call : goal.invariant-loop-call
invariant-loop-call l = record {
  messages : told_by l.calls.messages.items ++ filter (is_message_from l.peer) (heard_by (drop l.call-index l.log)) ≡ filter (is_message_from l.peer) (heard_by l.log);
  resets : told_by l.calls.resets.items ++ filter (is_reset_by l.peer) (heard_by (drop l.call-index l.log)) ≡ filter (is_reset_by l.peer) (heard_by l.log);
}
