use Rattle.std.proofs.Common.{length, map}
use Rattle.m2_dispatch.specs.Heard.{heard_by}
use Rattle.m2_scenario.specs.Report.{line_of, name_of, sorted_of}
use Rattle.m2_scenario.proofs.Appended.{one_done}
use Rattle.m2_scenario.proofs.Ranked.{peers_more}
use Rattle.m2_scenario.proofs.reports.put_sorted.Goals as goal

pub loop-peer-preserved : goal.loop-peer-preserved
loop-peer-preserved c =
    let line = line_of (map name_of c.args.nodes.now) c.args.node.now in
    let more = peers_more line (sorted_of (heard_by c.args.log.now)) c.loop-peer.peer (length c.args.nodes.now) c.loop-peer-test.true in
    one_done c.loop-peer.text.bytes c.put_peer.new.text.bytes _ _ _ _ c.in_ok-put_peer.ensures more c.loop-peer.invariant
