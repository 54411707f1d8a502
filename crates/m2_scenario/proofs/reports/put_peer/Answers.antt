use Rattle.std.proofs.Common.{◌≡◌, ◌∙◌, ap, length, map, filter}
use Rattle.std.proofs.lemmas.Result.{on_ok_weaker}
use Rattle.m2_queues.specs.ByRank.{by_rank}
use Rattle.m2_dispatch.specs.Heard.{heard_by, is_message_from}
use Rattle.m2_scenario.specs.Report.{line_of, name_of, rank_of, is_reset_by, told_by}
use Rattle.m2_scenario.proofs.Ranked.{picked_among, sorted_among, peer_lines}
use Rattle.m2_scenario.proofs.reports.put_peer.Goals as goal

pub put_gathered-requires : goal.put_gathered-requires
put_gathered-requires c =
    let pick = is_message_from c.args.peer in
    let told : told_by c.as_slice.result.now ≡ by_rank rank_of (filter pick (heard_by c.args.log.now))
    = ap told_by c.as_slice.ensures.value ∙ c.in_ok-sort_calls.ensures ∙ ap (by_rank rank_of) c.in_ok-gather.ensures.messages in
    rw told (sorted_among (length c.args.nodes.now) c.args.log.now pick c.requires)

pub put_gathered-requires-2 : goal.put_gathered-requires-2
put_gathered-requires-2 c =
    let pick = is_reset_by c.args.peer in
    let told : told_by c.as_slice-2.result.now ≡ filter pick (heard_by c.args.log.now) = ap told_by c.as_slice-2.ensures.value ∙ c.in_ok-gather.ensures.resets in
    rw told (picked_among (length c.args.nodes.now) c.args.log.now pick c.requires)

pub returns : goal.returns
returns c =
    let heard = heard_by c.args.log.now in
    let line = line_of (map name_of c.args.nodes.now) c.args.node.now in
    let messages = by_rank rank_of (filter (is_message_from c.args.peer) heard) in
    let resets = filter (is_reset_by c.args.peer) heard in
    let told : told_by c.as_slice.result.now ≡ messages
    = ap told_by c.as_slice.ensures.value ∙ c.in_ok-sort_calls.ensures ∙ ap (by_rank rank_of) c.in_ok-gather.ensures.messages in
    let told_2 : told_by c.as_slice-2.result.now ≡ resets = ap told_by c.as_slice-2.ensures.value ∙ c.in_ok-gather.ensures.resets in
    on_ok_weaker c.put_gathered-2.result (λ put. peer_lines line c.args.text.now.bytes c.put_gathered.new.text.bytes c.put_gathered-2.new.text.bytes messages resets (rw (← told) c.in_ok-put_gathered.ensures) (rw (← told_2) put)) c.put_gathered-2.ensures
