-- the feed's end, a half's, one that was the feed, or one that was left
use Rattle.std.proofs.Common.{sym, ap, ◌∙◌, map}
use Rattle.std.proofs.lemmas.List.{map-id}
use Rattle.m2_trail.specs.Arrivals.{LooseNow}
use Rattle.m2_trail.specs.Incoming.{IncomingNow}
use Rattle.m2_record_trace.specs.SideNow.{log_in}
use Rattle.m2_record_trace.proofs.Logs.{found_in}
use Rattle.m2_record_trace.proofs.side.Side.log_at.Goals as goal

pub returns : goal.returns
returns c =
    let k = c.args.socket.now in
    let feed = c.log_of_feed-feed.ensures ∙ ap (λ es. log_in es k) c.feed.ensures in
    let open_one = c.log_of_half-open.ensures ∙ ap (λ hs. log_in (map (λ (h : IncomingNow). h.end) hs) k) c.as_slice.ensures.value in
    let spent = c.log_of_end-spent.ensures ∙ ap (λ es. log_in es k) (sym (map-id c.spent.result.now) ∙ c.spent.ensures) in
    let loose = c.log_of_loose-loose.ensures ∙ ap (λ ls. log_in (map (λ (l : LooseNow). l.end) ls) k) c.as_slice-2.ensures in
    rw (← c.self.view_is, c.or-3.ensures, c.or-2.ensures, c.or.ensures)
    (found_in _ k _ _ _ _ (found_in _ k _ _ _ _ (found_in _ k _ _ _ _ feed open_one) spent) loose)
