-- What ends are told of the other side changes nothing of what records handed on.
use Rattle.std.proofs.Common.{◌≡◌, ℕ, ◌==◌, Bool, true, false, if◌then◌else◌, List, [], ◌∷◌, map, take, drop, Option, Some, None, refl, sym, ap, subst, ◌∙◌}
use Rattle.std.specs.List.{AllByRecursion, IsDistinct}
use Rattle.std.specs.Option.{option_map}
use Rattle.m2_dispatch.specs.Heard.{Heard}
use Rattle.m2_dispatch.specs.Laws.{Call}
use Rattle.m2_fabric.specs.declared.socket.SocketId.{SocketId}
use Rattle.m2_fabric.specs.End.{SeenEnd}
use Rattle.m2_fabric.specs.Sockets.{same_socket}
use Rattle.m2_cluster.specs.m2_feed.FeedNow.{FeedNow}
use Rattle.m2_weave.specs.m2_journal.declared.entry.Entry.{Entry}
use Rattle.m2_weave.specs.m2_journal.declared.entry.Entry.TheVariants as entry
use Rattle.m2_weave.specs.m2_journal.Items as item
use Rattle.m2_weave.specs.m2_journal.Items.{Places, Sources, at_start, item_of, items_from, passed, where_taken}
use Rattle.m2_weave.specs.m2_journal.Replay.{after_items}
use Rattle.m2_weave.specs.m2_journal.State.{start}
use Rattle.m2_history.specs.m2_record.RecordNow.{RecordNow, ends_of, feed_end, speaks_of}
use Rattle.m2_history.specs.m2_record.Sources as source
use Rattle.m2_history.specs.m2_record.Sources.{broken_of, end_at, log_of, read_before, trail_at, written_before}
use Rattle.m2_cluster.specs.m2_center.m2_turn.Outbox.{OutboxNow}
use Rattle.m2_cluster.specs.m2_center.Center.{CenterNow}
use Rattle.m2_cluster.specs.m2_center.Reaching.{untold, untold_feed, untold_record}
use Rattle.m2_links_go_on.specs.LogLaws.{RestStaysLogged}
use Rattle.m2_links_go_on.specs.Logged.{IsCalled, IsLoggedOf, fast_calls, handed_of}
use Rattle.m2_links_go_on.proofs.Lagging.{place_of}
use Rattle.m2_links_go_on.proofs.Puts.{stays_still}
use Rattle.m2_links_go_on.proofs.Untold.{ends_untold}

-- ---- entries that speak of the same

record SpeakTheSame (s t : Sources) : Type 0 where
  plan : t.plan ≡ s.plan
  got : (k : SocketId) → t.got k ≡ s.got k
  put : (k : SocketId) → t.put k ≡ s.put k
  broken : (k : SocketId) → t.broken k ≡ s.broken k
  unread : (k : SocketId) → t.unread k ≡ s.unread k
  trail : (k : SocketId) → t.trail k ≡ s.trail k

same_item : (s t : Sources) (p : Places) (e : Entry) → SpeakTheSame s t → item_of t p e ≡ item_of s p e
same_item s t p (entry.Post place) h = ap (λ l. item_of (record t { plan = l }) p (entry.Post place)) h.plan
same_item s t p entry.Dial h = ap (λ l. item_of (record t { plan = l }) p entry.Dial) h.plan
same_item s t p (entry.Opened k) h = refl
same_item s t p (entry.Read k n) h = ap (λ l. item.read k (take n (drop (p.read k) l))) (h.got k)
same_item s t p (entry.Wrote k n) h = ap (λ l. item.wrote k (take n (drop (p.written k) l))) (h.put k)
same_item s t p (entry.Closed k) h = ap (item.closed k) (h.broken k)
same_item s t p (entry.Judged k ask number answer) h =
    ap (λ l. item.judged k ask number answer (where_taken answer l) (where_taken answer (t.trail k))) (h.unread k)
    ∙ ap (λ l. item.judged k ask number answer (where_taken answer (s.unread k)) (where_taken answer l)) (h.trail k)
same_item s t p (entry.Asked ident number) h = refl
same_item s t p (entry.Numbered number) h = refl
same_item s t p (entry.Accepted number key) h = refl
same_item s t p (entry.Acked number) h = refl
same_item s t p (entry.Obeyed full) h = refl
same_item s t p (entry.Down true) h = ap (λ l. item_of (record t { plan = l }) p (entry.Down true)) h.plan
same_item s t p (entry.Down false) h = refl

same_items : (s t : Sources) (p : Places) (es : List Entry) → SpeakTheSame s t → items_from t p es ≡ items_from s p es
same_items s t p [] h = refl
same_items s t p (e ∷ es) h = ap (λ i. i ∷ items_from t (passed e p) es) (same_item s t p e h) ∙ ap (λ is. item_of s p e ∷ is) (same_items s t (passed e p) es h)

-- ---- ends that were told nothing

feed_untold : (o : Option FeedNow) → feed_end (option_map untold_feed o) ≡ map untold (feed_end o)
feed_untold (Some v) = refl
feed_untold None = refl

end_untold : (es : List SeenEnd) (k : SocketId) → end_at (map untold es) k ≡ option_map untold (end_at es k)
end_untold [] k = refl
end_untold (e ∷ es) k = at (same_socket k e.id) (end_untold es k)
  where
    at : (b : Bool) → end_at (map untold es) k ≡ option_map untold (end_at es k) → (if b then Some (untold e) else end_at (map untold es) k) ≡ option_map untold (if b then Some e else end_at es k)
    at true rest = refl
    at false rest = rest

log_untold : (o : Option SeenEnd) → log_of (option_map untold o) ≡ log_of o
log_untold (Some e) = refl
log_untold None = refl

broken_untold : (o : Option SeenEnd) → broken_of (option_map untold o) ≡ broken_of o
broken_untold (Some e) = refl
broken_untold None = refl

same_sources : (r : RecordNow) → SpeakTheSame (speaks_of r) (speaks_of (untold_record r))
same_sources r = record {
  plan = refl;
  got = λ k. ap (λ l. drop (read_before (trail_at r.trails k)) l.got) (log_here k);
  put = λ k. ap (λ l. drop (written_before (trail_at r.trails k)) l.put) (log_here k);
  broken = λ k. ap broken_of (here k) ∙ broken_untold (end_at (ends_of r) k);
  unread = λ k. ap (source.unread_of (trail_at r.trails k)) (log_here k);
  trail = λ k. refl;
}
  where
    here : (k : SocketId) → end_at (ends_of (untold_record r)) k ≡ option_map untold (end_at (ends_of r) k)
    here k = ap (λ es. end_at es k) (ends_untold r) ∙ end_untold (ends_of r) k

    log_here : (k : SocketId) → log_of (end_at (ends_of (untold_record r)) k) ≡ log_of (end_at (ends_of r) k)
    log_here k = ap log_of (here k) ∙ log_untold (end_at (ends_of r) k)

handed_untold : (r : RecordNow) → handed_of (untold_record r) ≡ handed_of r
handed_untold r =
    ap (λ is. take r.handed (after_items r.core.facts is (start r.core.facts)).deliveries) (same_items (speaks_of r) (speaks_of (untold_record r)) at_start r.journal (same_sources r))

-- ---- of all records

module _ {D : Type 0} (heard : D → List Heard) (calls : List Call) where
  one_rest : (old new : OutboxNow D) (r s : RecordNow) → new ≡ old → untold_record s ≡ untold_record r → IsLoggedOf heard calls old r → IsLoggedOf heard calls new s
  one_rest old new r s same e =
      (stays_still heard calls old new r s (ap (fast_calls heard) same) (ap (λ o. o.mail) same) (ap (λ x. x.place) e) (sym (handed_untold s) ∙ ap handed_of e ∙ handed_untold r)).logged

  each_rest : (old new : OutboxNow D) (rs ss : List RecordNow) → new ≡ old → map untold_record ss ≡ map untold_record rs → AllByRecursion (IsLoggedOf heard calls old) rs → AllByRecursion (IsLoggedOf heard calls new) ss
  each_rest old new [] [] same e all = tt
  each_rest old new (r ∷ rs) (s ∷ ss) same e all =
      let first : untold_record s ≡ untold_record r = cc in
      let rest : map untold_record ss ≡ map untold_record rs = cc in
      (one_rest old new r s same first all.0, each_rest old new rs ss same rest all.1)
  each_rest old new [] (s ∷ ss) same e all = absurd cc
  each_rest old new (r ∷ rs) [] same e all = absurd cc

places_untold : (rs : List RecordNow) → map place_of (map untold_record rs) ≡ map place_of rs
places_untold [] = refl
places_untold (r ∷ rs) = ap (λ l. r.place ∷ l) (places_untold rs)

pub rest_stays_logged : {D : Type 0} → RestStaysLogged D
rest_stays_logged {D} heard old new e l = record {
  peers = subst (IsDistinct (λ (a b : ℕ). a == b)) (sym (sym (places_untold new.records) ∙ ap (map place_of) records ∙ places_untold old.records)) l.peers;
  calls = l.calls;
  queue = subst (IsCalled heard l.calls) (sym (ap (λ (c : CenterNow D). c.queued) e)) l.queue;
  each = each_rest heard l.calls old.out new.out old.records new.records (ap (λ (c : CenterNow D). c.out) e) records l.each;
}
  where
    records : map untold_record new.records ≡ map untold_record old.records
    records = ap (λ (c : CenterNow D). c.records) e
