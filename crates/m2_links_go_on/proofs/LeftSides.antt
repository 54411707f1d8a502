-- A record and its sockets: those that it opened lead to its peer, and its ends are of those that it opened or has judged asks on.
use Rattle.std.proofs.Common.{◌≡◌, ◌⊎◌, inl, inr, true, sym, ◌∙◌}
use Rattle.m2_fabric.specs.declared.socket.SocketId.{SocketId}
use Rattle.m2_fabric.specs.Sockets.{goes_to, is_among}
use Rattle.m2_growth.specs.Halves.{asked_on}
use Rattle.m2_history.specs.Link.{parts_of}
use Rattle.m2_weave.specs.m2_journal.Items.{at_start}
use Rattle.m2_weave.specs.m2_journal.State.{start}
use Rattle.m2_links_go_on.proofs.LinkRecords.{ends_feeds, feed_kind}
use Rattle.m2_links_go_on.proofs.Standing.{taken_asked}
use Rattle.m2_history.specs.m2_record.IsRecord.{IsRecord}
use Rattle.m2_history.specs.m2_record.RecordNow.{RecordNow, ends_of, ids_of}
use Rattle.m2_history.specs.m2_record.TakenTrails.{taken_in}
use Rattle.m2_growth.specs.m2_turn.Sessions.{peer_of}
use Rattle.m2_weave.specs.Strands.{has_opened, journal_of}
use Rattle.m2_history.specs.WovenLink.{sources_in}
use Rattle.m2_history.proofs.Journals.{opened_leads}
use Rattle.m2_history.proofs.WovenLinks.{feed_opened}
use Rattle.m2_history.proofs.Whole.{records_are_sides}

pub opened_goes : (r : RecordNow) → IsRecord r → (k : SocketId) → has_opened (journal_of r.journal) k ≡ true → goes_to (peer_of r) k ≡ true
opened_goes r is k o = opened_leads r.core.facts (sources_in r.plan (parts_of r)) r.journal at_start (start r.core.facts) k (records_are_sides r is).lawful o

pub opened_end : (r : RecordNow) → IsRecord r → (k : SocketId) → has_opened (journal_of r.journal) k ≡ true → is_among k (ids_of (ends_of r)) ≡ true
opened_end r is k o = feed_opened (λ j. is_among j (ids_of (ends_of r)) ≡ true) r.journal k (records_are_sides r is).ends o

pub end_kind : (r : RecordNow) → IsRecord r → (k : SocketId) → is_among k (ids_of (ends_of r)) ≡ true → (has_opened (journal_of r.journal) k ≡ true) ⊎ (is_among k (asked_on r) ≡ true)
end_kind r is k among = by (feed_kind k r.journal (sym (ends_feeds r is k) ∙ among))
  where
    by : (has_opened (journal_of r.journal) k ≡ true) ⊎ (is_among k (taken_in r.journal) ≡ true) → (has_opened (journal_of r.journal) k ≡ true) ⊎ (is_among k (asked_on r) ≡ true)
    by (inl o) = inl o
    by (inr t) = inr (taken_asked k r.journal t)
