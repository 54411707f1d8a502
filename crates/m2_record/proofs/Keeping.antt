-- What a journal speaks of stays: from the ends, the plan and the trails to the sources, and to the replay.
use Rattle.std.proofs.Common.{◌≡◌, true, List, [], ◌∷◌, ◌++◌, drop, refl, sym, ap}
use Rattle.std.proofs.lemmas.List.{append-nil}
use Rattle.m2_fabric.specs.declared.socket.SocketId.{SocketId}
use Rattle.m2_fabric.specs.End.{SeenEnd}
use Rattle.m2_fabric.specs.Sockets.{is_among, same_socket}
use Rattle.m2_journal.specs.declared.entry.Entry.{Entry}
use Rattle.m2_journal.specs.declared.entry.Entry.TheVariants as entry
use Rattle.m2_journal.specs.Growth.{IsExtended}
use Rattle.m2_journal.specs.Items.{Sources, item_of, reach_of}
use Rattle.m2_journal.specs.Lawful.{Lawful}
use Rattle.m2_journal.specs.Plan.{Planned}
use Rattle.m2_journal.specs.Replay.{IsReplay}
use Rattle.m2_journal.specs.SideFacts.{SideFacts}
use Rattle.m2_journal.specs.State.{State}
use Rattle.m2_journal.specs.Steps.{after}
use Rattle.m2_journal.proofs.Growing.{one_more, replays_stay}
use Rattle.m2_record.specs.Entered.{AreSettled, KeepLogs, MovesNothing, StepIsThere}
use Rattle.m2_record.specs.IsRecord.{closed_in}
use Rattle.m2_trail.specs.Trails.{TrailNow}
use Rattle.m2_record.specs.Sources.{Grounds, log_at, read_before, runs_before, sources_of, trail_at, written_before}
use Rattle.m2_record.proofs.Ends.{EndsStay}
use Rattle.m2_record.proofs.Entering.{kept-continues, kept-covers, still-covers}
use Rattle.m2_record.proofs.Trailing.{unread-same}
use Rattle.m2_bytes.proofs.m2_lemmas.Booleans.{or_right}
use Rattle.m2_fabric.proofs.Sockets.{same_refl}

-- ---- what is settled

among-own : (k : SocketId) (ks : List SocketId) → is_among k (k ∷ ks) ≡ true
among-own k ks = rw (same_refl k) refl

-- flags of closed sockets stay, and so does what the halves left
pub settled : (old new : Sources) (journal : List Entry) → ((k : SocketId) → is_among k (closed_in journal) ≡ true → new.broken k ≡ old.broken k) →
    ((k : SocketId) → new.unread k ≡ old.unread k) → ((k : SocketId) → new.trail k ≡ old.trail k) → AreSettled old new journal
settled old new [] b u t = tt
settled old new (entry.Closed k ∷ es) b u t =
    (b k (among-own k (closed_in es)), settled old new es (λ j c. b j (or_right (same_socket j k) (is_among j (closed_in es)) c)) u t)
settled old new (entry.Judged k ask number answer ∷ es) b u t = (λ _. (u k, t k), settled old new es b u t)
settled old new (entry.Post place ∷ es) b u t = (tt, settled old new es b u t)
settled old new (entry.Dial ∷ es) b u t = (tt, settled old new es b u t)
settled old new (entry.Opened k ∷ es) b u t = (tt, settled old new es b u t)
settled old new (entry.Read k n ∷ es) b u t = (tt, settled old new es b u t)
settled old new (entry.Wrote k n ∷ es) b u t = (tt, settled old new es b u t)
settled old new (entry.Asked ident number ∷ es) b u t = (tt, settled old new es b u t)
settled old new (entry.Numbered number ∷ es) b u t = (tt, settled old new es b u t)
settled old new (entry.Accepted number key ∷ es) b u t = (tt, settled old new es b u t)
settled old new (entry.Acked number ∷ es) b u t = (tt, settled old new es b u t)
settled old new (entry.Obeyed full ∷ es) b u t = (tt, settled old new es b u t)
settled old new (entry.Down planned ∷ es) b u t = (tt, settled old new es b u t)

-- ---- from ends to what a journal speaks of

abbrev pub ground : List Planned → List SeenEnd → List TrailNow → Grounds
ground plan ends trails = record { plan = plan; ends = ends; trails = trails }

module _ (journal : List Entry) (plan planned : List Planned) (old new : List SeenEnd) (trails : List TrailNow) (more : IsExtended plan planned) (h : EndsStay journal old new) where
  pub logs-stay : KeepLogs (sources_of (ground plan old trails)) (sources_of (ground planned new trails))
  logs-stay = record {
    plan = more;
    got = λ k. ap (drop (read_before (trail_at trails k))) (h.got k);
    put = λ k. ap (drop (written_before (trail_at trails k))) (h.put k);
    runs = λ k. ap (drop (runs_before (trail_at trails k))) (h.runs k);
  }

  pub all-settled : AreSettled (sources_of (ground plan old trails)) (sources_of (ground planned new trails)) journal
  all-settled = settled (sources_of (ground plan old trails)) (sources_of (ground planned new trails)) journal h.broken
      (λ k. unread-same (trail_at trails k) (log_at old k) (log_at new k) (h.got k)) (λ k. refl)

  -- a replay stays as the plan goes on and the logs stay
  pub replay-stays : (f : SideFacts) (s : State) → IsReplay f (sources_of (ground plan old trails)) journal s → IsReplay f (sources_of (ground planned new trails)) journal s
  replay-stays f s r = replays_stay f (sources_of (ground plan old trails)) (sources_of (ground planned new trails)) journal s r
      (kept-continues (sources_of (ground plan old trails)) (sources_of (ground planned new trails)) journal r.covering logs-stay all-settled)
      (kept-covers (sources_of (ground plan old trails)) (sources_of (ground planned new trails)) journal r.covering logs-stay)

pub as-planned : (plan : List Planned) → IsExtended plan plan
as-planned plan = ([], sym (append-nil plan))

-- ---- one entry more, of which nothing moves

module _ (f : SideFacts) (g : Grounds) (journal : List Entry) (e : Entry) (s : State) where
  pub one-more : IsReplay f (sources_of g) journal s → MovesNothing e → StepIsThere (sources_of g) journal e → Lawful f (item_of (sources_of g) (reach_of journal) e) s →
      IsReplay f (sources_of g) (journal ++ e ∷ []) (after f (item_of (sources_of g) (reach_of journal) e) s)
  one-more r still step law = one_more f (sources_of g) (sources_of g) journal e s r
      (kept-continues (sources_of g) (sources_of g) journal r.covering same (settled (sources_of g) (sources_of g) journal (λ k c. refl) (λ k. refl) (λ k. refl)))
      (still-covers (sources_of g) (sources_of g) journal e r.covering same still step) law
    where
      same : KeepLogs (sources_of g) (sources_of g)
      same = record { plan = ([], sym (append-nil g.plan)); got = λ k. refl; put = λ k. refl; runs = λ k. refl }
