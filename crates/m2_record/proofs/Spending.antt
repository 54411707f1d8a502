-- A socket that was the feed has its entry, whether another feed came in its place or none.
use Rattle.std.proofs.Common.{◌≡◌, if◌then◌else◌, Bool, true, false, List, [], ◌∷◌, ◌++◌, Option, Some, None, inr, refl, sym, ap, subst, ◌∙◌}
use Rattle.std.proofs.lemmas.List.{append-nil}
use Rattle.m2_core.specs.Agrees.{Agrees}
use Rattle.m2_core.proofs.Agreeing.{feeds_as}
use Rattle.m2_fabric.specs.declared.socket.SocketId.{SocketId}
use Rattle.m2_fabric.specs.End.{SeenEnd}
use Rattle.m2_fabric.specs.Sockets.{IsNewTo, is_among}
use Rattle.m2_feed.specs.FeedNow.{FeedNow}
use Rattle.m2_feed.proofs.Beside.{changes}
use Rattle.m2_journal.specs.declared.entry.Entry.{Entry}
use Rattle.m2_journal.specs.declared.entry.Entry.TheVariants as entry
use Rattle.m2_journal.specs.Items.{item_of, reach_of}
use Rattle.m2_journal.specs.Replay.{IsReplay}
use Rattle.m2_journal.specs.State.{Feed, State}
use Rattle.m2_journal.specs.Steps.{after, breaks, forgets, is_on, without}
use Rattle.m2_record.specs.Calls.{closed_entries}
use Rattle.m2_record.specs.IsRecord.{FeedIsOpen, IsRecord, IsReplayedTo, IsWellKept, closed_in}
use Rattle.m2_record.specs.RecordNow.{RecordNow, ends_of, grounds_of, ids_of, speaks_of}
use Rattle.m2_record.specs.TakenTrails.{HaveTrails}
use Rattle.m2_record.proofs.Entering.{reach-more}
use Rattle.m2_record.proofs.Keeping.{one-more}
use Rattle.m2_record.proofs.Kept.{kept-closed-as}
use Rattle.m2_record.proofs.Trailing.{trails-behind}
use Rattle.m2_bytes.proofs.m2_lemmas.Booleans.{false_isnt_true}
use Rattle.m2_fabric.proofs.Sockets.{same_refl}

closed-off : (b : Bool) (k : SocketId) (s : State) → b ≡ false → (if b then breaks s else forgets k s) ≡ forgets k s
closed-off false k s e = refl
closed-off true k s e = absurd (false_isnt_true (sym e))

is-own : (k : SocketId) (sockets : List SocketId) → sockets ≡ k ∷ [] → is_among k sockets ≡ true
is-own k sockets e = rw (e, same_refl k) refl

without-own : (k : SocketId) (sockets : List SocketId) → sockets ≡ k ∷ [] → without k sockets ≡ []
without-own k sockets e = rw (e, same_refl k) refl

open-still : (spent : List SeenEnd) (before journal : List Entry) (o : Option FeedNow) → closed_in journal ≡ ids_of spent → FeedIsOpen spent before o → FeedIsOpen spent journal o
open-still spent before journal (Some v) e h = record { unspent = h.unspent; unclosed = subst (λ (l : List SocketId). IsNewTo l v.end.id) (sym e) h.unspent }
open-still spent before journal None e h = tt

-- this socket alone is spent, and isn't the feed
module _ (r : RecordNow) (s : State) (h : IsReplayedTo s r) (k : SocketId) (off : is_on k s.feed ≡ false) (spent : s.spent ≡ k ∷ []) where
  forgot : after r.core.facts (item_of (speaks_of r) (reach_of r.journal) (entry.Closed k)) s ≡ forgets k s
  forgot = closed-off (is_on k s.feed) k s off

  still-there : Agrees r.core (forgets k s)
  still-there = record {
    session = h.core.session;
    queue = h.core.queue;
    last = h.core.last;
    life = h.core.life;
    owes = h.core.owes;
    dials = h.core.dials;
    top = h.core.top;
    feed = feeds_as changes r.core.facts s (forgets k s) r.core.live.feed s.feed refl refl refl h.core.feed;
    resumed = h.core.resumed;
  }

  pub closes-off : closed_in (r.journal ++ entry.Closed k ∷ []) ≡ ids_of r.spent → HaveTrails r.core.facts.node.entity (ends_of r) r.journal r.trails → IsWellKept r →
      IsRecord (record r { journal = r.journal ++ entry.Closed k ∷ [] })
  closes-off closed trails kept = record {
    state = forgets k s;
    at_state = record {
      replay = subst (IsReplay r.core.facts (speaks_of r) (r.journal ++ entry.Closed k ∷ [])) forgot
          (one-more r.core.facts (grounds_of r) r.journal (entry.Closed k) s h.replay tt tt (inr (is-own k s.spent spent)));
      core = still-there;
      steps = h.steps;
      reach = ap (λ p. p.steps) (reach-more r.journal (entry.Closed k)) ∙ h.reach;
      parcels = h.parcels;
      spent = h.spent;
      feed = open-still r.spent r.journal (r.journal ++ entry.Closed k ∷ []) r.core.live.feed closed h.feed;
      room = h.room;
      few = h.few;
    };
    settled = without-own k s.spent spent;
    closed = closed;
    trails = trails-behind r.core.facts.node.entity (ends_of r) r.journal (entry.Closed k) r.trails refl trails;
    kept = kept-closed-as r k kept;
  }

-- what is spent is that end, where there is one, and it isn't the feed
abbrev pub SpentOff : Option SeenEnd → Option Feed → List SocketId → Type 0
SpentOff (Some e) feed sockets = (sockets ≡ e.id ∷ []) × (is_on e.id feed ≡ false)
SpentOff None feed sockets = sockets ≡ []

pub closes-behind : (r : RecordNow) (s : State) (closed : Option SeenEnd) → IsReplayedTo s r → IsWellKept r → SpentOff closed s.feed s.spent → closed_in (r.journal ++ closed_entries closed) ≡ ids_of r.spent →
    HaveTrails r.core.facts.node.entity (ends_of r) r.journal r.trails → IsRecord (record r { journal = r.journal ++ closed_entries closed })
closes-behind r s (Some e) h kept spent closed trails = closes-off r s h e.id spent.1 spent.0 closed trails kept
closes-behind r s None h kept spent closed trails = subst (λ (l : List Entry). IsRecord (record r { journal = l })) (sym (append-nil r.journal))
    (record { state = s; at_state = h; settled = spent; closed = sym (ap closed_in (append-nil r.journal)) ∙ closed; trails = trails; kept = kept })
