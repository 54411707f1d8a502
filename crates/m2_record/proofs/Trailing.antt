-- Trails beside the logs of their ends, as these go on and the journal does.
use Rattle.std.proofs.Common.{◌≡◌, ℕ, ◌≤◌, Bool, true, false, List, [], ◌∷◌, ◌++◌, drop, take, length, Option, Some, None, refl, sym, ap, subst, ◌∙◌, arith, length-append}
use Rattle.std.specs.Prelude.{IfSome, if◌then◌else◌}
use Rattle.std.specs.List.{AllByRecursion, filter_map}
use Rattle.std.specs.Option.{option_to_list}
use Rattle.std.proofs.lemmas.List.{append-nil, drop-append-le, map-append}
use Rattle.std.proofs.lemmas.List.Elements.{filter_map-append}
use Rattle.m2_fabric.specs.declared.log.Run.{Run}
use Rattle.m2_fabric.specs.declared.socket.SocketId.{SocketId}
use Rattle.m2_fabric.specs.End.{SeenEnd}
use Rattle.m2_fabric.specs.Log.{Log}
use Rattle.m2_fabric.specs.Sockets.{same_socket}
use Rattle.m2_handshake.specs.Course.{acceptor_course}
use Rattle.m2_handshake.specs.Laws.{IsPrefix}
use Rattle.m2_journal.specs.declared.entry.Entry.{Entry}
use Rattle.m2_journal.specs.declared.entry.Entry.TheVariants as entry
use Rattle.m2_journal.specs.Lawful.{judged_on}
use Rattle.m2_journal.specs.State.{Judgement}
use Rattle.m2_trail.specs.TrailLaws.{GoesOn}
use Rattle.m2_trail.specs.Replies.{replies_to}
use Rattle.m2_trail.specs.Trails as trail
use Rattle.m2_trail.specs.Trails.{TrailNow, opener_of, read_by, unread_of}
use Rattle.m2_trail.proofs.Points.{prefix_trans}
use Rattle.m2_trail.proofs.Staying.{trails_stay}
use Rattle.m2_record.specs.Calls.{closed_entries}
use Rattle.m2_record.specs.IsRecord.{closed_by, closed_in}
use Rattle.m2_record.specs.RecordNow.{ids_of}
use Rattle.m2_record.specs.Sources as source
use Rattle.m2_record.specs.Sources.{end_at, log_at, log_of, read_before, runs_before, trail_at, written_before}
use Rattle.m2_record.specs.TakenTrails.{HaveTrails, IsKeptTrail, IsTrailBeside, judgement_of, judgements_in, taken_by, taken_in}
use Rattle.m2_record.proofs.Ends.{EndsStay}
use Rattle.m2_fabric.proofs.Sockets.{same_equal, same_refl}

-- ---- one trail

-- the bytes of both directions, and the runs
pub record LogGoesOn (old new : Log) : Type 0 where
  pub got : IsPrefix old.got new.got
  pub put : IsPrefix old.put new.put
  pub runs : IsPrefix old.runs new.runs

pub prefix-same : {X : Type 0} (old new : List X) → new ≡ old → IsPrefix old new
prefix-same old new e = ([], e ∙ sym (append-nil old))

prefix-length : {X : Type 0} (old new : List X) → IsPrefix old new → length old ≤ length new
prefix-length old new g = let e = ap length g.1 in let l = length-append old g.0 in omega (arith, e, l)

pub same-log : (l : Log) → LogGoesOn l l
same-log l = record { got = prefix-same l.got l.got refl; put = prefix-same l.put l.put refl; runs = prefix-same l.runs l.runs refl }

goes-on : (old new : Log) → LogGoesOn old new → GoesOn old new
goes-on old new g = record { got = g.got; put = g.put }

pub beside-stays : (t : TrailNow) (old new : Log) → LogGoesOn old new → IsTrailBeside t old → IsTrailBeside t new
beside-stays t old new g h =
    let got = prefix-length old.got new.got g.got in
    let put = prefix-length old.put new.put g.put in
    record {
      entries = h.entries;
      runs = prefix_trans (trail.runs_of t) old.runs new.runs h.runs g.runs;
      within = record { got = omega (arith, h.within.got, got); put = omega (arith, h.within.put, put) };
      facts = trails_stay.facts t old new h.within (goes-on old new g) h.facts;
      taken = trails_stay.taken t old new h.within (goes-on old new g) h.taken;
    }

-- ---- what a log has behind its trail

-- a trail, where there is one, beside this log
abbrev pub Beside : Option TrailNow → Log → Type 0
Beside o log = IfSome o (λ t. IsTrailBeside t log)

pub read-fits : (o : Option TrailNow) (log : Log) → Beside o log → read_before o ≤ length log.got
read-fits (Some t) log h = h.within.got
read-fits None log h = omega arith

pub written-fits : (o : Option TrailNow) (log : Log) → Beside o log → written_before o ≤ length log.put
written-fits (Some t) log h = h.within.put
written-fits None log h = omega arith

pub runs-fit : (o : Option TrailNow) (log : Log) → Beside o log → runs_before o ≤ length log.runs
runs-fit (Some t) log h = prefix-length (trail.runs_of t) log.runs h.runs
runs-fit None log h = omega arith

pub got-more : (o : Option TrailNow) (log : Log) (more : List ℕ) → Beside o log → drop (read_before o) (log.got ++ more) ≡ drop (read_before o) log.got ++ more
got-more o log more h = drop-append-le (read_before o) log.got more (read-fits o log h)

pub put-more : (o : Option TrailNow) (log : Log) (more : List ℕ) → Beside o log → drop (written_before o) (log.put ++ more) ≡ drop (written_before o) log.put ++ more
put-more o log more h = drop-append-le (written_before o) log.put more (written-fits o log h)

pub runs-more : (o : Option TrailNow) (log : Log) (more : List Run) → Beside o log → drop (runs_before o) (log.runs ++ more) ≡ drop (runs_before o) log.runs ++ more
runs-more o log more h = drop-append-le (runs_before o) log.runs more (runs-fit o log h)

-- what the half left unread stays, by the same bytes and by more
unread-as : (t : TrailNow) (old new : Log) → new.got ≡ old.got → unread_of t new ≡ unread_of t old
unfolding unread_of
unread-as t old new e = ap (λ (g : List ℕ). (acceptor_course t.entity (opener_of t.socket) (take (read_by (trail.runs_of t)) g) (replies_to t.judged)).standing.rest) e

pub unread-same : (o : Option TrailNow) (old new : Log) → new.got ≡ old.got → source.unread_of o new ≡ source.unread_of o old
unread-same (Some t) old new e = unread-as t old new e
unread-same None old new e = refl

pub unread-stays : (o : Option TrailNow) (old new : Log) → Beside o old → LogGoesOn old new → source.unread_of o new ≡ source.unread_of o old
unread-stays (Some t) old new h g = trails_stay.unread t old new h.within (goes-on old new g)
unread-stays None old new h g = refl

-- ---- the trail of a socket

same-beside : (t : TrailNow) (k : SocketId) (ends : List SeenEnd) → same_socket k t.socket ≡ true → IsTrailBeside t (log_at ends t.socket) → IsTrailBeside t (log_at ends k)
same-beside t k ends e h = subst (λ (j : SocketId). IsTrailBeside t (log_at ends j)) (sym (same_equal k t.socket e)) h

at-first : (kind : ℕ) (ends : List SeenEnd) (journal : List Entry) (t : TrailNow) (o : Option TrailNow) (k : SocketId) (b : Bool) → same_socket k t.socket ≡ b → IsKeptTrail kind ends journal t → Beside o (log_at ends k) →
    Beside (if b then Some t else o) (log_at ends k)
at-first kind ends journal t o k true e h rest = same-beside t k ends e h.beside
at-first kind ends journal t o k false e h rest = rest

at-socket : (kind : ℕ) (ends : List SeenEnd) (journal : List Entry) (ts : List TrailNow) (k : SocketId) → AllByRecursion (IsKeptTrail kind ends journal) ts → Beside (trail_at ts k) (log_at ends k)
at-socket kind ends journal [] k h = tt
at-socket kind ends journal (t ∷ ts) k h = at-first kind ends journal t (trail_at ts k) k (same_socket k t.socket) refl h.0 (at-socket kind ends journal ts k h.1)

pub trail-there : (kind : ℕ) (ends : List SeenEnd) (journal : List Entry) (ts : List TrailNow) (k : SocketId) → HaveTrails kind ends journal ts → Beside (trail_at ts k) (log_at ends k)
trail-there kind ends journal ts k h = at-socket kind ends journal ts k h.each

-- that of the first end
pub first-here : (e : SeenEnd) (ends : List SeenEnd) (o : Option TrailNow) → Beside o (log_at (e ∷ ends) e.id) → Beside o e.log
first-here e ends o h = subst (λ (b : Bool). Beside o (log_of (if b then Some e else end_at ends e.id))) (same_refl e.id) h

pub first-there : (kind : ℕ) (e : SeenEnd) (ends : List SeenEnd) (journal : List Entry) (ts : List TrailNow) → HaveTrails kind (e ∷ ends) journal ts → Beside (trail_at ts e.id) e.log
first-there kind e ends journal ts h = first-here e ends (trail_at ts e.id) (trail-there kind (e ∷ ends) journal ts e.id h)

-- ---- one entry more

filtered-none : {X Y : Type 0} (f : X → Option Y) (x : X) → f x ≡ None → filter_map f (x ∷ []) ≡ []
filtered-none f x e = rw e refl

pub filtered-more : {X Y : Type 0} (f : X → Option Y) (xs : List X) (x : X) → f x ≡ None → filter_map f (xs ++ x ∷ []) ≡ filter_map f xs
filtered-more {X} {Y} f xs x e = filter_map-append f xs (x ∷ []) ∙ ap (λ (l : List Y). filter_map f xs ++ l) (filtered-none f x e) ∙ append-nil (filter_map f xs)

none-taken : (e : Entry) → judgement_of e ≡ None → taken_by e ≡ None
none-taken (entry.Judged socket ask number answer) h = absurd (subst (λ (o : Option Judgement). elim o as (λ _. Type 0) [ None ↦ ⊥ | Some x ↦ Unit {0} ]) h tt)
none-taken _ h = refl

-- ---- all of them

-- the logs of all sockets
abbrev pub LogsGoOn : List SeenEnd → List SeenEnd → Type 0
LogsGoOn old new = (k : SocketId) → LogGoesOn (log_at old k) (log_at new k)

pub ends-go-on : (journal : List Entry) (old new : List SeenEnd) → EndsStay journal old new → LogsGoOn old new
ends-go-on journal old new h k = record {
  got = prefix-same (log_at old k).got (log_at new k).got (h.got k);
  put = prefix-same (log_at old k).put (log_at new k).put (h.put k);
  runs = prefix-same (log_at old k).runs (log_at new k).runs (h.runs k);
}

-- the first end goes on
pub first-goes-on : (e f : SeenEnd) (ends : List SeenEnd) → f.id ≡ e.id → LogGoesOn e.log f.log → LogsGoOn (e ∷ ends) (f ∷ ends)
first-goes-on e f ends id g k =
    subst (λ (j : SocketId). LogGoesOn (log_at (e ∷ ends) k) (log_of (if same_socket k j then Some f else end_at ends k))) (sym id) (at (same_socket k e.id))
  where
    at : (b : Bool) → LogGoesOn (log_of (if b then Some e else end_at ends k)) (log_of (if b then Some f else end_at ends k))
    at true = g
    at false = same-log (log_at ends k)

module _ (kind : ℕ) (old new : List SeenEnd) (before after : List Entry) (go : LogsGoOn old new) (judged : judgements_in after ≡ judgements_in before) where
  each-stays : (ts : List TrailNow) → AllByRecursion (IsKeptTrail kind old before) ts → AllByRecursion (IsKeptTrail kind new after) ts
  each-stays [] h = tt
  each-stays (t ∷ ts) h = (
    record {
      entity = h.0.entity;
      beside = beside-stays t (log_at old t.socket) (log_at new t.socket) (go t.socket) h.0.beside;
      judged = h.0.judged ∙ ap (λ (l : List Judgement). judged_on t.socket l) (sym judged);
    },
    each-stays ts h.1,
  )

  pub trails-stay : (ts : List TrailNow) → taken_in after ≡ taken_in before → HaveTrails kind old before ts → HaveTrails kind new after ts
  trails-stay ts taken h = record { sockets = h.sockets ∙ sym taken; each = each-stays ts h.each }

-- the journal stays
pub trails-go-on : (kind : ℕ) (old new : List SeenEnd) (journal : List Entry) (ts : List TrailNow) → LogsGoOn old new → HaveTrails kind old journal ts → HaveTrails kind new journal ts
trails-go-on kind old new journal ts go h = trails-stay kind old new journal journal go refl ts refl h

-- an entry more, by which nothing was judged
pub trails-more : (kind : ℕ) (old new : List SeenEnd) (journal : List Entry) (e : Entry) (ts : List TrailNow) → LogsGoOn old new → judgement_of e ≡ None → HaveTrails kind old journal ts →
    HaveTrails kind new (journal ++ e ∷ []) ts
trails-more kind old new journal e ts go none h =
    trails-stay kind old new journal (journal ++ e ∷ []) go (filtered-more judgement_of journal e none) ts (filtered-more taken_by journal e (none-taken e none)) h

-- and the ends stay
pub trails-behind : (kind : ℕ) (ends : List SeenEnd) (journal : List Entry) (e : Entry) (ts : List TrailNow) → judgement_of e ≡ None → HaveTrails kind ends journal ts →
    HaveTrails kind ends (journal ++ e ∷ []) ts
trails-behind kind ends journal e ts none h = trails-more kind ends ends journal e ts (λ k. same-log (log_at ends k)) none h

-- ---- closed sockets

-- the end of a feed that was left is the last of those that were the feed, and its socket has its entry
pub closed-behind : (journal : List Entry) (spent : List SeenEnd) (closed : Option SeenEnd) → closed_in journal ≡ ids_of spent → closed_in (journal ++ closed_entries closed) ≡ ids_of (spent ++ option_to_list closed)
closed-behind journal spent (Some e) h =
    filter_map-append closed_by journal (closed_entries (Some e)) ∙ ap (λ (l : List SocketId). l ++ e.id ∷ []) h ∙ sym (map-append (λ (x : SeenEnd). x.id) spent (e ∷ []))
closed-behind journal spent None h = ap closed_in (append-nil journal) ∙ h ∙ sym (ap ids_of (append-nil spent))
