-- A record answers an ask of its peer by taking the socket.
use Rattle.std.proofs.Common.{◌≡◌, ℕ, ◌-◌, ◌<◌, ◌≤◌, ◌||◌, if◌then◌else◌, Bool, true, false, List, [], ◌∷◌, ◌++◌, drop, length, map, Option, Some, None, refl, sym, ap, subst, ◌∙◌, arith}
use Rattle.std.specs.Prelude.{IfSome, IsSome}
use Rattle.std.specs.List.{AllByRecursion, filter_map}
use Rattle.std.specs.Option.{option_to_list}
use Rattle.std.proofs.Math.Seq.{drop-length}
use Rattle.std.proofs.lemmas.List.{append-nil, map-append}
use Rattle.std.proofs.lemmas.List.Elements.{filter_map-append}
use Rattle.m2_session.specs.declared.ask.AskFacts.{AskFacts}
use Rattle.m2_core.specs.Effects.{IsAftermath, closed_if, effects_of}
use Rattle.m2_core.specs.Waits.{stepped}
use Rattle.m2_core.specs.declared.waits.Waits.{Waits}
use Rattle.m2_core.specs.Agrees.{Agrees}
use Rattle.m2_core.specs.CoreNow.{CoreNow}
use Rattle.m2_core.specs.Judging.{IsVerdict, MayBeJudged, judgement_of, told_of}
use Rattle.m2_core.specs.TakingOver.{IsTakenFeed, MakesJudgement, after_taking}
use Rattle.m2_core.specs.declared.verdict.Verdict.{Verdict}
use Rattle.m2_core.proofs.Judged.{closes_all}
use Rattle.m2_dispatch.specs.declared.parcel.Parcel.{Parcel}
use Rattle.m2_fabric.specs.declared.log.Run.{Run}
use Rattle.m2_fabric.specs.declared.socket.SocketId.{SocketId}
use Rattle.m2_fabric.specs.End.{SeenEnd}
use Rattle.m2_fabric.specs.Log.{Log, nothing_done}
use Rattle.m2_fabric.specs.Sockets.{IsNewTo, is_among, same_socket}
use Rattle.m2_feed.specs.FeedNow.{FeedNow}
use Rattle.m2_journal.specs.declared.entry.Entry.{Entry}
use Rattle.m2_journal.specs.declared.entry.Entry.TheVariants as entry
use Rattle.m2_journal.specs.declared.entry.JudgedItem.{JudgedItem}
use Rattle.m2_journal.specs.Growth.{IsSettled}
use Rattle.m2_journal.specs.Items.{Sources, item_of, reach_of, where_taken}
use Rattle.m2_journal.specs.Lawful.{IsOfTrail, Lawful, judged_on, may_ask_again}
use Rattle.m2_journal.specs.OutFrames.{replies_of}
use Rattle.m2_journal.specs.Plan.{Planned, planned}
use Rattle.m2_journal.specs.Replay.{IsReplay}
use Rattle.m2_journal.specs.SideFacts.{SideFacts}
use Rattle.m2_journal.specs.State.{Feed, State}
use Rattle.m2_journal.specs.Steps as journal
use Rattle.m2_journal.specs.Steps.{after, is_on}
use Rattle.m2_journal.proofs.Growing.{one_more}
use Rattle.m2_journal.proofs.Sockets.{judgement}
use Rattle.m2_session.specs.declared.answer.Answer.{Answer}
use Rattle.m2_session.specs.declared.event.Effects.{Effects}
use Rattle.m2_session.specs.declared.session.Session.{Session}
use Rattle.m2_session.specs.SessionLaws.{takes}
use Rattle.m2_trail.specs.Trails as trail
use Rattle.m2_trail.specs.Trails.{IsTakenTrail, IsWholeTrail, TrailNow, closing, entry_of, read_by, unread_of, written_by}
use Rattle.m2_trail.proofs.Points.{prefix_trans}
use Rattle.m2_trail.proofs.Staying.{trails_cover}
use Rattle.m2_record.specs.Calls.{KeepsEnds, closed_entries, told_parcels}
use Rattle.m2_record.specs.Entered.{AreSettled, KeepLogs}
use Rattle.m2_record.specs.IsRecord.{FeedIsOpen, IsRecord, IsReplayedTo, IsWellKept, became_feed, closed_by, closed_in, feeds_in}
use Rattle.m2_record.specs.Judging.{CanBeTaken, IsWholeHalf, TakenHalf, TakesOver, after_taking_over, effects_at, judged_entry}
use Rattle.m2_record.specs.RecordNow.{RecordNow, Rooms, ends_of, feed_end, ids_of, speaks_of}
use Rattle.m2_record.specs.Sources as source
use Rattle.m2_record.specs.Sources.{broken_of, end_at, got_of, log_at, log_of, put_of, read_before, runs_before, runs_of, sources_of, trail_at, written_before}
use Rattle.m2_record.specs.TakenTrails.{HaveTrails, IsKeptTrail, IsTrailBeside, judgements_in, taken_by, taken_in}
use Rattle.m2_record.proofs.Answered.{judges-beside, tells_if-fits}
use Rattle.m2_record.proofs.Ends.{EndsStay, end-new}
use Rattle.m2_record.proofs.Entering.{kept-continues, reach-more, still-covers}
use Rattle.m2_record.proofs.FeedLeft.{SpentIs, closed-left, ends-left, parcels-left, spent-is}
use Rattle.m2_record.proofs.Judgements.{each-still, judged-now, judged-there, never-fed, unclosed, unopened, untaken}
use Rattle.m2_record.proofs.Keeping.{as-planned, ground, replay-stays}
use Rattle.m2_record.proofs.Kept.{ids-left, stepped-within, told-from}
use Rattle.m2_record.proofs.Naming.{with-head}
use Rattle.m2_record.proofs.Opens.{closed-more, still-open}
use Rattle.m2_record.proofs.Spending.{SpentOff, closes-behind}
use Rattle.m2_record.proofs.Telling.{Beside, beside, feed_left, spent_if, told_by}
use Rattle.m2_record.proofs.Trailing.{LogGoesOn, LogsGoOn, closed-behind, ends-go-on, prefix-same, same-log, trails-go-on}
use Rattle.m2_bytes.proofs.m2_lemmas.Booleans.{neither_of_or, false_isnt_true}
use Rattle.m2_bytes.proofs.m2_lemmas.Lists.{all_last}
use Rattle.m2_fabric.proofs.Sockets.{apart_turned, same_equal, same_refl}

-- ---- a trail more

trail-last : (ts : List TrailNow) (t : TrailNow) (k : SocketId) → IsNewTo (map (λ (t : TrailNow). t.socket) ts) k → trail_at (ts ++ t ∷ []) k ≡ trail_at (t ∷ []) k
trail-last [] t k h = refl
trail-last (x ∷ xs) t k h = let two = neither_of_or (same_socket k x.socket) (is_among k (map (λ (t : TrailNow). t.socket) xs)) h in rw two.0 (trail-last xs t k two.1)

trail-new : (ts : List TrailNow) (k : SocketId) → IsNewTo (map (λ (t : TrailNow). t.socket) ts) k → trail_at ts k ≡ None
trail-new [] k h = refl
trail-new (x ∷ xs) k h = let two = neither_of_or (same_socket k x.socket) (is_among k (map (λ (t : TrailNow). t.socket) xs)) h in rw two.0 (trail-new xs k two.1)

trail-other : (ts : List TrailNow) (t : TrailNow) (k : SocketId) → same_socket k t.socket ≡ false → trail_at (ts ++ t ∷ []) k ≡ trail_at ts k
trail-other [] t k h = rw h refl
trail-other (x ∷ xs) t k h = at (same_socket k x.socket) (trail-other xs t k h)
  where
    at : (b : Bool) → trail_at (xs ++ t ∷ []) k ≡ trail_at xs k → (if b then Some x else trail_at (xs ++ t ∷ []) k) ≡ (if b then Some x else trail_at xs k)
    at true rest = refl
    at false rest = rest

-- ---- entries that are settled

among-head : (p : Entry → Option SocketId) (e : Entry) (es : List Entry) (k : SocketId) → p e ≡ Some k → is_among k (filter_map p (e ∷ es)) ≡ true
among-head p e es k h = ap (is_among k) (with-head p e es ∙ ap (λ (o : Option SocketId). option_to_list o ++ filter_map p es) h) ∙ rw (same_refl k) refl

among-tail : (p : Entry → Option SocketId) (e : Entry) (es : List Entry) (k : SocketId) → is_among k (filter_map p es) ≡ true → is_among k (filter_map p (e ∷ es)) ≡ true
among-tail p e es k h = ap (is_among k) (with-head p e es) ∙ at (p e)
  where
    either : (a b : Bool) → b ≡ true → a || b ≡ true
    either true b g = refl
    either false b g = g

    at : (o : Option SocketId) → is_among k (option_to_list o ++ filter_map p es) ≡ true
    at (Some j) = either (same_socket k j) (is_among k (filter_map p es)) h
    at None = h

one-settled : (old new : Sources) (e : Entry) → ((k : SocketId) → closed_by e ≡ Some k → new.broken k ≡ old.broken k) →
    ((k : SocketId) → taken_by e ≡ Some k → (new.unread k ≡ old.unread k) × (new.trail k ≡ old.trail k)) → IsSettled old new e
one-settled old new (entry.Closed k) b u = b k refl
one-settled old new (entry.Judged k ask number answer) b u = λ t. u k (rw t refl)
one-settled old new _ b u = tt

-- flags of closed sockets stay, and so does what the halves left of those that were taken
settled-there : (old new : Sources) (journal : List Entry) → ((k : SocketId) → is_among k (closed_in journal) ≡ true → new.broken k ≡ old.broken k) →
    ((k : SocketId) → is_among k (taken_in journal) ≡ true → (new.unread k ≡ old.unread k) × (new.trail k ≡ old.trail k)) → AreSettled old new journal
settled-there old new [] b u = tt
settled-there old new (e ∷ es) b u = (
  one-settled old new e (λ k h. b k (among-head closed_by e es k h)) (λ k h. u k (among-head taken_by e es k h)),
  settled-there old new es (λ k c. b k (among-tail closed_by e es k c)) (λ k c. u k (among-tail taken_by e es k c)),
)

-- of two sockets one is among these, the other isn't
among-another : (k j : SocketId) (ks : List SocketId) → is_among k ks ≡ true → IsNewTo ks j → same_socket k j ≡ false
among-another k j ks among new = at (same_socket k j) refl
  where
    at : (b : Bool) → same_socket k j ≡ b → b ≡ false
    at true e = absurd (false_isnt_true (sym (subst (IsNewTo ks) (sym (same_equal k j e)) new) ∙ among))
    at false e = refl

-- ---- what the journal speaks of, with one end and its trail more: behind the trail its log has nothing

all-gone : {X : Type 0} (n : ℕ) (xs : List X) → n ≡ length xs → drop n xs ≡ []
all-gone n xs e = rw e (drop-length xs)

module _ (plan : List Planned) (ends : List SeenEnd) (ts : List TrailNow) (x : SeenEnd) (t : TrailNow)
    (new : IsNewTo (ids_of ends) x.id) (untaken : IsNewTo (map (λ (t : TrailNow). t.socket) ts) x.id) (whole : IsWholeTrail t x) where
  abbrev old_there : Sources
  old_there = sources_of (ground plan ends ts)

  abbrev new_there : Sources
  new_there = sources_of (ground plan (x ∷ ends) (ts ++ t ∷ []))

  all-runs : trail.runs_of t ≡ x.log.runs
  all-runs = trails_cover.runs t x whole

  its-trail : trail_at (ts ++ t ∷ []) x.id ≡ Some t
  its-trail = trail-last ts t x.id untaken ∙ first (same_socket x.id t.socket) (subst (λ (k : SocketId). same_socket x.id k ≡ true) (sym whole.socket) (same_refl x.id))
    where
      first : (b : Bool) → b ≡ true → (if b then Some t else None) ≡ Some t
      first true e = refl
      first false e = absurd (false_isnt_true e)

  its-end : end_at (x ∷ ends) x.id ≡ Some x
  its-end = first (same_socket x.id x.id) (same_refl x.id)
    where
      first : (b : Bool) → b ≡ true → (if b then Some x else end_at ends x.id) ≡ Some x
      first true e = refl
      first false e = absurd (false_isnt_true e)

  other-trail : (k : SocketId) → same_socket k x.id ≡ false → trail_at (ts ++ t ∷ []) k ≡ trail_at ts k
  other-trail k e = trail-other ts t k (subst (λ (j : SocketId). same_socket k j ≡ false) (sym whole.socket) e)

  other-end : (k : SocketId) → same_socket k x.id ≡ false → end_at (x ∷ ends) k ≡ end_at ends k
  other-end k e = rw e refl

  -- what is said of it, where it is said by its trail and its end
  here : {X : Type 0} (f : Option TrailNow → Option SeenEnd → X) → f (Some t) (Some x) ≡ f None None → (k : SocketId) → f (trail_at (ts ++ t ∷ []) k) (end_at (x ∷ ends) k) ≡ f (trail_at ts k) (end_at ends k)
  here {X} f same k = at (same_socket k x.id) refl
    where
      there : f (trail_at (ts ++ t ∷ []) x.id) (end_at (x ∷ ends) x.id) ≡ f (trail_at ts x.id) (end_at ends x.id)
      there = rw (its-trail, its-end, trail-new ts x.id untaken, end-new ends x.id new) same

      at : (b : Bool) → same_socket k x.id ≡ b → f (trail_at (ts ++ t ∷ []) k) (end_at (x ∷ ends) k) ≡ f (trail_at ts k) (end_at ends k)
      at true e = subst (λ (j : SocketId). f (trail_at (ts ++ t ∷ []) j) (end_at (x ∷ ends) j) ≡ f (trail_at ts j) (end_at ends j)) (sym (same_equal k x.id e)) there
      at false e = rw (other-trail k e, other-end k e) refl

  pub keep-logs : KeepLogs old_there new_there
  keep-logs = record {
    plan = as-planned plan;
    got = here (λ a b. drop (read_before a) (got_of b)) (all-gone (read_by (trail.runs_of t)) x.log.got (ap read_by all-runs ∙ sym whole.counted.got));
    put = here (λ a b. drop (written_before a) (put_of b)) (all-gone (written_by (trail.runs_of t)) x.log.put (ap written_by all-runs ∙ sym whole.counted.put));
    runs = here (λ a b. drop (runs_before a) (runs_of b)) (all-gone (length (trail.runs_of t)) x.log.runs (ap length all-runs));
  }

  -- the entries until then closed no socket of that name, and took none
  pub stay-settled : (journal : List Entry) → IsNewTo (closed_in journal) x.id → IsNewTo (taken_in journal) x.id → AreSettled old_there new_there journal
  stay-settled journal unclosed never = settled-there old_there new_there journal
      (λ k c. ap broken_of (other-end k (among-another k x.id (closed_in journal) c unclosed)))
      (λ k c. let e = among-another k x.id (taken_in journal) c never in (rw (other-trail k e, other-end k e) refl, ap source.judged_of (other-trail k e)))

  -- what its half had left unread, and what was judged of it
  pub unread-here : new_there.unread x.id ≡ unread_of t x.log
  unread-here = rw (its-trail, its-end) refl

  pub judged-of-it : new_there.trail x.id ≡ t.judged
  judged-of-it = rw its-trail refl

-- ---- the entry

-- the new feed is this socket
taken-on : (b : Bool) (j : SocketId) (f : SideFacts) (k : SocketId) (a : AskFacts) (number : ℕ) (answer : Answer) (unread : List ℕ) (s : State) → b ≡ true →
    is_on j (if b then journal.takes_socket f k a number unread s else journal.sends k (replies_of answer) s).feed ≡ same_socket j k
taken-on true j f k a number answer unread s e = refl
taken-on false j f k a number answer unread s e = absurd (false_isnt_true e)

of-trail : (b : Bool) (before : List JudgedItem) (this : JudgedItem) (trail : List JudgedItem) → trail ≡ before ++ this ∷ [] → IsOfTrail b before this (if b then trail else [])
of-trail true before this trail e = e
of-trail false before this trail e = tt

where-so : {X : Type 0} (b : Bool) (xs : List X) → b ≡ true → (if b then xs else []) ≡ xs
where-so true xs e = refl
where-so false xs e = absurd (false_isnt_true e)

-- the ends that stay, behind one more
ends-behind : (journal : List Entry) (x : SeenEnd) (old new : List SeenEnd) → EndsStay journal old new → EndsStay journal (x ∷ old) (x ∷ new)
ends-behind journal x old new h = record {
  got = λ k. at (λ o. got_of o) k (same_socket k x.id) (h.got k);
  put = λ k. at (λ o. put_of o) k (same_socket k x.id) (h.put k);
  runs = λ k. at (λ o. runs_of o) k (same_socket k x.id) (h.runs k);
  broken = λ k c. at (λ o. broken_of o) k (same_socket k x.id) (h.broken k c);
}
  where
    at : {X : Type 0} (f : Option SeenEnd → X) (k : SocketId) (b : Bool) → f (end_at new k) ≡ f (end_at old k) → f (if b then Some x else end_at new k) ≡ f (if b then Some x else end_at old k)
    at f k true e = refl
    at f k false e = e

logs-on : {a b c : Log} → LogGoesOn a b → LogGoesOn b c → LogGoesOn a c
logs-on {a} {b} {c} g h = record { got = prefix_trans a.got b.got c.got g.got h.got; put = prefix_trans a.put b.put c.put g.put h.put; runs = prefix_trans a.runs b.runs c.runs g.runs h.runs }

-- one end more goes on from where nothing was done
log-fresh : (l : Log) → LogGoesOn nothing_done l
log-fresh l = record { got = (l.got, refl); put = (l.put, refl); runs = (l.runs, refl) }

ends-added : (ends : List SeenEnd) (x : SeenEnd) → IsNewTo (ids_of ends) x.id → LogsGoOn ends (x ∷ ends)
ends-added ends x new k = at (same_socket k x.id) refl
  where
    at : (b : Bool) → same_socket k x.id ≡ b → LogGoesOn (log_at ends k) (log_of (if b then Some x else end_at ends k))
    at true e = subst (λ (o : Option SeenEnd). LogGoesOn (log_of o) x.log) (sym (end-new ends k (subst (IsNewTo (ids_of ends)) (sym (same_equal k x.id e)) new))) (log-fresh x.log)
    at false e = same-log (log_at ends k)

-- the half's trail stands beside the log of its end
beside-whole : (t : TrailNow) (x : SeenEnd) → x.log.closed ≡ false → IsWholeTrail t x → IsTakenTrail t x.log → IsTrailBeside t x.log
beside-whole t x unclosed whole taken = record {
  entries = whole.entries ∙ ap (λ b. map (entry_of t.socket) x.log.runs ++ closing t.socket b) unclosed ∙ append-nil (map (entry_of t.socket) x.log.runs) ∙ sym (ap (λ (l : List Run). map (entry_of t.socket) l) runs);
  runs = prefix-same (trail.runs_of t) x.log.runs (sym runs);
  within = trails_cover.within t x whole;
  facts = whole.facts;
  taken = taken;
}
  where
    runs : trail.runs_of t ≡ x.log.runs
    runs = trails_cover.runs t x whole

-- a trail more
trails-taken : (kind : ℕ) (ends : List SeenEnd) (journal : List Entry) (v : Verdict) (k : SocketId) (ts : List TrailNow) (t : TrailNow) → takes v.answer ≡ true → IsNewTo (taken_in journal) k → t.socket ≡ k → t.entity ≡ kind →
    IsTrailBeside t (log_at ends k) → t.judged ≡ judged_on k (judgements_in journal) ++ judgement_of v ∷ [] → HaveTrails kind ends journal ts → HaveTrails kind ends (journal ++ judged_entry v k ∷ []) (ts ++ t ∷ [])
trails-taken kind ends journal v k ts t takes_it new socket entity beside judged h = record {
  sockets = map-append (λ (t : TrailNow). t.socket) ts (t ∷ []) ∙ two (h.sockets) socket ∙ sym (filter_map-append taken_by journal (judged_entry v k ∷ []) ∙ ap (λ (l : List SocketId). taken_in journal ++ l) one);
  each = all_last (IsKeptTrail kind ends (journal ++ judged_entry v k ∷ [])) ts t
      (each-still kind ends journal v k ts (subst (λ (l : List SocketId). IsNewTo l k) (sym h.sockets) new) h.each)
      (record {
        entity = entity;
        beside = subst (λ (j : SocketId). IsTrailBeside t (log_at ends j)) (sym socket) beside;
        judged = judged ∙ sym (judged-now kind ends journal v k) ∙ ap (λ (j : SocketId). judged_on j (judgements_in (journal ++ judged_entry v k ∷ []))) (sym socket);
      });
}
  where
    one : taken_in (judged_entry v k ∷ []) ≡ k ∷ []
    one = rw takes_it refl

    two : {a b : List SocketId} {i j : SocketId} → a ≡ b → i ≡ j → a ++ i ∷ [] ≡ b ++ j ∷ []
    two e g = rw (e, g) refl

-- the old feed's socket is another
closed-other : (close : Bool) (o : Option FeedNow) (spent : List SeenEnd) (k : SocketId) (y : SeenEnd) → closed_if close o ≡ Some y → IsNewTo (ids_of (feed_end o ++ spent)) k → same_socket y.id k ≡ false
closed-other true (Some w) spent k y e new = subst (λ (j : SocketId). same_socket j k ≡ false) (named e) (apart_turned k w.end.id (neither_of_or (same_socket k w.end.id) (is_among k (ids_of spent)) new).0)
  where
    named : closed_if true (Some w) ≡ Some y → w.end.id ≡ y.id
    named e = ap (λ (o : Option SeenEnd). elim o as (λ _. SocketId) [ None ↦ w.end.id | Some z ↦ z.id ]) e
closed-other true None spent k y e new = absurd (no-end y e)
  where
    no-end : (y : SeenEnd) → None ≡ Some y → ⊥
    no-end y e = subst (λ (o : Option SeenEnd). elim o as (λ _. Type 0) [ None ↦ Unit {0} | Some z ↦ ⊥ ]) e tt
closed-other false o spent k y e new = absurd (no-end y e)
  where
    no-end : (y : SeenEnd) → None ≡ Some y → ⊥
    no-end y e = subst (λ (o : Option SeenEnd). elim o as (λ _. Type 0) [ None ↦ Unit {0} | Some z ↦ ⊥ ]) e tt

off-spent : (closed : Option SeenEnd) (left : Option FeedNow) (new : Option Feed) (sockets : List SocketId) → SpentIs closed left sockets → ((y : SeenEnd) → closed ≡ Some y → is_on y.id new ≡ false) → SpentOff closed new sockets
off-spent (Some y) left new sockets h off = (h.0, off y refl)
off-spent None left new sockets h off = h

module _ (r : RecordNow) (hr : IsRecord r) (v : Verdict) (x : TakenHalf) (takes_it : takes v.answer ≡ true) (is : IsVerdict v r.core) (may : MayBeJudged v r.core) (half : IsWholeHalf x) (can : CanBeTaken v x r) where
  abbrev s : State
  s = hr.state

  abbrev h : IsReplayedTo hr.state r
  h = hr.at_state

  abbrev k : SocketId
  k = x.end.id

  abbrev e : Entry
  e = judged_entry v x.end.id

  abbrev left : Effects
  left = effects_at v r

  abbrev trails : List TrailNow
  trails = r.trails ++ x.trail ∷ []

  abbrev there : Sources
  there = sources_of (ground (map planned r.plan) (x.end ∷ ends_of r) (r.trails ++ x.trail ∷ []))

  abbrev t : State
  t = after r.core.facts (item_of there (reach_of r.journal) e) hr.state

  abbrev entries : List Entry
  entries = r.journal ++ e ∷ []

  abbrev spent : List SeenEnd
  spent = r.spent ++ option_to_list (closed_if left.close r.core.live.feed)

  never : IsNewTo (taken_in r.journal) k
  never = untaken r k hr.kept can.socket.new

  no-trail : IsNewTo (map (λ (t : TrailNow). t.socket) r.trails) k
  no-trail = subst (λ (l : List SocketId). IsNewTo l k) (sym hr.trails.sockets) never

  closes-it : left.close ≡ true
  closes-it = closes_all r.core v (told_of r.core.facts v) is takes_it refl

  logs : KeepLogs (speaks_of r) there
  logs = keep-logs (map planned r.plan) (ends_of r) r.trails x.end x.trail can.socket.new no-trail half.whole

  unread-is : where_taken v.answer (there.unread k) ≡ x.unread
  unread-is = where-so (takes v.answer) (there.unread k) takes_it ∙ unread-here (map planned r.plan) (ends_of r) r.trails x.end x.trail can.socket.new no-trail half.whole ∙ sym half.unread

  lawful : Lawful r.core.facts (item_of there (reach_of r.journal) e) hr.state
  lawful = may k (where_taken v.answer (there.unread k)) (where_taken v.answer (there.trail k)) hr.state h.core (record {
    not_opened = unopened r k hr.kept can.socket.new hr.state h;
    asks_again = subst (AllByRecursion (λ i. may_ask_again i.answer ≡ true)) (sym (judged-there r hr.state k h)) can.socket.again;
    of_trail = of-trail (takes v.answer) (judged_on k hr.state.judgements) (judgement_of v) (there.trail k)
        (judged-of-it (map planned r.plan) (ends_of r) r.trails x.end x.trail can.socket.new no-trail half.whole ∙ can.judged ∙ ap (λ (l : List JudgedItem). l ++ judgement_of v ∷ []) (sym (judged-there r hr.state k h)));
  })

  replay-on : IsReplay r.core.facts there entries t
  replay-on = one_more r.core.facts (speaks_of r) there r.journal e hr.state h.replay
      (kept-continues (speaks_of r) there r.journal h.replay.covering logs
      (stay-settled (map planned r.plan) (ends_of r) r.trails x.end x.trail can.socket.new no-trail half.whole r.journal (unclosed r k hr.kept can.socket.new hr.closed) never))
      (still-covers (speaks_of r) there r.journal e h.replay.covering logs tt tt) lawful

  -- the old feed's end goes behind those that were the feed
  ends-there : (J : List Entry) → FeedIsOpen r.spent J r.core.live.feed → EndsStay J (ends_of r) spent
  ends-there J o = subst (λ (b : Bool). EndsStay J (ends_of r) (feed_end (feed_left b r.core.live.feed) ++ spent)) closes-it (ends-left left.close r.core.live.feed r.spent J o)

  replay-there : (d : FeedNow) → d.end ≡ x.end → IsReplay r.core.facts (sources_of (ground (map planned r.plan) (d.end ∷ spent) trails)) entries t
  replay-there d same = subst (λ (y : SeenEnd). IsReplay r.core.facts (sources_of (ground (map planned r.plan) (y ∷ spent) trails)) entries t) (sym same)
      (replay-stays entries (map planned r.plan) (map planned r.plan) (x.end ∷ ends_of r) (x.end ∷ spent) trails (as-planned (map planned r.plan))
      (ends-behind entries x.end (ends_of r) spent (ends-there entries (still-open r.spent r.journal e r.core.live.feed refl h.feed))) r.core.facts t replay-on)

  told : beside t ≡ record (beside s) { spent = spent_if left.close s.feed s.spent; deliveries = s.deliveries ++ told_by left; judgements = s.judgements ++ judgement k (judgement_of v) ∷ [] }
  told = subst (λ (y : Session). beside t ≡ record (beside s) {
    spent = spent_if (effects_of (told_of r.core.facts v) y).close s.feed s.spent;
    deliveries = s.deliveries ++ told_by (effects_of (told_of r.core.facts v) y);
    judgements = s.judgements ++ judgement k (judgement_of v) ∷ [];
  }) (sym h.core.session) (judges-beside r.core.facts v k (where_taken v.answer (there.unread k)) hr.state)

  -- the ends that were the feed, by their names
  names-left : ids_of spent ≡ feeds_in r.journal
  names-left = ap ids_of (sym (append-nil spent)) ∙ subst (λ (b : Bool). ids_of (spent ++ feed_end (feed_left b r.core.live.feed)) ≡ ids_of (r.spent ++ feed_end r.core.live.feed)) closes-it (ids-left left.close r.core.live.feed r.spent) ∙ hr.kept.ends

  module _ (d : FeedNow) (feed : IsTakenFeed v x.end x.unread r.core d) (makes : MakesJudgement v x.end.id x.unread r.core (after_taking v d r.core)) (now : ℕ) (room : Rooms) (fits : 0 < room.ends) where
    same : d.end ≡ x.end
    same = ap (λ (w : FeedNow). w.end) feed

    abbrev between : RecordNow
    between = record r {
      core = after_taking v d r.core;
      journal = r.journal ++ e ∷ [];
      trails = r.trails ++ x.trail ∷ [];
      spent = r.spent ++ option_to_list (closed_if left.close r.core.live.feed);
      parcels = r.parcels ++ told_parcels r.place left.discard left.remote_reset;
      waits = stepped r.core.facts.node now r.core.live.session.phase (after_taking v d r.core).live.session.phase r.waits;
      held = false;
      room = room;
    }

    agrees-there : Agrees (after_taking v d r.core) t
    agrees-there = subst (λ (l : List ℕ). Agrees (after_taking v d r.core) (journal.judges r.core.facts k v.ask v.number v.answer l hr.state)) (sym unread-is) (makes [] hr.state h.core)

    new-among : IsNewTo (ids_of spent) k
    new-among = subst (λ (l : List SocketId). IsNewTo l k) (sym names-left) (never-fed r k hr.kept can.socket.new)

    is-open : FeedIsOpen spent entries (Some d)
    is-open = record {
      unspent = subst (λ (y : SeenEnd). IsNewTo (ids_of spent) y.id) (sym same) new-among;
      unclosed = subst (λ (y : SeenEnd). IsNewTo (closed_in entries) y.id) (sym same)
          (subst (λ (l : List SocketId). IsNewTo l k) (sym (closed-more r.journal e refl)) (unclosed r k hr.kept can.socket.new hr.closed));
    }

    between-is : IsReplayedTo t between
    between-is = record {
      replay = replay-there d same;
      core = agrees-there;
      steps = h.steps ∙ sym (ap (λ (b : Beside). b.steps) told);
      reach = ap (λ q. q.steps) (reach-more r.journal e) ∙ h.reach ∙ sym (ap (λ (b : Beside). b.steps) told);
      parcels = parcels-left r.handed r.parcels s.deliveries t.deliveries r.place left h.parcels (ap (λ (b : Beside). b.deliveries) told);
      spent = closed-left left.close r.core.live.feed r.spent h.spent;
      feed = is-open;
      room = fits;
      few = h.few;
    }

    feeds-taken : feeds_in entries ≡ feeds_in r.journal ++ k ∷ []
    feeds-taken = filter_map-append became_feed r.journal (e ∷ []) ∙ ap (λ (l : List SocketId). feeds_in r.journal ++ l) one
      where
        one : feeds_in (e ∷ []) ≡ k ∷ []
        one = rw takes_it refl

    kept-between : IsWellKept between
    kept-between = record {
      ends = map-append (λ (y : SeenEnd). y.id) spent (d.end ∷ []) ∙ pushed names-left (ap (λ (y : SeenEnd). y.id) same) ∙ sym feeds-taken;
      whole = ap (λ (y : SeenEnd). y.log.closed) same ∙ half.unclosed;
      parcels = told-from r.place r.parcels left.discard left.remote_reset hr.kept.parcels;
      plan = hr.kept.plan;
      queue = tells_if-fits (told_of r.core.facts v) r.core.live hr.kept.queue;
      waits = stepped-within r.core.facts.node now r.core.live.session.phase (after_taking v d r.core).live.session.phase r.waits hr.kept.waits;
      held = λ g. absurd (false_isnt_true g);
    }
      where
        pushed : {a b : List SocketId} {i j : SocketId} → a ≡ b → i ≡ j → a ++ i ∷ [] ≡ b ++ j ∷ []
        pushed p q = rw (p, q) refl

    trails-there : HaveTrails r.core.facts.node.entity (d.end ∷ spent) entries trails
    trails-there = subst (λ (y : SeenEnd). HaveTrails r.core.facts.node.entity (y ∷ spent) entries trails) (sym same)
        (trails-taken r.core.facts.node.entity (x.end ∷ spent) r.journal v k r.trails x.trail takes_it never half.whole.socket can.entity
        (subst (λ (o : Option SeenEnd). IsTrailBeside x.trail (log_of o)) (sym (its-end (map planned r.plan) spent r.trails x.end x.trail new-among no-trail half.whole)) (beside-whole x.trail x.end half.unclosed half.whole half.taken))
        can.judged
        (trails-go-on r.core.facts.node.entity (ends_of r) (x.end ∷ spent) r.journal r.trails more hr.trails))
      where
        more : LogsGoOn (ends_of r) (x.end ∷ spent)
        more j = logs-on (ends-go-on r.journal (ends_of r) spent (ends-there r.journal h.feed) j) (ends-added spent x.end new-among j)

    now-spent : SpentOff (closed_if left.close r.core.live.feed) t.feed t.spent
    now-spent = off-spent (closed_if left.close r.core.live.feed) (feed_left left.close r.core.live.feed) t.feed t.spent
        (subst (SpentIs (closed_if left.close r.core.live.feed) (feed_left left.close r.core.live.feed)) (sym (ap (λ (b : Beside). b.spent) told))
        (spent-is left.close r.core.facts s r.core.live.feed s.feed s.spent hr.settled h.core.feed))
        (λ y g. taken-on (takes v.answer) y.id r.core.facts k v.ask v.number v.answer (where_taken v.answer (there.unread k)) (journal.tells_if (told_of r.core.facts v) (journal.notes k v.ask v.number v.answer hr.state)) takes_it ∙ closed-other left.close r.core.live.feed r.spent k y g can.socket.new)

abbrev taken_with : Verdict → TakenHalf → FeedNow → (now : ℕ) → (room : Rooms) → RecordNow → CoreNow → RecordNow
taken_with v x d now room r c = record (after_taking_over v x d now r) { core = c; waits = stepped r.core.facts.node now r.core.live.session.phase c.live.session.phase r.waits; room = room }

went-over : (r : RecordNow) (v : Verdict) (x : TakenHalf) (d : FeedNow) (now : ℕ) (c : CoreNow) (room : Rooms) → IsRecord r → takes v.answer ≡ true → IsVerdict v r.core → MayBeJudged v r.core → IsWholeHalf x → CanBeTaken v x r →
    IsTakenFeed v x.end x.unread r.core d → 0 < room.ends → c ≡ after_taking v d r.core → MakesJudgement v x.end.id x.unread r.core c → IsRecord (taken_with v x d now room r c)
went-over r v x d now c room h takes_it is may half can feed fits e makes =
    subst (λ (y : CoreNow). MakesJudgement v x.end.id x.unread r.core y → IsRecord (taken_with v x d now room r y)) (sym e)
    (λ more. closes-behind (between r h v x takes_it is may half can d feed more now room fits) (t r h v x takes_it is may half can) (closed_if (effects_at v r).close r.core.live.feed)
    (between-is r h v x takes_it is may half can d feed more now room fits) (kept-between r h v x takes_it is may half can d feed more now room fits)
    (now-spent r h v x takes_it is may half can d feed more now room fits)
    (closed-behind (r.journal ++ judged_entry v x.end.id ∷ []) r.spent (closed_if (effects_at v r).close r.core.live.feed) (closed-more r.journal (judged_entry v x.end.id) refl ∙ h.closed))
    (trails-there r h v x takes_it is may half can d feed more now room fits)) makes

-- ---- as the code comes to it

-- what the code has made of a record
pub record HasTakenOver (v : Verdict) (x : TakenHalf) (now : ℕ) (r : RecordNow) (c : CoreNow) (journal : List Entry) (trails : List TrailNow) (spent : List SeenEnd) (parcels : List Parcel) (waits : Waits) (closed : Option SeenEnd) (discarded reset : Bool) : Type 0 where
  pub core : IfSome c.live.feed (λ d. IsTakenFeed v x.end x.unread r.core d × (c ≡ after_taking v d r.core))
  pub feed : IsSome c.live.feed
  pub makes : MakesJudgement v x.end.id x.unread r.core c
  pub aftermath : IsAftermath (effects_at v r) r.core.live.feed closed discarded reset
  pub journal_is : journal ≡ (r.journal ++ judged_entry v x.end.id ∷ []) ++ closed_entries closed
  pub trails_are : trails ≡ r.trails ++ x.trail ∷ []
  pub spent_is : spent ≡ r.spent ++ option_to_list closed
  pub parcels_are : parcels ≡ r.parcels ++ told_parcels r.place discarded reset
  pub waits_are : waits ≡ stepped r.core.facts.node now r.core.live.session.phase c.live.session.phase r.waits

-- room for two ends is room for one behind the old feed's
one-fits : (closed : Option SeenEnd) (old new : ℕ) → 2 ≤ old → KeepsEnds closed old new → 0 < new
one-fits (Some e) old new two k = omega (arith, two, k)
one-fits None old new two k = omega (arith, two, k)

-- of three entries one is left behind the ask's and the old feed's
pub entry-left : (closed : Option SeenEnd) (old pushed new : ℕ) → 3 ≤ old → pushed ≡ old - 1 → KeepsEnds closed pushed new → 0 < new
entry-left (Some e) old pushed new three less k = omega (arith, three, less, k)
entry-left None old pushed new three less k = omega (arith, three, less, k)

pub taken-after : (v : Verdict) (x : TakenHalf) (now : ℕ) (r : RecordNow) (c : CoreNow) (journal : List Entry) (trails : List TrailNow) (spent : List SeenEnd) (parcels : List Parcel) (waits : Waits) (room : Rooms) (closed : Option SeenEnd) (discarded reset : Bool) →
    IsRecord r → takes v.answer ≡ true → IsVerdict v r.core → MayBeJudged v r.core → IsWholeHalf x → CanBeTaken v x r → 2 ≤ r.room.ends → KeepsEnds closed r.room.ends room.ends → HasTakenOver v x now r c journal trails spent parcels waits closed discarded reset →
    IsRecord (record r { core = c; journal = journal; trails = trails; spent = spent; parcels = parcels; waits = waits; held = false; room = room })
taken-after v x now r c journal trails spent parcels waits room closed discarded reset h takes_it is may half can two ends y =
    rw (y.journal_is, y.trails_are, y.spent_is, y.parcels_are, y.waits_are, y.aftermath.end, y.aftermath.thrown_away, y.aftermath.reset) (at c.live.feed y.core y.feed)
  where
    at : (o : Option FeedNow) → IfSome o (λ d. IsTakenFeed v x.end x.unread r.core d × (c ≡ after_taking v d r.core)) → IsSome o → IsRecord (record r {
      core = c;
      journal = (r.journal ++ judged_entry v x.end.id ∷ []) ++ closed_entries (closed_if (effects_at v r).close r.core.live.feed);
      trails = r.trails ++ x.trail ∷ [];
      spent = r.spent ++ option_to_list (closed_if (effects_at v r).close r.core.live.feed);
      parcels = r.parcels ++ told_parcels r.place (effects_at v r).discard (effects_at v r).remote_reset;
      waits = stepped r.core.facts.node now r.core.live.session.phase c.live.session.phase r.waits;
      held = false;
      room = room;
    })
    at (Some d) value some = went-over r v x d now c room h takes_it is may half can value.0 (one-fits closed r.room.ends room.ends two ends) value.1 y.makes
    at None value some = absurd (false_isnt_true some)

-- and so the contract has it
pub took-over : (v : Verdict) (x : TakenHalf) (now : ℕ) (r old : RecordNow) (c : CoreNow) (journal : List Entry) (trails : List TrailNow) (spent : List SeenEnd) (parcels : List Parcel) (waits : Waits) (room : Rooms) (closed : Option SeenEnd) (discarded reset : Bool) →
    r ≡ old → HasTakenOver v x now r c journal trails spent parcels waits closed discarded reset →
    TakesOver v x now old (record r { core = c; journal = journal; trails = trails; spent = spent; parcels = parcels; waits = waits; held = false; room = room })
took-over v x now r old c journal trails spent parcels waits room closed discarded reset same y =
    subst (λ (w : RecordNow). TakesOver v x now w (record r { core = c; journal = journal; trails = trails; spent = spent; parcels = parcels; waits = waits; held = false; room = room })) same (at c.live.feed y.core, y.feed)
  where
    at : (o : Option FeedNow) → IfSome o (λ d. IsTakenFeed v x.end x.unread r.core d × (c ≡ after_taking v d r.core)) →
        IfSome o (λ d. IsTakenFeed v x.end x.unread r.core d
        × (record r { core = c; journal = journal; trails = trails; spent = spent; parcels = parcels; waits = waits; held = false; room = room } ≡ record (after_taking_over v x d now r) { room = room }))
    at (Some d) e = (e.0, rw (y.journal_is, y.trails_are, y.spent_is, y.parcels_are, y.waits_are, y.aftermath.end, y.aftermath.thrown_away, y.aftermath.reset, e.1) refl)
    at None e = tt

-- what never changes stays
pub facts-stay : (v : Verdict) (end : SeenEnd) (unread : List ℕ) (old c : CoreNow) → IfSome c.live.feed (λ d. IsTakenFeed v end unread old d × (c ≡ after_taking v d old)) → IsSome c.live.feed → c.facts ≡ old.facts
facts-stay v end unread old c value some = at c.live.feed value some
  where
    at : (o : Option FeedNow) → IfSome o (λ d. IsTakenFeed v end unread old d × (c ≡ after_taking v d old)) → IsSome o → c.facts ≡ old.facts
    at (Some d) e f = ap (λ (y : CoreNow). y.facts) e.1
    at None e f = absurd (false_isnt_true f)
