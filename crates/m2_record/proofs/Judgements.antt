-- One more ask is judged on a socket of which the record has no end: what trails and entries say of that socket.
use Rattle.std.proofs.Common.{◌≡◌, ℕ, Bool, true, false, if◌then◌else◌, List, [], ◌∷◌, ◌++◌, map, Option, Some, None, refl, sym, ap, subst, ◌∙◌}
use Rattle.std.specs.List.{AllByRecursion, filter}
use Rattle.std.proofs.lemmas.List.{append-nil}
use Rattle.std.proofs.lemmas.List.Elements.{filter_map-append}
use Rattle.m2_core.specs.Judging.{judgement_of}
use Rattle.m2_core.specs.declared.verdict.Verdict.{Verdict}
use Rattle.m2_fabric.specs.declared.socket.SocketId.{SocketId}
use Rattle.m2_fabric.specs.End.{SeenEnd}
use Rattle.m2_fabric.specs.Sockets.{IsNewTo, is_among, same_socket}
use Rattle.m2_feed.specs.FeedNow.{FeedNow}
use Rattle.m2_journal.specs.declared.entry.Entry.{Entry}
use Rattle.m2_journal.specs.declared.entry.JudgedItem.{JudgedItem}
use Rattle.m2_journal.specs.Lawful.{judged_on}
use Rattle.m2_journal.specs.State.{Judgement, State}
use Rattle.m2_journal.proofs.Sockets.{Names, judgement}
use Rattle.m2_session.specs.SessionLaws.{takes}
use Rattle.m2_trail.specs.Trails.{TrailNow}
use Rattle.m2_record.specs.IsRecord.{IsReplayedTo, IsWellKept, closed_in, feeds_in}
use Rattle.m2_record.specs.Judging.{judged_entry}
use Rattle.m2_record.specs.RecordNow.{RecordNow, ends_of, feed_end, ids_of, speaks_of}
use Rattle.m2_record.specs.TakenTrails as trail
use Rattle.m2_record.specs.TakenTrails.{HaveTrails, IsKeptTrail, judgements_in, taken_by, taken_in}
use Rattle.m2_record.proofs.Naming.{is-unopened, is-untaken, replayed-names}
use Rattle.m2_record.proofs.Trailing.{filtered-more}
use Rattle.m2_bytes.proofs.m2_lemmas.Booleans.{neither_of_or}
use Rattle.m2_fabric.proofs.Sockets.{apart_turned, same_refl}

-- ---- a socket of which the record has no end

none-pushed : (k : SocketId) (xs : List SeenEnd) (x : SeenEnd) → same_socket k x.id ≡ false → IsNewTo (ids_of xs) k → IsNewTo (ids_of (xs ++ x ∷ [])) k
none-pushed k [] x e h = rw e refl
none-pushed k (y ∷ ys) x e h = let two = neither_of_or (same_socket k y.id) (is_among k (ids_of ys)) h in rw two.0 (none-pushed k ys x e two.1)

turned : (o : Option FeedNow) (spent : List SeenEnd) (k : SocketId) → IsNewTo (ids_of (feed_end o ++ spent)) k → IsNewTo (ids_of (spent ++ feed_end o)) k
turned (Some v) spent k h = let two = neither_of_or (same_socket k v.end.id) (is_among k (ids_of spent)) h in none-pushed k spent v.end two.0 two.1
turned None spent k h = subst (λ (l : List SeenEnd). IsNewTo (ids_of l) k) (sym (append-nil spent)) h

pub is-unspent : (o : Option FeedNow) (spent : List SeenEnd) (k : SocketId) → IsNewTo (ids_of (feed_end o ++ spent)) k → IsNewTo (ids_of spent) k
is-unspent (Some v) spent k h = (neither_of_or (same_socket k v.end.id) (is_among k (ids_of spent)) h).1
is-unspent None spent k h = h

module _ (r : RecordNow) (k : SocketId) (kept : IsWellKept r) (new : IsNewTo (ids_of (ends_of r)) k) where
  pub never-fed : IsNewTo (feeds_in r.journal) k
  never-fed = subst (λ (l : List SocketId). IsNewTo l k) kept.ends (turned r.core.live.feed r.spent k new)

  -- it was neither_of_or opened nor taken, and no entry has closed it
  pub unopened : (s : State) → IsReplayedTo s r → is_among k s.opened ≡ false
  unopened s h = is-unopened r.core.facts (speaks_of r) r.journal s k h.replay never-fed

  pub untaken : IsNewTo (taken_in r.journal) k
  untaken = is-untaken r.journal k never-fed

  pub unclosed : closed_in r.journal ≡ ids_of r.spent → IsNewTo (closed_in r.journal) k
  unclosed closed = subst (λ (l : List SocketId). IsNewTo l k) (sym closed) (is-unspent r.core.live.feed r.spent k new)

-- what was judged of it, where a journal leads
pub judged-there : (r : RecordNow) (s : State) (k : SocketId) → IsReplayedTo s r → judged_on k s.judgements ≡ judged_on k (judgements_in r.journal)
judged-there r s k h = ap (λ (n : Names). judged_on k n.judgements) (replayed-names r.core.facts (speaks_of r) r.journal s h.replay)

-- ---- what is judged

module _ (k : SocketId) (x : JudgedItem) where
  judged-here : (js : List Judgement) → judged_on k (js ++ judgement k x ∷ []) ≡ judged_on k js ++ x ∷ []
  judged-here [] = rw (same_refl k) refl
  judged-here (y ∷ ys) = at (same_socket k y.socket) (judged-here ys)
    where
      at : (b : Bool) → judged_on k (ys ++ judgement k x ∷ []) ≡ judged_on k ys ++ x ∷ [] →
          map (λ (j : Judgement). j.item) (if b then y ∷ filter (λ j. same_socket k j.socket) (ys ++ judgement k x ∷ []) else filter (λ j. same_socket k j.socket) (ys ++ judgement k x ∷ []))
          ≡ map (λ (j : Judgement). j.item) (if b then y ∷ filter (λ j. same_socket k j.socket) ys else filter (λ j. same_socket k j.socket) ys) ++ x ∷ []
      at true rest = ap (λ (l : List JudgedItem). y.item ∷ l) rest
      at false rest = rest

  judged-elsewhere : (i : SocketId) (js : List Judgement) → same_socket i k ≡ false → judged_on i (js ++ judgement k x ∷ []) ≡ judged_on i js
  judged-elsewhere i [] e = rw e refl
  judged-elsewhere i (y ∷ ys) e = at (same_socket i y.socket) (judged-elsewhere i ys e)
    where
      at : (b : Bool) → judged_on i (ys ++ judgement k x ∷ []) ≡ judged_on i ys →
          map (λ (j : Judgement). j.item) (if b then y ∷ filter (λ j. same_socket i j.socket) (ys ++ judgement k x ∷ []) else filter (λ j. same_socket i j.socket) (ys ++ judgement k x ∷ []))
          ≡ map (λ (j : Judgement). j.item) (if b then y ∷ filter (λ j. same_socket i j.socket) ys else filter (λ j. same_socket i j.socket) ys)
      at true rest = ap (λ (l : List JudgedItem). y.item ∷ l) rest
      at false rest = rest

-- ---- the trails that were there

module _ (kind : ℕ) (ends : List SeenEnd) (journal : List Entry) (v : Verdict) (k : SocketId) where
  one-judged : judgements_in (journal ++ judged_entry v k ∷ []) ≡ judgements_in journal ++ judgement k (judgement_of v) ∷ []
  one-judged = filter_map-append trail.judgement_of journal (judged_entry v k ∷ [])

  pub judged-now : judged_on k (judgements_in (journal ++ judged_entry v k ∷ [])) ≡ judged_on k (judgements_in journal) ++ judgement_of v ∷ []
  judged-now = ap (judged_on k) one-judged ∙ judged-here k (judgement_of v) (judgements_in journal)

  pub each-still : (ts : List TrailNow) → IsNewTo (map (λ (t : TrailNow). t.socket) ts) k → AllByRecursion (IsKeptTrail kind ends journal) ts →
      AllByRecursion (IsKeptTrail kind ends (journal ++ judged_entry v k ∷ [])) ts
  each-still [] new h = tt
  each-still (t ∷ ts) new h =
      let two = neither_of_or (same_socket k t.socket) (is_among k (map (λ (t : TrailNow). t.socket) ts)) new in (
        record {
          entity = h.0.entity;
          beside = h.0.beside;
          judged = h.0.judged ∙ sym (ap (judged_on t.socket) one-judged ∙ judged-elsewhere k (judgement_of v) t.socket (judgements_in journal) (apart_turned k t.socket two.0));
        },
        each-still ts two.1 h.1,
      )

  taken-none : takes v.answer ≡ false → taken_by (judged_entry v k) ≡ None
  taken-none e = rw e refl

  pub trails-answered : (ts : List TrailNow) → takes v.answer ≡ false → IsNewTo (taken_in journal) k → HaveTrails kind ends journal ts → HaveTrails kind ends (journal ++ judged_entry v k ∷ []) ts
  trails-answered ts e new h = record {
    sockets = h.sockets ∙ sym (filtered-more taken_by journal (judged_entry v k) (taken-none e));
    each = each-still ts (subst (λ (l : List SocketId). IsNewTo l k) (sym h.sockets) new) h.each;
  }
