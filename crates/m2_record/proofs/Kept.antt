-- What holds of a record beside its journal, and how its calls keep it.
use Rattle.std.proofs.Common.{◌≡◌, ℕ, ◌+◌, ◌&&◌, not, if◌then◌else◌, Bool, true, false, List, [], ◌∷◌, ◌++◌, length, take, drop, max, Option, Some, None, zero, suc, refl, sym, ap, subst, ◌∙◌, arith}
use Rattle.std.specs.List.{AllByRecursion}
use Rattle.std.specs.Option.{option_to_list}
use Rattle.std.proofs.lemmas.List.{append-nil, map-append}
use Rattle.std.proofs.lemmas.List.Elements.{filter_map-append}
use Rattle.m2_dispatch.specs.declared.parcel.Parcel.{Parcel}
use Rattle.m2_dispatch.specs.declared.parcel.Parcel.TheVariants as parcel
use Rattle.m2_fabric.specs.declared.socket.SocketId.{SocketId}
use Rattle.m2_fabric.specs.End.{SeenEnd, after_closing}
use Rattle.m2_feed.specs.FeedNow.{FeedNow}
use Rattle.m2_journal.specs.declared.entry.Entry.{Entry}
use Rattle.m2_journal.specs.declared.entry.Entry.TheVariants as entry
use Rattle.m2_journal.specs.declared.facts.NodeFacts.{NodeFacts}
use Rattle.m2_dispatch.specs.m2_message.Message.{Content, priority_of}
use Rattle.m2_dispatch.specs.m2_queues.ByRank.{put_behind}
use Rattle.m2_dispatch.specs.m2_queues.OutQueues.{Queue, after_acked, after_next, after_post, after_sent, cursor_number}
use Rattle.m2_session.specs.declared.event.Event.{Event}
use Rattle.m2_session.specs.declared.session.Phase.{Phase}
use Rattle.m2_session.specs.declared.session.Phase.TheVariants.{Ready, Wait}
use Rattle.m2_session.specs.Phases as phase
use Rattle.m2_session.specs.Steps.{step_of}
use Rattle.std.specs.Prelude.{nat_lt, slice_get}
use Rattle.m2_core.specs.LiveNow.{LiveNow}
use Rattle.m2_core.specs.Effects as live
use Rattle.m2_core.specs.Effects.{closed_if}
use Rattle.m2_core.specs.LiveNumbering.{FitsFrame}
use Rattle.m2_core.specs.Waits.{IsWithin, AreWaits, begun, over, stepped}
use Rattle.m2_core.specs.declared.waits.Waits.{Waits}
use Rattle.m2_record.specs.Calls.{closed_entries, one_if, told_parcels}
use Rattle.m2_record.specs.IsRecord.{FeedIsWhole, FitFrames, IsFrom, IsWellKept, became_feed, feeds_in}
use Rattle.m2_record.specs.RecordNow.{RecordNow, Rooms, feed_end, ids_of}
use Rattle.m2_record.proofs.Telling.{feed_left}
use Rattle.m2_bytes.proofs.m2_lemmas.Lists.{all_append, all_take, all_drop}

-- ---- the sockets that became the feed

not-feed : (e : Entry) → became_feed e ≡ None → feeds_in (e ∷ []) ≡ []
not-feed e h = rw h refl

pub feeds-more : (journal : List Entry) (e : Entry) → became_feed e ≡ None → feeds_in (journal ++ e ∷ []) ≡ feeds_in journal
feeds-more journal e h = filter_map-append became_feed journal (e ∷ []) ∙ ap (λ (l : List SocketId). feeds_in journal ++ l) (not-feed e h) ∙ append-nil (feeds_in journal)

pub feeds-closed : (journal : List Entry) (closed : Option SeenEnd) → feeds_in (journal ++ closed_entries closed) ≡ feeds_in journal
feeds-closed journal (Some e) = feeds-more journal (entry.Closed e.id) refl
feeds-closed journal None = ap feeds_in (append-nil journal)

pub feeds-opened : (journal : List Entry) (k : SocketId) → feeds_in (journal ++ entry.Opened k ∷ []) ≡ feeds_in journal ++ k ∷ []
feeds-opened journal k = filter_map-append became_feed journal (entry.Opened k ∷ [])

pub ids-append : (xs ys : List SeenEnd) → ids_of (xs ++ ys) ≡ ids_of xs ++ ids_of ys
ids-append xs ys = map-append (λ (e : SeenEnd). e.id) xs ys

-- the feed's end goes behind those that were the feed, and has its name still
pub ids-left : (close : Bool) (feed : Option FeedNow) (spent : List SeenEnd) →
    ids_of ((spent ++ option_to_list (closed_if close feed)) ++ feed_end (feed_left close feed)) ≡ ids_of (spent ++ feed_end feed)
ids-left true (Some v) spent = ap ids_of (append-nil (spent ++ after_closing v.end ∷ [])) ∙ ids-append spent (after_closing v.end ∷ []) ∙ sym (ids-append spent (v.end ∷ []))
ids-left true None spent = ap ids_of (append-nil (spent ++ []))
ids-left false feed spent = ap (λ (l : List SeenEnd). ids_of (l ++ feed_end feed)) (append-nil spent)

pub ids-opened : (spent : List SeenEnd) (e : SeenEnd) (ids : List SocketId) → ids_of (spent ++ []) ≡ ids → ids_of (spent ++ e ∷ []) ≡ ids ++ e.id ∷ []
ids-opened spent e ids h = ids-append spent (e ∷ []) ∙ ap (λ (l : List SocketId). l ++ e.id ∷ []) (sym (ap ids_of (append-nil spent)) ∙ h)

pub whole-left : (close : Bool) (feed : Option FeedNow) → FeedIsWhole feed → FeedIsWhole (feed_left close feed)
whole-left true feed h = tt
whole-left false feed h = h

-- ---- parcels

one-from : (place : ℕ) (b : Bool) (x : Parcel) → IsFrom place x → AllByRecursion (IsFrom place) (one_if b x)
one-from place true x h = (h, tt)
one-from place false x h = tt

pub told-from : (place : ℕ) (parcels : List Parcel) (discarded reset : Bool) → AllByRecursion (IsFrom place) parcels → AllByRecursion (IsFrom place) (parcels ++ told_parcels place discarded reset)
told-from place parcels discarded reset h = all_append (IsFrom place) parcels (told_parcels place discarded reset) h
    (all_append (IsFrom place) (one_if discarded (parcel.Discard place)) (one_if reset (parcel.RemoteReset place))
    (one-from place discarded (parcel.Discard place) refl) (one-from place reset (parcel.RemoteReset place) refl))

-- ---- the queue

pub all-get : {X : Type 0} (P : X → Type 0) (n : ℕ) (xs : List X) (x : X) → AllByRecursion P xs → slice_get xs n ≡ Some x → P x
all-get P n [] x h e = absurd (no-some x e)
  where
    no-some : {X : Type 0} (x : X) → None ≡ Some x → ⊥
    no-some {X} x e = subst (λ (o : Option X). elim o as (λ _. Type 0) [ None ↦ Unit {0} | Some y ↦ ⊥ ]) e tt
all-get P zero (y ∷ ys) x h e = subst P (same-some y x e) h.0
  where
    same-some : {X : Type 0} (y x : X) → Some y ≡ Some x → y ≡ x
    same-some {X} y x e = ap (λ (o : Option X). elim o as (λ _. X) [ None ↦ y | Some z ↦ z ]) e
all-get P (suc n) (y ∷ ys) x h e = all-get P n ys x h.1 e

all-behind : (m : Content) (ms : List Content) → FitsFrame m → AllByRecursion FitsFrame ms → AllByRecursion FitsFrame (put_behind priority_of m ms)
all-behind m [] f h = (f, tt)
all-behind m (x ∷ xs) f h = at (nat_lt (priority_of x) (priority_of m)) (all-behind m xs f h.1)
  where
    at : (b : Bool) → AllByRecursion FitsFrame (put_behind priority_of m xs) → AllByRecursion FitsFrame (if b then m ∷ x ∷ xs else x ∷ put_behind priority_of m xs)
    at true rest = (f, h)
    at false rest = (h.0, rest)

pub posted-fits : (q : Queue) (m : Content) → FitsFrame m → FitFrames q → FitFrames (after_post q m)
posted-fits q m f h = record { kept = h.kept; waiting = all-behind m q.waiting f h.waiting }

pub next-fits : (q : Queue) → FitFrames q → FitFrames (after_next q)
next-fits q h = at (nat_lt q.cursor (length q.kept))
  where
    at : (b : Bool) → FitFrames (if b then q else record q { kept = q.kept ++ take 1 q.waiting; waiting = drop 1 q.waiting })
    at true = h
    at false = record { kept = all_append FitsFrame q.kept (take 1 q.waiting) h.kept (all_take FitsFrame 1 q.waiting h.waiting); waiting = all_drop FitsFrame 1 q.waiting h.waiting }

pub sent-fits : (q : Queue) → FitFrames q → FitFrames (after_sent q)
sent-fits q h = at q.keeps
  where
    at : (b : Bool) → FitFrames (if b then record q { written = max q.written (cursor_number q); cursor = q.cursor + 1 } else record q { written = max q.written (cursor_number q); base = q.base + 1; kept = drop 1 q.kept })
    at true = record { kept = h.kept; waiting = h.waiting }
    at false = record { kept = all_drop FitsFrame 1 q.kept h.kept; waiting = h.waiting }

pub acked-fits : (q : Queue) (number : ℕ) → FitFrames q → FitFrames (after_acked q number)
acked-fits q number h = record { kept = all_drop FitsFrame _ q.kept h.kept; waiting = h.waiting }

closes-fits : (b : Bool) (l : LiveNow) → FitFrames l.out.queue → FitFrames (live.where_true b live.closes l).out.queue
closes-fits true l h = h
closes-fits false l h = h

requeues-fits : (b : Bool) (l : LiveNow) → FitFrames l.out.queue → FitFrames (live.where_true b live.requeues l).out.queue
requeues-fits true l h = record { kept = h.kept; waiting = h.waiting }
requeues-fits false l h = h

sets-fits : (b : Bool) (l : LiveNow) → FitFrames l.out.queue → FitFrames (live.where_true b live.sets_back l).out.queue
sets-fits true l h = record { kept = h.kept; waiting = h.waiting }
sets-fits false l h = h

discards-fits : (b : Bool) (l : LiveNow) → FitFrames l.out.queue → FitFrames (live.where_true b live.discards l).out.queue
discards-fits true l h = record { kept = tt; waiting = tt }
discards-fits false l h = h

pub tells-fits : (v : Event) (l : LiveNow) → FitFrames l.out.queue → FitFrames (live.tells v l).out.queue
tells-fits v l h =
    let e = (step_of l.session v).effects in
    let l0 = record l { session = (step_of l.session v).session } in
    let l1 = live.where_true e.close live.closes l0 in
    let l2 = live.where_true e.requeue live.requeues l1 in
    let l3 = live.where_true e.set_back live.sets_back l2 in
    discards-fits e.discard l3 (sets-fits e.set_back l2 (requeues-fits e.requeue l1 (closes-fits e.close l0 h)))

-- ---- waits

pub first-within : (node : NodeFacts) → AreWaits node → IsWithin node (record { next_dial = 0; wait = node.first_wait })
first-within node h = record { from = omega arith; to = h }

pub begun-within : (node : NodeFacts) (now : ℕ) (w : Waits) → IsWithin node w → IsWithin node (begun node now w)
begun-within node now w h = record {
  from = (let a = h.from in let b = h.to in omega (arith, a, b));
  to = omega arith;
}

over-within : (node : NodeFacts) (w : Waits) → IsWithin node w → IsWithin node (over node w)
over-within node w h = record { from = omega arith; to = (let a = h.from in let b = h.to in omega (arith, a, b)) }

pub stepped-within : (node : NodeFacts) (now : ℕ) (old new : Phase) (w : Waits) → IsWithin node w → IsWithin node (stepped node now old new w)
stepped-within node now old new w h = at (phase.is new Wait && not (phase.is old Wait)) (phase.is new Ready)
  where
    at : (a b : Bool) → IsWithin node (if a then begun node now w else (if b then over node w else w))
    at true b = begun-within node now w h
    at false true = over-within node w h
    at false false = h

-- ---- room is no part of it, nor is the last moment

pub kept-in-room : (r : RecordNow) (room : Rooms) → IsWellKept r → IsWellKept (record r { room = room })
kept-in-room r room h = record { ends = h.ends; whole = h.whole; parcels = h.parcels; plan = h.plan; queue = h.queue; waits = h.waits; held = h.held }

-- ---- its journal gets the entry of an end that was closed

pub kept-closed-as : (r : RecordNow) (k : SocketId) → IsWellKept r → IsWellKept (record r { journal = r.journal ++ entry.Closed k ∷ [] })
kept-closed-as r k h = record { ends = h.ends ∙ sym (feeds-more r.journal (entry.Closed k) refl); whole = h.whole; parcels = h.parcels; plan = h.plan; queue = h.queue; waits = h.waits; held = h.held }
