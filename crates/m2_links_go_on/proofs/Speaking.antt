-- What a record has delivered goes on as its journal does and its ends grow; so those that it handed on stay.
use Rattle.std.proofs.Common.{◌≡◌, ℕ, zero, suc, ◌+◌, Bool, true, false, ◌||◌, if◌then◌else◌, List, [], ◌∷◌, ◌++◌, map, length, take, drop, Option, Some, None, refl, sym, ap, subst, ◌∙◌, arith, length-append, append_assoc}
use Rattle.std.specs.List.{AllByRecursion, cons_option}
use Rattle.std.proofs.lemmas.List.{map-append, take-append-le}
use Rattle.m2_dispatch.specs.declared.parcel.Parcel.{Parcel}
use Rattle.m2_fabric.specs.declared.socket.SocketId.{SocketId}
use Rattle.m2_fabric.specs.End.{SeenEnd}
use Rattle.m2_fabric.specs.Log.{Log}
use Rattle.m2_fabric.specs.Sockets.{is_among, same_socket}
use Rattle.m2_weave.specs.m2_journal.declared.entry.Entry.{Entry}
use Rattle.m2_weave.specs.m2_journal.declared.entry.Entry.TheVariants as entry
use Rattle.m2_weave.specs.m2_journal.declared.facts.PlanStep.{PlanStep}
use Rattle.m2_weave.specs.m2_journal.Growth.{AreThere, Grow, IsSettled}
use Rattle.m2_weave.specs.m2_journal.Items.{reach_of}
use Rattle.m2_weave.specs.m2_journal.Plan.{planned}
use Rattle.m2_weave.specs.m2_journal.Replay.{replay}
use Rattle.m2_weave.specs.m2_journal.SideFacts.{SideFacts}
use Rattle.m2_weave.specs.m2_journal.State.{Delivery, State}
use Rattle.m2_history.specs.m2_record.IsRecord.{IsRecord, feeds_in}
use Rattle.m2_history.specs.m2_record.RecordNow.{RecordNow, delivery_of, ends_of, feed_end, ids_of, speaks_of}
use Rattle.m2_history.specs.m2_record.Sources as source
use Rattle.m2_history.specs.m2_record.Sources.{end_at, got_of, log_at, log_of, put_of, read_before, trail_at, written_before}
use Rattle.m2_history.specs.m2_record.TakenTrails.{taken_in}
use Rattle.m2_history.proofs.m2_record.Trailing.{Beside, trail-there}
use Rattle.m2_weave.specs.m2_session.SessionLaws.{takes}
use Rattle.m2_history.specs.m2_trail.Trails.{TrailNow}
use Rattle.m2_history.proofs.m2_trail.Staying.{trails_stay}
use Rattle.m2_weave.specs.Later.{GoesOn}
use Rattle.m2_growth.proofs.Among.{among_back}
use Rattle.m2_links_go_on.specs.Logged.{deliveries_of, handed_of}
use Rattle.m2_links_go_on.proofs.Deliveries.{replay_delivers, unfailed}
use Rattle.m2_history.proofs.Kept.{turned}
use Rattle.m2_fabric.proofs.m2_lemmas.Booleans.{false_isnt_true}
use Rattle.m2_fabric.proofs.Sockets.{same_refl}

-- ---- lists

on_dropped : {X : Type 0} (n : ℕ) (xs ys : List X) → GoesOn (drop n xs) (drop n (xs ++ ys))
on_dropped zero xs ys = (ys, refl)
on_dropped (suc n) [] ys = (drop (suc n) ys, refl)
on_dropped (suc n) (x ∷ xs) ys = on_dropped n xs ys

on_drop : {X : Type 0} (n : ℕ) (xs ys : List X) → GoesOn xs ys → GoesOn (drop n xs) (drop n ys)
on_drop n xs ys (more, e) = subst (λ l. GoesOn (drop n xs) (drop n l)) (sym e) (on_dropped n xs more)

on_nil : {X : Type 0} (n : ℕ) (ys : List X) → GoesOn (drop n []) ys
on_nil zero ys = (ys, refl)
on_nil (suc n) ys = (ys, refl)

on_planned : (xs ys : List PlanStep) → GoesOn xs ys → GoesOn (map planned xs) (map planned ys)
on_planned xs ys (more, e) = (map planned more, ap (map planned) e ∙ map-append planned xs more)

-- ---- sockets

or_on : (a b c : Bool) → a || b ≡ true → (b ≡ true → c ≡ true) → a || c ≡ true
or_on true b c h rest = refl
or_on false b c h rest = rest h

-- those that were taken became the feed
pub taken_feed : (k : SocketId) (es : List Entry) → is_among k (taken_in es) ≡ true → is_among k (feeds_in es) ≡ true
taken_feed k [] h = h
taken_feed k (entry.Judged socket ask number answer ∷ es) h = at (takes answer) h (taken_feed k es)
  where
    at : (b : Bool) → is_among k (cons_option (if b then Some socket else None) (taken_in es)) ≡ true → (is_among k (taken_in es) ≡ true → is_among k (feeds_in es) ≡ true) →
        is_among k (cons_option (if b then Some socket else None) (feeds_in es)) ≡ true
    at true g rest = or_on (same_socket k socket) (is_among k (taken_in es)) (is_among k (feeds_in es)) g rest
    at false g rest = rest g
taken_feed k (entry.Opened socket ∷ es) h = among_back k (socket ∷ []) (feeds_in es) (taken_feed k es h)
taken_feed k (entry.Post place ∷ es) h = taken_feed k es h
taken_feed k (entry.Dial ∷ es) h = taken_feed k es h
taken_feed k (entry.Read socket n ∷ es) h = taken_feed k es h
taken_feed k (entry.Wrote socket n ∷ es) h = taken_feed k es h
taken_feed k (entry.Closed socket ∷ es) h = taken_feed k es h
taken_feed k (entry.Asked ident number ∷ es) h = taken_feed k es h
taken_feed k (entry.Numbered number ∷ es) h = taken_feed k es h
taken_feed k (entry.Accepted number key ∷ es) h = taken_feed k es h
taken_feed k (entry.Acked number ∷ es) h = taken_feed k es h
taken_feed k (entry.Obeyed full ∷ es) h = taken_feed k es h
taken_feed k (entry.Down planned ∷ es) h = taken_feed k es h

-- the end of a socket, where there is one
pub record IsEndOf (ends : List SeenEnd) (k : SocketId) : Type 0 where
  pub end : SeenEnd
  pub there : end_at ends k ≡ Some end

pub end_among : (ends : List SeenEnd) (k : SocketId) → is_among k (ids_of ends) ≡ true → IsEndOf ends k
end_among [] k h = absurd (false_isnt_true h)
end_among (e ∷ es) k h = at (same_socket k e.id) refl h (end_among es k)
  where
    at : (b : Bool) → same_socket k e.id ≡ b → b || is_among k (ids_of es) ≡ true → (is_among k (ids_of es) ≡ true → IsEndOf es k) → IsEndOf (e ∷ es) k
    at true same g rest = record { end = e; there = rw same refl }
    at false other g rest = let found = rest g in record { end = found.end; there = rw other found.there }

-- each socket that became a record's feed has its end there
pub feed_has_end : (r : RecordNow) (k : SocketId) → IsRecord r → is_among k (feeds_in r.journal) ≡ true → IsEndOf (ends_of r) k
feed_has_end r k is h =
    end_among (ends_of r) k (turned k r.spent (feed_end r.core.live.feed) (subst (λ l. is_among k l ≡ true) (sym is.kept.ends) h))

-- ---- what a record has of a socket

-- its end is there still and goes on, and so is the trail of the half that was taken there, or none
pub record IsStillAt (r s : RecordNow) (k : SocketId) (e : SeenEnd) : Type 0 where
  pub later : SeenEnd
  pub there : end_at (ends_of s) k ≡ Some later
  pub got : GoesOn e.log.got later.log.got
  pub put : GoesOn e.log.put later.log.put
  pub trail : trail_at s.trails k ≡ trail_at r.trails k

abbrev pub AreStillAt : RecordNow → RecordNow → Type 0
AreStillAt r s = (k : SocketId) (e : SeenEnd) → end_at (ends_of r) k ≡ Some e → IsStillAt r s k e

-- It is the same record, later: what it did goes on, and each of its ends is there still.
pub record GoesFurther (r s : RecordNow) : Type 0 where
  pub facts : s.core.facts ≡ r.core.facts
  pub plan : GoesOn r.plan s.plan
  pub journal : GoesOn r.journal s.journal
  pub ends : AreStillAt r s

module _ (r s : RecordNow) (is : IsRecord r) (further : GoesFurther r s) where
  got_on : (k : SocketId) → GoesOn ((speaks_of r).got k) ((speaks_of s).got k)
  got_on k = at (end_at (ends_of r) k) refl
    where
      at : (o : Option SeenEnd) → end_at (ends_of r) k ≡ o → GoesOn (drop (read_before (trail_at r.trails k)) (got_of o)) ((speaks_of s).got k)
      at None e = on_nil (read_before (trail_at r.trails k)) ((speaks_of s).got k)
      at (Some end) e =
          let still = further.ends k end e in
          rw (still.trail, still.there) (on_drop (read_before (trail_at r.trails k)) end.log.got still.later.log.got still.got)

  put_on : (k : SocketId) → GoesOn ((speaks_of r).put k) ((speaks_of s).put k)
  put_on k = at (end_at (ends_of r) k) refl
    where
      at : (o : Option SeenEnd) → end_at (ends_of r) k ≡ o → GoesOn (drop (written_before (trail_at r.trails k)) (put_of o)) ((speaks_of s).put k)
      at None e = on_nil (written_before (trail_at r.trails k)) ((speaks_of s).put k)
      at (Some end) e =
          let still = further.ends k end e in
          rw (still.trail, still.there) (on_drop (written_before (trail_at r.trails k)) end.log.put still.later.log.put still.put)

  grow : Grow (unfailed (speaks_of r)) (unfailed (speaks_of s))
  grow = record { plan = on_planned r.plan s.plan further.plan; got = got_on; put = put_on }

  there : AreThere (unfailed (speaks_of r)) (reach_of r.journal)
  there =
      let covers = is.at_state.replay.covering in
      record {
        steps = covers.steps;
        read = λ k. (let e = covers.read k in omega (arith, e));
        written = λ k. (let e = covers.written k in omega (arith, e));
      }

  unread_still : (o : Option TrailNow) (old new : Log) → Beside o old → GoesOn old.got new.got → GoesOn old.put new.put → source.unread_of o new ≡ source.unread_of o old
  unread_still (Some t) old new h got put = trails_stay.unread t old new h.within (record { got = got; put = put })
  unread_still None old new h got put = refl

  -- what halves had left unread, and what was judged of them, where one was taken
  taken_still : (k : SocketId) → is_among k (taken_in r.journal) ≡ true → ((speaks_of s).unread k ≡ (speaks_of r).unread k) × ((speaks_of s).trail k ≡ (speaks_of r).trail k)
  taken_still k taken =
      let found = feed_has_end r k is (taken_feed k r.journal taken) in
      let still = further.ends k found.end found.there in
      let beside : Beside (trail_at r.trails k) found.end.log =
      subst (λ (o : Option SeenEnd). Beside (trail_at r.trails k) (log_of o)) found.there (trail-there r.core.facts.node.entity (ends_of r) r.journal r.trails k is.trails) in (
        ap (λ (o : Option TrailNow). source.unread_of o (log_at (ends_of s) k)) still.trail ∙ ap (λ (o : Option SeenEnd). source.unread_of (trail_at r.trails k) (log_of o)) still.there
            ∙ unread_still (trail_at r.trails k) found.end.log still.later.log beside still.got still.put
            ∙ ap (λ (o : Option SeenEnd). source.unread_of (trail_at r.trails k) (log_of o)) (sym found.there),
        ap source.judged_of still.trail,
      )

  settled_all : (es : List Entry) → ((k : SocketId) → is_among k (taken_in es) ≡ true → is_among k (taken_in r.journal) ≡ true) → AllByRecursion (IsSettled (unfailed (speaks_of r)) (unfailed (speaks_of s))) es
  settled_all [] part = tt
  settled_all (entry.Judged socket ask number answer ∷ es) part =
      (λ t. taken_still socket (part socket (at (takes answer) t)), settled_all es (λ k h. part k (behind (takes answer) k h)))
    where
      at : (b : Bool) → b ≡ true → is_among socket (cons_option (if b then Some socket else None) (taken_in es)) ≡ true
      at true t = ap (λ b. b || is_among socket (taken_in es)) (same_refl socket)
      at false t = absurd (false_isnt_true t)

      behind : (b : Bool) (k : SocketId) → is_among k (taken_in es) ≡ true → is_among k (cons_option (if b then Some socket else None) (taken_in es)) ≡ true
      behind true k h = among_back k (socket ∷ []) (taken_in es) h
      behind false k h = h
  settled_all (entry.Closed k ∷ es) part = (refl, settled_all es part)
  settled_all (entry.Post place ∷ es) part = (tt, settled_all es part)
  settled_all (entry.Dial ∷ es) part = (tt, settled_all es part)
  settled_all (entry.Opened k ∷ es) part = (tt, settled_all es part)
  settled_all (entry.Read k n ∷ es) part = (tt, settled_all es part)
  settled_all (entry.Wrote k n ∷ es) part = (tt, settled_all es part)
  settled_all (entry.Asked ident number ∷ es) part = (tt, settled_all es part)
  settled_all (entry.Numbered number ∷ es) part = (tt, settled_all es part)
  settled_all (entry.Accepted number key ∷ es) part = (tt, settled_all es part)
  settled_all (entry.Acked number ∷ es) part = (tt, settled_all es part)
  settled_all (entry.Obeyed full ∷ es) part = (tt, settled_all es part)
  settled_all (entry.Down planned ∷ es) part = (tt, settled_all es part)

  -- what it has delivered goes on
  pub delivers_on : GoesOn (deliveries_of r) (deliveries_of s)
  delivers_on =
      subst (λ (f : SideFacts). GoesOn (deliveries_of r) (replay f (speaks_of s) s.journal).deliveries) (sym further.facts)
      (subst (λ j. GoesOn (deliveries_of r) (replay r.core.facts (speaks_of s) j).deliveries) (sym further.journal.1)
      (replay_delivers r.core.facts (speaks_of r) (speaks_of s) r.journal further.journal.0 grow there (settled_all r.journal (λ k h. h))))

-- ---- what it handed on

-- so many were delivered at least, and the rest is ready
pub delivered : (r : RecordNow) → IsRecord r → (before : List Delivery) × (length before ≡ r.handed) × (deliveries_of r ≡ before ++ map delivery_of r.parcels)
delivered r is = (is.at_state.parcels.0, is.at_state.parcels.1, ap (λ (s : State). s.deliveries) (sym is.at_state.replay.state) ∙ is.at_state.parcels.2)

take_whole : {X : Type 0} (xs ys : List X) → take (length xs) (xs ++ ys) ≡ xs
take_whole [] ys = take_none ys
  where
    take_none : {X : Type 0} (l : List X) → take 0 l ≡ []
    take_none [] = refl
    take_none (x ∷ xs) = refl
take_whole (x ∷ xs) ys = ap (λ l. x ∷ l) (take_whole xs ys)

-- where the record goes further and hands on nothing, it handed on the same
pub handed_still : (r s : RecordNow) → IsRecord r → GoesFurther r s → s.handed ≡ r.handed → handed_of s ≡ handed_of r
handed_still r s is further same = at (delivers_on r s is further) (delivered r is)
  where
    at : GoesOn (deliveries_of r) (deliveries_of s) → (before : List Delivery) × (length before ≡ r.handed) × (deliveries_of r ≡ before ++ map delivery_of r.parcels) → handed_of s ≡ handed_of r
    at (more, e) (before, n, all) =
        ap (λ m. take m (deliveries_of s)) same ∙ ap (take r.handed) e
        ∙ take-append-le r.handed (deliveries_of r) more (let l = ap length all in let k = length-append before (map delivery_of r.parcels) in omega (arith, l, k, n))

-- where it hands the first parcel on, that is behind what it handed on before
pub handed_next : (r s : RecordNow) (x : Parcel) → IsRecord r → r.parcels ≡ x ∷ s.parcels → deliveries_of s ≡ deliveries_of r → s.handed ≡ r.handed + 1 →
    handed_of s ≡ handed_of r ++ delivery_of x ∷ []
handed_next r s x is first same one = at (delivered r is)
  where
    at : (before : List Delivery) × (length before ≡ r.handed) × (deliveries_of r ≡ before ++ map delivery_of r.parcels) → handed_of s ≡ handed_of r ++ delivery_of x ∷ []
    at (before, n, all) =
        let rest = map delivery_of s.parcels in
        let parted : deliveries_of r ≡ (before ++ delivery_of x ∷ []) ++ rest =
        all ∙ ap (λ (l : List Parcel). before ++ map delivery_of l) first ∙ sym (append_assoc before (delivery_of x ∷ []) rest) in
        let longer : length (before ++ delivery_of x ∷ []) ≡ s.handed = length-append before (delivery_of x ∷ []) ∙ ap (λ m. m + 1) n ∙ sym one in
        ap (λ m. take m (deliveries_of s)) (sym longer) ∙ ap (take (length (before ++ delivery_of x ∷ []))) (same ∙ parted) ∙ take_whole (before ++ delivery_of x ∷ []) rest
        ∙ ap (λ l. l ++ delivery_of x ∷ []) (sym (ap (λ m. take m (deliveries_of r)) (sym n) ∙ ap (take (length before)) all ∙ take_whole before (map delivery_of r.parcels)))
