-- What a record's journal says of its ends, and the ends of one record among those of all.
use Rattle.std.proofs.Common.{◌≡◌, ℕ, zero, suc, ◌⊎◌, inl, inr, Bool, true, false, ◌||◌, if◌then◌else◌, List, [], ◌∷◌, ◌++◌, map, Option, Some, None, refl, sym, ap, subst, ◌∙◌}
use Rattle.std.specs.Prelude.{slice_get}
use Rattle.std.proofs.lemmas.List.{map-append}
use Rattle.std.proofs.lemmas.List.Elements.{filter_map-append}
use Rattle.std.proofs.lemmas.List.Folds.{list_any-append}
use Rattle.m2_fabric.specs.declared.socket.SocketId.{SocketId}
use Rattle.m2_fabric.specs.End.{SeenEnd}
use Rattle.m2_fabric.specs.Sockets.{is_among, same_socket}
use Rattle.m2_growth.specs.Ends.{AreOfTheirOwn}
use Rattle.m2_growth.specs.Halves.{IsOneOf, JudgeApart, OneJudge, asked_on}
use Rattle.m2_growth.specs.Records.{RecordGrows, RecordsGrow, ends_of_all}
use Rattle.m2_growth.proofs.Among.{of_each}
use Rattle.m2_growth.proofs.Ends.{end_append, first_of, own_apart, own_first, own_last}
use Rattle.m2_history.specs.Woven.{knows}
use Rattle.m2_weave.specs.m2_journal.declared.entry.Entry.{Entry}
use Rattle.m2_weave.specs.m2_journal.declared.entry.Entry.TheVariants as entry
use Rattle.m2_weave.specs.m2_journal.Lawful.{judged_on}
use Rattle.m2_weave.specs.m2_journal.State.{Judgement}
use Rattle.m2_history.specs.m2_record.IsRecord.{IsRecord, became_feed, feeds_in}
use Rattle.m2_history.specs.m2_record.RecordNow.{RecordNow, ends_of, feed_end, ids_of}
use Rattle.m2_history.specs.m2_record.Sources.{end_at}
use Rattle.m2_history.specs.m2_record.TakenTrails.{judgement_of, judgements_in, taken_in}
use Rattle.m2_weave.specs.m2_session.SessionLaws.{takes}
use Rattle.m2_weave.specs.Later.{GoesOn}
use Rattle.m2_weave.specs.Strands.{has_opened, journal_of}
use Rattle.m2_links_go_on.proofs.Standing.{judged_sockets}
use Rattle.m2_fabric.proofs.m2_lemmas.Booleans.{or_left, false_isnt_true}

-- ---- its ends are those of the sockets that became the feed

-- a socket that became the feed was opened or taken
pub feed_kind : (k : SocketId) (es : List Entry) → is_among k (feeds_in es) ≡ true → (has_opened (journal_of es) k ≡ true) ⊎ (is_among k (taken_in es) ≡ true)
feed_kind k [] h = absurd (false_isnt_true h)
feed_kind k (entry.Opened x ∷ es) h = at (same_socket k x) h (feed_kind k es)
  where
    at : (b : Bool) → b || is_among k (feeds_in es) ≡ true → (is_among k (feeds_in es) ≡ true → (has_opened (journal_of es) k ≡ true) ⊎ (is_among k (taken_in es) ≡ true)) →
        (b || has_opened (journal_of es) k ≡ true) ⊎ (is_among k (taken_in es) ≡ true)
    at true h rest = inl refl
    at false h rest = rest h
feed_kind k (entry.Judged x ask number answer ∷ es) h = at (takes answer) refl h (feed_kind k es)
  where
    within : (b : Bool) → b || is_among k (feeds_in es) ≡ true → (is_among k (feeds_in es) ≡ true → (has_opened (journal_of es) k ≡ true) ⊎ (is_among k (taken_in es) ≡ true)) →
        (has_opened (journal_of es) k ≡ true) ⊎ (b || is_among k (taken_in es) ≡ true)
    within true h rest = inr refl
    within false h rest = rest h

    at : (b : Bool) → takes answer ≡ b → is_among k (feeds_in (entry.Judged x ask number answer ∷ es)) ≡ true →
        (is_among k (feeds_in es) ≡ true → (has_opened (journal_of es) k ≡ true) ⊎ (is_among k (taken_in es) ≡ true)) →
        (has_opened (journal_of es) k ≡ true) ⊎ (is_among k (taken_in (entry.Judged x ask number answer ∷ es)) ≡ true)
    at true e h rest = rw e (within (same_socket k x) (rw e at h) rest)
    at false e h rest = rw e (rest (rw e at h))
feed_kind k (e ∷ es) h = feed_kind k es h

pub ends_feeds : (r : RecordNow) → IsRecord r → (k : SocketId) → is_among k (ids_of (ends_of r)) ≡ is_among k (feeds_in r.journal)
ends_feeds r is k = turned (feed_end r.core.live.feed) r.spent ∙ ap (is_among k) is.kept.ends
  where
    or-turned : (a b : Bool) → (a || b) ≡ (b || a)
    or-turned true true = refl
    or-turned true false = refl
    or-turned false true = refl
    or-turned false false = refl

    turned : (xs ys : List SeenEnd) → is_among k (ids_of (xs ++ ys)) ≡ is_among k (ids_of (ys ++ xs))
    turned xs ys =
        ap (is_among k) (map-append (λ (e : SeenEnd). e.id) xs ys) ∙ list_any-append (same_socket k) (ids_of xs) (ids_of ys)
        ∙ or-turned (is_among k (ids_of xs)) (is_among k (ids_of ys))
        ∙ sym (ap (is_among k) (map-append (λ (e : SeenEnd). e.id) ys xs) ∙ list_any-append (same_socket k) (ids_of ys) (ids_of xs))

-- so a record that goes on has an end of each socket of which it had one
pub ends_stay : (r s : RecordNow) → IsRecord r → IsRecord s → GoesOn r.journal s.journal → (k : SocketId) → is_among k (ids_of (ends_of r)) ≡ true → is_among k (ids_of (ends_of s)) ≡ true
ends_stay r s is are on k h =
    ends_feeds s are k ∙ ap (λ l. is_among k (feeds_in l)) on.1 ∙ ap (is_among k) (filter_map-append became_feed r.journal on.0)
    ∙ list_any-append (same_socket k) (feeds_in r.journal) (feeds_in on.0) ∙ or_left (is_among k (feeds_in r.journal)) (is_among k (feeds_in on.0)) (sym (ends_feeds r is k) ∙ h)

-- ---- what a journal knows

-- it has opened the socket, or judged an ask on it
pub knows_kind : (k : SocketId) (es : List Entry) → knows es k ≡ true → (has_opened (journal_of es) k ≡ true) ⊎ (is_among k (judged_sockets es) ≡ true)
knows_kind k [] h = absurd (false_isnt_true h)
knows_kind k (entry.Opened x ∷ es) h = at (same_socket k x) h (knows_kind k es)
  where
    at : (b : Bool) → b || knows es k ≡ true → (knows es k ≡ true → (has_opened (journal_of es) k ≡ true) ⊎ (is_among k (judged_sockets es) ≡ true)) →
        (b || has_opened (journal_of es) k ≡ true) ⊎ (is_among k (judged_sockets es) ≡ true)
    at true h rest = inl refl
    at false h rest = rest h
knows_kind k (entry.Judged x ask number answer ∷ es) h = at (same_socket k x) h (knows_kind k es)
  where
    at : (b : Bool) → b || knows es k ≡ true → (knows es k ≡ true → (has_opened (journal_of es) k ≡ true) ⊎ (is_among k (judged_sockets es) ≡ true)) →
        (has_opened (journal_of es) k ≡ true) ⊎ (b || is_among k (judged_sockets es) ≡ true)
    at true h rest = inr refl
    at false h rest = rest h
knows_kind k (e ∷ es) h = knows_kind k es h

pub asked_on_still : (es fs : List Entry) (k : SocketId) → GoesOn es fs → is_among k (judged_sockets es) ≡ true → is_among k (judged_sockets fs) ≡ true
asked_on_still es fs k on h =
    ap (λ l. is_among k (judged_sockets l)) on.1
    ∙ ap (λ js. is_among k (map (λ (j : Judgement). j.socket) js)) (filter_map-append judgement_of es on.0)
    ∙ ap (is_among k) (map-append (λ (j : Judgement). j.socket) (judgements_in es) (judgements_in on.0))
    ∙ list_any-append (same_socket k) (judged_sockets es) (judged_sockets on.0) ∙ or_left (is_among k (judged_sockets es)) (is_among k (judged_sockets on.0)) h

-- of a socket on which an ask was judged there are judgements
pub asked_some : (k : SocketId) (js : List Judgement) → is_among k (map (λ (j : Judgement). j.socket) js) ≡ true → judged_on k js ≡ [] → ⊥
asked_some k [] h none = false_isnt_true h
asked_some k (j ∷ js) h none = at (same_socket k j.socket) refl h none (asked_some k js)
  where
    at : (b : Bool) → same_socket k j.socket ≡ b → is_among k (map (λ (j : Judgement). j.socket) (j ∷ js)) ≡ true → judged_on k (j ∷ js) ≡ [] →
        (is_among k (map (λ (j : Judgement). j.socket) js) ≡ true → judged_on k js ≡ [] → ⊥) → ⊥
    at true e h none rest = let some = rw e at none in cc
    at false e h none rest = rest (rw e at h) (rw e at none)

-- ---- an end of a socket

pub record HasOne (es : List SeenEnd) (k : SocketId) : Type 0 where
  pub end : SeenEnd
  pub at : end_at es k ≡ Some end
  pub there : IsOneOf end es

pub has_one : (es : List SeenEnd) (k : SocketId) → is_among k (ids_of es) ≡ true → HasOne es k
has_one [] k h = absurd (false_isnt_true h)
has_one (e ∷ es) k h = by (same_socket k e.id) refl h (has_one es k)
  where
    by : (b : Bool) → same_socket k e.id ≡ b → b || is_among k (ids_of es) ≡ true → (is_among k (ids_of es) ≡ true → HasOne es k) → HasOne (e ∷ es) k
    by true same h rest = record { end = e; at = ap (λ b. if b then Some e else end_at es k) same; there = inl refl }
    by false other h rest =
        let found = rest h in
        record { end = found.end; at = ap (λ b. if b then Some e else end_at es k) other ∙ found.at; there = inr found.there }

pub none_some : {X : Type 0} (e : SeenEnd) (o : Option SeenEnd) → o ≡ Some e → o ≡ None → X
none_some e o p q = absurd cc

-- ---- one record among all

pub one_own : (r : RecordNow) (rs : List RecordNow) → IsOneOf r rs → AreOfTheirOwn (ends_of_all rs) → AreOfTheirOwn (ends_of r)
one_own r [] i own = absurd i
one_own r (x ∷ rs) (inl e) own = subst (λ y. AreOfTheirOwn (ends_of y)) (sym e) (own_first (ends_of x) (ends_of_all rs) own)
one_own r (x ∷ rs) (inr i) own = one_own r rs i (own_last (ends_of x) (ends_of_all rs) own)

pub one_at : (r : RecordNow) (rs : List RecordNow) → IsOneOf r rs → AreOfTheirOwn (ends_of_all rs) → (k : SocketId) (e : SeenEnd) → end_at (ends_of r) k ≡ Some e → end_at (ends_of_all rs) k ≡ Some e
one_at r [] i own k e h = absurd i
one_at r (x ∷ rs) (inl q) own k e h = end_append (ends_of x) (ends_of_all rs) k ∙ ap (λ o. first_of o (end_at (ends_of_all rs) k)) (ap (λ y. end_at (ends_of y) k) (sym q) ∙ h)
one_at r (x ∷ rs) (inr i) own k e h = by (own_apart (ends_of x) (ends_of_all rs) own k) (one_at r rs i (own_last (ends_of x) (ends_of_all rs) own) k e h)
  where
    by : (end_at (ends_of x) k ≡ None) ⊎ (end_at (ends_of_all rs) k ≡ None) → end_at (ends_of_all rs) k ≡ Some e → end_at (ends_of_all (x ∷ rs)) k ≡ Some e
    by (inl none) rest = end_append (ends_of x) (ends_of_all rs) k ∙ ap (λ o. first_of o (end_at (ends_of_all rs) k)) none ∙ rest
    by (inr none) rest = none_some e (end_at (ends_of_all rs) k) rest none

-- two with ends of one socket are one
pub one_record : (r s : RecordNow) (rs : List RecordNow) → IsOneOf r rs → IsOneOf s rs → AreOfTheirOwn (ends_of_all rs) → (k : SocketId) (e f : SeenEnd) →
    end_at (ends_of r) k ≡ Some e → end_at (ends_of s) k ≡ Some f → r ≡ s
one_record r s [] i j own k e f h g = absurd i
one_record r s (x ∷ rs) (inl p) (inl q) own k e f h g = p ∙ sym q
one_record r s (x ∷ rs) (inl p) (inr j) own k e f h g = by (own_apart (ends_of x) (ends_of_all rs) own k)
  where
    by : (end_at (ends_of x) k ≡ None) ⊎ (end_at (ends_of_all rs) k ≡ None) → r ≡ s
    by (inl none) = none_some e (end_at (ends_of x) k) (ap (λ y. end_at (ends_of y) k) (sym p) ∙ h) none
    by (inr none) = none_some f (end_at (ends_of_all rs) k) (one_at s rs j (own_last (ends_of x) (ends_of_all rs) own) k f g) none
one_record r s (x ∷ rs) (inr i) (inl q) own k e f h g = by (own_apart (ends_of x) (ends_of_all rs) own k)
  where
    by : (end_at (ends_of x) k ≡ None) ⊎ (end_at (ends_of_all rs) k ≡ None) → r ≡ s
    by (inl none) = none_some f (end_at (ends_of x) k) (ap (λ y. end_at (ends_of y) k) (sym q) ∙ g) none
    by (inr none) = none_some e (end_at (ends_of_all rs) k) (one_at r rs i (own_last (ends_of x) (ends_of_all rs) own) k e h) none
one_record r s (x ∷ rs) (inr i) (inr j) own k e f h g = one_record r s rs i j (own_last (ends_of x) (ends_of_all rs) own) k e f h g

-- two that have judged asks on one socket are one
pub one_judge : (r s : RecordNow) (rs : List RecordNow) → IsOneOf r rs → IsOneOf s rs → OneJudge rs → (k : SocketId) → is_among k (asked_on r) ≡ true → is_among k (asked_on s) ≡ true → r ≡ s
one_judge r s [] i j one k h g = absurd i
one_judge r s (x ∷ rs) (inl p) (inl q) one k h g = p ∙ sym q
one_judge r s (x ∷ rs) (inl p) (inr j) one k h g =
    absurd (false_isnt_true (sym (of_each (JudgeApart x) s rs one.0 j k (ap (λ (y : RecordNow). is_among k (asked_on y)) (sym p) ∙ h)) ∙ g))
one_judge r s (x ∷ rs) (inr i) (inl q) one k h g =
    absurd (false_isnt_true (sym (of_each (JudgeApart x) r rs one.0 i k (ap (λ (y : RecordNow). is_among k (asked_on y)) (sym q) ∙ g)) ∙ h))
one_judge r s (x ∷ rs) (inr i) (inr j) one k h g = one_judge r s rs i j one.1 k h g

-- ---- a record at a place

pub at_place : (r : RecordNow) (rs : List RecordNow) (n : ℕ) → slice_get rs n ≡ Some r → IsOneOf r rs
at_place r [] n h = absurd cc
at_place r (x ∷ rs) zero h = inl cc
at_place r (x ∷ rs) (suc n) h = inr (at_place r rs n h)

pub grows_there : (r s : RecordNow) (rs ss : List RecordNow) (n : ℕ) → slice_get rs n ≡ Some r → slice_get ss n ≡ Some s → RecordsGrow rs ss → RecordGrows r s
grows_there r s [] ss n h g grow = absurd cc
grows_there r s (x ∷ rs) [] n h g grow = absurd grow
grows_there r s (x ∷ rs) (y ∷ ss) zero h g grow = let p : x ≡ r = cc in let q : y ≡ s = cc in subst (λ a. RecordGrows a s) p (subst (λ b. RecordGrows x b) q grow.0)
grows_there r s (x ∷ rs) (y ∷ ss) (suc n) h g grow = grows_there r s rs ss n h g grow.1

-- what any of them becomes
pub record Becomes (r : RecordNow) (ss : List RecordNow) : Type 0 where
  pub later : RecordNow
  pub there : IsOneOf later ss
  pub grows : RecordGrows r later

pub becomes : (r : RecordNow) (rs ss : List RecordNow) → IsOneOf r rs → RecordsGrow rs ss → Becomes r ss
becomes r [] ss i grow = absurd i
becomes r (x ∷ rs) [] i grow = absurd grow
becomes r (x ∷ rs) (y ∷ ss) (inl e) grow = record { later = y; there = inl refl; grows = subst (λ a. RecordGrows a y) (sym e) grow.0 }
becomes r (x ∷ rs) (y ∷ ss) (inr i) grow = let rest = becomes r rs ss i grow.1 in record { later = rest.later; there = inr rest.there; grows = rest.grows }

-- Where one that has judged asks on a socket, and the one at a place has by the end, it is the one that stood there.
pub judge_before : (a b r : RecordNow) (rs ss : List RecordNow) (n : ℕ) → slice_get rs n ≡ Some a → slice_get ss n ≡ Some b → RecordsGrow rs ss → OneJudge ss → (k : SocketId) →
    IsOneOf r rs → is_among k (asked_on r) ≡ true → is_among k (asked_on b) ≡ true → r ≡ a
judge_before a b r [] ss n h g grow one k i p q = absurd i
judge_before a b r (x ∷ rs) [] n h g grow one k i p q = absurd grow
judge_before a b r (x ∷ rs) (y ∷ ss) zero h g grow one k (inl e) p q = let x_is : x ≡ a = cc in e ∙ x_is
judge_before a b r (x ∷ rs) (y ∷ ss) zero h g grow one k (inr i) p q =
    let later = becomes r rs ss i grow.1 in
    let y_is : y ≡ b = cc in
    absurd (false_isnt_true (sym (of_each (JudgeApart y) later.later ss one.0 later.there k (ap (λ (z : RecordNow). is_among k (asked_on z)) y_is ∙ q))
    ∙ asked_on_still r.journal later.later.journal k later.grows.journal p))
judge_before a b r (x ∷ rs) (y ∷ ss) (suc n) h g grow one k (inl e) p q =
    absurd (false_isnt_true (sym (of_each (JudgeApart y) b ss one.0 (at_place b ss n g) k (asked_on_still x.journal y.journal k grow.0.journal (ap (λ (z : RecordNow). is_among k (asked_on z)) (sym e) ∙ p))) ∙ q))
judge_before a b r (x ∷ rs) (y ∷ ss) (suc n) h g grow one k (inr i) p q = judge_before a b r rs ss n h g grow.1 one.1 k i p q
