-- A record that grows, and whose ends grow among all those of its center, goes further: also where it takes a half.
use Rattle.std.proofs.Common.{◌≡◌, ◌⊎◌, inl, inr, Bool, true, false, ◌||◌, if◌then◌else◌, List, [], ◌∷◌, ◌++◌, map, Option, Some, None, refl, sym, ap, subst, ◌∙◌}
use Rattle.std.specs.List.{AllByRecursion, IsDistinct}
use Rattle.std.proofs.lemmas.List.{map-append}
use Rattle.m2_fabric.specs.declared.socket.SocketId.{SocketId}
use Rattle.m2_fabric.specs.End.{SeenEnd}
use Rattle.m2_fabric.specs.Port.{SeenPort}
use Rattle.m2_fabric.specs.Sockets.{is_among, same_socket}
use Rattle.m2_history.specs.m2_record.IsRecord.{IsRecord, became_feed, feeds_in}
use Rattle.m2_history.specs.m2_record.RecordNow.{RecordNow, ends_of, feed_end}
use Rattle.m2_history.specs.m2_record.Sources.{end_at, trail_at}
use Rattle.m2_history.specs.m2_record.TakenTrails.{taken_by, taken_in}
use Rattle.m2_cluster.specs.m2_center.m2_turn.Halves.{AllHalves}
use Rattle.m2_cluster.proofs.m2_center.m2_turn.Opened.{filtered}
use Rattle.m2_history.specs.m2_trail.Trails.{TrailNow}
use Rattle.m2_growth.specs.Ends.{AreOfTheirOwn, EndGrows, EndGrowsTo, EndsGrow}
use Rattle.m2_growth.specs.Holding.{AreOwn, all_ends, waiting_at}
use Rattle.m2_growth.specs.Records.{RecordGrows, ends_of_all}
use Rattle.m2_growth.proofs.Ends.{end_append, first_of, later_swapped, own_apart, own_first, own_last, none_some}
use Rattle.m2_growth.proofs.OneRecord.{all_around, ends_behind, held_around, holding}
use Rattle.m2_growth.proofs.Owned.{own_all}
use Rattle.m2_links_go_on.proofs.Speaking.{GoesFurther, IsEndOf, IsStillAt, feed_has_end, taken_feed}
use Rattle.m2_fabric.proofs.m2_lemmas.Lists.{all_back, same_behind}
use Rattle.m2_history.proofs.m2_record.TrailsAt.{no_trail}
use Rattle.m2_fabric.proofs.m2_lemmas.Booleans.{not_true_is_false, false_isnt_true}
use Rattle.m2_history.proofs.Kept.{end-among, turned}
use Rattle.m2_fabric.proofs.Sockets.{same_equal, among_front}

-- ---- sockets

not_among : (x : SocketId) (ys : List SocketId) → AllByRecursion (λ y. same_socket x y ≡ false) ys → is_among x ys ≡ false
not_among x [] all = refl
not_among x (y ∷ ys) all = ap (λ b. b || is_among x ys) all.0 ∙ not_among x ys all.1

-- of sockets that false_isnt_true, one in front isn't behind
not_behind : (k : SocketId) (xs ys : List SocketId) → IsDistinct same_socket (xs ++ ys) → is_among k xs ≡ true → is_among k ys ≡ false
unfolding IsDistinct
not_behind k [] ys d h = absurd (false_isnt_true h)
not_behind k (x ∷ xs) ys d h = at (same_socket k x) refl h (not_behind k xs ys d.1)
  where
    at : (b : Bool) → same_socket k x ≡ b → b || is_among k xs ≡ true → (is_among k xs ≡ true → is_among k ys ≡ false) → is_among k ys ≡ false
    at true same g rest = subst (λ j. is_among j ys ≡ false) (sym (same_equal k x same)) (not_among x ys (all_back (λ y. same_socket x y ≡ false) xs ys d.0))
    at false other g rest = rest g

-- ---- trails

trail_front : (ts more : List TrailNow) (k : SocketId) → trail_at more k ≡ None → trail_at (ts ++ more) k ≡ trail_at ts k
trail_front [] more k h = h
trail_front (t ∷ ts) more k h = at (same_socket k t.socket) (trail_front ts more k h)
  where
    at : (b : Bool) → trail_at (ts ++ more) k ≡ trail_at ts k → (if b then Some t else trail_at (ts ++ more) k) ≡ (if b then Some t else trail_at ts k)
    at true rest = refl
    at false rest = rest

-- ---- among all ends

-- its ends are those of their sockets there
abbrev pub HasIts : RecordNow → List SeenEnd → Type 0
HasIts r ends = (k : SocketId) (e : SeenEnd) → end_at (ends_of r) k ≡ Some e → end_at ends k ≡ Some e

pub has_its : (r : RecordNow) (xs zs : List SeenEnd) → AreOfTheirOwn (xs ++ (ends_of r ++ zs)) → HasIts r (xs ++ (ends_of r ++ zs))
has_its r xs zs own k e h = end_append xs (ends_of r ++ zs) k ∙ ap (first_of (end_at xs k)) here ∙ before (own_apart xs (ends_of r ++ zs) own k)
  where
    here : end_at (ends_of r ++ zs) k ≡ Some e
    here = end_append (ends_of r) zs k ∙ ap (λ o. first_of o (end_at zs k)) h

    before : (end_at xs k ≡ None) ⊎ (end_at (ends_of r ++ zs) k ≡ None) → first_of (end_at xs k) (Some e) ≡ Some e
    before (inl none) = ap (λ o. first_of o (Some e)) none
    before (inr none) = absurd (none_some e (sym here ∙ none))

module _ (r s : RecordNow) (is : IsRecord r) (later : IsRecord s) (grows : RecordGrows r s) (own : AreOfTheirOwn (ends_of s)) where
  was_feed : (k : SocketId) (e : SeenEnd) → end_at (ends_of r) k ≡ Some e → is_among k (feeds_in r.journal) ≡ true
  was_feed k e h = subst (λ l. is_among k l ≡ true) is.kept.ends (turned k (feed_end r.core.live.feed) r.spent (end-among (ends_of r) k e h))

  feeds_apart : IsDistinct same_socket (feeds_in r.journal ++ feeds_in grows.journal.0)
  feeds_apart = subst (IsDistinct same_socket) (later.kept.ends ∙ ap feeds_in grows.journal.1 ∙ filtered became_feed r.journal grows.journal.0)
      (later_swapped (feed_end s.core.live.feed) s.spent own).own

  -- no further half was taken on it
  taken_no_more : (k : SocketId) (e : SeenEnd) → end_at (ends_of r) k ≡ Some e → is_among k (taken_in grows.journal.0) ≡ false
  taken_no_more k e h = not_true_is_false (is_among k (taken_in grows.journal.0))
      (λ taken. false_isnt_true (sym (not_behind k (feeds_in r.journal) (feeds_in grows.journal.0) feeds_apart (was_feed k e h)) ∙ taken_feed k grows.journal.0 taken))

  more_trails : map (λ (t : TrailNow). t.socket) grows.trails.0 ≡ taken_in grows.journal.0
  more_trails = same_behind (taken_in r.journal) _ _
      (ap (λ l. l ++ map (λ (t : TrailNow). t.socket) grows.trails.0) (sym is.trails.sockets) ∙ sym (map-append (λ (t : TrailNow). t.socket) r.trails grows.trails.0)
      ∙ ap (map (λ (t : TrailNow). t.socket)) (sym grows.trails.1) ∙ later.trails.sockets ∙ ap taken_in grows.journal.1 ∙ filtered taken_by r.journal grows.journal.0)

  trail_still : (k : SocketId) (e : SeenEnd) → end_at (ends_of r) k ≡ Some e → trail_at s.trails k ≡ trail_at r.trails k
  trail_still k e h = ap (λ ts. trail_at ts k) grows.trails.1
      ∙ trail_front r.trails grows.trails.0 k (no_trail grows.trails.0 k (ap (is_among k) more_trails ∙ taken_no_more k e h))

  pub goes_further : (before behind : List SeenEnd) → EndsGrow before behind → HasIts r before → HasIts s behind → GoesFurther r s
  goes_further before behind grow here there = record { facts = grows.facts; plan = grows.plan; journal = grows.journal; ends = still }
    where
      still : (k : SocketId) (e : SeenEnd) → end_at (ends_of r) k ≡ Some e → IsStillAt r s k e
      still k e h =
          let found : IsEndOf (ends_of s) k =
          feed_has_end s k later (subst (λ l. is_among k l ≡ true) (sym (ap feeds_in grows.journal.1 ∙ filtered became_feed r.journal grows.journal.0))
          (among_front k (feeds_in r.journal) (feeds_in grows.journal.0) (was_feed k e h))) in
          let grown : EndGrows e found.end =
          subst (λ (o : Option SeenEnd). EndGrowsTo o (Some found.end)) (here k e h) (subst (EndGrowsTo (end_at before k)) (there k found.end found.there) (grow k)) in
          record { later = found.end; there = found.there; got = grown.got; put = grown.put; trail = trail_still k e h }

-- ---- in a holding

pub its_own : (p : SeenPort) (before rest : List RecordNow) (r : RecordNow) (halves : AllHalves) → AreOwn (holding p (before ++ r ∷ rest) halves) → AreOfTheirOwn (ends_of r)
its_own p before rest r halves own =
    own_first (ends_of r) (ends_behind rest halves) (own_last (ends_of_all before) (ends_of r ++ ends_behind rest halves) (subst AreOfTheirOwn (held_around before rest r halves) own.held))

pub its_ends : (p : SeenPort) (before rest : List RecordNow) (r : RecordNow) (halves : AllHalves) → AreOwn (holding p (before ++ r ∷ rest) halves) → HasIts r (all_ends (holding p (before ++ r ∷ rest) halves))
its_ends p before rest r halves own =
    let around = all_around p before rest r halves in
    subst (HasIts r) (sym around) (has_its r (ends_of_all before) (ends_behind rest halves ++ waiting_at p) (subst AreOfTheirOwn around (own_all (holding p (before ++ r ∷ rest) halves) own)))
