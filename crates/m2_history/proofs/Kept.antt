-- A record's side keeps what weaving wants: its reads and writes are on sockets of its ends, and its halves handed on what it judged.
use Rattle.std.proofs.Common.{◌≡◌, ℕ, zero, suc, if◌then◌else◌, ◌||◌, Bool, true, false, List, [], ◌∷◌, ◌++◌, map, take, drop, refl, sym, ap, ◌∙◌, subst, Option, Some, None}
use Rattle.std.specs.List.{AllByRecursion}
use Rattle.std.proofs.lemmas.List.{map-append}
use Rattle.std.proofs.lemmas.List.Folds.{list_any-append}
use Rattle.m2_fabric.specs.declared.log.Run.{Run}
use Rattle.m2_fabric.specs.declared.log.Run.TheVariants as run
use Rattle.m2_fabric.specs.declared.socket.SocketId.{SocketId}
use Rattle.m2_fabric.specs.End.{SeenEnd}
use Rattle.m2_fabric.specs.Sockets.{is_among, same_socket}
use Rattle.m2_journal.specs.declared.entry.Entry.{Entry}
use Rattle.m2_journal.specs.declared.entry.Entry.TheVariants as entry
use Rattle.m2_journal.specs.Items.{Places, at_start, item_of, items_from, passed}
use Rattle.m2_journal.specs.Lawful.{AreSome, GoesOn, OnFeedAt}
use Rattle.m2_journal.specs.Replay.{AreLawful}
use Rattle.m2_journal.specs.SideFacts.{SideFacts}
use Rattle.m2_journal.specs.State.{Feed, State, start}
use Rattle.m2_journal.specs.Steps.{after}
use Rattle.m2_journal.specs.m2_session.SessionLaws.{takes}
use Rattle.m2_record.specs.IsRecord.{feeds_in}
use Rattle.m2_record.specs.RecordNow.{ends_of, feed_end, grounds_of, ids_of}
use Rattle.m2_record.specs.Sources.{Grounds, end_at, got_of, put_of, sources_of}
use Rattle.m2_record.specs.TakenTrails.{IsKeptTrail, taken_in}
use Rattle.m2_trail.specs.Trails as trail
use Rattle.m2_trail.specs.Trails.{TrailNow}
use Rattle.m2_history.specs.Link.{HasEnd, IsKeptHalf, IsOnSocket, RecordsAreKept}
use Rattle.m2_fabric.proofs.Sockets.{same_refl}
use Rattle.m2_bytes.proofs.m2_lemmas.Lists.{all_so}
use Rattle.m2_bytes.proofs.m2_lemmas.Booleans.{or_left, or_right}

-- ---- an end that something was read or written at

pub end-among : (ends : List SeenEnd) (k : SocketId) (e : SeenEnd) → end_at ends k ≡ Some e → is_among k (ids_of ends) ≡ true
end-among [] k e h = absurd cc
end-among (x ∷ ends) k e h = at (same_socket k x.id) refl h (end-among ends k e)
  where
    at : (b : Bool) → same_socket k x.id ≡ b → (if b then Some x else end_at ends k) ≡ Some e → (end_at ends k ≡ Some e → is_among k (ids_of ends) ≡ true) →
        (same_socket k x.id || is_among k (ids_of ends)) ≡ true
    at true is h rest = rw is refl
    at false is h rest = rw is (rest h)

-- of nothing there is no piece
nothing-behind : (m : ℕ) → ◌≡◌ {A = List ℕ} (drop m []) []
nothing-behind zero = refl
nothing-behind (suc m) = refl

none-of-nothing : (c n m : ℕ) → AreSome (take c (drop n (drop m []))) → ⊥
none-of-nothing c n m h = at c (subst (λ (l : List ℕ). AreSome (take c l)) (ap (drop n) (nothing-behind m) ∙ nothing-behind n) h)
  where
    at : (c : ℕ) → AreSome (take c []) → ⊥
    at zero h = absurd cc
    at (suc c) h = absurd cc

got-there : (ends : List SeenEnd) (k : SocketId) (n m c : ℕ) → AreSome (take c (drop n (drop m (got_of (end_at ends k))))) → is_among k (ids_of ends) ≡ true
got-there ends k n m c h = at (end_at ends k) refl h
  where
    at : (o : Option SeenEnd) → end_at ends k ≡ o → AreSome (take c (drop n (drop m (got_of o)))) → is_among k (ids_of ends) ≡ true
    at (Some e) is h = end-among ends k e is
    at None is h = absurd (none-of-nothing c n m h)

put-there : (ends : List SeenEnd) (k : SocketId) (n m c : ℕ) → AreSome (take c (drop n (drop m (put_of (end_at ends k))))) → is_among k (ids_of ends) ≡ true
put-there ends k n m c h = at (end_at ends k) refl h
  where
    at : (o : Option SeenEnd) → end_at ends k ≡ o → AreSome (take c (drop n (drop m (put_of o)))) → is_among k (ids_of ends) ≡ true
    at (Some e) is h = end-among ends k e is
    at None is h = absurd (none-of-nothing c n m h)

some-written : (f : SideFacts) (s : State) (bytes : List ℕ) (o : Option Feed) → OnFeedAt o (GoesOn f s bytes) → AreSome bytes
some-written f s bytes (Some d) h = h.some
some-written f s bytes None h = absurd h

-- the sources of a record
all-named : (f : SideFacts) (g : Grounds) (p : Places) (es : List Entry) (s : State) → AreLawful f (items_from (sources_of g) p es) s → AllByRecursion (HasEnd (ids_of g.ends)) es
all-named f g p [] s lawful = tt
all-named f g p (entry.Read k count ∷ es) s lawful =
    (got-there g.ends k (p.read k) _ count lawful.0.1, all-named f g (passed (entry.Read k count) p) es (after f (item_of (sources_of g) p (entry.Read k count)) s) lawful.1)
all-named f g p (entry.Wrote k count ∷ es) s lawful =
    (put-there g.ends k (p.written k) _ count (some-written f s _ s.feed lawful.0.1), all-named f g (passed (entry.Wrote k count) p) es (after f (item_of (sources_of g) p (entry.Wrote k count)) s) lawful.1)
all-named f g p (e ∷ es) s lawful = (tt, all-named f g (passed e p) es (after f (item_of (sources_of g) p e) s) lawful.1)

-- ---- the halves that it took

pub of-run : (k : SocketId) (r : Run) → IsOnSocket k (trail.entry_of k r)
of-run k (run.Read count) = refl
of-run k (run.Wrote count) = refl

pub of-runs : (k : SocketId) (rs : List Run) → AllByRecursion (IsOnSocket k) (map (trail.entry_of k) rs)
of-runs k [] = tt
of-runs k (r ∷ rs) = (of-run k r, of-runs k rs)

-- the socket of each was the feed
first-taken : (e : Entry) (es : List Entry) → AllByRecursion (λ k. is_among k (feeds_in es) ≡ true) (taken_in es) → AllByRecursion (λ k. is_among k (feeds_in (e ∷ es)) ≡ true) (taken_in (e ∷ es))
first-taken (entry.Opened k) es all = all_so (λ x. is_among x (feeds_in es) ≡ true) (λ x. (same_socket x k || is_among x (feeds_in es)) ≡ true) (λ x h. or_right _ _ h) (taken_in es) all
first-taken (entry.Judged k ask number answer) es all = at (takes answer) refl
  where
    at : (b : Bool) → takes answer ≡ b → AllByRecursion (λ x. is_among x (feeds_in (entry.Judged k ask number answer ∷ es)) ≡ true) (taken_in (entry.Judged k ask number answer ∷ es))
    at true e = rw e (or_left _ _ (same_refl k), all_so (λ x. is_among x (feeds_in es) ≡ true) (λ x. (same_socket x k || is_among x (feeds_in es)) ≡ true) (λ x h. or_right _ _ h) (taken_in es) all)
    at false e = rw e all
first-taken (entry.Post place) es all = all
first-taken entry.Dial es all = all
first-taken (entry.Read k count) es all = all
first-taken (entry.Wrote k count) es all = all
first-taken (entry.Closed k) es all = all
first-taken (entry.Asked ident number) es all = all
first-taken (entry.Numbered number) es all = all
first-taken (entry.Accepted number key) es all = all
first-taken (entry.Acked number) es all = all
first-taken (entry.Obeyed full) es all = all
first-taken (entry.Down planned) es all = all

all-taken : (es : List Entry) → AllByRecursion (λ k. is_among k (feeds_in es) ≡ true) (taken_in es)
all-taken [] = tt
all-taken (e ∷ es) = first-taken e es (all-taken es)

pub map-all : {X : Type 0} (P : SocketId → Type 0) (f : X → SocketId) (xs : List X) → AllByRecursion P (map f xs) → AllByRecursion (λ x. P (f x)) xs
map-all P f [] a = tt
map-all P f (x ∷ xs) a = (a.0, map-all P f xs a.1)

both-all : {X : Type 0} (P Q R : X → Type 0) → ((x : X) → P x → Q x → R x) → (xs : List X) → AllByRecursion P xs → AllByRecursion Q xs → AllByRecursion R xs
both-all P Q R h [] a b = tt
both-all P Q R h (x ∷ xs) a b = (h x a.0 b.0, both-all P Q R h xs a.1 b.1)

-- the feed's end may stand first or last
pub turned : (k : SocketId) (xs ys : List SeenEnd) → is_among k (ids_of (xs ++ ys)) ≡ true → is_among k (ids_of (ys ++ xs)) ≡ true
turned k xs ys h =
    ap (is_among k) (map-append (λ (e : SeenEnd). e.id) ys xs) ∙ list_any-append (same_socket k) (ids_of ys) (ids_of xs)
    ∙ or-turned (is_among k (ids_of ys)) (is_among k (ids_of xs))
    ∙ sym (ap (is_among k) (map-append (λ (e : SeenEnd). e.id) xs ys) ∙ list_any-append (same_socket k) (ids_of xs) (ids_of ys)) ∙ h
  where
    or-turned : (a b : Bool) → (a || b) ≡ (b || a)
    or-turned true true = refl
    or-turned true false = refl
    or-turned false true = refl
    or-turned false false = refl

pub records_are_kept : RecordsAreKept
records_are_kept r is = record {
  named = all-named r.core.facts (grounds_of r) at_start r.journal (start r.core.facts) is.at_state.replay.lawful;
  halves = both-all (λ (t : TrailNow). is_among t.socket (ids_of (ends_of r)) ≡ true) (IsKeptTrail r.core.facts.node.entity (ends_of r) r.journal)
      (IsKeptHalf (ids_of (ends_of r)) r.journal) one r.trails taken is.trails.each;
}
  where
    there : (k : SocketId) → is_among k (feeds_in r.journal) ≡ true → is_among k (ids_of (ends_of r)) ≡ true
    there k h = turned k r.spent (feed_end r.core.live.feed) (ap (is_among k) is.kept.ends ∙ h)

    taken : AllByRecursion (λ (t : TrailNow). is_among t.socket (ids_of (ends_of r)) ≡ true) r.trails
    taken =
        map-all (λ k. is_among k (ids_of (ends_of r)) ≡ true) (λ (t : TrailNow). t.socket) r.trails
        (subst (AllByRecursion (λ k. is_among k (ids_of (ends_of r)) ≡ true)) (sym is.trails.sockets)
        (all_so (λ k. is_among k (feeds_in r.journal) ≡ true) (λ k. is_among k (ids_of (ends_of r)) ≡ true) there (taken_in r.journal) (all-taken r.journal)))

    one : (t : TrailNow) → is_among t.socket (ids_of (ends_of r)) ≡ true → IsKeptTrail r.core.facts.node.entity (ends_of r) r.journal t → IsKeptHalf (ids_of (ends_of r)) r.journal t
    one t end h = record {
      end = end;
      entries = subst (AllByRecursion (IsOnSocket t.socket)) (sym h.beside.entries) (of-runs t.socket (trail.runs_of t));
      many = h.beside.facts.many;
      judged = h.judged;
    }
