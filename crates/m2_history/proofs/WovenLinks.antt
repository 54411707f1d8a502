-- Two sides of a link with their halves, as records keep them, are a scene.
use Rattle.std.proofs.Common.{◌≡◌, ℕ, zero, suc, ◌+◌, ◌<◌, ◌^◌, ◌⊎◌, inl, inr, Bool, true, false, not, ◌&&◌, ◌||◌, if◌then◌else◌, List, [], ◌∷◌, ◌++◌, length, map, Some, refl, sym, ap, ◌∙◌, subst, arith}
use Rattle.std.specs.Prelude.{slice_get}
use Rattle.std.specs.List.{AllByRecursion, IsDistinct, flat_map}
use Rattle.m2_trail.specs.m2_control.Laws.{HasAddrRanges}
use Rattle.m2_fabric.specs.declared.socket.SocketId.{SocketId}
use Rattle.m2_fabric.specs.End.{SeenEnd}
use Rattle.m2_fabric.specs.Log.{Log}
use Rattle.m2_fabric.specs.Sockets.{goes_to, is_among, same_socket}
use Rattle.m2_history.specs.Parts.{PartsNow}
use Rattle.m2_history.specs.Woven.{EndNow, end_of, ends_of, half_end, is_of_link, knows, loose_ends, row_now, rows_of}
use Rattle.m2_journal.specs.declared.entry.Entry.{Entry}
use Rattle.m2_journal.specs.declared.entry.Entry.TheVariants as entry
use Rattle.m2_journal.specs.Items.{Sources, at_start}
use Rattle.m2_journal.specs.Lawful.{judged_on}
use Rattle.m2_journal.specs.State.{start}
use Rattle.m2_channel.proofs.m2_never_reset.Sockets.{by_either, same_of_equal}
use Rattle.m2_record.specs.IsRecord.{feeds_in}
use Rattle.m2_record.specs.RecordNow.{ids_of}
use Rattle.m2_record.specs.Sources.{log_at, trail_at}
use Rattle.m2_record.specs.TakenTrails.{IsKeptTrail, judgements_in, taken_in}
use Rattle.m2_journal.specs.m2_session.SessionLaws.{takes}
use Rattle.m2_trail.specs.Arrivals.{LooseNow}
use Rattle.m2_trail.specs.Trails.{TrailNow, opener_of}
use Rattle.m2_weave.specs.declared.table.SocketBytes.{SocketBytes}
use Rattle.m2_weave.specs.Strands.{has_opened, journal_of}
use Rattle.m2_weave.specs.Table.{bytes_of}
use Rattle.m2_history.specs.Actors.{Actor, of_record, of_half, actors_of, is_near, journal_by, loose_actors, part_of, taken_half, trail_by}
use Rattle.m2_history.specs.WovenLink.{IsLink, IsLooseBeside, LinkNow, sources_in}
use Rattle.m2_history.proofs.Bytes.{HasBytes, IsOf, bytes_there, end_there, of_left, of_right}
use Rattle.m2_history.proofs.WovenHalves.{taken_own, whole_own}
use Rattle.m2_history.proofs.Journals.{opened_leads, opened_unjudged}
use Rattle.m2_history.proofs.Moved.{unjudged_untaken}
use Rattle.m2_history.proofs.Scene.{IsHalfIn, Setting, opens_in}
use Rattle.m2_bytes.proofs.m2_lemmas.Booleans.{from_false_true}
use Rattle.m2_fabric.proofs.Sockets.{same_equal, same_refl}
use Rattle.m2_bytes.proofs.m2_lemmas.Lists.{all_so_of}

abbrev pub setting_of : LinkNow → List SocketBytes → Setting
setting_of l sockets = record {
  facts = l.facts;
  sources = λ s. sources_in (l.plans s) (part_of l.both s);
  journals = λ s. journal_by l.both s;
  actors = actors_of l.both;
  bytes = bytes_of sockets;
}

-- ---- lists by their places

pub get_left : {X : Type 0} (xs ys : List X) (i : ℕ) (a : X) → slice_get xs i ≡ Some a → slice_get (xs ++ ys) i ≡ Some a
get_left [] ys i a e = absurd (cc)
get_left (x ∷ xs) ys zero a e = e
get_left (x ∷ xs) ys (suc i) a e = get_left xs ys i a e

pub get_right : {X : Type 0} (xs ys : List X) (i : ℕ) (a : X) → slice_get ys i ≡ Some a → slice_get (xs ++ ys) (length xs + i) ≡ Some a
get_right [] ys i a e = ap (slice_get ys) (let n : 0 + i ≡ i = omega arith in n) ∙ e
get_right (x ∷ xs) ys i a e = ap (slice_get (x ∷ (xs ++ ys))) (let n : suc (length xs) + i ≡ suc (length xs + i) = omega arith in n) ∙ get_right xs ys i a e

pub all_at : {X : Type 0} (P : X → Type 0) (xs : List X) (i : ℕ) (x : X) → AllByRecursion P xs → slice_get xs i ≡ Some x → P x
all_at P [] i x h e = absurd (cc)
all_at P (y ∷ xs) zero x h e = subst P (let same : y ≡ x = cc in same) h.0
all_at P (y ∷ xs) (suc i) x h e = all_at P xs i x h.1 e

pub all_with : {X : Type 0} (P Q R : X → Type 0) (xs : List X) → ((x : X) → P x → Q x → R x) → AllByRecursion P xs → AllByRecursion Q xs → AllByRecursion R xs
all_with P Q R [] f p q = tt
all_with P Q R (x ∷ xs) f p q = (f x p.0 q.0, all_with P Q R xs f p.1 q.1)

pub members : {X : Type 0} (xs : List X) → AllByRecursion (λ x. IsOf x xs) xs
members [] = tt
members (x ∷ xs) = (inl refl, all_so_of (λ y. IsOf y xs) (λ y. IsOf y (x ∷ xs)) xs (λ y h. inr h) (members xs))

-- ---- actors

abbrev pub IsHalfActor : Actor → Type 0
IsHalfActor (of_record s) = ⊥
IsHalfActor (of_half s t log) = Unit {0}

abbrev pub AreHalves : List Actor → Type 0
AreHalves actors = AllByRecursion IsHalfActor actors

pub taken_halves : (s : Bool) (ends : List SeenEnd) (ts : List TrailNow) → AreHalves (map (taken_half s ends) ts)
taken_halves s ends [] = tt
taken_halves s ends (t ∷ ts) = (tt, taken_halves s ends ts)

pub loose_halves : (a b : List Entry) (ls : List LooseNow) → AreHalves (loose_actors a b ls)
loose_halves a b [] = tt
loose_halves a b (l ∷ ls) = at (is_of_link a b l) (loose_halves a b ls)
  where
    at : (c : Bool) → AllByRecursion IsHalfActor (loose_actors a b ls) → AllByRecursion IsHalfActor ((if c then of_half (is_near a b l.trail.socket) l.trail l.end.log ∷ [] else []) ++ loose_actors a b ls)
    at true rest = (tt, rest)
    at false rest = rest

no_record : (xs : List Actor) (j : ℕ) (s : Bool) → AreHalves xs → slice_get xs j ≡ Some (of_record s) → ⊥
no_record [] j s h e = let bad : ⊥ = cc in bad
no_record (of_record r ∷ xs) zero s h e = h.0
no_record (of_half r t log ∷ xs) zero s h e = let same : of_half r t log ≡ of_record s = cc in let bad : ⊥ = cc in bad
no_record (x ∷ xs) (suc j) s h e = no_record xs j s h.1 e

pub record_between : (xs ys : List Actor) (y : Actor) (j : ℕ) (s : Bool) → AreHalves xs → AreHalves ys → slice_get (xs ++ y ∷ ys) j ≡ Some (of_record s) → (j ≡ length xs) × (y ≡ of_record s)
record_between [] ys y zero s h k e = (refl, let same : y ≡ of_record s = cc in same)
record_between [] ys y (suc j) s h k e = absurd (no_record ys j s k e)
record_between (of_record r ∷ xs) ys y zero s h k e = absurd h.0
record_between (of_half r t log ∷ xs) ys y zero s h k e = absurd (let same : of_half r t log ≡ of_record s = cc in let bad : ⊥ = cc in bad)
record_between (x ∷ xs) ys y (suc j) s h k e = let r = record_between xs ys y j s h.1 k e in (ap suc r.0, r.1)

pub one_record : (s r : Bool) → of_record s ≡ of_record r → s ≡ r
one_record s r e = cc

-- what holds of each trail holds of that of a half
pub trail_at_half : (P : TrailNow → Type 0) (actors : List Actor) (j : ℕ) (s : Bool) (t : TrailNow) (log : Log) → AllByRecursion P (flat_map trail_by actors) → slice_get actors j ≡ Some (of_half s t log) → P t
trail_at_half P [] j s t log h e = absurd (cc)
trail_at_half P (of_record r ∷ actors) zero s t log h e = absurd (let same : of_record r ≡ of_half s t log = cc in let bad : ⊥ = cc in bad)
trail_at_half P (of_half r u other ∷ actors) zero s t log h e = subst P (let both : of_half r u other ≡ of_half s t log = cc in let same : u ≡ t = cc in same) h.0
trail_at_half P (of_record r ∷ actors) (suc j) s t log h e = trail_at_half P actors j s t log h e
trail_at_half P (of_half r u other ∷ actors) (suc j) s t log h e = trail_at_half P actors j s t log h.1 e

all_named : (P : SocketId → Type 0) (ts : List TrailNow) → AllByRecursion P (map (λ (t : TrailNow). t.socket) ts) → AllByRecursion (λ t. P t.socket) ts
all_named P [] h = tt
all_named P (t ∷ ts) h = (h.0, all_named P ts h.1)

never_same : (t u : TrailNow) → same_socket t.socket u.socket ≡ false → t.socket ≡ u.socket → ⊥
never_same t u e q = from_false_true (sym e ∙ same_of_equal t.socket u.socket q)

-- sockets that are apart tell the places of halves apart
pub places_of : (actors : List Actor) → IsDistinct same_socket (map (λ (t : TrailNow). t.socket) (flat_map trail_by actors)) → (i j : ℕ) (s r : Bool) (t u : TrailNow) (log other : Log) →
    slice_get actors i ≡ Some (of_half s t log) → slice_get actors j ≡ Some (of_half r u other) → t.socket ≡ u.socket → i ≡ j
unfolding IsDistinct
places_of [] d i j s r t u log other e g q = absurd (cc)
places_of (a ∷ actors) d zero zero s r t u log other e g q = refl
places_of (of_record b ∷ actors) d zero (suc j) s r t u log other e g q = absurd (let same : of_record b ≡ of_half s t log = cc in let bad : ⊥ = cc in bad)
places_of (of_half b v third ∷ actors) d zero (suc j) s r t u log other e g q =
    let both : of_half b v third ≡ of_half s t log = cc in
    let same : v ≡ t = cc in
    absurd (never_same v u (trail_at_half (λ w. same_socket v.socket w.socket ≡ false) actors j r u other (all_named (λ k. same_socket v.socket k ≡ false) (flat_map trail_by actors) d.0) g) (ap (λ (w : TrailNow). w.socket) same ∙ q))
places_of (of_record b ∷ actors) d (suc i) zero s r t u log other e g q = absurd (let same : of_record b ≡ of_half r u other = cc in let bad : ⊥ = cc in bad)
places_of (of_half b v third ∷ actors) d (suc i) zero s r t u log other e g q =
    let both : of_half b v third ≡ of_half r u other = cc in
    let same : v ≡ u = cc in
    absurd (never_same v t (trail_at_half (λ w. same_socket v.socket w.socket ≡ false) actors i s t log (all_named (λ k. same_socket v.socket k ≡ false) (flat_map trail_by actors) d.0) e) (ap (λ (w : TrailNow). w.socket) same ∙ sym q))
places_of (of_record b ∷ actors) d (suc i) (suc j) s r t u log other e g q = ap suc (places_of actors d i j s r t u log other e g q)
places_of (of_half b v third ∷ actors) d (suc i) (suc j) s r t u log other e g q = ap suc (places_of actors d.1 i j s r t u log other e g q)

-- ---- trails of a side

pub record FoundTrail (ts : List TrailNow) (k : SocketId) : Type 0 where
  pub place : ℕ
  pub trail : TrailNow
  pub there : slice_get ts place ≡ Some trail
  pub socket : trail.socket ≡ k
  pub first : trail_at ts k ≡ Some trail

pub find_trail : (ts : List TrailNow) (k : SocketId) → is_among k (map (λ (t : TrailNow). t.socket) ts) ≡ true → FoundTrail ts k
find_trail [] k h = from_false_true h
find_trail (t ∷ ts) k h = at (same_socket k t.socket) refl (find_trail ts k)
  where
    at : (b : Bool) → same_socket k t.socket ≡ b → (is_among k (map (λ (t : TrailNow). t.socket) ts) ≡ true → FoundTrail ts k) → FoundTrail (t ∷ ts) k
    at true q later = record { place = 0; trail = t; there = refl; socket = sym (same_equal k t.socket q); first = ap (λ b. if b then Some t else trail_at ts k) q }
    at false q later =
        let rest = later (sym (ap (λ b. b || is_among k (map (λ (t : TrailNow). t.socket) ts)) q) ∙ h) in
        record { place = suc rest.place; trail = rest.trail; there = rest.there; socket = rest.socket; first = ap (λ b. if b then Some t else trail_at ts k) q ∙ rest.first }

pub among_of : (ts : List TrailNow) (t : TrailNow) → IsOf t ts → is_among t.socket (map (λ (t : TrailNow). t.socket) ts) ≡ true
among_of [] t h = absurd h
among_of (u ∷ ts) t (inl e) = ap (λ b. b || is_among t.socket (map (λ (t : TrailNow). t.socket) ts)) (ap (λ (w : TrailNow). same_socket t.socket w.socket) e ∙ same_refl t.socket)
among_of (u ∷ ts) t (inr h) = at (same_socket t.socket u.socket) (among_of ts t h)
  where
    at : (b : Bool) → is_among t.socket (map (λ (t : TrailNow). t.socket) ts) ≡ true → b || is_among t.socket (map (λ (t : TrailNow). t.socket) ts) ≡ true
    at true g = refl
    at false g = g

-- ---- sockets that became the feed

pub feed_taken : (P : SocketId → Type 0) (es : List Entry) (k : SocketId) → AllByRecursion P (feeds_in es) → is_among k (taken_in es) ≡ true → P k
feed_taken P [] k h o = from_false_true o
feed_taken P (entry.Opened x ∷ es) k h o = feed_taken P es k h.1 o
feed_taken P (entry.Judged x ask number answer ∷ es) k h o = at (takes answer) refl (feed_taken P es k)
  where
    at : (b : Bool) → takes answer ≡ b → (AllByRecursion P (feeds_in es) → is_among k (taken_in es) ≡ true → P k) → P k
    at true q later = by_socket (same_socket k x) refl (rw q at o)
      where
        all : AllByRecursion P (x ∷ feeds_in es)
        all = rw q at h

        by_socket : (c : Bool) → same_socket k x ≡ c → c || is_among k (taken_in es) ≡ true → P k
        by_socket true e g = subst P (sym (same_equal k x e)) all.0
        by_socket false e g = later all.1 g
    at false q later = later (rw q at h) (rw q at o)
feed_taken P (e ∷ es) k h o = feed_taken P es k h o

pub feed_opened : (P : SocketId → Type 0) (es : List Entry) (k : SocketId) → AllByRecursion P (feeds_in es) → has_opened (journal_of es) k ≡ true → P k
feed_opened P [] k h o = from_false_true o
feed_opened P (entry.Opened x ∷ es) k h o = at (same_socket k x) refl o (feed_opened P es k h.1)
  where
    at : (b : Bool) → same_socket k x ≡ b → b || has_opened (journal_of es) k ≡ true → (has_opened (journal_of es) k ≡ true → P k) → P k
    at true q g later = subst P (sym (same_equal k x q)) h.0
    at false q g later = later g
feed_opened P (entry.Judged x ask number answer ∷ es) k h o = at (takes answer) refl (feed_opened P es k)
  where
    at : (b : Bool) → takes answer ≡ b → (AllByRecursion P (feeds_in es) → has_opened (journal_of es) k ≡ true → P k) → P k
    at true q later = let all : AllByRecursion P (x ∷ feeds_in es) = rw q at h in later all.1 o
    at false q later = later (rw q at h) o
feed_opened P (e ∷ es) k h o = feed_opened P es k h o

-- ---- whose a half is that neither took

near_half_is : (a b : List Entry) (k : SocketId) → is_near a b k ≡ true → has_opened (journal_of a) k ≡ false
near_half_is a b k e = at (has_opened (journal_of a) k) refl e
  where
    at : (c : Bool) → has_opened (journal_of a) k ≡ c → (not c && (has_opened (journal_of b) k || knows a k)) ≡ true → has_opened (journal_of a) k ≡ false
    at true p h = from_false_true h
    at false p h = p

-- the near side opened it, or the far side didn't
far_half_is : (a b : List Entry) (k : SocketId) → is_near a b k ≡ false → (has_opened (journal_of a) k ≡ true) ⊎ (has_opened (journal_of b) k ≡ false)
far_half_is a b k e = at (has_opened (journal_of a) k) (has_opened (journal_of b) k) refl refl e
  where
    at : (c d : Bool) → has_opened (journal_of a) k ≡ c → has_opened (journal_of b) k ≡ d → (not c && (d || knows a k)) ≡ false → (has_opened (journal_of a) k ≡ true) ⊎ (has_opened (journal_of b) k ≡ false)
    at true d p q h = inl p
    at false true p q h = from_false_true (sym h)
    at false false p q h = inr q

loose_member : (a b : List Entry) (ls : List LooseNow) (l : LooseNow) → IsOf l ls → is_of_link a b l ≡ true → IsOf (half_end l) (loose_ends a b ls)
loose_member a b [] l h e = absurd h
loose_member a b (m ∷ ls) l (inl q) e =
    ap_of (sym (ap (λ c. (if c then half_end m ∷ [] else []) ++ loose_ends a b ls) (ap (is_of_link a b) q ∙ e))) (inl (ap half_end q))
  where
    ap_of : {xs ys : List EndNow} → xs ≡ ys → IsOf (half_end l) xs → IsOf (half_end l) ys
    ap_of e h = subst (IsOf (half_end l)) e h
loose_member a b (m ∷ ls) l (inr h) e = at (is_of_link a b m) (loose_member a b ls l h e)
  where
    at : (c : Bool) → IsOf (half_end l) (loose_ends a b ls) → IsOf (half_end l) ((if c then half_end m ∷ [] else []) ++ loose_ends a b ls)
    at true h = inr h
    at false h = h

-- ---- a link

module _ (l : LinkNow) (link : IsLink l) (sockets : List SocketBytes) (rows : map row_now sockets ≡ rows_of (ends_of l.both)) where
  abbrev x : Setting
  x = setting_of l sockets

  abbrev part : Bool → PartsNow
  part s = part_of l.both s

  abbrev journal : Bool → List Entry
  journal s = journal_by l.both s

  abbrev sources : Bool → Sources
  sources s = sources_in (l.plans s) (part s)

  pub side_bytes : (s : Bool) (k : SocketId) → is_among k (ids_of (part s).ends) ≡ true → HasBytes sockets k (opens_in x s k) (log_at (part s).ends k).got (log_at (part s).ends k).put
  side_bytes s k h =
      let e = end_there (journal s) (part s).ends k h in
      let has = bytes_there (ends_of l.both) sockets e.end link.joined.apart rows (member s e.end e.there) in
      record {
        got = ap (λ j. (bytes_of sockets).got (record { socket = j; opener = opens_in x s k })) (sym e.socket)
            ∙ ap (λ o. (bytes_of sockets).got (record { socket = e.end.socket; opener = o })) (sym e.opener) ∙ has.got ∙ e.got;
        put = ap (λ j. (bytes_of sockets).put (record { socket = j; opener = opens_in x s k })) (sym e.socket)
            ∙ ap (λ o. (bytes_of sockets).put (record { socket = e.end.socket; opener = o })) (sym e.opener) ∙ has.put ∙ e.put;
      }
    where
      member : (s : Bool) (e : EndNow) → IsOf e (map (end_of (journal s)) (part s).ends) → IsOf e (ends_of l.both)
      member true e h =
          of_left e (map (end_of l.both.a.journal) l.both.a.ends ++ map (end_of l.both.b.journal) l.both.b.ends) (loose_ends l.both.a.journal l.both.b.journal l.both.loose)
          (of_left e (map (end_of l.both.a.journal) l.both.a.ends) (map (end_of l.both.b.journal) l.both.b.ends) h)
      member false e h =
          of_left e (map (end_of l.both.a.journal) l.both.a.ends ++ map (end_of l.both.b.journal) l.both.b.ends) (loose_ends l.both.a.journal l.both.b.journal l.both.loose)
          (of_right e (map (end_of l.both.a.journal) l.both.a.ends) (map (end_of l.both.b.journal) l.both.b.ends) h)

  pub opened_judges_none : (s : Bool) (k : SocketId) → opens_in x s k ≡ true → judged_on k (judgements_in (journal s)) ≡ []
  opened_judges_none s k o = opened_unjudged (l.facts s) (sources s) (journal s) at_start k (link.sides s).lawful o

  never_both : (s : Bool) (k : SocketId) → opens_in x s k ≡ true → (b : Bool) → opens_in x (not s) k ≡ b → opens_in x (not s) k ≡ false
  never_both s k o false e = e
  never_both s k o true e = at s o e
    where
      leads : (s : Bool) → opens_in x s k ≡ true → goes_to (l.facts s).peer k ≡ true
      leads s o = opened_leads (l.facts s) (sources s) (journal s) at_start (start (l.facts s)) k (link.sides s).lawful o

      at : (s : Bool) → opens_in x s k ≡ true → opens_in x (not s) k ≡ true → opens_in x (not s) k ≡ false
      at true o e = from_false_true (sym (link.joined.peers k (leads true o)) ∙ leads false e)
      at false o e = from_false_true (sym (link.joined.peers k (leads true e)) ∙ leads false o)

  pub sides_apart : (s : Bool) (k : SocketId) → opens_in x s k ≡ true → opens_in x (not s) k ≡ false
  sides_apart s k o = never_both s k o (opens_in x (not s) k) refl

  -- ---- halves

  -- all but the ranges of its address
  abbrev pub IsKnownActor : Actor → Type 0
  IsKnownActor (of_record s) = Unit {0}
  IsKnownActor (of_half s t log) = HasAddrRanges (opener_of t.socket) → IsHalfIn x s t log

  pub taken_known : (s : Bool) (t : TrailNow) → IsOf t (part s).trails → IsKeptTrail (l.facts s).node.entity (part s).ends (journal s) t → HasAddrRanges (opener_of t.socket) →
      IsHalfIn x s t (log_at (part s).ends t.socket)
  taken_known s t member kept seen = record {
    trail = kept.beside.facts;
    own = taken_own t kept.beside.entries;
    entity = subst (λ n. n < 2 ^ 8) (sym kept.entity) (link.joined.named s).entity;
    seen = seen;
    unopened = unopened (opens_in x s t.socket) refl;
    judged = kept.judged;
    got = ap (λ o. (bytes_of sockets).got (record { socket = t.socket; opener = o })) (sym (unopened (opens_in x s t.socket) refl)) ∙ bytes.got;
    put = ap (λ o. (bytes_of sockets).put (record { socket = t.socket; opener = o })) (sym (unopened (opens_in x s t.socket) refl)) ∙ bytes.put;
  }
    where
      taken : is_among t.socket (taken_in (journal s)) ≡ true
      taken = ap (is_among t.socket) (sym (link.sides s).trails.sockets) ∙ among_of (part s).trails t member

      never : judged_on t.socket (judgements_in (journal s)) ≡ [] → ⊥
      never e = from_false_true (sym (unjudged_untaken t.socket (journal s) e) ∙ taken)

      unopened : (b : Bool) → opens_in x s t.socket ≡ b → opens_in x s t.socket ≡ false
      unopened false e = e
      unopened true e = absurd (never (opened_judges_none s t.socket e))

      bytes : HasBytes sockets t.socket (opens_in x s t.socket) (log_at (part s).ends t.socket).got (log_at (part s).ends t.socket).put
      bytes = side_bytes s t.socket (feed_taken (λ k. is_among k (ids_of (part s).ends) ≡ true) (journal s) t.socket (link.sides s).ends taken)

  pub loose_known : (h : LooseNow) → IsOf h l.both.loose → is_of_link l.both.a.journal l.both.b.journal h ≡ true → IsLooseBeside l.both.a.journal l.both.b.journal h → HasAddrRanges (opener_of h.trail.socket) →
      IsHalfIn x (is_near l.both.a.journal l.both.b.journal h.trail.socket) h.trail h.end.log
  loose_known h member of_link beside seen = record {
    trail = beside.whole.facts;
    own = whole_own h.trail h.end.log beside.whole.entries;
    entity = beside.entity;
    seen = seen;
    unopened = unopened (is_near a b k) refl;
    judged = beside.judged ∙ ap (λ es. judged_on k (judgements_in es)) (whose (is_near a b k));
    got = ap (λ j. (bytes_of sockets).got (record { socket = j; opener = false })) beside.whole.socket ∙ bytes.got;
    put = ap (λ j. (bytes_of sockets).put (record { socket = j; opener = false })) beside.whole.socket ∙ bytes.put;
  }
    where
      a : List Entry
      a = l.both.a.journal

      b : List Entry
      b = l.both.b.journal

      k : SocketId
      k = h.trail.socket

      whose : (s : Bool) → (if s then a else b) ≡ journal s
      whose true = refl
      whose false = refl

      unopened : (s : Bool) → is_near a b k ≡ s → opens_in x s k ≡ false
      unopened true e = near_half_is a b k e
      unopened false e = by_either (far_half_is a b k e) (λ o. sides_apart true k o) (λ n. n)

      bytes : HasBytes sockets h.end.id false h.end.log.got h.end.log.put
      bytes =
          bytes_there (ends_of l.both) sockets (half_end h) link.joined.apart rows
          (of_right (half_end h) (map (end_of a) l.both.a.ends ++ map (end_of b) l.both.b.ends) (loose_ends a b l.both.loose) (loose_member a b l.both.loose h member of_link))
