-- Two sides and their halves as actors, whatever they come from: which strands are whose, and what each knows of its sockets.
use Rattle.std.proofs.Common.{◌≡◌, ℕ, zero, suc, ◌+◌, ◌<◌, ◌^◌, ◌⊎◌, inl, inr, Bool, true, false, not, List, [], ◌∷◌, length, map, take, drop, Option, Some, None, refl, sym, ap, ◌∙◌, arith}
use Rattle.std.specs.Prelude.{slice_get, slice_index}
use Rattle.m2_trail.specs.m2_control.Laws.{HasAddrRanges}
use Rattle.m2_fabric.specs.declared.socket.SocketId.{SocketId}
use Rattle.m2_fabric.specs.Log.{Log}
use Rattle.m2_fabric.specs.Sockets.{is_among, same_socket}
use Rattle.m2_history.specs.HalfStrands.{strand_of}
use Rattle.m2_journal.specs.declared.entry.Entry.{Entry}
use Rattle.m2_journal.specs.Items.{JournalItem, Sources, items_of}
use Rattle.m2_journal.specs.Lawful.{judged_on}
use Rattle.m2_journal.specs.Replay.{AreLawful}
use Rattle.m2_journal.specs.SideFacts.{SideFacts}
use Rattle.m2_journal.specs.State.{start}
use Rattle.m2_weave.specs.Order.{Cut}
use Rattle.m2_record.specs.TakenTrails.{judgements_in, taken_in}
use Rattle.m2_trail.specs.Trails as tr
use Rattle.m2_trail.specs.Trails.{TrailNow, IsTakenTrail, IsTrailOf, opener_of, runs_of, unread_of}
use Rattle.m2_weave.specs.declared.strand.StrandItem.{StrandItem}
use Rattle.m2_weave.specs.declared.strand.StrandItem.TheVariants.{Noted}
use Rattle.m2_weave.specs.Rule.{Woven, nothing_at_all}
use Rattle.m2_weave.specs.Strands.{Bytes, EndOf, StrandNow, handed_at, handed_by, has_opened, journal_of, judged_at, judged_by, total}
use Rattle.m2_history.specs.Actors.{Actor, of_record, of_half, strand_by}
use Rattle.m2_history.proofs.WovenHalves.{AreOwn, IsOwnItem, elsewhere, judges_none, strand_own}
use Rattle.m2_history.proofs.Sums.{all_zero, none_adds, one_adds, part_at, strand_in, two_add, nothing_taken}
use Rattle.m2_bytes.proofs.m2_lemmas.Booleans.{from_false_true}
use Rattle.m2_fabric.proofs.Sockets.{same_equal}
use Rattle.m2_bytes.proofs.m2_lemmas.Lists.{all_so_of}

pub record Setting : Type 0 where
  pub facts : (near : Bool) → SideFacts
  pub sources : (near : Bool) → Sources
  pub journals : (near : Bool) → List Entry
  pub actors : List Actor
  pub bytes : Bytes

abbrev pub strands_in : Setting → List StrandNow
strands_in x = map (strand_by x.journals) x.actors

abbrev pub woven_in : Setting → Woven
woven_in x = record { strands = strands_in x; bytes = x.bytes }

abbrev pub items_in : Setting → (near : Bool) → List JournalItem
items_in x s = items_of (x.sources s) (x.journals s)

abbrev pub opens_in : Setting → (near : Bool) → SocketId → Bool
opens_in x s k = has_opened (journal_of (x.journals s)) k

abbrev pub end_at : SocketId → (opener : Bool) → EndOf
end_at k opener = record { socket = k; opener = opener }

-- ---- what is known of it

-- a half: its trail beside its log, that its side hasn't opened the socket, and has judged what it was told
pub record IsHalfIn (x : Setting) (s : Bool) (t : TrailNow) (log : Log) : Type 0 where
  pub trail : IsTrailOf t log
  pub own : AreOwn t.socket t.entries
  pub entity : t.entity < 2 ^ 8
  pub seen : HasAddrRanges (opener_of t.socket)
  pub unopened : opens_in x s t.socket ≡ false
  pub judged : t.judged ≡ judged_on t.socket (judgements_in (x.journals s))
  pub got : x.bytes.got (end_at t.socket false) ≡ log.got
  pub put : x.bytes.put (end_at t.socket false) ≡ log.put

-- a half that a side took: the side's journal goes on where it has left off
pub record IsTakenIn (x : Setting) (s : Bool) (k : SocketId) : Type 0 where
  pub place : ℕ
  pub trail : TrailNow
  pub log : Log
  pub there : slice_get x.actors place ≡ Some (of_half s trail log)
  pub socket : trail.socket ≡ k
  pub taken : IsTakenTrail trail log
  pub unread : (x.sources s).unread k ≡ unread_of trail log
  pub got : (x.sources s).got k ≡ drop (tr.read_by (runs_of trail)) log.got
  pub put : (x.sources s).put k ≡ drop (tr.written_by (runs_of trail)) log.put

-- a socket that a side opened
pub record IsOpenedIn (x : Setting) (s : Bool) (k : SocketId) : Type 0 where
  pub got : (x.sources s).got k ≡ x.bytes.got (end_at k true)
  pub put : (x.sources s).put k ≡ x.bytes.put (end_at k true)

abbrev pub IsHalfAt : Setting → ℕ → (s : Bool) → TrailNow → Log → Type 0
IsHalfAt x j s t log = slice_get x.actors j ≡ Some (of_half s t log)

pub record IsScene (x : Setting) : Type 0 where
  pub lawful : (s : Bool) → AreLawful (x.facts s) (items_in x s) (start (x.facts s))
  pub place : (s : Bool) → ℕ
  pub there : (s : Bool) → slice_get x.actors (place s) ≡ Some (of_record s)
  pub once : (s : Bool) (j : ℕ) → slice_get x.actors j ≡ Some (of_record s) → j ≡ place s
  -- there is one half on each socket
  pub halves_once : (i j : ℕ) (s r : Bool) (t u : TrailNow) (log other : Log) → IsHalfAt x i s t log → IsHalfAt x j r u other → t.socket ≡ u.socket → i ≡ j
  pub half : (j : ℕ) (s : Bool) (t : TrailNow) (log : Log) → IsHalfAt x j s t log → IsHalfIn x s t log
  pub taken : (s : Bool) (k : SocketId) → is_among k (taken_in (x.journals s)) ≡ true → IsTakenIn x s k
  pub opened : (s : Bool) (k : SocketId) → opens_in x s k ≡ true → IsOpenedIn x s k
  -- no socket is opened by both
  pub apart : (s : Bool) (k : SocketId) → opens_in x s k ≡ true → opens_in x (not s) k ≡ false

-- ---- what the actors' strands are

strand_some : (journals : Bool → List Entry) (actors : List Actor) (j : ℕ) (a : Actor) → slice_get actors j ≡ Some a → strand_in (map (strand_by journals) actors) j ≡ strand_by journals a
strand_some journals [] j a e = absurd (cc)
strand_some journals (b ∷ actors) zero a e = ap (strand_by journals) (let same : b ≡ a = cc in same)
strand_some journals (b ∷ actors) (suc j) a e = strand_some journals actors j a e

strand_none : (journals : Bool → List Entry) (actors : List Actor) (j : ℕ) → slice_get actors j ≡ None → strand_in (map (strand_by journals) actors) j ≡ nothing_at_all
strand_none journals [] j e = refl
strand_none journals (b ∷ actors) zero e = absurd (cc)
strand_none journals (b ∷ actors) (suc j) e = strand_none journals actors j e

pub actor_within : (actors : List Actor) (j : ℕ) (a : Actor) → slice_get actors j ≡ Some a → j < length actors
actor_within [] j a e = absurd (cc)
actor_within (b ∷ actors) zero a e = omega arith
actor_within (b ∷ actors) (suc j) a e = let r : j < length actors = actor_within actors j a e in omega arith

pub taken_map : {X Y : Type 0} (f : X → Y) (n : ℕ) (xs : List X) → take n (map f xs) ≡ map f (take n xs)
taken_map f zero xs = refl
taken_map f (suc n) [] = refl
taken_map f (suc n) (x ∷ xs) = ap (λ l. f x ∷ l) (taken_map f n xs)

no_record_is_half : (s r : Bool) (t : TrailNow) (log : Log) → of_record s ≡ of_half r t log → ⊥
no_record_is_half s r t log e = cc

some_same : {X : Type 0} (a b : X) (o : Option X) → o ≡ Some a → o ≡ Some b → a ≡ b
some_same a b o e g = let both : Some a ≡ Some b = sym e ∙ g in cc

module _ (x : Setting) (sc : IsScene x) where
  pub strand_is : (j : ℕ) (a : Actor) → slice_get x.actors j ≡ Some a → strand_in (strands_in x) j ≡ strand_by x.journals a
  strand_is j a e = strand_some x.journals x.actors j a e

  -- what a strand has had done by a cut
  pub part_is : (f : StrandNow → StrandItem → ℕ) (at : Cut) (j : ℕ) (a : Actor) → slice_get x.actors j ≡ Some a →
      part_at f (strands_in x) at j ≡ total (f (strand_by x.journals a)) (take (slice_index at j) (strand_by x.journals a).items)
  part_is f at j a e = ap (λ s. total (f s) (take (slice_index at j) s.items)) (strand_is j a e)

  -- how many entries of a journal have come
  abbrev pub come : Cut → Bool → List Entry
  come at s = take (slice_index at (sc.place s)) (x.journals s)

  pub record_part : (f : StrandNow → StrandItem → ℕ) (at : Cut) (s : Bool) → part_at f (strands_in x) at (sc.place s) ≡ total (f (journal_of (x.journals s))) (map Noted (come at s))
  record_part f at s =
      part_is f at (sc.place s) (of_record s) (sc.there s) ∙ ap (total (f (journal_of (x.journals s)))) (taken_map Noted (slice_index at (sc.place s)) (x.journals s))

  -- a strand of which neither a record nor a half adds anything adds nothing
  pub adds_none : (f : StrandNow → StrandItem → ℕ) (at : Cut) (j : ℕ) →
      ((s : Bool) → slice_get x.actors j ≡ Some (of_record s) → total (f (journal_of (x.journals s))) (take (slice_index at j) (journal_of (x.journals s)).items) ≡ 0) →
      ((s : Bool) (t : TrailNow) (log : Log) → IsHalfAt x j s t log → total (f (strand_of t)) (take (slice_index at j) (strand_of t).items) ≡ 0) →
      part_at f (strands_in x) at j ≡ 0
  adds_none f at j records halves = by_actor (slice_get x.actors j) refl
    where
      by_actor : (o : Option Actor) → slice_get x.actors j ≡ o → part_at f (strands_in x) at j ≡ 0
      by_actor None e = ap (λ s. total (f s) (take (slice_index at j) s.items)) (strand_none x.journals x.actors j e) ∙ nothing_taken (f nothing_at_all) (slice_index at j)
      by_actor (Some (of_record s)) e = part_is f at j (of_record s) e ∙ records s e
      by_actor (Some (of_half s t log)) e = part_is f at j (of_half s t log) e ∙ halves s t log e

  -- another half is on another socket
  pub other_half : (i j : ℕ) (s r : Bool) (t u : TrailNow) (log other : Log) → IsHalfAt x i s t log → IsHalfAt x j r u other → (i ≡ j → ⊥) → same_socket u.socket t.socket ≡ false
  other_half i j s r t u log other e g d = at (same_socket u.socket t.socket) refl
    where
      at : (b : Bool) → same_socket u.socket t.socket ≡ b → b ≡ false
      at true q = absurd (d (sc.halves_once i j s r t u log other e g (sym (same_equal u.socket t.socket q))))
      at false q = refl

  -- ---- asks that were handed on

  no_handed : (k : SocketId) (n : ℕ) (es : List Entry) → total (handed_by k) (take n (map Noted es)) ≡ 0
  no_handed k zero es = refl
  no_handed k (suc n) [] = refl
  no_handed k (suc n) (e ∷ es) = omega (arith, no_handed k n es)

  elsewhere_handed : (k : SocketId) (n : ℕ) (t : TrailNow) → AreOwn t.socket t.entries → same_socket k t.socket ≡ false → total (handed_by k) (take n (strand_of t).items) ≡ 0
  elsewhere_handed k n t own e =
      all_zero (handed_by k) n (strand_of t).items (all_so_of (IsOwnItem t.socket) (λ i. handed_by k i ≡ 0) (strand_of t).items (λ i o. (elsewhere k t.socket e i o).handed) (strand_own t own))

  pub handed_is : (at : Cut) (j : ℕ) (s : Bool) (t : TrailNow) (log : Log) → IsHalfAt x j s t log →
      handed_at (strands_in x) at t.socket ≡ total (handed_by t.socket) (take (slice_index at j) (strand_of t).items)
  handed_is at j s t log e =
      one_adds (λ r i. handed_by t.socket i) (strands_in x) at j
      (λ i d. adds_none (λ r i. handed_by t.socket i) at i (λ r q. no_handed t.socket (slice_index at i) (x.journals r))
      (λ r u other q. elsewhere_handed t.socket (slice_index at i) u (sc.half i r u other q).own (other_half i j r s u t other log q e d)))
      ∙ part_is (λ r i. handed_by t.socket i) at j (of_half s t log) e

  -- there is no half on the socket
  abbrev pub IsBare : SocketId → Type 0
  IsBare k = (j : ℕ) (s : Bool) (t : TrailNow) (log : Log) → IsHalfAt x j s t log → same_socket k t.socket ≡ false

  pub none_handed : (at : Cut) (k : SocketId) → IsBare k → handed_at (strands_in x) at k ≡ 0
  none_handed at k bare =
      none_adds (λ r i. handed_by k i) (strands_in x) at
      (λ i. adds_none (λ r i. handed_by k i) at i (λ r q. no_handed k (slice_index at i) (x.journals r))
      (λ r u other q. elsewhere_handed k (slice_index at i) u (sc.half i r u other q).own (bare i r u other q)))

  -- ---- asks that were judged

  half_judges_none : (k : SocketId) (n : ℕ) (t : TrailNow) → AreOwn t.socket t.entries → total (judged_by k) (take n (strand_of t).items) ≡ 0
  half_judges_none k n t own =
      all_zero (judged_by k) n (strand_of t).items (all_so_of (IsOwnItem t.socket) (λ i. judged_by k i ≡ 0) (strand_of t).items (λ i o. judges_none k t.socket i o) (strand_own t own))

  places_apart : (s : Bool) → sc.place s ≡ sc.place (not s) → ⊥
  places_apart s e = at s (some_same (of_record s) (of_record (not s)) (slice_get x.actors (sc.place s)) (sc.there s) (ap (slice_get x.actors) e ∙ sc.there (not s)))
    where
      at : (s : Bool) → of_record s ≡ of_record (not s) → ⊥
      at true h = let same : true ≡ false = cc in from_false_true (sym same)
      at false h = let same : false ≡ true = cc in from_false_true same

  by_record_of : (s r : Bool) → (r ≡ s) ⊎ (r ≡ not s)
  by_record_of true true = inl refl
  by_record_of true false = inr refl
  by_record_of false true = inr refl
  by_record_of false false = inl refl

  -- a record at neither place is none
  pub no_third : (i : ℕ) (s r : Bool) → slice_get x.actors i ≡ Some (of_record r) → (i ≡ sc.place s → ⊥) → (i ≡ sc.place (not s) → ⊥) → ⊥
  no_third i s r e d c = at (by_record_of s r)
    where
      at : (r ≡ s) ⊎ (r ≡ not s) → ⊥
      at (inl q) = d (sc.once r i e ∙ ap sc.place q)
      at (inr q) = c (sc.once r i e ∙ ap sc.place q)

  pub judged_is : (at : Cut) (s : Bool) (k : SocketId) →
      judged_at (strands_in x) at k ≡ total (judged_by k) (map Noted (come at s)) + total (judged_by k) (map Noted (come at (not s)))
  judged_is at s k =
      let f : StrandNow → StrandItem → ℕ = λ r i. judged_by k i in
      let two = two_add f (strands_in x) at (sc.place s) (sc.place (not s)) (places_apart s)
      (λ i d c. adds_none f at i (λ r q. absurd (no_third i s r q d c))
      (λ r u other q. half_judges_none k (slice_index at i) u (sc.half i r u other q).own)) in
      omega (arith, two, record_part f at s, record_part f at (not s))
