-- Where an order has come: what each side's end of a socket has got and put are the first bytes of the end's log, what it got was
-- written by then, and no more was written than it has put.
use Rattle.std.proofs.Common.{◌≡◌, ℕ, zero, suc, ◌+◌, ◌<◌, ◌≤◌, ◌⊎◌, inl, inr, Bool, true, false, not, ◌||◌, if◌then◌else◌, List, [], ◌∷◌, ◌++◌, length, map, take, Option, Some, None, refl, sym, ap, ◌∙◌, subst, arith, append-nil, take-add}
use Rattle.std.specs.Prelude.{slice_get, slice_index}
use Rattle.std.specs.List.{AllByRecursion}
use Rattle.std.proofs.lemmas.Bool.{cases_lt}
use Rattle.m2_fabric.specs.declared.socket.SocketId.{SocketId}
use Rattle.m2_fabric.specs.Log.{Log}
use Rattle.m2_fabric.specs.Sockets.{is_among, same_socket}
use Rattle.m2_bytes_fit.specs.Ends.{Side, got_at, put_at, read_on, wrote_on}
use Rattle.m2_bytes_fit.specs.Trails.{TrailsTellEachPoint}
use Rattle.m2_history.specs.HalfStrands.{OrdersGivePoints, strand_of}
use Rattle.m2_journal.specs.declared.entry.Entry.{Entry}
use Rattle.m2_journal.specs.Items.{at_start, items_of}
use Rattle.m2_journal.specs.Laws.{taken_among}
use Rattle.m2_journal.specs.Lawful.{judged_on, may_ask_again}
use Rattle.m2_journal.specs.Replay.{after_items}
use Rattle.m2_journal.specs.State.{start}
use Rattle.m2_journal.proofs.Sockets.{not_taken}
use Rattle.m2_weave.specs.Order.{Cut}
use Rattle.m2_record.specs.TakenTrails.{judgements_in, taken_in}
use Rattle.m2_trail.specs.Trails as trail
use Rattle.m2_trail.specs.Trails.{HalfBytes, TrailNow, runs_of}
use Rattle.m2_weave.specs.declared.strand.StrandItem.{StrandItem}
use Rattle.m2_weave.specs.declared.strand.StrandItem.TheVariants.{Noted}
use Rattle.m2_weave.specs.WeaveLaws.{IsRead}
use Rattle.m2_weave.specs.Rule.{byte_at}
use Rattle.m2_weave.specs.Strands.{EndOf, StrandNow, has_opened, journal_of, opens, read_by, read_by_halves, same_side, total, written_at, written_by, written_in}
use Rattle.m2_history.specs.Actors.{Actor, of_record, of_half, strand_by}
use Rattle.m2_history.proofs.Cuts.{IsCut, lawful_first, read_whole, taken_still, written_whole}
use Rattle.m2_history.proofs.WovenHalves.{AreOwn, IsOwnItem, elsewhere, half_opens_none, half_reads, strand_own}
use Rattle.m2_history.proofs.Journals.{IsQuietOn, Unknown, judged_are, opened_are, opened_unjudged, reads_are, taken_are, unknown_quiet, writes_are}
use Rattle.m2_history.proofs.Names.{items_add}
use Rattle.m2_history.proofs.Scene.{IsHalfAt, IsHalfIn, IsScene, IsTakenIn, Setting, adds_none, come, end_at, opens_in, other_half, part_is, record_part, strand_is, strands_in, taken_map, woven_in}
use Rattle.m2_history.proofs.Sums.{all_zero, half_read, none_adds, one_adds, one_reads, part_at, strand_in, two_add, whole_zero}
use Rattle.m2_bytes.proofs.m2_lemmas.Booleans.{from_false_true}
use Rattle.m2_fabric.proofs.Sockets.{same_equal}
use Rattle.m2_bytes.proofs.m2_lemmas.Lists.{all_so_of}

-- ---- halves of a side

-- none on this socket
abbrev pub IsBareOf : Setting → Bool → SocketId → Type 0
IsBareOf x s k = (j : ℕ) (t : TrailNow) (log : Log) → IsHalfAt x j s t log → same_socket k t.socket ≡ false

pub record Found (actors : List Actor) (s : Bool) (k : SocketId) : Type 0 where
  pub place : ℕ
  pub trail : TrailNow
  pub log : Log
  pub there : slice_get actors place ≡ Some (of_half s trail log)
  pub socket : same_socket k trail.socket ≡ true

IsBareIn : List Actor → Bool → SocketId → Type 0
IsBareIn actors s k = (j : ℕ) (t : TrailNow) (log : Log) → slice_get actors j ≡ Some (of_half s t log) → same_socket k t.socket ≡ false

find_in : (actors : List Actor) (s : Bool) (k : SocketId) → Found actors s k ⊎ IsBareIn actors s k
unfolding IsBareIn
find_in [] s k = inr (λ j t log e. absurd (cc))
find_in (a ∷ actors) s k = first a (find_in actors s k)
  where
    later : (a : Actor) → Found actors s k → Found (a ∷ actors) s k
    later a f = record { place = suc f.place; trail = f.trail; log = f.log; there = f.there; socket = f.socket }

    more : (a : Actor) → ((t : TrailNow) (log : Log) → a ≡ of_half s t log → same_socket k t.socket ≡ false) →
        Found actors s k ⊎ ((j : ℕ) (t : TrailNow) (log : Log) → slice_get actors j ≡ Some (of_half s t log) → same_socket k t.socket ≡ false) →
        Found (a ∷ actors) s k ⊎ ((j : ℕ) (t : TrailNow) (log : Log) → slice_get (a ∷ actors) j ≡ Some (of_half s t log) → same_socket k t.socket ≡ false)
    more a h (inl f) = inl (later a f)
    more a h (inr none) = inr each
      where
        each : (j : ℕ) (t : TrailNow) (log : Log) → slice_get (a ∷ actors) j ≡ Some (of_half s t log) → same_socket k t.socket ≡ false
        each zero t log e = h t log (let same : a ≡ of_half s t log = cc in same)
        each (suc j) t log e = none j t log e

    of_side : (r : Bool) (t : TrailNow) (log : Log) (b : Bool) → same_socket k t.socket ≡ b → (s ≡ r) ⊎ (s ≡ r → ⊥) →
        Found actors s k ⊎ ((j : ℕ) (u : TrailNow) (other : Log) → slice_get actors j ≡ Some (of_half s u other) → same_socket k u.socket ≡ false) →
        Found (of_half r t log ∷ actors) s k ⊎ ((j : ℕ) (u : TrailNow) (other : Log) → slice_get (of_half r t log ∷ actors) j ≡ Some (of_half s u other) → same_socket k u.socket ≡ false)
    of_side r t log true e (inl same) rest = inl (record { place = 0; trail = t; log = log; there = ap (λ q. Some (of_half q t log)) (sym same); socket = e })
    of_side r t log false e (inl same) rest = more (of_half r t log) (λ u other q. ap (same_socket k) (let one : u.socket ≡ t.socket = cc in one) ∙ e) rest
    of_side r t log b e (inr other) rest = more (of_half r t log) (λ u log' q. absurd (other (let one : s ≡ r = cc in one))) rest

    same_or_not : (s r : Bool) → (s ≡ r) ⊎ (s ≡ r → ⊥)
    same_or_not true true = inl refl
    same_or_not false false = inl refl
    same_or_not true false = inr (λ e. from_false_true (sym e))
    same_or_not false true = inr (λ e. from_false_true e)

    first : (a : Actor) → Found actors s k ⊎ ((j : ℕ) (t : TrailNow) (log : Log) → slice_get actors j ≡ Some (of_half s t log) → same_socket k t.socket ≡ false) →
        Found (a ∷ actors) s k ⊎ ((j : ℕ) (t : TrailNow) (log : Log) → slice_get (a ∷ actors) j ≡ Some (of_half s t log) → same_socket k t.socket ≡ false)
    first (of_record r) rest = more (of_record r) (λ t log e. absurd (let no : of_record r ≡ of_half s t log = e in let bad : ⊥ = cc in bad)) rest
    first (of_half r t log) rest = of_side r t log (same_socket k t.socket) refl (same_or_not s r) rest

pub find : (x : Setting) (s : Bool) (k : SocketId) → Found x.actors s k ⊎ IsBareOf x s k
unfolding IsBareIn
find x s k = find_in x.actors s k

-- what the halves of a side have moved
pub record HalvesAre (x : Setting) (at : Cut) (s : Bool) (h : SocketId → HalfBytes) : Type 0 where
  pub got : (j : ℕ) (t : TrailNow) (log : Log) → IsHalfAt x j s t log → (h t.socket).got ≡ take (total (read_by t.socket) (take (slice_index at j) (strand_of t).items)) log.got
  pub put : (j : ℕ) (t : TrailNow) (log : Log) → IsHalfAt x j s t log → (h t.socket).put ≡ take (total (written_by t.socket) (take (slice_index at j) (strand_of t).items)) log.put
  pub none : (k : SocketId) → IsBareOf x s k → ((h k).got ≡ []) × ((h k).put ≡ [])

-- ---- entries of a journal that has opened or taken no such socket

opened_front : (k : SocketId) (n : ℕ) (es : List Entry) → has_opened (journal_of es) k ≡ false → has_opened (journal_of (take n es)) k ≡ false
opened_front k zero es h = refl
opened_front k (suc n) [] h = refl
opened_front k (suc n) (e ∷ es) h = at (opens k (Noted e)) h (opened_front k n es)
  where
    at : (b : Bool) → b || has_opened (journal_of es) k ≡ false → (has_opened (journal_of es) k ≡ false → has_opened (journal_of (take n es)) k ≡ false) → b || has_opened (journal_of (take n es)) k ≡ false
    at true q on = q
    at false q on = on q

pub opened_still : (k : SocketId) (n : ℕ) (es : List Entry) → has_opened (journal_of (take n es)) k ≡ true → has_opened (journal_of es) k ≡ true
opened_still k n es h = at (has_opened (journal_of es) k) refl
  where
    at : (b : Bool) → has_opened (journal_of es) k ≡ b → has_opened (journal_of es) k ≡ true
    at true e = e
    at false e = from_false_true (sym (opened_front k n es e) ∙ h)

pub unjudged_untaken : (k : SocketId) (es : List Entry) → judged_on k (judgements_in es) ≡ [] → is_among k (taken_in es) ≡ false
unjudged_untaken k es e =
    ap (is_among k) (taken_are es) ∙ not_taken k (judgements_in es) (subst (AllByRecursion (λ i. may_ask_again i.answer ≡ true)) (sym e) tt)

pub quiet_reads : (k : SocketId) (es : List Entry) → AllByRecursion (IsQuietOn k) es → total (read_by k) (map Noted es) ≡ 0
quiet_reads k [] h = refl
quiet_reads k (e ∷ es) h = omega (arith, h.0.0, quiet_reads k es h.1)

pub quiet_writes : (k : SocketId) (es : List Entry) → AllByRecursion (IsQuietOn k) es → total (written_by k) (map Noted es) ≡ 0
quiet_writes k [] h = refl
quiet_writes k (e ∷ es) h = omega (arith, h.0.1, quiet_writes k es h.1)

total_as : (f g : StrandItem → ℕ) (is : List StrandItem) → ((i : StrandItem) → f i ≡ g i) → total f is ≡ total g is
total_as f g [] h = refl
total_as f g (i ∷ is) h = omega (arith, h i, total_as f g is h)

pub total_never : (f : StrandItem → ℕ) (is : List StrandItem) → ((i : StrandItem) → f i ≡ 0) → total f is ≡ 0
total_never f [] h = refl
total_never f (i ∷ is) h = omega (arith, h i, total_never f is h)

-- ---- what an end has got and put

-- the first bytes of its log, of which each was written at the other end by then
pub record GotSo (x : Setting) (at : Cut) (k : SocketId) (opener : Bool) (got : List ℕ) : Type 0 where
  pub count : ℕ
  pub bytes : got ≡ take count (x.bytes.got (end_at k opener))
  pub read : (p : ℕ) → p < count → p < length (x.bytes.got (end_at k opener)) → byte_at (woven_in x) at (end_at k (not opener)) p ≡ slice_get (x.bytes.got (end_at k opener)) p

-- the first bytes of its log, and no more was written there
pub record PutSo (x : Setting) (at : Cut) (k : SocketId) (opener : Bool) (put : List ℕ) : Type 0 where
  pub count : ℕ
  pub bytes : put ≡ take count (x.bytes.put (end_at k opener))
  pub written : written_at (strands_in x) at (end_at k opener) ≤ count

-- the side that has come so far
abbrev pub side_at : (x : Setting) (sc : IsScene x) → Cut → Bool → (SocketId → HalfBytes) → Side
side_at x sc at s h = record { facts = x.facts s; entries = items_of (x.sources s) (come x sc at s); halves = h }

none_of : (n : ℕ) (xs : List ℕ) → n ≡ 0 → take n xs ≡ []
none_of n xs e = ap (λ m. take m xs) e

sided_total : (c : Bool) (e : EndOf) (r : StrandNow) (is : List StrandItem) → same_side (has_opened r e.socket) e.opener ≡ c → total (written_in e r) is ≡ (if c then total (written_by e.socket) is else 0)
sided_total true e r is q = total_as (written_in e r) (written_by e.socket) is (λ i. ap (λ b. if b then written_by e.socket i else 0) q)
sided_total false e r is q = total_never (written_in e r) is (λ i. ap (λ b. if b then written_by e.socket i else 0) q)

-- ---- a cut

module _ (x : Setting) (sc : IsScene x) (points : OrdersGivePoints) (tell : TrailsTellEachPoint) (at : Cut) (cut : IsCut x at) where
  abbrev reads_by : Bool → SocketId → ℕ
  reads_by s k = total (read_by k) (map Noted (come x sc at s))

  abbrev writes_by : Bool → SocketId → ℕ
  writes_by s k = total (written_by k) (map Noted (come x sc at s))

  abbrev half_reads_by : ℕ → TrailNow → ℕ
  half_reads_by j t = total (read_by t.socket) (take (slice_index at j) (strand_of t).items)

  abbrev half_writes_by : ℕ → TrailNow → ℕ
  half_writes_by j t = total (written_by t.socket) (take (slice_index at j) (strand_of t).items)

  pub quiet_first : (s : Bool) (k : SocketId) → has_opened (journal_of (come x sc at s)) k ≡ false → is_among k (taken_in (come x sc at s)) ≡ false → (reads_by s k ≡ 0) × (writes_by s k ≡ 0)
  quiet_first s k unopened untaken = (quiet_reads k (come x sc at s) quiet, quiet_writes k (come x sc at s) quiet)
    where
      unknown : Unknown k (after_items (x.facts s) (items_of (x.sources s) (come x sc at s)) (start (x.facts s)))
      unknown =
          let adds = items_add (x.facts s) (items_of (x.sources s) (come x sc at s)) (start (x.facts s)) in
          record {
            opened = ap (is_among k) adds.opened ∙ opened_are (x.sources s) at_start (come x sc at s) k ∙ unopened;
            taken =
                ap (λ js. is_among k (taken_among js)) (adds.judgements ∙ judged_are (x.sources s) at_start (come x sc at s))
                ∙ ap (is_among k) (sym (taken_are (come x sc at s))) ∙ untaken;
          }

      quiet : AllByRecursion (IsQuietOn k) (come x sc at s)
      quiet = unknown_quiet (x.facts s) (x.sources s) (come x sc at s) at_start [] k (lawful_first x sc points tell at cut s) unknown

  -- a side that opens a socket at some time has no half there, and takes it at no time
  pub opened_bare : (s : Bool) (k : SocketId) → opens_in x s k ≡ true → IsBareOf x s k
  opened_bare s k o j t log there = by (same_socket k t.socket) refl
    where
      by : (b : Bool) → same_socket k t.socket ≡ b → b ≡ false
      by true e = from_false_true (sym (sc.half j s t log there).unopened ∙ ap (opens_in x s) (sym (same_equal k t.socket e)) ∙ o)
      by false e = refl

  pub opened_untaken : (s : Bool) (k : SocketId) → opens_in x s k ≡ true → is_among k (taken_in (x.journals s)) ≡ false
  opened_untaken s k o = unjudged_untaken k (x.journals s) (opened_unjudged (x.facts s) (x.sources s) (x.journals s) at_start k (sc.lawful s) o)

  pub taken_by_now : (s : Bool) (k : SocketId) → is_among k (taken_in (x.journals s)) ≡ false → is_among k (taken_in (come x sc at s)) ≡ false
  taken_by_now s k h = by (is_among k (taken_in (come x sc at s))) refl
    where
      by : (b : Bool) → is_among k (taken_in (come x sc at s)) ≡ b → is_among k (taken_in (come x sc at s)) ≡ false
      by true e = from_false_true (sym h ∙ taken_still k (slice_index at (sc.place s)) (x.journals s) e)
      by false e = e

  -- ---- what was read was written

  half_read_here : (j : ℕ) (s : Bool) (t : TrailNow) (log : Log) → IsHalfAt x j s t log → (p : ℕ) → p < half_reads_by j t → p < length log.got →
      byte_at (woven_in x) at (end_at t.socket true) p ≡ slice_get log.got p
  half_read_here j s t log there p low within =
      let known = sc.half j s t log there in
      let raw = subst (λ r. IsRead (woven_in x) at r (slice_index at j)) (strand_is x sc j (of_half s t log) there) (cut.read j) in
      let at_end = raw t.socket p (omega arith) (omega (arith, low)) in
      let so = subst (λ b. p < length (x.bytes.got (end_at t.socket b)) → byte_at (woven_in x) at (end_at t.socket (not b)) p ≡ slice_get (x.bytes.got (end_at t.socket b)) p)
      (half_opens_none t t.socket known.own) at_end in
      subst (λ l. p < length l → byte_at (woven_in x) at (end_at t.socket true) p ≡ slice_get l p) known.got so within

  abbrev begun : Bool → SocketId → ℕ
  begun b k = if b then 0 else read_by_halves (strands_in x) k

  record_read : (s : Bool) (k : SocketId) (b : Bool) → opens_in x s k ≡ b → (p : ℕ) → begun b k ≤ p → p < begun b k + reads_by s k → p < length (x.bytes.got (end_at k b)) →
      byte_at (woven_in x) at (end_at k (not b)) p ≡ slice_get (x.bytes.got (end_at k b)) p
  record_read s k b e p low high within =
      let raw = subst (λ r. IsRead (woven_in x) at r (slice_index at (sc.place s))) (strand_is x sc (sc.place s) (of_record s) (sc.there s)) (cut.read (sc.place s)) in
      subst (λ b. begun b k ≤ p → p < begun b k + reads_by s k → p < length (x.bytes.got (end_at k b)) → byte_at (woven_in x) at (end_at k (not b)) p ≡ slice_get (x.bytes.got (end_at k b)) p) e
      (λ l h w. raw k p l (subst (λ is. p < begun (opens_in x s k) k + total (read_by k) is) (sym (taken_map Noted (slice_index at (sc.place s)) (x.journals s))) h) w)
      low high within

  -- all that halves read on the socket of this one
  halves_read : (j : ℕ) (s : Bool) (t : TrailNow) (log : Log) → IsHalfAt x j s t log → read_by_halves (strands_in x) t.socket ≡ trail.read_by (runs_of t)
  halves_read j s t log there =
      one_reads (strands_in x) t.socket j (λ i d. other i d (slice_get x.actors i) refl)
      ∙ ap (half_read t.socket) (strand_is x sc j (of_half s t log) there) ∙ half_reads t
    where
      missing : (actors : List Actor) (i : ℕ) → slice_get actors i ≡ None → half_read t.socket (strand_in (map (strand_by x.journals) actors) i) ≡ 0
      missing [] i e = refl
      missing (a ∷ actors) zero e = absurd (cc)
      missing (a ∷ actors) (suc i) e = missing actors i e

      other : (i : ℕ) → (i ≡ j → ⊥) → (o : Option Actor) → slice_get x.actors i ≡ o → half_read t.socket (strand_in (strands_in x) i) ≡ 0
      other i d None e = missing x.actors i e
      other i d (Some (of_record r)) e = ap (half_read t.socket) (strand_is x sc i (of_record r) e)
      other i d (Some (of_half r u log')) e =
          ap (half_read t.socket) (strand_is x sc i (of_half r u log') e)
          ∙ whole_zero (read_by t.socket) (strand_of u).items
          (all_so_of (IsOwnItem u.socket) (λ m. read_by t.socket m ≡ 0) (strand_of u).items (λ m o. (elsewhere t.socket u.socket (other_half x sc i j r s u t log' log e there d) m o).read) (strand_own u (sc.half i r u log' e).own))

  -- ---- what a side has got

  untaken_got : (s : Bool) (h : SocketId → HalfBytes) → HalvesAre x at s h → (k : SocketId) → reads_by s k ≡ 0 → GotSo x at k false (got_at (side_at x sc at s h) k)
  untaken_got s h hs k quiet = by_half (find x s k)
    where
      nothing_read : got_at (side_at x sc at s h) k ≡ (h k).got
      nothing_read =
          ap (λ l. (h k).got ++ l) (reads_are k (x.sources s) at_start (come x sc at s) ∙ none_of (reads_by s k) ((x.sources s).got k) quiet) ∙ append-nil (h k).got

      by_half : Found x.actors s k ⊎ IsBareOf x s k → GotSo x at k false (got_at (side_at x sc at s h) k)
      by_half (inr bare) = record { count = 0; bytes = nothing_read ∙ (hs.none k bare).0; read = λ p low within. absurd (omega (arith, low)) }
      by_half (inl f) =
          let known = sc.half f.place s f.trail f.log f.there in
          let here : GotSo x at f.trail.socket false (h f.trail.socket).got =
          record {
            count = half_reads_by f.place f.trail;
            bytes = hs.got f.place f.trail f.log f.there ∙ ap (take (half_reads_by f.place f.trail)) (sym known.got);
            read = λ p low within. subst (λ l. p < length l → byte_at (woven_in x) at (end_at f.trail.socket true) p ≡ slice_get l p) (sym known.got)
                (half_read_here f.place s f.trail f.log f.there p low) within;
          } in
          subst (GotSo x at k false) (sym nothing_read) (subst (λ j. GotSo x at j false (h j).got) (sym (same_equal k f.trail.socket f.socket)) here)

  taken_got : (s : Bool) (h : SocketId → HalfBytes) → HalvesAre x at s h → (k : SocketId) → opens_in x s k ≡ false → is_among k (taken_in (come x sc at s)) ≡ true → GotSo x at k false (got_at (side_at x sc at s h) k)
  taken_got s h hs k closed by_now = subst (λ j. GotSo x at j false (got_at (side_at x sc at s h) j)) tk.socket here
    where
      tk : IsTakenIn x s k
      tk = sc.taken s k (taken_still k (slice_index at (sc.place s)) (x.journals s) by_now)

      t : TrailNow
      t = tk.trail

      own : IsTakenIn x s t.socket
      own = record {
        place = tk.place;
        trail = tk.trail;
        log = tk.log;
        there = tk.there;
        socket = refl;
        taken = tk.taken;
        unread = ap (x.sources s).unread tk.socket ∙ tk.unread;
        got = ap (x.sources s).got tk.socket ∙ tk.got;
        put = ap (x.sources s).put tk.socket ∙ tk.put;
      }

      known : IsHalfIn x s t tk.log
      known = sc.half tk.place s t tk.log tk.there

      before : ℕ
      before = trail.read_by (runs_of t)

      whole : half_reads_by tk.place t ≡ before
      whole = read_whole x sc points tell at cut tk.place s t tk.log tk.there own refl (ap (λ j. is_among j (taken_in (come x sc at s))) tk.socket ∙ by_now)

      R : ℕ
      R = reads_by s t.socket

      read_so : (p : ℕ) → p < before + R → p < length (x.bytes.got (end_at t.socket false)) → byte_at (woven_in x) at (end_at t.socket true) p ≡ slice_get (x.bytes.got (end_at t.socket false)) p
      read_so p low within = by_place (cases_lt p before)
        where
          by_place : (p < before) ⊎ (before ≤ p) → byte_at (woven_in x) at (end_at t.socket true) p ≡ slice_get (x.bytes.got (end_at t.socket false)) p
          by_place (inl l) =
              subst (λ xs. p < length xs → byte_at (woven_in x) at (end_at t.socket true) p ≡ slice_get xs p) (sym known.got)
              (half_read_here tk.place s t tk.log tk.there p (omega (arith, l, whole))) within
          by_place (inr l) =
              let all = halves_read tk.place s t tk.log tk.there in
              record_read s t.socket false known.unopened p (omega (arith, all, l)) (omega (arith, all, low)) within

      here : GotSo x at t.socket false (got_at (side_at x sc at s h) t.socket)
      here = record {
        count = before + R;
        bytes =
            ap (λ l. l ++ read_on t.socket (items_of (x.sources s) (come x sc at s))) (hs.got tk.place t tk.log tk.there ∙ ap (λ n. take n tk.log.got) whole)
            ∙ ap (λ l. take before tk.log.got ++ l) (reads_are t.socket (x.sources s) at_start (come x sc at s) ∙ ap (take R) own.got)
            ∙ sym (take-add before R tk.log.got) ∙ ap (take (before + R)) (sym known.got);
        read = read_so;
      }

  pub opened_got : (s : Bool) (h : SocketId → HalfBytes) → HalvesAre x at s h → (k : SocketId) → opens_in x s k ≡ true → got_at (side_at x sc at s h) k ≡ take (reads_by s k) (x.bytes.got (end_at k true))
  opened_got s h hs k e =
      ap (λ l. l ++ read_on k (items_of (x.sources s) (come x sc at s))) (hs.none k (opened_bare s k e)).0 ∙ reads_are k (x.sources s) at_start (come x sc at s)
      ∙ ap (take (reads_by s k)) (sc.opened s k e).got

  pub got_so : (s : Bool) (h : SocketId → HalfBytes) → HalvesAre x at s h → (k : SocketId) (b : Bool) → opens_in x s k ≡ b → GotSo x at k b (got_at (side_at x sc at s h) k)
  got_so s h hs k true e = record {
    count = reads_by s k;
    bytes = opened_got s h hs k e;
    read = λ p low within. record_read s k true e p (omega arith) (omega (arith, low)) within;
  }
  got_so s h hs k false e = by_taken (is_among k (taken_in (come x sc at s))) refl
    where
      by_taken : (b : Bool) → is_among k (taken_in (come x sc at s)) ≡ b → GotSo x at k false (got_at (side_at x sc at s h) k)
      by_taken true q = taken_got s h hs k e q
      by_taken false q = untaken_got s h hs k (quiet_first s k (opened_front k (slice_index at (sc.place s)) (x.journals s) e) q).0

  -- ---- what was written at an end

  not_not : (s : Bool) → not (not s) ≡ s
  not_not true = refl
  not_not false = refl

  pub apart_back : (s : Bool) (k : SocketId) → opens_in x (not s) k ≡ true → opens_in x s k ≡ false
  apart_back s k o = ap (λ r. opens_in x r k) (sym (not_not s)) ∙ sc.apart (not s) k o

  -- a record is that of the one side or of the other
  record_written : (s r : Bool) (at_place : ℕ) → slice_get x.actors at_place ≡ Some (of_record r) → (at_place ≡ sc.place s → ⊥) → (k : SocketId) (o b : Bool) → opens_in x (not s) k ≡ b →
      same_side b o ≡ false → (n : ℕ) → total (written_in (end_at k o) (journal_of (x.journals r))) (take n (journal_of (x.journals r)).items) ≡ 0
  record_written s r i there d k o b e never n = by_side (both s r)
    where
      both : (s r : Bool) → (r ≡ s) ⊎ (r ≡ not s)
      both true true = inl refl
      both true false = inr refl
      both false true = inr refl
      both false false = inl refl

      by_side : (r ≡ s) ⊎ (r ≡ not s) → total (written_in (end_at k o) (journal_of (x.journals r))) (take n (journal_of (x.journals r)).items) ≡ 0
      by_side (inl q) = absurd (d (sc.once r i there ∙ ap sc.place q))
      by_side (inr q) =
          sided_total false (end_at k o) (journal_of (x.journals r)) (take n (journal_of (x.journals r)).items)
          (ap (λ c. same_side c o) (ap (λ r. opens_in x r k) q ∙ e) ∙ never)

  own_written : (s : Bool) (k : SocketId) (o b : Bool) → opens_in x s k ≡ b → same_side b o ≡ true → part_at (written_in (end_at k o)) (strands_in x) at (sc.place s) ≡ writes_by s k
  own_written s k o b e ever =
      record_part x sc (written_in (end_at k o)) at s
      ∙ sided_total true (end_at k o) (journal_of (x.journals s)) (map Noted (come x sc at s)) (ap (λ c. same_side c o) e ∙ ever)

  half_never : (t : TrailNow) → AreOwn t.socket t.entries → (k : SocketId) (n : ℕ) → total (written_in (end_at k true) (strand_of t)) (take n (strand_of t).items) ≡ 0
  half_never t own k n = sided_total false (end_at k true) (strand_of t) (take n (strand_of t).items) (ap (λ c. same_side c true) (half_opens_none t k own))

  half_ever : (t : TrailNow) → AreOwn t.socket t.entries → (k : SocketId) (n : ℕ) → total (written_in (end_at k false) (strand_of t)) (take n (strand_of t).items) ≡ total (written_by k) (take n (strand_of t).items)
  half_ever t own k n = sided_total true (end_at k false) (strand_of t) (take n (strand_of t).items) (ap (λ c. same_side c false) (half_opens_none t k own))

  half_elsewhere : (t : TrailNow) → AreOwn t.socket t.entries → (k : SocketId) (n : ℕ) → same_socket k t.socket ≡ false → total (written_in (end_at k false) (strand_of t)) (take n (strand_of t).items) ≡ 0
  half_elsewhere t own k n e =
      half_ever t own k n
      ∙ all_zero (written_by k) n (strand_of t).items (all_so_of (IsOwnItem t.socket) (λ m. written_by k m ≡ 0) (strand_of t).items (λ m o. (elsewhere k t.socket e m o).written) (strand_own t own))

  -- at the end of a side that opens the socket: what its journal has written
  pub opener_written : (s : Bool) (k : SocketId) → opens_in x s k ≡ true → written_at (strands_in x) at (end_at k true) ≡ writes_by s k
  opener_written s k o =
      one_adds (written_in (end_at k true)) (strands_in x) at (sc.place s)
      (λ i d. adds_none x sc (written_in (end_at k true)) at i (λ r q. record_written s r i q d k true false (sc.apart s k o) refl (slice_index at i))
      (λ r t log q. half_never t (sc.half i r t log q).own k (slice_index at i)))
      ∙ own_written s k true true o refl

  -- where neither side opens it, nothing
  pub none_written : (k : SocketId) → ((s : Bool) → opens_in x s k ≡ false) → written_at (strands_in x) at (end_at k true) ≡ 0
  none_written k closed =
      none_adds (written_in (end_at k true)) (strands_in x) at
      (λ i. adds_none x sc (written_in (end_at k true)) at i
      (λ r q. sided_total false (end_at k true) (journal_of (x.journals r)) (take (slice_index at i) (journal_of (x.journals r)).items) (ap (λ c. same_side c true) (closed r)))
      (λ r t log q. half_never t (sc.half i r t log q).own k (slice_index at i)))

  half_is_no_record : (s r : Bool) (j : ℕ) (t : TrailNow) (log : Log) → IsHalfAt x j r t log → sc.place s ≡ j → ⊥
  half_is_no_record s r j t log there e = differs (of_record s) refl (of_half r t log) refl (one_actor (slice_get x.actors j) (ap (slice_get x.actors) (sym e) ∙ sc.there s) there)
    where
      one_actor : (o : Option Actor) → o ≡ Some (of_record s) → o ≡ Some (of_half r t log) → of_record s ≡ of_half r t log
      one_actor o a b = let both : Some (of_record s) ≡ Some (of_half r t log) = sym a ∙ b in cc

      differs : (a : Actor) → a ≡ of_record s → (b : Actor) → b ≡ of_half r t log → a ≡ b → ⊥
      differs a p b q e = let all : of_record s ≡ of_half r t log = sym p ∙ e ∙ q in cc

  -- at the other end, which is this side's: what its half and its journal have written
  pub half_written : (s : Bool) (j : ℕ) (t : TrailNow) (log : Log) → IsHalfAt x j s t log → opens_in x (not s) t.socket ≡ true →
      written_at (strands_in x) at (end_at t.socket false) ≡ writes_by s t.socket + half_writes_by j t
  half_written s j t log there o =
      let f : StrandNow → StrandItem → ℕ = written_in (end_at t.socket false) in
      let two = two_add f (strands_in x) at (sc.place s) j (half_is_no_record s s j t log there)
      (λ i d c. adds_none x sc f at i (λ r q. record_written s r i q d t.socket false true o refl (slice_index at i))
      (λ r u other q. half_elsewhere u (sc.half i r u other q).own t.socket (slice_index at i) (other_half x sc i j r s u t other log q there c))) in
      let half : part_at f (strands_in x) at j ≡ half_writes_by j t = part_is x sc f at j (of_half s t log) there ∙ half_ever t (sc.half j s t log there).own t.socket (slice_index at j) in
      omega (arith, two, half, own_written s t.socket false false (apart_back s t.socket o) refl)

  pub bare_written : (s : Bool) (k : SocketId) → IsBareOf x s k → opens_in x (not s) k ≡ true → written_at (strands_in x) at (end_at k false) ≡ writes_by s k
  bare_written s k bare o =
      one_adds (written_in (end_at k false)) (strands_in x) at (sc.place s)
      (λ i d. adds_none x sc (written_in (end_at k false)) at i (λ r q. record_written s r i q d k false true o refl (slice_index at i))
      (λ r t log q. half_elsewhere t (sc.half i r t log q).own k (slice_index at i) (not_here i r t log q (sides s r))))
      ∙ own_written s k false false (apart_back s k o) refl
    where
      sides : (s r : Bool) → (r ≡ s) ⊎ (r ≡ not s)
      sides true true = inl refl
      sides true false = inr refl
      sides false true = inr refl
      sides false false = inl refl

      not_here : (i : ℕ) (r : Bool) (t : TrailNow) (log : Log) → IsHalfAt x i r t log → (r ≡ s) ⊎ (r ≡ not s) → same_socket k t.socket ≡ false
      not_here i r t log q (inl e) = bare i t log (q ∙ ap (λ b. Some (of_half b t log)) e)
      not_here i r t log q (inr e) = opened_bare (not s) k o i t log (q ∙ ap (λ b. Some (of_half b t log)) e)

  -- ---- what a side has put

  pub opener_put : (s : Bool) (h : SocketId → HalfBytes) → HalvesAre x at s h → (k : SocketId) → opens_in x s k ≡ true → PutSo x at k true (put_at (side_at x sc at s h) k)
  opener_put s h hs k e = record {
    count = writes_by s k;
    bytes =
        ap (λ l. l ++ wrote_on k (items_of (x.sources s) (come x sc at s))) (hs.none k (opened_bare s k e)).1 ∙ writes_are k (x.sources s) at_start (come x sc at s)
        ∙ ap (take (writes_by s k)) (sc.opened s k e).put;
    written = omega (arith, opener_written s k e);
  }

  untaken_put : (s : Bool) (h : SocketId → HalfBytes) → HalvesAre x at s h → (k : SocketId) → opens_in x (not s) k ≡ true → writes_by s k ≡ 0 → PutSo x at k false (put_at (side_at x sc at s h) k)
  untaken_put s h hs k o quiet = by_half (find x s k)
    where
      nothing_put : put_at (side_at x sc at s h) k ≡ (h k).put
      nothing_put =
          ap (λ l. (h k).put ++ l) (writes_are k (x.sources s) at_start (come x sc at s) ∙ none_of (writes_by s k) ((x.sources s).put k) quiet) ∙ append-nil (h k).put

      by_half : Found x.actors s k ⊎ IsBareOf x s k → PutSo x at k false (put_at (side_at x sc at s h) k)
      by_half (inr bare) = record { count = 0; bytes = nothing_put ∙ (hs.none k bare).1; written = omega (arith, bare_written s k bare o, quiet) }
      by_half (inl f) =
          let known = sc.half f.place s f.trail f.log f.there in
          let same : k ≡ f.trail.socket = same_equal k f.trail.socket f.socket in
          let quiet_there : writes_by s f.trail.socket ≡ 0 = subst (λ j. writes_by s j ≡ 0) same quiet in
          let here : PutSo x at f.trail.socket false (h f.trail.socket).put =
          record {
            count = half_writes_by f.place f.trail;
            bytes = hs.put f.place f.trail f.log f.there ∙ ap (take (half_writes_by f.place f.trail)) (sym known.put);
            written = omega (arith, half_written s f.place f.trail f.log f.there (ap (opens_in x (not s)) (sym same) ∙ o), quiet_there);
          } in
          subst (PutSo x at k false) (sym nothing_put) (subst (λ j. PutSo x at j false (h j).put) (sym same) here)

  taken_put : (s : Bool) (h : SocketId → HalfBytes) → HalvesAre x at s h → (k : SocketId) → opens_in x (not s) k ≡ true → is_among k (taken_in (come x sc at s)) ≡ true → PutSo x at k false (put_at (side_at x sc at s h) k)
  taken_put s h hs k o by_now = subst (λ j. PutSo x at j false (put_at (side_at x sc at s h) j)) tk.socket here
    where
      tk : IsTakenIn x s k
      tk = sc.taken s k (taken_still k (slice_index at (sc.place s)) (x.journals s) by_now)

      t : TrailNow
      t = tk.trail

      own : IsTakenIn x s t.socket
      own = record {
        place = tk.place;
        trail = tk.trail;
        log = tk.log;
        there = tk.there;
        socket = refl;
        taken = tk.taken;
        unread = ap (x.sources s).unread tk.socket ∙ tk.unread;
        got = ap (x.sources s).got tk.socket ∙ tk.got;
        put = ap (x.sources s).put tk.socket ∙ tk.put;
      }

      known : IsHalfIn x s t tk.log
      known = sc.half tk.place s t tk.log tk.there

      before : ℕ
      before = trail.written_by (runs_of t)

      whole : half_writes_by tk.place t ≡ before
      whole = written_whole x sc points tell at cut tk.place s t tk.log tk.there own refl (ap (λ j. is_among j (taken_in (come x sc at s))) tk.socket ∙ by_now)

      R : ℕ
      R = writes_by s t.socket

      here : PutSo x at t.socket false (put_at (side_at x sc at s h) t.socket)
      here = record {
        count = before + R;
        bytes =
            ap (λ l. l ++ wrote_on t.socket (items_of (x.sources s) (come x sc at s))) (hs.put tk.place t tk.log tk.there ∙ ap (λ n. take n tk.log.put) whole)
            ∙ ap (λ l. take before tk.log.put ++ l) (writes_are t.socket (x.sources s) at_start (come x sc at s) ∙ ap (take R) own.put)
            ∙ sym (take-add before R tk.log.put) ∙ ap (take (before + R)) (sym known.put);
        written = omega (arith, half_written s tk.place t tk.log tk.there (ap (opens_in x (not s)) tk.socket ∙ o), whole);
      }

  pub other_put : (s : Bool) (h : SocketId → HalfBytes) → HalvesAre x at s h → (k : SocketId) → opens_in x (not s) k ≡ true → PutSo x at k false (put_at (side_at x sc at s h) k)
  other_put s h hs k o = by_taken (is_among k (taken_in (come x sc at s))) refl
    where
      by_taken : (b : Bool) → is_among k (taken_in (come x sc at s)) ≡ b → PutSo x at k false (put_at (side_at x sc at s h) k)
      by_taken true q = taken_put s h hs k o q
      by_taken false q =
          untaken_put s h hs k o (quiet_first s k (opened_front k (slice_index at (sc.place s)) (x.journals s) (apart_back s k o)) q).1
