-- Where an order has come, bytes fit.
use Rattle.std.proofs.Common.{◌≡◌, ℕ, zero, suc, ◌<◌, ◌≤◌, ◌⊎◌, inl, inr, Bool, true, false, not, if◌then◌else◌, List, [], ◌∷◌, ◌++◌, length, map, take, drop, Option, Some, None, refl, sym, ap, ap₂, ◌∙◌, subst, arith}
use Rattle.std.specs.Prelude.{nat_lt, slice_get, slice_index}
use Rattle.std.specs.List.{AllByRecursion}
use Rattle.std.proofs.lemmas.Bool.Decides.{nat_tests}
use Rattle.std.proofs.lemmas.Option.{slice_get-get_or}
use Rattle.m2_fabric.specs.declared.socket.SocketId.{SocketId}
use Rattle.m2_fabric.specs.Log.{Log}
use Rattle.m2_fabric.specs.Sockets.{is_among, same_socket}
use Rattle.m2_bytes_fit.specs.Ends.{Side, got_at, judged_at, put_at, state_of, takings_on}
use Rattle.m2_bytes_fit.specs.Halves.{BytesFit, HalfFits, HalfName, KeepsRanges, begins}
use Rattle.m2_bytes_fit.specs.Trails.{IsHalfAt as HalfIsAt, TrailsTellEachPoint, bytes_after}
use Rattle.m2_journal.specs.m2_handshake.Course.{no_exchange}
use Rattle.m2_journal.specs.m2_handshake.Laws.{IsPrefix}
use Rattle.m2_journal.proofs.m2_handshake.Reaching.{begins as nothing_done}
use Rattle.m2_history.specs.HalfStrands.{OrdersGivePoints, noted_in, strand_of}
use Rattle.m2_journal.specs.declared.entry.JudgedItem.{JudgedItem}
use Rattle.m2_journal.specs.Items.{at_start, items_of}
use Rattle.m2_journal.specs.Lawful.{judged_on}
use Rattle.m2_journal.specs.State.{start}
use Rattle.m2_weave.specs.Order.{Cut}
use Rattle.m2_record.specs.TakenTrails.{judgements_in, taken_in}
use Rattle.m2_trail.specs.Replies.{all_replies}
use Rattle.m2_trail.specs.Trails as trail
use Rattle.m2_trail.specs.Trails.{ComesToAsk, ComesToWrite, HalfBytes, IsTaken, TrailNow, opener_of, runs_of}
use Rattle.m2_weave.specs.declared.strand.StrandItem.TheVariants.{Noted}
use Rattle.m2_weave.specs.Strands.{has_opened, journal_of, read_by, total, written_at, written_by}
use Rattle.m2_history.specs.Actors.{of_half}
use Rattle.m2_history.proofs.Cuts.{IsCut, got_as, half_there, judged_all, judged_parts, own_judged, put_as, read_whole, taken_still, written_whole}
use Rattle.m2_history.proofs.Journals.{judged_are, no_takings, opened_are, takings_left}
use Rattle.m2_history.proofs.Moved.{Found, GotSo, HalvesAre, IsBareOf, PutSo, apart_back, find, got_so, none_written, opened_got, opened_still, opened_untaken, opener_put, opener_written, other_put, quiet_first, side_at, taken_by_now}
use Rattle.m2_history.proofs.Names.{items_add}
use Rattle.m2_history.proofs.Scene.{IsBare, IsHalfAt, IsHalfIn, IsScene, IsTakenIn, Setting, come, end_at, none_handed, opens_in, strands_in}
use Rattle.m2_bytes.proofs.m2_lemmas.Lists.{empty_front, empty_front as no_front}
use Rattle.m2_bytes.proofs.m2_lemmas.Booleans.{from_false_true}
use Rattle.m2_fabric.proofs.Sockets.{same_equal}

-- ---- first bytes of two lists

first_of : (n m : ℕ) (xs ys : List ℕ) → ((p : ℕ) → p < n → p < length xs → (p < m) × (slice_get ys p ≡ slice_get xs p)) → IsPrefix (take n xs) (take m ys)
first_of zero m xs ys h = (take m ys, refl)
first_of (suc n) m [] ys h = (take m ys, refl)
first_of (suc n) zero (x ∷ xs) ys h = absurd (omega (arith, (h 0 (omega arith) (omega arith)).0))
first_of (suc n) (suc m) (x ∷ xs) [] h = absurd (let none = (h 0 (omega arith) (omega arith)).1 in let bad : ⊥ = cc in bad)
first_of (suc n) (suc m) (x ∷ xs) (y ∷ ys) h =
    let r = first_of n m xs ys (λ p low within. let k = h (suc p) (omega (arith, low)) (omega (arith, within)) in (omega (arith, k.0), k.1)) in
    let here = (h 0 (omega arith) (omega arith)).1 in
    let same : y ≡ x = cc in
    (r.0, ap (λ l. y ∷ l) r.1 ∙ ap (λ z. z ∷ (take n xs ++ r.0)) same)

pub if_some : (b : Bool) (o : Option ℕ) (y : ℕ) → (if b then o else None) ≡ Some y → (b ≡ true) × (o ≡ Some y)
if_some true o y e = (refl, e)
if_some false o y e = absurd (cc)

pub below : (p n : ℕ) → nat_lt p n ≡ true → p < n
below p n e = grind (arith, nat_tests)

module _ (x : Setting) (at : Cut) (k : SocketId) where
  was_there : (o : Bool) (got : List ℕ) (g : GotSo x at k o got) (p : ℕ) → p < g.count → p < length (x.bytes.got (end_at k o)) →
      (p < written_at (strands_in x) at (end_at k (not o))) × (slice_get (x.bytes.put (end_at k (not o))) p ≡ slice_get (x.bytes.got (end_at k o)) p)
  was_there o got g p low within =
      let is = slice_get-get_or (x.bytes.got (end_at k o)) p 0 within in
      let there = if_some (nat_lt p (written_at (strands_in x) at (end_at k (not o)))) (slice_get (x.bytes.put (end_at k (not o))) p) (slice_index (x.bytes.got (end_at k o)) p) (g.read p low within ∙ is) in
      (below p (written_at (strands_in x) at (end_at k (not o))) there.0, there.1 ∙ sym is)

  got_first : (o : Bool) (got put : List ℕ) → GotSo x at k o got → PutSo x at k (not o) put → IsPrefix got put
  got_first o got put g w =
      let first = first_of g.count w.count (x.bytes.got (end_at k o)) (x.bytes.put (end_at k (not o)))
      (λ p low within. let t = was_there o got g p low within in (omega (arith, t.0, w.written), t.1)) in
      (first.0, w.bytes ∙ first.1 ∙ ap (λ l. l ++ first.0) (sym g.bytes))

  got_none : (o : Bool) (got : List ℕ) → GotSo x at k o got → written_at (strands_in x) at (end_at k (not o)) ≡ 0 → got ≡ []
  got_none o got g none =
      let first = first_of g.count 0 (x.bytes.got (end_at k o)) (x.bytes.put (end_at k (not o)))
      (λ p low within. let t = was_there o got g p low within in (omega (arith, t.0, none), t.1)) in
      g.bytes ∙ empty_front (take g.count (x.bytes.got (end_at k o))) first.0 (sym first.1)

same_half : (h : HalfBytes) (got put : List ℕ) → h.got ≡ got → h.put ≡ put → h ≡ record { got = got; put = put }
same_half h got put e g = ap₂ (λ a b. record { got = a; put = b }) e g

all_left : (P : List ℕ → Type 0) (u : List ℕ) (us : List (List ℕ)) → AllByRecursion (λ v. v ≡ u) us → P u → AllByRecursion P us
all_left P u [] h p = tt
all_left P u (v ∷ us) h p = (subst P (sym h.0) p, all_left P u us h.1 p)

-- ---- a cut

module _ (x : Setting) (sc : IsScene x) (points : OrdersGivePoints) (tell : TrailsTellEachPoint) (at : Cut) (cut : IsCut x at) where
  opened_now : (s : Bool) (h : SocketId → HalfBytes) (k : SocketId) → is_among k (state_of (side_at x sc at s h)).opened ≡ has_opened (journal_of (come x sc at s)) k
  opened_now s h k = ap (is_among k) (items_add (x.facts s) (items_of (x.sources s) (come x sc at s)) (start (x.facts s))).opened ∙ opened_are (x.sources s) at_start (come x sc at s) k

  judged_so_far : (s : Bool) (h : SocketId → HalfBytes) (k : SocketId) → judged_at (side_at x sc at s h) k ≡ judged_on k (judgements_in (come x sc at s))
  judged_so_far s h k =
      ap (judged_on k) ((items_add (x.facts s) (items_of (x.sources s) (come x sc at s)) (start (x.facts s))).judgements ∙ judged_are (x.sources s) at_start (come x sc at s))

  -- ---- bytes that were got

  -- where neither side has opened the socket yet
  nothing_got : (s : Bool) (h : SocketId → HalfBytes) → HalvesAre x at s h → (k : SocketId) → ((r : Bool) → has_opened (journal_of (come x sc at r)) k ≡ false) → got_at (side_at x sc at s h) k ≡ []
  nothing_got s h hs k unopened = by_own (opens_in x s k) refl
    where
      quiet : (r : Bool) → opens_in x r k ≡ true → (total (read_by k) (map Noted (come x sc at r)) ≡ 0) × (total (written_by k) (map Noted (come x sc at r)) ≡ 0)
      quiet r o = quiet_first x sc points tell at cut r k (unopened r) (taken_by_now x sc points tell at cut r k (opened_untaken x sc points tell at cut r k o))

      both : (P : Bool → Type 0) (s : Bool) → P s → P (not s) → (r : Bool) → P r
      both P true p q true = p
      both P true p q false = q
      both P false p q true = q
      both P false p q false = p

      by_other : opens_in x s k ≡ false → (b : Bool) → opens_in x (not s) k ≡ b → got_at (side_at x sc at s h) k ≡ []
      by_other closed true o =
          got_none x at k false (got_at (side_at x sc at s h) k) (got_so x sc points tell at cut s h hs k false closed)
          (opener_written x sc points tell at cut (not s) k o ∙ (quiet (not s) o).1)
      by_other closed false o =
          got_none x at k false (got_at (side_at x sc at s h) k) (got_so x sc points tell at cut s h hs k false closed)
          (none_written x sc points tell at cut k (both (λ r. opens_in x r k ≡ false) s closed o))

      by_own : (b : Bool) → opens_in x s k ≡ b → got_at (side_at x sc at s h) k ≡ []
      by_own true o = opened_got x sc points tell at cut s h hs k o ∙ ap (λ n. take n (x.bytes.got (end_at k true))) (quiet s o).0
      by_own false o = by_other o (opens_in x (not s) k) refl

  -- ---- halves

  closed_now : (s : Bool) (h : SocketId → HalfBytes) (k : SocketId) → opens_in x s k ≡ false → is_among k (state_of (side_at x sc at s h)).opened ≡ true → ⊥
  closed_now s h k closed o = from_false_true (sym closed ∙ opened_still k (slice_index at (sc.place s)) (x.journals s) (sym (opened_now s h k) ∙ o))

  name_of : (s : Bool) (t : TrailNow) (log : Log) → IsHalfIn x s t log → HalfName
  name_of s t log known = record { entity = t.entity; seen = opener_of t.socket; entity_fits = known.entity; seen_fits = known.seen }

  half_fits : (s : Bool) (h : SocketId → HalfBytes) → HalvesAre x at s h → (j : ℕ) (t : TrailNow) (log : Log) → IsHalfAt x j s t log →
      AllByRecursion (IsTaken (trail.begins t) (h t.socket) (judged_at (side_at x sc at s h) t.socket)) (takings_on t.socket (items_of (x.sources s) (come x sc at s))) →
      HalfFits (side_at x sc at s h) t.socket
  unfolding name_of
  half_fits s h hs j t log there taken = record {
    opened = λ o. absurd (closed_now s h t.socket (sc.half j s t log there).unopened o);
    name = name_of s t log (sc.half j s t log there);
    refused = here.refused;
    refused_fits = here.refused_fits;
    asks = subst (λ js. ComesToAsk (trail.begins t) (h t.socket).got (all_replies js here.refused) js) (sym (judged_so_far s h t.socket))
        (subst (λ g. ComesToAsk (trail.begins t) g (all_replies judged here.refused) judged) got here.asks);
    writes = λ e. subst (λ js. ComesToWrite (trail.begins t) (h t.socket).got (all_replies js here.refused) (h t.socket).put) (sym (judged_so_far s h t.socket))
        (subst (λ p. ComesToWrite (trail.begins t) (h t.socket).got (all_replies judged here.refused) p) put
        (subst (λ g. ComesToWrite (trail.begins t) g (all_replies judged here.refused) after.put) got here.writes));
    taken = taken;
  }
    where
      judged : List JudgedItem
      judged = judged_on t.socket (judgements_in (come x sc at s))

      after : HalfBytes
      after = bytes_after t log (length (noted_in (take (slice_index at j) (strand_of t).items)))

      here : HalfIsAt (trail.begins t) after judged
      here = half_there x sc points tell at cut j s t log there

      got : after.got ≡ (h t.socket).got
      got = got_as x sc points tell at cut j s t log there ∙ sym (hs.got j t log there)

      put : after.put ≡ (h t.socket).put
      put = put_as x sc points tell at cut j s t log there ∙ sym (hs.put j t log there)

  -- a half that was taken by now
  taken_fits : (s : Bool) (h : SocketId → HalfBytes) → HalvesAre x at s h → (k : SocketId) → is_among k (taken_in (come x sc at s)) ≡ true → HalfFits (side_at x sc at s h) k
  taken_fits s h hs k by_now = subst (HalfFits (side_at x sc at s h)) tk.socket (half_fits s h hs tk.place t tk.log tk.there all)
    where
      tk : IsTakenIn x s k
      tk = sc.taken s k (taken_still k (slice_index at (sc.place s)) (x.journals s) by_now)

      t : TrailNow
      t = tk.trail

      own : IsTakenIn x s t.socket
      own = record {
        place = tk.place;
        trail = tk.trail;
        log = tk.log;
        there = tk.there;
        socket = refl;
        taken = tk.taken;
        unread = ap (x.sources s).unread tk.socket ∙ tk.unread;
        got = ap (x.sources s).got tk.socket ∙ tk.got;
        put = ap (x.sources s).put tk.socket ∙ tk.put;
      }

      now : is_among t.socket (taken_in (come x sc at s)) ≡ true
      now = ap (λ j. is_among j (taken_in (come x sc at s))) tk.socket ∙ by_now

      bytes : h t.socket ≡ trail.half_bytes t tk.log
      bytes = same_half (h t.socket) (take (trail.read_by (runs_of t)) tk.log.got) (take (trail.written_by (runs_of t)) tk.log.put)
          (hs.got tk.place t tk.log tk.there ∙ ap (λ n. take n tk.log.got) (read_whole x sc points tell at cut tk.place s t tk.log tk.there own refl now))
          (hs.put tk.place t tk.log tk.there ∙ ap (λ n. take n tk.log.put) (written_whole x sc points tell at cut tk.place s t tk.log tk.there own refl now))

      judged : t.judged ≡ judged_at (side_at x sc at s h) t.socket
      judged = judged_all x sc points tell at cut tk.place s t tk.log tk.there own refl now ∙ sym (judged_so_far s h t.socket)

      one : IsTaken (trail.begins t) (h t.socket) (judged_at (side_at x sc at s h) t.socket) ((x.sources s).unread t.socket)
      one =
          subst (λ u. IsTaken (trail.begins t) (h t.socket) (judged_at (side_at x sc at s h) t.socket) u) (sym own.unread)
          (subst (λ js. IsTaken (trail.begins t) (h t.socket) js (trail.unread_of t tk.log)) judged
          (subst (λ b. IsTaken (trail.begins t) b t.judged (trail.unread_of t tk.log)) (sym bytes) tk.taken.half))

      all : AllByRecursion (IsTaken (trail.begins t) (h t.socket) (judged_at (side_at x sc at s h) t.socket)) (takings_on t.socket (items_of (x.sources s) (come x sc at s)))
      all = all_left (IsTaken (trail.begins t) (h t.socket) (judged_at (side_at x sc at s h) t.socket)) ((x.sources s).unread t.socket) (takings_on t.socket (items_of (x.sources s) (come x sc at s)))
          (takings_left t.socket (x.sources s) at_start (come x sc at s)) one

  -- on a socket without a half of this side nothing is judged
  none_judged : (s : Bool) (k : SocketId) → IsBareOf x s k → judged_on k (judgements_in (come x sc at s)) ≡ []
  none_judged s k bare = by_half (find x (not s) k)
    where
      no_length : (js : List JudgedItem) → length js ≤ 0 → js ≡ []
      no_length [] h = refl
      no_length (j ∷ js) h = absurd (omega (arith, h))

      not_not : (s : Bool) → not (not s) ≡ s
      not_not true = refl
      not_not false = refl

      sides : (s r : Bool) → (r ≡ s) ⊎ (r ≡ not s)
      sides true true = inl refl
      sides true false = inr refl
      sides false true = inr refl
      sides false false = inl refl

      none_at_all : IsBareOf x (not s) k → IsBare x sc k
      none_at_all other j r t log there = by_side (sides s r)
        where
          by_side : (r ≡ s) ⊎ (r ≡ not s) → same_socket k t.socket ≡ false
          by_side (inl e) = bare j t log (there ∙ ap (λ b. Some (of_half b t log)) e)
          by_side (inr e) = other j t log (there ∙ ap (λ b. Some (of_half b t log)) e)

      by_half : Found x.actors (not s) k ⊎ IsBareOf x (not s) k → judged_on k (judgements_in (come x sc at s)) ≡ []
      by_half (inr other) =
          no_length (judged_on k (judgements_in (come x sc at s)))
          (let own = own_judged x sc points tell at cut s k in let none = none_handed x sc at k (none_at_all other) in omega (arith, own, none))
      by_half (inl f) =
          let others = cut.alone f.place (not s) f.trail f.log f.there in
          let none : judged_on k (judgements_in (x.journals s)) ≡ [] =
          ap (λ j. judged_on j (judgements_in (x.journals s))) (same_equal k f.trail.socket f.socket)
          ∙ ap (λ r. judged_on f.trail.socket (judgements_in (x.journals r))) (sym (not_not s)) ∙ others in
          no_front (judged_on k (judgements_in (come x sc at s))) (judged_on k (judgements_in (drop (slice_index at (sc.place s)) (x.journals s))))
          (sym (judged_parts k (slice_index at (sc.place s)) (x.journals s)) ∙ none)

  silent_fits : (s : Bool) (h : SocketId → HalfBytes) → HalvesAre x at s h → KeepsRanges (x.facts s) → (k : SocketId) → IsBareOf x s k → is_among k (taken_in (come x sc at s)) ≡ false →
      HalfFits (side_at x sc at s h) k
  silent_fits s h hs named k bare untaken = record {
    opened = λ o. hs.none k bare;
    name = name;
    refused = None;
    refused_fits = tt;
    asks = subst (λ js. ComesToAsk (begins name) (h k).got (all_replies js None) js) (sym judged)
        (subst (λ g. ComesToAsk (begins name) g (all_replies [] None) []) (sym (hs.none k bare).0)
        (record { exchange = no_exchange; standing = begins name; comes = nothing_done (begins name); fed = refl; given = ([], refl); first = ([], refl) }));
    writes = λ e. subst (λ js. ComesToWrite (begins name) (h k).got (all_replies js None) (h k).put) (sym judged)
        (subst (λ p. ComesToWrite (begins name) (h k).got (all_replies [] None) p) (sym (hs.none k bare).1)
        (subst (λ g. ComesToWrite (begins name) g (all_replies [] None) []) (sym (hs.none k bare).0)
        (record { exchange = no_exchange; standing = begins name; comes = nothing_done (begins name); fed = refl; given = ([], refl); written = ([], refl) })));
    taken = subst (AllByRecursion (IsTaken (begins name) (h k) (judged_at (side_at x sc at s h) k))) (sym (no_takings k (x.sources s) at_start (come x sc at s) untaken)) tt;
  }
    where
      name : HalfName
      name = record { entity = (x.facts s).node.entity; seen = (x.facts s).peer; entity_fits = named.entity; seen_fits = named.peer }

      judged : judged_at (side_at x sc at s h) k ≡ []
      judged = judged_so_far s h k ∙ none_judged s k bare

  any_fits : (s : Bool) (h : SocketId → HalfBytes) → HalvesAre x at s h → KeepsRanges (x.facts s) → (k : SocketId) → HalfFits (side_at x sc at s h) k
  any_fits s h hs named k = by_taken (is_among k (taken_in (come x sc at s))) refl
    where
      by_half : is_among k (taken_in (come x sc at s)) ≡ false → Found x.actors s k ⊎ IsBareOf x s k → HalfFits (side_at x sc at s h) k
      by_half q (inr bare) = silent_fits s h hs named k bare q
      by_half q (inl f) =
          let t = f.trail in
          let same : t.socket ≡ k = sym (same_equal k t.socket f.socket) in
          let none : takings_on t.socket (items_of (x.sources s) (come x sc at s)) ≡ [] =
          no_takings t.socket (x.sources s) at_start (come x sc at s) (ap (λ j. is_among j (taken_in (come x sc at s))) same ∙ q) in
          subst (HalfFits (side_at x sc at s h)) same (half_fits s h hs f.place t f.log f.there
          (subst (AllByRecursion (IsTaken (trail.begins t) (h t.socket) (judged_at (side_at x sc at s h) t.socket))) (sym none) tt))

      by_taken : (b : Bool) → is_among k (taken_in (come x sc at s)) ≡ b → HalfFits (side_at x sc at s h) k
      by_taken true q = taken_fits s h hs k q
      by_taken false q = by_half q (find x s k)

  -- ---- both sides

  module _ (ha hb : SocketId → HalfBytes) (near : HalvesAre x at true ha) (far : HalvesAre x at false hb) (named : (s : Bool) → KeepsRanges (x.facts s)) where
    abbrev a : Side
    a = side_at x sc at true ha

    abbrev b : Side
    b = side_at x sc at false hb

    first : (s : Bool) (h g : SocketId → HalfBytes) → HalvesAre x at s h → HalvesAre x at (not s) g → ((k : SocketId) → opens_in x (not s) k ≡ true → opens_in x s k ≡ false) →
        (k : SocketId) → IsPrefix (got_at (side_at x sc at s h) k) (put_at (side_at x sc at (not s) g) k)
    first s h g hs gs back k = by_own (opens_in x s k) refl
      where
        not_not : (s : Bool) → not (not s) ≡ s
        not_not true = refl
        not_not false = refl

        both : (P : Bool → Type 0) (s : Bool) → P s → P (not s) → (r : Bool) → P r
        both P true p q true = p
        both P true p q false = q
        both P false p q true = q
        both P false p q false = p

        by_other : opens_in x s k ≡ false → (t : Bool) → opens_in x (not s) k ≡ t → IsPrefix (got_at (side_at x sc at s h) k) (put_at (side_at x sc at (not s) g) k)
        by_other closed true o =
            got_first x at k false (got_at (side_at x sc at s h) k) (put_at (side_at x sc at (not s) g) k) (got_so x sc points tell at cut s h hs k false closed)
            (opener_put x sc points tell at cut (not s) g gs k o)
        by_other closed false o =
            let none = got_none x at k false (got_at (side_at x sc at s h) k) (got_so x sc points tell at cut s h hs k false closed)
            (none_written x sc points tell at cut k (both (λ r. opens_in x r k ≡ false) s closed o)) in
            (put_at (side_at x sc at (not s) g) k, ap (λ l. l ++ put_at (side_at x sc at (not s) g) k) (sym none))

        by_own : (t : Bool) → opens_in x s k ≡ t → IsPrefix (got_at (side_at x sc at s h) k) (put_at (side_at x sc at (not s) g) k)
        by_own true o =
            got_first x at k true (got_at (side_at x sc at s h) k) (put_at (side_at x sc at (not s) g) k) (got_so x sc points tell at cut s h hs k true o)
            (other_put x sc points tell at cut (not s) g gs k (ap (λ r. opens_in x r k) (not_not s) ∙ o))
        by_own false o = by_other o (opens_in x (not s) k) refl

    strange_so : (k : SocketId) → is_among k (state_of a).opened ≡ false → is_among k (state_of b).opened ≡ false → (r : Bool) → has_opened (journal_of (come x sc at r)) k ≡ false
    strange_so k p q true = sym (opened_now true ha k) ∙ p
    strange_so k p q false = sym (opened_now false hb k) ∙ q

    pub bytes_fit : BytesFit a b
    bytes_fit = record {
      near_got = first true ha hb near far (λ k o. apart_back x sc points tell at cut true k o);
      far_got = first false hb ha far near (λ k o. apart_back x sc points tell at cut false k o);
      strange = λ k p q. (nothing_got true ha near k (strange_so k p q), nothing_got false hb far k (strange_so k p q));
      near_halves = any_fits true ha near (named true);
      far_halves = any_fits false hb far (named false);
    }
