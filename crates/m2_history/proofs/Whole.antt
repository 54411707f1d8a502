-- A link that is woven into one order: its sides and halves are a scene, and bytes fit throughout.
use Rattle.std.proofs.Common.{◌≡◌, ℕ, zero, suc, ◌+◌, ◌≤◌, inl, inr, Bool, true, false, not, ◌||◌, if◌then◌else◌, List, [], ◌∷◌, ◌++◌, length, map, take, drop, Some, None, refl, sym, ap, ◌∙◌, subst, arith, append_assoc, take_all}
use Rattle.std.specs.Prelude.{slice_get, slice_index}
use Rattle.std.specs.List.{AllByRecursion, IsDistinct, flat_map}
use Rattle.std.proofs.lemmas.Grind.{flat_map-append}
use Rattle.std.proofs.lemmas.List.{length-map, map-append}
use Rattle.m2_trail.specs.m2_control.Laws.{HasAddrRanges}
use Rattle.m2_fabric.specs.declared.socket.SocketId.{SocketId}
use Rattle.m2_fabric.specs.End.{SeenEnd}
use Rattle.m2_fabric.specs.Log.{Log}
use Rattle.m2_fabric.specs.Sockets.{is_among, same_socket}
use Rattle.m2_bytes_fit.specs.Orders.{BytesGiveFits, IsByteHistory, LosslessBytesAreNeverReset, OrderEntry, entries_of, far_side, near_side}
use Rattle.m2_bytes_fit.specs.Halves.{BytesFit}
use Rattle.m2_bytes_fit.specs.Texts.{CanBePosted}
use Rattle.m2_bytes_fit.specs.Trails.{TrailsTellEachPoint}
use Rattle.m2_channel.specs.Observed.{all_of as dispatched_by}
use Rattle.m2_dispatch.specs.Heard as heard
use Rattle.m2_dispatch.specs.Laws.{IsSublist}
use Rattle.m2_history.specs.Counted.{posted}
use Rattle.m2_history.specs.Delivered.{CountsAreOfTheItems, PostedIsDelivered}
use Rattle.m2_history.specs.HalfStrands.{OrdersGivePoints, strand_of}
use Rattle.m2_history.specs.Parts.{PartsNow}
use Rattle.m2_history.specs.Woven.{BothNow, EndNow, as_judged, end_of, is_of_link, judged_times, loose_ends, loose_strand, loose_strands, row_now, rows_of, ends_of, strands_of, strands_of_side}
use Rattle.m2_journal.specs.declared.entry.Entry.{Entry}
use Rattle.m2_journal.specs.Items.{JournalItem, at_start, items_of}
use Rattle.m2_journal.specs.Lawful.{judged_on}
use Rattle.m2_journal.specs.Replay.{AreLawful}
use Rattle.m2_journal.specs.SideFacts.{SideFacts}
use Rattle.m2_journal.specs.State.{start}
use Rattle.m2_channel.specs.Lossy.{BothComeOver, IsByteOrder, LossyComesInOrder}
use Rattle.m2_weave.specs.Order as merge
use Rattle.m2_weave.specs.Order.{Cut, Rule, come, come_all, nothing}
use Rattle.m2_channel.specs.m2_never_reset.PairLaws.{IsNoDown}
use Rattle.m2_message.specs.Message.{unnumbered}
use Rattle.m2_channel.specs.m2_never_reset.Orders as orders
use Rattle.m2_channel.specs.m2_never_reset.Orders.{far_items, near_items, posts_in}
use Rattle.m2_policy.specs.declared.path.Key.{Key}
use Rattle.m2_record.specs.RecordNow.{feed_end, ids_of, ends_of as ends_of_record}
use Rattle.m2_record.specs.Sources.{log_at, read_before, trail_at, unread_of, written_before}
use Rattle.m2_record.specs.TakenTrails.{IsKeptTrail, judgements_in, taken_in}
use Rattle.m2_trail.specs.Arrivals.{LooseNow}
use Rattle.m2_trail.specs.Trails.{TrailNow, opener_of}
use Rattle.m2_weave.specs.declared.strand.StrandItem.TheVariants.{Noted}
use Rattle.m2_weave.specs.declared.table.SocketBytes.{SocketBytes}
use Rattle.m2_weave.specs.WeaveLaws.{AsksComeFirst, ReadWasWritten}
use Rattle.m2_weave.specs.Rule.{Woven, by_bytes}
use Rattle.m2_weave.specs.Stops.{IsWoven, sizes}
use Rattle.m2_weave.specs.Strands.{StrandNow, journal_of}
use Rattle.m2_weave.specs.Table.{bytes_of}
use Rattle.m2_history.specs.Actors.{Actor, of_record, of_half, actors_of, actors_of_side, is_near, journal_by, loose_actor, loose_actors, part_of, strand_by, taken_half, trail_by}
use Rattle.m2_history.specs.WovenLaws.{RecordsAreSides, WovenBytesFit, WovenIsDelivered, WovenIsNeverReset, kept_by}
use Rattle.m2_history.specs.Lossy.{ComesInOrder, WovenComesInOrder}
use Rattle.m2_history.specs.WovenLink.{AreUp, IsLink, IsLooseBeside, IsOrderOf, LinkNow, items_by, order_of, same_end, sources_in, trails_of}
use Rattle.m2_history.proofs.Alone.{alone_there}
use Rattle.m2_history.proofs.Along.{asked_there, at_first, begins_there, fits_there, front, items_so, read_there}
use Rattle.m2_history.proofs.Bytes.{HasBytes, HasEnd, IsOf, end_there, of_left, of_right}
use Rattle.m2_history.proofs.Halfway.{IsNamedSo, acceptors_apart, apart_named, distinct_first, distinct_join, distinct_last, distinct_parts, from_loose, loose_once, loose_trails, sockets_of, taken_once, trails_loose, trails_taken}
use Rattle.m2_history.proofs.Journals.{judged_count}
use Rattle.m2_history.proofs.WovenLinks.{FoundTrail, IsKnownActor, all_at, all_with, among_of, feed_opened, feed_taken, find_trail, get_left, get_right, loose_halves, loose_known, members, one_record, places_of, record_between, setting_of, side_bytes, sides_apart, opened_judges_none, taken_halves, taken_known, trail_at_half}
use Rattle.m2_history.proofs.Moved.{unjudged_untaken}
use Rattle.m2_history.proofs.Scene.{IsHalfAt, IsHalfIn, IsOpenedIn, IsScene, IsTakenIn, Setting, items_in, opens_in, strand_is, strands_in, woven_in}
use Rattle.m2_history.proofs.Sums.{strand_in}
use Rattle.m2_history.proofs.Walk.{far_entries, item_in, near_entries, part_of_order}
use Rattle.m2_bytes.proofs.m2_lemmas.Booleans.{from_false_true}
use Rattle.m2_fabric.proofs.Sockets.{same_refl}
use Rattle.m2_bytes.proofs.m2_lemmas.Lists.{all_append, get_map, all_map, all_so_of}
use Rattle.m2_record.proofs.TrailsAt.{no_trail}

-- ---- the strands of the actors

pub taken_strands : (journals : Bool → List Entry) (s : Bool) (ends : List SeenEnd) (ts : List TrailNow) → map (strand_by journals) (map (taken_half s ends) ts) ≡ map strand_of ts
taken_strands journals s ends [] = refl
taken_strands journals s ends (t ∷ ts) = ap (λ (l : List StrandNow). strand_of t ∷ l) (taken_strands journals s ends ts)

pub side_strands : (x : BothNow) (s : Bool) → map (strand_by (λ r. journal_by x r)) (actors_of_side s (part_of x s)) ≡ strands_of_side (journal_by x s) (part_of x s).trails
side_strands x s = ap (λ (l : List StrandNow). journal_of (journal_by x s) ∷ l) (taken_strands (λ r. journal_by x r) s (part_of x s).ends (part_of x s).trails)

-- of a half that neither took all asks count, since its side has judged them
pub as_it_is : (a b : List Entry) (h : LooseNow) → IsLooseBeside a b h → as_judged a b h.trail ≡ h.trail
as_it_is a b h beside = ap (λ (ns : List ℕ). record h.trail { judged_after = ns }) (take_all (judged_times a b h.trail.socket) h.trail.judged_after (all (is_near a b h.trail.socket) refl))
  where
    k : SocketId
    k = h.trail.socket

    all : (s : Bool) → is_near a b k ≡ s → length h.trail.judged_after ≤ judged_times a b k
    all true e =
        let told = ap length (beside.judged ∙ ap (λ s. judged_on k (judgements_in (if s then a else b))) e) in
        omega (arith, told, beside.whole.facts.many, judged_count k a)
    all false e =
        let told = ap length (beside.judged ∙ ap (λ s. judged_on k (judgements_in (if s then a else b))) e) in
        omega (arith, told, beside.whole.facts.many, judged_count k b)

pub one_loose : (journals : Bool → List Entry) (a b : List Entry) (h : LooseNow) → (is_of_link a b h ≡ true → IsLooseBeside a b h) → map (strand_by journals) (loose_actor a b h) ≡ loose_strand a b h
one_loose journals a b h beside = at (is_of_link a b h) refl
  where
    at : (c : Bool) → is_of_link a b h ≡ c → map (strand_by journals) (if c then of_half (is_near a b h.trail.socket) h.trail h.end.log ∷ [] else []) ≡ (if c then strand_of (as_judged a b h.trail) ∷ [] else [])
    at true e = ap (λ t. strand_of t ∷ []) (sym (as_it_is a b h (beside e)))
    at false e = refl

pub all_loose : (journals : Bool → List Entry) (a b : List Entry) (hs : List LooseNow) → AllByRecursion (λ (h : LooseNow). is_of_link a b h ≡ true → IsLooseBeside a b h) hs →
    map (strand_by journals) (loose_actors a b hs) ≡ loose_strands a b hs
all_loose journals a b [] beside = refl
all_loose journals a b (h ∷ hs) beside =
    map-append (strand_by journals) (loose_actor a b h) (loose_actors a b hs)
    ∙ ap (λ m. m ++ map (strand_by journals) (loose_actors a b hs)) (one_loose journals a b h beside.0) ∙ ap (λ m. loose_strand a b h ++ m) (all_loose journals a b hs beside.1)

pub strands_are : (x : BothNow) → AllByRecursion (λ (h : LooseNow). is_of_link x.a.journal x.b.journal h ≡ true → IsLooseBeside x.a.journal x.b.journal h) x.loose → map (strand_by (λ s. journal_by x s)) (actors_of x) ≡ strands_of x
strands_are x beside =
    map-append strand (near ++ far) loose
    ∙ ap (λ m. m ++ map strand loose) (map-append strand near far ∙ ap (λ m. m ++ map strand far) (side_strands x true) ∙ ap (λ m. strands_of_side x.a.journal x.a.trails ++ m) (side_strands x false))
    ∙ ap (λ m. (strands_of_side x.a.journal x.a.trails ++ strands_of_side x.b.journal x.b.trails) ++ m) (all_loose (λ s. journal_by x s) x.a.journal x.b.journal x.loose beside)
  where
    strand : Actor → StrandNow
    strand = strand_by (λ s. journal_by x s)

    near : List Actor
    near = actors_of_side true x.a

    far : List Actor
    far = actors_of_side false x.b

    loose : List Actor
    loose = loose_actors x.a.journal x.b.journal x.loose

-- ---- a scene

module _ (l : LinkNow) (link : IsLink l) (sockets : List SocketBytes) (rows : map row_now sockets ≡ rows_of (ends_of l.both)) where
  abbrev x : Setting
  x = setting_of l sockets

  abbrev part : Bool → PartsNow
  part s = part_of l.both s

  abbrev halves : Bool → List Actor
  halves s = map (taken_half s (part s).ends) (part s).trails

  abbrev loose : List Actor
  loose = loose_actors l.both.a.journal l.both.b.journal l.both.loose

  in_line : actors_of l.both ≡ of_record true ∷ (halves true ++ of_record false ∷ (halves false ++ loose))
  in_line = ap (λ (m : List Actor). of_record true ∷ m) (append_assoc (halves true) (of_record false ∷ halves false) loose)

  place : Bool → ℕ
  place true = 0
  place false = suc (length (halves true))

  behind : {X : Type 0} (xs : List X) (y : X) (ys : List X) → slice_get (xs ++ y ∷ ys) (length xs) ≡ Some y
  behind [] y ys = refl
  behind (z ∷ xs) y ys = behind xs y ys

  there : (s : Bool) → slice_get (actors_of l.both) (place s) ≡ Some (of_record s)
  unfolding place
  there true = refl
  there false = ap (λ m. slice_get m (suc (length (halves true)))) in_line ∙ behind (halves true) (of_record false) (halves false ++ loose)

  once : (s : Bool) (j : ℕ) → slice_get (actors_of l.both) j ≡ Some (of_record s) → j ≡ place s
  unfolding place
  once s j e = at s j (sym (ap (λ m. slice_get m j) in_line) ∙ e)
    where
      at : (s : Bool) (j : ℕ) → slice_get (of_record true ∷ (halves true ++ of_record false ∷ (halves false ++ loose))) j ≡ Some (of_record s) → j ≡ place s
      at true zero e = refl
      at false zero e = absurd (let same : of_record true ≡ of_record false = cc in let bad : ⊥ = cc in bad)
      at s (suc j) e =
          let r = record_between (halves true) (halves false ++ loose) (of_record false) j s (taken_halves true (part true).ends (part true).trails)
          (all_append _ (halves false) loose (taken_halves false (part false).ends (part false).trails) (loose_halves l.both.a.journal l.both.b.journal l.both.loose)) e in
          ap suc r.0 ∙ ap place (one_record false s r.1)

  -- ---- halves

  known_side : (s : Bool) → AllByRecursion (IsKnownActor l link sockets rows) (halves s)
  known_side s =
      all_map (IsKnownActor l link sockets rows) (taken_half s (part s).ends) (part s).trails
      (all_with (λ t. IsOf t (part s).trails) (IsKeptTrail (l.facts s).node.entity (part s).ends (journal_by l.both s)) (λ t. IsKnownActor l link sockets rows (taken_half s (part s).ends t)) (part s).trails
      (λ t m k seen. taken_known l link sockets rows s t m k seen) (members (part s).trails) (link.sides s).trails.each)

  known_loose : (hs : List LooseNow) → AllByRecursion (λ (h : LooseNow). IsOf h l.both.loose) hs →
      AllByRecursion (λ (h : LooseNow). is_of_link l.both.a.journal l.both.b.journal h ≡ true → IsLooseBeside l.both.a.journal l.both.b.journal h) hs →
      AllByRecursion (IsKnownActor l link sockets rows) (loose_actors l.both.a.journal l.both.b.journal hs)
  known_loose [] m b = tt
  known_loose (h ∷ hs) m b = at (is_of_link l.both.a.journal l.both.b.journal h) refl (known_loose hs m.1 b.1)
    where
      at : (c : Bool) → is_of_link l.both.a.journal l.both.b.journal h ≡ c → AllByRecursion (IsKnownActor l link sockets rows) (loose_actors l.both.a.journal l.both.b.journal hs) →
          AllByRecursion (IsKnownActor l link sockets rows)
          ((if c then of_half (is_near l.both.a.journal l.both.b.journal h.trail.socket) h.trail h.end.log ∷ [] else []) ++ loose_actors l.both.a.journal l.both.b.journal hs)
      at true e rest = (λ seen. loose_known l link sockets rows h m.0 e (b.0 e) seen, rest)
      at false e rest = rest

  known_actors : AllByRecursion (IsKnownActor l link sockets rows) (actors_of l.both)
  known_actors =
      all_append (IsKnownActor l link sockets rows) (actors_of_side true (part true) ++ actors_of_side false (part false)) loose
      (all_append (IsKnownActor l link sockets rows) (actors_of_side true (part true)) (actors_of_side false (part false)) (tt, known_side true) (tt, known_side false))
      (known_loose l.both.loose (members l.both.loose) link.joined.loose)

  half_known : (j : ℕ) (s : Bool) (t : TrailNow) (log : Log) → IsHalfAt x j s t log → IsHalfIn x s t log
  half_known j s t log e =
      all_at (IsKnownActor l link sockets rows) (actors_of l.both) j (of_half s t log) known_actors e
      (trail_at_half (λ t. HasAddrRanges (opener_of t.socket)) (actors_of l.both) j s t log link.joined.seen e)

  -- ---- taken and opened sockets

  taken_place : (s : Bool) (i : ℕ) (t : TrailNow) → slice_get (part s).trails i ≡ Some t → (j : ℕ) × IsHalfAt x j s t (log_at (part s).ends t.socket)
  taken_place true i t e = (
    suc i,
    ap (λ m. slice_get m (suc i)) in_line
        ∙ get_left (halves true) (of_record false ∷ (halves false ++ loose)) i (taken_half true (part true).ends t) (get_map (taken_half true (part true).ends) (part true).trails i t e),
  )
  taken_place false i t e = (
    suc (length (halves true) + suc i),
    ap (λ m. slice_get m (suc (length (halves true) + suc i))) in_line
        ∙ get_right (halves true) (of_record false ∷ (halves false ++ loose)) (suc i) (taken_half false (part false).ends t)
        (get_left (halves false) loose i (taken_half false (part false).ends t) (get_map (taken_half false (part false).ends) (part false).trails i t e)),
  )

  taken_so : (s : Bool) (k : SocketId) → is_among k (taken_in (journal_by l.both s)) ≡ true → IsTakenIn x s k
  taken_so s k h =
      let at = taken_place s f.place f.trail f.there in
      record {
        place = at.0;
        trail = f.trail;
        log = log_at ends f.trail.socket;
        there = at.1;
        socket = f.socket;
        taken = kept.beside.taken;
        unread = ap (λ o. unread_of o (log_at ends k)) f.first ∙ ap (λ j. unread_of (Some f.trail) (log_at ends j)) (sym f.socket);
        got = ap (λ o. drop (read_before o) (log_at ends k).got) f.first ∙ ap (λ j. drop (read_before (Some f.trail)) (log_at ends j).got) (sym f.socket);
        put = ap (λ o. drop (written_before o) (log_at ends k).put) f.first ∙ ap (λ j. drop (written_before (Some f.trail)) (log_at ends j).put) (sym f.socket);
      }
    where
      ends : List SeenEnd
      ends = (part s).ends

      f : FoundTrail (part s).trails k
      f = find_trail (part s).trails k (ap (is_among k) (link.sides s).trails.sockets ∙ h)

      kept : IsKeptTrail (l.facts s).node.entity ends (journal_by l.both s) f.trail
      kept = all_at (IsKeptTrail (l.facts s).node.entity ends (journal_by l.both s)) (part s).trails f.place f.trail (link.sides s).trails.each f.there

  opened_so : (s : Bool) (k : SocketId) → opens_in x s k ≡ true → IsOpenedIn x s k
  opened_so s k o = record {
    got = ap (λ t. drop (read_before t) (log_at ends k).got) none ∙ sym bytes.got ∙ ap (λ b. (bytes_of sockets).got (record { socket = k; opener = b })) o;
    put = ap (λ t. drop (written_before t) (log_at ends k).put) none ∙ sym bytes.put ∙ ap (λ b. (bytes_of sockets).put (record { socket = k; opener = b })) o;
  }
    where
      ends : List SeenEnd
      ends = (part s).ends

      none : trail_at (part s).trails k ≡ None
      none = no_trail (part s).trails k (ap (is_among k) (link.sides s).trails.sockets ∙ unjudged_untaken k (journal_by l.both s) (opened_judges_none l link sockets rows s k o))

      bytes : HasBytes sockets k (opens_in x s k) (log_at ends k).got (log_at ends k).put
      bytes = side_bytes l link sockets rows s k (feed_opened (λ k. is_among k (ids_of ends) ≡ true) (journal_by l.both s) k (link.sides s).ends o)

  -- ---- one half on each socket

  abbrev ends_by : Bool → List EndNow
  ends_by s = map (end_of (journal_by l.both s)) (part s).ends

  abbrev loose_now : List EndNow
  loose_now = loose_ends l.both.a.journal l.both.b.journal l.both.loose

  abbrev loose_ts : List TrailNow
  loose_ts = loose_trails l.both.a.journal l.both.b.journal l.both.loose

  its_taking : (s : Bool) (t : TrailNow) → IsOf t (part s).trails → is_among t.socket (taken_in (journal_by l.both s)) ≡ true
  its_taking s t m = ap (is_among t.socket) (sym (link.sides s).trails.sockets) ∙ among_of (part s).trails t m

  its_end : (s : Bool) (t : TrailNow) → IsOf t (part s).trails → HasEnd (journal_by l.both s) (part s).ends t.socket
  its_end s t m = end_there (journal_by l.both s) (part s).ends t.socket (feed_taken (λ k. is_among k (ids_of (part s).ends) ≡ true) (journal_by l.both s) t.socket (link.sides s).ends (its_taking s t m))

  closed_half : (s : Bool) (t : TrailNow) → IsOf t (part s).trails → opens_in x s t.socket ≡ false
  closed_half s t m = at (opens_in x s t.socket) refl
    where
      at : (b : Bool) → opens_in x s t.socket ≡ b → opens_in x s t.socket ≡ false
      at false o = o
      at true o = from_false_true (sym (unjudged_untaken t.socket (journal_by l.both s) (opened_judges_none l link sockets rows s t.socket o)) ∙ its_taking s t m)

  its_opener : (s : Bool) (t : TrailNow) (m : IsOf t (part s).trails) → (its_end s t m).end.opener ≡ false
  its_opener s t m = (its_end s t m).opener ∙ closed_half s t m

  sides_differ : (t : TrailNow) → IsOf t (part true).trails → (u : TrailNow) → IsOf u (part false).trails → same_socket t.socket u.socket ≡ false
  sides_differ t m u n =
      let d = its_end true t m in
      let e = its_end false u n in
      ap (λ j. same_socket j u.socket) (sym d.socket) ∙ ap (same_socket d.end.socket) (sym e.socket)
      ∙ acceptors_apart d.end e.end (its_opener true t m) (its_opener false u n)
      (distinct_parts same_end (ends_by true) (ends_by false) d.end e.end (distinct_first same_end (ends_by true ++ ends_by false) loose_now link.joined.apart) d.there e.there)

  names : AllByRecursion (IsNamedSo l.both.a.journal l.both.b.journal) l.both.loose
  names =
      all_so_of (λ (h : LooseNow). is_of_link l.both.a.journal l.both.b.journal h ≡ true → IsLooseBeside l.both.a.journal l.both.b.journal h) (IsNamedSo l.both.a.journal l.both.b.journal) l.both.loose
      (λ h f e. (f e).whole.socket) link.joined.loose

  side_member : (s : Bool) (e : EndNow) → IsOf e (ends_by s) → IsOf e (ends_by true ++ ends_by false)
  side_member true e h = of_left e (ends_by true) (ends_by false) h
  side_member false e h = of_right e (ends_by true) (ends_by false) h

  loose_differ : (s : Bool) (t : TrailNow) → IsOf t (part s).trails → AllByRecursion (λ (u : TrailNow). same_socket t.socket u.socket ≡ false) loose_ts
  loose_differ s t m =
      let d = its_end s t m in
      subst (λ j. AllByRecursion (λ (u : TrailNow). same_socket j u.socket ≡ false) loose_ts) d.socket
      (from_loose l.both.a.journal l.both.b.journal d.end (its_opener s t m) l.both.loose names
      (all_so_of (λ y. IsOf y loose_now) (λ y. same_end d.end y ≡ false) loose_now
      (λ y h. distinct_parts same_end (ends_by true ++ ends_by false) loose_now d.end y link.joined.apart (side_member s d.end d.there) h) (members loose_now)))

  own_once : (s : Bool) → IsDistinct same_socket (sockets_of (part s).trails)
  own_once s = subst (IsDistinct same_socket) (sym (link.sides s).trails.sockets) (taken_once (l.facts s) (sources_in (l.plans s) (part s)) at_start (journal_by l.both s) (link.sides s).lawful)

  halves_once : IsDistinct same_socket (sockets_of (trails_of l.both))
  halves_once =
      let t = (part true).trails in
      let u = (part false).trails in
      let sides_once = distinct_join same_socket (sockets_of t) (sockets_of u) (own_once true) (own_once false)
      (apart_named t u (all_so_of (λ a. IsOf a t) (λ a. AllByRecursion (λ b. same_socket a.socket b.socket ≡ false) u) t
      (λ a m. all_so_of (λ b. IsOf b u) (λ b. same_socket a.socket b.socket ≡ false) u (λ b n. sides_differ a m b n) (members u)) (members t))) in
      let away = all_append (λ a. AllByRecursion (λ (b : TrailNow). same_socket a.socket b.socket ≡ false) loose_ts) t u
      (all_so_of (λ a. IsOf a t) (λ a. AllByRecursion (λ (b : TrailNow). same_socket a.socket b.socket ≡ false) loose_ts) t (λ a m. loose_differ true a m) (members t))
      (all_so_of (λ a. IsOf a u) (λ a. AllByRecursion (λ (b : TrailNow). same_socket a.socket b.socket ≡ false) loose_ts) u (λ a m. loose_differ false a m) (members u)) in
      let whole = distinct_join same_socket (sockets_of (t ++ u)) (sockets_of loose_ts) (subst (IsDistinct same_socket) (sym (map-append (λ (a : TrailNow). a.socket) t u)) sides_once)
      (loose_once l.both.a.journal l.both.b.journal l.both.loose names (distinct_last same_end (ends_by true ++ ends_by false) loose_now link.joined.apart))
      (apart_named (t ++ u) loose_ts away) in
      subst (λ ts. IsDistinct same_socket (sockets_of ts)) (sym in_parts) (subst (IsDistinct same_socket) (sym (map-append (λ (a : TrailNow). a.socket) (t ++ u) loose_ts)) whole)
    where
      in_parts : trails_of l.both ≡ ((part true).trails ++ (part false).trails) ++ loose_ts
      in_parts =
          flat_map-append trail_by (actors_of_side true (part true) ++ actors_of_side false (part false)) loose
          ∙ ap (λ m. m ++ flat_map trail_by loose) (flat_map-append trail_by (actors_of_side true (part true)) (actors_of_side false (part false))
          ∙ ap (λ m. m ++ flat_map trail_by (halves false)) (trails_taken true (part true).ends (part true).trails)
          ∙ ap (λ m. (part true).trails ++ m) (trails_taken false (part false).ends (part false).trails))
          ∙ ap (λ m. ((part true).trails ++ (part false).trails) ++ m) (trails_loose l.both.a.journal l.both.b.journal l.both.loose)

  pub scene_is : IsScene x
  scene_is = record {
    lawful = λ s. (link.sides s).lawful;
    place = place;
    there = there;
    once = once;
    halves_once = λ i j s r t u log other e g q. places_of (actors_of l.both) halves_once i j s r t u log other e g q;
    half = half_known;
    taken = taken_so;
    opened = opened_so;
    apart = sides_apart l link sockets rows;
  }

-- ---- throughout an order

lawful_first : (rule : Rule) (all at : Cut) (xs ys : List ℕ) → merge.AreLawful rule all at (xs ++ ys) → merge.AreLawful rule all at xs
lawful_first rule all at [] ys h = tt
lawful_first rule all at (k ∷ xs) ys h = (h.0, lawful_first rule all (come k at) xs ys h.1)

take_whole : {X : Type 0} (n : ℕ) (xs : List X) → n ≡ length xs → take n xs ≡ xs
take_whole n xs e = ap (λ m. take m xs) e ∙ take_length xs
  where
    take_length : {X : Type 0} (xs : List X) → take (length xs) xs ≡ xs
    take_length [] = refl
    take_length (x ∷ xs) = ap (λ l. x ∷ l) (take_length xs)

index_size : (w : Woven) (j : ℕ) → slice_index (sizes w) j ≡ length (strand_in w.strands j).items
index_size w j = at w.strands j
  where
    at : (ss : List StrandNow) (j : ℕ) → slice_index (map (λ (s : StrandNow). length s.items) ss) j ≡ length (strand_in ss j).items
    at [] j = refl
    at (s ∷ ss) zero = refl
    at (s ∷ ss) (suc j) = at ss j

module _ (read : ReadWasWritten) (asked : AsksComeFirst) (points : OrdersGivePoints) (tell : TrailsTellEachPoint)
    (l : LinkNow) (sockets : List SocketBytes) (link : IsLink l) (rows : map row_now sockets ≡ rows_of (ends_of l.both)) (order : List ℕ)
    (woven : IsWoven (woven_in (setting_of l sockets)) order) where
  abbrev y : Setting
  y = setting_of l sockets

  sc : IsScene y
  sc = scene_is l link sockets rows

  abbrev at_end : Cut
  at_end = come_all order (at_first y.actors)

  all_come : (j : ℕ) → slice_index at_end j ≡ length (strand_in (strands_in y) j).items
  all_come j = ap (λ at. slice_index (come_all order at) j) (sym (begins_there y)) ∙ ap (λ at. slice_index at j) woven.whole ∙ index_size (woven_in y) j

  -- all of a journal has come at the end
  pub whole_journal : (s : Bool) → flat_map (item_in s) (order_of l order) ≡ items_by l s
  whole_journal s =
      items_so y sc order s
      ∙ ap (items_of (y.sources s)) (take_whole (slice_index at_end (sc.place s)) (y.journals s) count)
    where
      count : slice_index at_end (sc.place s) ≡ length (y.journals s)
      count = all_come (sc.place s) ∙ ap (λ (r : StrandNow). length r.items) (strand_is y sc (sc.place s) (of_record s) (sc.there s)) ∙ length-map (y.journals s) Noted

  alone : (j : ℕ) (s : Bool) (t : TrailNow) (log : Log) → IsHalfAt y j s t log → judged_on t.socket (judgements_in (y.journals (not s))) ≡ []
  alone = alone_there y sc link.joined.named at_end (read_there y read order woven.lawful) (asked_there y asked order woven.lawful) all_come

  throughout : (front back : List OrderEntry) → order_of l order ≡ front ++ back → BytesFit (near_side (l.facts true) front) (far_side (l.facts false) front)
  throughout front back e =
      let p = part_of_order (items_in y) y.actors (at_first y.actors) order front back e in
      let lawful = lawful_first (by_bytes (woven_in y)) (sizes (woven_in y)) (nothing (sizes (woven_in y))) p.first p.more
      (subst (λ o. merge.AreLawful (by_bytes (woven_in y)) (sizes (woven_in y)) (nothing (sizes (woven_in y))) o) p.parts woven.lawful) in
      subst (λ m. BytesFit (near_side (l.facts true) m) (far_side (l.facts false) m)) p.entries
      (fits_there y sc p.first points tell (record { read = read_there y read p.first lawful; asked = asked_there y asked p.first lawful; alone = alone }) link.joined.named)

  pub near_whole : near_items (entries_of (order_of l order)) ≡ items_by l true
  near_whole = near_entries (order_of l order) ∙ whole_journal true

  pub far_whole : far_items (entries_of (order_of l order)) ≡ items_by l false
  far_whole = far_entries (order_of l order) ∙ whole_journal false

  byte_order : IsByteOrder (l.facts true) (l.facts false) (order_of l order)
  byte_order = record {
    near_named = link.joined.named true;
    far_named = link.joined.named false;
    near_lawful = subst (λ is. AreLawful (l.facts true) is (start (l.facts true))) (sym near_whole) (link.sides true).lawful;
    far_lawful = subst (λ is. AreLawful (l.facts false) is (start (l.facts false))) (sym far_whole) (link.sides false).lawful;
    near_posts = subst (AllByRecursion CanBePosted) (sym near_whole) (link.joined.posts true);
    far_posts = subst (AllByRecursion CanBePosted) (sym far_whole) (link.joined.posts false);
    bytes = throughout;
  }

  byte_history : AreUp l → IsByteHistory (l.facts true) (l.facts false) (order_of l order)
  byte_history up = record {
    near_named = byte_order.near_named;
    far_named = byte_order.far_named;
    peers = link.joined.peers;
    near_lawful = byte_order.near_lawful;
    far_lawful = byte_order.far_lawful;
    near_not_down = subst (AllByRecursion IsNoDown) (sym near_whole) (up true);
    far_not_down = subst (AllByRecursion IsNoDown) (sym far_whole) (up false);
    near_posts = byte_order.near_posts;
    far_posts = byte_order.far_posts;
    bytes = throughout;
  }

-- ---- the laws

pub by_actors : (l : LinkNow) (order : List ℕ) → IsLink l → (o : IsOrderOf l order) → IsWoven (woven_in (setting_of l o.sockets)) order
by_actors l order link o = subst (λ ss. IsWoven (record { strands = ss; bytes = bytes_of o.sockets }) order) (sym (strands_are l.both link.joined.loose)) o.woven

pub bytes_fit_throughout : ReadWasWritten → AsksComeFirst → OrdersGivePoints → TrailsTellEachPoint → WovenBytesFit
bytes_fit_throughout read asked points tell l order link o = record {
  fits = byte_order read asked points tell l o.sockets link o.rows order (by_actors l order link o);
  history = byte_history read asked points tell l o.sockets link o.rows order (by_actors l order link o);
}

pub never_reset : WovenBytesFit → BytesGiveFits → LosslessBytesAreNeverReset → WovenIsNeverReset
never_reset fit gives never l order nodes link up o =
    let bytes = (fit l order link o).history up in
    record {
      history = gives (l.facts true) (l.facts false) (order_of l order) nodes bytes;
      never_reset = never (l.facts true) (l.facts false) (order_of l order) nodes bytes;
    }

pub delivered : ReadWasWritten → AsksComeFirst → OrdersGivePoints → TrailsTellEachPoint → WovenIsNeverReset → PostedIsDelivered → WovenIsDelivered
delivered read asked points tell so posted l order near_logs far_logs nodes link up o logs =
    posted (l.facts true) (l.facts false) (entries_of (order_of l order)) (kept_by l true) (kept_by l false) near_logs far_logs nodes (so l order nodes link up o).history
    (record {
      near_plan = refl;
      far_plan = refl;
      near_items = near_whole read asked points tell l o.sockets link o.rows order (by_actors l order link o);
      far_items = far_whole read asked points tell l o.sockets link o.rows order (by_actors l order link o);
    }) logs

-- of each key what a side has posted
pub posts_counted : CountsAreOfTheItems → (l : LinkNow) → IsLink l → (s : Bool) (g : SideFacts) (entries : List JournalItem) → entries ≡ items_by l s → (key : Key) →
    orders.of_key g key (map unnumbered (posts_in entries)) ≡ map unnumbered (posted (kept_by l s).plan g.node.fast key (kept_by l s).journal)
posts_counted counts l link s g entries e key = ap (λ is. orders.of_key g key (map unnumbered (posts_in is))) e ∙ sym ((counts (l.facts s) (kept_by l s) refl (link.sides s).lawful).posted g key)

-- what is dispatched of a lossy link is some of what was posted
pub comes_in_order : ReadWasWritten → AsksComeFirst → OrdersGivePoints → TrailsTellEachPoint → WovenBytesFit → LossyComesInOrder → CountsAreOfTheItems → WovenComesInOrder
comes_in_order read asked points tell fit comes counts l order near_logs far_logs nodes link o logs = record { near = near; far = far }
  where
    come : BothComeOver (l.facts true) (l.facts false) (entries_of (order_of l order))
    come = comes (l.facts true) (l.facts false) (order_of l order) nodes (fit l order link o).fits

    near : ComesInOrder (l.facts true) (l.facts false) (kept_by l true) far_logs
    near key =
        subst (IsSublist (map unnumbered (heard.of_key (l.facts true).node.number key (dispatched_by far_logs)))) (posts_counted counts l link true (l.facts false) (near_items (entries_of (order_of l order))) (near_whole read asked points tell l o.sockets link o.rows order (by_actors l order link o)) key)
        (come.far.dispatched far_logs logs.far key)

    far : ComesInOrder (l.facts false) (l.facts true) (kept_by l false) near_logs
    far key =
        subst (IsSublist (map unnumbered (heard.of_key (l.facts false).node.number key (dispatched_by near_logs)))) (posts_counted counts l link false (l.facts true) (far_items (entries_of (order_of l order))) (far_whole read asked points tell l o.sockets link o.rows order (by_actors l order link o)) key)
        (come.near.dispatched near_logs logs.near key)

-- ---- records

among_ids : (e : SeenEnd) (es : List SeenEnd) → IsOf e es → is_among e.id (ids_of es) ≡ true
among_ids e [] h = absurd h
among_ids e (d ∷ es) (inl q) = ap (λ b. b || is_among e.id (ids_of es)) (ap (λ (x : SeenEnd). same_socket e.id x.id) q ∙ same_refl e.id)
among_ids e (d ∷ es) (inr h) = at (same_socket e.id d.id) (among_ids e es h)
  where
    at : (b : Bool) → is_among e.id (ids_of es) ≡ true → b || is_among e.id (ids_of es) ≡ true
    at true g = refl
    at false g = g

all_ids : (P : SocketId → Type 0) (es : List SeenEnd) → AllByRecursion (λ (e : SeenEnd). P e.id) es → AllByRecursion P (ids_of es)
all_ids P [] h = tt
all_ids P (e ∷ es) h = (h.0, all_ids P es h.1)

-- either way round
turned_ids : (xs ys : List SeenEnd) → AllByRecursion (λ k. is_among k (ids_of (ys ++ xs)) ≡ true) (ids_of (xs ++ ys))
turned_ids xs ys =
    all_ids (λ k. is_among k (ids_of (ys ++ xs)) ≡ true) (xs ++ ys)
    (all_append (λ (e : SeenEnd). is_among e.id (ids_of (ys ++ xs)) ≡ true) xs ys
    (all_so_of (λ e. IsOf e xs) (λ e. is_among e.id (ids_of (ys ++ xs)) ≡ true) xs (λ e h. among_ids e (ys ++ xs) (of_right e ys xs h)) (members xs))
    (all_so_of (λ e. IsOf e ys) (λ e. is_among e.id (ids_of (ys ++ xs)) ≡ true) ys (λ e h. among_ids e (ys ++ xs) (of_left e ys xs h)) (members ys)))

pub records_are_sides : RecordsAreSides
records_are_sides r h = record {
  lawful = h.at_state.replay.lawful;
  ends = subst (λ ks. AllByRecursion (λ k. is_among k (ids_of (ends_of_record r)) ≡ true) ks) h.kept.ends (turned_ids r.spent (feed_end r.core.live.feed));
  trails = h.trails;
}
