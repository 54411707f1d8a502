-- Where an order has come: of each half what it has moved, the asks that were judged there, and that all of a half has come
-- whose socket was taken.
use Rattle.std.proofs.Common.{◌≡◌, ℕ, ◌≤◌, Bool, true, not, List, [], ◌∷◌, ◌++◌, length, length-append, map, take, drop, refl, sym, ap, ◌∙◌, subst, arith, append-nil, take_at, take_all}
use Rattle.std.specs.Prelude.{slice_index}
use Rattle.std.proofs.lemmas.List.{take-append-drop}
use Rattle.std.proofs.lemmas.List.Elements.{filter_map-append}
use Rattle.m2_fabric.specs.declared.socket.SocketId.{SocketId}
use Rattle.m2_fabric.specs.Log.{Log}
use Rattle.m2_fabric.specs.Sockets.{is_among}
use Rattle.m2_bytes_fit.specs.Trails.{IsHalfAt, TrailsTellEachPoint, bytes_after}
use Rattle.m2_history.specs.HalfStrands.{IsOrdered, IsWovenTo, OrdersGivePoints, noted_in, strand_of}
use Rattle.m2_journal.specs.declared.entry.Entry.{Entry}
use Rattle.m2_journal.specs.declared.entry.JudgedItem.{JudgedItem}
use Rattle.m2_journal.specs.Items.{at_start, items_from, items_of, passed_by, runs_on}
use Rattle.m2_journal.specs.Laws.{taken_among}
use Rattle.m2_journal.specs.Lawful.{judged_on}
use Rattle.m2_journal.specs.Replay.{AreLawful, after_items}
use Rattle.m2_journal.specs.State.{State, start}
use Rattle.m2_journal.proofs.Growing.{items-append}
use Rattle.m2_weave.specs.Order.{Cut}
use Rattle.m2_record.specs.TakenTrails.{judgement_of, judgements_in, taken_by, taken_in}
use Rattle.m2_trail.specs.Trails as trail
use Rattle.m2_trail.specs.Trails.{TrailNow, begins, runs_of}
use Rattle.m2_weave.specs.declared.strand.StrandItem.TheVariants.{Noted}
use Rattle.m2_weave.specs.WeaveLaws.{IsAsked, IsRead}
use Rattle.m2_weave.specs.Rule.{strand_at}
use Rattle.m2_weave.specs.Strands.{handed_at, judged_at, judged_by, read_by, total, written_by}
use Rattle.m2_history.specs.Actors.{of_record, of_half}
use Rattle.m2_history.proofs.WovenHalves.{half_is_tidy, read_as_noted, written_as_noted}
use Rattle.m2_history.proofs.Journals.{items_take, judged_are, judged_count, judged_no_more, lawful_take, taken_are}
use Rattle.m2_history.proofs.Names.{items_add}
use Rattle.m2_history.proofs.Scene as scene
use Rattle.m2_history.proofs.Scene.{IsHalfIn, IsScene, IsTakenIn, Setting, come, handed_is, items_in, judged_is, strand_is, strands_in, taken_map, woven_in}
use Rattle.m2_bytes.proofs.m2_lemmas.Lists.{empty_front}
use Rattle.m2_journal.proofs.JudgedOn.{lawful_front}
use Rattle.m2_fabric.proofs.Sockets.{among_front}
use Rattle.m2_record.proofs.AsksJudged.{judged_append}

-- what was read there was written, what was judged was handed on, and of a half its side alone has judged the asks
pub record IsCut (x : Setting) (at : Cut) : Type 0 where
  pub read : (j : ℕ) → IsRead (woven_in x) at (strand_at (woven_in x) j) (slice_index at j)
  pub asked : (j : ℕ) → IsAsked (woven_in x) at (strand_at (woven_in x) j) (slice_index at j)
  pub alone : (j : ℕ) (s : Bool) (t : TrailNow) (log : Log) → scene.IsHalfAt x j s t log → judged_on t.socket (judgements_in (x.journals (not s))) ≡ []

-- ---- first entries

pub judgements_parts : (n : ℕ) (es : List Entry) → judgements_in es ≡ judgements_in (take n es) ++ judgements_in (drop n es)
judgements_parts n es = ap judgements_in (sym (take-append-drop n es)) ∙ filter_map-append judgement_of (take n es) (drop n es)

pub judged_parts : (k : SocketId) (n : ℕ) (es : List Entry) → judged_on k (judgements_in es) ≡ judged_on k (judgements_in (take n es)) ++ judged_on k (judgements_in (drop n es))
judged_parts k n es = ap (judged_on k) (judgements_parts n es) ∙ judged_append k (judgements_in (take n es)) (judgements_in (drop n es))

pub taken_parts : (n : ℕ) (es : List Entry) → taken_in es ≡ taken_in (take n es) ++ taken_in (drop n es)
taken_parts n es = ap taken_in (sym (take-append-drop n es)) ∙ filter_map-append taken_by (take n es) (drop n es)

pub taken_still : (k : SocketId) (n : ℕ) (es : List Entry) → is_among k (taken_in (take n es)) ≡ true → is_among k (taken_in es) ≡ true
taken_still k n es h = ap (is_among k) (taken_parts n es) ∙ among_front k (taken_in (take n es)) (taken_in (drop n es)) h

last_index : (xs : List ℕ) (n : ℕ) → slice_index (xs ++ n ∷ []) (length xs) ≡ n
last_index [] n = refl
last_index (x ∷ xs) n = last_index xs n

-- ---- a cut

module _ (x : Setting) (sc : IsScene x) (points : OrdersGivePoints) (tell : TrailsTellEachPoint) (at : Cut) (cut : IsCut x at) where
  abbrev pub first : Bool → List Entry
  first s = come x sc at s

  pub lawful_first : (s : Bool) → AreLawful (x.facts s) (items_of (x.sources s) (first s)) (start (x.facts s))
  lawful_first s =
      subst (λ is. AreLawful (x.facts s) is (start (x.facts s))) (items_take (x.sources s) at_start (slice_index at (sc.place s)) (x.journals s))
      (lawful_take (x.facts s) (slice_index at (sc.place s)) (items_in x s) (start (x.facts s)) (sc.lawful s))

  -- behind a taking nothing more is judged there
  pub judged_whole : (s : Bool) (k : SocketId) → is_among k (taken_in (first s)) ≡ true → judged_on k (judgements_in (x.journals s)) ≡ judged_on k (judgements_in (first s))
  judged_whole s k taken =
      judged_parts k n es ∙ ap (λ l. judged_on k (judgements_in (first s)) ++ l) (judged_no_more (x.facts s) (x.sources s) (drop n es) (passed_by (first s) at_start) state k lawful there)
      ∙ append-nil (judged_on k (judgements_in (first s)))
    where
      n : ℕ
      n = slice_index at (sc.place s)

      es : List Entry
      es = x.journals s

      state : State
      state = after_items (x.facts s) (items_of (x.sources s) (first s)) (start (x.facts s))

      whole : items_in x s ≡ items_of (x.sources s) (first s) ++ items_from (x.sources s) (passed_by (first s) at_start) (drop n es)
      whole = ap (items_of (x.sources s)) (sym (take-append-drop n es)) ∙ items-append (x.sources s) at_start (take n es) (drop n es)

      lawful : AreLawful (x.facts s) (items_from (x.sources s) (passed_by (first s) at_start) (drop n es)) state
      lawful =
          (lawful_front (x.facts s) (items_of (x.sources s) (first s)) (items_from (x.sources s) (passed_by (first s) at_start) (drop n es)) (start (x.facts s))
          (subst (λ is. AreLawful (x.facts s) is (start (x.facts s))) whole (sc.lawful s))).1

      there : is_among k (taken_among state.judgements) ≡ true
      there =
          ap (λ js. is_among k (taken_among js)) ((items_add (x.facts s) (items_of (x.sources s) (first s)) (start (x.facts s))).judgements ∙ judged_are (x.sources s) at_start (first s))
          ∙ ap (is_among k) (sym (taken_are (first s))) ∙ taken

  -- how many asks a side has judged on a socket
  abbrev pub judged_now : Bool → SocketId → List JudgedItem
  judged_now s k = judged_on k (judgements_in (first s))

  pub own_judged : (s : Bool) (k : SocketId) → length (judged_now s k) ≤ handed_at (strands_in x) at k
  own_judged s k =
      let asked = subst (λ r. IsAsked (woven_in x) at r (slice_index at (sc.place s))) (strand_is x sc (sc.place s) (of_record s) (sc.there s)) (cut.asked (sc.place s)) in
      let count : total (judged_by k) (take (slice_index at (sc.place s)) (map Noted (x.journals s))) ≡ length (judged_now s k) =
      ap (total (judged_by k)) (taken_map Noted (slice_index at (sc.place s)) (x.journals s)) ∙ judged_count k (first s) in
      omega (arith, asked.judged k, count)

  module _ (j : ℕ) (s : Bool) (t : TrailNow) (log : Log) (there : scene.IsHalfAt x j s t log) where
    abbrev pub many : ℕ
    many = slice_index at j

    known : IsHalfIn x s t log
    known = sc.half j s t log there

    others_none : total (judged_by t.socket) (map Noted (first (not s))) ≡ 0
    others_none =
        judged_count t.socket (first (not s))
        ∙ ap length (empty_front (judged_now (not s) t.socket) (judged_on t.socket (judgements_in (drop (slice_index at (sc.place (not s))) (x.journals (not s)))))
        (sym (judged_parts t.socket (slice_index at (sc.place (not s))) (x.journals (not s))) ∙ cut.alone j s t log there))

    pub judged_so : judged_at (strands_in x) at t.socket ≡ length (judged_now s t.socket)
    judged_so = let all = judged_is x sc at s t.socket in let own = judged_count t.socket (first s) in omega (arith, all, own, others_none)

    woven_to : IsWovenTo (woven_in x) at t many
    woven_to = record {
      asked = subst (λ r. IsAsked (woven_in x) at r many) (strand_is x sc j (of_half s t log) there) (cut.asked j);
      judged = omega (arith, judged_so, own_judged s t.socket, handed_is x sc at j s t log there);
    }

    ordered : IsOrdered t many (judged_at (strands_in x) at t.socket)
    ordered = points (woven_in x) at t many (half_is_tidy t log known.trail known.own) woven_to

    abbrev come_entries : ℕ
    come_entries = length (noted_in (take many (strand_of t).items))

    -- the asks that it was told are those that its side has judged
    pub told : take (judged_at (strands_in x) at t.socket) t.judged ≡ judged_now s t.socket
    told =
        ap (λ l. take (judged_at (strands_in x) at t.socket) l) (known.judged ∙ judged_parts t.socket (slice_index at (sc.place s)) (x.journals s))
        ∙ take_at (judged_now s t.socket) (judged_on t.socket (judgements_in (drop (slice_index at (sc.place s)) (x.journals s)))) (judged_at (strands_in x) at t.socket) (sym judged_so)

    pub got_as : (bytes_after t log come_entries).got ≡ take (total (read_by t.socket) (take many (strand_of t).items)) log.got
    got_as =
        ap (λ es. take (trail.read_by (runs_on t.socket es)) log.got) (sym ordered.entries)
        ∙ ap (λ n. take n log.got) (read_as_noted t.socket (take many (strand_of t).items))

    pub put_as : (bytes_after t log come_entries).put ≡ take (total (written_by t.socket) (take many (strand_of t).items)) log.put
    put_as =
        ap (λ es. take (trail.written_by (runs_on t.socket es)) log.put) (sym ordered.entries)
        ∙ ap (λ n. take n log.put) (written_as_noted t.socket (take many (strand_of t).items))

    pub half_there : IsHalfAt (begins t) (bytes_after t log come_entries) (judged_now s t.socket)
    half_there = subst (IsHalfAt (begins t) (bytes_after t log come_entries)) told (tell t log come_entries (judged_at (strands_in x) at t.socket) known.trail ordered.point)

    -- where its socket was taken by entries that have come, all of it has come
    module _ (taken : IsTakenIn x s t.socket) (same : taken.trail ≡ t) (by_now : is_among t.socket (taken_in (first s)) ≡ true) where
      all_judged : length t.judged ≡ length (judged_now s t.socket)
      all_judged = ap length (known.judged ∙ judged_whole s t.socket by_now)

      last : t.judged_after ≡ taken.taken.earlier ++ length t.entries ∷ []
      last = subst (λ (u : TrailNow). u.judged_after ≡ taken.taken.earlier ++ length u.entries ∷ []) same taken.taken.last

      all_come : length t.entries ≤ come_entries
      all_come =
          let count = length-append taken.taken.earlier (length t.entries ∷ []) in
          let here = ordered.point.asked (length taken.taken.earlier) (omega (arith, judged_so, all_judged, known.trail.many, ap length last, count)) in
          let index = ap (λ l. slice_index l (length taken.taken.earlier)) last ∙ last_index taken.taken.earlier (length t.entries) in
          omega (arith, here, index)

      entries_whole : noted_in (take many (strand_of t).items) ≡ t.entries
      entries_whole = ordered.entries ∙ take_all come_entries t.entries all_come

      pub read_whole : total (read_by t.socket) (take many (strand_of t).items) ≡ trail.read_by (runs_of t)
      read_whole = sym (read_as_noted t.socket (take many (strand_of t).items)) ∙ ap (λ es. trail.read_by (runs_on t.socket es)) entries_whole

      pub written_whole : total (written_by t.socket) (take many (strand_of t).items) ≡ trail.written_by (runs_of t)
      written_whole = sym (written_as_noted t.socket (take many (strand_of t).items)) ∙ ap (λ es. trail.written_by (runs_on t.socket es)) entries_whole

      pub judged_all : t.judged ≡ judged_now s t.socket
      judged_all = known.judged ∙ judged_whole s t.socket by_now
