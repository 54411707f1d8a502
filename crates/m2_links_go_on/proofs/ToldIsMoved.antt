-- Where two sides and the halves beside them tell of all that their ends have got and put, strands have written all that was put,
-- and ends have got all that was read.
use Rattle.std.proofs.Common.{◌≡◌, ℕ, zero, suc, ◌+◌, ◌<◌, ◌≤◌, ◌⊎◌, inl, inr, Bool, true, false, ◌&&◌, ◌||◌, if◌then◌else◌, List, [], ◌∷◌, ◌++◌, length, map, refl, sym, ap, ◌∙◌, subst, arith, Some}
use Rattle.std.specs.Prelude.{slice_index_or}
use Rattle.std.specs.List.{AllByRecursion, IsDistinct}
use Rattle.m2_fabric.specs.declared.socket.SocketId.{SocketId}
use Rattle.m2_fabric.specs.End.{SeenEnd}
use Rattle.m2_fabric.specs.Log.{Log}
use Rattle.m2_fabric.specs.Sockets.{is_among, same_socket}
use Rattle.m2_history.specs.HalfStrands.{strand_of}
use Rattle.m2_history.specs.Link.{IsWholeHalf}
use Rattle.m2_history.specs.Parts.{PartsNow}
use Rattle.m2_history.specs.Woven.{BothNow, BytesNow, EndNow, as_judged, bytes_at, end_of, ends_of, half_end, is_of_link, loose_ends, loose_strands, strands_of, strands_of_side}
use Rattle.m2_weave.specs.m2_journal.declared.entry.Entry.{Entry}
use Rattle.m2_weave.specs.m2_journal.Items.{at_start, runs_on}
use Rattle.m2_history.specs.m2_record.RecordNow.{ids_of}
use Rattle.m2_history.specs.m2_record.Sources.{end_at, log_at, log_of}
use Rattle.m2_history.proofs.m2_trail.Runs.{runs_on-all}
use Rattle.m2_history.specs.m2_trail.Arrivals.{LooseNow}
use Rattle.m2_history.specs.m2_trail.Trails as trail
use Rattle.m2_history.specs.m2_trail.Trails.{TrailNow}
use Rattle.m2_links_go_on.specs.TurnLaws.{ToldIsMoved}
use Rattle.m2_links_go_on.specs.Records.{IsSide}
use Rattle.m2_links_go_on.specs.Sides.{IsHalf, done_on, entries_in, half_on, halves_of, loose_halves, woven_now}
use Rattle.m2_links_go_on.specs.Told.{AreTold, TellsAll}
use Rattle.m2_links_go_on.proofs.HalfReads.{items_count, loose_as, none_there, reads_of_sides}
use Rattle.m2_links_go_on.proofs.Halves.{never_opens}
use Rattle.m2_links_go_on.proofs.Moving.{half_wrote, halves_wrote, none_on, runs_read, runs_written, written_is, wrote_all, wrote_both, wrote_own}
use Rattle.m2_links_go_on.proofs.Records.{clash, own_half, taken_or}
use Rattle.m2_weave.specs.Later.{HasRead, HaveGot, HaveWritten}
use Rattle.m2_weave.specs.declared.strand.StrandItem.TheVariants.{Noted}
use Rattle.m2_weave.specs.Rule.{nothing_at_all}
use Rattle.m2_weave.specs.Strands.{StrandNow, begun_at, has_opened, journal_of, read_by, read_by_halves, same_side, total, written_at, written_by, written_in}
use Rattle.m2_history.specs.WovenLink.{same_end, sources_in}
use Rattle.m2_history.proofs.Bytes.{IsOf, end_there, of_left, of_right, same_side_refl, same_side_turned}
use Rattle.m2_history.proofs.Journals.{opened_unjudged}
use Rattle.m2_history.proofs.Moved.{unjudged_untaken}
use Rattle.m2_fabric.proofs.m2_lemmas.Lists.{all_append, all_front, all_back}
use Rattle.m2_fabric.proofs.Sockets.{same_equal, same_refl}

abbrev none_at_all : BytesNow
none_at_all = record { got = []; put = [] }

abbrev bytes_of_log : Log → BytesNow
bytes_of_log l = record { got = l.got; put = l.put }

abbrev bytes_in : List SeenEnd → SocketId → BytesNow
bytes_in ends k = bytes_of_log (log_at ends k)

-- ---- a socket that a side has opened it hasn't taken

untaken : (p : PartsNow) → IsSide p → (k : SocketId) → has_opened (journal_of p.journal) k ≡ true → is_among k (map (λ (t : TrailNow). t.socket) p.trails) ≡ false
untaken p side k opened =
    ap (is_among k) side.2.trails.sockets ∙ unjudged_untaken k p.journal (opened_unjudged side.0 (sources_in side.1 p) p.journal at_start k side.2.lawful opened)

not-opened : (p : PartsNow) → IsSide p → (k : SocketId) → is_among k (map (λ (t : TrailNow). t.socket) p.trails) ≡ true → has_opened (journal_of p.journal) k ≡ false
not-opened p side k taken = at (has_opened (journal_of p.journal) k) refl
  where
    at : (b : Bool) → has_opened (journal_of p.journal) k ≡ b → has_opened (journal_of p.journal) k ≡ false
    at true is = clash (is_among k (map (λ (t : TrailNow). t.socket) p.trails)) taken (untaken p side k is)
    at false is = is

-- ---- what is put

-- an end among others
either-end : (k : SocketId) (o : Bool) (xs ys : List EndNow) → (bytes_at k o (xs ++ ys) ≡ bytes_at k o xs) ⊎ (bytes_at k o (xs ++ ys) ≡ bytes_at k o ys)
either-end k o [] ys = inr refl
either-end k o (x ∷ xs) ys = at (same_socket k x.socket && same_side o x.opener) (either-end k o xs ys)
  where
    at : (b : Bool) → (bytes_at k o (xs ++ ys) ≡ bytes_at k o xs) ⊎ (bytes_at k o (xs ++ ys) ≡ bytes_at k o ys) →
        ((if b then record { got = x.got; put = x.put } else bytes_at k o (xs ++ ys)) ≡ (if b then record { got = x.got; put = x.put } else bytes_at k o xs))
        ⊎ ((if b then record { got = x.got; put = x.put } else bytes_at k o (xs ++ ys)) ≡ bytes_at k o ys)
    at true rest = inl refl
    at false rest = rest

side-bytes : (k : SocketId) (o : Bool) (js : List Entry) (ends : List SeenEnd) →
    bytes_at k o (map (end_of js) ends) ≡ (if same_side o (has_opened (journal_of js) k) then bytes_in ends k else none_at_all)
side-bytes k o js [] = none (same_side o (has_opened (journal_of js) k))
  where
    none : (b : Bool) → none_at_all ≡ (if b then none_at_all else none_at_all)
    none true = refl
    none false = refl
side-bytes k o js (e ∷ ends) = at (same_socket k e.id) refl (side-bytes k o js ends)
  where
    choose : (b : Bool) (mine rest : BytesNow) → rest ≡ (if b then bytes_in ends k else none_at_all) → (if b then mine else rest) ≡ (if b then mine else none_at_all)
    choose true mine rest h = refl
    choose false mine rest h = h

    at : (b : Bool) → same_socket k e.id ≡ b → bytes_at k o (map (end_of js) ends) ≡ (if same_side o (has_opened (journal_of js) k) then bytes_in ends k else none_at_all) →
        (if same_socket k e.id && same_side o (has_opened (journal_of js) e.id) then record { got = e.log.got; put = e.log.put } else bytes_at k o (map (end_of js) ends))
        ≡ (if same_side o (has_opened (journal_of js) k) then bytes_in (e ∷ ends) k else none_at_all)
    at true same rest =
        let mine : BytesNow = record { got = e.log.got; put = e.log.put } in
        let its : bytes_in (e ∷ ends) k ≡ mine = ap (λ b. bytes_of_log (log_of (if b then Some e else end_at ends k))) same in
        ap (λ b. if b && same_side o (has_opened (journal_of js) e.id) then mine else bytes_at k o (map (end_of js) ends)) same
        ∙ ap (λ x. if same_side o (has_opened (journal_of js) x) then mine else bytes_at k o (map (end_of js) ends)) (sym (same_equal k e.id same))
        ∙ choose (same_side o (has_opened (journal_of js) k)) mine (bytes_at k o (map (end_of js) ends)) rest
        ∙ ap (λ x. if same_side o (has_opened (journal_of js) k) then x else none_at_all) (sym its)
    at false differ rest =
        let its : bytes_in (e ∷ ends) k ≡ bytes_in ends k = ap (λ b. bytes_of_log (log_of (if b then Some e else end_at ends k))) differ in
        ap (λ b. if b && same_side o (has_opened (journal_of js) e.id) then record { got = e.log.got; put = e.log.put } else bytes_at k o (map (end_of js) ends)) differ
        ∙ rest ∙ ap (λ x. if same_side o (has_opened (journal_of js) k) then x else none_at_all) (sym its)

-- a side's strands have written what its end has put
side-wrote : (p : PartsNow) → TellsAll p → IsSide p → AllByRecursion IsHalf p.trails → (k : SocketId) (o : Bool) →
    length (bytes_at k o (map (end_of p.journal) p.ends)).put ≤ wrote_all (record { socket = k; opener = o }) (strands_of_side p.journal p.trails)
side-wrote p tells side halves k o = by_kind o (has_opened (journal_of p.journal) k) refl
  where
    by_kind : (o b : Bool) → has_opened (journal_of p.journal) k ≡ b → length (bytes_at k o (map (end_of p.journal) p.ends)).put ≤ wrote_all (record { socket = k; opener = o }) (strands_of_side p.journal p.trails)
    by_kind true true is =
        let bytes : bytes_at k true (map (end_of p.journal) p.ends) ≡ bytes_in p.ends k =
        side-bytes k true p.journal p.ends ∙ ap (λ b. if same_side true b then bytes_in p.ends k else none_at_all) is in
        let own = wrote_own (record { socket = k; opener = true }) (journal_of p.journal) (ap (λ b. same_side b true) is) in
        let no_half : total (written_by k) (map Noted (done_on k p.trails)) ≡ 0 =
        ap (λ o. total (written_by k) (map Noted (entries_in o))) (none_on k p.trails (untaken p side k is)) in
        omega (arith, ap (λ (b : BytesNow). length b.put) bytes, own, no_half, tells.put k)
    by_kind false false is =
        let bytes : bytes_at k false (map (end_of p.journal) p.ends) ≡ bytes_in p.ends k =
        side-bytes k false p.journal p.ends ∙ ap (λ b. if same_side false b then bytes_in p.ends k else none_at_all) is in
        let own = wrote_own (record { socket = k; opener = false }) (journal_of p.journal) (ap (λ b. same_side b false) is) in
        omega (arith, ap (λ (b : BytesNow). length b.put) bytes, own, halves_wrote k p.trails halves, tells.put k)
    by_kind true false is =
        let bytes : bytes_at k true (map (end_of p.journal) p.ends) ≡ none_at_all =
        side-bytes k true p.journal p.ends ∙ ap (λ b. if same_side true b then bytes_in p.ends k else none_at_all) is in
        omega (arith, ap (λ (b : BytesNow). length b.put) bytes)
    by_kind false true is =
        let bytes : bytes_at k false (map (end_of p.journal) p.ends) ≡ none_at_all =
        side-bytes k false p.journal p.ends ∙ ap (λ b. if same_side false b then bytes_in p.ends k else none_at_all) is in
        omega (arith, ap (λ (b : BytesNow). length b.put) bytes)

-- ---- a loose half

abbrev loose_one : (a b : List Entry) → LooseNow → TrailNow
loose_one a b l = as_judged a b l.trail

loose-put : (a b : List Entry) (l : LooseNow) → IsWholeHalf l → IsHalf (loose_one a b l) → (k : SocketId) → k ≡ l.end.id →
    total (written_in (record { socket = k; opener = false }) (strand_of (loose_one a b l))) (strand_of (loose_one a b l)).items ≡ length l.end.log.put
loose-put a b l whole half k same =
    let here : k ≡ l.trail.socket = same ∙ sym whole.socket in
    half_wrote k (loose_one a b l) half
    ∙ ap (λ x. total (written_by x) (map Noted l.trail.entries)) here
    ∙ sym (runs_written l.trail.socket l.trail.entries)
    ∙ ap (λ es. trail.written_by (runs_on l.trail.socket es)) whole.entries
    ∙ ap trail.written_by (runs_on-all l.trail.socket l.end.log) ∙ sym whole.counted.put

loose-got : (a b : List Entry) (l : LooseNow) → IsWholeHalf l → (k : SocketId) → k ≡ l.trail.socket →
    total (read_by k) (strand_of (loose_one a b l)).items ≡ length l.end.log.got
loose-got a b l whole k here =
    items_count (read_by k) l.trail.socket refl (loose_one a b l).judged_after 0 l.trail.entries
    ∙ ap (λ x. total (read_by x) (map Noted l.trail.entries)) here
    ∙ sym (runs_read l.trail.socket l.trail.entries)
    ∙ ap (λ es. trail.read_by (runs_on l.trail.socket es)) whole.entries
    ∙ ap trail.read_by (runs_on-all l.trail.socket l.end.log) ∙ sym whole.counted.got

loose-wrote : (a b : List Entry) (ls : List LooseNow) → AllByRecursion IsWholeHalf ls → AllByRecursion IsHalf (loose_halves a b ls) → (k : SocketId) (o : Bool) →
    length (bytes_at k o (loose_ends a b ls)).put ≤ wrote_all (record { socket = k; opener = o }) (map strand_of (loose_halves a b ls))
loose-wrote a b [] whole halves k o = omega arith
loose-wrote a b (l ∷ ls) whole halves k o = by_link (is_of_link a b l) halves (loose-wrote a b ls whole.1)
  where
    by_link : (c : Bool) → AllByRecursion IsHalf ((if c then loose_one a b l ∷ [] else []) ++ loose_halves a b ls) →
        (AllByRecursion IsHalf (loose_halves a b ls) → (k : SocketId) (o : Bool) → length (bytes_at k o (loose_ends a b ls)).put ≤ wrote_all (record { socket = k; opener = o }) (map strand_of (loose_halves a b ls))) →
        length (bytes_at k o ((if c then half_end l ∷ [] else []) ++ loose_ends a b ls)).put
        ≤ wrote_all (record { socket = k; opener = o }) (map strand_of ((if c then loose_one a b l ∷ [] else []) ++ loose_halves a b ls))
    by_link false halves rest = rest halves k o
    by_link true halves rest = by_end o (same_socket k l.end.id) refl (rest halves.1 k o)
      where
        by_end : (o same : Bool) → same_socket k l.end.id ≡ same → length (bytes_at k o (loose_ends a b ls)).put ≤ wrote_all (record { socket = k; opener = o }) (map strand_of (loose_halves a b ls)) →
            length (bytes_at k o (half_end l ∷ loose_ends a b ls)).put ≤ wrote_all (record { socket = k; opener = o }) (strand_of (loose_one a b l) ∷ map strand_of (loose_halves a b ls))
        by_end false true same rest =
            let bytes : bytes_at k false (half_end l ∷ loose_ends a b ls) ≡ record { got = l.end.log.got; put = l.end.log.put } =
            ap (λ c. if c && true then record { got = l.end.log.got; put = l.end.log.put } else bytes_at k false (loose_ends a b ls)) same in
            omega (arith, ap (λ (b : BytesNow). length b.put) bytes, loose-put a b l whole.0 halves.0 k (same_equal k l.end.id same))
        by_end o false differ rest =
            let bytes : bytes_at k o (half_end l ∷ loose_ends a b ls) ≡ bytes_at k o (loose_ends a b ls) =
            ap (λ c. if c && same_side o false then record { got = l.end.log.got; put = l.end.log.put } else bytes_at k o (loose_ends a b ls)) differ in
            omega (arith, ap (λ (b : BytesNow). length b.put) bytes, rest)
        by_end true true same rest =
            let bytes : bytes_at k true (half_end l ∷ loose_ends a b ls) ≡ bytes_at k true (loose_ends a b ls) =
            ap (λ c. if c && false then record { got = l.end.log.got; put = l.end.log.put } else bytes_at k true (loose_ends a b ls)) same in
            omega (arith, ap (λ (b : BytesNow). length b.put) bytes, rest)

-- ---- an end found

all-at-end : (P : EndNow → Type 0) (e : EndNow) (es : List EndNow) → AllByRecursion P es → IsOf e es → P e
all-at-end P e [] all h = absurd h
all-at-end P e (x ∷ es) all (inl q) = subst P q all.0
all-at-end P e (x ∷ es) all (inr h) = all-at-end P e es all.1 h

found-end : (e : EndNow) (es : List EndNow) → IsDistinct same_end es → IsOf e es → bytes_at e.socket e.opener es ≡ record { got = e.got; put = e.put }
unfolding IsDistinct
found-end e [] d h = absurd h
found-end e (x ∷ es) d (inl q) =
    let here : same_end e x ≡ true = ap (same_end e) q ∙ ap (λ b. b && same_side e.opener e.opener) (same_refl e.socket) ∙ same_side_refl e.opener in
    ap (λ b. if b then record { got = x.got; put = x.put } else bytes_at e.socket e.opener es) here ∙ ap (λ (y : EndNow). record { got = y.got; put = y.put }) q
found-end e (x ∷ es) d (inr h) =
    let apart : same_end x e ≡ false = all-at-end (λ y. same_end x y ≡ false) e es d.0 h in
    ap (λ b. if b then record { got = x.got; put = x.put } else bytes_at e.socket e.opener es) (other-way e x apart) ∙ found-end e es d.1 h
  where
    other-way : (e x : EndNow) → same_end x e ≡ false → same_end e x ≡ false
    other-way e x apart = at (same_socket e.socket x.socket) refl
      where
        at : (b : Bool) → same_socket e.socket x.socket ≡ b → same_end e x ≡ false
        at false is = ap (λ b. b && same_side e.opener x.opener) is
        at true is =
            let turned : same_socket x.socket e.socket ≡ true = subst (λ y. same_socket x.socket y ≡ true) (sym (same_equal e.socket x.socket is)) (same_refl x.socket) in
            ap (λ b. b && same_side e.opener x.opener) is ∙ same_side_turned e.opener x.opener ∙ sym (ap (λ b. b && same_side x.opener e.opener) turned) ∙ apart

some-end : (k : SocketId) (ends : List SeenEnd) → 0 < length (log_at ends k).got → is_among k (ids_of ends) ≡ true
some-end k [] h = absurd (omega (arith, h))
some-end k (e ∷ ends) h = at (same_socket k e.id) refl (some-end k ends)
  where
    at : (b : Bool) → same_socket k e.id ≡ b → (0 < length (log_at ends k).got → is_among k (ids_of ends) ≡ true) → (same_socket k e.id || is_among k (ids_of ends)) ≡ true
    at true same rest = ap (λ b. b || is_among k (ids_of ends)) same
    at false differ rest =
        let its : log_at (e ∷ ends) k ≡ log_at ends k = ap (λ b. log_of (if b then Some e else end_at ends k)) differ in
        ap (λ b. b || is_among k (ids_of ends)) differ ∙ rest (subst (λ l. 0 < length l.got) its h)

-- ---- parts of a list of which no two are the same

all-first : (P : SocketId → Type 0) (ts us : List TrailNow) → AllByRecursion P (map (λ (t : TrailNow). t.socket) (ts ++ us)) → AllByRecursion P (map (λ (t : TrailNow). t.socket) ts)
all-first P [] us all = tt
all-first P (t ∷ ts) us all = (all.0, all-first P ts us all.1)

distinct-first : (ts us : List TrailNow) → IsDistinct same_socket (map (λ (t : TrailNow). t.socket) (ts ++ us)) → IsDistinct same_socket (map (λ (t : TrailNow). t.socket) ts)
unfolding IsDistinct
distinct-first [] us d = tt
distinct-first (t ∷ ts) us d = (all-first (λ k. same_socket t.socket k ≡ false) ts us d.0, distinct-first ts us d.1)

distinct-last : (ts us : List TrailNow) → IsDistinct same_socket (map (λ (t : TrailNow). t.socket) (ts ++ us)) → IsDistinct same_socket (map (λ (t : TrailNow). t.socket) us)
unfolding IsDistinct
distinct-last [] us d = d
distinct-last (t ∷ ts) us d = distinct-last ts us d.1

-- ---- what is read

module _ (x : BothNow) (told : AreTold x) where
  abbrev all_ends : List EndNow
  all_ends = ends_of x

  -- of one side
  module _ (p : PartsNow) (tells : TellsAll p) (side : IsSide p) (among : (e : EndNow) → IsOf e (map (end_of p.journal) p.ends) → IsOf e all_ends)
      (halves : AllByRecursion (λ (t : TrailNow). half_on t.socket (halves_of x) ≡ Some t) p.trails) (own : AllByRecursion (λ (t : TrailNow). half_on t.socket p.trails ≡ Some t) p.trails)
      (each : AllByRecursion IsHalf p.trails) where
    got-there : (k : SocketId) → is_among k (ids_of p.ends) ≡ true → (bytes_at k (has_opened (journal_of p.journal) k) all_ends).got ≡ (log_at p.ends k).got
    got-there k there =
        let end = end_there p.journal p.ends k there in
        let bytes = found-end end.end all_ends told.apart (among end.end end.there) in
        ap (λ y. (bytes_at y (has_opened (journal_of p.journal) k) all_ends).got) (sym end.socket)
        ∙ ap (λ o. (bytes_at end.end.socket o all_ends).got) (sym end.opener) ∙ ap (λ (b : BytesNow). b.got) bytes ∙ end.got

    done-there : (k : SocketId) (ts : List TrailNow) → AllByRecursion (λ (t : TrailNow). half_on t.socket (halves_of x) ≡ Some t) ts →
        AllByRecursion (λ (t : TrailNow). half_on t.socket p.trails ≡ Some t) ts → is_among k (map (λ (t : TrailNow). t.socket) ts) ≡ true → done_on k (halves_of x) ≡ done_on k p.trails
    done-there k [] all mine h = absurd cc
    done-there k (t ∷ ts) all mine h = at (same_socket k t.socket) refl h (done-there k ts all.1 mine.1)
      where
        at : (b : Bool) → same_socket k t.socket ≡ b → (b || is_among k (map (λ (t : TrailNow). t.socket) ts)) ≡ true →
            (is_among k (map (λ (t : TrailNow). t.socket) ts) ≡ true → done_on k (halves_of x) ≡ done_on k p.trails) → done_on k (halves_of x) ≡ done_on k p.trails
        at true same h later = subst (λ y. done_on y (halves_of x) ≡ done_on y p.trails) (sym (same_equal k t.socket same)) (ap entries_in all.0 ∙ sym (ap entries_in mine.0))
        at false differ h later = later h

    journal-got : (k : SocketId) → HasRead (journal_of p.journal) k →
        begun_at (strands_of x) (journal_of p.journal) k + total (read_by k) (map Noted p.journal) ≤ length (bytes_at k (has_opened (journal_of p.journal) k) all_ends).got
    journal-got k read =
        let some : 0 < length (log_at p.ends k).got = omega (arith, tells.got k, read) in
        let got = ap length (got-there k (some-end k p.ends some)) in
        by_kind got (has_opened (journal_of p.journal) k) refl
      where
        by_kind : length (bytes_at k (has_opened (journal_of p.journal) k) all_ends).got ≡ length (log_at p.ends k).got → (b : Bool) → has_opened (journal_of p.journal) k ≡ b →
            begun_at (strands_of x) (journal_of p.journal) k + total (read_by k) (map Noted p.journal) ≤ length (bytes_at k (has_opened (journal_of p.journal) k) all_ends).got
        by_kind got true is =
            let begun : begun_at (strands_of x) (journal_of p.journal) k ≡ 0 = ap (λ b. if b then 0 else read_by_halves (strands_of x) k) is in
            omega (arith, begun, got, tells.got k)
        by_kind got false is =
            let taken : is_among k (map (λ (t : TrailNow). t.socket) p.trails) ≡ true = ap (is_among k) side.2.trails.sockets ∙ taken_or p side k (inl read) is in
            let begun : begun_at (strands_of x) (journal_of p.journal) k ≡ read_by_halves (strands_of x) k = ap (λ b. if b then 0 else read_by_halves (strands_of x) k) is in
            let halves_read : read_by_halves (strands_of x) k ≡ total (read_by k) (map Noted (done_on k p.trails)) =
            reads_of_sides x k told.halves ∙ ap (λ es. total (read_by k) (map Noted es)) (done-there k p.trails halves own taken) in
            omega (arith, begun, halves_read, got, tells.got k)

    -- a half that it took
    half-got : (t : TrailNow) → half_on t.socket p.trails ≡ Some t → is_among t.socket (map (λ (t : TrailNow). t.socket) p.trails) ≡ true → IsHalf t → (k : SocketId) → HasRead (strand_of t) k →
        0 + total (read_by k) (strand_of t).items ≤ length (bytes_at k (has_opened (strand_of t) k) all_ends).got
    half-got t own among half k read = by_socket (same_socket k t.socket) refl
      where
        by_socket : (b : Bool) → same_socket k t.socket ≡ b → 0 + total (read_by k) (strand_of t).items ≤ length (bytes_at k (has_opened (strand_of t) k) all_ends).got
        by_socket false differ = absurd (omega (arith, read, items_count (read_by k) t.socket refl t.judged_after 0 t.entries, none_there k t.socket t.entries differ half.entries))
        by_socket true same =
            let here : k ≡ t.socket = same_equal k t.socket same in
            let count = items_count (read_by k) t.socket refl t.judged_after 0 t.entries in
            let done : total (read_by k) (map Noted (done_on k p.trails)) ≡ total (read_by k) (map Noted t.entries) =
            ap (λ y. total (read_by k) (map Noted (done_on y p.trails))) here ∙ ap (λ o. total (read_by k) (map Noted (entries_in o))) own in
            let taken : is_among k (map (λ (t : TrailNow). t.socket) p.trails) ≡ true = ap (λ y. is_among y (map (λ (t : TrailNow). t.socket) p.trails)) here ∙ among in
            let opener : has_opened (strand_of t) k ≡ has_opened (journal_of p.journal) k = never_opens t k half ∙ sym (not-opened p side k taken) in
            let some : 0 < length (log_at p.ends k).got = omega (arith, tells.got k, done, count, read) in
            let got : length (bytes_at k (has_opened (strand_of t) k) all_ends).got ≡ length (log_at p.ends k).got =
            ap (λ o. length (bytes_at k o all_ends).got) opener ∙ ap length (got-there k (some-end k p.ends some)) in
            omega (arith, got, count, done, tells.got k)

    -- what is said of a strand
    abbrev Got : StrandNow → Type 0
    Got s = (k : SocketId) → HasRead s k → begun_at (strands_of x) s k + total (read_by k) s.items ≤ length (bytes_at k (has_opened s k) all_ends).got

    halves-got : (ts : List TrailNow) → AllByRecursion (λ (t : TrailNow). half_on t.socket p.trails ≡ Some t) ts → AllByRecursion IsHalf ts →
        AllByRecursion (λ (t : TrailNow). is_among t.socket (map (λ (t : TrailNow). t.socket) p.trails) ≡ true) ts → AllByRecursion Got (map strand_of ts)
    halves-got [] own each among = tt
    halves-got (t ∷ ts) own each among = (half-got t own.0 among.0 each.0, halves-got ts own.1 each.1 among.1)

    self-among : (k : SocketId) (ts : List TrailNow) (t : TrailNow) → half_on k ts ≡ Some t → is_among k (map (λ (t : TrailNow). t.socket) ts) ≡ true
    self-among k ts t e = at (is_among k (map (λ (t : TrailNow). t.socket) ts)) refl
      where
        at : (b : Bool) → is_among k (map (λ (t : TrailNow). t.socket) ts) ≡ b → is_among k (map (λ (t : TrailNow). t.socket) ts) ≡ true
        at true is = is
        at false is = let none = none_on k ts is in absurd cc

    all-among : (ts : List TrailNow) → AllByRecursion (λ (t : TrailNow). half_on t.socket p.trails ≡ Some t) ts →
        AllByRecursion (λ (t : TrailNow). is_among t.socket (map (λ (t : TrailNow). t.socket) p.trails) ≡ true) ts
    all-among [] own = tt
    all-among (t ∷ ts) own = (self-among t.socket p.trails t own.0, all-among ts own.1)

    side_got : AllByRecursion Got (strands_of_side p.journal p.trails)
    side_got = (journal-got, halves-got p.trails own each (all-among p.trails own))

  abbrev IsGot : StrandNow → Type 0
  IsGot s = (k : SocketId) → HasRead s k → begun_at (strands_of x) s k + total (read_by k) s.items ≤ length (bytes_at k (has_opened s k) all_ends).got

  loose-half-got : (a b : List Entry) (l : LooseNow) → IsWholeHalf l → IsHalf (loose_one a b l) → IsOf (half_end l) all_ends → IsGot (strand_of (loose_one a b l))
  loose-half-got a b l whole half there k read = by_socket (same_socket k l.trail.socket) refl
    where
      by_socket : (c : Bool) → same_socket k l.trail.socket ≡ c → 0 + total (read_by k) (strand_of (loose_one a b l)).items ≤ length (bytes_at k (has_opened (strand_of (loose_one a b l)) k) all_ends).got
      by_socket false differ =
          absurd (omega (arith, read, items_count (read_by k) l.trail.socket refl (loose_one a b l).judged_after 0 l.trail.entries, none_there k l.trail.socket l.trail.entries differ half.entries))
      by_socket true same =
          let here : k ≡ l.trail.socket = same_equal k l.trail.socket same in
          let bytes : (bytes_at k (has_opened (strand_of (loose_one a b l)) k) all_ends).got ≡ l.end.log.got =
          ap (λ o. (bytes_at k o all_ends).got) (never_opens (loose_one a b l) k half) ∙ ap (λ y. (bytes_at y false all_ends).got) (here ∙ whole.socket)
          ∙ ap (λ (b : BytesNow). b.got) (found-end (half_end l) all_ends told.apart there) in
          omega (arith, ap length bytes, loose-got a b l whole k here)

  loose-all-got : (a b : List Entry) (ls : List LooseNow) → AllByRecursion IsWholeHalf ls → AllByRecursion IsHalf (loose_halves a b ls) →
      ((e : EndNow) → IsOf e (loose_ends a b ls) → IsOf e all_ends) → AllByRecursion IsGot (map strand_of (loose_halves a b ls))
  loose-all-got a b [] whole halves among = tt
  loose-all-got a b (l ∷ ls) whole halves among = by_link (is_of_link a b l) halves among (loose-all-got a b ls whole.1)
    where
      by_link : (c : Bool) → AllByRecursion IsHalf ((if c then loose_one a b l ∷ [] else []) ++ loose_halves a b ls) →
          ((e : EndNow) → IsOf e ((if c then half_end l ∷ [] else []) ++ loose_ends a b ls) → IsOf e all_ends) →
          (AllByRecursion IsHalf (loose_halves a b ls) → ((e : EndNow) → IsOf e (loose_ends a b ls) → IsOf e all_ends) → AllByRecursion IsGot (map strand_of (loose_halves a b ls))) →
          AllByRecursion IsGot (map strand_of ((if c then loose_one a b l ∷ [] else []) ++ loose_halves a b ls))
      by_link true halves among rest = (
        loose-half-got a b l whole.0 halves.0 (among (half_end l) (inl refl)),
        rest halves.1 (λ e h. among e (inr h)),
      )
      by_link false halves among rest = rest halves among

  -- ---- both sides

  abbrev loose_of : List TrailNow
  loose_of = loose_halves x.a.journal x.b.journal x.loose

  own-all : AllByRecursion (λ (t : TrailNow). half_on t.socket (halves_of x) ≡ Some t) (halves_of x)
  own-all = own_half (halves_of x) told.halves.apart

  abbrev near_ends : List EndNow
  near_ends = map (end_of x.a.journal) x.a.ends

  abbrev far_ends : List EndNow
  far_ends = map (end_of x.b.journal) x.b.ends

  abbrev loose_ones : List EndNow
  loose_ones = loose_ends x.a.journal x.b.journal x.loose

  abbrev Own : TrailNow → Type 0
  Own t = half_on t.socket (halves_of x) ≡ Some t

  taken-own : AllByRecursion Own (x.a.trails ++ x.b.trails)
  taken-own = all_front Own (x.a.trails ++ x.b.trails) loose_of own-all

  taken-halves : AllByRecursion IsHalf (x.a.trails ++ x.b.trails)
  taken-halves = all_front IsHalf (x.a.trails ++ x.b.trails) loose_of told.halves.each

  loose-is : AllByRecursion IsHalf loose_of
  loose-is = all_back IsHalf (x.a.trails ++ x.b.trails) loose_of told.halves.each

  apart-taken : IsDistinct same_socket (map (λ (t : TrailNow). t.socket) (x.a.trails ++ x.b.trails))
  apart-taken = distinct-first (x.a.trails ++ x.b.trails) loose_of told.halves.apart

  near-got : AllByRecursion IsGot (strands_of_side x.a.journal x.a.trails)
  near-got =
      side_got x.a told.near told.near_side (λ e h. of_left e (near_ends ++ far_ends) loose_ones (of_left e near_ends far_ends h))
      (all_front Own x.a.trails x.b.trails taken-own) (own_half x.a.trails (distinct-first x.a.trails x.b.trails apart-taken)) (all_front IsHalf x.a.trails x.b.trails taken-halves)

  far-got : AllByRecursion IsGot (strands_of_side x.b.journal x.b.trails)
  far-got =
      side_got x.b told.far told.far_side (λ e h. of_left e (near_ends ++ far_ends) loose_ones (of_right e near_ends far_ends h))
      (all_back Own x.a.trails x.b.trails taken-own) (own_half x.b.trails (distinct-last x.a.trails x.b.trails apart-taken)) (all_back IsHalf x.a.trails x.b.trails taken-halves)

  all-got : AllByRecursion IsGot (strands_of x)
  all-got =
      all_append IsGot (strands_of_side x.a.journal x.a.trails ++ strands_of_side x.b.journal x.b.trails) (loose_strands x.a.journal x.b.journal x.loose)
      (all_append IsGot (strands_of_side x.a.journal x.a.trails) (strands_of_side x.b.journal x.b.trails) near-got far-got)
      (subst (AllByRecursion IsGot) (sym (loose_as x.a.journal x.b.journal x.loose))
      (loose-all-got x.a.journal x.b.journal x.loose told.whole loose-is (λ e h. of_right e (near_ends ++ far_ends) loose_ones h)))

  strand-got : (ss : List StrandNow) (j : ℕ) → AllByRecursion IsGot ss → IsGot (slice_index_or ss j nothing_at_all)
  strand-got [] j all k read = absurd (omega (arith, read))
  strand-got (s ∷ ss) zero all k read = all.0 k read
  strand-got (s ∷ ss) (suc j) all k read = strand-got ss j all.1 k read

  pub have_got : HaveGot (woven_now x)
  have_got j k read = strand-got (strands_of x) j all-got k read

  pub have_written : HaveWritten (woven_now x)
  have_written e =
      let near_strands = strands_of_side x.a.journal x.a.trails in
      let far_strands = strands_of_side x.b.journal x.b.trails in
      let near = side-wrote x.a told.near told.near_side (all_front IsHalf x.a.trails x.b.trails taken-halves) e.socket e.opener in
      let far = side-wrote x.b told.far told.far_side (all_back IsHalf x.a.trails x.b.trails taken-halves) e.socket e.opener in
      let loose = loose-wrote x.a.journal x.b.journal x.loose told.whole loose-is e.socket e.opener in
      let sums = wrote_both e (near_strands ++ far_strands) (loose_strands x.a.journal x.b.journal x.loose) in
      let taken = wrote_both e near_strands far_strands in
      let loose_sum = ap (wrote_all e) (loose_as x.a.journal x.b.journal x.loose) in
      by_ends (written_is e (strands_of x)) sums taken loose_sum near far loose (either-end e.socket e.opener (near_ends ++ far_ends) loose_ones) (either-end e.socket e.opener near_ends far_ends)
    where
      by_ends : written_at (strands_of x) (map (λ (s : StrandNow). length s.items) (strands_of x)) e ≡ wrote_all e (strands_of x) →
          wrote_all e (strands_of x) ≡ wrote_all e (strands_of_side x.a.journal x.a.trails ++ strands_of_side x.b.journal x.b.trails) + wrote_all e (loose_strands x.a.journal x.b.journal x.loose) →
          wrote_all e (strands_of_side x.a.journal x.a.trails ++ strands_of_side x.b.journal x.b.trails) ≡ wrote_all e (strands_of_side x.a.journal x.a.trails) + wrote_all e (strands_of_side x.b.journal x.b.trails) →
          wrote_all e (loose_strands x.a.journal x.b.journal x.loose) ≡ wrote_all e (map strand_of loose_of) →
          length (bytes_at e.socket e.opener near_ends).put ≤ wrote_all e (strands_of_side x.a.journal x.a.trails) →
          length (bytes_at e.socket e.opener far_ends).put ≤ wrote_all e (strands_of_side x.b.journal x.b.trails) →
          length (bytes_at e.socket e.opener loose_ones).put ≤ wrote_all e (map strand_of loose_of) →
          (bytes_at e.socket e.opener all_ends ≡ bytes_at e.socket e.opener (near_ends ++ far_ends)) ⊎ (bytes_at e.socket e.opener all_ends ≡ bytes_at e.socket e.opener loose_ones) →
          (bytes_at e.socket e.opener (near_ends ++ far_ends) ≡ bytes_at e.socket e.opener near_ends) ⊎ (bytes_at e.socket e.opener (near_ends ++ far_ends) ≡ bytes_at e.socket e.opener far_ends) →
          length (bytes_at e.socket e.opener all_ends).put ≤ written_at (strands_of x) (map (λ (s : StrandNow). length s.items) (strands_of x)) e
      by_ends all sums taken loose_sum near far loose (inr q) r = omega (arith, all, sums, taken, loose_sum, loose, ap (λ (b : BytesNow). length b.put) q)
      by_ends all sums taken loose_sum near far loose (inl q) (inl r) = omega (arith, all, sums, taken, loose_sum, near, ap (λ (b : BytesNow). length b.put) q, ap (λ (b : BytesNow). length b.put) r)
      by_ends all sums taken loose_sum near far loose (inl q) (inr r) = omega (arith, all, sums, taken, loose_sum, far, ap (λ (b : BytesNow). length b.put) q, ap (λ (b : BytesNow). length b.put) r)

pub told_is_moved : ToldIsMoved
told_is_moved x told = record { got = have_got x told; written = have_written x told }
