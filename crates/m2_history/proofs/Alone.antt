-- On the socket of a half its side alone judges: neither side opened a socket on which both judged, so nothing was read there, and a
-- half that has read nothing is asked nothing.
use Rattle.std.proofs.Common.{◌≡◌, ℕ, zero, suc, ◌+◌, ◌-◌, max, ◌<◌, ◌≤◌, ◌⊎◌, inl, inr, Bool, true, false, not, if◌then◌else◌, List, [], ◌∷◌, ◌++◌, length, map, take, drop, refl, sym, ap, ◌∙◌, subst, arith, take_all}
use Rattle.std.specs.Prelude.{nat_lt, slice_get, slice_index}
use Rattle.std.proofs.lemmas.List.{take-append-drop}
use Rattle.std.proofs.lemmas.List.Elements.{filter_map-append}
use Rattle.std.proofs.lemmas.Option.{slice_get-get_or}
use Rattle.m2_fabric.specs.declared.socket.SocketId.{SocketId}
use Rattle.m2_fabric.specs.Log.{Log}
use Rattle.m2_journal.specs.m2_session.declared.ask.AskFacts.{AskFacts}
use Rattle.m2_bytes_fit.specs.Halves.{KeepsRanges}
use Rattle.m2_bytes_fit.proofs.Acceptors.{as_asked, HasWelcomed, IsAsked as IsAskedSo, accepts}
use Rattle.m2_bytes_fit.proofs.Lists.{not_nil}
use Rattle.m2_bytes_fit.proofs.Points.{no_map}
use Rattle.m2_journal.specs.m2_handshake.Course.{Exchange, Reaches}
use Rattle.m2_journal.specs.m2_handshake.Greeting.{greeting}
use Rattle.m2_journal.specs.m2_handshake.Standing.{Standing}
use Rattle.m2_history.specs.HalfStrands.{strand_of}
use Rattle.m2_journal.specs.declared.entry.Entry.{Entry}
use Rattle.m2_journal.specs.declared.entry.JudgedItem.{JudgedItem}
use Rattle.m2_journal.specs.Items.{at_start, run_of, runs_on}
use Rattle.m2_journal.specs.Lawful.{judged_on}
use Rattle.m2_journal.specs.SideFacts.{SideFacts}
use Rattle.m2_weave.specs.Order.{Cut}
use Rattle.m2_channel.specs.m2_never_reset.Frames.{ask_of}
use Rattle.m2_record.specs.TakenTrails.{judgements_in}
use Rattle.m2_trail.specs.Asks.{facts_of_ask}
use Rattle.m2_trail.specs.Trails as trail
use Rattle.m2_trail.specs.Trails.{TrailNow, begins, runs_of}
use Rattle.m2_trail.proofs.Runs.{read_by-append}
use Rattle.m2_weave.specs.declared.strand.StrandItem.{StrandItem}
use Rattle.m2_weave.specs.declared.strand.StrandItem.TheVariants.{Noted, Handed}
use Rattle.m2_weave.specs.WeaveLaws.{IsAsked, IsRead}
use Rattle.m2_weave.specs.Rule.{byte_at, strand_at}
use Rattle.m2_weave.specs.Strands.{StrandNow, half_items, handed_at, handed_by, has_opened, journal_of, judged_by, read_by, same_side, total, written_at, written_by, written_in}
use Rattle.m2_history.specs.Actors.{of_half, of_record}
use Rattle.m2_history.proofs.Fits.{below, if_some}
use Rattle.m2_history.proofs.WovenHalves.{half_opens_none, half_reads}
use Rattle.m2_history.proofs.Journals.{judged_count, opened_unjudged}
use Rattle.m2_history.proofs.Scene.{IsHalfAt, IsHalfIn, IsScene, Setting, adds_none, end_at, handed_is, opens_in, strand_is, strands_in, woven_in}
use Rattle.m2_history.proofs.Sums.{none_adds, strand_in}
use Rattle.m2_history.proofs.Moved.{total_never}
use Rattle.m2_bytes.proofs.m2_lemmas.Lists.{empty_front}
use Rattle.m2_fabric.proofs.Sockets.{same_refl}

-- ---- a half that has read nothing

none_asked : (f : SideFacts) → KeepsRanges f → (t : TrailNow) (x : Exchange) (s : Standing) → Reaches (begins t) x s → x.bytes ≡ [] → x.asks ≡ []
none_asked f named t x s comes given =
    at (accepts f t.entity (trail.opener_of t.socket) [] [] (greeting f.node.rules.auth f.node.entity f.peer []) x s named.entity named.peer tt refl comes given)
  where
    at : HasWelcomed t.entity (trail.opener_of t.socket) x ⊎ IsAskedSo f t.entity (trail.opener_of t.socket) [] (greeting f.node.rules.auth f.node.entity f.peer []) x s → x.asks ≡ []
    at (inl w) = w.asks
    at (inr i) = no_map as_asked x.asks (i.asks ∙ ap (map ask_of) (empty_front i.used i.left (sym i.all)))

-- ---- lists

take_none : (n : ℕ) (xs : List ℕ) → ((p : ℕ) → p < n → p < length xs → ⊥) → take n xs ≡ []
take_none zero xs h = refl
take_none (suc n) [] h = refl
take_none (suc n) (x ∷ xs) h = absurd (h 0 (omega arith) (omega arith))

take_fewer : (m n : ℕ) (xs : List ℕ) → m ≤ n → take n xs ≡ [] → take m xs ≡ []
take_fewer zero n xs h e = refl
take_fewer (suc m) zero xs h e = absurd (omega (arith, h))
take_fewer (suc m) (suc n) [] h e = refl
take_fewer (suc m) (suc n) (x ∷ xs) h e = not_nil e

first_reads : (k : SocketId) (n : ℕ) (es : List Entry) → trail.read_by (runs_on k (take n es)) ≤ trail.read_by (runs_on k es)
first_reads k n es =
    let parts = ap trail.read_by (ap (runs_on k) (sym (take-append-drop n es)) ∙ filter_map-append (run_of k) (take n es) (drop n es)) in
    let sum = read_by-append (runs_on k (take n es)) (runs_on k (drop n es)) in
    omega (arith, parts, sum)

handed_noted : (k : SocketId) (es : List Entry) (is : List StrandItem) → total (handed_by k) (map Noted es) ≡ 0
handed_noted k [] is = refl
handed_noted k (e ∷ es) is = omega (arith, handed_noted k es is)

pub total_joined : (f : StrandItem → ℕ) (xs ys : List StrandItem) → total f (xs ++ ys) ≡ total f xs + total f ys
total_joined f [] ys = omega arith
total_joined f (x ∷ xs) ys = omega (arith, total_joined f xs ys)

handed_all : (k : SocketId) (ns : List ℕ) (place : ℕ) (es : List Entry) → total (handed_by k) (half_items k place es ns) ≡ length ns
handed_all k [] place es = handed_noted k es []
handed_all k (n ∷ ns) place es =
    let joined = total_joined (handed_by k) (map Noted (take (n - place) es)) (Handed k ∷ half_items k (max n place) (drop (n - place) es) ns) in
    let one : handed_by k (Handed k) ≡ 1 = ap (λ (b : Bool). if b then 1 else 0) (same_refl k) in
    omega (arith, joined, one, handed_noted k (take (n - place) es) [], handed_all k ns (max n place) (drop (n - place) es))

some_first : (f : JudgedItem → AskFacts) (js : List JudgedItem) → 0 < length js → map f (take 1 js) ≡ [] → ⊥
some_first f [] h e = omega (arith, h)
some_first f (j ∷ js) h e = not_nil e

-- ---- where all has come

module _ (x : Setting) (sc : IsScene x) (named : (s : Bool) → KeepsRanges (x.facts s)) (at : Cut)
    (read : (j : ℕ) → IsRead (woven_in x) at (strand_at (woven_in x) j) (slice_index at j)) (asked : (j : ℕ) → IsAsked (woven_in x) at (strand_at (woven_in x) j) (slice_index at j))
    (all : (j : ℕ) → slice_index at j ≡ length (strand_in (strands_in x) j).items) where
  closed_strand : (r : StrandNow) (k : SocketId) (n : ℕ) → has_opened r k ≡ false → total (written_in (end_at k true) r) (take n r.items) ≡ 0
  closed_strand r k n e = total_never (written_in (end_at k true) r) (take n r.items) (λ i. ap (λ b. if b then written_by k i else 0) (ap (λ c. same_side c true) e))

  none_written : (k : SocketId) → ((s : Bool) → opens_in x s k ≡ false) → written_at (strands_in x) at (end_at k true) ≡ 0
  none_written k closed =
      none_adds (written_in (end_at k true)) (strands_in x) at
      (λ i. adds_none x sc (written_in (end_at k true)) at i (λ r q. closed_strand (journal_of (x.journals r)) k (slice_index at i) (closed r))
      (λ r t log q. closed_strand (strand_of t) k (slice_index at i) (half_opens_none t k (sc.half i r t log q).own)))

  module _ (j : ℕ) (s : Bool) (t : TrailNow) (log : Log) (there : IsHalfAt x j s t log) where
    known : IsHalfIn x s t log
    known = sc.half j s t log there

    its_all : slice_index at j ≡ length (strand_of t).items
    its_all = all j ∙ ap (λ (r : StrandNow). length r.items) (strand_is x sc j (of_half s t log) there)

    whole : take (slice_index at j) (strand_of t).items ≡ (strand_of t).items
    whole = take_all (slice_index at j) (strand_of t).items (omega (arith, its_all))

    reads_all : total (read_by t.socket) (take (slice_index at j) (strand_of t).items) ≡ trail.read_by (runs_of t)
    reads_all = ap (total (read_by t.socket)) whole ∙ half_reads t

    -- where nobody opens its socket it reads nothing
    reads_none : ((r : Bool) → opens_in x r t.socket ≡ false) → take (trail.read_by (runs_of t)) log.got ≡ []
    reads_none closed = take_none (trail.read_by (runs_of t)) log.got never
      where
        never : (p : ℕ) → p < trail.read_by (runs_of t) → p < length log.got → ⊥
        never p low within =
            let raw = subst (λ r. IsRead (woven_in x) at r (slice_index at j)) (strand_is x sc j (of_half s t log) there) (read j) in
            let at_end = raw t.socket p (omega arith) (omega (arith, low, reads_all)) in
            let so = subst (λ b. p < length (x.bytes.got (end_at t.socket b)) → byte_at (woven_in x) at (end_at t.socket (not b)) p ≡ slice_get (x.bytes.got (end_at t.socket b)) p)
            (half_opens_none t t.socket known.own) at_end in
            let byte = subst (λ l. p < length l → byte_at (woven_in x) at (end_at t.socket true) p ≡ slice_get l p) known.got so within in
            let some = if_some (nat_lt p (written_at (strands_in x) at (end_at t.socket true))) (slice_get (x.bytes.put (end_at t.socket true)) p) (slice_index log.got p) (byte ∙ slice_get-get_or log.got p 0 within) in
            let early = below p (written_at (strands_in x) at (end_at t.socket true)) some.0 in
            omega (arith, early, none_written t.socket closed)

    -- so it was asked nothing, and handed nothing on
    asks_none : ((r : Bool) → opens_in x r t.socket ≡ false) → 0 < length t.judged → ⊥
    asks_none closed some =
        let it = known.trail.asks 0 some in
        let runs = runs_on t.socket (take (slice_index t.judged_after 0) t.entries) in
        let bytes : it.exchange.bytes ≡ [] = it.fed ∙ take_fewer (trail.read_by runs) (trail.read_by (runs_of t)) log.got (first_reads t.socket (slice_index t.judged_after 0) t.entries) (reads_none closed) in
        let asks = none_asked (x.facts s) (named s) t it.exchange it.standing it.comes bytes in
        some_first (λ (i : JudgedItem). i.ask) t.judged some
        (empty_front (map (λ (i : JudgedItem). i.ask) (take 1 t.judged)) it.first.0 (sym it.first.1 ∙ ap (map facts_of_ask) asks))

    other_judges : (js : List JudgedItem) → judged_on t.socket (judgements_in (x.journals (not s))) ≡ js → js ≡ []
    other_judges [] e = refl
    other_judges (y ∷ ys) e = absurd (asks_none closed (omega (arith, ap length e, count, handed, known.trail.many)))
      where
        r : Bool
        r = not s

        not_opened : (b : Bool) → opens_in x r t.socket ≡ b → opens_in x r t.socket ≡ false
        not_opened false o = o
        not_opened true o = not_nil (sym e ∙ opened_unjudged (x.facts r) (x.sources r) (x.journals r) at_start t.socket (sc.lawful r) o)

        both : (P : Bool → Type 0) (s : Bool) → P s → P (not s) → (r : Bool) → P r
        both P true p q true = p
        both P true p q false = q
        both P false p q true = q
        both P false p q false = p

        closed : (q : Bool) → opens_in x q t.socket ≡ false
        closed = both (λ q. opens_in x q t.socket ≡ false) s known.unopened (not_opened (opens_in x r t.socket) refl)

        count : length (judged_on t.socket (judgements_in (x.journals r))) ≤ handed_at (strands_in x) at t.socket
        count =
            let ask = subst (λ q. IsAsked (woven_in x) at q (slice_index at (sc.place r))) (strand_is x sc (sc.place r) (of_record r) (sc.there r)) (asked (sc.place r)) in
            let full : slice_index at (sc.place r) ≡ length (journal_of (x.journals r)).items = all (sc.place r) ∙ ap (λ (q : StrandNow). length q.items) (strand_is x sc (sc.place r) (of_record r) (sc.there r)) in
            let same = ap (total (judged_by t.socket)) (take_all (slice_index at (sc.place r)) (map Noted (x.journals r)) (omega (arith, full))) ∙ judged_count t.socket (x.journals r) in
            omega (arith, ask.judged t.socket, same)

        handed : handed_at (strands_in x) at t.socket ≡ length t.judged_after
        handed = handed_is x sc at j s t log there ∙ ap (total (handed_by t.socket)) whole ∙ handed_all t.socket t.judged_after 0 t.entries

  pub alone_there : (j : ℕ) (s : Bool) (t : TrailNow) (log : Log) → IsHalfAt x j s t log → judged_on t.socket (judgements_in (x.journals (not s))) ≡ []
  alone_there j s t log there = other_judges j s t log there (judged_on t.socket (judgements_in (x.journals (not s)))) refl
