-- The strands of two kept sides and of loose halves wait in no circle: each ask that was judged is handed on by its half, and a half
-- that was handed to its side waits for judgements that are there.
use Rattle.std.proofs.Common.{◌≡◌, ℕ, zero, suc, ◌+◌, ◌-◌, ◌≤◌, ◌<◌, max, if◌then◌else◌, ◌||◌, inl, inr, Bool, true, false, List, [], ◌∷◌, ◌++◌, length, map, take, drop, refl, sym, ap, ◌∙◌, subst, arith}
use Rattle.std.specs.Prelude.{slice_index_or}
use Rattle.std.specs.List.{AllByRecursion}
use Rattle.std.proofs.lemmas.List.{take_all}
use Rattle.std.proofs.lemmas.List.Folds.{list_any-append}
use Rattle.m2_fabric.specs.declared.socket.SocketId.{SocketId}
use Rattle.m2_fabric.specs.Sockets.{is_among, same_socket}
use Rattle.m2_journal.specs.declared.entry.Entry.{Entry}
use Rattle.m2_journal.specs.declared.entry.Entry.TheVariants as entry
use Rattle.m2_journal.specs.Lawful.{judged_on}
use Rattle.m2_journal.specs.State.{Judgement}
use Rattle.m2_record.specs.TakenTrails.{judgements_in}
use Rattle.m2_trail.specs.Arrivals.{LooseNow}
use Rattle.m2_trail.specs.Trails.{TrailNow}
use Rattle.m2_weave.specs.declared.strand.StrandItem.{StrandItem}
use Rattle.m2_weave.specs.declared.strand.StrandItem.TheVariants.{Noted, Handed}
use Rattle.m2_weave.specs.Rule.{nothing_at_all}
use Rattle.m2_weave.specs.Strands.{StrandNow, half_items, handed_by, judged_by, total, total_at}
use Rattle.m2_weave.specs.Tidy.{IsOfHalf, IsOfJournal, IsTidyStrand}
use Rattle.m2_history.specs.HalfStrands.{strand_of}
use Rattle.m2_history.specs.Link.{HaveHalves, IsJudgedSo, IsKeptHalf, IsOnSocket, IsWholeHalf, half_sockets}
use Rattle.m2_history.specs.Woven.{as_judged, is_of_link, judged_times, knows, loose_strands}
use Rattle.m2_bytes.proofs.m2_lemmas.Lists.{all_append, all_so, all_map, all_take, all_drop}
use Rattle.m2_bytes.proofs.m2_lemmas.Booleans.{or_right, one_of_or}
use Rattle.m2_history.proofs.Alone.{total_joined}
use Rattle.m2_fabric.proofs.Sockets.{same_equal, same_refl}

-- ---- lists

pub all_at : (P : StrandNow → Type 0) → P nothing_at_all → (ss : List StrandNow) → AllByRecursion P ss → (j : ℕ) → P (slice_index_or ss j nothing_at_all)
all_at P none [] a j = none
all_at P none (s ∷ ss) a zero = a.0
all_at P none (s ∷ ss) a (suc j) = all_at P none ss a.1 j

-- ---- sums

-- over all items of all strands
abbrev pub whole_of : (StrandItem → ℕ) → List StrandNow → ℕ
whole_of f [] = 0
whole_of f (s ∷ ss) = total f s.items + whole_of f ss

pub at_whole : (f : StrandItem → ℕ) (ss : List StrandNow) → total_at (λ s i. f i) ss (map (λ (s : StrandNow). length s.items) ss) ≡ whole_of f ss
at_whole f [] = refl
at_whole f (s ∷ ss) = omega (arith, ap (total f) (take_all (length s.items) s.items (omega arith)), at_whole f ss)

pub whole_append : (f : StrandItem → ℕ) (xs ys : List StrandNow) → whole_of f (xs ++ ys) ≡ whole_of f xs + whole_of f ys
whole_append f [] ys = omega arith
whole_append f (x ∷ xs) ys = omega (arith, whole_append f xs ys)

pub first_few : (f : StrandItem → ℕ) (n : ℕ) (is : List StrandItem) → total f (take n is) ≤ total f is
first_few f zero is = omega arith
first_few f (suc n) [] = omega arith
first_few f (suc n) (i ∷ is) = omega (arith, first_few f n is)

-- ---- a half's strand

pub none_handed : (k : SocketId) (es : List Entry) → total (handed_by k) (map Noted es) ≡ 0
none_handed k [] = refl
none_handed k (e ∷ es) = omega (arith, none_handed k es)

where-so : (b : Bool) (n : ℕ) → (if b then 1 else 0) + (if b then n else 0) ≡ (if b then suc n else 0)
where-so true n = omega arith
where-so false n = omega arith

where-none : (b : Bool) → ◌≡◌ {A = ℕ} 0 (if b then 0 else 0)
where-none true = refl
where-none false = refl

-- it hands on an ask for each of these numbers
pub handed_in : (k x : SocketId) (ns : List ℕ) (place : ℕ) (es : List Entry) → total (handed_by k) (half_items x place es ns) ≡ (if same_socket k x then length ns else 0)
handed_in k x [] place es = none_handed k es ∙ where-none (same_socket k x)
handed_in k x (n ∷ ns) place es =
    let rest = half_items x (max n place) (drop (n - place) es) ns in
    let split = total_joined (handed_by k) (map Noted (take (n - place) es)) (Handed x ∷ rest) in
    omega (arith, split, none_handed k (take (n - place) es), handed_in k x ns (max n place) (drop (n - place) es), where-so (same_socket k x) (length ns))

pub all_in : (P : StrandItem → Type 0) (x : SocketId) → P (Handed x) → (ns : List ℕ) (place : ℕ) (es : List Entry) → AllByRecursion (λ e. P (Noted e)) es →
    AllByRecursion P (half_items x place es ns)
all_in P x h [] place es a = all_map P Noted es a
all_in P x h (n ∷ ns) place es a =
    all_append P (map Noted (take (n - place) es)) (Handed x ∷ half_items x (max n place) (drop (n - place) es) ns)
    (all_map P Noted (take (n - place) es) (all_take (λ e. P (Noted e)) (n - place) es a))
    (h, all_in P x h ns (max n place) (drop (n - place) es) (all_drop (λ e. P (Noted e)) (n - place) es a))

-- what is on one socket alone
on-half : (k : SocketId) (e : Entry) → IsOnSocket k e → IsOfHalf k (Noted e)
on-half k (entry.Read x count) h = tt
on-half k (entry.Wrote x count) h = subst (λ y. same_socket k y ≡ true) (sym h) (same_refl k)
on-half k (entry.Closed x) h = tt
on-half k (entry.Post place) h = absurd h
on-half k entry.Dial h = absurd h
on-half k (entry.Opened x) h = absurd h
on-half k (entry.Judged x ask number answer) h = absurd h
on-half k (entry.Asked ident number) h = absurd h
on-half k (entry.Numbered number) h = absurd h
on-half k (entry.Accepted number key) h = absurd h
on-half k (entry.Acked number) h = absurd h
on-half k (entry.Obeyed full) h = absurd h
on-half k (entry.Down planned) h = absurd h

pub half_tidy : (t : TrailNow) → AllByRecursion (IsOnSocket t.socket) t.entries → IsTidyStrand (strand_of t).of_half (strand_of t).items
half_tidy t on =
    (t.socket, all_in (IsOfHalf t.socket) t.socket (same_refl t.socket) t.judged_after 0 t.entries (all_so (IsOnSocket t.socket) (λ e. IsOfHalf t.socket (Noted e)) (on-half t.socket) t.entries on))

pub journal_tidy : (es : List Entry) → AllByRecursion IsOfJournal (map Noted es)
journal_tidy [] = tt
journal_tidy (e ∷ es) = (tt, journal_tidy es)

-- ---- judgements

judged-more : (k : SocketId) (j : Judgement) (js : List Judgement) → length (judged_on k (j ∷ js)) ≡ (if same_socket k j.socket then 1 else 0) + length (judged_on k js)
judged-more k j js = at (same_socket k j.socket) refl
  where
    at : (b : Bool) → same_socket k j.socket ≡ b → length (judged_on k (j ∷ js)) ≡ (if same_socket k j.socket then 1 else 0) + length (judged_on k js)
    at true e = rw e (omega arith)
    at false e = rw e (omega arith)

-- the judgements on a socket, counted
pub judged_noted : (k : SocketId) (es : List Entry) → total (judged_by k) (map Noted es) ≡ length (judged_on k (judgements_in es))
judged_noted k [] = refl
judged_noted k (entry.Judged x ask number answer ∷ es) = omega (arith, judged_noted k es, judged-more k (record { socket = x; item = record { ask = ask; answer = answer } }) (judgements_in es))
judged_noted k (entry.Post place ∷ es) = omega (arith, judged_noted k es)
judged_noted k (entry.Dial ∷ es) = omega (arith, judged_noted k es)
judged_noted k (entry.Opened x ∷ es) = omega (arith, judged_noted k es)
judged_noted k (entry.Read x count ∷ es) = omega (arith, judged_noted k es)
judged_noted k (entry.Wrote x count ∷ es) = omega (arith, judged_noted k es)
judged_noted k (entry.Closed x ∷ es) = omega (arith, judged_noted k es)
judged_noted k (entry.Asked ident number ∷ es) = omega (arith, judged_noted k es)
judged_noted k (entry.Numbered number ∷ es) = omega (arith, judged_noted k es)
judged_noted k (entry.Accepted number key ∷ es) = omega (arith, judged_noted k es)
judged_noted k (entry.Acked number ∷ es) = omega (arith, judged_noted k es)
judged_noted k (entry.Obeyed full ∷ es) = omega (arith, judged_noted k es)
judged_noted k (entry.Down planned ∷ es) = omega (arith, judged_noted k es)

pub judged_append : (k : SocketId) (xs ys : List Judgement) → length (judged_on k (xs ++ ys)) ≡ length (judged_on k xs) + length (judged_on k ys)
judged_append k [] ys = omega arith
judged_append k (x ∷ xs) ys = omega (arith, judged-more k x (xs ++ ys), judged-more k x xs, judged_append k xs ys)

-- a socket on which something was judged
some-judged : (k : SocketId) (js : List Judgement) → 0 < length (judged_on k js) → is_among k (map (λ (j : Judgement). j.socket) js) ≡ true
some-judged k [] h = absurd (omega (arith, h))
some-judged k (j ∷ js) h = at (same_socket k j.socket) refl (some-judged k js)
  where
    at : (b : Bool) → same_socket k j.socket ≡ b → (0 < length (judged_on k js) → is_among k (map (λ (j : Judgement). j.socket) js) ≡ true) →
        (same_socket k j.socket || is_among k (map (λ (j : Judgement). j.socket) js)) ≡ true
    at true e rest = rw e refl
    at false e rest = rw e (rest (omega (arith, h, judged-more k j js, ap {B = ℕ} (λ b. if b then 1 else 0) e)))

known : (k : SocketId) (es : List Entry) → 0 < total (judged_by k) (map Noted es) → knows es k ≡ true
known k [] h = absurd (omega (arith, h))
known k (entry.Judged x ask number answer ∷ es) h = at (same_socket k x) refl (known k es)
  where
    at : (b : Bool) → same_socket k x ≡ b → (0 < total (judged_by k) (map Noted es) → knows es k ≡ true) → (same_socket k x || knows es k) ≡ true
    at true e rest = rw e refl
    at false e rest = rw e (rest (omega (arith, h, ap {B = ℕ} (λ b. if b then 1 else 0) e)))
known k (entry.Opened x ∷ es) h = or_right (same_socket k x) (knows es k) (known k es (omega (arith, h)))
known k (entry.Post place ∷ es) h = known k es (omega (arith, h))
known k (entry.Dial ∷ es) h = known k es (omega (arith, h))
known k (entry.Read x count ∷ es) h = known k es (omega (arith, h))
known k (entry.Wrote x count ∷ es) h = known k es (omega (arith, h))
known k (entry.Closed x ∷ es) h = known k es (omega (arith, h))
known k (entry.Asked ident number ∷ es) h = known k es (omega (arith, h))
known k (entry.Numbered number ∷ es) h = known k es (omega (arith, h))
known k (entry.Accepted number key ∷ es) h = known k es (omega (arith, h))
known k (entry.Acked number ∷ es) h = known k es (omega (arith, h))
known k (entry.Obeyed full ∷ es) h = known k es (omega (arith, h))
known k (entry.Down planned ∷ es) h = known k es (omega (arith, h))

-- ---- where its half is

have-half : (k : SocketId) (hs : List SocketId) (js : List Judgement) → AllByRecursion (λ (j : Judgement). is_among j.socket hs ≡ true) js →
    is_among k (map (λ (j : Judgement). j.socket) js) ≡ true → is_among k hs ≡ true
have-half k hs [] all h = absurd cc
have-half k hs (j ∷ js) all h = at (same_socket k j.socket) refl h (have-half k hs js all.1)
  where
    at : (b : Bool) → same_socket k j.socket ≡ b → (b || is_among k (map (λ (j : Judgement). j.socket) js)) ≡ true →
        (is_among k (map (λ (j : Judgement). j.socket) js) ≡ true → is_among k hs ≡ true) → is_among k hs ≡ true
    at true e h rest = subst (λ x. is_among x hs ≡ true) (sym (same_equal k j.socket e)) all.0
    at false e h rest = rest h

-- a half that the side took hands on all that was judged
taken-handed : (k : SocketId) (ids : List SocketId) (journal : List Entry) (ts : List TrailNow) → AllByRecursion (IsKeptHalf ids journal) ts →
    is_among k (map (λ (t : TrailNow). t.socket) ts) ≡ true → total (judged_by k) (map Noted journal) ≤ whole_of (handed_by k) (map strand_of ts)
taken-handed k ids journal [] all h = absurd cc
taken-handed k ids journal (t ∷ ts) all h = at (same_socket k t.socket) refl h (taken-handed k ids journal ts all.1)
  where
    at : (b : Bool) → same_socket k t.socket ≡ b → (b || is_among k (map (λ (t : TrailNow). t.socket) ts)) ≡ true →
        (is_among k (map (λ (t : TrailNow). t.socket) ts) ≡ true → total (judged_by k) (map Noted journal) ≤ whole_of (handed_by k) (map strand_of ts)) →
        total (judged_by k) (map Noted journal) ≤ total (handed_by k) (strand_of t).items + whole_of (handed_by k) (map strand_of ts)
    at true e h rest =
        let same : k ≡ t.socket = same_equal k t.socket e in
        let mine : length t.judged_after ≡ length (judged_on k (judgements_in journal)) =
        all.0.many ∙ ap length all.0.judged ∙ ap (λ x. length (judged_on x (judgements_in journal))) (sym same) in
        omega (arith, handed_in k t.socket t.judged_after 0 t.entries, ap (λ b. if b then length t.judged_after else 0) e, mine, judged_noted k journal)
    at false e h rest = omega (arith, rest h)

short : (n : ℕ) (ns : List ℕ) → length ns ≤ n → length (take n ns) ≡ length ns
short n ns h = ap length (take_all n ns h)

-- so does a loose one
loose-handed : (k : SocketId) (a b : List Entry) (ls : List LooseNow) → AllByRecursion IsWholeHalf ls →
    AllByRecursion (IsJudgedSo (judgements_in a ++ judgements_in b)) ls → is_among k (map (λ (l : LooseNow). l.trail.socket) ls) ≡ true →
    is_among k (map (λ (j : Judgement). j.socket) (judgements_in a ++ judgements_in b)) ≡ true → (knows a k || knows b k) ≡ true →
    judged_times a b k ≤ whole_of (handed_by k) (loose_strands a b ls)
loose-handed k a b [] whole all h judged of = absurd cc
loose-handed k a b (l ∷ ls) whole all h judged of = at (same_socket k l.trail.socket) refl h (λ g. loose-handed k a b ls whole.1 all.1 g judged of)
  where
    js : List Judgement
    js = judgements_in a ++ judgements_in b

    at : (c : Bool) → same_socket k l.trail.socket ≡ c → (c || is_among k (map (λ (l : LooseNow). l.trail.socket) ls)) ≡ true →
        (is_among k (map (λ (l : LooseNow). l.trail.socket) ls) ≡ true → judged_times a b k ≤ whole_of (handed_by k) (loose_strands a b ls)) →
        judged_times a b k ≤ whole_of (handed_by k) (loose_strands a b (l ∷ ls))
    at true e h rest =
        let same : k ≡ l.trail.socket = same_equal k l.trail.socket e in
        let its : l.trail.judged ≡ judged_on l.trail.socket js =
        all.0 (subst (λ x. is_among x (map (λ (j : Judgement). j.socket) js) ≡ true) same judged) in
        let here : is_of_link a b l ≡ true = subst (λ x. (knows a x || knows b x) ≡ true) (same ∙ whole.0.socket) of in
        let count : length l.trail.judged_after ≡ judged_times a b k =
        omega (
          arith,
          whole.0.facts.many,
          ap length its,
          ap (λ x. length (judged_on x js)) same,
          judged_append k (judgements_in a) (judgements_in b),
          judged_noted k a,
          judged_noted k b,
        ) in
        let all_of_them : length (take (judged_times a b l.trail.socket) l.trail.judged_after) ≡ length l.trail.judged_after =
        short (judged_times a b l.trail.socket) l.trail.judged_after (omega (arith, count, ap (judged_times a b) same)) in
        let mine = handed_in k l.trail.socket (take (judged_times a b l.trail.socket) l.trail.judged_after) 0 l.trail.entries in
        let yes = ap (λ c. if c then length (take (judged_times a b l.trail.socket) l.trail.judged_after) else 0) e in
        subst (λ c. judged_times a b k ≤ whole_of (handed_by k) ((if c then strand_of (as_judged a b l.trail) ∷ [] else []) ++ loose_strands a b ls)) (sym here)
        (omega (arith, mine, yes, all_of_them, count))
    at false e h rest =
        omega (
          arith,
          rest h,
          whole_append (handed_by k) (if is_of_link a b l then strand_of (as_judged a b l.trail) ∷ [] else []) (loose_strands a b ls),
        )

-- whatever a side has judged, its halves and the loose ones hand on
pub all_handed : (k : SocketId) (ids : List SocketId) (journal a b : List Entry) (ts : List TrailNow) (ls : List LooseNow) → AllByRecursion (IsKeptHalf ids journal) ts →
    AllByRecursion IsWholeHalf ls → AllByRecursion (IsJudgedSo (judgements_in a ++ judgements_in b)) ls → HaveHalves ts ls (judgements_in journal) →
    total (judged_by k) (map Noted journal) ≤ judged_times a b k →
    (is_among k (map (λ (j : Judgement). j.socket) (judgements_in journal)) ≡ true → is_among k (map (λ (j : Judgement). j.socket) (judgements_in a ++ judgements_in b)) ≡ true) →
    (knows journal k ≡ true → (knows a k || knows b k) ≡ true) →
    total (judged_by k) (map Noted journal) ≤ whole_of (handed_by k) (map strand_of ts) + whole_of (handed_by k) (loose_strands a b ls)
all_handed k ids journal a b ts ls kept whole told have fewer among of = at (total (judged_by k) (map Noted journal)) refl
  where
    half : is_among k (map (λ (j : Judgement). j.socket) (judgements_in journal)) ≡ true → knows journal k ≡ true → total (judged_by k) (map Noted journal) ≤ whole_of (handed_by k) (map strand_of ts) + whole_of (handed_by k) (loose_strands a b ls)
    half judged knows =
        let one = have-half k (half_sockets ts ls) (judgements_in journal) have judged in
        let split = list_any-append (same_socket k) (map (λ (t : TrailNow). t.socket) ts) (map (λ (l : LooseNow). l.trail.socket) ls) in
        elim (one_of_or (is_among k (map (λ (t : TrailNow). t.socket) ts)) (is_among k (map (λ (l : LooseNow). l.trail.socket) ls)) (sym split ∙ one)) [
          | inl taken ↦ omega (arith, taken-handed k ids journal ts kept taken)
          | inr loose ↦ omega (arith, fewer, loose-handed k a b ls whole told loose (among judged) (of knows))
        ]

    at : (n : ℕ) → total (judged_by k) (map Noted journal) ≡ n → total (judged_by k) (map Noted journal) ≤ whole_of (handed_by k) (map strand_of ts) + whole_of (handed_by k) (loose_strands a b ls)
    at zero e = omega (arith, e)
    at (suc n) e = half (some-judged k (judgements_in journal) (omega (arith, e, judged_noted k journal))) (known k journal (omega (arith, e)))
