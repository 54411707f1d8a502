-- What becomes of a holding where a record judges the ask of a half, and where it takes the half.
use Rattle.std.proofs.Common.{◌≡◌, ◌⊎◌, inl, inr, ℕ, zero, suc, ◌<◌, true, false, List, [], ◌∷◌, ◌++◌, map, length, Some, refl, sym, ap, subst, ◌∙◌, append_assoc, arith}
use Rattle.std.specs.Prelude.{slice_index_or, slice_set}
use Rattle.std.specs.List.{AllByRecursion, IsDistinct}
use Rattle.m2_fabric.specs.m2_addr.declared.addr.Addr.{Addr}
use Rattle.m2_fabric.specs.declared.socket.SocketId.{SocketId}
use Rattle.m2_fabric.specs.End.{SeenEnd}
use Rattle.m2_fabric.specs.Sockets.{goes_to, is_among}
use Rattle.m2_turn.specs.m2_handshake.Asks.{same_addr}
use Rattle.m2_turn.specs.m2_record.RecordNow.{RecordNow, ends_of}
use Rattle.m2_turn.specs.Hearing.{ends_in}
use Rattle.m2_turn.specs.Sessions.{PendingNow, is_asker, peer_of}
use Rattle.m2_turn.proofs.Peers.{each_of_two, same_peers, with_one}
use Rattle.m2_turn.proofs.Turned.{IsHome}
use Rattle.m2_bytes_fit.specs.m2_trail.Arrivals.{LooseNow}
use Rattle.m2_bytes_fit.specs.m2_trail.Trails.{TrailNow}
use Rattle.m2_growth.specs.Halves.{AskedOnMade, IsAskedHere, judged_since, HasItsHalves, IsHeardBy, IsLeft, IsOneOf, IsTakenBy, TrailGrows, all_left, asked_on, sockets_left, sockets_taken, AskedTowards, OneJudge}
use Rattle.m2_growth.specs.Holding.{AreOwn, Grows, HaveTheirHalves, all_ends, ends_held}
use Rattle.m2_growth.specs.Records.{IsFed, RecordGrows, RecordsGrow, ends_of_all}
use Rattle.m2_growth.proofs.Among.{among_back, among_mapped, each_by, mapped_one, mid_here, mid_in, mid_out, of_each, one_back, one_front, whose}
use Rattle.m2_growth.proofs.Asked.{asked_at, end_there}
use Rattle.m2_growth.proofs.Ends.{AreLater, later_before, later_behind, later_chain, later_swapped, own_first, own_last, own_tail}
use Rattle.m2_growth.proofs.Going.{halves_same, record_same, records_same, trail_same}
use Rattle.m2_growth.proofs.OneJudge.{one_judges}
use Rattle.m2_growth.proofs.Holdings.{Around, IsHere, IsOnSocket, end_first, end_of, halves_with, halves_without, held_with, held_without, left, loose_end, of_others, of_this, others_on, parts_grow, socket_of, this_left, this_on, whose_left}
use Rattle.m2_fabric.proofs.m2_lemmas.Booleans.{false_isnt_true}
use Rattle.m2_fabric.proofs.m2_lemmas.Lists.{all_so}
use Rattle.m2_fabric.proofs.Sockets.{among_front, among_part}

-- ---- one record of all

-- whatever the others are
pub all_but_one : (P Q : RecordNow → Type 0) (rs : List RecordNow) (place : ℕ) (side behind : RecordNow) → place < length rs → slice_index_or rs place side ≡ side →
    ((r : RecordNow) → P r → Q r) → (P side → Q behind) → AllByRecursion P rs → AllByRecursion Q (slice_set rs place behind)
all_but_one P Q [] place side behind within here others one all = absurd (omega (arith, within))
all_but_one P Q (r ∷ rs) zero side behind within here others one all = (one (subst P here all.0), all_so P Q others rs all.1)
all_but_one P Q (r ∷ rs) (suc n) side behind within here others one all = (others r all.0, all_but_one P Q rs n side behind (omega (arith, within)) here others one all.1)

one_grows : (rs : List RecordNow) (place : ℕ) (side behind : RecordNow) → place < length rs → slice_index_or rs place side ≡ side → RecordGrows side behind → RecordsGrow rs (slice_set rs place behind)
one_grows [] place side behind within here g = absurd (omega (arith, within))
one_grows (r ∷ rs) zero side behind within here g = (subst (λ (x : RecordNow). RecordGrows x behind) (sym here) g, records_same rs)
one_grows (r ∷ rs) (suc n) side behind within here g = (record_same r, one_grows rs n side behind (omega (arith, within)) here g)

one_there : (rs : List RecordNow) (place : ℕ) (behind : RecordNow) → place < length rs → IsOneOf behind (slice_set rs place behind)
one_there [] place behind within = absurd (omega (arith, within))
one_there (r ∷ rs) zero behind within = inl refl
one_there (r ∷ rs) (suc n) behind within = inr (one_there rs n behind (omega (arith, within)))

ends_of_one : (rs : List RecordNow) (place : ℕ) (side behind : RecordNow) → place < length rs → slice_index_or rs place side ≡ side → AreLater (ends_of side) (ends_of behind) →
    AreLater (ends_of_all rs) (ends_of_all (slice_set rs place behind))
ends_of_one [] place side behind within here later = absurd (omega (arith, within))
ends_of_one (r ∷ rs) zero side behind within here later =
    later_before (ends_of r) (ends_of behind) (ends_of_all rs) (subst (λ (x : RecordNow). AreLater (ends_of x) (ends_of behind)) (sym here) later)
ends_of_one (r ∷ rs) (suc n) side behind within here later =
    later_behind (ends_of r) (ends_of_all rs) (ends_of_all (slice_set rs n behind)) (ends_of_one rs n side behind (omega (arith, within)) here later)

-- a further end goes to one of them
ends_with_one : (rs : List RecordNow) (place : ℕ) (side behind : RecordNow) (e : SeenEnd) → place < length rs → slice_index_or rs place side ≡ side → AreLater (ends_of side ++ e ∷ []) (ends_of behind) →
    AreLater (ends_of_all rs ++ e ∷ []) (ends_of_all (slice_set rs place behind))
ends_with_one [] place side behind e within here later = absurd (omega (arith, within))
ends_with_one (r ∷ rs) zero side behind e within here later =
    let others = ends_of_all rs in
    subst (λ es. AreLater es (ends_of behind ++ others)) (sym (append_assoc (ends_of r) others (e ∷ [])))
    (later_chain (ends_of r ++ (others ++ e ∷ [])) (ends_of r ++ (e ∷ others)) (ends_of behind ++ others)
    (later_behind (ends_of r) (others ++ e ∷ []) (e ∷ others) (later_swapped others (e ∷ [])))
    (subst (λ es. AreLater es (ends_of behind ++ others)) (append_assoc (ends_of r) (e ∷ []) others)
    (later_before (ends_of r ++ e ∷ []) (ends_of behind) others (subst (λ (x : RecordNow). AreLater (ends_of x ++ e ∷ []) (ends_of behind)) (sym here) later))))
ends_with_one (r ∷ rs) (suc n) side behind e within here later =
    subst (λ es. AreLater es (ends_of r ++ ends_of_all (slice_set rs n behind))) (sym (append_assoc (ends_of r) (ends_of_all rs) (e ∷ [])))
    (later_behind (ends_of r) (ends_of_all rs ++ e ∷ []) (ends_of_all (slice_set rs n behind)) (ends_with_one rs n side behind e (omega (arith, within)) here later))

-- ---- asks on one socket more

-- further asks were judged on this socket alone
abbrev pub JudgesOn : SocketId → RecordNow → RecordNow → Type 0
JudgesOn k old new = (j : SocketId) → is_among j (asked_on new) ≡ true → (is_among j (asked_on old) ≡ true) ⊎ (j ≡ k)

-- no other half has this one's socket
pub alone : (c : Around) (rs : List RecordNow) (p q : PendingNow) → AreOwn (held_with c rs p) → IsOneOf q (c.before ++ c.behind) → q.half.trail.socket ≡ p.half.trail.socket → ⊥
alone c rs p q own i same =
    let ends = map end_of (c.before ++ c.behind) in
    let held = own_first (map end_of (c.before ++ p ∷ c.behind)) (map loose_end c.loose) (own_last (ends_of_all rs) (ends_in (halves_with c p)) own.held) in
    let first = (end_first p c.before c.behind held).own in
    let on = others_on c p own.on_socket (left q) (one_front (left q) (map left (c.before ++ c.behind)) c.loose (mapped_one left q (c.before ++ c.behind) i)) in
    end_there p.half.end.id q.half.end ends (mapped_one end_of q (c.before ++ c.behind) i) (sym (this_on c p own.on_socket) ∙ sym same ∙ on) (own_tail p.half.end ends first).0

-- its end is held
pub this_held : (c : Around) (rs : List RecordNow) (p : PendingNow) → IsOneOf p.half.end (ends_held (held_with c rs p))
this_held c rs p =
    one_back p.half.end (ends_of_all rs) (ends_in (halves_with c p)) (one_front p.half.end (map end_of (c.before ++ p ∷ c.behind)) (map loose_end c.loose) (mid_here end_of p c.before c.behind))

-- its socket was made
made_here : (c : Around) (rs : List RecordNow) (p : PendingNow) → AreOwn (held_with c rs p) → is_among p.half.trail.socket c.port.made ≡ true
made_here c rs p own =
    ap (λ k. is_among k c.port.made) (this_on c p own.on_socket)
    ∙ of_each (λ (e : SeenEnd). is_among e.id c.port.made ≡ true) p.half.end (ends_held (held_with c rs p)) own.made
    (this_held c rs p)

-- the record of its asker has judged on it
pub record Judges (c : Around) (rs : List RecordNow) (p : PendingNow) (place : ℕ) (peer : Addr) (side behind : RecordNow) : Type 0 where
  pub home : IsHome rs place peer side
  pub asker : p.asker ≡ Some peer
  pub grows : RecordGrows side behind
  pub fed : IsFed side → IsFed behind
  pub asked : JudgesOn p.half.trail.socket side behind
  pub since : AllByRecursion (IsAskedHere (all_ends (held_with c rs p)) behind) (judged_since side behind)

made_still : (c : Around) (rs : List RecordNow) (p : PendingNow) (place : ℕ) (peer : Addr) (side behind : RecordNow) → AreOwn (held_with c rs p) → Judges c rs p place peer side behind →
    AskedOnMade c.port.made side → AskedOnMade c.port.made behind
made_still c rs p place peer side behind own x made k asked = at (x.asked k asked)
  where
    at : (is_among k (asked_on side) ≡ true) ⊎ (k ≡ p.half.trail.socket) → is_among k c.port.made ≡ true
    at (inl h) = made k h
    at (inr e) = ap (λ j. is_among j c.port.made) e ∙ made_here c rs p own

-- and goes there
towards_here : (c : Around) (rs : List RecordNow) (p : PendingNow) → AreOwn (held_with c rs p) → goes_to c.port.at p.half.trail.socket ≡ true
towards_here c rs p own = ap (goes_to c.port.at) (this_on c p own.on_socket) ∙ of_this (IsHere c.port.at) c p own.here

towards_still : (c : Around) (rs : List RecordNow) (p : PendingNow) (place : ℕ) (peer : Addr) (side behind : RecordNow) → AreOwn (held_with c rs p) → Judges c rs p place peer side behind →
    AskedTowards c.port.at side → AskedTowards c.port.at behind
towards_still c rs p place peer side behind own x here k asked = at (x.asked k asked)
  where
    at : (is_among k (asked_on side) ≡ true) ⊎ (k ≡ p.half.trail.socket) → goes_to c.port.at k ≡ true
    at (inl h) = here k h
    at (inr e) = ap (goes_to c.port.at) e ∙ towards_here c rs p own

-- no other record has judged on its socket
one_still : (c : Around) (rs : List RecordNow) (p : PendingNow) (place : ℕ) (peer : Addr) (side behind : RecordNow) → Judges c rs p place peer side behind →
    IsDistinct same_addr (map peer_of rs) → IsHeardBy rs p → OneJudge rs → OneJudge (slice_set rs place behind)
one_still c rs p place peer side behind x apart heard one =
    one_judges p.half.trail.socket peer rs place side behind x.home x.asked apart
    (subst (λ o. AllByRecursion (λ (r : RecordNow). is_among p.half.trail.socket (asked_on r) ≡ true → is_asker o (peer_of r) ≡ true) rs) x.asker heard) one

same_peer : (side behind : RecordNow) → RecordGrows side behind → peer_of behind ≡ peer_of side
same_peer side behind g = ap (λ f. f.peer) g.facts

-- of another half none has judged what none had
other_heard : (c : Around) (rs : List RecordNow) (p : PendingNow) (place : ℕ) (peer : Addr) (side behind : RecordNow) → AreOwn (held_with c rs p) → Judges c rs p place peer side behind →
    (q : PendingNow) → IsOneOf q (c.before ++ c.behind) → IsHeardBy rs q → IsHeardBy (slice_set rs place behind) q
other_heard c rs p place peer side behind own x q i heard =
    all_but_one Heard Heard rs place side behind x.home.within x.home.here (λ r h. h) (λ h asked. at h (x.asked q.half.trail.socket asked)) heard
  where
    Heard : RecordNow → Type 0
    Heard r = is_among q.half.trail.socket (asked_on r) ≡ true → is_asker q.asker (peer_of r) ≡ true

    at : Heard side → (is_among q.half.trail.socket (asked_on side) ≡ true) ⊎ (q.half.trail.socket ≡ p.half.trail.socket) → is_asker q.asker (peer_of behind) ≡ true
    at h (inl e) = ap (is_asker q.asker) (same_peer side behind x.grows) ∙ h e
    at h (inr e) = absurd (alone c rs p q own i e)

others_heard : (c : Around) (rs : List RecordNow) (p : PendingNow) (place : ℕ) (peer : Addr) (side behind : RecordNow) → AreOwn (held_with c rs p) → Judges c rs p place peer side behind →
    AllByRecursion (IsHeardBy rs) (c.before ++ c.behind) → AllByRecursion (IsHeardBy (slice_set rs place behind)) (c.before ++ c.behind)
others_heard c rs p place peer side behind own x all =
    each_by (IsHeardBy (slice_set rs place behind)) (c.before ++ c.behind)
    (λ q i. other_heard c rs p place peer side behind own x q i (of_each (IsHeardBy rs) q (c.before ++ c.behind) all i))

-- and of this one none but the record of its asker
this_heard : (c : Around) (rs : List RecordNow) (p : PendingNow) (place : ℕ) (peer : Addr) (side behind : RecordNow) → Judges c rs p place peer side behind → IsHeardBy rs p → IsHeardBy (slice_set rs place behind) p
this_heard c rs p place peer side behind x heard =
    all_but_one Heard Heard rs place side behind x.home.within x.home.here (λ r h. h)
    (λ h asked. ap (λ o. is_asker o (peer_of behind)) x.asker ∙ ap (same_addr peer) (same_peer side behind x.grows) ∙ x.home.same) heard
  where
    Heard : RecordNow → Type 0
    Heard r = is_among p.half.trail.socket (asked_on r) ≡ true → is_asker p.asker (peer_of r) ≡ true

-- ---- the socket isn't taken

pub record JudgesAlone (c : Around) (rs : List RecordNow) (p : PendingNow) (place : ℕ) (peer : Addr) (side behind : RecordNow) : Type 0 where
  pub judges : Judges c rs p place peer side behind
  pub trails : behind.trails ≡ side.trails
  pub ends : AreLater (ends_of side) (ends_of behind)

has_still : (c : Around) (rs : List RecordNow) (p : PendingNow) (place : ℕ) (peer : Addr) (side behind : RecordNow) → JudgesAlone c rs p place peer side behind →
    HasItsHalves (all_left (halves_with c p)) side → HasItsHalves (all_left (halves_with c p)) behind
has_still c rs p place peer side behind x has k asked = at (x.judges.asked k asked)
  where
    sockets : List SocketId
    sockets = sockets_left (all_left (halves_with c p))

    at : (is_among k (asked_on side) ≡ true) ⊎ (k ≡ p.half.trail.socket) → is_among k (sockets_taken behind ++ sockets) ≡ true
    at (inl h) = ap (λ (ts : List TrailNow). is_among k (map (λ (t : TrailNow). t.socket) ts ++ sockets)) x.trails ∙ has k h
    at (inr e) = among_back k (sockets_taken behind) sockets (among_mapped socket_of (left p) k (all_left (halves_with c p)) (this_left c p) e)

pub record_judges : (c : Around) (rs : List RecordNow) (p : PendingNow) (place : ℕ) (peer : Addr) (side behind : RecordNow) → AreOwn (held_with c rs p) → JudgesAlone c rs p place peer side behind →
    Grows (held_with c rs p) (held_with c (slice_set rs place behind) p)
record_judges c rs p place peer side behind own x =
    let home = x.judges.home in
    let ss = slice_set rs place behind in
    let h = halves_with c p in
    parts_grow c.port rs ss h h own
    (record {
      records = one_grows rs place side behind home.within home.here x.judges.grows;
      fed = all_but_one IsFed IsFed rs place side behind home.within home.here (λ r f. f) x.judges.fed own.fed;
      halves = halves_same h ss;
      ends = later_before (ends_of_all rs) (ends_of_all ss) (ends_in h) (ends_of_one rs place side behind home.within home.here x.ends);
      on = own.on_socket;
      here = own.here;
      asked = λ now grow. asked_at (all_ends (held_with c rs p)) now grow rs place side behind home.within home.here x.judges.since;
      judged = (λ j. record {
        each = all_but_one (HasItsHalves (all_left h)) (HasItsHalves (all_left h)) rs place side behind home.within home.here (λ r f. f) (has_still c rs p place peer side behind x) j.each;
        made = all_but_one (AskedOnMade c.port.made) (AskedOnMade c.port.made) rs place side behind home.within home.here (λ r f. f) (made_still c rs p place peer side behind own x.judges) j.made;
        here = all_but_one (AskedTowards c.port.at) (AskedTowards c.port.at) rs place side behind home.within home.here (λ r f. f) (towards_still c rs p place peer side behind own x.judges) j.here;
        one_judge = one_still c rs p place peer side behind x.judges j.peers (mid_out (IsHeardBy rs) p c.before c.behind j.askers).0 j.one_judge;
        askers = let two = mid_out (IsHeardBy rs) p c.before c.behind j.askers in
            mid_in (IsHeardBy ss) p c.before c.behind (this_heard c rs p place peer side behind x.judges two.0) (others_heard c rs p place peer side behind own x.judges two.1);
        peers = subst (IsDistinct same_addr) (sym (same_peers side behind rs place home.within home.here (same_peer side behind x.judges.grows))) j.peers;
      });
    })

-- ---- the socket is taken

pub record Takes (c : Around) (rs : List RecordNow) (p : PendingNow) (place : ℕ) (peer : Addr) (side behind : RecordNow) : Type 0 where
  pub judges : Judges c rs p place peer side behind
  pub trail : TrailNow
  pub last : behind.trails ≡ side.trails ++ trail ∷ []
  pub of_half : TrailGrows p.half.trail trail
  pub ends : AreLater (ends_of side ++ p.half.end ∷ []) (ends_of behind)

-- the asks of other halves have theirs still
without_it : (c : Around) (p : PendingNow) (k : SocketId) → is_among k (sockets_left (all_left (halves_with c p))) ≡ true → (k ≡ p.half.trail.socket) ⊎ (is_among k (sockets_left (all_left (halves_without c))) ≡ true)
without_it c p k e =
    let found = whose socket_of k (all_left (halves_with c p)) e in
    at found.item found.is (whose_left c p found.item found.there)
  where
    at : (l : LooseNow) → k ≡ socket_of l → (l ≡ left p) ⊎ IsOneOf l (all_left (halves_without c)) → (k ≡ p.half.trail.socket) ⊎ (is_among k (sockets_left (all_left (halves_without c))) ≡ true)
    at l is (inl h) = inl (is ∙ ap socket_of h)
    at l is (inr i) = inr (among_mapped socket_of l k (all_left (halves_without c)) i is)

-- of a record that hasn't judged on its socket
others_have : (c : Around) (p : PendingNow) (peer : Addr) (r : RecordNow) → p.asker ≡ Some peer → same_addr peer (peer_of r) ≡ false →
    HasItsHalves (all_left (halves_with c p)) r × (is_among p.half.trail.socket (asked_on r) ≡ true → is_asker p.asker (peer_of r) ≡ true) → HasItsHalves (all_left (halves_without c)) r
others_have c p peer r asker other (has, heard) k asked = at (among_part k (sockets_taken r) (sockets_left (all_left (halves_with c p))) (has k asked))
  where
    by : (k ≡ p.half.trail.socket) ⊎ (is_among k (sockets_left (all_left (halves_without c))) ≡ true) → is_among k (sockets_taken r ++ sockets_left (all_left (halves_without c))) ≡ true
    by (inl e) = absurd (false_isnt_true (sym other ∙ ap (λ o. is_asker o (peer_of r)) (sym asker) ∙ heard (ap (λ j. is_among j (asked_on r)) (sym e) ∙ asked)))
    by (inr h) = among_back k (sockets_taken r) (sockets_left (all_left (halves_without c))) h

    at : (is_among k (sockets_taken r) ≡ true) ⊎ (is_among k (sockets_left (all_left (halves_with c p))) ≡ true) → is_among k (sockets_taken r ++ sockets_left (all_left (halves_without c))) ≡ true
    at (inl h) = among_front k (sockets_taken r) (sockets_left (all_left (halves_without c))) h
    at (inr h) = by (without_it c p k h)

-- and of the one that took it
taker_has : (c : Around) (rs : List RecordNow) (p : PendingNow) (place : ℕ) (peer : Addr) (side behind : RecordNow) → Takes c rs p place peer side behind →
    HasItsHalves (all_left (halves_with c p)) side → HasItsHalves (all_left (halves_without c)) behind
taker_has c rs p place peer side behind x has k asked = at (x.judges.asked k asked)
  where
    rest : List SocketId
    rest = sockets_left (all_left (halves_without c))

    socket : TrailNow → SocketId
    socket t = t.socket

    taken : IsOneOf x.trail behind.trails
    taken = subst (IsOneOf x.trail) (sym x.last) (one_back x.trail side.trails (x.trail ∷ []) (inl refl))

    here : k ≡ p.half.trail.socket → is_among k (sockets_taken behind ++ rest) ≡ true
    here e = among_front k (sockets_taken behind) rest (among_mapped socket x.trail k behind.trails taken (e ∙ sym x.of_half.socket))

    before : (t : TrailNow) → IsOneOf t side.trails → k ≡ t.socket → is_among k (sockets_taken behind ++ rest) ≡ true
    before t i is = among_front k (sockets_taken behind) rest (among_mapped socket t k behind.trails (subst (IsOneOf t) (sym x.last) (one_front t side.trails (x.trail ∷ []) i)) is)

    by : (k ≡ p.half.trail.socket) ⊎ (is_among k rest ≡ true) → is_among k (sockets_taken behind ++ rest) ≡ true
    by (inl e) = here e
    by (inr h) = among_back k (sockets_taken behind) rest h

    had : (is_among k (sockets_taken side) ≡ true) ⊎ (is_among k (sockets_left (all_left (halves_with c p))) ≡ true) → is_among k (sockets_taken behind ++ rest) ≡ true
    had (inl h) = let found = whose socket k side.trails h in before found.item found.there found.is
    had (inr h) = by (without_it c p k h)

    at : (is_among k (asked_on side) ≡ true) ⊎ (k ≡ p.half.trail.socket) → is_among k (sockets_taken behind ++ rest) ≡ true
    at (inl h) = had (among_part k (sockets_taken side) (sockets_left (all_left (halves_with c p))) (has k h))
    at (inr e) = here e

pub record_takes : (c : Around) (rs : List RecordNow) (p : PendingNow) (place : ℕ) (peer : Addr) (side behind : RecordNow) → AreOwn (held_with c rs p) → Takes c rs p place peer side behind →
    Grows (held_with c rs p) (held_without c (slice_set rs place behind))
record_takes c rs p place peer side behind own x =
    parts_grow c.port rs ss (halves_with c p) (halves_without c) own
    (record {
      records = one_grows rs place side behind x.judges.home.within x.judges.home.here x.judges.grows;
      fed = all_but_one IsFed IsFed rs place side behind x.judges.home.within x.judges.home.here (λ r f. f) x.judges.fed own.fed;
      halves = each_by (λ (l : LooseNow). IsLeft (halves_without c) l.trail ⊎ IsTakenBy ss l.trail) (all_left (halves_with c p)) (λ l i. where_left l (whose_left c p l i));
      ends = ends;
      on = each_by IsOnSocket (all_left (halves_without c)) (others_on c p own.on_socket);
      here = each_by (IsHere c.port.at) (all_left (halves_without c)) (of_others (IsHere c.port.at) c p own.here);
      asked = λ now grow. asked_at (all_ends (held_with c rs p)) now grow rs place side behind x.judges.home.within x.judges.home.here x.judges.since;
      judged = judged;
    })
  where
    ss : List RecordNow
    ss = slice_set rs place behind

    taken : IsTakenBy ss p.half.trail
    taken = record {
      side = behind;
      there = one_there rs place behind x.judges.home.within;
      trail = x.trail;
      taken = subst (IsOneOf x.trail) (sym x.last) (one_back x.trail side.trails (x.trail ∷ []) (inl refl));
      grows = x.of_half;
    }

    where_left : (l : LooseNow) → (l ≡ left p) ⊎ IsOneOf l (all_left (halves_without c)) → IsLeft (halves_without c) l.trail ⊎ IsTakenBy ss l.trail
    where_left l (inl e) = inr (subst (λ (y : LooseNow). IsTakenBy ss y.trail) (sym e) taken)
    where_left l (inr i) = inl (record { half = l; there = i; grows = trail_same l.trail })

    -- the ends of the other halves
    rest : List SeenEnd
    rest = ends_in (halves_without c)

    ends : AreLater (ends_held (held_with c rs p)) (ends_held (held_without c ss))
    ends =
        later_chain (ends_of_all rs ++ ends_in (halves_with c p)) (ends_of_all rs ++ (p.half.end ∷ rest)) (ends_of_all ss ++ rest)
        (later_behind (ends_of_all rs) (ends_in (halves_with c p)) (p.half.end ∷ rest)
        (later_before (map end_of (c.before ++ p ∷ c.behind)) (p.half.end ∷ map end_of (c.before ++ c.behind)) (map loose_end c.loose) (end_first p c.before c.behind)))
        (subst (λ es. AreLater es (ends_of_all ss ++ rest)) (append_assoc (ends_of_all rs) (p.half.end ∷ []) rest)
        (later_before (ends_of_all rs ++ p.half.end ∷ []) (ends_of_all ss) rest (ends_with_one rs place side behind p.half.end x.judges.home.within x.judges.home.here x.ends)))

    judged : HaveTheirHalves (held_with c rs p) → HaveTheirHalves (held_without c ss)
    judged j =
        let two = mid_out (IsHeardBy rs) p c.before c.behind j.askers in
        record {
          each = with_one
              (λ r. HasItsHalves (all_left (halves_with c p)) r × (is_among p.half.trail.socket (asked_on r) ≡ true → is_asker p.asker (peer_of r) ≡ true))
              (HasItsHalves (all_left (halves_without c))) peer side behind rs place j.peers x.judges.home.within x.judges.home.here x.judges.home.same
              (λ r other both. others_have c p peer r x.judges.asker other both)
              (λ both. taker_has c rs p place peer side behind x both.0)
              (each_of_two (HasItsHalves (all_left (halves_with c p))) (λ r. is_among p.half.trail.socket (asked_on r) ≡ true → is_asker p.asker (peer_of r) ≡ true) _ (λ r a b. (a, b)) rs j.each two.0);
          made = all_but_one (AskedOnMade c.port.made) (AskedOnMade c.port.made) rs place side behind x.judges.home.within x.judges.home.here (λ r f. f) (made_still c rs p place peer side behind own x.judges) j.made;
          here = all_but_one (AskedTowards c.port.at) (AskedTowards c.port.at) rs place side behind x.judges.home.within x.judges.home.here (λ r f. f) (towards_still c rs p place peer side behind own x.judges) j.here;
          one_judge = one_still c rs p place peer side behind x.judges j.peers two.0 j.one_judge;
          askers = others_heard c rs p place peer side behind own x.judges two.1;
          peers = subst (IsDistinct same_addr) (sym (same_peers side behind rs place x.judges.home.within x.judges.home.here (same_peer side behind x.judges.grows))) j.peers;
        }
