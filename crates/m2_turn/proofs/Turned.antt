-- The sessions of a center behind a half's turn.
use Rattle.std.proofs.Common.{◌≡◌, ℕ, ◌<◌, ◌≤◌, zero, suc, Bool, true, false, ◌||◌, if◌then◌else◌, List, [], ◌∷◌, ◌++◌, map, length, Option, Some, None, refl, sym, ap, subst, ◌∙◌, append_assoc, arith}
use Rattle.std.specs.Prelude.{position, slice_index_or, slice_set}
use Rattle.std.specs.List.{AllByRecursion, IsDistinct, list_any}
use Rattle.std.proofs.lemmas.List.{get_or-map, length-map}
use Rattle.std.proofs.lemmas.List.Quantifiers.{position-Some}
use Rattle.std.proofs.lemmas.List.Sorted.{IsPermutation-sym, IsPermutation-to_front}
use Rattle.std.proofs.lemmas.Map.Keys.{IsDistinct-cons, IsDistinct-head, IsDistinct-IsPermutation, IsDistinct-tail}
use Rattle.m2_addr.specs.declared.addr.Addr.{Addr}
use Rattle.m2_fabric.specs.declared.socket.SocketId.{SocketId}
use Rattle.m2_fabric.specs.Sockets.{IsNewTo, is_among, same_socket}
use Rattle.m2_handshake.specs.Asks.{is_known, same_addr}
use Rattle.m2_trail.specs.HalfLaws.{IsLater}
use Rattle.m2_feed.specs.m2_journal.declared.entry.JudgedItem.{JudgedItem}
use Rattle.m2_feed.specs.m2_journal.Lawful.{judged_on}
use Rattle.m2_record.specs.Calls.{Owns}
use Rattle.m2_record.specs.IsRecord.{IsRecord}
use Rattle.m2_record.specs.RecordNow.{RecordNow, ends_of, ids_of}
use Rattle.m2_record.specs.TakenTrails.{judgements_in}
use Rattle.m2_record.proofs.Topmost.{top-fits}
use Rattle.m2_shared.specs.declared.limits.TheConstants.{LAST_NUMBER}
use Rattle.m2_trail.specs.Arrivals.{LooseNow, closed_of}
use Rattle.m2_trail.specs.Incoming.{IncomingNow}
use Rattle.m2_turn.specs.declared.answering.HalfAnswered.{HalfAnswered}
use Rattle.m2_turn.specs.declared.answering.HalfAnswered.TheVariants as half
use Rattle.m2_turn.specs.declared.half_turn.HalfTurned.TheVariants as turned
use Rattle.m2_turn.specs.Answering.{IsKnown, IsStill, StaysAnswered, StaysKnown}
use Rattle.m2_turn.specs.declared.half_turn.HalfMoved.{HalfMoved}
use Rattle.m2_turn.specs.HalfTurn.{AnswersAt, AnswersFrom, HalfTurning, Homes, Others, Replies, RepliesOnce, asked_by, home_of_ask, moved_by, with_half, with_moved, with_turned}
use Rattle.m2_turn.specs.RecordTurn.{Means}
use Rattle.m2_turn.specs.Sessions.{AreConsistent, Caller, IsCaller, IsSupplied, IsTold, PendingNow, Sessions, Supply, WasCaller, caller_in, caller_of, is_asker, peer_of, sockets_of, told_by}
use Rattle.m2_turn.proofs.Peers.{at_place, each_of_two, same_peers, with_one}
use Rattle.m2_bytes.proofs.m2_lemmas.Lists.{all_last, all_so}
use Rattle.m2_fabric.proofs.Sockets.{same_turned, apart_turned}
use Rattle.m2_bytes.proofs.m2_lemmas.Booleans.{false_isnt_true}
use Rattle.m2_handshake.proofs.Idents.{same_means}

-- ---- lists

replaced : {X : Type 0} (P : X → Type 0) (xs : List X) (place : ℕ) (x : X) → AllByRecursion P xs → P x → AllByRecursion P (slice_set xs place x)
replaced P [] place x all p = tt
replaced P (y ∷ ys) zero x all p = (p, all.1)
replaced P (y ∷ ys) (suc n) x all p = (all.0, replaced P ys n x all.1 p)

distinct_last : (ks : List SocketId) (k : SocketId) → IsDistinct same_socket (k ∷ ks) → IsDistinct same_socket (ks ++ k ∷ [])
distinct_last ks k = IsDistinct-IsPermutation same_socket same_turned (k ∷ ks) (ks ++ k ∷ []) (IsPermutation-sym (ks ++ k ∷ []) (k ∷ ks) (IsPermutation-to_front ks k))

-- ---- a half, and the sessions without it

abbrev pub without : Others → List RecordNow → Sessions
without c records = record { made = c.made; records = records; halves = c.halves; loose = c.loose }

-- no other half has its socket
abbrev pub HasItsSocket : SocketId → Others → Type 0
HasItsSocket k c = (records : List RecordNow) → AllByRecursion (λ j. same_socket k j ≡ false) (sockets_of (without c records))

pub record IsApart (s : Supply) (e : ℕ) (p : Caller) (c : Others) (records : List RecordNow) : Type 0 where
  pub rest : AreConsistent s e (without c records)
  pub caller : IsCaller c.made records p
  pub own : HasItsSocket p.socket c

pub taken_apart : (s : Supply) (e : ℕ) (p : PendingNow) (c : Others) (records : List RecordNow) → AreConsistent s e (with_half p c records) → IsApart s e (caller_in p) c records
taken_apart s e p c records all = record {
  rest = record {
    records = all.records;
    kind = all.kind;
    peers = all.peers;
    halves = all.halves.1;
    loose = all.loose;
    apart = IsDistinct-tail same_socket p.half.end.id (sockets_of (without c records)) all.apart;
  };
  caller = all.halves.0;
  own = (λ _. IsDistinct-head same_socket p.half.end.id (sockets_of (without c records)) all.apart);
}

pub before_others : (s : Supply) (e : ℕ) (p : PendingNow) (c : Others) (records : List RecordNow) → IsApart s e (caller_in p) c records → AreConsistent s e (with_half p c records)
before_others s e p c records all = record {
  records = all.rest.records;
  kind = all.rest.kind;
  peers = all.rest.peers;
  halves = (all.caller, all.rest.halves);
  loose = all.rest.loose;
  apart = IsDistinct-cons same_socket p.half.end.id (sockets_of (without c records)) (all.own records) all.rest.apart;
}

ids_last : (ls : List LooseNow) (l : LooseNow) → map (λ (x : LooseNow). x.end.id) (ls ++ l ∷ []) ≡ map (λ (x : LooseNow). x.end.id) ls ++ l.end.id ∷ []
ids_last [] l = refl
ids_last (x ∷ xs) l = ap (λ t. x.end.id ∷ t) (ids_last xs l)

halves_last : (hs : List PendingNow) (p : PendingNow) → map (λ (x : PendingNow). x.half.end.id) (hs ++ p ∷ []) ≡ map (λ (x : PendingNow). x.half.end.id) hs ++ p.half.end.id ∷ []
halves_last [] p = refl
halves_last (x ∷ xs) p = ap (λ t. x.half.end.id ∷ t) (halves_last xs p)

-- it is the last of those that are over
pub over : (s : Supply) (e : ℕ) (asker : Option Addr) (l : LooseNow) (c : Others) (records : List RecordNow) → IsApart s e (caller_of asker l) c records →
    AreConsistent s e (record { made = c.made; records = records; halves = c.halves; loose = c.loose ++ l ∷ [] })
over s e asker l c records all = record {
  records = all.rest.records;
  kind = all.rest.kind;
  peers = all.rest.peers;
  halves = all.rest.halves;
  loose = all_last (WasCaller c.made records) c.loose l all.rest.loose (record { asker = asker; caller = all.caller });
  apart = subst (IsDistinct same_socket)
      (append_assoc (map (λ (p : PendingNow). p.half.end.id) c.halves) (map (λ (x : LooseNow). x.end.id) c.loose) (l.end.id ∷ [])
      ∙ ap (λ t. map (λ (p : PendingNow). p.half.end.id) c.halves ++ t) (sym (ids_last c.loose l)))
      (distinct_last (sockets_of (without c records)) l.end.id
      (IsDistinct-cons same_socket l.end.id (sockets_of (without c records)) (all.own records) all.rest.apart));
}

-- ---- an asker is noted

nobody : (rs : List RecordNow) → list_any (λ r. is_asker None (peer_of r)) rs ≡ false
nobody [] = refl
nobody (r ∷ rs) = nobody rs

told_nothing : (b : Bool) (judged : List JudgedItem) → judged ≡ [] → (if b then judged else []) ≡ []
told_nothing true judged e = e
told_nothing false judged e = refl

-- the first ask: nothing was judged
first_noted : (made : List SocketId) (rs : List RecordNow) (a : IncomingNow) (peer : Addr) → IsCaller made rs (caller_in (record { half = a; asker = None })) → IsCaller made rs (caller_in (asked_by a peer))
first_noted made rs a peer all = record {
  made = all.made;
  told = all_so (IsTold (caller_in (record { half = a; asker = None }))) (IsTold (caller_in (asked_by a peer)))
      (λ r t. record { entity = t.entity; new = t.new; judged = told_nothing (same_addr peer (peer_of r)) a.trail.judged none ∙ t.judged }) rs all.told;
  unheard = (λ _. none);
}
  where
    none : a.trail.judged ≡ []
    none = all.unheard (nobody rs)

pub noted : (made : List SocketId) (rs : List RecordNow) (a : IncomingNow) (asker : Option Addr) (peer : Addr) → is_known asker peer ≡ true →
    IsCaller made rs (caller_in (record { half = a; asker = asker })) → IsCaller made rs (caller_in (asked_by a peer))
noted made rs a None peer known all = first_noted made rs a peer all
noted made rs a (Some first) peer known all = subst (λ p. IsCaller made rs (caller_in (asked_by a p))) (same_means first peer known) all

-- ---- the record that answers

-- the record at this place is that of the peer
pub record IsHome (rs : List RecordNow) (place : ℕ) (peer : Addr) (side : RecordNow) : Type 0 where
  pub within : place < length rs
  pub here : slice_index_or rs place side ≡ side
  pub same : same_addr peer (peer_of side) ≡ true

pub known_home : (made : List SocketId) (rs : List RecordNow) (place : ℕ) (peer : Addr) (side : RecordNow) (a : IncomingNow) → IsHome rs place peer side →
    IsCaller made rs (caller_in (asked_by a peer)) → IsKnown a side
known_home made rs place peer side a home all =
    let told = at_place (IsTold (caller_in (asked_by a peer))) side rs place home.within home.here all.told in
    record { entity = told.entity; new = told.new; judged = sym (ap (λ b. if b then a.trail.judged else []) home.same) ∙ told.judged }

-- what the record that answers leaves, and what the passes reach then
pub record IsAnswered {E : Type 0} (answer : HalfAnswered E) (a : IncomingNow) (old new : Supply) (side behind : RecordNow) : Type 0 where
  pub stays : StaysAnswered answer a side behind
  pub places : new.places ≡ old.places
  pub owned : Owns new.places behind
  pub top : behind.core.top ≤ new.least
  pub reached : (n : ℕ) → n ≤ LAST_NUMBER → n ≤ old.least → n ≤ new.least

pub same_peer : {E : Type 0} (answer : HalfAnswered E) (a : IncomingNow) (side behind : RecordNow) → StaysAnswered answer a side behind → peer_of behind ≡ peer_of side
same_peer answer a side behind stays = ap (λ f. f.peer) stays.facts

-- ---- other halves

any_peer : (test : Addr → Bool) (rs : List RecordNow) → list_any (λ r. test (peer_of r)) rs ≡ list_any test (map peer_of rs)
any_peer test [] = refl
any_peer test (r ∷ rs) = ap (λ b. test (peer_of r) || b) (any_peer test rs)

same_any : (test : Addr → Bool) (rs ss : List RecordNow) → map peer_of ss ≡ map peer_of rs → list_any (λ r. test (peer_of r)) ss ≡ list_any (λ r. test (peer_of r)) rs
same_any test rs ss e = any_peer test ss ∙ ap (list_any test) e ∙ sym (any_peer test rs)

-- a half as a record sees it, in place of this one
abbrev seen_as : IncomingNow → Caller → List JudgedItem → IncomingNow
seen_as a c judged = record a { end = record a.end { id = c.socket }; trail = record a.trail { entity = c.entity; judged = judged } }

still_told : {E : Type 0} (answer : HalfAnswered E) (a : IncomingNow) (side behind : RecordNow) (c : Caller) → StaysAnswered answer a side behind → same_socket c.socket a.end.id ≡ false →
    IsTold c side → IsTold c behind
still_told answer a side behind c stays other told =
    let known = stays.others (seen_as a c (told_by side c)) other (record { entity = told.entity; new = told.new; judged = told.judged }) in
    record { entity = known.entity; new = known.new; judged = ap (λ p. if is_asker c.asker p then c.judged else []) (same_peer answer a side behind stays) ∙ known.judged }

other_caller : {E : Type 0} (answer : HalfAnswered E) (made : List SocketId) (rs : List RecordNow) (place : ℕ) (peer : Addr) (a : IncomingNow) (side behind : RecordNow) (c : Caller) →
    IsDistinct same_addr (map peer_of rs) → IsHome rs place peer side → StaysAnswered answer a side behind → same_socket c.socket a.end.id ≡ false →
    IsCaller made rs c → IsCaller made (slice_set rs place behind) c
other_caller answer made rs place peer a side behind c distinct home stays other all = record {
  made = all.made;
  told = with_one (IsTold c) (IsTold c) peer side behind rs place distinct home.within home.here home.same (λ r _ t. t) (still_told answer a side behind c stays other) all.told;
  unheard = (λ none. all.unheard (sym (same_any (is_asker c.asker) rs (slice_set rs place behind) (same_peers side behind rs place home.within home.here (same_peer answer a side behind stays))) ∙ none));
}

-- ---- the half itself

told_all : (b : Bool) (judged : List JudgedItem) → b ≡ true → (if b then judged else []) ≡ judged
told_all b judged e = ap (λ x. if x then judged else []) e

told_none : (b : Bool) (judged : List JudgedItem) → b ≡ false → (if b then judged else []) ≡ []
told_none b judged e = ap (λ x. if x then judged else []) e

all_fail : (test : RecordNow → Bool) (rs : List RecordNow) → list_any test rs ≡ false → AllByRecursion (λ r. test r ≡ false) rs
all_fail test [] e = tt
all_fail test (r ∷ rs) e = at (test r) refl e (all_fail test rs)
  where
    at : (b : Bool) → test r ≡ b → b || list_any test rs ≡ false → (list_any test rs ≡ false → AllByRecursion (λ r. test r ≡ false) rs) → AllByRecursion (λ r. test r ≡ false) (r ∷ rs)
    at true f e rest = absurd (false_isnt_true (sym e))
    at false f e rest = (f, rest e)

heard_here : (test : RecordNow → Bool) (rs : List RecordNow) (place : ℕ) (side : RecordNow) → place < length rs → slice_index_or rs place side ≡ side → test side ≡ true → list_any test rs ≡ false → ⊥
heard_here test rs place side within here passes none = false_isnt_true (sym (at_place (λ r. test r ≡ false) side rs place within here (all_fail test rs none)) ∙ passes)

own_caller : {E : Type 0} (answer : HalfAnswered E) (made : List SocketId) (entity : ℕ) (rs : List RecordNow) (place : ℕ) (peer : Addr) (a b : IncomingNow) (side behind : RecordNow) →
    IsDistinct same_addr (map peer_of rs) → AllByRecursion (λ (r : RecordNow). r.core.facts.node.entity ≡ entity) rs → IsHome rs place peer side → StaysAnswered answer a side behind → IsStill b a behind →
    IsCaller made rs (caller_in (asked_by a peer)) → IsCaller made (slice_set rs place behind) (caller_in (asked_by b peer))
own_caller answer made entity rs place peer a b side behind distinct kind home stays still all = record {
  made = ap (λ k. is_among k made) still.id ∙ all.made;
  told = with_one (λ r. IsTold (caller_in (asked_by a peer)) r × (r.core.facts.node.entity ≡ entity)) (IsTold (caller_in (asked_by b peer))) peer side behind rs place distinct home.within home.here home.same
      (λ r other known. record {
        entity = same_kind ∙ sym known.1;
        new = subst (IsNewTo (ids_of (ends_of r))) (sym still.id) known.0.new;
        judged = told_none (same_addr peer (peer_of r)) b.trail.judged other ∙ sym (told_none (same_addr peer (peer_of r)) a.trail.judged other) ∙ known.0.judged
            ∙ ap (λ k. judged_on k (judgements_in r.journal)) (sym still.id);
      })
      (λ known. record {
        entity = still.known.entity;
        new = still.known.new;
        judged = told_all (same_addr peer (peer_of behind)) b.trail.judged (ap (same_addr peer) (same_peer answer a side behind stays) ∙ home.same) ∙ still.known.judged;
      })
      (each_of_two (IsTold (caller_in (asked_by a peer))) (λ (r : RecordNow). r.core.facts.node.entity ≡ entity) _ (λ r t k. (t, k)) rs all.told kind);
  unheard = (λ none. absurd (heard_here (λ r. same_addr peer (peer_of r)) rs place side home.within home.here home.same
      (sym (same_any (same_addr peer) rs (slice_set rs place behind) (same_peers side behind rs place home.within home.here (same_peer answer a side behind stays))) ∙ none)));
}
  where
    same_kind : b.trail.entity ≡ entity
    same_kind = still.known.entity ∙ ap (λ f. f.node.entity) stays.facts ∙ at_place (λ r. r.core.facts.node.entity ≡ entity) side rs place home.within home.here kind

-- ---- all of them

-- sockets that aren't this one
abbrev AreOthers : SocketId → List SocketId → Type 0
AreOthers k js = AllByRecursion (λ j. same_socket k j ≡ false) js

front_of : (k : SocketId) (js is : List SocketId) → AreOthers k (js ++ is) → AreOthers k js
front_of k [] is all = tt
front_of k (j ∷ js) is all = (all.0, front_of k js is all.1)

back_of : (k : SocketId) (js is : List SocketId) → AreOthers k (js ++ is) → AreOthers k is
back_of k [] is all = all
back_of k (j ∷ js) is all = back_of k js is all.1

by_id : {X : Type 0} (P : SocketId → Type 0) (id : X → SocketId) (xs : List X) → AllByRecursion P (map id xs) → AllByRecursion (λ x. P (id x)) xs
by_id P id [] all = tt
by_id P id (x ∷ xs) all = (all.0, by_id P id xs all.1)

rest_answered : {E : Type 0} (answer : HalfAnswered E) (old new : Supply) (e : ℕ) (place : ℕ) (peer : Addr) (a : IncomingNow) (side behind : RecordNow) (c : Others) (rs : List RecordNow) →
    AllByRecursion (λ (r : RecordNow). r.core.top ≤ LAST_NUMBER) rs → IsHome rs place peer side → IsAnswered answer a old new side behind →
    IsApart old e (caller_in (asked_by a peer)) c rs → AreConsistent new e (without c (slice_set rs place behind))
rest_answered answer old new e place peer a side behind c rs fits home is all = record {
  records = replaced (IsSupplied new c.made) rs place behind
      (each_of_two (IsSupplied old c.made) (λ (r : RecordNow). r.core.top ≤ LAST_NUMBER) (IsSupplied new c.made)
      (λ r had fit. record { owned = subst (λ p. Owns p r) (sym is.places) had.owned; top = is.reached r.core.top fit had.top; made = had.made }) rs all.rest.records fits)
      (record { owned = is.owned; top = is.top; made = is.stays.made c.made all.caller.made (at_place (IsSupplied old c.made) side rs place home.within home.here all.rest.records).made });
  kind = replaced (λ (r : RecordNow). r.core.facts.node.entity ≡ e) rs place behind all.rest.kind
      (ap (λ f. f.node.entity) is.stays.facts ∙ at_place (λ r. r.core.facts.node.entity ≡ e) side rs place home.within home.here all.rest.kind);
  peers = subst (IsDistinct same_addr) (sym (same_peers side behind rs place home.within home.here (same_peer answer a side behind is.stays))) all.rest.peers;
  halves = each_of_two (λ (p : PendingNow). IsCaller c.made rs (caller_in p)) (λ (p : PendingNow). same_socket a.end.id p.half.end.id ≡ false)
      (λ (p : PendingNow). IsCaller c.made (slice_set rs place behind) (caller_in p))
      (λ p caller other. beside (caller_in p) other caller) c.halves all.rest.halves
      (by_id (λ j. same_socket a.end.id j ≡ false) (λ (p : PendingNow). p.half.end.id) c.halves (front_of a.end.id (map (λ (p : PendingNow). p.half.end.id) c.halves) (map (λ (l : LooseNow). l.end.id) c.loose) (all.own rs)));
  loose = each_of_two (WasCaller c.made rs) (λ (l : LooseNow). same_socket a.end.id l.end.id ≡ false) (WasCaller c.made (slice_set rs place behind))
      (λ l was other. record { asker = was.asker; caller = beside (caller_of was.asker l) other was.caller }) c.loose all.rest.loose
      (by_id (λ j. same_socket a.end.id j ≡ false) (λ (l : LooseNow). l.end.id) c.loose (back_of a.end.id (map (λ (p : PendingNow). p.half.end.id) c.halves) (map (λ (l : LooseNow). l.end.id) c.loose) (all.own rs)));
  apart = all.rest.apart;
}
  where
    beside : (d : Caller) → same_socket a.end.id d.socket ≡ false → IsCaller c.made rs d → IsCaller c.made (slice_set rs place behind) d
    beside d other = other_caller answer c.made rs place peer a side behind d all.rest.peers home is.stays (apart_turned a.end.id d.socket other)

-- what the half came to by the answer
pub answered_consistent : {E : Type 0} (answer : HalfAnswered E) (old new : Supply) (e : ℕ) (place : ℕ) (peer : Addr) (a : IncomingNow) (side behind : RecordNow) (c : Others) (rs : List RecordNow) →
    AllByRecursion (λ (r : RecordNow). r.core.top ≤ LAST_NUMBER) rs → IsHome rs place peer side → IsAnswered answer a old new side behind →
    IsApart old e (caller_in (asked_by a peer)) c rs → AreConsistent new e (with_moved (moved_by answer peer) c (slice_set rs place behind))
answered_consistent {E} answer old new e place peer a side behind c rs fits home is all = at answer is.stays.itself
  where
    rest : AreConsistent new e (without c (slice_set rs place behind))
    rest = rest_answered answer old new e place peer a side behind c rs fits home is all

    with_it : (b : IncomingNow) → IsStill b a behind → IsApart new e (caller_in (asked_by b peer)) c (slice_set rs place behind)
    with_it b still = record {
      rest = rest;
      caller = own_caller answer c.made e rs place peer a b side behind all.rest.peers all.rest.kind home is.stays still all.caller;
      own = (λ records. subst (λ k. AreOthers k (sockets_of (without c records))) (sym still.id) (all.own records));
    }

    at : (x : HalfAnswered E) → StaysKnown x a behind → AreConsistent new e (with_moved (moved_by x peer) c (slice_set rs place behind))
    at (half.Taken answer) _ = rest
    at (half.Open goes_on) still = before_others new e (asked_by goes_on peer) c (slice_set rs place behind) (with_it goes_on still)
    at (half.Closed loose) (b, still, closed) =
        subst (λ l. AreConsistent new e (with_turned {E = E} (turned.Over l) c (slice_set rs place behind))) (sym closed)
        (over new e (Some peer) (closed_of b) c (slice_set rs place behind) (with_it b still))
    at (half.Undrawn back) still = before_others new e (asked_by back peer) c (slice_set rs place behind) (with_it back still)
    at (half.NoMemory back) still = before_others new e (asked_by back peer) c (slice_set rs place behind) (with_it back still)

-- ---- where no record answers

-- the half is closed
pub closed_consistent : (s : Supply) (e : ℕ) (p : PendingNow) (c : Others) (rs : List RecordNow) → AreConsistent s e (with_half p c rs) →
    AreConsistent s e (record { made = c.made; records = rs; halves = c.halves; loose = c.loose ++ closed_of p.half ∷ [] })
closed_consistent s e p c rs all = over s e p.asker (closed_of p.half) c rs (taken_apart s e p c rs all)

-- it moved on, and is the same to all records
pub moved_consistent : (s : Supply) (e : ℕ) (p q : PendingNow) (c : Others) (rs : List RecordNow) → caller_in q ≡ caller_in p → AreConsistent s e (with_half p c rs) → AreConsistent s e (with_half q c rs)
moved_consistent s e p q c rs same all = before_others s e q c rs (subst (λ d. IsApart s e d c rs) (sym same) (taken_apart s e p c rs all))

-- ---- where the record of an address is found

-- the place is known only where the address may ask
pub may_ask : (b : Bool) (o : Option ℕ) (place : ℕ) → (if b then o else None) ≡ Some place → (b ≡ true) × (o ≡ Some place)
may_ask true o place e = (refl, e)
may_ask false o place e = absurd cc

pub found_within : (peer : Addr) (peers : List Addr) (rs : List RecordNow) (place : ℕ) → peers ≡ map peer_of rs → position (same_addr peer) peers ≡ Some place → place < length rs
found_within peer peers rs place same found = subst (λ n. place < n) (ap length same ∙ length-map rs peer_of) (position-Some (same_addr peer) peers place peer found).0

pub found_home : (peer : Addr) (peers : List Addr) (rs : List RecordNow) (place : ℕ) (side : RecordNow) → peers ≡ map peer_of rs → position (same_addr peer) peers ≡ Some place →
    side ≡ slice_index_or rs place side → IsHome rs place peer side
found_home peer peers rs place side same found here =
    let within = found_within peer peers rs place same found in
    record {
      within = within;
      here = sym here;
      same = ap (same_addr peer) (ap peer_of here ∙ sym (get_or-map peer_of rs place side peer within) ∙ ap (λ l. slice_index_or l place peer) (sym same))
          ∙ (position-Some (same_addr peer) peers place peer found).1;
    }

-- its asker noted
pub asked_apart : (s : Supply) (a : IncomingNow) (asker : Option Addr) (peer : Addr) (c : Others) (rs : List RecordNow) → is_known asker peer ≡ true →
    AreConsistent s c.entity (with_half (record { half = a; asker = asker }) c rs) → IsApart s c.entity (caller_in (asked_by a peer)) c rs
asked_apart s a asker peer c rs known all =
    let alone = taken_apart s c.entity (record { half = a; asker = asker }) c rs all in
    record { rest = alone.rest; caller = noted c.made rs a asker peer known alone.caller; own = alone.own }

-- what the record that is to answer knows, and what it is supplied with
pub record MayAnswer (s : Supply) (a : IncomingNow) (side : RecordNow) : Type 0 where
  pub known : IsKnown a side
  pub owned : Owns s.places side
  pub top : side.core.top ≤ s.least

pub may_answer : (s : Supply) (a : IncomingNow) (asker : Option Addr) (peer : Addr) (c : Others) (rs : List RecordNow) (place : ℕ) (side : RecordNow) → is_known asker peer ≡ true → IsHome rs place peer side →
    AreConsistent s c.entity (with_half (record { half = a; asker = asker }) c rs) → MayAnswer s a side
may_answer s a asker peer c rs place side known home all =
    let had = at_place (IsSupplied s c.made) side rs place home.within home.here all.records in
    record { known = known_home c.made rs place peer side a home (noted c.made rs a asker peer known all.halves.0); owned = had.owned; top = had.top }

-- ---- an ask that a record answers

-- the place that was found is that of the record of the asking address, which may ask
pub home_found : (asker : Option Addr) (peer : Addr) (peers : List Addr) (rs : List RecordNow) (place : ℕ) (side : RecordNow) (o : Option ℕ) → peers ≡ map peer_of rs → o ≡ home_of_ask asker peer peers → o ≡ Some place →
    side ≡ slice_index_or rs place side → (is_known asker peer ≡ true) × IsHome rs place peer (slice_index_or rs place side)
home_found asker peer peers rs place side o same is some here =
    let found = may_ask (is_known asker peer) (position (same_addr peer) peers) place (sym is ∙ some) in
    (found.0, found_home peer peers rs place (slice_index_or rs place side) same found.1 (ap (slice_index_or rs place) here))

pub place_within : (asker : Option Addr) (peer : Addr) (peers : List Addr) (rs : List RecordNow) (place : ℕ) (o : Option ℕ) → peers ≡ map peer_of rs → o ≡ home_of_ask asker peer peers → o ≡ Some place → place < length rs
place_within asker peer peers rs place o same is some = found_within peer peers rs place same (may_ask (is_known asker peer) (position (same_addr peer) peers) place (sym is ∙ some)).1

pub answered_from : {E : Type 0} (result : HalfMoved E) (answer : HalfAnswered E) (o : Option ℕ) (place : ℕ) (a : IncomingNow) (peer : Addr) (m : Means) (old new : Homes) → o ≡ Some place →
    AnswersAt place answer a m old new → result ≡ moved_by answer peer → AnswersFrom o result a peer m old new
answered_from result answer o place a peer m old new e at is = subst (λ x. AnswersFrom x result a peer m old new) (sym e) (answer, at, is)

pub all_fit : (rs : List RecordNow) → AllByRecursion IsRecord rs → AllByRecursion (λ (r : RecordNow). r.core.top ≤ LAST_NUMBER) rs
all_fit = all_so IsRecord (λ (r : RecordNow). r.core.top ≤ LAST_NUMBER) (λ r kept. omega (arith, top-fits r kept))

-- a half that moved on is the same caller
pub later_caller : (old new : IncomingNow) (asker : Option Addr) → IsLater old new → caller_in (record { half = new; asker = asker }) ≡ caller_in (record { half = old; asker = asker })
later_caller old new asker later =
    ap (λ k. record { socket = k; entity = new.trail.entity; judged = new.trail.judged; asker = asker }) later.end.id
    ∙ ap (λ n. record { socket = old.end.id; entity = n; judged = new.trail.judged; asker = asker }) later.trail.entity
    ∙ ap (λ j. record { socket = old.end.id; entity = old.trail.entity; judged = j; asker = asker }) later.trail.judged

pub later_consistent : (s : Supply) (c : Others) (rs : List RecordNow) (old new : IncomingNow) (asker : Option Addr) → IsLater old new →
    AreConsistent s c.entity (with_half (record { half = old; asker = asker }) c rs) → AreConsistent s c.entity (with_half (record { half = new; asker = asker }) c rs)
later_consistent s c rs old new asker later = moved_consistent s c.entity (record { half = old; asker = asker }) (record { half = new; asker = asker }) c rs (later_caller old new asker later)

pub moved_on : (s : Supply) (o : Others) (rs : List RecordNow) (p q : PendingNow) (new : IncomingNow) → q ≡ p → IsLater q.half new → AreConsistent s o.entity (with_half p o rs) →
    AreConsistent s o.entity (with_half (record { half = new; asker = q.asker }) o rs)
moved_on s o rs p q new same later all = later_consistent s o rs q.half new q.asker later (subst (λ x. AreConsistent s o.entity (with_half x o rs)) (sym same) all)

-- one reply more
pub and_reply : (E : Type 0) (m : Means) (ts : List HalfTurning) (a b c : HalfTurning) → Replies E m ts a b → RepliesOnce E m b c → Replies E m (ts ++ c ∷ []) a c
and_reply E m [] a b c same once = (subst (λ t. RepliesOnce E m t c) (sym same) once, refl)
and_reply E m (t ∷ ts) a b c (first, rest) once = (first, and_reply E m ts t b c rest once)
