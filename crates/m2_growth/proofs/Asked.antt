-- The asks that records have judged since, and who asked.
use Rattle.std.proofs.Common.{◌≡◌, ◌⊎◌, inl, inr, ℕ, zero, suc, ◌<◌, Bool, true, false, List, [], ◌∷◌, ◌++◌, length, drop, Option, Some, None, IfSome, refl, sym, ap, subst, ◌∙◌, append-nil, append_assoc, arith}
use Rattle.std.specs.Prelude.{slice_index_or, slice_set}
use Rattle.std.specs.List.{AllByRecursion}
use Rattle.m2_fabric.specs.declared.socket.SocketId.{SocketId}
use Rattle.m2_fabric.specs.End.{SeenEnd}
use Rattle.m2_fabric.specs.Sockets.{same_socket}
use Rattle.m2_weave.specs.m2_journal.declared.entry.Entry.{Entry}
use Rattle.m2_weave.specs.m2_journal.State.{Judgement}
use Rattle.m2_turn.specs.m2_record.RecordNow.{RecordNow}
use Rattle.m2_turn.specs.m2_record.Sources.{end_at, got_of}
use Rattle.m2_turn.specs.m2_record.TakenTrails.{judgement_of, judgements_in}
use Rattle.m2_turn.specs.Sessions.{peer_of}
use Rattle.m2_turn.proofs.Opened.{filtered}
use Rattle.m2_turn.proofs.m2_record.Ends.{end-first}
use Rattle.m2_bytes_fit.specs.m2_trail.Asks.{IsMain}
use Rattle.m2_weave.specs.Later.{GoesOn}
use Rattle.m2_growth.specs.Ends.{AreOfTheirOwn, EndGrowsTo, EndsGrow, come_to}
use Rattle.m2_growth.specs.Halves.{AreAskedByPeers, IsAskedByPeer, IsAskedHere, IsOneOf, judged_since}
use Rattle.m2_growth.specs.Records.{RecordGrows, RecordsGrow}
use Rattle.m2_growth.proofs.Among.{each_by, in_part, of_each}
use Rattle.m2_growth.proofs.Ends.{none_tail, on_chain, own_tail}
use Rattle.m2_fabric.proofs.m2_lemmas.Booleans.{false_isnt_true}
use Rattle.m2_fabric.proofs.Sockets.{same_equal, same_refl}

-- ---- the end of a socket

pub end_there : (k : SocketId) (e : SeenEnd) (es : List SeenEnd) → IsOneOf e es → k ≡ e.id → end_at es k ≡ None → ⊥
end_there k e [] i same none = i
end_there k e (x ∷ xs) (inl h) same none = false_isnt_true (sym (none_tail x xs k none).0 ∙ ap (λ (y : SeenEnd). same_socket k y.id) (sym h) ∙ ap (same_socket k) (sym same) ∙ same_refl k)
end_there k e (x ∷ xs) (inr h) same none = end_there k e xs h same (none_tail x xs k none).1

-- each of them is the end of its socket
pub end_own : (e : SeenEnd) (es : List SeenEnd) → AreOfTheirOwn es → IsOneOf e es → end_at es e.id ≡ Some e
end_own e [] own i = absurd i
end_own e (x ∷ xs) own (inl h) = subst (λ (y : SeenEnd). end_at (y ∷ xs) e.id ≡ Some e) h (end-first e xs)
end_own e (x ∷ xs) own (inr i) = at (same_socket e.id x.id) refl (end_own e xs (own_tail x xs own).1 i)
  where
    at : (b : Bool) → same_socket e.id x.id ≡ b → end_at xs e.id ≡ Some e → end_at (x ∷ xs) e.id ≡ Some e
    at true same rest = absurd (end_there x.id e xs i (sym (same_equal e.id x.id same)) (own_tail x xs own).0)
    at false other rest = rw other rest

-- ---- what was judged since

drop_front : {X : Type 0} (xs ys : List X) → drop (length xs) (xs ++ ys) ≡ ys
drop_front [] ys = refl
drop_front (x ∷ xs) ys = drop_front xs ys

pub since_more : (old new : RecordNow) (more : List Entry) → new.journal ≡ old.journal ++ more → judged_since old new ≡ judgements_in more
since_more old new more e = ap (λ j. judgements_in (drop (length old.journal) j)) e ∙ ap judgements_in (drop_front old.journal more)

nil_behind : {X : Type 0} (xs ys : List X) → xs ++ ys ≡ xs → ys ≡ []
nil_behind [] ys e = e
nil_behind (x ∷ xs) ys e = nil_behind xs ys cc

-- nothing was, where the journal tells of no more asks
pub none_since : (old new : RecordNow) → GoesOn old.journal new.journal → judgements_in new.journal ≡ judgements_in old.journal → judged_since old new ≡ []
none_since old new (more, e) same =
    since_more old new more e ∙ nil_behind (judgements_in old.journal) (judgements_in more) (sym (filtered judgement_of old.journal more) ∙ sym (ap judgements_in e) ∙ same)

pub same_since : (r : RecordNow) → judged_since r r ≡ []
same_since r = since_more r r [] (sym (append-nil r.journal))

none_asked : (ends now : List SeenEnd) (old new : RecordNow) → judged_since old new ≡ [] → AllByRecursion (IsAskedByPeer ends now new) (judged_since old new)
none_asked ends now old new e = subst (AllByRecursion (IsAskedByPeer ends now new)) (sym e) tt

-- ---- of all records

pub asked_same : (ends now : List SeenEnd) (rs : List RecordNow) → AreAskedByPeers ends now rs rs
asked_same ends now [] = tt
asked_same ends now (r ∷ rs) = (none_asked ends now r r (same_since r), asked_same ends now rs)

pub asked_but_one : (ends now : List SeenEnd) (before rest : List RecordNow) (r s : RecordNow) → judged_since r s ≡ [] → AreAskedByPeers ends now (before ++ r ∷ rest) (before ++ s ∷ rest)
asked_but_one ends now [] rest r s none = (none_asked ends now r s none, asked_same ends now rest)
asked_but_one ends now (x ∷ xs) rest r s none = (none_asked ends now x x (same_since x), asked_but_one ends now xs rest r s none)

-- what it had got stays the first of what the end of its socket has got
got_later : (e : SeenEnd) (p : Option SeenEnd) → EndGrowsTo (Some e) p → GoesOn e.log.got (got_of p)
got_later e (Some f) g = g.got
got_later e None g = absurd g

of_none : (bytes all : List ℕ) → GoesOn bytes [] → GoesOn bytes all
of_none [] all h = (all, refl)
of_none (b ∷ bytes) all (m, e) = absurd cc

pub got_on : (bytes : List ℕ) (o p : Option SeenEnd) → EndGrowsTo o p → GoesOn bytes (got_of o) → GoesOn bytes (got_of p)
got_on bytes (Some e) (Some f) g h = on_chain bytes e.log.got f.log.got h g.got
got_on bytes (Some e) None g h = absurd g
got_on bytes None (Some f) g h = of_none bytes f.log.got h
got_on bytes None None g h = h

asked_here : (ends now : List SeenEnd) (r : RecordNow) (j : Judgement) → EndsGrow ends now → IsAskedHere ends r j → IsAskedByPeer ends now r j
asked_here ends now r j grow a = record {
  arrival = a.arrival;
  arrived = a.arrived;
  socket = a.socket;
  main = a.main;
  come = subst (λ (o : Option SeenEnd). IfSome o (λ e. come_to a.arrival.end ≡ come_to e)) (sym a.here) refl;
  got = got_later a.arrival.end (end_at now j.socket) (subst (λ (o : Option SeenEnd). EndGrowsTo o (end_at now j.socket)) a.here (grow j.socket));
}

all_here : (ends now : List SeenEnd) (r : RecordNow) (js : List Judgement) → EndsGrow ends now → AllByRecursion (IsAskedHere ends r) js → AllByRecursion (IsAskedByPeer ends now r) js
all_here ends now r [] grow all = tt
all_here ends now r (j ∷ js) grow all = (asked_here ends now r j grow all.0, all_here ends now r js grow all.1)

-- the one at a place has judged some
pub asked_at : (ends now : List SeenEnd) → EndsGrow ends now → (rs : List RecordNow) (place : ℕ) (side behind : RecordNow) → place < length rs → slice_index_or rs place side ≡ side →
    AllByRecursion (IsAskedHere ends behind) (judged_since side behind) → AreAskedByPeers ends now rs (slice_set rs place behind)
asked_at ends now grow [] place side behind within here since = absurd (omega (arith, within))
asked_at ends now grow (r ∷ rs) zero side behind within here since =
    (subst (λ (x : RecordNow). AllByRecursion (IsAskedByPeer ends now behind) (judged_since x behind)) (sym here) (all_here ends now behind (judged_since side behind) grow since), asked_same ends now rs)
asked_at ends now grow (r ∷ rs) (suc n) side behind within here since = (none_asked ends now r r (same_since r), asked_at ends now grow rs n side behind (omega (arith, within)) here since)

-- ---- one after the other

come_before : (o p : Option SeenEnd) (bytes : Option (List ℕ)) → EndGrowsTo o p → IfSome p (λ e. bytes ≡ come_to e) → IfSome o (λ e. bytes ≡ come_to e)
come_before (Some e) (Some f) bytes g same = same ∙ g.come
come_before (Some e) None bytes g same = absurd g
come_before None p bytes g same = tt

asked_before : (xs ys zs : List SeenEnd) (r : RecordNow) (j : Judgement) → EndsGrow xs ys → IsAskedByPeer ys zs r j → IsAskedByPeer xs zs r j
asked_before xs ys zs r j grow a = record {
  arrival = a.arrival;
  arrived = a.arrived;
  socket = a.socket;
  main = a.main;
  come = come_before (end_at xs j.socket) (end_at ys j.socket) (come_to a.arrival.end) (grow j.socket) a.come;
  got = a.got;
}

-- a record's peer stays
asked_later : (xs ys zs : List SeenEnd) (r s : RecordNow) (j : Judgement) → EndsGrow ys zs → peer_of s ≡ peer_of r → IsAskedByPeer xs ys r j → IsAskedByPeer xs zs s j
asked_later xs ys zs r s j grow peer a = record {
  arrival = a.arrival;
  arrived = a.arrived;
  socket = a.socket;
  main = subst (λ p. IfSome a.arrival.ask (λ ask. IsMain ask p)) (sym peer) a.main;
  come = a.come;
  got = got_on a.arrival.end.log.got (end_at ys j.socket) (end_at zs j.socket) (grow j.socket) a.got;
}

since_both : (r s t : RecordNow) → RecordGrows r s → RecordGrows s t → judged_since r t ≡ judged_since r s ++ judged_since s t
since_both r s t p q = at p.journal q.journal
  where
    at : GoesOn r.journal s.journal → GoesOn s.journal t.journal → judged_since r t ≡ judged_since r s ++ judged_since s t
    at (m, e) (n, f) =
        since_more r t (m ++ n) (f ∙ ap (λ l. l ++ n) e ∙ append_assoc r.journal m n) ∙ filtered judgement_of m n
        ∙ ap (λ l. l ++ judgements_in n) (sym (since_more r s m e)) ∙ ap (λ l. judged_since r s ++ l) (sym (since_more s t n f))

one_chain : (xs ys zs : List SeenEnd) (r s t : RecordNow) → EndsGrow xs ys → EndsGrow ys zs → RecordGrows r s → RecordGrows s t → AllByRecursion (IsAskedByPeer xs ys s) (judged_since r s) → AllByRecursion (IsAskedByPeer ys zs t) (judged_since s t) →
    AllByRecursion (IsAskedByPeer xs zs t) (judged_since r t)
one_chain xs ys zs r s t grow on p q first second =
    subst (AllByRecursion (IsAskedByPeer xs zs t)) (sym (since_both r s t p q))
    (each_by (IsAskedByPeer xs zs t) (judged_since r s ++ judged_since s t) (λ j i. at j (in_part j (judged_since r s) (judged_since s t) i)))
  where
    at : (j : Judgement) → IsOneOf j (judged_since r s) ⊎ IsOneOf j (judged_since s t) → IsAskedByPeer xs zs t j
    at j (inl i) = asked_later xs ys zs s t j on (ap (λ f. f.peer) q.facts) (of_each (IsAskedByPeer xs ys s) j (judged_since r s) first i)
    at j (inr i) = asked_before xs ys zs t j grow (of_each (IsAskedByPeer ys zs t) j (judged_since s t) second i)

pub asked_chain : (xs ys zs : List SeenEnd) (rs ss ts : List RecordNow) → EndsGrow xs ys → EndsGrow ys zs → RecordsGrow rs ss → RecordsGrow ss ts → AreAskedByPeers xs ys rs ss → AreAskedByPeers ys zs ss ts → AreAskedByPeers xs zs rs ts
asked_chain xs ys zs [] ss ts grow on p q first second = tt
asked_chain xs ys zs (r ∷ rs) ss [] grow on p q first second = tt
asked_chain xs ys zs (r ∷ rs) [] (t ∷ ts) grow on p q first second = absurd p
asked_chain xs ys zs (r ∷ rs) (s ∷ ss) (t ∷ ts) grow on p q first second = (one_chain xs ys zs r s t grow on p.0 q.0 first.0 second.0, asked_chain xs ys zs rs ss ts grow on p.1 q.1 first.1 second.1)
