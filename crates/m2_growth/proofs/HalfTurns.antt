-- What becomes of a holding in the turns of its halves.
use Rattle.std.proofs.Common.{◌≡◌, inl, inr, ℕ, zero, suc, true, List, [], ◌∷◌, ◌++◌, map, Option, Some, None, IfSome, IsSome, refl, sym, ap, subst, ◌∙◌, append-nil, append_assoc}
use Rattle.std.specs.Prelude.{position, slice_get, slice_index_or, slice_set}
use Rattle.std.specs.List.{AllByRecursion}
use Rattle.m2_fabric.specs.m2_addr.declared.addr.Addr.{Addr}
use Rattle.m2_fabric.specs.End.{SeenEnd}
use Rattle.m2_fabric.specs.Port.{SeenPort}
use Rattle.m2_fabric.specs.Sockets.{is_among}
use Rattle.m2_bytes_fit.specs.m2_trail.declared.turn.HalfTurn.{HalfTurn}
use Rattle.m2_bytes_fit.specs.m2_trail.declared.turn.HalfTurn.TheVariants as turn
use Rattle.m2_bytes_fit.specs.m2_trail.HalfLaws.{IsLaterTrail}
use Rattle.m2_bytes_fit.specs.m2_trail.TurnMoves.{Makes, MakesMove, Move, answers, reads, writes}
use Rattle.m2_bytes_fit.specs.m2_trail.Turn.{AdvancesAs, Moves}
use Rattle.m2_bytes_fit.proofs.m2_trail.Later.{by_turn}
use Rattle.m2_turn.specs.m2_handshake.Asks.{is_known, same_addr}
use Rattle.m2_weave.specs.m2_journal.State.{Judgement}
use Rattle.m2_turn.specs.m2_record.RecordNow.{RecordNow}
use Rattle.m2_turn.specs.m2_record.Sources.{end_at}
use Rattle.m2_turn.specs.declared.answering.HalfAnswered.{HalfAnswered}
use Rattle.m2_turn.specs.declared.answering.HalfAnswered.TheVariants as half
use Rattle.m2_turn.specs.declared.half_turn.HalfTurned.{HalfTurned}
use Rattle.m2_turn.specs.declared.half_turn.HalfTurned.TheVariants as turned
use Rattle.m2_turn.specs.declared.halves_turn.HalvesTurn.{HalvesTurn}
use Rattle.m2_turn.specs.declared.halves_turn.HalvesTurn.TheVariants as all_turned
use Rattle.m2_turn.specs.Halves.{halves_of}
use Rattle.m2_turn.specs.HalfTurn.{AnswersFrom, ComesTo, HalfTurning, Homes, Others, Replies, TurnsHalf, TurnsOnce, asked_by, home_of_ask, judging_in, moved_by, with_moved, with_turned}
use Rattle.m2_turn.specs.HalvesTurn.{Callers, HalfTurns, HalvesTurning, OldestTurns, TurnHalves, TurnsHalves, all_wait, over_by, stays_by}
use Rattle.m2_turn.specs.RecordTurn.{Means}
use Rattle.m2_turn.specs.Sessions.{PendingNow, Sessions, is_asker, peer_of}
use Rattle.m2_turn.proofs.Turned.{IsHome, found_home, may_ask}
use Rattle.m2_bytes_fit.specs.m2_trail.declared.step.IncomingStep.{IncomingStep}
use Rattle.m2_bytes_fit.specs.m2_trail.declared.step.IncomingStep.TheVariants as step
use Rattle.m2_bytes_fit.specs.m2_trail.Arrivals.{IsArrival, closed_of}
use Rattle.m2_bytes_fit.specs.m2_trail.Asks.{IsMain}
use Rattle.m2_bytes_fit.specs.m2_trail.Incoming.{IncomingNow, StepsOn}
use Rattle.m2_bytes_fit.specs.m2_trail.Trails.{TrailNow}
use Rattle.m2_growth.specs.Ends.{EndGrows}
use Rattle.m2_growth.specs.Halves.{IsAskedHere, IsHeardBy, TrailGrows, asked_on, judged_since}
use Rattle.m2_growth.specs.Holding.{AreOwn, Grows, Holding, all_ends, ends_held, waiting_at}
use Rattle.m2_growth.specs.GrowthLaws.{at_halves}
use Rattle.m2_growth.specs.Records.{RecordGrows}
use Rattle.m2_growth.proofs.Answered.{Answered, HalfGoes, SideKeeps, SideTakes, answered, half_closed, half_same}
use Rattle.m2_growth.proofs.Among.{one_front}
use Rattle.m2_growth.proofs.Asked.{end_own}
use Rattle.m2_growth.proofs.Calls.{grows_equal, read_grows, write_grows}
use Rattle.m2_growth.proofs.Ends.{grows_chain, grows_same, on_by}
use Rattle.m2_growth.proofs.Going.{grows_then, grows_same as same_grows}
use Rattle.m2_growth.proofs.Holdings.{Around, half_changes, half_over, held_over, held_with, this_on}
use Rattle.m2_growth.proofs.Judged.{this_held, JudgesAlone, JudgesOn, Takes, record_judges, record_takes}
use Rattle.m2_growth.proofs.OneRecord.{holding}
use Rattle.m2_growth.proofs.Owned.{own_all}
use Rattle.m2_fabric.proofs.m2_lemmas.Booleans.{false_isnt_true}
use Rattle.m2_turn.proofs.m2_handshake.Idents.{same_means}
use Rattle.m2_fabric.proofs.m2_lemmas.Lists.{all_so_of}

-- ---- a half moves on

by_step : (answer : IncomingStep) (old new : IncomingNow) → StepsOn answer old new → new.end ≡ old.end
by_step step.Wrote old new (_, _, e) = ap (λ v. v.end) e
by_step step.Signed old new (_, _, e) = ap (λ v. v.end) e
by_step step.Rests old new (_, e) = ap (λ v. v.end) e
by_step step.Asked old new (_, _, _, e) = ap (λ v. v.end) e
by_step (step.Fault f) old new (_, e) = ap (λ v. v.end) e
by_step step.NoMemory old new (_, e) = ap (λ v. v.end) e

by_move : (m : Move) (old new : IncomingNow) → Makes m old new → EndGrows old.end new.end
by_move (writes answer) old new (_, (moves, _)) = write_grows answer old.left old.end new.end moves
by_move (answers answer) old new (_, _, s) = grows_equal old.end new.end (by_step answer old new s)
by_move (reads answer piece) old new (_, _, (moves, _)) = read_grows answer piece old.end new.end moves

by_moves : (stood : List IncomingNow) (old new : IncomingNow) → Moves stood old new → EndGrows old.end new.end
by_moves [] old new e = grows_equal old.end new.end (ap (λ (v : IncomingNow). v.end) (sym e))
by_moves (v ∷ vs) old new (_, m, rest) = grows_chain old.end v.end new.end (by_move m.move old v m.makes) (by_moves vs v new rest)

by_last : (outcome : _) (stood : List IncomingNow) (old before new : IncomingNow) → Moves stood old before → MakesMove outcome before new → EndGrows old.end new.end
by_last outcome stood old before new moves m = grows_chain old.end before.end new.end (by_moves stood old before moves) (by_move m.move before new m.makes)

end_advances : (t : HalfTurn) (old new : IncomingNow) → AdvancesAs t old new → EndGrows old.end new.end
end_advances turn.Asked old new a = by_moves a.stood old new a.moves
end_advances turn.Busy old new a = by_moves a.stood old new a.moves
end_advances turn.Waits old new a = by_last _ a.stood old a.before new a.moves a.last
end_advances turn.Over old new a = by_last _ a.stood old a.before new a.moves a.last
end_advances turn.NoMemory old new a = by_last _ a.stood old a.before new a.moves a.last

trail_advances : (t u : TrailNow) → IsLaterTrail t u → TrailGrows t u
trail_advances t u later = record {
  socket = later.socket;
  entity = later.entity;
  entries = later.entries;
  judged = on_by t.judged u.judged later.judged;
  asks = record { more = []; all = later.judged_after ∙ sym (append-nil t.judged_after); behind = tt };
}

half_advances : (t : HalfTurn) (old new : IncomingNow) → AdvancesAs t old new → HalfGoes old new
half_advances t old new a = record { end = end_advances t old new a; trail = trail_advances old.trail new.trail (by_turn t old new a).trail }

-- a half that goes on is heard by whom it was
still_heard : (rs : List RecordNow) (asker : Option Addr) (a b : IncomingNow) → HalfGoes a b → IsHeardBy rs (record { half = a; asker = asker }) → IsHeardBy rs (record { half = b; asker = asker })
still_heard rs asker a b g heard =
    all_so_of (λ (r : RecordNow). is_among a.trail.socket (asked_on r) ≡ true → is_asker asker (peer_of r) ≡ true)
    (λ (r : RecordNow). is_among b.trail.socket (asked_on r) ≡ true → is_asker asker (peer_of r) ≡ true) rs
    (λ r h asked. h (ap (λ k. is_among k (asked_on r)) (sym g.trail.socket) ∙ asked)) heard

goes_on : (c : Around) (rs : List RecordNow) (asker : Option Addr) (a b : IncomingNow) → AreOwn (held_with c rs (record { half = a; asker = asker })) → HalfGoes a b →
    Grows (held_with c rs (record { half = a; asker = asker })) (held_with c rs (record { half = b; asker = asker }))
goes_on c rs asker a b own g = half_changes c rs (record { half = a; asker = asker }) (record { half = b; asker = asker }) own (record { end = g.end; trail = g.trail; heard = still_heard rs asker a b g })

-- ---- its asker is noted

noted_so : (asker : Option Addr) (peer : Addr) (r : RecordNow) → is_known asker peer ≡ true → is_asker asker (peer_of r) ≡ true → same_addr peer (peer_of r) ≡ true
noted_so None peer r known h = absurd (false_isnt_true h)
noted_so (Some first) peer r known h = ap (λ a. same_addr a (peer_of r)) (sym (same_means first peer known)) ∙ h

noted : (c : Around) (rs : List RecordNow) (a : IncomingNow) (asker : Option Addr) (peer : Addr) → is_known asker peer ≡ true → AreOwn (held_with c rs (record { half = a; asker = asker })) →
    Grows (held_with c rs (record { half = a; asker = asker })) (held_with c rs (asked_by a peer))
noted c rs a asker peer known own =
    half_changes c rs (record { half = a; asker = asker }) (asked_by a peer) own
    (record {
      end = grows_same a.end;
      trail = (half_same a).trail;
      heard = (λ heard. all_so_of (λ (r : RecordNow). is_among a.trail.socket (asked_on r) ≡ true → is_asker asker (peer_of r) ≡ true)
          (λ (r : RecordNow). is_among a.trail.socket (asked_on r) ≡ true → same_addr peer (peer_of r) ≡ true) rs
          (λ r h asked. noted_so asker peer r known (h asked)) heard);
    })

-- ---- what it comes to

abbrev others_of : Around → Others
others_of c = record { made = c.port.made; entity = 0; halves = c.behind; loose = c.loose }

-- these sessions, behind the halves that have taken their turn
abbrev amid : Around → Sessions → Holding
amid c s = holding c.port s.records (halves_of (c.before ++ s.halves) s.loose)

abbrev turned_in : {E : Type 0} → Around → List RecordNow → HalfTurned E → Holding
turned_in c rs result = amid c (with_turned result (others_of c) rs)

-- who has asked
record IsAskOf (a : IncomingNow) (peer : Addr) : Type 0 where
  arrived : IsArrival a
  main : IfSome a.ask (λ ask. IsMain ask peer)

-- so it is of the asks that are judged on its socket
asked_by_peer : (c : Around) (rs : List RecordNow) (a : IncomingNow) (place : ℕ) (peer : Addr) (side behind : RecordNow) → IsHome rs place peer side → RecordGrows side behind → AreOwn (held_with c rs (asked_by a peer)) →
    IsAskOf a peer → (js : List Judgement) → AllByRecursion (λ (j : Judgement). j.socket ≡ a.end.id) js → AllByRecursion (IsAskedHere (all_ends (held_with c rs (asked_by a peer))) behind) js
asked_by_peer c rs a place peer side behind home grows own by js since =
    all_so_of (λ (j : Judgement). j.socket ≡ a.end.id) (IsAskedHere ends behind) js
    (λ j on. record {
      arrival = a;
      arrived = by.arrived;
      socket = sym on;
      main = subst (λ p. IfSome a.ask (λ ask. IsMain ask p)) (same_means peer (peer_of side) home.same ∙ ap (λ f. f.peer) (sym grows.facts)) by.main;
      here = ap (end_at ends) on ∙ here;
    }) since
  where
    ends : List SeenEnd
    ends = all_ends (held_with c rs (asked_by a peer))

    here : end_at ends a.end.id ≡ Some a.end
    here = end_own a.end ends (own_all (held_with c rs (asked_by a peer)) own)
        (one_front a.end (ends_held (held_with c rs (asked_by a peer))) (waiting_at c.port) (this_held c rs (asked_by a peer)))

-- an ask is answered at its home
keeps_alone : (c : Around) (rs : List RecordNow) (a : IncomingNow) (place : ℕ) (peer : Addr) (side behind : RecordNow) → IsHome rs place peer side → AreOwn (held_with c rs (asked_by a peer)) → IsAskOf a peer → SideKeeps a.end.id side behind →
    JudgesAlone c rs (asked_by a peer) place peer side behind
keeps_alone c rs a place peer side behind home own by k = let on = this_on c (asked_by a peer) own.on_socket in record {
  judges = record {
    home = home;
    asker = refl;
    grows = k.grows;
    fed = k.fed;
    asked = subst (λ j. JudgesOn j side behind) (sym on) k.asked;
    since = asked_by_peer c rs a place peer side behind home k.grows own by (judged_since side behind) k.since;
  };
  trails = k.trails;
  ends = k.ends;
}

takes_it : (c : Around) (rs : List RecordNow) (a : IncomingNow) (place : ℕ) (peer : Addr) (side behind : RecordNow) → IsHome rs place peer side → AreOwn (held_with c rs (asked_by a peer)) → IsAskOf a peer → SideTakes a side behind →
    Takes c rs (asked_by a peer) place peer side behind
takes_it c rs a place peer side behind home own by t = let on = this_on c (asked_by a peer) own.on_socket in record {
  judges = record {
    home = home;
    asker = refl;
    grows = t.grows;
    fed = t.fed;
    asked = subst (λ j. JudgesOn j side behind) (sym on) t.asked;
    since = asked_by_peer c rs a place peer side behind home t.grows own by (judged_since side behind) t.since;
  };
  trail = t.trail;
  last = t.last;
  of_half = t.of_half;
  ends = t.ends;
}

at_home : {E : Type 0} (c : Around) (rs : List RecordNow) (a : IncomingNow) (place : ℕ) (peer : Addr) (side behind : RecordNow) (answer : HalfAnswered E) → IsHome rs place peer side →
    AreOwn (held_with c rs (asked_by a peer)) → IsAskOf a peer → Answered answer a side behind → Grows (held_with c rs (asked_by a peer)) (amid c (with_moved (moved_by answer peer) (others_of c) (slice_set rs place behind)))
at_home {E} c rs a place peer side behind answer home own by so = at answer so
  where
    ss : List RecordNow
    ss = slice_set rs place behind

    judged : SideKeeps a.end.id side behind → Grows (held_with c rs (asked_by a peer)) (held_with c ss (asked_by a peer))
    judged k = record_judges c rs (asked_by a peer) place peer side behind own (keeps_alone c rs a place peer side behind home own by k)

    further : (b : IncomingNow) → SideKeeps a.end.id side behind → HalfGoes a b → Grows (held_with c rs (asked_by a peer)) (held_with c ss (asked_by b peer))
    further b k g = grows_then (held_with c rs (asked_by a peer)) (held_with c ss (asked_by a peer)) (held_with c ss (asked_by b peer)) (judged k) (goes_on c ss (Some peer) a b (judged k).own g)

    at : (x : HalfAnswered E) → Answered x a side behind → Grows (held_with c rs (asked_by a peer)) (amid c (with_moved (moved_by x peer) (others_of c) ss))
    at (half.Taken given) t = record_takes c rs (asked_by a peer) place peer side behind own (takes_it c rs a place peer side behind home own by t)
    at (half.Open b) (k, g) = further b k g
    at (half.Closed l) (k, g) = grows_then (held_with c rs (asked_by a peer)) (held_with c ss (asked_by a peer)) (held_over c ss l) (judged k) (half_over c ss (asked_by a peer) l (judged k).own g.end g.trail)
    at (half.Undrawn b) (k, g) = further b k g
    at (half.NoMemory b) (k, g) = further b k g

-- the half is over, and no record answers
closes : (c : Around) (rs : List RecordNow) (p : PendingNow) → AreOwn (held_with c rs p) → Grows (held_with c rs p) (held_over c rs (closed_of p.half))
closes c rs p own = let over = half_closed p.half p.half (half_same p.half) in half_over c rs p (closed_of p.half) own over.end over.trail

index_got : (rs : List RecordNow) (place : ℕ) (side : RecordNow) → slice_get rs place ≡ Some side → side ≡ slice_index_or rs place side
index_got [] place side e = absurd cc
index_got (r ∷ rs) zero side e = cc
index_got (r ∷ rs) (suc n) side e = index_got rs n side e

asked_from : {E : Type 0} (c : Around) (o : Option ℕ) (result : _) (p : PendingNow) (peer : Addr) (m : Means) (old new : Homes) → o ≡ home_of_ask p.asker peer (map peer_of old.records) → IsSome p.half.ask → IsAskOf p.half peer →
    AreOwn (held_with c old.records p) → AnswersFrom {E = E} o result p.half peer m old new → Grows (held_with c old.records p) (amid c (with_moved result (others_of c) new.records))
asked_from {E} c (Some place) result p peer m old new is some by own (answer, at, comes) =
    let known = may_ask (is_known p.asker peer) (position (same_addr peer) (map peer_of old.records)) place (sym is) in
    let home = found_home peer (map peer_of old.records) old.records place at.before refl known.1 (index_got old.records place at.before at.side) in
    let note = noted c old.records p.half p.asker peer known.0 own in
    subst (λ x. Grows (held_with c old.records p) (amid c (with_moved x (others_of c) new.records))) (sym comes)
    (subst (λ rs. Grows (held_with c old.records p) (amid c (with_moved (moved_by answer peer) (others_of c) rs))) (sym at.records)
    (grows_then (held_with c old.records p) (held_with c old.records (asked_by p.half peer)) (amid c (with_moved (moved_by answer peer) (others_of c) (slice_set old.records place at.behind))) note
    (at_home c old.records p.half place peer at.before at.behind answer home note.own by (answered answer p.half m (judging_in at.before old) (judging_in at.behind new) some at.answers))))
asked_from {E} c None result p peer m old new is some by own (comes, same) =
    subst (λ x. Grows (held_with c old.records p) (amid c (with_moved x (others_of c) new.records))) (sym comes)
    (subst (λ (h : Homes). Grows (held_with c old.records p) (held_over c h.records (closed_of p.half))) (sym same) (closes c old.records p own))

comes_to : {E : Type 0} (c : Around) (to : HalfTurn) (result : _) (p : PendingNow) (m : Means) (old new : Homes) → (to ≡ turn.Asked → IsSome p.half.ask) → AreOwn (held_with c old.records p) →
    ComesTo {E = E} to result p m old new → Grows (held_with c old.records p) (amid c (with_moved result (others_of c) new.records))
comes_to {E} c turn.Asked result p m old new some own h = asked_from c (home_of_ask p.asker h.peer (map peer_of old.records)) result p h.peer m old new refl (some refl) (record { arrived = h.arrival; main = h.main }) own h.answers
comes_to {E} c turn.Over result p m old new some own (comes, same) =
    subst (λ x. Grows (held_with c old.records p) (amid c (with_moved x (others_of c) new.records))) (sym comes)
    (subst (λ (h : Homes). Grows (held_with c old.records p) (held_over c h.records (closed_of p.half))) (sym same) (closes c old.records p own))
comes_to {E} c turn.NoMemory result p m old new some own (comes, same) =
    subst (λ x. Grows (held_with c old.records p) (amid c (with_moved x (others_of c) new.records))) (sym comes)
    (subst (λ (h : Homes). Grows (held_with c old.records p) (held_with c h.records p)) (sym same) (same_grows (held_with c old.records p) own))
comes_to {E} c _ result p m old new some own (comes, same) =
    subst (λ x. Grows (held_with c old.records p) (amid c (with_moved x (others_of c) new.records))) (sym comes)
    (subst (λ (h : Homes). Grows (held_with c old.records p) (held_with c h.records p)) (sym same) (same_grows (held_with c old.records p) own))

is_asked : (to : HalfTurn) (old new : IncomingNow) → AdvancesAs to old new → to ≡ turn.Asked → IsSome new.ask
is_asked turn.Asked old new a e = a.asked
is_asked turn.Waits old new a e = absurd cc
is_asked turn.Busy old new a e = absurd cc
is_asked turn.Over old new a e = absurd cc
is_asked turn.NoMemory old new a e = absurd cc

-- ---- a half's turn

pub turns_once : {E : Type 0} (c : Around) (result : _) (p : PendingNow) (m : Means) (old new : Homes) → AreOwn (held_with c old.records p) → TurnsOnce {E = E} result p m old new →
    Grows (held_with c old.records p) (amid c (with_moved result (others_of c) new.records))
turns_once {E} c result p m old new own t =
    let on = record p { half = t.on } in
    let first = goes_on c old.records p.asker p.half t.on own (half_advances t.to p.half t.on t.advances) in
    grows_then (held_with c old.records p) (held_with c old.records on) (amid c (with_moved result (others_of c) new.records)) first
    (comes_to c t.to result on m old new (is_asked t.to p.half t.on t.advances) first.own t.comes)

abbrev pub turning_in : Around → HalfTurning → Holding
turning_in c t = held_with c t.homes.records t.pending

replies_grow : (E : Type 0) (c : Around) (m : Means) (stood : List HalfTurning) (old new : HalfTurning) → AreOwn (turning_in c old) → Replies E m stood old new → Grows (turning_in c old) (turning_in c new)
replies_grow E c m [] old new own same = subst (λ t. Grows (turning_in c old) (turning_in c t)) same (same_grows (turning_in c old) own)
replies_grow E c m (t ∷ ts) old new own (once, rest) =
    let first = turns_once {E = E} c _ old.pending m old.homes t.homes own once in
    grows_then (turning_in c old) (turning_in c t) (turning_in c new) first (replies_grow E c m ts t new first.own rest)

pub half_turns : {E : Type 0} (c : Around) (result : HalfTurned E) (p : PendingNow) (m : Means) (old new : Homes) → AreOwn (held_with c old.records p) → TurnsHalf result p m old new →
    Grows (held_with c old.records p) (turned_in c new.records result)
half_turns {E} c result p m old new own (inl t) =
    let first = replies_grow E c m t.stood (record { pending = p; homes = old }) t.mid own t.replies in
    grows_then (held_with c old.records p) (turning_in c t.mid) (turned_in c new.records result) first
    (turns_once {E = E} c _ t.mid.pending m t.mid.homes new first.own t.last)
half_turns {E} c result p m old new own (inr t) =
    subst (λ x. Grows (held_with c old.records p) (turned_in c new.records x)) (sym t.stays)
    (replies_grow E c m t.stood (record { pending = p; homes = old }) (record { pending = t.pending; homes = new }) own t.replies)

-- ---- the turns of all halves

abbrev pub all_turning : SeenPort → HalvesTurning → Holding
all_turning port t = holding port t.homes.records (halves_of (t.stayed ++ t.waiting) t.loose)

abbrev pub around_it : SeenPort → HalvesTurning → HalvesTurning → Around
around_it port old new = record { port = port; before = old.stayed; behind = new.waiting; loose = old.loose }

-- as the oldest has left it
left_so : {E : Type 0} (port : SeenPort) (old new : HalvesTurning) (result : HalfTurned E) → new.stayed ≡ old.stayed ++ stays_by result → new.loose ≡ old.loose ++ over_by result →
    turned_in (around_it port old new) new.homes.records result ≡ all_turning port new
left_so port old new (turned.Open p) stayed loose = rw (stayed, loose, append_assoc old.stayed (p ∷ []) new.waiting, append-nil old.loose) refl
left_so port old new turned.Taken stayed loose = rw (stayed, loose, append-nil old.stayed, append-nil old.loose) refl
left_so port old new (turned.Over l) stayed loose = rw (stayed, loose, append-nil old.stayed) refl
left_so port old new (turned.NoMemory p) stayed loose = rw (stayed, loose, append_assoc old.stayed (p ∷ []) new.waiting, append-nil old.loose) refl

oldest_turns : {E : Type 0} (port : SeenPort) (result : HalfTurned E) (m : Means) (old new : HalvesTurning) → AreOwn (all_turning port old) → OldestTurns result m old new → Grows (all_turning port old) (all_turning port new)
oldest_turns {E} port result m old new own t =
    subst (Grows (all_turning port old)) (left_so port old new result t.stayed t.loose)
    (subst (λ (h : Holding). Grows h (turned_in (around_it port old new) new.homes.records result)) (sym before)
    (half_turns (around_it port old new) result t.oldest m old.homes new.homes (subst AreOwn before own) t.turns))
  where
    before : all_turning port old ≡ held_with (around_it port old new) old.homes.records t.oldest
    before = ap (λ ps. holding port old.homes.records (halves_of (old.stayed ++ ps) old.loose)) t.waited

turns_grow : (E : Type 0) (port : SeenPort) (m : Means) (stood : List HalvesTurning) (old new : HalvesTurning) → AreOwn (all_turning port old) → HalfTurns E m stood old new → Grows (all_turning port old) (all_turning port new)
turns_grow E port m [] old new own same = subst (λ t. Grows (all_turning port old) (all_turning port t)) same (same_grows (all_turning port old) own)
turns_grow E port m (t ∷ ts) old new own (once, rest) =
    let first = oldest_turns {E = E} port once.result m old t own once.turns in
    grows_then (all_turning port old) (all_turning port t) (all_turning port new) first (turns_grow E port m ts t new first.own rest)

turn_grows : (E : Type 0) (port : SeenPort) (result : HalvesTurn) (m : Means) (old new : HalvesTurning) → AreOwn (all_turning port old) → TurnHalves E result m old new → Grows (all_turning port old) (all_turning port new)
turn_grows E port all_turned.Done m old new own t = turns_grow E port m t.stood old new own t.turns
turn_grows E port all_turned.NoMemory m old new own t =
    let first = turns_grow E port m t.stood old t.mid own t.turns in
    grows_then (all_turning port old) (all_turning port t.mid) (all_turning port new) first (oldest_turns {E = E} port (turned.NoMemory t.pending) m t.mid new first.own t.last)

pub halves_grow : (E : Type 0) (result : HalvesTurn) (m : Means) (port : SeenPort) (old new : Callers) → TurnsHalves E result m old new → AreOwn (at_halves port old) → Grows (at_halves port old) (at_halves port new)
halves_grow E result m port old new t own =
    subst (λ x. Grows (at_halves port old) (at_halves port x)) (sym t.left) (turn_grows E port result m (all_wait old) t.behind own t.turns)
