-- Halves that are left stay callers, so the sessions stay consistent.
use Rattle.std.proofs.Common.{◌≡◌, ℕ, false, ◌||◌, List, [], ◌∷◌, ◌++◌, map, refl, sym, ap, subst, ◌∙◌, append-nil}
use Rattle.std.proofs.lemmas.List.{map-append}
use Rattle.std.specs.List.{AllByRecursion, IsDistinct}
use Rattle.m2_fabric.specs.declared.socket.SocketId.{SocketId}
use Rattle.m2_fabric.specs.Sockets.{is_among, same_socket}
use Rattle.m2_record.specs.RecordNow.{RecordNow}
use Rattle.m2_trail.specs.Arrivals.{LooseNow, left_of}
use Rattle.m2_turn.specs.Halves.{AllHalves, after_leaving, sessions_with}
use Rattle.m2_turn.specs.Sessions.{AreConsistent, IsCaller, PendingNow, Supply, WasCaller, caller_in}
use Rattle.m2_turn.proofs.Came.{back}
use Rattle.m2_turn.proofs.Joined.{distinct_between}
use Rattle.m2_fabric.proofs.Sockets.{among_neither, not_among_front}
use Rattle.m2_bytes.proofs.m2_lemmas.Lists.{all_append}

were_callers : (made : List SocketId) (records : List RecordNow) (ps : List PendingNow) → AllByRecursion (λ (p : PendingNow). IsCaller made records (caller_in p)) ps →
    AllByRecursion (WasCaller made records) (map (λ (p : PendingNow). left_of p.half) ps)
were_callers made records [] all = tt
were_callers made records (p ∷ ps) all = (record { asker = p.asker; caller = all.0 }, were_callers made records ps all.1)

left_sockets : (ps : List PendingNow) → map (λ (l : LooseNow). l.end.id) (map (λ (p : PendingNow). left_of p.half) ps) ≡ map (λ (p : PendingNow). p.half.end.id) ps
left_sockets [] = refl
left_sockets (p ∷ ps) = ap (λ l. p.half.end.id ∷ l) (left_sockets ps)

none_of : (k : SocketId) (xs : List SocketId) → AllByRecursion (λ y. same_socket k y ≡ false) xs → is_among k xs ≡ false
none_of k [] all = refl
none_of k (x ∷ xs) all = ap (λ b. b || is_among k xs) all.0 ∙ none_of k xs all.1

-- sockets that are apart are so in another order
turned_around : (xs ys : List SocketId) → IsDistinct same_socket (xs ++ ys) → IsDistinct same_socket (ys ++ xs)
unfolding IsDistinct
turned_around [] ys once = subst (IsDistinct same_socket) (sym (append-nil ys)) once
turned_around (x ∷ xs) ys once =
    let others = none_of x (xs ++ ys) once.0 in
    distinct_between x ys xs (turned_around xs ys once.1) (among_neither x ys xs (back x xs ys others) (not_among_front x xs ys others))

pub leaving_stays : (supply : Supply) (entity : ℕ) (made : List SocketId) (records : List RecordNow) (h : AllHalves) →
    AreConsistent supply entity (sessions_with made records h) → AreConsistent supply entity (sessions_with made records (after_leaving h))
leaving_stays supply entity made records h was = record {
  records = was.records;
  kind = was.kind;
  peers = was.peers;
  halves = tt;
  loose = all_append (WasCaller made records) h.loose (map (λ (p : PendingNow). left_of p.half) h.pending) was.loose (were_callers made records h.pending was.halves);
  apart = subst (IsDistinct same_socket)
      (sym (map-append (λ (l : LooseNow). l.end.id) h.loose (map (λ (p : PendingNow). left_of p.half) h.pending)
      ∙ ap (λ l. map (λ (l : LooseNow). l.end.id) h.loose ++ l) (left_sockets h.pending)))
      (turned_around (map (λ (p : PendingNow). p.half.end.id) h.pending) (map (λ (l : LooseNow). l.end.id) h.loose) was.apart);
}
