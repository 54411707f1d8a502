-- A center's port made each socket that one of its records or halves has an end of.
use Rattle.std.proofs.Common.{◌≡◌, ℕ, Bool, true, false, ◌||◌, List, [], ◌∷◌, ◌++◌, map, refl, sym, ap, ◌∙◌}
use Rattle.std.specs.List.{AllByRecursion, flat_map}
use Rattle.m2_fabric.specs.declared.socket.SocketId.{SocketId}
use Rattle.m2_fabric.specs.End.{SeenEnd}
use Rattle.m2_fabric.specs.Sockets.{IsNewTo, is_among, same_socket}
use Rattle.m2_record.specs.IsRecord.{IsRecord}
use Rattle.m2_record.specs.RecordNow.{RecordNow, ends_of, ids_of}
use Rattle.m2_trail.specs.Arrivals.{LooseNow}
use Rattle.m2_turn.specs.Halves.{AllHalves, sessions_with}
use Rattle.m2_turn.specs.Hearing as halves
use Rattle.m2_turn.specs.Sessions.{AreConsistent, IsCaller, IsSupplied, PendingNow, Supply, WasCaller, caller_in}
use Rattle.m2_turn.proofs.Came.{are_known}
use Rattle.m2_center.proofs.RecordsHear.{among_both}
use Rattle.m2_bytes.proofs.m2_lemmas.Booleans.{false_isnt_true}
use Rattle.m2_fabric.proofs.Sockets.{same_equal}

module _ (id : SocketId) (made : List SocketId) (fresh : IsNewTo made id) where
  -- none of these lists has it, so both together don't
  neither : (xs ys : List SeenEnd) → is_among id (ids_of xs) ≡ false → is_among id (ids_of ys) ≡ false → is_among id (ids_of (xs ++ ys)) ≡ false
  neither xs ys first second = among_both id xs ys ∙ ap (λ b. b || is_among id (ids_of ys)) first ∙ second

  not_of_records : (s : Supply) (rs : List RecordNow) → AllByRecursion IsRecord rs → AllByRecursion (IsSupplied s made) rs → is_among id (ids_of (flat_map ends_of rs)) ≡ false
  not_of_records s [] are supplied = refl
  not_of_records s (r ∷ rs) are supplied =
      neither (ends_of r) (flat_map ends_of rs) ((are_known r are.0 id (supplied.0.made id fresh)).1) (not_of_records s rs are.1 supplied.1)

  not_made : (k : SocketId) → is_among k made ≡ true → same_socket id k ≡ false
  not_made k among = at (same_socket id k) refl
    where
      at : (b : Bool) → same_socket id k ≡ b → b ≡ false
      at true e = absurd (false_isnt_true (sym fresh ∙ (ap (λ x. is_among x made) (same_equal id k e) ∙ among)))
      at false e = refl

  not_of_halves : (rs : List RecordNow) (ps : List PendingNow) → AllByRecursion (λ (p : PendingNow). IsCaller made rs (caller_in p)) ps →
      is_among id (ids_of (map (λ (p : PendingNow). p.half.end) ps)) ≡ false
  not_of_halves rs [] are = refl
  not_of_halves rs (p ∷ ps) are =
      ap (λ b. b || is_among id (ids_of (map (λ (p : PendingNow). p.half.end) ps))) (not_made p.half.end.id are.0.made) ∙ not_of_halves rs ps are.1

  not_of_loose : (rs : List RecordNow) (ls : List LooseNow) → AllByRecursion (WasCaller made rs) ls → is_among id (ids_of (map (λ (l : LooseNow). l.end) ls)) ≡ false
  not_of_loose rs [] are = refl
  not_of_loose rs (l ∷ ls) are =
      ap (λ b. b || is_among id (ids_of (map (λ (l : LooseNow). l.end) ls))) (not_made l.end.id are.0.caller.made) ∙ not_of_loose rs ls are.1

  not_had : (s : Supply) (entity : ℕ) (rs : List RecordNow) (h : AllHalves) → AllByRecursion IsRecord rs → AreConsistent s entity (sessions_with made rs h) →
      is_among id (ids_of (flat_map ends_of rs ++ halves.ends_in h)) ≡ false
  not_had s entity rs h are c =
      neither (flat_map ends_of rs) (halves.ends_in h) (not_of_records s rs are c.records)
      (neither (map (λ (p : PendingNow). p.half.end) h.pending) (map (λ (l : LooseNow). l.end) h.loose) (not_of_halves rs h.pending c.halves) (not_of_loose rs h.loose c.loose))

pub had_made : (id : SocketId) (made : List SocketId) (s : Supply) (entity : ℕ) (rs : List RecordNow) (h : AllHalves) → AllByRecursion IsRecord rs → AreConsistent s entity (sessions_with made rs h) →
    is_among id (ids_of (flat_map ends_of rs ++ halves.ends_in h)) ≡ true → is_among id made ≡ true
had_made id made s entity rs h are c had = at (is_among id made) refl
  where
    at : (b : Bool) → is_among id made ≡ b → b ≡ true
    at true e = refl
    at false e = absurd (false_isnt_true (sym (not_had id made e s entity rs h are c) ∙ had))
