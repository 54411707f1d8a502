-- A socket that a port has just given is new to all that a center keeps, which stays consistent with a half on it.
use Rattle.std.proofs.Common.{◌≡◌, ℕ, nat_lt, Bool, true, false, ◌||◌, if◌then◌else◌, List, [], ◌∷◌, ◌++◌, length, map, None, refl, sym, ap, subst, ◌∙◌, inl, inr, append_assoc}
use Rattle.std.proofs.lemmas.List.{map-append}
use Rattle.std.specs.List.{AllByRecursion, IsDistinct}
use Rattle.m2_fabric.specs.declared.port.Taken.{Taken}
use Rattle.m2_fabric.specs.declared.port.Taken.TheVariants as taken
use Rattle.m2_fabric.specs.declared.socket.SocketId.{SocketId}
use Rattle.m2_fabric.specs.End.{SeenEnd}
use Rattle.m2_fabric.specs.Port.{Accepts, SeenPort}
use Rattle.m2_fabric.specs.Sockets.{IsNewTo, is_among, same_socket}
use Rattle.m2_feed.proofs.m2_journal.Sockets.{distinct-push}
use Rattle.m2_record.specs.IsRecord.{IsRecord}
use Rattle.m2_record.specs.RecordNow.{RecordNow}
use Rattle.m2_record.specs.TakenTrails.{judgements_in}
use Rattle.m2_trail.specs.Arrivals.{LooseNow, closed_of}
use Rattle.m2_trail.specs.Incoming.{accepted}
use Rattle.m2_turn.specs.declared.accepting.Accepted.{Accepted}
use Rattle.m2_turn.specs.declared.accepting.Accepted.TheVariants as accepts
use Rattle.m2_turn.specs.declared.accepting.TheConstants.{MOST_ACCEPTS}
use Rattle.m2_turn.specs.declared.pending.TheConstants.{MOST_HALVES}
use Rattle.m2_turn.specs.Accepting.{Accepting, AcceptsAll, EndsWith, GivesNone, IsEnded, TakenWithin, TakesAll, TakesIn, joined, sessions_at, unasked}
use Rattle.m2_turn.specs.Halves.{AllHalves, sessions_with}
use Rattle.m2_turn.specs.Sessions.{AreConsistent, Caller, IsCaller, IsSupplied, IsTold, PendingNow, Supply, WasCaller, caller_in, caller_of, sockets_of}
use Rattle.m2_turn.proofs.Came.{are_known, came_names}
use Rattle.m2_feed.proofs.m2_journal.JudgedOn.{unjudged}
use Rattle.m2_fabric.proofs.Sockets.{among_last, among_front, apart_turned, same_equal, among_neither, not_among_front}
use Rattle.m2_bytes.proofs.m2_lemmas.Booleans.{false_isnt_true}
use Rattle.m2_bytes.proofs.m2_lemmas.Lists.{all_last, all_so_of}

-- ---- lists

all_mapped : {T : Type 0} (f : T → SocketId) (P : SocketId → Type 0) (xs : List T) → AllByRecursion (λ x. P (f x)) xs → AllByRecursion P (map f xs)
all_mapped f P [] all = tt
all_mapped f P (x ∷ xs) all = (all.0, all_mapped f P xs all.1)

-- a socket that isn't one of some is none of those among them
not_these : (k : SocketId) (made xs : List SocketId) → IsNewTo made k → AllByRecursion (λ x. is_among x made ≡ true) xs → IsNewTo xs k
not_these k made [] new all = refl
not_these k made (x ∷ xs) new all = at (same_socket k x) refl (not_these k made xs new all.1)
  where
    at : (b : Bool) → same_socket k x ≡ b → is_among k xs ≡ false → b || is_among k xs ≡ false
    at true same rest = absurd (false_isnt_true (sym new ∙ ap (λ j. is_among j made) (same_equal k x same) ∙ all.0))
    at false other rest = rest

all_apart : (k : SocketId) (xs : List SocketId) → is_among k xs ≡ false → AllByRecursion (λ y. same_socket k y ≡ false) xs
all_apart k [] new = tt
all_apart k (x ∷ xs) new = at (same_socket k x) refl new (λ h. all_apart k xs h)
  where
    at : (b : Bool) → same_socket k x ≡ b → b || is_among k xs ≡ false → (is_among k xs ≡ false → AllByRecursion (λ y. same_socket k y ≡ false) xs) →
        (same_socket k x ≡ false) × AllByRecursion (λ y. same_socket k y ≡ false) xs
    at true same h rest = absurd (false_isnt_true (sym h))
    at false other h rest = (other, rest h)

all_between : (x k : SocketId) (xs ys : List SocketId) → same_socket x k ≡ false → AllByRecursion (λ y. same_socket x y ≡ false) (xs ++ ys) →
    AllByRecursion (λ y. same_socket x y ≡ false) (xs ++ k ∷ ys)
all_between x k [] ys other all = (other, all)
all_between x k (z ∷ zs) ys other all = (all.0, all_between x k zs ys other all.1)

-- a new socket between others is apart_turned from them
pub distinct_between : (k : SocketId) (xs ys : List SocketId) → IsDistinct same_socket (xs ++ ys) → is_among k (xs ++ ys) ≡ false → IsDistinct same_socket (xs ++ k ∷ ys)
unfolding IsDistinct
distinct_between k [] ys once new = (all_apart k ys new, once)
distinct_between k (x ∷ xs) ys once new = at (same_socket k x) refl new (λ h. distinct_between k xs ys once.1 h)
  where
    at : (b : Bool) → same_socket k x ≡ b → b || is_among k (xs ++ ys) ≡ false → (is_among k (xs ++ ys) ≡ false → IsDistinct same_socket (xs ++ k ∷ ys)) →
        AllByRecursion (λ y. same_socket x y ≡ false) (xs ++ k ∷ ys) × IsDistinct same_socket (xs ++ k ∷ ys)
    at true same h rest = absurd (false_isnt_true (sym h))
    at false other h rest = (all_between x k xs ys (apart_turned k x other) once.0, rest h)

-- ---- callers

-- one that asked nothing yet, on a socket
abbrev newcomer : (entity : ℕ) → SocketId → Caller
newcomer entity k = record { socket = k; entity = entity; judged = []; asker = None }

told_newcomer : (supply : Supply) (made : List SocketId) (entity : ℕ) (k : SocketId) (records : List RecordNow) → IsNewTo made k →
    AllByRecursion IsRecord records → AllByRecursion (IsSupplied supply made) records → AllByRecursion (λ (r : RecordNow). r.core.facts.node.entity ≡ entity) records →
    AllByRecursion (IsTold (newcomer entity k)) records
told_newcomer supply made entity k [] new are supplied kind = tt
told_newcomer supply made entity k (r ∷ rs) new are supplied kind =
    let came = supplied.0.made k new in (
      record {
        entity = sym kind.0;
        new = (are_known r are.0 k came).1;
        judged = sym (unjudged k (judgements_in r.journal) (came_names k r.journal came).1);
      },
      told_newcomer supply made entity k rs new are.1 supplied.1 kind.1,
    )

-- a caller stays one when more sockets are made
calls_on : (made more : List SocketId) (records : List RecordNow) (c : Caller) → IsCaller made records c → IsCaller (made ++ more) records c
calls_on made more records c is = record { made = among_front c.socket made more is.made; told = is.told; unheard = is.unheard }

called_on : (made more : List SocketId) (records : List RecordNow) (l : LooseNow) → WasCaller made records l → WasCaller (made ++ more) records l
called_on made more records l was = record { asker = was.asker; caller = calls_on made more records (caller_of was.asker l) was.caller }

supplied_on : (supply : Supply) (made more : List SocketId) (r : RecordNow) → IsSupplied supply made r → IsSupplied supply (made ++ more) r
supplied_on supply made more r is = record { owned = is.owned; top = is.top; made = (λ k new. is.made k (not_among_front k made more new)) }

-- the sockets of callers are among those that were made
pending_made : (made : List SocketId) (records : List RecordNow) (ps : List PendingNow) → AllByRecursion (λ (p : PendingNow). IsCaller made records (caller_in p)) ps →
    AllByRecursion (λ x. is_among x made ≡ true) (map (λ (p : PendingNow). p.half.end.id) ps)
pending_made made records ps all =
    all_mapped (λ (p : PendingNow). p.half.end.id) (λ x. is_among x made ≡ true) ps (all_so_of _ (λ (p : PendingNow). is_among p.half.end.id made ≡ true) ps (λ p is. is.made) all)

loose_made : (made : List SocketId) (records : List RecordNow) (ls : List LooseNow) → AllByRecursion (WasCaller made records) ls →
    AllByRecursion (λ x. is_among x made ≡ true) (map (λ (l : LooseNow). l.end.id) ls)
loose_made made records ls all =
    all_mapped (λ (l : LooseNow). l.end.id) (λ x. is_among x made ≡ true) ls (all_so_of _ (λ (l : LooseNow). is_among l.end.id made ≡ true) ls (λ l was. was.caller.made) all)

-- ---- one more socket

module _ (supply : Supply) (entity : ℕ) (made : List SocketId) (records : List RecordNow) (are : AllByRecursion IsRecord records) (h : AllHalves)
    (was : AreConsistent supply entity (sessions_with made records h)) (e : SeenEnd) (room : ℕ) (new : IsNewTo made e.id) where
  is_caller : IsCaller (made ++ e.id ∷ []) records (newcomer entity e.id)
  is_caller = record {
    made = among_last e.id made;
    told = told_newcomer supply made entity e.id records new are was.records was.kind;
    unheard = (λ _. refl);
  }

  new_to_all : is_among e.id (sockets_of (sessions_with made records h)) ≡ false
  new_to_all = among_neither e.id (map (λ (p : PendingNow). p.half.end.id) h.pending) (map (λ (l : LooseNow). l.end.id) h.loose)
      (not_these e.id made _ new (pending_made made records h.pending was.halves))
      (not_these e.id made _ new (loose_made made records h.loose was.loose))

  still_supplied : AllByRecursion (IsSupplied supply (made ++ e.id ∷ [])) records
  still_supplied = all_so_of _ _ records (supplied_on supply made (e.id ∷ [])) was.records

  pending_still : AllByRecursion (λ (p : PendingNow). IsCaller (made ++ e.id ∷ []) records (caller_in p)) h.pending
  pending_still = all_so_of _ (λ (p : PendingNow). IsCaller (made ++ e.id ∷ []) records (caller_in p)) h.pending (λ p is. calls_on made (e.id ∷ []) records (caller_in p) is) was.halves

  loose_still : AllByRecursion (WasCaller (made ++ e.id ∷ []) records) h.loose
  loose_still = all_so_of _ _ h.loose (called_on made (e.id ∷ []) records) was.loose

  one_pending : AreConsistent supply entity (sessions_with (made ++ e.id ∷ []) records (record h { pending = h.pending ++ unasked (accepted entity e room) ∷ [] }))
  one_pending = record {
    records = still_supplied;
    kind = was.kind;
    peers = was.peers;
    halves = all_last (λ (p : PendingNow). IsCaller (made ++ e.id ∷ []) records (caller_in p)) h.pending (unasked (accepted entity e room)) pending_still is_caller;
    loose = loose_still;
    apart = subst (IsDistinct same_socket)
        (sym (ap (λ l. l ++ map (λ (l : LooseNow). l.end.id) h.loose) (map-append (λ (p : PendingNow). p.half.end.id) h.pending (unasked (accepted entity e room) ∷ []))
        ∙ append_assoc (map (λ (p : PendingNow). p.half.end.id) h.pending) (e.id ∷ []) (map (λ (l : LooseNow). l.end.id) h.loose)))
        (distinct_between e.id (map (λ (p : PendingNow). p.half.end.id) h.pending) (map (λ (l : LooseNow). l.end.id) h.loose) was.apart new_to_all);
  }

  one_closed : AreConsistent supply entity (sessions_with (made ++ e.id ∷ []) records (record h { loose = h.loose ++ closed_of (accepted entity e room) ∷ [] }))
  one_closed = record {
    records = still_supplied;
    kind = was.kind;
    peers = was.peers;
    halves = pending_still;
    loose = all_last (WasCaller (made ++ e.id ∷ []) records) h.loose (closed_of (accepted entity e room)) loose_still (record { asker = None; caller = is_caller });
    apart = subst (IsDistinct same_socket)
        (append_assoc (map (λ (p : PendingNow). p.half.end.id) h.pending) (map (λ (l : LooseNow). l.end.id) h.loose) (e.id ∷ [])
        ∙ ap (λ l. map (λ (p : PendingNow). p.half.end.id) h.pending ++ l) (sym (map-append (λ (l : LooseNow). l.end.id) h.loose (closed_of (accepted entity e room) ∷ []))))
        (distinct-push (sockets_of (sessions_with made records h)) e.id was.apart new_to_all);
  }

  one_joined : AreConsistent supply entity (sessions_with (made ++ e.id ∷ []) records (joined (accepted entity e room) h))
  one_joined = at (nat_lt (length h.pending) MOST_HALVES)
    where
      at : (b : Bool) → AreConsistent supply entity (sessions_with (made ++ e.id ∷ []) records
          (if b then record h { pending = h.pending ++ unasked (accepted entity e room) ∷ [] } else record h { loose = h.loose ++ closed_of (accepted entity e room) ∷ [] }))
      at true = one_pending
      at false = one_closed

-- ---- all accepts

made_by : (e : SeenEnd) (old new : SeenPort) → Accepts (taken.Made e) old new → (IsNewTo old.made e.id) × (new.made ≡ old.made ++ e.id ∷ [])
made_by e old new (_, fresh, _, is) = (fresh.first, ap (λ (p : SeenPort). p.made) is)

taken_stays : (supply : Supply) (entity : ℕ) (records : List RecordNow) (old new : Accepting) → AllByRecursion IsRecord records → TakesIn entity old new →
    AreConsistent supply entity (sessions_at records old) → AreConsistent supply entity (sessions_at records new)
taken_stays supply entity records old new are takes was =
    let made = made_by takes.end old.port new.port takes.gives in
    subst (λ m. AreConsistent supply entity (sessions_with m records new.halves)) (sym made.1)
    (subst (λ h. AreConsistent supply entity (sessions_with (old.port.made ++ takes.end.id ∷ []) records h)) (sym takes.joins)
    (one_joined supply entity old.port.made records are old.halves was takes.end takes.room made.0))

all_stay : (supply : Supply) (entity : ℕ) (records : List RecordNow) (stood : List Accepting) (old new : Accepting) → AllByRecursion IsRecord records → TakesAll entity stood old new →
    AreConsistent supply entity (sessions_at records old) → AreConsistent supply entity (sessions_at records new)
all_stay supply entity records [] old new are same was = subst (λ a. AreConsistent supply entity (sessions_at records a)) same was
all_stay supply entity records (a ∷ rest) old new are (first, then_) was =
    all_stay supply entity records rest a new are then_ (taken_stays supply entity records old a are first was)

-- a port that gave no socket has made none
abbrev IsNone : Taken SeenEnd → Type 0
IsNone (taken.Made e) = ⊥
IsNone _ = Unit {0}

none_made : (answer : Taken SeenEnd) (old new : SeenPort) → IsNone answer → Accepts answer old new → new.made ≡ old.made
none_made (taken.Made e) old new none gives = absurd none
none_made taken.NotYet old new none gives = ap (λ (p : SeenPort). p.made) gives.1
none_made taken.Failed old new none gives = ap (λ (p : SeenPort). p.made) gives.1
none_made taken.NoMemory old new none gives = ap (λ (p : SeenPort). p.made) gives

none_stays : (supply : Supply) (entity : ℕ) (records : List RecordNow) (answer : Taken SeenEnd) (old new : Accepting) → IsNone answer → GivesNone answer old new →
    AreConsistent supply entity (sessions_at records old) → AreConsistent supply entity (sessions_at records new)
none_stays supply entity records answer old new none gives was =
    subst (λ m. AreConsistent supply entity (sessions_with m records new.halves)) (sym (none_made answer old.port new.port none gives.gives))
    (subst (λ h. AreConsistent supply entity (sessions_with old.port.made records h)) (sym gives.same) was)

end_stays : (supply : Supply) (entity : ℕ) (records : List RecordNow) (result : Accepted) (old new : Accepting) → EndsWith result old new →
    AreConsistent supply entity (sessions_at records old) → AreConsistent supply entity (sessions_at records new)
end_stays supply entity records accepts.All old new (inl none) was = none_stays supply entity records taken.NotYet old new tt none was
end_stays supply entity records accepts.All old new (inr none) was = none_stays supply entity records taken.Failed old new tt none was
end_stays supply entity records accepts.NoMemory old new none was = none_stays supply entity records taken.NoMemory old new tt none was
end_stays supply entity records accepts.Busy old new none was = absurd none

ended_stays : (supply : Supply) (entity : ℕ) (records : List RecordNow) (result : Accepted) (old new : Accepting) → AllByRecursion IsRecord records → IsEnded entity result old new →
    AreConsistent supply entity (sessions_at records old) → AreConsistent supply entity (sessions_at records new)
ended_stays supply entity records result old new are ended was =
    end_stays supply entity records result ended.mid new ended.ends
    (all_stay supply entity records ended.taken.stood old ended.mid are ended.taken.takes was)

pub accepts_stay : (supply : Supply) (entity : ℕ) (records : List RecordNow) (result : Accepted) (old new : Accepting) → AllByRecursion IsRecord records → AcceptsAll entity result old new →
    AreConsistent supply entity (sessions_at records old) → AreConsistent supply entity (sessions_at records new)
accepts_stay supply entity records accepts.Busy old new are busy was = all_stay supply entity records busy.stood old new are busy.takes was
accepts_stay supply entity records accepts.All old new are ended was = ended_stays supply entity records accepts.All old new are ended was
accepts_stay supply entity records accepts.NoMemory old new are ended was = ended_stays supply entity records accepts.NoMemory old new are ended was

-- ---- accepts, one after another

-- one socket more
pub and_one : (entity : ℕ) (stood : List Accepting) (a b c : Accepting) → TakesAll entity stood a b → TakesIn entity b c → TakesAll entity (stood ++ c ∷ []) a c
and_one entity [] a b c same one = (subst (λ x. TakesIn entity x c) (sym same) one, refl)
and_one entity (s ∷ rest) a b c (first, later) one = (first, and_one entity rest s b c later one)

-- an accept that gives none ends them
pub ends_accepts : (entity : ℕ) (result : Accepted) (old mid new : Accepting) → TakenWithin entity MOST_ACCEPTS old mid → EndsWith result mid new → AcceptsAll entity result old new
ends_accepts entity accepts.All old mid new taken ends = record { mid = mid; taken = taken; ends = ends }
ends_accepts entity accepts.NoMemory old mid new taken ends = record { mid = mid; taken = taken; ends = ends }
ends_accepts entity accepts.Busy old mid new taken ends = absurd ends
