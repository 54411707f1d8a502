-- Where the sockets of an event thread's port are, and that a socket which it opens is new to it.
use Rattle.std.proofs.Common.{◌≡◌, inl, inr, ℕ, ◌+◌, ◌==◌, ◌&&◌, ◌||◌, Bool, true, false, List, [], ◌∷◌, ◌++◌, map, option_to_list, sum_by, Option, Some, None, refl, sym, ap, subst, ◌∙◌, append-nil, arith}
use Rattle.std.specs.List.{AllByRecursion}
use Rattle.std.proofs.lemmas.Bool.{and_parts, eqb-true, eq-eqb}
use Rattle.std.proofs.lemmas.List.Sums.{sum_by-append, sum_by-cons, sum_by_push}
use Rattle.m2_addr.specs.declared.addr.Addr.{Addr}
use Rattle.m2_fabric.specs.Port.{SeenPort}
use Rattle.m2_fabric.specs.Sockets.{IsNewTo, goes_to, is_among, same_socket}
use Rattle.m2_fabric.specs.declared.port.Taken.{Taken}
use Rattle.m2_fabric.specs.declared.port.Taken.TheVariants as accept
use Rattle.m2_fabric.specs.declared.socket.SocketId.{SocketId}
use Rattle.m2_fabric.proofs.Sockets.{among_front, among_last, same_equal}
use Rattle.m2_bytes.proofs.m2_lemmas.Booleans.{from_false_true}
use Rattle.m2_trail.specs.Arrivals.{LooseNow, left_of}
use Rattle.m2_trail.specs.Incoming.{IncomingNow}
use Rattle.m2_handover.proofs.Weights.{left_weigh}
use Rattle.m2_handover.specs.Door.{DoorNow, StaysThere, TakesIn, weight_of, weight_of_half, weight_on_way, weight_put}
use Rattle.m2_handover.specs.Handed.{OnItsWay, left_behind}
use Rattle.m2_handover.specs.Home.{AreAllThere, GivesOrLacks, HasTakenAll, HomeNow, IsHome, IsKnown, asked_at, asked_at_door, ways_at, unasked_at, unasked_at_door, weight_at_door, weight_next}

-- ---- sockets that are known

known_more : (a b : SeenPort) (more sockets : List SocketId) → b.made ≡ a.made ++ more → b.at ≡ a.at → AllByRecursion (IsKnown a) sockets → AllByRecursion (IsKnown b) sockets
known_more a b more [] made at h = tt
known_more a b more (s ∷ ss) made at h = (one h.0, known_more a b more ss made at h.1)
  where
    one : IsKnown a s → IsKnown b s
    one (inl among) = inl (ap (is_among s) made ∙ among_front s a.made more among)
    one (inr goes) = inr (subst (λ (to : Addr). goes_to to s ≡ true) (sym at) goes)

known_last : (port : SeenPort) (sockets : List SocketId) (s : SocketId) → AllByRecursion (IsKnown port) sockets → IsKnown port s → AllByRecursion (IsKnown port) (sockets ++ s ∷ [])
known_last port [] s h k = (k, tt)
known_last port (x ∷ xs) s h k = (h.0, known_last port xs s h.1 k)

-- to go to two addresses is to go to one
one_way : (at to : Addr) (s : SocketId) → goes_to at s ≡ true → goes_to to s ≡ true → (to.ip == at.ip) && (to.port == at.port) ≡ true
one_way at to s h g =
    let here = and_parts (s.to_ip == at.ip) (s.to_port == at.port) h in
    let there = and_parts (s.to_ip == to.ip) (s.to_port == to.port) g in
    rw (
      eq-eqb to.ip at.ip (sym (eqb-true s.to_ip to.ip there.0) ∙ eqb-true s.to_ip at.ip here.0),
      eq-eqb to.port at.port (sym (eqb-true s.to_port to.port there.1) ∙ eqb-true s.to_port at.port here.1),
    ) refl

-- A socket that the port inside opened newly, to another address than its own, is none of these.
pub new_here : (port : SeenPort) (to : Addr) (sockets : List SocketId) (s : SocketId) → (to.ip == port.at.ip) && (to.port == port.at.port) ≡ false
    → IsNewTo port.made s → goes_to to s ≡ true → AllByRecursion (IsKnown port) sockets → IsNewTo sockets s
new_here port to [] s apart fresh goes h = refl
new_here port to (x ∷ xs) s apart fresh goes h = at (same_socket s x) refl (new_here port to xs s apart fresh goes h.1)
  where
    differs : IsKnown port x → s ≡ x → ⊥
    differs (inl among) e = from_false_true (sym fresh ∙ subst (λ k. is_among k port.made ≡ true) (sym e) among)
    differs (inr here) e = from_false_true (sym apart ∙ one_way port.at to s (subst (λ k. goes_to port.at k ≡ true) (sym e) here) goes)

    at : (b : Bool) → same_socket s x ≡ b → IsNewTo xs s → same_socket s x || is_among s xs ≡ false
    at true e rest = absurd (differs h.0 (same_equal s x e))
    at false e rest = ap (λ b. b || is_among s xs) e ∙ rest

-- ---- where they are

-- nothing of it changes
pub home_same : (old new : HomeNow) → IsHome old → new.inner.made ≡ old.inner.made → new.inner.at ≡ old.inner.at → new.made ≡ old.made → new.taken ≡ old.taken
    → new.next ≡ old.next → new.door ≡ old.door → IsHome new
home_same old new h inner at made taken next door = (
  λ weight.
      let p : sum_by weight new.inner.made ≡ sum_by weight old.inner.made = ap (sum_by weight) inner in
      let t : sum_by (weight_on_way weight) new.taken ≡ sum_by (weight_on_way weight) old.taken = ap (sum_by (weight_on_way weight)) taken in
      let m : sum_by weight new.made ≡ sum_by weight old.made = ap (sum_by weight) made in
      let n : weight_next weight new.next ≡ weight_next weight old.next = ap (weight_next weight) next in
      let d : weight_at_door weight new.door ≡ weight_at_door weight old.door = ap (weight_at_door weight) door in
      omega (arith, h.0 weight, p, t, m, n, d),
  subst (AllByRecursion (IsKnown new.inner)) (sym made)
      (known_more old.inner new.inner [] old.made (inner ∙ sym (append-nil old.inner.made)) at h.1),
)

-- it opens a socket
pub home_opens : (old new : HomeNow) (id : SocketId) → IsHome old → new.inner.made ≡ old.inner.made ++ id ∷ [] → new.inner.at ≡ old.inner.at → new.made ≡ old.made ++ id ∷ []
    → new.taken ≡ old.taken → new.next ≡ old.next → new.door ≡ old.door → IsHome new
home_opens old new id h inner at made taken next door = (
  λ weight.
      let p : sum_by weight new.inner.made ≡ sum_by weight old.inner.made + weight id = ap (sum_by weight) inner ∙ sum_by_push weight old.inner.made id in
      let t : sum_by (weight_on_way weight) new.taken ≡ sum_by (weight_on_way weight) old.taken = ap (sum_by (weight_on_way weight)) taken in
      let m : sum_by weight new.made ≡ sum_by weight old.made + weight id = ap (sum_by weight) made ∙ sum_by_push weight old.made id in
      let n : weight_next weight new.next ≡ weight_next weight old.next = ap (weight_next weight) next in
      let d : weight_at_door weight new.door ≡ weight_at_door weight old.door = ap (weight_at_door weight) door in
      omega (arith, h.0 weight, p, t, m, n, d),
  subst (AllByRecursion (IsKnown new.inner)) (sym made) (known_last new.inner old.made id
      (known_more old.inner new.inner (id ∷ []) old.made inner at h.1)
      (inl (ap (is_among id) inner ∙ among_last id old.inner.made))),
)

-- it takes a socket out of its inbox
pub home_looks : (old new : HomeNow) (h : OnItsWay) → IsHome old → old.next ≡ None → new.next ≡ Some h → new.taken ≡ old.taken ++ h ∷ [] → new.inner ≡ old.inner
    → new.made ≡ old.made → new.door ≡ old.door → IsHome new
home_looks old new h was none some taken inner made door = (
  λ weight.
      let p : sum_by weight new.inner.made ≡ sum_by weight old.inner.made = ap (λ (s : SeenPort). sum_by weight s.made) inner in
      let t : sum_by (weight_on_way weight) new.taken ≡ sum_by (weight_on_way weight) old.taken + weight h.end.id =
      ap (sum_by (weight_on_way weight)) taken ∙ sum_by_push (weight_on_way weight) old.taken h in
      let m : sum_by weight new.made ≡ sum_by weight old.made = ap (sum_by weight) made in
      let n : weight_next weight new.next ≡ weight h.end.id = ap (weight_next weight) some in
      let o : weight_next weight old.next ≡ 0 = ap (weight_next weight) none in
      let d : weight_at_door weight new.door ≡ weight_at_door weight old.door = ap (weight_at_door weight) door in
      omega (arith, was.0 weight, p, t, m, n, o, d),
  subst (λ (s : SeenPort). AllByRecursion (IsKnown s) new.made) (sym inner) (subst (AllByRecursion (IsKnown old.inner)) (sym made) was.1),
)

-- it accepts that one
pub home_accepts : (old new : HomeNow) (h : OnItsWay) (id : SocketId) → IsHome old → old.next ≡ Some h → new.next ≡ None → id ≡ h.end.id → goes_to old.inner.at id ≡ true
    → new.made ≡ old.made ++ id ∷ [] → new.taken ≡ old.taken → new.inner ≡ old.inner → new.door ≡ old.door → IsHome new
home_accepts old new h id was some none is goes made taken inner door = (
  λ weight.
      let p : sum_by weight new.inner.made ≡ sum_by weight old.inner.made = ap (λ (s : SeenPort). sum_by weight s.made) inner in
      let t : sum_by (weight_on_way weight) new.taken ≡ sum_by (weight_on_way weight) old.taken = ap (sum_by (weight_on_way weight)) taken in
      let m : sum_by weight new.made ≡ sum_by weight old.made + weight id = ap (sum_by weight) made ∙ sum_by_push weight old.made id in
      let i : weight id ≡ weight h.end.id = ap weight is in
      let n : weight_next weight new.next ≡ 0 = ap (weight_next weight) none in
      let o : weight_next weight old.next ≡ weight h.end.id = ap (weight_next weight) some in
      let d : weight_at_door weight new.door ≡ weight_at_door weight old.door = ap (weight_at_door weight) door in
      omega (arith, was.0 weight, p, t, m, i, n, o, d),
  subst (λ (s : SeenPort). AllByRecursion (IsKnown s) new.made) (sym inner)
      (subst (AllByRecursion (IsKnown old.inner)) (sym made) (known_last old.inner old.made id was.1 (inr goes))),
)

-- its door lets sockets in
pub home_lets_in : (old new : HomeNow) (before after : DoorNow) → IsHome old → old.door ≡ Some before → new.door ≡ Some after
    → TakesIn old.inner.made new.inner.made before after → StaysThere old.inner new.inner → new.made ≡ old.made → new.taken ≡ old.taken → new.next ≡ old.next → IsHome new
home_lets_in old new before after h was is takes stays made taken next = (
  λ weight.
      let t : sum_by (weight_on_way weight) new.taken ≡ sum_by (weight_on_way weight) old.taken = ap (sum_by (weight_on_way weight)) taken in
      let m : sum_by weight new.made ≡ sum_by weight old.made = ap (sum_by weight) made in
      let n : weight_next weight new.next ≡ weight_next weight old.next = ap (weight_next weight) next in
      let d : weight_at_door weight old.door ≡ weight_at_door weight (Some before) = ap (weight_at_door weight) was in
      let e : weight_at_door weight new.door ≡ weight_at_door weight (Some after) = ap (weight_at_door weight) is in
      omega (arith, h.0 weight, takes weight, t, m, n, d, e),
  subst (AllByRecursion (IsKnown new.inner)) (sym made) (known_more old.inner new.inner stays.more old.made stays.made stays.at h.1),
)

-- ---- what an accept has taken

pub taken_all : {E : Type 0} (t : Taken E) (old new : HomeNow) → GivesOrLacks t → HasTakenAll t old new
taken_all (accept.Made e) old new h = tt
taken_all accept.NotYet old new h = absurd h
taken_all accept.Failed old new h = absurd h
taken_all accept.NoMemory old new h = tt

-- ---- its end

halves_weigh : (weight : SocketId → ℕ) (hs : List IncomingNow) → sum_by (weight_of weight) (map left_of hs) ≡ sum_by (weight_of_half weight) hs
halves_weigh weight [] = refl
halves_weigh weight (h ∷ hs) =
    omega (arith, sum_by-cons (weight_of weight) (left_of h) (map left_of hs), sum_by-cons (weight_of_half weight) h hs, halves_weigh weight hs)

next_weighs : (weight : SocketId → ℕ) (next : Option OnItsWay) → sum_by (weight_of weight) (map left_behind (option_to_list next)) ≡ weight_next weight next
next_weighs weight None = refl
next_weighs weight (Some h) = omega (arith, sum_by-cons (weight_of weight) (left_behind h) [])

door_weighs : (weight : SocketId → ℕ) (door : Option DoorNow) →
    sum_by (weight_of weight) (unasked_at_door door) + sum_by (weight_of weight) (asked_at_door door) + weight_put weight (ways_at door) ≡ weight_at_door weight door
door_weighs weight None = refl
door_weighs weight (Some d) = omega (arith, sum_by-append (weight_of weight) d.over (map left_of d.halves), halves_weigh weight d.halves, left_weigh weight d.asked)

pub all_there : (h : HomeNow) (at_door on_way : List LooseNow) → IsHome h → at_door ≡ unasked_at h → on_way ≡ asked_at h → AreAllThere h (at_door ++ on_way)
all_there h at_door on_way home unasked asked weight =
    let f = weight_of weight in
    let both = sum_by-append f at_door on_way in
    let a : sum_by f at_door ≡ sum_by f (unasked_at h) = ap (sum_by f) unasked in
    let b : sum_by f on_way ≡ sum_by f (asked_at h) = ap (sum_by f) asked in
    let split = sum_by-append f (asked_at_door h.door) (map left_behind (option_to_list h.next)) in
    omega (arith, home.0 weight, both, a, b, split, next_weighs weight h.next, door_weighs weight h.door)
