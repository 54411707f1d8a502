-- Sockets of a door, however they are weighed.
use Rattle.std.proofs.Common.{◌≡◌, ℕ, zero, suc, ◌+◌, List, [], ◌∷◌, ◌++◌, map, slice_get, slice_set, sum_by, Some, None, refl, sym, ap, ◌∙◌, arith}
use Rattle.std.proofs.lemmas.List.Sums.{sum_by-append, sum_by-cons, sum_by_push}
use Rattle.m2_fabric.specs.declared.socket.SocketId.{SocketId}
use Rattle.m2_mailbox.specs.Views.{put_by}
use Rattle.m2_trail.specs.Arrivals.{LooseNow, closed_of}
use Rattle.m2_trail.specs.Incoming.{IncomingNow}
use Rattle.m2_trail.specs.declared.turn.HalfTurn.{HalfTurn}
use Rattle.m2_trail.specs.declared.turn.HalfTurn.TheVariants as half
use Rattle.m2_handover.specs.Door.{DoorNow, GoesBy, Hands, KeepsAll, Stands, TakesIn, asked_by, over_by, stays_by, weight_of, weight_of_half, weight_by, weight_on_way, weight_put, weight_through}
use Rattle.m2_handover.specs.Handed.{AreAskedAs, ComeAsked, OnItsWay, left_behind}
use Rattle.m2_handover.specs.Way.{WayNow, with_put}

-- ---- lists

put_weighs : {X : Type 0} (f : X → ℕ) (item : X) (puts : List (List X)) → sum_by (sum_by f) (put_by item puts) ≡ sum_by (sum_by f) puts + f item
put_weighs f item [] = omega (arith, sum_by-cons (sum_by f) (item ∷ []) [], sum_by-cons f item [])
put_weighs f item (own ∷ joined) =
    omega (arith, sum_by-cons (sum_by f) (own ++ item ∷ []) joined, sum_by-cons (sum_by f) own joined, sum_by_push f own item)

set_weighs : {X : Type 0} (f : X → ℕ) (xs : List X) (k : ℕ) (old new : X) → slice_get xs k ≡ Some old → sum_by f (slice_set xs k new) + f old ≡ sum_by f xs + f new
set_weighs f [] k old new there = absurd (cc)
set_weighs f (x ∷ xs) zero old new there =
    let is : x ≡ old = cc in let same : f x ≡ f old = ap f is in omega (arith, sum_by-cons f x xs, sum_by-cons f new xs, same)
set_weighs f (x ∷ xs) (suc k) old new there =
    let rest = set_weighs f xs k old new there in omega (arith, sum_by-cons f x xs, sum_by-cons f x (slice_set xs k new), rest)

-- ---- one after another

pub keeps_same : (d : DoorNow) → KeepsAll d d
keeps_same d weight = refl

pub keeps_more : (a b c : DoorNow) → KeepsAll a b → KeepsAll b c → KeepsAll a c
keeps_more a b c f g weight = g weight ∙ f weight

pub takes_none : (before after : List SocketId) (d : DoorNow) → after ≡ before → TakesIn before after d d
takes_none before after d e weight = ap (λ made. weight_through weight d + sum_by weight made) (sym e)

pub takes_in_more : (x y z : List SocketId) (a b c : DoorNow) → TakesIn x y a b → TakesIn y z b c → TakesIn x z a c
takes_in_more x y z a b c f g weight = omega (arith, f weight, g weight)

pub keeps_then_takes : (x y : List SocketId) (a b c : DoorNow) → KeepsAll a b → TakesIn x y b c → TakesIn x y a c
keeps_then_takes x y a b c f g weight = omega (arith, f weight, g weight)

-- ---- a socket comes

pub comes_in : (id : SocketId) (before after : List SocketId) (old new : DoorNow) → Stands id (old.halves, old.over) (new.halves, new.over) → new.asked ≡ old.asked
    → new.ways ≡ old.ways → after ≡ before ++ id ∷ [] → TakesIn before after old new
comes_in id before after old new stands asked ways made weight =
    let more : sum_by weight after ≡ sum_by weight before + weight id = ap (sum_by weight) made ∙ sum_by_push weight before id in
    let same : sum_by (weight_on_way weight) new.asked ≡ sum_by (weight_on_way weight) old.asked = ap (sum_by (weight_on_way weight)) asked in
    let sent : weight_put weight new.ways ≡ weight_put weight old.ways = ap (weight_put weight) ways in
    omega (arith, stands weight, more, same, sent)

pub stands_last : (id : SocketId) (halves after : List IncomingNow) (over : List LooseNow) (l : IncomingNow) → after ≡ halves ++ l ∷ [] → l.end.id ≡ id → Stands id (halves, over) (after, over)
stands_last id halves after over l e is weight =
    let more : sum_by (weight_of_half weight) after ≡ sum_by (weight_of_half weight) halves + weight l.end.id = ap (sum_by (weight_of_half weight)) e ∙ sum_by_push (weight_of_half weight) halves l in
    let same : weight l.end.id ≡ weight id = ap weight is in
    omega (arith, more, same)

pub is_over_last : (id : SocketId) (halves : List IncomingNow) (over after : List LooseNow) (l : LooseNow) → after ≡ over ++ l ∷ [] → l.end.id ≡ id → Stands id (halves, over) (halves, after)
is_over_last id halves over after l e is weight =
    let more : sum_by (weight_of weight) after ≡ sum_by (weight_of weight) over + weight l.end.id = ap (sum_by (weight_of weight)) e ∙ sum_by_push (weight_of weight) over l in
    let same : weight l.end.id ≡ weight id = ap weight is in
    omega (arith, more, same)

-- ---- the half that comes next

pub left_weigh : (weight : SocketId → ℕ) (hs : List OnItsWay) → sum_by (weight_of weight) (map left_behind hs) ≡ sum_by (weight_on_way weight) hs
left_weigh weight [] = refl
left_weigh weight (h ∷ hs) =
    omega (arith, sum_by-cons (weight_of weight) (left_behind h) (map left_behind hs), sum_by-cons (weight_on_way weight) h hs, left_weigh weight hs)

-- on their way halves weigh what they weighed
asked_weigh : (weight : SocketId → ℕ) (halves : List IncomingNow) (hs : List OnItsWay) → AreAskedAs halves hs → sum_by (weight_on_way weight) hs ≡ sum_by (weight_of_half weight) halves
asked_weigh weight [] [] are = refl
asked_weigh weight [] (h ∷ hs) are = absurd are
asked_weigh weight (half ∷ halves) [] are = absurd are
asked_weigh weight (half ∷ halves) (h ∷ hs) are =
    let one : weight h.end.id ≡ weight half.end.id = ap (λ (l : LooseNow). weight l.end.id) are.0.half in
    omega (arith, sum_by-cons (weight_on_way weight) h hs, sum_by-cons (weight_of_half weight) half halves, one, asked_weigh weight halves hs are.1)

come_weigh : (weight : SocketId → ℕ) (halves : List IncomingNow) (old new : List OnItsWay) → ComeAsked halves old new →
    sum_by (weight_on_way weight) new ≡ sum_by (weight_on_way weight) old + sum_by (weight_of_half weight) halves
come_weigh weight halves old new come =
    let split = ap (sum_by (weight_on_way weight)) come.1 ∙ sum_by-append (weight_on_way weight) old come.0 in
    omega (arith, split, asked_weigh weight halves come.0 come.2)

-- wherever a half is behind its turn, it weighs what it weighed
turned_weighs : (weight : SocketId → ℕ) (turn : HalfTurn) (h : IncomingNow) →
    sum_by (weight_of_half weight) (stays_by turn h) + sum_by (weight_of_half weight) (asked_by turn h) + sum_by (weight_of weight) (over_by turn h) ≡ weight h.end.id
turned_weighs weight half.Asked h = omega (arith, sum_by-cons (weight_of_half weight) h [])
turned_weighs weight half.Over h = omega (arith, sum_by-cons (weight_of weight) (closed_of h) [])
turned_weighs weight half.Waits h = omega (arith, sum_by-cons (weight_of_half weight) h [])
turned_weighs weight half.Busy h = omega (arith, sum_by-cons (weight_of_half weight) h [])
turned_weighs weight half.NoMemory h = omega (arith, sum_by-cons (weight_of_half weight) h [])

-- it goes where its turn leads
pub goes_where : (turn : HalfTurn) (next behind : IncomingNow) (rest : List IncomingNow) (old new : DoorNow) → old.halves ≡ next ∷ rest → behind.end.id ≡ next.end.id
    → new.halves ≡ rest ++ stays_by turn behind → ComeAsked (asked_by turn behind) old.asked new.asked → new.over ≡ old.over ++ over_by turn behind → new.ways ≡ old.ways → KeepsAll old new
goes_where turn next behind rest old new was id halves asked over ways weight =
    let f = weight_of weight in
    let g = weight_of_half weight in
    let before : sum_by g old.halves ≡ weight next.end.id + sum_by g rest = ap (sum_by g) was ∙ sum_by-cons g next rest in
    let stands : sum_by g new.halves ≡ sum_by g rest + sum_by g (stays_by turn behind) = ap (sum_by g) halves ∙ sum_by-append g rest (stays_by turn behind) in
    let ask = come_weigh weight (asked_by turn behind) old.asked new.asked asked in
    let done : sum_by f new.over ≡ sum_by f old.over + sum_by f (over_by turn behind) = ap (sum_by f) over ∙ sum_by-append f old.over (over_by turn behind) in
    let one : weight behind.end.id ≡ weight next.end.id = ap weight id in
    let sent : weight_put weight new.ways ≡ weight_put weight old.ways = ap (weight_put weight) ways in
    omega (arith, before, stands, ask, done, one, sent, turned_weighs weight turn behind)

-- ---- the asked socket that comes next

pub goes_by : (weight : SocketId → ℕ) (place : ℕ) (h : OnItsWay) (old new : List WayNow) → GoesBy place h old new
    → weight_put weight new ≡ weight_put weight old + weight h.end.id
goes_by weight place h old new g =
    let f = weight_by weight in
    let put : weight_put weight new ≡ sum_by f (slice_set old place (with_put h g.before)) = ap (weight_put weight) g.put in
    omega (arith, put, set_weighs f old place g.before (with_put h g.before) g.there, put_weighs (weight_on_way weight) h g.before.put)

pub is_handed : (old new : DoorNow) (h : OnItsWay) → old.asked ≡ h ∷ new.asked → Hands None h old.ways new.ways → new.halves ≡ old.halves → new.over ≡ old.over → KeepsAll old new
is_handed old new h was hands halves over weight =
    let g = weight_on_way weight in
    let before : sum_by g old.asked ≡ weight h.end.id + sum_by g new.asked = ap (sum_by g) was ∙ sum_by-cons g h new.asked in
    let sent = goes_by weight hands.0 h old.ways new.ways hands.1 in
    let same : sum_by (weight_of_half weight) new.halves ≡ sum_by (weight_of_half weight) old.halves = ap (sum_by (weight_of_half weight)) halves in
    let done : sum_by (weight_of weight) new.over ≡ sum_by (weight_of weight) old.over = ap (sum_by (weight_of weight)) over in
    omega (arith, before, sent, same, done)

pub comes_back : (old new : DoorNow) (h left : OnItsWay) (rest : List OnItsWay) → old.asked ≡ h ∷ rest → new.asked ≡ rest ++ left ∷ [] → Hands (Some left) h old.ways new.ways
    → new.halves ≡ old.halves → new.over ≡ old.over → KeepsAll old new
comes_back old new h left rest was is hands halves over weight =
    let g = weight_on_way weight in
    let before : sum_by g old.asked ≡ weight h.end.id + sum_by g rest = ap (sum_by g) was ∙ sum_by-cons g h rest in
    let after : sum_by g new.asked ≡ sum_by g rest + weight left.end.id = ap (sum_by g) is ∙ sum_by_push g rest left in
    let one : weight left.end.id ≡ weight h.end.id = ap (weight_on_way weight) hands.0 in
    let sent : weight_put weight new.ways ≡ weight_put weight old.ways = ap (weight_put weight) hands.1 in
    let same : sum_by (weight_of_half weight) new.halves ≡ sum_by (weight_of_half weight) old.halves = ap (sum_by (weight_of_half weight)) halves in
    let done : sum_by (weight_of weight) new.over ≡ sum_by (weight_of weight) old.over = ap (sum_by (weight_of weight)) over in
    omega (arith, before, after, one, sent, same, done)
