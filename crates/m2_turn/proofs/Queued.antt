-- The halves of a center, one turn after another.
use Rattle.std.proofs.Common.{◌≡◌, ℕ, suc, ◌+◌, ◌-◌, ◌<◌, ◌≤◌, List, [], ◌∷◌, ◌++◌, map, length, refl, sym, ap, subst, ◌∙◌, append-nil, append_assoc, arith, length-append}
use Rattle.std.specs.Prelude.{drop, slice_index_or, take}
use Rattle.std.proofs.Math.Seq.{drop-append_seam, drop-cons, take-append_seam, take-suc}
use Rattle.std.specs.List.Sorted.{IsPermutation}
use Rattle.std.proofs.lemmas.List.{take-append-drop}
use Rattle.std.proofs.lemmas.List.Elements.{All-from_recursion, recursion_from_All}
use Rattle.std.proofs.lemmas.List.Sorted.{All-permutation, IsPermutation-append_comm, IsPermutation-append_left, IsPermutation-map, IsPermutation-sym, IsPermutation-to_front}
use Rattle.std.proofs.lemmas.Map.Keys.{IsDistinct-IsPermutation}
use Rattle.m2_fabric.specs.declared.socket.SocketId.{SocketId}
use Rattle.m2_fabric.specs.Sockets.{same_socket}
use Rattle.m2_record.specs.RecordNow.{RecordNow}
use Rattle.m2_trail.specs.Arrivals.{LooseNow}
use Rattle.m2_turn.specs.declared.half_turn.HalfTurned.{HalfTurned}
use Rattle.m2_turn.specs.declared.half_turn.HalfTurned.TheVariants as turned
use Rattle.m2_turn.specs.declared.halves_turn.HalvesTurn.{HalvesTurn}
use Rattle.m2_turn.specs.declared.halves_turn.HalvesTurn.TheVariants as turn
use Rattle.m2_turn.specs.HalfTurn.{Others, TurnsHalf, with_turned}
use Rattle.m2_turn.specs.HalvesTurn.{Callers, HalfTurns, HalvesTurning, OldestTurns, OneLacked, TurnLeadsOn, TurnsHalves, TurnsOldest, all_wait, memory_in, over_by, stays_by}
use Rattle.m2_turn.specs.RecordTurn.{Means}
use Rattle.m2_turn.specs.Sessions.{AreConsistent, IsCaller, PendingNow, Sessions, Supply, caller_in}
use Rattle.m2_fabric.proofs.Sockets.{same_turned}

-- ---- halves in another order

abbrev sessions : List SocketId → List RecordNow → List PendingNow → List LooseNow → Sessions
sessions made rs hs ls = record { made = made; records = rs; halves = hs; loose = ls }

pub permuted : (s : Supply) (e : ℕ) (made : List SocketId) (rs : List RecordNow) (hs gs : List PendingNow) (ls : List LooseNow) → IsPermutation hs gs →
    AreConsistent s e (sessions made rs hs ls) → AreConsistent s e (sessions made rs gs ls)
permuted s e made rs hs gs ls moves all = record {
  records = all.records;
  kind = all.kind;
  peers = all.peers;
  halves = recursion_from_All (λ (p : PendingNow). IsCaller made rs (caller_in p)) gs
      (All-permutation (λ (p : PendingNow). IsCaller made rs (caller_in p)) hs gs moves (All-from_recursion (λ (p : PendingNow). IsCaller made rs (caller_in p)) hs all.halves));
  loose = all.loose;
  apart = IsDistinct-IsPermutation same_socket same_turned _ _
      (IsPermutation-append_left (map (λ (l : LooseNow). l.end.id) ls) (map (λ (p : PendingNow). p.half.end.id) hs) (map (λ (p : PendingNow). p.half.end.id) gs)
      (IsPermutation-map (λ (p : PendingNow). p.half.end.id) hs gs moves)) all.apart;
}

last : (s : Supply) (e : ℕ) (made : List SocketId) (rs : List RecordNow) (p : PendingNow) (hs : List PendingNow) (ls : List LooseNow) →
    AreConsistent s e (sessions made rs (p ∷ hs) ls) → AreConsistent s e (sessions made rs (hs ++ p ∷ []) (ls ++ []))
last s e made rs p hs ls all =
    subst (λ l. AreConsistent s e (sessions made rs (hs ++ p ∷ []) l)) (sym (append-nil ls))
    (permuted s e made rs (p ∷ hs) (hs ++ p ∷ []) ls (IsPermutation-sym (hs ++ p ∷ []) (p ∷ hs) (IsPermutation-to_front hs p)) all)

-- a half that took its turn stays last, or is over
pub queued : {E : Type 0} (result : HalfTurned E) (s : Supply) (c : Others) (rs : List RecordNow) → AreConsistent s c.entity (with_turned result c rs) →
    AreConsistent s c.entity (sessions c.made rs (c.halves ++ stays_by result) (c.loose ++ over_by result))
queued (turned.Open p) s c rs all = last s c.entity c.made rs p c.halves c.loose all
queued turned.Taken s c rs all =
    subst (λ h. AreConsistent s c.entity (sessions c.made rs h (c.loose ++ []))) (sym (append-nil c.halves))
    (subst (λ l. AreConsistent s c.entity (sessions c.made rs c.halves l)) (sym (append-nil c.loose)) all)
queued (turned.Over l) s c rs all = subst (λ h. AreConsistent s c.entity (sessions c.made rs h (c.loose ++ l ∷ []))) (sym (append-nil c.halves)) all
queued (turned.NoMemory p) s c rs all = last s c.entity c.made rs p c.halves c.loose all

-- ---- the queue in the midst of it

abbrev pub queue_in : HalvesTurning → Callers
queue_in t = record { halves = t.waiting ++ t.stayed; loose = t.loose; homes = t.homes }

-- the oldest took its turn
pub record Stepped (E : Type 0) (answer : HalvesTurn) (m : Means) (t : HalvesTurning) (new : Callers) : Type 0 where
  pub result : HalfTurned E
  pub behind : HalvesTurning
  pub turns : OldestTurns result m t behind
  pub is : new ≡ queue_in behind
  pub answers : answer ≡ memory_in result
  pub fewer : length t.waiting ≡ length behind.waiting + 1

head_is : {X : Type 0} (x y : X) (xs ys : List X) → x ∷ xs ≡ y ∷ ys → x ≡ y
head_is {X} x y xs ys e = ap first e
  where
    first : List X → X
    first [] = x
    first (z ∷ zs) = z

tail_is : {X : Type 0} (x y : X) (xs ys : List X) → x ∷ xs ≡ y ∷ ys → xs ≡ ys
tail_is {X} x y xs ys e = ap rest e
  where
    rest : List X → List X
    rest [] = []
    rest (z ∷ zs) = zs

pub stepped : (E : Type 0) (answer : HalvesTurn) (m : Means) (t : HalvesTurning) (waiting : List PendingNow) (old new : Callers) → t.waiting ≡ waiting → 0 < length waiting → old ≡ queue_in t →
    TurnsOldest E answer m old new → Stepped E answer m t new
stepped E answer m t [] old new e some is h = absurd (omega (arith, some))
stepped E answer m t (p ∷ w) old new e some is h = record {
  result = h.result;
  behind = record { stayed = t.stayed ++ stays_by h.result; waiting = w; loose = t.loose ++ over_by h.result; homes = new.homes };
  turns = record {
    oldest = p;
    waited = e;
    turns = subst (λ o. TurnsHalf h.result p m o new.homes) (ap (λ (c : Callers). c.homes) is) (subst (λ q. TurnsHalf h.result q m old.homes new.homes) (sym first) h.turns);
    stayed = refl;
    loose = refl;
  };
  is = ap (λ x. record { halves = x; loose = new.loose; homes = new.homes }) (h.halves ∙ ap (λ x. x ++ stays_by h.result) (sym others) ∙ append_assoc w t.stayed (stays_by h.result))
      ∙ ap (λ x. record { halves = w ++ (t.stayed ++ stays_by h.result); loose = x; homes = new.homes }) (h.loose ∙ ap (λ x. x ++ over_by h.result) (ap (λ (c : Callers). c.loose) is));
  answers = h.answers;
  fewer = omega (arith, ap length e);
}
  where
    both : p ∷ (w ++ t.stayed) ≡ h.oldest ∷ h.others
    both = ap (λ x. x ++ t.stayed) (sym e) ∙ sym (ap (λ (c : Callers). c.halves) is) ∙ h.was

    first : p ≡ h.oldest
    first = head_is p h.oldest (w ++ t.stayed) h.others both

    others : w ++ t.stayed ≡ h.others
    others = tail_is p h.oldest (w ++ t.stayed) h.others both

-- one turn more
pub one_more : (E : Type 0) (m : Means) (ts : List HalvesTurning) (a b c : HalvesTurning) → HalfTurns E m ts a b → TurnLeadsOn E m b c → HalfTurns E m (ts ++ c ∷ []) a c
one_more E m [] a b c same on = (subst (λ t. TurnLeadsOn E m t c) (sym same) on, refl)
one_more E m (t ∷ ts) a b c (first, rest) on = (first, one_more E m ts t b c rest on)

pub leads_on : (E : Type 0) (m : Means) (t : HalvesTurning) (new : Callers) (answer : HalvesTurn) → answer ≡ turn.Done → (s : Stepped E answer m t new) → TurnLeadsOn E m t s.behind
leads_on E m t new answer e s = at s.result s.turns (sym s.answers ∙ e)
  where
    at : (r : HalfTurned E) → OldestTurns r m t s.behind → memory_in r ≡ turn.Done → TurnLeadsOn E m t s.behind
    at (turned.Open p) turns _ = record { result = turned.Open p; turns = turns; memory = tt }
    at turned.Taken turns _ = record { result = turned.Taken; turns = turns; memory = tt }
    at (turned.Over l) turns _ = record { result = turned.Over l; turns = turns; memory = tt }
    at (turned.NoMemory p) turns none = absurd cc

pub lacked : (E : Type 0) (m : Means) (ts : List HalvesTurning) (start t : HalvesTurning) (new : Callers) (answer : HalvesTurn) → answer ≡ turn.NoMemory → HalfTurns E m ts start t → (s : Stepped E answer m t new) →
    OneLacked E m start s.behind
lacked E m ts start t new answer e before s = at s.result s.turns (sym s.answers ∙ e)
  where
    at : (r : HalfTurned E) → OldestTurns r m t s.behind → memory_in r ≡ turn.NoMemory → OneLacked E m start s.behind
    at (turned.Open p) turns none = absurd cc
    at turned.Taken turns none = absurd cc
    at (turned.Over l) turns none = absurd cc
    at (turned.NoMemory p) turns _ = record { stood = ts; mid = t; turns = before; pending = p; last = turns }

-- all have taken theirs
pub none_waits : (ws : List PendingNow) → length ws ≡ 0 → ws ≡ []
none_waits [] e = refl
none_waits (w ∷ ws) e = absurd (omega (arith, e))

pub all_turned : (E : Type 0) (m : Means) (ts : List HalvesTurning) (t : HalvesTurning) (old new : Callers) → HalfTurns E m ts (all_wait old) t → new ≡ queue_in t → t.waiting ≡ [] → TurnsHalves E turn.Done m old new
all_turned E m ts t old new turns is none = record {
  behind = t;
  turns = record { stood = ts; turns = turns; none = none };
  left = is ∙ ap (λ x. record { halves = x; loose = t.loose; homes = t.homes })
      (ap (λ x. x ++ t.stayed) none ∙ sym (append-nil t.stayed) ∙ ap (λ x. t.stayed ++ x) (sym none));
}

-- ---- the queue turned round

-- the first of what is left goes behind what went
pub one_round : {X : Type 0} (xs : List X) (i : ℕ) (queue : List X) (x : X) (rest : List X) → i < length xs → queue ≡ drop i xs ++ take i xs → queue ≡ x ∷ rest →
    rest ++ x ∷ [] ≡ drop (i + 1) xs ++ take (i + 1) xs
one_round xs i queue x rest within is first =
    ap (λ l. l ++ x ∷ []) (sym (tail_is (slice_index_or xs i x) x (drop (suc i) xs ++ take i xs) rest both))
    ∙ append_assoc (drop (suc i) xs) (take i xs) (x ∷ [])
    ∙ ap (λ y. drop (suc i) xs ++ (take i xs ++ y ∷ [])) (sym (head_is (slice_index_or xs i x) x (drop (suc i) xs ++ take i xs) rest both))
    ∙ ap (λ l. drop (suc i) xs ++ l) (sym (take-suc xs i x within))
    ∙ ap (λ n. drop n xs ++ take n xs) next
  where
    next : suc i ≡ i + 1
    next = omega arith

    both : slice_index_or xs i x ∷ (drop (suc i) xs ++ take i xs) ≡ x ∷ rest
    both = ap (λ l. l ++ take i xs) (sym (drop-cons xs i x within)) ∙ sym is ∙ first

-- those that wait go behind those that took their turn
pub wait_last : {X : Type 0} (waiting stayed : List X) (count : ℕ) → count ≡ length waiting → drop count (waiting ++ stayed) ++ take count (waiting ++ stayed) ≡ stayed ++ waiting
wait_last waiting stayed count e =
    ap (λ n. drop n (waiting ++ stayed) ++ take n (waiting ++ stayed)) e
    ∙ ap (λ l. l ++ take (length waiting) (waiting ++ stayed)) (drop-append_seam waiting stayed)
    ∙ ap (λ l. stayed ++ l) (take-append_seam waiting stayed)

pub round : (s : Supply) (e : ℕ) (made : List SocketId) (rs : List RecordNow) (waiting stayed : List PendingNow) (ls : List LooseNow) →
    AreConsistent s e (sessions made rs (waiting ++ stayed) ls) → AreConsistent s e (sessions made rs (stayed ++ waiting) ls)
round s e made rs waiting stayed ls = permuted s e made rs (waiting ++ stayed) (stayed ++ waiting) ls (IsPermutation-append_comm waiting stayed)

pub rounded : (s : Supply) (e : ℕ) (made : List SocketId) (rs : List RecordNow) (hs gs : List PendingNow) (n : ℕ) (ls : List LooseNow) → gs ≡ drop n hs ++ take n hs →
    AreConsistent s e (sessions made rs hs ls) → AreConsistent s e (sessions made rs gs ls)
rounded s e made rs hs gs n ls is all =
    subst (λ h. AreConsistent s e (sessions made rs h ls)) (sym is)
    (round s e made rs (take n hs) (drop n hs) ls (subst (λ h. AreConsistent s e (sessions made rs h ls)) (sym (take-append-drop n hs)) all))

pub round_length : {X : Type 0} (hs gs : List X) (n : ℕ) → gs ≡ drop n hs ++ take n hs → length gs ≡ length hs
round_length hs gs n is =
    let all = ap length (take-append-drop n hs) in
    let there = length-append (take n hs) (drop n hs) in
    let here = length-append (drop n hs) (take n hs) in
    let same = ap length is in
    omega (arith, all, there, here, same)

-- ---- how many there are

few_stay : {E : Type 0} (r : HalfTurned E) → length (stays_by r) ≤ 1
few_stay (turned.Open p) = omega arith
few_stay turned.Taken = omega arith
few_stay (turned.Over l) = omega arith
few_stay (turned.NoMemory p) = omega arith

pub no_more : (E : Type 0) (answer : HalvesTurn) (m : Means) (old new : Callers) → TurnsOldest E answer m old new → length new.halves ≤ length old.halves
no_more E answer m old new h =
    let behind = ap length h.halves in
    let parts = length-append h.others (stays_by h.result) in
    let stay = few_stay h.result in
    let before = ap length h.was in
    omega (arith, behind, parts, stay, before)

-- the places of those that wait
pub some_wait : (t : HalvesTurning) (queue : Callers) (count turned all : ℕ) → queue ≡ queue_in t → length t.waiting + turned ≡ all → count ≡ all → turned < count → 0 < length queue.halves
some_wait t queue count turned all is left full more =
    let whole = ap length (ap (λ (c : Callers). c.halves) is) in
    let parts = length-append t.waiting t.stayed in
    omega (arith, whole, parts, left, full, more)

pub oldest_stepped : (E : Type 0) (answer : HalvesTurn) (m n : Means) (t : HalvesTurning) (old new : Callers) (count turned all : ℕ) → n ≡ m → old ≡ queue_in t → length t.waiting + turned ≡ all → count ≡ all → turned < count →
    TurnsOldest E answer n old new → Stepped E answer m t new
oldest_stepped E answer m n t old new count turned all same is left full more h =
    stepped E answer m t t.waiting old new refl (omega (arith, left, full, more)) is (subst (λ x. TurnsOldest E answer x old new) same h)

pub still_wait : (E : Type 0) (answer : HalvesTurn) (m : Means) (t : HalvesTurning) (new : Callers) (count turned all : ℕ) (s : Stepped E answer m t new) → length t.waiting + turned ≡ all → count ≡ all → turned < count →
    count - turned - 1 ≡ length s.behind.waiting
still_wait E answer m t new count turned all s left full more = let fewer = s.fewer in omega (arith, fewer, left, full, more)

pub wait_within : (E : Type 0) (answer : HalvesTurn) (m : Means) (t : HalvesTurning) (new : Callers) (count turned all : ℕ) (s : Stepped E answer m t new) → length t.waiting + turned ≡ all → count ≡ all → turned < count →
    count - turned - 1 ≤ length new.halves
wait_within E answer m t new count turned all s left full more =
    let whole = ap length (ap (λ (c : Callers). c.halves) s.is) in
    let parts = length-append s.behind.waiting s.behind.stayed in
    let wait = still_wait E answer m t new count turned all s left full more in
    omega (arith, whole, parts, wait)

-- ---- one that lacked memory

pub lacked_so : (E : Type 0) (m : Means) (ts : List HalvesTurning) (start : Callers) (t : HalvesTurning) (mid new : Callers) (answer : HalvesTurn) (n : ℕ) → answer ≡ turn.NoMemory → HalfTurns E m ts (all_wait start) t →
    (s : Stepped E answer m t mid) → n ≡ length s.behind.waiting → new ≡ record mid { halves = drop n mid.halves ++ take n mid.halves } → TurnsHalves E turn.NoMemory m start new
lacked_so E m ts start t mid new answer n e before s wait is = record {
  behind = s.behind;
  turns = lacked E m ts (all_wait start) t mid answer e before s;
  left = is ∙ ap (λ (q : Callers). record q { halves = drop n q.halves ++ take n q.halves }) s.is
      ∙ ap (λ h. record { halves = h; loose = s.behind.loose; homes = s.behind.homes }) (wait_last s.behind.waiting s.behind.stayed n wait);
}
