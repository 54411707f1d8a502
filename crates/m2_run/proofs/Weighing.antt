-- Two lists that have the same sockets, each once, weigh the same; so all that a center's port made is held by its ends.
use Rattle.std.proofs.Common.{◌≡◌, ℕ, ◌+◌, Bool, true, false, List, [], ◌∷◌, ◌++◌, map, sum_by, refl, sym, ap, subst, ◌∙◌, arith}
use Rattle.std.specs.List.{AllByRecursion, IsDistinct, flat_map}
use Rattle.std.proofs.lemmas.List.Sums.{sum_by-append, sum_by-cons}
use Rattle.m2_fabric.specs.declared.socket.SocketId.{SocketId}
use Rattle.m2_fabric.specs.Sockets.{is_among, same_socket}
use Rattle.m2_fabric.proofs.Sockets.{same_equal, same_refl, same_turned}
use Rattle.m2_fabric.proofs.m2_lemmas.Booleans.{false_isnt_true}
use Rattle.m2_node.specs.m2_script.m2_center.Center.{CenterNow}
use Rattle.m2_node.specs.m2_script.m2_center.Finishing.{rest_of}
use Rattle.m2_dispatch.specs.declared.logged.Logged.{Logged}
use Rattle.m2_fabric.specs.End.{SeenEnd}
use Rattle.m2_node.specs.m2_links_go_on.CourseEnded.{HasRunItsCourse, ends_left}
use Rattle.m2_node.specs.m2_links_go_on.Made.{NodeMade}
use Rattle.m2_node.specs.m2_script.m2_record.RecordNow.{RecordNow, feed_end, ids_of}
use Rattle.m2_run.specs.Kept.{MadeIsHeld, ends_of_records}
use Rattle.m2_trail.specs.Arrivals.{LooseNow}

-- where a socket stands in a list
record Stands (k : SocketId) (ys : List SocketId) : Type 0 where
  front : List SocketId
  back : List SocketId
  split : ys ≡ front ++ k ∷ back

among_tail : (k y : SocketId) (ys : List SocketId) → same_socket k y ≡ false → is_among k (y ∷ ys) ≡ is_among k ys
among_tail k y ys s = grind (arith, s)

stands_further : (k y : SocketId) (ys : List SocketId) → Stands k ys → Stands k (y ∷ ys)
stands_further k y ys rest = record { front = y ∷ rest.front; back = rest.back; split = ap (λ zs. y ∷ zs) rest.split }

stands : (k : SocketId) (ys : List SocketId) → is_among k ys ≡ true → Stands k ys
stands k [] e = absurd (false_isnt_true e)
stands k (y ∷ ys) e = by (same_socket k y) refl (λ there. stands k ys there)
  where
    by : (b : Bool) → same_socket k y ≡ b → (is_among k ys ≡ true → Stands k ys) → Stands k (y ∷ ys)
    by true s rest = record { front = []; back = ys; split = ap (λ z. z ∷ ys) (sym (same_equal k y s)) }
    by false s rest = stands_further k y ys (rest (sym (among_tail k y ys s) ∙ e))

-- no other is the same
none_same : (x : SocketId) (xs : List SocketId) → AllByRecursion (λ y. same_socket x y ≡ false) xs → is_among x xs ≡ false
none_same x [] all = refl
none_same x (y ∷ ys) all = grind (arith, all.0, none_same x ys all.1)

-- one that is apart from all, taken out of the middle
apart_front : (x : SocketId) (front back : List SocketId) → IsDistinct same_socket (front ++ x ∷ back) → is_among x (front ++ back) ≡ false
unfolding IsDistinct
apart_front x [] back d = none_same x back d.0
apart_front x (y ∷ front) back d = grind (arith, same_turned x y, middle y x front back d.0, apart_front x front back d.1)
  where
    middle : (y x : SocketId) (front back : List SocketId) → AllByRecursion (λ z. same_socket y z ≡ false) (front ++ x ∷ back) → same_socket y x ≡ false
    middle y x [] back all = all.0
    middle y x (z ∷ front) back all = middle y x front back all.1

all_without : (P : SocketId → Type 0) (x : SocketId) (front back : List SocketId) → AllByRecursion P (front ++ x ∷ back) → AllByRecursion P (front ++ back)
all_without P x [] back all = all.1
all_without P x (y ∷ front) back all = (all.0, all_without P x front back all.1)

distinct_without : (x : SocketId) (front back : List SocketId) → IsDistinct same_socket (front ++ x ∷ back) → IsDistinct same_socket (front ++ back)
unfolding IsDistinct
distinct_without x [] back d = d.1
distinct_without x (y ∷ front) back d = (all_without (λ z. same_socket y z ≡ false) x front back d.0, distinct_without x front back d.1)

-- among the others it is among all
among_without : (k x : SocketId) (front back : List SocketId) → same_socket k x ≡ false → is_among k (front ++ x ∷ back) ≡ is_among k (front ++ back)
among_without k x [] back s = grind (arith, s)
among_without k x (y ∷ front) back s = grind (arith, among_without k x front back s)

here : (x : SocketId) (xs : List SocketId) → is_among x (x ∷ xs) ≡ true
here x xs = grind (arith, same_refl x)

-- behind the first one the two have the same
others_same : (x : SocketId) (xs front back : List SocketId) → IsDistinct same_socket (x ∷ xs) → IsDistinct same_socket (front ++ x ∷ back) →
    ((k : SocketId) → is_among k (x ∷ xs) ≡ is_among k (front ++ x ∷ back)) → (k : SocketId) → is_among k xs ≡ is_among k (front ++ back)
unfolding IsDistinct
others_same x xs front back dx d same k = at (same_socket k x) refl
  where
    at : (b : Bool) → same_socket k x ≡ b → is_among k xs ≡ is_among k (front ++ back)
    at true e = subst (λ z. is_among z xs ≡ is_among z (front ++ back)) (sym (same_equal k x e)) (none_same x xs dx.0 ∙ sym (apart_front x front back d))
    at false e = sym (among_tail k x xs e) ∙ same k ∙ among_without k x front back e

turned : (weight : SocketId → ℕ) (x : SocketId) (front back : List SocketId) → weight x + sum_by weight (front ++ back) ≡ sum_by weight (front ++ x ∷ back)
turned weight x front back = omega (arith, sum_by-append weight front back, sum_by-append weight front (x ∷ back), sum_by-cons weight x back)

pub weigh_the_same : (xs ys : List SocketId) → IsDistinct same_socket xs → IsDistinct same_socket ys → ((k : SocketId) → is_among k xs ≡ is_among k ys) → (weight : SocketId → ℕ) →
    sum_by weight xs ≡ sum_by weight ys
unfolding IsDistinct
weigh_the_same [] [] dx dy same weight = refl
weigh_the_same [] (y ∷ ys) dx dy same weight = absurd (false_isnt_true (same y ∙ here y ys))
weigh_the_same (x ∷ xs) ys dx dy same weight =
    let s = stands x ys (sym (same x) ∙ here x xs) in
    let d = subst (IsDistinct same_socket) s.split dy in
    let so = λ (k : SocketId). same k ∙ ap (is_among k) s.split in
    let rest = weigh_the_same xs (s.front ++ s.back) dx.1 (distinct_without x s.front s.back d) (others_same x xs s.front s.back dx d so) weight in
    sum_by-cons weight x xs ∙ ap (λ n. weight x + n) rest ∙ turned weight x s.front s.back ∙ ap (sum_by weight) (sym s.split)

-- lists in which the parts of each are turned
pub parts_turned : {X Y : Type 0} (f g : X → List Y) (weight : Y → ℕ) (xs : List X) → sum_by weight (flat_map (λ x. f x ++ g x) xs) ≡ sum_by weight (flat_map (λ x. g x ++ f x) xs)
parts_turned f g weight [] = refl
parts_turned f g weight (x ∷ xs) =
    let a = sum_by-append weight (f x ++ g x) (flat_map (λ x. f x ++ g x) xs) in
    let b = sum_by-append weight (g x ++ f x) (flat_map (λ x. g x ++ f x) xs) in
    omega (arith, a, b, sum_by-append weight (f x) (g x), sum_by-append weight (g x) (f x), parts_turned f g weight xs)

-- a weight of what items are mapped to
pub weight_of_map : {X Y : Type 0} (f : X → Y) (weight : Y → ℕ) (xs : List X) → sum_by weight (map f xs) ≡ sum_by (λ x. weight (f x)) xs
weight_of_map f weight [] = refl
weight_of_map f weight (x ∷ xs) = omega (arith, sum_by-cons weight (f x) (map f xs), sum_by-cons (λ x. weight (f x)) x xs, weight_of_map f weight xs)

-- ---- of a center that has run its course

pub made_is_held : (may_give : ℕ → Type 0) (moment : ℕ) (node : NodeMade) (c : CenterNow (List Logged)) → HasRunItsCourse may_give moment node (rest_of c) → MadeIsHeld c
made_is_held may_give moment node c ran weight =
    let r = rest_of c in
    let loose = map (λ (l : LooseNow). l.end) r.loose in
    let fed : List SeenEnd = flat_map (λ (x : RecordNow). feed_end x.core.live.feed ++ x.spent) c.records in
    let held : sum_by weight c.port.made ≡ sum_by weight (ids_of (ends_left r)) = weigh_the_same c.port.made (ids_of (ends_left r)) ran.once ran.own ran.sockets weight in
    let w : SeenEnd → ℕ = λ (e : SeenEnd). weight e.id in
    let one : sum_by weight (ids_of (fed ++ loose)) ≡ sum_by w (fed ++ loose) = weight_of_map (λ (e : SeenEnd). e.id) weight (fed ++ loose) in
    let other : sum_by weight (map (λ (e : SeenEnd). e.id) (ends_of_records c ++ loose)) ≡ sum_by w (ends_of_records c ++ loose) = weight_of_map (λ (e : SeenEnd). e.id) weight (ends_of_records c ++ loose) in
    let turned : sum_by w fed ≡ sum_by w (ends_of_records c) = parts_turned (λ (x : RecordNow). feed_end x.core.live.feed) (λ (x : RecordNow). x.spent) w c.records in
    omega (arith, held, one, other, sum_by-append w fed loose, sum_by-append w (ends_of_records c) loose, turned)
