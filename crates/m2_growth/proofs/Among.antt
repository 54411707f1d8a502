-- What is one of a list, and sockets among others.
use Rattle.std.proofs.Common.{◌≡◌, ◌⊎◌, inl, inr, Bool, true, false, ◌||◌, List, [], ◌∷◌, ◌++◌, map, refl, sym, ap, subst, ◌∙◌}
use Rattle.std.specs.List.{AllByRecursion}
use Rattle.m2_fabric.specs.declared.socket.SocketId.{SocketId}
use Rattle.m2_fabric.specs.Sockets.{is_among, same_socket}
use Rattle.m2_growth.specs.Halves.{IsOneOf}
use Rattle.m2_fabric.proofs.m2_lemmas.Booleans.{false_isnt_true}
use Rattle.m2_fabric.proofs.Sockets.{same_equal, same_refl}

-- ---- one of a list

pub one_front : {X : Type 0} (x : X) (xs ys : List X) → IsOneOf x xs → IsOneOf x (xs ++ ys)
one_front x [] ys h = absurd h
one_front x (y ∷ xs) ys (inl e) = inl e
one_front x (y ∷ xs) ys (inr h) = inr (one_front x xs ys h)

pub one_back : {X : Type 0} (x : X) (xs ys : List X) → IsOneOf x ys → IsOneOf x (xs ++ ys)
one_back x [] ys h = h
one_back x (y ∷ xs) ys h = inr (one_back x xs ys h)

-- a choice of two, each followed further
pub either : {A B C D : Type 0} → (A → C) → (B → D) → A ⊎ B → C ⊎ D
either f g (inl a) = inl (f a)
either f g (inr b) = inr (g b)

pub in_part : {X : Type 0} (x : X) (xs ys : List X) → IsOneOf x (xs ++ ys) → IsOneOf x xs ⊎ IsOneOf x ys
in_part x [] ys h = inr h
in_part x (y ∷ xs) ys (inl e) = inl (inl e)
in_part x (y ∷ xs) ys (inr h) = either (λ i. inr i) (λ i. i) (in_part x xs ys h)

pub mapped_one : {X Y : Type 0} (f : X → Y) (x : X) (xs : List X) → IsOneOf x xs → IsOneOf (f x) (map f xs)
mapped_one f x [] h = absurd h
mapped_one f x (y ∷ xs) (inl e) = inl (ap f e)
mapped_one f x (y ∷ xs) (inr h) = inr (mapped_one f x xs h)

pub each_by : {X : Type 0} (P : X → Type 0) (xs : List X) → ((x : X) → IsOneOf x xs → P x) → AllByRecursion P xs
each_by P [] h = tt
each_by P (x ∷ xs) h = (h x (inl refl), each_by P xs (λ y i. h y (inr i)))

pub of_each : {X : Type 0} (P : X → Type 0) (x : X) (xs : List X) → AllByRecursion P xs → IsOneOf x xs → P x
of_each P x [] all h = absurd h
of_each P x (y ∷ xs) all (inl e) = subst P (sym e) all.0
of_each P x (y ∷ xs) all (inr h) = of_each P x xs all.1 h

-- ---- in the midst of a list

pub mid_here : {X Y : Type 0} (f : X → Y) (p : X) (xs ys : List X) → IsOneOf (f p) (map f (xs ++ p ∷ ys))
mid_here f p [] ys = inl refl
mid_here f p (x ∷ xs) ys = inr (mid_here f p xs ys)

pub mid_other : {X Y : Type 0} (f : X → Y) (p : X) (y : Y) (xs ys : List X) → IsOneOf y (map f (xs ++ ys)) → IsOneOf y (map f (xs ++ p ∷ ys))
mid_other f p y [] ys h = inr h
mid_other f p y (x ∷ xs) ys (inl e) = inl e
mid_other f p y (x ∷ xs) ys (inr h) = inr (mid_other f p y xs ys h)

pub mid_split : {X Y : Type 0} (f : X → Y) (p : X) (y : Y) (xs ys : List X) → IsOneOf y (map f (xs ++ p ∷ ys)) → (y ≡ f p) ⊎ IsOneOf y (map f (xs ++ ys))
mid_split f p y [] ys h = h
mid_split f p y (x ∷ xs) ys (inl e) = inr (inl e)
mid_split f p y (x ∷ xs) ys (inr h) = either (λ e. e) (λ i. inr i) (mid_split f p y xs ys h)

pub mid_out : {X : Type 0} (P : X → Type 0) (p : X) (xs ys : List X) → AllByRecursion P (xs ++ p ∷ ys) → P p × AllByRecursion P (xs ++ ys)
mid_out P p [] ys all = all
mid_out P p (x ∷ xs) ys all = let rest = mid_out P p xs ys all.1 in (rest.0, (all.0, rest.1))

pub mid_in : {X : Type 0} (P : X → Type 0) (p : X) (xs ys : List X) → P p → AllByRecursion P (xs ++ ys) → AllByRecursion P (xs ++ p ∷ ys)
mid_in P p [] ys this all = (this, all)
mid_in P p (x ∷ xs) ys this all = (all.0, mid_in P p xs ys this all.1)

-- ---- sockets

pub among_back : (k : SocketId) (xs ys : List SocketId) → is_among k ys ≡ true → is_among k (xs ++ ys) ≡ true
among_back k [] ys e = e
among_back k (x ∷ xs) ys e = at (same_socket k x) (among_back k xs ys e)
  where
    at : (b : Bool) → is_among k (xs ++ ys) ≡ true → b || is_among k (xs ++ ys) ≡ true
    at true rest = refl
    at false rest = rest

pub among_one : (k x : SocketId) → is_among k (x ∷ []) ≡ true → k ≡ x
among_one k x e = at (same_socket k x) refl e
  where
    at : (b : Bool) → same_socket k x ≡ b → b || false ≡ true → k ≡ x
    at true same h = same_equal k x same
    at false same h = absurd (false_isnt_true h)

-- whose socket it is
pub record IsOf {X : Type 0} (f : X → SocketId) (k : SocketId) (xs : List X) : Type 0 where
  pub item : X
  pub there : IsOneOf item xs
  pub is : k ≡ f item

pub whose : {X : Type 0} (f : X → SocketId) (k : SocketId) (xs : List X) → is_among k (map f xs) ≡ true → IsOf f k xs
whose f k [] e = absurd (false_isnt_true e)
whose {X} f k (x ∷ xs) e = at (same_socket k (f x)) refl e (whose f k xs)
  where
    at : (b : Bool) → same_socket k (f x) ≡ b → b || is_among k (map f xs) ≡ true → (is_among k (map f xs) ≡ true → IsOf f k xs) → IsOf f k (x ∷ xs)
    at true same h rest = record { item = x; there = inl refl; is = same_equal k (f x) same }
    at false same h rest = let found = rest h in record { item = found.item; there = inr found.there; is = found.is }

pub among_mapped : {X : Type 0} (f : X → SocketId) (x : X) (k : SocketId) (xs : List X) → IsOneOf x xs → k ≡ f x → is_among k (map f xs) ≡ true
among_mapped f x k [] h e = absurd h
among_mapped f x k (y ∷ xs) (inl same) e = ap (λ b. b || is_among k (map f xs)) (ap (same_socket k) (sym (e ∙ ap f same)) ∙ same_refl k)
among_mapped f x k (y ∷ xs) (inr h) e = at (same_socket k (f y)) (among_mapped f x k xs h e)
  where
    at : (b : Bool) → is_among k (map f xs) ≡ true → b || is_among k (map f xs) ≡ true
    at true rest = refl
    at false rest = rest
