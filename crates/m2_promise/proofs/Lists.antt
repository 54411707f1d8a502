-- Items of lists by their places, and among others.
use Rattle.std.proofs.Common.{◌≡◌, Bool, true, false, ◌||◌, List, [], ◌∷◌, map, refl, sym, subst, inl, inr}
use Rattle.std.specs.List.{AllByRecursion, flat_map, list_any}
use Rattle.m2_fabric.specs.declared.socket.SocketId.{SocketId}
use Rattle.m2_fabric.specs.Sockets.{is_among, same_socket}
use Rattle.m2_links_go_on.specs.m2_growth.Halves.{IsOneOf}
use Rattle.m2_links_go_on.proofs.m2_growth.Among.{of_each, one_back, one_front}
use Rattle.m2_fabric.proofs.m2_lemmas.Booleans.{false_isnt_true}
use Rattle.m2_fabric.proofs.Sockets.{same_equal}

-- ---- by places

-- ---- one of a list

-- one that passes
pub record Passes {X : Type 0} (p : X → Bool) (xs : List X) : Type 0 where
  pub item : X
  pub there : IsOneOf item xs
  pub is : p item ≡ true

pub any_passes : {X : Type 0} (p : X → Bool) (xs : List X) → list_any p xs ≡ true → Passes p xs
any_passes p [] h = absurd (false_isnt_true h)
any_passes {X} p (x ∷ xs) h = at (p x) refl h (any_passes p xs)
  where
    at : (b : Bool) → p x ≡ b → b || list_any p xs ≡ true → (list_any p xs ≡ true → Passes p xs) → Passes p (x ∷ xs)
    at true is h rest = record { item = x; there = inl refl; is = is }
    at false is h rest = let found = rest h in record { item = found.item; there = inr found.there; is = found.is }

pub flat_one : {X Y : Type 0} (f : X → List Y) (x : X) (y : Y) (xs : List X) → IsOneOf x xs → IsOneOf y (f x) → IsOneOf y (flat_map f xs)
flat_one f x y [] i j = absurd i
flat_one f x y (z ∷ xs) (inl e) j = one_front y (f z) (flat_map f xs) (subst (λ w. IsOneOf y (f w)) e j)
flat_one f x y (z ∷ xs) (inr i) j = one_back y (f z) (flat_map f xs) (flat_one f x y xs i j)

pub record IsImage {X Y : Type 0} (f : X → Y) (y : Y) (xs : List X) : Type 0 where
  pub item : X
  pub there : IsOneOf item xs
  pub is : y ≡ f item

pub image_of : {X Y : Type 0} (f : X → Y) (y : Y) (xs : List X) → IsOneOf y (map f xs) → IsImage f y xs
image_of f y [] h = absurd h
image_of f y (x ∷ xs) (inl e) = record { item = x; there = inl refl; is = e }
image_of f y (x ∷ xs) (inr h) = let found = image_of f y xs h in record { item = found.item; there = inr found.there; is = found.is }

-- what holds of all sockets of a list holds of one that is among them
pub of_among : (P : SocketId → Type 0) (k : SocketId) (ks : List SocketId) → AllByRecursion P ks → is_among k ks ≡ true → P k
of_among P k ks all h =
    let found = any_passes (same_socket k) ks h in
    subst P (sym (same_equal k found.item found.is)) (of_each P found.item ks all found.there)
