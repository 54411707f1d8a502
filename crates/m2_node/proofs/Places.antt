-- What the library lacks of lists whose items stand at the same places, and of lists from the last item on.
use Rattle.std.proofs.Common.{◌≡◌, ◌⊎◌, inl, inr, ℕ, zero, suc, ◌+◌, ◌<◌, ◌≤◌, List, [], ◌∷◌, ◌++◌, length, map, reverse, take, drop, refl, sym, ap, subst, ◌∙◌, arith}
use Rattle.std.specs.Prelude.{get_or, slice_get, Some}
use Rattle.std.specs.List.{AllByRecursion, flat_map}
use Rattle.std.proofs.lemmas.List.{append-nil, drop_more, reverse-append, take_more}
use Rattle.std.proofs.lemmas.List.Concat.{flat_map-append}
use Rattle.std.proofs.lemmas.Option.{get_or_from_slice_get, none-some, same_Some, slice_get_within}
use Rattle.m2_bytes.proofs.m2_lemmas.Lists.{all_last}

-- ---- two lists, place by place

-- the first of each, and those behind
pub each_first : {X Y : Type 0} (R : X → Y → Type 0) (x : X) (y : Y) (xs : List X) (ys : List Y) → R x y →
    ((k : ℕ) (a : X) (b : Y) → slice_get xs k ≡ Some a → slice_get ys k ≡ Some b → R a b) →
    (k : ℕ) (a : X) (b : Y) → slice_get (x ∷ xs) k ≡ Some a → slice_get (y ∷ ys) k ≡ Some b → R a b
each_first R x y xs ys r rest zero a b p q = subst (λ z. R z b) (same_Some x a p) (subst (R x) (same_Some y b q) r)
each_first R x y xs ys r rest (suc k) a b p q = rest k a b p q

none_is_some : {P : Type 0} (n : ℕ) → zero ≡ suc n → P
none_is_some n e = absurd (omega (arith, e))

-- lists that give the same at each place
pub same_maps : {X Y Z : Type 0} (f : X → Z) (g : Y → Z) (xs : List X) (ys : List Y) → length ys ≡ length xs →
    ((k : ℕ) (x : X) (y : Y) → slice_get xs k ≡ Some x → slice_get ys k ≡ Some y → g y ≡ f x) → map g ys ≡ map f xs
same_maps f g [] [] e each = refl
same_maps f g [] (y ∷ ys) e each = none_is_some (length ys) (sym e)
same_maps f g (x ∷ xs) [] e each = none_is_some (length xs) e
same_maps f g (x ∷ xs) (y ∷ ys) e each =
    ap (λ z. z ∷ map g ys) (each 0 x y refl refl) ∙ ap (λ zs. f x ∷ zs) (same_maps f g xs ys (omega (arith, e)) (λ k a b p q. each (suc k) a b p q))

-- the one behind so many
pub get_behind : {X : Type 0} (xs : List X) (x : X) (ys : List X) (k : ℕ) → length xs ≡ k → slice_get (xs ++ x ∷ ys) k ≡ Some x
get_behind [] x ys zero e = refl
get_behind [] x ys (suc k) e = none_is_some k e
get_behind (z ∷ xs) x ys zero e = none_is_some (length xs) (sym e)
get_behind (z ∷ xs) x ys (suc k) e = get_behind xs x ys k (omega (arith, e))

-- those before it
pub get_before : {X : Type 0} (xs ys : List X) (k : ℕ) → k < length xs → slice_get (xs ++ ys) k ≡ slice_get xs k
get_before [] ys k less = absurd (omega (arith, less))
get_before (x ∷ xs) ys zero less = refl
get_before (x ∷ xs) ys (suc k) less = get_before xs ys k (omega (arith, less))

-- those behind so many
pub get_drop : {X : Type 0} (xs : List X) (m i : ℕ) → slice_get (drop m xs) i ≡ slice_get xs (m + i)
get_drop xs zero i = ap (slice_get xs) (let e : i ≡ zero + i = omega arith in e)
get_drop [] (suc m) i = refl
get_drop (x ∷ xs) (suc m) i = get_drop xs m i ∙ ap (slice_get (x ∷ xs)) (let e : suc (m + i) ≡ suc m + i = omega arith in e)

-- ---- the last item

pub record Last {X : Type 0} (xs : List X) (before : ℕ) : Type 0 where
  pub front : List X
  pub last : X
  pub split : xs ≡ front ++ last ∷ []
  pub count : length front ≡ before

behind_first : {X : Type 0} (x : X) (xs : List X) (n : ℕ) → Last xs n → Last (x ∷ xs) (suc n)
behind_first x xs n l = record { front = x ∷ l.front; last = l.last; split = ap (λ ys. x ∷ ys) l.split; count = ap suc l.count }

pub last_of : {X : Type 0} (xs : List X) (n : ℕ) → length xs ≡ suc n → Last xs n
last_of [] n e = none_is_some n e
last_of (x ∷ []) zero e = record { front = []; last = x; split = refl; count = refl }
last_of (x ∷ []) (suc n) e = none_is_some n (omega (arith, e))
last_of (x ∷ y ∷ xs) zero e = none_is_some (length xs) (omega (arith, e))
last_of (x ∷ y ∷ xs) (suc n) e = behind_first x (y ∷ xs) n (last_of (y ∷ xs) n (omega (arith, e)))

-- from the last one on
pub reverse_last : {X : Type 0} (xs : List X) (x : X) → reverse (xs ++ x ∷ []) ≡ x ∷ reverse xs
reverse_last xs x = reverse-append xs (x ∷ [])

pub reverse_first : {X : Type 0} (x : X) (xs : List X) → reverse (x ∷ xs) ≡ reverse xs ++ x ∷ []
reverse_first x xs = reverse-append (x ∷ []) xs

pub joined_first : {X A : Type 0} (f : X → List A) (x : X) (xs : List X) → flat_map f (reverse (x ∷ xs)) ≡ flat_map f (reverse xs) ++ f x
joined_first f x xs = ap (flat_map f) (reverse_first x xs) ∙ flat_map-append f (reverse xs) (x ∷ []) ∙ ap (λ ys. flat_map f (reverse xs) ++ ys) (append-nil (f x))

pub joined_last : {X A : Type 0} (f : X → List A) (xs : List X) (x : X) → flat_map f (reverse (xs ++ x ∷ [])) ≡ f x ++ flat_map f (reverse xs)
joined_last f xs x = ap (flat_map f) (reverse_last xs x)

-- ---- a loop over places

-- the one at a place comes first of those from there on
pub drop_here : {X : Type 0} (xs : List X) (k : ℕ) (x : X) → slice_get xs k ≡ Some x → drop k xs ≡ x ∷ drop (k + 1) xs
drop_here xs k x e = drop_more xs k x (slice_get_within xs k x e) ∙ ap (λ y. y ∷ drop (k + 1) xs) (get_or_from_slice_get xs k x x e)

pub below_or_at : (i k : ℕ) → i < k + 1 → (i < k) ⊎ (i ≡ k)
below_or_at i k few = grind (arith, few)

at_last : {X : Type 0} (P : X → Type 0) (xs : List X) (k i : ℕ) (x y : X) → slice_get xs k ≡ Some x → P x → i ≡ k → slice_get xs i ≡ Some y → P y
at_last P xs k i x y there p same e = subst P (same_Some x y (sym there ∙ ap (slice_get xs) (sym same) ∙ e)) p

-- what holds of those before a place, and of the one there
pub each_more : {X : Type 0} (P : X → Type 0) (xs : List X) (k : ℕ) (x : X) → slice_get xs k ≡ Some x → P x → ((i : ℕ) (y : X) → i < k → slice_get xs i ≡ Some y → P y) →
    (i : ℕ) (y : X) → i < k + 1 → slice_get xs i ≡ Some y → P y
each_more P xs k x there p before i y few e = elim (below_or_at i k few) [
  | inl less ↦ before i y less e
  | inr same ↦ at_last P xs k i x y there p same e
]

-- the same by recursion, of the first so many
pub all_more : {X : Type 0} (P : X → Type 0) (xs : List X) (k : ℕ) (x : X) → k < length xs → x ≡ get_or xs k x → P x → AllByRecursion P (take k xs) → AllByRecursion P (take (k + 1) xs)
all_more P xs k x less same p all = subst (AllByRecursion P) (sym (take_more xs k x less)) (all_last P (take k xs) (get_or xs k x) all (subst P same p))

-- of all, where the place is behind them
pub each_of_all : {X : Type 0} (P : X → Type 0) (xs : List X) (k : ℕ) → length xs ≤ k → ((i : ℕ) (y : X) → i < k → slice_get xs i ≡ Some y → P y) → (i : ℕ) (y : X) → slice_get xs i ≡ Some y → P y
each_of_all P xs k most before i y e = before i y (let within = slice_get_within xs i y e in omega (arith, most, within)) e

-- ---- a list that is mapped

pub record Mapped {X Y : Type 0} (f : X → Y) (xs : List X) (k : ℕ) (y : Y) : Type 0 where
  pub item : X
  pub there : slice_get xs k ≡ Some item
  pub same : f item ≡ y

-- what stands at a place of it is of what stands there
pub get_of_map : {X Y : Type 0} (f : X → Y) (xs : List X) (k : ℕ) (y : Y) → slice_get (map f xs) k ≡ Some y → Mapped f xs k y
get_of_map f [] k y e = absurd (none-some y e)
get_of_map f (x ∷ xs) zero y e = record { item = x; there = refl; same = same_Some (f x) y e }
get_of_map f (x ∷ xs) (suc k) y e = let m = get_of_map f xs k y e in record { item = m.item; there = m.there; same = m.same }

-- where two lists are as long as each other, and the one has a place
pub record There {X : Type 0} (xs : List X) (k : ℕ) : Type 0 where
  pub item : X
  pub there : slice_get xs k ≡ Some item

pub there_at : {X : Type 0} (xs : List X) (k : ℕ) → k < length xs → There xs k
there_at [] k within = absurd (omega (arith, within))
there_at (x ∷ xs) zero within = record { item = x; there = refl }
there_at (x ∷ xs) (suc k) within =
    let rest = there_at xs k (omega (arith, within)) in
    record { item = rest.item; there = rest.there }

pub get_too : {X Y : Type 0} (xs : List X) (ys : List Y) (k : ℕ) (x : X) → length ys ≡ length xs → slice_get xs k ≡ Some x → There ys k
get_too xs ys k x same e = there_at ys k (let within = slice_get_within xs k x e in omega (arith, same, within))
