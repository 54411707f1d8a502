-- Values in a slab with the order of their keys beside it: a queue whose values stay where they are. This project's own.
use Rattle.std.specs.Prelude.{◌≡◌, ◌==◌, ℕ, ◌≤◌, Bool, false, if◌then◌else◌, List, [], ◌∷◌, length, Option, Some, None, IfSome}
use Rattle.std.specs.List.{AllByRecursion, IsDistinct, filter_map}
use Rattle.slab.specs.Slab.{Slab, ContainsKey, get, slab_len, with_value}

module _ {T : Type 0} where
  -- the values under these keys, in their order
  abbrev pub in_order : Slab T → (keys : List ℕ) → List T
  in_order s keys = filter_map (get s) keys

  abbrev pub is_found : (passes : T → Bool) → Option T → Bool
  is_found passes (Some x) = passes x
  is_found passes None = false

  -- the key of the first value that passes
  abbrev pub first_key : (passes : T → Bool) → Slab T → (keys : List ℕ) → Option ℕ
  first_key passes s [] = None
  first_key passes s (k ∷ ks) = if is_found passes (get s k) then Some k else first_key passes s ks

  -- Each key has a value, none comes twice, and no other key has a value; there are at most so many, and all of them fit.
  pub record IsOrderOf (s : Slab T) (most : ℕ) (keys : List ℕ) : Type 0 where
    pub held : AllByRecursion (ContainsKey s) keys
    pub once : IsDistinct (λ (a b : ℕ). a == b) keys
    pub all : slab_len s ≡ length keys
    pub few : length keys ≤ most
    pub room : most ≤ s.capacity

  -- the value under one key is told something
  abbrev pub IsToldAt : (old new : Slab T) → (key : ℕ) → (tells : T → T) → Type 0
  IsToldAt old new key tells = IfSome (get old key) (λ x. new ≡ with_value old key (tells x))
