-- How items lie in a heap, and the list that contracts see of them.
use Rattle.std.specs.Prelude.{ℕ, ◌≢◌, ◌+◌, ◌<◌, ◌≤◌, ◌^◌, Bool, List, [], ◌∷◌, map, if◌then◌else◌}
use Rattle.std.specs.List.{AllByRecursion}
use Rattle.std.specs.BinaryHeap.{IsHeap, heap_items, heap_len, heap_capacity}
use Rattle.std.specs.Ordering.{nat_cmp, ordering_then, is_lt}
use Rattle.std.specs.declared.cmp.Ordering.{Ordering}
use Rattle.m2_queues.specs.PriorityQueue.{Ranked, Line}
use Rattle.m2_queues.specs.declared.stable_heap.Posted.{Posted}
use Rattle.m2_queues.specs.declared.stable_heap.StableHeap.TheInside.{Inside}

-- the heap gives the greatest first: the greatest rank, and of it the earliest post
abbrev pub posted_cmp : {T : Type 0} → Posted T → Posted T → Ordering
posted_cmp x y = ordering_then (nat_cmp x.rank y.rank) (nat_cmp y.post.0 x.post.0)

-- whether x comes out before y
abbrev pub comes_before : {T : Type 0} → Posted T → Posted T → Bool
comes_before x y = is_lt (posted_cmp y x)

abbrev pub put_in_order : {T : Type 0} → Posted T → List (Posted T) → List (Posted T)
put_in_order x [] = x ∷ []
put_in_order x (y ∷ ys) = if comes_before y x then y ∷ put_in_order x ys else x ∷ y ∷ ys

abbrev pub in_order : {T : Type 0} → List (Posted T) → List (Posted T)
in_order [] = []
in_order (x ∷ xs) = put_in_order x (in_order xs)

abbrev pub ranked_of : {T : Type 0} → Posted T → Ranked T
ranked_of x = record { rank = x.rank; item = x.item }

abbrev pub items_of : {T : Type 0} → List (Posted T) → List (Ranked T)
items_of xs = map ranked_of (in_order xs)

-- no two are the same post
abbrev pub AreApart : {T : Type 0} → List (Posted T) → Type 0
AreApart [] = Unit {0}
AreApart (x ∷ xs) = AllByRecursion (λ y. y.post.0 ≢ x.post.0) xs × AreApart xs

-- an earlier post than the next one
abbrev pub IsEarlier : {T : Type 0} → ℕ → Posted T → Type 0
IsEarlier posts x = x.post.0 < posts

abbrev pub line_of : {T : Type 0} → Inside T → Line T
line_of w = record { items = items_of (heap_items w.heap); room = w.room }

-- what holds of the fields of a heap
pub record IsLine {T : Type 0} (w : Inside T) : Type 0 where
  pub in_heap : IsHeap posted_cmp (heap_items w.heap)
  pub apart : AreApart (heap_items w.heap)
  pub earlier : AllByRecursion (IsEarlier w.posts) (heap_items w.heap)
  pub roomy : heap_len w.heap + w.room ≤ heap_capacity w.heap
  pub counted : w.posts + w.room < 2 ^ 64
