-- A rule by counters: an entry waits until a counter has reached a value, and adds to a counter once it has come.
use Rattle.std.specs.Prelude.{ℕ, ◌+◌, ◌==◌, Bool, true, false, nat_le, if◌then◌else◌, List, [], ◌∷◌, length, map, take, slice_get, slice_index, slice_index_or, Option, Some, None}
use Rattle.m2_weave.specs.declared.counted.CountedEntry.{CountedEntry}
use Rattle.m2_weave.specs.declared.counted.CountedStrand.{CountedStrand}
use Rattle.m2_weave.specs.declared.counted.Need.{Need}
use Rattle.m2_weave.specs.declared.counted.Need.TheVariants.{Nothing, AtLeast, Never}
use Rattle.m2_weave.specs.Order.{Cut, Rule}

abbrev pub Strands : Type 0
Strands = List (List CountedEntry)

abbrev pub entries_of : List CountedStrand → Strands
entries_of strands = map (λ (s : CountedStrand). s.entries.items) strands

-- how many entries each strand has
abbrev pub lengths : Strands → Cut
lengths strands = map length strands

-- ---- what a counter stands at

-- what an entry adds to a counter
abbrev pub adds : ℕ → CountedEntry → ℕ
adds c e = if e.counter == c then e.amount else 0

abbrev pub sum_added : ℕ → List CountedEntry → ℕ
sum_added c [] = 0
sum_added c (e ∷ es) = adds c e + sum_added c es

-- all that the entries have added that have come
abbrev pub value_at : Strands → Cut → ℕ → ℕ
value_at [] at c = 0
value_at (s ∷ ss) [] c = 0
value_at (s ∷ ss) (n ∷ at) c = sum_added c (take n s) + value_at ss at c

-- ---- the rule

abbrev pub is_met : Need → (value : ℕ → ℕ) → Bool
is_met Nothing value = true
is_met (AtLeast counter least) value = nat_le least (value counter)
is_met Never value = false

abbrev pub may_come : Option CountedEntry → (value : ℕ → ℕ) → Bool
may_come (Some e) value = is_met e.need value
may_come None value = false

-- the next entry of a strand
abbrev pub next_of : Strands → Cut → ℕ → Option CountedEntry
next_of strands at k = slice_get (slice_index_or strands k []) (slice_index at k)

abbrev pub by_counters : Strands → Rule
by_counters strands at k = may_come (next_of strands at k) (value_at strands at)
