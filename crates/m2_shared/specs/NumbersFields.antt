-- How a counter of numbers and its passes lie in their fields.
use Rattle.std.specs.Prelude.{◌≡◌, ◌≤◌, ℕ, List, [], Option, None, Some, All, IfSome, option_map}
use Rattle.atomic_table.specs.declared.shared.Seat.{Seat}
use Rattle.m2_shared.specs.Place.{Place, IsOneWord}
use Rattle.m2_shared.specs.Numbers.{SeenNumbers, SeenNumberPass}
use Rattle.m2_shared.specs.declared.counted.Known.{Known}
use Rattle.m2_shared.specs.declared.limits.TheConstants.{LAST_NUMBER}
use Rattle.m2_shared.specs.declared.numbers.Counter.{Counter}
use Rattle.m2_shared.specs.declared.numbers.Counter.TheVariants.{Alone, Shared}
use Rattle.m2_shared.specs.declared.numbers.Numbers.TheInside as numbers
use Rattle.m2_shared.specs.declared.number_pass.NumberPass.TheInside as number_pass

abbrev pub counter_place : Counter → Place
counter_place Alone = None
counter_place (Shared word) = Some word.shared.table_id

abbrev pub numbers_of : numbers.Inside → SeenNumbers
numbers_of w = record { place = counter_place w.counter }

abbrev pub IsCounter : Counter → Type 0
IsCounter Alone = Unit {0}
IsCounter (Shared word) = IsOneWord word.shared.table_id

abbrev pub IsNumbers : numbers.Inside → Type 0
IsNumbers w = IsCounter w.counter

-- what is known is kept at the seat, where there is one
abbrev pub all_drawn : Option (Seat (Unit {0}) Known) → List ℕ → List ℕ
all_drawn None drawn = drawn
all_drawn (Some seat) drawn = seat.me.0.drawn

abbrev pub least_word : Option (Seat (Unit {0}) Known) → ℕ → ℕ
least_word None word = word
least_word (Some seat) word = seat.me.0.least

abbrev pub number_pass_of : number_pass.Inside → SeenNumberPass
number_pass_of w = record {
  place = option_map (λ s. s.table_id) w.seat;
  least = least_word w.seat w.word;
  drawn = all_drawn w.seat w.drawn.numbers;
}

-- the word of a counter that is alone ends at the last number, and is at least each number drawn; a seat has no slots
pub record IsNumberPass (w : number_pass.Inside) : Type 0 where
  pub last : w.word ≤ LAST_NUMBER
  pub below : All (λ x. x ≤ w.word) w.drawn.numbers
  pub free : IfSome w.seat (λ s. s.me.1 ≡ [])
