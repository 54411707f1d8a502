-- Where the word of a throttle or of a counter of numbers lies. This project's own.
use Rattle.std.specs.Prelude.{◌≡◌, ◌≢◌, [], Option, None}
use Rattle.atomic_table.specs.Seated.{TableId}
use Rattle.atomic_table.specs.declared.shared.Seat.{Seat}

-- the memory that threads share in which the word lies; none where it is a number in the only pass
abbrev pub Place : Type 0
Place = Option TableId

abbrev pub IsAlone : Place → Type 0
IsAlone place = place ≡ None

abbrev pub IsShared : Place → Type 0
IsShared place = place ≢ None

-- one word alone lies there
abbrev pub IsOneWord : TableId → Type 0
IsOneWord t = (t.words ≡ 1) × (t.slots ≡ 0)

-- a seat at the word that lies there, whatever it knows
abbrev pub IsFree : {S V : Type 0} → Seat S V → TableId → Type 0
IsFree seat t = (seat.table_id ≡ t) × (seat.me.1 ≡ [])
