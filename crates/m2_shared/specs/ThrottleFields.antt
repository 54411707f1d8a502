-- How a throttle, a pass and a grant lie in their fields.
use Rattle.std.specs.Prelude.{◌≡◌, ℕ, List, [], Option, None, Some, IfSome, option_map}
use Rattle.atomic_table.specs.declared.shared.Seat.{Seat}
use Rattle.m2_shared.specs.declared.held.Holding.{Holding}
use Rattle.m2_shared.specs.declared.held.Change.{Change}
use Rattle.m2_shared.specs.Changes.{IsRise}
use Rattle.m2_shared.specs.Place.{Place, IsOneWord}
use Rattle.m2_shared.specs.Throttle.{SeenThrottle, SeenTakePass, SeenGrant}
use Rattle.m2_shared.specs.declared.throttle.Making.{Making}
use Rattle.m2_shared.specs.declared.throttle.Making.TheVariants.{Alone, Shared}
use Rattle.m2_shared.specs.declared.throttle.Throttle.TheInside as throttle
use Rattle.m2_shared.specs.declared.take_pass.TakePass.TheInside as take_pass
use Rattle.m2_shared.specs.declared.grant.Grant.TheInside as grant

abbrev pub making_place : Making → Place
making_place Alone = None
making_place (Shared word) = Some word.shared.table_id

abbrev pub throttle_of : throttle.Inside → SeenThrottle
throttle_of w = record { place = making_place w.making; most = w.most }

-- the shared word was told the bound
abbrev pub IsMaking : Making → ℕ → Type 0
IsMaking Alone most = Unit {0}
IsMaking (Shared word) most = IsOneWord word.shared.table_id × (word.shared.key ≡ most)

abbrev pub IsThrottle : throttle.Inside → Type 0
IsThrottle w = IsMaking w.making w.most

-- what was done to a shared word is known at the seat, where there is one
abbrev pub all_changes : Option (Seat (Unit {0}) Holding) → List Change
all_changes None = []
all_changes (Some seat) = seat.me.0.changes

abbrev pub take_pass_of : take_pass.Inside → SeenTakePass
take_pass_of w = record { place = option_map (λ s. s.table_id) w.seat; word = w.word; changes = all_changes w.seat }

-- a pass holds nothing of the word
abbrev pub IsTakePass : take_pass.Inside → Type 0
IsTakePass w = IfSome w.seat (λ s. (s.me.0.held ≡ 0) × (s.me.1 ≡ []))

abbrev pub grant_of : grant.Inside → SeenGrant
grant_of w = record { place = option_map (λ s. s.table_id) w.seat; n = w.n }

-- a grant holds its bytes of the word, which rose by as much in one step
abbrev pub IsGrant : grant.Inside → Type 0
IsGrant w = IfSome w.seat (λ s. (s.me.0.held ≡ w.n) × (s.me.1 ≡ []) × IsRise w.n s.me.0.changes)
