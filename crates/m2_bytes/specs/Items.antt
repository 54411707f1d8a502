-- What a list of items holds, and what a push leaves.
use Rattle.std.specs.Prelude.{◌≡◌, ℕ, ◌+◌, ◌≤◌, List, [], ◌∷◌, ◌++◌, Result, Ok, Err}

-- the items, and how many more fit before memory is taken
pub record Holding (T : Type 0) : Type 0 where
  pub items : List T
  pub room : ℕ

-- Ok: the item is last, in the room that was there if there was any. Err: there was none and memory ran
-- out; the item comes back and the list is as before.
abbrev pub Pushes : {T : Type 0} → Result (Unit {0}) T → Holding T → Holding T → T → Type 0
Pushes (Ok _) old new item = (new.items ≡ old.items ++ item ∷ []) × (old.room ≤ new.room + 1)
Pushes (Err back) old new item = (back ≡ item) × (new ≡ old) × (old.room ≡ 0)
