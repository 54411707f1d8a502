-- What a pass knows, and how its own calls change that.
use Rattle.std.specs.Prelude.{ℕ, ◌+◌, ◌-◌, ◌^◌, Bool, true, false, if◌then◌else◌, List, [], ◌∷◌, ◌++◌, Option, Some, None}
use Rattle.m2_mailbox.specs.declared.slip.Slip.{Slip}
use Rattle.m2_mailbox.specs.declared.slip.Slip.TheVariants.{Owner, Item}
use Rattle.m2_mailbox.specs.declared.view.View.{View}
use Rattle.m2_mailbox.specs.declared.view.View.TheVariants.{Fresh, Telling, Open, Spent}

-- the parts of the right to put, all together
abbrev pub all_parts : ℕ
all_parts = 2 ^ 40

-- the item joins what the pass itself put
abbrev pub put_by : {T : Type 0} → T → List (List T) → List (List T)
put_by item [] = (item ∷ []) ∷ []
put_by item (own ∷ joined) = (own ++ item ∷ []) ∷ joined

module _ {T O : Type 0} where
  abbrev pub known : O → ℕ → List (List T) → Bool → List T → View T O
  known owner parts puts takes taken =
      Open (record { owner = owner; parts = parts; puts = puts; takes = takes; taken = taken })

  -- ---- what a pass knows

  abbrev pub owner_in : View T O → Option O
  owner_in (Open k) = Some k.owner
  owner_in _ = None

  abbrev pub parts_in : View T O → ℕ
  parts_in (Open k) = k.parts
  parts_in _ = 0

  abbrev pub puts_in : View T O → List (List T)
  puts_in (Open k) = k.puts
  puts_in _ = []

  abbrev pub takes_in : View T O → Bool
  takes_in (Open k) = k.takes
  takes_in _ = false

  -- 1 for who may take, and 0 for the others
  abbrev pub takers_in : View T O → ℕ
  takers_in v = if takes_in v then 1 else 0

  abbrev pub taken_in : View T O → List T
  taken_in (Open k) = k.taken
  taken_in _ = []

  -- ---- while the inbox is made

  -- the slip tells the owner
  abbrev pub after_telling : Slip T O → View T O
  after_telling (Owner told) = Telling told.value
  after_telling (Item _) = Fresh

  -- the pass knows the owner, and has the whole right to put and to take
  abbrev pub after_hearing : View T O → View T O
  after_hearing (Telling owner) = known owner all_parts ([] ∷ []) true []
  after_hearing v = v

  -- ---- puts and takes

  abbrev pub after_put : T → View T O → View T O
  after_put item (Open k) = known k.owner k.parts (put_by item k.puts) k.takes k.taken
  after_put item v = v

  abbrev pub after_take : T → View T O → View T O
  after_take item (Open k) = known k.owner k.parts k.puts k.takes (k.taken ++ item ∷ [])
  after_take item v = v

  -- ---- passes cut in two and put together

  -- what the putter keeps
  abbrev pub without_part : View T O → View T O
  without_part (Open k) = known k.owner (k.parts - 1) k.puts k.takes k.taken
  without_part v = v

  -- a new putter has one part and put nothing
  abbrev pub one_part : View T O → View T O
  one_part (Open k) = known k.owner 1 ([] ∷ []) false []
  one_part v = Spent

  -- the right to put without the right to take
  abbrev pub put_right : View T O → View T O
  put_right (Open k) = known k.owner k.parts k.puts false []
  put_right v = v

  -- the right to take without the right to put
  abbrev pub take_right : View T O → View T O
  take_right (Open k) = known k.owner 0 [] k.takes k.taken
  take_right v = Spent

  -- the parts and the puts of two passes; what the first one took
  abbrev pub joined : View T O → View T O → View T O
  joined (Open k) (Open l) = known k.owner (k.parts + l.parts) (k.puts ++ l.puts) k.takes k.taken
  joined v w = v

  -- the puts of the first pass and the takes of the second
  abbrev pub reunited : View T O → View T O → View T O
  reunited (Open k) (Open l) = known k.owner k.parts k.puts l.takes l.taken
  reunited v w = v
