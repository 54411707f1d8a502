-- The rule of the queue in an inbox: what the passes put is what was taken and what is held.
use Rattle.std.specs.Prelude.{◌≡◌, ◌⊎◌, ℕ, true, List, [], ◌∷◌, ◌++◌, All, sum_by}
use Rattle.std.specs.Mem.{manually_drop_value}
use mathlib.Core.Option.{some}
use lib.ListN.{get_elem?}
use Rattle.m2_mailbox.specs.Merge.{IsSublist, IsMerge, IsMergePrefix}
use Rattle.m2_mailbox.specs.Views.{all_parts, parts_in, puts_in, takes_in, takers_in, taken_in, after_put, after_take}
use Rattle.m2_mailbox.specs.declared.slip.Slip.{Slip}
use Rattle.m2_mailbox.specs.declared.slip.Slip.TheVariants.{Owner, Item}
use Rattle.m2_mailbox.specs.declared.view.View.{View}
use Rattle.m2_mailbox.specs.declared.view.View.TheVariants.{Fresh, Telling, Open, Spent}

module _ {T O : Type 0} where
  -- the items that the queue holds
  abbrev pub AreItems : List (Slip T O) → List T → Type 0
  AreItems [] held = held ≡ []
  AreItems (Owner _ ∷ slips) held = ⊥
  AreItems (Item m ∷ slips) held = (rest : List T) × (held ≡ manually_drop_value m ∷ rest) × AreItems slips rest

  -- what all that a pass put weighs together
  abbrev pub weight_in : (T → ℕ) → View T O → ℕ
  weight_in weight v = sum_by (sum_by weight) (puts_in v)

  -- the queue holds the slip that tells the owner, and its first pass waits for it
  abbrev pub IsTelling : List (Slip T O) → List (View T O) → Type 0
  IsTelling items views =
      (owner : O) × (told : _) × (told.value ≡ owner) × (items ≡ Owner told ∷ []) × (views ≡ Telling owner ∷ [])

  module _ (belongs : O → T → Type 0) where
    -- What one pass knows: the owner, lists that stand in what was sent in their order, and, where it may take, what
    -- was taken. Without a part of the right to put it has put nothing.
    abbrev pub Fits : O → List T → List T → View T O → Type 0
    Fits owner sent taken (Open k) =
        (k.owner ≡ owner) × All (λ list. IsSublist list sent) k.puts × (k.parts ≡ 0 → k.puts ≡ [])
        × (k.takes ≡ true → k.taken ≡ taken)
    Fits owner sent taken Spent = Unit {0}
    Fits owner sent taken _ = ⊥

    -- What was sent is what was taken and what is held. It is what all passes put, and one pass takes. What is held
    -- belongs to the owner.
    pub record IsOpen (items : List (Slip T O)) (views : List (View T O)) : Type 0 where
      pub owner : O
      pub taken : List T
      pub held : List T
      pub items_are : AreItems items held
      pub belong : All (belongs owner) held
      pub parts : sum_by parts_in views ≡ all_parts
      pub takers : sum_by takers_in views ≡ 1
      pub weighs : (weight : T → ℕ) → sum_by (weight_in weight) views ≡ sum_by weight (taken ++ held)
      pub fits : (port : ℕ) (v : View T O) → get_elem? views port ≡ some v → Fits owner (taken ++ held) taken v

    -- before anybody was told the owner, while the slip tells it, and from then on
    abbrev pub Kept : List (Slip T O) → List (View T O) → Type 0
    Kept items views =
        ((items ≡ []) × (views ≡ Fresh ∷ []))
        ⊎ (IsTelling items views ⊎ IsOpen items views)

    -- A slip was taken that has an item. It belongs to the owner and stands last in what was taken. Who has the whole right
    -- to put knows that this is a prefix of what was put.
    abbrev pub TakesItem : View T O → Slip T O → View T O → Type 0
    TakesItem (Open k) (Item m) w =
        belongs k.owner (manually_drop_value m) × (w ≡ after_take (manually_drop_value m) (Open k))
        × (k.parts ≡ all_parts → IsMergePrefix k.puts (k.taken ++ manually_drop_value m ∷ []))
    TakesItem _ _ w = ⊥

  -- a slip was put that has an item, and stands last in what the pass put
  abbrev pub PutsItem : View T O → Slip T O → View T O → Type 0
  PutsItem v (Item m) w = w ≡ after_put (manually_drop_value m) v
  PutsItem v (Owner _) w = ⊥

  -- who has the whole right to put knows all that was sent: what was taken before this moment, and what is held
  abbrev pub SeesHeld : View T O → List (Slip T O) → Type 0
  SeesHeld v items =
      parts_in v ≡ all_parts → (gone held : List T) × AreItems items held × IsMerge T (puts_in v) (gone ++ held)

  -- who has both rights knows what the queue holds
  abbrev pub SeesRest : View T O → List (Slip T O) → Type 0
  SeesRest v items =
      parts_in v ≡ all_parts → takes_in v ≡ true
      → (held : List T) × AreItems items held × IsMerge T (puts_in v) (taken_in v ++ held)
