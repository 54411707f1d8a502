-- What a place of the queue holds.
use Rattle.std.specs.Prelude.{◌≡◌}
use Rattle.std.specs.Mem.{manually_drop_value}
use Rattle.m2_mailbox.specs.declared.slip.Slip.{Slip}
use Rattle.m2_mailbox.specs.declared.slip.Slip.TheVariants.{Owner, Item}

module _ {T O : Type 0} where
  -- the slip holds an item
  abbrev pub HasItem : Slip T O → Type 0
  HasItem (Item m) = Unit {0}
  HasItem (Owner _) = ⊥

  -- the slip holds this item
  abbrev pub IsItemOf : T → Slip T O → Type 0
  IsItemOf item (Item m) = item ≡ manually_drop_value m
  IsItemOf item (Owner _) = ⊥
