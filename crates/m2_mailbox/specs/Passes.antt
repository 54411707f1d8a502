-- What contracts see of an inbox, of its passes, and of what is left of it.
use Rattle.std.specs.Prelude.{◌≡◌, ◌<◌, ◌≤◌, ◌+◌, ◌%◌, ◌^◌, ℕ, true, false, List, ◌++◌, Some, length}
use Rattle.crossbeam_queue.specs.Passes.{IsPassOf, view, ruled_capacity}
use Rattle.m2_mailbox.specs.Merge.{IsMerge}
use Rattle.m2_mailbox.specs.Views.{all_parts, owner_in, parts_in, puts_in, takes_in, taken_in}
use Rattle.m2_mailbox.specs.declared.inbox.Inbox.{Inbox}
use Rattle.m2_mailbox.specs.declared.passes.PutPass.{PutPass}
use Rattle.m2_mailbox.specs.declared.passes.GetPass.{GetPass}

module _ {T O : Type 0} where
  -- to whom the items of an inbox belong
  abbrev pub owner_of : Inbox T O → O
  owner_of inbox = inbox.owner.value

  -- how many items it holds at most
  abbrev pub capacity_of : Inbox T O → ℕ
  capacity_of inbox = ruled_capacity inbox.queue

  -- how many parts of the right to put a pass has
  abbrev pub parts_of : PutPass T O → ℕ
  parts_of pass = parts_in (view pass.seen)

  -- what was put: by the pass itself, and then by each pass that was joined into it
  abbrev pub puts_of : PutPass T O → List (List T)
  puts_of pass = puts_in (view pass.seen)

  -- what was taken
  abbrev pub taken_of : GetPass T O → List T
  taken_of pass = taken_in (view pass.seen)

  -- how often something was looked for
  abbrev pub looks_of : GetPass T O → ℕ
  looks_of pass = pass.looks

  -- a pass that was made from this inbox, or split from one that was
  abbrev pub IsPutPassOf : Inbox T O → PutPass T O → Type 0
  IsPutPassOf inbox pass =
      IsPassOf inbox.queue pass.seen × (owner_in (view pass.seen) ≡ Some (owner_of inbox))
      × (takes_in (view pass.seen) ≡ false) × (0 < parts_of pass)

  -- the pass that was made with this inbox
  abbrev pub IsGetPassOf : Inbox T O → GetPass T O → Type 0
  IsGetPassOf inbox pass =
      IsPassOf inbox.queue pass.seen × (owner_in (view pass.seen) ≡ Some (owner_of inbox))
      × (parts_in (view pass.seen) ≡ 0) × (takes_in (view pass.seen) ≡ true)

  -- At some moment as many items were held as the inbox holds at most. Who has all parts knows that these, behind what
  -- was taken before that moment, are all that was put.
  abbrev pub WasFull : Inbox T O → PutPass T O → Type 0
  WasFull inbox pass =
      parts_of pass ≡ all_parts
      → (gone held : List T) × (length held ≡ capacity_of inbox) × IsMerge T (puts_of pass) (gone ++ held)

-- one look more, as a number of 64 bits counts them
abbrev pub next_look : ℕ → ℕ
next_look n = (n + 1) % 2 ^ 64

-- what was put is what was taken and what is held, which is at most so many items
abbrev pub AreHeldAtMost : {T : Type 0} → ℕ → List (List T) → List T → Type 0
AreHeldAtMost {T} most puts taken = (held : List T) × (length held ≤ most) × IsMerge T puts (taken ++ held)
