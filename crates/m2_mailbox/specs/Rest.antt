-- What contracts see of what is left of an inbox.
use Rattle.std.specs.Prelude.{List}
use Rattle.crossbeam_queue.specs.Passes.{view}
use Rattle.m2_mailbox.specs.Merge.{IsMerge}
use Rattle.m2_mailbox.specs.Views.{puts_in, taken_in}
use Rattle.m2_mailbox.specs.declared.rest.Rest.{Rest}

module _ {T O : Type 0} where
  -- to whom the items belong
  abbrev pub rest_owner : Rest T O → O
  rest_owner rest = rest.owner.value

  -- all that was put into the inbox
  abbrev pub rest_puts : Rest T O → List (List T)
  rest_puts rest = puts_in (view rest.seen)

  -- what was taken so far
  abbrev pub rest_taken : Rest T O → List T
  rest_taken rest = taken_in (view rest.seen)

  -- all that was put was taken
  abbrev pub NothingIsLeft : Rest T O → Type 0
  NothingIsLeft rest = IsMerge T (rest_puts rest) (rest_taken rest)
