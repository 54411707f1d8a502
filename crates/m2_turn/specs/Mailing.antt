-- How the mail of a center is emptied: its parcels are put into the node's queue, and then the letters that wait there are
-- dispatched. The order is that of a center's turn; the rest is this project's own.
use Rattle.std.specs.Prelude.{◌≡◌, ◌-◌, ◌&&◌, ◌⊎◌, Bool, true, false, List, [], ◌∷◌, ◌++◌, map}
use Rattle.m2_dispatch.specs.Heard.{Heard}
use Rattle.m2_dispatch.specs.declared.letter.Letter.{Letter}
use Rattle.m2_dispatch.specs.declared.parcel.Parcel.{Parcel}
use Rattle.m2_dispatch.specs.Dispatch.{Queued}
use Rattle.m2_dispatch.specs.Letters.{granted, heard_in}
use Rattle.m2_dispatch.specs.Parcel.{after_put, heard_at_put, thrown_away}
use Rattle.m2_shared.specs.Place.{IsAlone}
use Rattle.m2_shared.specs.Gates.{Gate, Places, words}
use Rattle.m2_shared.specs.declared.throttles.TakePasses.{TakePasses}
use Rattle.m2_turn.specs.declared.mailing.Mailed.{Mailed}
use Rattle.m2_turn.specs.declared.mailing.Mailed.TheVariants as mailed
use Rattle.m2_turn.specs.Outbox.{OutboxNow}

-- the parcel is first in the mail
abbrev pub back_in_mail : {D : Type 0} → Parcel → OutboxNow D → OutboxNow D
back_in_mail x o = record o { mail = x ∷ o.mail }

-- ---- parcels that are put, in order

-- the letters that wait behind them
abbrev pub after_puts : List Parcel → List Letter → List Letter
after_puts [] waiting = waiting
after_puts (x ∷ xs) waiting = after_puts xs (after_put x waiting)

-- the letters that they throw away, in order
abbrev pub all_thrown_away : List Parcel → List Letter → List Letter
all_thrown_away [] waiting = []
all_thrown_away (x ∷ xs) waiting = thrown_away x waiting ++ all_thrown_away xs (after_put x waiting)

-- what the dispatcher is called with at once
abbrev pub heard_at_puts : List Parcel → List Heard
heard_at_puts [] = []
heard_at_puts (x ∷ xs) = heard_at_put x ++ heard_at_puts xs

-- ---- the mail and the queue

-- the queue, and the pass of the thread
pub record Queueing (D : Type 0) : Type 0 where
  pub queued : Queued D
  pub bytes : TakePasses

-- where parcels are taken from, and the queue that they are put into
pub record Mailing (D : Type 0) : Type 0 where
  pub out : OutboxNow D
  pub queue : Queueing D

abbrev pub queueing : {D : Type 0} → Queued D → TakePasses → Queueing D
queueing queued bytes = record { queued = queued; bytes = bytes }

abbrev pub mailing : {D : Type 0} → OutboxNow D → Queued D → TakePasses → Mailing D
mailing out queued bytes = record { out = out; queue = queueing queued bytes }

-- The first parcels of the mail are put, in order, and no other.
pub record PutsSome {D : Type 0} (heard : D → List Heard) (places : Places) (old new : Mailing D) : Type 0 where
  pub put : List Parcel
  pub mail : old.out.mail ≡ put ++ new.out.mail
  pub out : new.out ≡ record old.out { mail = new.out.mail }
  pub waiting : new.queue.queued.waiting ≡ after_puts put old.queue.queued.waiting
  pub heard_more : heard new.queue.queued.inner ≡ heard old.queue.queued.inner ++ heard_at_puts put
  pub word : (gate : Gate) → IsAlone (places gate) → words new.queue.bytes gate ≡ words old.queue.bytes gate - granted (all_thrown_away put old.queue.queued.waiting) gate

-- The first letters that wait are dispatched, in order, and no other.
pub record DispatchesSome {D : Type 0} (heard : D → List Heard) (places : Places) (old new : Queueing D) : Type 0 where
  pub dispatched : List Letter
  pub waiting : old.queued.waiting ≡ dispatched ++ new.queued.waiting
  pub heard_more : heard new.queued.inner ≡ heard old.queued.inner ++ map heard_in dispatched
  pub word : (gate : Gate) → IsAlone (places gate) → words new.bytes gate ≡ words old.bytes gate - granted dispatched gate

-- parcels are put, and behind them letters dispatched
pub record MailsSome {D : Type 0} (heard : D → List Heard) (places : Places) (old new : Mailing D) : Type 0 where
  pub mid : Queueing D
  pub puts : PutsSome heard places old (record { out = new.out; queue = mid })
  pub dispatches : DispatchesSome heard places mid new.queue

abbrev pub is_none : {X : Type 0} → List X → Bool
is_none [] = true
is_none (x ∷ xs) = false

-- the mail is empty, and no letter waits
abbrev pub is_mailed : {D : Type 0} → Mailing D → Bool
is_mailed m = is_none m.out.mail && is_none m.queue.queued.waiting

-- For want of memory: for a parcel, and it is the first in the mail; or all parcels were put, and for a letter, and it is the first
-- that waits.
abbrev pub LacksMemory : {D : Type 0} → (heard : D → List Heard) → Places → Mailing D → Mailing D → Type 0
LacksMemory heard places old new =
    (PutsSome heard places old new × (is_none new.out.mail ≡ false))
    ⊎ (MailsSome heard places old new × (is_none new.out.mail ≡ true) × (is_none new.queue.queued.waiting ≡ false))

-- Moved: there was something, and all of it is gone. Dry: there was nothing.
abbrev pub Mails : {D : Type 0} → (heard : D → List Heard) → Places → Mailed → Mailing D → Mailing D → Type 0
Mails heard places mailed.Moved old new = MailsSome heard places old new × (is_mailed old ≡ false) × (is_mailed new ≡ true)
Mails heard places mailed.Dry old new = MailsSome heard places old new × (is_mailed old ≡ true) × (is_mailed new ≡ true)
Mails heard places mailed.NoMemory old new = LacksMemory heard places old new
