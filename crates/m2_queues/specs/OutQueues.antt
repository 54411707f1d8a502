-- What the outgoing queue of a session is, and what each call leaves of it: one numbered list of which
-- a prefix is acknowledged and gone, a place in it, and the messages that wait for a number. It is said of
-- what the messages say; where their bytes lie in memory, and how much room there is, is no part of it. The
-- rules are ProtocolV2's for out_seq and the sent list of a policy that isn't lossy.
use Rattle.std.specs.Prelude.{◌≡◌, ℕ, ◌+◌, ◌-◌, ◌<◌, ◌≤◌, ◌^◌, Bool, false, ◌||◌, List, [], ◌++◌, length, take, drop, max, nat_lt, slice_get, Option, Some, None, if◌then◌else◌}
use Rattle.m2_message.specs.Message.{Content, priority_of}
use Rattle.m2_queues.specs.ByRank.{put_behind}

pub record Queue : Type 0 where
  -- whether a sent message is kept until it is acknowledged; a lossy policy doesn't keep
  pub keeps : Bool
  -- the number before that of the first kept message
  pub base : ℕ
  -- the greatest number sent since the numbers were last set back
  pub written : ℕ
  -- how many of the kept messages are sent
  pub cursor : ℕ
  -- the messages that have a number and aren't acknowledged: base + 1, base + 2, and so on
  pub kept : List Content
  -- those that have none yet, in the order in which they get one
  pub waiting : List Content

-- the queue, and how many posts succeed whatever memory there is
pub record Outgoing : Type 0 where
  pub queue : Queue
  pub spare : ℕ

abbrev pub new_queue : Bool → Queue
new_queue keeps = record { keeps = keeps; base = 0; written = 0; cursor = 0; kept = []; waiting = [] }

-- a message goes behind all that wait with its priority or a greater one
abbrev pub after_post : Queue → Content → Queue
after_post q m = record q { waiting = put_behind priority_of m q.waiting }

-- the number at the cursor
abbrev pub cursor_number : Queue → ℕ
cursor_number q = q.base + q.cursor + 1

-- the number to be sent now: that at the cursor, where a message is or comes there
abbrev pub next_number : Queue → Option ℕ
next_number q = if nat_lt q.cursor (length q.kept) || nat_lt 0 (length q.waiting) then Some (cursor_number q) else None

-- the message that gets a number by `next`: the first that waits, where the cursor is at the end
abbrev pub newly_numbered : Queue → List Content
newly_numbered q = if nat_lt q.cursor (length q.kept) then [] else take 1 q.waiting

abbrev pub after_next : Queue → Queue
after_next q = if nat_lt q.cursor (length q.kept) then q else record q { kept = q.kept ++ take 1 q.waiting; waiting = drop 1 q.waiting }

-- The cursor moves past the message. Where messages aren't kept it stays, and the message goes.
abbrev pub after_sent : Queue → Queue
after_sent q = if q.keeps
    then record q { written = max q.written (cursor_number q); cursor = q.cursor + 1 }
    else record q { written = max q.written (cursor_number q); base = q.base + 1; kept = drop 1 q.kept }

-- the kept messages up to the number go
abbrev pub after_acked : Queue → ℕ → Queue
after_acked q number = record q { base = max q.base number; cursor = q.cursor - (number - q.base); kept = drop (number - q.base) q.kept }

abbrev pub after_requeue : Queue → Queue
after_requeue q = record q { cursor = 0 }

abbrev pub after_discard : Queue → Queue
after_discard q = record q { base = 0; written = 0; cursor = 0; kept = []; waiting = [] }

abbrev pub after_renumber : Queue → Queue
after_renumber q = record q { base = 0; written = 0; cursor = 0 }

-- the kept message with the number
abbrev pub message_at : Queue → ℕ → Option Content
message_at q number = if nat_lt q.base number then slice_get q.kept (number - q.base - 1) else None

-- whether a message is kept or waits
abbrev pub waits : Queue → Bool
waits q = nat_lt 0 (length q.kept + length q.waiting)

-- what has a number and is still to be sent
abbrev pub due : Queue → List Content
due q = drop q.cursor q.kept

-- what is still to be sent, in the order in which it will be where nothing more is posted
abbrev pub unsent : Queue → List Content
unsent q = due q ++ q.waiting

-- the greatest number given since the numbers were last set back
abbrev pub last_number : Queue → ℕ
last_number q = q.base + length q.kept

-- what holds of the numbers of every queue
pub record IsNumbered (q : Queue) : Type 0 where
  pub sent : q.base + q.cursor ≤ q.written
  pub given : q.written ≤ last_number q
  pub fits : last_number q < 2 ^ 64
  pub unkept : q.keeps ≡ false → q.cursor ≡ 0
