-- What holds of a queue over every list of calls, with the messages that are gone from it: what was
-- posted, what was numbered, and what was dropped before the numbers were last set back.
use Rattle.std.specs.Prelude.{◌≡◌, ℕ, ◌+◌, ◌-◌, ◌<◌, ◌≤◌, max, Some, None, Bool, List, [], ◌∷◌, ◌++◌, length, take, drop, nat_lt, nat_le, slice_get, if◌then◌else◌}
use Rattle.m2_message.specs.Message.{Content, priority_of}
use Rattle.m2_queues.specs.ByRank.{IsFalling, of_rank}
use Rattle.m2_queues.specs.OutQueues.{Queue, new_queue, newly_numbered, next_number, message_at, cursor_number, unsent, IsNumbered, after_post, after_next, after_sent, after_acked, after_requeue, after_discard, after_renumber}

-- A call that did what it says. A post for which memory ran out leaves the queue as it was, and so does each call
-- that makes room.
pub data Call : Type 0 where
  Post : Content → Call
  Next : Call
  Sent : Call
  Acked : ℕ → Call
  Requeue : Call
  Renumber : Call
  Discard : Call

-- the queue, and the messages since the last discard: those posted, those dropped before the last
-- renumber, and those numbered since
pub record History : Type 0 where
  pub queue : Queue
  pub posted : List Content
  pub dropped : List Content
  pub numbered : List Content

abbrev pub start_of : Bool → History
start_of keeps = record { queue = new_queue keeps; posted = []; dropped = []; numbered = [] }

-- `sent` with nothing at the cursor can't be called, and an acknowledgement above `written` is refused
abbrev pub after_call : History → Call → History
after_call h (Post m) = record h { queue = after_post h.queue m; posted = h.posted ++ m ∷ [] }
after_call h Next = record h { queue = after_next h.queue; numbered = h.numbered ++ newly_numbered h.queue }
after_call h Sent = record h { queue = if nat_lt h.queue.cursor (length h.queue.kept) then after_sent h.queue else h.queue }
after_call h (Acked n) = record h { queue = if nat_le n h.queue.written then after_acked h.queue n else h.queue }
after_call h Requeue = record h { queue = after_requeue h.queue }
after_call h Renumber = record h { queue = after_renumber h.queue; dropped = h.dropped ++ take h.queue.base h.numbered; numbered = drop h.queue.base h.numbered }
after_call h Discard = record { queue = after_discard h.queue; posted = []; dropped = []; numbered = [] }

abbrev pub after_calls : History → List Call → History
after_calls h [] = h
after_calls h (c ∷ cs) = after_calls (after_call h c) cs

-- a new queue's history after these calls
abbrev pub history_of : Bool → List Call → History
history_of keeps calls = after_calls (start_of keeps) calls

abbrev pub of_priority : ℕ → List Content → List Content
of_priority p ms = of_rank priority_of p ms

-- each priority's messages are sent in the order in which they were posted, none left out and none twice
abbrev pub EachPriorityKeepsItsOrder : Type 0
EachPriorityKeepsItsOrder = (keeps : Bool) (calls : List Call) (p : ℕ) → let h = history_of keeps calls in
    of_priority p h.dropped ++ of_priority p h.numbered ++ of_priority p h.queue.waiting ≡ of_priority p h.posted

-- no message that waits has a greater priority than one that gets its number earlier
abbrev pub GreatestPriorityWaitsFirst : Type 0
GreatestPriorityWaitsFirst = (keeps : Bool) (calls : List Call) → IsFalling priority_of (history_of keeps calls).queue.waiting

-- the kept messages are the numbered ones past the base
abbrev pub KeptAreTheNumbered : Type 0
KeptAreTheNumbered = (keeps : Bool) (calls : List Call) → let h = history_of keeps calls in h.queue.kept ≡ drop h.queue.base h.numbered

-- the message with number i is the i-th of the numbered ones
abbrev pub EachNumberIsAPlace : Type 0
EachNumberIsAPlace = (keeps : Bool) (calls : List Call) (number : ℕ) → let h = history_of keeps calls in
    h.queue.base < number → message_at h.queue number ≡ slice_get h.numbered (number - 1)

-- whether a call sets the numbers back
abbrev pub SetsBack : Call → Type 0
SetsBack Renumber = Unit {0}
SetsBack Discard = Unit {0}
SetsBack _ = ⊥

-- a message keeps its number until numbers are set back: the numbered list only grows at its end
abbrev pub NumberedMessagesStay : Type 0
NumberedMessagesStay = (h : History) (call : Call) → ¬ SetsBack call → (more : List Content) × ((after_call h call).numbered ≡ h.numbered ++ more)

-- numbers set back where none was acknowledged: the messages and their numbers stay, and all of them are to be sent again
abbrev pub RenumberFromZeroKeepsTheNumbers : Type 0
RenumberFromZeroKeepsTheNumbers = (h : History) → h.queue.base ≡ 0 → after_call h Renumber ≡ record h { queue = record h.queue { written = 0; cursor = 0 } }

-- more calls go on from what the first ones left
abbrev pub CallsGoOn : Type 0
CallsGoOn = (h : History) (first more : List Call) → after_calls h (first ++ more) ≡ after_calls (after_calls h first) more

-- what `next` answers is the number at the cursor
abbrev pub NextIsTheCursors : Type 0
NextIsTheCursors = (q : Queue) (number : ℕ) → next_number q ≡ Some number → number ≡ cursor_number q

-- to number the next message changes no number and moves no cursor
pub record KeepsNumbers (old new : Queue) : Type 0 where
  pub keeps : new.keeps ≡ old.keeps
  pub base : new.base ≡ old.base
  pub written : new.written ≡ old.written
  pub cursor : new.cursor ≡ old.cursor

abbrev pub NextKeepsNumbers : Type 0
NextKeepsNumbers = (q : Queue) → KeepsNumbers q (after_next q)

-- to number the next message leaves what is still to be sent
abbrev pub NextLeavesTheUnsent : Type 0
NextLeavesTheUnsent = (q : Queue) → IsNumbered q → unsent (after_next q) ≡ unsent q

-- the message that `next` answers is the first of it
abbrev pub NextIsTheFirstUnsent : Type 0
NextIsTheFirstUnsent = (q : Queue) (number : ℕ) → IsNumbered q → next_number q ≡ Some number → message_at (after_next q) number ≡ slice_get (unsent q) 0

-- and where nothing is to be sent nothing is left
abbrev pub NothingNextIsNothingUnsent : Type 0
NothingNextIsNothingUnsent = (q : Queue) → IsNumbered q → next_number q ≡ None → unsent q ≡ []

-- a message that was sent is the first of it, and no other goes
abbrev pub SentTakesTheFirstUnsent : Type 0
SentTakesTheFirstUnsent = (q : Queue) → IsNumbered q → q.cursor < length q.kept → unsent (after_sent q) ≡ drop 1 (unsent q)

-- an acknowledgement of what was sent leaves what is still to be sent
abbrev pub AckedLeavesTheUnsent : Type 0
AckedLeavesTheUnsent = (q : Queue) (number : ℕ) → IsNumbered q → number ≤ q.base + q.cursor → unsent (after_acked q number) ≡ unsent q

-- of two acknowledgements the greater one counts, whichever came first
abbrev pub AcknowledgementsCommute : Type 0
AcknowledgementsCommute = (q : Queue) (m n : ℕ) → after_acked (after_acked q m) n ≡ after_acked q (max m n)
