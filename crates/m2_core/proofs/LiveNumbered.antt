-- The next message of a queue.
use Rattle.std.proofs.Common.{◌≡◌, ℕ, ◌≤◌, Some, sym, subst, ◌∙◌}
use Rattle.m2_control.specs.declared.fields.TheConstants.{GREATEST_NUMBER}
use Rattle.m2_message.specs.declared.message.Message.{Message}
use Rattle.m2_message.specs.Message.{IsSendable, content_of}
use Rattle.m2_queues.proofs.Unsent.{next-is_at_cursor}
use Rattle.m2_queues.specs.OutQueues.{Queue, after_next, message_at, next_number}
use Rattle.m2_core.specs.LiveNumbering.{IsNextSendable}

pub same_number : (q : Queue) (k n : ℕ) → next_number q ≡ Some k → next_number q ≡ Some n → n ≤ GREATEST_NUMBER → k ≤ GREATEST_NUMBER
same_number q k n e g fits = subst (λ z. z ≤ GREATEST_NUMBER) (next-is_at_cursor q n g ∙ sym (next-is_at_cursor q k e)) fits

-- what the next message's contents fit in is what the message itself does
pub sendable : (q : Queue) → IsNextSendable q → (k : ℕ) (m : Message) → next_number q ≡ Some k → message_at (after_next q) k ≡ Some (content_of m) → IsSendable m
sendable q h k m e there = let f = h.fits k (content_of m) e there in record { front = f.front; middle = f.middle; tail = f.tail }
