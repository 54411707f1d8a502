-- What follows on a socket once its opener's ask is answered by an acceptance: MESSAGE and ACK.
use Rattle.std.specs.Prelude.{ℕ, max, List, [], ◌∷◌}
use Rattle.m2_queues.specs.m2_message.Message.{Content}

-- A message without the two numbers that the runtime writes into it, which stand before it; or an acknowledgement
-- alone.
pub data Mail : Type 0 where
  letter : (number acked : ℕ) → Content → Mail
  ack : (acked : ℕ) → Mail

-- up to where a mail acknowledges
abbrev pub acked_by : Mail → ℕ
acked_by (letter number acked m) = acked
acked_by (ack acked) = acked

-- the greatest of what was acknowledged before and by these
abbrev pub heard_with : ℕ → List Mail → ℕ
heard_with heard [] = heard
heard_with heard (m ∷ ms) = heard_with (max heard (acked_by m)) ms
