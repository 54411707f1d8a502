-- What a message says, apart from where its bytes lie in memory; when it may be sent; when two
-- messages are the same to whoever posts and dispatches them.
use Rattle.std.specs.Prelude.{◌≡◌, ℕ, ◌+◌, ◌≤◌, List, length}
use Rattle.m2_message.specs.declared.message.TheConstants.{MOST_PART}
use Rattle.m2_message.specs.declared.header.Header.{Header}
use Rattle.m2_message.specs.declared.message.Message.{Message}

-- the header and the bytes of the three parts
pub record Content : Type 0 where
  pub header : Header
  pub front : List ℕ
  pub middle : List ℕ
  pub tail : List ℕ

abbrev pub content_of : Message → Content
content_of m = record { header = m.header; front = m.front.bytes; middle = m.middle.bytes; tail = m.tail.bytes }

abbrev pub priority_of : Content → ℕ
priority_of m = m.header.priority

-- the message with the two numbers that the runtime writes
abbrev pub with_numbers : ℕ → ℕ → Content → Content
with_numbers seq ack_seq m = record m { header = record m.header { seq = seq; ack_seq = ack_seq } }

-- the message without the two numbers that the runtime writes
abbrev pub unnumbered : Content → Content
unnumbered m = with_numbers 0 0 m

-- two messages are the same where they are equal in all but the numbers that the runtime writes
abbrev pub IsSameMessage : Content → Content → Type 0
IsSameMessage m n = unnumbered m ≡ unnumbered n

-- each part fits a segment of a MESSAGE frame
pub record IsSendable (m : Message) : Type 0 where
  pub front : length m.front.bytes ≤ MOST_PART
  pub middle : length m.middle.bytes ≤ MOST_PART
  pub tail : length m.tail.bytes ≤ MOST_PART

-- the bytes of the parts, counted
abbrev pub size_of : Message → ℕ
size_of m = length m.front.bytes + length m.middle.bytes + length m.tail.bytes
