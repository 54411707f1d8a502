-- The message that a post sends.
use Rattle.std.specs.Prelude.{ℕ, List}
use Rattle.m2_message.specs.Message.{Content}

-- version 1, compat 1, and 0 in the fields that a line doesn't name
abbrev pub posted : ℕ → ℕ → List ℕ → List ℕ → List ℕ → Content
posted k priority front middle tail = record {
  header = record {
    seq = 0;
    tid = 0;
    kind = k;
    priority = priority;
    version = 1;
    pre_padding = 0;
    data_off = 0;
    ack_seq = 0;
    flags = 0;
    compat = 1;
    reserved = 0;
  };
  front = front;
  middle = middle;
  tail = tail;
}
