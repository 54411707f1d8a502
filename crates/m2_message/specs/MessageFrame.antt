-- The frame that carries a message: Ceph's msgr2 documentation, message frame. The segments are the
-- header, the front, the middle and the data.
use Rattle.std.specs.Prelude.{◌≡◌}
use Rattle.m2_message.specs.Message.{Content}
use Rattle.m2_frame.specs.Frame.{Parts, message_tag}
use Rattle.m2_message.specs.HeaderText.{header_text, header_in, FieldsFit}

abbrev pub parts_of : Content → Parts
parts_of m = record { tag = message_tag; first = header_text m.header; second = m.front; third = m.middle; fourth = m.tail }

-- the message that a frame says
abbrev pub message_in : Parts → Content
message_in f = record { header = header_in f.first; front = f.second; middle = f.third; tail = f.fourth }

-- the frame is this message's
pub record Carries (f : Parts) (m : Content) : Type 0 where
  pub fields : FieldsFit m.header
  pub parts : f ≡ parts_of m
