-- What holds of what frames say: it is read back from the frame, and nothing is made up.
use Rattle.std.specs.Prelude.{◌≡◌, ◌<◌, length, Some}
use Rattle.std.specs.List.{All}
use Rattle.m2_addr.specs.Grammar.{IsBytes}
use Rattle.m2_frame.specs.Frame.{Parts, message_tag}
use Rattle.m2_frame.specs.Tags.{tag_in}
use Rattle.m2_control.specs.declared.control.Control.{Control}
use Rattle.m2_control.specs.Control.{Spells, tag_of}
use Rattle.m2_message.specs.HeaderText.{header_text}
use Rattle.m2_frame_facts.specs.declared.facts.Facts.TheVariants as facts
use Rattle.m2_frame_facts.specs.declared.facts.MessageFacts.{MessageFacts}
use Rattle.m2_frame_facts.specs.Facts.{frame_facts}

-- the frame is a MESSAGE, whose first segment is the text of this header, and whose parts have these sizes
pub record IsOfMessage (f : Parts) (m : MessageFacts) : Type 0 where
  pub tag : f.tag ≡ message_tag
  pub header : f.first ≡ header_text m.header
  pub front : m.front ≡ length f.second
  pub middle : m.middle ≡ length f.third
  pub data_bytes : m.data_bytes ≡ length f.fourth

-- the frame has the payload's tag, and its first segment is a text of the payload
pub record IsOfControl (f : Parts) (c : Control) : Type 0 where
  pub tag : tag_in f.tag ≡ Some (tag_of c)
  pub spelled : Spells c f.first

abbrev pub MessagesAreReadBack : Type 0
MessagesAreReadBack = (f : Parts) (m : MessageFacts) → All (λ b. b < 256) f.first → frame_facts f ≡ facts.Message m → IsOfMessage f m

abbrev pub PayloadsAreReadBack : Type 0
PayloadsAreReadBack = (f : Parts) (c : Control) → IsBytes f.first → frame_facts f ≡ facts.Control c → IsOfControl f c
