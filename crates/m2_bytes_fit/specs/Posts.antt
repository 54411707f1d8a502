-- That messages which may be sent keep the bounds of their frames, so that plans can post them.
use Rattle.std.specs.Prelude.{◌<◌}
use Rattle.std.specs.List.{All}
use Rattle.m2_feed.specs.m2_message.declared.message.Message.{Message}
use Rattle.m2_feed.specs.m2_message.Message.{IsSendable, content_of}
use Rattle.m2_feed.specs.m2_message.HeaderText.{FieldsFit}
use Rattle.m2_bytes_fit.specs.Texts.{KeepsFields}

-- a message's header and bytes keep the ranges of their types, as every message of a program does
pub record IsOfTypes (m : Message) : Type 0 where
  pub header : FieldsFit m.header
  pub front : All (λ b. b < 256) m.front.bytes
  pub middle : All (λ b. b < 256) m.middle.bytes
  pub tail : All (λ b. b < 256) m.tail.bytes

abbrev pub SendablePostsKeepFields : Type 0
SendablePostsKeepFields = (m : Message) → IsOfTypes m → IsSendable m → KeepsFields (content_of m)
