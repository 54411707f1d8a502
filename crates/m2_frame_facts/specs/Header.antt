-- The fields of a message's header, each by its place: the definition is m2_message's.
use Rattle.std.specs.Prelude.{◌≡◌, ◌≢◌, ℕ, List, length, Result, Ok, Err}
use Rattle.m2_message.specs.declared.header.Header.{Header}
use Rattle.m2_message.specs.declared.fault.MessageFault.{MessageFault}
use Rattle.m2_message.specs.declared.header_text.TheConstants.{HEADER_BYTES}
use Rattle.m2_message.specs.HeaderText.{header_in}

-- Ok: the bytes are so many, and this is the header that they say. BadHeader: they are fewer or more.
abbrev pub HeaderIs : List ℕ → Result Header MessageFault → Type 0
HeaderIs text (Ok h) = (length text ≡ HEADER_BYTES) × (h ≡ header_in text)
HeaderIs text (Err _) = length text ≢ HEADER_BYTES
