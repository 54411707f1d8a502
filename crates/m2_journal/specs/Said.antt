-- What the bytes on a feed say to a record, once both sides have signed: the whole texts at the front of a stream,
-- and what each of them says. Formats: Ceph's msgr2 documentation.
use Rattle.std.specs.Prelude.{ℕ, suc, ◌==◌, Bool, true, false, if◌then◌else◌, List, [], ◌∷◌, length, drop, Result, Ok, Err, Option, Some, None}
use Rattle.m2_handshake.specs.m2_control.declared.control.Control.{Control}
use Rattle.m2_handshake.specs.m2_control.declared.fault.ControlFault.{ControlFault}
use Rattle.m2_handshake.specs.m2_control.Control.{payload_of}
use Rattle.m2_message.specs.m2_frame.Frame.{Parts}
use Rattle.m2_message.specs.m2_frame.Reading.{Front, Item, whole, dropped, text, judge}
use Rattle.m2_message.specs.Message.{Content}
use Rattle.m2_message.specs.declared.header_text.TheConstants.{HEADER_BYTES}
use Rattle.m2_message.specs.MessageFrame.{message_in}
use Rattle.m2_message.specs.m2_frame.declared.tag.Tag.{Tag}
use Rattle.m2_message.specs.m2_frame.declared.tag.Tag.TheVariants as tag
use Rattle.m2_message.specs.m2_frame.Tags.{tag_in}

-- ---- the texts at the front of a stream, and what is left of it

pub record Split : Type 0 where
  pub items : List Item
  pub rest : List ℕ

abbrev pub behind : Item → Split → Split
behind item c = record c { items = item ∷ c.items }

-- so many texts at most; the third is what stands at the front of the bytes
abbrev pub split_by : ℕ → List ℕ → Front → Split
split_by (suc n) bytes (text item len) = behind item (split_by n (drop len bytes) (judge (drop len bytes)))
split_by _ bytes _ = record { items = []; rest = bytes }

-- a text has at least 32 bytes, so that there are fewer texts than bytes
abbrev pub split : List ℕ → Split
split bytes = split_by (length bytes) bytes (judge bytes)

-- ---- what a text says

pub data Said : Type 0 where
  -- a payload that is read at a feed
  says : Control → Said
  -- a message, with its number and the number that it acknowledges in its header
  brings : Content → Said
  -- an aborted frame, which can only be a MESSAGE: nothing
  aborts : Said
  -- a tag, a payload or a header that is never read at a feed
  garbles : Said

-- the tags of the answers to an ask, and of what follows them
abbrev pub is_read_at_feed : Tag → Bool
is_read_at_feed tag.ServerIdent = true
is_read_at_feed tag.IdentMissingFeatures = true
is_read_at_feed tag.SessionReset = true
is_read_at_feed tag.SessionRetry = true
is_read_at_feed tag.SessionRetryGlobal = true
is_read_at_feed tag.SessionReconnectOk = true
is_read_at_feed tag.Wait = true
is_read_at_feed tag.Keepalive = true
is_read_at_feed tag.KeepaliveAck = true
is_read_at_feed tag.Ack = true
is_read_at_feed _ = false

abbrev pub said_of_payload : Result Control ControlFault → Said
said_of_payload (Ok c) = says c
said_of_payload (Err _) = garbles

abbrev pub said_of_message : Parts → Said
said_of_message f = if length f.first == HEADER_BYTES then brings (message_in f) else garbles

abbrev pub said_of_control : Tag → Parts → Said
said_of_control t f = if is_read_at_feed t then said_of_payload (payload_of t f.first) else garbles

abbrev pub said_by : Option Tag → Parts → Said
said_by (Some tag.Message) f = said_of_message f
said_by (Some t) f = said_of_control t f
said_by None f = garbles

abbrev pub said : Item → Said
said (whole f) = said_by (tag_in f.tag) f
said (dropped tag) = aborts
