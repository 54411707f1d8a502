-- The text of a message's header, 41 bytes: Ceph's msgr2 documentation, `ceph_msg_header2`.
use Rattle.std.specs.Prelude.{◌≡◌, ◌≢◌, ℕ, ◌<◌, ◌^◌, List, [], ◌∷◌, ◌++◌, length, take, drop, slice_index, Result, Ok, Err}
use Rattle.std.specs.Int.{Width, w16, w32, w64, byte_len, to_le_bytes, from_le_bytes}
use Rattle.m2_bytes.specs.declared.memory.Short.{Short}
use Rattle.m2_message.specs.declared.header.Header.{Header}
use Rattle.m2_message.specs.declared.fault.MessageFault.{MessageFault}
use Rattle.m2_message.specs.declared.header_text.TheConstants.{HEADER_BYTES}

-- the fields in their order, each with its lowest byte first
unfoldable pub header_text : Header → List ℕ
header_text h =
    to_le_bytes w64 h.seq
    ++ to_le_bytes w64 h.tid
    ++ to_le_bytes w16 h.kind
    ++ to_le_bytes w16 h.priority
    ++ to_le_bytes w16 h.version
    ++ to_le_bytes w32 h.pre_padding
    ++ to_le_bytes w16 h.data_off
    ++ to_le_bytes w64 h.ack_seq
    ++ h.flags ∷ []
    ++ to_le_bytes w16 h.compat
    ++ to_le_bytes w16 h.reserved

-- each field fits its bytes, as every header of a program does
pub record FieldsFit (h : Header) : Type 0 where
  pub seq : h.seq < 2 ^ 64
  pub tid : h.tid < 2 ^ 64
  pub kind : h.kind < 2 ^ 16
  pub priority : h.priority < 2 ^ 16
  pub version : h.version < 2 ^ 16
  pub pre_padding : h.pre_padding < 2 ^ 32
  pub data_off : h.data_off < 2 ^ 16
  pub ack_seq : h.ack_seq < 2 ^ 64
  pub flags : h.flags < 2 ^ 8
  pub compat : h.compat < 2 ^ 16
  pub reserved : h.reserved < 2 ^ 16

-- the number of this width at a place
abbrev pub field : Width → ℕ → List ℕ → ℕ
field w at text = from_le_bytes w (take (byte_len w) (drop at text))

-- the header that a text says, each field by its place
abbrev pub header_in : List ℕ → Header
header_in text = record {
  seq = field w64 0 text;
  tid = field w64 8 text;
  kind = field w16 16 text;
  priority = field w16 18 text;
  version = field w16 20 text;
  pre_padding = field w32 22 text;
  data_off = field w16 26 text;
  ack_seq = field w64 28 text;
  flags = slice_index text 36;
  compat = field w16 37 text;
  reserved = field w16 39 text;
}

-- Ok: the header's text stood at the front. Short: fewer bytes were left than a header has.
abbrev pub ReadsHeader : List ℕ → Result Header Short → List ℕ → Type 0
ReadsHeader old (Ok h) new = FieldsFit h × (old ≡ header_text h ++ new)
ReadsHeader old (Err _) new = length old < HEADER_BYTES

-- Ok: the bytes are the header's text. BadHeader: there are fewer or more than a header has.
abbrev pub SaysHeader : List ℕ → Result Header MessageFault → Type 0
SaysHeader bytes (Ok h) = FieldsFit h × (bytes ≡ header_text h)
SaysHeader bytes (Err _) = length bytes ≢ HEADER_BYTES
