-- What contracts see of a feed: of its end, of what it reads, and of what it is to write. This project's own.
use Rattle.std.specs.Prelude.{◌≡◌, ℕ, ◌+◌, ◌<◌, ◌≤◌, ◌^◌, Bool, true, false, List, [], length}
use Rattle.m2_control.specs.declared.keepalive.Keepalive.{Keepalive}
use Rattle.m2_fabric.specs.End.{SeenEnd}
use Rattle.m2_frame.specs.declared.encoding.TheConstants.{CRC_BYTES}
use Rattle.m2_frame.specs.declared.preamble.TheConstants.{PREAMBLE_BYTES}
use Rattle.m2_handshake.specs.Asking.{is_ready}
use Rattle.m2_handshake.specs.Moves.{is_authed}
use Rattle.m2_handshake.specs.Standing.{Standing, CanFeed}
use Rattle.m2_feed.specs.declared.reader.Reader.{Reader}
use Rattle.m2_feed.specs.declared.reader.Reader.TheVariants.{Shaking, Framing}
use Rattle.m2_feed.specs.declared.writing.Writing.{Writing}

-- who reads the bytes that come: the opener's half until both sides have signed, and then a decoder, of which the bytes
-- that it hasn't answered are told, and whether the size that a MESSAGE at their front asks for was granted
pub data Reading : Type 0 where
  shaking : Standing → Reading
  framing : (rest : List ℕ) → (granted : Bool) → Reading

abbrev pub reading_of : Reader → Reading
reading_of (Shaking half) = shaking half.standing
reading_of (Framing decoder) = framing decoder.rest decoder.granted

-- both sides have signed
abbrev pub is_framing : Reading → Bool
is_framing (shaking s) = false
is_framing (framing rest granted) = true

-- how many bytes of a payload, and how many of what is composed, fit before memory is taken
pub record Room : Type 0 where
  pub payload : ℕ
  pub text : ℕ

pub record FeedNow : Type 0 where
  pub end : SeenEnd
  -- whether this side opened the socket
  pub opened : Bool
  pub reading : Reading
  -- the bytes that are composed and not put yet
  pub composed : List ℕ
  -- whose bytes these are, once both sides have signed
  pub writing : Writing
  -- the keepalives that came and aren't answered, in order
  pub stamps : List Keepalive
  pub room : Room

-- a control frame whose payload has so many bytes can be composed without memory
pub record CanCompose (v : FeedNow) (len : ℕ) : Type 0 where
  pub payload : len ≤ v.room.payload
  pub text : PREAMBLE_BYTES + len + CRC_BYTES ≤ v.room.text

-- so many more bytes can be read without want of memory
abbrev pub CanHear : Reader → ℕ → Type 0
CanHear (Shaking half) n = CanFeed half n
CanHear (Framing decoder) n = (n ≤ decoder.room) × (decoder.place + length decoder.rest + n < 2 ^ 64)

-- What is known of a reader whose end has read `heard` bytes, where so many were passed by its decoder before it was this
-- feed's: a half that has signed is a decoder; and what is unread was heard.
abbrev pub IsSound : Reader → (base heard : ℕ) → Type 0
IsSound (Shaking half) base heard = (is_authed half.standing.stage ≡ false) × (length half.standing.rest ≤ heard)
IsSound (Framing decoder) base heard = decoder.place + length decoder.rest ≤ base + heard

-- this stays so, and as so many bytes more are heard
abbrev pub KeepsSound : Reader → Reader → Type 0
KeepsSound old new = (base heard : ℕ) → IsSound old base heard → IsSound new base heard

abbrev pub HearsSound : (more : ℕ) → Reader → Reader → Type 0
HearsSound more old new = (base heard : ℕ) → IsSound old base heard → IsSound new base (heard + more)

-- a half that has just signed
abbrev pub SignsNow : Reader → Type 0
SignsNow (Shaking half) = is_ready half.standing ≡ true
SignsNow (Framing decoder) = ⊥

-- it is a decoder of what was unread, which has passed `base` bytes
abbrev pub Signed : (base : ℕ) → Reader → Reader → Type 0
Signed base (Shaking half) new =
    (reading_of new ≡ framing half.standing.rest false) × ((heard : ℕ) → length half.standing.rest ≤ heard → IsSound new base heard)
Signed base (Framing decoder) new = ⊥

-- a feed's own facts; the third: no payload is left where one is made
pub record Holds (reader : Reader) (base : ℕ) (end : SeenEnd) (payload : List ℕ) : Type 0 where
  pub sound : IsSound reader base (length end.log.got)
  pub whole : end.log.closed ≡ false
  pub empty : payload ≡ []
