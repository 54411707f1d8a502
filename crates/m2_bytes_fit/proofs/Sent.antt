-- The payloads that an acceptor writes of itself, and those that no entry names, are read as they were written.
use Rattle.std.proofs.Common.{ℕ, ◌<◌, ◌^◌, ◌++◌, arith}
use Rattle.std.specs.List.{All}
use Rattle.std.specs.Int.{w32, w64, to_le_bytes}
use Rattle.std.proofs.lemmas.List.Elements.{All-from_recursion, All-append}
use Rattle.m2_feed.specs.m2_control.declared.control.Control.TheVariants as control
use Rattle.m2_feed.specs.m2_control.Control as payload
use Rattle.m2_feed.specs.m2_handshake.Texts.{control_parts, done}
use Rattle.m2_feed.proofs.m2_handshake.Greeting.{IsSent, payload_read, no_bytes}
use Rattle.m2_feed.specs.m2_journal.Laws.{IsWritable}
use Rattle.m2_trail.specs.Replies.{refusal}
use Rattle.m2_bytes_fit.specs.Texts.{KeepsFormat}
use Rattle.m2_feed.proofs.m2_lemmas.Bytes.{four_bytes}

abbrev pub IsByte : ℕ → Type 0
IsByte b = b < 256

pub eight_bytes : (n : ℕ) → All (λ b. b < 256) (to_le_bytes w64 n)
eight_bytes n =
    All-from_recursion IsByte (to_le_bytes w64 n)
    (omega arith, (omega arith, (omega arith, (omega arith, (omega arith, (omega arith, (omega arith, (omega arith, tt))))))))

done_bytes : All (λ b. b < 256) (payload.text_of done)
done_bytes =
    All-append IsByte (to_le_bytes w64 0) (to_le_bytes w32 1 ++ to_le_bytes w32 0) (eight_bytes 0)
    (All-append IsByte (to_le_bytes w32 1) (to_le_bytes w32 0) (four_bytes 1) (four_bytes 0))

pub done_sent : IsSent done
done_sent = record {
  fits = record { tag_from = omega arith; tag_to = omega arith; count = omega arith; first = omega arith; second = omega arith; third = omega arith; fourth = omega arith };
  bytes = record { first = done_bytes; second = no_bytes; third = no_bytes; fourth = no_bytes };
  read = payload_read done (omega arith, omega arith) (omega arith);
}

-- ---- what no entry names, whatever numbers stand in it

pub refusal_readable : (bits : ℕ) → bits < 2 ^ 64 → KeepsFormat (refusal bits)
refusal_readable bits h = record {
  writable = record {
    fits = record { tag_from = omega arith; tag_to = omega arith; count = omega arith; first = omega arith; second = omega arith; third = omega arith; fourth = omega arith };
    bytes = record { first = eight_bytes bits; second = no_bytes; third = no_bytes; fourth = no_bytes };
  };
  ranges = h;
  bounds = tt;
}

pub ack_writable : (n : ℕ) → IsWritable (control_parts (control.Ack (record { seen = n })))
ack_writable n = record {
  fits = record { tag_from = omega arith; tag_to = omega arith; count = omega arith; first = omega arith; second = omega arith; third = omega arith; fourth = omega arith };
  bytes = record { first = eight_bytes n; second = no_bytes; third = no_bytes; fourth = no_bytes };
}

pub stamp_writable : (s n : ℕ) → IsWritable (control_parts (control.KeepaliveAck (record { seconds = s; nanos = n })))
stamp_writable s n = record {
  fits = record { tag_from = omega arith; tag_to = omega arith; count = omega arith; first = omega arith; second = omega arith; third = omega arith; fourth = omega arith };
  bytes = record { first = All-append IsByte (to_le_bytes w32 s) (to_le_bytes w32 n) (four_bytes s) (four_bytes n); second = no_bytes; third = no_bytes; fourth = no_bytes };
}
