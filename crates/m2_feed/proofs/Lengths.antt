-- How long the payloads are that a record composes before it draws their numbers, and that no frame's text is empty.
use Rattle.std.proofs.Common.{◌≡◌, ◌≢◌, ℕ, ◌+◌, List, [], length, refl, ap, arith}
use Rattle.m2_frame.specs.Frame.{Parts}
use Rattle.m2_frame.specs.Text as frame
use Rattle.m2_frame.specs.Text.{first_text, later_text}
use Rattle.m2_frame.proofs.Lengths.{length-text_of}
use Rattle.m2_control.specs.declared.control.Control.{Control}
use Rattle.m2_handshake.specs.Texts.{control_parts}
use Rattle.m2_journal.specs.OutFrames as out
use Rattle.m2_journal.specs.OutFrames.{OutFrame, greeting, ident, reconnect, server_ident, reconnect_ok, reset, retry, retry_global, wait, message, acknowledgement, keepalive_answer}
use Rattle.m2_journal.specs.SideFacts.{SideFacts}
use Rattle.m2_message.specs.Message.{with_numbers}
use Rattle.m2_message.specs.MessageFrame.{parts_of}
use Rattle.m2_feed.specs.FeedLaws.{TextsAreKnown, reconnect_of}

text-some : (p : Parts) → frame.text_of p ≢ []
text-some p e = omega (arith, length-text_of p, ap length e)

some : (f : SideFacts) (w : OutFrame) → w ≢ greeting → out.text_of f w ≢ []
some f greeting n = absurd (n refl)
some f (ident cookie global) n = text-some (control_parts (out.client_ident_of f cookie global))
some f (reconnect client server global connect seen) n = text-some (control_parts (reconnect_of f client server global connect seen))
some f (server_ident cookie global) n = text-some (control_parts (out.server_ident_of f cookie global))
some f (reconnect_ok seen) n = text-some _
some f (reset full) n = text-some _
some f (retry connect) n = text-some _
some f (retry_global global) n = text-some _
some f wait n = text-some _
some f (message number acked m) n = text-some (parts_of (with_numbers number acked m))
some f (acknowledgement number) n = text-some _
some f (keepalive_answer k) n = text-some _

pub texts_are_known : TextsAreKnown
texts_are_known = record {
  ident = λ f cookie global. refl;
  reconnect = λ f client server global connect seen. refl;
  some = some;
}
