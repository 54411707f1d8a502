-- Why an end was closed, as a word behind a space. This project's own.
use Rattle.std.specs.Prelude.{ℕ, ◌-◌, ◌==◌, ◌&&◌, ◌||◌, nat_le, if◌then◌else◌, Bool, true, false, List, [], ◌∷◌, codes, drop, length, Option, Some, None}
use Rattle.m2_fabric.specs.declared.socket.SocketId.{SocketId}
use Rattle.m2_fabric.specs.Log.{Log}
use Rattle.m2_fabric.specs.Sockets.{same_socket}
use Rattle.m2_journal.specs.declared.entry.Entry.{Entry}
use Rattle.m2_journal.specs.declared.entry.Entry.TheVariants as entry
use Rattle.m2_session.specs.declared.answer.Answer.{Answer}
use Rattle.m2_session.specs.declared.answer.Answer.TheVariants as answer
use Rattle.m2_session.specs.SessionLaws.{takes}
use Rattle.m2_run_trace.specs.declared.cause.TheConstants.{MISSING, MISSING_LENGTH, WAIT, WAIT_LENGTH}
use Rattle.m2_trace.specs.Words.{Text}

-- bytes begin as a frame of this tag does that has one segment
abbrev pub begins_frame : (tag : ℕ) → List ℕ → Bool
begins_frame tag (t ∷ count ∷ bytes) = (t == tag) && (count == 1)
begins_frame tag _ = false

-- they end in a frame of this tag and length that has one segment
abbrev pub ends_in_frame : (tag len : ℕ) → List ℕ → Bool
ends_in_frame tag len bytes = nat_le len (length bytes) && begins_frame tag (drop (length bytes - len) bytes)

-- by what the end did: a read found the end, or the last frame that was read was a WAIT or an IDENT_MISSING_FEATURES; else it failed
abbrev pub cause_by : Log → Text
cause_by log =
    if log.ended then codes " ended" else
    if ends_in_frame WAIT WAIT_LENGTH log.got then codes " waited" else
    if ends_in_frame MISSING MISSING_LENGTH log.got then codes " refused" else codes " failed"

abbrev pub cause_at : Option Log → Text
cause_at (Some log) = cause_by log
cause_at None = []

-- the answer gives up the socket on which this side has asked
abbrev pub gives_up : Answer → Bool
gives_up answer.ResetPending = true
gives_up _ = false

-- the answer closes the socket that this side has: it takes the ask's, or gives the side's own up
abbrev pub leaves_own : Answer → Bool
leaves_own answer = gives_up answer || takes answer

-- behind the judgement of an ask on another socket: that one was taken, or the end was given up for it
abbrev pub cause_of_answer : Answer → Option Log → Text
cause_of_answer answer log = if gives_up answer then codes " pending" else if takes answer then codes " taken" else cause_at log

-- of a session's end on a socket, by the entry before the one that tells of it: a mark-down, or a judgement on another socket
abbrev pub cause_in_journal : (before : Option Entry) → SocketId → Option Log → Text
cause_in_journal (Some (entry.Down planned)) socket log = codes " down"
cause_in_journal (Some (entry.Judged other ask number answer)) socket log = if same_socket other socket then cause_at log else cause_of_answer answer log
cause_in_journal _ socket log = cause_at log

-- of a half, by whether its ask was judged in this turn
abbrev pub cause_of_half : (judged : Bool) → Log → Text
cause_of_half true log = codes " refused"
cause_of_half false log = cause_by log
