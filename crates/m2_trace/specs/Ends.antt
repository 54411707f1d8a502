-- What an end and a half did, as lines. This project's own.
use Rattle.std.specs.Prelude.{ℕ, List, ◌++◌, codes}
use Rattle.std.specs.List.{flat_map}
use Rattle.m2_fabric.specs.declared.log.Run.{Run}
use Rattle.m2_fabric.specs.declared.log.Run.TheVariants as run
use Rattle.m2_fabric.specs.declared.socket.SocketId.{SocketId}
use Rattle.m2_fabric.specs.End.{SeenEnd}
use Rattle.m2_fabric.specs.Log.{Log}
use Rattle.m2_journal.specs.declared.entry.JudgedItem.{JudgedItem}
use Rattle.m2_trail.specs.Trails.{TrailNow}
use Rattle.m2_trace.specs.Words.{Text, number_word, flag_word, bytes_word, socket_word, line}
use Rattle.m2_trace.specs.Entries.{entry_line, judged_words}

-- ---- ends

-- whether it is closed, and whether its last read found nothing, its last write no room, and a read the end
unfoldable pub flag_words : Log → Text
flag_words l = flag_word l.closed ++ flag_word l.dry ++ flag_word l.blocked ++ flag_word l.ended

unfoldable pub run_words : SocketId → Run → Text
run_words socket (run.Read count) = codes " read" ++ socket_word socket ++ number_word count
run_words socket (run.Wrote count) = codes " wrote" ++ socket_word socket ++ number_word count

unfoldable pub run_line : (side what : Text) → SocketId → Run → Text
run_line side what socket r = line side what (run_words socket r)

-- all bytes that were got, or put
unfoldable pub bytes_line : (side what word : Text) → SocketId → List ℕ → Text
bytes_line side what word socket bytes = line side what (word ++ socket_word socket ++ bytes_word bytes)

unfoldable pub bytes_lines : (side what : Text) → SocketId → Log → Text
bytes_lines side what socket l = bytes_line side what (codes " got") socket l.got ++ bytes_line side what (codes " put") socket l.put

unfoldable pub socket_line : (side what : Text) → SocketId → Log → Text
socket_line side what socket l = line side what (codes " socket" ++ socket_word socket ++ flag_words l)

unfoldable pub log_lines : (side what : Text) → SocketId → Log → Text
log_lines side what socket l = socket_line side what socket l ++ flat_map (run_line side what socket) l.runs ++ bytes_lines side what socket l

unfoldable pub end_lines : (side what : Text) → SeenEnd → Text
end_lines side what e = log_lines side what e.id e.log

-- ---- trails

-- an ask that was judged
unfoldable pub judged_line : (side what : Text) → SocketId → JudgedItem → Text
judged_line side what socket item = line side what (codes " judged" ++ judged_words socket item.ask item.answer)

-- how many entries there were when one was judged
unfoldable pub after_line : (side what : Text) → SocketId → ℕ → Text
after_line side what socket count = line side what (codes " after" ++ socket_word socket ++ number_word count)

unfoldable pub asks_lines : (side what : Text) → TrailNow → Text
asks_lines side what t = flat_map (judged_line side what t.socket) t.judged ++ flat_map (after_line side what t.socket) t.judged_after

-- the socket, and as what the half named itself
unfoldable pub half_line : (side what : Text) → TrailNow → Text
half_line side what t = line side what (codes " named" ++ socket_word t.socket ++ number_word t.entity)

unfoldable pub trail_lines : (side what : Text) → TrailNow → Text
trail_lines side what t =
    half_line side what t ++ flat_map (entry_line side what) t.entries ++ asks_lines side what t
