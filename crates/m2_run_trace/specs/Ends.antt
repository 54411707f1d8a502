-- What ends did, as lines. This project's own.
use Rattle.std.specs.Prelude.{ℕ, zero, suc, ◌+◌, ◌-◌, List, [], ◌∷◌, ◌++◌, codes, drop, length, take}
use Rattle.m2_fabric.specs.declared.log.Run.{Run}
use Rattle.m2_fabric.specs.declared.log.Run.TheVariants as run
use Rattle.m2_fabric.specs.declared.socket.SocketId.{SocketId}
use Rattle.m2_fabric.specs.Log.{Log}
use Rattle.m2_scenario.specs.declared.node.Node.{Node}
use Rattle.m2_trace.specs.Words.{Text, bytes_word, number_word}
use Rattle.m2_trail.specs.Trails.{written_by}
use Rattle.m2_run_trace.specs.Telling.{Telling}
use Rattle.m2_run_trace.specs.Words.{socket_name, trail_head}

-- ---- what is told of a socket

unfoldable pub opened_words : List Node → SocketId → (cause : Text) → Text
opened_words nodes s cause = codes " opened " ++ socket_name nodes s ++ cause

unfoldable pub accepted_words : List Node → SocketId → Text
accepted_words nodes s = codes " accepted " ++ socket_name nodes s

unfoldable pub read_words : List Node → SocketId → (count : ℕ) → Text
read_words nodes s count = codes " read " ++ socket_name nodes s ++ number_word count

-- with the bytes: so many of those that were put, from a place on
unfoldable pub wrote_words : List Node → SocketId → (count from : ℕ) → (put : List ℕ) → Text
wrote_words nodes s count from put = codes " wrote " ++ socket_name nodes s ++ number_word count ++ bytes_word (take count (drop from put))

unfoldable pub closed_words : List Node → SocketId → (cause : Text) → Text
closed_words nodes s cause = codes " closed " ++ socket_name nodes s ++ cause

-- ---- what a half did

unfoldable pub trail_line : Telling → (words : Text) → Text
trail_line t words = trail_head t.own.name ++ words ++ codes "\n"

unfoldable pub run_words : List Node → SocketId → (put : List ℕ) → (from : ℕ) → Run → Text
run_words nodes s put from (run.Read count) = read_words nodes s count
run_words nodes s put from (run.Wrote count) = wrote_words nodes s count from put

-- the first of these reads and writes, with which all that the end put is put
abbrev pub run_line : Telling → SocketId → (put : List ℕ) → List Run → Text
run_line t s put [] = []
run_line t s put (r ∷ rs) = trail_line t (run_words t.nodes s put (length put - written_by (r ∷ rs)) r)

-- so many of an end's reads and writes, from a place on
abbrev pub run_lines : Telling → SocketId → Log → (from count : ℕ) → Text
run_lines t s log from zero = []
run_lines t s log from (suc n) = run_line t s log.put (drop from log.runs) ++ run_lines t s log (from + 1) n

-- the place behind the last read, of these that begin at a place; else the other place
abbrev pub behind_read : List Run → (at otherwise : ℕ) → ℕ
behind_read [] at otherwise = otherwise
behind_read (run.Read count ∷ rs) at otherwise = behind_read rs (at + 1) (at + 1)
behind_read (run.Wrote count ∷ rs) at otherwise = behind_read rs (at + 1) otherwise
