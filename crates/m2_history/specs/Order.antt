-- An order of strands, as the entries of both journals and of the halves, each with its bytes. This project's own.
use Rattle.std.specs.Prelude.{ℕ, Bool, true, false, List, [], ◌∷◌, ◌++◌, take, drop, slice_get, slice_index, Option, Some, None}
use Rattle.m2_fabric.specs.declared.socket.SocketId.{SocketId}
use Rattle.m2_fabric.specs.Log.{Log}
use Rattle.m2_bytes_fit.specs.Orders.{HalfEntry, reads, writes, OrderEntry, near_entry, far_entry, near_half, far_half}
use Rattle.m2_history.specs.HalfStrands.{strand_of}
use Rattle.m2_journal.specs.declared.entry.Entry.TheVariants as entry
use Rattle.m2_journal.specs.Items.{JournalItem}
use Rattle.m2_weave.specs.Order.{Cut, come}
use Rattle.m2_trail.specs.Trails.{TrailNow}
use Rattle.m2_weave.specs.declared.strand.StrandItem.{StrandItem}
use Rattle.m2_weave.specs.declared.strand.StrandItem.TheVariants.{Noted}
use Rattle.m2_weave.specs.Strands.{read_by, written_by, total}
use Rattle.m2_history.specs.Actors.{Actor, of_record, of_half}

-- ---- one item

abbrev pub by_record : (near : Bool) → Option JournalItem → List OrderEntry
by_record true (Some i) = near_entry i ∷ []
by_record false (Some i) = far_entry i ∷ []
by_record near None = []

abbrev pub by_half : (near : Bool) → SocketId → HalfEntry → OrderEntry
by_half true k m = near_half k m
by_half false k m = far_half k m

-- the bytes of an item of a half, behind so many others, are the next ones in its log; its close and its asks that are judged are
-- no entries
abbrev pub half_bytes : TrailNow → Log → ℕ → Option StrandItem → List HalfEntry
half_bytes t log n (Some (Noted (entry.Read k count))) =
    reads (take count (drop (total (read_by t.socket) (take n (strand_of t).items)) log.got)) ∷ []
half_bytes t log n (Some (Noted (entry.Wrote k count))) =
    writes (take count (drop (total (written_by t.socket) (take n (strand_of t).items)) log.put)) ∷ []
half_bytes t log n _ = []

abbrev pub by_halves : (near : Bool) → SocketId → List HalfEntry → List OrderEntry
by_halves near k [] = []
by_halves near k (m ∷ ms) = by_half near k m ∷ by_halves near k ms

-- ---- an order

-- what an actor does behind so many of its items
abbrev pub done_by : (items : Bool → List JournalItem) → Option Actor → ℕ → List OrderEntry
done_by items (Some (of_record near)) n = by_record near (slice_get (items near) n)
done_by items (Some (of_half near t log)) n = by_halves near t.socket (half_bytes t log n (slice_get (strand_of t).items n))
done_by items None n = []

-- the entries of an order, from where strands have come on
abbrev pub entries_from : (items : Bool → List JournalItem) → List Actor → Cut → List ℕ → List OrderEntry
entries_from items actors at [] = []
entries_from items actors at (k ∷ order) = done_by items (slice_get actors k) (slice_index at k) ++ entries_from items actors (come k at) order
