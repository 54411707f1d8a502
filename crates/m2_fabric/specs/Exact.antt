-- What an end and a port in memory answer, as functions of what is seen of them. This project's own.
use Rattle.std.specs.Prelude.{ℕ, ◌||◌, min, if◌then◌else◌, List, [], ◌∷◌, ◌++◌, length, Option, Some}
use Rattle.m2_addr.specs.declared.addr.Addr.{Addr}
use Rattle.m2_edge.specs.Faults.{next_count}
use Rattle.m2_fabric.specs.Cuts.{allowance, bound_in, is_cut, without_cuts}
use Rattle.m2_fabric.specs.End.{Inflow, SeenEnd, fresh_end, unread, with_read, with_write}
use Rattle.m2_fabric.specs.Port.{SeenPort, ids, socket_after}
use Rattle.m2_fabric.specs.declared.end.EndRead.{EndRead}
use Rattle.m2_fabric.specs.declared.end.EndRead.TheVariants as read
use Rattle.m2_fabric.specs.declared.end.EndWrite.{EndWrite}
use Rattle.m2_fabric.specs.declared.end.EndWrite.TheVariants as write
use Rattle.m2_fabric.specs.declared.log.TheConstants.{MOST_MOVED}

-- ---- a read into a piece of so many bytes

abbrev pub read_whole : Option ℕ → Inflow → (len : ℕ) → List ℕ → EndRead
read_whole left i len [] = if i.ended then read.Ended else read.NotYet
read_whole left i len (b ∷ bs) = read.Got (min (allowance left len) (min (length i.readable) MOST_MOVED))

abbrev pub read_of : Option ℕ → Inflow → (len : ℕ) → EndRead
read_of left i len = if is_cut left || i.failed then read.Failed else read_whole left i len i.readable

abbrev pub after_read_of : EndRead → Inflow → SeenEnd → SeenEnd
after_read_of (read.Got n) i e =
    record (with_read (read.Got n) i.readable e) { inflow = Some (unread n i) }
after_read_of read.Failed i e = record e { faults = next_count e.faults }
after_read_of answer i e = with_read answer [] e

-- ---- a write of a piece

abbrev pub write_of : Option ℕ → Inflow → (len : ℕ) → EndWrite
write_of left i len = if is_cut left || (i.failed || i.closed) then write.Failed else write.Put (min (allowance left len) MOST_MOVED)

abbrev pub after_write_of : EndWrite → List ℕ → SeenEnd → SeenEnd
after_write_of (write.Put n) piece e = with_write (write.Put n) piece e
after_write_of write.Failed piece e = record e { faults = next_count e.faults }
after_write_of answer piece e = e

-- ---- a connect

abbrev pub opened_by : Addr → List SeenEnd → SeenPort → SeenEnd
opened_by to waiting p = record (fresh_end (socket_after (p.made ++ ids waiting) p.at to)) { left = bound_in to p.cuts }

abbrev pub after_opening : Addr → List SeenEnd → SeenPort → SeenPort
after_opening to waiting p = record p { made = p.made ++ (opened_by to waiting p).id ∷ []; cuts = without_cuts to p.cuts }
