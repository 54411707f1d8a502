-- Strands whose waits go in no circle, as those of records are: a side judges what its halves have handed on, and its halves
-- answer what it has judged. Where the weaving of such strands stops, it stops at a byte.
use Rattle.std.specs.Prelude.{◌≡◌, ℕ, ◌≤◌, Bool, true, false, List, take, drop, slice_get, slice_index, Option, Some}
use Rattle.std.specs.List.{AllByRecursion}
use Rattle.m2_fabric.specs.declared.socket.SocketId.{SocketId}
use Rattle.m2_fabric.specs.Sockets.{same_socket}
use Rattle.m2_journal.specs.declared.entry.Entry.TheVariants as entry
use Rattle.m2_weave.specs.Order.{Cut, reached}
use Rattle.m2_weave.specs.declared.unfit.Unfit.{Unfit}
use Rattle.m2_weave.specs.declared.strand.StrandItem.{StrandItem}
use Rattle.m2_weave.specs.declared.strand.StrandItem.TheVariants.{Noted, Handed}
use Rattle.m2_weave.specs.Strands.{StrandNow, other, end_in, handed_at, handed_by, judged_at, judged_by, place_of, total}
use Rattle.m2_weave.specs.Rule.{Woven, byte_at, strand_at}
use Rattle.m2_weave.specs.Stops.{StopsAt, sizes}
use Rattle.m2_weave.specs.WeaveLaws.{IsFirstUnfit}

-- ---- one strand

-- a half judges nothing, and hands on and writes on one socket alone
abbrev pub IsOfHalf : SocketId → StrandItem → Type 0
IsOfHalf k (Noted (entry.Judged x ask number answer)) = ⊥
IsOfHalf k (Noted (entry.Wrote x count)) = same_socket k x ≡ true
IsOfHalf k (Noted _) = Unit {0}
IsOfHalf k (Handed x) = same_socket k x ≡ true

-- a journal hands on nothing
abbrev pub IsOfJournal : StrandItem → Type 0
IsOfJournal (Noted _) = Unit {0}
IsOfJournal (Handed x) = ⊥

abbrev pub IsTidyStrand : (of_half : Bool) → List StrandItem → Type 0
IsTidyStrand true items = (k : SocketId) × AllByRecursion (IsOfHalf k) items
IsTidyStrand false items = AllByRecursion IsOfJournal items

-- ---- all of them

-- Each judgement of a socket is of an ask that its halves hand on at some time; and what a half writes answers asks that are
-- judged at some time.
pub record AreTidy (w : Woven) : Type 0 where
  pub strands : AllByRecursion (λ (s : StrandNow). IsTidyStrand s.of_half s.items) w.strands
  pub judged : (j : ℕ) (k : SocketId) → total (judged_by k) (strand_at w j).items ≤ handed_at w.strands (sizes w) k
  pub answered : (j n count : ℕ) (k : SocketId) → slice_get (strand_at w j).items n ≡ Some (Noted (entry.Wrote k count)) →
      total (handed_by k) (take n (strand_at w j).items) ≤ judged_at w.strands (sizes w) k

-- ---- where they stop

-- A strand stands at a read, and the byte is the first of that which the other end hasn't written there by then, or has
-- written otherwise.
pub record IsAtRead (w : Woven) (at : Cut) (u : Option Unfit) : Type 0 where
  pub byte : Unfit
  pub named : u ≡ Some byte
  pub strand : ℕ
  pub socket : SocketId
  pub count : ℕ
  pub next : slice_get (strand_at w strand).items (slice_index at strand) ≡ Some (Noted (entry.Read socket count))
  pub first : IsFirstUnfit (end_in (strand_at w strand) socket) (byte_at w at (other (end_in (strand_at w strand) socket)))
      (place_of w.strands (strand_at w strand) (slice_index at strand) socket)
      (take count (drop (place_of w.strands (strand_at w strand) (slice_index at strand) socket) (w.bytes.got (end_in (strand_at w strand) socket)))) byte

-- so a stop names its socket, its side, the place and the byte
abbrev pub TidyStopsAreReads : Type 0
TidyStopsAreReads = (w : Woven) (u : Option Unfit) → AreTidy w → (stop : StopsAt w u) → IsAtRead w (reached (sizes w) stop.order) u
