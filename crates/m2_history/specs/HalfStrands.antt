-- A half's strand in an order of all that happened: how far its trail has come there. This project's own.
use Rattle.std.specs.Prelude.{◌≡◌, ℕ, ◌≤◌, List, [], ◌∷◌, length, take}
use Rattle.std.specs.List.{AllByRecursion}
use Rattle.m2_fabric.specs.declared.socket.SocketId.{SocketId}
use Rattle.m2_bytes_fit.specs.Trails.{IsPointOf}
use Rattle.m2_journal.specs.declared.entry.Entry.{Entry}
use Rattle.m2_journal.specs.declared.entry.Entry.TheVariants as entry
use Rattle.m2_weave.specs.Order.{Cut}
use Rattle.m2_trail.specs.Trails.{TrailNow, RisesWithin}
use Rattle.m2_weave.specs.declared.strand.StrandItem.{StrandItem}
use Rattle.m2_weave.specs.declared.strand.StrandItem.TheVariants.{Noted, Handed}
use Rattle.m2_weave.specs.WeaveLaws.{IsAsked}
use Rattle.m2_weave.specs.Rule.{Woven}
use Rattle.m2_weave.specs.Strands.{StrandNow, half_of, handed_by, judged_at, total}

-- ---- a trail as a strand

abbrev pub strand_of : TrailNow → StrandNow
strand_of t = half_of t.socket t.entries t.judged_after

-- the entries among items, in order
abbrev pub noted_in : List StrandItem → List Entry
noted_in [] = []
noted_in (Noted e ∷ is) = e ∷ noted_in is
noted_in (Handed k ∷ is) = noted_in is

-- an entry that writes does so on this socket
abbrev pub WritesOn : SocketId → Entry → Type 0
WritesOn k (entry.Wrote socket count) = socket ≡ k
WritesOn k _ = Unit {0}

-- it notes when each ask was judged, and writes on its own socket alone
pub record IsTidy (t : TrailNow) : Type 0 where
  pub many : length t.judged_after ≡ length t.judged
  pub rising : RisesWithin 0 t.judged_after (length t.entries)
  pub writes : AllByRecursion (WritesOn t.socket) t.entries

-- ---- where an order has come

-- Behind so many items of the strand of a trail: no ask was judged that the strand hasn't handed on, and it was asked as the
-- rule of weaving says.
pub record IsWovenTo (w : Woven) (at : Cut) (t : TrailNow) (items : ℕ) : Type 0 where
  pub asked : IsAsked w at (strand_of t) items
  pub judged : judged_at w.strands at t.socket ≤ total (handed_by t.socket) (take items (strand_of t).items)

-- So many of its entries have come, the first ones; and that is a point of an order of its entries and judgements.
pub record IsOrdered (t : TrailNow) (items judged : ℕ) : Type 0 where
  pub entries : noted_in (take items (strand_of t).items) ≡ take (length (noted_in (take items (strand_of t).items))) t.entries
  pub point : IsPointOf t (length (noted_in (take items (strand_of t).items))) judged

abbrev pub OrdersGivePoints : Type 0
OrdersGivePoints = (w : Woven) (at : Cut) (t : TrailNow) (items : ℕ) → IsTidy t → IsWovenTo w at t items → IsOrdered t items (judged_at w.strands at t.socket)
