-- An order of the entries of two journals and of the halves of both sides, and bytes that fit throughout it.
use Rattle.std.specs.Prelude.{◌≡◌, ℕ, true, false, if◌then◌else◌, List, [], ◌∷◌, ◌++◌}
use Rattle.std.specs.List.{AllByRecursion, flat_map}
use Rattle.m2_feed.specs.m2_fabric.declared.socket.SocketId.{SocketId}
use Rattle.m2_feed.specs.m2_fabric.Sockets.{same_socket, goes_to}
use Rattle.m2_feed.specs.m2_session.declared.session.Phase.TheVariants.{Ready}
use Rattle.m2_feed.specs.m2_journal.Items.{JournalItem}
use Rattle.m2_feed.specs.m2_journal.Replay.{AreLawful}
use Rattle.m2_feed.specs.m2_journal.SideFacts.{SideFacts}
use Rattle.m2_feed.specs.m2_journal.State.{start}
use Rattle.m2_never_reset.specs.PairLaws.{IsNoDown}
use Rattle.m2_never_reset.specs.Orders.{SideItem, near_item, far_item, near_items, far_items, AreNodes, IsHistory, IsNeverReset}
use Rattle.m2_bytes_fit.specs.Ends.{Side, state_of}
use Rattle.m2_bytes_fit.specs.Halves.{KeepsRanges, BytesFit}
use Rattle.m2_bytes_fit.specs.Texts.{CanBePosted}

-- ---- an order

-- what a half does
pub data HalfEntry : Type 0 where
  reads : (bytes : List ℕ) → HalfEntry
  writes : (bytes : List ℕ) → HalfEntry

-- an entry of a journal, or of the trail of a half
pub data OrderEntry : Type 0 where
  near_entry : JournalItem → OrderEntry
  far_entry : JournalItem → OrderEntry
  near_half : SocketId → HalfEntry → OrderEntry
  far_half : SocketId → HalfEntry → OrderEntry

-- the entries of both journals alone
abbrev pub entry_in : OrderEntry → List SideItem
entry_in (near_entry i) = near_item i ∷ []
entry_in (far_entry i) = far_item i ∷ []
entry_in (near_half k m) = []
entry_in (far_half k m) = []

abbrev pub entries_of : List OrderEntry → List SideItem
entries_of order = flat_map entry_in order

-- ---- what each side has got and put by it

abbrev pub got_by : HalfEntry → List ℕ
got_by (reads bytes) = bytes
got_by (writes bytes) = []

abbrev pub put_by : HalfEntry → List ℕ
put_by (reads bytes) = []
put_by (writes bytes) = bytes

-- of the half of the near side on this socket
abbrev pub near_move : SocketId → (HalfEntry → List ℕ) → OrderEntry → List ℕ
near_move k bytes (near_half socket m) = if same_socket k socket then bytes m else []
near_move k bytes m = []

abbrev pub far_move : SocketId → (HalfEntry → List ℕ) → OrderEntry → List ℕ
far_move k bytes (far_half socket m) = if same_socket k socket then bytes m else []
far_move k bytes m = []

abbrev pub near_side : SideFacts → List OrderEntry → Side
near_side f order = record {
  facts = f;
  entries = near_items (entries_of order);
  halves = λ k. record { got = flat_map (near_move k got_by) order; put = flat_map (near_move k put_by) order };
}

abbrev pub far_side : SideFacts → List OrderEntry → Side
far_side g order = record {
  facts = g;
  entries = far_items (entries_of order);
  halves = λ k. record { got = flat_map (far_move k got_by) order; put = flat_map (far_move k put_by) order };
}

-- ---- bytes that fit throughout

-- what holds where the first entries of an order lead, however many they are
abbrev pub Throughout : List OrderEntry → (List OrderEntry → Type 0) → Type 0
Throughout order P = (front back : List OrderEntry) → order ≡ front ++ back → P front

-- Both journals are lawful, no side is marked down by its own node, what the plans post keeps the bounds of its frames, and the
-- bytes fit at each point.
pub record IsByteHistory (f g : SideFacts) (order : List OrderEntry) : Type 0 where
  pub near_named : KeepsRanges f
  pub far_named : KeepsRanges g
  -- the two sides dial different places
  pub peers : (k : SocketId) → goes_to f.peer k ≡ true → goes_to g.peer k ≡ false
  pub near_lawful : AreLawful f (near_items (entries_of order)) (start f)
  pub far_lawful : AreLawful g (far_items (entries_of order)) (start g)
  pub near_not_down : AllByRecursion IsNoDown (near_items (entries_of order))
  pub far_not_down : AllByRecursion IsNoDown (far_items (entries_of order))
  pub near_posts : AllByRecursion CanBePosted (near_items (entries_of order))
  pub far_posts : AllByRecursion CanBePosted (far_items (entries_of order))
  pub bytes : Throughout order (λ front. BytesFit (near_side f front) (far_side g front))

-- ---- what follows

-- the two journals are a history, in an order that fits
abbrev pub BytesGiveFits : Type 0
BytesGiveFits = (f g : SideFacts) (order : List OrderEntry) → AreNodes f g → IsByteHistory f g order → IsHistory f g (entries_of order)

-- so a lossless session is never reset
abbrev pub LosslessBytesAreNeverReset : Type 0
LosslessBytesAreNeverReset = (f g : SideFacts) (order : List OrderEntry) → AreNodes f g → IsByteHistory f g order → IsNeverReset f g (entries_of order)

-- ---- bytes can fit

-- two lawful journals at a point at which bytes fit, and where both sides are in Ready
pub record BytesCanFit : Type 0 where
  pub near : Side
  pub far : Side
  pub near_lawful : AreLawful near.facts near.entries (start near.facts)
  pub far_lawful : AreLawful far.facts far.entries (start far.facts)
  pub bytes : BytesFit near far
  pub near_ready : (state_of near).session.phase ≡ Ready
  pub far_ready : (state_of far).session.phase ≡ Ready
