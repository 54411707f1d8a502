-- The ends of one side of each socket, found by their names.
use Rattle.std.proofs.Common.{◌≡◌, ℕ, zero, suc, if◌then◌else◌, ◌&&◌, Bool, true, false, List, [], ◌∷◌, ◌++◌, map, refl, ap, ◌∙◌, Option, Some, None}
use Rattle.std.specs.Prelude.{slice_get}
use Rattle.m2_fabric.specs.declared.socket.SocketId.{SocketId}
use Rattle.m2_fabric.specs.Sockets.{same_socket}
use Rattle.m2_weave.specs.declared.table.EndBytes.{EndBytes}
use Rattle.m2_weave.specs.Counting.{place_in}
use Rattle.m2_weave.specs.Strands.{same_side}
use Rattle.m2_history.specs.declared.rows.SideEnds.{SideEnds}
use Rattle.m2_history.specs.Sockets.{AreEndsOf, bytes_now, bytes_of_end, bytes_on, bytes_or_none, row_by, side_of}
use Rattle.m2_history.specs.Woven.{BytesNow, EndNow, RowNow, bytes_at, row_in}

-- ---- one end more

pub side_more : {X : Type 0} (f : EndNow → X) (opener : Bool) (e : EndNow) (es : List EndNow) → map f (side_of opener (e ∷ es)) ≡ map f (side_of opener (e ∷ [])) ++ map f (side_of opener es)
side_more f opener e es = at (same_side opener e.opener)
  where
    at : (b : Bool) → map f ((if b then e ∷ [] else []) ++ side_of opener es) ≡ map f ((if b then e ∷ [] else []) ++ []) ++ map f (side_of opener es)
    at true = refl
    at false = refl

-- ---- the first of a socket

abbrev or_none : Option BytesNow → BytesNow
or_none (Some b) = b
or_none None = record { got = []; put = [] }

mapped : (bs : List EndBytes) (n : ℕ) → bytes_or_none (slice_get bs n) ≡ or_none (slice_get (map bytes_now bs) n)
mapped [] n = refl
mapped (b ∷ bs) zero = refl
mapped (b ∷ bs) (suc n) = mapped bs n

place-more : (b : Bool) (n : ℕ) (e : BytesNow) (es : List BytesNow) → or_none (slice_get (e ∷ es) (if b then 0 else suc n)) ≡ (if b then e else or_none (slice_get es n))
place-more true n e es = refl
place-more false n e es = refl

chosen : (s : Bool) (mine there after : BytesNow) → there ≡ after → (if s then mine else there) ≡ (if s && true then mine else after)
chosen true mine there after e = refl
chosen false mine there after e = e

passed-over : (s : Bool) (mine after : BytesNow) → after ≡ (if s && false then mine else after)
passed-over true mine after = refl
passed-over false mine after = refl

first-at : (k : SocketId) (opener : Bool) (all : List EndNow) →
    or_none (slice_get (map bytes_of_end (side_of opener all)) (place_in (map (λ (e : EndNow). e.socket) (side_of opener all)) k)) ≡ bytes_at k opener all
first-at k opener [] = refl
first-at k opener (e ∷ es) = at (same_side opener e.opener) (first-at k opener es)
  where
    at : (c : Bool) → or_none (slice_get (map bytes_of_end (side_of opener es)) (place_in (map (λ (e : EndNow). e.socket) (side_of opener es)) k)) ≡ bytes_at k opener es →
        or_none (slice_get (map bytes_of_end ((if c then e ∷ [] else []) ++ side_of opener es)) (place_in (map (λ (e : EndNow). e.socket) ((if c then e ∷ [] else []) ++ side_of opener es)) k))
        ≡ (if same_socket k e.socket && c then bytes_of_end e else bytes_at k opener es)
    at true rest =
        place-more (same_socket k e.socket) (place_in (map (λ (e : EndNow). e.socket) (side_of opener es)) k) (bytes_of_end e) (map bytes_of_end (side_of opener es))
        ∙ chosen (same_socket k e.socket) (bytes_of_end e) _ _ rest
    at false rest = rest ∙ passed-over (same_socket k e.socket) (bytes_of_end e) (bytes_at k opener es)

bytes-are : (s : SideEnds) (opener : Bool) (all : List EndNow) (k : SocketId) → AreEndsOf opener all s → bytes_on s k ≡ bytes_at k opener all
bytes-are s opener all k are =
    mapped s.bytes.items (place_in s.names k)
    ∙ ap (λ (names : List SocketId). or_none (slice_get (map bytes_now s.bytes.items) (place_in names k))) are.names
    ∙ ap (λ bs. or_none (slice_get bs (place_in (map (λ (e : EndNow). e.socket) (side_of opener all)) k))) are.bytes ∙ first-at k opener all

pub row_is : (openers acceptors : SideEnds) (all : List EndNow) (e : EndNow) → AreEndsOf true all openers → AreEndsOf false all acceptors → row_by openers acceptors e ≡ row_in all e
row_is openers acceptors all e o a =
    ap (λ b. let r : RowNow = record { socket = e.socket; opener = b; acceptor = bytes_on acceptors e.socket } in r) (bytes-are openers true all e.socket o)
    ∙ ap (λ b. let r : RowNow = record { socket = e.socket; opener = bytes_at e.socket true all; acceptor = b } in r) (bytes-are acceptors false all e.socket a)
