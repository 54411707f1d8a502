-- When an entry may come: the rule by which strands are woven. This project's own.
use Rattle.std.specs.Prelude.{◌≡◌, ℕ, ◌+◌, ◌<◌, ◌≤◌, ◌==◌, Bool, true, false, nat_le, nat_lt, if◌then◌else◌, List, [], ◌∷◌, length, take, drop, slice_get, slice_index, slice_index_or, Option, Some, None}
use Rattle.std.specs.Option.{is_none}
use Rattle.m2_fabric.specs.declared.socket.SocketId.{SocketId}
use Rattle.m2_journal.specs.declared.entry.Entry.TheVariants as entry
use Rattle.m2_weave.specs.Order.{Cut, Rule}
use Rattle.m2_weave.specs.declared.unfit.Unfit.{Unfit}
use Rattle.m2_weave.specs.declared.unfit.Why.{Why}
use Rattle.m2_weave.specs.declared.unfit.Why.TheVariants.{Beyond, Differs}
use Rattle.m2_weave.specs.declared.strand.StrandItem.{StrandItem}
use Rattle.m2_weave.specs.declared.strand.StrandItem.TheVariants.{Noted}
use Rattle.m2_weave.specs.Strands.{EndOf, Bytes, StrandNow, other, end_in, handed_by, judged_by, total, written_at, handed_at, judged_at, place_of}

-- what is woven
pub record Woven : Type 0 where
  pub strands : List StrandNow
  pub bytes : Bytes

-- ---- what is read

-- the byte that an end has written at a place by then
abbrev pub byte_at : Woven → Cut → EndOf → ℕ → Option ℕ
byte_at w at e place = if nat_lt place (written_at w.strands at e) then slice_get (w.bytes.put e) place else None

abbrev pub unfit : EndOf → ℕ → Why → Unfit
unfit e place why = record { socket = e.socket; opener = e.opener; place = place; why = why }

-- a byte that is read, and the one that was written there; what is wrong with the bytes behind it
abbrev pub unfit_byte : EndOf → (place got : ℕ) → Option ℕ → Option Unfit → Option Unfit
unfit_byte e place got None behind = Some (unfit e place (Beyond got))
unfit_byte e place got (Some put) behind = if got == put then behind else Some (unfit e place (Differs got put))

-- the first of these bytes, read at an end from a place on, that isn't the one that was written there
abbrev pub first_unfit : EndOf → (there : ℕ → Option ℕ) → ℕ → List ℕ → Option Unfit
first_unfit e there place [] = None
first_unfit e there place (got ∷ bytes) = unfit_byte e place got (there place) (first_unfit e there (place + 1) bytes)

-- what is wrong with the bytes that a strand reads next, so many on a socket, after so many items
abbrev pub unfit_read : Woven → Cut → StrandNow → ℕ → SocketId → (count : ℕ) → Option Unfit
unfit_read w at s n k count =
    first_unfit (end_in s k) (byte_at w at (other (end_in s k))) (place_of w.strands s n k)
    (take count (drop (place_of w.strands s n k) (w.bytes.got (end_in s k))))

-- ---- the rule

-- A read: its bytes are those that the other end has written there by then. A judgement, the n-th of its socket: the half
-- has handed on n asks. What a half writes: all asks that it has handed on before are judged. All else at any time.
abbrev pub comes : Woven → Cut → StrandNow → ℕ → Option StrandItem → Bool
comes w at s n (Some (Noted (entry.Read k count))) = is_none (unfit_read w at s n k count)
comes w at s n (Some (Noted (entry.Judged k ask number answer))) = nat_lt (total (judged_by k) (take n s.items)) (handed_at w.strands at k)
comes w at s n (Some (Noted (entry.Wrote k count))) = nat_le (total (handed_by k) (take n s.items)) (judged_at w.strands at k)
comes w at s n (Some _) = true
comes w at s n None = false

abbrev pub nothing_at_all : StrandNow
nothing_at_all = record { of_half = false; items = [] }

abbrev pub strand_at : Woven → ℕ → StrandNow
strand_at w k = slice_index_or w.strands k nothing_at_all

abbrev pub by_bytes : Woven → Rule
by_bytes w at k = comes w at (strand_at w k) (slice_index at k) (slice_get (strand_at w k).items (slice_index at k))

-- ---- the same, as a relation

-- each of these bytes was read where the other end has written the same one by then
abbrev pub AreThere : (there : ℕ → Option ℕ) → ℕ → List ℕ → Type 0
AreThere there place bytes = (i : ℕ) → i < length bytes → there (place + i) ≡ slice_get bytes i

abbrev pub MayCome : Woven → Cut → StrandNow → ℕ → StrandItem → Type 0
MayCome w at s n (Noted (entry.Read k count)) =
    AreThere (byte_at w at (other (end_in s k))) (place_of w.strands s n k)
    (take count (drop (place_of w.strands s n k) (w.bytes.got (end_in s k))))
MayCome w at s n (Noted (entry.Judged k ask number answer)) = total (judged_by k) (take n s.items) < handed_at w.strands at k
MayCome w at s n (Noted (entry.Wrote k count)) = total (handed_by k) (take n s.items) ≤ judged_at w.strands at k
MayCome w at s n _ = Unit {0}
