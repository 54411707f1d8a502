-- What is promised of the rule by which strands are woven.
use Rattle.std.specs.Prelude.{◌≡◌, ℕ, ◌+◌, ◌<◌, ◌≤◌, true, List, length, slice_get, slice_index, take, Option, Some, None}
use Rattle.m2_fabric.specs.declared.socket.SocketId.{SocketId}
use Rattle.m2_weave.specs.Order.{Cut, StaysMet, AreLawful, nothing, reached}
use Rattle.m2_weave.specs.declared.unfit.Unfit.{Unfit}
use Rattle.m2_weave.specs.declared.unfit.Why.{Why}
use Rattle.m2_weave.specs.declared.unfit.Why.TheVariants.{Beyond, Differs}
use Rattle.m2_weave.specs.declared.strand.StrandItem.{StrandItem}
use Rattle.m2_weave.specs.declared.strand.StrandItem.TheVariants.{Noted}
use Rattle.m2_journal.specs.declared.entry.Entry.TheVariants as entry
use Rattle.m2_weave.specs.Strands.{EndOf, StrandNow, other, end_in, begun_at, handed_at, handed_by, judged_at, judged_by, place_of, total}
use Rattle.m2_weave.specs.Rule.{Woven, MayCome, byte_at, by_bytes, comes, first_unfit, strand_at}
use Rattle.m2_weave.specs.Counted.{by_counters, lengths}
use Rattle.m2_weave.specs.Counting.{AreNamed, counted}
use Rattle.m2_weave.specs.Stops.{IsWoven, StopsAt, sizes}

-- what may come may still come later, while other strands go on
abbrev pub RuleStaysMet : Type 0
RuleStaysMet = (w : Woven) → StaysMet (by_bytes w)

-- the rule says of each item whether it may come
pub record RuleDecides : Type 0 where
  pub sound : (w : Woven) (at : Cut) (s : StrandNow) (n : ℕ) (i : StrandItem) → comes w at s n (Some i) ≡ true → MayCome w at s n i
  pub complete : (w : Woven) (at : Cut) (s : StrandNow) (n : ℕ) (i : StrandItem) → MayCome w at s n i → comes w at s n (Some i) ≡ true

-- where a greedy order stops before the end, there is no order
abbrev pub StopIsNoOrder : Type 0
StopIsNoOrder = (w : Woven) (u : Option Unfit) → StopsAt w u → (order : List ℕ) → IsWoven w order → ⊥

-- what was written at the place of an unfit byte
abbrev pub IsWrong : Why → (read : Option ℕ) → (written : Option ℕ) → Type 0
IsWrong (Beyond got) read written = (read ≡ Some got) × (written ≡ None)
IsWrong (Differs got put) read written = (read ≡ Some got) × (written ≡ Some put) × (got ≡ put → ⊥)

-- It is the first one: all bytes before it were written as they were read, and it wasn't.
pub record IsFirstUnfit (e : EndOf) (there : ℕ → Option ℕ) (from : ℕ) (bytes : List ℕ) (u : Unfit) : Type 0 where
  pub socket : u.socket ≡ e.socket
  pub opener : u.opener ≡ e.opener
  pub before : ℕ
  pub place : u.place ≡ from + before
  pub within : before < length bytes
  pub fit : (i : ℕ) → i < before → there (from + i) ≡ slice_get bytes i
  pub wrong : IsWrong u.why (slice_get bytes before) (there u.place)

abbrev pub UnfitIsTheFirst : Type 0
UnfitIsTheFirst = (e : EndOf) (there : ℕ → Option ℕ) (from : ℕ) (bytes : List ℕ) (u : Unfit) →
    first_unfit e there from bytes ≡ Some u → IsFirstUnfit e there from bytes u

-- ---- what was read was written

-- Each byte that a strand has read on a socket in its first items, as far as the end's log has it, is the one that the other
-- end has written at its place by then.
abbrev pub IsRead : Woven → Cut → StrandNow → ℕ → Type 0
IsRead w at s n = (k : SocketId) (p : ℕ) → begun_at w.strands s k ≤ p → p < place_of w.strands s n k → p < length (w.bytes.got (end_in s k)) →
    byte_at w at (other (end_in s k)) p ≡ slice_get (w.bytes.got (end_in s k)) p

-- wherever a lawful order leads
abbrev pub ReadWasWritten : Type 0
ReadWasWritten = (w : Woven) (order : List ℕ) → AreLawful (by_bytes w) (sizes w) (nothing (sizes w)) order →
    (j : ℕ) → IsRead w (reached (sizes w) order) (strand_at w j) (slice_index (reached (sizes w) order) j)

-- ---- the rule by counters

-- Where each socket has a name, counters say the same as the bytes; and the strands have as many entries.
pub record CountersDecide : Type 0 where
  pub rule : (names : List SocketId) (w : Woven) → AreNamed names w → (at : Cut) (k : ℕ) → by_counters (counted names w) at k ≡ by_bytes w at k
  pub sizes : (names : List SocketId) (w : Woven) → lengths (counted names w) ≡ sizes w

-- ---- what was judged was handed on, and is answered behind its judgement

-- Of a strand's first items: on no socket are more asks judged than halves have handed on by then; and where it wrote on a
-- socket, all asks that it had handed on there before are judged by then.
pub record IsAsked (w : Woven) (at : Cut) (s : StrandNow) (n : ℕ) : Type 0 where
  pub judged : (k : SocketId) → total (judged_by k) (take n s.items) ≤ handed_at w.strands at k
  pub answered : (k : SocketId) (m count : ℕ) → m < n → slice_get s.items m ≡ Some (Noted (entry.Wrote k count)) →
      total (handed_by k) (take m s.items) ≤ judged_at w.strands at k

-- wherever a lawful order leads
abbrev pub AsksComeFirst : Type 0
AsksComeFirst = (w : Woven) (order : List ℕ) → AreLawful (by_bytes w) (sizes w) (nothing (sizes w)) order →
    (j : ℕ) → IsAsked w (reached (sizes w) order) (strand_at w j) (slice_index (reached (sizes w) order) j)
