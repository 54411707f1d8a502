-- What two sides of a link, and the halves beside them, are behind a turn, beside what they were before it. This project's own.
use Rattle.std.specs.Prelude.{◌≡◌, ℕ, ◌≤◌, false, if◌then◌else◌, List, [], ◌∷◌, ◌++◌, length, map, Option, Some, None}
use Rattle.std.specs.List.{AllByRecursion, IsDistinct}
use Rattle.m2_fabric.specs.declared.socket.SocketId.{SocketId}
use Rattle.m2_fabric.specs.Sockets.{same_socket}
use Rattle.m2_history.specs.Link.{AreKept, IsOnSocket}
use Rattle.m2_history.specs.Woven.{BothNow, BytesNow, as_judged, bytes_at, ends_of, is_of_link, strands_of}
use Rattle.m2_weave.specs.m2_journal.declared.entry.Entry.{Entry}
use Rattle.m2_history.specs.m2_record.Sources.{trail_at}
use Rattle.m2_history.specs.m2_trail.Arrivals.{LooseNow}
use Rattle.m2_history.specs.m2_trail.Trails.{TrailNow, RisesWithin}
use Rattle.m2_weave.specs.Later.{GoesOn, HasRead, HasWritten, HaveGot, HaveWritten, HadFlowed}
use Rattle.m2_weave.specs.Rule.{Woven}
use Rattle.m2_weave.specs.Strands.{EndOf, has_opened, journal_of}

-- ---- what is woven

-- the bytes of an end
abbrev pub bytes_of_end : BothNow → EndOf → BytesNow
bytes_of_end x e = bytes_at e.socket e.opener (ends_of x)

-- the strands of two sides, with the bytes of their ends
abbrev pub woven_now : BothNow → Woven
woven_now x = record {
  strands = strands_of x;
  bytes = record { got = λ e. (bytes_of_end x e).got; put = λ e. (bytes_of_end x e).put };
}

-- ---- halves

abbrev pub loose_half : (a b : List Entry) → LooseNow → List TrailNow
loose_half a b l = if is_of_link a b l then as_judged a b l.trail ∷ [] else []

abbrev pub loose_halves : (a b : List Entry) → List LooseNow → List TrailNow
loose_halves a b [] = []
loose_halves a b (l ∷ ls) = loose_half a b l ++ loose_halves a b ls

-- those that either side took, and of the others those of the link, with as many of their asks as the journals have judged
abbrev pub halves_of : BothNow → List TrailNow
halves_of x = (x.a.trails ++ x.b.trails) ++ loose_halves x.a.journal x.b.journal x.loose

-- the half on a socket: the first there is
abbrev pub half_on : SocketId → List TrailNow → Option TrailNow
half_on k ts = trail_at ts k

-- what it did
abbrev pub entries_in : Option TrailNow → List Entry
entries_in (Some t) = t.entries
entries_in None = []

abbrev pub done_on : SocketId → List TrailNow → List Entry
done_on k ts = entries_in (half_on k ts)

-- Its entries are on its socket, and its asks were judged one after the other, behind entries that are there.
pub record IsHalf (t : TrailNow) : Type 0 where
  pub entries : AllByRecursion (IsOnSocket t.socket) t.entries
  pub rising : RisesWithin 0 t.judged_after (length t.entries)

-- such halves, of which no two are on one socket
pub record AreHalves (ts : List TrailNow) : Type 0 where
  pub each : AllByRecursion IsHalf ts
  pub apart : IsDistinct same_socket (map (λ (t : TrailNow). t.socket) ts)

-- ---- what goes on

-- A half did more; and of its asks more were judged, behind all that it had done before.
pub record HalfGoesOn (t u : TrailNow) : Type 0 where
  pub entries : GoesOn t.entries u.entries
  pub asks : GoesOn t.judged_after u.judged_after
  pub behind : AllByRecursion (λ (n : ℕ). length t.entries ≤ n) asks.0

-- there is a half on its socket as which it goes on: a loose one may be one that a side has taken
abbrev pub HasGoneOn : List TrailNow → TrailNow → Type 0
HasGoneOn now t = (u : TrailNow) × (half_on t.socket now ≡ Some u) × HalfGoesOn t u

-- A journal goes on. It hasn't opened a socket since on which it had read or written; and a half behind which it had read, on a
-- socket of the peer, has done nothing more.
pub record JournalGoesOn (before now : List TrailNow) (js ks : List Entry) : Type 0 where
  pub entries : GoesOn js ks
  pub reads : (k : SocketId) → HasRead (journal_of js) k → has_opened (journal_of ks) k ≡ has_opened (journal_of js) k
  pub writes : (k : SocketId) → HasWritten (journal_of js) k → has_opened (journal_of ks) k ≡ has_opened (journal_of js) k
  pub behind : (k : SocketId) → HasRead (journal_of js) k → has_opened (journal_of js) k ≡ false → done_on k now ≡ done_on k before

-- Both journals go on, each half does, and what ends have got and put; there may be more halves.
pub record SidesGoOn (old new : BothNow) : Type 0 where
  pub before : AreHalves (halves_of old)
  pub now : AreHalves (halves_of new)
  pub near : JournalGoesOn (halves_of old) (halves_of new) old.a.journal new.a.journal
  pub far : JournalGoesOn (halves_of old) (halves_of new) old.b.journal new.b.journal
  pub halves : AllByRecursion (HasGoneOn (halves_of new)) (halves_of old)
  pub got : (e : EndOf) → GoesOn (bytes_of_end old e).got (bytes_of_end new e).got
  pub put : (e : EndOf) → GoesOn (bytes_of_end old e).put (bytes_of_end new e).put

-- ---- a turn

-- Both sides go on. Before the turn all that was read had been got, and all that was put was written; and all that an end has got
-- by the end of the turn the other end had put before it. Behind the turn sides and halves are what records and halves keep.
pub record IsTurnOfSides (old new : BothNow) : Type 0 where
  pub go_on : SidesGoOn old new
  pub got : HaveGot (woven_now old)
  pub written : HaveWritten (woven_now old)
  pub flowed : HadFlowed (woven_now old) (woven_now new)
  pub kept : AreKept new
