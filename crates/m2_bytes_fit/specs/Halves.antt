-- Bytes that fit, where an order of entries has come: what each end has got, the other had put, and the halves on sockets
-- of the peer have read the asks that were judged, and have written no answer before it was judged.
use Rattle.std.specs.Prelude.{◌≡◌, ℕ, ◌<◌, ◌^◌, true, false, [], Option, IfSome}
use Rattle.std.specs.List.{AllByRecursion}
use Rattle.m2_feed.specs.m2_addr.declared.addr.Addr.{Addr}
use Rattle.m2_feed.specs.m2_addr.declared.addr.TheConstants.Addr.{MSGR2}
use Rattle.m2_feed.specs.m2_session.declared.cookie.TheConstants.{MOST_PLACES}
use Rattle.m2_feed.specs.m2_control.Laws.{HasAddrRanges}
use Rattle.m2_feed.specs.m2_fabric.declared.socket.SocketId.{SocketId}
use Rattle.m2_feed.specs.m2_fabric.Sockets.{is_among}
use Rattle.m2_feed.specs.m2_handshake.Laws.{IsPrefix}
use Rattle.m2_feed.specs.m2_handshake.Standing.{Standing, acceptor_at_start}
use Rattle.m2_feed.specs.m2_journal.SideFacts.{SideFacts}
use Rattle.m2_trail.specs.Replies.{all_replies}
use Rattle.m2_trail.specs.Trails.{ComesToAsk, ComesToWrite, IsTaken}
use Rattle.m2_bytes_fit.specs.Ends.{Side, state_of, judged_at, takings_on, got_at, put_at}

-- ---- a half

-- what a half names itself by, and the address that it knows of the opener, in the ranges of their types
pub record HalfName : Type 0 where
  pub entity : ℕ
  pub seen : Addr
  pub entity_fits : entity < 2 ^ 8
  pub seen_fits : HasAddrRanges seen

-- where it begins
abbrev pub begins : HalfName → Standing
begins name = acceptor_at_start name.entity name.seen

-- What a node names itself by and says of itself, and the address that it dials, keep the ranges of their types; its own
-- address is one of msgr2, and its place one of those that cookies have.
pub record KeepsRanges (f : SideFacts) : Type 0 where
  pub entity : f.node.entity < 2 ^ 8
  pub peer : HasAddrRanges f.peer
  pub mine : HasAddrRanges f.mine
  pub kind : f.mine.kind ≡ MSGR2
  pub place : f.node.number < MOST_PLACES
  pub supports : f.node.supports < 2 ^ 64
  pub requires_ : f.node.requires_ < 2 ^ 64

-- A side's half on a socket, beside what its record has judged there so far.
pub record HalfFits (a : Side) (k : SocketId) : Type 0 where
  -- the side that opened a socket has no half there
  pub opened : is_among k (state_of a).opened ≡ true → ((a.halves k).got ≡ []) × ((a.halves k).put ≡ [])
  -- its name, and the features for which it refused an ident
  pub name : HalfName
  pub refused : Option ℕ
  pub refused_fits : IfSome refused (λ bits. bits < 2 ^ 64)
  -- the asks that were judged are the first in what it has read: each was read before it was judged
  pub asks : ComesToAsk (begins name) (a.halves k).got (all_replies (judged_at a k) refused) (judged_at a k)
  -- what it has written is the front of what it writes by that and by the replies to these asks: each was judged before its
  -- answer was written
  pub writes : takings_on k a.entries ≡ [] →
      ComesToWrite (begins name) (a.halves k).got (all_replies (judged_at a k) refused) (a.halves k).put
  pub taken : AllByRecursion (IsTaken (begins name) (a.halves k) (judged_at a k)) (takings_on k a.entries)

-- ---- both sides

-- At a point of an order. On each socket there are two ends: the opener's, and that of a half and of the record that took it.
pub record BytesFit (a b : Side) : Type 0 where
  -- what each end has got, the other end had put: each byte was written before it was read
  pub near_got : (k : SocketId) → IsPrefix (got_at a k) (put_at b k)
  pub far_got : (k : SocketId) → IsPrefix (got_at b k) (put_at a k)
  -- on a socket that neither side has opened, nothing was written at its other end
  pub strange : (k : SocketId) → is_among k (state_of a).opened ≡ false → is_among k (state_of b).opened ≡ false →
      (got_at a k ≡ []) × (got_at b k ≡ [])
  pub near_halves : (k : SocketId) → HalfFits a k
  pub far_halves : (k : SocketId) → HalfFits b k
