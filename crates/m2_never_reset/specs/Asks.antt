-- What an opener asks on a socket, and the answers that take no socket. The frames are those of Ceph's msgr2:
-- CLIENT_IDENT and SESSION_RECONNECT; SESSION_RESET, SESSION_RETRY, SESSION_RETRY_GLOBAL and WAIT.
use Rattle.std.specs.Prelude.{◌≡◌, ℕ, Bool, Option, Some}
use Rattle.m2_journal.specs.m2_fabric.declared.socket.SocketId.{SocketId}
use Rattle.m2_session.specs.Reconnect.{Reconnect}

-- what a CLIENT_IDENT carries: the client cookie, and the global number drawn for it
pub record Ident : Type 0 where
  pub cookie : ℕ
  pub global : ℕ

pub data Ask : Type 0 where
  by_ident : Ident → Ask
  by_reconnect : Reconnect → Ask

-- A reset may be in full. A retry names a connect number or a global number, on which nothing rests here.
pub data Refusal : Type 0 where
  reset : (full : Bool) → Refusal
  retry : Refusal
  wait : Refusal

-- the asks that weren't judged, each on a socket that its opener has left
abbrev pub Asks : Type 0
Asks = SocketId → Option Ask

-- none is new
abbrev pub AtMost : Asks → Asks → Type 0
AtMost old new = (k : SocketId) (a : Ask) → new k ≡ Some a → old k ≡ Some a
