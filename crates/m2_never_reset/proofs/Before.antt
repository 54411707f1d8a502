-- The first half of the invariant: what holds until the moment at which both sides keep the same two cookies.
use Rattle.std.proofs.Common.{◌≡◌, ◌≢◌, ℕ, ◌<◌, ◌≤◌, ◌⊎◌, true, false, List, [], Some}
use Rattle.m2_journal.specs.m2_fabric.declared.socket.SocketId.{SocketId}
use Rattle.m2_queues.specs.m2_message.Message.{Content}
use Rattle.m2_never_reset.specs.Roles.{Role, IsNumber}
use Rattle.m2_never_reset.specs.Asks.{Ask, by_ident, by_reconnect, reset, Asks}
use Rattle.m2_never_reset.specs.Link.{Stand, absent, standby, waiting, asking, refused, offered, resumed, ready, Node, Joined, apart, by_near, by_far, Link}

-- ---- words

-- what crossing connects see of a node
pub record Identity : Type 0 where
  pub client : ℕ
  pub server : ℕ
  pub peer_global : ℕ
  pub greatest : ℕ
  pub asks : Asks

abbrev pub identity_of : Node → Identity
identity_of x = record { client = x.client; server = x.server; peer_global = x.peer_global; greatest = x.greatest; asks = x.asks }

-- the ask of the socket on which the side stands
abbrev pub IsAskedAt : Stand → Ask → Type 0
IsAskedAt (asking b) a = b ≡ a
IsAskedAt _ a = ⊥

-- an unjudged ask of a side, on a socket that it left or on its feed
abbrev pub Asked : Asks → Stand → Ask → Type 0
Asked asks s a = ((k : SocketId) × (asks k ≡ Some a)) ⊎ IsAskedAt s a

-- an ident has a number below this one
abbrev pub IsBelow : ℕ → Ask → Type 0
IsBelow n (by_ident i) = i.global < n
IsBelow n (by_reconnect r) = Unit {0}

-- a server cookie that the side drew
abbrev pub IsDrawnBy : Role → ℕ → Type 0
IsDrawnBy p cookie = (n : ℕ) × IsNumber n × (cookie ≡ p.mint n)

-- an ident has a cookie and none of the numbers to come; a reconnect names a session of the side's own making
abbrev pub IsAskOf : Role → (greatest : ℕ) → Ask → Type 0
IsAskOf p greatest (by_ident i) = (i.cookie ≢ 0) × (i.global ≤ greatest)
IsAskOf p greatest (by_reconnect r) = IsDrawnBy p r.server

-- what a side knows where it stands: its ask carries the cookies that it keeps, it was offered something only while
-- it has no server cookie, and nobody resumed
abbrev pub Owns : (client server : ℕ) → Stand → Type 0
Owns client server absent = server ≡ 0
Owns client server (asking (by_ident i)) = (i.cookie ≡ client) × (server ≡ 0)
Owns client server (asking (by_reconnect r)) = (r.client ≡ client) × (r.server ≡ server)
Owns client server (refused a (reset full)) = full ≡ false
Owns client server (offered cookie global ms) = server ≡ 0
Owns client server (resumed seen ms) = ⊥
Owns client server (ready ms) = ms ≡ []
Owns client server _ = Unit {0}

-- the ident on which a side stands has a greater number than its other idents
abbrev pub IsNewest : Asks → Stand → Type 0
IsNewest asks (asking (by_ident i)) = (k : SocketId) (a : Ask) → asks k ≡ Some a → IsBelow i.global a
IsNewest asks _ = Unit {0}

abbrev pub IsNotReset : Stand → Type 0
IsNotReset (refused a (reset full)) = ⊥
IsNotReset _ = Unit {0}

-- a server waits to be asked
abbrev pub IsPassive : Stand → Type 0
IsPassive absent = Unit {0}
IsPassive standby = Unit {0}
IsPassive waiting = Unit {0}
IsPassive (ready ms) = Unit {0}
IsPassive _ = ⊥

abbrev pub IsOffered : Stand → Type 0
IsOffered (offered cookie global ms) = Unit {0}
IsOffered _ = ⊥

abbrev pub IsReady : Stand → Type 0
IsReady (ready ms) = Unit {0}
IsReady _ = ⊥

-- the idents carry this client cookie, and there is no reconnect
abbrev pub IsIdentOf : (client : ℕ) → Ask → Type 0
IsIdentOf client (by_ident i) = i.cookie ≡ client
IsIdentOf client (by_reconnect r) = ⊥

-- ---- an offer on its way

-- It came from the other side, which still keeps what it offered. The idents of either side are old to the other, so
-- that it stays so; and no reset is on its way to the other side.
pub record IsOffer (cookie global : ℕ) (x y : Identity) (t : Stand) : Type 0 where
  pub none : x.server ≡ 0
  pub client_kept : x.client ≢ 0
  pub server_kept : cookie ≢ 0
  pub client : y.client ≡ x.client
  pub server : y.server ≡ cookie
  pub mine_old : (k : SocketId) (a : Ask) → x.asks k ≡ Some a → IsBelow y.peer_global a
  pub theirs_old : (a : Ask) → Asked y.asks t a → IsBelow global a
  pub no_reset : IsNotReset t

abbrev pub AtOffer : Stand → (ℕ → ℕ → Type 0) → Type 0
AtOffer (offered cookie global ms) F = F cookie global
AtOffer _ F = Unit {0}

-- ---- a server and its client

-- The server asks nothing; the client has no server cookie yet, asks by idents with its one client cookie, and is
-- told no reset.
pub record Serves (x : Identity) (s : Stand) (y : Identity) (t : Stand) : Type 0 where
  pub asks_nothing : (a : Ask) → Asked x.asks s a → ⊥
  pub passive : IsPassive s
  pub no_session : y.server ≡ 0
  pub idents : (a : Ask) → Asked y.asks t a → IsIdentOf y.client a
  pub client : (x.client ≡ 0) ⊎ (x.client ≡ y.client)
  pub no_reset : IsNotReset t

-- ---- a side, and the link

-- a server cookie that a side keeps is one that it drew
pub record Side (p q : Role) (x : Identity) (s : Stand) (y : Identity) (t : Stand) : Type 0 where
  pub server : (x.server ≡ 0) ⊎ IsDrawnBy p x.server
  pub asks : (a : Ask) → Asked x.asks s a → IsAskOf p x.greatest a
  pub owns : Owns x.client x.server s
  pub newest : IsNewest x.asks s
  pub offer : AtOffer s (λ cookie global. IsOffer cookie global x y t)
  pub serves : p.policy.server ≡ true → Serves x s y t

-- no message was accepted, and so none is acknowledged
pub record IsUnused (last base heard : ℕ) (accepted : List Content) : Type 0 where
  pub no_last : last ≡ 0
  pub no_base : base ≡ 0
  pub none_heard : heard ≡ 0
  pub none_accepted : accepted ≡ []

abbrev pub IsUnusedAt : Node → Type 0
IsUnusedAt x = IsUnused x.last x.base x.heard x.accepted

-- one socket is the feed of both only where its opener was offered what it asked for
abbrev pub AreJoined : Joined → Stand → Stand → Type 0
AreJoined apart s t = Unit {0}
AreJoined by_near s t = IsOffered s × IsReady t
AreJoined by_far s t = IsReady s × IsOffered t

pub record Before (p q : Role) (l : Link) : Type 0 where
  pub near : Side p q (identity_of l.near) l.near_stand (identity_of l.far) l.far_stand
  pub far : Side q p (identity_of l.far) l.far_stand (identity_of l.near) l.near_stand
  pub near_unused : IsUnusedAt l.near
  pub far_unused : IsUnusedAt l.far
  pub joined : AreJoined l.joined l.near_stand l.far_stand
  pub calm : l.trouble ≡ 0
