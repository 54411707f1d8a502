-- The second half of the invariant: what holds from the moment on at which both sides keep the same two cookies.
use Rattle.std.proofs.Common.{◌≡◌, ◌≢◌, ℕ}
use Rattle.m2_never_reset.specs.Asks.{Ask, by_ident, by_reconnect, reset}
use Rattle.m2_never_reset.specs.Link.{Stand, absent, asking, refused, offered, Link}
use Rattle.m2_never_reset.proofs.Before.{Identity, identity_of, Asked, IsBelow}

-- a side asks by a reconnect that names the session, and nothing that would end the session is on its way to it
abbrev pub IsSettledAt : (client server : ℕ) → Stand → Type 0
IsSettledAt client server absent = ⊥
IsSettledAt client server (asking (by_ident i)) = ⊥
IsSettledAt client server (asking (by_reconnect r)) = (r.client ≡ client) × (r.server ≡ server)
IsSettledAt client server (refused a (reset full)) = ⊥
IsSettledAt client server (offered cookie global ms) = ⊥
IsSettledAt client server _ = Unit {0}

-- its idents are old to the other side
pub record Keeps (client server : ℕ) (x : Identity) (s : Stand) (y : Identity) : Type 0 where
  pub same_client : x.client ≡ client
  pub same_server : x.server ≡ server
  pub stand : IsSettledAt client server s
  pub old : (a : Ask) → Asked x.asks s a → IsBelow y.peer_global a

pub record After (client server : ℕ) (l : Link) : Type 0 where
  pub client_kept : client ≢ 0
  pub server_kept : server ≢ 0
  pub near : Keeps client server (identity_of l.near) l.near_stand (identity_of l.far)
  pub far : Keeps client server (identity_of l.far) l.far_stand (identity_of l.near)
  pub calm : l.trouble ≡ 0
