-- What never changes of a record, and what follows from it alone: the session at its start, the cookies that it draws,
-- what its idents say of its node, and the half of a socket that it opens.
use Rattle.std.specs.Prelude.{ℕ, false}
use Rattle.m2_policy.specs.m2_addr.declared.addr.Addr.{Addr}
use Rattle.m2_session.specs.declared.frame.Speaker.{Speaker}
use Rattle.m2_session.specs.Cookies as cookies
use Rattle.m2_policy.specs.declared.policy.Policy.{Policy}
use Rattle.m2_handshake.specs.Standing.{Standing, opener_at_start}
use Rattle.m2_session.specs.declared.session.Session.{Session}
use Rattle.m2_session.specs.declared.session.Phase.TheVariants.{Absent}
use Rattle.m2_journal.specs.declared.facts.NodeFacts.{NodeFacts}

-- the addresses of this node and of its peer, the policy towards it, and what the node tells its records
pub record SideFacts : Type 0 where
  pub mine : Addr
  pub peer : Addr
  pub policy : Policy
  pub node : NodeFacts

-- the cookie that is drawn with a global number; a lossy session has none, which is 0
abbrev pub cookie_of : SideFacts → ℕ → ℕ
cookie_of f number = cookies.cookie_of f.policy.lossy (record { place = f.node.number; salt = f.node.salt; number = number })

-- what the node says of itself
abbrev pub speaker_of : SideFacts → Speaker
speaker_of f = record {
  addr = f.mine;
  place = f.node.number;
  supports = f.node.supports;
  requires_ = f.node.requires_;
  lossy = f.policy.lossy;
}

-- where the half of a socket begins that this side opens
abbrev pub opener_half : SideFacts → Standing
opener_half f = opener_at_start f.node.rules.auth f.node.entity f.peer

-- no session is kept
abbrev pub absent : SideFacts → Session
absent f = record {
  mine = f.mine;
  peer = f.peer;
  policy = f.policy;
  rules = f.node.rules;
  phase = Absent;
  client_cookie = 0;
  server_cookie = 0;
  peer_global = 0;
  connect = 0;
  lost_ready = false;
}
