-- Which event thread of a node judges an ask: the one that has the record towards the asking address. This project's own.
use Rattle.std.specs.Prelude.{◌≡◌, ℕ, ◌+◌, ◌%◌, [], IfSome}
use Rattle.m2_addr.specs.declared.addr.Addr.{Addr}
use Rattle.m2_trail.specs.Asks.{IsMain}
use Rattle.m2_trail.specs.Incoming.{IncomingNow}

-- the place among so many event threads
abbrev pub home_of : Addr → (centers : ℕ) → ℕ
home_of peer centers = (peer.port + peer.nonce) % centers

-- nothing of it was judged, and this is its home
pub record IsAtHome (center centers : ℕ) (v : IncomingNow) : Type 0 where
  pub unjudged : v.trail.judged ≡ []
  pub home : IfSome v.ask (λ ask. (main : Addr) → IsMain ask main → home_of main centers ≡ center)
