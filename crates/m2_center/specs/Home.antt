-- Which event thread of a node a peer belongs to. This project's own.
use Rattle.std.specs.Prelude.{ℕ, ◌+◌, ◌%◌}
use Rattle.m2_addr.specs.declared.addr.Addr.{Addr}

-- port and nonce together, modulo how many threads there are
abbrev pub home_of : Addr → (centers : ℕ) → ℕ
home_of peer centers = (peer.port + peer.nonce) % centers
