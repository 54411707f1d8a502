-- The port of a node of a run. This project's own.
use Rattle.std.specs.Prelude.{◌≡◌, true, false, [], Option, Some, None}
use Rattle.m2_addr.specs.declared.addr.Addr.{Addr}
use Rattle.m2_fabric.specs.CutPort.{Cutting, shown}
use Rattle.m2_fabric.specs.Port.{SeenPort}

-- one of the fabric, whose sockets break where lines cut them; or, of a node that is off, none, at its address
pub record PortNow : Type 0 where
  pub at : Addr
  pub port : Option Cutting

-- that of a node that is off: it makes nothing
abbrev pub off_port : Addr → SeenPort
off_port at = record { at = at; accepts = false; made = []; missed = 0; refused = 0; quiet = false; faults = 0; cuts = []; waiting = None }

abbrev pub seen_or_off : Addr → Option Cutting → SeenPort
seen_or_off at (Some c) = shown c
seen_or_off at None = off_port at

abbrev pub seen_port : PortNow → SeenPort
seen_port p = seen_or_off p.at p.port

-- A thread's port is one of the fabric, but that it accepts what is handed over to it, and tells of that what it made and whether its
-- last accept found none; that it tells nothing of what waits; and for the cuts that it has left.
abbrev pub IsPortOver : (port inner : SeenPort) → Type 0
IsPortOver port inner = port ≡ record inner { accepts = true; made = port.made; quiet = port.quiet; cuts = port.cuts; waiting = None }
