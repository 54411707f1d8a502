-- The parts of an address without where they lie in memory.
use Rattle.m2_addr.specs.declared.reading.Parts.{Parts}
use Rattle.m2_addr.specs.Addr.{Shape}

abbrev pub shape : Parts → Shape
shape p = record { version = p.version; rest = p.rest.now; kind = p.kind; nonce = p.nonce; socket = p.socket.now }
