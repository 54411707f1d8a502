use Rattle.std.proofs.Common.{◌≡◌, replicate}
use Rattle.m2_ports.specs.Port.{unused_port}
use Rattle.m2_mem_fabric.proofs.fabric.new_ports.Given as goal

abbrev pub invariant-ports : goal.invariant-ports
invariant-ports g l = l.ports.items ≡ replicate l.place (unused_port l.fn.at)
