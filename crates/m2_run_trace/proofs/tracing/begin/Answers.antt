-- The nodes listen apart.
use Rattle.std.proofs.Common.{List, sym, subst}
use Rattle.m2_policy.specs.m2_addr.declared.addr.Addr.{Addr}
use Rattle.m2_promise.proofs.m2_script.Apart.{addresses_apart}
use Rattle.m2_fabric.specs.SimFabric as net
use Rattle.m2_run_trace.proofs.tracing.begin.Goals as goal

pub new-requires : goal.new-requires
new-requires c = subst (λ (addrs : List Addr). net.AreApart addrs) (sym c.in_ok-addrs.ensures) (addresses_apart c.args.nodes.now c.requires.apart)
