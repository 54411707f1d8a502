use Rattle.std.proofs.Common.{◌≡◌, ap, ◌∙◌, sym}
use Rattle.m2_bytes.specs.Items.{Holding}
use Rattle.m2_fabric.specs.Port.{SeenPort}
use Rattle.m2_mio.proofs.fabric.MioFabricFabric.gather.Goals as goal

pub returns : goal.returns
returns g c =
    let items : c.from_vec.result.items ≡ c.args.ports.items =
    ap (λ (h : Holding SeenPort). h.items) c.from_vec.ensures ∙ c.retire_ports-listener.ensures ∙ c.into_vec-ports.ensures in
    rw (sym items) (c.take_in.ensures c.args.self.now.faults)
