use Rattle.std.proofs.Common.{◌≡◌, List, ap, ◌∙◌, is_some, replicate}
use Rattle.std.specs.Prelude.{length}
use Rattle.std.proofs.lemmas.List.{length-replicate, map-id}
use Rattle.m2_addr.specs.declared.addr.Addr.{Addr}
use Rattle.m2_bytes.specs.Items.{Holding}
use Rattle.m2_fabric.specs.Port.{SeenPort}
use Rattle.m2_ports.specs.Nodes.{at_of}
use Rattle.m2_ports.specs.Port.{ports_at, unused_port, with_acceptor}
use Rattle.m2_mio.proofs.fabric.MioFabricFabric.split.Goals as goal

pub returns-clause-ok : goal.returns-clause-ok
returns-clause-ok g c =
    let n = c.args.node in
    let f = c.args.self.now.faults in
    let at = at_of n c.args.self.now.nodes in
    let given = is_some c.in_ok-listener.listener in
    let made : c.in_ok-ports.ports.items ≡ replicate c.args.centers (unused_port at) =
    c.in_ok-ports.ensures ∙ ap (λ (a : Addr). replicate c.args.centers (unused_port a)) c.at-at.ensures in
    let items : c.from_vec.result.items ≡ ports_at given c.args.centers at =
    ap (λ (h : Holding SeenPort). h.items) c.from_vec.ensures ∙ c.give_listener.ensures ∙ ap (with_acceptor given) made in
    let count : c.len.result ≡ c.args.centers =
    c.len.ensures ∙ c.in_ok-ports.ports.ok.0 ∙ ap (λ (ps : List SeenPort). length ps) made ∙ length-replicate c.args.centers (unused_port at) in
    rw (map-id c.from_vec.result.items, items, ← count) (c.in_ok-listener.ensures.out f)
