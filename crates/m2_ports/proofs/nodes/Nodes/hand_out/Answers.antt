use Rattle.std.proofs.Common.{◌≡◌, is_some, ap, sym}
use Rattle.std.specs.Option.{unwrap_or}
use Rattle.m2_ports.proofs.Numbered.{splits_before}
use Rattle.m2_ports.specs.declared.nodes.TheConstants.{NOWHERE}
use Rattle.m2_ports.specs.Nodes.{SeenNode, at_of, shown}
use Rattle.m2_ports.specs.Port.{ports_at}
use Rattle.m2_ports.proofs.nodes.Nodes.hand_out.Goals as goal

pub returns-clause-ports : goal.returns-clause-ports
returns-clause-ports g c =
    let n = c.args.node in
    let same : at_of n c.args.self.now ≡ at_of n c.enter.new.self = ap (λ (s : SeenNode). unwrap_or s.listens NOWHERE) (sym (c.enter.ensures.same n)) in
    rw same c.hand_out_there.ensures.ports

pub returns-clause-out : goal.returns-clause-out
returns-clause-out g c = λ f.
    let n = c.args.node in
    let ports = ports_at (is_some c.hand_out_there.result) c.args.ports (at_of n c.enter.new.self) in
    let same : at_of n c.args.self.now ≡ at_of n c.enter.new.self = ap (λ (s : SeenNode). unwrap_or s.listens NOWHERE) (sym (c.enter.ensures.same n)) in
    rw same (splits_before n f ports c.args.self.now c.enter.new.self (shown f c.hand_out_there.new.self) c.enter.ensures.same (c.hand_out_there.ensures.out f))
