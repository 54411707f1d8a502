use Rattle.m2_fabric.proofs.Waits.{heard_stays}
use Rattle.m2_fabric.proofs.sim_port.SimPortPort.hear.Goals as goal

pub invariant_of-self : goal.invariant_of-self
invariant_of-self c =
    let i = c.self.inside in
    let h = c.first_hears in
    heard_stays i.at i.made.sockets i.waiting.items h.new.ends.items c.args.id.now c.args.news c.args.bytes.now h.result c.self.invariant h.ensures.ok h.ensures.err
