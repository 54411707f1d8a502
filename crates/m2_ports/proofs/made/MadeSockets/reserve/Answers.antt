use Rattle.m2_ports.proofs.Counts.{counted_again}
use Rattle.m2_ports.proofs.made.MadeSockets.reserve.Goals as goal

pub invariant_of-self-2 : goal.invariant_of-self-2
invariant_of-self-2 c =
    let m = c.self.inside in
    rw c.in_ok-reserve.ensures.items (counted_again m.made.items m.counts.entries c.reserve-2.new.self.entries c.self.invariant c.reserve-2.ensures.entries.2)
