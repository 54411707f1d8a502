use Rattle.std.proofs.Common.{◌≡◌, true, false}
use Rattle.std.specs.List.{list_any}
use Rattle.m2_fabric.specs.End.{SeenEnd}
use Rattle.m2_fabric.specs.Sockets.{goes_to, is_among, same_socket}
use Rattle.m2_fabric.proofs.Waits.{incoming_stays}
use Rattle.m2_fabric.proofs.sim_port.SimPortPort.incoming.Goals as goal

pub invariant_of-self-then-not-waits : goal.invariant_of-self-then-not-waits
invariant_of-self-then-not-waits c =
    let i = c.self.inside in
    let towards : goes_to i.at c.args.id ≡ true = cc in
    let new : is_among c.args.id i.made.sockets ≡ false = cc in
    let apart : list_any (λ (e : SeenEnd). same_socket c.args.id e.id) i.waiting.items ≡ false = cc in
    rw (c.in_ok-push.ensures.items, c.new.ensures) (incoming_stays i.at i.made.sockets i.waiting.items c.args.id c.self.invariant towards new apart)
