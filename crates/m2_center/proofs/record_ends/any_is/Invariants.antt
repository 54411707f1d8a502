use Rattle.std.proofs.Common.{◌≡◌, drop, map}
use Rattle.std.specs.List.{list_any}
use Rattle.m2_fabric.specs.End.{SeenEnd}
use Rattle.m2_fabric.specs.Sockets.{same_socket}
use Rattle.m2_center.proofs.record_ends.any_is.Given as goal

-- none of those so far
abbrev pub invariant-loop-end : goal.invariant-loop-end
invariant-loop-end g l =
    list_any (λ (e : SeenEnd). same_socket l.id e.id) (map g.E.End.seen (drop l.end-index l.ends)) ≡ list_any (λ (e : SeenEnd). same_socket l.id e.id) (map g.E.End.seen l.ends)
