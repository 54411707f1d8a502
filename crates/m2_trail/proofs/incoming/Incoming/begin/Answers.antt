-- An accepted end that did nothing yet keeps what an incoming socket keeps.
use Rattle.std.proofs.Common.{ap, ◌∙◌, rules}
use Rattle.m2_handshake.specs.Standing.{acceptor_at_start}
use Rattle.m2_trail.proofs.Whole.{begun_left}
use Rattle.m2_trail.proofs.incoming.Incoming.begin.Goals as goal

pub invariant_of-result : goal.invariant_of-result
invariant_of-result g c = (
  begun_left _ _ _ _ _ c.requires.unused c.id-socket.ensures c.requires.none c.empty.ensures c.empty-2.ensures
      (c.server.ensures ∙ ap (acceptor_at_start c.args.entity) c.opener_of.ensures) c.empty-3.ensures,
  search rules,
)
