use Rattle.std.proofs.Common.{sym}
use Rattle.m2_core.proofs.LiveNumbered.{sendable}
use Rattle.m2_core.proofs.live_numbering.number_on.Goals as goal

pub compose_message-requires-clause-sendable : goal.compose_message-requires-clause-sendable
compose_message-requires-clause-sendable g c =
    sendable _ c.requires.sendable _ _ (sym c.in-Some-peek.ensures.number) c.in-Some-peek.ensures.message
