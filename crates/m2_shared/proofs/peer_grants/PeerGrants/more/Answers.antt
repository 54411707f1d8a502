-- What was asked for at each stage is seen at each gate.
use Rattle.m2_shared.proofs.Asking.{asks_passes, asks_word}
use Rattle.m2_shared.proofs.peer_grants.PeerGrants.more.Goals as goal

pub returns-clause-passes : goal.returns-clause-passes
returns-clause-passes c = asks_passes _ _ _ _ _ _ _ c.more_at.ensures c.requires.passes

pub returns-clause-word : goal.returns-clause-word
returns-clause-word c = asks_word _ _ _ _ _ _ _ c.more_at.ensures
