-- What tells an owner owns nothing, so any thread may share it.
use denote.RattleType.{RattleType}
use denote.Param.Send.{IsSync, part_keyless}
use Rattle.m2_mailbox.specs.contracts.slip.Told.{the_row}
use Rattle.m2_mailbox.proofs.slip.Told.TheSendSync.Send.{send}

pub sync : (O : RattleType) → IsSync (the_row O)
sync O = record { shared = λ d b o κ q. part_keyless (the_row O) (send O) q d b o }
