-- It owns nothing, so any thread may share it.
use denote.Param.Send.{IsSync, part_keyless}
use Rattle.m2_shared.specs.contracts.ids.Ids.{the_row}
use Rattle.m2_shared.proofs.ids.Ids.TheSendSync.Send.{send}

pub sync : IsSync the_row
sync = record { shared = λ d b o κ q. part_keyless the_row send q d b o }
