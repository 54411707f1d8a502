use Rattle.std.proofs.Common.{◌≡◌, map, take}
use Rattle.m2_turn.specs.Sessions.{peer_of}
use Rattle.m2_center.proofs.making.roster_of.Given as goal

-- the peers of the records that were looked at are added
abbrev pub invariant-peers : goal.invariant-peers
invariant-peers g l = l.roster ≡ map peer_of (take l.side-index l.records)
