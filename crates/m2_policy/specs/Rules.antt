-- The rules that a node chooses for itself: those of this project's profile, and those of real daemons as they were
-- seen (Ceph 16.2.15).
use Rattle.m2_addr.specs.declared.addr.AddrOrder.TheVariants.{Numbers, Bytes}
use Rattle.m2_policy.specs.declared.rules.AuthPayload.TheVariants.{Empty, Authorizer}
use Rattle.m2_policy.specs.declared.rules.ConnectRise.TheVariants.{BehindReady, WhereKept}
use Rattle.m2_policy.specs.declared.rules.Rules.{Rules}

abbrev pub profile : Rules
profile = record { auth = Empty; connects = BehindReady; order = Numbers }

abbrev pub of_daemons : Rules
of_daemons = record { auth = Authorizer; connects = WhereKept; order = Bytes }
