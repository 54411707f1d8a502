use Rattle.std.proofs.Common.{subst, sym}
use Rattle.m2_shared.specs.Gates.{places}
use Rattle.m2_record.specs.Calls.{Owns}
use Rattle.m2_record.proofs.record.Record.ends.Goals as goal

pub end-feed-requires-clause-owned : goal.end-feed-requires-clause-owned
end-feed-requires-clause-owned g c = (subst (Owns (places c.args.throttles.now)) (sym c.self.view_is) c.requires.owned).feed
