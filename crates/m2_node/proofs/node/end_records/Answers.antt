-- What was granted for the records that are left, and for the last of them.
use Rattle.std.proofs.Common.{[], ◌∷◌, subst}
use Rattle.m2_bytes.proofs.m2_lemmas.Lists.{all_back, all_front}
use Rattle.m2_dispatch.specs.m2_shared.Gates.{places}
use Rattle.m2_script.specs.m2_record.Calls.{Owns}
use Rattle.m2_script.specs.m2_center.Finishing.{AllOwn}
use Rattle.m2_node.proofs.node.end_records.Goals as goal

pub ends-ends-requires-clause-owned : goal.ends-ends-requires-clause-owned
ends-ends-requires-clause-owned g c =
    let at = places c.args.throttles.now in
    (all_back (Owns at) c.pop.new.self.items (c.in-Some.side ∷ []) (subst (AllOwn at) c.in-Some.ensures.items c.records.invariant.owned)).0

pub records-preserved : goal.records-preserved
records-preserved g c =
    let at = places c.args.throttles.now in
    record {
      passes = c.ends-ends.ensures.passes;
      owned = all_front (Owns at) c.pop.new.self.items (c.in-Some.side ∷ []) (subst (AllOwn at) c.in-Some.ensures.items c.records.invariant.owned);
    }
