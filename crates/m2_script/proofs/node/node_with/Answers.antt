-- What the records hold, which is nothing, was granted by the throttles.
use Rattle.std.proofs.Common.{List, ap, sym, subst, ◌∙◌}
use Rattle.std.specs.List.{AllByRecursion}
use Rattle.m2_cluster.specs.m2_center.Making.{UnmadeNow}
use Rattle.m2_dispatch.specs.declared.logged.Logged.{Logged}
use Rattle.m2_record.specs.Calls.{Owns}
use Rattle.m2_shared.specs.Gates.{pass_places, places, unused}
use Rattle.m2_shared.proofs.Asking.{alone_passes}
use Rattle.m2_script.proofs.Over.{all_owned}
use Rattle.m2_script.proofs.node.node_with.Goals as goal

pub clear-cleared-requires-clause-granted : goal.clear-cleared-requires-clause-granted
clear-cleared-requires-clause-granted c =
    subst (λ p. AllByRecursion (Owns p) c.in-Err.unmade.records.items) (alone_passes c.of_dispatch.result ∙ sym (ap places c.alone-throttles.ensures.throttles))
    (subst (AllByRecursion (Owns (pass_places unused))) (sym (ap (λ (u : UnmadeNow (List Logged)). u.records) c.in-Err.ensures.err))
    (all_owned (record { places = pass_places unused; least = 0 }) c.args.port.inner.made c.args.records.items c.requires.begin.records))
