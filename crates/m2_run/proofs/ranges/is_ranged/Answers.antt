-- From what each part says.
use Rattle.std.proofs.Common.{◌<◌, ◌^◌, subst}
use Rattle.std.specs.List.{AllByRecursion}
use Rattle.m2_journal.specs.declared.facts.NodeFacts.{NodeFacts}
use Rattle.m2_journal.specs.m2_control.Laws.{HasAddrRanges}
use Rattle.m2_bytes.proofs.m2_lemmas.Lists.{all_map}
use Rattle.m2_trail.specs.Trails.{trail_now}
use Rattle.m2_trail.specs.declared.trail.Trail.{Trail}
use Rattle.m2_run.specs.Types.{HasOpenerRanges}
use Rattle.m2_run.proofs.ranges.is_ranged.Goals as goal

pub returns : goal.returns
returns g c =
    let told = c.facts.ensures in
    let ranges = c.facts_keep_ranges.ensures in
    record {
      ranges = record {
        entity = subst (λ (n : NodeFacts). n.entity < 2 ^ 8) told ranges.entity;
        mine = subst HasAddrRanges c.session-session.ensures.facts.mine c.address_keeps_ranges.ensures;
        peer = subst HasAddrRanges c.session-session.ensures.facts.peer c.address_keeps_ranges-2.ensures;
        supports = subst (λ (n : NodeFacts). n.supports < 2 ^ 64) told ranges.supports;
        requires_ = subst (λ (n : NodeFacts). n.requires_ < 2 ^ 64) told ranges.requires_;
      };
      seen = subst (AllByRecursion HasOpenerRanges) c.trails.ensures (all_map HasOpenerRanges trail_now c.trails.result.now.items
          (subst (AllByRecursion (λ (t : Trail). HasOpenerRanges (trail_now t))) c.as_slice.ensures c.openers_keep_ranges.ensures));
    }
