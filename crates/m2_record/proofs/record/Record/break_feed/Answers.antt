use Rattle.m2_shared.specs.Gates.{places}
use Rattle.std.proofs.Common.{◌∙◌, ap, option_map, refl, subst, sym}
use Rattle.m2_core.specs.CoreNow.{CoreNow}
use Rattle.m2_record.specs.Calls.{FeedIsBroken, Owns}
use Rattle.m2_record.specs.RecordNow.{RecordNow}
use Rattle.m2_record.proofs.Broken.{broken-on, waits-as}
use Rattle.m2_record.proofs.Owning.{owned-broken}
use Rattle.m2_record.proofs.record.Record.break_feed.Goals as goal

pub invariant_of-self : goal.invariant_of-self
invariant_of-self g c = broken-on c.args.now _ _ c.fault-aftermath.new.self _ _ _ _ _ (option_map g.E.End.seen c.fault-aftermath.result.closed) c.fault-aftermath.result.discarded c.fault-aftermath.result.remote_reset
    refl c.self.invariant (subst (λ (v : RecordNow). FeedIsBroken v) (sym c.self.view_is) c.requires.broken) c.fault-aftermath.ensures.leads
    (record {
      core = c.fault-aftermath.ensures.value;
      aftermath = c.fault-aftermath.ensures.aftermath;
      journal_is = c.put_closed.ensures.journal;
      spent_is = c.put_closed.ensures.spent;
      parcels_are = c.put_told.ensures.items;
      waits_are = waits-as _ _ _ _ _ _ _ _ _ c.stepped-self-inside.ensures (c.node.ensures ∙ ap (λ (x : CoreNow). x.facts.node) c.fault-aftermath.ensures.value) c.session.ensures c.session-2.ensures;
    })

pub returns-clause-owned : goal.returns-clause-owned
returns-clause-owned g c = owned-broken (places c.args.throttles.now) _ _ c.fault-aftermath.result.discarded c.fault-aftermath.result.remote_reset
    (subst (λ (v : RecordNow). Owns (places c.args.throttles.now) v) (sym c.self.view_is) c.requires.owned) c.fault-aftermath.ensures.value c.put_told.ensures.items
