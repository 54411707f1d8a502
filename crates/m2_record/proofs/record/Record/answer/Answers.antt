use Rattle.m2_shared.specs.Gates.{places}
use Rattle.std.proofs.Common.{◌++◌, ◌∙◌, ap, option_map, subst, sym}
use Rattle.m2_bytes.specs.Items.{Holding}
use Rattle.m2_core.specs.CoreNow.{CoreNow}
use Rattle.m2_core.specs.Judging.{MayBeJudged}
use Rattle.m2_journal.specs.declared.entry.Entry.{Entry}
use Rattle.m2_record.specs.Calls.{Owns, closed_entries}
use Rattle.m2_record.specs.Judging.{CanAskOn}
use Rattle.m2_record.specs.RecordNow.{RecordNow}
use Rattle.m2_record.proofs.Answered.{answered-after}
use Rattle.m2_record.proofs.Broken.{waits-as}
use Rattle.m2_record.proofs.Owning.{owned-answered}
use Rattle.m2_record.proofs.record.Record.answer.Goals as goal

pub invariant_of-self : goal.invariant_of-self
invariant_of-self g c =
    let closed = option_map g.E.End.seen c.answered-aftermath.result.closed in
    answered-after c.args.v.now c.args.socket c.args.now _ c.answered-aftermath.new.self _ _ _ _ _ _ closed c.answered-aftermath.result.discarded c.answered-aftermath.result.remote_reset
    c.self.invariant c.requires.refuses (subst (λ (v : RecordNow). MayBeJudged c.args.v.now v.core) (sym c.self.view_is) c.requires.may)
    (subst (λ (v : RecordNow). CanAskOn c.args.socket v) (sym c.self.view_is) c.requires.socket) c.put_closed.ensures.ends
    (record {
      core = c.answered-aftermath.ensures.value;
      makes = c.answered-aftermath.ensures.judged c.args.socket;
      aftermath = c.answered-aftermath.ensures.aftermath;
      journal_is = c.put_closed.ensures.journal ∙ ap (λ (l : Holding Entry). l.items ++ closed_entries closed) c.push_reserved.ensures;
      spent_is = c.put_closed.ensures.spent;
      parcels_are = c.put_told.ensures.items;
      waits_are = waits-as _ _ _ _ _ _ _ _ _ c.stepped-self-inside.ensures (c.node.ensures ∙ ap (λ (x : CoreNow). x.facts.node) c.answered-aftermath.ensures.value) c.session.ensures c.session-2.ensures;
      held_is = c.still_held-self-inside.ensures;
    })

pub returns-clause-owned : goal.returns-clause-owned
returns-clause-owned g c = owned-answered (places c.args.throttles.now) c.args.v.now _ _ c.answered-aftermath.result.discarded c.answered-aftermath.result.remote_reset
    (subst (λ (v : RecordNow). Owns (places c.args.throttles.now) v) (sym c.self.view_is) c.requires.owned) c.answered-aftermath.ensures.value c.put_told.ensures.items
