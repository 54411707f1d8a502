use Rattle.m2_shared.specs.Gates.{places}
use Rattle.std.proofs.Common.{◌++◌, ◌∙◌, ap, option_map, subst, sym}
use Rattle.m2_bytes.specs.Items.{Holding}
use Rattle.m2_journal.specs.declared.entry.Entry.{Entry}
use Rattle.m2_record.specs.Calls.{MayGoDown, Owns, closed_entries}
use Rattle.m2_record.specs.RecordNow.{RecordNow}
use Rattle.m2_record.proofs.Going.{down-after}
use Rattle.m2_record.proofs.Owning.{owned-down}
use Rattle.m2_record.proofs.record.Record.go_down.Goals as goal

pub invariant_of-self : goal.invariant_of-self
invariant_of-self g c =
    let closed = option_map g.E.End.seen c.down-aftermath.result.closed in
    down-after c.args.planned _ _ _ _ _ _ _ closed c.down-aftermath.result.discarded c.down-aftermath.result.remote_reset c.self.invariant
    (subst (λ (v : RecordNow). MayGoDown c.args.planned v) (sym c.self.view_is) c.requires.may)
    c.down-aftermath.ensures.may c.down-aftermath.ensures.value (c.down-aftermath.ensures.leads c.args.planned) c.down-aftermath.ensures.aftermath
    (c.put_closed.ensures.journal ∙ ap (λ (l : Holding Entry). l.items ++ closed_entries closed) c.push_reserved.ensures)
    c.steps_taken-self-inside.ensures c.put_closed.ensures.spent c.put_told.ensures.items c.put_closed.ensures.ends

pub returns-clause-owned : goal.returns-clause-owned
returns-clause-owned g c = owned-down (places c.args.throttles.now) _ _ c.down-aftermath.result.discarded c.down-aftermath.result.remote_reset
    (subst (λ (v : RecordNow). Owns (places c.args.throttles.now) v) (sym c.self.view_is) c.requires.owned) c.down-aftermath.ensures.value c.put_told.ensures.items
