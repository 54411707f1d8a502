use Rattle.std.proofs.Common.{◌∙◌, ap, option_map, refl}
use Rattle.m2_core.specs.CoreNow.{CoreNow}
use Rattle.m2_record.specs.RecordNow.{RecordNow}
use Rattle.m2_record.proofs.Heeding.{obeyed-owns, obeyed-leaves, obeys}
use Rattle.m2_record.proofs.record.Record.obey.Goals as goal

pub invariant_of-self : goal.invariant_of-self
invariant_of-self g c = obeys c.self.invariant c.obey-aftermath.new.self _ c.args.full _ _ (option_map g.E.End.seen c.obey-aftermath.result.closed) c.obey-aftermath.result.discarded c.obey-aftermath.result.remote_reset
    refl c.obey-aftermath.ensures.obeyed c.obey-aftermath.ensures.aftermath c.push_reserved.ensures c.put_told.ensures.items

pub returns-clause-obeys : goal.returns-clause-obeys
returns-clause-obeys g c = obeyed-leaves c.self.invariant c.obey-aftermath.new.self _ c.args.full _ _ (option_map g.E.End.seen c.obey-aftermath.result.closed) c.obey-aftermath.result.discarded c.obey-aftermath.result.remote_reset
    c.obey-aftermath.ensures.obeyed c.obey-aftermath.ensures.aftermath c.push_reserved.ensures c.put_told.ensures.items _ c.self.view_is

pub returns-clause-owned : goal.returns-clause-owned
returns-clause-owned g c place o = obeyed-owns c.self.invariant c.obey-aftermath.new.self c.args.full c.obey-aftermath.ensures.obeyed c.obey-aftermath.result.discarded c.obey-aftermath.result.remote_reset place _ _ c.self.view_is o refl c.put_told.ensures.items

pub returns-clause-top : goal.returns-clause-top
returns-clause-top g c = ap (λ (z : CoreNow). z.top) c.obey-aftermath.ensures.obeyed.only ∙ ap (λ (v : RecordNow). v.core.top) c.self.view_is
