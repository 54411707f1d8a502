use Rattle.std.proofs.Common.{◌≡◌, sym, subst}
use Rattle.m2_core.specs.CoreNow.{CoreNow}
use Rattle.m2_core.specs.Judging.{IsVerdict, told_of}
use Rattle.m2_core.proofs.Judged as judged
use Rattle.m2_core.proofs.side.Core.answered.Goals as goal

pub tell_if-aftermath-requires-clause-lawful : goal.tell_if-aftermath-requires-clause-lawful
tell_if-aftermath-requires-clause-lawful g c =
    judged.lawful _ _ _ (subst (λ (o : CoreNow). IsVerdict c.args.v.now o) (sym c.self.view_is) c.requires.verdict) (subst (λ (o : CoreNow). c.told_of-told.result ≡ told_of o.facts c.args.v.now) (sym c.self.view_is) c.told_of-told.ensures)

pub tell_if-aftermath-requires-clause-follower : goal.tell_if-aftermath-requires-clause-follower
tell_if-aftermath-requires-clause-follower g c =
    judged.follows _ _ _ (subst (λ (o : CoreNow). IsVerdict c.args.v.now o) (sym c.self.view_is) c.requires.verdict) (subst (λ (o : CoreNow). c.told_of-told.result ≡ told_of o.facts c.args.v.now) (sym c.self.view_is) c.told_of-told.ensures)

pub invariant_of-self : goal.invariant_of-self
invariant_of-self g c = judged.keeps_answering _ _ _ _ c.self.invariant c.requires.refuses (subst (λ (o : CoreNow). c.told_of-told.result ≡ told_of o.facts c.args.v.now) (sym c.self.view_is) c.told_of-told.ensures) c.tell_if-aftermath.ensures.live

pub returns-clause-judged : goal.returns-clause-judged
returns-clause-judged g c = rw (← c.self.view_is)
    (judged.answers c.feed_laws.ensures.changes _ _ _ _ c.requires.refuses (subst (λ (o : CoreNow). c.told_of-told.result ≡ told_of o.facts c.args.v.now) (sym c.self.view_is) c.told_of-told.ensures) c.tell_if-aftermath.ensures.live)

pub returns-clause-word : goal.returns-clause-word
returns-clause-word g c =
    judged.word_stays _ _ _ _ _ _ c.self.invariant (subst (λ (o : CoreNow). IsVerdict c.args.v.now o) (sym c.self.view_is) c.requires.verdict) c.requires.refuses
    (subst (λ (o : CoreNow). c.told_of-told.result ≡ told_of o.facts c.args.v.now) (sym c.self.view_is) c.told_of-told.ensures) c.tell_if-aftermath.ensures.word c.tell_if-aftermath.ensures.kept
