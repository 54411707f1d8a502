use Rattle.std.proofs.Common.{◌≡◌, ℕ, sym, subst}
use Rattle.m2_core.specs.LiveCalls.{with_taken}
use Rattle.m2_core.specs.CoreNow.{CoreNow}
use Rattle.m2_core.specs.Judging.{IsVerdict, acceptance_text, told_of}
use Rattle.m2_core.proofs.Judged as judged
use Rattle.m2_core.proofs.side.Core.take_over.Goals as goal

pub take-aftermath-requires-clause-lawful : goal.take-aftermath-requires-clause-lawful
take-aftermath-requires-clause-lawful g c =
    judged.lawful _ _ _ (subst (λ (o : CoreNow). IsVerdict c.args.v.now o) (sym c.self.view_is) c.requires.verdict) (subst (λ (o : CoreNow). c.told_of-told.result ≡ told_of o.facts c.args.v.now) (sym c.self.view_is) c.told_of-told.ensures)

pub take-aftermath-requires-clause-follower : goal.take-aftermath-requires-clause-follower
take-aftermath-requires-clause-follower g c =
    judged.follows _ _ _ (subst (λ (o : CoreNow). IsVerdict c.args.v.now o) (sym c.self.view_is) c.requires.verdict) (subst (λ (o : CoreNow). c.told_of-told.result ≡ told_of o.facts c.args.v.now) (sym c.self.view_is) c.told_of-told.ensures)

pub invariant_of-self : goal.invariant_of-self
invariant_of-self g c =
    judged.keeps_taking _ _ _ _ _ _ _ c.self.invariant (subst (λ (o : CoreNow). IsVerdict c.args.v.now o) (sym c.self.view_is) c.requires.verdict) c.requires.takes
    (subst (λ (o : CoreNow). c.told_of-told.result ≡ told_of o.facts c.args.v.now) (sym c.self.view_is) c.told_of-told.ensures)
    (judged.as_taken _ _ _ _ _ _ c.requires.ungranted (subst (λ (o : CoreNow). c.args.acceptance.bytes ≡ acceptance_text o.facts c.args.v.now o.live.last) (sym c.self.view_is) c.requires.text) c.taken_over-feed.ensures)
    (subst (λ (n : ℕ). c.take-aftermath.new.self ≡ with_taken c.told_of-told.result c.taken_over-feed.result n c.self.inside.live) c.resumed_by_ask.ensures c.take-aftermath.ensures.live)

pub returns-clause-value : goal.returns-clause-value
returns-clause-value g c = rw (← c.self.view_is)
    (judged.takes_value _ _ _ _ _ _ _ c.self.invariant (subst (λ (o : CoreNow). c.told_of-told.result ≡ told_of o.facts c.args.v.now) (sym c.self.view_is) c.told_of-told.ensures)
    (judged.as_taken _ _ _ _ _ _ c.requires.ungranted (subst (λ (o : CoreNow). c.args.acceptance.bytes ≡ acceptance_text o.facts c.args.v.now o.live.last) (sym c.self.view_is) c.requires.text) c.taken_over-feed.ensures)
    (subst (λ (n : ℕ). c.take-aftermath.new.self ≡ with_taken c.told_of-told.result c.taken_over-feed.result n c.self.inside.live) c.resumed_by_ask.ensures c.take-aftermath.ensures.live))

pub returns-clause-judged : goal.returns-clause-judged
returns-clause-judged g c = rw (← c.self.view_is)
    (judged.takes_over c.a_feed_begins_beside_its_replay.ensures.takes_over _ _ _ _ _ _ _
    (subst (λ (o : CoreNow). IsVerdict c.args.v.now o) (sym c.self.view_is) c.requires.verdict) c.requires.takes (subst (λ (o : CoreNow). c.told_of-told.result ≡ told_of o.facts c.args.v.now) (sym c.self.view_is) c.told_of-told.ensures)
    (judged.as_taken _ _ _ _ _ _ c.requires.ungranted (subst (λ (o : CoreNow). c.args.acceptance.bytes ≡ acceptance_text o.facts c.args.v.now o.live.last) (sym c.self.view_is) c.requires.text) c.taken_over-feed.ensures)
    (subst (λ (n : ℕ). c.take-aftermath.new.self ≡ with_taken c.told_of-told.result c.taken_over-feed.result n c.self.inside.live) c.resumed_by_ask.ensures c.take-aftermath.ensures.live))

pub returns-clause-word : goal.returns-clause-word
returns-clause-word g c = rw (← c.self.view_is) (c.take-aftermath.ensures.word
    (judged.closes_all _ _ _ (subst (λ (o : CoreNow). IsVerdict c.args.v.now o) (sym c.self.view_is) c.requires.verdict) c.requires.takes (subst (λ (o : CoreNow). c.told_of-told.result ≡ told_of o.facts c.args.v.now) (sym c.self.view_is) c.told_of-told.ensures)))

pub returns-clause-closed : goal.returns-clause-closed
returns-clause-closed g c = rw (← c.self.view_is)
    (judged.closes_old _ _ _ _ (subst (λ (o : CoreNow). IsVerdict c.args.v.now o) (sym c.self.view_is) c.requires.verdict) c.requires.takes
    (subst (λ (o : CoreNow). c.told_of-told.result ≡ told_of o.facts c.args.v.now) (sym c.self.view_is) c.told_of-told.ensures) c.take-aftermath.ensures.aftermath.end)
