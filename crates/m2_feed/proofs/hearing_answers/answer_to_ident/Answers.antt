use Rattle.std.proofs.Common.{Some, refl, sym, ap, ◌∙◌}
use Rattle.m2_frame.specs.View.{parts_seen}
use Rattle.m2_session.specs.declared.session.Phase.TheVariants as phase
use Rattle.m2_frame.specs.declared.tag.Tag.TheVariants as tag
use Rattle.m2_feed.proofs.Payloads.{heard_as}
use Rattle.m2_feed.proofs.hearing_answers.answer_to_ident.Goals as goal

pub returns-in-Some-IdentMissingFeatures-clause-exact : goal.returns-in-Some-IdentMissingFeatures-clause-exact
returns-in-Some-IdentMissingFeatures-clause-exact c =
    heard_as c.args.peer.now c.args.policy.now phase.IdentSent tag.IdentMissingFeatures (parts_seen c.args.frame.now) c.in_plain.result
    (sym c.of.ensures.is ∙ c.in-Some-IdentMissingFeatures.is ∙ ap Some c.in-Some-IdentMissingFeatures.field-0-is) refl
    (c.in_plain.ensures.exact c.args.peer.now c.args.policy.now)
