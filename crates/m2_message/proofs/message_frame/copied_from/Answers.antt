use Rattle.m2_frame.specs.View.{parts_seen}
use Rattle.m2_message.proofs.Carried.{message_in-copied}
use Rattle.m2_message.proofs.message_frame.copied_from.Goals as goal

pub returns-clause-computed : goal.returns-clause-computed
returns-clause-computed c =
    message_in-copied (parts_seen c.args.f.now) c.whole_header-header.result _ _ _ c.whole_header-header.ensures.fields c.whole_header-header.ensures.text
    c.in_ok-of.ensures c.in_ok-of-2.ensures c.in_ok-of-3.ensures
