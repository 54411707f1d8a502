use Rattle.m2_script.proofs.Needs.{sendable}
use Rattle.m2_script.proofs.laws.short_posts_are_sendable.Goals as goal

pub returns : goal.returns
returns c = sendable
