-- Each stage's pass is of its throttle.
use Rattle.m2_shared.specs.declared.stage.Stage.TheVariants.{Messages, Bytes, Dispatch}
use Rattle.m2_shared.proofs.grants.Grants.more.Goals as goal

pub ask-requires-clause-pass : goal.ask-requires-clause-pass
ask-requires-clause-pass c = c.requires.passes Messages

pub ask-requires-2-clause-pass : goal.ask-requires-2-clause-pass
ask-requires-2-clause-pass c = c.requires.passes Bytes

pub ask-requires-3-clause-pass : goal.ask-requires-3-clause-pass
ask-requires-3-clause-pass c = c.requires.passes Dispatch
