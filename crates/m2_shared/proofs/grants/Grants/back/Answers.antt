-- Each stage's pass and grant are of its throttle.
use Rattle.m2_shared.specs.declared.stage.Stage.TheVariants.{Messages, Bytes, Dispatch}
use Rattle.m2_shared.proofs.grants.Grants.back.Goals as goal

pub give-requires-clause-pass : goal.give-requires-clause-pass
give-requires-clause-pass c = c.requires.passes Messages

pub give-requires-clause-grant : goal.give-requires-clause-grant
give-requires-clause-grant c = c.requires.grants Messages

pub give-requires-2-clause-pass : goal.give-requires-2-clause-pass
give-requires-2-clause-pass c = c.requires.passes Bytes

pub give-requires-2-clause-grant : goal.give-requires-2-clause-grant
give-requires-2-clause-grant c = c.requires.grants Bytes

pub give-requires-3-clause-pass : goal.give-requires-3-clause-pass
give-requires-3-clause-pass c = c.requires.passes Dispatch

pub give-requires-3-clause-grant : goal.give-requires-3-clause-grant
give-requires-3-clause-grant c = c.requires.grants Dispatch
