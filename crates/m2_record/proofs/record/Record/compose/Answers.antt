use Rattle.m2_record.proofs.Dues.{composing, none-composed}
use Rattle.m2_record.proofs.record.Record.compose.Goals as goal

pub ask-requires-clause-quiet : goal.ask-requires-clause-quiet
ask-requires-clause-quiet g c = (composing c.args.now c.args.self.now c.requires.due).1

pub ask-requires-clause-fits : goal.ask-requires-clause-fits
ask-requires-clause-fits g c = (composing c.args.now c.args.self.now c.requires.due).0

pub number-requires-clause-fits : goal.number-requires-clause-fits
number-requires-clause-fits g c = (composing c.args.now c.args.self.now c.requires.due).0

pub unreachable-requires : goal.unreachable-requires
unreachable-requires g c = none-composed c.args.now _ c.args.self.now c.to_compose.result c.self.invariant c.self.view_is c.requires.due c.to_compose.ensures c.in-None.is
