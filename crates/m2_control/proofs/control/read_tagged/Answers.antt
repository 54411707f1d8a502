use Rattle.m2_control.proofs.Whole.{result_found, result_only, result_writable}
use Rattle.m2_control.proofs.control.read_tagged.Goals as goal

pub returns-clause-found : goal.returns-clause-found
returns-clause-found c = result_found c.read_whole.result c.args.tag c.args.payload.now c.read_whole.ensures.bytes c.read_whole.ensures.exact

pub returns-clause-only : goal.returns-clause-only
returns-clause-only c = result_only c.read_whole.result c.args.tag c.args.payload.now c.read_whole.ensures.exact

pub returns-clause-writable : goal.returns-clause-writable
returns-clause-writable c = result_writable c.read_whole.result c.args.tag c.args.payload.now c.read_whole.ensures.bytes c.read_whole.ensures.exact
