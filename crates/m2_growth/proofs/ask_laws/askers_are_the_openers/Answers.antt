-- The law is proved of every record.
use Rattle.m2_growth.proofs.Records.{askers_are}
use Rattle.m2_growth.proofs.ask_laws.askers_are_the_openers.Goals as goal

pub returns : goal.returns
returns c = askers_are
