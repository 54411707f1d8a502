-- The law is proved of every record.
use Rattle.m2_growth.proofs.Records.{arrivals_are}
use Rattle.m2_growth.proofs.ask_laws.arrivals_are_the_openers.Goals as goal

pub returns : goal.returns
returns c = arrivals_are
