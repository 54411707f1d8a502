-- The law is proved of every record.
use Rattle.m2_growth.proofs.Records.{asks_are}
use Rattle.m2_growth.proofs.ask_laws.asks_are_the_openers.Goals as goal

pub returns : goal.returns
returns c = asks_are
