use Rattle.m2_lives.proofs.Handing as handing
use Rattle.m2_lives.proofs.laws.logs_are_in_lives.Goals as goal

pub returns : goal.returns
returns c = handing.logs_are_in_lives c.each_key_keeps_its_order.ensures.whole
