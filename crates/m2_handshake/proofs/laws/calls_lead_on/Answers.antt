use Rattle.m2_handshake.proofs.Reaching.{leads_on}
use Rattle.m2_handshake.proofs.laws.calls_lead_on.Goals as goal

pub returns : goal.returns
returns c = leads_on
