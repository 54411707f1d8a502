use Rattle.m2_frame_facts.proofs.OfFrame.{messages_are_read_back, payloads_are_read_back}
use Rattle.m2_frame_facts.proofs.laws.facts_are_read_back.Goals as goal

pub returns-clause-messages : goal.returns-clause-messages
returns-clause-messages c = messages_are_read_back

pub returns-clause-payloads : goal.returns-clause-payloads
returns-clause-payloads c = payloads_are_read_back
