use Rattle.m2_message.proofs.Carried.{message_in-carried, message_in-carries}
use Rattle.m2_message.proofs.Headers.{length-header_text, header_in-header_text, header_text-header_in}
use Rattle.m2_message.proofs.frame_laws.a_header_is_its_fields.Goals as goal

pub returns-clause-long : goal.returns-clause-long
returns-clause-long c = length-header_text

pub returns-clause-written : goal.returns-clause-written
returns-clause-written c = header_in-header_text

pub returns-clause-read : goal.returns-clause-read
returns-clause-read c = header_text-header_in

pub returns-clause-carried : goal.returns-clause-carried
returns-clause-carried c = message_in-carried

pub returns-clause-carries : goal.returns-clause-carries
returns-clause-carries c = message_in-carries
