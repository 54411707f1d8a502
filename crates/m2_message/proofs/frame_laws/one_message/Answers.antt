use Rattle.m2_message.proofs.Carried.{Carries-once}
use Rattle.m2_message.specs.Message.{with_numbers}
use Rattle.m2_message.proofs.frame_laws.one_message.Goals as goal

pub returns-clause-once : goal.returns-clause-once
returns-clause-once c = Carries-once

pub returns-clause-comes_back : goal.returns-clause-comes_back
returns-clause-comes_back c f m n seq ack_seq put given = Carries-once f n (with_numbers seq ack_seq m) given put
