use Rattle.m2_frame.proofs.Cutting.{text_stays, text_long, text_within, text-begun, fault_stays}
use Rattle.m2_frame.proofs.laws.no_text_begins_another.Goals as goal

pub returns-clause-stays : goal.returns-clause-stays
returns-clause-stays c = text_stays

pub returns-clause-within : goal.returns-clause-within
returns-clause-within c = text_within

pub returns-clause-fault : goal.returns-clause-fault
returns-clause-fault c = fault_stays

pub returns-clause-some : goal.returns-clause-some
returns-clause-some c = text_long

pub returns-clause-begun : goal.returns-clause-begun
returns-clause-begun c = text-begun
