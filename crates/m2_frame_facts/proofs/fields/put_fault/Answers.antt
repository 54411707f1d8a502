use Rattle.m2_frame_facts.proofs.fields.put_fault.Goals as goal

pub returns-in-NoMemory : goal.returns-in-NoMemory
returns-in-NoMemory c = rw c.in-NoMemory.is c.put_fault_word-in-NoMemory.ensures
