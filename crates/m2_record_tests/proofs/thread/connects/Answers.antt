use Rattle.m2_record_tests.proofs.thread.connects.Goals as goal

pub returns-clause-owned : goal.returns-clause-owned
returns-clause-owned g c = c.connect_if_due.ensures.owned _ c.requires.owned
