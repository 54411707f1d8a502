use Rattle.m2_queues.proofs.Unsent.{next-is_at_cursor, keeps_numbers-next}
use Rattle.m2_queues.proofs.queue_laws.next_is_at_the_cursor.Goals as goal

pub returns-clause-number : goal.returns-clause-number
returns-clause-number c q number answered = next-is_at_cursor q number answered

pub returns-clause-stays : goal.returns-clause-stays
returns-clause-stays c q = keeps_numbers-next q
