use Rattle.m2_queues.proofs.Histories.{holds, numbers_are_places}
use Rattle.m2_queues.proofs.queue_laws.each_number_is_a_place.Goals as goal

pub returns : goal.returns
returns c keeps calls number past = numbers_are_places _ number (holds keeps calls) past
