-- The lemma.
use Rattle.m2_promise.proofs.Calls.{all_noted}
use Rattle.m2_promise.proofs.post_laws.deeds_note_calls.Goals as goal

pub returns : goal.returns
returns g c = λ heard ds old new ends was. all_noted _ heard ds old new ends was
