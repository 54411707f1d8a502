use Rattle.m2_feed.proofs.AnswersHeard.{are_heard}
use Rattle.m2_feed.proofs.answer_laws.frames_are_heard_as_in_the_replay.Goals as goal

pub returns : goal.returns
returns c = are_heard
