use Rattle.m2_handshake.proofs.Staying.{stay, stay_asked, stay_on}
use Rattle.m2_handshake.proofs.laws.moves_stay.Goals as goal

pub returns-clause-moves : goal.returns-clause-moves
returns-clause-moves c = stay

pub returns-clause-asks : goal.returns-clause-asks
returns-clause-asks c = stay_asked

pub returns-clause-course : goal.returns-clause-course
returns-clause-course c = stay_on
