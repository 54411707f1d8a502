-- The laws of a center's parts. This project's own.
use Rattle.std.specs.Prelude.{◌≡◌, false, IsSome}
use Rattle.m2_fabric.specs.declared.socket.SocketId.{SocketId}
use Rattle.m2_fabric.specs.Sockets.{IsNewTo, same_socket}
use Rattle.m2_session.specs.declared.answer.Answer.{Answer}
use Rattle.m2_record.specs.declared.judging.Judged.{Judged}
use Rattle.m2_record.specs.declared.judging.Judged.TheVariants as judged
use Rattle.m2_record.specs.IsRecord.{IsRecord, named_in}
use Rattle.m2_record.specs.RecordNow.{RecordNow, ends_of, ids_of}
use Rattle.m2_record.specs.Stepping.{StepsAs, Worked}
use Rattle.m2_record.specs.declared.stepped.Stepped.{Stepped}
use Rattle.m2_trail.specs.Incoming.{IncomingNow}
use Rattle.m2_turn.specs.Answering.{IsKnown}
use Rattle.m2_turn.specs.Judging.{Judges, Judging}
use Rattle.m2_turn.specs.RecordTurn.{Means}
use Rattle.m2_turn.specs.Steps.{GoesOn, came_in}

-- No entry of a record names a socket that none has opened and on which none has judged, and none of its ends is that socket's.
abbrev pub RecordsKnowTheirSockets : Type 0
RecordsKnowTheirSockets = (r : RecordNow) → IsRecord r → (k : SocketId) → IsNewTo (came_in r.journal) k → IsNewTo (named_in r.journal) k × IsNewTo (ids_of (ends_of r)) k

-- by a step of a record no socket comes
abbrev pub StepsBringNoSocket : Type 0
StepsBringNoSocket = (answer : Stepped) (w : Worked) (old new : RecordNow) → StepsAs answer w old new → GoesOn old new

-- what a record knows of a half's socket stays so behind its steps
abbrev pub StepsKeepWhatIsKnown : Type 0
StepsKeepWhatIsKnown = (a : IncomingNow) (answer : Stepped) (w : Worked) (old new : RecordNow) → IsRecord old → IsRecord new → StepsAs answer w old new →
    IsKnown a old → IsKnown a new

-- so does it of a half whose ask it has judged and whose socket it didn't take
abbrev pub JudgingKeepsWhatIsKnown : Type 0 → Type 0
JudgingKeepsWhatIsKnown E = (answer : Answer) (arrival a : IncomingNow) (m : Means) (old new : Judging) → IsSome a.ask → IsRecord old.side → IsRecord new.side →
    IsKnown a old.side → Judges {E = E} (judged.Back answer arrival) a m old new → IsKnown arrival new.side

-- and of the other halves
abbrev pub JudgingKeepsOthers : Type 0 → Type 0
JudgingKeepsOthers E = (j : Judged E) (a b : IncomingNow) (m : Means) (old new : Judging) → IsSome a.ask → IsRecord old.side → IsRecord new.side →
    same_socket b.end.id a.end.id ≡ false → IsKnown b old.side → Judges j a m old new → IsKnown b new.side
