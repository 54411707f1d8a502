-- What an answer to an ask of the peer leaves of a core, and of a socket that it takes. This project's own.
use Rattle.std.specs.Prelude.{◌≡◌, ℕ, false, List}
use Rattle.m2_fabric.specs.declared.socket.SocketId.{SocketId}
use Rattle.m2_fabric.specs.End.{SeenEnd}
use Rattle.m2_feed.specs.Calls.{at_acceptance}
use Rattle.m2_feed.specs.FeedNow.{FeedNow}
use Rattle.m2_journal.specs.declared.entry.JudgedItem.{JudgedItem}
use Rattle.m2_core.specs.LiveCalls.{resumed_by_ask, tells_if, with_taken}
use Rattle.m2_core.specs.declared.verdict.Verdict.{Verdict}
use Rattle.m2_core.specs.Agrees.{LeadsOn}
use Rattle.m2_core.specs.CoreNow.{CoreNow}
use Rattle.m2_core.specs.Judging.{acceptance_text, entry_of, told_of}

-- it is the entry Judged, of this socket with these bytes
abbrev pub MakesJudgement : Verdict → SocketId → (unread : List ℕ) → CoreNow → CoreNow → Type 0
MakesJudgement v socket unread old new = (trail : List JudgedItem) → LeadsOn (entry_of v socket unread trail) old new

-- ---- an answer that takes no socket

abbrev pub after_answering : Verdict → CoreNow → CoreNow
after_answering v c = record c { live = tells_if (told_of c.facts v) c.live; top = v.number }

-- ---- an answer that takes the socket

abbrev pub after_taking : Verdict → FeedNow → CoreNow → CoreNow
after_taking v d c = record c {
  live = with_taken (told_of c.facts v) d (resumed_by_ask v.ask) c.live;
  dials = false;
  top = v.number;
}

-- the new feed: this end with the bytes that its half had left unread, and the text of the acceptance to be written
abbrev pub IsTakenFeed : Verdict → SeenEnd → (unread : List ℕ) → CoreNow → FeedNow → Type 0
IsTakenFeed v end unread c d = d ≡ at_acceptance end unread false (acceptance_text c.facts v c.live.last) d
