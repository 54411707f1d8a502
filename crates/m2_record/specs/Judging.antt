-- What judging an ask of the peer leaves of a record. The answer is that of the session's tables (docs/PROTOCOL.md); the rest
-- is this project's own.
use Rattle.std.specs.Prelude.{◌≡◌, ℕ, ◌<◌, ◌≤◌, ◌&&◌, true, false, List, [], ◌∷◌, ◌++◌, length, IfSome, IsSome}
use Rattle.std.specs.List.{AllByRecursion}
use Rattle.std.specs.Option.{is_none}
use Rattle.m2_handshake.specs.m2_control.declared.fields.TheConstants.{GREATEST_NUMBER}
use Rattle.m2_core.specs.LiveNow as live
use Rattle.m2_core.specs.Effects.{closed_if, effects_of}
use Rattle.m2_core.specs.Waits.{stepped}
use Rattle.m2_core.specs.Judging.{judgement_of, told_of}
use Rattle.m2_core.specs.TakingOver.{IsTakenFeed, after_answering, after_taking}
use Rattle.m2_core.specs.declared.verdict.Verdict.{Verdict}
use Rattle.m2_fabric.specs.declared.socket.SocketId.{SocketId}
use Rattle.m2_fabric.specs.End.{SeenEnd}
use Rattle.m2_fabric.specs.Sockets.{IsNewTo}
use Rattle.m2_feed.specs.FeedNow.{FeedNow}
use Rattle.m2_journal.specs.declared.entry.Entry.{Entry}
use Rattle.m2_journal.specs.declared.entry.Entry.TheVariants as entry
use Rattle.m2_journal.specs.Lawful.{judged_on, may_ask_again}
use Rattle.m2_session.specs.declared.answer.Answer.{Answer}
use Rattle.m2_session.specs.declared.event.Effects.{Effects}
use Rattle.m2_session.specs.SessionLaws.{takes}
use Rattle.m2_shared.specs.Gates.{Gate, held}
use Rattle.m2_shared.specs.declared.peer_grants.PeerGrants.{PeerGrants}
use Rattle.m2_trail.specs.Asks.{AgreesWith}
use Rattle.m2_trail.specs.Incoming.{IncomingNow, after_judging}
use Rattle.m2_trail.specs.Trails.{IsTakenTrail, IsWholeTrail, TrailNow, unread_of}
use Rattle.m2_record.specs.Calls.{CountsResumption, IsSameButRoom, left_by}
use Rattle.m2_record.specs.RecordNow.{RecordNow, ends_of, ids_of}
use Rattle.m2_record.specs.declared.judging.Judged.{Judged}
use Rattle.m2_record.specs.declared.judging.Judged.TheVariants as judged
use Rattle.m2_record.specs.TakenTrails.{judgements_in}

-- ---- when an arrival may be judged

-- a socket of which the record has no end, and on which no answer was the last
pub record CanAskOn (socket : SocketId) (r : RecordNow) : Type 0 where
  pub new : IsNewTo (ids_of (ends_of r)) socket
  pub again : AllByRecursion (λ i. may_ask_again i.answer ≡ true) (judged_on socket (judgements_in r.journal))

-- It isn't judged, and its ask says the same of the session as the record's policy. Its half named the kind of this node. The
-- record has no end of its socket, and has judged of it just what its trail says. The number wasn't used.
pub record CanBeJudged (a : IncomingNow) (number : ℕ) (r : RecordNow) : Type 0 where
  pub unjudged : a.is_judged ≡ false
  pub agrees : IfSome a.ask (AgreesWith r.core.facts.policy)
  pub entity : a.trail.entity ≡ r.core.facts.node.entity
  pub new : IsNewTo (ids_of (ends_of r)) a.end.id
  pub judged : a.trail.judged ≡ judged_on a.end.id (judgements_in r.journal)
  pub from : r.core.top < number
  pub to : number ≤ GREATEST_NUMBER

-- ---- the entry

abbrev pub judged_entry : Verdict → SocketId → Entry
judged_entry v socket = entry.Judged socket v.ask v.number v.answer

abbrev pub with_judged : Verdict → SocketId → RecordNow → RecordNow
with_judged v socket r = record r { journal = r.journal ++ judged_entry v socket ∷ [] }

-- what the session's step at the answer does
abbrev pub effects_at : Verdict → RecordNow → Effects
effects_at v r = effects_of (told_of r.core.facts v) r.core.live.session

-- ---- an answer that takes no socket

-- The ask has its entry, and the session's step, where it is told of its answer, leaves what a step leaves: a feed that was
-- pending may be closed.
abbrev pub after_answer : Verdict → SocketId → (now : ℕ) → RecordNow → RecordNow
after_answer v socket now r = record (left_by (effects_at v r) (with_judged v socket r)) {
  core = after_answering v r.core;
  waits = stepped r.core.facts.node now r.core.live.session.phase (after_answering v r.core).live.session.phase r.waits;
  held = r.held && is_none (closed_if (effects_at v r).close r.core.live.feed);
}

-- all but the room is so
abbrev pub Answers : Verdict → SocketId → (now : ℕ) → RecordNow → RecordNow → Type 0
Answers v socket now old new = new ≡ record (after_answer v socket now old) { room = new.room }

-- ---- an answer that takes the socket

-- what a record takes of a half: its end, the bytes that it had left unread, and its trail
pub record TakenHalf : Type 0 where
  pub end : SeenEnd
  pub unread : List ℕ
  pub trail : TrailNow

-- that of an arrival whose ask was answered so
abbrev pub half_of : Answer → IncomingNow → TakenHalf
half_of answer a =
    let trail = (after_judging answer a.room a).trail in
    record { end = a.end; unread = unread_of trail a.end.log; trail = trail }

-- The ask has its entry. The old feed's end is closed and is the last of those that were the feed; this half's end is the
-- feed, and its trail is the last.
abbrev pub after_taking_over : Verdict → TakenHalf → FeedNow → (now : ℕ) → RecordNow → RecordNow
after_taking_over v h d now r = record (left_by (effects_at v r) (with_judged v h.end.id r)) {
  core = after_taking v d r.core;
  trails = r.trails ++ h.trail ∷ [];
  waits = stepped r.core.facts.node now r.core.live.session.phase (after_taking v d r.core).live.session.phase r.waits;
  held = false;
}

-- the feed is this half's end, with the bytes that it had left unread; all but the room is so
abbrev pub TakesOver : Verdict → TakenHalf → (now : ℕ) → RecordNow → RecordNow → Type 0
TakesOver v h now old new =
    IfSome new.core.live.feed (λ d. IsTakenFeed v h.end h.unread old.core d × (new ≡ record (after_taking_over v h d now old) { room = new.room }))
    × IsSome new.core.live.feed

-- And then what the ask acknowledges is counted: so its entry stands behind that of the ask, and behind that of the old feed where
-- there was one. An ident acknowledges nothing.
pub record TakesAndCounts (v : Verdict) (h : TakenHalf) (now : ℕ) (old new : RecordNow) : Type 0 where
  pub taken : RecordNow
  pub over : TakesOver v h now old taken
  pub counts : CountsResumption taken new

-- its end is open, and all that was done there is in its trail
pub record IsWholeHalf (h : TakenHalf) : Type 0 where
  pub unclosed : h.end.log.closed ≡ false
  pub whole : IsWholeTrail h.trail h.end
  pub taken : IsTakenTrail h.trail h.end.log
  pub unread : h.unread ≡ unread_of h.trail h.end.log
  pub read : length h.unread ≤ length h.end.log.got

-- It named the kind of this node. The record has no end of its socket; and what was judged of it is what the record has judged
-- there, and then this ask.
pub record CanBeTaken (v : Verdict) (h : TakenHalf) (r : RecordNow) : Type 0 where
  pub socket : CanAskOn h.end.id r
  pub entity : h.trail.entity ≡ r.core.facts.node.entity
  pub judged : h.trail.judged ≡ judged_on h.end.id (judgements_in r.journal) ++ judgement_of v ∷ []

-- ---- by the answer

-- Taken: the half's socket is the feed, and what the ask acknowledges is counted. Back: the arrival comes back, with its ask
-- judged, and nothing is counted. NoMemory: it comes back, and all but room is as before.
abbrev pub JudgesAs : {E : Type 0} → Judged E → Verdict → IncomingNow → (now : ℕ) → RecordNow → RecordNow → Type 0
JudgesAs (judged.Taken answer) v a now old new = (answer ≡ v.answer) × (takes answer ≡ true) × TakesAndCounts v (half_of answer a) now old new
JudgesAs (judged.Back answer arrival) v a now old new =
    (answer ≡ v.answer) × (takes answer ≡ false) × (arrival ≡ after_judging answer arrival.room a) × Answers v a.end.id now old new
JudgesAs (judged.NoMemory arrival) v a now old new = (arrival ≡ record a { room = arrival.room }) × IsSameButRoom old new

-- what is given back: where the socket is taken, what was held for the old feed
abbrev pub given_back : {E : Type 0} → Judged E → (granted : PeerGrants) → Gate → ℕ
given_back (judged.Taken answer) granted gate = held granted gate
given_back _ granted gate = 0
