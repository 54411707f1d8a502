-- What a reader expects of trails and of the asks in them.
use Rattle.std.specs.Prelude.{◌≡◌, ◌≢◌, ℕ, ◌≤◌, false, length}
use Rattle.std.specs.List.{AllByRecursion}
use Rattle.std.specs.Option.{option_to_list}
use Rattle.m2_session.specs.declared.ask.AskFacts.{AskFacts}
use Rattle.m2_session.specs.declared.frame.Carried.{Carried}
use Rattle.m2_session.specs.declared.frame.Speaker.{Speaker}
use Rattle.m2_session.specs.Frames.{frame_of}
use Rattle.m2_control.specs.declared.fields.TheConstants.{GREATEST_NUMBER}
use Rattle.m2_control.specs.Laws.{IsInBounds}
use Rattle.m2_fabric.specs.Log.{Log}
use Rattle.m2_fabric.specs.End.{SeenEnd}
use Rattle.m2_handshake.specs.declared.ask.Ask.{Ask}
use Rattle.m2_handshake.specs.Course.{Exchange, Reaches}
use Rattle.m2_handshake.specs.Greeting.{control_of}
use Rattle.m2_handshake.specs.Laws.{IsPrefix}
use Rattle.m2_handshake.specs.Standing.{Standing, acceptor_at_start}
use Rattle.m2_handshake.specs.Texts.{IsReply}
use Rattle.m2_addr.specs.declared.addr.Addr.{Addr}
use Rattle.m2_journal.specs.declared.entry.JudgedItem.{JudgedItem}
use Rattle.m2_journal.specs.Lawful.{IsReadable}
use Rattle.m2_journal.specs.SideFacts.{SideFacts}
use Rattle.m2_session.specs.declared.answer.Answer.{Answer}
use Rattle.m2_session.specs.SessionLaws.{takes}
use Rattle.m2_trail.specs.Asks.{facts_of_ask, AgreesWith}
use Rattle.m2_trail.specs.Replies.{reply_to}
use Rattle.m2_trail.specs.Trails.{TrailNow, IsTakenTrail, IsTrailOf, IsWholeTrail, runs_of, read_by, written_by, unread_of}

-- ---- asks

-- what every ask that was read keeps of its numbers: they are at most the greatest, and a reconnect names a session
pub record HasNumbers (a : AskFacts) : Type 0 where
  pub global : a.global ≤ GREATEST_NUMBER
  pub connect : a.connect ≤ GREATEST_NUMBER
  pub seen : a.seen ≤ GREATEST_NUMBER
  pub reconnect : a.ident ≡ false → (a.client ≢ 0) × (a.server ≢ 0)

-- An acceptor's asks keep the bounds of their fields; so one that says the same of the session as a policy can be read by
-- it; and so the numbers of a trail's judged asks are bounded.
pub record AsksCanBeRead : Type 0 where
  pub bounded : (entity : ℕ) (seen : Addr) (x : Exchange) (s : Standing) →
      Reaches (acceptor_at_start entity seen) x s → AllByRecursion (λ ask. IsInBounds (control_of ask)) x.asks
  pub readable : (f : SideFacts) (ask : Ask) → IsInBounds (control_of ask) → AgreesWith f.policy ask → IsReadable f (facts_of_ask ask)
  pub judged : (t : TrailNow) (log : Log) → IsTrailOf t log → AllByRecursion (λ (i : JudgedItem). HasNumbers i.ask) t.judged

-- ---- replies

-- The reply to an answer that takes no socket is its frame, whoever speaks; and each reply is one that a half may give.
pub record RepliesAreFrames : Type 0 where
  pub frames : (node : Speaker) (carried : Carried) (answer : Answer) → takes answer ≡ false →
      option_to_list (frame_of node carried answer) ≡ reply_to answer
  pub replies : (answer : Answer) → AllByRecursion IsReply (reply_to answer)

-- ---- trails beside logs that grow

-- the bytes go on as they were
pub record GoesOn (old new : Log) : Type 0 where
  pub got : IsPrefix old.got new.got
  pub put : IsPrefix old.put new.put

-- the trail speaks of no more than the log has
pub record IsWithin (t : TrailNow) (log : Log) : Type 0 where
  pub got : read_by (runs_of t) ≤ length log.got
  pub put : written_by (runs_of t) ≤ length log.put

-- As the log of an end grows, its trail is still one, what its half left unread is the same, and a half that was taken was so.
pub record TrailsStay : Type 0 where
  pub facts : (t : TrailNow) (old new : Log) → IsWithin t old → GoesOn old new → IsTrailOf t old → IsTrailOf t new
  pub unread : (t : TrailNow) (old new : Log) → IsWithin t old → GoesOn old new → unread_of t new ≡ unread_of t old
  pub taken : (t : TrailNow) (old new : Log) → IsWithin t old → GoesOn old new → IsTakenTrail t old → IsTakenTrail t new

-- The runs of the trail of an end that no record took are those of its log, to the last byte.
pub record TrailsCover : Type 0 where
  pub runs : (t : TrailNow) (end : SeenEnd) → IsWholeTrail t end → runs_of t ≡ end.log.runs
  pub within : (t : TrailNow) (end : SeenEnd) → IsWholeTrail t end → IsWithin t end.log
