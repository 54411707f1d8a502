-- There is a link on which both sides connect at once, one asks again, and its socket is taken over. This project's own.
use Rattle.std.specs.Prelude.{◌≡◌, ℕ, true, false, List, [], ◌∷◌, ◌++◌}
use Rattle.m2_bytes_fit.specs.Orders.{entries_of}
use Rattle.m2_channel.specs.Channel.{accept, acknowledge, dispatch, post}
use Rattle.m2_channel.specs.Observed.{Logs, observed}
use Rattle.m2_channel.specs.ObservedLaws.{AreLogs}
use Rattle.m2_channel.specs.m2_never_reset.Orders.{AreNodes}
use Rattle.m2_fabric.specs.declared.socket.SocketId.{SocketId}
use Rattle.m2_journal.specs.declared.entry.Entry.{Entry}
use Rattle.m2_journal.specs.declared.entry.Entry.TheVariants as entry
use Rattle.m2_journal.specs.m2_session.declared.answer.Answer.TheVariants.{Resume, Retry}
use Rattle.m2_journal.specs.m2_session.declared.ask.AskFacts.{AskFacts}
use Rattle.m2_message.specs.Message.{Content, with_numbers}
use Rattle.m2_policy.specs.declared.path.Key.{Key}
use Rattle.m2_history.specs.WovenLink.{AreUp, IsLink, IsOrderOf, LinkNow, order_of}

-- One with an order in which the near side's socket is closed behind some bytes of the first message; then it asks that the session go on,
-- when the far side has opened a socket of its own: it is told to ask again, and then the far side goes on over its socket and closes its
-- own. The message is accepted once, counted acknowledged and dispatched once, and nothing is reset.
pub record ACrossedLinkIsWoven : Type 0 where
  pub link : LinkNow
  pub order : List ℕ
  pub nodes : AreNodes (link.facts true) (link.facts false)
  pub is_link : IsLink link
  pub up : AreUp link
  pub is_order : IsOrderOf link order
  pub first : SocketId
  pub bytes : ℕ
  pub ahead : List Entry
  pub later : List Entry
  pub broke : link.both.a.journal ≡ ahead ++ entry.Numbered 1 ∷ entry.Wrote first bytes ∷ entry.Closed first ∷ later
  pub own : SocketId
  pub theirs : SocketId
  pub told : AskFacts
  pub again : AskFacts
  pub number : ℕ
  pub next : ℕ
  pub connect : ℕ
  pub before : List Entry
  pub behind : List Entry
  pub crossed : link.both.b.journal
      ≡ before ++ entry.Opened own ∷ entry.Judged theirs told number (Retry connect) ∷ entry.Judged theirs again next Resume ∷ entry.Closed own ∷ behind
  pub near_logs : Logs
  pub far_logs : Logs
  pub logs : AreLogs (link.facts true) (link.facts false) (entries_of (order_of link order)) near_logs far_logs
  pub key : Key
  pub message : Content
  pub shown : observed (link.facts true) (link.facts false) (entries_of (order_of link order)) far_logs
      ≡ post key message ∷ accept key (with_numbers 1 0 message) ∷ acknowledge 1 ∷ dispatch key message ∷ []
