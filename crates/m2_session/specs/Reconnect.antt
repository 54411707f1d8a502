-- What a session answers to a SESSION_RECONNECT of its peer. The rows follow Ceph's ProtocolV2
-- (handle_reconnect); docs/PROTOCOL.md lays them out and says of each whose it is.
use Rattle.std.specs.Prelude.{ℕ, not, ◌&&◌, ◌==◌, List, [], ◌∷◌}
use Rattle.m2_addr.specs.Order.{is_below_in}
use Rattle.m2_session.specs.declared.session.Session.{Session}
use Rattle.m2_session.specs.declared.session.Phase.TheVariants.{Absent, Standby}
use Rattle.m2_session.specs.declared.answer.Answer.{Answer}
use Rattle.m2_session.specs.declared.answer.Answer.TheVariants.{Close, Wait, Reset, ResetPending, RetryGlobal, Retry, Resume}
use Rattle.m2_session.specs.Table.{Row, row, first_that_holds}
use Rattle.m2_session.specs.Phases.{is}
use Rattle.m2_session.specs.Conditions.{differs, is_above, is_kept}

-- what the ask carries: its cookies, its global number, its connect number, and the last message that the
-- peer has accepted
pub record Reconnect : Type 0 where
  pub client : ℕ
  pub server : ℕ
  pub global : ℕ
  pub connect : ℕ
  pub seen : ℕ

-- the names of the rows, in their order
pub data ReconnectRow : Type 0 where
  no_session : ReconnectRow
  another_client : ReconnectRow
  never_established : ReconnectRow
  another_server : ReconnectRow
  old_number : ReconnectRow
  old_connect : ReconnectRow
  mine_wins : ReconnectRow
  never_written : ReconnectRow

-- name, condition and answer of each; `written` is the greatest message number that this side has written
abbrev pub reconnect_rows : Session → Reconnect → ℕ → List (Row ReconnectRow Answer)
reconnect_rows s ask written =
    row no_session (is s.phase Absent) (Reset s.policy.resetcheck) ∷
    row another_client (differs s.client_cookie ask.client) (Reset s.policy.resetcheck) ∷
    row never_established (not (is_kept s.server_cookie)) ResetPending ∷
    row another_server (differs s.server_cookie ask.server) (Reset s.policy.resetcheck) ∷
    row old_number (is_above s.peer_global ask.global) (RetryGlobal s.peer_global) ∷
    row old_connect (is_above s.connect ask.connect) (Retry s.connect) ∷
    row mine_wins ((s.connect == ask.connect) && is_below_in s.rules.order s.mine s.peer && not s.policy.server && not (is s.phase Standby)) Wait ∷
    row never_written (is_above ask.seen written) Close ∷ []

-- otherwise the session goes on
abbrev pub reconnect_answer : Session → Reconnect → ℕ → Answer
reconnect_answer s ask written = first_that_holds (reconnect_rows s ask written) Resume
