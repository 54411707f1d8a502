-- What a session answers to a CLIENT_IDENT of its peer. The rows follow Ceph's ProtocolV2 (handle_client_ident
-- and handle_existing_connection); docs/PROTOCOL.md lays them out and says of each whose it is.
use Rattle.std.specs.Prelude.{ℕ, ◌&&◌, ◌==◌, List, [], ◌∷◌}
use Rattle.m2_policy.specs.Race.{wins}
use Rattle.m2_session.specs.declared.session.Session.{Session}
use Rattle.m2_session.specs.declared.session.Phase.TheVariants.{Absent, Ready, Standby}
use Rattle.m2_session.specs.declared.answer.Answer.{Answer}
use Rattle.m2_session.specs.declared.answer.Answer.TheVariants.{Accept, AcceptOver, AcceptReset, AcceptAgain, AcceptReplace, AcceptRace, Close, Wait}
use Rattle.m2_session.specs.Table.{Row, row, first_that_holds}
use Rattle.m2_session.specs.Phases.{is, is_among}
use Rattle.m2_session.specs.Conditions.{differs, is_above, is_kept}

-- the names of the rows, in their order
pub data IdentRow : Type 0 where
  no_session : IdentRow
  old_number : IdentRow
  lossy : IdentRow
  another_client : IdentRow
  same_client : IdentRow
  settled : IdentRow
  peer_wins : IdentRow

-- name, condition and answer of each, for an ident with its client cookie and its global number
abbrev pub ident_rows : Session → ℕ → ℕ → List (Row IdentRow Answer)
ident_rows s cookie global =
    row no_session (is s.phase Absent) Accept ∷
    row old_number (is_above s.peer_global global) Close ∷
    row lossy s.policy.lossy AcceptOver ∷
    row another_client (is_kept s.client_cookie && is_kept s.server_cookie && differs s.client_cookie cookie) (AcceptReset s.policy.resetcheck) ∷
    row same_client (is_kept s.client_cookie && (s.client_cookie == cookie)) AcceptAgain ∷
    row settled (is_among s.phase (Ready ∷ Standby ∷ [])) AcceptReplace ∷
    row peer_wins (wins s.rules.order s.peer s.mine s.policy.server) AcceptRace ∷ []

-- otherwise this node has won the race
abbrev pub ident_answer : Session → ℕ → ℕ → Answer
ident_answer s cookie global = first_that_holds (ident_rows s cookie global) Wait
