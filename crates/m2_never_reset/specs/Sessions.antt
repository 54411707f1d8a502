-- A session by its judgement tables, and what its answers are as steps of a link.
use Rattle.std.specs.Prelude.{◌≡◌, false}
use Rattle.m2_session.specs.declared.session.Session.{Session}
use Rattle.m2_session.specs.declared.session.Phase.TheVariants as phase
use Rattle.m2_session.specs.declared.answer.Answer.{Answer}
use Rattle.m2_session.specs.declared.answer.Answer.TheVariants as answer
use Rattle.m2_session.specs.Reconnect.{Reconnect}
use Rattle.m2_never_reset.specs.Roles.{Role}
use Rattle.m2_never_reset.specs.Asks.{Ident, by_ident, by_reconnect, reset, retry, wait}
use Rattle.m2_never_reset.specs.Link.{Stand, absent, Node}
use Rattle.m2_never_reset.specs.Steps.{HasLeft, Accepts, Resumes, MayRefuse}

-- the session that a node keeps, where it isn't lossy
pub record IsKept (p : Role) (x : Node) (s : Stand) (session : Session) : Type 0 where
  pub policy : p.policy ≡ session.policy
  pub lossless : p.policy.lossy ≡ false
  pub client : x.client ≡ session.client_cookie
  pub server : x.server ≡ session.server_cookie
  pub peer_global : x.peer_global ≡ session.peer_global
  pub absent : session.phase ≡ phase.Absent → s ≡ absent

-- An ident is accepted or refused as the steps allow, or its socket is closed without a word.
abbrev pub IsIdentStep : Role → Node → Stand → Ident → Answer → Type 0
IsIdentStep p x s i answer.Accept = Accepts p x s i false
IsIdentStep p x s i answer.AcceptOver = Accepts p x s i false
IsIdentStep p x s i (answer.AcceptReset full) = Accepts p x s i full
IsIdentStep p x s i answer.AcceptAgain = Accepts p x s i false
IsIdentStep p x s i answer.AcceptReplace = Accepts p x s i false
IsIdentStep p x s i answer.AcceptRace = Accepts p x s i false
IsIdentStep p x s i answer.Wait = MayRefuse p x s (by_ident i) wait
IsIdentStep p x s i answer.Close = Unit {0}
IsIdentStep p x s i _ = ⊥

-- A reconnect likewise. A side that answers ResetPending has left its own socket first.
abbrev pub IsReconnectStep : Role → Node → Stand → Reconnect → Answer → Type 0
IsReconnectStep p x s r answer.Resume = Resumes x r
IsReconnectStep p x s r (answer.Reset full) = MayRefuse p x s (by_reconnect r) (reset full)
IsReconnectStep p x s r answer.ResetPending = (u : Stand) → HasLeft u → MayRefuse p x u (by_reconnect r) (reset false)
IsReconnectStep p x s r (answer.RetryGlobal number) = MayRefuse p x s (by_reconnect r) retry
IsReconnectStep p x s r (answer.Retry number) = MayRefuse p x s (by_reconnect r) retry
IsReconnectStep p x s r answer.Wait = MayRefuse p x s (by_reconnect r) wait
IsReconnectStep p x s r answer.Close = Unit {0}
IsReconnectStep p x s r _ = ⊥
