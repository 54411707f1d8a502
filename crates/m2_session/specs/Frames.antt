-- The frame that is written for each answer. Which frame it is follows Ceph's ProtocolV2; what a SERVER_IDENT says of
-- its node is this project's profile.
use Rattle.std.specs.Prelude.{pos, Bool, true, false, if◌then◌else◌, [], ◌∷◌, Option, Some, None}
use Rattle.m2_addr.specs.declared.addr.AnyAddr.TheVariants.{V4}
use Rattle.m2_control.specs.declared.control.Control.{Control}
use Rattle.m2_control.specs.declared.control.Control.TheVariants as control
use Rattle.m2_control.specs.declared.server_ident.ServerIdent.{ServerIdent}
use Rattle.m2_session.specs.declared.answer.Answer.{Answer}
use Rattle.m2_session.specs.declared.answer.Answer.TheVariants as answer
use Rattle.m2_session.specs.declared.frame.Speaker.{Speaker}
use Rattle.m2_session.specs.declared.frame.Carried.{Carried}

abbrev pub server_ident : Speaker → Carried → ServerIdent
server_ident n c = record {
  addrs = V4 n.addr ∷ [];
  gid = pos n.place;
  global = c.global;
  supported = n.supports;
  required = n.requires_;
  flags = (if n.lossy then 1 else 0);
  cookie = c.cookie;
}

-- the answers that begin a new session
abbrev pub accepts : Answer → Bool
accepts answer.Accept = true
accepts answer.AcceptOver = true
accepts (answer.AcceptReset full) = true
accepts answer.AcceptAgain = true
accepts answer.AcceptReplace = true
accepts answer.AcceptRace = true
accepts _ = false

-- Close is said by closing
abbrev pub frame_of : Speaker → Carried → Answer → Option Control
frame_of n c answer.Accept = Some (control.ServerIdent (server_ident n c))
frame_of n c answer.AcceptOver = Some (control.ServerIdent (server_ident n c))
frame_of n c (answer.AcceptReset full) = Some (control.ServerIdent (server_ident n c))
frame_of n c answer.AcceptAgain = Some (control.ServerIdent (server_ident n c))
frame_of n c answer.AcceptReplace = Some (control.ServerIdent (server_ident n c))
frame_of n c answer.AcceptRace = Some (control.ServerIdent (server_ident n c))
frame_of n c answer.Close = None
frame_of n c answer.Wait = Some (control.Wait (record {}))
frame_of n c (answer.Reset full) = Some (control.SessionReset (record { full = full }))
frame_of n c answer.ResetPending = Some (control.SessionReset (record { full = false }))
frame_of n c (answer.RetryGlobal number) = Some (control.SessionRetryGlobal (record { global = number }))
frame_of n c (answer.Retry number) = Some (control.SessionRetry (record { connect = number }))
frame_of n c answer.Resume = Some (control.SessionReconnectOk (record { seen = c.last }))
