-- What is read can be written.
use Rattle.std.proofs.Common.{ℕ, List, subst}
use Rattle.m2_addr.specs.declared.addr.AnyAddr.{AnyAddr}
use Rattle.m2_addr.specs.Addr as address
use Rattle.m2_addr.proofs.Shape.{bare_twice, formed}
use Rattle.m2_control.specs.declared.control.Control.{Control}
use Rattle.m2_control.specs.declared.control.Control.TheVariants as control
use Rattle.m2_control.specs.Control.{Spells, IsWritable, bare}

pub writable : (c : Control) (text : List ℕ) → Spells (bare c) text → IsWritable c
writable (control.Hello p) text (prefix, back, _, is, _) = formed p.seen back (subst (λ (a : AnyAddr). address.IsAddress a back) (bare_twice p.seen) is)
writable (control.AuthRequest p) text (_, _, _, (_, _, modes, payload, _), _) = (modes.0, payload.0)
writable (control.AuthBadMethod p) text (_, _, _, (_, _, _, (_, _, methods, modes, _), _), _) = (methods.0, modes.0)
writable (control.AuthDone p) text (_, _, _, (_, _, _, payload, _), _) = payload.0
writable (control.AuthSignature p) text (_, len) = len
writable (control.ClientIdent p) text is = tt
writable (control.ServerIdent p) text is = tt
writable (control.IdentMissingFeatures p) text is = tt
writable (control.SessionReconnect p) text is = tt
writable (control.SessionReset p) text is = tt
writable (control.SessionRetry p) text is = tt
writable (control.SessionRetryGlobal p) text is = tt
writable (control.SessionReconnectOk p) text is = tt
writable (control.Wait p) text is = tt
writable (control.Keepalive p) text is = tt
writable (control.KeepaliveAck p) text is = tt
writable (control.Ack p) text is = tt
