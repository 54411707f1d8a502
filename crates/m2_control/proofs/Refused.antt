-- Tags that aren't negotiated have no fields.
use Rattle.std.proofs.Common.{refl}
use Rattle.m2_frame.specs.declared.tag.Tag.TheVariants as tag
use Rattle.m2_control.specs.Laws.{OthersAreRefused}

pub others_are_refused : OthersAreRefused
others_are_refused tag.Hello bytes h = cc
others_are_refused tag.AuthRequest bytes h = cc
others_are_refused tag.AuthBadMethod bytes h = cc
others_are_refused tag.AuthReplyMore bytes h = refl
others_are_refused tag.AuthRequestMore bytes h = refl
others_are_refused tag.AuthDone bytes h = cc
others_are_refused tag.AuthSignature bytes h = cc
others_are_refused tag.ClientIdent bytes h = cc
others_are_refused tag.ServerIdent bytes h = cc
others_are_refused tag.IdentMissingFeatures bytes h = cc
others_are_refused tag.SessionReconnect bytes h = cc
others_are_refused tag.SessionReset bytes h = cc
others_are_refused tag.SessionRetry bytes h = cc
others_are_refused tag.SessionRetryGlobal bytes h = cc
others_are_refused tag.SessionReconnectOk bytes h = cc
others_are_refused tag.Wait bytes h = cc
others_are_refused tag.Message bytes h = cc
others_are_refused tag.Keepalive bytes h = cc
others_are_refused tag.KeepaliveAck bytes h = cc
others_are_refused tag.Ack bytes h = cc
others_are_refused tag.CompressionRequest bytes h = refl
others_are_refused tag.CompressionDone bytes h = refl
