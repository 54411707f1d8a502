-- No two tags have one number.
use Rattle.std.proofs.Common.{◌≡◌, ℕ, eqb, cond, refl, sym, ap, ◌∙◌}
use Rattle.m2_frame.specs.declared.tag.Tag.{Tag}
use Rattle.m2_frame.specs.declared.tag.Tag.TheVariants as tag
use Rattle.m2_frame.specs.Tags.{tag_number}

numbered : ℕ → Tag
numbered n = cond (eqb n 1) tag.Hello (cond (eqb n 2) tag.AuthRequest (cond (eqb n 3) tag.AuthBadMethod (cond (eqb n 4) tag.AuthReplyMore (cond (eqb n 5) tag.AuthRequestMore (cond (eqb n 6) tag.AuthDone (cond (eqb n 7) tag.AuthSignature (cond (eqb n 8) tag.ClientIdent (cond (eqb n 9) tag.ServerIdent (cond (eqb n 10) tag.IdentMissingFeatures (cond (eqb n 11) tag.SessionReconnect (cond (eqb n 12) tag.SessionReset (cond (eqb n 13) tag.SessionRetry (cond (eqb n 14) tag.SessionRetryGlobal (cond (eqb n 15) tag.SessionReconnectOk (cond (eqb n 16) tag.Wait (cond (eqb n 17) tag.Message (cond (eqb n 18) tag.Keepalive (cond (eqb n 19) tag.KeepaliveAck (cond (eqb n 20) tag.Ack (cond (eqb n 21) tag.CompressionRequest (tag.CompressionDone)))))))))))))))))))))

number_back : (t : Tag) → numbered (tag_number t) ≡ t
unfolding numbered
number_back tag.Hello = refl
number_back tag.AuthRequest = refl
number_back tag.AuthBadMethod = refl
number_back tag.AuthReplyMore = refl
number_back tag.AuthRequestMore = refl
number_back tag.AuthDone = refl
number_back tag.AuthSignature = refl
number_back tag.ClientIdent = refl
number_back tag.ServerIdent = refl
number_back tag.IdentMissingFeatures = refl
number_back tag.SessionReconnect = refl
number_back tag.SessionReset = refl
number_back tag.SessionRetry = refl
number_back tag.SessionRetryGlobal = refl
number_back tag.SessionReconnectOk = refl
number_back tag.Wait = refl
number_back tag.Message = refl
number_back tag.Keepalive = refl
number_back tag.KeepaliveAck = refl
number_back tag.Ack = refl
number_back tag.CompressionRequest = refl
number_back tag.CompressionDone = refl

pub same_tag : (t s : Tag) → tag_number t ≡ tag_number s → t ≡ s
same_tag t s e = sym (number_back t) ∙ ap numbered e ∙ number_back s
