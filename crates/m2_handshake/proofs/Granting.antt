-- A half that has signed stays as it is.
use Rattle.std.proofs.Common.{◌≡◌, true, ap, ◌∙◌}
use Rattle.m2_handshake.specs.Half.{StaysSigned}
use Rattle.m2_handshake.specs.Moves.{is_authed}
use Rattle.m2_handshake.specs.Standing.{HalfState}

-- one call after the other
pub signed_on : (a b c : HalfState) → StaysSigned a b → StaysSigned b c → StaysSigned a c
signed_on a b c h k q = k (ap (λ (s : HalfState). is_authed s.standing.stage) (h q) ∙ q) ∙ h q
