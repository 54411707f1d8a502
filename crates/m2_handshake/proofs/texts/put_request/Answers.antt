use Rattle.std.proofs.Common.{◌≡◌, ◌∷◌, [], ℕ, List, ap, ◌∙◌, subst}
use Rattle.m2_control.specs.declared.control.Control.TheVariants as control
use Rattle.m2_control.specs.Fields.{blob, listed}
use Rattle.m2_handshake.specs.declared.texts.TheConstants.{NONE, CRC}
use Rattle.m2_handshake.specs.Texts.{Adds, frame_text, request}
use Rattle.m2_handshake.proofs.texts.put_request.Goals as goal

pub returns : goal.returns
returns c =
    let same : frame_text (control.AuthRequest (record { method = NONE; modes = c.in_ok-only.field-0; payload = c.in_ok-auth_payload.field-0 })) ≡ frame_text (request c.args.auth) =
    ap (λ (l : List ℕ). frame_text (control.AuthRequest (record { method = NONE; modes = listed l; payload = c.in_ok-auth_payload.field-0 }))) c.in_ok-only.ensures
    ∙ ap (λ (b : List ℕ). frame_text (control.AuthRequest (record { method = NONE; modes = listed (CRC ∷ []); payload = blob b }))) c.in_ok-auth_payload.ensures.exact in
    subst (λ (t : List ℕ). Adds c.put_frame.result c.args.out.now c.put_frame.new.out t) same c.put_frame.ensures
