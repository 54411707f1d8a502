use Rattle.std.proofs.Common.{◌≡◌, ◌∷◌, [], ℕ, List, ap, ◌∙◌, subst}
use Rattle.m2_control.specs.declared.control.Control.TheVariants as control
use Rattle.m2_control.specs.Fields.{listed}
use Rattle.m2_handshake.specs.declared.texts.TheConstants.{NONE, NOT_SUPPORTED}
use Rattle.m2_handshake.specs.Texts.{Adds, frame_text, bad_method}
use Rattle.m2_handshake.proofs.texts.put_bad_method.Goals as goal

pub returns : goal.returns
returns c =
    let same : frame_text (control.AuthBadMethod (record { method = c.args.method; outcome = NOT_SUPPORTED; methods = c.in_ok-only.field-0; modes = c.in_ok-only-2.field-0 })) ≡ frame_text (bad_method c.args.method) =
    ap (λ (l : List ℕ). frame_text (control.AuthBadMethod (record { method = c.args.method; outcome = NOT_SUPPORTED; methods = listed l; modes = c.in_ok-only-2.field-0 }))) c.in_ok-only.ensures
    ∙ ap (λ (l : List ℕ). frame_text (control.AuthBadMethod (record { method = c.args.method; outcome = NOT_SUPPORTED; methods = listed (NONE ∷ []); modes = listed l }))) c.in_ok-only-2.ensures in
    subst (λ (t : List ℕ). Adds c.put_frame.result c.args.out.now c.put_frame.new.out t) same c.put_frame.ensures
