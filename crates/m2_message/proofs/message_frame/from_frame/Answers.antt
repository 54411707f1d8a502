use Rattle.std.proofs.Common.{◌≡◌, length, sym, ap, ◌∙◌}
use Rattle.m2_frame.specs.Frame.{parts}
use Rattle.m2_message.proofs.Carried.{Carries-len, message_in-carried, message_in-copied}
use Rattle.m2_message.proofs.Headers.{length-header_text}
use Rattle.m2_message.proofs.message_frame.from_frame.Goals as goal

pub returns-in-Err-clause-only : goal.returns-in-Err-clause-only
returns-in-Err-clause-only c m carried = absurd (c.in-Err.ensures (ap length c.as_slice.ensures ∙ Carries-len (parts c.args.f) m carried))

pub returns-clause-computed : goal.returns-clause-computed
returns-clause-computed c =
    message_in-copied (parts c.args.f) c.in-Ok.header _ _ _ c.in-Ok.ensures.0 (sym c.as_slice.ensures ∙ c.in-Ok.ensures.1)
    c.in_ok-from_blob.ensures c.in_ok-from_blob-2.ensures c.in_ok-from_blob-3.ensures

pub returns-clause-only : goal.returns-clause-only
returns-clause-only c m carried = returns-clause-computed c ∙ sym (message_in-carried (parts c.args.f) m carried)

pub returns-clause-bad_header : goal.returns-clause-bad_header
returns-clause-bad_header c =
    let whole : length c.args.f.first.bytes ≡ 41 = ap length (sym c.as_slice.ensures ∙ c.in-Ok.ensures.1) ∙ length-header_text c.in-Ok.header in
    (λ e. cc, λ differs. absurd (differs whole))
