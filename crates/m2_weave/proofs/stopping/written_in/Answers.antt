-- On the other side nothing was written at this end.
use Rattle.std.proofs.Common.{◌≡◌, ◌∙◌, Bool, false, sym, ap, take}
use Rattle.std.specs.Prelude.{if◌then◌else◌}
use Rattle.m2_weave.specs.Strands.{has_opened, same_side, strand_now, total, written_by}
use Rattle.m2_weave.proofs.Tallies.{written_so}
use Rattle.m2_weave.proofs.stopping.written_in.Goals as goal

pub returns : goal.returns
returns c =
    let off : same_side (has_opened (strand_now c.args.s.now) c.args.k.now) c.args.opener ≡ false =
    ap (λ b. same_side b c.args.opener) (sym c.has_opened-is_opener.ensures) ∙ sym c.is_same_side.ensures ∙ c.if-is_same_side.false in
    let first = take c.args.n (strand_now c.args.s.now).items in
    sym (written_so (record { socket = c.args.k.now; opener = c.args.opener }) (strand_now c.args.s.now) first
    ∙ ap (λ (b : Bool). if b then total (written_by c.args.k.now) first else 0) off)
