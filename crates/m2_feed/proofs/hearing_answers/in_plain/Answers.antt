use Rattle.std.proofs.Common.{sym, ◌∙◌, arith}
use Rattle.m2_feed.proofs.Payloads.{bounded, no_ident}
use Rattle.m2_feed.proofs.hearing_answers.in_plain.Goals as goal

pub in_control-requires : goal.in_control-requires
in_control-requires c = no_ident c.args.tag c.args.payload.now c.in-Ok.c c.requires (sym c.read_plain.ensures ∙ c.in-Ok.is)

pub returns-in-Ok-clause-bounded : goal.returns-in-Ok-clause-bounded
returns-in-Ok-clause-bounded c =
    bounded c.args.tag c.args.payload.now c.in-Ok.c c.in_control.result (λ i. omega (arith, c.type_inv.payload i)) (sym c.read_plain.ensures ∙ c.in-Ok.is) c.in_control.ensures
