use Rattle.std.proofs.Common.{◌∙◌, sym, string_bytes}
use Rattle.m2_cli.specs.Form.{is_dashes}
use Rattle.m2_cli.proofs.Cuts.{position_or_len-map, first_place}
use Rattle.m2_cli.proofs.dashes.dashes_at.Goals as goal

pub returns-clause-index : goal.returns-clause-index
returns-clause-index c =
    c.unwrap_or.ensures ∙ first_place (λ w. is_dashes (string_bytes w)) c.args.args.now c.first_dashes.result c.first_dashes.ensures.index
    ∙ sym (position_or_len-map is_dashes string_bytes c.args.args.now)
