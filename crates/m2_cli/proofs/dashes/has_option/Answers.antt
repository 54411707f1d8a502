use Rattle.std.proofs.Common.{◌∙◌, sym, string_bytes}
use Rattle.m2_cli.specs.Form.{is_option_word}
use Rattle.m2_cli.proofs.Cuts.{list_any-map}
use Rattle.m2_cli.proofs.dashes.has_option.Goals as goal

pub returns : goal.returns
returns c = c.any_option.ensures ∙ sym (list_any-map is_option_word string_bytes c.args.words.now)
