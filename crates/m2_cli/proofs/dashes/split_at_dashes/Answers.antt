use Rattle.std.proofs.Common.{◌∙◌, ◌+◌, ◌++◌, sym, ap, map, take, drop, List, ℕ, string_bytes}
use Rattle.std.specs.List.{list_any, drop-map}
use Rattle.std.proofs.lemmas.List.{take-map}
use Rattle.m2_cli.specs.Form.{is_option_word, form_among}
use Rattle.m2_cli.proofs.Cuts.{refused, taken}
use Rattle.m2_cli.proofs.dashes.split_at_dashes.Goals as goal

pub returns-then-has_option : goal.returns-then-has_option
returns-then-has_option c =
    let words = map string_bytes c.args.args.now in
    let cut = c.dashes_at-cut.result in
    sym (refused words cut c.dashes_at-cut.ensures.index
    (ap (list_any is_option_word) (take-map string_bytes cut c.args.args.now) ∙ sym c.has_option.ensures ∙ c.if-has_option.true))

pub returns : goal.returns
returns c =
    let words = map string_bytes c.args.args.now in
    let cut = c.dashes_at-cut.result in
    let before_is = take-map string_bytes cut c.args.args.now in
    let after_is = ap (map string_bytes) c.words_behind-after.ensures ∙ sym (drop-map string_bytes (cut + 1) c.args.args.now) in
    sym (ap (λ (ws : List (List ℕ)). form_among (map string_bytes (take cut c.args.args.now) ++ ws)) after_is
    ∙ ap (λ (ws : List (List ℕ)). form_among (ws ++ drop (cut + 1) words)) (sym before_is)
    ∙ taken words cut c.dashes_at-cut.ensures.index
    (ap (list_any is_option_word) before_is ∙ sym c.has_option.ensures ∙ c.if-has_option.false))
