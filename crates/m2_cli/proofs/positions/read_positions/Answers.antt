use Rattle.std.proofs.Common.{◌≡◌, ◌∷◌, ◌∙◌, ap, codes, drop, map, sym, subst, List, Option}
use Rattle.std.proofs.lemmas.Result.{IfOk-weaker}
use Rattle.clap.specs.Words.{Text, app_of, is_simple_and_free}
use Rattle.m2_cli.specs.Positions.{three_arguments, Positioned}
use Rattle.m2_cli.specs.declared.positions.Positions.{Positions}
use Rattle.m2_cli.proofs.Parses.{first_at, front, is_free, second_at, value_is, verb_at, words_are_few, words_are_more}
use Rattle.m2_cli.proofs.positions.read_positions.Goals as goal

pub returns-in-Ok : goal.returns-in-Ok
returns-in-Ok c =
    let words : List Text = map (λ w. w.now) c.args.words.now in
    let ws : List Text = drop 1 words in
    let command_is : app_of c.in_ok-command.command ≡ three_arguments = c.in_ok-command.ensures in
    let words_are : words ≡ codes "--" ∷ ws = front words (codes "--") c.requires in
    let few = words_are_few (app_of c.in_ok-command.command) words ws command_is words_are (c.in-Ok.ensures.kinds (ap is_simple_and_free command_is ∙ is_free)) in
    let value = λ (id : Text). value_is (app_of c.in_ok-command.command) words ws c.in-Ok.matches id command_is words_are c.in-Ok.ensures.matches in
    record {
      few = few;
      verb = c.positions_in.ensures.verb ∙ value (codes "verb") ∙ verb_at ws few;
      first = c.positions_in.ensures.first ∙ value (codes "first") ∙ first_at ws few;
      second = c.positions_in.ensures.second ∙ value (codes "second") ∙ second_at ws few;
    }

pub returns-in-Err : goal.returns-in-Err
returns-in-Err c =
    let words : List Text = map (λ w. w.now) c.args.words.now in
    let ws : List Text = drop 1 words in
    let command_is : app_of c.in_ok-command.command ≡ three_arguments = c.in_ok-command.ensures in
    let words_are : words ≡ codes "--" ∷ ws = front words (codes "--") c.requires in
    let fails = c.in-Err.ensures.kinds (ap is_simple_and_free command_is ∙ is_free) in
    IfOk-weaker c.refusal.result _ (λ p. Positioned p ws)
    (λ p h. subst (λ (o : Option Positions). Positioned o ws) (sym h.0) (words_are_more (app_of c.in_ok-command.command) words ws c.in-Err.error command_is words_are fails h.1))
    c.refusal.ensures
