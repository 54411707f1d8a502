-- The words that stand at three positions, and the command that `clap` reads them by.
use Rattle.std.specs.Prelude.{◌≡◌, ◌<◌, ◌≤◌, true, List, codes, length, slice_get, Option, Some, None, option_map}
use Rattle.clap.specs.Words.{App, Text, new_app, new_rule, with_rule}
use Rattle.m2_cli.specs.declared.positions.Positions.{Positions}

-- no help, no version, and no word before the arguments
abbrev pub plain_command : App
plain_command = let a = new_app (codes "msgr2") in
    record a { top = record a.top { no_binary_name = true; disable_help_flag = true; disable_version_flag = true } }

-- three arguments with no name and no rule
abbrev pub three_arguments : App
three_arguments =
    with_rule (with_rule (with_rule plain_command (new_rule (codes "verb"))) (new_rule (codes "first"))) (new_rule (codes "second"))

-- the words are at most three, and each stands at its position
pub record AreAt (p : Positions) (words : List Text) : Type 0 where
  pub few : length words ≤ 3
  pub verb : option_map (λ w. w.now) p.verb ≡ slice_get words 0
  pub first : option_map (λ w. w.now) p.first ≡ slice_get words 1
  pub second : option_map (λ w. w.now) p.second ≡ slice_get words 2

-- None: the words are more than three
abbrev pub Positioned : Option Positions → List Text → Type 0
Positioned None words = 3 < length words
Positioned (Some p) words = AreAt p words
