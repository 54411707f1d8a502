-- The options of a node line: names with their words, in any order.
use Rattle.std.specs.Prelude.{◌≡◌, ℕ, zero, suc, ◌-◌, ◌==◌, Bool, ◌&&◌, not, if◌then◌else◌, List, [], ◌∷◌, length, Option, Some, None, Result, Ok, Err, codes, Vec}
use Rattle.std.specs.Global.{Global}
use Rattle.std.specs.Str.{bytes_eq}
use Rattle.m2_scenario.specs.Text.{Word, word}
use Rattle.m2_scenario.specs.declared.limits.TheConstants.{MOST_CENTERS}
use Rattle.m2_scenario.specs.declared.node.Node.{Node}
use Rattle.m2_scenario_text.specs.declared.flaw.Flaw.{Flaw}
use Rattle.m2_scenario_text.specs.declared.flaw.LineFlaw.{LineFlaw}
use Rattle.m2_scenario_text.specs.declared.flaw.LineFlaw.TheVariants as flaw
use Rattle.m2_scenario_text.specs.declared.flaw.Wanted.TheVariants as wanted
use Rattle.m2_scenario_text.specs.Flaw.{◌>>=◌, at_word, number_at, or_want, want}
use Rattle.m2_scenario_text.specs.declared.node_option.NodeOption.{NodeOption}
use Rattle.m2_scenario_text.specs.declared.node_option.NodeOption.TheVariants.{Centers, Fast, Throttle, Supports, Requires}
use Rattle.m2_scenario_text.specs.declared.node_option.Times.{Times}
use Rattle.m2_scenario_text.specs.declared.node_option.Times.TheVariants.{Once, OnceForEachPeerType}
use Rattle.m2_scenario_text.specs.declared.node_option.OptionRow.{OptionRow}
use Rattle.m2_scenario_text.specs.declared.node_option.GivenOption.{GivenOption}
use Rattle.m2_scenario_text.specs.Vocabulary.{kinds_of}

-- ---- the table: of each option its name, how many words stand behind it, and how often it may stand

abbrev pub table_row : NodeOption → ℕ → Times → Option OptionRow
table_row option words times = Some (record { option = option; words = words; times = times })

unfoldable pub row_of : Word → Option OptionRow
row_of name =
    if bytes_eq name (codes "centers") then table_row Centers 1 Once else
    if bytes_eq name (codes "fast") then table_row Fast 1 Once else
    if bytes_eq name (codes "throttle") then table_row Throttle 1 Once else
    if bytes_eq name (codes "supports") then table_row Supports 1 Once else
    if bytes_eq name (codes "requires") then table_row Requires 1 Once else None

-- what an option sets, by its first word, which is the word behind the first one and so many others
unfoldable pub set_by : NodeOption → ℕ → Word → Node → Result Node Flaw
set_by Centers behind w n = do
  centers ← number_at behind 1 MOST_CENTERS w
  Ok (record n { centers = centers })
set_by Fast behind w n = do
  fast ← kinds_of behind w
  Ok (record n { fast = fast })
set_by Throttle behind w n = do
  throttle ← number_at behind 0 4294967295 w
  Ok (record n { throttle = throttle })
set_by Supports behind w n = do
  supports ← number_at behind 0 18446744073709551615 w
  Ok (record n { supports = supports })
set_by Requires behind w n = do
  required ← number_at behind 0 18446744073709551615 w
  Ok (record n { requires_ = required })

-- ---- the options of a line

abbrev pub with_option : GivenOption → Result (List GivenOption) Flaw → Result (List GivenOption) Flaw
with_option o more = more >>= (λ os. Ok (o ∷ os))

-- how many words stand before these, which are the last of so many; the one before them is the option's name
abbrev pub before : ℕ → List Word → ℕ
before count ws = count - length ws

abbrev pub given_as : ℕ → List Word → OptionRow → GivenOption
given_as count ws r = record { row = r; named_at = before count ws - 1; said_at = before count ws; words = ws }

-- those that stand behind so many words, which are of the option before, in a line of so many words behind its first
abbrev pub options_behind : ℕ → ℕ → List Word → Result (List GivenOption) Flaw
options_behind count zero [] = Ok []
options_behind count zero (name ∷ ws) =
    or_want (before count ws - 1) wanted.OptionName (row_of name) >>= (λ r. with_option (given_as count ws r) (options_behind count r.words ws))
options_behind count (suc n) [] = Err (at_word count wanted.MoreWords)
options_behind count (suc n) (w ∷ ws) = options_behind count n ws

abbrev pub options_in : ℕ → List Word → Result (List GivenOption) Flaw
options_in count ws = options_behind count 0 ws

-- ---- how often each may stand

abbrev pub number_of_option : NodeOption → ℕ
number_of_option Centers = 0
number_of_option Fast = 1
number_of_option Throttle = 2
number_of_option Supports = 3
number_of_option Requires = 4

abbrev pub is_option : GivenOption → GivenOption → Bool
is_option o p = number_of_option o.row.option == number_of_option p.row.option

-- the second may not stand beside the first
abbrev pub repeats_by : Times → GivenOption → GivenOption → Bool
repeats_by Once o p = is_option o p
repeats_by OnceForEachPeerType o p = is_option o p && bytes_eq (word o.words 0) (word p.words 0)

abbrev pub repeats : GivenOption → GivenOption → Bool
repeats o p = repeats_by o.row.times o p

-- none of these repeats the option
abbrev pub is_once : GivenOption → List GivenOption → Result (Unit {0}) Flaw
is_once o [] = Ok tt
is_once o (p ∷ ps) = want p.named_at wanted.OptionOnce (not (repeats o p)) >>= (λ _. is_once o ps)

abbrev pub are_once : List GivenOption → Result (Unit {0}) Flaw
are_once [] = Ok tt
are_once (o ∷ os) = is_once o os >>= (λ _. are_once os)

-- ---- what they set

abbrev pub set_option : GivenOption → Node → Result Node Flaw
set_option o n = set_by o.row.option o.said_at (word o.words 0) n

abbrev pub set_options : List GivenOption → Node → Result Node Flaw
set_options [] n = Ok n
set_options (o ∷ os) n = set_option o n >>= (λ m. set_options os m)

-- the options in memory
abbrev pub OptionsRead : Result (Vec GivenOption Global) LineFlaw → Result (List GivenOption) Flaw → Type 0
OptionsRead (Ok v) asked = asked ≡ Ok v.items
OptionsRead (Err (flaw.Bad f)) asked = asked ≡ Err f
OptionsRead (Err flaw.NoMemory) asked = Unit {0}
