-- Which first words the lines of a scenario file may have, by what the file is written for.
use Rattle.std.specs.Prelude.{Bool, true, false, List, [], ◌∷◌}
use Rattle.std.specs.List.{list_any}
use Rattle.m2_scenario_text.specs.declared.first_word.FirstWord.{FirstWord}
use Rattle.m2_scenario_text.specs.declared.first_word.FirstWord.TheVariants.{Node, Link, Post, Dial, Down, Cut, Turn, Flow, Fault, Settle, Off, Limit}
use Rattle.m2_scenario_text.specs.declared.form.Form.{Form}
use Rattle.m2_scenario_text.specs.declared.form.Form.TheVariants.{Sim, Run}
use Rattle.m2_scenario_text.specs.declared.flaw.Wanted.{Wanted}
use Rattle.m2_scenario_text.specs.declared.flaw.Wanted.TheVariants.{LineOfSim, LineOfRun}
use Rattle.m2_scenario_text.specs.FirstWord.{is_word}

abbrev pub form_of : Bool → Form
form_of false = Sim
form_of true = Run

-- in `run` nodes turn by themselves and bytes flow as the sockets carry them
abbrev pub first_words_of : Form → List FirstWord
first_words_of Sim = Node ∷ Link ∷ Post ∷ Dial ∷ Down ∷ Cut ∷ Turn ∷ Flow ∷ Fault ∷ Settle ∷ []
first_words_of Run = Node ∷ Link ∷ Post ∷ Dial ∷ Down ∷ Cut ∷ Off ∷ Limit ∷ []

-- what is wanted in place of a line that it doesn't have
abbrev pub line_of : Form → Wanted
line_of Sim = LineOfSim
line_of Run = LineOfRun

abbrev pub has : Form → FirstWord → Bool
has form w = list_any (is_word w) (first_words_of form)
