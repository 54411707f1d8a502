-- The words of the command line and their forms. The rule for words that begin with `-` is the usual one
-- of command lines.
use Rattle.std.specs.Prelude.{◌≤◌, ℕ, ◌==◌, Bool, false, List, [], ◌∷◌, ◌++◌, codes, nat_eq, Option, None, Some, Result, Ok, if◌then◌else◌, string_bytes}
use Rattle.std.specs.List.{before_first, after_first, list_any}
use Rattle.std.specs.Cmp.Lexicographic.{pointwise}
use Rattle.m2_scenario.specs.declared.kind.Kind.{Kind}
use Rattle.m2_scenario.specs.declared.kind.Kind.TheVariants.{Number}
use Rattle.m2_scenario.specs.Word.{number_of}
use Rattle.m2_scenario.specs.declared.limits.TheConstants.{MOST_POSTS}
use Rattle.m2_cli.specs.declared.command.Command.{Command}
use Rattle.m2_cli.specs.declared.command.Command.TheVariants.{Sim, Run, Frames, Load}

abbrev pub is_text : List ℕ → List ℕ → Bool
is_text text word = pointwise nat_eq word text

abbrev pub is_dashes : List ℕ → Bool
is_dashes word = pointwise nat_eq word (codes "--")

-- a word that begins with `-` and has at least two bytes
abbrev pub is_option_word : List ℕ → Bool
is_option_word [] = false
is_option_word (b ∷ []) = false
is_option_word (b ∷ c ∷ bs) = b == 45

-- a command: what its words ask for, with its file, or with how many posts and the seed
pub data Form : Type 0 where
  sim_of : List ℕ → Form
  run_of : List ℕ → Form
  frames_of : List ℕ → Form
  load_of : ℕ → ℕ → Form

-- the form that a command has
abbrev pub form_of : Command → Form
form_of (Sim file) = sim_of (string_bytes file)
form_of (Run file) = run_of (string_bytes file)
form_of (Frames file) = frames_of (string_bytes file)
form_of (Load posts seed) = load_of posts seed

-- `sim FILE`, `run FILE` or `frames FILE`
abbrev pub file_form : List ℕ → List ℕ → Option Form
file_form verb file =
    if is_text (codes "sim") verb then Some (sim_of file)
    else if is_text (codes "run") verb then Some (run_of file)
    else if is_text (codes "frames") verb then Some (frames_of file)
    else None

abbrev pub load_by : Result ℕ Kind → Result ℕ Kind → Option Form
load_by (Ok posts) (Ok seed) = Some (load_of posts seed)
load_by _ _ = None

-- `load N SEED`: two decimals without leading zeros, of which the first is from 1 to as many posts as a scenario may
-- have, and the second fits 64 bits
abbrev pub load_form : List ℕ → List ℕ → List ℕ → Option Form
load_form verb posts seed =
    if is_text (codes "load") verb then load_by (number_of Number 1 MOST_POSTS posts) (number_of Number 0 18446744073709551615 seed)
    else None

-- by whether there is a third word
abbrev pub named_form : List ℕ → List ℕ → Option (List ℕ) → Option Form
named_form verb first None = file_form verb first
named_form verb first (Some second) = load_form verb first second

-- the form of words of which none is an option
abbrev pub form_among : List (List ℕ) → Option Form
form_among [] = None
form_among (verb ∷ []) = None
form_among (verb ∷ first ∷ []) = file_form verb first
form_among (verb ∷ first ∷ second ∷ []) = load_form verb first second
form_among (verb ∷ first ∷ second ∷ more ∷ words) = None

-- The first word that is exactly `--` is left out. Where a word before it is an option the words are of no
-- form.
abbrev pub form_in : List (List ℕ) → Option Form
form_in words =
    if list_any is_option_word (before_first is_dashes words) then None
    else form_among (before_first is_dashes words ++ after_first is_dashes words)

-- One fact for words of no form, one for the file of `sim FILE`, one for that of `run FILE`, one for that of `frames FILE`, and one
-- for the numbers of `load N SEED`.
abbrev pub MatchForm : Option Form → Type 0 → (List ℕ → Type 0) → (List ℕ → Type 0) → (List ℕ → Type 0) → (ℕ → ℕ → Type 0) → Type 0
MatchForm None Refused OfSim OfRun OfFrames OfLoad = Refused
MatchForm (Some (sim_of file)) Refused OfSim OfRun OfFrames OfLoad = OfSim file
MatchForm (Some (run_of file)) Refused OfSim OfRun OfFrames OfLoad = OfRun file
MatchForm (Some (frames_of file)) Refused OfSim OfRun OfFrames OfLoad = OfFrames file
MatchForm (Some (load_of posts seed)) Refused OfSim OfRun OfFrames OfLoad = OfLoad posts seed

-- a command's load is of a number of posts that a scenario may have
abbrev pub IsWithin : Command → Type 0
IsWithin (Sim file) = Unit {0}
IsWithin (Run file) = Unit {0}
IsWithin (Frames file) = Unit {0}
IsWithin (Load posts seed) = (1 ≤ posts) × (posts ≤ MOST_POSTS)
