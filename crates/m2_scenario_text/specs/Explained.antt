-- What is said of a file that is read as a scenario: a line for `sim`, and one for `run`. This project's own.
use Rattle.std.specs.Prelude.{◌≡◌, ℕ, Bool, true, false, List, [], ◌++◌, codes, Result, Ok, Err}
use Rattle.std.specs.Fmt.{decimal}
use Rattle.m2_scenario.specs.Draft.{Draft}
use Rattle.m2_scenario.specs.Kind.{number_of_kind}
use Rattle.m2_scenario_text.specs.declared.flaw.Flaw.{Flaw}
use Rattle.m2_scenario_text.specs.declared.flaw.Place.{Place}
use Rattle.m2_scenario_text.specs.declared.flaw.Place.TheVariants as place
use Rattle.m2_scenario_text.specs.declared.flaw.Wanted.{Wanted}
use Rattle.m2_scenario_text.specs.declared.flaw.Wanted.TheVariants as wanted
use Rattle.m2_scenario_text.specs.Flaw.{kind_of}
use Rattle.m2_scenario_text.specs.Reading.{At, text_read}

abbrev pub command_of : Bool → List ℕ
command_of false = codes "sim"
command_of true = codes "run"

-- ---- a place in a line: a byte or a word, by how many bytes, or words behind the first, stand before it

abbrev pub place_told : Place → List ℕ
place_told (place.Byte before) = codes " byte " ++ decimal before
place_told place.First = codes " first"
place_told (place.Word behind) = codes " word " ++ decimal behind

-- ---- what is wanted there

abbrev pub name_of : Wanted → List ℕ
name_of wanted.PrintableByte = codes "printable_byte"
name_of wanted.FormOfLine = codes "form_of_line"
name_of wanted.LineOfSim = codes "line_of_sim"
name_of wanted.LineOfRun = codes "line_of_run"
name_of wanted.MoreWords = codes "more_words"
name_of wanted.FewerWords = codes "fewer_words"
name_of wanted.OptionName = codes "option_name"
name_of wanted.OptionOnce = codes "option_once"
name_of wanted.LimitOnce = codes "limit_once"
name_of wanted.NodeName = codes "node_name"
name_of wanted.SocketAddress = codes "socket_address"
name_of (wanted.Number least most) = codes "number"
name_of wanted.EntityType = codes "entity_type"
name_of wanted.KindsOfMessage = codes "kinds_of_message"
name_of wanted.FewerKinds = codes "fewer_kinds"
name_of wanted.PolicyName = codes "policy_name"
name_of wanted.FittingPolicy = codes "fitting_policy"
name_of wanted.HexDigits = codes "hex_digits"
name_of wanted.NodeAbove = codes "node_above"
name_of wanted.NewName = codes "new_name"
name_of wanted.NewSocket = codes "new_socket"
name_of wanted.OtherNode = codes "other_node"
name_of wanted.UnlinkedNode = codes "unlinked_node"
name_of wanted.LinkedNode = codes "linked_node"
name_of wanted.StartedNode = codes "started_node"
name_of wanted.NodeWithoutPlan = codes "node_without_plan"
name_of wanted.FewerNodes = codes "fewer_nodes"
name_of wanted.FewerLinks = codes "fewer_links"
name_of wanted.FewerPosts = codes "fewer_posts"
name_of wanted.ShorterPart = codes "shorter_part"
name_of wanted.EarlierCut = codes "earlier_cut"
name_of wanted.FewerCuts = codes "fewer_cuts"
name_of wanted.FewerFaults = codes "fewer_faults"
name_of wanted.FewerRounds = codes "fewer_rounds"
name_of wanted.SmallerFile = codes "smaller_file"

-- of a number, from which to which
abbrev pub range_of : Wanted → List ℕ
range_of (wanted.Number least most) = codes " " ++ decimal least ++ codes " " ++ decimal most
range_of _ = []

-- ---- a reading

unfoldable pub line_told : ℕ → ℕ → List ℕ
line_told line kind = codes " line " ++ decimal line ++ codes " kind " ++ decimal kind

unfoldable pub wanted_told : Wanted → List ℕ
wanted_told w = codes " wanted " ++ name_of w ++ range_of w

-- the first bad line, its kind, the place in it, and what is wanted there
unfoldable pub flaw_told : ℕ → Flaw → List ℕ
flaw_told line flaw = line_told line (number_of_kind (kind_of flaw.wanted)) ++ place_told flaw.place ++ wanted_told flaw.wanted

unfoldable pub reading_told : Bool → Result Draft At → List ℕ
reading_told run (Ok d) = command_of run ++ codes " good\n"
reading_told run (Err at) = command_of run ++ flaw_told at.line at.flaw ++ codes "\n"

-- of these bytes, read as those of `sim` and as those of `run`
abbrev pub IsExplanation : List ℕ → List ℕ → Type 0
IsExplanation bytes text = text ≡ reading_told false (text_read false bytes) ++ reading_told true (text_read true bytes)

-- no bytes are refused
abbrev pub IsNeverSaid : List ℕ → List ℕ → Type 0
IsNeverSaid bytes text = ⊥
