-- What is bad in a line: a place, and what is wanted there. A step of reading gives a value, or the flaw of the line: the first test
-- that fails decides, so the tests of a line stand in the order in which the kinds of docs/SCENARIOS.md go before one another.
use Rattle.std.specs.Prelude.{ℕ, nat_le, Bool, true, false, List, length, Option, Some, None, Result, Ok, Err}
use Rattle.m2_scenario.specs.declared.kind.Kind.{Kind}
use Rattle.m2_scenario.specs.declared.kind.Kind.TheVariants as kind
use Rattle.m2_scenario.specs.Text.{Word}
use Rattle.m2_scenario.specs.Word.{number_of, bytes_of}
use Rattle.m2_scenario_text.specs.declared.flaw.Flaw.{Flaw}
use Rattle.m2_scenario_text.specs.declared.flaw.Place.TheVariants as place
use Rattle.m2_scenario_text.specs.declared.flaw.Wanted.{Wanted}
use Rattle.m2_scenario_text.specs.declared.flaw.Wanted.TheVariants as wanted

-- ---- of which kind a line is in which this is wanted

abbrev pub kind_of : Wanted → Kind
kind_of wanted.PrintableByte = kind.Unknown
kind_of wanted.FormOfLine = kind.Unknown
kind_of wanted.LineOfSim = kind.Mode
kind_of wanted.LineOfRun = kind.Mode
kind_of wanted.MoreWords = kind.Words
kind_of wanted.FewerWords = kind.Words
kind_of wanted.OptionName = kind.Words
kind_of wanted.OptionOnce = kind.Words
kind_of wanted.LimitOnce = kind.Words
kind_of wanted.NodeName = kind.Name
kind_of wanted.SocketAddress = kind.Address
kind_of (wanted.Number least most) = kind.Number
kind_of wanted.EntityType = kind.Number
kind_of wanted.KindsOfMessage = kind.Number
kind_of wanted.FewerKinds = kind.Number
kind_of wanted.PolicyName = kind.Policy
kind_of wanted.FittingPolicy = kind.Policy
kind_of wanted.HexDigits = kind.Hex
kind_of wanted.NodeAbove = kind.NoNode
kind_of wanted.NewName = kind.Taken
kind_of wanted.NewSocket = kind.Taken
kind_of wanted.OtherNode = kind.Link
kind_of wanted.UnlinkedNode = kind.Link
kind_of wanted.LinkedNode = kind.Link
kind_of wanted.StartedNode = kind.Link
kind_of wanted.NodeWithoutPlan = kind.Link
kind_of wanted.FewerNodes = kind.Limit
kind_of wanted.FewerLinks = kind.Limit
kind_of wanted.FewerPosts = kind.Limit
kind_of wanted.ShorterPart = kind.Limit
kind_of wanted.EarlierCut = kind.Limit
kind_of wanted.FewerCuts = kind.Limit
kind_of wanted.FewerFaults = kind.Limit
kind_of wanted.FewerRounds = kind.Limit
kind_of wanted.SmallerFile = kind.Limit

-- ---- steps of reading

infixl 10 ◌>>=◌
abbrev pub ◌>>=◌ : {A B : Type 0} → Result A Flaw → (A → Result B Flaw) → Result B Flaw
Ok a >>= f = f a
Err e >>= f = Err e

abbrev pub at_byte : ℕ → Wanted → Flaw
at_byte before w = record { place = place.Byte before; wanted = w }

-- at the first word
abbrev pub at_first : Wanted → Flaw
at_first w = record { place = place.First; wanted = w }

-- at the word behind the first one and so many others
abbrev pub at_word : ℕ → Wanted → Flaw
at_word behind w = record { place = place.Word behind; wanted = w }

-- this is wanted at that word, unless the test passes
abbrev pub want : ℕ → Wanted → Bool → Result (Unit {0}) Flaw
want behind w true = Ok tt
want behind w false = Err (at_word behind w)

abbrev pub want_first : Wanted → Bool → Result (Unit {0}) Flaw
want_first w true = Ok tt
want_first w false = Err (at_first w)

-- what is there, or else this is wanted
abbrev pub or_want : {A : Type 0} → ℕ → Wanted → Option A → Result A Flaw
or_want behind w (Some a) = Ok a
or_want behind w None = Err (at_word behind w)

-- what a word says, or else this is wanted in its place
abbrev pub said : {A : Type 0} → ℕ → Wanted → Result A Kind → Result A Flaw
said behind w (Ok a) = Ok a
said behind w (Err k) = Err (at_word behind w)

-- the kind of what is bad, and not where
abbrev pub kind_alone : {A : Type 0} → Result A Flaw → Result A Kind
kind_alone (Ok a) = Ok a
kind_alone (Err flaw) = Err (kind_of flaw.wanted)

-- ---- what several forms of line have

-- From so many to so many words stand behind the first: where one is missing the line goes on, and behind the last one it ends.
unfoldable pub counted : ℕ → ℕ → List Word → Result (Unit {0}) Flaw
counted least most ws = do
  _ ← want (length ws) wanted.MoreWords (nat_le least (length ws))
  want most wanted.FewerWords (nat_le (length ws) most)

abbrev pub number_at : ℕ → ℕ → ℕ → Word → Result ℕ Flaw
number_at behind least most w = said behind (wanted.Number least most) (number_of kind.Number least most w)

abbrev pub bytes_at : ℕ → Word → Result (List ℕ) Flaw
bytes_at behind w = said behind wanted.HexDigits (bytes_of w)
