-- What `clap` makes of words behind a `--`: three at most are put at their positions, and more are refused.
use Rattle.std.proofs.Common.{inl, inr, ◌≡◌, ◌≤◌, ◌<◌, true, List, [], ◌∷◌, codes, length, slice_get, Some, refl, sym, ◌∙◌, ap, ap₂, subst, arith, drop}
use Rattle.std.specs.Prelude.{◌≢◌}
use Rattle.clap.specs.Words.{App, Text, HasKind, HasMatchesOf, IsAmong, Kinds, fault_of, first_of, first_value, found_of, is_simple, is_simple_and_free, kind_of, matches_of}
use Rattle.clap.specs.declared.error.Error.{Error}
use Rattle.clap.specs.declared.error.kind.ErrorKind.TheVariants as kind
use Rattle.clap.specs.declared.parser.matches.ArgMatches.{ArgMatches}
use Rattle.clap.proofs.OnLiterals.{clap_on_literals}
use Rattle.clap.proofs.WalkLemmas.{first_value-rows}
use Rattle.m2_cli.specs.Positions.{three_arguments}

pub is_plain : is_simple three_arguments ≡ true
unfolding clap_on_literals
is_plain = refl

pub is_free : is_simple_and_free three_arguments ≡ true
unfolding clap_on_literals
is_free = refl

none_wrong : fault_of three_arguments (codes "--" ∷ []) ≡ []
unfolding clap_on_literals
none_wrong = refl

one_right : (a : Text) → fault_of three_arguments (codes "--" ∷ a ∷ []) ≡ []
unfolding clap_on_literals
one_right a = refl

two_right : (a b : Text) → fault_of three_arguments (codes "--" ∷ a ∷ b ∷ []) ≡ []
unfolding clap_on_literals
two_right a b = refl

three_right : (a b c : Text) → fault_of three_arguments (codes "--" ∷ a ∷ b ∷ c ∷ []) ≡ []
unfolding clap_on_literals
three_right a b c = refl

too_many : (a b c d : Text) (ws : List Text) → fault_of three_arguments (codes "--" ∷ a ∷ b ∷ c ∷ d ∷ ws) ≡ kind.UnknownArgument ∷ []
unfolding clap_on_literals
too_many a b c d ws = refl

-- where all is right there are at most three
pub at_most_three : (ws : List Text) → fault_of three_arguments (codes "--" ∷ ws) ≡ [] → length ws ≤ 3
at_most_three [] e = omega arith
at_most_three (a ∷ []) e = omega arith
at_most_three (a ∷ b ∷ []) e = omega arith
at_most_three (a ∷ b ∷ c ∷ []) e = omega arith
at_most_three (a ∷ b ∷ c ∷ d ∷ ws) e = let other : kind.UnknownArgument ∷ [] ≡ [] = sym (too_many a b c d ws) ∙ e in absurd (cc)

-- and where something is wrong there are more
pub more_than_three : (ws : List Text) → fault_of three_arguments (codes "--" ∷ ws) ≢ [] → 3 < length ws
more_than_three [] e = absurd (e none_wrong)
more_than_three (a ∷ []) e = absurd (e (one_right a))
more_than_three (a ∷ b ∷ []) e = absurd (e (two_right a b))
more_than_three (a ∷ b ∷ c ∷ []) e = absurd (e (three_right a b c))
more_than_three (a ∷ b ∷ c ∷ d ∷ ws) e = omega arith

-- ---- the positions

pub verb_at : (ws : List Text) → length ws ≤ 3 → first_of (codes "verb") (matches_of three_arguments (codes "--" ∷ ws)) ≡ slice_get ws 0
unfolding clap_on_literals
verb_at [] h = refl
verb_at (a ∷ []) h = refl
verb_at (a ∷ b ∷ []) h = refl
verb_at (a ∷ b ∷ c ∷ []) h = refl
verb_at (a ∷ b ∷ c ∷ d ∷ ws) h = absurd (omega (arith, h))

pub first_at : (ws : List Text) → length ws ≤ 3 → first_of (codes "first") (matches_of three_arguments (codes "--" ∷ ws)) ≡ slice_get ws 1
unfolding clap_on_literals
first_at [] h = refl
first_at (a ∷ []) h = refl
first_at (a ∷ b ∷ []) h = refl
first_at (a ∷ b ∷ c ∷ []) h = refl
first_at (a ∷ b ∷ c ∷ d ∷ ws) h = absurd (omega (arith, h))

pub second_at : (ws : List Text) → length ws ≤ 3 → first_of (codes "second") (matches_of three_arguments (codes "--" ∷ ws)) ≡ slice_get ws 2
unfolding clap_on_literals
second_at [] h = refl
second_at (a ∷ []) h = refl
second_at (a ∷ b ∷ []) h = refl
second_at (a ∷ b ∷ c ∷ []) h = refl
second_at (a ∷ b ∷ c ∷ d ∷ ws) h = absurd (omega (arith, h))

-- ---- the same of a command and words that are these

pub front : (words : List Text) (word : Text) → slice_get words 0 ≡ Some word → words ≡ word ∷ drop 1 words
front [] word e = absurd (cc)
front (w ∷ ws) word e = let same : w ≡ word = cc in ap (λ x. x ∷ ws) same

pub value_is : (a : App) (words ws : List Text) (m : ArgMatches) (id : Text) → a ≡ three_arguments → words ≡ codes "--" ∷ ws → HasMatchesOf a words m
    → first_value (found_of m) id ≡ first_of id (matches_of three_arguments (codes "--" ∷ ws))
value_is a words ws m id e f h =
    first_value-rows (found_of m) id ∙ ap (first_of id) ((h (ap is_simple e ∙ is_plain)).0 ∙ ap₂ matches_of e f)

pub words_are_few : (a : App) (words ws : List Text) → a ≡ three_arguments → words ≡ codes "--" ∷ ws → fault_of a words ≡ [] → length ws ≤ 3
words_are_few a words ws e f none = at_most_three ws (sym (ap₂ fault_of e f) ∙ none)

some_kind : (kinds : Kinds) (error : Error) → HasKind kinds error → kind_of error ≢ kind.OutOfMemory → kinds ≢ []
some_kind kinds error (inl memory) other e = other memory
some_kind kinds error (inr among) other e = subst (IsAmong (kind_of error)) e among

pub words_are_more : (a : App) (words ws : List Text) (error : Error) → a ≡ three_arguments → words ≡ codes "--" ∷ ws → HasKind (fault_of a words) error
    → kind_of error ≢ kind.OutOfMemory → 3 < length ws
words_are_more a words ws error e f h other = more_than_three ws (λ none. some_kind (fault_of a words) error h other (ap₂ fault_of e f ∙ none))
