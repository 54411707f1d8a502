-- Options one after another.
use Rattle.std.proofs.Common.{◌≡◌, ◌≤◌, ◌<◌, ◌-◌, ℕ, zero, suc, List, [], ◌∷◌, ◌++◌, length, drop, Some, None, Result, Ok, Err, refl, sym, ap, ◌∙◌, arith, append_assoc}
use Rattle.m2_scenario.specs.Text.{Word}
use Rattle.m2_scenario_text.specs.declared.flaw.Flaw.{Flaw}
use Rattle.m2_scenario_text.specs.declared.flaw.Wanted.TheVariants as wanted
use Rattle.m2_scenario_text.specs.Flaw.{◌>>=◌, at_word, or_want}
use Rattle.m2_scenario_text.specs.declared.node_option.OptionRow.{OptionRow}
use Rattle.m2_scenario_text.specs.declared.node_option.GivenOption.{GivenOption}
use Rattle.m2_scenario_text.specs.NodeOption.{row_of, before, given_as, options_behind, options_in, with_option}

-- the words of an option are passed over
pub passed : (count n : ℕ) (ws : List Word) → n ≤ length ws → options_behind count n ws ≡ options_in count (drop n ws)
passed count zero ws h = refl
passed count (suc n) [] h = absurd (omega (arith, h))
passed count (suc n) (w ∷ ws) h = passed count n ws (omega (arith, h))

-- an option lacks words
pub lacking : (count n : ℕ) (ws : List Word) → length ws < n → options_behind count n ws ≡ Err (at_word count wanted.MoreWords)
lacking count zero ws h = absurd (omega (arith, h))
lacking count (suc n) [] h = refl
lacking count (suc n) (w ∷ ws) h = lacking count n ws (omega (arith, h))

-- the next option
pub next_is : (count : ℕ) (name : Word) (ws : List Word) (r : OptionRow) → row_of name ≡ Some r → r.words ≤ length ws
    → options_in count (name ∷ ws) ≡ with_option (given_as count ws r) (options_in count (drop r.words ws))
next_is count name ws r e h =
    ap (λ o. or_want (before count ws - 1) wanted.OptionName o >>= (λ r. with_option (given_as count ws r) (options_behind count r.words ws))) e
    ∙ ap (with_option (given_as count ws r)) (passed count r.words ws h)

pub next_lacks : (count : ℕ) (name : Word) (ws : List Word) (r : OptionRow) → row_of name ≡ Some r → length ws < r.words
    → options_in count (name ∷ ws) ≡ Err (at_word count wanted.MoreWords)
next_lacks count name ws r e h =
    ap (λ o. or_want (before count ws - 1) wanted.OptionName o >>= (λ r. with_option (given_as count ws r) (options_behind count r.words ws))) e
    ∙ ap (with_option (given_as count ws r)) (lacking count r.words ws h)

pub next_unknown : (count : ℕ) (name : Word) (ws : List Word) → row_of name ≡ None
    → options_in count (name ∷ ws) ≡ Err (at_word (before count ws - 1) wanted.OptionName)
next_unknown count name ws e =
    ap (λ o. or_want (before count ws - 1) wanted.OptionName o >>= (λ r. with_option (given_as count ws r) (options_behind count r.words ws))) e

-- ---- those so far, and then those that are left

abbrev pub and_then : List GivenOption → Result (List GivenOption) Flaw → Result (List GivenOption) Flaw
and_then so_far left = left >>= (λ os. Ok (so_far ++ os))

pub none_so_far : (left : Result (List GivenOption) Flaw) → and_then [] left ≡ left
none_so_far (Ok os) = refl
none_so_far (Err f) = refl

pub one_more : (so_far : List GivenOption) (o : GivenOption) (left : Result (List GivenOption) Flaw) → and_then so_far (with_option o left) ≡ and_then (so_far ++ o ∷ []) left
one_more so_far o (Ok os) = ap Ok (sym (append_assoc so_far (o ∷ []) os))
one_more so_far o (Err f) = refl

pub none_left : (so_far : List GivenOption) → and_then so_far (Ok []) ≡ Ok (so_far ++ [])
none_left so_far = refl

pub bad_left : (so_far : List GivenOption) (f : Flaw) → and_then so_far (Err f) ≡ Err f
bad_left so_far f = refl
