-- What is left of a script's acts is what comes next, and what is left behind it; and their deeds are those of the script.
use Rattle.std.proofs.Common.{◌≡◌, ℕ, zero, suc, ◌+◌, ◌-◌, ◌<◌, List, [], ◌∷◌, ◌++◌, length, refl, ap, ◌∙◌, arith}
use Rattle.std.specs.List.{flat_map}
use Rattle.m2_run_trace.specs.Acts.{acts_of, acts_to, deeds_in, line_acts, round_acts, rounds_acts, step_act, turn_act, turn_acts}
use Rattle.m2_run_trace.specs.Script.{lines_behind, next_step}
use Rattle.m2_scenario.specs.declared.line.Line.{Line}
use Rattle.m2_scenario.specs.declared.line.Line.TheVariants as line
use Rattle.m2_scenario.specs.declared.link.Link.{Link}
use Rattle.m2_scenario.specs.declared.node.Node.{Node}
use Rattle.m2_promise.specs.m2_script.Script.{Deed, both_flow, deeds_of, round_of, rounds_of, script_of, turns_from}
use Rattle.m2_scenario.specs.Text.{Word}
use Rattle.m2_run_trace.proofs.Acts.{both_deeds}

-- ---- what comes next

pub next_turn : (nodes : List Node) (node count : ℕ) → node < count → turn_acts nodes node (count - node) ≡ (turn_act nodes node ∷ []) ++ turn_acts nodes (node + 1) (count - (node + 1))
next_turn nodes node count within =
    let e : count - node ≡ suc (count - (node + 1)) = omega arith in
    ap (turn_acts nodes node) e

pub next_round : (nodes : List Node) (links : List Link) (n rounds : ℕ) → n < rounds →
    rounds_acts nodes links (rounds - n) ≡ round_acts nodes links ++ rounds_acts nodes links (rounds - (n + 1))
next_round nodes links n rounds within =
    let e : rounds - n ≡ suc (rounds - (n + 1)) = omega arith in
    ap (rounds_acts nodes links) e

-- a line that is no turn and no rounds stands there as it is
pub plain_line : (nodes : List Node) (links : List Link) (step : Word) (l : Line) → ((a : ℕ) → l ≡ line.Turn a → ⊥) → ((n : ℕ) → l ≡ line.Settle n → ⊥) →
    line_acts nodes links step l ≡ step_act links (length nodes) step l ∷ []
plain_line nodes links step (line.Post a b message) no_turn no_rounds = refl
plain_line nodes links step (line.Dial a b) no_turn no_rounds = refl
plain_line nodes links step (line.Down a b) no_turn no_rounds = refl
plain_line nodes links step (line.Cut a b bytes) no_turn no_rounds = refl
plain_line nodes links step (line.Flow a b socket most) no_turn no_rounds = refl
plain_line nodes links step (line.Fault a b socket) no_turn no_rounds = refl
plain_line nodes links step (line.Turn a) no_turn no_rounds = absurd (no_turn a refl)
plain_line nodes links step (line.Settle n) no_turn no_rounds = absurd (no_rounds n refl)

-- ---- their deeds

deeds_of_turns : (nodes : List Node) (from count : ℕ) → deeds_in (turn_acts nodes from count) ≡ turns_from from count
deeds_of_turns nodes from zero = refl
deeds_of_turns nodes from (suc n) =
    let e : from + 1 ≡ suc from = omega arith in
    ap (λ (ds : List Deed). (turn_act nodes from).deeds ++ ds) (deeds_of_turns nodes (from + 1) n ∙ ap (λ (k : ℕ). turns_from k n) e)

deeds_of_round : (nodes : List Node) (links : List Link) → deeds_in (round_acts nodes links) ≡ round_of links (length nodes)
deeds_of_round nodes links = ap (λ (ds : List Deed). flat_map both_flow links ++ ds) (deeds_of_turns nodes 0 (length nodes))

deeds_of_rounds : (nodes : List Node) (links : List Link) (count : ℕ) → deeds_in (rounds_acts nodes links count) ≡ rounds_of links (length nodes) count
deeds_of_rounds nodes links zero = refl
deeds_of_rounds nodes links (suc n) =
    both_deeds (round_acts nodes links) (rounds_acts nodes links n)
    ∙ ap (λ (ds : List Deed). ds ++ deeds_in (rounds_acts nodes links n)) (deeds_of_round nodes links)
    ∙ ap (λ (ds : List Deed). round_of links (length nodes) ++ ds) (deeds_of_rounds nodes links n)

pub deeds_of_line : (nodes : List Node) (links : List Link) (step : Word) (l : Line) → deeds_in (line_acts nodes links step l) ≡ deeds_of links (length nodes) l
deeds_of_line nodes links step (line.Post a b message) = refl
deeds_of_line nodes links step (line.Dial a b) = refl
deeds_of_line nodes links step (line.Down a b) = refl
deeds_of_line nodes links step (line.Cut a b bytes) = refl
deeds_of_line nodes links step (line.Flow a b socket most) = refl
deeds_of_line nodes links step (line.Fault a b socket) = refl
deeds_of_line nodes links step (line.Turn a) = refl
deeds_of_line nodes links step (line.Settle n) = deeds_of_rounds nodes links n

pub deeds_of_script : (nodes : List Node) (links : List Link) (text : List Word) (lines : List Line) → deeds_in (acts_of nodes links text lines) ≡ script_of links (length nodes) lines
deeds_of_script nodes links text [] = refl
deeds_of_script nodes links text (l ∷ ls) =
    both_deeds (acts_to nodes links text l) (acts_of nodes links (lines_behind text) ls)
    ∙ ap (λ (ds : List Deed). ds ++ deeds_in (acts_of nodes links (lines_behind text) ls)) (deeds_of_line nodes links (next_step text) l)
    ∙ ap (λ (ds : List Deed). deeds_of links (length nodes) l ++ ds) (deeds_of_script nodes links (lines_behind text) ls)
