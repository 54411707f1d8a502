-- What the lines have nodes do, line by line.
use Rattle.std.proofs.Common.{◌≡◌, ◌==◌, ◌<◌, ◌+◌, ◌++◌, ℕ, suc, Bool, true, false, List, [], ◌∷◌, length, get_or, Option, Some, None, refl, sym, ap, ◌∙◌, append_assoc, arith}
use Rattle.std.specs.Prelude.{if◌then◌else◌, slice_get, IfOk, Result, Ok, Err, OnOk}
use Rattle.std.specs.List.{cons_option, filter_map}
use Rattle.std.specs.Option.{option_to_list}
use Rattle.std.proofs.lemmas.Bool.{eqb-true, false≢true}
use Rattle.std.proofs.lemmas.List.{append-nil}
use Rattle.std.proofs.lemmas.Option.{slice_get-get_or, slice_get_within}
use Rattle.m2_bytes.specs.Items.{Holding}
use Rattle.m2_scenario.specs.declared.line.Line.{Line}
use Rattle.m2_scenario.specs.declared.node.Node.{Node}
use Rattle.m2_node.specs.Homes.{AreStepsByHome, home_at, is_at_home, steps_at_home}
use Rattle.m2_node.specs.Planned.{AddsStep, AddsStepOf, AreStepsOf, plan_of, step_of, steps_in}
use Rattle.m2_node.specs.declared.planning.StepTowards.{StepTowards}

-- ---- line by line

-- what each has, and then what the lines that are left have it do, is all that it is to do
pub record AreStepsSoFar (nodes : ℕ) (rest lines : List Line) (all : List (Holding StepTowards)) : Type 0 where
  pub count : length all ≡ nodes
  pub each : (k : ℕ) (steps : Holding StepTowards) → slice_get all k ≡ Some steps → steps.items ++ steps_in rest k ≡ steps_in lines k

pub behind_last : (nodes : ℕ) (rest lines : List Line) (all : List (Holding StepTowards)) → rest ≡ [] → AreStepsSoFar nodes rest lines all → AreStepsOf nodes lines all
behind_last nodes rest lines all none far = record {
  count = far.count;
  each = λ k s e. sym (append-nil s.items) ∙ ap (λ (ls : List Line). s.items ++ steps_in ls k) (sym none) ∙ far.each k s e;
}

first_of : {X Y : Type 0} (h : X → Option Y) (x : X) (xs : List X) → filter_map h (x ∷ xs) ≡ option_to_list (h x) ++ filter_map h xs
first_of {X} {Y} h x xs = go (h x) refl
  where
    go : (o : Option Y) → h x ≡ o → filter_map h (x ∷ xs) ≡ option_to_list (h x) ++ filter_map h xs
    go None e = rw e refl
    go (Some y) e = rw e refl

pub one_line_more : (nodes : ℕ) (line : Line) (all_left rest lines : List Line) (old new : List (Holding StepTowards)) → all_left ≡ line ∷ rest → AreStepsSoFar nodes all_left lines old → AddsStepOf line old new →
    AreStepsSoFar nodes rest lines new
one_line_more nodes line all_left rest lines old new left far adds = record {
  count = adds.count ∙ far.count;
  each = λ k s e.
      let within : k < length old = let n = slice_get_within new k s e in let m = adds.count in omega (arith, n, m) in
      let was : Holding StepTowards = get_or old k s in
      let there : slice_get old k ≡ Some was = slice_get-get_or old k s within in
      ap (λ (xs : List StepTowards). xs ++ steps_in rest k) (adds.each k was s there e)
      ∙ append_assoc was.items (option_to_list (step_of k line)) (steps_in rest k)
      ∙ ap (λ (xs : List StepTowards). was.items ++ xs) (sym (first_of (step_of k) line rest))
      ∙ ap (λ (ls : List Line). was.items ++ steps_in ls k) (sym left)
      ∙ far.each k was there;
}

-- ---- one line

pub on_ok_so : {T E : Type 0} (r : Result T E) (A B : Type 0) → (A → B) → OnOk r A → OnOk r B
on_ok_so (Ok x) A B so a = so a
on_ok_so (Err e) A B so a = tt

pub ok_then : {T E : Type 0} (r : Result T E) (A B : Type 0) → (A → B) → OnOk r A → IfOk r (λ x. B)
ok_then (Ok x) A B so a = so a
ok_then (Err e) A B so a = tt

pub ok_always : {T E : Type 0} (r : Result T E) (A : Type 0) → A → IfOk r (λ x. A)
ok_always (Ok x) A a = a
ok_always (Err e) A a = tt

-- a line that has one node do something
pub line_adds : (node : ℕ) (s : StepTowards) (line : Line) (old new : List (Holding StepTowards)) → ((k : ℕ) → step_of k line ≡ (if node == k then Some s else None)) → AddsStep node s old new →
    AddsStepOf line old new
line_adds node s line old new is adds = record {
  count = adds.count;
  each = λ k before behind e f. adds.each k before behind e f ∙ go (node == k) before ∙ ap (λ (o : Option StepTowards). before.items ++ option_to_list o) (sym (is k));
}
  where
    go : (b : Bool) (before : Holding StepTowards) →
        (if b then before.items ++ s ∷ [] else before.items) ≡ before.items ++ option_to_list (if b then Some s else None)
    go true before = refl
    go false before = sym (append-nil before.items)

-- ---- by homes

-- what each thread of a node has, and then those of the steps that are left that are towards peers at home there, is all that it is to do
pub record AreByHomeSoFar (nodes : List Node) (centers : ℕ) (rest steps : List StepTowards) (all : List (Holding StepTowards)) : Type 0 where
  pub count : length all ≡ centers
  pub each : (j : ℕ) (its : Holding StepTowards) → slice_get all j ≡ Some its → its.items ++ steps_at_home nodes centers j rest ≡ steps_at_home nodes centers j steps

pub none_by_home : (nodes : List Node) (centers : ℕ) (rest steps : List StepTowards) (all : List (Holding StepTowards)) → rest ≡ steps → AreStepsOf centers [] all →
    AreByHomeSoFar nodes centers rest steps all
none_by_home nodes centers rest steps all same none = record {
  count = none.count;
  each = λ j its e. ap (λ (xs : List StepTowards). xs ++ steps_at_home nodes centers j rest) (none.each j its e) ∙ ap (steps_at_home nodes centers j) same;
}

one_here : (b : Bool) (xs : List StepTowards) (s : StepTowards) (rest : List StepTowards) → (if b then xs ++ s ∷ [] else xs) ++ rest ≡ xs ++ (if b then s ∷ rest else rest)
one_here true xs s rest = append_assoc xs (s ∷ []) rest
one_here false xs s rest = refl

pub one_by_home_more : (nodes : List Node) (centers node : ℕ) (s : StepTowards) (left rest steps : List StepTowards) (old new : List (Holding StepTowards)) → node ≡ home_at nodes centers s.peer →
    left ≡ s ∷ rest → AreByHomeSoFar nodes centers left steps old → AddsStep node s old new → AreByHomeSoFar nodes centers rest steps new
one_by_home_more nodes centers node s left rest steps old new home is far adds = record {
  count = adds.count ∙ far.count;
  each = λ j its e.
      let within : j < length old = let n = slice_get_within new j its e in let m = adds.count in omega (arith, n, m) in
      let was : Holding StepTowards = get_or old j its in
      let there : slice_get old j ≡ Some was = slice_get-get_or old j its within in
      ap (λ (xs : List StepTowards). xs ++ steps_at_home nodes centers j rest) (adds.each j was its there e)
      ∙ ap (λ (n : ℕ). (if n == j then was.items ++ s ∷ [] else was.items) ++ steps_at_home nodes centers j rest) home
      ∙ one_here (home_at nodes centers s.peer == j) was.items s (steps_at_home nodes centers j rest)
      ∙ ap (λ (ss : List StepTowards). was.items ++ steps_at_home nodes centers j ss) (sym is)
      ∙ far.each j was there;
}

pub all_by_home : (nodes : List Node) (centers : ℕ) (rest steps : List StepTowards) (all : List (Holding StepTowards)) → rest ≡ [] → AreByHomeSoFar nodes centers rest steps all →
    AreStepsByHome nodes centers steps all
all_by_home nodes centers rest steps all none far = record {
  count = far.count;
  each = λ j its e. sym (append-nil its.items) ∙ ap (λ (ss : List StepTowards). its.items ++ steps_at_home nodes centers j ss) (sym none) ∙ far.each j its e;
}

-- of a peer that is at home there they are all that are towards it
pub plan_at_home : (nodes : List Node) (centers j peer : ℕ) → is_at_home nodes centers j peer ≡ true → (steps : List StepTowards) → plan_of (steps_at_home nodes centers j steps) peer ≡ plan_of steps peer
plan_at_home nodes centers j peer here [] = refl
plan_at_home nodes centers j peer here (s ∷ steps) = go (is_at_home nodes centers j s.peer) (s.peer == peer) refl refl (plan_at_home nodes centers j peer here steps)
  where
    go : (a b : Bool) → is_at_home nodes centers j s.peer ≡ a → (s.peer == peer) ≡ b → plan_of (steps_at_home nodes centers j steps) peer ≡ plan_of steps peer →
        plan_of (if a then s ∷ steps_at_home nodes centers j steps else steps_at_home nodes centers j steps) peer ≡ cons_option (if b then Some s.step else None) (plan_of steps peer)
    go true true e f rest = rw f (ap (λ ps. s.step ∷ ps) rest)
    go true false e f rest = rw f rest
    go false false e f rest = rest
    go false true e f rest = absurd (false≢true (sym e ∙ ap (is_at_home nodes centers j) (eqb-true s.peer peer f) ∙ here))

-- of the threads from one on, these are what each is to do
abbrev pub AreNextSteps : List Node → (centers : ℕ) → List StepTowards → (center : ℕ) → List (Holding StepTowards) → Type 0
AreNextSteps nodes centers steps center left = (i : ℕ) (its : Holding StepTowards) → slice_get left i ≡ Some its → its.items ≡ steps_at_home nodes centers (center + i) steps

pub first_steps : (nodes : List Node) (centers : ℕ) (steps : List StepTowards) (all left : List (Holding StepTowards)) → left ≡ all → AreStepsByHome nodes centers steps all →
    AreNextSteps nodes centers steps 0 left
first_steps nodes centers steps all left same by i its e =
    by.each i its (ap (λ l. slice_get l i) (sym same) ∙ e) ∙ ap (λ (n : ℕ). steps_at_home nodes centers n steps) (let at : i ≡ 0 + i = omega arith in at)

pub these_steps : (nodes : List Node) (centers : ℕ) (steps : List StepTowards) (center : ℕ) (left : List (Holding StepTowards)) (its : Holding StepTowards) (rest : List (Holding StepTowards)) → left ≡ its ∷ rest →
    AreNextSteps nodes centers steps center left → its.items ≡ steps_at_home nodes centers center steps
these_steps nodes centers steps center left its rest is next =
    next 0 its (ap (λ l. slice_get l 0) is) ∙ ap (λ (n : ℕ). steps_at_home nodes centers n steps) (let at : center + 0 ≡ center = omega arith in at)

pub next_steps : (nodes : List Node) (centers : ℕ) (steps : List StepTowards) (center : ℕ) (left : List (Holding StepTowards)) (its : Holding StepTowards) (rest : List (Holding StepTowards)) → left ≡ its ∷ rest →
    AreNextSteps nodes centers steps center left → AreNextSteps nodes centers steps (center + 1) rest
next_steps nodes centers steps center left its rest is next i w e =
    next (suc i) w (ap (λ l. slice_get l (suc i)) is ∙ e) ∙ ap (λ (n : ℕ). steps_at_home nodes centers n steps) (let at : center + suc i ≡ (center + 1) + i = omega arith in at)
