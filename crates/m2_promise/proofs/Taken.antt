-- How many steps of a record's plan were taken: no fewer where its journal goes on.
use Rattle.std.proofs.Common.{◌≡◌, ℕ, ◌+◌, ◌≤◌, zero, suc, true, false, List, [], ◌∷◌, ◌++◌, length, None, refl, sym, ap, ◌∙◌, length-append, arith}
use Rattle.std.specs.Prelude.{slice_get}
use Rattle.std.proofs.lemmas.Option.{slice_get_past}
use Rattle.m2_links_go_on.specs.m2_weave.m2_journal.declared.entry.Entry.{Entry}
use Rattle.m2_links_go_on.specs.m2_weave.m2_journal.declared.entry.Entry.TheVariants as entry
use Rattle.m2_links_go_on.specs.m2_weave.m2_journal.declared.facts.PlanStep.{PlanStep}
use Rattle.m2_links_go_on.specs.m2_weave.m2_journal.Items.{Places, at_start, passed, passed_by, reach_of}
use Rattle.m2_script.specs.m2_record.IsRecord.{IsRecord}
use Rattle.m2_script.specs.m2_record.RecordNow.{RecordNow}
use Rattle.m2_links_go_on.specs.m2_weave.Later.{GoesOn}
use Rattle.m2_promise.specs.Planned.{IsTaken}

-- ---- entries

one_passed : (e : Entry) (p : Places) → p.steps ≤ (passed e p).steps
one_passed (entry.Post place) p = omega arith
one_passed entry.Dial p = omega arith
one_passed (entry.Down true) p = omega arith
one_passed (entry.Down false) p = omega arith
one_passed _ p = omega arith

all_passed : (es : List Entry) (p : Places) → p.steps ≤ (passed_by es p).steps
all_passed [] p = omega arith
all_passed (e ∷ es) p = let one = one_passed e p in let more = all_passed es (passed e p) in omega (arith, one, more)

passed-append : (xs ys : List Entry) (p : Places) → passed_by (xs ++ ys) p ≡ passed_by ys (passed_by xs p)
passed-append [] ys p = refl
passed-append (x ∷ xs) ys p = passed-append xs ys (passed x p)

-- ---- a record

-- it is the replay of its journal before and behind
pub no_fewer : (r s : RecordNow) → IsRecord r → IsRecord s → GoesOn r.journal s.journal → r.steps ≤ s.steps
no_fewer r s is later (more, e) =
    let before : r.steps ≡ (reach_of r.journal).steps = is.at_state.steps ∙ sym is.at_state.reach in
    let behind : s.steps ≡ (reach_of s.journal).steps = later.at_state.steps ∙ sym later.at_state.reach in
    let on : (reach_of s.journal).steps ≡ (passed_by more (reach_of r.journal)).steps =
    ap (λ (p : Places). p.steps) (ap reach_of e ∙ passed-append r.journal more at_start) in
    let all = all_passed more (reach_of r.journal) in
    omega (arith, before, behind, on, all)

past : {X : Type 0} (xs : List X) (n : ℕ) → slice_get xs n ≡ None → length xs ≤ n
past [] n e = omega arith
past (x ∷ xs) zero e = absurd cc
past (x ∷ xs) (suc n) e = let more = past xs n e in omega (arith, more)

-- the plan is as it was
pub taken_still : (r s : RecordNow) → s.plan ≡ r.plan → r.steps ≤ s.steps → IsTaken r → IsTaken s
taken_still r s plan few taken =
    let all = past r.plan r.steps taken in
    let same = ap length plan in
    slice_get_past s.plan s.steps (omega (arith, all, same, few))

-- a step more was planned and taken
pub taken_further : (x : PlanStep) (r s : RecordNow) → s.plan ≡ r.plan ++ x ∷ [] → s.steps ≡ r.steps + 1 → IsTaken r → IsTaken s
taken_further x r s plan one taken =
    let all = past r.plan r.steps taken in
    let more : length s.plan ≡ length r.plan + 1 = ap length plan ∙ length-append r.plan (x ∷ []) in
    slice_get_past s.plan s.steps (omega (arith, all, more, one))
