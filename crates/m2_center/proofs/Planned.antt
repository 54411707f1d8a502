-- A step that is added to a plan, each step of which was taken.
use Rattle.std.specs.Prelude.{slice_get}
use Rattle.std.specs.Option.{is_some}
use Rattle.std.proofs.Common.{◌≡◌, inl, inr, ℕ, suc, zero, ◌≤◌, List, [], ◌∷◌, ◌++◌, length, Some, None, Result, Ok, Err, OnOk, refl, sym, ap, subst, ◌∙◌, arith}
use Rattle.std.proofs.lemmas.List.{length-map}
use Rattle.m2_bytes.specs.declared.memory.NoMemory as memory
use Rattle.m2_journal.specs.declared.facts.PlanStep.{PlanStep}
use Rattle.m2_journal.specs.declared.facts.PlanStep.TheVariants as step
use Rattle.m2_journal.specs.Plan.{planned}
use Rattle.m2_shared.specs.Gates.{held}
use Rattle.m2_record.specs.Calls.{IsSameButRoom, TakesNext, planned_too, returned_by}
use Rattle.m2_record.specs.Due.{next_step}
use Rattle.m2_record.specs.IsRecord.{IsRecord}
use Rattle.m2_record.specs.RecordNow.{RecordNow}
use Rattle.m2_turn.specs.Answering.{StaysBeside}
use Rattle.m2_turn.specs.Planning.{PlansNow}
use Rattle.m2_turn.specs.Steps.{GoesOn}
use Rattle.m2_turn.proofs.GoesOn.{chain, plans, room_alone, same}
use Rattle.m2_turn.proofs.Known.{goes_on_stays}
use Rattle.m2_bytes.proofs.m2_lemmas.Booleans.{false_isnt_true}

-- ---- the new step is the next one

behind_all : (xs : List PlanStep) (n : ℕ) (x : PlanStep) → n ≤ length xs → slice_get xs n ≡ None → slice_get (xs ++ x ∷ []) n ≡ Some x
behind_all [] zero x within none = refl
behind_all [] (suc n) x within none = absurd (omega (arith, within))
behind_all (y ∷ ys) zero x within none = absurd (false_isnt_true (sym (ap is_some none)))
behind_all (y ∷ ys) (suc n) x within none = behind_all ys n x (omega (arith, within)) none

within_plan : (r : RecordNow) → IsRecord r → r.steps ≤ length r.plan
within_plan r is =
    let steps = is.at_state.steps in
    let reach = is.at_state.reach in
    let covering = is.at_state.replay.covering.steps in
    let planned = length-map r.plan planned in
    omega (arith, steps, reach, covering, planned)

pub is_next : (r mid : RecordNow) (x : PlanStep) → IsRecord r → next_step r ≡ None → IsSameButRoom r mid → next_step (planned_too x mid) ≡ Some x
is_next r mid x is none room =
    ap (λ (v : RecordNow). slice_get (v.plan ++ x ∷ []) v.steps) room ∙ behind_all r.plan r.steps x (within_plan r is) none

-- ---- what is left

by_taking : (r mid new : RecordNow) (x : PlanStep) (result : Result (Unit {0}) memory.NoMemory) (now : ℕ) → IsSameButRoom r mid → TakesNext (Some x) result now (planned_too x mid) new → PlansNow result x now r new
by_taking r mid new x (Ok done) now room takes = record { mid = mid; room = room; takes = takes }
by_taking r mid new x (Err e) now room takes = inr (untaken x takes)
  where
    untaken : (y : PlanStep) → TakesNext (Some y) (Err e) now (planned_too x mid) new → IsSameButRoom (planned_too x r) new
    untaken (step.Post m) h = subst (λ (v : RecordNow). v ≡ record (planned_too x r) { room = v.room }) (sym h) (ap (planned_too x) room)
    untaken step.Dial h = elim h [ ]
    untaken step.Down h = elim h [ ]

goes_on : (r new : RecordNow) (x : PlanStep) (result : Result (Unit {0}) memory.NoMemory) (now : ℕ) → PlansNow result x now r new → GoesOn r new
goes_on r new x (Ok done) now t =
    chain r t.mid new (room_alone r t.mid t.room) (chain t.mid (planned_too x t.mid) new (same t.mid (planned_too x t.mid) refl refl) (plans (Some x) (Ok tt) now (planned_too x t.mid) new t.takes))
goes_on r new x (Err e) now (inl room) = room_alone r new room
goes_on r new x (Err e) now (inr added) = same r new (ap (λ (v : RecordNow). v.journal) added) (ap (λ (v : RecordNow). v.core.facts) added)

pub planned_stays : (r new : RecordNow) (x : PlanStep) (result : Result (Unit {0}) memory.NoMemory) (now : ℕ) → IsRecord r → IsRecord new → PlansNow result x now r new → StaysBeside r new
planned_stays r new x result now was is p = goes_on_stays r new (goes_on r new x result now p) was is

top_taken : (x : PlanStep) (now : ℕ) (old new : RecordNow) → TakesNext (Some x) (Ok tt) now old new → new.core.top ≡ old.core.top
top_taken (step.Post m) now old new e = ap (λ (v : RecordNow). v.core.top) e
top_taken step.Dial now old new e = ap (λ (v : RecordNow). v.core.top) e
top_taken step.Down now old new e = ap (λ (v : RecordNow). v.core.top) e

pub top_planned : (r new : RecordNow) (x : PlanStep) (result : Result (Unit {0}) memory.NoMemory) (now : ℕ) → PlansNow result x now r new → new.core.top ≡ r.core.top
top_planned r new x (Ok done) now t = top_taken x now (planned_too x t.mid) new t.takes ∙ ap (λ (v : RecordNow). v.core.top) t.room
top_planned r new x (Err e) now (inl room) = ap (λ (v : RecordNow). v.core.top) room
top_planned r new x (Err e) now (inr added) = ap (λ (v : RecordNow). v.core.top) added

-- ---- as the code comes to it

module _ (r mid added : RecordNow) (x : PlanStep) (is : IsRecord r) (none : next_step r ≡ None) (room : IsSameButRoom r mid) (adds : added ≡ planned_too x mid) where
  pub took_new : (new : RecordNow) (result : Result (Unit {0}) memory.NoMemory) (now : ℕ) → TakesNext (next_step added) result now added new → PlansNow result x now r new
  took_new new result now takes =
      by_taking r mid new x result now room
      (subst (λ o. TakesNext o result now (planned_too x mid) new) (is_next r mid x is none room) (subst (λ (v : RecordNow). TakesNext (next_step v) result now v new) adds takes))

  pub returned_new : returned_by (next_step added) added ≡ returned_by (Some x) r
  returned_new = ap (λ (v : RecordNow). returned_by (next_step v) v) adds ∙ ap (λ o. returned_by o (planned_too x mid)) (is_next r mid x is none room) ∙ held_same x
    where
      held_same : (y : PlanStep) → returned_by (Some y) (planned_too x mid) ≡ returned_by (Some y) r
      held_same (step.Post m) = refl
      held_same step.Dial = refl
      held_same step.Down = ap (λ (v : RecordNow). held v.core.live.granted) room

pub on_ok : {P : Type 0} (result : Result (Unit {0}) memory.NoMemory) → P → OnOk result P
on_ok (Ok done) p = p
on_ok (Err e) p = tt
