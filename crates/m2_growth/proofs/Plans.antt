-- A record of a holding plans a step and takes it.
use Rattle.std.proofs.Common.{◌≡◌, inl, inr, ℕ, zero, suc, List, [], ◌∷◌, ◌++◌, Some, Result, Ok, Err, refl, sym, ap, subst, ◌∙◌}
use Rattle.std.specs.Prelude.{slice_get, slice_set}
use Rattle.m2_fabric.specs.m2_bytes.declared.memory.NoMemory as memory
use Rattle.m2_weave.specs.m2_journal.declared.facts.PlanStep.{PlanStep}
use Rattle.m2_turn.specs.m2_record.Calls.{planned_too}
use Rattle.m2_turn.specs.m2_record.RecordNow.{RecordNow, ends_of}
use Rattle.m2_turn.specs.Planning.{PlansNow, TakesNew}
use Rattle.m2_turn.proofs.GoesOn as journals
use Rattle.m2_growth.specs.Holding.{AreOwn, Grows}
use Rattle.m2_growth.specs.GrowthLaws.{PlansGrow, at_plans}
use Rattle.m2_growth.proofs.Ends.{AreLater, later_by}
use Rattle.m2_growth.proofs.OneRecord.{Advances, advances_alike, advances_chain, advances_room, one_advances}
use Rattle.m2_growth.proofs.RecordTurns.{StepsOn, advances_on}
use Rattle.m2_growth.proofs.Steps as stepping

-- ---- a list, parted at a place

pub record IsParted (rs : List RecordNow) (place : ℕ) (side behind : RecordNow) : Type 0 where
  pub before : List RecordNow
  pub rest : List RecordNow
  pub was : rs ≡ before ++ side ∷ rest
  pub is : slice_set rs place behind ≡ before ++ behind ∷ rest

parted : (rs : List RecordNow) (place : ℕ) (side behind : RecordNow) → slice_get rs place ≡ Some side → IsParted rs place side behind
parted [] place side behind e = absurd cc
parted (r ∷ rs) zero side behind e = record { before = []; rest = rs; was = cc; is = refl }
parted (r ∷ rs) (suc n) side behind e =
    let more = parted rs n side behind e in
    record { before = r ∷ more.before; rest = more.rest; was = ap (λ l. r ∷ l) more.was; is = ap (λ l. r ∷ l) more.is }

-- ---- the record

-- it advances, and its ends are the same, later
record Goes (r s : RecordNow) : Type 0 where
  advances : Advances r s
  ends : AreLater (ends_of r) (ends_of s)

planned : (x : PlanStep) (r : RecordNow) → Advances r (planned_too x r)
planned x r = advances_alike r (planned_too x r) refl refl (x ∷ [], refl) refl refl (λ h. h)

takes_new : (x : PlanStep) (now : ℕ) (old new : RecordNow) → TakesNew x now old new → Goes old new
takes_new x now old new t =
    let steps : StepsOn (planned_too x t.mid) new = record { moves = stepping.plans (Some x) (Ok tt) now (planned_too x t.mid) new t.takes; journal = journals.plans (Some x) (Ok tt) now (planned_too x t.mid) new t.takes } in
    record {
      advances = advances_chain old t.mid new (advances_room old t.mid t.room)
          (advances_chain t.mid (planned_too x t.mid) new (planned x t.mid) (advances_on (planned_too x t.mid) new steps));
      ends = subst (λ es. AreLater es (ends_of new)) (ap ends_of t.room) steps.moves.stands.ends;
    }

plans_now : (result : Result (Unit {0}) memory.NoMemory) (x : PlanStep) (now : ℕ) (old new : RecordNow) → PlansNow result x now old new → Goes old new
plans_now (Ok u) x now old new t = takes_new x now old new t
plans_now (Err u) x now old new (inl e) = record { advances = advances_room old new e; ends = later_by (ends_of old) (ends_of new) (ap ends_of e) }
plans_now (Err u) x now old new (inr e) = record {
  advances = advances_chain old (planned_too x old) new (planned x old) (advances_room (planned_too x old) new e);
  ends = later_by (ends_of old) (ends_of new) (ap ends_of e);
}

-- ---- among the others

pub plans_grow : PlansGrow
plans_grow result x now port halves old new p own =
    let parts = parted old p.place p.before p.behind p.side in
    let goes = plans_now result x now p.before p.behind p.plans in
    subst (λ l. Grows (at_plans port halves old) (at_plans port halves l)) (sym (p.records ∙ parts.is))
    (subst (λ l. Grows (at_plans port halves l) (at_plans port halves (parts.before ++ p.behind ∷ parts.rest))) (sym parts.was)
    (one_advances port port parts.before parts.rest p.before p.behind halves (record { at = refl; made = refl; waiting = refl }) goes.advances goes.ends
    (subst (λ l. AreOwn (at_plans port halves l)) parts.was own)))
