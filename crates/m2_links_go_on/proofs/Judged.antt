-- Records that judge asks hand nothing on, in the turns of all halves.
use Rattle.std.proofs.Common.{◌≡◌, ℕ, zero, suc, List, [], ◌∷◌, Some, refl, ap, subst}
use Rattle.std.specs.Prelude.{slice_get, slice_set}
use Rattle.m2_history.specs.m2_record.RecordNow.{RecordNow}
use Rattle.m2_cluster.specs.m2_center.m2_turn.declared.halves_turn.HalvesTurn.{HalvesTurn}
use Rattle.m2_cluster.specs.m2_center.m2_turn.HalvesTurn.{Callers, TurnsHalves}
use Rattle.m2_cluster.specs.m2_center.m2_turn.RecordTurn.{Means}
use Rattle.m2_cluster.proofs.m2_center.m2_turn.Handed.{HandsNone}
use Rattle.m2_cluster.proofs.m2_center.m2_turn.Steady.{StaySteady, halves_stay_steady, steady_of}

-- each has handed on as many
abbrev pub HandNone : List RecordNow → List RecordNow → Type 0
HandNone [] [] = Unit {0}
HandNone (r ∷ rs) (s ∷ ss) = HandsNone r s × HandNone rs ss
HandNone _ _ = ⊥

pub none_same : (rs : List RecordNow) → HandNone rs rs
none_same [] = tt
none_same (r ∷ rs) = (refl, none_same rs)

pub none_set : (rs : List RecordNow) (place : ℕ) (side behind : RecordNow) → slice_get rs place ≡ Some side → HandsNone side behind → HandNone rs (slice_set rs place behind)
none_set [] place side behind e h = absurd cc
none_set (r ∷ rs) zero side behind e h = let same : side ≡ r = cc in (subst (λ (x : RecordNow). HandsNone x behind) same h, none_same rs)
none_set (r ∷ rs) (suc n) side behind e h = (refl, none_set rs n side behind e h)

steady_none : (rs ss : List RecordNow) → StaySteady rs ss → HandNone rs ss
steady_none [] [] e = tt
steady_none (r ∷ rs) (s ∷ ss) e =
    let first : steady_of s ≡ steady_of r = cc in
    let rest : StaySteady rs ss = cc in
    (ap (λ x. x.2) first, steady_none rs ss rest)
steady_none [] (s ∷ ss) e = absurd cc
steady_none (r ∷ rs) [] e = absurd cc

pub halves_hand_none : (E : Type 0) (result : HalvesTurn) (m : Means) (old new : Callers) → TurnsHalves E result m old new → HandNone old.homes.records new.homes.records
halves_hand_none E result m old new t = steady_none old.homes.records new.homes.records (halves_stay_steady E result m old new t)
