-- The stages of a turn in which no record hands a parcel out.
use Rattle.std.proofs.Common.{◌≡◌, ap}
use Rattle.m2_dispatch.specs.Heard.{Heard}
use Rattle.m2_turn.specs.Handing.{handed_in}
use Rattle.m2_turn.specs.RecordTurn.{Means}
use Rattle.m2_center.specs.Center.{CenterNow}
use Rattle.m2_center.specs.CenterTurn.{AcceptsSo, Answer, AnswersSo, DeliversSo, callers_of}
use Rattle.m2_turn.proofs.MoreHanded.{steady_handed}
use Rattle.m2_turn.proofs.Steady.{halves_stay_steady}
use Rattle.std.specs.Prelude.{List}

module _ {D : Type 0} where
  pub accepts_none : (answer : Answer) (old new : CenterNow D) → AcceptsSo answer old new → handed_in new.records ≡ handed_in old.records
  accepts_none answer old new (result, _, a) = ap (λ (c : CenterNow D). handed_in c.records) a.only

  pub answers_none : (E : Type 0) (m : Means) (answer : Answer) (old new : CenterNow D) → AnswersSo E m answer old new → handed_in new.records ≡ handed_in old.records
  answers_none E m answer old new (result, _, t) = steady_handed old.records new.records (halves_stay_steady E result m (callers_of old) (callers_of new) t.turns)

  pub delivers_none : (heard : D → List Heard) (m : Means) (answer : Answer) (old new : CenterNow D) → DeliversSo heard m answer old new → handed_in new.records ≡ handed_in old.records
  delivers_none heard m answer old new (result, _, e) = ap (λ (c : CenterNow D). handed_in c.records) e.only
