use Rattle.std.proofs.Common.{◌∙◌, refl, sym}
use Rattle.m2_record.proofs.Planning.{handed-one}
use Rattle.m2_record.proofs.record.Record.hand.Goals as goal

pub invariant_of-self : goal.invariant_of-self
invariant_of-self g c = handed-one _ c.pop_front-parcel.result c.pop_front-parcel.new.self.items c.self.inside.handed.bytes c.and-self-inside.result.bytes _ _ c.self.invariant c.pop_front-parcel.ensures.items
    (sym c.is_some.ensures ∙ c.if-is_some.true) refl c.and-self-inside.ensures refl
