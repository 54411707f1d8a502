-- A throttle that is alone tells how many bytes are out.
use Rattle.std.proofs.Common.{◌≡◌, ℕ, if◌then◌else◌, Option, None, Some, ◌∙◌, ap}
use Rattle.std.specs.Option.{is_none}
use Rattle.m2_shared.specs.Gates.{Places, dispatch}
use Rattle.m2_shared.specs.Place.{Place}
use Rattle.m2_shared.specs.Throttle.{out_alone}
use Rattle.m2_record_trace.specs.SideNow.{AreAlone, Means}

pub out_is_told : (m : Means) (limit : ℕ) (out : Option ℕ) → AreAlone m limit → out ≡ out_alone m.passes.dispatch → out ≡ None → ⊥
out_is_told m limit out alone is none =
    let place : m.passes.dispatch.place ≡ None = ap (λ (at : Places). at dispatch) alone.passes ∙ alone.throttles dispatch in
    let some : out ≡ Some m.passes.dispatch.word = is ∙ ap (λ (p : Place). if is_none p then Some m.passes.dispatch.word else None) place in
    cc (none, some)
