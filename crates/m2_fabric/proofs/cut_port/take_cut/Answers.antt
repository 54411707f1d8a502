use Rattle.std.proofs.Common.{◌≡◌, ℕ, ◌<◌, List, length, Option, None, Some, refl, sym, ap, ◌∙◌, subst}
use Rattle.std.specs.Option.{option_map}
use Rattle.std.proofs.lemmas.Option.{slice_get_read}
use Rattle.m2_fabric.specs.Cuts.{bytes_at, place_of_cut, without_place}
use Rattle.m2_fabric.specs.declared.port.Cut.{Cut}
use Rattle.m2_fabric.proofs.cut_port.take_cut.Goals as goal

pub returns-in-None-clause-bound : goal.returns-in-None-clause-bound
returns-in-None-clause-bound c =
    let items = c.args.cuts.now.items in
    let place : None ≡ place_of_cut c.args.to.now items = c.in-None.ensures.place ∙ ap (place_of_cut c.args.to.now) c.as_slice.ensures.value in
    ap (λ (p : Option ℕ). bytes_at p items) place

pub returns-in-None-clause-left : goal.returns-in-None-clause-left
returns-in-None-clause-left c =
    let items = c.args.cuts.now.items in
    let place : None ≡ place_of_cut c.args.to.now items = c.in-None.ensures.place ∙ ap (place_of_cut c.args.to.now) c.as_slice.ensures.value in
    ap (λ (p : Option ℕ). without_place p items) place

pub returns-in-Some-clause-bound : goal.returns-in-Some-clause-bound
returns-in-Some-clause-bound c =
    let items = c.args.cuts.now.items in
    let at = c.in-Some.place in
    let place : Some at ≡ place_of_cut c.args.to.now items = c.in-Some.ensures.place ∙ ap (place_of_cut c.args.to.now) c.as_slice.ensures.value in
    let P : List Cut → Type 0 = λ cuts. at < length cuts in
    let within : at < length items = subst P c.as_slice.ensures.value c.in-Some.ensures.within in
    let found = slice_get_read items (length items) at c.remove.result refl within c.remove.ensures.value in
    ap (option_map (λ (cut : Cut). cut.bytes)) (sym found) ∙ ap (λ (p : Option ℕ). bytes_at p items) place

pub returns-in-Some-clause-left : goal.returns-in-Some-clause-left
returns-in-Some-clause-left c =
    let items = c.args.cuts.now.items in
    let place : Some c.in-Some.place ≡ place_of_cut c.args.to.now items =
    c.in-Some.ensures.place ∙ ap (place_of_cut c.args.to.now) c.as_slice.ensures.value in
    c.remove.ensures.items ∙ ap (λ (p : Option ℕ). without_place p items) place
