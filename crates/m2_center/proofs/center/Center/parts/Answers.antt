-- What is lent is of the first record that is towards the peer.
use Rattle.std.proofs.Common.{Some, ap, subst, sym, ◌∙◌}
use Rattle.std.specs.Option.{IfSome, option_map}
use Rattle.m2_record.specs.IsRecord.{IsRecord}
use Rattle.m2_center.specs.Plans.{parts_of}
use Rattle.m2_center.proofs.Places.{found_so, none_found, same_parts, side_found}
use Rattle.m2_center.proofs.center.Center.parts.Goals as goal

pub returns-in-Some-clause-parts : goal.returns-in-Some-clause-parts
returns-in-Some-clause-parts g c =
    let found = found_so c.args.peer c.as_slice.result.now c.self.inside.records.items c.place_towards.result c.in-Some.place c.index.result.now c.place_towards.ensures.place c.in-Some.is c.as_slice.ensures.value c.index.ensures in
    let side = side_found c.args.peer c.self.inside.records.items c.args.self.now.records c.in-Some.place c.index.result.now found (ap (λ v. v.records) c.self.view_is) in
    let e = c.parts.ensures in
    ap (λ p. Some p) (same_parts c.index.result.now _ _ _ _ _ _ _ _ _ _ _ _ _ _ _ e.facts e.place e.session e.plan e.journal e.trails e.feed e.spent e.composed e.dry e.blocked e.held e.next_dial e.missed e.last)
    ∙ sym (ap (option_map parts_of) side)

pub returns-in-Some-clause-is_record : goal.returns-in-Some-clause-is_record
returns-in-Some-clause-is_record g c =
    let found = found_so c.args.peer c.as_slice.result.now c.self.inside.records.items c.place_towards.result c.in-Some.place c.index.result.now c.place_towards.ensures.place c.in-Some.is c.as_slice.ensures.value c.index.ensures in
    let side = side_found c.args.peer c.self.inside.records.items c.args.self.now.records c.in-Some.place c.index.result.now found (ap (λ v. v.records) c.self.view_is) in
    subst (λ o. IfSome o IsRecord) (sym side) c.parts.ensures.is_record

pub returns-in-None-clause-parts : goal.returns-in-None-clause-parts
returns-in-None-clause-parts g c =
    sym (ap (option_map parts_of)
    (none_found c.args.peer c.as_slice.result.now c.self.inside.records.items c.args.self.now.records c.place_towards.result c.place_towards.ensures.place c.in-None.is c.as_slice.ensures.value (ap (λ v. v.records) c.self.view_is)))

pub returns-in-None-clause-is_record : goal.returns-in-None-clause-is_record
returns-in-None-clause-is_record g c =
    subst (λ o. IfSome o IsRecord)
    (sym (none_found c.args.peer c.as_slice.result.now c.self.inside.records.items c.args.self.now.records c.place_towards.result c.place_towards.ensures.place c.in-None.is c.as_slice.ensures.value (ap (λ v. v.records) c.self.view_is)))
    tt
