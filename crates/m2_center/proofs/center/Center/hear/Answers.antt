-- What a center keeps where one of its ends is told something, by whose end it is.
use Rattle.std.proofs.Common.{sym, ◌∙◌}
use Rattle.m2_center.proofs.Reached.{by_half, by_port, by_record, heard_all, heard_center, heard_ends, heard_err, heard_ok, heard_rest, peers_stay}
use Rattle.m2_center.proofs.center.Center.hear.Goals as goal

-- ---- of a record

pub invariant_of-self : goal.invariant_of-self
invariant_of-self g c =
    let was = c.self.invariant in
    let r = c.one_record_hears.result in
    let k = by_record _ _ c.self.view_is r c.args.id.now c.args.news c.args.bytes.now _ c.as_slice.result.now c.as_slice.ensures.value (sym c.any_has_end.ensures ∙ c.if-any_has_end.true)
    c.one_record_hears.ensures.ok c.one_record_hears.ensures.err in (
      heard_center _ _ c.self.view_is r c.args.id.now c.args.news c.args.bytes.now _ k.0 k.1 was.0,
      was.1 ∙ peers_stay r c.args.id.now c.args.news c.args.bytes.now _ _ c.one_record_hears.ensures.ok c.one_record_hears.ensures.err,
      was.2,
      was.3,
    )

pub returns-then-any_has_end : goal.returns-then-any_has_end
returns-then-any_has_end g c =
    let r = c.one_record_hears.result in
    let k = by_record _ _ c.self.view_is r c.args.id.now c.args.news c.args.bytes.now _ c.as_slice.result.now c.as_slice.ensures.value (sym c.any_has_end.ensures ∙ c.if-any_has_end.true)
    c.one_record_hears.ensures.ok c.one_record_hears.ensures.err in
    record {
      ok = heard_ok _ _ c.self.view_is r c.args.id.now c.args.news c.args.bytes.now _ k.0 k.1;
      ends = heard_ends _ _ c.self.view_is r c.args.id.now c.args.news c.args.bytes.now _ k.0 k.1;
      all = heard_all _ _ c.self.view_is r c.args.id.now c.args.news c.args.bytes.now _ k.0 k.1;
      err = heard_err _ _ c.self.view_is r c.args.id.now c.args.news c.args.bytes.now _ k.0 k.1;
      rest = heard_rest _ _ c.self.view_is r c.args.id.now c.args.news c.args.bytes.now _ k.0 k.1;
    }

-- ---- of a half

pub invariant_of-self-then-has_half : goal.invariant_of-self-then-has_half
invariant_of-self-then-has_half g c =
    let was = c.self.invariant in
    let r = c.one_half_hears.result in
    let k = by_half _ _ c.self.view_is r c.args.id.now c.args.news c.args.bytes.now _ _ c.as_slice-2.result.now c.as_slice.result.now c.as_slice.ensures.value (sym c.any_has_end.ensures ∙ c.if-any_has_end.false)
    c.as_slice-2.ensures.value (sym c.has_half.ensures ∙ c.if-has_half.true) c.one_half_hears.ensures.ok c.one_half_hears.ensures.err in (
      heard_center _ _ c.self.view_is r c.args.id.now c.args.news c.args.bytes.now _ k.0 k.1 was.0,
      was.1,
      c.one_half_hears.ensures.room,
      was.3,
    )

pub returns-then-has_half : goal.returns-then-has_half
returns-then-has_half g c =
    let r = c.one_half_hears.result in
    let k = by_half _ _ c.self.view_is r c.args.id.now c.args.news c.args.bytes.now _ _ c.as_slice-2.result.now c.as_slice.result.now c.as_slice.ensures.value (sym c.any_has_end.ensures ∙ c.if-any_has_end.false)
    c.as_slice-2.ensures.value (sym c.has_half.ensures ∙ c.if-has_half.true) c.one_half_hears.ensures.ok c.one_half_hears.ensures.err in
    record {
      ok = heard_ok _ _ c.self.view_is r c.args.id.now c.args.news c.args.bytes.now _ k.0 k.1;
      ends = heard_ends _ _ c.self.view_is r c.args.id.now c.args.news c.args.bytes.now _ k.0 k.1;
      all = heard_all _ _ c.self.view_is r c.args.id.now c.args.news c.args.bytes.now _ k.0 k.1;
      err = heard_err _ _ c.self.view_is r c.args.id.now c.args.news c.args.bytes.now _ k.0 k.1;
      rest = heard_rest _ _ c.self.view_is r c.args.id.now c.args.news c.args.bytes.now _ k.0 k.1;
    }

-- ---- of one that waits at the port, or of none

pub invariant_of-self-2 : goal.invariant_of-self-2
invariant_of-self-2 g c =
    let was = c.self.invariant in
    let r = c.hear.result in
    let k = by_port _ _ c.self.view_is r c.args.id.now c.args.news c.args.bytes.now _ c.as_slice-2.result.now c.as_slice.result.now c.as_slice.ensures.value (sym c.any_has_end.ensures ∙ c.if-any_has_end.false)
    c.as_slice-2.ensures.value (sym c.has_half.ensures ∙ c.if-has_half.false) c.hear.ensures.ok c.hear.ensures.err in
    (heard_center _ _ c.self.view_is r c.args.id.now c.args.news c.args.bytes.now _ k.0 k.1 was.0, was.1, was.2, was.3)

pub returns : goal.returns
returns g c =
    let r = c.hear.result in
    let k = by_port _ _ c.self.view_is r c.args.id.now c.args.news c.args.bytes.now _ c.as_slice-2.result.now c.as_slice.result.now c.as_slice.ensures.value (sym c.any_has_end.ensures ∙ c.if-any_has_end.false)
    c.as_slice-2.ensures.value (sym c.has_half.ensures ∙ c.if-has_half.false) c.hear.ensures.ok c.hear.ensures.err in
    record {
      ok = heard_ok _ _ c.self.view_is r c.args.id.now c.args.news c.args.bytes.now _ k.0 k.1;
      ends = heard_ends _ _ c.self.view_is r c.args.id.now c.args.news c.args.bytes.now _ k.0 k.1;
      all = heard_all _ _ c.self.view_is r c.args.id.now c.args.news c.args.bytes.now _ k.0 k.1;
      err = heard_err _ _ c.self.view_is r c.args.id.now c.args.news c.args.bytes.now _ k.0 k.1;
      rest = heard_rest _ _ c.self.view_is r c.args.id.now c.args.news c.args.bytes.now _ k.0 k.1;
    }
