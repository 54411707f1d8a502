-- Those that are over come back as many as they were, and so do the halves.
use Rattle.std.proofs.Common.{◌≡◌, ◌-◌, ◌≤◌, OnOk, OnErr, sym, subst, ◌∙◌}
use Rattle.std.proofs.lemmas.List.{with_items_is}
use Rattle.m2_turn.specs.Halves.{halves_of}
use Rattle.m2_turn.specs.Hearing.{after_hearing}
use Rattle.m2_center.proofs.Reached.{by_both, half_count}
use Rattle.m2_center.proofs.reaching.one_half_hears.Goals as goal

pub returns : goal.returns
returns g c =
    let back = with_items_is c.args.loose.now c.half_hears.new.loose (c.half_hears.auto.loose ∙ c.as_mut_slice.ensures.len) in
    record {
      ok = by_both (λ was is. OnOk c.half_hears.result (halves_of c.half_hears.new.halves is ≡ after_hearing c.args.id.now c.args.news c.args.bytes.now (halves_of c.args.halves.now was)))
          _ _ _ _ c.as_mut_slice.ensures.value (sym back) c.half_hears.ensures.ok;
      err = by_both (λ was is. OnErr c.half_hears.result ((c.half_hears.new.halves ≡ c.args.halves.now) × (is ≡ was))) _ _ _ _ c.as_mut_slice.ensures.value (sym back) c.half_hears.ensures.err;
      room = subst (λ n. n ≤ c.args.loose.now.cap - c.args.loose.now.len)
          (sym (half_count c.half_hears.result c.args.id.now c.args.news c.args.bytes.now (halves_of c.args.halves.now c.as_mut_slice.result.now) (halves_of c.half_hears.new.halves c.half_hears.new.loose)
          c.half_hears.ensures.ok c.half_hears.ensures.err))
          c.requires;
    }
