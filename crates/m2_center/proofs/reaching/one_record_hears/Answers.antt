-- The records that were lent come back as many as they were.
use Rattle.std.proofs.Common.{◌≡◌, OnOk, OnErr, sym, ◌∙◌}
use Rattle.std.proofs.lemmas.List.{with_items_is}
use Rattle.m2_center.specs.RecordEnds.{records_hear}
use Rattle.m2_center.proofs.Reached.{by_both}
use Rattle.m2_center.proofs.reaching.one_record_hears.Goals as goal

pub returns : goal.returns
returns g c =
    let back = with_items_is c.args.records.now c.records_hear.new.records (c.records_hear.auto.records ∙ c.as_mut_slice.ensures.len) in
    record {
      ok = by_both (λ was is. OnOk c.records_hear.result (is ≡ records_hear c.args.id.now c.args.news c.args.bytes.now was)) _ _ _ _ c.as_mut_slice.ensures.value (sym back) c.records_hear.ensures.ok;
      err = by_both (λ was is. OnErr c.records_hear.result (is ≡ was)) _ _ _ _ c.as_mut_slice.ensures.value (sym back) c.records_hear.ensures.err;
    }
