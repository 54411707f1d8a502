-- Both sides woven.
use Rattle.std.proofs.Common.{◌∙◌, ap, map}
use Rattle.m2_history.specs.Ends.{end_now}
use Rattle.m2_history.specs.Woven.{row_now, rows_of}
use Rattle.m2_history.proofs.Orders.{weaves_of}
use Rattle.m2_history.proofs.weaving.weave_parts.Goals as goal
use Rattle.m2_weave.specs.Strands.{strand_now}

pub returns : goal.returns
returns g c =
    weaves_of c.weave_rows.result _ _ _
    (ap (map row_now) c.deref-3.ensures.value ∙ (c.in-Ok-rows_of.ensures ∙ (ap (λ es. rows_of (map end_now es)) c.deref.ensures.value ∙ ap rows_of c.in-Ok.ensures.ends)))
    (ap (map strand_now) c.deref-2.ensures.value ∙ c.in-Ok.ensures.strands) c.weave_rows.ensures
