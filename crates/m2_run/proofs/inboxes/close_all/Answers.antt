-- From the last one on.
use Rattle.std.proofs.Common.{◌∙◌, reverse, ap, sym, subst}
use Rattle.std.specs.Prelude.{slice_get}
use Rattle.std.proofs.lemmas.List.{reverse-reverse}
use Rattle.m2_run.specs.Opened.{HasRoomsFor}
use Rattle.m2_run.proofs.inboxes.close_all.Goals as goal

pub close_each-closed-requires : goal.close_each-closed-requires
close_each-closed-requires g c =
    subst (λ bs. HasRoomsFor (slice_get bs) 0 c.args.ends.now) (sym (ap reverse c.reverse.ensures.items ∙ reverse-reverse c.args.inboxes.items)) c.requires
