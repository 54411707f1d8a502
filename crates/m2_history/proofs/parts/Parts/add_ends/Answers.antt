-- The feed's end, and then the spent ones.
use Rattle.std.proofs.Common.{◌++◌, map, ap, ◌∙◌}
use Rattle.m2_history.specs.Ends.{end_now}
use Rattle.m2_history.specs.Parts.{PartsNow}
use Rattle.m2_history.specs.Woven.{end_of}
use Rattle.m2_history.proofs.Known.{all_ends}
use Rattle.m2_history.proofs.parts.Parts.add_ends.Goals as goal

pub returns : goal.returns
returns g c =
    all_ends end_now _ c.self.inside.journal.now.items _ _ c.args.ends.now.items _ _ c.in_ok-opened.ensures c.in_ok-add_feed.ensures c.in_ok-add_spent.ensures
    ∙ ap (λ (p : PartsNow). map end_now c.args.ends.now.items ++ map (end_of p.journal) p.ends) c.self.view_is
