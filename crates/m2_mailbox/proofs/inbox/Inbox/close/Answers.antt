use Rattle.std.proofs.Common.{◌≡◌, ◌<◌, ◌≤◌, ◌++◌, true, false, sym, ap, ◌∙◌, subst}
use Rattle.crossbeam_queue.specs.Passes.{view}
use Rattle.m2_mailbox.specs.Merge.{IsMerge}
use Rattle.m2_mailbox.specs.Passes.{capacity_of, taken_of}
use Rattle.m2_mailbox.specs.Views.{parts_in, puts_in, takes_in, taken_in, reunited}
use Rattle.m2_mailbox.proofs.Keeps.{reunites, reunited_knows, sees_rest, items_length}
use Rattle.m2_mailbox.proofs.inbox.Inbox.close.Goals as goal

pub absorb-requires-clause-rule : goal.absorb-requires-clause-rule
absorb-requires-clause-rule g c =
    reunites g.T.Item.belongs _ _ _ _
    (subst (λ s. 0 < parts_in (view s)) (sym c.into_seen-seen.ensures) c.requires.put.3)
    (subst (λ s. takes_in (view s) ≡ false) (sym c.into_seen-seen.ensures) c.requires.put.2)
    (subst (λ s. parts_in (view s) ≡ 0) (sym c.into_seen.ensures) c.requires.get.2)
    (subst (λ s. takes_in (view s) ≡ true) (sym c.into_seen.ensures) c.requires.get.3)

pub len_as-requires-clause-rule : goal.len_as-requires-clause-rule
len_as-requires-clause-rule g c = sees_rest g.T.Item.belongs _ _

pub returns-clause-held : goal.returns-clause-held
returns-clause-held g c =
    let put = c.args.put.seen in
    let get = c.args.get.seen in
    let now = c.absorb.ensures.rule ∙ ap (λ s. reunited (view s) (view c.into_seen.result)) c.into_seen-seen.ensures ∙ ap (λ s. reunited (view put) (view s)) c.into_seen.ensures in
    let knows = reunited_knows (view put) (view get) c.requires.put.3 c.requires.get.3 in
    let counted = c.len_as.ensures.rule in
    let seen = counted.1 in
    let fact = seen.2 (ap parts_in now ∙ knows.0 ∙ c.requires.only) (ap takes_in now ∙ knows.1) in
    let held = fact.0 in
    let n = items_length seen.0 held fact.1 ∙ seen.1 in (
      held,
      subst (λ m. m ≤ capacity_of c.args.self) (sym n) counted.0,
      subst (λ p. IsMerge _ p (taken_of c.args.get ++ held)) (ap puts_in now ∙ knows.2)
          (subst (λ t. IsMerge _ (puts_in (view c.absorb.new.pass)) (t ++ held)) (ap taken_in now ∙ knows.3) fact.2),
    )
