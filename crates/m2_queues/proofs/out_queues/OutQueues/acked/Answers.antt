use Rattle.std.proofs.Common.{◌-◌, refl, sym, arith}
use Rattle.std.proofs.lemmas.List.{drop-map}
use Rattle.m2_message.specs.Message.{content_of}
use Rattle.m2_queues.proofs.out_queues.OutQueues.acked.Goals as goal

pub returns-clause-ok : goal.returns-clause-ok
returns-clause-ok c =
    let says = sym (drop-map content_of (c.args.number - c.self.inside.base) c.self.inside.messages.kept) in
    rw (← c.self.view_is, c.let_go.ensures, c.max-self-inside.ensures, c.saturating_sub-self-inside.ensures, c.saturating_sub-gone.ensures, says) (omega arith, refl)
