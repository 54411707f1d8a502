use Rattle.std.proofs.Common.{◌<◌, sym, ◌∙◌, length, map, arith}
use Rattle.std.proofs.lemmas.List.{length-map}
use Rattle.m2_message.specs.Message.{content_of}
use Rattle.m2_queues.proofs.Unsent.{first_behind}
use Rattle.m2_queues.specs.OutQueuesFields.{content_ranked}
use Rattle.m2_queues.proofs.out_queues.OutQueues.first_unsent.Goals as goal

pub returns-then-self-kept : goal.returns-then-self-kept
returns-then-self-kept c =
    let q = c.self.inside in
    let within : q.cursor < length (map content_of q.messages.kept) = simp length-map (omega (arith, c.if-self-kept.true, c.kept.ensures)) in
    rw (← c.self.view_is) ((rw (← c.self.view_is) at c.at_cursor.ensures)
    ∙ sym (first_behind q.cursor (map content_of q.messages.kept) (map content_ranked q.messages.waiting) within))
