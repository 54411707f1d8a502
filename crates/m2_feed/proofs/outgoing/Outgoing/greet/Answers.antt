use Rattle.std.proofs.Common.{drop, subst}
use Rattle.m2_bytes.specs.Blob.{Contents}
use Rattle.m2_handshake.specs.Half.{writer}
use Rattle.m2_feed.specs.Calls.{HalfWrites}
use Rattle.m2_feed.proofs.Answering.{half_writes, signs_only_as, answers_shorter}
use Rattle.m2_feed.proofs.outgoing.Outgoing.greet.Goals as goal

pub returns-clause-writes : goal.returns-clause-writes
returns-clause-writes c =
    let o = c.self.inside in
    let r = c.next.result in
    let before = c.args.half.now in
    let after = c.next.new.self in
    subst (λ (v : Contents). HalfWrites r before.standing after.standing v.bytes (drop o.put c.next.new.out.bytes)) c.self.view_is
    (half_writes r before after o.text c.next.new.out o.put c.self.invariant c.next.ensures.answer)

pub returns-clause-stage : goal.returns-clause-stage
returns-clause-stage c = signs_only_as c.next.result (writer c.args.half.now c.self.inside.text) (writer c.next.new.self c.next.new.out) c.next.ensures.answer

pub returns-clause-shorter : goal.returns-clause-shorter
returns-clause-shorter c = answers_shorter c.next.result (writer c.args.half.now c.self.inside.text) (writer c.next.new.self c.next.new.out) c.next.ensures.answer
