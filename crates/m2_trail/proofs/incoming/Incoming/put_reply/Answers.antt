-- A reply keeps what an incoming socket keeps.
use Rattle.std.proofs.Common.{sym, subst}
use Rattle.m2_trail.specs.Incoming.{IsAnswered}
use Rattle.m2_trail.proofs.Judging.{reply_kept}
use Rattle.m2_trail.proofs.incoming.Incoming.put_reply.Goals as goal

pub invariant_of-self-2 : goal.invariant_of-self-2
invariant_of-self-2 g c =
    let answered = subst (IsAnswered c.args.answer.now) (sym c.self.view_is) c.requires.judged in
    (reply_kept c.args.answer.now c.args.c.now _ _ _ answered.1.0 answered.0 answered.1.1 c.requires.reply c.self.invariant.0 c.in_ok-put_reply.ensures, c.self.invariant.1)
