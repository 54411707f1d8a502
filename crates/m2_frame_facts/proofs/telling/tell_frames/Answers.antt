use Rattle.std.proofs.Common.{sym, subst, inr}
use Rattle.m2_frame_facts.specs.Head.{Tells}
use Rattle.m2_frame_facts.proofs.Told.{tells_nothing}
use Rattle.m2_frame_facts.proofs.telling.tell_frames.Goals as goal

pub returns-in-Err-Failed-clause-tells : goal.returns-in-Err-Failed-clause-tells
returns-in-Err-Failed-clause-tells g c =
    let src = g.S.Source.seen c.read_head.new.src in
    let out = g.O.Sink.seen c.args.out.now in
    subst (λ e. Tells c.args.style e src out out) (sym c.at_once.ensures) (inr (tt, tells_nothing c.args.style src out))

pub returns-in-Err-NoMemory-clause-tells : goal.returns-in-Err-NoMemory-clause-tells
returns-in-Err-NoMemory-clause-tells g c =
    let src = g.S.Source.seen c.read_head.new.src in
    let out = g.O.Sink.seen c.args.out.now in
    subst (λ e. Tells c.args.style e src out out) (sym c.at_once-in-Err-NoMemory.ensures) (inr (tt, tells_nothing c.args.style src out))
