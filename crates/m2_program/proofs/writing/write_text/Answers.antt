use Rattle.m2_program.proofs.Endings.{prints_flushed}
use Rattle.m2_program.proofs.writing.write_text.Goals as goal

pub returns-clause-prints : goal.returns-clause-prints
returns-clause-prints g c =
    prints_flushed c.flush.result c.args.text.now (g.K.Sink.seen c.args.sink.now) (g.K.Sink.seen c.write_whole.new.out) (g.K.Sink.seen c.flush.new.self)
    c.in_ok-write_whole.ensures.writes c.flush.ensures.taken c.flush.ensures.flushes
