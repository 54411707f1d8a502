use Rattle.std.proofs.Common.{ap, map, string_bytes}
use Rattle.m2_edge.specs.Sink.{SeenSink}
use Rattle.m2_cli.specs.Form.{form_in}
use Rattle.m2_cli.proofs.Programs.{program_done}
use Rattle.m2_cli.proofs.program.run_program.Goals as goal

pub returns : goal.returns
returns g c = record {
  done =
      program_done _ _ _ (form_in (map string_bytes c.args.args.now)) c.msgr2-status.result _ _ c.msgr2-status.ensures.ends
      (ap (λ (s : SeenSink). s.taken) c.new-out.ensures) (ap (λ (s : SeenSink). s.flushed) c.new-out.ensures);
}
