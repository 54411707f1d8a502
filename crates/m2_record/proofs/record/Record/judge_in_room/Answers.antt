use Rattle.std.proofs.Common.{subst, sym}
use Rattle.m2_record.specs.Judging.{CanBeJudged}
use Rattle.m2_record.specs.RecordNow.{RecordNow}
use Rattle.m2_record.proofs.Arriving.{can-judge}
use Rattle.m2_record.proofs.record.Record.judge_in_room.Goals as goal

pub verdict-verdict-requires : goal.verdict-verdict-requires
verdict-verdict-requires g c = record {
  can = can-judge c.args.a c.args.number _ (subst (λ (v : RecordNow). CanBeJudged c.args.a c.args.number v) (sym c.self.view_is) c.requires.can) c.is_arrival.ensures c.ask_facts.result c.self.invariant c.ask_facts.ensures.readable;
}
