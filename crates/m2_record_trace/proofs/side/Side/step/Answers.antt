use Rattle.std.proofs.Common.{refl}
use Rattle.m2_record.specs.m2_core.Granting.{Throttled}
use Rattle.m2_record.specs.Stepping.{Counted}
use Rattle.m2_record_trace.proofs.Stepping.{no_step}
use Rattle.m2_record_trace.proofs.side.Side.step.Goals as goal

pub returns-then-is_err : goal.returns-then-is_err
returns-then-is_err c =
    let bytes : Throttled = record { throttles = c.self.inside.throttles; before = c.self.inside.passes; behind = c.self.inside.passes } in
    let numbers : Counted = record { place = c.self.inside.numbers.place; before = c.self.inside.number_pass; behind = c.self.inside.number_pass } in
    rw (← c.self.view_is) (no_step c.args.now bytes numbers _ _ refl refl refl (rw (c.room_to_log.ensures.log, c.room_to_log.ensures.fast) refl))

pub returns : goal.returns
returns c = rw (← c.self.view_is) (record {
  stepped = c.step_record-stepped.result;
  worked = record {
    now = c.args.now;
    answer = c.step_record-stepped.result;
    bytes = record { throttles = c.self.inside.throttles; before = c.self.inside.passes; behind = c.step_record-stepped.new.passes };
    numbers = record { place = c.self.inside.numbers.place; before = c.self.inside.number_pass; behind = c.step_record-stepped.new.number_pass };
  };
  moment = refl;
  same = refl;
  answers = c.dispatch.ensures.answer;
  steps = c.step_record-stepped.ensures.steps;
  before = refl;
  only = rw (c.dispatch.ensures.word, c.dispatch.ensures.log, c.dispatch.ensures.fast, c.room_to_log.ensures.log, c.room_to_log.ensures.fast) refl;
})
