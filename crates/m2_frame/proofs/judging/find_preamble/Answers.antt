use Rattle.std.proofs.Common.{◌≡◌, ◌∙◌, ap, sym, Err, take, arith}
use Rattle.m2_frame.specs.Preamble.{read_preamble}
use Rattle.m2_frame.proofs.Judge.{judge-short, size_of-short, judge-refused, size_of-refused}
use Rattle.m2_frame.proofs.Memory.{owed-none}
use Rattle.m2_frame.proofs.judging.find_preamble.Goals as goal

pub returns-then-rest-lt-PREAMBLE_BYTES : goal.returns-then-rest-lt-PREAMBLE_BYTES
returns-then-rest-lt-PREAMBLE_BYTES c =
    let rest = c.args.rest.now in
    (owed-none rest c.args.granted (size_of-short rest (omega arith)), judge-short rest (omega arith))

pub returns-in-Err : goal.returns-in-Err
returns-in-Err c =
    let rest = c.args.rest.now in
    let read : read_preamble (take 32 rest) ≡ Err c.in-Err.f = ap read_preamble (sym c.split_at.ensures.front) ∙ sym c.read_front.ensures ∙ c.in-Err.is in
    (judge-refused rest c.in-Err.f (omega arith) read, owed-none rest c.args.granted (size_of-refused rest c.in-Err.f (omega arith) read))
