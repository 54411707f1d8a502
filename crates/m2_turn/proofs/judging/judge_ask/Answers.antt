use Rattle.std.proofs.Common.{arith}
use Rattle.m2_record.proofs.Topmost.{top-fits}
use Rattle.m2_turn.proofs.judging.judge_ask.Goals as goal

pub returns-in-Back-clause-judges : goal.returns-in-Back-clause-judges
returns-in-Back-clause-judges g c = (
  c.in-Back.answer,
  record {
    number = c.in-Number.number;
    draws = record {
      bounds = c.in-Number.ensures.bounds;
      rises = c.in-Number.ensures.rises;
      above = c.in-Number.ensures.above;
      drawn = c.in-Number.ensures.drawn;
      least = c.in-Number.ensures.least;
      again = tt;
      alone = c.in-Number.ensures.alone;
    };
    judges = c.in-Back.ensures.judges;
    gives = c.in-Back.ensures.word;
  },
)

pub returns-in-Spent-clause-top : goal.returns-in-Spent-clause-top
returns-in-Spent-clause-top g c = omega (arith, top-fits c.args.side.now c.is_record.ensures, c.in-Spent.ensures.least)
