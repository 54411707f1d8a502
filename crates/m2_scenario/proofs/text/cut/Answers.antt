use Rattle.std.proofs.Common.{◌==◌, sym, take, drop}
use Rattle.m2_scenario.proofs.Cuts.{cut_nowhere, cut_somewhere, nowhere, pieces_cut, pieces_whole}
use Rattle.m2_scenario.proofs.text.cut.Goals as goal

pub returns-in-None-clause-parts : goal.returns-in-None-clause-parts
returns-in-None-clause-parts c = cut_nowhere c.args.mark c.args.bytes.now (nowhere (λ b. b == c.args.mark) c.args.bytes.now (sym c.in-None.ensures.at))

pub returns-in-None-clause-pieces : goal.returns-in-None-clause-pieces
returns-in-None-clause-pieces c =
    pieces_whole c.args.mark c.args.bytes.now (cut_nowhere c.args.mark c.args.bytes.now (nowhere (λ b. b == c.args.mark) c.args.bytes.now (sym c.in-None.ensures.at)))

pub returns-in-Some-clause-parts : goal.returns-in-Some-clause-parts
returns-in-Some-clause-parts c =
    let found = cut_somewhere c.args.mark c.args.bytes.now c.in-Some.at (sym c.in-Some.ensures.at) in
    rw (c.split_at-in-Some.ensures.back, c.split_at.ensures.front, c.split_at.ensures.back) found

pub returns-in-Some-clause-pieces : goal.returns-in-Some-clause-pieces
returns-in-Some-clause-pieces c =
    let found = cut_somewhere c.args.mark c.args.bytes.now c.in-Some.at (sym c.in-Some.ensures.at) in
    rw (c.split_at-in-Some.ensures.back, c.split_at.ensures.front, c.split_at.ensures.back) (pieces_cut c.args.mark c.args.bytes.now (take c.in-Some.at c.args.bytes.now) (drop 1 (drop c.in-Some.at c.args.bytes.now)) found)
