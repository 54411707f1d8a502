use Rattle.std.proofs.Common.{ℕ, List, ◌++◌, arith, take, drop, sym, ◌∙◌, ap, append_assoc}
use Rattle.std.proofs.lemmas.List.{take-append-drop}
use Rattle.std.proofs.lemmas.Result.{err_from_is_err_and}
use Rattle.m2_edge.proofs.Wholes.{takes_more, prefix_taken}
use Rattle.m2_edge.proofs.whole.write_whole.Goals as goal

pub returns-in_err-n-clause-writes : goal.returns-in_err-n-clause-writes
returns-in_err-n-clause-writes g c =
    let p = err_from_is_err_and c.from_residual.result c.from_residual.ensures.1 in
    let parted = c.loop-rest.invariant.parted in
    rw p.1 (prefix_taken c.args.bytes.now parted.0 c.loop-rest.rest.now (g.O.Sink.seen c.args.out.now) (g.O.Sink.seen c.loop-rest.out) (g.O.Sink.seen c.write.new.self) parted.1 parted.2 c.in_err-n.ensures.writes)

pub loop-rest-preserved : goal.loop-rest-preserved
loop-rest-preserved g c =
    let parted = c.loop-rest.invariant.parted in
    let n = c.in_ok-n.n in
    let rest = c.loop-rest.rest.now in
    record {
      never_falls = omega arith;
      flushed = c.write.ensures.flushed ∙ c.loop-rest.invariant.flushed;
      parted = (
        parted.0 ++ take n rest,
        parted.1 ∙ ap (λ (t : List ℕ). parted.0 ++ t) (sym (take-append-drop n rest)) ∙ sym (append_assoc parted.0 (take n rest) (drop n rest))
            ∙ ap (λ (t : List ℕ). (parted.0 ++ take n rest) ++ t) (sym c.split_at.ensures.back),
        takes_more parted.0 (take n rest) (g.O.Sink.seen c.args.out.now) (g.O.Sink.seen c.loop-rest.out) (g.O.Sink.seen c.write.new.self) parted.2 c.in_ok-n.ensures.writes,
      );
    }
