use Rattle.std.proofs.Common.{ℕ, List, Err, ◌∙◌, ap, subst, inr}
use Rattle.std.proofs.lemmas.Result.{err_from_is_err_and}
use Rattle.m2_edge.specs.Source.{SeenSource}
use Rattle.m2_edge.specs.Whole.{IsReadUpTo}
use Rattle.m2_edge.specs.declared.whole.ReadFault.{ReadFault}
use Rattle.m2_cli.specs.Edge.{read_limit}
use Rattle.m2_cli.specs.Printout.{IsPrintoutBy}
use Rattle.m2_cli.specs.Threads.{CountsNoOther, ThreadsComeTo, names_in, nodes_in}
use Rattle.m2_cli.proofs.playing.prepare_threads.Goals as goal

pub returns-in_err-printout-clause-prepares : goal.returns-in_err-printout-clause-prepares
returns-in_err-printout-clause-prepares g c =
    let p = err_from_is_err_and c.from_residual-in_err-printout.result c.from_residual-in_err-printout.ensures.1 in
    let src : SeenSource = g.S.Source.seen c.read_whole.new.src in
    let read = c.in_ok-bytes.ensures.reads in
    let counts = subst (λ (bytes : List ℕ). CountsNoOther (nodes_in bytes) (g.F.Fabric.seen c.args.fabric.now) (g.F.Fabric.seen c.play_bytes.new.fabric)) (c.as_slice.ensures ∙ read.0.given)
    c.in_err-printout.ensures.err in
    rw (p.1 ∙ ap (λ (e : ReadFault). Err e) p.2) (inr read.1, counts)

pub returns-clause-prepares : goal.returns-clause-prepares
returns-clause-prepares g c =
    let src : SeenSource = g.S.Source.seen c.read_whole.new.src in
    let read = c.in_ok-bytes.ensures.reads in
    let same = c.as_slice.ensures ∙ read.0.given in
    let old = g.F.Fabric.seen c.args.fabric.now in
    let new = g.F.Fabric.seen c.play_bytes.new.fabric in
    let P : List ℕ → Type 0 = λ bytes. IsPrintoutBy (names_in bytes) (ThreadsComeTo (g.C.Clock.may_give c.args.clock.now) old new bytes) c.in_ok-printout.printout in
    let R : List ℕ → Type 0 = λ bytes. IsReadUpTo read_limit bytes src in
    record {
      read = record { stands = read.1; whole = subst R read.0.given read.0 };
      printout = subst P same c.in_ok-printout.ensures.ok;
    }
