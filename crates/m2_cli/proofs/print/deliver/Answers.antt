use Rattle.std.proofs.Common.{List, ℕ, ◌==◌, ap, length, sym, ◌∙◌}
use Rattle.std.proofs.lemmas.Bool.{false≢true}
use Rattle.m2_cli.proofs.Says.{delivers_printed}
use Rattle.m2_cli.proofs.print.deliver.Goals as goal

pub returns-clause-delivers : goal.returns-clause-delivers
returns-clause-delivers g c =
    delivers_printed c.write_text.result c.args.text.now (g.K.Sink.seen c.args.sink.now) (g.K.Sink.seen c.write_text.new.sink)
    (λ none. false≢true (sym c.if-is_empty.false ∙ c.is_empty.ensures ∙ ap (λ (t : List ℕ). length t == 0) none))
    c.write_text.ensures.prints
