-- What the program leaves. Its source and sinks are new, so what they gave and took is all of this one command.
use Rattle.std.specs.Prelude.{◌≡◌, ℕ, Option}
use Rattle.m2_edge.specs.Sink.{SeenSink}
use Rattle.m2_edge.specs.Source.{SeenSource}
use Rattle.m2_edge.specs.Whole.{IsReadUpTo}
use Rattle.m2_cli.specs.declared.status.Status.{Status}
use Rattle.m2_cli.specs.declared.status.Status.TheVariants.{Done}
use Rattle.m2_cli.specs.Edge.{read_limit}
use Rattle.m2_cli.specs.Verdict.{ComesTo}
use Rattle.m2_cli.specs.Form.{Form, MatchForm}
use Rattle.m2_cli.specs.Load.{LoadComesTo}

-- The file was read whole, and what the source gave of it comes to Done: a run of its scenario leaves nothing undelivered. Standard
-- output took exactly the report of that run, and flushed it.
pub record PrintsTheReport (source : SeenSource) (out : SeenSink) : Type 0 where
  pub whole : IsReadUpTo read_limit source.given source
  pub comes : ComesTo source.given Done out.taken
  pub flushed : out.flushed ≡ out.taken

-- The load comes to Done. Standard output took exactly its three lines, and flushed them.
pub record PrintsTheLoad (posts seed : ℕ) (out : SeenSink) : Type 0 where
  pub comes : LoadComesTo posts seed Done out.taken
  pub flushed : out.flushed ≡ out.taken

-- the program's promise: with Done, `sim FILE` printed exactly the report of what the file gave, and `load N SEED`
-- its three lines
abbrev pub PrintsWhereDone : Option Form → Status → SeenSource → SeenSink → Type 0
PrintsWhereDone form status source out =
    MatchForm form (Unit {0}) (λ _. status ≡ Done → PrintsTheReport source out) (λ _. Unit {0}) (λ _. Unit {0})
    (λ posts seed. status ≡ Done → PrintsTheLoad posts seed out)
