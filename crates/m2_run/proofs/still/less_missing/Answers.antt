-- It lacks none, or those that it is told.
use Rattle.std.proofs.Common.{◌≡◌, ◌+◌, length, refl, sym, ◌∙◌, arith}
use Rattle.std.proofs.lemmas.Option.{IfSome_then, slice_get_past, slice_get_read}
use Rattle.m2_run.specs.Still.{missing_in}
use Rattle.m2_run.proofs.Stillness.{missing_none, missing_off, missing_self, missing_there}
use Rattle.m2_run.proofs.still.less_missing.Goals as goal
use Rattle.m2_run.proofs.still.less_missing.Goals.{then-k-j-via-then-k-j, then-k-j-via-else-k-j+then-not-is_on}

pub returns-then-k-j : goal.returns-then-k-j
returns-then-k-j g c =
    elim c.then-k-j.branch [
      | then-k-j-via-then-k-j w ↦ omega (arith, missing_self c.args.nodes.now c.args.all.now c.args.j c.args.k w.if-k-j.true)
      | then-k-j-via-else-k-j+then-not-is_on w ↦ omega (arith, missing_off c.args.nodes.now c.args.all.now c.args.j c.args.k (sym w.is_on.ensures ∙ w.if-not-is_on.true))
    ]

pub returns-in-None : goal.returns-in-None
returns-in-None g c = omega (arith, missing_none c.args.nodes.now c.args.all.now c.args.j c.args.k (slice_get_past c.args.nodes.now c.args.j c.in-None.ensures.lookup.3))

pub returns-in-Some : goal.returns-in-Some
returns-in-Some g c =
    let to = c.in-Some.to.now in
    let near = c.index-all-k.result in
    let far = c.index-all-j.result in
    let same = missing_there c.args.nodes.now c.args.all.now c.args.j c.args.k c.if-k-j.false (sym c.is_on.ensures ∙ c.if-not-is_on.false) to near far
    (slice_get_read c.args.nodes.now (length c.args.nodes.now) c.args.j to refl c.in-Some.ensures.lookup.3.0 c.in-Some.ensures.lookup.1)
    (slice_get_read c.args.all.now (length c.args.all.now) c.args.k near refl c.requires.near c.index-all-k.is)
    (slice_get_read c.args.all.now (length c.args.all.now) c.args.j far refl c.requires.far c.index-all-j.is) (missing_in to.at near far) refl in
    IfSome_then c.less_missing_in.result {P = λ less. less + missing_in to.at near far ≡ c.args.rest} c.less_missing_in.ensures (λ less e. omega (arith, same, e))
