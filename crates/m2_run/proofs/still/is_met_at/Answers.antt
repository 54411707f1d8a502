use Rattle.std.proofs.Common.{length, refl, sym, ◌∙◌}
use Rattle.std.proofs.lemmas.Option.{none-some, slice_get_past, slice_get_read}
use Rattle.m2_run.proofs.Stillness.{met_there}
use Rattle.m2_run.proofs.still.is_met_at.Goals as goal

pub returns-in-None : goal.returns-in-None
returns-in-None g c = λ other y n m near far there k_on j_on. absurd (none-some y (sym (slice_get_past c.args.nodes.now c.args.j c.in-None.ensures.lookup.3) ∙ there))

pub returns-in-Some : goal.returns-in-Some
returns-in-Some g c =
    met_there c.args.nodes.now c.args.all.now c.args.k c.args.j c.in-Some.to.now c.index-all-k.result c.index-all-j.result
    (slice_get_read c.args.nodes.now (length c.args.nodes.now) c.args.j c.in-Some.to.now refl c.in-Some.ensures.lookup.3.0 c.in-Some.ensures.lookup.1)
    (slice_get_read c.args.all.now (length c.args.all.now) c.args.k c.index-all-k.result refl c.requires.near c.index-all-k.is)
    (slice_get_read c.args.all.now (length c.args.all.now) c.args.j c.index-all-j.result refl c.requires.far c.index-all-j.is)
    c.is_met_from.result c.is_met_from.ensures
