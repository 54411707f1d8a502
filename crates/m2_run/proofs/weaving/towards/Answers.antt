-- The record at this place is that one, or it comes behind it.
use Rattle.std.proofs.Common.{◌∙◌, sym, ap, refl}
use Rattle.std.proofs.lemmas.List.{drop_all}
use Rattle.std.proofs.lemmas.Option.{slice_get_read}
use Rattle.m2_run.specs.Weaving.{towards}
use Rattle.m2_run.proofs.Weaves.{towards_here, towards_next}
use Rattle.m2_run.proofs.weaving.towards.Goals as goal

pub returns-then-place-peer : goal.returns-then-place-peer
returns-then-place-peer g c =
    let records = c.args.records.now in
    let k = c.records.k in
    let side = c.index-records-k.result in
    sym (c.records.invariant ∙ towards_here c.args.peer records k side (slice_get_read records _ k side refl c.records-test.true c.index-records-k.is) (sym c.place.ensures ∙ c.if-place-peer.true))

pub records-preserved : goal.records-preserved
records-preserved g c =
    let records = c.args.records.now in
    let k = c.records.k in
    let side = c.index-records-k.result in
    c.records.invariant ∙ towards_next c.args.peer records k side (slice_get_read records _ k side refl c.records-test.true c.index-records-k.is) (λ e. c.if-place-peer.false (c.place.ensures ∙ e))

pub returns : goal.returns
returns g c =
    let records = c.args.records.now in
    sym (c.records.invariant ∙ ap (towards c.args.peer) (drop_all c.records.k records c.records-test.false))
