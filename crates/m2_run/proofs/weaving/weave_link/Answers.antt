-- From what weaving says of the two records.
use Rattle.std.proofs.Common.{◌∙◌, length, refl, sym, ap, subst}
use Rattle.std.specs.Prelude.{Some}
use Rattle.std.proofs.lemmas.Option.{slice_get_read}
use Rattle.m2_run.specs.Weaving.{side_towards}
use Rattle.m2_run.proofs.Weaves.{Found, found_so, has_history, has_none}
use Rattle.m2_run.proofs.weaving.weave_link.Goals as goal

pub returns-in-Ok : goal.returns-in-Ok
returns-in-Ok g c =
    let all = c.args.ends.now in
    let link = c.args.link.now in
    let near = c.in-Some-Some.near.now in
    let far = c.in-Some-Some.far.now in
    let a = c.in-Some-Some-2.a in
    let b = c.in-Some-Some-2.b in
    let near_there = slice_get_read all (length all) link.a near refl c.in-Some-Some.ensures.lookup.3.0 c.in-Some-Some.ensures.lookup.1 ∙ ap Some (sym c.near.view_is) in
    let far_there = slice_get_read all (length all) link.b far refl c.in-Some-Some.ensures'.lookup.3.0 c.in-Some-Some.ensures'.lookup.1 ∙ ap Some (sym c.far.view_is) in
    let mine = subst (λ cs. Found (side_towards link.b cs) a.record.now a.fast.now.items a.log.now.items) c.as_slice.ensures.value
    (found_so c.side_towards-mine.result a (λ s. s.record.now) (λ s. s.fast.now.items) (λ s. s.log.now.items) (side_towards link.b c.as_slice.result.now) c.in-Some-Some-2.is-0
    c.side_towards-mine.ensures.there c.side_towards-mine.ensures.side) in
    let theirs = subst (λ cs. Found (side_towards link.a cs) b.record.now b.fast.now.items b.log.now.items) c.as_slice-2.ensures.value
    (found_so c.side_towards-theirs.result b (λ s. s.record.now) (λ s. s.fast.now.items) (λ s. s.log.now.items) (side_towards link.a c.as_slice-2.result.now) c.in-Some-Some-2.is-1
    c.side_towards-theirs.ensures.there c.side_towards-theirs.ensures.side) in
    has_history all c.args.loose.now.items link _ _ a.record.now b.record.now a.fast.now.items a.log.now.items b.fast.now.items b.log.now.items near_there far_there mine theirs c.in-Ok._history (record {
      weaves = c.in-Ok.ensures.weaves;
      never_reset = c.in-Ok.ensures.never_reset;
      delivered = c.in-Ok.ensures.delivered;
      to_a_mark = c.in-Ok.ensures.to_a_mark;
      lossy = c.in-Ok.ensures.lossy;
    })

pub returns-in-Err : goal.returns-in-Err
returns-in-Err g c =
    let all = c.args.ends.now in
    let link = c.args.link.now in
    let near = c.in-Some-Some.near.now in
    let far = c.in-Some-Some.far.now in
    let a = c.in-Some-Some-2.a in
    let b = c.in-Some-Some-2.b in
    let near_there = slice_get_read all (length all) link.a near refl c.in-Some-Some.ensures.lookup.3.0 c.in-Some-Some.ensures.lookup.1 ∙ ap Some (sym c.near.view_is) in
    let far_there = slice_get_read all (length all) link.b far refl c.in-Some-Some.ensures'.lookup.3.0 c.in-Some-Some.ensures'.lookup.1 ∙ ap Some (sym c.far.view_is) in
    let mine = subst (λ cs. Found (side_towards link.b cs) a.record.now a.fast.now.items a.log.now.items) c.as_slice.ensures.value
    (found_so c.side_towards-mine.result a (λ s. s.record.now) (λ s. s.fast.now.items) (λ s. s.log.now.items) (side_towards link.b c.as_slice.result.now) c.in-Some-Some-2.is-0
    c.side_towards-mine.ensures.there c.side_towards-mine.ensures.side) in
    let theirs = subst (λ cs. Found (side_towards link.a cs) b.record.now b.fast.now.items b.log.now.items) c.as_slice-2.ensures.value
    (found_so c.side_towards-theirs.result b (λ s. s.record.now) (λ s. s.fast.now.items) (λ s. s.log.now.items) (side_towards link.a c.as_slice-2.result.now) c.in-Some-Some-2.is-1
    c.side_towards-theirs.ensures.there c.side_towards-theirs.ensures.side) in
    has_none all c.args.loose.now.items link _ _ a.record.now b.record.now a.fast.now.items a.log.now.items b.fast.now.items b.log.now.items near_there far_there mine theirs c.in-Err.fault c.in-Err.ensures.weaves
