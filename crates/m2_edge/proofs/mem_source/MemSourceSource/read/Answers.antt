use Rattle.std.proofs.Common.{◌≡◌, Bool, List, ◌++◌, length, min, take, drop, sym, ap, ◌∙◌}
use Rattle.std.specs.Prelude.{slice_get}
use Rattle.m2_edge.specs.Calls.{CallCounts, is_due, counted}
use Rattle.m2_edge.specs.Memory.{Shelf}
use Rattle.m2_edge.proofs.Places.{shelf_at, shelf_after, rest_from, gives_input}
use Rattle.m2_edge.proofs.mem_source.MemSourceSource.read.Goals as goal

pub returns-clause-exact : goal.returns-clause-exact
returns-clause-exact c =
    let i = c.self.inside in
    let old = c.args.self.now in
    let n = c.copy_first-n.result in
    let into = c.copy_first-n.new.into in
    let same : shelf_at i.inputs.items i.calls i.begun i.place i.ended ≡ old = c.self.view_is in
    let calls : i.calls ≡ old.calls = ap (λ (s : Shelf). s.calls) same in
    let rest : c.rest_at-rest.result.now ≡ old.rest = c.rest_at-rest.ensures.rest ∙ ap (λ (s : Shelf). s.rest) same in
    let first : take n into ≡ take n old.rest = c.copy_first-n.ensures.copied ∙ ap (take n) rest in (
      ap is_due (sym calls) ∙ c.in_ok-call.ensures.0,
      c.copy_first-n.ensures.count ∙ ap (λ r. min (length r) (length into)) rest,
      first,
      shelf_after i.inputs.items i.calls c.call.new.self i.begun i.place n i.ended c.finds_end-self-inside.result into old same first
          ∙ ap (λ (k : CallCounts). record { inputs = old.inputs; calls = k; given = old.given ++ take n into; rest = drop n old.rest; ended = c.finds_end-self-inside.result }) (c.in_ok-call.ensures.1 ∙ ap counted calls)
          ∙ ap (λ (b : Bool). record { inputs = old.inputs; calls = counted old.calls; given = old.given ++ take n into; rest = drop n old.rest; ended = b }) c.finds_end-self-inside.ensures.test,
    )

pub returns-clause-known : goal.returns-clause-known
returns-clause-known c =
    let i = c.self.inside in
    let n = c.copy_first-n.result in
    gives_input n c.copy_first-n.new.into c.rest_at-rest.result.now _ _ c.copy_first-n.ensures.count
    (rest_from (slice_get i.inputs.items i.begun) i.place n ∙ ap (drop n) (sym c.rest_at-rest.ensures.rest)) c.finds_end-self-inside.ensures.test
