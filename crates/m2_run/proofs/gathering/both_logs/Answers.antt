-- Where none are left on either side these are all.
use Rattle.std.proofs.Common.{◌≡◌, ◌∙◌, List, [], ap, append-nil, subst, sym}
use Rattle.std.proofs.lemmas.List.{nil_from_length}
use Rattle.m2_bytes.specs.Items.{Holding}
use Rattle.m2_dispatch.specs.declared.logged.Logged.{Logged}
use Rattle.m2_node.specs.Handing.{AreBoth}
use Rattle.m2_run.proofs.gathering.both_logs.Goals as goal

pub returns-in-None-next : goal.returns-in-None-next
returns-in-None-next c =
    let Logs : Type 0 = List (Holding Logged) in
    let first = c.nodes.log-iterator.rest in
    let more = c.nodes.queued.rest in
    let none : first.items ≡ [] = nil_from_length first.items (sym first.ok.0 ∙ c.in-None.ensures.steps.0) in
    let no_more : more.items ≡ [] = nil_from_length more.items (sym more.ok.0 ∙ c.in-None-next.ensures.cases.0) in
    subst (AreBoth c.args.fast.items c.args.queued.items) (append-nil c.nodes.all.items ∙ sym (ap (λ (h : Holding (Holding Logged)). h.items) c.from_vec.ensures))
    (c.nodes.invariant [] (subst (λ (qs : Logs). AreBoth first.items qs []) (sym no_more) (subst (λ (fs : Logs). AreBoth fs [] []) (sym none) tt)))
