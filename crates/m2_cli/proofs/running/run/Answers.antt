-- The script's run, what is told of it, and the promise.
use Rattle.std.proofs.Common.{◌≡◌, ℕ, List, length, Ok, IfOk, sym, subst}
use Rattle.std.specs.List.{AllByRecursion}
use Rattle.m2_scenario.specs.m2_dispatch.Heard.{heard_by}
use Rattle.m2_exact.specs.m2_script.declared.outcome.Outcome.{Outcome}
use Rattle.m2_promise.specs.Posted.{IsFirst, PostsOfTypes}
use Rattle.m2_scenario.specs.declared.line.Line.{Line}
use Rattle.m2_scenario.specs.declared.link.Link.{Link}
use Rattle.m2_scenario.specs.declared.node.Node.{Node}
use Rattle.m2_exact.specs.m2_script.Outcome.{left_in}
use Rattle.m2_exact.specs.m2_script.Script.{CanAllBeDone, Ends, script_of}
use Rattle.m2_fabric.specs.declared.cut_end.CutEnd.{CutEnd}
use Rattle.m2_fabric.specs.declared.sim_end.SimEnd.{SimEnd}
use Rattle.m2_cli.specs.Run.{IsScriptRun}
use Rattle.m2_cli.proofs.Leaving.{is_outcome}
use Rattle.m2_cli.proofs.running.run.Goals as goal

pub lines-requires : goal.lines-requires
lines-requires c =
    let nodes : List Node = c.args.nodes.now.items in
    let links : List Link = c.args.links.now.items in
    let lines : List Line = c.args.lines.items in
    let run = c.in_ok-run.run' in
    let first : IsFirst nodes links lines run =
    subst (λ (ns : List Node). IsFirst ns links lines run) c.as_slice-2.ensures
    (subst (λ (ls : List Link). IsFirst c.as_slice-2.result.now ls lines run) c.as_slice-3.ensures
    (subst (λ (xs : List Line). IsFirst c.as_slice-2.result.now c.as_slice-3.result.now xs run) c.as_slice-4.ensures c.in_ok-run.ensures)) in
    subst (λ (ls : List Link). CanAllBeDone (CutEnd SimEnd) heard_by (script_of ls c.len.result lines) run) (sym c.as_slice-5.ensures)
    (subst (λ (n : ℕ). CanAllBeDone (CutEnd SimEnd) heard_by (script_of links n lines) run) (sym c.len.ensures) (c.first_can_be_done.ensures nodes links lines run c.requires first))

pub returns-in-Ok : goal.returns-in-Ok
returns-in-Ok c =
    let nodes : List Node = c.args.nodes.now.items in
    let links : List Link = c.args.links.now.items in
    let lines : List Line = c.args.lines.items in
    let run = c.in_ok-run.run' in
    let last = c.lines-2.new.self in
    let first : IsFirst nodes links lines run =
    subst (λ (ns : List Node). IsFirst ns links lines run) c.as_slice-2.ensures
    (subst (λ (ls : List Link). IsFirst c.as_slice-2.result.now ls lines run) c.as_slice-3.ensures
    (subst (λ (xs : List Line). IsFirst c.as_slice-2.result.now c.as_slice-3.result.now xs run) c.as_slice-4.ensures c.in_ok-run.ensures)) in
    let ends : Ends (CutEnd SimEnd) heard_by (Ok tt) (script_of links (length nodes) lines) run last =
    subst (λ (n : ℕ). Ends (CutEnd SimEnd) heard_by (Ok tt) (script_of links n lines) run last) c.len.ensures
    (subst (λ (ls : List Link). Ends (CutEnd SimEnd) heard_by (Ok tt) (script_of ls c.len.result lines) run last) c.as_slice-5.ensures c.in-Ok.ensures) in
    let script : IsScriptRun nodes links lines run last = record { begins = first; ends = ends } in
    let types : AllByRecursion PostsOfTypes lines = subst (AllByRecursion PostsOfTypes) c.as_slice.ensures c.lines_fit.ensures in
    is_outcome nodes links lines run last script (c.promises_are_kept.ensures nodes links lines run last c.requires types script) c.end.result c.end.ensures.heard
    (subst (λ (ls : List Link). IfOk c.end.result (λ (o : Outcome). o.left ≡ left_in heard_by ls last)) c.as_slice-in-Ok.ensures c.end.ensures.left)
