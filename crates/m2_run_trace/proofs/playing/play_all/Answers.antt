-- One line more.
use Rattle.std.proofs.Common.{◌≡◌, List, [], ◌∷◌, refl, sym, ap, ◌∙◌, subst, arith}
use Rattle.std.proofs.lemmas.List.{nil_from_length}
use Rattle.m2_run_trace.specs.Acts.{acts_of, acts_to, quiet_act}
use Rattle.m2_run_trace.specs.Script.{lines_above, lines_behind}
use Rattle.m2_run_trace.proofs.Acts.{IsAmid, amid_first, amid_last, amid_next, can_next, one_plays}
use Rattle.m2_run_trace.proofs.playing.play_all.Goals as goal
use Rattle.m2_scenario.specs.declared.line.Line.{Line}
use Rattle.m2_scenario.specs.Text.{Word, pieces}

pub loop-line-init : goal.loop-line-init
loop-line-init c =
    let nodes = c.args.scene.now.nodes.now in
    let acts = acts_of nodes c.args.scene.now.links.now (pieces 10 c.args.text.now) in
    let all : c.into_iter-line-iterator.result.rest.items ≡ c.args.lines.items = c.into_iter-line-iterator.ensures.into_iter_gives.0 ∙ c.into_vec-line-items.ensures in
    subst (λ (ls : List Line). IsAmid nodes (acts c.args.lines.items) (acts ls) c.args.stage.now c.args.stage.now) (sym all)
    (amid_first nodes (acts c.args.lines.items) c.args.stage.now c.requires)

pub play-requires : goal.play-requires
play-requires c =
    let l = c.loop-line in
    let nodes = c.args.scene.now.nodes.now in
    let links = c.args.scene.now.links.now in
    let text = pieces 10 l.rest.now in
    let rest = c.next.new.self.rest.items in
    can_next nodes (acts_of nodes links (pieces 10 c.args.text.now) c.args.lines.items) (acts_of nodes links text l.line-iterator.rest.items) (acts_to nodes links text c.in-Some.line)
    (acts_of nodes links (lines_behind text) rest) c.args.stage.now l.stage (ap (acts_of nodes links text) c.in-Some.ensures.steps.0) l.invariant

pub loop-line-preserved : goal.loop-line-preserved
loop-line-preserved c =
    let l = c.loop-line in
    let nodes = c.args.scene.now.nodes.now in
    let links = c.args.scene.now.links.now in
    let all = acts_of nodes links (pieces 10 c.args.text.now) c.args.lines.items in
    let text = pieces 10 l.rest.now in
    let rest = c.next.new.self.rest.items in
    subst (λ (ls : List Word). IsAmid nodes all (acts_of nodes links ls rest) c.args.stage.now c.play.new.stage) (sym c.in_ok-rest.ensures.rest)
    (amid_next nodes all (acts_of nodes links text l.line-iterator.rest.items) (acts_to nodes links text c.in-Some.line) (acts_of nodes links (lines_behind text) rest)
    c.args.stage.now l.stage (ap (acts_of nodes links text) c.in-Some.ensures.steps.0) l.invariant c.play.new.stage c.in_ok-rest.ensures.plays)

pub returns : goal.returns
returns c =
    let l = c.loop-line in
    let nodes = c.args.scene.now.nodes.now in
    let links = c.args.scene.now.links.now in
    let all = acts_of nodes links (pieces 10 c.args.text.now) c.args.lines.items in
    let text = pieces 10 l.rest.now in
    let rest = l.line-iterator.rest in
    let empty : rest.items ≡ [] = nil_from_length rest.items (let e = c.in-None.ensures.steps.0 in let k = rest.ok in omega (arith, e, k)) in
    let last = quiet_act nodes (lines_above text) in
    amid_last nodes all [] c.args.stage.now c.put_above.new.stage refl
    (amid_next nodes all (acts_of nodes links text rest.items) (last ∷ []) [] c.args.stage.now l.stage (ap (acts_of nodes links text) empty) l.invariant c.put_above.new.stage
    (one_plays nodes last l.stage c.put_above.new.stage c.in_ok-_step.ensures.plays))
