-- A scenario has one run, and is told in one way.
use Rattle.std.proofs.Common.{◌≡◌, List, [], ◌∷◌, map, Result, Ok, Err, refl, sym, ap, subst, ◌∙◌}
use Rattle.m2_fabric.specs.declared.cut_end.CutEnd.{CutEnd}
use Rattle.m2_fabric.specs.declared.sim_end.SimEnd.{SimEnd}
use Rattle.m2_exact.specs.Runs.{RunsAreOne}
use Rattle.m2_promise.specs.StartLaws.{FirstStaysApart}
use Rattle.m2_scenario.specs.declared.line.Line.{Line}
use Rattle.m2_scenario.specs.declared.line.Line.TheVariants as line
use Rattle.m2_scenario.specs.Draft.{Draft, DraftLine, draft_line, post, dial, down, cut, turn, flow, fault, settle}
use Rattle.m2_scenario.specs.Valid.{IsSound}
use Rattle.m2_cli.specs.OneRun.{FilesComeToOne, LoadsComeToOne, ScenariosHaveOneRun}
use Rattle.m2_cli.specs.Run.{IsScriptRun}
use Rattle.m2_cli.specs.Verdict.{BadAt, ReadingComesTo, scenario_in}

-- ---- a line is told by what a reader sees of it

abbrev line_in : DraftLine → Line
line_in (post a b m) = line.Post a b (record { header = m.header; front = record { bytes = m.front }; middle = record { bytes = m.middle }; tail = record { bytes = m.tail } })
line_in (dial a b) = line.Dial a b
line_in (down a b) = line.Down a b
line_in (cut a b bytes) = line.Cut a b bytes
line_in (turn a) = line.Turn a
line_in (flow a b socket most) = line.Flow a b socket most
line_in (fault a b socket) = line.Fault a b socket
line_in (settle rounds) = line.Settle rounds

line_back : (l : Line) → line_in (draft_line l) ≡ l
line_back (line.Post a b message) = refl
line_back (line.Dial a b) = refl
line_back (line.Down a b) = refl
line_back (line.Cut a b bytes) = refl
line_back (line.Turn a) = refl
line_back (line.Flow a b socket most) = refl
line_back (line.Fault a b socket) = refl
line_back (line.Settle rounds) = refl

lines_back : (ls : List Line) → map line_in (map draft_line ls) ≡ ls
lines_back [] = refl
lines_back (l ∷ ls) = ap (λ (k : Line). k ∷ map line_in (map draft_line ls)) (line_back l) ∙ ap (λ (ks : List Line). l ∷ ks) (lines_back ls)

lines_once : (xs ys : List Line) → map draft_line xs ≡ map draft_line ys → xs ≡ ys
lines_once xs ys same = sym (lines_back xs) ∙ ap (map line_in) same ∙ lines_back ys

-- ---- a scenario

pub one : FirstStaysApart (CutEnd SimEnd) → RunsAreOne (CutEnd SimEnd) → ScenariosHaveOneRun
one apart same d last other r s =
    let lines : s.lines ≡ r.lines = lines_once s.lines r.lines (s.made ∙ sym r.made) in
    let sound : IsSound d.nodes d.links (map draft_line r.lines) = subst (λ (ls : List DraftLine). IsSound d.nodes d.links ls) (sym r.made) r.sound in
    same.told d.nodes d.links r.lines r.first last s.first other (apart d.nodes d.links r.lines r.first sound r.script.begins) r.script
    (subst (λ (ls : List Line). IsScriptRun d.nodes d.links ls s.first other) lines s.script)

-- ---- what it comes to

pub files : FilesComeToOne
files bytes text printed status answered = at (scenario_in bytes)
  where
    at : (read : Result Draft BadAt) → ReadingComesTo read status text → ReadingComesTo read answered printed → (status ≡ answered) × (text ≡ printed)
    at (Ok d) a b = let so = a.only b.last b.run in (so.0 ∙ sym b.counted, so.1 ∙ sym b.report)
    at (Err bad) a b = (a.line ∙ sym b.line, a.empty ∙ sym b.empty)

pub loads : LoadsComeToOne
loads posts seed text printed status answered a b = let so = a.only b.last b.run in (so.0 ∙ sym b.counted, so.1 ∙ sym b.lines)
