-- One log more, and at the end all.
use Rattle.std.proofs.Common.{◌≡◌, ℕ, List, [], ◌++◌, length, map, sym, ap, ◌∙◌, arith}
use Rattle.std.proofs.lemmas.List.{append-nil, nil_from_length}
use Rattle.m2_bytes.specs.Items.{Holding}
use Rattle.m2_dispatch.specs.declared.logged.Logged.{Logged}
use Rattle.m2_script.specs.declared.ending.BothLogs.{BothLogs}
use Rattle.m2_script.specs.declared.calls.TurnCalls.{TurnCalls}
use Rattle.m2_script.specs.Ended.{Both, both_in, both_of}
use Rattle.m2_scenario.specs.Report.{heard_in}
use Rattle.m2_script.specs.Outcome.{in_turns, of_node}
use Rattle.m2_script.proofs.Logs.{heard_from, heard_from_first, next_log}
use Rattle.m2_script.proofs.turns.logs_of.Goals as goal

pub loop-both-preserved : goal.loop-both-preserved
loop-both-preserved c =
    let l = c.loop-both in
    let both = c.in-Some.both in
    let here : c.len-in-loop-both.result ≡ length l.logs.items = (let e = c.len-in-loop-both.ensures in let k = l.logs.ok in omega (arith, e, k)) in
    let merged = c.in_ok-log.ensures ∙ ap (λ (k : ℕ). in_turns (of_node k c.args.calls.now) both.fast.items both.queued.items) here in
    next_log c.args.calls.now l.logs.items c.push.new.self.items c.in_ok-log.log l.both-iterator.rest.items c.next.new.self.rest.items both c.in-Some.ensures.steps.0 c.in_ok-push.ensures.items merged
    ∙ l.invariant

pub returns : goal.returns
returns c s h =
    let l = c.loop-both in
    let rest = l.both-iterator.rest in
    let empty : rest.items ≡ [] = nil_from_length rest.items (let e = c.in-None.ensures.steps.0 in let k = rest.ok in omega (arith, e, k)) in
    let logs = map heard_in l.logs.items in
    ap (λ (h : Holding (Holding Logged)). map heard_in h.items) c.from_vec.ensures
    ∙ sym (append-nil logs)
    ∙ ap (λ (bs : List BothLogs). logs ++ heard_from (length l.logs.items) c.args.calls.now (map both_in bs)) (sym empty)
    ∙ l.invariant
    ∙ ap (λ (bs : List Both). heard_from 0 c.args.calls.now bs) h.both
    ∙ ap (λ (cs : List TurnCalls). heard_from 0 cs (map both_of s.cluster.nodes)) (sym h.calls)
    ∙ heard_from_first s
