-- A turn, the clock, and the calls that the turn brought.
use Rattle.std.proofs.Common.{ℕ, ◌-◌, List, ◌++◌, inr, ap, ◌∙◌}
use Rattle.std.proofs.lemmas.Result.{err_from_is_err_and}
use Rattle.m2_dispatch.specs.Heard.{heard_by}
use Rattle.m2_script.specs.declared.calls.TurnCalls.{TurnCalls}
use Rattle.m2_script.specs.Script.{noted}
use Rattle.m2_script.proofs.Turning.{by_memory, held_one, stopped, turned}
use Rattle.m2_script.proofs.lines.Run.turn.Goals as goal

pub returns-in_err-memory : goal.returns-in_err-memory
returns-in_err-memory g c =
    let p = err_from_is_err_and c.from_residual-in_err-memory.result c.from_residual-in_err-memory.ensures.1 in
    let did = by_memory g.row.P-End.Denot heard_by _ _ _ _ _ _ c.in_err-memory.ensures c.turn.ensures in
    rw p.1 (inr (stopped g.row.P-End.Denot heard_by _ _ c.self.view_is c.args.node c.turn.new.self _ c.in_ok-reserve.ensures.items p.0 did), tt)

pub returns-then-is_holding : goal.returns-then-is_holding
returns-then-is_holding g c =
    let did = by_memory g.row.P-End.Denot heard_by _ _ _ _ _ _ c.in_ok-memory.ensures c.turn.ensures in
    (inr (held_one g.row.P-End.Denot heard_by _ _ c.self.view_is c.args.node c.turn.new.self _ c.in_ok-reserve.ensures.items _ did c.is_holding.result c.if-is_holding.true c.is_holding.ensures), tt)

pub returns : goal.returns
returns g c =
    let before = c.counts-fast.result in
    let behind = c.counts-fast_now.result in
    let a = c.args.node in
    let did = by_memory g.row.P-End.Denot heard_by _ _ _ _ _ _ c.in_ok-memory.ensures c.turn.ensures in
    let was : List TurnCalls = c.self.inside.calls.items in (
      turned g.row.P-End.Denot heard_by _ _ c.self.view_is a c.turn.new.self did before.0 before.1 behind.0 behind.1
          c.counts-fast.ensures.fast c.counts-fast.ensures.queued c.counts-fast_now.ensures.fast c.counts-fast_now.ensures.queued
          c.is_holding.result c.if-is_holding.false c.is_holding.ensures _ c.saturating_add-self-inside.ensures _
          (c.note.ensures
          ∙ ap (λ (l : List TurnCalls). l ++ noted (record { node = a; fast = c.saturating_sub.result; queued = c.saturating_sub-2.result })) c.in_ok-reserve.ensures.items
          ∙ ap (λ (n : ℕ). was ++ noted (record { node = a; fast = n; queued = c.saturating_sub-2.result })) c.saturating_sub.ensures
          ∙ ap (λ (n : ℕ). was ++ noted (record { node = a; fast = behind.0 - before.0; queued = n })) c.saturating_sub-2.ensures),
      c.is_whole.ensures,
    )
