-- Noting an answer keeps what an incoming socket keeps.
use Rattle.std.proofs.Common.{ℕ, [], ◌∷◌, ◌++◌, ap, ◌∙◌}
use Rattle.m2_bytes.specs.Items.{Holding}
use Rattle.m2_journal.specs.declared.entry.JudgedItem.{JudgedItem}
use Rattle.m2_trail.specs.Incoming.{IncomingNow}
use Rattle.m2_trail.proofs.Judging.{note_left}
use Rattle.m2_trail.proofs.incoming.Incoming.note.Goals as goal

pub invariant_of-self : goal.invariant_of-self
invariant_of-self g c = (
  note_left c.in-Some.ask c.args.answer c.facts_of_ask.result _ _ _ _ c.facts_of_ask.ensures (ap (λ (h : Holding JudgedItem). h.items) c.push_reserved.ensures)
      (ap (λ (h : Holding ℕ). h.items) c.push_reserved-2.ensures ∙ ap (λ n. c.self.inside.trail.judged_after.items ++ n ∷ []) c.len-place.ensures.count)
      c.in-Some.is (ap (λ (v : IncomingNow). v.is_judged) c.self.view_is ∙ c.requires.unjudged) c.self.invariant.0,
  c.self.invariant.1,
)
