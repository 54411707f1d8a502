-- A half that was judged and then replied to.
use Rattle.std.proofs.Common.{◌≡◌, inr, false, Option, Some, None, IfSome, refl, sym, subst, ◌∙◌}
use Rattle.m2_handshake.specs.declared.ask.Ask.{Ask}
use Rattle.m2_handshake.specs.declared.ident.IdentCheck.{IdentCheck}
use Rattle.m2_handshake.specs.declared.ident.IdentCheck.TheVariants.{Fine}
use Rattle.m2_feed.specs.m2_journal.declared.facts.NodeFacts.{NodeFacts}
use Rattle.m2_feed.specs.m2_journal.SideFacts.{SideFacts}
use Rattle.m2_session.specs.declared.session.Session.{Session}
use Rattle.m2_trail.specs.Asks.{check_of}
use Rattle.m2_trail.specs.Incoming.{IncomingNow}
use Rattle.m2_record.specs.RecordNow.{IsSessionOf}
use Rattle.m2_turn.specs.declared.answering.HalfAnswered.{HalfAnswered}
use Rattle.m2_turn.specs.declared.answering.HalfAnswered.TheVariants as half
use Rattle.m2_turn.specs.declared.judging.AskJudged.TheVariants as asked
use Rattle.m2_turn.specs.Answering.{AnswersBy, AnswersHalf, HearsHalf, RepliesHalf}
use Rattle.m2_turn.specs.Judging.{Judging, JudgesAsk}
use Rattle.m2_turn.specs.RecordTurn.{Means}

found_at : (o : Option Ask) (found : IdentCheck) (f : SideFacts) (s : Session) (node : NodeFacts) → IsSessionOf f s → node ≡ f.node →
    IfSome o (λ ask. found ≡ check_of ask s.mine s.policy node.requires_) → IfSome o (λ ask. found ≡ check_of ask f.mine f.policy f.node.requires_)
found_at (Some ask) found f s node its same e = e ∙ rw (its.mine, its.policy, same) refl
found_at None found f s node its same e = tt

replied : {E : Type 0} (result : HalfAnswered E) (arrival a : IncomingNow) (m : Means) (old new : Judging) → JudgesAsk {E = E} (asked.Owes arrival) a m old new → RepliesHalf result arrival → HearsHalf result a m old new
replied (half.Taken answer) arrival a m old new judged reply = absurd reply
replied (half.Open goes_on) arrival a m old new judged reply = (arrival, judged, reply)
replied (half.Closed loose) arrival a m old new judged reply = (arrival, judged, reply)
replied (half.Undrawn back) arrival a m old new judged reply = absurd reply
replied (half.NoMemory back) arrival a m old new judged reply = inr (arrival, judged, reply)

pub answered : {E : Type 0} (result : HalfAnswered E) (arrival a : IncomingNow) (m : Means) (old new : Judging) (s : Session) (node : NodeFacts) →
    a.is_judged ≡ false → IsSessionOf old.side.core.facts s → node ≡ old.side.core.facts.node →
    IfSome a.ask (λ ask. Fine ≡ check_of ask s.mine s.policy node.requires_) →
    JudgesAsk {E = E} (asked.Owes arrival) a m old new → RepliesHalf result arrival → AnswersHalf result a m old new
answered result arrival a m old new s node unjudged its same fine judged reply =
    subst (λ b. AnswersBy b result a m old new) (sym unjudged)
    (Fine, found_at a.ask Fine old.side.core.facts s node its same fine, replied result arrival a m old new judged reply)
