-- What two sides that records keep are behind a turn, beside what they were before it. This project's own.
use Rattle.std.specs.Prelude.{List}
use Rattle.std.specs.List.{AllByRecursion}
use Rattle.m2_history.specs.Parts.{PartsNow}
use Rattle.m2_history.specs.Woven.{BothNow}
use Rattle.m2_weave.specs.m2_journal.declared.facts.PlanStep.{PlanStep}
use Rattle.m2_weave.specs.m2_journal.SideFacts.{SideFacts}
use Rattle.m2_links_go_on.specs.Sides.{AreHalves, HasGoneOn, bytes_of_end, halves_of, loose_halves}
use Rattle.m2_weave.specs.Later.{GoesOn}
use Rattle.m2_weave.specs.Strands.{EndOf}
use Rattle.m2_history.specs.WovenLink.{IsSideOf}

-- it is as a record keeps it, by some facts and some plan
abbrev pub IsSide : PartsNow → Type 0
IsSide p = (f : SideFacts) × (plan : List PlanStep) × IsSideOf f plan p

-- A record's journal goes on; the halves that it had taken stay as they were, and it may have taken more.
pub record PartsGoOn (p q : PartsNow) : Type 0 where
  pub before : IsSide p
  pub now : IsSide q
  pub journal : GoesOn p.journal q.journal
  pub trails : GoesOn p.trails q.trails

-- Both records go on, each loose half does, as a loose one or as one that was taken, and what ends have got and put.
pub record RecordsGoOn (old new : BothNow) : Type 0 where
  pub near : PartsGoOn old.a new.a
  pub far : PartsGoOn old.b new.b
  pub before : AreHalves (halves_of old)
  pub now : AreHalves (halves_of new)
  pub loose : AllByRecursion (HasGoneOn (halves_of new)) (loose_halves old.a.journal old.b.journal old.loose)
  pub got : (e : EndOf) → GoesOn (bytes_of_end old e).got (bytes_of_end new e).got
  pub put : (e : EndOf) → GoesOn (bytes_of_end old e).put (bytes_of_end new e).put
