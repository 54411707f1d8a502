-- A port in memory stays one in a turn of its center, and so where a record plans a step; and the ends that wait at it did
-- nothing yet, where they had done nothing before.
use Rattle.std.proofs.Common.{◌≡◌, ℕ, inl, inr, Bool, true, false, List, [], ◌∷◌, Option, Some, None, Ok, Err, is_some, refl, sym, ap, ◌∙◌, subst}
use Rattle.std.specs.Prelude.{unwrap_or}
use Rattle.std.specs.List.{AllByRecursion}
use Rattle.std.specs.Option.{option_map}
use Rattle.m2_dispatch.specs.Heard.{Heard}
use Rattle.m2_fabric.specs.declared.port.Connect.{Connect}
use Rattle.m2_fabric.specs.declared.port.Connect.TheVariants as connect
use Rattle.m2_fabric.specs.declared.port.Taken.{Taken}
use Rattle.m2_fabric.specs.declared.port.Taken.TheVariants as taken
use Rattle.m2_fabric.specs.End.{SeenEnd}
use Rattle.m2_fabric.specs.Log.{nothing_done}
use Rattle.m2_fabric.specs.Port as port
use Rattle.m2_fabric.specs.Port.{SeenPort}
use Rattle.m2_center.specs.m2_record.declared.due.Due.{Due}
use Rattle.m2_center.specs.m2_record.declared.due.Due.TheVariants as due
use Rattle.m2_center.specs.m2_record.Due.{due_step}
use Rattle.m2_center.specs.m2_record.RecordNow.{RecordNow}
use Rattle.m2_center.specs.m2_turn.declared.accepting.Accepted.{Accepted}
use Rattle.m2_center.specs.m2_turn.declared.accepting.Accepted.TheVariants as accepted
use Rattle.m2_center.specs.m2_turn.declared.records_turn.RecordsTurn.{RecordsTurn}
use Rattle.m2_center.specs.m2_turn.declared.records_turn.RecordsTurn.TheVariants as turn
use Rattle.m2_center.specs.m2_turn.Accepting.{Accepting, AcceptsAll, EndsWith, TakesAll}
use Rattle.m2_center.specs.m2_turn.Connecting.{AtPort, DialsFor, DialsIfDue}
use Rattle.m2_center.specs.m2_turn.Outbox.{is_free}
use Rattle.m2_center.specs.m2_turn.RecordTurn.{Means}
use Rattle.m2_center.specs.m2_turn.RecordsTurn.{AllAmid, Amid, Around, DialsAndSteps, EachTurns, TurnsEach, TurnsIf, TurnsInOrder, TurnsOne, amid, at_port}
use Rattle.m2_center.specs.Center.{CenterNow}
use Rattle.m2_center.specs.CenterTurn.{AndThen, Answer, AnswersSo, AcceptsSo, DeliversSo, Part, StepsSo, TakesTurn, accepting_in, all_amid_in}

abbrev pub AllUnused : Option (List SeenEnd) → Type 0
AllUnused w = AllByRecursion (λ (e : SeenEnd). e.log ≡ nothing_done) (unwrap_or w [])

-- the one is in memory where the other is, and the ones that wait did nothing where those of the other did nothing
pub record Stays (old new : SeenPort) : Type 0 where
  pub memory : is_some new.waiting ≡ is_some old.waiting
  pub unused : AllUnused old.waiting → AllUnused new.waiting

by : (old new : SeenPort) → new.waiting ≡ old.waiting → Stays old new
by old new e = record { memory = ap is_some e; unused = λ u. subst AllUnused (sym e) u }

chain : (a b c : SeenPort) → Stays a b → Stays b c → Stays a c
chain a b c p q = record { memory = q.memory ∙ p.memory; unused = λ u. q.unused (p.unused u) }

-- ---- accepting

mapped : (f : List SeenEnd → List SeenEnd) (o : Option (List SeenEnd)) → is_some (option_map f o) ≡ is_some o
mapped f (Some x) = refl
mapped f None = refl

behind_first : (e : SeenEnd) (w v : Option (List SeenEnd)) → w ≡ option_map (λ rest. e ∷ rest) v → AllUnused w → AllUnused v
behind_first e w (Some es) same u = (subst AllUnused same u).1
behind_first e w None same u = tt

accepts : (answer : Taken SeenEnd) (old new : SeenPort) → port.Accepts answer old new → Stays old new
accepts (taken.Made e) old new h = record {
  memory = sym (ap is_some h.2.0 ∙ mapped (λ rest. e ∷ rest) new.waiting);
  unused = behind_first e old.waiting new.waiting h.2.0;
}
accepts taken.NotYet old new h = by old new (ap (λ (p : SeenPort). p.waiting) h.1)
accepts taken.Failed old new h = by old new (ap (λ (p : SeenPort). p.waiting) h.1)
accepts taken.NoMemory old new h = by old new (ap (λ (p : SeenPort). p.waiting) h)

takes_all : (entity : ℕ) (stood : List Accepting) (old new : Accepting) → TakesAll entity stood old new → Stays old.port new.port
takes_all entity [] old new h = by old.port new.port (ap (λ (a : Accepting). a.port.waiting) (sym h))
takes_all entity (a ∷ rest) old new h = chain old.port a.port new.port (accepts (taken.Made h.0.end) old.port a.port h.0.gives) (takes_all entity rest a new h.1)

ends_with : (result : Accepted) (old new : Accepting) → EndsWith result old new → Stays old.port new.port
ends_with accepted.All old new h = elim h [ inl g ↦ accepts taken.NotYet old.port new.port g.gives | inr g ↦ accepts taken.Failed old.port new.port g.gives ]
ends_with accepted.NoMemory old new h = accepts taken.NoMemory old.port new.port h.gives
ends_with accepted.Busy old new h = absurd h

accepts_all : (entity : ℕ) (result : Accepted) (old new : Accepting) → AcceptsAll entity result old new → Stays old.port new.port
accepts_all entity accepted.Busy old new h = takes_all entity h.stood old new h.takes
accepts_all entity accepted.All old new h =
    chain old.port h.mid.port new.port (takes_all entity h.taken.stood old h.mid h.taken.takes) (ends_with accepted.All h.mid new h.ends)
accepts_all entity accepted.NoMemory old new h =
    chain old.port h.mid.port new.port (takes_all entity h.taken.stood old h.mid h.taken.takes) (ends_with accepted.NoMemory h.mid new h.ends)

-- ---- connecting

connects : (answer : Connect SeenEnd) (old new : AtPort) → port.Connects answer old.side.core.facts.peer old.port new.port → Stays old.port new.port
connects (connect.Made e) old new h = by old.port new.port (ap (λ (p : SeenPort). p.waiting) h.2)
connects connect.Failed old new h = by old.port new.port (ap (λ (p : SeenPort). p.waiting) h.1)
connects connect.NoMemory old new h = by old.port new.port (ap (λ (p : SeenPort). p.waiting) h)

dials : (result : Answer) (now : ℕ) (old new : AtPort) → DialsIfDue result now old new → Stays old.port new.port
dials result now old new h = at (due_step now old.side) h
  where
    at : (d : Due) → DialsFor d result now old new → Stays old.port new.port
    at (due.Connect k) h = connects h.made old new h.port
    at _ h = by old.port new.port (ap (λ (a : AtPort). a.port.waiting) h.1)

-- ---- the records' turn

module _ {D : Type 0} (heard : D → List Heard) (m : Means) where
  dials_and_steps : (result : RecordsTurn) (old new : Amid D) → DialsAndSteps heard m result old new → Stays old.around.port new.around.port
  dials_and_steps result old new h =
      chain old.around.port h.mid.port new.around.port (dials (Ok tt) m.now (at_port old) h.mid h.dials)
      (by h.mid.port new.around.port (ap (λ (p : SeenPort). p.waiting) h.port))

  turns_one : (result : RecordsTurn) (old new : Amid D) → TurnsOne heard m result old new → Stays old.around.port new.around.port
  turns_one result old new h = at (is_free old.around.out) result h
    where
      at : (free : Bool) (result : RecordsTurn) → TurnsIf free heard m result old new → Stays old.around.port new.around.port
      at true turn.Done h = dials_and_steps turn.Done old new h
      at true turn.NoMemory h = elim h [ inl g ↦ dials (Err (record {})) m.now (at_port old) (at_port new) g.dials | inr g ↦ dials_and_steps turn.NoMemory old new g ]
      at false turn.Done h = by old.around.port new.around.port (ap (λ (a : Amid D). a.around.port.waiting) h)
      at false turn.NoMemory h = absurd h

  each_turns : (rs : List RecordNow) (stood : List (Amid D)) (old new : Around D) → EachTurns heard m rs stood old new → Stays old.port new.port
  each_turns [] [] old new h = by old.port new.port (ap (λ (a : Around D). a.port.waiting) h)
  each_turns (r ∷ rs) (a ∷ more) old new h = chain old.port a.around.port new.port (turns_one turn.Done (amid r old) a h.0) (each_turns rs more a.around new h.1)
  each_turns [] (a ∷ more) old new h = absurd h
  each_turns (r ∷ rs) [] old new h = absurd h

  turns_in_order : (result : RecordsTurn) (old new : AllAmid D) → TurnsInOrder heard m result old new → Stays old.around.port new.around.port
  turns_in_order turn.Done old new h = each_turns old.records h.stood old.around new.around h.turns
  turns_in_order turn.NoMemory old new h =
      chain old.around.port h.mid.port new.around.port (each_turns h.before h.stood old.around h.mid h.turns)
      (turns_one turn.NoMemory (amid h.at h.mid) (amid h.left new.around) h.stops)

  turns_each : (result : RecordsTurn) (old new : AllAmid D) → TurnsEach heard m result old new → Stays old.around.port new.around.port
  turns_each result old new h =
      chain old.around.port h.retried.port new.around.port (by old.around.port h.retried.port (ap (λ (a : Around D). a.port.waiting) h.only))
      (turns_in_order result (record { records = old.records; around = h.retried }) new h.turns)

-- ---- a center's turn

module _ {D : Type 0} where
  abbrev AllStay : Part D → Type 0
  AllStay part = (a : Answer) (old new : CenterNow D) → part a old new → Stays old.port new.port

  and_then : (first second : Part D) → AllStay first → AllStay second → AllStay (AndThen first second)
  and_then first second f s (Ok done) old new h = chain old.port h.0.port new.port (f (Ok tt) old h.0 h.1) (s (Ok tt) h.0 new h.2)
  and_then first second f s (Err e) old new h = elim h [ inl g ↦ f (Err e) old new g | inr g ↦ chain old.port g.0.port new.port (f (Ok tt) old g.0 g.1) (s (Err e) g.0 new g.2) ]

  same_port : (old new : CenterNow D) → new.port ≡ old.port → Stays old.port new.port
  same_port old new e = by old.port new.port (ap (λ (p : SeenPort). p.waiting) e)

  pub turn_stays : (E : Type 0) (heard : D → List Heard) (m : Means) (a : Answer) (old new : CenterNow D) → TakesTurn E heard m a old new → Stays old.port new.port
  turn_stays E heard m =
      and_then AcceptsSo (AndThen (AnswersSo E m) (AndThen (StepsSo heard m) (DeliversSo heard m)))
      (λ a old new h. accepts_all old.entity h.0 (accepting_in old) (accepting_in new) h.2.accepts)
      (and_then (AnswersSo E m) (AndThen (StepsSo heard m) (DeliversSo heard m))
      (λ a old new h. same_port old new (ap (λ (c : CenterNow D). c.port) h.2.only))
      (and_then (StepsSo heard m) (DeliversSo heard m)
      (λ a old new h. turns_each heard m h.0 (all_amid_in old) (all_amid_in new) h.2.turns)
      (λ a old new h. same_port old new (ap (λ (c : CenterNow D). c.port) h.2.only))))
