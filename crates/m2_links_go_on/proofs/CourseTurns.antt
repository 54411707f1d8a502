-- A center's turn: its records go on, and of each connect that one missed the port has counted one.
use Rattle.std.proofs.Common.{◌≡◌, ◌⊎◌, inl, inr, ℕ, ◌+◌, ◌-◌, ◌^◌, ◌≤◌, ◌<◌, Bool, true, false, List, [], ◌∷◌, ◌++◌, Option, Some, None, Result, Ok, Err, IfSome, IsSome, refl, sym, ap, subst, ◌∙◌, arith}
use Rattle.std.specs.List.{IsDistinct}
use Rattle.m2_dispatch.specs.Heard.{Heard}
use Rattle.m2_fabric.specs.m2_bytes.declared.memory.NoMemory as memory
use Rattle.m2_fabric.specs.m2_edge.Faults.{next_count}
use Rattle.m2_fabric.specs.declared.port.Connect.{Connect}
use Rattle.m2_fabric.specs.declared.port.Connect.TheVariants as connect
use Rattle.m2_fabric.specs.declared.port.Taken.TheVariants as taken
use Rattle.m2_fabric.specs.End.{SeenEnd}
use Rattle.m2_fabric.specs.Port as port
use Rattle.m2_fabric.specs.Port.{SeenPort}
use Rattle.m2_fabric.specs.Sockets.{same_socket}
use Rattle.m2_fabric.proofs.m2_lemmas.Booleans.{false_isnt_true}
use Rattle.m2_fabric.proofs.m2_lemmas.Numbers.{below_or_not}
use Rattle.m2_cluster.specs.m2_center.Center.{CenterNow}
use Rattle.m2_cluster.specs.m2_center.CenterTurn.{AcceptsSo, AndThen, Answer, AnswersSo, DeliversSo, Part, StepsSo, TakesTurn, accepting_in, all_amid_in, callers_of}
use Rattle.m2_cluster.specs.m2_center.m2_core.Calls.{IsOpening}
use Rattle.m2_cluster.specs.m2_center.m2_core.Waits.{begun, not_above}
use Rattle.m2_cluster.specs.m2_center.m2_feed.FeedNow.{FeedNow}
use Rattle.m2_cluster.specs.m2_center.m2_feed.m2_journal.declared.entry.Entry.TheVariants as entry
use Rattle.m2_cluster.specs.m2_center.m2_record.declared.due.Due.{Due}
use Rattle.m2_cluster.specs.m2_center.m2_record.declared.due.Due.TheVariants as due
use Rattle.m2_cluster.specs.m2_center.m2_record.declared.stepped.Stepped.{Stepped}
use Rattle.m2_cluster.specs.m2_center.m2_record.Calls.{with_opened}
use Rattle.m2_cluster.specs.m2_center.m2_record.Due.{due_step}
use Rattle.m2_cluster.specs.m2_center.m2_record.RecordNow.{RecordNow}
use Rattle.m2_cluster.specs.m2_center.m2_turn.declared.accepting.Accepted.{Accepted}
use Rattle.m2_cluster.specs.m2_center.m2_turn.declared.accepting.Accepted.TheVariants as accepts
use Rattle.m2_cluster.specs.m2_center.m2_turn.declared.record_turn.RecordTurn.{RecordTurn}
use Rattle.m2_cluster.specs.m2_center.m2_turn.declared.record_turn.RecordTurn.TheVariants as one
use Rattle.m2_cluster.specs.m2_center.m2_turn.declared.records_turn.RecordsTurn.{RecordsTurn}
use Rattle.m2_cluster.specs.m2_center.m2_turn.declared.records_turn.RecordsTurn.TheVariants as turn
use Rattle.m2_cluster.specs.m2_center.m2_turn.Accepting.{Accepting, AcceptsAll, EndsWith, IsEnded, TakesAll, TakesIn}
use Rattle.m2_cluster.specs.m2_center.m2_turn.Connecting.{AtPort, DialsFor, Takes}
use Rattle.m2_cluster.specs.m2_center.m2_turn.Outbox.{is_free}
use Rattle.m2_cluster.specs.m2_center.m2_turn.RecordTurn.{EndsBy, Means, Steps, TakesStep, Turning, TurnsAs, worked_by}
use Rattle.m2_cluster.specs.m2_center.m2_turn.RecordsTurn.{AllAmid, Amid, Around, DialsAndSteps, EachTurns, TurnsEach, TurnsIf, TurnsInOrder, TurnsOne, all_amid, amid, at_port, sides_of, turning_amid}
use Rattle.m2_links_go_on.specs.Course.{HasCounted}
use Rattle.m2_links_go_on.specs.Made.{side_made}
use Rattle.m2_links_go_on.proofs.CourseMoving.{AllGo, CountsOn, Goes, PortStays, SideGoes, WaitsInTime, all_append, all_by, all_chain, all_cons, all_same, begins, beats_calm, calm_of, goes_beside, goes_by, goes_chain, is_moved, once_more, side_chain, side_same, stays_by, stays_chain, stays_same}
use Rattle.m2_links_go_on.proofs.CourseJudged.{halves_go}
use Rattle.m2_links_go_on.proofs.CourseSteps.{room_alone, steps}

-- ---- a dial

-- both counts rise by one, or stand at their end
one_more : (p r others : ℕ) → HasCounted p (r + others) → HasCounted (next_count p) (not_above (r + 1) + others)
one_more p r others (inr end) = inr (omega (arith, end))
one_more p r others (inl h) = at (below_or_not p (2 ^ 64 - 1))
  where
    at : (p < 2 ^ 64 - 1) ⊎ (2 ^ 64 - 1 ≤ p) → HasCounted (next_count p) (not_above (r + 1) + others)
    at (inl low) = inl (omega (arith, h, low))
    at (inr end) = inr (omega (arith, end))

missed_more : (p q r s : ℕ) → q ≡ next_count p → s ≡ not_above (r + 1) → CountsOn p r q s
missed_more p q r s port missed others h =
    subst (λ n. HasCounted n (s + others)) (sym port) (subst (λ n. HasCounted (next_count p) (n + others)) (sym missed) (one_more p r others h))

opened : (now : ℕ) (e : SeenEnd) (r s : RecordNow) (v : FeedNow) → s ≡ record (with_opened v e.id r) { room = s.room } → SideGoes now r s
opened now e r s v h = goes_by now r s (ap (λ x. x.core.facts) h) (beats_calm now r s (entry.Opened e.id ∷ []) (ap calm_of h) (ap (λ x. x.journal) h) refl)

takes : (made : Connect SeenEnd) (now : ℕ) (p q : SeenPort) (r s : RecordNow) → port.Connects made r.core.facts.peer p q → Takes made now r s → Goes now p q r s
takes (connect.Made e) now p q r s (new, _, h) (mid, room, (opening, some)) =
    goes_beside now p q r s (record { at = ap (λ x. x.at) h; missed = ap (λ x. x.missed) h; once = once_more p q e.id new.first (ap (λ x. x.made) h) })
    (side_chain now r mid s (goes_by now r mid (ap (λ x. x.core.facts) room) (room_alone now r mid room)) (at s.core.live.feed opening some))
  where
    at : (o : Option FeedNow) → IfSome o (λ v. IsOpening mid.core.facts e v × (s ≡ record (with_opened v e.id mid) { room = s.room })) → IsSome o → SideGoes now mid s
    at (Some v) (_, is) _ = opened now e mid s v is
    at None is none = absurd (false_isnt_true none)
takes connect.Failed now p q r s (_, h) (mid, room, missed) = record {
  made = ap side_made missed ∙ ap side_made room;
  at = ap (λ x. x.at) h;
  once = λ once. subst (IsDistinct same_socket) (sym (ap (λ x. x.made) h)) once;
  missed = missed_more p.missed q.missed r.missed s.missed (ap (λ x. x.missed) h) (ap (λ x. x.missed) missed ∙ ap (λ x. not_above (x.missed + 1)) room);
  last = inr (ap (λ x. x.last) missed ∙ ap (λ x. x.last) room, λ moved. sym (ap (λ x. is_moved x.journal) missed ∙ ap (λ x. is_moved x.journal) room) ∙ moved);
  waits = λ w. subst (WaitsInTime now r.core.facts.node) (sym (ap (λ x. x.waits) missed ∙ ap (λ x. begun x.core.facts.node now x.waits) room)) (begins now r.core.facts.node r.waits w);
}
takes connect.NoMemory now p q r s e room =
    goes_beside now p q r s (stays_by p q e) (goes_by now r s (ap (λ x. x.core.facts) room) (room_alone now r s room))

rests : (now : ℕ) (old new : AtPort) → new ≡ old → Goes now old.port new.port old.side new.side
rests now old new e =
    goes_beside now old.port new.port old.side new.side (stays_by old.port new.port (ap (λ (a : AtPort). a.port) e)) (side_same now old.side new.side (ap (λ (a : AtPort). a.side) e))

dials : (d : Due) (result : Result (Unit {0}) memory.NoMemory) (now : ℕ) (old new : AtPort) → DialsFor d result now old new → Goes now old.port new.port old.side new.side
dials (due.Connect at) result now old new d = takes d.made now old.port new.port old.side new.side d.port d.takes
dials due.Nothing result now old new (_, e) = rests now old new e
dials due.Plan result now old new (_, e) = rests now old new e
dials due.Hand result now old new (_, e) = rests now old new e
dials due.Write result now old new (_, e) = rests now old new e
dials due.Frame result now old new (_, e) = rests now old new e
dials due.Read result now old new (_, e) = rests now old new e
dials due.Compose result now old new (_, e) = rests now old new e

-- ---- the turns of records

module _ {D : Type 0} (heard : D → List Heard) (m : Means) where
  takes_step : (answer : Stepped) (old new : Turning D) → TakesStep heard m answer old new → SideGoes m.now old.side new.side
  takes_step answer old new t = steps answer (worked_by m answer t.behind old new) old.side new.side t.steps

  led : (ts : List (Turning D)) (old new : Turning D) → Steps heard m ts old new → SideGoes m.now old.side new.side
  led [] old new e = side_same m.now old.side new.side (ap (λ (t : Turning D). t.side) (sym e))
  led (t ∷ ts) old new (first, rest) = side_chain m.now old.side t.side new.side (takes_step first.answer old t first.takes) (led ts t new rest)

  ends_by : (result : RecordTurn) (old new : Turning D) → EndsBy heard m result old new → SideGoes m.now old.side new.side
  ends_by result old new e = side_chain m.now old.side e.mid.side new.side (led e.led.stood old e.mid e.led.steps) (takes_step e.answer e.mid new e.takes)

  turns : (result : RecordTurn) (old new : Turning D) → TurnsAs heard m result old new → SideGoes m.now old.side new.side
  turns one.Busy old new t = led t.stood old new t.steps
  turns one.Stuck old new t = led t.led.stood old new t.led.steps
  turns one.Dry old new t = ends_by one.Dry old new t
  turns (one.Full stage held) old new t = ends_by (one.Full stage held) old new t
  turns (one.Again stage seen at) old new t = ends_by (one.Again stage seen at) old new t
  turns one.Spent old new t = ends_by one.Spent old new t
  turns (one.Faulted cause) old new t = ends_by (one.Faulted cause) old new t
  turns one.NoMemory old new t = ends_by one.NoMemory old new t

  abbrev AmidGoes : Amid D → Amid D → Type 0
  AmidGoes old new = Goes m.now old.around.port new.around.port old.side new.side

  dials_and_steps : (result : RecordsTurn) (old new : Amid D) → DialsAndSteps heard m result old new → AmidGoes old new
  dials_and_steps result old new d =
      goes_chain m.now old.around.port d.mid.port new.around.port old.side d.mid.side new.side
      (dials (due_step m.now old.side) (Ok tt) m.now (at_port old) d.mid d.dials)
      (goes_beside m.now d.mid.port new.around.port d.mid.side new.side (stays_by d.mid.port new.around.port d.port)
      (turns d.ended (turning_amid d.mid.side old.around) (turning_amid new.side new.around) d.turns))

  turns_if : (free : Bool) (result : RecordsTurn) (old new : Amid D) → TurnsIf free heard m result old new → AmidGoes old new
  turns_if true turn.Done old new d = dials_and_steps turn.Done old new d
  turns_if true turn.NoMemory old new (inl d) = dials (due_step m.now old.side) (Err (record {})) m.now (at_port old) (at_port new) d.dials
  turns_if true turn.NoMemory old new (inr d) = dials_and_steps turn.NoMemory old new d
  turns_if false turn.Done old new e = rests m.now (at_port old) (at_port new) (ap at_port e)
  turns_if false turn.NoMemory old new e = absurd e

  turns_one : (result : RecordsTurn) (old new : Amid D) → TurnsOne heard m result old new → AmidGoes old new
  turns_one result old new t = turns_if (is_free old.around.out) result old new t

  each_turns : (rs : List RecordNow) (stood : List (Amid D)) (old new : Around D) → EachTurns heard m rs stood old new → AllGo m.now old.port new.port rs (sides_of stood)
  each_turns [] [] old new e = all_same m.now old.port new.port [] (stays_by old.port new.port (ap (λ (a : Around D). a.port) e))
  each_turns (r ∷ rs) (a ∷ more) old new (first, others) =
      all_cons m.now old.port a.around.port new.port r a.side rs (sides_of more) (turns_one turn.Done (amid r old) a first) (each_turns rs more a.around new others)
  each_turns [] (a ∷ more) old new e = absurd e
  each_turns (r ∷ rs) [] old new e = absurd e

  in_order : (result : RecordsTurn) (old new : AllAmid D) → TurnsInOrder heard m result old new → AllGo m.now old.around.port new.around.port old.records new.records
  in_order turn.Done old new t = subst (AllGo m.now old.around.port new.around.port old.records) (sym t.records) (each_turns old.records t.stood old.around new.around t.turns)
  in_order turn.NoMemory old new t =
      subst (λ l. AllGo m.now old.around.port new.around.port l new.records) (sym t.split)
      (subst (AllGo m.now old.around.port new.around.port (t.before ++ t.at ∷ t.rest)) (sym t.records)
      (all_append m.now old.around.port t.mid.port new.around.port t.before (sides_of t.stood) (t.at ∷ t.rest) (t.left ∷ t.rest) (each_turns t.before t.stood old.around t.mid t.turns)
      (all_cons m.now t.mid.port new.around.port new.around.port t.at t.left t.rest t.rest (turns_one turn.NoMemory (amid t.at t.mid) (amid t.left new.around) t.stops)
      (all_same m.now new.around.port new.around.port t.rest (stays_same new.around.port)))))

  records_go : (result : RecordsTurn) (old new : AllAmid D) → TurnsEach heard m result old new → AllGo m.now old.around.port new.around.port old.records new.records
  records_go result old new t =
      subst (λ p. AllGo m.now p new.around.port old.records new.records) (ap (λ (a : Around D). a.port) t.only) (in_order result (all_amid old.records t.retried) new t.turns)

-- ---- accepts

takes_in : (entity : ℕ) (old new : Accepting) → TakesIn entity old new → PortStays old.port new.port
takes_in entity old new t = by t.gives
  where
    by : port.Accepts (taken.Made t.end) old.port new.port → PortStays old.port new.port
    by (_, first, _, same) = record { at = ap (λ x. x.at) same; missed = ap (λ x. x.missed) same; once = once_more old.port new.port t.end.id first.first (ap (λ x. x.made) same) }

takes_all : (entity : ℕ) (stood : List Accepting) (old new : Accepting) → TakesAll entity stood old new → PortStays old.port new.port
takes_all entity [] old new same = stays_by old.port new.port (ap (λ (a : Accepting). a.port) (sym same))
takes_all entity (a ∷ rest) old new (once, later) = stays_chain old.port a.port new.port (takes_in entity old a once) (takes_all entity rest a new later)

-- nothing was made
unmade : (p q : SeenPort) → q.at ≡ p.at → q.missed ≡ p.missed → q.made ≡ p.made → PortStays p q
unmade p q at missed made = record { at = at; missed = missed; once = λ once. subst (IsDistinct same_socket) (sym made) once }

ends_so : (result : Accepted) (old new : Accepting) → EndsWith result old new → PortStays old.port new.port
ends_so accepts.All old new (inl none) = unmade old.port new.port (ap (λ x. x.at) none.gives.1) (ap (λ x. x.missed) none.gives.1) (ap (λ x. x.made) none.gives.1)
ends_so accepts.All old new (inr none) = unmade old.port new.port (ap (λ x. x.at) none.gives.1) (ap (λ x. x.missed) none.gives.1) (ap (λ x. x.made) none.gives.1)
ends_so accepts.NoMemory old new none = stays_by old.port new.port none.gives
ends_so accepts.Busy old new none = absurd none

is_ended : (entity : ℕ) (result : Accepted) (old new : Accepting) → IsEnded entity result old new → PortStays old.port new.port
is_ended entity result old new e =
    stays_chain old.port e.mid.port new.port (takes_all entity e.taken.stood old e.mid e.taken.takes) (ends_so result e.mid new e.ends)

accepts_all : (entity : ℕ) (result : Accepted) (old new : Accepting) → AcceptsAll entity result old new → PortStays old.port new.port
accepts_all entity accepts.Busy old new busy = takes_all entity busy.stood old new busy.takes
accepts_all entity accepts.All old new e = is_ended entity accepts.All old new e
accepts_all entity accepts.NoMemory old new e = is_ended entity accepts.NoMemory old new e

-- ---- all of a turn

module _ {D : Type 0} (m : Means) where
  -- a center, later
  pub record CenterGoes (old new : CenterNow D) : Type 0 where
    pub entity : new.entity ≡ old.entity
    pub all : AllGo m.now old.port new.port old.records new.records

  abbrev EachGoes : Part D → Type 0
  EachGoes part = (a : Answer) (old new : CenterNow D) → part a old new → CenterGoes old new

  chain : (a b c : CenterNow D) → CenterGoes a b → CenterGoes b c → CenterGoes a c
  chain a b c f g = record { entity = g.entity ∙ f.entity; all = all_chain m.now a.port b.port c.port a.records b.records c.records f.all g.all }

  and_then : (first second : Part D) → EachGoes first → EachGoes second → EachGoes (AndThen first second)
  and_then first second f s (Ok done) old new h = chain old h.0 new (f (Ok tt) old h.0 h.1) (s (Ok tt) h.0 new h.2)
  and_then first second f s (Err e) old new h =
      elim h [ inl g ↦ f (Err e) old new g | inr g ↦ chain old g.0 new (f (Ok tt) old g.0 g.1) (s (Err e) g.0 new g.2) ]

  accepting : EachGoes AcceptsSo
  accepting a old new h =
      let stays = accepts_all old.entity h.0 (accepting_in old) (accepting_in new) h.2.accepts in
      record { entity = ap (λ (c : CenterNow D). c.entity) h.2.only; all = all_by m.now old.port new.port old.records new.records stays (ap (λ (c : CenterNow D). c.records) h.2.only) }

  answering : (E : Type 0) → EachGoes (AnswersSo E m)
  answering E a old new h = record {
    entity = ap (λ (c : CenterNow D). c.entity) h.2.only;
    all = subst (λ q. AllGo m.now old.port q old.records new.records) (sym (ap (λ (c : CenterNow D). c.port) h.2.only)) (halves_go old.port E h.0 m (callers_of old) (callers_of new) h.2.turns);
  }

  stepping : (heard : D → List Heard) → EachGoes (StepsSo heard m)
  stepping heard a old new h =
      record { entity = ap (λ (c : CenterNow D). c.entity) h.2.only; all = records_go heard m h.0 (all_amid_in old) (all_amid_in new) h.2.turns }

  delivering : (heard : D → List Heard) → EachGoes (DeliversSo heard m)
  delivering heard a old new h = record {
    entity = ap (λ (c : CenterNow D). c.entity) h.2.only;
    all = all_by m.now old.port new.port old.records new.records (stays_by old.port new.port (ap (λ (c : CenterNow D). c.port) h.2.only)) (ap (λ (c : CenterNow D). c.records) h.2.only);
  }

  pub center_goes : (E : Type 0) (heard : D → List Heard) (answer : Answer) (old new : CenterNow D) → TakesTurn E heard m answer old new → CenterGoes old new
  center_goes E heard =
      and_then AcceptsSo (AndThen (AnswersSo E m) (AndThen (StepsSo heard m) (DeliversSo heard m))) accepting
      (and_then (AnswersSo E m) (AndThen (StepsSo heard m) (DeliversSo heard m)) (answering E)
      (and_then (StepsSo heard m) (DeliversSo heard m) (stepping heard) (delivering heard)))
