-- What a node's dispatchers were called with only grows, and each call is one of a turn that was noted.
use Rattle.m2_dispatch.specs.m2_shared.Gates.{places}
use Rattle.std.proofs.Common.{◌≡◌, ℕ, ◌+◌, ◌-◌, ◌≤◌, ◌⊎◌, inl, inr, Bool, true, false, ◌&&◌, ◌==◌, if◌then◌else◌, List, [], ◌∷◌, ◌++◌, length, Option, Some, None, Ok, sum_by, length-append, refl, sym, ap, subst, ◌∙◌, arith}
use Rattle.std.specs.Prelude.{slice_get, slice_set}
use Rattle.std.specs.Option.{option_map}
use Rattle.std.proofs.lemmas.Bool.{and_parts, eq-eqb, eqb-true}
use Rattle.std.proofs.lemmas.List.Elements.{filter-append}
use Rattle.std.proofs.lemmas.List.Sums.{sum_by-append}
use Rattle.std.proofs.lemmas.Option.{none-some, same_Some, slice_get-map}
use Rattle.m2_script.proofs.Lists.{get_other, get_set}
use Rattle.m2_script.specs.m2_center.Center.{CenterNow}
use Rattle.m2_script.specs.m2_center.CenterTurn.{TakesTurn, all_amid_in, mailing_in}
use Rattle.m2_script.specs.m2_cluster.Cluster.{ClusterNow}
use Rattle.m2_script.specs.m2_cluster.Node.{NodeNow, rest_of_node}
use Rattle.m2_dispatch.specs.Heard.{Heard}
use Rattle.m2_dispatch.specs.declared.letter.Letter.{Letter}
use Rattle.m2_dispatch.specs.declared.parcel.Parcel.{Parcel}
use Rattle.m2_dispatch.specs.declared.parcel.Parcel.TheVariants as parcel
use Rattle.m2_links_go_on.specs.m2_weave.m2_journal.declared.facts.PlanStep.{PlanStep}
use Rattle.m2_dispatch.specs.m2_policy.declared.path.Path.{Path}
use Rattle.m2_dispatch.specs.m2_policy.declared.path.Path.TheVariants.{Fast, Queued}
use Rattle.m2_promise.specs.Posted.{AllNoted, AreNoted}
use Rattle.m2_script.specs.m2_record.declared.stepped.Stepped.{Stepped}
use Rattle.m2_script.specs.m2_record.declared.stepped.Stepped.TheVariants as stepped
use Rattle.m2_script.specs.m2_record.RecordNow.{RecordNow}
use Rattle.m2_script.specs.declared.calls.TurnCalls.{TurnCalls}
use Rattle.m2_script.specs.Outcome.{of_node}
use Rattle.m2_script.specs.Script.{Deed, Ends, Happens, IsPassed, PlansStep, RunNow, calls_between, fast_calls, fault, flow, meet, noted, plan, queued_calls, turn}
use Rattle.m2_script.specs.Script as script
use Rattle.m2_dispatch.specs.m2_shared.Gates.{Places}
use Rattle.m2_fabric.specs.InStep.{Network}
use Rattle.m2_script.specs.m2_center.m2_turn.declared.mailing.Mailed.{Mailed}
use Rattle.m2_script.specs.m2_center.m2_turn.declared.mailing.Mailed.TheVariants as mailed
use Rattle.m2_script.specs.m2_center.m2_turn.declared.record_turn.RecordTurn.{RecordTurn}
use Rattle.m2_script.specs.m2_center.m2_turn.declared.record_turn.RecordTurn.TheVariants as one
use Rattle.m2_script.specs.m2_center.m2_turn.declared.records_turn.RecordsTurn.{RecordsTurn}
use Rattle.m2_script.specs.m2_center.m2_turn.declared.records_turn.RecordsTurn.TheVariants as all
use Rattle.m2_script.specs.m2_center.m2_turn.Mailing.{Mailing, Mails, MailsSome, PutsSome, heard_at_puts}
use Rattle.m2_script.specs.m2_center.m2_turn.Outbox.{Dispatches, DispatchesOr, OutboxNow, Puts, PutsLetter, Retries, RetriesFor, is_free}
use Rattle.m2_script.specs.m2_center.m2_turn.RecordTurn.{EndsBy, Means, PutsHanded, Steps, Turning, TurnsAs}
use Rattle.m2_script.specs.m2_center.m2_turn.RecordsTurn.{AllAmid, Amid, Around, DialsAndSteps, EachTurns, TurnsEach, TurnsIf, TurnsInOrder, all_amid, amid, turning_amid}
use Rattle.m2_fabric.proofs.m2_lemmas.Booleans.{from_false_true}

-- ---- logs only grow

longer : {X : Type 0} (xs ys more : List X) → ys ≡ xs ++ more → length xs ≤ length ys
longer xs ys more e = let all = length-append xs more in let same = ap length e in omega (arith, all, same)

module _ {D : Type 0} (heard : D → List Heard) where
  -- there are no fewer calls at once
  abbrev NoFewer : OutboxNow D → OutboxNow D → Type 0
  NoFewer old new = length (heard old.fast) ≤ length (heard new.fast)

  still : (old new : OutboxNow D) → new.fast ≡ old.fast → NoFewer old new
  still old new e = let same = ap (λ d. length (heard d)) e in omega (arith, same)

  more : (a b c : OutboxNow D) → NoFewer a b → NoFewer b c → NoFewer a c
  more a b c x y = omega (arith, x, y)

  dispatched : (l : Letter) (old new : OutboxNow D) → Dispatches heard l old new → NoFewer old new
  dispatched l old new d = by new.held d
    where
      by : (o : Option Letter) → DispatchesOr heard l old new o → NoFewer old new
      by None (e, mail) = longer (heard old.fast) (heard new.fast) _ e
      by (Some kept) (k, e, mail) = let same = ap length e in omega (arith, same)

  retried : (old new : OutboxNow D) → Retries heard old new → NoFewer old new
  retried old new t = by old.held t
    where
      by : (o : Option Letter) → RetriesFor heard o old new → NoFewer old new
      by (Some l) d = dispatched l old new d
      by None e = still old new (ap (λ (o : OutboxNow D). o.fast) e)

  put : (x : Parcel) (old new : OutboxNow D) → Puts heard x old new → NoFewer old new
  put (parcel.Letter l) old new p = by l.key.path p
    where
      by : (path : Path) → PutsLetter heard l path old new → NoFewer old new
      by Fast d = dispatched l old new d
      by Queued e = still old new (ap (λ (o : OutboxNow D). o.fast) e)
  put (parcel.Discard peer) old new e = still old new (ap (λ (o : OutboxNow D). o.fast) e)
  put (parcel.RemoteReset peer) old new e = still old new (ap (λ (o : OutboxNow D). o.fast) e)

  handed : (x : Stepped) (old new : OutboxNow D) → PutsHanded heard x old new → NoFewer old new
  handed (stepped.Hand x) old new p = put x old new p
  handed stepped.Moved old new e = still old new (ap (λ (o : OutboxNow D). o.fast) e)
  handed stepped.Dry old new e = still old new (ap (λ (o : OutboxNow D). o.fast) e)
  handed (stepped.Full stage n) old new e = still old new (ap (λ (o : OutboxNow D). o.fast) e)
  handed (stepped.Again stage seen now) old new e = still old new (ap (λ (o : OutboxNow D). o.fast) e)
  handed stepped.Spent old new e = still old new (ap (λ (o : OutboxNow D). o.fast) e)
  handed (stepped.Faulted f) old new e = still old new (ap (λ (o : OutboxNow D). o.fast) e)
  handed stepped.NoMemory old new e = still old new (ap (λ (o : OutboxNow D). o.fast) e)

  steps : (m : Means) (ts : List (Turning D)) (old new : Turning D) → Steps heard m ts old new → NoFewer old.out new.out
  steps m [] old new e = still old.out new.out (ap (λ (t : Turning D). t.out.fast) (sym e))
  steps m (t ∷ ts) old new (led, rest) = more old.out t.out new.out (handed led.answer old.out t.out led.takes.puts) (steps m ts t new rest)

  ended : (m : Means) (x : RecordTurn) (old new : Turning D) → EndsBy heard m x old new → NoFewer old.out new.out
  ended m x old new e = more old.out e.mid.out new.out (steps m e.led.stood old e.mid e.led.steps) (handed e.answer e.mid.out new.out e.takes.puts)

  turned : (m : Means) (x : RecordTurn) (old new : Turning D) → TurnsAs heard m x old new → NoFewer old.out new.out
  turned m one.Busy old new t = steps m t.stood old new t.steps
  turned m one.Stuck old new t = steps m t.led.stood old new t.led.steps
  turned m one.Dry old new t = ended m one.Dry old new t
  turned m (one.Full stage n) old new t = ended m (one.Full stage n) old new t
  turned m (one.Again stage seen now) old new t = ended m (one.Again stage seen now) old new t
  turned m one.Spent old new t = ended m one.Spent old new t
  turned m (one.Faulted f) old new t = ended m (one.Faulted f) old new t
  turned m one.NoMemory old new t = ended m one.NoMemory old new t

  dialled : (m : Means) (result : RecordsTurn) (old new : Amid D) → DialsAndSteps heard m result old new → NoFewer old.around.out new.around.out
  dialled m result old new d = turned m d.ended (turning_amid d.mid.side old.around) (turning_amid new.side new.around) d.turns

  turned_if : (m : Means) (free : Bool) (result : RecordsTurn) (old new : Amid D) → TurnsIf free heard m result old new → NoFewer old.around.out new.around.out
  turned_if m true all.Done old new d = dialled m all.Done old new d
  turned_if m true all.NoMemory old new (inl d) = still old.around.out new.around.out (ap (λ (a : Around D). a.out.fast) d.only)
  turned_if m true all.NoMemory old new (inr d) = dialled m all.NoMemory old new d
  turned_if m false all.Done old new e = still old.around.out new.around.out (ap (λ (a : Amid D). a.around.out.fast) e)
  turned_if m false all.NoMemory old new e = absurd e

  each_turned : (m : Means) (rs : List RecordNow) (stood : List (Amid D)) (old new : Around D) → EachTurns heard m rs stood old new → NoFewer old.out new.out
  each_turned m [] [] old new e = still old.out new.out (ap (λ (a : Around D). a.out.fast) e)
  each_turned m (r ∷ rs) (a ∷ rest) old new (t, others) = more old.out a.around.out new.out (turned_if m (is_free old.out) all.Done (amid r old) a t) (each_turned m rs rest a.around new others)
  each_turned m [] (a ∷ rest) old new e = absurd e
  each_turned m (r ∷ rs) [] old new e = absurd e

  all_turned : (m : Means) (result : RecordsTurn) (old new : AllAmid D) → TurnsInOrder heard m result old new → NoFewer old.around.out new.around.out
  all_turned m all.Done old new t = each_turned m old.records t.stood old.around new.around t.turns
  all_turned m all.NoMemory old new t =
      more old.around.out t.mid.out new.around.out (each_turned m t.before t.stood old.around t.mid t.turns) (turned_if m (is_free t.mid.out) all.NoMemory (amid t.at t.mid) (amid t.left new.around) t.stops)

  records_turned : (m : Means) (result : RecordsTurn) (old new : AllAmid D) → TurnsEach heard m result old new → NoFewer old.around.out new.around.out
  records_turned m result old new t = more old.around.out t.retried.out new.around.out (retried old.around.out t.retried.out t.retries) (all_turned m result (all_amid old.records t.retried) new t.turns)

  -- ---- the mail

  -- as many calls at once, and no fewer behind the queue
  record MailsOn (old new : Mailing D) : Type 0 where
    fast : new.out.fast ≡ old.out.fast
    queued : length (heard old.queue.queued.inner) ≤ length (heard new.queue.queued.inner)

  puts_on : (place : Places) (old new : Mailing D) → PutsSome heard place old new → MailsOn old new
  puts_on place old new p = record {
    fast = ap (λ (o : OutboxNow D). o.fast) p.out;
    queued = longer (heard old.queue.queued.inner) (heard new.queue.queued.inner) (heard_at_puts p.put) p.heard_more;
  }

  mails_on : (place : Places) (old new : Mailing D) → MailsSome heard place old new → MailsOn old new
  mails_on place old new s =
      let first = puts_on place old (record { out = new.out; queue = s.mid }) s.puts in
      let rest = longer (heard s.mid.queued.inner) (heard new.queue.queued.inner) _ s.dispatches.heard_more in
      let before = first.queued in
      record { fast = first.fast; queued = omega (arith, before, rest) }

  mailed_on : (place : Places) (result : Mailed) (old new : Mailing D) → Mails heard place result old new → MailsOn old new
  mailed_on place mailed.Moved old new (s, a, b) = mails_on place old new s
  mailed_on place mailed.Dry old new (s, a, b) = mails_on place old new s
  mailed_on place mailed.NoMemory old new (inl (p, a)) = puts_on place old new p
  mailed_on place mailed.NoMemory old new (inr (s, a, b)) = mails_on place old new s

  -- ---- a center's turn

  record CallsGoOn (old new : CenterNow D) : Type 0 where
    fast : length (heard old.out.fast) ≤ length (heard new.out.fast)
    queued : length (heard old.queued.inner) ≤ length (heard new.queued.inner)

  center_turned : (E : Type 0) (m : Means) (old new : CenterNow D) → TakesTurn E heard m (Ok tt) old new → CallsGoOn old new
  center_turned E m old new (a, (_, _, accepts), (b, (_, _, halves), (c, (stepped, _, records), (result, _, mail)))) =
      let a_out = ap (λ (x : CenterNow D). length (heard x.out.fast)) accepts.only in
      let a_queue = ap (λ (x : CenterNow D). length (heard x.queued.inner)) accepts.only in
      let b_out = ap (λ (x : CenterNow D). length (heard x.out.fast)) halves.only in
      let b_queue = ap (λ (x : CenterNow D). length (heard x.queued.inner)) halves.only in
      let c_out = records_turned m stepped (all_amid_in b) (all_amid_in c) records.turns in
      let c_queue = ap (λ (x : CenterNow D). length (heard x.queued.inner)) records.only in
      let its = mailed_on (places m.throttles) result (mailing_in c) (mailing_in new) mail.mails in
      let d_out = ap (λ d. length (heard d)) its.fast in
      let d_queue = its.queued in
      record { fast = omega (arith, a_out, b_out, c_out, d_out); queued = omega (arith, a_queue, b_queue, c_queue, d_queue) }

-- ---- turns that are noted

abbrev fast_of : TurnCalls → ℕ
fast_of c = c.fast

abbrev queued_of : TurnCalls → ℕ
queued_of c = c.queued

-- those of a node that is noted, and of another
own_noted : (f : TurnCalls → ℕ) (c : TurnCalls) → ((c.fast == 0) && (c.queued == 0) ≡ true → f c ≡ 0) → (k : ℕ) → (c.node == k) ≡ true → sum_by f (of_node k (noted c)) ≡ f c
own_noted f c none k e = by ((c.fast == 0) && (c.queued == 0)) refl
  where
    by : (b : Bool) → ((c.fast == 0) && (c.queued == 0)) ≡ b → sum_by f (of_node k (if b then [] else c ∷ [])) ≡ f c
    by true h = sym (none h)
    by false h = ap (λ b. sum_by f (if b then c ∷ [] else [])) e ∙ (let n : 0 + f c ≡ f c = omega arith in n)

other_noted : (f : TurnCalls → ℕ) (c : TurnCalls) (k : ℕ) → (c.node == k) ≡ false → sum_by f (of_node k (noted c)) ≡ 0
other_noted f c k e = by ((c.fast == 0) && (c.queued == 0))
  where
    by : (b : Bool) → sum_by f (of_node k (if b then [] else c ∷ [])) ≡ 0
    by true = refl
    by false = ap (λ b. sum_by f (if b then c ∷ [] else [])) e

with_more : (f : TurnCalls → ℕ) (k : ℕ) (xs ys : List TurnCalls) → sum_by f (of_node k (xs ++ ys)) ≡ sum_by f (of_node k xs) + sum_by f (of_node k ys)
with_more f k xs ys = ap (sum_by f) (filter-append (λ (c : TurnCalls). c.node == k) xs ys) ∙ sum_by-append f (of_node k xs) (of_node k ys)

none_fast : (c : TurnCalls) → (c.fast == 0) && (c.queued == 0) ≡ true → c.fast ≡ 0
none_fast c h = eqb-true c.fast 0 (and_parts (c.fast == 0) (c.queued == 0) h).0

none_queued : (c : TurnCalls) → (c.fast == 0) && (c.queued == 0) ≡ true → c.queued ≡ 0
none_queued c h = eqb-true c.queued 0 (and_parts (c.fast == 0) (c.queued == 0) h).1

-- ---- deeds

module _ {D : Type 0} (E : Type 0) (heard : D → List Heard) where
  -- a node as it was, or the one that did something
  one_or_other : (k a : ℕ) (nodes : List (NodeNow D)) (before behind n : NodeNow D) → slice_get nodes a ≡ Some before → slice_get (slice_set nodes a behind) k ≡ Some n →
      ((a == k) ≡ true) × (n ≡ behind) ⊎ ((a == k) ≡ false) × (slice_get nodes k ≡ Some n)
  one_or_other k a nodes before behind n was e = by (a == k) refl
    where
      by : (b : Bool) → (a == k) ≡ b → ((a == k) ≡ true) × (n ≡ behind) ⊎ ((a == k) ≡ false) × (slice_get nodes k ≡ Some n)
      by true h = inl (h, same_Some n behind (sym e ∙ ap (slice_get (slice_set nodes a behind)) (sym (eqb-true a k h)) ∙ get_set nodes a before behind was))
      by false h = inr (h, sym (get_other nodes a k behind (λ same. from_false_true (sym h ∙ eq-eqb a k (sym same)))) ∙ e)

  planned : (a b : ℕ) (x : PlanStep) (old new : RunNow D) → PlansStep (Ok tt) a b x old new → AllNoted heard old → AllNoted heard new
  planned a b x old new p was k n e =
      by (one_or_other k a old.cluster.nodes p.acts.before p.acts.behind n p.acts.was (sym (ap (λ (c : ClusterNow D). slice_get c.nodes k) p.acts.only) ∙ e))
    where
      by : ((a == k) ≡ true) × (n ≡ p.acts.behind) ⊎ ((a == k) ≡ false) × (slice_get old.cluster.nodes k ≡ Some n) → AreNoted heard new k n
      by (inl (h, same)) =
          let its = was k p.acts.before (ap (slice_get old.cluster.nodes) (sym (eqb-true a k h)) ∙ p.acts.was) in
          record {
            fast = ap (λ cs. sum_by fast_of (of_node k cs)) p.calls ∙ its.fast ∙ sym (ap (λ (c : CenterNow D). length (heard c.out.fast)) p.acts.does.plans.only) ∙ ap (fast_calls heard) (sym same);
            queued = ap (λ cs. sum_by queued_of (of_node k cs)) p.calls ∙ its.queued ∙ sym (ap (λ (c : CenterNow D). length (heard c.queued.inner)) p.acts.does.plans.only) ∙ ap (queued_calls heard) (sym same);
          }
      by (inr (h, there)) =
          let its = was k n there in
          record { fast = ap (λ cs. sum_by fast_of (of_node k cs)) p.calls ∙ its.fast; queued = ap (λ cs. sum_by queued_of (of_node k cs)) p.calls ∙ its.queued }

  took_turn : (a : ℕ) (old new : RunNow D) → script.TakesTurn E heard a old new → AllNoted heard old → AllNoted heard new
  took_turn a old new t was k n e =
      by (one_or_other k a old.cluster.nodes t.acts.before t.acts.behind n t.acts.was (sym (ap (λ (c : ClusterNow D). slice_get c.nodes k) t.acts.only) ∙ e))
    where
      c : TurnCalls
      c = record { node = a; fast = fast_calls heard t.acts.behind - fast_calls heard t.acts.before; queued = queued_calls heard t.acts.behind - queued_calls heard t.acts.before }

      all_calls : (f : TurnCalls → ℕ) → sum_by f (of_node k new.calls) ≡ sum_by f (of_node k old.calls) + sum_by f (of_node k (calls_between heard a t.acts.before t.acts.behind))
      all_calls f = ap (λ cs. sum_by f (of_node k cs)) t.calls ∙ with_more f k old.calls (calls_between heard a t.acts.before t.acts.behind)

      by : ((a == k) ≡ true) × (n ≡ t.acts.behind) ⊎ ((a == k) ≡ false) × (slice_get old.cluster.nodes k ≡ Some n) → AreNoted heard new k n
      by (inl (h, same)) =
          let its = was k t.acts.before (ap (slice_get old.cluster.nodes) (sym (eqb-true a k h)) ∙ t.acts.was) in
          let grown = center_turned heard E _ t.acts.before.center t.acts.behind.center t.acts.does.turns in
          let fast_more = grown.fast in
          let queued_more = grown.queued in
          let fast_all = all_calls fast_of in
          let queued_all = all_calls queued_of in
          let fast_now = own_noted fast_of c (none_fast c) k h in
          let queued_now = own_noted queued_of c (none_queued c) k h in
          let fast_was = its.fast in
          let queued_was = its.queued in
          let fast_same = ap (fast_calls heard) same in
          let queued_same = ap (queued_calls heard) same in
          record {
            fast = omega (arith, fast_more, fast_all, fast_now, fast_was, fast_same);
            queued = omega (arith, queued_more, queued_all, queued_now, queued_was, queued_same);
          }
      by (inr (h, there)) =
          let its = was k n there in
          let fast_all = all_calls fast_of in
          let queued_all = all_calls queued_of in
          let fast_none = other_noted fast_of c k h in
          let queued_none = other_noted queued_of c k h in
          let fast_was = its.fast in
          let queued_was = its.queued in
          record { fast = omega (arith, fast_all, fast_none, fast_was); queued = omega (arith, queued_all, queued_none, queued_was) }

  passed_on : (how : Network → Network → Type 0) (old new : RunNow D) → IsPassed (Ok tt) how old new → AllNoted heard old → AllNoted heard new
  passed_on how old new p was k n e = by (slice_get old.cluster.nodes k) refl
    where
      rest : option_map rest_of_node (slice_get old.cluster.nodes k) ≡ Some (rest_of_node n)
      rest =
          sym (slice_get-map rest_of_node old.cluster.nodes k) ∙ sym (ap (λ (c : ClusterNow D). slice_get c.nodes k) p.rest) ∙ slice_get-map rest_of_node new.cluster.nodes k ∙ ap (option_map rest_of_node) e

      by : (o : Option (NodeNow D)) → slice_get old.cluster.nodes k ≡ o → AreNoted heard new k n
      by None f = absurd (none-some (rest_of_node n) (sym (ap (option_map rest_of_node) f) ∙ rest))
      by (Some m) f =
          let its = was k m f in
          let same : rest_of_node m ≡ rest_of_node n = same_Some (rest_of_node m) (rest_of_node n) (sym (ap (option_map rest_of_node) f) ∙ rest) in
          record {
            fast = ap (λ cs. sum_by fast_of (of_node k cs)) p.calls ∙ its.fast ∙ ap (fast_calls heard) same;
            queued = ap (λ cs. sum_by queued_of (of_node k cs)) p.calls ∙ its.queued ∙ ap (queued_calls heard) same;
          }

  happened : (d : Deed) (old new : RunNow D) → Happens E heard (Ok tt) d old new → AllNoted heard old → AllNoted heard new
  happened (plan a b x) old new (does, whole) was = planned a b x old new does was
  happened (turn a) old new (does, whole) was = took_turn a old new does was
  happened (meet a) old new (does, whole) was = passed_on _ old new does was
  happened (flow a b socket most) old new (does, whole) was = passed_on _ old new does was
  happened (fault a b socket) old new (does, whole) was = passed_on _ old new does was

  -- deeds one after another
  pub all_noted : (ds : List Deed) (old new : RunNow D) → Ends E heard (Ok tt) ds old new → AllNoted heard old → AllNoted heard new
  all_noted [] old new e was = subst (AllNoted heard) (sym e) was
  all_noted (d ∷ ds) old new both was = all_noted ds both.between new both.behind (happened d old both.between both.first was)
