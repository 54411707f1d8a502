-- Nodes that are alike take their turns alike, as their centers do, and plan alike.
use Rattle.std.proofs.Common.{◌≡◌, ℕ, ◌+◌, ◌-◌, not, ◌++◌, cond, List, [], ◌∷◌, length, map, slice_get, slice_set, Option, None, Some, Ok, refl, sym, subst, ◌∙◌, ap}
use Rattle.std.proofs.Math.Path.{fun_ext}
use Rattle.std.specs.Prelude.{nat_lt}
use Rattle.std.specs.List.{AllByRecursion, flat_map, prefix_len}
use Rattle.std.proofs.lemmas.List.{length-map}
use Rattle.m2_dispatch.specs.Heard.{Heard}
use Rattle.m2_dispatch.specs.m2_shared.Numbers.{SeenNumbers}
use Rattle.m2_dispatch.specs.m2_shared.Gates.{Gate, places, words}
use Rattle.m2_dispatch.specs.m2_shared.declared.throttles.Throttles.{Throttles}
use Rattle.m2_fabric.proofs.m2_lemmas.Lists.{all_at, all_back, all_front, all_of_map, all_so, cons_same}
use Rattle.m2_fabric.specs.End.{SeenEnd}
use Rattle.m2_fabric.specs.Kinds.{IsInMemory}
use Rattle.m2_script.specs.m2_center.Center.{CenterNow}
use Rattle.m2_script.specs.m2_center.CenterTurn.{TakesTurn, means_at}
use Rattle.m2_script.specs.m2_center.Plans.{PlansIn, is_towards, place_towards}
use Rattle.m2_script.specs.m2_center.Reaching.{waiting_at}
use Rattle.m2_script.specs.m2_cluster.Node.{IsWholeNode, NodeNow, NodePlans}
use Rattle.m2_script.specs.m2_center.m2_turn.Hearing as halves
use Rattle.m2_script.specs.m2_center.m2_turn.Planning.{TakesNew}
use Rattle.m2_script.specs.m2_center.m2_turn.Sessions.{PendingNow}
use Rattle.m2_script.specs.m2_center.m2_feed.FeedNow.{FeedNow}
use Rattle.m2_script.specs.m2_center.m2_feed.m2_journal.declared.facts.PlanStep.{PlanStep}
use Rattle.m2_script.specs.m2_center.m2_feed.m2_journal.declared.facts.PlanStep.TheVariants as step
use Rattle.m2_script.specs.m2_center.m2_record.Calls.{planned_too, returned_by}
use Rattle.m2_script.specs.m2_center.m2_record.RecordNow.{RecordNow, ends_of, feed_end}
use Rattle.m2_exact.proofs.Centers as centers
use Rattle.m2_exact.proofs.Dialing as dialing
use Rattle.m2_exact.proofs.Lists.{all_set, map_get, map_set}
use Rattle.m2_exact.proofs.Signing as signing
use Rattle.m2_exact.specs.Centers.{IsFitCenter, LikeCentersTurnAlike, PlainCenter, plain_center}
use Rattle.m2_exact.specs.Cores.{OnMemory}
use Rattle.m2_exact.specs.Nodes.{IsAskedBehind, IsFitNode, LikeNodesActAlike, NodeTurned, PlainNode, plain_node}
use Rattle.m2_exact.specs.Records.{plain}
use Rattle.m2_exact.specs.RecordTurns.{HasAlone, IsFit}

-- ---- a node that is fit has a center that is

fit_record : (r : RecordNow) → AllByRecursion IsInMemory (ends_of r) → IsAskedBehind r → IsFit r
fit_record r memory asked = record { memory = by r.core.live.feed memory; asked = asked }
  where
    by : (x : Option FeedNow) → AllByRecursion IsInMemory (feed_end x ++ r.spent) → OnMemory x
    by (Some v) m = m.0
    by None m = tt

fit_records : (rs : List RecordNow) → AllByRecursion IsInMemory (flat_map ends_of rs) → AllByRecursion IsAskedBehind rs → AllByRecursion IsFit rs
fit_records [] memory asked = tt
fit_records (r ∷ rs) memory asked =
    (fit_record r (all_front IsInMemory (ends_of r) (flat_map ends_of rs) memory) asked.0, fit_records rs (all_back IsInMemory (ends_of r) (flat_map ends_of rs) memory) asked.1)

fit_center : {D : Type 0} (n : NodeNow D) → IsFitNode n → IsFitCenter n.center
fit_center n f =
    let c = n.center in
    let pending : List SeenEnd = map (λ (p : PendingNow). p.half.end) c.halves.pending in
    let held = all_front IsInMemory (flat_map ends_of c.records ++ halves.ends_in c.halves) (waiting_at c.port) f.whole.memory in
    let half = all_back IsInMemory (flat_map ends_of c.records) (halves.ends_in c.halves) held in
    record {
      records = fit_records c.records (all_front IsInMemory (flat_map ends_of c.records) (halves.ends_in c.halves) held) f.asked;
      halves = all_of_map IsInMemory (λ (p : PendingNow). p.half.end) c.halves.pending (all_front IsInMemory pending (map (λ l. l.end) c.halves.loose) half);
      port = f.whole.port;
      waits = all_back IsInMemory (flat_map ends_of c.records ++ halves.ends_in c.halves) (waiting_at c.port) f.whole.memory;
    }

-- ---- the first record towards a peer

first_same : (peer : ℕ) (rs ss : List RecordNow) → map plain rs ≡ map plain ss → prefix_len (λ r. not (is_towards peer r)) rs ≡ prefix_len (λ r. not (is_towards peer r)) ss
first_same peer [] [] like = refl
first_same peer [] (s ∷ ss) like = absurd (cc like)
first_same peer (r ∷ rs) [] like = absurd (cc like)
first_same peer (r ∷ rs) (s ∷ ss) like =
    let both = cons_same (plain r) (plain s) (map plain rs) (map plain ss) like in
    let rest = first_same peer rs ss both.1 in
    ap (λ (x : RecordNow). prefix_len (λ r. not (is_towards peer r)) (x ∷ rs)) both.0
    ∙ ap (λ n. cond (not (is_towards peer s)) (1 + n) 0) rest

place_same : (peer : ℕ) (rs ss : List RecordNow) → map plain rs ≡ map plain ss → place_towards peer rs ≡ place_towards peer ss
place_same peer rs ss like =
    let many : length rs ≡ length ss = sym (length-map rs plain) ∙ ap length like ∙ length-map ss plain in
    ap (λ n. cond (nat_lt n (length rs)) (Some n) None) (first_same peer rs ss like)
    ∙ ap (λ m. cond (nat_lt (prefix_len (λ r. not (is_towards peer r)) ss) m) (Some (prefix_len (λ r. not (is_towards peer r)) ss)) None) many

returned_same : (x : PlanStep) (r s : RecordNow) → plain r ≡ plain s → (gate : Gate) → returned_by (Some x) r gate ≡ returned_by (Some x) s gate
returned_same step.Down r s like gate = ap (λ (z : RecordNow). returned_by (Some step.Down) z gate) like
returned_same step.Dial r s like gate = refl
returned_same (step.Post m) r s like gate = refl

one_number : (n m : ℕ) → Some n ≡ Some m → n ≡ m
one_number n m e = cc e

planned_asked : (x : PlanStep) (now : ℕ) (old new : RecordNow) → IsAskedBehind old → TakesNew x now old new → IsAskedBehind new
planned_asked x now old new asked h = signing.plans (Some x) (Ok tt) now (planned_too x h.mid) new (subst IsAskedBehind (sym h.room) asked) h.takes

module _ {D : Type 0} (E : Type 0) (heard : D → List Heard) where
  law : LikeCentersTurnAlike E D heard
  law = centers.alike heard

  node_of : (new behind : NodeNow D) → plain_center heard new.center ≡ plain_center heard behind.center → new.numbers ≡ behind.numbers → new.throttles ≡ behind.throttles → plain_node heard new ≡ plain_node heard behind
  node_of new behind center numbers throttles =
      ap (λ (c : PlainCenter). record (plain_node heard new) { center = c }) center
      ∙ ap (λ (n : SeenNumbers). record { center = plain_center heard behind.center; numbers = n; throttles = new.throttles }) numbers
      ∙ ap (λ (t : Throttles). record (plain_node heard behind) { throttles = t }) throttles

  -- ---- a turn

  alone : (now : ℕ) (n : NodeNow D) → IsFitNode n → HasAlone (means_at now n.numbers n.throttles)
  alone now n f = record { throttles = f.throttles; counter = f.counter }

  turns : (now : ℕ) (old last new behind : NodeNow D) → IsFitNode old → plain_node heard old ≡ plain_node heard last → NodeTurned E heard now old new → NodeTurned E heard now last behind →
      plain_node heard new ≡ plain_node heard behind
  turns now old last new behind f like h g =
      let numbers : old.numbers ≡ last.numbers = ap (λ (n : PlainNode). n.numbers) like in
      let throttles : old.throttles ≡ last.throttles = ap (λ (n : PlainNode). n.throttles) like in
      let other : TakesTurn E heard (means_at now old.numbers old.throttles) (Ok tt) last.center behind.center =
      subst (λ (t : Throttles). TakesTurn E heard (means_at now old.numbers t) (Ok tt) last.center behind.center) (sym throttles)
      (subst (λ (n : SeenNumbers). TakesTurn E heard (means_at now n last.throttles) (Ok tt) last.center behind.center) (sym numbers) g.turns.turns) in
      node_of new behind
      (law.turns (means_at now old.numbers old.throttles) old.center last.center new.center behind.center (alone now old f) (fit_center old f) (ap (λ (n : PlainNode). n.center) like) h.turns.turns other h.none_held g.none_held)
      (h.turns.shared.numbers ∙ numbers ∙ sym g.turns.shared.numbers)
      (h.turns.shared.throttles ∙ throttles ∙ sym g.turns.shared.throttles)

  turn_stays : (now : ℕ) (old new : NodeNow D) → IsFitNode old → NodeTurned E heard now old new → IsWholeNode new → IsFitNode new
  turn_stays now old new f h whole =
      let fit = law.stays (means_at now old.numbers old.throttles) old.center new.center (fit_center old f) h.turns.turns h.none_held in
      record {
        whole = whole;
        asked = all_so IsFit IsAskedBehind (λ r fit. fit.asked) new.center.records fit.records;
        throttles = λ gate. ap (λ (t : Throttles). places t gate) h.turns.shared.throttles ∙ f.throttles gate;
        counter = ap (λ (n : SeenNumbers). n.place) h.turns.shared.numbers ∙ f.counter;
      }

  -- ---- a step that is planned

  center_plans : (peer : ℕ) (x : PlanStep) (now : ℕ) (old last new behind : NodeNow D) → IsFitNode old → plain_node heard old ≡ plain_node heard last →
      PlansIn (Ok tt) peer x now old.throttles old.center new.center → PlansIn (Ok tt) peer x now last.throttles last.center behind.center →
      plain_center heard new.center ≡ plain_center heard behind.center
  center_plans peer x now old last new behind f like h g =
      let center : plain_center heard old.center ≡ plain_center heard last.center = ap (λ (n : PlainNode). n.center) like in
      let records : map plain old.center.records ≡ map plain last.center.records = ap (λ (c : PlainCenter). c.records) center in
      let place : h.place ≡ g.place = one_number h.place g.place (sym h.first ∙ place_same peer old.center.records last.center.records records ∙ g.first) in
      let before : plain h.before ≡ plain g.before =
      map_get plain old.center.records last.center.records h.place h.before g.before records h.side (ap (slice_get last.center.records) place ∙ g.side) in
      let side : plain h.behind ≡ plain g.behind = dialing.alike.plans x now h.before g.before h.behind g.behind before h.plans g.plans in
      let all : map plain (slice_set old.center.records h.place h.behind) ≡ map plain (slice_set last.center.records g.place g.behind) =
      map_set plain old.center.records last.center.records h.place h.behind g.behind records side
      ∙ ap (λ (k : ℕ). map plain (slice_set last.center.records k g.behind)) place in
      let word : words new.center.bytes ≡ words behind.center.bytes =
      fun_ext (λ gate. h.gives gate (f.throttles gate)
      ∙ ap (λ (c : PlainCenter). c.bytes gate - returned_by (Some x) h.before gate) center
      ∙ ap (λ (k : ℕ). words last.center.bytes gate - k) (returned_same x h.before g.before before gate)
      ∙ sym (g.gives gate (sym (ap (λ (n : PlainNode). places n.throttles gate) like) ∙ f.throttles gate))) in
      ap (plain_center heard) h.only
      ∙ ap (λ (c : PlainCenter). record c { records = map plain (slice_set old.center.records h.place h.behind); bytes = words new.center.bytes }) center
      ∙ ap (λ (rs : List RecordNow). record (plain_center heard last.center) { records = rs; bytes = words new.center.bytes }) all
      ∙ ap (λ (n : Gate → ℕ). record (plain_center heard last.center) { records = map plain (slice_set last.center.records g.place g.behind); bytes = n }) word
      ∙ sym (ap (plain_center heard) g.only)

  plans : (peer : ℕ) (x : PlanStep) (now : ℕ) (old last new behind : NodeNow D) → IsFitNode old → plain_node heard old ≡ plain_node heard last → NodePlans (Ok tt) peer x now old new →
      NodePlans (Ok tt) peer x now last behind → plain_node heard new ≡ plain_node heard behind
  plans peer x now old last new behind f like h g =
      node_of new behind (center_plans peer x now old last new behind f like h.plans g.plans)
      (h.shared.numbers ∙ ap (λ (n : PlainNode). n.numbers) like ∙ sym g.shared.numbers)
      (h.shared.throttles ∙ ap (λ (n : PlainNode). n.throttles) like ∙ sym g.shared.throttles)

  plan_stays : (peer : ℕ) (x : PlanStep) (now : ℕ) (old new : NodeNow D) → IsFitNode old → NodePlans (Ok tt) peer x now old new → IsWholeNode new → IsFitNode new
  plan_stays peer x now old new f h whole =
      let p = h.plans in
      let before : IsAskedBehind p.before = all_at IsAskedBehind old.center.records p.place p.before p.side f.asked in
      record {
        whole = whole;
        asked = subst (λ (c : CenterNow D). AllByRecursion IsAskedBehind c.records) (sym p.only)
            (all_set IsAskedBehind old.center.records p.place p.behind f.asked (planned_asked x now p.before p.behind before p.plans));
        throttles = λ gate. ap (λ (t : Throttles). places t gate) h.shared.throttles ∙ f.throttles gate;
        counter = ap (λ (n : SeenNumbers). n.place) h.shared.numbers ∙ f.counter;
      }

  pub alike : LikeNodesActAlike E D heard
  alike = record { turns = turns; turn_stays = turn_stays; plans = plans; plan_stays = plan_stays }
