-- The turns of records: what they hand on is put, one parcel after another.
use Rattle.std.proofs.Common.{◌≡◌, true, List, [], ◌∷◌, length, Option, Some, None, refl, sym, ap, subst, ◌∙◌, arith}
use Rattle.std.specs.List.{AllByRecursion}
use Rattle.m2_dispatch.specs.Heard.{Heard}
use Rattle.m2_dispatch.specs.Laws.{Call}
use Rattle.m2_fabric.specs.declared.socket.SocketId.{SocketId}
use Rattle.m2_fabric.specs.End.{SeenEnd}
use Rattle.m2_history.specs.m2_record.declared.stepped.Stepped.{Stepped}
use Rattle.m2_history.specs.m2_record.declared.stepped.Stepped.TheVariants as stepped
use Rattle.m2_history.specs.m2_record.IsRecord.{IsFrom, IsRecord}
use Rattle.m2_history.specs.m2_record.RecordNow.{RecordNow, ends_of}
use Rattle.m2_history.specs.m2_record.Sources.{end_at, trail_at}
use Rattle.m2_cluster.specs.m2_center.m2_turn.declared.record_turn.RecordTurn.{RecordTurn}
use Rattle.m2_cluster.specs.m2_center.m2_turn.declared.record_turn.RecordTurn.TheVariants as one
use Rattle.m2_cluster.specs.m2_center.m2_turn.Outbox.{is_free}
use Rattle.m2_cluster.specs.m2_center.m2_turn.RecordTurn.{EndsBy, Means, PutsHanded, Steps, TakesStep, Turning, TurnsAs, worked_by}
use Rattle.m2_cluster.specs.m2_center.m2_turn.Steps as journal
use Rattle.m2_cluster.proofs.m2_center.m2_turn.GoesOn as journals
use Rattle.m2_growth.specs.Ends.{AreOfTheirOwn, EndGrowsTo, EndsGrow}
use Rattle.m2_growth.proofs.Ends.{on_by}
use Rattle.m2_growth.proofs.Standing.{MovesOn}
use Rattle.m2_growth.proofs.Steps as growth
use Rattle.m2_links_go_on.specs.Logged.{deliveries_of, fast_calls}
use Rattle.m2_cluster.proofs.m2_center.m2_turn.Handed.{StepHands, steps}
use Rattle.m2_links_go_on.proofs.Puts.{StaysLogged, free_holds_none, puts, stays_chain, stays_handed, stays_still}
use Rattle.m2_links_go_on.proofs.Speaking.{GoesFurther, IsStillAt, handed_next, handed_still}
use Rattle.m2_fabric.proofs.m2_lemmas.Booleans.{false_isnt_true}

-- ---- where no half is taken

some_there : (o : Option SeenEnd) (r s : RecordNow) (k : SocketId) (e : SeenEnd) → s.trails ≡ r.trails → end_at (ends_of s) k ≡ o → EndGrowsTo (Some e) o → IsStillAt r s k e
some_there (Some f) r s k e trails there g = record { later = f; there = there; got = g.got; put = g.put; trail = ap (λ ts. trail_at ts k) trails }
some_there None r s k e trails there g = absurd g

-- a record's ends grow, and its trails stay
still_at : (r s : RecordNow) → s.trails ≡ r.trails → EndsGrow (ends_of r) (ends_of s) → (k : SocketId) (e : SeenEnd) → end_at (ends_of r) k ≡ Some e → IsStillAt r s k e
still_at r s trails grow k e h = some_there (end_at (ends_of s) k) r s k e trails refl (subst (λ (o : Option SeenEnd). EndGrowsTo o (end_at (ends_of s) k)) h (grow k))

pub moves_further : (r s : RecordNow) → MovesOn r s → journal.GoesOn r s → AreOfTheirOwn (ends_of r) → GoesFurther r s
moves_further r s moves goes own = record {
  facts = goes.facts;
  plan = on_by r.plan s.plan (ap (λ f. f.plan) moves.fixed);
  journal = (goes.more, goes.journal);
  ends = still_at r s (ap (λ f. f.trails) moves.fixed) (moves.stands.ends own).grow;
}

-- ---- one record

module _ {D : Type 0} (heard : D → List Heard) (calls : List Call) (m : Means) where
  -- what the dispatchers were called with stays so, and its ends stay of sockets of their own
  pub record GoesLogged (old new : Turning D) : Type 0 where
    pub stays : StaysLogged heard calls old.out new.out old.side new.side
    pub own : AreOfTheirOwn (ends_of new.side)

  -- a step that hands nothing on
  quiet : (old new : Turning D) → IsRecord old.side → MovesOn old.side new.side → GoesFurther old.side new.side → new.side.handed ≡ old.side.handed → new.out ≡ old.out →
      StaysLogged heard calls old.out new.out old.side new.side
  quiet old new is moves further none same =
      stays_still heard calls old.out new.out old.side new.side (ap (fast_calls heard) same) (ap (λ o. o.mail) same) (ap (λ f. f.place) moves.fixed)
      (handed_still old.side new.side is further none)

  by_answer : (answer : Stepped) (old new : Turning D) → IsRecord old.side → is_free old.out ≡ true → MovesOn old.side new.side → GoesFurther old.side new.side → StepHands answer old.side new.side →
      PutsHanded heard answer old.out new.out → StaysLogged heard calls old.out new.out old.side new.side
  by_answer (stepped.Hand x) old new is free moves further h p =
      let from : IsFrom old.side.place x = (subst (AllByRecursion (IsFrom old.side.place)) h.first is.kept.parcels).0 in
      stays_handed heard calls x old.out new.out old.side new.side (puts heard x old.out new.out (free_holds_none old.out free) p) from (ap (λ f. f.place) moves.fixed)
      (handed_next old.side new.side x is h.first (ap deliveries_of h.only) (ap (λ r. r.handed) h.only))
  by_answer stepped.Moved old new is free moves further h p = quiet old new is moves further h p
  by_answer stepped.Dry old new is free moves further h p = quiet old new is moves further h p
  by_answer (stepped.Full stage held) old new is free moves further h p = quiet old new is moves further h p
  by_answer (stepped.Again stage seen now) old new is free moves further h p = quiet old new is moves further h p
  by_answer stepped.Spent old new is free moves further h p = quiet old new is moves further h p
  by_answer (stepped.Faulted f) old new is free moves further h p = quiet old new is moves further h p
  by_answer stepped.NoMemory old new is free moves further h p = quiet old new is moves further h p

  takes_step : (answer : Stepped) (old new : Turning D) → AreOfTheirOwn (ends_of old.side) → TakesStep heard m answer old new → GoesLogged old new
  takes_step answer old new own t =
      let moves = growth.steps answer (worked_by m answer t.behind old new) old.side new.side t.steps in
      let goes = journals.steps answer (worked_by m answer t.behind old new) old.side new.side t.steps in
      record {
        stays = by_answer answer old new t.before t.free moves (moves_further old.side new.side moves goes own)
            (steps answer (worked_by m answer t.behind old new) old.side new.side refl t.steps) t.puts;
        own = (moves.stands.ends own).own;
      }

  goes_chain : (a b c : Turning D) → GoesLogged a b → GoesLogged b c → GoesLogged a c
  goes_chain a b c first second = record { stays = stays_chain heard calls a.out b.out c.out a.side b.side c.side first.stays second.stays; own = second.own }

  led : (ts : List (Turning D)) (old new : Turning D) → AreOfTheirOwn (ends_of old.side) → Steps heard m ts old new → GoesLogged old new
  led [] old new own e = subst (GoesLogged old) e (record { stays = stays_still heard calls old.out old.out old.side old.side refl refl refl refl; own = own })
  led (t ∷ ts) old new own (first, rest) =
      let one = takes_step first.answer old t own first.takes in
      goes_chain old t new one (led ts t new one.own rest)

  ends_by : (result : RecordTurn) (old new : Turning D) → AreOfTheirOwn (ends_of old.side) → EndsBy heard m result old new → GoesLogged old new
  ends_by result old new own e =
      let before = led e.led.stood old e.mid own e.led.steps in
      goes_chain old e.mid new before (takes_step e.answer e.mid new before.own e.takes)

  pub turns : (result : RecordTurn) (old new : Turning D) → AreOfTheirOwn (ends_of old.side) → TurnsAs heard m result old new → GoesLogged old new
  turns one.Busy old new own t = led t.stood old new own t.steps
  turns one.Stuck old new own t = led t.led.stood old new own t.led.steps
  turns one.Dry old new own t = ends_by one.Dry old new own t
  turns (one.Full stage held) old new own t = ends_by (one.Full stage held) old new own t
  turns (one.Again stage seen at) old new own t = ends_by (one.Again stage seen at) old new own t
  turns one.Spent old new own t = ends_by one.Spent old new own t
  turns (one.Faulted cause) old new own t = ends_by (one.Faulted cause) old new own t
  turns one.NoMemory old new own t = ends_by one.NoMemory old new own t

  -- ---- a turn begins with a record

  by_first : (ts : List (Turning D)) (old mid : Turning D) → Steps heard m ts old mid → IsRecord mid.side → IsRecord old.side
  by_first [] old mid e is = subst (λ (t : Turning D). IsRecord t.side) (sym e) is
  by_first (t ∷ ts) old mid (first, rest) is = first.takes.before

  by_some : (ts : List (Turning D)) (old mid : Turning D) → Steps heard m ts old mid → (ts ≡ [] → ⊥) → IsRecord old.side
  by_some [] old mid e some = absurd (some refl)
  by_some (t ∷ ts) old mid (first, rest) some = first.takes.before

  pub begins : (result : RecordTurn) (old new : Turning D) → is_free old.out ≡ true → TurnsAs heard m result old new → IsRecord old.side
  begins one.Busy old new free t = by_some t.stood old new t.steps (λ e. let n = ap length e in let many = t.many in omega (arith, n, many))
  begins one.Stuck old new free t = by_some t.led.stood old new t.led.steps (λ e. stuck t.led.stood e t.led.steps)
    where
      stuck : (ts : List (Turning D)) → ts ≡ [] → Steps heard m ts old new → ⊥
      stuck ts e s = false_isnt_true (sym t.full ∙ ap (λ (x : Turning D). is_free x.out) (sym (subst (λ l. Steps heard m l old new) e s)) ∙ free)
  begins one.Dry old new free t = by_first t.led.stood old t.mid t.led.steps t.takes.before
  begins (one.Full stage held) old new free t = by_first t.led.stood old t.mid t.led.steps t.takes.before
  begins (one.Again stage seen at) old new free t = by_first t.led.stood old t.mid t.led.steps t.takes.before
  begins one.Spent old new free t = by_first t.led.stood old t.mid t.led.steps t.takes.before
  begins (one.Faulted cause) old new free t = by_first t.led.stood old t.mid t.led.steps t.takes.before
  begins one.NoMemory old new free t = by_first t.led.stood old t.mid t.led.steps t.takes.before
