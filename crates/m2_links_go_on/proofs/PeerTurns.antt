-- All of a center's turn: its records have their peers and their plans still, and all calls are of these peers.
use Rattle.m2_dispatch.specs.m2_shared.Gates.{places}
use Rattle.std.proofs.Common.{◌≡◌, inl, inr, ℕ, zero, suc, ◌==◌, ◌||◌, Bool, true, false, List, [], ◌∷◌, map, Option, Some, None, IfSome, Ok, Err, refl, sym, ap, subst, ◌∙◌}
use Rattle.std.specs.Prelude.{slice_get, slice_set}
use Rattle.std.specs.List.{AllByRecursion, list_any}
use Rattle.std.proofs.lemmas.Bool.{eq-eqb}
use Rattle.m2_history.specs.m2_channel.Handing as handing
use Rattle.m2_dispatch.specs.Heard.{Heard, peer_of}
use Rattle.m2_dispatch.specs.declared.letter.Letter.{Letter}
use Rattle.m2_dispatch.specs.declared.parcel.Parcel.{Parcel}
use Rattle.m2_dispatch.specs.Dispatch.{Queued}
use Rattle.m2_weave.specs.m2_journal.declared.facts.PlanStep.{PlanStep}
use Rattle.m2_weave.specs.m2_journal.declared.facts.PlanStep.TheVariants as step
use Rattle.m2_history.specs.m2_record.Calls.{TakesNext, planned_too}
use Rattle.m2_history.specs.m2_record.RecordNow.{RecordNow}
use Rattle.m2_cluster.specs.m2_center.m2_turn.declared.accepting.Accepted.{Accepted}
use Rattle.m2_cluster.specs.m2_center.m2_turn.declared.halves_turn.HalvesTurn.{HalvesTurn}
use Rattle.m2_cluster.specs.m2_center.m2_turn.declared.mailing.Mailed.{Mailed}
use Rattle.m2_cluster.specs.m2_center.m2_turn.declared.records_turn.RecordsTurn.{RecordsTurn}
use Rattle.m2_cluster.specs.m2_center.m2_turn.Outbox.{OutboxNow}
use Rattle.m2_cluster.specs.m2_center.m2_turn.Planning.{PlansNow}
use Rattle.m2_cluster.specs.m2_center.m2_turn.RecordTurn.{Means}
use Rattle.m2_cluster.specs.m2_center.Center.{CenterNow}
use Rattle.m2_cluster.specs.m2_center.CenterTurn.{Accepts, Answer, EmptiesMail, TakesTurn, TurnsHalves, TurnsRecords, all_amid_in, callers_of, mailing_in}
use Rattle.m2_cluster.specs.m2_center.Reaching.{untold_record}
use Rattle.m2_cluster.proofs.m2_center.m2_turn.Steady.{halves_stay_steady}
use Rattle.m2_links_go_on.proofs.Lagging.{place_of}
use Rattle.m2_links_go_on.specs.OfPeers.{AreOfPeers, IsPeerOf}
use Rattle.m2_links_go_on.specs.PeerLaws.{AreOfItsPeers, BeginOfPeers, PlansStayOfPeers, RestStaysOfPeers, TurnsStayOfPeers}
use Rattle.m2_links_go_on.proofs.Untold.{map_same}
use Rattle.m2_links_go_on.proofs.KeptPlans.{KeepPlans, planned_of, steady_plans}
use Rattle.m2_links_go_on.proofs.PeerOutboxes.{AllIsOf, QueueIsOf, mailed_on}
use Rattle.m2_links_go_on.proofs.PeerRecords.{records_turn}
use Rattle.m2_fabric.proofs.m2_lemmas.Lists.{all_so_of}

-- ---- peers of records

-- each record is towards one
here : (rs : List RecordNow) (Allowed : ℕ → Type 0) → ((peer : ℕ) → IsPeerOf rs peer → Allowed peer) → AllByRecursion (λ (r : RecordNow). Allowed r.place) rs
here [] Allowed so = tt
here (r ∷ rs) Allowed so = (
  so r.place (ap (λ b. b || list_any (λ (x : RecordNow). x.place == r.place) rs) (eq-eqb r.place r.place refl)),
  here rs Allowed (λ peer is. so peer (behind (r.place == peer) _ is)),
)
  where
    behind : (a b : Bool) → b ≡ true → a || b ≡ true
    behind true b e = refl
    behind false b e = e

pub each_is_peer : (rs : List RecordNow) → AllByRecursion (λ (r : RecordNow). IsPeerOf rs r.place) rs
each_is_peer rs = here rs (IsPeerOf rs) (λ peer is. is)

-- ---- where they have their peers still

abbrev pub SamePlaces : (rs ss : List RecordNow) → Type 0
SamePlaces rs ss = map place_of ss ≡ map place_of rs

pub same_places : (rs ss : List RecordNow) → KeepPlans rs ss → SamePlaces rs ss
same_places rs ss e = sym (firsts ss) ∙ ap (map (λ (p : ℕ × List PlanStep). p.0)) e ∙ firsts rs
  where
    firsts : (rs : List RecordNow) → map (λ (p : ℕ × List PlanStep). p.0) (map planned_of rs) ≡ map place_of rs
    firsts [] = refl
    firsts (r ∷ rs) = ap (λ l. r.place ∷ l) (firsts rs)

same_any : (rs ss : List RecordNow) → SamePlaces rs ss → (peer : ℕ) →
    list_any (λ (r : RecordNow). r.place == peer) ss ≡ list_any (λ (r : RecordNow). r.place == peer) rs
same_any [] [] e peer = refl
same_any (r ∷ rs) (s ∷ ss) e peer =
    let first : s.place ≡ r.place = cc in
    let rest : SamePlaces rs ss = cc in
    ap (λ p. (p == peer) || list_any (λ (x : RecordNow). x.place == peer) ss) first ∙ ap (λ b. (r.place == peer) || b) (same_any rs ss rest peer)
same_any [] (s ∷ ss) e peer = absurd cc
same_any (r ∷ rs) [] e peer = absurd cc

all_allowed : (Allowed : ℕ → Type 0) (rs ss : List RecordNow) → SamePlaces rs ss → AllByRecursion (λ (r : RecordNow). Allowed r.place) rs →
    AllByRecursion (λ (r : RecordNow). Allowed r.place) ss
all_allowed Allowed [] [] e all = tt
all_allowed Allowed (r ∷ rs) (s ∷ ss) e all =
    let first : s.place ≡ r.place = cc in
    let rest : SamePlaces rs ss = cc in
    (subst Allowed (sym first) all.0, all_allowed Allowed rs ss rest all.1)
all_allowed Allowed [] (s ∷ ss) e all = absurd cc
all_allowed Allowed (r ∷ rs) [] e all = absurd cc

-- ---- of whom calls are

module _ {D : Type 0} (heard : D → List Heard) where
  pub all_is_of : (records : List RecordNow) (o : OutboxNow D) (q : Queued D) → AreOfPeers heard records o q → AllIsOf heard (IsPeerOf records) o q
  all_is_of records o q a = record {
    fast = record { fast = a.fast; held = a.held; mail = a.mail };
    queue = record { waiting = a.waiting; calls = a.queued };
  }

  -- of the peers that records have still
  pub are_of_peers : (rs ss : List RecordNow) (o : OutboxNow D) (q : Queued D) → SamePlaces rs ss → AllIsOf heard (IsPeerOf rs) o q → AreOfPeers heard ss o q
  are_of_peers rs ss o q e a = record {
    fast = all_so_of (λ (h : Heard). IsPeerOf rs (peer_of h)) (λ (h : Heard). IsPeerOf ss (peer_of h)) (heard o.fast) (λ h. still (peer_of h)) a.fast.fast;
    held = letter o.held a.fast.held;
    mail = all_so_of (λ (x : Parcel). IsPeerOf rs (handing.peer_of x)) (λ (x : Parcel). IsPeerOf ss (handing.peer_of x)) o.mail (λ x. still (handing.peer_of x)) a.fast.mail;
    waiting = all_so_of (λ (l : Letter). IsPeerOf rs l.peer) (λ (l : Letter). IsPeerOf ss l.peer) q.waiting (λ l. still l.peer) a.queue.waiting;
    queued = all_so_of (λ (h : Heard). IsPeerOf rs (peer_of h)) (λ (h : Heard). IsPeerOf ss (peer_of h)) (heard q.inner) (λ h. still (peer_of h)) a.queue.calls;
  }
    where
      still : (peer : ℕ) → IsPeerOf rs peer → IsPeerOf ss peer
      still peer is = same_any rs ss e peer ∙ is

      letter : (h : Option Letter) → IfSome h (λ (l : Letter). IsPeerOf rs l.peer) → IfSome h (λ (l : Letter). IsPeerOf ss l.peer)
      letter (Some l) is = still l.peer is
      letter None is = tt

-- ---- a turn

module _ {D : Type 0} (E : Type 0) (heard : D → List Heard) (m : Means) (first : List RecordNow) where
  -- what holds behind each part of it
  record HasTurned (c : CenterNow D) : Type 0 where
    plans : KeepPlans first c.records
    all : AllIsOf heard (IsPeerOf first) c.out c.queued

  accepted : (result : Accepted) (old new : CenterNow D) → Accepts result old new → HasTurned old → HasTurned new
  accepted result old new a was = record {
    plans = ap (λ (c : CenterNow D). map planned_of c.records) a.only ∙ was.plans;
    all = subst (λ (o : OutboxNow D). AllIsOf heard (IsPeerOf first) o new.queued) (sym (ap (λ (c : CenterNow D). c.out) a.only))
        (subst (AllIsOf heard (IsPeerOf first) old.out) (sym (ap (λ (c : CenterNow D). c.queued) a.only)) was.all);
  }

  halves_turned : (result : HalvesTurn) (old new : CenterNow D) → TurnsHalves E m result old new → HasTurned old → HasTurned new
  halves_turned result old new t was = record {
    plans = steady_plans old.records new.records (halves_stay_steady E result m (callers_of old) (callers_of new) t.turns) ∙ was.plans;
    all = subst (λ (o : OutboxNow D). AllIsOf heard (IsPeerOf first) o new.queued) (sym (ap (λ (c : CenterNow D). c.out) t.only))
        (subst (AllIsOf heard (IsPeerOf first) old.out) (sym (ap (λ (c : CenterNow D). c.queued) t.only)) was.all);
  }

  records_turned : (result : RecordsTurn) (old new : CenterNow D) → TurnsRecords heard m result old new → HasTurned old → HasTurned new
  records_turned result old new t was =
      let peers = all_allowed (IsPeerOf first) first old.records (same_places first old.records was.plans) (each_is_peer first) in
      let done = records_turn heard m (IsPeerOf first) result (all_amid_in old) (all_amid_in new) t.turns peers was.all.fast in
      record {
        plans = done.0 ∙ was.plans;
        all = record { fast = done.1; queue = subst (QueueIsOf heard (IsPeerOf first)) (sym (ap (λ (c : CenterNow D). c.queued) t.only)) was.all.queue };
      }

  mail_emptied : (result : Mailed) (old new : CenterNow D) → EmptiesMail heard m result old new → HasTurned old → HasTurned new
  mail_emptied result old new e was = record {
    plans = ap (λ (c : CenterNow D). map planned_of c.records) e.only ∙ was.plans;
    all = mailed_on heard (IsPeerOf first) (places m.throttles) result (mailing_in old) (mailing_in new) e.mails was.all;
  }

  turned : (answer : Answer) (old new : CenterNow D) → TakesTurn E heard m answer old new → HasTurned old → HasTurned new
  turned (Ok _) old new (a, (_, _, accepts), (b, (_, _, halves), (c, (_, _, records), (result, _, mail)))) was =
      mail_emptied result c new mail (records_turned _ b c records (halves_turned _ a b halves (accepted _ old a accepts was)))
  turned (Err e) old new (inl (_, _, accepts)) was = accepted _ old new accepts was
  turned (Err e) old new (inr (a, (_, _, accepts), inl (_, _, halves))) was = halves_turned _ a new halves (accepted _ old a accepts was)
  turned (Err e) old new (inr (a, (_, _, accepts), inr (b, (_, _, halves), inl (_, _, records)))) was =
      records_turned _ b new records (halves_turned _ a b halves (accepted _ old a accepts was))
  turned (Err e) old new (inr (a, (_, _, accepts), inr (b, (_, _, halves), inr (c, (_, _, records), (result, _, mail))))) was =
      mail_emptied result c new mail (records_turned _ b c records (halves_turned _ a b halves (accepted _ old a accepts was)))

pub turn_keeps_plans : {D : Type 0} (E : Type 0) (heard : D → List Heard) (m : Means) (answer : Answer) (old new : CenterNow D) → TakesTurn E heard m answer old new →
    AreOfPeers heard old.records old.out old.queued →
    KeepPlans old.records new.records × AreOfPeers heard new.records new.out new.queued
turn_keeps_plans E heard m answer old new t are =
    let done = turned E heard m old.records answer old new t (record { plans = refl; all = all_is_of heard old.records old.out old.queued are }) in
    (done.plans, are_of_peers heard old.records new.records new.out new.queued (same_places old.records new.records done.plans) done.all)

pub turns_stay_of_peers : {D : Type 0} (E : Type 0) → TurnsStayOfPeers D E
turns_stay_of_peers E heard m answer old new t are = (turn_keeps_plans E heard m answer old new t are).1

-- ---- at first

pub begin_of_peers : {D : Type 0} → BeginOfPeers D
begin_of_peers heard records fast queued none none_queued = record {
  fast = subst (AllByRecursion (λ (h : Heard). IsPeerOf records (peer_of h))) (sym none) tt;
  held = tt;
  mail = tt;
  waiting = tt;
  queued = subst (AllByRecursion (λ (h : Heard). IsPeerOf records (peer_of h))) (sym none_queued) tt;
}

-- ---- where records alone change, and have their peers still

with_records : {D : Type 0} (heard : D → List Heard) (old new : CenterNow D) → SamePlaces old.records new.records → new.out ≡ old.out → new.queued ≡ old.queued →
    AreOfItsPeers heard old → AreOfItsPeers heard new
with_records {D} heard old new places out queued are =
    subst (λ (o : OutboxNow D). AreOfPeers heard new.records o new.queued) (sym out)
    (subst (λ (q : Queued D). AreOfPeers heard new.records old.out q) (sym queued)
    (are_of_peers heard old.records new.records old.out old.queued places (all_is_of heard old.records old.out old.queued are)))

-- what ends are told
told_places : (rs ss : List RecordNow) → map untold_record ss ≡ map untold_record rs → SamePlaces rs ss
told_places rs ss e = sym (map_same untold_record place_of (λ r. refl) ss) ∙ ap (map place_of) e ∙ map_same untold_record place_of (λ r. refl) rs

pub rest_stays_of_peers : {D : Type 0} → RestStaysOfPeers D
rest_stays_of_peers {D} heard old new e are =
    with_records heard old new (told_places old.records new.records (ap (λ (c : CenterNow D). c.records) e)) (ap (λ (c : CenterNow D). c.out) e)
    (ap (λ (c : CenterNow D). c.queued) e) are

-- a step that is planned
place_taken : (x : PlanStep) (now : ℕ) (mid new : RecordNow) → TakesNext (Some x) (Ok tt) now (planned_too x mid) new → new.place ≡ mid.place
place_taken (step.Post m) now mid new e = ap place_of e
place_taken step.Dial now mid new e = ap place_of e
place_taken step.Down now mid new e = ap place_of e

place_planned : (result : Answer) (x : PlanStep) (now : ℕ) (old new : RecordNow) → PlansNow result x now old new → new.place ≡ old.place
place_planned (Ok u) x now old new t = place_taken x now t.mid new t.takes ∙ ap place_of t.room
place_planned (Err u) x now old new (inl e) = ap place_of e
place_planned (Err u) x now old new (inr e) = ap place_of e

places_set : (rs : List RecordNow) (k : ℕ) (side behind : RecordNow) → slice_get rs k ≡ Some side → behind.place ≡ side.place → SamePlaces rs (slice_set rs k behind)
places_set [] k side behind e h = absurd cc
places_set (r ∷ rs) zero side behind e h = let same : side ≡ r = cc in ap (λ p. p ∷ map place_of rs) (h ∙ ap place_of same)
places_set (r ∷ rs) (suc k) side behind e h = ap (λ l. r.place ∷ l) (places_set rs k side behind e h)

pub plans_stay_of_peers : {D : Type 0} → PlansStayOfPeers D
plans_stay_of_peers {D} heard result peer x now throttle old new p are =
    let places = ap (λ (c : CenterNow D). map place_of c.records) p.only
    ∙ places_set old.records p.place p.before p.behind p.side (place_planned result x now p.before p.behind p.plans) in
    with_records heard old new places (ap (λ (c : CenterNow D). c.out) p.only) (ap (λ (c : CenterNow D). c.queued) p.only) are
