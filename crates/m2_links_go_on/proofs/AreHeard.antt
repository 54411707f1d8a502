-- At first nothing was handed on and nothing was heard; and what is heard is of each record what it accepted.
use Rattle.std.proofs.Common.{◌≡◌, ℕ, ◌==◌, List, [], ◌∷◌, ◌++◌, map, take, drop, None, refl, sym, ap, subst, ◌∙◌, append_assoc, take-append-drop}
use Rattle.std.specs.List.{AllByRecursion}
use Rattle.std.proofs.lemmas.List.{map-append}
use Rattle.std.proofs.lemmas.List.Elements.{filter-append}
use Rattle.m2_history.specs.m2_channel.Handing.{AreFirstCalls, AreParcelsOf, IsHeardOf, IsParcelOf, LogsAreLogs, calls_of, heard_at_once, heard_by_calls, parcels_of, queued_of}
use Rattle.m2_history.specs.m2_channel.Observed.{Logs, all_of}
use Rattle.m2_dispatch.specs.Heard as hear
use Rattle.m2_dispatch.specs.Heard.{Heard}
use Rattle.m2_dispatch.specs.declared.parcel.Parcel.{Parcel}
use Rattle.m2_dispatch.specs.declared.parcel.Parcel.TheVariants as parcel
use Rattle.m2_dispatch.specs.Dispatch.{Queued}
use Rattle.m2_dispatch.specs.Laws.{Call, start}
use Rattle.m2_weave.specs.m2_journal.State.{Delivery, State}
use Rattle.m2_history.specs.m2_record.IsRecord.{IsReplayedTo}
use Rattle.m2_history.specs.m2_record.RecordNow.{RecordNow, delivery_of}
use Rattle.m2_cluster.specs.m2_center.m2_turn.Outbox.{OutboxNow}
use Rattle.m2_links_go_on.specs.LogLaws.{BeginLogged, LoggedAreHeard}
use Rattle.m2_links_go_on.specs.Logged.{IsLogged, IsLoggedOf, all_put, deliveries_of, handed_of, heard_held, logging, logs_in}
use Rattle.m2_links_go_on.proofs.Puts.{once-append, parcels-append, queued-append}

-- ---- at first

take_none : {X : Type 0} (l : List X) → take 0 l ≡ []
take_none [] = refl
take_none (x ∷ xs) = refl

none_handed : (r : RecordNow) → r.handed ≡ 0 → handed_of r ≡ []
none_handed r e = ap (λ n. take n (deliveries_of r)) e ∙ take_none (deliveries_of r)

all_begin : {D : Type 0} (heard : D → List Heard) (fast : D) (rs : List RecordNow) → heard fast ≡ [] → AllByRecursion (λ (r : RecordNow). r.handed ≡ 0) rs →
    AllByRecursion (IsLoggedOf heard [] (record { fast = fast; mail = []; held = None })) rs
all_begin heard fast [] none all = tt
all_begin heard fast (r ∷ rs) none all = (
  record {
    fast = ap (λ k. calls_of r.place (k ++ [])) none ∙ ap (heard_at_once r.place) (sym (none_handed r all.0));
    queued = ap queued_of (sym (none_handed r all.0));
  },
  all_begin heard fast rs none all.1,
)

pub begin_logged : {D : Type 0} → BeginLogged D
begin_logged heard records fast queued peers none no_fast no_queued = record {
  peers = peers;
  calls = [];
  queue = record { waiting = λ peer. refl; heard_so = λ peer. no_queued };
  each = all_begin heard fast records no_fast none;
}

-- ---- what is heard

pub is_parcel : (x : Parcel) → IsParcelOf x (delivery_of x)
is_parcel (parcel.Letter l) = (refl, refl, refl, refl)
is_parcel (parcel.Discard peer) = tt
is_parcel (parcel.RemoteReset peer) = tt

are_parcels : (xs : List Parcel) (more : List Delivery) → AreParcelsOf xs (map delivery_of xs ++ more)
are_parcels [] more = tt
are_parcels (x ∷ xs) more = (is_parcel x, are_parcels xs more)

module _ {D : Type 0} (heard : D → List Heard) (calls : List Call) (out : OutboxNow D) (r : RecordNow) (s : State) (is : IsLoggedOf heard calls out r) (at : IsReplayedTo s r) where
  abbrev rest : List Delivery
  rest = drop r.handed (deliveries_of r)

  delivered : s.deliveries ≡ handed_of r ++ rest
  delivered = ap (λ (t : State). t.deliveries) at.replay.state ∙ sym (take-append-drop r.handed (deliveries_of r))

  first_calls : AreFirstCalls (calls_of r.place (heard out.fast)) (heard_at_once r.place s.deliveries)
  first_calls =
      let held = calls_of r.place (heard_held out.held) in
      let later = heard_at_once r.place rest in
      let called : heard_at_once r.place (handed_of r) ≡ calls_of r.place (heard out.fast) ++ held = sym is.fast ∙ filter-append (λ h. hear.peer_of h == r.place) (heard out.fast) (heard_held out.held) in (
        held ++ later,
        ap (heard_at_once r.place) delivered ∙ once-append r.place (handed_of r) rest ∙ ap (λ k. k ++ later) called ∙ append_assoc (calls_of r.place (heard out.fast)) held later,
      )

  parcels : AreParcelsOf (parcels_of r.place calls) (queued_of s.deliveries)
  parcels =
      let put = parcels_of r.place calls in
      let mail = parcels_of r.place (all_put out.mail) in
      let later = queued_of rest in
      let gone : queued_of (handed_of r) ≡ map delivery_of put ++ map delivery_of mail =
      sym is.queued ∙ ap (map delivery_of) (parcels-append r.place calls (all_put out.mail)) ∙ map-append delivery_of put mail in
      let all : queued_of s.deliveries ≡ map delivery_of put ++ (map delivery_of mail ++ later) =
      ap queued_of delivered ∙ queued-append (handed_of r) rest ∙ ap (λ k. k ++ later) gone ∙ append_assoc (map delivery_of put) (map delivery_of mail) later in
      subst (AreParcelsOf put) (sym all) (are_parcels put (map delivery_of mail ++ later))

-- of a record and of its node's logs, what follows of any calls by which its messages reach the dispatchers as it hands them on
abbrev pub FollowsOfCalls : (ℕ → Logs → State → Type 0) → Type 0
FollowsOfCalls Q = (peer : ℕ) (fast : List Heard) (calls : List Call) (s : State) → AreFirstCalls (calls_of peer fast) (heard_at_once peer s.deliveries) →
    AreParcelsOf (parcels_of peer calls) (queued_of s.deliveries) → Q peer (record { fast = fast; queued = heard_by_calls peer start calls }) s

each_so : {D : Type 0} (Q : ℕ → Logs → State → Type 0) (heard : D → List Heard) (calls : List Call) (out : OutboxNow D) (queued : Queued D) (rs : List RecordNow) → FollowsOfCalls Q →
    ((peer : ℕ) → heard queued.inner ≡ heard_by_calls peer start calls) → AllByRecursion (IsLoggedOf heard calls out) rs →
    AllByRecursion (λ (r : RecordNow). (s : State) → IsReplayedTo s r → Q r.place (record { fast = heard out.fast; queued = heard queued.inner }) s) rs
each_so Q heard calls out queued [] law so all = tt
each_so Q heard calls out queued (r ∷ rs) law so all = (
  λ s at. subst (λ k. Q r.place (record { fast = heard out.fast; queued = k }) s) (sym (so r.place))
      (law r.place (heard out.fast) calls s (first_calls heard calls out r s all.0 at) (parcels heard calls out r s all.0 at)),
  each_so Q heard calls out queued rs law so all.1,
)

-- so it is of each record of a node whose dispatchers were called with what its records handed on
pub logged_are_so : {D : Type 0} (Q : ℕ → Logs → State → Type 0) → FollowsOfCalls Q → (heard : D → List Heard) (records : List RecordNow) (out : OutboxNow D) (queued : Queued D) →
    IsLogged heard (logging records out queued) → AllByRecursion (λ (r : RecordNow). (s : State) → IsReplayedTo s r → Q r.place (logs_in heard (logging records out queued)) s) records
logged_are_so Q law heard records out queued l = each_so Q heard l.calls out queued records law l.queue.heard_so l.each

pub logged_are_heard : {D : Type 0} → LogsAreLogs → LoggedAreHeard D
logged_are_heard law heard records out queued l = logged_are_so (λ peer logs s. IsHeardOf peer (all_of logs) s) law heard records out queued l
