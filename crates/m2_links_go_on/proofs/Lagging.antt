-- Records that have grown since they were looked at, and handed nothing on: a record that is one now handed on the same.
use Rattle.std.proofs.Common.{◌⊎◌, inl, inr, ℕ, List, [], ◌∷◌, ◌++◌, map, refl, sym, ap, subst, ◌∙◌, append_assoc}
use Rattle.std.specs.List.{AllByRecursion}
use Rattle.m2_dispatch.specs.Heard.{Heard}
use Rattle.m2_dispatch.specs.Laws.{Call}
use Rattle.m2_fabric.specs.Port.{SeenPort}
use Rattle.m2_history.specs.m2_record.IsRecord.{IsRecord}
use Rattle.m2_history.specs.m2_record.RecordNow.{RecordNow, delivery_of}
use Rattle.m2_cluster.specs.m2_center.m2_turn.Halves.{AllHalves}
use Rattle.m2_cluster.specs.m2_center.m2_turn.Outbox.{OutboxNow}
use Rattle.m2_growth.specs.Holding.{AreOwn, Grows, Holding, all_ends}
use Rattle.m2_growth.specs.Records.{RecordGrows, RecordsGrow}
use Rattle.m2_growth.proofs.Going.{record_chain}
use Rattle.m2_growth.proofs.OneRecord.{holding}
use Rattle.m2_links_go_on.specs.Logged.{IsLoggedOf}
use Rattle.m2_cluster.proofs.m2_center.m2_turn.Handed.{HandsNone}
use Rattle.m2_links_go_on.proofs.Judged.{HandNone}
use Rattle.m2_links_go_on.proofs.Later.{HasIts, goes_further, its_ends, its_own}
use Rattle.m2_links_go_on.proofs.Puts.{HaveTheSame, stays_still}
use Rattle.m2_links_go_on.proofs.Speaking.{handed_still}

abbrev pub place_of : RecordNow → ℕ
place_of r = r.place

pub logged_still : {D : Type 0} (heard : D → List Heard) (calls : List Call) (old new : OutboxNow D) (r : RecordNow) → HaveTheSame heard calls r.place old new → IsLoggedOf heard calls old r → IsLoggedOf heard calls new r
logged_still heard calls old new r same is = record { fast = same.0 ∙ is.fast; queued = ap (map delivery_of) same.1 ∙ is.queued }

-- looked at in the first of these holdings
module _ {D : Type 0} (heard : D → List Heard) (calls : List Call) (first : Holding) where
  pub record Lags (out : OutboxNow D) (r : RecordNow) : Type 0 where
    pub was : RecordNow
    pub is : IsRecord was
    pub grows : RecordGrows was r
    pub none : HandsNone was r
    pub logged : IsLoggedOf heard calls out was
    pub its : HasIts was (all_ends first)

  -- so it is of the record now, or was
  abbrev pub Follows : OutboxNow D → RecordNow → Type 0
  Follows out r = IsLoggedOf heard calls out r ⊎ Lags out r

  -- it grows further
  pub lags_on : (out : OutboxNow D) (r s : RecordNow) → RecordGrows r s → HandsNone r s → Lags out r → Lags out s
  lags_on out r s grows none l = record { was = l.was; is = l.is; grows = record_chain l.was r s l.grows grows; none = none ∙ l.none; logged = l.logged; its = l.its }

  pub lags_still : (old new : OutboxNow D) (r : RecordNow) → HaveTheSame heard calls r.place old new → Lags old r → Lags new r
  lags_still old new r same l = record {
    was = l.was;
    is = l.is;
    grows = l.grows;
    none = l.none;
    logged = logged_still heard calls old new l.was (subst (λ p. HaveTheSame heard calls p old new) l.grows.place same) l.logged;
    its = l.its;
  }

  pub follows_still : (old new : OutboxNow D) (r : RecordNow) → HaveTheSame heard calls r.place old new → Follows old r → Follows new r
  follows_still old new r same (inl is) = inl (logged_still heard calls old new r same is)
  follows_still old new r same (inr l) = inr (lags_still old new r same l)

  -- where it is a record
  pub caught_up : (p : SeenPort) (before rest : List RecordNow) (r : RecordNow) (halves : AllHalves) (out : OutboxNow D) → Grows first (holding p (before ++ r ∷ rest) halves) → Lags out r → IsRecord r →
      IsLoggedOf heard calls out r
  caught_up p before rest r halves out grown l is =
      let further = goes_further l.was r l.is is l.grows (its_own p before rest r halves grown.own) (all_ends first) (all_ends (holding p (before ++ r ∷ rest) halves)) grown.grows.ends l.its
      (its_ends p before rest r halves grown.own) in
      (stays_still heard calls out out l.was r refl refl l.grows.place (handed_still l.was r l.is further l.none)).logged l.logged

  followed : (p : SeenPort) (before rest : List RecordNow) (r : RecordNow) (halves : AllHalves) (out : OutboxNow D) → Grows first (holding p (before ++ r ∷ rest) halves) → Follows out r → IsRecord r →
      IsLoggedOf heard calls out r
  followed p before rest r halves out grown (inl logged) is = logged
  followed p before rest r halves out grown (inr l) is = caught_up p before rest r halves out grown l is

  -- all of them; those in front were looked at
  pub all_followed : (p : SeenPort) (done rs : List RecordNow) (halves : AllHalves) (out : OutboxNow D) → Grows first (holding p (done ++ rs) halves) → AllByRecursion IsRecord rs → AllByRecursion (Follows out) rs →
      AllByRecursion (IsLoggedOf heard calls out) rs
  all_followed p done [] halves out grown are all = tt
  all_followed p done (r ∷ rs) halves out grown are all = (
    followed p done rs r halves out grown all.0 are.0,
    all_followed p (done ++ r ∷ []) rs halves out (subst (λ l. Grows first (holding p l halves)) (sym (append_assoc done (r ∷ []) rs)) grown) are.1 all.1,
  )

  pub all_follow : (out : OutboxNow D) (rs : List RecordNow) → AllByRecursion (Lags out) rs → AllByRecursion (Follows out) rs
  all_follow out [] all = tt
  all_follow out (r ∷ rs) all = (inr all.0, all_follow out rs all.1)

  -- those that were there first
  begin_lag : (out : OutboxNow D) (rs ss : List RecordNow) → AllByRecursion (λ r. HasIts r (all_ends first)) rs → AllByRecursion IsRecord rs → AllByRecursion (IsLoggedOf heard calls out) rs → RecordsGrow rs ss → HandNone rs ss →
      AllByRecursion (Lags out) ss
  begin_lag out [] [] its are all grow none = tt
  begin_lag out (r ∷ rs) (s ∷ ss) its are all grow none = (
    record { was = r; is = are.0; grows = grow.0; none = none.0; logged = all.0; its = its.0 },
    begin_lag out rs ss its.1 are.1 all.1 grow.1 none.1,
  )
  begin_lag out [] (s ∷ ss) its are all grow none = absurd grow
  begin_lag out (r ∷ rs) [] its are all grow none = absurd grow

all_its : (p : SeenPort) (done rs : List RecordNow) (halves : AllHalves) → AreOwn (holding p (done ++ rs) halves) → AllByRecursion (λ r. HasIts r (all_ends (holding p (done ++ rs) halves))) rs
all_its p done [] halves own = tt
all_its p done (r ∷ rs) halves own = let moved = append_assoc done (r ∷ []) rs in (
  its_ends p done rs r halves own,
  subst (λ l. AllByRecursion (λ x. HasIts x (all_ends (holding p l halves))) rs) moved (all_its p (done ++ r ∷ []) rs halves (subst (λ l. AreOwn (holding p l halves)) (sym moved) own)),
)

-- records that grow from where they were looked at, and hand nothing on
pub all_lag : {D : Type 0} (heard : D → List Heard) (calls : List Call) (p : SeenPort) (rs ss : List RecordNow) (halves : AllHalves) (out : OutboxNow D) → AreOwn (holding p rs halves) → AllByRecursion IsRecord rs →
    AllByRecursion (IsLoggedOf heard calls out) rs → RecordsGrow rs ss → HandNone rs ss → AllByRecursion (Lags heard calls (holding p rs halves) out) ss
all_lag heard calls p rs ss halves out own are all grow none = begin_lag heard calls (holding p rs halves) out rs ss (all_its p [] rs halves own) are all grow none
