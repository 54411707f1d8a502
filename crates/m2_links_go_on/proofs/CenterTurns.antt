-- All of a center's turn: accepts, the turns of halves, those of records, and the mail.
use Rattle.m2_dispatch.specs.m2_shared.Gates.{places}
use Rattle.std.proofs.Common.{◌≡◌, inl, inr, List, [], ◌∷◌, Ok, Err, sym, ap, subst}
use Rattle.std.specs.List.{AllByRecursion}
use Rattle.m2_dispatch.specs.Heard.{Heard}
use Rattle.m2_dispatch.specs.Laws.{Call}
use Rattle.m2_history.specs.m2_record.IsRecord.{IsRecord}
use Rattle.m2_history.specs.m2_record.RecordNow.{RecordNow}
use Rattle.m2_cluster.specs.m2_center.m2_turn.declared.accepting.Accepted.{Accepted}
use Rattle.m2_cluster.specs.m2_center.m2_turn.declared.halves_turn.HalvesTurn.{HalvesTurn}
use Rattle.m2_cluster.specs.m2_center.m2_turn.declared.mailing.Mailed.{Mailed}
use Rattle.m2_cluster.specs.m2_center.m2_turn.declared.records_turn.RecordsTurn.{RecordsTurn}
use Rattle.m2_cluster.specs.m2_center.m2_turn.Outbox.{OutboxNow}
use Rattle.m2_cluster.specs.m2_center.m2_turn.RecordTurn.{Means}
use Rattle.m2_cluster.specs.m2_center.Center.{CenterNow}
use Rattle.m2_cluster.specs.m2_center.CenterTurn.{Accepts, Answer, EmptiesMail, TakesTurn, TurnsHalves, TurnsRecords, accepting_in, all_amid_in, around_in, callers_of, mailing_in}
use Rattle.m2_growth.specs.Holding.{Grows, Holding}
use Rattle.m2_growth.specs.Records.{RecordsGrow}
use Rattle.m2_growth.proofs.Accepts.{accepts_grow}
use Rattle.m2_growth.proofs.Going.{grows_then, records_same, grows_same}
use Rattle.m2_growth.proofs.HalfTurns.{halves_grow}
use Rattle.m2_growth.proofs.OneRecord.{holding}
use Rattle.m2_links_go_on.specs.LogLaws.{TurnsStayLogged, holding_in, logging_in}
use Rattle.m2_links_go_on.specs.Logged.{AreOfTheirPeers, IsCalled, IsLogged, logging}
use Rattle.m2_links_go_on.proofs.HalfLogs.{peers_still}
use Rattle.m2_links_go_on.proofs.Judged.{HandNone, halves_hand_none, none_same}
use Rattle.m2_links_go_on.proofs.Lagging.{Lags, all_follow, all_followed, all_lag, lags_on}
use Rattle.m2_links_go_on.proofs.Mailed.{mail_stays_logged}
use Rattle.m2_links_go_on.proofs.RecordTurns.{all_logged, turns_each}

module _ {D : Type 0} (E : Type 0) (heard : D → List Heard) (calls : List Call) (m : Means) (first : Holding) where
  -- its records have grown and handed nothing on, and the queue wasn't called
  pub record HasGrown (c : CenterNow D) : Type 0 where
    pub grown : Grows first (holding_in c)
    pub peers : AreOfTheirPeers c.records
    pub queue : IsCalled heard calls c.queued
    pub lag : AllByRecursion (Lags heard calls first c.out) c.records

  all_on : (out : OutboxNow D) (rs ss : List RecordNow) → RecordsGrow rs ss → HandNone rs ss → AllByRecursion (Lags heard calls first out) rs → AllByRecursion (Lags heard calls first out) ss
  all_on out [] [] grow none all = tt
  all_on out (r ∷ rs) (s ∷ ss) grow none all = (lags_on heard calls first out r s grow.0 none.0 all.0, all_on out rs ss grow.1 none.1 all.1)
  all_on out [] (s ∷ ss) grow none all = absurd grow
  all_on out (r ∷ rs) [] grow none all = absurd grow

  accepted : (result : Accepted) (old new : CenterNow D) → Accepts result old new → HasGrown old → HasGrown new
  accepted result old new a was =
      let same : new.records ≡ old.records = ap (λ c. c.records) a.only in
      record {
        grown = grows_then first (holding_in old) (holding_in new) was.grown
            (subst (λ l. Grows (holding_in old) (holding new.port l new.halves)) (sym same)
            (accepts_grow old.entity result old.records (accepting_in old) (accepting_in new) a.accepts was.grown.own));
        peers = subst AreOfTheirPeers (sym same) was.peers;
        queue = subst (IsCalled heard calls) (sym (ap (λ c. c.queued) a.only)) was.queue;
        lag = subst (λ o. AllByRecursion (Lags heard calls first o) new.records) (sym (ap (λ c. c.out) a.only)) (subst (AllByRecursion (Lags heard calls first old.out)) (sym same) was.lag);
      }

  halves_turned : (result : HalvesTurn) (old new : CenterNow D) → TurnsHalves E m result old new → HasGrown old → HasGrown new
  halves_turned result old new t was =
      let grown : Grows (holding_in old) (holding old.port new.records new.halves) = halves_grow E result m old.port (callers_of old) (callers_of new) t.turns was.grown.own in
      record {
        grown = grows_then first (holding_in old) (holding_in new) was.grown (subst (λ p. Grows (holding_in old) (holding p new.records new.halves)) (sym (ap (λ c. c.port) t.only)) grown);
        peers = peers_still old.records new.records grown.grows.records was.peers;
        queue = subst (IsCalled heard calls) (sym (ap (λ c. c.queued) t.only)) was.queue;
        lag = subst (λ o. AllByRecursion (Lags heard calls first o) new.records) (sym (ap (λ c. c.out) t.only))
            (all_on old.out old.records new.records grown.grows.records (halves_hand_none E result m (callers_of old) (callers_of new) t.turns) was.lag);
      }

  records_turned : (result : RecordsTurn) (old new : CenterNow D) → TurnsRecords heard m result old new → AllByRecursion IsRecord new.records → HasGrown old → IsLogged heard (logging_in new)
  records_turned result old new t are was =
      all_logged heard calls m first new.records (around_in new) old.halves new.queued (subst (IsCalled heard calls) (sym (ap (λ c. c.queued) t.only)) was.queue) are
      (turns_each heard calls m first result (all_amid_in old) (all_amid_in new) old.halves t.turns was.grown was.peers was.lag)

  mail_emptied : (result : Mailed) (old new : CenterNow D) → EmptiesMail heard m result old new → IsLogged heard (logging_in old) → IsLogged heard (logging_in new)
  mail_emptied result old new e l =
      subst (λ rs. IsLogged heard (logging rs new.out new.queued)) (sym (ap (λ c. c.records) e.only)) (mail_stays_logged heard (places m.throttles) result old.records (mailing_in old) (mailing_in new) e.mails l)

  -- where its records are records
  settled : (c : CenterNow D) → AllByRecursion IsRecord c.records → HasGrown c → IsLogged heard (logging_in c)
  settled c are h = record {
    peers = h.peers;
    calls = calls;
    queue = h.queue;
    each = all_followed heard calls first c.port [] c.records c.halves c.out h.grown are (all_follow heard calls first c.out c.records h.lag);
  }

  -- the mail leaves them
  same_records : (result : Mailed) (old new : CenterNow D) → EmptiesMail heard m result old new → AllByRecursion IsRecord new.records → AllByRecursion IsRecord old.records
  same_records result old new e are = subst (AllByRecursion IsRecord) (ap (λ c. c.records) e.only) are

  pub turned : (answer : Answer) (old new : CenterNow D) → TakesTurn E heard m answer old new → AllByRecursion IsRecord new.records → HasGrown old → IsLogged heard (logging_in new)
  turned (Ok _) old new (a, (_, _, accepts), (b, (_, _, halves), (c, (_, _, records), (result, _, mail)))) are was =
      mail_emptied result c new mail (records_turned _ b c records (same_records result c new mail are) (halves_turned _ a b halves (accepted _ old a accepts was)))
  turned (Err e) old new (inl (_, _, accepts)) are was = settled new are (accepted _ old new accepts was)
  turned (Err e) old new (inr (a, (_, _, accepts), inl (_, _, halves))) are was = settled new are (halves_turned _ a new halves (accepted _ old a accepts was))
  turned (Err e) old new (inr (a, (_, _, accepts), inr (b, (_, _, halves), inl (_, _, records)))) are was =
      records_turned _ b new records are (halves_turned _ a b halves (accepted _ old a accepts was))
  turned (Err e) old new (inr (a, (_, _, accepts), inr (b, (_, _, halves), inr (c, (_, _, records), (result, _, mail))))) are was =
      mail_emptied result c new mail (records_turned _ b c records (same_records result c new mail are) (halves_turned _ a b halves (accepted _ old a accepts was)))

pub turns_stay_logged : {D : Type 0} (E : Type 0) → TurnsStayLogged D E
turns_stay_logged E heard m answer old new t own are later l =
    turned E heard l.calls m (holding_in old) answer old new t later
    (record {
      grown = grows_same (holding_in old) own;
      peers = l.peers;
      queue = l.queue;
      lag = all_lag heard l.calls old.port old.records old.records old.halves old.out own are l.each (records_same old.records) (none_same old.records);
    })
