-- The turns of all records, one after another: of the peer of each the dispatchers have what that record hands on still.
use Rattle.std.proofs.Common.{◌≡◌, inl, inr, ℕ, ◌==◌, Bool, true, false, List, [], ◌∷◌, ◌++◌, map, Result, Ok, Err, refl, sym, ap, subst, ◌∙◌, append-nil, append_assoc}
use Rattle.std.specs.List.{AllByRecursion, IsDistinct}
use Rattle.m2_fabric.specs.m2_bytes.declared.memory.NoMemory as memory
use Rattle.m2_history.specs.m2_channel.Handing.{calls_of, parcels_of}
use Rattle.m2_dispatch.specs.Heard.{Heard}
use Rattle.m2_dispatch.specs.Dispatch.{Queued}
use Rattle.m2_dispatch.specs.Laws.{Call}
use Rattle.m2_fabric.specs.declared.port.Connect.{Connect}
use Rattle.m2_fabric.specs.declared.port.Connect.TheVariants as connect
use Rattle.m2_fabric.specs.End.{SeenEnd}
use Rattle.m2_fabric.specs.Port.{SeenPort}
use Rattle.m2_history.specs.m2_record.declared.due.Due.{Due}
use Rattle.m2_history.specs.m2_record.declared.due.Due.TheVariants as due
use Rattle.m2_history.specs.m2_record.Calls.{IsSameButRoom}
use Rattle.m2_history.specs.m2_record.Due.{due_step}
use Rattle.m2_history.specs.m2_record.IsRecord.{IsRecord}
use Rattle.m2_history.specs.m2_record.RecordNow.{RecordNow}
use Rattle.m2_cluster.specs.m2_center.m2_turn.declared.records_turn.RecordsTurn.{RecordsTurn}
use Rattle.m2_cluster.specs.m2_center.m2_turn.declared.records_turn.RecordsTurn.TheVariants as turn
use Rattle.m2_cluster.specs.m2_center.m2_turn.Connecting.{AtPort, DialsFor, Takes, answer_of}
use Rattle.m2_cluster.specs.m2_center.m2_turn.Halves.{AllHalves}
use Rattle.m2_cluster.specs.m2_center.m2_turn.Outbox.{OutboxNow, is_free}
use Rattle.m2_cluster.specs.m2_center.m2_turn.RecordTurn.{Means}
use Rattle.m2_cluster.specs.m2_center.m2_turn.RecordsTurn.{AllAmid, Amid, Around, DialsAndSteps, EachTurns, TurnsEach, TurnsIf, TurnsInOrder, TurnsOne, all_amid, amid, at_port, sides_of, turning_amid}
use Rattle.m2_growth.specs.Holding.{Grows, Holding}
use Rattle.m2_growth.specs.GrowthLaws.{at_records}
use Rattle.m2_growth.specs.Records.{RecordGrows, RecordsGrow}
use Rattle.m2_growth.proofs.Dials.{dials}
use Rattle.m2_growth.proofs.Going.{grows_then, records_same, grows_same}
use Rattle.m2_growth.proofs.OneRecord.{holding}
use Rattle.m2_growth.proofs.RecordTurns as growth
use Rattle.m2_links_go_on.specs.LogLaws.{RecordsStayLogged}
use Rattle.m2_links_go_on.specs.Logged.{AreOfTheirPeers, IsCalled, IsLogged, all_put, logging}
use Rattle.m2_links_go_on.proofs.Judged.{none_same}
use Rattle.m2_links_go_on.proofs.Lagging.{Follows, Lags, all_follow, all_followed, all_lag, caught_up, follows_still, lags_on, lags_still, place_of}
use Rattle.m2_links_go_on.proofs.Later.{its_own}
use Rattle.m2_links_go_on.proofs.Puts.{HaveTheSame, retries}
use Rattle.m2_links_go_on.proofs.LogTurns.{begins, turns}
use Rattle.m2_cluster.proofs.m2_center.m2_turn.Steady.{dialled_steady}
use Rattle.m2_fabric.proofs.m2_lemmas.Numbers.{unlike_turned}

-- ---- one record among others

same_places : (r s : RecordNow) (before rest : List RecordNow) → s.place ≡ r.place → map place_of (before ++ s ∷ rest) ≡ map place_of (before ++ r ∷ rest)
same_places r s [] rest e = ap (λ p. p ∷ map place_of rest) e
same_places r s (x ∷ xs) rest e = ap (λ l. x.place ∷ l) (same_places r s xs rest e)

-- another record, of another peer
abbrev IsApart : RecordNow → RecordNow → Type 0
IsApart r x = (r.place == x.place) ≡ false

all_apart : (r : RecordNow) (xs : List RecordNow) → AllByRecursion (λ y. (r.place == y) ≡ false) (map place_of xs) → AllByRecursion (IsApart r) xs
all_apart r [] all = tt
all_apart r (x ∷ xs) all = (all.0, all_apart r xs all.1)

one_of : (P : ℕ → Type 0) (before rest : List RecordNow) (r : RecordNow) → AllByRecursion P (map place_of (before ++ r ∷ rest)) → P r.place
one_of P [] rest r all = all.0
one_of P (x ∷ xs) rest r all = one_of P xs rest r all.1

-- those in front, and those behind
apart : (before rest : List RecordNow) (r : RecordNow) → AreOfTheirPeers (before ++ r ∷ rest) → AllByRecursion (IsApart r) before × AllByRecursion (IsApart r) rest
unfolding IsDistinct
apart [] rest r d = (tt, all_apart r rest d.0)
apart (x ∷ xs) rest r d = let two = apart xs rest r d.1 in ((unlike_turned x.place r.place (one_of (λ y. (x.place == y) ≡ false) xs rest r d.0), two.0), two.1)

all_still : (r : RecordNow) (P Q : RecordNow → Type 0) (xs : List RecordNow) → ((x : RecordNow) → IsApart r x → P x → Q x) → AllByRecursion (IsApart r) xs → AllByRecursion P xs → AllByRecursion Q xs
all_still r P Q [] so away all = tt
all_still r P Q (x ∷ xs) so away all = (so x away.0 all.0, all_still r P Q xs so away.1 all.1)

-- one more
all_with : (P : RecordNow → Type 0) (xs ys : List RecordNow) → AllByRecursion P xs → AllByRecursion P ys → AllByRecursion P (xs ++ ys)
all_with P [] ys p q = q
all_with P (x ∷ xs) ys p q = (p.0, all_with P xs ys p.1 q)

-- ---- a connect

abbrev IsErr : Result (Unit {0}) memory.NoMemory → Type 0
IsErr (Ok u) = ⊥
IsErr (Err e) = Unit {0}

-- where memory ran out nothing was done but for room
lacked : (made : Connect SeenEnd) (now : ℕ) (r s : RecordNow) → Err (record {}) ≡ answer_of made → Takes made now r s → IsSameButRoom r s
lacked (connect.Made e) now r s h t = absurd (subst IsErr h tt)
lacked connect.Failed now r s h t = absurd (subst IsErr h tt)
lacked connect.NoMemory now r s h t = t

not_dialled : (d : Due) (now : ℕ) (old new : AtPort) → DialsFor d (Err (record {})) now old new → IsSameButRoom old.side new.side
not_dialled (due.Connect at) now old new d = lacked d.made now old.side new.side d.answers d.takes
not_dialled due.Nothing now old new (h, _) = absurd (subst IsErr h tt)
not_dialled due.Plan now old new (h, _) = absurd (subst IsErr h tt)
not_dialled due.Hand now old new (h, _) = absurd (subst IsErr h tt)
not_dialled due.Write now old new (h, _) = absurd (subst IsErr h tt)
not_dialled due.Frame now old new (h, _) = absurd (subst IsErr h tt)
not_dialled due.Read now old new (h, _) = absurd (subst IsErr h tt)
not_dialled due.Compose now old new (h, _) = absurd (subst IsErr h tt)

-- ---- in a holding

one_grows : (r s : RecordNow) (before rest : List RecordNow) → RecordsGrow (before ++ r ∷ rest) (before ++ s ∷ rest) → RecordGrows r s
one_grows r s [] rest g = g.0
one_grows r s (x ∷ xs) rest g = one_grows r s xs rest g.1

module _ {D : Type 0} (heard : D → List Heard) (calls : List Call) (m : Means) (first : Holding) where
  abbrev with_one : List RecordNow → List RecordNow → AllHalves → Amid D → Holding
  with_one before rest halves a = holding a.around.port (before ++ a.side ∷ rest) halves

  -- of other peers the dispatchers have what they had, and of this one what the record hands on
  record OneGoes (old new : Amid D) : Type 0 where
    place : new.side.place ≡ old.side.place
    others : (q : ℕ) → (old.side.place == q) ≡ false → HaveTheSame heard calls q old.around.out new.around.out
    now : Follows heard calls first new.around.out new.side

  dials_and_steps : (result : RecordsTurn) (old new : Amid D) (before rest : List RecordNow) (halves : AllHalves) → is_free old.around.out ≡ true → DialsAndSteps heard m result old new →
      Grows first (with_one before rest halves old) → Lags heard calls first old.around.out old.side → OneGoes old new
  dials_and_steps result old new before rest halves free d grown l =
      let dialled = dials (Ok tt) m.now (at_port old) d.mid before rest halves d.dials grown.own in
      let grows = one_grows old.side d.mid.side before rest dialled.grows.records in
      let steady = dialled_steady (due_step m.now old.side) (Ok tt) m.now (at_port old) d.mid d.dials in
      let is : IsRecord d.mid.side = begins heard calls m d.ended (turning_amid d.mid.side old.around) (turning_amid new.side new.around) free d.turns in
      let logged = caught_up heard calls first d.mid.port before rest d.mid.side halves old.around.out
      (grows_then first (with_one before rest halves old) (holding d.mid.port (before ++ d.mid.side ∷ rest) halves) grown dialled)
      (lags_on heard calls first old.around.out old.side d.mid.side grows (ap (λ x. x.2) steady) l) is in
      let stepped = turns heard calls m d.ended (turning_amid d.mid.side old.around) (turning_amid new.side new.around) (its_own d.mid.port before rest d.mid.side halves dialled.own) d.turns in
      record {
        place = stepped.stays.place ∙ grows.place;
        others = λ q away. stepped.stays.others q (ap (λ p. p == q) grows.place ∙ away);
        now = inl (stepped.stays.logged logged);
      }

  turns_if : (free : Bool) (result : RecordsTurn) (old new : Amid D) (before rest : List RecordNow) (halves : AllHalves) → is_free old.around.out ≡ free → TurnsIf free heard m result old new →
      Grows first (with_one before rest halves old) → Lags heard calls first old.around.out old.side → OneGoes old new
  turns_if true turn.Done old new before rest halves free d grown l = dials_and_steps turn.Done old new before rest halves free d grown l
  turns_if true turn.NoMemory old new before rest halves free (inl d) grown l =
      let dialled = dials (Err (record {})) m.now (at_port old) (at_port new) before rest halves d.dials grown.own in
      let e = not_dialled (due_step m.now old.side) m.now (at_port old) (at_port new) d.dials in
      let same : (q : ℕ) → HaveTheSame heard calls q old.around.out new.around.out = λ q. subst (λ (o : OutboxNow D). HaveTheSame heard calls q old.around.out o) (sym (ap (λ (a : Around D). a.out) d.only)) (refl, refl) in
      record {
        place = ap (λ r. r.place) e;
        others = λ q away. same q;
        now = inr (lags_still heard calls first old.around.out new.around.out new.side (same new.side.place)
            (lags_on heard calls first old.around.out old.side new.side (one_grows old.side new.side before rest dialled.grows.records) (ap (λ r. r.handed) e) l));
      }
  turns_if true turn.NoMemory old new before rest halves free (inr d) grown l = dials_and_steps turn.NoMemory old new before rest halves free d grown l
  turns_if false turn.Done old new before rest halves free e grown l = subst (OneGoes old) (sym e) (record { place = refl; others = λ q away. (refl, refl); now = inr l })
  turns_if false turn.NoMemory old new before rest halves free e grown l = absurd e

  -- ---- one after another

  -- those that took their turns, and those whose turn is to come
  record AreSo (done waiting : List RecordNow) (a : Around D) (halves : AllHalves) : Type 0 where
    grown : Grows first (holding a.port (done ++ waiting) halves)
    peers : AreOfTheirPeers (done ++ waiting)
    follow : AllByRecursion (Follows heard calls first a.out) done
    lag : AllByRecursion (Lags heard calls first a.out) waiting

  one_so : (result : RecordsTurn) (r : RecordNow) (a : Around D) (b : Amid D) (done rest : List RecordNow) (halves : AllHalves) → TurnsOne heard m result (amid r a) b →
      AreSo done (r ∷ rest) a halves → AreSo (done ++ b.side ∷ []) rest b.around halves
  one_so result r a b done rest halves t so =
      let goes = turns_if (is_free a.out) result (amid r a) b done rest halves refl t so.grown so.lag.0 in
      let moved : (done ++ b.side ∷ []) ++ rest ≡ done ++ b.side ∷ rest = append_assoc done (b.side ∷ []) rest in
      let away = apart done rest r so.peers in
      record {
        grown = subst (λ l. Grows first (holding b.around.port l halves)) (sym moved)
            (grows_then first (holding a.port (done ++ r ∷ rest) halves) (holding b.around.port (done ++ b.side ∷ rest) halves) so.grown (growth.turns_one heard m result (amid r a) b done rest halves t so.grown.own));
        peers = subst AreOfTheirPeers (sym moved) (subst (IsDistinct (λ (x y : ℕ). x == y)) (sym (same_places r b.side done rest goes.place)) so.peers);
        follow = all_with (Follows heard calls first b.around.out) done (b.side ∷ [])
            (all_still r (Follows heard calls first a.out) (Follows heard calls first b.around.out) done (λ x apart f. follows_still heard calls first a.out b.around.out x (goes.others x.place apart) f) away.0 so.follow)
            (goes.now, tt);
        lag = all_still r (Lags heard calls first a.out) (Lags heard calls first b.around.out) rest (λ x apart l. lags_still heard calls first a.out b.around.out x (goes.others x.place apart) l) away.1 so.lag.1;
      }

  each_so : (done rs rest : List RecordNow) (stood : List (Amid D)) (old new : Around D) (halves : AllHalves) → EachTurns heard m rs stood old new →
      AreSo done (rs ++ rest) old halves → AreSo (done ++ sides_of stood) rest new halves
  each_so done [] rest [] old new halves e so = subst (λ a. AreSo (done ++ []) rest a halves) (sym e) (subst (λ l. AreSo l rest old halves) (sym (append-nil done)) so)
  each_so done (r ∷ rs) rest (a ∷ more) old new halves (once, others) so =
      subst (λ l. AreSo l rest new halves) (append_assoc done (a.side ∷ []) (sides_of more))
      (each_so (done ++ a.side ∷ []) rs rest more a.around new halves others (one_so turn.Done r old a done (rs ++ rest) halves once so))
  each_so done [] rest (a ∷ more) old new halves e so = absurd e
  each_so done (r ∷ rs) rest [] old new halves e so = absurd e

  -- all records, behind the turns of all
  pub record AllFollow (records : List RecordNow) (a : Around D) (halves : AllHalves) : Type 0 where
    pub grown : Grows first (holding a.port records halves)
    pub peers : AreOfTheirPeers records
    pub follow : AllByRecursion (Follows heard calls first a.out) records

  all_of : (done rest : List RecordNow) (a : Around D) (halves : AllHalves) → AreSo done rest a halves → AllFollow (done ++ rest) a halves
  all_of done rest a halves so = record {
    grown = so.grown;
    peers = so.peers;
    follow = all_with (Follows heard calls first a.out) done rest so.follow (all_follow heard calls first a.out rest so.lag);
  }

  in_order : (result : RecordsTurn) (old new : AllAmid D) (halves : AllHalves) → TurnsInOrder heard m result old new → AreSo [] old.records old.around halves → AllFollow new.records new.around halves
  in_order turn.Done old new halves t so =
      subst (λ l. AllFollow l new.around halves) (append-nil (sides_of t.stood) ∙ sym t.records)
      (all_of (sides_of t.stood) [] new.around halves (each_so [] old.records [] t.stood old.around new.around halves t.turns (subst (λ l. AreSo [] l old.around halves) (sym (append-nil old.records)) so)))
  in_order turn.NoMemory old new halves t so =
      let before = each_so [] t.before (t.at ∷ t.rest) t.stood old.around t.mid halves t.turns (subst (λ l. AreSo [] l old.around halves) t.split so) in
      subst (λ l. AllFollow l new.around halves) (append_assoc (sides_of t.stood) (t.left ∷ []) t.rest ∙ sym t.records)
      (all_of (sides_of t.stood ++ t.left ∷ []) t.rest new.around halves (one_so turn.NoMemory t.at t.mid (amid t.left new.around) (sides_of t.stood) t.rest halves t.stops before))

  -- the letter that is held is tried again first
  pub turns_each : (result : RecordsTurn) (old new : AllAmid D) (halves : AllHalves) → TurnsEach heard m result old new → Grows first (holding old.around.port old.records halves) → AreOfTheirPeers old.records →
      AllByRecursion (Lags heard calls first old.around.out) old.records → AllFollow new.records new.around halves
  turns_each result old new halves t grown peers lag = in_order result (all_amid old.records t.retried) new halves t.turns again
    where
      tried : (q : ℕ) → HaveTheSame heard calls q old.around.out t.retried.out
      tried q = let same = retries heard old.around.out t.retried.out t.retries in (ap (calls_of q) same.0, ap (λ l. parcels_of q (calls ++ all_put l)) same.1)

      each_still : (rs : List RecordNow) → AllByRecursion (Lags heard calls first old.around.out) rs → AllByRecursion (Lags heard calls first t.retried.out) rs
      each_still [] all = tt
      each_still (r ∷ rs) all = (lags_still heard calls first old.around.out t.retried.out r (tried r.place) all.0, each_still rs all.1)

      again : AreSo [] old.records t.retried halves
      again = record {
        grown = subst (λ (p : SeenPort). Grows first (holding p old.records halves)) (sym (ap (λ (a : Around D). a.port) t.only)) grown;
        peers = peers;
        follow = tt;
        lag = each_still old.records lag;
      }

-- where all of them are records then
pub all_logged : {D : Type 0} (heard : D → List Heard) (calls : List Call) (m : Means) (first : Holding) (records : List RecordNow) (a : Around D) (halves : AllHalves) (queued : Queued D) → IsCalled heard calls queued →
    AllByRecursion IsRecord records → AllFollow heard calls m first records a halves → IsLogged heard (logging records a.out queued)
all_logged heard calls m first records a halves queued called are all = record {
  peers = all.peers;
  calls = calls;
  queue = called;
  each = all_followed heard calls first a.port [] records halves a.out all.grown are all.follow;
}

pub records_stay_logged : {D : Type 0} → RecordsStayLogged D
records_stay_logged {D} heard m result halves queued old new t own are later l =
    all_logged heard l.calls m (at_records halves old) new.records new.around halves queued l.queue later
    (turns_each heard l.calls m (at_records halves old) result old new halves t (grows_same (at_records halves old) own) l.peers
    (all_lag heard l.calls old.around.port old.records old.records halves old.around.out own are l.each (records_same old.records) (none_same old.records)))
