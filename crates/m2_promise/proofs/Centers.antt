-- A node of several event threads: the calls of a record's peer are those of the dispatchers of the thread that has the record, so it is
-- heard by the node's logs as it is by that thread's.
use Rattle.std.proofs.Common.{◌≡◌, ℕ, ◌⊎◌, inl, inr, Bool, true, false, ◌==◌, if◌then◌else◌, List, [], ◌∷◌, ◌++◌, map, refl, sym, ap, subst, ◌∙◌, append-nil}
use Rattle.std.specs.List.{AllByRecursion, IsDistinct, flat_map}
use Rattle.std.proofs.lemmas.Bool.{eq-eqb, eqb-true}
use Rattle.std.proofs.lemmas.List.{map-append}
use Rattle.std.proofs.lemmas.List.Elements.{filter-append}
use Rattle.m2_channel.proofs.TwoWays as keys
use Rattle.m2_channel.specs.Handing.{IsHeardOf, IsNoResetOf, LogsAreLogs, calls_of}
use Rattle.m2_channel.specs.Channel as channel
use Rattle.m2_channel.specs.Observed.{Logs, all_of, handed}
use Rattle.m2_channel.specs.m2_never_reset.Order.{AreFirstOf}
use Rattle.m2_dispatch.specs.Heard.{Heard, heard_by, heard_of, message, of_key, peer_of, reset}
use Rattle.m2_dispatch.specs.Laws.{IsSublist}
use Rattle.m2_dispatch.specs.declared.logged.Logged.{Logged}
use Rattle.m2_dispatch.specs.m2_policy.declared.path.Key.{Key}
use Rattle.m2_fabric.proofs.m2_lemmas.Lists.{all_append, all_so}
use Rattle.m2_fabric.proofs.m2_lemmas.Numbers.{unlike_turned}
use Rattle.m2_links_go_on.proofs.AreHeard.{logged_are_heard, logged_are_so}
use Rattle.m2_links_go_on.proofs.m2_growth.Among.{in_part, mapped_one, of_each, one_back, one_front}
use Rattle.m2_links_go_on.specs.Logged.{AreOfTheirPeers, IsLogged, LoggingNow, logs_in}
use Rattle.m2_links_go_on.specs.OfPeers.{AreOfPeers, IsPeerOf}
use Rattle.m2_links_go_on.specs.m2_growth.Halves.{IsOneOf}
use Rattle.m2_links_go_on.specs.m2_weave.m2_journal.State.{State}
use Rattle.m2_lives.proofs.Handing as lives
use Rattle.m2_lives.specs.Handing.{LogsAreInLives}
use Rattle.m2_lives.specs.LivesLaws.{ArePiecesOf}
use Rattle.m2_lives.specs.Observed.{heard_in_lives, stretches}
use Rattle.m2_lives.specs.ObservedRun.{IsLogInLives, with_key}
use Rattle.m2_message.specs.Message.{unnumbered}
use Rattle.m2_promise.proofs.Hears.{GoOneWay}
use Rattle.m2_promise.proofs.Sides.{passed, passing}
use Rattle.m2_promise.proofs.Ways.{one_way}
use Rattle.m2_promise.specs.AtEnd.{AreCentersOf}
use Rattle.m2_promise.specs.Delivered.{HasHeardInLives, HasHeardPeer}
use Rattle.m2_script.specs.m2_cluster.Node.{NodeNow}
use Rattle.m2_script.specs.m2_record.RecordNow.{RecordNow}

abbrev Center : Type 0
Center = LoggingNow (List Logged)

abbrev records_in : List Center → List RecordNow
records_in cs = flat_map (λ (c : Center). c.records) cs

abbrev place_in : RecordNow → ℕ
place_in r = r.place

-- ---- of whom calls are

none_of : (p : ℕ) (hs : List Heard) → AllByRecursion (λ (h : Heard). (peer_of h == p) ≡ false) hs → calls_of p hs ≡ []
none_of p [] all = refl
none_of p (h ∷ hs) all = ap (λ b. if b then h ∷ calls_of p hs else calls_of p hs) all.0 ∙ none_of p hs all.1

apart : (x y : RecordNow) (xs ys : List RecordNow) → AreOfTheirPeers (xs ++ ys) → IsOneOf x xs → IsOneOf y ys → (x.place == y.place) ≡ false
unfolding IsDistinct
apart x y [] ys all one two = absurd one
apart x y (z ∷ xs) ys all (inl e) two =
    ap (λ (q : RecordNow). q.place == y.place) e
    ∙ of_each (λ (q : ℕ). (z.place == q) ≡ false) y.place (map place_in (xs ++ ys)) all.0 (mapped_one place_in y (xs ++ ys) (one_back y xs ys two))
apart x y (z ∷ xs) ys all (inr one) two = apart x y xs ys all.1 one two

behind : (xs ys : List RecordNow) → AreOfTheirPeers (xs ++ ys) → AreOfTheirPeers ys
unfolding IsDistinct
behind [] ys all = all
behind (x ∷ xs) ys all = behind xs ys all.1

-- a peer of the one is none of the other
unlike : (p q : ℕ) (xs ys : List RecordNow) → AreOfTheirPeers (xs ++ ys) → IsPeerOf xs p → IsPeerOf ys q → (p == q) ≡ false
unlike p q xs ys all here there =
    let x = passing (λ (r : RecordNow). r.place == p) xs here in
    let y = passing (λ (r : RecordNow). r.place == q) ys there in
    ap (λ n. n == q) (sym (eqb-true x.item.place p x.passes)) ∙ ap (λ n. x.item.place == n) (sym (eqb-true y.item.place q y.passes)) ∙ apart x.item y.item xs ys all x.one y.one

front_peer : (p : ℕ) (xs ys : List RecordNow) → IsPeerOf xs p → IsPeerOf (xs ++ ys) p
front_peer p xs ys is = let x = passing (λ (r : RecordNow). r.place == p) xs is in passed (λ (r : RecordNow). r.place == p) x.item (xs ++ ys) (one_front x.item xs ys x.one) x.passes

back_peer : (p : ℕ) (xs ys : List RecordNow) → IsPeerOf ys p → IsPeerOf (xs ++ ys) p
back_peer p xs ys is = let x = passing (λ (r : RecordNow). r.place == p) ys is in passed (λ (r : RecordNow). r.place == p) x.item (xs ++ ys) (one_back x.item xs ys x.one) x.passes

-- ---- one of a center's two logs, center by center

module _ (log : Center → List Logged) where
  abbrev all_logs : List Center → List Heard
  all_logs cs = heard_by (flat_map log cs)

  abbrev IsOwn : Center → Type 0
  IsOwn c = AllByRecursion (λ (h : Heard). IsPeerOf c.records (peer_of h)) (heard_by (log c))

  parted : (c : Center) (cs : List Center) → all_logs (c ∷ cs) ≡ heard_by (log c) ++ all_logs cs
  parted c cs = map-append heard_of (log c) (flat_map log cs)

  -- all are of peers of their records
  all_own : (cs : List Center) → AllByRecursion IsOwn cs → AllByRecursion (λ (h : Heard). IsPeerOf (records_in cs) (peer_of h)) (all_logs cs)
  all_own [] all = tt
  all_own (c ∷ cs) all =
      subst (AllByRecursion (λ (h : Heard). IsPeerOf (records_in (c ∷ cs)) (peer_of h))) (sym (parted c cs))
      (all_append (λ (h : Heard). IsPeerOf (records_in (c ∷ cs)) (peer_of h)) (heard_by (log c)) (all_logs cs)
      (all_so (λ (h : Heard). IsPeerOf c.records (peer_of h)) (λ (h : Heard). IsPeerOf (records_in (c ∷ cs)) (peer_of h)) (λ h is. front_peer (peer_of h) c.records (records_in cs) is) (heard_by (log c)) all.0)
      (all_so (λ (h : Heard). IsPeerOf (records_in cs) (peer_of h)) (λ (h : Heard). IsPeerOf (records_in (c ∷ cs)) (peer_of h)) (λ h is. back_peer (peer_of h) c.records (records_in cs) is) (all_logs cs) (all_own cs all.1)))

  in_it : (c : Center) (cs : List Center) (p : ℕ) → IsOneOf c cs → IsPeerOf c.records p → IsPeerOf (records_in cs) p
  in_it c [] p one is = absurd one
  in_it c (d ∷ cs) p (inl e) is = front_peer p d.records (records_in cs) (subst (λ (x : Center). IsPeerOf x.records p) e is)
  in_it c (d ∷ cs) p (inr one) is = back_peer p d.records (records_in cs) (in_it c cs p one is)

  -- the calls of a peer are those of the center that has the record towards it
  its_calls : (p : ℕ) (c : Center) (cs : List Center) → AreOfTheirPeers (records_in cs) → AllByRecursion IsOwn cs → IsOneOf c cs → IsPeerOf c.records p → calls_of p (all_logs cs) ≡ calls_of p (heard_by (log c))
  its_calls p c [] distinct own one is = absurd one
  its_calls p c (d ∷ cs) distinct own one is =
      ap (calls_of p) (parted d cs) ∙ filter-append (λ (h : Heard). peer_of h == p) (heard_by (log d)) (all_logs cs)
      ∙ by one (λ h. its_calls p c cs (behind d.records (records_in cs) distinct) own.1 h is)
    where
      by : IsOneOf c (d ∷ cs) → (IsOneOf c cs → calls_of p (all_logs cs) ≡ calls_of p (heard_by (log c))) → calls_of p (heard_by (log d)) ++ calls_of p (all_logs cs) ≡ calls_of p (heard_by (log c))
      by (inl e) rest =
          ap (λ l. calls_of p (heard_by (log d)) ++ l)
          (none_of p (all_logs cs) (all_so (λ (h : Heard). IsPeerOf (records_in cs) (peer_of h)) (λ (h : Heard). (peer_of h == p) ≡ false)
          (λ h its. unlike_turned p (peer_of h) (unlike p (peer_of h) d.records (records_in cs) distinct (subst (λ (x : Center). IsPeerOf x.records p) e is) its)) (all_logs cs) (all_own cs own.1)))
          ∙ append-nil (calls_of p (heard_by (log d))) ∙ ap (λ (x : Center). calls_of p (heard_by (log x))) (sym e)
      by (inr h) rest =
          ap (λ l. l ++ calls_of p (all_logs cs))
          (none_of p (heard_by (log d)) (all_so (λ (h : Heard). IsPeerOf d.records (peer_of h)) (λ (h : Heard). (peer_of h == p) ≡ false)
          (λ call its. unlike (peer_of call) p d.records (records_in cs) distinct its (in_it c cs p h is)) (heard_by (log d)) own.0))
          ∙ rest h

-- ---- a node

-- the center that has a record, and what the node's dispatchers were called with of the record's peer
pub record IsInCenter (n : NodeNow (List Logged)) (r : RecordNow) : Type 0 where
  pub center : Center
  pub logged : IsLogged heard_by center
  pub one : IsOneOf r center.records
  pub fast : calls_of r.place (heard_by n.center.out.fast) ≡ calls_of r.place (heard_by center.out.fast)
  pub queued : calls_of r.place (heard_by n.center.queued.inner) ≡ calls_of r.place (heard_by center.queued.inner)

record HasRecord (r : RecordNow) (cs : List Center) : Type 0 where
  center : Center
  one : IsOneOf center cs
  has : IsOneOf r center.records

holder : (r : RecordNow) (cs : List Center) → IsOneOf r (records_in cs) → HasRecord r cs
holder r [] one = absurd one
holder r (c ∷ cs) one = by (in_part r c.records (records_in cs) one) (holder r cs)
  where
    by : IsOneOf r c.records ⊎ IsOneOf r (records_in cs) → (IsOneOf r (records_in cs) → HasRecord r cs) → HasRecord r (c ∷ cs)
    by (inl h) rest = record { center = c; one = inl refl; has = h }
    by (inr h) rest = let it = rest h in record { center = it.center; one = inr it.one; has = it.has }

module _ (n : NodeNow (List Logged)) (cs : List Center) (are : AreCentersOf n cs) where
  fast_own : AllByRecursion (IsOwn (λ (c : Center). c.out.fast)) cs
  fast_own = all_so (λ (c : Center). AreOfPeers heard_by c.records c.out c.queued) (IsOwn (λ (c : Center). c.out.fast)) (λ c its. its.fast) cs are.peers

  queued_own : AllByRecursion (IsOwn (λ (c : Center). c.queued.inner)) cs
  queued_own = all_so (λ (c : Center). AreOfPeers heard_by c.records c.out c.queued) (IsOwn (λ (c : Center). c.queued.inner)) (λ c its. its.queued) cs are.peers

  -- all calls are of peers of the node's records
  pub fast_of_peers : AllByRecursion (λ (h : Heard). IsPeerOf n.center.records (peer_of h)) (heard_by n.center.out.fast)
  fast_of_peers =
      subst (λ (l : List Logged). AllByRecursion (λ (h : Heard). IsPeerOf n.center.records (peer_of h)) (heard_by l)) (sym are.fast)
      (subst (λ (rs : List RecordNow). AllByRecursion (λ (h : Heard). IsPeerOf rs (peer_of h)) (all_logs (λ (c : Center). c.out.fast) cs)) (sym are.records) (all_own (λ (c : Center). c.out.fast) cs fast_own))

  pub queued_of_peers : AllByRecursion (λ (h : Heard). IsPeerOf n.center.records (peer_of h)) (heard_by n.center.queued.inner)
  queued_of_peers =
      subst (λ (l : List Logged). AllByRecursion (λ (h : Heard). IsPeerOf n.center.records (peer_of h)) (heard_by l)) (sym are.queued)
      (subst (λ (rs : List RecordNow). AllByRecursion (λ (h : Heard). IsPeerOf rs (peer_of h)) (all_logs (λ (c : Center). c.queued.inner) cs)) (sym are.records) (all_own (λ (c : Center). c.queued.inner) cs queued_own))

  pub in_center : AreOfTheirPeers n.center.records → (r : RecordNow) → IsOneOf r n.center.records → IsInCenter n r
  in_center distinct r one =
      let apart_all : AreOfTheirPeers (records_in cs) = subst AreOfTheirPeers are.records distinct in
      let it = holder r cs (subst (IsOneOf r) are.records one) in
      let is : IsPeerOf it.center.records r.place = passed (λ (q : RecordNow). q.place == r.place) r it.center.records it.has (eq-eqb r.place r.place refl) in
      record {
        center = it.center;
        logged = of_each (IsLogged heard_by) it.center cs are.logged it.one;
        one = it.has;
        fast = ap (λ (l : List Logged). calls_of r.place (heard_by l)) are.fast ∙ its_calls (λ (c : Center). c.out.fast) r.place it.center cs apart_all fast_own it.one is;
        queued = ap (λ (l : List Logged). calls_of r.place (heard_by l)) are.queued ∙ its_calls (λ (c : Center). c.queued.inner) r.place it.center cs apart_all queued_own it.one is;
      }

-- ---- what is heard by logs that tell the same of a peer

module _ (p : ℕ) (xs ys : Logs) (fast : calls_of p xs.fast ≡ calls_of p ys.fast) (queued : calls_of p xs.queued ≡ calls_of p ys.queued) where
  both : calls_of p (all_of xs) ≡ calls_of p (all_of ys)
  both =
      filter-append (λ (h : Heard). peer_of h == p) xs.fast xs.queued ∙ ap (λ l. l ++ calls_of p xs.queued) fast ∙ ap (λ l. calls_of p ys.fast ++ l) queued
      ∙ sym (filter-append (λ (h : Heard). peer_of h == p) ys.fast ys.queued)

  by_key : (key : Key) (l m : List Heard) → calls_of p l ≡ calls_of p m → of_key p key l ≡ of_key p key m
  by_key key l m e = keys.own_calls p key l ∙ ap (of_key p key) e ∙ sym (keys.own_calls p key m)

  in_lives : heard_in_lives p (all_of xs) ≡ heard_in_lives p (all_of ys)
  in_lives = sym (lives.own_calls p (all_of xs)) ∙ ap (heard_in_lives p) both ∙ lives.own_calls p (all_of ys)

  own_no_reset : (l : List Heard) → AllByRecursion (IsNoResetOf p) l → AllByRecursion (IsNoResetOf p) (calls_of p l)
  own_no_reset [] all = tt
  own_no_reset (h ∷ l) all = at (peer_of h == p) (own_no_reset l all.1)
    where
      at : (b : Bool) → AllByRecursion (IsNoResetOf p) (calls_of p l) → AllByRecursion (IsNoResetOf p) (if b then h ∷ calls_of p l else calls_of p l)
      at true rest = (all.0, rest)
      at false rest = rest

  no_reset_back : (l : List Heard) → AllByRecursion (IsNoResetOf p) (calls_of p l) → AllByRecursion (IsNoResetOf p) l
  no_reset_back [] all = tt
  no_reset_back (message q key number life m ∷ l) all = (tt, no_reset_back l (at (q == p) all))
    where
      at : (b : Bool) → AllByRecursion (IsNoResetOf p) (if b then message q key number life m ∷ calls_of p l else calls_of p l) → AllByRecursion (IsNoResetOf p) (calls_of p l)
      at true h = h.1
      at false h = h
  no_reset_back (reset q ∷ l) all = at (q == p) refl all (no_reset_back l)
    where
      at : (b : Bool) → (q == p) ≡ b → AllByRecursion (IsNoResetOf p) (if b then reset q ∷ calls_of p l else calls_of p l) →
          (AllByRecursion (IsNoResetOf p) (calls_of p l) → AllByRecursion (IsNoResetOf p) l) → ((q == p) ≡ false) × AllByRecursion (IsNoResetOf p) l
      at true e h rest = (h.0, rest h.1)
      at false e h rest = (e, rest h)

  pub same_heard : (s : State) → IsHeardOf p (all_of ys) s → IsHeardOf p (all_of xs) s
  same_heard s h = record {
    first = λ none key. subst (λ l. AreFirstOf (map unnumbered l) (channel.of_key key (handed s.deliveries))) (sym (by_key key (all_of xs) (all_of ys) both)) (h.first none key);
    some = λ key. subst (λ l. IsSublist (map unnumbered l) (channel.of_key key (handed s.deliveries))) (sym (by_key key (all_of xs) (all_of ys) both)) (h.some key);
    no_reset = λ letters. no_reset_back (all_of xs) (subst (AllByRecursion (IsNoResetOf p)) (sym both) (own_no_reset (all_of ys) (h.no_reset letters)));
  }

  pub same_in_lives : (s : State) → IsLogInLives p ys s → IsLogInLives p xs s
  same_in_lives s h = λ key. subst (λ l. ArePiecesOf (with_key key l) (map (with_key key) (stretches s.deliveries))) (sym in_lives) (h key)

  pub same_ways : GoOneWay p ys → GoOneWay p xs
  same_ways h = λ key. by key (h key)
    where
      by : (key : Key) → (of_key p key ys.fast ≡ []) ⊎ (of_key p key ys.queued ≡ []) → (of_key p key xs.fast ≡ []) ⊎ (of_key p key xs.queued ≡ [])
      by key (inl e) = inl (by_key key xs.fast ys.fast fast ∙ e)
      by key (inr e) = inr (by_key key xs.queued ys.queued queued ∙ e)

-- ---- a record of a node

module _ (n : NodeNow (List Logged)) (r : RecordNow) (is : IsInCenter n r) where
  abbrev node_logs : Logs
  node_logs = record { fast = heard_by n.center.out.fast; queued = heard_by n.center.queued.inner }

  abbrev its_logs : Logs
  its_logs = logs_in heard_by is.center

  pub heard_in_center : LogsAreLogs → HasHeardPeer node_logs r
  heard_in_center law s at =
      same_heard r.place node_logs its_logs is.fast is.queued s
      (of_each (HasHeardPeer its_logs) r is.center.records (logged_are_heard law heard_by is.center.records is.center.out is.center.queued is.logged) is.one s at)

  pub lives_in_center : LogsAreInLives → HasHeardInLives node_logs r
  lives_in_center law s at =
      same_in_lives r.place node_logs its_logs is.fast is.queued s
      (of_each (HasHeardInLives its_logs) r is.center.records (logged_are_so IsLogInLives law heard_by is.center.records is.center.out is.center.queued is.logged) is.one s at)

  pub ways_in_center : LogsAreLogs → State → GoOneWay r.place node_logs
  ways_in_center law state = same_ways r.place node_logs its_logs is.fast is.queued (one_way law heard_by is.center is.logged state r is.one)
