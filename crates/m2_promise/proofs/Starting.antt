-- Nodes in memory before the first deed of a run: nothing has an end, and nothing was asked.
use Rattle.std.proofs.Common.{◌≡◌, ℕ, Bool, true, false, List, [], ◌∷◌, ◌++◌, map, Option, Some, None, IfSome, refl, sym, ap, subst, ◌∙◌}
use Rattle.std.specs.Prelude.{slice_get, unwrap_or}
use Rattle.std.specs.Option.{is_some}
use Rattle.std.specs.List.{AllByRecursion}
use Rattle.std.proofs.lemmas.Bool.{eq-eqb}
use Rattle.m2_fabric.specs.m2_addr.declared.addr.Addr.{Addr}
use Rattle.m2_fabric.specs.declared.socket.SocketId.{SocketId}
use Rattle.m2_fabric.specs.End.{SeenEnd}
use Rattle.m2_fabric.specs.Log.{nothing_done}
use Rattle.m2_fabric.specs.Sockets.{goes_to, is_among}
use Rattle.m2_links_go_on.specs.m2_growth.Ends.{AreOfTheirOwn}
use Rattle.m2_links_go_on.specs.m2_growth.Halves.{AskedOnMade, AskedTowards, HasItsHalves, IsHeardBy, JudgeApart, OneJudge, all_left, asked_on}
use Rattle.m2_links_go_on.specs.m2_growth.Holding.{AreOwn, HaveTheirHalves, Holding, IsToCome, LeadsElsewhere, all_ends, ends_held, waiting_at}
use Rattle.m2_links_go_on.specs.m2_growth.Records.{IsFed, ends_of_all}
use Rattle.m2_links_go_on.proofs.m2_growth.Ends.{own_none}
use Rattle.m2_links_go_on.proofs.m2_growth.Fed.{record_fed}
use Rattle.m2_links_go_on.specs.m2_history.Link.{IsWholeHalf, both_of, parts_of}
use Rattle.m2_links_go_on.specs.m2_history.Parts.{PartsNow}
use Rattle.m2_links_go_on.specs.m2_history.Woven.{BothNow}
use Rattle.m2_links_go_on.specs.m2_growth.Turn.{AllCameOfPut, HaveEnds}
use Rattle.m2_links_go_on.specs.m2_weave.m2_journal.declared.entry.Entry.{Entry}
use Rattle.m2_links_go_on.specs.m2_weave.m2_journal.State.{Judgement}
use Rattle.m2_links_go_on.specs.Linked.{IsNode}
use Rattle.m2_script.specs.m2_record.IsRecord.{IsRecord}
use Rattle.m2_script.specs.m2_record.RecordNow.{RecordNow, ends_of}
use Rattle.m2_script.specs.m2_record.Sources.{end_at}
use Rattle.m2_script.specs.m2_record.TakenTrails.{judgements_in}
use Rattle.m2_promise.specs.Running.{HasAskedPeer, IsNodeAt, IsOfPort, IsRecordAt, IsRunning, RunNow}
use Rattle.m2_promise.proofs.Places.{goes_one}
use Rattle.m2_fabric.specs.InStep.{HaveWhatFlowed, IsUnread, SeenFabric}
use Rattle.m2_fabric.specs.Kept.{SeenPair, directions}
use Rattle.m2_fabric.specs.SimFabric.{AreApart}
use Rattle.m2_script.specs.m2_center.m2_turn.Halves.{AllHalves, sessions_with}
use Rattle.m2_script.specs.m2_center.m2_turn.Hearing.{ends_in}
use Rattle.m2_script.specs.m2_center.m2_turn.Sessions.{AreConsistent}
use Rattle.m2_lives.specs.m2_bytes_fit.m2_trail.Arrivals.{LooseNow}
use Rattle.m2_lives.specs.m2_bytes_fit.m2_trail.Trails.{TrailNow}
use Rattle.m2_links_go_on.specs.Sides.{woven_now}
use Rattle.m2_links_go_on.specs.m2_weave.TurnLaws.{HasOrder}
use Rattle.m2_links_go_on.proofs.m2_weave.Runs.{start_has_order}
use Rattle.m2_promise.specs.Beginning.{IsBeginning, IsNewAt, IsUnused}
use Rattle.m2_promise.specs.BeginningLaws.{BeginningsHaveOrders, BeginningsRun, NewRecordsAreUnused}
use Rattle.m2_fabric.proofs.m2_lemmas.Lists.{all_at, all_so_of}
use Rattle.m2_fabric.proofs.m2_lemmas.Booleans.{false_isnt_true}

-- ---- records

none_asked : (r : RecordNow) → IsUnused r → asked_on r ≡ []
none_asked r u = ap (λ (es : List Entry). map (λ (j : Judgement). j.socket) (judgements_in es)) u.journal

never_asked : (r : RecordNow) → IsUnused r → (k : SocketId) → is_among k (asked_on r) ≡ true → ⊥
never_asked r u k h = false_isnt_true (sym (ap (is_among k) (none_asked r u)) ∙ h)

none_of_all : (rs : List RecordNow) → AllByRecursion IsUnused rs → ends_of_all rs ≡ []
none_of_all [] all = refl
none_of_all (r ∷ rs) all = ap (λ l. l ++ ends_of_all rs) all.0.ends ∙ none_of_all rs all.1

one_judge : (rs : List RecordNow) → AllByRecursion IsUnused rs → OneJudge rs
one_judge [] all = tt
one_judge (r ∷ rs) all = (all_so_of IsUnused (JudgeApart r) rs (λ s u k h. absurd (never_asked r all.0 k h)) all.1, one_judge rs all.1)

pub unused : NewRecordsAreUnused
unused f place peer room is = record { is = is; journal = refl; trails = refl; ends = refl }

-- ---- a node

module _ (addrs : List Addr) (apart : AreApart addrs) (i : ℕ) (h : Holding) (n : IsNewAt addrs i h) where
  none_held : ends_held h ≡ []
  none_held = ap (λ l. l ++ ends_in h.halves) (none_of_all h.records n.records) ∙ ap ends_in n.halves

  none_wait : waiting_at h.port ≡ []
  none_wait = ap (λ o. unwrap_or o []) n.waiting

  pub no_ends : all_ends h ≡ []
  no_ends = ap (λ l. l ++ waiting_at h.port) none_held ∙ none_wait

  none_left : all_left h.halves ≡ []
  none_left = ap all_left n.halves

  elsewhere : (r : RecordNow) → IsRecordAt addrs i r → LeadsElsewhere h.port r
  elsewhere r at k g = by (goes_to h.port.at k) refl
    where
      by : (b : Bool) → goes_to h.port.at k ≡ b → b ≡ false
      by false is = refl
      by true is = absurd (false_isnt_true (sym at.other ∙ eq-eqb r.place i (goes_one addrs r.place i r.core.facts.peer h.port.at k apart at.peer n.at g is)))

  own : AreOwn h
  own = record {
    held = subst AreOfTheirOwn (sym none_held) own_none;
    made = subst (AllByRecursion (λ (e : SeenEnd). is_among e.id h.port.made ≡ true)) (sym none_held) tt;
    waiting = subst AreOfTheirOwn (sym none_wait) own_none;
    to_come = subst (AllByRecursion (IsToCome h.port)) (sym none_wait) tt;
    elsewhere = all_so_of (IsRecordAt addrs i) (LeadsElsewhere h.port) h.records elsewhere n.sides;
    fed = all_so_of IsUnused IsFed h.records (λ r u. record_fed r u.is) n.records;
    on_socket = subst (AllByRecursion (λ (l : LooseNow). l.trail.socket ≡ l.end.id)) (sym none_left) tt;
    here = subst (AllByRecursion (λ (l : LooseNow). goes_to h.port.at l.end.id ≡ true)) (sym none_left) tt;
  }

  halves : HaveTheirHalves h
  halves = record {
    each = all_so_of IsUnused (HasItsHalves (all_left h.halves)) h.records (λ r u k a. absurd (never_asked r u k a)) n.records;
    made = all_so_of IsUnused (AskedOnMade h.port.made) h.records (λ r u k a. absurd (never_asked r u k a)) n.records;
    here = all_so_of IsUnused (AskedTowards h.port.at) h.records (λ r u k a. absurd (never_asked r u k a)) n.records;
    one_judge = one_judge h.records n.records;
    askers = subst (λ (g : AllHalves). AllByRecursion (IsHeardBy h.records) g.pending) (sym n.halves) tt;
    peers = n.consistent.peers;
  }

  node : IsNode h
  node = record {
    records = all_so_of IsUnused IsRecord h.records (λ r u. u.is) n.records;
    whole = subst (AllByRecursion IsWholeHalf) (sym none_left) tt;
    own = own;
    halves = halves;
    supply = n.supply;
    entity = n.entity;
    sessions = subst (λ g. AreConsistent n.supply n.entity (sessions_with h.port.made h.records g)) (sym n.halves) n.consistent;
  }

  pub node_at : IsNodeAt addrs i h
  node_at = record {
    node = node;
    at = n.at;
    records = n.sides;
    in_memory = ap is_some n.waiting;
    made = subst (AllByRecursion (IsOfPort h.port.at)) (sym n.made) tt;
    waiting = subst (AllByRecursion (λ (e : SeenEnd). e.log ≡ nothing_done)) (sym none_wait) tt;
  }

  pub none_asks : AllByRecursion HasAskedPeer h.records
  none_asks = all_so_of IsUnused HasAskedPeer h.records (λ r u k a. absurd (never_asked r u k a)) n.records

-- ---- all nodes

module _ (x : RunNow) (b : IsBeginning x) where
  none_kept : x.fabric.pairs ≡ []
  none_kept = ap (λ (f : SeenFabric). f.pairs) b.fabric

  new_at : (o : Option Holding) (i : ℕ) → slice_get x.holdings i ≡ o → (k : SocketId) → x.holder.ends i k ≡ None
  new_at (Some h) i is k = b.holds.ends i h is k ∙ ap (λ es. end_at es k) (no_ends x.fabric.nodes b.apart i h (b.each i h is))
  new_at None i is k = b.holds.none i is k

  none_anywhere : (i : ℕ) (k : SocketId) → x.holder.ends i k ≡ None
  none_anywhere i k = new_at (slice_get x.holdings i) i refl k

  runs : IsRunning x
  runs = record {
    apart = b.apart;
    in_step = record {
      nodes = b.nodes;
      kept = subst (λ (ps : List SeenPair). HaveWhatFlowed x.holder (directions ps)) (sym none_kept) tt;
      others = λ e other. subst (λ (o : Option SeenEnd). IfSome o IsUnread) (sym (none_anywhere e.node e.id)) tt;
    };
    met = record {
      ends = subst (λ (ps : List SeenPair). HaveEnds x.holder (record x.fabric { pairs = ps })) (sym none_kept) tt;
      came = subst (λ (ps : List SeenPair). AllCameOfPut x.holder (record x.fabric { pairs = ps })) (sym none_kept) tt;
    };
    holds = b.holds;
    between = record {
      kept = rw none_kept tt;
      arrived = λ i h is k goes there. absurd (false_isnt_true (sym (ap (λ es. is_some (end_at es k)) (no_ends x.fabric.nodes b.apart i h (b.each i h is))) ∙ there));
    };
    nodes = λ i h is. node_at x.fabric.nodes b.apart i h (b.each i h is);
    asked = λ i h is. none_asks x.fabric.nodes b.apart i h (b.each i h is);
  }

pub begins_running : BeginningsRun
begins_running = runs

-- ---- links

abbrev parts : List Entry → List TrailNow → List SeenEnd → PartsNow
parts j t e = record { journal = j; trails = t; ends = e }

none_done : (r : RecordNow) → IsUnused r → parts_of r ≡ record { journal = []; trails = []; ends = [] }
none_done r u =
    ap (λ j. parts j r.trails (ends_of r)) u.journal ∙ ap (λ t. parts [] t (ends_of r)) u.trails ∙ ap (λ e. parts [] [] e) u.ends

abbrev both : PartsNow → PartsNow → List LooseNow → BothNow
both a b l = record { a = a; b = b; loose = l }

abbrev nothing : PartsNow
nothing = record { journal = []; trails = []; ends = [] }

none_on_link : (a b : RecordNow) (loose : List LooseNow) → IsUnused a → IsUnused b → loose ≡ [] → both_of a b loose ≡ record { a = nothing; b = nothing; loose = [] }
none_on_link a b loose p q e =
    ap (λ x. both x (parts_of b) loose) (none_done a p) ∙ ap (λ x. both nothing x loose) (none_done b q) ∙ ap (λ l. both nothing nothing l) e

at_start : HasOrder (woven_now (record { a = nothing; b = nothing; loose = [] }))
at_start = start_has_order (woven_now (record { a = nothing; b = nothing; loose = [] })) (refl, (refl, tt))

pub begins_ordered : BeginningsHaveOrders
begins_ordered x s h g a b l =
    let near = s.each l.i h l.near in
    let far = s.each l.j g l.far in
    let left : all_left h.halves ++ all_left g.halves ≡ [] =
    ap (λ o. o ++ all_left g.halves) (none_left x.fabric.nodes s.apart l.i h near) ∙ none_left x.fabric.nodes s.apart l.j g far in
    subst (λ y. HasOrder (woven_now y))
    (sym (none_on_link a b (all_left h.halves ++ all_left g.halves) (all_at IsUnused h.records l.a_at a l.a_there near.records) (all_at IsUnused g.records l.b_at b l.b_there far.records) left))
    at_start
