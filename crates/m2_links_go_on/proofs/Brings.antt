-- In a turn of a center only sockets that go elsewhere get an end that had none.
use Rattle.std.proofs.Common.{◌≡◌, inl, inr, ℕ, Bool, true, false, if◌then◌else◌, List, [], ◌∷◌, ◌++◌, length, map, Option, Some, None, Ok, Err, is_some, refl, sym, ap, subst, ◌∙◌, append-nil, append_assoc}
use Rattle.std.specs.Prelude.{IfSome, IsSome, nat_lt, unwrap_or}
use Rattle.std.specs.Option.{option_map}
use Rattle.std.proofs.lemmas.List.{map-append}
use Rattle.m2_cluster.specs.m2_core.Calls.{IsOpening}
use Rattle.m2_dispatch.specs.Heard.{Heard}
use Rattle.m2_fabric.specs.declared.port.Connect.{Connect}
use Rattle.m2_fabric.specs.declared.port.Connect.TheVariants as connect
use Rattle.m2_fabric.specs.declared.socket.SocketId.{SocketId}
use Rattle.m2_fabric.specs.End.{SeenEnd, after_closing}
use Rattle.m2_fabric.specs.Port as port
use Rattle.m2_fabric.specs.Port.{SeenPort}
use Rattle.m2_fabric.specs.Sockets.{goes_to, is_among, same_socket}
use Rattle.m2_cluster.specs.m2_feed.FeedNow.{FeedNow}
use Rattle.m2_history.specs.m2_record.declared.due.Due.{Due}
use Rattle.m2_history.specs.m2_record.declared.due.Due.TheVariants as due
use Rattle.m2_history.specs.m2_record.Calls.{IsSameButRoom, with_opened}
use Rattle.m2_history.specs.m2_record.Calls as record_calls
use Rattle.m2_history.specs.m2_record.Due.{due_step}
use Rattle.m2_history.specs.m2_record.RecordNow.{RecordNow, ends_of, feed_end, ids_of}
use Rattle.m2_history.specs.m2_record.Sources.{end_at}
use Rattle.m2_history.specs.m2_trail.Arrivals.{LooseNow, closed_of}
use Rattle.m2_history.specs.m2_trail.Incoming.{IncomingNow, accepted}
use Rattle.m2_cluster.specs.m2_center.m2_turn.declared.accepting.Accepted.{Accepted}
use Rattle.m2_cluster.specs.m2_center.m2_turn.declared.accepting.Accepted.TheVariants as accepts
use Rattle.m2_cluster.specs.m2_center.m2_turn.declared.halves_turn.HalvesTurn.{HalvesTurn}
use Rattle.m2_cluster.specs.m2_center.m2_turn.declared.pending.TheConstants.{MOST_HALVES}
use Rattle.m2_cluster.specs.m2_center.m2_turn.declared.records_turn.RecordsTurn.{RecordsTurn}
use Rattle.m2_cluster.specs.m2_center.m2_turn.declared.records_turn.RecordsTurn.TheVariants as turn
use Rattle.m2_cluster.specs.m2_center.m2_turn.Accepting.{Accepting, AcceptsAll, EndsWith, TakesAll, TakesIn, joined, unasked}
use Rattle.m2_cluster.specs.m2_center.m2_turn.Connecting.{AtPort, DialsFor, DialsIfDue, Takes}
use Rattle.m2_cluster.specs.m2_center.m2_turn.Halves.{AllHalves}
use Rattle.m2_cluster.specs.m2_center.m2_turn.HalvesTurn.{Callers, TurnsHalves}
use Rattle.m2_cluster.specs.m2_center.m2_turn.Hearing.{ends_in}
use Rattle.m2_cluster.specs.m2_center.m2_turn.Outbox.{is_free}
use Rattle.m2_cluster.specs.m2_center.m2_turn.RecordTurn.{Means}
use Rattle.m2_cluster.specs.m2_center.m2_turn.RecordsTurn.{AllAmid, Amid, Around, DialsAndSteps, EachTurns, TurnsEach, TurnsIf, TurnsInOrder, TurnsOne, all_amid, amid, at_port, sides_of, turning_amid}
use Rattle.m2_cluster.specs.m2_center.m2_turn.Sessions.{PendingNow}
use Rattle.m2_cluster.specs.m2_center.CenterTurn.{Answer}
use Rattle.m2_cluster.proofs.OneCenter.{none_at}
use Rattle.m2_growth.specs.Ends.{AreOfTheirOwn, BringNone}
use Rattle.m2_growth.specs.Holding.{AreOwn, Grows, Holding, IsToCome, LeadsElsewhere, all_ends, ends_held, waiting_at}
use Rattle.m2_growth.specs.GrowthLaws.{at_accepts, at_halves, at_records}
use Rattle.m2_growth.specs.Records.{ends_of_all}
use Rattle.m2_growth.proofs.Among.{mid_out}
use Rattle.m2_growth.proofs.Dials.{dials}
use Rattle.m2_growth.proofs.Ends.{AreMade, later_between, made_none, made_so, none_cons, none_join, none_parts, none_tail}
use Rattle.m2_growth.proofs.Going.{grows_by, grows_then}
use Rattle.m2_growth.proofs.HalfTurns.{halves_grow}
use Rattle.m2_growth.proofs.OneRecord.{all_around, ends_behind, holding}
use Rattle.m2_growth.proofs.Owned.{own_all}
use Rattle.m2_growth.proofs.RecordTurns.{turns, turns_one}
use Rattle.m2_links_go_on.proofs.ToCome.{among_none}
use Rattle.m2_fabric.proofs.m2_lemmas.Booleans.{false_isnt_true}
use Rattle.m2_fabric.proofs.Sockets.{same_equal}
use Rattle.m2_fabric.proofs.m2_lemmas.Lists.{all_so_of}

-- a socket that has an end now and had none goes elsewhere
abbrev pub Brings : (old new : Holding) → Type 0
Brings old new = (k : SocketId) → end_at (all_ends old) k ≡ None → IsSome (end_at (all_ends new) k) → goes_to old.port.at k ≡ false

pub chain : (a b c : Holding) → b.port.at ≡ a.port.at → Brings a b → Brings b c → Brings a c
chain a b c same p q k none some = at (end_at (all_ends b) k) refl
  where
    at : (o : Option SeenEnd) → end_at (all_ends b) k ≡ o → goes_to a.port.at k ≡ false
    at None e = sym (ap (λ x. goes_to x k) same) ∙ q k e some
    at (Some y) e = p k none (ap is_some e)

pub by_none : (a b : Holding) → BringNone (all_ends a) (all_ends b) → Brings a b
by_none a b n k none some = absurd (false_isnt_true (sym (ap is_some (n k none)) ∙ some))

pub by_same : (a b : Holding) → all_ends b ≡ all_ends a → Brings a b
by_same a b e = by_none a b (λ k h. ap (λ l. end_at l k) e ∙ h)

-- ---- accepts

joined_none : (half : IncomingNow) (h : AllHalves) (k : SocketId) → end_at (ends_in h) k ≡ None → same_socket k half.end.id ≡ false → end_at (ends_in (joined half h)) k ≡ None
joined_none half h k none other = at (nat_lt (length h.pending) MOST_HALVES)
    (none_parts (map (λ (p : PendingNow). p.half.end) h.pending) (map (λ (l : LooseNow). l.end) h.loose) k none)
  where
    at : (b : Bool) → (end_at (map (λ (p : PendingNow). p.half.end) h.pending) k ≡ None) × (end_at (map (λ (l : LooseNow). l.end) h.loose) k ≡ None) →
        end_at (ends_in (if b then record h { pending = h.pending ++ unasked half ∷ [] } else record h { loose = h.loose ++ closed_of half ∷ [] })) k ≡ None
    at true two =
        none_join (map (λ (p : PendingNow). p.half.end) (h.pending ++ unasked half ∷ [])) (map (λ (l : LooseNow). l.end) h.loose) k
        (subst (λ l. end_at l k ≡ None) (sym (map-append (λ (p : PendingNow). p.half.end) h.pending (unasked half ∷ [])))
        (none_join (map (λ (p : PendingNow). p.half.end) h.pending) (half.end ∷ []) k two.0 (none_cons half.end [] k other refl)))
        two.1
    at false two =
        none_join (map (λ (p : PendingNow). p.half.end) h.pending) (map (λ (l : LooseNow). l.end) (h.loose ++ closed_of half ∷ [])) k two.0
        (subst (λ l. end_at l k ≡ None) (sym (map-append (λ (l : LooseNow). l.end) h.loose (closed_of half ∷ [])))
        (none_join (map (λ (l : LooseNow). l.end) h.loose) (after_closing half.end ∷ []) k two.1 (none_cons (after_closing half.end) [] k other refl)))

-- no socket gets an end, and the port is in memory still
abbrev GivesNoEnd : List RecordNow → Accepting → Accepting → Type 0
GivesNoEnd rs old new = BringNone (all_ends (at_accepts rs old)) (all_ends (at_accepts rs new)) × IsSome new.port.waiting

takes_in : (rs : List RecordNow) (entity : ℕ) (old new : Accepting) → IsSome old.port.waiting → TakesIn entity old new → GivesNoEnd rs old new
takes_in rs entity old new memory t = at old.port.waiting new.port.waiting memory t.gives.2.0
  where
    at : (w v : Option (List SeenEnd)) → IsSome w → w ≡ option_map (λ rest. t.end ∷ rest) v →
        ((k : SocketId) → end_at ((ends_of_all rs ++ ends_in old.halves) ++ unwrap_or w []) k ≡ None → end_at ((ends_of_all rs ++ ends_in new.halves) ++ unwrap_or v []) k ≡ None) × IsSome v
    at w None memory same = absurd (false_isnt_true (sym (ap is_some same) ∙ memory))
    at w (Some ws) memory same = (
      (λ k none.
          let parts = none_parts (ends_of_all rs ++ ends_in old.halves) (unwrap_or w []) k none in
          let front = none_tail t.end ws k (subst (λ o. end_at (unwrap_or o []) k ≡ None) same parts.1) in
          let held = none_parts (ends_of_all rs) (ends_in old.halves) k parts.0 in
          none_join (ends_of_all rs ++ ends_in new.halves) ws k
          (none_join (ends_of_all rs) (ends_in new.halves) k held.0
          (subst (λ h. end_at (ends_in h) k ≡ None) (sym t.joins) (joined_none (accepted entity t.end t.room) old.halves k held.1 front.0)))
          front.1),
      refl,
    )

takes_all : (rs : List RecordNow) (entity : ℕ) (stood : List Accepting) (old new : Accepting) → IsSome old.port.waiting → TakesAll entity stood old new → GivesNoEnd rs old new
takes_all rs entity [] old new memory h = subst (GivesNoEnd rs old) h ((λ k none. none), memory)
takes_all rs entity (a ∷ rest) old new memory h =
    let first = takes_in rs entity old a memory h.0 in
    let second = takes_all rs entity rest a new first.1 h.1 in
    ((λ k none. second.0 k (first.0 k none)), second.1)

gives_same : (rs : List RecordNow) (old new : Accepting) → new.halves ≡ old.halves → new.port.waiting ≡ old.port.waiting → BringNone (all_ends (at_accepts rs old)) (all_ends (at_accepts rs new))
gives_same rs old new same waiting k none =
    subst (λ w. end_at ((ends_of_all rs ++ ends_in new.halves) ++ unwrap_or w []) k ≡ None) (sym waiting)
    (subst (λ h. end_at ((ends_of_all rs ++ ends_in h) ++ unwrap_or old.port.waiting []) k ≡ None) (sym same) none)

ends_with : (rs : List RecordNow) (result : Accepted) (old new : Accepting) → EndsWith result old new → BringNone (all_ends (at_accepts rs old)) (all_ends (at_accepts rs new))
ends_with rs accepts.All old new h =
    elim h [ inl g ↦ gives_same rs old new g.same (ap (λ (p : SeenPort). p.waiting) g.gives.1) | inr g ↦ gives_same rs old new g.same (ap (λ (p : SeenPort). p.waiting) g.gives.1) ]
ends_with rs accepts.NoMemory old new h = gives_same rs old new h.same (ap (λ (p : SeenPort). p.waiting) h.gives)
ends_with rs accepts.Busy old new h = absurd h

pub accepts_bring : (entity : ℕ) (result : Accepted) (rs : List RecordNow) (old new : Accepting) → AcceptsAll entity result old new → IsSome old.port.waiting → Brings (at_accepts rs old) (at_accepts rs new)
accepts_bring entity result rs old new h memory = by_none (at_accepts rs old) (at_accepts rs new) (at result h)
  where
    at : (result : Accepted) → AcceptsAll entity result old new → BringNone (all_ends (at_accepts rs old)) (all_ends (at_accepts rs new))
    at accepts.Busy h = (takes_all rs entity h.stood old new memory h.takes).0
    at accepts.All h = λ k none. ends_with rs accepts.All h.mid new h.ends k ((takes_all rs entity h.taken.stood old h.mid memory h.taken.takes).0 k none)
    at accepts.NoMemory h = λ k none. ends_with rs accepts.NoMemory h.mid new h.ends k ((takes_all rs entity h.taken.stood old h.mid memory h.taken.takes).0 k none)

-- ---- turns of halves

-- over a port that made just the sockets of the ends that are held, each has one end too: so none is brought
module _ (h : Holding) where
  abbrev its_ids : List SocketId
  its_ids = ids_of (ends_held h)

  abbrev pub just : SeenPort
  just = record h.port { made = its_ids }

  all_made : AreMade its_ids (ends_held h)
  all_made = made_so its_ids (ends_held h) (λ k none. none_at (ends_held h) k none)

  new_still : AreOwn h → (k : SocketId) → is_among k h.port.made ≡ false → is_among k its_ids ≡ false
  new_still own k new = among_none (ends_held h) k (made_none h.port.made (ends_held h) k own.made new)

  pub just_own : AreOwn h → AreOwn (record h { port = just })
  just_own own = record {
    held = own.held;
    made = all_made;
    waiting = own.waiting;
    to_come = all_so_of (IsToCome h.port) (IsToCome just) (waiting_at h.port) (λ e c. record { here = c.here; new = new_still own e.id c.new }) own.to_come;
    elsewhere = own.elsewhere;
    fed = own.fed;
    on_socket = own.on_socket;
    here = own.here;
  }

  -- what grows so over that port brings none, the port being the same
  pub just_brings : (records : List RecordNow) (halves : AllHalves) → AreOwn h → Grows (record h { port = just }) (record { port = just; records = records; halves = halves }) →
      Brings h (record { port = h.port; records = records; halves = halves })
  just_brings records halves own grown =
      by_none h (holding h.port records halves) (λ k none.
      let parts = none_parts (ends_held h) (waiting_at h.port) k none in
      none_join (ends_of_all records ++ ends_in halves) (waiting_at h.port) k
      (made_none its_ids (ends_of_all records ++ ends_in halves) k grown.own.made (among_none (ends_held h) k parts.0)) parts.1)

pub halves_bring : (E : Type 0) (result : HalvesTurn) (m : Means) (port : SeenPort) (old new : Callers) → TurnsHalves E result m old new → AreOwn (at_halves port old) →
    Brings (at_halves port old) (at_halves port new)
halves_bring E result m port old new t own =
    just_brings (at_halves port old) (at_halves port new).records (at_halves port new).halves own
    (halves_grow E result m (just (at_halves port old)) old new t (just_own (at_halves port old) own))

-- ---- a dial

opened_ends : (e : SeenEnd) (r mid s : RecordNow) → IsSameButRoom r mid → record_calls.Connects e mid s → ends_of s ≡ e ∷ r.spent
opened_ends e r mid s room h = at s.core.live.feed refl h.0 h.1
  where
    at : (o : Option FeedNow) → s.core.live.feed ≡ o → IfSome o (λ v. IsOpening mid.core.facts e v × (s ≡ record (with_opened v e.id mid) { room = s.room })) → IsSome o → ends_of s ≡ e ∷ r.spent
    at (Some v) is (opening, h) some =
        ap (λ x. feed_end x ++ s.spent) is ∙ ap (λ (x : SeenEnd). x ∷ s.spent) (ap (λ (x : FeedNow). x.end) opening)
        ∙ ap (λ l. e ∷ l) (ap (λ (x : RecordNow). x.spent) h ∙ ap (λ (x : RecordNow). x.spent) room)
    at None is h some = absurd (false_isnt_true some)

module _ (before rest : List RecordNow) (halves : AllHalves) where
  abbrev with_it : SeenPort → RecordNow → Holding
  with_it p r = holding p (before ++ r ∷ rest) halves

  abbrev spread : List SeenEnd → List SeenEnd → List SeenEnd
  spread es waiting = ends_of_all before ++ (es ++ (ends_behind rest halves ++ waiting))

  same_ends : (p q : SeenPort) (r s : RecordNow) → q.waiting ≡ p.waiting → ends_of s ≡ ends_of r → all_ends (with_it q s) ≡ all_ends (with_it p r)
  same_ends p q r s waiting ends =
      all_around q before rest s halves ∙ ap (λ w. spread (ends_of s) (unwrap_or w [])) waiting ∙ ap (λ es. spread es (waiting_at p)) ends ∙ sym (all_around p before rest r halves)

  -- but for the end of one socket
  brings_one : (p q : SeenPort) (r s : RecordNow) (e : SeenEnd) → q.waiting ≡ p.waiting → ends_of s ≡ e ∷ r.spent → goes_to p.at e.id ≡ false → Brings (with_it p r) (with_it q s)
  brings_one p q r s e waiting ends away k none some = at (same_socket k e.id) refl
    where
      at : (b : Bool) → same_socket k e.id ≡ b → goes_to p.at k ≡ false
      at true same = ap (goes_to p.at) (same_equal k e.id same) ∙ away
      at false other =
          let first = none_parts (ends_of_all before) (ends_of r ++ (ends_behind rest halves ++ waiting_at p)) k (subst (λ l. end_at l k ≡ None) (all_around p before rest r halves) none) in
          let second = none_parts (ends_of r) (ends_behind rest halves ++ waiting_at p) k first.1 in
          let third = none_parts (feed_end r.core.live.feed) r.spent k second.0 in
          let now : end_at (spread (e ∷ r.spent) (waiting_at p)) k ≡ None =
          none_join (ends_of_all before) ((e ∷ r.spent) ++ (ends_behind rest halves ++ waiting_at p)) k first.0
          (none_join (e ∷ r.spent) (ends_behind rest halves ++ waiting_at p) k (none_cons e r.spent k other third.1) second.1) in
          let all : all_ends (with_it q s) ≡ spread (e ∷ r.spent) (waiting_at p) =
          all_around q before rest s halves ∙ ap (λ w. spread (ends_of s) (unwrap_or w [])) waiting ∙ ap (λ es. spread es (waiting_at p)) ends in
          absurd (false_isnt_true (sym (ap is_some (ap (λ l. end_at l k) all ∙ now)) ∙ some))

  takes : (made : Connect SeenEnd) (now : ℕ) (p q : SeenPort) (r s : RecordNow) → port.Connects made r.core.facts.peer p q → Takes made now r s → LeadsElsewhere p r → Brings (with_it p r) (with_it q s)
  takes (connect.Made e) now p q r s c (mid, room, opened) away =
      brings_one p q r s e (ap (λ (x : SeenPort). x.waiting) c.2) (opened_ends e r mid s room opened) (away e.id c.0.towards)
  takes connect.Failed now p q r s (_, e) (mid, room, missed) away =
      by_same (with_it p r) (with_it q s) (same_ends p q r s (ap (λ (x : SeenPort). x.waiting) e) (ap ends_of missed ∙ ap ends_of room))
  takes connect.NoMemory now p q r s e room away =
      by_same (with_it p r) (with_it q s) (same_ends p q r s (ap (λ (x : SeenPort). x.waiting) e) (ap ends_of room))

  dial_brings : (result : Answer) (now : ℕ) (old new : AtPort) → DialsIfDue result now old new → AreOwn (with_it old.port old.side) → Brings (with_it old.port old.side) (with_it new.port new.side)
  dial_brings result now old new d own = at (due_step now old.side) d
    where
      at : (x : Due) → DialsFor x result now old new → Brings (with_it old.port old.side) (with_it new.port new.side)
      at (due.Connect k) d = takes d.made now old.port new.port old.side new.side d.port d.takes (mid_out (LeadsElsewhere old.port) old.side before rest own.elsewhere).0
      at _ d = by_same (with_it old.port old.side) (with_it new.port new.side) (ap (λ (a : AtPort). all_ends (with_it a.port a.side)) d.1)

-- ---- the turn of a record

module _ {D : Type 0} (heard : D → List Heard) (m : Means) where
  abbrev with_one : List RecordNow → List RecordNow → AllHalves → Amid D → Holding
  with_one before rest halves a = holding a.around.port (before ++ a.side ∷ rest) halves

  dials_and_steps : (result : RecordsTurn) (old new : Amid D) (before rest : List RecordNow) (halves : AllHalves) → DialsAndSteps heard m result old new →
      AreOwn (with_one before rest halves old) → Brings (with_one before rest halves old) (with_one before rest halves new)
  dials_and_steps result old new before rest halves d own =
      let first = dials (Ok tt) m.now (at_port old) d.mid before rest halves d.dials own in
      let mid : Holding = holding d.mid.port (before ++ d.mid.side ∷ rest) halves in
      let stepped = turns heard m d.ended (turning_amid d.mid.side old.around) (turning_amid new.side new.around) d.turns in
      let still = later_between (ends_of_all before) (ends_of d.mid.side) (ends_of new.side) (ends_behind rest halves ++ waiting_at d.mid.port) stepped.moves.stands.ends
      (subst AreOfTheirOwn (all_around d.mid.port before rest d.mid.side halves) (own_all mid first.own)) in
      chain (with_one before rest halves old) mid (with_one before rest halves new) first.grows.at (dial_brings before rest halves (Ok tt) m.now (at_port old) d.mid d.dials own)
      (by_none mid (with_one before rest halves new) (λ k none.
      ap (λ l. end_at l k) (all_around new.around.port before rest new.side halves ∙ ap (λ (p : SeenPort). spread before rest halves (ends_of new.side) (waiting_at p)) d.port)
      ∙ still.none k (ap (λ l. end_at l k) (sym (all_around d.mid.port before rest d.mid.side halves)) ∙ none)))

  turns_if : (free : Bool) (result : RecordsTurn) (old new : Amid D) (before rest : List RecordNow) (halves : AllHalves) → TurnsIf free heard m result old new →
      AreOwn (with_one before rest halves old) → Brings (with_one before rest halves old) (with_one before rest halves new)
  turns_if true turn.Done old new before rest halves d own = dials_and_steps turn.Done old new before rest halves d own
  turns_if true turn.NoMemory old new before rest halves (inl d) own = dial_brings before rest halves (Err (record {})) m.now (at_port old) (at_port new) d.dials own
  turns_if true turn.NoMemory old new before rest halves (inr d) own = dials_and_steps turn.NoMemory old new before rest halves d own
  turns_if false turn.Done old new before rest halves e own =
      by_same (with_one before rest halves old) (with_one before rest halves new) (ap (λ (a : Amid D). all_ends (with_one before rest halves a)) e)
  turns_if false turn.NoMemory old new before rest halves e own = absurd e

  one_brings : (result : RecordsTurn) (old new : Amid D) (before rest : List RecordNow) (halves : AllHalves) → TurnsOne heard m result old new →
      AreOwn (with_one before rest halves old) → Brings (with_one before rest halves old) (with_one before rest halves new)
  one_brings result old new before rest halves t own = turns_if (is_free old.around.out) result old new before rest halves t own

  -- ---- one after another

  each_brings : (done rs rest : List RecordNow) (stood : List (Amid D)) (old new : Around D) (halves : AllHalves) → EachTurns heard m rs stood old new →
      AreOwn (holding old.port (done ++ (rs ++ rest)) halves) →
      Grows (holding old.port (done ++ (rs ++ rest)) halves) (holding new.port (done ++ (sides_of stood ++ rest)) halves)
      × Brings (holding old.port (done ++ (rs ++ rest)) halves) (holding new.port (done ++ (sides_of stood ++ rest)) halves)
  each_brings done [] rest [] old new halves e own = (
    grows_by (holding old.port (done ++ rest) halves) (holding new.port (done ++ rest) halves) (ap (λ (a : Around D). holding a.port (done ++ rest) halves) e) own,
    by_same (holding old.port (done ++ rest) halves) (holding new.port (done ++ rest) halves) (ap (λ (a : Around D). all_ends (holding a.port (done ++ rest) halves)) e),
  )
  each_brings done (r ∷ rs) rest (a ∷ more) old new halves (first, others) own =
      let was : Holding = holding old.port (done ++ r ∷ (rs ++ rest)) halves in
      let mid : Holding = holding a.around.port (done ++ a.side ∷ (rs ++ rest)) halves in
      let is : Holding = holding new.port (done ++ a.side ∷ (sides_of more ++ rest)) halves in
      let one = turns_one heard m turn.Done (amid r old) a done (rs ++ rest) halves first own in
      let brings = one_brings turn.Done (amid r old) a done (rs ++ rest) halves first own in
      let moved : (done ++ a.side ∷ []) ++ (rs ++ rest) ≡ done ++ a.side ∷ (rs ++ rest) = append_assoc done (a.side ∷ []) (rs ++ rest) in
      let moved_too : (done ++ a.side ∷ []) ++ (sides_of more ++ rest) ≡ done ++ a.side ∷ (sides_of more ++ rest) = append_assoc done (a.side ∷ []) (sides_of more ++ rest) in
      let on = each_brings (done ++ a.side ∷ []) rs rest more a.around new halves others (subst (λ l. AreOwn (holding a.around.port l halves)) (sym moved) one.own) in
      let grows : Grows mid is = subst (λ l. Grows (holding a.around.port l halves) is) moved (subst (λ l. Grows (holding a.around.port ((done ++ a.side ∷ []) ++ (rs ++ rest)) halves) (holding new.port l halves)) moved_too on.0) in
      let brought : Brings mid is = subst (λ l. Brings (holding a.around.port l halves) is) moved (subst (λ l. Brings (holding a.around.port ((done ++ a.side ∷ []) ++ (rs ++ rest)) halves) (holding new.port l halves)) moved_too on.1) in
      (grows_then was mid is one grows, chain was mid is one.grows.at brings brought)
  each_brings done [] rest (a ∷ more) old new halves e own = absurd e
  each_brings done (r ∷ rs) rest [] old new halves e own = absurd e

  in_order : (result : RecordsTurn) (old new : AllAmid D) (halves : AllHalves) → TurnsInOrder heard m result old new →
      AreOwn (at_records halves old) → Brings (at_records halves old) (at_records halves new)
  in_order turn.Done old new halves t own =
      let whole = each_brings [] old.records [] t.stood old.around new.around halves t.turns (subst (λ l. AreOwn (holding old.around.port l halves)) (sym (append-nil old.records)) own) in
      subst (λ l. Brings (at_records halves old) (holding new.around.port l halves)) (append-nil (sides_of t.stood) ∙ sym t.records)
      (subst (λ l. Brings (holding old.around.port l halves) (holding new.around.port (sides_of t.stood ++ []) halves)) (append-nil old.records) whole.1)
  in_order turn.NoMemory old new halves t own =
      let was : Holding = holding old.around.port (t.before ++ t.at ∷ t.rest) halves in
      let mid : Holding = holding t.mid.port (sides_of t.stood ++ t.at ∷ t.rest) halves in
      let is : Holding = holding new.around.port (sides_of t.stood ++ t.left ∷ t.rest) halves in
      let first = each_brings [] t.before (t.at ∷ t.rest) t.stood old.around t.mid halves t.turns (subst (λ l. AreOwn (holding old.around.port l halves)) t.split own) in
      let stopped = one_brings turn.NoMemory (amid t.at t.mid) (amid t.left new.around) (sides_of t.stood) t.rest halves t.stops first.0.own in
      subst (λ l. Brings (at_records halves old) (holding new.around.port l halves)) (sym t.records)
      (subst (λ l. Brings (holding old.around.port l halves) is) (sym t.split) (chain was mid is first.0.grows.at first.1 stopped))

  pub records_bring : (result : RecordsTurn) (halves : AllHalves) (old new : AllAmid D) → TurnsEach heard m result old new → AreOwn (at_records halves old) → Brings (at_records halves old) (at_records halves new)
  records_bring result halves old new t own =
      let same : holding t.retried.port old.records halves ≡ at_records halves old = ap (λ (a : Around D). holding a.port old.records halves) t.only in
      subst (λ h. Brings h (at_records halves new)) same
      (in_order result (all_amid old.records t.retried) new halves t.turns (subst AreOwn (sym same) own))
