-- What a center keeps, and what of it stays, where a socket comes to its port and where one of its ends is told something.
use Rattle.std.proofs.Common.{◌≡◌, ℕ, suc, Bool, true, false, ◌||◌, if◌then◌else◌, is_some, List, [], ◌∷◌, ◌++◌, length, map, Option, Some, None, Result, Ok, Err, OnOk, OnErr, refl, sym, ap, subst, ◌∙◌}
use Rattle.std.specs.List.{AllByRecursion, flat_map, list_any}
use Rattle.std.specs.Option.{option_map}
use Rattle.m2_edge.specs.declared.failed.Failed.{Failed}
use Rattle.m2_edge.specs.Faults.{HasCause}
use Rattle.m2_fabric.specs.declared.end.News.{News}
use Rattle.m2_fabric.specs.declared.socket.SocketId.{SocketId}
use Rattle.m2_fabric.specs.End.{SeenEnd, after_news}
use Rattle.m2_fabric.specs.Port.{SeenPort, one_hears, with_incoming, with_news, with_poll}
use Rattle.m2_fabric.specs.Log.{Log}
use Rattle.m2_fabric.specs.Sockets.{is_among, same_socket}
use Rattle.m2_record.specs.Sources.{end_at}
use Rattle.m2_record.specs.IsRecord.{IsRecord}
use Rattle.m2_record.specs.RecordNow.{RecordNow, ends_of, ids_of}
use Rattle.m2_trail.specs.Arrivals.{LooseNow}
use Rattle.m2_turn.specs.Halves.{AllHalves, halves_of}
use Rattle.m2_turn.specs.Hearing as halves
use Rattle.m2_turn.specs.Sessions.{PendingNow, peer_of}
use Rattle.m2_center.proofs.EndsHear.{hearing_stays}
use Rattle.m2_turn.proofs.Lending.{first_part, second_part}
use Rattle.m2_center.specs.Center.{CenterNow, IsCenter, supply_in}
use Rattle.m2_center.specs.Reaching.{after_hearing, all_ends_in, ends_in, has_half, rest_in}
use Rattle.m2_center.specs.RecordEnds.{has_end, records_hear}
use Rattle.m2_center.proofs.Had.{had_made}
use Rattle.m2_center.proofs.RecordsHear.{all_center_ends, center_ends, center_rest, records_stay, same_peers}

-- ---- a socket comes

-- but for those that wait the port is the same
port_kept : {E : Type 0} (r : Result (Unit {0}) E) (id : SocketId) (old new : SeenPort) → OnOk r (new ≡ with_incoming id old) → OnErr r (new ≡ old) →
    (w : Option (List SeenEnd)) × (new ≡ record old { waiting = w })
port_kept (Ok done) id old new ok err = (_, ok)
port_kept (Err e) id old new ok err = (old.waiting, err)

module _ {D E : Type 0} (was old : CenterNow D) (same : was ≡ old) (r : Result (Unit {0}) E) (id : SocketId) (new : SeenPort)
    (ok : OnOk r (new ≡ with_incoming id was.port)) (err : OnErr r (new ≡ was.port)) where
  abbrev came : CenterNow D
  came = record was { port = new }

  pub came_center : IsCenter was → IsCenter came
  came_center is =
      let k = port_kept r id was.port new ok err in
      subst (λ (p : SeenPort). IsCenter (record was { port = p })) (sym k.1) (record { consistent = is.consistent; out = is.out; queued = is.queued })

  pub came_ok : OnOk r (came ≡ record old { port = with_incoming id old.port })
  came_ok = at r ok
    where
      at : (s : Result (Unit {0}) E) → OnOk s (new ≡ with_incoming id was.port) → OnOk s (came ≡ record old { port = with_incoming id old.port })
      at (Ok done) h = subst (λ (o : CenterNow D). came ≡ record o { port = with_incoming id o.port }) same (ap (λ (p : SeenPort). record was { port = p }) h)
      at (Err e) h = tt

  pub came_err : OnErr r (came ≡ old)
  came_err = at r err
    where
      at : (s : Result (Unit {0}) E) → OnErr s (new ≡ was.port) → OnErr s (came ≡ old)
      at (Ok done) h = tt
      at (Err e) h = ap (λ (p : SeenPort). record was { port = p }) h ∙ same

  pub came_rest : rest_in came ≡ rest_in old
  came_rest = ap (λ (p : SeenPort). rest_in (record was { port = p })) ((port_kept r id was.port new ok err).1) ∙ ap rest_in same

pub known_made : {D : Type 0} (was old : CenterNow D) (same : was ≡ old) (id : SocketId) → AllByRecursion IsRecord was.records → IsCenter was →
    is_among id (ids_of (ends_in old)) ≡ true → is_among id old.port.made ≡ true
known_made {D} was old same id are is =
    subst (λ (o : CenterNow D). is_among id (ids_of (ends_in o)) ≡ true → is_among id o.port.made ≡ true) same
    (had_made id was.port.made (supply_in was) was.entity was.records was.halves are is.consistent)

-- ---- its port is polled

module _ {D : Type 0} (was old : CenterNow D) (same : was ≡ old) (new : SeenPort) (stays : new ≡ with_poll new.faults was.port) where
  abbrev polled : CenterNow D
  polled = record was { port = new }

  pub polled_center : IsCenter was → IsCenter polled
  polled_center is =
      subst (λ (p : SeenPort). IsCenter (record was { port = p })) (sym stays) (record { consistent = is.consistent; out = is.out; queued = is.queued })

  pub polled_stays : polled ≡ record old { port = with_poll new.faults old.port }
  polled_stays = subst (λ (o : CenterNow D). polled ≡ record o { port = with_poll new.faults o.port }) same (ap (λ (p : SeenPort). record was { port = p }) stays)

pub polled_causes : {D : Type 0} (was old : CenterNow D) (same : was ≡ old) (r : Result (Unit {0}) Failed) (n : ℕ) → HasCause r was.port.faults n →
    HasCause r old.port.faults n
polled_causes {D} was old same r n = subst (λ (o : CenterNow D). HasCause r o.port.faults n) same

-- ---- an end is told something

center_stays : {D : Type 0} (id : SocketId) (news : News) (bytes : List ℕ) (c : CenterNow D) → IsCenter c → IsCenter (after_hearing id news bytes c)
center_stays {D} id news bytes c is = at (list_any (has_end id) c.records) (has_half id c.halves)
  where
    at : (b h : Bool) → IsCenter {D = D}
        (if b then record c { records = records_hear id news bytes c.records } else (if h then record c { halves = halves.after_hearing id news bytes c.halves } else record c { port = with_news id news bytes c.port }))
    at true h = record { consistent = records_stay id news bytes (supply_in c) c.entity c.port.made c.records c.halves is.consistent; out = is.out; queued = is.queued }
    at false true = record { consistent = hearing_stays (supply_in c) c.entity c.port.made c.records id news bytes c.halves is.consistent; out = is.out; queued = is.queued }
    at false false = record { consistent = is.consistent; out = is.out; queued = is.queued }

module _ {D E : Type 0} (was old : CenterNow D) (same : was ≡ old) (r : Result (Unit {0}) E) (id : SocketId) (news : News) (bytes : List ℕ) (new : CenterNow D)
    (ok : OnOk r (new ≡ after_hearing id news bytes was)) (err : OnErr r (new ≡ was)) where
  abbrev hears : SeenEnd → SeenEnd
  hears = after_news news bytes

  pub heard_center : IsCenter was → IsCenter new
  heard_center is = at r ok err
    where
      at : (s : Result (Unit {0}) E) → OnOk s (new ≡ after_hearing id news bytes was) → OnErr s (new ≡ was) → IsCenter new
      at (Ok done) h e = subst (λ (c : CenterNow D). IsCenter c) (sym h) (center_stays id news bytes was is)
      at (Err x) h e = subst (λ (c : CenterNow D). IsCenter c) (sym e) is

  pub heard_ok : OnOk r (new ≡ after_hearing id news bytes old)
  heard_ok = at r ok
    where
      at : (s : Result (Unit {0}) E) → OnOk s (new ≡ after_hearing id news bytes was) → OnOk s (new ≡ after_hearing id news bytes old)
      at (Ok done) h = h ∙ ap (after_hearing id news bytes) same
      at (Err x) h = tt

  pub heard_ends : OnOk r (ends_in new ≡ one_hears id hears (ends_in old))
  heard_ends = at r heard_ok
    where
      at : (s : Result (Unit {0}) E) → OnOk s (new ≡ after_hearing id news bytes old) → OnOk s (ends_in new ≡ one_hears id hears (ends_in old))
      at (Ok done) h = ap ends_in h ∙ center_ends id news bytes old
      at (Err x) h = tt

  pub heard_all : OnOk r (all_ends_in new ≡ one_hears id hears (all_ends_in old))
  heard_all = at r heard_ok
    where
      at : (s : Result (Unit {0}) E) → OnOk s (new ≡ after_hearing id news bytes old) → OnOk s (all_ends_in new ≡ one_hears id hears (all_ends_in old))
      at (Ok done) h = ap all_ends_in h ∙ all_center_ends id news bytes old
      at (Err x) h = tt

  pub heard_err : OnErr r (new ≡ old)
  heard_err = at r err
    where
      at : (s : Result (Unit {0}) E) → OnErr s (new ≡ was) → OnErr s (new ≡ old)
      at (Ok done) h = tt
      at (Err x) h = h ∙ same

  pub heard_rest : rest_in new ≡ rest_in old
  heard_rest = at r heard_ok heard_err
    where
      at : (s : Result (Unit {0}) E) → OnOk s (new ≡ after_hearing id news bytes old) → OnErr s (new ≡ old) → rest_in new ≡ rest_in old
      at (Ok done) h e = ap rest_in h ∙ center_rest id news bytes old
      at (Err x) h e = ap rest_in e

-- ---- which of them it is

module _ {D : Type 0} (id : SocketId) (news : News) (bytes : List ℕ) (was : CenterNow D) where
  abbrev by : Bool → Bool → CenterNow D
  by b h =
      if b then record was { records = records_hear id news bytes was.records }
      else (if h then record was { halves = halves.after_hearing id news bytes was.halves } else record was { port = with_news id news bytes was.port })

  told : (b h : Bool) → list_any (has_end id) was.records ≡ b → has_half id was.halves ≡ h → by b h ≡ after_hearing id news bytes was
  told b h any half = sym (ap (λ x. by x (has_half id was.halves)) any ∙ ap (λ x. by b x) half)

  pub record_told : {E : Type 0} (r : Result (Unit {0}) E) (rs : List RecordNow) → list_any (has_end id) was.records ≡ true → OnOk r (rs ≡ records_hear id news bytes was.records) →
      OnOk r (record was { records = rs } ≡ after_hearing id news bytes was)
  record_told (Ok done) rs any h = ap (λ (l : List RecordNow). record was { records = l }) h ∙ told true (has_half id was.halves) any refl
  record_told (Err e) rs any h = tt

  pub record_untold : {E : Type 0} (r : Result (Unit {0}) E) (rs : List RecordNow) → OnErr r (rs ≡ was.records) → OnErr r (record was { records = rs } ≡ was)
  record_untold (Ok done) rs h = tt
  record_untold (Err e) rs h = ap (λ (l : List RecordNow). record was { records = l }) h

  pub half_told : {E : Type 0} (r : Result (Unit {0}) E) (hs : AllHalves) → list_any (has_end id) was.records ≡ false → has_half id was.halves ≡ true → OnOk r (hs ≡ halves.after_hearing id news bytes was.halves) →
      OnOk r (record was { halves = hs } ≡ after_hearing id news bytes was)
  half_told (Ok done) hs any half h = ap (λ (l : AllHalves). record was { halves = l }) h ∙ told false true any half
  half_told (Err e) hs any half h = tt

  pub half_untold : {E : Type 0} (r : Result (Unit {0}) E) (ps : List PendingNow) (ls : List LooseNow) → OnErr r ((ps ≡ was.halves.pending) × (ls ≡ was.halves.loose)) →
      OnErr r (record was { halves = halves_of ps ls } ≡ was)
  half_untold (Ok done) ps ls h = tt
  half_untold (Err e) ps ls h =
      ap (λ (l : List PendingNow). record was { halves = halves_of l ls }) h.0 ∙ ap (λ (l : List LooseNow). record was { halves = halves_of was.halves.pending l }) h.1

  pub port_told : {E : Type 0} (r : Result (Unit {0}) E) (p : SeenPort) → list_any (has_end id) was.records ≡ false → has_half id was.halves ≡ false → OnOk r (p ≡ with_news id news bytes was.port) →
      OnOk r (record was { port = p } ≡ after_hearing id news bytes was)
  port_told (Ok done) p any half h = ap (λ (l : SeenPort). record was { port = l }) h ∙ told false false any half
  port_told (Err e) p any half h = tt

  pub port_untold : {E : Type 0} (r : Result (Unit {0}) E) (p : SeenPort) → OnErr r (p ≡ was.port) → OnErr r (record was { port = p } ≡ was)
  port_untold (Ok done) p h = tt
  port_untold (Err e) p h = ap (λ (l : SeenPort). record was { port = l }) h

-- ---- by whose end it is

module _ {D E : Type 0} (was old : CenterNow D) (same : was ≡ old) (r : Result (Unit {0}) E) (id : SocketId) (news : News) (bytes : List ℕ) where
  -- a center after the answer: as it hears, or as it was
  abbrev Hears : CenterNow D → Type 0
  Hears new = OnOk r (new ≡ after_hearing id news bytes was) × OnErr r (new ≡ was)

  pub by_record : (rs ss : List RecordNow) → ss ≡ was.records → list_any (has_end id) ss ≡ true → OnOk r (rs ≡ records_hear id news bytes was.records) → OnErr r (rs ≡ was.records) →
      Hears (record was { records = rs })
  by_record rs ss these any ok err =
      (record_told id news bytes was r rs (ap (list_any (has_end id)) (sym these) ∙ any) ok, record_untold id news bytes was r rs err)

  pub by_half : (ps : List PendingNow) (ls ms : List LooseNow) (ss : List RecordNow) → ss ≡ was.records → list_any (has_end id) ss ≡ false → ms ≡ was.halves.loose →
      has_half id (halves_of was.halves.pending ms) ≡ true →
      OnOk r (halves_of ps ls ≡ halves.after_hearing id news bytes was.halves) → OnErr r ((ps ≡ was.halves.pending) × (ls ≡ was.halves.loose)) → Hears (record was { halves = halves_of ps ls })
  by_half ps ls ms ss these any those half ok err = (
    half_told id news bytes was r (halves_of ps ls) (ap (list_any (has_end id)) (sym these) ∙ any)
        (ap (λ (m : List LooseNow). has_half id (halves_of was.halves.pending m)) (sym those) ∙ half) ok,
    half_untold id news bytes was r ps ls err,
  )

  pub by_port : (p : SeenPort) (ms : List LooseNow) (ss : List RecordNow) → ss ≡ was.records → list_any (has_end id) ss ≡ false → ms ≡ was.halves.loose →
      has_half id (halves_of was.halves.pending ms) ≡ false →
      OnOk r (p ≡ with_news id news bytes was.port) → OnErr r (p ≡ was.port) → Hears (record was { port = p })
  by_port p ms ss these any those half ok err = (
    port_told id news bytes was r p (ap (list_any (has_end id)) (sym these) ∙ any)
        (ap (λ (m : List LooseNow). has_half id (halves_of was.halves.pending m)) (sym those) ∙ half) ok,
    port_untold id news bytes was r p err,
  )

-- the peers of the records stay
pub peers_stay : {E : Type 0} (r : Result (Unit {0}) E) (id : SocketId) (news : News) (bytes : List ℕ) (rs ss : List RecordNow) → OnOk r (ss ≡ records_hear id news bytes rs) → OnErr r (ss ≡ rs) →
    map peer_of rs ≡ map peer_of ss
peers_stay (Ok done) id news bytes rs ss ok err = sym (ap (map peer_of) ok ∙ same_peers id news bytes rs)
peers_stay (Err e) id news bytes rs ss ok err = sym (ap (map peer_of) err)

-- ---- halves

-- one of these ends is of the socket
is_found : (id : SocketId) (xs : List SeenEnd) → is_some (option_map (λ (e : SeenEnd). e.log) (end_at xs id)) ≡ list_any (λ (e : SeenEnd). same_socket id e.id) xs
is_found id [] = refl
is_found id (x ∷ xs) = at (same_socket id x.id) (is_found id xs)
  where
    at : (b : Bool) → is_some (option_map (λ (e : SeenEnd). e.log) (end_at xs id)) ≡ list_any (λ (e : SeenEnd). same_socket id e.id) xs →
        is_some (option_map (λ (e : SeenEnd). e.log) (if b then Some x else end_at xs id)) ≡ b || list_any (λ (e : SeenEnd). same_socket id e.id) xs
    at true rest = refl
    at false rest = rest

pub has_found : {T : Type 0} (o : Option T) (f : T → Log) (id : SocketId) (xs : List SeenEnd) → option_map f o ≡ option_map (λ (e : SeenEnd). e.log) (end_at xs id) →
    is_some o ≡ list_any (λ (e : SeenEnd). same_socket id e.id) xs
has_found (Some x) f id xs h = ap is_some h ∙ is_found id xs
has_found None f id xs h = ap is_some h ∙ is_found id xs

told_count : {T : Type 0} (passes : T → Bool) (tells : T → T) (xs : List T) → length (halves.first_told passes tells xs) ≡ length xs
told_count passes tells [] = refl
told_count {T} passes tells (x ∷ xs) = at (passes x) (told_count passes tells xs)
  where
    at : (b : Bool) → length (halves.first_told passes tells xs) ≡ length xs → length (if b then tells x ∷ xs else x ∷ halves.first_told passes tells xs) ≡ length (x ∷ xs)
    at true rest = refl
    at false rest = ap (λ n. suc n) rest

-- there are as many
pub half_count : {E : Type 0} (r : Result (Unit {0}) E) (id : SocketId) (news : News) (bytes : List ℕ) (old new : AllHalves) → OnOk r (new ≡ halves.after_hearing id news bytes old) →
    OnErr r ((new.pending ≡ old.pending) × (new.loose ≡ old.loose)) → length new.pending ≡ length old.pending
half_count (Ok done) id news bytes old new ok err = ap (λ (h : AllHalves). length h.pending) ok ∙ at (list_any (halves.is_on id) old.pending)
  where
    at : (b : Bool) → length
        (if b then record old { pending = halves.first_told (halves.is_on id) (halves.pending_told news bytes) old.pending }
        else record old { loose = halves.first_told (halves.is_loose_on id) (halves.loose_told news bytes) old.loose }).pending
        ≡ length old.pending
    at true = told_count (halves.is_on id) (halves.pending_told news bytes) old.pending
    at false = refl
half_count (Err e) id news bytes old new ok err = ap length err.0

-- ---- what is known by other names

pub by_both : {X Y : Type 0} (P : X → Y → Type 0) (a b : X) (c d : Y) → a ≡ b → c ≡ d → P a c → P b d
by_both P a b c d x y h = subst (λ z. P z d) x (subst (λ z. P a z) y h)

-- ---- the log of an end

abbrev log_at : List SeenEnd → SocketId → Option Log
log_at es id = option_map (λ (e : SeenEnd). e.log) (end_at es id)

module _ {D : Type 0} (was old : CenterNow D) (same : was ≡ old) (id : SocketId) (rs : List RecordNow) (these : rs ≡ was.records) where
  pub log_of_records : (l : Log) → Some l ≡ log_at (flat_map ends_of rs) id → Some l ≡ log_at (ends_in old) id
  log_of_records l h =
      first_part (flat_map ends_of rs) (halves.ends_in was.halves) id l h
      ∙ ap (λ (x : List RecordNow). log_at (flat_map ends_of x ++ halves.ends_in was.halves) id) these
      ∙ ap (λ (c : CenterNow D). log_at (ends_in c) id) same

  pub log_of_halves : (o : Option Log) (ls : List LooseNow) → ls ≡ was.halves.loose → None ≡ log_at (flat_map ends_of rs) id →
      o ≡ log_at (halves.ends_in (halves_of was.halves.pending ls)) id → o ≡ log_at (ends_in old) id
  log_of_halves o ls those none h =
      h ∙ ap (λ (x : List LooseNow). log_at (halves.ends_in (halves_of was.halves.pending x)) id) those
      ∙ second_part (flat_map ends_of rs) (halves.ends_in was.halves) id none
      ∙ ap (λ (x : List RecordNow). log_at (flat_map ends_of x ++ halves.ends_in was.halves) id) these
      ∙ ap (λ (c : CenterNow D). log_at (ends_in c) id) same
