-- Where an end of a record hears of the other side, all else of the record stays, and so do the sessions; and the ends are those with
-- one told.
use Rattle.std.proofs.Common.{◌≡◌, ℕ, Bool, true, false, ◌||◌, if◌then◌else◌, List, [], ◌∷◌, ◌++◌, map, Option, Some, None, Result, Ok, Err, OnOk, OnErr, refl, sym, ap, ◌∙◌, append_assoc}
use Rattle.std.specs.List.{AllByRecursion, flat_map, list_any}
use Rattle.std.specs.Option.{option_map}
use Rattle.m2_addr.specs.declared.addr.Addr.{Addr}
use Rattle.m2_record.specs.m2_core.LiveCalls.{live_with}
use Rattle.m2_record.specs.m2_core.OnFeed.{feed_after_news}
use Rattle.m2_fabric.specs.declared.end.News.{News}
use Rattle.m2_fabric.specs.declared.socket.SocketId.{SocketId}
use Rattle.m2_fabric.specs.End.{SeenEnd, after_news}
use Rattle.m2_fabric.specs.Port.{one_hears, with_news}
use Rattle.m2_fabric.specs.Sockets.{is_among, same_socket}
use Rattle.m2_turn.specs.m2_feed.FeedNow.{FeedNow}
use Rattle.m2_journal.specs.declared.entry.Entry.{Entry}
use Rattle.m2_journal.specs.Lawful.{judged_on}
use Rattle.m2_journal.specs.SideFacts.{SideFacts}
use Rattle.m2_record.specs.Calls as record_
use Rattle.m2_record.specs.Due.{on_feed}
use Rattle.m2_record.specs.RecordNow.{RecordNow, ends_of, feed_end, ids_of}
use Rattle.m2_record.specs.TakenTrails.{judgements_in}
use Rattle.m2_turn.specs.Beside.{AllKeepCallers, KeepsCallers}
use Rattle.m2_center.specs.Center.{CenterNow}
use Rattle.m2_turn.specs.Halves.{AllHalves, sessions_with}
use Rattle.m2_turn.specs.Hearing as halves
use Rattle.m2_center.specs.Reaching.{after_hearing, all_ends_in, ends_in, ends_or_none, has_half, rest_in, untold, untold_feed, untold_half, untold_loose, untold_record}
use Rattle.m2_center.specs.RecordEnds.{has_end, records_hear}
use Rattle.m2_trail.specs.Arrivals.{LooseNow}
use Rattle.m2_turn.specs.Sessions.{PendingNow, AreConsistent, IsSupplied, Supply, is_asker, peer_of}
use Rattle.m2_center.proofs.EndsHear.{heard_ends}
use Rattle.m2_turn.proofs.Told.{all_the_same, none_made, nothing_told_on, stay}
use Rattle.m2_bytes.proofs.m2_lemmas.Booleans.{false_isnt_true, or_assoc}

-- ---- ends in a list

module _ (id : SocketId) (hears : SeenEnd → SeenEnd) where
  -- the one that hears is among the first
  pub hears_first : (xs ys : List SeenEnd) → is_among id (ids_of xs) ≡ true → one_hears id hears (xs ++ ys) ≡ one_hears id hears xs ++ ys
  hears_first [] ys any = absurd (false_isnt_true any)
  hears_first (x ∷ xs) ys any = at (same_socket id x.id) any (λ h. hears_first xs ys h)
    where
      at : (b : Bool) → b || is_among id (ids_of xs) ≡ true → (is_among id (ids_of xs) ≡ true → one_hears id hears (xs ++ ys) ≡ one_hears id hears xs ++ ys) →
          (if b then hears x ∷ (xs ++ ys) else x ∷ one_hears id hears (xs ++ ys)) ≡ (if b then hears x ∷ xs else x ∷ one_hears id hears xs) ++ ys
      at true h rest = refl
      at false h rest = ap (λ l. x ∷ l) (rest h)

  -- it is behind them
  pub hears_later : (xs ys : List SeenEnd) → is_among id (ids_of xs) ≡ false → one_hears id hears (xs ++ ys) ≡ xs ++ one_hears id hears ys
  hears_later [] ys none = refl
  hears_later (x ∷ xs) ys none = at (same_socket id x.id) none (λ h. hears_later xs ys h)
    where
      at : (b : Bool) → b || is_among id (ids_of xs) ≡ false → (is_among id (ids_of xs) ≡ false → one_hears id hears (xs ++ ys) ≡ xs ++ one_hears id hears ys) →
          (if b then hears x ∷ (xs ++ ys) else x ∷ one_hears id hears (xs ++ ys)) ≡ x ∷ (xs ++ one_hears id hears ys)
      at true h rest = absurd (false_isnt_true (sym h))
      at false h rest = ap (λ l. x ∷ l) (rest h)

  -- none hears
  none_hears : (xs : List SeenEnd) → list_any (λ (e : SeenEnd). same_socket id e.id) xs ≡ false → one_hears id hears xs ≡ xs
  none_hears [] none = refl
  none_hears (x ∷ xs) none = at (same_socket id x.id) none (λ h. none_hears xs h)
    where
      at : (b : Bool) → b || list_any (λ (e : SeenEnd). same_socket id e.id) xs ≡ false → (list_any (λ (e : SeenEnd). same_socket id e.id) xs ≡ false → one_hears id hears xs ≡ xs) →
          (if b then hears x ∷ xs else x ∷ one_hears id hears xs) ≡ x ∷ xs
      at true h rest = absurd (false_isnt_true (sym h))
      at false h rest = ap (λ l. x ∷ l) (rest h)

  ids_hear : ((e : SeenEnd) → (hears e).id ≡ e.id) → (xs : List SeenEnd) → ids_of (one_hears id hears xs) ≡ ids_of xs
  ids_hear same [] = refl
  ids_hear same (x ∷ xs) = at (same_socket id x.id) (ids_hear same xs)
    where
      at : (b : Bool) → ids_of (one_hears id hears xs) ≡ ids_of xs → ids_of (if b then hears x ∷ xs else x ∷ one_hears id hears xs) ≡ x.id ∷ ids_of xs
      at true rest = ap (λ k. k ∷ ids_of xs) (same x)
      at false rest = ap (λ l. x.id ∷ l) rest

-- ---- which of them is of a socket

pub among_both : (id : SocketId) (xs ys : List SeenEnd) → is_among id (ids_of (xs ++ ys)) ≡ is_among id (ids_of xs) || is_among id (ids_of ys)
among_both id [] ys = refl
among_both id (x ∷ xs) ys =
    ap (λ b. same_socket id x.id || b) (among_both id xs ys) ∙ sym (or_assoc (same_socket id x.id) (is_among id (ids_of xs)) (is_among id (ids_of ys)))

among_records : (id : SocketId) (rs : List RecordNow) → is_among id (ids_of (flat_map ends_of rs)) ≡ list_any (has_end id) rs
among_records id [] = refl
among_records id (r ∷ rs) = among_both id (ends_of r) (flat_map ends_of rs) ∙ ap (λ b. has_end id r || b) (among_records id rs)

pub among_ends : (id : SocketId) (xs : List SeenEnd) → is_among id (ids_of xs) ≡ list_any (λ (e : SeenEnd). same_socket id e.id) xs
among_ends id [] = refl
among_ends id (x ∷ xs) = ap (λ b. same_socket id x.id || b) (among_ends id xs)

-- it isn't the feed, so it has an end of the socket where one of those that were it is
pub has_so : (id : SocketId) (r : RecordNow) (b : Bool) → list_any (λ (e : SeenEnd). same_socket id e.id) (feed_end r.core.live.feed) ≡ false →
    b ≡ list_any (λ (e : SeenEnd). same_socket id e.id) r.spent → b ≡ has_end id r
has_so id r b none is =
    is ∙ sym (among_ends id r.spent)
    ∙ sym (ap (λ x. x || is_among id (ids_of r.spent)) (among_ends id (feed_end r.core.live.feed) ∙ none))
    ∙ sym (among_both id (feed_end r.core.live.feed) r.spent)

pub among_center : {D : Type 0} (id : SocketId) (c : CenterNow D) → is_among id (ids_of (ends_in c)) ≡ list_any (has_end id) c.records || has_half id c.halves
among_center id c =
    among_both id (flat_map ends_of c.records) (halves.ends_in c.halves)
    ∙ ap (λ b. b || is_among id (ids_of (halves.ends_in c.halves))) (among_records id c.records)
    ∙ ap (λ b. list_any (has_end id) c.records || b) (among_ends id (halves.ends_in c.halves))

-- nothing was told
pub here_untold : {E : Type 0} (a : Result (Unit {0}) E) (all : List RecordNow) (r s : RecordNow) (rs : List RecordNow) → all ≡ r ∷ rs → OnErr a (s ≡ r) → OnErr a (s ∷ rs ≡ all)
here_untold (Ok done) all r s rs e h = tt
here_untold (Err x) all r s rs e h = ap (λ y. y ∷ rs) h ∙ sym e

pub later_untold : {E : Type 0} (a : Result (Unit {0}) E) (all : List RecordNow) (r : RecordNow) (rs ss : List RecordNow) → all ≡ r ∷ rs → OnErr a (ss ≡ rs) → OnErr a (r ∷ ss ≡ all)
later_untold (Ok done) all r rs ss e h = tt
later_untold (Err x) all r rs ss e h = ap (λ l. r ∷ l) h ∙ sym e

-- ---- one record

module _ (id : SocketId) (news : News) (bytes : List ℕ) where
  abbrev hears : SeenEnd → SeenEnd
  hears = after_news news bytes

  abbrev heard : RecordNow → RecordNow
  heard r = record_.after_news id news bytes r

  -- its feed hears, or one that was it
  abbrev on_its_feed : RecordNow → RecordNow
  on_its_feed r = record r { core = record r.core { live = live_with (feed_after_news news bytes r.core.live.feed) r.core.live } }

  abbrev on_one_spent : RecordNow → RecordNow
  on_one_spent r = record r { spent = one_hears id hears r.spent }

  feed_hears : (o : Option FeedNow) (spent : List SeenEnd) →
      (if on_feed (λ v. same_socket id v.end.id) o then feed_end (feed_after_news news bytes o) ++ spent else feed_end o ++ one_hears id hears spent) ≡ one_hears id hears (feed_end o ++ spent)
  feed_hears None spent = refl
  feed_hears (Some v) spent = at (same_socket id v.end.id)
    where
      at : (b : Bool) → (if b then hears v.end ∷ spent else v.end ∷ one_hears id hears spent) ≡ (if b then hears v.end ∷ spent else v.end ∷ one_hears id hears spent)
      at b = refl

  record_ends : (r : RecordNow) → ends_of (heard r) ≡ one_hears id hears (ends_of r)
  record_ends r = at (record_.is_feed id r) ∙ feed_hears r.core.live.feed r.spent
    where
      at : (b : Bool) → ends_of (if b then on_its_feed r else on_one_spent r)
          ≡ (if b then feed_end (feed_after_news news bytes r.core.live.feed) ++ r.spent else feed_end r.core.live.feed ++ one_hears id hears r.spent)
      at true = refl
      at false = refl

  same_facts : (r : RecordNow) → (heard r).core.facts ≡ r.core.facts
  same_facts r = at (record_.is_feed id r)
    where
      at : (b : Bool) → (if b then on_its_feed r else on_one_spent r).core.facts ≡ r.core.facts
      at true = refl
      at false = refl

  same_journal : (r : RecordNow) → (heard r).journal ≡ r.journal
  same_journal r = at (record_.is_feed id r)
    where
      at : (b : Bool) → (if b then on_its_feed r else on_one_spent r).journal ≡ r.journal
      at true = refl
      at false = refl

  heard_told : (made : List SocketId) (r : RecordNow) → KeepsCallers made r (heard r)
  heard_told made r = record {
    facts = same_facts r;
    told = (λ c among t. record {
      entity = t.entity ∙ sym (ap (λ (f : SideFacts). f.node.entity) (same_facts r));
      new = ap (is_among c.socket) (ap ids_of (record_ends r) ∙ ids_hear id hears (λ e. refl) (ends_of r)) ∙ t.new;
      judged = ap (λ (f : SideFacts). if is_asker c.asker f.peer then c.judged else []) (same_facts r) ∙ t.judged
          ∙ sym (ap (λ (j : List Entry). judged_on c.socket (judgements_in j)) (same_journal r));
    });
  }

  heard_supplied : (s : Supply) (made : List SocketId) (r : RecordNow) → IsSupplied s made r → IsSupplied s made (heard r)
  heard_supplied s made r is = at (record_.is_feed id r)
    where
      at : (b : Bool) → IsSupplied s made (if b then on_its_feed r else on_one_spent r)
      at true = record { owned = record { feed = is.owned.feed; parcels = is.owned.parcels }; top = is.top; made = is.made }
      at false = record { owned = record { feed = is.owned.feed; parcels = is.owned.parcels }; top = is.top; made = is.made }

  -- ---- all records

  all_told : (made : List SocketId) (rs : List RecordNow) → AllKeepCallers made rs (records_hear id news bytes rs)
  all_told made [] = tt
  all_told made (r ∷ rs) = at (has_end id r) (all_told made rs)
    where
      at : (b : Bool) → AllKeepCallers made rs (records_hear id news bytes rs) → AllKeepCallers made (r ∷ rs) (if b then heard r ∷ rs else r ∷ records_hear id news bytes rs)
      at true rest = (heard_told made r, all_the_same made rs)
      at false rest = (nothing_told_on made r, rest)

  all_supplied : (s : Supply) (made : List SocketId) (rs : List RecordNow) → AllByRecursion (IsSupplied s made) rs → AllByRecursion (IsSupplied s made) (records_hear id news bytes rs)
  all_supplied s made [] all = tt
  all_supplied s made (r ∷ rs) all = at (has_end id r) (all_supplied s made rs all.1)
    where
      at : (b : Bool) → AllByRecursion (IsSupplied s made) (records_hear id news bytes rs) → AllByRecursion (IsSupplied s made) (if b then heard r ∷ rs else r ∷ records_hear id news bytes rs)
      at true rest = (heard_supplied s made r all.0, all.1)
      at false rest = (all.0, rest)

  pub same_peers : (rs : List RecordNow) → map peer_of (records_hear id news bytes rs) ≡ map peer_of rs
  same_peers [] = refl
  same_peers (r ∷ rs) = at (has_end id r) (same_peers rs)
    where
      at : (b : Bool) → map peer_of (records_hear id news bytes rs) ≡ map peer_of rs → map peer_of (if b then heard r ∷ rs else r ∷ records_hear id news bytes rs) ≡ peer_of r ∷ map peer_of rs
      at true rest = ap (λ (f : SideFacts). f.peer ∷ map peer_of rs) (same_facts r)
      at false rest = ap (λ (l : List Addr). peer_of r ∷ l) rest

  pub records_stay : (s : Supply) (entity : ℕ) (made : List SocketId) (rs : List RecordNow) (h : AllHalves) →
      AreConsistent s entity (sessions_with made rs h) → AreConsistent s entity (sessions_with made (records_hear id news bytes rs) h)
  records_stay s entity made rs h was =
      stay (record { supply = s; made = made; records = rs }) (record { supply = s; made = made; records = records_hear id news bytes rs })
      (none_made made) (all_supplied s made rs was.records) (all_told made rs) entity h.pending h.loose was

  -- the first of them is told, or another
  pub here_told : {E : Type 0} (a : Result (Unit {0}) E) (all : List RecordNow) (r s : RecordNow) (rs : List RecordNow) → all ≡ r ∷ rs → has_end id r ≡ true → OnOk a (s ≡ heard r) → OnOk a (s ∷ rs ≡ records_hear id news bytes all)
  here_told (Ok done) all r s rs e has h =
      ap (λ x. x ∷ rs) h ∙ sym (ap (λ b. if b then heard r ∷ rs else r ∷ records_hear id news bytes rs) has) ∙ sym (ap (records_hear id news bytes) e)
  here_told (Err x) all r s rs e has h = tt

  pub later_told : {E : Type 0} (a : Result (Unit {0}) E) (all : List RecordNow) (r : RecordNow) (rs ss : List RecordNow) → all ≡ r ∷ rs → has_end id r ≡ false → OnOk a (ss ≡ records_hear id news bytes rs) →
      OnOk a (r ∷ ss ≡ records_hear id news bytes all)
  later_told (Ok done) all r rs ss e has h =
      ap (λ l. r ∷ l) h ∙ sym (ap (λ b. if b then heard r ∷ rs else r ∷ records_hear id news bytes rs) has) ∙ sym (ap (records_hear id news bytes) e)
  later_told (Err x) all r rs ss e has h = tt

  -- ---- the ends of all

  ends_told : (rs : List RecordNow) (ys : List SeenEnd) → list_any (has_end id) rs ≡ true → flat_map ends_of (records_hear id news bytes rs) ++ ys ≡ one_hears id hears (flat_map ends_of rs ++ ys)
  ends_told [] ys any = absurd (false_isnt_true any)
  ends_told (r ∷ rs) ys any = at (has_end id r) refl any (λ h. ends_told rs ys h)
    where
      parts : (xs zs : List SeenEnd) → (xs ++ zs) ++ ys ≡ xs ++ (zs ++ ys)
      parts xs zs = append_assoc xs zs ys

      at : (b : Bool) → has_end id r ≡ b → b || list_any (has_end id) rs ≡ true →
          (list_any (has_end id) rs ≡ true → flat_map ends_of (records_hear id news bytes rs) ++ ys ≡ one_hears id hears (flat_map ends_of rs ++ ys)) →
          flat_map ends_of (if b then heard r ∷ rs else r ∷ records_hear id news bytes rs) ++ ys ≡ one_hears id hears ((ends_of r ++ flat_map ends_of rs) ++ ys)
      at true has h rest =
          parts (ends_of (heard r)) (flat_map ends_of rs)
          ∙ ap (λ l. l ++ (flat_map ends_of rs ++ ys)) (record_ends r)
          ∙ sym (hears_first id hears (ends_of r) (flat_map ends_of rs ++ ys) has)
          ∙ sym (ap (one_hears id hears) (parts (ends_of r) (flat_map ends_of rs)))
      at false has h rest =
          parts (ends_of r) (flat_map ends_of (records_hear id news bytes rs))
          ∙ ap (λ l. ends_of r ++ l) (rest h)
          ∙ sym (hears_later id hears (ends_of r) (flat_map ends_of rs ++ ys) has)
          ∙ sym (ap (one_hears id hears) (parts (ends_of r) (flat_map ends_of rs)))

  ends_passed : (rs : List RecordNow) (ys : List SeenEnd) → list_any (has_end id) rs ≡ false → flat_map ends_of rs ++ one_hears id hears ys ≡ one_hears id hears (flat_map ends_of rs ++ ys)
  ends_passed [] ys none = refl
  ends_passed (r ∷ rs) ys none = at (has_end id r) refl none (λ h. ends_passed rs ys h)
    where
      at : (b : Bool) → has_end id r ≡ b → b || list_any (has_end id) rs ≡ false →
          (list_any (has_end id) rs ≡ false → flat_map ends_of rs ++ one_hears id hears ys ≡ one_hears id hears (flat_map ends_of rs ++ ys)) →
          (ends_of r ++ flat_map ends_of rs) ++ one_hears id hears ys ≡ one_hears id hears ((ends_of r ++ flat_map ends_of rs) ++ ys)
      at true has h rest = absurd (false_isnt_true (sym h))
      at false has h rest =
          append_assoc (ends_of r) (flat_map ends_of rs) (one_hears id hears ys)
          ∙ ap (λ l. ends_of r ++ l) (rest h)
          ∙ sym (hears_later id hears (ends_of r) (flat_map ends_of rs ++ ys) has)
          ∙ sym (ap (one_hears id hears) (append_assoc (ends_of r) (flat_map ends_of rs) ys))

  half_ends : (h : AllHalves) → halves.ends_in (halves.after_hearing id news bytes h) ≡ one_hears id hears (halves.ends_in h)
  half_ends h = heard_ends {E = Unit {0}} (Ok tt) id news bytes h (halves.after_hearing id news bytes h) refl

  pub center_ends : {D : Type 0} (c : CenterNow D) → ends_in (after_hearing id news bytes c) ≡ one_hears id hears (ends_in c)
  center_ends {D} c = at (list_any (has_end id) c.records) (has_half id c.halves) refl refl
    where
      at : (b h : Bool) → list_any (has_end id) c.records ≡ b → has_half id c.halves ≡ h →
          ends_in {D = D} (if b then record c { records = records_hear id news bytes c.records } else (if h then record c { halves = halves.after_hearing id news bytes c.halves } else record c { port = with_news id news bytes c.port }))
          ≡ one_hears id hears (ends_in c)
      at true h any has = ends_told c.records (halves.ends_in c.halves) any
      at false true none has =
          ap (λ l. flat_map ends_of c.records ++ l) (half_ends c.halves) ∙ ends_passed c.records (halves.ends_in c.halves) none
      at false false none has =
          ap (λ l. flat_map ends_of c.records ++ l) (sym (none_hears id hears (halves.ends_in c.halves) has)) ∙ ends_passed c.records (halves.ends_in c.halves) none

  -- ---- and those that wait

  waiting_hear : (w : Option (List SeenEnd)) → ends_or_none (option_map (one_hears id hears) w) ≡ one_hears id hears (ends_or_none w)
  waiting_hear (Some es) = refl
  waiting_hear None = refl

  pub all_center_ends : {D : Type 0} (c : CenterNow D) → all_ends_in (after_hearing id news bytes c) ≡ one_hears id hears (all_ends_in c)
  all_center_ends {D} c = at (list_any (has_end id) c.records) (has_half id c.halves) refl refl (center_ends c)
    where
      W : List SeenEnd
      W = ends_or_none c.port.waiting

      has : (b h : Bool) → list_any (has_end id) c.records ≡ b → has_half id c.halves ≡ h → is_among id (ids_of (ends_in c)) ≡ b || h
      has b h any half = among_center id c ∙ ap (λ x. x || has_half id c.halves) any ∙ ap (λ x. b || x) half

      at : (b h : Bool) → list_any (has_end id) c.records ≡ b → has_half id c.halves ≡ h →
          ends_in {D = D} (if b then record c { records = records_hear id news bytes c.records } else (if h then record c { halves = halves.after_hearing id news bytes c.halves } else record c { port = with_news id news bytes c.port }))
          ≡ one_hears id hears (ends_in c) →
          all_ends_in {D = D} (if b then record c { records = records_hear id news bytes c.records } else (if h then record c { halves = halves.after_hearing id news bytes c.halves } else record c { port = with_news id news bytes c.port }))
          ≡ one_hears id hears (all_ends_in c)
      at true h any half told = ap (λ l. l ++ W) told ∙ sym (hears_first id hears (ends_in c) W (has true h any half))
      at false true any half told = ap (λ l. l ++ W) told ∙ sym (hears_first id hears (ends_in c) W (has false true any half))
      at false false any half told =
          ap (λ l. ends_in c ++ l) (waiting_hear c.port.waiting) ∙ sym (hears_later id hears (ends_in c) W (has false false any half))

  -- ---- the rest

  untold_feeds : (o : Option FeedNow) → option_map untold_feed (feed_after_news news bytes o) ≡ option_map untold_feed o
  untold_feeds (Some v) = refl
  untold_feeds None = refl

  untold_ends : (xs : List SeenEnd) → map untold (one_hears id hears xs) ≡ map untold xs
  untold_ends [] = refl
  untold_ends (x ∷ xs) = at (same_socket id x.id) (untold_ends xs)
    where
      at : (b : Bool) → map untold (one_hears id hears xs) ≡ map untold xs → map untold (if b then hears x ∷ xs else x ∷ one_hears id hears xs) ≡ untold x ∷ map untold xs
      at true rest = refl
      at false rest = ap (λ l. untold x ∷ l) rest

  untold_heard : (r : RecordNow) → untold_record (heard r) ≡ untold_record r
  untold_heard r = at (record_.is_feed id r)
    where
      at : (b : Bool) → untold_record (if b then on_its_feed r else on_one_spent r) ≡ untold_record r
      at true = ap (λ (f : Option FeedNow). record r { core = record r.core { live = live_with f r.core.live }; spent = map untold r.spent }) (untold_feeds r.core.live.feed)
      at false = ap (λ (l : List SeenEnd). record (untold_record r) { spent = l }) (untold_ends r.spent)

  untold_records : (rs : List RecordNow) → map untold_record (records_hear id news bytes rs) ≡ map untold_record rs
  untold_records [] = refl
  untold_records (r ∷ rs) = at (has_end id r) (untold_records rs)
    where
      at : (b : Bool) → map untold_record (records_hear id news bytes rs) ≡ map untold_record rs →
          map untold_record (if b then heard r ∷ rs else r ∷ records_hear id news bytes rs) ≡ untold_record r ∷ map untold_record rs
      at true rest = ap (λ x. x ∷ map untold_record rs) (untold_heard r)
      at false rest = ap (λ l. untold_record r ∷ l) rest

  untold_first : {T : Type 0} (f : T → T) (passes : T → Bool) (tells : T → T) (xs : List T) → ((x : T) → f (tells x) ≡ f x) → map f (halves.first_told passes tells xs) ≡ map f xs
  untold_first f passes tells [] so = refl
  untold_first {T} f passes tells (x ∷ xs) so = at (passes x) (untold_first f passes tells xs so)
    where
      at : (b : Bool) → map f (halves.first_told passes tells xs) ≡ map f xs → map f (if b then tells x ∷ xs else x ∷ halves.first_told passes tells xs) ≡ f x ∷ map f xs
      at true rest = ap (λ y. y ∷ map f xs) (so x)
      at false rest = ap (λ l. f x ∷ l) rest

  abbrev untold_halves : AllHalves → AllHalves
  untold_halves h = record { pending = map untold_half h.pending; loose = map untold_loose h.loose }

  untold_both : (h : AllHalves) → untold_halves (halves.after_hearing id news bytes h) ≡ untold_halves h
  untold_both h = at (list_any (halves.is_on id) h.pending)
    where
      at : (b : Bool) → untold_halves
          (if b then record h { pending = halves.first_told (halves.is_on id) (halves.pending_told news bytes) h.pending }
          else record h { loose = halves.first_told (halves.is_loose_on id) (halves.loose_told news bytes) h.loose })
          ≡ untold_halves h
      at true = ap (λ (l : List PendingNow). record (untold_halves h) { pending = l }) (untold_first untold_half (halves.is_on id) (halves.pending_told news bytes) h.pending (λ p. refl))
      at false = ap (λ (l : List LooseNow). record (untold_halves h) { loose = l }) (untold_first untold_loose (halves.is_loose_on id) (halves.loose_told news bytes) h.loose (λ l. refl))

  pub center_rest : {D : Type 0} (c : CenterNow D) → rest_in (after_hearing id news bytes c) ≡ rest_in c
  center_rest {D} c = at (list_any (has_end id) c.records) (has_half id c.halves)
    where
      at : (b h : Bool) →
          rest_in {D = D} (if b then record c { records = records_hear id news bytes c.records } else (if h then record c { halves = halves.after_hearing id news bytes c.halves } else record c { port = with_news id news bytes c.port }))
          ≡ rest_in c
      at true h = ap (λ (l : List RecordNow). record (rest_in c) { records = l }) (untold_records c.records)
      at false true = ap (λ (h : AllHalves). record (rest_in c) { halves = h }) (untold_both c.halves)
      at false false = refl
