-- What a node leaves whose threads have ended, its centers with the halves at its door and on their way, is a left node.
use Rattle.std.proofs.Common.{◌≡◌, ◌≢◌, ◌≤◌, ◌+◌, ◌⊎◌, inl, inr, ℕ, suc, true, false, List, [], ◌∷◌, ◌++◌, drop, length, map, Option, Some, refl, sym, ap, subst, ◌∙◌, arith, append_assoc, append-nil}
use Rattle.std.specs.Prelude.{slice_get}
use Rattle.std.specs.List.{AllByRecursion, IsDistinct, flat_map}
use Rattle.std.proofs.lemmas.Bool.{cases_eq}
use Rattle.std.proofs.lemmas.Grind.{flat_map-append}
use Rattle.std.proofs.lemmas.List.{map-append, take-append-drop}
use Rattle.std.proofs.lemmas.Option.{same_Some}
use Rattle.m2_addr.specs.declared.addr.Addr.{Addr}
use Rattle.m2_dispatch.specs.declared.logged.Logged.{Logged}
use Rattle.m2_fabric.proofs.Sockets.{among_front}
use Rattle.m2_fabric.specs.End.{SeenEnd}
use Rattle.m2_fabric.specs.Log.{Log}
use Rattle.m2_fabric.specs.Sockets.{goes_to, is_among}
use Rattle.m2_fabric.specs.declared.port.Cut.{Cut}
use Rattle.m2_fabric.specs.declared.socket.SocketId.{SocketId}
use Rattle.m2_handover.specs.Past.{IsDoneAgain, IsFrontOf}
use Rattle.m2_journal.specs.Lawful.{judged_on}
use Rattle.m2_journal.specs.State.{Judgement}
use Rattle.m2_journal.specs.m2_handshake.Asks.{same_addr}
use Rattle.m2_journal.specs.m2_handshake.Laws.{IsPrefix}
use Rattle.m2_node.proofs.m2_links_go_on.LinkRecords as link_records
use Rattle.m2_node.proofs.m2_links_go_on.m2_growth.Among.{among_back, among_mapped, each_by, in_part, mapped_one, of_each, one_back, one_front}
use Rattle.m2_node.proofs.m2_links_go_on.m2_growth.Asked.{end_own}
use Rattle.m2_node.proofs.m2_links_go_on.m2_growth.Ends.{end_append, first_of, on_chain, own_first}
use Rattle.m2_node.specs.m2_links_go_on.Course.{holding_in}
use Rattle.m2_node.specs.m2_links_go_on.Left.{AllCameOfPeer, CameOfPeer, IsHalfOf, IsLeftNode, IsNamed, IsRecordOf, IsSeen, IsToldBy, LeftNode, ends_left}
use Rattle.m2_node.specs.m2_links_go_on.m2_growth.Ends.{AreOfTheirOwn}
use Rattle.m2_node.specs.m2_links_go_on.m2_growth.Halves.{AskedTowards, HasItsHalves, IsOneOf, asked_on, sockets_left, sockets_taken}
use Rattle.m2_node.specs.m2_links_go_on.m2_growth.Holding.{LeadsElsewhere, all_ends}
use Rattle.m2_node.specs.m2_links_go_on.m2_growth.Records.{ends_of_all}
use Rattle.m2_node.specs.m2_links_go_on.m2_history.Link.{IsWholeHalf}
use Rattle.m2_node.specs.m2_script.m2_record.IsRecord.{IsRecord}
use Rattle.m2_node.specs.m2_script.m2_record.RecordNow.{RecordNow, ends_of, ids_of}
use Rattle.m2_node.specs.m2_script.m2_record.Sources.{end_at, got_of}
use Rattle.m2_node.specs.m2_script.m2_record.TakenTrails.{judgements_in}
use Rattle.m2_node.proofs.m2_script.m2_center.m2_turn.m2_record.Kept.{ids-append}
use Rattle.m2_node.specs.m2_script.m2_center.Center.{CenterNow}
use Rattle.m2_node.specs.m2_script.m2_center.Finishing.{rest_of}
use Rattle.m2_node.specs.m2_script.m2_center.m2_turn.Sessions.{peer_of}
use Rattle.m2_trail.specs.Arrivals.{LooseNow}
use Rattle.m2_run.proofs.JoinedCenters as center
use Rattle.m2_run.proofs.JoinedCenters.{IsLeftCenter}
use Rattle.m2_run.proofs.SideLists.{OneAt, at_one, beside, one_at, placed_beside, turned}
use Rattle.m2_run.proofs.Times.{among_times, distinct_once, once_distinct, times, times_both, times_of, times_of_two}
use Rattle.m2_run.specs.Cuts.{bound_of}
use Rattle.m2_run.specs.Kept.{AreOpened, IsOpenedAs}
use Rattle.m2_node.specs.Lists.{SideBySide, joined}
use Rattle.m2_node.specs.Nodes.{KeptNow, loose_at, made_by, records_in}
use Rattle.m2_run.specs.Once.{HasEachOnce, IsUnjudgedAt, sockets_of}

-- what a node leaves that listens at this address
abbrev pub left_at : Addr → KeptNow → LeftNode
left_at at n = record { at = at; records = records_in n.node; halves = loose_at n }

-- ---- a half, opened

module _ (bound : SocketId → Option ℕ) (l o : LooseNow) (is : IsOpenedAs bound l o) where
  opened_id : o.end.id ≡ l.end.id
  opened_id = is.inside.id ∙ sym is.over.id

  front_is : (all front : List ℕ) → IsFrontOf all front → IsPrefix front all
  front_is all front f = (drop (length front) all, sym (take-append-drop (length front) all) ∙ ap (λ xs. xs ++ drop (length front) all) f.same)

  -- what the half got is the first of what the end inside has got
  opened_got : IsPrefix l.end.log.got o.end.log.got
  opened_got = subst (λ (g : Log). IsPrefix g.got o.end.log.got) (sym is.over.log) (by is.inside.again)
    where
      by : ((o.trail ≡ l.trail) × (o.end.log ≡ is.mid.log)) ⊎ ((l.trail.judged ≡ []) × IsDoneAgain o.end.log is.mid.log) → IsPrefix is.mid.log.got o.end.log.got
      by (inl same) = ([], ap (λ (g : Log). g.got) same.1 ∙ sym (append-nil is.mid.log.got))
      by (inr again) = front_is o.end.log.got is.mid.log.got again.1.got

opened_sockets : (bound : SocketId → Option ℕ) (ls os : List LooseNow) → SideBySide (IsOpenedAs bound) ls os → sockets_of os ≡ sockets_of ls
opened_sockets bound [] [] all = refl
opened_sockets bound [] (o ∷ os) all = absurd all
opened_sockets bound (l ∷ ls) [] all = absurd all
opened_sockets bound (l ∷ ls) (o ∷ os) all = ap (λ k. k ∷ sockets_of os) (opened_id bound l o all.0) ∙ ap (λ ks. l.end.id ∷ ks) (opened_sockets bound ls os all.1)

-- ---- sockets, however often they stand somewhere

ids_of_halves : (ls : List LooseNow) → ids_of (map (λ (l : LooseNow). l.end) ls) ≡ sockets_of ls
ids_of_halves [] = refl
ids_of_halves (l ∷ ls) = ap (λ ks. l.end.id ∷ ks) (ids_of_halves ls)

-- those of ends, and then those of halves
times_ended : (k : SocketId) (es : List SeenEnd) (ls : List LooseNow) → times k (ids_of (es ++ map (λ (l : LooseNow). l.end) ls)) ≡ times k (ids_of es) + times k (sockets_of ls)
times_ended k es ls = ap (times k) (ids-append es (map (λ (l : LooseNow). l.end) ls) ∙ ap (λ ks. ids_of es ++ ks) (ids_of_halves ls)) ∙ times_both k (ids_of es) (sockets_of ls)

times_left : (k : SocketId) (ls ms : List LooseNow) → times k (sockets_of (ls ++ ms)) ≡ times k (sockets_of ls) + times k (sockets_of ms)
times_left k ls ms = ap (times k) (map-append (λ (l : LooseNow). l.end.id) ls ms) ∙ times_both k (sockets_of ls) (sockets_of ms)

abbrev records_of_all : List (CenterNow (List Logged)) → List RecordNow
records_of_all cs = flat_map (λ (c : CenterNow (List Logged)). c.records) cs

times_of_records : (k : SocketId) (rs ss : List RecordNow) → times k (ids_of (ends_of_all (rs ++ ss))) ≡ times k (ids_of (ends_of_all rs)) + times k (ids_of (ends_of_all ss))
times_of_records k rs ss =
    ap (λ es. times k (ids_of es)) (flat_map-append ends_of rs ss) ∙ ap (times k) (ids-append (ends_of_all rs) (ends_of_all ss)) ∙ times_both k (ids_of (ends_of_all rs)) (ids_of (ends_of_all ss))

abbrev IsOpenedIn : List Cut → CenterNow (List Logged) → List LooseNow → Type 0
IsOpenedIn cuts c os = SideBySide (IsOpenedAs (bound_of cuts c.port.made)) (rest_of c).loose os

-- the sockets that the ports of these centers made are those of the ends of their records and of the halves
times_made : (cuts : List Cut) (at : Addr) (k : SocketId) (cs : List (CenterNow (List Logged))) (oss : List (List LooseNow)) → SideBySide (IsOpenedIn cuts) cs oss →
    ((j : ℕ) (c : CenterNow (List Logged)) → slice_get cs j ≡ Some c → IsLeftCenter at c) →
    times k (flat_map (λ (c : CenterNow (List Logged)). c.port.made) cs) ≡ times k (ids_of (ends_of_all (records_of_all cs))) + times k (sockets_of (joined oss))
times_made cuts at k [] [] all each = refl
times_made cuts at k [] (os ∷ oss) all each = absurd all
times_made cuts at k (c ∷ cs) [] all each = absurd all
times_made cuts at k (c ∷ cs) (os ∷ oss) all each =
    let front = times_both k c.port.made (flat_map (λ (d : CenterNow (List Logged)). d.port.made) cs) in
    let first : times k c.port.made ≡ times k (ids_of (ends_of_all c.records)) + times k (sockets_of os) =
    (each 0 c refl).held k ∙ times_ended k (ends_of_all c.records) (rest_of c).loose
    ∙ ap (λ ks. times k (ids_of (ends_of_all c.records)) + times k ks) (sym (opened_sockets (bound_of cuts c.port.made) (rest_of c).loose os all.0))
    in
    let rest = times_made cuts at k cs oss all.1 (λ j d e. each (suc j) d e) in
    omega (arith, front, first, rest, times_of_records k c.records (records_of_all cs), times_left k os (joined oss))

-- ---- a node

module _ (at : Addr) (cuts : List Cut) (n : KeptNow) (each : (j : ℕ) (c : CenterNow (List Logged)) → slice_get n.node.centers j ≡ Some c → IsLeftCenter at c)
    (peers : IsDistinct same_addr (map peer_of (records_in n.node))) (whole : AllByRecursion IsWholeHalf (loose_at n)) (seen : AllByRecursion IsSeen (loose_at n))
    (opened : AreOpened cuts n.node.centers n.opened) (once : HasEachOnce at (made_by n.node) (n.at_door ++ n.on_way)) where
  abbrev centers : List (CenterNow (List Logged))
  centers = n.node.centers

  abbrev records : List RecordNow
  records = records_in n.node

  abbrev others : List LooseNow
  others = n.at_door ++ n.on_way

  loose_is : loose_at n ≡ n.opened ++ others
  loose_is = append_assoc n.opened n.at_door n.on_way

  in_opened : (o : LooseNow) → IsOneOf o n.opened → IsOneOf o (loose_at n)
  in_opened o i = subst (IsOneOf o) (sym loose_is) (one_front o n.opened others i)

  in_others : (o : LooseNow) → IsOneOf o others → IsOneOf o (loose_at n)
  in_others o i = subst (IsOneOf o) (sym loose_is) (one_back o n.opened others i)

  abbrev made_at : CenterNow (List Logged) → List SocketId
  made_at c = c.port.made

  -- ---- whose a socket is

  few : (k : SocketId) → times k (made_by n.node) + times k (sockets_of others) ≤ 1
  few k = omega (arith, distinct_once (made_by n.node ++ sockets_of others) once.once k, times_both k (made_by n.node) (sockets_of others))

  -- one center has made it
  one_center : (k : SocketId) (i j : ℕ) (c d : CenterNow (List Logged)) → slice_get centers i ≡ Some c → slice_get centers j ≡ Some d →
      is_among k c.port.made ≡ true → is_among k d.port.made ≡ true → c ≡ d
  one_center k i j c d e f p q = by (cases_eq i j)
    where
      by : (i ≡ j) ⊎ (i ≢ j) → c ≡ d
      by (inl same) = same_Some c d (sym e ∙ ap (slice_get centers) same ∙ f)
      by (inr other) =
          let both : times k c.port.made + times k d.port.made ≤ times k (made_by n.node) = times_of_two made_at k centers i j c d other e f in
          absurd (omega (arith, few k, both, among_times k c.port.made p, among_times k d.port.made q))

  -- or it is that of a half that is in no center
  no_center : (k : SocketId) (j : ℕ) (c : CenterNow (List Logged)) → slice_get centers j ≡ Some c → is_among k c.port.made ≡ true → is_among k (sockets_of others) ≡ true → ⊥
  no_center k j c e p q =
      let its : times k c.port.made ≤ times k (made_by n.node) = times_of made_at k centers j c e in
      absurd (omega (arith, few k, its, among_times k c.port.made p, among_times k (sockets_of others) q))

  ends_are : (k : SocketId) → times k (ids_of (ends_left (left_at at n))) ≡ times k (made_by n.node) + times k (sockets_of others)
  ends_are k =
      let all : times k (ids_of (ends_left (left_at at n))) ≡ times k (ids_of (ends_of_all records)) + times k (sockets_of (loose_at n)) = times_ended k (ends_of_all records) (loose_at n) in
      let halves : times k (sockets_of (loose_at n)) ≡ times k (sockets_of n.opened) + times k (sockets_of others) = ap (λ ls. times k (sockets_of ls)) loose_is ∙ times_left k n.opened others in
      let split : times k (sockets_of n.opened) ≡ times k (sockets_of (joined opened.of_each)) = ap (λ ls. times k (sockets_of ls)) opened.split in
      let made : times k (made_by n.node) ≡ times k (ids_of (ends_of_all records)) + times k (sockets_of (joined opened.of_each)) = times_made cuts at k centers opened.of_each opened.each each in
      omega (arith, all, halves, split, made)

  own : AreOfTheirOwn (ends_left (left_at at n))
  own = once_distinct (ids_of (ends_left (left_at at n))) (λ k. omega (arith, ends_are k, few k))

  -- ---- records

  abbrev records_at : CenterNow (List Logged) → List RecordNow
  records_at c = c.records

  whose_record : (r : RecordNow) → IsOneOf r records → OneAt records_at r centers
  whose_record r i = one_at records_at r centers i

  one_record : (r : RecordNow) → IsOneOf r records → IsRecordOf at r
  one_record r i =
      let w = whose_record r i in
      let c = each w.place w.item w.there in
      let named = of_each (IsNamed at) r w.item.records c.named w.one in
      record {
        is = of_each IsRecord r w.item.records c.records w.one;
        ranges = named.ranges;
        mine = named.mine;
        elsewhere = λ k goes. subst (λ a. goes_to a k ≡ false) c.listens (of_each (LeadsElsewhere w.item.port) r w.item.records c.own.elsewhere w.one k goes);
        seen = named.seen;
      }

  asked_here : (r : RecordNow) → IsOneOf r records → AskedTowards at r
  asked_here r i =
      let w = whose_record r i in
      let c = each w.place w.item w.there in
      λ k asked. subst (λ a. goes_to a k ≡ true) c.listens (of_each (AskedTowards w.item.port.at) r w.item.records c.halves.here w.one k asked)

  -- ---- halves of its centers

  -- the half of a center that it is over
  record IsOver (o : LooseNow) : Type 0 where
    place : ℕ
    center : CenterNow (List Logged)
    there : slice_get centers place ≡ Some center
    half : LooseNow
    one : IsOneOf half (rest_of center).loose
    is : IsOpenedAs (bound_of cuts center.port.made) half o

  over_half : (o : LooseNow) → IsOneOf o n.opened → IsOver o
  over_half o i =
      let w = one_at (λ os. os) o opened.of_each (subst (IsOneOf o) opened.split i) in
      let c = placed_beside (λ os (c : CenterNow (List Logged)). IsOpenedIn cuts c os) opened.of_each centers w.place w.item (turned (IsOpenedIn cuts) centers opened.of_each opened.each) w.there in
      let l = beside (λ p l. IsOpenedAs (bound_of cuts c.other.port.made) l p) o w.item (rest_of c.other).loose
      (turned (IsOpenedAs (bound_of cuts c.other.port.made)) (rest_of c.other).loose w.item c.is) w.one
      in
      record { place = w.place; center = c.other; there = c.there; half = l.other; one = l.there; is = l.is }

  -- one over a half of a center
  record IsOpened (j : ℕ) (c : CenterNow (List Logged)) (l : LooseNow) : Type 0 where
    half : LooseNow
    one : IsOneOf half n.opened
    is : IsOpenedAs (bound_of cuts c.port.made) l half

  opened_half : (j : ℕ) (c : CenterNow (List Logged)) → slice_get centers j ≡ Some c → (l : LooseNow) → IsOneOf l (rest_of c).loose → IsOpened j c l
  opened_half j c e l i =
      let os = placed_beside (IsOpenedIn cuts) centers opened.of_each j c opened.each e in
      let o = beside (IsOpenedAs (bound_of cuts c.port.made)) l (rest_of c).loose os.other os.is i in
      record { half = o.other; one = subst (IsOneOf o.other) (sym opened.split) (at_one (λ os. os) o.other opened.of_each j os.other os.there o.there); is = o.is }

  whole_half : (o : LooseNow) → IsOneOf o (loose_at n) → IsWholeHalf o
  whole_half o i = of_each IsWholeHalf o (loose_at n) whole i

  of_opened : (o : LooseNow) → IsOneOf o n.opened → IsHalfOf at records o
  of_opened o i = record {
    whole = whole_half o among;
    here = ap (goes_to at) same ∙ center.comes_here at over.center c over.half over.one;
    entity = (of_each IsSeen o (loose_at n) seen among).entity;
    seen = (of_each IsSeen o (loose_at n) seen among).seen;
    told = each_by (λ (r : RecordNow). is_among o.trail.socket (asked_on r) ≡ true → o.trail.judged ≡ judged_on o.trail.socket (judgements_in r.journal)) records told;
    judged = by (center.was_judged at over.center c over.half over.one);
  }
    where
      among : IsOneOf o (loose_at n)
      among = in_opened o i

      over : IsOver o
      over = over_half o i

      c : IsLeftCenter at over.center
      c = each over.place over.center over.there

      same : o.end.id ≡ over.half.end.id
      same = opened_id (bound_of cuts over.center.port.made) over.half o over.is

      socket : o.trail.socket ≡ over.half.end.id
      socket = (whole_half o among).socket ∙ same

      told : (r : RecordNow) → IsOneOf r records → is_among o.trail.socket (asked_on r) ≡ true → o.trail.judged ≡ judged_on o.trail.socket (judgements_in r.journal)
      told r j asked =
          let w = whose_record r j in
          let so : is_among over.half.end.id (asked_on r) ≡ true = ap (λ k. is_among k (asked_on r)) (sym socket) ∙ asked in
          let one : w.item ≡ over.center =
          one_center over.half.end.id w.place over.place w.item over.center w.there over.there
          (center.asked_made at w.item (each w.place w.item w.there) r w.one over.half.end.id so) (center.was_made at over.center c over.half over.one)
          in
          over.is.inside.judged ∙ center.was_told at over.center c over.half over.one r (subst (λ (d : CenterNow (List Logged)). IsOneOf r d.records) one w.one) so
          ∙ ap (λ k. judged_on k (judgements_in r.journal)) (sym socket)

      by : (over.half.trail.judged ≡ []) ⊎ center.IsAskedOf at over.center c over.half.end.id → (o.trail.judged ≡ []) ⊎ IsToldBy o records
      by (inl none) = inl (over.is.inside.judged ∙ none)
      by (inr asker) = inr (record {
        side = asker.side;
        there = at_one records_at asker.side centers over.place over.center over.there asker.one;
        asked = ap (λ k. is_among k (asked_on asker.side)) socket ∙ asker.asked;
      })

  -- ---- halves that are in none

  of_other : (o : LooseNow) → IsOneOf o others → IsHalfOf at records o
  of_other o i = record {
    whole = whole_half o among;
    here = is.here;
    entity = (of_each IsSeen o (loose_at n) seen among).entity;
    seen = (of_each IsSeen o (loose_at n) seen among).seen;
    told = each_by (λ (r : RecordNow). is_among o.trail.socket (asked_on r) ≡ true → o.trail.judged ≡ judged_on o.trail.socket (judgements_in r.journal)) records
        (λ r j asked. absurd (none r j asked));
    judged = inl is.unjudged;
  }
    where
      among : IsOneOf o (loose_at n)
      among = in_others o i

      is : IsUnjudgedAt at o
      is = of_each (IsUnjudgedAt at) o others once.unjudged i

      none : (r : RecordNow) → IsOneOf r records → is_among o.trail.socket (asked_on r) ≡ true → ⊥
      none r j asked =
          let w = whose_record r j in
          no_center o.trail.socket w.place w.item w.there (center.asked_made at w.item (each w.place w.item w.there) r w.one o.trail.socket asked)
          (among_mapped (λ (l : LooseNow). l.end.id) o o.trail.socket others i (whole_half o among).socket)

  one_half : (o : LooseNow) → IsOneOf o (loose_at n) → IsHalfOf at records o
  one_half o i = by (in_part o n.opened others (subst (IsOneOf o) loose_is i))
    where
      by : IsOneOf o n.opened ⊎ IsOneOf o others → IsHalfOf at records o
      by (inl over) = of_opened o over
      by (inr other) = of_other o other

  -- ---- asks that were judged

  has_its : (r : RecordNow) → IsOneOf r records → HasItsHalves (loose_at n) r
  has_its r i k asked = by (center.its_half at w.item c r w.one k asked)
    where
      w : OneAt records_at r centers
      w = whose_record r i

      c : IsLeftCenter at w.item
      c = each w.place w.item w.there

      by : (is_among k (sockets_taken r) ≡ true) ⊎ center.IsLeftOn at w.item c k → is_among k (sockets_taken r ++ sockets_left (loose_at n)) ≡ true
      by (inl taken) = among_front k (sockets_taken r) (sockets_left (loose_at n)) taken
      by (inr left) =
          let o = opened_half w.place w.item w.there left.half left.one in
          let among = in_opened o.half o.one in
          among_back k (sockets_taken r) (sockets_left (loose_at n))
          (among_mapped (λ (l : LooseNow). l.trail.socket) o.half k (loose_at n) among
          (left.is ∙ sym (opened_id (bound_of cuts w.item.port.made) left.half o.half o.is) ∙ sym (whole_half o.half among).socket))

  -- the ends of its halves
  abbrev half_ends : List SeenEnd
  half_ends = map (λ (l : LooseNow). l.end) (loose_at n)

  -- the end that a record has
  of_record : (r : RecordNow) → IsOneOf r records → (k : SocketId) (e : SeenEnd) → end_at (ends_of r) k ≡ Some e → end_at (ends_left (left_at at n)) k ≡ Some e
  of_record r i k e is =
      end_append (ends_of_all records) half_ends k
      ∙ ap (λ o. first_of o (end_at half_ends k)) (link_records.one_at r records i (own_first (ends_of_all records) half_ends own) k e is)

  -- the end of a half
  of_half : (o : LooseNow) → IsOneOf o (loose_at n) → end_at (ends_left (left_at at n)) o.end.id ≡ Some o.end
  of_half o i = end_own o.end (ends_left (left_at at n)) own (one_back o.end (ends_of_all records) half_ends (mapped_one (λ (l : LooseNow). l.end) o (loose_at n) i))

  -- what an end of a center has got the node's end of that socket has got first
  got_still : (j : ℕ) (d : CenterNow (List Logged)) (e : slice_get centers j ≡ Some d) (r : RecordNow) → IsOneOf r d.records → (k : SocketId) (bytes : List ℕ) →
      is_among k (asked_on r) ≡ true → IsPrefix bytes (got_of (end_at (all_ends (holding_in d)) k)) → IsPrefix bytes (got_of (end_at (ends_left (left_at at n)) k))
  got_still j d e r i k bytes asked got = by (center.its_half at d c r i k asked)
    where
      c : IsLeftCenter at d
      c = each j d e

      by : (is_among k (sockets_taken r) ≡ true) ⊎ center.IsLeftOn at d c k → IsPrefix bytes (got_of (end_at (ends_left (left_at at n)) k))
      by (inl taken) =
          let end = center.end_taken at d c r i k taken in
          subst (λ (o : Option SeenEnd). IsPrefix bytes (got_of o)) (end.held ∙ sym (of_record r (at_one records_at r centers j d e i) k end.end end.found)) got
      by (inr left) =
          let o = opened_half j d e left.half left.one in
          let same : k ≡ o.half.end.id = left.is ∙ sym (opened_id (bound_of cuts d.port.made) left.half o.half o.is) in
          let was : end_at (all_ends (holding_in d)) k ≡ Some left.half.end = ap (end_at (all_ends (holding_in d))) left.is ∙ center.end_left at d c left.half left.one in
          let is : end_at (ends_left (left_at at n)) k ≡ Some o.half.end = ap (end_at (ends_left (left_at at n))) same ∙ of_half o.half (in_opened o.half o.one) in
          subst (λ (p : Option SeenEnd). IsPrefix bytes (got_of p)) (sym is)
          (on_chain bytes left.half.end.log.got o.half.end.log.got (subst (λ (p : Option SeenEnd). IsPrefix bytes (got_of p)) was got)
          (opened_got (bound_of cuts d.port.made) left.half o.half o.is))

  came : (r : RecordNow) → IsOneOf r records → AllCameOfPeer (ends_left (left_at at n)) r
  came r i = each_by (CameOfPeer (ends_left (left_at at n)) r) (judgements_in r.journal) one
    where
      w : OneAt records_at r centers
      w = whose_record r i

      one : (j : Judgement) → IsOneOf j (judgements_in r.journal) → CameOfPeer (ends_left (left_at at n)) r j
      one j there =
          let h = holding_in w.item in
          let was = of_each (CameOfPeer (all_ends h) r) j (judgements_in r.journal) (of_each (AllCameOfPeer (all_ends h)) r w.item.records (each w.place w.item w.there).came w.one) there in
          record {
            arrival = was.arrival;
            arrived = was.arrived;
            socket = was.socket;
            main = was.main;
            got = got_still w.place w.item w.there r w.one j.socket was.arrival.end.log.got (among_mapped (λ (y : Judgement). y.socket) j j.socket (judgements_in r.journal) there refl) was.got;
          }

  pub leaves : IsLeftNode (left_at at n)
  leaves = record {
    records = each_by (IsRecordOf at) records one_record;
    peers = peers;
    halves = each_by (IsHalfOf at records) (loose_at n) one_half;
    own = own;
    each = each_by (HasItsHalves (loose_at n)) records has_its;
    asked = each_by (AskedTowards at) records asked_here;
    came = each_by (AllCameOfPeer (ends_left (left_at at n))) records came;
  }
