-- What becomes of a holding where its port accepts: an end that waited, or that is new, has a half. Each socket that the port made since
-- has its end, and those that weren't accepted wait still.
use Rattle.std.proofs.Common.{◌≡◌, ◌⊎◌, inl, inr, ℕ, nat_lt, Bool, true, false, ◌||◌, if◌then◌else◌, List, [], ◌∷◌, ◌++◌, map, length, Option, Some, None, IfSome, IsSome, refl, sym, ap, subst, ◌∙◌, append-nil, append_assoc}
use Rattle.std.specs.Prelude.{unwrap_or}
use Rattle.std.specs.Option.{is_some, option_map}
use Rattle.std.specs.List.{AllByRecursion}
use Rattle.m2_fabric.specs.m2_addr.declared.addr.Addr.{Addr}
use Rattle.m2_fabric.specs.declared.port.Taken.TheVariants as taken
use Rattle.m2_fabric.specs.declared.socket.SocketId.{SocketId}
use Rattle.m2_fabric.specs.End.{Inflow, SeenEnd}
use Rattle.m2_fabric.specs.Port.{Accepts, IsNewEnd, SeenPort}
use Rattle.m2_fabric.specs.Sockets.{IsNewTo, goes_to, is_among, same_socket}
use Rattle.m2_turn.specs.m2_record.RecordNow.{RecordNow, ids_of}
use Rattle.m2_turn.specs.m2_record.Sources.{end_at}
use Rattle.m2_turn.specs.declared.accepting.Accepted.{Accepted}
use Rattle.m2_turn.specs.declared.accepting.Accepted.TheVariants as accepts
use Rattle.m2_turn.specs.declared.pending.TheConstants.{MOST_HALVES}
use Rattle.m2_turn.specs.Accepting.{Accepting, AcceptsAll, EndsWith, IsEnded, TakesAll, TakesIn, joined, unasked}
use Rattle.m2_turn.specs.Halves.{AllHalves}
use Rattle.m2_turn.specs.Hearing.{ends_in}
use Rattle.m2_turn.specs.Sessions.{PendingNow, is_asker, peer_of}
use Rattle.m2_turn.proofs.Came.{alone}
use Rattle.m2_turn.proofs.m2_record.Ends.{end-first}
use Rattle.m2_bytes_fit.specs.m2_trail.Arrivals.{LooseNow, closed_of}
use Rattle.m2_bytes_fit.specs.m2_trail.Incoming.{IncomingNow, accepted}
use Rattle.m2_growth.specs.Ends.{AreOfTheirOwn, EndsGrow}
use Rattle.m2_growth.specs.Halves.{AskedOnMade, HasItsHalves, IsHeardBy, IsOneOf, all_left, asked_on}
use Rattle.m2_growth.specs.Holding.{AreOwn, Grows, IsToCome, all_ends, waiting_at}
use Rattle.m2_growth.specs.GrowthLaws.{at_accepts}
use Rattle.m2_growth.specs.Ports.{PortStands}
use Rattle.m2_growth.specs.Records.{ends_of_all}
use Rattle.m2_growth.proofs.Among.{among_back, each_by, in_part, of_each, one_back, one_front}
use Rattle.m2_growth.proofs.Asked.{asked_same}
use Rattle.m2_growth.proofs.Calls.{closing_grows}
use Rattle.m2_growth.proofs.Ends.{AreApart, AreLater, AreMade, AreStill, AreWith, all_none, grow_chain, later_before, later_behind, later_one, later_swapped, made_later, made_none, none_cons, none_join, own_cons, own_join, own_none, own_tail, with_between}
use Rattle.m2_growth.proofs.Going.{records_same, trail_same, grows_same}
use Rattle.m2_growth.proofs.Growing.{still_there}
use Rattle.m2_growth.proofs.Holdings.{AllLeft, IsHere, IsOnSocket, end_of, ends_last, left, loose_end, stay_left, still_has}
use Rattle.m2_growth.proofs.InStepStanding.{Stands, both_by, both_then, some_back, some_front, stands_alike}
use Rattle.m2_growth.proofs.OneRecord.{holding}
use Rattle.m2_growth.proofs.Owned.{own_all}
use Rattle.m2_fabric.proofs.m2_lemmas.Lists.{all_last, all_so as each}
use Rattle.m2_fabric.proofs.Sockets.{among_front, among_neither, among_part, apart_turned, same_equal, same_refl}
use Rattle.m2_fabric.proofs.m2_lemmas.Booleans.{false_isnt_true}

-- ---- the halves

-- a half on this end is one of them then, and they are as they were besides
record Joins (e : SeenEnd) (h g : AllHalves) : Type 0 where
  stay : AllLeft h g
  ends : AreLater (ends_in h ++ e ∷ []) (ends_in g)
  on : AllByRecursion IsOnSocket (all_left h) → AllByRecursion IsOnSocket (all_left g)
  here : (at : Addr) → goes_to at e.id ≡ true → AllByRecursion (IsHere at) (all_left h) → AllByRecursion (IsHere at) (all_left g)
  askers : (rs : List RecordNow) → AllByRecursion (λ (r : RecordNow). is_among e.id (asked_on r) ≡ true → ⊥) rs → AllByRecursion (IsHeardBy rs) h.pending → AllByRecursion (IsHeardBy rs) g.pending

map_last : {X Y : Type 0} (f : X → Y) (xs : List X) (x : X) → map f (xs ++ x ∷ []) ≡ map f xs ++ f x ∷ []
map_last f [] x = refl
map_last f (y ∷ ys) x = ap (λ l. f y ∷ l) (map_last f ys x)

abbrev half_on : (entity room : ℕ) → SeenEnd → IncomingNow
half_on entity room e = accepted entity e room

-- the last of those in their turns
joins_last : (entity room : ℕ) (e : SeenEnd) (h : AllHalves) → Joins e h (record h { pending = h.pending ++ unasked (half_on entity room e) ∷ [] })
joins_last entity room e h = record {
  stay = (λ l i. record { half = l; there = subst (IsOneOf l) (sym all) (stays l (in_part l lefts h.loose i)); grows = trail_same l.trail });
  ends = subst (λ es. AreLater ((pends ++ overs) ++ e ∷ []) (es ++ overs)) (sym (map_last end_of h.pending p))
      (subst (λ es. AreLater es ((pends ++ e ∷ []) ++ overs)) (sym (append_assoc pends overs (e ∷ [])))
      (subst (AreLater (pends ++ (overs ++ e ∷ []))) (sym (append_assoc pends (e ∷ []) overs))
      (later_behind pends (overs ++ e ∷ []) (e ∷ overs) (later_swapped overs (e ∷ [])))));
  on = all_so IsOnSocket refl;
  here = (λ at towards. all_so (IsHere at) towards);
  askers = (λ rs none asked. all_last (IsHeardBy rs) h.pending p asked
      (each (λ (r : RecordNow). is_among e.id (asked_on r) ≡ true → ⊥) (λ (r : RecordNow). is_among e.id (asked_on r) ≡ true → is_asker None (peer_of r) ≡ true) (λ r never asked. absurd (never asked)) rs none));
}
  where
    p : PendingNow
    p = unasked (half_on entity room e)

    g : AllHalves
    g = record h { pending = h.pending ++ p ∷ [] }

    lefts : List LooseNow
    lefts = map left h.pending

    pends : List SeenEnd
    pends = map end_of h.pending

    overs : List SeenEnd
    overs = map loose_end h.loose

    all : all_left g ≡ (lefts ++ left p ∷ []) ++ h.loose
    all = ap (λ ls. ls ++ h.loose) (map_last left h.pending p)

    stays : (l : LooseNow) → IsOneOf l lefts ⊎ IsOneOf l h.loose → IsOneOf l ((lefts ++ left p ∷ []) ++ h.loose)
    stays l (inl j) = one_front l (lefts ++ left p ∷ []) h.loose (one_front l lefts (left p ∷ []) j)
    stays l (inr j) = one_back l (lefts ++ left p ∷ []) h.loose j

    first_so : (P : LooseNow → Type 0) → P (left p) → AllByRecursion P (all_left h) → (l : LooseNow) → IsOneOf l lefts ⊎ IsOneOf l (left p ∷ []) → P l
    first_so P this were l (inl j) = of_each P l (all_left h) were (one_front l lefts h.loose j)
    first_so P this were l (inr (inl same)) = subst P (sym same) this
    first_so P this were l (inr (inr none)) = absurd none

    is_so : (P : LooseNow → Type 0) → P (left p) → AllByRecursion P (all_left h) → (l : LooseNow) → IsOneOf l (lefts ++ left p ∷ []) ⊎ IsOneOf l h.loose → P l
    is_so P this were l (inl j) = first_so P this were l (in_part l lefts (left p ∷ []) j)
    is_so P this were l (inr j) = of_each P l (all_left h) were (one_back l lefts h.loose j)

    all_so : (P : LooseNow → Type 0) → P (left p) → AllByRecursion P (all_left h) → AllByRecursion P (all_left g)
    all_so P this were = each_by P (all_left g) (λ l i. is_so P this were l (in_part l (lefts ++ left p ∷ []) h.loose (subst (IsOneOf l) all i)))

-- closed, and the last of those that are over
joins_over : (entity room : ℕ) (e : SeenEnd) (h : AllHalves) → Joins e h (record h { loose = h.loose ++ closed_of (half_on entity room e) ∷ [] })
joins_over entity room e h = record {
  stay = (λ l i. record { half = l; there = stays l (in_part l lefts h.loose i); grows = trail_same l.trail });
  ends = subst (λ es. AreLater ((pends ++ overs) ++ e ∷ []) (pends ++ es)) (sym (ends_last h.loose over))
      (subst (λ es. AreLater es (pends ++ (overs ++ over.end ∷ []))) (sym (append_assoc pends overs (e ∷ [])))
      (later_behind pends (overs ++ e ∷ []) (overs ++ over.end ∷ []) (later_behind overs (e ∷ []) (over.end ∷ []) (later_one e over.end (closing_grows e)))));
  on = all_so IsOnSocket refl;
  here = (λ at towards. all_so (IsHere at) towards);
  askers = (λ rs none asked. asked);
}
  where
    over : LooseNow
    over = closed_of (half_on entity room e)

    g : AllHalves
    g = record h { loose = h.loose ++ over ∷ [] }

    lefts : List LooseNow
    lefts = map left h.pending

    pends : List SeenEnd
    pends = map end_of h.pending

    overs : List SeenEnd
    overs = map loose_end h.loose

    stays : (l : LooseNow) → IsOneOf l lefts ⊎ IsOneOf l h.loose → IsOneOf l (lefts ++ (h.loose ++ over ∷ []))
    stays l (inl j) = one_front l lefts (h.loose ++ over ∷ []) j
    stays l (inr j) = one_back l lefts (h.loose ++ over ∷ []) (one_front l h.loose (over ∷ []) j)

    last_so : (P : LooseNow → Type 0) → P over → AllByRecursion P (all_left h) → (l : LooseNow) → IsOneOf l h.loose ⊎ IsOneOf l (over ∷ []) → P l
    last_so P this were l (inl j) = of_each P l (all_left h) were (one_back l lefts h.loose j)
    last_so P this were l (inr (inl same)) = subst P (sym same) this
    last_so P this were l (inr (inr none)) = absurd none

    is_so : (P : LooseNow → Type 0) → P over → AllByRecursion P (all_left h) → (l : LooseNow) → IsOneOf l lefts ⊎ IsOneOf l (h.loose ++ over ∷ []) → P l
    is_so P this were l (inl j) = of_each P l (all_left h) were (one_front l lefts h.loose j)
    is_so P this were l (inr j) = last_so P this were l (in_part l h.loose (over ∷ []) j)

    all_so : (P : LooseNow → Type 0) → P over → AllByRecursion P (all_left h) → AllByRecursion P (all_left g)
    all_so P this were = each_by P (all_left g) (λ l i. is_so P this were l (in_part l lefts (h.loose ++ over ∷ []) i))

joins_so : (entity room : ℕ) (e : SeenEnd) (h : AllHalves) → Joins e h (joined (half_on entity room e) h)
joins_so entity room e h = at (nat_lt (length h.pending) MOST_HALVES)
  where
    at : (b : Bool) → Joins e h
        (if b then record h { pending = h.pending ++ unasked (half_on entity room e) ∷ [] } else record h { loose = h.loose ++ closed_of (half_on entity room e) ∷ [] })
    at true = joins_last entity room e h
    at false = joins_over entity room e h

-- ---- the port

-- the port has given an end, and these wait then
abbrev given : SeenPort → SeenEnd → Option (List SeenEnd) → SeenPort
given port e waiting = record port { made = port.made ++ e.id ∷ []; quiet = false; waiting = waiting }

-- and the others that wait are of other sockets
still_to_come : (p q : SeenPort) (e : SeenEnd) (others : List SeenEnd) → q.at ≡ p.at → q.made ≡ p.made ++ e.id ∷ [] → AllByRecursion (IsToCome p) others →
    AllByRecursion (λ j. same_socket e.id j ≡ false) (ids_of others) → AllByRecursion (IsToCome q) others
still_to_come p q e [] at made all other = tt
still_to_come p q e (x ∷ xs) at made all other = (
  record {
    here = ap (λ a. goes_to a x.id) at ∙ all.0.here;
    new = ap (is_among x.id) made ∙ among_neither x.id p.made (e.id ∷ []) all.0.new (alone x.id e.id (λ same. false_isnt_true (sym (apart_turned e.id x.id other.0) ∙ same)));
  },
  still_to_come p q e xs at made all.1 other.1,
)

same_to_come : (p q : SeenPort) (ends : List SeenEnd) → q.at ≡ p.at → q.made ≡ p.made → AllByRecursion (IsToCome p) ends → AllByRecursion (IsToCome q) ends
same_to_come p q [] at made all = tt
same_to_come p q (x ∷ xs) at made all = (record { here = ap (λ a. goes_to a x.id) at ∙ all.0.here; new = ap (is_among x.id) made ∙ all.0.new }, same_to_come p q xs at made all.1)

-- no end of a socket that wasn't made is among others
apart_one : (made : List SocketId) (xs : List SeenEnd) (e : SeenEnd) → AreMade made xs → IsNewTo made e.id → AreApart xs (e ∷ [])
apart_one made xs e all new k = at (same_socket k e.id) refl
  where
    at : (b : Bool) → same_socket k e.id ≡ b → (end_at xs k ≡ None) ⊎ (end_at (e ∷ []) k ≡ None)
    at true same = inl (made_none made xs k all (ap (λ j. is_among j made) (same_equal k e.id same) ∙ new))
    at false other = inr (none_cons e [] k other refl)

-- the end of a new socket goes to a half
module _ (rs : List RecordNow) (p : SeenPort) (h g : AllHalves) (e : SeenEnd) (own : AreOwn (holding p rs h)) (here : goes_to p.at e.id ≡ true) (new : IsNewTo p.made e.id) (j : Joins e h g) where
  abbrev held : List SeenEnd
  held = ends_of_all rs

  abbrev were : List SeenEnd
  were = held ++ ends_in h

  later : AreLater (were ++ e ∷ []) (held ++ ends_in g)
  later = subst (λ es. AreLater es (held ++ ends_in g)) (sym (append_assoc held (ends_in h) (e ∷ []))) (later_behind held (ends_in h ++ e ∷ []) (ends_in g) j.ends)

  still : AreStill (were ++ e ∷ []) (held ++ ends_in g)
  still = later (own_join were (e ∷ []) own.held (own_cons e [] refl own_none) (apart_one p.made were e own.made new))

  made : AreMade (p.made ++ e.id ∷ []) (were ++ e ∷ [])
  made = all_last (λ (x : SeenEnd). is_among x.id (p.made ++ e.id ∷ []) ≡ true) were e
      (each (λ (x : SeenEnd). is_among x.id p.made ≡ true) (λ (x : SeenEnd). is_among x.id (p.made ++ e.id ∷ []) ≡ true) (λ x m. among_front x.id p.made (e.id ∷ []) m) were own.made)
      (among_back e.id p.made (e.id ∷ []) (ap (λ b. b || false) (same_refl e.id)))

  there : IsSome (end_at (held ++ ends_in g) e.id)
  there = still_there (end_at (were ++ e ∷ []) e.id) (end_at (held ++ ends_in g) e.id) (still.grow e.id) (some_back were (e ∷ []) e.id (ap is_some (end-first e [])))

  comes : (w : Option (List SeenEnd)) → EndsGrow (all_ends (holding p rs h)) (all_ends (holding (given p e w) rs g)) → AreOfTheirOwn (unwrap_or w []) →
      AllByRecursion (IsToCome (given p e w)) (unwrap_or w []) → (gone : List SeenEnd) → waiting_at p ≡ gone ++ unwrap_or w [] → Stands (holding p rs h) (holding (given p e w) rs g)
  comes w grow waiting to_come gone waited = record {
    grows = record {
      grows = record {
        at = refl;
        made = (e.id ∷ [], refl);
        records = records_same rs;
        halves = stay_left rs h g j.stay;
        ends = grow;
        asked = asked_same (all_ends (holding p rs h)) (all_ends (holding (given p e w) rs g)) rs;
      };
      own = record {
        held = still.own;
        made = made_later (p.made ++ e.id ∷ []) (were ++ e ∷ []) (held ++ ends_in g) still.none made;
        waiting = waiting;
        to_come = to_come;
        elsewhere = own.elsewhere;
        fed = own.fed;
        on_socket = j.on own.on_socket;
        here = j.here p.at here own.here;
      };
      judged = (λ was. record {
        each = each (HasItsHalves (all_left h)) (HasItsHalves (all_left g)) (still_has h g j.stay) rs was.each;
        made = each (AskedOnMade p.made) (AskedOnMade (p.made ++ e.id ∷ [])) (λ r had k asked. among_front k p.made (e.id ∷ []) (had k asked)) rs was.made;
        here = was.here;
        one_judge = was.one_judge;
        askers = j.askers rs (each (AskedOnMade p.made) (λ (r : RecordNow). is_among e.id (asked_on r) ≡ true → ⊥) (λ r had asked. false_isnt_true (sym new ∙ had e.id asked)) rs was.made) was.askers;
        peers = was.peers;
      });
    };
    port = record {
      made = λ k is. by_part k (among_part k p.made (e.id ∷ []) is);
      gone = gone;
      waiting = waited;
    };
  }
    where
      all : List SeenEnd
      all = all_ends (holding (given p e w) rs g)

      is_there : (k : SocketId) (b : Bool) → same_socket k e.id ≡ b → (b || false) ≡ true → IsSome (end_at all k)
      is_there k true same is = some_front (held ++ ends_in g) (unwrap_or w []) k (subst (λ i. IsSome (end_at (held ++ ends_in g) i)) (sym (same_equal k e.id same)) there)
      is_there k false other is = absurd (false_isnt_true is)

      by_part : (k : SocketId) → (is_among k p.made ≡ true) ⊎ (is_among k (e.id ∷ []) ≡ true) → (is_among k p.made ≡ true) ⊎ IsSome (end_at all k)
      by_part k (inl was) = inl was
      by_part k (inr is) = inr (is_there k (same_socket k e.id) refl is)

-- one of those that wait
takes_one : (rs : List RecordNow) (port : SeenPort) (h g : AllHalves) (e : SeenEnd) (rest : List SeenEnd) → AreOwn (holding (record port { waiting = Some (e ∷ rest) }) rs h) → Joins e h g →
    Stands (holding (record port { waiting = Some (e ∷ rest) }) rs h) (holding (given port e (Some rest)) rs g)
takes_one rs port h g e rest own j =
    comes rs p h g e own own.to_come.0.here own.to_come.0.new j (Some rest) grow (own_tail e rest own.waiting).1
    (still_to_come p (given p e (Some rest)) e rest refl refl own.to_come.1 (all_none e.id rest (own_tail e rest own.waiting).0)) (e ∷ []) refl
  where
    p : SeenPort
    p = record port { waiting = Some (e ∷ rest) }

    mine : List SeenEnd
    mine = ends_of_all rs ++ ends_in h

    -- the end that goes stands between the held ones and those that wait
    grow : EndsGrow (all_ends (holding p rs h)) ((ends_of_all rs ++ ends_in g) ++ rest)
    grow = (subst (λ es. AreLater es ((ends_of_all rs ++ ends_in g) ++ rest)) (append_assoc mine (e ∷ []) rest)
        (later_before (mine ++ e ∷ []) (ends_of_all rs ++ ends_in g) rest (later rs p h g e own own.to_come.0.here own.to_come.0.new j)) (own_all (holding p rs h) own)).grow

-- one of a port that tells nothing of what waits
takes_new : (rs : List RecordNow) (port : SeenPort) (h g : AllHalves) (e : SeenEnd) → AreOwn (holding (record port { waiting = None }) rs h) → IsNewEnd port.at port.made e → e.inflow ≡ None → Joins e h g →
    Stands (holding (record port { waiting = None }) rs h) (holding (given port e None) rs g)
takes_new rs port h g e own fresh untold j = comes rs p h g e own fresh.towards fresh.first j None grow own_none tt [] refl
  where
    p : SeenPort
    p = record port { waiting = None }

    mine : List SeenEnd
    mine = ends_of_all rs ++ ends_in h

    comes_last : AreWith (mine ++ []) (mine ++ e ∷ [])
    comes_last = with_between e mine [] (subst (λ (i : Option Inflow). IfSome (option_map (λ (i : Inflow). e.log.got ++ i.readable) i) (λ bytes. bytes ≡ [])) (sym untold) tt)
        (none_join mine [] e.id (made_none port.made mine e.id own.made fresh.first) refl) (subst AreOfTheirOwn (sym (append-nil mine)) own.held)

    grow : EndsGrow (mine ++ []) ((ends_of_all rs ++ ends_in g) ++ [])
    grow = subst (EndsGrow (mine ++ [])) (sym (append-nil (ends_of_all rs ++ ends_in g)))
        (grow_chain (mine ++ []) (mine ++ e ∷ []) (ends_of_all rs ++ ends_in g) comes_last.grow (still rs p h g e own fresh.towards fresh.first j).grow)

-- none goes
unmoved : (rs : List RecordNow) (h : AllHalves) (port : SeenPort) (refused faults : ℕ) (quiet : Bool) → AreOwn (holding port rs h) →
    Stands (holding port rs h) (holding (record port { refused = refused; quiet = quiet; faults = faults }) rs h)
unmoved rs h port refused faults quiet own = record { grows = goes; port = stands_alike (holding port rs h) (holding q rs h) refl refl }
  where
    q : SeenPort
    q = record port { refused = refused; quiet = quiet; faults = faults }

    same : Grows (holding port rs h) (holding port rs h)
    same = grows_same (holding port rs h) own

    goes : Grows (holding port rs h) (holding q rs h)
    goes = record {
      grows = record { at = refl; made = same.grows.made; records = same.grows.records; halves = same.grows.halves; ends = same.grows.ends; asked = same.grows.asked };
      own = record {
        held = own.held;
        made = own.made;
        waiting = own.waiting;
        to_come = same_to_come port q (waiting_at port) refl refl own.to_come;
        elsewhere = own.elsewhere;
        fed = own.fed;
        on_socket = own.on_socket;
        here = own.here;
      };
      judged = (λ j. record { each = j.each; made = j.made; here = j.here; one_judge = j.one_judge; askers = j.askers; peers = j.peers });
    }

-- ---- one accept

takes_in : (entity : ℕ) (rs : List RecordNow) (old new : Accepting) → TakesIn entity old new → AreOwn (at_accepts rs old) → Stands (at_accepts rs old) (at_accepts rs new)
takes_in entity rs old new t own = by t.gives
  where
    end : SeenEnd
    end = t.end

    g : AllHalves
    g = joined (accepted entity end t.room) old.halves

    joins : Joins end old.halves g
    joins = joins_so entity t.room end old.halves

    by_waiting : (w : Option (List SeenEnd)) → new.port.waiting ≡ w → IsNewEnd old.port.at old.port.made end →
        (old.port.waiting ≡ option_map (λ (rest : List SeenEnd). end ∷ rest) new.port.waiting) × (old.port.waiting ≡ None → end.inflow ≡ None) →
        new.port ≡ given old.port end new.port.waiting → Stands (at_accepts rs old) (at_accepts rs new)
    by_waiting w is fresh was same =
        subst (λ (p : SeenPort). Stands (at_accepts rs old) (holding p rs new.halves)) (sym (same ∙ ap (given old.port end) is))
        (subst (λ (h : AllHalves). Stands (at_accepts rs old) (holding (given old.port end w) rs h)) (sym t.joins) (at w waited))
      where
        waited : old.port.waiting ≡ option_map (λ (rest : List SeenEnd). end ∷ rest) w
        waited = was.0 ∙ ap (option_map (λ (rest : List SeenEnd). end ∷ rest)) is

        at : (w : Option (List SeenEnd)) → old.port.waiting ≡ option_map (λ (rest : List SeenEnd). end ∷ rest) w → Stands (at_accepts rs old) (holding (given old.port end w) rs g)
        at None none =
            subst (λ (p : SeenPort). AreOwn (holding p rs old.halves) → Stands (holding p rs old.halves) (holding (given old.port end None) rs g)) (sym (ap (λ (w : Option (List SeenEnd)). record old.port { waiting = w }) none))
            (λ mine. takes_new rs old.port old.halves g end mine fresh (was.1 none) joins) own
        at (Some rest) some =
            subst (λ (p : SeenPort). AreOwn (holding p rs old.halves) → Stands (holding p rs old.halves) (holding (given old.port end (Some rest)) rs g)) (sym (ap (λ (w : Option (List SeenEnd)). record old.port { waiting = w }) some))
            (λ mine. takes_one rs old.port old.halves g end rest mine joins) own

    by : Accepts (taken.Made end) old.port new.port → Stands (at_accepts rs old) (at_accepts rs new)
    by (_, fresh, was, same) = by_waiting new.port.waiting refl fresh was same

gives_none : (rs : List RecordNow) (old new : Accepting) (refused faults : ℕ) (quiet : Bool) → new.port ≡ record old.port { refused = refused; quiet = quiet; faults = faults } → new.halves ≡ old.halves →
    AreOwn (at_accepts rs old) → Stands (at_accepts rs old) (at_accepts rs new)
gives_none rs old new refused faults quiet port halves own =
    subst (λ (p : SeenPort). Stands (at_accepts rs old) (holding p rs new.halves)) (sym port)
    (subst (λ (g : AllHalves). Stands (at_accepts rs old) (holding (record old.port { refused = refused; quiet = quiet; faults = faults }) rs g)) (sym halves)
    (unmoved rs old.halves old.port refused faults quiet own))

-- ---- all accepts

takes_all : (entity : ℕ) (rs : List RecordNow) (stood : List Accepting) (old new : Accepting) → TakesAll entity stood old new → AreOwn (at_accepts rs old) → Stands (at_accepts rs old) (at_accepts rs new)
takes_all entity rs [] old new same own = both_by (at_accepts rs old) (at_accepts rs new) (ap (at_accepts rs) (sym same)) own
takes_all entity rs (a ∷ rest) old new (once, later) own =
    let first = takes_in entity rs old a once own in
    both_then (at_accepts rs old) (at_accepts rs a) (at_accepts rs new) first (takes_all entity rs rest a new later first.grows.own)

ends_so : (rs : List RecordNow) (result : Accepted) (old new : Accepting) → EndsWith result old new → AreOwn (at_accepts rs old) → Stands (at_accepts rs old) (at_accepts rs new)
ends_so rs accepts.All old new (inl none) own = gives_none rs old new old.port.refused old.port.faults true none.gives.1 none.same own
ends_so rs accepts.All old new (inr none) own = gives_none rs old new _ _ true none.gives.1 none.same own
ends_so rs accepts.NoMemory old new none own = gives_none rs old new old.port.refused old.port.faults old.port.quiet none.gives none.same own
ends_so rs accepts.Busy old new none own = absurd none

is_ended : (entity : ℕ) (rs : List RecordNow) (result : Accepted) (old new : Accepting) → IsEnded entity result old new → AreOwn (at_accepts rs old) → Stands (at_accepts rs old) (at_accepts rs new)
is_ended entity rs result old new ended own =
    let first = takes_all entity rs ended.taken.stood old ended.mid ended.taken.takes own in
    both_then (at_accepts rs old) (at_accepts rs ended.mid) (at_accepts rs new) first (ends_so rs result ended.mid new ended.ends first.grows.own)

all_stand : (entity : ℕ) (result : Accepted) (rs : List RecordNow) (old new : Accepting) → AcceptsAll entity result old new → AreOwn (at_accepts rs old) → Stands (at_accepts rs old) (at_accepts rs new)
all_stand entity accepts.Busy rs old new busy own = takes_all entity rs busy.stood old new busy.takes own
all_stand entity accepts.All rs old new ended own = is_ended entity rs accepts.All old new ended own
all_stand entity accepts.NoMemory rs old new ended own = is_ended entity rs accepts.NoMemory old new ended own

pub accepts_grow : (entity : ℕ) (result : Accepted) (rs : List RecordNow) (old new : Accepting) → AcceptsAll entity result old new → AreOwn (at_accepts rs old) → Grows (at_accepts rs old) (at_accepts rs new)
accepts_grow entity result rs old new all own = (all_stand entity result rs old new all own).grows

pub accepts_stand : (entity : ℕ) (result : Accepted) (rs : List RecordNow) (old new : Accepting) → AcceptsAll entity result old new → AreOwn (at_accepts rs old) → PortStands (at_accepts rs old) (at_accepts rs new)
accepts_stand entity result rs old new all own = (all_stand entity result rs old new all own).port
