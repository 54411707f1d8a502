-- That open ends have what flowed to them, after a socket came to be kept.
use Rattle.std.proofs.Common.{◌≡◌, ◌≢◌, ℕ, ◌+◌, ◌<◌, ◌≤◌, ◌==◌, ◌&&◌, ◌||◌, Bool, true, false, if◌then◌else◌, List, [], ◌∷◌, ◌++◌, Option, None, Some, refl, sym, ◌∙◌, ap, arith}
use Rattle.std.specs.Prelude.{IfSome, MatchOption, Result, Ok, Err, OnOk, OnErr}
use Rattle.std.specs.List.{list_any}
use Rattle.std.proofs.lemmas.Bool.{eqb-true}
use Rattle.std.proofs.lemmas.Grind.{flat_map-append}
use Rattle.m2_fabric.specs.End.{Inflow, SeenEnd, fresh_end}
use Rattle.m2_bytes.specs.declared.memory.NoMemory.{NoMemory}
use Rattle.m2_fabric.specs.Holder.{ComesTo, EndName, SeenHolder, may_come}
use Rattle.m2_fabric.specs.Sockets.{same_socket}
use Rattle.m2_fabric.specs.declared.socket.SocketId.{SocketId}
use Rattle.m2_fabric.specs.InStep.{AreFirst, HasFirst, HaveWhatFlowed, IsInStep, IsUnread, SeenFabric, end_of, put_by}
use Rattle.m2_fabric.specs.Kept.{AreKept, AreWithin, SeenPair, both, directions, fresh_kept, is_kept, joins, of_pair, of_sockets, same_end, times_read, with_kept}
use Rattle.m2_fabric.specs.Meeting.{Arrive, arrivals_at, comes}
use Rattle.m2_fabric.specs.declared.direction.Direction.{Direction}
use Rattle.m2_fabric.specs.declared.kept.Kept.{Kept}
use Rattle.m2_fabric.proofs.Arriving.{one_arrives}
use Rattle.m2_fabric.proofs.Flowing.{unkept_is_unread}
use Rattle.m2_fabric.proofs.Pairs.{times-append}
use Rattle.m2_bytes.proofs.m2_lemmas.Booleans.{neither_of_or, both_of_and}
use Rattle.m2_fabric.proofs.Sockets.{apart_turned, same_equal}

-- ---- which pair a socket is added to

-- the nodes of a pair, one way round or the other
data Round (a b : ℕ) (p : SeenPair) : Type 0 where
  Same : p.first ≡ a → p.second ≡ b → Round a b p
  Turned : p.first ≡ b → p.second ≡ a → Round a b p

round : (a b : ℕ) (p : SeenPair) → joins a b p ≡ true → Round a b p
round a b p h = by_first ((p.first == a) && (p.second == b)) refl h
  where
    by_first : (s : Bool) → ((p.first == a) && (p.second == b)) ≡ s → (s || ((p.first == b) && (p.second == a))) ≡ true → Round a b p
    by_first true e h =
        let two = both_of_and (p.first == a) (p.second == b) e in
        Same (eqb-true p.first a two.0) (eqb-true p.second b two.1)
    by_first false e h =
        let two = both_of_and (p.first == b) (p.second == a) h in
        Turned (eqb-true p.first b two.0) (eqb-true p.second a two.1)

pub added : (a b : ℕ) (k : Kept) (p : SeenPair) → of_pair (record p { sockets = p.sockets ++ k ∷ [] }) ≡ of_pair p ++ both p.first p.second k
added a b k p = flat_map-append (both p.first p.second) p.sockets (k ∷ [])

-- ---- no two directions lead to one end

abbrev leads : ℕ → ℕ → SocketId → EndName → ℕ
leads a b id e = (if same_end (record { node = b; id = id }) e then 1 else 0) + (if same_end (record { node = a; id = id }) e then 1 else 0)

times_both : (a b : ℕ) (k : Kept) (p : SeenPair) (e : EndName) → Round a b p → times_read e (both p.first p.second k) ≡ leads a b k.id e
times_both a b k p e (Same x y) = rw (x, y) (omega arith)
times_both a b k p e (Turned x y) = rw (x, y) (omega arith)

times_with : (a b : ℕ) (k : Kept) (e : EndName) (ps : List SeenPair) → times_read e (directions (with_kept a b k ps)) ≡ times_read e (directions ps) + leads a b k.id e
times_with a b k e [] = omega arith
times_with a b k e (p ∷ ps) = by_pair (joins a b p) refl (times_with a b k e ps)
  where
    by_pair : (j : Bool) → joins a b p ≡ j → times_read e (directions (with_kept a b k ps)) ≡ times_read e (directions ps) + leads a b k.id e
        → times_read e (directions (if j then record p { sockets = p.sockets ++ k ∷ [] } ∷ ps else p ∷ with_kept a b k ps)) ≡ times_read e (directions (p ∷ ps)) + leads a b k.id e
    by_pair true j rest =
        let here : times_read e (of_pair (record p { sockets = p.sockets ++ k ∷ [] })) ≡ times_read e (of_pair p ++ both p.first p.second k) = ap (times_read e) (added a b k p) in
        omega (
          arith,
          times-append e (of_pair (record p { sockets = p.sockets ++ k ∷ [] })) (directions ps),
          here,
          times-append e (of_pair p) (both p.first p.second k),
          times_both a b k p e (round a b p j),
          times-append e (of_pair p) (directions ps),
        )
    by_pair false j rest = omega (arith, times-append e (of_pair p) (directions (with_kept a b k ps)), times-append e (of_pair p) (directions ps), rest)

within_with : (nodes a b : ℕ) (k : Kept) (ps : List SeenPair) → a < nodes → b < nodes → AreWithin nodes ps → AreWithin nodes (with_kept a b k ps)
within_with nodes a b k [] first second w = (record { first = first; second = second }, tt)
within_with nodes a b k (p ∷ ps) first second w = by_pair (joins a b p) (within_with nodes a b k ps first second w.1)
  where
    by_pair : (j : Bool) → AreWithin nodes (with_kept a b k ps) → AreWithin nodes (if j then record p { sockets = p.sockets ++ k ∷ [] } ∷ ps else p ∷ with_kept a b k ps)
    by_pair true rest = (record { first = w.0.first; second = w.0.second }, w.1)
    by_pair false rest = (w.0, rest)

pub kept_with : (nodes a b : ℕ) (id : SocketId) (ps : List SeenPair) → a < nodes → b < nodes → b ≢ a → is_kept id ps ≡ false → AreKept nodes ps
    → AreKept nodes (with_kept a b (fresh_kept id) ps)
kept_with nodes a b id ps first second apart unkept k = record {
  once = λ e. once e (same_socket id e.id) refl;
  within = within_with nodes a b (fresh_kept id) ps first second k.within;
}
  where
    -- the two ends are at different nodes
    at_one : (x : ℕ) (s : Bool) → ((if (b == x) && s then 1 else 0) + (if (a == x) && s then 1 else 0)) ≤ 1
    at_one x s = by_node (b == x) (a == x) s refl refl
      where
        by_node : (p q s : Bool) → (b == x) ≡ p → (a == x) ≡ q → ((if p && s then 1 else 0) + (if q && s then 1 else 0)) ≤ 1
        by_node true true s e f = absurd (apart (eqb-true b x e ∙ sym (eqb-true a x f)))
        by_node true false true e f = omega arith
        by_node true false false e f = omega arith
        by_node false true true e f = omega arith
        by_node false true false e f = omega arith
        by_node false false s e f = omega arith

    nowhere : (p q : Bool) → ((if p && false then 1 else 0) + (if q && false then 1 else 0)) ≡ 0
    nowhere true true = omega arith
    nowhere true false = omega arith
    nowhere false true = omega arith
    nowhere false false = omega arith

    once : (e : EndName) (s : Bool) → same_socket id e.id ≡ s → times_read e (directions (with_kept a b (fresh_kept id) ps)) ≤ 1
    once e true same =
        let unread : times_read e (directions ps) ≡ 0 = unkept_is_unread e ps (rw (← same_equal id e.id same) unkept) in
        omega (arith, times_with a b (fresh_kept id) e ps, unread, at_one e.node (same_socket id e.id))
    once e false same =
        let none : leads a b id e ≡ 0 = rw same (nowhere (b == e.node) (a == e.node)) in
        omega (arith, times_with a b (fresh_kept id) e ps, none, k.once e)

-- ---- what flowed

fresh_is_unread : (id : SocketId) → IsUnread (fresh_end id)
fresh_is_unread id = record { got = refl; readable = refl }

-- an end at which nothing was read stays so, or is a fresh one
pub unread_arrives : (es : List EndName) (a b : SeenHolder) (e : EndName) → Arrive es a b → IfSome (end_of a e) IsUnread → IfSome (end_of b e) IsUnread
unread_arrives es a b e p u = rw (p.ends e) (by_coming (comes es a e))
  where
    by_coming : (c : Bool) → IfSome (if c then Some (fresh_end e.id) else end_of a e) IsUnread
    by_coming true = fresh_is_unread e.id
    by_coming false = u

none_flowed : (o w : Option SeenEnd) → IfSome o IsUnread → IfSome o (λ (e : SeenEnd). e.log.closed ≡ false → HasFirst 0 (put_by w) e)
none_flowed None w u = tt
none_flowed (Some e) w u = λ opened. by_inflow e.inflow u.readable
  where
    by_inflow : (i : Option Inflow) → MatchOption i ⊥ (λ (i : Inflow). i.readable ≡ []) → MatchOption i ⊥ (λ (i : Inflow). AreFirst 0 (put_by w) (e.log.got ++ i.readable))
    by_inflow None r = r
    by_inflow (Some i) r = record { some = omega arith; same = rw (u.got, r) refl }

-- an end of another socket than the one that comes
stays : (end e : EndName) (a b : SeenHolder) → Arrive (end ∷ []) a b → same_socket end.id e.id ≡ false → end_of b e ≡ end_of a e
stays end e a b p other = p.ends e ∙ ap (λ (c : Bool). if c then Some (fresh_end e.id) else end_of a e) none
  where
    lost : (x y z : Bool) → y ≡ false → (((x && y) || false) && z) ≡ false
    lost true true z h = absurd (cc)
    lost true false z h = refl
    lost false y z h = refl

    none : comes (end ∷ []) a e ≡ false
    none = lost (end.node == e.node) (same_socket end.id e.id) (may e) other
      where
        may : EndName → Bool
        may e = may_come e a

sockets_stay : (end : EndName) (a b : SeenHolder) (x y : ℕ) (ks : List Kept) → Arrive (end ∷ []) a b → list_any (λ (k : Kept). same_socket k.id end.id) ks ≡ false
    → HaveWhatFlowed a (of_sockets x y ks) → HaveWhatFlowed b (of_sockets x y ks)
sockets_stay end a b x y [] p unkept have = tt
sockets_stay end a b x y (k ∷ ks) p unkept have =
    let parts = neither_of_or (same_socket k.id end.id) (list_any (λ (k : Kept). same_socket k.id end.id) ks) unkept in
    let other = apart_turned k.id end.id parts.0 in
    let there_to = stays end (record { node = y; id = k.id }) a b p other in
    let back_to = stays end (record { node = x; id = k.id }) a b p other in
    (rw (there_to, back_to) have.0, (rw (there_to, back_to) have.1.0, sockets_stay end a b x y ks p parts.1 have.1.1))

have-append : (h : SeenHolder) (xs ys : List Direction) → HaveWhatFlowed h xs → HaveWhatFlowed h ys → HaveWhatFlowed h (xs ++ ys)
have-append h [] ys p q = q
have-append h (x ∷ xs) ys p q = (p.0, have-append h xs ys p.1 q)

have_first : (h : SeenHolder) (xs ys : List Direction) → HaveWhatFlowed h (xs ++ ys) → HaveWhatFlowed h xs
have_first h [] ys p = tt
have_first h (x ∷ xs) ys p = (p.0, have_first h xs ys p.1)

have_rest : (h : SeenHolder) (xs ys : List Direction) → HaveWhatFlowed h (xs ++ ys) → HaveWhatFlowed h ys
have_rest h [] ys p = p
have_rest h (x ∷ xs) ys p = have_rest h xs ys p.1

pairs_stay : (end : EndName) (a b : SeenHolder) (ps : List SeenPair) → Arrive (end ∷ []) a b → is_kept end.id ps ≡ false
    → HaveWhatFlowed a (directions ps) → HaveWhatFlowed b (directions ps)
pairs_stay end a b [] p unkept have = tt
pairs_stay end a b (q ∷ qs) p unkept have =
    let parts = neither_of_or (list_any (λ (k : Kept). same_socket k.id end.id) q.sockets) (is_kept end.id qs) unkept in
    have-append b (of_pair q) (directions qs) (sockets_stay end a b q.first q.second q.sockets p parts.0 (have_first a (of_pair q) (directions qs) have))
    (pairs_stay end a b qs p parts.1 (have_rest a (of_pair q) (directions qs) have))

-- a fresh socket is added
have_with : (h : SeenHolder) (a b : ℕ) (id : SocketId) (ps : List SeenPair) → ((node : ℕ) → IfSome (end_of h (record { node = node; id = id })) IsUnread)
    → HaveWhatFlowed h (directions ps) → HaveWhatFlowed h (directions (with_kept a b (fresh_kept id) ps))
have_with h a b id ps unread have = go ps have
  where
    fresh : (x y : ℕ) → HaveWhatFlowed h (both x y (fresh_kept id))
    fresh x y = (
      none_flowed (end_of h (record { node = y; id = id })) (end_of h (record { node = x; id = id })) (unread y),
      (none_flowed (end_of h (record { node = x; id = id })) (end_of h (record { node = y; id = id })) (unread x), tt),
    )

    go : (ps : List SeenPair) → HaveWhatFlowed h (directions ps) → HaveWhatFlowed h (directions (with_kept a b (fresh_kept id) ps))
    go [] have = fresh a b
    go (p ∷ ps) have = by_pair (joins a b p) (go ps (have_rest h (of_pair p) (directions ps) have))
      where
        by_pair : (j : Bool) → HaveWhatFlowed h (directions (with_kept a b (fresh_kept id) ps))
            → HaveWhatFlowed h (directions (if j then record p { sockets = p.sockets ++ fresh_kept id ∷ [] } ∷ ps else p ∷ with_kept a b (fresh_kept id) ps))
        by_pair true rest =
            let here : HaveWhatFlowed h (of_pair p ++ both p.first p.second (fresh_kept id)) = have-append h (of_pair p) (both p.first p.second (fresh_kept id)) (have_first h (of_pair p) (directions ps) have) (fresh p.first p.second) in
            have-append h (of_pair (record p { sockets = p.sockets ++ fresh_kept id ∷ [] })) (directions ps) (rw (added a b (fresh_kept id) p) here) (have_rest h (of_pair p) (directions ps) have)
        by_pair false rest = have-append h (of_pair p) (directions (with_kept a b (fresh_kept id) ps)) (have_first h (of_pair p) (directions ps) have) rest

-- ---- what isn't kept afterwards wasn't kept before

any_of_more : (e : SocketId) (k : Kept) (ks : List Kept) → list_any (λ (k : Kept). same_socket k.id e) (ks ++ k ∷ []) ≡ false → list_any (λ (k : Kept). same_socket k.id e) ks ≡ false
any_of_more e k [] h = refl
any_of_more e k (x ∷ ks) h =
    let parts = neither_of_or (same_socket x.id e) (list_any (λ (k : Kept). same_socket k.id e) (ks ++ k ∷ [])) h in
    rw parts.0 (any_of_more e k ks parts.1)

pub unkept_before : (a b : ℕ) (k : Kept) (e : SocketId) (ps : List SeenPair) → is_kept e (with_kept a b k ps) ≡ false → is_kept e ps ≡ false
unkept_before a b k e [] h = refl
unkept_before a b k e (p ∷ ps) h = by_pair (joins a b p) (unkept_before a b k e ps) h
  where
    by_pair : (j : Bool) → (is_kept e (with_kept a b k ps) ≡ false → is_kept e ps ≡ false)
        → is_kept e (if j then record p { sockets = p.sockets ++ k ∷ [] } ∷ ps else p ∷ with_kept a b k ps) ≡ false → is_kept e (p ∷ ps) ≡ false
    by_pair true rest h =
        let parts = neither_of_or (list_any (λ (k : Kept). same_socket k.id e) (p.sockets ++ k ∷ [])) (is_kept e ps) h in
        rw (any_of_more e k p.sockets parts.0) parts.1
    by_pair false rest h =
        let parts = neither_of_or (list_any (λ (k : Kept). same_socket k.id e) p.sockets) (is_kept e (with_kept a b k ps)) h in
        rw parts.0 (rest parts.1)

-- ---- all of it

pub entered_in_step : (f : SeenFabric) (a b : SeenHolder) (node other : ℕ) (id : SocketId) → IsInStep (record { fabric = f; holder = a })
    → is_kept id f.pairs ≡ false → Arrive (record { node = other; id = id } ∷ []) a b
    → IsInStep (record { fabric = record f { pairs = with_kept node other (fresh_kept id) f.pairs }; holder = b })
entered_in_step f a b node other id s unkept p =
    record {
      nodes = p.nodes ∙ s.nodes;
      kept = have_with b node other id f.pairs
          (λ node. unread_arrives (record { node = other; id = id } ∷ []) a b (record { node = node; id = id }) p (s.others (record { node = node; id = id }) unkept))
          (pairs_stay (record { node = other; id = id }) a b f.pairs p unkept s.kept);
      others = λ e h.
          unread_arrives (record { node = other; id = id } ∷ []) a b e p (s.others e (unkept_before node other (fresh_kept id) e.id f.pairs h));
    }

-- ---- by what keeping it answered

pub entered_is_kept : (r : Result (Unit {0}) NoMemory) (nodes a b : ℕ) (id : SocketId) (fresh : Kept) (ps qs : List SeenPair) → fresh ≡ fresh_kept id → a < nodes → b < nodes → b ≢ a → is_kept id ps ≡ false → AreKept nodes ps
    → OnOk r (qs ≡ with_kept a b fresh ps) → OnErr r (qs ≡ ps) → AreKept nodes qs
entered_is_kept (Ok _) nodes a b id fresh ps qs is first second apart unkept k ok err = rw (ok, is) (kept_with nodes a b id ps first second apart unkept k)
entered_is_kept (Err _) nodes a b id fresh ps qs is first second apart unkept k ok err = rw err k

pub entered_stays_in_step : (r : Result (Unit {0}) NoMemory) (f : SeenFabric) (a b : SeenHolder) (node other : ℕ) (id : SocketId) (fresh : Kept) (qs : List SeenPair) → fresh ≡ fresh_kept id
    → IsInStep (record { fabric = f; holder = a }) → is_kept id f.pairs ≡ false → ComesTo (record { node = other; id = id }) a b → OnOk r (qs ≡ with_kept node other fresh f.pairs)
    → OnOk r (IsInStep (record { fabric = record f { pairs = qs }; holder = b }))
entered_stays_in_step (Ok _) f a b node other id fresh qs is s unkept p ok = rw (ok, is) (entered_in_step f a b node other id s unkept (one_arrives (record { node = other; id = id }) a b p))
entered_stays_in_step (Err _) f a b node other id fresh qs is s unkept p ok = tt

pub arrives_there : (r : Result (Unit {0}) NoMemory) (id : SocketId) (ps : List SeenPair) (where_to : Option ℕ) (other : ℕ) (a b : SeenHolder) → Some other ≡ where_to → is_kept id ps ≡ false
    → ComesTo (record { node = other; id = id }) a b → OnOk r (Arrive (arrivals_at id ps where_to) a b)
arrives_there (Ok _) id ps where_to other a b to unkept p = rw (← to, unkept) (one_arrives (record { node = other; id = id }) a b p)
arrives_there (Err _) id ps where_to other a b to unkept p = tt
