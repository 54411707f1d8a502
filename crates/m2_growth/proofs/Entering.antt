-- Sockets that come to be kept have both their ends.
use Rattle.std.proofs.Common.{◌≡◌, ℕ, ◌==◌, ◌&&◌, ◌||◌, Bool, true, false, if◌then◌else◌, List, [], ◌∷◌, ◌++◌, drop, get_or, suc, zero, Option, Some, None, refl, sym, ap, subst, ◌∙◌}
use Rattle.std.specs.Prelude.{IfSome, IsSome, MatchOption, slice_get}
use Rattle.std.specs.List.{AllByRecursion, position}
use Rattle.std.specs.Option.{is_some}
use Rattle.std.proofs.lemmas.Bool.{eqb-true, or_from}
use Rattle.std.proofs.lemmas.List.Quantifiers.{position-Some}
use Rattle.std.proofs.lemmas.Option.{slice_get-get_or}
use Rattle.m2_fabric.specs.m2_addr.declared.addr.Addr.{Addr}
use Rattle.m2_fabric.specs.End.{SeenEnd, fresh_end}
use Rattle.m2_fabric.specs.Holder.{EndName, SeenHolder, may_come}
use Rattle.m2_fabric.specs.Sockets.{goes_to, is_among, same_socket}
use Rattle.m2_fabric.specs.declared.socket.SocketId.{SocketId}
use Rattle.m2_fabric.specs.InStep.{IsInStep, IsUnread, Network, end_of, put_by}
use Rattle.m2_fabric.specs.Kept.{SeenPair, both, directions, fresh_kept, is_kept, joins, of_pair, of_sockets, reader, same_end, with_kept, writer}
use Rattle.m2_fabric.specs.Meeting.{Arrive, acceptor, all_entered, arrivals, arrivals_at, comes, comes_from, entered, is_one_of, kept_towards, other_than}
use Rattle.m2_fabric.specs.SimFabric.{Enters, looked_at, new_made}
use Rattle.m2_fabric.proofs.Arriving.{any-append}
use Rattle.m2_fabric.proofs.Entering.{added, unkept_before, unread_arrives}
use Rattle.m2_fabric.proofs.Flowing.{end_refl}
use Rattle.m2_fabric.proofs.Told.{end_equal}
use Rattle.m2_weave.specs.Later.{GoesOn}
use Rattle.m2_growth.specs.InStepLaws.{AreMet}
use Rattle.m2_growth.specs.Passed.{HasItsEnds, MadeHaveEnds, WaitingAreOpen}
use Rattle.m2_growth.specs.Turn.{AllCameOfPut, CameOfPut, HaveEnds}
use Rattle.m2_growth.proofs.Growing.{unread_came}
use Rattle.m2_fabric.proofs.m2_lemmas.Lists.{all_front, all_back, all_append}
use Rattle.m2_fabric.proofs.m2_lemmas.Booleans.{both_of_and, false_isnt_true, or_left, or_right}
use Rattle.m2_fabric.proofs.Sockets.{same_refl}

-- ---- tests

or_more : (s p q : Bool) → (p || q) ≡ true → ((s || p) || q) ≡ true
or_more true p q is = refl
or_more false p q is = is

-- ---- all of some directions

-- something is so of the ends that read and write, in each direction of these sockets
abbrev pub AllSo : (EndName → EndName → Type 0) → List SeenPair → Type 0
AllSo P ps = AllByRecursion (λ d. P (reader d) (writer d)) (directions ps)

-- ---- sockets that were kept before

-- what is kept of some sockets and of pairs behind them
abbrev Holds : (P : SeenHolder → EndName → EndName → Type 0) → Type 0
Holds P = (a b : SeenHolder) (r w : EndName) → end_of b r ≡ end_of a r → end_of b w ≡ end_of a w → P a r w → P b r w

sockets_stay : (P : SeenHolder → EndName → EndName → Type 0) → Holds P → (a b : SeenHolder) (x y : ℕ) (ks : _) (ps : List SeenPair) →
    ((e : EndName) → is_kept e.id (record { first = x; second = y; sockets = ks } ∷ ps) ≡ true → end_of b e ≡ end_of a e) →
    AllByRecursion (λ d. P a (reader d) (writer d)) (of_sockets x y ks) → AllByRecursion (λ d. P b (reader d) (writer d)) (of_sockets x y ks)
sockets_stay P so a b x y [] ps same all = tt
sockets_stay P so a b x y (k ∷ ks) ps same all =
    let one : EndName = record { node = x; id = k.id } in
    let two : EndName = record { node = y; id = k.id } in
    let here : is_kept k.id (record { first = x; second = y; sockets = k ∷ ks } ∷ ps) ≡ true = rw (same_refl k.id) refl in (
      so a b two one (same two here) (same one here) all.0,
      (
        so a b one two (same one here) (same two here) all.1.0,
        sockets_stay P so a b x y ks ps (λ e is. same e (or_more (same_socket k.id e.id) _ (is_kept e.id ps) is)) all.1.1,
      ),
    )

pairs_stay : (P : SeenHolder → EndName → EndName → Type 0) → Holds P → (a b : SeenHolder) (ps : List SeenPair) →
    ((e : EndName) → is_kept e.id ps ≡ true → end_of b e ≡ end_of a e) → AllSo (P a) ps → AllSo (P b) ps
pairs_stay P so a b [] same all = tt
pairs_stay P so a b (p ∷ ps) same all =
    all_append (λ d. P b (reader d) (writer d)) (of_pair p) (directions ps)
    (sockets_stay P so a b p.first p.second p.sockets ps same (all_front (λ d. P a (reader d) (writer d)) (of_pair p) (directions ps) all))
    (pairs_stay P so a b ps (λ e is. same e (or_right _ (is_kept e.id ps) is)) (all_back (λ d. P a (reader d) (writer d)) (of_pair p) (directions ps) all))

-- ---- a socket that comes to be kept

-- so it is of both its directions
abbrev pub BothSo : (EndName → EndName → Type 0) → (x y : ℕ) → SocketId → Type 0
BothSo P x y id = P (record { node = y; id = id }) (record { node = x; id = id }) × P (record { node = x; id = id }) (record { node = y; id = id })

-- whichever way round the pair of its nodes is
pub round_so : (P : EndName → EndName → Type 0) (a b : ℕ) (id : SocketId) (p : SeenPair) → joins a b p ≡ true → BothSo P a b id → BothSo P p.first p.second id
round_so P a b id p is so = by_first ((p.first == a) && (p.second == b)) refl is
  where
    by_first : (s : Bool) → ((p.first == a) && (p.second == b)) ≡ s → (s || ((p.first == b) && (p.second == a))) ≡ true → BothSo P p.first p.second id
    by_first true same is =
        let two = both_of_and (p.first == a) (p.second == b) same in
        rw (eqb-true p.first a two.0, eqb-true p.second b two.1) so
    by_first false same is =
        let two = both_of_and (p.first == b) (p.second == a) is in
        rw (eqb-true p.first b two.0, eqb-true p.second a two.1) (so.1, so.0)

pub with_so : (P : EndName → EndName → Type 0) (a b : ℕ) (id : SocketId) (ps : List SeenPair) → BothSo P a b id → AllSo P ps → AllSo P (with_kept a b (fresh_kept id) ps)
with_so P a b id [] so all = (so.0, (so.1, tt))
with_so P a b id (p ∷ ps) so all =
    by_pair (joins a b p) refl (with_so P a b id ps so (all_back (λ d. P (reader d) (writer d)) (of_pair p) (directions ps) all))
  where
    by_pair : (j : Bool) → joins a b p ≡ j → AllSo P (with_kept a b (fresh_kept id) ps) →
        AllSo P (if j then record p { sockets = p.sockets ++ fresh_kept id ∷ [] } ∷ ps else p ∷ with_kept a b (fresh_kept id) ps)
    by_pair true is rest =
        let here = round_so P a b id p is so in
        all_append (λ d. P (reader d) (writer d)) (of_pair (record p { sockets = p.sockets ++ fresh_kept id ∷ [] })) (directions ps)
        (subst (λ ds. AllByRecursion (λ d. P (reader d) (writer d)) ds) (sym (added a b (fresh_kept id) p))
        (all_append (λ d. P (reader d) (writer d)) (of_pair p) (both p.first p.second (fresh_kept id)) (all_front (λ d. P (reader d) (writer d)) (of_pair p) (directions ps) all) (here.0, (here.1, tt))))
        (all_back (λ d. P (reader d) (writer d)) (of_pair p) (directions ps) all)
    by_pair false is rest =
        all_append (λ d. P (reader d) (writer d)) (of_pair p) (directions (with_kept a b (fresh_kept id) ps)) (all_front (λ d. P (reader d) (writer d)) (of_pair p) (directions ps) all) rest

-- ---- all that a node opened

-- it is one of these sockets, is not kept yet, goes to that node, and its end arrives there
record IsNewly (nodes : List Addr) (node : ℕ) (ids : List SocketId) (ps : List SeenPair) (id : SocketId) (other : ℕ) : Type 0 where
  pub among : is_among id ids ≡ true
  pub unkept : is_kept id ps ≡ false
  pub towards : acceptor nodes node id ≡ Some other
  pub arrives : is_one_of (arrivals nodes node ids ps) (record { node = other; id = id }) ≡ true

-- what isn't kept when a socket was entered wasn't before
unkept_then : (node : ℕ) (id k : SocketId) (ps : List SeenPair) (where_to : Option ℕ) → is_kept k (kept_towards node id ps where_to) ≡ false → is_kept k ps ≡ false
unkept_then node id k ps None is = is
unkept_then node id k ps (Some other) is = at (is_kept id ps) is
  where
    at : (b : Bool) → is_kept k (if b then ps else with_kept node other (fresh_kept id) ps) ≡ false → is_kept k ps ≡ false
    at true is = is
    at false is = unkept_before node other (fresh_kept id) k ps is

-- the first of them
entered_so : (P : EndName → EndName → Type 0) (nodes : List Addr) (node : ℕ) (id : SocketId) (ids : List SocketId) (ps : List SeenPair) →
    ((x : SocketId) (other : ℕ) → IsNewly nodes node (id ∷ ids) ps x other → BothSo P node other x) → AllSo P ps → AllSo P (entered nodes node id ps)
entered_so P nodes node id ids ps so all = by_node (acceptor nodes node id) refl
  where
    by_node : (o : Option ℕ) → acceptor nodes node id ≡ o → AllSo P (kept_towards node id ps o)
    by_node None is = all
    by_node (Some other) is = by_kept (is_kept id ps) refl
      where
        end : EndName
        end = record { node = other; id = id }

        arrived : is_kept id ps ≡ false → is_one_of (arrivals_at id ps (acceptor nodes node id)) end ≡ true
        arrived unkept = rw (is, unkept, end_refl end) refl

        by_kept : (b : Bool) → is_kept id ps ≡ b → AllSo P (if b then ps else with_kept node other (fresh_kept id) ps)
        by_kept true unkept = all
        by_kept false unkept = with_so P node other id ps (so id other (record {
          among = or_left (same_socket id id) (is_among id ids) (same_refl id);
          unkept = unkept;
          towards = is;
          arrives = any-append end (arrivals_at id ps (acceptor nodes node id)) (arrivals nodes node ids (entered nodes node id ps))
              ∙ or_left (is_one_of (arrivals_at id ps (acceptor nodes node id)) end) (is_one_of (arrivals nodes node ids (entered nodes node id ps)) end) (arrived unkept);
        })) all

all_so : (P : EndName → EndName → Type 0) (nodes : List Addr) (node : ℕ) (ids : List SocketId) (ps : List SeenPair) →
    ((x : SocketId) (other : ℕ) → IsNewly nodes node ids ps x other → BothSo P node other x) → AllSo P ps → AllSo P (all_entered nodes node ids ps)
all_so P nodes node [] ps so all = all
all_so P nodes node (id ∷ ids) ps so all =
    all_so P nodes node ids (entered nodes node id ps) (λ x other new. so x other (later x other new)) (entered_so P nodes node id ids ps so all)
  where
    later : (x : SocketId) (other : ℕ) → IsNewly nodes node ids (entered nodes node id ps) x other → IsNewly nodes node (id ∷ ids) ps x other
    later x other new =
        let end : EndName = record { node = other; id = x } in record {
          among = or_right (same_socket x id) (is_among x ids) new.among;
          unkept = unkept_then node id x ps (acceptor nodes node id) new.unkept;
          towards = new.towards;
          arrives = any-append end (arrivals_at id ps (acceptor nodes node id)) (arrivals nodes node ids (entered nodes node id ps))
              ∙ or_right (is_one_of (arrivals_at id ps (acceptor nodes node id)) end) (is_one_of (arrivals nodes node ids (entered nodes node id ps)) end) new.arrives;
        }

-- ---- ends that were kept are not among those that arrive

kept_still : (nodes : List Addr) (node : ℕ) (id k : SocketId) (ps : List SeenPair) → is_kept k ps ≡ true → is_kept k (entered nodes node id ps) ≡ true
kept_still nodes node id k ps kept = at (is_kept k (entered nodes node id ps)) refl
  where
    at : (b : Bool) → is_kept k (entered nodes node id ps) ≡ b → b ≡ true
    at true is = refl
    at false is = absurd (false_isnt_true (sym (unkept_then node id k ps (acceptor nodes node id) is) ∙ kept))

unarrived : (nodes : List Addr) (node : ℕ) (ids : List SocketId) (ps : List SeenPair) (e : EndName) → is_kept e.id ps ≡ true → is_one_of (arrivals nodes node ids ps) e ≡ false
unarrived nodes node [] ps e kept = refl
unarrived nodes node (id ∷ ids) ps e kept =
    any-append e (arrivals_at id ps (acceptor nodes node id)) (arrivals nodes node ids (entered nodes node id ps))
    ∙ or_from (is_one_of (arrivals_at id ps (acceptor nodes node id)) e) (is_one_of (arrivals nodes node ids (entered nodes node id ps)) e)
    (by_node (acceptor nodes node id)) (unarrived nodes node ids (entered nodes node id ps) e (kept_still nodes node id e.id ps kept))
  where
    by_node : (o : Option ℕ) → is_one_of (arrivals_at id ps o) e ≡ false
    by_node None = refl
    by_node (Some other) = by_kept (is_kept id ps) refl
      where
        by_name : (s : Bool) → same_end (record { node = other; id = id }) e ≡ s → is_kept id ps ≡ false → (s || false) ≡ false
        by_name false same unkept = refl
        by_name true same unkept = absurd (false_isnt_true (sym unkept ∙ (ap (λ (x : EndName). is_kept x.id ps) (end_equal (record { node = other; id = id }) e same) ∙ kept)))

        by_kept : (b : Bool) → is_kept id ps ≡ b → is_one_of (if b then [] else record { node = other; id = id } ∷ []) e ≡ false
        by_kept true is = refl
        by_kept false is = by_name (same_end (record { node = other; id = id }) e) refl is

-- an end that doesn't come is as it was
stays_there : (es : List EndName) (a b : SeenHolder) (e : EndName) → Arrive es a b → is_one_of es e ≡ false → end_of b e ≡ end_of a e
stays_there es a b e p none = p.ends e ∙ ap (λ (c : Bool). if c && may_come e a then Some (fresh_end e.id) else end_of a e) none

-- ---- both ends are there

there_still : (es : List EndName) (a b : SeenHolder) (e : EndName) → Arrive es a b → IsSome (end_of a e) → IsSome (end_of b e)
there_still es a b e p there = ap is_some (p.ends e) ∙ at (comes es a e)
  where
    at : (c : Bool) → is_some (if c then Some (fresh_end e.id) else end_of a e) ≡ true
    at true = refl
    at false = there

open_there : (o : Option SeenEnd) → MatchOption o ⊥ (λ (e : SeenEnd). e.log.closed ≡ false) → IsSome o
open_there None is = absurd is
open_there (Some e) is = refl

-- an end that comes where it goes is there, whether it may come or not
come_there : (es : List EndName) (a b : SeenHolder) (e : EndName) → Arrive es a b → MadeHaveEnds a → WaitingAreOpen a → goes_to (a.at e.node) e.id ≡ true → is_one_of es e ≡ true →
    IsSome (end_of b e)
come_there es a b e p made waiting goes one = by_made (is_among e.id (a.made e.node)) refl (a.waits e.node e.id) refl
  where
    by_made : (m : Bool) → is_among e.id (a.made e.node) ≡ m → (w : Bool) → a.waits e.node e.id ≡ w → IsSome (end_of b e)
    by_made true is w waits = there_still es a b e p (made e.node e.id is)
    by_made false is true waits = there_still es a b e p (open_there (end_of a e) (waiting e.node e.id waits))
    by_made false is false waits =
        let may : comes es a e ≡ true = rw (one, goes, is, waits) refl in
        ap is_some (p.ends e ∙ ap (λ (c : Bool). if c then Some (fresh_end e.id) else end_of a e) may)

-- ---- the node to which a socket goes

goes_there : (nodes : List Addr) (node : ℕ) (id : SocketId) (other : ℕ) (h : SeenHolder) → ((n : ℕ) (at : Addr) → slice_get nodes n ≡ Some at → h.at n ≡ at) →
    acceptor nodes node id ≡ Some other → goes_to (h.at other) id ≡ true
goes_there nodes node id other h places is = by_from (comes_from id (slice_get nodes node)) is
  where
    found : position (λ (at : Addr). goes_to at id) nodes ≡ Some other → goes_to (h.at other) id ≡ true
    found at =
        let d = h.at other in
        let where_it_is = position-Some (λ (at : Addr). goes_to at id) nodes other d at in
        ap (λ (x : Addr). goes_to x id) (places other (get_or nodes other d) (slice_get-get_or nodes other d where_it_is.0)) ∙ where_it_is.1

    by_other : (o : Option ℕ) → position (λ (at : Addr). goes_to at id) nodes ≡ o → other_than node o ≡ Some other → goes_to (h.at other) id ≡ true
    by_other None at is = absurd (false_isnt_true (ap is_some is))
    by_other (Some n) at is = by_number _ is
      where
        by_number : (b : Bool) → (if b then None else Some n) ≡ Some other → goes_to (h.at other) id ≡ true
        by_number true is = absurd (false_isnt_true (ap is_some is))
        by_number false is = found (at ∙ is)

    by_from : (b : Bool) → (if b then other_than node (position (λ (at : Addr). goes_to at id) nodes) else None) ≡ Some other → goes_to (h.at other) id ≡ true
    by_from false is = absurd (false_isnt_true (ap is_some is))
    by_from true is = by_other (position (λ (at : Addr). goes_to at id) nodes) refl is

-- ---- nothing came to them

unread_met : (r w : Option SeenEnd) → IfSome r IsUnread → CameOfPut r w
unread_met None w unread = tt
unread_met (Some e) w unread = subst (λ o. IfSome o (λ bytes. GoesOn bytes (put_by w))) (sym (unread_came e e.inflow refl unread)) (put_by w, refl)

-- ---- what a node made since

among_rest : (k : SocketId) (n : ℕ) (xs : List SocketId) → is_among k (drop n xs) ≡ true → is_among k xs ≡ true
among_rest k zero xs is = is
among_rest k (suc n) [] is = is
among_rest k (suc n) (x ∷ xs) is = or_right (same_socket k x) (is_among k xs) (among_rest k n xs is)

-- ---- all of it

pub entered_met : (node : ℕ) (old new : Network) → Enters node old new → IsInStep old → HasItsEnds old → AreMet old → AreMet new
entered_met node old new p step has met = record { ends = ends; came = came }
  where
    a : SeenHolder
    a = old.holder

    b : SeenHolder
    b = new.holder

    nodes : List Addr
    nodes = old.fabric.nodes

    ps : List SeenPair
    ps = old.fabric.pairs

    ids : List SocketId
    ids = new_made node old

    es : List EndName
    es = arrivals nodes node ids ps

    same : (e : EndName) → is_kept e.id ps ≡ true → end_of b e ≡ end_of a e
    same e kept = stays_there es a b e p.arrive (unarrived nodes node ids ps e kept)

    -- the end of the node that opened the socket, and the end where it goes
    opener : (id : SocketId) → is_among id ids ≡ true → IsSome (end_of b (record { node = node; id = id }))
    opener id is = there_still es a b (record { node = node; id = id }) p.arrive (has.made node id (among_rest id (looked_at old.fabric node) (a.made node) is))

    taker : (id : SocketId) (other : ℕ) → IsNewly nodes node ids ps id other → IsSome (end_of b (record { node = other; id = id }))
    taker id other is = come_there es a b (record { node = other; id = id }) p.arrive has.made has.waiting (goes_there nodes node id other a has.places is.towards) is.arrives

    unread : (e : EndName) → is_kept e.id ps ≡ false → IfSome (end_of b e) IsUnread
    unread e unkept = unread_arrives es a b e p.arrive (step.others e unkept)

    There : SeenHolder → EndName → EndName → Type 0
    There h r w = IsSome (end_of h r)

    Came : SeenHolder → EndName → EndName → Type 0
    Came h r w = CameOfPut (end_of h r) (end_of h w)

    ends : HaveEnds b new.fabric
    ends = subst (AllSo (λ r w. IsSome (end_of b r))) (sym p.pairs)
        (all_so (λ r w. IsSome (end_of b r)) nodes node ids ps (λ id other is. (taker id other is, opener id is.among))
        (pairs_stay There (λ a b r w reads writes. subst IsSome (sym reads)) a b ps same met.ends))

    came : AllCameOfPut b new.fabric
    came = subst (AllSo (λ r w. CameOfPut (end_of b r) (end_of b w))) (sym p.pairs)
        (all_so (λ r w. CameOfPut (end_of b r) (end_of b w)) nodes node ids ps
        (λ id other is. (
          unread_met (end_of b (record { node = other; id = id })) (end_of b (record { node = node; id = id })) (unread (record { node = other; id = id }) is.unkept),
          unread_met (end_of b (record { node = node; id = id })) (end_of b (record { node = other; id = id })) (unread (record { node = node; id = id }) is.unkept),
        ))
        (pairs_stay Came (λ a b r w reads writes met. subst (λ o. CameOfPut o (end_of b w)) (sym reads) (subst (λ o. CameOfPut (end_of a r) o) (sym writes) met)) a b ps same met.came))

-- ---- ends stay there

pub entered_keeps : (node : ℕ) (old new : Network) → Enters node old new → HasItsEnds old → HasItsEnds new
entered_keeps node old new p has = record {
  made = λ n k is. there_still es a b (record { node = n; id = k }) p.arrive (has.made n k (ap (is_among k) (sym (p.arrive.made n)) ∙ is));
  waiting = λ n k waits. let e : EndName = record { node = n; id = k } in by_coming e (comes es a e) refl waits;
  places = λ n at is. p.arrive.at n ∙ has.places n at (ap (λ ns. slice_get ns n) (sym p.nodes) ∙ is);
}
  where
    a : SeenHolder
    a = old.holder

    b : SeenHolder
    b = new.holder

    es : List EndName
    es = arrivals old.fabric.nodes node (new_made node old) old.fabric.pairs

    IsOpen : Option SeenEnd → Type 0
    IsOpen o = MatchOption o ⊥ (λ (e : SeenEnd). e.log.closed ≡ false)

    by_coming : (e : EndName) (c : Bool) → comes es a e ≡ c → b.waits e.node e.id ≡ true → IsOpen (b.ends e.node e.id)
    by_coming e true is waits = subst IsOpen (sym (p.arrive.ends e ∙ ap (λ (c : Bool). if c then Some (fresh_end e.id) else a.ends e.node e.id) is)) refl
    by_coming e false is waits =
        subst IsOpen (sym (p.arrive.ends e ∙ ap (λ (c : Bool). if c then Some (fresh_end e.id) else a.ends e.node e.id) is))
        (has.waiting e.node e.id (sym (p.arrive.waits e ∙ ap (λ (c : Bool). c || a.waits e.node e.id) is) ∙ waits))
