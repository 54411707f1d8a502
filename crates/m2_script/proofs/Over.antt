-- The records of a node over its links, before the first line: each is between the node and another, no two are towards one peer, and
-- they are consistent beside nothing.
use Rattle.std.proofs.Common.{◌≡◌, ◌==◌, ◌<◌, ◌≤◌, ◌&&◌, ◌≢◌, ◌⊎◌, inl, inr, ℕ, suc, Bool, true, false, List, [], ◌∷◌, ◌++◌, length, get_or, map, Option, Some, None, refl, sym, ap, subst, ◌∙◌, arith}
use Rattle.std.specs.Prelude.{AllPairs, if◌then◌else◌, slice_get}
use Rattle.std.specs.List.{AllByRecursion, IsDistinct}
use Rattle.std.specs.Option.{option_to_list}
use Rattle.std.proofs.lemmas.Bool.{and_parts, cases_lt, eqb-true}
use Rattle.std.proofs.lemmas.List.Elements.{recursion_from_All}
use Rattle.std.proofs.lemmas.Option.{get_or_from_slice_get, none-some, same_Some, slice_get_within}
use Rattle.m2_addr.specs.declared.addr.Addr.{Addr}
use Rattle.m2_fabric.specs.CutPort.{fresh_cut_port}
use Rattle.m2_fabric.specs.Sockets.{same_socket}
use Rattle.m2_fabric.specs.declared.port.Cut.{Cut}
use Rattle.m2_fabric.specs.declared.socket.SocketId.{SocketId}
use Rattle.m2_journal.specs.m2_handshake.Asks.{same_addr}
use Rattle.m2_policy.specs.declared.policy.Policy.{Policy}
use Rattle.m2_record.specs.Calls.{Owns}
use Rattle.m2_record.specs.IsRecord.{new_record}
use Rattle.m2_record.specs.RecordNow.{RecordNow}
use Rattle.m2_cluster.specs.m2_center.Making.{CanBegin}
use Rattle.m2_scenario.specs.declared.link.Link.{Link}
use Rattle.m2_scenario.specs.declared.node.Node.{Node}
use Rattle.m2_scenario.specs.Draft.{DraftLine, joins}
use Rattle.m2_scenario.specs.Valid.{AreApart, IsLink, IsSound, JoinOthers}
use Rattle.m2_script.specs.declared.made.Towards.{Towards}
use Rattle.m2_script.specs.Made.{facts_of, new_towards, other_of, over, records_of, roomless}
use Rattle.m2_shared.specs.Numbers.{SeenNumberPass}
use Rattle.m2_shared.specs.declared.throttles.TakePasses.{TakePasses}
use Rattle.m2_shared.specs.Gates.{pass_places, peer_type}
use Rattle.m2_record.proofs.m2_core.Holding.{nothing_owned}
use Rattle.m2_cluster.specs.m2_center.m2_turn.Sessions.{IsSupplied, Supply, peer_of}
use Rattle.m2_bytes.proofs.m2_lemmas.Booleans.{or_right, or_left, both_true, one_of_or}
use Rattle.m2_bytes.proofs.m2_lemmas.Numbers.{same_number}

-- ---- links

abbrev pub JoinsSo : (a b : ℕ) → Link → Type 0
JoinsSo a b l = ((l.a ≡ a) × (l.b ≡ b)) ⊎ ((l.a ≡ b) × (l.b ≡ a))

pub joins_so : (a b : ℕ) (l : Link) → joins a b l ≡ true → JoinsSo a b l
joins_so a b l h = go (one_of_or ((l.a == a) && (l.b == b)) ((l.a == b) && (l.b == a)) h)
  where
    go : (((l.a == a) && (l.b == b)) ≡ true) ⊎ (((l.a == b) && (l.b == a)) ≡ true) → JoinsSo a b l
    go (inl e) = let p = and_parts (l.a == a) (l.b == b) e in inl (eqb-true l.a a p.0, eqb-true l.b b p.1)
    go (inr e) = let p = and_parts (l.a == b) (l.b == a) e in inr (eqb-true l.a b p.0, eqb-true l.b a p.1)

so_joins : (a b : ℕ) (l : Link) → JoinsSo a b l → joins a b l ≡ true
so_joins a b l (inl e) = or_left ((l.a == a) && (l.b == b)) ((l.a == b) && (l.b == a)) (both_true (l.a == a) (l.b == b) (same_number l.a a e.0) (same_number l.b b e.1))
so_joins a b l (inr e) = or_right ((l.a == a) && (l.b == b)) ((l.a == b) && (l.b == a)) (both_true (l.a == b) (l.b == a) (same_number l.a b e.0) (same_number l.b a e.1))

-- two links that join the same two nodes
join_same : (a b : ℕ) (l m : Link) → joins a b l ≡ true → joins a b m ≡ true → joins m.a m.b l ≡ true
join_same a b l m h g = so_joins m.a m.b l (go (joins_so a b l h) (joins_so a b m g))
  where
    go : JoinsSo a b l → JoinsSo a b m → JoinsSo m.a m.b l
    go (inl e) (inl f) = inl (e.0 ∙ sym f.0, e.1 ∙ sym f.1)
    go (inl e) (inr f) = inr (e.0 ∙ sym f.1, e.1 ∙ sym f.0)
    go (inr e) (inl f) = inr (e.0 ∙ sym f.1, e.1 ∙ sym f.0)
    go (inr e) (inr f) = inl (e.0 ∙ sym f.0, e.1 ∙ sym f.1)

true_false : true ≡ false → ⊥
true_false e = cc

-- an address is at the ip and port of one that is the same
same_sockets : (x y : Addr) → same_addr x y ≡ true → (x.ip ≡ y.ip) × (x.port ≡ y.port)
same_sockets x y e =
    let port = and_parts (((x.kind == y.kind) && (x.nonce == y.nonce)) && (x.ip == y.ip)) (x.port == y.port) e in
    let ip = and_parts ((x.kind == y.kind) && (x.nonce == y.nonce)) (x.ip == y.ip) port.0 in
    (eqb-true x.ip y.ip ip.1, eqb-true x.port y.port port.1)

-- ---- a record over a link

module _ (nodes : List Node) (k word : ℕ) where
  -- it is a new one, between this node and the other of the link
  pub record IsOver (l : Link) (r : RecordNow) : Type 0 where
    pub mine : Node
    pub peer : Node
    pub policy : Policy
    pub mine_there : slice_get nodes k ≡ Some mine
    pub peer_there : slice_get nodes r.place ≡ Some peer
    pub joined : joins k r.place l ≡ true
    pub is : r ≡ new_record (record { mine = mine.at; peer = peer.at; policy = policy; node = facts_of mine k word }) r.place (peer_type peer.entity)

  -- the other node of a link is the one that it joins with this one
  towards_other : (l : Link) (t : Towards) → other_of k l ≡ Some t → joins k t.place l ≡ true
  towards_other l t e = go (l.a == k) (l.b == k) refl refl e
    where
      go : (x y : Bool) → (l.a == k) ≡ x → (l.b == k) ≡ y →
          (if x then Some (record { place = l.b; policy = l.of_a }) else if y then Some (record { place = l.a; policy = l.of_b }) else None) ≡ Some t → joins k t.place l ≡ true
      go true y p q h =
          let other : l.b ≡ t.place = ap (λ (o : Towards). o.place) (same_Some (record { place = l.b; policy = l.of_a }) t h) in
          so_joins k t.place l (inl (eqb-true l.a k p, other))
      go false true p q h =
          let other : l.a ≡ t.place = ap (λ (o : Towards). o.place) (same_Some (record { place = l.a; policy = l.of_b }) t h) in
          so_joins k t.place l (inr (other, eqb-true l.b k q))
      go false false p q h = absurd (none-some t h)

  between : (l : Link) (t : Towards) (m p : Option Node) (r : RecordNow) → slice_get nodes k ≡ m → slice_get nodes t.place ≡ p → joins k t.place l ≡ true →
      new_towards m p k word t ≡ Some r → IsOver l r
  between l t (Some m) (Some p) r e f j h =
      let new : RecordNow = new_record (record { mine = m.at; peer = p.at; policy = t.policy; node = facts_of m k word }) t.place (peer_type p.entity) in
      subst (IsOver l) (same_Some new r h) (record { mine = m; peer = p; policy = t.policy; mine_there = e; peer_there = f; joined = j; is = refl })
  between l t (Some m) None r e f j h = absurd (none-some r h)
  between l t None (Some p) r e f j h = absurd (none-some r h)
  between l t None None r e f j h = absurd (none-some r h)

  pub is_over : (l : Link) (r : RecordNow) → over nodes k word (other_of k l) ≡ Some r → IsOver l r
  is_over l r e = go (other_of k l) refl e
    where
      go : (o : Option Towards) → other_of k l ≡ o → over nodes k word o ≡ Some r → IsOver l r
      go None p h = absurd (none-some r h)
      go (Some t) p h = between l t (slice_get nodes k) (slice_get nodes t.place) r refl refl (towards_other l t p) h

  -- ---- all of them

  pub all_over : (P : Link → Type 0) (Q : RecordNow → Type 0) → ((l : Link) (r : RecordNow) → P l → IsOver l r → Q r) →
      (links : List Link) → AllByRecursion P links → AllByRecursion Q (records_of nodes links k word)
  all_over P Q so [] all = tt
  all_over P Q so (l ∷ ls) all = go (over nodes k word (other_of k l)) refl (all_over P Q so ls all.1)
    where
      go : (o : Option RecordNow) → over nodes k word (other_of k l) ≡ o → AllByRecursion Q (records_of nodes ls k word) → AllByRecursion Q (option_to_list o ++ records_of nodes ls k word)
      go None e rest = rest
      go (Some r) e rest = (so l r all.0 (is_over l r e), rest)

  -- what parts the records of two links that join others parts each from all later ones
  pub apart_over : (e : RecordNow → RecordNow → Bool) → ((l m : Link) (r s : RecordNow) → JoinOthers l m → IsOver l r → IsOver m s → e r s ≡ false) →
      (links : List Link) → AllPairs JoinOthers links → IsDistinct e (records_of nodes links k word)
  unfolding IsDistinct
  apart_over e so [] pairs = tt
  apart_over e so (l ∷ ls) pairs =
      go (over nodes k word (other_of k l)) refl (apart_over e so ls (λ i j d a b. pairs (suc i) (suc j) d (omega (arith, a)) (omega (arith, b))))
    where
      later : AllByRecursion (JoinOthers l) ls
      later = recursion_from_All (JoinOthers l) ls (λ j d b. pairs 0 (suc j) d (omega arith) (omega (arith, b)))

      go : (o : Option RecordNow) → over nodes k word (other_of k l) ≡ o → IsDistinct e (records_of nodes ls k word) → IsDistinct e (option_to_list o ++ records_of nodes ls k word)
      go None p rest = rest
      go (Some r) p rest = (all_over (JoinOthers l) (λ (s : RecordNow). e r s ≡ false) (λ m s j v. so l m r s j (is_over l r p) v) ls later, rest)

  -- ---- two records are towards different peers

  pub places_differ : (l m : Link) (r s : RecordNow) → JoinOthers l m → IsOver l r → IsOver m s → (r.place == s.place) ≡ false
  places_differ l m r s others a b = go (r.place == s.place) refl
    where
      go : (x : Bool) → (r.place == s.place) ≡ x → x ≡ false
      go false e = refl
      go true e =
          let towards : joins k r.place m ≡ true = subst (λ p. joins k p m ≡ true) (sym (eqb-true r.place s.place e)) b.joined in
          absurd (true_false (sym (join_same k r.place l m a.joined towards) ∙ others))

  -- nodes at different places are apart
  apart_at : AllPairs AreApart nodes → (i j : ℕ) (x y : Node) → slice_get nodes i ≡ Some x → slice_get nodes j ≡ Some y → (i == j) ≡ false →
      (x.at.ip ≡ y.at.ip) × (x.at.port ≡ y.at.port) → ⊥
  apart_at pairs i j x y e f different same = go (cases_lt i j)
    where
      is_x : get_or nodes i x ≡ x
      is_x = get_or_from_slice_get nodes i x x e

      is_y : get_or nodes j x ≡ y
      is_y = get_or_from_slice_get nodes j y x f

      unequal : i ≢ j
      unequal e = true_false (sym (same_number i j e) ∙ different)

      go : (i < j) ⊎ (j ≤ i) → ⊥
      go (inl before) =
          let apart : AreApart (get_or nodes i x) (get_or nodes j x) = pairs i j x before (slice_get_within nodes j y f) in
          (subst (λ (z : Node). AreApart z y) is_x (subst (λ (z : Node). AreApart (get_or nodes i x) z) is_y apart)).sockets same
      go (inr past) =
          let before : j < i = omega (arith, past, unequal) in
          let apart : AreApart (get_or nodes j x) (get_or nodes i x) = pairs j i x before (slice_get_within nodes i x e) in
          (subst (λ (z : Node). AreApart z x) is_y (subst (λ (z : Node). AreApart (get_or nodes j x) z) is_x apart)).sockets (sym same.0, sym same.1)

  peer_at : (l : Link) (r : RecordNow) (a : IsOver l r) → peer_of r ≡ a.peer.at
  peer_at l r a = ap peer_of a.is

  pub peers_differ : AllPairs AreApart nodes → (l m : Link) (r s : RecordNow) → JoinOthers l m → IsOver l r → IsOver m s → same_addr (peer_of r) (peer_of s) ≡ false
  peers_differ pairs l m r s others a b = go (same_addr a.peer.at b.peer.at) refl (ap (λ p. same_addr p (peer_of s)) (peer_at l r a) ∙ ap (same_addr a.peer.at) (peer_at m s b))
    where
      go : (x : Bool) → same_addr a.peer.at b.peer.at ≡ x → same_addr (peer_of r) (peer_of s) ≡ same_addr a.peer.at b.peer.at → same_addr (peer_of r) (peer_of s) ≡ false
      go false e same = same ∙ e
      go true e same = absurd (apart_at pairs r.place s.place a.peer b.peer a.peer_there b.peer_there (places_differ l m r s others a b) (same_sockets a.peer.at b.peer.at e))

-- ---- up to a part of them

-- what follows of what records show holds of them
pub all_through : (show : RecordNow → RecordNow) (P Q : RecordNow → Type 0) → ((r : RecordNow) → Q (show r) → P r) → (rs : List RecordNow) → AllByRecursion Q (map show rs) → AllByRecursion P rs
all_through show P Q so [] all = tt
all_through show P Q so (r ∷ rs) all = (so r all.0, all_through show P Q so rs all.1)

pub each_of : {X Y : Type 0} (f : X → Y) (P : Y → Type 0) (xs : List X) → AllByRecursion (λ x. P (f x)) xs → AllByRecursion P (map f xs)
each_of f P [] all = tt
each_of f P (x ∷ xs) all = (all.0, each_of f P xs all.1)

-- what parts records by something of them parts that
pub distinct_of : {X Y : Type 0} (f : X → Y) (e : Y → Y → Bool) (xs : List X) → IsDistinct (λ (x y : X). e (f x) (f y)) xs → IsDistinct e (map f xs)
unfolding IsDistinct
distinct_of f e [] d = tt
distinct_of f e (x ∷ xs) d = (each_of f (λ y. e (f x) y ≡ false) xs d.0, distinct_of f e xs d.1)

-- what is seen of what they show is seen of them
pub map_through : {Y : Type 0} (show : RecordNow → RecordNow) (f : RecordNow → Y) → ((r : RecordNow) → f (show r) ≡ f r) → (rs : List RecordNow) → map f (map show rs) ≡ map f rs
map_through show f so [] = refl
map_through show f so (r ∷ rs) = ap (λ y. y ∷ map f (map show rs)) (so r) ∙ ap (λ ys. f r ∷ ys) (map_through show f so rs)

pub map_roomless : {Y : Type 0} (f : RecordNow → Y) → ((r : RecordNow) → f (roomless r) ≡ f r) → (rs : List RecordNow) → map f (map roomless rs) ≡ map f rs
map_roomless f so rs = map_through roomless f so rs

pub none_apart : IsDistinct same_socket []
unfolding IsDistinct
none_apart = tt

-- ---- a center can begin with them

module _ (nodes : List Node) (links : List Link) (lines : List DraftLine) (sound : IsSound nodes links lines) (k word : ℕ) (rs : List RecordNow) (is : map roomless rs ≡ records_of nodes links k word) where
  -- what holds of each new record over a link holds of each of these
  pub all_so : (P Q : RecordNow → Type 0) → ((l : Link) (r : RecordNow) → IsLink (length nodes) l → IsOver nodes k word l r → Q r) → ((r : RecordNow) → Q (roomless r) → P r) → AllByRecursion P rs
  all_so P Q new so =
      all_through roomless P Q so rs (subst (AllByRecursion Q) (sym is) (all_over nodes k word (IsLink (length nodes)) Q new links (recursion_from_All (IsLink (length nodes)) links sound.joined)))

  supplied : (s : Supply) (l : Link) (r : RecordNow) → IsOver nodes k word l r → IsSupplied s [] r
  supplied s l r v = subst (IsSupplied s []) (sym v.is) (record { owned = record { feed = nothing_owned s.places _; parcels = tt }; top = omega arith; made = λ i new. new })

  pub peers_apart : IsDistinct same_addr (map peer_of rs)
  peers_apart =
      subst (IsDistinct same_addr) (sym (ap (map peer_of) is) ∙ map_roomless peer_of (λ r. refl) rs)
      (distinct_of peer_of same_addr (records_of nodes links k word) (apart_over nodes k word (λ (r s : RecordNow). same_addr (peer_of r) (peer_of s)) (peers_differ nodes k word sound.apart) links sound.joined_once))

  pub places_apart : IsDistinct (λ (a b : ℕ). a == b) (map (λ (r : RecordNow). r.place) rs)
  places_apart =
      let place : RecordNow → ℕ = λ (r : RecordNow). r.place in
      subst (IsDistinct (λ (a b : ℕ). a == b)) (sym (ap (map place) is) ∙ map_roomless place (λ r. refl) rs)
      (distinct_of place (λ (a b : ℕ). a == b) (records_of nodes links k word) (apart_over nodes k word (λ (r s : RecordNow). r.place == s.place) (places_differ nodes k word) links sound.joined_once))

  entity_so : (x : Node) → slice_get nodes k ≡ Some x → (l : Link) (r : RecordNow) → IsOver nodes k word l r → r.core.facts.node.entity ≡ x.entity
  entity_so x e l r v = ap (λ (s : RecordNow). s.core.facts.node.entity) v.is ∙ ap (λ (n : Node). n.entity) (same_Some v.mine x (sym v.mine_there ∙ e))

  pub can_begin : (x : Node) → slice_get nodes k ≡ Some x → (cuts : List Cut) (bytes : TakePasses) (numbers : SeenNumberPass) → CanBegin x.entity (fresh_cut_port x.at cuts) rs bytes numbers
  can_begin x e cuts bytes numbers =
      let s : Supply = record { places = pass_places bytes; least = numbers.least } in
      record {
        records = all_so (IsSupplied s []) (IsSupplied s []) (λ l r fits. supplied s l r)
            (λ r given. record { owned = record { feed = given.owned.feed; parcels = given.owned.parcels }; top = given.top; made = given.made });
        kind = all_so (λ (r : RecordNow). r.core.facts.node.entity ≡ x.entity) (λ (r : RecordNow). r.core.facts.node.entity ≡ x.entity) (λ l r fits. entity_so x e l r) (λ r so. so);
        peers = peers_apart;
        halves = tt;
        loose = tt;
        apart = none_apart;
      }

-- what they hold was granted by its throttles
pub all_owned : (s : Supply) (made : List SocketId) (rs : List RecordNow) → AllByRecursion (IsSupplied s made) rs → AllByRecursion (Owns s.places) rs
all_owned s made [] all = tt
all_owned s made (r ∷ rs) all = (all.0.owned, all_owned s made rs all.1)
