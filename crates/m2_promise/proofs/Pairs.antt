-- The sockets that come to be kept are between the node that opened them and the one at which they arrive.
use Rattle.std.proofs.Common.{◌≡◌, ℕ, ◌||◌, Bool, true, false, if◌then◌else◌, List, [], ◌∷◌, ◌++◌, map, Option, Some, None, refl, sym, ap, subst, ◌∙◌, ◌⊎◌, inl, inr}
use Rattle.std.specs.List.{AllByRecursion, list_any}
use Rattle.m2_fabric.specs.m2_addr.declared.addr.Addr.{Addr}
use Rattle.m2_fabric.specs.declared.socket.SocketId.{SocketId}
use Rattle.m2_fabric.specs.Holder.{EndName}
use Rattle.m2_fabric.specs.Sockets.{same_socket}
use Rattle.m2_links_go_on.proofs.m2_growth.Entering.{AllSo, with_so}
use Rattle.m2_fabric.specs.Kept.{SeenPair, directions, fresh_kept, is_kept, joins, reader, same_end, with_kept, writer}
use Rattle.m2_fabric.specs.Meeting.{acceptor, all_entered, arrivals, arrivals_at, entered, is_one_of, kept_towards}
use Rattle.m2_fabric.specs.News.{Logs, kept_after, pair_after}
use Rattle.m2_fabric.proofs.Arriving.{any-append}
use Rattle.m2_fabric.proofs.Entering.{unkept_before}
use Rattle.m2_fabric.proofs.Flowing.{directions_after}
use Rattle.m2_fabric.proofs.Told.{end_equal}
use Rattle.m2_links_go_on.proofs.m2_growth.Telling.{behind}
use Rattle.m2_fabric.proofs.m2_lemmas.Booleans.{false_isnt_true, or_right}
use Rattle.m2_fabric.proofs.Sockets.{same_refl}

-- ---- between two nodes

-- the node of the one end opened the socket towards that of the other
abbrev pub Between : List Addr → EndName → EndName → Type 0
Between nodes r w = (acceptor nodes w.node w.id ≡ Some r.node) ⊎ (acceptor nodes r.node r.id ≡ Some w.node)

-- a socket that the node opened is between it and the node at which it arrives
one_between : (nodes : List Addr) (node : ℕ) (id : SocketId) (ps : List SeenPair) (o : Option ℕ) → acceptor nodes node id ≡ o → AllSo (Between nodes) ps →
    AllSo (Between nodes) (kept_towards node id ps o)
one_between nodes node id ps None is all = all
one_between nodes node id ps (Some other) is all = at (is_kept id ps)
  where
    at : (b : Bool) → AllSo (Between nodes) (if b then ps else with_kept node other (fresh_kept id) ps)
    at true = all
    at false = with_so (Between nodes) node other id ps (inl is, inr is) all

pub entered_between : (nodes : List Addr) (node : ℕ) (ids : List SocketId) (ps : List SeenPair) → AllSo (Between nodes) ps → AllSo (Between nodes) (all_entered nodes node ids ps)
entered_between nodes node [] ps all = all
entered_between nodes node (id ∷ ids) ps all =
    entered_between nodes node ids (entered nodes node id ps) (one_between nodes node id ps (acceptor nodes node id) refl all)

pub passed_so : (P : EndName → EndName → Type 0) (what : _) (l : Logs) (ps : List SeenPair) → AllSo P ps → AllSo P (map (pair_after what l) ps)
passed_so P what l ps all =
    subst (λ ds. AllByRecursion (λ d. P (reader d) (writer d)) ds) (sym (directions_after what l ps)) (behind P what l (directions ps) all)

-- ---- sockets stay kept

-- what was kept before a socket came is so with it
kept_then : (node : ℕ) (id k : SocketId) (ps : List SeenPair) (o : Option ℕ) → is_kept k ps ≡ true → is_kept k (kept_towards node id ps o) ≡ true
kept_then node id k ps None kept = kept
kept_then node id k ps (Some other) kept = at (is_kept id ps)
  where
    by : (b : Bool) → is_kept k (with_kept node other (fresh_kept id) ps) ≡ b → b ≡ true
    by true is = refl
    by false is = absurd (false_isnt_true (sym (unkept_before node other (fresh_kept id) k ps is) ∙ kept))

    at : (b : Bool) → is_kept k (if b then ps else with_kept node other (fresh_kept id) ps) ≡ true
    at true = kept
    at false = by (is_kept k (with_kept node other (fresh_kept id) ps)) refl

pub all_kept : (nodes : List Addr) (node : ℕ) (ids : List SocketId) (ps : List SeenPair) (k : SocketId) → is_kept k ps ≡ true → is_kept k (all_entered nodes node ids ps) ≡ true
all_kept nodes node [] ps k kept = kept
all_kept nodes node (id ∷ ids) ps k kept = all_kept nodes node ids (entered nodes node id ps) k (kept_then node id k ps (acceptor nodes node id) kept)

has_after : (what : _) (l : Logs) (a b : ℕ) (id : SocketId) (ks : _) →
    list_any (λ k. same_socket k.id id) (map (kept_after what l a b) ks) ≡ list_any (λ k. same_socket k.id id) ks
has_after what l a b id [] = refl
has_after what l a b id (k ∷ ks) = ap (λ (r : Bool). same_socket k.id id || r) (has_after what l a b id ks)

pub kept_passed : (what : _) (l : Logs) (id : SocketId) (ps : List SeenPair) → is_kept id (map (pair_after what l) ps) ≡ is_kept id ps
kept_passed what l id [] = refl
kept_passed what l id (p ∷ ps) =
    ap (λ (r : Bool). r || is_kept id (map (pair_after what l) ps)) (has_after what l p.first p.second id p.sockets)
    ∙ ap (λ (r : Bool). list_any (λ k. same_socket k.id id) p.sockets || r) (kept_passed what l id ps)

-- ---- an end comes only of a socket that is kept from then on

has_last : (id : SocketId) (ks : _) → list_any (λ k. same_socket k.id id) (ks ++ fresh_kept id ∷ []) ≡ true
has_last id [] = ap (λ (b : Bool). b || false) (same_refl id)
has_last id (k ∷ ks) = or_right (same_socket k.id id) _ (has_last id ks)

with_keeps : (a b : ℕ) (id : SocketId) (ps : List SeenPair) → is_kept id (with_kept a b (fresh_kept id) ps) ≡ true
with_keeps a b id [] = ap (λ (b : Bool). (b || false) || false) (same_refl id)
with_keeps a b id (p ∷ ps) = by_pair (joins a b p) (with_keeps a b id ps)
  where
    by_pair : (j : Bool) → is_kept id (with_kept a b (fresh_kept id) ps) ≡ true →
        is_kept id (if j then record p { sockets = p.sockets ++ fresh_kept id ∷ [] } ∷ ps else p ∷ with_kept a b (fresh_kept id) ps) ≡ true
    by_pair true rest = ap (λ (b : Bool). b || is_kept id ps) (has_last id p.sockets)
    by_pair false rest = or_right _ (is_kept id (with_kept a b (fresh_kept id) ps)) rest

one_keeps : (node : ℕ) (id : SocketId) (ps : List SeenPair) (e : EndName) (o : Option ℕ) → is_one_of (arrivals_at id ps o) e ≡ true → is_kept e.id (kept_towards node id ps o) ≡ true
one_keeps node id ps e None is = absurd (false_isnt_true is)
one_keeps node id ps e (Some other) is = at (is_kept id ps) is
  where
    by_name : (s : Bool) → same_end (record { node = other; id = id }) e ≡ s → (s || false) ≡ true → is_kept e.id (with_kept node other (fresh_kept id) ps) ≡ true
    by_name false same is = absurd (false_isnt_true is)
    by_name true same is =
        subst (λ (x : EndName). is_kept x.id (with_kept node other (fresh_kept id) ps) ≡ true) (end_equal (record { node = other; id = id }) e same) (with_keeps node other id ps)

    at : (b : Bool) → is_one_of (if b then [] else record { node = other; id = id } ∷ []) e ≡ true → is_kept e.id (if b then ps else with_kept node other (fresh_kept id) ps) ≡ true
    at true is = absurd (false_isnt_true is)
    at false is = by_name (same_end (record { node = other; id = id }) e) refl is

pub arriving_keeps : (nodes : List Addr) (node : ℕ) (ids : List SocketId) (ps : List SeenPair) (e : EndName) → is_one_of (arrivals nodes node ids ps) e ≡ true →
    is_kept e.id (all_entered nodes node ids ps) ≡ true
arriving_keeps nodes node [] ps e is = absurd (false_isnt_true is)
arriving_keeps nodes node (id ∷ ids) ps e is =
    at (is_one_of (arrivals_at id ps (acceptor nodes node id)) e) refl (λ one. arriving_keeps nodes node ids (entered nodes node id ps) e one)
    (sym (any-append e (arrivals_at id ps (acceptor nodes node id)) (arrivals nodes node ids (entered nodes node id ps))) ∙ is)
  where
    later : Bool
    later = is_one_of (arrivals nodes node ids (entered nodes node id ps)) e

    kept : Type 0
    kept = is_kept e.id (all_entered nodes node ids (entered nodes node id ps)) ≡ true

    at : (b : Bool) → is_one_of (arrivals_at id ps (acceptor nodes node id)) e ≡ b → (later ≡ true → kept) → (b || later) ≡ true → kept
    at true one rest is = all_kept nodes node ids (entered nodes node id ps) e.id (one_keeps node id ps e (acceptor nodes node id) one)
    at false one rest is = rest is
