-- The first half on a socket, by the keys of a slab, is the first among their ends.
use Rattle.std.proofs.Common.{◌≡◌, ℕ, Bool, true, false, if◌then◌else◌, List, [], ◌∷◌, ◌++◌, map, Option, Some, None, is_some, refl, sym, ap, ◌∙◌}
use Rattle.std.specs.List.{cons_option}
use Rattle.std.specs.Option.{option_map}
use Rattle.slab.specs.Slab.{Slab, get}
use Rattle.m2_fabric.specs.declared.socket.SocketId.{SocketId}
use Rattle.m2_fabric.specs.End.{SeenEnd}
use Rattle.m2_fabric.specs.Log.{Log}
use Rattle.m2_fabric.specs.Sockets.{same_socket}
use Rattle.m2_record.specs.Sources.{end_at}
use Rattle.m2_turn.specs.Hearing.{is_on}
use Rattle.m2_turn.specs.Pending.{first_key, in_order, is_found}
use Rattle.m2_turn.specs.Sessions.{PendingNow}
use Rattle.m2_bytes.proofs.m2_lemmas.Booleans.{false_isnt_true}

abbrev value_under : Slab PendingNow → Option ℕ → Option PendingNow
value_under s None = None
value_under s (Some k) = get s k

abbrev log_in : Option PendingNow → Option Log
log_in o = option_map (λ (p : PendingNow). p.half.end.log) o

abbrev pub log_among : List PendingNow → SocketId → Option Log
log_among ps id = option_map (λ (e : SeenEnd). e.log) (end_at (map (λ (p : PendingNow). p.half.end) ps) id)

pub first_log : (s : Slab PendingNow) (id : SocketId) (keys : List ℕ) → log_in (value_under s (first_key (is_on id) s keys)) ≡ log_among (in_order s keys) id
first_log s id [] = refl
first_log s id (k ∷ ks) = at (get s k) refl (first_log s id ks)
  where
    Rest : Type 0
    Rest = log_in (value_under s (first_key (is_on id) s ks)) ≡ log_among (in_order s ks) id

    by : (x : PendingNow) (b : Bool) → get s k ≡ Some x → Rest →
        log_in (value_under s (if b then Some k else first_key (is_on id) s ks))
        ≡ option_map (λ (e : SeenEnd). e.log) (if b then Some x.half.end else end_at (map (λ (p : PendingNow). p.half.end) (in_order s ks)) id)
    by x true e rest = ap log_in e
    by x false e rest = rest

    at : (o : Option PendingNow) → get s k ≡ o → Rest →
        log_in (value_under s (if is_found (is_on id) o then Some k else first_key (is_on id) s ks)) ≡ log_among (cons_option o (in_order s ks)) id
    at (Some x) e rest = by x (is_on id x) e rest
    at None e rest = rest

pub first_is : (s : Slab PendingNow) (id : SocketId) (key : ℕ) (keys : List ℕ) → first_key (is_on id) s keys ≡ Some key → log_in (get s key) ≡ log_among (in_order s keys) id
first_is s id key keys e = sym (ap (λ o. log_in (value_under s o)) e) ∙ first_log s id keys

pub none_is : (s : Slab PendingNow) (id : SocketId) (keys : List ℕ) → first_key (is_on id) s keys ≡ None → None ≡ log_among (in_order s keys) id
none_is s id keys e = sym (ap (λ o. log_in (value_under s o)) e) ∙ first_log s id keys

-- ---- among ends of two lists

abbrev log_at : List SeenEnd → SocketId → Option Log
log_at es k = option_map (λ (e : SeenEnd). e.log) (end_at es k)

pub first_part : (xs ys : List SeenEnd) (k : SocketId) (l : Log) → Some l ≡ log_at xs k → Some l ≡ log_at (xs ++ ys) k
first_part [] ys k l h = absurd (false_isnt_true (sym (ap is_some h)))
first_part (x ∷ xs) ys k l h = at (same_socket k x.id) h (λ g. first_part xs ys k l g)
  where
    at : (b : Bool) → Some l ≡ option_map (λ (e : SeenEnd). e.log) (if b then Some x else end_at xs k) → (Some l ≡ log_at xs k → Some l ≡ log_at (xs ++ ys) k) →
        Some l ≡ option_map (λ (e : SeenEnd). e.log) (if b then Some x else end_at (xs ++ ys) k)
    at true g rest = g
    at false g rest = rest g

pub second_part : (xs ys : List SeenEnd) (k : SocketId) → None ≡ log_at xs k → log_at ys k ≡ log_at (xs ++ ys) k
second_part [] ys k h = refl
second_part (x ∷ xs) ys k h = at (same_socket k x.id) h (λ g. second_part xs ys k g)
  where
    at : (b : Bool) → None ≡ option_map (λ (e : SeenEnd). e.log) (if b then Some x else end_at xs k) → (None ≡ log_at xs k → log_at ys k ≡ log_at (xs ++ ys) k) →
        log_at ys k ≡ option_map (λ (e : SeenEnd). e.log) (if b then Some x else end_at (xs ++ ys) k)
    at true g rest = absurd (false_isnt_true (ap is_some g))
    at false g rest = rest g
