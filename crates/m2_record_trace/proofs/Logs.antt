-- What the end of a socket did, among the ends of some and then of others.
use Rattle.std.proofs.Common.{◌≡◌, Bool, true, false, if◌then◌else◌, List, [], ◌∷◌, ◌++◌, Option, Some, None, refl, sym, ap, ◌∙◌}
use Rattle.std.specs.Option.{option_map, option_or}
use Rattle.m2_fabric.specs.declared.socket.SocketId.{SocketId}
use Rattle.m2_fabric.specs.End.{SeenEnd}
use Rattle.m2_fabric.specs.Log.{Log}
use Rattle.m2_fabric.specs.Sockets.{same_socket}
use Rattle.m2_record.specs.Sources.{end_at}
use Rattle.m2_record_trace.specs.SideNow.{log_in}

log_either : (k : SocketId) (xs ys : List SeenEnd) → log_in (xs ++ ys) k ≡ option_or (log_in xs k) (log_in ys k)
log_either k [] ys = refl
log_either k (x ∷ xs) ys = at (same_socket k x.id) (log_either k xs ys)
  where
    log : Option SeenEnd → Option Log
    log o = option_map (λ (e : SeenEnd). e.log) o

    at : (b : Bool) → log_in (xs ++ ys) k ≡ option_or (log_in xs k) (log_in ys k) → log (if b then Some x else end_at (xs ++ ys) k) ≡ option_or (log (if b then Some x else end_at xs k)) (log_in ys k)
    at true rest = refl
    at false rest = rest

map_either : {X Y : Type 0} (f : X → Y) (o p : Option X) → option_map f (option_or o p) ≡ option_or (option_map f o) (option_map f p)
map_either f (Some x) p = refl
map_either f None p = refl

-- of one that was found among the first, or else among the others
pub found_in : {X : Type 0} (f : X → Log) (k : SocketId) (o p : Option X) (xs ys : List SeenEnd) → option_map f o ≡ log_in xs k → option_map f p ≡ log_in ys k → option_map f (option_or o p) ≡ log_in (xs ++ ys) k
found_in f k o p xs ys first others =
    map_either f o p ∙ ap (λ l. option_or l (option_map f p)) first ∙ ap (λ l. option_or (log_in xs k) l) others ∙ sym (log_either k xs ys)
