-- A socket that no trail names has no trail.
use Rattle.std.proofs.Common.{◌≡◌, Bool, true, false, ◌||◌, if◌then◌else◌, List, [], ◌∷◌, map, Some, None, refl, sym, ap, ◌∙◌}
use Rattle.m2_fabric.specs.Sockets.{is_among, same_socket}
use Rattle.m2_fabric.specs.declared.socket.SocketId.{SocketId}
use Rattle.m2_bytes.proofs.m2_lemmas.Booleans.{from_false_true}
use Rattle.m2_record.specs.Sources.{trail_at}
use Rattle.m2_trail.specs.Trails.{TrailNow}

pub no_trail : (ts : List TrailNow) (k : SocketId) → is_among k (map (λ (t : TrailNow). t.socket) ts) ≡ false → trail_at ts k ≡ None
no_trail [] k h = refl
no_trail (t ∷ ts) k h = at (same_socket k t.socket) refl h (no_trail ts k)
  where
    at : (b : Bool) → same_socket k t.socket ≡ b → b || is_among k (map (λ (t : TrailNow). t.socket) ts) ≡ false → (is_among k (map (λ (t : TrailNow). t.socket) ts) ≡ false → trail_at ts k ≡ None) → trail_at (t ∷ ts) k ≡ None
    at true q none later = from_false_true (sym none)
    at false q none later = ap (λ b. if b then Some t else trail_at ts k) q ∙ later none
