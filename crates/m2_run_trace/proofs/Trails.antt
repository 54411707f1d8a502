-- The trail on a socket is in the first record that has one.
use Rattle.std.proofs.Common.{◌≡◌, Bool, true, false, List, [], ◌∷◌, ◌++◌, Some, None, if◌then◌else◌, refl, sym, ap, ◌∙◌}
use Rattle.std.specs.List.{flat_map}
use Rattle.std.specs.Prelude.{Option}
use Rattle.m2_fabric.specs.declared.socket.SocketId.{SocketId}
use Rattle.m2_fabric.specs.Sockets.{same_socket}
use Rattle.m2_promise.specs.m2_script.m2_record.RecordNow.{RecordNow}
use Rattle.m2_promise.specs.m2_script.m2_record.Sources.{trail_at}
use Rattle.m2_run_trace.specs.Sockets.{trail_in}
use Rattle.m2_trail.specs.Trails.{TrailNow}

found_by : (b : Bool) (t x : TrailNow) (less more : Option TrailNow) → (if b then Some t else less) ≡ Some x → (less ≡ Some x → more ≡ Some x) → (if b then Some t else more) ≡ Some x
found_by true t x less more h f = h
found_by false t x less more h f = f h

found : (ts us : List TrailNow) (s : SocketId) (x : TrailNow) → trail_at ts s ≡ Some x → trail_at (ts ++ us) s ≡ Some x
found [] us s x h = cc
found (t ∷ ts) us s x h = found_by (same_socket s t.socket) t x (trail_at ts s) (trail_at (ts ++ us) s) h (found ts us s x)

past_by : (b : Bool) (t : TrailNow) (less more : Option TrailNow) (r : Option TrailNow) → (if b then Some t else less) ≡ None → (less ≡ None → more ≡ r) → (if b then Some t else more) ≡ r
past_by true t less more r h f = cc
past_by false t less more r h f = f h

past : (ts us : List TrailNow) (s : SocketId) → trail_at ts s ≡ None → trail_at (ts ++ us) s ≡ trail_at us s
past [] us s h = refl
past (t ∷ ts) us s h = past_by (same_socket s t.socket) t (trail_at ts s) (trail_at (ts ++ us) s) (trail_at us s) h (past ts us s)

module _ (first : RecordNow) (rest all : List RecordNow) (s : SocketId) (ts : List TrailNow) (split : all ≡ first ∷ rest) (its : ts ≡ first.trails) where
  of_all : (r : Option TrailNow) → r ≡ trail_at (first.trails ++ flat_map (λ (x : RecordNow). x.trails) rest) s → r ≡ trail_in all s
  of_all r h = h ∙ sym (ap (λ (rs : List RecordNow). trail_in rs s) split)

  pub found_first : (x : TrailNow) → Some x ≡ trail_at ts s → Some x ≡ trail_in all s
  found_first x h = of_all (Some x) (sym (found first.trails (flat_map (λ (x : RecordNow). x.trails) rest) s x (sym (h ∙ ap (λ (us : List TrailNow). trail_at us s) its))))

  pub found_later : (r : Option TrailNow) → None ≡ trail_at ts s → r ≡ trail_in rest s → r ≡ trail_in all s
  found_later r none h =
      of_all r (h ∙ sym (past first.trails (flat_map (λ (x : RecordNow). x.trails) rest) s (sym (none ∙ ap (λ (us : List TrailNow). trail_at us s) its))))
