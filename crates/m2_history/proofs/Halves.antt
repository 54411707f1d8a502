-- The halves of the asks that a journal judged, one entry at a time.
use Rattle.std.proofs.Common.{◌≡◌, true, ◌||◌, List, ◌∷◌, map, refl}
use Rattle.std.proofs.lemmas.List.Folds.{list_any-append}
use Rattle.m2_fabric.specs.declared.socket.SocketId.{SocketId}
use Rattle.m2_fabric.specs.Sockets.{is_among, same_socket}
use Rattle.m2_journal.specs.declared.entry.Entry.{Entry}
use Rattle.m2_journal.specs.declared.entry.Entry.TheVariants as entry
use Rattle.m2_journal.specs.State.{Judgement}
use Rattle.m2_record.specs.TakenTrails.{judgements_in}
use Rattle.m2_trail.specs.Arrivals.{LooseNow}
use Rattle.m2_trail.specs.Trails.{TrailNow}
use Rattle.m2_history.specs.Halves.{has_half, judges_on}
use Rattle.m2_history.specs.Link.{HaveHalves, half_sockets}

-- ---- the halves of judged asks

pub halves_more : (trails : List TrailNow) (loose : List LooseNow) (e : Entry) (es : List Entry) → has_half (half_sockets trails loose) e ≡ true → HaveHalves trails loose (judgements_in es) → HaveHalves trails loose (judgements_in (e ∷ es))
halves_more trails loose (entry.Judged socket ask number answer) es here more = (here, more)
halves_more trails loose _ es here more = more

pub among_halves : (k : SocketId) (trails : List TrailNow) (loose : List LooseNow) → is_among k (half_sockets trails loose) ≡ (is_among k (map (λ (t : TrailNow). t.socket) trails) || is_among k (map (λ (l : LooseNow). l.trail.socket) loose))
among_halves k trails loose = list_any-append (same_socket k) (map (λ (t : TrailNow). t.socket) trails) (map (λ (l : LooseNow). l.trail.socket) loose)

-- ---- on which sockets

abbrev sockets : List Judgement → List SocketId
sockets js = map (λ (j : Judgement). j.socket) js

pub judges_more : (k : SocketId) (e : Entry) (es : List Entry) → is_among k (sockets (judgements_in (e ∷ es))) ≡ (judges_on k e || is_among k (sockets (judgements_in es)))
judges_more k (entry.Judged socket ask number answer) es = refl
judges_more k _ es = refl
