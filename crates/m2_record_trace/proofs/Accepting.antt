-- A socket that a side has accepted is that of its last half.
use Rattle.std.proofs.Common.{◌≡◌, ℕ, [], ◌∷◌, ◌++◌, ap, ◌∙◌}
use Rattle.m2_fabric.specs.End.{SeenEnd}
use Rattle.m2_trail.specs.Incoming.{IncomingNow, accepted}
use Rattle.m2_record_trace.specs.SideNow.{Accepts, SideNow}

pub accepts : (end : SeenEnd) (entity : ℕ) (half : IncomingNow) (old new : SideNow) → new ≡ record old { halves = old.halves ++ half ∷ [] } → half ≡ accepted entity end half.room → entity ≡ old.kept.core.facts.node.entity → Accepts end old new
accepts end entity half old new only is_half same = record {
  room = half.room;
  only = only ∙ ap (λ (v : IncomingNow). record old { halves = old.halves ++ v ∷ [] }) (is_half ∙ ap (λ n. accepted n end half.room) same);
}
