-- The ports of a split, of which the first may be given a listener.
use Rattle.std.proofs.Common.{◌≡◌, ℕ, zero, suc, Bool, true, false, if◌then◌else◌, replicate, refl, ap, Option, None, Some}
use Rattle.std.specs.Prelude.{All, IfSome}
use Rattle.std.specs.Option.{unwrap_or}
use Rattle.std.proofs.lemmas.List.{length-replicate}
use Rattle.std.proofs.lemmas.List.Elements.{All-cons, All-replicate}
use Rattle.m2_addr.specs.declared.addr.Addr.{Addr}
use Rattle.m2_fabric.specs.Fabric.{ArePortsOf, IsUnused}
use Rattle.m2_fabric.specs.Port.{SeenPort}
use Rattle.m2_ports.specs.Port.{unused_port, with_acceptor}

unused : (at : Addr) → IsUnused (unused_port at)
unused at = record { made = refl; missed = refl; refused = refl; quiet = refl; waiting = refl }

first_unused : (given : Bool) (at : Addr) → IsUnused (if given then record (unused_port at) { accepts = true } else unused_port at)
first_unused true at = record { made = refl; missed = refl; refused = refl; quiet = refl; waiting = refl }
first_unused false at = unused at

first_at : (given : Bool) (at : Addr) → (if given then record (unused_port at) { accepts = true } else unused_port at).at ≡ at
first_at true at = refl
first_at false at = refl

pub are_ports : (given : Bool) (centers : ℕ) (at : Addr) → ArePortsOf centers (with_acceptor given (replicate centers (unused_port at)))
are_ports given zero at = record {
  count = refl;
  unused = All-replicate IsUnused 0 (unused_port at) (unused at);
  acceptors = All-replicate (λ (p : SeenPort). p.accepts ≡ false) 0 (unused_port at) refl;
}
are_ports given (suc k) at =
    let rest = replicate k (unused_port at) in
    let first : SeenPort = if given then record (unused_port at) { accepts = true } else unused_port at in record {
      count = ap suc (length-replicate k (unused_port at));
      unused = All-cons IsUnused first rest (first_unused given at) (All-replicate IsUnused k (unused_port at) (unused at));
      acceptors = All-replicate (λ (p : SeenPort). p.accepts ≡ false) k (unused_port at) refl;
    }

pub all_at : (given : Bool) (centers : ℕ) (at : Addr) → All (λ (p : SeenPort). p.at ≡ at) (with_acceptor given (replicate centers (unused_port at)))
all_at given zero at = All-replicate (λ (p : SeenPort). p.at ≡ at) 0 (unused_port at) refl
all_at given (suc k) at =
    let first : SeenPort = if given then record (unused_port at) { accepts = true } else unused_port at in
    All-cons (λ (p : SeenPort). p.at ≡ at) first (replicate k (unused_port at)) (first_at given at) (All-replicate (λ (p : SeenPort). p.at ≡ at) k (unused_port at) refl)

-- where a node listens, if it does, its ports stand there
pub stand_there : (given : Bool) (centers : ℕ) (listens : Option Addr) (nowhere : Addr)
    → IfSome listens (λ at. All (λ (p : SeenPort). p.at ≡ at) (with_acceptor given (replicate centers (unused_port (unwrap_or listens nowhere)))))
stand_there given centers None nowhere = tt
stand_there given centers (Some at) nowhere = all_at given centers at
