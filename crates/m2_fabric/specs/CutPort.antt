-- A port whose ends break, and which end gets which cut.
use Rattle.std.specs.Prelude.{◌≡◌, List, ◌∷◌, None}
use Rattle.m2_addr.specs.declared.addr.Addr.{Addr}
use Rattle.m2_fabric.specs.Cuts.{bound_for, without_cut}
use Rattle.m2_fabric.specs.Port.{SeenPort, fresh_port}
use Rattle.m2_fabric.specs.declared.port.Connect.{Connect}
use Rattle.m2_fabric.specs.declared.port.Connect.TheVariants as connect
use Rattle.m2_fabric.specs.declared.port.Cut.{Cut}
use Rattle.m2_fabric.specs.declared.port.Taken.{Taken}
use Rattle.m2_fabric.specs.declared.port.Taken.TheVariants as accept
use Rattle.m2_fabric.specs.CutEnd.{Bounded}

-- the port inside, and the cuts that aren't taken yet, in order
pub record Cutting : Type 0 where
  pub inner : SeenPort
  pub cuts : List Cut

-- what every port shows, of this one: the port inside with the cuts of this one too
abbrev pub shown : Cutting → SeenPort
shown c = record c.inner { cuts = c.cuts ∷ c.inner.cuts }

-- what one shows that is over a port in memory, before its first call
abbrev pub fresh_cut_port : Addr → List Cut → SeenPort
fresh_cut_port at cuts = shown (record { inner = fresh_port at; cuts = cuts })

-- A connect that opens a socket takes the first cut for its address; another takes none.
abbrev pub ConnectsCut : Connect Bounded → Addr → Cutting → Cutting → Type 0
ConnectsCut (connect.Made e) to old new = (e.left ≡ bound_for to old.cuts) × (e.bound ≡ bound_for to old.cuts) × (new.cuts ≡ without_cut to old.cuts)
ConnectsCut _ to old new = new.cuts ≡ old.cuts

-- An end that was accepted has no cut.
abbrev pub AcceptsUncut : Taken Bounded → Type 0
AcceptsUncut (accept.Made e) = (e.left ≡ None) × (e.bound ≡ None)
AcceptsUncut _ = Unit {0}
