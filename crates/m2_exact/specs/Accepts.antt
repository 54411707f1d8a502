-- The sockets that wait at two ports in memory that are the same, accepted beside halves that are alike. This project's own.
use Rattle.std.specs.Prelude.{◌≡◌, ◌≢◌, ℕ, map, IsSome}
use Rattle.std.specs.List.{AllByRecursion}
use Rattle.m2_fabric.specs.Kinds.{WaitInMemory}
use Rattle.m2_script.specs.m2_center.m2_turn.Accepting.{Accepting, AcceptsAll}
use Rattle.m2_script.specs.m2_center.m2_turn.Halves.{AllHalves}
use Rattle.m2_script.specs.m2_center.m2_turn.Hearing.{IsHalfInMemory}
use Rattle.m2_script.specs.m2_center.m2_turn.Sessions.{PendingNow}
use Rattle.m2_script.specs.m2_center.m2_turn.declared.accepting.Accepted.{Accepted}
use Rattle.m2_script.specs.m2_center.m2_turn.declared.accepting.Accepted.TheVariants as accepts
use Rattle.m2_exact.specs.Halves.{plain}

-- How much room a half has, and where the parts of its ask lie. An ask is judged by what it says.
abbrev pub plain_pending : PendingNow → PendingNow
plain_pending p = record p { half = plain p.half }

abbrev pub plain_halves : AllHalves → AllHalves
plain_halves h = record h { pending = map plain_pending h.pending }

abbrev pub plain_accepting : Accepting → Accepting
plain_accepting a = record a { halves = plain_halves a.halves }

-- the port, the ends that wait there, and those of the halves
pub record AreInMemory (a : Accepting) : Type 0 where
  pub port : WaitInMemory a.port
  pub halves : AllByRecursion IsHalfInMemory a.halves.pending

-- But for want of memory the same sockets are accepted, in the same order, and the halves stay alike, beside a port in memory. Ends that
-- are in memory stay so.
pub record LikePortsAcceptAlike : Type 0 where
  pub accepts : (entity : ℕ) (one other : Accepted) (old last new behind : Accepting) → IsSome old.port.waiting → plain_accepting old ≡ plain_accepting last → one ≢ accepts.NoMemory →
      other ≢ accepts.NoMemory → AcceptsAll entity one old new → AcceptsAll entity other last behind → (one ≡ other) × (plain_accepting new ≡ plain_accepting behind)
  pub stays : (entity : ℕ) (result : Accepted) (old new : Accepting) → IsSome old.port.waiting → AcceptsAll entity result old new → IsSome new.port.waiting
  pub memory : (entity : ℕ) (result : Accepted) (old new : Accepting) → AreInMemory old → AcceptsAll entity result old new → AreInMemory new
