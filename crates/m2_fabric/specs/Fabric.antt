-- What contracts see of a fabric, and how each of its calls changes that. This project's own.
use Rattle.std.specs.Prelude.{◌≡◌, ◌≢◌, ℕ, ◌≤◌, false, List, [], length, drop, All, Option, Some, None, Result, OnOk, IfErr, IfSome}
use Rattle.std.specs.Option.{unwrap_or}
use Rattle.m2_addr.specs.declared.addr.Addr.{Addr}
use Rattle.m2_edge.specs.Faults.{HasRisen, next_count}
use Rattle.m2_fabric.specs.End.{SeenEnd}
use Rattle.m2_fabric.specs.Port.{SeenPort}
use Rattle.m2_fabric.specs.declared.fabric.ListenFault.{ListenFault}
use Rattle.m2_fabric.specs.declared.fabric.ListenFault.TheVariants as listen

-- what a node's ports and ends are when they are gathered
pub record Gathered : Type 0 where
  pub ports : List SeenPort
  pub ends : List SeenEnd

-- How many faults there were. Of each node, where it listens, if it does; how many ports its last split gave, if
-- nothing was gathered since; what was gathered last, if anything was; and how often it was gathered.
pub record SeenFabric : Type 0 where
  pub faults : ℕ
  pub listens : ℕ → Option Addr
  pub out : ℕ → Option ℕ
  pub gathered : ℕ → Option Gathered
  pub gathers : ℕ → ℕ

-- what a fault says of the count of faults before and after a listen: it rose, or with want of memory it stayed
abbrev pub IsCausedBy : ListenFault → (old new : ℕ) → Type 0
IsCausedBy listen.Failed old new = HasRisen old new
IsCausedBy listen.NoMemory old new = new ≡ old

-- An answer to a listen and the count of faults before and after it: the count never falls, and rises only where the node can't listen.
pub record HasListenCause {X : Type 0} (result : Result X ListenFault) (old new : ℕ) : Type 0 where
  pub never_falls : old ≤ new
  pub ok : OnOk result (new ≡ old)
  pub fault : IfErr result (λ fault. IsCausedBy fault old new)

-- only where one node listens may have changed, and the count of faults
pub record ListensAlone (node : ℕ) (old new : SeenFabric) : Type 0 where
  pub others : (n : ℕ) → n ≢ node → new.listens n ≡ old.listens n
  pub out : (n : ℕ) → new.out n ≡ old.out n
  pub gathered : (n : ℕ) → new.gathered n ≡ old.gathered n
  pub gathers : (n : ℕ) → new.gathers n ≡ old.gathers n

-- A port that did nothing so far; and no socket waits at it, where it tells what waits.
pub record IsUnused (p : SeenPort) : Type 0 where
  pub made : p.made ≡ []
  pub missed : p.missed ≡ 0
  pub refused : p.refused ≡ 0
  pub quiet : p.quiet ≡ false
  pub waiting : unwrap_or p.waiting [] ≡ []

-- a port for each event thread, of which the first alone may accept
pub record ArePortsOf (centers : ℕ) (ports : List SeenPort) : Type 0 where
  pub count : length ports ≡ centers
  pub unused : All IsUnused ports
  pub acceptors : All (λ (p : SeenPort). p.accepts ≡ false) (drop 1 ports)

-- These ports of a node are out, at the address at which it listens; all else stays.
pub record Splits (node : ℕ) (ports : List SeenPort) (old new : SeenFabric) : Type 0 where
  pub at : IfSome (old.listens node) (λ at. All (λ (p : SeenPort). p.at ≡ at) ports)
  pub node_out : new.out node ≡ Some (length ports)
  pub others_out : (n : ℕ) → n ≢ node → new.out n ≡ old.out n
  pub listens : (n : ℕ) → new.listens n ≡ old.listens n
  pub gathered : (n : ℕ) → new.gathered n ≡ old.gathered n
  pub gathers : (n : ℕ) → new.gathers n ≡ old.gathers n
  pub faults : new.faults ≡ old.faults

-- The ports and ends of a node are gathered, which is counted, and told from then on; all else stays.
pub record Gathers (node : ℕ) (what : Gathered) (old new : SeenFabric) : Type 0 where
  pub node_told : new.gathered node ≡ Some what
  pub others_told : (n : ℕ) → n ≢ node → new.gathered n ≡ old.gathered n
  pub node_gathers : new.gathers node ≡ next_count (old.gathers node)
  pub others_gathers : (n : ℕ) → n ≢ node → new.gathers n ≡ old.gathers n
  pub node_out : new.out node ≡ None
  pub others_out : (n : ℕ) → n ≢ node → new.out n ≡ old.out n
  pub listens : (n : ℕ) → new.listens n ≡ old.listens n
  pub faults : new.faults ≡ old.faults
