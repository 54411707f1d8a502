-- What more is known of ends and ports in memory. This project's own.
use Rattle.std.specs.Prelude.{IfSome, IsSome}
use Rattle.std.specs.List.{AllByRecursion}
use Rattle.m2_fabric.specs.End.{SeenEnd}
use Rattle.m2_fabric.specs.Port.{SeenPort}

-- it tells what it was told of the other side
abbrev pub IsInMemory : SeenEnd → Type 0
IsInMemory e = IsSome e.inflow

-- a port tells which ends wait there, and they do so too
abbrev pub WaitInMemory : SeenPort → Type 0
WaitInMemory p = IsSome p.waiting × IfSome p.waiting (AllByRecursion IsInMemory)
