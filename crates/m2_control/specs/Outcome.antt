-- What a function that reads payloads answered, beside what reading gives.
use Rattle.std.specs.Prelude.{◌≡◌, ℕ, List, Result, Ok, Err}
use Rattle.m2_addr.specs.declared.fault.AddrFault.{AddrFault}
use Rattle.m2_addr.specs.declared.fault.AddrFault.TheVariants as address
use Rattle.m2_control.specs.declared.fault.ControlFault.{ControlFault}
use Rattle.m2_control.specs.declared.fault.ControlFault.TheVariants.{NoMemory, Address}

-- A fault is the first one in the text; after want of memory nothing is said of it.
abbrev pub Fails : {Y : Type 0} → ControlFault → Result Y ControlFault → Type 0
Fails NoMemory read = Unit {0}
Fails fault read = read ≡ Err fault

abbrev pub Gives : {X Y : Type 0} → (X → Y) → Result X ControlFault → Result Y ControlFault → Type 0
Gives view (Ok x) read = read ≡ Ok (view x)
Gives view (Err e) read = Fails e read

-- the same, with the bytes that are left
abbrev pub GivesRest : {X Y : Type 0} → (X → Y) → Result X ControlFault → List ℕ → Result (Y × List ℕ) ControlFault → Type 0
GivesRest view (Ok x) rest read = read ≡ Ok (view x, rest)
GivesRest view (Err e) rest read = Fails e read

-- the same of a function that takes no memory: its fault is always the first one
abbrev pub GivesFront : {X Y : Type 0} → (X → Y) → Result X ControlFault → List ℕ → Result (Y × List ℕ) ControlFault → Type 0
GivesFront view (Ok x) rest read = read ≡ Ok (view x, rest)
GivesFront view (Err e) rest read = read ≡ Err e

-- a fault of an address as a fault of the payload
abbrev pub raised_as : AddrFault → ControlFault
raised_as address.NoMemory = NoMemory
raised_as fault = Address fault
