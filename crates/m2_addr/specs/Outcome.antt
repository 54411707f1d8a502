-- What a function that reads addresses answered, beside what reading gives.
use Rattle.std.specs.Prelude.{◌≡◌, ℕ, List, Result, Ok, Err}
use Rattle.m2_addr.specs.declared.fault.AddrFault.{AddrFault}
use Rattle.m2_addr.specs.declared.fault.AddrFault.TheVariants.{NoMemory}

-- A fault is the first one in the text; after want of memory nothing is said of it.
abbrev pub Fails : {Y : Type 0} → AddrFault → Result Y AddrFault → Type 0
Fails NoMemory read = Unit {0}
Fails fault read = read ≡ Err fault

-- a function that takes memory: its value and the bytes that are left
abbrev pub GivesRest : {X Y : Type 0} → (X → Y) → Result X AddrFault → List ℕ → Result (Y × List ℕ) AddrFault → Type 0
GivesRest view (Ok x) rest read = read ≡ Ok (view x, rest)
GivesRest view (Err e) rest read = Fails e read

-- a function that takes none
abbrev pub Gives : {X Y : Type 0} → (X → Y) → Result X AddrFault → Result Y AddrFault → Type 0
Gives view (Ok x) read = read ≡ Ok (view x)
Gives view (Err e) read = read ≡ Err e

abbrev pub GivesFront : {X Y : Type 0} → (X → Y) → Result X AddrFault → List ℕ → Result (Y × List ℕ) AddrFault → Type 0
GivesFront view (Ok x) rest read = read ≡ Ok (view x, rest)
GivesFront view (Err e) rest read = read ≡ Err e
