-- The names of the sockets that wait.
use Rattle.std.proofs.Common.{◌≡◌, List, [], ◌∷◌, ◌++◌}
use Rattle.std.proofs.lemmas.List.{map-append}
use Rattle.m2_mem_fabric.specs.Network.{names}
use Rattle.m2_mem_fabric.specs.declared.network.Arriving.{Arriving}

pub named_last : {R : Type 0} (waiting : List (Arriving R)) (a : Arriving R) → names (waiting ++ a ∷ []) ≡ names waiting ++ a.id ∷ []
named_last {R = R} waiting a = map-append (λ (x : Arriving R). x.id) waiting (a ∷ [])
