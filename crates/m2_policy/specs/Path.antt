-- The two ways to a dispatcher: Ceph's fast dispatch, and its dispatch queue.
use Rattle.std.specs.Prelude.{ℕ, Bool, ◌==◌, if◌then◌else◌, List}
use Rattle.std.specs.List.{list_any}
use Rattle.m2_policy.specs.declared.path.Path.{Path}
use Rattle.m2_policy.specs.declared.path.Path.TheVariants.{Fast, Queued}

-- the kind is among those that are dispatched at once
abbrev pub has_kind : ℕ → List ℕ → Bool
has_kind kind fast = list_any (λ k. k == kind) fast

abbrev pub path_of : ℕ → List ℕ → Path
path_of kind fast = if has_kind kind fast then Fast else Queued
