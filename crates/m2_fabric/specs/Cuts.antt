-- Ends that are cut after so many bytes, and which end gets which cut. This project's own.
use Rattle.std.specs.Prelude.{ℕ, ◌-◌, ◌==◌, ◌&&◌, Bool, false, List, [], ◌∷◌, map, min, Option, Some, None, slice_get, remove}
use Rattle.std.specs.List.{position}
use Rattle.std.specs.Option.{option_map}
use Rattle.m2_addr.specs.declared.addr.Addr.{Addr}
use Rattle.m2_fabric.specs.declared.port.Cut.{Cut}

-- ---- of one end: how many more bytes pass, None where there is no bound

-- nothing more may pass
abbrev pub is_cut : Option ℕ → Bool
is_cut None = false
is_cut (Some left) = left == 0

-- how many of so many bytes may pass
abbrev pub allowance : Option ℕ → ℕ → ℕ
allowance None n = n
allowance (Some left) n = min left n

-- so many bytes passed
abbrev pub passed : ℕ → Option ℕ → Option ℕ
passed n left = option_map (λ l. l - n) left

-- both bounds
abbrev pub least : Option ℕ → Option ℕ → Option ℕ
least None other = other
least (Some one) None = Some one
least (Some one) (Some other) = Some (min one other)

-- ---- of a port: the cuts that aren't taken yet

-- a cut is for sockets to this address
abbrev pub is_for : Addr → Cut → Bool
is_for to cut = (cut.to.kind == to.kind) && (cut.to.nonce == to.nonce) && (cut.to.ip == to.ip) && (cut.to.port == to.port)

-- the place of the first cut for an address
abbrev pub place_of_cut : Addr → List Cut → Option ℕ
place_of_cut to cuts = position (is_for to) cuts

-- the bytes of the cut at a place, if there is one
abbrev pub bytes_at : Option ℕ → List Cut → Option ℕ
bytes_at None cuts = None
bytes_at (Some place) cuts = option_map (λ (cut : Cut). cut.bytes) (slice_get cuts place)

-- the cuts without the one at a place, if there is one
abbrev pub without_place : Option ℕ → List Cut → List Cut
without_place None cuts = cuts
without_place (Some place) cuts = remove cuts place

-- the bytes of the first cut for an address, if there is one
abbrev pub bound_for : Addr → List Cut → Option ℕ
bound_for to cuts = bytes_at (place_of_cut to cuts) cuts

-- the cuts without the first one for an address
abbrev pub without_cut : Addr → List Cut → List Cut
without_cut to cuts = without_place (place_of_cut to cuts) cuts

-- of several lists of cuts, each of which is taken from: the least bound, and what is left of each
abbrev pub bound_in : Addr → List (List Cut) → Option ℕ
bound_in to [] = None
bound_in to (cuts ∷ more) = least (bound_for to cuts) (bound_in to more)

abbrev pub without_cuts : Addr → List (List Cut) → List (List Cut)
without_cuts to all = map (without_cut to) all
