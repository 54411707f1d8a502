-- What holds of the kept sockets, whatever flowed on them.
use Rattle.std.proofs.Common.{◌≡◌, ℕ, ◌+◌, ◌≤◌, if◌then◌else◌, List, [], ◌∷◌, ◌++◌, map, suc, zero, refl, sym, ap, subst, arith}
use Rattle.std.specs.Prelude.{All}
use Rattle.m2_fabric.specs.Holder.{EndName}
use Rattle.m2_fabric.specs.Kept.{AreKept, AreWithin, IsWithin, SeenPair, back, cleared, cleared_pair, directions, of_pair, of_sockets, reader, same_end, there, times_read}
use Rattle.m2_fabric.specs.declared.direction.Direction.{Direction}
use Rattle.m2_fabric.specs.declared.kept.Kept.{Kept}

pub all_within : (nodes : ℕ) (ps : List SeenPair) → AreWithin nodes ps → All (IsWithin nodes) ps
all_within nodes [] w k d below = absurd (omega (arith, below))
all_within nodes (p ∷ ps) w zero d below = w.0
all_within nodes (p ∷ ps) w (suc k) d below = all_within nodes ps w.1 k d (omega (arith, below))

pub times-append : (e : EndName) (xs ys : List Direction) → times_read e (xs ++ ys) ≡ times_read e xs + times_read e ys
times-append e [] ys = omega arith
times-append e (x ∷ xs) ys = omega (arith, times-append e xs ys)

times_cleared_sockets : (e : EndName) (a b : ℕ) (ks : List Kept) → times_read e (of_sockets a b (map cleared ks)) ≡ times_read e (of_sockets a b ks)
times_cleared_sockets e a b [] = refl
times_cleared_sockets e a b (k ∷ ks) =
    let one : ℕ = if same_end (reader (there a b k)) e then 1 else 0 in
    let two : ℕ = if same_end (reader (back a b k)) e then 1 else 0 in
    ap (λ n. one + (two + n)) (times_cleared_sockets e a b ks)

times_cleared : (e : EndName) (ps : List SeenPair) → times_read e (directions (map cleared_pair ps)) ≡ times_read e (directions ps)
times_cleared e [] = refl
times_cleared e (p ∷ ps) = omega (
  arith,
  times-append e (of_pair (cleared_pair p)) (directions (map cleared_pair ps)),
  times-append e (of_pair p) (directions ps),
  times_cleared_sockets e p.first p.second p.sockets,
  times_cleared e ps,
)

within_cleared : (nodes : ℕ) (ps : List SeenPair) → AreWithin nodes ps → AreWithin nodes (map cleared_pair ps)
within_cleared nodes [] w = tt
within_cleared nodes (p ∷ ps) w = (record { first = w.0.first; second = w.0.second }, within_cleared nodes ps w.1)

within_of_cleared : (nodes : ℕ) (ps : List SeenPair) → AreWithin nodes (map cleared_pair ps) → AreWithin nodes ps
within_of_cleared nodes [] w = tt
within_of_cleared nodes (p ∷ ps) w = (record { first = w.0.first; second = w.0.second }, within_of_cleared nodes ps w.1)

-- the same sockets
pub kept_by_same : (nodes : ℕ) (ps qs : List SeenPair) → map cleared_pair qs ≡ map cleared_pair ps → AreKept nodes ps → AreKept nodes qs
kept_by_same nodes ps qs same k = record {
  once = λ e. once e;
  within = within_of_cleared nodes qs (subst (AreWithin nodes) (sym same) (within_cleared nodes ps k.within));
}
  where
    once : (e : EndName) → times_read e (directions qs) ≤ 1
    once e =
        let by_name : times_read e (directions (map cleared_pair qs)) ≡ times_read e (directions (map cleared_pair ps)) = ap (λ (xs : List SeenPair). times_read e (directions xs)) same in
        omega (arith, k.once e, times_cleared e ps, times_cleared e qs, by_name)
