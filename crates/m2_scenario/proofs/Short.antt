-- What a post chooses is fit for the limits and links.
use Rattle.std.proofs.Common.{◌≡◌, ◌+◌, ◌<◌, ◌%◌, ℕ, zero, suc, true, refl, arith, nat_le}
use Rattle.std.proofs.lemmas.List.{length-replicate}
use Rattle.m2_scenario.specs.Draft.{are_joined}
use Rattle.m2_scenario.specs.Valid.{are_short}
use Rattle.m2_scenario.specs.Choices.{from_by, to_by, message_by}
use Rattle.m2_scenario.specs.Cluster.{all_pairs}

short : (n : ℕ) → n < 32 → nat_le n 65536 ≡ true
short n h = grind (arith, h)

pub message_short : (i third fourth fifth : ℕ) → are_short (message_by i third fourth fifth) ≡ true
message_short i third fourth fifth = rw (length-replicate (fifth % 32) (i % 256), short (fifth % 32) (omega arith)) refl

-- the other of four nodes is joined to the one
other_joined : (a d : ℕ) → a < 4 → d < 3 → are_joined all_pairs a ((a + 1 + d) % 4) ≡ true
other_joined zero zero h k = refl
other_joined zero (suc zero) h k = refl
other_joined zero (suc (suc zero)) h k = refl
other_joined (suc zero) zero h k = refl
other_joined (suc zero) (suc zero) h k = refl
other_joined (suc zero) (suc (suc zero)) h k = refl
other_joined (suc (suc zero)) zero h k = refl
other_joined (suc (suc zero)) (suc zero) h k = refl
other_joined (suc (suc zero)) (suc (suc zero)) h k = refl
other_joined (suc (suc (suc zero))) zero h k = refl
other_joined (suc (suc (suc zero))) (suc zero) h k = refl
other_joined (suc (suc (suc zero))) (suc (suc zero)) h k = refl
other_joined (suc (suc (suc (suc a)))) d h k = absurd (omega (arith, h))
other_joined a (suc (suc (suc d))) h k = absurd (omega (arith, k))

pub nodes_joined : (first second : ℕ) → are_joined all_pairs (from_by first) (to_by first second) ≡ true
nodes_joined first second = other_joined (first % 4) (second % 3) (omega arith) (omega arith)
