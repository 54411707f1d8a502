use Rattle.std.proofs.Common.{◌≡◌, ◌≤◌, ℕ, All, List, length, take, ap, subst, ◌∙◌, arith}
use Rattle.std.proofs.Math.Seq.{take-length}
use Rattle.std.proofs.lemmas.List.Elements.{All-more, recursion_from_All}
use Rattle.m2_fabric.specs.Kinds.{IsInMemory}
use Rattle.m2_fabric.proofs.kinds.are_in_memory.Goals as goal
use Rattle.m2_bytes.proofs.m2_lemmas.Lists.{all_map}

all_taken : {X : Type 0} (P : X → Type 0) (xs : List X) (n : ℕ) → length xs ≤ n → n ≤ length xs → All P (take n xs) → All P xs
all_taken P xs n least most all =
    let same : n ≡ length xs = omega (arith, least, most) in
    subst (All P) (ap (λ i. take i xs) same ∙ take-length xs) all

pub ends-preserved : goal.ends-preserved
ends-preserved g c =
    All-more (λ e. IsInMemory (g.E.End.seen e)) c.args.ends.now c.ends.end-index c.end-item.result c.ends-test.true c.ends.invariant (subst (λ e. IsInMemory (g.E.End.seen e)) c.end-item.is c.is_in_memory.ensures)

pub returns : goal.returns
returns g c =
    all_map IsInMemory g.E.End.seen c.args.ends.now
    (recursion_from_All (λ e. IsInMemory (g.E.End.seen e)) c.args.ends.now
    (all_taken (λ e. IsInMemory (g.E.End.seen e)) c.args.ends.now c.ends.end-index c.ends-test.false c.ends.auto.end-index-end c.ends.invariant))
