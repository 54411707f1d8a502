-- Strand by strand.
use Rattle.std.proofs.Common.{◌≡◌, ◌∙◌, take, refl, sym, subst, true≢false, arith}
use Rattle.std.specs.List.{AllByRecursion}
use Rattle.std.proofs.lemmas.List.{take_all}
use Rattle.m2_weave.specs.declared.strand.Strand.{Strand}
use Rattle.m2_weave.specs.Strands.{StrandNow, strand_now}
use Rattle.m2_weave.specs.Counting.{IsNamed}
use Rattle.m2_weave.specs.Table.{names_of}
use Rattle.m2_weave.proofs.Whole.{all_get}
use Rattle.m2_weave.proofs.weaving.are_named.Goals as goal
use Rattle.m2_bytes.proofs.m2_lemmas.Lists.{all_map, all_of_map}

pub returns-then-not-all_named : goal.returns-then-not-all_named
returns-then-not-all_named c =
    let P : StrandNow → Type 0 = λ s. AllByRecursion (IsNamed (names_of c.args.sockets.now)) s.items in
    let Q : Strand → Type 0 = λ s. AllByRecursion (IsNamed (names_of c.args.sockets.now)) (strand_now s).items in (
      λ e. absurd (cc),
      λ named. absurd (true≢false (sym (c.all_named.ensures.1
          (subst Q (sym c.s-item.is) (all_get Q c.args.strands.now c.loop-s.s-index c.s-item.result (omega arith) (all_of_map P strand_now c.args.strands.now named))))
          ∙ c.if-not-all_named.true)),
    )

pub returns : goal.returns
returns c =
    let P : StrandNow → Type 0 = λ s. AllByRecursion (IsNamed (names_of c.args.sockets.now)) s.items in
    let Q : Strand → Type 0 = λ s. AllByRecursion (IsNamed (names_of c.args.sockets.now)) (strand_now s).items in
    let all : take c.loop-s.s-index c.args.strands.now ≡ c.args.strands.now = take_all c.loop-s.s-index c.args.strands.now (omega arith) in
    (λ e. all_map P strand_now c.args.strands.now (subst (λ ss. AllByRecursion Q ss) all c.loop-s.invariant), λ n. refl)
