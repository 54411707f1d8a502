use Rattle.std.proofs.Common.{drop, sym, ap, ◌∙◌, arith}
use Rattle.m2_shared.specs.Gates.{places}
use Rattle.m2_dispatch.specs.Letters.{granted}
use Rattle.m2_dispatch.specs.Waiting.{letters_in}
use Rattle.m2_dispatch.proofs.Letters.{emptied, granted-split, none-is, owned-drop}
use Rattle.m2_dispatch.proofs.thrown.give_all.Goals as goal

pub letters-preserved : goal.letters-preserved
letters-preserved c =
    let before = c.letters.invariant in
    record {
      ordered = c.take.ensures.ordered;
      passes = c.give_back.ensures.passes;
      owned = rw c.take.ensures.letters (owned-drop (places c.args.throttles.now) (letters_in c.letters.waiting.items) before.owned);
      word = λ gate alone. omega (
        arith,
        c.give_back.ensures.word gate alone,
        before.word gate alone,
        granted-split gate (letters_in c.letters.waiting.items) c.in-Some.letter c.in-Some.ensures.first,
        ap (λ xs. granted xs gate) c.take.ensures.letters,
      );
    }

pub returns-clause-letters : goal.returns-clause-letters
returns-clause-letters c =
    let nothing = none-is (letters_in c.letters.waiting.items) (sym c.in_default.is ∙ c.take.ensures.first) in
    emptied c.take.new.waiting.items (c.take.ensures.letters ∙ ap (drop 1) nothing)
