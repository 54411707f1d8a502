use Rattle.std.proofs.Common.{◌≡◌, ◌++◌, [], ◌∷◌, true, false, drop, length, refl, sym, ap, subst, ◌∙◌, arith, append_assoc}
use Rattle.std.proofs.lemmas.Bool.Decides.{nat_tests}
use Rattle.m2_queues.proofs.ByRank.{Falls}
use Rattle.m2_shared.specs.Gates.{places}
use Rattle.m2_dispatch.specs.Letters.{AreOwned, granted, is_of_peer, letter_priority, of_peer, others}
use Rattle.m2_dispatch.specs.Waiting.{letters_in}
use Rattle.m2_dispatch.proofs.Letters.{falls-without, first-is, owned-first, granted-thrown, of_peer-kept, others-kept, others-thrown, owned-drop, put-next}
use Rattle.m2_dispatch.proofs.Ordered.{falls}
use Rattle.m2_dispatch.proofs.thrown.sift.Goals as goal

pub letters-init : goal.letters-init
letters-init c = record {
  ordered = c.requires.ordered;
  moved = rw c.requires.nothing tt;
  falls = rw c.requires.nothing (falls c.args.from.now.items c.requires.ordered);
  room = c.requires.room;
  passes = c.requires.passes;
  owned = c.requires.letters;
  letters = rw c.requires.nothing refl;
  word = λ gate alone. refl;
}

pub letters-preserved-then-letter-peer : goal.letters-preserved-then-letter-peer
letters-preserved-then-letter-peer c =
    let before = c.letters.invariant in
    let ls = letters_in c.letters.from.items in
    let l = c.in-Some.letter in
    let split : ls ≡ l ∷ drop 1 ls = first-is ls l c.in-Some.ensures.first in
    let rest = c.take.ensures.letters in
    let theirs : is_of_peer c.args.peer l ≡ true = let at = c.if-letter-peer.true in grind (arith, nat_tests) in
    record {
      ordered = c.take.ensures.ordered;
      moved = before.moved;
      falls = rw rest (falls-without (letters_in c.letters.into.items) l (drop 1 ls) (rw (← split) before.falls));
      room = omega (arith, before.room, ap length split, ap length rest);
      passes = c.give_back.ensures.passes;
      owned = rw rest (owned-drop (places c.args.throttles.now) ls before.owned);
      letters = ap (λ xs. letters_in c.letters.into.items ++ xs) (ap (others c.args.peer) rest ∙ sym (ap (others c.args.peer) split ∙ others-thrown c.args.peer l (drop 1 ls) theirs)) ∙ before.letters;
      word = λ gate alone. omega (
        arith,
        c.give_back.ensures.word gate alone,
        before.word gate alone,
        ap (λ xs. granted (of_peer c.args.peer xs) gate) split ∙ granted-thrown gate c.args.peer l (drop 1 ls) theirs,
        ap (λ xs. granted (of_peer c.args.peer xs) gate) rest,
      );
    }

pub letters-preserved : goal.letters-preserved
letters-preserved c =
    let before = c.letters.invariant in
    let ls = letters_in c.letters.from.items in
    let done = letters_in c.letters.into.items in
    let l = c.in-Some.letter in
    let split : ls ≡ l ∷ drop 1 ls = first-is ls l c.in-Some.ensures.first in
    let rest = c.take.ensures.letters in
    let other : is_of_peer c.args.peer l ≡ false = let apart = c.if-letter-peer.false in grind (arith, nat_tests) in
    let falling : Falls letter_priority (done ++ l ∷ drop 1 ls) = rw (← split) before.falls in
    let joined : letters_in c.add_reserved.new.waiting.items ≡ done ++ l ∷ [] = c.add_reserved.ensures.letters ∙ put-next done l (drop 1 ls) falling in
    record {
      ordered = c.take.ensures.ordered;
      moved = c.add_reserved.ensures.ordered;
      falls = rw (joined, rest, append_assoc) falling;
      room = omega (arith, before.room, ap length split, ap length rest, c.add_reserved.ensures.room);
      passes = before.passes;
      owned = rw rest (owned-drop (places c.args.throttles.now) ls before.owned);
      letters =
          ap (λ xs. xs ++ others c.args.peer (letters_in c.take.new.waiting.items)) joined
          ∙ ap (λ xs. (done ++ l ∷ []) ++ others c.args.peer xs) rest
          ∙ append_assoc done (l ∷ []) (others c.args.peer (drop 1 ls))
          ∙ ap (λ xs. done ++ xs) (sym (ap (others c.args.peer) split ∙ others-kept c.args.peer l (drop 1 ls) other))
          ∙ before.letters;
      word = λ gate alone. omega (
        arith,
        before.word gate alone,
        ap (λ xs. granted (of_peer c.args.peer xs) gate) split ∙ ap (λ xs. granted xs gate) (of_peer-kept c.args.peer l (drop 1 ls) other),
        ap (λ xs. granted (of_peer c.args.peer xs) gate) rest,
      );
    }

pub give_back-requires-clause-letter : goal.give_back-requires-clause-letter
give_back-requires-clause-letter c =
    let ls = letters_in c.letters.from.items in
    let split : ls ≡ c.in-Some.letter ∷ drop 1 ls = first-is ls c.in-Some.letter c.in-Some.ensures.first in
    owned-first (places c.args.throttles.now) c.in-Some.letter (drop 1 ls) (subst (AreOwned (places c.args.throttles.now)) split c.letters.invariant.owned)
