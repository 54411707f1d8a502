-- What had flowed before a turn had been written before it.
use Rattle.std.proofs.Common.{◌≡◌, ℕ, zero, suc, ◌+◌, ◌<◌, ◌≤◌, true, List, [], ◌∷◌, ◌++◌, length, length-append, take, drop, refl, sym, ap, ◌∙◌, arith, None}
use Rattle.std.specs.Prelude.{nat_lt, if◌then◌else◌, slice_get}
use Rattle.std.proofs.lemmas.List.{length-drop, length-take}
use Rattle.std.proofs.lemmas.Bool.Decides.{nat_tests}
use Rattle.m2_weave.specs.Rule.{AreThere, strand_at}
use Rattle.m2_weave.specs.Stops.{sizes}
use Rattle.m2_weave.specs.Strands.{other, end_in, place_of, written_at}
use Rattle.m2_weave.proofs.Written.{get_drop, get_take}
use Rattle.m2_weave.specs.Later.{GoesOn}
use Rattle.m2_weave.specs.TurnLaws.{FlowedWasWritten}

-- a place within a list is the same in one that goes on
within-on : (xs more : List ℕ) (n : ℕ) → n < length xs → slice_get (xs ++ more) n ≡ slice_get xs n
within-on [] more n h = absurd (omega (arith, h))
within-on (x ∷ xs) more zero h = refl
within-on (x ∷ xs) more (suc n) h = within-on xs more n (omega (arith, h))

-- a piece of what was got is there, where all of it was put and is written
pieces-there : (written p count : ℕ) (got put : List ℕ) → GoesOn got put → length put ≤ written →
    AreThere (λ q. if nat_lt q written then slice_get put q else None) p (take count (drop p got))
pieces-there written p count got put on all i h =
    let short : i < count = omega (arith, h, length-take count (drop p got)) in
    let inside : p + i < length got = omega (arith, h, length-take count (drop p got), length-drop p got) in
    let more : length put ≡ length (got ++ on.0) = ap length on.1 in
    let below : p + i < written = omega (arith, inside, all, more, length-append got on.0) in
    let yes : nat_lt (p + i) written ≡ true = grind (arith, nat_tests) in
    ap (λ b. if b then slice_get put (p + i) else None) yes ∙ ap (λ l. slice_get l (p + i)) on.1 ∙ within-on got on.0 (p + i) inside
    ∙ sym (get_drop p i got) ∙ sym (get_take count i (drop p got) short)

pub flowed_was_written : FlowedWasWritten
flowed_was_written old new turn = record {
  later = turn.later;
  got = turn.got;
  read = λ j n count k of_turn reads.
      let e = end_in (strand_at new j) k in
      pieces-there (written_at old.strands (sizes old) (other e)) (place_of new.strands (strand_at new j) n k) count (new.bytes.got e) (old.bytes.put (other e))
      (turn.flowed e) (turn.written (other e));
  tidy = turn.tidy;
}
