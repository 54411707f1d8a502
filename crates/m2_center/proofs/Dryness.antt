-- What a turn is said to have come to, by whether memory lasted, what was counted, and whether a record handed a parcel out.
use mir.Syntax.{w128}
use Rattle.std.proofs.Common.{Fits, ◌≡◌, ℕ, ◌+◌, ◌*◌, ◌<◌, ◌≤◌, Bool, true, false, ◌&&◌, List, [], ◌∷◌, length, Ok, Err, refl, sym, ap, subst, ◌∙◌, arith}
use Rattle.std.proofs.lemmas.Bool.{ne_eqb}
use Rattle.m2_record.specs.RecordNow.{RecordNow}
use Rattle.m2_turn.specs.Handing.{AreMore, SaysMore, handed_in}
use Rattle.m2_center.specs.Center.{CenterNow}
use Rattle.m2_center.specs.CenterTurn.{Answer, memory_in}
use Rattle.m2_center.specs.Dry.{SaysTurn, count_in, ended_so, entries_in, is_dry, is_still}
use Rattle.m2_bytes.proofs.m2_lemmas.Booleans.{and_false}
use Rattle.m2_bytes.proofs.m2_lemmas.Numbers.{same_number}

pub memory_kept : (taken : Answer) (handed still : Bool) → memory_in (ended_so taken handed still) ≡ taken
memory_kept (Ok u) true still = refl
memory_kept (Ok u) false true = refl
memory_kept (Ok u) false false = refl
memory_kept (Err e) handed still = refl

and_true : (b : Bool) → (b && true) ≡ b
and_true true = refl
and_true false = refl

module _ {D : Type 0} (old new : CenterNow D) where
  abbrev stays : Bool
  stays = is_still (count_in old) (count_in new)

  more : AreMore true (handed_in old.records) (handed_in new.records) → is_dry old new ≡ false
  more m =
      let below : handed_in old.records < handed_in new.records = m in
      ap (λ b. stays && b) (ne_eqb (handed_in new.records) (handed_in old.records) (λ e. omega (arith, below, e))) ∙ and_false stays

  as_many : AreMore false (handed_in old.records) (handed_in new.records) → is_dry old new ≡ stays
  as_many m = ap (λ b. stays && b) (same_number (handed_in new.records) (handed_in old.records) m) ∙ and_true stays

  by_counts : (still : Bool) → is_dry old new ≡ still → SaysTurn (ended_so (Ok tt) false still) old new
  by_counts true e = e
  by_counts false e = e

  by_handed : (handed : Bool) → AreMore handed (handed_in old.records) (handed_in new.records) → SaysTurn (ended_so (Ok tt) handed stays) old new
  by_handed true m = more m
  by_handed false m = by_counts stays (as_many m)

  pub turn_says : (taken : Answer) (handed still : Bool) → SaysMore false handed (handed_in old.records) (handed_in new.records) → still ≡ stays →
      SaysTurn (ended_so taken handed still) old new
  turn_says (Err e) handed still s same = tt
  turn_says (Ok u) handed still s same =
      subst (λ b. SaysTurn (ended_so (Ok tt) handed b) old new) (sym same)
      (by_handed handed (subst (λ b. AreMore b (handed_in old.records) (handed_in new.records)) (sym s.said) s.counts))

-- ---- counts

pub one_more : (rs rest : List RecordNow) (r : RecordNow) (n k : ℕ) → rs ≡ r ∷ rest → n ≡ length r.journal → k ≡ entries_in rest → n + k ≡ entries_in rs
one_more rs rest r n k e same counted = ap (λ i. i + k) same ∙ ap (λ i. length r.journal + i) counted ∙ sym (ap entries_in e)

pub none_more : (rs : List RecordNow) → length rs ≡ 0 → entries_in rs ≡ 0
none_more [] e = refl
none_more (r ∷ rs) e = absurd (omega (arith, e))

-- what a journal and the journals behind it come to fits, as long as each of them counts below 2 ^ 64
pub within_more : (n k behind all : ℕ) → n < 18446744073709551616 → k ≤ behind * 18446744073709551616 → behind + 1 ≡ all → n + k ≤ all * 18446744073709551616
within_more n k behind all few counted one = omega (arith, few, counted, one)

pub fits_more : (n k behind all : ℕ) → n < 18446744073709551616 → k ≤ behind * 18446744073709551616 → behind + 1 ≡ all → all < 18446744073709551616 →
    Fits w128 (n + k)
fits_more n k behind all few counted one room = omega (arith, few, counted, one, room)
