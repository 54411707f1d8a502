-- A text is composed only where there is one to be composed.
use Rattle.std.proofs.Common.{◌≡◌, ℕ, Bool, true, false, if◌then◌else◌, true≢false, refl, sym, ap}
use Rattle.m2_turn.specs.m2_record.declared.due.Due.{Due}
use Rattle.m2_turn.specs.m2_record.declared.due.Due.TheVariants as due
use Rattle.m2_turn.specs.m2_record.Due.{due_step, has_frame, has_parcel, has_plan, may_compose, may_connect, may_read, may_write}
use Rattle.m2_turn.specs.m2_record.RecordNow.{RecordNow}

-- the table of steps, by which of its rows hold
abbrev pub first_due : (plan hand connect write frame read compose : Bool) → ℕ → Due
first_due a b c d e f g at = if a then due.Plan else (if b then due.Hand else (if c then due.Connect at else (if d then due.Write else (if e then due.Frame else (if f then due.Read else (if g then due.Compose else due.Nothing))))))

abbrev is_compose : Due → Bool
is_compose due.Compose = true
is_compose _ = false

composes_last : (a b c d e f g : Bool) (at : ℕ) → is_compose (first_due a b c d e f g at) ≡ true → g ≡ true
composes_last true b c d e f g at h = absurd (true≢false (sym h))
composes_last false true c d e f g at h = absurd (true≢false (sym h))
composes_last false false true d e f g at h = absurd (true≢false (sym h))
composes_last false false false true e f g at h = absurd (true≢false (sym h))
composes_last false false false false true f g at h = absurd (true≢false (sym h))
composes_last false false false false false true g at h = absurd (true≢false (sym h))
composes_last false false false false false false true at h = refl
composes_last false false false false false false false at h = absurd (true≢false (sym h))

abbrev is_connect : Due → Bool
is_connect (due.Connect at) = true
is_connect _ = false

connects_first : (a b c d e f g : Bool) (at : ℕ) → is_connect (first_due a b c d e f g at) ≡ true → c ≡ true
connects_first true b c d e f g at h = absurd (true≢false (sym h))
connects_first false true c d e f g at h = absurd (true≢false (sym h))
connects_first false false true d e f g at h = refl
connects_first false false false true e f g at h = absurd (true≢false (sym h))
connects_first false false false false true f g at h = absurd (true≢false (sym h))
connects_first false false false false false true g at h = absurd (true≢false (sym h))
connects_first false false false false false false true at h = absurd (true≢false (sym h))
connects_first false false false false false false false at h = absurd (true≢false (sym h))

-- a connect is due only where it may be made
pub to_be_connected : (now at : ℕ) (r : RecordNow) → due_step now r ≡ due.Connect at → may_connect now r ≡ true
to_be_connected now at r e =
    connects_first (has_plan r) (has_parcel r.parcels) (may_connect now r) (may_write r) (has_frame r) (may_read r) (may_compose r) r.waits.next_dial (ap is_connect e)
