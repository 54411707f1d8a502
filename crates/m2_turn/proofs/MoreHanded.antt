-- That parcels were handed out is said exactly where they were: of one step, of steps one after another, and of records side by side.
use Rattle.std.proofs.Common.{◌≡◌, ℕ, ◌+◌, Bool, true, false, ◌||◌, List, [], ◌∷◌, refl, sym, ap, ◌∙◌, arith}
use Rattle.m2_record.specs.declared.stepped.Stepped.TheVariants as stepped
use Rattle.m2_record.specs.RecordNow.{RecordNow}
use Rattle.m2_record.specs.Stepping.{StepsAs, Worked}
use Rattle.m2_dispatch.specs.declared.parcel.Parcel.{Parcel}
use Rattle.m2_turn.specs.Handing.{AreMore, SaysMore, handed_in}
use Rattle.m2_turn.proofs.Handed.{steps}
use Rattle.m2_turn.proofs.Steady.{StaySteady, steady_of}
use Rattle.m2_bytes.proofs.m2_lemmas.Booleans.{or_false, or_true}

-- ---- none, and one

pub says_same : (b : Bool) (before now : ℕ) → now ≡ before → SaysMore b b before now
says_same b before now e = record { more = false; said = sym (or_false b); counts = e }

pub says_none : (b : Bool) (n : ℕ) → SaysMore b b n n
says_none b n = says_same b n n refl

pub says_hand : (b : Bool) (x : Parcel) (w : Worked) (old new : RecordNow) → w.answer ≡ stepped.Hand x → StepsAs (stepped.Hand x) w old new → SaysMore b true old.handed new.handed
says_hand b x w old new e h =
    let more : new.handed ≡ old.handed + 1 = ap (λ (r : RecordNow). r.handed) (steps (stepped.Hand x) w old new e h).only in
    record { more = true; said = sym (or_true b); counts = omega (arith, more) }

-- ---- one after another

more_then : (a b : Bool) (x y z : ℕ) → AreMore a x y → AreMore b y z → AreMore (a || b) x z
more_then true true x y z p q = omega (arith, p, q)
more_then true false x y z p q = omega (arith, p, q)
more_then false true x y z p q = omega (arith, p, q)
more_then false false x y z p q = q ∙ p

said_then : (a b c m n : Bool) → b ≡ (a || m) → c ≡ (b || n) → c ≡ (a || (m || n))
said_then true b c m n p q = q ∙ ap (λ s. s || n) p
said_then false b c m n p q = q ∙ ap (λ s. s || n) p

pub says_then : (a b c : Bool) (x y z : ℕ) → SaysMore a b x y → SaysMore b c y z → SaysMore a c x z
says_then a b c x y z p q = record {
  more = p.more || q.more;
  said = said_then a b c p.more q.more p.said q.said;
  counts = more_then p.more q.more x y z p.counts q.counts;
}

-- ---- side by side

more_beside : (a b : Bool) (x y u v : ℕ) → AreMore a x y → AreMore b u v → AreMore (a || b) (x + u) (y + v)
more_beside true true x y u v p q = omega (arith, p, q)
more_beside true false x y u v p q = omega (arith, p, q)
more_beside false true x y u v p q = omega (arith, p, q)
more_beside false false x y u v p q = omega (arith, p, q)

pub says_beside : (a b c : Bool) (x y u v : ℕ) → SaysMore a b x y → SaysMore b c u v → SaysMore a c (x + u) (y + v)
says_beside a b c x y u v p q = record {
  more = p.more || q.more;
  said = said_then a b c p.more q.more p.said q.said;
  counts = more_beside p.more q.more x y u v p.counts q.counts;
}

-- ---- asks

-- records that hand nothing out have handed out as many
pub steady_handed : (rs ss : List RecordNow) → StaySteady rs ss → handed_in ss ≡ handed_in rs
steady_handed [] [] e = refl
steady_handed (r ∷ rs) (s ∷ ss) e =
    let first : steady_of s ≡ steady_of r = cc in
    let rest : StaySteady rs ss = cc in
    omega (arith, ap (λ x. x.2) first, steady_handed rs ss rest)
steady_handed [] (s ∷ ss) e = absurd cc
steady_handed (r ∷ rs) [] e = absurd cc
