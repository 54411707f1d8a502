-- What grows, and grows further, grows.
use Rattle.std.proofs.Common.{◌≡◌, ◌⊎◌, inl, inr, ℕ, ◌≤◌, List, [], ◌∷◌, ◌++◌, length, refl, sym, ap, subst, ◌∙◌, append-nil, append_assoc, length-append, arith}
use Rattle.m2_turn.specs.m2_record.RecordNow.{RecordNow}
use Rattle.m2_turn.specs.Halves.{AllHalves}
use Rattle.m2_bytes_fit.specs.m2_trail.Arrivals.{LooseNow}
use Rattle.m2_bytes_fit.specs.m2_trail.Trails.{TrailNow}
use Rattle.m2_weave.specs.Later.{GoesOn}
use Rattle.m2_growth.specs.Halves.{HalvesStay, IsLeft, IsOneOf, IsTakenBy, JudgesMore, TrailGrows, all_left}
use Rattle.m2_growth.specs.Holding.{AreOwn, Grows, Holding, HoldingGrows, all_ends}
use Rattle.m2_growth.specs.Records.{RecordGrows, RecordsGrow}
use Rattle.m2_growth.proofs.Among.{each_by, of_each, one_front}
use Rattle.m2_growth.proofs.Asked.{asked_chain, asked_same}
use Rattle.m2_growth.proofs.Ends.{grow_chain, grow_same, on_chain, on_same}
use Rattle.m2_fabric.proofs.m2_lemmas.Lists.{all_append, all_so_of}

-- ---- trails

asks_same : (n : ℕ) (xs : List ℕ) → JudgesMore n xs xs
asks_same n xs = record { more = []; all = sym (append-nil xs); behind = tt }

pub trail_same : (t : TrailNow) → TrailGrows t t
trail_same t = record { socket = refl; entity = refl; entries = on_same t.entries; judged = on_same t.judged; asks = asks_same (length t.entries) t.judged_after }

longer : {X : Type 0} (xs ys : List X) → GoesOn xs ys → length xs ≤ length ys
longer {X} xs ys (more, e) = omega (arith, ap length e, length-append xs more)

asks_chain : (n m : ℕ) (xs ys zs : List ℕ) → n ≤ m → JudgesMore n xs ys → JudgesMore m ys zs → JudgesMore n xs zs
asks_chain n m xs ys zs le p q = record {
  more = p.more ++ q.more;
  all = q.all ∙ ap (λ l. l ++ q.more) p.all ∙ append_assoc xs p.more q.more;
  behind = all_append (λ (k : ℕ). n ≤ k) p.more q.more p.behind (all_so_of (λ (k : ℕ). m ≤ k) (λ (k : ℕ). n ≤ k) q.more (λ k h. omega arith) q.behind);
}

pub trail_chain : (t u v : TrailNow) → TrailGrows t u → TrailGrows u v → TrailGrows t v
trail_chain t u v p q = record {
  socket = q.socket ∙ p.socket;
  entity = q.entity ∙ p.entity;
  entries = on_chain t.entries u.entries v.entries p.entries q.entries;
  judged = on_chain t.judged u.judged v.judged p.judged q.judged;
  asks = asks_chain (length t.entries) (length u.entries) t.judged_after u.judged_after v.judged_after (longer t.entries u.entries p.entries) p.asks q.asks;
}

-- ---- records

pub record_same : (r : RecordNow) → RecordGrows r r
record_same r = record { place = refl; facts = refl; plan = on_same r.plan; journal = on_same r.journal; trails = on_same r.trails }

pub record_chain : (r s t : RecordNow) → RecordGrows r s → RecordGrows s t → RecordGrows r t
record_chain r s t p q = record {
  place = q.place ∙ p.place;
  facts = q.facts ∙ p.facts;
  plan = on_chain r.plan s.plan t.plan p.plan q.plan;
  journal = on_chain r.journal s.journal t.journal p.journal q.journal;
  trails = on_chain r.trails s.trails t.trails p.trails q.trails;
}

pub records_same : (rs : List RecordNow) → RecordsGrow rs rs
records_same [] = tt
records_same (r ∷ rs) = (record_same r, records_same rs)

pub records_chain : (rs ss ts : List RecordNow) → RecordsGrow rs ss → RecordsGrow ss ts → RecordsGrow rs ts
records_chain [] [] [] p q = tt
records_chain [] [] (t ∷ ts) p q = absurd q
records_chain [] (s ∷ ss) ts p q = absurd p
records_chain (r ∷ rs) [] ts p q = absurd p
records_chain (r ∷ rs) (s ∷ ss) [] p q = absurd q
records_chain (r ∷ rs) (s ∷ ss) (t ∷ ts) p q = (record_chain r s t p.0 q.0, records_chain rs ss ts p.1 q.1)

-- a record among them, later
pub record Later (r : RecordNow) (records : List RecordNow) : Type 0 where
  pub side : RecordNow
  pub there : IsOneOf side records
  pub grows : RecordGrows r side

pub later_there : (r : RecordNow) (rs ss : List RecordNow) → RecordsGrow rs ss → IsOneOf r rs → Later r ss
later_there r [] ss g h = absurd h
later_there r (x ∷ rs) [] g h = absurd g
later_there r (x ∷ rs) (s ∷ ss) g (inl e) = record { side = s; there = inl refl; grows = subst (λ y. RecordGrows y s) (sym e) g.0 }
later_there r (x ∷ rs) (s ∷ ss) g (inr h) = let rest = later_there r rs ss g.1 h in record { side = rest.side; there = inr rest.there; grows = rest.grows }

-- ---- halves

pub taken_still : (rs ss : List RecordNow) (t : TrailNow) → RecordsGrow rs ss → IsTakenBy rs t → IsTakenBy ss t
taken_still rs ss t g h =
    let late = later_there h.side rs ss g h.there in
    record {
      side = late.side;
      there = late.there;
      trail = h.trail;
      taken = subst (IsOneOf h.trail) (sym late.grows.trails.1) (one_front h.trail h.side.trails late.grows.trails.0 h.taken);
      grows = h.grows;
    }

pub halves_same : (h : AllHalves) (records : List RecordNow) → HalvesStay h h records
halves_same h records =
    each_by (λ (l : LooseNow). IsLeft h l.trail ⊎ IsTakenBy records l.trail) (all_left h) (λ l there. inl (record { half = l; there = there; grows = trail_same l.trail }))

left_on : (h : AllHalves) (records : List RecordNow) (t u : TrailNow) → TrailGrows t u → IsLeft h u ⊎ IsTakenBy records u → IsLeft h t ⊎ IsTakenBy records t
left_on h records t u g (inl l) = inl (record { half = l.half; there = l.there; grows = trail_chain t u l.half.trail g l.grows })
left_on h records t u g (inr k) = inr (record { side = k.side; there = k.there; trail = k.trail; taken = k.taken; grows = trail_chain t u k.trail g k.grows })

left_then : (a b : AllHalves) (rs ss : List RecordNow) (t : TrailNow) → RecordsGrow rs ss → HalvesStay a b ss → IsLeft a t ⊎ IsTakenBy rs t → IsLeft b t ⊎ IsTakenBy ss t
left_then a b rs ss t g stay (inl l) =
    left_on b ss t l.half.trail l.grows (of_each (λ (x : LooseNow). IsLeft b x.trail ⊎ IsTakenBy ss x.trail) l.half (all_left a) stay l.there)
left_then a b rs ss t g stay (inr k) = inr (taken_still rs ss t g k)

pub halves_chain : (a b c : AllHalves) (rs ss : List RecordNow) → RecordsGrow rs ss → HalvesStay a b rs → HalvesStay b c ss → HalvesStay a c ss
halves_chain a b c rs ss g p q =
    all_so_of (λ (l : LooseNow). IsLeft b l.trail ⊎ IsTakenBy rs l.trail) (λ (l : LooseNow). IsLeft c l.trail ⊎ IsTakenBy ss l.trail) (all_left a)
    (λ l h. left_then b c rs ss l.trail g q h) p

-- ---- all of them

pub holding_chain : (a b c : Holding) → HoldingGrows a b → HoldingGrows b c → HoldingGrows a c
holding_chain a b c p q = record {
  at = q.at ∙ p.at;
  made = on_chain a.port.made b.port.made c.port.made p.made q.made;
  records = records_chain a.records b.records c.records p.records q.records;
  halves = halves_chain a.halves b.halves c.halves b.records c.records q.records p.halves q.halves;
  ends = grow_chain (all_ends a) (all_ends b) (all_ends c) p.ends q.ends;
  asked = asked_chain (all_ends a) (all_ends b) (all_ends c) a.records b.records c.records p.ends q.ends p.records q.records p.asked q.asked;
}

pub grows_same : (h : Holding) → AreOwn h → Grows h h
grows_same h own = record {
  grows = record { at = refl; made = on_same h.port.made; records = records_same h.records; halves = halves_same h.halves h.records; ends = grow_same (all_ends h); asked = asked_same (all_ends h) (all_ends h) h.records };
  own = own;
  judged = λ was. was;
}

pub grows_by : (a b : Holding) → b ≡ a → AreOwn a → Grows a b
grows_by a b e own = subst (Grows a) (sym e) (grows_same a own)

pub grows_then : (a b c : Holding) → Grows a b → Grows b c → Grows a c
grows_then a b c p q = record { grows = holding_chain a b c p.grows q.grows; own = q.own; judged = λ h. q.judged (p.judged h) }
