-- What waits at ports in memory that are the same is accepted alike, but for want of memory.
use Rattle.std.proofs.Common.{◌≡◌, ℕ, ◌-◌, ◌<◌, ◌++◌, List, [], ◌∷◌, length, map, Bool, true, false, if◌then◌else◌, Option, None, Some, inl, inr, refl, sym, subst, ◌∙◌, ap, arith}
use Rattle.std.specs.Prelude.{◌≢◌, ◌⊎◌, IfSome, IsSome, nat_lt}
use Rattle.std.specs.List.{AllByRecursion}
use Rattle.std.specs.Option.{option_map}
use Rattle.std.proofs.lemmas.List.{map-append}
use Rattle.m2_fabric.proofs.m2_lemmas.Lists.{all_last, cons_same}
use Rattle.m2_fabric.proofs.m2_lemmas.Options.{of_some, some_same}
use Rattle.m2_fabric.specs.End.{SeenEnd}
use Rattle.m2_fabric.specs.Kinds.{IsInMemory, WaitInMemory}
use Rattle.m2_fabric.specs.Port.{SeenPort}
use Rattle.m2_fabric.specs.Port as port
use Rattle.m2_fabric.specs.declared.port.Taken.TheVariants as taken
use Rattle.m2_trail.specs.Arrivals.{closed_of}
use Rattle.m2_trail.specs.Incoming.{IncomingNow, accepted}
use Rattle.m2_script.specs.m2_center.m2_turn.Accepting.{Accepting, AcceptsAll, EndsWith, TakesAll, TakesIn, joined, unasked}
use Rattle.m2_script.specs.m2_center.m2_turn.Halves.{AllHalves}
use Rattle.m2_script.specs.m2_center.m2_turn.Hearing.{IsHalfInMemory}
use Rattle.m2_script.specs.m2_center.m2_turn.Sessions.{PendingNow}
use Rattle.m2_script.specs.m2_center.m2_turn.declared.accepting.Accepted.{Accepted}
use Rattle.m2_script.specs.m2_center.m2_turn.declared.accepting.Accepted.TheVariants as accepts
use Rattle.m2_script.specs.m2_center.m2_turn.declared.accepting.TheConstants.{MOST_ACCEPTS}
use Rattle.m2_script.specs.m2_center.m2_turn.declared.pending.TheConstants.{MOST_HALVES}
use Rattle.m2_exact.specs.Accepts.{AreInMemory, LikePortsAcceptAlike, plain_accepting, plain_halves, plain_pending}

-- ---- one socket

-- what waits behind a socket that was accepted, of ports in memory
record Gave (end : SeenEnd) (old new : SeenPort) : Type 0 where
  pub rest : List SeenEnd
  pub waited : old.waiting ≡ Some (end ∷ rest)
  pub leaves : new ≡ record old { made = old.made ++ end.id ∷ []; quiet = false; waiting = Some rest }

gave : (end : SeenEnd) (old new : SeenPort) → IsSome old.waiting → port.Accepts (taken.Made end) old new → Gave end old new
gave end old new some (may, is_new, waits, only) = by new.waiting refl waits.0
  where
    by : (o : Option (List SeenEnd)) → new.waiting ≡ o → old.waiting ≡ option_map (λ rest. end ∷ rest) new.waiting → Gave end old new
    by (Some rest) is waits = record {
      rest = rest;
      waited = waits ∙ ap (option_map (λ rest. end ∷ rest)) is;
      leaves = only ∙ ap (λ (w : Option (List SeenEnd)). record old { made = old.made ++ end.id ∷ []; quiet = false; waiting = w }) is;
    }
    by None is waits = absurd (cc (some, waits ∙ ap (option_map (λ rest. end ∷ rest)) is))

many_plain : (ps : List PendingNow) → length (map plain_pending ps) ≡ length ps
many_plain [] = refl
many_plain (p ∷ ps) = omega (arith, many_plain ps)

joined_plain : (entity room : ℕ) (end : SeenEnd) (h : AllHalves) → plain_halves (joined (accepted entity end room) h) ≡ joined (accepted entity end 0) (plain_halves h)
joined_plain entity room end h =
    by (nat_lt (length h.pending) MOST_HALVES)
    ∙ ap (λ (n : ℕ). if nat_lt n MOST_HALVES then record h { pending = map plain_pending h.pending ++ unasked (accepted entity end 0) ∷ [] }
    else record h { pending = map plain_pending h.pending; loose = h.loose ++ closed_of (accepted entity end 0) ∷ [] }) (sym (many_plain h.pending))
  where
    by : (b : Bool) → plain_halves (if b then record h { pending = h.pending ++ unasked (accepted entity end room) ∷ [] } else record h { loose = h.loose ++ closed_of (accepted entity end room) ∷ [] })
        ≡ (if b then record h { pending = map plain_pending h.pending ++ unasked (accepted entity end 0) ∷ [] } else record h { pending = map plain_pending h.pending; loose = h.loose ++ closed_of (accepted entity end 0) ∷ [] })
    by true = ap (λ (ps : List PendingNow). record h { pending = ps }) (map-append plain_pending h.pending (unasked (accepted entity end room) ∷ []))
    by false = refl

takes_one : (entity : ℕ) (old last new behind : Accepting) → IsSome old.port.waiting → plain_accepting old ≡ plain_accepting last → TakesIn entity old new → TakesIn entity last behind →
    plain_accepting new ≡ plain_accepting behind
takes_one entity old last new behind some like h g =
    let ports : old.port ≡ last.port = ap (λ (a : Accepting). a.port) like in
    let a = gave h.end old.port new.port some h.gives in
    let b = gave g.end last.port behind.port (subst (λ (p : SeenPort). IsSome p.waiting) ports some) g.gives in
    let both = cons_same h.end g.end a.rest b.rest (some_same (h.end ∷ a.rest) (g.end ∷ b.rest) (sym a.waited ∙ ap (λ (p : SeenPort). p.waiting) ports ∙ b.waited)) in
    ap (λ (p : SeenPort). record (plain_accepting new) { port = p })
    (a.leaves
    ∙ ap (λ (e : SeenEnd). record old.port { made = old.port.made ++ e.id ∷ []; quiet = false; waiting = Some a.rest }) both.0
    ∙ ap (λ (es : List SeenEnd). record old.port { made = old.port.made ++ g.end.id ∷ []; quiet = false; waiting = Some es }) both.1
    ∙ ap (λ (p : SeenPort). record p { made = p.made ++ g.end.id ∷ []; quiet = false; waiting = Some b.rest }) ports
    ∙ sym b.leaves)
    ∙ ap (λ (x : AllHalves). record { port = behind.port; halves = x })
    (ap plain_halves h.joins
    ∙ joined_plain entity h.room h.end old.halves
    ∙ ap (λ (e : SeenEnd). joined (accepted entity e 0) (plain_halves old.halves)) both.0
    ∙ ap (λ (x : Accepting). joined (accepted entity g.end 0) x.halves) like
    ∙ sym (joined_plain entity g.room g.end last.halves)
    ∙ sym (ap plain_halves g.joins))

takes_stay : (entity : ℕ) (old new : Accepting) → IsSome old.port.waiting → TakesIn entity old new → IsSome new.port.waiting
takes_stay entity old new some h = let a = gave h.end old.port new.port some h.gives in subst (λ (p : SeenPort). IsSome p.waiting) (sym a.leaves) refl

-- ---- none

-- nothing waited
record Rests (old new : Accepting) : Type 0 where
  pub waited : old.port.waiting ≡ Some []
  pub leaves : new ≡ record old { port = record old.port { quiet = true } }

rests : (old new : Accepting) → IsSome old.port.waiting → EndsWith accepts.All old new → Rests old new
rests old new some (inl h) = record { waited = by old.port.waiting some h.gives.0; leaves = ap (λ (p : SeenPort). record new { port = p }) h.gives.1 ∙ ap (λ (x : AllHalves). record { port = record old.port { quiet = true }; halves = x }) h.same }
  where
    by : (o : Option (List SeenEnd)) → IsSome o → IfSome o (λ waiting. waiting ≡ []) → o ≡ Some []
    by (Some w) some h = ap (λ (x : List SeenEnd). Some x) h
    by None some h = absurd (cc some)
rests old new some (inr h) = absurd (cc (some, h.gives.0.1))

rests_one : (old last new behind : Accepting) → plain_accepting old ≡ plain_accepting last → Rests old new → Rests last behind → plain_accepting new ≡ plain_accepting behind
rests_one old last new behind like h g =
    ap plain_accepting h.leaves ∙ ap (λ (a : Accepting). record a { port = record a.port { quiet = true } }) like ∙ sym (ap plain_accepting g.leaves)

-- a socket is accepted where one waits
rests_or_takes : (entity : ℕ) (old last new behind : Accepting) → IsSome old.port.waiting → plain_accepting old ≡ plain_accepting last → Rests old new → TakesIn entity last behind → ⊥
rests_or_takes entity old last new behind some like h g =
    let ports : old.port ≡ last.port = ap (λ (a : Accepting). a.port) like in
    let b = gave g.end last.port behind.port (subst (λ (p : SeenPort). IsSome p.waiting) ports some) g.gives in
    absurd (cc (h.waited, ap (λ (p : SeenPort). p.waiting) ports, b.waited))

-- ---- all of them

-- sockets one after another, of which so many are left to a turn, and then none waits or none is left
record IsLast (one : Accepted) (most : ℕ) (old new : Accepting) : Type 0 where
  pub is : one ≡ accepts.All
  pub rests : Rests old new
  pub some : 0 < most

record HasNoMore (one : Accepted) (most : ℕ) (old new : Accepting) : Type 0 where
  pub is : one ≡ accepts.Busy
  pub same : old ≡ new
  pub none : most ≡ 0

abbrev Walks : (entity : ℕ) → Accepted → List Accepting → (most : ℕ) → Accepting → Accepting → Type 0
Walks entity one [] most old new = IsLast one most old new ⊎ HasNoMore one most old new
Walks entity one (a ∷ xs) most old new = TakesIn entity old a × (0 < most) × Walks entity one xs (most - 1) a new

ended : (entity : ℕ) (xs : List Accepting) (most : ℕ) (old mid new : Accepting) → IsSome old.port.waiting → length xs < most → TakesAll entity xs old mid → EndsWith accepts.All mid new →
    Walks entity accepts.All xs most old new
ended entity [] most old mid new some few same h =
    inl (record { is = refl; rests = rests old new some (subst (λ (a : Accepting). EndsWith accepts.All a new) (sym same) h); some = omega (arith, few) })
ended entity (a ∷ xs) most old mid new some few (takes, rest) h =
    (takes, omega (arith, few), ended entity xs (most - 1) a mid new (takes_stay entity old a some takes) (omega (arith, few)) rest h)

busy : (entity : ℕ) (xs : List Accepting) (most : ℕ) (old new : Accepting) → length xs ≡ most → TakesAll entity xs old new → Walks entity accepts.Busy xs most old new
busy entity [] most old new many same = inr (record { is = refl; same = same; none = omega (arith, many) })
busy entity (a ∷ xs) most old new many (takes, rest) = (takes, omega (arith, many), busy entity xs (most - 1) a new (omega (arith, many)) rest)

walks : (entity : ℕ) (one : Accepted) (old new : Accepting) → IsSome old.port.waiting → one ≢ accepts.NoMemory → AcceptsAll entity one old new → (xs : List Accepting) × Walks entity one xs MOST_ACCEPTS old new
walks entity accepts.Busy old new some m h = (h.stood, busy entity h.stood MOST_ACCEPTS old new h.many h.takes)
walks entity accepts.All old new some m h = (h.taken.stood, ended entity h.taken.stood MOST_ACCEPTS old h.mid new some h.taken.within h.taken.takes h.ends)
walks entity accepts.NoMemory old new some m h = absurd (m refl)

both_walk : (entity : ℕ) (one other : Accepted) (xs ys : List Accepting) (most : ℕ) (old last new behind : Accepting) → IsSome old.port.waiting → plain_accepting old ≡ plain_accepting last →
    Walks entity one xs most old new → Walks entity other ys most last behind → (one ≡ other) × (plain_accepting new ≡ plain_accepting behind)
both_walk entity one other [] [] most old last new behind some like (inl h) (inl g) = (h.is ∙ sym g.is, rests_one old last new behind like h.rests g.rests)
both_walk entity one other [] [] most old last new behind some like (inr h) (inr g) = (h.is ∙ sym g.is, sym (ap plain_accepting h.same) ∙ like ∙ ap plain_accepting g.same)
both_walk entity one other [] [] most old last new behind some like (inl h) (inr g) = absurd (omega (arith, h.some, g.none))
both_walk entity one other [] [] most old last new behind some like (inr h) (inl g) = absurd (omega (arith, g.some, h.none))
both_walk entity one other [] (b ∷ ys) most old last new behind some like (inl h) (takes, more, rest) = absurd (rests_or_takes entity old last new b some like h.rests takes)
both_walk entity one other [] (b ∷ ys) most old last new behind some like (inr h) (takes, more, rest) = absurd (omega (arith, h.none, more))
both_walk entity one other (a ∷ xs) [] most old last new behind some like (takes, more, rest) (inl g) =
    absurd (rests_or_takes entity last old behind a (subst (λ (x : Accepting). IsSome x.port.waiting) like some) (sym like) g.rests takes)
both_walk entity one other (a ∷ xs) [] most old last new behind some like (takes, more, rest) (inr g) = absurd (omega (arith, g.none, more))
both_walk entity one other (a ∷ xs) (b ∷ ys) most old last new behind some like (takes, more, rest) (took, left, others) =
    both_walk entity one other xs ys (most - 1) a b new behind (takes_stay entity old a some takes) (takes_one entity old last a b some like takes took) rest others

accepts_one : (entity : ℕ) (one other : Accepted) (old last new behind : Accepting) → IsSome old.port.waiting → plain_accepting old ≡ plain_accepting last → one ≢ accepts.NoMemory → other ≢ accepts.NoMemory →
    AcceptsAll entity one old new → AcceptsAll entity other last behind → (one ≡ other) × (plain_accepting new ≡ plain_accepting behind)
accepts_one entity one other old last new behind some like m k h g =
    let (xs, first) = walks entity one old new some m h in
    let (ys, second) = walks entity other last behind (subst (λ (x : Accepting). IsSome x.port.waiting) like some) k g in
    both_walk entity one other xs ys MOST_ACCEPTS old last new behind some like first second

-- ---- they stay in memory

joined_stays : (half : IncomingNow) (h : AllHalves) → IsInMemory half.end → AllByRecursion IsHalfInMemory h.pending → AllByRecursion IsHalfInMemory (joined half h).pending
joined_stays half h m all = by (nat_lt (length h.pending) MOST_HALVES)
  where
    by : (b : Bool) → AllByRecursion IsHalfInMemory (if b then record h { pending = h.pending ++ unasked half ∷ [] } else record h { loose = h.loose ++ closed_of half ∷ [] }).pending
    by true = all_last IsHalfInMemory h.pending (unasked half) all m
    by false = all

one_in_memory : (entity : ℕ) (old new : Accepting) → AreInMemory old → TakesIn entity old new → AreInMemory new
one_in_memory entity old new m h =
    let a = gave h.end old.port new.port m.port.0 h.gives in
    let ends = of_some (AllByRecursion IsInMemory) old.port.waiting (h.end ∷ a.rest) a.waited m.port.1 in
    record {
      port = subst WaitInMemory (sym a.leaves) (refl, ends.1);
      halves = subst (λ (x : AllHalves). AllByRecursion IsHalfInMemory x.pending) (sym h.joins) (joined_stays (accepted entity h.end h.room) old.halves ends.0 m.halves);
    }

end_in_memory : (one : Accepted) (old new : Accepting) → AreInMemory old → EndsWith one old new → AreInMemory new
end_in_memory accepts.All old new m h = subst AreInMemory (sym (rests old new m.port.0 h).leaves) (record { port = m.port; halves = m.halves })
end_in_memory accepts.NoMemory old new m h =
    record { port = subst WaitInMemory (sym h.gives) m.port; halves = subst (λ (x : AllHalves). AllByRecursion IsHalfInMemory x.pending) (sym h.same) m.halves }
end_in_memory accepts.Busy old new m h = absurd h

end_stays : (one : Accepted) (old new : Accepting) → IsSome old.port.waiting → EndsWith one old new → IsSome new.port.waiting
end_stays accepts.All old new some h = subst (λ (a : Accepting). IsSome a.port.waiting) (sym (rests old new some h).leaves) some
end_stays accepts.NoMemory old new some h = subst (λ (p : SeenPort). IsSome p.waiting) (sym h.gives) some
end_stays accepts.Busy old new some h = absurd h

-- what one accept leaves so, and what none does, all leave so
module _ (P : Accepting → Type 0) (entity : ℕ) (one_stays : (old new : Accepting) → P old → TakesIn entity old new → P new)
    (none_stays : (r : Accepted) (old new : Accepting) → P old → EndsWith r old new → P new) where
  each_stays : (xs : List Accepting) (old new : Accepting) → P old → TakesAll entity xs old new → P new
  each_stays [] old new p same = subst P same p
  each_stays (a ∷ xs) old new p (takes, rest) = each_stays xs a new (one_stays old a p takes) rest

  all_stay : (r : Accepted) (old new : Accepting) → P old → AcceptsAll entity r old new → P new
  all_stay accepts.Busy old new p h = each_stays h.stood old new p h.takes
  all_stay accepts.All old new p h = none_stays accepts.All h.mid new (each_stays h.taken.stood old h.mid p h.taken.takes) h.ends
  all_stay accepts.NoMemory old new p h = none_stays accepts.NoMemory h.mid new (each_stays h.taken.stood old h.mid p h.taken.takes) h.ends

pub alike : LikePortsAcceptAlike
alike = record {
  accepts = accepts_one;
  stays = λ entity. all_stay (λ (a : Accepting). IsSome a.port.waiting) entity (takes_stay entity) end_stays;
  memory = λ entity. all_stay AreInMemory entity (one_in_memory entity) end_in_memory;
}
