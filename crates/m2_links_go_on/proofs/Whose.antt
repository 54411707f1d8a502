-- Strands by who acts in them: one of two journals, or the half on a socket. Where each goes on, wherever it stands, they are later
-- ones.
use Rattle.std.proofs.Common.{◌≡◌, ℕ, zero, suc, ◌<◌, Bool, true, false, if◌then◌else◌, List, [], ◌∷◌, ◌++◌, length, map, refl, sym, ap, ◌∙◌, subst, arith, append_assoc, Option, Some, None}
use Rattle.std.specs.Prelude.{slice_index_or}
use Rattle.std.specs.List.{AllByRecursion, IsDistinct}
use Rattle.std.proofs.lemmas.List.{map-append}
use Rattle.m2_fabric.specs.declared.socket.SocketId.{SocketId}
use Rattle.m2_fabric.specs.Sockets.{same_socket}
use Rattle.m2_history.specs.HalfStrands.{strand_of}
use Rattle.m2_history.specs.Woven.{BothNow, strands_of}
use Rattle.m2_weave.specs.m2_journal.declared.entry.Entry.{Entry}
use Rattle.m2_history.specs.m2_trail.Trails.{TrailNow}
use Rattle.m2_links_go_on.specs.Sides.{AreHalves, half_on, halves_of, loose_halves}
use Rattle.m2_links_go_on.proofs.HalfReads.{loose_as}
use Rattle.m2_weave.specs.Later.{GoesOn, IsLater, StrandGoesOn}
use Rattle.m2_weave.specs.Rule.{Woven, nothing_at_all, strand_at}
use Rattle.m2_weave.specs.Stops.{or_else}
use Rattle.m2_weave.specs.Strands.{EndOf, StrandNow, journal_of}
use Rattle.m2_fabric.proofs.Sockets.{apart_turned, same_equal, same_refl}
use Rattle.m2_fabric.proofs.m2_lemmas.Lists.{all_append}

-- ---- who acts

pub data Who : Type 0 where
  near : Who
  far : Who
  half : SocketId → Who

abbrev pub same_who : Who → Who → Bool
same_who near near = true
same_who near far = false
same_who near (half k) = false
same_who far near = false
same_who far far = true
same_who far (half k) = false
same_who (half j) near = false
same_who (half j) far = false
same_who (half j) (half k) = same_socket j k

who-same : (a b : Who) → same_who a b ≡ true → a ≡ b
who-same near near e = refl
who-same near far e = absurd cc
who-same near (half k) e = absurd cc
who-same far near e = absurd cc
who-same far far e = refl
who-same far (half k) e = absurd cc
who-same (half j) near e = absurd cc
who-same (half j) far e = absurd cc
who-same (half j) (half k) e = ap half (same_equal j k e)

who-refl : (a : Who) → same_who a a ≡ true
who-refl near = refl
who-refl far = refl
who-refl (half k) = same_refl k

pub record Told : Type 0 where
  pub who : Who
  pub strand : StrandNow

abbrev pub strands_in : List Told → List StrandNow
strands_in ps = map (λ (p : Told). p.strand) ps

-- the strand of the first that is it, and its place
abbrev pub look : Who → List Told → Option StrandNow
look q [] = None
look q (p ∷ ps) = if same_who q p.who then Some p.strand else look q ps

abbrev find : Who → List Told → ℕ
find q [] = 0
find q (p ∷ ps) = if same_who q p.who then 0 else suc (find q ps)

abbrev who_at : List Told → ℕ → Who
who_at [] i = near
who_at (p ∷ ps) zero = p.who
who_at (p ∷ ps) (suc i) = who_at ps i

some-same : (x y : StrandNow) → Some x ≡ Some y → x ≡ y
some-same x y e = cc

found : (q : Who) (ps : List Told) (s : StrandNow) → look q ps ≡ Some s → (slice_index_or (strands_in ps) (find q ps) nothing_at_all ≡ s) × (who_at ps (find q ps) ≡ q)
found q [] s e = absurd cc
found q (p ∷ ps) s e = at (same_who q p.who) refl e (found q ps s)
  where
    at : (b : Bool) → same_who q p.who ≡ b → (if b then Some p.strand else look q ps) ≡ Some s →
        (look q ps ≡ Some s → (slice_index_or (strands_in ps) (find q ps) nothing_at_all ≡ s) × (who_at ps (find q ps) ≡ q)) →
        (slice_index_or (strands_in (p ∷ ps)) (find q (p ∷ ps)) nothing_at_all ≡ s) × (who_at (p ∷ ps) (find q (p ∷ ps)) ≡ q)
    at true is e later =
        let here : find q (p ∷ ps) ≡ 0 = ap (λ b. if b then 0 else suc (find q ps)) is in (
          ap (λ n. slice_index_or (strands_in (p ∷ ps)) n nothing_at_all) here ∙ some-same p.strand s e,
          ap (who_at (p ∷ ps)) here ∙ sym (who-same q p.who is),
        )
    at false is e later =
        let there : find q (p ∷ ps) ≡ suc (find q ps) = ap (λ b. if b then 0 else suc (find q ps)) is in
        let rest = later e in (
          ap (λ n. slice_index_or (strands_in (p ∷ ps)) n nothing_at_all) there ∙ rest.0,
          ap (who_at (p ∷ ps)) there ∙ rest.1,
        )

-- ---- no one twice

abbrev pub AreApart : List Told → Type 0
AreApart [] = Unit {0}
AreApart (p ∷ ps) = AllByRecursion (λ (x : Told). same_who x.who p.who ≡ false) ps × AreApart ps

not-at : (q : Who) (ps : List Told) (i : ℕ) → i < length ps → AllByRecursion (λ (x : Told). same_who x.who q ≡ false) ps → who_at ps i ≡ q → ⊥
not-at q [] i h all e = omega (arith, h)
not-at q (p ∷ ps) zero h all e = let yes : same_who p.who q ≡ true = ap (λ x. same_who x q) e ∙ who-refl q in clash (same_who p.who q) yes all.0
  where
    clash : (b : Bool) → b ≡ true → b ≡ false → ⊥
    clash true e f = cc
    clash false e f = cc
not-at q (p ∷ ps) (suc i) h all e = not-at q ps i (omega (arith, h)) all.1 e

one-place : (ps : List Told) → AreApart ps → (i j : ℕ) → i < length ps → j < length ps → who_at ps i ≡ who_at ps j → i ≡ j
one-place [] apart i j hi hj e = absurd (omega (arith, hi))
one-place (p ∷ ps) apart zero zero hi hj e = refl
one-place (p ∷ ps) apart zero (suc j) hi hj e = absurd (not-at p.who ps j (omega (arith, hj)) apart.0 (sym e))
one-place (p ∷ ps) apart (suc i) zero hi hj e = absurd (not-at p.who ps i (omega (arith, hi)) apart.0 e)
one-place (p ∷ ps) apart (suc i) (suc j) hi hj e = ap suc (one-place ps apart.1 i j (omega (arith, hi)) (omega (arith, hj)) e)

insert-apart : (xs ys : List Told) (z : Told) → AreApart (xs ++ ys) → AllByRecursion (λ (x : Told). same_who z.who x.who ≡ false) xs →
    AllByRecursion (λ (y : Told). same_who y.who z.who ≡ false) ys → AreApart (xs ++ z ∷ ys)
insert-apart [] ys z apart before behind = (behind, apart)
insert-apart (x ∷ xs) ys z apart before behind = (insert-all (λ (y : Told). same_who y.who x.who ≡ false) xs ys z apart.0 before.0, insert-apart xs ys z apart.1 before.1 behind)
  where
    insert-all : (P : Told → Type 0) (xs ys : List Told) (z : Told) → AllByRecursion P (xs ++ ys) → P z → AllByRecursion P (xs ++ z ∷ ys)
    insert-all P [] ys z all h = (h, all)
    insert-all P (x ∷ xs) ys z all h = (all.0, insert-all P xs ys z all.1 h)

-- ---- later strands

-- there is one that it is, as which it goes on
abbrev pub HasLater : (old new : Woven) → List Told → Told → Type 0
HasLater old new qs p = (s : StrandNow) × (look p.who qs ≡ Some s) × StrandGoesOn old new p.strand s

told-at : (P : Told → Type 0) (ps : List Told) (i : ℕ) → i < length ps → AllByRecursion P ps → P (record { who = who_at ps i; strand = slice_index_or (strands_in ps) i nothing_at_all })
told-at P [] i h all = absurd (omega (arith, h))
told-at P (p ∷ ps) zero h all = all.0
told-at P (p ∷ ps) (suc i) h all = told-at P ps i (omega (arith, h)) all.1

count-of : (ps : List Told) → length (strands_in ps) ≡ length ps
count-of [] = refl
count-of (p ∷ ps) = ap suc (count-of ps)

pub later_by_who : (old new : Woven) (ps qs : List Told) → strands_in ps ≡ old.strands → strands_in qs ≡ new.strands → AreApart ps → AllByRecursion (HasLater old new qs) ps →
    ((e : EndOf) → GoesOn (old.bytes.got e) (new.bytes.got e)) → ((e : EndOf) → GoesOn (old.bytes.put e) (new.bytes.put e)) → IsLater old new
later_by_who old new ps qs olds news apart each got put = record {
  place = λ i. find (who_at ps i) qs;
  apart = λ i j hi hj e.
      let one = told-at (HasLater old new qs) ps i (there i hi) each in
      let two = told-at (HasLater old new qs) ps j (there j hj) each in
      one-place ps apart i j (there i hi) (there j hj)
      (sym (found (who_at ps i) qs one.0 one.1).1 ∙ ap (who_at qs) e ∙ (found (who_at ps j) qs two.0 two.1).1);
  strands = λ i h.
      let its = told-at (HasLater old new qs) ps i (there i h) each in
      subst (λ s. StrandGoesOn old new s (strand_at new (find (who_at ps i) qs))) (ap (λ l. slice_index_or l i nothing_at_all) olds)
      (subst (λ s. StrandGoesOn old new (slice_index_or (strands_in ps) i nothing_at_all) s)
      (sym (found (who_at ps i) qs its.0 its.1).0 ∙ ap (λ l. slice_index_or l (find (who_at ps i) qs) nothing_at_all) news) its.2);
  got = got;
  put = put;
}
  where
    there : (i : ℕ) → i < length old.strands → i < length ps
    there i h = omega (arith, h, ap length olds, count-of ps)

-- ---- the strands of two sides

abbrev pub told_half : TrailNow → Told
told_half t = record { who = half t.socket; strand = strand_of t }

abbrev pub told_journal : Who → List Entry → Told
told_journal q js = record { who = q; strand = journal_of js }

abbrev pub told_of : BothNow → List Told
told_of x =
    ((told_journal near x.a.journal ∷ map told_half x.a.trails) ++ (told_journal far x.b.journal ∷ map told_half x.b.trails))
    ++ map told_half (loose_halves x.a.journal x.b.journal x.loose)

halves-told : (ts : List TrailNow) → strands_in (map told_half ts) ≡ map strand_of ts
halves-told [] = refl
halves-told (t ∷ ts) = ap (λ l. strand_of t ∷ l) (halves-told ts)

pub strands_told : (x : BothNow) → strands_in (told_of x) ≡ strands_of x
strands_told x =
    let near_ones = told_journal near x.a.journal ∷ map told_half x.a.trails in
    let far_ones = told_journal far x.b.journal ∷ map told_half x.b.trails in
    let loose = map told_half (loose_halves x.a.journal x.b.journal x.loose) in
    map-append (λ (p : Told). p.strand) (near_ones ++ far_ones) loose
    ∙ ap (λ l. l ++ strands_in loose) (map-append (λ (p : Told). p.strand) near_ones far_ones)
    ∙ ap (λ l. ((journal_of x.a.journal ∷ l) ++ strands_in far_ones) ++ strands_in loose) (halves-told x.a.trails)
    ∙ ap (λ l. ((journal_of x.a.journal ∷ map strand_of x.a.trails) ++ (journal_of x.b.journal ∷ l)) ++ strands_in loose) (halves-told x.b.trails)
    ∙ ap (λ l. ((journal_of x.a.journal ∷ map strand_of x.a.trails) ++ (journal_of x.b.journal ∷ map strand_of x.b.trails)) ++ l)
    (halves-told (loose_halves x.a.journal x.b.journal x.loose) ∙ sym (loose_as x.a.journal x.b.journal x.loose))

-- ---- found among them

look-both : (q : Who) (ps qs : List Told) → look q (ps ++ qs) ≡ or_else (look q ps) (look q qs)
look-both q [] qs = refl
look-both q (p ∷ ps) qs = at (same_who q p.who) (look-both q ps qs)
  where
    at : (b : Bool) → look q (ps ++ qs) ≡ or_else (look q ps) (look q qs) →
        (if b then Some p.strand else look q (ps ++ qs)) ≡ or_else (if b then Some p.strand else look q ps) (look q qs)
    at true e = refl
    at false e = e

half-both : (k : SocketId) (ts us : List TrailNow) → half_on k (ts ++ us) ≡ or_else (half_on k ts) (half_on k us)
half-both k [] us = refl
half-both k (t ∷ ts) us = at (same_socket k t.socket) (half-both k ts us)
  where
    at : (b : Bool) → half_on k (ts ++ us) ≡ or_else (half_on k ts) (half_on k us) →
        (if b then Some t else half_on k (ts ++ us)) ≡ or_else (if b then Some t else half_on k ts) (half_on k us)
    at true e = refl
    at false e = e

abbrev pub strand_in : Option TrailNow → Option StrandNow
strand_in (Some t) = Some (strand_of t)
strand_in None = None

look-halves : (k : SocketId) (ts : List TrailNow) → look (half k) (map told_half ts) ≡ strand_in (half_on k ts)
look-halves k [] = refl
look-halves k (t ∷ ts) = at (same_socket k t.socket) (look-halves k ts)
  where
    at : (b : Bool) → look (half k) (map told_half ts) ≡ strand_in (half_on k ts) →
        (if b then Some (strand_of t) else look (half k) (map told_half ts)) ≡ strand_in (if b then Some t else half_on k ts)
    at true e = refl
    at false e = e

either-in : (a b : Option TrailNow) → or_else (strand_in a) (strand_in b) ≡ strand_in (or_else a b)
either-in (Some t) b = refl
either-in None b = refl

pub look_half : (x : BothNow) (k : SocketId) → look (half k) (told_of x) ≡ strand_in (half_on k (halves_of x))
look_half x k =
    let loose = loose_halves x.a.journal x.b.journal x.loose in
    let near_ones = told_journal near x.a.journal ∷ map told_half x.a.trails in
    let far_ones = told_journal far x.b.journal ∷ map told_half x.b.trails in
    look-both (half k) (near_ones ++ far_ones) (map told_half loose)
    ∙ ap (λ o. or_else o (look (half k) (map told_half loose)))
    (look-both (half k) near_ones far_ones
    ∙ ap (λ o. or_else o (look (half k) (map told_half x.b.trails))) (look-halves k x.a.trails)
    ∙ ap (or_else (strand_in (half_on k x.a.trails))) (look-halves k x.b.trails)
    ∙ either-in (half_on k x.a.trails) (half_on k x.b.trails) ∙ ap strand_in (sym (half-both k x.a.trails x.b.trails)))
    ∙ ap (or_else (strand_in (half_on k (x.a.trails ++ x.b.trails)))) (look-halves k loose)
    ∙ either-in (half_on k (x.a.trails ++ x.b.trails)) (half_on k loose) ∙ ap strand_in (sym (half-both k (x.a.trails ++ x.b.trails) loose))

no-journal : (ts : List TrailNow) → look far (map told_half ts) ≡ None
no-journal [] = refl
no-journal (t ∷ ts) = no-journal ts

pub look_far : (x : BothNow) → look far (told_of x) ≡ Some (journal_of x.b.journal)
look_far x =
    let loose = map told_half (loose_halves x.a.journal x.b.journal x.loose) in
    let near_ones = told_journal near x.a.journal ∷ map told_half x.a.trails in
    let far_ones = told_journal far x.b.journal ∷ map told_half x.b.trails in
    look-both far (near_ones ++ far_ones) loose
    ∙ ap (λ o. or_else o (look far loose)) (look-both far near_ones far_ones ∙ ap (λ o. or_else o (Some (journal_of x.b.journal))) (no-journal x.a.trails))

-- ---- no one twice among them

all-halves : (P : Told → Type 0) → ((t : TrailNow) → P (told_half t)) → (ts : List TrailNow) → AllByRecursion P (map told_half ts)
all-halves P h [] = tt
all-halves P h (t ∷ ts) = (h t, all-halves P h ts)

others : (k : SocketId) (ts : List TrailNow) → AllByRecursion (λ (x : SocketId). same_socket k x ≡ false) (map (λ (t : TrailNow). t.socket) ts) →
    AllByRecursion (λ (x : Told). same_who x.who (half k) ≡ false) (map told_half ts)
others k [] all = tt
others k (t ∷ ts) all = (apart_turned k t.socket all.0, others k ts all.1)

halves-apart : (ts : List TrailNow) → IsDistinct same_socket (map (λ (t : TrailNow). t.socket) ts) → AreApart (map told_half ts)
unfolding IsDistinct
halves-apart [] d = tt
halves-apart (t ∷ ts) d = (others t.socket ts d.0, halves-apart ts d.1)

pub told_apart : (x : BothNow) → AreHalves (halves_of x) → AreApart (told_of x)
told_apart x are =
    let loose = loose_halves x.a.journal x.b.journal x.loose in
    let near_ones = map told_half x.a.trails in
    let far_ones = map told_half x.b.trails in
    let loose_ones = map told_half loose in
    let split : map told_half (halves_of x) ≡ near_ones ++ (far_ones ++ loose_ones) =
    map-append told_half (x.a.trails ++ x.b.trails) loose ∙ ap (λ l. l ++ loose_ones) (map-append told_half x.a.trails x.b.trails) ∙ append_assoc near_ones far_ones loose_ones in
    let halves : AreApart (near_ones ++ (far_ones ++ loose_ones)) = subst AreApart split (halves-apart (halves_of x) are.apart) in
    let behind : AllByRecursion (λ (y : Told). same_who y.who far ≡ false) (far_ones ++ loose_ones) =
    all_append (λ (y : Told). same_who y.who far ≡ false) far_ones loose_ones (all-halves (λ (y : Told). same_who y.who far ≡ false) (λ t. refl) x.b.trails)
    (all-halves (λ (y : Told). same_who y.who far ≡ false) (λ t. refl) loose) in
    let with_far : AreApart (near_ones ++ told_journal far x.b.journal ∷ (far_ones ++ loose_ones)) =
    insert-apart near_ones (far_ones ++ loose_ones) (told_journal far x.b.journal) halves (all-halves (λ (y : Told). same_who far y.who ≡ false) (λ t. refl) x.a.trails) behind in
    let IsOther : Told → Type 0 = λ (y : Told). same_who y.who near ≡ false in
    let no_near : AllByRecursion IsOther (near_ones ++ told_journal far x.b.journal ∷ (far_ones ++ loose_ones)) =
    all_append IsOther near_ones (told_journal far x.b.journal ∷ (far_ones ++ loose_ones)) (all-halves IsOther (λ t. refl) x.a.trails)
    (refl, all_append IsOther far_ones loose_ones (all-halves IsOther (λ t. refl) x.b.trails) (all-halves IsOther (λ t. refl) loose)) in
    let all : AreApart (told_journal near x.a.journal ∷ (near_ones ++ told_journal far x.b.journal ∷ (far_ones ++ loose_ones))) = (no_near, with_far) in
    subst AreApart (sym (append_assoc (told_journal near x.a.journal ∷ near_ones) (told_journal far x.b.journal ∷ far_ones) loose_ones)) all
