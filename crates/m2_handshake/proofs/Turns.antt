-- As many replies as asks, or one less; an opener has none.
use Rattle.std.proofs.Common.{◌≡◌, ℕ, ◌+◌, ◌≤◌, List, [], ◌∷◌, ◌++◌, length, flat_map, refl, sym, ap, ◌∙◌, arith, length-append}
use Rattle.std.proofs.lemmas.Grind.{flat_map-append}
use Rattle.std.proofs.lemmas.List.{nil_from_length}
use Rattle.m2_control.specs.declared.control.Control.{Control}
use Rattle.m2_control.specs.declared.control.Control.TheVariants as control
use Rattle.m2_handshake.specs.declared.stage.HalfSide.TheVariants.{Opener, Acceptor}
use Rattle.m2_handshake.specs.declared.stage.Stage.{Stage}
use Rattle.m2_handshake.specs.declared.stage.Stage.TheVariants.{Opening, Banner, Waits, Authed, Asked, Ended, Faulty}
use Rattle.m2_handshake.specs.Asking.{after_reply}
use Rattle.m2_handshake.specs.Course.{Event, silent, wrote, asked, failed, replied, Goes, Runs, asks_in, replies_in, asks_of, replies_of, Exchange, Reaches, owed}
use Rattle.m2_handshake.specs.Laws.{AsksBeforeReplies}
use Rattle.m2_handshake.specs.Standing.{Standing, fed, fed_at}
use Rattle.m2_handshake.proofs.Leading.{tells}

-- ---- one step

pays : (c : Control) → owed (after_reply c) ≡ 0
pays (control.IdentMissingFeatures p) = refl
pays (control.Wait p) = refl
pays c = refl

counts : (d : Event) (a b : Standing) → Goes a d b → length (asks_of (d ∷ [])) + owed a.stage ≡ length (replies_of (d ∷ [])) + owed b.stage
counts silent a b h = ap (λ n. 0 + n) (sym (tells a silent b h).1)
counts (wrote words) a b h = ap (λ n. 0 + n) (sym (tells a (wrote words) b h).1)
counts (asked ask) a b h = let t = tells a (asked ask) b h in ap (λ n. 1 + n) t.1 ∙ sym (ap (λ n. 0 + n) (ap owed t.2))
counts (failed f) a b h = let t = tells a (failed f) b h in ap (λ n. 0 + n) (t.1 ∙ sym (ap (λ (s : Standing). owed s.stage) t.2))
counts (replied c) a b h = ap (λ n. 0 + n) (ap owed h.0) ∙ sym (ap (λ n. 1 + n) (ap (λ (s : Standing). owed s.stage) h.2 ∙ pays c))

same_side : (d : Event) (a b : Standing) → Goes a d b → b.side ≡ a.side
same_side silent a b h = (tells a silent b h).0.side
same_side (wrote words) a b h = (tells a (wrote words) b h).0.side
same_side (asked ask) a b h = (tells a (asked ask) b h).0.side
same_side (failed f) a b h = ap (λ (s : Standing). s.side) (tells a (failed f) b h).2
same_side (replied c) a b h = ap (λ (s : Standing). s.side) h.2

-- ---- many

one_more : {X : Type 0} (f : Event → List X) (d : Event) (ds : List Event) → length (flat_map f (d ∷ ds)) ≡ length (flat_map f (d ∷ [])) + length (flat_map f ds)
one_more f d ds = ap length (flat_map-append f (d ∷ []) ds) ∙ length-append (flat_map f (d ∷ [])) (flat_map f ds)

counted : (ds : List Event) (a b : Standing) → Runs ds a b → length (asks_of ds) + owed a.stage ≡ length (replies_of ds) + owed b.stage
counted [] a b same = ap (λ (s : Standing). 0 + owed s.stage) same
counted (d ∷ ds) a b (m, g, k) = omega (arith, one_more asks_in d ds, one_more replies_in d ds, counts d a m g, counted ds m b k)

owes_one : (stage : Stage) → owed stage ≤ 1
owes_one Opening = omega arith
owes_one Banner = omega arith
owes_one (Waits awaited) = omega arith
owes_one Authed = omega arith
owes_one Asked = omega arith
owes_one Ended = omega arith
owes_one (Faulty f) = omega arith

prefix_runs : (front back : List Event) (a b : Standing) → Runs (front ++ back) a b → (mid : Standing) × Runs front a mid
prefix_runs [] back a b k = (a, refl)
prefix_runs (d ∷ front) back a b (m, g, k) = let rest = prefix_runs front back m b k in (rest.0, (m, g, rest.1))

points : (front back : List Event) (a b : Standing) → owed a.stage ≡ 0 → Runs (front ++ back) a b →
    (length (replies_of front) ≤ length (asks_of front)) × (length (asks_of front) ≤ 1 + length (replies_of front))
points front back a b o k =
    let there = prefix_runs front back a b k in
    let count = counted front a there.0 there.1 in
    let most = owes_one there.0.stage in
    (omega (arith, count, o), omega (arith, count, o, most))

fed_keeps_at : (stage : Stage) (s : Standing) (more : List ℕ) → ((fed_at stage s more).stage ≡ s.stage) × ((fed_at stage s more).side ≡ s.side)
fed_keeps_at Opening s more = (refl, refl)
fed_keeps_at Banner s more = (refl, refl)
fed_keeps_at (Waits awaited) s more = (refl, refl)
fed_keeps_at Authed s more = (refl, refl)
fed_keeps_at Asked s more = (refl, refl)
fed_keeps_at Ended s more = (refl, refl)
fed_keeps_at (Faulty f) s more = (refl, refl)

pub fed_stage : (s : Standing) (more : List ℕ) → (fed s more).stage ≡ s.stage
fed_stage s more = (fed_keeps_at s.stage s more).0

ends : (begin s : Standing) (x : Exchange) → owed begin.stage ≡ 0 → Reaches begin x s → length x.asks ≡ length x.replies + owed s.stage
ends begin s x o r =
    let count = counted r.events (fed begin x.bytes) s r.runs in
    omega (arith, count, o, ap owed (fed_stage begin x.bytes), ap length r.asks, ap length r.replies)

-- ---- an opener

opener_isnt_acceptor : Opener ≡ Acceptor → ⊥
opener_isnt_acceptor e = cc

no_asks : (ds : List Event) (a b : Standing) → a.side ≡ Opener → Runs ds a b → asks_of ds ≡ []
no_asks [] a b q k = refl
no_asks (silent ∷ ds) a b q (m, g, k) = no_asks ds m b (same_side silent a m g ∙ q) k
no_asks (wrote words ∷ ds) a b q (m, g, k) = no_asks ds m b (same_side (wrote words) a m g ∙ q) k
no_asks (asked ask ∷ ds) a b q (m, g, k) = absurd (opener_isnt_acceptor (sym q ∙ (tells a (asked ask) m g).3))
no_asks (failed f ∷ ds) a b q (m, g, k) = no_asks ds m b (same_side (failed f) a m g ∙ q) k
no_asks (replied c ∷ ds) a b q (m, g, k) = no_asks ds m b (same_side (replied c) a m g ∙ q) k

opener : (begin s : Standing) (x : Exchange) → begin.side ≡ Opener → owed begin.stage ≡ 0 → Reaches begin x s → (x.asks ≡ []) × (x.replies ≡ [])
opener begin s x q o r =
    let none = sym r.asks ∙ no_asks r.events (fed begin x.bytes) s ((fed_keeps_at begin.stage begin x.bytes).1 ∙ q) r.runs in
    (none, nil_from_length x.replies (omega (arith, ends begin s x o r, ap length none)))

pub asks_first : AsksBeforeReplies
asks_first = record { points = points; ends = ends; opener = opener }
