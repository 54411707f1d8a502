-- A half has one course, by what it was fed and by the replies that it was given.
use Rattle.std.proofs.Common.{◌≡◌, ◌≢◌, ℕ, zero, suc, ◌+◌, ◌≤◌, ◌⊎◌, inl, inr, true, false, List, [], ◌∷◌, ◌++◌, length, refl, sym, ap, ◌∙◌, subst, arith}
use Rattle.std.proofs.lemmas.Bool.{true≢false}
use Rattle.m2_control.specs.declared.control.Control.{Control}
use Rattle.m2_control.specs.declared.control.Control.TheVariants as control
use Rattle.m2_handshake.specs.declared.fault.HalfFault.{HalfFault}
use Rattle.m2_handshake.specs.declared.stage.HalfSide.TheVariants.{Opener}
use Rattle.m2_handshake.specs.declared.stage.Stage.{Stage}
use Rattle.m2_handshake.specs.declared.stage.Stage.TheVariants.{Opening, Banner, Waits, Authed, Asked, Ended, Faulty}
use Rattle.m2_handshake.specs.Course.{signed_move, course_move_at, course_move, Event, silent, wrote, asked, failed, replied, Step, rests, goes, step_by, step_of, answered, Goes, Runs, IsRested, replies_of, stops, on, reply_at, next_by, next_of, behind, course_by, course_of, steps_left, stages_left}
use Rattle.m2_handshake.specs.Laws.{later, RestsThere, GoesOnTo, GoesOneWay}
use Rattle.m2_handshake.specs.Moves.{Move, stays, quiet, writes, signs, asks, fails, read_held, refuse_held, is_authed}
use Rattle.m2_handshake.specs.Standing.{Standing, grown, fed, fed_at}
use Rattle.m2_handshake.proofs.Leading.{is_faulty, Leads, leads, tells}
use Rattle.m2_handshake.proofs.Staying.{stay_on}

pub rests_isnt_goes : (e : Event) (b : Standing) → rests ≢ goes e b
rests_isnt_goes e b q = cc

pub same_step : (d e : Event) (b c : Standing) → goes d b ≡ goes e c → (d ≡ e) × (b ≡ c)
same_step d e b c q = (cc, cc)

-- ---- where it rests

pub waiting : (s : Standing) → course_move s ≡ stays → IsRested s
waiting s h = ap (λ m. step_by m s) h

pub owing : (s : Standing) → s.stage ≡ Asked → IsRested s
owing s e = waiting s (ap (λ stage. course_move_at stage s) e)

pub ended : (f : HalfFault) (s : Standing) → s.stage ≡ Faulty f → IsRested s
ended f s e = waiting s (ap (λ stage. course_move_at stage s) e)

signed_at : (stage : Stage) (s : Standing) → s.side ≡ Opener → is_authed stage ≡ true → course_move_at stage s ≡ stays
signed_at Opening s o q = absurd (true≢false (sym q))
signed_at Banner s o q = absurd (true≢false (sym q))
signed_at (Waits awaited) s o q = absurd (true≢false (sym q))
signed_at Authed s o q = ap (λ side. signed_move side (read_held s s.held)) o
signed_at Asked s o q = refl
signed_at Ended s o q = ap (λ side. signed_move side (refuse_held s s.held)) o
signed_at (Faulty f) s o q = absurd (true≢false (sym q))

signed : (s : Standing) → s.side ≡ Opener → is_authed s.stage ≡ true → IsRested s
signed s o q = waiting s (signed_at s.stage s o q)

pub rests_there : RestsThere
rests_there = record { waiting = waiting; owing = owing; failed = ended; signed = signed }

-- ---- one step, as more is fed

abbrev pub fed_step : List ℕ → Step → Step
fed_step more rests = rests
fed_step more (goes e b) = goes e (fed b more)

grows_at : (stage : Stage) (s : Standing) (more : List ℕ) → is_faulty stage ≡ false → fed_at stage s more ≡ grown more s
grows_at Opening s more l = refl
grows_at Banner s more l = refl
grows_at (Waits awaited) s more l = refl
grows_at Authed s more l = refl
grows_at Asked s more l = refl
grows_at Ended s more l = refl
grows_at (Faulty f) s more l = absurd (true≢false l)

pub grows : (s : Standing) (more : List ℕ) → is_faulty s.stage ≡ false → fed s more ≡ grown more s
grows s more l = grows_at s.stage s more l

alive_at : (stage : Stage) (s : Standing) → course_move_at stage s ≢ stays → is_faulty stage ≡ false
alive_at Opening s n = refl
alive_at Banner s n = refl
alive_at (Waits awaited) s n = refl
alive_at Authed s n = refl
alive_at Asked s n = refl
alive_at Ended s n = refl
alive_at (Faulty f) s n = absurd (n refl)

moves_later : (a : Standing) (more : List ℕ) (m : Move) → course_move a ≡ m → m ≢ stays → step_of (fed a more) ≡ step_by (later more m) (grown more a)
moves_later a more m e n =
    let k : course_move a ≢ stays = λ q. n (sym e ∙ q) in
    ap step_of (grows a more (alive_at a.stage a k)) ∙ ap (λ x. step_by x (grown more a)) (stay_on a more k ∙ ap (later more) e)

step_fed : (a : Standing) (more : List ℕ) (m : Move) → course_move a ≡ m → Leads a m → m ≢ stays → step_of (fed a more) ≡ fed_step more (step_by m a)
step_fed a more stays e l n = absurd (n refl)
step_fed a more (quiet b) e l n = moves_later a more (quiet b) e n ∙ ap (goes silent) (sym (grows b more l.0.alive))
step_fed a more (writes words b) e l n = moves_later a more (writes words b) e n ∙ ap (goes (wrote words)) (sym (grows b more l.0.alive))
step_fed a more (signs b) e l n = moves_later a more (signs b) e n ∙ ap (goes silent) (sym (grows b more l.0.alive))
step_fed a more (asks ask b) e l n = moves_later a more (asks ask b) e n ∙ ap (goes (asked ask)) (sym (grows b more l.0.alive))
step_fed a more (fails f) e l n = moves_later a more (fails f) e n

pub moves_on : (a b : Standing) (e : Event) → step_of a ≡ goes e b → course_move a ≢ stays
moves_on a b e h q = rests_isnt_goes e b (sym (waiting a q) ∙ h)

own_later : (a b : Standing) (e : Event) (more : List ℕ) → step_of a ≡ goes e b → step_of (fed a more) ≡ goes e (fed b more)
own_later a b e more h = step_fed a more (course_move a) refl (leads a) (moves_on a b e h) ∙ ap (fed_step more) h

answered_later : (c : Control) (a : Standing) (more : List ℕ) → fed (answered c a) more ≡ answered c (grown more a)
answered_later (control.IdentMissingFeatures p) a more = refl
answered_later (control.Wait p) a more = refl
answered_later c a more = refl

goes_later : (e : Event) (a b : Standing) (more : List ℕ) → Goes a e b → Goes (fed a more) e (fed b more)
goes_later silent a b more h = own_later a b silent more h
goes_later (wrote words) a b more h = own_later a b (wrote words) more h
goes_later (asked ask) a b more h = own_later a b (asked ask) more h
goes_later (failed f) a b more h = own_later a b (failed f) more h
goes_later (replied c) a b more h =
    let g = grows a more (ap is_faulty h.0) in
    (ap (λ (s : Standing). s.stage) g ∙ h.0, h.1, ap (λ s. fed s more) h.2 ∙ answered_later c a more ∙ sym (ap (answered c) g))

-- ---- one step

abbrev pub IsReplied : Event → Type 0
IsReplied (replied c) = Unit {0}
IsReplied _ = ⊥

pub own : (e : Event) (a b : Standing) → (IsReplied e → ⊥) → Goes a e b → step_of a ≡ goes e b
own silent a b n h = h
own (wrote words) a b n h = h
own (asked ask) a b n h = h
own (failed f) a b n h = h
own (replied c) a b n h = absurd (n tt)

-- while a reply is owed there is none
no_step : (a b : Standing) (e : Event) → a.stage ≡ Asked → step_of a ≡ goes e b → ⊥
no_step a b e q h = rests_isnt_goes e b (sym (owing a q) ∙ h)

same_reply : (x y : Control) (xs ys : List Control) → y ∷ ys ≡ x ∷ xs → (x ≡ y) × (ys ≡ xs)
same_reply x y xs ys e = (cc, cc)

same_goes : (a b c : Standing) (d e : Event) (ds es : List Event) (more : List Control) → Goes a d b → Goes a e c →
    replies_of (e ∷ es) ≡ replies_of (d ∷ ds) ++ more → (d ≡ e) × (b ≡ c) × (replies_of es ≡ replies_of ds ++ more)
same_goes a b c (replied x) (replied y) ds es more g h r =
    let same = same_reply x y (replies_of ds ++ more) (replies_of es) r in
    (ap replied same.0, g.2 ∙ ap (λ z. answered z a) same.0 ∙ sym h.2, same.1)
same_goes a b c (replied x) e ds es more g h r = absurd (no_step a c e g.0 (own e a c (λ i. i) h))
same_goes a b c d (replied y) ds es more g h r = absurd (no_step a b d h.0 (own d a b (λ i. i) g))
same_goes a b c d e ds es more g h r =
    let same = same_step d e b c (sym (own d a b (λ i. i) g) ∙ own e a c (λ i. i) h) in
    (same.0, same.1, r)

-- ---- many steps

pub feeds : (ds : List Event) (a b : Standing) (more : List ℕ) → Runs ds a b → Runs ds (fed a more) (fed b more)
feeds [] a b more h = ap (λ s. fed s more) h
feeds (d ∷ ds) a b more h = (fed h.0 more, goes_later d a h.0 more h.1, feeds ds h.0 b more h.2)

pub next : (ds : List Event) (d : Event) (a b c : Standing) → Runs ds a b → Goes b d c → Runs (ds ++ d ∷ []) a c
next [] d a b c h g = (c, subst (λ x. Goes x d c) (sym h) g, refl)
next (e ∷ ds) d a b c h g = (h.0, h.1, next ds d h.0 b c h.2 g)

same_cons : (d e : Event) (ds es : List Event) → d ≡ e → ds ≡ es → d ∷ ds ≡ e ∷ es
same_cons d e ds es p q = ap (λ x. x ∷ ds) p ∙ ap (λ l. e ∷ l) q

wider : (d e : Event) (ds es : List Event) (b c : Standing) → d ≡ e → GoesOnTo ds b es c ⊎ GoesOnTo es c ds b → GoesOnTo (d ∷ ds) b (e ∷ es) c ⊎ GoesOnTo (e ∷ es) c (d ∷ ds) b
wider d e ds es b c p (inl w) = inl (w.0, same_cons e d es (ds ++ w.0) (sym p) w.1, w.2)
wider d e ds es b c p (inr w) = inr (w.0, same_cons d e ds (es ++ w.0) p w.1, w.2)

pub ways : (ds es : List Event) (a b c : Standing) (more : List Control) → Runs ds a b → Runs es a c → replies_of es ≡ replies_of ds ++ more →
    GoesOnTo ds b es c ⊎ GoesOnTo es c ds b
ways [] es a b c more k l r = inl (es, refl, subst (λ x. Runs es x c) k l)
ways (d ∷ ds) [] a b c more k l r = inr (d ∷ ds, refl, subst (λ x. Runs (d ∷ ds) x b) l k)
ways (d ∷ ds) (e ∷ es) a b c more k l r =
    let same = same_goes a k.0 l.0 d e ds es more k.1 l.1 r in
    let after : Runs es k.0 c = subst (λ x. Runs es x c) (sym same.1) l.2 in
    wider d e ds es b c same.0 (ways ds es k.0 b c more k.2 after same.2)

pub one_way : GoesOneWay
one_way = record { fed = feeds; next = next; ways = ways }

no_reply : (e : Event) (es : List Event) → IsReplied e → replies_of (e ∷ es) ≢ []
no_reply (replied c) es i q = cc
no_reply silent es i q = elim i [ ]
no_reply (wrote words) es i q = elim i [ ]
no_reply (asked ask) es i q = elim i [ ]
no_reply (failed f) es i q = elim i [ ]

-- without a reply nothing is done from where a half rests
pub stands : (es : List Event) (a b : Standing) → IsRested a → Runs es a b → replies_of es ≡ [] → (es ≡ []) × (a ≡ b)
stands [] a b o k r = (refl, k)
stands (replied c ∷ es) a b o k r = absurd (no_reply (replied c) es tt r)
stands (silent ∷ es) a b o k r = absurd (rests_isnt_goes silent k.0 (sym o ∙ k.1))
stands (wrote words ∷ es) a b o k r = absurd (rests_isnt_goes (wrote words) k.0 (sym o ∙ k.1))
stands (asked ask ∷ es) a b o k r = absurd (rests_isnt_goes (asked ask) k.0 (sym o ∙ k.1))
stands (failed f ∷ es) a b o k r = absurd (rests_isnt_goes (failed f) k.0 (sym o ∙ k.1))

-- ---- how many steps there are

least_stage : (stage : Stage) → is_faulty stage ≡ false → 1 ≤ stages_left stage
least_stage Opening l = omega arith
least_stage Banner l = omega arith
least_stage (Waits awaited) l = omega arith
least_stage Authed l = omega arith
least_stage Asked l = omega arith
least_stage Ended l = omega arith
least_stage (Faulty f) l = absurd (true≢false l)

answered_left : (c : Control) (a : Standing) → a.stage ≡ Asked → steps_left (answered c a) ≡ steps_left a
answered_left (control.IdentMissingFeatures p) a q = omega (arith, ap stages_left q)
answered_left (control.Wait p) a q = omega (arith, ap stages_left q)
answered_left c a q = omega (arith, ap stages_left q)

pub counted : (es : List Event) (a b : Standing) → Runs es a b → length es + steps_left b ≤ steps_left a + length (replies_of es)
counted [] a b k = omega (arith, ap steps_left k)
counted (replied c ∷ es) a b k =
    let same : steps_left k.0 ≡ steps_left a = ap steps_left k.1.2 ∙ answered_left c a k.1.0 in
    omega (arith, counted es k.0 b k.2, same)
counted (silent ∷ es) a b k = omega (arith, counted es k.0 b k.2, (tells a silent k.0 k.1).0.less)
counted (wrote words ∷ es) a b k = omega (arith, counted es k.0 b k.2, (tells a (wrote words) k.0 k.1).0.less)
counted (asked ask ∷ es) a b k = omega (arith, counted es k.0 b k.2, (tells a (asked ask) k.0 k.1).0.less)
counted (failed f ∷ es) a b k =
    let t = tells a (failed f) k.0 k.1 in
    omega (arith, counted es k.0 b k.2, ap steps_left t.2, least_stage a.stage t.0)

-- ---- the course that is computed

pub no_more : (stage : Stage) (s : Standing) → reply_at stage s [] ≡ stops
no_more Opening s = refl
no_more Banner s = refl
no_more (Waits awaited) s = refl
no_more Authed s = refl
no_more Asked s = refl
no_more Ended s = refl
no_more (Faulty f) s = refl

stops_there : (n : ℕ) (s : Standing) → course_by n stops s ≡ record { events = []; standing = s }
stops_there zero s = refl
stops_there (suc n) s = refl

next_own : (a b : Standing) (e : Event) (cs : List Control) → step_of a ≡ goes e b → next_of a cs ≡ on e b cs
next_own a b e cs h = ap (λ s. next_by s a cs) h

next_replied : (a b : Standing) (c : Control) (cs : List Control) → a.stage ≡ Asked → b ≡ answered c a → next_of a (c ∷ cs) ≡ on (replied c) b cs
next_replied a b c cs q h =
    ap (λ s. next_by s a (c ∷ cs)) (owing a q) ∙ ap (λ stage. reply_at stage a (c ∷ cs)) q ∙ ap (λ s. on (replied c) s cs) (sym h)

goes_first : (e : Event) (es : List Event) (a b : Standing) → Goes a e b → next_of a (replies_of (e ∷ es)) ≡ on e b (replies_of es)
goes_first silent es a b h = next_own a b silent (replies_of es) h
goes_first (wrote words) es a b h = next_own a b (wrote words) (replies_of es) h
goes_first (asked ask) es a b h = next_own a b (asked ask) (replies_of es) h
goes_first (failed f) es a b h = next_own a b (failed f) (replies_of es) h
goes_first (replied c) es a b h = next_replied a b c (replies_of es) h.0 h.2

comes : (es : List Event) (n : ℕ) (a b : Standing) → Runs es a b → IsRested b → length es ≤ n → course_by n (next_of a (replies_of es)) a ≡ record { events = es; standing = b }
comes [] n a b k o l =
    let here : next_of a [] ≡ stops = ap (λ s. next_of s []) k ∙ ap (λ s. next_by s b []) o ∙ no_more b.stage b in
    ap (λ x. course_by n x a) here ∙ stops_there n a ∙ ap (λ s. record { events = []; standing = s }) k
comes (e ∷ es) zero a b k o l = absurd (omega (arith, l))
comes (e ∷ es) (suc n) a b k o l =
    ap (λ x. course_by (suc n) x a) (goes_first e es a k.0 k.1) ∙ ap (behind e) (comes es n k.0 b k.2 o (omega (arith, l)))

pub come : (es : List Event) (a b : Standing) → Runs es a b → IsRested b → course_of a (replies_of es) ≡ record { events = es; standing = b }
come es a b k o = comes es (steps_left a + length (replies_of es)) a b k o (omega (arith, counted es a b k))
