-- A half signs once, and then writes replies alone.
use Rattle.std.proofs.Common.{◌≡◌, ◌≢◌, ℕ, ◌⊎◌, inl, inr, true, false, List, [], ◌∷◌, ◌++◌, flat_map, refl, sym, ap, ◌∙◌, subst, append-nil}
use Rattle.std.proofs.lemmas.Grind.{flat_map-append}
use Rattle.std.proofs.lemmas.List.{append_cancel_left}
use Rattle.m2_control.specs.declared.control.Control.{Control}
use Rattle.m2_control.specs.declared.control.Control.TheVariants as control
use Rattle.m2_handshake.specs.declared.answer.HalfStep.TheVariants as answer
use Rattle.m2_handshake.specs.declared.stage.Stage.{Stage}
use Rattle.m2_handshake.specs.declared.stage.Stage.TheVariants.{Opening, Banner, Waits, Authed, Asked, Ended, Faulty}
use Rattle.m2_handshake.specs.Asking.{after_reply}
use Rattle.m2_handshake.specs.Course.{course_move, Event, silent, wrote, asked, failed, replied, goes, Goes, Runs, text_in, replies_in, text_of, replies_of, Exchange, Reaches, Signs}
use Rattle.m2_handshake.specs.Half.{Writer, Answers}
use Rattle.m2_handshake.specs.Laws.{GoesOnTo, SignsOnce}
use Rattle.m2_handshake.specs.Moves.{quiet, signs, move_at, move_of, is_authed, Quietly}
use Rattle.m2_handshake.specs.Standing.{Standing, fed}
use Rattle.m2_handshake.proofs.Course.{owing, ways, rests_isnt_goes}
use Rattle.m2_handshake.proofs.Leading.{is_over, Leads, leads, tells, true_isnt_false}
use Rattle.m2_handshake.proofs.Reaching.{same_move, unover, by_move, handshake_on, quietly_reaches, same_signs, fails_isnt_signs}

-- ---- once it is over only replies are written

authed_over : (stage : Stage) → is_authed stage ≡ true → is_over stage ≡ true
authed_over Opening q = absurd (true_isnt_false (sym q))
authed_over Banner q = absurd (true_isnt_false (sym q))
authed_over (Waits awaited) q = absurd (true_isnt_false (sym q))
authed_over Authed q = refl
authed_over Asked q = refl
authed_over Ended q = refl
authed_over (Faulty f) q = refl

pub unover_unauthed : (stage : Stage) → is_over stage ≡ false → is_authed stage ≡ false
unover_unauthed Opening o = refl
unover_unauthed Banner o = refl
unover_unauthed (Waits awaited) o = refl
unover_unauthed Authed o = absurd (true_isnt_false o)
unover_unauthed Asked o = absurd (true_isnt_false o)
unover_unauthed Ended o = absurd (true_isnt_false o)
unover_unauthed (Faulty f) o = absurd (true_isnt_false o)

replied_over : (c : Control) → is_over (after_reply c) ≡ true
replied_over (control.IdentMissingFeatures p) = refl
replied_over (control.Wait p) = refl
replied_over c = refl

step_over : (e : Event) (a b : Standing) → is_over a.stage ≡ true → Goes a e b → is_over b.stage ≡ true
step_over silent a b o h = (tells a silent b h).2 o
step_over (wrote words) a b o h = absurd (true_isnt_false (sym o ∙ (tells a (wrote words) b h).2))
step_over (asked ask) a b o h = ap is_over (tells a (asked ask) b h).2
step_over (failed f) a b o h = ap (λ (s : Standing). is_over s.stage) (tells a (failed f) b h).2
step_over (replied c) a b o h = ap (λ (s : Standing). is_over s.stage) h.2 ∙ replied_over c

stay_over : (es : List Event) (a b : Standing) → is_over a.stage ≡ true → Runs es a b → is_over b.stage ≡ true
stay_over [] a b o same = subst (λ (s : Standing). is_over s.stage ≡ true) same o
stay_over (e ∷ es) a b o k = stay_over es k.0 b (step_over e a k.0 o k.1) k.2

cons_isnt_nil : (c : Control) (cs : List Control) → c ∷ cs ≢ []
cons_isnt_nil c cs e = cc

nothing_written : (ds : List Event) (a b : Standing) → is_over a.stage ≡ true → Runs ds a b → replies_of ds ≡ [] → text_of ds ≡ []
nothing_written [] a b o k e = refl
nothing_written (silent ∷ ds) a b o k e = nothing_written ds k.0 b (step_over silent a k.0 o k.1) k.2 e
nothing_written (wrote words ∷ ds) a b o k e = absurd (true_isnt_false (sym o ∙ (tells a (wrote words) k.0 k.1).2))
nothing_written (asked ask ∷ ds) a b o k e = nothing_written ds k.0 b (step_over (asked ask) a k.0 o k.1) k.2 e
nothing_written (failed f ∷ ds) a b o k e = nothing_written ds k.0 b (step_over (failed f) a k.0 o k.1) k.2 e
nothing_written (replied c ∷ ds) a b o k e = absurd (cons_isnt_nil c (replies_of ds) e)

-- the one goes on to the other with the same replies
nothing_more : (ds es more : List Event) (a b : Standing) → is_over a.stage ≡ true → es ≡ ds ++ more → Runs more a b → replies_of es ≡ replies_of ds → text_of es ≡ text_of ds
nothing_more ds es more a b o e k r =
    let none : replies_of more ≡ [] = append_cancel_left (replies_of ds) (replies_of more) []
    (sym (flat_map-append replies_in ds more) ∙ sym (ap (flat_map replies_in) e) ∙ r ∙ sym (append-nil (replies_of ds))) in
    ap (flat_map text_in) e ∙ flat_map-append text_in ds more ∙ ap (λ l. text_of ds ++ l) (nothing_written more a b o k none) ∙ append-nil (text_of ds)

text_signed : (ds es : List Event) (a b c : Standing) → Runs ds a b → is_over b.stage ≡ true → Runs es a c → is_over c.stage ≡ true → replies_of es ≡ replies_of ds →
    GoesOnTo ds b es c ⊎ GoesOnTo es c ds b → text_of ds ≡ text_of es
text_signed ds es a b c k q l p r (inl w) = sym (nothing_more ds es w.0 b c q w.1 w.2 r)
text_signed ds es a b c k q l p r (inr w) = nothing_more es ds w.0 c b p w.1 w.2 (sym r)

signed : (begin s other : Standing) (x y : Exchange) → x.bytes ≡ y.bytes → x.replies ≡ y.replies → Reaches begin x s → is_authed s.stage ≡ true → Reaches begin y other → is_authed other.stage ≡ true → x.text ≡ y.text
signed begin s other x y b c r q k p =
    let from = fed begin x.bytes in
    let there : Runs k.events from other = subst (λ (l : List ℕ). Runs k.events (fed begin l) other) (sym b) k.runs in
    let given : replies_of k.events ≡ replies_of r.events = k.replies ∙ sym c ∙ sym r.replies in
    let way = ways r.events k.events from s other [] r.runs there (given ∙ sym (append-nil (replies_of r.events))) in
    sym r.text ∙ text_signed r.events k.events from s other r.runs (authed_over s.stage q) there (authed_over other.stage p) given way ∙ k.text

-- ---- a half signs once

signing_at : (stage : Stage) (s t : Standing) → is_authed stage ≡ false → move_at stage s ≡ signs t → is_over stage ≡ false
signing_at Opening s t q e = refl
signing_at Banner s t q e = refl
signing_at (Waits awaited) s t q e = refl
signing_at Authed s t q e = absurd (true_isnt_false q)
signing_at Asked s t q e = absurd (true_isnt_false q)
signing_at Ended s t q e = absurd (true_isnt_false q)
signing_at (Faulty f) s t q e = absurd (fails_isnt_signs f t e)

still_unauthed : (s t : Standing) → move_of s ≡ quiet t → is_authed t.stage ≡ false
still_unauthed s t e =
    let o = unover s (quiet t) e tt in
    let l : Leads s (quiet t) = subst (Leads s) (handshake_on s (quiet t) e tt) (leads s) in
    unover_unauthed t.stage (l.2 ∙ o)

quietly_unauthed : (ms : List Standing) (a b : Standing) → is_authed a.stage ≡ false → Quietly move_of ms a b → is_authed b.stage ≡ false
quietly_unauthed [] a b q same = subst (λ (s : Standing). is_authed s.stage ≡ false) same q
quietly_unauthed (m ∷ ms) a b q path = quietly_unauthed ms m b (still_unauthed a m path.0) path.1

signing : (begin : Standing) (old new : Writer) (x : Exchange) → Reaches begin x old.standing → is_authed old.standing.stage ≡ false → Answers answer.Authed old new → Signs begin x new.standing
signing begin old new x r q a =
    let unsigned = quietly_unauthed a.passed old.standing a.mid q a.quietly in
    (a.mid, quietly_reaches a.passed begin old.standing a.mid x r a.quietly, same_move a.mid (signing_at a.mid.stage a.mid new.standing unsigned a.ends.0) ∙ a.ends.0)

-- a half that signs hasn't signed yet, and has then
not_signed : (s t : Standing) → is_over s.stage ≡ true → course_move s ≡ signs t → ⊥
not_signed s t o h = let l : Leads s (signs t) = subst (Leads s) h (leads s) in true_isnt_false (sym o ∙ l.2)

then_over : (s t : Standing) → course_move s ≡ signs t → is_over t.stage ≡ true
then_over s t h = let l : Leads s (signs t) = subst (Leads s) h (leads s) in authed_over t.stage l.3

same_goes : (e : Event) (s t m : Standing) → goes silent t ≡ goes e m → t ≡ m
same_goes e s t m q = cc

same_event : (e : Event) (t m : Standing) → goes silent t ≡ goes e m → silent ≡ e
same_event e t m q = cc

step_signs : (e : Event) (s t m : Standing) → course_move s ≡ signs t → Goes s e m → is_over m.stage ≡ true
step_signs silent s t m h g = subst (λ (x : Standing). is_over x.stage ≡ true) (same_goes silent s t m (sym (by_move s (signs t) h) ∙ g)) (then_over s t h)
step_signs (wrote words) s t m h g = subst (λ (x : Standing). is_over x.stage ≡ true) (same_goes (wrote words) s t m (sym (by_move s (signs t) h) ∙ g)) (then_over s t h)
step_signs (asked ask) s t m h g = subst (λ (x : Standing). is_over x.stage ≡ true) (same_goes (asked ask) s t m (sym (by_move s (signs t) h) ∙ g)) (then_over s t h)
step_signs (failed f) s t m h g = subst (λ (x : Standing). is_over x.stage ≡ true) (same_goes (failed f) s t m (sym (by_move s (signs t) h) ∙ g)) (then_over s t h)
step_signs (replied c) s t m h g = absurd (rests_isnt_goes silent t (sym (owing s g.0) ∙ by_move s (signs t) h))

no_further : (es : List Event) (s other t u : Standing) → course_move s ≡ signs t → course_move other ≡ signs u → Runs es s other → (es ≡ []) × (s ≡ other)
no_further [] s other t u h i same = (refl, same)
no_further (e ∷ es) s other t u h i k = absurd (not_signed other u (stay_over es k.0 other (step_signs e s t k.0 h k.1) k.2) i)

same_signature : (ds es : List Event) (a b t u : Standing) → course_move a ≡ signs t → course_move b ≡ signs u → GoesOnTo ds a es b ⊎ GoesOnTo es b ds a → (ds ≡ es) × (a ≡ b)
same_signature ds es a b t u h i (inl w) =
    let none = no_further w.0 a b t u h i w.2 in
    (sym (w.1 ∙ ap (λ l. ds ++ l) none.0 ∙ append-nil ds), none.1)
same_signature ds es a b t u h i (inr w) =
    let none = no_further w.0 b a u t i h w.2 in
    (w.1 ∙ ap (λ l. es ++ l) none.0 ∙ append-nil es, sym none.1)

one : (begin s other : Standing) (x y : Exchange) → x.bytes ≡ y.bytes → x.replies ≡ y.replies → Signs begin x s → Signs begin y other → (x.text ≡ y.text) × (s ≡ other)
one begin s other x y b c (mid, r, h) (end, k, i) =
    let from = fed begin x.bytes in
    let there : Runs k.events from end = subst (λ (l : List ℕ). Runs k.events (fed begin l) end) (sym b) k.runs in
    let given : replies_of k.events ≡ replies_of r.events = k.replies ∙ sym c ∙ sym r.replies in
    let way = ways r.events k.events from mid end [] r.runs there (given ∙ sym (append-nil (replies_of r.events))) in
    let same = same_signature r.events k.events mid end s other h i way in
    (sym r.text ∙ ap (flat_map text_in) same.0 ∙ k.text, same_signs s other (sym h ∙ ap course_move same.1 ∙ i))

pub signs_once : SignsOnce
signs_once = record { signing = signing; one = one; signed = signed }
