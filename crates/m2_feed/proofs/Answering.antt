-- An answer of a half: what it writes stands behind, it signs by one answer alone, and what is unread gets no longer.
use Rattle.std.proofs.Common.{◌≡◌, ℕ, ◌+◌, ◌≤◌, true, false, Option, Some, None, List, [], ◌∷◌, ◌++◌, length, drop, refl, sym, ap, ◌∙◌, subst, arith, append-nil}
use Rattle.std.proofs.lemmas.List.{drop-append-le, length-append}
use Rattle.m2_bytes.specs.Blob.{Contents}
use Rattle.m2_frame.specs.Frame.{Parts}
use Rattle.m2_control.specs.Banner.{banner_in}
use Rattle.m2_control.specs.declared.banner.BannerStep.{BannerStep}
use Rattle.m2_control.specs.declared.banner.BannerStep.TheVariants as banner
use Rattle.m2_handshake.specs.declared.answer.HalfStep.{HalfStep}
use Rattle.m2_handshake.specs.declared.answer.HalfStep.TheVariants as half
use Rattle.m2_handshake.specs.declared.fault.HalfFault.{HalfFault}
use Rattle.m2_handshake.specs.declared.fault.HalfFault.TheVariants.{BannerFeatures}
use Rattle.m2_handshake.specs.declared.stage.Awaited.{Awaited}
use Rattle.m2_handshake.specs.declared.stage.Awaited.TheVariants.{Hello}
use Rattle.m2_handshake.specs.declared.stage.Stage.{Stage}
use Rattle.m2_handshake.specs.declared.stage.Stage.TheVariants.{Opening, Banner, Waits, Authed, Asked, Ended, Faulty}
use Rattle.m2_handshake.specs.Asking.{is_ready}
use Rattle.m2_handshake.specs.Half.{Answers, Ends, Writer, writer}
use Rattle.m2_handshake.specs.Moves.{Move, quiet, writes, signs, fails, is_agreed, after_banner, take_frame, after_reaction, answer_held, move_at, move_of, is_authed, Quietly}
use Rattle.m2_handshake.specs.Reading.{Found, begun, refused, framed, found_in}
use Rattle.m2_handshake.specs.Standing.{Standing, HalfState, faulted, faulted_at}
use Rattle.m2_handshake.specs.Steps.{Reaction, says, listens, signed, refuses, after_frame}
use Rattle.m2_handshake.specs.Texts.{frame_text, hello}
use Rattle.m2_handshake.proofs.Leading.{Lead, Leads, leads, either, true_isnt_false}
use Rattle.m2_handshake.proofs.Reaching.{unover, handshake_on, same_signs}
use Rattle.m2_feed.specs.Calls.{HalfWrites, SignsOnlyAs, is_signing}
use Rattle.m2_handshake.proofs.Signing.{unover_unauthed}

-- ---- what it writes

abbrev EndsAnew : HalfStep → Standing → Standing → List ℕ → List ℕ → Type 0
EndsAnew a mid t o n = (words : List ℕ) × (n ≡ o ++ words) × Ends a (record { standing = mid; out = [] }) (record { standing = t; out = words })

ends_anew : (a : HalfStep) (mid t : Standing) (o n : List ℕ) → Ends a (record { standing = mid; out = o }) (record { standing = t; out = n }) → EndsAnew a mid t o n
ends_anew half.NotYet mid t o n e =
    ([], ap (λ (w : Writer). w.out) e.1 ∙ sym (append-nil o), (e.0, ap (λ (w : Writer). record { standing = w.standing; out = [] }) e.1))
ends_anew half.Wrote mid t o n e = (e.0, e.2, (e.0, e.1, refl))
ends_anew half.Authed mid t o n e = ([], e.1 ∙ sym (append-nil o), (e.0, refl))
ends_anew (half.Fault f) mid t o n e =
    ([], ap (λ (w : Writer). w.out) e.1 ∙ sym (append-nil o), (e.0, ap (λ (w : Writer). record { standing = w.standing; out = [] }) e.1))
ends_anew half.NoMemory mid t o n e =
    ([], ap (λ (w : Writer). w.out) e.1 ∙ sym (append-nil o), (e.0, ap (λ (w : Writer). record { standing = w.standing; out = [] }) e.1))

pub half_writes : (a : HalfStep) (old new : HalfState) (o n : Contents) (put : ℕ) → put ≤ length o.bytes → Answers a (writer old o) (writer new n) →
    HalfWrites a old.standing new.standing (drop put o.bytes) (drop put n.bytes)
half_writes a old new o n put within h =
    let e = ends_anew a h.mid new.standing o.bytes n.bytes h.ends in
    (e.0, ap (drop put) e.1 ∙ drop-append-le put o.bytes e.0 within, record { passed = h.passed; mid = h.mid; quietly = h.quietly; ends = e.2 })

-- all that was there is still there
pub still_within : (a : HalfStep) (old new : HalfState) (o n : Contents) (put : ℕ) → put ≤ length o.bytes → Answers a (writer old o) (writer new n) → put ≤ length n.bytes
still_within a old new o n put within h =
    let e = ends_anew a h.mid new.standing o.bytes n.bytes h.ends in
    omega (arith, within, ap length e.1, length-append o.bytes e.0)

-- ---- where it stands

shorter : (a b : Standing) → Lead a b → length b.rest ≤ length a.rest
shorter a b l = let n = length-append l.used b.rest in omega (arith, ap length l.before, n)

abbrev QuietStep : Standing → Standing → Type 0
QuietStep a b = (length b.rest ≤ length a.rest) × (is_authed b.stage ≡ false)

quiet_step : (a b : Standing) → move_of a ≡ quiet b → QuietStep a b
quiet_step a b e =
    let on = handshake_on a (quiet b) e tt in
    let over = unover a (quiet b) e tt in
    let l : Leads a (quiet b) = subst (Leads a) on (leads a) in
    (shorter a b l.0, unover_unauthed b.stage (l.2 ∙ over))

abbrev Quieter : Standing → Standing → Type 0
Quieter a b = (length b.rest ≤ length a.rest) × (is_authed a.stage ≡ false → is_authed b.stage ≡ false)

quietly : (ms : List Standing) (a b : Standing) → Quietly move_of ms a b → Quieter a b
quietly [] a b e = (omega (arith, ap (λ (s : Standing). length s.rest) e), λ q. ap (λ (s : Standing). is_authed s.stage) (sym e) ∙ q)
quietly (m ∷ ms) a b k =
    let first = quiet_step a m k.0 in
    let then = quietly ms m b k.1 in
    (omega (arith, first.0, then.0), λ q. then.1 first.1)

-- ---- it signs

reaction_signs : (s t : Standing) (r : Reaction) → after_reaction s r ≡ signs t → record s { stage = Authed; held = None } ≡ t
reaction_signs s t (says next words) e = absurd cc
reaction_signs s t (listens next) e = absurd cc
reaction_signs s t signed e = cc
reaction_signs s t (refuses f) e = absurd cc

front_signs : (s t : Standing) (found : Found) → take_frame s found ≡ signs t → ⊥
front_signs s t begun e = cc
front_signs s t (refused f) e = cc
front_signs s t (framed f n) e = cc

held_signs : (s t : Standing) (awaited : Awaited) (held : Option Parts) → answer_held s awaited held ≡ signs t → record s { stage = Authed; held = None } ≡ t
held_signs s t awaited (Some f) e = reaction_signs s t (after_frame s.auth s.side awaited f) e
held_signs s t awaited None e = absurd (front_signs s t (found_in s.rest) e)

banner_signs : (s t : Standing) (b : BannerStep) → after_banner s b ≡ signs t → ⊥
banner_signs s t (banner.Got b used) =
    either (λ (m : Move). m ≡ signs t → ⊥) (is_agreed b)
    (writes (frame_text (hello s.entity s.seen)) (record s { stage = Waits Hello; rest = drop used s.rest })) (fails BannerFeatures)
    (λ e. cc) (λ e. cc)
banner_signs s t banner.NotYet = λ e. cc
banner_signs s t banner.BadBanner = λ e. cc

signs_at : (stage : Stage) (s t : Standing) → is_authed stage ≡ false → move_at stage s ≡ signs t → record s { stage = Authed; held = None } ≡ t
signs_at Opening s t q e = absurd cc
signs_at Banner s t q e = absurd (banner_signs s t (banner_in s.rest) e)
signs_at (Waits awaited) s t q e = held_signs s t awaited s.held e
signs_at Authed s t q e = absurd (true_isnt_false q)
signs_at Asked s t q e = absurd (true_isnt_false q)
signs_at Ended s t q e = absurd (true_isnt_false q)
signs_at (Faulty f) s t q e = absurd cc

signs_ready : (s t : Standing) → is_authed s.stage ≡ false → move_of s ≡ signs t → is_ready t ≡ true
signs_ready s t q e = ap is_ready (sym (signs_at s.stage s t q e))

signed_shorter_at : (stage : Stage) (s t : Standing) → move_at stage s ≡ signs t → length t.rest ≤ length s.rest
signed_shorter_at Opening s t e = absurd cc
signed_shorter_at Banner s t e = absurd (banner_signs s t (banner_in s.rest) e)
signed_shorter_at (Waits awaited) s t e = omega (arith, ap (λ (x : Standing). length x.rest) (held_signs s t awaited s.held e))
signed_shorter_at Authed s t e = omega (arith, ap (λ (x : Standing). length x.rest) (same_signs s t e))
signed_shorter_at Asked s t e = omega (arith, ap (λ (x : Standing). length x.rest) (same_signs s t e))
signed_shorter_at Ended s t e = omega (arith, ap (λ (x : Standing). length x.rest) (same_signs s t e))
signed_shorter_at (Faulty f) s t e = absurd cc

-- ---- a fault

faulted_unsigned_at : (stage : Stage) (f : HalfFault) (s : Standing) → stage ≡ s.stage → is_authed (faulted_at stage f s).stage ≡ false
faulted_unsigned_at (Faulty g) f s e = ap is_authed (sym e)
faulted_unsigned_at Opening f s e = refl
faulted_unsigned_at Banner f s e = refl
faulted_unsigned_at (Waits awaited) f s e = refl
faulted_unsigned_at Authed f s e = refl
faulted_unsigned_at Asked f s e = refl
faulted_unsigned_at Ended f s e = refl

faulted_shorter_at : (stage : Stage) (f : HalfFault) (s : Standing) → length (faulted_at stage f s).rest ≤ length s.rest
faulted_shorter_at (Faulty g) f s = omega arith
faulted_shorter_at Opening f s = omega arith
faulted_shorter_at Banner f s = omega arith
faulted_shorter_at (Waits awaited) f s = omega arith
faulted_shorter_at Authed f s = omega arith
faulted_shorter_at Asked f s = omega arith
faulted_shorter_at Ended f s = omega arith

-- ---- the end of an answer

EndsShorter : HalfStep → Standing → Standing → Type 0
EndsShorter a mid t = (length t.rest ≤ length mid.rest) × (is_authed mid.stage ≡ false → (is_signing a ≡ true → is_ready t ≡ true) × (is_signing a ≡ false → is_authed t.stage ≡ false))

same_shorter : (a : HalfStep) (mid t : Standing) → is_signing a ≡ false → t ≡ mid → EndsShorter a mid t
unfolding EndsShorter
same_shorter a mid t n e =
    (omega (arith, ap (λ (s : Standing). length s.rest) e), λ q. (λ y. absurd (true_isnt_false (sym y ∙ n)), λ y. ap (λ (s : Standing). is_authed s.stage) e ∙ q))

ends_shorter : (a : HalfStep) (mid t : Standing) (o n : List ℕ) → Ends a (record { standing = mid; out = o }) (record { standing = t; out = n }) → EndsShorter a mid t
unfolding EndsShorter
ends_shorter half.NotYet mid t o n e = same_shorter half.NotYet mid t refl (ap (λ (w : Writer). w.standing) e.1)
ends_shorter half.Wrote mid t o n e =
    let on = handshake_on mid (writes e.0 t) e.1 tt in
    let l : Leads mid (writes e.0 t) = subst (Leads mid) on (leads mid) in
    (shorter mid t l.0, λ q. (λ y. absurd (true_isnt_false (sym y)), λ y. unover_unauthed t.stage l.3))
ends_shorter half.Authed mid t o n e =
    (signed_shorter_at mid.stage mid t e.0, λ q. (λ y. signs_ready mid t q e.0, λ y. absurd (true_isnt_false y)))
ends_shorter (half.Fault f) mid t o n e =
    let is : t ≡ faulted f mid = ap (λ (w : Writer). w.standing) e.1 in
    (rw is (faulted_shorter_at mid.stage f mid), λ q. (λ y. absurd (true_isnt_false (sym y)), λ y. ap (λ (s : Standing). is_authed s.stage) is ∙ faulted_unsigned_at mid.stage f mid refl))
ends_shorter half.NoMemory mid t o n e = same_shorter half.NoMemory mid t refl (ap (λ (w : Writer). w.standing) e.1)

pub signs_only_as : (a : HalfStep) (old new : Writer) → Answers a old new → SignsOnlyAs a old.standing new.standing
unfolding EndsShorter
signs_only_as a old new h =
    let went = quietly h.passed old.standing h.mid h.quietly in
    let e = ends_shorter a h.mid new.standing old.out new.out h.ends in
    record { signs = λ y q. (e.1 (went.1 q)).0 y; goes_on = λ y q. (e.1 (went.1 q)).1 y }

pub answers_shorter : (a : HalfStep) (old new : Writer) → Answers a old new → length new.standing.rest ≤ length old.standing.rest
unfolding EndsShorter
answers_shorter a old new h =
    let went = quietly h.passed old.standing h.mid h.quietly in
    let e = ends_shorter a h.mid new.standing old.out new.out h.ends in
    omega (arith, went.0, e.0)
