-- What every step of a course keeps, and that it uses something up.
use Rattle.std.proofs.Common.{◌≡◌, ℕ, ◌<◌, Bool, true, false, if◌then◌else◌, List, [], ◌++◌, take, drop, Option, Some, None, Result, Ok, Err, refl, sym, ap, ◌∙◌, subst, arith, length-drop}
use Rattle.std.proofs.lemmas.List.{take-append-drop}
use Rattle.m2_addr.specs.declared.addr.Addr.{Addr}
use Rattle.m2_control.specs.declared.banner.BannerStep.{BannerStep}
use Rattle.m2_control.specs.declared.banner.BannerStep.TheVariants.{Got, NotYet, BadBanner}
use Rattle.m2_control.specs.Banner.{IsStep}
use Rattle.m2_frame.specs.Frame.{Parts}
use Rattle.m2_handshake.specs.declared.ask.Ask.{Ask}
use Rattle.m2_handshake.specs.declared.fault.HalfFault.{HalfFault}
use Rattle.m2_handshake.specs.declared.fault.HalfFault.TheVariants as fault
use Rattle.m2_handshake.specs.declared.stage.Awaited.{Awaited}
use Rattle.m2_handshake.specs.declared.stage.Awaited.TheVariants.{Hello}
use Rattle.m2_handshake.specs.declared.stage.HalfSide.{HalfSide}
use Rattle.m2_handshake.specs.declared.stage.HalfSide.TheVariants.{Opener, Acceptor}
use Rattle.m2_handshake.specs.declared.stage.Stage.{Stage}
use Rattle.m2_handshake.specs.declared.stage.Stage.TheVariants.{Opening, Banner, Waits, Authed, Asked, Ended, Faulty}
use Rattle.m2_handshake.specs.Asks.{ask_in}
use Rattle.m2_control.specs.Banner.{banner_in}
use Rattle.m2_handshake.specs.Course.{signed_move, course_move_at, course_move, Event, silent, wrote, asked, failed, replied, Step, rests, goes, step_by, step_of, stages_left, steps_left, owed}
use Rattle.m2_handshake.specs.Half.{held_work}
use Rattle.m2_handshake.specs.Moves.{Move, stays, quiet, writes, signs, asks, fails, is_agreed, after_banner, take_frame, after_reaction, answer_held, after_asking, read_held, refuse_held, is_authed}
use Rattle.m2_handshake.specs.Reading.{Found, begun, refused, framed, found_in}
use Rattle.m2_handshake.specs.Standing.{Standing, fallen}
use Rattle.m2_handshake.specs.Steps.{Reaction, says, listens, signed, refuses, after_frame}
use Rattle.m2_handshake.specs.Texts.{frame_text, hello}
use Rattle.m2_handshake.proofs.Banners.{is_step}
use Rattle.m2_handshake.proofs.Sizes.{framed_long, framed_within}

abbrev pub is_faulty : Stage → Bool
is_faulty (Faulty f) = true
is_faulty _ = false

-- the handshake is over: both sides have signed, or it failed
abbrev pub is_over : Stage → Bool
is_over Opening = false
is_over Banner = false
is_over (Waits awaited) = false
is_over _ = true

pub record Lead (a b : Standing) : Type 0 where
  pub side : b.side ≡ a.side
  pub alive : is_faulty b.stage ≡ false
  pub less : steps_left b < steps_left a
  pub used : List ℕ
  pub before : a.rest ≡ used ++ b.rest

abbrev pub Leads : Standing → Move → Type 0
Leads a stays = Unit {0}
Leads a (quiet b) = Lead a b × (owed b.stage ≡ owed a.stage) × (is_over b.stage ≡ is_over a.stage)
Leads a (writes words b) = Lead a b × (owed b.stage ≡ owed a.stage) × (is_over a.stage ≡ false) × (is_over b.stage ≡ false)
Leads a (signs b) = Lead a b × (owed b.stage ≡ owed a.stage) × (is_over a.stage ≡ false) × (is_authed b.stage ≡ true)
Leads a (asks ask b) = Lead a b × (owed a.stage ≡ 0) × (b.stage ≡ Asked) × (a.side ≡ Acceptor)
Leads a (fails f) = (is_faulty a.stage ≡ false) × (owed a.stage ≡ 0)

pub either : {A : Type 0} (P : A → Type 0) (b : Bool) (x y : A) → P x → P y → P (if b then x else y)
either P true x y h k = h
either P false x y h k = k

take_leads : (s : Standing) (found : Found) → found_in s.rest ≡ found → s.held ≡ None → is_faulty s.stage ≡ false → owed s.stage ≡ 0 → Leads s (take_frame s found)
take_leads s begun j h l o = tt
take_leads s (refused f) j h l o = (l, o)
take_leads s (framed f n) j h l o =
    let long = framed_long s.rest f n j in
    let within = framed_within s.rest f n j in
    (record { side = refl; alive = l; less = omega (arith, length-drop n s.rest, long, within, ap held_work h); used = take n s.rest; before = sym (take-append-drop n s.rest) }, refl, refl)

reaction_leads : (s : Standing) (awaited : Awaited) (f : Parts) (r : Reaction) → s.stage ≡ Waits awaited → s.held ≡ Some f → Leads s (after_reaction s r)
reaction_leads s awaited f (says next words) q h =
    (record { side = refl; alive = refl; less = omega (arith, ap stages_left q, ap held_work h); used = []; before = refl }, sym (ap owed q), ap is_over q, refl)
reaction_leads s awaited f (listens next) q h =
    (record { side = refl; alive = refl; less = omega (arith, ap stages_left q, ap held_work h); used = []; before = refl }, sym (ap owed q), sym (ap is_over q))
reaction_leads s awaited f signed q h =
    (record { side = refl; alive = refl; less = omega (arith, ap stages_left q, ap held_work h); used = []; before = refl }, sym (ap owed q), ap is_over q, refl)
reaction_leads s awaited f (refuses e) q h = (ap is_faulty q, ap owed q)

held_leads : (s : Standing) (awaited : Awaited) (held : Option Parts) → s.stage ≡ Waits awaited → s.held ≡ held → Leads s (answer_held s awaited held)
held_leads s awaited (Some f) q h = reaction_leads s awaited f (after_frame s.auth s.side awaited f) q h
held_leads s awaited None q h = take_leads s (found_in s.rest) refl h (ap is_faulty q) (ap owed q)

banner_leads : (s : Standing) (b : BannerStep) → IsStep b s.rest → s.stage ≡ Banner → Leads s (after_banner s b)
banner_leads s (Got b n) h q = either (Leads s) (is_agreed b)
    (writes (frame_text (hello s.entity s.seen)) (record s { stage = Waits Hello; rest = drop n s.rest })) (fails fault.BannerFeatures)
    (record { side = refl; alive = refl; less = omega (arith, ap stages_left q, length-drop n s.rest); used = take n s.rest; before = sym (take-append-drop n s.rest) }, sym (ap owed q), ap is_over q, refl)
    (ap is_faulty q, ap owed q)
banner_leads s NotYet h q = tt
banner_leads s BadBanner h q = (ap is_faulty q, ap owed q)

asking_leads : (s : Standing) (f : Parts) (r : Result (Ask × Addr) HalfFault) → s.stage ≡ Authed → s.held ≡ Some f → s.side ≡ Acceptor → Leads s (after_asking s r)
asking_leads s f (Ok (ask, main)) q h c =
    (record { side = refl; alive = refl; less = omega (arith, ap stages_left q, ap held_work h); used = []; before = refl }, ap owed q, refl, c)
asking_leads s f (Err e) q h c = (ap is_faulty q, ap owed q)

read_leads : (s : Standing) (held : Option Parts) → s.stage ≡ Authed → s.held ≡ held → s.side ≡ Acceptor → Leads s (read_held s held)
read_leads s (Some f) q h c = asking_leads s f (ask_in s.peer f) q h c
read_leads s None q h c = take_leads s (found_in s.rest) refl h (ap is_faulty q) (ap owed q)

refuse_leads : (s : Standing) (held : Option Parts) → s.stage ≡ Ended → s.held ≡ held → Leads s (refuse_held s held)
refuse_leads s (Some f) q h = (ap is_faulty q, ap owed q)
refuse_leads s None q h = take_leads s (found_in s.rest) refl h (ap is_faulty q) (ap owed q)

signed_leads : (side : HalfSide) (s : Standing) (m : Move) → s.side ≡ side → (s.side ≡ Acceptor → Leads s m) → Leads s (signed_move side m)
signed_leads Opener s m q k = tt
signed_leads Acceptor s m q k = k q

leads_at : (stage : Stage) (s : Standing) → s.stage ≡ stage → Leads s (course_move_at stage s)
leads_at Opening s q = (record { side = refl; alive = refl; less = omega (arith, ap stages_left q); used = []; before = refl }, sym (ap owed q), ap is_over q, refl)
leads_at Banner s q = banner_leads s (banner_in s.rest) (is_step s.rest) q
leads_at (Waits awaited) s q = held_leads s awaited s.held q refl
leads_at Authed s q = signed_leads s.side s (read_held s s.held) refl (λ c. read_leads s s.held q refl c)
leads_at Asked s q = tt
leads_at Ended s q = signed_leads s.side s (refuse_held s s.held) refl (λ c. refuse_leads s s.held q refl)
leads_at (Faulty f) s q = tt

pub leads : (s : Standing) → Leads s (course_move s)
leads s = leads_at s.stage s refl

-- ---- the same of a step

abbrev pub Tells : Standing → Event → Standing → Type 0
Tells a silent b = Lead a b × (owed b.stage ≡ owed a.stage) × (is_over a.stage ≡ true → is_over b.stage ≡ true)
Tells a (wrote words) b = Lead a b × (owed b.stage ≡ owed a.stage) × (is_over a.stage ≡ false)
Tells a (asked ask) b = Lead a b × (owed a.stage ≡ 0) × (b.stage ≡ Asked) × (a.side ≡ Acceptor)
Tells a (failed f) b = (is_faulty a.stage ≡ false) × (owed a.stage ≡ 0) × (b ≡ fallen f a)
Tells a (replied c) b = ⊥

abbrev pub TellsStep : Standing → Step → Type 0
TellsStep a rests = Unit {0}
TellsStep a (goes e b) = Tells a e b

pub true_isnt_false : true ≡ false → ⊥
true_isnt_false e = cc

tells_by : (a : Standing) (m : Move) → Leads a m → TellsStep a (step_by m a)
tells_by a stays l = tt
tells_by a (quiet b) l = (l.0, l.1, λ o. l.2 ∙ o)
tells_by a (writes words b) l = (l.0, l.1, l.2)
tells_by a (signs b) l = (l.0, l.1, λ o. absurd (true_isnt_false (sym o ∙ l.2)))
tells_by a (asks ask b) l = (l.0, l.1, l.2, l.3)
tells_by a (fails f) l = (l.0, l.1, refl)

pub tells : (a : Standing) (e : Event) (b : Standing) → step_of a ≡ goes e b → Tells a e b
tells a e b h = subst (TellsStep a) h (tells_by a (course_move a) (leads a))
