-- Where a half has nothing to do.
use Rattle.std.proofs.Common.{◌≡◌, Bool, true, false, cond, List, [], ◌∷◌, drop, Option, Some, None, Result, Ok, Err, refl, sym, ap, ◌∙◌, subst}
use Rattle.std.proofs.lemmas.Bool.{false_from_ne_true}
use Rattle.m2_addr.specs.declared.addr.Addr.{Addr}
use Rattle.m2_control.specs.declared.banner.BannerStep.{BannerStep}
use Rattle.m2_control.specs.declared.banner.BannerStep.TheVariants.{Got, NotYet, BadBanner}
use Rattle.m2_control.specs.Banner.{banner_in}
use Rattle.m2_frame.specs.Frame.{Parts}
use Rattle.m2_frame.specs.Decoder.{IsAtStart}
use Rattle.m2_frame.specs.Position.{Position}
use Rattle.m2_handshake.specs.declared.answer.HalfStep.{HalfStep}
use Rattle.m2_handshake.specs.declared.answer.HalfStep.TheVariants as answer
use Rattle.m2_handshake.specs.declared.ask.Ask.{Ask}
use Rattle.m2_handshake.specs.declared.ask.AskStep.{AskStep}
use Rattle.m2_handshake.specs.declared.ask.AskStep.TheVariants as step
use Rattle.m2_handshake.specs.declared.fault.HalfFault.{HalfFault}
use Rattle.m2_handshake.specs.declared.fault.HalfFault.TheVariants as fault
use Rattle.m2_handshake.specs.declared.stage.Awaited.{Awaited}
use Rattle.m2_handshake.specs.declared.stage.Awaited.TheVariants.{Hello}
use Rattle.m2_handshake.specs.declared.stage.HalfSide.{HalfSide}
use Rattle.m2_handshake.specs.declared.stage.HalfSide.TheVariants.{Opener, Acceptor}
use Rattle.m2_handshake.specs.declared.stage.Stage.{Stage}
use Rattle.m2_handshake.specs.declared.stage.Stage.TheVariants.{Opening, Banner, Waits, Authed, Asked, Ended, Faulty}
use Rattle.m2_handshake.specs.Asking.{AskAnswers, AskEnds}
use Rattle.m2_handshake.specs.Asks.{bare_ask, ask_in}
use Rattle.m2_handshake.specs.Half.{Writer, Answers, Ends}
use Rattle.m2_handshake.specs.Laws.{RestsExactly}
use Rattle.m2_handshake.specs.Moves.{Move, stays, quiet, writes, signs, asks, fails, is_agreed, after_banner, take_frame, after_reaction, answer_held, after_asking, read_held, refuse_held, ask_move_at, ask_move_of, move_at, move_of, can_ask_at, can_ask, next_move_at, next_move, is_stays, is_at_rest, is_start, is_banner_start, is_banner, is_frame_there, wants_memory_at, wants_memory_to_ask_at, Quietly}
use Rattle.m2_handshake.specs.Reading.{Found, begun, refused, framed, found_in}
use Rattle.m2_handshake.specs.Standing.{Standing}
use Rattle.m2_handshake.specs.Steps.{Reaction, says, listens, signed, refuses, after_frame}
use Rattle.m2_handshake.specs.Texts.{frame_text, hello}
use Rattle.m2_handshake.specs.Course.{no_exchange}
use Rattle.m2_handshake.proofs.Leading.{true_isnt_false}
use Rattle.m2_handshake.proofs.Reaching.{asking_reaches, begins}
use Rattle.m2_handshake.proofs.Sizes.{begun_rests, taken_start}

-- ---- what rests

cond_moves : (b : Bool) (x y : Move) → is_stays x ≡ false → is_stays y ≡ false → is_stays (cond b x y) ≡ false
cond_moves true x y h k = h
cond_moves false x y h k = k

banner_stays : (s : Standing) (b : BannerStep) → is_stays (after_banner s b) ≡ is_banner_start b
banner_stays s (Got b used) = cond_moves (is_agreed b) (writes (frame_text (hello s.entity s.seen)) (record s { stage = Waits Hello; rest = drop used s.rest })) (fails fault.BannerFeatures) refl refl
banner_stays s NotYet = refl
banner_stays s BadBanner = refl

pub banner_rest : (s : Standing) → is_stays (after_banner s (banner_in s.rest)) ≡ is_banner_start (banner_in s.rest)
banner_rest s = banner_stays s (banner_in s.rest)

take_rest : (s : Standing) (found : Found) → is_stays (take_frame s found) ≡ is_start None found
take_rest s begun = refl
take_rest s (refused f) = refl
take_rest s (framed f n) = refl

reaction_moves : (s : Standing) (r : Reaction) → is_stays (after_reaction s r) ≡ false
reaction_moves s (says next words) = refl
reaction_moves s (listens next) = refl
reaction_moves s signed = refl
reaction_moves s (refuses f) = refl

asking_moves : (s : Standing) (r : Result (Ask × Addr) HalfFault) → is_stays (after_asking s r) ≡ false
asking_moves s (Ok (ask, main)) = refl
asking_moves s (Err f) = refl

held_stays : (s : Standing) (awaited : Awaited) (held : Option Parts) → is_stays (answer_held s awaited held) ≡ is_start held (found_in s.rest)
held_stays s awaited (Some f) = reaction_moves s (after_frame s.auth s.side awaited f)
held_stays s awaited None = take_rest s (found_in s.rest)

pub held_rest : (s : Standing) (awaited : Awaited) → is_stays (answer_held s awaited s.held) ≡ is_start s.held (found_in s.rest)
held_rest s awaited = held_stays s awaited s.held

read_stays : (s : Standing) (held : Option Parts) → is_stays (read_held s held) ≡ is_start held (found_in s.rest)
read_stays s (Some f) = asking_moves s (ask_in s.peer f)
read_stays s None = take_rest s (found_in s.rest)

pub read_rest : (s : Standing) → is_stays (read_held s s.held) ≡ is_start s.held (found_in s.rest)
read_rest s = read_stays s s.held

refuse_stays : (s : Standing) (held : Option Parts) → is_stays (refuse_held s held) ≡ is_start held (found_in s.rest)
refuse_stays s (Some f) = refl
refuse_stays s None = take_rest s (found_in s.rest)

pub refuse_rest : (s : Standing) → is_stays (refuse_held s s.held) ≡ is_start s.held (found_in s.rest)
refuse_rest s = refuse_stays s s.held

-- a decoder that has granted nothing rests just there
pub start_is : (s : Position) → s.granted ≡ false → IsAtStart s → is_start None (found_in s.rest) ≡ true
start_is s g a = ap (is_start None) (taken_start s g a.0 a.1)

start_means : (found : Found) → is_start None found ≡ true → found ≡ begun
start_means begun e = refl
start_means (refused f) e = absurd (true_isnt_false (sym e))
start_means (framed f n) e = absurd (true_isnt_false (sym e))

pub start_isnt : (s : Position) → s.granted ≡ false → (IsAtStart s → ⊥) → is_start None (found_in s.rest) ≡ false
start_isnt s g n = false_from_ne_true (is_start None (found_in s.rest)) (λ e. n (begun_rests s g (start_means (found_in s.rest) e)))

-- ---- what it answers

stays_from : (m : Move) → is_stays m ≡ true → m ≡ stays
stays_from stays e = refl
stays_from (quiet s) e = absurd (true_isnt_false (sym e))
stays_from (writes words s) e = absurd (true_isnt_false (sym e))
stays_from (signs s) e = absurd (true_isnt_false (sym e))
stays_from (asks ask s) e = absurd (true_isnt_false (sym e))
stays_from (fails f) e = absurd (true_isnt_false (sym e))

next_is_move : (stage : Stage) (side : HalfSide) (s : Standing) → can_ask_at side stage ≡ false → next_move_at stage side s ≡ move_at stage s
next_is_move Opening side s c = refl
next_is_move Banner side s c = refl
next_is_move (Waits awaited) side s c = refl
next_is_move Authed Opener s c = refl
next_is_move Authed Acceptor s c = absurd (true_isnt_false c)
next_is_move Asked Opener s c = refl
next_is_move Asked Acceptor s c = absurd (true_isnt_false c)
next_is_move Ended Opener s c = refl
next_is_move Ended Acceptor s c = absurd (true_isnt_false c)
next_is_move (Faulty f) side s c = refl

next_is_ask : (stage : Stage) (side : HalfSide) (s : Standing) → can_ask_at side stage ≡ true → next_move_at stage side s ≡ ask_move_at stage s
next_is_ask stage Opener s c = absurd (true_isnt_false (sym c))
next_is_ask Opening Acceptor s c = absurd (true_isnt_false (sym c))
next_is_ask Banner Acceptor s c = absurd (true_isnt_false (sym c))
next_is_ask (Waits awaited) Acceptor s c = absurd (true_isnt_false (sym c))
next_is_ask Authed Acceptor s c = refl
next_is_ask Asked Acceptor s c = refl
next_is_ask Ended Acceptor s c = refl
next_is_ask (Faulty f) Acceptor s c = refl

moves_not : (m n : Move) → m ≡ stays → m ≡ n → is_stays n ≡ false → ⊥
moves_not m n h e q = true_isnt_false (ap is_stays (sym h ∙ e) ∙ q)

no_quiet : (move : Standing → Move) (ms : List Standing) (a b : Standing) → move a ≡ stays → Quietly move ms a b → a ≡ b
no_quiet move [] a b h path = path
no_quiet move (m ∷ ms) a b h path = absurd (moves_not (move a) (quiet m) h path.0 refl)

there_isnt_start : (held : Option Parts) (found : Found) → is_frame_there held found ≡ true → is_start held found ≡ true → ⊥
there_isnt_start (Some f) found t e = true_isnt_false (sym e)
there_isnt_start None begun t e = true_isnt_false (sym t)
there_isnt_start None (refused f) t e = true_isnt_false (sym e)
there_isnt_start None (framed f n) t e = true_isnt_false (sym e)

banner_isnt_start : (b : BannerStep) → is_banner b ≡ true → is_banner_start b ≡ true → ⊥
banner_isnt_start (Got b used) t e = true_isnt_false (sym e)
banner_isnt_start NotYet t e = true_isnt_false (sym t)
banner_isnt_start BadBanner t e = true_isnt_false (sym t)

wants_none : (stage : Stage) (s : Standing) → move_at stage s ≡ stays → wants_memory_at stage s ≡ true → ⊥
wants_none Opening s h w = moves_not (move_at Opening s) (move_at Opening s) h refl refl
wants_none Banner s h w = banner_isnt_start (banner_in s.rest) w (sym (banner_rest s) ∙ ap is_stays h)
wants_none (Waits awaited) s h w = there_isnt_start s.held (found_in s.rest) w (sym (held_rest s awaited) ∙ ap is_stays h)
wants_none Authed s h w = true_isnt_false (sym w)
wants_none Asked s h w = true_isnt_false (sym w)
wants_none Ended s h w = true_isnt_false (sym w)
wants_none (Faulty f) s h w = true_isnt_false (sym w)

wants_none_to_ask : (stage : Stage) (s : Standing) → ask_move_at stage s ≡ stays → wants_memory_to_ask_at stage s ≡ true → ⊥
wants_none_to_ask Opening s h w = true_isnt_false (sym w)
wants_none_to_ask Banner s h w = true_isnt_false (sym w)
wants_none_to_ask (Waits awaited) s h w = true_isnt_false (sym w)
wants_none_to_ask Authed s h w = there_isnt_start s.held (found_in s.rest) w (sym (read_rest s) ∙ ap is_stays h)
wants_none_to_ask Asked s h w = true_isnt_false (sym w)
wants_none_to_ask Ended s h w = there_isnt_start s.held (found_in s.rest) w (sym (refuse_rest s) ∙ ap is_stays h)
wants_none_to_ask (Faulty f) s h w = true_isnt_false (sym w)

ends : (result : HalfStep) (old new : Writer) → move_of old.standing ≡ stays → Ends result old new → (result ≡ answer.NotYet) × (new ≡ old)
ends answer.NotYet old new h e = (refl, e.1)
ends answer.Wrote old new h e = absurd (moves_not (move_of old.standing) (writes e.0 new.standing) h e.1 refl)
ends answer.Authed old new h e = absurd (moves_not (move_of old.standing) (signs new.standing) h e.0 refl)
ends (answer.Fault f) old new h e = absurd (moves_not (move_of old.standing) (fails f) h e.0 refl)
ends answer.NoMemory old new h e = absurd (wants_none old.standing.stage old.standing h e.0)

ask_ends : (result : AskStep) (s new : Standing) → ask_move_of s ≡ stays → AskEnds result s new → (result ≡ step.NotYet) × (new ≡ s)
ask_ends step.NotYet s new h e = (refl, e.1)
ask_ends (step.Asked ask) s new h e = absurd (moves_not (ask_move_of s) (asks (bare_ask ask) new) h e refl)
ask_ends (step.Fault f) s new h e = absurd (moves_not (ask_move_of s) (fails f) h e.0 refl)
ask_ends step.NoMemory s new h e = absurd (wants_none_to_ask s.stage s h e.0)

next : (result : HalfStep) (old new : Writer) → can_ask old.standing ≡ false → is_at_rest old.standing ≡ true → Answers result old new → (result ≡ answer.NotYet) × (new ≡ old)
next result old new c o a =
    let h : move_of old.standing ≡ stays = sym (next_is_move old.standing.stage old.standing.side old.standing c) ∙ stays_from (next_move old.standing) o in
    let same = no_quiet move_of a.passed old.standing a.mid h a.quietly in
    let e : Ends result old new = subst (λ (s : Standing). Ends result (record { standing = s; out = old.out }) new) (sym same) a.ends in
    ends result old new h e

rests_by_move : (stage : Stage) (side : HalfSide) (s : Standing) → move_at stage s ≡ stays → is_stays (next_move_at stage side s) ≡ true
rests_by_move Opening side s h = ap is_stays h
rests_by_move Banner side s h = ap is_stays h
rests_by_move (Waits awaited) side s h = ap is_stays h
rests_by_move Authed side s h = absurd (moves_not (signs s) (signs s) h refl refl)
rests_by_move Asked side s h = absurd (moves_not (signs s) (signs s) h refl refl)
rests_by_move Ended side s h = absurd (moves_not (signs s) (signs s) h refl refl)
rests_by_move (Faulty f) side s h = ap is_stays h

after_next : (old new : Writer) → Answers answer.NotYet old new → is_at_rest new.standing ≡ true
after_next old new a = subst (λ (w : Writer). is_at_rest w.standing ≡ true) (sym a.ends.1) (rests_by_move a.mid.stage a.mid.side a.mid a.ends.0)

ask : (result : AskStep) (old new : Standing) → can_ask old ≡ true → is_at_rest old ≡ true → AskAnswers result old new → (result ≡ step.NotYet) × (new ≡ old)
ask result old new c o a =
    let h : ask_move_of old ≡ stays = sym (next_is_ask old.stage old.side old c) ∙ stays_from (next_move old) o in
    let same = no_quiet ask_move_of a.passed old a.mid h a.quietly in
    ask_ends result old new h (subst (λ s. AskEnds result s new) (sym same) a.ends)

after_ask : (old new : Standing) → can_ask old ≡ true → AskAnswers step.NotYet old new → is_at_rest new ≡ true
after_ask old new c a =
    let there = asking_reaches a.passed old old a.mid no_exchange (begins old) c a.quietly in
    subst (λ s. is_at_rest s ≡ true) (sym a.ends.1) (ap is_stays (next_is_ask a.mid.stage a.mid.side a.mid there.1 ∙ a.ends.0))

pub rests_exactly : RestsExactly
rests_exactly = record { next = next; after_next = after_next; ask = ask; after_ask = after_ask }
