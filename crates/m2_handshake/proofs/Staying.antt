-- A move stays as more is fed.
use Rattle.std.proofs.Common.{◌≡◌, ◌≢◌, ℕ, Bool, true, false, cond, List, ◌++◌, drop, Option, Some, None, Result, Ok, Err, refl, sym, ap, ◌∙◌}
use Rattle.std.proofs.lemmas.List.{drop-append-le}
use Rattle.m2_addr.specs.declared.addr.Addr.{Addr}
use Rattle.m2_control.specs.declared.banner.BannerStep.{BannerStep}
use Rattle.m2_control.specs.declared.banner.BannerStep.TheVariants.{Got, NotYet, BadBanner}
use Rattle.m2_control.specs.Banner.{IsStep}
use Rattle.m2_frame.specs.Frame.{Parts}
use Rattle.m2_handshake.specs.declared.ask.Ask.{Ask}
use Rattle.m2_handshake.specs.declared.fault.HalfFault.{HalfFault}
use Rattle.m2_handshake.specs.declared.fault.HalfFault.TheVariants as fault
use Rattle.m2_handshake.specs.declared.stage.Awaited.{Awaited}
use Rattle.m2_handshake.specs.declared.stage.Awaited.TheVariants.{Hello}
use Rattle.m2_handshake.specs.declared.stage.HalfSide.{HalfSide}
use Rattle.m2_handshake.specs.declared.stage.HalfSide.TheVariants.{Opener, Acceptor}
use Rattle.m2_handshake.specs.declared.stage.Stage.{Stage}
use Rattle.m2_handshake.specs.declared.stage.Stage.TheVariants.{Opening, Banner, Waits, Authed, Asked, Ended, Faulty}
use Rattle.m2_handshake.specs.Asks.{ask_in}
use Rattle.m2_control.specs.Banner.{banner_in}
use Rattle.m2_handshake.specs.Course.{signed_move, course_move_at, course_move}
use Rattle.m2_handshake.specs.Laws.{later}
use Rattle.m2_handshake.specs.Moves.{Move, stays, quiet, writes, fails, is_agreed, after_banner, take_frame, after_reaction, answer_held, after_asking, read_held, refuse_held, ask_move_at, ask_move_of, move_at, move_of}
use Rattle.m2_handshake.specs.Reading.{Found, begun, refused, framed, found_in}
use Rattle.m2_handshake.specs.Standing.{Standing, grown}
use Rattle.m2_handshake.specs.Steps.{Reaction, says, listens, signed, refuses, after_frame}
use Rattle.m2_handshake.specs.Texts.{frame_text, hello}
use Rattle.m2_handshake.proofs.Banners.{is_step, banner_stays}
use Rattle.m2_handshake.proofs.Sizes.{begun_isnt_framed, begun_isnt_refused, found_stays, framed_within}

-- ---- frames

take_later : (s : Standing) (more : List ℕ) (found : Found) → found_in s.rest ≡ found → take_frame s found ≢ stays → later more (take_frame s found) ≡ take_frame (grown more s) (found_in (s.rest ++ more))
take_later s more begun e n = absurd (n refl)
take_later s more (refused f) e n = ap (take_frame (grown more s)) (sym (found_stays s.rest more (refused f) e (begun_isnt_refused f)))
take_later s more (framed f k) e n =
    ap (λ (r : List ℕ). quiet (record s { held = Some f; rest = r })) (sym (drop-append-le k s.rest more (framed_within s.rest f k e)))
    ∙ ap (take_frame (grown more s)) (sym (found_stays s.rest more (framed f k) e (begun_isnt_framed f k)))

reaction_later : (s : Standing) (more : List ℕ) (r : Reaction) → later more (after_reaction s r) ≡ after_reaction (grown more s) r
reaction_later s more (says next words) = refl
reaction_later s more (listens next) = refl
reaction_later s more signed = refl
reaction_later s more (refuses f) = refl

held_later : (s : Standing) (more : List ℕ) (awaited : Awaited) (held : Option Parts) → answer_held s awaited held ≢ stays → later more (answer_held s awaited held) ≡ answer_held (grown more s) awaited held
held_later s more awaited (Some f) n = reaction_later s more (after_frame s.auth s.side awaited f)
held_later s more awaited None n = take_later s more (found_in s.rest) refl n

-- ---- banners

agreed_later : (b : Bool) (s : Standing) (more left : List ℕ) (words : List ℕ) →
    later more (cond b (writes words (record s { stage = Waits Hello; rest = left })) (fails fault.BannerFeatures))
    ≡ cond b (writes words (record s { stage = Waits Hello; rest = left ++ more })) (fails fault.BannerFeatures)
agreed_later true s more left words = refl
agreed_later false s more left words = refl

got_isnt_start : (b : BannerStep) (s : Standing) → after_banner s b ≢ stays → b ≢ NotYet
got_isnt_start b s n e = n (ap (after_banner s) e)

banner_later : (s : Standing) (more : List ℕ) (b : BannerStep) → banner_in s.rest ≡ b → IsStep b s.rest → after_banner s b ≢ stays → later more (after_banner s b) ≡ after_banner (grown more s) (banner_in (s.rest ++ more))
banner_later s more (Got b used) e h n =
    agreed_later (is_agreed b) s more (drop used s.rest) (frame_text (hello s.entity s.seen))
    ∙ ap (λ (r : List ℕ). cond (is_agreed b) (writes (frame_text (hello s.entity s.seen)) (record s { stage = Waits Hello; rest = r })) (fails fault.BannerFeatures)) (sym (drop-append-le used s.rest more h.3))
    ∙ ap (after_banner (grown more s)) (sym (banner_stays (Got b used) s.rest more e (got_isnt_start (Got b used) s n)))
banner_later s more NotYet e h n = absurd (n refl)
banner_later s more BadBanner e h n = ap (after_banner (grown more s)) (sym (banner_stays BadBanner s.rest more e (got_isnt_start BadBanner s n)))

-- ---- a move of the handshake

move_later : (stage : Stage) (s : Standing) (more : List ℕ) → move_at stage s ≢ stays → later more (move_at stage s) ≡ move_at stage (grown more s)
move_later Opening s more n = refl
move_later Banner s more n = banner_later s more (banner_in s.rest) refl (is_step s.rest) n
move_later (Waits awaited) s more n = held_later s more awaited s.held n
move_later Authed s more n = refl
move_later Asked s more n = refl
move_later Ended s more n = refl
move_later (Faulty f) s more n = refl

pub stay : (s : Standing) (more : List ℕ) → move_of s ≢ stays → move_of (grown more s) ≡ later more (move_of s)
stay s more n = sym (move_later s.stage s more n)

-- ---- one towards an ask

asking_later : (s : Standing) (more : List ℕ) (r : Result (Ask × Addr) HalfFault) → later more (after_asking s r) ≡ after_asking (grown more s) r
asking_later s more (Ok (ask, main)) = refl
asking_later s more (Err f) = refl

read_later : (s : Standing) (more : List ℕ) (held : Option Parts) → read_held s held ≢ stays → later more (read_held s held) ≡ read_held (grown more s) held
read_later s more (Some f) n = asking_later s more (ask_in s.peer f)
read_later s more None n = take_later s more (found_in s.rest) refl n

refuse_later : (s : Standing) (more : List ℕ) (held : Option Parts) → refuse_held s held ≢ stays → later more (refuse_held s held) ≡ refuse_held (grown more s) held
refuse_later s more (Some f) n = refl
refuse_later s more None n = take_later s more (found_in s.rest) refl n

ask_later : (stage : Stage) (s : Standing) (more : List ℕ) → ask_move_at stage s ≢ stays → later more (ask_move_at stage s) ≡ ask_move_at stage (grown more s)
ask_later Opening s more n = refl
ask_later Banner s more n = refl
ask_later (Waits awaited) s more n = refl
ask_later Authed s more n = read_later s more s.held n
ask_later Asked s more n = refl
ask_later Ended s more n = refuse_later s more s.held n
ask_later (Faulty f) s more n = refl

pub stay_asked : (s : Standing) (more : List ℕ) → ask_move_of s ≢ stays → ask_move_of (grown more s) ≡ later more (ask_move_of s)
stay_asked s more n = sym (ask_later s.stage s more n)

-- ---- one of the course

signed_later : (side : HalfSide) (more : List ℕ) (m n : Move) → (m ≢ stays → later more m ≡ n) → signed_move side m ≢ stays → later more (signed_move side m) ≡ signed_move side n
signed_later Opener more m n k h = absurd (h refl)
signed_later Acceptor more m n k h = k h

course_later : (stage : Stage) (s : Standing) (more : List ℕ) → course_move_at stage s ≢ stays → later more (course_move_at stage s) ≡ course_move_at stage (grown more s)
course_later Opening s more n = move_later Opening s more n
course_later Banner s more n = move_later Banner s more n
course_later (Waits awaited) s more n = move_later (Waits awaited) s more n
course_later Authed s more n = signed_later s.side more (read_held s s.held) (read_held (grown more s) s.held) (read_later s more s.held) n
course_later Asked s more n = absurd (n refl)
course_later Ended s more n = signed_later s.side more (refuse_held s s.held) (refuse_held (grown more s) s.held) (refuse_later s more s.held) n
course_later (Faulty f) s more n = absurd (n refl)

pub stay_on : (s : Standing) (more : List ℕ) → course_move s ≢ stays → course_move (grown more s) ≡ later more (course_move s)
stay_on s more n = sym (course_later s.stage s more n)
