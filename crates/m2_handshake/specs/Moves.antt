-- The moves of a half: what it does next where it stands, a function of its unread bytes. One frame is taken
-- from them at a time, and then answered by the table of the handshake.
use Rattle.std.specs.Prelude.{◌≡◌, ◌==◌, ◌&&◌, ◌%◌, nat_lt, ℕ, Bool, true, false, if◌then◌else◌, List, [], ◌∷◌, drop, Option, Some, None, Result, Ok, Err}
use Rattle.m2_addr.specs.declared.addr.Addr.{Addr}
use Rattle.m2_control.specs.declared.banner.Banner.{Banner as Features}
use Rattle.m2_control.specs.declared.banner.BannerStep.{BannerStep}
use Rattle.m2_control.specs.declared.banner.BannerStep.TheVariants.{Got, NotYet, BadBanner}
use Rattle.m2_control.specs.Banner.{banner_in, banner_text}
use Rattle.m2_frame.specs.Frame.{Parts}
use Rattle.m2_handshake.specs.declared.ask.Ask.{Ask}
use Rattle.m2_handshake.specs.declared.fault.HalfFault.{HalfFault}
use Rattle.m2_handshake.specs.declared.fault.HalfFault.TheVariants as fault
use Rattle.m2_handshake.specs.declared.stage.Awaited.{Awaited}
use Rattle.m2_handshake.specs.declared.stage.Awaited.TheVariants.{Hello}
use Rattle.m2_handshake.specs.declared.stage.HalfSide.{HalfSide}
use Rattle.m2_handshake.specs.declared.stage.HalfSide.TheVariants.{Opener, Acceptor}
use Rattle.m2_handshake.specs.declared.stage.Stage.{Stage}
use Rattle.m2_handshake.specs.declared.stage.Stage.TheVariants.{Opening, Banner, Waits, Authed, Asked, Ended, Faulty}
use Rattle.m2_handshake.specs.Asks.{ask_in}
use Rattle.m2_handshake.specs.Reading.{Found, begun, refused, framed, found_in}
use Rattle.m2_handshake.specs.Standing.{Standing}
use Rattle.m2_handshake.specs.Steps.{Reaction, says, listens, signed, refuses, after_frame}
use Rattle.m2_handshake.specs.Texts.{frame_text, hello}

-- what comes next: nothing, for what is there is only the start of something; the half goes on without a word,
-- or with these bytes; both sides have signed; an ask; a fault
pub data Move : Type 0 where
  stays : Move
  quiet : Standing → Move
  writes : List ℕ → Standing → Move
  signs : Standing → Move
  asks : Ask → Standing → Move
  fails : HalfFault → Move

-- ---- banners

-- msgr2.1 is supported and required, and nothing else
abbrev pub features : Features
features = record { supported = 1; required = 1 }

-- the other side supports msgr2.1, and requires nothing else
abbrev pub is_agreed : Features → Bool
is_agreed b = (b.supported % 2 == 1) && nat_lt b.required 2

abbrev pub after_banner : Standing → BannerStep → Move
after_banner s (Got b used) =
    if is_agreed b then writes (frame_text (hello s.entity s.seen)) (record s { stage = Waits Hello; rest = drop used s.rest })
    else fails fault.BannerFeatures
after_banner s NotYet = stays
after_banner s BadBanner = fails fault.BadBanner

-- ---- frames

-- the next frame is taken from the unread bytes
abbrev pub take_frame : Standing → Found → Move
take_frame s begun = stays
take_frame s (refused f) = fails f
take_frame s (framed f n) = quiet (record s { held = Some f; rest = drop n s.rest })

abbrev pub after_reaction : Standing → Reaction → Move
after_reaction s (says next words) = writes words (record s { stage = Waits next; held = None })
after_reaction s (listens next) = quiet (record s { stage = Waits next; held = None })
after_reaction s signed = signs (record s { stage = Authed; held = None })
after_reaction s (refuses f) = fails f

abbrev pub answer_held : Standing → Awaited → Option Parts → Move
answer_held s awaited (Some f) = after_reaction s (after_frame s.auth s.side awaited f)
answer_held s awaited None = take_frame s (found_in s.rest)

-- ---- a half's next move in the handshake, by its stage

abbrev pub move_at : Stage → Standing → Move
move_at Opening s = writes (banner_text features) (record s { stage = Banner })
move_at Banner s = after_banner s (banner_in s.rest)
move_at (Waits awaited) s = answer_held s awaited s.held
move_at Authed s = signs s
move_at Asked s = signs s
move_at Ended s = signs s
move_at (Faulty f) s = fails f

abbrev pub move_of : Standing → Move
move_of s = move_at s.stage s

-- ---- an acceptor's next move towards an ask, by its stage

abbrev pub after_asking : Standing → Result (Ask × Addr) HalfFault → Move
after_asking s (Ok (ask, main)) = asks ask (record s { stage = Asked; held = None; peer = Some main })
after_asking s (Err f) = fails f

abbrev pub read_held : Standing → Option Parts → Move
read_held s (Some f) = after_asking s (ask_in s.peer f)
read_held s None = take_frame s (found_in s.rest)

-- after the end of an exchange any frame is too much
abbrev pub refuse_held : Standing → Option Parts → Move
refuse_held s (Some f) = fails (fault.Unexpected f.tag)
refuse_held s None = take_frame s (found_in s.rest)

-- while a reply is owed, and before both sides have signed, nothing is read
abbrev pub ask_move_at : Stage → Standing → Move
ask_move_at Authed s = read_held s s.held
ask_move_at Ended s = refuse_held s s.held
ask_move_at (Faulty f) s = fails f
ask_move_at _ s = stays

abbrev pub ask_move_of : Standing → Move
ask_move_of s = ask_move_at s.stage s

-- ---- who is asked

-- both sides have signed, and there was no fault
abbrev pub is_authed : Stage → Bool
is_authed Authed = true
is_authed Asked = true
is_authed Ended = true
is_authed _ = false

-- an acceptor that waits for an ask, owes a reply, waits for the end or keeps a fault
abbrev pub can_ask_at : HalfSide → Stage → Bool
can_ask_at Opener stage = false
can_ask_at Acceptor (Faulty f) = true
can_ask_at Acceptor stage = is_authed stage

abbrev pub can_ask : Standing → Bool
can_ask s = can_ask_at s.side s.stage

-- the next move: of an acceptor that has signed it is one towards an ask
abbrev pub next_move_at : Stage → HalfSide → Standing → Move
next_move_at Authed Acceptor s = ask_move_at Authed s
next_move_at Asked Acceptor s = ask_move_at Asked s
next_move_at Ended Acceptor s = ask_move_at Ended s
next_move_at stage side s = move_at stage s

abbrev pub next_move : Standing → Move
next_move s = next_move_at s.stage s.side s

-- nothing is to be done before more bytes come, or while a reply is owed
abbrev pub is_stays : Move → Bool
is_stays stays = true
is_stays _ = false

abbrev pub is_at_rest : Standing → Bool
is_at_rest s = is_stays (next_move s)

-- no frame is in hand, and what is unread is the start of one; the same of a banner
abbrev pub is_start : Option Parts → Found → Bool
is_start None begun = true
is_start _ _ = false

abbrev pub is_banner_start : BannerStep → Bool
is_banner_start NotYet = true
is_banner_start _ = false

-- ---- where memory is wanted: for its own banner; where the whole banner of the other side is there; for a frame in
-- hand, or the whole text of one

abbrev pub is_banner : BannerStep → Bool
is_banner (Got b used) = true
is_banner _ = false

abbrev pub is_whole : Found → Bool
is_whole (framed f n) = true
is_whole _ = false

abbrev pub is_frame_there : Option Parts → Found → Bool
is_frame_there (Some f) found = true
is_frame_there None found = is_whole found

abbrev pub wants_memory_at : Stage → Standing → Bool
wants_memory_at Opening s = true
wants_memory_at Banner s = is_banner (banner_in s.rest)
wants_memory_at (Waits awaited) s = is_frame_there s.held (found_in s.rest)
wants_memory_at _ s = false

abbrev pub wants_memory : Standing → Bool
wants_memory s = wants_memory_at s.stage s

-- towards an ask
abbrev pub wants_memory_to_ask_at : Stage → Standing → Bool
wants_memory_to_ask_at Authed s = is_frame_there s.held (found_in s.rest)
wants_memory_to_ask_at Ended s = is_frame_there s.held (found_in s.rest)
wants_memory_to_ask_at _ s = false

abbrev pub wants_memory_to_ask : Standing → Bool
wants_memory_to_ask s = wants_memory_to_ask_at s.stage s

-- ---- several moves without a word

abbrev pub Quietly : (Standing → Move) → List Standing → Standing → Standing → Type 0
Quietly move [] a b = a ≡ b
Quietly move (m ∷ ms) a b = (move a ≡ quiet m) × Quietly move ms m b
