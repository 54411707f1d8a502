-- What a reader expects of cookies, dials and answers.
use Rattle.std.specs.Prelude.{◌≡◌, ◌≢◌, ◌<◌, ◌≤◌, ◌^◌, Bool, true, false, ◌⊎◌, IsTrue, IfSome}
use Rattle.m2_addr.specs.declared.addr.TheConstants.Addr.{MSGR2}
use Rattle.m2_control.specs.declared.fields.TheConstants.{GREATEST_NUMBER}
use Rattle.m2_control.specs.Laws.{HasAddrRanges, HasRanges, IsInBounds}
use Rattle.m2_session.specs.declared.answer.Answer.{Answer}
use Rattle.m2_session.specs.declared.answer.Answer.TheVariants as answer
use Rattle.m2_session.specs.declared.event.Event.TheVariants.{Dialled}
use Rattle.m2_session.specs.declared.session.Session.{Session}
use Rattle.m2_session.specs.Steps.{is_lawful}
use Rattle.m2_session.specs.declared.cookie.CookieParts.{CookieParts}
use Rattle.m2_session.specs.declared.frame.Speaker.{Speaker}
use Rattle.m2_session.specs.declared.frame.Carried.{Carried}
use Rattle.m2_session.specs.Cookies.{cookie_of}
use Rattle.m2_session.specs.Dials.{dials}
use Rattle.m2_session.specs.Frames.{frame_of}

-- ---- cookies

-- the salt has 16 bits, and the number is one that can be drawn
pub record IsDrawn (d : CookieParts) : Type 0 where
  pub salt : d.salt < 2 ^ 16
  pub from : 1 ≤ d.number
  pub to : d.number ≤ GREATEST_NUMBER

pub record CookiesTellDrawsApart : Type 0 where
  pub injective : (a b : CookieParts) → IsDrawn a → IsDrawn b → cookie_of false a ≡ cookie_of false b → a ≡ b
  pub some : (d : CookieParts) → cookie_of false d ≢ 0

-- ---- dials

abbrev pub DialsAreLawful : Type 0
DialsAreLawful = (s : Session) (waits wanted : Bool) → dials s waits wanted ≡ true → IsTrue (is_lawful s Dialled)

-- ---- frames

-- a node that speaks msgr2, with words of 64 bits
pub record IsSpeaker (n : Speaker) : Type 0 where
  pub ranges : HasAddrRanges n.addr
  pub kind : n.addr.kind ≡ MSGR2
  pub place : n.place < 2 ^ 32
  pub supports : n.supports < 2 ^ 64
  pub requires_ : n.requires_ < 2 ^ 64

-- Numbers are at most 2 ^ 40, and a session that isn't lossy has a cookie.
pub record IsCarried (n : Speaker) (c : Carried) : Type 0 where
  pub cookie : c.cookie < 2 ^ 64
  pub some : (n.lossy ≡ true) ⊎ (c.cookie ≢ 0)
  pub global : c.global ≤ GREATEST_NUMBER
  pub last : c.last ≤ GREATEST_NUMBER

-- the number of a retry is one that can be drawn
abbrev pub IsBoundedAnswer : Answer → Type 0
IsBoundedAnswer (answer.Retry number) = number ≤ GREATEST_NUMBER
IsBoundedAnswer (answer.RetryGlobal number) = number ≤ GREATEST_NUMBER
IsBoundedAnswer _ = Unit {0}

abbrev pub AnswersAreInBounds : Type 0
AnswersAreInBounds = (n : Speaker) (c : Carried) (a : Answer) → IsSpeaker n → IsCarried n c → IsBoundedAnswer a →
    IfSome (frame_of n c a) (λ f. HasRanges f × IsInBounds f)
