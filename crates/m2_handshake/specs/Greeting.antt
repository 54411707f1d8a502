-- What an opener writes until it has signed, and its ask behind it, read by an acceptor.
use Rattle.std.specs.Prelude.{◌≡◌, ℕ, ◌<◌, ◌^◌, true, List, [], ◌∷◌, ◌++◌, Some, None, Ok}
use Rattle.std.specs.List.{All}
use Rattle.m2_addr.specs.declared.addr.Addr.{Addr}
use Rattle.m2_addr.specs.declared.addr.AnyAddr.{AnyAddr}
use Rattle.m2_addr.specs.Vector.{main_of}
use Rattle.m2_control.specs.declared.control.Control.{Control}
use Rattle.m2_control.specs.declared.control.Control.TheVariants as control
use Rattle.m2_control.specs.Banner.{banner_text}
use Rattle.m2_control.specs.Control as payload
use Rattle.m2_control.specs.Laws.{HasAddrRanges, HasRanges, IsInBounds}
use Rattle.m2_policy.specs.declared.rules.AuthPayload.{AuthPayload}
use Rattle.m2_handshake.specs.declared.ask.Ask.{Ask}
use Rattle.m2_handshake.specs.declared.ask.Ask.TheVariants.{Ident, Reconnect}
use Rattle.m2_handshake.specs.declared.ask.AskStep.{AskStep}
use Rattle.m2_handshake.specs.declared.ask.AskStep.TheVariants as step
use Rattle.m2_handshake.specs.declared.stage.Stage.TheVariants.{Authed, Asked}
use Rattle.m2_handshake.specs.Asking.{AskAnswers}
use Rattle.m2_handshake.specs.Asks.{bare_ask}
use Rattle.m2_handshake.specs.Course.{text_of, opener_course, Exchange, Reaches, Signs}
use Rattle.m2_handshake.specs.Moves.{features, ask_move_of, can_ask, is_authed, Quietly}
use Rattle.m2_handshake.specs.Standing.{Standing, acceptor_at_start, opener_at_start}
use Rattle.m2_handshake.specs.Texts.{frame_text, hello, request, done, signature}

-- an opener's banner, HELLO, AUTH_REQUEST with this payload and AUTH_SIGNATURE, and then what follows them
abbrev pub greeting : AuthPayload → ℕ → Addr → List ℕ → List ℕ
greeting auth entity dialled more = banner_text features ++ (frame_text (hello entity dialled) ++ (frame_text (request auth) ++ (frame_text signature ++ more)))

-- an acceptor's banner, HELLO, AUTH_DONE and AUTH_SIGNATURE
abbrev pub welcome : ℕ → Addr → List ℕ
welcome entity seen = banner_text features ++ (frame_text (hello entity seen) ++ (frame_text done ++ frame_text signature))

-- ---- what an opener writes

-- Whatever an opener is fed, where it signs it has written its greeting and nothing more, and so it is from then on.
pub record OpenerGreets : Type 0 where
  pub signs : (auth : AuthPayload) (entity : ℕ) (dialled : Addr) (x : Exchange) (s : Standing) → Signs (opener_at_start auth entity dialled) x s → x.text ≡ greeting auth entity dialled []
  pub signed : (auth : AuthPayload) (entity : ℕ) (dialled : Addr) (x : Exchange) (s : Standing) → Reaches (opener_at_start auth entity dialled) x s → is_authed s.stage ≡ true →
      x.text ≡ greeting auth entity dialled []
  pub computed : (auth : AuthPayload) (entity : ℕ) (dialled : Addr) (bytes : List ℕ) → is_authed (opener_course auth entity dialled bytes).standing.stage ≡ true →
      text_of (opener_course auth entity dialled bytes).events ≡ greeting auth entity dialled []

-- ---- what an acceptor makes of it

-- a half has signed, with no frame in hand and these bytes unread
pub record HasSigned (s : Standing) (more : List ℕ) : Type 0 where
  pub stage : s.stage ≡ Authed
  pub held : s.held ≡ None
  pub rest : s.rest ≡ more

-- An acceptor that is fed what an opener writes signs, whatever payload that has chosen, having written its welcome,
-- with exactly what follows unread.
abbrev pub GreetingIsSigned : Type 0
GreetingIsSigned = (auth : AuthPayload) (entity own : ℕ) (dialled seen : Addr) (more : List ℕ) → entity < 2 ^ 8 → HasAddrRanges dialled →
    (s : Standing) × HasSigned s more
    × Signs (acceptor_at_start own seen) (record { bytes = greeting auth entity dialled more; replies = []; text = welcome own seen; asks = [] }) s

-- ---- and of the ask behind it

-- the payload that asks, and its addresses
abbrev pub control_of : Ask → Control
control_of (Ident i) = control.ClientIdent i
control_of (Reconnect r) = control.SessionReconnect r

abbrev pub addrs_of : Ask → List AnyAddr
addrs_of (Ident i) = i.addrs
addrs_of (Reconnect r) = r.addrs

-- its fields keep the ranges of their types and the bounds of the profile, and its text is of bytes
pub record KeepsBounds (ask : Ask) : Type 0 where
  pub ranges : HasRanges (control_of ask)
  pub bounds : IsInBounds (control_of ask)
  pub bytes : All (λ b. b < 256) (payload.text_of (control_of ask))

-- what stands behind a greeting: the frame of an ask, and what follows it
pub record Behind : Type 0 where
  pub ask : Ask
  pub more : List ℕ

abbrev pub text_behind : Behind → List ℕ
text_behind b = frame_text (control_of b.ask) ++ b.more

-- a half owes the reply to this ask, its first, with exactly what follows it unread
pub record HasAsked (s : Standing) (b : Behind) : Type 0 where
  pub stage : s.stage ≡ Asked
  pub held : s.held ≡ None
  pub main : Addr
  pub is_main : main_of (addrs_of b.ask) ≡ Ok main
  pub peer : s.peer ≡ Some main
  pub rest : s.rest ≡ b.more

-- `ask` answers this ask; where memory runs out, it stands on the way to it
abbrev pub AskGives : Standing → Behind → AskStep → Standing → Type 0
AskGives s b (step.Asked ask) new = (bare_ask ask ≡ bare_ask b.ask) × HasAsked new b
AskGives s b step.NoMemory new = (passed : List Standing) × Quietly ask_move_of passed s new
AskGives s b _ new = ⊥

-- from there, and from wherever want of memory left it on the way, `ask` answers this ask and nothing else
abbrev pub AsksNext : Standing → Behind → Type 0
AsksNext s b = (passed : List Standing) (mid new : Standing) (result : AskStep) → Quietly ask_move_of passed s mid → AskAnswers result mid new → AskGives s b result new

-- An acceptor that is fed these bytes signs, with the ask and what follows unread; then `ask` answers this ask; and that is
-- its course.
pub record IsGreeted (own : ℕ) (seen : Addr) (bytes : List ℕ) (b : Behind) : Type 0 where
  pub signed : Standing
  pub has_signed : HasSigned signed (text_behind b)
  pub signs : Signs (acceptor_at_start own seen) (record { bytes = bytes; replies = []; text = welcome own seen; asks = [] }) signed
  pub can : can_ask signed ≡ true
  pub asks : AsksNext signed b
  pub asked : Standing
  pub has_asked : HasAsked asked b
  pub comes : Reaches (acceptor_at_start own seen) (record { bytes = bytes; replies = []; text = welcome own seen; asks = bare_ask b.ask ∷ [] }) asked

-- What an opener has written when it signed, and behind it the frame of its ask, are read by an acceptor as signed and then
-- as exactly this ask.
abbrev pub GreetingIsAsked : Type 0
GreetingIsAsked = (auth : AuthPayload) (entity own : ℕ) (dialled seen : Addr) (b : Behind) (x : Exchange) (opener : Standing) → entity < 2 ^ 8 → HasAddrRanges dialled → KeepsBounds b.ask →
    Reaches (opener_at_start auth entity dialled) x opener → is_authed opener.stage ≡ true → IsGreeted own seen (x.text ++ text_behind b) b
