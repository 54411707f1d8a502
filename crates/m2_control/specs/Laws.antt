-- Which payloads are read again as they are written, and the banner. Each value keeps the ranges of its fields'
-- types; the bounds beside them are this project's profile.
use Rattle.std.specs.Prelude.{◌≡◌, ◌≢◌, ℕ, ◌<◌, ◌≤◌, ◌^◌, ◌↔◌, true, false, List, ◌++◌, Ok, Err, FitsSigned}
use Rattle.std.specs.List.{AllByRecursion}
use Rattle.std.specs.Int.{w32, w64}
use Rattle.m2_addr.specs.declared.addr.Addr.{Addr}
use Rattle.m2_addr.specs.declared.addr.AnyAddr.{AnyAddr}
use Rattle.m2_addr.specs.declared.addr.AnyAddr.TheVariants.{V4, Other}
use Rattle.m2_addr.specs.Vector.{IsKept}
use Rattle.m2_control.specs.declared.fields.TheConstants.{GREATEST_NUMBER}
use Rattle.m2_control.specs.declared.banner.Banner.{Banner}
use Rattle.m2_control.specs.declared.banner.BannerStep.{BannerStep}
use Rattle.m2_control.specs.declared.banner.BannerStep.TheVariants.{Got}
use Rattle.m2_control.specs.declared.client_ident.ClientIdent.{ClientIdent}
use Rattle.m2_control.specs.declared.server_ident.ServerIdent.{ServerIdent}
use Rattle.m2_control.specs.declared.ident.Tail.{Tail}
use Rattle.m2_frame.specs.declared.tag.Tag.{Tag}
use Rattle.m2_frame.specs.Tags.{is_negotiated}
use Rattle.m2_control.specs.declared.fault.ControlFault.TheVariants.{NotNegotiated}
use Rattle.m2_control.specs.declared.control.Control.{Control}
use Rattle.m2_control.specs.declared.control.Control.TheVariants as control
use Rattle.m2_control.specs.Banner.{IsStep, banner_in, banner_text}
use Rattle.m2_control.specs.Fields.{has_main}
use Rattle.m2_control.specs.Ident.{keeps_cookie}
use Rattle.m2_control.specs.Control.{Spells, IsWritable, bare, tag_of, text_of, payload_of}

-- ---- the ranges of the types

abbrev pub HasAddrRanges : Addr → Type 0
HasAddrRanges a = (a.kind < 2 ^ 32) × (a.nonce < 2 ^ 32) × (a.ip < 2 ^ 32) × (a.port < 2 ^ 16)

abbrev pub HasAnyRanges : AnyAddr → Type 0
HasAnyRanges (V4 a) = HasAddrRanges a
HasAnyRanges (Other b) = Unit {0}

abbrev pub HasTailRanges : Tail → Type 0
HasTailRanges t = FitsSigned w64 t.gid × (t.global < 2 ^ 64) × (t.supported < 2 ^ 64) × (t.required < 2 ^ 64) × (t.flags < 2 ^ 64) × (t.cookie < 2 ^ 64)

abbrev pub AreWords : List ℕ → Type 0
AreWords = AllByRecursion (λ n. n < 2 ^ 32)

abbrev pub client_tail : ClientIdent → Tail
client_tail p = record { gid = p.gid; global = p.global; supported = p.supported; required = p.required; flags = p.flags; cookie = p.cookie }

abbrev pub server_tail : ServerIdent → Tail
server_tail p = record { gid = p.gid; global = p.global; supported = p.supported; required = p.required; flags = p.flags; cookie = p.cookie }

-- what each payload of the program keeps by its types; of a vector it is what every vector keeps
abbrev pub HasRanges : Control → Type 0
HasRanges (control.Hello p) = (p.entity < 2 ^ 8) × HasAnyRanges p.seen
HasRanges (control.AuthRequest p) = (p.method < 2 ^ 32) × AreWords p.modes.items
HasRanges (control.AuthBadMethod p) = (p.method < 2 ^ 32) × FitsSigned w32 p.outcome × AreWords p.methods.items × AreWords p.modes.items
HasRanges (control.AuthDone p) = (p.global_id < 2 ^ 64) × (p.mode < 2 ^ 32)
HasRanges (control.AuthSignature p) = Unit {0}
HasRanges (control.ClientIdent p) = IsKept p.addrs × HasAddrRanges p.target × HasTailRanges (client_tail p)
HasRanges (control.ServerIdent p) = IsKept p.addrs × HasTailRanges (server_tail p)
HasRanges (control.IdentMissingFeatures p) = p.bits < 2 ^ 64
HasRanges (control.SessionReconnect p) = IsKept p.addrs × (p.client < 2 ^ 64) × (p.server < 2 ^ 64) × (p.global < 2 ^ 64) × (p.connect < 2 ^ 64) × (p.seen < 2 ^ 64)
HasRanges (control.SessionReset p) = Unit {0}
HasRanges (control.SessionRetry p) = p.connect < 2 ^ 64
HasRanges (control.SessionRetryGlobal p) = p.global < 2 ^ 64
HasRanges (control.SessionReconnectOk p) = p.seen < 2 ^ 64
HasRanges (control.Wait p) = Unit {0}
HasRanges (control.Keepalive p) = (p.seconds < 2 ^ 32) × (p.nanos < 2 ^ 32)
HasRanges (control.KeepaliveAck p) = (p.seconds < 2 ^ 32) × (p.nanos < 2 ^ 32)
HasRanges (control.Ack p) = p.seen < 2 ^ 64

-- ---- the bounds of the profile

-- A vector has a main address, global, connect and seen are at most 2 ^ 40, the cookies of a reconnect aren't 0, and
-- a session that isn't lossy has a cookie. Of every other payload it is what can be written.
abbrev pub IsInBounds : Control → Type 0
IsInBounds (control.ClientIdent p) = (has_main p.addrs ≡ true) × (p.global ≤ GREATEST_NUMBER) × (keeps_cookie (client_tail p) ≡ true)
IsInBounds (control.ServerIdent p) = (has_main p.addrs ≡ true) × (p.global ≤ GREATEST_NUMBER) × (keeps_cookie (server_tail p) ≡ true)
IsInBounds (control.SessionReconnect p) = (has_main p.addrs ≡ true) × (p.client ≢ 0) × (p.server ≢ 0) × (p.global ≤ GREATEST_NUMBER) × (p.connect ≤ GREATEST_NUMBER) × (p.seen ≤ GREATEST_NUMBER)
IsInBounds (control.SessionRetry p) = p.connect ≤ GREATEST_NUMBER
IsInBounds (control.SessionRetryGlobal p) = p.global ≤ GREATEST_NUMBER
IsInBounds (control.SessionReconnectOk p) = p.seen ≤ GREATEST_NUMBER
IsInBounds (control.Ack p) = p.seen ≤ GREATEST_NUMBER
IsInBounds other = IsWritable other

-- ---- the laws

-- A tag of an exchange that this profile doesn't negotiate has no payload that is read.
abbrev pub OthersAreRefused : Type 0
OthersAreRefused = (t : Tag) (bytes : List ℕ) → is_negotiated t ≡ false → payload_of t bytes ≡ Err NotNegotiated

-- what is written of a payload is a text of it, and reading it gives the payload
pub record IsReadAgain (c : Control) : Type 0 where
  pub spelled : Spells c (text_of c)
  pub read : payload_of (tag_of c) (text_of c) ≡ Ok (bare c)

abbrev pub WrittenIsRead : Type 0
WrittenIsRead = (c : Control) → HasRanges c → IsInBounds c → IsReadAgain c

-- Each step is that of the bytes exactly where the function gives it.
abbrev pub BannerIsAFunction : Type 0
BannerIsAFunction = (step : BannerStep) (bytes : List ℕ) → IsStep step bytes ↔ (step ≡ banner_in bytes)

-- The banner that is written is the only step that its text is, whatever follows it.
abbrev pub BannerIsRead : Type 0
BannerIsRead = (b : Banner) (more : List ℕ) (step : BannerStep) → b.supported < 2 ^ 64 → b.required < 2 ^ 64 → IsStep step (banner_text b ++ more) → step ≡ Got b 26
