-- An acceptor reads what an opener writes, step by step.
use Rattle.std.proofs.Common.{◌≡◌, ℕ, ◌<◌, ◌^◌, Bool, if◌then◌else◌, List, [], ◌∷◌, ◌++◌, length, Option, Some, None, Ok, refl, ap, ◌∙◌, arith, append-nil}
use Rattle.std.specs.List.{All}
use Rattle.std.specs.Int.{w16, w32, to_le_bytes, to_be_bytes}
use Rattle.std.proofs.lemmas.List.Elements.{All-from_recursion, All-cons, All-append}
use Rattle.std.proofs.Math.Seq.{drop-append_seam}
use Rattle.m2_addr.specs.declared.addr.Addr.{Addr}
use Rattle.m2_addr.specs.Addr.{ipv4_text}
use Rattle.m2_control.specs.declared.banner.BannerStep.{BannerStep}
use Rattle.m2_control.specs.declared.banner.BannerStep.TheVariants.{Got}
use Rattle.m2_control.specs.declared.control.Control.{Control}
use Rattle.m2_control.specs.Banner.{banner_in, banner_text}
use Rattle.m2_control.specs.Control as payload
use Rattle.m2_control.specs.Laws.{HasAddrRanges, HasRanges, IsInBounds}
use Rattle.m2_control.proofs.Written.{written_is_read, banner_is_read}
use Rattle.m2_frame.specs.Frame.{Parts, Fits, message_tag}
use Rattle.m2_frame.specs.Grammar.{AreBytes}
use Rattle.m2_policy.specs.declared.rules.AuthPayload.{AuthPayload}
use Rattle.m2_policy.specs.declared.rules.AuthPayload.TheVariants.{Empty, Authorizer}
use Rattle.m2_handshake.specs.declared.fault.HalfFault.TheVariants as fault
use Rattle.m2_handshake.specs.declared.stage.Awaited.{Awaited}
use Rattle.m2_handshake.specs.declared.stage.Awaited.TheVariants.{Hello, Request, Signature}
use Rattle.m2_handshake.specs.declared.stage.HalfSide.TheVariants.{Acceptor}
use Rattle.m2_handshake.specs.declared.stage.Stage.{Stage}
use Rattle.m2_handshake.specs.declared.stage.Stage.TheVariants.{Banner, Waits, Authed}
use Rattle.m2_handshake.specs.declared.texts.TheConstants.{NONE, CRC}
use Rattle.m2_handshake.specs.Course.{silent, wrote, goes, step_by, step_of, course_move, text_of, Signs}
use Rattle.m2_handshake.specs.Greeting.{greeting, welcome, GreetingIsSigned}
use Rattle.m2_handshake.specs.Moves.{features, after_banner, take_frame, after_reaction}
use Rattle.m2_handshake.specs.Reading.{Found, refused, framed, found_in, of_payload, payload_in}
use Rattle.m2_handshake.specs.Standing.{Standing, fed, acceptor_at_start}
use Rattle.m2_handshake.specs.Steps.{Reaction, says, listens, signed, after_payload, after_frame}
use Rattle.m2_handshake.specs.Texts.{control_parts, frame_text, hello, auth_bytes, request, done, signature}
use Rattle.m2_handshake.proofs.Banners.{is_step}
use Rattle.m2_handshake.proofs.Sizes.{found_sent, isnt_message}
use Rattle.m2_bytes.proofs.m2_lemmas.Bytes.{four_bytes, two_bytes, four_bytes_turned, two_bytes_turned, eight_zeros as zeros, eight_zeros_before}

abbrev IsByte : ℕ → Type 0
IsByte b = b < 256

pub no_bytes : All (λ b. b < 256) []
no_bytes = All-from_recursion IsByte [] tt

pub address_bytes : (a : Addr) → All (λ b. b < 256) (ipv4_text a)
address_bytes a =
    let ip = to_be_bytes w32 a.ip ++ 0 ∷ 0 ∷ 0 ∷ 0 ∷ 0 ∷ 0 ∷ 0 ∷ 0 ∷ [] in
    let port = to_be_bytes w16 a.port ++ ip in
    let family = to_le_bytes w16 2 ++ port in
    let size = to_le_bytes w32 16 ++ family in
    let nonce = to_le_bytes w32 a.nonce ++ size in
    let kind = to_le_bytes w32 a.kind ++ nonce in
    let body = to_le_bytes w32 28 ++ kind in
    All-cons IsByte 1 (1 ∷ 1 ∷ body) (omega arith) (All-cons IsByte 1 (1 ∷ body) (omega arith) (All-cons IsByte 1 body (omega arith)
    (All-append IsByte (to_le_bytes w32 28) kind (four_bytes 28) (All-append IsByte (to_le_bytes w32 a.kind) nonce (four_bytes a.kind)
    (All-append IsByte (to_le_bytes w32 a.nonce) size (four_bytes a.nonce) (All-append IsByte (to_le_bytes w32 16) family (four_bytes 16)
    (All-append IsByte (to_le_bytes w16 2) port (two_bytes 2) (All-append IsByte (to_be_bytes w16 a.port) ip (two_bytes_turned a.port)
    (All-append IsByte (to_be_bytes w32 a.ip) (0 ∷ 0 ∷ 0 ∷ 0 ∷ 0 ∷ 0 ∷ 0 ∷ 0 ∷ []) (four_bytes_turned a.ip) zeros)))))))))

-- a payload whose frame is read as it was written
pub record IsSent (c : Control) : Type 0 where
  pub fits : Fits (control_parts c)
  pub bytes : AreBytes (control_parts c)
  pub read : payload_in (payload.tag_of c) (payload.text_of c) ≡ Ok (payload.bare c)

pub payload_read : (c : Control) → HasRanges c → IsInBounds c → payload_in (payload.tag_of c) (payload.text_of c) ≡ Ok (payload.bare c)
payload_read c r b = ap of_payload (written_is_read c r b).read

pub hello_sent : (entity : ℕ) (a : Addr) → entity < 2 ^ 8 → HasAddrRanges a → IsSent (hello entity a)
hello_sent entity a e h = record {
  fits = record { tag_from = omega arith; tag_to = omega arith; count = omega arith; first = omega arith; second = omega arith; third = omega arith; fourth = omega arith };
  bytes = record { first = All-cons IsByte entity (ipv4_text a) (omega (arith, e)) (address_bytes a); second = no_bytes; third = no_bytes; fourth = no_bytes };
  read = payload_read (hello entity a) (e, h) tt;
}

-- the payload of AUTH_REQUEST, and in front of it the method, the modes and its length
payload_bytes : (auth : AuthPayload) → All (λ b. b < 256) (auth_bytes auth)
payload_bytes Empty = no_bytes
payload_bytes Authorizer =
    let seven : List ℕ = 0 ∷ 0 ∷ 0 ∷ 0 ∷ 0 ∷ 0 ∷ 0 ∷ [] in
    let fifteen : List ℕ = 0 ∷ 0 ∷ 0 ∷ 0 ∷ 0 ∷ 0 ∷ 0 ∷ 0 ∷ seven in
    All-cons IsByte 1 (8 ∷ fifteen) (omega arith) (All-cons IsByte 8 fifteen (omega arith)
    (eight_zeros_before seven (All-from_recursion IsByte seven (omega arith, (omega arith, (omega arith, (omega arith, (omega arith, (omega arith, (omega arith, tt))))))))))

request_bytes : (auth : AuthPayload) → All (λ b. b < 256) (payload.text_of (request auth))
request_bytes auth =
    let size = to_le_bytes w32 (length (auth_bytes auth)) ++ auth_bytes auth in
    let mode = to_le_bytes w32 CRC ++ [] in
    let modes = to_le_bytes w32 1 ++ mode in
    let method = to_le_bytes w32 NONE in
    All-append IsByte (method ++ modes) size (All-append IsByte method modes (four_bytes NONE) (All-append IsByte (to_le_bytes w32 1) mode (four_bytes 1) (All-append IsByte (to_le_bytes w32 CRC) [] (four_bytes CRC) no_bytes)))
    (All-append IsByte (to_le_bytes w32 (length (auth_bytes auth))) (auth_bytes auth) (four_bytes (length (auth_bytes auth))) (payload_bytes auth))

request_sent : (auth : AuthPayload) → IsSent (request auth)
request_sent Empty = record {
  fits = record { tag_from = omega arith; tag_to = omega arith; count = omega arith; first = omega arith; second = omega arith; third = omega arith; fourth = omega arith };
  bytes = record { first = request_bytes Empty; second = no_bytes; third = no_bytes; fourth = no_bytes };
  read = payload_read (request Empty) (omega arith, (omega arith, tt)) (omega arith, omega arith);
}
request_sent Authorizer = record {
  fits = record { tag_from = omega arith; tag_to = omega arith; count = omega arith; first = omega arith; second = omega arith; third = omega arith; fourth = omega arith };
  bytes = record { first = request_bytes Authorizer; second = no_bytes; third = no_bytes; fourth = no_bytes };
  read = payload_read (request Authorizer) (omega arith, (omega arith, tt)) (omega arith, omega arith);
}

signature_bytes : All (λ b. b < 256) (payload.text_of signature)
signature_bytes =
    let eight = 0 ∷ 0 ∷ 0 ∷ 0 ∷ 0 ∷ 0 ∷ 0 ∷ 0 ∷ [] in
    let sixteen = 0 ∷ 0 ∷ 0 ∷ 0 ∷ 0 ∷ 0 ∷ 0 ∷ 0 ∷ eight in
    let most = 0 ∷ 0 ∷ 0 ∷ 0 ∷ 0 ∷ 0 ∷ 0 ∷ 0 ∷ sixteen in
    eight_zeros_before most (eight_zeros_before sixteen (eight_zeros_before eight zeros))

pub signature_sent : IsSent signature
signature_sent = record {
  fits = record { tag_from = omega arith; tag_to = omega arith; count = omega arith; first = omega arith; second = omega arith; third = omega arith; fourth = omega arith };
  bytes = record { first = signature_bytes; second = no_bytes; third = no_bytes; fourth = no_bytes };
  read = payload_read signature tt refl;
}

-- it is found whole
pub frame_found : (c : Control) (more : List ℕ) → IsSent c → found_in (frame_text c ++ more) ≡ framed (control_parts c) (length (frame_text c))
frame_found c more k =
    found_sent (control_parts c) more k.fits k.bytes
    ∙ ap (λ (b : Bool). if b then refused (fault.Unexpected message_tag) else framed (control_parts c) (length (frame_text c))) (isnt_message c)

-- ---- steps

abbrev pub at : ℕ → Addr → Stage → Option Parts → List ℕ → Standing
at own seen stage held rest = record { side = Acceptor; auth = Empty; entity = own; seen = seen; stage = stage; peer = None; held = held; rest = rest }

-- the banner is passed, and HELLO is written
greets : (own : ℕ) (seen : Addr) (more : List ℕ) → step_of (at own seen Banner None (banner_text features ++ more)) ≡ goes (wrote (frame_text (hello own seen))) (at own seen (Waits Hello) None more)
greets own seen more =
    let s = at own seen Banner None (banner_text features ++ more) in
    let b : banner_in (banner_text features ++ more) ≡ Got features 26 = banner_is_read features more (banner_in (banner_text features ++ more)) (omega arith) (omega arith) (is_step (banner_text features ++ more)) in
    ap (λ (x : BannerStep). step_by (after_banner s x) s) b
    ∙ ap (λ (r : List ℕ). goes (wrote (frame_text (hello own seen))) (at own seen (Waits Hello) None r)) (drop-append_seam (banner_text features) more)

takes : (own : ℕ) (seen : Addr) (awaited : Awaited) (c : Control) (more : List ℕ) → IsSent c →
    step_of (at own seen (Waits awaited) None (frame_text c ++ more)) ≡ goes silent (at own seen (Waits awaited) (Some (control_parts c)) more)
takes own seen awaited c more k =
    let s = at own seen (Waits awaited) None (frame_text c ++ more) in
    ap (λ (x : Found). step_by (take_frame s x) s) (frame_found c more k)
    ∙ ap (λ (r : List ℕ). goes silent (at own seen (Waits awaited) (Some (control_parts c)) r)) (drop-append_seam (frame_text c) more)

reads_hello : (entity : ℕ) (a : Addr) → IsSent (hello entity a) → after_frame Empty Acceptor Hello (control_parts (hello entity a)) ≡ listens Request
reads_hello entity a k = ap (after_payload Empty Acceptor Hello) k.read

reads_request : (auth : AuthPayload) → after_frame Empty Acceptor Request (control_parts (request auth)) ≡ says Signature (frame_text done ++ frame_text signature)
reads_request auth = ap (after_payload Empty Acceptor Request) (request_sent auth).read

reads_signature : after_frame Empty Acceptor Signature (control_parts signature) ≡ signed
reads_signature = ap (after_payload Empty Acceptor Signature) signature_sent.read

reacts : (own : ℕ) (seen : Addr) (awaited : Awaited) (f : Parts) (more : List ℕ) (r : Reaction) → after_frame Empty Acceptor awaited f ≡ r →
    course_move (at own seen (Waits awaited) (Some f) more) ≡ after_reaction (at own seen (Waits awaited) (Some f) more) r
reacts own seen awaited f more r e = ap (after_reaction (at own seen (Waits awaited) (Some f) more)) e

opens : (own : ℕ) (seen : Addr) (bytes : List ℕ) → step_of (fed (acceptor_at_start own seen) bytes) ≡ goes (wrote (banner_text features)) (at own seen Banner None bytes)
opens own seen bytes = refl

told : (first second third : List ℕ) → text_of (wrote first ∷ wrote second ∷ silent ∷ silent ∷ silent ∷ wrote third ∷ silent ∷ []) ≡ first ++ (second ++ third)
told first second third = ap (λ l. first ++ (second ++ l)) (append-nil third)

pub signs_there : (auth : AuthPayload) (entity own : ℕ) (dialled seen : Addr) (more : List ℕ) → entity < 2 ^ 8 → HasAddrRanges dialled →
    Signs (acceptor_at_start own seen) (record { bytes = greeting auth entity dialled more; replies = []; text = welcome own seen; asks = [] }) (at own seen Authed None more)
signs_there auth entity own dialled seen more e h =
    let sent = hello_sent entity dialled e h in
    let third = frame_text signature ++ more in
    let second = frame_text (request auth) ++ third in
    let first = frame_text (hello entity dialled) ++ second in
    let listening = at own seen (Waits Hello) (Some (control_parts (hello entity dialled))) second in
    let asked = at own seen (Waits Request) (Some (control_parts (request auth))) third in
    let last = at own seen (Waits Signature) (Some (control_parts signature)) more in (
      last,
      record {
        events = wrote (banner_text features) ∷ wrote (frame_text (hello own seen)) ∷ silent ∷ silent ∷ silent ∷ wrote (frame_text done ++ frame_text signature) ∷ silent ∷ [];
        runs = (
          at own seen Banner None (banner_text features ++ first),
          opens own seen (banner_text features ++ first),
          (
            at own seen (Waits Hello) None first,
            greets own seen first,
            (
              listening,
              takes own seen Hello (hello entity dialled) second sent,
              (
                at own seen (Waits Request) None second,
                ap (λ m. step_by m listening) (reacts own seen Hello (control_parts (hello entity dialled)) second (listens Request) (reads_hello entity dialled sent)),
                (
                  asked,
                  takes own seen Request (request auth) third (request_sent auth),
                  (
                    at own seen (Waits Signature) None third,
                    ap (λ m. step_by m asked) (reacts own seen Request (control_parts (request auth)) third (says Signature (frame_text done ++ frame_text signature)) (reads_request auth)),
                    (last, takes own seen Signature signature more signature_sent, refl),
                  ),
                ),
              ),
            ),
          ),
        );
        replies = refl;
        text = told (banner_text features) (frame_text (hello own seen)) (frame_text done ++ frame_text signature);
        asks = refl;
      },
      reacts own seen Signature (control_parts signature) more signed reads_signature,
    )

pub greeting_is_signed : GreetingIsSigned
greeting_is_signed auth entity own dialled seen more e h = (at own seen Authed None more, record { stage = refl; held = refl; rest = refl }, signs_there auth entity own dialled seen more e h)
