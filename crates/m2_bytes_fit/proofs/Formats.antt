-- Each frame that a record composes keeps the bounds of its format, where the numbers in it do.
use Rattle.std.proofs.Common.{◌≡◌, ◌≢◌, ℕ, ◌<◌, ◌≤◌, ◌^◌, ◌⊎◌, inr, Bool, true, false, if◌then◌else◌, List, [], ◌∷◌, ◌++◌, length, refl, arith}
use Rattle.std.specs.Prelude.{pos, ◌==◌}
use Rattle.std.specs.List.{All}
use Rattle.std.specs.Int.{w16, w32, w64, to_le_bytes, cast_unsigned}
use Rattle.std.proofs.lemmas.List.Elements.{All-cons, All-append}
use Rattle.m2_feed.specs.m2_addr.declared.addr.Addr.{Addr}
use Rattle.m2_feed.specs.m2_addr.declared.addr.AnyAddr.TheVariants.{V4}
use Rattle.m2_feed.specs.m2_addr.Addr.{ipv4_text}
use Rattle.m2_feed.specs.m2_addr.Vector.{vector_text}
use Rattle.m2_feed.specs.m2_session.declared.frame.Carried.{Carried}
use Rattle.m2_feed.specs.m2_session.AnswerLaws.{IsSpeaker}
use Rattle.m2_feed.proofs.m2_session.Bounds.{are_in_bounds}
use Rattle.m2_feed.proofs.m2_session.Draws.{tell_apart}
use Rattle.m2_feed.specs.m2_control.declared.control.Control.TheVariants as control
use Rattle.m2_feed.specs.m2_control.declared.fields.TheConstants.{GREATEST_NUMBER}
use Rattle.m2_feed.specs.m2_control.Fields.{flag_byte}
use Rattle.m2_feed.specs.m2_control.Laws.{HasRanges, IsInBounds}
use Rattle.m2_feed.specs.m2_frame.Frame.{Fits, message_tag}
use Rattle.m2_feed.specs.m2_frame.declared.tag.TheConstants.{FIRST_TAG, LAST_TAG}
use Rattle.m2_feed.proofs.m2_handshake.Greeting.{no_bytes, address_bytes}
use Rattle.m2_feed.specs.m2_message.declared.header.Header.{Header}
use Rattle.m2_feed.specs.m2_message.Message.{Content, with_numbers}
use Rattle.m2_feed.specs.m2_message.HeaderText.{header_text}
use Rattle.m2_feed.proofs.m2_message.Headers.{length-header_text}
use Rattle.m2_feed.specs.m2_session.declared.answer.Answer.TheVariants as answer
use Rattle.m2_feed.specs.m2_journal.Laws.{IsWritable}
use Rattle.m2_feed.specs.m2_journal.OutFrames.{client_ident_of, server_ident_of}
use Rattle.m2_feed.specs.m2_journal.SideFacts.{SideFacts, cookie_of, speaker_of}
use Rattle.m2_feed.specs.FeedLaws.{reconnect_of}
use Rattle.m2_bytes_fit.specs.Halves.{KeepsRanges}
use Rattle.m2_bytes_fit.specs.Texts.{KeepsFields, KeepsFormat}
use Rattle.m2_bytes_fit.proofs.Sent.{IsByte, eight_bytes, ack_writable}
use Rattle.m2_feed.proofs.m2_lemmas.Bytes.{four_bytes, two_bytes}

-- ---- what is written

-- six numbers, as both idents end
abbrev six : (gid global supported required flags cookie : ℕ) → List ℕ
six gid global supported required flags cookie =
    to_le_bytes w64 gid ++ to_le_bytes w64 global ++ to_le_bytes w64 supported ++ to_le_bytes w64 required ++ to_le_bytes w64 flags ++ to_le_bytes w64 cookie

six_bytes : (a b c d e f : ℕ) → All (λ b. b < 256) (six a b c d e f)
six_bytes a b c d e f =
    let last = to_le_bytes w64 e ++ to_le_bytes w64 f in
    let three = to_le_bytes w64 d ++ last in
    let four = to_le_bytes w64 c ++ three in
    let five = to_le_bytes w64 b ++ four in
    All-append IsByte (to_le_bytes w64 a) five (eight_bytes a) (All-append IsByte (to_le_bytes w64 b) four (eight_bytes b)
    (All-append IsByte (to_le_bytes w64 c) three (eight_bytes c) (All-append IsByte (to_le_bytes w64 d) last (eight_bytes d)
    (All-append IsByte (to_le_bytes w64 e) (to_le_bytes w64 f) (eight_bytes e) (eight_bytes f)))))

vector_bytes : (a : Addr) → All (λ b. b < 256) (vector_text (V4 a ∷ []))
vector_bytes a =
    let one = ipv4_text a ++ [] in
    All-cons IsByte 2 (to_le_bytes w32 1 ++ one) (omega arith)
    (All-append IsByte (to_le_bytes w32 1) one (four_bytes 1) (All-append IsByte (ipv4_text a) [] (address_bytes a) no_bytes))

-- ---- the frame of a control payload

fits_few : (tag : ℕ) (text : List ℕ) → FIRST_TAG ≤ tag → tag ≤ LAST_TAG → (tag == message_tag) ≡ false → length text ≤ 200 →
    Fits (record { tag = tag; first = text; second = []; third = []; fourth = [] })
fits_few tag text from to other few = record {
  tag_from = from;
  tag_to = to;
  count = rw other (omega arith);
  first = rw other (omega (arith, few));
  second = rw other (omega arith);
  third = rw other (omega arith);
  fourth = rw other (omega arith);
}

few_writable : (tag : ℕ) (text : List ℕ) → FIRST_TAG ≤ tag → tag ≤ LAST_TAG → (tag == message_tag) ≡ false → length text ≤ 200 → All (λ b. b < 256) text →
    IsWritable (record { tag = tag; first = text; second = []; third = []; fourth = [] })
few_writable tag text from to other few bytes = record {
  fits = fits_few tag text from to other few;
  bytes = record { first = bytes; second = no_bytes; third = no_bytes; fourth = no_bytes };
}

number_writable : (tag n : ℕ) → FIRST_TAG ≤ tag → tag ≤ LAST_TAG → (tag == message_tag) ≡ false →
    IsWritable (record { tag = tag; first = to_le_bytes w64 n; second = []; third = []; fourth = [] })
number_writable tag n from to other = few_writable tag (to_le_bytes w64 n) from to other (omega arith) (eight_bytes n)

-- ---- idents

-- what a node says of itself keeps its bounds, whichever numbers it carries
speaks : (f : SideFacts) → KeepsRanges f → IsSpeaker (speaker_of f)
speaks f k = record { ranges = k.mine; kind = k.kind; place = omega (arith, k.place); supports = k.supports; requires_ = k.requires_ }

module _ (f : SideFacts) (k : KeepsRanges f) (cookie global : ℕ) (below : cookie < 2 ^ 64) (some : (f.policy.lossy ≡ true) ⊎ (cookie ≢ 0)) (few : global ≤ GREATEST_NUMBER) where
  abbrev carried : Carried
  carried = record { cookie = cookie; global = global; last = 0 }

  bounds : HasRanges (server_ident_of f cookie global) × IsInBounds (server_ident_of f cookie global)
  bounds = are_in_bounds (speaker_of f) carried answer.Accept (speaks f k) (record { cookie = below; some = some; global = few; last = omega arith }) tt

  pub server_ident_keeps : KeepsFormat (server_ident_of f cookie global)
  server_ident_keeps =
      let t = six (cast_unsigned w64 (pos f.node.number)) global f.node.supports f.node.requires_ (if f.policy.lossy then 1 else 0) cookie in
      let all = six_bytes (cast_unsigned w64 (pos f.node.number)) global f.node.supports f.node.requires_ (if f.policy.lossy then 1 else 0) cookie in
      record {
        writable =
            few_writable 9 (vector_text (V4 f.mine ∷ []) ++ t) (omega arith) (omega arith) refl (omega arith)
            (All-append IsByte (vector_text (V4 f.mine ∷ [])) (t) (vector_bytes f.mine) all);
        ranges = bounds.0;
        bounds = bounds.1;
      }

  pub client_ident_keeps : KeepsFormat (client_ident_of f cookie global)
  client_ident_keeps =
      let t = six (cast_unsigned w64 (pos f.node.number)) global f.node.supports f.node.requires_ (if f.policy.lossy then 1 else 0) cookie in
      let all = six_bytes (cast_unsigned w64 (pos f.node.number)) global f.node.supports f.node.requires_ (if f.policy.lossy then 1 else 0) cookie in
      record {
        writable =
            few_writable 8 (vector_text (V4 f.mine ∷ []) ++ (ipv4_text f.peer ++ t)) (omega arith) (omega arith) refl (omega arith)
            (All-append IsByte (vector_text (V4 f.mine ∷ [])) (ipv4_text f.peer ++ t) (vector_bytes f.mine)
            (All-append IsByte (ipv4_text f.peer) (t) (address_bytes f.peer) all));
        ranges = (bounds.0.0, k.peer, bounds.0.1);
        bounds = bounds.1;
      }

-- ---- a reconnect

pub reconnect_keeps : (f : SideFacts) → KeepsRanges f → (client server global connect seen : ℕ) → client < 2 ^ 64 → client ≢ 0 → server < 2 ^ 64 → server ≢ 0 →
    global ≤ GREATEST_NUMBER → connect ≤ GREATEST_NUMBER → seen ≤ GREATEST_NUMBER → KeepsFormat (reconnect_of f client server global connect seen)
reconnect_keeps f k client server global connect seen c some_c s some_s g n l =
    let its = bounds f k 1 0 (omega arith) (inr (λ e. cc)) (omega arith) in
    let numbers = to_le_bytes w64 global ++ (to_le_bytes w64 connect ++ to_le_bytes w64 seen) in
    record {
      writable =
          few_writable 11 (vector_text (V4 f.mine ∷ []) ++ (to_le_bytes w64 client ++ (to_le_bytes w64 server ++ numbers))) (omega arith) (omega arith) refl (omega arith)
          (All-append IsByte (vector_text (V4 f.mine ∷ [])) (to_le_bytes w64 client ++ (to_le_bytes w64 server ++ numbers)) (vector_bytes f.mine)
          (All-append IsByte (to_le_bytes w64 client) (to_le_bytes w64 server ++ numbers) (eight_bytes client)
          (All-append IsByte (to_le_bytes w64 server) numbers (eight_bytes server)
          (All-append IsByte (to_le_bytes w64 global) (to_le_bytes w64 connect ++ to_le_bytes w64 seen) (eight_bytes global)
          (All-append IsByte (to_le_bytes w64 connect) (to_le_bytes w64 seen) (eight_bytes connect) (eight_bytes seen))))));
      ranges = (its.0.0, c, s, omega (arith, g), omega (arith, n), omega (arith, l));
      bounds = (its.1.0, some_c, some_s, g, n, l);
    }

-- ---- the other answers

pub reset_keeps : (full : Bool) → KeepsFormat (control.SessionReset (record { full = full }))
reset_keeps full = record {
  writable = few_writable 12 (flag_byte full ∷ []) (omega arith) (omega arith) refl (omega arith) (All-cons IsByte (flag_byte full) [] (one full) no_bytes);
  ranges = tt;
  bounds = tt;
}
  where
    one : (b : Bool) → flag_byte b < 256
    one true = omega arith
    one false = omega arith

pub retry_keeps : (n : ℕ) → n < 2 ^ 64 → KeepsFormat (control.SessionRetry (record { connect = n }))
retry_keeps n h = record { writable = number_writable 13 n (omega arith) (omega arith) refl; ranges = h; bounds = tt }

pub retry_global_keeps : (n : ℕ) → n ≤ GREATEST_NUMBER → KeepsFormat (control.SessionRetryGlobal (record { global = n }))
retry_global_keeps n h = record { writable = number_writable 14 n (omega arith) (omega arith) refl; ranges = omega (arith, h); bounds = h }

pub reconnect_ok_keeps : (n : ℕ) → n ≤ GREATEST_NUMBER → KeepsFormat (control.SessionReconnectOk (record { seen = n }))
reconnect_ok_keeps n h = record { writable = number_writable 15 n (omega arith) (omega arith) refl; ranges = omega (arith, h); bounds = h }

pub wait_keeps : KeepsFormat (control.Wait (record {}))
wait_keeps = record { writable = few_writable 16 [] (omega arith) (omega arith) refl (omega arith) no_bytes; ranges = tt; bounds = tt }

pub ack_keeps : (n : ℕ) → n ≤ GREATEST_NUMBER → KeepsFormat (control.Ack (record { seen = n }))
ack_keeps n h = record { writable = ack_writable n; ranges = omega (arith, h); bounds = h }

-- ---- a message

pub header_bytes : (h : Header) → h.flags < 2 ^ 8 → All (λ b. b < 256) (header_text h)
unfolding header_text
header_bytes h below =
    let reserved = to_le_bytes w16 h.reserved in
    let compat = to_le_bytes w16 h.compat ++ reserved in
    let flags = h.flags ∷ compat in
    let ack = to_le_bytes w64 h.ack_seq ++ flags in
    let offset = to_le_bytes w16 h.data_off ++ ack in
    let padding = to_le_bytes w32 h.pre_padding ++ offset in
    let version = to_le_bytes w16 h.version ++ padding in
    let priority = to_le_bytes w16 h.priority ++ version in
    let kind = to_le_bytes w16 h.kind ++ priority in
    let tid = to_le_bytes w64 h.tid ++ kind in
    All-append IsByte (to_le_bytes w64 h.seq) tid (eight_bytes h.seq) (All-append IsByte (to_le_bytes w64 h.tid) kind (eight_bytes h.tid)
    (All-append IsByte (to_le_bytes w16 h.kind) priority (two_bytes h.kind) (All-append IsByte (to_le_bytes w16 h.priority) version (two_bytes h.priority)
    (All-append IsByte (to_le_bytes w16 h.version) padding (two_bytes h.version) (All-append IsByte (to_le_bytes w32 h.pre_padding) offset (four_bytes h.pre_padding)
    (All-append IsByte (to_le_bytes w16 h.data_off) ack (two_bytes h.data_off) (All-append IsByte (to_le_bytes w64 h.ack_seq) flags (eight_bytes h.ack_seq)
    (All-cons IsByte h.flags compat (omega (arith, below)) (All-append IsByte (to_le_bytes w16 h.compat) reserved (two_bytes h.compat) (two_bytes h.reserved))))))))))

-- it keeps its fields whichever two numbers the runtime writes into it
pub numbered_keeps : (m : Content) → KeepsFields m → (number acked : ℕ) → number < 2 ^ 64 → acked < 2 ^ 64 → KeepsFields (with_numbers number acked m)
numbered_keeps m k number acked n a =
    let h = (with_numbers number acked m).header in
    let fits = k.writable.fits in
    let bytes = k.writable.bytes in
    let old = k.fields in
    record {
      writable = record {
        fits = record { tag_from = fits.tag_from; tag_to = fits.tag_to; count = fits.count; first = omega (arith, length-header_text h); second = fits.second; third = fits.third; fourth = fits.fourth };
        bytes = record { first = header_bytes h old.flags; second = bytes.second; third = bytes.third; fourth = bytes.fourth };
      };
      fields = record { seq = n; tid = old.tid; kind = old.kind; priority = old.priority; version = old.version; pre_padding = old.pre_padding; data_off = old.data_off; ack_seq = a; flags = old.flags; compat = old.compat; reserved = old.reserved };
    }

-- ---- the cookie that is drawn

pub drawn_below : (f : SideFacts) → KeepsRanges f → f.policy.lossy ≡ false → f.node.salt < 2 ^ 16 → (n : ℕ) → cookie_of f n < 2 ^ 64
drawn_below f k keeps salt n = rw keeps (omega (arith, k.place, salt))

pub drawn_some : (f : SideFacts) → f.policy.lossy ≡ false → (n : ℕ) → cookie_of f n ≢ 0
drawn_some f keeps n e = tell_apart.some (record { place = f.node.number; salt = f.node.salt; number = n }) (rw keeps at e)
