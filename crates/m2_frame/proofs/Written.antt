-- What is written for a frame that fits is its text as the format's tables give it.
use Rattle.std.proofs.Common.{◌≡◌, ℕ, ◌<◌, ◌≤◌, ltb, List, [], ◌∷◌, ◌++◌, length, take, refl, sym, ap, ◌∙◌, arith, append_assoc}
use Rattle.std.specs.Prelude.{◌==◌}
use Rattle.std.specs.List.{All}
use Rattle.std.specs.Int.{w16, w32, to_le_bytes, from_le_bytes}
use Rattle.std.proofs.lemmas.Bool.{lt-ltb, le-ltb, cond-true, cond-false, cond_both}
use Rattle.std.proofs.lemmas.List.{length-append, append-nil, take_at, take_all, drop_at}
use Rattle.std.proofs.lemmas.List.Elements.{All-from_recursion, All-cons, All-append}
use Rattle.std.proofs.lemmas.Nat.{from_le_bytes-to_le_bytes_4}
use Rattle.m2_crc.specs.Crc.{crc_of}
use Rattle.m2_frame.specs.declared.preamble.Preamble.{Preamble}
use Rattle.m2_frame.specs.declared.encoding.TheConstants.{COMPLETE}
use Rattle.m2_frame.specs.declared.frame.TheConstants.{CONTROL_LIMIT, MESSAGE_LIMIT}
use Rattle.m2_frame.specs.Frame.{Parts, count_of, message_tag, segment_limit, Fits}
use Rattle.m2_frame.specs.Preamble.{number_at, preamble_of, alignment, descriptor, preamble_body, preamble_text}
use Rattle.m2_frame.specs.Text.{segment_crc, crc_field, first_text, epilogue_field, epilogue, later_text, text_of}
use Rattle.m2_frame.specs.Grammar.{IsPreambleText, IsChecksumText, IsFirstText, IsEpilogueText, IsLaterText, IsFrameText, AreBytes}
use Rattle.m2_frame.proofs.Checksums.{crc_of-below, segment_crc-below}
use Rattle.m2_frame.proofs.Preambles.{IsAllowed, allowed-fits}
use Rattle.m2_bytes.proofs.m2_lemmas.Bytes.{four_bytes, two_bytes}

abbrev IsByte : ℕ → Type 0
IsByte b = b < 256

-- ---- the preamble

descriptor_bytes : (len aligned : ℕ) → All (λ b. b < 256) (descriptor len aligned)
descriptor_bytes len aligned = All-append IsByte (to_le_bytes w32 len) (to_le_bytes w16 aligned) (four_bytes len) (two_bytes aligned)

body_bytes : (p : Preamble) → p.tag < 256 → p.count < 256 → All (λ b. b < 256) (preamble_body p)
body_bytes p t n =
    let a = descriptor p.first (alignment p 0) in
    let b = descriptor p.second (alignment p 1) in
    let c = descriptor p.third (alignment p 2) in
    let d = descriptor p.fourth (alignment p 3) in
    let z : List ℕ = 0 ∷ 0 ∷ [] in
    let rest : List ℕ = a ++ b ++ c ++ d ++ z in
    All-cons IsByte p.tag (p.count ∷ rest) t
    (All-cons IsByte p.count rest n
    (All-append IsByte (a ++ b ++ c ++ d) z
    (All-append IsByte (a ++ b ++ c) d
    (All-append IsByte (a ++ b) c
    (All-append IsByte a b (descriptor_bytes p.first (alignment p 0)) (descriptor_bytes p.second (alignment p 1)))
    (descriptor_bytes p.third (alignment p 2)))
    (descriptor_bytes p.fourth (alignment p 3)))
    (All-from_recursion IsByte z (omega arith, (omega arith, tt)))))

limit_is_small : (tag : ℕ) → segment_limit tag ≤ MESSAGE_LIMIT
limit_is_small tag = cond_both (tag == message_tag) MESSAGE_LIMIT CONTROL_LIMIT (λ (n : ℕ). n ≤ MESSAGE_LIMIT) (λ _. omega arith) (λ _. omega arith)

read_back : (n most : ℕ) → n ≤ most → most ≤ MESSAGE_LIMIT → from_le_bytes w32 (to_le_bytes w32 n) ≡ n
read_back n most h small = from_le_bytes-to_le_bytes_4 n (omega (arith, h, small))

preamble_written : (p : Preamble) → IsAllowed p → IsPreambleText p (preamble_text p)
unfolding preamble_text
preamble_written p a =
    let most = segment_limit p.tag in
    let small = limit_is_small p.tag in
    let bytes = body_bytes p (omega (arith, a.tag_to)) (omega (arith, a.counted.to)) in
    record {
      long = refl;
      tag = refl;
      count = refl;
      first = read_back p.first most a.first small;
      second = λ _. read_back p.second most a.second small;
      third = λ _. read_back p.third most a.third small;
      fourth = λ _. read_back p.fourth most a.fourth small;
      uncompressed = refl;
      crc = from_le_bytes-to_le_bytes_4 (crc_of 0 (preamble_body p)) (crc_of-below (preamble_body p) 0 (omega arith) bytes);
    }

-- ---- the segments and their checksums

checksum_written : (segment : List ℕ) → All (λ b. b < 256) segment → IsChecksumText segment (crc_field segment)
checksum_written segment bytes = record { long = refl; crc = from_le_bytes-to_le_bytes_4 (segment_crc segment) (segment_crc-below segment bytes) }

first_written : (segment : List ℕ) → All (λ b. b < 256) segment → IsFirstText segment (first_text segment)
first_written [] bytes = refl
first_written (b ∷ bs) bytes = (crc_field (b ∷ bs), refl, checksum_written (b ∷ bs) bytes)

-- four bytes within others
number_within : (before field after : List ℕ) (at : ℕ) → length before ≡ at → length field ≡ 4 → number_at at (before ++ (field ++ after)) ≡ number_at 0 field
number_within before field after at place long =
    ap (λ (x : List ℕ). from_le_bytes w32 (take 4 x)) (drop_at before (field ++ after) at place)
    ∙ ap (from_le_bytes w32) (take_at field after 4 long)
    ∙ sym (ap (from_le_bytes w32) (take_all 4 field (omega (arith, long))))

field_long : (place count : ℕ) (segment : List ℕ) → length (epilogue_field place count segment) ≡ 4
field_long place count segment = cond_both (ltb place count) (crc_field segment) (to_le_bytes w32 0) (λ (x : List ℕ). length x ≡ 4) (λ _. refl) (λ _. refl)

field_crc : (place count : ℕ) (segment : List ℕ) → All (λ b. b < 256) segment → place < count → number_at 0 (epilogue_field place count segment) ≡ segment_crc segment
field_crc place count segment bytes h =
    let written = checksum_written segment bytes in
    ap (number_at 0) (cond-true (ltb place count) (crc_field segment) (to_le_bytes w32 0) (lt-ltb place count h)) ∙ written.crc

epilogue_written : (f : Parts) → AreBytes f → IsEpilogueText 0xE f (epilogue f)
epilogue_written f bytes =
    let n = count_of f in
    let a = epilogue_field 1 n f.second in
    let b = epilogue_field 2 n f.third in
    let c = epilogue_field 3 n f.fourth in
    let a_long : length a ≡ 4 = field_long 1 n f.second in
    let b_long : length b ≡ 4 = field_long 2 n f.third in
    let c_long : length c ≡ 4 = field_long 3 n f.fourth in
    let ab_long : length (a ++ b) ≡ 8 = omega (arith, length-append a b, a_long, b_long) in
    let abc_long : length (a ++ b ++ c) ≡ 12 = omega (arith, length-append (a ++ b) c, ab_long, c_long) in
    let shifted : epilogue f ≡ COMPLETE ∷ (a ++ (b ++ c)) = ap (λ (x : List ℕ). COMPLETE ∷ x) (append_assoc a b c) in
    let ended : epilogue f ≡ COMPLETE ∷ ((a ++ b) ++ (c ++ [])) = ap (λ (x : List ℕ). COMPLETE ∷ ((a ++ b) ++ x)) (sym (append-nil c)) in
    record {
      long = omega (arith, abc_long);
      late = refl;
      second = λ h. ap (number_at 1) shifted ∙ number_within (COMPLETE ∷ []) a (b ++ c) 1 refl a_long ∙ field_crc 1 n f.second bytes.second h;
      third = λ h. ap (number_at 5) shifted ∙ number_within (COMPLETE ∷ a) b c 5 (omega (arith, a_long)) b_long ∙ field_crc 2 n f.third bytes.third h;
      fourth = λ h. ap (number_at 9) ended ∙ number_within (COMPLETE ∷ (a ++ b)) c [] 9 (omega (arith, ab_long)) c_long ∙ field_crc 3 n f.fourth bytes.fourth h;
    }

later_written : (f : Parts) → AreBytes f → IsLaterText 0xE f (later_text f)
later_written f bytes =
    let several = f.second ++ f.third ++ f.fourth ++ epilogue f in
    record {
      alone = λ e. cond-false (ltb 1 (count_of f)) several [] (le-ltb 1 (count_of f) (omega (arith, e)));
      several = λ h. (epilogue f, cond-true (ltb 1 (count_of f)) several [] (lt-ltb 1 (count_of f) h), epilogue_written f bytes);
    }

pub text_of-written : (f : Parts) → Fits f → AreBytes f → IsFrameText f (text_of f)
unfolding text_of
text_of-written f fits bytes = record {
  fits = fits;
  preamble = preamble_text (preamble_of f);
  first = first_text f.first;
  later = later_text f;
  cut = refl;
  is_preamble = preamble_written (preamble_of f) (allowed-fits f fits);
  is_first = first_written f.first bytes.first;
  is_later = later_written f bytes;
}
