-- The text of a header has 41 bytes, and no other header has the same.
use Rattle.std.proofs.Common.{◌≡◌, ℕ, ◌+◌, ◌<◌, ◌≤◌, ◌%◌, ◌^◌, List, [], ◌∷◌, ◌++◌, length, take, drop, get_or, refl, sym, ap, ◌∙◌, arith, length-drop, inl, inr}
use Rattle.std.specs.List.{All}
use Rattle.std.proofs.Math.Seq.{take-add, drop-cons}
use Rattle.std.proofs.lemmas.Bool.{cases_lt}
use Rattle.std.proofs.lemmas.List.{length-take-le, take_all, get_or_past}
use Rattle.std.proofs.lemmas.List.Elements.{All-get_or, All-take, All-drop}
use Rattle.std.proofs.lemmas.Nat.{le_bytes_2, le_bytes_4, le_bytes_8}
use Rattle.std.proofs.lemmas.Nat.{from_le_bytes-to_le_bytes_2, from_le_bytes-to_le_bytes_4, from_le_bytes-to_le_bytes_8}
use Rattle.std.specs.Prelude.{slice_index}
use Rattle.std.specs.Int.{w16, w32, w64, to_le_bytes}
use Rattle.m2_message.specs.declared.header.Header.{Header}
use Rattle.m2_message.specs.HeaderText.{header_text, field, header_in, FieldsFit}

pub byte_is : (b : ℕ) → b < 2 ^ 8 → b % 256 ≡ b
byte_is b h = omega arith

pub length-header_text : (h : Header) → length (header_text h) ≡ 41
unfolding header_text
length-header_text h = refl

-- a header is its fields
header_is : (seq tid kind priority version pre_padding data_off ack_seq flags compat reserved : ℕ) (h : Header)
    → seq ≡ h.seq → tid ≡ h.tid → kind ≡ h.kind → priority ≡ h.priority → version ≡ h.version → pre_padding ≡ h.pre_padding
    → data_off ≡ h.data_off → ack_seq ≡ h.ack_seq → flags ≡ h.flags → compat ≡ h.compat → reserved ≡ h.reserved
    → record { seq = seq; tid = tid; kind = kind; priority = priority; version = version; pre_padding = pre_padding; data_off = data_off; ack_seq = ack_seq; flags = flags; compat = compat; reserved = reserved } ≡ h
header_is seq tid kind priority version pre_padding data_off ack_seq flags compat reserved h e1 e2 e3 e4 e5 e6 e7 e8 e9 e10 e11 =
    rw (e1, e2, e3, e4, e5, e6, e7, e8, e9, e10, e11)

pub header_in-header_text : (h : Header) → FieldsFit h → header_in (header_text h) ≡ h
unfolding header_text
header_in-header_text h f =
    header_is _ _ _ _ _ _ _ _ _ _ _ h
    (from_le_bytes-to_le_bytes_8 h.seq f.seq)
    (from_le_bytes-to_le_bytes_8 h.tid f.tid)
    (from_le_bytes-to_le_bytes_2 h.kind f.kind)
    (from_le_bytes-to_le_bytes_2 h.priority f.priority)
    (from_le_bytes-to_le_bytes_2 h.version f.version)
    (from_le_bytes-to_le_bytes_4 h.pre_padding f.pre_padding)
    (from_le_bytes-to_le_bytes_2 h.data_off f.data_off)
    (from_le_bytes-to_le_bytes_8 h.ack_seq f.ack_seq)
    refl
    (from_le_bytes-to_le_bytes_2 h.compat f.compat)
    (from_le_bytes-to_le_bytes_2 h.reserved f.reserved)

-- ---- a text says a header, and is that header's

AreBytes : List ℕ → Type 0
AreBytes = All (λ b. b < 256)

bytes_at : (text : List ℕ) (at n : ℕ) → AreBytes text → (i : ℕ) → get_or (take n (drop at text)) i 0 < 256
unfolding AreBytes
bytes_at text at n a i =
    let part : List ℕ = take n (drop at text) in
    elim (cases_lt i (length part)) [
      | inl lt ↦ All-get_or (λ b. b < 256) part i 0 lt (All-take (λ b. b < 256) n (drop at text) (All-drop (λ b. b < 256) at text a))
      | inr le ↦ let none : get_or part i 0 ≡ 0 = get_or_past part i 0 le in omega (arith, none)
    ]

part_long : (text : List ℕ) (at n : ℕ) → at + n ≤ length text → length (take n (drop at text)) ≡ n
part_long text at n h = length-take-le n (drop at text) (omega (arith, h, length-drop at text))

-- the parts of a text, one behind the other
joined : (text prefix part : List ℕ) (at n : ℕ) → prefix ≡ take at text → part ≡ take n (drop at text) → prefix ++ part ≡ take (at + n) text
joined text prefix part at n e d = ap (λ (l : List ℕ). l ++ part) e ∙ ap (λ (l : List ℕ). take at text ++ l) d ∙ sym (take-add at n text)

text8 : (text : List ℕ) (at : ℕ) → at + 8 ≤ length text → AreBytes text → to_le_bytes w64 (field w64 at text) ≡ take 8 (drop at text)
text8 text at h a = le_bytes_8 (take 8 (drop at text)) (field w64 at text) (part_long text at 8 h) (bytes_at text at 8 a) refl

text4 : (text : List ℕ) (at : ℕ) → at + 4 ≤ length text → AreBytes text → to_le_bytes w32 (field w32 at text) ≡ take 4 (drop at text)
text4 text at h a = le_bytes_4 (take 4 (drop at text)) (field w32 at text) (part_long text at 4 h) (bytes_at text at 4 a) refl

text2 : (text : List ℕ) (at : ℕ) → at + 2 ≤ length text → AreBytes text → to_le_bytes w16 (field w16 at text) ≡ take 2 (drop at text)
text2 text at h a = le_bytes_2 (take 2 (drop at text)) (field w16 at text) (part_long text at 2 h) (bytes_at text at 2 a) refl

text1 : (text : List ℕ) (at : ℕ) → at + 1 ≤ length text → slice_index text at ∷ [] ≡ take 1 (drop at text)
text1 text at h = sym (ap (take 1) (drop-cons text at 0 (omega (arith, h))))

pub header_text-header_in : (text : List ℕ) → length text ≡ 41 → All (λ b. b < 256) text → header_text (header_in text) ≡ text
unfolding header_text AreBytes
header_text-header_in text l a =
    joined text _ _ 39 2
    (joined text _ _ 37 2
    (joined text _ _ 36 1
    (joined text _ _ 28 8
    (joined text _ _ 26 2
    (joined text _ _ 22 4
    (joined text _ _ 20 2
    (joined text _ _ 18 2
    (joined text _ _ 16 2
    (joined text _ _ 8 8
    (text8 text 0 (omega (arith, l)) a)
    (text8 text 8 (omega (arith, l)) a))
    (text2 text 16 (omega (arith, l)) a))
    (text2 text 18 (omega (arith, l)) a))
    (text2 text 20 (omega (arith, l)) a))
    (text4 text 22 (omega (arith, l)) a))
    (text2 text 26 (omega (arith, l)) a))
    (text8 text 28 (omega (arith, l)) a))
    (text1 text 36 (omega (arith, l))))
    (text2 text 37 (omega (arith, l)) a))
    (text2 text 39 (omega (arith, l)) a)
    ∙ take_all 41 text (omega (arith, l))

field8-below : (text : List ℕ) (at : ℕ) → AreBytes text → field w64 at text < 2 ^ 64
field8-below text at a = let b = bytes_at text at 8 a in omega (arith, b 0, b 1, b 2, b 3, b 4, b 5, b 6, b 7)

field4-below : (text : List ℕ) (at : ℕ) → AreBytes text → field w32 at text < 2 ^ 32
field4-below text at a = let b = bytes_at text at 4 a in omega (arith, b 0, b 1, b 2, b 3)

field2-below : (text : List ℕ) (at : ℕ) → AreBytes text → field w16 at text < 2 ^ 16
field2-below text at a = let b = bytes_at text at 2 a in omega (arith, b 0, b 1)

pub header_in-fits : (text : List ℕ) → 36 < length text → All (λ b. b < 256) text → FieldsFit (header_in text)
unfolding AreBytes
header_in-fits text l a = record {
  seq = field8-below text 0 a;
  tid = field8-below text 8 a;
  kind = field2-below text 16 a;
  priority = field2-below text 18 a;
  version = field2-below text 20 a;
  pre_padding = field4-below text 22 a;
  data_off = field2-below text 26 a;
  ack_seq = field8-below text 28 a;
  flags = All-get_or (λ b. b < 256) text 36 0 l a;
  compat = field2-below text 37 a;
  reserved = field2-below text 39 a;
}

-- no other header has the same text
pub header_text-once : (h g : Header) → FieldsFit h → FieldsFit g → header_text h ≡ header_text g → h ≡ g
header_text-once h g a b e = sym (header_in-header_text h a) ∙ ap header_in e ∙ header_in-header_text g b
