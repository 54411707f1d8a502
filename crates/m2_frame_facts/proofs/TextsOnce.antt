-- The text of each thing that a field says is read in one way.
use Rattle.std.proofs.Common.{◌≡◌, ℕ, zero, suc, ◌<◌, ◌^◌, ◌/◌, ◌%◌, ℤ, pos, negsuc, Bool, true, false, List, [], ◌∷◌, ◌++◌, get_or, drop, Some, decimal, refl, sym, ap, ◌∙◌, arith}
use Rattle.std.specs.Fmt.{signed_decimal}
use Rattle.std.specs.Int.{w64, to_be_bytes, from_be_bytes}
use Rattle.std.specs.List.{list_all}
use Rattle.std.specs.Char.{is_ascii_digit}
use Rattle.std.proofs.lemmas.Nat.{from_be_bytes-to_be_bytes_8}
use Rattle.std.proofs.lemmas.Fmt.{decimal_injective, signed_decimal_injective}
use lib.Signed.{mag}
use Rattle.m2_bytes.specs.Hexadecimal.{hex_text, hex_value}
use Rattle.m2_addr.specs.declared.addr.Addr.{Addr}
use Rattle.m2_addr.proofs.Fields.{same_fields}
use Rattle.m2_frame_facts.specs.declared.style.Style.{Style}
use Rattle.m2_frame_facts.specs.Value.{Place, ipv4, other, bits_text, dotted, flag_text, ip_text, ip_port_text, ipv4_text, kind_text, place_text, quoted_place}
use Rattle.m2_frame_facts.specs.ReadOnce.{AreBytes, IsSmallAddr, IsSmallPlace}
use Rattle.m2_frame_facts.proofs.Classes.{digits_of_decimal, inner_digit, inner_hex, inner_no_digit, is_inner}
use Rattle.m2_frame_facts.proofs.Cuts.{Once, Stops, all_imply, cut_once, joined, parted, quoted_once}

abbrev pub begins : List ℕ → ℕ
begins text = get_or text 0 0

-- ---- numbers

pub stops_digit : (r : List ℕ) → Stops is_inner r → Stops is_ascii_digit r
stops_digit [] stops = stops
stops_digit (b ∷ bs) stops = inner_no_digit b stops

-- before what is no digit
pub digits_once : (m n : ℕ) → m < 2 ^ 64 → n < 2 ^ 64 → (r s : List ℕ) → Stops is_ascii_digit r → Stops is_ascii_digit s
    → decimal m ++ r ≡ decimal n ++ s → (m ≡ n) × (r ≡ s)
digits_once m n small small_too r s stops stops_too e =
    let cut = cut_once is_ascii_digit (decimal m) (decimal n) r s (digits_of_decimal m small) (digits_of_decimal n small_too) stops stops_too e in
    (decimal_injective m n small small_too cut.0, cut.1)

pub number_once : (m n : ℕ) → m < 2 ^ 64 → n < 2 ^ 64 → Once (m ≡ n) (decimal m) (decimal n)
number_once m n small small_too r s stops stops_too e = digits_once m n small small_too r s (stops_digit r stops) (stops_digit s stops_too) e

inner_decimal : (n : ℕ) → n < 2 ^ 64 → list_all is_inner (decimal n) ≡ true
inner_decimal n small = all_imply is_ascii_digit is_inner inner_digit (decimal n) (digits_of_decimal n small)

inner_signed : (z : ℤ) → mag z < 2 ^ 63 → list_all is_inner (signed_decimal z) ≡ true
inner_signed (pos n) small = inner_decimal n (omega (arith, small))
inner_signed (negsuc n) small = inner_decimal (suc n) (omega (arith, small))

pub signed_once : (y z : ℤ) → mag y < 2 ^ 63 → mag z < 2 ^ 63 → Once (y ≡ z) (signed_decimal y) (signed_decimal z)
signed_once y z small small_too r s stops stops_too e =
    let cut = cut_once is_inner (signed_decimal y) (signed_decimal z) r s (inner_signed y small) (inner_signed z small_too) stops stops_too e in
    (signed_decimal_injective y z small small_too cut.0, cut.1)

pub flag_once : (b c : Bool) → Once (b ≡ c) (flag_text b) (flag_text c)
flag_once true true r s stops stops_too e = (refl, ap (drop 4) e)
flag_once false false r s stops stops_too e = (refl, ap (drop 5) e)
flag_once true false r s stops stops_too e = let first : 116 ≡ 102 = ap begins e in absurd (omega (arith, first))
flag_once false true r s stops stops_too e = let first : 102 ≡ 116 = ap begins e in absurd (omega (arith, first))

-- ---- bytes

-- what is written for bytes spells them
abbrev pub HexIsReadAgain : Type 0
HexIsReadAgain = (text : List ℕ) → AreBytes text → hex_value (hex_text text) ≡ Some text

pub hex_once : HexIsReadAgain → (a b : List ℕ) → AreBytes a → AreBytes b → Once (a ≡ b) (hex_text a) (hex_text b)
hex_once again a b small small_too r s stops stops_too e =
    let cut = cut_once is_inner (hex_text a) (hex_text b) r s (inner_hex a small) (inner_hex b small_too) stops stops_too e in
    let both : Some a ≡ Some b = sym (again a small) ∙ ap hex_value cut.0 ∙ again b small_too in
    let same : a ≡ b = cc in
    (same, cut.1)

bytes_of_number : (n : ℕ) → AreBytes (to_be_bytes w64 n)
bytes_of_number n zero = omega arith
bytes_of_number n (suc zero) = omega arith
bytes_of_number n (suc (suc zero)) = omega arith
bytes_of_number n (suc (suc (suc zero))) = omega arith
bytes_of_number n (suc (suc (suc (suc zero)))) = omega arith
bytes_of_number n (suc (suc (suc (suc (suc zero))))) = omega arith
bytes_of_number n (suc (suc (suc (suc (suc (suc zero)))))) = omega arith
bytes_of_number n (suc (suc (suc (suc (suc (suc (suc zero))))))) = omega arith
bytes_of_number n (suc (suc (suc (suc (suc (suc (suc (suc i)))))))) = omega arith

pub bits_once : HexIsReadAgain → (m n : ℕ) → m < 2 ^ 64 → n < 2 ^ 64 → Once (m ≡ n) (bits_text m) (bits_text n)
bits_once again m n small small_too r s stops stops_too e =
    let inner : hex_text (to_be_bytes w64 m) ++ r ≡ hex_text (to_be_bytes w64 n) ++ s = ap (drop 2) e in
    let found = hex_once again (to_be_bytes w64 m) (to_be_bytes w64 n) (bytes_of_number m) (bytes_of_number n) r s stops stops_too inner in
    (sym (from_be_bytes-to_be_bytes_8 m small) ∙ ap (from_be_bytes w64) found.0 ∙ from_be_bytes-to_be_bytes_8 n small_too, found.1)

-- ---- addresses

dotted_once : (a b c d : ℕ) → a < 2 ^ 64 → b < 2 ^ 64 → c < 2 ^ 64 → d < 2 ^ 64 → (r s : List ℕ) → Stops is_ascii_digit r → Stops is_ascii_digit s
    → dotted a b ++ r ≡ dotted c d ++ s → (a ≡ c) × ((b ≡ d) × (r ≡ s))
unfolding dotted
dotted_once a b c d sa sb sc sd r s stops stops_too e =
    let first = digits_once a c sa sc (46 ∷ (decimal b ++ r)) (46 ∷ (decimal d ++ s)) refl refl (parted (decimal a) (decimal b) (decimal c) (decimal d) r s 46 e) in
    let second = digits_once b d sb sd r s stops stops_too (ap (drop 1) first.1) in
    (first.0, second)

four : (a b : ℕ) → a / 16777216 ≡ b / 16777216 → a / 65536 % 256 ≡ b / 65536 % 256 → a / 256 % 256 ≡ b / 256 % 256 → a % 256 ≡ b % 256 → a ≡ b
four a b p q u v = omega (arith, p, q, u, v)

ip_once : (a b : ℕ) → a < 2 ^ 32 → b < 2 ^ 32 → (r s : List ℕ) → Stops is_ascii_digit r → Stops is_ascii_digit s
    → ip_text a ++ r ≡ ip_text b ++ s → (a ≡ b) × (r ≡ s)
unfolding ip_text
ip_once a b small small_too r s stops stops_too e =
    let high = λ (n : ℕ). dotted (n / 16777216) (n / 65536 % 256) in
    let low = λ (n : ℕ). dotted (n / 256 % 256) (n % 256) in
    let first = dotted_once (a / 16777216) (a / 65536 % 256) (b / 16777216) (b / 65536 % 256) (omega (arith, small)) (omega arith) (omega (arith, small_too)) (omega arith)
    (46 ∷ (low a ++ r)) (46 ∷ (low b ++ s)) refl refl (parted (high a) (low a) (high b) (low b) r s 46 e) in
    let second = dotted_once (a / 256 % 256) (a % 256) (b / 256 % 256) (b % 256) (omega arith) (omega arith) (omega arith) (omega arith) r s stops stops_too (ap (drop 1) first.1.1) in
    (four a b first.0 first.1.0 second.0 second.1.0, second.1.1)

kind_once : (a b : ℕ) → a < 2 ^ 32 → b < 2 ^ 32 → (r s : List ℕ) → kind_text a ++ r ≡ kind_text b ++ s → (a ≡ b) × (r ≡ s)
unfolding kind_text
kind_once a b small small_too r s e =
    let inner : (decimal a ++ 58 ∷ []) ++ r ≡ (decimal b ++ 58 ∷ []) ++ s = ap (drop 1) e in
    let found = digits_once a b (omega (arith, small)) (omega (arith, small_too)) (58 ∷ r) (58 ∷ s) refl refl (joined (decimal a) (58 ∷ []) (decimal b) (58 ∷ []) r s inner) in
    (found.0, ap (drop 1) found.1)

port_once : (i j p q : ℕ) → i < 2 ^ 32 → j < 2 ^ 32 → p < 2 ^ 16 → q < 2 ^ 16 → (r s : List ℕ) → Stops is_ascii_digit r → Stops is_ascii_digit s
    → ip_port_text i p ++ r ≡ ip_port_text j q ++ s → (i ≡ j) × ((p ≡ q) × (r ≡ s))
unfolding ip_port_text
port_once i j p q si sj sp sq r s stops stops_too e =
    let first = ip_once i j si sj (58 ∷ (decimal p ++ r)) (58 ∷ (decimal q ++ s)) refl refl (parted (ip_text i) (decimal p) (ip_text j) (decimal q) r s 58 e) in
    let second = digits_once p q (omega (arith, sp)) (omega (arith, sq)) r s stops stops_too (ap (drop 1) first.1) in
    (first.0, second)

ipv4_once : (a b : Addr) → IsSmallAddr a → IsSmallAddr b → Once (a ≡ b) (ipv4_text a) (ipv4_text b)
unfolding ipv4_text
ipv4_once a b small small_too r s stops stops_too e =
    let front = λ (x : Addr). kind_text x.kind ++ ip_port_text x.ip x.port in
    let cut = parted (front a) (decimal a.nonce) (front b) (decimal b.nonce) r s 47 e in
    let first = kind_once a.kind b.kind small.kind small_too.kind (ip_port_text a.ip a.port ++ 47 ∷ (decimal a.nonce ++ r)) (ip_port_text b.ip b.port ++ 47 ∷ (decimal b.nonce ++ s))
    (joined (kind_text a.kind) (ip_port_text a.ip a.port) (kind_text b.kind) (ip_port_text b.ip b.port) (47 ∷ (decimal a.nonce ++ r)) (47 ∷ (decimal b.nonce ++ s)) cut) in
    let second = port_once a.ip b.ip a.port b.port small.ip small_too.ip small.port small_too.port (47 ∷ (decimal a.nonce ++ r)) (47 ∷ (decimal b.nonce ++ s)) refl refl first.1 in
    let third = digits_once a.nonce b.nonce (omega (arith, small.nonce)) (omega (arith, small_too.nonce)) r s (stops_digit r stops) (stops_digit s stops_too) (ap (drop 1) second.1.1) in
    (same_fields a b first.0 third.0 second.0 second.1.0, third.1)

-- the first letters of the two kinds of address differ
pub v4_begins : (a : Addr) (r : List ℕ) → begins (ipv4_text a ++ r) ≡ 118
unfolding ipv4_text kind_text
v4_begins a r = refl

pub place_once : HexIsReadAgain → (a b : Place) → IsSmallPlace a → IsSmallPlace b → Once (a ≡ b) (place_text a) (place_text b)
place_once again (ipv4 a) (ipv4 b) small small_too r s stops stops_too e =
    let found = ipv4_once a b small small_too r s stops stops_too e in (ap ipv4 found.0, found.1)
place_once again (other x) (other y) small small_too r s stops stops_too e =
    let inner : hex_text x ++ r ≡ hex_text y ++ s = ap (drop 6) e in
    let found = hex_once again x y small small_too r s stops stops_too inner in (ap other found.0, found.1)
place_once again (ipv4 a) (other y) small small_too r s stops stops_too e =
    let first : 118 ≡ 111 = sym (v4_begins a r) ∙ ap begins e in absurd (omega (arith, first))
place_once again (other x) (ipv4 b) small small_too r s stops stops_too e =
    let first : 111 ≡ 118 = ap begins e ∙ v4_begins b s in absurd (omega (arith, first))

pub quoted_place_once : HexIsReadAgain → (form : Style) (a b : Place) → IsSmallPlace a → IsSmallPlace b → Once (a ≡ b) (quoted_place form a) (quoted_place form b)
quoted_place_once again form a b small small_too = quoted_once form (place_text a) (place_text b) (place_once again a b small small_too)
