-- Eight bytes at a time: put into the state together, each is moved out by as many shifts as there are from
-- its place, and what it leaves stands in the table of so many shifts.
use Rattle.std.proofs.Common.{◌≡◌, ℕ, zero, suc, ◌+◌, ◌*◌, ◌/◌, ◌%◌, ◌^◌, ◌<◌, ◌≤◌, ◌-◌, Bool, true, eqb, List, [], ◌∷◌, ◌++◌, length, get_or, take, drop, refl, sym, ap, ◌∙◌, arith, inl, inr}
use Rattle.std.specs.Prelude.{◌&&◌, bit_xor, fold}
use Rattle.std.specs.Int.Bits.{xor_assoc, xor_zero_r, xor_zero_l, xor_self}
use Rattle.std.specs.Int.{w64, from_le_bytes}
use Rattle.std.specs.List.{concat}
use Rattle.std.specs.Simd.{first_chunks}
use Rattle.std.proofs.lemmas.List.{take_all, take-append-drop, append_assoc, get_or-drop, get_or-take}
use Rattle.std.proofs.lemmas.List.Sums.{fold-append, fold_more}
use Rattle.std.proofs.Math.Seq.{drop-drop}
use Rattle.std.proofs.lemmas.Nat.{xor_block, xor_shr, xor_mod, xor_comm}
use Rattle.std.proofs.lemmas.Bool.{eqb-true, cases_lt, and_parts}
use Rattle.m2_crc.specs.Crc.{polynomial, shifted, shifted_by, after_byte, crc_of}
use Rattle.m2_crc.specs.declared.table.TheConstants.{SHIFTED}
use Rattle.m2_crc.proofs.WholeBytes.{moved_down, even, odd}

swapped : (a b c : ℕ) → bit_xor (bit_xor a b) c ≡ bit_xor (bit_xor a c) b
swapped a b c = xor_assoc a b c ∙ ap (bit_xor a) (xor_comm b c) ∙ sym (xor_assoc a c b)

-- what is put in twice goes out again
twice : (a b p : ℕ) → bit_xor (bit_xor a p) (bit_xor b p) ≡ bit_xor a b
twice a b p =
    xor_assoc a p (bit_xor b p)
    ∙ ap (bit_xor a) (ap (bit_xor p) (xor_comm b p) ∙ sym (xor_assoc p p b) ∙ ap (λ (x : ℕ). bit_xor x b) (xor_self p) ∙ xor_zero_l b)

halved : (a b : ℕ) → bit_xor a b / 2 ≡ bit_xor (a / 2) (b / 2)
halved a b = xor_shr a b 1

lowest : (a b c d : ℕ) → a % 2 ≡ c → b % 2 ≡ d → bit_xor a b % 2 ≡ bit_xor c d
lowest a b c d h k = xor_mod a b 1 ∙ ap (λ (x : ℕ). bit_xor x (b % 2)) h ∙ ap (bit_xor c) k

-- one shift of an exclusive or is the exclusive or of the shifts
shifted-linear : (a b : ℕ) → shifted (bit_xor a b) ≡ bit_xor (shifted a) (shifted b)
shifted-linear a b =
    elim (cases_lt (a % 2) 1) [
      | inl la ↦
          let p : a % 2 ≡ 0 = omega arith in
          elim (cases_lt (b % 2) 1) [
            | inl lb ↦
                let q : b % 2 ≡ 0 = omega arith in
                even (bit_xor a b) (lowest a b 0 0 p q) ∙ halved a b
                ∙ sym (ap (λ (x : ℕ). bit_xor x (shifted b)) (even a p) ∙ ap (bit_xor (a / 2)) (even b q))
            | inr lb ↦
                let q : b % 2 ≡ 1 = omega arith in
                odd (bit_xor a b) (lowest a b 0 1 p q) ∙ ap (λ (x : ℕ). bit_xor x polynomial) (halved a b) ∙ xor_assoc (a / 2) (b / 2) polynomial
                ∙ sym (ap (λ (x : ℕ). bit_xor x (shifted b)) (even a p) ∙ ap (bit_xor (a / 2)) (odd b q))
          ]
      | inr la ↦
          let p : a % 2 ≡ 1 = omega arith in
          elim (cases_lt (b % 2) 1) [
            | inl lb ↦
                let q : b % 2 ≡ 0 = omega arith in
                odd (bit_xor a b) (lowest a b 1 0 p q) ∙ ap (λ (x : ℕ). bit_xor x polynomial) (halved a b) ∙ swapped (a / 2) (b / 2) polynomial
                ∙ sym (ap (λ (x : ℕ). bit_xor x (shifted b)) (odd a p) ∙ ap (bit_xor (bit_xor (a / 2) polynomial)) (even b q))
            | inr lb ↦
                let q : b % 2 ≡ 1 = omega arith in
                even (bit_xor a b) (lowest a b 1 1 p q) ∙ halved a b ∙ sym (twice (a / 2) (b / 2) polynomial)
                ∙ sym (ap (λ (x : ℕ). bit_xor x (shifted b)) (odd a p) ∙ ap (bit_xor (bit_xor (a / 2) polynomial)) (odd b q))
          ]
    ]

-- so many shifts of an exclusive or are the exclusive or of the shifts
linear : (n a b : ℕ) → shifted_by n (bit_xor a b) ≡ bit_xor (shifted_by n a) (shifted_by n b)
unfolding shifted_by
linear zero a b = refl
linear (suc n) a b = ap (shifted_by n) (shifted-linear a b) ∙ linear n (shifted a) (shifted b)

-- shifts follow each other
added : (m n x : ℕ) → shifted_by (m + n) x ≡ shifted_by n (shifted_by m x)
unfolding shifted_by
added zero n x = let e : 0 + n ≡ n = omega arith in ap (λ (k : ℕ). shifted_by k x) e
added (suc m) n x =
    let e : suc m + n ≡ suc (m + n) = omega arith in
    ap (λ (k : ℕ). shifted_by k x) e ∙ added m n (shifted x)

-- eight shifts move a number down by a byte where its lowest byte is zero
byte_out : (hi : ℕ) → shifted_by 8 (hi * 256) ≡ hi
byte_out hi = moved_down 8 hi

-- a byte below a number: a sum and an exclusive or are the same
byte_below : (lo hi : ℕ) → lo < 256 → lo + hi * 256 ≡ bit_xor lo (hi * 256)
byte_below lo hi h =
    let some : 0 < 2 ^ 8 = omega arith in
    let left : 0 * 2 ^ 8 + lo ≡ lo = omega arith in
    let right : hi * 2 ^ 8 + 0 ≡ hi * 256 = omega arith in
    sym (ap (λ (x : ℕ). bit_xor x (hi * 256)) (sym left) ∙ ap (bit_xor (0 * 2 ^ 8 + lo)) (sym right) ∙ xor_block 8 0 hi lo 0 h some
    ∙ ap (λ (x : ℕ). x * 2 ^ 8 + bit_xor lo 0) (xor_zero_l hi) ∙ ap (λ (x : ℕ). hi * 2 ^ 8 + x) (xor_zero_r lo) ∙ omega arith)

-- the bytes as one number, the first of them lowest
pub joined : List ℕ → ℕ
joined [] = 0
joined (b ∷ bs) = b + joined bs * 256

pub AreBytes : List ℕ → Type 0
AreBytes [] = Unit {0}
AreBytes (b ∷ bs) = (b < 256) × AreBytes bs

-- bytes one by one leave what they leave when they are put in together
pub together : (bs : List ℕ) (state : ℕ) → AreBytes bs → crc_of state bs ≡ shifted_by (8 * length bs) (bit_xor state (joined bs))
unfolding joined AreBytes shifted_by after_byte
together [] state h = sym (xor_zero_r state)
together (b ∷ bs) state h =
    let e : 8 * suc (length bs) ≡ 8 + 8 * length bs = omega arith in
    let rest = joined bs in
    let s = bit_xor state b in
    let put : bit_xor (shifted_by 8 s) rest ≡ shifted_by 8 (bit_xor state (b + rest * 256)) =
    ap (bit_xor (shifted_by 8 s)) (sym (byte_out rest)) ∙ sym (linear 8 s (rest * 256))
    ∙ ap (shifted_by 8) (xor_assoc state b (rest * 256) ∙ ap (bit_xor state) (sym (byte_below b rest h.0))) in
    together bs (shifted_by 8 s) h.1
    ∙ ap (shifted_by (8 * length bs)) put
    ∙ sym (added 8 (8 * length bs) (bit_xor state (b + rest * 256)))
    ∙ ap (λ (k : ℕ). shifted_by k (bit_xor state (b + rest * 256))) (sym e)

-- shifts of a number by its lowest byte and the rest
by_byte : (k x : ℕ) → shifted_by (8 + k) x ≡ bit_xor (shifted_by (8 + k) (x % 256)) (shifted_by k (x / 256))
by_byte k x =
    let lo = x % 256 in
    let hi = x / 256 in
    let small : lo < 256 = omega arith in
    let parts : x ≡ lo + hi * 256 = omega arith in
    ap (shifted_by (8 + k)) (parts ∙ byte_below lo hi small) ∙ linear (8 + k) lo (hi * 256)
    ∙ ap (bit_xor (shifted_by (8 + k) lo)) (added 8 k (hi * 256) ∙ ap (shifted_by k) (byte_out hi))

-- the same with what came before put in
next_byte : (acc k x : ℕ) → bit_xor acc (shifted_by (8 + k) x) ≡ bit_xor (bit_xor acc (shifted_by (8 + k) (x % 256))) (shifted_by k (x / 256))
next_byte acc k x = ap (bit_xor acc) (by_byte k x) ∙ sym (xor_assoc acc (shifted_by (8 + k) (x % 256)) (shifted_by k (x / 256)))

-- each word of the first table is eight shifts of its place
first_rule : List ℕ → ℕ → Bool
first_rule [] i = true
first_rule (x ∷ xs) i = eqb x (shifted_by 8 i) && first_rule xs (suc i)

first_holds : first_rule (take 256 SHIFTED) 0 ≡ true
unfolding first_rule shifted shifted_by
first_holds = refl

first_at : (xs : List ℕ) (i k : ℕ) → first_rule xs i ≡ true → k < length xs → get_or xs k 0 ≡ shifted_by 8 (i + k)
unfolding first_rule
first_at [] i k h lt = absurd (omega arith)
first_at (x ∷ xs) i zero h lt = eqb-true x (shifted_by 8 i) (and_parts (eqb x (shifted_by 8 i)) (first_rule xs (suc i)) h).0 ∙ ap (shifted_by 8) (omega arith)
first_at (x ∷ xs) i (suc k) h lt = first_at xs (suc i) k (and_parts (eqb x (shifted_by 8 i)) (first_rule xs (suc i)) h).1 (omega arith) ∙ ap (shifted_by 8) (omega arith)

-- each word of another table is eight shifts of the word at the same place in the one before
rule_above : List ℕ → List ℕ → Bool
rule_above [] ys = true
rule_above (x ∷ xs) [] = true
rule_above (x ∷ xs) (y ∷ ys) = eqb y (shifted_by 8 x) && rule_above xs ys

holds_above : rule_above SHIFTED (drop 256 SHIFTED) ≡ true
unfolding rule_above shifted shifted_by
holds_above = refl

above_at : (xs ys : List ℕ) (i : ℕ) → rule_above xs ys ≡ true → i < length xs → i < length ys → get_or ys i 0 ≡ shifted_by 8 (get_or xs i 0)
unfolding rule_above
above_at [] ys i h lt le = absurd (omega arith)
above_at (x ∷ xs) [] i h lt le = absurd (omega arith)
above_at (x ∷ xs) (y ∷ ys) zero h lt le = eqb-true y (shifted_by 8 x) (and_parts (eqb y (shifted_by 8 x)) (rule_above xs ys) h).0
above_at (x ∷ xs) (y ∷ ys) (suc i) h lt le = above_at xs ys i (and_parts (eqb y (shifted_by 8 x)) (rule_above xs ys) h).1 (omega arith) (omega arith)

-- what stands in the tables
pub table_word : (more byte : ℕ) → more < 16 → byte < 256 → get_or SHIFTED (256 * more + byte) 0 ≡ shifted_by (8 * (more + 1)) byte
table_word zero byte m h =
    let e : 256 * 0 + byte ≡ byte = omega arith in
    ap (λ (k : ℕ). get_or SHIFTED k 0) e ∙ sym (get_or-take 256 SHIFTED byte 0 h) ∙ first_at (take 256 SHIFTED) 0 byte first_holds h ∙ ap (shifted_by 8) (let z : 0 + byte ≡ byte = omega arith in z)
table_word (suc more) byte m h =
    let e : 256 * suc more + byte ≡ 256 + (256 * more + byte) = omega arith in
    let all : length SHIFTED ≡ 4096 = refl in
    let above : length (drop 256 SHIFTED) ≡ 3840 = refl in
    let s : 8 * (suc more + 1) ≡ 8 * (more + 1) + 8 = omega arith in
    ap (λ (k : ℕ). get_or SHIFTED k 0) e
    ∙ sym (get_or-drop 256 SHIFTED (256 * more + byte) 0)
    ∙ above_at SHIFTED (drop 256 SHIFTED) (256 * more + byte) holds_above (omega (arith, all)) (omega (arith, above))
    ∙ ap (shifted_by 8) (table_word more byte (omega arith) h)
    ∙ sym (ap (λ (k : ℕ). shifted_by k byte) s ∙ added (8 * (more + 1)) 8 byte)

-- an exclusive or of equal numbers
pub both : {a b c d : ℕ} → a ≡ b → c ≡ d → bit_xor a c ≡ bit_xor b d
both {a = a} {d = d} h k = ap (bit_xor a) k ∙ ap (λ (x : ℕ). bit_xor x d) h

-- 64 shifts of a word of eight bytes are the exclusive or of as many shifts of each byte as there are from its place
spread : (w w1 w2 w3 w4 w5 w6 w7 : ℕ) → w7 < 256 → w1 ≡ w / 256 → w2 ≡ w1 / 256 → w3 ≡ w2 / 256 → w4 ≡ w3 / 256 → w5 ≡ w4 / 256 → w6 ≡ w5 / 256 → w7 ≡ w6 / 256
    → shifted_by 64 w ≡ bit_xor (bit_xor (bit_xor (bit_xor (bit_xor (bit_xor (bit_xor (shifted_by 64 (w % 256)) (shifted_by 56 (w1 % 256))) (shifted_by 48 (w2 % 256))) (shifted_by 40 (w3 % 256))) (shifted_by 32 (w4 % 256))) (shifted_by 24 (w5 % 256))) (shifted_by 16 (w6 % 256))) (shifted_by 8 (w7 % 256))
spread w w1 w2 w3 w4 w5 w6 w7 h e1 e2 e3 e4 e5 e6 e7 =
    let a0 = shifted_by 64 (w % 256) in
    let a1 = bit_xor a0 (shifted_by 56 (w1 % 256)) in
    let a2 = bit_xor a1 (shifted_by 48 (w2 % 256)) in
    let a3 = bit_xor a2 (shifted_by 40 (w3 % 256)) in
    let a4 = bit_xor a3 (shifted_by 32 (w4 % 256)) in
    let a5 = bit_xor a4 (shifted_by 24 (w5 % 256)) in
    let a6 = bit_xor a5 (shifted_by 16 (w6 % 256)) in
    by_byte 56 w ∙ ap (λ (x : ℕ). bit_xor a0 (shifted_by 56 x)) (sym e1)
    ∙ next_byte a0 48 w1 ∙ ap (λ (x : ℕ). bit_xor a1 (shifted_by 48 x)) (sym e2)
    ∙ next_byte a1 40 w2 ∙ ap (λ (x : ℕ). bit_xor a2 (shifted_by 40 x)) (sym e3)
    ∙ next_byte a2 32 w3 ∙ ap (λ (x : ℕ). bit_xor a3 (shifted_by 32 x)) (sym e4)
    ∙ next_byte a3 24 w4 ∙ ap (λ (x : ℕ). bit_xor a4 (shifted_by 24 x)) (sym e5)
    ∙ next_byte a4 16 w5 ∙ ap (λ (x : ℕ). bit_xor a5 (shifted_by 16 x)) (sym e6)
    ∙ next_byte a5 8 w6 ∙ ap (λ (x : ℕ). bit_xor a6 (shifted_by 8 x)) (sym e7)
    ∙ ap (λ (x : ℕ). bit_xor a6 (shifted_by 8 x)) (let e : w7 ≡ w7 % 256 = omega arith in e)

-- eight numbers put together in two ways
regroup : (a b c d e f g h : ℕ) → bit_xor (bit_xor (bit_xor a b) (bit_xor c d)) (bit_xor (bit_xor (bit_xor e f) g) h)
    ≡ bit_xor (bit_xor (bit_xor (bit_xor (bit_xor (bit_xor (bit_xor a b) c) d) e) f) g) h
regroup a b c d e f g h =
    let x = bit_xor (bit_xor (bit_xor a b) c) d in
    ap (λ (y : ℕ). bit_xor y (bit_xor (bit_xor (bit_xor e f) g) h)) (sym (xor_assoc (bit_xor a b) c d))
    ∙ sym (xor_assoc x (bit_xor (bit_xor e f) g) h)
    ∙ ap (λ (y : ℕ). bit_xor y h) (sym (xor_assoc x (bit_xor e f) g) ∙ ap (λ (y : ℕ). bit_xor y g) (sym (xor_assoc x e f)))

-- 64 shifts of a word of eight bytes, by what each byte leaves
pub by_tables : (w p0 p1 p2 p3 p4 p5 p6 p7 t0 t1 t2 t3 t4 t5 t6 t7 : ℕ) → w < 2 ^ 64
    → p0 ≡ w % 256 → p1 ≡ w / 2 ^ 8 % 256 → p2 ≡ w / 2 ^ 16 % 256 → p3 ≡ w / 2 ^ 24 % 256
    → p4 ≡ w / 2 ^ 32 % 256 → p5 ≡ w / 2 ^ 40 % 256 → p6 ≡ w / 2 ^ 48 % 256 → p7 ≡ w / 2 ^ 56 % 256
    → t0 ≡ shifted_by 64 p0 → t1 ≡ shifted_by 56 p1 → t2 ≡ shifted_by 48 p2 → t3 ≡ shifted_by 40 p3
    → t4 ≡ shifted_by 32 p4 → t5 ≡ shifted_by 24 p5 → t6 ≡ shifted_by 16 p6 → t7 ≡ shifted_by 8 p7
    → bit_xor (bit_xor (bit_xor t0 t1) (bit_xor t2 t3)) (bit_xor (bit_xor (bit_xor t4 t5) t6) t7) ≡ shifted_by 64 w
by_tables w p0 p1 p2 p3 p4 p5 p6 p7 t0 t1 t2 t3 t4 t5 t6 t7 h e0 e1 e2 e3 e4 e5 e6 e7 s0 s1 s2 s3 s4 s5 s6 s7 =
    let q2 : w / 2 ^ 16 ≡ w / 2 ^ 8 / 256 = omega arith in
    let q3 : w / 2 ^ 24 ≡ w / 2 ^ 16 / 256 = omega arith in
    let q4 : w / 2 ^ 32 ≡ w / 2 ^ 24 / 256 = omega arith in
    let q5 : w / 2 ^ 40 ≡ w / 2 ^ 32 / 256 = omega arith in
    let q6 : w / 2 ^ 48 ≡ w / 2 ^ 40 / 256 = omega arith in
    let q7 : w / 2 ^ 56 ≡ w / 2 ^ 48 / 256 = omega arith in
    let small : w / 2 ^ 56 < 256 = omega arith in
    regroup t0 t1 t2 t3 t4 t5 t6 t7
    ∙ (both (both (both (both (both (both (both (s0 ∙ ap (shifted_by 64) e0) (s1 ∙ ap (shifted_by 56) e1)) (s2 ∙ ap (shifted_by 48) e2)) (s3 ∙ ap (shifted_by 40) e3)) (s4 ∙ ap (shifted_by 32) e4)) (s5 ∙ ap (shifted_by 24) e5)) (s6 ∙ ap (shifted_by 16) e6)) (s7 ∙ ap (shifted_by 8) e7))
    ∙ sym (spread w (w / 2 ^ 8) (w / 2 ^ 16) (w / 2 ^ 24) (w / 2 ^ 32) (w / 2 ^ 40) (w / 2 ^ 48) (w / 2 ^ 56) small refl q2 q3 q4 q5 q6 q7)

are_bytes : (bs : List ℕ) → ((i : ℕ) → get_or bs i 0 < 256) → AreBytes bs
unfolding AreBytes
are_bytes [] h = tt
are_bytes (b ∷ bs) h = (h zero, are_bytes bs (λ (i : ℕ). h (suc i)))

as_number : (bs : List ℕ) → length bs ≡ 8 → joined bs ≡ from_le_bytes w64 bs
unfolding joined
as_number ([]) h = absurd (omega arith)
as_number (b0 ∷ []) h = absurd (omega arith)
as_number (b0 ∷ b1 ∷ []) h = absurd (omega arith)
as_number (b0 ∷ b1 ∷ b2 ∷ []) h = absurd (omega arith)
as_number (b0 ∷ b1 ∷ b2 ∷ b3 ∷ []) h = absurd (omega arith)
as_number (b0 ∷ b1 ∷ b2 ∷ b3 ∷ b4 ∷ []) h = absurd (omega arith)
as_number (b0 ∷ b1 ∷ b2 ∷ b3 ∷ b4 ∷ b5 ∷ []) h = absurd (omega arith)
as_number (b0 ∷ b1 ∷ b2 ∷ b3 ∷ b4 ∷ b5 ∷ b6 ∷ []) h = absurd (omega arith)
as_number (b0 ∷ b1 ∷ b2 ∷ b3 ∷ b4 ∷ b5 ∷ b6 ∷ b7 ∷ []) h = omega arith
as_number (b0 ∷ b1 ∷ b2 ∷ b3 ∷ b4 ∷ b5 ∷ b6 ∷ b7 ∷ b8 ∷ bs) h = absurd (omega arith)

-- eight bytes put into the state as one number, and moved out together
pub eight_bytes : (bs : List ℕ) (state n : ℕ) → length bs ≡ 8 → ((i : ℕ) → get_or bs i 0 < 256) → n ≡ from_le_bytes w64 bs
    → shifted_by 64 (bit_xor n state) ≡ crc_of state bs
eight_bytes bs state n h small e =
    ap (shifted_by 64) (xor_comm n state ∙ ap (bit_xor state) (e ∙ sym (as_number bs h)))
    ∙ ap (λ (k : ℕ). shifted_by (8 * k) (bit_xor state (joined bs))) (sym h)
    ∙ sym (together bs state (are_bytes bs small))

-- 64 shifts more of an exclusive or
far : {a b : ℕ} (x y : ℕ) → a ≡ shifted_by 64 x → b ≡ shifted_by 64 y → bit_xor a b ≡ shifted_by 64 (bit_xor x y)
far x y h k = both h k ∙ sym (linear 64 x y)

-- 128 shifts of a word of eight bytes, by what each byte leaves
pub by_far_tables : (w p0 p1 p2 p3 p4 p5 p6 p7 t0 t1 t2 t3 t4 t5 t6 t7 : ℕ) → w < 2 ^ 64
    → p0 ≡ w % 256 → p1 ≡ w / 2 ^ 8 % 256 → p2 ≡ w / 2 ^ 16 % 256 → p3 ≡ w / 2 ^ 24 % 256
    → p4 ≡ w / 2 ^ 32 % 256 → p5 ≡ w / 2 ^ 40 % 256 → p6 ≡ w / 2 ^ 48 % 256 → p7 ≡ w / 2 ^ 56 % 256
    → t0 ≡ shifted_by 128 p0 → t1 ≡ shifted_by 120 p1 → t2 ≡ shifted_by 112 p2 → t3 ≡ shifted_by 104 p3
    → t4 ≡ shifted_by 96 p4 → t5 ≡ shifted_by 88 p5 → t6 ≡ shifted_by 80 p6 → t7 ≡ shifted_by 72 p7
    → bit_xor (bit_xor (bit_xor t0 t1) (bit_xor t2 t3)) (bit_xor (bit_xor (bit_xor t4 t5) t6) t7) ≡ shifted_by 64 (shifted_by 64 w)
by_far_tables w p0 p1 p2 p3 p4 p5 p6 p7 t0 t1 t2 t3 t4 t5 t6 t7 h e0 e1 e2 e3 e4 e5 e6 e7 s0 s1 s2 s3 s4 s5 s6 s7 =
    far _ _ (far _ _ (far _ _ (s0 ∙ added 64 64 p0) (s1 ∙ added 56 64 p1)) (far _ _ (s2 ∙ added 48 64 p2) (s3 ∙ added 40 64 p3)))
    (far _ _ (far _ _ (far _ _ (s4 ∙ added 32 64 p4) (s5 ∙ added 24 64 p5)) (s6 ∙ added 16 64 p6)) (s7 ∙ added 8 64 p7))
    ∙ ap (shifted_by 64) (by_tables w p0 p1 p2 p3 p4 p5 p6 p7 (shifted_by 64 p0) (shifted_by 56 p1) (shifted_by 48 p2) (shifted_by 40 p3) (shifted_by 32 p4) (shifted_by 24 p5) (shifted_by 16 p6) (shifted_by 8 p7) h e0 e1 e2 e3 e4 e5 e6 e7 refl refl refl refl refl refl refl refl)

-- eight bytes behind others: what the others leave is moved out by them, and they go in beside it
pub behind : (state : ℕ) (xs ys : List ℕ) → length ys ≡ 8 → ((i : ℕ) → get_or ys i 0 < 256)
    → bit_xor (shifted_by 64 (crc_of state xs)) (crc_of 0 ys) ≡ crc_of state (xs ++ ys)
behind state xs ys h small =
    let s = crc_of state xs in
    let moved : (z : ℕ) → crc_of z ys ≡ shifted_by 64 (bit_xor z (joined ys)) =
    λ (z : ℕ). together ys z (are_bytes ys small) ∙ ap (λ (k : ℕ). shifted_by (8 * k) (bit_xor z (joined ys))) h in
    ap (bit_xor (shifted_by 64 s)) (moved 0 ∙ ap (shifted_by 64) (xor_zero_l (joined ys)))
    ∙ sym (linear 64 s (joined ys)) ∙ sym (moved s) ∙ sym (fold-append after_byte state xs ys)

-- pieces one after another are their bytes one after another
pub by_pieces : (pieces : List (List ℕ)) (state : ℕ) → fold crc_of state pieces ≡ crc_of state (concat pieces)
by_pieces [] state = refl
by_pieces (p ∷ ps) state = by_pieces ps (crc_of state p) ∙ sym (fold-append after_byte state p (concat ps))

-- two words more
pub two_more : (seed : ℕ) (words : List (List ℕ)) (i state : ℕ) → i < length words / 2 → state ≡ crc_of seed (concat (take (2 * i) words))
    → crc_of state (get_or words (2 * i) [] ++ get_or words (2 * i + 1) []) ≡ crc_of seed (concat (take (2 * (i + 1)) words))
two_more seed words i state h e =
    let w = get_or words (2 * i) [] in
    let v = get_or words (2 * i + 1) [] in
    let first : 2 * i < length words = omega arith in
    let second : 2 * i + 1 < length words = omega arith in
    let two : 2 * i + 1 + 1 ≡ 2 * (i + 1) = omega arith in
    fold-append after_byte state w v
    ∙ ap (λ (s : ℕ). crc_of (crc_of s w) v) (e ∙ sym (by_pieces (take (2 * i) words) seed))
    ∙ ap (λ (s : ℕ). crc_of s v) (sym (fold_more crc_of seed words (2 * i) [] first))
    ∙ sym (fold_more crc_of seed words (2 * i + 1) [] second)
    ∙ by_pieces (take (2 * i + 1 + 1) words) seed
    ∙ ap (λ (k : ℕ). crc_of seed (concat (take k words))) two

-- the last word of an odd number
pub last_one : (seed : ℕ) (words : List (List ℕ)) (i state : ℕ) → i ≡ length words / 2 → length words % 2 ≡ 1 → state ≡ crc_of seed (concat (take (2 * i) words))
    → crc_of state (get_or words (length words - 1) []) ≡ crc_of seed (concat words)
last_one seed words i state half odd e =
    let there : 2 * i < length words = omega arith in
    let all : length words ≤ 2 * i + 1 = omega arith in
    let last : length words - 1 ≡ 2 * i = omega arith in
    ap (λ (k : ℕ). crc_of state (get_or words k [])) last
    ∙ ap (λ (s : ℕ). crc_of s (get_or words (2 * i) [])) (e ∙ sym (by_pieces (take (2 * i) words) seed))
    ∙ sym (fold_more crc_of seed words (2 * i) [] there)
    ∙ by_pieces (take (2 * i + 1) words) seed
    ∙ ap (λ (l : List (List ℕ)). crc_of seed (concat l)) (take_all (2 * i + 1) words all)

-- a list is its pieces of eight, and what is left behind them
pub parted : (k : ℕ) (bytes : List ℕ) → concat (first_chunks 8 k bytes) ++ drop (k * 8) bytes ≡ bytes
parted zero bytes = refl
parted (suc k) bytes =
    let e : suc k * 8 ≡ 8 + k * 8 = omega arith in
    append_assoc (take 8 bytes) (concat (first_chunks 8 k (drop 8 bytes))) (drop (suc k * 8) bytes)
    ∙ ap (λ (xs : List ℕ). take 8 bytes ++ (concat (first_chunks 8 k (drop 8 bytes)) ++ xs)) (ap (λ (n : ℕ). drop n bytes) e ∙ sym (drop-drop (k * 8) 8 bytes))
    ∙ ap (λ (xs : List ℕ). take 8 bytes ++ xs) (parted k (drop 8 bytes))
    ∙ take-append-drop 8 bytes
