-- A reader is exact for a grammar where what it takes is a text of the value, and each text of a value is read
-- as that value, whatever follows. Each way to put readers together keeps this.
use Rattle.std.proofs.Common.{◌≡◌, ℕ, suc, ◌+◌, ◌^◌, ◌<◌, ◌≤◌, Bool, true, false, cond, ltb, eqb, List, [], ◌∷◌, ◌++◌, length, take, drop, Result, Ok, Err, refl, sym, ap, subst, ◌∙◌, append_assoc, arith, inl, inr}
use Rattle.std.specs.Int.{Width, w8, w16, w32, w64, byte_len, from_le_bytes, to_le_bytes}
use Rattle.std.proofs.lemmas.Bool.{cases_lt, ltb-false, le-ltb, eqb-true, eq-eqb}
use Rattle.std.proofs.lemmas.List.{take_at, drop_at, take-append-drop, length-append, length-take, get_or-drop, get_or-take, get_or_past}
use Rattle.std.proofs.lemmas.Nat.{le_bytes_2, le_bytes_4, le_bytes_8, from_le_bytes-to_le_bytes_2, from_le_bytes-to_le_bytes_4, from_le_bytes-to_le_bytes_8}
use Rattle.m2_addr.specs.Reading.{◌>>=◌, number, prefix, checked, marked, ◌⊳◌, made}
use Rattle.m2_addr.specs.Grammar.{IsBytes, ◌▹◌, IsByte, IsNumber, IsText, Marked}

pub IsBytes-drop : (n : ℕ) (bytes : List ℕ) → IsBytes bytes → IsBytes (drop n bytes)
IsBytes-drop n bytes h i = rw get_or-drop (h (n + i))

pub IsBytes-take : (n : ℕ) (bytes : List ℕ) → IsBytes bytes → IsBytes (take n bytes)
IsBytes-take n bytes h i =
    elim (cases_lt i n) [
      | inl lt ↦ rw (get_or-take n bytes i 0 lt) (h i)
      | inr le ↦ rw (get_or_past (take n bytes) i 0 (omega (arith, length-take n bytes))) (omega arith)
    ]

-- ---- steps that did not fail

pub bind_ok : {A B F : Type 0} (r : Result A F) (f : A → Result B F) (y : B) → (r >>= f) ≡ Ok y → (x : A) × (r ≡ Ok x) × (f x ≡ Ok y)
bind_ok (Ok x) f y e = (x, refl, e)
bind_ok (Err d) f y e = absurd cc

pub guard_ok : {A F : Type 0} (b : Bool) (d : F) (x y : A) → cond b (Err d) (Ok x) ≡ Ok y → (b ≡ false) × (x ≡ y)
guard_ok true d x y e = absurd cc
guard_ok false d x y e = (refl, cc)

pub test_ok : {A F : Type 0} (b : Bool) (d : F) (r : Result A F) (y : A) → cond b r (Err d) ≡ Ok y → (b ≡ true) × (r ≡ Ok y)
test_ok true d r y e = (refl, e)
test_ok false d r y e = absurd cc

pub ok_is : {A F : Type 0} (x y : A) → (let r : Result A F = Ok x in r) ≡ Ok y → x ≡ y
ok_is x y e = cc

-- ---- exact readers

-- what a reader took from the front
pub record Took {A : Type 0} (Spells : A → List ℕ → Type 0) (bytes : List ℕ) (a : A) (rest : List ℕ) : Type 0 where
  pub text : List ℕ
  pub parts : bytes ≡ text ++ rest
  pub spelled : Spells a text
  pub rest_fits : IsBytes rest

pub record IsExact {A F : Type 0} (read : List ℕ → Result (A × List ℕ) F) (Spells : A → List ℕ → Type 0) : Type 0 where
  pub takes : (bytes : List ℕ) (a : A) (rest : List ℕ) → IsBytes bytes → read bytes ≡ Ok (a, rest) → Took Spells bytes a rest
  pub again : (a : A) (text rest : List ℕ) → Spells a text → read (text ++ rest) ≡ Ok (a, rest)

-- ---- numbers and bytes

pub record IsWide (w : Width) : Type 0 where
  pub len : (n : ℕ) → length (to_le_bytes w n) ≡ byte_len w
  pub back : (bytes : List ℕ) → length bytes ≡ byte_len w → IsBytes bytes → to_le_bytes w (from_le_bytes w bytes) ≡ bytes
  pub again : (n : ℕ) → n < 256 ^ byte_len w → from_le_bytes w (to_le_bytes w n) ≡ n
  pub below : (bytes : List ℕ) → IsBytes bytes → from_le_bytes w bytes < 256 ^ byte_len w

pub wide16 : IsWide w16
wide16 = record {
  len = λ n. refl;
  back = λ bytes len fits. le_bytes_2 bytes _ len fits refl;
  again = λ n lt. from_le_bytes-to_le_bytes_2 n lt;
  below = λ bytes fits. omega (arith, fits 0, fits 1);
}

pub wide32 : IsWide w32
wide32 = record {
  len = λ n. refl;
  back = λ bytes len fits. le_bytes_4 bytes _ len fits refl;
  again = λ n lt. from_le_bytes-to_le_bytes_4 n lt;
  below = λ bytes fits. omega (arith, fits 0, fits 1, fits 2, fits 3);
}

pub wide64 : IsWide w64
wide64 = record {
  len = λ n. refl;
  back = λ bytes len fits. le_bytes_8 bytes _ len fits refl;
  again = λ n lt. from_le_bytes-to_le_bytes_8 n lt;
  below = λ bytes fits. omega (arith, fits 0, fits 1, fits 2, fits 3, fits 4, fits 5, fits 6, fits 7);
}

number_takes : {F : Type 0} (w : Width) (wide : IsWide w) (short : F) (bytes : List ℕ) (n : ℕ) (rest : List ℕ) → IsBytes bytes → number w short bytes ≡ Ok (n, rest) → Took (IsNumber w) bytes n rest
number_takes w wide short bytes n rest fits e =
    let g = guard_ok (ltb (length bytes) (byte_len w)) short (from_le_bytes w (take (byte_len w) bytes), drop (byte_len w) bytes) (n, rest) e in
    let long : byte_len w ≤ length bytes = ltb-false _ _ g.0 in
    let n-is : from_le_bytes w (take (byte_len w) bytes) ≡ n = ap (λ (p : ℕ × List ℕ). p.0) g.1 in
    let rest-is : drop (byte_len w) bytes ≡ rest = ap (λ (p : ℕ × List ℕ). p.1) g.1 in
    let fits-prefix = IsBytes-take (byte_len w) bytes fits in
    let prefix-is : to_le_bytes w n ≡ take (byte_len w) bytes = rw (← n-is) (wide.back (take (byte_len w) bytes) (omega (arith, length-take (byte_len w) bytes)) fits-prefix) in
    record { text = to_le_bytes w n; parts = rw (prefix-is, ← rest-is) (sym (take-append-drop (byte_len w) bytes)); spelled = (refl, rw (← n-is) (wide.below (take (byte_len w) bytes) fits-prefix)); rest_fits = rw (← rest-is) (IsBytes-drop (byte_len w) bytes fits) }

number_again : {F : Type 0} (w : Width) (wide : IsWide w) (short : F) (n : ℕ) (text rest : List ℕ) → IsNumber w n text → number w short (text ++ rest) ≡ Ok (n, rest)
number_again w wide short n text rest spelled =
    let len = wide.len n in
    let long : ltb (length (to_le_bytes w n ++ rest)) (byte_len w) ≡ false = le-ltb _ _ (omega (arith, length-append (to_le_bytes w n) rest)) in
    rw (spelled.0, long, take_at (to_le_bytes w n) rest (byte_len w) len, drop_at (to_le_bytes w n) rest (byte_len w) len, wide.again n spelled.1) refl

pub number_exact : {F : Type 0} (w : Width) (wide : IsWide w) (short : F) → IsExact (number w short) (IsNumber w)
number_exact w wide short = record { takes = number_takes w wide short; again = number_again w wide short }

byte_front : {F : Type 0} (short : F) (b : ℕ) (bytes : List ℕ) → number w8 short (b ∷ bytes) ≡ Ok (b, bytes)
byte_front short b bytes =
    let long : ltb (length (b ∷ bytes)) 1 ≡ false = le-ltb _ _ (omega arith) in
    rw long refl

byte_takes : {F : Type 0} (short : F) (bytes : List ℕ) (n : ℕ) (rest : List ℕ) → IsBytes bytes → number w8 short bytes ≡ Ok (n, rest) → Took IsByte bytes n rest
byte_takes short [] n rest fits e = absurd cc
byte_takes short (b ∷ bytes) n rest fits e =
    let same : (b, bytes) ≡ (n, rest) = ok_is (b, bytes) (n, rest) (sym (byte_front short b bytes) ∙ e) in
    let b-is : b ≡ n = ap (λ (p : ℕ × List ℕ). p.0) same in
    let rest-is : bytes ≡ rest = ap (λ (p : ℕ × List ℕ). p.1) same in
    record { text = n ∷ []; parts = rw (b-is, rest-is) refl; spelled = (refl, rw (← b-is) (fits 0)); rest_fits = rw (← rest-is) (λ i. fits (suc i)) }

pub byte_exact : {F : Type 0} (short : F) → IsExact (number w8 short) IsByte
byte_exact {F = F} short = record { takes = byte_takes short; again = λ n text rest spelled. ap (λ (t : List ℕ). let r : Result (ℕ × List ℕ) F = number w8 short (t ++ rest) in r) spelled.0 ∙ byte_front short n rest }

prefix_takes : {F : Type 0} (n : ℕ) (short : F) (bytes x rest : List ℕ) → IsBytes bytes → prefix n short bytes ≡ Ok (x, rest) → Took (λ y text. IsText y text × (length y ≡ n)) bytes x rest
prefix_takes n short bytes x rest fits e =
    let g = guard_ok (ltb (length bytes) n) short (take n bytes, drop n bytes) (x, rest) e in
    let long : n ≤ length bytes = ltb-false _ _ g.0 in
    let x-is : take n bytes ≡ x = ap (λ (p : List ℕ × List ℕ). p.0) g.1 in
    let rest-is : drop n bytes ≡ rest = ap (λ (p : List ℕ × List ℕ). p.1) g.1 in
    let len : length (take n bytes) ≡ n = omega (arith, length-take n bytes) in
    record { text = x; parts = rw (← x-is, ← rest-is) (sym (take-append-drop n bytes)); spelled = (refl, rw (← x-is) len); rest_fits = rw (← rest-is) (IsBytes-drop n bytes fits) }

prefix_again : {F : Type 0} (n : ℕ) (short : F) (x text rest : List ℕ) → IsText x text × (length x ≡ n) → prefix n short (text ++ rest) ≡ Ok (x, rest)
prefix_again n short x text rest spelled =
    let long : ltb (length (x ++ rest)) n ≡ false = le-ltb _ _ (omega (arith, length-append x rest, spelled.1)) in
    rw (spelled.0, long, take_at x rest n spelled.1, drop_at x rest n spelled.1) refl

pub prefix_exact : {F : Type 0} (n : ℕ) (short : F) → IsExact (prefix n short) (λ x text. IsText x text × (length x ≡ n))
prefix_exact n short = record { takes = prefix_takes n short; again = prefix_again n short }

-- ---- ways to put readers together

bind_takes : {A B F : Type 0} (r : List ℕ → Result (A × List ℕ) F) (S : A → List ℕ → Type 0) (k : A → List ℕ → Result (B × List ℕ) F) (T : A → B → List ℕ → Type 0)
    → IsExact r S → ((a : A) → IsExact (k a) (T a)) → (bytes : List ℕ) (b : B) (rest : List ℕ) → IsBytes bytes → (r bytes >>= λ x. k x.0 x.1) ≡ Ok (b, rest) → Took (λ c text. (a : A) × (S a ▹ T a c) text) bytes b rest
bind_takes r S k T first second bytes b rest fits e =
    let a = bind_ok (r bytes) (λ x. k x.0 x.1) (b, rest) e in
    let p = first.takes bytes a.0.0 a.0.1 fits a.1 in
    let q = (second a.0.0).takes a.0.1 b rest p.rest_fits a.2 in
    record { text = p.text ++ q.text; parts = p.parts ∙ ap (λ (t : List ℕ). p.text ++ t) q.parts ∙ sym (append_assoc p.text q.text rest); spelled = (a.0.0, (p.text, q.text, p.spelled, q.spelled, refl)); rest_fits = q.rest_fits }

bind_again : {A B F : Type 0} (r : List ℕ → Result (A × List ℕ) F) (S : A → List ℕ → Type 0) (k : A → List ℕ → Result (B × List ℕ) F) (T : A → B → List ℕ → Type 0)
    → IsExact r S → ((a : A) → IsExact (k a) (T a)) → (b : B) (text rest : List ℕ) → ((a : A) × (S a ▹ T a b) text) → (r (text ++ rest) >>= λ x. k x.0 x.1) ≡ Ok (b, rest)
bind_again r S k T first second b text rest (a, (x, y, p, q, e)) =
    let regrouped : text ++ rest ≡ x ++ (y ++ rest) = ap (λ (t : List ℕ). t ++ rest) e ∙ append_assoc x y rest in
    let one : r (text ++ rest) ≡ Ok (a, y ++ rest) = ap r regrouped ∙ first.again a x (y ++ rest) p in
    rw one ((second a).again b y rest q)

pub bind_exact : {A B F : Type 0} {r : List ℕ → Result (A × List ℕ) F} {S : A → List ℕ → Type 0} {k : A → List ℕ → Result (B × List ℕ) F} {T : A → B → List ℕ → Type 0}
    → IsExact r S → ((a : A) → IsExact (k a) (T a)) → IsExact (λ bytes. r bytes >>= λ x. k x.0 x.1) (λ b text. (a : A) × (S a ▹ T a b) text)
bind_exact {r = r} {S = S} {k = k} {T = T} first second = record { takes = bind_takes r S k T first second; again = bind_again r S k T first second }

-- the same texts, said otherwise
pub same_exact : {A F : Type 0} {r : List ℕ → Result (A × List ℕ) F} {S : A → List ℕ → Type 0} (T : A → List ℕ → Type 0)
    → IsExact r S → ((a : A) (text : List ℕ) → S a text → T a text) → ((a : A) (text : List ℕ) → T a text → S a text) → IsExact r T
same_exact T exact there back = record {
  takes = λ bytes a rest fits e. let p = exact.takes bytes a rest fits e in record { text = p.text; parts = p.parts; spelled = there a p.text p.spelled; rest_fits = p.rest_fits };
  again = λ a text rest h. exact.again a text rest (back a text h);
}

pub checked_exact : {A F : Type 0} {r : List ℕ → Result (A × List ℕ) F} {S : A → List ℕ → Type 0} (test : A → Bool) (fault : F)
    → IsExact r S → IsExact (checked test fault r) (λ a text. S a text × (test a ≡ true))
checked_exact {A = A} {r = r} {S = S} test fault exact = record {
  takes = λ bytes a rest fits e.
      let x = bind_ok (r bytes) (λ x. cond (test x.0) (Ok x) (Err fault)) (a, rest) e in
      let g = test_ok (test x.0.0) fault (Ok x.0) (a, rest) x.2 in
      let same = ok_is x.0 (a, rest) g.1 in
      let p = exact.takes bytes a rest fits (x.1 ∙ g.1) in
      record { text = p.text; parts = p.parts; spelled = (p.spelled, subst (λ (y : A × List ℕ). test y.0 ≡ true) same g.0); rest_fits = p.rest_fits };
  again = λ a text rest h. rw (exact.again a text rest h.0, h.1) refl;
}

marked_takes : {A F : Type 0} (r : List ℕ → Result (A × List ℕ) F) (S : A → List ℕ → Type 0) (byte : ℕ) (short fault : F) → IsExact r S
    → (bytes : List ℕ) (a : A) (rest : List ℕ) → IsBytes bytes → marked byte short fault r bytes ≡ Ok (a, rest) → Took (λ a. Marked byte (S a)) bytes a rest
marked_takes r S byte short fault exact [] a rest fits e = absurd cc
marked_takes r S byte short fault exact (b ∷ bytes) a rest fits e =
    let one : cond (eqb b byte) (r bytes) (Err fault) ≡ Ok (a, rest) = sym (ap (λ x. x >>= λ x. cond (eqb x.0 byte) (r x.1) (Err fault)) (byte_front short b bytes)) ∙ e in
    let g = test_ok (eqb b byte) fault (r bytes) (a, rest) one in
    let q = exact.takes bytes a rest (λ i. fits (suc i)) g.1 in
    let is : b ≡ byte = eqb-true _ _ g.0 in
    let parts : b ∷ bytes ≡ byte ∷ (q.text ++ rest) = ap (λ (x : ℕ). x ∷ bytes) is ∙ ap (λ (t : List ℕ). byte ∷ t) q.parts in
    record { text = byte ∷ q.text; parts = parts; spelled = (q.text, q.spelled, refl); rest_fits = q.rest_fits }

marked_again : {A F : Type 0} (r : List ℕ → Result (A × List ℕ) F) (S : A → List ℕ → Type 0) (byte : ℕ) (short fault : F) → IsExact r S
    → (a : A) (text rest : List ℕ) → Marked byte (S a) text → marked byte short fault r (text ++ rest) ≡ Ok (a, rest)
marked_again r S byte short fault exact a text rest (back, spelled, is) =
    let same : eqb byte byte ≡ true = eq-eqb byte byte refl in
    ap (λ (t : List ℕ). marked byte short fault r (t ++ rest)) is ∙ rw (byte_front short byte (back ++ rest), same) (exact.again a back rest spelled)

pub marked_exact : {A F : Type 0} {r : List ℕ → Result (A × List ℕ) F} {S : A → List ℕ → Type 0} (byte : ℕ) (short fault : F)
    → IsExact r S → IsExact (marked byte short fault r) (λ a. Marked byte (S a))
marked_exact {r = r} {S = S} byte short fault exact = record { takes = marked_takes r S byte short fault exact; again = marked_again r S byte short fault exact }

regroup : (bytes x mid y rest : List ℕ) → bytes ≡ x ++ mid → mid ≡ y ++ rest → bytes ≡ (x ++ y) ++ rest
regroup bytes x mid y rest e f = e ∙ ap (λ (t : List ℕ). x ++ t) f ∙ sym (append_assoc x y rest)

pub seq_exact : {A B F : Type 0} {r : List ℕ → Result (A × List ℕ) F} {S : A → List ℕ → Type 0} {k : List ℕ → Result (B × List ℕ) F} {T : B → List ℕ → Type 0}
    → IsExact r S → IsExact k T → IsExact (r ⊳ k) (λ x. S x.0 ▹ T x.1)
seq_exact {A = A} {B = B} {r = r} {S = S} {k = k} {T = T} first second = record {
  takes = λ bytes x rest fits e.
      let a = bind_ok (r bytes) (λ a. k a.1 >>= λ b. Ok ((a.0, b.0), b.1)) (x, rest) e in
      let b = bind_ok (k a.0.1) (λ b. Ok ((a.0.0, b.0), b.1)) (x, rest) a.2 in
      let p = first.takes bytes a.0.0 a.0.1 fits a.1 in
      let q = second.takes a.0.1 b.0.0 b.0.1 p.rest_fits b.1 in
      let parts : bytes ≡ (p.text ++ q.text) ++ b.0.1 = regroup bytes p.text a.0.1 q.text b.0.1 p.parts q.parts in
      let made : Took (λ (y : A × B). S y.0 ▹ T y.1) bytes (a.0.0, b.0.0) b.0.1 = record { text = p.text ++ q.text; parts = parts; spelled = (p.text, q.text, p.spelled, q.spelled, refl); rest_fits = q.rest_fits } in
      subst (λ (y : (A × B) × List ℕ). Took (λ (z : A × B). S z.0 ▹ T z.1) bytes y.0 y.1) (ok_is ((a.0.0, b.0.0), b.0.1) (x, rest) b.2) made;
  again = λ x text rest (prefix, back, p, q, e).
      let regrouped : text ++ rest ≡ prefix ++ (back ++ rest) = ap (λ (t : List ℕ). t ++ rest) e ∙ append_assoc prefix back rest in
      let one : r (text ++ rest) ≡ Ok (x.0, back ++ rest) = ap r regrouped ∙ first.again x.0 prefix (back ++ rest) p in
      rw (one, second.again x.1 back rest q) refl;
}

-- a value made of what is read, which gives it back
pub made_exact : {A B F : Type 0} {r : List ℕ → Result (A × List ℕ) F} {S : A → List ℕ → Type 0} (make : A → B) (unmake : B → A)
    → ((b : B) → make (unmake b) ≡ b) → ((a : A) → unmake (make a) ≡ a) → IsExact r S → IsExact (made make r) (λ b. S (unmake b))
made_exact {A = A} {B = B} {r = r} {S = S} make unmake there back exact = record {
  takes = λ bytes b rest fits e.
      let a = bind_ok (r bytes) (λ a. Ok (make a.0, a.1)) (b, rest) e in
      let p = exact.takes bytes a.0.0 a.0.1 fits a.1 in
      let it : Took (λ (y : B). S (unmake y)) bytes (make a.0.0) a.0.1 = record { text = p.text; parts = p.parts; spelled = subst (λ (z : A). S z p.text) (sym (back a.0.0)) p.spelled; rest_fits = p.rest_fits } in
      subst (λ (y : B × List ℕ). Took (λ (z : B). S (unmake z)) bytes y.0 y.1) (ok_is (make a.0.0, a.0.1) (b, rest) a.2) it;
  again = λ b text rest h. rw (exact.again (unmake b) text rest h, there b) refl;
}

-- a value made of what is read, which may not give it back
pub image_exact : {A B F : Type 0} {r : List ℕ → Result (A × List ℕ) F} {S : A → List ℕ → Type 0} (make : A → B)
    → IsExact r S → IsExact (made make r) (λ b text. (a : A) × S a text × (b ≡ make a))
image_exact {A = A} {B = B} {r = r} {S = S} make exact = record {
  takes = λ bytes b rest fits e.
      let a = bind_ok (r bytes) (λ a. Ok (make a.0, a.1)) (b, rest) e in
      let p = exact.takes bytes a.0.0 a.0.1 fits a.1 in
      let it : Took (λ (y : B) text. (z : A) × S z text × (y ≡ make z)) bytes (make a.0.0) a.0.1 = record { text = p.text; parts = p.parts; spelled = (a.0.0, p.spelled, refl); rest_fits = p.rest_fits } in
      subst (λ (y : B × List ℕ). Took (λ (z : B) text. (w : A) × S w text × (z ≡ make w)) bytes y.0 y.1) (ok_is (make a.0.0, a.0.1) (b, rest) a.2) it;
  again = λ b text rest (a, h, is). rw (exact.again a text rest h, is) refl;
}
