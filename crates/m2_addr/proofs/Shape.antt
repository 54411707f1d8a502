-- Addresses are read exactly.
use Rattle.std.proofs.Common.{◌≡◌, ◌≢◌, ℕ, ◌^◌, ◌<◌, ◌≤◌, Bool, true, false, not, ◌&&◌, eqb, leb, List, [], ◌∷◌, ◌++◌, length, get_or, take, drop, Result, Ok, Err, inl, inr, refl, sym, ap, subst, ◌∙◌, append_assoc, arith}
use Rattle.std.specs.Int.{w32, to_le_bytes}
use Rattle.std.proofs.lemmas.Bool.{cases_lt, eq-eqb, ne_eqb}
use Rattle.std.proofs.lemmas.Bool.Decides.{nat_tests}
use Rattle.std.proofs.lemmas.List.{length-append, length-take, take-append-drop, get_or_past, get_or_append_left}
use Rattle.m2_addr.specs.declared.addr.Addr.{Addr}
use Rattle.m2_addr.specs.declared.addr.AnyAddr.{AnyAddr}
use Rattle.m2_addr.specs.declared.addr.AnyAddr.TheVariants.{V4, Other}
use Rattle.m2_addr.specs.declared.fault.AddrFault.{AddrFault}
use Rattle.m2_addr.specs.declared.fault.AddrFault.TheVariants.{Short, BadMarker, BadLength, NotIpv4, NoMsgr2, TooMany, NoMemory}
use Rattle.m2_bytes.specs.Blob.{Contents}
use Rattle.m2_addr.specs.Reading.{◌>>=◌, prefix}
use Rattle.m2_addr.specs.Grammar.{IsBytes, ◌▹◌, IsByte, IsNumber, IsText, Marked}
use Rattle.m2_addr.specs.Addr.{Shape, IsShape, TakesShape, TakesAddress, IsSound, IsWellFormed, bare, any_text, head_text, text_of, is_ipv4, ipv4_of, seen, IsAddress, head_at, socket_at, body_at, body_of, shape_at, address_at, ipv4_at}
use Rattle.m2_addr.specs.Outcome.{Fails, GivesFront}
use Rattle.m2_addr.proofs.Exact.{bind_ok, ok_is, Took, IsExact, wide32, number_exact, byte_exact, prefix_exact, bind_exact, checked_exact, marked_exact, seq_exact, image_exact, same_exact}
use Rattle.m2_bytes.proofs.m2_lemmas.Numbers.{tested_isnt_zero, not_zero_is_tested}

-- ---- tests

not_one : (n : ℕ) → not (eqb n 1) ≡ true → n ≢ 1
not_one n e is = let t = eq-eqb n 1 is in absurd (cc (e, t))

-- ---- parts of the text

abbrev Head : ℕ × ℕ → List ℕ → Type 0
Head h = Marked 1 ((λ t. IsByte h.0 t × (not (eqb h.0 0) ≡ true)) ▹ Marked 1 (λ t. IsNumber w32 h.1 t × ((leb 12 h.1 && leb h.1 4096) ≡ true)))

head_exact : IsExact head_at Head
unfolding head_at
head_exact = marked_exact 1 Short BadMarker (seq_exact (checked_exact (λ v. not (eqb v 0)) BadMarker (byte_exact Short)) (marked_exact 1 Short BadMarker (checked_exact (λ n. leb 12 n && leb n 4096) BadLength (number_exact w32 wide32 Short))))

abbrev Socket : List ℕ → List ℕ → Type 0
Socket s text = (n : ℕ) × ((λ t. IsNumber w32 n t × (not (eqb n 1) ≡ true)) ▹ (λ t. IsText s t × (length s ≡ n))) text

socket_exact : IsExact socket_at Socket
unfolding socket_at
socket_exact = bind_exact {k = λ n. prefix n BadLength} (checked_exact (λ n. not (eqb n 1)) BadLength (number_exact w32 wide32 Short)) (λ n. prefix_exact n BadLength)

abbrev Body : ℕ × (ℕ × List ℕ) → List ℕ → Type 0
Body b = IsNumber w32 b.0 ▹ (IsNumber w32 b.1.0 ▹ Socket b.1.1)

body_exact : IsExact body_at Body
body_exact = seq_exact (number_exact w32 wide32 Short) (seq_exact (number_exact w32 wide32 Short) socket_exact)

-- ---- the shape

bounds : (n : ℕ) → (leb 12 n && leb n 4096) ≡ true → (12 ≤ n) × (n ≤ 4096)
bounds n e = grind (arith, nat_tests)

tests_bounds : (n : ℕ) → 12 ≤ n → n ≤ 4096 → (leb 12 n && leb n 4096) ≡ true
tests_bounds n low high = grind (arith, nat_tests)

one_fails : (n : ℕ) → n ≢ 1 → not (eqb n 1) ≡ true
one_fails n h = rw (ne_eqb n 1 h) refl

-- what the parts of a text make of it
head_is : (h : ℕ × ℕ) (text : List ℕ) → Head h text → (text ≡ 1 ∷ h.0 ∷ 1 ∷ to_le_bytes w32 h.1) × (h.0 ≢ 0) × (h.0 < 256) × (12 ≤ h.1) × (h.1 ≤ 4096)
head_is h text (back, (x, y, p, (z, q, e3), e2), e1) =
    let b = bounds h.1 q.1 in
    (e1 ∙ ap (λ (t : List ℕ). 1 ∷ t) (e2 ∙ ap (λ (t : List ℕ). t ++ y) p.0.0) ∙ ap (λ (t : List ℕ). 1 ∷ h.0 ∷ t) (e3 ∙ ap (λ (t : List ℕ). 1 ∷ t) q.0.0), tested_isnt_zero h.0 p.1, p.0.1, b.0, b.1)

text_head : (version length : ℕ) → version ≢ 0 → version < 256 → 12 ≤ length → length ≤ 4096 → Head (version, length) (1 ∷ version ∷ 1 ∷ to_le_bytes w32 length)
text_head version length some small low high =
    (version ∷ 1 ∷ to_le_bytes w32 length, (version ∷ [], 1 ∷ to_le_bytes w32 length, ((refl, small), not_zero_is_tested version some), (to_le_bytes w32 length, ((refl, omega arith), tests_bounds length low high), refl), refl), refl)

body_text : (b : ℕ × (ℕ × List ℕ)) (text more : List ℕ) → Body b text → (text ++ more ≡ to_le_bytes w32 b.0 ++ (to_le_bytes w32 b.1.0 ++ (to_le_bytes w32 (length b.1.1) ++ (b.1.1 ++ more)))) × (b.0 < 2 ^ 32) × (b.1.0 < 2 ^ 32) × (length b.1.1 ≢ 1)
body_text b text more (x1, y1, p1, (x2, y2, p2, (n, (x3, y3, p3, p4, e3)), e2), e1) =
    let s = b.1.1 in
    let third : y2 ≡ to_le_bytes w32 (length s) ++ s = e3 ∙ rw (p3.0.0, p4.0, p4.1) refl in
    let second : y1 ≡ to_le_bytes w32 b.1.0 ++ (to_le_bytes w32 (length s) ++ s) = e2 ∙ rw (p2.0, third) refl in
    let whole : text ≡ to_le_bytes w32 b.0 ++ (to_le_bytes w32 b.1.0 ++ (to_le_bytes w32 (length s) ++ s)) = e1 ∙ rw (p1.0, second) refl in
    (ap (λ (t : List ℕ). t ++ more) whole ∙ simp append_assoc, p1.1, p2.1, rw p4.1 (not_one n p3.1))

text_body : (kind nonce : ℕ) (socket : List ℕ) → kind < 2 ^ 32 → nonce < 2 ^ 32 → length socket ≢ 1 → length socket < 2 ^ 32
    → Body (kind, (nonce, socket)) (to_le_bytes w32 kind ++ (to_le_bytes w32 nonce ++ (to_le_bytes w32 (length socket) ++ socket)))
text_body kind nonce socket k n some small =
    (to_le_bytes w32 kind, to_le_bytes w32 nonce ++ (to_le_bytes w32 (length socket) ++ socket), (refl, k), (to_le_bytes w32 nonce, to_le_bytes w32 (length socket) ++ socket, (refl, n), (length socket, (to_le_bytes w32 (length socket), socket, ((refl, small), one_fails (length socket) some), (refl, refl), refl)), refl), refl)

-- the prefix of bytes is bytes
fits_prefix : (bytes x rest text : List ℕ) → bytes ≡ text ++ rest → text ≡ x → IsBytes bytes → IsBytes x
fits_prefix bytes x rest text parts is fits i =
    elim (cases_lt i (length x)) [
      | inl lt ↦ let h : get_or (x ++ rest) i 0 ≡ get_or x i 0 = get_or_append_left x rest 0 i lt in rw (← h, ← is, ← parts) (fits i)
      | inr le ↦ rw (get_or_past x i 0 le) (omega arith)
    ]

joined : (bytes head left text r rest : List ℕ) (version n : ℕ) → bytes ≡ head ++ left → head ≡ 1 ∷ version ∷ 1 ∷ to_le_bytes w32 n → left ≡ text ++ rest → text ≡ r → length r ≡ n
    → bytes ≡ (1 ∷ version ∷ 1 ∷ to_le_bytes w32 (length r) ++ r) ++ rest
joined bytes head left text r rest version n e1 e2 e3 e4 len =
    let prefix : List ℕ = 1 ∷ version ∷ 1 ∷ to_le_bytes w32 n in
    let one : bytes ≡ (prefix ++ r) ++ rest = e1 ∙ ap (λ (t : List ℕ). t ++ left) e2 ∙ ap (λ (t : List ℕ). prefix ++ t) (e3 ∙ ap (λ (t : List ℕ). t ++ rest) e4) ∙ sym (append_assoc prefix r rest) in
    one ∙ ap (λ (m : ℕ). (1 ∷ version ∷ 1 ∷ to_le_bytes w32 m ++ r) ++ rest) (sym len)

shape_takes : (bytes : List ℕ) (s : Shape) (rest : List ℕ) → IsBytes bytes → shape_at bytes ≡ Ok (s, rest) → Took IsShape bytes s rest
unfolding shape_at body_of
shape_takes bytes s rest fits e =
    let a = bind_ok (head_at bytes) (λ head. prefix head.0.1 Short head.1 >>= λ r. body_of r.0 >>= λ body. Ok (record { version = head.0.0; rest = r.0; kind = body.0; nonce = body.1.0; socket = body.1.1 }, r.1)) (s, rest) e in
    let h = a.0.0 in
    let b = bind_ok (prefix h.1 Short a.0.1) (λ r. body_of r.0 >>= λ body. Ok (record { version = h.0; rest = r.0; kind = body.0; nonce = body.1.0; socket = body.1.1 }, r.1)) (s, rest) a.2 in
    let c = bind_ok (body_of b.0.0) (λ body. Ok (record { version = h.0; rest = b.0.0; kind = body.0; nonce = body.1.0; socket = body.1.1 }, b.0.1)) (s, rest) b.2 in
    let d = bind_ok (body_at b.0.0) (λ body. Ok body.0) c.0 c.1 in
    let p = head_exact.takes bytes h a.0.1 fits a.1 in
    let q = (prefix_exact h.1 Short).takes a.0.1 b.0.0 b.0.1 p.rest_fits b.1 in
    let rest_fits : IsBytes b.0.0 = λ i. fits_prefix a.0.1 b.0.0 b.0.1 q.text q.parts q.spelled.0 p.rest_fits i in
    let r = body_exact.takes b.0.0 d.0.0 d.0.1 rest_fits d.1 in
    let body-is : d.0.0 ≡ c.0 = ok_is {F = AddrFault} d.0.0 c.0 d.2 in
    let spelled : Body c.0 r.text = subst (λ (x : ℕ × (ℕ × List ℕ)). Body x r.text) body-is r.spelled in
    let ht = head_is h p.text p.spelled in
    let bt = body_text c.0 r.text d.0.1 spelled in
    let shape : Shape = record { version = h.0; rest = b.0.0; kind = c.0.0; nonce = c.0.1.0; socket = c.0.1.1 } in
    let len : length b.0.0 ≡ h.1 = q.spelled.1 in
    let whole : bytes ≡ text_of shape ++ b.0.1 = joined bytes p.text a.0.1 q.text b.0.0 b.0.1 h.0 h.1 p.parts ht.0 q.parts q.spelled.0 len in
    let is : IsShape shape (text_of shape) = record { whole = refl; more = d.0.1; rest = r.parts ∙ bt.0; least = omega (arith, len, ht.3); most = omega (arith, len, ht.4); version = ht.1; version_fits = ht.2; kind = bt.1; nonce = bt.2; socket = bt.3 } in
    let took : Took IsShape bytes shape b.0.1 = record { text = text_of shape; parts = whole; spelled = is; rest_fits = q.rest_fits } in
    subst (λ (y : Shape × List ℕ). Took IsShape bytes y.0 y.1) (ok_is (shape, b.0.1) (s, rest) c.2) took

shape_again : (s : Shape) (text rest : List ℕ) → IsShape s text → shape_at (text ++ rest) ≡ Ok (s, rest)
unfolding shape_at body_of
shape_again s text rest is =
    let head : List ℕ = 1 ∷ s.version ∷ 1 ∷ to_le_bytes w32 (length s.rest) in
    let regrouped : text ++ rest ≡ head ++ (s.rest ++ rest) = ap (λ (t : List ℕ). t ++ rest) is.whole ∙ append_assoc head s.rest rest in
    let one : head_at (text ++ rest) ≡ Ok ((s.version, length s.rest), s.rest ++ rest) = ap head_at regrouped ∙ head_exact.again (s.version, length s.rest) head (s.rest ++ rest) (text_head s.version (length s.rest) is.version is.version_fits is.least is.most) in
    let two : prefix (length s.rest) Short (s.rest ++ rest) ≡ Ok (s.rest, rest) = (prefix_exact (length s.rest) Short).again s.rest s.rest rest (refl, refl) in
    let long : length s.socket < 2 ^ 32 = omega (arith, is.most, ap length is.rest, length-append (to_le_bytes w32 s.kind) (to_le_bytes w32 s.nonce ++ (to_le_bytes w32 (length s.socket) ++ (s.socket ++ is.more))), length-append (to_le_bytes w32 s.nonce) (to_le_bytes w32 (length s.socket) ++ (s.socket ++ is.more)), length-append (to_le_bytes w32 (length s.socket)) (s.socket ++ is.more), length-append s.socket is.more) in
    let body : List ℕ = to_le_bytes w32 s.kind ++ (to_le_bytes w32 s.nonce ++ (to_le_bytes w32 (length s.socket) ++ s.socket)) in
    let split : s.rest ≡ body ++ is.more = is.rest ∙ sym (simp append_assoc) in
    let three : body_at s.rest ≡ Ok ((s.kind, (s.nonce, s.socket)), is.more) = ap body_at split ∙ body_exact.again (s.kind, (s.nonce, s.socket)) body is.more (text_body s.kind s.nonce s.socket is.kind is.nonce is.socket long) in
    rw (one, two, three) refl

pub shape_exact : IsExact shape_at IsShape
shape_exact = record { takes = shape_takes; again = shape_again }

pub address_exact : IsExact address_at IsAddress
address_exact = image_exact seen shape_exact

-- ---- for the code, which knows that what it holds are bytes

pub is_shape : (s : Shape) (version n : ℕ) (rest : List ℕ) → IsBytes rest → body_of rest ≡ Ok (s.kind, (s.nonce, s.socket)) → s.rest ≡ rest → s.version ≡ version → length rest ≡ n → version < 256 → version ≢ 0 → 12 ≤ n → n ≤ 4096 → IsShape s (text_of s)
unfolding body_of
is_shape s version n rest fits e r-is v-is len small some low high =
    let b : ℕ × (ℕ × List ℕ) = (s.kind, (s.nonce, s.socket)) in
    let d = bind_ok (body_at rest) (λ body. Ok body.0) b e in
    let r = body_exact.takes rest d.0.0 d.0.1 fits d.1 in
    let spelled : Body b r.text = subst (λ (x : ℕ × (ℕ × List ℕ)). Body x r.text) (ok_is {F = AddrFault} d.0.0 b d.2) r.spelled in
    let t = body_text b r.text d.0.1 spelled in
    record { whole = refl; more = d.0.1; rest = r-is ∙ r.parts ∙ t.0; least = omega (arith, ap length r-is); most = omega (arith, ap length r-is); version = λ (z : s.version ≡ 0). some (sym v-is ∙ z); version_fits = omega arith; kind = t.1; nonce = t.2; socket = t.3 }

pub takes_shape : (bytes mid new : List ℕ) (version n : ℕ) (s : Shape) → IsShape s (text_of s) → bytes ≡ 1 ∷ version ∷ 1 ∷ to_le_bytes w32 n ++ mid → n ≤ length mid → s.version ≡ version → s.rest ≡ take n mid → new ≡ drop n mid → TakesShape s bytes new
takes_shape bytes mid new version n s is e long v-is r-is n-is =
    let len : length s.rest ≡ n = omega (arith, ap length r-is, length-take n mid) in
    let head-is : head_text (version, n) ≡ head_text (s.version, length s.rest) = rw (v-is, len) refl in
    let mid-is : mid ≡ s.rest ++ new = rw (r-is, n-is) (sym (take-append-drop n mid)) in
    (is, e ∙ ap (λ (t : List ℕ). t ++ mid) head-is ∙ ap (λ (t : List ℕ). head_text (s.version, length s.rest) ++ t) mid-is ∙ sym (append_assoc (head_text (s.version, length s.rest)) s.rest new))

-- ---- what was found

pub found_as : (s : Shape) (a : AnyAddr) (bytes rest : List ℕ) → TakesShape s bytes rest → a ≡ seen s → TakesAddress a bytes rest
found_as s a bytes rest taken is = (text_of s, (s, taken.0, is), taken.1)

pub seen_ipv4 : (s : Shape) → is_ipv4 s ≡ true → V4 (ipv4_of s) ≡ seen s
seen_ipv4 s e = rw e refl

pub seen_other : (s : Shape) → is_ipv4 s ≡ false → Other (record { bytes = text_of s; room = 0 }) ≡ seen s
seen_other s e = rw e refl

-- the bytes of any other address are a text of it
pub sound_other : (s : Shape) (b : Contents) → IsShape s (text_of s) → is_ipv4 s ≡ false → b.bytes ≡ text_of s → IsSound (Other b)
sound_other s b is e same = (s, rw same is, rw (same, e) refl)

ipv4_of_v4 : (a : Addr) (s : Shape) (it : Bool) → is_ipv4 s ≡ it → V4 a ≡ seen s → (is_ipv4 s ≡ true) × (a ≡ ipv4_of s)
ipv4_of_v4 a s true e same = let is : V4 a ≡ V4 (ipv4_of s) = same ∙ rw e refl in (e, cc)
ipv4_of_v4 a s false e same = let wrong : V4 a ≡ Other (record { bytes = text_of s; room = 0 }) = same ∙ rw e refl in absurd cc

other_is_not : (b : Contents) (s : Shape) (it : Bool) → is_ipv4 s ≡ it → Other b ≡ seen s → is_ipv4 s ≡ false
other_is_not b s true e same = let wrong : Other b ≡ V4 (ipv4_of s) = same ∙ rw e refl in absurd cc
other_is_not b s false e same = e

-- an IPv4 address that was written is read as it, any other is refused
pub ipv4_again : (a : Addr) (text rest : List ℕ) → IsAddress (V4 a) text → ipv4_at (text ++ rest) ≡ Ok (a, rest)
ipv4_again a text rest (s, is, same) =
    let it = ipv4_of_v4 a s (is_ipv4 s) refl same in
    rw (shape_again s text rest is, it.0, it.1) refl

pub other_refused : (b : Contents) (text rest : List ℕ) → IsAddress (Other b) text → ipv4_at (text ++ rest) ≡ Err NotIpv4
other_refused b text rest (s, is, same) = rw (shape_again s text rest is, other_is_not b s (is_ipv4 s) refl same) refl

-- ---- from what reading gives to what was returned

pub fails : {Y : Type 0} (e : AddrFault) (read : Result Y AddrFault) → read ≡ Err e → Fails e read
fails Short read h = h
fails BadMarker read h = h
fails BadLength read h = h
fails NotIpv4 read h = h
fails NoMsgr2 read h = h
fails TooMany read h = h
fails NoMemory read h = tt

pub is_given : (r : Result Addr AddrFault) (new : List ℕ) (a : Addr) (rest : List ℕ) → GivesFront (λ x. x) r new (Ok (a, rest)) → (r ≡ Ok a) × (new ≡ rest)
is_given (Ok x) new a rest given =
    let same : (x, new) ≡ (a, rest) = sym (ok_is {F = AddrFault} (a, rest) (x, new) given) in
    (ap (λ (p : Addr × List ℕ). let r : Result Addr AddrFault = Ok p.0 in r) same, ap (λ (p : Addr × List ℕ). p.1) same)
is_given (Err e) new a rest given = absurd cc

pub is_refused : (r : Result Addr AddrFault) (new : List ℕ) (e : AddrFault) → GivesFront (λ x. x) r new (Err e) → r ≡ Err e
is_refused (Ok x) new e given = absurd cc
is_refused (Err d) new e given = cc

ipv4_there : (a : Addr) (text : List ℕ) → (s : Shape) × (IsShape s text × (is_ipv4 s ≡ true)) × (a ≡ ipv4_of s) → IsAddress (V4 a) text
ipv4_there a text (s, (is, it), same) = (s, is, ap (λ (x : Addr). V4 x) same ∙ seen_ipv4 s it)

ipv4_back : (a : Addr) (text : List ℕ) → IsAddress (V4 a) text → (s : Shape) × (IsShape s text × (is_ipv4 s ≡ true)) × (a ≡ ipv4_of s)
ipv4_back a text (s, is, same) = let it = ipv4_of_v4 a s (is_ipv4 s) refl same in (s, (is, it.0), it.1)

pub ipv4_exact : IsExact ipv4_at (λ a. IsAddress (V4 a))
ipv4_exact = same_exact (λ a. IsAddress (V4 a)) (image_exact ipv4_of (checked_exact is_ipv4 NotIpv4 shape_exact)) ipv4_there ipv4_back

bare_seen : (s : Shape) (it : Bool) → is_ipv4 s ≡ it → bare (seen s) ≡ seen s
bare_seen s true e = rw e refl
bare_seen s false e = rw e refl

-- an address that is spelled by a text lies nowhere in memory
pub address_bare : (a : AnyAddr) (text : List ℕ) → IsAddress a text → bare a ≡ a
address_bare a text (s, is, same) = ap bare same ∙ bare_seen s (is_ipv4 s) refl ∙ sym same

pub bare_twice : (a : AnyAddr) → bare (bare a) ≡ bare a
bare_twice (V4 a) = refl
bare_twice (Other b) = refl

-- an address that was read is well-formed
pub formed : (a : AnyAddr) (text : List ℕ) → IsAddress (bare a) text → IsWellFormed a
formed (V4 a) text is = tt
formed (Other b) text (s, is, same) =
    let plain : Contents = record { bytes = b.bytes; room = 0 } in
    let other : is_ipv4 s ≡ false = other_is_not plain s (is_ipv4 s) refl same in
    let bytes : b.bytes ≡ text_of s = ap any_text (same ∙ sym (seen_other s other)) in
    (s, subst (λ (t : List ℕ). IsShape s t) (is.whole ∙ sym bytes) is, same)
