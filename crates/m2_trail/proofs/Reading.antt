-- What is read of an ask keeps the bounds of its fields.
use Rattle.std.proofs.Common.{◌≡◌, ◌≢◌, ℕ, ◌+◌, ◌≤◌, Bool, true, false, not, ◌==◌, List, length, if◌then◌else◌, Result, Ok, Err, refl, sym, ap, ◌∙◌, subst}
use Rattle.std.proofs.lemmas.Bool.{leb-true, eq-eqb}
use Rattle.std.specs.Int.{w64}
use Rattle.m2_addr.specs.declared.addr.AnyAddr.{AnyAddr}
use Rattle.m2_addr.specs.declared.fault.AddrFault.TheVariants.{NoMsgr2}
use Rattle.m2_addr.specs.Addr.{ipv4_at}
use Rattle.m2_addr.specs.Reading.{◌>>=◌, number, checked, ◌⊳◌, made}
use Rattle.m2_addr.specs.Vector.{vector_at}
use Rattle.m2_control.specs.declared.control.Control.{Control}
use Rattle.m2_control.specs.declared.control.Control.TheVariants as control
use Rattle.m2_control.specs.declared.fault.ControlFault.{ControlFault}
use Rattle.m2_control.specs.declared.fault.ControlFault.TheVariants.{Address, BadValue, Extra, Short}
use Rattle.m2_control.specs.declared.fields.TheConstants.{GREATEST_NUMBER}
use Rattle.m2_control.specs.ClientIdent.{make_client_ident, client_ident_at}
use Rattle.m2_control.specs.Control.{whole, payload_of}
use Rattle.m2_control.specs.Fields.{has_main, lifted, signed, bounded_at, cookie_at, vector_field}
use Rattle.m2_control.specs.Ident.{make_tail, tail_parts, keeps_cookie, tail_at}
use Rattle.m2_control.specs.Laws.{IsInBounds}
use Rattle.m2_control.specs.SessionReconnect.{make_session_reconnect, session_reconnect_at}
use Rattle.m2_frame.specs.declared.tag.Tag.TheVariants as tag
use Rattle.m2_bytes.proofs.m2_lemmas.Booleans.{false_isnt_true}

-- ---- readers, and what is known of what they read

abbrev pub Holds : {A F : Type 0} → (A → Type 0) → Result (A × List ℕ) F → Type 0
Holds P (Ok x) = P x.0
Holds P (Err e) = Unit {0}

any : {A F : Type 0} (r : Result (A × List ℕ) F) → Holds (λ _. Unit {0}) r
any (Ok x) = tt
any (Err e) = tt

weaker : {A F : Type 0} (P Q : A → Type 0) (r : Result (A × List ℕ) F) → ((a : A) → P a → Q a) → Holds P r → Holds Q r
weaker P Q (Ok x) f h = f x.0 h
weaker P Q (Err e) f h = tt

-- what passes a test
passes : {A F : Type 0} (P : A → Type 0) (test : A → Bool) (fault : F) (x : A × List ℕ) (b : Bool) → test x.0 ≡ b → P x.0 →
    Holds (λ a. P a × (test a ≡ true)) (if b then Ok x else Err fault)
passes P test fault x true e h = (h, e)
passes P test fault x false e h = tt

tested : {A F : Type 0} (P : A → Type 0) (test : A → Bool) (fault : F) (r : Result (A × List ℕ) F) → Holds P r →
    Holds (λ a. P a × (test a ≡ true)) (r >>= λ x. if test x.0 then Ok x else Err fault)
tested P test fault (Ok x) h = passes P test fault x (test x.0) refl h
tested P test fault (Err e) h = tt

checks : {A F : Type 0} (P : A → Type 0) (test : A → Bool) (fault : F) (read : List ℕ → Result (A × List ℕ) F) (bytes : List ℕ) →
    Holds P (read bytes) → Holds (λ a. P a × (test a ≡ true)) (checked test fault read bytes)
checks P test fault read bytes h = tested P test fault (read bytes) h

second : {A B F : Type 0} (P : A → Type 0) (Q : B → Type 0) (a : A) (r : Result (B × List ℕ) F) → P a → Holds Q r →
    Holds (λ (x : A × B). P x.0 × Q x.1) (r >>= λ y. Ok ((a, y.0), y.1))
second P Q a (Ok y) p h = (p, h)
second P Q a (Err e) p h = tt

first : {A B F : Type 0} (P : A → Type 0) (Q : B → Type 0) (r : Result (A × List ℕ) F) (k : List ℕ → Result (B × List ℕ) F) → Holds P r →
    ((bytes : List ℕ) → Holds Q (k bytes)) → Holds (λ (x : A × B). P x.0 × Q x.1) (r >>= λ x. k x.1 >>= λ y. Ok ((x.0, y.0), y.1))
first P Q (Ok x) k p h = second P Q x.0 (k x.1) p (h x.1)
first P Q (Err e) k p h = tt

both : {A B F : Type 0} (P : A → Type 0) (Q : B → Type 0) (r : List ℕ → Result (A × List ℕ) F) (k : List ℕ → Result (B × List ℕ) F) →
    ((bytes : List ℕ) → Holds P (r bytes)) → ((bytes : List ℕ) → Holds Q (k bytes)) → (bytes : List ℕ) → Holds (λ (x : A × B). P x.0 × Q x.1) ((r ⊳ k) bytes)
both P Q r k p q bytes = first P Q (r bytes) k (p bytes) q

pub mapped : {A B F : Type 0} (P : A → Type 0) (Q : B → Type 0) (make : A → B) (r : Result (A × List ℕ) F) → ((a : A) → P a → Q (make a)) → Holds P r →
    Holds Q (r >>= λ x. Ok (make x.0, x.1))
mapped P Q make (Ok x) f h = f x.0 h
mapped P Q make (Err e) f h = tt

makes : {A B F : Type 0} (P : A → Type 0) (Q : B → Type 0) (make : A → B) (read : List ℕ → Result (A × List ℕ) F) → ((a : A) → P a → Q (make a)) →
    ((bytes : List ℕ) → Holds P (read bytes)) → (bytes : List ℕ) → Holds Q (made make read bytes)
makes P Q make read f h bytes = mapped P Q make (read bytes) f (h bytes)

-- ---- fields

abbrev Bounded : ℕ → Type 0
Bounded n = n ≤ GREATEST_NUMBER

bounded : (field : ℕ) (bytes : List ℕ) → Holds Bounded (bounded_at field bytes)
unfolding bounded_at
bounded field bytes = weaker _ Bounded (bounded_at field bytes) (λ n h. leb-true n GREATEST_NUMBER h.1) (checks (λ _. Unit {0}) _ (BadValue field) (number w64 Short) bytes (any (number w64 Short bytes)))

some_cookie : (n : ℕ) → not (n == 0) ≡ true → n ≢ 0
some_cookie n h e = false_isnt_true (sym (ap not (eq-eqb n 0 e)) ∙ h)

cookie : (field : ℕ) (bytes : List ℕ) → Holds (λ n. n ≢ 0) (cookie_at field bytes)
unfolding cookie_at
cookie field bytes = weaker _ (λ n. n ≢ 0) (cookie_at field bytes) (λ n h. some_cookie n h.1) (checks (λ _. Unit {0}) _ (BadValue field) (number w64 Short) bytes (any (number w64 Short bytes)))

main_vector : (bytes : List ℕ) → Holds (λ addrs. has_main addrs ≡ true) (vector_field bytes)
unfolding vector_field
main_vector bytes = weaker _ (λ addrs. has_main addrs ≡ true) (vector_field bytes) (λ a h. h.1) (checks (λ _. Unit {0}) has_main (Address NoMsgr2) (lifted vector_at) bytes (any (lifted vector_at bytes)))

-- three words behind the global number, and the last
abbrev words_at : List ℕ → Result ((ℕ × (ℕ × (ℕ × ℕ))) × List ℕ) ControlFault
words_at = number w64 Short ⊳ number w64 Short ⊳ number w64 Short ⊳ number w64 Short

tail : (field : ℕ) (bytes : List ℕ) → Holds (λ t. ((tail_parts t).1.0 ≤ GREATEST_NUMBER) × (keeps_cookie t ≡ true)) (tail_at field bytes)
unfolding tail_at
tail field bytes = checks (λ t. (tail_parts t).1.0 ≤ GREATEST_NUMBER) keeps_cookie (BadValue (field + 5)) (made make_tail (signed w64 ⊳ bounded_at (field + 1) ⊳ words_at)) bytes
    (makes (λ x. Unit {0} × (Bounded x.1.0 × Unit {0})) (λ t. (tail_parts t).1.0 ≤ GREATEST_NUMBER) make_tail (signed w64 ⊳ bounded_at (field + 1) ⊳ words_at) (λ a h. h.1.0)
    (both (λ _. Unit {0}) (λ x. Bounded x.0 × Unit {0}) (signed w64) (bounded_at (field + 1) ⊳ words_at) (λ b. any (signed w64 b))
    (both Bounded (λ _. Unit {0}) (bounded_at (field + 1)) words_at (bounded (field + 1)) (λ b. any (words_at b)))) bytes)

-- ---- payloads

whole_holds : (P : Control → Type 0) (r : Result (Control × List ℕ) ControlFault) (c : Control) → Holds P r → whole r ≡ Ok c → P c
whole_holds P (Ok x) c h e = ended (length x.1 == 0) e
  where
    ended : (b : Bool) → (if b then Ok x.0 else Err Extra) ≡ Ok c → P c
    ended true e = subst P (let q : x.0 ≡ c = cc in q) h
    ended false e = absurd cc
whole_holds P (Err f) c h e = absurd cc

ident_kept : (bytes : List ℕ) → Holds (λ p. IsInBounds (control.ClientIdent p)) (client_ident_at bytes)
ident_kept = makes (λ x. (has_main x.0 ≡ true) × (Unit {0} × (((tail_parts x.1.1).1.0 ≤ GREATEST_NUMBER) × (keeps_cookie x.1.1 ≡ true)))) (λ p. IsInBounds (control.ClientIdent p))
    make_client_ident (vector_field ⊳ lifted ipv4_at ⊳ tail_at 3) (λ a h. (h.0, h.1.1.0, h.1.1.1))
    (both (λ addrs. has_main addrs ≡ true) (λ x. Unit {0} × (((tail_parts x.1).1.0 ≤ GREATEST_NUMBER) × (keeps_cookie x.1 ≡ true))) vector_field (lifted ipv4_at ⊳ tail_at 3) main_vector
    (both (λ _. Unit {0}) (λ t. ((tail_parts t).1.0 ≤ GREATEST_NUMBER) × (keeps_cookie t ≡ true)) (lifted ipv4_at) (tail_at 3) (λ b. any (lifted ipv4_at b)) (tail 3)))

-- two bounded numbers, the last fields of a reconnect; and the fields before them
abbrev two_at : List ℕ → Result ((ℕ × ℕ) × List ℕ) ControlFault
two_at = bounded_at 5 ⊳ bounded_at 6

abbrev three_at : List ℕ → Result ((ℕ × (ℕ × ℕ)) × List ℕ) ControlFault
three_at = bounded_at 4 ⊳ two_at

abbrev four_at : List ℕ → Result ((ℕ × (ℕ × (ℕ × ℕ))) × List ℕ) ControlFault
four_at = cookie_at 3 ⊳ three_at

abbrev five_at : List ℕ → Result ((ℕ × (ℕ × (ℕ × (ℕ × ℕ)))) × List ℕ) ControlFault
five_at = cookie_at 2 ⊳ four_at

abbrev Two : ℕ × ℕ → Type 0
Two x = Bounded x.0 × Bounded x.1

abbrev Three : ℕ × (ℕ × ℕ) → Type 0
Three x = Bounded x.0 × Two x.1

abbrev Four : ℕ × (ℕ × (ℕ × ℕ)) → Type 0
Four x = (x.0 ≢ 0) × Three x.1

abbrev Five : ℕ × (ℕ × (ℕ × (ℕ × ℕ))) → Type 0
Five x = (x.0 ≢ 0) × Four x.1

reconnect_kept : (bytes : List ℕ) → Holds (λ p. IsInBounds (control.SessionReconnect p)) (session_reconnect_at bytes)
reconnect_kept = makes (λ (x : (List AnyAddr) × (ℕ × (ℕ × (ℕ × (ℕ × ℕ))))). (has_main x.0 ≡ true) × Five x.1)
    (λ p. IsInBounds (control.SessionReconnect p)) make_session_reconnect (vector_field ⊳ five_at) (λ a h. (h.0, h.1.0, h.1.1.0, h.1.1.1.0, h.1.1.1.1.0, h.1.1.1.1.1))
    (both (λ addrs. has_main addrs ≡ true) Five vector_field five_at main_vector
    (both (λ n. n ≢ 0) Four (cookie_at 2) four_at (cookie 2)
    (both (λ n. n ≢ 0) Three (cookie_at 3) three_at (cookie 3)
    (both Bounded Two (bounded_at 4) two_at (bounded 4)
    (both Bounded Bounded (bounded_at 5) (bounded_at 6) (bounded 5) (bounded 6))))))

pub read_ident : (bytes : List ℕ) (c : Control) → payload_of tag.ClientIdent bytes ≡ Ok c → IsInBounds c
read_ident bytes c e = whole_holds IsInBounds (made control.ClientIdent client_ident_at bytes) c (makes _ IsInBounds control.ClientIdent client_ident_at (λ a h. h) ident_kept bytes) e

pub read_reconnect : (bytes : List ℕ) (c : Control) → payload_of tag.SessionReconnect bytes ≡ Ok c → IsInBounds c
read_reconnect bytes c e = whole_holds IsInBounds (made control.SessionReconnect session_reconnect_at bytes) c (makes _ IsInBounds control.SessionReconnect session_reconnect_at (λ a h. h) reconnect_kept bytes) e
