-- Each payload is read exactly: what is read is spelled so, and what is spelled so is read.
use Rattle.std.proofs.Common.{◌≡◌, ◌≢◌, ℕ, zero, suc, ◌+◌, ◌^◌, ◌≤◌, Bool, true, false, cond, not, eqb, leb, List, [], ◌∷◌, ◌++◌, length, Result, Ok, Err, refl, sym, ap, subst, ◌∙◌, arith}
use Rattle.std.specs.Int.{Width, w32, w64, cast_signed}
use Rattle.std.proofs.lemmas.Bool.{eqb-true}
use Rattle.std.proofs.lemmas.Bool.Decides.{nat_tests}
use Rattle.std.proofs.lemmas.List.{append-nil, nil_from_length}
use Rattle.m2_addr.specs.declared.addr.Addr.{Addr}
use Rattle.m2_addr.specs.declared.addr.AnyAddr.{AnyAddr}
use Rattle.m2_control.specs.declared.ident.Tail.{Tail}
use Rattle.m2_addr.specs.declared.fault.AddrFault.{AddrFault}
use Rattle.m2_addr.specs.declared.fault.AddrFault.TheVariants.{NoMsgr2}
use Rattle.m2_addr.specs.Reading.{prefix, made}
use Rattle.m2_addr.specs.Grammar.{IsBytes, ◌▹◌, IsByte, IsNumber, IsText}
use Rattle.m2_addr.proofs.Exact.{bind_ok, test_ok, ok_is, Took, IsExact, IsWide, wide32, wide64, number_exact, byte_exact, prefix_exact, bind_exact, checked_exact, seq_exact, image_exact, made_exact, same_exact}
use Rattle.m2_addr.proofs.Shape.{address_exact, ipv4_exact, address_bare}
use Rattle.m2_addr.proofs.Addresses.{vector_exact, vector_bare}
use Rattle.m2_control.specs.declared.fault.ControlFault.{ControlFault}
use Rattle.m2_control.specs.declared.fault.ControlFault.TheVariants.{Short, Extra, BadValue, Address}
use Rattle.m2_control.specs.declared.control.Control.{Control}
use Rattle.m2_control.specs.declared.control.Control.TheVariants as control
use Rattle.m2_frame.specs.declared.tag.Tag.{Tag}
use Rattle.m2_frame.specs.declared.tag.Tag.TheVariants as tag
use Rattle.m2_control.specs.Fields.{IsSigned, IsBounded, IsCookie, IsFlag, AreNumbers, IsList, IsShortString, has_main, IsMainVector, signed, bounded_at, cookie_at, flag_at, numbers_at, list_at, string_at, raise, lifted, vector_field}
use Rattle.m2_control.specs.Ident.{make_tail, tail_parts, keeps_cookie, IsTail, tail_at}
use Rattle.m2_control.specs.Control.{Spells, bare, tag_of, fields_at, whole, payload_of}
use Rattle.m2_control.specs.Hello.{make_hello, hello_parts, bare_hello, IsHello, hello_at}
use Rattle.m2_control.specs.AuthRequest.{make_auth_request, auth_request_parts, bare_auth_request, IsAuthRequest, auth_request_at}
use Rattle.m2_control.specs.AuthBadMethod.{make_auth_bad_method, auth_bad_method_parts, bare_auth_bad_method, IsAuthBadMethod, auth_bad_method_at}
use Rattle.m2_control.specs.AuthDone.{make_auth_done, auth_done_parts, bare_auth_done, IsAuthDone, auth_done_at}
use Rattle.m2_control.specs.AuthSignature.{make_auth_signature, auth_signature_parts, bare_auth_signature, IsAuthSignature, auth_signature_at}
use Rattle.m2_control.specs.ClientIdent.{make_client_ident, client_ident_parts, bare_client_ident, IsClientIdent, client_ident_at}
use Rattle.m2_control.specs.ServerIdent.{make_server_ident, server_ident_parts, bare_server_ident, IsServerIdent, server_ident_at}
use Rattle.m2_control.specs.IdentMissingFeatures.{make_ident_missing_features, ident_missing_features_parts, bare_ident_missing_features, IsIdentMissingFeatures, ident_missing_features_at}
use Rattle.m2_control.specs.SessionReconnect.{make_session_reconnect, session_reconnect_parts, bare_session_reconnect, IsSessionReconnect, session_reconnect_at}
use Rattle.m2_control.specs.SessionReset.{make_session_reset, session_reset_parts, bare_session_reset, IsSessionReset, session_reset_at}
use Rattle.m2_control.specs.SessionRetry.{make_session_retry, session_retry_parts, bare_session_retry, IsSessionRetry, session_retry_at}
use Rattle.m2_control.specs.SessionRetryGlobal.{make_session_retry_global, session_retry_global_parts, bare_session_retry_global, IsSessionRetryGlobal, session_retry_global_at}
use Rattle.m2_control.specs.SessionReconnectOk.{make_session_reconnect_ok, session_reconnect_ok_parts, bare_session_reconnect_ok, IsSessionReconnectOk, session_reconnect_ok_at}
use Rattle.m2_control.specs.Keepalive.{make_keepalive, keepalive_parts, bare_keepalive, IsKeepalive, keepalive_at}
use Rattle.m2_control.specs.KeepaliveAck.{make_keepalive_ack, keepalive_ack_parts, bare_keepalive_ack, IsKeepaliveAck, keepalive_ack_at}
use Rattle.m2_control.specs.Ack.{make_ack, ack_parts, bare_ack, IsAck, ack_at}
use Rattle.m2_bytes.proofs.m2_lemmas.Numbers.{tested_isnt_zero, not_zero_is_tested}

-- ---- fields

signed_exact : (w : Width) → IsWide w → IsExact (signed w) (IsSigned w)
signed_exact w wide = image_exact (cast_signed w) (number_exact w wide Short)

within : (n m : ℕ) → leb n m ≡ true → n ≤ m
within n m e = grind (arith, nat_tests)

tests_within : (n m : ℕ) → n ≤ m → leb n m ≡ true
tests_within n m h = grind (arith, nat_tests)

bounded_exact : (field : ℕ) → IsExact (bounded_at field) IsBounded
unfolding bounded_at
bounded_exact field = same_exact IsBounded (checked_exact (λ n. leb n (2 ^ 40)) (BadValue field) (number_exact w64 wide64 Short)) (λ n text h. (h.0, within n (2 ^ 40) h.1)) (λ n text h. (h.0, tests_within n (2 ^ 40) h.1))

cookie_exact : (field : ℕ) → IsExact (cookie_at field) IsCookie
unfolding cookie_at
cookie_exact field = same_exact IsCookie (checked_exact (λ n. not (eqb n 0)) (BadValue field) (number_exact w64 wide64 Short)) (λ n text h. (h.0, tested_isnt_zero n h.1)) (λ n text h. (h.0, not_zero_is_tested n h.1))

flag_there : (b : Bool) (text : List ℕ) → (n : ℕ) × (IsByte n text × (leb n 1 ≡ true)) × (b ≡ eqb n 1) → IsFlag b text
flag_there b text (zero, (is, small), e) = rw e is.0
flag_there b text (suc zero, (is, small), e) = rw e is.0
flag_there b text (suc (suc n), (is, small), e) = let h = within (suc (suc n)) 1 small in absurd (omega arith)

flag_back : (b : Bool) (text : List ℕ) → IsFlag b text → (n : ℕ) × (IsByte n text × (leb n 1 ≡ true)) × (b ≡ eqb n 1)
flag_back true text is = (1, ((is, omega arith), refl), refl)
flag_back false text is = (0, ((is, omega arith), refl), refl)

flag_exact : (field : ℕ) → IsExact (flag_at field) IsFlag
unfolding flag_at
flag_exact field = same_exact IsFlag (image_exact (λ n. eqb n 1) (checked_exact (λ n. leb n 1) (BadValue field) (byte_exact Short))) flag_there flag_back

abbrev Numbers : ℕ → List ℕ → List ℕ → Type 0
Numbers n ns text = AreNumbers ns text × (length ns ≡ n)

numbers_there : (n : ℕ) (ns text : List ℕ) → (x : ℕ × List ℕ) × (IsNumber w32 x.0 ▹ Numbers n x.1) text × (ns ≡ x.0 ∷ x.1) → Numbers (suc n) ns text
numbers_there n ns text (x, (prefix, back, p, q, e), is) = rw is ((prefix, back, p, q.0, e), ap suc q.1)

numbers_back : (n : ℕ) (ns text : List ℕ) → Numbers (suc n) ns text → (x : ℕ × List ℕ) × (IsNumber w32 x.0 ▹ Numbers n x.1) text × (ns ≡ x.0 ∷ x.1)
numbers_back n [] text (are, len) = absurd cc
numbers_back n (m ∷ ns) text ((prefix, rest, p, q, e), len) = ((m, ns), (prefix, rest, p, (q, cc), e), refl)

none : (ns text rest : List ℕ) → Numbers 0 ns text → (let r : Result (List ℕ × List ℕ) ControlFault = Ok ([], text ++ rest) in r) ≡ Ok (ns, rest)
none [] text rest (are, len) = ap (λ (t : List ℕ). let r : Result (List ℕ × List ℕ) ControlFault = Ok ([], t ++ rest) in r) are
none (n ∷ ns) text rest (are, len) = absurd cc

numbers_exact : (n : ℕ) → IsExact (numbers_at n) (Numbers n)
unfolding numbers_at
numbers_exact zero = record {
  takes = λ bytes ns rest fits e.
      let took : Took (Numbers 0) bytes [] bytes = record { text = []; parts = refl; spelled = (refl, refl); rest_fits = fits } in
      subst (λ (y : List ℕ × List ℕ). Took (Numbers 0) bytes y.0 y.1) (ok_is {F = ControlFault} ([], bytes) (ns, rest) e) took;
  again = λ ns text rest h. none ns text rest h;
}
numbers_exact (suc n) = same_exact (Numbers (suc n)) (image_exact (λ x. x.0 ∷ x.1) (seq_exact (number_exact w32 wide32 Short) (numbers_exact n))) (numbers_there n) (numbers_back n)

abbrev Counted : ℕ → ℕ → List ℕ → Type 0
Counted most n text = IsNumber w32 n text × (leb n most ≡ true)

list_there : (ns text : List ℕ) → (n : ℕ) × (Counted 64 n ▹ Numbers n ns) text → IsList ns text
list_there ns text (n, (prefix, back, p, q, e)) = (rw q.1 (within n 64 p.1), (prefix, back, rw q.1 p.0, q.0, e))

list_back : (ns text : List ℕ) → IsList ns text → (n : ℕ) × (Counted 64 n ▹ Numbers n ns) text
list_back ns text (few, (prefix, back, p, q, e)) = (length ns, (prefix, back, (p, tests_within (length ns) 64 few), (q, refl), e))

list_exact : (field : ℕ) → IsExact (list_at field) IsList
unfolding list_at
list_exact field = same_exact IsList (bind_exact {k = numbers_at} (checked_exact (λ n. leb n 64) (BadValue field) (number_exact w32 wide32 Short)) numbers_exact) list_there list_back

string_there : (bytes text : List ℕ) → (n : ℕ) × (Counted 4096 n ▹ (λ t. IsText bytes t × (length bytes ≡ n))) text → IsShortString bytes text
string_there bytes text (n, (prefix, back, p, q, e)) = (rw q.1 (within n 4096 p.1), (prefix, back, rw q.1 p.0, q.0, e))

string_back : (bytes text : List ℕ) → IsShortString bytes text → (n : ℕ) × (Counted 4096 n ▹ (λ t. IsText bytes t × (length bytes ≡ n))) text
string_back bytes text (few, (prefix, back, p, q, e)) = (length bytes, (prefix, back, (p, tests_within (length bytes) 4096 few), (q, refl), e))

string_exact : (field : ℕ) → IsExact (string_at field) IsShortString
unfolding string_at
string_exact field = same_exact IsShortString (bind_exact {k = λ n. prefix n Short} (checked_exact (λ n. leb n 4096) (BadValue field) (number_exact w32 wide32 Short)) (λ n. prefix_exact n Short)) string_there string_back

raise_ok : {A : Type 0} (r : Result A AddrFault) (x : A) → raise r ≡ Ok x → r ≡ Ok x
raise_ok (Ok y) x e = let same : y ≡ x = ok_is {F = ControlFault} y x e in ap (λ (z : _). Ok z) same
raise_ok (Err f) x e = absurd cc

lifted_exact : {A : Type 0} {r : List ℕ → Result (A × List ℕ) AddrFault} {S : A → List ℕ → Type 0} → IsExact r S → IsExact (lifted r) S
lifted_exact {r = r} exact = record {
  takes = λ bytes a rest fits e. exact.takes bytes a rest fits (raise_ok (r bytes) (a, rest) e);
  again = λ a text rest h. ap raise (exact.again a text rest h);
}

vector_field_exact : IsExact vector_field IsMainVector
unfolding vector_field
vector_field_exact = checked_exact has_main (Address NoMsgr2) (lifted_exact vector_exact)

tail_exact : (field : ℕ) → IsExact (tail_at field) IsTail
unfolding tail_at
tail_exact field = checked_exact keeps_cookie (BadValue (field + 5)) (made_exact make_tail tail_parts (λ b. refl) (λ a. refl)
    (seq_exact (signed_exact w64 wide64) (seq_exact (bounded_exact (field + 1)) (seq_exact (number_exact w64 wide64 Short) (seq_exact (number_exact w64 wide64 Short) (seq_exact (number_exact w64 wide64 Short) (number_exact w64 wide64 Short)))))))

-- ---- payloads

-- what is read lies nowhere in memory, so the value that is read again is the bare one
record Reads {X : Type 0} (read : List ℕ → Result (X × List ℕ) ControlFault) (Text : X → List ℕ → Type 0) (plain : X → X) : Type 0 where
  pub takes : (bytes : List ℕ) (x : X) (rest : List ℕ) → IsBytes bytes → read bytes ≡ Ok (x, rest) → Took Text bytes x rest
  pub again : (x : X) (text rest : List ℕ) → Text x text → read (text ++ rest) ≡ Ok (plain x, rest)

payload_reads : {A X : Type 0} {r : List ℕ → Result (A × List ℕ) ControlFault} {S : A → List ℕ → Type 0} (make : A → X) (unmake : X → A)
    → ((a : A) (text : List ℕ) → S a text → unmake (make a) ≡ a) → IsExact r S → Reads (made make r) (λ x. S (unmake x)) (λ x. make (unmake x))
payload_reads {A = A} {X = X} {r = r} {S = S} make unmake same exact = record {
  takes = λ bytes x rest fits e.
      let a = bind_ok (r bytes) (λ a. Ok (make a.0, a.1)) (x, rest) e in
      let p = exact.takes bytes a.0.0 a.0.1 fits a.1 in
      let took : Took (λ (y : X). S (unmake y)) bytes (make a.0.0) a.0.1 = record { text = p.text; parts = p.parts; spelled = subst (λ (z : A). S z p.text) (sym (same a.0.0 p.text p.spelled)) p.spelled; rest_fits = p.rest_fits } in
      subst (λ (y : X × List ℕ). Took (λ (z : X). S (unmake z)) bytes y.0 y.1) (ok_is {F = ControlFault} (make a.0.0, a.0.1) (x, rest) a.2) took;
  again = λ x text rest h. rw (exact.again (unmake x) text rest h) refl;
}

hello_reads : Reads hello_at IsHello bare_hello
hello_reads = payload_reads make_hello hello_parts (λ a text s. ap (λ (y : AnyAddr). let z : ℕ × AnyAddr = (a.0, y) in z) (address_bare a.1 s.1 s.3)) (seq_exact (byte_exact Short) (lifted_exact address_exact))

auth_request_reads : Reads auth_request_at IsAuthRequest bare_auth_request
auth_request_reads = payload_reads make_auth_request auth_request_parts (λ a text s. refl) (seq_exact (number_exact w32 wide32 Short) (seq_exact (list_exact 2) (string_exact 3)))

auth_bad_method_reads : Reads auth_bad_method_at IsAuthBadMethod bare_auth_bad_method
auth_bad_method_reads = payload_reads make_auth_bad_method auth_bad_method_parts (λ a text s. refl) (seq_exact (number_exact w32 wide32 Short) (seq_exact (signed_exact w32 wide32) (seq_exact (list_exact 3) (list_exact 4))))

auth_done_reads : Reads auth_done_at IsAuthDone bare_auth_done
auth_done_reads = payload_reads make_auth_done auth_done_parts (λ a text s. refl) (seq_exact (number_exact w64 wide64 Short) (seq_exact (number_exact w32 wide32 Short) (string_exact 3)))

auth_signature_reads : Reads auth_signature_at IsAuthSignature bare_auth_signature
auth_signature_reads = payload_reads make_auth_signature auth_signature_parts (λ a text s. refl) (prefix_exact 32 Short)

client_ident_same : (a : List AnyAddr × (Addr × (Tail))) (text : List ℕ) → IsMainVector a.0 text → client_ident_parts (make_client_ident a) ≡ a
client_ident_same a text is = ap (λ (v : List AnyAddr). let z : List AnyAddr × (Addr × (Tail)) = (v, a.1) in z) (vector_bare a.0 text is.0)

client_ident_reads : Reads client_ident_at IsClientIdent bare_client_ident
client_ident_reads = payload_reads make_client_ident client_ident_parts (λ a text s. client_ident_same a s.0 s.2) (seq_exact (vector_field_exact) (seq_exact (lifted_exact ipv4_exact) (tail_exact 3)))

server_ident_same : (a : List AnyAddr × (Tail)) (text : List ℕ) → IsMainVector a.0 text → server_ident_parts (make_server_ident a) ≡ a
server_ident_same a text is = ap (λ (v : List AnyAddr). let z : List AnyAddr × (Tail) = (v, a.1) in z) (vector_bare a.0 text is.0)

server_ident_reads : Reads server_ident_at IsServerIdent bare_server_ident
server_ident_reads = payload_reads make_server_ident server_ident_parts (λ a text s. server_ident_same a s.0 s.2) (seq_exact (vector_field_exact) (tail_exact 2))

ident_missing_features_reads : Reads ident_missing_features_at IsIdentMissingFeatures bare_ident_missing_features
ident_missing_features_reads = payload_reads make_ident_missing_features ident_missing_features_parts (λ a text s. refl) (number_exact w64 wide64 Short)

session_reconnect_same : (a : List AnyAddr × (ℕ × (ℕ × (ℕ × (ℕ × (ℕ)))))) (text : List ℕ) → IsMainVector a.0 text → session_reconnect_parts (make_session_reconnect a) ≡ a
session_reconnect_same a text is = ap (λ (v : List AnyAddr). let z : List AnyAddr × (ℕ × (ℕ × (ℕ × (ℕ × (ℕ))))) = (v, a.1) in z) (vector_bare a.0 text is.0)

session_reconnect_reads : Reads session_reconnect_at IsSessionReconnect bare_session_reconnect
session_reconnect_reads = payload_reads make_session_reconnect session_reconnect_parts (λ a text s. session_reconnect_same a s.0 s.2) (seq_exact (vector_field_exact) (seq_exact (cookie_exact 2) (seq_exact (cookie_exact 3) (seq_exact (bounded_exact 4) (seq_exact (bounded_exact 5) (bounded_exact 6))))))

session_reset_reads : Reads session_reset_at IsSessionReset bare_session_reset
session_reset_reads = payload_reads make_session_reset session_reset_parts (λ a text s. refl) (flag_exact 1)

session_retry_reads : Reads session_retry_at IsSessionRetry bare_session_retry
session_retry_reads = payload_reads make_session_retry session_retry_parts (λ a text s. refl) (bounded_exact 1)

session_retry_global_reads : Reads session_retry_global_at IsSessionRetryGlobal bare_session_retry_global
session_retry_global_reads = payload_reads make_session_retry_global session_retry_global_parts (λ a text s. refl) (bounded_exact 1)

session_reconnect_ok_reads : Reads session_reconnect_ok_at IsSessionReconnectOk bare_session_reconnect_ok
session_reconnect_ok_reads = payload_reads make_session_reconnect_ok session_reconnect_ok_parts (λ a text s. refl) (bounded_exact 1)

keepalive_reads : Reads keepalive_at IsKeepalive bare_keepalive
keepalive_reads = payload_reads make_keepalive keepalive_parts (λ a text s. refl) (seq_exact (number_exact w32 wide32 Short) (number_exact w32 wide32 Short))

keepalive_ack_reads : Reads keepalive_ack_at IsKeepaliveAck bare_keepalive_ack
keepalive_ack_reads = payload_reads make_keepalive_ack keepalive_ack_parts (λ a text s. refl) (seq_exact (number_exact w32 wide32 Short) (number_exact w32 wide32 Short))

ack_reads : Reads ack_at IsAck bare_ack
ack_reads = payload_reads make_ack ack_parts (λ a text s. refl) (bounded_exact 1)

-- ---- a whole payload

ended : (read : Result (Control × List ℕ) ControlFault) (c : Control) → whole read ≡ Ok c → read ≡ Ok (c, [])
ended read c e =
    let x = bind_ok read (λ x. cond (eqb (length x.1) 0) (Ok x.0) (Err Extra)) c e in
    let g = test_ok (eqb (length x.0.1) 0) Extra (Ok x.0.0) c x.2 in
    let nothing : x.0.1 ≡ [] = nil_from_length x.0.1 (eqb-true _ _ g.0) in
    let same : x.0.0 ≡ c = ok_is {F = ControlFault} x.0.0 c g.1 in
    x.1 ∙ ap (λ (y : Control). let r : Result (Control × List ℕ) ControlFault = Ok (y, x.0.1) in r) same ∙ ap (λ (z : List ℕ). let r : Result (Control × List ℕ) ControlFault = Ok (c, z) in r) nothing

variant_found : {X : Type 0} (v : X → Control) (read : List ℕ → Result (X × List ℕ) ControlFault) (Text : X → List ℕ → Type 0) (plain : X → X) → Reads read Text plain
    → (bytes : List ℕ) (c : Control) → IsBytes bytes → whole (made v read bytes) ≡ Ok c → (x : X) × Text x bytes × (c ≡ v x)
variant_found v read Text plain reads bytes c fits e =
    let whole-is = ended (made v read bytes) c e in
    let x = bind_ok (read bytes) (λ x. Ok (v x.0, x.1)) (c, []) whole-is in
    let p = reads.takes bytes x.0.0 x.0.1 fits x.1 in
    let same = ok_is {F = ControlFault} (v x.0.0, x.0.1) (c, []) x.2 in
    let nothing : x.0.1 ≡ [] = ap (λ (y : Control × List ℕ). y.1) same in
    let text : p.text ≡ bytes = sym (append-nil p.text) ∙ sym (p.parts ∙ ap (λ (r : List ℕ). p.text ++ r) nothing) in
    (x.0.0, subst (λ (z : List ℕ). Text x.0.0 z) text p.spelled, sym (ap (λ (y : Control × List ℕ). y.0) same))

variant_only : {X : Type 0} (v : X → Control) (read : List ℕ → Result (X × List ℕ) ControlFault) (Text : X → List ℕ → Type 0) (plain : X → X) → Reads read Text plain
    → (x : X) (bytes : List ℕ) → Text x bytes → whole (made v read bytes) ≡ Ok (v (plain x))
variant_only v read Text plain reads x bytes spelled =
    let one : read bytes ≡ Ok (plain x, []) = ap read (sym (append-nil bytes)) ∙ reads.again x bytes [] spelled in
    rw one refl

pub payload_only : (c : Control) (bytes : List ℕ) → Spells c bytes → payload_of (tag_of c) bytes ≡ Ok (bare c)
payload_only (control.Hello x) bytes spelled = variant_only control.Hello hello_at IsHello bare_hello hello_reads x bytes spelled
payload_only (control.AuthRequest x) bytes spelled = variant_only control.AuthRequest auth_request_at IsAuthRequest bare_auth_request auth_request_reads x bytes spelled
payload_only (control.AuthBadMethod x) bytes spelled = variant_only control.AuthBadMethod auth_bad_method_at IsAuthBadMethod bare_auth_bad_method auth_bad_method_reads x bytes spelled
payload_only (control.AuthDone x) bytes spelled = variant_only control.AuthDone auth_done_at IsAuthDone bare_auth_done auth_done_reads x bytes spelled
payload_only (control.AuthSignature x) bytes spelled = variant_only control.AuthSignature auth_signature_at IsAuthSignature bare_auth_signature auth_signature_reads x bytes spelled
payload_only (control.ClientIdent x) bytes spelled = variant_only control.ClientIdent client_ident_at IsClientIdent bare_client_ident client_ident_reads x bytes spelled
payload_only (control.ServerIdent x) bytes spelled = variant_only control.ServerIdent server_ident_at IsServerIdent bare_server_ident server_ident_reads x bytes spelled
payload_only (control.IdentMissingFeatures x) bytes spelled = variant_only control.IdentMissingFeatures ident_missing_features_at IsIdentMissingFeatures bare_ident_missing_features ident_missing_features_reads x bytes spelled
payload_only (control.SessionReconnect x) bytes spelled = variant_only control.SessionReconnect session_reconnect_at IsSessionReconnect bare_session_reconnect session_reconnect_reads x bytes spelled
payload_only (control.SessionReset x) bytes spelled = variant_only control.SessionReset session_reset_at IsSessionReset bare_session_reset session_reset_reads x bytes spelled
payload_only (control.SessionRetry x) bytes spelled = variant_only control.SessionRetry session_retry_at IsSessionRetry bare_session_retry session_retry_reads x bytes spelled
payload_only (control.SessionRetryGlobal x) bytes spelled = variant_only control.SessionRetryGlobal session_retry_global_at IsSessionRetryGlobal bare_session_retry_global session_retry_global_reads x bytes spelled
payload_only (control.SessionReconnectOk x) bytes spelled = variant_only control.SessionReconnectOk session_reconnect_ok_at IsSessionReconnectOk bare_session_reconnect_ok session_reconnect_ok_reads x bytes spelled
payload_only (control.Wait x) bytes spelled = rw spelled refl
payload_only (control.Keepalive x) bytes spelled = variant_only control.Keepalive keepalive_at IsKeepalive bare_keepalive keepalive_reads x bytes spelled
payload_only (control.KeepaliveAck x) bytes spelled = variant_only control.KeepaliveAck keepalive_ack_at IsKeepaliveAck bare_keepalive_ack keepalive_ack_reads x bytes spelled
payload_only (control.Ack x) bytes spelled = variant_only control.Ack ack_at IsAck bare_ack ack_reads x bytes spelled

pub payload_found : (t : Tag) (bytes : List ℕ) (c : Control) → IsBytes bytes → payload_of t bytes ≡ Ok c → Spells c bytes × (tag_of c ≡ t)
payload_found tag.Hello bytes c fits e =
    let x = variant_found control.Hello hello_at IsHello bare_hello hello_reads bytes c fits e in
    rw x.2 (x.1, refl)
payload_found tag.AuthRequest bytes c fits e =
    let x = variant_found control.AuthRequest auth_request_at IsAuthRequest bare_auth_request auth_request_reads bytes c fits e in
    rw x.2 (x.1, refl)
payload_found tag.AuthBadMethod bytes c fits e =
    let x = variant_found control.AuthBadMethod auth_bad_method_at IsAuthBadMethod bare_auth_bad_method auth_bad_method_reads bytes c fits e in
    rw x.2 (x.1, refl)
payload_found tag.AuthDone bytes c fits e =
    let x = variant_found control.AuthDone auth_done_at IsAuthDone bare_auth_done auth_done_reads bytes c fits e in
    rw x.2 (x.1, refl)
payload_found tag.AuthSignature bytes c fits e =
    let x = variant_found control.AuthSignature auth_signature_at IsAuthSignature bare_auth_signature auth_signature_reads bytes c fits e in
    rw x.2 (x.1, refl)
payload_found tag.ClientIdent bytes c fits e =
    let x = variant_found control.ClientIdent client_ident_at IsClientIdent bare_client_ident client_ident_reads bytes c fits e in
    rw x.2 (x.1, refl)
payload_found tag.ServerIdent bytes c fits e =
    let x = variant_found control.ServerIdent server_ident_at IsServerIdent bare_server_ident server_ident_reads bytes c fits e in
    rw x.2 (x.1, refl)
payload_found tag.IdentMissingFeatures bytes c fits e =
    let x = variant_found control.IdentMissingFeatures ident_missing_features_at IsIdentMissingFeatures bare_ident_missing_features ident_missing_features_reads bytes c fits e in
    rw x.2 (x.1, refl)
payload_found tag.SessionReconnect bytes c fits e =
    let x = variant_found control.SessionReconnect session_reconnect_at IsSessionReconnect bare_session_reconnect session_reconnect_reads bytes c fits e in
    rw x.2 (x.1, refl)
payload_found tag.SessionReset bytes c fits e =
    let x = variant_found control.SessionReset session_reset_at IsSessionReset bare_session_reset session_reset_reads bytes c fits e in
    rw x.2 (x.1, refl)
payload_found tag.SessionRetry bytes c fits e =
    let x = variant_found control.SessionRetry session_retry_at IsSessionRetry bare_session_retry session_retry_reads bytes c fits e in
    rw x.2 (x.1, refl)
payload_found tag.SessionRetryGlobal bytes c fits e =
    let x = variant_found control.SessionRetryGlobal session_retry_global_at IsSessionRetryGlobal bare_session_retry_global session_retry_global_reads bytes c fits e in
    rw x.2 (x.1, refl)
payload_found tag.SessionReconnectOk bytes c fits e =
    let x = variant_found control.SessionReconnectOk session_reconnect_ok_at IsSessionReconnectOk bare_session_reconnect_ok session_reconnect_ok_reads bytes c fits e in
    rw x.2 (x.1, refl)
payload_found tag.Wait bytes c fits e =
    let whole-is = ended (fields_at tag.Wait bytes) c e in
    let same = ok_is {F = ControlFault} (control.Wait (record {}), bytes) (c, []) whole-is in
    rw (← ap (λ (y : Control × List ℕ). y.0) same) (ap (λ (y : Control × List ℕ). y.1) same, refl)
payload_found tag.Keepalive bytes c fits e =
    let x = variant_found control.Keepalive keepalive_at IsKeepalive bare_keepalive keepalive_reads bytes c fits e in
    rw x.2 (x.1, refl)
payload_found tag.KeepaliveAck bytes c fits e =
    let x = variant_found control.KeepaliveAck keepalive_ack_at IsKeepaliveAck bare_keepalive_ack keepalive_ack_reads bytes c fits e in
    rw x.2 (x.1, refl)
payload_found tag.Ack bytes c fits e =
    let x = variant_found control.Ack ack_at IsAck bare_ack ack_reads bytes c fits e in
    rw x.2 (x.1, refl)
payload_found tag.AuthReplyMore bytes c fits e = absurd cc
payload_found tag.AuthRequestMore bytes c fits e = absurd cc
payload_found tag.Message bytes c fits e = absurd cc
payload_found tag.CompressionRequest bytes c fits e = absurd cc
payload_found tag.CompressionDone bytes c fits e = absurd cc
