-- Reading a payload gives no want of memory.
use Rattle.std.proofs.Common.{ℕ, zero, suc, ◌+◌, Bool, true, false, ◌==◌, ◌&&◌, not, nat_lt, nat_le, if◌then◌else◌, List, [], ◌∷◌, length, take, drop, Result, Ok, Err}
use Rattle.std.specs.Int.{Width, w8, w32, w64, byte_len, from_le_bytes, cast_signed}
use Rattle.m2_addr.specs.declared.addr.AnyAddr.{AnyAddr}
use Rattle.m2_addr.specs.declared.addr.TheConstants.Addr.{MSGR2}
use Rattle.m2_addr.specs.declared.reading.TheConstants.{LEAST_LENGTH, MOST_LENGTH}
use Rattle.m2_addr.specs.declared.vector.TheConstants.{MOST_ADDRESSES}
use Rattle.m2_control.specs.declared.fields.TheConstants.{MOST_LISTED, MOST_BYTES, SIGNATURE_BYTES}
use Rattle.m2_addr.specs.declared.addr.AnyAddr.TheVariants.{V4, Other}
use Rattle.m2_addr.specs.declared.fault.AddrFault.{AddrFault}
use Rattle.m2_addr.specs.declared.fault.AddrFault.TheVariants as address
use Rattle.m2_addr.specs.Addr.{is_ipv4, ipv4_of, seen, head_at, socket_at, body_at, body_of, shape_at, address_at, ipv4_at}
use Rattle.m2_addr.specs.Reading.{◌>>=◌, number, prefix, checked, marked, ◌⊳◌, made}
use Rattle.m2_addr.specs.Vector.{main_of, addresses_at, count_at, vector_at}
use Rattle.m2_control.specs.declared.control.Control.{Control}
use Rattle.m2_control.specs.declared.control.Control.TheVariants as control
use Rattle.m2_control.specs.declared.fault.ControlFault.{ControlFault}
use Rattle.m2_control.specs.declared.fault.ControlFault.TheVariants.{Short, Extra, BadValue, Address}
use Rattle.m2_frame.specs.declared.tag.Tag.TheVariants as tag
use Rattle.m2_control.specs.AuthDone.{make_auth_done, auth_done_at}
use Rattle.m2_control.specs.AuthRequest.{make_auth_request, auth_request_at}
use Rattle.m2_control.specs.AuthSignature.{make_auth_signature, auth_signature_at}
use Rattle.m2_control.specs.ClientIdent.{make_client_ident, client_ident_at}
use Rattle.m2_control.specs.Control.{whole, payload_of}
use Rattle.m2_control.specs.Fields.{signed, bounded_at, cookie_at, numbers_at, list_at, string_at, raise, lifted, has_main, vector_field}
use Rattle.m2_control.specs.Hello.{make_hello, hello_at}
use Rattle.m2_control.specs.Ident.{make_tail, keeps_cookie, tail_at}
use Rattle.m2_control.specs.SessionReconnect.{make_session_reconnect, session_reconnect_at}
use Rattle.m2_handshake.specs.declared.fault.HalfFault.TheVariants as fault
use Rattle.m2_handshake.specs.Laws.{IsOfBytes}

-- ---- a reader whose faults are such

abbrev pub Fails : {A F : Type 0} → (F → Type 0) → Result A F → Type 0
Fails P (Ok x) = Unit {0}
Fails P (Err e) = P e

abbrev pub Reads : {A F : Type 0} → (F → Type 0) → (List ℕ → Result A F) → Type 0
Reads P read = (bytes : List ℕ) → Fails P (read bytes)

followed : {A B F : Type 0} (P : F → Type 0) (read : Result A F) (f : A → Result B F) → Fails P read → ((x : A) → Fails P (f x)) → Fails P (read >>= f)
followed P (Ok x) f h k = k x
followed P (Err e) f h k = h

either : {A F : Type 0} (P : F → Type 0) (b : Bool) (x y : Result A F) → Fails P x → Fails P y → Fails P (if b then x else y)
either P true x y h k = h
either P false x y h k = k

number_reads : {F : Type 0} (P : F → Type 0) (w : Width) (e : F) → P e → Reads P (number w e)
number_reads P w e h bytes = either P (nat_lt (length bytes) (byte_len w)) (Err e) (Ok (from_le_bytes w (take (byte_len w) bytes), drop (byte_len w) bytes)) h tt

prefix_reads : {F : Type 0} (P : F → Type 0) (n : ℕ) (e : F) → P e → Reads P (prefix n e)
prefix_reads P n e h bytes = either P (nat_lt (length bytes) n) (Err e) (Ok (take n bytes, drop n bytes)) h tt

checked_reads : {A F : Type 0} (P : F → Type 0) (test : A → Bool) (e : F) (read : List ℕ → Result (A × List ℕ) F) → P e → Reads P read → Reads P (checked test e read)
checked_reads P test e read h k bytes = followed P (read bytes) (λ x. if test x.0 then Ok x else Err e) (k bytes) (λ x. either P (test x.0) (Ok x) (Err e) tt h)

marked_reads : {A F : Type 0} (P : F → Type 0) (byte : ℕ) (e f : F) (read : List ℕ → Result (A × List ℕ) F) → P e → P f → Reads P read → Reads P (marked byte e f read)
marked_reads P byte e f read h i k bytes =
    followed P (number w8 e bytes) (λ x. if x.0 == byte then read x.1 else Err f) (number_reads P w8 e h bytes) (λ x. either P (x.0 == byte) (read x.1) (Err f) (k x.1) i)

both_read : {A B F : Type 0} (P : F → Type 0) (first : List ℕ → Result (A × List ℕ) F) (second : List ℕ → Result (B × List ℕ) F) → Reads P first → Reads P second → Reads P (first ⊳ second)
both_read P first second h k bytes =
    followed P (first bytes) (λ x. second x.1 >>= λ y. Ok ((x.0, y.0), y.1)) (h bytes) (λ x. followed P (second x.1) (λ y. Ok ((x.0, y.0), y.1)) (k x.1) (λ y. tt))

made_reads : {A B F : Type 0} (P : F → Type 0) (make : A → B) (read : List ℕ → Result (A × List ℕ) F) → Reads P read → Reads P (made make read)
made_reads P make read h bytes = followed P (read bytes) (λ x. Ok (make x.0, x.1)) (h bytes) (λ x. tt)

-- ---- addresses

abbrev pub OfAddress : AddrFault → Type 0
OfAddress e = IsOfBytes (fault.Control (Address e))

head_reads : Reads OfAddress head_at
unfolding head_at
head_reads = marked_reads OfAddress 1 address.Short address.BadMarker
    (checked (λ v. not (v == 0)) address.BadMarker (number w8 address.Short) ⊳ marked 1 address.Short address.BadMarker (checked (λ n. nat_le LEAST_LENGTH n && nat_le n MOST_LENGTH) address.BadLength (number w32 address.Short)))
    tt tt
    (both_read OfAddress (checked (λ v. not (v == 0)) address.BadMarker (number w8 address.Short)) (marked 1 address.Short address.BadMarker (checked (λ n. nat_le LEAST_LENGTH n && nat_le n MOST_LENGTH) address.BadLength (number w32 address.Short)))
    (checked_reads OfAddress (λ v. not (v == 0)) address.BadMarker (number w8 address.Short) tt (number_reads OfAddress w8 address.Short tt))
    (marked_reads OfAddress 1 address.Short address.BadMarker (checked (λ n. nat_le LEAST_LENGTH n && nat_le n MOST_LENGTH) address.BadLength (number w32 address.Short)) tt tt
    (checked_reads OfAddress (λ n. nat_le LEAST_LENGTH n && nat_le n MOST_LENGTH) address.BadLength (number w32 address.Short) tt (number_reads OfAddress w32 address.Short tt))))

socket_reads : Reads OfAddress socket_at
unfolding socket_at
socket_reads bytes = followed OfAddress (checked (λ n. not (n == 1)) address.BadLength (number w32 address.Short) bytes) (λ n. prefix n.0 address.BadLength n.1)
    (checked_reads OfAddress (λ n. not (n == 1)) address.BadLength (number w32 address.Short) tt (number_reads OfAddress w32 address.Short tt) bytes)
    (λ n. prefix_reads OfAddress n.0 address.BadLength tt n.1)

body_reads : Reads OfAddress body_at
body_reads = both_read OfAddress (number w32 address.Short) (number w32 address.Short ⊳ socket_at) (number_reads OfAddress w32 address.Short tt)
    (both_read OfAddress (number w32 address.Short) socket_at (number_reads OfAddress w32 address.Short tt) socket_reads)

body_of_reads : Reads OfAddress body_of
unfolding body_of
body_of_reads bytes = followed OfAddress (body_at bytes) (λ body. Ok body.0) (body_reads bytes) (λ body. tt)

shape_reads : Reads OfAddress shape_at
unfolding shape_at
shape_reads bytes = followed OfAddress (head_at bytes) _ (head_reads bytes) λ head.
    followed OfAddress (prefix head.0.1 address.Short head.1) _ (prefix_reads OfAddress head.0.1 address.Short tt head.1) λ rest.
    followed OfAddress (body_of rest.0) _ (body_of_reads rest.0) λ body. tt

address_reads : Reads OfAddress address_at
address_reads = made_reads OfAddress seen shape_at shape_reads

ipv4_reads : Reads OfAddress ipv4_at
ipv4_reads = made_reads OfAddress ipv4_of (checked is_ipv4 address.NotIpv4 shape_at) (checked_reads OfAddress is_ipv4 address.NotIpv4 shape_at tt shape_reads)

addresses_read : (n : ℕ) → Reads OfAddress (addresses_at n)
unfolding addresses_at
addresses_read zero bytes = tt
addresses_read (suc n) bytes = made_reads OfAddress (λ x. x.0 ∷ x.1) (address_at ⊳ addresses_at n) (both_read OfAddress address_at (addresses_at n) address_reads (addresses_read n)) bytes

count_reads : Reads OfAddress count_at
count_reads = marked_reads OfAddress 2 address.Short address.BadMarker (checked (λ n. nat_le n MOST_ADDRESSES) address.TooMany (number w32 address.Short)) tt tt
    (checked_reads OfAddress (λ n. nat_le n MOST_ADDRESSES) address.TooMany (number w32 address.Short) tt (number_reads OfAddress w32 address.Short tt))

vector_reads : Reads OfAddress vector_at
unfolding vector_at
vector_reads bytes = followed OfAddress (count_at bytes) (λ n. addresses_at n.0 n.1) (count_reads bytes) (λ n. addresses_read n.0 n.1)

pub main_reads : (addrs : List AnyAddr) → Fails OfAddress (main_of addrs)
main_reads [] = tt
main_reads (V4 a ∷ addrs) = either OfAddress (a.kind == MSGR2) (Ok a) (main_of addrs) tt (main_reads addrs)
main_reads (Other b ∷ addrs) = main_reads addrs

-- ---- fields

abbrev pub OfPayload : ControlFault → Type 0
OfPayload e = IsOfBytes (fault.Control e)

raised : {A : Type 0} (read : Result A AddrFault) → Fails OfAddress read → Fails OfPayload (raise read)
raised (Ok x) h = tt
raised (Err e) h = h

lifted_reads : {A : Type 0} (read : List ℕ → Result (A × List ℕ) AddrFault) → Reads OfAddress read → Reads OfPayload (lifted read)
lifted_reads read h bytes = raised (read bytes) (h bytes)

short_reads : (w : Width) → Reads OfPayload (number w Short)
short_reads w = number_reads OfPayload w Short tt

signed_reads : (w : Width) → Reads OfPayload (signed w)
signed_reads w = made_reads OfPayload (cast_signed w) (number w Short) (short_reads w)

bounded_reads : (field : ℕ) → Reads OfPayload (bounded_at field)
unfolding bounded_at
bounded_reads field = checked_reads OfPayload _ (BadValue field) (number w64 Short) tt (short_reads w64)

cookie_reads : (field : ℕ) → Reads OfPayload (cookie_at field)
unfolding cookie_at
cookie_reads field = checked_reads OfPayload _ (BadValue field) (number w64 Short) tt (short_reads w64)

numbers_read : (n : ℕ) → Reads OfPayload (numbers_at n)
unfolding numbers_at
numbers_read zero bytes = tt
numbers_read (suc n) bytes = made_reads OfPayload (λ x. x.0 ∷ x.1) (number w32 Short ⊳ numbers_at n) (both_read OfPayload (number w32 Short) (numbers_at n) (short_reads w32) (numbers_read n)) bytes

list_reads : (field : ℕ) → Reads OfPayload (list_at field)
unfolding list_at
list_reads field bytes = followed OfPayload (checked (λ n. nat_le n MOST_LISTED) (BadValue field) (number w32 Short) bytes) (λ n. numbers_at n.0 n.1)
    (checked_reads OfPayload (λ n. nat_le n MOST_LISTED) (BadValue field) (number w32 Short) tt (short_reads w32) bytes)
    (λ n. numbers_read n.0 n.1)

string_reads : (field : ℕ) → Reads OfPayload (string_at field)
unfolding string_at
string_reads field bytes = followed OfPayload (checked (λ n. nat_le n MOST_BYTES) (BadValue field) (number w32 Short) bytes) (λ n. prefix n.0 Short n.1)
    (checked_reads OfPayload (λ n. nat_le n MOST_BYTES) (BadValue field) (number w32 Short) tt (short_reads w32) bytes)
    (λ n. prefix_reads OfPayload n.0 Short tt n.1)

main_vector_reads : Reads OfPayload vector_field
unfolding vector_field
main_vector_reads = checked_reads OfPayload has_main (Address address.NoMsgr2) (lifted vector_at) tt (lifted_reads vector_at vector_reads)

tail_reads : (field : ℕ) → Reads OfPayload (tail_at field)
unfolding tail_at
tail_reads field = checked_reads OfPayload keeps_cookie (BadValue (field + 5)) _ tt
    (made_reads OfPayload make_tail _ (both_read OfPayload (signed w64) _ (signed_reads w64)
    (both_read OfPayload (bounded_at (field + 1)) _ (bounded_reads (field + 1)) (both_read OfPayload (number w64 Short) _ (short_reads w64)
    (both_read OfPayload (number w64 Short) _ (short_reads w64) (both_read OfPayload (number w64 Short) _ (short_reads w64) (short_reads w64)))))))

-- ---- payloads

hello_reads : Reads OfPayload hello_at
hello_reads = made_reads OfPayload make_hello _ (both_read OfPayload (number w8 Short) _ (short_reads w8) (lifted_reads address_at address_reads))

request_reads : Reads OfPayload auth_request_at
request_reads = made_reads OfPayload make_auth_request _ (both_read OfPayload (number w32 Short) _ (short_reads w32) (both_read OfPayload (list_at 2) _ (list_reads 2) (string_reads 3)))

done_reads : Reads OfPayload auth_done_at
done_reads = made_reads OfPayload make_auth_done _ (both_read OfPayload (number w64 Short) _ (short_reads w64) (both_read OfPayload (number w32 Short) _ (short_reads w32) (string_reads 3)))

signature_reads : Reads OfPayload auth_signature_at
signature_reads = made_reads OfPayload make_auth_signature (prefix SIGNATURE_BYTES Short) (prefix_reads OfPayload SIGNATURE_BYTES Short tt)

ident_reads : Reads OfPayload client_ident_at
ident_reads = made_reads OfPayload make_client_ident _ (both_read OfPayload vector_field _ main_vector_reads (both_read OfPayload (lifted ipv4_at) _ (lifted_reads ipv4_at ipv4_reads) (tail_reads 3)))

reconnect_reads : Reads OfPayload session_reconnect_at
reconnect_reads = made_reads OfPayload make_session_reconnect _ (both_read OfPayload vector_field _ main_vector_reads
    (both_read OfPayload (cookie_at 2) _ (cookie_reads 2) (both_read OfPayload (cookie_at 3) _ (cookie_reads 3)
    (both_read OfPayload (bounded_at 4) _ (bounded_reads 4) (both_read OfPayload (bounded_at 5) _ (bounded_reads 5) (bounded_reads 6))))))

whole_reads : {A : Type 0} (make : A → Control) (read : List ℕ → Result (A × List ℕ) ControlFault) → Reads OfPayload read → Reads OfPayload (λ bytes. whole (made make read bytes))
whole_reads make read h bytes = followed OfPayload (made make read bytes) _ (made_reads OfPayload make read h bytes) λ x. either OfPayload (length x.1 == 0) (Ok x.0) (Err Extra) tt tt

-- of the payloads that a half reads
pub hello_payload : Reads OfPayload (payload_of tag.Hello)
hello_payload = whole_reads control.Hello hello_at hello_reads

pub request_payload : Reads OfPayload (payload_of tag.AuthRequest)
request_payload = whole_reads control.AuthRequest auth_request_at request_reads

pub done_payload : Reads OfPayload (payload_of tag.AuthDone)
done_payload = whole_reads control.AuthDone auth_done_at done_reads

pub signature_payload : Reads OfPayload (payload_of tag.AuthSignature)
signature_payload = whole_reads control.AuthSignature auth_signature_at signature_reads

pub ident_payload : Reads OfPayload (payload_of tag.ClientIdent)
ident_payload = whole_reads control.ClientIdent client_ident_at ident_reads

pub reconnect_payload : Reads OfPayload (payload_of tag.SessionReconnect)
reconnect_payload = whole_reads control.SessionReconnect session_reconnect_at reconnect_reads
