-- What is written is spelled so, field by field, and so is read again.
use Rattle.std.proofs.Common.{◌≡◌, ℕ, ℤ, zero, suc, ◌+◌, ◌^◌, ◌<◌, ◌≤◌, true, List, [], ◌∷◌, ◌++◌, length, refl, sym, ◌∙◌, append_assoc, arith, inl, inr}
use Rattle.std.specs.Prelude.{FitsSigned, slice_index}
use Rattle.std.specs.List.{flat_map}
use Rattle.std.specs.Int.{w32, w64, to_le_bytes, cast_unsigned}
use Rattle.std.proofs.lemmas.Int.{ints, to_z-of_z}
use Rattle.std.proofs.lemmas.List.Concat.{flat_map-cons}
use Rattle.std.proofs.lemmas.Nat.{from_le_bytes-to_le_bytes_8}
use Rattle.m2_addr.specs.declared.addr.Addr.{Addr}
use Rattle.m2_addr.specs.declared.addr.AnyAddr.{AnyAddr}
use Rattle.m2_addr.specs.declared.addr.AnyAddr.TheVariants.{V4, Other}
use Rattle.m2_addr.specs.Addr.{IsSound, IsWellFormed, ipv4_text}
use Rattle.m2_addr.specs.Vector.{IsKept, bares, vector_text}
use Rattle.m2_addr.proofs.Addresses.{ipv4_spelled, vector_spelled}
use Rattle.m2_control.specs.declared.ident.Tail.{Tail}
use Rattle.m2_control.specs.declared.control.Control.{Control}
use Rattle.m2_control.specs.declared.control.Control.TheVariants as control
use Rattle.m2_control.specs.declared.banner.Banner.{Banner}
use Rattle.m2_control.specs.declared.banner.BannerStep.TheVariants.{Got, NotYet, BadBanner}
use Rattle.m2_control.specs.Fields.{IsSigned, IsBounded, AreNumbers, IsList, IsShortString, IsIpv4, IsMainVector, has_main, list_text, string_text}
use Rattle.m2_control.specs.Ident.{keeps_cookie, IsTail, tail_text}
use Rattle.m2_control.specs.Banner.{magic, payload_length, banner_text}
use Rattle.m2_control.specs.Control.{Spells, text_of}
use Rattle.m2_control.specs.Laws.{HasAddrRanges, HasAnyRanges, HasTailRanges, AreWords, client_tail, server_tail, HasRanges, IsInBounds, WrittenIsRead, BannerIsRead}
use Rattle.m2_control.proofs.Payloads.{payload_only}
use Rattle.m2_control.proofs.Raised.{main_stays}

-- ---- fields

signed32_spelled : (z : ℤ) → FitsSigned w32 z → IsSigned w32 z (to_le_bytes w32 (cast_unsigned w32 z))
signed32_spelled z fits =
    let below : cast_unsigned w32 z < 2 ^ 32 = grind (arith, ints) in
    (cast_unsigned w32 z, (refl, below), sym (to_z-of_z w32 z fits))

signed64_spelled : (z : ℤ) → FitsSigned w64 z → IsSigned w64 z (to_le_bytes w64 (cast_unsigned w64 z))
signed64_spelled z fits =
    let below : cast_unsigned w64 z < 2 ^ 64 = grind (arith, ints) in
    (cast_unsigned w64 z, (refl, below), sym (to_z-of_z w64 z fits))

numbers_spelled : (ns : List ℕ) → AreWords ns → AreNumbers ns (flat_map (to_le_bytes w32) ns)
numbers_spelled [] fit = refl
numbers_spelled (n ∷ ns) fit = (to_le_bytes w32 n, flat_map (to_le_bytes w32) ns, (refl, fit.0), numbers_spelled ns fit.1, flat_map-cons (to_le_bytes w32) n ns)

list_spelled : (ns : List ℕ) → AreWords ns → length ns ≤ 64 → IsList ns (list_text ns)
list_spelled ns fit few = (few, (to_le_bytes w32 (length ns), flat_map (to_le_bytes w32) ns, (refl, omega arith), numbers_spelled ns fit, refl))

string_spelled : (bytes : List ℕ) → length bytes ≤ 4096 → IsShortString bytes (string_text bytes)
string_spelled bytes few = (few, (to_le_bytes w32 (length bytes), bytes, (refl, omega arith), refl, refl))

bounded_spelled : (n : ℕ) → n ≤ 2 ^ 40 → IsBounded n (to_le_bytes w64 n)
bounded_spelled n few = ((refl, omega arith), few)

any_spelled : (a : AnyAddr) → HasAnyRanges a → IsWellFormed a → IsSound a
any_spelled (V4 a) fit formed = ipv4_spelled a fit.0 fit.1 fit.2 fit.3
any_spelled (Other b) fit formed = formed

target_spelled : (a : Addr) → HasAddrRanges a → IsIpv4 a (ipv4_text a)
target_spelled a fit = ipv4_spelled a fit.0 fit.1 fit.2 fit.3

main_spelled : (addrs : List AnyAddr) → IsKept addrs → has_main addrs ≡ true → IsMainVector (bares addrs) (vector_text addrs)
main_spelled addrs kept main = (vector_spelled addrs kept, main_stays addrs ∙ main)

tail_spelled : (t : Tail) → HasTailRanges t → t.global ≤ 2 ^ 40 → keeps_cookie t ≡ true → IsTail t (tail_text t)
tail_spelled t fit few keeps =
    ((_, _, signed64_spelled t.gid fit.0, (_, _, bounded_spelled t.global few, (_, _, (refl, fit.2), (_, _, (refl, fit.3), (_, _, (refl, fit.4), (refl, fit.5), refl), refl), refl), refl), refl), keeps)

-- ---- payloads

regrouped : (a b c d e f : List ℕ) → ((((a ++ b) ++ c) ++ d) ++ e) ++ f ≡ a ++ (b ++ (c ++ (d ++ (e ++ f))))
regrouped a b c d e f = simp append_assoc

spelled : (c : Control) → HasRanges c → IsInBounds c → Spells c (text_of c)
spelled (control.Hello p) fit bound = (_, _, (refl, fit.0), any_spelled p.seen fit.1 bound, refl)
spelled (control.AuthRequest p) fit bound = (_, _, (refl, fit.0), (_, _, list_spelled p.modes.items fit.1 bound.0, string_spelled p.payload.bytes bound.1, refl), refl)
spelled (control.AuthBadMethod p) fit bound =
    (_, _, (refl, fit.0), (_, _, signed32_spelled p.outcome fit.1, (_, _, list_spelled p.methods.items fit.2 bound.0, list_spelled p.modes.items fit.3 bound.1, refl), refl), refl)
spelled (control.AuthDone p) fit bound = (_, _, (refl, fit.0), (_, _, (refl, fit.1), string_spelled p.payload.bytes bound, refl), refl)
spelled (control.AuthSignature p) fit bound = (refl, bound)
spelled (control.ClientIdent p) fit bound =
    (_, _, main_spelled p.addrs fit.0 bound.0, (_, _, target_spelled p.target fit.1, tail_spelled (client_tail p) fit.2 bound.1 bound.2, refl), append_assoc (vector_text p.addrs) (ipv4_text p.target) (tail_text (client_tail p)))
spelled (control.ServerIdent p) fit bound = (_, _, main_spelled p.addrs fit.0 bound.0, tail_spelled (server_tail p) fit.1 bound.1 bound.2, refl)
spelled (control.IdentMissingFeatures p) fit bound = (refl, fit)
spelled (control.SessionReconnect p) fit bound = (
  _,
  _,
  main_spelled p.addrs fit.0 bound.0,
  (_, _, ((refl, fit.1), bound.1), (_, _, ((refl, fit.2), bound.2), (_, _, bounded_spelled p.global bound.3, (_, _, bounded_spelled p.connect bound.4, bounded_spelled p.seen bound.5, refl), refl), refl), refl),
  regrouped (vector_text p.addrs) (to_le_bytes w64 p.client) (to_le_bytes w64 p.server) (to_le_bytes w64 p.global) (to_le_bytes w64 p.connect) (to_le_bytes w64 p.seen),
)
spelled (control.SessionReset p) fit bound = refl
spelled (control.SessionRetry p) fit bound = bounded_spelled p.connect bound
spelled (control.SessionRetryGlobal p) fit bound = bounded_spelled p.global bound
spelled (control.SessionReconnectOk p) fit bound = bounded_spelled p.seen bound
spelled (control.Wait p) fit bound = refl
spelled (control.Keepalive p) fit bound = (_, _, (refl, fit.0), (refl, fit.1), refl)
spelled (control.KeepaliveAck p) fit bound = (_, _, (refl, fit.0), (refl, fit.1), refl)
spelled (control.Ack p) fit bound = bounded_spelled p.seen bound

pub written_is_read : WrittenIsRead
written_is_read c fit bound = let s = spelled c fit bound in record { spelled = s; read = payload_only c (text_of c) s }

-- ---- the banner

length_is : (b : Banner) (more : List ℕ) → payload_length (banner_text b ++ more) ≡ 16
length_is b more = refl

total : (b : Banner) (more : List ℕ) → length (banner_text b ++ more) ≡ 26 + length more
total b more = omega arith

agrees : (b : Banner) (more : List ℕ) (i : ℕ) → i < 8 → slice_index (banner_text b ++ more) i ≡ slice_index magic i
agrees b more zero lt = refl
agrees b more (suc zero) lt = refl
agrees b more (suc (suc zero)) lt = refl
agrees b more (suc (suc (suc zero))) lt = refl
agrees b more (suc (suc (suc (suc zero)))) lt = refl
agrees b more (suc (suc (suc (suc (suc zero))))) lt = refl
agrees b more (suc (suc (suc (suc (suc (suc zero)))))) lt = refl
agrees b more (suc (suc (suc (suc (suc (suc (suc zero))))))) lt = refl
agrees b more (suc (suc (suc (suc (suc (suc (suc (suc i)))))))) lt = absurd (omega arith)

made_of : (b c : Banner) (used : ℕ) → c.supported ≡ b.supported → c.required ≡ b.required → used ≡ 26 → Got c used ≡ Got b 26
made_of b c used s r u = rw (s, r, u) refl

pub banner_is_read : BannerIsRead
banner_is_read b more (Got c used) s r (agree, allowed, is, le, supported, required) =
    made_of b c used (supported ∙ from_le_bytes-to_le_bytes_8 b.supported s) (required ∙ from_le_bytes-to_le_bytes_8 b.required r) (omega (arith, is, length_is b more))
banner_is_read b more NotYet s r (agree, inl short) = absurd (omega (arith, short, total b more))
banner_is_read b more NotYet s r (agree, inr (allowed, short)) = absurd (omega (arith, short, total b more, length_is b more))
banner_is_read b more BadBanner s r (inl (i, lt, there, differs)) = absurd (differs (agrees b more i lt))
banner_is_read b more BadBanner s r (inr (long, inl few)) = absurd (omega (arith, few, length_is b more))
banner_is_read b more BadBanner s r (inr (long, inr many)) = absurd (omega (arith, many, length_is b more))
