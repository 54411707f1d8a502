-- The frames of answers keep the bounds of their fields.
use Rattle.std.proofs.Common.{◌≡◌, ◌≢◌, ℕ, ◌<◌, ◌^◌, Bool, true, false, not, ◌&&◌, ◌==◌, if◌then◌else◌, ◌%◌, ◌⊎◌, inl, inr, refl, rules, arith, ne_eqb}
use Rattle.m2_addr.specs.declared.addr.Addr.{Addr}
use Rattle.std.specs.Prelude.{pos, FitsSigned, is_ok, [], ◌∷◌}
use Rattle.std.specs.Int.{w64}
use Rattle.m2_addr.specs.declared.addr.AnyAddr.TheVariants.{V4}
use Rattle.m2_addr.specs.Vector.{IsKept, main_of}
use Rattle.m2_addr.proofs.Addresses.{ipv4_spelled, one_kept}
use Rattle.m2_session.specs.declared.answer.Answer.TheVariants as answer
use Rattle.m2_control.specs.declared.control.Control.TheVariants as control
use Rattle.m2_control.specs.Laws.{HasRanges, IsInBounds}
use Rattle.m2_session.specs.declared.frame.Speaker.{Speaker}
use Rattle.m2_session.specs.declared.frame.Carried.{Carried}
use Rattle.m2_session.specs.Frames.{server_ident}
use Rattle.m2_session.specs.AnswerLaws.{IsSpeaker, IsCarried, AnswersAreInBounds}

-- bit 0 of the flags is that of a lossy policy
few_flags : (lossy : Bool) → (if lossy then 1 else 0) < 2 ^ 64
few_flags true = omega arith
few_flags false = omega arith

keeps : (lossy : Bool) (cookie : ℕ) → (lossy ≡ true) ⊎ (cookie ≢ 0) → not (((if lossy then 1 else 0) % 2 == 0) && (cookie == 0)) ≡ true
keeps true cookie h = refl
keeps false cookie (inl e) = cc
keeps false cookie (inr some) = rw (ne_eqb cookie 0 some) refl

place_fits : (n : ℕ) → n < 2 ^ 32 → FitsSigned w64 (pos n)
place_fits n h = search (rules, arith)

main_there : (a : Addr) → a.kind ≡ 2 → is_ok (main_of (V4 a ∷ [])) ≡ true
main_there a e = rw e refl

ident_in_bounds : (n : Speaker) (c : Carried) → IsSpeaker n → IsCarried n c → HasRanges (control.ServerIdent (server_ident n c)) × IsInBounds (control.ServerIdent (server_ident n c))
ident_in_bounds n c speaker carried =
    let a : Addr = n.addr in
    let r = speaker.ranges in
    let kept : IsKept (V4 a ∷ []) = one_kept a (V4 a ∷ []) (ipv4_spelled a r.0 r.1 r.2 r.3) refl in (
      (kept, (place_fits n.place speaker.place, omega (arith, carried.global), speaker.supports, speaker.requires_, few_flags n.lossy, carried.cookie)),
      (main_there a speaker.kind, carried.global, keeps n.lossy c.cookie carried.some),
    )

pub are_in_bounds : AnswersAreInBounds
are_in_bounds n c answer.Accept s k b = ident_in_bounds n c s k
are_in_bounds n c answer.AcceptOver s k b = ident_in_bounds n c s k
are_in_bounds n c (answer.AcceptReset full) s k b = ident_in_bounds n c s k
are_in_bounds n c answer.AcceptAgain s k b = ident_in_bounds n c s k
are_in_bounds n c answer.AcceptReplace s k b = ident_in_bounds n c s k
are_in_bounds n c answer.AcceptRace s k b = ident_in_bounds n c s k
are_in_bounds n c answer.Close s k b = tt
are_in_bounds n c answer.Wait s k b = (tt, tt)
are_in_bounds n c (answer.Reset full) s k b = (tt, tt)
are_in_bounds n c answer.ResetPending s k b = (tt, tt)
are_in_bounds n c (answer.RetryGlobal number) s k b = (omega (arith, b), b)
are_in_bounds n c (answer.Retry number) s k b = (omega (arith, b), b)
are_in_bounds n c answer.Resume s k b = (omega (arith, k.last), k.last)
