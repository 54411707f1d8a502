-- What is known of a half by what was looked at, and of an arrival that was judged.
use Rattle.std.proofs.Common.{◌≡◌, ℕ, false, List, Option, Some, None, refl, sym, subst}
use Rattle.std.specs.Prelude.{IfSome, IsSome, slice_get}
use Rattle.std.specs.Option.{is_none, option_to_list}
use Rattle.m2_handshake.specs.m2_control.declared.control.Control.{Control}
use Rattle.m2_handshake.specs.declared.ask.Ask.{Ask}
use Rattle.m2_session.specs.declared.answer.Answer.{Answer}
use Rattle.m2_trail.specs.Incoming.{IncomingNow, IsAnswered, after_judging}
use Rattle.m2_trail.specs.Replies.{first_reply, reply_to}
use Rattle.m2_bytes.proofs.m2_lemmas.Booleans.{false_isnt_true}

-- an arrival comes back with its answer noted
pub is_answered : (answer : Answer) (a x : IncomingNow) (room : ℕ) → x ≡ after_judging answer room a → IsAnswered answer x
is_answered answer a x room e = subst (IsAnswered answer) (sym e) (refl, (a.trail.judged, refl))

pub at_some : (o : Option Ask) (k : Ask) (P : Ask → Type 0) → o ≡ Some k → IfSome o P → P k
at_some o k P e h = subst (λ (x : Option Ask). IfSome x P) e h

-- there is a reply where one is found
pub has_reply : (answer : Answer) (reply : Option Control) → option_to_list reply ≡ reply_to answer → is_none reply ≡ false → IsSome (first_reply answer)
has_reply answer (Some c) e h = subst (λ (cs : List Control). IsSome (slice_get cs 0)) e refl
has_reply answer None e h = absurd (false_isnt_true (sym h))
