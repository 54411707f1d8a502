-- Facts that the examples give with what stands on both sides written out, so that it isn't read off from a whole run.
use Rattle.std.specs.Prelude.{◌≡◌, ◌≢◌, ◌==◌, ℕ, true, false, List, [], nat_lt, nat_le, refl, Option, None}
use Rattle.std.proofs.Common.{sym, ap, ◌∙◌}
use Rattle.std.proofs.lemmas.Bool.{ltb-true, leb-true}
use Rattle.m2_handshake.specs.m2_control.declared.fields.TheConstants.{GREATEST_NUMBER}
use Rattle.m2_handshake.specs.Standing.{Standing}
use Rattle.m2_journal.specs.Lawful.{IsUnused}
use Rattle.m2_journal.specs.State.{PartText, State}
use Rattle.m2_bytes.proofs.m2_lemmas.Booleans.{false_isnt_true}

pub is_new : (s : State) (number : ℕ) → nat_lt s.top number ≡ true → nat_le number GREATEST_NUMBER ≡ true → IsUnused s number
is_new s number from to = record { from = ltb-true _ _ from; to = leb-true _ _ to }

pub holds : true ≡ true
holds = refl

pub fails : false ≡ false
fails = refl

pub same : {X : Type 0} (x : X) → x ≡ x
same x = refl

pub unopened : ◌≡◌ {A = Option Standing} None None
unopened = refl

pub all_put : ◌≡◌ {A = List PartText} [] []
all_put = refl

pub not_zero : (n : ℕ) → (n == 0) ≡ false → n ≢ 0
not_zero n e z = false_isnt_true (sym e ∙ ap (λ m. m == 0) z)

-- states are equal where each field is
pub same_state : (s t : State) → s.session ≡ t.session → s.out ≡ t.out → s.last ≡ t.last → s.life ≡ t.life → s.owes ≡ t.owes → s.steps ≡ t.steps → s.dials ≡ t.dials → s.top ≡ t.top → s.opened ≡ t.opened → s.judgements ≡ t.judgements → s.feed ≡ t.feed → s.spent ≡ t.spent → s.sent ≡ t.sent → s.deliveries ≡ t.deliveries → s ≡ t
same_state s t e0 e1 e2 e3 e4 e5 e6 e7 e8 e9 e10 e11 e12 e13 = rw (e0, e1, e2, e3, e4, e5, e6, e7, e8, e9, e10, e11, e12, e13) refl
