-- The answer to an ask that is next on a feed is the first of what is to come there.
use Rattle.std.proofs.Common.{◌≡◌, ℕ, zero, suc, ◌+◌, ◌≤◌, List, [], ◌∷◌, ◌++◌, length, take, drop, Option, Some, None, refl, ap, ◌∙◌, subst, arith}
use Rattle.m2_queues.specs.m2_frame.Reading.{Item}
use Rattle.m2_journal.specs.Feeds.{told_by, said_at}
use Rattle.m2_journal.specs.OutFrames.{OutFrame}
use Rattle.m2_journal.specs.Said.{Said, said}
use Rattle.m2_journal.specs.State as state
use Rattle.m2_journal.specs.State.{Delivery}
use Rattle.m2_never_reset.specs.Fits.{Says, IsRefusal, AreSaid}
use Rattle.m2_never_reset.specs.LinkOf.{raised_by, heard_in, letters}
use Rattle.m2_queues.specs.m2_message.Message.{unnumbered}
use Rattle.m2_queues.proofs.m2_lemmas.Options.{some_same}

abbrev IsNothing : {X : Type 0} → Option X → Type 0
IsNothing None = Unit {0}
IsNothing (Some x) = ⊥

pub nothing_isnt_some : {X Y : Type 0} (x : X) → None ≡ Some x → Y
nothing_isnt_some x e = absurd (subst IsNothing e tt)

-- the frame that was sent, which says it, and what is behind that
pub record IsNext (x : Said) (n : ℕ) (vs : List OutFrame) : Type 0 where
  pub frame : OutFrame
  pub first : drop n vs ≡ frame ∷ drop (n + 1) vs
  pub says : Says x frame
  pub within : n + 1 ≤ length vs

pub next_of : (n : ℕ) (is : List Item) (vs : List OutFrame) (x : Said) → (IsRefusal x → ⊥) →
    AreSaid is vs → said_at is n ≡ Some x → IsNext x n vs
next_of n [] vs x real h e = nothing_isnt_some x e
next_of zero (i ∷ is) [] x real h e = absurd (real (subst IsRefusal (some_same (said i) x e) h.0))
next_of zero (i ∷ is)
    (w ∷ vs) x real h e = record { frame = w; first = refl; says = subst (λ s. Says s w) (some_same (said i) x e) h.0; within = omega arith }
next_of (suc n) (i ∷ is) [] x real h e = nothing_isnt_some x (subst (λ l. said_at l n ≡ Some x) h.1 e)
next_of (suc n) (i ∷ is) (w ∷ vs) x real h e =
    let it = next_of n is vs x real h.1 e in
    let place : n + 1 ≡ suc n = omega arith in
    let within = it.within in
    record {
      frame = it.frame;
      first = it.first ∙ ap (λ k. it.frame ∷ drop k (w ∷ vs)) (let e : suc (n + 1) ≡ suc n + 1 = omega arith in e);
      says = it.says;
      within = omega (arith, within);
    }

-- what it acknowledges is heard behind what was heard before
pub heard_next : (n h : ℕ) (is : List Item) (x : Said) → said_at is n ≡ Some x →
    heard_in h (take (n + 1) is) ≡ raised_by (heard_in h (take n is)) (told_by x)
heard_next n h [] x e = nothing_isnt_some x e
heard_next zero h (i ∷ is) x e = ap (λ s. raised_by h (told_by s)) (some_same (said i) x e)
heard_next (suc n) h (i ∷ is) x e =
    ap (λ k. heard_in h (take k (i ∷ is))) (let e : suc n + 1 ≡ suc (n + 1) = omega arith in e)
    ∙ heard_next n (raised_by h (told_by (said i))) is x e

pub letters-append : (ds es : List Delivery) → letters (ds ++ es) ≡ letters ds ++ letters es
letters-append [] es = refl
letters-append (state.letter n life key m ∷ ds) es = ap (λ l. unnumbered m ∷ l) (letters-append ds es)
letters-append (state.discarded ∷ ds) es = letters-append ds es
letters-append (state.remote_reset ∷ ds) es = letters-append ds es
