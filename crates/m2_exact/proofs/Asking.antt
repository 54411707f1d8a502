-- What is asked of throttles that are alone is answered by their words, by what is held and by the size, and by nothing else.
use Rattle.std.proofs.Common.{◌≡◌, ℕ, Option, None, Some, refl, sym, subst, ◌∙◌, ap}
use Rattle.m2_dispatch.specs.m2_shared.More.{Asks, Course, Goes, passes, is_full, had_changed, unasked, course}
use Rattle.m2_dispatch.specs.m2_shared.Place.{IsAlone}
use Rattle.m2_dispatch.specs.m2_shared.Stages.{amount, grant_at}
use Rattle.m2_dispatch.specs.m2_shared.Taking.{Taking, grant_of, taking}
use Rattle.m2_dispatch.specs.m2_shared.Throttle.{SeenGrant, SeenTakePass, SeenThrottle, Waits}
use Rattle.m2_dispatch.specs.m2_shared.declared.more.More.{More}
use Rattle.m2_dispatch.specs.m2_shared.declared.more.More.TheVariants as more
use Rattle.m2_dispatch.specs.m2_shared.declared.peer_grants.PeerGrants.{PeerGrants}
use Rattle.m2_dispatch.specs.m2_shared.declared.stage.Stage.{Stage}
use Rattle.m2_dispatch.specs.m2_shared.declared.stage.Stage.TheVariants.{Messages, Bytes, Dispatch}

-- ---- at one stage

-- it hasn't granted, and its word is such that one has to wait
abbrev pub Refuses : SeenThrottle → (word n : ℕ) → Option SeenGrant → Type 0
Refuses t word n before = (before ≡ None) × Waits t.most word n

granted_so : (t : Taking) (n : ℕ) (before after : Option SeenGrant) → IsAlone t.throttle.place → Goes passes t n before after → Refuses t.throttle t.before.word n before → ⊥
granted_so t n (Some g) after alone k r = cc r.0
granted_so t n None after alone k r = k.1.alone alone r.1

refused_so : (t : Taking) (n held : ℕ) (before after : Option SeenGrant) → IsAlone t.throttle.place → Goes (is_full held) t n before after →
    Refuses t.throttle t.before.word n before × (held ≡ t.before.word)
refused_so t n held before after alone k = ((k.0, (k.2.alone alone).1), (k.2.alone alone).0)

-- what a stage has granted then
abbrev after_at : Course → SeenThrottle → ℕ → Option SeenGrant → Option SeenGrant
after_at passes t n (Some g) = Some g
after_at passes t n None = Some (grant_of t n)
after_at (is_full held) t n before = None
after_at (had_changed seen now) t n before = None
after_at unasked t n before = before

goes_after : (c : Course) (t : Taking) (n : ℕ) (before after : Option SeenGrant) → Goes c t n before after → after ≡ after_at c t.throttle n before
goes_after passes t n (Some g) after k = k.0
goes_after passes t n None after k = k.0
goes_after (is_full held) t n before after k = k.1
goes_after (had_changed seen now) t n before after k = k.1
goes_after unasked t n before after k = k.0

-- ---- the answer

-- Whole where no stage refuses; Full of the first that does, with its word.
abbrev Says : More → (Stage → Type 0) → (Stage → ℕ) → Type 0
Says more.Whole R word = (stage : Stage) → R stage → ⊥
Says (more.Full Messages held) R word = R Messages × (held ≡ word Messages)
Says (more.Full Bytes held) R word = (R Messages → ⊥) × R Bytes × (held ≡ word Bytes)
Says (more.Full Dispatch held) R word = (R Messages → ⊥) × (R Bytes → ⊥) × R Dispatch × (held ≡ word Dispatch)
Says (more.Again stage seen now) R word = ⊥

-- what refuses here refuses there, and the words are the same
module _ (R S : Stage → Type 0) (w v : Stage → ℕ) (to : (s : Stage) → R s → S s) (back : (s : Stage) → S s → R s) (same : (s : Stage) → w s ≡ v s) where
  said_one : (a b : More) → Says a R w → Says b S v → a ≡ b
  said_one more.Whole more.Whole h k = refl
  said_one more.Whole (more.Full Messages held) h k = absurd (h Messages (back Messages k.0))
  said_one more.Whole (more.Full Bytes held) h k = absurd (h Bytes (back Bytes k.1))
  said_one more.Whole (more.Full Dispatch held) h k = absurd (h Dispatch (back Dispatch k.2))
  said_one (more.Full Messages held) more.Whole h k = absurd (k Messages (to Messages h.0))
  said_one (more.Full Bytes held) more.Whole h k = absurd (k Bytes (to Bytes h.1))
  said_one (more.Full Dispatch held) more.Whole h k = absurd (k Dispatch (to Dispatch h.2))
  said_one (more.Full Messages held) (more.Full Messages out) h k = ap (λ (n : ℕ). more.Full Messages n) (h.1 ∙ same Messages ∙ sym k.1)
  said_one (more.Full Messages held) (more.Full Bytes out) h k = absurd (k.0 (to Messages h.0))
  said_one (more.Full Messages held) (more.Full Dispatch out) h k = absurd (k.0 (to Messages h.0))
  said_one (more.Full Bytes held) (more.Full Messages out) h k = absurd (h.0 (back Messages k.0))
  said_one (more.Full Bytes held) (more.Full Bytes out) h k = ap (λ (n : ℕ). more.Full Bytes n) (h.2 ∙ same Bytes ∙ sym k.2)
  said_one (more.Full Bytes held) (more.Full Dispatch out) h k = absurd (k.1 (to Bytes h.1))
  said_one (more.Full Dispatch held) (more.Full Messages out) h k = absurd (h.0 (back Messages k.0))
  said_one (more.Full Dispatch held) (more.Full Bytes out) h k = absurd (h.1 (back Bytes k.1))
  said_one (more.Full Dispatch held) (more.Full Dispatch out) h k = ap (λ (n : ℕ). more.Full Dispatch n) (h.3 ∙ same Dispatch ∙ sym k.3)
  said_one (more.Again stage seen now) b h k = absurd h
  said_one a (more.Again stage seen now) h k = absurd k

-- an ask, of throttles that are alone
module _ (size : ℕ) (t : Stage → SeenThrottle) (alone : (s : Stage) → IsAlone (t s).place) (old new : Stage → SeenTakePass) (before after : Stage → Option SeenGrant) where
  abbrev refuses : Stage → Type 0
  refuses s = Refuses (t s) (old s).word (amount s size) (before s)

  abbrev word_at : Stage → ℕ
  word_at s = (old s).word

  grants_there : (s : Stage) → Goes passes (taking (t s) (old s) (new s)) (amount s size) (before s) (after s) → refuses s → ⊥
  grants_there s k r = granted_so (taking (t s) (old s) (new s)) (amount s size) (before s) (after s) (alone s) k r

  refuses_there : (s : Stage) (held : ℕ) → Goes (is_full held) (taking (t s) (old s) (new s)) (amount s size) (before s) (after s) → refuses s × (held ≡ word_at s)
  refuses_there s held k = refused_so (taking (t s) (old s) (new s)) (amount s size) held (before s) (after s) (alone s) k

  asked_says : (a : More) → Asks a size t old new before after → Says a refuses word_at
  asked_says more.Whole k = λ s r. grants_there s (k s) r
  asked_says (more.Full Messages held) k = refuses_there Messages held (k Messages)
  asked_says (more.Full Bytes held) k =
      let first = grants_there Messages (k Messages) in
      let there = refuses_there Bytes held (k Bytes) in
      (first, there.0, there.1)
  asked_says (more.Full Dispatch held) k =
      let first = grants_there Messages (k Messages) in
      let second = grants_there Bytes (k Bytes) in
      let there = refuses_there Dispatch held (k Dispatch) in
      (first, second, there.0, there.1)
  asked_says (more.Again Messages seen now) k = (k Messages).2.alone (alone Messages)
  asked_says (more.Again Bytes seen now) k = (k Bytes).2.alone (alone Bytes)
  asked_says (more.Again Dispatch seen now) k = (k Dispatch).2.alone (alone Dispatch)

  asked_after : (a : More) → Asks a size t old new before after → (s : Stage) → after s ≡ after_at (course a s) (t s) (amount s size) (before s)
  asked_after a k s = goes_after (course a s) (taking (t s) (old s) (new s)) (amount s size) (before s) (after s) (k s)

-- ---- what was granted

pub same_grants : (g k : PeerGrants) → g.peer ≡ k.peer → ((s : Stage) → grant_at g.grants s ≡ grant_at k.grants s) → g ≡ k
same_grants g k peer each =
    ap (λ (x : Option SeenGrant). record g { grants = record g.grants { messages = x } }) (each Messages)
    ∙ ap (λ (x : Option SeenGrant). record g { grants = record g.grants { messages = k.grants.messages; bytes = x } }) (each Bytes)
    ∙ ap (λ (x : Option SeenGrant). record g { grants = record k.grants { dispatch = x } }) (each Dispatch)
    ∙ ap (λ p. record k { peer = p }) peer

-- ---- two asks

-- of one size, of the same throttles with the same words, where the same was granted before: the answer is one, and the same is granted
pub record AskAlike (a b : More) (after last : Stage → Option SeenGrant) : Type 0 where
  pub answers : a ≡ b
  pub each : (s : Stage) → after s ≡ last s

pub ask_alike : (size : ℕ) (t u : Stage → SeenThrottle) (alone : (s : Stage) → IsAlone (t s).place) (old new was is : Stage → SeenTakePass) (before after first last : Stage → Option SeenGrant) →
    ((s : Stage) → t s ≡ u s) → ((s : Stage) → (old s).word ≡ (was s).word) → ((s : Stage) → before s ≡ first s) → (a b : More) → Asks a size t old new before after → Asks b size u was is first last →
    AskAlike a b after last
ask_alike size t u alone old new was is before after first last throttles words held a b h k = record {
  answers = answers;
  each = λ s. asked_after size t alone old new before after a h s
      ∙ ap (λ (x : More). after_at (course x s) (t s) (amount s size) (before s)) answers
      ∙ ap (λ (x : SeenThrottle). after_at (course b s) x (amount s size) (before s)) (throttles s)
      ∙ ap (λ (x : Option SeenGrant). after_at (course b s) (u s) (amount s size) x) (held s)
      ∙ sym (asked_after size u there was is first last b k s);
}
  where
    there : (s : Stage) → IsAlone (u s).place
    there s = sym (ap (λ (x : SeenThrottle). x.place) (throttles s)) ∙ alone s

    to : (s : Stage) → refuses size t alone old new before after s → refuses size u there was is first last s
    to s r = (sym (held s) ∙ r.0, subst (λ (x : ℕ). Waits (u s).most x (amount s size)) (words s) (subst (λ (x : SeenThrottle). Waits x.most (old s).word (amount s size)) (throttles s) r.1))

    back : (s : Stage) → refuses size u there was is first last s → refuses size t alone old new before after s
    back s r = (held s ∙ r.0, subst (λ (x : ℕ). Waits (t s).most x (amount s size)) (sym (words s)) (subst (λ (x : SeenThrottle). Waits x.most (was s).word (amount s size)) (sym (throttles s)) r.1))

    answers : a ≡ b
    answers = said_one (refuses size t alone old new before after) (refuses size u there was is first last) (word_at size t alone old new before after) (word_at size u there was is first last) to back words a b
        (asked_says size t alone old new before after a h) (asked_says size u there was is first last b k)
