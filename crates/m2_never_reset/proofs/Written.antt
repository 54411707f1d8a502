-- What is being written on a feed: only what was accepted is acknowledged, and only in Ready.
use Rattle.std.proofs.Common.{◌≡◌, ℕ, zero, suc, ◌+◌, ◌-◌, ◌≤◌, Bool, true, false, not, ◌&&◌, ◌==◌, if◌then◌else◌, List, [], ◌∷◌, ◌++◌, length, map, Option, Some, None, refl, sym, subst, arith}
use Rattle.std.specs.List.{AllByRecursion, filter, range_with_len}
use Rattle.std.specs.Option.{option_to_list}
use Rattle.std.specs.Prelude.{nat_le}
use Rattle.std.proofs.lemmas.Bool.{leb-true, leb-false}
use Rattle.m2_session.specs.m2_control.declared.keepalive.Keepalive.{Keepalive}
use Rattle.m2_session.specs.m2_control.Banner.{begins}
use Rattle.m2_session.specs.declared.session.Phase.{Phase}
use Rattle.m2_session.specs.declared.session.Phase.TheVariants as phase
use Rattle.m2_session.specs.Phases as phases
use Rattle.m2_journal.specs.Feeds.{begun, first_owed, owed_numbers, next_stamp, acknowledgements, keepalive_answers, unnamed, texts_at, without_first, narrowed, finished}
use Rattle.m2_journal.specs.OutFrames.{acknowledgement, keepalive_answer}
use Rattle.m2_journal.specs.SideFacts.{SideFacts}
use Rattle.m2_journal.specs.State.{PartText, Feed, State}
use Rattle.m2_never_reset.specs.Paired.{MayBeWritten}
use Rattle.m2_never_reset.proofs.Answered.{nothing_isnt_some}
use Rattle.m2_queues.proofs.m2_lemmas.Lists.{all_append}
use Rattle.m2_queues.proofs.m2_lemmas.Options.{some_same}
use Rattle.m2_queues.proofs.m2_lemmas.Booleans.{from_false_true}

abbrev pub AreWritten : Phase → ℕ → List PartText → Type 0
AreWritten p last texts = AllByRecursion (λ t. MayBeWritten p last t.frame) texts

-- ---- lists

kept : (p : Phase) (last : ℕ) (test : PartText → Bool) (texts : List PartText) → AreWritten p last texts →
    AreWritten p last (filter test texts)
kept p last test [] h = tt
kept p last test (t ∷ ts) h = at (test t) refl (kept p last test ts h.1)
  where
    at : (b : Bool) → test t ≡ b → AreWritten p last (filter test ts) → AreWritten p last (filter test (t ∷ ts))
    at true e more = rw e (h.0, more)
    at false e more = rw e more

shortened : (p : Phase) (last n : ℕ) (texts : List PartText) → AreWritten p last texts →
    AreWritten p last (map (without_first n) texts)
shortened p last n [] h = tt
shortened p last n (t ∷ ts) h = (h.0, shortened p last n ts h.1)

pub are_narrowed : (p : Phase) (last : ℕ) (bytes : List ℕ) (texts : List PartText) → AreWritten p last texts →
    AreWritten p last (narrowed bytes texts)
are_narrowed p last bytes texts h =
    shortened p last (length bytes) (filter (λ t. begins bytes t.left) texts)
    (kept p last (λ t. begins bytes t.left) texts h)

pub found : (p : Phase) (last : ℕ) (texts : List PartText) (t : PartText) → AreWritten p last texts →
    finished texts ≡ Some t → MayBeWritten p last t.frame
found p last [] t h e = nothing_isnt_some t e
found p last (x ∷ xs) t h e = at (length x.left == 0) refl (found p last xs t h.1)
  where
    at : (b : Bool) → (length x.left == 0) ≡ b → (finished xs ≡ Some t → MayBeWritten p last t.frame) →
        MayBeWritten p last t.frame
    at true k later = subst (λ z. MayBeWritten p last z.frame) (some_same x t (rw k at e)) h.0
    at false k later = later (rw k at e)

-- ---- what no entry names

pub is_ready : (p : Phase) → phases.is p phase.Ready ≡ true → p ≡ phase.Ready
is_ready phase.Ready e = refl
is_ready phase.Absent e = from_false_true e
is_ready phase.Connecting e = from_false_true e
is_ready phase.IdentSent e = from_false_true e
is_ready phase.ReconnectSent e = from_false_true e
is_ready phase.Standby e = from_false_true e
is_ready phase.Wait e = from_false_true e

numbers_fit : (f : SideFacts) (last n from : ℕ) → from + n ≤ last + 1 →
    AreWritten phase.Ready last (map (λ k. begun f (acknowledgement k)) (range_with_len from n))
numbers_fit f last zero from h = tt
numbers_fit f last (suc n) from h = ((refl, omega (arith, h)), numbers_fit f last n (from + 1) (omega (arith, h)))

none_fit : (f : SideFacts) (last n from : ℕ) → n ≡ 0 →
    AreWritten phase.Ready last (map (λ k. begun f (acknowledgement k)) (range_with_len from n))
none_fit f last zero from h = tt
none_fit f last (suc n) from h = absurd (omega (arith, h))

owed_fit : (f : SideFacts) (s : State) (d : Feed) → AreWritten phase.Ready s.last (acknowledgements f s d)
owed_fit f s d = at (s.owes && not f.policy.lossy)
  where
    by_room : (from : ℕ) → (t : Bool) → nat_le from (s.last + 1) ≡ t →
        AreWritten phase.Ready s.last (map (λ k. begun f (acknowledgement k)) (range_with_len from (s.last + 1 - from)))
    by_room from true e =
        numbers_fit f s.last (s.last + 1 - from) from (let l = leb-true from (s.last + 1) e in omega (arith, l))
    by_room from false e =
        none_fit f s.last (s.last + 1 - from) from (let l = leb-false from (s.last + 1) e in omega (arith, l))

    at : (t : Bool) →
        AreWritten phase.Ready s.last (if t then map (λ n. begun f (acknowledgement n)) (owed_numbers s d) else [])
    at true = by_room (first_owed d) (nat_le (first_owed d) (s.last + 1)) refl
    at false = tt

stamps_fit : (f : SideFacts) (last : ℕ) (o : Option Keepalive) →
    AreWritten phase.Ready last (map (λ k. begun f (keepalive_answer k)) (option_to_list o))
stamps_fit f last (Some k) = (refl, tt)
stamps_fit f last None = tt

unnamed_fit : (f : SideFacts) (s : State) (d : Feed) → AreWritten s.session.phase s.last (unnamed f s d)
unnamed_fit f s d = at (phases.is s.session.phase phase.Ready) refl
  where
    at : (t : Bool) → phases.is s.session.phase phase.Ready ≡ t →
        AreWritten s.session.phase s.last (if t then acknowledgements f s d ++ keepalive_answers f s d else [])
    at true e =
        subst (λ p. AreWritten p s.last (acknowledgements f s d ++ keepalive_answers f s d))
        (sym (is_ready s.session.phase e))
        (all_append (λ t. MayBeWritten phase.Ready s.last t.frame) (acknowledgements f s d) (keepalive_answers f s d) (owed_fit f s d) (stamps_fit f s.last (next_stamp s.last d)))
    at false e = tt

pub texts_fit : (f : SideFacts) (s : State) (d : Feed) → AreWritten s.session.phase s.last d.texts →
    AreWritten s.session.phase s.last (texts_at f s d)
texts_fit f s d h = at (length d.texts == 0)
  where
    at : (t : Bool) → AreWritten s.session.phase s.last (if t then unnamed f s d else d.texts)
    at true = unnamed_fit f s d
    at false = h
