-- The facts of a feed where the answer to its ask is taken, and where it hears bytes.
use Rattle.std.proofs.Common.{◌≡◌, ℕ, zero, suc, ◌+◌, ◌≤◌, ◌⊎◌, inl, inr, Bool, true, false, if◌then◌else◌, List, [], ◌∷◌, length, drop, Option, Some, None, refl, sym, ◌∙◌, subst, arith}
use Rattle.std.specs.List.{AllByRecursion}
use Rattle.m2_queues.specs.m2_frame.Reading.{Item}
use Rattle.m2_journal.specs.m2_fabric.Sockets.{same_socket}
use Rattle.m2_journal.specs.m2_handshake.Course.{Course, course_of, text_of}
use Rattle.m2_journal.specs.m2_handshake.Moves.{is_authed}
use Rattle.m2_journal.specs.m2_handshake.Standing.{Standing, fed}
use Rattle.m2_session.specs.declared.session.Phase.{Phase}
use Rattle.m2_session.specs.declared.session.Phase.TheVariants as phase
use Rattle.m2_journal.specs.Feeds.{said_at, greets, split_into, signs, goes_on, hears_at, hears}
use Rattle.m2_journal.specs.OutFrames as out
use Rattle.m2_journal.specs.OutFrames.{OutFrame}
use Rattle.m2_journal.specs.Said.{Said, split}
use Rattle.m2_journal.specs.State.{PartText, Feed}
use Rattle.m2_never_reset.specs.Frames.{answers_on, to_come}
use Rattle.m2_never_reset.specs.LinkOf.{is_unjudged}
use Rattle.m2_never_reset.specs.Paired.{IsMail, IsAccepted, MayBeWritten, HasAsked, Beside, FeedIsPaired}
use Rattle.m2_never_reset.proofs.Answered.{nothing_isnt_some}
use Rattle.m2_never_reset.proofs.Keeping.{if_fed}
use Rattle.m2_never_reset.proofs.Written.{AreWritten}

-- what was taken was got
pub got_within : (n : ℕ) (is : List Item) (x : Said) → said_at is n ≡ Some x → n + 1 ≤ length is
got_within n [] x e = nothing_isnt_some x e
got_within zero (i ∷ is) x e = omega arith
got_within (suc n) (i ∷ is) x e = let more = got_within n is x e in omega (arith, more)

-- ---- texts that are written in other phases too

not_ready : (p : Phase) → HasAsked p → p ≡ phase.Ready → ⊥
not_ready p h e = elim (subst HasAsked e h) [ ]

named_fits : (p p' : Phase) (l l' : ℕ) (w : OutFrame) → HasAsked p → MayBeWritten p l w → MayBeWritten p' l' w
named_fits p p' l l' (out.acknowledgement n) h m = absurd (not_ready p h m.0)
named_fits p p' l l' (out.keepalive_answer k) h m = absurd (not_ready p h m)
named_fits p p' l l' w h m = tt

pub named_fit : (p p' : Phase) (l l' : ℕ) (texts : List PartText) → HasAsked p → AreWritten p l texts →
    AreWritten p' l' texts
named_fit p p' l l' [] h m = tt
named_fit p p' l l' (t ∷ ts) h m = (named_fits p p' l l' t.frame h m.0, named_fit p p' l l' ts h m.1)

raised_fits : (p : Phase) (l l' : ℕ) (w : OutFrame) → l ≤ l' → MayBeWritten p l w → MayBeWritten p l' w
raised_fits p l l' (out.acknowledgement n) h m = let was = m.1 in (m.0, omega (arith, h, was))
raised_fits p l l' (out.keepalive_answer k) h m = m
raised_fits p l l' w h m = tt

pub raised_fit : (p : Phase) (l l' : ℕ) (texts : List PartText) → l ≤ l' → AreWritten p l texts → AreWritten p l' texts
raised_fit p l l' [] h m = tt
raised_fit p l l' (t ∷ ts) h m = (raised_fits p l l' t.frame h m.0, raised_fit p l l' ts h m.1)

-- ---- a handshake's texts

greets_fit : (p : Phase) (last : ℕ) (text : List ℕ) (texts : List PartText) → AreWritten p last texts →
    AreWritten p last (greets text texts)
greets_fit p last [] texts h = h
greets_fit p last (b ∷ bs) [] h = (tt, tt)
greets_fit p last (b ∷ bs) (t ∷ ts) h = (h.0, tt)

signs_fit : (p : Phase) (last : ℕ) (s : Standing) (d : Feed) → AreWritten p last d.texts →
    AreWritten p last (signs s d).texts
signs_fit p last s d h = at (is_authed s.stage)
  where
    at : (t : Bool) → AreWritten p last
        (if t then split_into (split s.rest) (record d { hand = None }) else record d { hand = Some s }).texts
    at true = h
    at false = h

pub goes_on_fits : (p : Phase) (last : ℕ) (c : Course) (d : Feed) → AreWritten p last d.texts →
    AreWritten p last (goes_on c d).texts
goes_on_fits p last c d h =
    signs_fit p last c.standing (record d { texts = greets (text_of c.events) d.texts })
    (greets_fit p last (text_of c.events) d.texts h)

hears_at_fits : (p : Phase) (last : ℕ) (o : Option Standing) (bytes : List ℕ) (d : Feed) → AreWritten p last d.texts →
    AreWritten p last (hears_at o bytes d).texts
hears_at_fits p last (Some s) bytes d h = goes_on_fits p last (course_of (fed s bytes) []) d h
hears_at_fits p last None bytes d h = h

pub hears_fits : (p : Phase) (last : ℕ) (bytes : List ℕ) (d : Feed) → AreWritten p last d.texts →
    AreWritten p last (hears bytes d).texts
hears_fits p last bytes d h = hears_at_fits p last d.hand bytes d h

-- ---- an answer is taken

module _ (s : Beside) (d : Feed) (w : OutFrame) (floor : ℕ) (owed : Bool) (h : FeedIsPaired s d)
    (asked : HasAsked s.phase)
    (got : d.taken + 1 ≤ length d.got) (within : d.taken + 1 ≤ length (answers_on d.socket s.theirs)) where
  abbrev rest : List OutFrame
  rest = drop (d.taken + 1) (answers_on d.socket s.theirs)

  abbrev d' : Feed
  d' = record d { taken = d.taken + 1; floor = floor; owed = owed }

  module _ (first : to_come d s.theirs ≡ w ∷ rest) where
    judged_now : {X : Type 0} → is_unjudged d.socket s.mine s.judged ≡ true → X
    judged_now u = absurd (some_isnt_none (sym first ∙ (h.unjudged u).1))
      where
        IsNone : List OutFrame → Type 0
        IsNone [] = Unit {0}
        IsNone (v ∷ vs) = ⊥

        some_isnt_none : {v : OutFrame} {vs : List OutFrame} → v ∷ vs ≡ [] → ⊥
        some_isnt_none e = subst IsNone (sym e) tt

    pub now_ready : (last : ℕ) → AllByRecursion IsMail rest → FeedIsPaired
        (record s { phase = phase.Ready; last = last }) d'
    now_ready last mail = record {
      got = got;
      sent = within;
      texts = named_fit s.phase phase.Ready s.last last d.texts asked h.texts;
      taken = λ e. refl;
      asks_alone = inl refl;
      unjudged = λ u. judged_now u;
      coming = mail;
      accepted =
          λ o. if_fed s.other (λ e. same_socket e.socket d.socket ≡ true → IsAccepted s.phase (to_come d s.theirs))
          (λ e. same_socket e.socket d.socket ≡ true → Unit {0})
          (λ e k same. tt) (h.accepted o);
    }

    pub now_connecting : (last : ℕ) → rest ≡ [] → (IsAccepted s.phase (w ∷ rest) → ⊥) → FeedIsPaired
        (record s { phase = phase.Connecting; last = last }) d'
    now_connecting last none refused = record {
      got = got;
      sent = within;
      texts = named_fit s.phase phase.Connecting s.last last d.texts asked h.texts;
      taken = λ e. absurd (not_ready s.phase asked (h.taken e));
      asks_alone = inr (alone h.asks_alone);
      unjudged = λ u. judged_now u;
      coming = none;
      accepted =
          λ o. if_fed s.other (λ e. same_socket e.socket d.socket ≡ true → IsAccepted s.phase (to_come d s.theirs))
          (λ e. same_socket e.socket d.socket ≡ true → ⊥)
          (λ e k same. refused (subst (IsAccepted s.phase) first (k same))) (h.accepted o);
    }
      where
        alone : (s.phase ≡ phase.Ready) ⊎ (answers_on d.socket s.mine ≡ []) → answers_on d.socket s.mine ≡ []
        alone (inl e) = absurd (not_ready s.phase asked e)
        alone (inr e) = e
