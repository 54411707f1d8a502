-- An acknowledgement that is counted is a step of the link: it was told by what was taken on the feed, or is told by what
-- has come there and isn't taken.
--
-- Acked: `counts`.
use Rattle.std.proofs.Common.{◌≡◌, ℕ, ◌+◌, ◌<◌, ◌≤◌, ◌⊎◌, inl, inr, Bool, true, false, List, [], ◌∷◌, ◌++◌, length, take, drop, max, Option, Some, None, option_to_list, refl, sym, ap, ◌∙◌, subst, arith}
use Rattle.std.specs.Prelude.{◌||◌, ◌==◌}
use Rattle.std.specs.List.{filter_map, list_any, cons_option, AllByRecursion}
use Rattle.std.proofs.lemmas.Bool.{eqb-true, le-leb}
use Rattle.std.proofs.lemmas.List.{take-append-drop}
use Rattle.m2_session.specs.m2_control.declared.control.Control.TheVariants as control
use Rattle.m2_queues.specs.m2_frame.Reading.{Item}
use Rattle.m2_queues.specs.QueueLaws.{Acked, after_call}
use Rattle.m2_session.specs.declared.session.Phase.TheVariants as phase
use Rattle.m2_journal.specs.Feeds.{told_by, told}
use Rattle.m2_journal.specs.Items as item
use Rattle.m2_journal.specs.Lawful.{OnFeedAt, MayAcknowledge, judged_sockets}
use Rattle.m2_journal.specs.Laws.{IfFed}
use Rattle.m2_journal.specs.OutFrames as out
use Rattle.m2_journal.specs.OutFrames.{OutFrame}
use Rattle.m2_journal.specs.Said.{Said, says, brings, garbles, said}
use Rattle.m2_journal.specs.State.{Feed, State}
use Rattle.m2_journal.specs.Steps.{after, queues}
use Rattle.m2_never_reset.specs.Link.{Node}
use Rattle.m2_never_reset.specs.Mails.{Mail, acked_by, heard_with}
use Rattle.m2_never_reset.specs.Roles.{Role}
use Rattle.m2_never_reset.specs.Steps.{Run, counts}
use Rattle.m2_never_reset.specs.Fits.{Says, IsRefusal, AreSaid, HearsAt}
use Rattle.m2_never_reset.specs.Frames.{answers_on, to_come, mail_of, mails}
use Rattle.m2_never_reset.specs.LinkOf.{role_of, raised_by, heard_in, heard_first, joined_by, node_of, stand_of, link_of}
use Rattle.m2_never_reset.specs.PairLaws.{AckedIsSteps}
use Rattle.m2_never_reset.specs.Paired.{IsMail, IsToCome, beside, FeedIsPaired}
use Rattle.m2_never_reset.proofs.Heard.{AreSaid-drop, as_list, heard_if, heard_as_list, heard-append, heard_in-append, mails_split}
use Rattle.m2_never_reset.proofs.Links.{plus_none, links, one_step}
use Rattle.m2_queues.proofs.m2_lemmas.Booleans.{one_of_or, false_isnt_true}

-- ---- what is told

abbrev tells : ℕ → Option ℕ → Bool
tells n (Some m) = m == n
tells n None = false

-- one of the texts tells the number
abbrev tell : ℕ → List Item → Bool
tell n [] = false
tell n (i ∷ is) = tells n (told_by (said i)) || tell n is

heard-above : (told : ℕ) (is : List Item) → told ≤ heard_in told is
heard-above told [] = omega arith
heard-above told (i ∷ is) =
    let more = heard-above (raised_by told (told_by (said i))) is in let up = raised (told_by (said i)) in omega
    (arith, more, up)
  where
    raised : (o : Option ℕ) → told ≤ raised_by told o
    raised (Some n) = omega arith
    raised None = omega arith

of-above : (told : ℕ) (ms : List Mail) → told ≤ heard_with told ms
of-above told [] = omega arith
of-above told (m ∷ ms) = let more = of-above (max told (acked_by m)) ms in omega (arith, more)

raised-told : (n told : ℕ) (o : Option ℕ) → tells n o ≡ true → n ≤ raised_by told o
raised-told n told (Some m) h = let same = eqb-true m n h in omega (arith, same)
raised-told n told None h = absurd (false_isnt_true h)

heard-told : (n told : ℕ) (is : List Item) → tell n is ≡ true → n ≤ heard_in told is
heard-told n told [] e = absurd (false_isnt_true e)
heard-told n told (i ∷ is) e =
    by_place (heard-told n (raised_by told (told_by (said i))) is) (one_of_or (tells n (told_by (said i))) (tell n is) e)
  where
    by_place : (tell n is ≡ true → n ≤ heard_in (raised_by told (told_by (said i))) is) →
        (tells n (told_by (said i)) ≡ true) ⊎ (tell n is ≡ true) → n ≤ heard_in told (i ∷ is)
    by_place later (inl h) =
        let up = raised-told n told (told_by (said i)) h in
        let more = heard-above (raised_by told (told_by (said i))) is in
        omega (arith, up, more)
    by_place later (inr h) = later h

any-tell : (n : ℕ) (is : List Item) → list_any (λ m. m == n) (filter_map (λ i. told_by (said i)) is) ≡ true →
    tell n is ≡ true
any-tell n [] e = absurd (false_isnt_true e)
any-tell n (i ∷ is) e = by_told (told_by (said i)) (any-tell n is) e
  where
    by_told : (o : Option ℕ) →
        (list_any (λ m. m == n) (filter_map (λ i. told_by (said i)) is) ≡ true → tell n is ≡ true) →
        list_any (λ m. m == n)
        (cons_option o (filter_map (λ i. told_by (said i)) is)) ≡ true → (tells n o || tell n is) ≡ true
    by_told None later h = later h
    by_told (Some m) later h =
        by_place (one_of_or (m == n) (list_any (λ m. m == n) (filter_map (λ i. told_by (said i)) is)) h)
      where
        or-true : (b : Bool) → (b || true) ≡ true
        or-true true = refl
        or-true false = refl

        by_place : ((m == n) ≡ true) ⊎ (list_any (λ m. m == n) (filter_map (λ i. told_by (said i)) is) ≡ true) →
            ((m == n) || tell n is) ≡ true
        by_place (inl q) = rw q refl
        by_place (inr q) = rw (later q) (or-true (m == n))

-- on a feed a number that was told is at most the greatest
told-heard : (n : ℕ) (resumed : Option ℕ) (is : List Item) →
    list_any (λ m. m == n) (option_to_list resumed ++ filter_map (λ i. told_by (said i)) is) ≡ true →
    n ≤ heard_in (heard_first resumed) is
told-heard n None is e = heard-told n 0 is (any-tell n is e)
told-heard n (Some m) is e =
    by_place (one_of_or (m == n) (list_any (λ m. m == n) (filter_map (λ i. told_by (said i)) is)) e)
  where
    by_place : ((m == n) ≡ true) ⊎ (list_any (λ m. m == n) (filter_map (λ i. told_by (said i)) is) ≡ true) →
        n ≤ heard_in m is
    by_place (inl h) = let same = eqb-true m n h in let up = heard-above m is in omega (arith, same, up)
    by_place (inr h) = heard-told n m is (any-tell n is h)

-- ---- what isn't taken is on its way as mail

tells_as_mail : (told : ℕ) (s : Said) (w : OutFrame) → Says s w → IsMail w →
    raised_by told (told_by s) ≡ heard_if told (mail_of w)
tells_as_mail told (brings m) (out.message n a c) h e = rw h refl
tells_as_mail told (says (control.Ack p)) (out.acknowledgement n) h e = rw h refl
tells_as_mail told (says (control.KeepaliveAck p)) (out.keepalive_answer k) h e = refl
tells_as_mail told (says (control.ServerIdent i)) (out.server_ident c g) h e = elim e [ ]
tells_as_mail told (says (control.SessionReconnectOk p)) (out.reconnect_ok n) h e = elim e [ ]
tells_as_mail told (says (control.SessionReset p)) (out.reset full) h e = elim e [ ]
tells_as_mail told (says (control.SessionRetry p)) (out.retry k) h e = elim e [ ]
tells_as_mail told (says (control.SessionRetryGlobal p)) (out.retry_global g) h e = elim e [ ]
tells_as_mail told (says (control.Wait p)) out.wait h e = elim e [ ]
tells_as_mail told garbles (out.retry k) h e = elim e [ ]
tells_as_mail told s w h e = elim h [ ]

heard-below : (told : ℕ) (is : List Item) (vs : List OutFrame) → AreSaid is vs →
    AllByRecursion IsMail vs → heard_in told is ≤ heard_with told (mails vs)
heard-below told [] vs h o = of-above told (mails vs)
heard-below told (i ∷ is) [] h o = by_said (said i) refl h
  where
    by_said : (s : Said) → said i ≡ s → IsRefusal s × (is ≡ []) → heard_in told (i ∷ is) ≤ told
    by_said (says (control.IdentMissingFeatures p)) q f =
        let end : heard_in told (i ∷ is) ≡ told = rw (q, f.1) refl in omega (arith, end)
    by_said s q f = elim f.0 [ ]
heard-below told (i ∷ is) (w ∷ vs) h o =
    let more = heard-below (heard_if told (mail_of w)) is vs h.1 o.1 in
    let mine : heard_in told (i ∷ is) ≡ heard_in (heard_if told (mail_of w)) is = ap (λ n. heard_in n is)
    (tells_as_mail told (said i) w h.0 o.0) in
    let theirs : heard_with told (mails (w ∷ vs)) ≡ heard_with (heard_if told (mail_of w)) (mails vs) =
    ap (heard_with told) (mails_split w vs) ∙ heard-append told (as_list (mail_of w)) (mails vs)
    ∙ ap (λ n. heard_with n (mails vs)) (sym (heard_as_list told (mail_of w))) in
    omega (arith, more, mine, theirs)

-- ---- the step

module _ (p q : Role) (trouble number : ℕ) (s₀ b : State) (d : Feed) where
  abbrev s : State
  s = record s₀ { feed = Some d; session = record s₀.session { phase = phase.Ready } }

  base_after : s.out.queue.base < number → number ≤ s.out.queue.written →
      (after_call s.out (Acked number)).queue.base ≡ number
  base_after above within = rw (le-leb _ _ within) (omega (arith, above))

  numbered_after : (after_call s.out (Acked number)).numbered ≡ s.out.numbered
  numbered_after = refl

  acked_is_step : s.out.queue.base < number → number ≤ s.out.queue.written →
      list_any (λ n. n == number) (told d) ≡ true →
      AreSaid d.got (answers_on d.socket b.sent) → d.taken ≤ length
      (answers_on d.socket b.sent) → AllByRecursion IsMail (to_come d b.sent) →
      Run p q (link_of trouble s b) (link_of (trouble + 0) (queues (Acked number) s) b)
  acked_is_step above written_there cited texts within only =
      let all = told-heard number d.resumed d.got cited in
      let split : heard_in (heard_first d.resumed) d.got ≡ heard_in (heard_in (heard_first d.resumed) (take d.taken d.got)) (drop d.taken d.got) =
      ap (heard_in (heard_first d.resumed)) (sym (take-append-drop d.taken d.got))
      ∙ heard_in-append (heard_first d.resumed) (take d.taken d.got) (drop d.taken d.got) in
      let left = heard-below (heard_in (heard_first d.resumed) (take d.taken d.got)) (drop d.taken d.got)
      (to_come d b.sent) (AreSaid-drop d.taken d.got (answers_on d.socket b.sent) within texts) only in
      let bound : number ≤ heard_with (node_of s (judged_sockets b)).heard (mails (to_come d b.sent)) = omega
      (arith, all, split, left) in
      let x : Node = node_of s (judged_sockets b) in
      one_step p q _ _ _ _ refl
      (counts x (node_of b (judged_sockets s)) (mails (to_come d b.sent)) (stand_of b s) (joined_by (Some d) b.feed) trouble number above bound)
      (links _ _ _ _ _ _ _ _ _ _ _ _ (ap (λ n. record x { base = n }) (sym (base_after above written_there))) refl refl refl refl (plus_none trouble))

pub acked_is : AckedIsSteps
acked_is f g n t s b may = at s.feed refl may.lawful may.fits.near_hears may.paired.near.feed
  where
    in_ready : (d : Feed) → s.feed ≡ Some d → s.session.phase ≡ phase.Ready → record s { feed = Some d; session = record s.session { phase = phase.Ready } } ≡ s
    in_ready d e p = rw (sym e, sym p) refl

    at : (o : Option Feed) → s.feed ≡ o → OnFeedAt o (MayAcknowledge s n) → HearsAt o b.sent →
        IfFed o (FeedIsPaired (beside s b)) →
        Run (role_of f) (role_of g) (link_of t s b) (link_of (t + 0) (after f (item.acked n) s) b)
    at None e h heard paired = elim h [ ]
    at (Some d) e h heard paired =
        subst (λ z. Run (role_of f) (role_of g) (link_of t z b) (link_of (t + 0) (after f (item.acked n) z) b))
        (in_ready d e h.phase)
        (acked_is_step (role_of f) (role_of g) t n s b d h.above h.written h.told heard paired.sent
        (subst (λ p. IsToCome p (to_come d b.sent)) h.phase paired.coming))
