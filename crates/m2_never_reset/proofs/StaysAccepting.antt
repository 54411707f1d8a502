-- What the two sides have in common stays where a message is accepted.
use Rattle.std.proofs.Common.{◌≡◌, ℕ, ◌+◌, inl, true, drop, Option, Some, None, refl, sym, ap, ◌∙◌, subst, arith}
use Rattle.std.specs.List.{AllByRecursion, prefix_len}
use Rattle.m2_journal.specs.m2_fabric.Sockets.{same_socket}
use Rattle.m2_queues.specs.m2_message.Message.{Content}
use Rattle.m2_session.specs.m2_policy.declared.path.Key.{Key}
use Rattle.m2_session.specs.declared.session.Phase.TheVariants as phase
use Rattle.m2_journal.specs.Feeds.{is_passed, next_place, next_said}
use Rattle.m2_journal.specs.Items as item
use Rattle.m2_journal.specs.Lawful.{OnFeedAt, MayAccept}
use Rattle.m2_journal.specs.Said.{brings, said}
use Rattle.m2_journal.specs.SideFacts.{SideFacts}
use Rattle.m2_journal.specs.State.{Feed, State}
use Rattle.m2_journal.specs.Steps.{after, accepts}
use Rattle.m2_never_reset.specs.Fits.{AreSaid, HearsAt}
use Rattle.m2_never_reset.specs.Frames.{answers_on, to_come}
use Rattle.m2_never_reset.specs.PairLaws.{Stays}
use Rattle.m2_never_reset.specs.Paired.{IsMail, IsAccepted, beside, FeedIsPaired, Paired}
use Rattle.m2_never_reset.proofs.Accepted.{its_message}
use Rattle.m2_never_reset.proofs.Answered.{IsNext, next_of}
use Rattle.m2_never_reset.proofs.Answering.{got_within, raised_fit}
use Rattle.m2_never_reset.proofs.Heard.{drop-behind}
use Rattle.m2_never_reset.proofs.Keeping.{lists, paired, if_fed, same_other}
use Rattle.m2_never_reset.proofs.Sending.{settled_in_ready}
use Rattle.m2_queues.proofs.m2_lemmas.Lists.{all_drop}

module _ (number : ℕ) (key : Key) (a₀ b : State) (d : Feed) (m : Content) where
  abbrev a : State
  a = record a₀ { feed = Some d; session = record a₀.session { phase = phase.Ready } }

  abbrev place : ℕ
  place = next_place a.last d

  abbrev d' : Feed
  d' = record d { taken = place + 1 }

  accepted_so : number ≡ a.last + 1 → next_said a.last d ≡ Some (brings m) →
      AreSaid d.got (answers_on d.socket b.sent) → Paired a b →
      Paired (accepts number key (Some (brings m)) d a) b
  accepted_so is next texts h =
      let it : IsNext (brings m) place (answers_on d.socket b.sent) = next_of place d.got
      (answers_on d.socket b.sent) (brings m) (λ z. z) texts next in
      let old = h.near.feed in
      let further : d.taken +
      (prefix_len (λ i. is_passed a.last (said i)) (drop d.taken d.got) + 1) ≡ place + 1 = omega arith in
      let mail : AllByRecursion IsMail (drop (place + 1) (answers_on d.socket b.sent)) =
      subst (AllByRecursion IsMail)
      (drop-behind d.taken (prefix_len (λ i. is_passed a.last (said i)) (drop d.taken d.got) + 1) (answers_on d.socket b.sent) ∙ ap (λ n. drop n (answers_on d.socket b.sent)) further)
      (all_drop IsMail (prefix_len (λ i. is_passed a.last (said i)) (drop d.taken d.got) + 1) (to_come d b.sent) old.coming) in
      paired (accepts number key (Some (brings m)) d a) b
      (record {
        got = got_within place d.got (brings m) next;
        sent = it.within;
        texts = raised_fit phase.Ready a.last number d.texts (omega (arith, is)) old.texts;
        taken = λ e. refl;
        asks_alone = inl refl;
        unjudged = λ u. absurd (settled_in_ready (beside a b) d refl old u);
        coming = mail;
        accepted =
            λ o. if_fed b.feed (λ e. same_socket e.socket d.socket ≡ true → IsAccepted phase.Ready (to_come d b.sent))
            (λ e. same_socket e.socket d.socket ≡ true → Unit {0})
            (λ e k same. tt) (old.accepted o);
      })
      (lists a b h.near)
      (if_fed b.feed (FeedIsPaired (beside b a)) (FeedIsPaired (record (beside b a) { other = Some d' })) (λ e k. same_other (beside b a) d d' e refl k) h.far.feed)
      (lists b a h.far)

pub accepted_stays : (f g : SideFacts) (n : ℕ) (key : Key) → Stays f g (item.accepted n key)
accepted_stays f g n key s b may = at s.feed refl may.lawful may.fits.near_hears
  where
    at : (o : Option Feed) → s.feed ≡ o → OnFeedAt o (MayAccept f s n key) →
        HearsAt o b.sent → Paired (after f (item.accepted n key) s) b
    at None e h heard = elim h [ ]
    at (Some d) e h heard =
        let is = its_message f s n key (next_said s.last d) h.next in
        let it : record s { feed = Some d; session = record s.session { phase = phase.Ready } } ≡ s = rw
        (sym e, sym h.phase) refl in
        subst (λ z. Paired (after f (item.accepted n key) z) b) it
        (subst (λ o. Paired (accepts n key o d (record s { feed = Some d; session = record s.session { phase = phase.Ready } })) b) (sym is.1)
        (accepted_so n key s b d is.0 is.2 is.1 heard (subst (λ z. Paired z b) (sym it) may.paired)))
