-- What the two sides have in common stays where bytes are read and where a reset is obeyed.
use Rattle.std.proofs.Common.{◌≡◌, ℕ, ◌+◌, Bool, true, false, List, ◌∷◌, drop, Option, Some, None, refl, sym, ap, ◌∙◌, subst}
use Rattle.m2_session.specs.m2_control.declared.control.Control.TheVariants as control
use Rattle.m2_session.specs.m2_control.declared.server_ident.ServerIdent.{ServerIdent}
use Rattle.m2_session.specs.m2_control.declared.session_reconnect_ok.SessionReconnectOk.{SessionReconnectOk}
use Rattle.m2_session.specs.m2_control.declared.session_retry.SessionRetry.{SessionRetry}
use Rattle.m2_session.specs.m2_control.declared.session_retry_global.SessionRetryGlobal.{SessionRetryGlobal}
use Rattle.m2_journal.specs.m2_fabric.declared.socket.SocketId.{SocketId}
use Rattle.m2_journal.specs.m2_fabric.Sockets.{same_socket}
use Rattle.m2_session.specs.declared.event.Event.{Event}
use Rattle.m2_session.specs.declared.event.Event.TheVariants as event
use Rattle.m2_session.specs.declared.session.Phase.{Phase}
use Rattle.m2_session.specs.declared.session.Phase.TheVariants as phase
use Rattle.m2_journal.specs.Feeds.{answer_said, hears}
use Rattle.m2_journal.specs.Items as item
use Rattle.m2_journal.specs.Lawful.{OnFeedAt, IsReset, MayObey}
use Rattle.m2_journal.specs.Laws.{IfFed}
use Rattle.m2_journal.specs.OutFrames as out
use Rattle.m2_journal.specs.OutFrames.{OutFrame}
use Rattle.m2_journal.specs.Said.{Said, says}
use Rattle.m2_journal.specs.SideFacts.{SideFacts}
use Rattle.m2_journal.specs.State.{Feed, State}
use Rattle.m2_journal.specs.Steps.{after, event_heard, takes_answer, heeds, tells, with_feed}
use Rattle.m2_never_reset.specs.Fits.{HearsAt}
use Rattle.m2_never_reset.specs.Frames.{answers_on, to_come}
use Rattle.m2_never_reset.specs.PairLaws.{Stays}
use Rattle.m2_never_reset.specs.Paired.{IsAnswered, IsToCome, beside, FeedIsPaired, Paired}
use Rattle.m2_never_reset.proofs.Answered.{IsNext, next_of}
use Rattle.m2_never_reset.proofs.Answering.{got_within, hears_fits, now_ready, now_connecting}
use Rattle.m2_never_reset.proofs.Feeds.{hears_hears}
use Rattle.m2_never_reset.proofs.Keeping.{lists, paired, if_fed, same_other, without_other}
use Rattle.m2_never_reset.proofs.Obeyed.{it_resets, no_refusal, which}
use Rattle.m2_never_reset.proofs.Read.{by_answer, is_ident, is_ok, is_retry, is_retry_global}
use Rattle.m2_never_reset.proofs.StaysWriting.{same_stays}

-- ---- the feed has heard the bytes

module _ (f : SideFacts) (a₀ b : State) (d : Feed) where
  abbrev at_phase : Phase → State
  at_phase p = record a₀ { feed = Some d; session = record a₀.session { phase = p } }

  abbrev rest : List OutFrame
  rest = drop (d.taken + 1) (answers_on d.socket b.sent)

  abbrev IsHeard : Phase → Option Event → Type 0
  IsHeard p e = HearsAt (heeds e d (at_phase p)).feed b.sent

  -- the other side sees the same socket, or none
  far_same : (p : Phase) (d' : Feed) → d'.socket ≡ d.socket → Paired (at_phase p) b → IfFed b.feed
      (FeedIsPaired (record (beside b (at_phase p)) { other = Some d' }))
  far_same p d' one h =
      if_fed b.feed (FeedIsPaired (beside b (at_phase p)))
      (FeedIsPaired (record (beside b (at_phase p)) { other = Some d' }))
      (λ e k. same_other (beside b (at_phase p)) d d' e one k) h.far.feed

  -- what is first to come, and what is behind it
  behind : (p : Phase) (x : Said) (w : OutFrame) → IsNext x d.taken (answers_on d.socket b.sent) →
      Paired (at_phase p) b → to_come d b.sent ≡ w ∷ rest → IsToCome p (w ∷ rest)
  behind p x w next h first = subst (IsToCome p) first h.near.feed.coming

  ident_stays : (i : ServerIdent) → answer_said d ≡ Some (says (control.ServerIdent i)) →
      IsNext (says (control.ServerIdent i)) d.taken (answers_on d.socket b.sent) →
      Paired (at_phase phase.IdentSent) b → Paired
      (heeds (Some (event.GotServerIdent i.cookie i.global)) d (at_phase phase.IdentSent)) b
  ident_stays i e next h =
      let w = out.server_ident i.cookie i.global in
      let first : to_come d b.sent ≡ w ∷ rest = next.first ∙ ap (λ v. v ∷ rest) (is_ident i next.frame next.says) in
      let a = at_phase phase.IdentSent in
      paired (heeds (Some (event.GotServerIdent i.cookie i.global)) d a) b
      (now_ready (beside a b) d w 0 a₀.owes h.near.feed tt (got_within d.taken d.got _ e) next.within first 0 (behind phase.IdentSent (says (control.ServerIdent i)) w next h first))
      (lists a b h.near) (far_same phase.IdentSent (record d { taken = d.taken + 1; floor = 0; owed = a₀.owes }) refl h) (lists b a h.far)

  ok_stays : (k : SessionReconnectOk) → answer_said d ≡ Some (says (control.SessionReconnectOk k)) →
      IsNext (says (control.SessionReconnectOk k)) d.taken (answers_on d.socket b.sent) →
      Paired (at_phase phase.ReconnectSent) b → Paired
      (heeds (Some event.GotReconnectOk) d (at_phase phase.ReconnectSent)) b
  ok_stays k e next h =
      let w = out.reconnect_ok k.seen in
      let first : to_come d b.sent ≡ w ∷ rest = next.first ∙ ap (λ v. v ∷ rest) (is_ok k next.frame next.says) in
      let a = at_phase phase.ReconnectSent in
      paired (heeds (Some event.GotReconnectOk) d a) b
      (now_ready (beside a b) d w d.floor d.owed h.near.feed tt (got_within d.taken d.got _ e) next.within first a₀.last (behind phase.ReconnectSent (says (control.SessionReconnectOk k)) w next h first))
      (lists a b h.near) (far_same phase.ReconnectSent (record d { taken = d.taken + 1 }) refl h) (lists b a h.far)

  retry_stays : (r : SessionRetry) → answer_said d ≡ Some (says (control.SessionRetry r)) →
      IsNext (says (control.SessionRetry r)) d.taken (answers_on d.socket b.sent) →
      Paired (at_phase phase.ReconnectSent) b → Paired
      (heeds (Some (event.GotRetry r.connect)) d (at_phase phase.ReconnectSent)) b
  retry_stays r e next h =
      let w = out.retry r.connect in
      let first : to_come d b.sent ≡ w ∷ rest = next.first ∙ ap (λ v. v ∷ rest) (is_retry r next.frame next.says) in
      let a = at_phase phase.ReconnectSent in
      paired (heeds (Some (event.GotRetry r.connect)) d a) b
      (now_connecting (beside a b) d w d.floor d.owed h.near.feed tt (got_within d.taken d.got _ e) next.within first a₀.last (behind phase.ReconnectSent (says (control.SessionRetry r)) w next h first) (λ z. z))
      (lists a b h.near) (far_same phase.ReconnectSent (record d { taken = d.taken + 1 }) refl h) (lists b a h.far)

  retry_global_stays : (r : SessionRetryGlobal) → answer_said d ≡ Some (says (control.SessionRetryGlobal r)) →
      IsNext (says (control.SessionRetryGlobal r)) d.taken (answers_on d.socket b.sent) →
      Paired (at_phase phase.ReconnectSent) b → Paired
      (heeds (Some (event.GotRetryGlobal r.global)) d (at_phase phase.ReconnectSent)) b
  retry_global_stays r e next h =
      let w = out.retry_global r.global in
      let first : to_come d b.sent ≡ w ∷ rest = next.first
      ∙ ap (λ v. v ∷ rest) (is_retry_global r next.frame next.says) in
      let a = at_phase phase.ReconnectSent in
      paired (heeds (Some (event.GotRetryGlobal r.global)) d a) b
      (now_connecting (beside a b) d w d.floor d.owed h.near.feed tt (got_within d.taken d.got _ e) next.within first a₀.last (behind phase.ReconnectSent (says (control.SessionRetryGlobal r)) w next h first) (λ z. z))
      (lists a b h.near) (far_same phase.ReconnectSent (record d { taken = d.taken + 1 }) refl h) (lists b a h.far)

  wait_stays : (p : Phase) → Paired (at_phase p) b → Paired (heeds (Some event.GotWait) d (at_phase p)) b
  wait_stays p h =
      paired (heeds (Some event.GotWait) d (at_phase p)) b tt (lists (at_phase p) b h.near)
      (if_fed b.feed (FeedIsPaired (beside b (at_phase p))) (FeedIsPaired (record (beside b (at_phase p)) { other = None })) (without_other (beside b (at_phase p))) h.far.feed)
      (lists b (at_phase p) h.far)

  pub answered_stays : (p : Phase) → IsHeard p (event_heard f p d) → Paired (at_phase p) b →
      Paired (heeds (event_heard f p d) d (at_phase p)) b
  answered_stays p heard h =
      by_answer f (λ p o e. answer_said d ≡ o → IsHeard p e → Paired (at_phase p) b → Paired (heeds e d (at_phase p)) b)
      (λ i e heard h. ident_stays i e (next_of d.taken d.got (answers_on d.socket b.sent) (says (control.ServerIdent i)) (λ r. r) heard e) h)
      (λ k e heard h. wait_stays phase.IdentSent h)
      (λ k e heard h. ok_stays k e (next_of d.taken d.got (answers_on d.socket b.sent) (says (control.SessionReconnectOk k)) (λ r. r) heard e) h)
      (λ r e heard h. retry_stays r e (next_of d.taken d.got (answers_on d.socket b.sent) (says (control.SessionRetry r)) (λ r. r) heard e) h)
      (λ r e heard h. retry_global_stays r e (next_of d.taken d.got (answers_on d.socket b.sent) (says (control.SessionRetryGlobal r)) (λ r. r) heard e) h)
      (λ k e heard h. wait_stays phase.ReconnectSent h)
      (λ p o e heard h. h)
      p (answer_said d) refl heard h

pub read_stays : (f g : SideFacts) (socket : SocketId) (bytes : List ℕ) → Stays f g (item.read socket bytes)
read_stays f g socket bytes a b may = at a.feed refl may.lawful.0 may.fits_after.near_hears
  where
    at : (o : Option Feed) → a.feed ≡ o → OnFeedAt o (λ d. same_socket socket d.socket ≡ true) →
        HearsAt (after f (item.read socket bytes) a).feed b.sent → Paired (after f (item.read socket bytes) a) b
    at None e h heard = elim h [ ]
    at (Some d) e h heard =
        let it : record a { feed = Some d } ≡ a = ap (λ o. record a { feed = o }) (sym e) in
        let old : Paired (record a { feed = Some d }) b = subst (λ z. Paired z b) (sym it) may.paired in
        subst (λ z. Paired (after f (item.read socket bytes) z) b) it
        (answered_stays f a b (hears bytes d) a.session.phase
        (subst (λ z. HearsAt (after f (item.read socket bytes) z).feed b.sent) (sym it) heard)
        (same_stays a b d (hears bytes d) (hears_hears bytes d) (hears_fits a.session.phase a.last bytes d old.near.feed.texts) old))

-- ---- a reset is obeyed

module _ (a₀ b : State) (d : Feed) where
  abbrev waiting : State
  waiting = record a₀ { feed = Some d; session = record a₀.session { phase = phase.ReconnectSent } }

  obeyed_so : (full : Bool) (x : Said) → answer_said d ≡ Some x → IsNext x d.taken (answers_on d.socket b.sent) →
      IsReset full (Some x) → Paired waiting b →
      Paired (tells (event.GotReset full) (with_feed (takes_answer d) waiting)) b
  obeyed_so full x e next resets h = at full resets (it_resets full x next.frame next.says resets)
    where
      left : List OutFrame
      left = drop (d.taken + 1) (answers_on d.socket b.sent)

      feed : (k : Bool) → next.frame ≡ out.reset k →
          FeedIsPaired (record (beside waiting b) { phase = phase.Connecting; last = 0 })
          (record d { taken = d.taken + 1; floor = 0; owed = a₀.owes })
      feed k is =
          let first : to_come d b.sent ≡ out.reset k ∷ left = next.first ∙ ap (λ v. v ∷ left) is in
          now_connecting (beside waiting b) d (out.reset k) 0 a₀.owes h.near.feed tt
          (got_within d.taken d.got x e) next.within first 0
          (subst IsAnswered first h.near.feed.coming) (λ z. z)

      other : IfFed b.feed
          (FeedIsPaired (record (beside b waiting) { other = Some (record d { taken = d.taken + 1; floor = 0; owed = a₀.owes }) }))
      other =
          if_fed b.feed (FeedIsPaired (beside b waiting))
          (FeedIsPaired (record (beside b waiting) { other = Some (record d { taken = d.taken + 1; floor = 0; owed = a₀.owes }) }))
          (λ c k. same_other (beside b waiting) d (record d { taken = d.taken + 1; floor = 0; owed = a₀.owes }) c refl k) h.far.feed

      at : (k : Bool) → IsReset k (Some x) → next.frame ≡ out.reset k →
          Paired (tells (event.GotReset k) (with_feed (takes_answer d) waiting)) b
      at true r is =
          paired (tells (event.GotReset true) (with_feed (takes_answer d) waiting)) b (feed true is)
          (lists waiting b h.near) other (lists b waiting h.far)
      at false r is =
          paired (tells (event.GotReset false) (with_feed (takes_answer d) waiting)) b (feed false is)
          (lists waiting b h.near) other (lists b waiting h.far)

pub obeyed_stays : (f g : SideFacts) (full : Bool) → Stays f g (item.obeyed full)
obeyed_stays f g full s b may = at s.feed refl may.lawful may.fits.near_hears
  where
    at : (o : Option Feed) → s.feed ≡ o → OnFeedAt o (MayObey s full) → HearsAt o b.sent →
        Paired (after f (item.obeyed full) s) b
    at None e h heard = elim h [ ]
    at (Some d) e h heard =
        let which_is = which full (answer_said d) h.next in
        let x = which_is.0 in
        let resets : IsReset full (Some x) = subst (IsReset full) which_is.1 h.next in
        let next = next_of d.taken d.got (answers_on d.socket b.sent) x
        (no_refusal full x resets) heard which_is.1 in
        let it : record s { feed = Some d; session = record s.session { phase = phase.ReconnectSent } } ≡ s = rw
        (sym e, sym h.phase) refl in
        subst (λ z. Paired (after f (item.obeyed full) z) b) it
        (obeyed_so s b d full x which_is.1 next resets (subst (λ z. Paired z b) (sym it) may.paired))
