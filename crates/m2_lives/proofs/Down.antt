-- What a mark-down leaves of a side: all that it has sent, opened and judged, and no feed.
use Rattle.std.proofs.Common.{◌≡◌, ◌+◌, ◌≤◌, Bool, true, false, length, map, Option, Some, None, refl, sym, ap, ◌∙◌, subst}
use Rattle.m2_bytes_fit.proofs.Hands.{closing}
use Rattle.m2_bytes_fit.proofs.Hears.{NoAskBehind}
use Rattle.m2_journal.specs.Items as item
use Rattle.m2_journal.specs.Lawful.{judged_on, judged_sockets}
use Rattle.m2_journal.specs.Laws.{IfFed}
use Rattle.m2_journal.specs.Plan.{Planned}
use Rattle.m2_journal.specs.SideFacts.{SideFacts}
use Rattle.m2_journal.specs.State.{Feed, Judgement, State}
use Rattle.m2_journal.specs.Steps.{after}
use Rattle.m2_journal.specs.m2_fabric.Sockets.{is_among}
use Rattle.m2_journal.specs.m2_session.declared.event.Event.TheVariants as event
use Rattle.m2_never_reset.specs.Frames.{frames_on, asks_on, answers_on}
use Rattle.m2_never_reset.specs.LinkOf.{judged_count, is_unjudged}
use Rattle.m2_never_reset.specs.Paired.{Beside, beside, FeedIsPaired, Paired, SideIsPaired}
use Rattle.m2_bytes_fit.proofs.Less.{down_less}

-- ---- what is left

pub record LeavesFeed (s t : State) : Type 0 where
  pub sent : t.sent ≡ s.sent
  pub opened : t.opened ≡ s.opened
  pub judgements : t.judgements ≡ s.judgements
  pub feed : t.feed ≡ None

pub down_leaves : (f : SideFacts) (planned : Bool) (step : Option Planned) (s : State) → LeavesFeed s (after f (item.down planned step) s)
down_leaves f planned step s =
    let l = down_less f planned step s in
    record { sent = l.sent; opened = l.opened; judgements = l.judgements; feed = closing event.MarkedDown s refl }

-- ---- of both

near_paired : (a t b : State) → LeavesFeed a t → SideIsPaired a b → SideIsPaired t b
near_paired a t b l h = record {
  feed = subst (λ o. IfFed o (FeedIsPaired (beside t b))) (sym l.feed) tt;
  asks = λ k o. ap (asks_on k) l.sent ∙ h.asks k (sym (ap (is_among k) l.opened) ∙ o);
  sent = λ k o j. ap (frames_on k) l.sent ∙ h.sent k (sym (ap (is_among k) l.opened) ∙ o) (sym (ap (λ js. is_among k (map (λ (x : Judgement). x.socket) js)) l.judgements) ∙ j);
  asks_once = λ k. subst (λ sent. length (asks_on k sent) ≤ judged_count k (judged_sockets b) + 1) (sym l.sent) (h.asks_once k);
  unjudged = λ k u. ap (answers_on k) l.sent ∙ h.unjudged k (subst (λ sent. is_unjudged k sent (judged_sockets b) ≡ true) l.sent u);
}

without_other : (u : Beside) (d : Feed) → FeedIsPaired u d → FeedIsPaired (record u { other = None }) d
without_other u d h = record {
  got = h.got;
  sent = h.sent;
  texts = h.texts;
  taken = h.taken;
  asks_alone = h.asks_alone;
  unjudged = h.unjudged;
  coming = h.coming;
  accepted = λ o. tt;
}

beside_is : (b a t : State) → LeavesFeed a t → beside b t ≡ record (beside b a) { other = None }
beside_is b a t l = rw (l.sent, l.feed, ap (λ js. map (λ (x : Judgement). x.socket) js) l.judgements) refl

far_paired : (b a t : State) → LeavesFeed a t → SideIsPaired b a → SideIsPaired b t
far_paired b a t l h = record {
  feed = at b.feed h.feed;
  asks = h.asks;
  sent = h.sent;
  asks_once = λ k. subst (λ judged. length (asks_on k b.sent) ≤ judged_count k judged + 1) (sym judged) (h.asks_once k);
  unjudged = λ k u. h.unjudged k (subst (λ js. is_unjudged k b.sent js ≡ true) judged u);
}
  where
    judged : judged_sockets t ≡ judged_sockets a
    judged = ap (λ js. map (λ (x : Judgement). x.socket) js) l.judgements

    at : (o : Option Feed) → IfFed o (FeedIsPaired (beside b a)) → IfFed o (FeedIsPaired (beside b t))
    at None g = tt
    at (Some d) g = subst (λ u. FeedIsPaired u d) (sym (beside_is b a t l)) (without_other (beside b a) d g)

pub leaves_paired : (a t b : State) → LeavesFeed a t → Paired a b → Paired t b
leaves_paired a t b l h = record { near = near_paired a t b l h.near; far = far_paired b a t l h.far }

pub leaves_near : (a t b : State) → LeavesFeed a t → NoAskBehind t b
leaves_near a t b l = subst (λ o. IfFed o (λ d. d.opened ≡ false → length (asks_on d.socket b.sent) ≤ length (judged_on d.socket t.judgements))) (sym l.feed) tt

pub leaves_far : (a t b : State) → LeavesFeed a t → NoAskBehind b a → NoAskBehind b t
leaves_far a t b l h = at b.feed h
  where
    at : (o : Option Feed) → IfFed o (λ d. d.opened ≡ false → length (asks_on d.socket a.sent) ≤ length (judged_on d.socket b.judgements)) →
        IfFed o (λ d. d.opened ≡ false → length (asks_on d.socket t.sent) ≤ length (judged_on d.socket b.judgements))
    at None g = tt
    at (Some d) g = λ q. subst (λ sent. length (asks_on d.socket sent) ≤ length (judged_on d.socket b.judgements)) (sym l.sent) (g q)
