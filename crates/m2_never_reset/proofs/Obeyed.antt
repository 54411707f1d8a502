-- A reset that is obeyed is a step of the link, in full or not.
--
-- Obeyed: `obeys` or `obeys_in_full`.
use Rattle.std.proofs.Common.{◌≡◌, ℕ, ◌+◌, Bool, true, false, List, [], ◌∷◌, ◌++◌, drop, Option, Some, None, refl, sym, ap, ◌∙◌, subst}
use Rattle.std.specs.List.{drop-map}
use Rattle.std.proofs.lemmas.List.{append-nil}
use Rattle.m2_session.specs.m2_control.declared.control.Control.TheVariants as control
use Rattle.m2_queues.specs.m2_message.Message.{Content, unnumbered}
use Rattle.m2_session.specs.declared.event.Event.TheVariants as event
use Rattle.m2_session.specs.declared.session.Phase.TheVariants as phase
use Rattle.m2_journal.specs.Feeds.{told_by, answer_said}
use Rattle.m2_journal.specs.Items as item
use Rattle.m2_journal.specs.Lawful.{OnFeedAt, IsReset, MayObey, judged_sockets}
use Rattle.m2_journal.specs.OutFrames as out
use Rattle.m2_journal.specs.OutFrames.{OutFrame}
use Rattle.m2_journal.specs.Said.{Said, says}
use Rattle.m2_journal.specs.SideFacts.{SideFacts}
use Rattle.m2_journal.specs.State as state
use Rattle.m2_journal.specs.State.{Feed, State}
use Rattle.m2_journal.specs.Steps.{after, tells, takes_answer, with_feed}
use Rattle.m2_never_reset.specs.Asks.{reset}
use Rattle.m2_never_reset.specs.Link.{refused, connecting, Node, Joined, Link, link}
use Rattle.m2_never_reset.specs.Roles.{Role}
use Rattle.m2_never_reset.specs.Steps.{Run, troubled, set_back, obeys, obeys_in_full}
use Rattle.m2_never_reset.specs.Fits.{Says, IsRefusal, HearsAt}
use Rattle.m2_never_reset.specs.Frames.{answers_on, ask_now, to_come}
use Rattle.m2_never_reset.specs.LinkOf.{role_of, raised_by, heard_first, heard_on, joined_by, stand_on, node_of, stand_of, link_of}
use Rattle.m2_never_reset.specs.PairLaws.{ObeyedIsSteps}
use Rattle.m2_never_reset.specs.Trouble.{trouble_at}
use Rattle.m2_never_reset.proofs.Answered.{next_of, heard_next, letters-append}
use Rattle.m2_never_reset.proofs.Links.{joined_same, one_step}

-- ---- the reset is the first of what is to come

pub it_resets : (full : Bool) (x : Said) (w : OutFrame) → Says x w → IsReset full (Some x) → w ≡ out.reset full
it_resets full (says (control.SessionReset p)) w h e = at w h
  where
    at : (w : OutFrame) → Says (says (control.SessionReset p)) w → w ≡ out.reset full
    at (out.reset k) h = ap out.reset (sym h ∙ e)
    at w h = elim h [ ]
it_resets full x w h e = elim e [ ]

pub no_refusal : (full : Bool) (x : Said) → IsReset full (Some x) → IsRefusal x → ⊥
no_refusal full (says (control.SessionReset p)) e r = elim r [ ]
no_refusal full x e r = elim e [ ]

untold : (full : Bool) (x : Said) → IsReset full (Some x) → told_by x ≡ None
untold full (says (control.SessionReset p)) e = refl
untold full x e = elim e [ ]

pub which : (full : Bool) (o : Option Said) → IsReset full o → (x : Said) × (o ≡ Some x)
which full (Some x) h = (x, refl)
which full None h = elim h [ ]

-- ---- the step

module _ (f : SideFacts) (q : Role) (trouble : ℕ) (a₀ b : State) (d : Feed) where
  abbrev a : State
  a = record a₀ { feed = Some d; session = record a₀.session { phase = phase.ReconnectSent } }

  abbrev u : Bool → State
  u full = tells (event.GotReset full) (with_feed (takes_answer d) a)

  same_links : (l : Link) (h h' : ℕ) (n n' m m' : List Content) → h ≡ h' → n ≡ n' → m ≡ m' → (j : Joined) →
      l.joined ≡ j →
      link (record l.near { heard = h; numbered = n; accepted = m }) l.near_stand l.far l.far_stand l.joined l.trouble
      ≡ link (record l.near { heard = h'; numbered = n'; accepted = m' }) l.near_stand l.far l.far_stand j l.trouble
  same_links l h h' n n' m m' e₁ e₂ e₃ j e₄ = rw (e₁, e₂, e₃, e₄) refl

  obeyed_is_step : (full : Bool) → stand_of a b ≡ refused (ask_now d a.sent) (reset full) →
      heard_on (Some d) ≡ heard_on (Some (takes_answer d)) →
      Run (role_of f) q (link_of trouble a b)
      (link_of (troubled full (node_of a (judged_sockets b)) (node_of b (judged_sockets a)) trouble) (u full) b)
  obeyed_is_step true stands heard =
      let x : Node = node_of a (judged_sockets b) in
      let y : Node = node_of b (judged_sockets a) in
      let n : ℕ = troubled true x y trouble in
      one_step (role_of f) q _ _ _ _
      (ap (λ s. link x s y (stand_of b a) (joined_by (Some d) b.feed) trouble) stands)
      (obeys_in_full x y (stand_of b a) (joined_by (Some d) b.feed) trouble (ask_now d a.sent))
      (same_links (link (record (set_back true x) { client = 0; server = 0 }) connecting y (stand_of b a) (joined_by (Some d) b.feed) n) _ _ _ _ _ _ heard refl
      (sym (letters-append (a.deliveries ++ state.discarded ∷ []) (state.remote_reset ∷ []) ∙ append-nil _ ∙ letters-append a.deliveries (state.discarded ∷ []) ∙ append-nil _))
      _ (joined_same d (record (takes_answer d) { floor = 0; owed = a.owes }) b.feed refl refl))
  obeyed_is_step false stands heard =
      let x : Node = node_of a (judged_sockets b) in
      let y : Node = node_of b (judged_sockets a) in
      let n : ℕ = troubled false x y trouble in
      one_step (role_of f) q _ _ _ _
      (ap (λ s. link x s y (stand_of b a) (joined_by (Some d) b.feed) trouble) stands)
      (obeys x y (stand_of b a) (joined_by (Some d) b.feed) trouble (ask_now d a.sent))
      (same_links (link (record (set_back false x) { server = 0 }) connecting y (stand_of b a) (joined_by (Some d) b.feed) n) _ _ _ _ _ _ heard
      (drop-map unnumbered a.out.queue.base a.out.numbered) refl
      _ (joined_same d (record (takes_answer d) { floor = 0; owed = a.owes }) b.feed refl refl))

-- ---- the entry

pub obeyed_is : ObeyedIsSteps
obeyed_is f g full t s b may = at s.feed refl may.lawful may.fits.near_hears
  where
    in_phase : (d : Feed) → s.feed ≡ Some d → s.session.phase ≡ phase.ReconnectSent → record s { feed = Some d; session = record s.session { phase = phase.ReconnectSent } } ≡ s
    in_phase d e p = rw (sym e, sym p) refl

    both : (d : Feed) (k : Bool) → stand_on phase.ReconnectSent d s.sent b.sent ≡ refused (ask_now d s.sent) (reset k) →
        heard_on (Some d) ≡ heard_on (Some (takes_answer d)) →
        Run (role_of f) (role_of g)
        (link_of t (record s { feed = Some d; session = record s.session { phase = phase.ReconnectSent } }) b)
        (link_of (t + trouble_at f (item.obeyed k) (record s { feed = Some d; session = record s.session { phase = phase.ReconnectSent } }) b)
        (after f (item.obeyed k) (record s { feed = Some d; session = record s.session { phase = phase.ReconnectSent } })) b)
    both d true stands heard = obeyed_is_step f (role_of g) t s b d true stands heard
    both d false stands heard = obeyed_is_step f (role_of g) t s b d false stands heard

    at : (o : Option Feed) → s.feed ≡ o → OnFeedAt o (MayObey s full) → HearsAt o b.sent →
        Run (role_of f) (role_of g) (link_of t s b)
        (link_of (t + trouble_at f (item.obeyed full) s b) (after f (item.obeyed full) s) b)
    at None e h heard = elim h [ ]
    at (Some d) e h heard =
        let which_is = which full (answer_said d) h.next in
        let x = which_is.0 in
        let resets : IsReset full (Some x) = subst (IsReset full) which_is.1 h.next in
        let next = next_of d.taken d.got (answers_on d.socket b.sent) x
        (no_refusal full x resets) heard which_is.1 in
        let first : to_come d b.sent ≡ out.reset full ∷ drop (d.taken + 1) (answers_on d.socket b.sent) =
        next.first ∙ ap (λ w. w ∷ drop (d.taken + 1) (answers_on d.socket b.sent))
        (it_resets full x next.frame next.says resets) in
        let stands : stand_on phase.ReconnectSent d s.sent b.sent ≡ refused (ask_now d s.sent)
        (reset full) = rw first refl in
        let same : heard_on (Some d) ≡ heard_on (Some (takes_answer d)) =
        sym (heard_next d.taken (heard_first d.resumed) d.got x which_is.1
        ∙ ap (raised_by (heard_on (Some d))) (untold full x resets)) in
        subst (λ z. Run (role_of f) (role_of g) (link_of t z b) (link_of (t + trouble_at f (item.obeyed full) z b) (after f (item.obeyed full) z) b)) (in_phase d e h.phase)
        (both d full stands same)
