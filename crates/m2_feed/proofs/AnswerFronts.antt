-- What stands at the front of a feed is what the replay hears there.
use Rattle.std.proofs.Common.{◌≡◌, ◌≢◌, ℕ, Bool, true, false, List, ◌++◌, length, Option, Some, None, refl, sym, ap, subst, ◌∙◌, append-nil}
use Rattle.std.specs.Prelude.{if◌then◌else◌, option_map}
use Rattle.m2_addr.specs.declared.addr.Addr.{Addr}
use Rattle.m2_feed.proofs.Framing.{idle-next, idle-place}
use Rattle.m2_feed.specs.Calls.{IsFront}
use Rattle.m2_feed.specs.FeedNow.{FeedNow, Reading, framing, shaking, is_framing}
use Rattle.m2_feed.specs.Stands.{Frames, ReadsAs, is_ready}
use Rattle.m2_frame.proofs.Cutting.{bad_isnt_text, start_isnt_text}
use Rattle.m2_frame.specs.Frame.{Parts}
use Rattle.m2_frame.specs.Reading.{Front, Item, whole, dropped, start, bad, text, judge, owed_at, size_of}
use Rattle.m2_journal.specs.Feeds.{answer_said, said_at}
use Rattle.m2_journal.specs.Said.{Said, says, aborts, said}
use Rattle.m2_journal.specs.SideFacts.{SideFacts}
use Rattle.m2_journal.specs.State.{Feed, State}
use Rattle.m2_journal.specs.Steps.{answer_event, event_heard}
use Rattle.m2_policy.specs.declared.policy.Policy.{Policy}
use Rattle.m2_session.specs.declared.session.Phase.{Phase}
use Rattle.m2_session.specs.declared.session.Phase.TheVariants.{Absent, Connecting, IdentSent, ReconnectSent, Ready, Standby, Wait}
use Rattle.m2_session.specs.Phases.{is}
use Rattle.m2_frame.specs.declared.tag.Tag.{Tag}
use Rattle.m2_frame.specs.Tags.{tag_in}
use Rattle.m2_feed.proofs.AnswersHeard as frames
use Rattle.m2_feed.proofs.AnswerSizes.{IsNoPayload, get-past, item-says, judge-tag, open-there, size-asks}
use Rattle.m2_feed.specs.Front.{event_in, frame_at, heard_at}
use Rattle.m2_feed.specs.Heard.{event_of, heard_in, of_tag}
use Rattle.m2_feed.specs.AnswerLaws.{FrontsAreHeard, IsHeard}

-- ---- as the code looks at it

pub is_there : (peer : Addr) (policy : Policy) (p : Phase) (r : Reading) (x : Parts) (len : ℕ) → IsFront r (whole x) len →
    heard_at peer policy p r ≡ Some (heard_in peer policy p x)
is_there peer policy p (framing rest granted) x len i = rw (i.0, i.1) refl
is_there peer policy p (shaking s) x len i = absurd i

pub none_there : (peer : Addr) (policy : Policy) (p : Phase) (r : Reading) → ((x : Parts) (len : ℕ) → ¬ IsFront r (whole x) len) → heard_at peer policy p r ≡ None
none_there peer policy p (shaking s) none = refl
none_there peer policy p (framing rest granted) none = at (owed_at rest granted) refl (judge rest) refl
  where
    at : (o : Option ℕ) → owed_at rest granted ≡ o → (front : Front) → judge rest ≡ front → option_map (heard_in peer policy p) (frame_at o front) ≡ None
    at None e (text (whole x) len) j = absurd (none x len (e, j))
    at None e (text (dropped t) len) j = refl
    at None e start j = refl
    at None e (bad g) j = refl
    at (Some n) e front j = refl

-- ---- beside the replay

module _ (f : SideFacts) where
  none_said : (p : Phase) → answer_event f p None ≡ None
  none_said IdentSent = refl
  none_said ReconnectSent = refl
  none_said _ = refl

  no_payload : (p : Phase) (x : Said) → IsNoPayload x → answer_event f p (Some x) ≡ None
  no_payload IdentSent (says c) h = absurd h
  no_payload IdentSent _ h = refl
  no_payload ReconnectSent (says c) h = absurd h
  no_payload ReconnectSent _ h = refl
  no_payload _ x h = refl

  module _ (s : State) (v : FeedNow) (d : Feed) (rest : List ℕ) (granted : Bool) (q : is_ready s ≡ false) (k : Frames f s v d rest granted) where
    -- no whole text is there
    nothing_there : ((i : Item) (n : ℕ) → judge rest ≢ text i n) → answer_said d ≡ None
    nothing_there none =
        let left = (open-there f s v d rest granted none k).0 in
        let place = idle-place f s v d rest granted q k in
        let got : d.got ≡ k.before = place.1 ∙ ap (λ (l : List Item). k.before ++ l) left ∙ append-nil k.before in
        ap (λ (m : ℕ). said_at d.got m) k.taken ∙ ap (λ (l : List Item). said_at l (length k.before)) got ∙ ap (option_map said) (get-past k.before)

    -- a size is asked for
    message_there : (n : ℕ) (item : Item) (len : ℕ) → owed_at rest granted ≡ Some n → judge rest ≡ text item len → IsNoPayload (said item)
    message_there n item len owes j =
        let size : size_of rest ≡ Some n = ap (λ g. if g then None else size_of rest) (sym (k.ungranted q)) ∙ owes in
        let asks = size-asks rest n size in
        item-says item (judge-tag rest asks.0 item len asks.1 j ∙ asks.2)

    heard_there : (o : Option ℕ) → owed_at rest granted ≡ o → (front : Front) → judge rest ≡ front →
        answer_event f s.session.phase (answer_said d) ≡ event_in (option_map (heard_in f.peer f.policy s.session.phase) (frame_at o front))
    heard_there None e start j = ap (answer_event f s.session.phase) (nothing_there (λ i n t. start_isnt_text i n (sym j ∙ t))) ∙ none_said s.session.phase
    heard_there None e (bad g) j = ap (answer_event f s.session.phase) (nothing_there (λ i n t. bad_isnt_text g i n (sym j ∙ t))) ∙ none_said s.session.phase
    heard_there None e (text (whole x) len) j =
        let next : answer_said d ≡ Some (said (whole x)) = idle-next f s (whole x) len v d rest granted q j k in
        let law : IsHeard f s.session.phase (said (whole x)) (heard_in f.peer f.policy s.session.phase x) = frames.are_heard f s.session.phase x in
        ap (answer_event f s.session.phase) next ∙ law.answer
    heard_there None e (text (dropped t) len) j =
        ap (answer_event f s.session.phase) (idle-next f s (dropped t) len v d rest granted q j k) ∙ no_payload s.session.phase aborts tt
    heard_there (Some n) e start j = ap (answer_event f s.session.phase) (nothing_there (λ i n t. start_isnt_text i n (sym j ∙ t))) ∙ none_said s.session.phase
    heard_there (Some n) e (bad g) j = ap (answer_event f s.session.phase) (nothing_there (λ i n t. bad_isnt_text g i n (sym j ∙ t))) ∙ none_said s.session.phase
    heard_there (Some n) e (text item len) j =
        ap (answer_event f s.session.phase) (idle-next f s item len v d rest granted q j k) ∙ no_payload s.session.phase (said item) (message_there n item len e j)

-- in Ready nothing answers
ready_answers : (peer : Addr) (policy : Policy) (x : Parts) (t : Option Tag) → event_of (of_tag peer policy Ready t x) ≡ None
ready_answers peer policy x (Some t) = refl
ready_answers peer policy x None = refl

ready_event : (peer : Addr) (policy : Policy) (o : Option Parts) → event_in (option_map (heard_in peer policy Ready) o) ≡ None
ready_event peer policy (Some x) = ready_answers peer policy x (tag_in x.tag)
ready_event peer policy None = refl

is_ready_phase : (p : Phase) → is p Ready ≡ true → p ≡ Ready
is_ready_phase Ready e = refl
is_ready_phase Absent e = cc
is_ready_phase Connecting e = cc
is_ready_phase IdentSent e = cc
is_ready_phase ReconnectSent e = cc
is_ready_phase Standby e = cc
is_ready_phase Wait e = cc

pub are_heard : FrontsAreHeard
are_heard f s v d st signed = at v.reading st.reads signed
  where
    at : (r : Reading) → ReadsAs r f s v d → (is_framing r ≡ false → s.session.phase ≡ Connecting) →
        event_heard f s.session.phase d ≡ event_in (heard_at f.peer f.policy s.session.phase r)
    at (shaking h) k signed = subst (λ p. answer_event f p (answer_said d) ≡ None) (sym (signed refl)) refl
    at (framing rest granted) k signed = by_ready (is_ready s) refl
      where
        by_ready : (b : Bool) → is_ready s ≡ b → event_heard f s.session.phase d ≡ event_in (heard_at f.peer f.policy s.session.phase (framing rest granted))
        by_ready true q =
            subst (λ p. answer_event f p (answer_said d) ≡ event_in (option_map (heard_in f.peer f.policy p) (frame_at (owed_at rest granted) (judge rest))))
            (sym (is_ready_phase s.session.phase q)) (sym (ready_event f.peer f.policy (frame_at (owed_at rest granted) (judge rest))))
        by_ready false q = heard_there f s v d rest granted q k (owed_at rest granted) refl (judge rest) refl
