-- A message that is accepted is steps of the link: what stands before it is passed, and it is taken.
--
-- Accepted: `passes_mail` for each mail that is passed over, then `accepts_mail`.
use Rattle.std.proofs.Common.{◌≡◌, ℕ, suc, ◌+◌, ◌≤◌, Bool, true, false, List, [], ◌∷◌, ◌++◌, length, take, drop, max, Option, Some, None, refl, sym, ap, ◌∙◌, subst, arith, append_assoc}
use Rattle.std.specs.List.{prefix_len}
use Rattle.std.specs.Option.{option_map}
use Rattle.m2_session.specs.m2_control.declared.control.Control.TheVariants as control
use Rattle.m2_queues.specs.m2_frame.Reading.{Item}
use Rattle.m2_queues.specs.m2_message.Message.{Content, unnumbered}
use Rattle.m2_session.specs.m2_policy.declared.path.Key.{Key}
use Rattle.m2_session.specs.declared.session.Phase.TheVariants as phase
use Rattle.m2_journal.specs.Feeds.{told_by, said_at, is_passed, next_place, next_said}
use Rattle.m2_journal.specs.Items as item
use Rattle.m2_journal.specs.Lawful.{OnFeedAt, IsNext, MayAccept, judged_sockets}
use Rattle.m2_journal.specs.Laws.{IfFed}
use Rattle.m2_journal.specs.OutFrames as out
use Rattle.m2_journal.specs.OutFrames.{OutFrame}
use Rattle.m2_journal.specs.Said.{Said, says, brings, aborts, garbles, said}
use Rattle.m2_journal.specs.SideFacts.{SideFacts}
use Rattle.m2_journal.specs.State as state
use Rattle.m2_journal.specs.State.{Feed, Delivery, State}
use Rattle.m2_journal.specs.Steps.{after, accepts}
use Rattle.m2_never_reset.specs.Link.{Stand, ready, Joined, Node, Link, link}
use Rattle.m2_never_reset.specs.Mails.{Mail, letter, acked_by, heard_with}
use Rattle.m2_never_reset.specs.Roles.{Role}
use Rattle.m2_never_reset.specs.Steps.{Run, done, near_acts, accepts_mail, passes_mail}
use Rattle.m2_never_reset.specs.Fits.{Says, IsRefusal, AreSaid, HearsAt}
use Rattle.m2_never_reset.specs.Frames.{answers_on, to_come, mail_of, mails}
use Rattle.m2_never_reset.specs.LinkOf.{role_of, raised_by, heard_in, heard_first, letters, joined_by, node_of, stand_of, link_of}
use Rattle.m2_never_reset.specs.PairLaws.{AcceptedIsSteps}
use Rattle.m2_never_reset.specs.Paired.{beside, FeedIsPaired}
use Rattle.m2_never_reset.proofs.Heard.{first_mail, as_list, mails_split, heard_if, heard_as_list, heard-append, heard_in-append, AreSaid-drop, get-drop, drop-behind, take-more}
use Rattle.m2_never_reset.proofs.Links.{plus_none}
use Rattle.m2_queues.proofs.m2_lemmas.Options.{none_isnt_some}
use Rattle.m2_queues.proofs.m2_lemmas.Booleans.{false_isnt_true}

-- ---- what stands before the message

abbrev IsNothing : {X : Type 0} → Option X → Type 0
IsNothing None = Unit {0}
IsNothing (Some x) = ⊥

same_brought : (c m : Content) → brings c ≡ brings m → c ≡ m
same_brought c m e = ap content e
  where
    content : Said → Content
    content (brings x) = x
    content _ = c

message_said : (w : OutFrame) (m : Content) → Says (brings m) w →
    mail_of w ≡ Some (letter m.header.seq m.header.ack_seq (unnumbered m))
message_said (out.message n a c) m h = rw h refl
message_said out.greeting m h = elim h [ ]
message_said (out.ident c g) m h = elim h [ ]
message_said (out.reconnect c s g k n) m h = elim h [ ]
message_said (out.server_ident c g) m h = elim h [ ]
message_said (out.reconnect_ok n) m h = elim h [ ]
message_said (out.reset full) m h = elim h [ ]
message_said (out.retry k) m h = elim h [ ]
message_said (out.retry_global g) m h = elim h [ ]
message_said out.wait m h = elim h [ ]
message_said (out.acknowledgement n) m h = elim h [ ]
message_said (out.keepalive_answer k) m h = elim h [ ]

tells_same : (told last : ℕ) (s : Said) (w : OutFrame) → Says s w → is_passed last s ≡ true →
    raised_by told (told_by s) ≡ heard_if told (mail_of w)
tells_same told last (brings m) (out.message n a c) h e = rw h refl
tells_same told last (says (control.Ack p)) (out.acknowledgement n) h e = rw h refl
tells_same told last (says (control.KeepaliveAck p)) (out.keepalive_answer k) h e = refl
tells_same told last (says (control.ServerIdent i)) (out.server_ident c g) h e = absurd (false_isnt_true e)
tells_same told last (says (control.SessionReconnectOk p)) (out.reconnect_ok n) h e = absurd (false_isnt_true e)
tells_same told last (says (control.SessionReset p)) (out.reset full) h e = absurd (false_isnt_true e)
tells_same told last (says (control.SessionRetry p)) (out.retry k) h e = absurd (false_isnt_true e)
tells_same told last (says (control.SessionRetryGlobal p)) (out.retry_global g) h e = absurd (false_isnt_true e)
tells_same told last (says (control.Wait p)) out.wait h e = absurd (false_isnt_true e)
tells_same told last garbles (out.retry k) h e = absurd (false_isnt_true e)
tells_same told last s w h e = elim h [ ]

one_more : (k : ℕ) → 1 + k ≡ suc k
one_more k = omega arith

-- the message stands in the mail that is to come behind what is passed over, and what both tell is what the texts tell
abbrev Stands : (last told : ℕ) (m : Content) (is : List Item) (vs : List OutFrame) → Type 0
Stands last told m is vs = (passed : List Mail)
    × (mails vs ≡ passed ++ letter m.header.seq m.header.ack_seq (unnumbered m) ∷ mails (drop (prefix_len (λ i. is_passed last (said i)) is + 1) vs))
    × (heard_in told (take (prefix_len (λ i. is_passed last (said i)) is + 1) is) ≡ max (heard_with told passed) m.header.ack_seq)

abbrev inside : Said → Option Said → Said
inside d (Some s) = s
inside d None = d

some_same : (s r : Said) → Some s ≡ Some r → s ≡ r
some_same s r e = ap (inside s) e

stands : (last told : ℕ) (m : Content) (is : List Item) (vs : List OutFrame) → AreSaid is vs →
    said_at is (prefix_len (λ i. is_passed last (said i)) is) ≡ Some (brings m) → Stands last told m is vs
stands last told m [] vs h e = absurd (none_isnt_some (brings m) e)
stands last told m (i ∷ is) [] h e = by_said (said i) refl h.0
  where
    -- a refusal is no message, and isn't passed over
    by_said : (s : Said) → said i ≡ s → IsRefusal s → Stands last told m (i ∷ is) []
    by_said (says (control.IdentMissingFeatures p)) q f =
        let len : prefix_len (λ j. is_passed last (said j)) (i ∷ is) ≡ 0 = rw q refl in
        let it : said i ≡ brings m = some_same _ _ (ap (λ l. said_at (i ∷ is) l) (sym len) ∙ e) in
        absurd (subst IsRefusal (sym q ∙ it) tt)
    by_said s q f = elim f [ ]
stands last told m (i ∷ is) (w ∷ vs) h e =
    by_test (is_passed last (said i)) refl (stands last (heard_if told (mail_of w)) m is vs h.1)
  where
    n : ℕ
    n = prefix_len (λ j. is_passed last (said j)) is

    by_test : (t : Bool) → is_passed last (said i) ≡ t →
        (said_at is (prefix_len (λ j. is_passed last (said j)) is) ≡ Some (brings m) → Stands last (heard_if told (mail_of w)) m is vs) →
        Stands last told m (i ∷ is) (w ∷ vs)
    by_test true q later =
        let k : ℕ = prefix_len (λ j. is_passed last (said j)) is in
        let len : prefix_len (λ j. is_passed last (said j)) (i ∷ is) ≡ suc k = rw q (one_more k) in
        let again : suc (k + 1) ≡ prefix_len (λ j. is_passed last (said j)) (i ∷ is) + 1 = omega (arith, len) in
        let more = later (ap (λ l. said_at (i ∷ is) l) (sym len) ∙ e) in (
          as_list (mail_of w) ++ more.0,
          mails_split w vs ∙ ap (λ l. as_list (mail_of w) ++ l) more.1
              ∙ sym (append_assoc (as_list (mail_of w)) more.0 _)
              ∙ ap (λ l. (as_list (mail_of w) ++ more.0) ++ letter m.header.seq m.header.ack_seq (unnumbered m) ∷ mails (drop l (w ∷ vs))) again,
          ap (λ l. heard_in told (take l (i ∷ is))) (sym again)
              ∙ ap (λ l. heard_in l (take (k + 1) is)) (tells_same told last (said i) w h.0 q)
              ∙ more.2
              ∙ ap (λ l. max l m.header.ack_seq)
              (ap (λ l. heard_with l more.0) (heard_as_list told (mail_of w)) ∙ sym (heard-append told (as_list (mail_of w)) more.0)),
        )
    by_test false q later =
        let len : prefix_len (λ j. is_passed last (said j)) (i ∷ is) ≡ 0 = rw q refl in
        let one : 1 ≡ prefix_len (λ j. is_passed last (said j)) (i ∷ is) + 1 = omega (arith, len) in
        let it : said i ≡ brings m = some_same _ _ (ap (λ l. said_at (i ∷ is) l) (sym len) ∙ e) in (
          [],
          first_mail w (letter m.header.seq m.header.ack_seq (unnumbered m)) vs
              (message_said w m (subst (λ s. Says s w) it h.0))
              ∙ ap (λ l. letter m.header.seq m.header.ack_seq (unnumbered m) ∷ mails (drop l (w ∷ vs))) one,
          ap (λ l. heard_in told (take l (i ∷ is))) (sym one) ∙ ap (λ s. raised_by told (told_by s)) it,
        )

-- ---- the steps

letters-more : (ds : List Delivery) (n life : ℕ) (key : Key) (m : Content) → letters
    (ds ++ state.letter n life key m ∷ []) ≡ letters ds ++ unnumbered m ∷ []
letters-more [] n life key m = refl
letters-more (state.letter k u l c ∷ ds) n life key m = ap (λ l. unnumbered c ∷ l) (letters-more ds n life key m)
letters-more (state.discarded ∷ ds) n life key m = letters-more ds n life key m
letters-more (state.remote_reset ∷ ds) n life key m = letters-more ds n life key m

pass_all : (p q : Role) (x y : Node) (t : Stand) (j : Joined) (u : ℕ) (passed mails : List Mail) (end : Link) →
    Run p q (link (record x { heard = heard_with x.heard passed }) (ready mails) y t j u) end →
    Run p q (link x (ready (passed ++ mails)) y t j u) end
pass_all p q x y t j u [] ms end r = r
pass_all p q x y t j u (m ∷ passed) ms end r =
    near_acts _ _ _ (passes_mail x y m (passed ++ ms) t j u)
    (pass_all p q (record x { heard = max x.heard (acked_by m) }) y t j u passed ms end r)

module _ (p q : Role) (trouble number : ℕ) (key : Key) (s₀ b : State) (d : Feed) (m : Content) where
  -- the side that accepts: on its feed, in Ready
  abbrev s : State
  s = record s₀ { feed = Some d; session = record s₀.session { phase = phase.Ready } }

  abbrev u : State
  u = accepts number key (Some (brings m)) d s

  abbrev later : List Mail
  later = mails (drop (next_place s.last d + 1) (answers_on d.socket b.sent))

  accepted_is_steps : number ≡ s.last + 1 → m.header.seq ≡ number →
      next_said s.last d ≡ Some (brings m) →
      AreSaid d.got (answers_on d.socket b.sent) → d.taken ≤ length (answers_on d.socket b.sent) →
      Run p q (link_of trouble s b) (link_of (trouble + 0) u b)
  accepted_is_steps e seq next texts within =
      let n : ℕ = prefix_len (λ i. is_passed s.last (said i)) (drop d.taken d.got) in
      let told : ℕ = heard_in (heard_first d.resumed) (take d.taken d.got) in
      let here_it_is : said_at (drop d.taken d.got) n ≡ Some (brings m) = ap (option_map said)
      (sym (get-drop d.taken n d.got)) ∙ next in
      let it = stands s.last told m (drop d.taken d.got) (to_come d b.sent)
      (AreSaid-drop d.taken d.got (answers_on d.socket b.sent) within texts) here_it_is in
      let place : d.taken + (n + 1) ≡ next_place s.last d + 1 = omega arith in
      let behind : mails (drop (n + 1) (to_come d b.sent)) ≡ later =
      ap mails (drop-behind d.taken (n + 1) (answers_on d.socket b.sent) ∙ ap (λ n. drop n (answers_on d.socket b.sent)) place) in
      let heard : max (heard_with told it.0) m.header.ack_seq ≡ heard_in (heard_first d.resumed)
      (take (next_place s.last d + 1) d.got) =
      sym it.2 ∙ sym (heard_in-append (heard_first d.resumed) (take d.taken d.got) (take (n + 1) (drop d.taken d.got)))
      ∙ ap (heard_in (heard_first d.resumed)) (sym (take-more d.taken (n + 1) d.got) ∙ ap (λ n. take n d.got) place) in
      let x : Node = node_of s (judged_sockets b) in
      let y : Node = node_of b (judged_sockets s) in
      let mail : Mail = letter number m.header.ack_seq (unnumbered m) in
      let before : ready (it.0 ++ mail ∷ later) ≡ ready (mails (to_come d b.sent)) =
      ap ready (ap (λ l. it.0 ++ mail ∷ l) (sym behind)
      ∙ ap (λ k. it.0 ++ letter k m.header.ack_seq (unnumbered m) ∷ mails (drop (prefix_len (λ i. is_passed s.last (said i)) (drop d.taken d.got) + 1) (to_come d b.sent))) (sym seq)
      ∙ sym it.1) in
      let behind_it : link
      (record x { last = number; heard = max (heard_with told it.0) m.header.ack_seq; accepted = x.accepted ++ unnumbered m ∷ [] })
      (ready later) y (stand_of b s) (joined_by (Some d) b.feed) trouble ≡ link_of (trouble + 0) u b =
      same_end (link (record x { last = number }) (ready later) y (stand_of b s) (joined_by (Some d) b.feed) trouble) _ _ _ _ _ heard (sym (letters-more s.deliveries number s.life key m)) (plus_none trouble) in
      subst (λ l. Run p q (link x l y (stand_of b s) (joined_by (Some d) b.feed) trouble) (link_of (trouble + 0) u b)) before
      (subst (λ l. Run p q (link x (ready (it.0 ++ mail ∷ later)) y (stand_of b s) (joined_by (Some d) b.feed) trouble) l) behind_it
      (pass_all p q x y (stand_of b s) (joined_by (Some d) b.feed) trouble it.0 (mail ∷ later) _
      (near_acts _ _ _ (accepts_mail (record x { heard = heard_with told it.0 }) y later (stand_of b s) (joined_by (Some d) b.feed) trouble number m.header.ack_seq (unnumbered m) e) (done _))))
    where
      same_end : (l : Link) (h h' : ℕ) (ms ms' : List Content) (k : ℕ) → h ≡ h' → ms ≡ ms' → l.trouble ≡ k →
          link (record l.near { heard = h; accepted = ms }) l.near_stand l.far l.far_stand l.joined l.trouble
          ≡ link (record l.near { heard = h'; accepted = ms' }) l.near_stand l.far l.far_stand l.joined k
      same_end l h h' ms ms' k e₁ e₂ e₃ = rw (e₁, e₂, e₃) refl

-- ---- the entry

pub its_message : (f : SideFacts) (s : State) (n : ℕ) (key : Key) (o : Option Said) → IsNext f s n key o →
    (m : Content) × (o ≡ Some (brings m)) × (n ≡ s.last + 1) × (m.header.seq ≡ n)
its_message f s n key (Some (brings m)) h = (m, refl, h.0, h.1)
its_message f s n key (Some (says c)) h = elim h [ ]
its_message f s n key (Some aborts) h = elim h [ ]
its_message f s n key (Some garbles) h = elim h [ ]
its_message f s n key None h = elim h [ ]

pub accepted_is : AcceptedIsSteps
accepted_is f g n key t s b may = at s.feed refl may.lawful may.fits.near_hears may.paired.near.feed
  where
    in_ready : (d : Feed) → s.feed ≡ Some d → s.session.phase ≡ phase.Ready → record s { feed = Some d; session = record s.session { phase = phase.Ready } } ≡ s
    in_ready d e p = rw (sym e, sym p) refl

    at : (o : Option Feed) → s.feed ≡ o → OnFeedAt o (MayAccept f s n key) →
        HearsAt o b.sent → IfFed o (FeedIsPaired (beside s b)) →
        Run (role_of f) (role_of g) (link_of t s b) (link_of (t + 0) (after f (item.accepted n key) s) b)
    at None e h heard paired = elim h [ ]
    at (Some d) e h heard paired =
        let it = its_message f s n key (next_said s.last d) h.next in
        subst (λ z. Run (role_of f) (role_of g) (link_of t z b) (link_of (t + 0) (after f (item.accepted n key) z) b))
        (in_ready d e h.phase)
        (subst (λ o. Run (role_of f) (role_of g) (link_of t (record s { feed = Some d; session = record s.session { phase = phase.Ready } }) b)
        (link_of (t + 0) (accepts n key o d (record s { feed = Some d; session = record s.session { phase = phase.Ready } })) b)) (sym it.1)
        (accepted_is_steps (role_of f) (role_of g) t n key s b d it.0 it.2 it.3 it.1 heard paired.sent))
