-- Where bytes fit at a point of an order, what the feed of a side has got are the first frames that the other sent there.
use Rattle.std.proofs.Common.{◌≡◌, ◌≢◌, ℕ, ◌≤◌, ◌⊎◌, inl, inr, Bool, true, false, not, if◌then◌else◌, List, [], ◌∷◌, ◌++◌, length, map, Option, Some, None, refl, sym, ap, ◌∙◌, subst, arith, append_assoc, append-nil, length-append}
use Rattle.std.specs.Prelude.{◌<◌, ◌^◌, IfSome}
use Rattle.std.specs.List.{AllByRecursion, filter, filter_map, flat_map}
use Rattle.std.proofs.lemmas.Grind.{flat_map-append}
use Rattle.std.proofs.lemmas.List.Elements.{filter-append, filter_map-append}
use Rattle.m2_feed.specs.m2_fabric.declared.socket.SocketId.{SocketId}
use Rattle.m2_feed.specs.m2_fabric.Sockets.{is_among}
use Rattle.m2_feed.specs.m2_frame.Text as frame
use Rattle.m2_feed.specs.m2_handshake.declared.ask.Ask.{Ask}
use Rattle.m2_feed.specs.m2_handshake.Greeting.{welcome}
use Rattle.m2_feed.specs.m2_handshake.Moves.{is_authed}
use Rattle.m2_feed.specs.m2_handshake.Standing.{fed}
use Rattle.m2_feed.specs.m2_handshake.Texts.{control_parts, frame_text}
use Rattle.m2_feed.specs.m2_session.declared.answer.Answer.{Answer}
use Rattle.m2_feed.specs.m2_session.declared.answer.Answer.TheVariants as answer
use Rattle.m2_feed.specs.m2_journal.declared.entry.JudgedItem.{JudgedItem}
use Rattle.m2_feed.specs.m2_journal.Lawful.{judged_on}
use Rattle.m2_feed.specs.m2_journal.Laws.{IfFed, IsWritable}
use Rattle.m2_feed.specs.m2_journal.OutFrames as out
use Rattle.m2_feed.specs.m2_journal.OutFrames.{OutFrame, replies_of}
use Rattle.m2_feed.specs.m2_journal.Said.{split}
use Rattle.m2_feed.specs.m2_journal.SideFacts.{SideFacts, opener_half}
use Rattle.m2_feed.specs.m2_journal.State.{Feed, State}
use Rattle.m2_feed.proofs.Courses.{ran, runs-side}
use Rattle.m2_never_reset.specs.Fits.{AreSaid, HearsAt}
use Rattle.m2_never_reset.specs.Frames.{is_ask, ask_of, frames_on, asks_on, answers_on}
use Rattle.m2_trail.specs.Asks.{facts_of_ask}
use Rattle.m2_trail.specs.Replies.{reply_to, replies_to, refusal, refusal_of, all_replies}
use Rattle.m2_trail.specs.Trails.{ComesToWrite, IsTaken}
use Rattle.m2_bytes_fit.specs.Ends.{Side, state_of, read_on, wrote_on, takings_on}
use Rattle.m2_bytes_fit.specs.Halves.{HalfName, begins, HalfFits}
use Rattle.m2_bytes_fit.specs.Texts.{CanBeSent, texts_of}
use Rattle.m2_bytes_fit.proofs.Acceptors.{as_asked, HasWelcomed, IsAsked}
use Rattle.m2_bytes_fit.proofs.Fronts.{AreFirst, front_items}
use Rattle.m2_bytes_fit.proofs.Judges.{replied_no_asks}
use Rattle.m2_bytes_fit.proofs.Kept.{feed_on, view, replied, course_at, heard_of, OpenedFeed, AsksComeFirst, UntakenKept, TakenFeed, TakenKept, KeptBy}
use Rattle.m2_bytes_fit.proofs.Lists.{not_nil, nil_not, none_not_some}
use Rattle.m2_bytes_fit.proofs.Openers.{signs_behind}
use Rattle.m2_bytes_fit.proofs.Points.{Known, turn, all_frames, no_asks_stay, asks_go, nothing_of_nothing, put_first, ReadsFrames, opened_kept, reads_frames, half_asked, opened_by_other, no_map}
use Rattle.m2_bytes_fit.proofs.Puts.{IsLate, texts_both}
use Rattle.m2_bytes_fit.proofs.Says.{NoAsk, parts_all, all_written, texts_made, all_writable, said_first, said_refused}
use Rattle.m2_bytes_fit.proofs.Sent.{refusal_readable}
use Rattle.m2_bytes_fit.proofs.Steps.{if_some, here_feed, none_isnt}
use Rattle.m2_feed.proofs.m2_lemmas.Booleans.{from_false_true}
use Rattle.m2_feed.proofs.m2_fabric.Sockets.{same_refl}
use Rattle.m2_feed.proofs.m2_lemmas.Lists.{all_append, all_back, cons_same}

-- ---- the texts of replies are those of their frames

reply_texts : (g : SideFacts) (a : Answer) → flat_map frame_text (reply_to a) ≡ texts_of g (replies_of a)
reply_texts g answer.Wait = refl
reply_texts g (answer.Reset full) = refl
reply_texts g answer.ResetPending = refl
reply_texts g (answer.RetryGlobal n) = refl
reply_texts g (answer.Retry n) = refl
reply_texts g answer.Accept = refl
reply_texts g answer.AcceptOver = refl
reply_texts g (answer.AcceptReset full) = refl
reply_texts g answer.AcceptAgain = refl
reply_texts g answer.AcceptReplace = refl
reply_texts g answer.AcceptRace = refl
reply_texts g answer.Close = refl
reply_texts g answer.Resume = refl

replied_texts : (g : SideFacts) (js : List JudgedItem) → flat_map frame_text (replies_to js) ≡ texts_of g (replied js)
replied_texts g [] = refl
replied_texts g (j ∷ js) =
    flat_map-append frame_text (reply_to j.answer) (replies_to js) ∙ ap (λ l. l ++ flat_map frame_text (replies_to js)) (reply_texts g j.answer)
    ∙ ap (λ l. texts_of g (replies_of j.answer) ++ l) (replied_texts g js) ∙ sym (texts_both g (replies_of j.answer) (replied js))

-- ---- what an opener has behind the welcome

opened_signs : (f : SideFacts) (name : HalfName) (read more follows : List ℕ) → read ++ more ≡ welcome name.entity name.seen ++ follows →
    is_authed (course_at f read).standing.stage ≡ true → (course_at f read).standing.rest ++ more ≡ follows
opened_signs f name read more follows e q =
    let start = fed (opener_half f) read in
    let r = ran start in
    signs_behind f.node.rules.auth f.node.entity name.entity f.peer name.seen follows read more (course_at f read).events (course_at f read).standing name.entity_fits name.seen_fits e r.runs r.no_replies
    (runs-side (course_at f read).events start (course_at f read).standing r.runs) q

-- what it has got
heard_got : (f : SideFacts) (k : SocketId) (read : List ℕ) (b : Bool) → is_authed (course_at f read).standing.stage ≡ b →
    (heard_of f k read).got ≡ (if b then (split (course_at f read).standing.rest).items else [])
heard_got f k read true q = rw q refl
heard_got f k read false q = rw q refl

-- ---- a feed of a socket that the side opened

answers_all : (b : Side) (k : SocketId) → AllByRecursion NoAsk (frames_on k (state_of b).sent) → answers_on k (state_of b).sent ≡ frames_on k (state_of b).sent
answers_all b k n = no_asks_stay (frames_on k (state_of b).sent) n

first_said : (g : SideFacts) (ws : List OutFrame) (bytes : List ℕ) → AllByRecursion NoAsk ws → AllByRecursion (CanBeSent g) ws → AreFirst (parts_all g ws) bytes → AreSaid (split bytes).items ws
first_said g ws bytes n k first = subst (λ is. AreSaid is ws) (sym first.items) (said_first g first.count ws n k)

-- at most one refusal behind the answers
refused_said : (g : SideFacts) (ws : List OutFrame) (bytes more : List ℕ) (o : Option ℕ) → AllByRecursion NoAsk ws → AllByRecursion (CanBeSent g) ws → IfSome o (λ bits. bits < 2 ^ 64) →
    bytes ++ more ≡ texts_of g ws ++ flat_map frame_text (refusal_of o) → AreSaid (split bytes).items ws
refused_said g ws bytes more None n k r e =
    first_said g ws bytes n k
    (front_items (parts_all g ws) [] bytes more (all_writable g ws (all_written g ws k)) (λ b q. nothing_of_nothing b more q)
    (e ∙ ap (λ t. t ++ []) (texts_made g ws (all_written g ws k))))
refused_said g ws bytes more (Some bits) n k r e =
    let readable = refusal_readable bits r in
    let fs = parts_all g ws ++ control_parts (refusal bits) ∷ [] in
    let all : AllByRecursion IsWritable fs = all_append IsWritable (parts_all g ws) (control_parts (refusal bits) ∷ []) (all_writable g ws (all_written g ws k)) (readable.writable, tt) in
    let texts : flat_map frame.text_of fs ≡ texts_of g ws ++ flat_map frame_text (refusal bits ∷ []) =
    flat_map-append frame.text_of (parts_all g ws) (control_parts (refusal bits) ∷ []) ∙ ap (λ t. t ++ flat_map frame.text_of (control_parts (refusal bits) ∷ [])) (sym (texts_made g ws (all_written g ws k))) in
    let first = front_items fs [] bytes more all (λ b q. nothing_of_nothing b more q) (e ∙ sym texts ∙ sym (append-nil (flat_map frame.text_of fs))) in
    subst (λ is. AreSaid is ws) (sym first.items) (said_refused g first.count bits ws readable n k)

module _ (a b : Side) (h : Known a b) (d : Feed) (fed_is : (state_of a).feed ≡ Some d) where
  abbrev k : SocketId
  k = d.socket

  abbrev frames : List OutFrame
  frames = frames_on d.socket (state_of b).sent

  can : AllByRecursion (CanBeSent b.facts) frames
  can = all_frames b.facts d.socket (state_of b).sent h.far_sent

  there : feed_on d.socket (state_of a).feed ≡ Some d
  there = ap (feed_on d.socket) fed_is ∙ here_feed d.socket d (same_refl d.socket)

  -- what the other side has put there is a welcome and what follows it
  record Follows (read follows : List ℕ) : Type 0 where
    name : HalfName
    more : List ℕ
    all : read ++ more ≡ welcome name.entity name.seen ++ follows

  abbrev got : List ℕ
  got = read_on d.socket a.entries

  far : HalfFits b d.socket
  far = h.bytes.far_halves d.socket

  -- the other side's half has not been taken
  untaken_follows : (opened : is_among d.socket (state_of a).opened ≡ true) → UntakenKept (view b.entries (state_of b) d.socket) → takings_on d.socket b.entries ≡ [] →
      Follows got (flat_map frame_text (all_replies (judged_on d.socket (state_of b).judgements) far.refused))
  untaken_follows opened kept none =
      at (half_asked b a (turn a b h) d.socket (b.halves d.socket).got read_more reads far.name w.exchange w.standing w.comes w.fed)
    where
      js : List JudgedItem
      js = judged_on d.socket (state_of b).judgements

      w : ComesToWrite (begins far.name) (b.halves d.socket).got (all_replies js far.refused) (b.halves d.socket).put
      w = far.writes none

      read_more : List ℕ
      read_more = read_on d.socket b.entries ++ ((turn a b h).bytes.near_got d.socket).0

      reads : ReadsFrames a d.socket (b.halves d.socket).got read_more
      reads = reads_frames b a (turn a b h) d.socket (b.halves d.socket).got (read_on d.socket b.entries) opened refl

      put : (b.halves d.socket).put ≡ got ++ (h.bytes.near_got d.socket).0
      put =
          sym (append-nil (b.halves d.socket).put) ∙ ap (λ l. (b.halves d.socket).put ++ l) (sym kept.wrote) ∙ (h.bytes.near_got d.socket).1
          ∙ ap (λ l. (l ++ got) ++ (h.bytes.near_got d.socket).0) ((h.bytes.near_halves d.socket).opened opened).0

      text : w.exchange.text ≡ got ++ ((h.bytes.near_got d.socket).0 ++ w.written.0)
      text = w.written.1 ∙ ap (λ l. l ++ w.written.0) put ∙ append_assoc got (h.bytes.near_got d.socket).0 w.written.0

      behind : List ℕ
      behind = (h.bytes.near_got d.socket).0 ++ w.written.0

      at : HasWelcomed far.name.entity far.name.seen w.exchange ⊎ IsAsked a.facts far.name.entity far.name.seen (frames_on d.socket (state_of a).sent ++ reads.late) (read_more ++ reads.left) w.exchange w.standing →
          Follows got (flat_map frame_text (all_replies js far.refused))
      at (inl x) = record {
        name = far.name;
        more = (behind ++ x.text.0) ++ flat_map frame_text (all_replies js far.refused);
        all =
            sym (append_assoc got (behind ++ x.text.0) (flat_map frame_text (all_replies js far.refused)))
            ∙ ap (λ l. l ++ flat_map frame_text (all_replies js far.refused)) (sym (append_assoc got behind x.text.0) ∙ ap (λ l. l ++ x.text.0) (sym text) ∙ sym x.text.1);
      }
      at (inr x) = record {
        name = far.name;
        more = behind ++ flat_map frame_text w.given.0;
        all =
            sym (append_assoc got behind (flat_map frame_text w.given.0)) ∙ ap (λ l. l ++ flat_map frame_text w.given.0) (sym text ∙ x.text)
            ∙ append_assoc (welcome far.name.entity far.name.seen) (flat_map frame_text w.exchange.replies) (flat_map frame_text w.given.0)
            ∙ ap (λ l. welcome far.name.entity far.name.seen ++ l) (sym (flat_map-append frame_text w.exchange.replies w.given.0) ∙ ap (flat_map frame_text) (sym w.given.1));
      }

  -- or it was taken, and then its record's frames follow
  record FollowsFrames : Type 0 where
    late : List OutFrame
    left : List ℕ
    late_is : IsLate late left
    name : HalfName
    more : List ℕ
    all : got ++ (more ++ left) ≡ welcome name.entity name.seen ++ texts_of b.facts (frames ++ late)

  taken_follows : (opened : is_among d.socket (state_of a).opened ≡ true) (unread : List ℕ) → TakenKept b.facts unread (view b.entries (state_of b) d.socket) → takings_on d.socket b.entries ≡ unread ∷ [] → FollowsFrames
  taken_follows opened unread kept one =
      at (half_asked b a (turn a b h) d.socket (b.halves d.socket).got read_more reads far.name t.exchange t.standing t.comes t.got)
    where
      js : List JudgedItem
      js = judged_on d.socket (state_of b).judgements

      t : IsTaken (begins far.name) (b.halves d.socket) js unread
      t = (subst (AllByRecursion (IsTaken (begins far.name) (b.halves d.socket) js)) one far.taken).0

      read_more : List ℕ
      read_more = read_on d.socket b.entries ++ ((turn a b h).bytes.near_got d.socket).0

      reads : ReadsFrames a d.socket (b.halves d.socket).got read_more
      reads = reads_frames b a (turn a b h) d.socket (b.halves d.socket).got (read_on d.socket b.entries) opened refl

      rest : List ℕ
      rest = (h.bytes.near_got d.socket).0

      put : (b.halves d.socket).put ++ wrote_on d.socket b.entries ≡ got ++ rest
      put = (h.bytes.near_got d.socket).1 ∙ ap (λ l. (l ++ got) ++ rest) ((h.bytes.near_halves d.socket).opened opened).0

      some_judged : js ≢ []
      some_judged e = no_end kept.before kept.last (sym kept.judged ∙ e)
        where
          no_end : {X : Type 0} (xs : List X) (x : X) → xs ++ x ∷ [] ≡ [] → ⊥
          no_end [] x e = not_nil e
          no_end (y ∷ ys) x e = not_nil e

      at : HasWelcomed far.name.entity far.name.seen t.exchange ⊎ IsAsked a.facts far.name.entity far.name.seen (frames_on d.socket (state_of a).sent ++ reads.late) (read_more ++ reads.left) t.exchange t.standing → FollowsFrames
      at (inl x) = absurd (some_judged (no_map (λ (i : JudgedItem). i.ask) js (sym t.asks ∙ ap (map facts_of_ask) x.asks)))
      at (inr x) =
          let text : (b.halves d.socket).put ≡ welcome far.name.entity far.name.seen ++ texts_of b.facts (replied js) =
          sym t.put ∙ x.text ∙ ap (λ l. welcome far.name.entity far.name.seen ++ l) (ap (flat_map frame_text) t.replies ∙ replied_texts b.facts js) in
          record {
            late = kept.put.late;
            left = kept.put.left;
            late_is = kept.put.begun;
            name = far.name;
            more = rest;
            all =
                sym (append_assoc got rest kept.put.left) ∙ ap (λ l. l ++ kept.put.left) (sym put)
                ∙ append_assoc (b.halves d.socket).put (wrote_on d.socket b.entries) kept.put.left
                ∙ ap (λ l. (b.halves d.socket).put ++ l) kept.put.all
                ∙ ap (λ l. l ++ texts_of b.facts (kept.after ++ kept.put.late)) text
                ∙ append_assoc (welcome far.name.entity far.name.seen) (texts_of b.facts (replied js)) (texts_of b.facts (kept.after ++ kept.put.late))
                ∙ ap (λ l. welcome far.name.entity far.name.seen ++ l)
                (sym (texts_both b.facts (replied js) (kept.after ++ kept.put.late))
                ∙ ap (texts_of b.facts) (sym (append_assoc (replied js) kept.after kept.put.late) ∙ ap (λ l. l ++ kept.put.late) (sym kept.frames)));
          }

  opened_heard : is_among d.socket (state_of a).opened ≡ true → OpenedFeed a.facts got (wrote_on d.socket a.entries) (frames_on d.socket (state_of a).sent) d → AreSaid d.got (answers_on d.socket (state_of b).sent)
  opened_heard opened heard = by_sign (is_authed (course_at a.facts got).standing.stage) refl
    where
      closed : is_among d.socket (state_of b).opened ≡ false
      closed = h.apart d.socket opened

      by_sign : (t : Bool) → is_authed (course_at a.facts got).standing.stage ≡ t → AreSaid d.got (answers_on d.socket (state_of b).sent)
      by_sign false q = subst (λ is. AreSaid is (answers_on d.socket (state_of b).sent)) (sym (heard.got ∙ heard_got a.facts d.socket got false q)) tt
      by_sign true q =
          subst (λ is. AreSaid is (answers_on d.socket (state_of b).sent)) (sym (heard.got ∙ heard_got a.facts d.socket got true q))
          (by_taking (is_among d.socket (state_of b).opened) (takings_on d.socket b.entries) closed refl (h.far_kept d.socket))
        where
          unread : List ℕ
          unread = (course_at a.facts got).standing.rest

          by_taking : (t : Bool) (ts : List (List ℕ)) → t ≡ false → takings_on d.socket b.entries ≡ ts → KeptBy b.facts t ts (view b.entries (state_of b) d.socket) →
              AreSaid (split unread).items (answers_on d.socket (state_of b).sent)
          by_taking true ts e z g = from_false_true (sym e)
          by_taking false [] e z g =
              let js = judged_on d.socket (state_of b).judgements in
              let f = untaken_follows opened g z in
              let behind : unread ++ f.more ≡ flat_map frame_text (all_replies js far.refused) =
              opened_signs a.facts f.name got f.more (flat_map frame_text (all_replies js far.refused)) f.all q in
              let none : AllByRecursion NoAsk frames = subst (AllByRecursion NoAsk) (sym g.frames) (replied_no_asks js) in
              let texts : flat_map frame_text (all_replies js far.refused) ≡ texts_of b.facts frames ++ flat_map frame_text (refusal_of far.refused) =
              flat_map-append frame_text (replies_to js) (refusal_of far.refused) ∙ ap (λ l. l ++ flat_map frame_text (refusal_of far.refused)) (replied_texts b.facts js ∙ ap (texts_of b.facts) (sym g.frames)) in
              subst (AreSaid (split unread).items) (sym (answers_all b d.socket none))
              (refused_said b.facts frames unread f.more far.refused none can far.refused_fits (behind ∙ texts))
          by_taking false (u ∷ []) e z g =
              let f = taken_follows opened u g z in
              let behind : unread ++ (f.more ++ f.left) ≡ texts_of b.facts (frames ++ f.late) =
              opened_signs a.facts f.name got (f.more ++ f.left) (texts_of b.facts (frames ++ f.late)) f.all q in
              subst (AreSaid (split unread).items) (sym (answers_all b d.socket g.no_asks))
              (first_said b.facts frames unread g.no_asks can (put_first b.facts frames f.late unread f.more f.left (all_written b.facts frames can) f.late_is behind))
          by_taking false (u ∷ u' ∷ us) e z g = absurd g

  -- ---- a feed that was taken

  all_asks : (asks : List Ask) (used : List OutFrame) → map as_asked asks ≡ map ask_of used → AllByRecursion (λ w. is_ask w ≡ true) used × (length used ≡ length asks)
  all_asks [] [] e = (tt, refl)
  all_asks [] (w ∷ ws) e = nil_not e
  all_asks (q ∷ qs) [] e = not_nil e
  all_asks (q ∷ qs) (w ∷ ws) e =
      let same = cons_same (as_asked q) (ask_of w) (map as_asked qs) (map ask_of ws) e in
      let more = all_asks qs ws same.1 in
      ((asks_so w (sym same.0), more.0), (let n = more.1 in omega (arith, n)))
    where
      asks_so : (w : OutFrame) → ask_of w ≡ as_asked q → is_ask w ≡ true
      asks_so (out.ident c g) e = refl
      asks_so (out.reconnect p q r s t) e = refl
      asks_so w e = none_not_some e

  -- as many asks as were judged, of frames of which no more are asks
  same_left : (used left asks mails : List OutFrame) → used ++ left ≡ asks ++ mails → AllByRecursion (λ w. is_ask w ≡ true) used → AllByRecursion NoAsk mails → length asks ≤ length used → left ≡ mails
  same_left [] left [] mails e u n l = e
  same_left [] left (w ∷ ws) mails e u n l = absurd (omega (arith, l))
  same_left (v ∷ vs) left [] [] e u n l = not_nil e
  same_left (v ∷ vs) left [] (m ∷ ms) e u n l =
      let same = cons_same v m (vs ++ left) ms e in
      from_false_true (sym n.0 ∙ (ap is_ask (sym same.0) ∙ u.0))
  same_left (v ∷ vs) left (w ∷ ws) mails e u n l =
      same_left vs left ws mails (cons_same v w (vs ++ left) (ws ++ mails) e).1 u.1 n (omega (arith, l))

  late_no_asks : (late : List OutFrame) (left : List ℕ) → IsLate late left → AllByRecursion NoAsk late
  late_no_asks [] left l = tt
  late_no_asks (out.acknowledgement n ∷ []) left l = (refl, tt)
  late_no_asks (out.keepalive_answer n ∷ []) left l = (refl, tt)
  late_no_asks (out.greeting ∷ []) left l = from_false_true l.0
  late_no_asks (out.ident c g ∷ []) left l = from_false_true l.0
  late_no_asks (out.reconnect p q r s t ∷ []) left l = from_false_true l.0
  late_no_asks (out.server_ident c g ∷ []) left l = from_false_true l.0
  late_no_asks (out.reconnect_ok n ∷ []) left l = from_false_true l.0
  late_no_asks (out.reset b ∷ []) left l = from_false_true l.0
  late_no_asks (out.retry n ∷ []) left l = from_false_true l.0
  late_no_asks (out.retry_global n ∷ []) left l = from_false_true l.0
  late_no_asks (out.wait ∷ []) left l = from_false_true l.0
  late_no_asks (out.message p q m ∷ []) left l = from_false_true l.0
  late_no_asks (w ∷ v ∷ ws) left l = absurd l

  asks_are : (ws : List OutFrame) → AllByRecursion (λ w. is_ask w ≡ true) ws → length (filter_map ask_of ws) ≡ length ws
  asks_are [] h = refl
  asks_are (out.ident c g ∷ ws) h = let n = asks_are ws h.1 in omega (arith, n)
  asks_are (out.reconnect p q r s t ∷ ws) h = let n = asks_are ws h.1 in omega (arith, n)
  asks_are (out.greeting ∷ ws) h = from_false_true h.0
  asks_are (out.server_ident c g ∷ ws) h = from_false_true h.0
  asks_are (out.reconnect_ok n ∷ ws) h = from_false_true h.0
  asks_are (out.reset b ∷ ws) h = from_false_true h.0
  asks_are (out.retry n ∷ ws) h = from_false_true h.0
  asks_are (out.retry_global n ∷ ws) h = from_false_true h.0
  asks_are (out.wait ∷ ws) h = from_false_true h.0
  asks_are (out.message p q m ∷ ws) h = from_false_true h.0
  asks_are (out.acknowledgement n ∷ ws) h = from_false_true h.0
  asks_are (out.keepalive_answer n ∷ ws) h = from_false_true h.0

  taken_heard : (unread : List ℕ) → TakenKept a.facts unread (view a.entries (state_of a) d.socket) → takings_on d.socket a.entries ≡ unread ∷ [] →
      length (asks_on d.socket (state_of b).sent) ≤ length (judged_on d.socket (state_of a).judgements) → (after : List OutFrame) → TakenFeed a.facts unread got (wrote_on d.socket a.entries) after d →
      AreSaid d.got (answers_on d.socket (state_of b).sent)
  taken_heard unread kept one last after heard = at (half_asked a b h d.socket (a.halves d.socket).got (got ++ (h.bytes.near_got d.socket).0) reads near.name t.exchange t.standing t.comes t.got)
    where
      js : List JudgedItem
      js = judged_on d.socket (state_of a).judgements

      near : HalfFits a d.socket
      near = h.bytes.near_halves d.socket

      some_judged : js ≢ []
      some_judged e = no_end kept.before kept.last (sym kept.judged ∙ e)
        where
          no_end : {X : Type 0} (xs : List X) (x : X) → xs ++ x ∷ [] ≡ [] → ⊥
          no_end [] x e = not_nil e
          no_end (y ∷ ys) x e = not_nil e

      t : IsTaken (begins near.name) (a.halves d.socket) js unread
      t = (subst (AllByRecursion (IsTaken (begins near.name) (a.halves d.socket) js)) one near.taken).0

      opened : is_among d.socket (state_of b).opened ≡ true
      opened = opened_by_other a b h d.socket some_judged

      order : AsksComeFirst frames
      order = (opened_kept b d.socket h.far_kept opened).order

      reads : ReadsFrames b d.socket (a.halves d.socket).got (got ++ (h.bytes.near_got d.socket).0)
      reads = reads_frames a b h d.socket (a.halves d.socket).got got opened refl

      at : HasWelcomed near.name.entity near.name.seen t.exchange ⊎ IsAsked b.facts near.name.entity near.name.seen (frames ++ reads.late) ((got ++ (h.bytes.near_got d.socket).0) ++ reads.left) t.exchange t.standing →
          AreSaid d.got (answers_on d.socket (state_of b).sent)
      at (inl x) = absurd (some_judged (no_map (λ (i : JudgedItem). i.ask) js (sym t.asks ∙ ap (map facts_of_ask) x.asks)))
      at (inr x) =
          let are = all_asks t.exchange.asks x.used x.asks in
          let count : length t.exchange.asks ≡ length js = sizes facts_of_ask (λ (i : JudgedItem). i.ask) t.exchange.asks js t.asks in
          let few : length order.asks ≤ length x.used =
          let n = last in let m = asks_are order.asks order.are in let p = are.1 in
          let q : asks_on d.socket (state_of b).sent ≡ filter_map ask_of order.asks ++ filter_map ask_of order.mails = ap (filter_map ask_of) order.all ∙ filter_map-append ask_of order.asks order.mails in
          let r = ap length q ∙ length-append (filter_map ask_of order.asks) (filter_map ask_of order.mails) in
          omega (arith, n, m, p, r, count) in
          let whole : x.used ++ x.left ≡ order.asks ++ (order.mails ++ reads.late) = sym x.all ∙ ap (λ l. l ++ reads.late) order.all ∙ append_assoc order.asks order.mails reads.late in
          let left : x.left ≡ order.mails ++ reads.late =
          same_left x.used x.left order.asks (order.mails ++ reads.late) whole are.0 (all_append NoAsk order.mails reads.late order.none (late_no_asks reads.late reads.left reads.late_is)) few in
          let mails : answers_on d.socket (state_of b).sent ≡ order.mails =
          ap (filter (λ w. not (is_ask w))) order.all ∙ filter-append (λ w. not (is_ask w)) order.asks order.mails
          ∙ ap (λ l. l ++ filter (λ w. not (is_ask w)) order.mails) (asks_go order.asks order.are) ∙ no_asks_stay order.mails order.none in
          let can_mails : AllByRecursion (CanBeSent b.facts) order.mails = all_back (CanBeSent b.facts) order.asks order.mails (subst (AllByRecursion (CanBeSent b.facts)) order.all can) in
          let rest : unread ++ ((got ++ read_more) ++ reads.left) ≡ texts_of b.facts (order.mails ++ reads.late) =
          ap (λ l. l ++ ((got ++ read_more) ++ reads.left)) (sym t.unread) ∙ x.rest t.stage ∙ ap (texts_of b.facts) left in
          let behind : (unread ++ got) ++ (read_more ++ reads.left) ≡ texts_of b.facts (order.mails ++ reads.late) =
          append_assoc unread got (read_more ++ reads.left) ∙ ap (λ l. unread ++ l) (sym (append_assoc got read_more reads.left)) ∙ rest in
          let first = put_first b.facts order.mails reads.late (unread ++ got) read_more reads.left (all_written b.facts order.mails can_mails) reads.late_is behind in
          subst (AreSaid d.got) (sym mails) (subst (λ is. AreSaid is order.mails) (sym heard.got) (first_said b.facts order.mails (unread ++ got) order.none can_mails first))
        where
          read_more : List ℕ
          read_more = (h.bytes.near_got d.socket).0

          sizes : {X Y Z : Type 0} (f : X → Z) (g : Y → Z) (xs : List X) (ys : List Y) → map f xs ≡ map g ys → length xs ≡ length ys
          sizes f g [] [] e = refl
          sizes f g [] (y ∷ ys) e = nil_not e
          sizes f g (x ∷ xs) [] e = not_nil e
          sizes f g (x ∷ xs) (y ∷ ys) e = let n = sizes f g xs ys (cons_same (f x) (g y) (map f xs) (map g ys) e).1 in omega (arith, n)

-- ---- any feed

-- no ask was sent on a socket that was taken behind those that were judged
abbrev pub NoAskBehind : State → State → Type 0
NoAskBehind a b = IfFed a.feed (λ d. d.opened ≡ false → length (asks_on d.socket b.sent) ≤ length (judged_on d.socket a.judgements))

pub near_hears : (a b : Side) → Known a b → NoAskBehind (state_of a) (state_of b) → HearsAt (state_of a).feed (state_of b).sent
near_hears a b h last = at (state_of a).feed refl last
  where
    at : (o : Option Feed) → (state_of a).feed ≡ o → IfFed o (λ d. d.opened ≡ false → length (asks_on d.socket (state_of b).sent) ≤ length (judged_on d.socket (state_of a).judgements)) → HearsAt o (state_of b).sent
    at None e l = tt
    at (Some d) e l = by_taking (is_among d.socket (state_of a).opened) (takings_on d.socket a.entries) refl refl (h.near_kept d.socket)
      where
        there_is : feed_on d.socket (state_of a).feed ≡ Some d
        there_is = ap (feed_on d.socket) e ∙ here_feed d.socket d (same_refl d.socket)

        by_taking : (t : Bool) (ts : List (List ℕ)) → is_among d.socket (state_of a).opened ≡ t → takings_on d.socket a.entries ≡ ts → KeptBy a.facts t ts (view a.entries (state_of a) d.socket) →
            AreSaid d.got (answers_on d.socket (state_of b).sent)
        by_taking true [] o z g =
            opened_heard a b h d e o
            (if_some (feed_on d.socket (state_of a).feed) d (OpenedFeed a.facts (read_on d.socket a.entries) (wrote_on d.socket a.entries) (frames_on d.socket (state_of a).sent)) there_is g.feed)
        by_taking true (u ∷ us) o z g = absurd g
        by_taking false [] o z g = absurd (none_isnt (feed_on d.socket (state_of a).feed) d g.feed there_is)
        by_taking false (u ∷ []) o z g =
            let heard = if_some (feed_on d.socket (state_of a).feed) d (TakenFeed a.facts u (read_on d.socket a.entries) (wrote_on d.socket a.entries) g.after) there_is g.feed in
            taken_heard a b h d e u g z (l heard.opened) g.after heard
        by_taking false (u ∷ u' ∷ us) o z g = absurd g
