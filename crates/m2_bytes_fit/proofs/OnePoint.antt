-- A point at which bytes fit: one side has opened a socket, its ask was accepted, and it has read the answer.
use Rattle.std.specs.Prelude.{◌≡◌, ℕ, ◌^◌, Bool, true, false, if◌then◌else◌, List, [], ◌∷◌, ◌++◌, take, drop, map, None, refl}
use Rattle.std.proofs.Common.{sym, ap, ◌∙◌, subst, append-nil}
use Rattle.std.proofs.lemmas.List.{take-append-drop}
use Rattle.std.specs.List.{AllByRecursion}
use Rattle.std.proofs.lemmas.Bool.{ltb-true}
use Rattle.m2_feed.specs.m2_crc.Crc.{after_byte, shifted, shifted_by}
use Rattle.m2_feed.specs.m2_frame.Reading.{judge, judge_first, judge_later, judge_epilogue, size_of}
use Rattle.m2_feed.specs.m2_frame.Preamble.{read_preamble, preamble_text}
use Rattle.m2_feed.specs.m2_frame.Text.{segment_crc, text_of}
use Rattle.m2_feed.specs.m2_control.Fields.{bounded_at, cookie_at, flag_at, numbers_at, list_at, string_at, vector_field}
use Rattle.m2_feed.specs.m2_control.Ident.{tail_at}
use Rattle.m2_feed.specs.m2_addr.Addr.{head_at, socket_at, body_of, shape_at}
use Rattle.m2_feed.specs.m2_addr.Vector.{addresses_at, vector_at}
use Rattle.m2_feed.specs.m2_message.HeaderText.{header_text}
use Rattle.m2_feed.specs.m2_fabric.declared.socket.SocketId.{SocketId}
use Rattle.m2_feed.specs.m2_fabric.Sockets.{same_socket, is_among}
use Rattle.m2_feed.specs.m2_handshake.Course as course
use Rattle.m2_feed.specs.m2_handshake.Course.{Course, Exchange, Reaches, no_exchange, course_of}
use Rattle.m2_feed.specs.m2_handshake.declared.stage.Stage.TheVariants.{Asked}
use Rattle.m2_feed.specs.m2_handshake.Laws.{IsPrefix}
use Rattle.m2_feed.specs.m2_handshake.Standing.{fed}
use Rattle.m2_feed.proofs.m2_handshake.Reaching.{begins as nothing_done}
use Rattle.m2_feed.specs.m2_journal.Items as item
use Rattle.m2_feed.specs.m2_journal.Items.{JournalItem}
use Rattle.m2_feed.specs.m2_session.declared.session.Phase.TheVariants.{Ready}
use Rattle.m2_feed.specs.m2_journal.Lawful.{judged_on}
use Rattle.m2_feed.specs.m2_journal.Replay.{AreLawful}
use Rattle.m2_feed.specs.m2_journal.State.{Judgement, start}
use Rattle.m2_feed.specs.m2_session.declared.answer.Answer.TheVariants.{Accept}
use Rattle.m2_feed.proofs.m2_journal.OneMessage.{first_ask, of_first, delivered, lawful_at_a, lawful_at_b}
use Rattle.m2_feed.proofs.m2_journal.Pair.{socket, here, facts_of_a, facts_of_b}
use Rattle.m2_feed.proofs.Courses.{ran}
use Rattle.m2_trail.specs.Asks.{facts_of_ask}
use Rattle.m2_trail.specs.Replies.{all_replies}
use Rattle.m2_trail.specs.Trails.{ComesToAsk, ComesToWrite, HalfBytes, IsTaken}
use Rattle.m2_bytes_fit.specs.Ends.{Side, state_of, judged_at, read_on, wrote_on, takings_on, got_at, put_at}
use Rattle.m2_bytes_fit.specs.Halves.{HalfName, begins, HalfFits, BytesFit}
use Rattle.m2_bytes_fit.specs.Orders.{BytesCanFit}
use Rattle.m2_bytes_fit.proofs.Lists.{not_nil}
use Rattle.m2_feed.proofs.m2_lemmas.Booleans.{from_false_true}
use Rattle.m2_feed.proofs.m2_fabric.Sockets.{same_equal}
use Rattle.m2_feed.proofs.m2_journal.JudgedOn.{lawful_front}

-- ---- the two sides

abbrev one : SocketId
one = socket 1

abbrev silent : HalfBytes
silent = record { got = []; put = [] }

-- what the opener wrote until its ask was judged, and what it read
abbrev half : HalfBytes
half = record { got = wrote_on one (take 9 delivered.of_a); put = read_on one (take 9 delivered.of_a) }

-- what the two did until the opener has read the answer to its ask
abbrev of_opener : List JournalItem
of_opener = take 10 delivered.of_a

abbrev of_taker : List JournalItem
of_taker = take 2 delivered.of_b

near : Side
near = record { facts = facts_of_a; entries = of_opener; halves = λ k. silent }

far : Side
far = record { facts = facts_of_b; entries = of_taker; halves = λ k. if same_socket k one then half else silent }

-- ---- on other sockets nothing was done

-- an entry that reads, writes and takes on this socket alone
abbrev IsOnOne : JournalItem → Type 0
IsOnOne (item.read k bytes) = k ≡ one
IsOnOne (item.wrote k bytes) = k ≡ one
IsOnOne (item.judged k ask number given unread trail) = k ≡ one
IsOnOne i = Unit {0}

elsewhere : (k j : SocketId) (xs : List ℕ) → same_socket k one ≡ false → j ≡ one → (if same_socket k j then xs else []) ≡ []
elsewhere k j xs e q = ap (λ s. if same_socket k s then xs else []) q ∙ rw e refl

read_elsewhere : (k : SocketId) (is : List JournalItem) → same_socket k one ≡ false → AllByRecursion IsOnOne is → read_on k is ≡ []
read_elsewhere k [] e h = refl
read_elsewhere k (item.read j bytes ∷ is) e h = ap (λ l. l ++ read_on k is) (elsewhere k j bytes e h.0) ∙ read_elsewhere k is e h.1
read_elsewhere k (item.post place planned ∷ is) e h = read_elsewhere k is e h.1
read_elsewhere k (item.dial planned ∷ is) e h = read_elsewhere k is e h.1
read_elsewhere k (item.opened j ∷ is) e h = read_elsewhere k is e h.1
read_elsewhere k (item.wrote j bytes ∷ is) e h = read_elsewhere k is e h.1
read_elsewhere k (item.closed j broken ∷ is) e h = read_elsewhere k is e h.1
read_elsewhere k (item.judged j ask number given unread trail ∷ is) e h = read_elsewhere k is e h.1
read_elsewhere k (item.asked ident number ∷ is) e h = read_elsewhere k is e h.1
read_elsewhere k (item.numbered number ∷ is) e h = read_elsewhere k is e h.1
read_elsewhere k (item.accepted number key ∷ is) e h = read_elsewhere k is e h.1
read_elsewhere k (item.acked number ∷ is) e h = read_elsewhere k is e h.1
read_elsewhere k (item.obeyed full ∷ is) e h = read_elsewhere k is e h.1
read_elsewhere k (item.down planned step ∷ is) e h = read_elsewhere k is e h.1

near_on_one : AllByRecursion IsOnOne of_opener
near_on_one = (tt, (tt, (refl, (refl, (refl, (refl, (refl, (tt, (refl, (refl, tt))))))))))

far_on_one : AllByRecursion IsOnOne of_taker
far_on_one = (refl, (refl, tt))

takings_elsewhere : (k : SocketId) (is : List JournalItem) → same_socket k one ≡ false → AllByRecursion IsOnOne is → takings_on k is ≡ []
takings_elsewhere k [] e h = refl
takings_elsewhere k (item.judged j ask number given unread trail ∷ is) e h = at (ap (same_socket k) h.0 ∙ e) (takings_elsewhere k is e h.1)
  where
    at : same_socket k j ≡ false → takings_on k is ≡ [] → takings_on k (item.judged j ask number given unread trail ∷ is) ≡ []
    at q r = rw q r
takings_elsewhere k (item.read j bytes ∷ is) e h = takings_elsewhere k is e h.1
takings_elsewhere k (item.wrote j bytes ∷ is) e h = takings_elsewhere k is e h.1
takings_elsewhere k (item.post place planned ∷ is) e h = takings_elsewhere k is e h.1
takings_elsewhere k (item.dial planned ∷ is) e h = takings_elsewhere k is e h.1
takings_elsewhere k (item.opened j ∷ is) e h = takings_elsewhere k is e h.1
takings_elsewhere k (item.closed j broken ∷ is) e h = takings_elsewhere k is e h.1
takings_elsewhere k (item.asked ident number ∷ is) e h = takings_elsewhere k is e h.1
takings_elsewhere k (item.numbered number ∷ is) e h = takings_elsewhere k is e h.1
takings_elsewhere k (item.accepted number key ∷ is) e h = takings_elsewhere k is e h.1
takings_elsewhere k (item.acked number ∷ is) e h = takings_elsewhere k is e h.1
takings_elsewhere k (item.obeyed full ∷ is) e h = takings_elsewhere k is e h.1
takings_elsewhere k (item.down planned step ∷ is) e h = takings_elsewhere k is e h.1

no_more : (xs ys : List ℕ) → xs ≡ [] → IsPrefix xs ys
no_more xs ys e = (ys, sym (ap (λ l. l ++ ys) e))

-- ---- what each has got the other has put

near_has_got : IsPrefix (got_at near one) (put_at far one)
unfolding near far text_of preamble_text segment_crc after_byte shifted shifted_by judge judge_first judge_later judge_epilogue size_of read_preamble bounded_at cookie_at flag_at numbers_at list_at string_at vector_field tail_at head_at socket_at body_of shape_at addresses_at vector_at header_text
near_has_got = ([], refl)

-- behind its ask the opener has written nothing yet
nothing_behind : wrote_on one of_opener ≡ wrote_on one (take 9 delivered.of_a)
nothing_behind = refl

far_has_got : IsPrefix (got_at far one) (put_at near one)
unfolding near far
far_has_got = ([], nothing_behind ∙ sym (append-nil (wrote_on one (take 9 delivered.of_a))) ∙ sym (append-nil (wrote_on one (take 9 delivered.of_a) ++ [])))

either_socket : (P : SocketId → Type 0) (k : SocketId) → P one → (same_socket k one ≡ false → P k) → P k
either_socket P k here else_ = at (same_socket k one) refl
  where
    at : (b : Bool) → same_socket k one ≡ b → P k
    at true e = subst P (sym (same_equal k one e)) here
    at false e = else_ e

near_got_elsewhere : (k : SocketId) → same_socket k one ≡ false → got_at near k ≡ []
unfolding near
near_got_elsewhere k e = read_elsewhere k of_opener e near_on_one

far_silent : (k : SocketId) → same_socket k one ≡ false → far.halves k ≡ silent
unfolding far
far_silent k e = rw e refl

far_got_elsewhere : (k : SocketId) → same_socket k one ≡ false → got_at far k ≡ []
unfolding far
far_got_elsewhere k e = ap (λ (h : HalfBytes). h.got ++ read_on k of_taker) (far_silent k e) ∙ read_elsewhere k of_taker e far_on_one

-- ---- the halves

abbrev name : HalfName
name = record { entity = 4; seen = here; entity_fits = ltb-true 4 (2 ^ 8) refl; seen_fits = (ltb-true 2 (2 ^ 32) refl, ltb-true 1 (2 ^ 32) refl, ltb-true 0x0100007F (2 ^ 32) refl, ltb-true 7001 (2 ^ 16) refl) }

nothing_asked : ComesToAsk (begins name) [] (all_replies [] None) []
nothing_asked = record {
  exchange = no_exchange;
  standing = begins name;
  comes = nothing_done (begins name);
  fed = refl;
  given = ([], refl);
  first = ([], refl);
}

nothing_written : ComesToWrite (begins name) [] (all_replies [] None) []
nothing_written = record {
  exchange = no_exchange;
  standing = begins name;
  comes = nothing_done (begins name);
  fed = refl;
  given = ([], refl);
  written = ([], refl);
}

silent_fits : (a : Side) (k : SocketId) → a.halves k ≡ silent → judged_at a k ≡ [] → takings_on k a.entries ≡ [] → HalfFits a k
silent_fits a k s j t = record {
  opened = λ o. (ap (λ (h : HalfBytes). h.got) s, ap (λ (h : HalfBytes). h.put) s);
  name = name;
  refused = None;
  refused_fits = tt;
  asks = rw (s, j) nothing_asked;
  writes = λ e. rw (s, j) nothing_written;
  taken = subst (AllByRecursion (IsTaken (begins name) (a.halves k) (judged_at a k))) (sym t) tt;
}

near_judged : (k : SocketId) → (judged_at near k ≡ []) × (takings_on k near.entries ≡ [])
unfolding near text_of preamble_text segment_crc after_byte shifted shifted_by judge judge_first judge_later judge_epilogue size_of read_preamble bounded_at cookie_at flag_at numbers_at list_at string_at vector_field tail_at head_at socket_at body_of shape_at addresses_at vector_at header_text
near_judged k = (refl, refl)

near_half_fits : (k : SocketId) → HalfFits near k
unfolding near
near_half_fits k = silent_fits near k refl (near_judged k).0 (near_judged k).1

-- by what the half has read and been replied
its_course : Course
its_course = course_of (fed (begins name) half.got) []

exchange : Exchange
exchange = record { bytes = half.got; replies = []; text = course.text_of its_course.events; asks = course.asks_of its_course.events }

comes : Reaches (begins name) exchange its_course.standing
unfolding its_course exchange
comes = let r = ran (fed (begins name) half.got) in record { events = (course_of (fed (begins name) half.got) []).events; runs = r.runs; replies = r.no_replies; text = refl; asks = refl }

far_judged : judged_at far one ≡ of_first
unfolding far text_of preamble_text segment_crc after_byte shifted shifted_by judge judge_first judge_later judge_epilogue size_of read_preamble bounded_at cookie_at flag_at numbers_at list_at string_at vector_field tail_at head_at socket_at body_of shape_at addresses_at vector_at header_text
far_judged = refl

its_asks : map facts_of_ask exchange.asks ≡ first_ask ∷ []
unfolding its_course exchange text_of preamble_text segment_crc after_byte shifted shifted_by judge judge_first judge_later judge_epilogue size_of read_preamble bounded_at cookie_at flag_at numbers_at list_at string_at vector_field tail_at head_at socket_at body_of shape_at addresses_at vector_at header_text
its_asks = refl

its_text : exchange.text ≡ half.put
unfolding its_course exchange text_of preamble_text segment_crc after_byte shifted shifted_by judge judge_first judge_later judge_epilogue size_of read_preamble bounded_at cookie_at flag_at numbers_at list_at string_at vector_field tail_at head_at socket_at body_of shape_at addresses_at vector_at header_text
its_text = refl

its_end : (its_course.standing.stage ≡ Asked) × (its_course.standing.rest ≡ [])
unfolding its_course text_of preamble_text segment_crc after_byte shifted shifted_by judge judge_first judge_later judge_epilogue size_of read_preamble bounded_at cookie_at flag_at numbers_at list_at string_at vector_field tail_at head_at socket_at body_of shape_at addresses_at vector_at header_text
its_end = (refl, refl)

far_unopened : is_among one (state_of far).opened ≡ false
unfolding far text_of preamble_text segment_crc after_byte shifted shifted_by judge judge_first judge_later judge_epilogue size_of read_preamble bounded_at cookie_at flag_at numbers_at list_at string_at vector_field tail_at head_at socket_at body_of shape_at addresses_at vector_at header_text
far_unopened = refl

its : Judgement
its = record { socket = one; item = record { ask = first_ask; answer = Accept } }

far_judgements : (state_of far).judgements ≡ its ∷ []
unfolding far its text_of preamble_text segment_crc after_byte shifted shifted_by judge judge_first judge_later judge_epilogue size_of read_preamble bounded_at cookie_at flag_at numbers_at list_at string_at vector_field tail_at head_at socket_at body_of shape_at addresses_at vector_at header_text
far_judgements = refl

not_judged : (k : SocketId) → same_socket k one ≡ false → judged_on k (its ∷ []) ≡ []
unfolding its
not_judged k e = rw e refl

-- the half that was taken
taken_fits : HalfFits far one
unfolding far exchange
taken_fits = record {
  opened = λ o. from_false_true (sym far_unopened ∙ o);
  name = name;
  refused = None;
  refused_fits = tt;
  asks = rw far_judged (record { exchange = exchange; standing = its_course.standing; comes = comes; fed = refl; given = ([], refl); first = ([], its_asks) });
  writes = λ e. not_nil e;
  taken = rw far_judged (
    record {
      exchange = exchange;
      standing = its_course.standing;
      comes = comes;
      got = refl;
      put = its_text;
      replies = refl;
      asks = its_asks;
      stage = its_end.0;
      unread = its_end.1;
    },
    tt,
  );
}

far_elsewhere : (k : SocketId) → same_socket k one ≡ false → (judged_at far k ≡ []) × (takings_on k far.entries ≡ [])
unfolding far
far_elsewhere k e = (ap (judged_on k) far_judgements ∙ not_judged k e, takings_elsewhere k of_taker e far_on_one)

far_half_fits : (k : SocketId) → HalfFits far k
far_half_fits k =
    either_socket (HalfFits far) k taken_fits
    (λ e. silent_fits far k (far_silent k e) (far_elsewhere k e).0 (far_elsewhere k e).1)

-- ---- the point

opened_one : is_among one (state_of near).opened ≡ true
unfolding near text_of preamble_text segment_crc after_byte shifted shifted_by judge judge_first judge_later judge_epilogue size_of read_preamble bounded_at cookie_at flag_at numbers_at list_at string_at vector_field tail_at head_at socket_at body_of shape_at addresses_at vector_at header_text
opened_one = refl

fit : BytesFit near far
fit = record {
  near_got = λ k. either_socket (λ k. IsPrefix (got_at near k) (put_at far k)) k near_has_got (λ e. no_more (got_at near k) (put_at far k) (near_got_elsewhere k e));
  far_got = λ k. either_socket (λ k. IsPrefix (got_at far k) (put_at near k)) k far_has_got (λ e. no_more (got_at far k) (put_at near k) (far_got_elsewhere k e));
  strange = λ k. either_socket (λ k. is_among k (state_of near).opened ≡ false → is_among k (state_of far).opened ≡ false → (got_at near k ≡ []) × (got_at far k ≡ [])) k
      (λ p q. from_false_true (sym p ∙ opened_one)) (λ e p q. (near_got_elsewhere k e, far_got_elsewhere k e));
  near_halves = near_half_fits;
  far_halves = far_half_fits;
}

both_ready : ((state_of near).session.phase ≡ Ready) × ((state_of far).session.phase ≡ Ready)
unfolding near far text_of preamble_text segment_crc after_byte shifted shifted_by judge judge_first judge_later judge_epilogue size_of read_preamble bounded_at cookie_at flag_at numbers_at list_at string_at vector_field tail_at head_at socket_at body_of shape_at addresses_at vector_at header_text
both_ready = (refl, refl)

lawful_near : AreLawful near.facts near.entries (start near.facts)
unfolding near
lawful_near =
    (lawful_front facts_of_a of_opener (drop 10 delivered.of_a) (start facts_of_a)
    (subst (λ is. AreLawful facts_of_a is (start facts_of_a)) (sym (take-append-drop 10 delivered.of_a)) lawful_at_a)).0

lawful_far : AreLawful far.facts far.entries (start far.facts)
unfolding far
lawful_far =
    (lawful_front facts_of_b of_taker (drop 2 delivered.of_b) (start facts_of_b)
    (subst (λ is. AreLawful facts_of_b is (start facts_of_b)) (sym (take-append-drop 2 delivered.of_b)) lawful_at_b)).0

pub can_fit : BytesCanFit
can_fit = record {
  near = near;
  far = far;
  near_lawful = lawful_near;
  far_lawful = lawful_far;
  bytes = fit;
  near_ready = both_ready.0;
  far_ready = both_ready.1;
}
