-- Two records that connect at once, as journals, logs and trails.
use Rattle.std.specs.Prelude.{◌≡◌, ℕ, Bool, zero, suc, ◌<◌, nat_lt, if◌then◌else◌, true, false, List, [], ◌∷◌, ◌++◌, drop, length, refl, slice_index, take, None}
use Rattle.std.proofs.Common.{arith, sym, ap, subst, ◌∙◌}
use Rattle.std.proofs.lemmas.Bool.{leb-true, lt-ltb}
use Rattle.m2_trail.specs.Replies.{first_replies}
use Rattle.std.proofs.lemmas.Grind.{flat_map-append}
use Rattle.m2_message.specs.m2_crc.Crc.{after_byte, shifted, shifted_by}
use Rattle.m2_message.specs.m2_frame.Reading.{judge, judge_first, judge_later, judge_epilogue, size_of}
use Rattle.m2_message.specs.m2_frame.Preamble.{read_preamble, preamble_text}
use Rattle.m2_message.specs.m2_frame.Text.{segment_crc, text_of}
use Rattle.m2_journal.specs.m2_control.Fields.{bounded_at, cookie_at, flag_at, numbers_at, list_at, string_at, vector_field}
use Rattle.m2_journal.specs.m2_control.Ident.{tail_at}
use Rattle.m2_policy.specs.m2_addr.Addr.{head_at, socket_at, body_of, shape_at}
use Rattle.m2_policy.specs.m2_addr.Vector.{addresses_at, vector_at}
use Rattle.m2_message.specs.HeaderText.{header_text}
use Rattle.m2_bytes_fit.specs.Ends.{read_on, wrote_on}
use Rattle.m2_bytes_fit.proofs.m2_feed.Courses.{ran}
use Rattle.m2_fabric.specs.Log.{Log}
use Rattle.m2_fabric.specs.declared.log.Run.{Run}
use Rattle.m2_journal.specs.m2_control.declared.control.Control.{Control}
use Rattle.m2_journal.specs.m2_control.declared.control.Control.TheVariants as control
use Rattle.m2_journal.specs.m2_handshake.Course as course
use Rattle.m2_journal.specs.m2_handshake.Course.{Course, Event, Exchange, Reaches, Runs, answered, course_of, replied, replies_in, replies_of}
use Rattle.m2_journal.specs.m2_handshake.Standing.{Standing, fed}
use Rattle.m2_journal.specs.m2_handshake.declared.stage.Stage.TheVariants.{Asked}
use Rattle.m2_journal.specs.m2_session.declared.answer.Answer.TheVariants.{Accept, Resume, Retry}
use Rattle.m2_journal.specs.declared.entry.Entry.{Entry}
use Rattle.m2_journal.specs.declared.entry.Entry.TheVariants as entry
use Rattle.m2_journal.specs.Items.{runs_on}
use Rattle.m2_journal.proofs.OneMessage.{first_ask, key, of_first}
use Rattle.m2_journal.proofs.Pair.{socket}
use Rattle.m2_trail.specs.Trails.{ComesToWrite, IsAsked, IsPoint, IsTakenTrail, IsTrailOf, TrailNow, begins, replies_by, unread_of}
use Rattle.m2_history.proofs.Crossing.{all_of_a, back, fourth_ask, of_second, of_third, second_ask, third_ask}

-- ---- as journals

unfoldable pub journal_of_a : List Entry
journal_of_a =
    entry.Post 0 ∷ entry.Opened (socket 1) ∷ entry.Wrote (socket 1) 26 ∷ entry.Read (socket 1) 98 ∷ entry.Wrote (socket 1) 124 ∷ entry.Read (socket 1) 120 ∷ entry.Wrote (socket 1) 68
    ∷ entry.Asked true 1 ∷ entry.Wrote (socket 1) 159 ∷ entry.Read (socket 1) 124 ∷ entry.Numbered 1 ∷ entry.Wrote (socket 1) 20 ∷ entry.Closed (socket 1)
    ∷ entry.Opened (socket 2) ∷ entry.Wrote (socket 2) 26 ∷ entry.Read (socket 2) 98 ∷ entry.Wrote (socket 2) 124 ∷ entry.Read (socket 2) 120 ∷ entry.Wrote (socket 2) 68
    ∷ entry.Asked false 2 ∷ entry.Wrote (socket 2) 116 ∷ entry.Closed (socket 2)
    ∷ entry.Opened (socket 3) ∷ entry.Wrote (socket 3) 26 ∷ entry.Read (socket 3) 98 ∷ entry.Wrote (socket 3) 124 ∷ entry.Read (socket 3) 120 ∷ entry.Wrote (socket 3) 68
    ∷ entry.Asked false 3 ∷ entry.Wrote (socket 3) 116 ∷ entry.Read (socket 3) 44 ∷ entry.Asked false 4 ∷ entry.Wrote (socket 3) 116 ∷ entry.Read (socket 3) 44
    ∷ entry.Numbered 1 ∷ entry.Wrote (socket 3) 91 ∷ entry.Read (socket 3) 44 ∷ entry.Acked 1 ∷ []

unfoldable pub journal_of_b : List Entry
journal_of_b =
    entry.Judged (socket 1) first_ask 1 Accept ∷ entry.Wrote (socket 1) 124 ∷ entry.Read (socket 1) 20 ∷ entry.Closed (socket 1) ∷ entry.Judged (socket 2) second_ask 2 Resume ∷ entry.Closed (socket 2)
    ∷ entry.Dial ∷ entry.Opened back ∷ entry.Judged (socket 3) third_ask 3 (Retry 2) ∷ entry.Judged (socket 3) fourth_ask 4 Resume ∷ entry.Closed back ∷ entry.Wrote (socket 3) 44 ∷ entry.Read (socket 3) 91
    ∷ entry.Accepted 1 key ∷ entry.Wrote (socket 3) 44 ∷ []

-- ---- as ends: what the one has put the other has got

abbrev pub of_opener : ℕ → List ℕ
of_opener n = wrote_on (socket n) all_of_a

abbrev pub of_acceptor : ℕ → List ℕ
of_acceptor n = read_on (socket n) all_of_a

abbrev pub log_by : (over : Bool) → (got put : List ℕ) → List Run → Log
log_by over got put runs = record { got = got; put = put; runs = runs; closed = over; dry = false; blocked = false; ended = over }

abbrev pub near_log : (over : Bool) → ℕ → Log
near_log over n = log_by over (of_acceptor n) (of_opener n) (runs_on (socket n) journal_of_a)

-- ---- as trails

abbrev signing : ℕ → List Entry
signing n = entry.Read (socket n) 26 ∷ entry.Wrote (socket n) 98 ∷ entry.Read (socket n) 124 ∷ entry.Wrote (socket n) 120 ∷ entry.Read (socket n) 68 ∷ []

unfoldable pub trail_1 : TrailNow
trail_1 = record { socket = socket 1; entity = 4; entries = signing 1 ++ entry.Read (socket 1) 159 ∷ []; judged = of_first; judged_after = 6 ∷ [] }

unfoldable pub trail_2 : TrailNow
trail_2 = record { socket = socket 2; entity = 4; entries = signing 2 ++ entry.Read (socket 2) 116 ∷ []; judged = of_second; judged_after = 6 ∷ [] }

unfoldable pub trail_3 : TrailNow
trail_3 = record {
  socket = socket 3;
  entity = 4;
  entries = signing 3 ++ entry.Read (socket 3) 116 ∷ entry.Wrote (socket 3) 44 ∷ entry.Read (socket 3) 116 ∷ [];
  judged = of_third;
  judged_after = 6 ∷ 8 ∷ [];
}

abbrev pub far_log : (over : Bool) → TrailNow → ℕ → Log
far_log over t n = log_by over (of_opener n) (of_acceptor n) (runs_on (socket n) t.entries ++ runs_on (socket n) journal_of_b)

-- ---- what a half does by the bytes that it has read

module _ (t : TrailNow) where
  abbrev course_by : List ℕ → Course
  course_by xs = course_of (fed (begins t) xs) []

  abbrev exchange_by : List ℕ → Exchange
  exchange_by xs = record { bytes = xs; replies = []; text = course.text_of (course_by xs).events; asks = course.asks_of (course_by xs).events }

  comes_by : (xs : List ℕ) → Reaches (begins t) (exchange_by xs) (course_by xs).standing
  comes_by xs = let r = ran (fed (begins t) xs) in record { events = (course_by xs).events; runs = r.runs; replies = r.no_replies; text = refl; asks = refl }

  writes_by : (xs text : List ℕ) (replies : List Control) → (exchange_by xs).text ≡ text ++ drop (length text) (exchange_by xs).text → ComesToWrite (begins t) xs replies text
  writes_by xs text replies e = record {
    exchange = exchange_by xs;
    standing = (course_by xs).standing;
    comes = comes_by xs;
    fed = refl;
    given = (replies, refl);
    written = (drop (length text) (exchange_by xs).text, e);
  }

-- and, where it was asked, by the reply that it was given
retry : Control
retry = control.SessionRetry (record { connect = 2 })

abbrev then_by : List ℕ → Course
then_by xs = course_of (answered retry (course_by trail_3 xs).standing) []

abbrev events_by : List ℕ → List Event
events_by xs = (course_by trail_3 xs).events ++ replied retry ∷ (then_by xs).events

abbrev replied_by : List ℕ → Exchange
replied_by xs = record { bytes = xs; replies = retry ∷ []; text = course.text_of (events_by xs); asks = course.asks_of (events_by xs) }

run_on : (es fs : List Event) (a b c : Standing) → Runs es a b → Runs fs b c → Runs (es ++ fs) a c
run_on [] fs a b c here there = subst (λ s. Runs fs s c) (sym here) there
run_on (e ∷ es) fs a b c here there = (here.0, here.1, run_on es fs here.0 b c here.2 there)

replied_comes : (xs : List ℕ) → (course_by trail_3 xs).standing.stage ≡ Asked → Reaches (begins trail_3) (replied_by xs) (then_by xs).standing
unfolding retry
replied_comes xs is_asked =
    let first = ran (fed (begins trail_3) xs) in
    let behind = ran (answered retry (course_by trail_3 xs).standing) in
    record {
      events = events_by xs;
      runs = run_on (course_by trail_3 xs).events (replied retry ∷ (then_by xs).events) (fed (begins trail_3) xs) (course_by trail_3 xs).standing (then_by xs).standing first.runs
          (answered retry (course_by trail_3 xs).standing, (is_asked, tt, refl), behind.runs);
      replies = flat_map-append replies_in (course_by trail_3 xs).events (replied retry ∷ (then_by xs).events) ∙ ap (λ l. l ++ retry ∷ replies_of (then_by xs).events) first.no_replies
          ∙ ap (λ l. retry ∷ l) behind.no_replies;
      text = refl;
      asks = refl;
    }

replied_writes : (xs text : List ℕ) (more : List Control) → (course_by trail_3 xs).standing.stage ≡ Asked → (replied_by xs).text ≡ text ++ drop (length text) (replied_by xs).text →
    ComesToWrite (begins trail_3) xs (retry ∷ more) text
replied_writes xs text more is_asked e = record {
  exchange = replied_by xs;
  standing = (then_by xs).standing;
  comes = replied_comes xs is_asked;
  fed = refl;
  given = (more, refl);
  written = (drop (length text) (replied_by xs).text, e);
}

-- ---- the first two halves

pub facts_1 : IsTrailOf trail_1 (far_log true trail_1 1)
unfolding retry trail_1 trail_2 trail_3 journal_of_a journal_of_b unread_of text_of preamble_text segment_crc after_byte shifted shifted_by judge judge_first judge_later judge_epilogue size_of read_preamble bounded_at cookie_at flag_at numbers_at list_at string_at vector_field tail_at head_at socket_at body_of shape_at addresses_at vector_at header_text
facts_1 = record { refused = None; refused_fits = tt; many = refl; rising = (leb-true 0 6 refl, leb-true 6 6 refl); asks = asked; points = points }
  where
    asked : (place : ℕ) → place < length trail_1.judged → IsAsked trail_1 (far_log true trail_1 1) place (runs_on (socket 1) (take (slice_index trail_1.judged_after place) trail_1.entries))
    asked zero below = record { exchange = exchange_by trail_1 (take 377 (of_opener 1)); standing = (course_by trail_1 (take 377 (of_opener 1))).standing; comes = comes_by trail_1 (take 377 (of_opener 1)); fed = refl; given = ([], refl); first = ([], refl) }
    asked (suc place) below = absurd (omega (arith, below))

    points : (n : ℕ) → IsPoint (begins trail_1) (far_log true trail_1 1) (replies_by trail_1 None n) (runs_on (socket 1) (take n trail_1.entries))
    points zero = writes_by trail_1 [] [] (replies_by trail_1 None 0) refl
    points (suc zero) = writes_by trail_1 (take 26 (of_opener 1)) [] (replies_by trail_1 None 1) refl
    points (suc (suc zero)) = writes_by trail_1 (take 26 (of_opener 1)) (take 98 (of_acceptor 1)) (replies_by trail_1 None 2) refl
    points (suc (suc (suc zero))) = writes_by trail_1 (take 150 (of_opener 1)) (take 98 (of_acceptor 1)) (replies_by trail_1 None 3) refl
    points (suc (suc (suc (suc zero)))) = writes_by trail_1 (take 150 (of_opener 1)) (take 218 (of_acceptor 1)) (replies_by trail_1 None 4) refl
    points (suc (suc (suc (suc (suc zero))))) = writes_by trail_1 (take 218 (of_opener 1)) (take 218 (of_acceptor 1)) (replies_by trail_1 None 5) refl
    points (suc (suc (suc (suc (suc (suc zero)))))) = writes_by trail_1 (take 377 (of_opener 1)) (take 218 (of_acceptor 1)) (replies_by trail_1 None 6) refl
    points (suc (suc (suc (suc (suc (suc (suc n))))))) = writes_by trail_1 (take 377 (of_opener 1)) (take 218 (of_acceptor 1)) (replies_by trail_1 None (suc (suc (suc (suc (suc (suc (suc n)))))))) refl

pub taken_1 : IsTakenTrail trail_1 (far_log true trail_1 1)
unfolding retry trail_1 trail_2 trail_3 journal_of_a journal_of_b unread_of text_of preamble_text segment_crc after_byte shifted shifted_by judge judge_first judge_later judge_epilogue size_of read_preamble bounded_at cookie_at flag_at numbers_at list_at string_at vector_field tail_at head_at socket_at body_of shape_at addresses_at vector_at header_text
taken_1 = record {
  half = record {
    exchange = exchange_by trail_1 (take 377 (of_opener 1));
    standing = (course_by trail_1 (take 377 (of_opener 1))).standing;
    comes = comes_by trail_1 (take 377 (of_opener 1));
    got = refl;
    put = refl;
    replies = refl;
    asks = refl;
    stage = refl;
    unread = refl;
  };
  earlier = [];
  last = refl;
}

pub facts_2 : IsTrailOf trail_2 (far_log true trail_2 2)
unfolding retry trail_1 trail_2 trail_3 journal_of_a journal_of_b unread_of text_of preamble_text segment_crc after_byte shifted shifted_by judge judge_first judge_later judge_epilogue size_of read_preamble bounded_at cookie_at flag_at numbers_at list_at string_at vector_field tail_at head_at socket_at body_of shape_at addresses_at vector_at header_text
facts_2 = record { refused = None; refused_fits = tt; many = refl; rising = (leb-true 0 6 refl, leb-true 6 6 refl); asks = asked; points = points }
  where
    asked : (place : ℕ) → place < length trail_2.judged → IsAsked trail_2 (far_log true trail_2 2) place (runs_on (socket 2) (take (slice_index trail_2.judged_after place) trail_2.entries))
    asked zero below = record { exchange = exchange_by trail_2 (take 334 (of_opener 2)); standing = (course_by trail_2 (take 334 (of_opener 2))).standing; comes = comes_by trail_2 (take 334 (of_opener 2)); fed = refl; given = ([], refl); first = ([], refl) }
    asked (suc place) below = absurd (omega (arith, below))

    points : (n : ℕ) → IsPoint (begins trail_2) (far_log true trail_2 2) (replies_by trail_2 None n) (runs_on (socket 2) (take n trail_2.entries))
    points zero = writes_by trail_2 [] [] (replies_by trail_2 None 0) refl
    points (suc zero) = writes_by trail_2 (take 26 (of_opener 2)) [] (replies_by trail_2 None 1) refl
    points (suc (suc zero)) = writes_by trail_2 (take 26 (of_opener 2)) (take 98 (of_acceptor 2)) (replies_by trail_2 None 2) refl
    points (suc (suc (suc zero))) = writes_by trail_2 (take 150 (of_opener 2)) (take 98 (of_acceptor 2)) (replies_by trail_2 None 3) refl
    points (suc (suc (suc (suc zero)))) = writes_by trail_2 (take 150 (of_opener 2)) (take 218 (of_acceptor 2)) (replies_by trail_2 None 4) refl
    points (suc (suc (suc (suc (suc zero))))) = writes_by trail_2 (take 218 (of_opener 2)) (take 218 (of_acceptor 2)) (replies_by trail_2 None 5) refl
    points (suc (suc (suc (suc (suc (suc zero)))))) = writes_by trail_2 (take 334 (of_opener 2)) (take 218 (of_acceptor 2)) (replies_by trail_2 None 6) refl
    points (suc (suc (suc (suc (suc (suc (suc n))))))) = writes_by trail_2 (take 334 (of_opener 2)) (take 218 (of_acceptor 2)) (replies_by trail_2 None (suc (suc (suc (suc (suc (suc (suc n)))))))) refl

pub taken_2 : IsTakenTrail trail_2 (far_log true trail_2 2)
unfolding retry trail_1 trail_2 trail_3 journal_of_a journal_of_b unread_of text_of preamble_text segment_crc after_byte shifted shifted_by judge judge_first judge_later judge_epilogue size_of read_preamble bounded_at cookie_at flag_at numbers_at list_at string_at vector_field tail_at head_at socket_at body_of shape_at addresses_at vector_at header_text
taken_2 = record {
  half = record {
    exchange = exchange_by trail_2 (take 334 (of_opener 2));
    standing = (course_by trail_2 (take 334 (of_opener 2))).standing;
    comes = comes_by trail_2 (take 334 (of_opener 2));
    got = refl;
    put = refl;
    replies = refl;
    asks = refl;
    stage = refl;
    unread = refl;
  };
  earlier = [];
  last = refl;
}

-- ---- the third half, which was asked twice

stands_asked : (course_by trail_3 (take 334 (of_opener 3))).standing.stage ≡ Asked
unfolding retry trail_1 trail_2 trail_3 journal_of_a journal_of_b unread_of text_of preamble_text segment_crc after_byte shifted shifted_by judge judge_first judge_later judge_epilogue size_of read_preamble bounded_at cookie_at flag_at numbers_at list_at string_at vector_field tail_at head_at socket_at body_of shape_at addresses_at vector_at header_text
stands_asked = refl

stands_asked_again : (course_by trail_3 (take 450 (of_opener 3))).standing.stage ≡ Asked
unfolding retry trail_1 trail_2 trail_3 journal_of_a journal_of_b unread_of text_of preamble_text segment_crc after_byte shifted shifted_by judge judge_first judge_later judge_epilogue size_of read_preamble bounded_at cookie_at flag_at numbers_at list_at string_at vector_field tail_at head_at socket_at body_of shape_at addresses_at vector_at header_text
stands_asked_again = refl

abbrev IsAskedAt : ℕ → Type 0
IsAskedAt place = IsAsked trail_3 (far_log false trail_3 3) place (runs_on (socket 3) (take (slice_index trail_3.judged_after place) trail_3.entries))

asked_first : IsAskedAt 0
unfolding retry trail_1 trail_2 trail_3 journal_of_a journal_of_b unread_of text_of preamble_text segment_crc after_byte shifted shifted_by judge judge_first judge_later judge_epilogue size_of read_preamble bounded_at cookie_at flag_at numbers_at list_at string_at vector_field tail_at head_at socket_at body_of shape_at addresses_at vector_at header_text
asked_first = record { exchange = exchange_by trail_3 (take 334 (of_opener 3)); standing = (course_by trail_3 (take 334 (of_opener 3))).standing; comes = comes_by trail_3 (take 334 (of_opener 3)); fed = refl; given = ([], refl); first = ([], refl) }

asked_then : IsAskedAt 1
unfolding retry trail_1 trail_2 trail_3 journal_of_a journal_of_b unread_of text_of preamble_text segment_crc after_byte shifted shifted_by judge judge_first judge_later judge_epilogue size_of read_preamble bounded_at cookie_at flag_at numbers_at list_at string_at vector_field tail_at head_at socket_at body_of shape_at addresses_at vector_at header_text
asked_then = record { exchange = replied_by (take 450 (of_opener 3)); standing = (then_by (take 450 (of_opener 3))).standing; comes = replied_comes (take 450 (of_opener 3)) stands_asked_again; fed = refl; given = ([], refl); first = ([], refl) }

replied_later : (n : ℕ) → replies_by trail_3 None (suc (suc (suc (suc (suc (suc (suc (suc (suc n))))))))) ≡ retry ∷ []
unfolding retry trail_3
replied_later n =
    let six : nat_lt 6 (suc (suc (suc (suc (suc (suc (suc (suc (suc n))))))))) ≡ true = lt-ltb 6 (suc (suc (suc (suc (suc (suc (suc (suc (suc n))))))))) (omega arith) in
    let eight : nat_lt 8 (suc (suc (suc (suc (suc (suc (suc (suc (suc n))))))))) ≡ true = lt-ltb 8 (suc (suc (suc (suc (suc (suc (suc (suc (suc n))))))))) (omega arith) in
    ap (λ b. first_replies of_third (if b then suc (if nat_lt 8 (suc (suc (suc (suc (suc (suc (suc (suc (suc n))))))))) then 1 else 0) else 0) None) six ∙ ap (λ b. first_replies of_third (suc (if b then 1 else 0)) None) eight

abbrev IsPointAt : ℕ → Type 0
IsPointAt n = IsPoint (begins trail_3) (far_log false trail_3 3) (replies_by trail_3 None n) (runs_on (socket 3) (take n trail_3.entries))

point_0 : IsPointAt 0
unfolding retry trail_1 trail_2 trail_3 journal_of_a journal_of_b unread_of text_of preamble_text segment_crc after_byte shifted shifted_by judge judge_first judge_later judge_epilogue size_of read_preamble bounded_at cookie_at flag_at numbers_at list_at string_at vector_field tail_at head_at socket_at body_of shape_at addresses_at vector_at header_text
point_0 = writes_by trail_3 [] [] (replies_by trail_3 None 0) refl

point_1 : IsPointAt 1
unfolding retry trail_1 trail_2 trail_3 journal_of_a journal_of_b unread_of text_of preamble_text segment_crc after_byte shifted shifted_by judge judge_first judge_later judge_epilogue size_of read_preamble bounded_at cookie_at flag_at numbers_at list_at string_at vector_field tail_at head_at socket_at body_of shape_at addresses_at vector_at header_text
point_1 = writes_by trail_3 (take 26 (of_opener 3)) [] (replies_by trail_3 None 1) refl

point_2 : IsPointAt 2
unfolding retry trail_1 trail_2 trail_3 journal_of_a journal_of_b unread_of text_of preamble_text segment_crc after_byte shifted shifted_by judge judge_first judge_later judge_epilogue size_of read_preamble bounded_at cookie_at flag_at numbers_at list_at string_at vector_field tail_at head_at socket_at body_of shape_at addresses_at vector_at header_text
point_2 = writes_by trail_3 (take 26 (of_opener 3)) (take 98 (of_acceptor 3)) (replies_by trail_3 None 2) refl

point_3 : IsPointAt 3
unfolding retry trail_1 trail_2 trail_3 journal_of_a journal_of_b unread_of text_of preamble_text segment_crc after_byte shifted shifted_by judge judge_first judge_later judge_epilogue size_of read_preamble bounded_at cookie_at flag_at numbers_at list_at string_at vector_field tail_at head_at socket_at body_of shape_at addresses_at vector_at header_text
point_3 = writes_by trail_3 (take 150 (of_opener 3)) (take 98 (of_acceptor 3)) (replies_by trail_3 None 3) refl

point_4 : IsPointAt 4
unfolding retry trail_1 trail_2 trail_3 journal_of_a journal_of_b unread_of text_of preamble_text segment_crc after_byte shifted shifted_by judge judge_first judge_later judge_epilogue size_of read_preamble bounded_at cookie_at flag_at numbers_at list_at string_at vector_field tail_at head_at socket_at body_of shape_at addresses_at vector_at header_text
point_4 = writes_by trail_3 (take 150 (of_opener 3)) (take 218 (of_acceptor 3)) (replies_by trail_3 None 4) refl

point_5 : IsPointAt 5
unfolding retry trail_1 trail_2 trail_3 journal_of_a journal_of_b unread_of text_of preamble_text segment_crc after_byte shifted shifted_by judge judge_first judge_later judge_epilogue size_of read_preamble bounded_at cookie_at flag_at numbers_at list_at string_at vector_field tail_at head_at socket_at body_of shape_at addresses_at vector_at header_text
point_5 = writes_by trail_3 (take 218 (of_opener 3)) (take 218 (of_acceptor 3)) (replies_by trail_3 None 5) refl

point_6 : IsPointAt 6
unfolding retry trail_1 trail_2 trail_3 journal_of_a journal_of_b unread_of text_of preamble_text segment_crc after_byte shifted shifted_by judge judge_first judge_later judge_epilogue size_of read_preamble bounded_at cookie_at flag_at numbers_at list_at string_at vector_field tail_at head_at socket_at body_of shape_at addresses_at vector_at header_text
point_6 = writes_by trail_3 (take 334 (of_opener 3)) (take 218 (of_acceptor 3)) (replies_by trail_3 None 6) refl

point_7 : IsPointAt 7
unfolding retry trail_1 trail_2 trail_3 journal_of_a journal_of_b unread_of text_of preamble_text segment_crc after_byte shifted shifted_by judge judge_first judge_later judge_epilogue size_of read_preamble bounded_at cookie_at flag_at numbers_at list_at string_at vector_field tail_at head_at socket_at body_of shape_at addresses_at vector_at header_text
point_7 = replied_writes (take 334 (of_opener 3)) (take 262 (of_acceptor 3)) [] stands_asked refl

all_written : (replied_by (take 450 (of_opener 3))).text ≡ take 262 (of_acceptor 3) ++ drop (length (take 262 (of_acceptor 3))) (replied_by (take 450 (of_opener 3))).text
unfolding retry trail_1 trail_2 trail_3 journal_of_a journal_of_b unread_of text_of preamble_text segment_crc after_byte shifted shifted_by judge judge_first judge_later judge_epilogue size_of read_preamble bounded_at cookie_at flag_at numbers_at list_at string_at vector_field tail_at head_at socket_at body_of shape_at addresses_at vector_at header_text
all_written = refl

point_8 : IsPointAt 8
unfolding retry trail_1 trail_2 trail_3 journal_of_a journal_of_b unread_of text_of preamble_text segment_crc after_byte shifted shifted_by judge judge_first judge_later judge_epilogue size_of read_preamble bounded_at cookie_at flag_at numbers_at list_at string_at vector_field tail_at head_at socket_at body_of shape_at addresses_at vector_at header_text
point_8 = replied_writes (take 450 (of_opener 3)) (take 262 (of_acceptor 3)) [] stands_asked_again all_written

point_later : (n : ℕ) → IsPointAt (suc (suc (suc (suc (suc (suc (suc (suc (suc n)))))))))
unfolding retry trail_1 trail_2 trail_3 journal_of_a journal_of_b unread_of text_of preamble_text segment_crc after_byte shifted shifted_by judge judge_first judge_later judge_epilogue size_of read_preamble bounded_at cookie_at flag_at numbers_at list_at string_at vector_field tail_at head_at socket_at body_of shape_at addresses_at vector_at header_text
point_later n = subst (λ rs. ComesToWrite (begins trail_3) (take 450 (of_opener 3)) rs (take 262 (of_acceptor 3))) (sym (replied_later n)) (replied_writes (take 450 (of_opener 3)) (take 262 (of_acceptor 3)) [] stands_asked_again all_written)

pub facts_3 : IsTrailOf trail_3 (far_log false trail_3 3)
unfolding trail_3
facts_3 = record { refused = None; refused_fits = tt; many = refl; rising = (leb-true 0 6 refl, (leb-true 6 8 refl, leb-true 8 8 refl)); asks = asked; points = points }
  where
    asked : (place : ℕ) → place < length trail_3.judged → IsAskedAt place
    asked zero below = asked_first
    asked (suc zero) below = asked_then
    asked (suc (suc place)) below = absurd (omega (arith, below))

    points : (n : ℕ) → IsPointAt n
    points zero = point_0
    points (suc zero) = point_1
    points (suc (suc zero)) = point_2
    points (suc (suc (suc zero))) = point_3
    points (suc (suc (suc (suc zero)))) = point_4
    points (suc (suc (suc (suc (suc zero))))) = point_5
    points (suc (suc (suc (suc (suc (suc zero)))))) = point_6
    points (suc (suc (suc (suc (suc (suc (suc zero))))))) = point_7
    points (suc (suc (suc (suc (suc (suc (suc (suc zero)))))))) = point_8
    points (suc (suc (suc (suc (suc (suc (suc (suc (suc n))))))))) = point_later n

pub taken_3 : IsTakenTrail trail_3 (far_log false trail_3 3)
unfolding retry trail_1 trail_2 trail_3 journal_of_a journal_of_b unread_of text_of preamble_text segment_crc after_byte shifted shifted_by judge judge_first judge_later judge_epilogue size_of read_preamble bounded_at cookie_at flag_at numbers_at list_at string_at vector_field tail_at head_at socket_at body_of shape_at addresses_at vector_at header_text
taken_3 = record {
  half = record {
    exchange = replied_by (take 450 (of_opener 3));
    standing = (then_by (take 450 (of_opener 3))).standing;
    comes = replied_comes (take 450 (of_opener 3)) stands_asked_again;
    got = refl;
    put = refl;
    replies = refl;
    asks = refl;
    stage = refl;
    unread = refl;
  };
  earlier = 6 ∷ [];
  last = refl;
}
