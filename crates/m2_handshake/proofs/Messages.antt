-- A MESSAGE is refused at its preamble, so a half that waits keeps little.
use Rattle.std.proofs.Common.{◌≡◌, ℕ, ◌+◌, ◌≤◌, ◌<◌, ◌==◌, ◌⊎◌, inl, inr, Bool, true, false, if◌then◌else◌, ltb, List, ◌++◌, length, take, drop, Option, Some, None, Result, Ok, Err, refl, sym, ap, ◌∙◌, arith, length-drop}
use Rattle.std.proofs.lemmas.Bool.{cases_lt, cond-false, le-ltb}
use Rattle.std.proofs.lemmas.List.{length-append, length-take-le, take_at}
use Rattle.m2_frame.specs.declared.encoding.TheConstants.{CRC_BYTES}
use Rattle.m2_frame.specs.declared.epilogue.Late.TheVariants.{Complete}
use Rattle.m2_frame.specs.declared.fault.FrameFault.{FrameFault}
use Rattle.m2_frame.specs.declared.fault.FrameFault.TheVariants.{BadSegmentCrc}
use Rattle.m2_frame.specs.declared.frame.TheConstants.{CONTROL_LIMIT, MESSAGE_LIMIT, MOST_SEGMENTS}
use Rattle.m2_frame.specs.declared.preamble.Preamble.{Preamble}
use Rattle.m2_frame.specs.declared.preamble.TheConstants.{PREAMBLE_BYTES}
use Rattle.m2_frame.specs.Frame.{Parts, message_tag, most_segments, segment_limit}
use Rattle.m2_frame.specs.Judging.{BeginsWith, first_part, later_part}
use Rattle.m2_frame.specs.Preamble.{IsPreamble, read_preamble}
use Rattle.m2_frame.specs.Reading.{Front, whole, dropped, start, bad, text, asked_by, first_is_right, first_len, frame_in, judge, judge_body, judge_epilogue, later_len, size_in, size_of, text_len}
use Rattle.m2_frame.proofs.Cutting.{start_isnt_bad, start_isnt_text}
use Rattle.m2_frame.proofs.Judge.{ends_whole, judge-whole, opens_right, opens_wrong, size_of-begins}
use Rattle.m2_frame.proofs.Preambles.{IsAllowed, preamble_text-read}
use Rattle.m2_handshake.specs.declared.fault.HalfFault.{HalfFault}
use Rattle.m2_handshake.specs.declared.fault.HalfFault.TheVariants as fault
use Rattle.m2_handshake.specs.declared.stage.HalfSide.{HalfSide}
use Rattle.m2_handshake.specs.declared.stage.HalfSide.TheVariants.{Opener, Acceptor}
use Rattle.m2_handshake.specs.declared.stage.Stage.{Stage}
use Rattle.m2_handshake.specs.declared.stage.Stage.TheVariants.{Opening, Banner, Waits, Authed, Asked, Ended, Faulty}
use Rattle.m2_handshake.specs.Course.{signed_move, course_move_at, course_move}
use Rattle.m2_handshake.specs.Laws.{KeepsLittle, RefusesMessages}
use Rattle.m2_handshake.specs.Moves.{stays, fails, take_frame, answer_held, read_held, refuse_held}
use Rattle.m2_handshake.specs.Reading.{Found, begun, refused, framed, found_by, found_in}
use Rattle.m2_handshake.specs.Standing.{Standing, awaits_at, awaits_frame}
use Rattle.m2_handshake.proofs.Faults.{same_fault}
use Rattle.m2_handshake.proofs.Leading.{either, true_isnt_false}
use Rattle.m2_handshake.proofs.Sizes.{begun_from, begun_isnt_refused, dropped_asks, message_asks, refused_isnt_framed}
use Rattle.m2_bytes.proofs.m2_lemmas.Options.{some_isnt_none}

begins_so : (rest bytes more : List ℕ) (p : Preamble) → IsPreamble bytes p → rest ≡ bytes ++ more → BeginsWith rest p
begins_so rest bytes more p i e = record {
  there = omega (arith, ap length e, length-append bytes more, i.0);
  read = ap (λ (l : List ℕ). read_preamble (take PREAMBLE_BYTES l)) e ∙ ap read_preamble (take_at bytes more PREAMBLE_BYTES i.0) ∙ i.1;
}

refused_so : (rest bytes more : List ℕ) (p : Preamble) → IsPreamble bytes p → p.tag ≡ message_tag → rest ≡ bytes ++ more → found_in rest ≡ refused (fault.Unexpected message_tag)
refused_so rest bytes more p i t e =
    let asks : size_of rest ≡ Some (asked_by p) = size_of-begins rest p (begins_so rest bytes more p i e) ∙ message_asks p t in
    ap (λ (size : Option ℕ). found_by size (judge rest)) asks

-- a half that reads a frame next does what is found
moves_at : (held : Option Parts) (stage : Stage) (side : HalfSide) (s : Standing) → s.held ≡ held → s.side ≡ side → awaits_at held stage side ≡ true →
    course_move_at stage s ≡ take_frame s (found_in s.rest)
moves_at None (Waits awaited) side s h d a = ap (answer_held s awaited) h
moves_at None Authed Acceptor s h d a = ap (λ (x : HalfSide). signed_move x (read_held s s.held)) d ∙ ap (read_held s) h
moves_at None Ended Acceptor s h d a = ap (λ (x : HalfSide). signed_move x (refuse_held s s.held)) d ∙ ap (refuse_held s) h
moves_at None Authed Opener s h d a = absurd (true_isnt_false (sym a))
moves_at None Ended Opener s h d a = absurd (true_isnt_false (sym a))
moves_at None Opening side s h d a = absurd (true_isnt_false (sym a))
moves_at None Banner side s h d a = absurd (true_isnt_false (sym a))
moves_at None Asked side s h d a = absurd (true_isnt_false (sym a))
moves_at None (Faulty g) side s h d a = absurd (true_isnt_false (sym a))
moves_at (Some g) stage side s h d a = absurd (true_isnt_false (sym a))

moves_so : (s : Standing) → awaits_frame s ≡ true → course_move s ≡ take_frame s (found_in s.rest)
moves_so s a = moves_at s.held s.stage s.side s refl refl a

-- and what is found is Unexpected for a MESSAGE alone
taken_refused : (s : Standing) (found : Found) (f : HalfFault) → take_frame s found ≡ fails f → found ≡ refused f
taken_refused s begun f e = absurd cc
taken_refused s (refused g) f e = ap refused (same_fault f g e)
taken_refused s (framed g n) f e = absurd cc

same_tag : (a b : ℕ) → refused (fault.Unexpected a) ≡ refused (fault.Unexpected b) → b ≡ a
same_tag a b e = cc

frame_isnt_unexpected : (f : FrameFault) (tag : ℕ) → refused (fault.Frame f) ≡ refused (fault.Unexpected tag) → ⊥
frame_isnt_unexpected f tag e = cc

unexpected_from : (rest : List ℕ) (size : Option ℕ) (front : Front) (tag : ℕ) → size_of rest ≡ size → judge rest ≡ front → found_by size front ≡ refused (fault.Unexpected tag) →
    (tag ≡ message_tag) × (n : ℕ) × (size_of rest ≡ Some n)
unexpected_from rest (Some n) front tag s j e = (same_tag message_tag tag e, n, s)
unexpected_from rest None start tag s j e = absurd (begun_isnt_refused (fault.Unexpected tag) e)
unexpected_from rest None (bad f) tag s j e = absurd (frame_isnt_unexpected f tag e)
unexpected_from rest None (text (dropped t) n) tag s j e =
    let asked = dropped_asks rest t n j in
    absurd (some_isnt_none asked.0 (sym asked.1 ∙ s))
unexpected_from rest None (text (whole f) n) tag s j e = absurd (refused_isnt_framed (fault.Unexpected tag) f n (sym e))

pub messages_refused : RefusesMessages
messages_refused = record {
  there = λ s bytes more p a i t e. moves_so s a ∙ ap (take_frame s) (refused_so s.rest bytes more p i t e);
  only = λ s tag a m.
      unexpected_from s.rest (size_of s.rest) (judge s.rest) tag refl refl (taken_refused s (found_in s.rest) (fault.Unexpected tag) (sym (moves_so s a) ∙ m));
}

-- ---- how long the start of a control frame is

first_few : (p : Preamble) → first_len p ≤ p.first + CRC_BYTES
first_few p = either (λ (n : ℕ). n ≤ p.first + CRC_BYTES) (p.first == 0) 0 (p.first + CRC_BYTES) (omega arith) (omega arith)

few_begun : (rest : List ℕ) (p : Preamble) → BeginsWith rest p → IsAllowed p → size_in p ≡ None → judge rest ≡ start → length rest < PREAMBLE_BYTES + CONTROL_LIMIT + CRC_BYTES
few_begun rest p b a none j = by_tag (p.tag == message_tag) refl none
  where
    by_right : (r : Bool) → first_is_right p (first_part p rest) ≡ r → p.count ≤ 1 → first_len p ≤ length (drop 32 rest) → length rest < PREAMBLE_BYTES + CONTROL_LIMIT + CRC_BYTES
    by_right false q one long = absurd (start_isnt_bad (BadSegmentCrc 0) (sym j ∙ opens_wrong rest p b long q))
    by_right true q one long =
        let alone : later_len p ≡ 0 = cond-false (ltb 1 p.count) (p.second + p.third + p.fourth + 13) 0 (le-ltb 1 p.count one) in
        let end = sym (cond-false (ltb 1 p.count) (judge_epilogue p (later_part p rest)) (Ok Complete) (le-ltb 1 p.count one)) in
        let there = ends_whole rest p (Ok Complete) (opens_right rest p b long q) (omega (arith, alone)) end in
        absurd (start_isnt_text (whole (frame_in p (first_part p rest) (later_part p rest))) (text_len p) (sym j ∙ there.1))

    by_first : (length (drop 32 rest) < first_len p) ⊎ (first_len p ≤ length (drop 32 rest)) → p.count ≤ 1 → p.first ≤ CONTROL_LIMIT →
        length rest < PREAMBLE_BYTES + CONTROL_LIMIT + CRC_BYTES
    by_first (inl short) one few = omega (arith, short, length-drop 32 rest, b.there, first_few p, few)
    by_first (inr long) one few = by_right (first_is_right p (first_part p rest)) refl one long

    by_tag : (m : Bool) → (p.tag == message_tag) ≡ m → (if m then Some (asked_by p) else None) ≡ None → length rest < PREAMBLE_BYTES + CONTROL_LIMIT + CRC_BYTES
    by_tag true q e = absurd (some_isnt_none (asked_by p) e)
    by_tag false q e =
        let most : most_segments p.tag ≡ 1 = ap (λ (m : Bool). if m then MOST_SEGMENTS else 1) q in
        let limit : segment_limit p.tag ≡ CONTROL_LIMIT = ap (λ (m : Bool). if m then MESSAGE_LIMIT else CONTROL_LIMIT) q in
        by_first (cases_lt (length (drop 32 rest)) (first_len p)) (omega (arith, most, a.segments)) (omega (arith, limit, a.first))

few_unread : (rest : List ℕ) → size_of rest ≡ None → judge rest ≡ start → length rest < PREAMBLE_BYTES + CONTROL_LIMIT + CRC_BYTES
few_unread rest none j = by_length (cases_lt (length rest) 32)
  where
    read : 32 ≤ length rest → (r : Result Preamble FrameFault) → read_preamble (take 32 rest) ≡ r → length rest < PREAMBLE_BYTES + CONTROL_LIMIT + CRC_BYTES
    read long (Err f) q = absurd (start_isnt_bad f (sym j ∙ judge-whole rest long ∙ ap (λ (r : Result Preamble FrameFault). judge_body r (drop 32 rest)) q))
    read long (Ok p) q =
        let b : BeginsWith rest p = record { there = long; read = q } in
        few_begun rest p b (preamble_text-read p (take 32 rest) (length-take-le 32 rest long) q).1 (sym (size_of-begins rest p b) ∙ none) j

    by_length : (length rest < 32) ⊎ (32 ≤ length rest) → length rest < PREAMBLE_BYTES + CONTROL_LIMIT + CRC_BYTES
    by_length (inl short) = omega (arith, short)
    by_length (inr long) = read long (read_preamble (take 32 rest)) refl

taken_begun : (s : Standing) (found : Found) → take_frame s found ≡ stays → found ≡ begun
taken_begun s begun e = refl
taken_begun s (refused f) e = absurd cc
taken_begun s (framed f n) e = absurd cc

pub little_kept : KeepsLittle
little_kept s a m =
    let two = begun_from (size_of s.rest) (judge s.rest) (taken_begun s (found_in s.rest) (sym (moves_so s a) ∙ m)) in
    few_unread s.rest two.0 two.1
