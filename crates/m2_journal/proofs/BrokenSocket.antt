-- A run, computed: the socket breaks in the middle of a message, and on the next one the message comes once.
use Rattle.std.specs.Prelude.{◌≡◌, true, false, List, [], ◌∷◌, refl, Some}
use Rattle.m2_message.specs.m2_crc.Crc.{after_byte, shifted, shifted_by}
use Rattle.m2_message.specs.m2_frame.Reading.{judge, judge_first, judge_later, judge_epilogue, size_of}
use Rattle.m2_message.specs.m2_frame.Preamble.{read_preamble, preamble_text}
use Rattle.m2_message.specs.m2_frame.Text.{segment_crc, text_of}
use Rattle.m2_handshake.specs.m2_control.Fields.{bounded_at, cookie_at, flag_at, numbers_at, list_at, string_at, vector_field}
use Rattle.m2_handshake.specs.m2_control.Ident.{tail_at}
use Rattle.m2_policy.specs.m2_addr.Addr.{head_at, socket_at, body_of, shape_at}
use Rattle.m2_policy.specs.m2_addr.Vector.{addresses_at, vector_at}
use Rattle.m2_message.specs.Message.{with_numbers}
use Rattle.m2_message.specs.HeaderText.{header_text}
use Rattle.m2_session.specs.declared.answer.Answer.TheVariants.{Accept, Resume}
use Rattle.m2_session.specs.declared.session.Phase.TheVariants.{Connecting, Ready, Standby, Wait}
use Rattle.m2_session.specs.declared.ask.AskFacts.{AskFacts}
use Rattle.m2_journal.specs.declared.entry.JudgedItem.{JudgedItem}
use Rattle.m2_handshake.specs.m2_control.declared.fields.TheConstants.{GREATEST_NUMBER}
use Rattle.m2_journal.specs.SideFacts.{absent, cookie_of}
use Rattle.m2_journal.specs.Items.{opened, judged, asked, numbered, accepted, closed}
use Rattle.m2_journal.specs.Replay.{AreLawful}
use Rattle.m2_journal.specs.Lawful.{IsReadable}
use Rattle.std.proofs.Common.{inl}
use Rattle.std.proofs.lemmas.Bool.{leb-true}
use Rattle.m2_journal.specs.State.{State, start, letter}
use Rattle.m2_journal.proofs.OneMessage.{established, first_ask, can_be_read, key}
use Rattle.m2_journal.specs.OutFrames.{ident, server_ident, message}
use Rattle.m2_queues.specs.QueueLaws.{History}
use Rattle.m2_journal.proofs.Written.{not_zero, same_state, is_new, holds, fails, same, unopened, all_put}
use Rattle.m2_journal.proofs.Pair.{World, before_all, a_does, b_does, a_writes, b_writes, a_reads, b_reads, half_goes_on, shakes_hands, socket, hello_message, facts_of_a, facts_of_b}
use Rattle.m2_bytes.proofs.m2_lemmas.Booleans.{false_isnt_true}

-- ---- the socket breaks after twenty bytes of the message

abbrev broken : World
broken =
    b_does (closed (socket 1) true) (a_does (closed (socket 1) true)
    (b_reads 1 1000 (a_writes 1 20 (a_does (numbered 1) established))))

-- ---- where both stand when it breaks

abbrev kept_of_a : History
kept_of_a = record {
  queue = record { keeps = true; base = 0; written = 1; cursor = 0; kept = hello_message ∷ []; waiting = [] };
  posted = hello_message ∷ [];
  dropped = [];
  numbered = hello_message ∷ [];
}

abbrev a_broken : State
a_broken = record (start facts_of_a) {
  session = record (absent facts_of_a) { phase = Wait; client_cookie = cookie_of facts_of_a 1; server_cookie = cookie_of facts_of_b 1; peer_global = 1; lost_ready = true };
  out = kept_of_a;
  life = cookie_of facts_of_b 1;
  steps = 1;
  top = 1;
  opened = socket 1 ∷ [];
  sent = record { socket = socket 1; frame = ident (cookie_of facts_of_a 1) 1 } ∷ record { socket = socket 1; frame = message 1 0 hello_message } ∷ [];
}

abbrev b_broken : State
b_broken = record (start facts_of_b) {
  session = record (absent facts_of_b) { phase = Standby; client_cookie = cookie_of facts_of_a 1; server_cookie = cookie_of facts_of_b 1; peer_global = 1; lost_ready = true };
  life = cookie_of facts_of_b 1;
  top = 1;
  judgements = record { socket = socket 1; item = record { ask = first_ask; answer = Accept } } ∷ [];
  sent = record { socket = socket 1; frame = server_ident (cookie_of facts_of_b 1) 1 } ∷ [];
}

a_session : broken.a.session ≡ a_broken.session
unfolding text_of preamble_text segment_crc after_byte shifted shifted_by judge judge_first judge_later judge_epilogue size_of read_preamble bounded_at cookie_at flag_at numbers_at list_at string_at vector_field tail_at head_at socket_at body_of shape_at addresses_at vector_at header_text
a_session = refl

a_out : broken.a.out ≡ a_broken.out
unfolding text_of preamble_text segment_crc after_byte shifted shifted_by judge judge_first judge_later judge_epilogue size_of read_preamble bounded_at cookie_at flag_at numbers_at list_at string_at vector_field tail_at head_at socket_at body_of shape_at addresses_at vector_at header_text
a_out = refl

a_last : (broken.a.last ≡ a_broken.last) × (broken.a.life ≡ a_broken.life) × (broken.a.owes ≡ a_broken.owes) × (broken.a.steps ≡ a_broken.steps) × (broken.a.dials ≡ a_broken.dials) × (broken.a.top ≡ a_broken.top)
unfolding text_of preamble_text segment_crc after_byte shifted shifted_by judge judge_first judge_later judge_epilogue size_of read_preamble bounded_at cookie_at flag_at numbers_at list_at string_at vector_field tail_at head_at socket_at body_of shape_at addresses_at vector_at header_text
a_last = (refl, refl, refl, refl, refl, refl)

a_opened : (broken.a.opened ≡ a_broken.opened) × (broken.a.judgements ≡ a_broken.judgements) × (broken.a.feed ≡ a_broken.feed) × (broken.a.spent ≡ a_broken.spent) × (broken.a.deliveries ≡ a_broken.deliveries)
unfolding text_of preamble_text segment_crc after_byte shifted shifted_by judge judge_first judge_later judge_epilogue size_of read_preamble bounded_at cookie_at flag_at numbers_at list_at string_at vector_field tail_at head_at socket_at body_of shape_at addresses_at vector_at header_text
a_opened = (refl, refl, refl, refl, refl)

a_sent : broken.a.sent ≡ a_broken.sent
unfolding text_of preamble_text segment_crc after_byte shifted shifted_by judge judge_first judge_later judge_epilogue size_of read_preamble bounded_at cookie_at flag_at numbers_at list_at string_at vector_field tail_at head_at socket_at body_of shape_at addresses_at vector_at header_text
a_sent = refl

a_then : broken.a ≡ a_broken
a_then = same_state broken.a a_broken a_session a_out a_last.0 a_last.1 a_last.2 a_last.3 a_last.4 a_last.5 a_opened.0 a_opened.1 a_opened.2 a_opened.3 a_sent a_opened.4

b_then : broken.b ≡ b_broken
unfolding text_of preamble_text segment_crc after_byte shifted shifted_by judge judge_first judge_later judge_epilogue size_of read_preamble bounded_at cookie_at flag_at numbers_at list_at string_at vector_field tail_at head_at socket_at body_of shape_at addresses_at vector_at header_text
b_then = refl

lawful_until_then_at_b : AreLawful facts_of_b broken.of_b (start facts_of_b)
unfolding text_of preamble_text segment_crc after_byte shifted shifted_by judge judge_first judge_later judge_epilogue size_of read_preamble bounded_at cookie_at flag_at numbers_at list_at string_at vector_field tail_at head_at socket_at body_of shape_at addresses_at vector_at header_text
lawful_until_then_at_b = (
  record { unused = is_new _ _ refl refl; readable = can_be_read; by_the_tables = refl; not_opened = fails; asks_again = tt; of_trail = refl },
  (
    (holds, record { some = holds; text = holds }),
    (
      (holds, holds),
      (
        inl (holds, holds),
        tt,
      ),
    ),
  ),
)

lawful_until_then_at_a : AreLawful facts_of_a broken.of_a (start facts_of_a)
unfolding text_of preamble_text segment_crc after_byte shifted shifted_by judge judge_first judge_later judge_epilogue size_of read_preamble bounded_at cookie_at flag_at numbers_at list_at string_at vector_field tail_at head_at socket_at body_of shape_at addresses_at vector_at header_text
lawful_until_then_at_a = (
  (refl, tt),
  (
    record { due = holds; leads = holds; not_opened = fails; not_judged = fails; fits = leb-true 0 GREATEST_NUMBER holds },
    (
      (holds, record { some = holds; text = holds }),
      (
        (holds, holds),
        (
          (holds, record { some = holds; text = holds }),
          (
            (holds, holds),
            (
              (holds, record { some = holds; text = holds }),
              (
                record { phase = same Connecting; signed = unopened; heard_nothing = same 0; put = all_put; of_kind = same true; fits = leb-true 0 GREATEST_NUMBER holds; unused = is_new _ _ holds holds },
                (
                  (holds, record { some = holds; text = holds }),
                  (
                    (holds, holds),
                    (
                      record { phase = same Ready; put = all_put; next = same (Some 1); fits = leb-true 1 GREATEST_NUMBER holds },
                      (
                        (holds, record { some = holds; text = holds }),
                        (
                          inl (holds, holds),
                          tt,
                        ),
                      ),
                    ),
                  ),
                ),
              ),
            ),
          ),
        ),
      ),
    ),
  ),
)

-- ---- the other socket

abbrev at_the_break : World
at_the_break = record before_all { a = a_broken; b = b_broken }

abbrev second_ask : AskFacts
second_ask = record { ident = false; client = cookie_of facts_of_a 1; server = cookie_of facts_of_b 1; global = 2; connect = 1; seen = 0 }

can_be_read_again : IsReadable facts_of_b second_ask
can_be_read_again = record {
  global = leb-true 2 GREATEST_NUMBER holds;
  connect = leb-true 1 GREATEST_NUMBER holds;
  seen = leb-true 0 GREATEST_NUMBER holds;
  ident = λ e. absurd (false_isnt_true e);
  reconnect = λ e. (not_zero (cookie_of facts_of_a 1) refl, not_zero (cookie_of facts_of_b 1) refl);
}

abbrev of_second : List JudgedItem
of_second = record { ask = second_ask; answer = Resume } ∷ []

abbrev resumed : World
resumed =
    a_reads 2 1000 (b_writes 2 1000 (b_does (judged (socket 2) second_ask 2 Resume [] of_second)
    (half_goes_on (a_writes 2 1000 (a_does (asked false 2) (shakes_hands 2 (a_does (opened (socket 2)) at_the_break)))))))

abbrev again : World
again = b_does (accepted 1 key) (b_reads 2 1000 (a_writes 2 1000 (a_does (numbered 1) resumed)))

once : (again.b.deliveries ≡ letter 1 (cookie_of facts_of_b 1) key (with_numbers 1 0 hello_message) ∷ []) × (again.a.session.phase ≡ Ready) × (again.b.last ≡ 1)
unfolding text_of preamble_text segment_crc after_byte shifted shifted_by judge judge_first judge_later judge_epilogue size_of read_preamble bounded_at cookie_at flag_at numbers_at list_at string_at vector_field tail_at head_at socket_at body_of shape_at addresses_at vector_at header_text
once = (refl, refl, refl)

lawful_again_at_b : AreLawful facts_of_b again.of_b b_broken
unfolding text_of preamble_text segment_crc after_byte shifted shifted_by judge judge_first judge_later judge_epilogue size_of read_preamble bounded_at cookie_at flag_at numbers_at list_at string_at vector_field tail_at head_at socket_at body_of shape_at addresses_at vector_at header_text
lawful_again_at_b = (
  record { unused = is_new _ _ refl refl; readable = can_be_read_again; by_the_tables = refl; not_opened = fails; asks_again = tt; of_trail = refl },
  (
    (holds, record { some = holds; text = holds }),
    (
      (holds, holds),
      (
        record { phase = refl; next = (refl, refl, refl) },
        tt,
      ),
    ),
  ),
)

lawful_again_at_a : AreLawful facts_of_a again.of_a a_broken
unfolding text_of preamble_text segment_crc after_byte shifted shifted_by judge judge_first judge_later judge_epilogue size_of read_preamble bounded_at cookie_at flag_at numbers_at list_at string_at vector_field tail_at head_at socket_at body_of shape_at addresses_at vector_at header_text
lawful_again_at_a = (
  record { due = holds; leads = holds; not_opened = fails; not_judged = fails; fits = leb-true 1 GREATEST_NUMBER holds },
  (
    (holds, record { some = holds; text = holds }),
    (
      (holds, holds),
      (
        (holds, record { some = holds; text = holds }),
        (
          (holds, holds),
          (
            (holds, record { some = holds; text = holds }),
            (
              record { phase = same Connecting; signed = unopened; heard_nothing = same 0; put = all_put; of_kind = same false; fits = leb-true 1 GREATEST_NUMBER holds; unused = is_new _ _ holds holds },
              (
                (holds, record { some = holds; text = holds }),
                (
                  (holds, holds),
                  (
                    record { phase = same Ready; put = all_put; next = same (Some 1); fits = leb-true 1 GREATEST_NUMBER holds },
                    (
                      (holds, record { some = holds; text = holds }),
                      tt,
                    ),
                  ),
                ),
              ),
            ),
          ),
        ),
      ),
    ),
  ),
)
