-- Two records, driven by hand: a socket breaks while a message is on it, the next one breaks before its opener knows that the session went
-- on, and then both sides connect at once.
use Rattle.std.specs.Prelude.{◌≡◌, ℕ, nat_le, true, false, List, [], ◌∷◌, ◌++◌, refl, Some, None}
use Rattle.std.proofs.Common.{inl, inr, sym, subst}
use Rattle.std.proofs.lemmas.Bool.{ltb-true, leb-true}
use Rattle.m2_message.specs.m2_crc.Crc.{after_byte, shifted, shifted_by}
use Rattle.m2_message.specs.m2_frame.Reading.{judge, judge_first, judge_later, judge_epilogue, size_of}
use Rattle.m2_message.specs.m2_frame.Preamble.{read_preamble, preamble_text}
use Rattle.m2_message.specs.m2_frame.Text.{segment_crc, text_of}
use Rattle.m2_journal.specs.m2_control.Fields.{bounded_at, cookie_at, flag_at, numbers_at, list_at, string_at, vector_field}
use Rattle.m2_journal.specs.m2_control.Ident.{tail_at}
use Rattle.m2_policy.specs.m2_addr.Addr.{head_at, socket_at, body_of, shape_at}
use Rattle.m2_policy.specs.m2_addr.Vector.{addresses_at, vector_at}
use Rattle.m2_message.specs.HeaderText.{header_text}
use Rattle.m2_fabric.specs.declared.socket.SocketId.{SocketId}
use Rattle.m2_policy.specs.m2_addr.declared.addr.Addr.{Addr}
use Rattle.m2_journal.specs.m2_control.declared.control.Control.{Control}
use Rattle.m2_journal.specs.m2_control.declared.control.Control.TheVariants as control
use Rattle.m2_journal.specs.m2_control.declared.fields.TheConstants.{GREATEST_NUMBER}
use Rattle.m2_journal.specs.m2_handshake.Course.{answered}
use Rattle.m2_journal.specs.m2_handshake.Standing.{Standing, acceptor_at_start}
use Rattle.m2_journal.specs.m2_handshake.declared.stage.Stage.TheVariants.{Authed}
use Rattle.m2_journal.specs.Feeds.{opened_feed}
use Rattle.m2_journal.specs.m2_handshake.Texts.{frame_text}
use Rattle.m2_journal.specs.m2_session.declared.answer.Answer.TheVariants.{Accept, Resume, Retry}
use Rattle.m2_journal.specs.m2_session.declared.ask.AskFacts.{AskFacts}
use Rattle.m2_journal.specs.m2_session.declared.session.Phase.TheVariants.{Connecting, Ready, Standby, Wait}
use Rattle.m2_journal.specs.declared.entry.JudgedItem.{JudgedItem}
use Rattle.m2_journal.specs.Items.{JournalItem, accepted, acked, asked, closed, dial, judged, numbered, opened, post}
use Rattle.m2_journal.specs.Lawful.{IsReadable}
use Rattle.m2_journal.specs.OutFrames.{ident, message, reconnect, reconnect_ok, server_ident}
use Rattle.m2_journal.specs.Plan.{to_dial, to_post}
use Rattle.m2_journal.specs.Replay.{AreLawful, after_items}
use Rattle.m2_journal.specs.SideFacts.{SideFacts, absent, cookie_of}
use Rattle.m2_journal.specs.State.{Feed, State, start}
use Rattle.m2_journal.proofs.OneMessage.{can_be_read, first_ask, key, of_first}
use Rattle.m2_journal.proofs.Pair.{World, a_does, a_reads, a_writes, b_does, b_reads, b_writes, before_all, facts_of_a, facts_of_b, half_goes_on, hello_message, here, socket, turns}
use Rattle.m2_journal.proofs.Written.{all_put, fails, holds, is_new, not_zero, same, unopened}
use Rattle.m2_journal.specs.m2_queues.QueueLaws.{History}
use Rattle.m2_bytes.proofs.m2_lemmas.Booleans.{false_isnt_true}
use Rattle.m2_journal.proofs.Growing.{lawful-append}

-- ---- what both sides do

-- the address of a socket's opener as its acceptor knows it
abbrev opener : Addr
opener = record here { nonce = 0 }

-- the near side opens its socket of this turn, and both sides sign
abbrev pub signs_on : ℕ → World → World
signs_on n w =
    turns n (turns n (half_goes_on (a_writes n 1000
    (half_goes_on (record (a_does (opened (socket n)) w) { half = acceptor_at_start 4 opener; to_a = []; to_b = [] })))))

-- it asks there, and the half reads it
abbrev pub asks_on : ℕ → World → World
asks_on n w = half_goes_on (a_writes n 1000 w)

-- the half replies
abbrev pub half_replies : Control → World → World
half_replies c w = record w { half = answered c w.half; to_a = w.to_a ++ frame_text c }

-- ---- where a handshake leads

abbrev pub signed_half : Standing
signed_half = record (acceptor_at_start 4 opener) { stage = Authed }

abbrev pub signed_feed : ℕ → Feed
signed_feed n = record { socket = socket n; opened = true; hand = None; got = []; taken = 0; rest = []; texts = []; floor = 0; owed = false; answered = 0; resumed = None }

-- both stand so where they have signed
abbrev pub signed_by : (a b : State) → World
signed_by a b = record before_all { a = a; b = b; half = signed_half }

-- ---- a socket breaks while a message is on it

abbrev pub first : World
first = signs_on 1 (a_does (post 0 (Some (to_post hello_message))) before_all)

abbrev pub a_first : State
a_first = record (start facts_of_a) {
  session = record (absent facts_of_a) { phase = Connecting };
  out = record { queue = record { keeps = true; base = 0; written = 0; cursor = 0; kept = []; waiting = hello_message ∷ [] }; posted = hello_message ∷ []; dropped = []; numbered = [] };
  steps = 1;
  opened = socket 1 ∷ [];
  feed = Some (signed_feed 1);
}

first_a : first.a ≡ a_first
unfolding text_of preamble_text segment_crc after_byte shifted shifted_by judge judge_first judge_later judge_epilogue size_of read_preamble bounded_at cookie_at flag_at numbers_at list_at string_at vector_field tail_at head_at socket_at body_of shape_at addresses_at vector_at header_text
first_a = refl

abbrev pub established : World
established = a_reads 1 1000 (b_writes 1 1000 (b_does (judged (socket 1) first_ask 1 Accept [] of_first) (asks_on 1 (a_does (asked true 1) (signed_by a_first (start facts_of_b))))))

abbrev pub first_broken : World
first_broken = b_does (closed (socket 1) true) (a_does (closed (socket 1) true) (b_reads 1 1000 (a_writes 1 20 (a_does (numbered 1) established))))

abbrev kept_of_a : History
kept_of_a = record {
  queue = record { keeps = true; base = 0; written = 1; cursor = 0; kept = hello_message ∷ []; waiting = [] };
  posted = hello_message ∷ [];
  dropped = [];
  numbered = hello_message ∷ [];
}

abbrev pub a_broken : State
a_broken = record (start facts_of_a) {
  session = record (absent facts_of_a) { phase = Wait; client_cookie = cookie_of facts_of_a 1; server_cookie = cookie_of facts_of_b 1; peer_global = 1; lost_ready = true };
  out = kept_of_a;
  life = cookie_of facts_of_b 1;
  steps = 1;
  top = 1;
  opened = socket 1 ∷ [];
  sent = record { socket = socket 1; frame = ident (cookie_of facts_of_a 1) 1 } ∷ record { socket = socket 1; frame = message 1 0 hello_message } ∷ [];
}

abbrev pub b_broken : State
b_broken = record (start facts_of_b) {
  session = record (absent facts_of_b) { phase = Standby; client_cookie = cookie_of facts_of_a 1; server_cookie = cookie_of facts_of_b 1; peer_global = 1; lost_ready = true };
  life = cookie_of facts_of_b 1;
  top = 1;
  judgements = record { socket = socket 1; item = record { ask = first_ask; answer = Accept } } ∷ [];
  sent = record { socket = socket 1; frame = server_ident (cookie_of facts_of_b 1) 1 } ∷ [];
}

a_then : first_broken.a ≡ a_broken
unfolding text_of preamble_text segment_crc after_byte shifted shifted_by judge judge_first judge_later judge_epilogue size_of read_preamble bounded_at cookie_at flag_at numbers_at list_at string_at vector_field tail_at head_at socket_at body_of shape_at addresses_at vector_at header_text
a_then = refl

b_then : first_broken.b ≡ b_broken
unfolding text_of preamble_text segment_crc after_byte shifted shifted_by judge judge_first judge_later judge_epilogue size_of read_preamble bounded_at cookie_at flag_at numbers_at list_at string_at vector_field tail_at head_at socket_at body_of shape_at addresses_at vector_at header_text
b_then = refl

-- ---- the session goes on over a second socket, which breaks before the near side knows it

abbrev pub second_ask : AskFacts
second_ask = record { ident = false; client = cookie_of facts_of_a 1; server = cookie_of facts_of_b 1; global = 2; connect = 1; seen = 0 }

abbrev pub of_second : List JudgedItem
of_second = record { ask = second_ask; answer = Resume } ∷ []

abbrev pub second : World
second = signs_on 2 (record before_all { a = a_broken; b = b_broken })

abbrev pub a_second : State
a_second = record a_broken {
  session = record a_broken.session { phase = Connecting; connect = 1; lost_ready = false };
  opened = socket 1 ∷ socket 2 ∷ [];
  feed = Some (signed_feed 2);
}

second_a : second.a ≡ a_second
unfolding text_of preamble_text segment_crc after_byte shifted shifted_by judge judge_first judge_later judge_epilogue size_of read_preamble bounded_at cookie_at flag_at numbers_at list_at string_at vector_field tail_at head_at socket_at body_of shape_at addresses_at vector_at header_text
second_a = refl

abbrev pub lost : World
lost =
    b_does (closed (socket 2) true) (a_does (closed (socket 2) true) (b_does (judged (socket 2) second_ask 2 Resume [] of_second)
    (asks_on 2 (a_does (asked false 2) (signed_by a_second b_broken)))))

abbrev pub a_lost : State
a_lost = record a_broken {
  session = record a_broken.session { connect = 1; lost_ready = false };
  top = 2;
  opened = socket 1 ∷ socket 2 ∷ [];
  sent = record { socket = socket 1; frame = ident (cookie_of facts_of_a 1) 1 } ∷ record { socket = socket 1; frame = message 1 0 hello_message }
      ∷ record { socket = socket 2; frame = reconnect (cookie_of facts_of_a 1) (cookie_of facts_of_b 1) 2 1 0 } ∷ [];
}

abbrev pub b_lost : State
b_lost = record b_broken {
  session = record b_broken.session { peer_global = 2; connect = 1 };
  top = 2;
  judgements = record { socket = socket 1; item = record { ask = first_ask; answer = Accept } } ∷ record { socket = socket 2; item = record { ask = second_ask; answer = Resume } } ∷ [];
  sent = record { socket = socket 1; frame = server_ident (cookie_of facts_of_b 1) 1 } ∷ record { socket = socket 2; frame = reconnect_ok 0 } ∷ [];
}

a_after_that : lost.a ≡ a_lost
unfolding text_of preamble_text segment_crc after_byte shifted shifted_by judge judge_first judge_later judge_epilogue size_of read_preamble bounded_at cookie_at flag_at numbers_at list_at string_at vector_field tail_at head_at socket_at body_of shape_at addresses_at vector_at header_text
a_after_that = refl

b_after_that : lost.b ≡ b_lost
unfolding text_of preamble_text segment_crc after_byte shifted shifted_by judge judge_first judge_later judge_epilogue size_of read_preamble bounded_at cookie_at flag_at numbers_at list_at string_at vector_field tail_at head_at socket_at body_of shape_at addresses_at vector_at header_text
b_after_that = refl

-- ---- both sides connect at once; the near side is told to ask again, and then the far side takes its socket over

abbrev pub back : SocketId
back = record { from_ip = 0x0100007F; from_port = 7002; to_ip = 0x0100007F; to_port = 7001; turn = 1 }

abbrev pub third_ask : AskFacts
third_ask = record second_ask { global = 3 }

abbrev pub fourth_ask : AskFacts
fourth_ask = record second_ask { global = 4; connect = 3 }

abbrev pub of_third : List JudgedItem
of_third = record { ask = third_ask; answer = Retry 2 } ∷ record { ask = fourth_ask; answer = Resume } ∷ []

abbrev pub third : World
third = signs_on 3 (b_does (opened back) (b_does (dial (Some to_dial)) (record before_all { a = a_lost; b = b_lost })))

abbrev pub a_third : State
a_third = record a_lost {
  session = record a_lost.session { phase = Connecting };
  opened = socket 1 ∷ socket 2 ∷ socket 3 ∷ [];
  feed = Some (signed_feed 3);
}

abbrev pub b_third : State
b_third = record b_lost {
  session = record b_lost.session { phase = Connecting; connect = 2; lost_ready = false };
  steps = 1;
  opened = back ∷ [];
  feed = Some (opened_feed facts_of_b back 0 false);
}

third_a : third.a ≡ a_third
unfolding text_of preamble_text segment_crc after_byte shifted shifted_by judge judge_first judge_later judge_epilogue size_of read_preamble bounded_at cookie_at flag_at numbers_at list_at string_at vector_field tail_at head_at socket_at body_of shape_at addresses_at vector_at header_text
third_a = refl

third_b : third.b ≡ b_third
unfolding text_of preamble_text segment_crc after_byte shifted shifted_by judge judge_first judge_later judge_epilogue size_of read_preamble bounded_at cookie_at flag_at numbers_at list_at string_at vector_field tail_at head_at socket_at body_of shape_at addresses_at vector_at header_text
third_b = refl

abbrev pub crossed : World
crossed = asks_on 3 (a_does (asked false 3) (signed_by a_third b_third))

abbrev pub retried : World
retried = asks_on 3 (a_does (asked false 4) (a_reads 3 1000 (half_replies (control.SessionRetry (record { connect = 2 })) (b_does (judged (socket 3) third_ask 3 (Retry 2) [] []) crossed))))

abbrev pub resumed : World
resumed = a_reads 3 1000 (b_writes 3 1000 (b_does (closed back false) (b_does (judged (socket 3) fourth_ask 4 Resume [] of_third) retried)))

abbrev pub done : World
done = a_does (acked 1) (a_reads 3 1000 (b_writes 3 1000 (b_does (accepted 1 key) (b_reads 3 1000 (a_writes 3 1000 (a_does (numbered 1) resumed))))))

-- ---- each entry is lawful

can_be_read_again : (global connect : ℕ) → nat_le global GREATEST_NUMBER ≡ true → nat_le connect GREATEST_NUMBER ≡ true → IsReadable facts_of_b (record second_ask { global = global; connect = connect })
can_be_read_again global connect g c = record {
  global = leb-true global GREATEST_NUMBER g;
  connect = leb-true connect GREATEST_NUMBER c;
  seen = leb-true 0 GREATEST_NUMBER holds;
  ident = λ e. absurd (false_isnt_true e);
  reconnect = λ e. (not_zero (cookie_of facts_of_a 1) refl, not_zero (cookie_of facts_of_b 1) refl);
}

a_1 : AreLawful facts_of_a first.of_a (start facts_of_a)
unfolding text_of preamble_text segment_crc after_byte shifted shifted_by judge judge_first judge_later judge_epilogue size_of read_preamble bounded_at cookie_at flag_at numbers_at list_at string_at vector_field tail_at head_at socket_at body_of shape_at addresses_at vector_at header_text
a_1 = (
  (refl, tt),
  (
    record { due = holds; leads = holds; not_opened = fails; not_judged = fails; fits = leb-true 0 GREATEST_NUMBER holds },
    (
      (holds, record { some = holds; text = holds }),
      (
        (holds, holds),
        (
          (holds, record { some = holds; text = holds }),
          (
            (holds, holds),
            (
              (holds, record { some = holds; text = holds }),
              tt,
            ),
          ),
        ),
      ),
    ),
  ),
)

a_2 : AreLawful facts_of_a first_broken.of_a a_first
unfolding text_of preamble_text segment_crc after_byte shifted shifted_by judge judge_first judge_later judge_epilogue size_of read_preamble bounded_at cookie_at flag_at numbers_at list_at string_at vector_field tail_at head_at socket_at body_of shape_at addresses_at vector_at header_text
a_2 = (
  record { phase = same Connecting; signed = unopened; heard_nothing = same 0; put = all_put; of_kind = same true; fits = leb-true 0 GREATEST_NUMBER holds; unused = is_new _ _ holds holds },
  (
    (holds, record { some = holds; text = holds }),
    (
      (holds, holds),
      (
        record { phase = same Ready; put = all_put; next = same (Some 1); fits = leb-true 1 GREATEST_NUMBER holds },
        (
          (holds, record { some = holds; text = holds }),
          (
            inl (holds, holds),
            tt,
          ),
        ),
      ),
    ),
  ),
)

a_3 : AreLawful facts_of_a second.of_a a_broken
unfolding text_of preamble_text segment_crc after_byte shifted shifted_by judge judge_first judge_later judge_epilogue size_of read_preamble bounded_at cookie_at flag_at numbers_at list_at string_at vector_field tail_at head_at socket_at body_of shape_at addresses_at vector_at header_text
a_3 = (
  record { due = holds; leads = holds; not_opened = fails; not_judged = fails; fits = leb-true 1 GREATEST_NUMBER holds },
  (
    (holds, record { some = holds; text = holds }),
    (
      (holds, holds),
      (
        (holds, record { some = holds; text = holds }),
        (
          (holds, holds),
          (
            (holds, record { some = holds; text = holds }),
            tt,
          ),
        ),
      ),
    ),
  ),
)

a_4 : AreLawful facts_of_a lost.of_a a_second
unfolding text_of preamble_text segment_crc after_byte shifted shifted_by judge judge_first judge_later judge_epilogue size_of read_preamble bounded_at cookie_at flag_at numbers_at list_at string_at vector_field tail_at head_at socket_at body_of shape_at addresses_at vector_at header_text
a_4 = (
  record { phase = same Connecting; signed = unopened; heard_nothing = same 0; put = all_put; of_kind = same false; fits = leb-true 1 GREATEST_NUMBER holds; unused = is_new _ _ holds holds },
  (
    (holds, record { some = holds; text = holds }),
    (
      inl (holds, holds),
      tt,
    ),
  ),
)

a_5 : AreLawful facts_of_a third.of_a a_lost
unfolding text_of preamble_text segment_crc after_byte shifted shifted_by judge judge_first judge_later judge_epilogue size_of read_preamble bounded_at cookie_at flag_at numbers_at list_at string_at vector_field tail_at head_at socket_at body_of shape_at addresses_at vector_at header_text
a_5 = (
  record { due = holds; leads = holds; not_opened = fails; not_judged = fails; fits = leb-true 1 GREATEST_NUMBER holds },
  (
    (holds, record { some = holds; text = holds }),
    (
      (holds, holds),
      (
        (holds, record { some = holds; text = holds }),
        (
          (holds, holds),
          (
            (holds, record { some = holds; text = holds }),
            tt,
          ),
        ),
      ),
    ),
  ),
)

a_6 : AreLawful facts_of_a done.of_a a_third
unfolding text_of preamble_text segment_crc after_byte shifted shifted_by judge judge_first judge_later judge_epilogue size_of read_preamble bounded_at cookie_at flag_at numbers_at list_at string_at vector_field tail_at head_at socket_at body_of shape_at addresses_at vector_at header_text
a_6 = (
  record { phase = same Connecting; signed = unopened; heard_nothing = same 0; put = all_put; of_kind = same false; fits = leb-true 1 GREATEST_NUMBER holds; unused = is_new _ _ holds holds },
  (
    (holds, record { some = holds; text = holds }),
    (
      (holds, holds),
      (
        record { phase = same Connecting; signed = unopened; heard_nothing = same 1; put = all_put; of_kind = same false; fits = leb-true 3 GREATEST_NUMBER holds; unused = is_new _ _ holds holds },
        (
          (holds, record { some = holds; text = holds }),
          (
            (holds, holds),
            (
              record { phase = same Ready; put = all_put; next = same (Some 1); fits = leb-true 1 GREATEST_NUMBER holds },
              (
                (holds, record { some = holds; text = holds }),
                (
                  (holds, holds),
                  (
                    record { phase = same Ready; told = holds; above = ltb-true 0 1 holds; written = leb-true 1 1 holds },
                    tt,
                  ),
                ),
              ),
            ),
          ),
        ),
      ),
    ),
  ),
)

b_2 : AreLawful facts_of_b first_broken.of_b (start facts_of_b)
unfolding text_of preamble_text segment_crc after_byte shifted shifted_by judge judge_first judge_later judge_epilogue size_of read_preamble bounded_at cookie_at flag_at numbers_at list_at string_at vector_field tail_at head_at socket_at body_of shape_at addresses_at vector_at header_text
b_2 = (
  record { unused = is_new _ _ holds holds; readable = can_be_read; by_the_tables = refl; not_opened = fails; asks_again = tt; of_trail = refl },
  (
    (holds, record { some = holds; text = holds }),
    (
      (holds, holds),
      (
        inl (holds, holds),
        tt,
      ),
    ),
  ),
)

b_4 : AreLawful facts_of_b lost.of_b b_broken
unfolding text_of preamble_text segment_crc after_byte shifted shifted_by judge judge_first judge_later judge_epilogue size_of read_preamble bounded_at cookie_at flag_at numbers_at list_at string_at vector_field tail_at head_at socket_at body_of shape_at addresses_at vector_at header_text
b_4 = (
  record { unused = is_new _ _ holds holds; readable = (can_be_read_again 2 1 holds holds); by_the_tables = refl; not_opened = fails; asks_again = tt; of_trail = refl },
  (
    inl (holds, holds),
    tt,
  ),
)

b_5 : AreLawful facts_of_b third.of_b b_lost
unfolding text_of preamble_text segment_crc after_byte shifted shifted_by judge judge_first judge_later judge_epilogue size_of read_preamble bounded_at cookie_at flag_at numbers_at list_at string_at vector_field tail_at head_at socket_at body_of shape_at addresses_at vector_at header_text
b_5 = (
  tt,
  (
    record { due = holds; leads = holds; not_opened = fails; not_judged = fails; fits = leb-true 2 GREATEST_NUMBER holds },
    tt,
  ),
)

b_6 : AreLawful facts_of_b done.of_b b_third
unfolding text_of preamble_text segment_crc after_byte shifted shifted_by judge judge_first judge_later judge_epilogue size_of read_preamble bounded_at cookie_at flag_at numbers_at list_at string_at vector_field tail_at head_at socket_at body_of shape_at addresses_at vector_at header_text
b_6 = (
  record { unused = is_new _ _ holds holds; readable = (can_be_read_again 3 1 holds holds); by_the_tables = refl; not_opened = fails; asks_again = tt; of_trail = tt },
  (
    record { unused = is_new _ _ holds holds; readable = (can_be_read_again 4 3 holds holds); by_the_tables = refl; not_opened = fails; asks_again = (holds, tt); of_trail = refl },
    (
      inr holds,
      (
        (holds, record { some = holds; text = holds }),
        (
          (holds, holds),
          (
            record { phase = refl; next = (refl, refl, refl) },
            (
              (holds, record { some = holds; text = holds }),
              tt,
            ),
          ),
        ),
      ),
    ),
  ),
)

-- all of it
abbrev pub all_of_a : List JournalItem
all_of_a = first.of_a ++ first_broken.of_a ++ second.of_a ++ lost.of_a ++ third.of_a ++ done.of_a

abbrev pub all_of_b : List JournalItem
all_of_b = first_broken.of_b ++ lost.of_b ++ third.of_b ++ done.of_b

-- where entries lead, their world is
abbrev Leads : SideFacts → List JournalItem → (s t : State) → Type 0
Leads f is s t = after_items f is s ≡ t

go_on : (f : SideFacts) (is js : List JournalItem) (s t : State) → AreLawful f is s → Leads f is s t → AreLawful f js t → AreLawful f (is ++ js) s
go_on f is js s t first_ones leads next_ones = lawful-append f is js s first_ones (subst (AreLawful f js) (sym leads) next_ones)

pub lawful_a : AreLawful facts_of_a all_of_a (start facts_of_a)
lawful_a =
    go_on facts_of_a first.of_a (first_broken.of_a ++ second.of_a ++ lost.of_a ++ third.of_a ++ done.of_a) (start facts_of_a) a_first a_1 first_a
    (go_on facts_of_a first_broken.of_a (second.of_a ++ lost.of_a ++ third.of_a ++ done.of_a) a_first a_broken a_2 a_then
    (go_on facts_of_a second.of_a (lost.of_a ++ third.of_a ++ done.of_a) a_broken a_second a_3 second_a
    (go_on facts_of_a lost.of_a (third.of_a ++ done.of_a) a_second a_lost a_4 a_after_that
    (go_on facts_of_a third.of_a done.of_a a_lost a_third a_5 third_a a_6))))

pub lawful_b : AreLawful facts_of_b all_of_b (start facts_of_b)
lawful_b =
    go_on facts_of_b first_broken.of_b (lost.of_b ++ third.of_b ++ done.of_b) (start facts_of_b) b_broken b_2 b_then
    (go_on facts_of_b lost.of_b (third.of_b ++ done.of_b) b_broken b_lost b_4 b_after_that
    (go_on facts_of_b third.of_b done.of_b b_lost b_third b_5 third_b b_6))
