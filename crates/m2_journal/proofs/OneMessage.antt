-- A run, computed: a message between two records that were absent, from the banners on.
use Rattle.std.specs.Prelude.{◌≡◌, ℕ, true, false, List, [], ◌∷◌, refl, Some}
use Rattle.m2_message.specs.m2_crc.Crc.{after_byte, shifted, shifted_by}
use Rattle.m2_message.specs.m2_frame.Reading.{judge, judge_first, judge_later, judge_epilogue, size_of}
use Rattle.m2_message.specs.m2_frame.Preamble.{read_preamble, preamble_text}
use Rattle.m2_message.specs.m2_frame.Text.{segment_crc, text_of}
use Rattle.m2_handshake.specs.m2_control.Fields.{bounded_at, cookie_at, flag_at, numbers_at, list_at, string_at, vector_field}
use Rattle.m2_handshake.specs.m2_control.Ident.{tail_at}
use Rattle.m2_policy.specs.m2_addr.Addr.{head_at, socket_at, body_of, shape_at}
use Rattle.m2_policy.specs.m2_addr.Vector.{addresses_at, vector_at}
use Rattle.m2_message.specs.Message.{with_numbers}
use Rattle.m2_message.specs.HeaderText.{header_text}
use Rattle.m2_policy.specs.declared.path.Key.{Key}
use Rattle.m2_policy.specs.declared.path.Path.TheVariants.{Queued}
use Rattle.m2_session.specs.declared.answer.Answer.TheVariants.{Accept}
use Rattle.m2_session.specs.declared.session.Phase.TheVariants.{Connecting, Ready}
use Rattle.m2_session.specs.declared.ask.AskFacts.{AskFacts}
use Rattle.m2_journal.specs.declared.entry.JudgedItem.{JudgedItem}
use Rattle.m2_journal.specs.Plan.{to_post}
use Rattle.m2_handshake.specs.m2_control.declared.fields.TheConstants.{GREATEST_NUMBER}
use Rattle.m2_journal.specs.SideFacts.{cookie_of}
use Rattle.std.specs.List.{flat_map}
use Rattle.m2_journal.specs.declared.entry.Entry.{Entry}
use Rattle.m2_journal.specs.declared.entry.Entry.TheVariants as entry
use Rattle.m2_journal.specs.Items.{JournalItem, Sources, runs_on, read, wrote, post, opened, judged, asked, numbered, accepted, acked}
use Rattle.m2_journal.specs.Replay.{AreLawful, replay}
use Rattle.m2_journal.specs.Lawful.{IsReadable, MayJudge}
use Rattle.std.proofs.Common.{inr, sym, subst}
use Rattle.std.proofs.lemmas.Bool.{ltb-true, leb-true}
use Rattle.m2_journal.specs.State.{start, letter}
use Rattle.m2_journal.proofs.Written.{not_zero, is_new, holds, fails, same, unopened, all_put}
use Rattle.m2_journal.proofs.Pair.{World, before_all, a_does, b_does, a_writes, b_writes, a_reads, b_reads, half_goes_on, shakes_hands, socket, hello_message, facts_of_a, facts_of_b}
use Rattle.m2_bytes.proofs.m2_lemmas.Booleans.{false_isnt_true}

-- ---- from Absent to Ready, and one message

abbrev pub signed : World
signed = shakes_hands 1 (a_does (opened (socket 1)) (a_does (post 0 (Some (to_post hello_message))) before_all))

abbrev pub first_ask : AskFacts
first_ask = record { ident = true; client = cookie_of facts_of_a 1; server = 0; global = 1; connect = 0; seen = 0 }

pub can_be_read : IsReadable facts_of_b first_ask
can_be_read = record {
  global = leb-true 1 GREATEST_NUMBER holds;
  connect = leb-true 0 GREATEST_NUMBER holds;
  seen = leb-true 0 GREATEST_NUMBER holds;
  ident = λ e. inr (not_zero (cookie_of facts_of_a 1) refl);
  reconnect = λ e. absurd (false_isnt_true (sym e));
}

abbrev pub of_first : List JudgedItem
of_first = record { ask = first_ask; answer = Accept } ∷ []

abbrev pub established : World
established =
    a_reads 1 1000 (b_writes 1 1000 (b_does (judged (socket 1) first_ask 1 Accept [] of_first)
    (half_goes_on (a_writes 1 1000 (a_does (asked true 1) signed)))))

abbrev pub key : Key
key = record { priority = 127; path = Queued }

abbrev pub delivered : World
delivered =
    a_does (acked 1) (a_reads 1 1000 (b_writes 1 1000
    (b_does (accepted 1 key) (b_reads 1 1000 (a_writes 1 1000 (a_does (numbered 1) established))))))

phases : (delivered.a.session.phase ≡ Ready) × (delivered.b.session.phase ≡ Ready)
unfolding text_of preamble_text segment_crc after_byte shifted shifted_by judge judge_first judge_later judge_epilogue size_of read_preamble bounded_at cookie_at flag_at numbers_at list_at string_at vector_field tail_at head_at socket_at body_of shape_at addresses_at vector_at header_text
phases = (refl, refl)

handed_out : delivered.b.deliveries ≡ letter 1 (cookie_of facts_of_b 1) key (with_numbers 1 0 hello_message) ∷ []
unfolding text_of preamble_text segment_crc after_byte shifted shifted_by judge judge_first judge_later judge_epilogue size_of read_preamble bounded_at cookie_at flag_at numbers_at list_at string_at vector_field tail_at head_at socket_at body_of shape_at addresses_at vector_at header_text
handed_out = refl

acknowledged : (delivered.a.out.queue.base ≡ 1) × (delivered.a.out.queue.kept ≡ [])
unfolding text_of preamble_text segment_crc after_byte shifted shifted_by judge judge_first judge_later judge_epilogue size_of read_preamble bounded_at cookie_at flag_at numbers_at list_at string_at vector_field tail_at head_at socket_at body_of shape_at addresses_at vector_at header_text
acknowledged = (refl, refl)

pub lawful_at_b : AreLawful facts_of_b delivered.of_b (start facts_of_b)
unfolding text_of preamble_text segment_crc after_byte shifted shifted_by judge judge_first judge_later judge_epilogue size_of read_preamble bounded_at cookie_at flag_at numbers_at list_at string_at vector_field tail_at head_at socket_at body_of shape_at addresses_at vector_at header_text
lawful_at_b = (
  record { unused = is_new _ _ refl refl; readable = can_be_read; by_the_tables = refl; not_opened = fails; asks_again = tt; of_trail = refl },
  (
    (holds, record { some = holds; text = holds }),
    (
      (holds, holds),
      (
        record { phase = refl; next = (refl, refl, refl) },
        (
          (holds, record { some = holds; text = holds }),
          tt,
        ),
      ),
    ),
  ),
)

pub lawful_at_a : AreLawful facts_of_a delivered.of_a (start facts_of_a)
unfolding text_of preamble_text segment_crc after_byte shifted shifted_by judge judge_first judge_later judge_epilogue size_of read_preamble bounded_at cookie_at flag_at numbers_at list_at string_at vector_field tail_at head_at socket_at body_of shape_at addresses_at vector_at header_text
lawful_at_a = (
  (refl, tt),
  (
    record { due = holds; leads = holds; not_opened = fails; not_judged = fails; fits = leb-true 0 GREATEST_NUMBER holds },
    (
      (holds, record { some = holds; text = holds }),
      (
        (holds, holds),
        (
          (holds, record { some = holds; text = holds }),
          (
            (holds, holds),
            (
              (holds, record { some = holds; text = holds }),
              (
                record { phase = same Connecting; signed = unopened; heard_nothing = same 0; put = all_put; of_kind = same true; fits = leb-true 0 GREATEST_NUMBER holds; unused = is_new _ _ holds holds },
                (
                  (holds, record { some = holds; text = holds }),
                  (
                    (holds, holds),
                    (
                      record { phase = same Ready; put = all_put; next = same (Some 1); fits = leb-true 1 GREATEST_NUMBER holds },
                      (
                        (holds, record { some = holds; text = holds }),
                        (
                          (holds, holds),
                          (
                            record { phase = same Ready; told = holds; above = ltb-true 0 1 holds; written = leb-true 1 1 holds },
                            tt,
                          ),
                        ),
                      ),
                    ),
                  ),
                ),
              ),
            ),
          ),
        ),
      ),
    ),
  ),
)

-- ---- a socket that was taken isn't judged again
taken_once : (number : ℕ) → MayJudge facts_of_b delivered.b (socket 1) number (record { ask = first_ask; answer = Accept }) of_first → ⊥
unfolding text_of preamble_text segment_crc after_byte shifted shifted_by judge judge_first judge_later judge_epilogue size_of read_preamble bounded_at cookie_at flag_at numbers_at list_at string_at vector_field tail_at head_at socket_at body_of shape_at addresses_at vector_at header_text
taken_once number may = subst (λ b. elim b as (λ _. Type 0) [ false ↦ Unit {0} | true ↦ ⊥ ]) may.asks_again.0 tt

-- ---- the same run, from the entries of a journal and the logs of the ends

bytes_read : JournalItem → List ℕ
bytes_read (read k bytes) = bytes
bytes_read _ = []

bytes_put : JournalItem → List ℕ
bytes_put (wrote k bytes) = bytes
bytes_put _ = []

journal_of_b : List Entry
journal_of_b =
    entry.Judged (socket 1) first_ask 1 Accept ∷ entry.Wrote (socket 1) 124 ∷ entry.Read (socket 1) 91 ∷ entry.Accepted 1 key ∷ entry.Wrote (socket 1) 44 ∷ []

abbrev sources_of_b : Sources
sources_of_b = record { plan = []; got = λ k. flat_map bytes_read delivered.of_b; put = λ k. flat_map bytes_put delivered.of_b; runs = λ k. runs_on k journal_of_b; broken = λ k. false; unread = λ k. []; trail = λ k. of_first }

replayed : (replay facts_of_b sources_of_b journal_of_b).deliveries ≡ letter 1 (cookie_of facts_of_b 1) key (with_numbers 1 0 hello_message) ∷ []
unfolding bytes_read bytes_put journal_of_b text_of preamble_text segment_crc after_byte shifted shifted_by judge judge_first judge_later judge_epilogue size_of read_preamble bounded_at cookie_at flag_at numbers_at list_at string_at vector_field tail_at head_at socket_at body_of shape_at addresses_at vector_at header_text
replayed = refl
