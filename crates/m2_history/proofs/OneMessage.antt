-- A link that is woven, of which a side is marked down: a message was posted, accepted, dispatched and counted acknowledged before, each
-- byte of it and of the handshake written at one end and read at the other.
use Rattle.std.specs.Prelude.{◌≡◌, ℕ, zero, suc, ◌<◌, ◌^◌, Bool, true, false, if◌then◌else◌, List, [], ◌∷◌, ◌++◌, drop, length, map, slice_index, take, Some, None, refl}
use Rattle.std.proofs.Common.{arith}
use Rattle.std.specs.List.{All, AllByRecursion, IsDistinct}
use Rattle.std.specs.Borrow.{Bor}
use Rattle.std.proofs.lemmas.Bool.{leb-true, ltb-true}
use Rattle.std.proofs.lemmas.List.Elements.{All-cons}
use Rattle.m2_message.specs.m2_crc.Crc.{after_byte, shifted, shifted_by}
use Rattle.m2_message.specs.m2_frame.Reading.{judge, judge_first, judge_later, judge_epilogue, size_of}
use Rattle.m2_message.specs.m2_frame.Preamble.{read_preamble, preamble_text}
use Rattle.m2_message.specs.m2_frame.Text.{segment_crc, text_of}
use Rattle.m2_trail.specs.m2_control.Fields.{bounded_at, cookie_at, flag_at, numbers_at, list_at, string_at, vector_field}
use Rattle.m2_trail.specs.m2_control.Ident.{tail_at}
use Rattle.m2_trail.specs.m2_control.Laws.{HasAddrRanges}
use Rattle.m2_trail.specs.m2_control.declared.control.Control.{Control}
use Rattle.m2_policy.specs.m2_addr.Addr.{head_at, socket_at, body_of, shape_at}
use Rattle.m2_policy.specs.m2_addr.Vector.{addresses_at, vector_at}
use Rattle.m2_message.specs.HeaderText.{header_text}
use Rattle.m2_trail.specs.m2_control.declared.fields.TheConstants.{GREATEST_NUMBER}
use Rattle.m2_bytes_fit.specs.Ends.{read_on, wrote_on}
use Rattle.m2_bytes_fit.specs.Orders.{entries_of}
use Rattle.m2_bytes_fit.specs.Texts.{CanBePosted, KeepsFields}
use Rattle.m2_bytes_fit.proofs.m2_feed.Courses.{ran}
use Rattle.m2_bytes_fit.proofs.Posts.{sendable_keeps}
use Rattle.m2_channel.specs.Channel.{accept, acknowledge, dispatch, mark, post, reset}
use Rattle.m2_channel.specs.Observed.{Logs, observed}
use Rattle.m2_channel.specs.ObservedLaws.{AreLogs}
use Rattle.m2_channel.specs.m2_never_reset.Order.{AreFirstOf}
use Rattle.m2_dispatch.specs.Heard as heard
use Rattle.m2_dispatch.specs.Heard.{is_key}
use Rattle.m2_fabric.specs.declared.log.Run.{Run}
use Rattle.m2_fabric.specs.End.{SeenEnd}
use Rattle.m2_fabric.specs.Log.{Log}
use Rattle.m2_journal.specs.m2_handshake.Course as course
use Rattle.m2_journal.specs.m2_handshake.Course.{Course, Exchange, Reaches, course_of}
use Rattle.m2_journal.specs.m2_handshake.Standing.{acceptor_at_start, fed}
use Rattle.m2_journal.specs.m2_session.declared.answer.Answer.TheVariants.{Accept}
use Rattle.m2_journal.specs.m2_session.declared.session.Phase.TheVariants.{Connecting, Ready}
use Rattle.m2_journal.specs.declared.entry.Entry.{Entry}
use Rattle.m2_journal.specs.declared.entry.Entry.TheVariants as entry
use Rattle.m2_journal.specs.declared.facts.PlanStep.{PlanStep}
use Rattle.m2_journal.specs.declared.facts.PlanStep.TheVariants as step
use Rattle.m2_journal.specs.Items as item
use Rattle.m2_journal.specs.Items.{runs_on}
use Rattle.m2_journal.specs.Plan.{to_go_down, to_post}
use Rattle.m2_journal.specs.Replay.{AreLawful}
use Rattle.m2_journal.specs.SideFacts.{cookie_of}
use Rattle.m2_journal.specs.State.{start}
use Rattle.m2_journal.proofs.OneMessage.{can_be_read, first_ask, key, of_first}
use Rattle.m2_journal.proofs.Pair.{World, a_does, a_reads, a_writes, b_does, b_reads, b_writes, before_all, facts_of_a, facts_of_b, half_goes_on, hello_message, turns}
use Rattle.m2_journal.proofs.Written.{all_put, fails, holds, is_new, same, unopened}
use Rattle.m2_message.specs.Message.{Content, content_of, unnumbered, with_numbers}
use Rattle.m2_message.specs.declared.message.Message.{Message}
use Rattle.m2_message.specs.declared.message.TheConstants.{MOST_PART}
use Rattle.m2_trail.specs.Asks.{facts_of_ask}
use Rattle.m2_trail.specs.Trails.{ComesToWrite, IsAsked, IsPoint, IsTakenTrail, IsTrailOf, TrailNow, begins, opener_of, replies_by, unread_of}
use Rattle.m2_record.specs.TakenTrails.{IsKeptTrail}
use Rattle.m2_weave.specs.declared.table.SocketBytes.{SocketBytes}
use Rattle.m2_history.specs.Actors.{part_of}
use Rattle.m2_history.specs.Marked.{AMarkedLinkIsWoven, entries_to_a_mark}
use Rattle.m2_history.specs.Parts.{PartsNow}
use Rattle.m2_history.specs.Woven.{ends_of}
use Rattle.m2_history.specs.WovenLink.{IsLink, IsOrderOf, IsSideOf, LinkNow, items_by, items_in, order_of, same_end, trails_of}
use Rattle.m2_history.proofs.OneLink.{apart_places, facts_by, k, named, opener_fits, other_port}

-- ---- what was done: a message, as between two records that were absent, and then a mark-down

abbrev met : World
met = half_goes_on (record (a_does (item.opened k) (a_does (item.post 0 (Some (to_post hello_message))) before_all)) { half = acceptor_at_start 4 (opener_of k); to_a = []; to_b = [] })

abbrev signed : World
signed = turns 1 (turns 1 (half_goes_on (a_writes 1 1000 met)))

abbrev established : World
established =
    a_reads 1 1000 (b_writes 1 1000 (b_does (item.judged k first_ask 1 Accept [] of_first)
    (half_goes_on (a_writes 1 1000 (a_does (item.asked true 1) signed)))))

abbrev delivered : World
delivered =
    a_does (item.acked 1) (a_reads 1 1000 (b_writes 1 1000
    (b_does (item.accepted 1 key) (b_reads 1 1000 (a_writes 1 1000 (a_does (item.numbered 1) established))))))

abbrev done : World
done = a_does (item.down true (Some to_go_down)) delivered

-- ---- as journals, ends and a trail

-- the bytes of the half: what it got until it was asked, and all that it put
abbrev got : List ℕ
got = wrote_on k (take 9 done.of_a)

abbrev put : List ℕ
put = read_on k (take 9 done.of_a)

journal_of_a : List Entry
journal_of_a =
    entry.Post 0 ∷ entry.Opened k ∷ entry.Wrote k 26 ∷ entry.Read k 98 ∷ entry.Wrote k 124 ∷ entry.Read k 120 ∷ entry.Wrote k 68 ∷ entry.Asked true 1 ∷ entry.Wrote k 159 ∷ entry.Read k 124
    ∷ entry.Numbered 1 ∷ entry.Wrote k 91 ∷ entry.Read k 44 ∷ entry.Acked 1 ∷ entry.Down true ∷ []

journal_of_b : List Entry
journal_of_b = entry.Judged k first_ask 1 Accept ∷ entry.Wrote k 124 ∷ entry.Read k 91 ∷ entry.Accepted 1 key ∷ entry.Wrote k 44 ∷ []

its_trail : TrailNow
its_trail = record {
  socket = k;
  entity = 4;
  entries = entry.Read k 26 ∷ entry.Wrote k 98 ∷ entry.Read k 124 ∷ entry.Wrote k 120 ∷ entry.Read k 68 ∷ entry.Read k 159 ∷ [];
  judged = of_first;
  judged_after = 6 ∷ [];
}

abbrev log_of : (got put : List ℕ) → List Run → Log
log_of got put runs = record { got = got; put = put; runs = runs; closed = false; dry = false; blocked = false; ended = false }

abbrev near_log : Log
near_log = log_of (read_on k done.of_a) (wrote_on k done.of_a) (runs_on k journal_of_a)

abbrev far_log : Log
far_log = log_of (got ++ read_on k done.of_b) (put ++ wrote_on k done.of_b) (runs_on k its_trail.entries ++ runs_on k journal_of_b)

abbrev end_with : Log → SeenEnd
end_with log = record { id = k; log = log; faults = 0; left = None; inflow = None }

abbrev near : PartsNow
near = record { journal = journal_of_a; trails = []; ends = end_with near_log ∷ [] }

abbrev far : PartsNow
far = record { journal = journal_of_b; trails = its_trail ∷ []; ends = end_with far_log ∷ [] }

unfoldable pub hello : Message
hello = record { header = hello_message.header; front = record { bytes = 0x61 ∷ [] }; middle = record { bytes = [] }; tail = record { bytes = [] } }

abbrev plan_by : Bool → List PlanStep
plan_by true = step.Post hello ∷ step.Down ∷ []
plan_by false = []

abbrev marked_link : LinkNow
marked_link = record { facts = facts_by; plans = plan_by; both = record { a = near; b = far; loose = [] } }

-- ---- the half that was taken

abbrev course_by : List ℕ → Course
course_by xs = course_of (fed (begins its_trail) xs) []

abbrev exchange_by : List ℕ → Exchange
exchange_by xs = record { bytes = xs; replies = []; text = course.text_of (course_by xs).events; asks = course.asks_of (course_by xs).events }

comes_by : (xs : List ℕ) → Reaches (begins its_trail) (exchange_by xs) (course_by xs).standing
comes_by xs = let r = ran (fed (begins its_trail) xs) in record { events = (course_by xs).events; runs = r.runs; replies = r.no_replies; text = refl; asks = refl }

writes_by : (xs text : List ℕ) (replies : List Control) → (exchange_by xs).text ≡ text ++ drop (length text) (exchange_by xs).text → ComesToWrite (begins its_trail) xs replies text
writes_by xs text replies e = record {
  exchange = exchange_by xs;
  standing = (course_by xs).standing;
  comes = comes_by xs;
  fed = refl;
  given = (replies, refl);
  written = (drop (length text) (exchange_by xs).text, e);
}

its_asks : map facts_of_ask (exchange_by got).asks ≡ first_ask ∷ []
unfolding its_trail journal_of_b unread_of text_of preamble_text segment_crc after_byte shifted shifted_by judge judge_first judge_later judge_epilogue size_of read_preamble bounded_at cookie_at flag_at numbers_at list_at string_at vector_field tail_at head_at socket_at body_of shape_at addresses_at vector_at header_text
its_asks = refl

facts : IsTrailOf its_trail far_log
unfolding its_trail journal_of_b unread_of text_of preamble_text segment_crc after_byte shifted shifted_by judge judge_first judge_later judge_epilogue size_of read_preamble bounded_at cookie_at flag_at numbers_at list_at string_at vector_field tail_at head_at socket_at body_of shape_at addresses_at vector_at header_text
facts = record {
  refused = None;
  refused_fits = tt;
  many = refl;
  rising = (leb-true 0 6 refl, leb-true 6 6 refl);
  asks = asked;
  points = points;
}
  where
    asked : (place : ℕ) → place < length its_trail.judged → IsAsked its_trail far_log place (runs_on k (take (slice_index its_trail.judged_after place) its_trail.entries))
    asked zero below = record { exchange = exchange_by got; standing = (course_by got).standing; comes = comes_by got; fed = refl; given = ([], refl); first = ([], its_asks) }
    asked (suc place) below = absurd (omega (arith, below))

    points : (n : ℕ) → IsPoint (begins its_trail) far_log (replies_by its_trail None n) (runs_on k (take n its_trail.entries))
    points zero = writes_by [] [] (replies_by its_trail None 0) refl
    points (suc zero) = writes_by (take 26 got) [] (replies_by its_trail None 1) refl
    points (suc (suc zero)) = writes_by (take 26 got) (take 98 put) (replies_by its_trail None 2) refl
    points (suc (suc (suc zero))) = writes_by (take 150 got) (take 98 put) (replies_by its_trail None 3) refl
    points (suc (suc (suc (suc zero)))) = writes_by (take 150 got) put (replies_by its_trail None 4) refl
    points (suc (suc (suc (suc (suc zero))))) = writes_by (take 218 got) put (replies_by its_trail None 5) refl
    points (suc (suc (suc (suc (suc (suc zero)))))) = writes_by got put (replies_by its_trail None 6) refl
    points (suc (suc (suc (suc (suc (suc (suc n))))))) = writes_by got put (replies_by its_trail None (suc (suc (suc (suc (suc (suc (suc n)))))))) refl

taken : IsTakenTrail its_trail far_log
unfolding its_trail journal_of_b unread_of text_of preamble_text segment_crc after_byte shifted shifted_by judge judge_first judge_later judge_epilogue size_of read_preamble bounded_at cookie_at flag_at numbers_at list_at string_at vector_field tail_at head_at socket_at body_of shape_at addresses_at vector_at header_text
taken = record {
  half = record {
    exchange = exchange_by got;
    standing = (course_by got).standing;
    comes = comes_by got;
    got = refl;
    put = refl;
    replies = refl;
    asks = its_asks;
    stage = refl;
    unread = refl;
  };
  earlier = [];
  last = refl;
}

kept : IsKeptTrail 4 far.ends journal_of_b its_trail
unfolding its_trail journal_of_b unread_of text_of preamble_text segment_crc after_byte shifted shifted_by judge judge_first judge_later judge_epilogue size_of read_preamble bounded_at cookie_at flag_at numbers_at list_at string_at vector_field tail_at head_at socket_at body_of shape_at addresses_at vector_at header_text
kept = record {
  entity = refl;
  beside = record {
    entries = refl;
    runs = (runs_on k journal_of_b, refl);
    within = record { got = leb-true _ _ refl; put = leb-true _ _ refl };
    facts = facts;
    taken = taken;
  };
  judged = refl;
}

-- ---- both sides

lawful_a : AreLawful facts_of_a (items_by marked_link true) (start facts_of_a)
unfolding hello its_trail journal_of_a journal_of_b unread_of text_of preamble_text segment_crc after_byte shifted shifted_by judge judge_first judge_later judge_epilogue size_of read_preamble bounded_at cookie_at flag_at numbers_at list_at string_at vector_field tail_at head_at socket_at body_of shape_at addresses_at vector_at header_text
lawful_a = (
  (refl, tt),
  (
    record { due = holds; leads = holds; not_opened = fails; not_judged = fails; fits = leb-true 0 GREATEST_NUMBER holds },
    (
      (holds, record { some = holds; text = holds }),
      (
        (holds, holds),
        (
          (holds, record { some = holds; text = holds }),
          (
            (holds, holds),
            (
              (holds, record { some = holds; text = holds }),
              (
                record { phase = same Connecting; signed = unopened; heard_nothing = same 0; put = all_put; of_kind = same true; fits = leb-true 0 GREATEST_NUMBER holds; unused = is_new _ _ holds holds },
                (
                  (holds, record { some = holds; text = holds }),
                  (
                    (holds, holds),
                    (
                      record { phase = same Ready; put = all_put; next = same (Some 1); fits = leb-true 1 GREATEST_NUMBER holds },
                      (
                        (holds, record { some = holds; text = holds }),
                        (
                          (holds, holds),
                          (
                            record { phase = same Ready; told = holds; above = ltb-true 0 1 holds; written = leb-true 1 1 holds },
                            (
                              tt,
                              tt,
                            ),
                          ),
                        ),
                      ),
                    ),
                  ),
                ),
              ),
            ),
          ),
        ),
      ),
    ),
  ),
)

lawful_b : AreLawful facts_of_b (items_by marked_link false) (start facts_of_b)
unfolding hello its_trail journal_of_a journal_of_b unread_of text_of preamble_text segment_crc after_byte shifted shifted_by judge judge_first judge_later judge_epilogue size_of read_preamble bounded_at cookie_at flag_at numbers_at list_at string_at vector_field tail_at head_at socket_at body_of shape_at addresses_at vector_at header_text
lawful_b = (
  record { unused = is_new _ _ refl refl; readable = can_be_read; by_the_tables = refl; not_opened = fails; asks_again = tt; of_trail = refl },
  (
    (holds, record { some = holds; text = holds }),
    (
      (holds, holds),
      (
        record { phase = refl; next = (refl, refl, refl) },
        (
          (holds, record { some = holds; text = holds }),
          tt,
        ),
      ),
    ),
  ),
)

sides : (s : Bool) → IsSideOf (facts_by s) (plan_by s) (part_of marked_link.both s)
unfolding journal_of_a journal_of_b its_trail
sides true = record { lawful = lawful_a; ends = (holds, tt); trails = record { sockets = refl; each = tt } }
sides false = record { lawful = lawful_b; ends = (holds, tt); trails = record { sockets = refl; each = (kept, tt) } }

none_there : All (λ b. b < 256) []
none_there k d below = absurd (omega (arith, below))

pub can_be_posted : KeepsFields (content_of hello)
unfolding hello
can_be_posted =
    sendable_keeps hello
    (record {
      header = record {
        seq = ltb-true 0 (2 ^ 64) refl;
        tid = ltb-true 0 (2 ^ 64) refl;
        kind = ltb-true 7 (2 ^ 16) refl;
        priority = ltb-true 127 (2 ^ 16) refl;
        version = ltb-true 1 (2 ^ 16) refl;
        pre_padding = ltb-true 0 (2 ^ 32) refl;
        data_off = ltb-true 0 (2 ^ 16) refl;
        ack_seq = ltb-true 0 (2 ^ 64) refl;
        flags = ltb-true 0 (2 ^ 8) refl;
        compat = ltb-true 1 (2 ^ 16) refl;
        reserved = ltb-true 0 (2 ^ 16) refl;
      };
      front = All-cons (λ b. b < 256) 0x61 [] (ltb-true 0x61 256 refl) none_there;
      middle = none_there;
      tail = none_there;
    })
    (record { front = leb-true 1 MOST_PART refl; middle = leb-true 0 MOST_PART refl; tail = leb-true 0 MOST_PART refl })

can_post : (s : Bool) → AllByRecursion CanBePosted (items_in (plan_by s) (part_of marked_link.both s))
unfolding hello journal_of_a journal_of_b
can_post true = (can_be_posted, (tt, (tt, (tt, (tt, (tt, (tt, (tt, (tt, (tt, (tt, (tt, (tt, (tt, (tt, tt)))))))))))))))
can_post false = (tt, (tt, (tt, (tt, (tt, tt)))))

apart : IsDistinct same_end (ends_of marked_link.both)
unfolding IsDistinct journal_of_a journal_of_b
apart = ((refl, tt), (tt, tt))

seen : AllByRecursion (λ (t : TrailNow). HasAddrRanges (opener_of t.socket)) (trails_of marked_link.both)
unfolding its_trail
seen = (opener_fits, tt)

link_is : IsLink marked_link
link_is = record {
  sides = sides;
  joined = record { posts = can_post; loose = tt; apart = apart; named = named; seen = seen; peers = λ j e. other_port j.to_ip j.to_port e };
}

-- ---- the order: the near side opens a socket, it and the half sign, and it asks; the far side accepts and answers; the near side sends
-- the message, which is accepted and acknowledged; then the near side is marked down

order : List ℕ
order = 0 ∷ 0 ∷ 0 ∷ 2 ∷ 2 ∷ 0 ∷ 0 ∷ 2 ∷ 2 ∷ 0 ∷ 0 ∷ 2 ∷ 0 ∷ 0 ∷ 2 ∷ 2 ∷ 1 ∷ 1 ∷ 0 ∷ 0 ∷ 0 ∷ 1 ∷ 1 ∷ 1 ∷ 0 ∷ 0 ∷ 0 ∷ []

abbrev bytes : List ℕ → Bor (List ℕ)
bytes xs = record { ref_ptr = (0, 0); now = xs }

abbrev row : SocketBytes
row = record { socket = k; opener = record { got = bytes near_log.got; put = bytes near_log.put }; acceptor = record { got = bytes far_log.got; put = bytes far_log.put } }

order_is : IsOrderOf marked_link order
unfolding order hello its_trail journal_of_a journal_of_b unread_of text_of preamble_text segment_crc after_byte shifted shifted_by judge judge_first judge_later judge_epilogue size_of read_preamble bounded_at cookie_at flag_at numbers_at list_at string_at vector_field tail_at head_at socket_at body_of shape_at addresses_at vector_at header_text
order_is = record {
  sockets = row ∷ row ∷ [];
  rows = refl;
  woven = record {
    lawful = (
      record { more = ltb-true 0 15 refl; met = refl },
      (
        record { more = ltb-true 1 15 refl; met = refl },
        (
          record { more = ltb-true 2 15 refl; met = refl },
          (
            record { more = ltb-true 0 7 refl; met = refl },
            (
              record { more = ltb-true 1 7 refl; met = refl },
              (
                record { more = ltb-true 3 15 refl; met = refl },
                (
                  record { more = ltb-true 4 15 refl; met = refl },
                  (
                    record { more = ltb-true 2 7 refl; met = refl },
                    (
                      record { more = ltb-true 3 7 refl; met = refl },
                      (
                        record { more = ltb-true 5 15 refl; met = refl },
                        (
                          record { more = ltb-true 6 15 refl; met = refl },
                          (
                            record { more = ltb-true 4 7 refl; met = refl },
                            (
                              record { more = ltb-true 7 15 refl; met = refl },
                              (
                                record { more = ltb-true 8 15 refl; met = refl },
                                (
                                  record { more = ltb-true 5 7 refl; met = refl },
                                  (
                                    record { more = ltb-true 6 7 refl; met = refl },
                                    (
                                      record { more = ltb-true 0 5 refl; met = refl },
                                      (
                                        record { more = ltb-true 1 5 refl; met = refl },
                                        (
                                          record { more = ltb-true 9 15 refl; met = refl },
                                          (
                                            record { more = ltb-true 10 15 refl; met = refl },
                                            (
                                              record { more = ltb-true 11 15 refl; met = refl },
                                              (
                                                record { more = ltb-true 2 5 refl; met = refl },
                                                (
                                                  record { more = ltb-true 3 5 refl; met = refl },
                                                  (
                                                    record { more = ltb-true 4 5 refl; met = refl },
                                                    (
                                                      record { more = ltb-true 12 15 refl; met = refl },
                                                      (
                                                        record { more = ltb-true 13 15 refl; met = refl },
                                                        (
                                                          record { more = ltb-true 14 15 refl; met = refl },
                                                          tt,
                                                        ),
                                                      ),
                                                    ),
                                                  ),
                                                ),
                                              ),
                                            ),
                                          ),
                                        ),
                                      ),
                                    ),
                                  ),
                                ),
                              ),
                            ),
                          ),
                        ),
                      ),
                    ),
                  ),
                ),
              ),
            ),
          ),
        ),
      ),
    );
    whole = refl;
  };
}

-- ---- what is observed

abbrev numbered : Content
numbered = with_numbers 1 0 hello_message

abbrev near_logs : Logs
near_logs = record { fast = []; queued = [] }

abbrev far_logs : Logs
far_logs = record { fast = []; queued = heard.message 0 key 1 (cookie_of facts_of_b 1) numbered ∷ [] }

are_logs : AreLogs facts_of_a facts_of_b (entries_to_a_mark marked_link order) near_logs far_logs
unfolding order hello its_trail journal_of_a journal_of_b unread_of text_of preamble_text segment_crc after_byte shifted shifted_by judge judge_first judge_later judge_epilogue size_of read_preamble bounded_at cookie_at flag_at numbers_at list_at string_at vector_field tail_at head_at socket_at body_of shape_at addresses_at vector_at header_text
are_logs = record { near = λ none l. (_, refl); far = λ none l. one (is_key key l) }
  where
    one : (b : Bool) → AreFirstOf (map unnumbered (if b then numbered ∷ [] else [])) (if b then unnumbered numbered ∷ [] else [])
    one true = ([], refl)
    one false = ([], refl)

shown_is : observed facts_of_a facts_of_b (entries_of (order_of marked_link order)) far_logs
    ≡ post key hello_message ∷ accept key numbered ∷ acknowledge 1 ∷ mark ∷ reset ∷ dispatch key hello_message ∷ []
unfolding order hello its_trail journal_of_a journal_of_b unread_of text_of preamble_text segment_crc after_byte shifted shifted_by judge judge_first judge_later judge_epilogue size_of read_preamble bounded_at cookie_at flag_at numbers_at list_at string_at vector_field tail_at head_at socket_at body_of shape_at addresses_at vector_at header_text
shown_is = refl

pub one_message : AMarkedLinkIsWoven
one_message = record {
  link = marked_link;
  order = order;
  nodes = record { allowed = refl; near_keeps = refl; far_keeps = refl; places = apart_places; near_salt = ltb-true 5 (2 ^ 16) refl; far_salt = ltb-true 6 (2 ^ 16) refl };
  is_link = link_is;
  is_order = order_is;
  near_logs = near_logs;
  far_logs = far_logs;
  logs = are_logs;
  key = key;
  message = hello_message;
  shown = shown_is;
}
