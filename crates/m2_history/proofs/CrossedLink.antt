-- A link that is woven, on which a socket broke in the middle of a message, and both sides connected at once.
use Rattle.std.specs.Prelude.{◌≡◌, ℕ, ◌^◌, Bool, true, false, if◌then◌else◌, List, [], ◌∷◌, drop, map, take, None, refl}
use Rattle.std.proofs.Common.{sym, subst}
use Rattle.std.specs.List.{AllByRecursion, IsDistinct}
use Rattle.std.specs.Borrow.{Bor}
use Rattle.std.proofs.lemmas.Bool.{leb-true, ltb-true}
use Rattle.m2_message.specs.m2_crc.Crc.{after_byte, shifted, shifted_by}
use Rattle.m2_message.specs.m2_frame.Reading.{judge, judge_first, judge_later, judge_epilogue, size_of}
use Rattle.m2_message.specs.m2_frame.Preamble.{read_preamble, preamble_text}
use Rattle.m2_message.specs.m2_frame.Text.{segment_crc, text_of}
use Rattle.m2_trail.specs.m2_control.Fields.{bounded_at, cookie_at, flag_at, numbers_at, list_at, string_at, vector_field}
use Rattle.m2_trail.specs.m2_control.Ident.{tail_at}
use Rattle.m2_trail.specs.m2_control.Laws.{HasAddrRanges}
use Rattle.m2_policy.specs.m2_addr.Addr.{head_at, socket_at, body_of, shape_at}
use Rattle.m2_policy.specs.m2_addr.Vector.{addresses_at, vector_at}
use Rattle.m2_message.specs.HeaderText.{header_text}
use Rattle.m2_message.specs.Message.{Content, unnumbered, with_numbers}
use Rattle.m2_bytes_fit.specs.Orders.{entries_of}
use Rattle.m2_bytes_fit.specs.Texts.{CanBePosted}
use Rattle.m2_channel.specs.Channel.{accept, acknowledge, dispatch, post}
use Rattle.m2_channel.specs.Observed.{Logs, observed}
use Rattle.m2_channel.specs.ObservedLaws.{AreLogs}
use Rattle.m2_channel.specs.m2_never_reset.Order.{AreFirstOf}
use Rattle.m2_dispatch.specs.Heard as heard
use Rattle.m2_dispatch.specs.Heard.{is_key}
use Rattle.m2_fabric.specs.End.{SeenEnd}
use Rattle.m2_fabric.specs.Log.{Log}
use Rattle.m2_fabric.specs.declared.socket.SocketId.{SocketId}
use Rattle.m2_journal.specs.declared.facts.PlanStep.{PlanStep}
use Rattle.m2_journal.specs.declared.facts.PlanStep.TheVariants as step
use Rattle.m2_journal.specs.Items.{JournalItem}
use Rattle.m2_journal.specs.Replay.{AreLawful}
use Rattle.m2_journal.specs.SideFacts.{cookie_of}
use Rattle.m2_journal.specs.State.{start}
use Rattle.m2_journal.proofs.OneMessage.{key}
use Rattle.m2_journal.proofs.Pair.{facts_of_a, facts_of_b, hello_message, socket}
use Rattle.m2_journal.proofs.Written.{holds}
use Rattle.m2_trail.specs.Trails.{TrailNow, opener_of, unread_of}
use Rattle.m2_record.specs.TakenTrails.{IsKeptTrail}
use Rattle.m2_weave.specs.declared.table.SocketBytes.{SocketBytes}
use Rattle.m2_history.specs.Actors.{part_of}
use Rattle.m2_history.specs.Crossed.{ACrossedLinkIsWoven}
use Rattle.m2_history.specs.Parts.{PartsNow}
use Rattle.m2_history.specs.Woven.{ends_of}
use Rattle.m2_history.specs.WovenLink.{AreUp, IsLink, IsOrderOf, IsSideOf, LinkNow, items_by, items_in, order_of, same_end, trails_of}
use Rattle.m2_history.proofs.Crossing.{all_of_a, all_of_b, back, fourth_ask, lawful_a, lawful_b, third_ask}
use Rattle.m2_history.proofs.CrossingTrails.{facts_1, facts_2, facts_3, far_log, journal_of_a, journal_of_b, log_by, near_log, of_acceptor, of_opener, taken_1, taken_2, taken_3, trail_1, trail_2, trail_3}
use Rattle.m2_history.proofs.OneLink.{apart_places, facts_by, named, opener_fits, other_port}
use Rattle.m2_history.proofs.OneMessage.{can_be_posted, hello}

-- ---- both sides as they are kept

abbrev end_with : SocketId → Log → SeenEnd
end_with k log = record { id = k; log = log; faults = 0; left = None; inflow = None }

abbrev near : PartsNow
near = record { journal = journal_of_a; trails = []; ends = end_with (socket 1) (near_log true 1) ∷ end_with (socket 2) (near_log true 2) ∷ end_with (socket 3) (near_log false 3) ∷ [] }

-- nothing came over the far side's own socket
abbrev back_log : Log
back_log = record (log_by false [] [] []) { closed = true }

abbrev far : PartsNow
far = record {
  journal = journal_of_b;
  trails = trail_1 ∷ trail_2 ∷ trail_3 ∷ [];
  ends = end_with (socket 1) (far_log true trail_1 1) ∷ end_with (socket 2) (far_log true trail_2 2) ∷ end_with back back_log ∷ end_with (socket 3) (far_log false trail_3 3) ∷ [];
}

abbrev plan_by : Bool → List PlanStep
plan_by true = step.Post hello ∷ []
plan_by false = step.Dial ∷ []

abbrev crossing_link : LinkNow
crossing_link = record { facts = facts_by; plans = plan_by; both = record { a = near; b = far; loose = [] } }

-- ---- the halves that were taken

kept_1 : IsKeptTrail 4 far.ends journal_of_b trail_1
unfolding hello trail_1 trail_2 trail_3 journal_of_a journal_of_b unread_of text_of preamble_text segment_crc after_byte shifted shifted_by judge judge_first judge_later judge_epilogue size_of read_preamble bounded_at cookie_at flag_at numbers_at list_at string_at vector_field tail_at head_at socket_at body_of shape_at addresses_at vector_at header_text
kept_1 = record { entity = refl; beside = record { entries = refl; runs = (_, refl); within = record { got = leb-true _ _ refl; put = leb-true _ _ refl }; facts = facts_1; taken = taken_1 }; judged = refl }

kept_2 : IsKeptTrail 4 far.ends journal_of_b trail_2
unfolding hello trail_1 trail_2 trail_3 journal_of_a journal_of_b unread_of text_of preamble_text segment_crc after_byte shifted shifted_by judge judge_first judge_later judge_epilogue size_of read_preamble bounded_at cookie_at flag_at numbers_at list_at string_at vector_field tail_at head_at socket_at body_of shape_at addresses_at vector_at header_text
kept_2 = record { entity = refl; beside = record { entries = refl; runs = (_, refl); within = record { got = leb-true _ _ refl; put = leb-true _ _ refl }; facts = facts_2; taken = taken_2 }; judged = refl }

kept_3 : IsKeptTrail 4 far.ends journal_of_b trail_3
unfolding hello trail_1 trail_2 trail_3 journal_of_a journal_of_b unread_of text_of preamble_text segment_crc after_byte shifted shifted_by judge judge_first judge_later judge_epilogue size_of read_preamble bounded_at cookie_at flag_at numbers_at list_at string_at vector_field tail_at head_at socket_at body_of shape_at addresses_at vector_at header_text
kept_3 = record { entity = refl; beside = record { entries = refl; runs = (_, refl); within = record { got = leb-true _ _ refl; put = leb-true _ _ refl }; facts = facts_3; taken = taken_3 }; judged = refl }

-- ---- both sides

items_a : items_by crossing_link true ≡ all_of_a
unfolding hello trail_1 trail_2 trail_3 journal_of_a journal_of_b unread_of text_of preamble_text segment_crc after_byte shifted shifted_by judge judge_first judge_later judge_epilogue size_of read_preamble bounded_at cookie_at flag_at numbers_at list_at string_at vector_field tail_at head_at socket_at body_of shape_at addresses_at vector_at header_text
items_a = refl

items_b : items_by crossing_link false ≡ all_of_b
unfolding hello trail_1 trail_2 trail_3 journal_of_a journal_of_b unread_of text_of preamble_text segment_crc after_byte shifted shifted_by judge judge_first judge_later judge_epilogue size_of read_preamble bounded_at cookie_at flag_at numbers_at list_at string_at vector_field tail_at head_at socket_at body_of shape_at addresses_at vector_at header_text
items_b = refl

lawful : (s : Bool) → AreLawful (facts_by s) (items_by crossing_link s) (start (facts_by s))
lawful true = subst (λ (is : List JournalItem). AreLawful facts_of_a is (start facts_of_a)) (sym items_a) lawful_a
lawful false = subst (λ (is : List JournalItem). AreLawful facts_of_b is (start facts_of_b)) (sym items_b) lawful_b

sides : (s : Bool) → IsSideOf (facts_by s) (plan_by s) (part_of crossing_link.both s)
unfolding journal_of_a journal_of_b trail_1 trail_2 trail_3
sides true = record { lawful = lawful true; ends = (holds, (holds, (holds, tt))); trails = record { sockets = refl; each = tt } }
sides false = record { lawful = lawful false; ends = (holds, (holds, (holds, (holds, tt)))); trails = record { sockets = refl; each = (kept_1, (kept_2, (kept_3, tt))) } }

can_post : (s : Bool) → AllByRecursion CanBePosted (items_in (plan_by s) (part_of crossing_link.both s))
unfolding hello journal_of_a journal_of_b
can_post true = (can_be_posted, (tt, (tt, (tt, (tt, (tt, (tt, (tt, (tt, (tt, (tt, (tt, (tt, (tt, (tt, (tt, (tt, (tt, (tt, (tt, (tt, (tt, (tt, (tt, (tt, (tt, (tt, (tt, (tt, (tt, (tt, (tt, (tt, (tt, (tt, (tt, (tt, (tt, tt))))))))))))))))))))))))))))))))))))))
can_post false = (tt, (tt, (tt, (tt, (tt, (tt, (tt, (tt, (tt, (tt, (tt, (tt, (tt, (tt, (tt, tt)))))))))))))))

are_up : AreUp crossing_link
unfolding hello journal_of_a journal_of_b
are_up true = (tt, (tt, (tt, (tt, (tt, (tt, (tt, (tt, (tt, (tt, (tt, (tt, (tt, (tt, (tt, (tt, (tt, (tt, (tt, (tt, (tt, (tt, (tt, (tt, (tt, (tt, (tt, (tt, (tt, (tt, (tt, (tt, (tt, (tt, (tt, (tt, (tt, (tt, tt))))))))))))))))))))))))))))))))))))))
are_up false = (tt, (tt, (tt, (tt, (tt, (tt, (tt, (tt, (tt, (tt, (tt, (tt, (tt, (tt, (tt, tt)))))))))))))))

apart : IsDistinct same_end (ends_of crossing_link.both)
unfolding IsDistinct journal_of_a journal_of_b
apart = ((refl, (refl, (refl, (refl, (refl, (refl, tt)))))), ((refl, (refl, (refl, (refl, (refl, tt))))), ((refl, (refl, (refl, (refl, tt)))), ((refl, (refl, (refl, tt))), ((refl, (refl, tt)), ((refl, tt), (tt, tt)))))))

seen : AllByRecursion (λ (t : TrailNow). HasAddrRanges (opener_of t.socket)) (trails_of crossing_link.both)
unfolding trail_1 trail_2 trail_3
seen = (opener_fits, (opener_fits, (opener_fits, tt)))

link_is : IsLink crossing_link
link_is = record { sides = sides; joined = record { posts = can_post; loose = tt; apart = apart; named = named; seen = seen; peers = λ j e. other_port j.to_ip j.to_port e } }

-- ---- the order: the near journal, the far one, and the three halves

order : List ℕ
order = 0 ∷ 0 ∷ 0 ∷ 2 ∷ 2 ∷ 0 ∷ 0 ∷ 2 ∷ 2 ∷ 0 ∷ 0 ∷ 2 ∷ 0 ∷ 0 ∷ 2 ∷ 2 ∷ 1 ∷ 1 ∷ 0 ∷ 0 ∷ 0 ∷ 1 ∷ 0 ∷ 1 ∷ 0 ∷ 0 ∷ 3 ∷ 3 ∷ 0 ∷ 0 ∷ 3 ∷ 3 ∷ 0 ∷ 0 ∷ 3 ∷ 0 ∷ 0 ∷ 3 ∷ 3 ∷ 1 ∷ 0 ∷ 1 ∷ 1 ∷ 1 ∷ 0 ∷ 0 ∷ 4 ∷ 4 ∷ 0 ∷ 0 ∷ 4 ∷ 4 ∷ 0 ∷ 0 ∷ 4 ∷ 0 ∷ 0 ∷ 4 ∷ 4 ∷ 1 ∷ 4 ∷ 0 ∷ 0 ∷ 0 ∷ 4 ∷ 4 ∷ 1 ∷ 1 ∷ 1 ∷ 0 ∷ 0 ∷ 0 ∷ 1 ∷ 1 ∷ 1 ∷ 0 ∷ 0 ∷ []

abbrev bytes : List ℕ → Bor (List ℕ)
bytes xs = record { ref_ptr = (0, 0); now = xs }

abbrev row : ℕ → SocketBytes
row n = record { socket = socket n; opener = record { got = bytes (of_acceptor n); put = bytes (of_opener n) }; acceptor = record { got = bytes (of_opener n); put = bytes (of_acceptor n) } }

abbrev back_row : SocketBytes
back_row = record { socket = back; opener = record { got = bytes []; put = bytes [] }; acceptor = record { got = bytes []; put = bytes [] } }

order_is : IsOrderOf crossing_link order
unfolding hello order trail_1 trail_2 trail_3 journal_of_a journal_of_b unread_of text_of preamble_text segment_crc after_byte shifted shifted_by judge judge_first judge_later judge_epilogue size_of read_preamble bounded_at cookie_at flag_at numbers_at list_at string_at vector_field tail_at head_at socket_at body_of shape_at addresses_at vector_at header_text
order_is = record {
  sockets = row 1 ∷ row 2 ∷ row 3 ∷ row 1 ∷ row 2 ∷ back_row ∷ row 3 ∷ [];
  rows = refl;
  woven = record {
    lawful = (
      record { more = ltb-true 0 38 refl; met = refl },
      (
        record { more = ltb-true 1 38 refl; met = refl },
        (
          record { more = ltb-true 2 38 refl; met = refl },
          (
            record { more = ltb-true 0 7 refl; met = refl },
            (
              record { more = ltb-true 1 7 refl; met = refl },
              (
                record { more = ltb-true 3 38 refl; met = refl },
                (
                  record { more = ltb-true 4 38 refl; met = refl },
                  (
                    record { more = ltb-true 2 7 refl; met = refl },
                    (
                      record { more = ltb-true 3 7 refl; met = refl },
                      (
                        record { more = ltb-true 5 38 refl; met = refl },
                        (
                          record { more = ltb-true 6 38 refl; met = refl },
                          (
                            record { more = ltb-true 4 7 refl; met = refl },
                            (
                              record { more = ltb-true 7 38 refl; met = refl },
                              (
                                record { more = ltb-true 8 38 refl; met = refl },
                                (
                                  record { more = ltb-true 5 7 refl; met = refl },
                                  (
                                    record { more = ltb-true 6 7 refl; met = refl },
                                    (
                                      record { more = ltb-true 0 15 refl; met = refl },
                                      (
                                        record { more = ltb-true 1 15 refl; met = refl },
                                        (
                                          record { more = ltb-true 9 38 refl; met = refl },
                                          (
                                            record { more = ltb-true 10 38 refl; met = refl },
                                            (
                                              record { more = ltb-true 11 38 refl; met = refl },
                                              (
                                                record { more = ltb-true 2 15 refl; met = refl },
                                                (
                                                  record { more = ltb-true 12 38 refl; met = refl },
                                                  (
                                                    record { more = ltb-true 3 15 refl; met = refl },
                                                    (
                                                      record { more = ltb-true 13 38 refl; met = refl },
                                                      (
                                                        record { more = ltb-true 14 38 refl; met = refl },
                                                        (
                                                          record { more = ltb-true 0 7 refl; met = refl },
                                                          (
                                                            record { more = ltb-true 1 7 refl; met = refl },
                                                            (
                                                              record { more = ltb-true 15 38 refl; met = refl },
                                                              (
                                                                record { more = ltb-true 16 38 refl; met = refl },
                                                                (
                                                                  record { more = ltb-true 2 7 refl; met = refl },
                                                                  (
                                                                    record { more = ltb-true 3 7 refl; met = refl },
                                                                    (
                                                                      record { more = ltb-true 17 38 refl; met = refl },
                                                                      (
                                                                        record { more = ltb-true 18 38 refl; met = refl },
                                                                        (
                                                                          record { more = ltb-true 4 7 refl; met = refl },
                                                                          (
                                                                            record { more = ltb-true 19 38 refl; met = refl },
                                                                            (
                                                                              record { more = ltb-true 20 38 refl; met = refl },
                                                                              (
                                                                                record { more = ltb-true 5 7 refl; met = refl },
                                                                                (
                                                                                  record { more = ltb-true 6 7 refl; met = refl },
                                                                                  (
                                                                                    record { more = ltb-true 4 15 refl; met = refl },
                                                                                    (
                                                                                      record { more = ltb-true 21 38 refl; met = refl },
                                                                                      (
                                                                                        record { more = ltb-true 5 15 refl; met = refl },
                                                                                        (
                                                                                          record { more = ltb-true 6 15 refl; met = refl },
                                                                                          (
                                                                                            record { more = ltb-true 7 15 refl; met = refl },
                                                                                            (
                                                                                              record { more = ltb-true 22 38 refl; met = refl },
                                                                                              (
                                                                                                record { more = ltb-true 23 38 refl; met = refl },
                                                                                                (
                                                                                                  record { more = ltb-true 0 10 refl; met = refl },
                                                                                                  (
                                                                                                    record { more = ltb-true 1 10 refl; met = refl },
                                                                                                    (
                                                                                                      record { more = ltb-true 24 38 refl; met = refl },
                                                                                                      (
                                                                                                        record { more = ltb-true 25 38 refl; met = refl },
                                                                                                        (
                                                                                                          record { more = ltb-true 2 10 refl; met = refl },
                                                                                                          (
                                                                                                            record { more = ltb-true 3 10 refl; met = refl },
                                                                                                            (
                                                                                                              record { more = ltb-true 26 38 refl; met = refl },
                                                                                                              (
                                                                                                                record { more = ltb-true 27 38 refl; met = refl },
                                                                                                                (
                                                                                                                  record { more = ltb-true 4 10 refl; met = refl },
                                                                                                                  (
                                                                                                                    record { more = ltb-true 28 38 refl; met = refl },
                                                                                                                    (
                                                                                                                      record { more = ltb-true 29 38 refl; met = refl },
                                                                                                                      (
                                                                                                                        record { more = ltb-true 5 10 refl; met = refl },
                                                                                                                        (
                                                                                                                          record { more = ltb-true 6 10 refl; met = refl },
                                                                                                                          (
                                                                                                                            record { more = ltb-true 8 15 refl; met = refl },
                                                                                                                            (
                                                                                                                              record { more = ltb-true 7 10 refl; met = refl },
                                                                                                                              (
                                                                                                                                record { more = ltb-true 30 38 refl; met = refl },
                                                                                                                                (
                                                                                                                                  record { more = ltb-true 31 38 refl; met = refl },
                                                                                                                                  (
                                                                                                                                    record { more = ltb-true 32 38 refl; met = refl },
                                                                                                                                    (
                                                                                                                                      record { more = ltb-true 8 10 refl; met = refl },
                                                                                                                                      (
                                                                                                                                        record { more = ltb-true 9 10 refl; met = refl },
                                                                                                                                        (
                                                                                                                                          record { more = ltb-true 9 15 refl; met = refl },
                                                                                                                                          (
                                                                                                                                            record { more = ltb-true 10 15 refl; met = refl },
                                                                                                                                            (
                                                                                                                                              record { more = ltb-true 11 15 refl; met = refl },
                                                                                                                                              (
                                                                                                                                                record { more = ltb-true 33 38 refl; met = refl },
                                                                                                                                                (
                                                                                                                                                  record { more = ltb-true 34 38 refl; met = refl },
                                                                                                                                                  (
                                                                                                                                                    record { more = ltb-true 35 38 refl; met = refl },
                                                                                                                                                    (
                                                                                                                                                      record { more = ltb-true 12 15 refl; met = refl },
                                                                                                                                                      (
                                                                                                                                                        record { more = ltb-true 13 15 refl; met = refl },
                                                                                                                                                        (
                                                                                                                                                          record { more = ltb-true 14 15 refl; met = refl },
                                                                                                                                                          (
                                                                                                                                                            record { more = ltb-true 36 38 refl; met = refl },
                                                                                                                                                            (
                                                                                                                                                              record { more = ltb-true 37 38 refl; met = refl },
                                                                                                                                                              tt,
                                                                                                                                                            ),
                                                                                                                                                          ),
                                                                                                                                                        ),
                                                                                                                                                      ),
                                                                                                                                                    ),
                                                                                                                                                  ),
                                                                                                                                                ),
                                                                                                                                              ),
                                                                                                                                            ),
                                                                                                                                          ),
                                                                                                                                        ),
                                                                                                                                      ),
                                                                                                                                    ),
                                                                                                                                  ),
                                                                                                                                ),
                                                                                                                              ),
                                                                                                                            ),
                                                                                                                          ),
                                                                                                                        ),
                                                                                                                      ),
                                                                                                                    ),
                                                                                                                  ),
                                                                                                                ),
                                                                                                              ),
                                                                                                            ),
                                                                                                          ),
                                                                                                        ),
                                                                                                      ),
                                                                                                    ),
                                                                                                  ),
                                                                                                ),
                                                                                              ),
                                                                                            ),
                                                                                          ),
                                                                                        ),
                                                                                      ),
                                                                                    ),
                                                                                  ),
                                                                                ),
                                                                              ),
                                                                            ),
                                                                          ),
                                                                        ),
                                                                      ),
                                                                    ),
                                                                  ),
                                                                ),
                                                              ),
                                                            ),
                                                          ),
                                                        ),
                                                      ),
                                                    ),
                                                  ),
                                                ),
                                              ),
                                            ),
                                          ),
                                        ),
                                      ),
                                    ),
                                  ),
                                ),
                              ),
                            ),
                          ),
                        ),
                      ),
                    ),
                  ),
                ),
              ),
            ),
          ),
        ),
      ),
    );
    whole = refl;
  };
}

-- ---- what is observed

abbrev numbered : Content
numbered = with_numbers 1 0 hello_message

abbrev near_logs : Logs
near_logs = record { fast = []; queued = [] }

abbrev far_logs : Logs
far_logs = record { fast = []; queued = heard.message 0 key 1 (cookie_of facts_of_b 1) numbered ∷ [] }

are_logs : AreLogs facts_of_a facts_of_b (entries_of (order_of crossing_link order)) near_logs far_logs
unfolding hello order trail_1 trail_2 trail_3 journal_of_a journal_of_b unread_of text_of preamble_text segment_crc after_byte shifted shifted_by judge judge_first judge_later judge_epilogue size_of read_preamble bounded_at cookie_at flag_at numbers_at list_at string_at vector_field tail_at head_at socket_at body_of shape_at addresses_at vector_at header_text
are_logs = record { near = λ none l. (_, refl); far = λ none l. one (is_key key l) }
  where
    one : (b : Bool) → AreFirstOf (map unnumbered (if b then numbered ∷ [] else [])) (if b then unnumbered numbered ∷ [] else [])
    one true = ([], refl)
    one false = ([], refl)

shown_is : observed facts_of_a facts_of_b (entries_of (order_of crossing_link order)) far_logs ≡ post key hello_message ∷ accept key numbered ∷ acknowledge 1 ∷ dispatch key hello_message ∷ []
unfolding hello order trail_1 trail_2 trail_3 journal_of_a journal_of_b unread_of text_of preamble_text segment_crc after_byte shifted shifted_by judge judge_first judge_later judge_epilogue size_of read_preamble bounded_at cookie_at flag_at numbers_at list_at string_at vector_field tail_at head_at socket_at body_of shape_at addresses_at vector_at header_text
shown_is = refl

pub crossed_link : ACrossedLinkIsWoven
unfolding journal_of_a journal_of_b
crossed_link = record {
  link = crossing_link;
  order = order;
  nodes = record { allowed = refl; near_keeps = refl; far_keeps = refl; places = apart_places; near_salt = ltb-true 5 (2 ^ 16) refl; far_salt = ltb-true 6 (2 ^ 16) refl };
  is_link = link_is;
  up = are_up;
  is_order = order_is;
  first = socket 1;
  bytes = 20;
  ahead = take 10 journal_of_a;
  later = drop 13 journal_of_a;
  broke = refl;
  own = back;
  theirs = socket 3;
  told = third_ask;
  again = fourth_ask;
  number = 3;
  next = 4;
  connect = 2;
  before = take 7 journal_of_b;
  behind = drop 11 journal_of_b;
  crossed = refl;
  near_logs = near_logs;
  far_logs = far_logs;
  logs = are_logs;
  key = key;
  message = hello_message;
  shown = shown_is;
}
