-- A run of two records, computed, as a link: a message is brought over and acknowledged. The order of its entries fits.
use Rattle.std.specs.Prelude.{◌≡◌, [], ◌∷◌, map, refl}
use Rattle.m2_queues.specs.m2_crc.Crc.{after_byte, shifted, shifted_by}
use Rattle.m2_queues.specs.m2_frame.Reading.{judge, judge_first, judge_later, judge_epilogue, size_of}
use Rattle.m2_queues.specs.m2_frame.Preamble.{read_preamble, preamble_text}
use Rattle.m2_queues.specs.m2_frame.Text.{segment_crc, text_of}
use Rattle.m2_session.specs.m2_control.Fields.{bounded_at, cookie_at, flag_at, numbers_at, list_at, string_at, vector_field}
use Rattle.m2_session.specs.m2_control.Ident.{tail_at}
use Rattle.m2_session.specs.m2_addr.Addr.{head_at, socket_at, body_of, shape_at}
use Rattle.m2_session.specs.m2_addr.Vector.{addresses_at, vector_at}
use Rattle.m2_queues.specs.m2_message.HeaderText.{header_text}
use Rattle.m2_queues.specs.m2_message.Message.{unnumbered}
use Rattle.m2_journal.specs.Lawful.{judged_on}
use Rattle.m2_journal.proofs.OneMessage.{first_ask, delivered}
use Rattle.m2_journal.proofs.Pair.{socket, hello_message}
use Rattle.m2_never_reset.specs.Link.{ready, by_near}
use Rattle.m2_never_reset.specs.Mails.{ack}
use Rattle.m2_never_reset.specs.Fits.{ask_by, HearsAt}
use Rattle.m2_never_reset.specs.Frames.{asks_on}
use Rattle.m2_never_reset.specs.LinkOf.{link_of}

-- both stand in Ready on the one socket; the acknowledgement has come, and isn't passed over yet
stands : ((link_of 0 delivered.a delivered.b).near_stand ≡ ready (ack 1 ∷ [])) × ((link_of 0 delivered.a delivered.b).far_stand ≡ ready [])
unfolding text_of preamble_text segment_crc after_byte shifted shifted_by judge judge_first judge_later judge_epilogue size_of read_preamble bounded_at cookie_at flag_at numbers_at list_at string_at vector_field tail_at head_at socket_at body_of shape_at addresses_at vector_at header_text
stands = (refl, refl)

joined : (link_of 0 delivered.a delivered.b).joined ≡ by_near
unfolding text_of preamble_text segment_crc after_byte shifted shifted_by judge judge_first judge_later judge_epilogue size_of read_preamble bounded_at cookie_at flag_at numbers_at list_at string_at vector_field tail_at head_at socket_at body_of shape_at addresses_at vector_at header_text
joined = refl

-- the far side has accepted the message that the near side has numbered, and the near side knows it
accepted : (link_of 0 delivered.a delivered.b).far.accepted ≡ unnumbered hello_message ∷ []
unfolding text_of preamble_text segment_crc after_byte shifted shifted_by judge judge_first judge_later judge_epilogue size_of read_preamble bounded_at cookie_at flag_at numbers_at list_at string_at vector_field tail_at head_at socket_at body_of shape_at addresses_at vector_at header_text
accepted = refl

acknowledged : (link_of 0 delivered.a delivered.b).near.base ≡ 1
unfolding text_of preamble_text segment_crc after_byte shifted shifted_by judge judge_first judge_later judge_epilogue size_of read_preamble bounded_at cookie_at flag_at numbers_at list_at string_at vector_field tail_at head_at socket_at body_of shape_at addresses_at vector_at header_text
acknowledged = refl

-- ---- the order fits

asks : asks_on (socket 1) delivered.a.sent ≡ ask_by first_ask ∷ []
unfolding text_of preamble_text segment_crc after_byte shifted shifted_by judge judge_first judge_later judge_epilogue size_of read_preamble bounded_at cookie_at flag_at numbers_at list_at string_at vector_field tail_at head_at socket_at body_of shape_at addresses_at vector_at header_text
asks = refl

judged : map (λ i. ask_by i.ask) (judged_on (socket 1) delivered.b.judgements) ≡ ask_by first_ask ∷ []
unfolding text_of preamble_text segment_crc after_byte shifted shifted_by judge judge_first judge_later judge_epilogue size_of read_preamble bounded_at cookie_at flag_at numbers_at list_at string_at vector_field tail_at head_at socket_at body_of shape_at addresses_at vector_at header_text
judged = refl

its_socket : map (λ j. j.socket) delivered.b.judgements ≡ socket 1 ∷ []
unfolding text_of preamble_text segment_crc after_byte shifted shifted_by judge judge_first judge_later judge_epilogue size_of read_preamble bounded_at cookie_at flag_at numbers_at list_at string_at vector_field tail_at head_at socket_at body_of shape_at addresses_at vector_at header_text
its_socket = refl

opened : delivered.a.opened ≡ socket 1 ∷ []
unfolding text_of preamble_text segment_crc after_byte shifted shifted_by judge judge_first judge_later judge_epilogue size_of read_preamble bounded_at cookie_at flag_at numbers_at list_at string_at vector_field tail_at head_at socket_at body_of shape_at addresses_at vector_at header_text
opened = refl

near_hears : HearsAt delivered.a.feed delivered.b.sent
unfolding text_of preamble_text segment_crc after_byte shifted shifted_by judge judge_first judge_later judge_epilogue size_of read_preamble bounded_at cookie_at flag_at numbers_at list_at string_at vector_field tail_at head_at socket_at body_of shape_at addresses_at vector_at header_text
near_hears = ((refl, refl), (refl, tt))

far_hears : HearsAt delivered.b.feed delivered.a.sent
unfolding text_of preamble_text segment_crc after_byte shifted shifted_by judge judge_first judge_later judge_epilogue size_of read_preamble bounded_at cookie_at flag_at numbers_at list_at string_at vector_field tail_at head_at socket_at body_of shape_at addresses_at vector_at header_text
far_hears = (refl, tt)
