-- The same run in one order: two lawful journals, that fit behind each entry. So what is promised of histories is
-- promised of something.
use Rattle.std.specs.Prelude.{◌≡◌, List, [], ◌∷◌, ◌++◌, take, drop, map, refl}
use Rattle.std.specs.Prelude.{◌^◌}
use Rattle.std.proofs.Common.{◌∙◌, arith, sym, ap, subst}
use Rattle.std.proofs.lemmas.Bool.{ltb-true}
use Rattle.std.specs.List.{AllByRecursion}
use Rattle.m2_queues.specs.m2_crc.Crc.{after_byte, shifted, shifted_by}
use Rattle.m2_queues.specs.m2_frame.Reading.{judge, judge_first, judge_later, judge_epilogue, size_of}
use Rattle.m2_queues.specs.m2_frame.Preamble.{read_preamble, preamble_text}
use Rattle.m2_queues.specs.m2_frame.Text.{segment_crc, text_of}
use Rattle.m2_session.specs.m2_control.Fields.{bounded_at, cookie_at, flag_at, numbers_at, list_at, string_at, vector_field}
use Rattle.m2_session.specs.m2_control.Ident.{tail_at}
use Rattle.m2_session.specs.m2_addr.Addr.{head_at, socket_at, body_of, shape_at}
use Rattle.m2_session.specs.m2_addr.Vector.{addresses_at, vector_at}
use Rattle.m2_queues.specs.m2_message.HeaderText.{header_text}
use Rattle.m2_queues.specs.m2_message.Message.{unnumbered}
use Rattle.m2_session.specs.declared.answer.Answer.TheVariants.{Accept}
use Rattle.m2_journal.specs.Replay.{AreLawful, after_items}
use Rattle.m2_journal.specs.SideFacts.{SideFacts}
use Rattle.m2_journal.specs.State.{Judgement, State, start}
use Rattle.m2_journal.specs.Steps.{after}
use Rattle.m2_journal.proofs.OneMessage.{first_ask, delivered, lawful_at_a, lawful_at_b}
use Rattle.m2_journal.proofs.Pair.{facts_of_a, facts_of_b, socket, hello_message}
use Rattle.m2_never_reset.specs.Fits.{ask_by, HearsAt, Fits}
use Rattle.m2_never_reset.specs.Frames.{asks_on}
use Rattle.m2_never_reset.specs.PairLaws.{IsNoDown}
use Rattle.m2_never_reset.specs.LinkOf.{letters}
use Rattle.m2_never_reset.specs.Orders.{SideItem, near_item, far_item, near_items, far_items}
use Rattle.m2_never_reset.specs.Orders.{FitThroughout, IsHistory, AreNodes, AMessageComesOver}

-- ---- the order: the near side opens, both sign, and it asks; it is accepted, and sends a message; that is accepted
-- and acknowledged

p1 : List SideItem
p1 = map near_item (take 9 delivered.of_a)

p2 : List SideItem
p2 = map far_item (take 2 delivered.of_b)

p3 : List SideItem
p3 = map near_item (take 3 (drop 9 delivered.of_a))

p4 : List SideItem
p4 = map far_item (drop 2 delivered.of_b)

p5 : List SideItem
p5 = map near_item (drop 12 delivered.of_a)

pub order : List SideItem
order = p1 ++ (p2 ++ (p3 ++ (p4 ++ p5)))

near_is : near_items order ≡ delivered.of_a
unfolding order p1 p2 p3 p4 p5
near_is = refl

far_is : far_items order ≡ delivered.of_b
unfolding order p1 p2 p3 p4 p5
far_is = refl

-- ---- it fits

pub fit-append : (f g : SideFacts) (xs ys : List SideItem) (a b : State) → FitThroughout f g xs a b →
    FitThroughout f g ys (after_items f (near_items xs) a) (after_items g (far_items xs) b) →
    FitThroughout f g (xs ++ ys) a b
fit-append f g [] ys a b h k = k
fit-append f g (near_item i ∷ xs) ys a b h k = (h.0, fit-append f g xs ys (after f i a) b h.1 k)
fit-append f g (far_item i ∷ xs) ys a b h k = (h.0, fit-append f g xs ys a (after g i b) h.1 k)

-- where the parts lead
abbrev near_on : List SideItem → State → State
near_on p a = after_items facts_of_a (near_items p) a

abbrev far_on : List SideItem → State → State
far_on p b = after_items facts_of_b (far_items p) b

abbrev a1 : State
a1 = near_on p1 (start facts_of_a)

abbrev b1 : State
b1 = far_on p1 (start facts_of_b)

abbrev a2 : State
a2 = near_on p2 a1

abbrev b2 : State
b2 = far_on p2 b1

abbrev a3 : State
a3 = near_on p3 a2

abbrev b3 : State
b3 = far_on p3 b2

abbrev a4 : State
a4 = near_on p4 a3

abbrev b4 : State
b4 = far_on p4 b3

abbrev a5 : State
a5 = near_on p5 a4

abbrev b5 : State
b5 = far_on p5 b4

-- its one judgement
abbrev its : Judgement
its = record { socket = socket 1; item = record { ask = first_ask; answer = Accept } }

-- before any judgement
fits_early : (a b : State) → HearsAt a.feed b.sent →
    HearsAt b.feed a.sent → a.judgements ≡ [] → b.judgements ≡ [] → b.opened ≡ [] → Fits a b
fits_early a b near far none nothing unopened = record {
  near_hears = near;
  far_hears = far;
  near_judges = rw none tt;
  far_judges = rw nothing tt;
  opened_apart = λ k e. rw unopened refl;
}

-- behind it, from what each side has, by value
fits_so : (a b : State) → HearsAt a.feed b.sent →
    HearsAt b.feed a.sent → a.judgements ≡ [] → b.opened ≡ [] →
    a.opened ≡ socket 1 ∷ [] → asks_on (socket 1) a.sent ≡ ask_by first_ask ∷ [] → b.judgements ≡ its ∷ [] → Fits a b
fits_so a b near far none nothing opened asks judged = record {
  near_hears = near;
  far_hears = far;
  near_judges = rw none tt;
  far_judges = rw judged (record { opened = rw opened refl; more = []; first = asks }, tt);
  opened_apart = λ k e. rw nothing refl;
}

f1 : FitThroughout facts_of_a facts_of_b p1 (start facts_of_a) (start facts_of_b)
unfolding p1 p2 p3 p4 p5 text_of preamble_text segment_crc after_byte shifted shifted_by judge judge_first judge_later judge_epilogue size_of read_preamble bounded_at cookie_at flag_at numbers_at list_at string_at vector_field tail_at head_at socket_at body_of shape_at addresses_at vector_at header_text
f1 = (
  fits_early _ _ tt tt refl refl refl,
  (
    fits_early _ _ tt tt refl refl refl,
    (
      fits_early _ _ tt tt refl refl refl,
      (
        fits_early _ _ tt tt refl refl refl,
        (
          fits_early _ _ tt tt refl refl refl,
          (
            fits_early _ _ tt tt refl refl refl,
            (
              fits_early _ _ tt tt refl refl refl,
              (
                fits_early _ _ tt tt refl refl refl,
                (
                  fits_early _ _ tt tt refl refl refl,
                  tt,
                ),
              ),
            ),
          ),
        ),
      ),
    ),
  ),
)

f2 : FitThroughout facts_of_a facts_of_b p2 a1 b1
unfolding p1 p2 p3 p4 p5 text_of preamble_text segment_crc after_byte shifted shifted_by judge judge_first judge_later judge_epilogue size_of read_preamble bounded_at cookie_at flag_at numbers_at list_at string_at vector_field tail_at head_at socket_at body_of shape_at addresses_at vector_at header_text
f2 = (
  fits_so _ _ tt tt refl refl refl refl refl,
  (
    fits_so _ _ tt tt refl refl refl refl refl,
    tt,
  ),
)

f3 : FitThroughout facts_of_a facts_of_b p3 a2 b2
unfolding p1 p2 p3 p4 p5 text_of preamble_text segment_crc after_byte shifted shifted_by judge judge_first judge_later judge_epilogue size_of read_preamble bounded_at cookie_at flag_at numbers_at list_at string_at vector_field tail_at head_at socket_at body_of shape_at addresses_at vector_at header_text
f3 = (
  fits_so _ _ ((refl, refl), tt) tt refl refl refl refl refl,
  (
    fits_so _ _ ((refl, refl), tt) tt refl refl refl refl refl,
    (
      fits_so _ _ ((refl, refl), tt) tt refl refl refl refl refl,
      tt,
    ),
  ),
)

f4 : FitThroughout facts_of_a facts_of_b p4 a3 b3
unfolding p1 p2 p3 p4 p5 text_of preamble_text segment_crc after_byte shifted shifted_by judge judge_first judge_later judge_epilogue size_of read_preamble bounded_at cookie_at flag_at numbers_at list_at string_at vector_field tail_at head_at socket_at body_of shape_at addresses_at vector_at header_text
f4 = (
  fits_so _ _ ((refl, refl), tt) (refl, tt) refl refl refl refl refl,
  (
    fits_so _ _ ((refl, refl), tt) (refl, tt) refl refl refl refl refl,
    (
      fits_so _ _ ((refl, refl), tt) (refl, tt) refl refl refl refl refl,
      tt,
    ),
  ),
)

f5 : FitThroughout facts_of_a facts_of_b p5 a4 b4
unfolding p1 p2 p3 p4 p5 text_of preamble_text segment_crc after_byte shifted shifted_by judge judge_first judge_later judge_epilogue size_of read_preamble bounded_at cookie_at flag_at numbers_at list_at string_at vector_field tail_at head_at socket_at body_of shape_at addresses_at vector_at header_text
f5 = (
  fits_so _ _ ((refl, refl), (refl, tt)) (refl, tt) refl refl refl refl refl,
  (
    fits_so _ _ ((refl, refl), (refl, tt)) (refl, tt) refl refl refl refl refl,
    tt,
  ),
)

pub fit : FitThroughout facts_of_a facts_of_b order (start facts_of_a) (start facts_of_b)
unfolding order
fit =
    fit-append facts_of_a facts_of_b p1 (p2 ++ (p3 ++ (p4 ++ p5))) (start facts_of_a) (start facts_of_b) f1
    (fit-append facts_of_a facts_of_b p2 (p3 ++ (p4 ++ p5)) a1 b1 f2
    (fit-append facts_of_a facts_of_b p3 (p4 ++ p5) a2 b2 f3
    (fit-append facts_of_a facts_of_b p4 p5 a3 b3 f4 f5)))

-- ---- so it is a history of two nodes

nodes : AreNodes facts_of_a facts_of_b
nodes = record {
  allowed = refl;
  near_keeps = refl;
  far_keeps = refl;
  places = λ e. absurd (omega (arith, e));
  near_salt = ltb-true 5 (2 ^ 16) refl;
  far_salt = ltb-true 6 (2 ^ 16) refl;
}

history : IsHistory facts_of_a facts_of_b order
history = record {
  near_lawful = subst (λ is. AreLawful facts_of_a is (start facts_of_a)) (sym near_is) lawful_at_a;
  far_lawful = subst (λ is. AreLawful facts_of_b is (start facts_of_b)) (sym far_is) lawful_at_b;
  near_not_down = subst (AllByRecursion IsNoDown) (sym near_is)
      (tt, (tt, (tt, (tt, (tt, (tt, (tt, (tt, (tt, (tt, (tt, (tt, (tt, (tt, tt))))))))))))));
  far_not_down = subst (AllByRecursion IsNoDown) (sym far_is) (tt, (tt, (tt, (tt, (tt, tt)))));
  fits = fit;
}

letters_at_b : letters (after_items facts_of_b delivered.of_b (start facts_of_b)).deliveries
    ≡ unnumbered hello_message ∷ []
unfolding p1 p2 p3 p4 p5 text_of preamble_text segment_crc after_byte shifted shifted_by judge judge_first judge_later judge_epilogue size_of read_preamble bounded_at cookie_at flag_at numbers_at list_at string_at vector_field tail_at head_at socket_at body_of shape_at addresses_at vector_at header_text
letters_at_b = refl

base_at_a : (after_items facts_of_a delivered.of_a (start facts_of_a)).out.queue.base ≡ 1
unfolding p1 p2 p3 p4 p5 text_of preamble_text segment_crc after_byte shifted shifted_by judge judge_first judge_later judge_epilogue size_of read_preamble bounded_at cookie_at flag_at numbers_at list_at string_at vector_field tail_at head_at socket_at body_of shape_at addresses_at vector_at header_text
base_at_a = refl

pub comes_over : AMessageComesOver
comes_over = record {
  f = facts_of_a;
  g = facts_of_b;
  order = order;
  nodes = nodes;
  history = history;
  message = unnumbered hello_message;
  accepted = ap (λ is. letters (after_items facts_of_b is (start facts_of_b)).deliveries) far_is ∙ letters_at_b;
  acknowledged = ap (λ is. (after_items facts_of_a is (start facts_of_a)).out.queue.base) near_is ∙ base_at_a;
}
