-- A history in which a message is dispatched in a life that a mark-down ends.
use Rattle.std.proofs.Common.{◌≡◌, ◌≢◌, ℕ, true, false, if◌then◌else◌, List, [], ◌∷◌, ◌++◌, map, Option, Some, None, refl, sym, ap, subst, ◌∙◌, append-nil}
use Rattle.std.specs.List.{AllByRecursion}
use Rattle.std.proofs.lemmas.Bool.{eq-eqb}
use Rattle.m2_bytes_fit.proofs.Lists.{cons_is_some}
use Rattle.m2_channel.specs.Channel.{KeyedMessage, of_key, keyed}
use Rattle.m2_channel.specs.Observed.{Logs, IsLetter, all_of, handed}
use Rattle.m2_channel.specs.ObservedLaws.{AMessageIsObserved}
use Rattle.m2_channel.specs.m2_dispatch.Heard as heard
use Rattle.m2_channel.proofs.Keys.{key_self}
use Rattle.m2_channel.proofs.Orders.{far_on}
use Rattle.m2_journal.specs.Items as item
use Rattle.m2_journal.specs.Items.{JournalItem}
use Rattle.m2_journal.specs.Lawful.{judged_sockets}
use Rattle.m2_journal.specs.Plan.{to_go_down}
use Rattle.m2_journal.specs.Replay.{AreLawful, after_items}
use Rattle.m2_journal.specs.SideFacts.{SideFacts}
use Rattle.m2_journal.specs.State as state
use Rattle.m2_journal.specs.State.{Delivery, Feed, State, start}
use Rattle.m2_journal.specs.Steps.{after}
use Rattle.m2_journal.specs.m2_message.Message.{Content}
use Rattle.m2_journal.specs.m2_fabric.Sockets.{is_among}
use Rattle.m2_journal.proofs.Growing.{lawful-append}
use Rattle.m2_journal.proofs.m2_lemmas.Booleans.{from_false_true}
use Rattle.m2_never_reset.specs.Fits.{AreItsAsks, Fits, HearsAt}
use Rattle.m2_never_reset.specs.Order.{AreFirstOf}
use Rattle.m2_never_reset.specs.Orders.{SideItem, near_item, far_item, near_items, far_items, near_after, far_after, FitThroughout}
use Rattle.m2_never_reset.proofs.Sided.{far_append, near_append}
use Rattle.m2_lives.specs.LifeAfterLife.{LifeAfterLife, sending_side}
use Rattle.m2_lives.specs.Lives.{LifeMessage, held_in, of_life}
use Rattle.m2_lives.specs.LivesLaws.{ArePiecesOf}
use Rattle.m2_lives.specs.Observed.{handed_in_lives, heard_in_lives, stretches}
use Rattle.m2_lives.specs.ObservedLaws.{EachLifeAcceptsFromOne, IsHistoryOfLives, accepted_of}
use Rattle.m2_lives.specs.ObservedRun.{AreLogsInLives, with_key}
use Rattle.m2_lives.specs.OneLife.{AMessageIsHeardInALife}
use Rattle.m2_lives.proofs.Delivered.{not_same}
use Rattle.m2_lives.proofs.Down.{LeavesFeed, down_leaves}
use Rattle.m2_lives.proofs.Handing.{no_pieces}
use Rattle.m2_journal.proofs.m2_lemmas.Lists.{cons_same}

-- ---- a mark-down behind a history

abbrev down : JournalItem
down = item.down true (Some to_go_down)

-- the side that stays fits what is left of the other
fits_left : (a b t : State) → LeavesFeed b t → Fits a b → Fits a t
fits_left a b t l h = record {
  near_hears = subst (HearsAt a.feed) (sym l.sent) h.near_hears;
  far_hears = subst (λ o. HearsAt o a.sent) (sym l.feed) tt;
  near_judges = subst (λ ks. AllByRecursion (AreItsAsks ks t.sent a.judgements) (judged_sockets a)) (sym l.opened) (subst (λ ws. AllByRecursion (AreItsAsks b.opened ws a.judgements) (judged_sockets a)) (sym l.sent) h.near_judges);
  far_judges = subst (λ js. AllByRecursion (AreItsAsks a.opened a.sent js) (map (λ j. j.socket) js)) (sym l.judgements) h.far_judges;
  opened_apart = λ k e. subst (λ ks. is_among k ks ≡ false) (sym l.opened) (h.opened_apart k e);
}

-- where an order leads both sides fit
fit_there : (f g : SideFacts) (order : List SideItem) (a b : State) → Fits a b → FitThroughout f g order a b → Fits (after_items f (near_items order) a) (after_items g (far_items order) b)
fit_there f g [] a b h fits = h
fit_there f g (near_item i ∷ order) a b h fits = fit_there f g order (after f i a) b fits.0 fits.1
fit_there f g (far_item i ∷ order) a b h fits = fit_there f g order a (after g i b) fits.0 fits.1

fit_behind : (f g : SideFacts) (order : List SideItem) (a b : State) → FitThroughout f g order a b → Fits (after_items f (near_items order) a) (after g down (after_items g (far_items order) b)) → FitThroughout f g (order ++ far_item down ∷ []) a b
fit_behind f g [] a b fits last = (last, tt)
fit_behind f g (near_item i ∷ order) a b fits last = (fits.0, fit_behind f g order (after f i a) b fits.1 last)
fit_behind f g (far_item i ∷ order) a b fits last = (fits.0, fit_behind f g order a (after g i b) fits.1 last)

-- ---- the one message

-- where one message alone was handed on
pub record IsOneLetter (ds : List Delivery) (k : KeyedMessage) : Type 0 where
  pub number : ℕ
  pub life : ℕ
  pub content : Content
  pub is : ds ≡ state.letter number life k.key content ∷ []
  pub message : k ≡ keyed k.key content

one_letter : (ds : List Delivery) (k : KeyedMessage) → AllByRecursion IsLetter ds → handed ds ≡ k ∷ [] → IsOneLetter ds k
one_letter [] k only e = absurd (cons_is_some k [] (sym e))
one_letter (state.letter n life key c ∷ ds) k only e =
    let it = cons_same (keyed key c) k (handed ds) [] e in
    let same : k.key ≡ key = ap (λ (z : KeyedMessage). z.key) (sym it.0) in
    record {
      number = n;
      life = life;
      content = c;
      is = ap (λ l. state.letter n life key c ∷ l) (no_more ds only.1 it.1) ∙ ap (λ q. state.letter n life q c ∷ []) (sym same);
      message = sym it.0 ∙ ap (λ q. keyed q c) (sym same);
    }
  where
    no_more : (es : List Delivery) → AllByRecursion IsLetter es → handed es ≡ [] → es ≡ []
    no_more [] h g = refl
    no_more (state.letter i u l m ∷ es) h g = absurd (cons_is_some (keyed l m) (handed es) g)
    no_more (state.discarded ∷ es) h g = absurd h.0
    no_more (state.remote_reset ∷ es) h g = absurd h.0
one_letter (state.discarded ∷ ds) k only e = absurd only.0
one_letter (state.remote_reset ∷ ds) k only e = absurd only.0

down_hands : (g : SideFacts) (b : State) → (after g down b).deliveries ≡ b.deliveries ++ state.discarded ∷ []
down_hands g b = at b.feed
  where
    at : (o : Option Feed) → (after g down (record b { feed = o })).deliveries ≡ b.deliveries ++ state.discarded ∷ []
    at (Some d) = refl
    at None = refl

module _ (o : AMessageIsObserved) (report : LifeAfterLife) (from_one : EachLifeAcceptsFromOne) where
  abbrev order : List SideItem
  order = o.order ++ far_item down ∷ []

  abbrev a : State
  a = near_after o.f o.order

  abbrev b : State
  b = far_after o.g o.order

  letter : IsOneLetter b.deliveries o.message
  letter = one_letter b.deliveries o.message o.brought.near.letters_only (sym o.brought.near.acceptances ∙ o.accepted)

  abbrev x : LifeMessage
  x = record { life = letter.life; message = o.message }

  abbrev silent : Logs
  silent = record { fast = []; queued = [] }

  abbrev log : Logs
  log = record { fast = []; queued = heard.message o.f.node.number o.message.key letter.number letter.life letter.content ∷ [] }

  same_far : far_after o.g order ≡ after o.g down b
  same_far = far_on o.g o.order (far_item down ∷ [])

  left : Fits a (after o.g down b)
  left = fits_left a b (after o.g down b) (down_leaves o.g true (Some to_go_down) b) (fit_there o.f o.g o.order (start o.f) (start o.g) at_first o.history.fits)
    where
      at_first : Fits (start o.f) (start o.g)
      at_first = record { near_hears = tt; far_hears = tt; near_judges = tt; far_judges = tt; opened_apart = λ k e. from_false_true e }

  history : IsHistoryOfLives o.f o.g order
  history = record {
    near_lawful = subst (λ is. AreLawful o.f is (start o.f)) (sym (near_append o.order (far_item down ∷ []) ∙ append-nil (near_items o.order))) o.history.near_lawful;
    far_lawful = subst (λ is. AreLawful o.g is (start o.g)) (sym (far_append o.order (far_item down ∷ []))) (lawful-append o.g (far_items o.order) (down ∷ []) (start o.g) o.history.far_lawful (tt, tt));
    fits = fit_behind o.f o.g o.order (start o.f) (start o.g) o.history.fits left;
  }

  told : heard_in_lives o.f.node.number (all_of log) ≡ x ∷ []
  told = ap (λ t. if t then record { life = letter.life; message = keyed o.message.key letter.content } ∷ [] else []) (eq-eqb o.f.node.number o.f.node.number refl) ∙ ap (λ m. record { life = letter.life; message = m } ∷ []) (sym letter.message)

  handed_on : (far_after o.g order).deliveries ≡ state.letter letter.number letter.life o.message.key letter.content ∷ state.discarded ∷ []
  handed_on = ap (λ (s : State). s.deliveries) same_far ∙ down_hands o.g b ∙ ap (λ l. l ++ state.discarded ∷ []) letter.is

  logs : AreLogsInLives o.f o.g order silent log
  logs = record {
    near = λ key. no_pieces (map (with_key key) (stretches (near_after o.f order).deliveries));
    far = λ key. subst (λ ds. ArePiecesOf (with_key key (heard_in_lives o.f.node.number (all_of log))) (map (with_key key) (stretches ds))) (sym handed_on)
        (subst (λ l. ArePiecesOf (with_key key l) (with_key key (record { life = letter.life; message = keyed o.message.key letter.content } ∷ []) ∷ [] ∷ [])) (sym told)
        (subst (λ m. ArePiecesOf (with_key key (x ∷ [])) (with_key key (record { life = letter.life; message = m } ∷ []) ∷ [] ∷ [])) letter.message
        (with_key key (x ∷ []), [], [], sym (append-nil (with_key key (x ∷ []))), sym (append-nil (with_key key (x ∷ []))), no_pieces ([] ∷ []))));
  }

  taken : handed_in_lives (far_after o.g order).deliveries ≡ x ∷ []
  taken = ap handed_in_lives handed_on ∙ ap (λ m. record { life = letter.life; message = m } ∷ []) (sym letter.message)

  of_it : of_life letter.life (x ∷ []) ≡ o.message ∷ []
  of_it = ap (λ t. map (λ (y : LifeMessage). y.message) (if t then x ∷ [] else [])) (eq-eqb letter.life letter.life refl)

  kept : letter.life ≢ 0
  kept e =
      cons_is_some o.message []
      (sym of_it ∙ ap (of_life letter.life) (sym taken) ∙ ap (λ n. accepted_of n (far_after o.g order)) e ∙ (from_one o.f o.g order o.nodes history).far.unnamed)

  first : AreFirstOf (o.message.message ∷ []) (held_in letter.life o.message.key (sending_side o.f o.g (near_items order)))
  first =
      subst (λ l. AreFirstOf l (held_in letter.life o.message.key (sending_side o.f o.g (near_items order))))
      (ap (λ l. of_key o.message.key (of_life letter.life l)) taken ∙ ap (of_key o.message.key) of_it ∙ ap (λ t. if t then o.message.message ∷ [] else []) (key_self o.message.key))
      (subst (AreFirstOf (of_key o.message.key (accepted_of letter.life (far_after o.g order)))) (ap (λ t. if t then [] else held_in letter.life o.message.key (sending_side o.f o.g (near_items order))) (not_same letter.life 0 kept))
      ((report o.f o.g order silent log o.nodes history logs).near.accepted letter.life o.message.key))

  pub is_heard : AMessageIsHeardInALife
  is_heard = record {
    f = o.f;
    g = o.g;
    before = o.order;
    near_logs = silent;
    far_logs = log;
    nodes = o.nodes;
    history = history;
    logs = logs;
    life = letter.life;
    message = o.message;
    kept = kept;
    dispatched = told;
    more = first.0;
    held = first.1;
  }
