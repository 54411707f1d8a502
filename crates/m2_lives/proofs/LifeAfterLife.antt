-- What is heard comes life after life: by the run of the channel with lives, whose sending side is that of the one journal, and whose
-- receiving lives are named as those of the other.
use Rattle.std.proofs.Common.{◌≡◌, ℕ, ◌+◌, ◌⊎◌, inl, inr, Bool, true, false, ◌==◌, ◌&&◌, if◌then◌else◌, List, [], ◌∷◌, ◌++◌, length, map, Option, Some, None, refl, sym, ap, subst, ◌∙◌, append-nil, append_assoc}
use Rattle.std.specs.List.{AllByRecursion, flat_map}
use Rattle.std.proofs.lemmas.Bool.{eqb-true}
use Rattle.std.proofs.lemmas.Grind.{flat_map-append}
use Rattle.std.proofs.lemmas.List.{map-append}
use Rattle.m2_channel.specs.Channel.{of_key, keyed}
use Rattle.m2_channel.specs.Observed.{Logs, all_of, turned}
use Rattle.m2_channel.specs.ObservedLaws.{posted_to}
use Rattle.m2_channel.specs.m2_dispatch.Heard as heard
use Rattle.m2_channel.specs.m2_dispatch.Heard.{Heard, is_key}
use Rattle.m2_channel.proofs.Orders.{far_after_turned, far_turned, near_turned}
use Rattle.m2_journal.specs.Items.{JournalItem}
use Rattle.m2_journal.specs.Lawful.{key_of}
use Rattle.m2_journal.specs.Replay.{after_items}
use Rattle.m2_journal.specs.SideFacts.{SideFacts}
use Rattle.m2_journal.specs.State.{State, start}
use Rattle.m2_journal.specs.Steps.{after, event_at}
use Rattle.m2_journal.specs.m2_message.Message.{Content, unnumbered}
use Rattle.m2_journal.specs.m2_policy.declared.path.Key.{Key}
use Rattle.m2_journal.specs.m2_session.declared.event.Event.{Event}
use Rattle.m2_journal.specs.m2_session.declared.session.Session.{Session}
use Rattle.m2_journal.specs.m2_session.Steps.{step_of}
use Rattle.m2_never_reset.specs.Order.{AreFirstOf}
use Rattle.m2_never_reset.specs.Orders.{SideItem, near_item, far_item, near_items, far_items, far_after, posts_in}
use Rattle.m2_lives.specs.Lives.{Counts, none, one_more, SendingLife, ReceivingLife, LivesChannel, new_lives, sending_lives, receiving_lives, LivesStep, post, begins_sending, begins_receiving, accept, acknowledge, dispatch, mark, reset, next_life, one_dispatched, changed_in_lives, after_in_lives, dispatches, posts, LifeMessage, of_life, held_by, held_in}
use Rattle.m2_lives.specs.LivesLaws.{AreNames, ArePiecesOf, IsOrderedInLives, IsWithin, all_of_key}
use Rattle.m2_lives.specs.Observed.{begins_told, handed_in_lives, heard_in_lives, observed_in_lives, receives_anew, sends_anew, shown_by_reader, shown_by_sender, shown_far, shown_from, shown_near}
use Rattle.m2_lives.specs.ObservedLaws.{EachLifeAcceptsFromOne, NumberedLife, accepted_of, current_life, ended_by, ended_lives, lives_of}
use Rattle.m2_lives.specs.ObservedRun.{IsBroughtInLives, ObservedIsARunOfLives, in_life, with_key}
use Rattle.m2_lives.specs.LifeAfterLife.{AreInARow, ComesInLives, LifeAfterLife, held_for, sending_side, shown_sending}
use Rattle.m2_lives.proofs.Dispatching.{dispatching, same_names, text, told_is}
use Rattle.m2_lives.proofs.Delivered.{held_in_more, held_of}
use Rattle.m2_lives.proofs.Handing.{AreFirstOfEach, pieces_of_more}
use Rattle.m2_lives.proofs.Named.{life_of, named_by}
use Rattle.m2_lives.proofs.Picking.{all_picked, begun_picked, far_picked, near_picked, none_picked, reader_picked, sender_picked}
use Rattle.m2_lives.proofs.Runs.{keep_lives, receiving_name, sending_name}

-- ---- the sending side of the channel

-- the steps that change it
abbrev of_sender : LivesStep → List LivesStep
of_sender (post key m) = post key m ∷ []
of_sender (begins_sending name thrown) = begins_sending name thrown ∷ []
of_sender (acknowledge key) = acknowledge key ∷ []
of_sender _ = []

abbrev SendAlike : LivesChannel → LivesChannel → Type 0
SendAlike c d = (c.posted ≡ d.posted) × (c.sent ≡ d.sent) × (c.sends ≡ d.sends)

send_alike : (xs : List LivesStep) (c d : LivesChannel) → SendAlike c d → SendAlike (after_in_lives xs c) (after_in_lives (flat_map of_sender xs) d)
send_alike [] c d h = h
send_alike (post key m ∷ xs) c d h =
    send_alike xs (changed_in_lives (post key m) c) (changed_in_lives (post key m) d) (ap (λ l. l ++ keyed key m ∷ []) h.0, h.1, ap (λ (l : SendingLife). record l { end = one_more key l.end }) h.2)
send_alike (begins_sending name thrown ∷ xs) c d h =
    send_alike xs (changed_in_lives (begins_sending name thrown) c) (changed_in_lives (begins_sending name thrown) d) (h.0, ap (λ l. l ++ c.sends ∷ []) h.1 ∙ ap (λ (l : SendingLife). d.sent ++ l ∷ []) h.2, ap (λ (l : SendingLife). next_life l name thrown) h.2)
send_alike (acknowledge key ∷ xs) c d h =
    send_alike xs (changed_in_lives (acknowledge key) c) (changed_in_lives (acknowledge key) d) (h.0, h.1, ap (λ (l : SendingLife). record l { acknowledged = one_more key l.acknowledged }) h.2)
send_alike (begins_receiving name ∷ xs) c d h = send_alike xs (changed_in_lives (begins_receiving name) c) d h
send_alike (accept key m ∷ xs) c d h = send_alike xs (changed_in_lives (accept key m) c) d h
send_alike (dispatch name key m ∷ xs) c d h = send_alike xs (changed_in_lives (dispatch name key m) c) d h
send_alike (mark ∷ xs) c d h = send_alike xs (changed_in_lives mark c) d h
send_alike (reset ∷ xs) c d h = send_alike xs c d h

near_sender : (f g : SideFacts) (i : JournalItem) (a b : State) → flat_map of_sender (shown_near f g i a b) ≡ shown_by_sender g i a ++ sends_anew f i a
near_sender f g i a b =
    near_picked of_sender refl refl f g i a b
    ∙ ap (λ l. l ++ flat_map of_sender (sends_anew f i a)) (sender_picked of_sender (λ x. x ∷ []) (λ key m. refl) (λ key. refl) g i a ∙ all_picked (shown_by_sender g i a))
    ∙ ap (λ l. shown_by_sender g i a ++ l)
    (begun_picked of_sender (λ x. x ∷ []) (λ t. begins_sending t.session.server_cookie t.effects.discard) (λ t. refl) (event_at f i a) a.session ∙ all_picked (sends_anew f i a))

far_sender : (g : SideFacts) (i : JournalItem) (a b : State) → flat_map of_sender (shown_far g i a b) ≡ []
far_sender g i a b =
    far_picked of_sender refl refl g i a b
    ∙ ap (λ l. l ++ flat_map of_sender (receives_anew g i b)) (reader_picked of_sender (λ x. []) (λ key m. refl) i b ∙ none_picked (shown_by_reader i b))
    ∙ begun_picked of_sender (λ x. []) (λ t. begins_receiving t.session.server_cookie) (λ t. refl) (event_at g i b) b.session ∙ none_picked (receives_anew g i b)

order_sender : (f g : SideFacts) (order : List SideItem) (a b : State) → flat_map of_sender (shown_from f g order a b) ≡ shown_sending f g (near_items order) a
order_sender f g [] a b = refl
order_sender f g (near_item i ∷ order) a b =
    flat_map-append of_sender (shown_near f g i a b) (shown_from f g order (after f i a) b) ∙ ap (λ l. l ++ flat_map of_sender (shown_from f g order (after f i a) b)) (near_sender f g i a b)
    ∙ ap (λ l. shown_by_sender g i a ++ sends_anew f i a ++ l) (order_sender f g order (after f i a) b)
order_sender f g (far_item i ∷ order) a b =
    flat_map-append of_sender (shown_far g i a b) (shown_from f g order a (after g i b)) ∙ ap (λ l. l ++ flat_map of_sender (shown_from f g order a (after g i b))) (far_sender g i a b)
    ∙ order_sender f g order a (after g i b)

-- nothing is picked of dispatches
dispatches_unpicked : {X : Type 0} (p : LivesStep → List X) → ((name : ℕ) (key : Key) (m : Content) → p (dispatch name key m) ≡ []) → (xs : List LifeMessage) → flat_map p (dispatching xs) ≡ []
dispatches_unpicked p unpicked [] = refl
dispatches_unpicked p unpicked (x ∷ xs) = ap (λ l. l ++ flat_map p (dispatching xs)) (unpicked x.life x.message.key x.message.message) ∙ dispatches_unpicked p unpicked xs

-- ---- names of receiving lives

abbrev begun_receiving : LivesStep → List ℕ
begun_receiving (begins_receiving name) = name ∷ []
begun_receiving _ = []

abbrev receiving_names : LivesChannel → List ℕ
receiving_names c = map receiving_name (receiving_lives c)

last_names : (c : LivesChannel) (l : ReceivingLife) → l.name ≡ c.receives.name → map receiving_name (c.received ++ l ∷ []) ≡ receiving_names c
last_names c l e = map-append receiving_name c.received (l ∷ []) ∙ ap (λ n. map receiving_name c.received ++ n ∷ []) e ∙ sym (map-append receiving_name c.received (c.receives ∷ []))

names_after : (xs : List LivesStep) (c : LivesChannel) → receiving_names (after_in_lives xs c) ≡ receiving_names c ++ flat_map begun_receiving xs
names_after [] c = sym (append-nil (receiving_names c))
names_after (begins_receiving name ∷ xs) c =
    names_after xs (changed_in_lives (begins_receiving name) c)
    ∙ ap (λ l. l ++ flat_map begun_receiving xs) (map-append receiving_name (receiving_lives c) (record { name = name; accepted = none; dispatched = none } ∷ [])) ∙ append_assoc (receiving_names c) (name ∷ []) (flat_map begun_receiving xs)
names_after (post key m ∷ xs) c = names_after xs (changed_in_lives (post key m) c)
names_after (begins_sending name thrown ∷ xs) c = names_after xs (changed_in_lives (begins_sending name thrown) c)
names_after (acknowledge key ∷ xs) c = names_after xs (changed_in_lives (acknowledge key) c)
names_after (accept key m ∷ xs) c =
    names_after xs (changed_in_lives (accept key m) c) ∙ ap (λ l. l ++ flat_map begun_receiving xs) (last_names c (record c.receives { accepted = one_more key c.receives.accepted }) refl)
names_after (dispatch name key m ∷ xs) c =
    names_after xs (changed_in_lives (dispatch name key m) c)
    ∙ ap (λ l. l ++ flat_map begun_receiving xs) (ap (map receiving_name) (sym (map-append (one_dispatched name key) c.received (c.receives ∷ []))) ∙ same_names name key (receiving_lives c))
names_after (mark ∷ xs) c = names_after xs (changed_in_lives mark c)
names_after (reset ∷ xs) c = names_after xs c

-- the names that entries begin
abbrev begun_at : Option Event → Session → List ℕ
begun_at (Some e) q = if (step_of q e).effects.set_back then (step_of q e).session.server_cookie ∷ [] else []
begun_at None q = []

abbrev begun_in : SideFacts → List JournalItem → State → List ℕ
begun_in g [] s = []
begun_in g (i ∷ is) s = begun_at (event_at g i s) s.session ++ begun_in g is (after g i s)

receives_begin : (o : Option Event) (q : Session) → flat_map begun_receiving (begins_told (λ t. begins_receiving t.session.server_cookie) o q) ≡ begun_at o q
receives_begin None q = refl
receives_begin (Some e) q = at (step_of q e).effects.set_back
  where
    at : (b : Bool) → flat_map begun_receiving (if b then begins_receiving (step_of q e).session.server_cookie ∷ [] else []) ≡ (if b then (step_of q e).session.server_cookie ∷ [] else [])
    at true = refl
    at false = refl

near_begins_none : (f g : SideFacts) (i : JournalItem) (a b : State) → flat_map begun_receiving (shown_near f g i a b) ≡ []
near_begins_none f g i a b =
    near_picked begun_receiving refl refl f g i a b
    ∙ ap (λ l. l ++ flat_map begun_receiving (sends_anew f i a)) (sender_picked begun_receiving (λ x. []) (λ key m. refl) (λ key. refl) g i a ∙ none_picked (shown_by_sender g i a))
    ∙ begun_picked begun_receiving (λ x. []) (λ t. begins_sending t.session.server_cookie t.effects.discard) (λ t. refl) (event_at f i a) a.session ∙ none_picked (sends_anew f i a)

far_begins : (g : SideFacts) (i : JournalItem) (a b : State) → flat_map begun_receiving (shown_far g i a b) ≡ begun_at (event_at g i b) b.session
far_begins g i a b =
    far_picked begun_receiving refl refl g i a b
    ∙ ap (λ l. l ++ flat_map begun_receiving (receives_anew g i b)) (reader_picked begun_receiving (λ x. []) (λ key m. refl) i b ∙ none_picked (shown_by_reader i b))
    ∙ receives_begin (event_at g i b) b.session

order_begins : (f g : SideFacts) (order : List SideItem) (a b : State) → flat_map begun_receiving (shown_from f g order a b) ≡ begun_in g (far_items order) b
order_begins f g [] a b = refl
order_begins f g (near_item i ∷ order) a b =
    flat_map-append begun_receiving (shown_near f g i a b) (shown_from f g order (after f i a) b)
    ∙ ap (λ l. l ++ flat_map begun_receiving (shown_from f g order (after f i a) b)) (near_begins_none f g i a b) ∙ order_begins f g order (after f i a) b
order_begins f g (far_item i ∷ order) a b =
    flat_map-append begun_receiving (shown_far g i a b) (shown_from f g order a (after g i b))
    ∙ ap (λ l. l ++ flat_map begun_receiving (shown_from f g order a (after g i b))) (far_begins g i a b)
    ∙ ap (λ l. begun_at (event_at g i b) b.session ++ l) (order_begins f g order a (after g i b))

-- the lives of a journal are named so
abbrev life_name : NumberedLife → ℕ
life_name l = l.name

lives_named : (g : SideFacts) (is : List JournalItem) (s : State) → map life_name (ended_lives g is s) ++ (after_items g is s).life ∷ [] ≡ s.life ∷ begun_in g is s
lives_named g [] s = refl
lives_named g (i ∷ is) s =
    ap (λ l. l ++ (after_items g is (after g i s)).life ∷ []) (map-append life_name (ended_by (event_at g i s) s) (ended_lives g is (after g i s)))
    ∙ append_assoc (map life_name (ended_by (event_at g i s) s)) (map life_name (ended_lives g is (after g i s))) ((after_items g is (after g i s)).life ∷ [])
    ∙ ap (λ l. map life_name (ended_by (event_at g i s) s) ++ l) (lives_named g is (after g i s))
    ∙ at (event_at g i s) (life_of g i s)
  where
    at : (o : Option Event) → (after g i s).life ≡ named_by o s.session s.life →
        map life_name (ended_by o s) ++ (after g i s).life ∷ begun_in g is (after g i s) ≡ s.life ∷ (begun_at o s.session ++ begun_in g is (after g i s))
    at None e = ap (λ n. n ∷ begun_in g is (after g i s)) e
    at (Some w) e = by (step_of s.session w).effects.set_back e
      where
        by : (b : Bool) → (after g i s).life ≡ (if b then (step_of s.session w).session.server_cookie else s.life) →
            map life_name (if b then current_life s ∷ [] else []) ++ (after g i s).life ∷ begun_in g is (after g i s)
            ≡ s.life ∷ ((if b then (step_of s.session w).session.server_cookie ∷ [] else []) ++ begun_in g is (after g i s))
        by true z = ap (λ n. s.life ∷ n ∷ begun_in g is (after g i s)) z
        by false z = ap (λ n. n ∷ begun_in g is (after g i s)) z

-- ---- one life after the other

row_last : (from : Counts) (ls : List SendingLife) (l m : SendingLife) → ((key : Key) → m.start key ≡ l.start key) → AreInARow from (ls ++ l ∷ []) → AreInARow from (ls ++ m ∷ [])
row_last from [] l m same h = (λ key. same key ∙ h.0 key, inl tt)
row_last from (k ∷ ls) l m same h = (h.0, at h.1 (λ next. row_last next ls l m same))
  where
    at : AreInARow (λ key. k.start key + k.acknowledged key) (ls ++ l ∷ []) ⊎ AreInARow k.end (ls ++ l ∷ []) → ((next : Counts) → AreInARow next (ls ++ l ∷ []) → AreInARow next (ls ++ m ∷ [])) →
        AreInARow (λ key. k.start key + k.acknowledged key) (ls ++ m ∷ []) ⊎ AreInARow k.end (ls ++ m ∷ [])
    at (inl q) on = inl (on (λ key. k.start key + k.acknowledged key) q)
    at (inr q) on = inr (on k.end q)

row_more : (from : Counts) (ls : List SendingLife) (l m : SendingLife) → ((key : Key) → m.start key ≡ l.start key + l.acknowledged key) ⊎ ((key : Key) → m.start key ≡ l.end key) → AreInARow from (ls ++ l ∷ []) →
    AreInARow from ((ls ++ l ∷ []) ++ m ∷ [])
row_more from [] l m (inl starts) h = (h.0, inl (starts, inl tt))
row_more from [] l m (inr starts) h = (h.0, inr (starts, inl tt))
row_more from (k ∷ ls) l m starts h = (h.0, at h.1 (λ next. row_more next ls l m starts))
  where
    at : AreInARow (λ key. k.start key + k.acknowledged key) (ls ++ l ∷ []) ⊎ AreInARow k.end (ls ++ l ∷ []) → ((next : Counts) → AreInARow next (ls ++ l ∷ []) → AreInARow next ((ls ++ l ∷ []) ++ m ∷ [])) →
        AreInARow (λ key. k.start key + k.acknowledged key) ((ls ++ l ∷ []) ++ m ∷ []) ⊎ AreInARow k.end ((ls ++ l ∷ []) ++ m ∷ [])
    at (inl q) on = inl (on (λ key. k.start key + k.acknowledged key) q)
    at (inr q) on = inr (on k.end q)

rows : (xs : List LivesStep) (c : LivesChannel) → AreInARow none (sending_lives c) → AreInARow none (sending_lives (after_in_lives xs c))
rows [] c h = h
rows (post key m ∷ xs) c h = rows xs (changed_in_lives (post key m) c) (row_last none c.sent c.sends (record c.sends { end = one_more key c.sends.end }) (λ other. refl) h)
rows (acknowledge key ∷ xs) c h = rows xs (changed_in_lives (acknowledge key) c) (row_last none c.sent c.sends (record c.sends { acknowledged = one_more key c.sends.acknowledged }) (λ other. refl) h)
rows (begins_sending name thrown ∷ xs) c h = rows xs (changed_in_lives (begins_sending name thrown) c) (row_more none c.sent c.sends (next_life c.sends name thrown) (at thrown) h)
  where
    at : (b : Bool) → ((key : Key) → (next_life c.sends name b).start key ≡ c.sends.start key + c.sends.acknowledged key) ⊎ ((key : Key) → (next_life c.sends name b).start key ≡ c.sends.end key)
    at true = inr (λ key. refl)
    at false = inl (λ key. refl)
rows (begins_receiving name ∷ xs) c h = rows xs (changed_in_lives (begins_receiving name) c) h
rows (accept key m ∷ xs) c h = rows xs (changed_in_lives (accept key m) c) h
rows (dispatch name key m ∷ xs) c h = rows xs (changed_in_lives (dispatch name key m) c) h
rows (mark ∷ xs) c h = rows xs (changed_in_lives mark c) h
rows (reset ∷ xs) c h = rows xs c h

-- what is posted
posts_so : (xs : List LivesStep) (c : LivesChannel) → (after_in_lives xs c).posted ≡ c.posted ++ posts xs
posts_so [] c = sym (append-nil c.posted)
posts_so (post key m ∷ xs) c = posts_so xs (changed_in_lives (post key m) c) ∙ append_assoc c.posted (keyed key m ∷ []) (posts xs)
posts_so (begins_sending name thrown ∷ xs) c = posts_so xs (changed_in_lives (begins_sending name thrown) c)
posts_so (begins_receiving name ∷ xs) c = posts_so xs (changed_in_lives (begins_receiving name) c)
posts_so (accept key m ∷ xs) c = posts_so xs (changed_in_lives (accept key m) c)
posts_so (acknowledge key ∷ xs) c = posts_so xs (changed_in_lives (acknowledge key) c)
posts_so (dispatch name key m ∷ xs) c = posts_so xs (changed_in_lives (dispatch name key m) c)
posts_so (mark ∷ xs) c = posts_so xs (changed_in_lives mark c)
posts_so (reset ∷ xs) c = posts_so xs c

-- ---- what is heard of a key

heard_keys : (peer : ℕ) (key : Key) (log : List Heard) → all_of_key key (heard_in_lives peer log) ≡ map unnumbered (heard.of_key peer key log)
heard_keys peer key [] = refl
heard_keys peer key (heard.reset p ∷ log) = heard_keys peer key log
heard_keys peer key (heard.message p k n life m ∷ log) = at (p == peer) (heard_keys peer key log)
  where
    by : (c : Bool) → all_of_key key (heard_in_lives peer log) ≡ map unnumbered (heard.of_key peer key log) →
        (if c then unnumbered m ∷ all_of_key key (heard_in_lives peer log) else all_of_key key (heard_in_lives peer log)) ≡ map unnumbered (if c then m ∷ heard.of_key peer key log else heard.of_key peer key log)
    by true e = ap (λ l. unnumbered m ∷ l) e
    by false e = e

    at : (b : Bool) → all_of_key key (heard_in_lives peer log) ≡ map unnumbered (heard.of_key peer key log) →
        all_of_key key (if b then record { life = life; message = keyed k m } ∷ heard_in_lives peer log else heard_in_lives peer log) ≡ map unnumbered (if b && is_key k key then m ∷ heard.of_key peer key log else heard.of_key peer key log)
    at true e = by (is_key k key) e
    at false e = e

-- the same of the messages alone
texts_of_key : (key : Key) (ms : List LifeMessage) → map text (with_key key ms) ≡ all_of_key key ms
texts_of_key key [] = refl
texts_of_key key (m ∷ ms) = at (is_key m.message.key key) (texts_of_key key ms)
  where
    at : (b : Bool) → map text (with_key key ms) ≡ all_of_key key ms → map text (if b then m ∷ with_key key ms else with_key key ms) ≡ (if b then text m ∷ all_of_key key ms else all_of_key key ms)
    at true e = ap (λ l. text m ∷ l) e
    at false e = e

pieces_map : {X Y : Type 0} (h : X → Y) (zs : List X) (ls : List (List X)) → ArePiecesOf zs ls → ArePiecesOf (map h zs) (map (map h) ls)
pieces_map h zs [] e = ap (map h) e
pieces_map h zs (l ∷ ls) (piece, rest, left, e, g, more) = (map h piece, map h rest, map h left, ap (map h) e ∙ map-append h piece rest, ap (map h) g ∙ map-append h piece left, pieces_map h rest ls more)

-- of each life the first ones of more
more_of_each : (some all : ℕ → List Content) → ((n : ℕ) → AreFirstOf (some n) (all n)) → (ls : List ReceivingLife) → AreFirstOfEach (map (λ (l : ReceivingLife). some l.name) ls) (map (λ (l : ReceivingLife). all l.name) ls)
more_of_each some all first [] = tt
more_of_each some all first (l ∷ ls) = (first l.name, more_of_each some all first ls)

map_names : (h : ℕ → List Content) (ls : List ReceivingLife) (ns : List NumberedLife) → map receiving_name ls ≡ map life_name ns → map (λ (l : ReceivingLife). h l.name) ls ≡ map (λ (l : NumberedLife). h l.name) ns
map_names h ls ns e = sym (of_receiving ls) ∙ ap (map h) e ∙ of_numbered ns
  where
    of_receiving : (xs : List ReceivingLife) → map h (map receiving_name xs) ≡ map (λ (l : ReceivingLife). h l.name) xs
    of_receiving [] = refl
    of_receiving (x ∷ xs) = ap (λ l. h x.name ∷ l) (of_receiving xs)

    of_numbered : (xs : List NumberedLife) → map h (map life_name xs) ≡ map (λ (l : NumberedLife). h l.name) xs
    of_numbered [] = refl
    of_numbered (x ∷ xs) = ap (λ l. h x.name ∷ l) (of_numbered xs)

-- ---- one direction

module _ (f g : SideFacts) (order : List SideItem) (logs : Logs) (h : IsBroughtInLives f g order logs) (unnamed : accepted_of 0 (far_after g order) ≡ []) where
  abbrev xs : List LivesStep
  xs = observed_in_lives f g order logs

  abbrev given : List LifeMessage
  given = heard_in_lives f.node.number (all_of logs)

  abbrev c : LivesChannel
  c = after_in_lives xs new_lives

  abbrev side : LivesChannel
  side = sending_side f g (near_items order)

  ordered : IsOrderedInLives c
  ordered = keep_lives xs h.run

  steps_alike : flat_map of_sender xs ≡ shown_sending f g (near_items order) (start f)
  steps_alike =
      flat_map-append of_sender (shown_from f g order (start f) (start g)) (dispatching given)
      ∙ ap (λ l. flat_map of_sender (shown_from f g order (start f) (start g)) ++ l) (dispatches_unpicked of_sender (λ name key m. refl) given)
      ∙ append-nil (flat_map of_sender (shown_from f g order (start f) (start g))) ∙ order_sender f g order (start f) (start g)

  alike : SendAlike c side
  alike = subst (λ l. SendAlike c (after_in_lives l new_lives)) steps_alike (send_alike xs new_lives new_lives (refl, refl, refl))

  same_lives : sending_lives c ≡ sending_lives side
  same_lives = ap (λ l. l ++ c.sends ∷ []) alike.1 ∙ ap (λ (l : SendingLife). side.sent ++ l ∷ []) alike.2

  same_held : (name : ℕ) (key : Key) → held_in name key c ≡ held_in name key side
  same_held name key =
      ap (λ ps. flat_map (λ (l : SendingLife). (if l.name == name then held_by key ps l else [])) (sending_lives c)) alike.0
      ∙ ap (flat_map (λ (l : SendingLife). (if l.name == name then held_by key side.posted l else []))) same_lives

  names : map receiving_name (receiving_lives c) ≡ map life_name (lives_of g (far_items order))
  names =
      names_after xs new_lives
      ∙ ap (λ l. 0 ∷ l) (flat_map-append begun_receiving (shown_from f g order (start f) (start g)) (dispatching given)
      ∙ ap (λ l. flat_map begun_receiving (shown_from f g order (start f) (start g)) ++ l) (dispatches_unpicked begun_receiving (λ name key m. refl) given)
      ∙ append-nil (flat_map begun_receiving (shown_from f g order (start f) (start g)))
      ∙ order_begins f g order (start f) (start g))
      ∙ sym (lives_named g (far_items order) (start g))
      ∙ sym (map-append life_name (ended_lives g (far_items order) (start g)) (current_life (far_after g order) ∷ []))

  abbrev taken : List LifeMessage
  taken = handed_in_lives (far_after g order).deliveries

  -- what was accepted in a life are the first ones of what is held for it
  held_first : (name : ℕ) (key : Key) → AreFirstOf (of_key key (accepted_of name (far_after g order))) (held_for name key side)
  held_first name key = at (name == 0) refl
    where
      at : (b : Bool) → (name == 0) ≡ b → AreFirstOf (of_key key (accepted_of name (far_after g order))) (if b then [] else held_in name key side)
      at true e = ([], sym (append-nil (of_key key (accepted_of name (far_after g order))) ∙ ap (λ n. of_key key (accepted_of n (far_after g order))) (eqb-true name 0 e) ∙ ap (of_key key) unnamed))
      at false e = subst (AreFirstOf (of_key key (accepted_of name (far_after g order)))) (same_held name key) (subst (λ l. AreFirstOf (of_key key (of_life name l)) (held_in name key c)) h.acceptances (h.delivered.accepted name key))

  of_the_lives : (key : Key) → ArePiecesOf (map unnumbered (heard.of_key f.node.number key (all_of logs))) (map (λ (l : ReceivingLife). of_key key (accepted_of l.name (far_after g order))) (receiving_lives c))
  of_the_lives key =
      subst (ArePiecesOf (map unnumbered (heard.of_key f.node.number key (all_of logs)))) (each (receiving_lives c))
      (subst (λ l. ArePiecesOf l (map (map text) (map (λ (l : ReceivingLife). with_key key (in_life l.name taken)) (receiving_lives c)))) (texts_of_key key given ∙ heard_keys f.node.number key (all_of logs))
      (pieces_map text (with_key key given) (map (λ (l : ReceivingLife). with_key key (in_life l.name taken)) (receiving_lives c)) (h.pieces key)))
    where
      each : (ls : List ReceivingLife) → map (map text) (map (λ (l : ReceivingLife). with_key key (in_life l.name taken)) ls) ≡ map (λ (l : ReceivingLife). of_key key (accepted_of l.name (far_after g order))) ls
      each [] = refl
      each (l ∷ ls) = ap (λ z. z ∷ map (map text) (map (λ (k : ReceivingLife). with_key key (in_life k.name taken)) ls)) (sym (told_is key l.name taken)) ∙ ap (λ z. of_key key (accepted_of l.name (far_after g order)) ∷ z) (each ls)

  all_posted : c.posted ≡ posted_to g (posts_in (near_items order))
  all_posted = posts_so xs new_lives ∙ h.posts

  pub comes : ComesInLives f g (near_items order) (far_items order) logs
  comes = record {
    sending_names = subst (λ l. AreNames (map sending_name l)) same_lives ordered.sending_names;
    receiving_names = subst AreNames names ordered.receiving_names;
    posted = sym alike.0 ∙ all_posted;
    row = rows (shown_sending f g (near_items order) (start f)) new_lives (λ key. refl, inl tt);
    end = λ key. ap (λ (l : SendingLife). l.end key) (sym alike.2) ∙ ordered.end key ∙ ap (λ l. length (of_key key l)) alike.0;
    within = subst (λ ps. AllByRecursion (IsWithin (λ key. length (of_key key ps))) (sending_lives side)) alike.0 (subst (AllByRecursion (IsWithin (λ key. length (of_key key c.posted)))) same_lives ordered.within);
    in_life = λ name key. subst (λ l. AreFirstOf (of_key key (of_life name l)) (of_key key (accepted_of name (far_after g order)))) h.dispatches
        (subst (λ l. AreFirstOf (of_key key (of_life name (dispatches xs))) (of_key key (of_life name l))) h.acceptances (h.delivered.dispatched name key));
    accepted = held_first;
    life_after_life = λ key. subst (ArePiecesOf (map unnumbered (heard.of_key f.node.number key (all_of logs)))) (map_names (λ n. held_for n key side) (receiving_lives c) (lives_of g (far_items order)) names)
        (pieces_of_more (map unnumbered (heard.of_key f.node.number key (all_of logs))) (map (λ (l : ReceivingLife). of_key key (accepted_of l.name (far_after g order))) (receiving_lives c))
        (map (λ (l : ReceivingLife). held_for l.name key side) (receiving_lives c))
        (more_of_each (λ n. of_key key (accepted_of n (far_after g order))) (λ n. held_for n key side) (λ n. held_first n key) (receiving_lives c)) (of_the_lives key));
  }

-- ---- both

pub life_after_life : ObservedIsARunOfLives → EachLifeAcceptsFromOne → LifeAfterLife
life_after_life law from_one f g order near_logs far_logs nodes history logs =
    let both = law f g order near_logs far_logs nodes history logs in
    let named = from_one f g order nodes history in
    record {
      near = comes f g order far_logs both.near named.far.unnamed;
      far = subst (λ is. ComesInLives g f is (near_items order) near_logs) (near_turned order)
          (subst (λ is. ComesInLives g f (near_items (turned order)) is near_logs) (far_turned order) (comes g f (turned order) near_logs both.far (ap (accepted_of 0) (far_after_turned f order) ∙ named.near.unnamed)));
    }

-- ---- of posts that go on

-- a life holds the same of them
pub holds_of_more : (f g : SideFacts) (near far : List JournalItem) (logs : Logs) → ComesInLives f g near far logs → (ps : List Content) → AreFirstOf (posts_in near) ps → (name : ℕ) (key : Key) →
    held_for name key (record (sending_side f g near) { posted = posted_to g ps }) ≡ held_for name key (sending_side f g near)
holds_of_more f g near far logs comes ps (more, e) name key = at (name == 0)
  where
    longer : posted_to g ps ≡ (sending_side f g near).posted ++ posted_to g more
    longer = ap (posted_to g) e ∙ map-append (λ m. keyed (key_of g m) m) (posts_in near) more ∙ ap (λ l. l ++ posted_to g more) (sym comes.posted)

    at : (b : Bool) → (if b then [] else held_in name key (record (sending_side f g near) { posted = posted_to g ps })) ≡ (if b then [] else held_in name key (sending_side f g near))
    at true = refl
    at false =
        ap (λ l. flat_map (held_of name key l) (sending_lives (sending_side f g near))) longer
        ∙ held_in_more name key (sending_side f g near).posted (posted_to g more) (sending_lives (sending_side f g near)) comes.within
