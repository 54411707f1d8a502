-- What is picked of each step that entries show: two ways to pick that agree on a kind of step pick the same of what shows only that kind.
use Rattle.std.proofs.Common.{◌≡◌, Bool, true, false, if◌then◌else◌, List, [], ◌∷◌, ◌++◌, map, Option, Some, None, refl, ap, ◌∙◌, append-nil}
use Rattle.std.specs.List.{flat_map}
use Rattle.std.proofs.lemmas.Grind.{flat_map-append}
use Rattle.m2_channel.specs.Observed.{brought_on, is_reset}
use Rattle.m2_journal.specs.Items as item
use Rattle.m2_journal.specs.Items.{JournalItem}
use Rattle.m2_journal.specs.Lawful.{key_of}
use Rattle.m2_journal.specs.Plan.{to_post, to_dial, to_go_down}
use Rattle.m2_journal.specs.SideFacts.{SideFacts}
use Rattle.m2_journal.specs.State.{State}
use Rattle.m2_journal.specs.m2_message.Message.{Content}
use Rattle.m2_journal.specs.m2_policy.declared.path.Key.{Key}
use Rattle.m2_journal.specs.m2_session.declared.event.Event.{Event}
use Rattle.m2_journal.specs.m2_session.declared.session.Session.{Session}
use Rattle.m2_journal.specs.m2_session.Steps.{Step, step_of}
use Rattle.m2_lives.specs.Lives.{LivesStep, post, accept, acknowledge, mark, reset}
use Rattle.m2_lives.specs.Observed.{begins_told, dropped_at, receives_anew, sends_anew, shown_by_reader, shown_by_sender, shown_down, shown_far, shown_near, shown_reset}

-- ---- of any list

pub none_picked : {X Y : Type 0} (xs : List X) → flat_map {A = Y} (λ x. []) xs ≡ []
none_picked [] = refl
none_picked (x ∷ xs) = none_picked xs

pub all_picked : {X : Type 0} (xs : List X) → flat_map (λ x. x ∷ []) xs ≡ xs
all_picked [] = refl
all_picked (x ∷ xs) = ap (λ l. x ∷ l) (all_picked xs)

-- in both the same of each that a function makes
picked_alike : {X Y Z : Type 0} (p q : Y → List Z) (f : X → Y) → ((x : X) → p (f x) ≡ q (f x)) → (xs : List X) → flat_map p (map f xs) ≡ flat_map q (map f xs)
picked_alike p q f same [] = refl
picked_alike p q f same (x ∷ xs) = ap (λ l. l ++ flat_map p (map f xs)) (same x) ∙ ap (λ l. q (f x) ++ l) (picked_alike p q f same xs)

-- ---- of what an entry shows

pub sender_picked : {X : Type 0} (p q : LivesStep → List X) → ((key : Key) (m : Content) → p (post key m) ≡ q (post key m)) → ((key : Key) → p (acknowledge key) ≡ q (acknowledge key)) →
    (g : SideFacts) (i : JournalItem) (s : State) → flat_map p (shown_by_sender g i s) ≡ flat_map q (shown_by_sender g i s)
sender_picked p q posted acked g (item.post place (Some (to_post m))) s = ap (λ l. l ++ []) (posted (key_of g m) m)
sender_picked p q posted acked g (item.post place (Some to_dial)) s = refl
sender_picked p q posted acked g (item.post place (Some to_go_down)) s = refl
sender_picked p q posted acked g (item.post place None) s = refl
sender_picked p q posted acked g (item.acked n) s = picked_alike p q (λ m. acknowledge (key_of g m)) (λ m. acked (key_of g m)) (dropped_at n s.out.queue)
sender_picked p q posted acked g (item.dial planned) s = refl
sender_picked p q posted acked g (item.opened k) s = refl
sender_picked p q posted acked g (item.read k bytes) s = refl
sender_picked p q posted acked g (item.wrote k bytes) s = refl
sender_picked p q posted acked g (item.closed k broken) s = refl
sender_picked p q posted acked g (item.judged k ask n answer unread trail) s = refl
sender_picked p q posted acked g (item.asked ident n) s = refl
sender_picked p q posted acked g (item.numbered n) s = refl
sender_picked p q posted acked g (item.accepted n key) s = refl
sender_picked p q posted acked g (item.obeyed full) s = refl
sender_picked p q posted acked g (item.down planned step) s = refl

pub reader_picked : {X : Type 0} (p q : LivesStep → List X) → ((key : Key) (m : Content) → p (accept key m) ≡ q (accept key m)) → (i : JournalItem) (s : State) →
    flat_map p (shown_by_reader i s) ≡ flat_map q (shown_by_reader i s)
reader_picked p q accepted (item.accepted n key) s = picked_alike p q (accept key) (accepted key) (brought_on s.last s.feed)
reader_picked p q accepted (item.post place planned) s = refl
reader_picked p q accepted (item.acked n) s = refl
reader_picked p q accepted (item.dial planned) s = refl
reader_picked p q accepted (item.opened k) s = refl
reader_picked p q accepted (item.read k bytes) s = refl
reader_picked p q accepted (item.wrote k bytes) s = refl
reader_picked p q accepted (item.closed k broken) s = refl
reader_picked p q accepted (item.judged k ask n answer unread trail) s = refl
reader_picked p q accepted (item.asked ident n) s = refl
reader_picked p q accepted (item.numbered n) s = refl
reader_picked p q accepted (item.obeyed full) s = refl
reader_picked p q accepted (item.down planned step) s = refl

-- a mark, of which nothing is picked
pub down_unpicked : {X : Type 0} (p : LivesStep → List X) → p mark ≡ [] → (i : JournalItem) → flat_map p (shown_down i) ≡ []
down_unpicked p none (item.down planned step) = ap (λ l. l ++ []) none
down_unpicked p none (item.accepted n key) = refl
down_unpicked p none (item.post place planned) = refl
down_unpicked p none (item.acked n) = refl
down_unpicked p none (item.dial planned) = refl
down_unpicked p none (item.opened k) = refl
down_unpicked p none (item.read k bytes) = refl
down_unpicked p none (item.wrote k bytes) = refl
down_unpicked p none (item.closed k broken) = refl
down_unpicked p none (item.judged k ask n answer unread trail) = refl
down_unpicked p none (item.asked ident n) = refl
down_unpicked p none (item.numbered n) = refl
down_unpicked p none (item.obeyed full) = refl

reset_unpicked : {X : Type 0} (p : LivesStep → List X) → p reset ≡ [] → (b : Bool) → flat_map p (shown_reset b) ≡ []
reset_unpicked p none true = ap (λ l. l ++ []) none
reset_unpicked p none false = refl

pub begun_picked : {X : Type 0} (p q : LivesStep → List X) (begins : Step → LivesStep) → ((t : Step) → p (begins t) ≡ q (begins t)) → (o : Option Event) (s : Session) →
    flat_map p (begins_told begins o s) ≡ flat_map q (begins_told begins o s)
begun_picked p q begins same None s = refl
begun_picked p q begins same (Some e) s = at (step_of s e).effects.set_back
  where
    at : (b : Bool) → flat_map p (if b then begins (step_of s e) ∷ [] else []) ≡ flat_map q (if b then begins (step_of s e) ∷ [] else [])
    at true = ap (λ l. l ++ []) (same (step_of s e))
    at false = refl

-- ---- of an entry, where nothing is picked of marks and resets

parts_picked : {X : Type 0} (p : LivesStep → List X) (xs ys zs us : List LivesStep) → flat_map p ys ≡ [] → flat_map p us ≡ [] → flat_map p (xs ++ ys ++ zs ++ us) ≡ flat_map p xs ++ flat_map p zs
parts_picked p xs ys zs us none nor =
    flat_map-append p (xs ++ ys ++ zs) us ∙ ap (λ l. flat_map p (xs ++ ys ++ zs) ++ l) nor ∙ append-nil (flat_map p (xs ++ ys ++ zs))
    ∙ flat_map-append p (xs ++ ys) zs ∙ ap (λ l. l ++ flat_map p zs) (flat_map-append p xs ys ∙ ap (λ l. flat_map p xs ++ l) none ∙ append-nil (flat_map p xs))

pub near_picked : {X : Type 0} (p : LivesStep → List X) → p mark ≡ [] → p reset ≡ [] → (f g : SideFacts) (i : JournalItem) (a b : State) →
    flat_map p (shown_near f g i a b) ≡ flat_map p (shown_by_sender g i a) ++ flat_map p (sends_anew f i a)
near_picked p marks resets f g i a b = parts_picked p (shown_by_sender g i a) (shown_down i) (sends_anew f i a) (shown_reset (is_reset f i a b)) (down_unpicked p marks i) (reset_unpicked p resets (is_reset f i a b))

pub far_picked : {X : Type 0} (p : LivesStep → List X) → p mark ≡ [] → p reset ≡ [] → (g : SideFacts) (i : JournalItem) (a b : State) →
    flat_map p (shown_far g i a b) ≡ flat_map p (shown_by_reader i b) ++ flat_map p (receives_anew g i b)
far_picked p marks resets g i a b = parts_picked p (shown_by_reader i b) (shown_down i) (receives_anew g i b) (shown_reset (is_reset g i b a)) (down_unpicked p marks i) (reset_unpicked p resets (is_reset g i b a))
