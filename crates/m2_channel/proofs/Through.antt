-- Through a history of two lossless sides: each entry's steps are those of the channel, and the channel stands where the
-- two journals lead.
use Rattle.std.proofs.Common.{◌≡◌, ℕ, suc, ◌+◌, ◌≤◌, max, Bool, true, false, not, ◌&&◌, ◌||◌, nat_lt, if◌then◌else◌, List, [], ◌∷◌, ◌++◌, length, map, Option, Some, None, inr, refl, sym, ap, subst, ◌∙◌, arith, append-nil, append_assoc}
use Rattle.std.specs.List.{AllByRecursion}
use Rattle.std.proofs.lemmas.List.{map-append}
use Rattle.std.proofs.lemmas.List.Elements.{filter-append}
use Rattle.m2_dispatch.specs.Heard.{is_key}
use Rattle.m2_dispatch.specs.m2_message.Message.{Content, unnumbered}
use Rattle.m2_dispatch.specs.m2_policy.declared.path.Key.{Key}
use Rattle.m2_never_reset.specs.m2_session.declared.event.Event.{Event}
use Rattle.m2_never_reset.specs.m2_session.declared.session.Session.{Session}
use Rattle.m2_never_reset.specs.m2_session.Steps.{step_of}
use Rattle.m2_never_reset.specs.Order.{AreFirstOf}
use Rattle.m2_never_reset.specs.Steps.{times}
use Rattle.m2_never_reset.specs.m2_journal.Feeds.{next_said}
use Rattle.m2_never_reset.specs.m2_journal.Items as item
use Rattle.m2_never_reset.specs.m2_journal.Items.{JournalItem}
use Rattle.m2_never_reset.specs.m2_journal.Lawful.{Lawful, OnFeedAt, MayAccept, IsNext, key_of}
use Rattle.m2_never_reset.specs.m2_journal.Plan.{Planned, to_post, to_dial, to_go_down}
use Rattle.m2_never_reset.specs.m2_journal.Replay.{AreLawful, after_items}
use Rattle.m2_never_reset.specs.m2_journal.Said.{Said, says, brings, aborts, garbles}
use Rattle.m2_never_reset.specs.m2_journal.SideFacts.{SideFacts}
use Rattle.m2_never_reset.specs.m2_journal.State as state
use Rattle.m2_never_reset.specs.m2_journal.State.{Feed, Delivery, State, start}
use Rattle.m2_never_reset.specs.m2_journal.Steps.{after, event_at}
use Rattle.m2_never_reset.specs.PairLaws.{IsNoDown}
use Rattle.m2_never_reset.specs.LinkOf.{letters}
use Rattle.m2_never_reset.specs.Orders as orders
use Rattle.m2_never_reset.specs.Orders.{SideItem, near_item, far_item, near_items, far_items, IsHistory, near_after, far_after, trouble_in, AreNodes, posted_in, posts_in, IsNoFullReset, LosslessIsNeverReset}
use Rattle.m2_never_reset.specs.Trouble.{trouble_at, trouble_told}
use Rattle.m2_channel.specs.Channel as channel
use Rattle.m2_channel.specs.Channel.{keyed, Channel, ChannelStep, post, accept, acknowledge, new_channel, IsLawful, changed, after_steps, IsRun, IsNoMark}
use Rattle.m2_channel.specs.Observed.{shown_by_sender, shown_by_reader, shown_down, shown_reset, brought_on, brought_by, resets_told, obeys_in_full, is_reset, shown_near, shown_far, shown_from, handed, IsLetter}
use Rattle.m2_channel.specs.ObservedLaws.{posted_to}
use Rattle.m2_channel.proofs.Keys.{key_self, next_is, of_key-append}
use Rattle.m2_channel.proofs.Runs.{unmarked_step, run_append, after_append}
use Rattle.m2_channel.proofs.Quiet.{Leads, entry_leads}
use Rattle.m2_channel.proofs.Orders.{near_on, far_on, posts_on, posts_beside, history_first}
use Rattle.m2_dispatch.proofs.m2_lemmas.Booleans.{from_false_true}
use Rattle.m2_dispatch.proofs.m2_lemmas.Lists.{all_append}

-- ---- messages and their keys

pub posted_keys : (g : SideFacts) (key : Key) (ms : List Content) → channel.of_key key (posted_to g ms) ≡ orders.of_key g key (map unnumbered ms)
posted_keys g key [] = refl
posted_keys g key (m ∷ ms) = at (is_key (key_of g m) key) (posted_keys g key ms)
  where
    at : (b : Bool) → channel.of_key key (posted_to g ms) ≡ orders.of_key g key (map unnumbered ms) →
        (if b then unnumbered m ∷ channel.of_key key (posted_to g ms) else channel.of_key key (posted_to g ms))
        ≡ (if b then unnumbered m ∷ orders.of_key g key (map unnumbered ms) else orders.of_key g key (map unnumbered ms))
    at true e = ap (λ l. unnumbered m ∷ l) e
    at false e = e

pub handed_count : (ds : List Delivery) → length (handed ds) ≡ length (letters ds)
handed_count [] = refl
handed_count (state.letter n life k m ∷ ds) = ap suc (handed_count ds)
handed_count (state.discarded ∷ ds) = handed_count ds
handed_count (state.remote_reset ∷ ds) = handed_count ds

-- ---- resets

no_reset_by : (obeys discard back : Bool) (n : ℕ) → obeys ≡ false → times discard + (if back then n else 0) ≡ 0 →
    (obeys || (discard || (back && nat_lt 0 n))) ≡ false
no_reset_by true discard back n o e = from_false_true (sym o)
no_reset_by false true back n o e = absurd (at (if back then n else 0) e)
  where
    at : (m : ℕ) → 1 + m ≡ 0 → ⊥
    at m e = omega (arith, e)
no_reset_by false false false n o e = refl
no_reset_by false false true n o e = let z : n ≡ 0 = omega (arith, e) in ap (nat_lt 0) z

obeys_none : (i : JournalItem) → IsNoFullReset i → obeys_in_full i ≡ false
obeys_none (item.obeyed true) h = absurd h
obeys_none (item.obeyed false) h = refl
obeys_none (item.post place planned) h = refl
obeys_none (item.dial planned) h = refl
obeys_none (item.opened k) h = refl
obeys_none (item.read k bytes) h = refl
obeys_none (item.wrote k bytes) h = refl
obeys_none (item.closed k broken) h = refl
obeys_none (item.judged k a n answer unread trail) h = refl
obeys_none (item.asked ident n) h = refl
obeys_none (item.numbered n) h = refl
obeys_none (item.accepted n key) h = refl
obeys_none (item.acked n) h = refl
obeys_none (item.down planned step) h = refl

resets_none : (o : Option Event) (s : Session) (n : ℕ) (obeys : Bool) → obeys ≡ false → trouble_told o s n ≡ 0 → (obeys || resets_told o s n) ≡ false
resets_none (Some e) s n obeys kept z = no_reset_by obeys (step_of s e).effects.discard (step_of s e).effects.set_back n kept z
resets_none None s n obeys kept z = at obeys kept
  where
    at : (b : Bool) → b ≡ false → (b || false) ≡ false
    at true e = e
    at false e = refl

pub no_reset_at : (f : SideFacts) (i : JournalItem) (a b : State) → IsNoFullReset i → trouble_at f i a b ≡ 0 → is_reset f i a b ≡ false
no_reset_at f i a b full none =
    resets_none (event_at f i a) a.session (length (letters a.deliveries) + length (letters b.deliveries)) (obeys_in_full i) (obeys_none i full) none

no_down : (i : JournalItem) → IsNoDown i → shown_down i ≡ []
no_down (item.post place planned) h = refl
no_down (item.dial planned) h = refl
no_down (item.opened k) h = refl
no_down (item.read k bytes) h = refl
no_down (item.wrote k bytes) h = refl
no_down (item.closed k broken) h = refl
no_down (item.judged k a n answer unread trail) h = refl
no_down (item.asked ident n) h = refl
no_down (item.numbered n) h = refl
no_down (item.accepted n key) h = refl
no_down (item.acked n) h = refl
no_down (item.obeyed full) h = refl
no_down (item.down planned step) h = absurd h

alone : (xs downs : List ChannelStep) (b : Bool) → downs ≡ [] → b ≡ false → xs ++ downs ++ shown_reset b ≡ xs
alone xs downs b d e = ap (λ l. xs ++ l ++ shown_reset b) d ∙ ap (λ c. xs ++ [] ++ shown_reset c) e ∙ append-nil (xs ++ []) ∙ append-nil xs

-- ---- where the channel stands

-- by what was posted, and where the two journals lead
pub record Stands (g : SideFacts) (ps : List Content) (a b : State) (c : Channel) : Type 0 where
  pub posted : c.posted ≡ posted_to g ps
  pub accepted : c.accepted ≡ handed b.deliveries
  pub dispatched : c.dispatched ≡ []
  pub acknowledged : c.acknowledged ≡ a.out.queue.base
  pub marked : c.marked ≡ false
  -- each message was accepted with its key
  pub keys : (key : Key) → channel.of_key key (handed b.deliveries) ≡ orders.of_key g key (letters b.deliveries)
  pub near_keeps : a.out.queue.keeps ≡ true
  pub far_keeps : b.out.queue.keeps ≡ true
  pub letters_only : AllByRecursion IsLetter b.deliveries

-- steps that lead the channel there
pub record Shows (xs : List ChannelStep) (g : SideFacts) (ps : List Content) (a b : State) (c : Channel) : Type 0 where
  pub run : IsRun xs c
  pub no_mark : AllByRecursion IsNoMark xs
  pub stands : Stands g ps a b (after_steps xs c)

none_shown : (g : SideFacts) (ps : List Content) (a b : State) (c : Channel) → Stands g ps a b c → Shows [] g ps a b c
none_shown g ps a b c h = record { run = tt; no_mark = tt; stands = h }

one_shown : (x : ChannelStep) (g : SideFacts) (ps : List Content) (a b : State) (c : Channel) → c.marked ≡ false → IsLawful x c → IsNoMark x →
    Stands g ps a b (changed x c) → Shows (x ∷ []) g ps a b c
one_shown x g ps a b c unmarked lawful no_mark h = record {
  run = (inr lawful, tt);
  no_mark = (no_mark, tt);
  stands = subst (Stands g ps a b) (sym (unmarked_step x c unmarked)) h;
}

-- ---- an entry of the side that posts

-- what the channel has of it, where the entry only moves what is acknowledged
still : (g : SideFacts) (ps : List Content) (a t b : State) (c : Channel) → Stands g ps a b c → t.out.queue.base ≡ a.out.queue.base → t.out.queue.keeps ≡ a.out.queue.keeps →
    Stands g (ps ++ []) t b c
still g ps a t b c h base keeps = record {
  posted = h.posted ∙ ap (posted_to g) (sym (append-nil ps));
  accepted = h.accepted;
  dispatched = h.dispatched;
  acknowledged = h.acknowledged ∙ sym base;
  marked = h.marked;
  keys = h.keys;
  near_keeps = keeps ∙ h.near_keeps;
  far_keeps = h.far_keeps;
  letters_only = h.letters_only;
}

post_shown : (g : SideFacts) (ps : List Content) (m : Content) (a t b : State) (c : Channel) → Stands g ps a b c → t.out.queue.base ≡ a.out.queue.base →
    t.out.queue.keeps ≡ a.out.queue.keeps → Shows (post (key_of g m) m ∷ []) g (ps ++ m ∷ []) t b c
post_shown g ps m a t b c h base keeps =
    one_shown (post (key_of g m) m) g (ps ++ m ∷ []) t b c h.marked tt tt
    (record {
      posted = ap (λ l. l ++ keyed (key_of g m) m ∷ []) h.posted ∙ sym (map-append (λ n. keyed (key_of g n) n) ps (m ∷ []));
      accepted = h.accepted;
      dispatched = h.dispatched;
      acknowledged = h.acknowledged ∙ sym base;
      marked = h.marked;
      keys = h.keys;
      near_keeps = keeps ∙ h.near_keeps;
      far_keeps = h.far_keeps;
      letters_only = h.letters_only;
    })

posts_shown : (g : SideFacts) (place : ℕ) (o : Option Planned) (ps : List Content) (a t b : State) (c : Channel) → Stands g ps a b c →
    t.out.queue.base ≡ a.out.queue.base → t.out.queue.keeps ≡ a.out.queue.keeps → Shows (shown_by_sender g (item.post place o)) g (ps ++ posted_in (item.post place o)) t b c
posts_shown g place (Some (to_post m)) ps a t b c h base keeps = post_shown g ps m a t b c h base keeps
posts_shown g place (Some to_dial) ps a t b c h base keeps = none_shown g (ps ++ []) t b c (still g ps a t b c h base keeps)
posts_shown g place (Some to_go_down) ps a t b c h base keeps = none_shown g (ps ++ []) t b c (still g ps a t b c h base keeps)
posts_shown g place None ps a t b c h base keeps = none_shown g (ps ++ []) t b c (still g ps a t b c h base keeps)

pub raised_to : (n m l : ℕ) → max n m ≤ l → m ≤ l
raised_to n m l h = omega (arith, h)

acked_shown : (g : SideFacts) (ps : List Content) (number : ℕ) (a t b : State) (c : Channel) → Stands g ps a b c → t.out.queue.base ≡ max a.out.queue.base number →
    t.out.queue.keeps ≡ a.out.queue.keeps → t.out.queue.base ≤ length (letters b.deliveries) → Shows (acknowledge number ∷ []) g (ps ++ []) t b c
acked_shown g ps number a t b c h base keeps few =
    let count = ap (λ l. length l) h.accepted ∙ handed_count b.deliveries in
    let most : number ≤ length c.accepted = raised_to a.out.queue.base number (length c.accepted) (subst (λ n. n ≤ length c.accepted) base (subst (λ n. t.out.queue.base ≤ n) (sym count) few)) in
    one_shown (acknowledge number) g (ps ++ []) t b c h.marked most tt
    (record {
      posted = h.posted ∙ ap (posted_to g) (sym (append-nil ps));
      accepted = h.accepted;
      dispatched = h.dispatched;
      acknowledged = ap (λ n. max n number) h.acknowledged ∙ sym base;
      marked = h.marked;
      keys = h.keys;
      near_keeps = keeps ∙ h.near_keeps;
      far_keeps = h.far_keeps;
      letters_only = h.letters_only;
    })

sender_shows : (g : SideFacts) (i : JournalItem) (ps : List Content) (a t b : State) (c : Channel) → Stands g ps a b c → Leads i a t →
    t.out.queue.base ≤ length (letters b.deliveries) → Shows (shown_by_sender g i) g (ps ++ posted_in i) t b c
sender_shows g (item.post place planned) ps a t b c h l few = posts_shown g place planned ps a t b c h l.base l.keeps
sender_shows g (item.acked n) ps a t b c h l few = acked_shown g ps n a t b c h l.base l.keeps few
sender_shows g (item.dial planned) ps a t b c h l few = none_shown g (ps ++ []) t b c (still g ps a t b c h l.base l.keeps)
sender_shows g (item.opened k) ps a t b c h l few = none_shown g (ps ++ []) t b c (still g ps a t b c h l.base l.keeps)
sender_shows g (item.read k bytes) ps a t b c h l few = none_shown g (ps ++ []) t b c (still g ps a t b c h l.base l.keeps)
sender_shows g (item.wrote k bytes) ps a t b c h l few = none_shown g (ps ++ []) t b c (still g ps a t b c h l.base l.keeps)
sender_shows g (item.closed k broken) ps a t b c h l few = none_shown g (ps ++ []) t b c (still g ps a t b c h l.base l.keeps)
sender_shows g (item.judged k ask n answer unread trail) ps a t b c h l few = none_shown g (ps ++ []) t b c (still g ps a t b c h l.base l.keeps)
sender_shows g (item.asked ident n) ps a t b c h l few = none_shown g (ps ++ []) t b c (still g ps a t b c h l.base l.keeps)
sender_shows g (item.numbered n) ps a t b c h l few = none_shown g (ps ++ []) t b c (still g ps a t b c h l.base l.keeps)
sender_shows g (item.accepted n key) ps a t b c h l few = none_shown g (ps ++ []) t b c (still g ps a t b c h l.base l.keeps)
sender_shows g (item.obeyed full) ps a t b c h l few = none_shown g (ps ++ []) t b c (still g ps a t b c h l.base l.keeps)
sender_shows g (item.down planned step) ps a t b c h l few = none_shown g (ps ++ []) t b c (still g ps a t b c h l.base l.keeps)

near_shows : (f g : SideFacts) (i : JournalItem) (ps : List Content) (a b : State) (c : Channel) → Stands g ps a b c → IsNoDown i → IsNoFullReset i →
    trouble_at f i a b ≡ 0 → Leads i a (after f i a) → (after f i a).out.queue.base ≤ length (letters b.deliveries) →
    Shows (shown_near f g i a b) g (ps ++ posted_in i) (after f i a) b c
near_shows f g i ps a b c h not_down full none l few =
    subst (λ xs. Shows xs g (ps ++ posted_in i) (after f i a) b c)
    (sym (alone (shown_by_sender g i) (shown_down i) (is_reset f i a b) (no_down i not_down) (no_reset_at f i a b full none)))
    (sender_shows g i ps a (after f i a) b c h l few)

-- ---- an entry of the side that accepts

-- the message in the bytes
pub brings_said : (g : SideFacts) (number : ℕ) (key : Key) (s : State) (x : Option Said) → IsNext g s number key x → (m : Content) × (brought_by x ≡ m ∷ []) × (key ≡ key_of g m)
brings_said g number key s (Some (brings m)) h = (m, refl, h.2)
brings_said g number key s (Some (says y)) h = absurd h
brings_said g number key s (Some aborts) h = absurd h
brings_said g number key s (Some garbles) h = absurd h
brings_said g number key s None h = absurd h

pub brings_one : (g : SideFacts) (number : ℕ) (key : Key) (s : State) (o : Option Feed) → OnFeedAt o (MayAccept g s number key) →
    (m : Content) × (brought_on s.last o ≡ m ∷ []) × (key ≡ key_of g m)
brings_one g number key s (Some d) may = brings_said g number key s (next_said s.last d) may.next
brings_one g number key s None may = absurd may

-- the side that posts stays
stays : (g : SideFacts) (i : JournalItem) (ps : List Content) (a b t : State) (c : Channel) → Stands g ps a b c → handed t.deliveries ≡ handed b.deliveries ++ [] →
    letters t.deliveries ≡ letters b.deliveries ++ [] → Leads i b t → Stands g ps a t c
stays g i ps a b t c h hand gone l = record {
  posted = h.posted;
  accepted = h.accepted ∙ sym (hand ∙ append-nil (handed b.deliveries));
  dispatched = h.dispatched;
  acknowledged = h.acknowledged;
  marked = h.marked;
  keys = λ key. ap (channel.of_key key) (hand ∙ append-nil (handed b.deliveries)) ∙ h.keys key ∙ ap (orders.of_key g key) (sym (gone ∙ append-nil (letters b.deliveries)));
  near_keeps = h.near_keeps;
  far_keeps = l.keeps ∙ h.far_keeps;
  letters_only = l.letters_only h.letters_only;
}

-- what a key has, with one more
keys_more : (g : SideFacts) (key other : Key) (m : Content) (hs ls : List Content) → hs ≡ ls → key ≡ key_of g m →
    hs ++ (if is_key key other then unnumbered m ∷ [] else []) ≡ ls ++ (if is_key (key_of g m) other then unnumbered m ∷ [] else [])
keys_more g key other m hs ls e k = ap (λ l. l ++ (if is_key key other then unnumbered m ∷ [] else [])) e ∙ ap (λ q. ls ++ (if is_key q other then unnumbered m ∷ [] else [])) k

letters_more : (g : SideFacts) (key : Key) (ls : List Content) (m : Content) →
    orders.of_key g key (ls ++ unnumbered m ∷ []) ≡ orders.of_key g key ls ++ (if is_key (key_of g m) key then unnumbered m ∷ [] else [])
letters_more g key ls m = filter-append (λ n. is_key (key_of g n) key) ls (unnumbered m ∷ [])

-- the message that is next is accepted
accepted_shown : (g : SideFacts) (number : ℕ) (key : Key) (m : Content) (ps : List Content) (a b t : State) (c : Channel) → Stands g ps a b c → key ≡ key_of g m →
    Leads (item.accepted number key) b t → handed t.deliveries ≡ handed b.deliveries ++ keyed key m ∷ [] → letters t.deliveries ≡ letters b.deliveries ++ unnumbered m ∷ [] →
    AreFirstOf (orders.of_key g key (letters t.deliveries)) (orders.of_key g key (map unnumbered ps)) → Shows (accept key m ∷ []) g ps a t c
accepted_shown g number key m ps a b t c h k l hand gone come =
    let own : is_key (key_of g m) key ≡ true = subst (λ q. is_key q key ≡ true) k (key_self key) in
    let of_channel : channel.of_key key c.accepted ≡ orders.of_key g key (letters b.deliveries) = ap (channel.of_key key) h.accepted ∙ h.keys key in
    let of_letters : orders.of_key g key (letters t.deliveries) ≡ orders.of_key g key (letters b.deliveries) ++ unnumbered m ∷ [] =
    ap (orders.of_key g key) gone ∙ letters_more g key (letters b.deliveries) m
    ∙ ap (λ x. orders.of_key g key (letters b.deliveries) ++ (if x then unnumbered m ∷ [] else [])) own in
    let first : AreFirstOf (channel.of_key key c.accepted ++ unnumbered m ∷ []) (channel.of_key key c.posted) =
    subst (λ x. AreFirstOf (channel.of_key key c.accepted ++ unnumbered m ∷ []) x) (sym (ap (channel.of_key key) h.posted ∙ posted_keys g key ps))
    (subst (λ x. AreFirstOf (x ++ unnumbered m ∷ []) (orders.of_key g key (map unnumbered ps))) (sym of_channel)
    (subst (λ x. AreFirstOf x (orders.of_key g key (map unnumbered ps))) of_letters come)) in
    one_shown (accept key m) g ps a t c h.marked (next_is (channel.of_key key c.accepted) (channel.of_key key c.posted) (unnumbered m) first) tt
    (record {
      posted = h.posted;
      accepted = ap (λ x. x ++ keyed key m ∷ []) h.accepted ∙ sym hand;
      dispatched = h.dispatched;
      acknowledged = h.acknowledged;
      marked = h.marked;
      keys = λ other. ap (channel.of_key other) hand ∙ of_key-append other (handed b.deliveries) (keyed key m ∷ [])
          ∙ keys_more g key other m (channel.of_key other (handed b.deliveries)) (orders.of_key g other (letters b.deliveries)) (h.keys other) k
          ∙ sym (ap (orders.of_key g other) gone ∙ letters_more g other (letters b.deliveries) m);
      near_keeps = h.near_keeps;
      far_keeps = l.keeps ∙ h.far_keeps;
      letters_only = l.letters_only h.letters_only;
    })

accepts_shown : (g : SideFacts) (number : ℕ) (key : Key) (ps : List Content) (a b t : State) (c : Channel) → Stands g ps a b c → Lawful g (item.accepted number key) b →
    Leads (item.accepted number key) b t → AreFirstOf (orders.of_key g key (letters t.deliveries)) (orders.of_key g key (map unnumbered ps)) →
    Shows (shown_by_reader (item.accepted number key) b) g ps a t c
accepts_shown g number key ps a b t c h lawful l come =
    let it = brings_one g number key b b.feed lawful in
    subst (λ ms. Shows (map (accept key) ms) g ps a t c) (sym it.1)
    (accepted_shown g number key it.0 ps a b t c h it.2 l
    (l.handed ∙ ap (λ ms. handed b.deliveries ++ map (keyed key) ms) it.1)
    (l.letters ∙ ap (λ ms. letters b.deliveries ++ map unnumbered ms) it.1) come)

reader_shows : (g : SideFacts) (i : JournalItem) (ps : List Content) (a b t : State) (c : Channel) → Stands g ps a b c → Lawful g i b → Leads i b t →
    ((key : Key) → AreFirstOf (orders.of_key g key (letters t.deliveries)) (orders.of_key g key (map unnumbered ps))) → Shows (shown_by_reader i b) g ps a t c
reader_shows g (item.accepted number key) ps a b t c h lawful l come = accepts_shown g number key ps a b t c h lawful l (come key)
reader_shows g (item.post place planned) ps a b t c h lawful l come = none_shown g ps a t c (stays g (item.post place planned) ps a b t c h l.handed l.letters l)
reader_shows g (item.dial planned) ps a b t c h lawful l come = none_shown g ps a t c (stays g (item.dial planned) ps a b t c h l.handed l.letters l)
reader_shows g (item.opened k) ps a b t c h lawful l come = none_shown g ps a t c (stays g (item.opened k) ps a b t c h l.handed l.letters l)
reader_shows g (item.read k bytes) ps a b t c h lawful l come = none_shown g ps a t c (stays g (item.read k bytes) ps a b t c h l.handed l.letters l)
reader_shows g (item.wrote k bytes) ps a b t c h lawful l come = none_shown g ps a t c (stays g (item.wrote k bytes) ps a b t c h l.handed l.letters l)
reader_shows g (item.closed k broken) ps a b t c h lawful l come = none_shown g ps a t c (stays g (item.closed k broken) ps a b t c h l.handed l.letters l)
reader_shows g (item.judged k ask n answer unread trail) ps a b t c h lawful l come =
    none_shown g ps a t c (stays g (item.judged k ask n answer unread trail) ps a b t c h l.handed l.letters l)
reader_shows g (item.asked ident n) ps a b t c h lawful l come = none_shown g ps a t c (stays g (item.asked ident n) ps a b t c h l.handed l.letters l)
reader_shows g (item.numbered n) ps a b t c h lawful l come = none_shown g ps a t c (stays g (item.numbered n) ps a b t c h l.handed l.letters l)
reader_shows g (item.acked n) ps a b t c h lawful l come = none_shown g ps a t c (stays g (item.acked n) ps a b t c h l.handed l.letters l)
reader_shows g (item.obeyed full) ps a b t c h lawful l come = none_shown g ps a t c (stays g (item.obeyed full) ps a b t c h l.handed l.letters l)
reader_shows g (item.down planned step) ps a b t c h lawful l come = none_shown g ps a t c (stays g (item.down planned step) ps a b t c h l.handed l.letters l)

far_shows : (g : SideFacts) (i : JournalItem) (ps : List Content) (a b : State) (c : Channel) → Stands g ps a b c → IsNoDown i → IsNoFullReset i →
    trouble_at g i b a ≡ 0 → Lawful g i b → Leads i b (after g i b) →
    ((key : Key) → AreFirstOf (orders.of_key g key (letters (after g i b).deliveries)) (orders.of_key g key (map unnumbered ps))) →
    Shows (shown_far g i a b) g ps a (after g i b) c
far_shows g i ps a b c h not_down full none lawful l come =
    subst (λ xs. Shows xs g ps a (after g i b) c)
    (sym (alone (shown_by_reader i b) (shown_down i) (is_reset g i b a) (no_down i not_down) (no_reset_at g i b a full none)))
    (reader_shows g i ps a b (after g i b) c h lawful l come)

-- ---- an order

shows_on : (xs ys : List ChannelStep) (g : SideFacts) (ps qs : List Content) (a b s t : State) (c : Channel) → Shows xs g ps a b c → Shows ys g qs s t (after_steps xs c) →
    Shows (xs ++ ys) g qs s t c
shows_on xs ys g ps qs a b s t c h k = record {
  run = run_append xs ys c h.run k.run;
  no_mark = all_append IsNoMark xs ys h.no_mark k.no_mark;
  stands = subst (Stands g qs s t) (sym (after_append xs ys c)) k.stands;
}

-- what is known of each entry of an order
pub record Enters (f : SideFacts) (i : JournalItem) (s other : State) : Type 0 where
  pub not_down : IsNoDown i
  pub full : IsNoFullReset i
  pub lawful : Lawful f i s
  pub none : trouble_at f i s other ≡ 0

abbrev pub EachEnters : (f g : SideFacts) → List SideItem → (near far : State) → Type 0
EachEnters f g [] a b = Unit {0}
EachEnters f g (near_item i ∷ order) a b = Enters f i a b × EachEnters f g order (after f i a) b
EachEnters f g (far_item i ∷ order) a b = Enters g i b a × EachEnters f g order a (after g i b)

each_enters : (f g : SideFacts) (order : List SideItem) (a b : State) → AreLawful f (near_items order) a → AreLawful g (far_items order) b →
    AllByRecursion IsNoDown (near_items order) → AllByRecursion IsNoDown (far_items order) →
    AllByRecursion IsNoFullReset (near_items order) → AllByRecursion IsNoFullReset (far_items order) → trouble_in f g order a b ≡ 0 → EachEnters f g order a b
each_enters f g [] a b near far near_up far_up near_kept far_kept e = tt
each_enters f g (near_item i ∷ order) a b near far near_up far_up near_kept far_kept e = (
  record { not_down = near_up.0; full = near_kept.0; lawful = near.0; none = omega (arith, e) },
  each_enters f g order (after f i a) b near.1 far near_up.1 far_up near_kept.1 far_kept (omega (arith, e)),
)
each_enters f g (far_item i ∷ order) a b near far near_up far_up near_kept far_kept e = (
  record { not_down = far_up.0; full = far_kept.0; lawful = far.0; none = omega (arith, e) },
  each_enters f g order a (after g i b) near far.1 near_up far_up.1 near_kept far_kept.1 (omega (arith, e)),
)

no_base : (base count : ℕ) → base ≤ count → count ≡ 0 → base ≡ 0
no_base base count h e = omega (arith, h, e)

module _ (never : LosslessIsNeverReset) (f g : SideFacts) (nodes : AreNodes f g) where
  through : (before more : List SideItem) (a b : State) (c : Channel) → near_after f before ≡ a → far_after g before ≡ b → IsHistory f g (before ++ more) →
      EachEnters f g more a b → Stands g (posts_in (near_items before)) a b c →
      Shows (shown_from f g more a b) g (posts_in (near_items (before ++ more))) (after_items f (near_items more) a) (after_items g (far_items more) b) c
  through before [] a b c ea eb history entries h =
      none_shown g (posts_in (near_items (before ++ []))) a b c (subst (λ x. Stands g (posts_in (near_items x)) a b c) (sym (append-nil before)) h)
  through before (near_item i ∷ more) a b c ea eb history entries h =
      let here = before ++ near_item i ∷ [] in
      let same = append_assoc before (near_item i ∷ []) more in
      let on = subst (IsHistory f g) (sym same) history in
      let was = never f g before nodes (history_first f g before (near_item i ∷ more) history) in
      let now = never f g here nodes (history_first f g here more on) in
      let near : near_after f here ≡ after f i a = near_on f before (near_item i ∷ []) ∙ ap (after f i) ea in
      let far : far_after g here ≡ b = far_on g before (near_item i ∷ []) ∙ eb in
      let base : a.out.queue.base ≤ length (letters b.deliveries) =
      subst (λ s. s.out.queue.base ≤ length (letters b.deliveries)) ea (subst (λ t. (near_after f before).out.queue.base ≤ length (letters t.deliveries)) eb was.brought_over.far.base) in
      let few : (after f i a).out.queue.base ≤ length (letters b.deliveries) =
      subst (λ s. s.out.queue.base ≤ length (letters b.deliveries)) near (subst (λ t. (near_after f here).out.queue.base ≤ length (letters t.deliveries)) far now.brought_over.far.base) in
      let it = entries.0 in
      let l = entry_leads f i a b it.not_down it.lawful it.none (no_base a.out.queue.base (length (letters b.deliveries)) base) h.near_keeps in
      let one = subst (λ ps. Shows (shown_near f g i a b) g ps (after f i a) b c) (sym (posts_on before i))
      (near_shows f g i (posts_in (near_items before)) a b c h it.not_down it.full it.none l few) in
      let rest = through here more (after f i a) b (after_steps (shown_near f g i a b) c) near far on entries.1 one.stands in
      let all = subst (λ x. Shows (shown_from f g more (after f i a) b) g (posts_in (near_items x)) (after_items f (near_items more) (after f i a)) (after_items g (far_items more) b) (after_steps (shown_near f g i a b) c)) same rest in
      shows_on (shown_near f g i a b) (shown_from f g more (after f i a) b) g (posts_in (near_items here)) (posts_in (near_items (before ++ near_item i ∷ more)))
      (after f i a) b (after_items f (near_items more) (after f i a)) (after_items g (far_items more) b) c one all
  through before (far_item i ∷ more) a b c ea eb history entries h =
      let here = before ++ far_item i ∷ [] in
      let same = append_assoc before (far_item i ∷ []) more in
      let on = subst (IsHistory f g) (sym same) history in
      let was = never f g before nodes (history_first f g before (far_item i ∷ more) history) in
      let now = never f g here nodes (history_first f g here more on) in
      let near : near_after f here ≡ a = near_on f before (far_item i ∷ []) ∙ ea in
      let far : far_after g here ≡ after g i b = far_on g before (far_item i ∷ []) ∙ ap (after g i) eb in
      let ps = posts_in (near_items before) in
      let base : b.out.queue.base ≤ length (letters a.deliveries) =
      subst (λ s. s.out.queue.base ≤ length (letters a.deliveries)) eb (subst (λ t. (far_after g before).out.queue.base ≤ length (letters t.deliveries)) ea was.brought_over.near.base) in
      let come : (key : Key) → AreFirstOf (orders.of_key g key (letters (after g i b).deliveries)) (orders.of_key g key (map unnumbered ps)) =
      λ key. subst (λ l. AreFirstOf (orders.of_key g key (letters (after g i b).deliveries)) (orders.of_key g key (map unnumbered l))) (posts_beside before i)
      (subst (λ t. AreFirstOf (orders.of_key g key (letters t.deliveries)) (orders.of_key g key (map unnumbered (posts_in (near_items here))))) far (now.far_posted key)) in
      let it = entries.0 in
      let l = entry_leads g i b a it.not_down it.lawful it.none (no_base b.out.queue.base (length (letters a.deliveries)) base) h.far_keeps in
      let one = far_shows g i ps a b c h it.not_down it.full it.none it.lawful l come in
      let rest = through here more a (after g i b) (after_steps (shown_far g i a b) c) near far on entries.1 (subst (λ l. Stands g l a (after g i b) (after_steps (shown_far g i a b) c)) (sym (posts_beside before i)) one.stands) in
      let all = subst (λ x. Shows (shown_from f g more a (after g i b)) g (posts_in (near_items x)) (after_items f (near_items more) a) (after_items g (far_items more) (after g i b)) (after_steps (shown_far g i a b) c)) same rest in
      shows_on (shown_far g i a b) (shown_from f g more a (after g i b)) g ps (posts_in (near_items (before ++ far_item i ∷ more)))
      a (after g i b) (after_items f (near_items more) a) (after_items g (far_items more) (after g i b)) c one all

  at_start : Stands g [] (start f) (start g) new_channel
  at_start = record {
    posted = refl;
    accepted = refl;
    dispatched = refl;
    acknowledged = refl;
    marked = refl;
    keys = λ key. refl;
    near_keeps = ap not nodes.near_keeps;
    far_keeps = ap not nodes.far_keeps;
    letters_only = tt;
  }

  -- from the start of both
  pub shows_all : (order : List SideItem) → IsHistory f g order →
      Shows (shown_from f g order (start f) (start g)) g (posts_in (near_items order)) (near_after f order) (far_after g order) new_channel
  shows_all order history =
      let all = never f g order nodes history in
      through [] order (start f) (start g) new_channel refl refl history
      (each_enters f g order (start f) (start g) history.near_lawful history.far_lawful history.near_not_down history.far_not_down all.near_obeys_none all.far_obeys_none all.no_trouble)
      at_start
