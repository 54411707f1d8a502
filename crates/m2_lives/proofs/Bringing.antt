-- Along an order of two lossless journals that fits, what the entries show are steps of the channel with lives.
use Rattle.std.proofs.Common.{◌≡◌, ◌≢◌, ℕ, zero, suc, ◌-◌, ◌<◌, ◌≤◌, ◌⊎◌, inl, inr, max, Bool, true, false, not, if◌then◌else◌, List, [], ◌∷◌, ◌++◌, length, length-append, map, take, drop, Option, Some, None, refl, sym, ap, subst, ◌∙◌, arith, append-nil, append_assoc}
use Rattle.std.specs.List.{AllByRecursion}
use Rattle.std.proofs.lemmas.List.{length-map, map-append}
use Rattle.m2_bytes_fit.proofs.Lists.{cons_is_some}
use Rattle.m2_channel.proofs.Through.{brings_one}
use Rattle.m2_channel.specs.Channel.{KeyedMessage, keyed}
use Rattle.m2_channel.specs.Observed.{brought_on, is_reset}
use Rattle.m2_channel.specs.ObservedLaws.{posted_to}
use Rattle.m2_journal.specs.Items as item
use Rattle.m2_journal.specs.Items.{JournalItem}
use Rattle.m2_journal.specs.Lawful.{Lawful, MayAcknowledge, OnFeedAt, key_of}
use Rattle.m2_journal.specs.Laws.{IsOfCalls}
use Rattle.m2_journal.specs.Plan.{to_post, to_dial, to_go_down}
use Rattle.m2_journal.specs.Replay.{after_items}
use Rattle.m2_journal.specs.SideFacts.{SideFacts}
use Rattle.m2_journal.specs.State as state
use Rattle.m2_journal.specs.State.{Delivery, Feed, State, start}
use Rattle.m2_journal.specs.Steps.{after, event_at}
use Rattle.m2_journal.specs.m2_message.Message.{Content, unnumbered}
use Rattle.m2_journal.specs.m2_policy.declared.path.Key.{Key}
use Rattle.m2_journal.specs.m2_queues.QueueLaws.{EachPriorityKeepsItsOrder, History, KeptAreTheNumbered, start_of}
use Rattle.m2_journal.specs.m2_session.declared.event.Event.{Event}
use Rattle.m2_journal.specs.m2_session.declared.session.Session.{Session}
use Rattle.m2_journal.specs.m2_session.Steps.{Step, step_of}
use Rattle.m2_never_reset.proofs.Feeds.{take-front}
use Rattle.m2_never_reset.specs.Order.{AreFirstOf}
use Rattle.m2_never_reset.specs.Orders.{SideItem, near_item, far_item, near_items, far_items, near_after, far_after, posted_in, posts_in}
use Rattle.m2_never_reset.proofs.Entries.{fits_turn}
use Rattle.m2_never_reset.proofs.Orders.{IsLedTo}
use Rattle.m2_lives.specs.Lives.{LivesChannel, new_lives, Has, IsNewName, LivesStep, post, begins_sending, begins_receiving, accept, acknowledge, after_in_lives, LifeMessage, of_life}
use Rattle.m2_lives.specs.LivesLaws.{AreNames}
use Rattle.m2_lives.specs.Observed.{begins_told, dropped_at, handed_in_lives, receives_anew, sends_anew, shown_by_reader, shown_by_sender, shown_down, shown_far, shown_from, shown_near, shown_reset}
use Rattle.m2_lives.specs.ObservedLaws.{NumberedLife}
use Rattle.m2_lives.proofs.Acknowledging.{acked_within}
use Rattle.m2_lives.proofs.Among.{names_last, none_or_some, only_last}
use Rattle.m2_lives.proofs.Backing.{Backs, current_backs}
use Rattle.m2_lives.proofs.Delivered.{one, take_first}
use Rattle.m2_journal.proofs.m2_lemmas.Lists.{take_nil}
use Rattle.m2_lives.proofs.Dividing.{Divided, divided_anew, divided_letter, divided_start, divided_thrown, divided_told, joined, last_same}
use Rattle.m2_lives.proofs.Entries.{sets_back_told}
use Rattle.m2_lives.proofs.Keeping.{Both, IsInTurn, Known, NearStep, Point, at_start, both_turned, first, near_step, point_turned, replayed}
use Rattle.m2_lives.proofs.Ledger.{Ledger, contents, count, lives, names}
use Rattle.m2_lives.proofs.Moves.{view}
use Rattle.m2_lives.proofs.Named.{life_of, named_by}
use Rattle.m2_lives.proofs.Noting.{of_its_life, of_life_more}
use Rattle.m2_lives.proofs.Runs.{receiving_name}
use Rattle.m2_lives.proofs.Showing.{Accepts, Course, Leads, Shows, accept_leads, ack_leads, last_is_new, leads_append, leads_none, mark_leads, post_leads, receiving_leads, reset_leads, said_in, sending_anew, sending_leads}
use Rattle.m2_lives.proofs.Standing.{Stands}
use Rattle.m2_lives.proofs.Turns.{Begins, Stays, Turned, base_by, entry_turns, letters_by, thrown_by}
use Rattle.m2_never_reset.proofs.Numbered.{calls_keep}

-- ---- the laws on which this stands

pub record Laws : Type 0 where
  pub known : Known
  pub kept : KeptAreTheNumbered
  pub order : EachPriorityKeepsItsOrder

-- ---- lists

take_rest : {X : Type 0} (b n : ℕ) (xs : List X) → b ≤ n → take b xs ++ take (n - b) (drop b xs) ≡ take n xs
take_rest zero n xs h = ap (λ k. take k xs) (let e : n - 0 ≡ n = omega arith in e)
take_rest (suc b) n [] h = take_nil (n - suc b) ∙ sym (take_nil n)
take_rest (suc b) zero (x ∷ xs) h = absurd (omega (arith, h))
take_rest (suc b) (suc n) (x ∷ xs) h =
    ap (λ k. x ∷ (take b xs ++ take k (drop b xs))) (let e : suc n - suc b ≡ n - b = omega arith in e) ∙ ap (λ l. x ∷ l) (take_rest b n xs (omega (arith, h)))

take_map : {X Y : Type 0} (f : X → Y) (n : ℕ) (xs : List X) → map f (take n xs) ≡ take n (map f xs)
take_map f zero xs = refl
take_map f (suc n) [] = refl
take_map f (suc n) (x ∷ xs) = ap (λ l. f x ∷ l) (take_map f n xs)

first_front : (xs ys all : List Content) → AreFirstOf (xs ++ ys) all → AreFirstOf xs all
first_front xs ys all (more, e) = (ys ++ more, e ∙ append_assoc xs ys more)

-- so many of all are the first of these, which are themselves the first ones
first_of_first : (n : ℕ) (some all : List Content) → AreFirstOf some all → n ≤ length some → AreFirstOf (take n all) some
first_of_first n some all (more, e) h = let it = take_first n some in (it.0, it.1 ∙ ap (λ l. l ++ it.0) (sym (ap (take n) e ∙ take-front n some more h)))

-- ---- what is known of a side

pub record SideKnown (f : SideFacts) (s : State) : Type 0 where
  pub lossless : s.session.policy.lossy ≡ false
  pub keeps : s.out.queue.keeps ≡ true
  pub calls : IsOfCalls (not f.policy.lossy) s.out
  pub kept : s.out.queue.kept ≡ drop s.out.queue.base s.out.numbered

pub side_known : Laws → (f g : SideFacts) → Both f g → (h : SideFacts) (s : State) → h.policy.lossy ≡ false → IsLedTo h s → SideKnown h s
side_known laws f g both h s policy led =
    let r = replayed laws.known f g both h s led in
    let calls = r.sound.queue in
    record {
      lossless = ap (λ p. p.lossy) r.sound.session.policy ∙ policy;
      keeps = ap (λ (z : History). z.queue.keeps) calls.1 ∙ calls_keep (start_of (not h.policy.lossy)) calls.0 ∙ ap not policy;
      calls = calls;
      kept = subst (λ (z : History). z.queue.kept ≡ drop z.queue.base z.numbered) (sym calls.1) (laws.kept (not h.policy.lossy) calls.0);
    }

-- ---- where an order has led

abbrev pub course : (earlier posts : List Content) → State → (x y : Ledger) → Course
course earlier posts a x y = record {
  posts = posts;
  earlier = earlier;
  dropped = a.out.dropped;
  acked = take a.out.queue.base a.out.numbered;
  life = a.life;
  ended = x.ended;
  names = names y;
  accepted = y.accepted;
}

course_same : (w : Course) (posts' dropped' acked' : List Content) (life' : ℕ) (ended' : List NumberedLife) → posts' ≡ w.posts → dropped' ≡ w.dropped → acked' ≡ w.acked → life' ≡ w.life → ended' ≡ w.ended →
    w ≡ record w { posts = posts'; dropped = dropped'; acked = acked'; life = life'; ended = ended' }
course_same w posts' dropped' acked' life' ended' p d a l e = rw (p, d, a, l, e) refl

-- what the far side has accepted in the near side's life are the first ones that were numbered in it
current_first : (f g : SideFacts) (a b : State) (x y : Ledger) → Point f g a b x y → AreFirstOf (contents a.life y) (map unnumbered a.out.numbered)
current_first f g a b x y p = at (p.ledgers.far_beside.prefix a.life)
  where
    all : List Content
    all = map unnumbered a.out.numbered

    none : contents a.life y ≡ [] → AreFirstOf (contents a.life y) all
    none e = (all, ap (λ l. l ++ all) (sym e))

    at : (contents a.life y ≡ []) ⊎ Has (λ (l : NumberedLife). (l.name ≡ a.life) × AreFirstOf (contents a.life y) l.numbered) (lives x) → AreFirstOf (contents a.life y) all
    at (inl e) = none e
    at (inr has) = by (none_or_some a.life)
      where
        named : x.now.name ≡ a.life
        named = ap (λ (l : NumberedLife). l.name) p.near.now

        by : (a.life ≡ 0) ⊎ (a.life ≢ 0) → AreFirstOf (contents a.life y) all
        by (inl z) = none (ap (map (λ (m : KeyedMessage). m.message)) (p.ledgers.far.known a.life (inl z)))
        by (inr some) =
            let one = only_last (λ (l : NumberedLife). l.name) (λ (l : NumberedLife). (l.name ≡ a.life) × AreFirstOf (contents a.life y) l.numbered) x.ended x.now (λ e. some (sym named ∙ e)) p.ledgers.near.named (λ l q. q.0 ∙ sym named) has in
            subst (λ (l : NumberedLife). AreFirstOf (contents a.life y) l.numbered) p.near.now one.1

first_short : (first all : List Content) → AreFirstOf first all → length first ≤ length all
first_short first all (more, e) = let s = ap length e in let l = length-append first more in omega (arith, s, l)

base_fits : (f g : SideFacts) (a b : State) (x y : Ledger) → Point f g a b x y → a.out.queue.base ≤ length a.out.numbered
base_fits f g a b x y p =
    let few = first_short (contents a.life y) (map unnumbered a.out.numbered) (current_first f g a b x y p) in
    let same = length-map a.out.numbered unnumbered in
    let told = length-map (of_life a.life y.accepted) (λ (m : KeyedMessage). m.message) in
    let base = p.near.base in
    omega (arith, few, same, told, base)

-- the near side's current life
pub current : (laws : Laws) (f g : SideFacts) (a b : State) (x y : Ledger) (earlier posts : List Content) (c : LivesChannel) → SideKnown f a → Point f g a b x y → posts ≡ earlier ++ a.out.posted →
    Shows g (course earlier posts a x y) c → Backs g c.posted c.sends x.now
current laws f g a b x y earlier posts c known p is h =
    subst (Backs g c.posted c.sends) (sym p.near.now)
    (current_backs laws.order g (not f.policy.lossy) a.out known.calls earlier c.posted c.sends a.life (h.posted ∙ ap (posted_to g) is) h.name h.start h.end)

-- ---- names of lives

named_still : (o : Option Event) (q : Session) (now : ℕ) → sets_back_told o q ≡ false → named_by o q now ≡ now
named_still (Some e) q now z = ap (λ b. if b then (step_of q e).session.server_cookie else now) z
named_still None q now z = refl

named_anew : (o : Option Event) (e : Event) (q : Session) (now : ℕ) → o ≡ Some e → (step_of q e).effects.set_back ≡ true → named_by o q now ≡ (step_of q e).session.server_cookie
named_anew o e q now is z = ap (λ p. named_by p q now) is ∙ ap (λ b. if b then (step_of q e).session.server_cookie else now) z

back_told : (o : Option Event) (e : Event) (q : Session) → o ≡ Some e → (step_of q e).effects.set_back ≡ true → sets_back_told o q ≡ true
back_told o e q is z = ap (λ p. sets_back_told p q) is ∙ z

-- whether an entry is shown to begin a life
none_begun : (anew : Step → LivesStep) (o : Option Event) (q : Session) → sets_back_told o q ≡ false → begins_told anew o q ≡ []
none_begun anew (Some e) q z = ap (λ b. if b then anew (step_of q e) ∷ [] else []) z
none_begun anew None q z = refl

one_begun : (anew : Step → LivesStep) (o : Option Event) (e : Event) (q : Session) → o ≡ Some e → (step_of q e).effects.set_back ≡ true → begins_told anew o q ≡ anew (step_of q e) ∷ []
one_begun anew o e q is z = ap (λ p. begins_told anew p q) is ∙ ap (λ b. if b then anew (step_of q e) ∷ [] else []) z

-- ---- marks and resets

down_leads : (g : SideFacts) (i : JournalItem) (c : LivesChannel) (w : Course) → Shows g w c → Leads g (shown_down i) c w w
down_leads g (item.down planned step) c w h = mark_leads g c w h
down_leads g (item.post place planned) c w h = leads_none g c w h
down_leads g (item.dial planned) c w h = leads_none g c w h
down_leads g (item.opened k) c w h = leads_none g c w h
down_leads g (item.read k bytes) c w h = leads_none g c w h
down_leads g (item.wrote k bytes) c w h = leads_none g c w h
down_leads g (item.closed k broken) c w h = leads_none g c w h
down_leads g (item.judged k ask n answer unread trail) c w h = leads_none g c w h
down_leads g (item.asked ident n) c w h = leads_none g c w h
down_leads g (item.numbered n) c w h = leads_none g c w h
down_leads g (item.accepted n key) c w h = leads_none g c w h
down_leads g (item.acked n) c w h = leads_none g c w h
down_leads g (item.obeyed full) c w h = leads_none g c w h

reset_or_not : (g : SideFacts) (b : Bool) (c : LivesChannel) (w : Course) → Shows g w c → Leads g (shown_reset b) c w w
reset_or_not g true c w h = reset_leads g c w h
reset_or_not g false c w h = leads_none g c w h

-- first what the side itself shows, then a mark, the life that begins, and a reset
four_lead : (g : SideFacts) (i : JournalItem) (xs ys : List LivesStep) (b : Bool) (c : LivesChannel) (u v w : Course) → Leads g xs c u v → ((d : LivesChannel) → Shows g v d → Leads g ys d v w) → Leads g (xs ++ shown_down i ++ ys ++ shown_reset b) c u w
four_lead g i xs ys b c u v w own next =
    let marked = leads_append g xs (shown_down i) c u v v own (down_leads g i (after_in_lives xs c) v own.shows) in
    let began = leads_append g (xs ++ shown_down i) ys c u v w marked (next (after_in_lives (xs ++ shown_down i) c) marked.shows) in
    leads_append g (xs ++ shown_down i ++ ys) (shown_reset b) c u w w began (reset_or_not g b (after_in_lives (xs ++ shown_down i ++ ys) c) w began.shows)

-- ---- an entry of the near side

acks_lead : (g : SideFacts) (ms : List Content) (c : LivesChannel) (w : Course) → w.life ≢ 0 → AreFirstOf (map unnumbered (w.acked ++ ms)) (said_in w.life w.accepted) →
    ((n : ℕ) → AllByRecursion (λ k. k ≢ n) w.names → of_life n w.accepted ≡ []) → Shows g w c → Leads g (map (λ m. acknowledge (key_of g m)) ms) c w (record w { acked = w.acked ++ ms })
acks_lead g [] c w kept few known h = subst (λ l. Leads g [] c w (record w { acked = l })) (sym (append-nil w.acked)) (leads_none g c w h)
acks_lead g (m ∷ ms) c w kept few known h =
    let w' : Course = record w { acked = w.acked ++ m ∷ [] } in
    let same = append_assoc w.acked (m ∷ []) ms in
    let all = subst (λ l. AreFirstOf (map unnumbered l) (said_in w.life w.accepted)) (sym same) few in
    let here = first_front (map unnumbered w'.acked) (map unnumbered ms) (said_in w.life w.accepted) (subst (λ l. AreFirstOf l (said_in w.life w.accepted)) (map-append unnumbered w'.acked ms) all) in
    let one = ack_leads g m c w (record { kept = kept; first = here; known = known }) h in
    let rest = acks_lead g ms (after_in_lives (acknowledge (key_of g m) ∷ []) c) w' kept all known one.shows in
    subst (λ l. Leads g (map (λ n. acknowledge (key_of g n)) (m ∷ ms)) c w (record w { acked = l })) same
    (leads_append g (acknowledge (key_of g m) ∷ []) (map (λ n. acknowledge (key_of g n)) ms) c w w' (record w' { acked = w'.acked ++ ms }) one rest)

abbrev life_name : NumberedLife → ℕ
life_name l = l.name

-- the names of a side's lives where another one has begun
names_anew : (x z : Ledger) (name : ℕ) → z.ended ≡ lives x → z.now.name ≡ name → names z ≡ names x ++ name ∷ []
names_anew x z name ended now = ap (λ l. map life_name (l ++ z.now ∷ [])) ended ∙ map-append life_name (lives x) (z.now ∷ []) ∙ ap (λ k. names x ++ k ∷ []) now

-- where an entry of the near side leads
pub record NearLeads (f g : SideFacts) (i : JournalItem) (a b : State) (x y z : Ledger) (earlier posts : List Content) (c : LivesChannel) : Type 0 where
  pub earlier' : List Content
  pub posted : posts ++ posted_in i ≡ earlier' ++ (after f i a).out.posted
  pub leads : Leads g (shown_near f g i a b) c (course earlier posts a x y) (course earlier' (posts ++ posted_in i) (after f i a) z y)

module _ (laws : Laws) (f g : SideFacts) (both : Both f g) (a b : State) (x y : Ledger) (p : Point f g a b x y) (earlier posts : List Content) (c : LivesChannel)
    (is : posts ≡ earlier ++ a.out.posted) (h : Shows g (course earlier posts a x y) c) where
  abbrev w : Course
  w = course earlier posts a x y

  near_known : SideKnown f a
  near_known = side_known laws f g both f a both.near_keeps p.near_led

  -- ---- the life goes on

  same_acked : (t : State) (more : List Content) → t.out.queue.base ≡ a.out.queue.base → t.out.numbered ≡ a.out.numbered ++ more → take t.out.queue.base t.out.numbered ≡ take a.out.queue.base a.out.numbered
  same_acked t more base numbered =
      ap (λ k. take k t.out.numbered) base ∙ ap (take a.out.queue.base) numbered ∙ take-front a.out.queue.base a.out.numbered more (base_fits f g a b x y p)

  plain_leads : (i : JournalItem) (t : State) (z : Ledger) → Stays f i a t → t.life ≡ a.life → z.ended ≡ x.ended → shown_by_sender g i a ≡ [] → posted_in i ≡ [] → base_by i a.out.queue.base ≡ a.out.queue.base →
      Leads g (shown_by_sender g i a) c w (course earlier (posts ++ posted_in i) t z y)
  plain_leads i t z s life ended none unposted base =
      subst (λ l. Leads g l c w (course earlier (posts ++ posted_in i) t z y)) (sym none)
      (subst (Leads g [] c w)
      (course_same w (posts ++ posted_in i) t.out.dropped (take t.out.queue.base t.out.numbered) t.life z.ended (ap (λ l. posts ++ l) unposted ∙ append-nil posts) s.dropped (same_acked t s.more (s.base ∙ base) s.numbered) life ended)
      (leads_none g c w h))

  posts_lead : (place : ℕ) (m : Content) (t : State) (z : Ledger) → Stays f (item.post place (Some (to_post m))) a t → t.life ≡ a.life → z.ended ≡ x.ended → Leads g (post (key_of g m) m ∷ []) c w (course earlier (posts ++ m ∷ []) t z y)
  posts_lead place m t z s life ended =
      subst (Leads g (post (key_of g m) m ∷ []) c w)
      (course_same (record w { posts = posts ++ m ∷ [] }) (posts ++ m ∷ []) t.out.dropped (take t.out.queue.base t.out.numbered) t.life z.ended refl s.dropped (same_acked t s.more s.base s.numbered) life ended)
      (post_leads g m c w h)

  above_base : (n : ℕ) (o : Option Feed) → OnFeedAt o (MayAcknowledge a n) → a.out.queue.base < n
  above_base n (Some d) may = may.above
  above_base n None may = absurd may

  raised : (base n : ℕ) → base < n → max base n ≡ n
  raised base n l = omega (arith, l)

  below : (base n : ℕ) → base < n → base ≤ n
  below base n l = omega (arith, l)

  acked_lead : (n : ℕ) (t : State) (z : Ledger) → Lawful f (item.acked n) a → Stays f (item.acked n) a t → t.life ≡ a.life → z.ended ≡ x.ended →
      Leads g (shown_by_sender g (item.acked n) a) c w (course earlier (posts ++ []) t z y)
  acked_lead n t z lawful s life ended =
      subst (Leads g (map (λ m. acknowledge (key_of g m)) ms) c w)
      (course_same (record w { acked = w.acked ++ ms }) (posts ++ []) t.out.dropped (take t.out.queue.base t.out.numbered) t.life z.ended (append-nil posts) s.dropped now life ended)
      (acks_lead g ms c w within.0 first (λ k all. p.ledgers.far.known k (inr all)) h)
    where
      base : ℕ
      base = a.out.queue.base

      ms : List Content
      ms = dropped_at n a.out.queue

      over : base < n
      over = above_base n a.feed lawful

      within : (a.life ≢ 0) × (n ≤ count a.life y)
      within = let it = acked_within laws.known f g both a b x y n p lawful in (it.0, subst (λ l. n ≤ length (of_life a.life l)) (sym p.far.accepted) it.1)

      all : List Content
      all = map unnumbered a.out.numbered

      few : n ≤ length (contents a.life y)
      few = let told = length-map (of_life a.life y.accepted) (λ (m : KeyedMessage). m.message) in let l = within.1 in omega (arith, told, l)

      fits : n ≤ length a.out.numbered
      fits =
          let l = first_short (contents a.life y) all (current_first f g a b x y p) in
          let same = length-map a.out.numbered unnumbered in
          let k = few in
          omega (arith, l, same, k)

      whole : take base a.out.numbered ++ ms ≡ take n a.out.numbered
      whole = ap (λ l. take base a.out.numbered ++ take (n - base) l) near_known.kept ∙ take_rest base n a.out.numbered (below base n over)

      first : AreFirstOf (map unnumbered (take base a.out.numbered ++ ms)) (contents a.life y)
      first =
          subst (λ l. AreFirstOf l (contents a.life y)) (sym (ap (map unnumbered) whole ∙ take_map unnumbered n a.out.numbered))
          (first_of_first n (contents a.life y) all (current_first f g a b x y p) few)

      now : take t.out.queue.base t.out.numbered ≡ take base a.out.numbered ++ ms
      now = ap (λ k. take k t.out.numbered) (s.base ∙ raised base n over) ∙ ap (take n) s.numbered ∙ take-front n a.out.numbered s.more fits ∙ sym whole

  sender_leads : (i : JournalItem) (t : State) (z : Ledger) → Lawful f i a → Stays f i a t → t.life ≡ a.life → z.ended ≡ x.ended → Leads g (shown_by_sender g i a) c w (course earlier (posts ++ posted_in i) t z y)
  sender_leads (item.post place (Some (to_post m))) t z l s life ended = posts_lead place m t z s life ended
  sender_leads (item.post place (Some to_dial)) t z l s life ended = plain_leads (item.post place (Some to_dial)) t z s life ended refl refl refl
  sender_leads (item.post place (Some to_go_down)) t z l s life ended = plain_leads (item.post place (Some to_go_down)) t z s life ended refl refl refl
  sender_leads (item.post place None) t z l s life ended = plain_leads (item.post place None) t z s life ended refl refl refl
  sender_leads (item.acked n) t z l s life ended = acked_lead n t z l s life ended
  sender_leads (item.dial planned) t z l s life ended = plain_leads (item.dial planned) t z s life ended refl refl refl
  sender_leads (item.opened k) t z l s life ended = plain_leads (item.opened k) t z s life ended refl refl refl
  sender_leads (item.read k bytes) t z l s life ended = plain_leads (item.read k bytes) t z s life ended refl refl refl
  sender_leads (item.wrote k bytes) t z l s life ended = plain_leads (item.wrote k bytes) t z s life ended refl refl refl
  sender_leads (item.closed k broken) t z l s life ended = plain_leads (item.closed k broken) t z s life ended refl refl refl
  sender_leads (item.judged k ask n answer unread trail) t z l s life ended = plain_leads (item.judged k ask n answer unread trail) t z s life ended refl refl refl
  sender_leads (item.asked ident n) t z l s life ended = plain_leads (item.asked ident n) t z s life ended refl refl refl
  sender_leads (item.numbered n) t z l s life ended = plain_leads (item.numbered n) t z s life ended refl refl refl
  sender_leads (item.accepted n key) t z l s life ended = plain_leads (item.accepted n key) t z s life ended refl refl refl
  sender_leads (item.obeyed full) t z l s life ended = plain_leads (item.obeyed full) t z s life ended refl refl refl
  sender_leads (item.down planned step) t z l s life ended = plain_leads (item.down planned step) t z s life ended refl refl refl

  near_stays : (i : JournalItem) (n : NearStep f g i a b x y) → Lawful f i a → Stays f i a (after f i a) → NearLeads f g i a b x y n.ledger earlier posts c
  near_stays i n lawful s = record {
    earlier' = earlier;
    posted = ap (λ l. l ++ posted_in i) is ∙ append_assoc earlier a.out.posted (posted_in i) ∙ ap (λ l. earlier ++ l) (sym s.posted);
    leads = four_lead g i (shown_by_sender g i a) (sends_anew f i a) (is_reset f i a b) c w v v (sender_leads i t n.ledger lawful s life ended)
        (λ d hd. subst (λ l. Leads g l d v v) (sym (none_begun (λ e. begins_sending e.session.server_cookie e.effects.discard) (event_at f i a) a.session s.none)) (leads_none g d v hd));
  }
    where
      t : State
      t = after f i a

      v : Course
      v = course earlier (posts ++ posted_in i) t n.ledger y

      life : t.life ≡ a.life
      life = life_of f i a ∙ named_still (event_at f i a) a.session a.life s.none

      ended : n.ledger.ended ≡ x.ended
      ended = n.ended ∙ ap (λ d. if d then lives x else x.ended) (sym n.began ∙ s.none)

  -- ---- another one begins

  near_begins : (i : JournalItem) (n : NearStep f g i a b x y) → Begins f i a (after f i a) → NearLeads f g i a b x y n.ledger earlier posts c
  near_begins i n s = by (step_of a.session s.event).effects.discard refl s.turned
    where
      t : State
      t = after f i a

      name : ℕ
      name = (step_of a.session s.event).session.server_cookie

      life : t.life ≡ name
      life = life_of f i a ∙ named_anew (event_at f i a) s.event a.session a.life s.told s.back

      ended : n.ledger.ended ≡ lives x
      ended = n.ended ∙ ap (λ d. if d then lives x else x.ended) (sym n.began ∙ back_told (event_at f i a) s.event a.session s.told s.back)

      fresh : IsNewName name (names x)
      fresh = last_is_new (names x) name (subst AreNames (names_anew x n.ledger name ended (ap life_name n.point.near.now ∙ life)) n.point.ledgers.near.named)

      shown : (thrown : Bool) → (step_of a.session s.event).effects.discard ≡ thrown → sends_anew f i a ≡ begins_sending name thrown ∷ []
      shown thrown e = one_begun (λ u. begins_sending u.session.server_cookie u.effects.discard) (event_at f i a) s.event a.session s.told s.back ∙ ap (λ d. begins_sending name d ∷ []) e

      own : Leads g (shown_by_sender g i a) c w w
      own = subst (λ l. Leads g l c w w) (sym (s.plain.sends g)) (leads_none g c w h)

      next : (thrown : Bool) → (step_of a.session s.event).effects.discard ≡ thrown → (v : Course) → sending_anew name thrown x.now w ≡ v → (d : LivesChannel) → Shows g w d → Leads g (sends_anew f i a) d w v
      next thrown e v to d hd =
          subst (λ l. Leads g l d w v) (sym (shown thrown e))
          (subst (Leads g (begins_sending name thrown ∷ []) d w) to (sending_leads g name thrown x.now d w fresh (current laws f g a b x y earlier posts d near_known p is hd) hd))

      all_leads : (v : Course) (thrown : Bool) → (step_of a.session s.event).effects.discard ≡ thrown → sending_anew name thrown x.now w ≡ v → Leads g (shown_near f g i a b) c w v
      all_leads v thrown e to = four_lead g i (shown_by_sender g i a) (sends_anew f i a) (is_reset f i a b) c w w v own (next thrown e v to)

      none_posted : posts ++ posted_in i ≡ posts
      none_posted = ap (λ l. posts ++ l) s.plain.posts ∙ append-nil posts

      by : (thrown : Bool) → (step_of a.session s.event).effects.discard ≡ thrown → Turned true thrown a.out t.out → NearLeads f g i a b x y n.ledger earlier posts c
      by true e k = record {
        earlier' = posts;
        posted = none_posted ∙ sym (append-nil posts) ∙ ap (λ l. posts ++ l) (sym k.0);
        leads = all_leads (course posts (posts ++ posted_in i) t n.ledger y) true e
            (course_same (sending_anew name true x.now w) (posts ++ posted_in i) t.out.dropped (take t.out.queue.base t.out.numbered) t.life n.ledger.ended none_posted k.1 (ap (λ q. take q t.out.numbered) k.3) life ended);
      }
      by false e k = record {
        earlier' = earlier;
        posted = none_posted ∙ is ∙ ap (λ l. earlier ++ l) (sym k.0);
        leads = all_leads (course earlier (posts ++ posted_in i) t n.ledger y) false e
            (course_same (sending_anew name false x.now w) (posts ++ posted_in i) t.out.dropped (take t.out.queue.base t.out.numbered) t.life n.ledger.ended none_posted k.1 (ap (λ q. take q t.out.numbered) k.2) life ended);
      }

  pub near_leads : (i : JournalItem) (n : NearStep f g i a b x y) → Lawful f i a → NearLeads f g i a b x y n.ledger earlier posts c
  near_leads i n lawful = at (entry_turns f a near_known.lossless near_known.keeps i lawful)
    where
      at : Stays f i a (after f i a) ⊎ Begins f i a (after f i a) → NearLeads f g i a b x y n.ledger earlier posts c
      at (inl s) = near_stays i n lawful s
      at (inr s) = near_begins i n s

-- ---- an entry of the far side

pub handed-append : (ds es : List Delivery) → handed_in_lives (ds ++ es) ≡ handed_in_lives ds ++ handed_in_lives es
handed-append [] es = refl
handed-append (state.letter n life key m ∷ ds) es = ap (λ l. one life key m ∷ l) (handed-append ds es)
handed-append (state.discarded ∷ ds) es = handed-append ds es
handed-append (state.remote_reset ∷ ds) es = handed-append ds es

none_handed : (thrown told : Bool) → handed_in_lives (thrown_by thrown told) ≡ []
none_handed true true = refl
none_handed true false = refl
none_handed false true = refl
none_handed false false = refl

-- where an entry of the far side leads
pub record FarLeads (g : SideFacts) (i : JournalItem) (a b : State) (x y z : Ledger) (earlier posts : List Content) (c : LivesChannel) : Type 0 where
  pub leads : Leads g (shown_far g i a b) c (course earlier posts a x y) (course earlier posts a x z)
  pub divided : Divided b.deliveries (names y) y.accepted → Divided (after g i b).deliveries (names z) z.accepted

module _ (laws : Laws) (f g : SideFacts) (both : Both f g) (a b : State) (x y : Ledger) (p : Point f g a b x y) (earlier posts : List Content) (c : LivesChannel)
    (is : posts ≡ earlier ++ a.out.posted) (h : Shows g (course earlier posts a x y) c) where
  abbrev now : Course
  now = course earlier posts a x y

  far_known : SideKnown g b
  far_known = side_known laws f g both g b both.far_keeps p.far_led

  its_name : y.now.name ≡ b.life
  its_name = ap life_name p.far.now

  -- ---- the life goes on

  names_still : (z : Ledger) (t : State) → Stands (view t) z x → z.ended ≡ y.ended → t.life ≡ b.life → names z ≡ names y
  names_still z t stands ended life = ap (λ l. map life_name (l ++ z.now ∷ [])) ended ∙ names_last life_name y.ended z.now y.now (ap life_name stands.now ∙ life ∙ sym its_name)

  course_on : (z : Ledger) (ns : List ℕ) (xs : List LifeMessage) → names z ≡ ns → z.accepted ≡ xs → (record now { names = ns; accepted = xs }) ≡ course earlier posts a x z
  course_on z ns xs e k = rw (e, k) refl

  module _ (i : JournalItem) (n : NearStep g f i b a y x) (s : Stays g i b (after g i b)) where
    abbrev t : State
    t = after g i b

    life : t.life ≡ b.life
    life = life_of g i b ∙ named_still (event_at g i b) b.session b.life s.none

    ended : n.ledger.ended ≡ y.ended
    ended = n.ended ∙ ap (λ d. if d then lives y else y.ended) (sym n.began ∙ s.none)

    same_names : names n.ledger ≡ names y
    same_names = names_still n.ledger t n.point.near ended life

    taken : n.ledger.accepted ≡ y.accepted ++ handed_in_lives (letters_by i b)
    taken = n.point.near.accepted ∙ ap handed_in_lives s.deliveries ∙ handed-append b.deliveries (letters_by i b) ∙ ap (λ l. l ++ handed_in_lives (letters_by i b)) (sym p.far.accepted)

    -- nothing is accepted
    reads_none : shown_by_reader i b ≡ [] → letters_by i b ≡ [] → Leads g (shown_by_reader i b) c now (course earlier posts a x n.ledger) × (Divided b.deliveries (names y) y.accepted → Divided t.deliveries (names n.ledger) n.ledger.accepted)
    reads_none none no_letters =
        let same : n.ledger.accepted ≡ y.accepted = taken ∙ ap (λ l. y.accepted ++ handed_in_lives l) no_letters ∙ append-nil y.accepted in
        let still : t.deliveries ≡ b.deliveries = s.deliveries ∙ ap (λ l. b.deliveries ++ l) no_letters ∙ append-nil b.deliveries in (
          subst (λ l. Leads g l c now (course earlier posts a x n.ledger)) (sym none) (subst (Leads g [] c now) (course_on n.ledger (names y) y.accepted same_names same) (leads_none g c now h)),
          λ d. subst (λ ds. Divided ds (names n.ledger) n.ledger.accepted) (sym still) (subst (λ ns. Divided b.deliveries ns n.ledger.accepted) (sym same_names) (subst (Divided b.deliveries (names y)) (sym same) d)),
        )

  reads_one : (number : ℕ) (key : Key) (n : NearStep g f (item.accepted number key) b a y x) → Stays g (item.accepted number key) b (after g (item.accepted number key) b) → Lawful g (item.accepted number key) b →
      Leads g (shown_by_reader (item.accepted number key) b) c now (course earlier posts a x n.ledger) × (Divided b.deliveries (names y) y.accepted → Divided (after g (item.accepted number key) b).deliveries (names n.ledger) n.ledger.accepted)
  reads_one number key n s lawful = (leads, divided)
    where
      it : (m : Content) × (brought_on b.last b.feed ≡ m ∷ []) × (key ≡ key_of g m)
      it = brings_one g number key b b.feed lawful

      m : Content
      m = it.0

      same_names' : names n.ledger ≡ names y
      same_names' = same_names (item.accepted number key) n s

      taken_one : n.ledger.accepted ≡ y.accepted ++ one b.life key m ∷ []
      taken_one = taken (item.accepted number key) n s ∙ ap (λ ms. y.accepted ++ handed_in_lives (map (λ c. state.letter number b.life key c) ms)) it.1

      receives : c.receives.name ≡ b.life
      receives = (last_same (map receiving_name c.received) (map life_name y.ended) c.receives.name y.now.name
          (sym (map-append receiving_name c.received (c.receives ∷ [])) ∙ h.receives ∙ map-append life_name y.ended (y.now ∷ []))).1 ∙ its_name

      with_it : of_life b.life n.ledger.accepted ≡ of_life b.life y.accepted ++ keyed key m ∷ []
      with_it = ap (of_life b.life) taken_one ∙ of_life_more b.life y.accepted (one b.life key m) ∙ ap (λ l. of_life b.life y.accepted ++ l) (of_its_life (one b.life key m))

      not_empty : {X : Type 0} (xs : List X) (x : X) → xs ++ x ∷ [] ≡ [] → ⊥
      not_empty [] x e = cons_is_some x [] e
      not_empty (z ∷ xs) x e = cons_is_some z (xs ++ x ∷ []) e

      kept : b.life ≢ 0
      kept z = not_empty (of_life b.life y.accepted) (keyed key m) (sym with_it ∙ n.point.ledgers.near.known b.life (inl z))

      said : contents b.life n.ledger ≡ said_in b.life y.accepted ++ unnumbered m ∷ []
      said = ap (map (λ (k : KeyedMessage). k.message)) with_it ∙ map-append (λ (k : KeyedMessage). k.message) (of_life b.life y.accepted) (keyed key m ∷ [])

      first : Has (λ (l : NumberedLife). (l.name ≡ b.life) × AreFirstOf (said_in b.life y.accepted ++ unnumbered m ∷ []) l.numbered) (lives x)
      first = at (n.point.ledgers.near_beside.prefix b.life)
        where
          at : (contents b.life n.ledger ≡ []) ⊎ Has (λ (l : NumberedLife). (l.name ≡ b.life) × AreFirstOf (contents b.life n.ledger) l.numbered) (lives x) →
              Has (λ (l : NumberedLife). (l.name ≡ b.life) × AreFirstOf (said_in b.life y.accepted ++ unnumbered m ∷ []) l.numbered) (lives x)
          at (inl e) = absurd (not_empty (said_in b.life y.accepted) (unnumbered m) (sym said ∙ e))
          at (inr has) = subst (λ cs. Has (λ (l : NumberedLife). (l.name ≡ b.life) × AreFirstOf cs l.numbered) (lives x)) said has

      may : Accepts g key m x.now c now
      may = record {
        backs = current laws f g a b x y earlier posts c (side_known laws f g both f a both.near_keeps p.near_led) p is h;
        kept = λ e. kept (sym receives ∙ e);
        named = p.ledgers.far.named;
        own = it.2;
        first = subst (λ k. Has (λ (l : NumberedLife). (l.name ≡ k) × AreFirstOf (said_in k y.accepted ++ unnumbered m ∷ []) l.numbered) (lives x)) (sym receives) first;
      }

      leads : Leads g (shown_by_reader (item.accepted number key) b) c now (course earlier posts a x n.ledger)
      leads =
          subst (λ ms. Leads g (map (accept key) ms) c now (course earlier posts a x n.ledger)) (sym it.1)
          (subst (Leads g (accept key m ∷ []) c now) (course_on n.ledger (names y) (y.accepted ++ one c.receives.name key m ∷ []) same_names' (taken_one ∙ ap (λ k. y.accepted ++ one k key m ∷ []) (sym receives)))
          (accept_leads g key m x.now c now may h))

      divided : Divided b.deliveries (names y) y.accepted → Divided (after g (item.accepted number key) b).deliveries (names n.ledger) n.ledger.accepted
      divided d =
          let its : d.name ≡ b.life =
          sym (last_same (map life_name y.ended) (joined d.groups ++ d.before) y.now.name d.name
          (sym (map-append life_name y.ended (y.now ∷ [])) ∙ d.names ∙ sym (append_assoc (joined d.groups) d.before (d.name ∷ [])))).1 ∙ its_name in
          subst (λ ds. Divided ds (names n.ledger) n.ledger.accepted) (sym (s.deliveries ∙ ap (λ ms. b.deliveries ++ map (λ c. state.letter number b.life key c) ms) it.1))
          (subst (λ ns. Divided (b.deliveries ++ state.letter number b.life key m ∷ []) ns n.ledger.accepted) (sym same_names')
          (subst (Divided (b.deliveries ++ state.letter number b.life key m ∷ []) (names y)) (sym taken_one)
          (divided_letter b.deliveries (names y) y.accepted number b.life key m d p.ledgers.far.named kept its)))

  reader_leads : (i : JournalItem) (n : NearStep g f i b a y x) → Stays g i b (after g i b) → Lawful g i b →
      Leads g (shown_by_reader i b) c now (course earlier posts a x n.ledger) × (Divided b.deliveries (names y) y.accepted → Divided (after g i b).deliveries (names n.ledger) n.ledger.accepted)
  reader_leads (item.accepted number key) n s l = reads_one number key n s l
  reader_leads (item.post place planned) n s l = reads_none (item.post place planned) n s refl refl
  reader_leads (item.dial planned) n s l = reads_none (item.dial planned) n s refl refl
  reader_leads (item.opened k) n s l = reads_none (item.opened k) n s refl refl
  reader_leads (item.read k bytes) n s l = reads_none (item.read k bytes) n s refl refl
  reader_leads (item.wrote k bytes) n s l = reads_none (item.wrote k bytes) n s refl refl
  reader_leads (item.closed k broken) n s l = reads_none (item.closed k broken) n s refl refl
  reader_leads (item.judged k ask number answer unread trail) n s l = reads_none (item.judged k ask number answer unread trail) n s refl refl
  reader_leads (item.asked ident number) n s l = reads_none (item.asked ident number) n s refl refl
  reader_leads (item.numbered number) n s l = reads_none (item.numbered number) n s refl refl
  reader_leads (item.acked number) n s l = reads_none (item.acked number) n s refl refl
  reader_leads (item.obeyed full) n s l = reads_none (item.obeyed full) n s refl refl
  reader_leads (item.down planned step) n s l = reads_none (item.down planned step) n s refl refl

  far_stays : (i : JournalItem) (n : NearStep g f i b a y x) → Lawful g i b → Stays g i b (after g i b) → FarLeads g i a b x y n.ledger earlier posts c
  far_stays i n lawful s =
      let it = reader_leads i n s lawful in
      let v = course earlier posts a x n.ledger in
      record {
        leads = four_lead g i (shown_by_reader i b) (receives_anew g i b) (is_reset g i b a) c now v v it.0
            (λ d hd. subst (λ l. Leads g l d v v) (sym (none_begun (λ e. begins_receiving e.session.server_cookie) (event_at g i b) b.session s.none)) (leads_none g d v hd));
        divided = it.1;
      }

  -- ---- another one begins

  far_begins : (i : JournalItem) (n : NearStep g f i b a y x) → Begins g i b (after g i b) → FarLeads g i a b x y n.ledger earlier posts c
  far_begins i n s = record {
    leads = four_lead g i (shown_by_reader i b) (receives_anew g i b) (is_reset g i b a) c now now v (subst (λ l. Leads g l c now now) (sym s.plain.reads) (leads_none g c now h))
        (λ d hd. subst (λ l. Leads g l d now v) (sym (one_begun (λ e. begins_receiving e.session.server_cookie) (event_at g i b) s.event b.session s.told s.back))
        (subst (Leads g (begins_receiving name ∷ []) d now) (course_on n.ledger (names y ++ name ∷ []) y.accepted its_names same) (receiving_leads g name d now fresh unheard hd)));
    divided = λ d. subst (λ ds. Divided ds (names n.ledger) n.ledger.accepted) (sym s.deliveries)
        (subst (λ ns. Divided (b.deliveries ++ thrown) ns n.ledger.accepted) (sym its_names)
        (subst (Divided (b.deliveries ++ thrown) (names y ++ name ∷ [])) (sym same) (by (step_of b.session s.event).effects.discard (step_of b.session s.event).effects.remote_reset d)));
  }
    where
      t' : State
      t' = after g i b

      v : Course
      v = course earlier posts a x n.ledger

      name : ℕ
      name = (step_of b.session s.event).session.server_cookie

      thrown : List Delivery
      thrown = thrown_by (step_of b.session s.event).effects.discard (step_of b.session s.event).effects.remote_reset

      life' : t'.life ≡ name
      life' = life_of g i b ∙ named_anew (event_at g i b) s.event b.session b.life s.told s.back

      ended' : n.ledger.ended ≡ lives y
      ended' = n.ended ∙ ap (λ d. if d then lives y else y.ended) (sym n.began ∙ back_told (event_at g i b) s.event b.session s.told s.back)

      its_names : names n.ledger ≡ names y ++ name ∷ []
      its_names = names_anew y n.ledger name ended' (ap life_name n.point.near.now ∙ life')

      fresh : IsNewName name (names y)
      fresh = last_is_new (names y) name (subst AreNames its_names n.point.ledgers.near.named)

      unheard : of_life name y.accepted ≡ []
      unheard = p.ledgers.far.known name fresh

      same : n.ledger.accepted ≡ y.accepted
      same =
          n.point.near.accepted ∙ ap handed_in_lives s.deliveries ∙ handed-append b.deliveries thrown
          ∙ ap (λ l. handed_in_lives b.deliveries ++ l) (none_handed (step_of b.session s.event).effects.discard (step_of b.session s.event).effects.remote_reset) ∙ append-nil (handed_in_lives b.deliveries) ∙ sym p.far.accepted

      by : (discard told : Bool) → Divided b.deliveries (names y) y.accepted → Divided (b.deliveries ++ thrown_by discard told) (names y ++ name ∷ []) y.accepted
      by true true d =
          subst (λ ds. Divided ds (names y ++ name ∷ []) y.accepted) (append_assoc b.deliveries (state.discarded ∷ []) (state.remote_reset ∷ []))
          (divided_told (b.deliveries ++ state.discarded ∷ []) (names y ++ name ∷ []) y.accepted (divided_thrown b.deliveries (names y) y.accepted name unheard d))
      by true false d = divided_thrown b.deliveries (names y) y.accepted name unheard d
      by false true d = divided_told b.deliveries (names y ++ name ∷ []) y.accepted (divided_anew b.deliveries (names y) y.accepted name unheard d)
      by false false d = subst (λ ds. Divided ds (names y ++ name ∷ []) y.accepted) (sym (append-nil b.deliveries)) (divided_anew b.deliveries (names y) y.accepted name unheard d)

  pub far_leads : (i : JournalItem) (n : NearStep g f i b a y x) → Lawful g i b → FarLeads g i a b x y n.ledger earlier posts c
  far_leads i n lawful = at (entry_turns g b far_known.lossless far_known.keeps i lawful)
    where
      at : Stays g i b (after g i b) ⊎ Begins g i b (after g i b) → FarLeads g i a b x y n.ledger earlier posts c
      at (inl s) = far_stays i n lawful s
      at (inr s) = far_begins i n s

-- ---- an order

pub record Arrived (f g : SideFacts) (xs : List LivesStep) (a b : State) (v : Course) (posts : List Content) (c : LivesChannel) : Type 0 where
  pub near_ledger : Ledger
  pub far_ledger : Ledger
  pub point : Point f g a b near_ledger far_ledger
  pub earlier : List Content
  pub posted : posts ≡ earlier ++ a.out.posted
  pub leads : Leads g xs c v (course earlier posts a near_ledger far_ledger)
  pub divided : Divided b.deliveries (names far_ledger) far_ledger.accepted

module _ (laws : Laws) (f g : SideFacts) (both : Both f g) where
  arrives : (order : List SideItem) (a b : State) (x y : Ledger) (earlier posts : List Content) (c : LivesChannel) → Point f g a b x y → posts ≡ earlier ++ a.out.posted → Shows g (course earlier posts a x y) c →
      Divided b.deliveries (names y) y.accepted → IsInTurn f g order a b →
      Arrived f g (shown_from f g order a b) (after_items f (near_items order) a) (after_items g (far_items order) b) (course earlier posts a x y) (posts ++ posts_in (near_items order)) c
  arrives [] a b x y earlier posts c p is h d turn = record {
    near_ledger = x;
    far_ledger = y;
    point = p;
    earlier = earlier;
    posted = append-nil posts ∙ is;
    leads = subst (λ l. Leads g [] c (course earlier posts a x y) (course earlier l a x y)) (sym (append-nil posts)) (leads_none g c (course earlier posts a x y) h);
    divided = d;
  }
  arrives (near_item i ∷ order) a b x y earlier posts c p is h d turn =
      let n = near_step laws.known f g both i a b x y p turn.0 turn.1 in
      let one = near_leads laws f g both a b x y p earlier posts c is h i n turn.0 in
      let c' = after_in_lives (shown_near f g i a b) c in
      let rest = arrives order (after f i a) b n.ledger y one.earlier' (posts ++ posted_in i) c' n.point one.posted one.leads.shows d turn.2 in
      let same = append_assoc posts (posted_in i) (posts_in (near_items order)) in
      subst (λ l. Arrived f g (shown_near f g i a b ++ shown_from f g order (after f i a) b) (after_items f (near_items order) (after f i a)) (after_items g (far_items order) b) (course earlier posts a x y) l c) same
      (record {
        near_ledger = rest.near_ledger;
        far_ledger = rest.far_ledger;
        point = rest.point;
        earlier = rest.earlier;
        posted = rest.posted;
        leads = leads_append g (shown_near f g i a b) (shown_from f g order (after f i a) b) c (course earlier posts a x y) (course one.earlier' (posts ++ posted_in i) (after f i a) n.ledger y)
            (course rest.earlier ((posts ++ posted_in i) ++ posts_in (near_items order)) (after_items f (near_items order) (after f i a)) rest.near_ledger rest.far_ledger) one.leads rest.leads;
        divided = rest.divided;
      })
  arrives (far_item i ∷ order) a b x y earlier posts c p is h d turn =
      let n = near_step laws.known g f (both_turned f g both) i b a y x (point_turned f g a b x y p) turn.0 (fits_turn a (after g i b) turn.1) in
      let one = far_leads laws f g both a b x y p earlier posts c is h i n turn.0 in
      let c' = after_in_lives (shown_far g i a b) c in
      let rest = arrives order a (after g i b) x n.ledger earlier posts c' (point_turned g f (after g i b) a n.ledger x n.point) is one.leads.shows (one.divided d) turn.2 in
      record {
        near_ledger = rest.near_ledger;
        far_ledger = rest.far_ledger;
        point = rest.point;
        earlier = rest.earlier;
        posted = rest.posted;
        leads = leads_append g (shown_far g i a b) (shown_from f g order a (after g i b)) c (course earlier posts a x y) (course earlier posts a x n.ledger)
            (course rest.earlier (posts ++ posts_in (near_items order)) (after_items f (near_items order) a) rest.near_ledger rest.far_ledger) one.leads rest.leads;
        divided = rest.divided;
      }

  -- from the start of both
  pub starts_so : Shows g (course [] [] (start f) first first) new_lives
  starts_so = record {
    posted = refl;
    name = refl;
    start = λ key. refl;
    end = λ key. refl;
    acknowledged = λ key. refl;
    backed = tt;
    receives = refl;
    counted = (λ key. (refl, refl), tt);
    keyed = tt;
  }

  pub all_arrive : (order : List SideItem) → IsInTurn f g order (start f) (start g) →
      Arrived f g (shown_from f g order (start f) (start g)) (near_after f order) (far_after g order) (course [] [] (start f) first first) (posts_in (near_items order)) new_lives
  all_arrive order turn = arrives order (start f) (start g) first first [] [] new_lives (at_start laws.known f g) refl starts_so divided_start turn
