-- An order throughout which bytes fit is one of two journals that fits.
use Rattle.std.proofs.Common.{◌≡◌, Bool, true, false, List, [], ◌∷◌, ◌++◌, Option, Some, None, refl, sym, ap, ◌∙◌, subst, append_assoc, append-nil}
use Rattle.std.specs.List.{AllByRecursion}
use Rattle.std.proofs.lemmas.Grind.{flat_map-append}
use Rattle.m2_feed.specs.m2_fabric.declared.socket.SocketId.{SocketId}
use Rattle.m2_feed.specs.m2_fabric.Sockets.{goes_to, is_among}
use Rattle.m2_feed.specs.m2_journal.Items.{JournalItem}
use Rattle.m2_feed.specs.m2_journal.Lawful.{Lawful}
use Rattle.m2_feed.specs.m2_journal.Laws.{IfFed}
use Rattle.m2_feed.specs.m2_journal.Replay.{AreLawful, after_items}
use Rattle.m2_feed.specs.m2_journal.SideFacts.{SideFacts}
use Rattle.m2_feed.specs.m2_journal.State.{Feed, State, start}
use Rattle.m2_feed.specs.m2_journal.Steps.{after}
use Rattle.m2_feed.proofs.m2_journal.Growing.{after-append}
use Rattle.m2_never_reset.specs.Fits.{Fits, HearsAt}
use Rattle.m2_never_reset.specs.PairLaws.{IsNoDown}
use Rattle.m2_never_reset.specs.Orders.{SideItem, near_item, far_item, near_items, far_items, near_after, far_after, IsHistory, AreNodes, LeadsTo, HistoriesAreRuns, LosslessIsNeverReset}
use Rattle.m2_never_reset.specs.Paired.{FeedIsPaired, beside}
use Rattle.m2_never_reset.proofs.Sockets.{at_among}
use Rattle.m2_bytes_fit.specs.Ends.{Side, state_of}
use Rattle.m2_bytes_fit.specs.Orders.{OrderEntry, near_entry, far_entry, near_half, far_half, entry_in, entries_of, near_side, far_side, IsByteHistory, BytesGiveFits, LosslessBytesAreNeverReset}
use Rattle.m2_bytes_fit.proofs.Asking.{near_behind, far_behind}
use Rattle.m2_bytes_fit.specs.Texts.{CanBePosted}
use Rattle.m2_bytes_fit.proofs.Bounded.{IsUnasked}
use Rattle.m2_bytes_fit.proofs.Composed.{AreComposed, FeedIsKnown, Holds, IsNode, can_be_sent, entry_holds, entry_sent, starts_holding, unasked_so}
use Rattle.m2_bytes_fit.proofs.Entries.{FeedSo, entry_keeps}
use Rattle.m2_bytes_fit.proofs.Growing.{Leads, entry_grows}
use Rattle.m2_bytes_fit.proofs.Hands.{HandKept, hand_keeps}
use Rattle.m2_bytes_fit.proofs.Hears.{NoAskBehind, near_hears}
use Rattle.m2_bytes_fit.proofs.Points.{Known, turn, near_judges}
use Rattle.m2_bytes_fit.proofs.Steps.{AllKept}
use Rattle.m2_feed.proofs.m2_journal.JudgedOn.{lawful_front}
use Rattle.m2_never_reset.proofs.Sided.{near_append, far_append}
use Rattle.m2_never_reset.proofs.OneHistory.{fit-append}
use Rattle.m2_never_reset.proofs.Orders.{paired_turn}
use Rattle.m2_feed.proofs.m2_lemmas.Booleans.{from_false_true}
use Rattle.m2_feed.proofs.m2_lemmas.Lists.{all_front, all_back, all_append}

-- ---- lists

pub entries-append : (xs ys : List OrderEntry) → entries_of (xs ++ ys) ≡ entries_of xs ++ entries_of ys
entries-append xs ys = flat_map-append entry_in xs ys

-- ---- what was opened

leads_on : (f : SideFacts) (i : JournalItem) (s : State) → IsNoDown i → Lawful f i s → AllByRecursion (Leads f) s.opened → AllByRecursion (Leads f) (after f i s).opened
leads_on f i s up l h =
    let grows = entry_grows f i s up l in
    subst (AllByRecursion (Leads f)) (sym grows.opened) (all_append (Leads f) s.opened grows.more_opened h grows.leads)

pub opened_apart : (f g : SideFacts) (near far : List SocketId) → ((k : SocketId) → goes_to f.peer k ≡ true → goes_to g.peer k ≡ false) →
    AllByRecursion (Leads f) near → AllByRecursion (Leads g) far → (k : SocketId) → is_among k near ≡ true → is_among k far ≡ false
opened_apart f g near far peers h l k o = at (is_among k far) refl
  where
    at : (t : Bool) → is_among k far ≡ t → is_among k far ≡ false
    at false e = e
    at true e = from_false_true (sym (peers k (at_among (Leads f) near k h o)) ∙ at_among (Leads g) far k l e)

-- ---- where the first moves lead

record IsKept (f g : SideFacts) (xs : List SideItem) : Type 0 where
  history : IsHistory f g xs
  near : AllKept f (near_items xs) (near_after f xs)
  far : AllKept g (far_items xs) (far_after g xs)
  near_leads : AllByRecursion (Leads f) (near_after f xs).opened
  far_leads : AllByRecursion (Leads g) (far_after g xs).opened
  near_hand : HandKept (near_after f xs)
  far_hand : HandKept (far_after g xs)
  near_behind : NoAskBehind (near_after f xs) (far_after g xs)
  far_behind : NoAskBehind (far_after g xs) (near_after f xs)
  near_holds : Holds f (near_after f xs)
  far_holds : Holds g (far_after g xs)

nothing_kept : (f : SideFacts) → AllKept f [] (start f)
nothing_kept f k = record { read = refl; wrote = refl; feed = refl; frames = refl }

at_start : (f g : SideFacts) → IsKept f g []
at_start f g = record {
  history = record { near_lawful = tt; far_lawful = tt; near_not_down = tt; far_not_down = tt; fits = tt };
  near = nothing_kept f;
  far = nothing_kept g;
  near_leads = tt;
  far_leads = tt;
  near_hand = tt;
  far_hand = tt;
  near_behind = tt;
  far_behind = tt;
  near_holds = starts_holding f;
  far_holds = starts_holding g;
}

pub feed_so : (a b : State) → IfFed a.feed (FeedIsPaired (beside a b)) → IfFed a.feed (FeedSo a)
feed_so a b h = at a.feed h
  where
    at : (o : Option Feed) → IfFed o (FeedIsPaired (beside a b)) → IfFed o (FeedSo a)
    at None g = tt
    at (Some d) g = record { asks_alone = g.asks_alone; taken = g.taken }

-- what is known of a side's feed
pub feed_known : (a b : State) → HearsAt a.feed b.sent → IfFed a.feed (FeedIsPaired (beside a b)) → IfFed a.feed (FeedIsKnown a)
feed_known a b heard h = at a.feed heard (unasked_so a.feed b.sent heard) h
  where
    at : (o : Option Feed) → HearsAt o b.sent → IfFed o IsUnasked → IfFed o (FeedIsPaired (beside a b)) → IfFed o (FeedIsKnown a)
    at None heard u g = tt
    at (Some d) heard u g = record { written = g.texts; unasked = u }

-- the two sides fit where bytes do
pub fits_so : (a b : Side) → Known a b → NoAskBehind (state_of a) (state_of b) → NoAskBehind (state_of b) (state_of a) → Fits (state_of a) (state_of b)
fits_so a b h near far = record {
  near_hears = near_hears a b h near;
  far_hears = near_hears b a (turn a b h) far;
  near_judges = near_judges a b h;
  far_judges = near_judges b a (turn a b h);
  opened_apart = h.apart;
}

module _ (runs : HistoriesAreRuns) (f g : SideFacts) (order : List OrderEntry) (nodes : AreNodes f g) (h : IsByteHistory f g order) where
  near_node : IsNode f
  near_node = record { ranges = h.near_named; keeps = nodes.near_keeps; salt = nodes.near_salt }

  far_node : IsNode g
  far_node = record { ranges = h.far_named; keeps = nodes.far_keeps; salt = nodes.far_salt }

  known : (front back : List OrderEntry) → order ≡ front ++ back → AllKept f (near_items (entries_of front)) (near_after f (entries_of front)) → AllKept g (far_items (entries_of front)) (far_after g (entries_of front)) →
      AllByRecursion (Leads f) (near_after f (entries_of front)).opened → AllByRecursion (Leads g) (far_after g (entries_of front)).opened →
      AreComposed f (near_after f (entries_of front)).sent → AreComposed g (far_after g (entries_of front)).sent → Known (near_side f front) (far_side g front)
  known front back e near far near_leads far_leads near_sent far_sent = record {
    near_kept = near;
    far_kept = far;
    bytes = h.bytes front back e;
    apart = opened_apart f g (near_after f (entries_of front)).opened (far_after g (entries_of front)).opened h.peers near_leads far_leads;
    near_sent = can_be_sent f (near_after f (entries_of front)).sent near_sent;
    far_sent = can_be_sent g (far_after g (entries_of front)).sent far_sent;
    near_named = h.near_named;
    far_named = h.far_named;
  }

  near_step : (front back : List OrderEntry) (i : JournalItem) → order ≡ (front ++ near_entry i ∷ []) ++ back → IsKept f g (entries_of front) → IsKept f g (entries_of (front ++ near_entry i ∷ []))
  near_step front back i e old =
      let known_now = known now back e (subst₂ (λ is s. AllKept f is s) (sym near_list) (sym near_state) near_kept) (subst₂ (λ is s. AllKept g is s) (sym far_list) (sym far_state) old.far)
      (subst (λ s. AllByRecursion (Leads f) s.opened) (sym near_state) leads_now) (subst (λ s. AllByRecursion (Leads g) s.opened) (sym far_state) old.far_leads)
      (subst (λ s. AreComposed f s.sent) (sym near_state) sent_now) (subst (λ s. AreComposed g s.sent) (sym far_state) old.far_holds.sent) in
      let fits = subst₂ Fits near_state far_state
      (fits_so (near_side f now) (far_side g now) known_now
      (subst₂ NoAskBehind (sym near_state) (sym far_state) near_now)
      (subst₂ NoAskBehind (sym far_state) (sym near_state) far_now)) in
      subst (IsKept f g) (sym entries) (record {
        history = record {
          near_lawful = subst (λ is. AreLawful f is (start f)) (sym list_near) lawful_now;
          far_lawful = subst (λ is. AreLawful g is (start g)) (sym list_far) old.history.far_lawful;
          near_not_down = subst (AllByRecursion IsNoDown) (sym list_near) (all_append IsNoDown (near_items xs) (i ∷ []) old.history.near_not_down (up, tt));
          far_not_down = subst (AllByRecursion IsNoDown) (sym list_far) old.history.far_not_down;
          fits = fit-append f g xs (near_item i ∷ []) (start f) (start g) old.history.fits (fits, tt);
        };
        near = subst₂ (λ is s. AllKept f is s) (sym list_near) (sym state_near) near_kept;
        far = subst₂ (λ is s. AllKept g is s) (sym list_far) (sym state_far) old.far;
        near_leads = subst (λ s. AllByRecursion (Leads f) s.opened) (sym state_near) leads_now;
        far_leads = subst (λ s. AllByRecursion (Leads g) s.opened) (sym state_far) old.far_leads;
        near_hand = subst HandKept (sym state_near) (hand_keeps f i a up lawful old.near_hand);
        far_hand = subst HandKept (sym state_far) old.far_hand;
        near_behind = subst₂ NoAskBehind (sym state_near) (sym state_far) near_now;
        far_behind = subst₂ NoAskBehind (sym state_far) (sym state_near) far_now;
        near_holds = subst (Holds f) (sym state_near)
            (entry_holds f g i a b.opened b.sent near_node up posted lawful feed old.far_holds.sent leads.fits.near_hears fits.near_hears fits.near_judges old.near_holds);
        far_holds = subst (Holds g) (sym state_far) old.far_holds;
      })
    where
      subst₂ : {X Y : Type 0} (P : X → Y → Type 0) {x x' : X} {y y' : Y} → x ≡ x' → y ≡ y' → P x y → P x' y'
      subst₂ P {x} {x'} {y} {y'} p q k = subst (λ z. P x' z) q (subst (λ z. P z y) p k)

      now : List OrderEntry
      now = front ++ near_entry i ∷ []

      xs : List SideItem
      xs = entries_of front

      a : State
      a = near_after f xs

      b : State
      b = far_after g xs

      entries : entries_of now ≡ xs ++ near_item i ∷ []
      entries = entries-append front (near_entry i ∷ [])

      list_near : near_items (xs ++ near_item i ∷ []) ≡ near_items xs ++ i ∷ []
      list_near = near_append xs (near_item i ∷ [])

      list_far : far_items (xs ++ near_item i ∷ []) ≡ far_items xs
      list_far = far_append xs (near_item i ∷ []) ∙ append-nil (far_items xs)

      state_near : near_after f (xs ++ near_item i ∷ []) ≡ after f i a
      state_near = ap (λ is. after_items f is (start f)) list_near ∙ after-append f (near_items xs) (i ∷ []) (start f)

      state_far : far_after g (xs ++ near_item i ∷ []) ≡ b
      state_far = ap (λ is. after_items g is (start g)) list_far

      near_list : near_items (entries_of now) ≡ near_items xs ++ i ∷ []
      near_list = ap near_items entries ∙ list_near

      far_list : far_items (entries_of now) ≡ far_items xs
      far_list = ap far_items entries ∙ list_far

      near_state : near_after f (entries_of now) ≡ after f i a
      near_state = ap (near_after f) entries ∙ state_near

      far_state : far_after g (entries_of now) ≡ b
      far_state = ap (far_after g) entries ∙ state_far

      whole : near_items (entries_of order) ≡ (near_items xs ++ i ∷ []) ++ near_items (entries_of back)
      whole =
          ap (λ l. near_items (entries_of l)) e ∙ ap near_items (entries-append now back) ∙ near_append (entries_of now) (entries_of back)
          ∙ ap (λ l. l ++ near_items (entries_of back)) near_list

      lawful_now : AreLawful f (near_items xs ++ i ∷ []) (start f)
      lawful_now = (lawful_front f (near_items xs ++ i ∷ []) (near_items (entries_of back)) (start f) (subst (λ is. AreLawful f is (start f)) whole h.near_lawful)).0

      lawful : Lawful f i a
      lawful = (lawful_front f (near_items xs) (i ∷ []) (start f) lawful_now).1.0

      up : IsNoDown i
      up = (all_back IsNoDown (near_items xs) (i ∷ []) (all_front IsNoDown (near_items xs ++ i ∷ []) (near_items (entries_of back)) (subst (AllByRecursion IsNoDown) whole h.near_not_down))).0

      posted : CanBePosted i
      posted = (all_back CanBePosted (near_items xs) (i ∷ []) (all_front CanBePosted (near_items xs ++ i ∷ []) (near_items (entries_of back)) (subst (AllByRecursion CanBePosted) whole h.near_posts))).0

      leads : LeadsTo f g xs
      leads = runs f g xs nodes.near_keeps nodes.far_keeps old.history

      feed : IfFed a.feed (FeedIsKnown a)
      feed = feed_known a b leads.fits.near_hears leads.paired.near.feed

      sent_now : AreComposed f (after f i a).sent
      sent_now = entry_sent f i a near_node up lawful feed old.near_holds

      leads_now : AllByRecursion (Leads f) (after f i a).opened
      leads_now = leads_on f i a up lawful old.near_leads

      near_kept : AllKept f (near_items xs ++ i ∷ []) (after f i a)
      near_kept = entry_keeps f (near_items xs) i a up lawful old.near_hand (feed_so a b leads.paired.near.feed) old.near

      near_now : NoAskBehind (after f i a) b
      near_now = near_behind f i a b up leads.paired old.near_behind

      far_now : NoAskBehind b (after f i a)
      far_now = far_behind f i b a up lawful (paired_turn a b leads.paired) old.far_behind

  far_step : (front back : List OrderEntry) (i : JournalItem) → order ≡ (front ++ far_entry i ∷ []) ++ back → IsKept f g (entries_of front) → IsKept f g (entries_of (front ++ far_entry i ∷ []))
  far_step front back i e old =
      let known_now = known now back e (subst₂ (λ is s. AllKept f is s) (sym near_list) (sym near_state) old.near) (subst₂ (λ is s. AllKept g is s) (sym far_list) (sym far_state) far_kept)
      (subst (λ s. AllByRecursion (Leads f) s.opened) (sym near_state) old.near_leads) (subst (λ s. AllByRecursion (Leads g) s.opened) (sym far_state) leads_now)
      (subst (λ s. AreComposed f s.sent) (sym near_state) old.near_holds.sent) (subst (λ s. AreComposed g s.sent) (sym far_state) sent_now) in
      let fits = subst₂ Fits near_state far_state
      (fits_so (near_side f now) (far_side g now) known_now
      (subst₂ NoAskBehind (sym near_state) (sym far_state) near_now)
      (subst₂ NoAskBehind (sym far_state) (sym near_state) far_now)) in
      subst (IsKept f g) (sym entries) (record {
        history = record {
          near_lawful = subst (λ is. AreLawful f is (start f)) (sym list_near) old.history.near_lawful;
          far_lawful = subst (λ is. AreLawful g is (start g)) (sym list_far) lawful_now;
          near_not_down = subst (AllByRecursion IsNoDown) (sym list_near) old.history.near_not_down;
          far_not_down = subst (AllByRecursion IsNoDown) (sym list_far) (all_append IsNoDown (far_items xs) (i ∷ []) old.history.far_not_down (up, tt));
          fits = fit-append f g xs (far_item i ∷ []) (start f) (start g) old.history.fits (fits, tt);
        };
        near = subst₂ (λ is s. AllKept f is s) (sym list_near) (sym state_near) old.near;
        far = subst₂ (λ is s. AllKept g is s) (sym list_far) (sym state_far) far_kept;
        near_leads = subst (λ s. AllByRecursion (Leads f) s.opened) (sym state_near) old.near_leads;
        far_leads = subst (λ s. AllByRecursion (Leads g) s.opened) (sym state_far) leads_now;
        near_hand = subst HandKept (sym state_near) old.near_hand;
        far_hand = subst HandKept (sym state_far) (hand_keeps g i b up lawful old.far_hand);
        near_behind = subst₂ NoAskBehind (sym state_near) (sym state_far) near_now;
        far_behind = subst₂ NoAskBehind (sym state_far) (sym state_near) far_now;
        near_holds = subst (Holds f) (sym state_near) old.near_holds;
        far_holds = subst (Holds g) (sym state_far)
            (entry_holds g f i b a.opened a.sent far_node up posted lawful feed old.near_holds.sent leads.fits.far_hears fits.far_hears fits.far_judges old.far_holds);
      })
    where
      subst₂ : {X Y : Type 0} (P : X → Y → Type 0) {x x' : X} {y y' : Y} → x ≡ x' → y ≡ y' → P x y → P x' y'
      subst₂ P {x} {x'} {y} {y'} p q k = subst (λ z. P x' z) q (subst (λ z. P z y) p k)

      now : List OrderEntry
      now = front ++ far_entry i ∷ []

      xs : List SideItem
      xs = entries_of front

      a : State
      a = near_after f xs

      b : State
      b = far_after g xs

      entries : entries_of now ≡ xs ++ far_item i ∷ []
      entries = entries-append front (far_entry i ∷ [])

      list_near : near_items (xs ++ far_item i ∷ []) ≡ near_items xs
      list_near = near_append xs (far_item i ∷ []) ∙ append-nil (near_items xs)

      list_far : far_items (xs ++ far_item i ∷ []) ≡ far_items xs ++ i ∷ []
      list_far = far_append xs (far_item i ∷ [])

      state_near : near_after f (xs ++ far_item i ∷ []) ≡ a
      state_near = ap (λ is. after_items f is (start f)) list_near

      state_far : far_after g (xs ++ far_item i ∷ []) ≡ after g i b
      state_far = ap (λ is. after_items g is (start g)) list_far ∙ after-append g (far_items xs) (i ∷ []) (start g)

      near_list : near_items (entries_of now) ≡ near_items xs
      near_list = ap near_items entries ∙ list_near

      far_list : far_items (entries_of now) ≡ far_items xs ++ i ∷ []
      far_list = ap far_items entries ∙ list_far

      near_state : near_after f (entries_of now) ≡ a
      near_state = ap (near_after f) entries ∙ state_near

      far_state : far_after g (entries_of now) ≡ after g i b
      far_state = ap (far_after g) entries ∙ state_far

      whole : far_items (entries_of order) ≡ (far_items xs ++ i ∷ []) ++ far_items (entries_of back)
      whole =
          ap (λ l. far_items (entries_of l)) e ∙ ap far_items (entries-append now back) ∙ far_append (entries_of now) (entries_of back)
          ∙ ap (λ l. l ++ far_items (entries_of back)) far_list

      lawful_now : AreLawful g (far_items xs ++ i ∷ []) (start g)
      lawful_now = (lawful_front g (far_items xs ++ i ∷ []) (far_items (entries_of back)) (start g) (subst (λ is. AreLawful g is (start g)) whole h.far_lawful)).0

      lawful : Lawful g i b
      lawful = (lawful_front g (far_items xs) (i ∷ []) (start g) lawful_now).1.0

      up : IsNoDown i
      up = (all_back IsNoDown (far_items xs) (i ∷ []) (all_front IsNoDown (far_items xs ++ i ∷ []) (far_items (entries_of back)) (subst (AllByRecursion IsNoDown) whole h.far_not_down))).0

      posted : CanBePosted i
      posted = (all_back CanBePosted (far_items xs) (i ∷ []) (all_front CanBePosted (far_items xs ++ i ∷ []) (far_items (entries_of back)) (subst (AllByRecursion CanBePosted) whole h.far_posts))).0

      leads : LeadsTo f g xs
      leads = runs f g xs nodes.near_keeps nodes.far_keeps old.history

      feed : IfFed b.feed (FeedIsKnown b)
      feed = feed_known b a leads.fits.far_hears leads.paired.far.feed

      sent_now : AreComposed g (after g i b).sent
      sent_now = entry_sent g i b far_node up lawful feed old.far_holds

      leads_now : AllByRecursion (Leads g) (after g i b).opened
      leads_now = leads_on g i b up lawful old.far_leads

      far_kept : AllKept g (far_items xs ++ i ∷ []) (after g i b)
      far_kept = entry_keeps g (far_items xs) i b up lawful old.far_hand (feed_so b a leads.paired.far.feed) old.far

      near_now : NoAskBehind a (after g i b)
      near_now = far_behind g i a b up lawful leads.paired old.near_behind

      far_now : NoAskBehind (after g i b) a
      far_now = near_behind g i b a up (paired_turn a b leads.paired) old.far_behind

  step : (front back : List OrderEntry) (m : OrderEntry) → order ≡ (front ++ m ∷ []) ++ back → IsKept f g (entries_of front) → IsKept f g (entries_of (front ++ m ∷ []))
  step front back (near_entry i) e old = near_step front back i e old
  step front back (far_entry i) e old = far_step front back i e old
  step front back (near_half k m) e old = subst (IsKept f g) (sym (entries-append front (near_half k m ∷ []) ∙ append-nil (entries_of front))) old
  step front back (far_half k m) e old = subst (IsKept f g) (sym (entries-append front (far_half k m ∷ []) ∙ append-nil (entries_of front))) old

  goes_on : (front back : List OrderEntry) → order ≡ front ++ back → IsKept f g (entries_of front) → IsKept f g (entries_of order)
  goes_on front [] e old = subst (λ l. IsKept f g (entries_of l)) (sym (e ∙ append-nil front)) old
  goes_on front (m ∷ ms) e old =
      let here : order ≡ (front ++ m ∷ []) ++ ms = e ∙ sym (append_assoc front (m ∷ []) ms) in
      goes_on (front ++ m ∷ []) ms here (step front ms m here old)

pub bytes_give : HistoriesAreRuns → BytesGiveFits
bytes_give runs f g order nodes h = (goes_on runs f g order nodes h [] order refl (at_start f g)).history

pub never_reset : HistoriesAreRuns → LosslessIsNeverReset → LosslessBytesAreNeverReset
never_reset runs never f g order nodes h = never f g (entries_of order) nodes (bytes_give runs f g order nodes h)
