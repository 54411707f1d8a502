-- Where bytes fit throughout an order of two lossless journals with mark-downs, the two sides fit and are paired at each point.
use Rattle.std.proofs.Common.{◌≡◌, ◌⊎◌, inl, inr, Bool, true, false, List, [], ◌∷◌, ◌++◌, Option, refl, sym, ap, ◌∙◌, subst, append_assoc, append-nil}
use Rattle.std.specs.List.{AllByRecursion}
use Rattle.m2_bytes_fit.specs.Ends.{Side}
use Rattle.m2_bytes_fit.specs.Halves.{BytesFit}
use Rattle.m2_bytes_fit.specs.Orders.{OrderEntry, near_entry, far_entry, near_half, far_half, entries_of, near_side, far_side}
use Rattle.m2_bytes_fit.specs.Texts.{CanBePosted}
use Rattle.m2_bytes_fit.specs.m2_trail.Trails.{HalfBytes}
use Rattle.m2_bytes_fit.proofs.Asking.{near_behind, far_behind}
use Rattle.m2_bytes_fit.proofs.Bounded.{SessionIsBounded, rest_after, step_bounded}
use Rattle.m2_bytes_fit.proofs.Composed.{AreComposed, FeedIsKnown, Holds, IsNode, can_be_sent, entry_holds, entry_sent, starts_holding, unasked_so}
use Rattle.m2_bytes_fit.proofs.Growing.{Leads, entry_grows}
use Rattle.m2_bytes_fit.proofs.Hands.{HandKept}
use Rattle.m2_bytes_fit.proofs.Hears.{NoAskBehind, near_hears}
use Rattle.m2_bytes_fit.proofs.Orders.{entries-append, feed_known, feed_so, fits_so, opened_apart}
use Rattle.m2_bytes_fit.proofs.Points.{Known, near_judges}
use Rattle.m2_bytes_fit.proofs.Steps.{AllKept}
use Rattle.m2_bytes_fit.proofs.m2_feed.m2_lemmas.Booleans.{from_false_true}
use Rattle.m2_bytes_fit.proofs.m2_feed.m2_lemmas.Lists.{all_append, all_back, all_front}
use Rattle.m2_channel.proofs.Points.{IsDown, any_hand, any_keeps, down_or_not}
use Rattle.m2_journal.specs.Items as item
use Rattle.m2_journal.specs.Items.{JournalItem}
use Rattle.m2_journal.specs.Lawful.{Lawful}
use Rattle.m2_journal.specs.Laws.{EventsAreLawful, IfFed, ReplaysAreSound}
use Rattle.m2_journal.specs.Plan.{Planned}
use Rattle.m2_journal.specs.Replay.{AreLawful, after_items}
use Rattle.m2_journal.specs.SideFacts.{SideFacts}
use Rattle.m2_journal.specs.State.{State, start}
use Rattle.m2_journal.specs.Steps.{after}
use Rattle.m2_journal.specs.m2_fabric.declared.socket.SocketId.{SocketId}
use Rattle.m2_journal.specs.m2_fabric.Sockets.{goes_to}
use Rattle.m2_journal.specs.m2_session.declared.event.Event.TheVariants as event
use Rattle.m2_journal.proofs.Growing.{after-append}
use Rattle.m2_journal.proofs.JudgedOn.{lawful_front}
use Rattle.m2_journal.proofs.Sessions.{goes}
use Rattle.m2_channel.specs.Lossy.{IsByteOrder}
use Rattle.m2_never_reset.specs.Fits.{Fits}
use Rattle.m2_never_reset.specs.Orders.{SideItem, near_item, far_item, near_items, far_items, near_after, far_after, FitThroughout}
use Rattle.m2_never_reset.specs.PairLaws.{IsNoDown, IsReplayed, PairedStays, StartsAreNew}
use Rattle.m2_never_reset.specs.Paired.{Paired}
use Rattle.m2_never_reset.proofs.Entries.{fits_turn}
use Rattle.m2_never_reset.proofs.OneHistory.{fit-append}
use Rattle.m2_never_reset.proofs.Orders.{paired_turn, starts_fit}
use Rattle.m2_never_reset.proofs.Sided.{near_append, far_append}
use Rattle.m2_lives.specs.ObservedLaws.{BytesGiveLives}
use Rattle.m2_lives.proofs.Down.{down_leaves, leaves_far, leaves_near, leaves_paired}

-- ---- the laws on which this stands

pub record Laws : Type 0 where
  pub events : EventsAreLawful
  pub sound : ReplaysAreSound
  pub stays : PairedStays
  pub new : StartsAreNew

abbrev pub state_at : SideFacts → List JournalItem → State
state_at f is = after_items f is (start f)

abbrev pub side_at : SideFacts → List JournalItem → (SocketId → HalfBytes) → Side
side_at f is halves = record { facts = f; entries = is; halves = halves }

-- ---- what is known of a side, and of both

pub record SideKept (f : SideFacts) (is : List JournalItem) : Type 0 where
  pub kept : AllKept f is (state_at f is)
  pub lawful : AreLawful f is (start f)
  pub leads : AllByRecursion (Leads f) (state_at f is).opened
  pub hand : HandKept (state_at f is)
  pub holds : Holds f (state_at f is)

pub record BothKept (f g : SideFacts) (is js : List JournalItem) : Type 0 where
  pub near : SideKept f is
  pub far : SideKept g js
  pub paired : Paired (state_at f is) (state_at g js)
  pub fits : Fits (state_at f is) (state_at g js)
  pub near_behind : NoAskBehind (state_at f is) (state_at g js)
  pub far_behind : NoAskBehind (state_at g js) (state_at f is)

pub kept_turned : (f g : SideFacts) (is js : List JournalItem) → BothKept f g is js → BothKept g f js is
kept_turned f g is js h = record {
  near = h.far;
  far = h.near;
  paired = paired_turn (state_at f is) (state_at g js) h.paired;
  fits = fits_turn (state_at f is) (state_at g js) h.fits;
  near_behind = h.far_behind;
  far_behind = h.near_behind;
}

pub record BothNodes (f g : SideFacts) : Type 0 where
  pub near : IsNode f
  pub far : IsNode g
  pub peers : (k : SocketId) → goes_to f.peer k ≡ true → goes_to g.peer k ≡ false

nodes_turned : (f g : SideFacts) → BothNodes f g → BothNodes g f
nodes_turned f g h = record { near = h.far; far = h.near; peers = λ k e. at k (goes_to f.peer k) refl e }
  where
    at : (k : SocketId) (b : Bool) → goes_to f.peer k ≡ b → goes_to g.peer k ≡ true → goes_to f.peer k ≡ false
    at k false q e = q
    at k true q e = from_false_true (sym (h.peers k q) ∙ e)

-- ---- an entry more of the near side

module _ (known : Laws) (f g : SideFacts) (nodes : BothNodes f g) (is js : List JournalItem) (i : JournalItem) (p q : SocketId → HalfBytes) (h : BothKept f g is js)
    (bytes : BytesFit (side_at f (is ++ i ∷ []) p) (side_at g js q)) (all_lawful : AreLawful f (is ++ i ∷ []) (start f)) (can : CanBePosted i) where
  abbrev a : State
  a = state_at f is

  abbrev b : State
  b = state_at g js

  abbrev t : State
  t = after f i a

  state_is : state_at f (is ++ i ∷ []) ≡ t
  state_is = after-append f is (i ∷ []) (start f)

  l : Lawful f i a
  l = (lawful_front f is (i ∷ []) (start f) all_lawful).1.0

  down_so : (P : State → Type 0) → ((planned : Bool) → (step : Option Planned) → P (after f (item.down planned step) a)) → IsDown i → P t
  down_so P so d = subst (λ j. P (after f j a)) (sym d.is) (so d.planned d.step)

  known_feed : IfFed a.feed (FeedIsKnown a)
  known_feed = feed_known a b h.fits.near_hears h.paired.near.feed

  kept : AllKept f (is ++ i ∷ []) t
  kept = any_keeps f is i a l h.near.hand (feed_so a b h.paired.near.feed) h.near.kept

  leads : AllByRecursion (Leads f) t.opened
  leads = at (down_or_not i)
    where
      at : IsNoDown i ⊎ IsDown i → AllByRecursion (Leads f) t.opened
      at (inl up) =
          let grows = entry_grows f i a up l in
          subst (AllByRecursion (Leads f)) (sym grows.opened) (all_append (Leads f) a.opened grows.more_opened h.near.leads grows.leads)
      at (inr d) = down_so (λ s. AllByRecursion (Leads f) s.opened) (λ planned step. subst (AllByRecursion (Leads f)) (sym (down_leaves f planned step a).opened) h.near.leads) d

  sent : AreComposed f t.sent
  sent = at (down_or_not i)
    where
      at : IsNoDown i ⊎ IsDown i → AreComposed f t.sent
      at (inl up) = entry_sent f i a nodes.near up l known_feed h.near.holds
      at (inr d) = down_so (λ s. AreComposed f s.sent) (λ planned step. subst (AreComposed f) (sym (down_leaves f planned step a).sent) h.near.holds.sent) d

  near_now : NoAskBehind t b
  near_now = at (down_or_not i)
    where
      at : IsNoDown i ⊎ IsDown i → NoAskBehind t b
      at (inl up) = near_behind f i a b up h.paired h.near_behind
      at (inr d) = down_so (λ s. NoAskBehind s b) (λ planned step. leaves_near a (after f (item.down planned step) a) b (down_leaves f planned step a)) d

  far_now : NoAskBehind b t
  far_now = at (down_or_not i)
    where
      at : IsNoDown i ⊎ IsDown i → NoAskBehind b t
      at (inl up) = far_behind f i b a up l (paired_turn a b h.paired) h.far_behind
      at (inr d) = down_so (λ s. NoAskBehind b s) (λ planned step. leaves_far a (after f (item.down planned step) a) b (down_leaves f planned step a) h.far_behind) d

  known_now : Known (side_at f (is ++ i ∷ []) p) (side_at g js q)
  known_now = record {
    near_kept = subst (AllKept f (is ++ i ∷ [])) (sym state_is) kept;
    far_kept = h.far.kept;
    bytes = bytes;
    apart = opened_apart f g (state_at f (is ++ i ∷ [])).opened b.opened nodes.peers (subst (λ (s : State). AllByRecursion (Leads f) s.opened) (sym state_is) leads) h.far.leads;
    near_sent = can_be_sent f (state_at f (is ++ i ∷ [])).sent (subst (λ (s : State). AreComposed f s.sent) (sym state_is) sent);
    far_sent = can_be_sent g b.sent h.far.holds.sent;
    near_named = nodes.near.ranges;
    far_named = nodes.far.ranges;
  }

  fits : Fits t b
  fits = subst (λ s. Fits s b) state_is
      (fits_so (side_at f (is ++ i ∷ []) p) (side_at g js q) known_now (subst (λ s. NoAskBehind s b) (sym state_is) near_now) (subst (λ s. NoAskBehind b s) (sym state_is) far_now))

  holds : Holds f t
  holds = at (down_or_not i)
    where
      at : IsNoDown i ⊎ IsDown i → Holds f t
      at (inl up) = entry_holds f g i a b.opened b.sent nodes.near up can l known_feed h.far.holds.sent h.fits.near_hears fits.near_hears fits.near_judges h.near.holds
      at (inr d) =
          down_so (Holds f)
          (λ planned step. record {
            session = subst SessionIsBounded (sym (goes f (item.down planned step) a)) (step_bounded a.session event.MarkedDown h.near.holds.session tt);
            rest = rest_after f (item.down planned step) a tt tt (unasked_so a.feed b.sent h.fits.near_hears) h.near.holds.rest;
            sent = subst (AreComposed f) (sym (down_leaves f planned step a).sent) h.near.holds.sent;
          }) d

  replayed : IsReplayed f a
  replayed = record { fed = known.events.fed f is h.near.lawful; sound = known.sound f is h.near.lawful }

  paired : Paired t b
  paired = at (down_or_not i)
    where
      at : IsNoDown i ⊎ IsDown i → Paired t b
      at (inl up) =
          known.stays f g i up a b (record {
            near_keeps = nodes.near.keeps;
            far_keeps = nodes.far.keeps;
            lawful = l;
            near_replayed = replayed;
            far_replayed = record { fed = known.events.fed g js h.far.lawful; sound = known.sound g js h.far.lawful };
            after_replayed = subst (IsReplayed f) state_is (record { fed = known.events.fed f (is ++ i ∷ []) all_lawful; sound = known.sound f (is ++ i ∷ []) all_lawful });
            paired = h.paired;
            fits = h.fits;
            fits_after = fits;
          })
      at (inr d) = down_so (λ s. Paired s b) (λ planned step. leaves_paired a (after f (item.down planned step) a) b (down_leaves f planned step a) h.paired) d

  pub one_more : BothKept f g (is ++ i ∷ []) js
  one_more = record {
    near = record {
      kept = subst (AllKept f (is ++ i ∷ [])) (sym state_is) kept;
      lawful = all_lawful;
      leads = subst (λ (s : State). AllByRecursion (Leads f) s.opened) (sym state_is) leads;
      hand = subst HandKept (sym state_is) (any_hand f i a l h.near.hand);
      holds = subst (Holds f) (sym state_is) holds;
    };
    far = h.far;
    paired = subst (λ s. Paired s b) (sym state_is) paired;
    fits = subst (λ s. Fits s b) (sym state_is) fits;
    near_behind = subst (λ s. NoAskBehind s b) (sym state_is) near_now;
    far_behind = subst (λ s. NoAskBehind b s) (sym state_is) far_now;
  }

-- ---- the start

starts_alone : (f : SideFacts) → SideKept f []
starts_alone f = record { kept = λ k. record { read = refl; wrote = refl; feed = refl; frames = refl }; lawful = tt; leads = tt; hand = tt; holds = starts_holding f }

pub starts : Laws → (f g : SideFacts) → BothKept f g [] []
starts known f g = record { near = starts_alone f; far = starts_alone g; paired = known.new.paired f g; fits = starts_fit f g; near_behind = tt; far_behind = tt }

-- ---- every point

record Walked (f g : SideFacts) (xs : List SideItem) : Type 0 where
  point : BothKept f g (near_items xs) (far_items xs)
  throughout : FitThroughout f g xs (start f) (start g)

module _ (known : Laws) (f g : SideFacts) (nodes : BothNodes f g) (order : List OrderEntry) (h : IsByteOrder f g order) where
  abbrev nears : List OrderEntry → List JournalItem
  nears front = near_items (entries_of front)

  abbrev fars : List OrderEntry → List JournalItem
  fars front = far_items (entries_of front)

  near_more : (front more : List OrderEntry) → nears (front ++ more) ≡ nears front ++ nears more
  near_more front more = ap near_items (entries-append front more) ∙ near_append (entries_of front) (entries_of more)

  far_more : (front more : List OrderEntry) → fars (front ++ more) ≡ fars front ++ fars more
  far_more front more = ap far_items (entries-append front more) ∙ far_append (entries_of front) (entries_of more)

  subst₂ : {X Y : Type 0} (P : X → Y → Type 0) {x x' : X} {y y' : Y} → x ≡ x' → y ≡ y' → P x y → P x' y'
  subst₂ P {x} {x'} {y} {y'} e g k = subst (λ z. P x' z) g (subst (λ z. P z y) e k)

  step : (front back : List OrderEntry) (m : OrderEntry) → order ≡ (front ++ m ∷ []) ++ back → Walked f g (entries_of front) → Walked f g (entries_of (front ++ m ∷ []))
  step front back (near_entry i) e old =
      subst (Walked f g) (sym (entries-append front (near_entry i ∷ [])))
      (record {
        point = subst₂ (BothKept f g) (sym list_near) (sym list_far) point;
        throughout = fit-append f g xs (near_item i ∷ []) (start f) (start g) old.throughout (subst (λ s. Fits s (far_after g xs)) (after-append f (near_items xs) (i ∷ []) (start f)) point.fits, tt);
      })
    where
      xs : List SideItem
      xs = entries_of front

      now : List OrderEntry
      now = front ++ near_entry i ∷ []

      list_near : near_items (xs ++ near_item i ∷ []) ≡ near_items xs ++ i ∷ []
      list_near = near_append xs (near_item i ∷ [])

      list_far : far_items (xs ++ near_item i ∷ []) ≡ far_items xs
      list_far = far_append xs (near_item i ∷ []) ∙ append-nil (far_items xs)

      near : nears now ≡ near_items xs ++ i ∷ []
      near = near_more front (near_entry i ∷ [])

      far : fars now ≡ far_items xs
      far = far_more front (near_entry i ∷ []) ∙ append-nil (far_items xs)

      whole : nears order ≡ (near_items xs ++ i ∷ []) ++ nears back
      whole = ap nears e ∙ near_more now back ∙ ap (λ l. l ++ nears back) near

      point : BothKept f g (near_items xs ++ i ∷ []) (far_items xs)
      point = one_more known f g nodes (near_items xs) (far_items xs) i (near_side f now).halves (far_side g now).halves old.point
          (subst₂ (λ xs ys. BytesFit (side_at f xs (near_side f now).halves) (side_at g ys (far_side g now).halves)) near far (h.bytes now back e))
          (lawful_front f (near_items xs ++ i ∷ []) (nears back) (start f) (subst (λ xs. AreLawful f xs (start f)) whole h.near_lawful)).0
          (all_back CanBePosted (near_items xs) (i ∷ []) (all_front CanBePosted (near_items xs ++ i ∷ []) (nears back) (subst (AllByRecursion CanBePosted) whole h.near_posts))).0
  step front back (far_entry i) e old =
      subst (Walked f g) (sym (entries-append front (far_entry i ∷ [])))
      (record {
        point = subst₂ (BothKept f g) (sym list_near) (sym list_far) point;
        throughout = fit-append f g xs (far_item i ∷ []) (start f) (start g) old.throughout (subst (λ s. Fits (near_after f xs) s) (after-append g (far_items xs) (i ∷ []) (start g)) point.fits, tt);
      })
    where
      xs : List SideItem
      xs = entries_of front

      now : List OrderEntry
      now = front ++ far_entry i ∷ []

      list_near : near_items (xs ++ far_item i ∷ []) ≡ near_items xs
      list_near = near_append xs (far_item i ∷ []) ∙ append-nil (near_items xs)

      list_far : far_items (xs ++ far_item i ∷ []) ≡ far_items xs ++ i ∷ []
      list_far = far_append xs (far_item i ∷ [])

      near : nears now ≡ near_items xs
      near = near_more front (far_entry i ∷ []) ∙ append-nil (near_items xs)

      far : fars now ≡ far_items xs ++ i ∷ []
      far = far_more front (far_entry i ∷ [])

      whole : fars order ≡ (far_items xs ++ i ∷ []) ++ fars back
      whole = ap fars e ∙ far_more now back ∙ ap (λ l. l ++ fars back) far

      point : BothKept f g (near_items xs) (far_items xs ++ i ∷ [])
      point = kept_turned g f (far_items xs ++ i ∷ []) (near_items xs)
          (one_more known g f (nodes_turned f g nodes) (far_items xs) (near_items xs) i (far_side g now).halves (near_side f now).halves (kept_turned f g (near_items xs) (far_items xs) old.point)
          (bytes_turned (side_at f (near_items xs) (near_side f now).halves) (side_at g (far_items xs ++ i ∷ []) (far_side g now).halves)
          (subst₂ (λ xs ys. BytesFit (side_at f xs (near_side f now).halves) (side_at g ys (far_side g now).halves)) near far (h.bytes now back e)))
          (lawful_front g (far_items xs ++ i ∷ []) (fars back) (start g) (subst (λ xs. AreLawful g xs (start g)) whole h.far_lawful)).0
          (all_back CanBePosted (far_items xs) (i ∷ []) (all_front CanBePosted (far_items xs ++ i ∷ []) (fars back) (subst (AllByRecursion CanBePosted) whole h.far_posts))).0)
        where
          bytes_turned : (a b : Side) → BytesFit a b → BytesFit b a
          bytes_turned a b h = record {
            near_got = h.far_got;
            far_got = h.near_got;
            strange = λ k p q. let s = h.strange k q p in (s.1, s.0);
            near_halves = h.far_halves;
            far_halves = h.near_halves;
          }
  step front back (near_half k m) e old = subst (Walked f g) (sym (entries-append front (near_half k m ∷ []) ∙ append-nil (entries_of front))) old
  step front back (far_half k m) e old = subst (Walked f g) (sym (entries-append front (far_half k m ∷ []) ∙ append-nil (entries_of front))) old

  walk : (front back : List OrderEntry) → order ≡ front ++ back → Walked f g (entries_of front) → Walked f g (entries_of order)
  walk front [] e old = subst (λ l. Walked f g (entries_of l)) (sym (e ∙ append-nil front)) old
  walk front (m ∷ ms) e old =
      let here : order ≡ (front ++ m ∷ []) ++ ms = e ∙ sym (append_assoc front (m ∷ []) ms) in
      walk (front ++ m ∷ []) ms here (step front ms m here old)

pub give_lives : Laws → BytesGiveLives
give_lives known f g order nodes peers h =
    let both : BothNodes f g = record {
      near = record { ranges = h.near_named; keeps = nodes.near_keeps; salt = nodes.near_salt };
      far = record { ranges = h.far_named; keeps = nodes.far_keeps; salt = nodes.far_salt };
      peers = peers;
    } in
    let it = walk known f g both order h [] order refl (record { point = starts known f g; throughout = tt }) in
    record { near_lawful = h.near_lawful; far_lawful = h.far_lawful; fits = it.throughout }
