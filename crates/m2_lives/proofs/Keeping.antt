-- Along an order of two lossless journals that fits both sides stand by ledgers.
use Rattle.std.proofs.Common.{◌≡◌, ◌≢◌, ℕ, ◌<◌, ◌≤◌, ◌^◌, ◌⊎◌, inl, inr, true, false, not, if◌then◌else◌, List, [], ◌∷◌, ◌++◌, length, map, take, Option, Some, None, refl, sym, ap, subst, ◌∙◌, arith, le_refl}
use Rattle.std.specs.Prelude.{IfSome}
use Rattle.std.specs.List.{AllByRecursion, filter}
use Rattle.std.proofs.lemmas.List.{map-append}
use Rattle.std.proofs.lemmas.List.Elements.{filter-append}
use Rattle.m2_channel.proofs.Points.{IsDown, down_or_not}
use Rattle.m2_journal.specs.Growth.{IsExtended}
use Rattle.m2_journal.specs.Items as item
use Rattle.m2_journal.specs.Items.{JournalItem}
use Rattle.m2_journal.specs.Lawful.{Lawful}
use Rattle.m2_journal.specs.Laws.{EventsAreLawful, IfFed, ReplaysAreSound}
use Rattle.m2_journal.specs.Replay.{AreLawful, after_items}
use Rattle.m2_journal.specs.SideFacts.{SideFacts, cookie_of}
use Rattle.m2_journal.specs.State.{Feed, SentFrame, State, start}
use Rattle.m2_journal.specs.Steps.{after, event_at}
use Rattle.m2_journal.specs.m2_fabric.declared.socket.SocketId.{SocketId}
use Rattle.m2_journal.specs.m2_fabric.Sockets.{same_socket}
use Rattle.m2_journal.specs.m2_queues.QueueLaws.{EachNumberIsAPlace, CallsGoOn, History, start_of}
use Rattle.m2_journal.specs.m2_session.AnswerLaws.{CookiesTellDrawsApart}
use Rattle.m2_journal.specs.m2_session.Cookies as cookies
use Rattle.m2_journal.specs.m2_session.declared.cookie.CookieParts.{CookieParts}
use Rattle.m2_journal.proofs.m2_lemmas.Booleans.{from_false_true}
use Rattle.m2_never_reset.proofs.Feeds.{take-front}
use Rattle.m2_never_reset.specs.CrossingLaws.{AnswersAreSteps}
use Rattle.m2_never_reset.specs.Fits.{Fits}
use Rattle.m2_never_reset.specs.Frames.{answers_on, frames_on, is_ask}
use Rattle.m2_never_reset.specs.Orders.{SideItem, near_item, far_item, near_items, far_items, near_after, far_after, AreNodes, FitThroughout}
use Rattle.m2_never_reset.specs.PairLaws.{IsNoDown, IsReplayed, MayCome, PairedStays, StartsAreNew}
use Rattle.m2_never_reset.specs.Paired.{FeedIsPaired, Paired, beside}
use Rattle.m2_never_reset.proofs.Entries.{fits_turn}
use Rattle.m2_never_reset.proofs.Orders.{IsLedTo, paired_turn, leads_on}
use Rattle.m2_lives.proofs.Down.{down_leaves, leaves_paired}
use Rattle.m2_lives.proofs.Entries.{IsMoveOf, IsSide, sets_back_told}
use Rattle.m2_lives.proofs.Judged.{entry_moves}
use Rattle.m2_lives.proofs.Ledger.{AreLedgers, Ledger, count, lives}
use Rattle.m2_lives.proofs.Moves.{Move, IfSpot, May, begins, moved, spot_of, view}
use Rattle.m2_lives.proofs.Settling.{moves_next}
use Rattle.m2_lives.proofs.Noting.{Grows}
use Rattle.m2_lives.proofs.Standing.{Draws, FeedStands, Next, Stands}
use Rattle.m2_never_reset.proofs.Numbered.{calls_keep}

-- ---- the laws on which this stands

pub record Known : Type 0 where
  pub events : EventsAreLawful
  pub sound : ReplaysAreSound
  pub stays : PairedStays
  pub new : StartsAreNew
  pub tables : AnswersAreSteps
  pub places : EachNumberIsAPlace
  pub go_on : CallsGoOn
  pub cookies : CookiesTellDrawsApart

-- ---- cookies

abbrev parts_of : SideFacts → ℕ → CookieParts
parts_of f n = record { place = f.node.number; salt = f.node.salt; number = n }

pub draws : CookiesTellDrawsApart → (f g : SideFacts) → f.policy.lossy ≡ false → g.policy.lossy ≡ false → f.node.number ≢ g.node.number → f.node.salt < 2 ^ 16 → g.node.salt < 2 ^ 16 → Draws (cookie_of f) (cookie_of g)
draws tell f g near far places salt salted = record {
  kept = λ n z. tell.some (parts_of f n) (ap (λ l. cookies.cookie_of l (parts_of f n)) (sym near) ∙ z);
  theirs_kept = λ n z. tell.some (parts_of g n) (ap (λ l. cookies.cookie_of l (parts_of g n)) (sym far) ∙ z);
  once = λ m n is also e. ap (λ (c : CookieParts). c.number)
      (tell.injective (parts_of f m) (parts_of f n) (record { salt = salt; from = is.from; to = is.to }) (record { salt = salt; from = also.from; to = also.to })
      (ap (λ l. cookies.cookie_of l (parts_of f m)) (sym near) ∙ e ∙ ap (λ l. cookies.cookie_of l (parts_of f n)) near));
  apart = λ m n is also e. places (ap (λ (c : CookieParts). c.place)
      (tell.injective (parts_of f m) (parts_of g n) (record { salt = salt; from = is.from; to = is.to }) (record { salt = salted; from = also.from; to = also.to })
      (ap (λ l. cookies.cookie_of l (parts_of f m)) (sym near) ∙ e ∙ ap (λ l. cookies.cookie_of l (parts_of g n)) far)));
}

-- ---- where an order has led

pub record Point (f g : SideFacts) (a b : State) (x y : Ledger) : Type 0 where
  pub near_led : IsLedTo f a
  pub far_led : IsLedTo g b
  pub paired : Paired a b
  pub fits : Fits a b
  pub ledgers : AreLedgers (cookie_of f) (cookie_of g) x y
  pub near : Stands (view a) x y
  pub far : Stands (view b) y x

ledgers_turned : (mint theirs : ℕ → ℕ) (x y : Ledger) → AreLedgers mint theirs x y → AreLedgers theirs mint y x
ledgers_turned mint theirs x y h = record { near = h.far; far = h.near; near_beside = h.far_beside; far_beside = h.near_beside; agree = λ k n m p q. sym (h.agree k m n q p) }

pub point_turned : (f g : SideFacts) (a b : State) (x y : Ledger) → Point f g a b x y → Point g f b a y x
point_turned f g a b x y h = record {
  near_led = h.far_led;
  far_led = h.near_led;
  paired = paired_turn a b h.paired;
  fits = fits_turn a b h.fits;
  ledgers = ledgers_turned (cookie_of f) (cookie_of g) x y h.ledgers;
  near = h.far;
  far = h.near;
}

pub record Both (f g : SideFacts) : Type 0 where
  pub near_keeps : f.policy.lossy ≡ false
  pub far_keeps : g.policy.lossy ≡ false
  pub places : f.node.number ≢ g.node.number
  pub near_salt : f.node.salt < 2 ^ 16
  pub far_salt : g.node.salt < 2 ^ 16

pub both_turned : (f g : SideFacts) → Both f g → Both g f
both_turned f g h = record { near_keeps = h.far_keeps; far_keeps = h.near_keeps; places = λ e. h.places (sym e); near_salt = h.far_salt; far_salt = h.near_salt }

pub both_of : (f g : SideFacts) → AreNodes f g → Both f g
both_of f g n = record { near_keeps = n.near_keeps; far_keeps = n.far_keeps; places = n.places; near_salt = n.near_salt; far_salt = n.far_salt }

-- ---- the side that doesn't act

answers-append : (k : SocketId) (xs ys : List SentFrame) → answers_on k (xs ++ ys) ≡ answers_on k xs ++ answers_on k ys
answers-append k xs ys =
    ap (λ l. filter (λ w. not (is_ask w)) (map (λ (z : SentFrame). z.frame) l)) (filter-append (λ (z : SentFrame). same_socket k z.socket) xs ys)
    ∙ ap (filter (λ w. not (is_ask w))) (map-append (λ (z : SentFrame). z.frame) (filter (λ (z : SentFrame). same_socket k z.socket) xs) (filter (λ (z : SentFrame). same_socket k z.socket) ys))
    ∙ filter-append (λ w. not (is_ask w)) (frames_on k xs) (frames_on k ys)

-- it stands where it stood, by what the other has done by then
stands_on : (b : State) (x z y : Ledger) → Grows x z → IsExtended x.sent z.sent → IfFed b.feed (λ d. d.taken ≤ length (answers_on d.socket x.sent)) → Stands (view b) y x → Stands (view b) y z
stands_on b x z y grows more few s = record {
  now = s.now;
  accepted = s.accepted;
  sent = s.sent;
  opened = s.opened;
  taken = s.taken;
  top = s.top;
  cookie = s.cookie;
  last = s.last;
  base = (let c = grows.counts b.life in let d = s.base in omega (arith, c, d));
  feed = at b.feed few s.feed;
}
  where
    longer : (o : Option ℕ) → IfSome o (λ e. e ≤ count b.life x) → IfSome o (λ e. e ≤ count b.life z)
    longer None h = tt
    longer (Some e) h = let c = grows.counts b.life in omega (arith, c, h)

    at : (o : Option Feed) → IfFed o (λ d. d.taken ≤ length (answers_on d.socket x.sent)) → IfSpot (spot_of o) (FeedStands (view b) y x) → IfSpot (spot_of o) (FeedStands (view b) y z)
    at None few f = tt
    at (Some d) few f = record {
      ready = f.ready;
      not_yet = f.not_yet;
      waits = λ n. subst (AllByRecursion _)
          (sym (ap (λ l. take d.taken (answers_on d.socket l)) more.1 ∙ ap (take d.taken) (answers-append d.socket x.sent more.0) ∙ take-front d.taken (answers_on d.socket x.sent) (answers_on d.socket more.0) few)) (f.waits n);
      asked = f.asked;
      resumed = longer d.resumed f.resumed;
      unresumed = f.unresumed;
      there = f.there;
    }

-- ---- a lawful entry of the near side

pub record NearStep (f g : SideFacts) (i : JournalItem) (a b : State) (x y : Ledger) : Type 0 where
  pub move : Move
  pub is : view (after f i a) ≡ moved move (view a)
  pub may : May (cookie_of f) y move (view a)
  pub began : sets_back_told (event_at f i a) a.session ≡ begins move
  pub ledger : Ledger
  pub point : Point f g (after f i a) b ledger y
  pub grows : Grows x ledger
  pub ended : ledger.ended ≡ (if begins move then lives x else x.ended)

module _ (known : Known) (f g : SideFacts) (both : Both f g) where
  pub replayed : (h : SideFacts) (s : State) → IsLedTo h s → IsReplayed h s
  replayed h s led = subst (IsReplayed h) (sym led.state) (record { fed = known.events.fed h led.items led.lawful; sound = known.sound h led.items led.lawful })

  pub side_now : (a b : State) (x y : Ledger) → Point f g a b x y → IsSide f a b (cookie_of g) y
  side_now a b x y h =
      let near_replayed = replayed f a h.near_led in
      record {
        keeps = both.near_keeps;
        sound = near_replayed.sound.session;
        calls = near_replayed.sound.queue;
        paired = h.paired;
        fits = h.fits;
        sent = h.far.sent;
        taken = h.far.taken;
        frames = h.ledgers.far.frames;
      }

  pub near_step : (i : JournalItem) (a b : State) (x y : Ledger) → Point f g a b x y → Lawful f i a → Fits (after f i a) b → NearStep f g i a b x y
  near_step i a b x y h lawful fits = record {
    move = m.move;
    is = m.is;
    may = m.may;
    began = m.begins;
    ledger = next.ledger;
    point = record {
      near_led = led;
      far_led = h.far_led;
      paired = paired (down_or_not i);
      fits = fits;
      ledgers = next.ledgers;
      near = subst (λ v. Stands v next.ledger y) (sym m.is) next.stands;
      far = stands_on b x next.ledger y next.grows next.sent few h.far;
    };
    grows = next.grows;
    ended = next.ended;
  }
    where
      led : IsLedTo f (after f i a)
      led = leads_on f i a h.near_led lawful

      near_replayed : IsReplayed f a
      near_replayed = replayed f a h.near_led

      may_come : MayCome f g i a b
      may_come = record {
        near_keeps = both.near_keeps;
        far_keeps = both.far_keeps;
        lawful = lawful;
        near_replayed = near_replayed;
        far_replayed = replayed g b h.far_led;
        after_replayed = replayed f (after f i a) led;
        paired = h.paired;
        fits = h.fits;
        fits_after = fits;
      }

      paired : IsNoDown i ⊎ IsDown i → Paired (after f i a) b
      paired (inl up) = known.stays f g i up a b may_come
      paired (inr d) = subst (λ j. Paired (after f j a) b) (sym d.is) (leaves_paired a (after f (item.down d.planned d.step) a) b (down_leaves f d.planned d.step a) h.paired)

      keeps : a.out.queue.keeps ≡ true
      keeps = let calls = near_replayed.sound.queue in
          ap (λ (z : History). z.queue.keeps) calls.1 ∙ calls_keep (start_of (not f.policy.lossy)) calls.0 ∙ ap not both.near_keeps

      m : IsMoveOf (cookie_of f) y f i a
      m = entry_moves (cookie_of f) (cookie_of g) f a b y (side_now a b x y h) known.tables known.places known.go_on keeps (λ n. refl) g i fits.near_hears lawful (λ up. may_come)

      next : Next (cookie_of f) (cookie_of g) (begins m.move) (moved m.move (view a)) x y
      next = moves_next (cookie_of f) (cookie_of g) (draws known.cookies f g both.near_keeps both.far_keeps both.places both.near_salt both.far_salt) m.move (view a) x y m.may h.ledgers h.near

      few : IfFed b.feed (λ d. d.taken ≤ length (answers_on d.socket x.sent))
      few = at b.feed h.paired.far.feed
        where
          at : (o : Option Feed) → IfFed o (FeedIsPaired (beside b a)) → IfFed o (λ d. d.taken ≤ length (answers_on d.socket x.sent))
          at None p = tt
          at (Some d) p = subst (λ l. d.taken ≤ length (answers_on d.socket l)) (sym h.near.sent) p.sent

-- ---- the start

abbrev pub first : Ledger
first = record { ended = []; now = record { name = 0; numbered = [] }; accepted = []; stays = []; sent = []; opened = []; taken = []; top = 0 }

first_ledgers : (mint theirs : ℕ → ℕ) → AreLedgers mint theirs first first
first_ledgers mint theirs = record {
  near = record { named = (inl refl, tt); known = λ n e. refl; once = tt; there = tt; frames = tt; offered = tt };
  far = record { named = (inl refl, tt); known = λ n e. refl; once = tt; there = tt; frames = tt; offered = tt };
  near_beside = record { opener = tt; names = (inl refl, tt); prefix = λ n. inl refl; asked = λ k e n has. absurd has };
  far_beside = record { opener = tt; names = (inl refl, tt); prefix = λ n. inl refl; asked = λ k e n has. absurd has };
  agree = λ k n m has. absurd has;
}

first_stands : (f : SideFacts) → Stands (view (start f)) first first
first_stands f = record { now = refl; accepted = refl; sent = refl; opened = refl; taken = refl; top = refl; cookie = refl; last = refl; base = le_refl 0; feed = tt }

pub at_start : Known → (f g : SideFacts) → Point f g (start f) (start g) first first
at_start known f g = record {
  near_led = record { items = []; lawful = tt; state = refl };
  far_led = record { items = []; lawful = tt; state = refl };
  paired = known.new.paired f g;
  fits = record { near_hears = tt; far_hears = tt; near_judges = tt; far_judges = tt; opened_apart = λ k e. from_false_true e };
  ledgers = first_ledgers (cookie_of f) (cookie_of g);
  near = first_stands f;
  far = first_stands g;
}

-- ---- an order in turn

-- each entry is lawful where those before it lead, and the sides fit behind it
abbrev pub IsInTurn : (f g : SideFacts) → List SideItem → (a b : State) → Type 0
IsInTurn f g [] a b = Unit {0}
IsInTurn f g (near_item i ∷ order) a b = Lawful f i a × Fits (after f i a) b × IsInTurn f g order (after f i a) b
IsInTurn f g (far_item i ∷ order) a b = Lawful g i b × Fits a (after g i b) × IsInTurn f g order a (after g i b)

pub in_turn : (f g : SideFacts) (order : List SideItem) (a b : State) → AreLawful f (near_items order) a → AreLawful g (far_items order) b → FitThroughout f g order a b → IsInTurn f g order a b
in_turn f g [] a b near far fits = tt
in_turn f g (near_item i ∷ order) a b near far fits = (near.0, fits.0, in_turn f g order (after f i a) b near.1 far fits.1)
in_turn f g (far_item i ∷ order) a b near far fits = (far.0, fits.0, in_turn f g order a (after g i b) near far.1 fits.1)

pub turn_behind : (f g : SideFacts) (xs ys : List SideItem) (a b : State) → IsInTurn f g (xs ++ ys) a b → IsInTurn f g ys (after_items f (near_items xs) a) (after_items g (far_items xs) b)
turn_behind f g [] ys a b h = h
turn_behind f g (near_item i ∷ xs) ys a b h = turn_behind f g xs ys (after f i a) b h.2
turn_behind f g (far_item i ∷ xs) ys a b h = turn_behind f g xs ys a (after g i b) h.2

pub turn_front : (f g : SideFacts) (xs ys : List SideItem) (a b : State) → IsInTurn f g (xs ++ ys) a b → IsInTurn f g xs a b
turn_front f g [] ys a b h = tt
turn_front f g (near_item i ∷ xs) ys a b h = (h.0, h.1, turn_front f g xs ys (after f i a) b h.2)
turn_front f g (far_item i ∷ xs) ys a b h = (h.0, h.1, turn_front f g xs ys a (after g i b) h.2)

-- ledgers by which both stand
pub record Reached (f g : SideFacts) (a b : State) : Type 0 where
  pub near_ledger : Ledger
  pub far_ledger : Ledger
  pub point : Point f g a b near_ledger far_ledger

pub reaches : Known → (f g : SideFacts) → Both f g → (order : List SideItem) (a b : State) → Reached f g a b → IsInTurn f g order a b → Reached f g (after_items f (near_items order) a) (after_items g (far_items order) b)
reaches known f g both [] a b r h = r
reaches known f g both (near_item i ∷ order) a b r h =
    let s = near_step known f g both i a b r.near_ledger r.far_ledger r.point h.0 h.1 in
    reaches known f g both order (after f i a) b (record { near_ledger = s.ledger; far_ledger = r.far_ledger; point = s.point }) h.2
reaches known f g both (far_item i ∷ order) a b r h =
    let s = near_step known g f (both_turned f g both) i b a r.far_ledger r.near_ledger (point_turned f g a b r.near_ledger r.far_ledger r.point) h.0 (fits_turn a (after g i b) h.1) in
    reaches known f g both order a (after g i b) (record { near_ledger = r.near_ledger; far_ledger = s.ledger; point = point_turned g f (after g i b) a s.ledger r.near_ledger s.point }) h.2

pub reached : Known → (f g : SideFacts) → Both f g → (order : List SideItem) → IsInTurn f g order (start f) (start g) → Reached f g (near_after f order) (far_after g order)
reached known f g both order h = reaches known f g both order (start f) (start g) (record { near_ledger = first; far_ledger = first; point = at_start known f g }) h
