-- An order of two journals that fits is a run of the link.
use Rattle.std.proofs.Common.{◌≡◌, ℕ, ◌+◌, false, List, [], ◌∷◌, ◌++◌, refl, sym, ap, ◌∙◌, subst, arith}
use Rattle.std.specs.List.{AllByRecursion}
use Rattle.m2_journal.specs.Items.{JournalItem}
use Rattle.m2_journal.specs.Lawful.{Lawful}
use Rattle.m2_journal.specs.Laws.{EventsAreLawful, ReplaysAreSound}
use Rattle.m2_journal.specs.Replay.{AreLawful, after_items}
use Rattle.m2_journal.specs.SideFacts.{SideFacts}
use Rattle.m2_journal.specs.State.{State, start}
use Rattle.m2_journal.specs.Steps.{after}
use Rattle.m2_journal.proofs.Growing.{after-append, lawful-append}
use Rattle.m2_never_reset.specs.CrossingLaws.{RunsGoOn}
use Rattle.m2_never_reset.specs.Steps.{Run, done}
use Rattle.m2_never_reset.specs.Fits.{Fits}
use Rattle.m2_never_reset.specs.PairLaws.{IsReplayed, MayCome, IsNoDown, EntriesOfEitherAreSteps, StartsAreNew, PairedStays}
use Rattle.m2_never_reset.specs.LinkOf.{role_of, link_of}
use Rattle.m2_never_reset.specs.Orders.{SideItem, near_item, far_item, near_items, far_items, near_after, far_after}
use Rattle.m2_never_reset.specs.Orders.{FitThroughout, IsHistory, trouble_in, HistoriesAreRuns}
use Rattle.m2_never_reset.specs.Paired.{Paired}
use Rattle.m2_never_reset.specs.Trouble.{trouble_at}
use Rattle.m2_never_reset.proofs.Entries.{fits_turn}
use Rattle.m2_queues.proofs.m2_lemmas.Booleans.{from_false_true}

-- ---- an order, entry for entry

-- a lawful entry, that doesn't mark its side down, behind which the two sides fit
pub record MayEnter (f : SideFacts) (i : JournalItem) (s : State) (Fit : Type 0) : Type 0 where
  pub not_down : IsNoDown i
  pub lawful : Lawful f i s
  pub fits_after : Fit

-- each entry may come where those before it lead
abbrev pub IsOrder : (f g : SideFacts) → List SideItem → (near far : State) → Type 0
IsOrder f g [] a b = Unit {0}
IsOrder f g (near_item i ∷ order) a b = MayEnter f i a (Fits (after f i a) b) × IsOrder f g order (after f i a) b
IsOrder f g (far_item i ∷ order) a b = MayEnter g i b (Fits a (after g i b)) × IsOrder f g order a (after g i b)

in_turn : (f g : SideFacts) (order : List SideItem) (a b : State) →
    AreLawful f (near_items order) a → AreLawful g (far_items order) b →
    AllByRecursion IsNoDown (near_items order) → AllByRecursion IsNoDown (far_items order) →
    FitThroughout f g order a b → IsOrder f g order a b
in_turn f g [] a b near far up far_up fits = tt
in_turn f g (near_item i ∷ order) a b near far up far_up fits = (
  record { not_down = up.0; lawful = near.0; fits_after = fits.0 },
  in_turn f g order (after f i a) b near.1 far up.1 far_up fits.1,
)
in_turn f g (far_item i ∷ order) a b near far up far_up fits = (
  record { not_down = far_up.0; lawful = far.0; fits_after = fits.0 },
  in_turn f g order a (after g i b) near far.1 up far_up.1 fits.1,
)

pub order_of : (f g : SideFacts) (order : List SideItem) → IsHistory f g order → IsOrder f g order (start f) (start g)
order_of f g order h =
    in_turn f g order (start f) (start g) h.near_lawful h.far_lawful h.near_not_down h.far_not_down h.fits

-- ---- where an order has led

-- lawful entries have led here
pub record IsLedTo (f : SideFacts) (s : State) : Type 0 where
  pub items : List JournalItem
  pub lawful : AreLawful f items (start f)
  pub state : s ≡ after_items f items (start f)

pub leads_on : (f : SideFacts) (i : JournalItem) (s : State) → IsLedTo f s → Lawful f i s → IsLedTo f (after f i s)
leads_on f i s led lawful = record {
  items = led.items ++ i ∷ [];
  lawful = lawful-append f led.items (i ∷ []) (start f) led.lawful (subst (Lawful f i) led.state lawful, tt);
  state = ap (after f i) led.state ∙ sym (after-append f led.items (i ∷ []) (start f));
}

pub record IsReached (f g : SideFacts) (a b : State) : Type 0 where
  pub near : IsLedTo f a
  pub far : IsLedTo g b
  pub paired : Paired a b
  pub fits : Fits a b

pub paired_turn : (a b : State) → Paired a b → Paired b a
paired_turn a b paired = record { near = paired.far; far = paired.near }

pub starts_fit : (f g : SideFacts) → Fits (start f) (start g)
starts_fit f g = record {
  near_hears = tt;
  far_hears = tt;
  near_judges = tt;
  far_judges = tt;
  opened_apart = λ k e. from_false_true e;
}

-- ---- the laws on which this stands

pub record Known : Type 0 where
  pub events : EventsAreLawful
  pub sound : ReplaysAreSound
  pub steps : EntriesOfEitherAreSteps
  pub new : StartsAreNew
  pub stays : PairedStays
  pub go_on : RunsGoOn

pub replayed : Known → (f : SideFacts) (s : State) → IsLedTo f s → IsReplayed f s
replayed known f s led =
    subst (IsReplayed f) (sym led.state)
    (record { fed = known.events.fed f led.items led.lawful; sound = known.sound f led.items led.lawful })

pub at_start : Known → (f g : SideFacts) → IsReached f g (start f) (start g)
at_start known f g = record {
  near = record { items = []; lawful = tt; state = refl };
  far = record { items = []; lawful = tt; state = refl };
  paired = known.new.paired f g;
  fits = starts_fit f g;
}

-- ---- an order that goes on from there

-- the same trouble, counted from here or there
counted : (n t u : ℕ) → (n + t) + u ≡ n + (t + u)
counted n t u = omega arith

plus_none : (n : ℕ) → n ≡ n + 0
plus_none n = omega arith

none_plus : (n : ℕ) → 0 + n ≡ n
none_plus n = omega arith

module _ (known : Known) (f g : SideFacts) (near_keeps : f.policy.lossy ≡ false)
    (far_keeps : g.policy.lossy ≡ false) where
  abbrev Runs : (n m : ℕ) (a b c d : State) → Type 0
  Runs n m a b c d = Run (role_of f) (role_of g) (link_of n a b) (link_of m c d)

  -- where these entries lead either side
  abbrev near_on : List SideItem → State → State
  near_on order a = after_items f (near_items order) a

  abbrev far_on : List SideItem → State → State
  far_on order b = after_items g (far_items order) b

  pub record Ends (n : ℕ) (order : List SideItem) (a b : State) : Type 0 where
    pub run : Runs n (n + trouble_in f g order a b) a b (near_on order a) (far_on order b)
    pub reached : IsReached f g (near_on order a) (far_on order b)

  pub ends : (n : ℕ) (order : List SideItem) (a b : State) → IsReached f g a b → IsOrder f g order a b →
      Ends n order a b
  ends n [] a b reached order = record {
    run = subst (λ m. Runs n m a b a b) (plus_none n) (done (link_of n a b));
    reached = reached;
  }
  ends n (near_item i ∷ more) a b reached order =
      let first = order.0 in
      let led = leads_on f i a reached.near first.lawful in
      let t = trouble_at f i a b in
      let may : MayCome f g i a b = record {
        near_keeps = near_keeps;
        far_keeps = far_keeps;
        lawful = first.lawful;
        near_replayed = replayed known f a reached.near;
        far_replayed = replayed known g b reached.far;
        after_replayed = replayed known f (after f i a) led;
        paired = reached.paired;
        fits = reached.fits;
        fits_after = first.fits_after;
      } in
      let behind : IsReached f g (after f i a) b = record {
        near = led;
        far = reached.far;
        paired = known.stays f g i first.not_down a b may;
        fits = first.fits_after;
      } in
      let rest = ends (n + t) more (after f i a) b behind order.1 in
      record {
        run = known.go_on (role_of f) (role_of g) _ _ _ (known.steps.near f g i first.not_down n a b may)
            (subst (λ m. Runs (n + t) m (after f i a) b (near_on more (after f i a)) (far_on more b))
            (counted n t (trouble_in f g more (after f i a) b)) rest.run);
        reached = rest.reached;
      }
  ends n (far_item i ∷ more) a b reached order =
      let first = order.0 in
      let led = leads_on g i b reached.far first.lawful in
      let t = trouble_at g i b a in
      let may : MayCome g f i b a = record {
        near_keeps = far_keeps;
        far_keeps = near_keeps;
        lawful = first.lawful;
        near_replayed = replayed known g b reached.far;
        far_replayed = replayed known f a reached.near;
        after_replayed = replayed known g (after g i b) led;
        paired = paired_turn a b reached.paired;
        fits = fits_turn a b reached.fits;
        fits_after = fits_turn a (after g i b) first.fits_after;
      } in
      let behind : IsReached f g a (after g i b) = record {
        near = reached.near;
        far = led;
        paired = paired_turn (after g i b) a (known.stays g f i first.not_down b a may);
        fits = first.fits_after;
      } in
      let rest = ends (n + t) more a (after g i b) behind order.1 in
      record {
        run = known.go_on (role_of f) (role_of g) _ _ _ (known.steps.far f g i first.not_down n a b may)
            (subst (λ m. Runs (n + t) m a (after g i b) (near_on more a) (far_on more (after g i b)))
            (counted n t (trouble_in f g more a (after g i b))) rest.run);
        reached = rest.reached;
      }

  -- from the start of both
  pub from_start : (order : List SideItem) → IsHistory f g order → Ends 0 order (start f) (start g)
  from_start order history = ends 0 order (start f) (start g) (at_start known f g) (order_of f g order history)

pub histories_are : Known → HistoriesAreRuns
histories_are known f g order near_keeps far_keeps history =
    let it = from_start known f g near_keeps far_keeps order history in
    let a = near_after f order in
    let b = far_after g order in
    let t = trouble_in f g order (start f) (start g) in
    record {
      run = subst (λ l. Run (role_of f) (role_of g) l (link_of t a b)) (known.new.link f g)
          (subst (λ m. Run (role_of f) (role_of g) (link_of 0 (start f) (start g)) (link_of m a b)) (none_plus t) it.run);
      paired = it.reached.paired;
      fits = it.reached.fits;
    }
