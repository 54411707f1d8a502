-- No reset is observed without a mark before it. It is so of the channel without lives, which shows the same marks and resets.
use Rattle.std.proofs.Common.{◌≡◌, inl, inr, Bool, true, false, if◌then◌else◌, List, [], ◌∷◌, ◌++◌, refl, sym, subst, ◌∙◌}
use Rattle.m2_channel.specs.Channel as channel
use Rattle.m2_channel.specs.Channel.{Channel, ChannelStep, of_key, new_channel, IsRun}
use Rattle.m2_channel.specs.Observed.{Logs, before_down, handed, marks_down, observed}
use Rattle.m2_channel.specs.ObservedLaws.{AreLogs, IsLawfulOrder, ObservedIsARunToAMark}
use Rattle.m2_journal.specs.SideFacts.{SideFacts}
use Rattle.m2_journal.specs.State.{State, start}
use Rattle.m2_journal.specs.Steps.{after}
use Rattle.m2_never_reset.specs.Orders.{SideItem, near_item, far_item, near_after, far_after, AreNodes, FitThroughout}
use Rattle.m2_lives.specs.Lives.{LivesChannel, LivesStep, post, begins_sending, begins_receiving, accept, acknowledge, dispatch, mark, reset, changed_in_lives, IsRunOfLives}
use Rattle.m2_lives.specs.Observed.{shown_from, observed_in_lives, without_lives, without_acknowledgements}
use Rattle.m2_lives.specs.ObservedLaws.{IsHistoryOfLives}
use Rattle.m2_lives.proofs.Same.{show_the_same}
use Rattle.m2_lives.proofs.Showing.{AreSteps}

-- ---- each reset behind a mark, or where one was

abbrev pub AreMarked : Bool → List LivesStep → Type 0
AreMarked b [] = Unit {0}
AreMarked b (mark ∷ xs) = AreMarked true xs
AreMarked b (reset ∷ xs) = (b ≡ true) × AreMarked b xs
AreMarked b (post key m ∷ xs) = AreMarked b xs
AreMarked b (begins_sending name thrown ∷ xs) = AreMarked b xs
AreMarked b (begins_receiving name ∷ xs) = AreMarked b xs
AreMarked b (accept key m ∷ xs) = AreMarked b xs
AreMarked b (acknowledge key ∷ xs) = AreMarked b xs
AreMarked b (dispatch name key m ∷ xs) = AreMarked b xs

abbrev AreMarkedThere : Bool → List ChannelStep → Type 0
AreMarkedThere b [] = Unit {0}
AreMarkedThere b (channel.mark ∷ xs) = AreMarkedThere true xs
AreMarkedThere b (channel.reset ∷ xs) = (b ≡ true) × AreMarkedThere b xs
AreMarkedThere b (channel.post key m ∷ xs) = AreMarkedThere b xs
AreMarkedThere b (channel.accept key m ∷ xs) = AreMarkedThere b xs
AreMarkedThere b (channel.dispatch key m ∷ xs) = AreMarkedThere b xs
AreMarkedThere b (channel.acknowledge count ∷ xs) = AreMarkedThere b xs

-- with resets as they are, steps are a run
pub marked_run : (xs : List LivesStep) (c : LivesChannel) → AreSteps xs c → AreMarked c.marked xs → IsRunOfLives xs c
marked_run [] c h m = tt
marked_run (post key x ∷ xs) c h m = (tt, marked_run xs (changed_in_lives (post key x) c) h.1 m)
marked_run (begins_sending name thrown ∷ xs) c h m = (h.0, marked_run xs (changed_in_lives (begins_sending name thrown) c) h.1 m)
marked_run (begins_receiving name ∷ xs) c h m = (h.0, marked_run xs (changed_in_lives (begins_receiving name) c) h.1 m)
marked_run (accept key x ∷ xs) c h m = (h.0, marked_run xs (changed_in_lives (accept key x) c) h.1 m)
marked_run (acknowledge key ∷ xs) c h m = (h.0, marked_run xs (changed_in_lives (acknowledge key) c) h.1 m)
marked_run (dispatch name key x ∷ xs) c h m = (h.0, marked_run xs (changed_in_lives (dispatch name key x) c) h.1 m)
marked_run (mark ∷ xs) c h m = (tt, marked_run xs (changed_in_lives mark c) h.1 m)
marked_run (reset ∷ xs) c h m = (m.0, marked_run xs c h.1 m.1)

pub marked_front : (b : Bool) (xs ys : List LivesStep) → AreMarked b (xs ++ ys) → AreMarked b xs
marked_front b [] ys h = tt
marked_front b (post key m ∷ xs) ys h = marked_front b xs ys h
marked_front b (begins_sending name thrown ∷ xs) ys h = marked_front b xs ys h
marked_front b (begins_receiving name ∷ xs) ys h = marked_front b xs ys h
marked_front b (accept key m ∷ xs) ys h = marked_front b xs ys h
marked_front b (acknowledge key ∷ xs) ys h = marked_front b xs ys h
marked_front b (dispatch name key m ∷ xs) ys h = marked_front b xs ys h
marked_front b (mark ∷ xs) ys h = marked_front true xs ys h
marked_front b (reset ∷ xs) ys h = (h.0, marked_front b xs ys h.1)

-- steps among which no reset is
pub marked_append : (b : Bool) (xs ys : List LivesStep) → AreMarked b xs → ((d : Bool) → AreMarked d ys) → AreMarked b (xs ++ ys)
marked_append b [] ys h k = k b
marked_append b (post key m ∷ xs) ys h k = marked_append b xs ys h k
marked_append b (begins_sending name thrown ∷ xs) ys h k = marked_append b xs ys h k
marked_append b (begins_receiving name ∷ xs) ys h k = marked_append b xs ys h k
marked_append b (accept key m ∷ xs) ys h k = marked_append b xs ys h k
marked_append b (acknowledge key ∷ xs) ys h k = marked_append b xs ys h k
marked_append b (dispatch name key m ∷ xs) ys h k = marked_append b xs ys h k
marked_append b (mark ∷ xs) ys h k = marked_append true xs ys h k
marked_append b (reset ∷ xs) ys h k = (h.0, marked_append b xs ys h.1 k)

-- ---- by the channel without lives

module _ (c : Channel) where
  -- a step that marks nothing
  unmarked : (x : ChannelStep) → (channel.changed x c).marked ≡ c.marked → (b : Bool) → c.marked ≡ b → (channel.after_step x c).marked ≡ b
  unmarked x h b e = at c.marked ∙ e
    where
      at : (t : Bool) → (if t then c else channel.changed x c).marked ≡ c.marked
      at true = refl
      at false = h

  marked : (channel.after_step channel.mark c).marked ≡ true
  marked = at c.marked refl
    where
      at : (t : Bool) → c.marked ≡ t → (if t then c else channel.changed channel.mark c).marked ≡ true
      at true e = e
      at false e = refl

  where_reset : channel.MayTake channel.reset c → c.marked ≡ true
  where_reset (inl e) = e
  where_reset (inr none) = absurd none

-- of a run each reset comes in a marked channel
run_marked : (xs : List ChannelStep) (c : Channel) (b : Bool) → c.marked ≡ b → IsRun xs c → AreMarkedThere b xs
run_marked [] c b e run = tt
run_marked (channel.mark ∷ xs) c b e run = run_marked xs (channel.after_step channel.mark c) true (marked c) run.1
run_marked (channel.reset ∷ xs) c b e run = (sym e ∙ where_reset c run.0, run_marked xs (channel.after_step channel.reset c) b (unmarked c channel.reset refl b e) run.1)
run_marked (channel.post key m ∷ xs) c b e run = run_marked xs (channel.after_step (channel.post key m) c) b (unmarked c (channel.post key m) refl b e) run.1
run_marked (channel.accept key m ∷ xs) c b e run = run_marked xs (channel.after_step (channel.accept key m) c) b (unmarked c (channel.accept key m) refl b e) run.1
run_marked (channel.dispatch key m ∷ xs) c b e run = run_marked xs (channel.after_step (channel.dispatch key m) c) b (unmarked c (channel.dispatch key m) refl b e) run.1
run_marked (channel.acknowledge count ∷ xs) c b e run = run_marked xs (channel.after_step (channel.acknowledge count) c) b (unmarked c (channel.acknowledge count) refl b e) run.1

plain_marked : (xs : List ChannelStep) (b : Bool) → AreMarkedThere b xs → AreMarkedThere b (without_acknowledgements xs)
plain_marked [] b h = tt
plain_marked (channel.mark ∷ xs) b h = plain_marked xs true h
plain_marked (channel.reset ∷ xs) b h = (h.0, plain_marked xs b h.1)
plain_marked (channel.post key m ∷ xs) b h = plain_marked xs b h
plain_marked (channel.accept key m ∷ xs) b h = plain_marked xs b h
plain_marked (channel.dispatch key m ∷ xs) b h = plain_marked xs b h
plain_marked (channel.acknowledge count ∷ xs) b h = plain_marked xs b h

marked_with_lives : (xs : List LivesStep) (b : Bool) → AreMarkedThere b (without_lives xs) → AreMarked b xs
marked_with_lives [] b h = tt
marked_with_lives (mark ∷ xs) b h = marked_with_lives xs true h
marked_with_lives (reset ∷ xs) b h = (h.0, marked_with_lives xs b h.1)
marked_with_lives (post key m ∷ xs) b h = marked_with_lives xs b h
marked_with_lives (accept key m ∷ xs) b h = marked_with_lives xs b h
marked_with_lives (dispatch name key m ∷ xs) b h = marked_with_lives xs b h
marked_with_lives (begins_sending name thrown ∷ xs) b h = marked_with_lives xs b h
marked_with_lives (begins_receiving name ∷ xs) b h = marked_with_lives xs b h
marked_with_lives (acknowledge key ∷ xs) b h = marked_with_lives xs b h

fits_to_a_down : (f g : SideFacts) (order : List SideItem) (a b : State) → FitThroughout f g order a b → FitThroughout f g (before_down order) a b
fits_to_a_down f g [] a b h = tt
fits_to_a_down f g (near_item i ∷ order) a b h = at (marks_down i) (fits_to_a_down f g order (after f i a) b h.1)
  where
    at : (t : Bool) → FitThroughout f g (before_down order) (after f i a) b → FitThroughout f g (if t then [] else near_item i ∷ before_down order) a b
    at true rest = tt
    at false rest = (h.0, rest)
fits_to_a_down f g (far_item i ∷ order) a b h = at (marks_down i) (fits_to_a_down f g order a (after g i b) h.1)
  where
    at : (t : Bool) → FitThroughout f g (before_down order) a (after g i b) → FitThroughout f g (if t then [] else far_item i ∷ before_down order) a b
    at true rest = tt
    at false rest = (h.0, rest)

-- logs of nothing
abbrev silent : Logs
silent = record { fast = []; queued = [] }

pub entries_marked : ObservedIsARunToAMark → (f g : SideFacts) (order : List SideItem) → AreNodes f g → IsHistoryOfLives f g order → AreMarked false (shown_from f g order (start f) (start g))
entries_marked law f g order nodes h =
    let lawful : IsLawfulOrder f g order = record { near_lawful = h.near_lawful; far_lawful = h.far_lawful; fits = fits_to_a_down f g order (start f) (start g) h.fits } in
    let none : AreLogs f g order silent silent = record { near = λ kept key. (of_key key (handed (near_after f order).deliveries), refl); far = λ kept key. (of_key key (handed (far_after g order).deliveries), refl) } in
    let run = (law f g order silent silent nodes lawful none).near.run in
    let there = plain_marked (observed f g order silent) false (run_marked (observed f g order silent) new_channel false refl run) in
    marked_front false (shown_from f g order (start f) (start g)) []
    (marked_with_lives (observed_in_lives f g order silent) false (subst (AreMarkedThere false) (sym (show_the_same f g order silent)) there))
