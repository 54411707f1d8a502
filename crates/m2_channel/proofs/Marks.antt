-- An order in which a side is marked down: before that it is a history, and behind it the channel is marked.
use Rattle.std.proofs.Common.{◌≡◌, Bool, true, false, ◌⊎◌, inl, inr, if◌then◌else◌, List, [], ◌∷◌, ◌++◌, refl, sym, ap, subst, ◌∙◌, append-nil, append_assoc}
use Rattle.std.specs.List.{AllByRecursion}
use Rattle.m2_never_reset.specs.m2_journal.Items as item
use Rattle.m2_never_reset.specs.m2_journal.Items.{JournalItem}
use Rattle.m2_never_reset.specs.m2_journal.Replay.{AreLawful, after_items}
use Rattle.m2_never_reset.specs.m2_journal.SideFacts.{SideFacts}
use Rattle.m2_never_reset.specs.m2_journal.State.{State, start}
use Rattle.m2_never_reset.specs.m2_journal.Steps.{after}
use Rattle.m2_never_reset.specs.PairLaws.{IsNoDown}
use Rattle.m2_never_reset.specs.Orders.{SideItem, near_item, far_item, near_items, far_items, FitThroughout, IsHistory, near_after, far_after, AreNodes, posts_in, LosslessIsNeverReset}
use Rattle.m2_channel.specs.Channel.{Channel, ChannelStep, mark, new_channel, changed, after_step, after_steps, IsRun}
use Rattle.m2_channel.specs.Observed.{Logs, all_of, is_reset, shown_reset, shown_near, shown_far, shown_from, dispatched_from, observed, turned, marks_down, before_down}
use Rattle.m2_channel.specs.ObservedLaws.{AreLogsOf, IsLogOf, IsLawfulOrder, IsBroughtToAMark, ObservedIsARunToAMark}
use Rattle.m2_channel.proofs.Runs.{run_append, deliver}
use Rattle.m2_channel.proofs.Orders.{lawful_first, fit_turned, near_turned, far_turned, far_after_turned, nodes_turned}
use Rattle.m2_channel.proofs.Through.{shows_all}
use Rattle.m2_channel.proofs.Observing.{dispatch_run, follows, observed_is}
use Rattle.m2_never_reset.proofs.Sided.{near_append, far_append}

-- ---- up to the first mark-down

abbrev IsDown : JournalItem → Type 0
IsDown (item.down planned step) = Unit {0}
IsDown _ = ⊥

-- an entry that marks no side down
abbrev IsUp : JournalItem → Type 0
IsUp i = (marks_down i ≡ false) × IsNoDown i

down_or_not : (i : JournalItem) → IsUp i ⊎ ((marks_down i ≡ true) × IsDown i)
down_or_not (item.down planned step) = inr (refl, tt)
down_or_not (item.post place planned) = inl (refl, tt)
down_or_not (item.dial planned) = inl (refl, tt)
down_or_not (item.opened k) = inl (refl, tt)
down_or_not (item.read k bytes) = inl (refl, tt)
down_or_not (item.wrote k bytes) = inl (refl, tt)
down_or_not (item.closed k broken) = inl (refl, tt)
down_or_not (item.judged k a n answer unread trail) = inl (refl, tt)
down_or_not (item.asked ident n) = inl (refl, tt)
down_or_not (item.numbered n) = inl (refl, tt)
down_or_not (item.accepted n key) = inl (refl, tt)
down_or_not (item.acked n) = inl (refl, tt)
down_or_not (item.obeyed full) = inl (refl, tt)

abbrev BeginsDown : List SideItem → Type 0
BeginsDown [] = Unit {0}
BeginsDown (near_item i ∷ order) = IsDown i
BeginsDown (far_item i ∷ order) = IsDown i

record ToADown (order : List SideItem) : Type 0 where
  before : List SideItem
  rest : List SideItem
  whole : order ≡ before ++ rest
  first : before ≡ before_down order
  near_up : AllByRecursion IsNoDown (near_items before)
  far_up : AllByRecursion IsNoDown (far_items before)
  begins : BeginsDown rest

to_a_down : (order : List SideItem) → ToADown order
to_a_down [] = record { before = []; rest = []; whole = refl; first = refl; near_up = tt; far_up = tt; begins = tt }
to_a_down (near_item i ∷ order) = at (down_or_not i) (to_a_down order)
  where
    at : IsUp i ⊎ ((marks_down i ≡ true) × IsDown i) → ToADown order → ToADown (near_item i ∷ order)
    at (inl up) it = record {
      before = near_item i ∷ it.before;
      rest = it.rest;
      whole = ap (λ l. near_item i ∷ l) it.whole;
      first = ap (λ l. near_item i ∷ l) it.first ∙ sym (ap (λ b. if b then [] else near_item i ∷ before_down order) up.0);
      near_up = (up.1, it.near_up);
      far_up = it.far_up;
      begins = it.begins;
    }
    at (inr down) it = record {
      before = [];
      rest = near_item i ∷ order;
      whole = refl;
      first = sym (ap (λ b. if b then [] else near_item i ∷ before_down order) down.0);
      near_up = tt;
      far_up = tt;
      begins = down.1;
    }
to_a_down (far_item i ∷ order) = at (down_or_not i) (to_a_down order)
  where
    at : IsUp i ⊎ ((marks_down i ≡ true) × IsDown i) → ToADown order → ToADown (far_item i ∷ order)
    at (inl up) it = record {
      before = far_item i ∷ it.before;
      rest = it.rest;
      whole = ap (λ l. far_item i ∷ l) it.whole;
      first = ap (λ l. far_item i ∷ l) it.first ∙ sym (ap (λ b. if b then [] else far_item i ∷ before_down order) up.0);
      near_up = it.near_up;
      far_up = (up.1, it.far_up);
      begins = it.begins;
    }
    at (inr down) it = record {
      before = [];
      rest = far_item i ∷ order;
      whole = refl;
      first = sym (ap (λ b. if b then [] else far_item i ∷ before_down order) down.0);
      near_up = tt;
      far_up = tt;
      begins = down.1;
    }

-- ---- behind it

marked_step : (x : ChannelStep) (c : Channel) → c.marked ≡ true → after_step x c ≡ c
marked_step x c e = ap (λ b. if b then c else changed x c) e

marked_run : (xs : List ChannelStep) (c : Channel) → c.marked ≡ true → IsRun xs c
marked_run [] c e = tt
marked_run (x ∷ xs) c e = (inl e, subst (IsRun xs) (sym (marked_step x c e)) (marked_run xs c e))

marks : (c : Channel) → (after_step mark c).marked ≡ true
marks c = at c.marked refl
  where
    at : (b : Bool) → c.marked ≡ b → (if b then c else changed mark c).marked ≡ true
    at true e = e
    at false e = refl

mark_run : (xs : List ChannelStep) (c : Channel) → IsRun (mark ∷ xs) c
mark_run xs c = (inr tt, marked_run xs (after_step mark c) (marks c))

near_marks : (f g : SideFacts) (i : JournalItem) (a b : State) (more : List ChannelStep) (c : Channel) → IsDown i → IsRun (shown_near f g i a b ++ more) c
near_marks f g (item.down planned step) a b more c down = mark_run (shown_reset (is_reset f (item.down planned step) a b) ++ more) c
near_marks f g (item.post place planned) a b more c down = absurd down
near_marks f g (item.dial planned) a b more c down = absurd down
near_marks f g (item.opened k) a b more c down = absurd down
near_marks f g (item.read k bytes) a b more c down = absurd down
near_marks f g (item.wrote k bytes) a b more c down = absurd down
near_marks f g (item.closed k broken) a b more c down = absurd down
near_marks f g (item.judged k ask n answer unread trail) a b more c down = absurd down
near_marks f g (item.asked ident n) a b more c down = absurd down
near_marks f g (item.numbered n) a b more c down = absurd down
near_marks f g (item.accepted n key) a b more c down = absurd down
near_marks f g (item.acked n) a b more c down = absurd down
near_marks f g (item.obeyed full) a b more c down = absurd down

far_marks : (g : SideFacts) (i : JournalItem) (a b : State) (more : List ChannelStep) (c : Channel) → IsDown i → IsRun (shown_far g i a b ++ more) c
far_marks g (item.down planned step) a b more c down = mark_run (shown_reset (is_reset g (item.down planned step) b a) ++ more) c
far_marks g (item.post place planned) a b more c down = absurd down
far_marks g (item.dial planned) a b more c down = absurd down
far_marks g (item.opened k) a b more c down = absurd down
far_marks g (item.read k bytes) a b more c down = absurd down
far_marks g (item.wrote k bytes) a b more c down = absurd down
far_marks g (item.closed k broken) a b more c down = absurd down
far_marks g (item.judged k ask n answer unread trail) a b more c down = absurd down
far_marks g (item.asked ident n) a b more c down = absurd down
far_marks g (item.numbered n) a b more c down = absurd down
far_marks g (item.accepted n key) a b more c down = absurd down
far_marks g (item.acked n) a b more c down = absurd down
far_marks g (item.obeyed full) a b more c down = absurd down

-- ---- both

shown_append : (f g : SideFacts) (xs ys : List SideItem) (a b : State) →
    shown_from f g (xs ++ ys) a b ≡ shown_from f g xs a b ++ shown_from f g ys (after_items f (near_items xs) a) (after_items g (far_items xs) b)
shown_append f g [] ys a b = refl
shown_append f g (near_item i ∷ xs) ys a b =
    ap (λ l. shown_near f g i a b ++ l) (shown_append f g xs ys (after f i a) b)
    ∙ sym (append_assoc (shown_near f g i a b) (shown_from f g xs (after f i a) b) _)
shown_append f g (far_item i ∷ xs) ys a b =
    ap (λ l. shown_far g i a b ++ l) (shown_append f g xs ys a (after g i b))
    ∙ sym (append_assoc (shown_far g i a b) (shown_from f g xs a (after g i b)) _)

history_before : (f g : SideFacts) (order : List SideItem) (it : ToADown order) → IsLawfulOrder f g order → IsHistory f g it.before
history_before f g order it h = record {
  near_lawful = lawful_first f (near_items it.before) (near_items it.rest) (start f)
      (subst (λ is. AreLawful f is (start f)) (ap near_items it.whole ∙ near_append it.before it.rest) h.near_lawful);
  far_lawful = lawful_first g (far_items it.before) (far_items it.rest) (start g)
      (subst (λ is. AreLawful g is (start g)) (ap far_items it.whole ∙ far_append it.before it.rest) h.far_lawful);
  near_not_down = it.near_up;
  far_not_down = it.far_up;
  fits = subst (λ l. FitThroughout f g l (start f) (start g)) (sym it.first) h.fits;
}

-- the steps of the first entries, then those of the others and the dispatches
run_from : (f g : SideFacts) (before rest : List SideItem) (more : List ChannelStep) → IsRun (shown_from f g before (start f) (start g)) new_channel →
    IsRun (shown_from f g rest (near_after f before) (far_after g before) ++ more) (after_steps (shown_from f g before (start f) (start g)) new_channel) →
    IsRun (shown_from f g (before ++ rest) (start f) (start g) ++ more) new_channel
run_from f g before rest more first run =
    let xs = shown_from f g before (start f) (start g) in
    let ys = shown_from f g rest (near_after f before) (far_after g before) in
    subst (λ l. IsRun (l ++ more) new_channel) (sym (shown_append f g before rest (start f) (start g)))
    (subst (λ l. IsRun l new_channel) (sym (append_assoc xs ys more)) (run_append xs (ys ++ more) new_channel first run))

begins_run : (f g : SideFacts) (rest : List SideItem) (a b : State) (more : List ChannelStep) (c : Channel) → BeginsDown rest → (rest ≡ [] → IsRun more c) →
    IsRun (shown_from f g rest a b ++ more) c
begins_run f g [] a b more c begins none = none refl
begins_run f g (near_item i ∷ rest) a b more c begins none =
    subst (λ l. IsRun l c) (sym (append_assoc (shown_near f g i a b) (shown_from f g rest (after f i a) b) more))
    (near_marks f g i a b (shown_from f g rest (after f i a) b ++ more) c begins)
begins_run f g (far_item i ∷ rest) a b more c begins none =
    subst (λ l. IsRun l c) (sym (append_assoc (shown_far g i a b) (shown_from f g rest a (after g i b)) more))
    (far_marks g i a b (shown_from f g rest a (after g i b) ++ more) c begins)

observed_to : LosslessIsNeverReset → (f g : SideFacts) (order : List SideItem) (logs : Logs) → AreNodes f g → IsLawfulOrder f g order →
    AreLogsOf f.node.number logs (far_after g order) → IsBroughtToAMark f g order logs
observed_to never f g order logs nodes lawful is_log =
    let it = to_a_down order in
    let log = all_of logs in
    let more = dispatched_from f.node.number log in
    let history = history_before f g order it lawful in
    let shows = shows_all never f g nodes it.before history in
    let c = after_steps (shown_from f g it.before (start f) (start g)) new_channel in
    let run : IsRun (observed f g order logs) new_channel =
    subst (λ l. IsRun (shown_from f g l (start f) (start g) ++ more) new_channel) (sym it.whole)
    (run_from f g it.before it.rest more shows.run
    (begins_run f g it.rest (near_after f it.before) (far_after g it.before) more c it.begins (λ none.
    dispatch_run f.node.number log c shows.stands.marked
    (follows g f.node.number log (posts_in (near_items it.before)) (near_after f it.before) (far_after g it.before) c shows.stands
    (subst (λ l. IsLogOf f.node.number log (far_after g l)) (it.whole ∙ ap (λ l. it.before ++ l) none ∙ append-nil it.before) is_log))))) in
    record { run = run; delivered = deliver (observed f g order logs) run }

-- turned round it comes as far
down_turned : (order : List SideItem) → turned (before_down order) ≡ before_down (turned order)
down_turned [] = refl
down_turned (near_item i ∷ order) = at (marks_down i) (down_turned order)
  where
    at : (b : Bool) → turned (before_down order) ≡ before_down (turned order) → turned (if b then [] else near_item i ∷ before_down order) ≡ (if b then [] else far_item i ∷ before_down (turned order))
    at true e = refl
    at false e = ap (λ l. far_item i ∷ l) e
down_turned (far_item i ∷ order) = at (marks_down i) (down_turned order)
  where
    at : (b : Bool) → turned (before_down order) ≡ before_down (turned order) → turned (if b then [] else far_item i ∷ before_down order) ≡ (if b then [] else near_item i ∷ before_down (turned order))
    at true e = refl
    at false e = ap (λ l. near_item i ∷ l) e

order_turned : (f g : SideFacts) (order : List SideItem) → IsLawfulOrder f g order → IsLawfulOrder g f (turned order)
order_turned f g order h = record {
  near_lawful = subst (λ is. AreLawful g is (start g)) (sym (near_turned order)) h.far_lawful;
  far_lawful = subst (λ is. AreLawful f is (start f)) (sym (far_turned order)) h.near_lawful;
  fits = subst (λ l. FitThroughout g f l (start g) (start f)) (down_turned order) (fit_turned f g (before_down order) (start f) (start g) h.fits);
}

before_is_history : (f g : SideFacts) (order : List SideItem) → IsLawfulOrder f g order → IsHistory f g (before_down order)
before_is_history f g order lawful = let it = to_a_down order in subst (IsHistory f g) it.first (history_before f g order it lawful)

pub to_a_mark : LosslessIsNeverReset → ObservedIsARunToAMark
to_a_mark never f g order near_logs far_logs nodes lawful logs = record {
  near = observed_to never f g order far_logs nodes lawful logs.far;
  far = observed_to never g f (turned order) near_logs (nodes_turned f g nodes) (order_turned f g order lawful)
      (subst (AreLogsOf g.node.number near_logs) (sym (far_after_turned f order)) logs.near);
  before = before_is_history f g order lawful;
  dispatched = λ near far are. observed_is never f g (before_down order) near far nodes (before_is_history f g order lawful) are;
}
