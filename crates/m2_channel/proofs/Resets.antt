-- Where no reset is observed there is no trouble.
use Rattle.std.proofs.Common.{◌≡◌, ℕ, zero, suc, ◌+◌, Bool, true, false, ◌&&◌, ◌||◌, nat_lt, if◌then◌else◌, List, [], ◌∷◌, ◌++◌, length, map, Option, Some, None, refl, sym, arith, ◌∙◌}
use Rattle.std.specs.List.{AllByRecursion}
use Rattle.std.proofs.lemmas.Bool.{lt-ltb}
use Rattle.m2_dispatch.specs.m2_message.Message.{Content}
use Rattle.m2_dispatch.specs.m2_policy.declared.path.Key.{Key}
use Rattle.m2_never_reset.specs.m2_session.declared.event.Event.{Event}
use Rattle.m2_never_reset.specs.m2_session.declared.session.Session.{Session}
use Rattle.m2_never_reset.specs.m2_session.Steps.{step_of}
use Rattle.m2_never_reset.specs.Steps.{times}
use Rattle.m2_never_reset.specs.m2_journal.Items as item
use Rattle.m2_never_reset.specs.m2_journal.Items.{JournalItem}
use Rattle.m2_never_reset.specs.m2_journal.Plan.{Planned, to_post, to_dial, to_go_down}
use Rattle.m2_never_reset.specs.m2_journal.SideFacts.{SideFacts}
use Rattle.m2_never_reset.specs.m2_journal.State.{State}
use Rattle.m2_never_reset.specs.m2_journal.Steps.{after, event_at}
use Rattle.m2_never_reset.specs.LinkOf.{letters}
use Rattle.m2_never_reset.specs.Orders.{SideItem, near_item, far_item, near_items, far_items, trouble_in, IsNoFullReset}
use Rattle.m2_never_reset.specs.Trouble.{trouble_at, trouble_told}
use Rattle.m2_channel.specs.Channel.{ChannelStep, accept, IsNoReset}
use Rattle.m2_channel.specs.Observed.{brought_on, shown_by_sender, shown_by_reader, shown_down, shown_reset, resets_told, obeys_in_full, is_reset, shown_near, shown_far, shown_from}
use Rattle.m2_channel.specs.ObservedLaws.{ResetsAreObserved}
use Rattle.m2_channel.proofs.Through.{no_reset_at}
use Rattle.m2_dispatch.proofs.m2_lemmas.Lists.{all_back, all_front, all_append}
use Rattle.m2_dispatch.proofs.m2_lemmas.Booleans.{from_false_true, neither_of_or}

none_shown : (b : Bool) → AllByRecursion IsNoReset (shown_reset b) → b ≡ false
none_shown true h = absurd h.0
none_shown false h = refl

-- ---- no reset, no trouble

none_accepted : (n : ℕ) → nat_lt 0 n ≡ false → n ≡ 0
none_accepted zero e = refl
none_accepted (suc n) e = from_false_true (sym e ∙ lt-ltb 0 (suc n) (omega arith))

none_by : (discard back : Bool) (n : ℕ) → (discard || (back && nat_lt 0 n)) ≡ false → times discard + (if back then n else 0) ≡ 0
none_by true back n e = from_false_true (sym e)
none_by false true n e = let z = none_accepted n e in omega (arith, z)
none_by false false n e = refl

none_told : (o : Option Event) (s : Session) (n : ℕ) → resets_told o s n ≡ false → trouble_told o s n ≡ 0
none_told (Some e) s n h = none_by (step_of s e).effects.discard (step_of s e).effects.set_back n h
none_told None s n h = refl

obeys_none : (i : JournalItem) → obeys_in_full i ≡ false → IsNoFullReset i
obeys_none (item.obeyed true) e = from_false_true (sym e)
obeys_none (item.obeyed false) e = tt
obeys_none (item.post place planned) e = tt
obeys_none (item.dial planned) e = tt
obeys_none (item.opened k) e = tt
obeys_none (item.read k bytes) e = tt
obeys_none (item.wrote k bytes) e = tt
obeys_none (item.closed k broken) e = tt
obeys_none (item.judged k a n answer unread trail) e = tt
obeys_none (item.asked ident n) e = tt
obeys_none (item.numbered n) e = tt
obeys_none (item.accepted n key) e = tt
obeys_none (item.acked n) e = tt
obeys_none (item.down planned step) e = tt

no_trouble_at : (f : SideFacts) (i : JournalItem) (a b : State) → is_reset f i a b ≡ false → (trouble_at f i a b ≡ 0) × IsNoFullReset i
no_trouble_at f i a b e =
    let n = length (letters a.deliveries) + length (letters b.deliveries) in
    let it = neither_of_or (obeys_in_full i) (resets_told (event_at f i a) a.session n) e in
    (none_told (event_at f i a) a.session n it.1, obeys_none i it.0)

no_sum : (n m : ℕ) → n ≡ 0 → m ≡ 0 → n + m ≡ 0
no_sum n m a b = omega (arith, a, b)

-- ---- an order

abbrev NoneIn : (f g : SideFacts) → List SideItem → (near far : State) → Type 0
NoneIn f g order a b = (trouble_in f g order a b ≡ 0) × AllByRecursion IsNoFullReset (near_items order) × AllByRecursion IsNoFullReset (far_items order)

none_in : (f g : SideFacts) (order : List SideItem) (a b : State) → AllByRecursion IsNoReset (shown_from f g order a b) → NoneIn f g order a b
none_in f g [] a b h = (refl, tt, tt)
none_in f g (near_item i ∷ order) a b h =
    let own = all_front IsNoReset (shown_near f g i a b) (shown_from f g order (after f i a) b) h in
    let it = no_trouble_at f i a b (none_shown (is_reset f i a b) (all_back IsNoReset (shown_by_sender g i ++ shown_down i) (shown_reset (is_reset f i a b)) own)) in
    let rest = none_in f g order (after f i a) b (all_back IsNoReset (shown_near f g i a b) (shown_from f g order (after f i a) b) h) in
    (no_sum (trouble_at f i a b) (trouble_in f g order (after f i a) b) it.0 rest.0, (it.1, rest.1), rest.2)
none_in f g (far_item i ∷ order) a b h =
    let own = all_front IsNoReset (shown_far g i a b) (shown_from f g order a (after g i b)) h in
    let it = no_trouble_at g i b a (none_shown (is_reset g i b a) (all_back IsNoReset (shown_by_reader i b ++ shown_down i) (shown_reset (is_reset g i b a)) own)) in
    let rest = none_in f g order a (after g i b) (all_back IsNoReset (shown_far g i a b) (shown_from f g order a (after g i b)) h) in
    (no_sum (trouble_at g i b a) (trouble_in f g order a (after g i b)) it.0 rest.0, rest.1, (it.1, rest.2))

-- ---- no trouble, no reset

posts_none : (g : SideFacts) (place : ℕ) (o : Option Planned) → AllByRecursion IsNoReset (shown_by_sender g (item.post place o))
posts_none g place (Some (to_post m)) = (tt, tt)
posts_none g place (Some to_dial) = tt
posts_none g place (Some to_go_down) = tt
posts_none g place None = tt

sender_none : (g : SideFacts) (i : JournalItem) → AllByRecursion IsNoReset (shown_by_sender g i)
sender_none g (item.post place planned) = posts_none g place planned
sender_none g (item.acked n) = (tt, tt)
sender_none g (item.dial planned) = tt
sender_none g (item.opened k) = tt
sender_none g (item.read k bytes) = tt
sender_none g (item.wrote k bytes) = tt
sender_none g (item.closed k broken) = tt
sender_none g (item.judged k a n answer unread trail) = tt
sender_none g (item.asked ident n) = tt
sender_none g (item.numbered n) = tt
sender_none g (item.accepted n key) = tt
sender_none g (item.obeyed full) = tt
sender_none g (item.down planned step) = tt

accepts_none : (key : Key) (ms : List Content) → AllByRecursion IsNoReset (map (accept key) ms)
accepts_none key [] = tt
accepts_none key (m ∷ ms) = (tt, accepts_none key ms)

reader_none : (i : JournalItem) (s : State) → AllByRecursion IsNoReset (shown_by_reader i s)
reader_none (item.accepted n key) s = accepts_none key (brought_on s.last s.feed)
reader_none (item.post place planned) s = tt
reader_none (item.dial planned) s = tt
reader_none (item.opened k) s = tt
reader_none (item.read k bytes) s = tt
reader_none (item.wrote k bytes) s = tt
reader_none (item.closed k broken) s = tt
reader_none (item.judged k a n answer unread trail) s = tt
reader_none (item.asked ident n) s = tt
reader_none (item.numbered n) s = tt
reader_none (item.acked n) s = tt
reader_none (item.obeyed full) s = tt
reader_none (item.down planned step) s = tt

down_none : (i : JournalItem) → AllByRecursion IsNoReset (shown_down i)
down_none (item.down planned step) = (tt, tt)
down_none (item.post place planned) = tt
down_none (item.dial planned) = tt
down_none (item.opened k) = tt
down_none (item.read k bytes) = tt
down_none (item.wrote k bytes) = tt
down_none (item.closed k broken) = tt
down_none (item.judged k a n answer unread trail) = tt
down_none (item.asked ident n) = tt
down_none (item.numbered n) = tt
down_none (item.accepted n key) = tt
down_none (item.acked n) = tt
down_none (item.obeyed full) = tt

reset_none : (b : Bool) → b ≡ false → AllByRecursion IsNoReset (shown_reset b)
reset_none true e = from_false_true (sym e)
reset_none false e = tt

entry_none : (xs : List ChannelStep) (i : JournalItem) (b : Bool) → AllByRecursion IsNoReset xs → b ≡ false → AllByRecursion IsNoReset (xs ++ shown_down i ++ shown_reset b)
entry_none xs i b h e = all_append IsNoReset (xs ++ shown_down i) (shown_reset b) (all_append IsNoReset xs (shown_down i) h (down_none i)) (reset_none b e)

none_of_order : (f g : SideFacts) (order : List SideItem) (a b : State) → trouble_in f g order a b ≡ 0 →
    AllByRecursion IsNoFullReset (near_items order) → AllByRecursion IsNoFullReset (far_items order) → AllByRecursion IsNoReset (shown_from f g order a b)
none_of_order f g [] a b e near far = tt
none_of_order f g (near_item i ∷ order) a b e near far =
    all_append IsNoReset (shown_near f g i a b) (shown_from f g order (after f i a) b)
    (entry_none (shown_by_sender g i) i (is_reset f i a b) (sender_none g i) (no_reset_at f i a b near.0 (omega (arith, e))))
    (none_of_order f g order (after f i a) b (omega (arith, e)) near.1 far)
none_of_order f g (far_item i ∷ order) a b e near far =
    all_append IsNoReset (shown_far g i a b) (shown_from f g order a (after g i b))
    (entry_none (shown_by_reader i b) i (is_reset g i b a) (reader_none i b) (no_reset_at g i b a far.0 (omega (arith, e))))
    (none_of_order f g order a (after g i b) (omega (arith, e)) near far.1)

pub resets_are : ResetsAreObserved
resets_are f g order a b = record {
  trouble = λ h. (none_in f g order a b h).0;
  near_obeys = λ h. (none_in f g order a b h).1;
  far_obeys = λ h. (none_in f g order a b h).2;
  none = λ e near far. none_of_order f g order a b e near far;
}
