-- The observed run of a history of two lossless sides is a run of the channel, and messages come over as they were posted.
use Rattle.std.proofs.Common.{◌≡◌, ℕ, suc, ◌≤◌, Bool, true, false, ◌&&◌, ◌==◌, if◌then◌else◌, List, [], ◌∷◌, ◌++◌, length, map, inr, refl, sym, ap, subst, ◌∙◌, append-nil, append_assoc}
use Rattle.std.specs.List.{AllByRecursion}
use Rattle.m2_dispatch.specs.Heard as heard
use Rattle.m2_dispatch.specs.Heard.{Heard, is_key}
use Rattle.m2_dispatch.specs.m2_message.Message.{Content, unnumbered}
use Rattle.m2_dispatch.specs.m2_policy.declared.path.Key.{Key}
use Rattle.m2_never_reset.specs.Order.{AreFirstOf}
use Rattle.m2_never_reset.specs.m2_journal.SideFacts.{SideFacts}
use Rattle.m2_never_reset.specs.m2_journal.State as state
use Rattle.m2_never_reset.specs.m2_journal.State.{Delivery, State, start}
use Rattle.m2_never_reset.specs.Orders as orders
use Rattle.m2_never_reset.specs.Orders.{SideItem, near_items, IsHistory, near_after, far_after, AreNodes, posts_in, LosslessIsNeverReset}
use Rattle.m2_channel.specs.Channel as channel
use Rattle.m2_channel.specs.Channel.{KeyedMessage, keyed, Channel, ChannelStep, dispatch, new_channel, changed, after_step, after_steps, IsRun, IsNoMark, posts, acceptances, dispatches}
use Rattle.m2_channel.specs.ChannelLaws.{ComeInOrder}
use Rattle.m2_channel.specs.Observed.{Logs, all_of, shown_from, observed, heard_from, dispatched_from, turned, handed, IsLetter, IsNoDiscard}
use Rattle.m2_channel.specs.ObservedLaws.{AreLogsOf, IsLogOf, posted_to, IsBrought, ObservedIsARun}
use Rattle.m2_channel.proofs.Keys.{key_self, next_is, of_key-append}
use Rattle.m2_channel.proofs.Runs.{unmarked_step, leaves, run_append, after_append, unmarked_deliver}
use Rattle.m2_channel.proofs.Counts.{done_is_all}
use Rattle.m2_channel.proofs.Orders.{history_turned, nodes_turned, far_after_turned}
use Rattle.m2_channel.proofs.Through.{Stands, posted_keys, shows_all}
use Rattle.m2_dispatch.proofs.m2_lemmas.Lists.{all_append}

-- ---- what a log has of a peer

pub heard_keys : (peer : ℕ) (key : Key) (log : List Heard) → channel.of_key key (heard_from peer log) ≡ map unnumbered (heard.of_key peer key log)
heard_keys peer key [] = refl
heard_keys peer key (heard.message p k n life m ∷ log) = at (p == peer) (heard_keys peer key log)
  where
    of_it : (c : Bool) → channel.of_key key (heard_from peer log) ≡ map unnumbered (heard.of_key peer key log) →
        (if c then unnumbered m ∷ channel.of_key key (heard_from peer log) else channel.of_key key (heard_from peer log))
        ≡ map unnumbered (if c then m ∷ heard.of_key peer key log else heard.of_key peer key log)
    of_it true e = ap (λ l. unnumbered m ∷ l) e
    of_it false e = e

    at : (b : Bool) → channel.of_key key (heard_from peer log) ≡ map unnumbered (heard.of_key peer key log) →
        channel.of_key key (if b then keyed k m ∷ heard_from peer log else heard_from peer log)
        ≡ map unnumbered (if b && is_key k key then m ∷ heard.of_key peer key log else heard.of_key peer key log)
    at true e = of_it (is_key k key) e
    at false e = e
heard_keys peer key (heard.reset p ∷ log) = heard_keys peer key log

-- ---- its dispatches

abbrev steps_of : List KeyedMessage → List ChannelStep
steps_of xs = map (λ x. dispatch x.key x.message) xs

none_posted : (xs : List KeyedMessage) → posts (steps_of xs) ≡ []
none_posted [] = refl
none_posted (x ∷ xs) = none_posted xs

none_accepted : (xs : List KeyedMessage) → acceptances (steps_of xs) ≡ []
none_accepted [] = refl
none_accepted (x ∷ xs) = none_accepted xs

none_marked : (xs : List KeyedMessage) → AllByRecursion IsNoMark (steps_of xs)
none_marked [] = tt
none_marked (x ∷ xs) = (tt, none_marked xs)

step_keeps : (x : KeyedMessage) (c : Channel) → (after_step (dispatch x.key x.message) c).acknowledged ≡ c.acknowledged
step_keeps x c = at c.marked
  where
    at : (b : Bool) → (if b then c else changed (dispatch x.key x.message) c).acknowledged ≡ c.acknowledged
    at true = refl
    at false = refl

keeps_acknowledged : (xs : List KeyedMessage) (c : Channel) → (after_steps (steps_of xs) c).acknowledged ≡ c.acknowledged
keeps_acknowledged [] c = refl
keeps_acknowledged (x ∷ xs) c = keeps_acknowledged xs (after_step (dispatch x.key x.message) c) ∙ step_keeps x c

all_dispatched : (peer : ℕ) (log : List Heard) → dispatches (dispatched_from peer log) ≡ heard_from peer log
all_dispatched peer [] = refl
all_dispatched peer (heard.message p k n life m ∷ log) = at (p == peer) (all_dispatched peer log)
  where
    at : (b : Bool) → dispatches (dispatched_from peer log) ≡ heard_from peer log →
        dispatches (steps_of (if b then keyed k m ∷ heard_from peer log else heard_from peer log)) ≡ (if b then keyed k m ∷ heard_from peer log else heard_from peer log)
    at true e = ap (λ l. keyed k m ∷ l) e
    at false e = e
all_dispatched peer (heard.reset p ∷ log) = all_dispatched peer log

-- ---- they may be taken

-- of each key what was dispatched, and behind it what the log has, is the first ones of what was accepted
abbrev pub Follows : (peer : ℕ) → List Heard → Channel → Type 0
Follows peer log c = (key : Key) → AreFirstOf (channel.of_key key c.dispatched ++ map unnumbered (heard.of_key peer key log)) (channel.of_key key c.accepted)

first_of_more : (done rest all : List Content) (m : Content) → AreFirstOf (done ++ m ∷ rest) all → AreFirstOf (done ++ m ∷ []) all
first_of_more done rest all m (more, e) =
    (rest ++ more, e ∙ ap (λ l. l ++ more) (sym (append_assoc done (m ∷ []) rest)) ∙ append_assoc (done ++ m ∷ []) rest more)

-- a message that is heard
hears_one : (peer : ℕ) (k : Key) (m : Content) (log : List Heard) (c : Channel) → c.marked ≡ false →
    ((key : Key) → AreFirstOf (channel.of_key key c.dispatched ++ map unnumbered (if is_key k key then m ∷ heard.of_key peer key log else heard.of_key peer key log)) (channel.of_key key c.accepted)) →
    ((d : Channel) → d.marked ≡ false → Follows peer log d → IsRun (dispatched_from peer log) d) →
    IsRun (dispatch k (unnumbered m) ∷ dispatched_from peer log) c
hears_one peer k m log c unmarked h on =
    let x = dispatch k (unnumbered m) in
    let rest = map unnumbered (heard.of_key peer k log) in
    let own = subst (λ b. AreFirstOf (channel.of_key k c.dispatched ++ map unnumbered (if b then m ∷ heard.of_key peer k log else heard.of_key peer k log)) (channel.of_key k c.accepted)) (key_self k) (h k) in
    let first = first_of_more (channel.of_key k c.dispatched) rest (channel.of_key k c.accepted) (unnumbered m) own in
    let behind : Follows peer log (changed x c) = λ key. subst (λ l. AreFirstOf (l ++ map unnumbered (heard.of_key peer key log)) (channel.of_key key c.accepted))
    (sym (of_key-append key c.dispatched (keyed k m ∷ []))) (at key (is_key k key) (h key)) in (
      inr (next_is (channel.of_key k c.dispatched) (channel.of_key k c.accepted) (unnumbered m) first),
      subst (IsRun (dispatched_from peer log)) (sym (unmarked_step x c unmarked)) (on (changed x c) unmarked behind),
    )
  where
    at : (key : Key) (b : Bool) → AreFirstOf (channel.of_key key c.dispatched ++ map unnumbered (if b then m ∷ heard.of_key peer key log else heard.of_key peer key log)) (channel.of_key key c.accepted) →
        AreFirstOf ((channel.of_key key c.dispatched ++ (if b then unnumbered m ∷ [] else [])) ++ map unnumbered (heard.of_key peer key log)) (channel.of_key key c.accepted)
    at key true e = subst (λ l. AreFirstOf l (channel.of_key key c.accepted)) (sym (append_assoc (channel.of_key key c.dispatched) (unnumbered m ∷ []) (map unnumbered (heard.of_key peer key log)))) e
    at key false e = subst (λ l. AreFirstOf (l ++ map unnumbered (heard.of_key peer key log)) (channel.of_key key c.accepted)) (sym (append-nil (channel.of_key key c.dispatched))) e

pub dispatch_run : (peer : ℕ) (log : List Heard) (c : Channel) → c.marked ≡ false → Follows peer log c → IsRun (dispatched_from peer log) c
dispatch_run peer [] c unmarked h = tt
dispatch_run peer (heard.message p k n life m ∷ log) c unmarked h = at (p == peer) h (λ d e g. dispatch_run peer log d e g)
  where
    at : (b : Bool) →
        ((key : Key) → AreFirstOf (channel.of_key key c.dispatched ++ map unnumbered (if b && is_key k key then m ∷ heard.of_key peer key log else heard.of_key peer key log)) (channel.of_key key c.accepted)) →
        ((d : Channel) → d.marked ≡ false → Follows peer log d → IsRun (dispatched_from peer log) d) →
        IsRun (steps_of (if b then keyed k m ∷ heard_from peer log else heard_from peer log)) c
    at true g on = hears_one peer k m log c unmarked g on
    at false g on = on c unmarked g
dispatch_run peer (heard.reset p ∷ log) c unmarked h = dispatch_run peer log c unmarked h

no_discards : (ds : List Delivery) → AllByRecursion IsLetter ds → AllByRecursion IsNoDiscard ds
no_discards [] h = tt
no_discards (state.letter n life k m ∷ ds) h = (tt, no_discards ds h.1)
no_discards (state.discarded ∷ ds) h = absurd h.0
no_discards (state.remote_reset ∷ ds) h = absurd h.0

-- where the channel stands by two journals, of which this is the log
pub follows : (g : SideFacts) (peer : ℕ) (log : List Heard) (ps : List Content) (a b : State) (c : Channel) → Stands g ps a b c → IsLogOf peer log b → Follows peer log c
follows g peer log ps a b c it is_log key =
    subst (λ l. AreFirstOf (channel.of_key key l ++ map unnumbered (heard.of_key peer key log)) (channel.of_key key c.accepted)) (sym it.dispatched)
    (subst (λ l. AreFirstOf (map unnumbered (heard.of_key peer key log)) (channel.of_key key l)) (sym it.accepted) (is_log (no_discards b.deliveries it.letters_only) key))

-- ---- all of it

posted_count : (g : SideFacts) (ps : List Content) → length (posted_to g ps) ≡ length ps
posted_count g [] = refl
posted_count g (m ∷ ps) = ap suc (posted_count g ps)

pub brought : LosslessIsNeverReset → (f g : SideFacts) (order : List SideItem) (logs : Logs) → AreNodes f g → IsHistory f g order →
    AreLogsOf f.node.number logs (far_after g order) → IsBrought f g order logs
brought never f g order logs nodes history is_log =
    let peer = f.node.number in
    let log = all_of logs in
    let ps = posts_in (near_items order) in
    let b = far_after g order in
    let xs = shown_from f g order (start f) (start g) in
    let ys = dispatched_from peer log in
    let all = observed f g order logs in
    let shows = shows_all never f g nodes order history in
    let c = after_steps xs new_channel in
    let it = shows.stands in
    let run = run_append xs ys new_channel shows.run (dispatch_run peer log c it.marked (follows g peer log ps (near_after f order) b c it is_log)) in
    let no_mark = all_append IsNoMark xs ys shows.no_mark (none_marked (heard_from peer log)) in
    let delivered = unmarked_deliver all run no_mark in
    let whole = leaves all new_channel refl no_mark in
    let behind = leaves ys c it.marked (none_marked (heard_from peer log)) in
    let end = after_append xs ys new_channel in
    let posted : posts all ≡ posted_to g ps =
    sym whole.posted ∙ ap (λ d. d.posted) end ∙ behind.posted ∙ ap (λ l. c.posted ++ l) (none_posted (heard_from peer log)) ∙ append-nil c.posted ∙ it.posted in
    let accepted : acceptances all ≡ handed b.deliveries =
    sym whole.accepted ∙ ap (λ d. d.accepted) end ∙ behind.accepted ∙ ap (λ l. c.accepted ++ l) (none_accepted (heard_from peer log)) ∙ append-nil c.accepted ∙ it.accepted in
    let dispatched : dispatches all ≡ heard_from peer log =
    sym whole.dispatched ∙ ap (λ d. d.dispatched) end ∙ behind.dispatched ∙ ap (λ l. l ++ dispatches ys) it.dispatched ∙ all_dispatched peer log in
    let over : ComeInOrder (heard_from peer log) (posted_to g ps) =
    subst (λ l. ComeInOrder l (posted_to g ps)) dispatched (subst (λ l. ComeInOrder (dispatches all) l) posted delivered.over) in
    let counts = done_is_all (heard_from peer log) (posted_to g ps) over in
    record {
      run = run;
      no_mark = no_mark;
      delivered = delivered;
      posts = posted;
      acceptances = accepted;
      dispatches = dispatched;
      acknowledged = ap (λ d. d.acknowledged) end ∙ keeps_acknowledged (heard_from peer log) c ∙ it.acknowledged;
      letters_only = it.letters_only;
      as_posted = record {
        in_order = λ key. subst (λ l. AreFirstOf l (orders.of_key g key (map unnumbered ps))) (heard_keys peer key log)
            (subst (λ l. AreFirstOf (channel.of_key key (heard_from peer log)) l) (posted_keys g key ps) (over key));
        few = subst (λ n. length (heard_from peer log) ≤ n) (posted_count g ps) counts.few;
        done = λ e key. sym (heard_keys peer key log) ∙ counts.done (e ∙ sym (posted_count g ps)) key ∙ posted_keys g key ps;
      };
    }

pub observed_is : LosslessIsNeverReset → ObservedIsARun
observed_is never f g order near_logs far_logs nodes history logs = record {
  near = brought never f g order far_logs nodes history logs.far;
  far = brought never g f (turned order) near_logs (nodes_turned f g nodes) (history_turned f g order history)
      (subst (AreLogsOf g.node.number near_logs) (sym (far_after_turned f order)) logs.near);
}
