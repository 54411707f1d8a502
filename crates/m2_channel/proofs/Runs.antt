-- Runs of the channel.
use Rattle.std.proofs.Common.{◌≡◌, ℕ, ◌≤◌, ◌⊎◌, inl, inr, max, Bool, true, false, if◌then◌else◌, List, [], ◌∷◌, ◌++◌, length, length-append, refl, sym, ap, subst, ◌∙◌, arith, append-nil, append_assoc}
use Rattle.std.specs.List.{AllByRecursion}
use Rattle.m2_channel.specs.Channel.{Channel, ChannelStep, post, accept, dispatch, acknowledge, mark, reset, new_channel, keyed}
use Rattle.m2_channel.specs.Channel.{IsLawful, MayTake, changed, after_step, after_steps, IsRun, IsNoMark, IsNoReset, unmarked, posts, acceptances, dispatches}
use Rattle.m2_channel.specs.ChannelLaws.{ComeInOrder, IsOrdered, RunsKeepOrder, RunsDeliver, UnmarkedRunsDeliver}
use Rattle.m2_channel.proofs.Keys.{in_order_over, in_order_behind, in_order_next}
use Rattle.m2_dispatch.proofs.m2_lemmas.Lists.{all_front}
use Rattle.m2_dispatch.proofs.m2_lemmas.Booleans.{from_false_true}

-- ---- one step

longer : {X : Type 0} (n : ℕ) (xs ys : List X) → n ≤ length xs → n ≤ length (xs ++ ys)
longer n xs ys h = let e = length-append xs ys in omega (arith, h, e)

greater : (n m l : ℕ) → n ≤ l → m ≤ l → max n m ≤ l
greater n m l h k = omega (arith, h, k)

changes : (x : ChannelStep) (c : Channel) → IsOrdered c → IsLawful x c → IsOrdered (changed x c)
changes (post key m) c h may = record {
  dispatched = h.dispatched;
  accepted = in_order_behind c.accepted c.posted (keyed key m ∷ []) h.accepted;
  acknowledged = h.acknowledged;
}
changes (accept key m) c h may = record {
  dispatched = in_order_behind c.dispatched c.accepted (keyed key m ∷ []) h.dispatched;
  accepted = in_order_next c.accepted c.posted key m h.accepted may;
  acknowledged = longer c.acknowledged c.accepted (keyed key m ∷ []) h.acknowledged;
}
changes (dispatch key m) c h may = record {
  dispatched = in_order_next c.dispatched c.accepted key m h.dispatched may;
  accepted = h.accepted;
  acknowledged = h.acknowledged;
}
changes (acknowledge count) c h may = record {
  dispatched = h.dispatched;
  accepted = h.accepted;
  acknowledged = greater c.acknowledged count (length c.accepted) h.acknowledged may;
}
changes mark c h may = record { dispatched = h.dispatched; accepted = h.accepted; acknowledged = h.acknowledged }
changes reset c h may = h

steps_on : (x : ChannelStep) (c : Channel) → IsOrdered c → MayTake x c → IsOrdered (after_step x c)
steps_on x c h may = at c.marked may
  where
    at : (b : Bool) → (b ≡ true) ⊎ IsLawful x c → IsOrdered (if b then c else changed x c)
    at true so = h
    at false (inl e) = from_false_true e
    at false (inr lawful) = changes x c h lawful

-- ---- many

runs_on : (xs : List ChannelStep) (c : Channel) → IsOrdered c → IsRun xs c → IsOrdered (after_steps xs c)
runs_on [] c h run = h
runs_on (x ∷ xs) c h run = runs_on xs (after_step x c) (steps_on x c h run.0) run.1

new_is_ordered : IsOrdered new_channel
new_is_ordered = record { dispatched = λ key. ([], refl); accepted = λ key. ([], refl); acknowledged = omega arith }

pub keep_order : RunsKeepOrder
keep_order xs run = runs_on xs new_channel new_is_ordered run

-- ---- what a run without a mark leaves

pub record Leaves (xs : List ChannelStep) (c d : Channel) : Type 0 where
  pub posted : d.posted ≡ c.posted ++ posts xs
  pub accepted : d.accepted ≡ c.accepted ++ acceptances xs
  pub dispatched : d.dispatched ≡ c.dispatched ++ dispatches xs
  pub marked : d.marked ≡ false

pub unmarked_step : (x : ChannelStep) (c : Channel) → c.marked ≡ false → after_step x c ≡ changed x c
unmarked_step x c e = ap (λ b. if b then c else changed x c) e

nothing_more : {X : Type 0} (xs : List X) → xs ≡ xs ++ []
nothing_more xs = sym (append-nil xs)

one_then : {X : Type 0} (xs : List X) (x : X) (ys : List X) → (xs ++ x ∷ []) ++ ys ≡ xs ++ x ∷ ys
one_then xs x ys = append_assoc xs (x ∷ []) ys

pub leaves : (xs : List ChannelStep) (c : Channel) → c.marked ≡ false → AllByRecursion IsNoMark xs → Leaves xs c (after_steps xs c)
leaves [] c e none = record {
  posted = nothing_more c.posted;
  accepted = nothing_more c.accepted;
  dispatched = nothing_more c.dispatched;
  marked = e;
}
leaves (x ∷ xs) c e none =
    subst (λ d. Leaves (x ∷ xs) c (after_steps xs d)) (sym (unmarked_step x c e)) (behind x none.0 (λ d g. leaves xs d g none.1))
  where
    behind : (y : ChannelStep) → IsNoMark y → ((d : Channel) → d.marked ≡ false → Leaves xs d (after_steps xs d)) → Leaves (y ∷ xs) c (after_steps xs (changed y c))
    behind (post key m) no_mark on =
        let d = record c { posted = c.posted ++ keyed key m ∷ [] } in
        let rest = on d e in
        record {
          posted = rest.posted ∙ one_then c.posted (keyed key m) (posts xs);
          accepted = rest.accepted;
          dispatched = rest.dispatched;
          marked = rest.marked;
        }
    behind (accept key m) no_mark on =
        let d = record c { accepted = c.accepted ++ keyed key m ∷ [] } in
        let rest = on d e in
        record {
          posted = rest.posted;
          accepted = rest.accepted ∙ one_then c.accepted (keyed key m) (acceptances xs);
          dispatched = rest.dispatched;
          marked = rest.marked;
        }
    behind (dispatch key m) no_mark on =
        let d = record c { dispatched = c.dispatched ++ keyed key m ∷ [] } in
        let rest = on d e in
        record {
          posted = rest.posted;
          accepted = rest.accepted;
          dispatched = rest.dispatched ∙ one_then c.dispatched (keyed key m) (dispatches xs);
          marked = rest.marked;
        }
    behind (acknowledge count) no_mark on =
        let rest = on (record c { acknowledged = max c.acknowledged count }) e in
        record { posted = rest.posted; accepted = rest.accepted; dispatched = rest.dispatched; marked = rest.marked }
    behind mark no_mark on = absurd no_mark
    behind reset no_mark on =
        let rest = on c e in
        record { posted = rest.posted; accepted = rest.accepted; dispatched = rest.dispatched; marked = rest.marked }

-- ---- parts of runs

pub run_behind : (xs ys : List ChannelStep) (c : Channel) → IsRun (xs ++ ys) c → IsRun ys (after_steps xs c)
run_behind [] ys c run = run
run_behind (x ∷ xs) ys c run = run_behind xs ys (after_step x c) run.1

pub run_append : (xs ys : List ChannelStep) (c : Channel) → IsRun xs c → IsRun ys (after_steps xs c) → IsRun (xs ++ ys) c
run_append [] ys c run more = more
run_append (x ∷ xs) ys c run more = (run.0, run_append xs ys (after_step x c) run.1 more)

pub after_append : (xs ys : List ChannelStep) (c : Channel) → after_steps (xs ++ ys) c ≡ after_steps ys (after_steps xs c)
after_append [] ys c = refl
after_append (x ∷ xs) ys c = after_append xs ys (after_step x c)

unmarked_run : (xs : List ChannelStep) (c : Channel) → IsRun xs c → IsRun (unmarked xs) c
unmarked_run [] c run = tt
unmarked_run (mark ∷ xs) c run = tt
unmarked_run (post key m ∷ xs) c run = (run.0, unmarked_run xs (after_step (post key m) c) run.1)
unmarked_run (accept key m ∷ xs) c run = (run.0, unmarked_run xs (after_step (accept key m) c) run.1)
unmarked_run (dispatch key m ∷ xs) c run = (run.0, unmarked_run xs (after_step (dispatch key m) c) run.1)
unmarked_run (acknowledge count ∷ xs) c run = (run.0, unmarked_run xs (after_step (acknowledge count) c) run.1)
unmarked_run (reset ∷ xs) c run = (run.0, unmarked_run xs (after_step reset c) run.1)

unmarked_none : (xs : List ChannelStep) → AllByRecursion IsNoMark (unmarked xs)
unmarked_none [] = tt
unmarked_none (mark ∷ xs) = tt
unmarked_none (post key m ∷ xs) = (tt, unmarked_none xs)
unmarked_none (accept key m ∷ xs) = (tt, unmarked_none xs)
unmarked_none (dispatch key m ∷ xs) = (tt, unmarked_none xs)
unmarked_none (acknowledge count ∷ xs) = (tt, unmarked_none xs)
unmarked_none (reset ∷ xs) = (tt, unmarked_none xs)

-- ---- what is delivered

lawful_there : (x : ChannelStep) (c : Channel) → c.marked ≡ false → MayTake x c → IsLawful x c
lawful_there x c e (inl m) = from_false_true (sym e ∙ m)
lawful_there x c e (inr l) = l

is_no_reset : (x : ChannelStep) (c : Channel) → IsLawful x c → IsNoReset x
is_no_reset (post key m) c l = tt
is_no_reset (accept key m) c l = tt
is_no_reset (dispatch key m) c l = tt
is_no_reset (acknowledge count) c l = tt
is_no_reset mark c l = tt
is_no_reset reset c l = l

no_resets : (xs : List ChannelStep) (c : Channel) → c.marked ≡ false → AllByRecursion IsNoMark xs → IsRun xs c → AllByRecursion IsNoReset xs
no_resets [] c e none run = tt
no_resets (x ∷ xs) c e none run = (
  is_no_reset x c (lawful_there x c e run.0),
  no_resets xs (after_step x c) (leaves (x ∷ []) c e (none.0, tt)).marked none.1 run.1,
)

acknowledged_before : (xs before after : List ChannelStep) (count : ℕ) → IsRun xs new_channel → AllByRecursion IsNoMark xs →
    xs ≡ before ++ acknowledge count ∷ after → count ≤ length (acceptances before)
acknowledged_before xs before after count run none e =
    let run_so : IsRun (before ++ acknowledge count ∷ after) new_channel = subst (λ ys. IsRun ys new_channel) e run in
    let none_so = all_front IsNoMark before (acknowledge count ∷ after) (subst (AllByRecursion IsNoMark) e none) in
    let there = leaves before new_channel refl none_so in
    let may = (run_behind before (acknowledge count ∷ after) new_channel run_so).0 in
    subst (λ l. count ≤ length l) there.accepted (lawful_there (acknowledge count) (after_steps before new_channel) there.marked may)

pub unmarked_deliver : UnmarkedRunsDeliver
unmarked_deliver xs run none =
    let there = leaves xs new_channel refl none in
    let ordered = keep_order xs run in
    let accepted : ComeInOrder (acceptances xs) (posts xs) =
    subst (λ l. ComeInOrder l (posts xs)) there.accepted (subst (λ l. ComeInOrder (after_steps xs new_channel).accepted l) there.posted ordered.accepted) in
    let dispatched : ComeInOrder (dispatches xs) (acceptances xs) =
    subst (λ l. ComeInOrder l (acceptances xs)) there.dispatched (subst (λ l. ComeInOrder (after_steps xs new_channel).dispatched l) there.accepted ordered.dispatched) in
    record {
      accepted = accepted;
      dispatched = dispatched;
      over = in_order_over (dispatches xs) (acceptances xs) (posts xs) dispatched accepted;
      acknowledged = λ before after count e. acknowledged_before xs before after count run none e;
      no_reset = no_resets xs new_channel refl none run;
    }

pub deliver : RunsDeliver
deliver xs run = unmarked_deliver (unmarked xs) (unmarked_run xs new_channel run) (unmarked_none xs)
