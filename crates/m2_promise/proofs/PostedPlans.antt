-- What a plan posts: by the lines of a scenario, and by the journal of a record.
use Rattle.std.proofs.Common.{◌≡◌, ℕ, zero, suc, ◌+◌, Bool, true, false, ◌&&◌, ◌==◌, cond, if◌then◌else◌, List, [], ◌∷◌, ◌++◌, length, map, drop, Option, Some, None, refl, sym, ap, subst, ◌∙◌, arith, append_assoc, count_by}
use Rattle.std.specs.Prelude.{slice_get}
use Rattle.std.specs.List.{AllByRecursion, filter, flat_map}
use Rattle.std.proofs.lemmas.List.Sums.{sum_by-cons}
use Rattle.std.proofs.lemmas.Option.{none-some, same_Some}
use Rattle.m2_promise.specs.Delivered.{PostsInRanges}
use Rattle.m2_dispatch.specs.Heard.{is_key}
use Rattle.m2_lives.specs.m2_bytes_fit.Posts.{IsOfTypes}
use Rattle.m2_links_go_on.specs.m2_weave.m2_journal.declared.entry.Entry.{Entry}
use Rattle.m2_links_go_on.specs.m2_weave.m2_journal.declared.entry.Entry.TheVariants as entry
use Rattle.m2_links_go_on.specs.m2_weave.m2_journal.declared.facts.PlanStep.{PlanStep}
use Rattle.m2_links_go_on.specs.m2_weave.m2_journal.declared.facts.PlanStep.TheVariants as step
use Rattle.m2_links_go_on.specs.m2_weave.m2_journal.Items as item
use Rattle.m2_links_go_on.specs.m2_weave.m2_journal.Items.{Places, Sources, at_start, items_from, items_of, passed, passed_by}
use Rattle.m2_links_go_on.specs.m2_weave.m2_journal.Lawful.{IsDial, IsDown, IsPost}
use Rattle.m2_links_go_on.specs.m2_weave.m2_journal.Plan.{Planned, planned, to_dial, to_go_down, to_post}
use Rattle.m2_links_go_on.specs.m2_weave.m2_journal.Replay.{AreLawful}
use Rattle.m2_links_go_on.specs.m2_weave.m2_journal.SideFacts.{SideFacts}
use Rattle.m2_links_go_on.specs.m2_weave.m2_journal.State.{State, start}
use Rattle.m2_links_go_on.specs.m2_weave.m2_journal.Steps.{after}
use Rattle.m2_message.specs.Message.{Content, content_of}
use Rattle.m2_scenario.specs.Order.{is_post_between, key_of, posts_between, posts_of}
use Rattle.m2_channel.specs.m2_never_reset.Order.{AreFirstOf}
use Rattle.m2_channel.specs.m2_never_reset.Orders.{posted_in, posts_in}
use Rattle.m2_promise.specs.AtEnd.{posts_planned, posts_to}
use Rattle.m2_promise.specs.Planned.{steps_for}
use Rattle.m2_dispatch.specs.m2_policy.declared.path.Key.{Key}
use Rattle.m2_promise.specs.Posted.{PostsOfTypes}
use Rattle.m2_script.specs.m2_record.IsRecord.{IsRecord}
use Rattle.m2_script.specs.m2_record.RecordNow.{RecordNow, speaks_of}
use Rattle.m2_scenario.specs.declared.line.Line.{Line}
use Rattle.m2_scenario.specs.declared.line.Line.TheVariants as line
use Rattle.m2_scenario.specs.declared.link.Link.{Link}
use Rattle.m2_scenario.specs.Draft as draft
use Rattle.m2_scenario.specs.Draft.{DraftLine, draft_line}
use Rattle.m2_script.specs.Outcome.{is_post_step}
use Rattle.m2_script.specs.Script as script
use Rattle.m2_script.specs.Script.{Deed, both_flow, plan, round_of, rounds_of, script_of, turns_from}

-- ---- a plan's posts

pub count_planned : (xs : List PlanStep) → count_by is_post_step xs ≡ length (posts_planned xs)
count_planned [] = refl
count_planned (step.Post m ∷ xs) = sum_by-cons (λ (x : PlanStep). cond (is_post_step x) 1 0) (step.Post m) xs ∙ omega (arith, count_planned xs)
count_planned (step.Dial ∷ xs) = sum_by-cons (λ (x : PlanStep). cond (is_post_step x) 1 0) step.Dial xs ∙ omega (arith, count_planned xs)
count_planned (step.Down ∷ xs) = sum_by-cons (λ (x : PlanStep). cond (is_post_step x) 1 0) step.Down xs ∙ omega (arith, count_planned xs)

-- ---- those of a scenario's lines

abbrev pub has_key : List ℕ → Key → Content → Bool
has_key fast key m = is_key (key_of fast m) key

pub key_posts : (x y : ℕ) (fast : List ℕ) (key : Key) (ls : List DraftLine) → posts_of x y fast key ls ≡ filter (has_key fast key) (posts_to x y ls)
key_posts x y fast key [] = refl
key_posts x y fast key (draft.post a b m ∷ ls) = at ((a == x) && (b == y)) (key_posts x y fast key ls)
  where
    at : (c : Bool) → posts_of x y fast key ls ≡ filter (has_key fast key) (posts_to x y ls) →
        (if c && has_key fast key m then m ∷ posts_of x y fast key ls else posts_of x y fast key ls) ≡ filter (has_key fast key) (if c then m ∷ posts_to x y ls else posts_to x y ls)
    at true same = ap (λ l. if has_key fast key m then m ∷ l else l) same
    at false same = same
key_posts x y fast key (draft.dial a b ∷ ls) = key_posts x y fast key ls
key_posts x y fast key (draft.down a b ∷ ls) = key_posts x y fast key ls
key_posts x y fast key (draft.cut a b n ∷ ls) = key_posts x y fast key ls
key_posts x y fast key (draft.turn a ∷ ls) = key_posts x y fast key ls
key_posts x y fast key (draft.flow a b k n ∷ ls) = key_posts x y fast key ls
key_posts x y fast key (draft.fault a b k ∷ ls) = key_posts x y fast key ls
key_posts x y fast key (draft.settle n ∷ ls) = key_posts x y fast key ls

pub count_posts : (x y : ℕ) (ls : List DraftLine) → posts_between ls x y ≡ length (posts_to x y ls)
count_posts x y [] = refl
count_posts x y (draft.post a b m ∷ ls) = sum_by-cons (λ (l : DraftLine). cond (is_post_between x y l) 1 0) (draft.post a b m) ls ∙ at ((a == x) && (b == y)) (count_posts x y ls)
  where
    at : (c : Bool) → posts_between ls x y ≡ length (posts_to x y ls) → cond c 1 0 + posts_between ls x y ≡ length (if c then m ∷ posts_to x y ls else posts_to x y ls)
    at true same = omega (arith, same)
    at false same = omega (arith, same)
count_posts x y (draft.dial a b ∷ ls) = sum_by-cons (λ (l : DraftLine). cond (is_post_between x y l) 1 0) (draft.dial a b) ls ∙ omega (arith, count_posts x y ls)
count_posts x y (draft.down a b ∷ ls) = sum_by-cons (λ (l : DraftLine). cond (is_post_between x y l) 1 0) (draft.down a b) ls ∙ omega (arith, count_posts x y ls)
count_posts x y (draft.cut a b n ∷ ls) = sum_by-cons (λ (l : DraftLine). cond (is_post_between x y l) 1 0) (draft.cut a b n) ls ∙ omega (arith, count_posts x y ls)
count_posts x y (draft.turn a ∷ ls) = sum_by-cons (λ (l : DraftLine). cond (is_post_between x y l) 1 0) (draft.turn a) ls ∙ omega (arith, count_posts x y ls)
count_posts x y (draft.flow a b k n ∷ ls) = sum_by-cons (λ (l : DraftLine). cond (is_post_between x y l) 1 0) (draft.flow a b k n) ls ∙ omega (arith, count_posts x y ls)
count_posts x y (draft.fault a b k ∷ ls) = sum_by-cons (λ (l : DraftLine). cond (is_post_between x y l) 1 0) (draft.fault a b k) ls ∙ omega (arith, count_posts x y ls)
count_posts x y (draft.settle n ∷ ls) = sum_by-cons (λ (l : DraftLine). cond (is_post_between x y l) 1 0) (draft.settle n) ls ∙ omega (arith, count_posts x y ls)

-- ---- the steps that lines plan for a record

module _ (i b : ℕ) where
  steps-append : (xs ys : List Deed) → steps_for i b (xs ++ ys) ≡ steps_for i b xs ++ steps_for i b ys
  steps-append [] ys = refl
  steps-append (plan a c x ∷ xs) ys = at ((a == i) && (c == b)) (steps-append xs ys)
    where
      at : (d : Bool) → steps_for i b (xs ++ ys) ≡ steps_for i b xs ++ steps_for i b ys →
          (if d then x ∷ steps_for i b (xs ++ ys) else steps_for i b (xs ++ ys)) ≡ (if d then x ∷ steps_for i b xs else steps_for i b xs) ++ steps_for i b ys
      at true same = ap (λ l. x ∷ l) same
      at false same = same
  steps-append (script.turn a ∷ xs) ys = steps-append xs ys
  steps-append (script.meet a ∷ xs) ys = steps-append xs ys
  steps-append (script.flow a c socket most ∷ xs) ys = steps-append xs ys
  steps-append (script.fault a c socket ∷ xs) ys = steps-append xs ys

  -- a settle plans none
  no_turns : (node count : ℕ) → steps_for i b (turns_from node count) ≡ []
  no_turns node zero = refl
  no_turns node (suc count) = no_turns (suc node) count

  no_flows : (links : List Link) → steps_for i b (flat_map both_flow links) ≡ []
  no_flows [] = refl
  no_flows (l ∷ links) = no_flows links

  no_rounds : (links : List Link) (nodes count : ℕ) → steps_for i b (rounds_of links nodes count) ≡ []
  no_rounds links nodes zero = refl
  no_rounds links nodes (suc count) =
      steps-append (round_of links nodes) (rounds_of links nodes count)
      ∙ ap (λ l. l ++ steps_for i b (rounds_of links nodes count))
      (steps-append (flat_map both_flow links) (turns_from 0 nodes) ∙ ap (λ l. l ++ steps_for i b (turns_from 0 nodes)) (no_flows links) ∙ no_turns 0 nodes)
      ∙ no_rounds links nodes count

  module _ (links : List Link) (nodes : ℕ) where
    abbrev pub planned_by : List Line → List PlanStep
    planned_by lines = steps_for i b (script_of links nodes lines)

    pub settled : (rounds : ℕ) (lines : List Line) → planned_by (line.Settle rounds ∷ lines) ≡ planned_by lines
    settled rounds lines = steps-append (rounds_of links nodes rounds) (script_of links nodes lines) ∙ ap (λ l. l ++ planned_by lines) (no_rounds links nodes rounds)

    pub lines_post : (lines : List Line) → posts_planned (planned_by lines) ≡ posts_to i b (map draft_line lines)
    lines_post [] = refl
    lines_post (line.Post a c m ∷ lines) = at ((a == i) && (c == b)) (lines_post lines)
      where
        at : (d : Bool) → posts_planned (planned_by lines) ≡ posts_to i b (map draft_line lines) →
            posts_planned (if d then step.Post m ∷ planned_by lines else planned_by lines) ≡ (if d then content_of m ∷ posts_to i b (map draft_line lines) else posts_to i b (map draft_line lines))
        at true same = ap (λ l. content_of m ∷ l) same
        at false same = same
    lines_post (line.Dial a c ∷ lines) = at ((a == i) && (c == b)) (lines_post lines)
      where
        at : (d : Bool) → posts_planned (planned_by lines) ≡ posts_to i b (map draft_line lines) →
            posts_planned (if d then step.Dial ∷ planned_by lines else planned_by lines) ≡ posts_to i b (map draft_line lines)
        at true same = same
        at false same = same
    lines_post (line.Down a c ∷ lines) = at ((a == i) && (c == b)) (lines_post lines)
      where
        at : (d : Bool) → posts_planned (planned_by lines) ≡ posts_to i b (map draft_line lines) →
            posts_planned (if d then step.Down ∷ planned_by lines else planned_by lines) ≡ posts_to i b (map draft_line lines)
        at true same = same
        at false same = same
    lines_post (line.Cut a c bytes ∷ lines) = lines_post lines
    lines_post (line.Turn a ∷ lines) = lines_post lines
    lines_post (line.Flow a c socket most ∷ lines) = lines_post lines
    lines_post (line.Fault a c socket ∷ lines) = lines_post lines
    lines_post (line.Settle rounds ∷ lines) = ap posts_planned (settled rounds lines) ∙ lines_post lines

    -- what is planned keeps the ranges of its types
    pub lines_in_ranges : (lines : List Line) → AllByRecursion PostsOfTypes lines → AllByRecursion PostsInRanges (planned_by lines)
    lines_in_ranges [] all = tt
    lines_in_ranges (line.Post a c m ∷ lines) all = at ((a == i) && (c == b)) all.0 (lines_in_ranges lines all.1)
      where
        at : (d : Bool) → IsOfTypes m → AllByRecursion PostsInRanges (planned_by lines) → AllByRecursion PostsInRanges (if d then step.Post m ∷ planned_by lines else planned_by lines)
        at true types rest = (types, rest)
        at false types rest = rest
    lines_in_ranges (line.Dial a c ∷ lines) all = at ((a == i) && (c == b)) (lines_in_ranges lines all.1)
      where
        at : (d : Bool) → AllByRecursion PostsInRanges (planned_by lines) → AllByRecursion PostsInRanges (if d then step.Dial ∷ planned_by lines else planned_by lines)
        at true rest = (tt, rest)
        at false rest = rest
    lines_in_ranges (line.Down a c ∷ lines) all = at ((a == i) && (c == b)) (lines_in_ranges lines all.1)
      where
        at : (d : Bool) → AllByRecursion PostsInRanges (planned_by lines) → AllByRecursion PostsInRanges (if d then step.Down ∷ planned_by lines else planned_by lines)
        at true rest = (tt, rest)
        at false rest = rest
    lines_in_ranges (line.Cut a c bytes ∷ lines) all = lines_in_ranges lines all.1
    lines_in_ranges (line.Turn a ∷ lines) all = lines_in_ranges lines all.1
    lines_in_ranges (line.Flow a c socket most ∷ lines) all = lines_in_ranges lines all.1
    lines_in_ranges (line.Fault a c socket ∷ lines) all = lines_in_ranges lines all.1
    lines_in_ranges (line.Settle rounds ∷ lines) all = subst (AllByRecursion PostsInRanges) (sym (settled rounds lines)) (lines_in_ranges lines all.1)

-- ---- what a journal posts

-- those of the steps that are left
abbrev posts_left : List Planned → List Content
posts_left [] = []
posts_left (to_post m ∷ xs) = m ∷ posts_left xs
posts_left (to_dial ∷ xs) = posts_left xs
posts_left (to_go_down ∷ xs) = posts_left xs

all_left : (xs : List PlanStep) → posts_left (map planned xs) ≡ posts_planned xs
all_left [] = refl
all_left (step.Post m ∷ xs) = ap (λ l. content_of m ∷ l) (all_left xs)
all_left (step.Dial ∷ xs) = all_left xs
all_left (step.Down ∷ xs) = all_left xs

pub next_of : {X : Type 0} (xs : List X) (n : ℕ) (x : X) → slice_get xs n ≡ Some x → drop n xs ≡ x ∷ drop (n + 1) xs
next_of [] n x e = absurd (none-some x e)
next_of (y ∷ xs) zero x e = ap (λ z. z ∷ xs) (same_Some y x e)
next_of (y ∷ xs) (suc n) x e = next_of xs n x e ∙ ap (λ k. x ∷ drop k (y ∷ xs)) (let e : suc (n + 1) ≡ suc n + 1 = omega arith in e)

pub none_of : {X : Type 0} (xs : List X) (n : ℕ) → slice_get xs n ≡ None → drop n xs ≡ []
none_of [] zero e = refl
none_of [] (suc n) e = refl
none_of (x ∷ xs) zero e = absurd (none-some x (sym e))
none_of (x ∷ xs) (suc n) e = none_of xs n e

module _ (s : Sources) where
  -- the posts of entries, and then those of the steps that are left
  abbrev and_left : Places → List Entry → List Content
  and_left p es = posts_in (items_from s p es) ++ posts_left (drop (passed_by es p).steps s.plan)

  abbrev left_at : Places → List Content
  left_at p = posts_left (drop p.steps s.plan)

  a_post : (place n : ℕ) (o : Option Planned) (rest : List Content) → slice_get s.plan n ≡ o → IsPost o → rest ≡ posts_left (drop (n + 1) s.plan) → posted_in (item.post place o) ++ rest ≡ posts_left (drop n s.plan)
  a_post place n (Some (to_post m)) rest e is same = ap (λ l. m ∷ l) same ∙ ap posts_left (sym (next_of s.plan n (to_post m) e))
  a_post place n (Some to_dial) rest e is same = absurd is
  a_post place n (Some to_go_down) rest e is same = absurd is
  a_post place n None rest e is same = absurd is

  a_dial : (n : ℕ) (o : Option Planned) (rest : List Content) → slice_get s.plan n ≡ o → IsDial o → rest ≡ posts_left (drop (n + 1) s.plan) → rest ≡ posts_left (drop n s.plan)
  a_dial n (Some to_dial) rest e is same = same ∙ ap posts_left (sym (next_of s.plan n to_dial e))
  a_dial n (Some (to_post m)) rest e is same = absurd is
  a_dial n (Some to_go_down) rest e is same = absurd is
  a_dial n None rest e is same = absurd is

  a_down : (n : ℕ) (o : Option Planned) (rest : List Content) → slice_get s.plan n ≡ o → IsDown o → rest ≡ posts_left (drop (n + 1) s.plan) → rest ≡ posts_left (drop n s.plan)
  a_down n (Some to_go_down) rest e is same = same ∙ ap posts_left (sym (next_of s.plan n to_go_down e))
  a_down n (Some (to_post m)) rest e is same = absurd is
  a_down n (Some to_dial) rest e is same = absurd is
  a_down n None rest e is same = absurd is

  entries_post : (f : SideFacts) (p : Places) (es : List Entry) (t : State) → AreLawful f (items_from s p es) t → and_left p es ≡ left_at p
  entries_post f p [] t law = refl
  entries_post f p (e ∷ es) t law = at e law (λ u l. entries_post f (passed e p) es u l)
    where
      at : (e : Entry) → AreLawful f (items_from s p (e ∷ es)) t → ((u : State) → AreLawful f (items_from s (passed e p) es) u → and_left (passed e p) es ≡ left_at (passed e p)) → and_left p (e ∷ es) ≡ left_at p
      at (entry.Post place) l on =
          append_assoc (posted_in (item.post place (slice_get s.plan p.steps))) (posts_in (items_from s (passed (entry.Post place) p) es)) (posts_left (drop (passed_by es (passed (entry.Post place) p)).steps s.plan))
          ∙ a_post place p.steps (slice_get s.plan p.steps) (and_left (passed (entry.Post place) p) es) refl l.0.1 (on (after f (item.post place (slice_get s.plan p.steps)) t) l.1)
      at entry.Dial l on = a_dial p.steps (slice_get s.plan p.steps) (and_left (passed entry.Dial p) es) refl l.0 (on (after f (item.dial (slice_get s.plan p.steps)) t) l.1)
      at (entry.Opened socket) l on = on _ l.1
      at (entry.Read socket count) l on = on _ l.1
      at (entry.Wrote socket count) l on = on _ l.1
      at (entry.Closed socket) l on = on _ l.1
      at (entry.Judged socket ask number answer) l on = on _ l.1
      at (entry.Asked ident number) l on = on _ l.1
      at (entry.Numbered number) l on = on _ l.1
      at (entry.Accepted number key) l on = on _ l.1
      at (entry.Acked number) l on = on _ l.1
      at (entry.Obeyed full) l on = on _ l.1
      at (entry.Down true) l on = a_down p.steps (slice_get s.plan p.steps) (and_left (passed (entry.Down true) p) es) refl l.0 (on (after f (item.down true (slice_get s.plan p.steps)) t) l.1)
      at (entry.Down false) l on = on _ l.1

-- A record has posted the first of what its plan posts.
pub posted_first : (r : RecordNow) → IsRecord r → AreFirstOf (posts_in (items_of (speaks_of r) r.journal)) (posts_planned r.plan)
posted_first r is =
    let s = speaks_of r in (
      posts_left (drop (passed_by r.journal at_start).steps s.plan),
      sym (entries_post s r.core.facts at_start r.journal (start r.core.facts) is.at_state.replay.lawful ∙ all_left r.plan),
    )
