-- The counts stay right with one line more.
use Rattle.std.proofs.Common.{◌≡◌, ◌==◌, ◌+◌, ◌<◌, ℕ, zero, suc, Bool, true, false, cond, ◌||◌, List, [], ◌∷◌, ◌++◌, length, get_or, refl, sym, ap, ◌∙◌, arith, Some, None, map, count_by, sum_by}
use Rattle.std.specs.Prelude.{slice_set}
use Rattle.std.specs.List.{list_any}
use Rattle.std.proofs.lemmas.List.Sums.{sum_by-append}
use Rattle.std.proofs.lemmas.List.Folds.{list_any-append}
use Rattle.std.proofs.lemmas.List.{map-append, length-set}
use Rattle.m2_scenario.specs.declared.node.Node.{Node}
use Rattle.m2_scenario.specs.declared.counts.Counts.{Counts}
use Rattle.m2_scenario.specs.declared.line.Line.{Line}
use Rattle.m2_scenario.specs.declared.limits.TheConstants.{MOST_NODES}
use Rattle.m2_scenario.specs.Draft.{DraftLine, draft_line, is_post, is_cut, is_fault, rounds_of, is_step_of, without, post, dial, down, cut, turn, flow, fault, settle}
use Rattle.m2_scenario.specs.Plan.{IsCounted, IsAmong, step_of}
use Rattle.m2_scenario.specs.Counts.{counts_of, with_one_more}
use Rattle.m2_scenario.proofs.Flags.{flag_at}
use Rattle.m2_bytes.proofs.m2_lemmas.Booleans.{or_false}

-- a step is one of its node alone
step_is : (l : DraftLine) (a b : ℕ) → step_of l ≡ Some a → is_step_of b l ≡ (a == b)
step_is (post from to m) a b e = let same : from ≡ a = cc in rw same refl
step_is (dial from to) a b e = let same : from ≡ a = cc in rw same refl
step_is (down from to) a b e = let same : from ≡ a = cc in rw same refl
step_is (cut from to n) a b e = absurd (cc)
step_is (turn from) a b e = absurd (cc)
step_is (flow from to s n) a b e = absurd (cc)
step_is (fault from to s) a b e = absurd (cc)
step_is (settle n) a b e = absurd (cc)

-- the node of a step is one of sixteen
pub step_below : (l : DraftLine) (a : ℕ) → IsAmong MOST_NODES l → step_of l ≡ Some a → a < MOST_NODES
step_below (post from to m) a room e = let same : from ≡ a = cc in omega (arith, same, room)
step_below (dial from to) a room e = let same : from ≡ a = cc in omega (arith, same, room)
step_below (down from to) a room e = let same : from ≡ a = cc in omega (arith, same, room)
step_below (cut from to n) a room e = absurd (cc)
step_below (turn from) a room e = absurd (cc)
step_below (flow from to s n) a room e = absurd (cc)
step_below (fault from to s) a room e = absurd (cc)
step_below (settle n) a room e = absurd (cc)

step_or : (l : DraftLine) (a b : ℕ) (lines : List DraftLine) → step_of l ≡ Some a → list_any (is_step_of b) (lines ++ l ∷ []) ≡ (list_any (is_step_of b) lines || ((a == b) || false))
step_or l a b lines e = list_any-append (is_step_of b) lines (l ∷ []) ∙ ap (λ t. list_any (is_step_of b) lines || (t || false)) (step_is l a b e)

-- the counts of lines with one more, by what it adds to each
added : (lines : List DraftLine) (l : DraftLine) (posts cuts faults rounds : ℕ) → count_by is_post lines + cond (is_post l) 1 0 ≡ posts
    → count_by is_cut lines + cond (is_cut l) 1 0 ≡ cuts → count_by is_fault lines + cond (is_fault l) 1 0 ≡ faults → sum_by rounds_of lines + rounds_of l ≡ rounds
    → counts_of (lines ++ l ∷ []) ≡ record { posts = posts; cuts = cuts; faults = faults; rounds = rounds }
added lines l posts cuts faults rounds p c f r =
    let ps : count_by is_post (lines ++ l ∷ []) ≡ posts = omega (arith, sum_by-append (λ x. cond (is_post x) 1 0) lines (l ∷ []), p) in
    let cs : count_by is_cut (lines ++ l ∷ []) ≡ cuts = omega (arith, sum_by-append (λ x. cond (is_cut x) 1 0) lines (l ∷ []), c) in
    let fs : count_by is_fault (lines ++ l ∷ []) ≡ faults = omega (arith, sum_by-append (λ x. cond (is_fault x) 1 0) lines (l ∷ []), f) in
    let rs : sum_by rounds_of (lines ++ l ∷ []) ≡ rounds = omega (arith, sum_by-append rounds_of lines (l ∷ []), r) in
    cc

pub counts_more : (lines : List DraftLine) (l : DraftLine) → counts_of (lines ++ l ∷ []) ≡ with_one_more (counts_of lines) l
counts_more lines (post a b m) = added lines (post a b m) _ _ _ _ (omega arith) (omega arith) (omega arith) (omega arith)
counts_more lines (dial a b) = added lines (dial a b) _ _ _ _ (omega arith) (omega arith) (omega arith) (omega arith)
counts_more lines (down a b) = added lines (down a b) _ _ _ _ (omega arith) (omega arith) (omega arith) (omega arith)
counts_more lines (cut a b n) = added lines (cut a b n) _ _ _ _ (omega arith) (omega arith) (omega arith) (omega arith)
counts_more lines (turn a) = added lines (turn a) _ _ _ _ (omega arith) (omega arith) (omega arith) (omega arith)
counts_more lines (flow a b s n) = added lines (flow a b s n) _ _ _ _ (omega arith) (omega arith) (omega arith) (omega arith)
counts_more lines (fault a b s) = added lines (fault a b s) _ _ _ _ (omega arith) (omega arith) (omega arith) (omega arith)
counts_more lines (settle n) = added lines (settle n) _ _ _ _ (omega arith) (omega arith) (omega arith) (omega arith)

-- no step of any node
no_step : (l : DraftLine) (b : ℕ) → step_of l ≡ None → is_step_of b l ≡ false
no_step (post from to m) b e = absurd (cc)
no_step (dial from to) b e = absurd (cc)
no_step (down from to) b e = absurd (cc)
no_step (cut from to n) b e = refl
no_step (turn from) b e = refl
no_step (flow from to s n) b e = refl
no_step (fault from to s) b e = refl
no_step (settle n) b e = refl

-- the plan with one line more, which is a step of the node at place a
pub counted_step : (old new : List Line) (line : Line) (c : Counts) (planned : List Bool) (a : ℕ) → new ≡ old ++ line ∷ []
    → IsCounted (map draft_line old) c planned → IsAmong MOST_NODES (draft_line line) → step_of (draft_line line) ≡ Some a
    → IsCounted (map draft_line new) (with_one_more c (draft_line line)) (slice_set planned a true)
counted_step old new line c planned a e h room step =
    let lines = map draft_line old in
    let l = draft_line line in
    rw (e, map-append draft_line old (line ∷ [])) (record {
      counts_are = ap (λ (x : Counts). with_one_more x l) h.counts_are ∙ sym (counts_more lines l);
      planned_len = length-set planned a true ∙ h.planned_len;
      planned_are = λ b below. flag_at planned MOST_NODES a b (list_any (is_step_of b) lines) (a == b) refl h.planned_len (step_below l a room step) below (h.planned_are b below)
          ∙ ap Some (sym (step_or l a b lines step));
    })

-- the plan with one line more that is no step
pub counted_other : (old new : List Line) (line : Line) (c : Counts) (planned : List Bool) → new ≡ old ++ line ∷ []
    → IsCounted (map draft_line old) c planned → step_of (draft_line line) ≡ None → IsCounted (map draft_line new) (with_one_more c (draft_line line)) planned
counted_other old new line c planned e h step =
    let lines = map draft_line old in
    let l = draft_line line in
    rw (e, map-append draft_line old (line ∷ [])) (record {
      counts_are = ap (λ (x : Counts). with_one_more x l) h.counts_are ∙ sym (counts_more lines l);
      planned_len = h.planned_len;
      planned_are = λ b below. h.planned_are b below
          ∙ ap Some (sym (list_any-append (is_step_of b) lines (l ∷ []) ∙ ap (λ t. list_any (is_step_of b) lines || (t || false)) (no_step l b step) ∙ or_false (list_any (is_step_of b) lines)));
    })

-- a write that stops a node
pub stopped : (nodes : List Node) (a : ℕ) (n : Node) → a < length nodes → n ≡ get_or nodes a n → slice_set nodes a (record n { started = false }) ≡ without a nodes
stopped [] a n h e = absurd (omega arith)
stopped (m ∷ ms) zero n h e = rw e refl
stopped (m ∷ ms) (suc a) n h e = ap (λ ns. m ∷ ns) (stopped ms a n (omega arith) e)
