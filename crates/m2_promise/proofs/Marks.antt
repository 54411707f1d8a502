-- A record is marked down exactly where its plan does so, or it gave up; and its plan does where a line of the scenario does.
use Rattle.std.proofs.Common.{◌≡◌, ℕ, ◌+◌, Bool, true, false, ◌&&◌, ◌||◌, ◌==◌, if◌then◌else◌, List, [], ◌∷◌, map, drop, Option, Some, None, refl, sym, ap, ◌∙◌}
use Rattle.std.specs.Prelude.{slice_get}
use Rattle.std.specs.List.{list_any}
use Rattle.std.proofs.lemmas.List.{drop-map}
use Rattle.m2_links_go_on.specs.m2_weave.m2_journal.declared.entry.Entry.{Entry}
use Rattle.m2_links_go_on.specs.m2_weave.m2_journal.declared.entry.Entry.TheVariants as entry
use Rattle.m2_links_go_on.specs.m2_weave.m2_journal.declared.facts.PlanStep.{PlanStep}
use Rattle.m2_links_go_on.specs.m2_weave.m2_journal.declared.facts.PlanStep.TheVariants as step
use Rattle.m2_links_go_on.specs.m2_weave.m2_journal.Items as item
use Rattle.m2_links_go_on.specs.m2_weave.m2_journal.Items.{Places, Sources, at_start, items_from, passed, passed_by}
use Rattle.m2_links_go_on.specs.m2_weave.m2_journal.Lawful.{IsDial, IsDown, IsPost}
use Rattle.m2_links_go_on.specs.m2_weave.m2_journal.Plan.{Planned, planned, to_dial, to_go_down, to_post}
use Rattle.m2_links_go_on.specs.m2_weave.m2_journal.Replay.{AreLawful}
use Rattle.m2_links_go_on.specs.m2_weave.m2_journal.SideFacts.{SideFacts}
use Rattle.m2_links_go_on.specs.m2_weave.m2_journal.State.{State, start}
use Rattle.m2_links_go_on.specs.m2_weave.m2_journal.Steps.{after}
use Rattle.m2_promise.specs.Planned.{IsTaken}
use Rattle.m2_promise.specs.AtEnd.{is_down_of, is_down_step}
use Rattle.m2_promise.specs.Posted.{is_given_up}
use Rattle.m2_promise.proofs.PostedPlans.{next_of, none_of, planned_by, settled}
use Rattle.m2_script.specs.m2_record.IsRecord.{IsRecord}
use Rattle.m2_script.specs.m2_record.RecordNow.{RecordNow, speaks_of}
use Rattle.m2_scenario.specs.declared.line.Line.{Line}
use Rattle.m2_scenario.specs.declared.line.Line.TheVariants as line
use Rattle.m2_scenario.specs.declared.link.Link.{Link}
use Rattle.m2_scenario.specs.Draft.{draft_line}
use Rattle.m2_script.specs.Outcome.{is_down, is_down_entry}
use Rattle.m2_fabric.proofs.m2_lemmas.Booleans.{or_false, or_true}

-- ---- a plan's marks

abbrev goes_down : Planned → Bool
goes_down to_go_down = true
goes_down _ = false

same_steps : (xs : List PlanStep) → list_any goes_down (map planned xs) ≡ list_any is_down_step xs
same_steps [] = refl
same_steps (step.Post m ∷ xs) = same_steps xs
same_steps (step.Dial ∷ xs) = same_steps xs
same_steps (step.Down ∷ xs) = refl

-- those of a scenario's lines
module _ (i b : ℕ) (links : List Link) (nodes : ℕ) where
  abbrev steps : List Line → List PlanStep
  steps lines = planned_by i b links nodes lines

  abbrev downs : List Line → Bool
  downs lines = list_any (is_down_of i b) (map draft_line lines)

  pub lines_mark : (lines : List Line) → list_any is_down_step (steps lines) ≡ downs lines
  lines_mark [] = refl
  lines_mark (line.Post a c m ∷ lines) = by ((a == i) && (c == b)) (lines_mark lines)
    where
      by : (d : Bool) → list_any is_down_step (steps lines) ≡ downs lines → list_any is_down_step (if d then step.Post m ∷ steps lines else steps lines) ≡ downs lines
      by true same = same
      by false same = same
  lines_mark (line.Dial a c ∷ lines) = by ((a == i) && (c == b)) (lines_mark lines)
    where
      by : (d : Bool) → list_any is_down_step (steps lines) ≡ downs lines → list_any is_down_step (if d then step.Dial ∷ steps lines else steps lines) ≡ downs lines
      by true same = same
      by false same = same
  lines_mark (line.Down a c ∷ lines) = by ((a == i) && (c == b)) (lines_mark lines)
    where
      by : (d : Bool) → list_any is_down_step (steps lines) ≡ downs lines → list_any is_down_step (if d then step.Down ∷ steps lines else steps lines) ≡ (d || downs lines)
      by true same = refl
      by false same = same
  lines_mark (line.Cut a c bytes ∷ lines) = lines_mark lines
  lines_mark (line.Turn a ∷ lines) = lines_mark lines
  lines_mark (line.Flow a c socket most ∷ lines) = lines_mark lines
  lines_mark (line.Fault a c socket ∷ lines) = lines_mark lines
  lines_mark (line.Settle rounds ∷ lines) = ap (list_any is_down_step) (settled i b links nodes rounds lines) ∙ lines_mark lines

-- ---- a journal's

module _ (s : Sources) where
  abbrev left_at : ℕ → Bool
  left_at n = list_any goes_down (drop n s.plan)

  -- the marks of entries or of the steps that are left are those of all steps, or the side gave up
  abbrev Marks : Places → List Entry → Type 0
  Marks p es = (list_any is_down_entry es || left_at (passed_by es p).steps) ≡ (left_at p.steps || list_any is_given_up es)

  a_post : (n : ℕ) (o : Option Planned) (x y : Bool) → slice_get s.plan n ≡ o → IsPost o → x ≡ (left_at (n + 1) || y) → x ≡ (left_at n || y)
  a_post n (Some (to_post m)) x y e is same = same ∙ ap (λ l. list_any goes_down l || y) (sym (next_of s.plan n (to_post m) e))
  a_post n (Some to_dial) x y e is same = absurd is
  a_post n (Some to_go_down) x y e is same = absurd is
  a_post n None x y e is same = absurd is

  a_dial : (n : ℕ) (o : Option Planned) (x y : Bool) → slice_get s.plan n ≡ o → IsDial o → x ≡ (left_at (n + 1) || y) → x ≡ (left_at n || y)
  a_dial n (Some to_dial) x y e is same = same ∙ ap (λ l. list_any goes_down l || y) (sym (next_of s.plan n to_dial e))
  a_dial n (Some (to_post m)) x y e is same = absurd is
  a_dial n (Some to_go_down) x y e is same = absurd is
  a_dial n None x y e is same = absurd is

  a_down : (n : ℕ) (o : Option Planned) (y : Bool) → slice_get s.plan n ≡ o → IsDown o → (let b : Bool = true in b) ≡ (left_at n || y)
  a_down n (Some to_go_down) y e is = ap (λ l. list_any goes_down l || y) (sym (next_of s.plan n to_go_down e))
  a_down n (Some (to_post m)) y e is = absurd is
  a_down n (Some to_dial) y e is = absurd is
  a_down n None y e is = absurd is

  entries_mark : (f : SideFacts) (p : Places) (es : List Entry) (t : State) → AreLawful f (items_from s p es) t → Marks p es
  entries_mark f p [] t law = sym (or_false (left_at p.steps))
  entries_mark f p (e ∷ es) t law = by e law (λ u l. entries_mark f (passed e p) es u l)
    where
      by : (e : Entry) → AreLawful f (items_from s p (e ∷ es)) t → ((u : State) → AreLawful f (items_from s (passed e p) es) u → Marks (passed e p) es) → Marks p (e ∷ es)
      by (entry.Post place) l on =
          a_post p.steps (slice_get s.plan p.steps) (list_any is_down_entry es || left_at (passed_by es (passed (entry.Post place) p)).steps) (list_any is_given_up es) refl l.0.1
          (on (after f (item.post place (slice_get s.plan p.steps)) t) l.1)
      by entry.Dial l on =
          a_dial p.steps (slice_get s.plan p.steps) (list_any is_down_entry es || left_at (passed_by es (passed entry.Dial p)).steps) (list_any is_given_up es) refl l.0
          (on (after f (item.dial (slice_get s.plan p.steps)) t) l.1)
      by (entry.Opened socket) l on = on _ l.1
      by (entry.Read socket count) l on = on _ l.1
      by (entry.Wrote socket count) l on = on _ l.1
      by (entry.Closed socket) l on = on _ l.1
      by (entry.Judged socket ask number answer) l on = on _ l.1
      by (entry.Asked ident number) l on = on _ l.1
      by (entry.Numbered number) l on = on _ l.1
      by (entry.Accepted number key) l on = on _ l.1
      by (entry.Acked number) l on = on _ l.1
      by (entry.Obeyed full) l on = on _ l.1
      by (entry.Down true) l on = a_down p.steps (slice_get s.plan p.steps) (list_any is_given_up es) refl l.0
      by (entry.Down false) l on = sym (or_true (left_at p.steps))

-- A record that took each step of its plan is marked down where the plan does so, or it gave up.
pub record_marked : (r : RecordNow) → IsRecord r → IsTaken r → is_down r ≡ (list_any is_down_step r.plan || list_any is_given_up r.journal)
record_marked r is taken =
    let s = speaks_of r in
    let steps : (passed_by r.journal at_start).steps ≡ r.steps = is.at_state.reach ∙ sym is.at_state.steps in
    let none : list_any goes_down (drop (passed_by r.journal at_start).steps s.plan) ≡ false =
    ap (λ n. list_any goes_down (drop n (map planned r.plan))) steps ∙ ap (list_any goes_down) (drop-map planned r.steps r.plan ∙ ap (map planned) (none_of r.plan r.steps taken)) in
    sym (or_false (is_down r)) ∙ ap (λ b. is_down r || b) (sym none)
    ∙ entries_mark s r.core.facts at_start r.journal (start r.core.facts) is.at_state.replay.lawful ∙ ap (λ b. b || list_any is_given_up r.journal) (same_steps r.plan)

-- Whether it took each or not, it is marked down only where the plan does so, or it gave up.
pub only_marked : (r : RecordNow) → IsRecord r → is_down r ≡ true → (list_any is_down_step r.plan || list_any is_given_up r.journal) ≡ true
only_marked r is down =
    let s = speaks_of r in
    ap (λ b. b || list_any is_given_up r.journal) (sym (same_steps r.plan)) ∙ sym (entries_mark s r.core.facts at_start r.journal (start r.core.facts) is.at_state.replay.lawful)
    ∙ ap (λ b. b || list_any goes_down (drop (passed_by r.journal at_start).steps s.plan)) down
