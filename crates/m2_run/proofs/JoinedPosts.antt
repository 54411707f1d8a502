-- What the plan of a record posts keeps the bounds of frames.
use Rattle.std.proofs.Common.{◌≡◌, ℕ, zero, suc, Bool, true, false, ◌&&◌, ◌==◌, if◌then◌else◌, List, [], ◌∷◌, map, Some, None, sym, subst}
use Rattle.std.specs.Prelude.{slice_get}
use Rattle.std.specs.List.{AllByRecursion, cons_option}
use Rattle.m2_node.proofs.m2_links_go_on.m2_growth.m2_bytes_fit.Posts.{one_post, sendable_keeps}
use Rattle.m2_node.specs.m2_links_go_on.m2_growth.m2_bytes_fit.Posts.{IsOfTypes}
use Rattle.m2_node.specs.m2_links_go_on.m2_growth.m2_bytes_fit.Texts.{CanBePosted}
use Rattle.m2_node.specs.m2_links_go_on.m2_history.Link.{parts_of}
use Rattle.m2_node.specs.m2_links_go_on.m2_history.WovenLink.{sources_in}
use Rattle.m2_journal.specs.Items as item
use Rattle.m2_journal.specs.Items.{JournalItem, Places, Sources, at_start, item_of, items_from, passed}
use Rattle.m2_journal.specs.Plan.{planned}
use Rattle.m2_journal.specs.declared.entry.Entry.{Entry}
use Rattle.m2_journal.specs.declared.facts.PlanStep.{PlanStep}
use Rattle.m2_journal.specs.declared.facts.PlanStep.TheVariants as step
use Rattle.m2_node.specs.m2_links_go_on.LeftLaws.{PostsFit}
use Rattle.m2_node.specs.m2_script.m2_record.IsRecord.{CanBePlanned, IsRecord}
use Rattle.m2_node.specs.m2_script.m2_record.RecordNow.{RecordNow}
use Rattle.m2_scenario.specs.declared.line.Line.{Line}
use Rattle.m2_scenario.specs.declared.line.Line.TheVariants as line
use Rattle.m2_run.specs.Joined.{PostsOfTypes}
use Rattle.m2_node.specs.Planned.{plan_in}

-- a message that is to be posted keeps the ranges of its types
abbrev InRanges : PlanStep → Type 0
InRanges (step.Post m) = IsOfTypes m
InRanges _ = Unit {0}

-- ---- what lines have a record do

module _ (k j : ℕ) where
  more : (s : PlanStep) → InRanges s → (b : Bool) (rest : List PlanStep) → AllByRecursion InRanges rest → AllByRecursion InRanges (cons_option (if b then Some s else None) rest)
  more s is true rest all = (is, all)
  more s is false rest all = all

  pub in_ranges : (lines : List Line) → AllByRecursion PostsOfTypes lines → AllByRecursion InRanges (plan_in lines k j)
  in_ranges [] all = tt
  in_ranges (line.Post a b m ∷ lines) all = more (step.Post m) all.0 ((a == k) && (b == j)) (plan_in lines k j) (in_ranges lines all.1)
  in_ranges (line.Dial a b ∷ lines) all = more step.Dial tt ((a == k) && (b == j)) (plan_in lines k j) (in_ranges lines all.1)
  in_ranges (line.Down a b ∷ lines) all = more step.Down tt ((a == k) && (b == j)) (plan_in lines k j) (in_ranges lines all.1)
  in_ranges (line.Cut a b bytes ∷ lines) all = in_ranges lines all.1
  in_ranges (line.Turn a ∷ lines) all = in_ranges lines all.1
  in_ranges (line.Flow a b socket most ∷ lines) all = in_ranges lines all.1
  in_ranges (line.Fault a b socket ∷ lines) all = in_ranges lines all.1
  in_ranges (line.Settle rounds ∷ lines) all = in_ranges lines all.1

-- ---- what a journal posts

post_at : (place : ℕ) (steps : List PlanStep) (n : ℕ) → AllByRecursion CanBePlanned steps → AllByRecursion InRanges steps → CanBePosted (item.post place (slice_get (map planned steps) n))
post_at place [] n can within = tt
post_at place (step.Post m ∷ steps) zero can within = sendable_keeps m within.0 can.0
post_at place (step.Dial ∷ steps) zero can within = tt
post_at place (step.Down ∷ steps) zero can within = tt
post_at place (x ∷ steps) (suc n) can within = post_at place steps n can.1 within.1

all_items : (P : JournalItem → Type 0) (s : Sources) → ((p : Places) (e : Entry) → P (item_of s p e)) → (p : Places) (es : List Entry) → AllByRecursion P (items_from s p es)
all_items P s h p [] = tt
all_items P s h p (e ∷ es) = (h p e, all_items P s h (passed e p) es)

pub posts_fit : (lines : List Line) → AllByRecursion PostsOfTypes lines → (k : ℕ) (r : RecordNow) → IsRecord r → r.plan ≡ plan_in lines k r.place → PostsFit r
posts_fit lines types k r is plan =
    all_items CanBePosted (sources_in r.plan (parts_of r))
    (λ p e. one_post (sources_in r.plan (parts_of r)) (λ place n. post_at place r.plan n is.kept.plan (subst (AllByRecursion InRanges) (sym plan) (in_ranges k r.place lines types))) p e) at_start r.journal
