-- Links of the load are up, where no record gave its session up: no line marks one down.
use Rattle.std.proofs.Common.{◌≡◌, ℕ, zero, suc, ◌==◌, ◌%◌, Bool, true, false, cond, List, [], ◌∷◌, ◌++◌, refl, ◌∙◌}
use Rattle.std.specs.List.{AllByRecursion, list_any}
use Rattle.std.proofs.lemmas.List.Folds.{list_any-append}
use Rattle.m2_scenario.specs.m2_dispatch.declared.logged.Logged.{Logged}
use Rattle.m2_scenario.specs.Cluster.{all_pairs}
use Rattle.m2_scenario.specs.Generated.{draws_of, fault_after, first_lines, generated, lines_by, settle_by}
use Rattle.m2_scenario.specs.OrderLaws.{AreAll}
use Rattle.m2_cli.specs.Run.{IsMarkedSo, gave_up_at, is_down_of}
use Rattle.m2_scenario.specs.declared.link.Link.{Link}
use Rattle.m2_scenario.specs.Draft.{DraftLine, settle}
use Rattle.m2_exact.specs.m2_script.Outcome.{is_down_at, is_lossless, is_up}
use Rattle.m2_exact.specs.m2_script.Script.{RunNow}
use Rattle.m2_cli.specs.Load.{NoneGaveUp}
use Rattle.m2_cli.specs.Order.{EndsAreMarkedSo}

-- ---- no line marks a record down

none_of_both : (p : DraftLine → Bool) (ls ms : List DraftLine) → list_any p ls ≡ false → list_any p ms ≡ false → list_any p (ls ++ ms) ≡ false
none_of_both p ls ms h k = list_any-append p ls ms ∙ rw (h, k) refl

none_where : (p : DraftLine → Bool) (t : Bool) (l : DraftLine) → p l ≡ false → list_any p (cond t (l ∷ []) []) ≡ false
none_where p true l h = rw h refl
none_where p false l h = refl

-- nor does one of those of a post
none_by : (x y i : ℕ) (v : ℕ → ℕ) → list_any (is_down_of x y) (lines_by i v) ≡ false
none_by x y i v =
    none_of_both (is_down_of x y) (fault_after i _ _) (settle_by i) (none_where (is_down_of x y) _ _ refl)
    (none_where (is_down_of x y) (i % 8 == 7) (settle 1) refl)

none_first : (x y seed n : ℕ) → list_any (is_down_of x y) (first_lines seed n) ≡ false
none_first x y seed zero = refl
none_first x y seed (suc i) =
    none_of_both (is_down_of x y) (first_lines seed i) (lines_by i (draws_of seed i)) (none_first x y seed i) (none_by x y i (draws_of seed i))

none_down : (x y n seed : ℕ) → list_any (is_down_of x y) (generated n seed).lines ≡ false
none_down x y n seed = none_of_both (is_down_of x y) (first_lines seed n) _ (none_first x y seed n) refl

-- ---- each link is up

not_marked : (n seed : ℕ) (last : RunNow (List Logged)) (x y : ℕ) → IsMarkedSo (generated n seed).lines last x y → gave_up_at last x y ≡ false
    → is_down_at last x y ≡ false
not_marked n seed last x y marked gave = marked ∙ rw (none_down x y n seed, gave) refl

abbrev AreLossless : List Link → Type 0
AreLossless links = AllByRecursion (λ (l : Link). is_lossless l ≡ true) links

are_up : (n seed : ℕ) (last : RunNow (List Logged)) (links : List Link) → AreLossless links → AllByRecursion (EndsAreMarkedSo (generated n seed) last) links
    → NoneGaveUp links last → AreAll (is_up last) links
are_up n seed last [] lossless marked none = tt
are_up n seed last (l ∷ ls) lossless marked none =
    let near = not_marked n seed last l.a l.b marked.0.0 none.0.0 in
    let far = not_marked n seed last l.b l.a marked.0.1 none.0.1 in
    (rw (lossless.0, near, far) refl, are_up n seed last ls lossless.1 marked.1 none.1)

all_lossless : AreLossless all_pairs
all_lossless = (refl, (refl, (refl, (refl, (refl, (refl, tt))))))

pub load_is_up : (n seed : ℕ) (last : RunNow (List Logged)) → AllByRecursion (EndsAreMarkedSo (generated n seed) last) (generated n seed).links
    → NoneGaveUp (generated n seed).links last → AreAll (is_up last) (generated n seed).links
load_is_up n seed last marked none = are_up n seed last all_pairs all_lossless marked none
