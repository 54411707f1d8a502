-- A deed of a run's nodes and links can be done: where a link joins two nodes there is a record of the one towards the other.
use Rattle.std.proofs.Common.{◌≡◌, ◌⊎◌, inl, inr, ℕ, ◌+◌, ◌<◌, ◌&&◌, ◌||◌, Bool, true, false, if◌then◌else◌, List, [], ◌∷◌, ◌++◌, length, map, slice_get, Option, Some, None, refl, sym, ap, subst, ◌∙◌}
use Rattle.std.specs.Prelude.{◌==◌, IfSome}
use Rattle.std.specs.List.{AllByRecursion, list_any}
use Rattle.std.specs.Option.{option_to_list}
use Rattle.std.proofs.lemmas.Bool.{and_parts, eq-eqb, eqb-false, eqb-true}
use Rattle.m2_dispatch.specs.Heard.{Heard}
use Rattle.m2_script.specs.m2_record.RecordNow.{RecordNow}
use Rattle.m2_script.specs.m2_center.Plans.{IsReadyFor, side_towards}
use Rattle.m2_script.specs.m2_cluster.Node.{NodeNow}
use Rattle.m2_promise.specs.Planned.{IsKeptNode, IsTaken}
use Rattle.m2_scenario.specs.declared.link.Link.{Link}
use Rattle.m2_scenario.specs.declared.node.Node.{Node}
use Rattle.m2_scenario.specs.Draft.{are_joined, joins}
use Rattle.m2_scenario.specs.Valid.{IsLink}
use Rattle.m2_script.specs.declared.made.Towards.{Towards}
use Rattle.m2_script.specs.Made.{Side, new_towards, other_of, over, records_of, side_of}
use Rattle.m2_script.specs.Script.{CanBeDone, Deed, IsWithin, RunNow, fault, flow, meet, plan, turn}
use Rattle.m2_promise.specs.Kept.{IsKept}
use Rattle.m2_promise.specs.KeepingLaws.{KeptCanBeDone}
use Rattle.m2_promise.proofs.KeptLists.{within}
use Rattle.m2_fabric.proofs.m2_lemmas.Lists.{all_at}

-- ---- sides

-- one of them is towards this node
abbrev has_side : ℕ → List Side → Bool
has_side b sides = list_any (λ (s : Side). s.place == b) sides

has_first : (b : ℕ) (rs ss : List RecordNow) → has_side b (map side_of rs) ≡ true → has_side b (map side_of (rs ++ ss)) ≡ true
has_first b [] ss has = absurd cc
has_first b (r ∷ rs) ss has = at (r.place == b) has (has_first b rs ss)
  where
    at : (t : Bool) → (t || has_side b (map side_of rs)) ≡ true → (has_side b (map side_of rs) ≡ true → has_side b (map side_of (rs ++ ss)) ≡ true) →
        (t || has_side b (map side_of (rs ++ ss))) ≡ true
    at true has rest = refl
    at false has rest = rest has

has_behind : (b : ℕ) (rs ss : List RecordNow) → has_side b (map side_of ss) ≡ true → has_side b (map side_of (rs ++ ss)) ≡ true
has_behind b [] ss has = has
has_behind b (r ∷ rs) ss has = at (r.place == b) (has_behind b rs ss has)
  where
    at : (t : Bool) → has_side b (map side_of (rs ++ ss)) ≡ true → (t || has_side b (map side_of (rs ++ ss))) ≡ true
    at true rest = refl
    at false rest = rest

-- the first that is is ready, where each step of all was taken
first_ready : (b : ℕ) (rs : List RecordNow) → AllByRecursion IsTaken rs → has_side b (map side_of rs) ≡ true → IsReadyFor b rs
first_ready b [] taken has = absurd cc
first_ready b (r ∷ rs) taken has = at (r.place == b) refl has (first_ready b rs taken.1)
  where
    at : (t : Bool) → (r.place == b) ≡ t → (t || has_side b (map side_of rs)) ≡ true → (has_side b (map side_of rs) ≡ true → IsReadyFor b rs) → IsReadyFor b (r ∷ rs)
    at true is has rest = record { side = r; first = ap (λ (t : Bool). if t then Some r else side_towards b rs) is; taken = taken.0 }
    at false is has rest =
        let more = rest has in
        record { side = more.side; first = ap (λ (t : Bool). if t then Some r else side_towards b rs) is ∙ more.first; taken = more.taken }

-- ---- a link

-- its two nodes are these
both_are : (a b : ℕ) (l : Link) → joins a b l ≡ true → ((l.a ≡ a) × (l.b ≡ b)) ⊎ ((l.a ≡ b) × (l.b ≡ a))
both_are a b l is = at ((l.a == a) && (l.b == b)) refl is
  where
    at : (t : Bool) → ((l.a == a) && (l.b == b)) ≡ t → (t || ((l.a == b) && (l.b == a))) ≡ true → ((l.a ≡ a) × (l.b ≡ b)) ⊎ ((l.a ≡ b) × (l.b ≡ a))
    at true e h = let p = and_parts (l.a == a) (l.b == b) e in inl (eqb-true l.a a p.0, eqb-true l.b b p.1)
    at false e h = let p = and_parts (l.a == b) (l.b == a) h in inr (eqb-true l.a b p.0, eqb-true l.b a p.1)

module _ (nodes : List Node) (a b word : ℕ) (there : a < length nodes) where
  -- a new record towards the node at a place
  towards : (t : Towards) → t.place ≡ b → t.place < length nodes → has_side b (map side_of (option_to_list (over nodes a word (Some t)))) ≡ true
  towards t is few =
      let mine = within nodes a there in
      let peer = within nodes t.place few in
      ap (λ (o : Option Node). has_side b (map side_of (option_to_list (new_towards o (slice_get nodes t.place) a word t)))) mine.there
      ∙ (ap (λ (o : Option Node). has_side b (map side_of (option_to_list (new_towards (Some mine.item) o a word t)))) peer.there
      ∙ ap (λ (u : Bool). u || false) (eq-eqb t.place b is))

  -- the one over a link of both nodes
  over_link : (l : Link) → IsLink (length nodes) l → joins a b l ≡ true → has_side b (map side_of (option_to_list (over nodes a word (other_of a l)))) ≡ true
  over_link l is both = at (l.a == a) (l.b == a) refl refl (both_are a b l both)
    where
      first : Towards
      first = record { place = l.b; policy = l.of_a }

      second : Towards
      second = record { place = l.a; policy = l.of_b }

      at : (t u : Bool) → (l.a == a) ≡ t → (l.b == a) ≡ u → ((l.a ≡ a) × (l.b ≡ b)) ⊎ ((l.a ≡ b) × (l.b ≡ a)) →
          has_side b (map side_of (option_to_list (over nodes a word (if t then Some first else (if u then Some second else None))))) ≡ true
      at true u e f (inl p) = towards first p.1 is.b
      at true u e f (inr p) = towards first (p.1 ∙ (sym (eqb-true l.a a e) ∙ p.0)) is.b
      at false u e f (inl p) = absurd (eqb-false l.a a e p.0)
      at false true e f (inr p) = towards second p.0 is.a
      at false false e f (inr p) = absurd (eqb-false l.b a f p.1)

  -- so there is one among those over links of which one joins both
  over_links : (links : List Link) → AllByRecursion (IsLink (length nodes)) links → are_joined links a b ≡ true → has_side b (map side_of (records_of nodes links a word)) ≡ true
  over_links [] all is = absurd cc
  over_links (l ∷ ls) all is = at (joins a b l) refl is (over_links ls all.1)
    where
      this : List RecordNow
      this = option_to_list (over nodes a word (other_of a l))

      at : (t : Bool) → joins a b l ≡ t → (t || are_joined ls a b) ≡ true → (are_joined ls a b ≡ true → has_side b (map side_of (records_of nodes ls a word)) ≡ true) →
          has_side b (map side_of (this ++ records_of nodes ls a word)) ≡ true
      at true e h rest = has_first b this (records_of nodes ls a word) (over_link l all.0 e)
      at false e h rest = has_behind b this (records_of nodes ls a word) (rest h)

-- ---- deeds

module _ {D : Type 0} where
  is_ready : (heard : D → List Heard) (nodes : List Node) (links : List Link) (a b : ℕ) (s : RunNow D) → AllByRecursion (IsLink (length nodes)) links → a < length nodes →
      are_joined links a b ≡ true → IsKept heard nodes links s → IfSome (slice_get s.cluster.nodes a) (λ (n : NodeNow D). IsReadyFor b n.center.records)
  is_ready heard nodes links a b s joined few is kept = at (slice_get s.cluster.nodes a) refl
    where
      at : (o : Option (NodeNow D)) → slice_get s.cluster.nodes a ≡ o → IfSome o (λ (n : NodeNow D). IsReadyFor b n.center.records)
      at None there = tt
      at (Some n) there =
          first_ready b n.center.records (all_at (IsKeptNode heard) s.cluster.nodes a n there kept.kept).taken
          (ap (has_side b) (kept.sides a n there) ∙ over_links nodes a b (a + 1) few links joined is)

  pub can_be : KeptCanBeDone D
  can_be heard nodes links d s joined w kept = of_deed d w
    where
      here : (a : ℕ) → a < length nodes → a < length s.cluster.nodes
      here a few = subst (λ n. a < n) (sym kept.count) few

      met : (a : ℕ) → a < length nodes → a < length s.fabric.nodes
      met a few = subst (λ n. a < n) (sym kept.count ∙ kept.rest.running.in_step.nodes) few

      of_deed : (d : Deed) → IsWithin links (length nodes) d → CanBeDone d s
      of_deed (plan a b x) w = record { node = here a w.node; ready = is_ready heard nodes links a b s joined w.node w.joined kept; step = w.step }
      of_deed (turn a) w = here a w
      of_deed (meet a) w = record { node = met a w; in_step = kept.rest.running.in_step }
      of_deed (flow a b socket most) w = record { from = met a w.0; to = met b w.1; in_step = kept.rest.running.in_step }
      of_deed (fault a b socket) w = record { from = met a w.0; to = met b w.1; in_step = kept.rest.running.in_step }
