-- What is left of the ways of all links that are up is what is left.
use Rattle.std.proofs.Common.{◌≡◌, ℕ, ◌+◌, ◌-◌, ◌≤◌, zero, suc, Bool, true, false, cond, List, [], ◌∷◌, length, map, Option, Some, None, unwrap_or, count_by, sum_by, refl, sym, ap, ◌∙◌, arith}
use Rattle.std.specs.Prelude.{flat_map}
use Rattle.std.specs.List.{range_with_len, slice_get}
use Rattle.std.specs.Option.{option_map}
use Rattle.std.proofs.lemmas.List.Sums.{sum_by-append, sum_by-cons}
use Rattle.std.proofs.lemmas.Option.{slice_get-map, slice_get_past}
use Rattle.m2_bytes.specs.Items.{Holding}
use Rattle.m2_dispatch.specs.declared.logged.Logged.{Logged}
use Rattle.m2_dispatch.specs.Heard.{Heard, heard_by, is_message_from}
use Rattle.m2_script.specs.declared.ways.Way.{Way}
use Rattle.m2_script.specs.Ways.{heard_if, left_of, way_of, ways_over}
use Rattle.m2_scenario.specs.Report.{heard_in}
use Rattle.m2_scenario.specs.declared.link.Link.{Link}
use Rattle.m2_script.specs.Outcome.{all_heard, heard_at, heard_of_node, is_up, left_from, left_in, left_over, posts_at}
use Rattle.m2_script.specs.Script.{RunNow}

-- ---- what a node heard

as_mapped : (o : Option (Holding Logged)) → heard_if o ≡ unwrap_or (option_map heard_in o) []
as_mapped None = refl
as_mapped (Some log) = refl

-- what is read of a place of a list made place by place
read_at : {Y : Type 0} (f : ℕ → List Y) (a n k : ℕ) → (n ≤ k → f (a + k) ≡ []) → unwrap_or (slice_get (map f (range_with_len a n)) k) [] ≡ f (a + k)
read_at f a zero k none = sym (none (omega arith))
read_at f a (suc n) zero none = (let e : a ≡ a + 0 = omega arith in ap f e)
read_at f a (suc n) (suc k) none =
    let e : (a + 1) + k ≡ a + suc k = omega arith in
    read_at f (a + 1) n k (λ h. (ap f e ∙ none (let more : suc n ≤ suc k = omega (arith, h) in more))) ∙ ap f e

none_past_nodes : (s : RunNow (List Logged)) (y : ℕ) → length s.cluster.nodes ≤ y → heard_at heard_by s y ≡ []
none_past_nodes s y h = ap (heard_of_node heard_by y s.calls) (slice_get_past s.cluster.nodes y h)

pub heard_of_log : (logs : List (Holding Logged)) (s : RunNow (List Logged)) (y : ℕ) → map heard_in logs ≡ all_heard heard_by s → heard_if (slice_get logs y) ≡ heard_at heard_by s y
heard_of_log logs s y h =
    let first : 0 + y ≡ y = omega arith in
    as_mapped (slice_get logs y)
    ∙ ap (λ (o : Option (List Heard)). unwrap_or o []) (sym (slice_get-map heard_in logs y) ∙ ap (λ (hs : List (List Heard)). slice_get hs y) h)
    ∙ read_at (heard_at heard_by s) 0 (length s.cluster.nodes) y (λ past. ap (heard_at heard_by s) first ∙ none_past_nodes s y past)
    ∙ ap (heard_at heard_by s) first

-- ---- what is left

left_of_way : (logs : List (Holding Logged)) (s : RunNow (List Logged)) (x y : ℕ) → map heard_in logs ≡ all_heard heard_by s → left_of logs (way_of s x y) ≡ left_from heard_by s x y
left_of_way logs s x y h = ap (λ (hs : List Heard). posts_at s x y - count_by (is_message_from x) hs) (heard_of_log logs s y h)

two : (f : Way → ℕ) (v w : Way) → sum_by f (v ∷ w ∷ []) ≡ f v + f w
two f v w = sum_by-cons f v (w ∷ []) ∙ ap (λ n. f v + n) (sum_by-cons f w [] ∙ omega arith)

left_of_link : (logs : List (Holding Logged)) (s : RunNow (List Logged)) (l : Link) → map heard_in logs ≡ all_heard heard_by s → sum_by (left_of logs) (ways_over s l) ≡ left_over heard_by s l
left_of_link logs s l h = go (is_up s l)
  where
    go : (b : Bool) → sum_by (left_of logs) (cond b (way_of s l.a l.b ∷ way_of s l.b l.a ∷ []) []) ≡ cond b (left_from heard_by s l.a l.b + left_from heard_by s l.b l.a) 0
    go true =
        two (left_of logs) (way_of s l.a l.b) (way_of s l.b l.a)
        ∙ ap (λ n. n + left_of logs (way_of s l.b l.a)) (left_of_way logs s l.a l.b h)
        ∙ ap (λ n. left_from heard_by s l.a l.b + n) (left_of_way logs s l.b l.a h)
    go false = refl

pub left_of_all : (logs : List (Holding Logged)) (s : RunNow (List Logged)) (links : List Link) → map heard_in logs ≡ all_heard heard_by s →
    sum_by (left_of logs) (flat_map (ways_over s) links) ≡ left_in heard_by links s
left_of_all logs s [] h = refl
left_of_all logs s (l ∷ ls) h =
    sum_by-append (left_of logs) (ways_over s l) (flat_map (ways_over s) ls)
    ∙ ap (λ n. n + sum_by (left_of logs) (flat_map (ways_over s) ls)) (left_of_link logs s l h)
    ∙ ap (λ n. left_over heard_by s l + n) (left_of_all logs s ls h)
    ∙ sym (sum_by-cons (left_over heard_by s) l ls)
