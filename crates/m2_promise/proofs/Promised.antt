-- What is promised of nodes where a run has ended.
use Rattle.std.proofs.Common.{◌≡◌, ℕ, zero, suc, ◌+◌, ◌<◌, ◌≤◌, ◌⊎◌, inl, inr, ⊎_elim, Bool, true, false, not, ◌||◌, if◌then◌else◌, List, [], ◌∷◌, length, map, Option, Some, None, refl, sym, ap, subst, ◌∙◌, arith, sum_by, count_by}
use Rattle.std.specs.Prelude.{slice_get}
use Rattle.std.specs.List.{AllByRecursion, range_with_len}
use Rattle.std.proofs.lemmas.Bool.{and_parts, cases_lt, or_parts}
use Rattle.std.proofs.lemmas.List.{length-map}
use Rattle.std.proofs.lemmas.List.Elements.{recursion_from_All}
use Rattle.std.proofs.lemmas.List.FromFn.{length-range_with_len}
use Rattle.std.proofs.lemmas.List.Sums.{sum_by-cons}
use Rattle.std.proofs.lemmas.Option.{slice_get_past, none-some, same_Some}
use Rattle.m2_script.specs.m2_cluster.Node.{NodeNow}
use Rattle.m2_dispatch.specs.declared.logged.Logged.{Logged}
use Rattle.m2_dispatch.specs.Heard.{Heard, heard_by, is_message_from, of_key, peer_of}
use Rattle.m2_links_go_on.specs.m2_growth.Halves.{IsOneOf}
use Rattle.m2_links_go_on.proofs.m2_growth.Among.{each_by, of_each}
use Rattle.m2_promise.specs.AtEnd.{AreAtEnd, Beside, posts_to}
use Rattle.m2_scenario.specs.Order.{AreOfJoined, HearsNoReset, HearsPrefix, HearsWhole, IsPeer, at, fast_of, messages_between, posts_between, posts_of}
use Rattle.m2_links_go_on.specs.OfPeers.{IsPeerOf}
use Rattle.m2_dispatch.specs.m2_policy.declared.path.Key.{Key}
use Rattle.m2_promise.specs.Posted.{AreHeardInLives, AreSomeOf, HearsInLives, HearsSome, IsAccountedOver, IsMarkedOnlySo, IsPromised, is_lossy, items_by}
use Rattle.m2_promise.proofs.Centers.{fast_of_peers, queued_of_peers}
use Rattle.m2_promise.proofs.Hears.{HearsOf}
use Rattle.m2_promise.proofs.Joined.{AreLaws, KeepsAll, StaysUp, a_hears, a_hears_in_lives, a_hears_some, a_marked, accepted, b_hears, b_hears_in_lives, b_hears_some, b_marked, come_in, is_order, journals, lives_in, marked_in, of_a, of_b, order, records, up_in}
use Rattle.m2_promise.proofs.Sides.{from_a, from_b, peer_joined}
use Rattle.m2_promise.proofs.PostsTowards.{IsTowards, is_towards, posts_counted}
use Rattle.m2_promise.proofs.Turns.{all_turns}
use Rattle.m2_scenario.specs.declared.link.Link.{Link}
use Rattle.m2_scenario.specs.declared.node.Node.{Node}
use Rattle.m2_scenario.specs.Draft.{DraftLine}
use Rattle.m2_scenario.specs.Valid.{IsLink, IsSound}
use Rattle.m2_script.specs.Outcome.{all_heard, heard_at, heard_of_node, is_down_at, is_lossless, is_up, left_from, left_in, left_over, messages_at, of_node, posts_at}
use Rattle.m2_script.specs.Script.{RunNow}
use Rattle.m2_script.specs.declared.made.Towards.{Towards}
use Rattle.m2_script.specs.m2_record.RecordNow.{RecordNow}
use Rattle.m2_fabric.proofs.m2_lemmas.Booleans.{from_false_true, negated_is_false}
use Rattle.m2_fabric.proofs.m2_lemmas.Lists.{all_so}

-- ---- lists

in_range : {X : Type 0} (f : ℕ → List X) (k n y : ℕ) → y < n → at y (map f (range_with_len k n)) ≡ f (k + y)
in_range f k zero y h = absurd (omega (arith, h))
in_range f k (suc n) zero h = ap f (omega arith)
in_range f k (suc n) (suc y) h = in_range f (k + 1) n y (omega (arith, h)) ∙ ap f (omega arith)

past_range : {X : Type 0} (f : ℕ → List X) (k n y : ℕ) → n ≤ y → at y (map f (range_with_len k n)) ≡ []
past_range f k zero y h = refl
past_range f k (suc n) zero h = absurd (omega (arith, h))
past_range f k (suc n) (suc y) h = past_range f (k + 1) n y (omega (arith, h))

at_mapped : {X Y : Type 0} (f : X → List Y) (xs : List X) (y : ℕ) (x : X) → slice_get xs y ≡ Some x → at y (map f xs) ≡ f x
at_mapped f [] y x e = absurd (none-some x e)
at_mapped f (z ∷ xs) zero x e = ap f (same_Some z x e)
at_mapped f (z ∷ xs) (suc y) x e = at_mapped f xs y x e

each_zero : {X : Type 0} (f : X → ℕ) (x : X) (xs : List X) → sum_by f xs ≡ 0 → IsOneOf x xs → f x ≡ 0
each_zero f x [] none one = absurd one
each_zero f x (y ∷ xs) none (inl e) = ap f e ∙ (let all = sum_by-cons f y xs in omega (arith, all, none))
each_zero f x (y ∷ xs) none (inr one) = each_zero f x xs (let all = sum_by-cons f y xs in omega (arith, all, none)) one

sums : {X : Type 0} (f g h : X → ℕ) (xs : List X) → ((x : X) → IsOneOf x xs → f x + g x ≡ h x) → sum_by f xs + sum_by g xs ≡ sum_by h xs
sums f g h [] each = refl
sums f g h (x ∷ xs) each =
    let a = sum_by-cons f x xs in
    let b = sum_by-cons g x xs in
    let c = sum_by-cons h x xs in
    let here = each x (inl refl) in
    let rest = sums f g h xs (λ y one. each y (inr one)) in
    omega (arith, a, b, c, here, rest)

-- ---- a run

module _ (laws : AreLaws) (nodes : List Node) (links : List Link) (lines : List DraftLine) (beside : Beside) (s : RunNow (List Logged)) (sound : IsSound nodes links lines)
    (ended : AreAtEnd nodes links lines beside s) where
  abbrev all : List (List Heard)
  all = all_heard heard_by s

  abbrev fasts : List (List ℕ)
  fasts = map fast_of nodes

  -- what a node heard is at its place
  heard_is : (y : ℕ) → at y all ≡ heard_at heard_by s y
  heard_is y =
      ⊎_elim
      (λ h. in_range (heard_at heard_by s) 0 (length s.cluster.nodes) y h ∙ ap (heard_at heard_by s) (omega arith))
      (λ h. past_range (heard_at heard_by s) 0 (length s.cluster.nodes) y h ∙ sym (ap (heard_of_node heard_by y s.calls) (slice_get_past s.cluster.nodes y h)))
      (cases_lt y (length s.cluster.nodes))

  -- what holds of all that a node heard holds of what is at its place
  heard_so : (P : List Heard → Type 0) (y : ℕ) → P (heard_at heard_by s y) → P (at y all)
  heard_so P y so = subst P (sym (heard_is y)) so

  abbrev of_side : {y : ℕ} {t : Towards} → IsTowards nodes s y t → RecordNow
  of_side e = e.side.item

  -- ---- a link

  is_link : (l : Link) → IsOneOf l links → IsLink (length nodes) l
  is_link l one = of_each (IsLink (length nodes)) l links (recursion_from_All (IsLink (length nodes)) links sound.joined) one

  keeps_all : (l : Link) → is_lossless l ≡ true → KeepsAll l
  keeps_all l lossless = let keep = or_parts l.of_a.lossy l.of_b.lossy (negated_is_false (l.of_a.lossy || l.of_b.lossy) lossless) in record { a_keeps = keep.0; b_keeps = keep.1 }

  one_lossy : (l : Link) → is_lossless l ≡ false → (l.of_a.lossy ≡ true) ⊎ (l.of_b.lossy ≡ true)
  one_lossy l lossy = by l.of_a.lossy l.of_b.lossy refl refl lossy
    where
      by : (c d : Bool) → l.of_a.lossy ≡ c → l.of_b.lossy ≡ d → not (c || d) ≡ false → (l.of_a.lossy ≡ true) ⊎ (l.of_b.lossy ≡ true)
      by true d e f h = inl e
      by false true e f h = inr f
      by false false e f h = from_false_true (sym h)

  parts_up : (l : Link) → is_up s l ≡ true → (is_lossless l ≡ true) × StaysUp s l
  parts_up l up =
      let parts = and_parts (is_lossless l) (not (is_down_at s l.a l.b || is_down_at s l.b l.a)) up in
      let none = or_parts (is_down_at s l.a l.b) (is_down_at s l.b l.a) (negated_is_false (is_down_at s l.a l.b || is_down_at s l.b l.a) parts.1) in
      (parts.0, record { a_up = none.0; b_up = none.1 })

  -- by what each node dispatches at once
  placed : (x y : ℕ) (mine : Node) → slice_get nodes y ≡ Some mine → HearsOf x y mine.fast lines (heard_at heard_by s y) → HearsOf x y (at y fasts) lines (at y all)
  placed x y mine e hears =
      subst (λ f. HearsOf x y f lines (at y all)) (sym (at_mapped fast_of nodes y mine e)) (subst (HearsOf x y mine.fast lines) (sym (heard_is y)) hears)

  some_placed : (x y : ℕ) (mine : Node) → slice_get nodes y ≡ Some mine → ((key : Key) → AreSomeOf (of_key x key (heard_at heard_by s y)) (posts_of x y mine.fast key lines)) → HearsSome fasts lines all x y
  some_placed x y mine e some key =
      subst (λ f. AreSomeOf (of_key x key (at y all)) (posts_of x y f key lines)) (sym (at_mapped fast_of nodes y mine e))
      (subst (λ heard. AreSomeOf (of_key x key heard) (posts_of x y mine.fast key lines)) (sym (heard_is y)) (some key))

  -- of a link that is up what both nodes heard, and how many posts were planned
  record Keeps (l : Link) : Type 0 where
    to_b : HearsOf l.a l.b (at l.b fasts) lines (at l.b all)
    to_a : HearsOf l.b l.a (at l.a fasts) lines (at l.a all)
    planned_to_b : posts_at s l.a l.b ≡ posts_between lines l.a l.b
    planned_to_a : posts_at s l.b l.a ≡ posts_between lines l.b l.a

  module _ (l : Link) (one : IsOneOf l links) where
    is : IsLink (length nodes) l
    is = is_link l one

    abbrev ea : IsTowards nodes s l.a (of_a l)
    ea = is_towards nodes links lines beside s ended l one l.a (of_a l) (from_a l) is.a is.b

    abbrev eb : IsTowards nodes s l.b (of_b l)
    eb = is_towards nodes links lines beside s ended l one l.b (of_b l) (from_b l is.different) is.b is.a

    keeps : is_up s l ≡ true → Keeps l
    keeps up =
        let so = parts_up l up in
        record {
          to_b = placed l.a l.b eb.mine eb.mine_there (b_hears laws nodes links lines beside s ended l one is ea eb (keeps_all l so.0) so.1);
          to_a = placed l.b l.a ea.mine ea.mine_there (a_hears laws nodes links lines beside s ended l one is ea eb (keeps_all l so.0) so.1);
          planned_to_b = posts_counted nodes links lines beside s ended l.a (of_a l) ea;
          planned_to_a = posts_counted nodes links lines beside s ended l.b (of_b l) eb;
        }

    hears_some : is_lossy l ≡ true → HearsSome fasts lines all l.a l.b × HearsSome fasts lines all l.b l.a
    hears_some lossy = (
      some_placed l.a l.b eb.mine eb.mine_there (b_hears_some laws nodes links lines beside s ended l one is ea eb (one_lossy l (negated_is_false (is_lossless l) lossy))),
      some_placed l.b l.a ea.mine ea.mine_there (a_hears_some laws nodes links lines beside s ended l one is ea eb (one_lossy l (negated_is_false (is_lossless l) lossy))),
    )

    marked : IsMarkedOnlySo lines s l.a l.b × IsMarkedOnlySo lines s l.b l.a
    marked = (a_marked laws nodes links lines beside s ended l one is ea eb, b_marked laws nodes links lines beside s ended l one is ea eb)

    in_lives : is_lossless l ≡ true → AreHeardInLives lines s l
    in_lives lossless = record {
      records = records laws nodes links lines beside s ended l one is ea eb;
      to_b = heard_so (HearsInLives l.a (of_side ea).core.facts (of_side eb).core.facts (items_by (of_side ea)) (items_by (of_side eb)) (posts_to l.a l.b lines)) l.b
          (b_hears_in_lives laws nodes links lines beside s ended l one is ea eb (keeps_all l lossless));
      to_a = heard_so (HearsInLives l.b (of_side eb).core.facts (of_side ea).core.facts (items_by (of_side eb)) (items_by (of_side ea)) (posts_to l.b l.a lines)) l.a
          (a_hears_in_lives laws nodes links lines beside s ended l one is ea eb (keeps_all l lossless));
    }

    accounted : IsAccountedOver beside s l
    accounted = record {
      records = records laws nodes links lines beside s ended l one is ea eb;
      order = order laws nodes links lines beside s ended l one is ea eb;
      accounted = record {
        is_order = is_order laws nodes links lines beside s ended l one is ea eb;
        journals = journals laws nodes links lines beside s ended l one is ea eb;
        up = λ up. up_in laws nodes links lines beside s ended l one is ea eb (keeps_all l (parts_up l up).0) (parts_up l up).1;
        lives = λ lossless. lives_in laws nodes links lines beside s ended l one is ea eb (keeps_all l lossless);
        lossless = λ lossless. marked_in laws nodes links lines beside s ended l one is ea eb (keeps_all l lossless);
        lossy = λ lossy. come_in laws nodes links lines beside s ended l one is ea eb (one_lossy l lossy);
      };
      near_acknowledged = λ up. (accepted laws nodes links lines beside s ended l one is ea eb (keeps_all l (parts_up l up).0) (parts_up l up).1).0;
      far_acknowledged = λ up. (accepted laws nodes links lines beside s ended l one is ea eb (keeps_all l (parts_up l up).0) (parts_up l up).1).1;
    }

  -- ---- how many are left

  count_is : (x y : ℕ) → messages_at heard_by s x y ≡ messages_between all x y
  count_is x y = ap (count_by (is_message_from x)) (sym (heard_is y))

  -- one way
  counted_from : (x y : ℕ) → posts_at s x y ≡ posts_between lines x y → messages_between all x y ≤ posts_between lines x y → messages_between all x y + left_from heard_by s x y ≡ posts_between lines x y
  counted_from x y planned few = let count = count_is x y in omega (arith, planned, few, count)

  none_left : (x y : ℕ) → posts_at s x y ≡ posts_between lines x y → messages_between all x y ≤ posts_between lines x y → left_from heard_by s x y ≡ 0 → messages_between all x y ≡ posts_between lines x y
  none_left x y planned few none = let count = count_is x y in omega (arith, planned, few, count, none)

  left_up : (l : Link) → is_up s l ≡ true → left_over heard_by s l ≡ left_from heard_by s l.a l.b + left_from heard_by s l.b l.a
  left_up l up = ap (λ c. if c then left_from heard_by s l.a l.b + left_from heard_by s l.b l.a else 0) up

  abbrev heard_over : Link → ℕ
  heard_over l = if is_up s l then messages_between all l.a l.b + messages_between all l.b l.a else 0

  abbrev posted_over : Link → ℕ
  posted_over l = if is_up s l then posts_between lines l.a l.b + posts_between lines l.b l.a else 0

  counted_over : (l : Link) → IsOneOf l links → heard_over l + left_over heard_by s l ≡ posted_over l
  counted_over l one = by (is_up s l) (λ e. keeps l one e)
    where
      by : (c : Bool) → (c ≡ true → Keeps l) →
          (if c then messages_between all l.a l.b + messages_between all l.b l.a else 0) + (if c then left_from heard_by s l.a l.b + left_from heard_by s l.b l.a else 0) ≡ (if c then posts_between lines l.a l.b + posts_between lines l.b l.a else 0)
      by true k =
          let its = k refl in
          let b = counted_from l.a l.b its.planned_to_b its.to_b.few in
          let a = counted_from l.b l.a its.planned_to_a its.to_a.few in
          omega (arith, a, b)
      by false k = refl

  -- ---- of whom calls are

  of_peers : (y : ℕ) (o : Option (NodeNow (List Logged))) → slice_get s.cluster.nodes y ≡ o → AllByRecursion (λ (h : Heard). IsPeer (length nodes) links y (peer_of h)) (heard_of_node heard_by y s.calls o)
  of_peers y None e = tt
  of_peers y (Some n) e =
      let node = ended.each y n e in
      let from : (h : Heard) → IsPeerOf n.center.records (peer_of h) → IsPeer (length nodes) links y (peer_of h) = λ h is. peer_joined nodes y node.word links n.center.records node.named_so (peer_of h) is in
      all_turns (λ (h : Heard). IsPeer (length nodes) links y (peer_of h)) (of_node y s.calls) (heard_by n.center.out.fast) (heard_by n.center.queued.inner)
      (all_so (λ (h : Heard). IsPeerOf n.center.records (peer_of h)) (λ (h : Heard). IsPeer (length nodes) links y (peer_of h)) from (heard_by n.center.out.fast) (fast_of_peers n node.centers node.are))
      (all_so (λ (h : Heard). IsPeerOf n.center.records (peer_of h)) (λ (h : Heard). IsPeer (length nodes) links y (peer_of h)) from (heard_by n.center.queued.inner) (queued_of_peers n node.centers node.are))

  are_joined : AreOfJoined (length nodes) links all
  are_joined = record {
    places = length-map (range_with_len 0 (length s.cluster.nodes)) (heard_at heard_by s) ∙ length-range_with_len 0 (length s.cluster.nodes) ∙ ended.count;
    peers = λ y. subst (AllByRecursion (λ (h : Heard). IsPeer (length nodes) links y (peer_of h))) (sym (heard_is y)) (of_peers y (slice_get s.cluster.nodes y) refl);
  }

  -- ---- all of it

  whole_over : left_in heard_by links s ≡ 0 → (l : Link) → IsOneOf l links → is_up s l ≡ true → HearsWhole fasts lines all l.a l.b × HearsWhole fasts lines all l.b l.a
  whole_over none l one up =
      let its = keeps l one up in
      let left = sym (left_up l up) ∙ each_zero (left_over heard_by s) l links none one in (
        its.to_b.whole (none_left l.a l.b its.planned_to_b its.to_b.few (omega (arith, left))),
        its.to_a.whole (none_left l.b l.a its.planned_to_a its.to_a.few (omega (arith, left))),
      )

  pub promised : IsPromised nodes links lines beside s
  promised = record {
    prefixes = each_by (λ (l : Link). is_up s l ≡ true → HearsPrefix fasts lines all l.a l.b × HearsPrefix fasts lines all l.b l.a) links (λ l one up. let its = keeps l one up in (its.to_b.prefix, its.to_a.prefix));
    whole = λ none. each_by (λ (l : Link). is_up s l ≡ true → HearsWhole fasts lines all l.a l.b × HearsWhole fasts lines all l.b l.a) links (whole_over none);
    no_reset = each_by (λ (l : Link). is_up s l ≡ true → HearsNoReset all l.a l.b × HearsNoReset all l.b l.a) links (λ l one up. let its = keeps l one up in (its.to_b.no_reset, its.to_a.no_reset));
    counted = sums heard_over (left_over heard_by s) posted_over links counted_over;
    lives = each_by (λ (l : Link). is_lossless l ≡ true → AreHeardInLives lines s l) links in_lives;
    some = each_by (λ (l : Link). is_lossy l ≡ true → HearsSome fasts lines all l.a l.b × HearsSome fasts lines all l.b l.a) links hears_some;
    joined = are_joined;
    marked = each_by (λ (l : Link). IsMarkedOnlySo lines s l.a l.b × IsMarkedOnlySo lines s l.b l.a) links marked;
    accounts = each_by (IsAccountedOver beside s) links accounted;
  }
