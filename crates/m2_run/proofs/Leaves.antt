-- What nodes leave and lack, center by center.
use Rattle.std.proofs.Common.{◌≡◌, ℕ, ◌+◌, ◌<◌, ◌≤◌, Bool, true, false, ◌||◌, cond, List, [], ◌++◌, length, map, get_or, drop, sym, ap, ◌∙◌, arith, drop_of_length-le}
use Rattle.std.specs.Prelude.{count_by, slice_get, Option, Some, None}
use Rattle.std.specs.List.{flat_map, list_any}
use Rattle.std.specs.Option.{option_map}
use Rattle.std.proofs.lemmas.List.{at_drop_more, map-append}
use Rattle.std.proofs.lemmas.List.Folds.{list_any-append}
use Rattle.std.proofs.lemmas.List.Sums.{sum_by-append}
use Rattle.std.proofs.lemmas.Option.{slice_get-map, slice_get_past}
use Rattle.m2_dispatch.specs.Heard.{Heard, heard_by, heard_of, is_message_from}
use Rattle.m2_dispatch.specs.declared.logged.Logged.{Logged}
use Rattle.m2_fabric.specs.declared.socket.SocketId.{SocketId}
use Rattle.m2_node.specs.m2_script.m2_record.RecordNow.{RecordNow}
use Rattle.m2_node.specs.Nodes.{RunNodeNow, as_one}
use Rattle.m2_node.specs.m2_script.m2_center.Center.{CenterNow}
use Rattle.m2_node.specs.m2_script.m2_cluster.Node.{NodeNow}

-- ---- what centers have

abbrev pub records_over : List (CenterNow (List Logged)) → List RecordNow
records_over cs = flat_map (λ (c : CenterNow (List Logged)). c.records) cs

abbrev pub fast_over : List (CenterNow (List Logged)) → List Logged
fast_over cs = flat_map (λ (c : CenterNow (List Logged)). c.out.fast) cs

abbrev pub queued_over : List (CenterNow (List Logged)) → List Logged
queued_over cs = flat_map (λ (c : CenterNow (List Logged)). c.queued.inner) cs

abbrev pub made_over : List (CenterNow (List Logged)) → List SocketId
made_over cs = flat_map (λ (c : CenterNow (List Logged)). c.port.made) cs

-- ---- one place after another

-- what the places that are left give begins with what the next one gives
pub next_given : {X Y : Type 0} (f : X → List Y) (xs : List X) (i : ℕ) (x : X) → i < length xs → x ≡ get_or xs i x → flat_map f (drop i xs) ≡ f x ++ flat_map f (drop (i + 1) xs)
next_given f xs i x less read = at_drop_more (flat_map f) xs i x less ∙ ap (λ y. f y ++ flat_map f (drop (i + 1) xs)) (sym read)

pub none_given : {X Y : Type 0} (f : X → List Y) (xs : List X) (i : ℕ) → length xs ≤ i → flat_map f (drop i xs) ≡ []
none_given f xs i all = ap (flat_map f) (drop_of_length-le xs all)

-- where what a place gives is counted, with what is left it is all that all give
module _ {X Y : Type 0} (count : List Y → ℕ) (f : X → List Y) (xs : List X) (i : ℕ) where
  pub counted_more : ((ys zs : List Y) → count (ys ++ zs) ≡ count ys + count zs) → (x : X) (so_far more next whole : ℕ) → i < length xs → x ≡ get_or xs i x → more ≡ count (f x) →
      next ≡ so_far + more → so_far + count (flat_map f (drop i xs)) ≡ whole → next + count (flat_map f (drop (i + 1) xs)) ≡ whole
  counted_more both x so_far more next whole less read is adds left =
      let split : count (flat_map f (drop i xs)) ≡ count (f x) + count (flat_map f (drop (i + 1) xs)) = ap count (next_given f xs i x less read) ∙ both (f x) (flat_map f (drop (i + 1) xs)) in
      omega (arith, split, is, adds, left)

  pub counted_all : count [] ≡ 0 → (so_far whole : ℕ) → length xs ≤ i → so_far + count (flat_map f (drop i xs)) ≡ whole → so_far ≡ whole
  counted_all none so_far whole all left = let rest : count (flat_map f (drop i xs)) ≡ 0 = ap count (none_given f xs i all) ∙ none in omega (arith, rest, left)

  -- and where it is taken off, what is left of it
  pub taken_more : ((ys zs : List Y) → count (ys ++ zs) ≡ count ys + count zs) → (x : X) (rest less more whole all : ℕ) → i < length xs → x ≡ get_or xs i x → more ≡ count (f x) →
      less + more ≡ rest → rest + all ≡ whole + count (flat_map f (drop i xs)) → less + all ≡ whole + count (flat_map f (drop (i + 1) xs))
  taken_more both x rest less more whole all within read is takes left =
      let split : count (flat_map f (drop i xs)) ≡ count (f x) + count (flat_map f (drop (i + 1) xs)) = ap count (next_given f xs i x within read) ∙ both (f x) (flat_map f (drop (i + 1) xs)) in
      omega (arith, split, is, takes, left)

  pub taken_all : count [] ≡ 0 → (rest whole all : ℕ) → length xs ≤ i → rest + all ≡ whole + count (flat_map f (drop i xs)) → rest + all ≡ whole
  taken_all none rest whole all behind left = let last : count (flat_map f (drop i xs)) ≡ 0 = ap count (none_given f xs i behind) ∙ none in omega (arith, last, left)

-- whether one of all that places give passes a test
module _ {X Y : Type 0} (test : Y → Bool) (f : X → List Y) (xs : List X) (i : ℕ) (x : X) (less : i < length xs) (read : x ≡ get_or xs i x) where
  any_there : list_any test (flat_map f (drop i xs)) ≡ (list_any test (f x) || list_any test (flat_map f (drop (i + 1) xs)))
  any_there = ap (list_any test) (next_given f xs i x less read) ∙ list_any-append test (f x) (flat_map f (drop (i + 1) xs))

  pub any_found : (whole : Bool) → list_any test (f x) ≡ true → list_any test (flat_map f (drop i xs)) ≡ whole → true ≡ whole
  any_found whole is left = sym (any_there ∙ ap (λ b. b || list_any test (flat_map f (drop (i + 1) xs))) is) ∙ left

  pub any_more : (whole : Bool) → list_any test (f x) ≡ false → list_any test (flat_map f (drop i xs)) ≡ whole → list_any test (flat_map f (drop (i + 1) xs)) ≡ whole
  any_more whole isnt left = sym (any_there ∙ ap (λ b. b || list_any test (flat_map f (drop (i + 1) xs))) isnt) ∙ left

-- ---- messages

abbrev pub messages : ℕ → List Heard → ℕ
messages from hs = count_by (is_message_from from) hs

pub messages_sum : (from : ℕ) (gs hs : List Heard) → messages from (gs ++ hs) ≡ messages from gs + messages from hs
messages_sum from gs hs = sum_by-append (λ (h : Heard). cond (is_message_from from h) 1 0) gs hs

pub messages_both : (from : ℕ) (ys zs : List Logged) → messages from (heard_by (ys ++ zs)) ≡ messages from (heard_by ys) + messages from (heard_by zs)
messages_both from ys zs = ap (messages from) (map-append heard_of ys zs) ∙ messages_sum from (heard_by ys) (heard_by zs)

-- ---- a node at a place

module _ (all : List RunNodeNow) (k : ℕ) where
  -- what is told of the node that stands there, as of one center
  pub at_node : {Y : Type 0} (f : Option (NodeNow (List Logged)) → Y) (n : RunNodeNow) → slice_get all k ≡ Some n → f (Some (as_one n)) ≡ f (slice_get (map as_one all) k)
  at_node f n there = sym (ap f (slice_get-map as_one all k ∙ ap (option_map as_one) there))

  pub at_none : {Y : Type 0} (f : Option (NodeNow (List Logged)) → Y) → length all ≤ k → f None ≡ f (slice_get (map as_one all) k)
  at_none f past = sym (ap f (slice_get-map as_one all k ∙ ap (option_map as_one) (slice_get_past all k past)))
