-- The centers of a node, one after another.
use Rattle.std.proofs.Common.{◌≡◌, ℕ, zero, suc, ◌+◌, ◌<◌, ◌≤◌, List, [], ◌∷◌, ◌++◌, length, get_or, set, take, drop, take_all, drop_of_length-le, Option, Some, None, refl, sym, ap, subst, ◌∙◌, arith}
use Rattle.std.specs.List.{AllByRecursion, flat_map}
use Rattle.std.specs.Option.{option_map}
use Rattle.std.proofs.lemmas.List.{drop-drop, drop-set-lt, drop_more, get_or-drop, length-set, take_more, take_more_set}
use Rattle.m2_dispatch.specs.declared.logged.Logged.{Logged}
use Rattle.m2_fabric.specs.End.{SeenEnd}
use Rattle.m2_fabric.specs.Log.{Log}
use Rattle.m2_fabric.specs.declared.socket.SocketId.{SocketId}
use Rattle.m2_links_go_on.specs.ClusterTold.{OneByOne}
use Rattle.m2_script.specs.m2_record.Sources.{end_at}
use Rattle.m2_script.specs.m2_center.Center.{CenterNow}
use Rattle.m2_script.specs.m2_center.Reaching.{ends_in}
use Rattle.m2_script.proofs.m2_center.m2_turn.Lending.{first_part, second_part}

-- ---- two lists

one_last : {X : Type 0} (how : X → X → Type 0) (xs ys : List X) (x y : X) → OneByOne how xs ys → how x y → OneByOne how (xs ++ x ∷ []) (ys ++ y ∷ [])
one_last how [] [] x y all its = (its, tt)
one_last how [] (z ∷ ys) x y all its = absurd all
one_last how (z ∷ xs) [] x y all its = absurd all
one_last how (z ∷ xs) (w ∷ ys) x y all its = (all.0, one_last how xs ys x y all.1 its)

-- the first so many did so, and the others are as they were
pub record AreDone {X : Type 0} (how : X → X → Type 0) (j : ℕ) (old new : List X) : Type 0 where
  pub done : OneByOne how (take j old) (take j new)
  pub rest : drop j new ≡ drop j old
  pub count : length new ≡ length old

pub none_done : {X : Type 0} (how : X → X → Type 0) (xs : List X) → AreDone how 0 xs xs
none_done how xs = record { done = tt; rest = refl; count = refl }

pub one_done : {X : Type 0} (how : X → X → Type 0) (j : ℕ) (old mid : List X) (x y : X) → j < length mid → x ≡ get_or mid j x → how x y → AreDone how j old mid → AreDone how (j + 1) old (set mid j y)
one_done {X} how j old mid x y less read does d =
    let within : j < length old = omega (arith, less, d.count) in
    let same : get_or old j x ≡ x =
    sym (get_or-drop j old 0 x ∙ ap (λ (n : ℕ). get_or old n x) (omega arith)) ∙ ap (λ (xs : List X). get_or xs 0 x) (sym d.rest)
    ∙ (get_or-drop j mid 0 x ∙ ap (λ (n : ℕ). get_or mid n x) (omega arith)) ∙ sym read in
    record {
      done = subst (λ (ys : List X). OneByOne how (take (j + 1) old) ys) (sym (take_more_set mid j y less))
          (subst (λ (xs : List X). OneByOne how xs (take j mid ++ y ∷ [])) (sym (take_more old j x within ∙ ap (λ (z : X). take j old ++ z ∷ []) same))
          (one_last how (take j old) (take j mid) x y d.done does));
      rest = drop-set-lt (j + 1) mid j y (omega arith) ∙ sym (drop-drop 1 j mid) ∙ ap (drop 1) d.rest ∙ drop-drop 1 j old;
      count = length-set mid j y ∙ d.count;
    }

pub all_done : {X : Type 0} (how : X → X → Type 0) (j : ℕ) (old new : List X) → length new ≤ j → AreDone how j old new → OneByOne how old new
all_done {X} how j old new all d =
    subst (λ (ys : List X). OneByOne how old ys) (take_all j new all) (subst (λ (xs : List X). OneByOne how xs (take j new)) (take_all j old (omega (arith, all, d.count))) d.done)

-- what is so of all stays so where one that takes the place of another is
pub all_set : {X : Type 0} (P : X → Type 0) (xs : List X) (j : ℕ) (x y : X) → x ≡ get_or xs j x → j < length xs → (P x → P y) → AllByRecursion P xs → AllByRecursion P (set xs j y)
all_set P [] j x y read less keeps all = absurd (omega (arith, less))
all_set P (z ∷ xs) zero x y read less keeps all = (keeps (subst P (sym read) all.0), all.1)
all_set P (z ∷ xs) (suc j) x y read less keeps all = (all.0, all_set P xs j x y read (omega (arith, less)) keeps all.1)

-- ---- the first end of a socket that one of them has

-- what it did
abbrev pub log_among : List (CenterNow (List Logged)) → SocketId → Option Log
log_among cs id = option_map (λ (e : SeenEnd). e.log) (end_at (flat_map ends_in cs) id)

module _ (cs : List (CenterNow (List Logged))) (k : ℕ) (c : CenterNow (List Logged)) (id : SocketId) (less : k < length cs) (read : c ≡ get_or cs k c) where
  from_here : log_among (drop k cs) id ≡ log_among (c ∷ drop (k + 1) cs) id
  from_here = ap (λ (ds : List (CenterNow (List Logged))). log_among ds id) (drop_more cs k c less ∙ ap (λ (d : CenterNow (List Logged)). d ∷ drop (k + 1) cs) (sym read))

  -- the one at the place has it
  pub found_here : (l : Log) → Some l ≡ option_map (λ (e : SeenEnd). e.log) (end_at (ends_in c) id) → log_among (drop k cs) id ≡ log_among cs id → Some l ≡ log_among cs id
  found_here l found far = first_part (ends_in c) (flat_map ends_in (drop (k + 1) cs)) id l found ∙ sym from_here ∙ far

  -- it has none
  pub found_behind : None ≡ option_map (λ (e : SeenEnd). e.log) (end_at (ends_in c) id) → log_among (drop k cs) id ≡ log_among cs id → log_among (drop (k + 1) cs) id ≡ log_among cs id
  found_behind none far = second_part (ends_in c) (flat_map ends_in (drop (k + 1) cs)) id none ∙ sym from_here ∙ far

-- none has it
pub found_nowhere : (cs : List (CenterNow (List Logged))) (k : ℕ) (id : SocketId) → length cs ≤ k → log_among (drop k cs) id ≡ log_among cs id → None ≡ log_among cs id
found_nowhere cs k id behind far = ap (λ (ds : List (CenterNow (List Logged))). log_among ds id) (sym (drop_of_length-le cs behind)) ∙ far
