-- Workers of nodes of which no thread has done anything, one after another, and one node after another.
use Rattle.std.proofs.Common.{◌≡◌, ◌⊎◌, inl, inr, ◌+◌, ◌≤◌, ◌++◌, ◌∙◌, ℕ, zero, suc, List, [], ◌∷◌, length, take, drop, Some, refl, sym, ap, subst, append_assoc, length-append, arith}
use Rattle.std.specs.Prelude.{IfOk, Result, Ok, Err, slice_get}
use Rattle.std.specs.List.{AllByRecursion}
use Rattle.std.proofs.lemmas.List.{append-nil, drop-append-le, drop_all, length-take, length-take-le, take-append-le, take_all, take_more}
use Rattle.std.proofs.lemmas.Option.{get_or_from_slice_get, none-some, slice_get_within}
use Rattle.m2_bytes.proofs.m2_lemmas.Lists.{all_append, all_last}
use Rattle.m2_scenario.specs.declared.link.Link.{Link}
use Rattle.m2_scenario.specs.declared.node.Node.{Node}
use Rattle.m2_node.specs.Begins.{AddsWorkers, AreBeginning, AreBeginningAt, IsBeginning}
use Rattle.m2_node.specs.Sharing.{ShareNow}
use Rattle.m2_node.specs.Working.{AreGrouped, AreWorkersOf, IsGroup, WorkerNow}
use Rattle.m2_node.specs.declared.planning.StepTowards.{StepTowards}
use Rattle.m2_script.proofs.SoFar.{one_of}

-- ---- what comes next

pub next_there : {X : Type 0} (xs rest : List X) (x : X) (k : ℕ) → drop k xs ≡ x ∷ rest → slice_get xs k ≡ Some x
next_there [] rest x zero e = absurd cc
next_there [] rest x (suc k) e = absurd cc
next_there (y ∷ ys) rest x zero e = cc
next_there (y ∷ ys) rest x (suc k) e = next_there ys rest x k e

pub rest_next : {X : Type 0} (xs rest : List X) (x : X) (k : ℕ) → drop k xs ≡ x ∷ rest → rest ≡ drop (k + 1) xs
rest_next [] rest x zero e = absurd cc
rest_next [] rest x (suc k) e = absurd cc
rest_next (y ∷ ys) rest x zero e = cc
rest_next (y ∷ ys) rest x (suc k) e =
    let same : suc (k + 1) ≡ suc k + 1 = omega arith in
    subst (λ (n : ℕ). rest ≡ drop n (y ∷ ys)) same (rest_next ys rest x k e)

-- what follows of a value that there may be
pub ok_so : {T E : Type 0} (r : Result T E) (A B : T → Type 0) → ((x : T) → A x → B x) → IfOk r A → IfOk r B
ok_so (Ok x) A B so a = so x a
ok_so (Err e) A B so a = tt

-- ---- workers of nodes, node by node

-- a group is no longer than what it is taken of
fits : (n : ℕ) (ws : List WorkerNow) → length (take n ws) ≡ n → n ≤ length ws
fits n ws long = let most = length-take n ws in omega (arith, long, most)

grouped_more : (nodes : List Node) (shares : List ShareNow) (ws : List WorkerNow) (x : Node) (s : ShareNow) (behind : List WorkerNow) → AreGrouped nodes shares ws → IsGroup x s behind →
    AreGrouped (nodes ++ x ∷ []) (shares ++ s ∷ []) (ws ++ behind)
grouped_more [] [] ws x s behind groups is =
    let same : ws ++ behind ≡ behind = ap (λ vs. vs ++ behind) groups in
    let most : length behind ≤ x.centers = let count = is.count in omega (arith, count) in (
      subst (IsGroup x s) (sym (ap (take x.centers) same ∙ take_all x.centers behind most)) is,
      ap (drop x.centers) same ∙ drop_all x.centers behind most,
    )
grouped_more [] (t ∷ shares) ws x s behind groups is = absurd groups
grouped_more (y ∷ nodes) [] ws x s behind groups is = absurd groups
grouped_more (y ∷ nodes) (t ∷ shares) ws x s behind groups is =
    let within = fits y.centers ws groups.0.count in (
      subst (IsGroup y t) (sym (take-append-le y.centers ws behind within)) groups.0,
      subst (AreGrouped (nodes ++ x ∷ []) (shares ++ s ∷ [])) (sym (drop-append-le y.centers ws behind within)) (grouped_more nodes shares (drop y.centers ws) x s behind groups.1 is),
    )

module _ (nodes : List Node) (links : List Link) (steps : ℕ → List StepTowards) where
  begun_more : (i : ℕ) (xs : List Node) (shares : List ShareNow) (ws : List WorkerNow) (x : Node) (behind : List WorkerNow) (word : ℕ) → AreGrouped xs shares ws → length behind ≡ x.centers →
      AreBeginning nodes links steps i xs ws → AreBeginningAt nodes links (steps (i + length xs)) (i + length xs) 0 word x behind → AreBeginning nodes links steps i (xs ++ x ∷ []) (ws ++ behind)
  begun_more i [] [] ws x behind word groups long are at =
      let here : i + 0 ≡ i = omega arith in
      let same : take x.centers (ws ++ behind) ≡ behind = ap (λ vs. take x.centers (vs ++ behind)) groups ∙ take_all x.centers behind (omega (arith, long)) in (
        (
          word,
          subst (λ (k : ℕ). AreBeginningAt nodes links (steps k) k 0 word x (take x.centers (ws ++ behind))) here
              (subst (AreBeginningAt nodes links (steps (i + 0)) (i + 0) 0 word x) (sym same) at),
        ),
        tt,
      )
  begun_more i [] (t ∷ shares) ws x behind word groups long are at = absurd groups
  begun_more i (y ∷ xs) [] ws x behind word groups long are at = absurd groups
  begun_more i (y ∷ xs) (t ∷ shares) ws x behind word groups long are at =
      let within = fits y.centers ws groups.0.count in
      let next : i + suc (length xs) ≡ suc i + length xs = omega arith in (
        (are.0.0, subst (AreBeginningAt nodes links (steps i) i 0 are.0.0 y) (sym (take-append-le y.centers ws behind within)) are.0.1),
        subst (AreBeginning nodes links steps (suc i) (xs ++ x ∷ [])) (sym (drop-append-le y.centers ws behind within))
            (begun_more (suc i) xs shares (drop y.centers ws) x behind word groups.1 long are.1
            (subst (λ (k : ℕ). AreBeginningAt nodes links (steps k) k 0 word x behind) next at)),
      )

  -- those of the nodes before place k
  pub record AreMadeSoFar (shares : List ShareNow) (moment k : ℕ) (ws : List WorkerNow) : Type 0 where
    pub groups : AreGrouped (take k nodes) (take k shares) ws
    pub begun : AreBeginning nodes links steps 0 (take k nodes) ws
    pub moments : AllByRecursion (λ (w : WorkerNow). w.moment ≡ moment) ws

  pub none_made : (shares : List ShareNow) (moment : ℕ) (ws : List WorkerNow) → ws ≡ [] → AreMadeSoFar shares moment 0 ws
  none_made shares moment ws none = record { groups = none; begun = tt; moments = subst (AllByRecursion (λ (w : WorkerNow). w.moment ≡ moment)) (sym none) tt }

  pub one_made_more : (shares : List ShareNow) (moment k : ℕ) (x : Node) (s : ShareNow) (old new : List WorkerNow) → slice_get nodes k ≡ Some x → slice_get shares k ≡ Some s →
      AreMadeSoFar shares moment k old → AddsWorkers nodes links (steps k) k x s moment old new → AreMadeSoFar shares moment (k + 1) new
  one_made_more shares moment k x s old new there share far adds =
      let within = slice_get_within nodes k x there in
      let at : 0 + length (take k nodes) ≡ k = let long = length-take-le k nodes (omega (arith, within)) in omega (arith, long) in
      let xs : take k nodes ++ x ∷ [] ≡ take (k + 1) nodes = sym (take_more nodes k x within ∙ ap (λ y. take k nodes ++ y ∷ []) (get_or_from_slice_get nodes k x x there)) in
      let ss : take k shares ++ s ∷ [] ≡ take (k + 1) shares =
      sym (take_more shares k s (slice_get_within shares k s share) ∙ ap (λ y. take k shares ++ y ∷ []) (get_or_from_slice_get shares k s s share)) in
      record {
        groups = subst (AreGrouped (take (k + 1) nodes) (take (k + 1) shares)) (sym adds.split)
            (subst (λ (ys : List Node). AreGrouped ys (take (k + 1) shares) (old ++ adds.behind)) xs
            (subst (λ (ts : List ShareNow). AreGrouped (take k nodes ++ x ∷ []) ts (old ++ adds.behind)) ss
            (grouped_more (take k nodes) (take k shares) old x s adds.behind far.groups adds.group)));
        begun = subst (AreBeginning nodes links steps 0 (take (k + 1) nodes)) (sym adds.split)
            (subst (λ (ys : List Node). AreBeginning nodes links steps 0 ys (old ++ adds.behind)) xs
            (begun_more 0 (take k nodes) (take k shares) old x adds.behind adds.word far.groups adds.group.count far.begun
            (subst (λ (n : ℕ). AreBeginningAt nodes links (steps n) n 0 adds.word x adds.behind) (sym at) adds.beginning)));
        moments = subst (AllByRecursion (λ (w : WorkerNow). w.moment ≡ moment)) (sym adds.split) (all_append (λ (w : WorkerNow). w.moment ≡ moment) old adds.behind far.moments adds.moments);
      }

  pub all_made : (shares : List ShareNow) (moment k : ℕ) (ws : List WorkerNow) → length nodes ≤ k → length shares ≡ length nodes → AreMadeSoFar shares moment k ws →
      AreBeginning nodes links steps 0 nodes ws × AreWorkersOf nodes shares moment ws
  all_made shares moment k ws all same far =
      let xs : take k nodes ≡ nodes = take_all k nodes all in
      let ss : take k shares ≡ shares = take_all k shares (omega (arith, all, same)) in (
        subst (λ (ys : List Node). AreBeginning nodes links steps 0 ys ws) xs far.begun,
        record {
          groups = subst (λ (ys : List Node). AreGrouped ys shares ws) xs (subst (λ (ts : List ShareNow). AreGrouped (take k nodes) ts ws) ss far.groups);
          moments = far.moments;
        },
      )

-- ---- workers of one node

module _ (nodes : List Node) (links : List Link) (steps : List StepTowards) (k word : ℕ) (x : Node) (s : ShareNow) (moment : ℕ) where
  -- those of its threads before the j-th one go last
  pub record AreAddedSoFar (j : ℕ) (old new : List WorkerNow) : Type 0 where
    pub behind : List WorkerNow
    pub split : new ≡ old ++ behind
    pub count : length behind ≡ j
    pub started : AllByRecursion (λ (w : WorkerNow). w.started ≡ x.started) behind
    pub numbers : AllByRecursion (λ (w : WorkerNow). w.numbers ≡ s.numbers) behind
    pub throttles : AllByRecursion (λ (w : WorkerNow). w.throttles ≡ s.throttles) behind
    pub moments : AllByRecursion (λ (w : WorkerNow). w.moment ≡ moment) behind
    pub beginning : AreBeginningAt nodes links steps k 0 word x behind

  pub none_added : (old new : List WorkerNow) → new ≡ old → AreAddedSoFar 0 old new
  none_added old new same = record {
    behind = [];
    split = same ∙ sym (append-nil old);
    count = refl;
    started = tt;
    numbers = tt;
    throttles = tt;
    moments = tt;
    beginning = λ i w e. absurd (none-some w e);
  }

  pub one_added_more : (j : ℕ) (w : WorkerNow) (old mid new : List WorkerNow) → AreAddedSoFar j old mid → new ≡ mid ++ w ∷ [] → w.started ≡ x.started → w.numbers ≡ s.numbers → w.throttles ≡ s.throttles →
      w.moment ≡ moment → IsBeginning nodes links steps k j word x w.center → AreAddedSoFar (j + 1) old new
  one_added_more j w old mid new far e started numbers throttles now is = record {
    behind = far.behind ++ w ∷ [];
    split = e ∙ ap (λ vs. vs ++ w ∷ []) far.split ∙ append_assoc old far.behind (w ∷ []);
    count = length-append far.behind (w ∷ []) ∙ ap (λ (n : ℕ). n + 1) far.count;
    started = all_last (λ (v : WorkerNow). v.started ≡ x.started) far.behind w far.started started;
    numbers = all_last (λ (v : WorkerNow). v.numbers ≡ s.numbers) far.behind w far.numbers numbers;
    throttles = all_last (λ (v : WorkerNow). v.throttles ≡ s.throttles) far.behind w far.throttles throttles;
    moments = all_last (λ (v : WorkerNow). v.moment ≡ moment) far.behind w far.moments now;
    beginning = λ i v f. go i v (one_of far.behind w i v f);
  }
    where
      go : (i : ℕ) (v : WorkerNow) → (slice_get far.behind i ≡ Some v) ⊎ ((i ≡ length far.behind) × (w ≡ v)) → IsBeginning nodes links steps k (0 + i) word x v.center
      go i v (inl h) = far.beginning i v h
      go i v (inr h) =
          let at : j ≡ 0 + i = let here = h.0 in let count = far.count in omega (arith, here, count) in
          subst (λ (u : WorkerNow). IsBeginning nodes links steps k (0 + i) word x u.center) h.1 (subst (λ (n : ℕ). IsBeginning nodes links steps k n word x w.center) at is)

  pub all_added : (j : ℕ) (old new : List WorkerNow) → j ≡ x.centers → AreAddedSoFar j old new → AddsWorkers nodes links steps k x s moment old new
  all_added j old new all far = record {
    behind = far.behind;
    split = far.split;
    group = record { count = far.count ∙ all; started = far.started; numbers = far.numbers; throttles = far.throttles };
    moments = far.moments;
    word = word;
    beginning = far.beginning;
  }
