-- Behind the entries: what the far side's logs tell may be dispatched, message for message, where of each key it is one piece of each
-- life, each the first ones of what was accepted in it.
use Rattle.std.proofs.Common.{◌≡◌, ◌≢◌, ℕ, ◌+◌, ◌<◌, ◌⊎◌, inl, inr, Bool, true, false, ◌==◌, if◌then◌else◌, List, [], ◌∷◌, ◌++◌, length, length-append, map, Some, refl, sym, ap, subst, ◌∙◌, arith, append_assoc}
use Rattle.std.specs.Prelude.{slice_get}
use Rattle.std.specs.List.{AllByRecursion, filter}
use Rattle.std.proofs.lemmas.Bool.{eqb-true, eq-eqb}
use Rattle.std.proofs.lemmas.List.{map-append}
use Rattle.std.proofs.lemmas.List.Elements.{filter-append}
use Rattle.m2_bytes_fit.proofs.Lists.{cons_is_some}
use Rattle.m2_channel.specs.Channel.{KeyedMessage, of_key}
use Rattle.m2_channel.specs.m2_dispatch.Heard.{is_key}
use Rattle.m2_channel.proofs.Keys.{key_self}
use Rattle.m2_journal.specs.m2_message.Message.{Content, unnumbered}
use Rattle.m2_journal.specs.m2_policy.declared.path.Key.{Key}
use Rattle.m2_journal.proofs.m2_lemmas.Booleans.{from_false_true}
use Rattle.m2_journal.proofs.m2_lemmas.Lists.{all_append, all_back, all_filter, all_front, cons_same}
use Rattle.m2_lives.specs.Lives.{one_more, SendingLife, ReceivingLife, LivesChannel, sending_lives, receiving_lives, Has, IsNewName, IsSameAt, MayBeDispatched, LivesStep, dispatch, one_dispatched, changed_in_lives, after_in_lives, LifeMessage, of_life, acceptances_from}
use Rattle.m2_lives.specs.LivesLaws.{AreNames, ArePiecesOf}
use Rattle.m2_lives.specs.ObservedRun.{in_life, with_key}
use Rattle.m2_lives.proofs.Among.{none_or_some, has_so}
use Rattle.m2_lives.proofs.Backing.{get_next}
use Rattle.m2_lives.proofs.Delivered.{told, one, of_it, told_more, of_another, of_its_own}
use Rattle.m2_lives.proofs.Runs.{one_name, receiving_name}
use Rattle.m2_lives.proofs.Showing.{AreSteps}

-- ---- a message of a key and a life

abbrev pub text : LifeMessage → Content
text x = x.message.message

-- the same messages, by the life and then by the key
pub told_is : (key : Key) (n : ℕ) (xs : List LifeMessage) → told key n xs ≡ map text (with_key key (in_life n xs))
told_is key n [] = refl
told_is key n (x ∷ xs) = at (x.life == n) (told_is key n xs)
  where
    rest : List LifeMessage
    rest = in_life n xs

    by_key : (b : Bool) → of_key key (map (λ (y : LifeMessage). y.message) rest) ≡ map text (with_key key rest) →
        (if b then text x ∷ of_key key (map (λ (y : LifeMessage). y.message) rest) else of_key key (map (λ (y : LifeMessage). y.message) rest)) ≡ map text (if b then x ∷ with_key key rest else with_key key rest)
    by_key true e = ap (λ l. text x ∷ l) e
    by_key false e = e

    at : (b : Bool) → of_key key (map (λ (y : LifeMessage). y.message) rest) ≡ map text (with_key key rest) →
        of_key key (map (λ (y : LifeMessage). y.message) (if b then x ∷ rest else rest)) ≡ map text (with_key key (if b then x ∷ rest else rest))
    at true e = by_key (is_key x.message.key key) e
    at false e = e

-- and by the key and then by the life
turned : {X : Type 0} (p q : X → Bool) (xs : List X) → filter p (filter q xs) ≡ filter q (filter p xs)
turned p q [] = refl
turned p q (x ∷ xs) = at (q x) (p x) refl refl (turned p q xs)
  where
    at : (a b : Bool) → q x ≡ a → p x ≡ b → filter p (filter q xs) ≡ filter q (filter p xs) → filter p (if a then x ∷ filter q xs else filter q xs) ≡ filter q (if b then x ∷ filter p xs else filter p xs)
    at true true u v e = ap (λ c. if c then x ∷ filter p (filter q xs) else filter p (filter q xs)) v ∙ ap (λ l. x ∷ l) e ∙ ap (λ c. if c then x ∷ filter q (filter p xs) else filter q (filter p xs)) (sym u)
    at true false u v e = ap (λ c. if c then x ∷ filter p (filter q xs) else filter p (filter q xs)) v ∙ e
    at false true u v e = e ∙ ap (λ c. if c then x ∷ filter q (filter p xs) else filter q (filter p xs)) (sym u)
    at false false u v e = e

pub told_of : (key : Key) (n : ℕ) (xs : List LifeMessage) → told key n xs ≡ map text (in_life n (with_key key xs))
told_of key n xs = told_is key n xs ∙ ap (map text) (turned (λ (x : LifeMessage). is_key x.message.key key) (λ (x : LifeMessage). x.life == n) xs)

length_text : (xs : List LifeMessage) → length (map text xs) ≡ length xs
length_text [] = refl
length_text (x ∷ xs) = let r = length_text xs in omega (arith, r)

-- all of one life are its own, and none of another
life_own : (n : ℕ) (xs : List LifeMessage) → AllByRecursion (λ (x : LifeMessage). x.life ≡ n) xs → in_life n xs ≡ xs
life_own n [] h = refl
life_own n (x ∷ xs) h = ap (λ b. if b then x ∷ in_life n xs else in_life n xs) (eq-eqb x.life n h.0) ∙ ap (λ l. x ∷ l) (life_own n xs h.1)

life_none : (n : ℕ) (xs : List LifeMessage) → AllByRecursion (λ (x : LifeMessage). x.life ≢ n) xs → in_life n xs ≡ []
life_none n [] h = refl
life_none n (x ∷ xs) h = at (x.life == n) refl ∙ life_none n xs h.1
  where
    at : (b : Bool) → (x.life == n) ≡ b → (if b then x ∷ in_life n xs else in_life n xs) ≡ in_life n xs
    at true e = absurd (h.0 (eqb-true x.life n e))
    at false e = refl

of_the_life : (n : ℕ) (xs : List LifeMessage) → AllByRecursion (λ (x : LifeMessage). x.life ≡ n) (in_life n xs)
of_the_life n [] = tt
of_the_life n (x ∷ xs) = at (x.life == n) refl (of_the_life n xs)
  where
    at : (b : Bool) → (x.life == n) ≡ b → AllByRecursion (λ (y : LifeMessage). y.life ≡ n) (in_life n xs) → AllByRecursion (λ (y : LifeMessage). y.life ≡ n) (if b then x ∷ in_life n xs else in_life n xs)
    at true e h = (eqb-true x.life n e, h)
    at false e h = h

-- ---- where a message stands among the pieces

middle_split : {X : Type 0} (ds es ps rs : List X) (x : X) → ds ++ x ∷ es ≡ ps ++ rs → ((more : List X) × (ps ≡ ds ++ x ∷ more)) ⊎ ((more : List X) × (ds ≡ ps ++ more) × (rs ≡ more ++ x ∷ es))
middle_split ds es [] rs x e = inr (ds, refl, sym e)
middle_split [] es (p ∷ ps) rs x e = let it = cons_same x p es (ps ++ rs) e in inl (ps, ap (λ z. z ∷ ps) (sym it.0))
middle_split {X} (d ∷ ds) es (p ∷ ps) rs x e = let it = cons_same d p (ds ++ x ∷ es) (ps ++ rs) e in at it.0 (middle_split ds es ps rs x it.1)
  where
    at : d ≡ p → ((more : List X) × (ps ≡ ds ++ x ∷ more)) ⊎ ((more : List X) × (ds ≡ ps ++ more) × (rs ≡ more ++ x ∷ es)) →
        ((more : List X) × (p ∷ ps ≡ (d ∷ ds) ++ x ∷ more)) ⊎ ((more : List X) × (d ∷ ds ≡ (p ∷ ps) ++ more) × (rs ≡ more ++ x ∷ es))
    at same (inl (more, g)) = inl (more, ap (λ l. p ∷ l) g ∙ ap (λ z. z ∷ (ds ++ x ∷ more)) (sym same))
    at same (inr (more, g, k)) = inr (more, ap (λ l. d ∷ l) g ∙ ap (λ z. z ∷ (ps ++ more)) same, k)

-- These come before it, it is the next one of its life, and all lives behind that are untouched.
pub record Placed (of : ℕ → List LifeMessage) (done : List LifeMessage) (x : LifeMessage) (ns : List ℕ) : Type 0 where
  pub before : List ℕ
  pub name : ℕ
  pub later : List ℕ
  pub names : ns ≡ before ++ name ∷ later
  pub front : List LifeMessage
  pub now : List LifeMessage
  pub left : List LifeMessage
  pub done_is : done ≡ front ++ now
  pub pieces : ArePiecesOf front (map of before)
  pub next : of name ≡ now ++ x ∷ left

pub placed : (of : ℕ → List LifeMessage) (ns : List ℕ) (done more : List LifeMessage) (x : LifeMessage) → ArePiecesOf (done ++ x ∷ more) (map of ns) → Placed of done x ns
placed of [] done more x h = absurd (none done h)
  where
    none : (ds : List LifeMessage) → ds ++ x ∷ more ≡ [] → ⊥
    none [] e = cons_is_some x more e
    none (d ∷ ds) e = cons_is_some d (ds ++ x ∷ more) e
placed of (n ∷ ns) done more x (piece, rest, left, e, g, h) = at (middle_split done more piece rest x e) (λ z q. placed of ns z more x (subst (λ l. ArePiecesOf l (map of ns)) q h))
  where
    at : ((z : List LifeMessage) × (piece ≡ done ++ x ∷ z)) ⊎ ((z : List LifeMessage) × (done ≡ piece ++ z) × (rest ≡ z ++ x ∷ more)) → ((z : List LifeMessage) → rest ≡ z ++ x ∷ more → Placed of z x ns) → Placed of done x (n ∷ ns)
    at (inl (z, k)) on = record {
      before = [];
      name = n;
      later = ns;
      names = refl;
      front = [];
      now = done;
      left = z ++ left;
      done_is = refl;
      pieces = refl;
      next = g ∙ ap (λ l. l ++ left) k ∙ append_assoc done (x ∷ z) left;
    }
    at (inr (z, k, q)) on =
        let it = on z q in
        record {
          before = n ∷ it.before;
          name = it.name;
          later = it.later;
          names = ap (λ l. n ∷ l) it.names;
          front = piece ++ it.front;
          now = it.now;
          left = it.left;
          done_is = k ∙ ap (λ l. piece ++ l) it.done_is ∙ sym (append_assoc piece it.front it.now);
          pieces = (piece, it.front, left, refl, g, it.pieces);
          next = it.next;
        }

-- the pieces of other lives have none of this one
none_of_it : (of : ℕ → List LifeMessage) (n : ℕ) (bs : List ℕ) (front : List LifeMessage) → AllByRecursion (λ b. AllByRecursion (λ (x : LifeMessage). x.life ≢ n) (of b)) bs → ArePiecesOf front (map of bs) → AllByRecursion (λ (x : LifeMessage). x.life ≢ n) front
none_of_it of n [] front all h = subst (AllByRecursion (λ (x : LifeMessage). x.life ≢ n)) (sym h) tt
none_of_it of n (b ∷ bs) front all (piece, rest, left, e, g, h) =
    subst (AllByRecursion (λ (x : LifeMessage). x.life ≢ n)) (sym e)
    (all_append (λ (x : LifeMessage). x.life ≢ n) piece rest (all_front (λ (x : LifeMessage). x.life ≢ n) piece left (subst (AllByRecursion (λ (x : LifeMessage). x.life ≢ n)) g all.0))
    (none_of_it of n bs rest all.1 h))

-- ---- the receiving lives

pub record Parted (rs : List ReceivingLife) (bs : List ℕ) (n : ℕ) (ls : List ℕ) : Type 0 where
  pub before : List ReceivingLife
  pub life : ReceivingLife
  pub later : List ReceivingLife
  pub lives : rs ≡ before ++ life ∷ later
  pub named : life.name ≡ n
  pub later_names : map receiving_name later ≡ ls

parted : (rs : List ReceivingLife) (bs : List ℕ) (n : ℕ) (ls : List ℕ) → map receiving_name rs ≡ bs ++ n ∷ ls → Parted rs bs n ls
parted [] [] n ls e = absurd (cons_is_some n ls (sym e))
parted [] (b ∷ bs) n ls e = absurd (cons_is_some b (bs ++ n ∷ ls) (sym e))
parted (r ∷ rs) [] n ls e = let it = cons_same r.name n (map receiving_name rs) ls e in record { before = []; life = r; later = rs; lives = refl; named = it.0; later_names = it.1 }
parted (r ∷ rs) (b ∷ bs) n ls e =
    let it = parted rs bs n ls (cons_same r.name b (map receiving_name rs) (bs ++ n ∷ ls) e).1 in
    record { before = r ∷ it.before; life = it.life; later = it.later; lives = ap (λ l. r ∷ l) it.lives; named = it.named; later_names = it.later_names }

-- ---- what was accepted and what is dispatched

abbrev pub IsGiven : (taken given : List LifeMessage) → ReceivingLife → Type 0
IsGiven taken given l = (key : Key) → (l.accepted key ≡ length (told key l.name taken)) × (l.dispatched key ≡ length (told key l.name given))

-- of a life's name, the life of the side that posts has what was accepted
abbrev pub IsSentFrom : List KeyedMessage → (key : Key) → List Content → SendingLife → Type 0
IsSentFrom posted key cs s = (i : ℕ) (m : Content) → slice_get cs i ≡ Some m → slice_get (of_key key posted) (s.start key + i) ≡ Some m

pub record Given (ns : List ℕ) (taken given : List LifeMessage) (c : LivesChannel) : Type 0 where
  pub named : AreNames ns
  pub names : map receiving_name (receiving_lives c) ≡ ns
  pub counted : AllByRecursion (IsGiven taken given) (receiving_lives c)
  pub unnamed : of_life 0 taken ≡ []
  pub sent : (n : ℕ) (key : Key) → (told key n taken ≡ []) ⊎ Has (λ (s : SendingLife). (s.name ≡ n) × IsSentFrom c.posted key (told key n taken) s) (sending_lives c)

abbrev pub IsPlainText : LifeMessage → Type 0
IsPlainText x = x ≡ one x.life x.message.key x.message.message

module _ (ns : List ℕ) (taken given more : List LifeMessage) (x : LifeMessage) (c : LivesChannel) (h : Given ns taken given c) (plain : IsPlainText x)
    (pieces : (key : Key) → ArePiecesOf (with_key key (given ++ x ∷ more)) (map (λ n. with_key key (in_life n taken)) ns)) where
  abbrev k : Key
  k = x.message.key

  abbrev of : ℕ → List LifeMessage
  of n = with_key k (in_life n taken)

  abbrev done : List LifeMessage
  done = with_key k given

  split : with_key k (given ++ x ∷ more) ≡ done ++ x ∷ with_key k more
  split =
      filter-append (λ (y : LifeMessage). is_key y.message.key k) given (x ∷ more)
      ∙ ap (λ b. done ++ (if b then x ∷ with_key k more else with_key k more)) (key_self k)

  abbrev place : Placed of done x ns
  place = placed of ns done (with_key k more) x (subst (λ l. ArePiecesOf l (map of ns)) split (pieces k))

  none_at_zero : in_life 0 taken ≡ []
  none_at_zero = at (in_life 0 taken) h.unnamed
    where
      at : (ys : List LifeMessage) → map (λ (y : LifeMessage). y.message) ys ≡ [] → ys ≡ []
      at [] g = refl
      at (y ∷ ys) g = absurd (cons_is_some y.message (map (λ (z : LifeMessage). z.message) ys) g)

  all_of : (n : ℕ) → AllByRecursion (λ (y : LifeMessage). y.life ≡ n) (of n)
  all_of n = all_filter (λ (y : LifeMessage). y.life ≡ n) (λ (y : LifeMessage). is_key y.message.key k) (in_life n taken) (of_the_life n taken)

  of_now : AllByRecursion (λ (y : LifeMessage). y.life ≡ place.name) (place.now ++ x ∷ place.left)
  of_now = subst (AllByRecursion (λ (y : LifeMessage). y.life ≡ place.name)) place.next (all_of place.name)

  x_life : x.life ≡ place.name
  x_life = (all_back (λ (y : LifeMessage). y.life ≡ place.name) place.now (x ∷ place.left) of_now).0

  name_kept : place.name ≢ 0
  name_kept z = none place.now (sym place.next ∙ ap (λ n. of n) z ∙ ap (with_key k) none_at_zero)
    where
      none : (ds : List LifeMessage) → ds ++ x ∷ place.left ≡ [] → ⊥
      none [] e = cons_is_some x place.left e
      none (d ∷ ds) e = cons_is_some d (ds ++ x ∷ place.left) e

  -- a life behind others has another name
  others : (n : ℕ) (bs ls : List ℕ) → AreNames (bs ++ n ∷ ls) → n ≢ 0 → AllByRecursion (λ b. (b ≡ 0) ⊎ (b ≢ n)) bs
  others n [] ls names kept = tt
  others n (b ∷ bs) ls names kept = (at names.0, others n bs ls names.1 kept)
    where
      at : IsNewName b (bs ++ n ∷ ls) → (b ≡ 0) ⊎ (b ≢ n)
      at (inl z) = inl z
      at (inr all) = inr (λ e. (all_back (λ i. i ≢ b) bs (n ∷ ls) all).0 (sym e))

  apart : (n : ℕ) (bs : List ℕ) → AllByRecursion (λ b. (b ≡ 0) ⊎ (b ≢ n)) bs → AllByRecursion (λ b. AllByRecursion (λ (y : LifeMessage). y.life ≢ n) (of b)) bs
  apart n [] all = tt
  apart n (b ∷ bs) all = (at all.0, apart n bs all.1)
    where
      so : (ys : List LifeMessage) → b ≢ n → AllByRecursion (λ (y : LifeMessage). y.life ≡ b) ys → AllByRecursion (λ (y : LifeMessage). y.life ≢ n) ys
      so [] g q = tt
      so (y ∷ ys) g q = (λ e. g (sym q.0 ∙ e), so ys g q.1)

      at : (b ≡ 0) ⊎ (b ≢ n) → AllByRecursion (λ (y : LifeMessage). y.life ≢ n) (of b)
      at (inl z) = subst (AllByRecursion (λ (y : LifeMessage). y.life ≢ n)) (sym (ap of z ∙ ap (with_key k) none_at_zero)) tt
      at (inr g) = so (of b) g (all_of b)

  in_order : AreNames (place.before ++ place.name ∷ place.later)
  in_order = subst AreNames place.names h.named

  -- of its life just those before it are dispatched
  front_none : in_life place.name place.front ≡ []
  front_none =
      life_none place.name place.front
      (none_of_it of place.name place.before place.front (apart place.name place.before (others place.name place.before place.later in_order name_kept)) place.pieces)

  now_own : in_life place.name place.now ≡ place.now
  now_own = life_own place.name place.now (all_front (λ (y : LifeMessage). y.life ≡ place.name) place.now (x ∷ place.left) of_now)

  given_now : told k place.name given ≡ map text place.now
  given_now =
      told_of k place.name given
      ∙ ap (map text) (ap (in_life place.name) place.done_is ∙ filter-append (λ (y : LifeMessage). y.life == place.name) place.front place.now
      ∙ ap (λ l. l ++ in_life place.name place.now) front_none ∙ now_own)

  taken_now : told k place.name taken ≡ map text place.now ++ text x ∷ map text place.left
  taken_now = told_is k place.name taken ∙ ap (map text) place.next ∙ map-append text place.now (x ∷ place.left)

  -- of a later life none
  later_none : (n : ℕ) → Has (λ l. l ≡ n) place.later → told k n given ≡ []
  later_none n there = told_of k n given ∙ ap (map text) (ap (in_life n) place.done_is ∙ by (none_or_some n))
    where
      lives_known : AllByRecursion (λ (y : LifeMessage). y.life ≢ 0) (place.front ++ place.now)
      lives_known =
          all_append (λ (y : LifeMessage). y.life ≢ 0) place.front place.now
          (none_of_it of 0 place.before place.front (apart 0 place.before (zeros place.before)) place.pieces)
          (kept place.now (all_front (λ (y : LifeMessage). y.life ≡ place.name) place.now (x ∷ place.left) of_now))
        where
          zeros : (bs : List ℕ) → AllByRecursion (λ b. (b ≡ 0) ⊎ (b ≢ 0)) bs
          zeros [] = tt
          zeros (b ∷ bs) = (none_or_some b, zeros bs)

          kept : (ys : List LifeMessage) → AllByRecursion (λ (y : LifeMessage). y.life ≡ place.name) ys → AllByRecursion (λ (y : LifeMessage). y.life ≢ 0) ys
          kept [] q = tt
          kept (y ∷ ys) q = (λ e. name_kept (sym q.0 ∙ e), kept ys q.1)

      one_of : (bs ls : List ℕ) → Has (λ l. l ≡ n) ls → AreNames (bs ++ place.name ∷ ls) → n ≢ 0 → AllByRecursion (λ b. (b ≡ 0) ⊎ (b ≢ n)) (bs ++ place.name ∷ [])
      one_of [] ls has names some = (at names.0, tt)
        where
          no_one : (ks : List ℕ) → AllByRecursion (λ i. i ≢ place.name) ks → Has (λ l. l ≡ n) ks → place.name ≢ n
          no_one [] all has e = has
          no_one (i ∷ ks) all (inl p) e = all.0 (p ∙ sym e)
          no_one (i ∷ ks) all (inr p) e = no_one ks all.1 p e

          at : IsNewName place.name ls → (place.name ≡ 0) ⊎ (place.name ≢ n)
          at (inl z) = inl z
          at (inr all) = inr (no_one ls all has)
      one_of (b ∷ bs) ls has names some = (at names.0, one_of bs ls has names.1 some)
        where
          no_one : (ks : List ℕ) → AllByRecursion (λ i. i ≢ b) ks → Has (λ l. l ≡ n) ks → b ≢ n
          no_one [] all there e = there
          no_one (i ∷ ks) all (inl p) e = all.0 (p ∙ sym e)
          no_one (i ∷ ks) all (inr p) e = no_one ks all.1 p e

          at : IsNewName b (bs ++ place.name ∷ ls) → (b ≡ 0) ⊎ (b ≢ n)
          at (inl z) = inl z
          at (inr all) = inr (no_one ls (all_back (λ i. i ≢ b) bs (place.name ∷ ls) all).1 has)

      by : (n ≡ 0) ⊎ (n ≢ 0) → in_life n (place.front ++ place.now) ≡ []
      by (inl z) = ap (λ i. in_life i (place.front ++ place.now)) z ∙ life_none 0 (place.front ++ place.now) lives_known
      by (inr some) =
          let all = one_of place.before place.later there in_order some in
          let own : (place.name ≡ 0) ⊎ (place.name ≢ n) = (all_back (λ b. (b ≡ 0) ⊎ (b ≢ n)) place.before (place.name ∷ []) all).0 in
          life_none n (place.front ++ place.now)
          (all_append (λ (y : LifeMessage). y.life ≢ n) place.front place.now
          (none_of_it of n place.before place.front (apart n place.before (all_front (λ b. (b ≡ 0) ⊎ (b ≢ n)) place.before (place.name ∷ []) all)) place.pieces)
          (now_apart own place.now (all_front (λ (y : LifeMessage). y.life ≡ place.name) place.now (x ∷ place.left) of_now)))
        where
          now_apart : (place.name ≡ 0) ⊎ (place.name ≢ n) → (ys : List LifeMessage) → AllByRecursion (λ (y : LifeMessage). y.life ≡ place.name) ys → AllByRecursion (λ (y : LifeMessage). y.life ≢ n) ys
          now_apart (inl z) ys q = absurd (name_kept z)
          now_apart (inr g) [] q = tt
          now_apart (inr g) (y ∷ ys) q = (λ e. g (sym q.0 ∙ e), now_apart (inr g) ys q.1)

  abbrev parts : Parted (receiving_lives c) place.before place.name place.later
  parts = parted (receiving_lives c) place.before place.name place.later (h.names ∙ place.names)

  behind : AllByRecursion (IsGiven taken given) (parts.life ∷ parts.later)
  behind = all_back (IsGiven taken given) parts.before (parts.life ∷ parts.later) (subst (AllByRecursion (IsGiven taken given)) parts.lives h.counted)

  -- so many are dispatched of its life
  so_many : parts.life.dispatched k ≡ length place.now
  so_many = (behind.0 k).1 ∙ ap (λ n. length (told k n given)) parts.named ∙ ap length given_now ∙ length_text place.now

  is_more : parts.life.dispatched k < parts.life.accepted k
  is_more =
      let a = (behind.0 k).0 ∙ ap (λ n. length (told k n taken)) parts.named ∙ ap length taken_now ∙ length-append (map text place.now) (text x ∷ map text place.left) in
      let b = so_many in
      let d = length_text place.now in
      omega (arith, a, b, d)

  untouched : (rs : List ReceivingLife) → AllByRecursion (IsGiven taken given) rs → ((n : ℕ) → Has (λ l. l ≡ n) (map receiving_name rs) → told k n given ≡ []) → AllByRecursion (λ (l : ReceivingLife). l.dispatched k ≡ 0) rs
  untouched [] all none = tt
  untouched (r ∷ rs) all none = ((all.0 k).1 ∙ ap length (none r.name (inl refl)), untouched rs all.1 (λ n there. none n (inr there)))

  its_place : slice_get (told k place.name taken) (parts.life.dispatched k) ≡ Some (text x)
  its_place =
      ap (slice_get (told k place.name taken)) so_many ∙ ap (λ l. slice_get l (length place.now)) taken_now
      ∙ ap (slice_get (map text place.now ++ text x ∷ map text place.left)) (sym (length_text place.now)) ∙ get_next (map text place.now) (map text place.left) (text x)

  same_text : text x ≡ unnumbered (text x)
  same_text = ap (λ (y : LifeMessage). y.message.message) plain

  held : Has (λ (l : SendingLife). (l.name ≡ x.life) × IsSameAt k (text x) (parts.life.dispatched k) c.posted l) (sending_lives c)
  held = at (h.sent place.name k)
    where
      none_left : (ys zs : List Content) → ys ++ text x ∷ zs ≡ [] → ⊥
      none_left [] zs e = cons_is_some (text x) zs e
      none_left (y ∷ ys) zs e = cons_is_some y (ys ++ text x ∷ zs) e

      at : (told k place.name taken ≡ []) ⊎ Has (λ (s : SendingLife). (s.name ≡ place.name) × IsSentFrom c.posted k (told k place.name taken) s) (sending_lives c) →
          Has (λ (l : SendingLife). (l.name ≡ x.life) × IsSameAt k (text x) (parts.life.dispatched k) c.posted l) (sending_lives c)
      at (inl e) = absurd (none_left (map text place.now) (map text place.left) (sym taken_now ∙ e))
      at (inr p) =
          has_so (λ (s : SendingLife). (s.name ≡ place.name) × IsSentFrom c.posted k (told k place.name taken) s) (λ (l : SendingLife). (l.name ≡ x.life) × IsSameAt k (text x) (parts.life.dispatched k) c.posted l)
          (λ s q. (q.0 ∙ sym x_life, q.1 (parts.life.dispatched k) (text x) its_place ∙ ap Some same_text)) (sending_lives c) p

  pub may_dispatch : MayBeDispatched x.life k (text x) c
  may_dispatch = record {
    kept = λ e. name_kept (sym x_life ∙ e);
    before = parts.before;
    life = parts.life;
    later = parts.later;
    lives = parts.lives;
    named = parts.named ∙ sym x_life;
    accepted = is_more;
    first = untouched parts.later behind.1 (λ n there. later_none n (subst (Has (λ l. l ≡ n)) parts.later_names there));
    held = held;
  }

  abbrev c' : LivesChannel
  c' = changed_in_lives (dispatch x.life k (text x)) c

  same_lives : receiving_lives c' ≡ map (one_dispatched x.life k) (receiving_lives c)
  same_lives = sym (map-append (one_dispatched x.life k) c.received (c.receives ∷ []))

  given_one : (l : ReceivingLife) → IsGiven taken given l → ((one_dispatched x.life k l).name ≡ l.name) × IsGiven taken (given ++ x ∷ []) (one_dispatched x.life k l)
  given_one l g = at (l.name == x.life) refl
    where
      more_told : (other : Key) → told other l.name (given ++ x ∷ []) ≡ told other l.name given ++ of_it x.life l.name k other (text x)
      more_told other = ap (λ y. told other l.name (given ++ y ∷ [])) plain ∙ told_more other l.name x.life k (text x) given

      counts : (other : Key) → length (told other l.name (given ++ x ∷ [])) ≡ length (told other l.name given) + length (of_it x.life l.name k other (text x))
      counts other = ap length (more_told other) ∙ length-append (told other l.name given) (of_it x.life l.name k other (text x))

      at : (b : Bool) → (l.name == x.life) ≡ b → let r = if b then record l { dispatched = one_more k l.dispatched } else l in (r.name ≡ l.name) × IsGiven taken (given ++ x ∷ []) r
      at true e = (refl, λ other. ((g other).0, by_key other))
        where
          same : x.life ≡ l.name
          same = sym (eqb-true l.name x.life e)

          own : (other : Key) → of_it x.life l.name k other (text x) ≡ (if is_key k other then unnumbered (text x) ∷ [] else [])
          own other = subst (λ n. of_it x.life n k other (text x) ≡ (if is_key k other then unnumbered (text x) ∷ [] else [])) same (of_its_own x.life k other (text x))

          by : (other : Key) (t : Bool) → l.dispatched other ≡ length (told other l.name given) → (if t then l.dispatched other + 1 else l.dispatched other) ≡ length (told other l.name given) + length (if t then unnumbered (text x) ∷ [] else [])
          by other true q = ap (λ n. n + 1) q
          by other false q = omega (arith, q)

          by_key : (other : Key) → one_more k l.dispatched other ≡ length (told other l.name (given ++ x ∷ []))
          by_key other = by other (is_key k other) (g other).1 ∙ ap (λ z. length (told other l.name given) + length z) (sym (own other)) ∙ sym (counts other)
      at false e = (refl, λ other. ((g other).0, still other))
        where
          another : (other : Key) → of_it x.life l.name k other (text x) ≡ []
          another other = of_another x.life l.name k other (text x) (λ q. from_false_true (sym e ∙ eq-eqb l.name x.life (sym q)))

          with_none : (a b d : ℕ) → a ≡ b → d ≡ b + 0 → a ≡ d
          with_none a b d p q = omega (arith, p, q)

          still : (other : Key) → l.dispatched other ≡ length (told other l.name (given ++ x ∷ []))
          still other = with_none (l.dispatched other) (length (told other l.name given)) (length (told other l.name (given ++ x ∷ []))) (g other).1 (counts other ∙ ap (λ z. length (told other l.name given) + length z) (another other))

  given_all : (rs : List ReceivingLife) → AllByRecursion (IsGiven taken given) rs → (map receiving_name (map (one_dispatched x.life k) rs) ≡ map receiving_name rs) × AllByRecursion (IsGiven taken (given ++ x ∷ [])) (map (one_dispatched x.life k) rs)
  given_all [] all = (refl, tt)
  given_all (r ∷ rs) all =
      let here = given_one r all.0 in
      let rest = given_all rs all.1 in
      (ap (λ l. (one_dispatched x.life k r).name ∷ l) rest.0 ∙ ap (λ n. n ∷ map receiving_name rs) here.0, (here.1, rest.1))

  pub given_next : Given ns taken (given ++ x ∷ []) c'
  given_next =
      let all = given_all (receiving_lives c) h.counted in
      record {
        named = h.named;
        names = ap (map receiving_name) same_lives ∙ all.0 ∙ h.names;
        counted = subst (AllByRecursion (IsGiven taken (given ++ x ∷ []))) (sym same_lives) all.1;
        unnamed = h.unnamed;
        sent = h.sent;
      }

-- ---- all of them

abbrev pub dispatching : List LifeMessage → List LivesStep
dispatching xs = map (λ (x : LifeMessage). dispatch x.life x.message.key x.message.message) xs

pub all_dispatched : (ns : List ℕ) (taken given more : List LifeMessage) (c : LivesChannel) → Given ns taken given c → AllByRecursion IsPlainText more →
    ((key : Key) → ArePiecesOf (with_key key (given ++ more)) (map (λ n. with_key key (in_life n taken)) ns)) → AreSteps (dispatching more) c
all_dispatched ns taken given [] c h plain pieces = tt
all_dispatched ns taken given (x ∷ more) c h plain pieces = (
  may_dispatch ns taken given more x c h plain.0 pieces,
  all_dispatched ns taken (given ++ x ∷ []) more (changed_in_lives (dispatch x.life x.message.key x.message.message) c) (given_next ns taken given more x c h plain.0 pieces) plain.1
      (λ key. subst (λ l. ArePiecesOf (with_key key l) (map (λ n. with_key key (in_life n taken)) ns)) (sym (append_assoc given (x ∷ []) more)) (pieces key)),
)

-- they change nothing of the sending side, and accept nothing
pub dispatching_sends : (xs : List LifeMessage) (c : LivesChannel) → (after_in_lives (dispatching xs) c).sends ≡ c.sends
dispatching_sends [] c = refl
dispatching_sends (x ∷ xs) c = dispatching_sends xs (changed_in_lives (dispatch x.life x.message.key x.message.message) c)

pub same_names : (name : ℕ) (key : Key) (ls : List ReceivingLife) → map receiving_name (map (one_dispatched name key) ls) ≡ map receiving_name ls
same_names name key [] = refl
same_names name key (l ∷ ls) = ap (λ n. n ∷ map receiving_name (map (one_dispatched name key) ls)) (one_name name key l) ∙ ap (λ ns. l.name ∷ ns) (same_names name key ls)

pub dispatching_names : (xs : List LifeMessage) (c : LivesChannel) → map receiving_name (receiving_lives (after_in_lives (dispatching xs) c)) ≡ map receiving_name (receiving_lives c)
dispatching_names [] c = refl
dispatching_names (x ∷ xs) c =
    dispatching_names xs (changed_in_lives (dispatch x.life x.message.key x.message.message) c)
    ∙ ap (map receiving_name) (sym (map-append (one_dispatched x.life x.message.key) c.received (c.receives ∷ []))) ∙ same_names x.life x.message.key (receiving_lives c)

pub dispatching_accepts : (now : ℕ) (xs : List LifeMessage) → acceptances_from now (dispatching xs) ≡ []
dispatching_accepts now [] = refl
dispatching_accepts now (x ∷ xs) = dispatching_accepts now xs
