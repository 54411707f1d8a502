-- What the steps of a run deliver: each life the first ones of what the sending life of its name holds, life after life.
use Rattle.std.proofs.Common.{◌≡◌, ◌≢◌, ℕ, zero, suc, ◌+◌, ◌-◌, ◌<◌, ◌≤◌, ◌⊎◌, inl, inr, Bool, true, false, ◌==◌, if◌then◌else◌, List, [], ◌∷◌, ◌++◌, length, length-append, map, take, drop, Some, refl, sym, ap, subst, ◌∙◌, arith, append-nil, append_assoc}
use Rattle.std.specs.Prelude.{slice_get}
use Rattle.std.specs.List.{AllByRecursion, flat_map, filter}
use Rattle.std.proofs.lemmas.List.{map-append}
use Rattle.std.proofs.lemmas.List.Elements.{filter-append}
use Rattle.std.proofs.lemmas.Grind.{flat_map-append}
use Rattle.std.proofs.lemmas.Bool.{eqb-true, eq-eqb}
use Rattle.std.proofs.lemmas.Option.{none-some, same_Some}
use Rattle.m2_channel.specs.Channel.{KeyedMessage, of_key, keyed}
use Rattle.m2_channel.specs.m2_dispatch.Heard.{is_key}
use Rattle.m2_channel.specs.m2_dispatch.m2_message.Message.{Content, unnumbered}
use Rattle.m2_channel.specs.m2_dispatch.m2_policy.declared.path.Key.{Key}
use Rattle.m2_channel.proofs.Keys.{of_key-append}
use Rattle.m2_channel.proofs.m2_never_reset.m2_journal.m2_lemmas.Booleans.{from_false_true}
use Rattle.m2_channel.proofs.m2_never_reset.m2_journal.m2_lemmas.Lists.{all_front}
use Rattle.m2_lives.specs.Lives.{one_more, SendingLife, ReceivingLife, LivesChannel, sending_lives, receiving_lives, Has, IsNewName, IsSameAt, post, begins_sending, acknowledge, next_life, changed_in_lives, LifeMessage, of_life, held_by, held_in}
use Rattle.m2_lives.specs.LivesLaws.{AreNames, IsWithin, IsHeldBy, IsOrderedInLives, all_of_key}
use Rattle.m2_lives.proofs.Runs.{sending_name, receiving_name, count_of, last_of}
use Rattle.m2_never_reset.proofs.Feeds.{take-front}

-- ---- lists

pub get_drop : {X : Type 0} (s : ℕ) (xs : List X) (i : ℕ) → slice_get (drop s xs) i ≡ slice_get xs (s + i)
get_drop zero xs i = ap (slice_get xs) (let e : i ≡ 0 + i = omega arith in e)
get_drop (suc s) [] i = refl
get_drop (suc s) (x ∷ xs) i = get_drop s xs i ∙ ap (slice_get (x ∷ xs)) (let e : suc (s + i) ≡ suc s + i = omega arith in e)

pub get_take : {X : Type 0} (k : ℕ) (xs : List X) (i : ℕ) → i < k → slice_get (take k xs) i ≡ slice_get xs i
get_take zero xs i h = absurd (omega (arith, h))
get_take (suc k) [] i h = refl
get_take (suc k) (x ∷ xs) zero h = refl
get_take (suc k) (x ∷ xs) (suc i) h = get_take k xs i (omega (arith, h))

pub take_one : {X : Type 0} (n : ℕ) (xs : List X) (m : X) → slice_get xs n ≡ Some m → take (n + 1) xs ≡ take n xs ++ m ∷ []
take_one n [] m e = absurd (none-some m e)
take_one zero (x ∷ xs) m e = ap (λ y. y ∷ []) (same_Some x m e)
take_one (suc n) (x ∷ xs) m e = ap (λ k. take k (x ∷ xs)) (let e : suc n + 1 ≡ suc (n + 1) = omega arith in e) ∙ ap (λ l. x ∷ l) (take_one n xs m e)

pub drop_long : {X : Type 0} (s n : ℕ) (xs : List X) → s + n ≤ length xs → n ≤ length (drop s xs)
drop_long zero n xs h = omega (arith, h)
drop_long (suc s) n [] h = omega (arith, h)
drop_long (suc s) n (x ∷ xs) h = drop_long s n xs (omega (arith, h))

pub take_long : {X : Type 0} (n k : ℕ) (xs : List X) → n ≤ k → n ≤ length xs → n ≤ length (take k xs)
take_long n zero xs h g = h
take_long n (suc k) [] h g = g
take_long zero (suc k) (x ∷ xs) h g = omega arith
take_long (suc n) (suc k) (x ∷ xs) h g = let r = take_long n k xs (omega (arith, h)) (omega (arith, g)) in omega (arith, r)

-- fewer of them are the first ones of more
pub take_first : {X : Type 0} (n : ℕ) (xs : List X) → (more : List X) × (xs ≡ take n xs ++ more)
take_first zero xs = (xs, refl)
take_first (suc n) [] = ([], refl)
take_first (suc n) (x ∷ xs) = let it = take_first n xs in (it.0, ap (λ l. x ∷ l) it.1)

pub take_fewer : {X : Type 0} (d a : ℕ) (xs : List X) → d ≤ a → (more : List X) × (take a xs ≡ take d xs ++ more)
take_fewer zero a xs h = (take a xs, refl)
take_fewer (suc d) zero xs h = absurd (omega (arith, h))
take_fewer (suc d) (suc a) [] h = ([], refl)
take_fewer (suc d) (suc a) (x ∷ xs) h = let it = take_fewer d a xs (omega (arith, h)) in (it.0, ap (λ l. x ∷ l) it.1)

-- ---- what lists of messages have of a life and a key

abbrev pub told : Key → ℕ → List LifeMessage → List Content
told key name xs = of_key key (of_life name xs)

abbrev pub one : (life : ℕ) → Key → Content → LifeMessage
one life key m = record { life = life; message = keyed key m }

abbrev pub of_it : (life name : ℕ) → (key other : Key) → Content → List Content
of_it life name key other m = if life == name then (if is_key key other then unnumbered m ∷ [] else []) else []

pub told_more : (other : Key) (name life : ℕ) (key : Key) (m : Content) (xs : List LifeMessage) → told other name (xs ++ one life key m ∷ []) ≡ told other name xs ++ of_it life name key other m
told_more other name life key m xs =
    ap (of_key other) (ap (map (λ (x : LifeMessage). x.message)) (filter-append (λ (x : LifeMessage). x.life == name) xs (one life key m ∷ []))
    ∙ map-append (λ (x : LifeMessage). x.message) (filter (λ (x : LifeMessage). x.life == name) xs) (filter (λ (x : LifeMessage). x.life == name) (one life key m ∷ [])))
    ∙ of_key-append other (of_life name xs) (of_life name (one life key m ∷ []))
    ∙ ap (λ l. told other name xs ++ l) (at (life == name))
  where
    at : (b : Bool) → of_key other (map (λ (x : LifeMessage). x.message) (if b then one life key m ∷ [] else [])) ≡ (if b then (if is_key key other then unnumbered m ∷ [] else []) else [])
    at true = refl
    at false = refl

pub all_more : (other : Key) (life : ℕ) (key : Key) (m : Content) (xs : List LifeMessage) → all_of_key other (xs ++ one life key m ∷ []) ≡ all_of_key other xs ++ (if is_key key other then unnumbered m ∷ [] else [])
all_more other life key m xs = ap (of_key other) (map-append (λ (x : LifeMessage). x.message) xs (one life key m ∷ [])) ∙ of_key-append other (map (λ (x : LifeMessage). x.message) xs) (keyed key m ∷ [])

pub not_same : (a b : ℕ) → a ≢ b → (a == b) ≡ false
not_same a b h = at (a == b) refl
  where
    at : (t : Bool) → (a == b) ≡ t → (a == b) ≡ false
    at false e = e
    at true e = absurd (h (eqb-true a b e))

-- nothing of another life
pub of_another : (life name : ℕ) (key other : Key) (m : Content) → life ≢ name → of_it life name key other m ≡ []
of_another life name key other m h = ap (λ b. if b then (if is_key key other then unnumbered m ∷ [] else []) else []) (not_same life name h)

pub of_its_own : (life : ℕ) (key other : Key) (m : Content) → of_it life life key other m ≡ (if is_key key other then unnumbered m ∷ [] else [])
of_its_own life key other m = ap (λ b. if b then (if is_key key other then unnumbered m ∷ [] else []) else []) (eq-eqb life life refl)

-- ---- what lives hold

abbrev pub held_of : (name : ℕ) → Key → (posted : List KeyedMessage) → SendingLife → List Content
held_of name key posted l = if l.name == name then held_by key posted l else []

-- what the one life of a name holds is held in that name
holds_long : (name : ℕ) (key : Key) (posted : List KeyedMessage) (n : ℕ) (lives : List SendingLife) → AllByRecursion (IsWithin (count_of posted)) lives →
    Has (λ (s : SendingLife). (s.name ≡ name) × (s.start key + n ≤ s.end key)) lives → n ≤ length (flat_map (held_of name key posted) lives)
holds_long name key posted n [] within h = absurd h
holds_long name key posted n (s ∷ lives) within (inl p) =
    let here = first (s.name == name) (eq-eqb s.name name p.0) in
    let sum = length-append (held_of name key posted s) (flat_map (held_of name key posted) lives) in
    omega (arith, here, sum)
  where
    far_enough : (n start end total : ℕ) → start + n ≤ end → end ≤ total → (n ≤ end - start) × (start + n ≤ total)
    far_enough n start end total a b = (omega (arith, a), omega (arith, a, b))

    first : (b : Bool) → b ≡ true → n ≤ length (if b then held_by key posted s else [])
    first true e =
        let w = within.0.end key in
        let it = far_enough n (s.start key) (s.end key) (count_of posted key) p.1 w in
        take_long n (s.end key - s.start key) (drop (s.start key) (of_key key posted)) it.0 (drop_long (s.start key) n (of_key key posted) it.1)
    first false e = from_false_true e
holds_long name key posted n (s ∷ lives) within (inr h) =
    let rest = holds_long name key posted n lives within.1 h in
    let sum = length-append (held_of name key posted s) (flat_map (held_of name key posted) lives) in
    omega (arith, rest, sum)

-- nothing is held in a name that no life has
none_held : (name : ℕ) (key : Key) (posted : List KeyedMessage) (lives : List SendingLife) → AllByRecursion (λ n. n ≢ name) (map sending_name lives) → flat_map (held_of name key posted) lives ≡ []
none_held name key posted [] h = refl
none_held name key posted (s ∷ lives) h =
    ap (λ b. (if b then held_by key posted s else []) ++ flat_map (held_of name key posted) lives) (not_same s.name name h.0) ∙ none_held name key posted lives h.1

-- what is held in a name is what the one life that has it holds
pub record IsTheOne (name : ℕ) (key : Key) (posted : List KeyedMessage) (Q : SendingLife → Type 0) (lives : List SendingLife) : Type 0 where
  pub life : SendingLife
  pub so : Q life
  pub held : flat_map (held_of name key posted) lives ≡ held_by key posted life

pub the_one : (name : ℕ) (key : Key) (posted : List KeyedMessage) (Q : SendingLife → Type 0) (lives : List SendingLife) → name ≢ 0 → AreNames (map sending_name lives) →
    Has (λ (s : SendingLife). (s.name ≡ name) × Q s) lives → IsTheOne name key posted Q lives
the_one name key posted Q [] kept names h = absurd h
the_one name key posted Q (s ∷ lives) kept names (inl p) = record {
  life = s;
  so = p.1;
  held =
      ap (λ b. (if b then held_by key posted s else []) ++ flat_map (held_of name key posted) lives) (eq-eqb s.name name p.0)
      ∙ ap (λ l. held_by key posted s ++ l) (none_held name key posted lives (at names.0)) ∙ append-nil (held_by key posted s);
}
  where
    at : IsNewName s.name (map sending_name lives) → AllByRecursion (λ n. n ≢ name) (map sending_name lives)
    at (inl z) = absurd (kept (sym p.0 ∙ z))
    at (inr all) = subst (λ n. AllByRecursion (λ k. k ≢ n) (map sending_name lives)) p.0 all
the_one name key posted Q (s ∷ lives) kept names (inr h) =
    let rest = the_one name key posted Q lives kept names.1 h in
    record {
      life = rest.life;
      so = rest.so;
      held = ap (λ b. (if b then held_by key posted s else []) ++ flat_map (held_of name key posted) lives) (not_same s.name name (λ e. apart lives (at names.0 e) h)) ∙ rest.held;
    }
  where
    at : IsNewName s.name (map sending_name lives) → s.name ≡ name → AllByRecursion (λ n. n ≢ name) (map sending_name lives)
    at (inl z) e = absurd (kept (sym e ∙ z))
    at (inr all) e = subst (λ n. AllByRecursion (λ k. k ≢ n) (map sending_name lives)) e all

    apart : (xs : List SendingLife) → AllByRecursion (λ n. n ≢ name) (map sending_name xs) → Has (λ (x : SendingLife). (x.name ≡ name) × Q x) xs → ⊥
    apart [] all h = h
    apart (x ∷ xs) all (inl p) = all.0 p.0
    apart (x ∷ xs) all (inr h) = apart xs all.1 h

-- the message behind the first ones of a life is there
pub held_at : (key : Key) (posted : List KeyedMessage) (s : SendingLife) (m : Content) (n : ℕ) → s.start key + n < s.end key → IsSameAt key m n posted s → slice_get (held_by key posted s) n ≡ Some (unnumbered m)
held_at key posted s m n below same =
    get_take (s.end key - s.start key) (drop (s.start key) (of_key key posted)) n (omega (arith, below)) ∙ get_drop (s.start key) (of_key key posted) n ∙ same

-- ---- what holds along a run, by what was accepted and dispatched

abbrev pub Took : (List LifeMessage) → LivesChannel → (ReceivingLife → Key → ℕ) → ReceivingLife → Type 0
Took xs c count l = l.name ≢ 0 → (key : Key) → told key l.name xs ≡ take (count l key) (held_in l.name key c)

abbrev pub accepted_of : ReceivingLife → Key → ℕ
accepted_of l = l.accepted

abbrev pub dispatched_of : ReceivingLife → Key → ℕ
dispatched_of l = l.dispatched

abbrev pub pieces_of : Key → LivesChannel → List ReceivingLife → List Content
pieces_of key c lives = flat_map (λ (l : ReceivingLife). take (l.dispatched key) (held_in l.name key c)) lives

abbrev pub IsEmptyIfNone : ReceivingLife → Type 0
IsEmptyIfNone l = l.name ≡ 0 → (key : Key) → l.accepted key ≡ 0

abbrev pub IsUntold : LivesChannel → List LifeMessage → Type 0
IsUntold c xs = (name : ℕ) → (name ≡ 0) ⊎ AllByRecursion (λ n. n ≢ name) (map receiving_name (receiving_lives c)) → (key : Key) → told key name xs ≡ []

pub record Delivers (c : LivesChannel) (taken given : List LifeMessage) : Type 0 where
  pub ordered : IsOrderedInLives c
  pub empty : AllByRecursion IsEmptyIfNone (receiving_lives c)
  pub accepted : AllByRecursion (Took taken c accepted_of) (receiving_lives c)
  pub dispatched : AllByRecursion (Took given c dispatched_of) (receiving_lives c)
  pub taken_none : IsUntold c taken
  pub given_none : IsUntold c given
  pub pieces : (key : Key) → all_of_key key given ≡ pieces_of key c (receiving_lives c)

-- a life has accepted no more than is held in its name
pub accepted_fits : (c : LivesChannel) → IsOrderedInLives c → (lives : List ReceivingLife) →
    AllByRecursion (λ (l : ReceivingLife). (key : Key) → (l.accepted key ≡ 0) ⊎ Has (IsHeldBy key l) (sending_lives c)) lives →
    AllByRecursion (λ (l : ReceivingLife). (key : Key) → l.accepted key ≤ length (held_in l.name key c)) lives
accepted_fits c h [] all = tt
accepted_fits c h (l ∷ lives) all = (λ key. at key (all.0 key), accepted_fits c h lives all.1)
  where
    nothing : (n k : ℕ) → n ≡ 0 → n ≤ k
    nothing n k e = omega (arith, e)

    at : (key : Key) → (l.accepted key ≡ 0) ⊎ Has (IsHeldBy key l) (sending_lives c) → l.accepted key ≤ length (held_in l.name key c)
    at key (inl z) = nothing (l.accepted key) (length (held_in l.name key c)) z
    at key (inr held) = holds_long l.name key c.posted (l.accepted key) (sending_lives c) h.within held

-- ---- more is held

pub record HoldsMore (c d : LivesChannel) : Type 0 where
  ordered : IsOrderedInLives d
  receiving : receiving_lives d ≡ receiving_lives c
  held : (name : ℕ) (key : Key) → (more : List Content) × (held_in name key d ≡ held_in name key c ++ more)

pub holds_more : (c d : LivesChannel) (taken given : List LifeMessage) → HoldsMore c d → Delivers c taken given → Delivers d taken given
holds_more c d taken given more h =
    let fits = accepted_fits c h.ordered (receiving_lives c) h.ordered.accepted in
    record {
      ordered = more.ordered;
      empty = subst (AllByRecursion IsEmptyIfNone) (sym more.receiving) h.empty;
      accepted = subst (AllByRecursion (Took taken d accepted_of)) (sym more.receiving) (longer taken accepted_of (receiving_lives c) (λ l a key. a key) fits h.accepted);
      dispatched = subst (AllByRecursion (Took given d dispatched_of)) (sym more.receiving) (longer_by taken given (receiving_lives c) fits h.ordered.dispatched h.dispatched);
      taken_none = λ name new. h.taken_none name (subst (λ ls. (name ≡ 0) ⊎ AllByRecursion (λ n. n ≢ name) (map receiving_name ls)) more.receiving new);
      given_none = λ name new. h.given_none name (subst (λ ls. (name ≡ 0) ⊎ AllByRecursion (λ n. n ≢ name) (map receiving_name ls)) more.receiving new);
      pieces = λ key. h.pieces key ∙ same_pieces key (receiving_lives c) fits h.ordered.dispatched ∙ ap (pieces_of key d) (sym more.receiving);
    }
  where
    front : (n : ℕ) (name : ℕ) (key : Key) → n ≤ length (held_in name key c) → take n (held_in name key c) ≡ take n (held_in name key d)
    front n name key fit = let it = more.held name key in sym (ap (take n) it.1 ∙ take-front n (held_in name key c) it.0 fit)

    longer : (xs : List LifeMessage) (count : ReceivingLife → Key → ℕ) (lives : List ReceivingLife) →
        ((l : ReceivingLife) → ((key : Key) → l.accepted key ≤ length (held_in l.name key c)) → (key : Key) → count l key ≤ length (held_in l.name key c)) →
        AllByRecursion (λ (l : ReceivingLife). (key : Key) → l.accepted key ≤ length (held_in l.name key c)) lives → AllByRecursion (Took xs c count) lives → AllByRecursion (Took xs d count) lives
    longer xs count [] so fits all = tt
    longer xs count (l ∷ lives) so fits all = (λ kept key. all.0 kept key ∙ front (count l key) l.name key (so l fits.0 key), longer xs count lives so fits.1 all.1)

    at_most : {a b l : ℕ} → a ≤ b → b ≤ l → a ≤ l
    at_most a b = omega (arith, a, b)

    longer_by : (taken xs : List LifeMessage) (lives : List ReceivingLife) → AllByRecursion (λ (l : ReceivingLife). (key : Key) → l.accepted key ≤ length (held_in l.name key c)) lives →
        AllByRecursion (λ (l : ReceivingLife). (key : Key) → l.dispatched key ≤ l.accepted key) lives → AllByRecursion (Took xs c dispatched_of) lives → AllByRecursion (Took xs d dispatched_of) lives
    longer_by taken xs [] fits few all = tt
    longer_by taken xs (l ∷ lives) fits few all =
        (λ kept key. all.0 kept key ∙ front (l.dispatched key) l.name key (at_most (few.0 key) (fits.0 key)), longer_by taken xs lives fits.1 few.1 all.1)

    same_pieces : (key : Key) (lives : List ReceivingLife) → AllByRecursion (λ (l : ReceivingLife). (key : Key) → l.accepted key ≤ length (held_in l.name key c)) lives →
        AllByRecursion (λ (l : ReceivingLife). (key : Key) → l.dispatched key ≤ l.accepted key) lives → pieces_of key c lives ≡ pieces_of key d lives
    same_pieces key [] fits few = refl
    same_pieces key (l ∷ lives) fits few =
        ap (λ x. x ++ pieces_of key c lives) (front (l.dispatched key) l.name key (at_most (few.0 key) (fits.0 key)))
        ∙ ap (λ x. take (l.dispatched key) (held_in l.name key d) ++ x) (same_pieces key lives fits.1 few.1)

-- ---- a life within what was posted holds the same of more

pub held_of_more : (key : Key) (posted more : List KeyedMessage) (s : SendingLife) → IsWithin (count_of posted) s → held_by key (posted ++ more) s ≡ held_by key posted s
held_of_more key posted more s w = at (s.start key) (s.end key) (w.acknowledged key) (w.end key)
  where
    fits : (start acked end total : ℕ) → start + acked ≤ end → end ≤ total → start + (end - start) ≤ total
    fits start acked end total a b = omega (arith, a, b)

    inside : {X : Type 0} (s k : ℕ) (xs ys : List X) → s + k ≤ length xs → take k (drop s (xs ++ ys)) ≡ take k (drop s xs)
    inside zero k xs ys f = take-front k xs ys (omega (arith, f))
    inside (suc s) zero xs ys f = refl
    inside (suc s) (suc k) [] ys f = absurd (omega (arith, f))
    inside (suc s) (suc k) (x ∷ xs) ys f = inside s (suc k) xs ys (omega (arith, f))

    at : (start end : ℕ) → start + s.acknowledged key ≤ end → end ≤ length (of_key key posted) → take (end - start) (drop start (of_key key (posted ++ more))) ≡ take (end - start) (drop start (of_key key posted))
    at start end a b =
        ap (λ l. take (end - start) (drop start l)) (of_key-append key posted more)
        ∙ inside start (end - start) (of_key key posted) (of_key key more) (fits start (s.acknowledged key) end (length (of_key key posted)) a b)

pub held_in_more : (name : ℕ) (key : Key) (posted more : List KeyedMessage) (lives : List SendingLife) → AllByRecursion (IsWithin (count_of posted)) lives →
    flat_map (held_of name key (posted ++ more)) lives ≡ flat_map (held_of name key posted) lives
held_in_more name key posted more [] all = refl
held_in_more name key posted more (s ∷ lives) all =
    ap (λ l. (if s.name == name then l else []) ++ flat_map (held_of name key (posted ++ more)) lives) (held_of_more key posted more s all.0)
    ∙ ap (λ l. held_of name key posted s ++ l) (held_in_more name key posted more lives all.1)

-- ---- each step of the sending side

pub posts_more : (key : Key) (m : Content) (c : LivesChannel) → IsOrderedInLives c → IsOrderedInLives (changed_in_lives (post key m) c) → HoldsMore c (changed_in_lives (post key m) c)
posts_more key m c h behind = record { ordered = behind; receiving = refl; held = λ name other. held name other }
  where
    posted : List KeyedMessage
    posted = c.posted ++ keyed key m ∷ []

    sends : SendingLife
    sends = record c.sends { end = one_more key c.sends.end }

    -- an ended life holds what it held
    still : (other : Key) (s : SendingLife) → IsWithin (count_of c.posted) s → held_by other posted s ≡ held_by other c.posted s
    still other s w = held_of_more other c.posted (keyed key m ∷ []) s w

    -- the current one holds more
    current : (other : Key) → (more : List Content) × (held_by other posted sends ≡ held_by other c.posted c.sends ++ more)
    current other = at (is_key key other) (h.end other) ((last_of (IsWithin (count_of c.posted)) c.sent c.sends h.within).acknowledged other)
      where
        all_behind : {X : Type 0} (s : ℕ) (xs ys : List X) → s ≤ length xs → drop s (xs ++ ys) ≡ drop s xs ++ ys
        all_behind zero xs ys f = refl
        all_behind (suc s) [] ys f = absurd (omega (arith, f))
        all_behind (suc s) (x ∷ xs) ys f = all_behind s xs ys (omega (arith, f))

        take_all : {X : Type 0} (k : ℕ) (xs : List X) → length xs ≤ k → take k xs ≡ xs
        take_all zero [] f = refl
        take_all zero (x ∷ xs) f = absurd (omega (arith, f))
        take_all (suc k) [] f = refl
        take_all (suc k) (x ∷ xs) f = ap (λ l. x ∷ l) (take_all k xs (omega (arith, f)))

        short : {X : Type 0} (s e : ℕ) (xs : List X) → e ≡ length xs → s ≤ e → length (drop s xs) ≤ e - s
        short zero e xs f g = omega (arith, f)
        short (suc s) e [] f g = absurd (omega (arith, f, g))
        short (suc s) zero (x ∷ xs) f g = absurd (omega (arith, g))
        short (suc s) (suc e) (x ∷ xs) f g = let r = short s e xs (omega (arith, f)) (omega (arith, g)) in omega (arith, r)

        start_fits : (s a e n : ℕ) → s + a ≤ e → e ≡ n → s ≤ n
        start_fits s a e n w f = omega (arith, w, f)

        start_within : (s a e : ℕ) → s + a ≤ e → s ≤ e
        start_within s a e w = omega (arith, w)

        at : (b : Bool) → c.sends.end other ≡ length (of_key other c.posted) → c.sends.start other + c.sends.acknowledged other ≤ c.sends.end other →
            (more : List Content) × (take ((if b then c.sends.end other + 1 else c.sends.end other) - c.sends.start other) (drop (c.sends.start other) (of_key other posted)) ≡ held_by other c.posted c.sends ++ more)
        at b f w =
            let s = c.sends.start other in
            let e = c.sends.end other in
            let p = of_key other c.posted in
            let x = of_key other (keyed key m ∷ []) in
            let n = (if b then e + 1 else e) - s in
            let whole : take (e - s) (drop s p) ≡ drop s p = take_all (e - s) (drop s p) (short s e p f (start_within s (c.sends.acknowledged other) e w)) in
            let there : drop s (of_key other posted) ≡ drop s p ++ x = ap (drop s) (of_key-append other c.posted (keyed key m ∷ [])) ∙ all_behind s p x (start_fits s (c.sends.acknowledged other) e (length p) w f) in
            let cut = take_of n (drop s p) x (enough b e s (length (drop s p)) (short s e p f (start_within s (c.sends.acknowledged other) e w))) in
            (cut.0, ap (take n) there ∙ cut.1 ∙ ap (λ l. l ++ cut.0) (sym whole))
          where
            enough : (b : Bool) (e s k : ℕ) → k ≤ e - s → k ≤ (if b then e + 1 else e) - s
            enough true e s k g = omega (arith, g)
            enough false e s k g = g

            take_of : {X : Type 0} (n : ℕ) (xs ys : List X) → length xs ≤ n → (more : List X) × (take n (xs ++ ys) ≡ xs ++ more)
            take_of n [] ys g = (take n ys, refl)
            take_of zero (x ∷ xs) ys g = absurd (omega (arith, g))
            take_of (suc n) (x ∷ xs) ys g = let it = take_of n xs ys (omega (arith, g)) in (it.0, ap (λ l. x ∷ l) it.1)

    held : (name : ℕ) (other : Key) → (more : List Content) × (held_in name other (changed_in_lives (post key m) c) ≡ held_in name other c ++ more)
    held name other =
        let it = current other in
        let old = flat_map-append (held_of name other c.posted) c.sent (c.sends ∷ []) in
        let new = flat_map-append (held_of name other posted) c.sent (sends ∷ []) in
        let same = ended c.sent (all_front (IsWithin (count_of c.posted)) c.sent (c.sends ∷ []) h.within) in
        let last = at (c.sends.name == name) it.0 it.1 in (
          last.0,
          new ∙ ap (λ l. l ++ flat_map (held_of name other posted) (sends ∷ [])) same ∙ ap (λ l. flat_map (held_of name other c.posted) c.sent ++ l) last.1
              ∙ sym (append_assoc (flat_map (held_of name other c.posted) c.sent) (flat_map (held_of name other c.posted) (c.sends ∷ [])) last.0) ∙ ap (λ l. l ++ last.0) (sym old),
        )
      where
        ended : (lives : List SendingLife) → AllByRecursion (IsWithin (count_of c.posted)) lives → flat_map (held_of name other posted) lives ≡ flat_map (held_of name other c.posted) lives
        ended [] all = refl
        ended (s ∷ lives) all =
            ap (λ l. (if s.name == name then l else []) ++ flat_map (held_of name other posted) lives) (still other s all.0)
            ∙ ap (λ l. held_of name other c.posted s ++ l) (ended lives all.1)

        at : (b : Bool) (more : List Content) → held_by other posted sends ≡ held_by other c.posted c.sends ++ more →
            (rest : List Content) × ((if b then held_by other posted sends else []) ++ [] ≡ ((if b then held_by other c.posted c.sends else []) ++ []) ++ rest)
        at true more e = (more, append-nil (held_by other posted sends) ∙ e ∙ ap (λ l. l ++ more) (sym (append-nil (held_by other c.posted c.sends))))
        at false more e = ([], refl)

pub begins_more : (name : ℕ) (thrown : Bool) (c : LivesChannel) → IsOrderedInLives (changed_in_lives (begins_sending name thrown) c) → HoldsMore c (changed_in_lives (begins_sending name thrown) c)
begins_more name thrown c behind = record {
  ordered = behind;
  receiving = refl;
  held = λ other key. (flat_map (held_of other key c.posted) (next_life c.sends name thrown ∷ []), flat_map-append (held_of other key c.posted) (sending_lives c) (next_life c.sends name thrown ∷ []));
}

pub acknowledges_more : (key : Key) (c : LivesChannel) → IsOrderedInLives (changed_in_lives (acknowledge key) c) → HoldsMore c (changed_in_lives (acknowledge key) c)
acknowledges_more key c behind = record {
  ordered = behind;
  receiving = refl;
  held = λ name other. (
    [],
    flat_map-append (held_of name other c.posted) c.sent (record c.sends { acknowledged = one_more key c.sends.acknowledged } ∷ [])
        ∙ sym (flat_map-append (held_of name other c.posted) c.sent (c.sends ∷ [])) ∙ sym (append-nil (held_in name other c)),
  );
}
