-- What a run delivers, by the steps of the side that dispatches, and of all steps together.
use Rattle.std.proofs.Common.{◌≡◌, ◌≢◌, ℕ, zero, suc, ◌+◌, ◌-◌, ◌<◌, ◌≤◌, ◌⊎◌, inl, inr, Bool, true, false, ◌==◌, if◌then◌else◌, List, [], ◌∷◌, ◌++◌, length, map, take, drop, Some, refl, sym, ap, subst, ◌∙◌, arith, append-nil, append_assoc}
use Rattle.std.specs.Prelude.{slice_get}
use Rattle.std.specs.List.{AllByRecursion, flat_map}
use Rattle.std.proofs.lemmas.List.{map-append}
use Rattle.std.proofs.lemmas.Grind.{flat_map-append}
use Rattle.std.proofs.lemmas.Bool.{eqb-true, eq-eqb}
use Rattle.m2_channel.specs.Channel.{of_key}
use Rattle.m2_channel.specs.m2_dispatch.Heard.{is_key}
use Rattle.m2_channel.specs.m2_dispatch.m2_message.Message.{Content, unnumbered}
use Rattle.m2_channel.specs.m2_dispatch.m2_policy.declared.path.Key.{Key}
use Rattle.m2_channel.specs.m2_never_reset.Order.{AreFirstOf}
use Rattle.m2_channel.proofs.Keys.{same_key}
use Rattle.m2_channel.proofs.m2_never_reset.m2_journal.m2_lemmas.Booleans.{from_false_true}
use Rattle.m2_channel.proofs.m2_never_reset.m2_journal.m2_lemmas.Lists.{all_front, all_back, all_append, all_last}
use Rattle.m2_lives.specs.Lives.{none, one_more, ReceivingLife, LivesChannel, new_lives, sending_lives, receiving_lives, Has, IsNewName, IsSameAt, Holds, MayBeAccepted, MayBeDispatched, LivesStep, post, begins_sending, begins_receiving, accept, acknowledge, dispatch, mark, reset, one_dispatched, changed_in_lives, after_in_lives, IsRunOfLives, LifeMessage, acceptances_from, acceptances, dispatches, held_in}
use Rattle.m2_lives.specs.LivesLaws.{AreNames, ArePiecesOf, all_of_key, RunsDeliverInLives}
use Rattle.m2_lives.proofs.Among.{has_so, has_back, names_last, names_map, all_named}
use Rattle.m2_lives.proofs.Runs.{changes_so, new_so, receiving_name, all_last_so}
use Rattle.m2_lives.proofs.Delivered.{Delivers, IsEmptyIfNone, IsUntold, Took, accepted_fits, accepted_of, acknowledges_more, all_more, begins_more, dispatched_of, get_drop, held_at, holds_more, not_same, of_another, of_it, of_its_own, one, pieces_of, posts_more, take_fewer, take_first, take_one, the_one, told, told_more}

-- ---- a life begins

pub begins_receiving_delivers : (name : ℕ) (c : LivesChannel) (taken given : List LifeMessage) → IsNewName name (map receiving_name (receiving_lives c)) → Delivers c taken given →
    Delivers (changed_in_lives (begins_receiving name) c) taken given
begins_receiving_delivers name c taken given new h = record {
  ordered = changes_so (begins_receiving name) c h.ordered new;
  empty = all_last IsEmptyIfNone (receiving_lives c) receives h.empty (λ e key. refl);
  accepted = all_last (Took taken c accepted_of) (receiving_lives c) receives h.accepted (λ kept key. h.taken_none name new key);
  dispatched = all_last (Took given c dispatched_of) (receiving_lives c) receives h.dispatched (λ kept key. h.given_none name new key);
  taken_none = λ n untold. h.taken_none n (fewer n untold);
  given_none = λ n untold. h.given_none n (fewer n untold);
  pieces = λ key. h.pieces key ∙ sym (flat_map-append (λ (l : ReceivingLife). take (l.dispatched key) (held_in l.name key c)) (receiving_lives c) (receives ∷ []) ∙ append-nil (pieces_of key c (receiving_lives c)));
}
  where
    receives : ReceivingLife
    receives = record { name = name; accepted = none; dispatched = none }

    fewer : (n : ℕ) → (n ≡ 0) ⊎ AllByRecursion (λ k. k ≢ n) (map receiving_name (receiving_lives c ++ receives ∷ [])) → (n ≡ 0) ⊎ AllByRecursion (λ k. k ≢ n) (map receiving_name (receiving_lives c))
    fewer n (inl z) = inl z
    fewer n (inr all) =
        inr (all_front (λ k. k ≢ n) (map receiving_name (receiving_lives c)) (name ∷ []) (subst (AllByRecursion (λ k. k ≢ n)) (map-append receiving_name (receiving_lives c) (receives ∷ [])) all))

-- ---- names

-- those before one with a name have others
apart_before : (xs : List ReceivingLife) (y : ReceivingLife) (zs : List ReceivingLife) → AreNames (map receiving_name (xs ++ y ∷ zs)) → y.name ≢ 0 → AllByRecursion (λ (l : ReceivingLife). y.name ≢ l.name) xs
apart_before [] y zs names kept = tt
apart_before (x ∷ xs) y zs names kept = (at names.0, apart_before xs y zs names.1 kept)
  where
    there : (ws : List ReceivingLife) → AllByRecursion (λ k. k ≢ x.name) (map receiving_name (ws ++ y ∷ zs)) → y.name ≢ x.name
    there [] all = all.0
    there (w ∷ ws) all = there ws all.1

    at : IsNewName x.name (map receiving_name (xs ++ y ∷ zs)) → y.name ≢ x.name
    at (inl z) = λ e. kept (e ∙ z)
    at (inr all) = there xs all

apart_behind : (xs : List ReceivingLife) (y : ReceivingLife) (zs : List ReceivingLife) → AreNames (map receiving_name (xs ++ y ∷ zs)) → y.name ≢ 0 → AllByRecursion (λ (l : ReceivingLife). y.name ≢ l.name) zs
apart_behind [] y zs names kept = at names.0
  where
    all_of : (ws : List ReceivingLife) → AllByRecursion (λ k. k ≢ y.name) (map receiving_name ws) → AllByRecursion (λ (l : ReceivingLife). y.name ≢ l.name) ws
    all_of [] all = tt
    all_of (w ∷ ws) all = (λ e. all.0 (sym e), all_of ws all.1)

    at : IsNewName y.name (map receiving_name zs) → AllByRecursion (λ (l : ReceivingLife). y.name ≢ l.name) zs
    at (inl z) = absurd (kept z)
    at (inr all) = all_of zs all
apart_behind (x ∷ xs) y zs names kept = apart_behind xs y zs names.1 kept

-- one of them isn't a new name
is_there : (xs : List ReceivingLife) (y : ReceivingLife) (zs : List ReceivingLife) (n : ℕ) → AllByRecursion (λ k. k ≢ n) (map receiving_name (xs ++ y ∷ zs)) → y.name ≢ n
is_there [] y zs n all = all.0
is_there (x ∷ xs) y zs n all = is_there xs y zs n all.1

with_last : {X Y : Type 0} (g : X → List Y) (xs : List X) (x y : X) → g x ≡ g y → flat_map g (xs ++ x ∷ []) ≡ flat_map g (xs ++ y ∷ [])
with_last g xs x y e = flat_map-append g xs (x ∷ []) ∙ ap (λ l. flat_map g xs ++ (l ++ [])) e ∙ sym (flat_map-append g xs (y ∷ []))

-- ---- a message is accepted

pub accepts_delivers : (key : Key) (m : Content) (c : LivesChannel) (taken given : List LifeMessage) → MayBeAccepted key m c → Delivers c taken given →
    Delivers (changed_in_lives (accept key m) c) (taken ++ one c.receives.name key m ∷ []) given
accepts_delivers key m c taken given may h = record {
  ordered = changes_so (accept key m) c h.ordered may;
  empty = all_last_so IsEmptyIfNone IsEmptyIfNone c.received c.receives receives (λ l e. e) (λ e z. absurd (may.kept z)) h.empty;
  accepted = all_append (Took taken' c accepted_of) c.received (receives ∷ [])
      (ended c.received (all_front (Took taken c accepted_of) c.received (c.receives ∷ []) h.accepted) (apart_before c.received c.receives [] h.ordered.receiving_names may.kept))
      (λ kept other. current other (all_back (Took taken c accepted_of) c.received (c.receives ∷ []) h.accepted).0, tt);
  dispatched = all_last_so (Took given c dispatched_of) (Took given c dispatched_of) c.received c.receives receives (λ l p. p) (λ p. p) h.dispatched;
  taken_none = untold;
  given_none = λ n new. h.given_none n (subst (λ ns. (n ≡ 0) ⊎ AllByRecursion (λ k. k ≢ n) ns) (sym (names_last receiving_name c.received c.receives receives refl)) new);
  pieces = λ other. h.pieces other ∙ with_last (λ (l : ReceivingLife). take (l.dispatched other) (held_in l.name other c)) c.received c.receives receives refl;
}
  where
    receives : ReceivingLife
    receives = record c.receives { accepted = one_more key c.receives.accepted }

    taken' : List LifeMessage
    taken' = taken ++ one c.receives.name key m ∷ []

    ended : (lives : List ReceivingLife) → AllByRecursion (Took taken c accepted_of) lives → AllByRecursion (λ (l : ReceivingLife). c.receives.name ≢ l.name) lives → AllByRecursion (Took taken' c accepted_of) lives
    ended [] all apart = tt
    ended (l ∷ lives) all apart = (
      λ kept other. told_more other l.name c.receives.name key m taken ∙ ap (λ x. told other l.name taken ++ x) (of_another c.receives.name l.name key other m apart.0)
          ∙ append-nil (told other l.name taken) ∙ all.0 kept other,
      ended lives all.1 apart.1,
    )

    held : slice_get (held_in c.receives.name key c) (c.receives.accepted key) ≡ Some (unnumbered m)
    held =
        let it = the_one c.receives.name key c.posted (λ s. (s.start key + c.receives.accepted key < s.end key) × IsSameAt key m (c.receives.accepted key) c.posted s) (sending_lives c) may.kept h.ordered.sending_names
        (has_so (Holds c.receives.name key m (c.receives.accepted key) c.posted) _ (λ s p. (p.named, (p.below, p.same))) (sending_lives c) may.held) in
        ap (λ l. slice_get l (c.receives.accepted key)) it.held ∙ held_at key c.posted it.life m (c.receives.accepted key) it.so.0 it.so.1

    current : (other : Key) → Took taken c accepted_of c.receives → told other c.receives.name taken' ≡ take (one_more key c.receives.accepted other) (held_in c.receives.name other c)
    current other p =
        told_more other c.receives.name c.receives.name key m taken ∙ ap (λ x. told other c.receives.name taken ++ x) (of_its_own c.receives.name key other m)
        ∙ ap (λ l. l ++ (if is_key key other then unnumbered m ∷ [] else [])) (p may.kept other) ∙ at (is_key key other) (λ e. same_key key other e)
      where
        at : (b : Bool) → (b ≡ true → key ≡ other) → take (c.receives.accepted other) (held_in c.receives.name other c) ++ (if b then unnumbered m ∷ [] else [])
            ≡ take (if b then c.receives.accepted other + 1 else c.receives.accepted other) (held_in c.receives.name other c)
        at true e =
            sym (take_one (c.receives.accepted other) (held_in c.receives.name other c) (unnumbered m)
            (subst (λ k. slice_get (held_in c.receives.name k c) (c.receives.accepted k) ≡ Some (unnumbered m)) (e refl) held))
        at false e = append-nil (take (c.receives.accepted other) (held_in c.receives.name other c))

    untold : IsUntold (changed_in_lives (accept key m) c) taken'
    untold n new other =
        told_more other n c.receives.name key m taken ∙ ap (λ x. told other n taken ++ x) (of_another c.receives.name n key other m (apart new)) ∙ append-nil (told other n taken)
        ∙ h.taken_none n (subst (λ ns. (n ≡ 0) ⊎ AllByRecursion (λ k. k ≢ n) ns) (sym (names_last receiving_name c.received c.receives receives refl)) new) other
      where
        apart : (n ≡ 0) ⊎ AllByRecursion (λ k. k ≢ n) (map receiving_name (c.received ++ receives ∷ [])) → c.receives.name ≢ n
        apart (inl z) = λ e. may.kept (e ∙ z)
        apart (inr all) = is_there c.received receives [] n all

-- ---- a message is dispatched

get_within : {X : Type 0} (k : ℕ) (xs : List X) (i : ℕ) → i < length (take k xs) → slice_get (take k xs) i ≡ slice_get xs i
get_within zero xs i h = absurd (omega (arith, h))
get_within (suc k) [] i h = refl
get_within (suc k) (x ∷ xs) zero h = refl
get_within (suc k) (x ∷ xs) (suc i) h = get_within k xs i (omega (arith, h))

module _ (name : ℕ) (key : Key) (m : Content) (c : LivesChannel) (taken given : List LifeMessage) (may : MayBeDispatched name key m c) (h : Delivers c taken given) where
  abbrev f : ReceivingLife → ReceivingLife
  f = one_dispatched name key

  abbrev given' : List LifeMessage
  given' = given ++ one name key m ∷ []

  abbrev d : ℕ
  d = may.life.dispatched key

  mapped : receiving_lives (changed_in_lives (dispatch name key m) c) ≡ map f (receiving_lives c)
  mapped = sym (map-append f c.received (c.receives ∷ []))

  same_name : (l : ReceivingLife) → (f l).name ≡ l.name
  same_name l = at (l.name == name)
    where
      at : (b : Bool) → (if b then record l { dispatched = one_more key l.dispatched } else l).name ≡ l.name
      at true = refl
      at false = refl

  names_in_order : AreNames (map receiving_name (may.before ++ may.life ∷ may.later))
  names_in_order = subst (λ ls. AreNames (map receiving_name ls)) may.lives h.ordered.receiving_names

  named : may.life.name ≢ 0
  named = λ e. may.kept (sym may.named ∙ e)

  -- the message is the next one that the life holds
  held : slice_get (held_in name key c) d ≡ Some (unnumbered m)
  held =
      let it = the_one name key c.posted (IsSameAt key m d c.posted) (sending_lives c) may.kept h.ordered.sending_names may.held in
      ap (λ l. slice_get l d) it.held
      ∙ get_within (it.life.end key - it.life.start key) (drop (it.life.start key) (of_key key c.posted)) d (subst (λ l. d < length l) it.held below)
      ∙ get_drop (it.life.start key) (of_key key c.posted) d ∙ it.so
    where
      less : (a b l : ℕ) → a < b → b ≤ l → a < l
      less a b l p q = omega (arith, p, q)

      fits : AllByRecursion (λ (l : ReceivingLife). (key : Key) → l.accepted key ≤ length (held_in l.name key c)) (may.before ++ may.life ∷ may.later)
      fits = subst (AllByRecursion (λ (l : ReceivingLife). (key : Key) → l.accepted key ≤ length (held_in l.name key c))) may.lives (accepted_fits c h.ordered (receiving_lives c) h.ordered.accepted)

      below : d < length (held_in name key c)
      below = less d (may.life.accepted key) (length (held_in name key c)) may.accepted
          (subst (λ n. may.life.accepted key ≤ length (held_in n key c)) may.named ((all_back _ may.before (may.life ∷ may.later) fits).0 key))

  -- in each life of the name as many are dispatched
  as_many : AllByRecursion (λ (l : ReceivingLife). l.name ≡ name → l.dispatched key ≡ d) (receiving_lives c)
  as_many = all_named receiving_name (λ (l : ReceivingLife). l.dispatched key ≡ d) name (receiving_lives c) may.kept h.ordered.receiving_names
      (subst (Has (λ (l : ReceivingLife). (l.name ≡ name) × (l.dispatched key ≡ d))) (sym may.lives) (has_back _ may.before (may.life ∷ may.later) (inl (may.named, refl))))

  -- one more of those of the name
  next_is : (other : Key) (b : Bool) → (b ≡ true → key ≡ other) → (l : ReceivingLife) → l.name ≡ name → (l.name ≡ name → l.dispatched key ≡ d) →
      take (l.dispatched other) (held_in l.name other c) ++ (if b then unnumbered m ∷ [] else []) ≡ take (if b then l.dispatched other + 1 else l.dispatched other) (held_in l.name other c)
  next_is other true e l n many =
      sym (take_one (l.dispatched other) (held_in l.name other c) (unnumbered m)
      (subst (λ k. slice_get (held_in l.name k c) (l.dispatched k) ≡ Some (unnumbered m)) (e refl)
      (subst (λ k. slice_get (held_in k key c) (l.dispatched key) ≡ Some (unnumbered m)) (sym n) (ap (slice_get (held_in name key c)) (many n) ∙ held))))
  next_is other false e l n many = append-nil (take (l.dispatched other) (held_in l.name other c))

  still_accepted : (lives : List ReceivingLife) → AllByRecursion (Took taken c accepted_of) lives → AllByRecursion (Took taken c accepted_of) (map f lives)
  still_accepted [] all = tt
  still_accepted (l ∷ lives) all = (at (l.name == name), still_accepted lives all.1)
    where
      at : (b : Bool) → Took taken c accepted_of (if b then record l { dispatched = one_more key l.dispatched } else l)
      at true = all.0
      at false = all.0

  still_empty : (lives : List ReceivingLife) → AllByRecursion IsEmptyIfNone lives → AllByRecursion IsEmptyIfNone (map f lives)
  still_empty [] all = tt
  still_empty (l ∷ lives) all = (at (l.name == name), still_empty lives all.1)
    where
      at : (b : Bool) → IsEmptyIfNone (if b then record l { dispatched = one_more key l.dispatched } else l)
      at true = all.0
      at false = all.0

  now_dispatched : (lives : List ReceivingLife) → AllByRecursion (Took given c dispatched_of) lives → AllByRecursion (λ (l : ReceivingLife). l.name ≡ name → l.dispatched key ≡ d) lives →
      AllByRecursion (Took given' c dispatched_of) (map f lives)
  now_dispatched [] all many = tt
  now_dispatched (l ∷ lives) all many = (at (l.name == name) refl, now_dispatched lives all.1 many.1)
    where
      apart : (l.name == name) ≡ false → name ≢ l.name
      apart e g = from_false_true (sym e ∙ eq-eqb l.name name (sym g))

      at : (b : Bool) → (l.name == name) ≡ b → Took given' c dispatched_of (if b then record l { dispatched = one_more key l.dispatched } else l)
      at true e kept other =
          let n = eqb-true l.name name e in
          told_more other l.name name key m given ∙ ap (λ k. told other l.name given ++ of_it k l.name key other m) (sym n)
          ∙ ap (λ x. told other l.name given ++ x) (of_its_own l.name key other m)
          ∙ ap (λ x. x ++ (if is_key key other then unnumbered m ∷ [] else [])) (all.0 kept other)
          ∙ next_is other (is_key key other) (λ q. same_key key other q) l n many.0
      at false e kept other =
          told_more other l.name name key m given ∙ ap (λ x. told other l.name given ++ x) (of_another name l.name key other m (apart e)) ∙ append-nil (told other l.name given) ∙ all.0 kept other

  -- what isn't of the name stays
  others_same : (other : Key) (lives : List ReceivingLife) → AllByRecursion (λ (l : ReceivingLife). may.life.name ≢ l.name) lives → pieces_of other c (map f lives) ≡ pieces_of other c lives
  others_same other [] apart = refl
  others_same other (l ∷ lives) apart =
      ap (λ b. (let k : ReceivingLife = if b then record l { dispatched = one_more key l.dispatched } else l in take (k.dispatched other) (held_in k.name other c)) ++ pieces_of other c (map f lives))
      (not_same l.name name (λ e. apart.0 (may.named ∙ sym e)))
      ∙ ap (λ x. take (l.dispatched other) (held_in l.name other c) ++ x) (others_same other lives apart.1)

  -- nothing of the key is of a later life
  later_none : (lives : List ReceivingLife) → AllByRecursion (λ (l : ReceivingLife). l.dispatched key ≡ 0) lives → pieces_of key c lives ≡ []
  later_none [] all = refl
  later_none (l ∷ lives) all = ap (λ n. take n (held_in l.name key c) ++ pieces_of key c lives) all.0 ∙ later_none lives all.1

  in_parts : (other : Key) (xs : List ReceivingLife) (y : ReceivingLife) (zs : List ReceivingLife) →
      pieces_of other c (xs ++ y ∷ zs) ≡ pieces_of other c xs ++ (take (y.dispatched other) (held_in y.name other c) ++ pieces_of other c zs)
  in_parts other xs y zs = flat_map-append (λ (l : ReceivingLife). take (l.dispatched other) (held_in l.name other c)) xs (y ∷ zs)

  now_pieces : (other : Key) → all_of_key other given' ≡ pieces_of other c (map f (receiving_lives c))
  now_pieces other =
      all_more other name key m given ∙ ap (λ x. x ++ (if is_key key other then unnumbered m ∷ [] else [])) (h.pieces other ∙ ap (pieces_of other c) may.lives ∙ in_parts other may.before may.life may.later)
      ∙ at (is_key key other) (λ q. same_key key other q)
      ∙ sym (ap (λ ls. pieces_of other c (map f ls)) may.lives ∙ ap (pieces_of other c) (map-append f may.before (may.life ∷ may.later)) ∙ in_parts other (map f may.before) (f may.life) (map f may.later)
      ∙ ap (λ x. x ++ (take ((f may.life).dispatched other) (held_in (f may.life).name other c) ++ pieces_of other c (map f may.later))) (others_same other may.before (apart_before may.before may.life may.later names_in_order named))
      ∙ ap (λ x. pieces_of other c may.before ++ (take ((f may.life).dispatched other) (held_in (f may.life).name other c) ++ x)) (others_same other may.later (apart_behind may.before may.life may.later names_in_order named))
      ∙ ap (λ b. pieces_of other c may.before ++ ((let k : ReceivingLife = if b then record may.life { dispatched = one_more key may.life.dispatched } else may.life in take (k.dispatched other) (held_in k.name other c)) ++ pieces_of other c may.later))
      (eq-eqb may.life.name name may.named))
    where
      t : List Content
      t = take (may.life.dispatched other) (held_in may.life.name other c)

      at : (b : Bool) → (b ≡ true → key ≡ other) → (pieces_of other c may.before ++ (t ++ pieces_of other c may.later)) ++ (if b then unnumbered m ∷ [] else [])
          ≡ pieces_of other c may.before ++ (take (if b then may.life.dispatched other + 1 else may.life.dispatched other) (held_in may.life.name other c) ++ pieces_of other c may.later)
      at true e =
          let none : pieces_of other c may.later ≡ [] = subst (λ k. pieces_of k c may.later ≡ []) (e refl) (later_none may.later may.first) in
          ap (λ x. (pieces_of other c may.before ++ (t ++ x)) ++ unnumbered m ∷ []) none ∙ ap (λ x. (pieces_of other c may.before ++ x) ++ unnumbered m ∷ []) (append-nil t)
          ∙ append_assoc (pieces_of other c may.before) t (unnumbered m ∷ []) ∙ ap (λ x. pieces_of other c may.before ++ x) (next_is other true e may.life may.named (λ q. refl))
          ∙ ap (λ x. pieces_of other c may.before ++ x) (sym (append-nil (take (may.life.dispatched other + 1) (held_in may.life.name other c))))
          ∙ ap (λ x. pieces_of other c may.before ++ (take (may.life.dispatched other + 1) (held_in may.life.name other c) ++ x)) (sym none)
      at false e = append-nil (pieces_of other c may.before ++ (t ++ pieces_of other c may.later))

  same_names : map receiving_name (map f (receiving_lives c)) ≡ map receiving_name (receiving_lives c)
  same_names = names_map receiving_name f same_name (receiving_lives c)

  untold : (n : ℕ) → (n ≡ 0) ⊎ AllByRecursion (λ k. k ≢ n) (map receiving_name (receiving_lives c)) → (other : Key) → told other n given' ≡ []
  untold n new other =
      told_more other n name key m given ∙ ap (λ x. told other n given ++ x) (of_another name n key other m (apart new)) ∙ append-nil (told other n given) ∙ h.given_none n new other
    where
      apart : (n ≡ 0) ⊎ AllByRecursion (λ k. k ≢ n) (map receiving_name (receiving_lives c)) → name ≢ n
      apart (inl z) = λ e. may.kept (e ∙ z)
      apart (inr all) = λ e. is_there may.before may.life may.later n (subst (λ ls. AllByRecursion (λ k. k ≢ n) (map receiving_name ls)) may.lives all) (may.named ∙ e)

  before_so : (n : ℕ) → (n ≡ 0) ⊎ AllByRecursion (λ k. k ≢ n) (map receiving_name (receiving_lives (changed_in_lives (dispatch name key m) c))) → (n ≡ 0) ⊎ AllByRecursion (λ k. k ≢ n) (map receiving_name (receiving_lives c))
  before_so n new = subst (λ ns. (n ≡ 0) ⊎ AllByRecursion (λ k. k ≢ n) ns) (ap (map receiving_name) mapped ∙ same_names) new

  pub dispatches_delivers : Delivers (changed_in_lives (dispatch name key m) c) taken given'
  dispatches_delivers = record {
    ordered = changes_so (dispatch name key m) c h.ordered may;
    empty = subst (AllByRecursion IsEmptyIfNone) (sym mapped) (still_empty (receiving_lives c) h.empty);
    accepted = subst (AllByRecursion (Took taken c accepted_of)) (sym mapped) (still_accepted (receiving_lives c) h.accepted);
    dispatched = subst (AllByRecursion (Took given' c dispatched_of)) (sym mapped) (now_dispatched (receiving_lives c) h.dispatched as_many);
    taken_none = λ n new. h.taken_none n (before_so n new);
    given_none = λ n new. untold n (before_so n new);
    pieces = λ other. now_pieces other ∙ ap (pieces_of other c) (sym mapped);
  }

-- ---- runs

marks_deliver : (c : LivesChannel) (taken given : List LifeMessage) → Delivers c taken given → Delivers (changed_in_lives mark c) taken given
marks_deliver c taken given h = record {
  ordered = changes_so mark c h.ordered tt;
  empty = h.empty;
  accepted = h.accepted;
  dispatched = h.dispatched;
  taken_none = h.taken_none;
  given_none = h.given_none;
  pieces = h.pieces;
}

delivers_on : (xs : List LivesStep) (c : LivesChannel) (taken given : List LifeMessage) → Delivers c taken given → IsRunOfLives xs c →
    Delivers (after_in_lives xs c) (taken ++ acceptances_from c.receives.name xs) (given ++ dispatches xs)
delivers_on [] c taken given h run = subst (λ l. Delivers c l (given ++ [])) (sym (append-nil taken)) (subst (Delivers c taken) (sym (append-nil given)) h)
delivers_on (post key m ∷ xs) c taken given h run =
    delivers_on xs (changed_in_lives (post key m) c) taken given (holds_more c (changed_in_lives (post key m) c) taken given (posts_more key m c h.ordered (changes_so (post key m) c h.ordered tt)) h) run.1
delivers_on (begins_sending name thrown ∷ xs) c taken given h run =
    let d = changed_in_lives (begins_sending name thrown) c in
    delivers_on xs d taken given (holds_more c d taken given (begins_more name thrown c (changes_so (begins_sending name thrown) c h.ordered run.0)) h) run.1
delivers_on (begins_receiving name ∷ xs) c taken given h run = delivers_on xs (changed_in_lives (begins_receiving name) c) taken given (begins_receiving_delivers name c taken given run.0 h) run.1
delivers_on (accept key m ∷ xs) c taken given h run =
    subst (λ l. Delivers (after_in_lives xs (changed_in_lives (accept key m) c)) l (given ++ dispatches xs)) (append_assoc taken (one c.receives.name key m ∷ []) (acceptances_from c.receives.name xs))
    (delivers_on xs (changed_in_lives (accept key m) c) (taken ++ one c.receives.name key m ∷ []) given (accepts_delivers key m c taken given run.0 h) run.1)
delivers_on (acknowledge key ∷ xs) c taken given h run =
    let d = changed_in_lives (acknowledge key) c in
    delivers_on xs d taken given (holds_more c d taken given (acknowledges_more key c (changes_so (acknowledge key) c h.ordered run.0)) h) run.1
delivers_on (dispatch name key m ∷ xs) c taken given h run =
    let d = changed_in_lives (dispatch name key m) c in
    subst (Delivers (after_in_lives xs d) (taken ++ acceptances_from c.receives.name xs)) (append_assoc given (one name key m ∷ []) (dispatches xs))
    (subst (λ n. Delivers (after_in_lives xs d) (taken ++ acceptances_from n xs) ((given ++ one name key m ∷ []) ++ dispatches xs)) (current (c.receives.name == name))
    (delivers_on xs d taken (given ++ one name key m ∷ []) (dispatches_delivers name key m c taken given run.0 h) run.1))
  where
    current : (b : Bool) → (if b then record c.receives { dispatched = one_more key c.receives.dispatched } else c.receives).name ≡ c.receives.name
    current true = refl
    current false = refl
delivers_on (mark ∷ xs) c taken given h run = delivers_on xs (changed_in_lives mark c) taken given (marks_deliver c taken given h) run.1
delivers_on (reset ∷ xs) c taken given h run = delivers_on xs c taken given h run.1

pub new_delivers : Delivers new_lives [] []
new_delivers = record {
  ordered = new_so;
  empty = (λ e key. refl, tt);
  accepted = (λ kept key. refl, tt);
  dispatched = (λ kept key. refl, tt);
  taken_none = λ n new key. refl;
  given_none = λ n new key. refl;
  pieces = λ key. refl;
}

-- ---- the law

-- a life has the name, or none has
look : (name : ℕ) (lives : List ReceivingLife) → Has (λ (l : ReceivingLife). l.name ≡ name) lives ⊎ AllByRecursion (λ n. n ≢ name) (map receiving_name lives)
look name [] = inr tt
look name (l ∷ lives) = at (l.name == name) refl (look name lives)
  where
    at : (b : Bool) → (l.name == name) ≡ b → Has (λ (k : ReceivingLife). k.name ≡ name) lives ⊎ AllByRecursion (λ n. n ≢ name) (map receiving_name lives) →
        Has (λ (k : ReceivingLife). k.name ≡ name) (l ∷ lives) ⊎ AllByRecursion (λ n. n ≢ name) (map receiving_name (l ∷ lives))
    at true e more = inl (inl (eqb-true l.name name e))
    at false e (inl has) = inl (inr has)
    at false e (inr all) = inr (λ g. from_false_true (sym e ∙ eq-eqb l.name name g), all)

module _ (c : LivesChannel) (taken given : List LifeMessage) (h : Delivers c taken given) where
  none_first : (xs ys : List Content) → xs ≡ [] → AreFirstOf xs ys
  none_first xs ys e = (ys, ap (λ l. l ++ ys) (sym e))

  pub first_accepted : (name : ℕ) (key : Key) → AreFirstOf (told key name taken) (held_in name key c)
  first_accepted name key = at (look name (receiving_lives c))
    where
      some : (n : ℕ) → (n ≡ 0) ⊎ (n ≢ 0)
      some zero = inl refl
      some (suc n) = inr (λ e. apart n e)
        where
          apart : (k : ℕ) → suc k ≡ 0 → ⊥
          apart k e = cc

      found : (lives : List ReceivingLife) → name ≢ 0 → AllByRecursion (Took taken c accepted_of) lives → Has (λ (l : ReceivingLife). l.name ≡ name) lives → AreFirstOf (told key name taken) (held_in name key c)
      found [] kept all has = absurd has
      found (l ∷ lives) kept all (inl e) =
          let is : told key name taken ≡ take (l.accepted key) (held_in name key c) = subst (λ n. told key n taken ≡ take (l.accepted key) (held_in n key c)) e (all.0 (λ z. kept (sym e ∙ z)) key) in
          let it = take_first (l.accepted key) (held_in name key c) in
          (it.0, it.1 ∙ ap (λ x. x ++ it.0) (sym is))
      found (l ∷ lives) kept all (inr has) = found lives kept all.1 has

      at : Has (λ (l : ReceivingLife). l.name ≡ name) (receiving_lives c) ⊎ AllByRecursion (λ n. n ≢ name) (map receiving_name (receiving_lives c)) → AreFirstOf (told key name taken) (held_in name key c)
      at (inr new) = none_first (told key name taken) (held_in name key c) (h.taken_none name (inr new) key)
      at (inl has) = by (some name)
        where
          by : (name ≡ 0) ⊎ (name ≢ 0) → AreFirstOf (told key name taken) (held_in name key c)
          by (inl z) = none_first (told key name taken) (held_in name key c) (h.taken_none name (inl z) key)
          by (inr kept) = found (receiving_lives c) kept h.accepted has

  pub first_dispatched : (name : ℕ) (key : Key) → AreFirstOf (told key name given) (told key name taken)
  first_dispatched name key = at (look name (receiving_lives c))
    where
      some : (n : ℕ) → (n ≡ 0) ⊎ (n ≢ 0)
      some zero = inl refl
      some (suc n) = inr (λ e. apart n e)
        where
          apart : (k : ℕ) → suc k ≡ 0 → ⊥
          apart k e = cc

      found : (lives : List ReceivingLife) → name ≢ 0 → AllByRecursion (Took taken c accepted_of) lives → AllByRecursion (Took given c dispatched_of) lives →
          AllByRecursion (λ (l : ReceivingLife). (key : Key) → l.dispatched key ≤ l.accepted key) lives → Has (λ (l : ReceivingLife). l.name ≡ name) lives → AreFirstOf (told key name given) (told key name taken)
      found [] kept all gave few has = absurd has
      found (l ∷ lives) kept all gave few (inl e) =
          let took : told key name taken ≡ take (l.accepted key) (held_in name key c) = subst (λ n. told key n taken ≡ take (l.accepted key) (held_in n key c)) e (all.0 (λ z. kept (sym e ∙ z)) key) in
          let was : told key name given ≡ take (l.dispatched key) (held_in name key c) = subst (λ n. told key n given ≡ take (l.dispatched key) (held_in n key c)) e (gave.0 (λ z. kept (sym e ∙ z)) key) in
          let it = take_fewer (l.dispatched key) (l.accepted key) (held_in name key c) (few.0 key) in
          (it.0, took ∙ it.1 ∙ ap (λ x. x ++ it.0) (sym was))
      found (l ∷ lives) kept all gave few (inr has) = found lives kept all.1 gave.1 few.1 has

      at : Has (λ (l : ReceivingLife). l.name ≡ name) (receiving_lives c) ⊎ AllByRecursion (λ n. n ≢ name) (map receiving_name (receiving_lives c)) → AreFirstOf (told key name given) (told key name taken)
      at (inr new) = none_first (told key name given) (told key name taken) (h.given_none name (inr new) key)
      at (inl has) = by (some name)
        where
          by : (name ≡ 0) ⊎ (name ≢ 0) → AreFirstOf (told key name given) (told key name taken)
          by (inl z) = none_first (told key name given) (told key name taken) (h.given_none name (inl z) key)
          by (inr kept) = found (receiving_lives c) kept h.accepted h.dispatched h.ordered.dispatched has

  pub in_pieces : (key : Key) → ArePiecesOf (all_of_key key given) (map (λ (l : ReceivingLife). held_in l.name key c) (receiving_lives c))
  in_pieces key = subst (λ xs. ArePiecesOf xs (map (λ (l : ReceivingLife). held_in l.name key c) (receiving_lives c))) (sym (h.pieces key)) (each (receiving_lives c))
    where
      each : (lives : List ReceivingLife) → ArePiecesOf (pieces_of key c lives) (map (λ (l : ReceivingLife). held_in l.name key c) lives)
      each [] = refl
      each (l ∷ lives) =
          let it = take_first (l.dispatched key) (held_in l.name key c) in
          (take (l.dispatched key) (held_in l.name key c), pieces_of key c lives, it.0, refl, it.1, each lives)

-- ---- marks and resets

one_mark : (x : LivesStep) (c : LivesChannel) → c.marked ≡ false → ((changed_in_lives x c).marked ≡ false) ⊎ (x ≡ mark)
one_mark (post key m) c e = inl e
one_mark (begins_sending name thrown) c e = inl e
one_mark (begins_receiving name) c e = inl e
one_mark (accept key m) c e = inl e
one_mark (acknowledge key) c e = inl e
one_mark (dispatch name key m) c e = inl e
one_mark mark c e = inr refl
one_mark reset c e = inl e

is_marked : (xs : List LivesStep) (c : LivesChannel) → c.marked ≡ false → (after_in_lives xs c).marked ≡ true → Has (λ x. x ≡ mark) xs
is_marked [] c e m = from_false_true (sym e ∙ m)
is_marked (x ∷ xs) c e m = at (one_mark x c e) (λ still. is_marked xs (changed_in_lives x c) still m)
  where
    at : ((changed_in_lives x c).marked ≡ false) ⊎ (x ≡ mark) → ((changed_in_lives x c).marked ≡ false → Has (λ y. y ≡ mark) xs) → Has (λ y. y ≡ mark) (x ∷ xs)
    at (inl still) later = inr (later still)
    at (inr is) later = inl is

run_behind : (xs ys : List LivesStep) (c : LivesChannel) → IsRunOfLives (xs ++ ys) c → IsRunOfLives ys (after_in_lives xs c)
run_behind [] ys c run = run
run_behind (x ∷ xs) ys c run = run_behind xs ys (changed_in_lives x c) run.1

pub deliver_in_lives : RunsDeliverInLives
deliver_in_lives xs run =
    let h = delivers_on xs new_lives [] [] new_delivers run in
    let c = after_in_lives xs new_lives in
    record {
      accepted = first_accepted c (acceptances xs) (dispatches xs) h;
      dispatched = first_dispatched c (acceptances xs) (dispatches xs) h;
      life_after_life = in_pieces c (acceptances xs) (dispatches xs) h;
      no_reset = λ before after e. is_marked before new_lives refl (run_behind before (reset ∷ after) new_lives (subst (λ l. IsRunOfLives l new_lives) e run)).0;
    }
