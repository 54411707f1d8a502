-- Entries that lie as short ones, beside the asks that they judge.
use Rattle.std.proofs.Common.{◌≡◌, ◌<◌, ℕ, zero, suc, List, [], ◌∷◌, ◌++◌, length, drop, take, get_or, slice_get, Option, Some, None, IsSome, refl, sym, subst, ap, ◌∙◌, arith}
use Rattle.std.specs.Option.{option_map}
use Rattle.std.specs.List.{AllByRecursion, cons_option, filter_map}
use Rattle.std.proofs.lemmas.List.Elements.{filter_map-append}
use Rattle.std.proofs.lemmas.Option.{slice_get-get_or}
use Rattle.m2_journal.specs.declared.entry.Entry.{Entry}
use Rattle.m2_journal.specs.declared.entries.JudgedAsk.{JudgedAsk}
use Rattle.m2_journal.specs.declared.entries.ShortEntry.{ShortEntry}
use Rattle.m2_journal.specs.declared.entries.ShortEntry.TheVariants as short
use Rattle.m2_journal.specs.EntriesFields.{entry_of, entries_of, judged_entry, StandForEntries}

-- ---- of a list whose items all have an image

module _ {X Y : Type 0} (f : X → Option Y) where
  abbrev AllHave : List X → Type 0
  AllHave xs = AllByRecursion (λ x. IsSome (f x)) xs

  pub length-images : (xs : List X) → AllHave xs → length (filter_map f xs) ≡ length xs
  length-images [] all = refl
  length-images (x ∷ xs) all = go (f x) all.0 (length-images xs all.1)
    where
      go : (o : Option Y) → IsSome o → length (filter_map f xs) ≡ length xs → length (cons_option o (filter_map f xs)) ≡ length (x ∷ xs)
      go None have rest = absurd (cc have)
      go (Some y) have rest = omega (arith, rest)

  pub drop-images : (n : ℕ) (xs : List X) → AllHave xs → drop n (filter_map f xs) ≡ filter_map f (drop n xs)
  drop-images zero xs all = refl
  drop-images (suc n) [] all = refl
  drop-images (suc n) (x ∷ xs) all = go (f x) all.0 (drop-images n xs all.1)
    where
      go : (o : Option Y) → IsSome o → drop n (filter_map f xs) ≡ filter_map f (drop n xs) → drop (suc n) (cons_option o (filter_map f xs)) ≡ filter_map f (drop n xs)
      go None have rest = absurd (cc have)
      go (Some y) have rest = rest

  pub take-images : (n : ℕ) (xs : List X) → AllHave xs → take n (filter_map f xs) ≡ filter_map f (take n xs)
  take-images zero xs all = refl
  take-images (suc n) [] all = refl
  take-images (suc n) (x ∷ xs) all = go (f x) all.0 (take-images n xs all.1)
    where
      go : (o : Option Y) → IsSome o → take n (filter_map f xs) ≡ filter_map f (take n xs) → take (suc n) (cons_option o (filter_map f xs)) ≡ cons_option o (filter_map f (take n xs))
      go None have rest = absurd (cc have)
      go (Some y) have rest = ap (λ ys. y ∷ ys) rest

  -- the image at a place is that of the item there
  pub get-images : (xs : List X) (i : ℕ) (x : X) → AllHave xs → slice_get xs i ≡ Some x → f x ≡ slice_get (filter_map f xs) i
  get-images [] i x all e = absurd (cc e)
  get-images (y ∷ xs) zero x all e = go (f y) refl all.0
    where
      go : (o : Option Y) → f y ≡ o → IsSome o → f x ≡ slice_get (cons_option o (filter_map f xs)) 0
      go None is have = absurd (cc have)
      go (Some z) is have = let same : x ≡ y = cc e in ap f same ∙ is
  get-images (y ∷ xs) (suc i) x all e = go (f y) all.0 (get-images xs i x all.1 e)
    where
      go : (o : Option Y) → IsSome o → f x ≡ slice_get (filter_map f xs) i → f x ≡ slice_get (cons_option o (filter_map f xs)) (suc i)
      go None have rest = absurd (cc have)
      go (Some z) have rest = rest

-- ---- of short entries

kept_front : {X : Type 0} (xs more : List X) (i : ℕ) → IsSome (slice_get xs i) → slice_get (xs ++ more) i ≡ slice_get xs i
kept_front [] more i have = absurd (cc have)
kept_front (x ∷ xs) more zero have = refl
kept_front (x ∷ xs) more (suc i) have = kept_front xs more i have

-- an entry that stands for one stands for the same beside more asks
pub stands_still : (asks more : List JudgedAsk) (s : ShortEntry) → IsSome (entry_of asks s) → entry_of (asks ++ more) s ≡ entry_of asks s
stands_still asks more (short.Post place) have = refl
stands_still asks more short.Dial have = refl
stands_still asks more (short.Opened socket) have = refl
stands_still asks more (short.Read socket count) have = refl
stands_still asks more (short.Wrote socket count) have = refl
stands_still asks more (short.Closed socket) have = refl
stands_still asks more (short.Judged place) have = ap (option_map judged_entry) (kept_front asks more place (go (slice_get asks place) have))
  where
    go : (o : Option JudgedAsk) → IsSome (option_map judged_entry o) → IsSome o
    go None h = absurd (cc h)
    go (Some judged) h = refl
stands_still asks more (short.Asked ident number) have = refl
stands_still asks more (short.Numbered number) have = refl
stands_still asks more (short.Accepted number key) have = refl
stands_still asks more (short.Acked number) have = refl
stands_still asks more (short.Obeyed full) have = refl
stands_still asks more (short.Down planned) have = refl

-- all of them
pub all_stand_still : (asks more : List JudgedAsk) (shorts : List ShortEntry) → StandForEntries asks shorts → (entries_of (asks ++ more) shorts ≡ entries_of asks shorts) × StandForEntries (asks ++ more) shorts
all_stand_still asks more [] stand = (refl, tt)
all_stand_still asks more (s ∷ shorts) stand =
    let same = stands_still asks more s stand.0 in
    let rest = all_stand_still asks more shorts stand.1 in (
      ap (λ o. cons_option o (entries_of (asks ++ more) shorts)) same ∙ ap (cons_option (entry_of asks s)) rest.0,
      (subst IsSome (sym same) stand.0, rest.1),
    )

-- the entry at a place, as it is read
pub entry_at : (asks them : List JudgedAsk) (shorts here : List ShortEntry) (i : ℕ) (d : ShortEntry) → them ≡ asks → here ≡ shorts → StandForEntries asks shorts → i < length here
    → entry_of them (get_or here i d) ≡ slice_get (entries_of asks shorts) i
entry_at asks them shorts here i d own all stand within =
    ap (λ (a : List JudgedAsk). entry_of a (get_or here i d)) own ∙ ap (λ (h : List ShortEntry). entry_of asks (get_or h i d)) all
    ∙ get-images (entry_of asks) shorts i (get_or shorts i d) stand (slice_get-get_or shorts i d (subst (λ (h : List ShortEntry). i < length h) all within))

-- those of two lists
pub stand_append : (asks : List JudgedAsk) (xs ys : List ShortEntry) → StandForEntries asks xs → StandForEntries asks ys → StandForEntries asks (xs ++ ys)
stand_append asks [] ys first then = then
stand_append asks (x ∷ xs) ys first then = (first.0, stand_append asks xs ys first.1 then)

pub stand_behind : (asks : List JudgedAsk) (n : ℕ) (xs : List ShortEntry) → StandForEntries asks xs → StandForEntries asks (drop n xs)
stand_behind asks zero xs stand = stand
stand_behind asks (suc n) [] stand = tt
stand_behind asks (suc n) (x ∷ xs) stand = stand_behind asks n xs stand.1

pub stand_before : (asks : List JudgedAsk) (n : ℕ) (xs : List ShortEntry) → StandForEntries asks xs → StandForEntries asks (take n xs)
stand_before asks zero xs stand = tt
stand_before asks (suc n) [] stand = tt
stand_before asks (suc n) (x ∷ xs) stand = (stand.0, stand_before asks n xs stand.1)

-- an entry more, whose ask goes last where it has one
pub one_entry_more : (asks : List JudgedAsk) (shorts : List ShortEntry) (more : List JudgedAsk) (s : ShortEntry) (e : Entry) → StandForEntries asks shorts → entry_of (asks ++ more) s ≡ Some e
    → (entries_of (asks ++ more) (shorts ++ s ∷ []) ≡ entries_of asks shorts ++ e ∷ []) × StandForEntries (asks ++ more) (shorts ++ s ∷ [])
one_entry_more asks shorts more s e stand is =
    let still = all_stand_still asks more shorts stand in
    let last : entries_of (asks ++ more) (s ∷ []) ≡ e ∷ [] = ap (λ o. cons_option o []) is in (
      filter_map-append (entry_of (asks ++ more)) shorts (s ∷ []) ∙ ap (λ es. es ++ entries_of (asks ++ more) (s ∷ [])) still.0 ∙ ap (λ es. entries_of asks shorts ++ es) last,
      stand_append (asks ++ more) shorts (s ∷ []) still.1 (subst IsSome (sym is) refl, tt),
    )
