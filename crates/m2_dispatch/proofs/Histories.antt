-- What every history keeps, call by call.
use Rattle.std.proofs.Common.{◌≡◌, ℕ, ◌≤◌, Bool, true, false, not, List, [], ◌∷◌, ◌++◌, take, drop, eqb, refl, sym, ap, ◌∙◌, arith, append_assoc, inl, inr}
use Rattle.std.specs.List.{AllByRecursion, filter}
use Rattle.std.proofs.lemmas.List.{append-nil, take-append-drop}
use Rattle.std.proofs.lemmas.List.Elements.{filter-append}
use Rattle.std.proofs.lemmas.Bool.{and_right}
use Rattle.std.proofs.lemmas.Bool.Decides.{nat_tests}
use Rattle.m2_policy.specs.declared.path.Key.{Key}
use Rattle.m2_queues.specs.ByRank.{put_behind, of_rank}
use Rattle.m2_queues.proofs.ByRank.{Falls}
use Rattle.m2_queues.proofs.Joining.{falls-put_behind, rank-put_behind}
use Rattle.m2_dispatch.specs.declared.letter.Letter as letter
use Rattle.m2_dispatch.specs.declared.parcel.Parcel.TheVariants.{Discard, RemoteReset}
use Rattle.m2_dispatch.specs.declared.parcel.Parcel.TheVariants as parcel
use Rattle.m2_dispatch.specs.Letters.{is_of_key, is_of_peer, letter_priority, letters_of_key, others}
use Rattle.m2_dispatch.specs.Laws.{IsSublist, Call, Put, Turn, History, start, after_call, after_calls, history_of}

-- a list in the order of the priorities keeps it without some letters
but : (keeps : letter.Letter → Bool) (P : letter.Letter → Type 0) (ls : List letter.Letter) → AllByRecursion P ls → AllByRecursion P (filter keeps ls)
but keeps P [] all = tt
but keeps P (l ∷ ls) all = go (keeps l) refl (but keeps P ls all.1)
  where
    go : (b : Bool) → keeps l ≡ b → AllByRecursion P (filter keeps ls) → AllByRecursion P (filter keeps (l ∷ ls))
    go true e more = rw e (all.0, more)
    go false e more = rw e more

falls-filter : (keeps : letter.Letter → Bool) (ls : List letter.Letter) → Falls letter_priority ls → Falls letter_priority (filter keeps ls)
falls-filter keeps [] h = tt
falls-filter keeps (l ∷ ls) h = go (keeps l) refl (falls-filter keeps ls h.1)
  where
    go : (b : Bool) → keeps l ≡ b → Falls letter_priority (filter keeps ls) → Falls letter_priority (filter keeps (l ∷ ls))
    go true e more = rw e (but keeps (λ m. letter_priority m ≤ letter_priority l) ls h.0, more)
    go false e more = rw e more

falls-rest : (ls : List letter.Letter) → Falls letter_priority ls → Falls letter_priority (drop 1 ls)
falls-rest [] h = tt
falls-rest (l ∷ ls) h = h.1

-- the letters of a key are among those of its priority
within : (peer : ℕ) (key : Key) (ls : List letter.Letter) → letters_of_key peer key ls ≡ letters_of_key peer key (of_rank letter_priority key.priority ls)
within peer key [] = refl
within peer key (l ∷ ls) = go (eqb l.key.priority key.priority) (is_of_key peer key l) refl refl (within peer key ls)
  where
    go : (b c : Bool) → eqb l.key.priority key.priority ≡ b → is_of_key peer key l ≡ c
        → letters_of_key peer key ls ≡ letters_of_key peer key (of_rank letter_priority key.priority ls)
        → letters_of_key peer key (l ∷ ls) ≡ letters_of_key peer key (of_rank letter_priority key.priority (l ∷ ls))
    go true true e f more = rw (f, e, f) (ap (λ xs. l ∷ xs) more)
    go true false e f more = rw (f, e, f) more
    go false c e f more = let other : is_of_key peer key l ≡ false = rw e (and_right (is_of_peer peer l) false refl) in rw (other, e) more

-- a letter that comes in is the last of its key
key-put : (peer : ℕ) (key : Key) (l : letter.Letter) (ls : List letter.Letter) → Falls letter_priority ls
    → letters_of_key peer key (put_behind letter_priority l ls) ≡ letters_of_key peer key ls ++ letters_of_key peer key (l ∷ [])
key-put peer key l ls h =
    within peer key (put_behind letter_priority l ls)
    ∙ ap (letters_of_key peer key) (rank-put_behind letter_priority key.priority ls l h)
    ∙ filter-append (is_of_key peer key) (of_rank letter_priority key.priority ls) (of_rank letter_priority key.priority (l ∷ []))
    ∙ ap (λ xs. xs ++ letters_of_key peer key (of_rank letter_priority key.priority (l ∷ []))) (sym (within peer key ls))
    ∙ ap (λ xs. letters_of_key peer key ls ++ xs) (sym (within peer key (l ∷ [])))

-- a discard leaves none of its peer's letters
key-gone : (peer p : ℕ) (key : Key) (ls : List letter.Letter) → eqb p peer ≡ true → letters_of_key peer key (others p ls) ≡ []
key-gone peer p key [] at = refl
key-gone peer p key (l ∷ ls) at = go (eqb l.peer p) refl (key-gone peer p key ls at)
  where
    go : (b : Bool) → eqb l.peer p ≡ b → letters_of_key peer key (others p ls) ≡ [] → letters_of_key peer key (others p (l ∷ ls)) ≡ []
    go true e more = rw e more
    go false e more = let other : eqb l.peer peer ≡ false = grind (arith, nat_tests) in rw (e, other) more

-- and all of another one's
key-left : (peer p : ℕ) (key : Key) (ls : List letter.Letter) → eqb p peer ≡ false → letters_of_key peer key (others p ls) ≡ letters_of_key peer key ls
key-left peer p key [] at = refl
key-left peer p key (l ∷ ls) at = go (eqb l.peer p) (is_of_key peer key l) refl refl (key-left peer p key ls at)
  where
    go : (b c : Bool) → eqb l.peer p ≡ b → is_of_key peer key l ≡ c → letters_of_key peer key (others p ls) ≡ letters_of_key peer key ls
        → letters_of_key peer key (others p (l ∷ ls)) ≡ letters_of_key peer key (l ∷ ls)
    go true c e f more = let other : eqb l.peer peer ≡ false = grind (arith, nat_tests) in rw (e, other) more
    go false true e f more = rw (e, f) (ap (λ xs. l ∷ xs) more)
    go false false e f more = rw (e, f) more

-- what is some of a list is still some of it where both get the same item
some-more : (xs ys : List letter.Letter) (l : letter.Letter) → IsSublist xs ys → IsSublist (xs ++ l ∷ []) (ys ++ l ∷ [])
some-more [] [] l h = inl (refl, tt)
some-more [] (y ∷ ys) l h = inr (some-more [] ys l tt)
some-more (x ∷ xs) [] l h = absurd h
some-more (x ∷ xs) (y ∷ ys) l h = elim h [ inl k ↦ inl (k.0, some-more xs ys l k.1) | inr k ↦ inr (some-more (x ∷ xs) ys l k) ]

-- and its first part is
pub some-first : (xs more ys : List letter.Letter) → IsSublist (xs ++ more) ys → IsSublist xs ys
some-first [] more ys h = tt
some-first (x ∷ xs) more [] h = absurd h
some-first (x ∷ xs) more (y ∷ ys) h = elim h [ inl k ↦ inl (k.0, some-first xs more ys k.1) | inr k ↦ inr (some-first (x ∷ xs) more ys k) ]

-- a letter that was put last, of the key or not
some-put : (peer : ℕ) (key : Key) (xs put : List letter.Letter) (l : letter.Letter) → IsSublist xs (letters_of_key peer key put)
    → IsSublist (xs ++ letters_of_key peer key (l ∷ [])) (letters_of_key peer key (put ++ l ∷ []))
some-put peer key xs put l h = rw (filter-append (is_of_key peer key) put (l ∷ [])) (go (is_of_key peer key l) refl)
  where
    go : (b : Bool) → is_of_key peer key l ≡ b → IsSublist (xs ++ letters_of_key peer key (l ∷ [])) (letters_of_key peer key put ++ letters_of_key peer key (l ∷ []))
    go true e = rw e (some-more xs (letters_of_key peer key put) l h)
    go false e = rw (e, append-nil, append-nil) h

-- what holds after every list of calls
pub record Holds (peer : ℕ) (h : History) : Type 0 where
  pub falls : Falls letter_priority h.waiting
  pub each : (key : Key) → letters_of_key peer key h.dispatched ++ letters_of_key peer key h.waiting ≡ letters_of_key peer key h.put
  pub some : (key : Key) → IsSublist (letters_of_key peer key h.ever_dispatched ++ letters_of_key peer key h.waiting) (letters_of_key peer key h.ever_put)

after_a_letter : (peer : ℕ) (h : History) (l : letter.Letter) → Holds peer h → Holds peer (after_call peer h (Put (parcel.Letter l)))
after_a_letter peer h l k = record {
  falls = falls-put_behind letter_priority h.waiting l k.falls;
  each = λ key. joins key h.dispatched ∙ ap (λ xs. xs ++ letters_of_key peer key (l ∷ [])) (k.each key) ∙ sym (filter-append (is_of_key peer key) h.put (l ∷ []));
  some = λ key. rw (joins key h.ever_dispatched) (some-put peer key (letters_of_key peer key h.ever_dispatched ++ letters_of_key peer key h.waiting) h.ever_put l (k.some key));
}
  where
    joins : (key : Key) (before : List letter.Letter) → letters_of_key peer key before ++ letters_of_key peer key (put_behind letter_priority l h.waiting)
        ≡ (letters_of_key peer key before ++ letters_of_key peer key h.waiting) ++ letters_of_key peer key (l ∷ [])
    joins key before =
        ap (λ xs. letters_of_key peer key before ++ xs) (key-put peer key l h.waiting k.falls)
        ∙ sym (append_assoc (letters_of_key peer key before) (letters_of_key peer key h.waiting) (letters_of_key peer key (l ∷ [])))

after_a_discard : (peer : ℕ) (h : History) (p : ℕ) → Holds peer h → Holds peer (after_call peer h (Put (Discard p)))
after_a_discard peer h p k = go (eqb p peer) refl
  where
    falls : Falls letter_priority (others p h.waiting)
    falls = falls-filter (λ l. not (is_of_peer p l)) h.waiting k.falls

    go : (b : Bool) → eqb p peer ≡ b → Holds peer (after_call peer h (Put (Discard p)))
    go true e = rw e (record {
      falls = falls;
      each = λ key. key-gone peer p key h.waiting e;
      some = λ key. rw (append-nil h.ever_put, key-gone peer p key h.waiting e, append-nil (letters_of_key peer key h.ever_dispatched)) (
          some-first (letters_of_key peer key h.ever_dispatched) (letters_of_key peer key h.waiting) (letters_of_key peer key h.ever_put) (k.some key));
    })
    go false e = rw e (record {
      falls = falls;
      each = λ key. rw (append-nil h.put) (ap (λ xs. letters_of_key peer key h.dispatched ++ xs) (key-left peer p key h.waiting e) ∙ k.each key);
      some = λ key. rw (append-nil h.ever_put, key-left peer p key h.waiting e) (k.some key);
    })

after_a_reset : (peer : ℕ) (h : History) (p : ℕ) → Holds peer h → Holds peer (after_call peer h (Put (RemoteReset p)))
after_a_reset peer h p k = record { falls = k.falls; each = λ key. rw (append-nil h.put) (k.each key); some = λ key. rw (append-nil h.ever_put) (k.some key) }

after_a_turn : (peer : ℕ) (h : History) → Holds peer h → Holds peer (after_call peer h Turn)
after_a_turn peer h k = record {
  falls = falls-rest h.waiting k.falls;
  each = λ key. moves key h.dispatched ∙ k.each key;
  some = λ key. rw (moves key h.ever_dispatched) (k.some key);
}
  where
    moves : (key : Key) (before : List letter.Letter) → letters_of_key peer key (before ++ take 1 h.waiting) ++ letters_of_key peer key (drop 1 h.waiting)
        ≡ letters_of_key peer key before ++ letters_of_key peer key h.waiting
    moves key before =
        ap (λ xs. xs ++ letters_of_key peer key (drop 1 h.waiting)) (filter-append (is_of_key peer key) before (take 1 h.waiting))
        ∙ append_assoc (letters_of_key peer key before) (letters_of_key peer key (take 1 h.waiting)) (letters_of_key peer key (drop 1 h.waiting))
        ∙ ap (λ xs. letters_of_key peer key before ++ xs)
        (sym (filter-append (is_of_key peer key) (take 1 h.waiting) (drop 1 h.waiting)) ∙ ap (letters_of_key peer key) (take-append-drop 1 h.waiting))

holds_after : (peer : ℕ) (h : History) (c : Call) → Holds peer h → Holds peer (after_call peer h c)
holds_after peer h (Put (parcel.Letter l)) k = after_a_letter peer h l k
holds_after peer h (Put (Discard p)) k = after_a_discard peer h p k
holds_after peer h (Put (RemoteReset p)) k = after_a_reset peer h p k
holds_after peer h Turn k = after_a_turn peer h k

all_after : (peer : ℕ) (h : History) (calls : List Call) → Holds peer h → Holds peer (after_calls peer h calls)
all_after peer h [] k = k
all_after peer h (c ∷ cs) k = all_after peer (after_call peer h c) cs (holds_after peer h c k)

pub holds : (peer : ℕ) (calls : List Call) → Holds peer (history_of peer calls)
holds peer calls = all_after peer start calls (record { falls = tt; each = λ key. refl; some = λ key. tt })
