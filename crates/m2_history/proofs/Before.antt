-- Of a lossless link: the entries before the first that marks a side down are a history, so the order fits up to that mark.
use Rattle.std.proofs.Common.{◌≡◌, Bool, true, false, if◌then◌else◌, List, [], ◌∷◌, ◌++◌, refl, sym, ap, subst, ◌∙◌, append_assoc}
use Rattle.std.specs.List.{AllByRecursion}
use Rattle.std.proofs.lemmas.List.Concat.{flat_map-append}
use Rattle.m2_channel.specs.Observed.{before_down, marks_down}
use Rattle.m2_channel.specs.ObservedLaws.{IsLawfulOrder}
use Rattle.m2_channel.proofs.Orders.{lawful_first}
use Rattle.m2_fabric.specs.declared.socket.SocketId.{SocketId}
use Rattle.m2_fabric.specs.Sockets.{goes_to}
use Rattle.m2_bytes_fit.specs.Orders.{BytesGiveFits, IsByteHistory, LosslessBytesAreNeverReset, OrderEntry, entries_of, entry_in, far_entry, far_half, near_entry, near_half}
use Rattle.m2_bytes_fit.specs.Texts.{CanBePosted}
use Rattle.m2_journal.specs.Items as item
use Rattle.m2_journal.specs.Items.{JournalItem}
use Rattle.m2_journal.specs.Replay.{AreLawful}
use Rattle.m2_journal.specs.SideFacts.{SideFacts}
use Rattle.m2_journal.specs.State.{start}
use Rattle.m2_channel.specs.Lossy.{IsByteOrder}
use Rattle.m2_channel.specs.m2_never_reset.PairLaws.{IsNoDown}
use Rattle.m2_channel.specs.m2_never_reset.Orders.{AreNodes, IsHistory, IsNeverReset, SideItem, far_item, far_items, near_item, near_items}
use Rattle.m2_bytes.proofs.m2_lemmas.Booleans.{from_false_true}
use Rattle.m2_channel.proofs.m2_never_reset.Sided.{far_append, near_append}
use Rattle.m2_bytes.proofs.m2_lemmas.Lists.{all_front}

-- ---- up to a mark

abbrev marks : OrderEntry → Bool
marks (near_entry i) = marks_down i
marks (far_entry i) = marks_down i
marks (near_half k m) = false
marks (far_half k m) = false

-- the entries before the first that marks a side down, and all from it on
abbrev unmarked : List OrderEntry → List OrderEntry
unmarked [] = []
unmarked (e ∷ es) = if marks e then [] else e ∷ unmarked es

behind : (es : List OrderEntry) → (rest : List OrderEntry) × (es ≡ unmarked es ++ rest)
behind [] = ([], refl)
behind (e ∷ es) = by (marks e) (behind es)
  where
    by : (b : Bool) → (rest : List OrderEntry) × (es ≡ unmarked es ++ rest) → (rest : List OrderEntry) × (e ∷ es ≡ (if b then [] else e ∷ unmarked es) ++ rest)
    by true it = (e ∷ es, refl)
    by false it = (it.0, ap (λ l. e ∷ l) it.1)

entries_same : (es : List OrderEntry) → entries_of (unmarked es) ≡ before_down (entries_of es)
entries_same [] = refl
entries_same (near_entry i ∷ es) = by (marks_down i) (entries_same es)
  where
    by : (b : Bool) → entries_of (unmarked es) ≡ before_down (entries_of es) → entries_of (if b then [] else near_entry i ∷ unmarked es) ≡ (if b then [] else near_item i ∷ before_down (entries_of es))
    by true same = refl
    by false same = ap (λ l. near_item i ∷ l) same
entries_same (far_entry i ∷ es) = by (marks_down i) (entries_same es)
  where
    by : (b : Bool) → entries_of (unmarked es) ≡ before_down (entries_of es) → entries_of (if b then [] else far_entry i ∷ unmarked es) ≡ (if b then [] else far_item i ∷ before_down (entries_of es))
    by true same = refl
    by false same = ap (λ l. far_item i ∷ l) same
entries_same (near_half k m ∷ es) = entries_same es
entries_same (far_half k m ∷ es) = entries_same es

no_down : (i : JournalItem) → marks_down i ≡ false → IsNoDown i
no_down (item.post place step) h = tt
no_down (item.dial step) h = tt
no_down (item.opened socket) h = tt
no_down (item.read socket bytes) h = tt
no_down (item.wrote socket bytes) h = tt
no_down (item.closed socket broken) h = tt
no_down (item.judged socket ask number answer unread trail) h = tt
no_down (item.asked ident number) h = tt
no_down (item.numbered number) h = tt
no_down (item.accepted number key) h = tt
no_down (item.acked number) h = tt
no_down (item.obeyed full) h = tt
no_down (item.down planned step) h = from_false_true (sym h)

near_none : (es : List OrderEntry) → AllByRecursion IsNoDown (near_items (entries_of (unmarked es)))
near_none [] = tt
near_none (near_entry i ∷ es) = by (marks_down i) refl (near_none es)
  where
    by : (b : Bool) → marks_down i ≡ b → AllByRecursion IsNoDown (near_items (entries_of (unmarked es))) → AllByRecursion IsNoDown (near_items (entries_of (if b then [] else near_entry i ∷ unmarked es)))
    by true e rest = tt
    by false e rest = (no_down i e, rest)
near_none (far_entry i ∷ es) = by (marks_down i) (near_none es)
  where
    by : (b : Bool) → AllByRecursion IsNoDown (near_items (entries_of (unmarked es))) → AllByRecursion IsNoDown (near_items (entries_of (if b then [] else far_entry i ∷ unmarked es)))
    by true rest = tt
    by false rest = rest
near_none (near_half k m ∷ es) = near_none es
near_none (far_half k m ∷ es) = near_none es

far_none : (es : List OrderEntry) → AllByRecursion IsNoDown (far_items (entries_of (unmarked es)))
far_none [] = tt
far_none (near_entry i ∷ es) = by (marks_down i) (far_none es)
  where
    by : (b : Bool) → AllByRecursion IsNoDown (far_items (entries_of (unmarked es))) → AllByRecursion IsNoDown (far_items (entries_of (if b then [] else near_entry i ∷ unmarked es)))
    by true rest = tt
    by false rest = rest
far_none (far_entry i ∷ es) = by (marks_down i) refl (far_none es)
  where
    by : (b : Bool) → marks_down i ≡ b → AllByRecursion IsNoDown (far_items (entries_of (unmarked es))) → AllByRecursion IsNoDown (far_items (entries_of (if b then [] else far_entry i ∷ unmarked es)))
    by true e rest = tt
    by false e rest = (no_down i e, rest)
far_none (near_half k m ∷ es) = far_none es
far_none (far_half k m ∷ es) = far_none es

-- they are the first ones
pub more_behind : (es : List OrderEntry) → (more : List SideItem) × (entries_of es ≡ before_down (entries_of es) ++ more)
more_behind es =
    let rest = (behind es).0 in
    (entries_of rest, ap entries_of (behind es).1 ∙ flat_map-append entry_in (unmarked es) rest ∙ ap (λ l. l ++ entries_of rest) (entries_same es))

-- ---- it is a history

module _ (gives : BytesGiveFits) (f g : SideFacts) (nodes : AreNodes f g) (es : List OrderEntry) (fits : IsByteOrder f g es) (peers : (k : SocketId) → goes_to f.peer k ≡ true → goes_to g.peer k ≡ false) where
  abbrev rest : List OrderEntry
  rest = (behind es).0

  all : es ≡ unmarked es ++ rest
  all = (behind es).1

  entries : entries_of es ≡ entries_of (unmarked es) ++ entries_of rest
  entries = ap entries_of all ∙ flat_map-append entry_in (unmarked es) rest

  near_parts : near_items (entries_of es) ≡ near_items (entries_of (unmarked es)) ++ near_items (entries_of rest)
  near_parts = ap near_items entries ∙ near_append (entries_of (unmarked es)) (entries_of rest)

  far_parts : far_items (entries_of es) ≡ far_items (entries_of (unmarked es)) ++ far_items (entries_of rest)
  far_parts = ap far_items entries ∙ far_append (entries_of (unmarked es)) (entries_of rest)

  history : IsByteHistory f g (unmarked es)
  history = record {
    near_named = fits.near_named;
    far_named = fits.far_named;
    peers = peers;
    near_lawful = lawful_first f (near_items (entries_of (unmarked es))) (near_items (entries_of rest)) (start f) (subst (λ is. AreLawful f is (start f)) near_parts fits.near_lawful);
    far_lawful = lawful_first g (far_items (entries_of (unmarked es))) (far_items (entries_of rest)) (start g) (subst (λ is. AreLawful g is (start g)) far_parts fits.far_lawful);
    near_not_down = near_none es;
    far_not_down = far_none es;
    near_posts = all_front CanBePosted (near_items (entries_of (unmarked es))) (near_items (entries_of rest)) (subst (AllByRecursion CanBePosted) near_parts fits.near_posts);
    far_posts = all_front CanBePosted (far_items (entries_of (unmarked es))) (far_items (entries_of rest)) (subst (AllByRecursion CanBePosted) far_parts fits.far_posts);
    bytes = λ front back e. fits.bytes front (back ++ rest) (all ∙ ap (λ l. l ++ rest) e ∙ append_assoc front back rest);
  }

  pub history_before : IsHistory f g (before_down (entries_of es))
  history_before = subst (IsHistory f g) (entries_same es) (gives f g (unmarked es) nodes history)

  pub never_reset_before : LosslessBytesAreNeverReset → IsNeverReset f g (before_down (entries_of es))
  never_reset_before never = subst (IsNeverReset f g) (entries_same es) (never f g (unmarked es) nodes history)

  pub lawful_order : IsLawfulOrder f g (entries_of es)
  lawful_order = record { near_lawful = fits.near_lawful; far_lawful = fits.far_lawful; fits = history_before.fits }
