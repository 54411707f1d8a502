-- Between strands what was counted of the one is forgotten, socket by socket.
use Rattle.std.proofs.Common.{◌≡◌, ℕ, ◌+◌, ◌<◌, ◌≤◌, Bool, true, false, List, [], ◌∷◌, length, take, refl, sym, ap, ◌∙◌, subst, arith}
use Rattle.std.specs.Prelude.{◌||◌, if◌then◌else◌, replicate, slice_index, slice_index_or, slice_set}
use Rattle.std.specs.List.{list_any}
use Rattle.std.proofs.lemmas.List.{get_or-set_same, get_or-set_other, get_or-replicate, length-set, take_all}
use Rattle.std.proofs.lemmas.List.Folds.{list_any_more}
use Rattle.m2_fabric.specs.declared.socket.SocketId.{SocketId}
use Rattle.m2_fabric.specs.Sockets.{is_among, same_socket}
use Rattle.m2_journal.specs.declared.entry.Entry.TheVariants as entry
use Rattle.m2_weave.specs.declared.counts.Counts.{Counts}
use Rattle.m2_weave.specs.declared.strand.StrandItem.{StrandItem}
use Rattle.m2_weave.specs.declared.strand.StrandItem.TheVariants.{Noted, Handed}
use Rattle.m2_weave.specs.declared.table.SocketBytes.{SocketBytes}
use Rattle.m2_weave.specs.Counting.{place_in}
use Rattle.m2_weave.specs.Rule.{Woven}
use Rattle.m2_weave.specs.Strands.{StrandNow, handed_by, has_opened, judged_by, opens, read_by, total}
use Rattle.m2_weave.specs.Table.{KeepsOpened, names_of}
use Rattle.m2_weave.specs.Tally.{AreFor, CountsAre, IsClear, IsForgotten, is_on, number_at}
use Rattle.m2_weave.proofs.Numbering.{place_is_own}
use Rattle.m2_weave.proofs.Tallies.{names_count, place_within}
use Rattle.m2_bytes.proofs.m2_lemmas.Booleans.{neither_of_or}
use Rattle.m2_fabric.proofs.Sockets.{same_equal, same_refl}

-- ---- one socket

-- what stands at a socket's place is set back, and nothing else
set-back : {X : Type 0} (names : List SocketId) (v : List X) (x k : SocketId) (d : X) (b : Bool) → is_among k names ≡ true → place_in names x < length v → same_socket k x ≡ b →
    slice_index_or (slice_set v (place_in names x) d) (place_in names k) d ≡ (if b then d else slice_index_or v (place_in names k) d)
set-back names v x k d true among within is =
    let same : k ≡ x = same_equal k x is in
    subst (λ y. slice_index_or (slice_set v (place_in names x) d) (place_in names y) d ≡ d) (sym same) (get_or-set_same v (place_in names x) d d within)
set-back names v x k d false among within is =
    let apart : place_in names k ≡ place_in names x → ⊥ = λ e.
    let same : x ≡ k = place_is_own names x k among (sym e) in
    let yes : same_socket k x ≡ true = subst (λ y. same_socket k y ≡ true) (sym same) (same_refl k) in cc in
    get_or-set_other v (place_in names x) (place_in names k) d d apart

pub back_at : {X : Type 0} (names : List SocketId) (v : List X) (x k : SocketId) (d : X) (p : ℕ) → p ≡ place_in names x → p < length v → is_among k names ≡ true →
    slice_index_or (slice_set v p d) (place_in names k) d ≡ (if same_socket k x then d else slice_index_or v (place_in names k) d)
back_at {X} names v x k d p place within among =
    subst (λ q. slice_index_or (slice_set v q d) (place_in names k) d ≡ (if same_socket k x then d else slice_index_or v (place_in names k) d)) (sym place)
    (set-back names v x k d (same_socket k x) among (subst (λ q. q < length v) place within) refl)

-- a socket that isn't there has nothing
pub none_back : {X : Type 0} (names : List SocketId) (x k : SocketId) (d y : X) → length names ≤ place_in names x → is_among k names ≡ true → y ≡ (if same_socket k x then d else y)
none_back {X} names x k d y out among = at (same_socket k x) refl
  where
    at : (b : Bool) → same_socket k x ≡ b → y ≡ (if b then d else y)
    at true is =
        let here : place_in names k < length names = place_within names k among in
        absurd (omega (arith, here, out, ap (place_in names) (same_equal k x is)))
    at false is = refl

-- ---- one after the other

two : {X : Type 0} (a b : Bool) (d x y z : X) → y ≡ (if a then d else x) → z ≡ (if b then d else y) → z ≡ (if a || b then d else x)
two true true d x y z e f = f
two true false d x y z e f = f ∙ e
two false true d x y z e f = f
two false false d x y z e f = f ∙ e

-- what was forgotten first, and then
forgotten-two : (sockets : List SocketBytes) (first next : SocketId → Bool) (a b c : Counts) → IsForgotten sockets first a b → IsForgotten sockets next b c →
    IsForgotten sockets (λ k. first k || next k) a c
forgotten-two sockets first next a b c x y = record {
  sizes = y.sizes;
  halves = y.halves ∙ x.halves;
  opened = λ k among. two (first k) (next k) false _ _ _ (x.opened k among) (y.opened k among);
  reads = λ k among. two (first k) (next k) 0 _ _ _ (x.reads k among) (y.reads k among);
  handed = λ k among. two (first k) (next k) 0 _ _ _ (x.handed k among) (y.handed k among);
  judged = λ k among. two (first k) (next k) 0 _ _ _ (x.judged k among) (y.judged k among);
}

these-same : (sockets : List SocketBytes) (these those : SocketId → Bool) (a b : Counts) → ((k : SocketId) → these k ≡ those k) → IsForgotten sockets these a b → IsForgotten sockets those a b
these-same sockets these those a b same x = record {
  sizes = x.sizes;
  halves = x.halves;
  opened = λ k among. x.opened k among ∙ ap (λ t. if t then false else slice_index_or a.opened.items (place_in (names_of sockets) k) false) (same k);
  reads = λ k among. x.reads k among ∙ ap (λ t. if t then 0 else number_at sockets a.reads.items k) (same k);
  handed = λ k among. x.handed k among ∙ ap (λ t. if t then 0 else number_at sockets a.handed.items k) (same k);
  judged = λ k among. x.judged k among ∙ ap (λ t. if t then 0 else number_at sockets a.judged.items k) (same k);
}

-- one item more
pub forgotten_more : (sockets : List SocketBytes) (is : List StrandItem) (n : ℕ) (d : StrandItem) (a b c : Counts) → n < length is →
    IsForgotten sockets (λ k. list_any (is_on k) (take n is)) a b → IsForgotten sockets (λ k. is_on k (slice_index_or is n d)) b c →
    IsForgotten sockets (λ k. list_any (is_on k) (take (n + 1) is)) a c
forgotten_more sockets is n d a b c h x y =
    these-same sockets (λ k. list_any (is_on k) (take n is) || is_on k (slice_index_or is n d)) (λ k. list_any (is_on k) (take (n + 1) is)) a c
    (λ k. sym (list_any_more (is_on k) is n d h))
    (forgotten-two sockets (λ k. list_any (is_on k) (take n is)) (λ k. is_on k (slice_index_or is n d)) a b c x y)

-- ---- all of a strand

-- what no item is on has nothing
record HasNothing (k : SocketId) (is : List StrandItem) : Type 0 where
  opened : list_any (opens k) is ≡ false
  reads : total (read_by k) is ≡ 0
  handed : total (handed_by k) is ≡ 0
  judged : total (judged_by k) is ≡ 0

none-of : (k x : SocketId) (n : ℕ) → same_socket k x ≡ false → (if same_socket k x then n else 0) ≡ 0
none-of k x n e = rw e refl

has-nothing : (k : SocketId) (is : List StrandItem) → list_any (is_on k) is ≡ false → HasNothing k is
has-nothing k [] e = record { opened = refl; reads = refl; handed = refl; judged = refl }
has-nothing k (i ∷ is) e =
    let both = neither_of_or (is_on k i) (list_any (is_on k) is) e in
    let rest = has-nothing k is both.1 in
    at i both.0 rest
  where
    at : (i : StrandItem) → is_on k i ≡ false → HasNothing k is → HasNothing k (i ∷ is)
    at (Noted (entry.Read x count)) e r = record {
      opened = r.opened;
      reads = omega (arith, none-of k x count e, r.reads);
      handed = omega (arith, r.handed);
      judged = omega (arith, r.judged);
    }
    at (Noted (entry.Judged x ask number answer)) e r = record {
      opened = r.opened;
      reads = omega (arith, r.reads);
      handed = omega (arith, r.handed);
      judged = omega (arith, none-of k x 1 e, r.judged);
    }
    at (Noted (entry.Opened x)) e r = record {
      opened = rw e r.opened;
      reads = omega (arith, r.reads);
      handed = omega (arith, r.handed);
      judged = omega (arith, r.judged);
    }
    at (Noted _) e r = record { opened = r.opened; reads = omega (arith, r.reads); handed = omega (arith, r.handed); judged = omega (arith, r.judged) }
    at (Handed x) e r = record {
      opened = r.opened;
      reads = omega (arith, r.reads);
      handed = omega (arith, none-of k x 1 e, r.handed);
      judged = omega (arith, r.judged);
    }

nothing-left : {X : Type 0} (b : Bool) (d x y : X) → y ≡ (if b then d else x) → (b ≡ false → x ≡ d) → y ≡ d
nothing-left true d x y e h = e
nothing-left false d x y e h = e ∙ h refl

all-cleared : (sockets : List SocketBytes) (w : Woven) (s : StrandNow) (old new : Counts) → CountsAre sockets w s (length s.items) old →
    IsForgotten sockets (λ k. list_any (is_on k) s.items) old new → IsClear sockets w.strands new
all-cleared sockets w s old new are x = record {
  sizes = x.sizes;
  halves = λ k among. ap (λ (fs : Counts). slice_index fs.halves.items (place_in (names_of sockets) k)) (ap (λ o. record new { halves = o }) x.halves) ∙ are.halves k among;
  opened = λ k among. nothing-left (list_any (is_on k) s.items) false _ _ (x.opened k among) (λ e. are.opened k among ∙ (has-nothing k s.items e).opened);
  reads = λ k among. nothing-left (list_any (is_on k) s.items) 0 _ _ (x.reads k among) (λ e. are.reads k among ∙ all (read_by k) ∙ (has-nothing k s.items e).reads);
  handed = λ k among. nothing-left (list_any (is_on k) s.items) 0 _ _ (x.handed k among) (λ e. are.handed k among ∙ all (handed_by k) ∙ (has-nothing k s.items e).handed);
  judged = λ k among. nothing-left (list_any (is_on k) s.items) 0 _ _ (x.judged k among) (λ e. are.judged k among ∙ all (judged_by k) ∙ (has-nothing k s.items e).judged);
}
  where
    all : (f : StrandItem → ℕ) → total f (take (length s.items) s.items) ≡ total f s.items
    all f = ap (total f) (take_all (length s.items) s.items (omega arith))

pub cleared : (sockets : List SocketBytes) (w : Woven) (s : StrandNow) (is : List StrandItem) (n : ℕ) (old new : Counts) → s.items ≡ is → length is ≤ n → CountsAre sockets w s (length s.items) old →
    IsForgotten sockets (λ k. list_any (is_on k) (take n is)) old new → IsClear sockets w.strands new
cleared sockets w s is n old new same all are x =
    all-cleared sockets w s old new are
    (subst (λ l. IsForgotten sockets (λ k. list_any (is_on k) l) old new) (take_all n is all ∙ sym same) x)

-- ---- the start of a strand

pub opened_so : (sockets : List SocketBytes) (w : Woven) (s : StrandNow) (old new : Counts) → IsClear sockets w.strands old → new ≡ record old { of_half = s.of_half; opened = new.opened } →
    length new.opened.items ≡ length sockets → KeepsOpened (names_of sockets) (has_opened s) new.opened.items → CountsAre sockets w s 0 new
opened_so sockets w s old new clear same count opened = record {
  sizes = record {
    halves = ap (λ (c : Counts). length c.halves.items) same ∙ clear.sizes.halves;
    opened = count;
    reads = ap (λ (c : Counts). length c.reads.items) same ∙ clear.sizes.reads;
    handed = ap (λ (c : Counts). length c.handed.items) same ∙ clear.sizes.handed;
    judged = ap (λ (c : Counts). length c.judged.items) same ∙ clear.sizes.judged;
  };
  of_half = ap (λ (c : Counts). c.of_half) same;
  halves = λ k among. ap (λ (c : Counts). slice_index c.halves.items (place_in (names_of sockets) k)) same ∙ clear.halves k among;
  opened = opened;
  reads = λ k among. ap (λ (c : Counts). slice_index c.reads.items (place_in (names_of sockets) k)) same ∙ clear.reads k among;
  handed = λ k among. ap (λ (c : Counts). slice_index c.handed.items (place_in (names_of sockets) k)) same ∙ clear.handed k among;
  judged = λ k among. ap (λ (c : Counts). slice_index c.judged.items (place_in (names_of sockets) k)) same ∙ clear.judged k among;
}

-- ---- at first

pub zeros_are : {X : Type 0} (sockets : List SocketBytes) (xs : List X) (k : SocketId) (d : X) → xs ≡ replicate (length sockets) d → is_among k (names_of sockets) ≡ true →
    slice_index_or xs (place_in (names_of sockets) k) d ≡ d
zeros_are sockets xs k d e among =
    let within : place_in (names_of sockets) k < length sockets = omega (arith, place_within (names_of sockets) k among, names_count sockets) in
    ap (λ ys. slice_index_or ys (place_in (names_of sockets) k) d) e ∙ get_or-replicate (length sockets) (place_in (names_of sockets) k) d d within

-- ---- as the calls leave the counts

pub forgot : (sockets : List SocketBytes) (x : SocketId) (place : ℕ) (old new : Counts) → AreFor sockets old → place ≡ place_in (names_of sockets) x → place < length sockets →
    new.halves ≡ old.halves → new.opened.items ≡ slice_set old.opened.items place false → new.reads.items ≡ slice_set old.reads.items place 0 →
    new.handed.items ≡ slice_set old.handed.items place 0 → new.judged.items ≡ slice_set old.judged.items place 0 → IsForgotten sockets (λ k. same_socket k x) old new
forgot sockets x place old new sizes at within halves opened reads handed judged = record {
  sizes = record {
    halves = ap (λ (c : Counts). length c.halves.items) (ap (λ o. record new { halves = o }) halves) ∙ sizes.halves;
    opened = ap length opened ∙ length-set old.opened.items place false ∙ sizes.opened;
    reads = ap length reads ∙ length-set old.reads.items place 0 ∙ sizes.reads;
    handed = ap length handed ∙ length-set old.handed.items place 0 ∙ sizes.handed;
    judged = ap length judged ∙ length-set old.judged.items place 0 ∙ sizes.judged;
  };
  halves = halves;
  opened = λ k among.
      ap (λ xs. slice_index_or xs (place_in (names_of sockets) k) false) opened ∙ back_at (names_of sockets) old.opened.items x k false place at (omega (arith, within, sizes.opened)) among;
  reads = λ k among.
      ap (λ xs. slice_index xs (place_in (names_of sockets) k)) reads ∙ back_at (names_of sockets) old.reads.items x k 0 place at (omega (arith, within, sizes.reads)) among;
  handed = λ k among.
      ap (λ xs. slice_index xs (place_in (names_of sockets) k)) handed ∙ back_at (names_of sockets) old.handed.items x k 0 place at (omega (arith, within, sizes.handed)) among;
  judged = λ k among.
      ap (λ xs. slice_index xs (place_in (names_of sockets) k)) judged ∙ back_at (names_of sockets) old.judged.items x k 0 place at (omega (arith, within, sizes.judged)) among;
}

pub forgot_none : (sockets : List SocketBytes) (x : SocketId) (place : ℕ) (c : Counts) → AreFor sockets c → place ≡ place_in (names_of sockets) x → length sockets ≤ place →
    IsForgotten sockets (λ k. same_socket k x) c c
forgot_none sockets x place c sizes at out = record {
  sizes = sizes;
  halves = refl;
  opened = λ k among. none_back (names_of sockets) x k false _ beyond among;
  reads = λ k among. none_back (names_of sockets) x k 0 _ beyond among;
  handed = λ k among. none_back (names_of sockets) x k 0 _ beyond among;
  judged = λ k among. none_back (names_of sockets) x k 0 _ beyond among;
}
  where
    beyond : length (names_of sockets) ≤ place_in (names_of sockets) x
    beyond = omega (arith, names_count sockets, at, out)
