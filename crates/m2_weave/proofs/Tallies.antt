-- Numbers of sockets, each at its place.
use Rattle.std.proofs.Common.{◌≡◌, ℕ, zero, suc, ◌+◌, ◌<◌, ◌≤◌, Bool, true, false, List, [], ◌∷◌, length, take, drop, map, refl, sym, ap, ◌∙◌, subst, arith, add-one, not, ◌*◌}
use Rattle.std.specs.Prelude.{◌||◌, if◌then◌else◌, slice_get, slice_index, slice_index_or, slice_set}
use Rattle.std.specs.Option.{is_none}
use Rattle.std.proofs.lemmas.List.{drop_more, get_or-set_same, get_or-set_other, length-map}
use Rattle.m2_fabric.specs.declared.socket.SocketId.{SocketId}
use Rattle.m2_fabric.specs.Sockets.{same_socket, is_among}
use Rattle.m2_weave.specs.declared.counted.Need.{Need}
use Rattle.m2_weave.specs.declared.counted.Need.TheVariants.{Nothing, AtLeast, Never}
use Rattle.m2_weave.specs.declared.strand.Strand.{Strand}
use Rattle.m2_weave.specs.declared.strand.StrandItem.{StrandItem}
use Rattle.m2_weave.specs.declared.table.SocketBytes.{SocketBytes}
use Rattle.m2_weave.specs.Strands.{EndOf, StrandNow, has_opened, other, same_side, strand_now, read_by, read_by_halves, total, written_at, written_by, written_in}
use Rattle.m2_weave.specs.Rule.{AreThere, Woven, first_unfit}
use Rattle.m2_weave.specs.Stops.{first_stop, or_else, unfit_next}
use Rattle.m2_weave.specs.Counting.{place_in, side_number, writes, fit_need, bytes_need}
use Rattle.m2_weave.specs.Table.{names_of, got_at, put_at, HasRisen, KeepsOpened}
use Rattle.m2_weave.specs.Tally.{bytes_alone}
use Rattle.m2_weave.proofs.Numbering.{place_is_own}
use Rattle.m2_weave.proofs.Written.{get_take, get_drop}
use Rattle.m2_weave.proofs.Deciding.{read-sound, read-complete}
use Rattle.m2_fabric.proofs.Sockets.{same_equal, same_refl}

pub names_count : (sockets : List SocketBytes) → length (names_of sockets) ≡ length sockets
names_count sockets = length-map sockets (λ (s : SocketBytes). s.socket)

named-at : (p rest : Bool) (m n : ℕ) → (p || rest) ≡ true → (rest ≡ true → m < n) → (if p then 0 else suc m) < suc n
named-at true rest m n h on = omega arith
named-at false rest m n h on = let l : m < n = on h in omega arith

-- a name has a place among the names
pub place_within : (names : List SocketId) (k : SocketId) → is_among k names ≡ true → place_in names k < length names
place_within [] k h = absurd (cc)
place_within (x ∷ names) k h = named-at (same_socket k x) (is_among k names) (place_in names k) (length names) h (place_within names k)

-- ---- one number is raised

risen-at : (names : List SocketId) (v : List ℕ) (x k : SocketId) (c : ℕ) (b : Bool) → is_among k names ≡ true → place_in names x < length v → same_socket k x ≡ b →
    slice_index (slice_set v (place_in names x) (slice_index v (place_in names x) + c)) (place_in names k)
    ≡ slice_index v (place_in names k) + (if b then c else 0)
risen-at names v x k c true among within is =
    let same : k ≡ x = same_equal k x is in
    subst (λ y. slice_index (slice_set v (place_in names x) (slice_index v (place_in names x) + c)) (place_in names y) ≡ slice_index v (place_in names y) + c)
    (sym same) (get_or-set_same v (place_in names x) (slice_index v (place_in names x) + c) 0 within)
risen-at names v x k c false among within is =
    let apart : place_in names k ≡ place_in names x → ⊥ = λ e.
    let same : x ≡ k = place_is_own names x k among (sym e) in
    let yes : same_socket k x ≡ true = subst (λ y. same_socket k y ≡ true) (sym same) (same_refl k) in cc in
    omega (arith, get_or-set_other v (place_in names x) (place_in names k) (slice_index v (place_in names x) + c) 0 apart)

pub risen : (names : List SocketId) (v : List ℕ) (x : SocketId) (c : ℕ) → place_in names x < length v →
    HasRisen names x c v (slice_set v (place_in names x) (slice_index v (place_in names x) + c))
risen names v x c within = λ k among. risen-at names v x k c (same_socket k x) among within refl

none-at : (names : List SocketId) (x k : SocketId) (c m : ℕ) (b : Bool) → is_among k names ≡ true → length names ≤ place_in names x → same_socket k x ≡ b →
    m ≡ m + (if b then c else 0)
none-at names x k c m true among out is =
    let here : place_in names k < length names = place_within names k among in
    absurd (omega (arith, here, out, ap (place_in names) (same_equal k x is)))
none-at names x k c m false among out is = omega arith

-- a socket that isn't there raises nothing
pub none_risen : (names : List SocketId) (v : List ℕ) (x : SocketId) (c : ℕ) → length names ≤ place_in names x → HasRisen names x c v v
none_risen names v x c out = λ k among. none-at names x k c (slice_index v (place_in names k)) (same_socket k x) among out refl

-- ---- one flag is set

set-at : (names : List SocketId) (v : List Bool) (x k : SocketId) (b : Bool) → is_among k names ≡ true → place_in names x < length v → same_socket k x ≡ b →
    slice_index_or (slice_set v (place_in names x) true) (place_in names k) false ≡ (b || slice_index_or v (place_in names k) false)
set-at names v x k true among within is =
    let same : k ≡ x = same_equal k x is in
    subst (λ y. slice_index_or (slice_set v (place_in names x) true) (place_in names y) false ≡ true)
    (sym same) (get_or-set_same v (place_in names x) true false within)
set-at names v x k false among within is =
    let apart : place_in names k ≡ place_in names x → ⊥ = λ e.
    let same : x ≡ k = place_is_own names x k among (sym e) in
    let yes : same_socket k x ≡ true = subst (λ y. same_socket k y ≡ true) (sym same) (same_refl k) in cc in
    get_or-set_other v (place_in names x) (place_in names k) true false apart

pub flag_set : (names : List SocketId) (v : List Bool) (x : SocketId) → place_in names x < length v →
    KeepsOpened names (λ k. same_socket k x || slice_index_or v (place_in names k) false) (slice_set v (place_in names x) true)
flag_set names v x within = λ k among. set-at names v x k (same_socket k x) among within refl

unset-at : (names : List SocketId) (x k : SocketId) (f b : Bool) → is_among k names ≡ true → length names ≤ place_in names x → same_socket k x ≡ b → f ≡ (b || f)
unset-at names x k f true among out is =
    let here : place_in names k < length names = place_within names k among in
    absurd (omega (arith, here, out, ap (place_in names) (same_equal k x is)))
unset-at names x k f false among out is = refl

pub none_set : (names : List SocketId) (v : List Bool) (x : SocketId) → length names ≤ place_in names x →
    KeepsOpened names (λ k. same_socket k x || slice_index_or v (place_in names k) false) v
none_set names v x out = λ k among. unset-at names x k (slice_index_or v (place_in names k) false) (same_socket k x) among out refl

-- ---- bytes that are the same

pub take-some : (p : ℕ) (put xs : List ℕ) → AreThere (slice_get put) p xs → xs ≡ take (length xs) (drop p put)
take-some zero [] [] h = refl
take-some zero (y ∷ put) [] h = refl
take-some zero [] (x ∷ xs) h = let e = h 0 (omega arith) in absurd (cc)
take-some zero (y ∷ put) (x ∷ xs) h =
    let first : y ≡ x = let e = h 0 (omega arith) in cc in
    let rest : AreThere (slice_get put) 0 xs = λ i l.
    let same : suc (0 + i) ≡ 0 + suc i = omega arith in
    ap (slice_get (y ∷ put)) same ∙ h (suc i) (omega (arith, l)) in
    ap (λ z. z ∷ xs) (sym first) ∙ ap (λ l. y ∷ l) (take-some zero put xs rest)
take-some (suc p) [] [] h = refl
take-some (suc p) [] (x ∷ xs) h = let e = h 0 (omega arith) in absurd (cc)
take-some (suc p) (y ∷ put) xs h = take-some p put xs (λ i l.
    let same : suc (p + i) ≡ suc p + i = omega arith in ap (slice_get (y ∷ put)) same ∙ h i l)

-- ---- as the calls leave the lists

pub risen_so : (names : List SocketId) (v : List ℕ) (x : SocketId) (c p m : ℕ) → p ≡ place_in names x → m ≡ slice_index v p → p < length v →
    HasRisen names x c v (slice_set v p (m + c))
risen_so names v x c p m place number within =
    let at_x : place_in names x < length v = subst (λ q. q < length v) place within in
    subst (λ q. HasRisen names x c v (slice_set v q (m + c))) (sym place)
    (subst (λ n. HasRisen names x c v (slice_set v (place_in names x) (n + c))) (sym (number ∙ ap (slice_index v) place)) (risen names v x c at_x))

pub set_so : (names : List SocketId) (v : List Bool) (x : SocketId) (p : ℕ) → p ≡ place_in names x → p < length v →
    KeepsOpened names (λ k. same_socket k x || slice_index_or v (place_in names k) false) (slice_set v p true)
set_so names v x p place within =
    subst (λ q. KeepsOpened names (λ k. same_socket k x || slice_index_or v (place_in names k) false) (slice_set v q true)) (sym place)
    (flag_set names v x (subst (λ q. q < length v) place within))

-- ---- sums, an item at a time

total-suc : (f : StrandItem → ℕ) (n : ℕ) (is : List StrandItem) (d : StrandItem) → n < length is → total f (take (suc n) is) ≡ total f (take n is) + f (slice_index_or is n d)
total-suc f n [] d h = absurd (omega (arith, h))
total-suc f zero (x ∷ is) d h = omega arith
total-suc f (suc n) (x ∷ is) d h = omega (arith, total-suc f n is d (omega (arith, h)))

pub total_more : (f : StrandItem → ℕ) (n : ℕ) (is : List StrandItem) (d : StrandItem) → n < length is → total f (take (n + 1) is) ≡ total f (take n is) + f (slice_index_or is n d)
total_more f n is d h = subst (λ m. total f (take m is) ≡ total f (take n is) + f (slice_index_or is n d)) (sym (add-one n)) (total-suc f n is d h)

pub added_more : (k : SocketId) (n : ℕ) (is : List StrandItem) (d : StrandItem) (new old base : ℕ) → n < length is →
    new ≡ old + read_by k (slice_index_or is n d) → old ≡ base + total (read_by k) (take n is) → new ≡ base + total (read_by k) (take (n + 1) is)
added_more k n is d new old base h a b = omega (arith, a, b, total_more (read_by k) n is d h)

halves-suc : (n : ℕ) (ss : List Strand) (s : Strand) (k : SocketId) → n < length ss → s ≡ slice_index_or ss n s →
    read_by_halves (map strand_now (take (suc n) ss)) k
    ≡ read_by_halves (map strand_now (take n ss)) k + (if (strand_now s).of_half then total (read_by k) (strand_now s).items else 0)
halves-suc n [] s k h e = absurd (omega (arith, h))
halves-suc zero (x ∷ ss) s k h e =
    subst (λ (y : Strand). (if (strand_now x).of_half then total (read_by k) (strand_now x).items else 0) + 0 ≡ 0 + (if (strand_now y).of_half then total (read_by k) (strand_now y).items else 0)) (sym e) (omega arith)
halves-suc (suc n) (x ∷ ss) s k h e = omega (arith, halves-suc n ss s k (omega (arith, h)) e)

pub halves_more : (n : ℕ) (ss : List Strand) (s : Strand) (k : SocketId) → n < length ss → s ≡ slice_index_or ss n s →
    read_by_halves (map strand_now (take (n + 1) ss)) k
    ≡ read_by_halves (map strand_now (take n ss)) k + (if (strand_now s).of_half then total (read_by k) (strand_now s).items else 0)
halves_more n ss s k h e =
    subst (λ m. read_by_halves (map strand_now (take m ss)) k ≡ read_by_halves (map strand_now (take n ss)) k + (if (strand_now s).of_half then total (read_by k) (strand_now s).items else 0))
    (sym (add-one n)) (halves-suc n ss s k h e)

-- ---- what a read waits for

-- as the pieces are found
pub record Found (sockets : List SocketBytes) (k : SocketId) (opener : Bool) (from count place : ℕ) (got put bytes there : List ℕ) : Type 0 where
  pub place_is : place ≡ place_in (names_of sockets) k
  pub got_is : got ≡ got_at (slice_get sockets place) opener
  pub put_is : put ≡ put_at (slice_get sockets place) (not opener)
  pub bytes_are : bytes ≡ take count (drop from got)
  pub there_are : there ≡ take (length bytes) (drop from put)

abbrev pub needed_at : List SocketBytes → SocketId → Bool → (from count : ℕ) → Need
needed_at sockets k opener from count =
    bytes_need (names_of sockets) (bytes_alone sockets) (record { socket = k; opener = opener }) from
    (take count (drop from (got_at (slice_get sockets (place_in (names_of sockets) k)) opener)))

found-need : (sockets : List SocketBytes) (k : SocketId) (opener : Bool) (from count place : ℕ) (got put bytes there : List ℕ) →
    Found sockets k opener from count place got put bytes there →
    fit_need (is_none (first_unfit (record { socket = k; opener = opener }) (slice_get put) from bytes)) (4 * place + side_number (not opener)) from bytes
    ≡ needed_at sockets k opener from count
found-need sockets k opener from count place got put bytes there f =
    let e : EndOf = record { socket = k; opener = opener } in
    let put_so : put ≡ put_at (slice_get sockets (place_in (names_of sockets) k)) (not opener) =
    f.put_is ∙ ap (λ p. put_at (slice_get sockets p) (not opener)) f.place_is in
    let bytes_so : bytes ≡ take count (drop from (got_at (slice_get sockets (place_in (names_of sockets) k)) opener)) =
    f.bytes_are ∙ ap (λ l. take count (drop from l)) (f.got_is ∙ ap (λ p. got_at (slice_get sockets p) opener) f.place_is) in
    ap (λ p. fit_need (is_none (first_unfit e (slice_get put) from bytes)) (4 * p + side_number (not opener)) from bytes) f.place_is
    ∙ ap (λ l. fit_need (is_none (first_unfit e (slice_get l) from bytes)) (writes (names_of sockets) (other e)) from bytes) put_so
    ∙ ap (λ l. fit_need (is_none (first_unfit e (slice_get (put_at (slice_get sockets (place_in (names_of sockets) k)) (not opener))) from l))
    (writes (names_of sockets) (other e)) from l) bytes_so

never : (b : Bool) (c p : ℕ) (xs : List ℕ) → (b ≡ true → ⊥) → Never ≡ fit_need b c p xs
never true c p xs n = absurd (n refl)
never false c p xs n = refl

-- the other end writes others there
pub need_never : (sockets : List SocketBytes) (k : SocketId) (opener : Bool) (from count place : ℕ) (got put bytes there : List ℕ) →
    Found sockets k opener from count place got put bytes there → (bytes ≡ there → ⊥) → Never ≡ needed_at sockets k opener from count
need_never sockets k opener from count place got put bytes there f apart =
    never _ _ from bytes (λ h. apart (take-some from put bytes (read-sound (record { socket = k; opener = opener }) (slice_get put) from bytes h) ∙ sym f.there_are))
    ∙ found-need sockets k opener from count place got put bytes there f

-- it writes the same
some-there : (p i : ℕ) (put xs : List ℕ) → xs ≡ take (length xs) (drop p put) → i < length xs → slice_get put (p + i) ≡ slice_get xs i
some-there p i put xs e l =
    sym (get_drop p i put) ∙ sym (get_take (length xs) i (drop p put) l) ∙ ap (λ ys. slice_get ys i) (sym e)

fits-there : (sockets : List SocketBytes) (k : SocketId) (opener : Bool) (from count place : ℕ) (got put bytes there : List ℕ) →
    Found sockets k opener from count place got put bytes there → bytes ≡ there →
    is_none (first_unfit (record { socket = k; opener = opener }) (slice_get put) from bytes) ≡ true
fits-there sockets k opener from count place got put bytes there f same =
    read-complete (record { socket = k; opener = opener }) (slice_get put) from bytes (λ i l. some-there from i put bytes (same ∙ f.there_are) l)

at-least : (b : Bool) (c p : ℕ) (xs : List ℕ) → b ≡ true → (length xs ≡ 0 → ⊥) → AtLeast c (p + length xs) ≡ fit_need b c p xs
at-least true c p [] e n = absurd (n refl)
at-least true c p (x ∷ xs) e n = refl
at-least false c p xs e n = absurd (cc)

nothing : (b : Bool) (c p : ℕ) (xs : List ℕ) → b ≡ true → length xs ≡ 0 → Nothing ≡ fit_need b c p xs
nothing true c p [] e n = refl
nothing true c p (x ∷ xs) e n = absurd (omega (arith, n))
nothing false c p xs e n = absurd (cc)

pub need_nothing : (sockets : List SocketBytes) (k : SocketId) (opener : Bool) (from count place : ℕ) (got put bytes there : List ℕ) →
    Found sockets k opener from count place got put bytes there → bytes ≡ there → length bytes ≡ 0 → Nothing ≡ needed_at sockets k opener from count
need_nothing sockets k opener from count place got put bytes there f same none =
    nothing _ _ from bytes (fits-there sockets k opener from count place got put bytes there f same) none
    ∙ found-need sockets k opener from count place got put bytes there f

pub need_least : (sockets : List SocketBytes) (k : SocketId) (opener : Bool) (from count place side : ℕ) (got put bytes there : List ℕ) →
    Found sockets k opener from count place got put bytes there → bytes ≡ there → (length bytes ≡ 0 → ⊥) → side ≡ side_number (not opener) →
    AtLeast (4 * place + side) (from + length bytes) ≡ needed_at sockets k opener from count
need_least sockets k opener from count place side got put bytes there f same some at =
    ap (λ n. AtLeast (4 * place + n) (from + length bytes)) at
    ∙ at-least _ _ from bytes (fits-there sockets k opener from count place got put bytes there f same) some
    ∙ found-need sockets k opener from count place got put bytes there f

-- ---- a sum, an item at a time

pub sum_more : (f : StrandItem → ℕ) (n : ℕ) (is : List StrandItem) (d : StrandItem) (new old this : ℕ) → n < length is → new ≡ old + this →
    this ≡ f (slice_index_or is n d) → old ≡ total f (take n is) → new ≡ total f (take (n + 1) is)
sum_more f n is d new old this h a b c = omega (arith, a, b, c, total_more f n is d h)

-- ---- what is written at an end

total-if : (b : Bool) (f : StrandItem → ℕ) (is : List StrandItem) → total (λ i. if b then f i else 0) is ≡ (if b then total f is else 0)
total-if true f [] = refl
total-if true f (i ∷ is) = ap (λ n. f i + n) (total-if true f is)
total-if false f [] = refl
total-if false f (i ∷ is) = omega (arith, total-if false f is)

pub written_so : (e : EndOf) (s : StrandNow) (is : List StrandItem) → total (written_in e s) is ≡ (if same_side (has_opened s e.socket) e.opener then total (written_by e.socket) is else 0)
written_so e s is = total-if (same_side (has_opened s e.socket) e.opener) (written_by e.socket) is

-- one strand more
pub written_more : (strands : List Strand) (at : List ℕ) (j : ℕ) (s : Strand) (e : EndOf) (sum new here all : ℕ) → j < length strands → length at ≡ length strands →
    new ≡ sum + here → here ≡ total (written_in e (strand_now (slice_index_or strands j s))) (take (slice_index at j) (strand_now (slice_index_or strands j s)).items) →
    sum + written_at (map strand_now (drop j strands)) (drop j at) e ≡ all → new + written_at (map strand_now (drop (j + 1) strands)) (drop (j + 1) at) e ≡ all
written_more strands at j d e sum new here all h n grown here_is before =
    let s = slice_index_or strands j d in
    let ns : drop j at ≡ slice_index at j ∷ drop (j + 1) at = drop_more at j 0 (omega (arith, h, n)) in
    let split : written_at (map strand_now (drop j strands)) (drop j at) e
    ≡ total (written_in e (strand_now s)) (take (slice_index at j) (strand_now s).items) + written_at (map strand_now (drop (j + 1) strands)) (drop (j + 1) at) e =
    ap (λ xs. written_at (map strand_now xs) (drop j at) e) (drop_more strands j d h)
    ∙ ap (λ ms. written_at (map strand_now (s ∷ drop (j + 1) strands)) ms e) ns in
    omega (arith, split, grown, here_is, before)

pub written_next : (strands : List Strand) (at : List ℕ) (j : ℕ) (s : Strand) (e : EndOf) (sum new here all : ℕ) → j < length strands → length at ≡ length strands →
    s ≡ slice_index_or strands j s → new ≡ sum + here → here ≡ total (written_in e (strand_now s)) (take (slice_index at j) (strand_now s).items) →
    sum + written_at (map strand_now (drop j strands)) (drop j at) e ≡ all → new + written_at (map strand_now (drop (j + 1) strands)) (drop (j + 1) at) e ≡ all
written_next strands at j s e sum new here all h n is grown here_is before =
    written_more strands at j s e sum new here all h n grown
    (subst (λ (x : Strand). here ≡ total (written_in e (strand_now x)) (take (slice_index at j) (strand_now x).items)) is here_is) before

-- ---- the first strand that stops

pub stop_next : (w : Woven) (cut : List ℕ) (strands : List Strand) (at : List ℕ) (j : ℕ) (s : Strand) → j < length strands → length at ≡ length strands →
    s ≡ slice_index_or strands j s → first_stop w cut (map strand_now (drop j strands)) (drop j at)
    ≡ or_else (unfit_next w cut (strand_now s) (slice_index at j)) (first_stop w cut (map strand_now (drop (j + 1) strands)) (drop (j + 1) at))
stop_next w cut strands at j s h n is =
    ap (λ xs. first_stop w cut (map strand_now xs) (drop j at)) (drop_more strands j s h)
    ∙ ap (λ ms. first_stop w cut (map strand_now (slice_index_or strands j s ∷ drop (j + 1) strands)) ms) (drop_more at j 0 (omega (arith, h, n)))
    ∙ ap (λ (x : Strand). or_else (unfit_next w cut (strand_now x) (slice_index at j)) (first_stop w cut (map strand_now (drop (j + 1) strands)) (drop (j + 1) at))) (sym is)
