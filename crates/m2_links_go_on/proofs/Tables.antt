-- The bytes of ends in a table of sockets are those of the ends themselves; so an order by the ones is an order by the others.
use Rattle.std.proofs.Common.{◌≡◌, suc, Bool, true, false, ◌||◌, ◌&&◌, if◌then◌else◌, List, [], ◌∷◌, map, refl, sym, ap, ◌∙◌, subst, Option, Some, Ok, Err}
use Rattle.std.specs.Prelude.{slice_get}
use Rattle.m2_fabric.specs.declared.socket.SocketId.{SocketId}
use Rattle.m2_fabric.specs.Sockets.{is_among, same_socket}
use Rattle.m2_growth.proofs.m2_bytes_fit.Lists.{nil_not}
use Rattle.m2_history.proofs.Bytes.{in_row, row_of}
use Rattle.m2_history.specs.declared.history.WeaveFault.TheVariants as fault
use Rattle.m2_history.specs.Woven.{BothNow, BytesNow, EndNow, RowNow, bytes_at, ends_of, row_in, row_now, rows_of, strands_of}
use Rattle.m2_links_go_on.specs.TurnLaws.{AnOrderIsFound}
use Rattle.m2_links_go_on.specs.Sides.{woven_now}
use Rattle.m2_weave.specs.Counting.{place_in}
use Rattle.m2_weave.specs.declared.table.SocketBytes.{SocketBytes}
use Rattle.m2_weave.specs.Rule.{Woven}
use Rattle.m2_weave.specs.Stops.{IsWoven}
use Rattle.m2_weave.specs.Strands.{Bytes, EndOf, same_side}
use Rattle.m2_weave.specs.Table.{bytes_of, got_at, names_of, put_at}
use Rattle.m2_fabric.proofs.Sockets.{same_equal}
use Rattle.m2_fabric.proofs.m2_lemmas.Lists.{cons_same}

-- ---- one end in a table

-- what the table has of an end
abbrev in_table : Option SocketBytes → Bool → BytesNow
in_table row o = record { got = got_at row o; put = put_at row o }

row-has : (s : SocketBytes) (o : Bool) → in_table (Some s) o ≡ in_row (row_now s) o
row-has s true = refl
row-has s false = refl

abbrev sockets_of : List EndNow → List SocketId
sockets_of es = map (λ (e : EndNow). e.socket) es

abbrev at_table : List SocketBytes → SocketId → Bool → BytesNow
at_table sockets k o = in_table (slice_get sockets (place_in (names_of sockets) k)) o

table-has : (all es : List EndNow) (sockets : List SocketBytes) (k : SocketId) (o : Bool) → map row_now sockets ≡ map (row_in all) es →
    at_table sockets k o ≡ (if is_among k (sockets_of es) then bytes_at k o all else record { got = []; put = [] })
table-has all [] [] k o e = refl
table-has all [] (s ∷ sockets) k o e = nil_not (sym e)
table-has all (x ∷ es) [] k o e = nil_not e
table-has all (x ∷ es) (s ∷ sockets) k o e =
    let both = cons_same (row_now s) (row_in all x) (map row_now sockets) (map (row_in all) es) e in
    at both.0 (same_socket k x.socket) refl (table-has all es sockets k o both.1)
  where
    at : row_now s ≡ row_in all x → (b : Bool) → same_socket k x.socket ≡ b →
        at_table sockets k o ≡ (if is_among k (sockets_of es) then bytes_at k o all else record { got = []; put = [] }) →
        at_table (s ∷ sockets) k o ≡ (if is_among k (sockets_of (x ∷ es)) then bytes_at k o all else record { got = []; put = [] })
    at row true q later =
        let named : s.socket ≡ x.socket = ap (λ (r : RowNow). r.socket) row in
        let here : same_socket k s.socket ≡ true = ap (same_socket k) named ∙ q in
        ap (λ b. in_table (slice_get (s ∷ sockets) (if b then 0 else suc (place_in (names_of sockets) k))) o) here
        ∙ row-has s o ∙ ap (λ r. in_row r o) row ∙ row_of all x o ∙ ap (λ j. bytes_at j o all) (sym (same_equal k x.socket q))
        ∙ sym (ap (λ b. if b || is_among k (sockets_of es) then bytes_at k o all else record { got = []; put = [] }) q)
    at row false q later =
        let named : s.socket ≡ x.socket = ap (λ (r : RowNow). r.socket) row in
        let there : same_socket k s.socket ≡ false = ap (same_socket k) named ∙ q in
        ap (λ b. in_table (slice_get (s ∷ sockets) (if b then 0 else suc (place_in (names_of sockets) k))) o) there ∙ later
        ∙ sym (ap (λ b. if b || is_among k (sockets_of es) then bytes_at k o all else record { got = []; put = [] }) q)

-- an end of another socket isn't it
no-end : (k : SocketId) (o : Bool) (es : List EndNow) → is_among k (sockets_of es) ≡ false → bytes_at k o es ≡ record { got = []; put = [] }
no-end k o [] h = refl
no-end k o (e ∷ es) h = at (same_socket k e.socket) h (no-end k o es)
  where
    at : (b : Bool) → (b || is_among k (sockets_of es)) ≡ false → (is_among k (sockets_of es) ≡ false → bytes_at k o es ≡ record { got = []; put = [] }) →
        (if b && same_side o e.opener then record { got = e.got; put = e.put } else bytes_at k o es) ≡ record { got = []; put = [] }
    at true h later = absurd cc
    at false h later = later h

table-is : (all : List EndNow) (sockets : List SocketBytes) (k : SocketId) (o : Bool) → map row_now sockets ≡ rows_of all → at_table sockets k o ≡ bytes_at k o all
table-is all sockets k o e = at (is_among k (sockets_of all)) refl
  where
    at : (b : Bool) → is_among k (sockets_of all) ≡ b → at_table sockets k o ≡ bytes_at k o all
    at true q = table-has all all sockets k o e ∙ ap (λ b. if b then bytes_at k o all else record { got = []; put = [] }) q
    at false q = table-has all all sockets k o e ∙ ap (λ b. if b then bytes_at k o all else record { got = []; put = [] }) q ∙ sym (no-end k o all q)

-- ---- all of them

bytes-same : (b c : Bytes) → ((e : EndOf) → b.got e ≡ c.got e) → ((e : EndOf) → b.put e ≡ c.put e) → b ≡ c
bytes-same b c g p = λ i. record { got = λ e. g e i; put = λ e. p e i }

pub table_is_woven : (x : BothNow) (sockets : List SocketBytes) → map row_now sockets ≡ rows_of (ends_of x) →
    woven_now x ≡ record { strands = strands_of x; bytes = bytes_of sockets }
table_is_woven x sockets rows =
    ap (λ (b : Bytes). let w : Woven = record { strands = strands_of x; bytes = b } in w)
    (bytes-same (woven_now x).bytes (bytes_of sockets)
    (λ e. sym (ap (λ (b : BytesNow). b.got) (table-is (ends_of x) sockets e.socket e.opener rows)))
    (λ e. sym (ap (λ (b : BytesNow). b.put) (table-is (ends_of x) sockets e.socket e.opener rows))))

pub order_is_found : AnOrderIsFound
order_is_found x (Ok h) order weaves = tt
order_is_found x (Err fault.NoMemory) order weaves = tt
order_is_found x (Err (fault.Unfit u)) order weaves = weaves.2.none order.0 (subst (λ w. IsWoven w order.0) (table_is_woven x weaves.0 weaves.1) order.1)
