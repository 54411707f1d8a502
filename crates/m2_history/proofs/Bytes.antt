-- The bytes of a socket's end in a table of all ends are those of its log, where of each socket there is one end of either kind.
use Rattle.std.proofs.Common.{◌≡◌, ℕ, suc, ◌⊎◌, inl, inr, Bool, true, false, ◌&&◌, ◌||◌, if◌then◌else◌, List, [], ◌∷◌, ◌++◌, map, Some, refl, sym, ap, ◌∙◌, subst}
use Rattle.std.specs.Prelude.{slice_get}
use Rattle.std.specs.List.{AllByRecursion, IsDistinct}
use Rattle.m2_fabric.specs.declared.socket.SocketId.{SocketId}
use Rattle.m2_fabric.specs.End.{SeenEnd}
use Rattle.m2_fabric.specs.Sockets.{is_among, same_socket}
use Rattle.m2_bytes_fit.proofs.Lists.{nil_not}
use Rattle.m2_history.specs.Woven.{BytesNow, EndNow, RowNow, bytes_at, end_of, row_in, row_now, rows_of}
use Rattle.m2_journal.specs.declared.entry.Entry.{Entry}
use Rattle.m2_record.specs.RecordNow.{ids_of}
use Rattle.m2_record.specs.Sources.{log_at}
use Rattle.m2_weave.specs.Counting.{place_in}
use Rattle.m2_weave.specs.declared.table.SocketBytes.{SocketBytes}
use Rattle.m2_weave.specs.Strands.{has_opened, journal_of, same_side}
use Rattle.m2_weave.specs.Table.{bytes_of, got_at, names_of, put_at}
use Rattle.m2_history.specs.WovenLink.{same_end}
use Rattle.m2_bytes.proofs.m2_lemmas.Booleans.{from_false_true}
use Rattle.m2_fabric.proofs.Sockets.{same_equal, same_refl, same_turned}
use Rattle.m2_bytes.proofs.m2_lemmas.Lists.{cons_same}

-- ---- one of a list

abbrev pub IsOf : {X : Type 0} → X → List X → Type 0
IsOf x [] = ⊥
IsOf x (y ∷ ys) = (y ≡ x) ⊎ IsOf x ys

pub of_left : {X : Type 0} (x : X) (xs ys : List X) → IsOf x xs → IsOf x (xs ++ ys)
of_left x [] ys h = absurd h
of_left x (y ∷ xs) ys (inl e) = inl e
of_left x (y ∷ xs) ys (inr h) = inr (of_left x xs ys h)

pub of_right : {X : Type 0} (x : X) (xs ys : List X) → IsOf x ys → IsOf x (xs ++ ys)
of_right x [] ys h = h
of_right x (y ∷ xs) ys h = inr (of_right x xs ys h)

pub all_is : {X : Type 0} (P : X → Type 0) (x : X) (xs : List X) → AllByRecursion P xs → IsOf x xs → P x
all_is P x [] all h = absurd h
all_is P x (y ∷ xs) all (inl e) = subst P e all.0
all_is P x (y ∷ xs) all (inr h) = all_is P x xs all.1 h

-- ---- a row

-- what an end has got and put in a row of the table
abbrev pub in_row : RowNow → Bool → BytesNow
in_row r true = r.opener
in_row r false = r.acceptor

row_got : (s : SocketBytes) (o : Bool) → got_at (Some s) o ≡ (in_row (row_now s) o).got
row_got s true = refl
row_got s false = refl

row_put : (s : SocketBytes) (o : Bool) → put_at (Some s) o ≡ (in_row (row_now s) o).put
row_put s true = refl
row_put s false = refl

pub row_of : (all : List EndNow) (e : EndNow) (o : Bool) → in_row (row_in all e) o ≡ bytes_at e.socket o all
row_of all e true = refl
row_of all e false = refl

-- of a socket that one of these ends has
abbrev Told : List SocketBytes → List EndNow → SocketId → Bool → Type 0
Told sockets all k o =
    (got_at (slice_get sockets (place_in (names_of sockets) k)) o ≡ (bytes_at k o all).got)
    × (put_at (slice_get sockets (place_in (names_of sockets) k)) o ≡ (bytes_at k o all).put)

told_at : (all : List EndNow) (es : List EndNow) (sockets : List SocketBytes) (k : SocketId) (o : Bool) → map row_now sockets ≡ map (row_in all) es → is_among k (map (λ (e : EndNow). e.socket) es) ≡ true →
    Told sockets all k o
told_at all [] sockets k o e h = from_false_true h
told_at all (x ∷ es) [] k o e h = nil_not e
told_at all (x ∷ es) (s ∷ sockets) k o e h =
    let both = cons_same (row_now s) (row_in all x) (map row_now sockets) (map (row_in all) es) e in
    at both.0 (same_socket k x.socket) refl (told_at all es sockets k o both.1)
  where
    at : row_now s ≡ row_in all x → (b : Bool) → same_socket k x.socket ≡ b → (is_among k (map (λ (e : EndNow). e.socket) es) ≡ true → Told sockets all k o) → Told (s ∷ sockets) all k o
    at row true q later =
        let named : s.socket ≡ x.socket = ap (λ (r : RowNow). r.socket) row in
        let here : same_socket k s.socket ≡ true = ap (same_socket k) named ∙ q in
        let bytes : in_row (row_now s) o ≡ bytes_at k o all =
        ap (λ r. in_row r o) row ∙ row_of all x o ∙ ap (λ j. bytes_at j o all) (sym (same_equal k x.socket q)) in (
          ap (λ b. got_at (slice_get (s ∷ sockets) (if b then 0 else suc (place_in (names_of sockets) k))) o) here ∙ row_got s o ∙ ap (λ (b : BytesNow). b.got) bytes,
          ap (λ b. put_at (slice_get (s ∷ sockets) (if b then 0 else suc (place_in (names_of sockets) k))) o) here ∙ row_put s o ∙ ap (λ (b : BytesNow). b.put) bytes,
        )
    at row false q later =
        let named : s.socket ≡ x.socket = ap (λ (r : RowNow). r.socket) row in
        let there : same_socket k s.socket ≡ false = ap (same_socket k) named ∙ q in
        let rest = later (sym (ap (λ b. b || is_among k (map (λ (e : EndNow). e.socket) es)) q) ∙ h) in (
          ap (λ b. got_at (slice_get (s ∷ sockets) (if b then 0 else suc (place_in (names_of sockets) k))) o) there ∙ rest.0,
          ap (λ b. put_at (slice_get (s ∷ sockets) (if b then 0 else suc (place_in (names_of sockets) k))) o) there ∙ rest.1,
        )

-- ---- an end

pub same_side_refl : (b : Bool) → same_side b b ≡ true
same_side_refl true = refl
same_side_refl false = refl

pub same_side_turned : (a b : Bool) → same_side a b ≡ same_side b a
same_side_turned true true = refl
same_side_turned true false = refl
same_side_turned false true = refl
same_side_turned false false = refl

pub same_end_turned : (d e : EndNow) → same_end d e ≡ same_end e d
same_end_turned d e = ap (λ b. b && same_side d.opener e.opener) (same_turned d.socket e.socket) ∙ ap (λ b. same_socket e.socket d.socket && b) (same_side_turned d.opener e.opener)

pub own_end : (e : EndNow) → same_end e e ≡ true
own_end e = ap (λ b. b && same_side e.opener e.opener) (same_refl e.socket) ∙ same_side_refl e.opener

its_bytes : (e : EndNow) (ends : List EndNow) → IsDistinct same_end ends → IsOf e ends → bytes_at e.socket e.opener ends ≡ record { got = e.got; put = e.put }
unfolding IsDistinct
its_bytes e [] d h = absurd h
its_bytes e (x ∷ ends) d (inl q) =
    let here : same_end e x ≡ true = ap (same_end e) q ∙ own_end e in
    ap (λ b. if b then record { got = x.got; put = x.put } else bytes_at e.socket e.opener ends) here ∙ ap (λ (y : EndNow). record { got = y.got; put = y.put }) q
its_bytes e (x ∷ ends) d (inr h) =
    let there : same_end e x ≡ false = same_end_turned e x ∙ all_is (λ y. same_end x y ≡ false) e ends d.0 h in
    ap (λ b. if b then record { got = x.got; put = x.put } else bytes_at e.socket e.opener ends) there ∙ its_bytes e ends d.1 h

its_socket : (e : EndNow) (ends : List EndNow) → IsOf e ends → is_among e.socket (map (λ (x : EndNow). x.socket) ends) ≡ true
its_socket e [] h = absurd h
its_socket e (x ∷ ends) (inl q) = ap (λ b. b || is_among e.socket (map (λ (y : EndNow). y.socket) ends)) (ap (λ (y : EndNow). same_socket e.socket y.socket) q ∙ same_refl e.socket)
its_socket e (x ∷ ends) (inr h) = at (same_socket e.socket x.socket) (its_socket e ends h)
  where
    at : (b : Bool) → is_among e.socket (map (λ (y : EndNow). y.socket) ends) ≡ true → b || is_among e.socket (map (λ (y : EndNow). y.socket) ends) ≡ true
    at true g = refl
    at false g = g

pub record HasBytes (sockets : List SocketBytes) (k : SocketId) (opener : Bool) (all_got all_put : List ℕ) : Type 0 where
  pub got : (bytes_of sockets).got (record { socket = k; opener = opener }) ≡ all_got
  pub put : (bytes_of sockets).put (record { socket = k; opener = opener }) ≡ all_put

pub bytes_there : (ends : List EndNow) (sockets : List SocketBytes) (e : EndNow) → IsDistinct same_end ends → map row_now sockets ≡ rows_of ends → IsOf e ends → HasBytes sockets e.socket e.opener e.got e.put
bytes_there ends sockets e d rows h =
    let told = told_at ends ends sockets e.socket e.opener rows (its_socket e ends h) in
    let bytes = its_bytes e ends d h in
    record { got = told.0 ∙ ap (λ (b : BytesNow). b.got) bytes; put = told.1 ∙ ap (λ (b : BytesNow). b.put) bytes }

-- ---- the end of a side

pub record HasEnd (journal : List Entry) (ends : List SeenEnd) (k : SocketId) : Type 0 where
  pub end : EndNow
  pub there : IsOf end (map (end_of journal) ends)
  pub socket : end.socket ≡ k
  pub opener : end.opener ≡ has_opened (journal_of journal) k
  pub got : end.got ≡ (log_at ends k).got
  pub put : end.put ≡ (log_at ends k).put

pub end_there : (journal : List Entry) (ends : List SeenEnd) (k : SocketId) → is_among k (ids_of ends) ≡ true → HasEnd journal ends k
end_there journal [] k h = from_false_true h
end_there journal (e ∷ ends) k h = at (same_socket k e.id) refl (end_there journal ends k)
  where
    at : (b : Bool) → same_socket k e.id ≡ b → (is_among k (ids_of ends) ≡ true → HasEnd journal ends k) → HasEnd journal (e ∷ ends) k
    at true q later = record {
      end = end_of journal e;
      there = inl refl;
      socket = sym (same_equal k e.id q);
      opener = ap (has_opened (journal_of journal)) (sym (same_equal k e.id q));
      got = rw q refl;
      put = rw q refl;
    }
    at false q later =
        let rest = later (sym (ap (λ b. b || is_among k (ids_of ends)) q) ∙ h) in
        record {
          end = rest.end;
          there = inr rest.there;
          socket = rest.socket;
          opener = rest.opener;
          got = rest.got ∙ (rw q refl);
          put = rest.put ∙ (rw q refl);
        }
