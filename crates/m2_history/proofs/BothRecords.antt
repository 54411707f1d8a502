-- Two records woven: no strand waits for what is nowhere.
use Rattle.std.proofs.Common.{◌≡◌, ℕ, ◌+◌, ◌<◌, List, [], ◌∷◌, ◌++◌, length, map, take, Some, None, Result, Err, refl, sym, ap, ◌∙◌, subst}
use Rattle.std.specs.Prelude.{slice_index_or}
use Rattle.std.specs.List.{AllByRecursion}
use Rattle.std.proofs.lemmas.List.{take_more}
use Rattle.m2_record.specs.IsRecord.{IsRecord}
use Rattle.m2_record.specs.RecordNow.{RecordNow}
use Rattle.m2_trail.specs.Arrivals.{LooseNow}
use Rattle.m2_weave.specs.declared.table.SocketBytes.{SocketBytes}
use Rattle.m2_weave.specs.declared.unfit.Unfit.{Unfit}
use Rattle.m2_weave.specs.Counting.{AreNamed}
use Rattle.m2_weave.specs.Table.{bytes_of, names_of}
use Rattle.m2_weave.specs.Tidy.{TidyStopsAreReads}
use Rattle.m2_history.specs.declared.history.History.{History}
use Rattle.m2_history.specs.declared.history.PartsFault.{PartsFault}
use Rattle.m2_history.specs.declared.history.PartsFault.TheVariants as part
use Rattle.m2_history.specs.declared.history.WeaveFault.TheVariants as fault
use Rattle.m2_history.specs.Link.{AreKept, AreOfLink, IsWholeHalf, RecordsAreKept, StrandsAreTidy, WeavesRecords, both_of, parts_of}
use Rattle.m2_history.specs.Parts.{PartsNow}
use Rattle.m2_history.specs.Woven.{BothNow, EndNow, RowNow, Weaves, ends_of, row_in, row_now, rows_of, strands_of}
use Rattle.m2_bytes.proofs.m2_lemmas.Lists.{all_append}

-- ---- the halves

pub whole_more : (ls : List LooseNow) (n : ℕ) (l : LooseNow) → n < length ls → l ≡ slice_index_or ls n l → AllByRecursion IsWholeHalf (take n ls) → IsWholeHalf l → AllByRecursion IsWholeHalf (take (n + 1) ls)
whole_more ls n l h is before this =
    subst (AllByRecursion IsWholeHalf) (ap (λ x. take n ls ++ x ∷ []) is ∙ sym (take_more ls n l h)) (all_append IsWholeHalf (take n ls) (l ∷ []) before (this, tt))

-- ---- the names of the sockets

of-rows : (sockets : List SocketBytes) → names_of sockets ≡ map (λ (r : RowNow). r.socket) (map row_now sockets)
of-rows [] = refl
of-rows (s ∷ sockets) = ap (λ l. s.socket ∷ l) (of-rows sockets)

of-ends : (all es : List EndNow) → map (λ (r : RowNow). r.socket) (map (row_in all) es) ≡ map (λ (e : EndNow). e.socket) es
of-ends all [] = refl
of-ends all (e ∷ es) = ap (λ l. e.socket ∷ l) (of-ends all es)

names-are : (sockets : List SocketBytes) (ends : List EndNow) → map row_now sockets ≡ rows_of ends → names_of sockets ≡ map (λ (e : EndNow). e.socket) ends
names-are sockets ends rows = of-rows sockets ∙ ap (map (λ (r : RowNow). r.socket)) rows ∙ of-ends ends ends

-- ---- all that is known

pub kept_of : RecordsAreKept → (a b : RecordNow) (loose : List LooseNow) → IsRecord a → IsRecord b → AllByRecursion IsWholeHalf loose → AreOfLink (both_of a b loose) → AreKept (both_of a b loose)
kept_of keep a b loose one two whole link = record { near = keep a one; far = keep b two; whole = whole; link = link }

-- as the parts are lent
pub as_lent : (result : Result History PartsFault) (a b : RecordNow) (loose : List LooseNow) (p q : PartsNow) → p ≡ parts_of a → q ≡ parts_of b →
    Weaves result (record { a = p; b = q; loose = loose }) → Weaves result (both_of a b loose)
as_lent result a b loose p q e f w =
    subst (λ y. Weaves result (record { a = parts_of a; b = y; loose = loose })) f (subst (λ y. Weaves result (record { a = y; b = q; loose = loose })) e w)

module _ (tidy : StrandsAreTidy) (reads : TidyStopsAreReads) (x : BothNow) (kept : AreKept x) where
  pub never_waits : Weaves (Err part.Waits) x → ⊥
  never_waits w =
      let at = reads (record { strands = strands_of x; bytes = bytes_of w.0 }) None (tidy.tidy x (bytes_of w.0) kept) w.2.0 in
      no-byte at.byte at.named
    where
      no-byte : (u : Unfit) → None ≡ Some u → ⊥
      no-byte u e = absurd cc

  pub never_nameless : Weaves (Err part.NoEnd) x → ⊥
  never_nameless w =
      w.2 (subst (λ names. AreNamed names (record { strands = strands_of x; bytes = bytes_of w.0 })) (sym (names-are w.0 (ends_of x) w.1)) (tidy.named x (bytes_of w.0) kept))

  pub stops_so : (u : Unfit) → Weaves (Err (part.Unfit u)) x → WeavesRecords (Err (fault.Unfit u)) x
  stops_so u w = (
    w.0,
    w.1,
    record {
      stop = w.2.0;
      byte = reads (record { strands = strands_of x; bytes = bytes_of w.0 }) (Some u) (tidy.tidy x (bytes_of w.0) kept) w.2.0;
      none = w.2.1;
    },
  )
