-- What comes of weaving: an order of all strands, or a stop where no order goes further.
use Rattle.std.proofs.Common.{◌≡◌, ℕ, ◌+◌, Bool, true, false, true≢false, Decides, List, [], ◌∷◌, length, map, Option, Result, Ok, Err, refl, sym, ap, ◌∙◌, subst}
use Rattle.std.proofs.lemmas.List.{length-map, length-set}
use Rattle.std.specs.Prelude.{replicate, slice_index}
use Rattle.m2_weave.specs.Merging.{even}
use Rattle.m2_weave.specs.Order.{IsGreedy, come, come_all, nothing, reached}
use Rattle.m2_weave.proofs.Furthest.{are-lawful}
use Rattle.m2_weave.specs.declared.strand.Strand.{Strand}
use Rattle.m2_weave.specs.declared.table.SocketBytes.{SocketBytes}
use Rattle.m2_weave.specs.declared.unfit.Unfit.{Unfit}
use Rattle.m2_weave.specs.WeaveLaws.{StopIsNoOrder}
use Rattle.m2_weave.specs.Rule.{Woven, by_bytes}
use Rattle.m2_weave.specs.Stops.{IsWoven, StopsAt, first_stop, sizes}
use Rattle.m2_weave.specs.Strands.{StrandNow, strand_now}
use Rattle.m2_weave.specs.Table.{woven_of}
use Rattle.m2_history.specs.declared.history.History.{History}
use Rattle.m2_history.specs.declared.history.PartsFault.{PartsFault}
use Rattle.m2_history.specs.declared.history.PartsFault.TheVariants as fault
use Rattle.m2_history.specs.Steps.{steps_from}
use Rattle.m2_history.specs.Woven.{BothNow, ComesOf, IsHistoryOrFull, Weaves, ends_of, row_now, rows_of, strands_of}

-- what the weaving of the strands found
pub record Found (w : Woven) (order at : List ℕ) (whole : Bool) : Type 0 where
  pub greedy : IsGreedy even (by_bytes w) (sizes w) order
  pub places : at ≡ reached (sizes w) order
  pub decides : Decides whole (at ≡ sizes w)

whole_order : (strands : List Strand) (table rows : List SocketBytes) (order at : List ℕ) (whole : Bool) → table ≡ rows → Found (woven_of strands table) order at whole →
    whole ≡ true → IsWoven (woven_of strands rows) order
whole_order strands table rows order at whole same f all =
    let w : Woven = woven_of strands table in
    subst (λ t. IsWoven (woven_of strands t) order) same
    (record { lawful = are-lawful even (by_bytes w) (sizes w) (nothing (sizes w)) order f.greedy.each; whole = sym f.places ∙ f.decides.0 all })

-- before any entry as many zeros as strands
zeros : (strands : List Strand) → nothing (map (λ (s : StrandNow). length s.items) (map strand_now strands)) ≡ replicate (length strands) 0
zeros [] = refl
zeros (s ∷ strands) = ap (λ l. 0 ∷ l) (zeros strands)

-- the order as a history
pub history_comes : (result : Result History PartsFault) (strands : List Strand) (table rows : List SocketBytes) (order seen at : List ℕ) (count : ℕ) (whole : Bool) → table ≡ rows →
    Found (woven_of strands table) order at whole → whole ≡ true → seen ≡ order → count ≡ length strands → IsHistoryOrFull result (replicate count 0) seen →
    ComesOf result (map strand_now strands) rows
history_comes (Ok h) strands table rows order seen at count whole same f all here n is = record {
  order = order;
  woven = whole_order strands table rows order at whole same f all;
  steps = is ∙ ap (steps_from (replicate count 0)) here ∙ ap (λ c. steps_from c order) (ap (λ m. replicate m 0) n ∙ sym (zeros strands));
}
history_comes (Err fault.NoMemory) strands table rows order seen at count whole same f all here n is = tt
history_comes (Err (fault.Unfit u)) strands table rows order seen at count whole same f all here n is = absurd is
history_comes (Err fault.Waits) strands table rows order seen at count whole same f all here n is = absurd is
history_comes (Err fault.NoEnd) strands table rows order seen at count whole same f all here n is = absurd is

pub no_order : StopIsNoOrder → (strands : List Strand) (table rows : List SocketBytes) (order at : List ℕ) (whole : Bool) (u : Option Unfit) (seen : List ℕ) → table ≡ rows →
    Found (woven_of strands table) order at whole → whole ≡ false → seen ≡ at → u ≡ first_stop (woven_of strands table) seen (map strand_now strands) seen →
    StopsAt (woven_of strands rows) u × ((other : List ℕ) → IsWoven (woven_of strands rows) other → ⊥)
no_order never strands table rows order at whole u seen same f short here byte =
    let w : Woven = woven_of strands table in
    let stop : StopsAt w u = record {
      order = order;
      rank = even;
      greedy = f.greedy;
      short = λ e. true≢false (sym (f.decides.1 (f.places ∙ e)) ∙ short);
      byte = sym (byte ∙ ap (λ c. first_stop w c (map strand_now strands) c) (here ∙ f.places));
    } in
    subst (λ t. StopsAt (woven_of strands t) u × ((other : List ℕ) → IsWoven (woven_of strands t) other → ⊥)) same (stop, λ other o. never w u stop other o)

come_length : (order at : List ℕ) → length (come_all order at) ≡ length at
come_length [] at = refl
come_length (k ∷ ks) at = come_length ks (come k at) ∙ length-set at k (slice_index at k + 1)

-- there are as many places as strands
pub places : (strands : List Strand) (table : List SocketBytes) (order at : List ℕ) (whole : Bool) → Found (woven_of strands table) order at whole → length at ≡ length strands
places strands table order at whole f =
    let w : Woven = woven_of strands table in
    ap length f.places
    ∙ (come_length order (nothing (sizes w))
    ∙ (length-map (sizes w) (λ n. 0)
    ∙ (length-map w.strands (λ (s : StrandNow). length s.items)
    ∙ length-map strands strand_now)))

-- of both sides
pub weaves_of : (result : Result History PartsFault) (x : BothNow) (sockets : List SocketBytes) (strands : List StrandNow) → map row_now sockets ≡ rows_of (ends_of x) →
    strands ≡ strands_of x → ComesOf result strands sockets → Weaves result x
weaves_of (Ok h) x sockets strands rows same c = (sockets, rows, subst (λ ss. ComesOf (Ok h) ss sockets) same c)
weaves_of (Err (fault.Unfit u)) x sockets strands rows same c = (sockets, rows, subst (λ ss. ComesOf (Err (fault.Unfit u)) ss sockets) same c)
weaves_of (Err fault.Waits) x sockets strands rows same c = (sockets, rows, subst (λ ss. ComesOf (Err fault.Waits) ss sockets) same c)
weaves_of (Err fault.NoEnd) x sockets strands rows same c = (sockets, rows, subst (λ ss. ComesOf (Err fault.NoEnd) ss sockets) same c)
weaves_of (Err fault.NoMemory) x sockets strands rows same c = tt
