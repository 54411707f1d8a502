-- The bytes of a link's ends as a table of sockets, so that an order of all that was done is one by them.
use Rattle.std.proofs.Common.{◌≡◌, ℕ, true, false, List, [], ◌∷◌, map, refl, ap, subst}
use Rattle.std.specs.Borrow.{Bor}
use Rattle.m2_links_go_on.specs.m2_history.Woven.{BytesNow, EndNow, bytes_at, ends_of, row_in, row_now}
use Rattle.m2_links_go_on.specs.Sides.{woven_now}
use Rattle.m2_links_go_on.proofs.Tables.{table_is_woven}
use Rattle.m2_links_go_on.specs.m2_weave.TurnLaws.{HasOrder}
use Rattle.m2_links_go_on.specs.m2_weave.declared.table.EndBytes.{EndBytes}
use Rattle.m2_links_go_on.specs.m2_weave.declared.table.SocketBytes.{SocketBytes}
use Rattle.m2_links_go_on.specs.m2_weave.Stops.{IsWoven}
use Rattle.m2_links_go_on.specs.m2_history.WovenLink.{IsOrderOf, LinkNow}

abbrev lent : List ℕ → Bor (List ℕ)
lent xs = record { ref_ptr = (0, 0); now = xs }

abbrev lent_end : BytesNow → EndBytes
lent_end b = record { got = lent b.got; put = lent b.put }

abbrev row_for : List EndNow → EndNow → SocketBytes
row_for all e = record { socket = e.socket; opener = lent_end (bytes_at e.socket true all); acceptor = lent_end (bytes_at e.socket false all) }

rows_are : (all es : List EndNow) → map row_now (map (row_for all) es) ≡ map (row_in all) es
rows_are all [] = refl
rows_are all (e ∷ es) = ap (λ rows. row_in all e ∷ rows) (rows_are all es)

abbrev table_of : List EndNow → List SocketBytes
table_of all = map (row_for all) all

pub order_is : (l : LinkNow) (o : HasOrder (woven_now l.both)) → IsOrderOf l o.0
order_is l o = record {
  sockets = table_of (ends_of l.both);
  rows = rows_are (ends_of l.both) (ends_of l.both);
  woven = subst (λ w. IsWoven w o.0) (table_is_woven l.both (table_of (ends_of l.both)) (rows_are (ends_of l.both) (ends_of l.both))) o.1;
}
