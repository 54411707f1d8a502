-- A sorted report is the report of the sorted calls, so it is read in one way too.
use Rattle.std.proofs.Common.{◌≡◌, ℕ, true, false, List, [], ◌∷◌, ◌++◌, length, map, get_or, All, refl, sym, ap, ◌∙◌}
use Rattle.std.proofs.lemmas.List.{length-map}
use Rattle.std.proofs.lemmas.List.Elements.{All-nil, All-append, All-filter, All-map}
use Rattle.std.specs.List.{flat_map, range_with_len}
use Rattle.m2_queues.proofs.ByRank.{all-by_rank}
use Rattle.m2_dispatch.specs.Heard.{Heard, is_message_from}
use Rattle.m2_scenario.specs.declared.node.Node.{Node}
use Rattle.m2_scenario.specs.Text.{Word}
use Rattle.m2_scenario.specs.Report.{name_of, node_lines, in_order, sorted_of, rank_of, is_reset_by}
use Rattle.m2_scenario.specs.Printed.{AreReportable, IsReportable, printed_of}
use Rattle.m2_scenario.specs.ReportLaws.{SortedReportsAreReadInOneWay, printed_sorted}
use Rattle.m2_scenario.proofs.HexWords.{HexIsReadAgain}
use Rattle.m2_scenario.proofs.ReadOnce.{report_once}
use Rattle.m2_scenario.proofs.ReportLines.{lines_of}

-- the calls of a node, sorted
abbrev in_sorted_order : ℕ → List Heard → List Heard
in_sorted_order nodes heard = in_order true nodes heard

sorted_lines : (names : List Word) (nodes : List Node) (heard : List (List Heard)) → lines_of true names nodes heard ≡ lines_of false names nodes (map (in_sorted_order (length names)) heard)
sorted_lines names [] heard = refl
sorted_lines names (n ∷ ns) [] = refl
sorted_lines names (n ∷ ns) (h ∷ hs) = ap (λ t. node_lines true names (name_of n) h ++ t) (sorted_lines names ns hs)

-- what holds of each call holds of each that is sorted
sorted_of_all : (P : Heard → Type 0) (heard : List Heard) (peer : ℕ) → All P heard → All P (sorted_of heard peer)
sorted_of_all P heard peer all =
    All-append P _ _ (all-by_rank rank_of P _ (All-filter (is_message_from peer) P heard all)) (All-filter (is_reset_by peer) P heard all)

peers_all : (P : Heard → Type 0) (heard : List Heard) (peers : List ℕ) → All P heard → All P (flat_map (sorted_of heard) peers)
peers_all P heard [] all = All-nil P
peers_all P heard (p ∷ ps) all = All-append P _ _ (sorted_of_all P heard p all) (peers_all P heard ps all)

sorted_fit : (nodes : List Node) (heard : List (List Heard)) → AreReportable nodes heard → AreReportable nodes (map (in_sorted_order (length nodes)) heard)
sorted_fit nodes heard fit =
    let n = length nodes in
    record {
      each = length-map heard (in_sorted_order n) ∙ fit.each;
      calls = All-map (All (IsReportable n)) (in_sorted_order n) heard (λ k d h. peers_all (IsReportable n) (get_or heard k d) (range_with_len 0 n) (fit.calls k d h));
    }

both_mapped : (n : ℕ) (heard : List (List Heard)) → map (map printed_of) (map (in_sorted_order n) heard) ≡ map (printed_sorted n) heard
both_mapped n [] = refl
both_mapped n (h ∷ hs) = ap (λ t. printed_sorted n h ∷ t) (both_mapped n hs)

pub sorted_once : HexIsReadAgain → SortedReportsAreReadInOneWay
sorted_once again nodes one other are fit fit_too e =
    let names = map name_of nodes in
    let n : length names ≡ length nodes = length-map nodes name_of in
    let shown = λ (heard : List (List Heard)). sorted_lines names nodes heard ∙ ap (λ k. lines_of false names nodes (map (in_sorted_order k) heard)) n in
    let read = report_once again nodes (map (in_sorted_order (length nodes)) one) (map (in_sorted_order (length nodes)) other) are (sorted_fit nodes one fit) (sorted_fit nodes other fit_too)
    (sym (shown one) ∙ e ∙ shown other) in
    sym (both_mapped (length nodes) one) ∙ read ∙ both_mapped (length nodes) other
