-- What weaving gives of two records: an order of a link, so that nothing is reset in it and all is delivered.
use Rattle.std.proofs.Common.{◌≡◌, ℕ, Bool, true, false, List, [], ◌∷◌, map, Result, Ok, Err, refl, sym, ap, ◌∙◌, subst}
use Rattle.std.specs.Prelude.{IfOk}
use Rattle.m2_channel.specs.Observed.{Logs}
use Rattle.m2_history.specs.declared.history.History.{History}
use Rattle.m2_history.specs.declared.history.HistoryStep.{HistoryStep}
use Rattle.m2_history.specs.declared.history.WeaveFault.{WeaveFault}
use Rattle.m2_history.specs.Link.{WeavesRecords, both_of}
use Rattle.m2_history.specs.Steps.{steps_from}
use Rattle.m2_history.specs.Woven.{strands_of}
use Rattle.m2_weave.specs.Order.{Cut, come}
use Rattle.m2_record.specs.IsRecord.{IsRecord}
use Rattle.m2_record.specs.RecordNow.{RecordNow}
use Rattle.m2_trail.specs.Arrivals.{LooseNow}
use Rattle.m2_weave.specs.Stops.{IsWoven}
use Rattle.m2_weave.specs.Table.{bytes_of}
use Rattle.m2_history.specs.Actors.{part_of}
use Rattle.m2_history.specs.WovenLaws.{AreLossless, IsDeliveredIn, IsUnreset, RecordsAreSides, WovenIsDelivered, WovenIsNeverReset, link_of, strands_in}
use Rattle.m2_history.specs.Lossy.{AreOfLossy, IsInOrderIn, WovenComesInOrder}
use Rattle.m2_history.specs.Marked.{AreLosslessNodes, IsToAMarkIn, WovenIsARunToAMark}
use Rattle.m2_history.specs.WovenLink.{AreJoined, IsLink, IsOrderOf, IsSideOf, LinkNow}

pub steps_named : (at : Cut) (order : List ℕ) → map (λ (s : HistoryStep). s.strand) (steps_from at order) ≡ order
steps_named at [] = refl
steps_named at (k ∷ order) = ap (λ (l : List ℕ). k ∷ l) (steps_named (come k at) order)

module _ (a b : RecordNow) (loose : List LooseNow) (sides : RecordsAreSides) (of_a : IsRecord a) (of_b : IsRecord b) where
  abbrev l : LinkNow
  l = link_of a b loose

  link_is : AreJoined l → IsLink l
  link_is joined = record { sides = each; joined = joined }
    where
      each : (near : Bool) → IsSideOf (l.facts near) (l.plans near) (part_of l.both near)
      each true = sides a of_a
      each false = sides b of_b

  order_is : (h : History) → WeavesRecords (Ok h) (both_of a b loose) → IsOrderOf l (strands_in h)
  order_is h w = record {
    sockets = w.0;
    rows = w.1;
    woven = subst (IsWoven (record { strands = strands_of (both_of a b loose); bytes = bytes_of w.0 }))
        (sym (ap (map (λ (s : HistoryStep). s.strand)) w.2.steps ∙ steps_named _ w.2.order)) w.2.woven;
  }

  pub unreset : (result : Result History WeaveFault) → WovenIsNeverReset → WeavesRecords result (both_of a b loose) → IfOk result (IsUnreset l)
  unreset (Ok h) never w = λ (lossless : AreLossless l). (never l (strands_in h) lossless.nodes (link_is lossless.joined) lossless.up (order_is h w)).never_reset
  unreset (Err e) never w = tt

  pub delivered_in : (near_logs far_logs : Logs) (result : Result History WeaveFault) → WovenIsDelivered → WeavesRecords result (both_of a b loose) → IfOk result (IsDeliveredIn l near_logs far_logs)
  delivered_in near_logs far_logs (Ok h) so w = λ (lossless : AreLossless l). so l (strands_in h) near_logs far_logs lossless.nodes (link_is lossless.joined) lossless.up (order_is h w)
  delivered_in near_logs far_logs (Err e) so w = tt

  pub to_a_mark_in : (near_logs far_logs : Logs) (result : Result History WeaveFault) → WovenIsARunToAMark → WeavesRecords result (both_of a b loose) → IfOk result (IsToAMarkIn l near_logs far_logs)
  to_a_mark_in near_logs far_logs (Ok h) so w = λ (both : AreLosslessNodes l). so l (strands_in h) near_logs far_logs both.nodes (link_is both.joined) (order_is h w)
  to_a_mark_in near_logs far_logs (Err e) so w = tt

  pub in_order_in : (near_logs far_logs : Logs) (result : Result History WeaveFault) → WovenComesInOrder → WeavesRecords result (both_of a b loose) → IfOk result (IsInOrderIn l near_logs far_logs)
  in_order_in near_logs far_logs (Ok h) so w = λ (lossy : AreOfLossy l). so l (strands_in h) near_logs far_logs lossy.nodes (link_is lossy.joined) (order_is h w)
  in_order_in near_logs far_logs (Err e) so w = tt
