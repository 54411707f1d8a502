-- No strand of two records waits for what is nowhere.
use Rattle.std.proofs.Common.{Err, subst}
use Rattle.std.specs.List.{AllByRecursion}
use Rattle.m2_history.specs.declared.history.PartsFault.{PartsFault}
use Rattle.m2_history.specs.Link.{IsWholeHalf, both_of}
use Rattle.m2_history.specs.Woven.{Weaves}
use Rattle.m2_history.proofs.BothRecords.{as_lent, kept_of, never_nameless, never_waits, stops_so}
use Rattle.m2_history.proofs.records.weave_sides.Goals as goal

pub unreachable-requires : goal.unreachable-requires
unreachable-requires g c =
    let a = c.args.a.now.record.now in
    let b = c.args.b.now.record.now in
    let loose = c.args.loose.now.items in
    let whole = subst (AllByRecursion IsWholeHalf) c.as_slice.ensures c.all_whole.ensures in
    let kept = kept_of c.records_are_kept.ensures a b loose c.is_record.ensures c.is_record-2.ensures whole c.requires.link in
    never_waits c.strands_are_tidy.ensures c.tidy_stops_are_reads.ensures (both_of a b loose) kept
    (subst (λ (f : PartsFault). Weaves (Err f) (both_of a b loose)) c.in-Err-Waits.field-0-is
    (as_lent (Err c.in-Err-Waits.field-0) a b loose c.parts.result c.parts-2.result c.parts.ensures c.parts-2.ensures c.in-Err-Waits.ensures))

pub unreachable-requires-in-Err-NoEnd : goal.unreachable-requires-in-Err-NoEnd
unreachable-requires-in-Err-NoEnd g c =
    let a = c.args.a.now.record.now in
    let b = c.args.b.now.record.now in
    let loose = c.args.loose.now.items in
    let whole = subst (AllByRecursion IsWholeHalf) c.as_slice.ensures c.all_whole.ensures in
    let kept = kept_of c.records_are_kept.ensures a b loose c.is_record.ensures c.is_record-2.ensures whole c.requires.link in
    never_nameless c.strands_are_tidy.ensures c.tidy_stops_are_reads.ensures (both_of a b loose) kept
    (subst (λ (f : PartsFault). Weaves (Err f) (both_of a b loose)) c.in-Err-NoEnd.field-0-is
    (as_lent (Err c.in-Err-NoEnd.field-0) a b loose c.parts.result c.parts-2.result c.parts.ensures c.parts-2.ensures c.in-Err-NoEnd.ensures))

pub returns-in-Err-Unfit : goal.returns-in-Err-Unfit
returns-in-Err-Unfit g c =
    let a = c.args.a.now.record.now in
    let b = c.args.b.now.record.now in
    let loose = c.args.loose.now.items in
    let whole = subst (AllByRecursion IsWholeHalf) c.as_slice.ensures c.all_whole.ensures in
    let kept = kept_of c.records_are_kept.ensures a b loose c.is_record.ensures c.is_record-2.ensures whole c.requires.link in
    stops_so c.strands_are_tidy.ensures c.tidy_stops_are_reads.ensures (both_of a b loose) kept c.in-Err-Unfit.unfit
    (subst (λ (f : PartsFault). Weaves (Err f) (both_of a b loose)) c.in-Err-Unfit.field-0-is
    (as_lent (Err c.in-Err-Unfit.field-0) a b loose c.parts.result c.parts-2.result c.parts.ensures c.parts-2.ensures c.in-Err-Unfit.ensures))
