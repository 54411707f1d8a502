-- What the halves of judged asks had got their ends have got still.
use Rattle.std.proofs.Common.{◌≡◌, List, [], ◌∷◌, ◌++◌, length, drop, sym, ap, subst, ◌∙◌}
use Rattle.std.specs.Prelude.{IfSome}
use Rattle.std.specs.List.{AllByRecursion}
use Rattle.std.proofs.Math.Seq.{drop-append_seam}
use Rattle.std.proofs.lemmas.List.Elements.{filter_map-append}
use Rattle.m2_fabric.specs.End.{SeenEnd}
use Rattle.m2_growth.specs.Ends.{EndsGrow}
use Rattle.m2_growth.specs.Halves.{AreAskedByPeers, IsAskedByPeer, judged_since}
use Rattle.m2_growth.specs.Holding.{all_ends}
use Rattle.m2_growth.specs.Records.{RecordGrows, RecordsGrow}
use Rattle.m2_growth.proofs.Asked.{got_on}
use Rattle.m2_fabric.proofs.m2_lemmas.Lists.{all_append, all_so}
use Rattle.m2_weave.specs.m2_journal.declared.entry.Entry.{Entry}
use Rattle.m2_weave.specs.m2_journal.State.{Judgement}
use Rattle.m2_history.specs.m2_record.RecordNow.{RecordNow}
use Rattle.m2_history.specs.m2_record.Sources.{end_at}
use Rattle.m2_history.specs.m2_record.TakenTrails.{judgement_of, judgements_in}
use Rattle.m2_history.specs.m2_trail.Asks.{IsMain}
use Rattle.m2_links_go_on.specs.LeftLaws.{ComingStays}
use Rattle.m2_links_go_on.specs.Left.{AllCameOfPeer, CameOfPeer}

-- one that was judged before
came_on : (xs ys : List SeenEnd) (r s : RecordNow) → EndsGrow xs ys → RecordGrows r s → (j : Judgement) → CameOfPeer xs r j → CameOfPeer ys s j
came_on xs ys r s grow g j c = record {
  arrival = c.arrival;
  arrived = c.arrived;
  socket = c.socket;
  main = subst (λ f. IfSome c.arrival.ask (λ ask. IsMain ask f)) (ap (λ f. f.peer) (sym g.facts)) c.main;
  got = got_on c.arrival.end.log.got (end_at xs j.socket) (end_at ys j.socket) (grow j.socket) c.got;
}

-- one that was judged since
came_since : (xs ys : List SeenEnd) (s : RecordNow) (j : Judgement) → IsAskedByPeer xs ys s j → CameOfPeer ys s j
came_since xs ys s j a = record { arrival = a.arrival; arrived = a.arrived; socket = a.socket; main = a.main; got = a.got }

judged_parts : (r s : RecordNow) → RecordGrows r s → judgements_in s.journal ≡ judgements_in r.journal ++ judged_since r s
judged_parts r s g =
    let more : List Entry = g.journal.0 in
    let since : drop (length r.journal) s.journal ≡ more = ap (drop (length r.journal)) g.journal.1 ∙ drop-append_seam r.journal more in
    ap judgements_in g.journal.1 ∙ filter_map-append judgement_of r.journal more ∙ ap (λ l. judgements_in r.journal ++ judgements_in l) (sym since)

one_stays : (xs ys : List SeenEnd) (r s : RecordNow) → EndsGrow xs ys → RecordGrows r s → AllByRecursion (IsAskedByPeer xs ys s) (judged_since r s) → AllCameOfPeer xs r → AllCameOfPeer ys s
one_stays xs ys r s grow g since was =
    subst (AllByRecursion (CameOfPeer ys s)) (sym (judged_parts r s g))
    (all_append (CameOfPeer ys s) (judgements_in r.journal) (judged_since r s)
    (all_so (CameOfPeer xs r) (CameOfPeer ys s) (came_on xs ys r s grow g) (judgements_in r.journal) was)
    (all_so (IsAskedByPeer xs ys s) (CameOfPeer ys s) (came_since xs ys s) (judged_since r s) since))

all_stay : (xs ys : List SeenEnd) (rs ss : List RecordNow) → EndsGrow xs ys → RecordsGrow rs ss → AreAskedByPeers xs ys rs ss → AllByRecursion (AllCameOfPeer xs) rs → AllByRecursion (AllCameOfPeer ys) ss
all_stay xs ys [] [] grow g asked was = tt
all_stay xs ys [] (s ∷ ss) grow g asked was = absurd g
all_stay xs ys (r ∷ rs) [] grow g asked was = tt
all_stay xs ys (r ∷ rs) (s ∷ ss) grow g asked was = (one_stays xs ys r s grow g.0 asked.0 was.0, all_stay xs ys rs ss grow g.1 asked.1 was.1)

pub coming_stays : ComingStays
coming_stays old new g was = all_stay (all_ends old) (all_ends new) old.records new.records g.grows.ends g.grows.records g.grows.asked was
