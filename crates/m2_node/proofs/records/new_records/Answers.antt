-- One link more.
use Rattle.std.proofs.Common.{◌+◌, ◌++◌, List, drop, map, sym, ap, ◌∙◌, append_assoc, arith}
use Rattle.std.proofs.lemmas.List.{append-nil}
use Rattle.std.specs.Option.{option_map, option_to_list}
use Rattle.m2_script.specs.m2_record.RecordNow.{RecordNow}
use Rattle.m2_scenario.specs.declared.link.Link.{Link}
use Rattle.m2_script.specs.Made.{other_of, over, records_of, roomless}
use Rattle.m2_script.proofs.Splits.{next_links, none_past}
use Rattle.m2_node.specs.Homes.{at_home}
use Rattle.m2_node.proofs.NewRecords.{maybe_mapped, new_one, next_at_home}
use Rattle.m2_node.proofs.records.new_records.Goals as goal

pub loop-link-init : goal.loop-link-init
loop-link-init g c = record {
  so_far = ap (λ rs. map roomless rs ++ map new_one (at_home c.args.nodes.now c.args.home.now.centers c.args.home.now.center (records_of c.args.nodes.now c.args.links.now c.args.number c.args.word)))
      c.in_ok-records.ensures.none;
  room = omega (arith, c.in_ok-records.ensures.room);
}

pub loop-link-preserved : goal.loop-link-preserved
loop-link-preserved g c =
    let l = c.loop-link in
    let nodes = c.args.nodes.now in
    let links = c.args.links.now in
    let centers = c.args.home.now.centers in
    let j = c.args.home.now.center in
    let f = λ (x : Link). option_to_list (over nodes c.args.number c.args.word (other_of c.args.number x)) in
    let old : List RecordNow = map roomless l.records.items in
    let left : List RecordNow = records_of nodes (drop (l.link-index + 1) links) c.args.number c.args.word in
    let rest : List RecordNow = map new_one (at_home nodes centers j left) in
    record {
      so_far =
          ap (λ (rs : List RecordNow). rs ++ rest) c.add.ensures.items
          ∙ append_assoc old (option_to_list (option_map roomless c.record_at_home.result)) rest
          ∙ ap (λ (rs : List RecordNow). old ++ (rs ++ rest)) (maybe_mapped roomless c.record_at_home.result ∙ c.record_at_home.ensures)
          ∙ ap (λ (rs : List RecordNow). old ++ rs) (next_at_home nodes centers j _ left)
          ∙ ap (λ (rs : List RecordNow). old ++ map new_one (at_home nodes centers j rs)) (sym (next_links f links l.link-index c.loop-link-test.true))
          ∙ l.invariant.so_far;
      room = omega (arith, l.invariant.room, c.add.ensures.room);
    }

pub returns : goal.returns
returns g c =
    let l = c.loop-link in
    let old : List RecordNow = map roomless l.records.items in
    sym (append-nil old)
    ∙ ap (λ (ls : List Link). old ++ map new_one (at_home c.args.nodes.now c.args.home.now.centers c.args.home.now.center (records_of c.args.nodes.now ls c.args.number c.args.word)))
    (sym (none_past c.args.links.now l.link-index c.loop-link-test.false))
    ∙ l.invariant.so_far
