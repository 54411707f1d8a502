use Rattle.std.proofs.Common.{sym, ap, ◌∙◌}
use Rattle.std.specs.List.{flat_map}
use Rattle.std.specs.Option.{option_map}
use Rattle.m2_fabric.specs.End.{SeenEnd}
use Rattle.m2_fabric.specs.Log.{log_of}
use Rattle.m2_record.specs.RecordNow.{RecordNow, ends_of}
use Rattle.m2_record.specs.Sources.{end_at}
use Rattle.m2_turn.proofs.Lending.{first_part, second_part}
use Rattle.std.proofs.Common.{List}
use Rattle.m2_center.proofs.record_ends.+record_log.Goals as goal

pub returns-in-Some-log_of_record : goal.returns-in-Some-log_of_record
returns-in-Some-log_of_record g t c =
    first_part (ends_of c.in-Some.first.now) (flat_map ends_of c.in-Some.rest.now) c.args.id.now (log_of c.in-Some-log_of_record.log.now) c.in-Some-log_of_record.ensures
    ∙ sym (ap (λ (l : List RecordNow). option_map (λ (e : SeenEnd). e.log) (end_at (flat_map ends_of l) c.args.id.now)) c.in-Some.ensures.cases.0)

pub returns-in-None-log_of_record : goal.returns-in-None-log_of_record
returns-in-None-log_of_record g t c =
    c.record_log.ensures
    ∙ second_part (ends_of c.in-Some.first.now) (flat_map ends_of c.in-Some.rest.now) c.args.id.now c.in-None-log_of_record.ensures
    ∙ sym (ap (λ (l : List RecordNow). option_map (λ (e : SeenEnd). e.log) (end_at (flat_map ends_of l) c.args.id.now)) c.in-Some.ensures.cases.0)
